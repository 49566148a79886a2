-- Proof machinery: what is in a set after an operation.
use Rattle.std.proofs.Common.{◌≡◌, ℤ, Bool, true, false, cond, ◌↔◌, Option, Some, None, is_some}
use Rattle.std.proofs.Common.{refl, sym, ◌∙◌, ap, int_eq}
use Rattle.std.specs.Ordering.{int_cmp}
use Rattle.std.specs.Cmp.{int_cmp_total}
use Rattle.std.specs.FinSet.{FinSet}
use Rattle.std.specs.FinMap.{empty, get, get-empty, get-insert, get-remove, same_map}
use Rattle.std.specs.FinMap.{int_cmp-IsAntisymmetric}
use Rattle.pp_kind_set.specs.Keys.{contains, insert, remove}
use Rattle.pp_kind_set.specs.Sets.{same_bit}

-- Bits are equal exactly if the test says so.
pub one_bit : (b c : Bool) → (same_bit b c ≡ true) ↔ (b ≡ c)
one_bit true c = ((λ e. sym e), (λ e. sym e))
one_bit false true = ((λ e. cc), (λ e. cc))
one_bit false false = ((λ e. refl), (λ e. refl))

-- The key is in, or not, and every other as before.
bit_put : (here : Bool) (x o : Option (Unit {0}))
    → is_some (cond here x o) ≡ cond here (is_some x) (is_some o)
bit_put true x o = refl
bit_put false x o = refl

-- After a key is inserted, it is in the set, and other keys are as before.
pub inserted_at : (s : FinSet int_cmp) (k q : ℤ)
    → contains (insert s k) q ≡ cond (int_eq q k) true (contains s q)
inserted_at s k q = ap is_some (get-insert int_cmp_total s k tt q)
    ∙ bit_put (int_eq q k) (Some tt) (get s q)

-- After a key is removed, it is not in the set, and other keys are as before.
pub removed_at : (s : FinSet int_cmp) (k q : ℤ)
    → contains (remove s k) q ≡ cond (int_eq q k) false (contains s q)
removed_at s k q = ap is_some (get-remove int_cmp_total s k q) ∙ bit_put (int_eq q k) None (get s q)

-- No key is in the empty set.
pub empty_at : (q : ℤ) → contains empty q ≡ false
empty_at q = ap is_some (get-empty {X = Unit {0}} int_cmp q)

-- Sets with the same keys are one.
same_mark : (o p : Option (Unit {0})) → is_some o ≡ is_some p → o ≡ p
same_mark None None e = refl
same_mark (Some u) (Some v) e = refl
same_mark None (Some v) e = cc
same_mark (Some u) None e = cc

-- Sets with the same keys are equal.
pub one_set : (s t : FinSet int_cmp) → ((q : ℤ) → contains s q ≡ contains t q) → s ≡ t
one_set s t same = same_map int_cmp_total int_cmp-IsAntisymmetric s t
    (λ q. same_mark (get s q) (get t q) (same q))
