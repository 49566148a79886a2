-- Proof machinery: what a write leaves at each address.
use Rattle.std.proofs.Common.{◌≡◌, ◌≢◌, ℤ, pos, Bool, true, false, cond, if◌then◌else◌, Option}
use Rattle.std.proofs.Common.{Some, None, unwrap_or, refl, sym, ◌∙◌, ap, int_eq, arith}
use Rattle.std.proofs.lemmas.Int.{ints}
use Rattle.std.specs.Ordering.{int_cmp}
use Rattle.std.specs.Cmp.{int_cmp_total}
use Rattle.std.specs.FinMap.{FinMap, empty, insert, remove, get, get-empty, get-insert, get-remove}
use Rattle.std.specs.FinMap.{same_map, int_cmp-IsAntisymmetric}
use Rattle.pp_kind_memory.specs.Values.{value_at, written, HasNoZero}

kept_at : (zero : Bool) (m : FinMap int_cmp ℤ) (a v q : ℤ) → int_eq v (pos 0) ≡ zero
    → get (written m a v) q ≡ cond (int_eq q a) (cond zero None (Some v)) (get m q)
kept_at true m a v q e = ap (λ (b : Bool). get (if b then remove m a else insert m a v) q) e
    ∙ get-remove int_cmp_total m a q
kept_at false m a v q e = ap (λ (b : Bool). get (if b then remove m a else insert m a v) q) e
    ∙ get-insert int_cmp_total m a v q

value_by : (zero here : Bool) (v : ℤ) (o : Option ℤ) → int_eq v (pos 0) ≡ zero
    → unwrap_or (cond here (cond zero None (Some v)) o) (pos 0) ≡ cond here v (unwrap_or o (pos 0))
value_by true true v o e = grind (arith, ints)
value_by true false v o e = refl
value_by false true v o e = refl
value_by false false v o e = refl

-- The written number at its address, and at every other what was there.
pub written_at : (m : FinMap int_cmp ℤ) (a v q : ℤ)
    → value_at (written m a v) q ≡ cond (int_eq q a) v (value_at m q)
written_at m a v q =
    ap (λ (o : Option ℤ). unwrap_or o (pos 0)) (kept_at (int_eq v (pos 0)) m a v q refl)
    ∙ value_by (int_eq v (pos 0)) (int_eq q a) v (get m q) refl

no_zero_by : (zero here : Bool) (v : ℤ) (o : Option ℤ) → int_eq v (pos 0) ≡ zero → o ≢ Some (pos 0)
    → cond here (cond zero None (Some v)) o ≢ Some (pos 0)
no_zero_by true true v o e h k = cc
no_zero_by true false v o e h k = h k
no_zero_by false true v o e h k = let s : v ≡ pos 0 = cc in grind (arith, ints)
no_zero_by false false v o e h k = h k

-- A memory that stores no zero stores none after a write.
pub written_has_no_zero : (m : FinMap int_cmp ℤ) (a v : ℤ) → HasNoZero m → HasNoZero (written m a v)
written_has_no_zero m a v h q k =
    no_zero_by (int_eq v (pos 0)) (int_eq q a) v (get m q) refl (h q)
    (sym (kept_at (int_eq v (pos 0)) m a v q refl) ∙ k)

-- The empty memory stores no zero.
pub empty_has_no_zero : HasNoZero empty
empty_has_no_zero q k = let e = get-empty {X = ℤ} int_cmp q in cc

-- The empty memory has 0 at each address.
pub empty_at : (q : ℤ) → value_at empty q ≡ pos 0
empty_at q = ap (λ (o : Option ℤ). unwrap_or o (pos 0)) (get-empty {X = ℤ} int_cmp q)

-- Memories with one number at each address are one.
same_option : (o p : Option ℤ) → o ≢ Some (pos 0) → p ≢ Some (pos 0)
    → unwrap_or o (pos 0) ≡ unwrap_or p (pos 0) → o ≡ p
same_option None None h k e = refl
same_option (Some v) (Some w) h k e = ap Some e
same_option None (Some w) h k e = absurd (k (ap Some (sym e)))
same_option (Some v) None h k e = absurd (h (ap Some e))

-- Memories that store no zero and have the same number at each address are equal.
pub one_memory : (m n : FinMap int_cmp ℤ) → HasNoZero m → HasNoZero n
    → ((q : ℤ) → value_at m q ≡ value_at n q) → m ≡ n
one_memory m n h k e = same_map int_cmp_total int_cmp-IsAntisymmetric m n
    (λ q. same_option (get m q) (get n q) (h q) (k q) (e q))
