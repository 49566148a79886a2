-- Proof machinery: the map that the entries of a tree make.
use Rattle.std.proofs.Common.{◌≡◌, ℤ, int_eq, Bool, true, false, not, T, ◌&&◌, subst, cond, List, [], ◌∷◌}
use Rattle.std.proofs.Common.{Option, Some, None, refl, sym, ◌∙◌, ap}
use Rattle.std.specs.declared.cmp.Ordering.{Ordering}
use Rattle.std.specs.declared.cmp.Ordering.TheVariants.{Less}
use Rattle.std.specs.Ordering.{is_lt, int_cmp}
use Rattle.std.specs.Cmp.{int_cmp_total, eq_by_cmp_equiv}
use Rattle.std.specs.FinMap.{FinMap, find, is_sorted, entries, from_entries, from_sorted}
use Rattle.std.specs.FinMap.{entries-from_sorted, get-from_sorted, insert, remove, get}
use Rattle.std.specs.FinMap.{get-from_entries, get-insert, get-remove, same_map}
use Rattle.std.specs.FinMap.{int_cmp-IsAntisymmetric}
use Rattle.std.specs.FinMap.Entries.{below_all}
use Rattle.std.specs.List.{AllByRecursion}
use Rattle.std.specs.List.Sorted.{IsStrictlySortedBy}
use Rattle.std.specs.BTreeMap.{is_at}
use Rattle.std.specs.Map.{keys_of, lookup, set_value}
use Rattle.std.specs.Option.{option_eq}
use Rattle.std.proofs.lemmas.Map.Steps.{set_value_same}
use Rattle.pp_kind_keyed.proofs.Rule.{same_key, key_is}

both : (a b : Bool) → T a → T b → T (a && b)
both true b p q = q
both false b p q = p

-- Finding a key in entries is looking it up in their map.
found : {X : Type 0} (es : List (ℤ × X)) (q : ℤ) → find int_cmp q es ≡ lookup (is_at (int_cmp q)) es
found [] q = refl
found (e ∷ es) q = ap (cond (is_at (int_cmp q) e.0) (Some e.1)) (found es q)

got : {X : Type 0} (es : List (ℤ × X)) (q : ℤ)
    → get (from_entries {R = int_cmp} es) q ≡ lookup (is_at (int_cmp q)) es
got es q = get-from_entries int_cmp_total es q ∙ found es q

-- Entries that differ at one key make maps that differ there.
inserted : {X : Type 0} (es fs : List (ℤ × X)) (k : ℤ) (v : X)
    → ((q : ℤ) → lookup (is_at (int_cmp q)) fs
    ≡ cond (is_at (int_cmp k) q) (Some v) (lookup (is_at (int_cmp q)) es))
    → from_entries {R = int_cmp} fs ≡ insert (from_entries es) k v
inserted es fs k v h = same_map int_cmp_total int_cmp-IsAntisymmetric _ _ (λ q.
    got fs q ∙ h q ∙ ap (λ b. cond b (Some v) (lookup (is_at (int_cmp q)) es))
    ((eq_by_cmp_equiv int_cmp_total).symm k q)
    ∙ sym (get-insert int_cmp_total (from_entries es) k v q
    ∙ ap (cond (is_at (int_cmp q) k) (Some v)) (got es q)))

removed : {X : Type 0} (es fs : List (ℤ × X)) (k : ℤ)
    → ((q : ℤ) → lookup (is_at (int_cmp q)) fs
    ≡ cond (is_at (int_cmp k) q) None (lookup (is_at (int_cmp q)) es))
    → from_entries {R = int_cmp} fs ≡ remove (from_entries es) k
removed es fs k h = same_map int_cmp_total int_cmp-IsAntisymmetric _ _ (λ q.
    got fs q ∙ h q ∙ ap (λ b. cond b None (lookup (is_at (int_cmp q)) es))
    ((eq_by_cmp_equiv int_cmp_total).symm k q)
    ∙ sym (get-remove int_cmp_total (from_entries es) k q
    ∙ ap (cond (is_at (int_cmp q) k) None) (got es q)))

-- The same for the map as it is seen, with a key and a number as they are stored.
pub got_seen : {X : Type 0} (es : List (ℤ × X)) (seen : FinMap int_cmp X) (k j : ℤ) (r : Option X)
    → from_entries es ≡ seen → j ≡ k → r ≡ lookup (is_at (int_cmp j)) es → r ≡ get seen k
got_seen {X} es seen k j r e f h =
    h ∙ sym (got es j) ∙ ap (λ (m : FinMap int_cmp X). get m j) e ∙ ap (get seen) f

-- Entries with another value at a key make the map with that value inserted.
pub inserted_seen : {X : Type 0} (es fs : List (ℤ × X)) (seen : FinMap int_cmp X) (k j : ℤ)
    (v w : X) → from_entries es ≡ seen → j ≡ k → w ≡ v
    → ((q : ℤ) → lookup (is_at (int_cmp q)) fs
    ≡ cond (is_at (int_cmp j) q) (Some w) (lookup (is_at (int_cmp q)) es))
    → from_entries {R = int_cmp} fs ≡ insert seen k v
inserted_seen {X} es fs seen k j v w e f g h =
    inserted es fs j w h ∙ ap (λ (m : FinMap int_cmp X). insert m j w) e
    ∙ ap (λ (q : ℤ). insert seen q w) f ∙ ap (insert seen k) g

-- Entries without a key make the map from which the key is removed.
pub removed_seen : {X : Type 0} (es fs : List (ℤ × X)) (seen : FinMap int_cmp X) (k j : ℤ)
    → from_entries es ≡ seen → j ≡ k
    → ((q : ℤ) → lookup (is_at (int_cmp q)) fs
    ≡ cond (is_at (int_cmp j) q) None (lookup (is_at (int_cmp q)) es))
    → from_entries {R = int_cmp} fs ≡ remove seen k
removed_seen {X} es fs seen k j e f h =
    removed es fs j h ∙ ap (λ (m : FinMap int_cmp X). remove m j) e ∙ ap (remove seen) f

-- Writing back what was found changes nothing.
pub kept_seen : {X : Type 0} (es fs : List (ℤ × X)) (seen : FinMap int_cmp X) (j : ℤ) (v : X)
    → from_entries es ≡ seen → Some v ≡ lookup (is_at (int_cmp j)) es
    → fs ≡ set_value (is_at (int_cmp j)) es v → from_entries {R = int_cmp} fs ≡ seen
kept_seen es fs seen j v e r h =
    ap (λ gs. from_entries {R = int_cmp} gs) (h ∙ set_value_same (is_at (int_cmp j)) es v (sym r)) ∙ e

-- If a test finds a difference, the number that was found is not the required one.
pub is_other : (was : Option ℤ) (n : ℤ) → true ≡ not (option_eq int_eq was (Some n))
    → was ≡ Some n → ⊥
is_other None n e h = cc
is_other (Some m) n e h = differs (int_eq m n) e (key_is m n cc)
  where
    differs : (b : Bool) → true ≡ not b → b ≡ true → ⊥
    differs true e f = cc
    differs false e f = cc

-- If a test finds no difference, the number that was found is the required one.
pub is_asked : (was : Option ℤ) (n : ℤ) → false ≡ not (option_eq int_eq was (Some n))
    → was ≡ Some n
is_asked None n e = cc
is_asked (Some m) n e = ap Some (same_key m n (alike (int_eq m n) e))
  where
    alike : (b : Bool) → false ≡ not b → b ≡ true
    alike true e = refl
    alike false e = cc

-- A key less than all keys of some entries is below all of them.
below : {X : Type 0} (k : ℤ) (es : List (ℤ × X))
    → AllByRecursion (λ (q : ℤ). int_cmp k q ≡ Less) (keys_of es) → T (below_all int_cmp k es)
below k [] h = tt
below k (e ∷ es) h = both (is_lt (int_cmp k e.0)) (below_all int_cmp k es)
    (subst (λ (o : Ordering). T (is_lt o)) (sym h.0) tt) (below k es h.1)

sorted : {X : Type 0} (es : List (ℤ × X)) → IsStrictlySortedBy int_cmp (keys_of es)
    → T (is_sorted int_cmp es)
unfolding IsStrictlySortedBy
sorted [] h = tt
sorted (e ∷ es) h = both (below_all int_cmp e.0 es) (is_sorted int_cmp es) (below e.0 es h.0)
    (sorted es h.1)

-- Entries with ascending keys are the entries of the map that they make.
pub entries_seen : {X : Type 0} (es : List (ℤ × X)) (seen : FinMap int_cmp X)
    → from_entries es ≡ seen → IsStrictlySortedBy int_cmp (keys_of es) → es ≡ entries seen
entries_seen {X} es seen e h =
    let one : from_entries {R = int_cmp} es ≡ from_sorted es =
    same_map int_cmp_total int_cmp-IsAntisymmetric _ _
    (λ q. get-from_entries int_cmp_total es q
    ∙ sym (get-from_sorted int_cmp es q (sorted es h))) in
    sym (entries-from_sorted int_cmp es (sorted es h)) ∙ ap entries (sym one ∙ e)
