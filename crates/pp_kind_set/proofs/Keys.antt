-- Proof machinery: the set that the keys of a tree make.
use Rattle.std.proofs.Common.{◌≡◌, ℤ, Bool, true, false, cond, ◌||◌, List, [], ◌∷◌, Option, Some}
use Rattle.std.proofs.Common.{None, is_some, refl, sym, ◌∙◌, ap, subst}
use Rattle.std.specs.List.{list_any}
use Rattle.std.specs.List.Sorted.{IsStrictlySortedBy}
use Rattle.std.specs.Ordering.{int_cmp}
use Rattle.std.specs.FinSet.{FinSet}
use Rattle.std.specs.BTreeMap.{is_at}
use Rattle.std.specs.Map.{keys_of, lookup}
use Rattle.pp_kind_keyed.proofs.Entries as entries
use Rattle.pp_kind_set.specs.Keys.{contains, insert, remove, members, marked, set_of}

abbrev mark : Bool → Option (Unit {0})
mark true = Some tt
mark false = None

-- Whether a key is among the keys says what is marked there.
marked_by : (here b : Bool) → cond here (mark true) (mark b) ≡ mark (here || b)
marked_by true b = refl
marked_by false b = refl

looked_up : (test : ℤ → Bool) (ks : List ℤ) → lookup test (marked ks) ≡ mark (list_any test ks)
looked_up test [] = refl
looked_up test (k ∷ ks) = ap (cond (test k) (mark true)) (looked_up test ks)
    ∙ marked_by (test k) (list_any test ks)

is_some_mark : (b : Bool) → b ≡ is_some (mark b)
is_some_mark true = refl
is_some_mark false = refl

pushed_in : (here b c : Bool) → mark (cond here c b) ≡ cond here (mark c) (mark b)
pushed_in true b c = refl
pushed_in false b c = refl

-- Keys that differ at one place are marked differently there.
marked_at : (ks ls : List ℤ) (k : ℤ) (c : Bool)
    → ((q : ℤ) → list_any (is_at (int_cmp q)) ls
    ≡ cond (is_at (int_cmp k) q) c (list_any (is_at (int_cmp q)) ks)) → (q : ℤ)
    → lookup (is_at (int_cmp q)) (marked ls)
    ≡ cond (is_at (int_cmp k) q) (mark c) (lookup (is_at (int_cmp q)) (marked ks))
marked_at ks ls k c h q =
    looked_up (is_at (int_cmp q)) ls ∙ ap mark (h q)
    ∙ pushed_in (is_at (int_cmp k) q) (list_any (is_at (int_cmp q)) ks) c
    ∙ ap (cond (is_at (int_cmp k) q) (mark c)) (sym (looked_up (is_at (int_cmp q)) ks))

-- The set as it is seen, at a key as it is stored.
pub contained_seen : (ks : List ℤ) (seen : FinSet int_cmp) (k j : ℤ) (r : Bool) → set_of ks ≡ seen
    → j ≡ k → r ≡ list_any (is_at (int_cmp j)) ks → r ≡ contains seen k
contained_seen ks seen k j r e f h =
    h ∙ is_some_mark (list_any (is_at (int_cmp j)) ks)
    ∙ ap is_some (entries.got_seen (marked ks) seen k j (mark (list_any (is_at (int_cmp j)) ks)) e f
    (sym (looked_up (is_at (int_cmp j)) ks)))

-- Keys with one more key make the set with that key inserted.
pub inserted_seen : (ks ls : List ℤ) (seen : FinSet int_cmp) (k j : ℤ) → set_of ks ≡ seen → j ≡ k
    → ((q : ℤ) → list_any (is_at (int_cmp q)) ls
    ≡ cond (is_at (int_cmp j) q) true (list_any (is_at (int_cmp q)) ks)) → set_of ls ≡ insert seen k
inserted_seen ks ls seen k j e f h =
    entries.inserted_seen (marked ks) (marked ls) seen k j tt tt e f refl (marked_at ks ls j true h)

-- Keys without a key make the set from which the key is removed.
pub removed_seen : (ks ls : List ℤ) (seen : FinSet int_cmp) (k j : ℤ) → set_of ks ≡ seen → j ≡ k
    → ((q : ℤ) → list_any (is_at (int_cmp q)) ls
    ≡ cond (is_at (int_cmp j) q) false (list_any (is_at (int_cmp q)) ks))
    → set_of ls ≡ remove seen k
removed_seen ks ls seen k j e f h =
    entries.removed_seen (marked ks) (marked ls) seen k j e f (marked_at ks ls j false h)

-- Ascending keys are the members of the set that they make.
keys_marked : (ks : List ℤ) → keys_of (marked ks) ≡ ks
keys_marked [] = refl
keys_marked (k ∷ ks) = ap (λ (l : List ℤ). k ∷ l) (keys_marked ks)

-- Ascending keys are the members of the set that they make.
pub members_seen : (ks : List ℤ) (seen : FinSet int_cmp) → set_of ks ≡ seen
    → IsStrictlySortedBy int_cmp ks → ks ≡ members seen
members_seen ks seen e h =
    sym (keys_marked ks) ∙ ap keys_of
    (entries.entries_seen (marked ks) seen e
    (subst (IsStrictlySortedBy int_cmp) (sym (keys_marked ks)) h))
