-- Lookups in lists of places with counts, and how they change with one more place or with another count.
use Rattle.std.specs.Prelude.{◌≡◌, ◌≢◌, ◌<◌, ◌≤◌, ◌+◌, ℕ, zero, suc, Bool, true, false, cond, nat_eq, List, [], ◌∷◌, ◌++◌, drop, take, length, slice_get, None, Some, IsSome}
use Rattle.std.specs.List.{insert}
use Rattle.std.specs.Map.{keys_of, lookup, set_value}
use Rattle.std.proofs.Common.{refl, sym, ap, subst, ◌∙◌, arith, get_or, set}
use Rattle.std.proofs.lemmas.Bool.{eqb-true, eq-eqb, ne_eqb}
use Rattle.std.proofs.lemmas.Cmp.{nat_eq_equiv}
use Rattle.std.proofs.lemmas.List.{take-append-drop}
use Rattle.std.proofs.lemmas.Map.{lookup-insert, lookup-set_value, none_passes_from_lookup}
use Rattle.std.proofs.lemmas.Option.{get_or_from_slice_get, same_Some, slice_get-get_or}
use mathlib.Core.Logic.{inl, inr}
use Rattle.pp_model.specs.Lists.{Before, In}
use Rattle.pp_model.proofs.Lists.{before_cases}
use Rattle.pp_summary.specs.Seen.{HaveOwnPlaces, IsFirst, seen_total}
use Rattle.pp_summary.proofs.Items.{take_next}

keys_set : (place n : ℕ) (entries : List (ℕ × ℕ)) → keys_of (set_value (nat_eq place) entries n) ≡ keys_of entries
keys_set place n [] = refl
keys_set place n (e ∷ entries) = by (nat_eq place e.0) (keys_set place n entries)
  where
    by : (b : Bool) → keys_of (set_value (nat_eq place) entries n) ≡ keys_of entries → keys_of (cond b ((e.0, n) ∷ entries) (e ∷ set_value (nat_eq place) entries n)) ≡ e.0 ∷ keys_of entries
    by true h = refl
    by false h = ap (λ (l : List ℕ). e.0 ∷ l) h

keys_more : (entries : List (ℕ × ℕ)) (e : ℕ × ℕ) → keys_of (entries ++ e ∷ []) ≡ keys_of entries ++ e.0 ∷ []
keys_more [] e = refl
keys_more (x ∷ entries) e = ap (λ (l : List ℕ). x.0 ∷ l) (keys_more entries e)

no_key : (place : ℕ) (entries : List (ℕ × ℕ)) → lookup (nat_eq place) entries ≡ None → In place (keys_of entries) → ⊥
no_key place [] none i = i
no_key place (e ∷ entries) none (inl h) =
    let z : Some e.1 ≡ None = sym (ap (λ (b : Bool). cond b (Some e.1) (lookup (nat_eq place) entries)) (eq-eqb place e.0 h)) ∙ none in cc
no_key place (e ∷ entries) none (inr i) = by (nat_eq place e.0) none (λ h. no_key place entries h i)
  where
    by : (b : Bool) → cond b (Some e.1) (lookup (nat_eq place) entries) ≡ None → (lookup (nat_eq place) entries ≡ None → ⊥) → ⊥
    by true h _ = (let z : Some e.1 ≡ None = h in cc)
    by false h then = then h

-- A new place is no other one.
pub own_places_more : (place count : ℕ) (entries : List (ℕ × ℕ)) → lookup (nat_eq place) entries ≡ None → HaveOwnPlaces entries → HaveOwnPlaces (entries ++ (place, count) ∷ [])
own_places_more place count entries none own =
    subst (λ (l : List ℕ). (p q : ℕ) → Before p q l → p ≢ q) (sym (keys_more entries (place, count)))
    (λ p q b. elim (before_cases p q (keys_of entries) (place ∷ []) b) [
      | inl i ↦ own p q i
      | inr (inl (inl i)) ↦ absurd i.1
      | inr (inl (inr i)) ↦ absurd i
      | inr (inr (i, inl h)) ↦ λ s. no_key place entries none (subst (λ (n : ℕ). In n (keys_of entries)) (s ∙ h) i)
      | inr (inr (i, inr h)) ↦ absurd h
    ])

-- If a lookup finds nothing in the first part of a list, the rest decides.
pub lookup_behind : (test : ℕ → Bool) (front rest : List (ℕ × ℕ)) → lookup test front ≡ None → lookup test (front ++ rest) ≡ lookup test rest
lookup_behind test [] rest none = refl
lookup_behind test (e ∷ front) rest none = by (test e.0) none (λ h. lookup_behind test front rest h)
  where
    by : (b : Bool) → cond b (Some e.1) (lookup test front) ≡ None → (lookup test front ≡ None → lookup test (front ++ rest) ≡ lookup test rest) →
        cond b (Some e.1) (lookup test (front ++ rest)) ≡ lookup test rest
    by true h _ = absurd (cc)
    by false h then = then h

-- A lookup that finds nothing in the first k entries, and an entry of another place next, finds nothing in the first k + 1.
pub lookup_next : (place : ℕ) (entries : List (ℕ × ℕ)) (k : ℕ) → k < length entries → ((get_or entries k (0, 0)).0 ≡ place → ⊥) →
    lookup (nat_eq place) (take k entries) ≡ None → lookup (nat_eq place) (take (k + 1) entries) ≡ None
lookup_next place entries k within other none =
    let e = get_or entries k (0, 0) in
    ap (λ (l : List (ℕ × ℕ)). lookup (nat_eq place) l) (take_next entries k e within (sym (get_or_from_slice_get entries k e e (slice_get-get_or entries k (0, 0) within))))
    ∙ lookup_behind (nat_eq place) (take k entries) (e ∷ []) none
    ∙ ap (λ (b : Bool). cond b (Some e.1) None) (ne_eqb place e.0 (λ same. other (sym same)))

insert_last : (entries : List (ℕ × ℕ)) (e : ℕ × ℕ) → insert entries (length entries) e ≡ entries ++ e ∷ []
insert_last [] e = refl
insert_last (x ∷ entries) e = ap (λ (l : List (ℕ × ℕ)). x ∷ l) (insert_last entries e)

-- A lookup after one more place was added at the end.
pub lookup_more : (place count : ℕ) (entries : List (ℕ × ℕ)) → lookup (nat_eq place) entries ≡ None → (q : ℕ) → lookup (nat_eq q) (entries ++ (place, count) ∷ []) ≡ cond (nat_eq place q) (Some count) (lookup (nat_eq q) entries)
lookup_more place count entries none q =
    ap (λ (l : List (ℕ × ℕ)). lookup (nat_eq q) l) (sym (insert_last entries (place, count)))
    ∙ lookup-insert nat_eq_equiv place count q entries (length entries) (none_passes_from_lookup (nat_eq place) entries none)

-- The first entry of a place is the one that a lookup finds, and that gets another count.
first_is : (place n : ℕ) (entries : List (ℕ × ℕ)) (k count : ℕ) → slice_get entries k ≡ Some (place, count) → lookup (nat_eq place) (take k entries) ≡ None →
    (lookup (nat_eq place) entries ≡ Some count) × (set entries k (place, n) ≡ set_value (nat_eq place) entries n)
first_is place n [] k count here before = absurd (cc)
first_is place n (e ∷ entries) zero count here before =
    let same = same_Some e (place, count) here in
    let at : e.0 ≡ place = ap (λ (p : ℕ × ℕ). p.0) same in
    let found : nat_eq place e.0 ≡ true = eq-eqb place e.0 (sym at) in (
      ap (λ (b : Bool). cond b (Some e.1) (lookup (nat_eq place) entries)) found ∙ ap (λ (p : ℕ × ℕ). Some p.1) same,
      ap (λ (m : ℕ). (m, n) ∷ entries) (sym at) ∙ ap (λ (b : Bool). cond b ((e.0, n) ∷ entries) (e ∷ set_value (nat_eq place) entries n)) (sym found),
    )
first_is place n (e ∷ entries) (suc k) count here before = by (nat_eq place e.0) before (λ h. first_is place n entries k count here h)
  where
    by : (b : Bool) → cond b (Some e.1) (lookup (nat_eq place) (take k entries)) ≡ None →
        (lookup (nat_eq place) (take k entries) ≡ None → (lookup (nat_eq place) entries ≡ Some count) × (set entries k (place, n) ≡ set_value (nat_eq place) entries n)) →
        (cond b (Some e.1) (lookup (nat_eq place) entries) ≡ Some count) × (e ∷ set entries k (place, n) ≡ cond b ((e.0, n) ∷ entries) (e ∷ set_value (nat_eq place) entries n))
    by true h _ = absurd (cc)
    by false h then =
        let rest = then h in
        (rest.0, ap (λ (l : List (ℕ × ℕ)). e ∷ l) rest.1)

-- Another count of a place changes no place.
pub own_places_set : (place count : ℕ) (entries : List (ℕ × ℕ)) (k : ℕ) → IsFirst place entries k → HaveOwnPlaces entries → HaveOwnPlaces (set entries k (place, count))
own_places_set place count entries k first own =
    let is = first_is place count entries k first.count first.here first.before in
    subst (λ (l : List ℕ). (p q : ℕ) → Before p q l → p ≢ q) (sym (ap (λ (l : List (ℕ × ℕ)). keys_of l) is.1 ∙ keys_set place count entries)) own

-- The count in the first entry of a place is the count that a lookup of the place finds.
pub lookup_read : (place : ℕ) (entries : List (ℕ × ℕ)) (k : ℕ) (e : ℕ × ℕ) → IsFirst place entries k → e ≡ get_or entries k e → Some e.1 ≡ lookup (nat_eq place) entries
lookup_read place entries k e first is =
    ap (λ (p : ℕ × ℕ). Some p.1) (is ∙ get_or_from_slice_get entries k (place, first.count) e first.here)
    ∙ sym (first_is place 0 entries k first.count first.here first.before).0

-- A lookup after the first entry of a place got another count.
pub lookup_other_count : (place count : ℕ) (entries : List (ℕ × ℕ)) (k : ℕ) → IsFirst place entries k → (q : ℕ) → lookup (nat_eq q) (set entries k (place, count)) ≡ cond (nat_eq place q) (Some count) (lookup (nat_eq q) entries)
lookup_other_count place count entries k first q =
    let is = first_is place count entries k first.count first.here first.before in
    ap (λ (l : List (ℕ × ℕ)). lookup (nat_eq q) l) is.1
    ∙ lookup-set_value nat_eq_equiv (nat_eq place) (λ x y h. ap (λ (z : ℕ). nat_eq z y) (eqb-true place x h)) q count entries (subst (λ s. IsSome s) (sym is.0) refl)

-- The counts together, one entry after another.
pub total_append : (k l : List (ℕ × ℕ)) → seen_total (k ++ l) ≡ seen_total k + seen_total l
total_append [] l = omega arith
total_append (e ∷ k) l = let h = total_append k l in omega arith

-- The counts up to the next place are those before it, and the count of this place.
pub total_next : (entries : List (ℕ × ℕ)) (k : ℕ) → k < length entries → seen_total (take (k + 1) entries) ≡ seen_total (take k entries) + (get_or entries k (0, 0)).1
total_next entries k within =
    let e = get_or entries k (0, 0) in
    ap (λ (l : List (ℕ × ℕ)). seen_total l) (take_next entries k e within (sym (get_or_from_slice_get entries k e e (slice_get-get_or entries k (0, 0) within))))
    ∙ total_append (take k entries) (e ∷ [])
    ∙ (let z : seen_total (take k entries) + (e.1 + 0) ≡ seen_total (take k entries) + e.1 = omega arith in z)

-- The first entries have at most the counts of all.
pub total_taken : (k : ℕ) (entries : List (ℕ × ℕ)) → seen_total (take k entries) ≤ seen_total entries
total_taken k entries =
    let h : seen_total entries ≡ seen_total (take k entries) + seen_total (drop k entries) = ap (λ (l : List (ℕ × ℕ)). seen_total l) (sym (take-append-drop k entries)) ∙ total_append (take k entries) (drop k entries) in
    omega arith
