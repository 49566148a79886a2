-- What a transaction takes over of an object, by the positions of the entries that it may lack.
use Rattle.std.proofs.Common.{◌≡◌, ◌≢◌, ◌⊎◌, ◌≤◌, ◌<◌, ◌+◌, ◌==◌, ◌&&◌, ℕ, zero, suc, Bool, true, false, not}
use Rattle.std.proofs.Common.{List, [], ◌∷◌, ◌++◌, length, map, take, None, Some, refl, sym, ap}
use Rattle.std.proofs.Common.{subst, ◌∙◌, arith, inl, inr, if◌then◌else◌, get_or, position}
use Rattle.std.proofs.Common.{IsSorted, nat_cmp}
use Rattle.std.specs.List.{Contains, slice_get}
use Rattle.std.proofs.Math.Bool.{or-false}
use Rattle.std.proofs.lemmas.Bool.{cases_lt, eq-eqb, eqb-true}
use Rattle.std.proofs.lemmas.List.{get_or_default}
use Rattle.std.proofs.lemmas.List.Elements.{Contains-append_left, Contains-push}
use Rattle.std.proofs.lemmas.List.Sorted.{IsNonDecreasingBy-from_sort}
use Rattle.std.proofs.lemmas.Option.{same_Some}
use Rattle.pp_core.specs.Steps.{Step, Pull}
use Rattle.pp_core.specs.declared.entry.LocalEntry.{LocalEntry}
use Rattle.pp_core.specs.declared.entry.SharedEntry.{SharedEntry}
use Rattle.pp_records.specs.Expansions.{follow, is_followed, stands_in}
use Rattle.pp_model.specs.Config.{shared_item}
use Rattle.pp_model.specs.Names.{Name}
use Rattle.pp_model.specs.Object.{HasDistinctIds}
use Rattle.pp_model.proofs.Finding.{find_nowhere, place_none, placed, stands_in as is_in}
use Rattle.pp_model.proofs.Lists.{in_cases, in_map}
use Rattle.pp_styles.specs.Knowing.{HoldsPositions, HoldsWanted, IsAllBut, IsFollowedBut}
use Rattle.pp_styles.specs.Pulling.{pull_on}
use Rattle.pp_styles.proofs.Growing.{chosen-found, chosen-rest}

-- ---- positions

same_place : {Op : Type 0} (G : List (SharedEntry Op)) → HasDistinctIds (map shared_item G) → (q k : ℕ) (a b : SharedEntry Op) → slice_get G q ≡ Some a → slice_get G k ≡ Some b → a.id ≡ b.id → q ≡ k
same_place [] d q k a b at_q at_k same = absurd (cc)
same_place (e ∷ G) d zero zero a b at_q at_k same = refl
same_place {Op} (e ∷ G) d zero (suc k) a b at_q at_k same =
    absurd (d (shared_item e) (shared_item b) (inl (refl, in_map shared_item b G (is_in G k b at_k)))
    (ap (λ (w : SharedEntry Op). w.id) (same_Some e a at_q) ∙ same))
same_place {Op} (e ∷ G) d (suc q) zero a b at_q at_k same =
    absurd (d (shared_item e) (shared_item a) (inl (refl, in_map shared_item a G (is_in G q a at_q)))
    (ap (λ (w : SharedEntry Op). w.id) (same_Some e b at_k) ∙ sym same))
same_place (e ∷ G) d (suc q) (suc k) a b at_q at_k same = ap suc (same_place G (λ p r i. d p r (inr i)) q k a b at_q at_k same)

module _ {Op : Type 0} (G : List (SharedEntry Op)) (d : HasDistinctIds (map shared_item G)) where
  -- an id that is found
  pub one_position : (id q k : ℕ) (g : SharedEntry Op) → position (λ e. e.id == id) G ≡ Some q → slice_get G k ≡ Some g → g.id ≡ id → q ≡ k
  one_position id q k g found here same =
      let r = placed (λ (e : SharedEntry Op). e.id == id) G q found in
      same_place G d q k r.0 g r.1 here (eqb-true (r.0).id id r.2 ∙ sym same)

  -- If an id has no position in the shared log, no entry there has it.
  pub no_position : (id k : ℕ) (g : SharedEntry Op) → position (λ e. e.id == id) G ≡ None → slice_get G k ≡ Some g → g.id ≡ id → ⊥
  no_position id k g none here same =
      no (sym (eq-eqb g.id id same) ∙ find_nowhere (λ (e : SharedEntry Op). e.id == id) G (place_none (λ (e : SharedEntry Op). e.id == id) G none) g (is_in G k g here))
    where
      no : true ≡ false → ⊥
      no e = cc

  -- one id more
  pub with_position : (ids at : List ℕ) (id q : ℕ) → HoldsPositions ids G at → position (λ e. e.id == id) G ≡ Some q → HoldsPositions (ids ++ id ∷ []) G (at ++ q ∷ [])
  with_position ids at id q h found k g here i = elim (in_cases g.id ids (id ∷ []) i) [
    | inl old ↦ Contains-append_left at (q ∷ []) k (h k g here old)
    | inr (inl same) ↦ subst (λ (n : ℕ). Contains (at ++ q ∷ []) n) (one_position id q k g found here same) (Contains-push at q)
    | inr (inr none) ↦ absurd none
  ]

  -- The positions of ids are those of one more id, if this one is not in the shared log.
  pub without_position : (ids at : List ℕ) (id : ℕ) → HoldsPositions ids G at → position (λ e. e.id == id) G ≡ None → HoldsPositions (ids ++ id ∷ []) G at
  without_position ids at id h none k g here i = elim (in_cases g.id ids (id ∷ []) i) [
    | inl old ↦ h k g here old
    | inr (inl same) ↦ absurd (no_position id k g none here same)
    | inr (inr none) ↦ absurd none
  ]

-- ---- pulls

-- A boolean that is not true is false.
pub not_true : (b : Bool) → (b ≡ true → ⊥) → b ≡ false
not_true true off = absurd (off refl)
not_true false off = refl

parts : (b c r : Bool) → ((b && c) && not r) ≡ true → (b ≡ true) × (c ≡ true) × (r ≡ false)
parts true true false h = (refl, refl, refl)
parts true true true h = absurd (cc)
parts true false r h = absurd (let no : false ≡ true = h in cc)
parts false c r h = absurd (let no : false ≡ true = h in cc)

split : {A : Type 0} (b c r : Bool) (xs : List A) → (if ((b && c) && not r) then xs else []) ≡ (if c then (if b then (if r then [] else xs) else []) else [])
split true true true xs = refl
split true true false xs = refl
split true false r xs = refl
split false true r xs = refl
split false false r xs = refl

module _ {Op : Type 0} (place : Op → ℕ) (t : Name) (o : ℕ) (sources : List Name) (G : List (SharedEntry Op)) (l : List (LocalEntry Op)) where
  -- what is wanted of the shared log
  abbrev pub wanted : SharedEntry Op → Bool
  wanted g = (is_followed sources g && (place g.op == o)) && not (stands_in l g.id)

  -- Of the shared log the entries before a position are done, and the other wanted ones are at one
  -- of these positions from a place on.
  pub record Left (at : List ℕ) (i from : ℕ) : Type 0 where
    pub within : from ≤ length G
    pub left : (k : ℕ) (g : SharedEntry Op) → from ≤ k → slice_get G k ≡ Some g → wanted g ≡ true →
        (j : ℕ) × (i ≤ j) × (j < length at) × (get_or at j k ≡ k)

  -- At first all wanted entries are at one of the positions, from the first on.
  pub all_left : (at : List ℕ) → HoldsWanted place o sources G l at → Left at 0 0
  all_left at h =
      record {
        within = omega arith;
        left = λ k g above here want.
            let p = parts (is_followed sources g) (place g.op == o) (stands_in l g.id) want in
            let r = h k g here p.0 (eqb-true (place g.op) o p.1) p.2 in
            (r.0, omega arith, r.1, r.2);
      }

  module _ (at : List ℕ) (i from next : ℕ) (is_next : next ≡ i + 1) (below : i < length at) (h : Left at i from) (p : ℕ) (is_p : p ≡ get_or at i p) where
    -- a wanted entry that is not at the next position is at a later one
    later : (j k : ℕ) → i ≤ j → get_or at j k ≡ k → k ≢ p → next ≤ j
    later j k above is off = elim (same_or j above) [
      | inl same ↦ absurd (off (sym is ∙ ap (λ (n : ℕ). get_or at n k) same ∙ get_or_default at i k p below ∙ sym is_p))
      | inr more ↦ more
    ]
      where
        same_or : (j : ℕ) → i ≤ j → (j ≡ i) ⊎ (next ≤ j)
        same_or j above = elim (cases_lt i j) [ inl more ↦ inr (omega arith) | inr less ↦ inl (omega arith) ]

    -- the next position is passed over
    pub passed : ((k : ℕ) (g : SharedEntry Op) → from ≤ k → slice_get G k ≡ Some g → k ≢ p) → Left at next from
    passed other =
        record {
          within = h.within;
          left = λ k g above here want.
              let r = h.left k g above here want in
              (r.0, later r.0 k r.1 r.3 (other k g above here), r.2, r.3);
        }

    -- none is wanted before it
    pub none_before : IsSorted nat_cmp at → (k : ℕ) (g : SharedEntry Op) → from ≤ k → k < p → slice_get G k ≡ Some g → wanted g ≡ false
    none_before up k g above less here = not_true (wanted g) (λ want.
        let r = h.left k g above here want in
        let grows = IsNonDecreasingBy-from_sort (λ (n : ℕ). n) at up i r.0 k r.1 r.2 in
        let low : p ≤ k = subst (λ (n : ℕ). n ≤ k) (get_or_default at i k p below ∙ sym is_p) (subst (λ (n : ℕ). get_or at i k ≤ n) r.3 grows) in
        omega arith)

    -- it is taken
    pub taken_here : p < length G → from ≤ p → Left at next (p + 1)
    taken_here size above =
        record {
          within = omega arith;
          left = λ k g beyond here want.
              let r = h.left k g (omega arith) here want in
              (r.0, later r.0 k r.1 r.3 (λ same. omega arith), r.2, r.3);
        }

    -- To take the wanted entry at the next position adds its PULL to the steps.
    pub pulls_here : IsSorted nat_cmp at → from ≤ p → (g : SharedEntry Op) → slice_get G p ≡ Some g →
        follow place t o sources (take (p + 1) G) l ≡ follow place t o sources (take from G) l ++ pull_on place o sources l t g
    pulls_here up above g here =
        ap (λ (n : ℕ). follow place t o sources (take n G) l) one_more
        ∙ chosen-found (λ (e : SharedEntry Op). Pull t e.id) wanted G from p g above here (λ k e from_on less there. none_before up k e from_on less there)
        ∙ ap (λ (w : List (Step Op)). follow place t o sources (take from G) l ++ w) (split (is_followed sources g) (place g.op == o) (stands_in l g.id) (Pull t g.id ∷ []))
      where
        one_more : p + 1 ≡ suc p
        one_more = omega arith

  -- all positions are passed
  pub all_taken : (at : List ℕ) (i from : ℕ) → length at ≤ i → Left at i from → follow place t o sources (take from G) l ≡ follow place t o sources G l
  all_taken at i from past h =
      chosen-rest (λ (e : SharedEntry Op). Pull t e.id) wanted G from h.within (λ k g above here. not_true (wanted g) (λ want.
      let r = h.left k g above here want in
      let low = r.1 in
      let size = r.2 in
      omega arith))

  -- what is told to be wanted is at the positions of its ids
  pub wanted_at : (ids at : List ℕ) → IsFollowedBut place o sources G l ids → HoldsPositions ids G at → HoldsWanted place o sources G l at
  wanted_at ids at all h k g here followed on missing = h k g here (all g (is_in G k g here) followed on missing)

  -- no id, no pull
  pub none_wanted : IsFollowedBut place o sources G l [] → [] ≡ follow place t o sources G l
  none_wanted all =
      all_taken [] 0 0 (omega arith) (all_left [] (λ k g here followed on missing. absurd (all g (is_in G k g here) followed on missing)))

  -- If no id is listed as wanted, no entry is pulled.
  pub none_told : (ids : List ℕ) → true ≡ (length ids == 0) → IsFollowedBut place o sources G l ids → [] ≡ follow place t o sources G l
  none_told [] empty all = none_wanted all
  none_told (id ∷ ids) empty all =
      let none : length (id ∷ ids) ≡ 0 = eqb-true (length (id ∷ ids)) 0 (sym empty) in
      absurd (omega arith)

-- without a source, only committed entries are followed
pub committed_alone : {Op : Type 0} (place : Op → ℕ) (o : ℕ) (G : List (SharedEntry Op)) (l : List (LocalEntry Op)) (ids : List ℕ) → IsAllBut place o G l ids → IsFollowedBut place o [] G l ids
committed_alone place o G l ids all g i followed on missing = all g i (sym (or-false g.committed) ∙ followed) on missing
