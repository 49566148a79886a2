-- The next committed entry of a place, from one entry of the place to the next.
use Rattle.std.proofs.Common.{◌≡◌, ℕ, ◌<◌, ◌≤◌, ◌+◌, ◌-◌, true, false, List, length, get_or, sym}
use Rattle.std.proofs.Common.{◌∙◌, ap, arith, inl, inr, Some}
use Rattle.std.specs.List.{slice_get}
use Rattle.std.proofs.lemmas.Bool.{cases_lt}
use Rattle.std.proofs.lemmas.Option.{slice_get-get_or, slice_get_within}
use Rattle.pp_core.specs.declared.entry.SharedEntry.{SharedEntry}
use Rattle.pp_model.specs.Config.{shared_item}
use Rattle.pp_log.specs.Logs.{IsFirstFrom, IsOn, NoneFrom}
use Rattle.pp_log_shared.specs.Committing.{IsCommittedOn}

-- It is true for no entry from a position on and before another.
abbrev pub NoneBetween : {E : Type 0} → (E → Type 0) → List E → ℕ → ℕ → Type 0
NoneBetween {E} Holds log from to =
    (j : ℕ) (e : E) → from ≤ j → j < to → slice_get log j ≡ Some e → Holds e → ⊥

-- The element that was read at a position of a list is the one there.
pub read : {E : Type 0} (x y : List E) (k : ℕ) (e : E) → x ≡ y → k < length y → e ≡ get_or x k e → slice_get y k ≡ Some e
read {E} x y k e same size is = slice_get-get_or y k e size ∙ ap Some (sym (is ∙ ap (λ (z : List E). get_or z k e) same))

module _ {Op : Type 0} (place_of : Op → ℕ) (place : ℕ) (log : List (SharedEntry Op)) where
  -- No committed entry of the place is between a position and itself.
  pub none_yet : (from : ℕ) → NoneBetween (IsCommittedOn place_of place) log from from
  none_yet from j e above below at on = absurd (omega arith)

  -- An entry of the place is in the log.
  pub within : (at k : ℕ) → IsFirstFrom (IsOn place_of shared_item place) log at k → k < length log
  within at k next = slice_get_within log k next.entry next.is

  -- From the entry after the found one on, fewer entries are left to search.
  pub smaller : (at k : ℕ) → IsFirstFrom (IsOn place_of shared_item place) log at k → length log - (k + 1) < length log - at
  smaller at k next = let size = within at k next in let behind = next.behind in omega arith

  -- the entry at k is not committed
  pub none_there : (from at k : ℕ) (e : SharedEntry Op) → NoneBetween (IsCommittedOn place_of place) log from at → IsFirstFrom (IsOn place_of shared_item place) log at k → slice_get log k ≡ Some e → e.committed ≡ false → NoneBetween (IsCommittedOn place_of place) log from (k + 1)
  none_there from at k e none next is free j f above below there on = elim (cases_lt j at) [
    | inl before ↦ none j f above before there on
    | inr behind ↦ elim (cases_lt j k) [
      | inl first ↦ next.first j f behind first there on.0
      | inr last ↦
          let here : j ≡ k = omega arith in
          let both : Some f ≡ Some e = sym there ∙ ap (λ (i : ℕ). slice_get log i) here ∙ is in
          let same : f ≡ e = cc in
          let no : true ≡ false = sym on.1 ∙ ap (λ (g : SharedEntry Op). g.committed) same ∙ free in cc
    ]
  ]

  -- it is
  pub first_there : (from at k : ℕ) (e : SharedEntry Op) → from ≤ at → NoneBetween (IsCommittedOn place_of place) log from at → IsFirstFrom (IsOn place_of shared_item place) log at k → slice_get log k ≡ Some e → e.committed ≡ true → IsFirstFrom (IsCommittedOn place_of place) log from k
  first_there from at k e above none next is committed =
      let behind = next.behind in
      let both : Some next.entry ≡ Some e = sym next.is ∙ is in
      let same : next.entry ≡ e = cc in
      record {
        entry = next.entry;
        is = next.is;
        behind = omega arith;
        holds = (next.holds, ap (λ (g : SharedEntry Op). g.committed) same ∙ committed);
        first = λ j f low high there on. elim (cases_lt j at) [
          | inl before ↦ none j f low before there on
          | inr later ↦ next.first j f later high there on.0
        ];
      }

  -- all entries were passed
  pub none_past : (from at : ℕ) → NoneBetween (IsCommittedOn place_of place) log from at → length log ≤ at → NoneFrom (IsCommittedOn place_of place) log from
  none_past from at none past j f above there on = let size = slice_get_within log j f there in none j f above (omega arith) there on

  -- there is no further entry of the place
  pub none_at_all : (from at : ℕ) → NoneBetween (IsCommittedOn place_of place) log from at → NoneFrom (IsOn place_of shared_item place) log at → NoneFrom (IsCommittedOn place_of place) log from
  none_at_all from at none rest j f above there on = elim (cases_lt j at) [
    | inl before ↦ none j f above before there on
    | inr later ↦ rest j f later there on.0
  ]
