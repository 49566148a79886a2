-- The first entry from a position on of which something holds, where some are looked at before.
use Rattle.std.proofs.Common.{◌≡◌, ℕ, ◌≤◌, ◌+◌, List, Option, None, Some, IfSome, IfNone}
use Rattle.std.proofs.Common.{subst, sym, ◌∙◌, ap, arith, inl, inr}
use Rattle.std.specs.List.{slice_get}
use Rattle.std.proofs.lemmas.Bool.{cases_lt}
use Rattle.std.proofs.lemmas.Option.{same_Some}
use Rattle.pp_log.specs.Logs.{IsFirstFrom, NoneFrom}
use Rattle.pp_log_shared.proofs.Nexts.{NoneBetween}

module _ {E : Type 0} (Holds : E → Type 0) (log : List E) (from : ℕ) where
  -- it does not hold of the entry at k
  pub none_there : (k : ℕ) (e : E) → slice_get log k ≡ Some e → (Holds e → ⊥) → NoneBetween Holds log from k → NoneBetween Holds log from (k + 1)
  none_there k e is off none j f above below there on = elim (cases_lt j k) [
    | inl before ↦ none j f above before there on
    | inr behind ↦
        let here : j ≡ k = omega arith in
        off (subst Holds (same_Some f e (sym there ∙ ap (λ (i : ℕ). slice_get log i) here ∙ is)) on)
  ]

  -- it does
  pub first_there : (k : ℕ) (e : E) → from ≤ k → slice_get log k ≡ Some e → Holds e → NoneBetween Holds log from k → IsFirstFrom Holds log from k
  first_there k e above is holds none = record {
    entry = e;
    is = is;
    behind = above;
    holds = holds;
    first = none;
  }

  -- what is found behind those that were looked at
  pub first_behind : (at : ℕ) → from ≤ at → NoneBetween Holds log from at → (r : Option ℕ) → IfSome r (IsFirstFrom Holds log at) → IfSome r (IsFirstFrom Holds log from)
  first_behind at above none None next = next
  first_behind at above none (Some k) next =
      let behind = next.behind in
      record {
        entry = next.entry;
        is = next.is;
        behind = omega arith;
        holds = next.holds;
        first = λ j e low high there on. elim (cases_lt j at) [
          | inl before ↦ none j e low before there on
          | inr later ↦ next.first j e later high there on
        ];
      }

  -- and where there is none
  pub none_behind : (at : ℕ) → NoneBetween Holds log from at → (r : Option ℕ) → IfNone r (NoneFrom Holds log at) → IfNone r (NoneFrom Holds log from)
  none_behind at none (Some k) rest = rest
  none_behind at none None rest = λ j e above there on. elim (cases_lt j at) [
    | inl before ↦ none j e above before there on
    | inr later ↦ rest j e later there on
  ]
