-- What is found by the summary is the first step of the record that violates a criterion.
use Rattle.std.proofs.Common.{◌≡◌, ℕ, suc, List, take, None, Some}
use Rattle.std.proofs.Common.{sym, ap, subst, ◌∙◌}
use Rattle.std.proofs.lemmas.Option.{same_Some}
use Rattle.pp_core.specs.declared.call.Style.TheVariants.{Optimistic}
use Rattle.pp_kind.specs.Object.{IsLawful, IsPlaced, Object, rules_of}
use Rattle.pp_kind.proofs.Places.{tells_states}
use Rattle.pp_model.specs.Config.{Step, after_from}
use Rattle.pp_model.specs.Object as model
use Rattle.pp_records.specs.Expansions.{IsOfStyle, expand}
use Rattle.pp_records.specs.Fronts.{Front}
use Rattle.pp_records.specs.Records.{RunRecord}
use Rattle.pp_records.specs.Runs.{Standing}
use Rattle.pp_machine.specs.declared.detail.Detail.{Detail}
use Rattle.pp_machine.specs.Evidence.{at_number, evidence}
use Rattle.pp_laws_evidence.specs.Details.{FailsAt, record_details}
use Rattle.pp_laws_evidence.proofs.Runs.{has_evidence}
use Rattle.pp_laws_summary.specs.Failures.{record_asks}
use Rattle.pp_laws_summary.specs.Summary.{Summary}
use Rattle.pp_laws_summary.proofs.Asks.{Matches}
use Rattle.pp_laws_summary.proofs.Failures.{record_match}
use Rattle.pp_laws_summary.proofs.Placed.{parts_of}
use Rattle.pp_snapshots.specs.Held.{IsTakenOf}
use Rattle.pp_snapshots.specs.Moving.{as_taken}
use Rattle.pp_snapshots.specs.Shown.{Keeps, Kept, shown}
use Rattle.pp_snapshots.proofs.Takens.{held_is, summary_is}
use Rattle.pp_violations.specs.Asks.{HasDetailAt}
use Rattle.pp_violations.specs.declared.violation.Violation.{Violation}
use Rattle.pp_violations.proofs.Verdicts.{all_meet, false_step}
use Rattle.pp_conflicts.specs.Conflicts.{IsConflict, IsRefused}
use Rattle.pp_conflicts.specs.Searches.{SearchesShown}

module _ {Shape State Op Undo : Type 0} (o : Object Shape State Op Undo) (place : Op → ℕ) (SameAt : ℕ → State → State → Type 0) (laws : IsLawful o) (places : IsPlaced o place SameAt) (v : Kept Shape State Op Undo) (h : Keeps o place v) (r : RunRecord Op) (style : IsOfStyle Optimistic r) where
  abbrev O : model.Object Op State
  O = rules_of o v.shape

  abbrev Steps : Standing Front Op → List (Step Op)
  Steps p = expand place Optimistic p.front p.config r

  module _ (p : Standing Front Op) (is : IsTakenOf o place (as_taken v) p) where
    matched : Matches O p.config (expand place Optimistic p.front p.config r) (record_asks Optimistic O place (shown p.front.kinds v) r)
    matched = subst (λ (B : Summary Op). Matches O p.config (expand place Optimistic p.front p.config r) (record_asks Optimistic O place B r)) (is.is ∙ summary_is p.front.kinds v)
        (record_match O place (parts_of o place SameAt laws places v.shape) (tells_states o laws v.shape) Optimistic tt p.front p.config is.summable r style)

  -- A record that is refused has a false criterion.
  pub not_all_true : IsRefused o place (as_taken v) r → SearchesShown o place v r None → ⊥
  not_all_true refused all =
      let k = held_is o place v h in
      refused k.0 k.1 (all_meet O (Steps k.0) (record_asks Optimistic O place (shown (k.0).front.kinds v) r) (k.0).config (matched k.0 k.1) (all (k.0).front.kinds))

  -- The first step with a false criterion is the one that violates a criterion.
  pub found_conflict : (x : Violation Op) → SearchesShown o place v r (Some x) → IsConflict o place (as_taken v) r x
  found_conflict x found p is =
      let ks = p.front.kinds in
      let k = found ks in
      let ss = Steps p in
      let q = false_step O ss (record_asks Optimistic O place (shown ks v) r) p.config x.offset k.number x.rule (matched p is) k.is_false k.rule in
      let fails : FailsAt o v.shape place p.config (expand place Optimistic p.front p.config r) x.offset q.0 k.number = record { there = q.1; before = q.2; breaks = q.3 } in
      let has = (has_evidence o place SameAt laws places v.shape Optimistic tt).of_record p.front p.config r x.offset q.0 k.number style is.summable fails in
      let shown_here : HasDetailAt (record_details o v.shape place Optimistic (shown ks v) r) x.offset k.number (evidence o v.shape (after_from p.config (take x.offset ss)) q.0 (suc k.number)) =
      subst (λ (B : Summary Op). HasDetailAt (record_details o v.shape place Optimistic B r) x.offset k.number (evidence o v.shape (after_from p.config (take x.offset ss)) q.0 (suc k.number))) (is.is ∙ summary_is ks v) has in
      let one : (k.detail).0 ≡ shown_here.0 = same_Some (k.detail).0 shown_here.0 (sym (k.detail).1 ∙ shown_here.1) in
      let detail : x.detail ≡ evidence o v.shape (after_from p.config (take x.offset ss)) q.0 (suc k.number) =
      (k.detail).2 ∙ ap (λ (l : List (Detail Op)). at_number l (suc k.number)) one ∙ sym shown_here.2 in
      record { step = q.0; number = k.number; fails = fails; rule = q.4; criterion = k.criterion; detail = detail }
