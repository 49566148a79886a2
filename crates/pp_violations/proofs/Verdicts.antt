-- What the search finds by the summary that a Quick keeps is a violation of the record.
use Rattle.std.specs.Prelude.{◌≡◌, ℕ, zero, suc, List, [], ◌∷◌, slice_get, take, Option, None, Some}
use Rattle.std.proofs.Common.{refl, sym, ap, subst, ◌∙◌}
use Rattle.std.proofs.lemmas.Option.{same_Some}
use Rattle.pp_core.specs.declared.call.Style.TheVariants.{Boosted}
use Rattle.pp_core.specs.declared.step.Rule.{Rule}
use Rattle.pp_core.specs.Steps.{rule_of}
use Rattle.pp_kind.specs.Object.{IsLawful, IsPlaced, Object, rules_of}
use Rattle.pp_kind.proofs.Places.{tells_states}
use Rattle.pp_model.specs.Config.{Config, Step, after_from, then}
use Rattle.pp_model.specs.Object as model
use Rattle.pp_model.specs.Rules.{Breaks, Meets, RunsFrom}
use Rattle.pp_records.specs.Expansions.{expand}
use Rattle.pp_records.specs.Fronts.{Front}
use Rattle.pp_records.specs.Records.{RunRecord}
use Rattle.pp_records.specs.Records as records
use Rattle.pp_machine.specs.declared.detail.Detail.{Detail}
use Rattle.pp_machine.specs.Evidence.{at_number, evidence}
use Rattle.pp_laws_evidence.specs.Details.{FailsAt, record_details}
use Rattle.pp_laws_evidence.proofs.Runs.{has_evidence}
use Rattle.pp_laws_summary.specs.Failures.{Asked, IsStep, record_asks}
use Rattle.pp_laws_summary.specs.Summary.{Summary}
use Rattle.pp_laws_summary.proofs.Asks.{Matches}
use Rattle.pp_laws_summary.proofs.Failures.{record_match}
use Rattle.pp_laws_summary.proofs.Placed.{parts_of}
use Rattle.pp_summary.specs.Held.{IsHeldOf}
use Rattle.pp_summary.specs.Runs.{IsBoosted}
use Rattle.pp_summary.specs.Shown.{KeepsQuick, Kept, as_held}
use Rattle.pp_violations.specs.Asks.{AllTrue, Fails, FalseAt, HasDetailAt, HasRuleAt, IsRule}
use Rattle.pp_violations.specs.Summarised.{kept_summary, no_section}
use Rattle.pp_violations.specs.Violations.{IsRefused, IsViolation}
use Rattle.pp_violations.specs.declared.violation.Violation.{Violation}
use Rattle.pp_violations.proofs.Opened.{summable, summarised}

-- The steps of a boosted record are the same for each front.
same_steps : {Op : Type 0} (place : Op → ℕ) (f g : Front) (c : Config Op) (r : RunRecord Op) → IsBoosted r → expand place Boosted f c r ≡ expand place Boosted g c r
same_steps place f g c (records.Plain step) s = refl
same_steps place f g c (records.Op t id op) s = refl
same_steps place f g c (records.Commit t) s = refl
same_steps place f g c (records.Abort t) s = refl
same_steps place f g c (records.Retry t) s = refl
same_steps place f g c (records.Refresh t q) s = absurd s
same_steps place f g c (records.XBegin t) s = absurd s
same_steps place f g c (records.XEnd t) s = absurd s
same_steps place f g c (records.XAbort t) s = absurd s
same_steps place f g c (records.Depend t source) s = absurd s
same_steps place f g c (records.Publish t) s = absurd s
same_steps place f g c (records.DropSource t source) s = absurd s

-- If a listed step is s, its rule is that of s.
rule_is : {Op : Type 0} (a : Option (Step Op)) (s : Step Op) (rule : Rule) → IsStep a s → IsRule a rule → rule ≡ rule_of s
rule_is None s rule i r = absurd r
rule_is (Some z) s rule i r = r ∙ ap rule_of i

module _ {Op State : Type 0} (O : model.Object Op State) where
  -- The first step with a false criterion is the first that breaks one.
  pub false_step : (ss : List (Step Op)) (qs : List (Asked Op)) (c : Config Op) (k n : ℕ) (rule : Rule) → Matches O c ss qs → FalseAt qs k n → HasRuleAt qs k rule →
      (s : Step Op) × (slice_get ss k ≡ Some s) × RunsFrom O c (take k ss) × Breaks O (after_from c (take k ss)) s (suc n) × (rule ≡ rule_of s)
  false_step [] [] c k n rule m f r = absurd f
  false_step [] (a ∷ qs) c k n rule m f r = absurd m
  false_step (s ∷ ss) [] c k n rule m f r = absurd m
  false_step (s ∷ ss) (a ∷ qs) c zero n rule m f r = (s, refl, tt, (m.1 (suc n)).0 f, rule_is a.step s rule m.0 r)
  false_step (s ∷ ss) (a ∷ qs) c (suc k) n rule m f r =
      let h : Meets O c s = (m.1 0).0 f.0 in
      let q = false_step ss qs (then c s) k n rule (m.2 h) f.1 r in
      (q.0, q.1, (h, q.2), q.3, q.4)

  -- If each criterion is true, each step meets its criteria.
  pub all_meet : (ss : List (Step Op)) (qs : List (Asked Op)) (c : Config Op) → Matches O c ss qs → AllTrue qs → RunsFrom O c ss
  all_meet [] [] c m a = tt
  all_meet [] (z ∷ qs) c m a = absurd m
  all_meet (s ∷ ss) [] c m a = absurd m
  all_meet (s ∷ ss) (z ∷ qs) c m a = let h : Meets O c s = (m.1 0).0 a.0 in (h, all_meet ss qs (then c s) (m.2 h) a.1)

module _ {Shape State Op Undo : Type 0} (o : Object Shape State Op Undo) (place : Op → ℕ) (SameAt : ℕ → State → State → Type 0) (laws : IsLawful o) (places : IsPlaced o place SameAt) (v : Kept Shape Op) (h : KeepsQuick o place v) (r : RunRecord Op) (style : IsBoosted r) where
  abbrev O : model.Object Op State
  O = rules_of o v.shape

  abbrev Steps : Config Op → List (Step Op)
  Steps c = expand place Boosted no_section c r

  module _ (c : Config Op) (is : IsHeldOf o place (as_held place v) c) where
    matched : Matches O c (expand place Boosted no_section c r) (record_asks Boosted O place (kept_summary v) r)
    matched = subst (λ (B : Summary Op). Matches O c (expand place Boosted no_section c r) (record_asks Boosted O place B r)) (summarised o place SameAt laws places v h c is)
        (record_match O place (parts_of o place SameAt laws places v.shape) (tells_states o laws v.shape) Boosted tt no_section c (summable o place SameAt laws places v h c is) r style)

  -- A refused record does not have only true criteria.
  pub not_all_true : IsRefused o place (as_held place v) r → AllTrue (record_asks Boosted O place (kept_summary v) r) → ⊥
  not_all_true refused all = by h.is_held
    where
      by : (c : Config Op) × IsHeldOf o place (as_held place v) c → ⊥
      by (c, is) = refused no_section c is (all_meet O (expand place Boosted no_section c r) (record_asks Boosted O place (kept_summary v) r) c (matched c is) all)

  -- The first step with a false criterion is the violation.
  pub found_violation : (x : Violation Op) → Fails (record_asks Boosted O place (kept_summary v) r) (record_details o v.shape place Boosted (kept_summary v) r) x → IsViolation o place (as_held place v) r x
  found_violation x k f c is =
      let q = false_step O (expand place Boosted no_section c r) (record_asks Boosted O place (kept_summary v) r) c x.offset k.number x.rule (matched c is) k.is_false k.rule in
      let fails : FailsAt o v.shape place c (expand place Boosted no_section c r) x.offset q.0 k.number = record { there = q.1; before = q.2; breaks = q.3 } in
      let found = (has_evidence o place SameAt laws places v.shape Boosted tt).of_record no_section c r x.offset q.0 k.number style (summable o place SameAt laws places v h c is) fails in
      let shown : HasDetailAt (record_details o v.shape place Boosted (kept_summary v) r) x.offset k.number (evidence o v.shape (after_from c (take x.offset (expand place Boosted no_section c r))) q.0 (suc k.number)) =
      subst (λ (B : Summary Op). HasDetailAt (record_details o v.shape place Boosted B r) x.offset k.number (evidence o v.shape (after_from c (take x.offset (expand place Boosted no_section c r))) q.0 (suc k.number))) (summarised o place SameAt laws places v h c is) found in
      let one : (k.detail).0 ≡ shown.0 = same_Some (k.detail).0 shown.0 (sym (k.detail).1 ∙ shown.1) in
      let detail : x.detail ≡ evidence o v.shape (after_from c (take x.offset (expand place Boosted no_section c r))) q.0 (suc k.number) =
      (k.detail).2 ∙ ap (λ (l : List (Detail Op)). at_number l (suc k.number)) one ∙ sym shown.2 in
      let here : FailsAt o v.shape place c (expand place Boosted f c r) x.offset q.0 k.number × (x.detail ≡ evidence o v.shape (after_from c (take x.offset (expand place Boosted f c r))) q.0 (suc k.number)) =
      subst (λ (ss : List (Step Op)). FailsAt o v.shape place c ss x.offset q.0 k.number × (x.detail ≡ evidence o v.shape (after_from c (take x.offset ss)) q.0 (suc k.number))) (same_steps place no_section f c r style) (fails, detail) in
      record { step = q.0; number = k.number; fails = here.0; rule = q.4; criterion = k.criterion; detail = here.1 }
