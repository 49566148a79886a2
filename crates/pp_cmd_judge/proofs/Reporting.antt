-- The report of what the judge says, and what the serial run costs.
use Rattle.std.specs.Prelude.{◌≡◌, ◌≤◌, ◌+◌, ℕ, List, [], length, map, Option, None, Some}
use Rattle.std.proofs.Common.{refl, sym, ap, ◌∙◌, subst, arith}
use Rattle.std.proofs.lemmas.List.{append-nil}
use mathlib.Core.Logic.{inr}
use Rattle.pp_core.specs.declared.entry.CommittedTx.{CommittedTx}
use Rattle.pp_core.specs.declared.status.Status.{Status}
use Rattle.pp_core.specs.declared.status.Status.TheVariants as statuses
use Rattle.pp_records.specs.Inputs.{Accepts, Faulty, IsRunReport}
use Rattle.pp_records.specs.Records.{RunRecord}
use Rattle.pp_records.specs.Runs.{IsRun, Lined, LinedSteps, Records, bare}
use Rattle.pp_records.proofs.Whole.{one_run_law}
use Rattle.pp_format_read.specs.declared.header.Header.{Header}
use Rattle.pp_model.specs.Config.{Start, Step}
use Rattle.pp_model.specs.Object.{state}
use Rattle.pp_model.specs.Rules.{Accepted, IsVerdict}
use Rattle.pp_model.specs.Serial.{Attempt, attempts, committed_tx, serial}
use Rattle.pp_model.specs.Sound.{serial_ops}
use Rattle.pp_model.proofs.Verdict.{accepted_iff}
use Rattle.pp_objects.specs.Objects.{kinds_of, objects}
use Rattle.pp_objects.specs.declared.act.Op.{Op}
use Rattle.pp_objects.specs.declared.states.ObjectState.{ObjectState}
use Rattle.pp_kind.specs.Object.{state_after}
use Rattle.pp_report.specs.Reports.{accepted_text, rejected_text}
use Rattle.pp_input_reader.specs.declared.cause.Cause.{Cause}
use Rattle.pp_input_reader.specs.FaultTexts.{fault_text}
use Rattle.pp_judge.proofs.Concluding.{RejectedTold, Reports, rejection_reported, reported, serial_is, told_fault}
use Rattle.pp_judge.specs.Costs.{OfRun, serial_length, start_behind}
use Rattle.pp_judge.specs.Findings.{AreGood, AreRejected}
use Rattle.pp_judge.specs.Objects.{object_of, setting_of, start_of, translation_of}
use Rattle.pp_judge.specs.Rejected.{TellsEvident}
use Rattle.pp_judge.specs.Reports.{IsRunTold, IsTold, RunReport}
use Rattle.pp_judge.specs.Scans.{InputScan}
use Rattle.pp_judge.specs.Tallies.{headed}
use Rattle.pp_judge.specs.declared.driven.Rejection.{Rejection}
use Rattle.pp_judge.specs.declared.progress.Tally.{Tally}
use Rattle.pp_cmd_quick.specs.Decisions.{steps_behind}
use Rattle.pp_cmd_judge.specs.Acceptances.{IsAcceptedBehind}
use Rattle.pp_cmd_judge.specs.Costs.{JudgeCostsAtMost, JudgedCostAtMost, SerialCostAtLeast, SerialCostAtMost}
use Rattle.pp_cmd_judge.specs.Inputs.{judge_scan}
use Rattle.pp_cmd_judge.specs.Judgements.{IsJudgeFault, IsJudgeOutput, IsJudgedEvident, IsJudgement, PassesStepsOn}
use Rattle.pp_cmd_judge.specs.Rejections.{IsRejectedBehind}
use Rattle.pp_cmd_judge.specs.StyleJudging.{done_of, shape_of, step_count, style_judging}
use Rattle.pp_cmd_judge.specs.StyleLaws.{good_few, rejected_few}
use Rattle.pp_cmd_judge.specs.declared.style_judge.StyleJudge.{StyleJudge}
use Rattle.pp_cmd_judge.proofs.Judged.{one_judgement}
use Rattle.pp_cmd_judge.proofs.StyleJudging.{accepted_by, shape_is}

-- ---- a fault

-- an input with a fault is reported by the text of that fault and the status InputFault
pub fault_reported : (bytes : List ℕ) (line : ℕ) (cause : Cause) (text : List ℕ) → IsJudgeFault (judge_scan bytes) (Some (line, cause)) → text ≡ fault_text line cause → IsJudgeOutput bytes statuses.InputFault text
fault_reported bytes line cause text is text_is =
    let report : RunReport = Faulty line cause in
    (report, (Some (line, cause), is, refl), told_fault (judge_scan bytes).header line cause text text_is)

-- an input without a fault is reported as its run is
pub run_reported : (bytes : List ℕ) (status : Status) (text : List ℕ) → IsJudgeFault (judge_scan bytes) None → IsRunTold (judge_scan bytes) status text → IsJudgeOutput bytes status text
run_reported bytes status text none told = (told.0, (None, none, told.1), told.2)

-- ---- an accepted run

module _ (sc : InputScan) (tally : Tally) (judge : StyleJudge) (g : AreGood style_judging sc tally judge) where
  abbrev h : Header
  h = tally.header

  abbrev all : LinedSteps Op
  all = steps_behind h sc.records

  abbrev committed : List (Attempt Op)
  committed = attempts (start_of h) (bare all)

  accepted_so : IsAcceptedBehind h sc.records (step_count judge) (done_of judge)
  accepted_so = accepted_by (headed g.follows.at h) sc.records judge g.good

  -- the objects of the judge are of the kinds of the header
  pub shape_so : shape_of judge ≡ kinds_of h.catalog
  shape_so = shape_is (headed g.follows.at h) sc.records judge g.good

  -- a scan whose start and records are all good has no fault
  pub accepted_sound : IsJudgeFault sc None
  accepted_sound =
      inr (
        λ line over. good_few (headed g.follows.at h) sc.records judge g.good line (subst (λ (o : Option (Lined Header)). PassesStepsOn o sc.records line) g.follows.header over),
        sym g.follows.sound,
      )

  verdict : IsVerdict (object_of h) (start_of h) (bare all) Accepted
  verdict = (accepted_iff (object_of h) (start_of h) (bare all)).1 accepted_so.hold

  run_is : IsRun (object_of h) (translation_of h) (start_of h) sc.records all
  run_is = (one_run_law (object_of h) (translation_of h)).told (start_of h) sc.records Accepted verdict

  abbrev final : List ObjectState
  final = state (object_of h) (serial committed)

  abbrev report : RunReport
  report = Accepts (length all) committed final

  accepted_report : IsRunReport setting_of sc.header sc.records report
  accepted_report = subst (λ (o : Option (Lined Header)). IsRunReport setting_of o sc.records report) (sym g.follows.header) (all, Accepted, run_is, verdict, refl)

  -- the run is reported as accepted, by the text of the judge's steps and commits and of the states after its serial run
  pub accepted_told : (count : ℕ) (D : List (CommittedTx Op)) (states : List ObjectState) (text : List ℕ) → count ≡ step_count judge → D ≡ done_of judge
      → states ≡ state_after objects (kinds_of h.catalog) (serial_ops D) → text ≡ accepted_text h.catalog count D states → IsRunTold sc statuses.Accepted text
  accepted_told count D states text count_is D_is state_is text_is =
      let done : D ≡ map committed_tx committed = D_is ∙ accepted_so.done in
      let same : states ≡ final =
      state_is ∙ ap (λ (E : List (CommittedTx Op)). state_after objects (kinds_of h.catalog) (serial_ops E)) done ∙ ap (λ (l : List Op). state_after objects (kinds_of h.catalog) l) (serial_is committed) in
      let words : text ≡ accepted_text h.catalog (length all) (map committed_tx committed) final =
      text_is ∙ ap (λ (n : ℕ). accepted_text h.catalog n D states) (count_is ∙ accepted_so.steps)
      ∙ ap (λ (E : List (CommittedTx Op)). accepted_text h.catalog (length all) E states) done
      ∙ ap (λ (s : List ObjectState). accepted_text h.catalog (length all) (map committed_tx committed) s) same in
      (report, accepted_report, subst (λ (o : Option (Lined Header)). IsTold o report statuses.Accepted text) (sym g.follows.header) (refl, words))

  -- ---- what its serial run costs

  abbrev Serial : Option (Start Op) → List (Step Op) → Type 0
  Serial start steps = length (serial_ops (done_of judge)) ≡ serial_length start steps

  serial_count : OfRun sc.header sc.records (λ start steps. Serial start steps)
  serial_count =
      let here : Serial (start_of h) (bare all) =
      ap (λ (D : List (CommittedTx Op)). length (serial_ops D)) accepted_so.done ∙ ap (λ (l : List Op). length l) (serial_is committed) in
      subst (λ (o : Option (Lined Header)). OfRun o sc.records (λ start steps. Serial start steps)) (sym g.follows.header) (λ run is.
      let same : all ≡ run = (one_run_law (object_of h) (translation_of h)).run (start_of h) sc.records all run run_is is in
      subst (λ (w : LinedSteps Op). Serial (start_of h) (bare w)) same here)

  -- if the counter rises at most by the number of operations that the judge committed, it rises at most by the serial run
  pub serial_most : (now new : ℕ) → new ≤ now + length (serial_ops (done_of judge)) → SerialCostAtMost sc now new
  serial_most now new cost run is = subst (λ (n : ℕ). new ≤ now + n) (serial_count run is) cost

  -- if the counter rises by the number of operations that the judge committed, it rises at least by the serial run
  pub serial_least : (now new : ℕ) → new ≡ now + length (serial_ops (done_of judge)) → SerialCostAtLeast sc now new
  serial_least now new cost run is = at_least (cost ∙ ap (λ (n : ℕ). now + n) (serial_count run is))
    where
      at_least : {n : ℕ} → new ≡ n → n ≤ new
      at_least e = omega (arith, e)

-- ---- a rejected run

module _ (sc : InputScan) (tally : Tally) (rejection : Rejection) (b : AreRejected style_judging sc tally rejection) where
  -- the run of a scan that is rejected ends with its rejection
  pub rejected_so : IsRejectedBehind (headed b.follows.at tally.header) sc.records rejection
  rejected_so = b.bad.rejected

  -- a scan of which the start or a record is rejected has no fault
  pub rejected_sound : IsJudgeFault sc None
  rejected_sound =
      inr (
        λ line over. rejected_few (headed b.follows.at tally.header) sc.records rejection b.bad line (subst (λ (o : Option (Lined Header)). PassesStepsOn o sc.records line) b.follows.header over),
        sym b.follows.sound,
      )

  rejected_report : Reports sc sc.header (RejectedTold tally.header rejection)
  rejected_report =
      let h : Header = tally.header in
      let e = rejected_so in
      let here : IsRun (object_of h) (translation_of h) (start_of h) sc.records e.run =
      subst (λ (w : Records (RunRecord Op)). IsRun (object_of h) (translation_of h) (start_of h) w e.run) (append-nil sc.records) (e.stays []) in
      reported sc (Some (headed b.follows.at h)) (RejectedTold h rejection) b.follows.header
      (rejection_reported (headed b.follows.at h) sc.records rejection e.run e.number e.criterion e.is here e.verdict)

  -- the run of a scan that is rejected is reported as rejected, by the text of its rejection
  pub rejected_told : (text : List ℕ) → text ≡ rejected_text tally.header.catalog rejection.step rejection.line rejection.rule rejection.criterion rejection.detail → IsRunTold sc statuses.Rejected text
  rejected_told text is = let k = rejected_report in (k.0, k.1, k.2.0 text is)

  -- every report of a scan that is rejected is a rejection whose evidence shows why
  pub rejected_evident : IsJudgedEvident sc
  rejected_evident report is =
      let k = rejected_report in
      let own : IsJudgement sc k.0 = (None, rejected_sound, k.1) in
      subst (λ (w : RunReport). TellsEvident sc.header w) (one_judgement sc k.0 report own is) k.2.1

-- ---- what it costs without a serial run

-- if the counter rises at most by what the judge costs, it rises at most by that and the serial run
pub no_serial_run : (sc : InputScan) (old new : ℕ) → JudgedCostAtMost sc old new → JudgeCostsAtMost sc old new
no_serial_run sc old new cost = (new, cost, λ run is. room new (serial_length (start_behind sc.header) (bare run)))
  where
    room : (n m : ℕ) → n ≤ n + m
    room n m = omega arith
