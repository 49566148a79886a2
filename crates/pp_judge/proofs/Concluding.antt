-- What an examination concludes.
use Rattle.std.proofs.lemmas.Option.{same_Some}
use Rattle.std.specs.Prelude.{◌≡◌, ℕ, zero, suc, List, [], ◌∷◌, length, map, take, Option, None}
use Rattle.std.specs.Prelude.{Some}
use Rattle.std.proofs.Common.{refl, sym, ap, ◌∙◌, subst}
use Rattle.std.proofs.lemmas.List.{append-nil}
use Rattle.pp_core.specs.declared.call.Kind.{Kind}
use Rattle.pp_core.specs.declared.entry.CommittedTx.{CommittedTx}
use Rattle.pp_core.specs.declared.status.Status.{Status}
use Rattle.pp_core.specs.declared.status.Status.TheVariants as statuses
use Rattle.pp_records.proofs.Whole.{one_run_law}
use Rattle.pp_records.specs.Inputs.{Accepts, Faulty, IsReportBehind, IsRunReport, StartRejected}
use Rattle.pp_records.specs.Inputs.{StepRejected}
use Rattle.pp_records.specs.Laws.{IsRejectedAt}
use Rattle.pp_records.specs.Records.{RunRecord}
use Rattle.pp_records.specs.Runs.{IsRun, Lined, LinedSteps, Records, bare, joined_steps}
use Rattle.pp_records.specs.Runs.{outset}
use Rattle.pp_records.proofs.Reading.{reading_law}
use Rattle.pp_records.proofs.Reporting.{input_law}
use Rattle.pp_objects.specs.Objects.{kinds_of, objects}
use Rattle.pp_objects.specs.laws.Objects.{objects_lawful}
use Rattle.pp_objects.specs.declared.act.Op.{Op}
use Rattle.pp_objects.specs.declared.states.ObjectState.{ObjectState}
use Rattle.pp_format_read.specs.declared.header.Header.{Header}
use Rattle.pp_model.specs.Config.{Config, Start, Step, after, first}
use Rattle.pp_model.specs.Lists.{joined}
use Rattle.pp_model.specs.Object.{Item, ops, state}
use Rattle.pp_model.specs.Rules.{Accepted, IsVerdict, Rejected, RunsFrom, StartMeets}
use Rattle.pp_model.proofs.Alone.{alone_attempts, alone_law}
use Rattle.pp_model.proofs.Verdict.{accepted_iff}
use Rattle.pp_model.specs.Serial.{Attempt, attempts, committed_tx, serial, Simulated}
use Rattle.pp_model.specs.Sound.{serial_ops}
use Rattle.pp_model.proofs.Simulate.{finished_are, simulated}
use Rattle.pp_report.specs.Reports.{accepted_text, rejected_text}
use Rattle.pp_machine.specs.Machines.{Seen}
use Rattle.pp_machine.proofs.Refuting.{refutes}
use Rattle.pp_machine.proofs.Starting.{start_evidence_law}
use Rattle.pp_kind.specs.Object.{state_after}
use Rattle.pp_kind.proofs.Places.{tells_states}
use Rattle.pp_input_reader.specs.FaultTexts.{fault_text}
use Rattle.pp_input_reader.specs.declared.cause.Cause.{Cause}
use Rattle.pp_input_reader.specs.declared.cause.Cause.TheVariants.{TooManySteps}
use Rattle.pp_judge.specs.Objects.{object_of, setting_of, start_of, translation_of}
use Rattle.pp_judge.specs.Accepted.{HasRun, IsAloneAccepted, IsSimulated, RunsAlone}
use Rattle.pp_judge.specs.Inputs.{IsFaultOf, scan}
use Rattle.pp_judge.specs.declared.driven.Rejection.{Rejection}
use Rattle.pp_judge.specs.Running.{EndsAt, IsRejected, IsRejectionOf, IsRunning, standing_of}
use Rattle.pp_judge.specs.Rejected.{IsEvident, IsStartEvident, IsStepEvident, StartFactRefutes}
use Rattle.pp_judge.specs.Rejected.{StepFactRefutes, TellsEvident}
use Rattle.pp_judge.specs.Reports.{IsCertified, IsRunTold, IsTold, RunReport}
use Rattle.pp_judge.specs.Scans.{InputScan}
use Rattle.pp_judge.specs.declared.progress.Tally.{Tally}
use Rattle.pp_judge.proofs.Running.{config_is, rejected_sound}

entries_of : (as' : List (Attempt Op)) → map (λ d. d.entries) (map committed_tx as') ≡ map (λ a. a.items) as'
entries_of [] = refl
entries_of (a ∷ as') = ap (λ l. a.items ∷ l) (entries_of as')

-- The operations of the attempts' committed transactions, one after another, are the serial run of the attempts.
pub serial_is : (as' : List (Attempt Op)) → serial_ops (map committed_tx as') ≡ serial as'
serial_is as' = ap (λ (ls : List (List (Item Op))). ops (joined ls)) (entries_of as')

-- the report of a scan, of which this holds
abbrev pub Reports : InputScan → Option (Lined Header) → (Option (Lined Header) → RunReport → Type 0) → Type 0
Reports sc o P = (report : RunReport) × IsRunReport setting_of o sc.records report × P o report

-- A report for a header that equals the header of the scan is a report for the latter.
pub reported : (sc : InputScan) (o : Option (Lined Header)) (P : Option (Lined Header) → RunReport → Type 0) → sc.header ≡ o → Reports sc o P → Reports sc sc.header P
reported sc o P is r = subst (λ (w : Option (Lined Header)). Reports sc w P) (sym is) r

-- an accepted run: its committed transactions are its attempts
module _ (sc : InputScan) (tally : Tally) (machine : Seen (List Kind) Op) (r : IsRunning sc tally machine) where
  abbrev run : LinedSteps Op
  run = joined_steps (translation_of tally.header) (outset (translation_of tally.header) (start_of tally.header)) sc.records

  -- The committed transactions of the machine are the attempts of the run.
  pub committed_are : machine.config.done ≡ map committed_tx (attempts (start_of tally.header) (bare run))
  committed_are = ap (λ c. c.done) (config_is sc tally machine r) ∙ finished_are (object_of tally.header) (start_of tally.header) (bare run) r.stands.begun r.stands.hold

  -- the report, by what is told of the machine
  abbrev AcceptedBy : ℕ → List (CommittedTx Op) → List ObjectState → Option (Lined Header) → Type 0
  AcceptedBy count D states o = (as' : List (Attempt Op)) × (let w : RunReport = Accepts count as' states in IsRunReport setting_of o sc.records w) × (D ≡ map committed_tx as')

  -- The machine's count, committed transactions and final states are those of a report that accepts the run.
  pub accepted_reported : (count : ℕ) (D : List (CommittedTx Op)) (states : List ObjectState) → count ≡ machine.count → D ≡ machine.config.done
      → states ≡ state_after objects (kinds_of tally.header.catalog) (serial_ops D) → AcceptedBy count D states sc.header
  accepted_reported count D states count_is D_is state_is =
      let h = tally.header in
      let as' = attempts (start_of h) (bare run) in
      let kinds = kinds_of h.catalog in
      let committed : D ≡ map committed_tx as' = D_is ∙ committed_are in
      let same : states ≡ state (object_of h) (serial as') =
      state_is ∙ ap (λ E. state_after objects kinds (serial_ops E)) committed ∙ ap (λ k. state_after objects kinds k) (serial_is as') in
      let end = (reading_law (object_of h) (translation_of h)).end (start_of h) sc.records (standing_of r.state machine) machine.count r.stands in
      let report : Accepts count as' states ≡ Accepts (length run) as' (state (object_of h) (serial as')) =
      ap (λ k. let w : RunReport = Accepts k as' states in w) (count_is ∙ r.stands.number) ∙ ap (λ k. let w : RunReport = Accepts (length run) as' k in w) same in
      subst (λ (o : Option (Lined Header)). AcceptedBy count D states o) (sym r.follows.header) (as', (run, Accepted, end.0, end.1, report), committed)

  -- The text of the machine's count, committed transactions and final states reports the run as accepted.
  pub accepted_told : (count : ℕ) (D : List (CommittedTx Op)) (states : List ObjectState) (text : List ℕ) → count ≡ machine.count → D ≡ machine.config.done
      → states ≡ state_after objects (kinds_of tally.header.catalog) (serial_ops D) → text ≡ accepted_text tally.header.catalog count D states → IsRunTold sc statuses.Accepted text
  accepted_told count D states text count_is D_is state_is text_is =
      let k = accepted_reported count D states count_is D_is state_is in
      let told : IsTold sc.header (Accepts count k.0 states) statuses.Accepted text =
      subst (λ (o : Option (Lined Header)). IsTold o (Accepts count k.0 states) statuses.Accepted text) (sym r.follows.header)
      (refl, text_is ∙ ap (λ E. accepted_text tally.header.catalog count E states) k.2) in
      (Accepts count k.0 states, k.1, told)

-- if the fact of a criterion is true, the criterion is false
start_refuting : (kinds : List Kind) (h : Option (Start Op)) (n : ℕ) → IsStartEvident kinds h (suc n) → StartFactRefutes kinds h (suc n)
start_refuting kinds None n h = h
start_refuting kinds (Some z) n h = (start_evidence_law objects objects_lawful kinds).refutes z n

step_refuting : (kinds : List Kind) (before : Config Op) (step : Step Op) (n : ℕ) → IsStepEvident kinds before step (suc n) → StepFactRefutes kinds before step (suc n)
step_refuting kinds before step n h = λ detail. refutes objects objects_lawful kinds before step n detail h.0

-- the text that is printed for a rejection
abbrev pub printed_of : Header → Rejection → List ℕ
printed_of h w = rejected_text h.catalog w.step w.line w.rule w.criterion w.detail

-- the report is printed by the text of this rejection, and its evidence shows why the run is rejected
abbrev pub RejectedTold : Header → Rejection → Option (Lined Header) → RunReport → Type 0
RejectedTold h rejection o report =
    ((text : List ℕ) → text ≡ printed_of h rejection → IsTold o report statuses.Rejected text)
    × TellsEvident o report

-- the report of a run that ends with a rejected step
pub rejection_reported : (head : Lined Header) (rs : Records (RunRecord Op)) (rejection : Rejection) (run : LinedSteps Op) (i n : ℕ) → IsRejectionOf head.what head.line run i (suc n) rejection
    → IsRun (object_of head.what) (translation_of head.what) (start_of head.what) rs run → IsVerdict (object_of head.what) (start_of head.what) (bare run) (Rejected i (suc n))
    → (report : RunReport) × IsRunReport setting_of (Some head) rs report × RejectedTold head.what rejection (Some head) report
rejection_reported head rs rejection run zero n is run_is verdict =
    let h : Header = head.what in
    (StartRejected head.line (suc n), (run, Rejected 0 (suc n), run_is, verdict, refl), (λ text printed. (refl, printed ∙ ap (printed_of h) is.0), (is.1, start_refuting (kinds_of h.catalog) (start_of h) n is.1)))
rejection_reported head rs rejection run (suc i) n is run_is verdict =
    let h : Header = head.what in (
      StepRejected (suc i) rejection.line (suc n) (after (start_of h) (bare (take i run))) is.0,
      (run, Rejected (suc i) (suc n), run_is, verdict, (record { line = rejection.line; what = is.0 }, is.1, refl)),
      (λ text printed. (refl, printed ∙ ap (printed_of h) is.2), (is.3, step_refuting (kinds_of h.catalog) (after (start_of h) (bare (take i run))) is.0 n is.3)),
    )

module _ (sc : InputScan) (tally : Tally) (rejection : Rejection) (r : IsRejected sc tally rejection) where
  rejected_report : Reports sc sc.header (RejectedTold tally.header rejection)
  rejected_report =
      let h : Header = tally.header in
      let head : Lined Header = record { line = r.follows.at; what = h } in
      let e : EndsAt h r.follows.at sc.records rejection = r.ends in
      let here : IsRejectedAt (object_of h) (translation_of h) (start_of h) sc.records e.run e.number e.criterion =
      subst (λ (w : Records (RunRecord Op)). IsRejectedAt (object_of h) (translation_of h) (start_of h) w e.run e.number e.criterion) (append-nil sc.records) (e.stays []) in
      reported sc (Some head) (RejectedTold h rejection) r.follows.header (rejection_reported head sc.records rejection e.run e.number e.criterion e.is here.run_is here.verdict)

  -- The text of the rejection reports the run as rejected.
  pub rejected_told : (text : List ℕ) → text ≡ rejected_text tally.header.catalog rejection.step rejection.line rejection.rule rejection.criterion rejection.detail → IsRunTold sc statuses.Rejected text
  rejected_told text is = let k = rejected_report in (k.0, k.1, k.2.0 text is)

  -- every report of it tells such evidence, since there is one at most
  pub rejected_evident : IsEvident sc
  rejected_evident report is =
      let k = rejected_report in
      let same : k.0 ≡ report = (input_law setting_of TooManySteps).one_report sc k.0 report (None, rejected_sound sc tally rejection r, k.1) is in
      subst (λ (w : RunReport). TellsEvident sc.header w) same k.2.1

-- a fault
pub told_fault : (o : Option (Lined Header)) (line : ℕ) (cause : Cause) (text : List ℕ) → text ≡ fault_text line cause → IsTold o (Faulty line cause) statuses.InputFault text
told_fault None line cause text is = (refl, is)
told_fault (Some header) line cause text is = (refl, is)

-- If the scan of an input has a fault, the text of the fault certifies the input, with status input fault.
pub fault_report : (bytes : List ℕ) (line : ℕ) (cause : Cause) (text : List ℕ) → IsFaultOf (scan bytes) (Some (line, cause)) → text ≡ fault_text line cause → IsCertified bytes statuses.InputFault text
fault_report bytes line cause text faulty is = (Faulty line cause, (Some (line, cause), faulty, refl), told_fault (scan bytes).header line cause text is)

-- the report of a run without a fault
pub run_report : (bytes : List ℕ) (status : Status) (text : List ℕ) → IsFaultOf (scan bytes) None → IsRunTold (scan bytes) status text → IsCertified bytes status text
run_report bytes status text none told = (told.0, (None, none, told.1), told.2)

-- ---- an accepted input

-- a run of which each step meets its criteria
pub record AcceptedRun (o : Option (Lined Header)) (records : Records (RunRecord Op)) : Type 0 where
  pub header : Lined Header
  pub run : LinedSteps Op
  pub first_line : o ≡ Some header
  pub steps : IsRun (object_of header.what) (translation_of header.what) (start_of header.what) records run
  pub begun : StartMeets (object_of header.what) (start_of header.what)
  pub hold : RunsFrom (object_of header.what) (first (start_of header.what)) (bare run)

accepted_by : (o : Option (Lined Header)) (records : Records (RunRecord Op)) (report : RunReport) (text : List ℕ) → IsRunReport setting_of o records report → IsTold o report statuses.Accepted text → AcceptedRun o records
accepted_by None records report text r t = absurd r
accepted_by (Some h) records report text (run, Accepted, is, v, r) t =
    let both = (accepted_iff (object_of h.what) (start_of h.what) (bare run)).0 v in
    record { header = h; run = run; first_line = refl; steps = is; begun = both.0; hold = both.1 }
accepted_by (Some h) records report text (run, Rejected zero n, is, v, r) t =
    absurd (let told = subst (λ (w : RunReport). IsTold (Some h) w statuses.Accepted text) r t in let e : statuses.Accepted ≡ statuses.Rejected = told.0 in cc)
accepted_by (Some h) records report text (run, Rejected (suc i) n, is, v, r) t =
    absurd (let told = subst (λ (w : RunReport). IsTold (Some h) w statuses.Accepted text) r.2 t in let e : statuses.Accepted ≡ statuses.Rejected = told.0 in cc)

-- The status of the report of a fault is not accepted.
pub faulty_by : (o : Option (Lined Header)) (line : ℕ) (cause : Cause) (text : List ℕ) → IsTold o (Faulty line cause) statuses.Accepted text → ⊥
faulty_by None line cause text t = let e : statuses.Accepted ≡ statuses.InputFault = t.0 in cc
faulty_by (Some h) line cause text t = let e : statuses.Accepted ≡ statuses.InputFault = t.0 in cc

accepted_behind : (fault : Option (ℕ × Cause)) (sc : InputScan) (report : RunReport) (text : List ℕ) → IsReportBehind setting_of fault sc report → IsTold sc.header report statuses.Accepted text → AcceptedRun sc.header sc.records
accepted_behind (Some f) sc report text r t = absurd (faulty_by sc.header f.0 f.1 text (subst (λ (w : RunReport). IsTold sc.header w statuses.Accepted text) r t))
accepted_behind None sc report text r t = accepted_by sc.header sc.records report text r t

-- If an input is certified as accepted, its start and each step of its run meet their criteria.
pub accepted_run : (bytes : List ℕ) (text : List ℕ) → IsCertified bytes statuses.Accepted text → AcceptedRun (scan bytes).header (scan bytes).records
accepted_run bytes text r = accepted_behind r.1.0 (scan bytes) r.0 text r.1.2 r.2

-- a scan with an accepted run has a run
abbrev pub has_run : (sc : InputScan) → AcceptedRun sc.header sc.records → HasRun sc
has_run sc a = record { header = a.header; run = a.run; first_line = a.first_line; steps = a.steps }

-- what holds of one run of a scan holds of every one, since there is one at most
pub only_run : (sc : InputScan) (a r : HasRun sc) (P : Lined Header → LinedSteps Op → Type 0) → P a.header a.run → P r.header r.run
only_run sc a r P p =
    let heads : a.header ≡ r.header = same_Some a.header r.header (sym a.first_line ∙ r.first_line) in
    let steps = subst (λ (h : Lined Header). IsRun (object_of h.what) (translation_of h.what) (start_of h.what) sc.records a.run) heads a.steps in
    let runs : a.run ≡ r.run = (one_run_law (object_of r.header.what) (translation_of r.header.what)).run (start_of r.header.what) sc.records a.run r.run steps r.steps in
    subst (P r.header) runs (subst (λ (h : Lined Header). P h a.run) heads p)

-- in every run of these records the committed transactions simulate it, and run alone
pub run_simulated : (sc : InputScan) → AcceptedRun sc.header sc.records → IsSimulated sc
run_simulated sc a =
    let h = a.header.what in
    let own = has_run sc a in (
      own,
      λ other. only_run sc own other (λ head run. Simulated (object_of head.what) (start_of head.what) (bare run))
          (simulated (object_of h) (start_of h) (bare a.run) a.begun a.hold (tells_states objects objects_lawful (kinds_of h.catalog))),
    )

-- If each step of a run meets its criteria, the committed transactions run alone too.
pub run_alone : (sc : InputScan) → AcceptedRun sc.header sc.records → IsAloneAccepted sc
run_alone sc a =
    let h = a.header.what in
    let own = has_run sc a in (
      own,
      λ other. only_run sc own other (λ head run. RunsAlone head.what run)
          (alone_law (object_of h) (start_of h) (bare a.run) a.begun a.hold, alone_attempts (object_of h) (start_of h) (bare a.run) a.begun a.hold),
    )

-- If an input is certified as accepted, its committed transactions in commit order simulate its run.
pub accepted_simulated : (bytes : List ℕ) (text : List ℕ) → IsCertified bytes statuses.Accepted text → IsSimulated (scan bytes)
accepted_simulated bytes text r = run_simulated (scan bytes) (accepted_run bytes text r)

-- If an input is certified as accepted, its committed transactions run alone too.
pub accepted_alone : (bytes : List ℕ) (text : List ℕ) → IsCertified bytes statuses.Accepted text → IsAloneAccepted (scan bytes)
accepted_alone bytes text r = run_alone (scan bytes) (accepted_run bytes text r)

-- ---- an input has one report

-- a report has one status and one text at most
pub told_once : (o : Option (Lined Header)) (report : RunReport) (s s' : Status) (t t' : List ℕ) → IsTold o report s t → IsTold o report s' t' → (s ≡ s') × (t ≡ t')
told_once None (Faulty line cause) s s' t t' a b = (a.0 ∙ sym b.0, a.1 ∙ sym b.1)
told_once (Some h) (Faulty line cause) s s' t t' a b = (a.0 ∙ sym b.0, a.1 ∙ sym b.1)
told_once None (Accepts n committed final) s s' t t' a b = absurd a
told_once (Some h) (Accepts n committed final) s s' t t' a b = (a.0 ∙ sym b.0, a.1 ∙ sym b.1)
told_once None (StartRejected line n) s s' t t' a b = absurd a
told_once (Some h) (StartRejected line n) s s' t t' a b = (a.0 ∙ sym b.0, a.1 ∙ sym b.1)
told_once None (StepRejected i line n before step) s s' t t' a b = absurd a
told_once (Some h) (StepRejected i line n before step) s s' t t' a b = (a.0 ∙ sym b.0, a.1 ∙ sym b.1)

-- An input is certified with one status and one text at most.
pub one_certified : (bytes : List ℕ) (s s' : Status) (t t' : List ℕ) → IsCertified bytes s t → IsCertified bytes s' t' → (s ≡ s') × (t ≡ t')
one_certified bytes s s' t t' a b =
    let same : a.0 ≡ b.0 = (input_law setting_of TooManySteps).one_report (scan bytes) a.0 b.0 a.1 b.1 in
    told_once (scan bytes).header b.0 s s' t t' (subst (λ (w : RunReport). IsTold (scan bytes).header w s t) same a.2) b.2
