-- What expanding an input prints.
use Rattle.std.specs.Prelude.{◌≡◌, ℕ, List, Option, Some}
use Rattle.std.proofs.Common.{refl, sym, ap, ◌∙◌, subst}
use Rattle.pp_core.specs.declared.call.Kind.{Kind}
use Rattle.pp_core.specs.declared.status.Status.{Status}
use Rattle.pp_core.specs.declared.status.Status.TheVariants as statuses
use Rattle.pp_records.specs.Records.{RunRecord}
use Rattle.pp_records.specs.Runs.{IsRun, Lined, LinedSteps, Records, bare}
use Rattle.pp_format_read.specs.declared.header.Header.{Header}
use Rattle.pp_format_write.specs.RunTexts.{run_text}
use Rattle.pp_model.specs.Sound.{serial_ops}
use Rattle.pp_objects.specs.Objects.{kinds_of, objects}
use Rattle.pp_objects.specs.declared.act.Op.{Op}
use Rattle.pp_report.specs.Reports.{accepted_text, rejected_text}
use Rattle.pp_machine.specs.Machines.{Seen}
use Rattle.pp_kind.specs.Object.{state_after}
use Rattle.pp_input_reader.specs.FaultTexts.{fault_text}
use Rattle.pp_input_reader.specs.declared.cause.Cause.{Cause}
use Rattle.pp_judge.specs.Accepted.{HasRun}
use Rattle.pp_judge.specs.Inputs.{IsFaultOf, scan}
use Rattle.pp_judge.specs.Objects.{object_of, start_of, translation_of}
use Rattle.pp_judge.specs.Reports.{IsExpanded, IsExpansionOf, IsRunPrinted}
use Rattle.pp_judge.specs.Running.{IsRejected, IsRunning}
use Rattle.pp_judge.specs.Scans.{InputScan}
use Rattle.pp_judge.specs.declared.driven.Rejection.{Rejection}
use Rattle.pp_judge.specs.declared.progress.Tally.{Tally}
use Rattle.pp_judge.specs.laws.Driven.{rejected_here}
use Rattle.pp_judge.proofs.Concluding.{accepted_told, fault_report, one_certified, only_run}
use Rattle.pp_judge.proofs.Concluding.{rejected_told, run_report}
use Rattle.pp_judge.proofs.Running.{is_run_so_far, rejected_sound, run_so_far, running_sound}

-- ---- the text

-- The text of the fault of an input expands it, with status input fault.
pub fault_expanded : (bytes : List ℕ) (line : ℕ) (cause : Cause) (text : List ℕ) → IsFaultOf (scan bytes) (Some (line, cause)) → text ≡ fault_text line cause → IsExpanded bytes statuses.InputFault text
fault_expanded bytes line cause text faulty is = (text, fault_report bytes line cause text faulty is, refl)

-- The text of the steps of a run.
abbrev WritesRun : Header → Records (RunRecord Op) → List ℕ → Type 0
WritesRun h rs text = (run : LinedSteps Op) → IsRun (object_of h) (translation_of h) (start_of h) rs run → text ≡ run_text h.catalog h.start (bare run)

-- The text of the run of an accepted input expands it, with status accepted.
pub accepted_expanded : (bytes : List ℕ) (tally : Tally) (machine : Seen (List Kind) Op) (text : List ℕ) → IsRunning (scan bytes) tally machine → WritesRun tally.header (scan bytes).records text → IsExpanded bytes statuses.Accepted text
accepted_expanded bytes tally machine text r writes =
    let sc : InputScan = scan bytes in
    let h : Header = tally.header in
    let head : Lined Header = record { line = r.follows.at; what = h } in
    let run : LinedSteps Op = run_so_far sc tally machine r in
    let states = state_after objects (kinds_of h.catalog) (serial_ops machine.config.done) in
    let report : List ℕ = accepted_text h.catalog machine.count machine.config.done states in
    let own : HasRun sc = record { header = head; run = run; first_line = r.follows.header; steps = is_run_so_far sc tally machine r } in
    let told = accepted_told sc tally machine r machine.count machine.config.done states report refl refl refl refl in
    (report, run_report bytes statuses.Accepted report (running_sound sc tally machine r) told, (own, writes run (is_run_so_far sc tally machine r)))

-- The text of the run of a rejected input expands it, with status rejected.
pub rejected_expanded : (bytes : List ℕ) (tally : Tally) (rejection : Rejection) (text : List ℕ) → IsRejected (scan bytes) tally rejection → WritesRun tally.header (scan bytes).records text → IsExpanded bytes statuses.Rejected text
rejected_expanded bytes tally rejection text r writes =
    let sc : InputScan = scan bytes in
    let h : Header = tally.header in
    let head : Lined Header = record { line = r.follows.at; what = h } in
    let here : IsRun (object_of h) (translation_of h) (start_of h) sc.records r.ends.run = (rejected_here h r.follows.at sc.records rejection r.ends).run_is in
    let report : List ℕ = rejected_text h.catalog rejection.step rejection.line rejection.rule rejection.criterion rejection.detail in
    let own : HasRun sc = record { header = head; run = r.ends.run; first_line = r.follows.header; steps = here } in
    (report, run_report bytes statuses.Rejected report (rejected_sound sc tally rejection r) (rejected_told sc tally rejection r report refl), (own, writes r.ends.run here))

-- ---- an input has one output

one_printed : (sc : InputScan) (t u : List ℕ) → IsRunPrinted sc t → IsRunPrinted sc u → t ≡ u
one_printed sc t u a b =
    let told : t ≡ run_text b.0.header.what.catalog b.0.header.what.start (bare b.0.run) =
    only_run sc a.0 b.0 (λ head run. t ≡ run_text head.what.catalog head.what.start (bare run)) a.1 in
    told ∙ sym b.1

one_expansion : (sc : InputScan) (status : Status) (r q t u : List ℕ) → r ≡ q → IsExpansionOf sc status r t → IsExpansionOf sc status q u → t ≡ u
one_expansion sc statuses.Accepted r q t u same a b = one_printed sc t u a b
one_expansion sc statuses.Rejected r q t u same a b = one_printed sc t u a b
one_expansion sc statuses.InputFault r q t u same a b = a ∙ same ∙ sym b
one_expansion sc statuses.BadWords r q t u same a b = absurd a
one_expansion sc statuses.ReadFault r q t u same a b = absurd a
one_expansion sc statuses.WriteFault r q t u same a b = absurd a
one_expansion sc statuses.OutOfMemory r q t u same a b = absurd a
one_expansion sc statuses.TooLarge r q t u same a b = absurd a

-- An input is expanded with one status and one text at most.
pub one_expanded : (bytes : List ℕ) (s s' : Status) (t t' : List ℕ) → IsExpanded bytes s t → IsExpanded bytes s' t' → (s ≡ s') × (t ≡ t')
one_expanded bytes s s' t t' a b =
    let one = one_certified bytes s s' a.0 b.0 a.1 b.1 in
    (one.0, one_expansion (scan bytes) s' a.0 b.0 t t' one.1 (subst (λ (w : Status). IsExpansionOf (scan bytes) w a.0 t) one.0 a.2) b.2)
