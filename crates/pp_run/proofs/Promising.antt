-- The promise of each command, from what is printed, and how far the counter rises.
use Rattle.std.proofs.Common.{◌≡◌, ◌⊎◌, ℕ, List, Option, None, Some, inl, inr, refl, subst, sym}
use Rattle.std.specs.Io.KnownBytes.{Appends}
use Rattle.pp_core.specs.declared.status.Status.{Status}
use Rattle.pp_core.specs.declared.status.Status.TheVariants as statuses
use Rattle.pp_cmd_views.specs.Outputs.{IsViews}
use Rattle.pp_certificate_lines.specs.Rechecked.{IsCheckedSound}
use Rattle.pp_judge.proofs.Exact.{certified_exact, meets_alone, meets_simulated}
use Rattle.pp_judge.proofs.Restated.{prints_again}
use Rattle.pp_judge.specs.Accepted.{EachStepMeets}
use Rattle.pp_judge.specs.Certified.{IsDecided}
use Rattle.pp_judge.specs.Inputs.{scan, scan_within}
use Rattle.pp_judge.specs.Rejected.{IsEvident}
use Rattle.pp_judge.specs.Reports.{IsCertified}
use Rattle.pp_judge.specs.Scans.{InputScan}
use Rattle.pp_cmd_quick.specs.Decisions.{Decision, IsDecisionBehind, IsDecisionOf}
use Rattle.pp_cmd_quick.specs.Decisions.{IsDecisionTold, IsQuick, quick_fault}
use Rattle.pp_cmd_judge.proofs.Judged.{judged_exact, same_judged}
use Rattle.pp_cmd_judge.specs.Inputs.{judge_limits, judge_scan}
use Rattle.pp_cmd_judge.specs.Judgements.{IsJudgeOutput, IsJudgedEvident}
use Rattle.pp_cmd_focus.specs.Outputs.{IsFocused}
use Rattle.pp_cmd_opaque.proofs.Deciding.{accepted_opaque, accepted_ordered, boosted_run_opaque, opaque_exactly, rejected_zombie}
use Rattle.pp_cmd_opaque.specs.Meanings.{IsBoostedOpaque, MeetsAll}
use Rattle.pp_cmd_opaque.specs.Outputs.{IsOpaqueOutput}
use Rattle.pp_cmd_drill.specs.Prints.{PrintsLines, certified_text}
use Rattle.pp_cmd_drill.specs.Text.{drill_text}
use Rattle.pp_cmd_swaps.proofs.Rechecking.{prints_certificate}
use Rattle.pp_cmd_swaps.specs.Swaps.{IsSwaps, IsSwapsOf}
use Rattle.pp_records.specs.Runs.{Lined}
use Rattle.pp_format_read.specs.declared.header.Header.{Header}
use Rattle.pp_input.specs.Limits.{usual_limits}
use Rattle.pp_input.specs.declared.limits.Limits.{Limits}
use Rattle.pp_input_reader.specs.declared.cause.Cause.{Cause}
use Rattle.pp_laws_runs.proofs.ScannedRecords.{scan_styled}
use Rattle.pp_laws_runs.proofs.Timely.{meets_timely}
use Rattle.pp_run.proofs.Focused.{focused_exactly, focused_text}
use Rattle.pp_run.proofs.Promises.{accepted_how, sees_kept}
use Rattle.pp_run.specs.Bounds.{RisesAtLeast, RisesAtMost}
use Rattle.pp_run.specs.Commands.{CommandPromise, IsSerializable}
use Rattle.pp_run.specs.Outcomes.{Outcome}
use Rattle.pp_run.specs.Promises.{PrintsZombie}
use Rattle.pp_run.specs.Outputs.{IsPrinted, OfInput, Prints, PrintsOnly}
use Rattle.pp_run.specs.Words.{DrivesMachine}
use Rattle.pp_run.specs.declared.words.Command.{Command}
use Rattle.pp_run.specs.declared.words.Command.TheVariants.{Certify, Drill, Expand, Focus, Judge}
use Rattle.pp_run.specs.declared.words.Command.TheVariants.{Opaque, Quick, Recheck, Swaps, Views}
use Rattle.pp_input_reader.specs.Sources.{WhereTold}

-- what is printed, how far the counter rises, and the lines of `drill`
pub record Answers (k : Option Command) (o : Outcome) : Type 0 where
  pub output : IsPrinted o.status → OfInput k o.input (λ bytes. Prints k bytes o.status o.held o.holds)
  pub only : IsPrinted o.status → OfInput k o.input (λ bytes. PrintsOnly k bytes o.status o.held o.holds)
  pub shown : DrivesMachine k → o.status ≡ statuses.Rejected → WhereTold o.input (λ bytes. IsEvident (scan bytes))
  pub opaque : k ≡ Some Opaque → o.status ≡ statuses.Rejected → WhereTold o.input (λ bytes. IsEvident (scan bytes) ⊎ MeetsAll bytes)
  pub judged : k ≡ Some Judge → o.status ≡ statuses.Rejected → WhereTold o.input (λ bytes. IsJudgedEvident (judge_scan bytes))
  pub checked : k ≡ Some Recheck → o.status ≡ statuses.Accepted → WhereTold o.input (λ bytes. IsCheckedSound bytes)
  pub most : RisesAtMost k o.input o.before o.after
  pub least : RisesAtLeast k o.input o.status o.before o.after
  pub lines : (n : ℕ) → k ≡ Some (Drill n) → PrintsLines n

-- ---- an accepted run

-- an input whose start and steps all meet their criteria is serializable
pub serializable : (limits : Limits) (bytes : List ℕ) → EachStepMeets (scan_within limits bytes) → IsSerializable (scan_within limits bytes)
serializable limits bytes m =
    record {
      steps = m;
      simulated = meets_simulated (scan_within limits bytes) m;
      timely = meets_timely limits bytes m;
      alone = meets_alone (scan_within limits bytes) m;
    }

-- if `certify` accepts an input, its start and steps meet their criteria
certified_meets : (bytes text : List ℕ) → IsCertified bytes statuses.Accepted text → EachStepMeets (scan bytes)
certified_meets bytes text r = ((certified_exact bytes statuses.Accepted text r).0 refl).1

-- if the status of `swaps` is accepted, the input is certified as accepted
swaps_how : (sc : InputScan) (how : Status) (report text : List ℕ) → IsSwapsOf sc how report statuses.Accepted text → how ≡ statuses.Accepted
swaps_how sc statuses.Accepted report text told = refl
swaps_how sc statuses.Rejected report text told = absurd (let no : statuses.Accepted ≡ statuses.Rejected = told.0 in cc)
swaps_how sc statuses.InputFault report text told = absurd (let no : statuses.Accepted ≡ statuses.InputFault = told.0 in cc)
swaps_how sc statuses.BadWords report text told = absurd told
swaps_how sc statuses.ReadFault report text told = absurd told
swaps_how sc statuses.WriteFault report text told = absurd told
swaps_how sc statuses.OutOfMemory report text told = absurd told
swaps_how sc statuses.TooLarge report text told = absurd told

-- if `swaps` accepts an input, its start and steps meet their criteria
swaps_meets : (bytes text : List ℕ) → IsSwaps bytes statuses.Accepted text → EachStepMeets (scan bytes)
swaps_meets bytes text (how, report, certified, told) =
    certified_meets bytes report (subst (λ (s : Status). IsCertified bytes s report) (swaps_how (scan bytes) how report text told) certified)

-- If `views` accepts an input, its start and steps meet their criteria.
views_meets : (bytes text : List ℕ) → IsViews bytes statuses.Accepted text → EachStepMeets (scan bytes)
views_meets bytes text (how, report, certified, told) =
    certified_meets bytes report (subst (λ (s : Status). IsCertified bytes s report) (accepted_how (scan bytes) how report text told) certified)

-- if `quick` decides that a run is accepted, its start and steps meet their criteria
accepted_of : (sc : InputScan) (header : Lined Header) (decision : Decision) (text : List ℕ) → sc.header ≡ Some header → IsDecisionOf header sc.records decision
    → IsDecisionTold sc.header decision statuses.Accepted text → EachStepMeets sc
accepted_of sc header decision text here (inl (hold, is)) told = record { header = header; first_line = here; start = hold.0; steps = hold.1 }
accepted_of sc header decision text here (inr (line, fails, is)) told =
    absurd (let t = subst (λ (d : Decision). IsDecisionTold sc.header d statuses.Accepted text) is told in let no : statuses.Accepted ≡ statuses.Rejected = t.0 in cc)

-- If `quick` decides that an input without a fault is accepted, its start and steps meet their criteria.
accepted_behind : (fault : Option (ℕ × Cause)) (sc : InputScan) (decision : Decision) (text : List ℕ) → IsDecisionBehind fault sc decision
    → IsDecisionTold sc.header decision statuses.Accepted text → EachStepMeets sc
accepted_behind (Some fault) sc decision text is told =
    absurd (let t = subst (λ (d : Decision). IsDecisionTold sc.header d statuses.Accepted text) is told in let no : statuses.Accepted ≡ statuses.InputFault = t.0 in cc)
accepted_behind None sc decision text (header, here, is) told = accepted_of sc header decision text here is told

-- If `quick` accepts an input, its start and steps meet their criteria.
quick_meets : (bytes text : List ℕ) → IsQuick bytes statuses.Accepted text → EachStepMeets (scan bytes)
quick_meets bytes text (decision, is, told) = accepted_behind (quick_fault (scan bytes)) (scan bytes) decision text is told

-- if `judge` accepts an input, its start and steps meet their criteria
judged_meets : (bytes text : List ℕ) → IsJudgeOutput bytes statuses.Accepted text → EachStepMeets (judge_scan bytes)
judged_meets bytes text r = ((judged_exact bytes statuses.Accepted text r).0 refl).1

-- at rejected, `opaque` shows evidence, or it prints the first zombie
evident_or_zombie : (bytes text : List ℕ) (held holds : Option (List ℕ)) → IsOpaqueOutput bytes statuses.Rejected text → Appends held holds text → IsEvident (scan bytes) ⊎ MeetsAll bytes
    → IsEvident (scan bytes) ⊎ (MeetsAll bytes × PrintsZombie bytes held holds)
evident_or_zombie bytes text held holds out written (inl evident) = inl evident
evident_or_zombie bytes text held holds out written (inr all) = inr (all, (text, rejected_zombie bytes text out all, written))

-- accepted runs of style boosted are opaque
boosted_opaque : (bytes : List ℕ) → IsBoostedOpaque (scan bytes)
boosted_opaque bytes = boosted_run_opaque (scan bytes) (λ m r i. scan_styled usual_limits bytes m.header m.first_line r i)

-- ---- the promises

-- a verdict is printed
pub decided_printed : (s : Status) → IsDecided s → IsPrinted s
decided_printed statuses.Accepted d = tt
decided_printed statuses.Rejected d = tt
decided_printed statuses.BadWords d = absurd d
decided_printed statuses.InputFault d = absurd d
decided_printed statuses.ReadFault d = absurd d
decided_printed statuses.WriteFault d = absurd d
decided_printed statuses.OutOfMemory d = absurd d
decided_printed statuses.TooLarge d = absurd d

printed : (o : Outcome) (s : Status) → o.status ≡ s → IsPrinted s → IsPrinted o.status
printed o s is p = subst IsPrinted (sym is) p

-- the promise of the command that the arguments are
pub promised : (k : Option Command) (o : Outcome) → Answers k o → CommandPromise k o
promised None o a = tt
promised (Some Certify) o a =
    record {
      prints = λ p bytes is. record { output = a.output p bytes is; only = a.only p bytes is };
      exact = λ p bytes is. let out = a.output p bytes is in certified_exact bytes o.status out.0 out.1;
      accepted = λ e bytes is.
          let out = a.output (printed o statuses.Accepted e tt) bytes is in
          serializable usual_limits bytes (certified_meets bytes out.0 (subst (λ (s : Status). IsCertified bytes s out.0) e out.1));
      rejected = a.shown tt;
      most = a.most;
      least = a.least;
    }
promised (Some Expand) o a =
    record {
      prints = λ p bytes is. record { output = a.output p bytes is; only = a.only p bytes is };
      exact = λ p bytes is. let out = a.output p bytes is in certified_exact bytes o.status out.1.0 out.1.1;
      accepted = λ e bytes is.
          let out = a.output (printed o statuses.Accepted e tt) bytes is in
          serializable usual_limits bytes (certified_meets bytes out.1.0 (subst (λ (s : Status). IsCertified bytes s out.1.0) e out.1.1));
      rejected = a.shown tt;
      again = λ d bytes is.
          let out = a.output (decided_printed o.status d) bytes is in
          prints_again bytes o.status out.0 o.held o.holds d out.1 out.2;
      most = a.most;
      least = a.least;
    }
promised (Some Judge) o a =
    record {
      prints = λ p bytes is. record { output = a.output p bytes is; only = a.only p bytes is };
      exact = λ p bytes is. let out = a.output p bytes is in judged_exact bytes o.status out.0 out.1;
      same = λ p bytes is few.
          let out = a.output p bytes is in
          record {
            output = (out.0, (same_judged bytes o.status out.0 few).0 out.1, out.2);
            only = λ other text certified. a.only p bytes is other text ((same_judged bytes other text few).1 certified);
          };
      accepted = λ e bytes is.
          let out = a.output (printed o statuses.Accepted e tt) bytes is in
          serializable judge_limits bytes (judged_meets bytes out.0 (subst (λ (s : Status). IsJudgeOutput bytes s out.0) e out.1));
      rejected = a.judged refl;
      most = a.most;
      least = a.least;
    }
promised (Some Quick) o a =
    record {
      prints = λ p bytes is. record { output = a.output p bytes is; only = a.only p bytes is };
      accepted = λ e bytes is.
          let out = a.output (printed o statuses.Accepted e tt) bytes is in
          serializable usual_limits bytes (quick_meets bytes out.0 (subst (λ (s : Status). IsQuick bytes s out.0) e out.1));
      most = a.most;
      least = a.least;
    }
promised (Some Swaps) o a =
    record {
      prints = λ p bytes is. record { output = a.output p bytes is; only = a.only p bytes is };
      accepted = λ e bytes is.
          let out = a.output (printed o statuses.Accepted e tt) bytes is in
          serializable usual_limits bytes (swaps_meets bytes out.0 (subst (λ (s : Status). IsSwaps bytes s out.0) e out.1));
      rejected = a.shown tt;
      certified = λ e bytes is.
          let out = a.output (printed o statuses.Accepted e tt) bytes is in
          prints_certificate bytes out.0 o.held o.holds (subst (λ (s : Status). IsSwaps bytes s out.0) e out.1) out.2;
      most = a.most;
      least = a.least;
    }
promised (Some Recheck) o a =
    record {
      prints = λ p bytes is. record { output = a.output p bytes is; only = a.only p bytes is };
      checked = a.checked refl;
      most = a.most;
      least = a.least;
    }
promised (Some Views) o a =
    record {
      prints = λ p bytes is. record { output = a.output p bytes is; only = a.only p bytes is };
      accepted = λ e bytes is.
          let out = a.output (printed o statuses.Accepted e tt) bytes is in
          serializable usual_limits bytes (views_meets bytes out.0 (subst (λ (s : Status). IsViews bytes s out.0) e out.1));
      rejected = a.shown tt;
      seen = λ e bytes is.
          let out = a.output (printed o statuses.Accepted e tt) bytes is in
          sees_kept bytes out.0 (subst (λ (s : Status). IsViews bytes s out.0) e out.1);
      most = a.most;
      least = a.least;
    }
promised (Some Opaque) o a =
    record {
      prints = λ p bytes is. record { output = a.output p bytes is; only = a.only p bytes is };
      exact = λ p bytes is. let out = a.output p bytes is in opaque_exactly bytes o.status out.0 out.1;
      accepted = λ e bytes is.
          let out = a.output (printed o statuses.Accepted e tt) bytes is in
          serializable usual_limits bytes (accepted_opaque bytes out.0 (subst (λ (s : Status). IsOpaqueOutput bytes s out.0) e out.1)).0.1;
      ordered = λ e bytes is.
          let out = a.output (printed o statuses.Accepted e tt) bytes is in
          accepted_ordered bytes out.0 (subst (λ (s : Status). IsOpaqueOutput bytes s out.0) e out.1);
      rejected = λ e bytes is.
          let out = a.output (printed o statuses.Rejected e tt) bytes is in
          evident_or_zombie bytes out.0 o.held o.holds (subst (λ (s : Status). IsOpaqueOutput bytes s out.0) e out.1) out.2 (a.opaque refl e bytes is);
      boosted = λ bytes is. boosted_opaque bytes;
      most = a.most;
      least = a.least;
    }
promised (Some (Drill n)) o a =
    record {
      prints = λ p. record { output = a.output p; only = a.only p };
      accepted = λ p. (a.output p).1.4;
      lines = a.lines n refl;
      serializable = serializable usual_limits (drill_text n) (certified_meets (drill_text n) (certified_text n) (a.lines n refl).report);
      most = a.most;
      least = a.least;
    }
promised (Some (Focus name)) o a =
    record {
      prints = λ p bytes is. record { output = a.output p bytes is; only = a.only p bytes is };
      exact = λ p bytes is. let out = a.output p bytes is in focused_exactly name bytes o.status out.0 out.1;
      restricted = λ e bytes is.
          let out = a.output (printed o statuses.Accepted e tt) bytes is in
          subst (Appends o.held o.holds) (focused_text name bytes out.0 (subst (λ (s : Status). IsFocused name bytes s out.0) e out.1)) out.2;
      free = a.most;
    }
