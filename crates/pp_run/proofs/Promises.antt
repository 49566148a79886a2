-- The laws and promises of `run` that come from the laws of other crates.
use Rattle.std.specs.Prelude.{◌≡◌, ℕ, List, [], Option, None, Some}
use Rattle.pp_core.specs.declared.status.Status.{Status}
use Rattle.pp_core.specs.declared.status.Status.TheVariants as statuses
use Rattle.pp_cmd_views.proofs.Viewed.{kept_views}
use Rattle.pp_cmd_views.specs.Outputs.{IsViews, IsViewsOf}
use Rattle.pp_judge.specs.Inputs.{scan}
use Rattle.pp_judge.specs.Objects.{object_of, translation_of}
use Rattle.pp_judge.specs.Reports.{IsCertified}
use Rattle.pp_judge.specs.Scans.{InputScan}
use Rattle.pp_cmd_focus.proofs.Again.{lines_read_again}
use Rattle.pp_cmd_focus.proofs.TextAgain.{text_read_again}
use Rattle.pp_cmd_focus.specs.Outputs.{IsFocused, focused}
use Rattle.pp_cmd_quick.proofs.Decided.{decided}
use Rattle.pp_cmd_quick.proofs.Readers.{briefs_decide, is_briefed, keeps_boosted}
use Rattle.pp_cmd_quick.proofs.Verdicts.{some_verdict}
use Rattle.pp_cmd_quick.specs.Costs.{first_brief}
use Rattle.pp_laws_reports.proofs.Defined.{defined_laws}
use Rattle.pp_laws_reports.specs.Defined.{IsDefined}
use Rattle.pp_cmd_drill.proofs.Drilling.{prints_lines}
use Rattle.pp_cmd_drill.specs.Prints.{PrintsLines}
use Rattle.pp_records.proofs.Whole.{one_run_law}
use Rattle.pp_records.specs.Runs.{Lined, bare}
use Rattle.pp_format_read.specs.declared.header.Header.{Header}
use Rattle.pp_model.proofs.Verdict.{one_verdict}
use Rattle.pp_objects.specs.Objects.{SameAt, kinds_of, objects, place_of}
use Rattle.pp_objects.specs.laws.Objects.{objects_lawful, objects_placed}
use Rattle.pp_kind.proofs.Places.{tells_states}
use Rattle.pp_laws_summary.specs.LocalLogs.{HasSummary}
use Rattle.pp_laws_summary.proofs.Placed.{parts_of}
use Rattle.pp_laws_locality.specs.Locality.{IsLocal}
use Rattle.pp_laws_locality.proofs.RunFailures.{locals}
use Rattle.pp_laws_focus.proofs.TextsLocal.{texts_are_local}
use Rattle.pp_laws_focus.proofs.TextsRejected.{texts_reject}
use Rattle.pp_laws_runs.proofs.Prefixes.{certified_prefix_law, prefix_law}
use Rattle.pp_laws_runs.proofs.Reported.{reported_law}
use Rattle.pp_laws_runs.specs.Prefixes.{CertifiedPrefixLaw, PrefixLaw}
use Rattle.pp_summary.proofs.Sums.{sum_law}
use Rattle.pp_laws_reports.proofs.Inputs.{certify_law, quick_law}
use Rattle.pp_laws_reports.proofs.Texts.{certify_readable, quick_readable}
use Rattle.pp_laws_reports.specs.Readable.{CertifyLaw, QuickLaw, ReportLaw}
use Rattle.pp_run.proofs.Numbers.{drill_within}
use Rattle.pp_run.specs.Outputs.{DefinedLaw, IsOutput}
use Rattle.pp_run.specs.Promises.{HaveOneRun, IsDecidedAsRun, SeesKept}
use Rattle.pp_run.specs.Runs.{RunLaws}
use Rattle.pp_run.specs.Words.{command_of}
use Rattle.pp_run.specs.declared.words.Command.{Command}
use Rattle.pp_run.specs.declared.words.Command.TheVariants.{Certify, Drill, Expand, Focus, Judge, Opaque, Quick, Recheck, Swaps, Views}
use Rattle.std.proofs.Common.{refl, subst}

-- the records after any header have one run, and steps have one verdict
pub have_one_run : (header : Header) → HaveOneRun header
have_one_run header =
    record {
      run = one_run_law (object_of header) (translation_of header);
      some_verdict = some_verdict (object_of header);
      one_verdict = one_verdict (object_of header);
    }

-- what `quick` decides is the verdict on all steps of the records
pub decided_as_run : (sc : InputScan) (header : Lined Header) → sc.header ≡ Some header → IsDecidedAsRun sc header
decided_as_run sc header here =
    record {
      some = decided.some header sc.records;
      verdict = decided.verdict header sc.records;
      some_tried = (sum_law (object_of header.what) place_of).some (first_brief header.what) (bare sc.records);
      one_tried = (sum_law (object_of header.what) place_of).one (first_brief header.what) (bare sc.records);
      agrees = λ report decision. decided.agrees sc header report decision here;
      keeps_boosted = keeps_boosted header.what;
      is_briefed = is_briefed header.what;
      decides = briefs_decide header.what;
    }

-- if the status of `views` is accepted, the input is certified as accepted
pub accepted_how : (sc : InputScan) (how : Status) (report text : List ℕ) → IsViewsOf sc how report statuses.Accepted text → how ≡ statuses.Accepted
accepted_how sc statuses.Accepted report text told = refl
accepted_how sc statuses.Rejected report text told = absurd (let no : statuses.Accepted ≡ statuses.Rejected = told.0 in cc)
accepted_how sc statuses.InputFault report text told = absurd (let no : statuses.Accepted ≡ statuses.InputFault = told.0 in cc)
accepted_how sc statuses.BadWords report text told = absurd told
accepted_how sc statuses.ReadFault report text told = absurd told
accepted_how sc statuses.WriteFault report text told = absurd told
accepted_how sc statuses.OutOfMemory report text told = absurd told
accepted_how sc statuses.TooLarge report text told = absurd told

-- the last attempts that `SeesKept` is about have a number, if the status of `views` is accepted
pub sees_kept : (bytes text : List ℕ) → IsViews bytes statuses.Accepted text → SeesKept (scan bytes)
sees_kept bytes text (how, report, certified, told) =
    kept_views bytes report (subst (λ (s : Status). IsCertified bytes s report) (accepted_how (scan bytes) how report text told) certified)

-- the five lines that `drill` prints for a number that the arguments state
pub drilled_lines : (words : List (List ℕ)) (n : ℕ) → command_of words ≡ Some (Drill n) → PrintsLines n
drilled_lines words n is =
    let within = drill_within words n is in
    prints_lines n within.0 within.1

-- prefixes of an accepted input are accepted
pub prefixes_accepted : PrefixLaw × CertifiedPrefixLaw
prefixes_accepted = (prefix_law, certified_prefix_law)

-- two different lists of committed transactions never have the same report
pub reports_readable : ReportLaw × CertifyLaw × QuickLaw
reports_readable = ((certify_readable, quick_readable), certify_law, quick_law)

-- runs over the objects of a header are local
runs_local : (header : Header) → HasSummary header.style → IsLocal header.style (object_of header) place_of
runs_local header has =
    locals header.style has (object_of header) place_of
    (parts_of objects place_of SameAt objects_lawful objects_placed (kinds_of header.catalog))
    (tells_states objects objects_lawful (kinds_of header.catalog))

-- every input has an output of `focus`
focus_is_defined : (name bytes : List ℕ) → IsDefined (IsFocused name bytes)
focus_is_defined name bytes none = none (focused name bytes).0 (focused name bytes).1 refl

output_of : (words : List (List ℕ)) (bytes : List ℕ) (command : Option Command) → command_of words ≡ command → IsDefined (IsOutput command bytes)
output_of words bytes None is = λ none. none statuses.BadWords [] (refl, refl)
output_of words bytes (Some Certify) is = defined_laws.certify bytes
output_of words bytes (Some Expand) is = defined_laws.expand bytes
output_of words bytes (Some Judge) is = defined_laws.judge bytes
output_of words bytes (Some Quick) is = defined_laws.quick bytes
output_of words bytes (Some Swaps) is = defined_laws.swaps bytes
output_of words bytes (Some Recheck) is = defined_laws.recheck bytes
output_of words bytes (Some Views) is = defined_laws.views bytes
output_of words bytes (Some Opaque) is = defined_laws.opaque bytes
output_of words bytes (Some (Drill n)) is =
    let within = drill_within words n is in
    defined_laws.drill n within.0 within.1
output_of words bytes (Some (Focus name)) is = focus_is_defined name bytes

-- every input has an output
pub every_output : DefinedLaw
every_output words bytes = output_of words bytes (command_of words) refl

-- the laws of the definitions
pub run_laws : RunLaws
run_laws =
    record {
      defined = every_output;
      one_run = have_one_run;
      decided = decided_as_run;
      prefixes = prefixes_accepted;
      readable = reports_readable;
      local = runs_local;
      read_again = lines_read_again;
      text_read_again = text_read_again;
      texts_decide = (texts_are_local, texts_reject);
      styles_fail_only = reported_law;
    }
