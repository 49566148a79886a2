-- The law on prefixes.
use Rattle.std.specs.Prelude.{◌≡◌, ◌≤◌, ◌+◌, ℕ, List, [], ◌∷◌, ◌++◌, length, map, Option, None, Some}
use Rattle.std.proofs.Common.{refl, sym, ap, subst, ◌∙◌, arith, length-append}
use Rattle.std.proofs.lemmas.Option.{same_Some}
use Rattle.pp_core.specs.declared.status.Status.TheVariants as statuses
use Rattle.pp_records.specs.Inputs.{Accepts, Faulty, IsReport, StartRejected, StepRejected, steps_of}
use Rattle.pp_records.specs.Runs.{IsRun, Lined, LinedSteps, bare}
use Rattle.pp_input.specs.Lines.{ended, rest}
use Rattle.pp_input.proofs.Overruns.{ended_append}
use Rattle.pp_format_read.specs.declared.header.Header.{Header}
use Rattle.pp_model.specs.Serial.{Attempt, attempts, committed_tx}
use Rattle.pp_objects.specs.declared.act.Op.{Op}
use Rattle.pp_objects.specs.declared.states.ObjectState.{ObjectState}
use Rattle.pp_report.specs.Reports.{accepted_text}
use Rattle.pp_input_reader.specs.declared.cause.Cause.TheVariants.{TooManySteps}
use Rattle.pp_judge.specs.Accepted.{HasRun}
use Rattle.pp_judge.specs.Inputs.{IsFaultOf, scan}
use Rattle.pp_judge.specs.Objects.{object_of, setting_of, start_of, translation_of}
use Rattle.pp_judge.specs.Reports.{IsTold, RunReport}
use Rattle.pp_judge.specs.Scans.{InputScan}
use Rattle.pp_laws_runs.specs.Prefixes.{Begins, CertifiedPrefixLaw, EndsLine, FirstLineLaw, PrefixLaw}
use Rattle.pp_laws_runs.proofs.Judging.{AreAccepted, accepted_parts, accepted_whole, first_accepted}
use Rattle.pp_laws_runs.proofs.Judging.{first_committed, first_sound, first_steps}
use Rattle.pp_laws_runs.proofs.Judging.{run_whole}
use Rattle.pp_laws_runs.proofs.Scanned.{front_header, front_records, front_sound}

-- The run of an input whose steps are all accepted is all of its steps.
run_is : (sc : InputScan) (header : Lined Header) → sc.header ≡ Some header → AreAccepted setting_of TooManySteps header sc.records → (r : HasRun sc) → r.run ≡ steps_of (setting_of header) sc.records
run_is sc header there accepted r =
    let same : r.header ≡ header = same_Some r.header header (sym r.first_line ∙ there) in
    run_whole setting_of TooManySteps header sc.records r.run accepted
    (subst (λ (h : Lined Header). IsRun (object_of h.what) (translation_of h.what) (start_of h.what) sc.records r.run) same r.steps)

-- Each prefix of an accepted input that has the header's line and ends a line is accepted.
pub prefix_law : PrefixLaw
prefix_law front back steps committed is (final, report) =
    let sc : InputScan = scan front in
    let wider : InputScan = scan (front ++ back) in
    let s = setting_of is.header in
    let whole = accepted_parts setting_of TooManySteps is.header wider steps committed final is.read report in
    let there : sc.header ≡ Some is.header = front_header front back is whole.0 in
    let records : Begins sc.records wider.records = front_records front back is whole.0 in
    let accepted = first_accepted setting_of TooManySteps is.header sc wider records whole.1 in
    let none : IsFaultOf sc None = first_sound setting_of TooManySteps is.header sc wider records there is.read (front_sound front back is whole.0) whole.0 in
    let ss : LinedSteps Op = steps_of s sc.records in
    let earlier : List (Attempt Op) = attempts s.start (bare ss) in
    let rest = first_steps setting_of TooManySteps is.header sc wider records in
    record {
      header = there ∙ sym is.read;
      no_fault = none;
      fewer = length ss;
      earlier = earlier;
      accepted = accepted_whole setting_of TooManySteps is.header sc (length ss) earlier there (none, accepted, refl, refl);
      committed_begin = subst (λ (l : List (Attempt Op)). Begins (map committed_tx earlier) (map committed_tx l)) (sym whole.3)
          (first_committed setting_of TooManySteps is.header sc wider records whole.1);
      run_begins = λ run all. (
        rest.0,
        run_is wider is.header is.read whole.1 all ∙ rest.1 ∙ ap (λ (w : LinedSteps Op). w ++ rest.0) (sym (run_is sc is.header there accepted run)),
      );
    }

-- ---- the output

accepted_told : (o : Option (Lined Header)) (r : RunReport) (text : List ℕ) → IsTold o r statuses.Accepted text → (steps : ℕ) × (committed : List (Attempt Op)) × (final : List ObjectState) × (r ≡ Accepts steps committed final)
accepted_told o (Faulty line cause) text is = absurd (let e : statuses.Accepted ≡ statuses.InputFault = is.0 in cc)
accepted_told o (Accepts steps committed final) text is = (steps, committed, final, refl)
accepted_told None (StartRejected line criterion) text is = absurd is
accepted_told (Some header) (StartRejected line criterion) text is = absurd (let e : statuses.Accepted ≡ statuses.Rejected = is.0 in cc)
accepted_told None (StepRejected number line criterion before step) text is = absurd is
accepted_told (Some header) (StepRejected number line criterion before step) text is = absurd (let e : statuses.Accepted ≡ statuses.Rejected = is.0 in cc)

-- If an input is certified as accepted, so is each prefix with its header that ends a line.
pub certified_prefix_law : CertifiedPrefixLaw
certified_prefix_law front back text is (report, reported, told) =
    let bytes : List ℕ = front ++ back in
    let all = accepted_told (scan bytes).header report text told in
    let whole : IsReport setting_of TooManySteps (scan bytes) (Accepts all.0 all.1 all.2) = subst (λ (r : RunReport). IsReport setting_of TooManySteps (scan bytes) r) all.3 reported in
    let first = prefix_law front back all.0 all.1 is (all.2, whole) in
    let one : RunReport = Accepts first.fewer first.earlier first.accepted.0 in
    let shorter : List ℕ = accepted_text is.header.what.catalog first.fewer (map committed_tx first.earlier) first.accepted.0 in
    (shorter, (one, first.accepted.1, subst (λ (o : Option (Lined Header)). IsTold o one statuses.Accepted shorter) (sym (first.header ∙ is.read)) (refl, refl)))

-- ---- a header on line 1

some_ended : (front : List ℕ) → EndsLine front → 1 ≤ length (ended front)
some_ended front (start, is) =
    let parts : length (ended front) ≡ length (ended start) + 1 = ap (λ (bytes : List ℕ). length (ended bytes)) is ∙ ap length (ended_append [] start (10 ∷ [])) ∙ length-append (ended start) (rest start ∷ []) in
    omega (arith, parts)

-- If the header is on line 1, each prefix that ends a line has the header's line whole.
pub first_line_law : FirstLineLaw
first_line_law front back header ends read one =
    record {
      ends = ends;
      header = header;
      read = read;
      held = subst (λ (n : ℕ). n ≤ length (ended front)) (sym one) (some_ended front ends);
    }
