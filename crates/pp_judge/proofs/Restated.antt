-- The text of a run, scanned again.
use Rattle.std.specs.Prelude.{◌≡◌, ◌≤◌, ◌+◌, ℕ, suc, ◌==◌, ◌&&◌, Bool, true, false, cond, List, []}
use Rattle.std.specs.Prelude.{◌∷◌, ◌++◌, length, map, fold, Option, None, Some, Ok}
use Rattle.std.specs.Option.{option_or}
use Rattle.std.specs.Io.KnownBytes.{Appends}
use Rattle.std.proofs.Common.{refl, sym, ap, subst, ◌∙◌, arith, append_assoc}
use Rattle.std.proofs.lemmas.Bool.Decides.{nat_tests}
use Rattle.std.proofs.lemmas.List.{append-nil, length-map}
use mathlib.Core.Logic.{inl, inr}
use Rattle.pp_core.specs.Catalogs.{Objects}
use Rattle.pp_core.specs.Steps.{Step}
use Rattle.pp_core.specs.declared.limits.TheConstants.{MOST_LINES, MOST_TRANSACTIONS}
use Rattle.pp_core.specs.declared.status.Status.{Status}
use Rattle.pp_core.specs.declared.status.Status.TheVariants as statuses
use Rattle.pp_records.specs.Inputs.{Accepts, Faulty, IsReport, IsReportBehind, IsReportOf, IsRunReport}
use Rattle.pp_records.specs.Inputs.{OverrunsAt, StartRejected, StepRejected}
use Rattle.pp_records.specs.Records.{RunRecord, Plain}
use Rattle.pp_records.specs.Reprints.{relined}
use Rattle.pp_records.specs.Runs.{HasTooManySteps, IsRun, Lined, LinedSteps, Records, bare}
use Rattle.pp_records.specs.Styles.{numbered, plain, restated}
use Rattle.pp_records.proofs.Ends.{length_bare}
use Rattle.pp_records.proofs.Reporting.{input_law, plain_input_law}
use Rattle.pp_records.proofs.Reprinting.{reprint_law}
use Rattle.pp_records.proofs.Restating.{bare_numbered, restated_run}
use Rattle.pp_records.proofs.Whole.{one_run_law}
use Rattle.pp_input.specs.Lines.{blank, numbered_from, numbered_lines}
use Rattle.pp_input.specs.Limits.{usual_limits}
use Rattle.pp_input.specs.Overruns.{lines_before, overrun, scanned_lines}
use Rattle.pp_input.specs.declared.fault.LineFault.{LineFault}
use Rattle.pp_format_read.specs.declared.header.Header.{Header}
use Rattle.pp_format_read.specs.declared.start.Start.{Start}
use Rattle.pp_format_write.specs.Headers.{rules_header}
use Rattle.pp_format_write.specs.RunTexts.{printed_header, run_lines, run_text}
use Rattle.pp_format_write.specs.Statable.{CanStart, IsCatalog, IsStatable, IsStatableRun, is_begin}
use Rattle.pp_format_write.specs.Steps.{step_bytes}
use Rattle.pp_format_write.proofs.HeadersBack as headers
use Rattle.pp_format_write.proofs.RunTexts.{all_show, text_passes, text_scanned, text_short}
use Rattle.pp_format_write.proofs.StepsBack as steps
use Rattle.pp_model.specs.Lists.{Each}
use Rattle.pp_model.specs.Rules.{IsVerdict}
use Rattle.pp_objects.specs.Objects.{kinds_of, place_of}
use Rattle.pp_objects.specs.declared.act.Op.{Op}
use Rattle.pp_input_reader.specs.declared.cause.Cause.{Cause}
use Rattle.pp_input_reader.specs.declared.cause.Cause.TheVariants.{TooManySteps}
use Rattle.pp_input_reader.specs.Limits.{limit_fault}
use Rattle.pp_judge.specs.Accepted.{HasRun}
use Rattle.pp_judge.specs.Certified.{IsDecided}
use Rattle.pp_judge.specs.Inputs.{IsFaultOf, no_header, or_fault, scan}
use Rattle.pp_judge.specs.Objects.{object_of, setting_of, start_of, translation_of}
use Rattle.pp_judge.specs.Reports.{IsCertified, IsExpanded, IsExpansionOf, IsRunPrinted, IsTold, RunReport}
use Rattle.pp_judge.specs.Restated.{IsRestated, IsRunOf, PrintsAgain, restated_scan, restated_text}
use Rattle.pp_judge.specs.Restated.{rules_header_of}
use Rattle.pp_judge.specs.Scans.{InputScan, begins, is_begin_record, nothing, scan_line, scan_lines}
use Rattle.pp_judge.proofs.Begun.{begun_run, few_run, how_many, how_many_are}
use Rattle.pp_judge.proofs.Scanning.{next_taken, scan_header, scan_record}
use Rattle.pp_judge.proofs.Stating.{AreStated, begins_append, stated_scan, steps_stated}

-- ---- the lines of steps behind a header of style rules

no_more : (b : Bool) (k m : ℕ) → k + cond b (1 + m) m ≤ 20_000 → (b && k == MOST_TRANSACTIONS) ≡ false
no_more true k m few = other k m few
  where
    other : (k m : ℕ) → k + (1 + m) ≤ 20_000 → (k == 20_000) ≡ false
    other k m few = grind (arith, nat_tests)
no_more false k m few = refl

shifted : (b : Bool) (k m : ℕ) (r : Lined (RunRecord Op)) → k + cond b (1 + m) m ≤ 20_000 → (k + length (cond b (r ∷ []) [])) + m ≤ 20_000
shifted true k m r few = omega (arith, few)
shifted false k m r few = omega (arith, few)

from_none : (n : ℕ) → n ≤ 20_000 → 0 + n ≤ 20_000
from_none n few = omega (arith, few)

one_on : (n i : ℕ) → n ≡ suc i → n + 1 ≡ suc (suc i)
one_on n i e = omega (arith, e)

module _ (catalog : Objects) (start : Option Start) (cat : IsCatalog catalog) where
  -- the header of a restated run, on line 1
  abbrev pub here : Lined Header
  here = record { line = 1; what = rules_header catalog start }

  -- the scan of a restated run whose header has these records after it
  abbrev pub so_far : Records (RunRecord Op) → InputScan
  so_far rs = record { header = Some here; records = rs; fault = None }

  abbrev at_line : ℕ → Step Op → Lined (RunRecord Op)
  at_line n s = record { line = n; what = Plain s }

  step_shows : (s : Step Op) → blank (step_bytes catalog s) ≡ false
  step_shows s = let shown = all_show catalog start (s ∷ []) in shown.1.0

  step_scanned : (rs : Records (RunRecord Op)) (n : ℕ) (s : Step Op) → IsStatable catalog s → (is_begin_record (Plain s) && begins rs == MOST_TRANSACTIONS) ≡ false
      → scan_line MOST_TRANSACTIONS (so_far rs) (n, step_bytes catalog s) ≡ so_far (rs ++ at_line n s ∷ [])
  step_scanned rs n s h few =
      scan_record MOST_TRANSACTIONS (so_far rs) here (n, step_bytes catalog s) (Ok (Plain s)) refl refl (step_shows s) (steps.reads_back (rules_header catalog start) s refl cat h)
      ∙ next_taken MOST_TRANSACTIONS (so_far rs) n (Plain s) few

  steps_scanned : (rs : Records (RunRecord Op)) (n i : ℕ) (ss : List (Step Op)) → n ≡ suc i → Each (IsStatable catalog) ss → begins rs + how_many ss ≤ 20_000
      → fold (scan_line MOST_TRANSACTIONS) (so_far rs) (numbered_from n (map (step_bytes catalog) ss)) ≡ so_far (rs ++ plain (numbered i ss))
  steps_scanned rs n i [] e each few = ap (λ (l : Records (RunRecord Op)). so_far l) (sym (append-nil rs))
  steps_scanned rs n i (s ∷ ss) e each few =
      let it : Lined (RunRecord Op) = at_line n s in
      let test : (is_begin s && begins rs == MOST_TRANSACTIONS) ≡ false = no_more (is_begin s) (begins rs) (how_many ss) few in
      let more : begins (rs ++ it ∷ []) + how_many ss ≤ 20_000 =
      subst (λ (k : ℕ). k + how_many ss ≤ 20_000) (sym (begins_append rs (it ∷ []))) (shifted (is_begin s) (begins rs) (how_many ss) it few) in
      let rest : Records (RunRecord Op) = plain (numbered (suc i) ss) in
      ap (λ (sc : InputScan). fold (scan_line MOST_TRANSACTIONS) sc (numbered_from (n + 1) (map (step_bytes catalog) ss))) (step_scanned rs n s each.0 test)
      ∙ steps_scanned (rs ++ it ∷ []) (n + 1) (suc i) ss (one_on n i e) each.1 more
      ∙ ap (λ (l : Records (RunRecord Op)). so_far l) (append_assoc rs (it ∷ []) rest)
      ∙ ap (λ (k : ℕ). so_far (rs ++ at_line k s ∷ rest)) e

  -- and that header before them
  lines_scanned : (ss : List (Step Op)) → CanStart catalog start → Each (IsStatable catalog) ss → how_many ss ≤ 20_000 → scan_lines MOST_TRANSACTIONS (numbered_from 1 (run_lines catalog start ss)) ≡ so_far (plain (numbered 1 ss))
  lines_scanned ss begun each few =
      let header = printed_header catalog start in
      let shown = all_show catalog start ss in
      let first : scan_line MOST_TRANSACTIONS nothing (1, header) ≡ so_far [] = scan_header MOST_TRANSACTIONS nothing (1, header) (Ok (rules_header catalog start)) refl refl shown.0 (headers.reads_back catalog start cat begun) in
      ap (λ (sc : InputScan). fold (scan_line MOST_TRANSACTIONS) sc (numbered_from 2 (map (step_bytes catalog) ss))) first ∙ steps_scanned [] 2 1 ss refl each (from_none (how_many ss) few)

-- ---- the text

length_numbered : (n : ℕ) (ls : List (List ℕ)) → length (numbered_from n ls) ≡ length ls
length_numbered n [] = refl
length_numbered n (l ∷ ls) = ap (λ (k : ℕ). suc k) (length_numbered (n + 1) ls)

module _ (catalog : Objects) (start : Option Start) (ss : List (Step Op)) (h : IsStatableRun catalog start ss) where
  abbrev text : List ℕ
  text = run_text catalog start ss

  passes : overrun usual_limits text ≡ None
  passes = text_passes catalog start ss h

  few_begun : how_many ss ≤ 20_000
  few_begun = let begun = h.begins in omega (arith, begun, how_many_are ss)

  text_lines : scan_lines MOST_TRANSACTIONS (scanned_lines usual_limits text) ≡ so_far catalog start h.over (plain (numbered 1 ss))
  text_lines = ap (scan_lines MOST_TRANSACTIONS) (text_scanned catalog start ss h) ∙ lines_scanned catalog start h.over ss h.begun h.each few_begun

  abbrev behind : InputScan → Option LineFault → InputScan
  behind sc o = or_fault sc (option_or (limit_fault o) (no_header text sc.header))

  -- The scan of the text of a run has the header of the run and its steps as records, and no fault.
  pub text_scan : scan text ≡ so_far catalog start h.over (plain (numbered 1 ss))
  text_scan =
      ap (λ (sc : InputScan). behind sc (overrun usual_limits text)) text_lines ∙ ap (λ (o : Option LineFault). behind (so_far catalog start h.over (plain (numbered 1 ss))) o) passes

  few_lines : length (numbered_lines text) ≤ MOST_LINES
  few_lines =
      let few = h.few in
      let all : numbered_lines text ≡ numbered_from 1 (run_lines catalog start ss) = sym (ap (λ (o : Option LineFault). lines_before o (numbered_lines text)) passes) ∙ text_scanned catalog start ss h in
      omega (
        arith,
        few,
        ap (λ (l : List (ℕ × List ℕ)). length l) all,
        length_numbered 1 (run_lines catalog start ss),
        length-map ss (step_bytes catalog),
      )

-- ---- the run of an input

length_restated : (run : LinedSteps Op) → length (restated run) ≡ length run
length_restated run = sym (length_bare (restated run)) ∙ ap (λ (w : List (Step Op)). length w) (bare_numbered 1 (bare run)) ∙ length_bare run

no_overrun : (sc : InputScan) (header : Lined Header) → sc.header ≡ Some header → IsFaultOf sc None
    → (line : ℕ) → HasTooManySteps (object_of header.what) (translation_of header.what) (start_of header.what) sc.records line → ⊥
no_overrun sc header is (inl fault) = absurd (let e : None ≡ Some (fault.0, TooManySteps) = fault.2 in cc)
no_overrun sc header is (inr fault) = λ line many. fault.0 line (by sc.header is line many)
  where
    by : (o : Option (Lined Header)) → o ≡ Some header → (line : ℕ) → HasTooManySteps (object_of header.what) (translation_of header.what) (start_of header.what) sc.records line
        → OverrunsAt setting_of o sc.records line
    by o e line many = subst (λ (w : Option (Lined Header)). OverrunsAt setting_of w sc.records line) (sym e) many

module _ (bytes : List ℕ) (header : Lined Header) (run : LinedSteps Op) (h : IsRunOf bytes header run) where
  few : length run ≤ 200_000
  few = few_run header.what (scan bytes).records run h.is (no_overrun (scan bytes) header h.headed h.sound)

  statable : IsStatableRun header.what.catalog header.what.start (bare run)
  statable =
      let sc = stated_scan bytes in
      let stated = subst (λ (o : Option (Lined Header)). AreStated o (scan bytes).records) h.headed sc.stated in
      let begun = begun_run header.what (scan bytes).records run h.is in
      record {
        over = stated.0;
        begun = stated.1;
        each = steps_stated header.what (scan bytes).records run stated.1 stated.2 h.is;
        few = omega (arith, few, length_bare run);
        begins = omega (arith, sc.begun, begun, how_many_are (bare run));
      }

  scanned_again : scan (restated_text header.what run) ≡ restated_scan header.what run
  scanned_again = text_scan header.what.catalog header.what.start (bare run) statable

  sound_again : IsFaultOf (restated_scan header.what run) None
  sound_again =
      let law = plain_input_law setting_of TooManySteps in
      (law.fault (λ x. (place_of, x.what.style, kinds_of x.what.catalog, refl)) (Some (rules_header_of header.what)) (restated run) None None (omega (arith, few, length_restated run))).1 refl

  run_again : IsRunOf (restated_text header.what run) (rules_header_of header.what) (restated run)
  run_again =
      let again = rules_header_of header.what in
      let kinds = kinds_of header.what.catalog in
      let same : IsRun (object_of again.what) (translation_of again.what) (start_of again.what) (plain (restated run)) (restated run) =
      restated_run (object_of header.what) (translation_of header.what) place_of kinds (start_of header.what) (scan bytes).records run h.is in
      record {
        sound = subst (λ (sc : InputScan). IsFaultOf sc None) (sym scanned_again) sound_again;
        headed = ap (λ (sc : InputScan). sc.header) scanned_again;
        is = subst (λ (sc : InputScan). IsRun (object_of again.what) (translation_of again.what) (start_of again.what) sc.records (restated run)) (sym scanned_again) same;
      }

  run_report : (r : RunReport) → IsRunReport setting_of (Some header) (scan bytes).records r → IsRunReport setting_of (Some (rules_header_of header.what)) (plain (restated run)) (relined 1 r)
  run_report r (other, v, is, verdict, report) =
      let same : other ≡ run = (one_run_law (object_of header.what) (translation_of header.what)).run (start_of header.what) (scan bytes).records other run is h.is in
      let report_is : IsReportOf (setting_of header) run v r = subst (λ (w : LinedSteps Op). IsReportOf (setting_of header) w v r) same report in
      let verdict_is = subst (λ (w : LinedSteps Op). IsVerdict (object_of header.what) (start_of header.what) (bare w) v) same verdict in
      let again = reprint_law setting_of Cause 1 place_of (kinds_of header.what.catalog) header (scan bytes).records run v r h.is verdict_is report_is in
      (restated run, v, again.0, again.1, again.2)

  report_again : (r : RunReport) → IsReport setting_of TooManySteps (scan bytes) r → IsReport setting_of TooManySteps (restated_scan header.what run) (relined 1 r)
  report_again r (fault, is, report) =
      let none : fault ≡ None = (input_law setting_of TooManySteps).one_fault (scan bytes) fault None is h.sound in
      let here : IsRunReport setting_of (scan bytes).header (scan bytes).records r = subst (λ (o : Option (ℕ × Cause)). IsReportBehind setting_of o (scan bytes) r) none report in
      let of_run = subst (λ (o : Option (Lined Header)). IsRunReport setting_of o (scan bytes).records r) h.headed here in
      (None, sound_again, run_report r of_run)

  told_again : (r : RunReport) (told : List ℕ) → IsTold (Some header) r statuses.Accepted told → IsTold (Some (rules_header_of header.what)) (relined 1 r) statuses.Accepted told
  told_again (Faulty line cause) told t = absurd (let e : statuses.Accepted ≡ statuses.InputFault = t.0 in cc)
  told_again (Accepts count committed final) told t = t
  told_again (StartRejected line criterion) told t = absurd (let e : statuses.Accepted ≡ statuses.Rejected = t.0 in cc)
  told_again (StepRejected number line criterion before step) told t = absurd (let e : statuses.Accepted ≡ statuses.Rejected = t.0 in cc)

  accepted_again : (told : List ℕ) → IsCertified bytes statuses.Accepted told → IsCertified (restated_text header.what run) statuses.Accepted told
  accepted_again told (r, is, t) =
      let here : IsTold (Some header) r statuses.Accepted told = subst (λ (o : Option (Lined Header)). IsTold o r statuses.Accepted told) h.headed t in (
        relined 1 r,
        subst (λ (sc : InputScan). IsReport setting_of TooManySteps sc (relined 1 r)) (sym scanned_again) (report_again r is),
        subst (λ (sc : InputScan). IsTold sc.header (relined 1 r) statuses.Accepted told) (sym scanned_again) (told_again r told here),
      )

  -- The text of the run of an input is an input again, with the same steps and the same report but for the lines.
  pub is_restated : IsRestated bytes header.what run
  is_restated =
      let catalog = header.what.catalog in
      let start = header.what.start in
      record {
        statable = statable;
        scanned = scanned_again;
        again = run_again;
        steps = bare_numbered 1 (bare run);
        report = λ r is. subst (λ (sc : InputScan). IsReport setting_of TooManySteps sc (relined 1 r)) (sym scanned_again) (report_again r is);
        accepted = accepted_again;
        within = text_passes catalog start (bare run) statable;
        lines = few_lines catalog start (bare run) statable;
        short = text_short catalog start (bare run) statable;
      }

-- ---- what is printed of an input with a verdict

told_faulty : (o : Option (Lined Header)) (line : ℕ) (cause : Cause) (status : Status) (printed : List ℕ) → IsTold o (Faulty line cause) status printed → status ≡ statuses.InputFault
told_faulty None line cause status printed t = t.0
told_faulty (Some header) line cause status printed t = t.0

sound_behind : (fault : Option (ℕ × Cause)) (sc : InputScan) (report : RunReport) (status : Status) (printed : List ℕ) → IsDecided status → IsFaultOf sc fault → IsReportBehind setting_of fault sc report → IsTold sc.header report status printed
    → IsFaultOf sc None
sound_behind None sc report status printed decided is r t = is
sound_behind (Some f) sc report status printed decided is r t =
    absurd (subst IsDecided (told_faulty sc.header f.0 f.1 status printed (subst (λ (w : RunReport). IsTold sc.header w status printed) r t)) decided)

printed_run : (sc : InputScan) (status : Status) (report printed : List ℕ) → IsDecided status → IsExpansionOf sc status report printed → IsRunPrinted sc printed
printed_run sc statuses.Accepted report printed decided is = is
printed_run sc statuses.Rejected report printed decided is = is
printed_run sc statuses.InputFault report printed decided is = absurd decided
printed_run sc statuses.BadWords report printed decided is = absurd decided
printed_run sc statuses.ReadFault report printed decided is = absurd decided
printed_run sc statuses.WriteFault report printed decided is = absurd decided
printed_run sc statuses.OutOfMemory report printed decided is = absurd decided
printed_run sc statuses.TooLarge report printed decided is = absurd decided

-- The text that expands an accepted or rejected input is the text of its run, and an input again.
pub prints_again : (bytes : List ℕ) (status : Status) (printed : List ℕ) (old new : Option (List ℕ)) → IsDecided status → IsExpanded bytes status printed → Appends old new printed → PrintsAgain bytes old new
prints_again bytes status printed old new decided (report, certified, expanded) appends =
    let sc : InputScan = scan bytes in
    let sound : IsFaultOf sc None = sound_behind certified.1.0 sc certified.0 status report decided certified.1.1 certified.1.2 certified.2 in
    let p : IsRunPrinted sc printed = printed_run sc status report printed decided expanded in
    let r : HasRun sc = p.0 in (
      r,
      subst (Appends old new) p.1 appends,
      is_restated bytes r.header r.run (record { sound = sound; headed = r.first_line; is = r.steps }),
    )
