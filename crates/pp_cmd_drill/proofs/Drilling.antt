-- What is printed for the run, and the report by which its text is certified.
use Rattle.std.specs.Prelude.{◌≡◌, ◌≤◌, ℕ, List, [], ◌++◌, codes, length, map, None, Some}
use Rattle.std.proofs.Common.{refl, sym, ap, ◌∙◌, subst, arith}
use Rattle.std.proofs.lemmas.List.{append-nil, length-map}
use Rattle.std.proofs.lemmas.Option.{same_Some}
use Rattle.std.specs.Fmt.{decimal}
use Rattle.pp_core.specs.Steps.{Step}
use Rattle.pp_core.specs.declared.call.Kind.{Kind}
use Rattle.pp_core.specs.declared.entry.CommittedTx.{CommittedTx}
use Rattle.pp_core.specs.declared.status.Status.{Status}
use Rattle.pp_core.specs.declared.status.Status.TheVariants as statuses
use Rattle.pp_records.proofs.Reporting.{input_law, plain_input_law}
use Rattle.pp_records.specs.Inputs.{Accepts, Faulty, IsReport, IsRunReport, StartRejected, StepRejected}
use Rattle.pp_records.specs.PlainInputs.{AreStyled}
use Rattle.pp_records.specs.Runs.{Lined, bare}
use Rattle.pp_records.specs.Styles.{plain}
use Rattle.pp_format_read.specs.declared.header.Header.{Header}
use Rattle.pp_model.specs.Object.{state}
use Rattle.pp_model.specs.Rules.{Accepted, IsVerdict}
use Rattle.pp_model.specs.Serial.{attempts, committed_tx, serial}
use Rattle.pp_model.specs.Sound.{serial_ops}
use Rattle.pp_objects.specs.Objects.{kinds_of, objects, place_of}
use Rattle.pp_objects.specs.declared.act.Op.{Op}
use Rattle.pp_objects.specs.declared.states.ObjectState.{ObjectState}
use Rattle.pp_input_reader.specs.declared.cause.Cause.TheVariants.{TooManySteps}
use Rattle.pp_report.specs.Reports.{accepted_line, accepted_text}
use Rattle.pp_machine.specs.Machines.{Seen}
use Rattle.pp_kind.specs.Object.{state_after}
use Rattle.pp_text.specs.Lines.{line, state_lines}
use Rattle.pp_judge.proofs.Concluding.{accepted_alone, accepted_reported, accepted_simulated}
use Rattle.pp_judge.proofs.Running.{running_sound}
use Rattle.pp_judge.specs.Inputs.{IsFaultOf}
use Rattle.pp_judge.specs.Objects.{setting_of}
use Rattle.pp_judge.specs.Running.{IsRunning}
use Rattle.pp_judge.specs.Reports.{IsCertified, IsTold, RunReport}
use Rattle.pp_judge.specs.Scans.{InputScan}
use Rattle.pp_judge.specs.declared.progress.Tally.{Tally}
use Rattle.pp_cmd_drill.proofs.Accepted.{drill_accepted}
use Rattle.pp_cmd_drill.proofs.Scanned.{few, head, lined, run_of, same_length, same_steps, scan_is, scanned}
use Rattle.pp_cmd_drill.specs.Drill.{drill_catalog, drill_steps}
use Rattle.pp_cmd_drill.specs.Law.{DrillFacts, count_of_steps, drill_objects, states_left}
use Rattle.pp_cmd_drill.specs.Prints.{PrintsLines, certified_text, drill_lines, drill_states}
use Rattle.pp_cmd_drill.specs.Reports.{IsDrilled, drill_report, drill_scan}
use Rattle.pp_cmd_drill.specs.Text.{drill_text}

-- ---- the command has one output

-- What is printed for a report: nothing if it is not accepted.
abbrev printed_of : ℕ → RunReport → List ℕ
printed_of n (Faulty at_line cause) = []
printed_of n (Accepts steps committed final) = drill_report n steps (length committed) final
printed_of n (StartRejected at_line criterion) = []
printed_of n (StepRejected number at_line criterion before step) = []

-- At most one status and one text are those of the run of n transactions.
pub one_drilled : (n : ℕ) (s s' : Status) (t t' : List ℕ) → IsDrilled n s t → IsDrilled n s' t' → (s ≡ s') × (t ≡ t')
one_drilled n s s' t t' (steps, committed, final, is, status, text) (steps', committed', final', is', status', text') =
    let one : RunReport = Accepts steps committed final in
    let other : RunReport = Accepts steps' committed' final' in
    let same : one ≡ other = (input_law setting_of TooManySteps).one_report (drill_scan n) one other is is' in
    (status ∙ sym status', text ∙ ap (printed_of n) same ∙ sym text')

-- ---- the run as an input

styled : AreStyled setting_of
styled = λ x. (place_of, x.what.style, kinds_of x.what.catalog, refl)

module _ (n : ℕ) (low : 1 ≤ n) (high : n ≤ 20_000) where
  facts : DrillFacts n
  facts = drill_accepted n low high

  abbrev steps : List (Step Op)
  steps = drill_steps n

  no_more : length (lined n) ≤ 200_000
  no_more = let h = few n low high in omega (arith, h, same_length n)

  sound : IsFaultOf (scanned n) None
  sound = ((plain_input_law setting_of TooManySteps).fault styled (Some head) (lined n) None None no_more).1 refl

  verdict : IsVerdict drill_objects None (bare (lined n)) Accepted
  verdict = subst (λ (w : List (Step Op)). IsVerdict drill_objects None w Accepted) (sym (same_steps n)) facts.accepted

  abbrev report : RunReport
  report = Accepts (length steps) (attempts None steps) (states_left n)

  same_report : report ≡ Accepts (length (lined n)) (attempts None (bare (lined n))) (state drill_objects (serial (attempts None (bare (lined n)))))
  same_report =
      ap (λ (k : ℕ). let w : RunReport = Accepts k (attempts None steps) (states_left n) in w) (sym (same_length n))
      ∙ ap (λ (l : List (Step Op)). let w : RunReport = Accepts (length (lined n)) (attempts None l) (state drill_objects (serial (attempts None l))) in w) (sym (same_steps n))

  reported : IsRunReport setting_of (Some head) (plain (lined n)) report
  reported = ((plain_input_law setting_of TooManySteps).report styled head (lined n) report).1 (Accepted, verdict, same_report)

  sound_input : IsFaultOf (drill_scan n) None
  sound_input = subst (λ (sc : InputScan). IsFaultOf sc None) (sym (scan_is n low high)) sound

  report_is : IsReport setting_of TooManySteps (drill_scan n) report
  report_is = subst (λ (sc : InputScan). IsReport setting_of TooManySteps sc report) (sym (scan_is n low high)) (None, sound, reported)

  -- ---- what is printed

  module _ (tally : Tally) (machine : Seen (List Kind) Op) (r : IsRunning (drill_scan n) tally machine) where
    -- The header of the tally has the objects m, c and s.
    pub catalog_is : tally.header.catalog ≡ drill_catalog
    catalog_is =
        let heads : Some (record { line = r.follows.at; what = tally.header }) ≡ Some head = sym r.follows.header ∙ ap (λ (sc : InputScan). sc.header) (scan_is n low high) in
        ap (λ (h : Lined Header). h.what.catalog) (same_Some (record { line = r.follows.at; what = tally.header }) head heads)

    -- The text of the machine's count, the number of its committed transactions and the final states is the output for n.
    pub drilled_by : (count : ℕ) (D : List (CommittedTx Op)) (states : List ObjectState) (text : List ℕ) → count ≡ machine.count → D ≡ machine.config.done
        → states ≡ state_after objects (kinds_of tally.header.catalog) (serial_ops D) → text ≡ drill_report n count (length D) states → IsDrilled n statuses.Accepted text
    drilled_by count D states text count_is D_is state_is text_is =
        let k = accepted_reported (drill_scan n) tally machine r count D states count_is D_is state_is in
        let many : length D ≡ length k.0 = ap (λ (w : List (CommittedTx Op)). length w) k.2 ∙ length-map k.0 committed_tx in
        (count, k.0, states, (None, running_sound (drill_scan n) tally machine r, k.1), refl, text_is ∙ ap (λ (m : ℕ). drill_report n count m states) many)

  -- ---- by numbers

  states_shown : state_lines drill_catalog (states_left n) ≡ drill_states n
  states_shown = three _ _ _ _ _ _ facts.shows.m facts.shows.c facts.shows.s
    where
      three : (a b c d e f : List ℕ) → a ≡ d → b ≡ e → c ≡ f → line a ++ (line b ++ (line c ++ [])) ≡ line d ++ (line e ++ line f)
      three a b c d e f p q r =
          ap (λ (x : List ℕ). line x ++ (line b ++ (line c ++ []))) p ∙ ap (λ (x : List ℕ). line d ++ (line x ++ (line c ++ []))) q
          ∙ ap (λ (x : List ℕ). line d ++ (line e ++ (line x ++ []))) r ∙ ap (λ (x : List ℕ). line d ++ (line e ++ x)) (append-nil (line f))

  lines_are : drill_lines n ≡ drill_report n (length steps) (length (attempts None steps)) (states_left n)
  lines_are =
      let first = line (codes "drill " ++ decimal n) in
      sym (ap (λ (k : ℕ). first ++ accepted_line k (length (attempts None steps)) ++ state_lines drill_catalog (states_left n)) facts.steps
      ∙ ap (λ (k : ℕ). first ++ accepted_line (count_of_steps n) k ++ state_lines drill_catalog (states_left n)) facts.committed
      ∙ ap (λ (l : List ℕ). first ++ accepted_line (count_of_steps n) n ++ l) states_shown)

  output : IsDrilled n statuses.Accepted (drill_lines n)
  output = (length steps, attempts None steps, states_left n, report_is, refl, lines_are)

  certified_are : certified_text n ≡ accepted_text drill_catalog (length steps) (map committed_tx (attempts None steps)) (states_left n)
  certified_are = ap (λ (k : ℕ). accepted_text drill_catalog k (map committed_tx (attempts None steps)) (states_left n)) (sym facts.steps)

  certified : IsCertified (drill_text n) statuses.Accepted (certified_text n)
  certified = (report, report_is, subst (λ (sc : InputScan). IsTold sc.header report statuses.Accepted (certified_text n)) (sym (scan_is n low high)) (refl, certified_are))

  -- For n from 1 to 20,000, the output is the lines of the definition, and nothing else.
  pub prints_lines : PrintsLines n
  prints_lines =
      record {
        output = output;
        only = λ status text is. one_drilled n status statuses.Accepted text (drill_lines n) is output;
        no_fault = sound_input;
        run = run_of n low high;
        report = certified;
        simulated = accepted_simulated (drill_text n) (certified_text n) certified;
        alone = accepted_alone (drill_text n) (certified_text n) certified;
      }
