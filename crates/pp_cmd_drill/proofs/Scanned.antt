-- The text of the run, as an input: its header, its records, and the run that they have.
use Rattle.std.specs.Prelude.{◌≡◌, ◌≤◌, ◌+◌, ℕ, suc, Bool, true, false, cond, List, [], ◌∷◌, length, filter, Option, None, Some}
use Rattle.std.proofs.Common.{refl, sym, ap, ◌∙◌, subst, arith}
use Rattle.pp_core.specs.Steps.{Step}
use Rattle.pp_records.proofs.Ends.{ends_whole, length_bare}
use Rattle.pp_records.proofs.Restating.{bare_numbered, rules_law}
use Rattle.pp_records.proofs.Whole.{one_run_law}
use Rattle.pp_records.specs.Records.{RunRecord, Plain}
use Rattle.pp_records.specs.Runs.{IsRun, Lined, LinedSteps, bare}
use Rattle.pp_records.specs.Styles.{numbered, plain}
use Rattle.pp_format_read.specs.declared.header.Header.{Header}
use Rattle.pp_format_write.specs.Statable.{is_begin}
use Rattle.pp_model.specs.Config.{Start, first}
use Rattle.pp_model.specs.Rules.{RunsFrom}
use Rattle.pp_objects.specs.Objects.{place_of}
use Rattle.pp_objects.specs.declared.act.Op.{Op}
use Rattle.pp_judge.proofs.Restated.{text_scan}
use Rattle.pp_judge.specs.Accepted.{HasRun}
use Rattle.pp_judge.specs.Costs.{IsRunBehind, OfRun}
use Rattle.pp_judge.specs.Objects.{translation_of}
use Rattle.pp_judge.specs.Scans.{InputScan, is_begin_record}
use Rattle.pp_judge.specs.Scans as scans
use Rattle.pp_cmd_drill.proofs.Accepted.{drill_accepted}
use Rattle.pp_cmd_drill.proofs.Stating.{begins, begins_are, drill_reads}
use Rattle.pp_cmd_drill.specs.Drill.{drill_catalog, drill_kinds, drill_steps}
use Rattle.pp_cmd_drill.specs.Law.{drill_objects}
use Rattle.pp_cmd_drill.specs.Reports.{drill_scan}
use Rattle.pp_cmd_drill.specs.Text.{drill_header}

-- The header of the drill, on line 1.
abbrev pub head : Lined Header
head = record { line = 1; what = drill_header }

-- The steps of the drill, each on its line after the header.
abbrev pub lined : ℕ → LinedSteps Op
lined n = numbered 1 (drill_steps n)

-- The scan of the drill: its header, and its steps as records, without a fault.
abbrev pub scanned : ℕ → InputScan
scanned n = record { header = Some head; records = plain (lined n); fault = None }

-- The numbered steps of the run, without their lines, are its steps.
pub same_steps : (n : ℕ) → bare (lined n) ≡ drill_steps n
same_steps n = bare_numbered 1 (drill_steps n)

-- The run has as many numbered steps as steps.
pub same_length : (n : ℕ) → length (lined n) ≡ length (drill_steps n)
same_length n = sym (length_bare (lined n)) ∙ ap (λ (w : List (Step Op)). length w) (same_steps n)

-- How many of the records begin a transaction.
begun_by : (b : Bool) (r : Lined (RunRecord Op)) (rs : List (Lined (RunRecord Op))) (m : ℕ) → length rs ≡ m → length (cond b (r ∷ rs) rs) ≡ cond b (1 + m) m
begun_by true r rs m e = omega (arith, e)
begun_by false r rs m e = e

begun_plain : (i : ℕ) (ss : List (Step Op)) → scans.begins (plain (numbered i ss)) ≡ begins ss
begun_plain i [] = refl
begun_plain i (s ∷ ss) =
    let rest : List (Lined (RunRecord Op)) = plain (numbered (suc i) ss) in
    begun_by (is_begin s) (record { line = suc i; what = Plain s }) (filter (λ (r : Lined (RunRecord Op)). is_begin_record r.what) rest) (begins ss) (begun_plain (suc i) ss)

module _ (n : ℕ) (low : 1 ≤ n) (high : n ≤ 20_000) where
  -- For n from 1 to 20,000, the scan of the text has the header, the steps as records, and no fault.
  pub scan_is : drill_scan n ≡ scanned n
  scan_is = text_scan drill_catalog None (drill_steps n) (drill_reads n low high).statable

  -- For n from 1 to 20,000, n of the records begin a transaction.
  pub begun : scans.begins (plain (lined n)) ≡ n
  begun = begun_plain 1 (drill_steps n) ∙ begins_are (drill_steps n) ∙ (drill_reads n low high).begun

  -- For n up to 20,000, the run has at most 200,000 steps.
  pub few : length (drill_steps n) ≤ 200_000
  few = (drill_reads n low high).statable.few

  -- The steps are the run of the records, and the records have no other run.
  hold : RunsFrom drill_objects (first None) (bare (lined n))
  hold = subst (λ (w : List (Step Op)). RunsFrom drill_objects (first None) w) (sym (same_steps n)) (drill_accepted n low high).runs

  run_is : IsRun drill_objects (translation_of drill_header) None (plain (lined n)) (lined n)
  run_is = ((rules_law drill_objects).run place_of drill_kinds None (lined n) (lined n) refl).1 (ends_whole drill_objects (first None) (lined n) hold)

  -- What is true without a start and for the steps of the run is true for every run of the input.
  pub of_run : (P : Option (Start Op) → List (Step Op) → Type 0) → P None (drill_steps n) → OfRun (drill_scan n).header (drill_scan n).records P
  of_run P p =
      subst (λ (sc : InputScan). OfRun sc.header sc.records P) (sym scan_is) (λ run is.
      let same : lined n ≡ run = (one_run_law drill_objects (translation_of drill_header)).run None (plain (lined n)) (lined n) run run_is is in
      let steps : drill_steps n ≡ bare run = sym (same_steps n) ∙ ap (λ (w : LinedSteps Op). bare w) same in
      subst (λ (w : List (Step Op)). P None w) steps p)

  -- Every run of the input has the steps of the definition.
  pub run_of : (r : HasRun (drill_scan n)) → bare r.run ≡ drill_steps n
  run_of r = of_run (λ start steps. steps ≡ drill_steps n) refl r.run (subst (λ (o : Option (Lined Header)). IsRunBehind o (drill_scan n).records r.run) (sym r.first_line) r.steps)
