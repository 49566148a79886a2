-- Meaning: what `drill N` prints, line by line, and the facts of its run.
use Rattle.std.specs.Prelude.{◌≡◌, ℕ, ◌≤◌, List, ◌++◌, codes, map, None}
use Rattle.std.specs.Fmt.{decimal}
use Rattle.pp_core.specs.declared.status.Status.{Status}
use Rattle.pp_core.specs.declared.status.Status.TheVariants as statuses
use Rattle.pp_records.specs.Runs.{bare}
use Rattle.pp_model.specs.Serial.{attempts, committed_tx}
use Rattle.pp_text.specs.Lines.{line}
use Rattle.pp_report.specs.Reports.{accepted_line, accepted_text}
use Rattle.pp_judge.specs.Accepted.{HasRun, IsAloneAccepted, IsSimulated}
use Rattle.pp_judge.specs.Inputs.{IsFaultOf}
use Rattle.pp_judge.specs.Reports.{IsCertified}
use Rattle.pp_cmd_drill.specs.Drill.{drill_catalog, drill_steps}
use Rattle.pp_cmd_drill.specs.Law.{count_of_steps, pairs_in, states_left, sum_to}
use Rattle.pp_cmd_drill.specs.Reports.{IsDrilled, drill_scan}
use Rattle.pp_cmd_drill.specs.Text.{drill_text}

-- the lines of the objects: m has the number of pairs at 0, c the sum, and s is empty
abbrev pub drill_states : ℕ → List ℕ
drill_states n =
    line (codes "state m 0=" ++ decimal (pairs_in n))
    ++ (line (codes "state c " ++ decimal (sum_to n)) ++ line (codes "state s"))

-- all lines
abbrev pub drill_lines : ℕ → List ℕ
drill_lines n =
    line (codes "drill " ++ decimal n) ++ accepted_line (count_of_steps n) n ++ drill_states n

-- The text that certifies the run: it is accepted, with all of its transactions.
abbrev pub certified_text : ℕ → List ℕ
certified_text n =
    accepted_text drill_catalog (count_of_steps n)
    (map committed_tx (attempts None (drill_steps n))) (states_left n)

-- The output for n transactions is these lines with Accepted, and there is no other. Its run has no
-- fault, it is the steps of the definition, and it is accepted. Its committed transactions simulate
-- it, and run alone.
pub record PrintsLines (n : ℕ) : Type 0 where
  pub output : IsDrilled n statuses.Accepted (drill_lines n)
  pub only : (status : Status) (text : List ℕ) → IsDrilled n status text →
      (status ≡ statuses.Accepted) × (text ≡ drill_lines n)
  pub no_fault : IsFaultOf (drill_scan n) None
  pub run : (r : HasRun (drill_scan n)) → bare r.run ≡ drill_steps n
  pub report : IsCertified (drill_text n) statuses.Accepted (certified_text n)
  pub simulated : IsSimulated (drill_scan n)
  pub alone : IsAloneAccepted (drill_scan n)

abbrev pub PrintsLaw : Type 0
PrintsLaw = (n : ℕ) → 1 ≤ n → n ≤ 20_000 → PrintsLines n
