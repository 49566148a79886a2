-- Meaning: the text of the run of `drill N`, and what is read from it.
use Rattle.std.specs.Prelude.{◌≡◌, ◌≤◌, ◌<◌, ℕ, false, List, map, length, count_by, Ok, None}
use Rattle.pp_records.specs.Records.{Plain}
use Rattle.pp_input.specs.Limits.{usual_limits}
use Rattle.pp_input.specs.Lines.{blank, numbered_from}
use Rattle.pp_input.specs.Overruns.{overrun, scanned_lines}
use Rattle.pp_format_read.specs.Headers.{header_of}
use Rattle.pp_format_read.specs.Records.{record_of}
use Rattle.pp_format_read.specs.declared.header.Header.{Header}
use Rattle.pp_format_write.specs.Headers.{header_bytes, rules_header}
use Rattle.pp_format_write.specs.RunTexts.{run_lines, run_text}
use Rattle.pp_format_write.specs.Statable.{IsStatableRun, is_begin}
use Rattle.pp_format_write.specs.Steps.{step_bytes}
use Rattle.pp_model.specs.Lists.{Each}
use Rattle.pp_cmd_drill.specs.Drill.{drill_catalog, drill_steps}

-- the header: style rules, over m, c and s, without a start
abbrev pub drill_header : Header
drill_header = rules_header drill_catalog None

-- the bytes of the run of n transactions: the line of its header, and then a line for each step,
-- each with a byte 10 after it
abbrev pub drill_text : ℕ → List ℕ
drill_text n = run_text drill_catalog None (drill_steps n)

-- What is read from the text of the run of n transactions.
pub record IsReadBack (n : ℕ) : Type 0 where
  -- The run can be stated, and begins n transactions.
  pub statable : IsStatableRun drill_catalog None (drill_steps n)
  pub begun : count_by is_begin (drill_steps n) ≡ n
  -- The text exceeds no limit.
  pub within : overrun usual_limits (drill_text n) ≡ None
  pub short : length (drill_text n) < 200_000_000
  -- The lines of the text are those that were written, and none of them is blank.
  pub lines : scanned_lines usual_limits (drill_text n)
      ≡ numbered_from 1 (run_lines drill_catalog None (drill_steps n))
  pub shown : Each (λ line. blank line ≡ false) (run_lines drill_catalog None (drill_steps n))
  -- The first line is read as the header, and those after it as the steps, one by one.
  pub header : header_of (header_bytes drill_catalog) ≡ Ok drill_header
  pub records : map (record_of drill_header) (map (step_bytes drill_catalog) (drill_steps n))
      ≡ map (λ step. Ok (Plain step)) (drill_steps n)

abbrev pub ReadBackLaw : Type 0
ReadBackLaw = (n : ℕ) → 1 ≤ n → n ≤ 20_000 → IsReadBack n
