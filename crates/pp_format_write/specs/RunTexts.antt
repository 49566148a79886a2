-- Meaning: the text of a run of style rules: the line of its header, and then a line for each step.
use Rattle.std.specs.Prelude.{ℕ, List, ◌∷◌, map, Option, Some, None}
use Rattle.pp_core.specs.Catalogs.{Objects}
use Rattle.pp_core.specs.Steps.{Step}
use Rattle.pp_input.specs.Joined.{joined_lines}
use Rattle.pp_format_read.specs.declared.start.Start.{Start}
use Rattle.pp_objects.specs.declared.act.Op.{Op}
use Rattle.pp_format_write.specs.Headers.{header_bytes, header_bytes_2}
use Rattle.pp_format_write.specs.Steps.{step_bytes}

-- the line of the header: of version 1 of the format without a start, of version 2 with one
abbrev pub printed_header : Objects → Option Start → List ℕ
printed_header catalog None = header_bytes catalog
printed_header catalog (Some start) = header_bytes_2 catalog start.tx start.ops

-- the lines of a run
abbrev pub run_lines : Objects → Option Start → List (Step Op) → List (List ℕ)
run_lines catalog start steps = printed_header catalog start ∷ map (step_bytes catalog) steps

-- the text of a run: its lines, each with a byte 10 after it
abbrev pub run_text : Objects → Option Start → List (Step Op) → List ℕ
run_text catalog start steps = joined_lines (run_lines catalog start steps)
