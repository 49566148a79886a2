-- Meaning: the report of a fault, which is one line.
use Rattle.std.specs.Prelude.{ℕ, List, ◌++◌, codes}
use Rattle.std.specs.Fmt.{decimal}
use Rattle.pp_text.specs.Lines.{line}
use Rattle.pp_input_reader.specs.declared.cause.Cause.{Cause}
use Rattle.pp_input_reader.specs.Words.{cause_bytes}

-- the report of a fault of the input
abbrev pub fault_text : ℕ → Cause → List ℕ
fault_text at_line cause =
    line (codes "fault line " ++ decimal at_line ++ codes " " ++ cause_bytes cause)
