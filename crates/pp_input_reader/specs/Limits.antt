-- Meaning: the fault of a limit that an input passes.
use Rattle.std.specs.Prelude.{ℕ, Option, None, Some, option_map}
use Rattle.pp_input.specs.declared.fault.LineFault.{LineFault}
use Rattle.pp_input.specs.declared.fault.LineFault.TheVariants as limits
use Rattle.pp_input.specs.Overruns.{line_of}
use Rattle.pp_input_reader.specs.declared.cause.Cause.{Cause}
use Rattle.pp_input_reader.specs.declared.cause.Cause.TheVariants.{LineTooLong, TooLong, TooManyLines}

-- the cause of a limit that is passed; out of memory is none
abbrev pub cause_of_limit : LineFault → Option Cause
cause_of_limit (limits.TooLong line) = Some TooLong
cause_of_limit (limits.TooManyLines line) = Some TooManyLines
cause_of_limit (limits.LineTooLong line) = Some LineTooLong
cause_of_limit limits.OutOfMemory = None

-- the fault of a limit that is passed, with its line
abbrev pub limit_fault : Option LineFault → Option (ℕ × Cause)
limit_fault None = None
limit_fault (Some fault) = option_map (λ cause. (line_of fault, cause)) (cause_of_limit fault)
