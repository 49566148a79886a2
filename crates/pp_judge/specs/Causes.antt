-- Meaning: what a fault of a line is in a report.
use Rattle.std.specs.Prelude.{Result, Ok, Err}
use Rattle.pp_core.specs.declared.answer.OutOfMemory.{OutOfMemory}
use Rattle.pp_format_read.specs.declared.fault.RecordFault.{RecordFault}
use Rattle.pp_format_read.specs.declared.fault.RecordFault.TheVariants as faults
use Rattle.pp_input_reader.specs.declared.cause.Cause.{Cause}
use Rattle.pp_input_reader.specs.declared.cause.Cause.TheVariants as causes

-- the cause of the same name, unless the fault is out of memory
abbrev pub cause_of : RecordFault → Result Cause OutOfMemory
cause_of faults.NotJson = Ok causes.NotJson
cause_of faults.NotObject = Ok causes.NotObject
cause_of (faults.Missing member) = Ok (causes.Missing member)
cause_of (faults.WrongType member) = Ok (causes.WrongType member)
cause_of (faults.OutOfRange member) = Ok (causes.OutOfRange member)
cause_of (faults.BadName member) = Ok (causes.BadName member)
cause_of faults.UnknownStyle = Ok causes.UnknownStyle
cause_of faults.UnknownKind = Ok causes.UnknownKind
cause_of faults.RepeatedObject = Ok causes.RepeatedObject
cause_of faults.TooManyObjects = Ok causes.TooManyObjects
cause_of faults.TooManyStart = Ok causes.TooManyStart
cause_of faults.UnknownObject = Ok causes.UnknownObject
cause_of faults.UnknownCall = Ok causes.UnknownCall
cause_of faults.UnknownStep = Ok causes.UnknownStep
cause_of faults.BodyBad = Ok causes.BodyBad
cause_of faults.BodyTooLarge = Ok causes.BodyTooLarge
cause_of faults.OutOfMemory = Err (record {})
