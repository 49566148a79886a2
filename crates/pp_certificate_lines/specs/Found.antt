-- Meaning: the value that was read, or nothing if there was a fault.
use Rattle.std.specs.Prelude.{◌≡◌, Option, Some, None, Result, Ok, Err}
use Rattle.pp_core.specs.declared.answer.OutOfMemory.{OutOfMemory}
use Rattle.pp_format_read.specs.declared.fault.RecordFault.{RecordFault}
use Rattle.pp_format_read.specs.declared.fault.RecordFault.TheVariants as faults

-- The value that was read; or none, unless out of memory.
abbrev pub Finds : {X : Type 0} → Result X RecordFault → Result (Option X) OutOfMemory → Type 0
Finds (Ok x) found = found ≡ Ok (Some x)
Finds (Err fault) (Ok found) = (found ≡ None) × ¬ (fault ≡ faults.OutOfMemory)
Finds (Err fault) (Err refused) = fault ≡ faults.OutOfMemory
