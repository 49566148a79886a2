-- Proof machinery: how the program ends.
use Rattle.std.specs.Prelude.{ℕ}
use Rattle.pp_core.specs.declared.status.Status.{Status}
use Rattle.pp_core.specs.declared.status.Status.TheVariants.{Accepted, Rejected, BadWords}
use Rattle.pp_core.specs.declared.status.Status.TheVariants.{InputFault, ReadFault, WriteFault}
use Rattle.pp_core.specs.declared.status.Status.TheVariants.{OutOfMemory, TooLarge}

-- the number of a status
abbrev pub code_of : Status → ℕ
code_of Accepted = 0
code_of Rejected = 1
code_of BadWords = 2
code_of InputFault = 3
code_of ReadFault = 4
code_of WriteFault = 5
code_of OutOfMemory = 6
code_of TooLarge = 7
