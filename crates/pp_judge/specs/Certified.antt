-- Meaning: how a command ends.
use Rattle.pp_core.specs.declared.status.Status.{Status}
use Rattle.pp_core.specs.declared.status.Status.TheVariants as statuses

-- a verdict of the steps
abbrev pub IsDecided : Status → Type 0
IsDecided statuses.Accepted = Unit {0}
IsDecided statuses.Rejected = Unit {0}
IsDecided statuses.BadWords = ⊥
IsDecided statuses.InputFault = ⊥
IsDecided statuses.ReadFault = ⊥
IsDecided statuses.WriteFault = ⊥
IsDecided statuses.OutOfMemory = ⊥
IsDecided statuses.TooLarge = ⊥
