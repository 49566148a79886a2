-- Out of memory alone has no cause.
use Rattle.std.specs.Prelude.{◌≡◌, Result, Ok, Err}
use Rattle.std.proofs.Common.{refl}
use Rattle.pp_core.specs.declared.answer.OutOfMemory.{OutOfMemory}
use Rattle.pp_format_read.specs.declared.fault.RecordFault.{RecordFault}
use Rattle.pp_format_read.specs.declared.fault.RecordFault.TheVariants as faults
use Rattle.pp_input_reader.specs.declared.cause.Cause.{Cause}
use Rattle.pp_input_reader.specs.declared.cause.Cause.TheVariants as causes
use Rattle.pp_judge.specs.Causes.{cause_of}

not_refused : (cause : Cause) (refused : OutOfMemory) → ◌≡◌ {A = Result Cause OutOfMemory} (Ok cause) (Err refused) → ⊥
not_refused cause refused e = cc

-- Out of memory is the only fault of a record that has no cause.
pub refused_alone : (fault : RecordFault) (refused : OutOfMemory) → cause_of fault ≡ Err refused → fault ≡ faults.OutOfMemory
refused_alone faults.NotJson refused e = absurd (not_refused causes.NotJson refused e)
refused_alone faults.NotObject refused e = absurd (not_refused causes.NotObject refused e)
refused_alone (faults.Missing member) refused e = absurd (not_refused (causes.Missing member) refused e)
refused_alone (faults.WrongType member) refused e = absurd (not_refused (causes.WrongType member) refused e)
refused_alone (faults.OutOfRange member) refused e = absurd (not_refused (causes.OutOfRange member) refused e)
refused_alone (faults.BadName member) refused e = absurd (not_refused (causes.BadName member) refused e)
refused_alone faults.UnknownStyle refused e = absurd (not_refused causes.UnknownStyle refused e)
refused_alone faults.UnknownKind refused e = absurd (not_refused causes.UnknownKind refused e)
refused_alone faults.RepeatedObject refused e = absurd (not_refused causes.RepeatedObject refused e)
refused_alone faults.TooManyObjects refused e = absurd (not_refused causes.TooManyObjects refused e)
refused_alone faults.TooManyStart refused e = absurd (not_refused causes.TooManyStart refused e)
refused_alone faults.UnknownObject refused e = absurd (not_refused causes.UnknownObject refused e)
refused_alone faults.UnknownCall refused e = absurd (not_refused causes.UnknownCall refused e)
refused_alone faults.UnknownStep refused e = absurd (not_refused causes.UnknownStep refused e)
refused_alone faults.BodyBad refused e = absurd (not_refused causes.BodyBad refused e)
refused_alone faults.BodyTooLarge refused e = absurd (not_refused causes.BodyTooLarge refused e)
refused_alone faults.OutOfMemory refused e = refl
