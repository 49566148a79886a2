-- An input has too many steps for `judge` only if it passes the limit of a style that is driven.
use Rattle.std.specs.Prelude.{◌≡◌, ◌↔◌, ℕ, true, false, List, Option, None, Some, Ok}
use Rattle.std.proofs.Common.{refl, sym, ap, subst}
use Rattle.std.proofs.lemmas.Option.{same_Some}
use mathlib.Core.Logic.{inl, inr}
use Rattle.pp_input.specs.declared.fault.LineFault.{LineFault}
use Rattle.pp_input.specs.declared.fault.LineFault.TheVariants as limits
use Rattle.pp_input.specs.Overruns.{overrun}
use Rattle.pp_format_read.specs.declared.fault.RecordFault.{RecordFault}
use Rattle.pp_format_read.specs.declared.fault.RecordFault.TheVariants as faults
use Rattle.pp_input_reader.specs.declared.cause.Cause.{Cause}
use Rattle.pp_input_reader.specs.declared.cause.Cause.TheVariants as causes
use Rattle.pp_input_reader.specs.Limits.{limit_fault}
use Rattle.pp_judge.specs.Causes.{cause_of}
use Rattle.pp_records.specs.Records.{RunRecord}
use Rattle.pp_records.specs.Runs.{Lined, Records}
use Rattle.pp_format_read.specs.declared.header.Header.{Header}
use Rattle.pp_objects.specs.declared.act.Op.{Op}
use Rattle.pp_cmd_judge.specs.Inputs.{judge_limits, judge_scan}
use Rattle.pp_cmd_judge.specs.Judgements.{HasAnySteps, IsJudgeFault, PassesStepsOn}
use Rattle.pp_cmd_judge.specs.StyleLaws.{any_few}
use Rattle.pp_cmd_judge.proofs.OtherCauses.{IsApart, IsOther, never, none_other, some_other}

read_apart : (fault : RecordFault) → cause_of fault ≡ Ok causes.TooManySteps → ⊥
read_apart faults.NotJson h = absurd (cc)
read_apart faults.NotObject h = absurd (cc)
read_apart (faults.Missing member) h = absurd (cc)
read_apart (faults.WrongType member) h = absurd (cc)
read_apart (faults.OutOfRange member) h = absurd (cc)
read_apart (faults.BadName member) h = absurd (cc)
read_apart faults.UnknownStyle h = absurd (cc)
read_apart faults.UnknownKind h = absurd (cc)
read_apart faults.RepeatedObject h = absurd (cc)
read_apart faults.TooManyObjects h = absurd (cc)
read_apart faults.TooManyStart h = absurd (cc)
read_apart faults.UnknownObject h = absurd (cc)
read_apart faults.UnknownCall h = absurd (cc)
read_apart faults.UnknownStep h = absurd (cc)
read_apart faults.BodyBad h = absurd (cc)
read_apart faults.BodyTooLarge h = absurd (cc)
read_apart faults.OutOfMemory h = absurd (cc)

apart : IsApart causes.TooManySteps
apart = record {
  read = read_apart;
  many = λ no. absurd (cc);
  header = λ no. absurd (cc);
}

limit_other : (o : Option LineFault) → IsOther causes.TooManySteps (limit_fault o)
limit_other None = none_other causes.TooManySteps
limit_other (Some (limits.TooLong at)) = some_other causes.TooManySteps at causes.TooLong (λ no. absurd (cc))
limit_other (Some (limits.TooManyLines at)) = some_other causes.TooManySteps at causes.TooManyLines (λ no. absurd (cc))
limit_other (Some (limits.LineTooLong at)) = some_other causes.TooManySteps at causes.LineTooLong (λ no. absurd (cc))
limit_other (Some limits.OutOfMemory) = none_other causes.TooManySteps

-- the scan of an input has no fault that it has too many steps
scanned : (bytes : List ℕ) → IsOther causes.TooManySteps (judge_scan bytes).fault
scanned bytes = never causes.TooManySteps apart bytes (limit_other (overrun judge_limits bytes))

-- an input has too many steps on a line exactly if the record on this line passes the limit of its style
pub many_steps : (bytes : List ℕ) (line : ℕ) → IsJudgeFault (judge_scan bytes) (Some (line, causes.TooManySteps)) ↔ PassesStepsOn (judge_scan bytes).header (judge_scan bytes).records line
many_steps bytes line = (λ faulty. passes faulty, λ over. inl (line, over, refl))
  where
    passes : IsJudgeFault (judge_scan bytes) (Some (line, causes.TooManySteps)) → PassesStepsOn (judge_scan bytes).header (judge_scan bytes).records line
    passes (inl k) =
        let same : line ≡ k.0 = ap (λ (x : ℕ × Cause). x.0) (same_Some (line, causes.TooManySteps) (k.0, causes.TooManySteps) k.2) in
        subst (λ (n : ℕ). PassesStepsOn (judge_scan bytes).header (judge_scan bytes).records n) (sym same) k.1
    passes (inr k) = absurd (scanned bytes line (sym k.1))

-- in a style without a limit on steps no record passes one
none_passes : (o : Option (Lined Header)) (rs : Records (RunRecord Op)) (line : ℕ) → HasAnySteps o → PassesStepsOn o rs line → ⊥
none_passes None rs line any over = over
none_passes (Some h) rs line any over = any_few h any rs line over

-- an input of a style without a limit on steps never has too many
pub any_steps : (bytes : List ℕ) (line : ℕ) → HasAnySteps (judge_scan bytes).header → IsJudgeFault (judge_scan bytes) (Some (line, causes.TooManySteps)) → ⊥
any_steps bytes line any faulty = none_passes (judge_scan bytes).header (judge_scan bytes).records line any ((many_steps bytes line).0 faulty)
