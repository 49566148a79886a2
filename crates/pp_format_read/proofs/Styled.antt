-- A record that each style but rules has is one of each.
use Rattle.std.specs.Prelude.{◌≡◌, Result, IfOk}
use Rattle.std.proofs.lemmas.Result.{IfOk-weaker}
use Rattle.pp_core.specs.declared.call.Style.{Style}
use Rattle.pp_core.specs.declared.step.Rule.TheVariants as rules
use Rattle.pp_core.specs.Steps.{Step, Begin, App, Unapp, Push, Unpush, Pull, Unpull, Cmt, Quit, Note, rule_of}
use Rattle.pp_records.specs.Expansions.{IsOfStyle}
use Rattle.pp_records.specs.Records.{RunRecord, Plain, record_meaning}
use Rattle.pp_records.specs.declared.run_record.RunRecord.{RunRecord as RecordOf}
use Rattle.pp_objects.specs.declared.act.Op.{Op}
use Rattle.pp_format_read.specs.declared.fault.RecordFault.{RecordFault}
use Rattle.pp_format_read.specs.Boosted.{IsShared}

-- a begin is such a record
pub begin_shared : (s : Step Op) → rule_of s ≡ rules.Begin → IsShared (Plain s)
begin_shared (Begin t p b) is = record { boosted = tt; optimistic = tt; hardware = tt; dependent = tt }
begin_shared (App t id op) is = absurd (cc)
begin_shared (Unapp t id) is = absurd (cc)
begin_shared (Push t id) is = absurd (cc)
begin_shared (Unpush t id) is = absurd (cc)
begin_shared (Pull t id) is = absurd (cc)
begin_shared (Unpull t id) is = absurd (cc)
begin_shared (Cmt t) is = absurd (cc)
begin_shared (Quit t) is = absurd (cc)
begin_shared (Note t) is = absurd (cc)

-- it is one of this style
pub of_style : (style : Style) (part : (x : RunRecord Op) → IsShared x → IsOfStyle style x) (r : Result (RecordOf Op) RecordFault)
    → IfOk r (λ x. IsShared (record_meaning x)) → IfOk r (λ x. IsOfStyle style (record_meaning x))
of_style style part r shared =
    IfOk-weaker r (λ x. IsShared (record_meaning x)) (λ x. IsOfStyle style (record_meaning x)) (λ x h. part (record_meaning x) h) shared
