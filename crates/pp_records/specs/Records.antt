-- Meaning: the records of a run, as its style writes them.
use Rattle.std.specs.Prelude.{ℕ}
use Rattle.pp_core.specs.Steps.{meaning}
use Rattle.pp_model.specs.Config.{Step}
use Rattle.pp_model.specs.Names.{Name}
use Rattle.pp_records.specs.declared.run_record.RunRecord.{RunRecord as RecordOf}
use Rattle.pp_records.specs.declared.run_record.RunRecord.TheVariants as written

-- A record of a run after its header.
pub data RunRecord (Op : Type 0) : Type 0 where
  -- a step of the machine: any of them in style rules, and a begin in every style
  Plain : (step : Step Op) → RunRecord Op
  -- an operation
  Op : (tx : Name) (id : ℕ) (op : Op) → RunRecord Op
  Commit : (tx : Name) → RunRecord Op
  Abort : (tx : Name) → RunRecord Op
  Retry : (tx : Name) → RunRecord Op
  Refresh : (tx : Name) (object : ℕ) → RunRecord Op
  XBegin : (tx : Name) → RunRecord Op
  XEnd : (tx : Name) → RunRecord Op
  XAbort : (tx : Name) → RunRecord Op
  Depend : (tx source : Name) → RunRecord Op
  Publish : (tx : Name) → RunRecord Op
  DropSource : (tx source : Name) → RunRecord Op

-- the same record, with the tree of a begin's body
abbrev pub record_meaning : {Op : Type 0} → RecordOf Op → RunRecord Op
record_meaning (written.Plain step) = Plain (meaning step)
record_meaning (written.Op t id op) = Op t id op
record_meaning (written.Commit t) = Commit t
record_meaning (written.Abort t) = Abort t
record_meaning (written.Retry t) = Retry t
record_meaning (written.Refresh t o) = Refresh t o
record_meaning (written.XBegin t) = XBegin t
record_meaning (written.XEnd t) = XEnd t
record_meaning (written.XAbort t) = XAbort t
record_meaning (written.Depend t source) = Depend t source
record_meaning (written.Publish t) = Publish t
record_meaning (written.DropSource t source) = DropSource t source
