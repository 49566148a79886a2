-- Proof machinery: the record of a transaction that takes back what it did.
use Rattle.pp_model.specs.Names.{Name}
use Rattle.pp_records.specs.Records.{RunRecord}
use Rattle.pp_records.specs.Records as records
use Rattle.pp_summary.specs.declared.undo.Undoing.{Undoing}
use Rattle.pp_summary.specs.declared.undo.Undoing.TheVariants as ways

-- An abort record, or a retry record.
abbrev pub undo_record : {Op : Type 0} → Undoing → Name → RunRecord Op
undo_record ways.Abort t = records.Abort t
undo_record ways.Retry t = records.Retry t
