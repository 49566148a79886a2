-- Meaning: a header and records over one object alone, which is then the first.
use Rattle.std.specs.Prelude.{◌≡◌, ℕ, map, option_map}
use Rattle.pp_core.specs.Steps.{Step, Begin, App, Unapp, Push, Unpush, Pull, Unpull, Cmt, Quit}
use Rattle.pp_core.specs.Steps.{Note}
use Rattle.pp_core.specs.declared.entry.Item.{Item}
use Rattle.pp_records.specs.Records.{RunRecord}
use Rattle.pp_records.specs.Records as records
use Rattle.pp_objects.specs.declared.act.Op.{Op}
use Rattle.pp_format_read.specs.declared.header.Header.{Header}
use Rattle.pp_format_read.specs.declared.start.Start.{Start}
use Rattle.pp_cmd_focus.specs.Headers.{items_on, object_at}

-- the operation on the first object
abbrev pub moved : Op → Op
moved op = record op { object = 0 }

-- an operation with its id, and a step and a record, on the first object
abbrev pub moved_item : Item Op → Item Op
moved_item p = record { id = p.id; op = moved p.op }

-- a start of the operations on an object
abbrev pub moved_start : ℕ → Start → Start
moved_start o start = record { tx = start.tx; ops = map moved_item (items_on o start.ops) }

-- the header over an object alone
abbrev pub moved_header : ℕ → Header → Header
moved_header o header = record {
  style = header.style;
  catalog = object_at o header.catalog;
  start = option_map (λ start. moved_start o start) header.start;
}

abbrev pub moved_step : Step Op → Step Op
moved_step (Begin t p b) = Begin t p b
moved_step (App t id op) = App t id (moved op)
moved_step (Unapp t id) = Unapp t id
moved_step (Push t id) = Push t id
moved_step (Unpush t id) = Unpush t id
moved_step (Pull t id) = Pull t id
moved_step (Unpull t id) = Unpull t id
moved_step (Cmt t) = Cmt t
moved_step (Quit t) = Quit t
moved_step (Note t) = Note t

abbrev pub moved_record : RunRecord Op → RunRecord Op
moved_record (records.Plain step) = records.Plain (moved_step step)
moved_record (records.Op t id op) = records.Op t id (moved op)
moved_record (records.Commit t) = records.Commit t
moved_record (records.Abort t) = records.Abort t
moved_record (records.Retry t) = records.Retry t
moved_record (records.Refresh t p) = records.Refresh t 0
moved_record (records.XBegin t) = records.XBegin t
moved_record (records.XEnd t) = records.XEnd t
moved_record (records.XAbort t) = records.XAbort t
moved_record (records.Depend t source) = records.Depend t source
moved_record (records.Publish t) = records.Publish t
moved_record (records.DropSource t source) = records.DropSource t source

-- The step names no other object, and is no begin.
abbrev pub StaysStep : ℕ → Step Op → Type 0
StaysStep o (Begin t p b) = ⊥
StaysStep o (App t id op) = op.object ≡ o
StaysStep o (Unapp t id) = Unit {0}
StaysStep o (Push t id) = Unit {0}
StaysStep o (Unpush t id) = Unit {0}
StaysStep o (Pull t id) = Unit {0}
StaysStep o (Unpull t id) = Unit {0}
StaysStep o (Cmt t) = Unit {0}
StaysStep o (Quit t) = Unit {0}
StaysStep o (Note t) = Unit {0}

-- The same of a record.
abbrev pub Stays : ℕ → RunRecord Op → Type 0
Stays o (records.Plain step) = StaysStep o step
Stays o (records.Op t id op) = op.object ≡ o
Stays o (records.Commit t) = Unit {0}
Stays o (records.Abort t) = Unit {0}
Stays o (records.Retry t) = Unit {0}
Stays o (records.Refresh t p) = p ≡ o
Stays o (records.XBegin t) = Unit {0}
Stays o (records.XEnd t) = Unit {0}
Stays o (records.XAbort t) = Unit {0}
Stays o (records.Depend t source) = Unit {0}
Stays o (records.Publish t) = Unit {0}
Stays o (records.DropSource t source) = Unit {0}
