-- Meaning: an operation with its id, as it is in a record of an operation and in an element of a
-- start.
use Rattle.std.specs.Prelude.{◌≤◌, ℕ, ℤ, pos, negsuc, nat_le, IsTrue, Option, Some, None, ok_or}
use Rattle.std.specs.Prelude.{Result, Ok, if◌then◌else◌}
use Rattle.serde_json.specs.Data.{Data}
use Rattle.pp_core.specs.Catalogs.{Objects}
use Rattle.pp_core.specs.declared.entry.Item.{Item}
use Rattle.pp_core.specs.declared.member.Member.TheVariants as members
use Rattle.pp_objects.specs.Objects.{objects, kinds_of}
use Rattle.pp_objects.specs.declared.act.Op.{Op}
use Rattle.pp_format_read.specs.declared.fault.RecordFault.{RecordFault}
use Rattle.pp_format_read.specs.declared.fault.RecordFault.TheVariants.{OutOfRange}
use Rattle.pp_format_read.specs.Reading.{◌>>=◌}
use Rattle.pp_format_read.specs.Members.{whole_of}
use Rattle.pp_format_read.specs.Calls.{op_of}

-- an id, 0 to 999,999,999
unfoldable pub id_from : ℤ → Option ℕ
id_from (pos n) = if nat_le n 999_999_999 then Some n else None
id_from (negsuc n) = None

-- the record's id
unfoldable pub id_of : Data → Result ℕ RecordFault
id_of value = do
  n ← whole_of members.Id value
  ok_or (id_from n) (OutOfRange members.Id)

-- the operation with its id
unfoldable pub item_of : Objects → Data → Result (Item Op) RecordFault
item_of catalog value = do
  id ← id_of value
  op ← op_of catalog value
  Ok (record { id = id; op = op })

-- The facts about an operation that was read: its id is in the range of ids, and it is one on an
-- object of the run, with numbers in the range of records.
abbrev pub IsReadableCall : Objects → ℕ → Op → Type 0
IsReadableCall catalog id op =
    (id ≤ 999_999_999) × IsTrue (objects.fits (kinds_of catalog) op) × IsTrue (objects.ranged op)

-- the same of an operation with its id
abbrev pub IsReadableItem : Objects → Item Op → Type 0
IsReadableItem catalog p = IsReadableCall catalog p.id p.op
