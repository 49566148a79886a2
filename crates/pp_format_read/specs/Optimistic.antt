-- Meaning: the records of style optimistic.
use Rattle.std.specs.Prelude.{ℕ, List, codes, Result, Ok, if◌then◌else◌}
use Rattle.std.specs.Str.{bytes_eq}
use Rattle.serde_json.specs.Data.{Data}
use Rattle.pp_core.specs.Catalogs.{Objects}
use Rattle.pp_core.specs.declared.member.Member.TheVariants as members
use Rattle.pp_records.specs.Records.{RunRecord, Refresh}
use Rattle.pp_objects.specs.declared.act.Op.{Op}
use Rattle.pp_format_read.specs.declared.fault.RecordFault.{RecordFault}
use Rattle.pp_format_read.specs.Reading.{◌>>=◌}
use Rattle.pp_format_read.specs.Members.{name_of}
use Rattle.pp_format_read.specs.Calls.{object_called}
use Rattle.pp_format_read.specs.Boosted.{boosted_of}

-- a refresh: the committed entries of an object are pulled
unfoldable pub refresh_of : Objects → Data → Result (RunRecord Op) RecordFault
refresh_of catalog value = do
  tx ← name_of members.Tx value
  object ← object_called catalog value
  Ok (Refresh tx object.0)

-- the record that this word names
unfoldable pub optimistic_of : Objects → List ℕ → Data → Result (RunRecord Op) RecordFault
optimistic_of catalog word value =
    if bytes_eq word (codes "refresh") then refresh_of catalog value
    else boosted_of catalog word value
