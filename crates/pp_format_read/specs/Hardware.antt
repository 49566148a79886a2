-- Meaning: the records of style hardware.
use Rattle.std.specs.Prelude.{ℕ, List, codes, Result, if◌then◌else◌}
use Rattle.std.specs.Str.{bytes_eq}
use Rattle.serde_json.specs.Data.{Data}
use Rattle.pp_core.specs.Catalogs.{Objects}
use Rattle.pp_records.specs.Records.{RunRecord, XBegin, XEnd, XAbort}
use Rattle.pp_objects.specs.declared.act.Op.{Op}
use Rattle.pp_format_read.specs.declared.fault.RecordFault.{RecordFault}
use Rattle.pp_format_read.specs.Boosted.{boosted_of, tx_alone}

-- the record that this word names
unfoldable pub hardware_of : Objects → List ℕ → Data → Result (RunRecord Op) RecordFault
hardware_of catalog word value =
    if bytes_eq word (codes "xbegin") then tx_alone XBegin value else
    (if bytes_eq word (codes "xend") then tx_alone XEnd value else
    (if bytes_eq word (codes "xabort") then tx_alone XAbort value else
    boosted_of catalog word value))
