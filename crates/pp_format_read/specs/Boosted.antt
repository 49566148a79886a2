-- Meaning: the records of style boosted. The other styles but rules have them as well.
use Rattle.std.specs.Prelude.{ℕ, List, codes, Result, Ok, Err, if◌then◌else◌}
use Rattle.std.specs.Str.{bytes_eq}
use Rattle.serde_json.specs.Data.{Data}
use Rattle.pp_core.specs.Catalogs.{Objects}
use Rattle.pp_core.specs.declared.call.Style.TheVariants as styles
use Rattle.pp_core.specs.declared.member.Member.TheVariants as members
use Rattle.pp_records.specs.Expansions.{IsOfStyle}
use Rattle.pp_records.specs.Records.{RunRecord, Plain, Commit, Abort, Retry}
use Rattle.pp_records.specs.Records as records
use Rattle.pp_objects.specs.declared.act.Op.{Op}
use Rattle.pp_format_read.specs.declared.fault.RecordFault.{RecordFault}
use Rattle.pp_format_read.specs.declared.fault.RecordFault.TheVariants.{UnknownStep}
use Rattle.pp_format_read.specs.Reading.{◌>>=◌}
use Rattle.pp_format_read.specs.Members.{name_of}
use Rattle.pp_format_read.specs.Items.{item_of}
use Rattle.pp_format_read.specs.Rules.{begin_of}

-- the records that name a transaction alone, each made of its name
abbrev pub tx_alone : (List ℕ → RunRecord Op) → Data → Result (RunRecord Op) RecordFault
tx_alone made value = name_of members.Tx value >>= λ tx. Ok (made tx)

-- a begin, which is a step of the machine
unfoldable pub plain_begin_of : Objects → Data → Result (RunRecord Op) RecordFault
plain_begin_of catalog value = do
  step ← begin_of catalog value
  Ok (Plain step)

-- an operation, with the result that the object gave
unfoldable pub op_record_of : Objects → Data → Result (RunRecord Op) RecordFault
op_record_of catalog value = do
  tx ← name_of members.Tx value
  item ← item_of catalog value
  Ok (records.Op tx item.id item.op)

-- the record that this word names
unfoldable pub boosted_of : Objects → List ℕ → Data → Result (RunRecord Op) RecordFault
boosted_of catalog word value =
    if bytes_eq word (codes "begin") then plain_begin_of catalog value else
    (if bytes_eq word (codes "op") then op_record_of catalog value else
    (if bytes_eq word (codes "commit") then tx_alone Commit value else
    (if bytes_eq word (codes "abort") then tx_alone Abort value else
    (if bytes_eq word (codes "retry") then tx_alone Retry value else Err UnknownStep))))

-- the record is one of each style but rules
pub record IsShared (r : RunRecord Op) : Type 0 where
  pub boosted : IsOfStyle styles.Boosted r
  pub optimistic : IsOfStyle styles.Optimistic r
  pub hardware : IsOfStyle styles.Hardware r
  pub dependent : IsOfStyle styles.Dependent r
