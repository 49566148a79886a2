-- Meaning: the records of style dependent.
use Rattle.std.specs.Prelude.{ℕ, List, codes, Result, Ok, if◌then◌else◌}
use Rattle.std.specs.Str.{bytes_eq}
use Rattle.serde_json.specs.Data.{Data}
use Rattle.pp_core.specs.Catalogs.{Objects}
use Rattle.pp_core.specs.declared.member.Member.TheVariants as members
use Rattle.pp_records.specs.Records.{RunRecord, Depend, DropSource, Publish}
use Rattle.pp_objects.specs.declared.act.Op.{Op}
use Rattle.pp_format_read.specs.declared.fault.RecordFault.{RecordFault}
use Rattle.pp_format_read.specs.Reading.{◌>>=◌}
use Rattle.pp_format_read.specs.Members.{name_of}
use Rattle.pp_format_read.specs.Boosted.{boosted_of, tx_alone}

-- a transaction, and a source that it reads from or gives up
unfoldable pub tx_and_source : Data → Result (List ℕ × List ℕ) RecordFault
tx_and_source value = do
  tx ← name_of members.Tx value
  source ← name_of members.Source value
  Ok (tx, source)

-- the records that name both, each made of the two names
abbrev pub with_source : (List ℕ → List ℕ → RunRecord Op) → Data →
    Result (RunRecord Op) RecordFault
with_source made value = tx_and_source value >>= λ names. Ok (made names.0 names.1)

-- the record that this word names
unfoldable pub dependent_of : Objects → List ℕ → Data → Result (RunRecord Op) RecordFault
dependent_of catalog word value =
    if bytes_eq word (codes "depend") then with_source Depend value else
    (if bytes_eq word (codes "drop") then with_source DropSource value else
    (if bytes_eq word (codes "publish") then tx_alone Publish value else
    boosted_of catalog word value))
