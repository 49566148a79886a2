-- Meaning: the lines after the header, as the style of the run writes them.
use Rattle.std.specs.Prelude.{ℕ, List, IsSome, slice_get, Result, Ok}
use Rattle.serde_json.specs.Data.{Data}
use Rattle.pp_core.specs.Catalogs.{Objects}
use Rattle.pp_core.specs.declared.call.Style.{Style}
use Rattle.pp_core.specs.declared.call.Style.TheVariants.{Rules, Boosted, Optimistic, Hardware}
use Rattle.pp_core.specs.declared.call.Style.TheVariants.{Dependent}
use Rattle.pp_core.specs.declared.member.Member.TheVariants as members
use Rattle.pp_records.specs.Records.{RunRecord, Plain}
use Rattle.pp_records.specs.Records as records
use Rattle.pp_objects.specs.Objects.{kinds_of}
use Rattle.pp_objects.specs.declared.act.Op.{Op}
use Rattle.pp_format_read.specs.declared.header.Header.{Header}
use Rattle.pp_format_read.specs.declared.fault.RecordFault.{RecordFault}
use Rattle.pp_format_read.specs.Reading.{◌>>=◌}
use Rattle.pp_format_read.specs.Members.{object_of, text_of}
use Rattle.pp_format_read.specs.Items.{IsReadableCall}
use Rattle.pp_format_read.specs.Rules.{step_of, IsReadableStep}
use Rattle.pp_format_read.specs.Boosted.{boosted_of}
use Rattle.pp_format_read.specs.Optimistic.{optimistic_of}
use Rattle.pp_format_read.specs.Hardware.{hardware_of}
use Rattle.pp_format_read.specs.Dependent.{dependent_of}

-- the record that this word names in a style
abbrev pub record_named : Style → Objects → List ℕ → Data → Result (RunRecord Op) RecordFault
record_named Rules catalog word value = step_of catalog word value >>= λ step. Ok (Plain step)
record_named Boosted catalog word value = boosted_of catalog word value
record_named Optimistic catalog word value = optimistic_of catalog word value
record_named Hardware catalog word value = hardware_of catalog word value
record_named Dependent catalog word value = dependent_of catalog word value

-- the record that a line is
unfoldable pub record_of : Header → List ℕ → Result (RunRecord Op) RecordFault
record_of header line = do
  value ← object_of line
  word ← text_of members.Step value
  record_named header.style header.catalog word value

-- The facts about a record that was read: ids and the numbers of an operation are in their ranges,
-- a body is within its limits, and the object of an operation or of a refresh is one of the run.
abbrev pub IsReadable : Objects → RunRecord Op → Type 0
IsReadable catalog (Plain step) = IsReadableStep catalog step
IsReadable catalog (records.Op tx id op) = IsReadableCall catalog id op
IsReadable catalog (records.Refresh tx object) = IsSome (slice_get (kinds_of catalog) object)
IsReadable catalog (records.Commit tx) = Unit {0}
IsReadable catalog (records.Abort tx) = Unit {0}
IsReadable catalog (records.Retry tx) = Unit {0}
IsReadable catalog (records.XBegin tx) = Unit {0}
IsReadable catalog (records.XEnd tx) = Unit {0}
IsReadable catalog (records.XAbort tx) = Unit {0}
IsReadable catalog (records.Depend tx source) = Unit {0}
IsReadable catalog (records.Publish tx) = Unit {0}
IsReadable catalog (records.DropSource tx source) = Unit {0}
