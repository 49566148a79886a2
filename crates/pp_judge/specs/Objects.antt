-- Meaning: what a header says of its run.
use Rattle.std.specs.Prelude.{List, Option, option_map}
use Rattle.pp_records.specs.Fronts.{Front}
use Rattle.pp_records.specs.Inputs.{Setting}
use Rattle.pp_records.specs.Records.{RunRecord}
use Rattle.pp_records.specs.Runs.{Lined, Translation}
use Rattle.pp_records.specs.Styles.{translation}
use Rattle.pp_format_read.specs.declared.header.Header.{Header}
use Rattle.pp_model.specs.Config.{Start, start_with}
use Rattle.pp_model.specs.Object.{Object}
use Rattle.pp_objects.specs.Objects.{kinds_of, objects, place_of}
use Rattle.pp_objects.specs.declared.act.Op.{Op}
use Rattle.pp_objects.specs.declared.states.ObjectState.{ObjectState}
use Rattle.pp_kind.specs.Object.{rules_of}

-- the objects of a header, side by side
abbrev pub object_of : Header → Object Op (List ObjectState)
object_of header = rules_of objects (kinds_of header.catalog)

-- the transaction that is committed before the first step, if the header has one
abbrev pub start_of : Header → Option (Start Op)
start_of header = option_map (λ z. start_with z.tx z.ops) header.start

-- how the records after a header become steps, in its style
abbrev pub translation_of : Header → Translation Front (RunRecord Op) Op
translation_of header = translation place_of header.style (kinds_of header.catalog)

-- all of it, of a header on its line
abbrev pub setting_of : Lined Header → Setting Front (RunRecord Op) Op (List ObjectState)
setting_of header =
    record {
      line = header.line;
      object = object_of header.what;
      start = start_of header.what;
      translation = translation_of header.what;
    }
