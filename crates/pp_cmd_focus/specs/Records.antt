-- Meaning: the restriction of a record to an object, and its line. Below, o is the place of the
-- object in the header of the input.
use Rattle.std.specs.Prelude.{ℕ, ◌==◌, nat_eq, cond, List, [], ◌∷◌, ◌++◌, if◌then◌else◌}
use Rattle.std.specs.Prelude.{Option, None, Some}
use Rattle.pp_core.specs.Steps.{Step, Begin, App, Unapp, Push, Unpush, Pull, Unpull, Cmt, Quit}
use Rattle.pp_core.specs.Steps.{Note}
use Rattle.pp_core.specs.declared.entry.Item.{Item}
use Rattle.pp_records.specs.Records.{RunRecord}
use Rattle.pp_records.specs.Records as records
use Rattle.pp_records.specs.Runs.{Lined, Records}
use Rattle.pp_objects.specs.Objects.{place_of}
use Rattle.pp_objects.specs.declared.act.Op.{Op}
use Rattle.pp_format_read.specs.declared.header.Header.{Header}
use Rattle.pp_format_read.specs.declared.start.Start.{Start}
use Rattle.pp_format_write.specs.Statable.{is_begin}
use Rattle.pp_format_write.specs.Steps.{step_bytes}
use Rattle.pp_laws_locality.specs.Restricted.{restricted}

-- the operation that a record of style rules applies, if it is an APP
abbrev pub applied_by : RunRecord Op → List (Item Op)
applied_by (records.Plain (Begin t p b)) = []
applied_by (records.Plain (App t id op)) = record { id = id; op = op } ∷ []
applied_by (records.Plain (Unapp t id)) = []
applied_by (records.Plain (Push t id)) = []
applied_by (records.Plain (Unpush t id)) = []
applied_by (records.Plain (Pull t id)) = []
applied_by (records.Plain (Unpull t id)) = []
applied_by (records.Plain (Cmt t)) = []
applied_by (records.Plain (Quit t)) = []
applied_by (records.Plain (Note t)) = []
applied_by (records.Op t id op) = []
applied_by (records.Commit t) = []
applied_by (records.Abort t) = []
applied_by (records.Retry t) = []
applied_by (records.Refresh t p) = []
applied_by (records.XBegin t) = []
applied_by (records.XEnd t) = []
applied_by (records.XAbort t) = []
applied_by (records.Depend t source) = []
applied_by (records.Publish t) = []
applied_by (records.DropSource t source) = []

-- the operations that records of style rules apply
abbrev pub applied : Records (RunRecord Op) → List (Item Op)
applied [] = []
applied (r ∷ rs) = applied_by r.what ++ applied rs

-- the operations of a start
abbrev pub start_items : Option Start → List (Item Op)
start_items None = []
start_items (Some start) = start.ops

-- the object of the first of these operations that has the id
abbrev pub object_of_id : List (Item Op) → ℕ → Option ℕ
object_of_id [] id = None
object_of_id (p ∷ items) id =
    cond (nat_eq p.id id) (Some (place_of p.op)) (object_of_id items id)

-- the object of each id that the start or one of these records applied
abbrev pub known : Header → Records (RunRecord Op) → ℕ → Option ℕ
known header before id = object_of_id (start_items header.start ++ applied before) id

-- the object of the id that a step names, if it names no operation
abbrev pub object_named : (ℕ → Option ℕ) → Step Op → Option ℕ
object_named objects (Begin t p b) = None
object_named objects (App t id op) = Some (place_of op)
object_named objects (Unapp t id) = objects id
object_named objects (Push t id) = objects id
object_named objects (Unpush t id) = objects id
object_named objects (Pull t id) = objects id
object_named objects (Unpull t id) = objects id
object_named objects (Cmt t) = None
object_named objects (Quit t) = None
object_named objects (Note t) = None

-- a record that is kept unless it is on another object
abbrev pub kept_on : ℕ → Option ℕ → Option (RunRecord Op) → Option (RunRecord Op)
kept_on o None kept = kept
kept_on o (Some p) kept = cond (p == o) kept None

-- The restriction of a record, if ids are of these objects. In the recorded styles it is that of
-- the laws of locality. In style rules a step that is on another object is removed too.
abbrev pub restricted_record : (ℕ → Option ℕ) → ℕ → RunRecord Op → Option (RunRecord Op)
restricted_record objects o (records.Plain step) =
    kept_on o (object_named objects step) (restricted place_of o (records.Plain step))
restricted_record objects o (records.Op t id op) = restricted place_of o (records.Op t id op)
restricted_record objects o (records.Commit t) = restricted place_of o (records.Commit t)
restricted_record objects o (records.Abort t) = restricted place_of o (records.Abort t)
restricted_record objects o (records.Retry t) = restricted place_of o (records.Retry t)
restricted_record objects o (records.Refresh t p) = restricted place_of o (records.Refresh t p)
restricted_record objects o (records.XBegin t) = restricted place_of o (records.XBegin t)
restricted_record objects o (records.XEnd t) = restricted place_of o (records.XEnd t)
restricted_record objects o (records.XAbort t) = restricted place_of o (records.XAbort t)
restricted_record objects o (records.Depend t source) =
    restricted place_of o (records.Depend t source)
restricted_record objects o (records.Publish t) = restricted place_of o (records.Publish t)
restricted_record objects o (records.DropSource t source) =
    restricted place_of o (records.DropSource t source)

-- a begin is written anew, and any other step as it came
abbrev pub step_written : Step Op → List ℕ → List ℕ
step_written step bytes = if is_begin step then step_bytes [] step else bytes

-- The line of what is left of a record that came in this line: an empty line if nothing is, a begin
-- written anew, and any other record as it came.
abbrev pub record_written : Option (RunRecord Op) → List ℕ → List ℕ
record_written None bytes = []
record_written (Some (records.Plain step)) bytes = step_written step bytes
record_written (Some (records.Op t id op)) bytes = bytes
record_written (Some (records.Commit t)) bytes = bytes
record_written (Some (records.Abort t)) bytes = bytes
record_written (Some (records.Retry t)) bytes = bytes
record_written (Some (records.Refresh t p)) bytes = bytes
record_written (Some (records.XBegin t)) bytes = bytes
record_written (Some (records.XEnd t)) bytes = bytes
record_written (Some (records.XAbort t)) bytes = bytes
record_written (Some (records.Depend t source)) bytes = bytes
record_written (Some (records.Publish t)) bytes = bytes
record_written (Some (records.DropSource t source)) bytes = bytes

-- the last of some records, and those before it
abbrev pub with_first : Lined (RunRecord Op) →
    Option (Records (RunRecord Op) × Lined (RunRecord Op)) →
    Option (Records (RunRecord Op) × Lined (RunRecord Op))
with_first r None = Some ([], r)
with_first r (Some (before, last)) = Some (r ∷ before, last)

abbrev pub split_last : Records (RunRecord Op) →
    Option (Records (RunRecord Op) × Lined (RunRecord Op))
split_last [] = None
split_last (r ∷ rs) = with_first r (split_last rs)
