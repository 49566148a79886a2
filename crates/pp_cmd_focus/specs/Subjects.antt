-- Proof machinery: what a record is about, and what is written of it.
use Rattle.std.specs.Prelude.{ℕ, ◌==◌, List, [], if◌then◌else◌, Option, None, Some}
use Rattle.pp_core.specs.Catalogs.{place_of as place_named}
use Rattle.pp_core.specs.Steps.{Step, Begin, App, Unapp, Push, Unpush, Pull, Unpull, Cmt, Quit}
use Rattle.pp_core.specs.Steps.{Note}
use Rattle.pp_records.specs.Records.{RunRecord}
use Rattle.pp_records.specs.Records as records
use Rattle.pp_records.specs.Runs.{Lined, Records}
use Rattle.pp_objects.specs.Objects.{place_of}
use Rattle.pp_objects.specs.declared.act.Op.{Op}
use Rattle.pp_format_read.specs.declared.header.Header.{Header as HeaderOf}
use Rattle.pp_format_write.specs.Steps.{step_bytes}
use Rattle.pp_cmd_focus.specs.Headers.{header_bytes}
use Rattle.pp_cmd_focus.specs.Records.{known}
use Rattle.pp_cmd_focus.specs.declared.subject.Subject.{Subject}
use Rattle.pp_cmd_focus.specs.declared.subject.Subject.TheVariants as subjects

-- a begin, whose line is written without a body
abbrev pub begin_subject : List ℕ → List ℕ → Subject
begin_subject tx thread = subjects.Begin (step_bytes [] (Begin tx thread None))

-- a record of the object of an id, if it is known
abbrev pub subject_of_id : Option ℕ → Subject
subject_of_id None = subjects.Alone
subject_of_id (Some p) = subjects.Object p

-- what a step is about
abbrev pub subject_of_step : (ℕ → Option ℕ) → Step Op → Subject
subject_of_step objects (Begin t p b) = begin_subject t p
subject_of_step objects (App t id op) = subjects.Object (place_of op)
subject_of_step objects (Unapp t id) = subject_of_id (objects id)
subject_of_step objects (Push t id) = subject_of_id (objects id)
subject_of_step objects (Unpush t id) = subject_of_id (objects id)
subject_of_step objects (Pull t id) = subject_of_id (objects id)
subject_of_step objects (Unpull t id) = subject_of_id (objects id)
subject_of_step objects (Cmt t) = subjects.Alone
subject_of_step objects (Quit t) = subjects.Alone
subject_of_step objects (Note t) = subjects.Alone

-- what a record is about
abbrev pub subject_of : (ℕ → Option ℕ) → RunRecord Op → Subject
subject_of objects (records.Plain step) = subject_of_step objects step
subject_of objects (records.Op t id op) = subjects.Object (place_of op)
subject_of objects (records.Commit t) = subjects.Alone
subject_of objects (records.Abort t) = subjects.Alone
subject_of objects (records.Retry t) = subjects.Alone
subject_of objects (records.Refresh t p) = subjects.Object p
subject_of objects (records.XBegin t) = subjects.Alone
subject_of objects (records.XEnd t) = subjects.Alone
subject_of objects (records.XAbort t) = subjects.Alone
subject_of objects (records.Depend t source) = subjects.Alone
subject_of objects (records.Publish t) = subjects.Alone
subject_of objects (records.DropSource t source) = subjects.Alone

-- what the last of some records is about, or that there is none
abbrev pub last_subject : HeaderOf → Option (Records (RunRecord Op) × Lined (RunRecord Op)) →
    Subject
last_subject header None = subjects.Header
last_subject header (Some (before, last)) = subject_of (known header before) last.what

-- the line of a record of this object
abbrev pub object_written : ℕ → ℕ → List ℕ → List ℕ
object_written o p bytes = if p == o then bytes else []

-- the line of what a line is about, for the object at a place
abbrev pub subject_written : ℕ → HeaderOf → Subject → List ℕ → List ℕ
subject_written o header subjects.Header bytes = header_bytes o header
subject_written o header (subjects.Object p) bytes = object_written o p bytes
subject_written o header (subjects.Begin line) bytes = line
subject_written o header subjects.Alone bytes = bytes

-- the same, and nothing if the name of the object is unknown
abbrev pub subject_on : Option ℕ → HeaderOf → Subject → List ℕ → List ℕ
subject_on None header subject bytes = []
subject_on (Some o) header subject bytes = subject_written o header subject bytes

abbrev pub subject_in : List ℕ → HeaderOf → Subject → List ℕ → List ℕ
subject_in name header subject bytes =
    subject_on (place_named name header.catalog) header subject bytes
