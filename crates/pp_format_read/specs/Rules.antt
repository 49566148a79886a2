-- Meaning: the records of style rules, which are steps of the machine.
use Rattle.std.specs.Prelude.{◌≤◌, ℕ, List, codes, Result, Ok, Err, if◌then◌else◌}
use Rattle.std.specs.Str.{bytes_eq}
use Rattle.serde_json.specs.Data.{Data}
use Rattle.pp_core.specs.Catalogs.{Objects}
use Rattle.pp_core.specs.Trees.{IsWithinLimits}
use Rattle.pp_core.specs.declared.member.Member.TheVariants as members
use Rattle.pp_core.specs.Steps.{Step, Begin, App, Unapp, Push, Unpush, Pull, Unpull, Cmt, Quit}
use Rattle.pp_core.specs.Steps.{Note}
use Rattle.pp_objects.specs.declared.act.Op.{Op}
use Rattle.pp_format_read.specs.declared.fault.RecordFault.{RecordFault}
use Rattle.pp_format_read.specs.declared.fault.RecordFault.TheVariants.{UnknownStep}
use Rattle.pp_format_read.specs.Reading.{◌>>=◌}
use Rattle.pp_format_read.specs.Members.{name_of}
use Rattle.pp_format_read.specs.Items.{id_of, item_of, IsReadableCall}
use Rattle.pp_format_read.specs.Bodies.{body_of_begin}

-- a begin, with its body
unfoldable pub begin_of : Objects → Data → Result (Step Op) RecordFault
begin_of catalog value = do
  tx ← name_of members.Tx value
  thread ← name_of members.Thread value
  body ← body_of_begin catalog value
  Ok (Begin tx thread body)

-- an operation that is called
unfoldable pub app_of : Objects → Data → Result (Step Op) RecordFault
app_of catalog value = do
  tx ← name_of members.Tx value
  item ← item_of catalog value
  Ok (App tx item.id item.op)

-- an operation that is taken back
unfoldable pub unapp_of : Data → Result (Step Op) RecordFault
unapp_of value = do
  tx ← name_of members.Tx value
  id ← id_of value
  Ok (Unapp tx id)

-- an operation that is pushed
unfoldable pub push_of : Data → Result (Step Op) RecordFault
push_of value = do
  tx ← name_of members.Tx value
  id ← id_of value
  Ok (Push tx id)

-- an operation that is withdrawn from the shared log
unfoldable pub unpush_of : Data → Result (Step Op) RecordFault
unpush_of value = do
  tx ← name_of members.Tx value
  id ← id_of value
  Ok (Unpush tx id)

-- an operation that is pulled
unfoldable pub pull_of : Data → Result (Step Op) RecordFault
pull_of value = do
  tx ← name_of members.Tx value
  id ← id_of value
  Ok (Pull tx id)

-- an operation that was pulled, and is given up
unfoldable pub unpull_of : Data → Result (Step Op) RecordFault
unpull_of value = do
  tx ← name_of members.Tx value
  id ← id_of value
  Ok (Unpull tx id)

-- a commit
unfoldable pub cmt_of : Data → Result (Step Op) RecordFault
cmt_of value = do
  tx ← name_of members.Tx value
  Ok (Cmt tx)

-- a transaction that ends with nothing done
unfoldable pub quit_of : Data → Result (Step Op) RecordFault
quit_of value = do
  tx ← name_of members.Tx value
  Ok (Quit tx)

-- a step that does nothing
unfoldable pub note_of : Data → Result (Step Op) RecordFault
note_of value = do
  tx ← name_of members.Tx value
  Ok (Note tx)

-- the step that this word names
unfoldable pub step_of : Objects → List ℕ → Data → Result (Step Op) RecordFault
step_of catalog word value =
    if bytes_eq word (codes "begin") then begin_of catalog value else
    (if bytes_eq word (codes "app") then app_of catalog value else
    (if bytes_eq word (codes "unapp") then unapp_of value else
    (if bytes_eq word (codes "push") then push_of value else
    (if bytes_eq word (codes "unpush") then unpush_of value else
    (if bytes_eq word (codes "pull") then pull_of value else
    (if bytes_eq word (codes "unpull") then unpull_of value else
    (if bytes_eq word (codes "cmt") then cmt_of value else
    (if bytes_eq word (codes "quit") then quit_of value else
    (if bytes_eq word (codes "note") then note_of value else Err UnknownStep)))))))))

-- The facts about a step that was read: its id is in the range of ids, its operation is one on an
-- object of the run, with numbers in the range of records, and its body is within the limits.
abbrev pub IsReadableStep : Objects → Step Op → Type 0
IsReadableStep catalog (Begin tx thread body) = IsWithinLimits body
IsReadableStep catalog (App tx id op) = IsReadableCall catalog id op
IsReadableStep catalog (Unapp tx id) = id ≤ 999_999_999
IsReadableStep catalog (Push tx id) = id ≤ 999_999_999
IsReadableStep catalog (Unpush tx id) = id ≤ 999_999_999
IsReadableStep catalog (Pull tx id) = id ≤ 999_999_999
IsReadableStep catalog (Unpull tx id) = id ≤ 999_999_999
IsReadableStep catalog (Cmt tx) = Unit {0}
IsReadableStep catalog (Quit tx) = Unit {0}
IsReadableStep catalog (Note tx) = Unit {0}

-- the same, whatever the objects of the run
abbrev pub IsAlwaysReadable : Step Op → Type 0
IsAlwaysReadable step = (catalog : Objects) → IsReadableStep catalog step
