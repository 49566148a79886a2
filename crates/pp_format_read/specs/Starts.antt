-- Meaning: the start of a run, which a header of version 2 may have.
use Rattle.std.specs.Prelude.{◌≤◌, List, [], ◌∷◌, ◌++◌, length, nat_lt, Option, Some, None, ok_or}
use Rattle.std.specs.Prelude.{Result, Ok}
use Rattle.std.specs.List.{All}
use Rattle.serde_json.specs.Data.{Data, Items, no_items, item, null}
use Rattle.serde_json.specs.Find.{as_object, get}
use Rattle.pp_core.specs.Catalogs.{Objects}
use Rattle.pp_core.specs.Words.{member_word}
use Rattle.pp_core.specs.declared.entry.Item.{Item}
use Rattle.pp_core.specs.declared.limits.TheConstants.{MOST_START}
use Rattle.pp_core.specs.declared.member.Member.TheVariants as members
use Rattle.pp_objects.specs.declared.act.Op.{Op}
use Rattle.pp_format_read.specs.declared.start.Start.{Start}
use Rattle.pp_format_read.specs.declared.fault.RecordFault.{RecordFault}
use Rattle.pp_format_read.specs.declared.fault.RecordFault.TheVariants.{WrongType, TooManyStart}
use Rattle.pp_format_read.specs.Reading.{◌>>=◌, fault_if}
use Rattle.pp_format_read.specs.Members.{name_of, array_of, count}
use Rattle.pp_format_read.specs.Items.{item_of, IsReadableItem}

-- an element, which is to be an object
unfoldable pub element_of : Objects → Data → Result (Item Op) RecordFault
element_of catalog value = do
  inside ← ok_or (as_object value) (WrongType members.Ops)
  item_of catalog value

-- the items with one more
unfoldable pub with_element : Objects → List (Item Op) → Data → Result (List (Item Op)) RecordFault
with_element catalog before value = do
  one ← element_of catalog value
  Ok (before ++ one ∷ [])

-- the items with those of an array
unfoldable pub elements_in : Objects → List (Item Op) → Items →
    Result (List (Item Op)) RecordFault
elements_in catalog before no_items = Ok before
elements_in catalog before (item value values) = do
  longer ← with_element catalog before value
  elements_in catalog longer values

-- the operations, at most 256
unfoldable pub ops_of : Objects → Data → Result (List (Item Op)) RecordFault
ops_of catalog value = do
  values ← array_of members.Ops value
  few ← fault_if (nat_lt MOST_START (count values)) TooManyStart
  elements_in catalog [] values

-- the start that a value is
unfoldable pub start_from : Objects → Data → Result Start RecordFault
start_from catalog value = do
  inside ← ok_or (as_object value) (WrongType members.Start)
  tx ← name_of members.Tx value
  ops ← ops_of catalog value
  Ok (record { tx = tx; ops = ops })

-- no start if it is missing or null
abbrev pub start_given : Objects → Option Data → Result (Option Start) RecordFault
start_given catalog None = Ok None
start_given catalog (Some null) = Ok None
start_given catalog (Some value) = start_from catalog value >>= λ start. Ok (Some start)

-- the start of a header, if it has one
unfoldable pub optional_start : Objects → Data → Result (Option Start) RecordFault
optional_start catalog value = start_given catalog (get (member_word members.Start) value)

-- The facts about operations that were read: there are at most 256, and each is readable.
pub record AreReadable (catalog : Objects) (items : List (Item Op)) : Type 0 where
  pub few : length items ≤ MOST_START
  pub each : All (IsReadableItem catalog) items

-- The facts about a start that was read.
abbrev pub IsReadableStart : Objects → Option Start → Type 0
IsReadableStart catalog None = Unit {0}
IsReadableStart catalog (Some start) = AreReadable catalog start.ops
