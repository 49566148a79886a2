-- Meaning: what a line of a certificate says at its place. A line with a part that cannot be read
-- has no form.
use Rattle.std.specs.Prelude.{ℕ, ◌==◌, ◌&&◌, nat_le, List, [], ◌∷◌, codes, if◌then◌else◌}
use Rattle.std.specs.Prelude.{Option, Some, None, option_and_then, Result, Ok, Err}
use Rattle.serde_json.specs.Data.{Data, Items, no_items, item}
use Rattle.serde_json.specs.Find.{get, as_array, as_integer, as_number}
use Rattle.pp_core.specs.Catalogs.{Objects}
use Rattle.pp_core.specs.declared.call.Kind.{Kind}
use Rattle.pp_input.specs.Lines.{blank}
use Rattle.pp_objects.specs.Objects.{kinds_of}
use Rattle.pp_objects.specs.declared.act.Op.{Op}
use Rattle.pp_format_read.specs.Headers.{catalog_of}
use Rattle.pp_format_read.specs.Items.{id_from, item_of}
use Rattle.pp_format_read.specs.Members.{object_of, count}
use Rattle.pp_format_read.specs.declared.fault.RecordFault.{RecordFault}
use Rattle.pp_certificate_checker.specs.declared.line.Line.{Line}
use Rattle.pp_certificate_checker.specs.declared.line.Line.TheVariants.{Blank, Head, Entry, Exchanges}
use Rattle.pp_certificate_checker.specs.declared.line.Line.TheVariants.{Serial, Other}
use Rattle.pp_certificate_checker.specs.Certificates.{Stage, Fresh, Entered, Exchanged, Ended, Reader}

-- what was read, if there was no fault
abbrev pub found : {X : Type 0} → Result X RecordFault → Option X
found (Ok x) = Some x
found (Err fault) = None

-- the next step of reading
infixl 10 ◌>>=◌
abbrev pub ◌>>=◌ : {A B : Type 0} → Option A → (A → Option B) → Option B
None >>= f = None
(Some x) >>= f = f x

-- a whole number from 0 to 999,999,999
unfoldable pub number_of : Data → Option ℕ
number_of value = option_and_then id_from (option_and_then as_integer (as_number value))

-- the objects that the first line names
unfoldable pub objects_on : List ℕ → Option Objects
objects_on line = do
  value ← found (object_of line)
  version ← get (codes "certificate") value
  n ← number_of version
  if n == 1 then found (catalog_of value) else None

-- the numbers of an array
unfoldable pub numbers_of : Items → Option (List ℕ)
numbers_of no_items = Some []
numbers_of (item value values) = do
  i ← number_of value
  is ← numbers_of values
  Some (i ∷ is)

-- a row: 1 to 1,000 positions
unfoldable pub row_of : Data → Option (List ℕ)
row_of value = do
  values ← as_array value
  if nat_le 1 (count values) && nat_le (count values) 1000 then numbers_of values else None

-- the line that says this, if anything was read
abbrev pub line_of : {X : Type 0} → (X → Line (List Kind) Op) → Option X → Line (List Kind) Op
line_of says None = Other
line_of says (Some x) = says x

-- A line without a member `swaps`. With a member `serial` it is the serial number, and otherwise
-- an entry.
abbrev pub without_row : Objects → Data → Option Data → Line (List Kind) Op
without_row catalog value None = line_of Entry (found (item_of catalog value))
without_row catalog value (Some n) = line_of Serial (number_of n)

-- A line with a member `swaps` is a row of exchanges.
abbrev pub with_row : Objects → Data → Option Data → Line (List Kind) Op
with_row catalog value None = without_row catalog value (get (codes "serial") value)
with_row catalog value (Some row) = line_of Exchanges (row_of row)

abbrev pub value_line : Objects → Option Data → Line (List Kind) Op
value_line catalog None = Other
value_line catalog (Some value) = with_row catalog value (get (codes "swaps") value)

-- A line after the first one, over the objects that the first one names.
abbrev pub later_line : Objects → List ℕ → Line (List Kind) Op
later_line catalog line = value_line catalog (found (object_of line))

-- the first line
abbrev pub first_line : List ℕ → Line (List Kind) Op
first_line line = line_of (λ catalog. Head (kinds_of catalog)) (objects_on line)

-- a line that is not blank
abbrev pub shown_line : Objects → Stage (List Kind) Op → List ℕ → Line (List Kind) Op
shown_line catalog Fresh line = first_line line
shown_line catalog (Entered kinds list) line = later_line catalog line
shown_line catalog (Exchanged kinds list n) line = later_line catalog line
shown_line catalog (Ended kinds list n serial) line = later_line catalog line

-- how the lines of a certificate over these objects are read
abbrev pub reader : Objects → Reader (List ℕ) (List Kind) Op
reader catalog s line = if blank line then Blank else shown_line catalog s line

-- the objects that were read, or none
abbrev pub objects_named : Option Objects → Objects
objects_named None = []
objects_named (Some catalog) = catalog

-- the objects of the first line that is not blank, if it names any
abbrev pub objects_in : List (List ℕ) → Objects
objects_in [] = []
objects_in (line ∷ lines) =
    if blank line then objects_in lines else objects_named (objects_on line)

-- how the lines of an input are read, as a certificate
abbrev pub reader_of : List (List ℕ) → Reader (List ℕ) (List Kind) Op
reader_of lines = reader (objects_in lines)
