-- Proof machinery: the index of a log. In a table each entry has a serial number, and the numbers
-- rise along the log.
use Rattle.std.specs.Prelude.{◌≡◌, ◌+◌, ◌<◌, ◌^◌, ℕ, nat_eq, cond, List, [], ◌∷◌, ◌++◌, length}
use Rattle.std.specs.Prelude.{AllPairs, Option, Some, None, vec_len}
use Rattle.std.specs.Vec.{vec_capacity}
use Rattle.pp_core.specs.Values.{HasRoomFor, HasSameValues, value_of}
use Rattle.arrayvec.specs.ArrayVec.{array_vec_len}
use Rattle.pp_log.specs.declared.id_table.IdTable.{IdTable}
use Rattle.pp_log.specs.declared.index.Index.{Index}
use Rattle.pp_log.specs.declared.index.Index.TheVariants.{Few, Many}

-- Each number is above those before it.
abbrev pub IsRising : List ℕ → Type 0
IsRising numbers = AllPairs (λ a b. a < b) numbers

-- The number of the first of the ids that is this one.
abbrev pub number_of : List ℕ → List ℕ → ℕ → Option ℕ
number_of [] numbers id = None
number_of (i ∷ ids) [] id = None
number_of (i ∷ ids) (n ∷ numbers) id = cond (nat_eq i id) (Some n) (number_of ids numbers id)

-- The entries with these ids, in their order, have the serial numbers of the table. It has the
-- number of each id, and its next number is above all of them.
pub record IsTableOf (table : IdTable) (ids : List ℕ) : Type 0 where
  pub size : length table.serials.items ≡ length ids
  pub rising : IsRising (table.serials.items ++ table.next ∷ [])
  pub has : (id : ℕ) → value_of table.serial_of id ≡ number_of ids table.serials.items id

-- The index is of the entries with these ids, in their order.
abbrev pub IsIndexOf : Index → List ℕ → Type 0
IsIndexOf (Few few) ids = few.items ≡ ids
IsIndexOf (Many table) ids = IsTableOf table ids

-- How many entries the index has.
abbrev pub index_len : Index → ℕ
index_len (Few few) = array_vec_len few
index_len (Many table) = length table.serials.items

-- None of the ids is this one.
abbrev pub IsNewId : ℕ → List ℕ → Type 0
IsNewId id [] = Unit {0}
IsNewId id (i ∷ ids) = (id ≡ i → ⊥) × IsNewId id ids

-- Each id occurs once.
abbrev pub StandOnce : List ℕ → Type 0
StandOnce [] = Unit {0}
StandOnce (i ∷ ids) = IsNewId i ids × StandOnce ids

-- The table is of the same entries.
pub record IsSameTable (old new : IdTable) : Type 0 where
  pub serials : new.serials.items ≡ old.serials.items
  pub serial_of : HasSameValues old.serial_of new.serial_of
  pub next : new.next ≡ old.next

-- The index is of the same entries, and each of their ids occurs once.
abbrev pub IsSameIndex : Index → Index → Type 0
IsSameIndex old new = (ids : List ℕ) → StandOnce ids → IsIndexOf old ids → IsIndexOf new ids

-- There is room for one more entry with this id in the table, and a number for it.
pub record HasTableRoom (id : ℕ) (table : IdTable) : Type 0 where
  pub serials : vec_len table.serials < vec_capacity table.serials
  pub serial_of : HasRoomFor id table.serial_of
  pub next : table.next + 1 < 2 ^ 32

-- There is room for one more entry with this id.
abbrev pub HasIndexRoom : ℕ → Index → Type 0
HasIndexRoom id (Few few) = array_vec_len few < 16
HasIndexRoom id (Many table) = HasTableRoom id table
