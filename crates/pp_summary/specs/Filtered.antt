-- Proof machinery: which parts a filter may have.
use Rattle.std.specs.Prelude.{◌≡◌, ℕ, ◌%◌, true, false, List, slice_index_or}
use Rattle.std.specs.Int.{w64, cast_unsigned}
use Rattle.pp_core.specs.declared.entry.Item.{Item}
use Rattle.pp_model.specs.Lists.{In}
use Rattle.pp_kind.specs.declared.part.Part.{Part}
use Rattle.pp_summary.specs.declared.part_filter.PartFilter.{PartFilter}
use Rattle.pp_summary.specs.declared.part_filter.TheConstants.{REMAINDERS}

-- The remainder of the key of a part, as an unsigned word, divided by `REMAINDERS`.
abbrev pub remainder : Part → ℕ
remainder part = cast_unsigned w64 part.key % REMAINDERS

-- A part with this remainder was added.
abbrev pub MayHave : PartFilter → Part → Type 0
MayHave filter part = slice_index_or filter.remainders (remainder part) false ≡ true

-- Parts with the remainders of all items were added.
abbrev pub MayHaveAll : {Op : Type 0} → (Op → Part) → PartFilter → List (Item Op) → Type 0
MayHaveAll {Op} part_of filter items = (p : Item Op) → In p items → MayHave filter (part_of p.op)
