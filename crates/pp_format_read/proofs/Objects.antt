-- An array's values, one by one.
use Rattle.std.proofs.Common.{◌≡◌, ◌<◌, ◌≤◌, ℕ, suc, ◌+◌, List, [], ◌∷◌, length, drop, get_or}
use Rattle.std.proofs.Common.{Result, Ok, Err, refl, ap, sym, ◌∙◌}
use Rattle.std.proofs.lemmas.List.{drop_more, drop_all}
use Rattle.serde_json.specs.declared.value.Value.{Value}
use Rattle.serde_json.specs.View.{view, items_view}
use Rattle.serde_json.specs.Data.{item}
use Rattle.pp_core.specs.Catalogs.{Objects}
use Rattle.pp_format_read.specs.declared.fault.RecordFault.{RecordFault}
use Rattle.pp_format_read.specs.Members.{count}
use Rattle.pp_format_read.specs.Headers.{with_object, objects_in}

-- An array has as many items as values.
pub count_view : (values : List Value) → count (items_view values) ≡ length values
count_view [] = refl
count_view (v ∷ vs) = ap suc (count_view vs)

-- The items from a position on are the value there, and the items after it.
pub item_at : (values : List Value) (i : ℕ) (v : Value) → i < length values → v ≡ get_or values i v
    → items_view (drop i values) ≡ item (view v) (items_view (drop (i + 1) values))
item_at values i v lt is = rw (drop_more values i v lt, ← is) refl

-- The walk over the objects of a header goes on after a value that is an object.
pub goes_on : (before longer : Objects) (values : List Value) (i : ℕ) (v : Value) (total : Result Objects RecordFault)
    → i < length values → v ≡ get_or values i v → with_object before (view v) ≡ Ok longer
    → objects_in before (items_view (drop i values)) ≡ total → objects_in longer (items_view (drop (i + 1) values)) ≡ total
unfolding objects_in
goes_on before longer values i v total lt is h so_far =
    let one : objects_in before (items_view (drop i values)) ≡ objects_in longer (items_view (drop (i + 1) values)) = rw (item_at values i v lt is, h) refl in
    sym one ∙ so_far

-- The walk over the objects of a header stops at the first value with a fault.
pub stops : (before : Objects) (values : List Value) (i : ℕ) (v : Value) (e : RecordFault) (total : Result Objects RecordFault)
    → i < length values → v ≡ get_or values i v → with_object before (view v) ≡ Err e
    → objects_in before (items_view (drop i values)) ≡ total → total ≡ Err e
unfolding objects_in
stops before values i v e total lt is h so_far =
    let one : objects_in before (items_view (drop i values)) ≡ Err e = rw (item_at values i v lt is, h) refl in
    sym so_far ∙ one

-- The walk over the objects of a header ends with all objects read.
pub ends : (before : Objects) (values : List Value) (i : ℕ) (total : Result Objects RecordFault)
    → length values ≤ i → objects_in before (items_view (drop i values)) ≡ total → total ≡ Ok before
unfolding objects_in
ends before values i total le so_far =
    let one : objects_in before (items_view (drop i values)) ≡ Ok before = rw (drop_all i values le) refl in
    sym so_far ∙ one

pub ruleset walk = (goes_on, stops, ends)
