-- The elements of a start, one by one.
use Rattle.std.proofs.Common.{◌≡◌, ◌<◌, ◌≤◌, ℕ, ◌+◌, List, length, drop, get_or}
use Rattle.std.proofs.Common.{Result, Ok, Err, refl, sym, ◌∙◌}
use Rattle.std.proofs.lemmas.List.{drop_all}
use Rattle.serde_json.specs.declared.value.Value.{Value}
use Rattle.serde_json.specs.View.{view, items_view}
use Rattle.pp_core.specs.Catalogs.{Objects}
use Rattle.pp_core.specs.declared.entry.Item.{Item}
use Rattle.pp_objects.specs.declared.act.Op.{Op}
use Rattle.pp_format_read.specs.declared.fault.RecordFault.{RecordFault}
use Rattle.pp_format_read.specs.Starts.{with_element, elements_in}
use Rattle.pp_format_read.proofs.Objects.{item_at}

-- The walk over the items of a start goes on after a value that is an item.
pub goes_on : (catalog : Objects) (before longer : List (Item Op)) (values : List Value) (i : ℕ) (v : Value) (total : Result (List (Item Op)) RecordFault)
    → i < length values → v ≡ get_or values i v → with_element catalog before (view v) ≡ Ok longer
    → elements_in catalog before (items_view (drop i values)) ≡ total → elements_in catalog longer (items_view (drop (i + 1) values)) ≡ total
unfolding elements_in
goes_on catalog before longer values i v total lt is h so_far =
    let one : elements_in catalog before (items_view (drop i values)) ≡ elements_in catalog longer (items_view (drop (i + 1) values)) = rw (item_at values i v lt is, h) refl in
    sym one ∙ so_far

-- The walk over the items of a start stops at the first value with a fault.
pub stops : (catalog : Objects) (before : List (Item Op)) (values : List Value) (i : ℕ) (v : Value) (e : RecordFault) (total : Result (List (Item Op)) RecordFault)
    → i < length values → v ≡ get_or values i v → with_element catalog before (view v) ≡ Err e
    → elements_in catalog before (items_view (drop i values)) ≡ total → total ≡ Err e
unfolding elements_in
stops catalog before values i v e total lt is h so_far =
    let one : elements_in catalog before (items_view (drop i values)) ≡ Err e = rw (item_at values i v lt is, h) refl in
    sym so_far ∙ one

-- The walk over the items of a start ends with all items read.
pub ends : (catalog : Objects) (before : List (Item Op)) (values : List Value) (i : ℕ) (total : Result (List (Item Op)) RecordFault)
    → length values ≤ i → elements_in catalog before (items_view (drop i values)) ≡ total → total ≡ Ok before
unfolding elements_in
ends catalog before values i total le so_far =
    let one : elements_in catalog before (items_view (drop i values)) ≡ Ok before = rw (drop_all i values le) refl in
    sym so_far ∙ one

pub ruleset walk = (goes_on, stops, ends)
