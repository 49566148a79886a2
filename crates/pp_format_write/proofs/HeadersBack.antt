-- The line of a header is read back.
use Rattle.std.proofs.Common.{◌≡◌, ℕ, zero, suc, List, [], ◌∷◌, ◌++◌, map, length, false, Option, Some, None, Result, Ok, slice_get, refl, sym, ap, ◌∙◌, subst, arith, append_assoc, append-nil, nat_lt, le-ltb}
use Rattle.std.specs.Map.{keys_of}
use Rattle.std.proofs.lemmas.Option.{slice_get_within}
use Rattle.std.proofs.lemmas.Map.Entries.{length-keys_of}
use Rattle.serde_json.specs.Data.{no_members}
use Rattle.serde_json.specs.View.{items_of}
use Rattle.pp_core.specs.Catalogs.{Objects, HasNames, place_of, HasDistinctNames}
use Rattle.pp_core.specs.Names.{IsName}
use Rattle.pp_core.specs.Words.{named, kind_word, kinds}
use Rattle.pp_core.specs.declared.call.Kind.{Kind}
use Rattle.pp_core.specs.declared.call.Kind.TheVariants as kind
use Rattle.pp_core.specs.declared.entry.Item.{Item}
use Rattle.pp_model.specs.Lists.{Each}
use Rattle.pp_objects.specs.declared.act.Op.{Op}
use Rattle.pp_format_read.specs.declared.fault.RecordFault.{RecordFault}
use Rattle.pp_format_read.specs.declared.start.Start.{Start}
use Rattle.pp_format_read.specs.Reading.{◌>>=◌}
use Rattle.pp_format_read.specs.Items.{id_of, item_of}
use Rattle.pp_format_read.specs.Starts.{element_of, with_element, elements_in, ops_of, start_from, optional_start}
use Rattle.pp_format_read.specs.Members.{value_of, object_of, member_of, text_of, name_of, whole, whole_of, array_of, count}
use Rattle.pp_format_read.specs.Headers.{object_in, with_object, objects_in, catalog_of, version_from, version_of, header_of}
use Rattle.pp_format_write.specs.Headers.{object_value, header_value, item_value, start_value, header_value_2, rules_header}
use Rattle.pp_format_write.specs.RunTexts.{printed_header}
use Rattle.pp_format_write.specs.Statable.{IsCatalog, IsId, IsOpOn, IsStatableStart, CanStart}
use Rattle.pp_format_write.proofs.Texts.{value_back}
use Rattle.pp_format_write.proofs.Headers.{near_header, shallow, near_header_2, shallow_2}
use Rattle.pp_format_write.proofs.OperationsBack.{op_back}
use Rattle.pp_format_write.proofs.StepsBack.{id_back}
use Rattle.pp_format_write.proofs.NamesBack.{name_back, named_place}

kind_back : (k : Kind) → named kind_word kinds (kind_word k) ≡ Some k
kind_back kind.Memory = refl
kind_back kind.KeySet = refl
kind_back kind.KeyMap = refl
kind_back kind.Counter = refl
kind_back kind.Queue = refl
kind_back kind.Stack = refl
kind_back kind.PriorityQueue = refl

-- ---- a name that is later is not before
first_part : (before rest : Objects) (i : ℕ) (name : List ℕ) → slice_get (keys_of before) i ≡ Some name → slice_get (keys_of (before ++ rest)) i ≡ Some name
first_part [] rest i name at = absurd (cc)
first_part (e ∷ es) rest zero name at = at
first_part (e ∷ es) rest (suc i) name at = first_part es rest i name at

middle : (before : Objects) (entry : List ℕ × Kind) (rest : Objects) → slice_get (keys_of (before ++ entry ∷ rest)) (length before) ≡ Some entry.0
middle [] entry rest = refl
middle (e ∷ es) entry rest = middle es entry rest

new : (before : Objects) (entry : List ℕ × Kind) (rest : Objects) → HasDistinctNames (before ++ entry ∷ rest) → place_of entry.0 before ≡ None
new before entry rest distinct = by (place_of entry.0 before) refl
  where
    by : (o : Option ℕ) → place_of entry.0 before ≡ o → o ≡ None
    by None is = refl
    by (Some i) is =
        let at = named_place before entry.0 i is in
        let same : i ≡ length before = distinct entry.0 i (length before) (first_part before (entry ∷ rest) i entry.0 at) (middle before entry rest) in
        let lt = slice_get_within (keys_of before) i entry.0 at in
        absurd (omega (arith, length-keys_of before))

-- ---- object by object
object_back : (before : Objects) (entry : List ℕ × Kind) → IsName entry.0 → place_of entry.0 before ≡ None → object_in before (object_value entry) ≡ Ok entry
unfolding object_in name_of text_of member_of
object_back before entry name new = rw (name_back entry.0 name, new, kind_back entry.1) refl

objects_back : (before rest : Objects) → HasNames rest → HasDistinctNames (before ++ rest) → objects_in before (items_of (map object_value rest)) ≡ Ok (before ++ rest)
unfolding objects_in with_object
objects_back before [] names distinct = ap (λ (l : Objects). Ok l) (sym (append-nil before))
objects_back before (e ∷ es) names distinct =
    let same = append_assoc before (e ∷ []) es in
    let rest = objects_back (before ++ e ∷ []) es names.1 (subst HasDistinctNames (sym same) distinct) in
    rw (object_back before e names.0 (new before e es distinct)) (rest ∙ ap (λ (l : Objects). Ok l) same)

count_back : (catalog : Objects) → count (items_of (map object_value catalog)) ≡ length catalog
count_back [] = refl
count_back (e ∷ es) = ap suc (count_back es)

few_objects : (catalog : Objects) → IsCatalog catalog → nat_lt 256 (count (items_of (map object_value catalog))) ≡ false
few_objects catalog h = rw (count_back catalog) (le-ltb 256 (length catalog) h.few)

catalog_back : (catalog : Objects) → IsCatalog catalog → catalog_of (header_value catalog) ≡ Ok catalog
unfolding catalog_of array_of member_of
catalog_back catalog h = rw (few_objects catalog h) (objects_back [] catalog h.named h.distinct)

header_read : (line : List ℕ) (catalog : Objects) → IsCatalog catalog → value_of line ≡ Ok (header_value catalog) → header_of line ≡ Ok (rules_header catalog None)
unfolding header_of version_of version_from object_of text_of member_of whole_of whole
header_read line catalog h is = rw (is, catalog_back catalog h) refl

-- ---- with a start
module _ (catalog : Objects) (cat : IsCatalog catalog) where
  element_back : (p : Item Op) → IsId p.id → IsOpOn catalog p.op → element_of catalog (item_value catalog p) ≡ Ok p
  unfolding element_of item_of id_of whole_of whole member_of
  element_back p small h = rw (id_back p.id small, op_back catalog p.id p.op no_members h cat) refl

  elements_back : (before rest : List (Item Op)) → Each (λ p. IsId p.id × IsOpOn catalog p.op) rest → elements_in catalog before (items_of (map (item_value catalog) rest)) ≡ Ok (before ++ rest)
  unfolding elements_in with_element
  elements_back before [] h = ap (λ (l : List (Item Op)). Ok l) (sym (append-nil before))
  elements_back before (p ∷ ps) h =
      let same = append_assoc before (p ∷ []) ps in
      rw (element_back p h.0.0 h.0.1) (elements_back (before ++ p ∷ []) ps h.1 ∙ ap (λ (l : List (Item Op)). Ok l) same)

  ops_count : (ops : List (Item Op)) → count (items_of (map (item_value catalog) ops)) ≡ length ops
  ops_count [] = refl
  ops_count (p ∷ ps) = ap suc (ops_count ps)

  start_back : (start : Start) → IsStatableStart catalog start → start_from catalog (start_value catalog start.tx start.ops) ≡ Ok start
  unfolding start_from ops_of array_of name_of text_of member_of
  start_back start h =
      let few : nat_lt 256 (count (items_of (map (item_value catalog) start.ops))) ≡ false = rw (ops_count start.ops) (le-ltb 256 (length start.ops) h.few) in
      rw (name_back start.tx h.named, few, elements_back [] start.ops h.each) refl

  catalog_back_2 : (start : Start) → catalog_of (header_value_2 catalog start.tx start.ops) ≡ Ok catalog
  unfolding catalog_of array_of member_of
  catalog_back_2 start = rw (few_objects catalog cat) (objects_back [] catalog cat.named cat.distinct)

  optional_back : (start : Start) → IsStatableStart catalog start → optional_start catalog (header_value_2 catalog start.tx start.ops) ≡ Ok (Some start)
  unfolding optional_start
  optional_back start h = ap (λ (r : Result Start RecordFault). r >>= λ s. Ok (Some s)) (start_back start h)

  header_read_2 : (line : List ℕ) (start : Start) → IsStatableStart catalog start → value_of line ≡ Ok (header_value_2 catalog start.tx start.ops) → header_of line ≡ Ok (rules_header catalog (Some start))
  unfolding header_of version_of version_from object_of text_of member_of whole_of whole
  header_read_2 line start h is = rw (is, catalog_back_2 start, optional_back start h) refl

-- ---- in either version
pub reads_back : (catalog : Objects) (start : Option Start) → IsCatalog catalog → CanStart catalog start → header_of (printed_header catalog start) ≡ Ok (rules_header catalog start)
reads_back catalog None cat h =
    header_read (printed_header catalog None) catalog cat (value_back (header_value catalog) (near_header catalog cat.named) (shallow catalog))
reads_back catalog (Some start) cat h =
    header_read_2 catalog cat (printed_header catalog (Some start)) start h
    (value_back (header_value_2 catalog start.tx start.ops) (near_header_2 catalog start cat.named h) (shallow_2 catalog start.tx start.ops))
