-- The line of a header.
use Rattle.std.proofs.Common.{◌≡◌, ◌≤◌, ◌<◌, ◌+◌, ◌*◌, ℕ, false, zero, suc, List, [], ◌∷◌, ◌++◌, map, take, length, get_or, slice_get, Option, Some, None, option_map, refl, sym, ap, ◌∙◌, subst, arith}
use Rattle.std.proofs.lemmas.List.{map-append}
use Rattle.pp_core.specs.Names.{IsName}
use Rattle.serde_json.specs.Data.{Num, unsigned, Data, no_members, depth, items_depth}
use Rattle.serde_json.specs.Read.{max_depth}
use Rattle.serde_json.specs.View.{view, items_of}
use Rattle.serde_json.specs.declared.value.Value.{Value}
use Rattle.serde_json.specs.Written.{has_float}
use Rattle.pp_core.specs.Catalogs.{Objects, HasDistinctNames, HasNames}
use Rattle.pp_core.specs.declared.limits.TheConstants.{MOST_OBJECTS}
use Rattle.pp_core.specs.Words.{kind_word}
use Rattle.pp_core.specs.declared.call.Kind.{Kind}
use Rattle.pp_core.specs.declared.call.Kind.TheVariants as kinds
use Rattle.pp_core.specs.declared.entry.Item.{Item}
use Rattle.pp_model.specs.Lists.{Each}
use Rattle.pp_objects.specs.One.{kind_for, call_of, recorded_by}
use Rattle.pp_objects.specs.declared.act.Op.{Op}
use Rattle.pp_format_read.specs.declared.start.Start.{Start}
use Rattle.pp_format_write.specs.Operations.{arity_in, op_members}
use Rattle.pp_format_write.specs.Headers.{object_value, header_value, header_bytes}
use Rattle.pp_format_write.specs.Headers.{item_value, header_value_2, header_bytes_2}
use Rattle.pp_format_write.specs.Lines.{IsOneLine}
use Rattle.pp_format_write.specs.RunTexts.{printed_header}
use Rattle.pp_format_write.specs.Statable.{IsCatalog, IsId, IsOpOn, AreWritable, IsStatableStart, CanStart}
use Rattle.pp_format_write.proofs.Words.{IsWord}
use Rattle.pp_format_write.proofs.Texts.{IsTidy, AreTidy, HasTidy, IsWhole, IsNear, width, items_width, short_text, one_line_text}
use Rattle.pp_format_write.proofs.Texts as texts
use Rattle.pp_format_write.proofs.Names.{named_at}
use Rattle.pp_format_write.proofs.Operations.{there, op_tidy, whole_numbers, near_numbers}
use Rattle.pp_format_write.proofs.Bodies.{arguments_flat, arguments_wide, call_wide}
use Rattle.pp_format_write.proofs.Steps.{answer_flat, answer_wide}

-- The word of each kind has only bytes that a name may have.
pub kind_is_word : (kind : Kind) → IsWord (kind_word kind)
kind_is_word kinds.Memory = refl
kind_is_word kinds.KeySet = refl
kind_is_word kinds.KeyMap = refl
kind_is_word kinds.Counter = refl
kind_is_word kinds.Queue = refl
kind_is_word kinds.Stack = refl
kind_is_word kinds.PriorityQueue = refl

-- If all objects have names, their values are tidy for any property of numbers.
pub objects_tidy : (P : Num → Type 0) (catalog : Objects) → HasNames catalog → AreTidy P (items_of (map object_value catalog))
objects_tidy P [] h = tt
objects_tidy P (e ∷ es) h = ((refl, (refl, kind_is_word e.1, (refl, h.0.bytes, tt))), objects_tidy P es h.1)

header_tidy : (P : Num → Type 0) (catalog : Objects) → HasNames catalog → P (unsigned 1) → IsTidy P (header_value catalog)
header_tidy P catalog h p = (refl, (refl, objects_tidy P catalog h, (refl, p, (refl, refl, tt))))

-- If all objects have names, the value of a header without a start has no floating-point number.
pub no_float : (catalog : Objects) → HasNames catalog → has_float (header_value catalog) ≡ false
no_float catalog h = texts.no_float (header_value catalog) (header_tidy IsWhole catalog h tt)

-- If all objects have names, the line of a header without a start has no byte below 32.
pub one_line : (catalog : Objects) → HasNames catalog → IsOneLine (header_bytes catalog)
one_line catalog h = one_line_text (header_value catalog) (header_tidy IsWhole catalog h tt)

-- If all objects have names, the value of a header without a start is tidy, with numbers within 10^18.
pub near_header : (catalog : Objects) → HasNames catalog → IsTidy IsNear (header_value catalog)
near_header catalog h = header_tidy IsNear catalog h (omega arith)

-- ---- object by object
one_more : (catalog : Objects) (i : ℕ) (d : Data) → option_map object_value (slice_get catalog i) ≡ Some d → map object_value (take (suc i) catalog) ≡ map object_value (take i catalog) ++ d ∷ []
one_more [] i d at = absurd (cc)
one_more (e ∷ es) zero d at = ap (λ (x : Data). x ∷ []) (cc)
one_more (e ∷ es) (suc i) d at = ap (λ (l : List Data). object_value e ∷ l) (one_more es i d at)

-- If values are those of the first i objects and v is that of object i, with v they are those of the first i + 1.
pub goes_on : (catalog : Objects) (values : List Value) (i : ℕ) (v : Value) → map view values ≡ map object_value (take i catalog)
    → option_map object_value (slice_get catalog i) ≡ Some (view v) → map view (values ++ v ∷ []) ≡ map object_value (take (i + 1) catalog)
goes_on catalog values i v so_far at =
    let next : i + 1 ≡ suc i = omega arith in
    map-append view values (v ∷ []) ∙ ap (λ (l : List Data). l ++ view v ∷ []) so_far ∙ sym (one_more catalog i (view v) at) ∙ ap (λ (n : ℕ). map object_value (take n catalog)) (sym next)

-- ---- how deep and how long it is
pub objects_flat : (catalog : Objects) → items_depth (items_of (map object_value catalog)) ≤ 1
objects_flat [] = omega arith
objects_flat (e ∷ es) = omega (arith, objects_flat es)

-- The value of a header without a start is at most as deep as JSON may be.
pub shallow : (catalog : Objects) → depth (header_value catalog) ≤ max_depth
shallow catalog = omega (arith, objects_flat catalog)

kind_wide : (kind : Kind) → length (kind_word kind) ≤ 7
kind_wide kinds.Memory = omega arith
kind_wide kinds.KeySet = omega arith
kind_wide kinds.KeyMap = omega arith
kind_wide kinds.Counter = omega arith
kind_wide kinds.Queue = omega arith
kind_wide kinds.Stack = omega arith
kind_wide kinds.PriorityQueue = omega arith

-- The values of n objects with names have a width of at most 54 n + 1.
pub objects_wide : (catalog : Objects) → HasNames catalog → items_width (items_of (map object_value catalog)) ≤ 54 * length catalog + 1
objects_wide [] h = omega arith
objects_wide (e ∷ es) h = let few = h.0.few in omega (arith, kind_wide e.1, objects_wide es h.1)

short_1 : (catalog : Objects) → IsCatalog catalog → length (header_bytes catalog) < 60_000
short_1 catalog h = let few = h.few in omega (arith, short_text (header_value catalog) (near_header catalog h.named), objects_wide catalog h.named)

-- ---- with a start
ops_tidy : (P : Num → Type 0) (catalog : Objects) (Q : Item Op → Type 0) → ((p : Item Op) → Q p → HasTidy P (op_members catalog p.id p.op no_members))
    → (ops : List (Item Op)) → Each Q ops → AreTidy P (items_of (map (item_value catalog) ops))
ops_tidy P catalog Q each [] h = tt
ops_tidy P catalog Q each (p ∷ ps) h = ((refl, each p h.0), ops_tidy P catalog Q each ps h.1)

header_tidy_2 : (P : Num → Type 0) (catalog : Objects) (tx : List ℕ) (ops : List (Item Op)) → HasNames catalog → IsName tx → P (unsigned 2)
    → AreTidy P (items_of (map (item_value catalog) ops)) → IsTidy P (header_value_2 catalog tx ops)
header_tidy_2 P catalog tx ops h name p items =
    (refl, (refl, objects_tidy P catalog h, (refl, p, (refl, (refl, (refl, items, (refl, name.bytes, tt))), (refl, refl, tt)))))

whole_item : (catalog : Objects) → HasNames catalog → (p : Item Op) → IsOpOn catalog p.op → HasTidy IsWhole (op_members catalog p.id p.op no_members)
whole_item catalog names p h =
    op_tidy IsWhole catalog p.id p.op no_members (named_at catalog p.op.object names (there catalog p.op h)) (whole_numbers p.id (call_of p.op.act) (recorded_by p.op.act)) tt

near_item : (catalog : Objects) → HasNames catalog → (p : Item Op) → IsId p.id × IsOpOn catalog p.op → HasTidy IsNear (op_members catalog p.id p.op no_members)
near_item catalog names p h =
    op_tidy IsNear catalog p.id p.op no_members (named_at catalog p.op.object names (there catalog p.op h.1)) (near_numbers p.id p.op.act h.0 h.1.1) tt

whole_header_2 : (catalog : Objects) (tx : List ℕ) (ops : List (Item Op)) → HasNames catalog → IsName tx → AreWritable catalog ops → IsTidy IsWhole (header_value_2 catalog tx ops)
whole_header_2 catalog tx ops names name h = header_tidy_2 IsWhole catalog tx ops names name tt (ops_tidy IsWhole catalog (λ p. IsOpOn catalog p.op) (whole_item catalog names) ops h)

-- If all objects have names and a start can be stated, the value of the header with it is tidy, with numbers within 10^18.
pub near_header_2 : (catalog : Objects) (start : Start) → HasNames catalog → IsStatableStart catalog start → IsTidy IsNear (header_value_2 catalog start.tx start.ops)
near_header_2 catalog start names h =
    header_tidy_2 IsNear catalog start.tx start.ops names h.named (omega arith) (ops_tidy IsNear catalog (λ p. IsId p.id × IsOpOn catalog p.op) (near_item catalog names) start.ops h.each)

-- With names and operations on its objects, the value of a header with a start has no floating-point number.
pub no_float_2 : (catalog : Objects) (tx : List ℕ) (ops : List (Item Op)) → HasNames catalog → IsName tx → AreWritable catalog ops → has_float (header_value_2 catalog tx ops) ≡ false
no_float_2 catalog tx ops names name h = texts.no_float (header_value_2 catalog tx ops) (whole_header_2 catalog tx ops names name h)

-- With names and operations on its objects, the line of a header with a start has no byte below 32.
pub one_line_2 : (catalog : Objects) (tx : List ℕ) (ops : List (Item Op)) → HasNames catalog → IsName tx → AreWritable catalog ops → IsOneLine (header_bytes_2 catalog tx ops)
one_line_2 catalog tx ops names name h = one_line_text (header_value_2 catalog tx ops) (whole_header_2 catalog tx ops names name h)

item_depth : (catalog : Objects) (p : Item Op) → depth (item_value catalog p) ≤ 2
item_depth catalog p =
    let c = call_of p.op.act in
    omega (arith, arguments_flat (arity_in p.op.act) (Some c.first) (Some c.second) (Some c.third), answer_flat (recorded_by p.op.act))

ops_depth : (catalog : Objects) (ops : List (Item Op)) → items_depth (items_of (map (item_value catalog) ops)) ≤ 2
ops_depth catalog [] = omega arith
ops_depth catalog (p ∷ ps) = omega (arith, item_depth catalog p, ops_depth catalog ps)

-- The value of a header with a start is at most as deep as JSON may be.
pub shallow_2 : (catalog : Objects) (tx : List ℕ) (ops : List (Item Op)) → depth (header_value_2 catalog tx ops) ≤ max_depth
shallow_2 catalog tx ops = omega (arith, objects_flat catalog, ops_depth catalog ops)

-- If all objects have names, the value of an operation of a start on one of them has a width of at most 176.
pub item_wide : (catalog : Objects) (p : Item Op) → HasNames catalog → IsOpOn catalog p.op → width (item_value catalog p) ≤ 176
item_wide catalog p names h =
    let name = named_at catalog p.op.object names (there catalog p.op h) in
    let few = name.few in
    let c = call_of p.op.act in
    omega (arith, arguments_wide (arity_in p.op.act) (Some c.first) (Some c.second) (Some c.third), call_wide (kind_for p.op.act) c.method, answer_wide (recorded_by p.op.act))

ops_wide : (catalog : Objects) (ops : List (Item Op)) → HasNames catalog → Each (λ p. IsId p.id × IsOpOn catalog p.op) ops
    → items_width (items_of (map (item_value catalog) ops)) ≤ 177 * length ops + 1
ops_wide catalog [] names h = omega arith
ops_wide catalog (p ∷ ps) names h = omega (arith, item_wide catalog p names h.0.1, ops_wide catalog ps names h.1)

short_2 : (catalog : Objects) (start : Start) → IsCatalog catalog → IsStatableStart catalog start → length (header_bytes_2 catalog start.tx start.ops) < 60_000
short_2 catalog start cat h =
    let few = cat.few in let also = h.few in let name = h.named.few in
    omega (arith, short_text (header_value_2 catalog start.tx start.ops) (near_header_2 catalog start cat.named h), objects_wide catalog cat.named, ops_wide catalog start.ops cat.named h.each)

-- The line of a header that can be stated has fewer than 60,000 bytes.
pub short : (catalog : Objects) (start : Option Start) → IsCatalog catalog → CanStart catalog start → length (printed_header catalog start) < 60_000
short catalog None cat h = short_1 catalog cat
short catalog (Some start) cat h = short_2 catalog start cat h

-- ---- operation by operation
pub writable_at : (catalog : Objects) (ops : List (Item Op)) (i : ℕ) (p : Item Op) → AreWritable catalog ops → i < length ops → p ≡ get_or ops i p → IsOpOn catalog p.op
writable_at catalog [] i p h lt is = absurd (omega arith)
writable_at catalog (x ∷ xs) zero p h lt is = subst (λ (y : Item Op). IsOpOn catalog y.op) (sym is) h.0
writable_at catalog (x ∷ xs) (suc i) p h lt is = writable_at catalog xs i p h.1 (omega arith) is

-- ---- the objects of a run
pub is_catalog_of : (catalog : Objects) (n : ℕ) → n ≡ length catalog → n ≤ MOST_OBJECTS → HasDistinctNames catalog → HasNames catalog → IsCatalog catalog
is_catalog_of catalog n is few distinct named = record {
  few = subst (λ (k : ℕ). k ≤ MOST_OBJECTS) is few;
  distinct = distinct;
  named = named;
}
