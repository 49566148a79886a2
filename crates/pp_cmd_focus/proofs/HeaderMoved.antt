-- The header of a restriction is read back.
use Rattle.std.specs.Prelude.{◌==◌, cond, IsTrue, option_map, unwrap_or}
use Rattle.std.specs.Map.{keys_of}
use Rattle.std.specs.Option.{option_to_list}
use Rattle.std.proofs.Common.{◌≡◌, ◌≤◌, ◌<◌, ℕ, zero, suc, Bool, true, false, List, [], ◌∷◌, codes, map, length, Option, Some, None, Ok, slice_get, refl, sym, ap, ◌∙◌, subst, arith}
use Rattle.std.proofs.lemmas.Bool.Decides.{eqb_tells}
use Rattle.std.proofs.lemmas.Option.{slice_get-map}
use mathlib.Core.Logic.{inl, inr}
use Rattle.serde_json.specs.Data.{Data, array, member, no_members, object, string}
use Rattle.serde_json.specs.View.{items_of}
use Rattle.serde_json.specs.Written.{compact_text}
use Rattle.pp_core.specs.Catalogs.{Objects, HasNames, place_of as place_named}
use Rattle.pp_core.specs.Names.{IsName}
use Rattle.pp_core.specs.declared.call.Kind.{Kind}
use Rattle.pp_core.specs.declared.entry.Item.{Item}
use Rattle.pp_model.specs.Lists.{Each}
use Rattle.pp_objects.specs.Objects.{fits_in, kinds_of, place_of}
use Rattle.pp_objects.specs.One.{one as one_object}
use Rattle.pp_objects.specs.declared.act.Op.{Op}
use Rattle.pp_format_read.specs.declared.header.Header.{Header}
use Rattle.pp_format_read.specs.declared.start.Start.{Start}
use Rattle.pp_format_read.specs.Headers.{header_of}
use Rattle.pp_input.specs.Lines.{blank}
use Rattle.pp_format_write.specs.Lines.{IsOneLine}
use Rattle.pp_format_write.specs.Headers.{item_value, objects_value, start_value}
use Rattle.pp_format_write.specs.Statable.{CanStart, IsId, IsOpOn, IsStatableStart}
use Rattle.pp_format_write.proofs.HeadersRead.{can_start, is_catalog}
use Rattle.pp_format_write.proofs.NamesBack.{named_place}
use Rattle.pp_text.specs.Texts.{name_at}
use Rattle.pp_cmd_focus.specs.Headers.{header_bytes, header_value, items_on, object_at, plain_value, started_value}
use Rattle.pp_cmd_focus.specs.Moved.{moved, moved_header, moved_item, moved_start}
use Rattle.pp_cmd_focus.proofs.HeaderBack.{plain_back, plain_one_line, plain_short, started_back, started_one_line, started_short}

-- ---- the object at a place

there : (catalog : Objects) (o : ℕ) (name : List ℕ) → place_named name catalog ≡ Some o → (entry : List ℕ × Kind) × (slice_get catalog o ≡ Some entry)
there catalog o name place = by (slice_get catalog o) refl
  where
    at : slice_get (keys_of catalog) o ≡ Some name
    at = named_place catalog name o place

    by : (e : Option (List ℕ × Kind)) → slice_get catalog o ≡ e → (entry : List ℕ × Kind) × (slice_get catalog o ≡ Some entry)
    by (Some entry) is = (entry, is)
    by None is = absurd (let none : Some name ≡ None = sym at ∙ slice_get-map (λ (e : List ℕ × Kind). e.0) catalog o ∙ ap (λ (w : Option (List ℕ × Kind)). option_map (λ e. e.0) w) is in cc)

named_entry : (catalog : Objects) (o : ℕ) (entry : List ℕ × Kind) → HasNames catalog → slice_get catalog o ≡ Some entry → IsName entry.0
named_entry [] o entry names at = absurd (cc)
named_entry (e ∷ es) zero entry names at = let same : e ≡ entry = cc in subst (λ (x : List ℕ × Kind). IsName x.0) same names.0
named_entry (e ∷ es) (suc o) entry names at = named_entry es o entry names.1 at

module _ (catalog : Objects) (o : ℕ) (entry : List ℕ × Kind) (at : slice_get catalog o ≡ Some entry) where
  abbrev one : Objects
  one = entry ∷ []

  -- ---- operations of a start

  abbrev name_in : Option (List ℕ × Kind) → List ℕ
  name_in w = unwrap_or (option_map (λ e. e.0) w) []

  named_same : (n : ℕ) → n ≡ o → name_at catalog n ≡ name_at one 0
  named_same n here = ap (λ (k : ℕ). name_at catalog k) here ∙ ap (λ (w : Option (List ℕ × Kind)). name_in w) at

  item_same : (p : Item Op) → p.op.object ≡ o → item_value catalog p ≡ item_value one (moved_item p)
  item_same p here = rw (named_same p.op.object here) refl

  fits_same : (op : Op) → op.object ≡ o → IsOpOn catalog op → IsOpOn one (moved op)
  fits_same op here h =
      let kind : slice_get (kinds_of catalog) op.object ≡ Some entry.1 = ap (λ (k : ℕ). slice_get (kinds_of catalog) k) here ∙ slice_get-map (λ (e : List ℕ × Kind). e.1) catalog o ∙ ap (λ (w : Option (List ℕ × Kind)). option_map (λ e. e.1) w) at in
      (subst (λ (k : Option Kind). IsTrue (fits_in one_object k op.act)) kind h.0, h.1)

  abbrev AreOn : List (Item Op) → Type 0
  AreOn ops = Each (λ p. IsId p.id × IsOpOn catalog p.op) ops

  on_o : (p : Item Op) → (place_of p.op == o) ≡ true → p.op.object ≡ o
  on_o p is = elim (eqb_tells p.op.object o) [ inl h ↦ h.1 | inr h ↦ absurd (cc (is, h.0)) ]

  values_same : (ops : List (Item Op)) → map (item_value catalog) (items_on o ops) ≡ map (item_value one) (map moved_item (items_on o ops))
  values_same [] = refl
  values_same (p ∷ ps) = by (place_of p.op == o) refl (values_same ps)
    where
      by : (b : Bool) → (place_of p.op == o) ≡ b → map (item_value catalog) (items_on o ps) ≡ map (item_value one) (map moved_item (items_on o ps))
          → map (item_value catalog) (cond b (p ∷ items_on o ps) (items_on o ps)) ≡ map (item_value one) (map moved_item (cond b (p ∷ items_on o ps) (items_on o ps)))
      by false is more = more
      by true is more = ap (λ (l : List Data). item_value catalog p ∷ l) more ∙ ap (λ (d : Data). d ∷ map (item_value one) (map moved_item (items_on o ps))) (item_same p (on_o p is))

  few_on : (ops : List (Item Op)) → length (map moved_item (items_on o ops)) ≤ length ops
  few_on [] = omega arith
  few_on (p ∷ ps) = by (place_of p.op == o) (few_on ps)
    where
      by : (b : Bool) → length (map moved_item (items_on o ps)) ≤ length ps → length (map moved_item (cond b (p ∷ items_on o ps) (items_on o ps))) ≤ suc (length ps)
      by false few = omega (arith, few)
      by true few = omega (arith, few)

  each_on : (ops : List (Item Op)) → AreOn ops → Each (λ p. IsId p.id × IsOpOn one p.op) (map moved_item (items_on o ops))
  each_on [] h = tt
  each_on (p ∷ ps) h = by (place_of p.op == o) refl (each_on ps h.1)
    where
      by : (b : Bool) → (place_of p.op == o) ≡ b → Each (λ p. IsId p.id × IsOpOn one p.op) (map moved_item (items_on o ps)) → Each (λ p. IsId p.id × IsOpOn one p.op) (map moved_item (cond b (p ∷ items_on o ps) (items_on o ps)))
      by false is more = more
      by true is more = ((h.0.0, fits_same p.op (on_o p is) h.0.1), more)

  statable : (start : Start) → IsStatableStart catalog start → IsStatableStart one (moved_start o start)
  statable start h = let few = h.few in record { named = h.named; few = omega (arith, few_on start.ops); each = each_on start.ops h.each }

  alone : object_at o catalog ≡ one
  alone = ap (λ (w : Option (List ℕ × Kind)). option_to_list w) at

-- ---- the header

module _ (header : Header) (o : ℕ) (entry : List ℕ × Kind) (at : slice_get header.catalog o ≡ Some entry) (name : IsName entry.0) where
  IsRead : Data → Objects → Option Start → Type 0
  IsRead d catalog start = (header_of (compact_text d) ≡ Ok (record { style = header.style; catalog = catalog; start = start })) × (length (compact_text d) < 60_000) × IsOneLine (compact_text d) × (blank (compact_text d) ≡ false)

  IsBack : Option Start → Type 0
  IsBack start = IsRead (header_value o header start) (object_at o header.catalog) (option_map (λ z. moved_start o z) start)

  abbrev only : Objects
  only = entry ∷ []

  only_is : object_at o header.catalog ≡ only
  only_is = alone header.catalog o entry at

  -- a start whose operations have these values
  abbrev start_data : List ℕ → List Data → Data
  start_data tx ds = object (member (codes "ops") (array (items_of ds)) (member (codes "tx") (string tx) no_members))

  started_same : (start : Start) → header_value o header (Some start) ≡ started_value (objects_value only) (start_value only start.tx (map moved_item (items_on o start.ops))) header.style
  started_same start =
      ap (λ (c : Objects). started_value (objects_value c) (start_value header.catalog start.tx (items_on o start.ops)) header.style) only_is
      ∙ ap (λ (ds : List Data). started_value (objects_value only) (start_data start.tx ds) header.style) (values_same header.catalog o entry at start.ops)

  plain_same : header_value o header None ≡ plain_value (objects_value only) header.style
  plain_same = ap (λ (c : Objects). plain_value (objects_value c) header.style) only_is

  with_start : (start : Option Start) → CanStart header.catalog start → IsBack start
  unfolding IsBack IsRead
  with_start None h =
      subst (λ (c : Objects). IsRead (header_value o header None) c None) (sym only_is)
      (subst (λ (e : Data). IsRead e only None) (sym plain_same) (plain_back entry name header.style, plain_short entry name header.style, plain_one_line entry name header.style, refl))
  with_start (Some start) h =
      let s = statable header.catalog o entry at start h in
      let z = moved_start o start in
      subst (λ (c : Objects). IsRead (header_value o header (Some start)) c (Some z)) (sym only_is)
      (subst (λ (e : Data). IsRead e only (Some z)) (sym (started_same start)) (started_back entry name header.style z s, started_short entry name header.style z s, started_one_line entry name header.style z s, refl))

-- The line of a header over one of its objects is read as this header. It is short, and it has no byte below 32 and is not blank.
pub header_back : (line : List ℕ) (header : Header) (o : ℕ) (name : List ℕ) → header_of line ≡ Ok header → place_named name header.catalog ≡ Some o
    → (header_of (header_bytes o header) ≡ Ok (moved_header o header)) × (length (header_bytes o header) < 60_000) × IsOneLine (header_bytes o header) × (blank (header_bytes o header) ≡ false)
unfolding IsBack IsRead
header_back line header o name read place =
    let cat = is_catalog line header read in
    let e = there header.catalog o name place in
    with_start header o e.0 e.1 (named_entry header.catalog o e.0 cat.named e.1) header.start (can_start line header read)
