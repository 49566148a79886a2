-- The line of a header over one object is read back, and that of a begin.
use Rattle.std.proofs.Common.{◌≡◌, ◌≤◌, ◌<◌, ◌+◌, ◌*◌, ℕ, zero, suc, List, [], ◌∷◌, ◌++◌, map, length, false, Some, None, Result, Ok, refl, sym, ap, ◌∙◌, arith, append_assoc, append-nil, nat_lt, le-ltb}
use Rattle.serde_json.specs.Data.{Data, object, no_members, depth, items_depth}
use Rattle.serde_json.specs.Read.{max_depth}
use Rattle.serde_json.specs.View.{items_of}
use Rattle.serde_json.specs.Written.{compact_text}
use Rattle.pp_core.specs.Catalogs.{Objects, HasDistinctNames}
use Rattle.pp_core.specs.Names.{IsName}
use Rattle.pp_core.specs.Steps.{Begin}
use Rattle.pp_core.specs.Words.{named, kind_word, kinds, style_word, styles}
use Rattle.pp_core.specs.declared.call.Kind.{Kind}
use Rattle.pp_core.specs.declared.call.Kind.TheVariants as kind
use Rattle.pp_core.specs.declared.call.Style.{Style}
use Rattle.pp_core.specs.declared.call.Style.TheVariants as style
use Rattle.pp_core.specs.declared.entry.Item.{Item}
use Rattle.pp_model.specs.Lists.{Each}
use Rattle.pp_records.specs.Records.{Plain}
use Rattle.pp_objects.specs.One.{call_of, recorded_by}
use Rattle.pp_objects.specs.declared.act.Op.{Op}
use Rattle.pp_format_read.specs.declared.fault.RecordFault.{RecordFault}
use Rattle.pp_format_read.specs.declared.header.Header.{Header}
use Rattle.pp_format_read.specs.declared.start.Start.{Start}
use Rattle.pp_format_read.specs.Reading.{◌>>=◌}
use Rattle.pp_format_read.specs.Items.{id_of, item_of}
use Rattle.pp_format_read.specs.Starts.{element_of, with_element, elements_in, ops_of, start_from, optional_start}
use Rattle.pp_format_read.specs.Members.{value_of, object_of, member_of, text_of, name_of, whole, whole_of, array_of, count}
use Rattle.pp_format_read.specs.Headers.{object_in, with_object, objects_in, catalog_of, version_from, version_of, header_of}
use Rattle.pp_format_read.specs.Bodies.{body_of_begin}
use Rattle.pp_format_read.specs.Rules.{begin_of, step_of}
use Rattle.pp_format_read.specs.Boosted.{plain_begin_of, boosted_of}
use Rattle.pp_format_read.specs.Optimistic.{optimistic_of}
use Rattle.pp_format_read.specs.Hardware.{hardware_of}
use Rattle.pp_format_read.specs.Dependent.{dependent_of}
use Rattle.pp_format_read.specs.Records.{record_of}
use Rattle.pp_format_write.specs.Lines.{IsOneLine}
use Rattle.pp_format_write.specs.Operations.{arity_in, op_members}
use Rattle.pp_format_write.specs.Headers.{object_value, objects_value, item_value, start_value}
use Rattle.pp_format_write.specs.Statable.{IsCatalog, IsId, IsOpOn, IsStatableStart}
use Rattle.pp_format_write.specs.Steps.{begin_members, step_value, step_bytes}
use Rattle.pp_format_write.proofs.Bodies.{arguments_flat}
use Rattle.pp_format_write.proofs.Headers.{objects_tidy, objects_flat, objects_wide, item_wide}
use Rattle.pp_format_write.proofs.Names.{named_at}
use Rattle.pp_format_write.proofs.NamesBack.{name_back}
use Rattle.pp_format_write.proofs.Operations.{there, op_tidy, near_numbers}
use Rattle.pp_format_write.proofs.OperationsBack.{op_back}
use Rattle.pp_format_write.proofs.Steps.{answer_flat, near_step, shallow, statable_short}
use Rattle.pp_format_write.proofs.StepsBack.{id_back}
use Rattle.pp_format_write.proofs.Texts.{AreTidy, HasTidy, IsNear, IsTidy, clean, items_width, short_text, value_back}
use Rattle.pp_format_write.proofs.Words.{IsWord, one_line}
use Rattle.pp_cmd_focus.specs.Headers.{plain_value, started_value}

-- ---- words

kind_back : (k : Kind) → named kind_word kinds (kind_word k) ≡ Some k
kind_back kind.Memory = refl
kind_back kind.KeySet = refl
kind_back kind.KeyMap = refl
kind_back kind.Counter = refl
kind_back kind.Queue = refl
kind_back kind.Stack = refl
kind_back kind.PriorityQueue = refl

style_back : (s : Style) → named style_word styles (style_word s) ≡ Some s
style_back style.Rules = refl
style_back style.Boosted = refl
style_back style.Optimistic = refl
style_back style.Hardware = refl
style_back style.Dependent = refl

style_is_word : (s : Style) → IsWord (style_word s)
style_is_word style.Rules = refl
style_is_word style.Boosted = refl
style_is_word style.Optimistic = refl
style_is_word style.Hardware = refl
style_is_word style.Dependent = refl

style_wide : (s : Style) → length (style_word s) ≤ 10
style_wide style.Rules = omega arith
style_wide style.Boosted = omega arith
style_wide style.Optimistic = omega arith
style_wide style.Hardware = omega arith
style_wide style.Dependent = omega arith

-- ---- one object

module _ (entry : List ℕ × Kind) (name : IsName entry.0) where
  abbrev one : Objects
  one = entry ∷ []

  object_back : object_in [] (object_value entry) ≡ Ok entry
  unfolding object_in name_of text_of member_of
  object_back = rw (name_back entry.0 name, kind_back entry.1) refl

  objects_back : objects_in [] (items_of (map object_value one)) ≡ Ok one
  unfolding objects_in with_object
  objects_back = rw object_back refl

  one_distinct : HasDistinctNames one
  one_distinct n zero zero a b = refl
  one_distinct n (suc i) j a b = absurd (cc)
  one_distinct n i (suc j) a b = absurd (cc)

  one_catalog : IsCatalog one
  one_catalog = record { few = omega arith; distinct = one_distinct; named = (name, tt) }

  module _ (s : Style) where
    plain_catalog : catalog_of (plain_value (objects_value one) s) ≡ Ok one
    unfolding catalog_of array_of member_of
    plain_catalog = objects_back

    plain_read : (line : List ℕ) → value_of line ≡ Ok (plain_value (objects_value one) s) → header_of line ≡ Ok (record { style = s; catalog = one; start = None })
    unfolding header_of version_of version_from object_of text_of member_of whole_of whole
    plain_read line is = rw (is, plain_catalog, style_back s) refl

    plain_near : IsTidy IsNear (plain_value (objects_value one) s)
    plain_near = (refl, (refl, objects_tidy IsNear one (name, tt), (refl, omega arith, (refl, style_is_word s, tt))))

    -- The line of a header over one object without a start has no byte below 32.
    pub plain_one_line : IsOneLine (compact_text (plain_value (objects_value one) s))
    plain_one_line = one_line (compact_text (plain_value (objects_value one) s)) (clean IsNear (plain_value (objects_value one) s) plain_near)

    plain_shallow : depth (plain_value (objects_value one) s) ≤ max_depth
    plain_shallow = omega (arith, objects_flat one)

    -- The line of a header over one object without a start is read as this header.
    pub plain_back : header_of (compact_text (plain_value (objects_value one) s)) ≡ Ok (record { style = s; catalog = one; start = None })
    plain_back = plain_read (compact_text (plain_value (objects_value one) s)) (value_back (plain_value (objects_value one) s) plain_near plain_shallow)

  -- ---- with a start

  abbrev AreStatable : List (Item Op) → Type 0
  AreStatable ops = Each (λ p. IsId p.id × IsOpOn one p.op) ops

  element_back : (p : Item Op) → IsId p.id → IsOpOn one p.op → element_of one (item_value one p) ≡ Ok p
  unfolding element_of item_of id_of whole_of whole member_of
  element_back p small h = rw (id_back p.id small, op_back one p.id p.op no_members h one_catalog) refl

  elements_back : (before more : List (Item Op)) → AreStatable more → elements_in one before (items_of (map (item_value one) more)) ≡ Ok (before ++ more)
  unfolding elements_in with_element
  elements_back before [] h = ap (λ (l : List (Item Op)). Ok l) (sym (append-nil before))
  elements_back before (p ∷ ps) h =
      let same = append_assoc before (p ∷ []) ps in
      rw (element_back p h.0.0 h.0.1) (elements_back (before ++ p ∷ []) ps h.1 ∙ ap (λ (l : List (Item Op)). Ok l) same)

  ops_count : (ops : List (Item Op)) → count (items_of (map (item_value one) ops)) ≡ length ops
  ops_count [] = refl
  ops_count (p ∷ ps) = ap suc (ops_count ps)

  start_back : (start : Start) → IsStatableStart one start → start_from one (start_value one start.tx start.ops) ≡ Ok start
  unfolding start_from ops_of array_of name_of text_of member_of
  start_back start h =
      let few : nat_lt 256 (count (items_of (map (item_value one) start.ops))) ≡ false = rw (ops_count start.ops) (le-ltb 256 (length start.ops) h.few) in
      rw (name_back start.tx h.named, few, elements_back [] start.ops h.each) refl

  near_item : (p : Item Op) → IsId p.id × IsOpOn one p.op → HasTidy IsNear (op_members one p.id p.op no_members)
  near_item p h = op_tidy IsNear one p.id p.op no_members (named_at one p.op.object (name, tt) (there one p.op h.1)) (near_numbers p.id p.op.act h.0 h.1.1) tt

  near_items : (ops : List (Item Op)) → AreStatable ops → AreTidy IsNear (items_of (map (item_value one) ops))
  near_items [] h = tt
  near_items (p ∷ ps) h = ((refl, near_item p h.0), near_items ps h.1)

  item_depth : (p : Item Op) → depth (item_value one p) ≤ 2
  item_depth p =
      let c = call_of p.op.act in
      omega (arith, arguments_flat (arity_in p.op.act) (Some c.first) (Some c.second) (Some c.third), answer_flat (recorded_by p.op.act))

  ops_depth : (ops : List (Item Op)) → items_depth (items_of (map (item_value one) ops)) ≤ 2
  ops_depth [] = omega arith
  ops_depth (p ∷ ps) = omega (arith, item_depth p, ops_depth ps)

  ops_wide : (ops : List (Item Op)) → AreStatable ops → items_width (items_of (map (item_value one) ops)) ≤ 177 * length ops + 1
  ops_wide [] h = omega arith
  ops_wide (p ∷ ps) h = omega (arith, item_wide one p (name, tt) h.0.1, ops_wide ps h.1)

  module _ (s : Style) (start : Start) (h : IsStatableStart one start) where
    abbrev started : Data
    started = started_value (objects_value one) (start_value one start.tx start.ops) s

    started_catalog : catalog_of started ≡ Ok one
    unfolding catalog_of array_of member_of
    started_catalog = objects_back

    optional_back : optional_start one started ≡ Ok (Some start)
    unfolding optional_start
    optional_back = ap (λ (r : Result Start RecordFault). r >>= λ z. Ok (Some z)) (start_back start h)

    started_read : (line : List ℕ) → value_of line ≡ Ok started → header_of line ≡ Ok (record { style = s; catalog = one; start = Some start })
    unfolding header_of version_of version_from object_of text_of member_of whole_of whole
    started_read line is = rw (is, started_catalog, optional_back, style_back s) refl

    started_near : IsTidy IsNear started
    started_near =
        let bytes = h.named.bytes in
        (refl, (refl, objects_tidy IsNear one (name, tt), (refl, omega arith, (refl, (refl, (refl, near_items start.ops h.each, (refl, bytes, tt))), (refl, style_is_word s, tt)))))

    -- The line of a header over one object with a start has no byte below 32.
    pub started_one_line : IsOneLine (compact_text started)
    started_one_line = one_line (compact_text started) (clean IsNear started started_near)

    started_shallow : depth started ≤ max_depth
    started_shallow = omega (arith, objects_flat one, ops_depth start.ops)

    -- The line of a header over one object with a start is read as this header.
    pub started_back : header_of (compact_text started) ≡ Ok (record { style = s; catalog = one; start = Some start })
    started_back = started_read (compact_text started) (value_back started started_near started_shallow)

    -- It has fewer than 60,000 bytes.
    pub started_short : length (compact_text started) < 60_000
    started_short =
        let few = h.few in let short = h.named.few in
        omega (arith, short_text started started_near, objects_wide one (name, tt), ops_wide start.ops h.each, style_wide s)

  -- Without a start it has fewer than 60,000 bytes too.
  pub plain_short : (s : Style) → length (compact_text (plain_value (objects_value one) s)) < 60_000
  plain_short s = omega (arith, short_text (plain_value (objects_value one) s) (plain_near s), objects_wide one (name, tt), style_wide s)

-- ---- a begin

module _ (tx thread : List ℕ) (named : IsName tx) (also : IsName thread) where
  begin_read : (catalog : Objects) → begin_of catalog (object (begin_members [] tx thread None)) ≡ Ok (Begin tx thread None)
  unfolding begin_of name_of text_of member_of body_of_begin
  begin_read catalog = rw (name_back tx named, name_back thread also) refl

  record_read : (header : Header) (line : List ℕ) → value_of line ≡ Ok (object (begin_members [] tx thread None)) → record_of header line ≡ Ok (Plain (Begin tx thread None))
  unfolding record_of object_of text_of member_of step_of boosted_of plain_begin_of optimistic_of hardware_of dependent_of
  record_read header line is = by header.style refl
    where
      by : (s : Style) → header.style ≡ s → record_of header line ≡ Ok (Plain (Begin tx thread None))
      by style.Rules e = rw (is, e, begin_read header.catalog) refl
      by style.Boosted e = rw (is, e, begin_read header.catalog) refl
      by style.Optimistic e = rw (is, e, begin_read header.catalog) refl
      by style.Hardware e = rw (is, e, begin_read header.catalog) refl
      by style.Dependent e = rw (is, e, begin_read header.catalog) refl

  -- The line of a begin without a body is read as this begin, in each style.
  pub begin_back : (header : Header) → record_of header (step_bytes [] (Begin tx thread None)) ≡ Ok (Plain (Begin tx thread None))
  begin_back header =
      record_read header (step_bytes [] (Begin tx thread None))
      (value_back (step_value [] (Begin tx thread None)) (near_step [] (Begin tx thread None) tt (named, also, tt)) (shallow [] (Begin tx thread None) (named, also, tt)))

  -- The line of a begin without a body has no byte below 32.
  pub begin_one_line : IsOneLine (step_bytes [] (Begin tx thread None))
  begin_one_line = one_line (step_bytes [] (Begin tx thread None)) (clean IsNear (step_value [] (Begin tx thread None)) (near_step [] (Begin tx thread None) tt (named, also, tt)))

  -- It has at most 230 bytes.
  pub begin_short : length (step_bytes [] (Begin tx thread None)) ≤ 230
  begin_short = statable_short [] (Begin tx thread None) (record { few = omega arith; distinct = λ n i j a b. absurd (cc); named = tt }) (named, also, tt)
