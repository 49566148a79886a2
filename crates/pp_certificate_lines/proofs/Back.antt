-- Proof machinery: the lines of a certificate are read back.
use Rattle.std.proofs.Common.{◌≡◌, ◌≤◌, ℕ, suc, nat_le, List, [], ◌∷◌, map, length, Bool}
use Rattle.std.proofs.Common.{false, cond, IsTrue, Option, Some, None, Result, Ok, Err, refl}
use Rattle.std.proofs.Common.{sym, ap, ◌∙◌, arith, le-leb}
use Rattle.std.proofs.lemmas.Bool.{and_parts}
use Rattle.std.proofs.lemmas.Bool.Decides.{nat_tests}
use Rattle.serde_json.specs.Data.{number, unsigned, no_members}
use Rattle.serde_json.specs.View.{items_of}
use Rattle.pp_core.specs.Catalogs.{Objects}
use Rattle.pp_core.specs.declared.call.Kind.{Kind}
use Rattle.pp_core.specs.declared.entry.Item.{Item}
use Rattle.pp_input.specs.Lines.{blank}
use Rattle.pp_model.specs.Config.{Config}
use Rattle.pp_model.specs.Lists.{Each}
use Rattle.pp_objects.specs.Objects.{objects, kinds_of}
use Rattle.pp_objects.specs.declared.act.Op.{Op}
use Rattle.pp_format_read.specs.Headers.{catalog_of, version_of, version_from, header_of}
use Rattle.pp_format_read.specs.Items.{id_of, item_of}
use Rattle.pp_format_read.specs.Members.{value_of, object_of, member_of, text_of, whole, whole_of}
use Rattle.pp_format_read.specs.Members.{array_of, count}
use Rattle.pp_format_read.specs.Reading.{◌>>=◌}
use Rattle.pp_format_read.specs.declared.fault.RecordFault.{RecordFault}
use Rattle.pp_format_read.specs.declared.header.Header.{Header}
use Rattle.pp_format_write.specs.Headers.{header_value, item_value, rules_header}
use Rattle.pp_format_write.specs.RunTexts.{printed_header}
use Rattle.pp_format_write.specs.Statable.{IsCatalog, IsId, IsOpOn}
use Rattle.pp_format_write.proofs.Headers.{near_header, shallow}
use Rattle.pp_format_write.proofs.HeadersBack.{reads_back}
use Rattle.pp_format_write.proofs.OperationsBack.{op_back}
use Rattle.pp_format_write.proofs.StepsBack.{id_back}
use Rattle.pp_format_write.proofs.Texts.{value_back}
use Rattle.pp_certificate_checker.specs.declared.line.Line.TheVariants.{Blank, Head, Entry, Exchanges, Serial}
use Rattle.pp_certificate_checker.specs.Certificates.{Stage, Fresh, Entered, Exchanged, Ended}
use Rattle.pp_certificate_checker.specs.Laws.{Spells, IsGoing}
use Rattle.pp_certificate_lines.specs.Laws.{can_state, lines_of}
use Rattle.pp_certificate_lines.specs.Lines.{head_value, position_value, row_value, serial_value}
use Rattle.pp_certificate_lines.specs.Lines.{head_bytes, entry_bytes, row_bytes, serial_bytes, line_bytes}
use Rattle.pp_certificate_lines.specs.Reading.{number_of, objects_on, numbers_of, row_of, later_line}
use Rattle.pp_certificate_lines.specs.Reading.{shown_line, line_of, objects_in, objects_named, reader}
use Rattle.pp_certificate_lines.proofs.Tidy.{near_head, head_shallow, near_entry, entry_shallow}
use Rattle.pp_certificate_lines.proofs.Tidy.{near_row, row_shallow, near_serial, serial_shallow}

-- ---- a number that is written in a line is read back
number_back : (n : ℕ) → n ≤ 999_999_999 → number_of (number (unsigned n)) ≡ Some n
unfolding number_of
number_back n h = id_back n h

-- ---- the head
-- The objects of a header that was read.
abbrev catalog_in : Result Header RecordFault → Result Objects RecordFault
catalog_in (Ok h) = Ok h.catalog
catalog_in (Err e) = Err e

abbrev header_over : Result Objects RecordFault → Result Header RecordFault
header_over (Ok c) = Ok (rules_header c None)
header_over (Err e) = Err e

over_again : (r : Result Objects RecordFault) → catalog_in (header_over r) ≡ r
over_again (Ok c) = refl
over_again (Err e) = refl

by_cases : (r : Result Objects RecordFault)
    → (r >>= λ c. Ok (rules_header c None)) ≡ header_over r
by_cases (Ok c) = refl
by_cases (Err e) = refl

header_is : (line : List ℕ) (catalog : Objects) → value_of line ≡ Ok (header_value catalog)
    → header_of line ≡ (catalog_of (header_value catalog) >>= λ c. Ok (rules_header c None))
unfolding header_of version_of version_from object_of text_of member_of whole_of whole
header_is line catalog is = rw is refl

same_objects : (catalog : Objects) → catalog_of (head_value catalog) ≡ catalog_of (header_value catalog)
unfolding catalog_of array_of member_of
same_objects catalog = refl

catalog_back : (catalog : Objects) → IsCatalog catalog → catalog_of (head_value catalog) ≡ Ok catalog
catalog_back catalog cat =
    let line : List ℕ = printed_header catalog None in
    let r = catalog_of (header_value catalog) in
    let is = value_back (header_value catalog) (near_header catalog cat.named) (shallow catalog) in
    let e : header_over r ≡ Ok (rules_header catalog None) =
    sym (by_cases r) ∙ sym (header_is line catalog is) ∙ reads_back catalog None cat tt in
    same_objects catalog ∙ sym (over_again r)
    ∙ ap (λ (h : Result Header RecordFault). catalog_in h) e

objects_read : (line : List ℕ) (catalog : Objects) → IsCatalog catalog
    → value_of line ≡ Ok (head_value catalog) → objects_on line ≡ Some catalog
unfolding objects_on object_of
objects_read line catalog cat is =
    rw (is, number_back 1 (omega arith), catalog_back catalog cat) refl

-- The first line of a certificate names its objects.
pub named : (catalog : Objects) (c : Config Op) → IsCatalog catalog
    → objects_in (lines_of catalog c) ≡ catalog
named catalog c cat =
    let line = head_bytes catalog in
    let is = value_back (head_value catalog) (near_head catalog cat.named) (head_shallow catalog) in
    ap (λ (o : Option Objects). objects_named o) (objects_read line catalog cat is)

-- ---- an entry that is written in a line is read back
item_back : (catalog : Objects) (p : Item Op) → IsCatalog catalog → IsId p.id
    → IsOpOn catalog p.op → item_of catalog (item_value catalog p) ≡ Ok p
unfolding item_of id_of whole_of whole member_of
item_back catalog p cat small h =
    rw (id_back p.id small, op_back catalog p.id p.op no_members h cat) refl

entry_read : (line : List ℕ) (catalog : Objects) (p : Item Op) → IsCatalog catalog → IsId p.id
    → IsOpOn catalog p.op → value_of line ≡ Ok (item_value catalog p)
    → later_line catalog line ≡ Entry p
unfolding object_of
entry_read line catalog p cat small h is = rw (is, item_back catalog p cat small h) refl

-- ---- a row of positions that is written in a line is read back
positions_back : (is : List ℕ) → Each (λ i. i ≤ 999_999_999) is
    → numbers_of (items_of (map position_value is)) ≡ Some is
unfolding numbers_of
positions_back [] h = refl
positions_back (i ∷ is) h = rw (number_back i h.0, positions_back is h.1) refl

count_back : (is : List ℕ) → count (items_of (map position_value is)) ≡ length is
count_back [] = refl
count_back (i ∷ is) = ap suc (count_back is)

row_read : (line : List ℕ) (catalog : Objects) (is : List ℕ) → 1 ≤ length is → length is ≤ 1000
    → Each (λ i. i ≤ 999_999_999) is → value_of line ≡ Ok (row_value is)
    → later_line catalog line ≡ Exchanges is
unfolding object_of row_of
row_read line catalog is some few each v =
    rw (
      v,
      count_back is,
      le-leb 1 (length is) some,
      le-leb (length is) 1000 few,
      positions_back is each,
    ) refl

-- ---- a serial number that is written in a line is read back
serial_read : (line : List ℕ) (catalog : Objects) (n : ℕ) → n ≤ 999_999_999
    → value_of line ≡ Ok (serial_value n) → later_line catalog line ≡ Serial n
unfolding object_of
serial_read line catalog n h v = rw (v, number_back n h) refl

-- ---- each line at its place in a certificate
module _ (catalog : Objects) where
  read_shown : (s : Stage (List Kind) Op) (line : List ℕ) → blank line ≡ false
      → reader catalog s line ≡ shown_line catalog s line
  read_shown s line e = ap (λ (b : Bool). cond b Blank (shown_line catalog s line)) e

  read_later : (s : Stage (List Kind) Op) (line : List ℕ) → IsGoing (kinds_of catalog) s
      → shown_line catalog s line ≡ later_line catalog line
  read_later Fresh line h = absurd h
  read_later (Entered kinds list) line h = refl
  read_later (Exchanged kinds list n) line h = refl
  read_later (Ended kinds list n serial) line h = absurd h

  small_id : (p : Item Op) → IsTrue (can_state p) → IsId p.id
  small_id p h =
      let parts = and_parts (nat_le p.id 999_999_999) (objects.ranged p.op) h in
      grind (arith, nat_tests)

  -- Each line of a certificate is read back as what it was written from.
  pub spells : IsCatalog catalog
      → Spells objects (kinds_of catalog) can_state (reader catalog) (line_bytes catalog)
  spells cat = record {
    head =
        let line = head_bytes catalog in
        let is = value_back (head_value catalog) (near_head catalog cat.named)
        (head_shallow catalog) in
        read_shown Fresh line refl
        ∙ ap (λ (o : Option Objects). line_of (λ c. Head (kinds_of c)) o)
        (objects_read line catalog cat is);
    entry = λ list p fits plain.
        let line = entry_bytes catalog p in
        let small = small_id p plain in
        let on : IsOpOn catalog p.op =
        (fits, (and_parts (nat_le p.id 999_999_999) (objects.ranged p.op) plain).1) in
        let is = value_back (item_value catalog p) (near_entry catalog p cat.named small on)
        (entry_shallow catalog p) in
        read_shown (Entered (kinds_of catalog) list) line refl
        ∙ entry_read line catalog p cat small on is;
    exchanges = λ s row going some few each.
        let line = row_bytes row in
        let is = value_back (row_value row) (near_row row each) (row_shallow row) in
        read_shown s line refl ∙ read_later s line going
        ∙ row_read line catalog row some few each is;
    serial = λ s n going small.
        let line = serial_bytes n in
        let is = value_back (serial_value n) (near_serial n small) (serial_shallow n) in
        read_shown s line refl ∙ read_later s line going ∙ serial_read line catalog n small is;
  }
