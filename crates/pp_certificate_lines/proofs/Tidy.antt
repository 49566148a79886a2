-- Proof machinery: the lines of a certificate hold words and whole numbers alone.
use Rattle.std.proofs.Common.{◌≡◌, ◌≤◌, ℕ, List, [], ◌∷◌, map, false, refl, arith, Some}
use Rattle.serde_json.specs.Data.{Num, unsigned, no_members, depth, items_depth}
use Rattle.serde_json.specs.Read.{max_depth}
use Rattle.serde_json.specs.View.{items_of}
use Rattle.serde_json.specs.Written.{has_float}
use Rattle.pp_core.specs.Catalogs.{Objects, HasNames}
use Rattle.pp_core.specs.declared.entry.Item.{Item}
use Rattle.pp_model.specs.Lists.{Each}
use Rattle.pp_objects.specs.One.{call_of, recorded_by}
use Rattle.pp_objects.specs.declared.act.Op.{Op}
use Rattle.pp_format_write.specs.Headers.{item_value}
use Rattle.pp_format_write.specs.Lines.{IsOneLine}
use Rattle.pp_format_write.specs.Operations.{arity_in}
use Rattle.pp_format_write.specs.Statable.{IsId, IsOpOn}
use Rattle.pp_format_write.proofs.Bodies.{arguments_flat}
use Rattle.pp_format_write.proofs.Headers.{objects_flat, objects_tidy}
use Rattle.pp_format_write.proofs.Names.{named_at}
use Rattle.pp_format_write.proofs.Operations.{there, op_tidy, whole_numbers, near_numbers}
use Rattle.pp_format_write.proofs.Steps.{answer_flat}
use Rattle.pp_format_write.proofs.Texts.{IsTidy, AreTidy, IsWhole, IsNear, no_float, one_line_text}
use Rattle.pp_certificate_lines.specs.Lines.{head_value, position_value, row_value, serial_value}
use Rattle.pp_certificate_lines.specs.Lines.{head_bytes, entry_bytes, row_bytes, serial_bytes}

-- ---- the first line
head_tidy : (P : Num → Type 0) (catalog : Objects) → HasNames catalog → P (unsigned 1)
    → IsTidy P (head_value catalog)
head_tidy P catalog h p = (refl, (refl, p, (refl, objects_tidy P catalog h, tt)))

-- The head line of a certificate has only words and whole numbers in range.
pub near_head : (catalog : Objects) → HasNames catalog → IsTidy IsNear (head_value catalog)
near_head catalog h = head_tidy IsNear catalog h (omega arith)

-- The head line of a certificate has no decimal fractions.
pub head_no_float : (catalog : Objects) → HasNames catalog → has_float (head_value catalog) ≡ false
head_no_float catalog h = no_float (head_value catalog) (head_tidy IsWhole catalog h tt)

-- The head of a certificate is one line.
pub head_one_line : (catalog : Objects) → HasNames catalog → IsOneLine (head_bytes catalog)
head_one_line catalog h = one_line_text (head_value catalog) (head_tidy IsWhole catalog h tt)

-- The head line of a certificate is no deeper than a reader permits.
pub head_shallow : (catalog : Objects) → depth (head_value catalog) ≤ max_depth
head_shallow catalog = omega (arith, objects_flat catalog)

-- ---- the line of an entry
whole_entry : (catalog : Objects) (p : Item Op) → HasNames catalog → IsOpOn catalog p.op
    → IsTidy IsWhole (item_value catalog p)
whole_entry catalog p names h = (
  refl,
  op_tidy IsWhole catalog p.id p.op no_members
      (named_at catalog p.op.object names (there catalog p.op h))
      (whole_numbers p.id (call_of p.op.act) (recorded_by p.op.act)) tt,
)

-- An entry line of a certificate has only words and whole numbers in range.
pub near_entry : (catalog : Objects) (p : Item Op) → HasNames catalog → IsId p.id
    → IsOpOn catalog p.op → IsTidy IsNear (item_value catalog p)
near_entry catalog p names small h = (
  refl,
  op_tidy IsNear catalog p.id p.op no_members
      (named_at catalog p.op.object names (there catalog p.op h))
      (near_numbers p.id p.op.act small h.1) tt,
)

-- An entry line of a certificate has no decimal fractions.
pub entry_no_float : (catalog : Objects) (p : Item Op) → HasNames catalog → IsOpOn catalog p.op
    → has_float (item_value catalog p) ≡ false
entry_no_float catalog p names h = no_float (item_value catalog p) (whole_entry catalog p names h)

-- An entry of a certificate is one line.
pub entry_one_line : (catalog : Objects) (p : Item Op) → HasNames catalog → IsOpOn catalog p.op
    → IsOneLine (entry_bytes catalog p)
entry_one_line catalog p names h =
    one_line_text (item_value catalog p) (whole_entry catalog p names h)

-- An entry line of a certificate is no deeper than a reader permits.
pub entry_shallow : (catalog : Objects) (p : Item Op) → depth (item_value catalog p) ≤ max_depth
entry_shallow catalog p =
    let c = call_of p.op.act in
    let args = arguments_flat (arity_in p.op.act) (Some c.first) (Some c.second) (Some c.third) in
    omega (arith, args, answer_flat (recorded_by p.op.act))

-- ---- the line of a row
positions_tidy : (P : Num → Type 0) (is : List ℕ) → Each (λ i. P (unsigned i)) is
    → AreTidy P (items_of (map position_value is))
positions_tidy P [] h = tt
positions_tidy P (i ∷ is) h = (h.0, positions_tidy P is h.1)

all_whole : (is : List ℕ) → Each (λ i. IsWhole (unsigned i)) is
all_whole [] = tt
all_whole (i ∷ is) = (tt, all_whole is)

all_near : (is : List ℕ) → Each (λ i. i ≤ 999_999_999) is → Each (λ i. IsNear (unsigned i)) is
all_near [] h = tt
all_near (i ∷ is) h = (omega (arith, h.0), all_near is h.1)

whole_row : (is : List ℕ) → IsTidy IsWhole (row_value is)
whole_row is = (refl, (refl, positions_tidy IsWhole is (all_whole is), tt))

-- A row of positions has only whole numbers in range.
pub near_row : (is : List ℕ) → Each (λ i. i ≤ 999_999_999) is → IsTidy IsNear (row_value is)
near_row is h = (refl, (refl, positions_tidy IsNear is (all_near is h), tt))

-- A row of positions has no decimal fractions.
pub row_no_float : (is : List ℕ) → has_float (row_value is) ≡ false
row_no_float is = no_float (row_value is) (whole_row is)

-- A row of positions is one line.
pub row_one_line : (is : List ℕ) → IsOneLine (row_bytes is)
row_one_line is = one_line_text (row_value is) (whole_row is)

positions_flat : (is : List ℕ) → items_depth (items_of (map position_value is)) ≤ 0
positions_flat [] = omega arith
positions_flat (i ∷ is) = omega (arith, positions_flat is)

-- A row of positions is no deeper than a reader permits.
pub row_shallow : (is : List ℕ) → depth (row_value is) ≤ max_depth
row_shallow is = omega (arith, positions_flat is)

-- ---- the line of the serial number
whole_serial : (n : ℕ) → IsTidy IsWhole (serial_value n)
whole_serial n = (refl, (refl, tt, tt))

-- The line of a serial number has only whole numbers in range.
pub near_serial : (n : ℕ) → n ≤ 999_999_999 → IsTidy IsNear (serial_value n)
near_serial n h = (refl, (refl, omega arith, tt))

-- The line of a serial number has no decimal fractions.
pub serial_no_float : (n : ℕ) → has_float (serial_value n) ≡ false
serial_no_float n = no_float (serial_value n) (whole_serial n)

-- A serial number is one line.
pub serial_one_line : (n : ℕ) → IsOneLine (serial_bytes n)
serial_one_line n = one_line_text (serial_value n) (whole_serial n)

-- The line of a serial number is no deeper than a reader permits.
pub serial_shallow : (n : ℕ) → depth (serial_value n) ≤ max_depth
serial_shallow n = omega arith
