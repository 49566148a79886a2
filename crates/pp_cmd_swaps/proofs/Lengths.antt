-- Proof machinery: a certificate keeps to the limits of an input.
use Rattle.std.proofs.Common.{◌≡◌, ◌≤◌, ◌+◌, ◌*◌, ◌-◌, ℕ, zero, suc, List, [], ◌∷◌, ◌++◌}
use Rattle.std.proofs.Common.{map, length, refl, sym, ap, subst, ◌∙◌, arith, inr}
use Rattle.std.proofs.Common.{length-append}
use Rattle.std.proofs.lemmas.List.{length-map}
use Rattle.serde_json.specs.View.{items_of}
use Rattle.pp_core.specs.Catalogs.{HasNames, Objects}
use Rattle.pp_core.specs.declared.entry.Item.{Item}
use Rattle.pp_input.specs.Limits.{usual_limits}
use Rattle.pp_input.specs.Joined.{AreAllowed, AreLines, AreShort, joined_lines}
use Rattle.pp_model.specs.Lists.{Each, joined}
use Rattle.pp_objects.specs.Objects.{kinds_of}
use Rattle.pp_objects.specs.declared.act.Op.{Op}
use Rattle.pp_format_write.specs.Headers.{item_value}
use Rattle.pp_format_write.specs.Lines.{IsOneLine}
use Rattle.pp_format_write.specs.Statable.{IsCatalog, IsId, IsOpOn}
use Rattle.pp_format_write.proofs.Headers.{item_wide, objects_wide}
use Rattle.pp_format_write.proofs.RunTexts.{is_line, joined_both}
use Rattle.pp_format_write.proofs.Texts.{items_width, short_text}
use Rattle.pp_certificate_checker.specs.Laws.{certificate, rows, rows_from}
use Rattle.pp_certificate_checker.proofs.Rows.{Fits, each_joined, rows_fit, rows_joined}
use Rattle.pp_certificate_lines.specs.Lines.{entry_bytes, head_bytes, head_value, line_bytes, position_value}
use Rattle.pp_certificate_lines.specs.Lines.{row_bytes, row_value, serial_bytes, serial_value}
use Rattle.pp_certificate_lines.proofs.Tidy.{entry_one_line, head_one_line, near_entry, near_head, near_row}
use Rattle.pp_certificate_lines.proofs.Tidy.{near_serial, row_one_line, serial_one_line}

-- ---- each line is short
head_short : (catalog : Objects) → IsCatalog catalog → length (head_bytes catalog) ≤ 60_000
head_short catalog h = let few = h.few in omega (arith, short_text (head_value catalog) (near_head catalog h.named), objects_wide catalog h.named)

entry_short : (catalog : Objects) (p : Item Op) → HasNames catalog → IsId p.id → IsOpOn catalog p.op → length (entry_bytes catalog p) ≤ 176
entry_short catalog p names small h = omega (arith, short_text (item_value catalog p) (near_entry catalog p names small h), item_wide catalog p names h)

positions_wide : (is : List ℕ) → items_width (items_of (map position_value is)) ≤ 21 * length is + 1
positions_wide [] = omega arith
positions_wide (i ∷ is) = omega (arith, positions_wide is)

row_short : (is : List ℕ) → length is ≤ 1000 → Each (λ i. i ≤ 999_999_999) is → length (row_bytes is) ≤ 21_100
row_short is few small = omega (arith, short_text (row_value is) (near_row is small), positions_wide is)

serial_short : (n : ℕ) → n ≤ 999_999_999 → length (serial_bytes n) ≤ 100
serial_short n small = omega (arith, short_text (serial_value n) (near_serial n small))

-- ---- lists of lines
module _ {A : Type 0} (f : A → List ℕ) (P : A → Type 0) (most : ℕ) (line_of : (x : A) → P x → IsOneLine (f x)) (short_of : (x : A) → P x → length (f x) ≤ most) where
  lines_all : (xs : List A) → Each P xs → AreLines (map f xs)
  lines_all [] h = tt
  lines_all (x ∷ xs) h = (is_line (f x) (line_of x h.0), lines_all xs h.1)

  short_all : most ≤ 65_536 → (xs : List A) → Each P xs → AreShort usual_limits (map f xs)
  short_all few [] h = tt
  short_all few (x ∷ xs) h = (omega (arith, short_of x h.0), short_all few xs h.1)

  bytes_all : (xs : List A) → Each P xs → length (joined_lines (map f xs)) ≤ (most + 1) * length xs
  bytes_all [] h = omega arith
  bytes_all (x ∷ xs) h = omega (arith, length-append (f x) (10 ∷ joined_lines (map f xs)), short_of x h.0, bytes_all xs h.1)

lines_append : (xs ys : List (List ℕ)) → AreLines xs → AreLines ys → AreLines (xs ++ ys)
lines_append [] ys h k = k
lines_append (x ∷ xs) ys h k = (h.0, lines_append xs ys h.1 k)

short_append : (xs ys : List (List ℕ)) → AreShort usual_limits xs → AreShort usual_limits ys → AreShort usual_limits (xs ++ ys)
short_append [] ys h k = k
short_append (x ∷ xs) ys h k = (h.0, short_append xs ys h.1 k)

-- ---- rows
-- Each row but the last has a thousand positions.
rows_few : (is : List ℕ) (room : ℕ) (row : List ℕ) → length row + room ≡ 1000 → 1000 * length (rows_from room row is) ≤ length row + length is + 999
rows_few [] room [] e = omega arith
rows_few [] room (i ∷ row) e = omega arith
rows_few (i ∷ is) zero row e = omega (arith, rows_few is 999 (i ∷ []) refl)
rows_few (i ∷ is) (suc room) row e =
    let k = length-append row (i ∷ []) in
    omega (arith, k, rows_few is room (row ++ i ∷ []) (omega (arith, k)))

each_both : {A : Type 0} (P Q : A → Type 0) (xs : List A) → Each P xs → Each Q xs → Each (λ x. P x × Q x) xs
each_both P Q [] h k = tt
each_both P Q (x ∷ xs) h k = ((h.0, k.0), each_both P Q xs h.1 k.1)

-- ---- a certificate
abbrev Stated : Objects → Item Op → Type 0
Stated catalog p = IsId p.id × IsOpOn catalog p.op

abbrev IsRow : List ℕ → Type 0
IsRow row = Fits row × Each (λ i. i ≤ 999_999_999) row

module _ (catalog : Objects) (cat : IsCatalog catalog) (log : List (Item Op)) (is : List ℕ) (n : ℕ) (stated : Each (Stated catalog) log) (small : Each (λ i. i ≤ 999_999_999) is) (number : n ≤ 999_999_999) where
  abbrev entries : List (List ℕ)
  entries = map (entry_bytes catalog) log

  abbrev cut : List (List ℕ)
  cut = map row_bytes (rows is)

  abbrev last : List (List ℕ)
  last = serial_bytes n ∷ []

  rows_are : Each IsRow (rows is)
  rows_are =
      let joins : joined (rows is) ≡ is = rows_joined is 1000 [] in
      each_both Fits (λ row. Each (λ i. i ≤ 999_999_999) row) (rows is) (rows_fit is 1000 [] refl (inr refl))
      (each_joined (λ i. i ≤ 999_999_999) (rows is) (subst (λ (w : List ℕ). Each (λ i. i ≤ 999_999_999) w) (sym joins) small))

  entry_line : (p : Item Op) → Stated catalog p → IsOneLine (entry_bytes catalog p)
  entry_line p h = entry_one_line catalog p cat.named h.1

  entry_bound : (p : Item Op) → Stated catalog p → length (entry_bytes catalog p) ≤ 176
  entry_bound p h = entry_short catalog p cat.named h.0 h.1

  row_line : (row : List ℕ) → IsRow row → IsOneLine (row_bytes row)
  row_line row h = row_one_line row

  row_bound : (row : List ℕ) → IsRow row → length (row_bytes row) ≤ 21_100
  row_bound row h = row_short row h.0.1 h.1

  -- If its operations can be stated and its numbers are ids, the lines of a certificate can be lines.
  pub certificate_lines : AreLines (certificate (line_bytes catalog) (kinds_of catalog) log is n)
  certificate_lines = (
    is_line (head_bytes catalog) (head_one_line catalog cat.named),
    lines_append entries (cut ++ last) (lines_all (entry_bytes catalog) (Stated catalog) 176 entry_line entry_bound log stated)
        (lines_append cut last (lines_all row_bytes IsRow 21_100 row_line row_bound (rows is) rows_are) (is_line (serial_bytes n) (serial_one_line n), tt)),
  )

  rows_most : 1000 * length (rows is) ≤ length is + 999
  rows_most = omega (arith, rows_few is 1000 [] refl)

  entries_long : length (joined_lines entries) ≤ 177 * length log
  entries_long = bytes_all (entry_bytes catalog) (Stated catalog) 176 entry_line entry_bound log stated

  rows_long : length (joined_lines cut) ≤ 21_101 * length (rows is)
  rows_long = bytes_all row_bytes IsRow 21_100 row_line row_bound (rows is) rows_are

  all_joined : joined_lines (entries ++ (cut ++ last)) ≡ joined_lines entries ++ (joined_lines cut ++ joined_lines last)
  all_joined = joined_both entries (cut ++ last) ∙ ap (λ (l : List ℕ). joined_lines entries ++ l) (joined_both cut last)

  all_long : length (joined_lines (entries ++ (cut ++ last))) ≤ 177 * length log + 21_101 * length (rows is) + 101
  all_long =
      omega (
        arith,
        ap (λ (l : List ℕ). length l) all_joined,
        length-append (joined_lines entries) (joined_lines cut ++ joined_lines last),
        length-append (joined_lines cut) (joined_lines last),
        length-append (serial_bytes n) (10 ∷ []),
        entries_long,
        rows_long,
        serial_short n number,
      )

  -- With at most 150,000 operations and 1,000,000 swaps, a certificate keeps to the usual limits.
  pub certificate_allowed : length log ≤ 150_000 → length is ≤ 1_000_000 → AreAllowed usual_limits (certificate (line_bytes catalog) (kinds_of catalog) log is n)
  certificate_allowed few short = record {
    few =
        omega (
          arith,
          few,
          short,
          rows_most,
          length-append entries (cut ++ last),
          length-append cut last,
          length-map log (entry_bytes catalog),
          length-map (rows is) row_bytes,
        );
    short = (
      omega (arith, head_short catalog cat),
      short_append entries (cut ++ last) (short_all (entry_bytes catalog) (Stated catalog) 176 entry_line entry_bound (omega arith) log stated)
          (short_append cut last (short_all row_bytes IsRow 21_100 row_line row_bound (omega arith) (rows is) rows_are) (omega (arith, serial_short n number), tt)),
    );
    bytes =
        omega (
          arith,
          few,
          short,
          rows_most,
          all_long,
          head_short catalog cat,
          length-append (head_bytes catalog) (10 ∷ joined_lines (entries ++ (cut ++ last))),
        );
  }
