-- Proof machinery: lines with their ends, written one after another.
use Rattle.std.proofs.Common.{◌≡◌, ◌<◌, ◌≤◌, ◌+◌, ◌-◌, ℕ, List, [], ◌∷◌, ◌++◌, map, take, drop}
use Rattle.std.proofs.Common.{length, refl, sym, ap, ◌∙◌, arith, append_assoc}
use Rattle.std.proofs.Common.{take_all, length-drop, drop-drop}
use Rattle.std.proofs.lemmas.List.{drop_all}
use Rattle.std.specs.List.{flat_map}
use Rattle.pp_input.specs.Joined.{joined_lines}
use Rattle.pp_format_write.proofs.RunTexts.{joined_both}
use Rattle.pp_certificate_checker.specs.Laws.{rows}
use Rattle.pp_certificate_checker.proofs.Rows.{rows_cut}

-- One more line is written, and others are left.
line_more : (line : List ℕ) (lines : List (List ℕ)) (text longer whole : List ℕ) → text ++ joined_lines (line ∷ lines) ≡ whole → longer ≡ text ++ joined_lines (line ∷ []) → longer ++ joined_lines lines ≡ whole
line_more line lines text longer whole so_far next =
    ap (λ (l : List ℕ). l ++ joined_lines lines) next ∙ append_assoc text (joined_lines (line ∷ [])) (joined_lines lines)
    ∙ ap (λ (l : List ℕ). text ++ l) (append_assoc line (10 ∷ []) (joined_lines lines)) ∙ so_far

-- Lines that are written one by one are joined lines.
pub flat_is : {A : Type 0} (f : A → List ℕ) (xs : List A) → flat_map (λ x. f x ++ 10 ∷ []) xs ≡ joined_lines (map f xs)
flat_is f [] = refl
flat_is {A} f (x ∷ xs) =
    append_assoc (f x) (10 ∷ []) (flat_map (λ (y : A). f y ++ 10 ∷ []) xs) ∙ ap (λ (l : List ℕ). f x ++ 10 ∷ l) (flat_is f xs)

-- ---- rows of a thousand positions
module _ (f : List ℕ → List ℕ) (is : List ℕ) (at : ℕ) (text longer whole : List ℕ) (so_far : text ++ joined_lines (map f (rows (drop at is))) ≡ whole) where
  -- A row is written, and more rows are left.
  pub row_more : 1000 < length is - at → longer ≡ text ++ joined_lines (f (take 1000 (drop at is)) ∷ []) → longer ++ joined_lines (map f (rows (drop (at + 1000) is))) ≡ whole
  row_more many next =
      let left : List ℕ = drop at is in
      let row : List ℕ = take 1000 left in
      let cut : rows left ≡ row ∷ rows (drop 1000 left) = rows_cut left (omega (arith, length-drop at is)) in
      let behind : drop 1000 left ≡ drop (at + 1000) is = drop-drop 1000 at is in
      line_more (f row) (map f (rows (drop (at + 1000) is))) text longer whole
      (ap (λ (l : List ℕ). text ++ joined_lines (map f (row ∷ rows l))) (sym behind) ∙ ap (λ (ls : List (List ℕ)). text ++ joined_lines (map f ls)) (sym cut) ∙ so_far) next

  -- The last row is written.
  pub row_last : at < length is → length is - at ≤ 1000 → longer ≡ text ++ joined_lines (f (drop at is) ∷ []) → longer ≡ whole
  row_last some few next =
      let left : List ℕ = drop at is in
      let long : length left ≤ 1000 = omega (arith, length-drop at is) in
      let cut : rows left ≡ left ∷ [] =
      rows_cut left (omega (arith, length-drop at is)) ∙ ap (λ (l : List ℕ). l ∷ rows (drop 1000 left)) (take_all 1000 left long) ∙ ap (λ (l : List ℕ). left ∷ rows l) (drop_all 1000 left long) in
      next ∙ ap (λ (ls : List (List ℕ)). text ++ joined_lines (map f ls)) (sym cut) ∙ so_far

-- ---- the whole certificate
abbrev J : List (List ℕ) → List ℕ
J lines = joined_lines lines

-- Texts that are added in turn to an empty one are the joined lines of head, entries, cut and last.
pub all_joined : (head last : List ℕ) (entries cut : List (List ℕ)) (none text more longer whole : List ℕ) → none ≡ [] → text ≡ none ++ joined_lines (head ∷ [])
    → more ≡ text ++ joined_lines entries → longer ≡ more ++ joined_lines cut → whole ≡ longer ++ joined_lines (last ∷ []) → whole ≡ joined_lines (head ∷ (entries ++ (cut ++ last ∷ [])))
all_joined head last entries cut none text more longer whole empty a b c d =
    let all : J (head ∷ (entries ++ (cut ++ last ∷ []))) ≡ J (head ∷ []) ++ (J entries ++ (J cut ++ J (last ∷ []))) =
    joined_both (head ∷ []) (entries ++ (cut ++ last ∷ []))
    ∙ ap (λ (l : List ℕ). J (head ∷ []) ++ l) (joined_both entries (cut ++ last ∷ []) ∙ ap (λ (l : List ℕ). J entries ++ l) (joined_both cut (last ∷ []))) in
    let first : text ≡ J (head ∷ []) = a ∙ ap (λ (l : List ℕ). l ++ J (head ∷ [])) empty in
    d ∙ ap (λ (l : List ℕ). l ++ J (last ∷ [])) (c ∙ ap (λ (l : List ℕ). l ++ J cut) (b ∙ ap (λ (l : List ℕ). l ++ J entries) first))
    ∙ append_assoc (J (head ∷ []) ++ J entries) (J cut) (J (last ∷ [])) ∙ append_assoc (J (head ∷ [])) (J entries) (J cut ++ J (last ∷ [])) ∙ sym all

-- ---- the row at a position, as a part of the positions
pub row_at : (is : List ℕ) (at : ℕ) → take (at + 1000 - at) (drop at is) ≡ take 1000 (drop at is)
row_at is at = let e : at + 1000 - at ≡ 1000 = omega arith in ap (λ (n : ℕ). take n (drop at is)) e

-- The rest of a list from a position has as many elements as are left.
pub rest_at : (is : List ℕ) (at : ℕ) → take (length is - at) (drop at is) ≡ drop at is
rest_at is at = take_all (length is - at) (drop at is) (omega (arith, length-drop at is))
