-- The names of the objects can be read back from the lines of their states.
use Rattle.std.proofs.Common.{◌≡◌, ℕ, zero, suc, ◌+◌, Bool, false, List, [], ◌∷◌, ◌++◌, map}
use Rattle.std.proofs.Common.{length, flat_map, codes, Option, Some, None, refl, sym, ap, ◌∙◌, arith, append_assoc}
use Rattle.std.specs.Fmt.{signed_decimal}
use Rattle.std.specs.List.{range_with_len}
use Rattle.std.specs.Map.{keys_of}
use Rattle.pp_core.specs.Catalogs.{Objects, HasNames}
use Rattle.pp_core.specs.Names.{is_name_byte}
use Rattle.pp_core.specs.declared.call.Kind.{Kind}
use Rattle.pp_objects.specs.Pieces.{pieces_at}
use Rattle.pp_objects.specs.declared.pieces.Piece.{Piece}
use Rattle.pp_objects.specs.declared.states.ObjectState.{ObjectState}
use Rattle.pp_text.specs.Lines.{state_line, state_lines}
use Rattle.pp_text.specs.Texts.{key_bytes, name_at, piece_bytes}
use Rattle.pp_laws_reports.proofs.Splits.{Only, Stops, only_append, only_other, other_than, split}
use Rattle.pp_laws_reports.proofs.Numbers.{is_number_byte, signed_only}
use Rattle.pp_laws_reports.proofs.Operations.{name_only}

-- a line of a state begins with `s`
line_stop : (catalog : Objects) (p : ℕ → Bool) (s : List ObjectState) (places : List ℕ) → p 115 ≡ false → Stops p (flat_map (state_line catalog s) places)
line_stop catalog p s [] h = tt
line_stop catalog p s (place ∷ places) h = h

-- The lines of states begin with no byte of a class that lacks the letter `s`.
pub states_stop : (catalog : Objects) (p : ℕ → Bool) (s : List ObjectState) → p 115 ≡ false → Stops p (state_lines catalog s)
states_stop catalog p s h = line_stop catalog p s (range_with_len 0 (length catalog)) h

-- ---- what is shown of a state

key_only : (piece : Piece) → Only (other_than 10) (key_bytes piece.key)
key_only piece = by piece.key
  where
    by : (key : Option _) → Only (other_than 10) (key_bytes key)
    by None = tt
    by (Some z) = only_append (other_than 10) (signed_decimal z) (61 ∷ []) (only_other is_number_byte 10 refl (signed_decimal z) (signed_only z)) (refl, tt)

piece_only : (piece : Piece) → Only (other_than 10) (piece_bytes piece)
piece_only piece = only_append (other_than 10) (32 ∷ key_bytes piece.key) (signed_decimal piece.value) (refl, key_only piece) (only_other is_number_byte 10 refl (signed_decimal piece.value) (signed_only piece.value))

pieces_only : (pieces : List Piece) → Only (other_than 10) (flat_map piece_bytes pieces)
pieces_only [] = tt
pieces_only (piece ∷ pieces) = only_append (other_than 10) (piece_bytes piece) (flat_map piece_bytes pieces) (piece_only piece) (pieces_only pieces)

pieces_stop : (pieces : List Piece) (rest : List ℕ) → Stops is_name_byte (flat_map piece_bytes pieces ++ 10 ∷ rest)
pieces_stop [] rest = refl
pieces_stop (piece ∷ pieces) rest = refl

-- ---- the lines

abbrev shown : List ObjectState → ℕ → List ℕ
shown s place = flat_map piece_bytes (pieces_at s place)

grouped : (name pieces rest : List ℕ) → codes "state " ++ name ++ pieces ++ codes "\n" ++ rest ≡ 115 ∷ 116 ∷ 97 ∷ 116 ∷ 101 ∷ 32 ∷ (name ++ (pieces ++ 10 ∷ rest))
grouped name pieces rest = simp append_assoc

abbrev after_s : Objects → List ObjectState → ℕ → List ℕ → List ℕ
after_s catalog s place rest = 116 ∷ 97 ∷ 116 ∷ 101 ∷ 32 ∷ (name_at catalog place ++ (shown s place ++ 10 ∷ rest))

regrouped : (catalog : Objects) (s : List ObjectState) (place : ℕ) (places : List ℕ) → flat_map (state_line catalog s) (place ∷ places) ≡ 115 ∷ after_s catalog s place (flat_map (state_line catalog s) places)
regrouped catalog s place places = grouped (name_at catalog place) (shown s place) (flat_map (state_line catalog s) places)

-- the first object moves the places of the others by one
names_after_first : (e : List ℕ × Kind) (es : Objects) (k n : ℕ) → map (name_at (e ∷ es)) (range_with_len (suc k) n) ≡ map (name_at es) (range_with_len k n)
names_after_first e es k zero = refl
names_after_first e es k (suc n) =
    ap (λ (w : List (List ℕ)). name_at es k ∷ w)
    (ap (λ (j : ℕ). map (name_at (e ∷ es)) (range_with_len j n)) (one_on k) ∙ names_after_first e es (k + 1) n)
  where
    one_on : (j : ℕ) → suc j + 1 ≡ suc (j + 1)
    one_on j = omega arith

-- the names at all places, in their order, are those of the catalog
names_are : (catalog : Objects) → map (name_at catalog) (range_with_len 0 (length catalog)) ≡ keys_of catalog
names_are [] = refl
names_are (e ∷ es) = ap (λ (w : List (List ℕ)). e.0 ∷ w) (names_after_first e es 0 (length es) ∙ names_are es)

module _ (catalog other : Objects) (names : HasNames catalog) (others : HasNames other) (s t : List ObjectState) where
  same_lines : (ps qs : List ℕ) → flat_map (state_line catalog s) ps ≡ flat_map (state_line other t) qs → map (name_at catalog) ps ≡ map (name_at other) qs
  same_lines [] [] e = refl
  same_lines [] (q ∷ qs) e = absurd (let all : [] ≡ 115 ∷ after_s other t q (flat_map (state_line other t) qs) = e ∙ regrouped other t q qs in cc)
  same_lines (p ∷ ps) [] e = absurd (let all : [] ≡ 115 ∷ after_s catalog s p (flat_map (state_line catalog s) ps) = sym e ∙ regrouped catalog s p ps in cc)
  same_lines (p ∷ ps) (q ∷ qs) e =
      let rest_s = flat_map (state_line catalog s) ps in
      let rest_t = flat_map (state_line other t) qs in
      let whole : 115 ∷ after_s catalog s p rest_s ≡ 115 ∷ after_s other t q rest_t = sym (regrouped catalog s p ps) ∙ e ∙ regrouped other t q qs in
      let named : name_at catalog p ++ (shown s p ++ 10 ∷ rest_s) ≡ name_at other q ++ (shown t q ++ 10 ∷ rest_t) = cc in
      let two = split is_name_byte (name_at catalog p) (name_at other q) (shown s p ++ 10 ∷ rest_s) (shown t q ++ 10 ∷ rest_t) (name_only catalog p names) (name_only other q others) (pieces_stop (pieces_at s p) rest_s) (pieces_stop (pieces_at t q) rest_t) named in
      let ends = split (other_than 10) (shown s p) (shown t q) (10 ∷ rest_s) (10 ∷ rest_t) (pieces_only (pieces_at s p)) (pieces_only (pieces_at t q)) refl refl two.1 in
      let bare : rest_s ≡ rest_t = let rest = ends.1 in cc in
      let head : name_at catalog p ≡ name_at other q = two.0 in
      let tails : map (name_at catalog) ps ≡ map (name_at other) qs = same_lines ps qs bare in
      cc

  -- State lines that are the same have the same names of objects.
  pub same_names : state_lines catalog s ≡ state_lines other t → keys_of catalog ≡ keys_of other
  same_names e = sym (names_are catalog) ∙ same_lines (range_with_len 0 (length catalog)) (range_with_len 0 (length other)) e ∙ names_are other
