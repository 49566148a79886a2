-- The end of a line.
use Rattle.std.specs.Prelude.{◌≡◌, ℕ, ◌-◌, ◌==◌, Bool, true, false, List, [], ◌∷◌, ◌++◌, drop, length, slice_index, take}
use Rattle.std.proofs.Common.{refl, sym, ap, ◌∙◌, append_assoc}
use Rattle.std.proofs.lemmas.List.{take-append-drop, take_rest}
use Rattle.pp_cmd_focus.specs.Restrictions.{with_return}

module _ (old : List ℕ) (start : ℕ) where
  abbrev front : List ℕ
  front = take start old

  abbrev line : List ℕ
  line = drop start old

  with_end : (end : List ℕ) → (front ++ line) ++ end ≡ old ++ end
  with_end end = ap (λ (l : List ℕ). l ++ end) (take-append-drop start old)

  -- What is sliced off from the start of the line on is the line.
  pub line_sliced : (bytes : List ℕ) (b : Bool) → bytes ≡ old → b ≡ (slice_index (take (length bytes - start) (drop start bytes)) (length (take (length bytes - start) (drop start bytes)) - 1) == 13) → b ≡ (slice_index line (length line - 1) == 13)
  line_sliced bytes b same is = is ∙ ap (λ (l : List ℕ). slice_index l (length l - 1) == 13) (take_rest bytes start ∙ ap (λ (l : List ℕ). drop start l) same)

  -- A line with a byte 13 at its end is ended by two of them and a byte 10.
  pub ended_twice : (slice_index line (length line - 1) == 13) ≡ true → old ++ 13 ∷ 10 ∷ [] ≡ front ++ with_return line ++ 10 ∷ []
  ended_twice is =
      rw is (sym (with_end (13 ∷ 10 ∷ [])) ∙ sym (append_assoc (front ++ line) (13 ∷ []) (10 ∷ [])) ∙ ap (λ (l : List ℕ). l ++ 10 ∷ []) (append_assoc front line (13 ∷ [])))

  -- Any other line is ended by a byte 10.
  pub ended_once : (slice_index line (length line - 1) == 13) ≡ false → old ++ 10 ∷ [] ≡ front ++ with_return line ++ 10 ∷ []
  ended_once is = rw is (sym (with_end (10 ∷ [])))
