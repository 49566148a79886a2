-- Which objects a brief touches.
use Rattle.std.specs.Prelude.{◌≡◌, ℕ, zero, suc, ◌==◌, Bool, true, false, not, cond, ◌&&◌, ◌||◌, List, [], ◌∷◌, map, length}
use Rattle.std.specs.List.{list_any}
use Rattle.std.proofs.Common.{refl, sym, ap, ◌∙◌, arith}
use Rattle.pp_model.specs.Config.{Mark, Unpushed, Pushed, Pulled, is_own, is_mark, LocalEntry, item, own, own_items}
use Rattle.pp_model.specs.Object.{Item}
use Rattle.pp_records.specs.Expansions.{touches}
use Rattle.pp_laws_summary.specs.Views.{pulled_at, seen_at}
use Rattle.pp_laws_summary.proofs.Entries.{or_right}
use Rattle.pp_laws_summary.proofs.Parts.{not_eq}

-- one of the operations is on the object
abbrev pub any_at : {Op : Type 0} → (Op → ℕ) → ℕ → List (Item Op) → Bool
any_at place o l = list_any (λ p. place p.op == o) l

positive : (n : ℕ) → not (suc n == zero) ≡ true
positive n = ap not (not_eq (suc n) zero (omega arith))

or_left : (a b : Bool) → a ≡ true → (a || b) ≡ true
or_left a b e = ap (λ (z : Bool). z || b) e

-- A log has an entry on the object if something was pulled there, or if an own entry is there.
pub touches_is : {Op : Type 0} (place : Op → ℕ) (o : ℕ) (l : List (LocalEntry Op)) → (not (seen_at place o l == zero) || any_at place o (own_items l)) ≡ touches place o l
touches_is place o [] = refl
touches_is {Op} place o (e ∷ l) = by e.mark refl (place e.op == o) refl (touches_is place o l)
  where
    by : (m : Mark) → e.mark ≡ m → (b : Bool) → (place e.op == o) ≡ b → (not (seen_at place o l == zero) || any_at place o (own_items l)) ≡ touches place o l →
        (not (length (cond (is_mark e.mark Pulled && (place e.op == o)) (e ∷ pulled_at place o l) (pulled_at place o l)) == zero) || any_at place o (map item (cond (is_own e.mark) (e ∷ own l) (own l))))
        ≡ ((place e.op == o) || touches place o l)
    by m h b k rec =
        ap (λ (w : Mark). not (length (cond (is_mark w Pulled && (place e.op == o)) (e ∷ pulled_at place o l) (pulled_at place o l)) == zero) || any_at place o (map item (cond (is_own w) (e ∷ own l) (own l)))) h
        ∙ ap (λ (w : Bool). not (length (cond (is_mark m Pulled && w) (e ∷ pulled_at place o l) (pulled_at place o l)) == zero) || any_at place o (map item (cond (is_own m) (e ∷ own l) (own l)))) k
        ∙ at m b k rec
        ∙ ap (λ (w : Bool). w || touches place o l) (sym k)
      where
        own_at : (b : Bool) → (place e.op == o) ≡ b → (not (seen_at place o l == zero) || any_at place o (own_items l)) ≡ touches place o l →
            (not (seen_at place o l == zero) || ((place e.op == o) || any_at place o (own_items l))) ≡ (b || touches place o l)
        own_at true k rec = or_right (not (seen_at place o l == zero)) ((place e.op == o) || any_at place o (own_items l)) (or_left (place e.op == o) (any_at place o (own_items l)) k)
        own_at false k rec = ap (λ (w : Bool). not (seen_at place o l == zero) || (w || any_at place o (own_items l))) k ∙ rec

        at : (m : Mark) (b : Bool) → (place e.op == o) ≡ b → (not (seen_at place o l == zero) || any_at place o (own_items l)) ≡ touches place o l →
            (not (length (cond (is_mark m Pulled && b) (e ∷ pulled_at place o l) (pulled_at place o l)) == zero) || any_at place o (map item (cond (is_own m) (e ∷ own l) (own l))))
            ≡ (b || touches place o l)
        at Unpushed b k rec = own_at b k rec
        at Pushed b k rec = own_at b k rec
        at Pulled true k rec = or_left (not (suc (seen_at place o l) == zero)) (any_at place o (own_items l)) (positive (seen_at place o l))
        at Pulled false k rec = rec
