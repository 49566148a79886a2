-- Proof machinery: what exchanges that are taken lead to.
use Rattle.std.proofs.Common.{◌≡◌, ◌+◌, ℕ, zero, suc, List, [], ◌∷◌, length, Ok, Err, sym, ap}
use Rattle.std.proofs.Common.{◌∙◌, arith, inl, inr, add-zero}
use Rattle.pp_model.specs.Object.{Item, ops}
use Rattle.pp_kind.specs.Object.{Object, AllRanged, Swaps}
use Rattle.pp_certificate_exchanges.specs.Exchanges.{exchanged, after_exchanges}
use Rattle.pp_certificate_exchanges.specs.Laws.{ExchangesSwap}
use Rattle.pp_certificate_checker.specs.Certificates.{Stage, Exchanged, AreExchanged, Pair, Position}
use Rattle.pp_certificate_checker.proofs.Checked.{ok_is, not_ok}
use Rattle.pp_certificate_checker.proofs.Pairs.{at_pair_both}

module _ {Shape State Op Undo : Type 0} (o : Object Shape State Op Undo) where
  -- so many exchanges led to this list
  abbrev at : Shape → List (Item Op) → ℕ → Stage Shape Op
  at shape l n = Exchanged shape l n

  -- Exchanges that are taken are of pairs that swap, and lead to the exchanged list.
  pub turned : (shape : Shape) (is : List ℕ) (l : List (Item Op)) (count : ℕ) (t : Stage Shape Op)
      → AreExchanged o shape l count is (Ok t)
      → (t ≡ Exchanged shape (after_exchanges l is) (count + length is)) × ExchangesSwap o l is
  turned shape [] l count t h =
      (ok_is t (at shape l count) h ∙ ap (λ n. at shape l n) (sym (add-zero count)), tt)
  turned shape (i ∷ is) l count t (inl h) =
      let r = turned shape is (exchanged l i) (suc count) t h.1 in
      let n : suc count + length is ≡ count + suc (length is) = omega arith in
      (r.0 ∙ ap (λ m. at shape (after_exchanges (exchanged l i) is) m) n, (h.0, r.1))
  turned shape (i ∷ is) l count t (inr (inl h)) =
      let Q : Item Op → Item Op → Type 0 =
      λ a b. ¬ Swaps o a.op b.op × (Ok t ≡ Err (Pair a.id b.id)) in
      absurd (at_pair_both Q Q ⊥ (λ a b f k. not_ok t (Pair a.id b.id) f.1) l i h h)
  turned shape (i ∷ is) l count t (inr (inr h)) = absurd (not_ok t Position h.1)

  one_ranged : (l : List (Item Op)) (i : ℕ) → AllRanged o (ops l)
      → AllRanged o (ops (exchanged l i))
  one_ranged [] i h = h
  one_ranged (a ∷ []) i h = h
  one_ranged (a ∷ b ∷ l) zero h = (h.1.0, (h.0, h.1.1))
  one_ranged (a ∷ b ∷ l) (suc i) h = (h.0, one_ranged (b ∷ l) i h.1)

  -- The entries of a ranged list are ranged after exchanges.
  pub all_ranged : (is : List ℕ) (l : List (Item Op)) → AllRanged o (ops l)
      → AllRanged o (ops (after_exchanges l is))
  all_ranged [] l h = h
  all_ranged (i ∷ is) l h = all_ranged is (exchanged l i) (one_ranged l i h)
