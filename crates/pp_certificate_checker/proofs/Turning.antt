-- Proof machinery: one position after another.
use Rattle.std.proofs.Common.{◌≡◌, ◌+◌, ◌<◌, ◌≤◌, ℕ, suc, List, [], ◌∷◌, length, drop, get_or}
use Rattle.std.proofs.Common.{swap, Ok, Err, refl, sym, ap, subst, ◌∙◌, arith, inl, inr, add-one}
use Rattle.std.proofs.lemmas.List.{drop_more, drop_all}
use Rattle.pp_model.specs.Object.{Item}
use Rattle.pp_kind.specs.Object.{Object, Swaps}
use Rattle.pp_certificate_exchanges.specs.Exchanges.{exchanged}
use Rattle.pp_certificate_checker.specs.Certificates.{AreExchanged, Exchanged, Step, Position, Pair}
use Rattle.pp_certificate_checker.proofs.Pairs.{at_pair_at, swap_is_exchange}

module _ {Shape State Op Undo : Type 0} (o : Object Shape State Op Undo) (shape : Shape)
    (ps : List ℕ) (k count : ℕ) where
  abbrev at : List (Item Op) → ℕ → Step Shape Op
  at l n = Ok (Exchanged shape l n)

  -- After the last position, all exchanges are taken.
  pub all_taken : (l : List (Item Op)) → k ≡ length ps
      → AreExchanged o shape l (count + k) (drop k ps) (Ok (Exchanged shape l (count + length ps)))
  all_taken l e =
      let none : drop k ps ≡ [] = drop_all k ps (omega arith) in
      let n : count + length ps ≡ count + k = omega arith in
      subst (λ (w : List ℕ). AreExchanged o shape l (count + k) w (at l (count + length ps)))
      (sym none) (ap (λ m. at l m) n)

  module _ (lt : k < length ps) where
    left_is : drop k ps ≡ get_or ps k 0 ∷ drop (k + 1) ps
    left_is = drop_more ps k 0 lt

    -- the rest begins with this position
    begins : (l : List (Item Op)) (r : Step Shape Op)
        → AreExchanged o shape l (count + k) (get_or ps k 0 ∷ drop (k + 1) ps) r
        → AreExchanged o shape l (count + k) (drop k ps) r
    begins l r h =
        subst (λ (w : List ℕ). AreExchanged o shape l (count + k) w r) (sym left_is) h

    -- A position without a next entry is refused.
    pub no_position : (l : List (Item Op)) → length l ≤ get_or ps k 0 + 1
        → AreExchanged o shape l (count + k) (drop k ps) (Err Position)
    no_position l h = begins l (Err Position) (inr (inr (h, refl)))

    module _ (l : List (Item Op)) (a b : Item Op) (there : suc (get_or ps k 0) < length l)
        (first : a ≡ get_or l (get_or ps k 0) a) (second : b ≡ get_or l (get_or ps k 0 + 1) b) where
      next : b ≡ get_or l (suc (get_or ps k 0)) b
      next = second ∙ ap (λ n. get_or l n b) (add-one (get_or ps k 0))

      -- A position whose pair does not swap is refused, with the ids of the pair.
      pub no_swap : ¬ Swaps o a.op b.op
          → AreExchanged o shape l (count + k) (drop k ps) (Err (Pair a.id b.id))
      no_swap n =
          let r : Step Shape Op = Err (Pair a.id b.id) in
          begins l r (inr (inl (at_pair_at (λ x y. ¬ Swaps o x.op y.op × (r ≡ Err (Pair x.id y.id)))
          l (get_or ps k 0) a b there first next (n, refl))))

      -- A position whose pair swaps is taken, and the next positions decide.
      pub one_swap : Swaps o a.op b.op → (m : List (Item Op))
          → m ≡ swap l (get_or ps k 0) (get_or ps k 0 + 1) → (r : Step Shape Op)
          → AreExchanged o shape m (count + (k + 1)) (drop (k + 1) ps) r
          → AreExchanged o shape l (count + k) (drop k ps) r
      one_swap s m e r h =
          let is : m ≡ exchanged l (get_or ps k 0) =
          e ∙ ap (λ n. swap l (get_or ps k 0) n) (add-one (get_or ps k 0))
          ∙ swap_is_exchange l (get_or ps k 0) there in
          let n : count + (k + 1) ≡ suc (count + k) = omega arith in
          let h1 : AreExchanged o shape (exchanged l (get_or ps k 0)) (count + (k + 1))
          (drop (k + 1) ps) r =
          subst (λ (w : List (Item Op)). AreExchanged o shape w (count + (k + 1)) (drop (k + 1) ps)
          r)
          is h in
          let h2 : AreExchanged o shape (exchanged l (get_or ps k 0)) (suc (count + k))
          (drop (k + 1) ps) r =
          subst (λ c. AreExchanged o shape (exchanged l (get_or ps k 0)) c (drop (k + 1) ps) r)
          n h1 in
          let swaps = at_pair_at (λ x y. Swaps o x.op y.op) l (get_or ps k 0) a b there first next
          s in
          begins l r (inl (swaps, h2))
