-- Proof machinery: exchanges that swap keep a list allowed.
use Rattle.std.proofs.Common.{ℕ, zero, suc, List, [], ◌∷◌, ◌++◌, append_assoc}
use Rattle.pp_model.specs.Object.{Object, Allowed, Item, ops}
use Rattle.pp_certificate_exchanges.specs.Exchanges.{exchanged, after_exchanges, AtPair, EachExchange}
use Rattle.pp_certificate_exchanges.specs.Laws.{ItemsSwap}

module _ {Op State : Type 0} (O : Object Op State) where
  one_exchange : (before : List Op) (x : List (Item Op)) (i : ℕ) (k : List Op) →
      AtPair (ItemsSwap O) x i →
      Allowed O (before ++ (ops x ++ k)) → Allowed O (before ++ (ops (exchanged x i) ++ k))
  one_exchange before [] i k r h = elim r [ ]
  one_exchange before (a ∷ []) i k r h = elim r [ ]
  one_exchange before (a ∷ b ∷ x) zero k r h = r.always before (ops x ++ k) h
  one_exchange before (a ∷ b ∷ x) (suc i) k r h =
      let h1 : Allowed O ((before ++ a.op ∷ []) ++ (ops (b ∷ x) ++ k)) = rw append_assoc h in
      let h2 = one_exchange (before ++ a.op ∷ []) (b ∷ x) i k r h1 in
      rw append_assoc at h2

  -- A list that is allowed stays so after exchanges of neighbours that swap.
  pub exchanges_allowed : (x : List (Item Op)) (is : List ℕ) (k : List Op) →
      EachExchange (ItemsSwap O) x is →
      Allowed O (ops x ++ k) → Allowed O (ops (after_exchanges x is) ++ k)
  exchanges_allowed x [] k r h = h
  exchanges_allowed x (i ∷ is) k r h = exchanges_allowed (exchanged x i) is k r.1
      (one_exchange [] x i k r.0 h)
