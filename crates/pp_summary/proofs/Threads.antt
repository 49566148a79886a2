-- The threads of open transactions.
use Rattle.std.specs.Prelude.{◌≡◌, true, false, cond, List, [], ◌∷◌, ◌++◌}
use Rattle.std.specs.List.{list_any}
use Rattle.std.proofs.Common.{sym, ap, ◌∙◌}
use Rattle.pp_model.specs.Names.{Name, ◌=ⁿ◌}
use Rattle.pp_model.proofs.NameLists.{any_joined, any_not, any_skip, apart_more, before_skip}
use Rattle.pp_model.proofs.NameLists.{or_last}
use Rattle.pp_summary.specs.Shown.{AreThreads}

-- With one more busy thread, the busy threads are the old ones and this one.
pub threads_more : (ts bs us : List Name) (p : Name) → AreThreads ts bs → list_any (λ q. q =ⁿ p) bs ≡ false →
    ((q : Name) → list_any (λ z. q =ⁿ z) us ≡ cond (p =ⁿ q) true (list_any (λ z. q =ⁿ z) ts)) → AreThreads us (bs ++ p ∷ [])
threads_more ts bs us p k i u =
    record {
      apart = apart_more bs p k.apart (any_not bs p i);
      are = λ q. u q ∙ ap (cond (p =ⁿ q) true) (k.are q) ∙ sym (or_last (list_any (λ z. z =ⁿ q) bs) (p =ⁿ q)) ∙ sym (any_joined bs (p ∷ []) q);
    }

-- If one thread is free again, the busy threads are the others.
pub threads_less : (ts us k l : List Name) (p : Name) → AreThreads ts (k ++ p ∷ l) →
    ((q : Name) → list_any (λ z. q =ⁿ z) us ≡ cond (p =ⁿ q) false (list_any (λ z. q =ⁿ z) ts)) → AreThreads us (k ++ l)
threads_less ts us k l p h u =
    record {
      apart = λ s t b. h.apart s t (before_skip k l p s t b);
      are = λ q. u q ∙ ap (cond (p =ⁿ q) false) (h.are q) ∙ sym (any_skip k l p q h.apart);
    }
