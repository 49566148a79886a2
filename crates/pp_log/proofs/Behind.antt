-- An operation after a log: whether it may be there, and the object's result.
use Rattle.std.proofs.Common.{◌≡◌, Bool, IsTrue, List, ◌↔◌, ◌∙◌, ap}
use Rattle.pp_core.specs.declared.answer.Answer.{Answer}
use Rattle.pp_core.specs.declared.entry.Item.{Item}
use Rattle.pp_kind.specs.Object.{Object, IsLog, state_after}
use Rattle.pp_kind.proofs.Lists.{legal_at_end}
use Rattle.pp_log.specs.Logs.{GoesBehind, answer_behind, entry_ops}

module _ {Shape State Op Undo E : Type 0} (o : Object Shape State Op Undo) (f : E → Item Op) (s : State) (log : Shape × List E) (shape : o.shape s ≡ log.0) (is : IsLog o s (entry_ops f log.1)) (a : Op) where
  -- The log stays allowed with it exactly if it is legal in the state that the log leads to.
  pub legal_behind : (t : Bool) → IsTrue (o.fits log.0 a) → IsTrue t ↔ (o.gives s a ≡ o.recorded a) → IsTrue t ↔ GoesBehind o log.0 (entry_ops f log.1) a
  legal_behind t fits h =
      let ops = entry_ops f log.1 in
      let k = legal_at_end o s ops a (log.0, ops) (ap (λ (sh : Shape). (sh, ops)) shape) is fits in
      ((λ r. k.0 (h.0 r)), (λ r. h.1 (k.1 r)))

  -- The object's result is the one in the state after the log.
  pub gives_behind : (r : Answer) → r ≡ o.gives s a → r ≡ answer_behind o log.0 (entry_ops f log.1) a
  gives_behind r h =
      h ∙ ap (λ (t : State). o.gives t a) is.is ∙ ap (λ (sh : Shape). o.gives (state_after o sh (entry_ops f log.1)) a) shape
