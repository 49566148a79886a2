-- Meaning: what the calls of a kind return.
use Rattle.std.specs.Prelude.{◌≡◌, ◌≢◌, IsTrue, List, Option, option_map, Result, Ok, Err}
use Rattle.pp_core.specs.declared.answer.OutOfMemory.{OutOfMemory}
use Rattle.pp_kind.specs.Object.{Object, IsLegal, IsReached}
use Rattle.pp_kind.specs.declared.spec.Applied.{Applied}
use Rattle.pp_kind.specs.declared.spec.Applied.TheVariants.{Done, Differs}
use Rattle.pp_kind.specs.declared.spec.Context.{Context}

-- The operations before and after a pair.
abbrev pub lists_of : {Op : Type 0} → Option (Context Op) → Option (List Op × List Op)
lists_of found = option_map (λ c. (c.before, c.after)) found

module _ {Shape State Op Undo : Type 0} (o : Object Shape State Op Undo) where
  -- The result of `apply` in a state, and the state that it leaves.
  abbrev pub Applies : State → Op → Result (Applied Undo) OutOfMemory → State → Type 0
  Applies old op (Ok (Done undo)) new =
      (o.gives old op ≡ o.recorded op) × (undo ≡ o.upkeep.kept old op) × (new ≡ o.next old op)
  Applies old op (Ok Differs) new = (o.gives old op ≢ o.recorded op) × (new ≡ old)
  Applies old op (Err refused) new = new ≡ old

  -- A run led to a state in which `apply` of this operation left this one, and kept this undo
  -- value.
  abbrev pub WasApplied : Op → Undo → State → Type 0
  WasApplied op undo new =
      (old : State) × IsReached o old × IsTrue (o.ranged op) × IsLegal o old op
      × (new ≡ o.next old op) × (undo ≡ o.upkeep.kept old op)
