-- Proof machinery: what contracts see of the course of an open transaction.
use Rattle.std.specs.Prelude.{◌≡◌, ◌++◌, ◌∷◌, [], true, List, Option, map}
use Rattle.pp_core.specs.Trees.{Tree}
use Rattle.pp_core.specs.declared.call.Call.{Call}
use Rattle.pp_core.specs.declared.entry.LocalEntry.{LocalEntry}
use Rattle.pp_body.specs.Walks.{HasTaken, Walked}
use Rattle.pp_model.specs.Body.{Begins}
use Rattle.pp_model.specs.Config.{is_own, own_items}
use Rattle.pp_kind.specs.Object.{Object}

-- The tree of a body, the local log, and the log's shape.
pub record Guided (Shape Op : Type 0) : Type 0 where
  pub body : Option Tree
  pub local : Shape × List (LocalEntry Op)

-- the calls of the own entries, in their order
abbrev pub own_calls : {Shape State Op Undo : Type 0} → Object Shape State Op Undo →
    List (LocalEntry Op) → List Call
own_calls o l = map (λ p. o.call p.op) (own_items l)

-- The own calls, followed by that of the operation, begin a word of the body.
abbrev pub MayFollow : {Shape State Op Undo : Type 0} → Object Shape State Op Undo → Option Tree →
    List (LocalEntry Op) → Op → Type 0
MayFollow o body l op = Begins body (own_calls o l ++ o.call op ∷ [])

-- If the entry is own, its call may follow.
abbrev pub FollowsIfOwn : {Shape State Op Undo : Type 0} → Object Shape State Op Undo →
    Option Tree → List (LocalEntry Op) → LocalEntry Op → Type 0
FollowsIfOwn o body l e = is_own e.mark ≡ true → MayFollow o body l e.op

-- The calls taken are the same but for the last.
abbrev pub IsGivenBack : Walked → Walked → Type 0
IsGivenBack old new =
    (calls : List Call) (last : Call) → HasTaken old (calls ++ last ∷ []) → HasTaken new calls
