-- Proof machinery: an operation, and what takes it back, carried after others.
use Rattle.std.specs.Prelude.{◌≡◌, ℕ, List, [], ◌∷◌, ◌++◌, length}
use Rattle.pp_kind.specs.Object.{Object, AllowedFrom, IsLog, LetsPass, Swaps, state_from}
use Rattle.pp_log.specs.Parts.{AllAt}
use Rattle.pp_log.specs.Runs.{kept_along}

-- The operation a has come after x, and z is left. In this order they are allowed from the state b
-- of a log on, and this is what is kept of each.
pub record IsOnWay {Shape State Op Undo : Type 0} (o : Object Shape State Op Undo)
    (b : State) (base x z : List Op) (a : Op) (us : List Undo) : Type 0 where
  pub log : IsLog o b base
  pub allowed : AllowedFrom o b (x ++ a ∷ z)
  pub kept : us ≡ kept_along o b (x ++ a ∷ z)

-- The undo values of the operations x, and of a after them.
pub record IsCarried {Shape State Op Undo : Type 0} (o : Object Shape State Op Undo)
    (b : State) (x : List Op) (a : Op) (us : List Undo) (u : Undo) : Type 0 where
  pub others : us ≡ kept_along o b x
  pub own : u ≡ o.upkeep.kept (state_from o b x) a

-- From this position it comes after the next operation, which has its place and may move past it.
abbrev pub CarriesOver : {Shape State Op Undo : Type 0} → Object Shape State Op Undo → (Op → ℕ) →
    Op → ℕ → List Undo → List Undo → Type 0
CarriesOver {Shape} {State} {Op} o place a at us vs =
    (b : State) (base x z : List Op) (c : Op) → length x ≡ at → Swaps o a c → place a ≡ place c
    → IsOnWay o b base x (c ∷ z) a us → IsOnWay o b base (x ++ c ∷ []) z a vs

-- From this position it comes after all that are left, which have its place and may move past it.
-- What is kept of it there is taken out.
abbrev pub CarriesOut : {Shape State Op Undo : Type 0} → Object Shape State Op Undo → (Op → ℕ) →
    Op → ℕ → List Undo → List Undo → Undo → Type 0
CarriesOut {Shape} {State} {Op} o place a from us vs v =
    (b : State) (base x z : List Op) → length x ≡ from → LetsPass o a z → AllAt place (place a) z
    → IsOnWay o b base x z a us → IsCarried o b (x ++ z) a vs v
