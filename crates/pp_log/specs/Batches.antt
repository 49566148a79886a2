-- Proof machinery: items of one place that leave a log together.
use Rattle.std.specs.Prelude.{◌≡◌, ◌+◌, ℕ, List, [], ◌∷◌, ◌++◌, length}
use Rattle.pp_core.specs.declared.entry.Item.{Item}
use Rattle.pp_model.specs.Lists.{In}
use Rattle.pp_model.specs.Object.{HasDistinctIds, ops}
use Rattle.pp_kind.specs.Object.{AllowedFrom, IsLog, Object, Swaps, state_from}
use Rattle.pp_log.specs.declared.index.Index.{Index}
use Rattle.pp_log.specs.Index.{IsIndexOf}
use Rattle.pp_log.specs.Leaves.{StandFrom}
use Rattle.pp_log.specs.Leaving.{MayLeave, without_items}
use Rattle.pp_log.specs.Room.{ids_of}
use Rattle.pp_log.specs.Runs.{kept_along}
use Rattle.pp_log.specs.TakesOut.{itself}

-- From the state b of a log on these operations are allowed, this is what is kept of each, and they
-- lead to s.
pub record IsAlong {Shape State Op Undo : Type 0} (o : Object Shape State Op Undo)
    (b : State) (base x : List Op) (us : List Undo) (s : State) : Type 0 where
  pub log : IsLog o b base
  pub allowed : AllowedFrom o b x
  pub kept : us ≡ kept_along o b x
  pub is : s ≡ state_from o b x

-- The items have one place.
abbrev pub AreOnOnePlace : {Op : Type 0} → (Op → ℕ) → List (Item Op) → Type 0
AreOnOnePlace {Op} place batch = (p q : Item Op) → In p batch → In q batch → place p.op ≡ place q.op

-- The items come after the operation at this position. They are right before it, it has their
-- place, and it may move past each of them.
abbrev pub CarriesAllOver : {Shape State Op Undo : Type 0} → Object Shape State Op Undo →
    (Op → ℕ) → List (Item Op) → ℕ → List Undo → List Undo → Type 0
CarriesAllOver {Shape} {State} {Op} o place batch at us vs =
    (b s : State) (base x z : List Op) (c : Op) → length x + length batch ≡ at
    → ((p : Item Op) → In p batch → Swaps o p.op c × (place p.op ≡ place c))
    → IsAlong o b base (x ++ (ops batch ++ c ∷ z)) us s
    → IsAlong o b base ((x ++ c ∷ []) ++ (ops batch ++ z)) vs s

-- Among the items of a place, which have these ids, those of a batch may leave. The first of them
-- is at this position.
pub record HasBatch {Shape State Op Undo : Type 0} (o : Object Shape State Op Undo)
    (place : Op → ℕ) (batch : List (Item Op)) (from : ℕ) (ids : List ℕ)
    (items : List (Item Op)) : Type 0 where
  pub stand : StandFrom batch items from
  pub may : MayLeave o batch items
  pub same_ids : ids ≡ ids_of items
  pub one_place : (p q : Item Op) → In p batch → In q items → place p.op ≡ place q.op

-- So it is of some items, of each of which something is kept.
abbrev pub CanGather : {Shape State Op Undo : Type 0} → Object Shape State Op Undo → (Op → ℕ) →
    List (Item Op) → ℕ → List ℕ → List Undo → Type 0
CanGather {Shape} {State} {Op} o place batch from ids us =
    (items : List (Item Op)) × HasBatch o place batch from ids items
    × (length us ≡ length items)

-- Those of the batch come after all others.
abbrev pub Gathers : {Shape State Op Undo : Type 0} → Object Shape State Op Undo → (Op → ℕ) →
    List (Item Op) → ℕ → List ℕ → List Undo → List Undo → Type 0
Gathers {Shape} {State} {Op} o place batch from ids us vs =
    (b s : State) (base : List Op) (items : List (Item Op)) → HasBatch o place batch from ids items
    → IsAlong o b base (ops items) us s
    → IsAlong o b base (ops (without_items itself batch items ++ batch)) vs s

-- The index is of the ids of a list, and these ids are those of another one. Those of a batch may
-- leave both.
pub record CanForget {Shape State Op Undo : Type 0} (o : Object Shape State Op Undo)
    (batch : List (Item Op)) (index : Index) (here : List ℕ) (log items : List (Item Op))
    : Type 0 where
  pub distinct : HasDistinctIds log
  pub may : MayLeave o batch log
  pub index_of : IsIndexOf index (ids_of log)
  pub distinct_here : HasDistinctIds items
  pub may_here : MayLeave o batch items
  pub same_ids : here ≡ ids_of items

-- Both are then of what is left.
abbrev pub Forgets : {Shape State Op Undo : Type 0} → Object Shape State Op Undo →
    List (Item Op) → Index → List ℕ → Index → List ℕ → Type 0
Forgets {Shape} {State} {Op} o batch old here new left =
    (log items : List (Item Op)) → CanForget o batch old here log items
    → IsIndexOf new (ids_of (without_items itself batch log))
    × (left ≡ ids_of (without_items itself batch items))
