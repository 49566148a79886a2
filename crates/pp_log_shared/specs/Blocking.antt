-- Meaning: which entries block an operation after them.
use Rattle.std.specs.Prelude.{◌≡◌, ◌≢◌, ◌<◌, ◌≤◌, ℕ, true, false, List, length, slice_get, Some}
use Rattle.pp_core.specs.declared.entry.SharedEntry.{SharedEntry}
use Rattle.pp_model.specs.Lists.{In}
use Rattle.pp_model.specs.Names.{Name}
use Rattle.pp_kind.specs.Object.{Object, Swaps, SwapsNowhere}

-- The entries before a position are committed.
pub record IsSettled {Op : Type 0} (log : List (SharedEntry Op)) (settled : ℕ) : Type 0 where
  pub within : settled ≤ length log
  pub committed :
      (j : ℕ) (e : SharedEntry Op) → j < settled → slice_get log j ≡ Some e → e.committed ≡ true

-- The entry is uncommitted, of another owner, and does not swap with the operation after it: not in
-- every shape, and in none that both of them fit.
pub record Blocks {Shape State Op Undo : Type 0} (o : Object Shape State Op Undo)
    (owner : Name) (op : Op) (e : SharedEntry Op) : Type 0 where
  pub uncommitted : e.committed ≡ false
  pub other : e.owner ≢ owner
  pub unswapped : Swaps o e.op op → ⊥
  pub stays : SwapsNowhere o e.op op

-- If the entry is uncommitted and of another owner, it swaps with the operation after it in every
-- shape.
abbrev pub GivesWay :
    {Shape State Op Undo : Type 0} → Object Shape State Op Undo →
    Name → Op → SharedEntry Op → Type 0
GivesWay o owner op e = e.committed ≡ false → e.owner ≢ owner → Swaps o e.op op

-- Each entry commutes.
abbrev pub AllGiveWay :
    {Shape State Op Undo : Type 0} → Object Shape State Op Undo →
    Name → Op → List (SharedEntry Op) → Type 0
AllGiveWay {Shape} {State} {Op} {Undo} o owner op log =
    (e : SharedEntry Op) → In e log → GivesWay o owner op e

-- Each entry before a position commutes.
abbrev pub AllGiveWayBelow :
    {Shape State Op Undo : Type 0} → Object Shape State Op Undo →
    Name → Op → List (SharedEntry Op) → ℕ → Type 0
AllGiveWayBelow {Shape} {State} {Op} {Undo} o owner op log k =
    (j : ℕ) (e : SharedEntry Op) → j < k → slice_get log j ≡ Some e → GivesWay o owner op e

-- The k-th entry blocks, and each before it commutes.
pub record IsFirstBlocking {Shape State Op Undo : Type 0} (o : Object Shape State Op Undo)
    (owner : Name) (op : Op) (log : List (SharedEntry Op)) (k : ℕ) : Type 0 where
  pub entry : SharedEntry Op
  pub is : slice_get log k ≡ Some entry
  pub blocks : Blocks o owner op entry
  pub first : AllGiveWayBelow o owner op log k
