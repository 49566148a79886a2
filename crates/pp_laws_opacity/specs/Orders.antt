-- Meaning: one sequence of all transactions and attempts, those that did not commit included.
use Rattle.std.specs.Prelude.{◌≡◌, ◌≢◌, ◌⊎◌, ◌↔◌, ℕ, List, [], ◌∷◌, ◌++◌, Option}
use Rattle.pp_model.specs.Config.{Start, Step, Unapp, Cmt}
use Rattle.pp_model.specs.Lists.{Before, In}
use Rattle.pp_model.specs.Names.{Name}
use Rattle.pp_model.specs.Object.{Allowed, Item, Object, ops}
use Rattle.pp_model.specs.Serial.{Attempt, attempts, own_of, serial}
use Rattle.pp_laws_opacity.specs.Opacity.{Began, IsOpen, IsPrefix}

-- An execution is a transaction that committed, or an uncommitted own list: the one that t has after
-- the steps `seen`.
pub data Execution (Op : Type 0) : Type 0 where
  Committed : (a : Attempt Op) → Execution Op
  Uncommitted : (t : Name) → (seen : List (Step Op)) → Execution Op

-- the items that an execution applied
abbrev pub items_of : {Op : Type 0} → Execution Op → List (Item Op)
items_of (Committed a) = a.items
items_of (Uncommitted t seen) = own_of t seen

-- the committed ones of a list of executions
abbrev pub committed_in : {Op : Type 0} → List (Execution Op) → List (Attempt Op)
committed_in [] = []
committed_in (Committed a ∷ l) = a ∷ committed_in l
committed_in (Uncommitted t seen ∷ l) = committed_in l

-- The own list that t has after `seen` is uncommitted in the steps `past`: it is there at their end,
-- or an UNAPP of t comes next.
abbrev pub IsUncommitted : {Op : Type 0} → Option (Start Op) → List (Step Op) → Name →
    List (Step Op) → Type 0
IsUncommitted {Op} h past t seen =
    IsOpen h seen t × (own_of t seen ≢ [])
    × ((seen ≡ past) ⊎ ((id : ℕ) × IsPrefix (seen ++ Unapp t id ∷ []) past))

-- After `early` the execution has ended: it is committed, or t has taken back its last operation.
abbrev pub HasEnded : {Op : Type 0} → Option (Start Op) → Execution Op → List (Step Op) → Type 0
HasEnded h (Committed a) early = In a (attempts h early)
HasEnded h (Uncommitted t seen) early = (id : ℕ) × IsPrefix (seen ++ Unapp t id ∷ []) early

-- The execution began with the last step of `early`. For a committed transaction this is the attempt
-- that it committed.
abbrev pub BeganWith : {Op : Type 0} → Execution Op → List (Step Op) → List (Step Op) → Type 0
BeganWith {Op} (Committed a) early past =
    (seen : List (Step Op)) × IsPrefix (seen ++ Cmt a.name ∷ []) past × Began a.name early seen
BeganWith (Uncommitted t seen) early past = Began t early seen

module _ {Op State : Type 0} (O : Object Op State) where
  -- The sequence `order` explains what all executions of the steps `past` saw.
  pub record IsOpaqueOrder (h : Option (Start Op)) (past : List (Step Op))
      (order : List (Execution Op)) : Type 0 where
    -- it has the committed transactions, in commit order
    pub committed : committed_in order ≡ attempts h past
    -- it has the uncommitted attempts
    pub uncommitted : (t : Name) (seen : List (Step Op)) →
        In (Uncommitted t seen) order ↔ IsUncommitted h past t seen
    -- it has each execution once
    pub once : (p q : Execution Op) → Before p q order → p ≢ q
    -- each is allowed after the committed transactions that come before it
    pub legal : (before rest : List (Execution Op)) (p : Execution Op) →
        order ≡ before ++ p ∷ rest →
        Allowed O (serial (committed_in before) ++ ops (items_of p))
    -- an execution that had ended when another began comes before it
    pub real_time : (p q : Execution Op) (early : List (Step Op)) → In p order → In q order →
        BeganWith q early past → HasEnded h p early → Before p q order

  -- The executions of each prefix can be put into such a sequence.
  abbrev pub HasOpaqueOrders : Option (Start Op) → List (Step Op) → Type 0
  HasOpaqueOrders h ss =
      (past : List (Step Op)) → IsPrefix past ss →
      (order : List (Execution Op)) × IsOpaqueOrder h past order
