-- Meaning: what a kind of object means, which lists it allows, and which pairs of its operations
-- swap.
use Rattle.std.specs.Prelude.{◌≡◌, ℕ, Bool, true, false, ◌&&◌, IsTrue, ◌<◌, ◌↔◌}
use Rattle.std.specs.Prelude.{List, [], ◌∷◌, ◌++◌, length, Option, Some, None}
use Rattle.pp_core.specs.declared.answer.Answer.{Answer}
use Rattle.pp_core.specs.declared.call.Call.{Call}
use Rattle.pp_kind.specs.declared.range.TheConstants.{MOST_OPERATIONS}
use Rattle.pp_kind.specs.Numbers.{has_ranged_arguments, is_ranged_answer}
use Rattle.pp_model.specs.Object as model
use Rattle.pp_model.specs.Object.{AllowedBy, state_by}

-- Proof machinery: which states the code meets, what it keeps to take an operation back, and which
-- operations it knows to swap with one another. No list that is allowed, no swap and no result
-- depends on it.
pub record Upkeep (State Op Undo : Type 0) : Type 1 where
  -- it is the state of some run, as far as the laws require
  pub IsState : State → Type 0
  -- the undo value that is kept in a state, to take an operation back there
  pub kept : State → Op → Undo
  -- the state that this brings back
  pub back : State → Op → Undo → State
  -- the operation is in the clique of the kind: any two operations there swap, whatever numbers
  -- they have
  pub in_clique : Op → Bool

-- What a kind of object means: its states, what an operation returns in a state, and what it
-- leaves.
pub record Object (Shape State Op Undo : Type 0) : Type 1 where
  -- the empty state, before any operation
  pub start : Shape → State
  -- which objects a state has
  pub shape : State → Shape
  -- the operation is one of these objects
  pub fits : Shape → Op → Bool
  -- all its numbers lie in the range of records
  pub ranged : Op → Bool
  -- its method with its arguments
  pub call : Op → Call
  -- the result that it records
  pub recorded : Op → Answer
  -- the result that the object returns
  pub gives : State → Op → Answer
  -- the state afterwards
  pub next : State → Op → State
  -- operations before and after a pair that does not swap, which show it
  pub refuting : Op → Op → Option (List Op × List Op)
  pub upkeep : Upkeep State Op Undo

module _ {Shape State Op Undo : Type 0} (o : Object Shape State Op Undo) where
  -- The operation fits the state, and its recorded result is the one that the object returns there.
  abbrev pub IsLegal : State → Op → Type 0
  IsLegal s op = IsTrue (o.fits (o.shape s) op) × (o.gives s op ≡ o.recorded op)

  -- From this state on, each operation is legal in the state after those before it.
  abbrev pub AllowedFrom : State → List Op → Type 0
  AllowedFrom s ops = AllowedBy IsLegal o.next s ops

  -- The state after these operations.
  abbrev pub state_from : State → List Op → State
  state_from s ops = state_by o.next s ops

  -- The list is allowed from the empty state.
  abbrev pub IsAllowed : Shape → List Op → Type 0
  IsAllowed shape ops = AllowedFrom (o.start shape) ops

  -- The state after these operations from the empty state.
  abbrev pub state_after : Shape → List Op → State
  state_after shape ops = state_from (o.start shape) ops

  -- The sequential object of a shape.
  abbrev pub rules_of : Shape → model.Object Op State
  rules_of shape = record { start = o.start shape; Legal = IsLegal; next = o.next; call = o.call }

  -- In this shape b moves left over a: wherever a is followed by b, b may come before a instead,
  -- whatever is before and after the two.
  abbrev pub SwapsIn : Shape → Op → Op → Type 0
  SwapsIn shape a b = model.Swaps (rules_of shape) a b

  -- So it does in every shape. The other way round it need not: a may not move left over b.
  abbrev pub Swaps : Op → Op → Type 0
  Swaps a b = (shape : Shape) → SwapsIn shape a b

  -- b moves left over a in no shape that both of them fit.
  abbrev pub SwapsNowhere : Op → Op → Type 0
  SwapsNowhere a b =
      (shape : Shape) → IsTrue (o.fits shape a) → IsTrue (o.fits shape b) → SwapsIn shape a b → ⊥

  -- No shape has the objects of both.
  abbrev pub FitNowhere : Op → Op → Type 0
  FitNowhere a b = (shape : Shape) → IsTrue (o.fits shape a) → IsTrue (o.fits shape b) → ⊥

  -- All of them lie in the range of records.
  abbrev pub AllRanged : List Op → Type 0
  AllRanged [] = Unit {0}
  AllRanged (op ∷ ops) = IsTrue (o.ranged op) × AllRanged ops

  -- If a and then b are legal in this state, so are b and then a, and they leave the same state.
  abbrev pub CommutesAt : State → Op → Op → Type 0
  CommutesAt s a b =
      IsLegal s a → IsLegal (o.next s a) b
      → IsLegal s b × IsLegal (o.next s b) a × (o.next (o.next s b) a ≡ o.next (o.next s a) b)

  -- So it is in every state after an allowed list.
  abbrev pub Commutes : Op → Op → Type 0
  Commutes a b =
      (shape : Shape) (before : List Op) → IsAllowed shape before
      → CommutesAt (state_after shape before) a b

  -- What is kept if a and then b take effect in this state, and if b and then a do. "In turn"
  -- means: the one that comes first keeps the same, whichever it is, and so does the one that comes
  -- second. Otherwise each keeps the same in both orders. Both are true if nothing is kept.
  abbrev pub KeptAsAt : Bool → State → Op → Op → Type 0
  KeptAsAt true s a b =
      (o.upkeep.kept s b ≡ o.upkeep.kept s a)
      × (o.upkeep.kept (o.next s b) a ≡ o.upkeep.kept (o.next s a) b)
  KeptAsAt false s a b =
      (o.upkeep.kept s b ≡ o.upkeep.kept (o.next s a) b)
      × (o.upkeep.kept (o.next s b) a ≡ o.upkeep.kept s a)

  -- The same for every state in which a and b are legal, and b after a.
  abbrev pub KeptAs : Bool → Op → Op → Type 0
  KeptAs in_turn a b =
      (s : State) → o.upkeep.IsState s → IsLegal s a → IsLegal s b → IsLegal (o.next s a) b
      → KeptAsAt in_turn s a b

  -- In some state in which it is legal, this is what is kept of it.
  abbrev pub MayKeep : Op → Undo → Type 0
  MayKeep a u = (s : State) × IsLegal s a × (o.upkeep.kept s a ≡ u)

  -- Any two operations in the clique swap.
  abbrev pub CliqueSwaps : Type 0
  CliqueSwaps = (a b : Op) → IsTrue (o.upkeep.in_clique a) → IsTrue (o.upkeep.in_clique b)
      → Swaps a b

  -- The lists show that b may not move left over a: they fit each shape that the pair fits, and are
  -- ranged if the pair is.
  pub record Refutes (a b : Op) (before after : List Op) : Type 0 where
    pub allowed : (shape : Shape) → IsTrue (o.fits shape a) → IsTrue (o.fits shape b)
        → IsAllowed shape (before ++ (a ∷ b ∷ after))
    pub changed : (shape : Shape) → IsTrue (o.fits shape a) → IsTrue (o.fits shape b)
        → IsAllowed shape (before ++ (b ∷ a ∷ after)) → ⊥
    pub ranged_before : IsTrue (o.ranged a) → IsTrue (o.ranged b) → AllRanged before
    pub ranged_after : IsTrue (o.ranged a) → IsTrue (o.ranged b) → AllRanged after

  -- The lists that refute a pair, if there are any.
  abbrev pub IsRefutedBy : Op → Op → Option (List Op × List Op) → Type 0
  IsRefutedBy a b None = Unit {0}
  IsRefutedBy a b (Some lists) = Refutes a b lists.0 lists.1

  -- The list is allowed and ranged, and this is the state after it.
  pub record IsLog (s : State) (ops : List Op) : Type 0 where
    pub allowed : IsAllowed (o.shape s) ops
    pub is : s ≡ state_after (o.shape s) ops
    pub ranged : AllRanged ops

  -- The state is the one after an allowed list of ranged operations, fewer than a log may have.
  pub record IsReached (s : State) : Type 0 where
    pub ops : List Op
    pub log : IsLog s ops
    pub few : length ops < MOST_OPERATIONS

  -- All that is allowed from the first state on is allowed from the second on.
  abbrev pub AllowsAllOf : State → State → Type 0
  AllowsAllOf s t = (k : List Op) → AllowedFrom s k → AllowedFrom t k

  -- If a is before the operations y, its effect may be seen as the last one. The value that was
  -- kept when it was applied is the value that would be kept after y, and it takes a back as if it
  -- had not been applied.
  pub record IsUndoneBehind (shape : Shape) (x y : List Op) (a : Op) : Type 0 where
    pub allowed : IsAllowed shape ((x ++ y) ++ a ∷ [])
    pub left : state_after shape (x ++ a ∷ y) ≡ o.next (state_after shape (x ++ y)) a
    pub kept :
        o.upkeep.kept (state_after shape x) a ≡ o.upkeep.kept (state_after shape (x ++ y)) a
    pub undone :
        o.upkeep.back (state_after shape (x ++ a ∷ y)) a (o.upkeep.kept (state_after shape x) a)
        ≡ state_after shape (x ++ y)

  -- The laws of each kind of object.
  pub record IsLawful : Type 0 where
    -- the start has its shape, and is a state
    pub start_shape : (shape : Shape) → o.shape (o.start shape) ≡ shape
    pub start_is_state : (shape : Shape) → o.upkeep.IsState (o.start shape)
    -- a legal operation keeps the shape, and leaves a state
    pub next_shape : (s : State) (op : Op) → IsLegal s op → o.shape (o.next s op) ≡ o.shape s
    pub next_is_state : (s : State) (op : Op) → o.upkeep.IsState s → IsLegal s op
        → o.upkeep.IsState (o.next s op)
    -- taking an operation back leads to the state before it
    pub taken_back : (s : State) (op : Op) → o.upkeep.IsState s → IsLegal s op
        → o.upkeep.back (o.next s op) op (o.upkeep.kept s op) ≡ s
    -- states of one shape are equal if all that is allowed from the first is allowed from the
    -- second
    pub told_apart : (s t : State) → o.upkeep.IsState s → o.upkeep.IsState t
        → o.shape s ≡ o.shape t → AllowsAllOf s t → s ≡ t
    -- operations of one call that are legal in one state record one result
    pub one_answer : (s : State) (a b : Op) → o.call a ≡ o.call b → IsLegal s a → IsLegal s b
        → o.recorded a ≡ o.recorded b
    -- an operation is ranged exactly if its arguments and its recorded result are
    pub ranged_numbers : (op : Op)
        → o.ranged op ≡ (has_ranged_arguments (o.call op) && is_ranged_answer (o.recorded op))
    -- there are lists exactly for the pairs that do not swap, and they show it
    pub unrefuted : (a b : Op) → (o.refuting a b ≡ None) ↔ Swaps a b
    pub refuted : (a b : Op) → IsRefutedBy a b (o.refuting a b)

-- Each of these moves left over the operation.
abbrev pub LetsPass : {Shape State Op Undo : Type 0} → Object Shape State Op Undo → Op → List Op →
    Type 0
LetsPass o a [] = Unit {0}
LetsPass o a (b ∷ y) = Swaps o a b × LetsPass o a y

-- Each of the operations has another place.
abbrev pub AllElsewhere : {Op : Type 0} → (Op → ℕ) → ℕ → List Op → Type 0
AllElsewhere place_of p [] = Unit {0}
AllElsewhere place_of p (b ∷ y) = (p ≡ place_of b → ⊥) × AllElsewhere place_of p y

module _ {Shape State Op Undo : Type 0} (o : Object Shape State Op Undo) (place_of : Op → ℕ) where
  -- An operation is taken back after those of other places.
  abbrev pub UndoneBehindOthers : Type 0
  UndoneBehindOthers =
      (shape : Shape) (x y : List Op) (a : Op) → AllElsewhere place_of (place_of a) y
      → IsAllowed o shape (x ++ a ∷ y) → IsUndoneBehind o shape x y a

  -- The laws of a kind of several objects. SameAt p s t says that the object at the place p is in t
  -- as it is in s.
  pub record IsPlaced (SameAt : ℕ → State → State → Type 0) : Type 0 where
    -- to be the same at a place is an equivalence
    pub same : (p : ℕ) (s : State) → SameAt p s s
    pub turned : (p : ℕ) (s t : State) → SameAt p s t → SameAt p t s
    pub joined : (p : ℕ) (r s t : State) → SameAt p r s → SameAt p s t → SameAt p r t
    -- states of one shape that are the same at every place are one
    pub everywhere : (s t : State) → o.shape s ≡ o.shape t → ((p : ℕ) → SameAt p s t) → s ≡ t
    -- operations of different places swap
    pub apart : (a b : Op) → (place_of a ≡ place_of b → ⊥) → Swaps o a b
    -- the result, the effect and the undo value depend only on the object at the place
    pub gives_there : (s t : State) (a : Op) → SameAt (place_of a) s t → o.gives s a ≡ o.gives t a
    pub kept_there : (s t : State) (a : Op) → SameAt (place_of a) s t
        → o.upkeep.kept s a ≡ o.upkeep.kept t a
    pub next_there : (s t : State) (a : Op) → SameAt (place_of a) s t
        → SameAt (place_of a) (o.next s a) (o.next t a)
    -- every other place stays
    pub next_elsewhere : (s : State) (a : Op) (p : ℕ) → (p ≡ place_of a → ⊥)
        → SameAt p s (o.next s a)
