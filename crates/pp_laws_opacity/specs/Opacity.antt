-- Meaning: what the attempts of a run see, and which runs are opaque.
use Rattle.std.specs.Prelude.{◌≡◌, ◌≢◌, ◌≤◌, ℕ, List, [], ◌∷◌, ◌++◌, length, take, Option, Some}
use Rattle.pp_model.specs.Config.{Start, Step, Tx, Begin, App, Unapp, Push, Unpush, Pull, Unpull}
use Rattle.pp_model.specs.Config.{Cmt, Quit, Note, after, last}
use Rattle.pp_model.specs.Lists.{In}
use Rattle.pp_model.specs.Names.{Name}
use Rattle.pp_model.specs.Object.{Allowed, Object, ops}
use Rattle.pp_model.specs.Serial.{attempts, own_of, serial}

-- `past` is a prefix of these steps.
abbrev pub IsPrefix : {Op : Type 0} → List (Step Op) → List (Step Op) → Type 0
IsPrefix {Op} past ss = (rest : List (Step Op)) × (ss ≡ past ++ rest)

-- The transaction t is open after these steps.
abbrev pub IsOpen : {Op : Type 0} → Option (Start Op) → List (Step Op) → Name → Type 0
IsOpen {Op} h past t = (x : Tx Op) × In x (after h past).opened × (x.name ≡ t)

-- The step is t's BEGIN, or an UNAPP of t.
abbrev pub MayStart : {Op : Type 0} → Name → Step Op → Type 0
MayStart t (Begin u p b) = u ≡ t
MayStart t (Unapp u id) = u ≡ t
MayStart t (App u id op) = ⊥
MayStart t (Push u id) = ⊥
MayStart t (Unpush u id) = ⊥
MayStart t (Pull u id) = ⊥
MayStart t (Unpull u id) = ⊥
MayStart t (Cmt u) = ⊥
MayStart t (Quit u) = ⊥
MayStart t (Note u) = ⊥

-- With the last of these steps t begins an attempt: it is t's BEGIN, or an UNAPP that leaves t's own
-- list empty. Entries that t pulled may stay. A retry without an UNAPP begins no attempt.
abbrev pub Starts : {Op : Type 0} → Name → List (Step Op) → Type 0
Starts {Op} t past =
    (s : Step Op) × (last past ≡ Some s) × MayStart t s × (own_of t past ≡ [])

-- The attempt that t is in after `past` began with the last step of `early`.
pub record Began {Op : Type 0} (t : Name) (early past : List (Step Op)) : Type 0 where
  pub starts : Starts t early
  pub within : IsPrefix early past
  -- it is the last attempt that t began
  pub last : (later : List (Step Op)) → IsPrefix later past → Starts t later →
      IsPrefix later early

module _ {Op State : Type 0} (O : Object Op State) where
  -- The operations of the first n committed transactions, followed by t's own list, are allowed.
  abbrev pub Sees : Option (Start Op) → List (Step Op) → Name → ℕ → Type 0
  Sees h past t n = Allowed O (serial (take n (attempts h past)) ++ ops (own_of t past))

  -- t's attempt sees what some number of committed transactions left. It is at least the number of
  -- those that had committed when the attempt began, and at most the number of those that have
  -- committed since the run began.
  pub record SeesSome (h : Option (Start Op)) (past : List (Step Op)) (t : Name) : Type 0 where
    pub early : List (Step Op)
    pub began : Began t early past
    pub n : ℕ
    pub least : length (attempts h early) ≤ n
    pub most : n ≤ length (attempts h past)
    pub sees : Sees h past t n

  -- A run is opaque if, after each prefix of it, this is true of each open transaction whose own
  -- list is not empty.
  abbrev pub IsOpaque : Option (Start Op) → List (Step Op) → Type 0
  IsOpaque h ss =
      (past : List (Step Op)) (t : Name) → IsPrefix past ss → IsOpen h past t →
      own_of t past ≢ [] → SeesSome h past t

  -- It is true right after each APP, of the transaction of the APP.
  abbrev pub IsOpaqueAtApps : Option (Start Op) → List (Step Op) → Type 0
  IsOpaqueAtApps h ss =
      (past : List (Step Op)) (t : Name) (id : ℕ) (op : Op) →
      IsPrefix (past ++ App t id op ∷ []) ss → SeesSome h (past ++ App t id op ∷ []) t
