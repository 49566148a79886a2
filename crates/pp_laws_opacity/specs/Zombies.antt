-- Meaning: the first own list of a run that is explained by no number of commits in its window.
use Rattle.std.specs.Prelude.{◌≡◌, ◌≢◌, ◌≤◌, ℕ, List, [], ◌∷◌, ◌++◌, length, Option}
use Rattle.pp_model.specs.Config.{App, Start, Step, first}
use Rattle.pp_model.specs.Names.{Name}
use Rattle.pp_model.specs.Object.{Item, Object}
use Rattle.pp_model.specs.Rules.{RunsFrom, StartMeets}
use Rattle.pp_model.specs.Serial.{attempts, own_of}
use Rattle.pp_laws_opacity.specs.Opacity.{Began, IsOpaque, IsOpen, IsPrefix, Sees}

-- An own list of a transaction after so many steps of a run, and the two ends of its window.
pub record Zombie (Op : Type 0) : Type 0 where
  pub step : ℕ
  pub tx : Name
  pub least : ℕ
  pub most : ℕ
  pub items : List (Item Op)

module _ {Op State : Type 0} (O : Object Op State) where
  -- It is the first zombie of these steps: no n in the window explains the own list that its
  -- transaction has after the steps `past`, and each shorter prefix of them is opaque.
  pub record IsZombie (h : Option (Start Op)) (ss : List (Step Op)) (z : Zombie Op) : Type 0 where
    pub past : List (Step Op)
    pub within : IsPrefix past ss
    pub step : z.step ≡ length past
    pub opened : IsOpen h past z.tx
    pub early : List (Step Op)
    pub began : Began z.tx early past
    pub least : z.least ≡ length (attempts h early)
    pub most : z.most ≡ length (attempts h past)
    pub items : z.items ≡ own_of z.tx past
    pub some : own_of z.tx past ≢ []
    pub unexplained : (n : ℕ) → z.least ≤ n → n ≤ z.most → Sees O h past z.tx n → ⊥
    pub first : (before : List (Step Op)) → IsPrefix before past → before ≢ past →
        IsOpaque O h before

  -- A run that has a first zombie is not opaque. An accepted run has at most one first zombie, and
  -- it is there right after an APP of its transaction.
  pub record ZombieLaw : Type 0 where
    pub excludes : (h : Option (Start Op)) (ss : List (Step Op)) (z : Zombie Op) →
        IsZombie h ss z → IsOpaque O h ss → ⊥
    pub one : (h : Option (Start Op)) (ss : List (Step Op)) (z w : Zombie Op) → StartMeets O h →
        RunsFrom O (first h) ss → IsZombie h ss z → IsZombie h ss w → z ≡ w
    pub app : (h : Option (Start Op)) (ss : List (Step Op)) (z : Zombie Op) → StartMeets O h →
        RunsFrom O (first h) ss → (is : IsZombie h ss z) →
        (before : List (Step Op)) × (id : ℕ) × (op : Op)
        × (is.past ≡ before ++ App z.tx id op ∷ [])
