-- Facts about opacity in every accepted run.
use Rattle.std.specs.Prelude.{◌≡◌, ◌↔◌, ◌≤◌, ◌+◌, ◌++◌, ℕ, List, Option, length, take}
use Rattle.pp_model.specs.Config.{Start, Step, first}
use Rattle.pp_model.specs.Names.{Name}
use Rattle.pp_model.specs.Object.{Allowed, Object, ops}
use Rattle.pp_model.specs.Rules.{RunsFrom, StartMeets}
use Rattle.pp_model.specs.Serial.{attempts, commits, own_of, serial, start_attempts}
use Rattle.pp_laws_opacity.specs.Opacity.{Began, IsOpaque, IsOpaqueAtApps, IsOpen, IsPrefix, Sees}
use Rattle.pp_laws_opacity.specs.Orders.{HasOpaqueOrders}

module _ {Op State : Type 0} (O : Object Op State) where
  -- An open transaction is in exactly one attempt.
  pub record BeganLaw : Type 0 where
    pub some : (h : Option (Start Op)) (ss : List (Step Op)) (t : Name) → StartMeets O h →
        RunsFrom O (first h) ss → IsOpen h ss t → (early : List (Step Op)) × Began t early ss
    pub one : (ss : List (Step Op)) (t : Name) (e f : List (Step Op)) → Began t e ss →
        Began t f ss → e ≡ f

  -- Each prefix of an opaque run is opaque.
  abbrev pub PrefixLaw : Type 0
  PrefixLaw =
      (h : Option (Start Op)) (past ss : List (Step Op)) → IsPrefix past ss →
      IsOpaque O h ss → IsOpaque O h past

  -- Testing right after each APP is the same.
  abbrev pub AppLaw : Type 0
  AppLaw =
      (h : Option (Start Op)) (ss : List (Step Op)) → StartMeets O h → RunsFrom O (first h) ss →
      IsOpaque O h ss ↔ IsOpaqueAtApps O h ss

  -- A run is opaque if and only if, for each prefix of it, one sequence explains all executions.
  abbrev pub OpacityLaw : Type 0
  OpacityLaw =
      (h : Option (Start Op)) (ss : List (Step Op)) → StartMeets O h → RunsFrom O (first h) ss →
      IsOpaque O h ss ↔ HasOpaqueOrders O h ss

  -- The operations that an attempt sees may be read off the whole run, since later commits come
  -- later in it.
  pub record WholeLaw : Type 0 where
    pub sees : (h : Option (Start Op)) (past ss : List (Step Op)) (t : Name) (n : ℕ) →
        StartMeets O h → RunsFrom O (first h) ss → IsPrefix past ss →
        n ≤ length (attempts h past) →
        Sees O h past t n ↔ Allowed O (serial (take n (attempts h ss)) ++ ops (own_of t past))
    pub count : (h : Option (Start Op)) (past : List (Step Op)) →
        length (attempts h past) ≡ length (start_attempts h) + length (commits past)
