-- Meaning: a body as plain data, and how large it is.
use Rattle.std.specs.Prelude.{ℕ, ◌+◌, ◌≤◌, max, nat_le, ◌&&◌, Bool, List, [], ◌∷◌, map, Option}
use Rattle.std.specs.Prelude.{None, Some}
use Rattle.pp_core.specs.declared.body.Body.{Body, fold-Body}
use Rattle.pp_core.specs.declared.body.Body.TheOpen.{Body-F}
use Rattle.pp_core.specs.declared.body.Pattern.{Pattern}
use Rattle.pp_core.specs.declared.limits.TheConstants.{MOST_BODY_NODES, MOST_DEPTH}

-- a body with its parts in a row
mutual
  pub data Tree : Type 0 where
    Skip : Tree
    One : Pattern → Tree
    Seq : Trees → Tree
    Alt : Trees → Tree
    Star : Tree → Tree

  pub data Trees : Type 0 where
    NoPart : Trees
    Part : Tree → Trees → Trees

-- the data of a list of bodies
abbrev pub trees : List Tree → Trees
trees [] = NoPart
trees (b ∷ bs) = Part b (trees bs)

-- one level, with each part already seen as its data
abbrev pub tree_step : Body-F Tree → Tree
tree_step Body-F.Skip = Skip
tree_step (Body-F.Step p) = One p
tree_step (Body-F.Seq bs) = Seq (trees bs)
tree_step (Body-F.Alt bs) = Alt (trees bs)
tree_step (Body-F.Star b) = Star b.value

-- the data of a body
abbrev pub tree : Body → Tree
tree = fold-Body Tree tree_step

-- the data of the bodies in a list
abbrev pub trees_of : List Body → Trees
trees_of bs = trees (map tree bs)

abbrev mutual
  -- how many nodes a body has
  pub nodes : Tree → ℕ
  nodes Skip = 1
  nodes (One p) = 1
  nodes (Seq bs) = nodes_of_all bs + 1
  nodes (Alt bs) = nodes_of_all bs + 1
  nodes (Star b) = nodes b + 1

  -- how many nodes some bodies have together
  pub nodes_of_all : Trees → ℕ
  nodes_of_all NoPart = 0
  nodes_of_all (Part b bs) = nodes b + nodes_of_all bs

abbrev mutual
  -- how deep a body is
  pub depth : Tree → ℕ
  depth Skip = 1
  depth (One p) = 1
  depth (Seq bs) = depth_of_all bs + 1
  depth (Alt bs) = depth_of_all bs + 1
  depth (Star b) = depth b + 1

  -- the depth of the deepest of some bodies
  pub depth_of_all : Trees → ℕ
  depth_of_all NoPart = 0
  depth_of_all (Part b bs) = max (depth b) (depth_of_all bs)

-- at most 64 nodes, and depth at most 16
abbrev pub IsWithin : Tree → Type 0
IsWithin b = (nodes b ≤ MOST_BODY_NODES) × (depth b ≤ MOST_DEPTH)

-- a body is within the limits, if there is one
abbrev pub IsWithinLimits : Option Tree → Type 0
IsWithinLimits None = Unit {0}
IsWithinLimits (Some b) = IsWithin b

-- the same as a test
unfoldable pub is_within : Tree → Bool
is_within b = nat_le (nodes b) MOST_BODY_NODES && nat_le (depth b) MOST_DEPTH
