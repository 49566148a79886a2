-- The parts of a body, one by one.
use Rattle.std.proofs.Common.{◌≡◌, ◌≤◌, ℕ, List, length, drop, refl}
use Rattle.std.proofs.lemmas.List.{drop_all}
use Rattle.pp_core.specs.declared.body.Body.{Body}
use Rattle.pp_core.specs.Trees.{NoPart, trees_of}

-- No part of a body is left after its last one.
pub none_left : (parts : List Body) (i : ℕ) → length parts ≤ i → trees_of (drop i parts) ≡ NoPart
none_left parts i le = rw (drop_all i parts le) refl
