-- The parts of a body, one by one.
use Rattle.std.proofs.Common.{◌≡◌, ◌<◌, ◌≤◌, ℕ, ◌+◌, List, length, drop, get_or, refl, ap, sym, ◌∙◌}
use Rattle.std.proofs.Common.{arith}
use Rattle.std.proofs.lemmas.List.{drop_more, drop_all}
use Rattle.pp_core.specs.declared.body.Body.{Body}
use Rattle.pp_core.specs.Trees.{Part, NoPart, tree, trees_of, nodes, nodes_of_all}
use Rattle.pp_model.specs.Body.{Call}
use Rattle.pp_body.specs.declared.moving.Moves.{Moves}
use Rattle.pp_body.specs.Moves.{first_then, either, moves, moves_in_turn, moves_of_some}
use Rattle.pp_body.proofs.Moves.{then_then, either_either, then_passing, either_nowhere}

part_at : (parts : List Body) (i : ℕ) (b : Body) → i < length parts → b ≡ get_or parts i b
    → trees_of (drop i parts) ≡ Part (tree b) (trees_of (drop (i + 1) parts))
part_at parts i b lt is = rw (drop_more parts i b lt, ← is) refl

none_left : (parts : List Body) (i : ℕ) → length parts ≤ i → trees_of (drop i parts) ≡ NoPart
none_left parts i le = rw (drop_all i parts le) refl

-- The place after the parts so far.
pub place_goes_on : (parts : List Body) (i : ℕ) (b : Body) (at next total : ℕ) → i < length parts → b ≡ get_or parts i b → next ≡ at + nodes (tree b)
    → at + nodes_of_all (trees_of (drop i parts)) ≡ total → next + nodes_of_all (trees_of (drop (i + 1) parts)) ≡ total
place_goes_on parts i b at next total lt is e so_far = let here = rw (part_at parts i b lt is) at so_far in omega (arith, e, here)

-- After the last part of a body, the place is the one after all parts.
pub place_ends : (parts : List Body) (i at total : ℕ) → length parts ≤ i → at + nodes_of_all (trees_of (drop i parts)) ≡ total → at ≡ total
place_ends parts i at total le so_far = let here = rw (none_left parts i le) at so_far in omega (arith, here)

-- the moves of the parts so far, in turn
pub turn_goes_on : (parts : List Body) (i : ℕ) (b : Body) (so more total : Moves) (here : Moves × ℕ) (at set : ℕ) (c : Call) → i < length parts → b ≡ get_or parts i b
    → here ≡ (moves (tree b) at set c, at + nodes (tree b)) → more ≡ first_then so here.0
    → first_then so (moves_in_turn (trees_of (drop i parts)) at set c) ≡ total → first_then more (moves_in_turn (trees_of (drop (i + 1) parts)) here.1 set c) ≡ total
turn_goes_on parts i b so more total here at set c lt is e m so_far =
    let rest = trees_of (drop (i + 1) parts) in
    ap (λ (x : Moves). first_then x (moves_in_turn rest here.1 set c)) m ∙ ap (λ (h : Moves × ℕ). first_then (first_then so h.0) (moves_in_turn rest h.1 set c)) e
    ∙ then_then so (moves (tree b) at set c) (moves_in_turn rest (at + nodes (tree b)) set c) ∙ rw (part_at parts i b lt is) at so_far

-- After the last part in turn, the moves so far are all moves.
pub turn_ends : (parts : List Body) (i : ℕ) (so total : Moves) (at set : ℕ) (c : Call) → length parts ≤ i
    → first_then so (moves_in_turn (trees_of (drop i parts)) at set c) ≡ total → so ≡ total
turn_ends parts i so total at set c le so_far = sym (then_passing so) ∙ rw (none_left parts i le) at so_far

-- the moves of some of the parts so far
pub some_goes_on : (parts : List Body) (i : ℕ) (b : Body) (so more total : Moves) (here : Moves × ℕ) (at set : ℕ) (c : Call) → i < length parts → b ≡ get_or parts i b
    → here ≡ (moves (tree b) at set c, at + nodes (tree b)) → more ≡ either so here.0
    → either so (moves_of_some (trees_of (drop i parts)) at set c) ≡ total → either more (moves_of_some (trees_of (drop (i + 1) parts)) here.1 set c) ≡ total
some_goes_on parts i b so more total here at set c lt is e m so_far =
    let rest = trees_of (drop (i + 1) parts) in
    ap (λ (x : Moves). either x (moves_of_some rest here.1 set c)) m ∙ ap (λ (h : Moves × ℕ). either (either so h.0) (moves_of_some rest h.1 set c)) e
    ∙ either_either so (moves (tree b) at set c) (moves_of_some rest (at + nodes (tree b)) set c) ∙ rw (part_at parts i b lt is) at so_far

-- After the last of some parts, the moves so far are all moves.
pub some_ends : (parts : List Body) (i : ℕ) (so total : Moves) (at set : ℕ) (c : Call) → length parts ≤ i
    → either so (moves_of_some (trees_of (drop i parts)) at set c) ≡ total → so ≡ total
some_ends parts i so total at set c le so_far = sym (either_nowhere so) ∙ rw (none_left parts i le) at so_far

-- Pairs of equal moves and equal places are equal.
pub pair_is : (a b : Moves) (m n : ℕ) → a ≡ b → m ≡ n → ◌≡◌ {A = Moves × ℕ} (a, m) (b, n)
pair_is a b m n e f = ap (λ (x : Moves). (x, m)) e ∙ ap (λ (y : ℕ). (b, y)) f
