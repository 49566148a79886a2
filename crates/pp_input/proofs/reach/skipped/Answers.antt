use Rattle.std.proofs.Common.{◌≤◌, ◌<◌, ◌+◌, length, drop, refl, ap, ◌∙◌, arith, rules}
use Rattle.std.proofs.lemmas.List.{take_rest, drop-drop, length-drop}
use Rattle.pp_input.specs.declared.reach.Reach.{Reach}
use Rattle.pp_input.proofs.Skips.{line_more}
use Rattle.pp_input.proofs.reach.skipped.Goals as goal

pub lines-preserved : goal.lines-preserved
lines-preserved c =
    let k = c.in-Some.len in
    let at = c.lines.at in
    let left = c.lines.left.now in
    let inv = c.lines.invariant in
    let first = c.in-Some.ensures.0 in
    let to : Reach = record { limits = at.limits; bytes = at.bytes + k + 1; lines = at.lines + 1; column = 0 } in
    let room : (at.bytes + k < at.limits.bytes) × (at.lines < at.limits.lines) × (at.column + k ≤ at.limits.line_bytes) = search rules in
    record {
      left = take_rest left (k + 1) ∙ ap (drop (k + 1)) inv.left ∙ drop-drop (k + 1) c.lines.done c.args.piece.now;
      within = omega (arith, first.high, ap length inv.left, length-drop c.lines.done c.args.piece.now);
      skipped = line_more c.args.from at to c.args.piece.now left c.lines.done k inv.skipped inv.left first.high c.in-Some.ensures.1 first.before room.0 room.1 room.2 refl refl refl refl;
      reached = (omega (arith, room.1), λ some. absurd (omega arith), inv.reached.2);
    }
