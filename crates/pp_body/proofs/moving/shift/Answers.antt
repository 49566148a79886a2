use Rattle.std.proofs.Common.{ℕ, ap, sym, ◌∙◌}
use Rattle.pp_core.specs.Trees.{tree}
use Rattle.pp_body.specs.declared.moving.Moves.{Moves}
use Rattle.pp_body.specs.Moves.{after}
use Rattle.pp_body.proofs.Moves.{shift_is}
use Rattle.pp_body.proofs.moving.shift.Goals as goal

pub returns : goal.returns
returns c =
    c.after.ensures ∙ ap (λ (p : Moves × ℕ). after c.args.entered p.0) c.moves_of.ensures ∙ sym (shift_is (tree c.args.body.now) 0 c.args.set c.args.entered c.args.call.now)
