use Rattle.std.proofs.Common.{◌≡◌, ◌≤◌, List, length, take, arith, rules, subst, sym, ap, ◌∙◌}
use Rattle.std.proofs.lemmas.List.{length_push, take-append-le}
use Rattle.pp_attempts.specs.Trying.{AppliedOp, Stands}
use Rattle.pp_attempts.proofs.Trails.{last_taken_back}
use Rattle.pp_attempts.proofs.trial.take_back_to.Goals as goal

pub undo-requires : goal.undo-requires
undo-requires g c =
    let s = c.requires in
    let so = c.loop-done.invariant.stands s.0 s.1 s.2 in
    (last_taken_back g.S.Spec.object g.met.S.Spec.lawful s.0 c.loop-done.state c.loop-done.done.items c.pop.new.self.items _ c.in-Some.ensures.items so.0 so.1).0

pub loop-done-preserved : goal.loop-done-preserved
loop-done-preserved g c =
    let less = c.pop.new.self.items in
    let popped = c.in-Some.ensures.items in
    let shorter = ap (λ (w : List (AppliedOp _ _)). length w) popped ∙ length_push less _ in
    let len : c.len.result ≡ length c.loop-done.done.items = search rules in
    let test = c.loop-done-test.true in
    let within : c.args.len ≤ length less = omega (arith, shorter, len, test) in
    let cost = c.loop-done.invariant.cost in
    let more = c.in_ok-undo.ensures.cost in
    let rises = c.loop-done.invariant.rises in
    record {
      stands = λ s may first.
          let so = c.loop-done.invariant.stands s may first in
          let back = last_taken_back g.S.Spec.object g.met.S.Spec.lawful s c.loop-done.state c.loop-done.done.items less _ popped so.0 so.1 in
          (back.1, subst (λ t. Stands g.S.Spec.object s less t) (sym c.in_ok-undo.ensures.ok) back.2);
      first = sym (take-append-le c.args.len less _ within) ∙ ap (λ (w : List (AppliedOp _ _)). take c.args.len w) (sym popped) ∙ c.loop-done.invariant.first;
      cost = omega (arith, cost, more, shorter);
      rises = omega (arith, rises, more);
    }
