use Rattle.std.proofs.Common.{◌≡◌, List, Option, length, take, subst, sym, ap, ◌∙◌, arith}
use Rattle.std.proofs.lemmas.List.{take_all}
use Rattle.pp_model.specs.Names.{Name}
use Rattle.pp_model.specs.Object.{Item}
use Rattle.pp_opacity.specs.Attempts.{own_in}
use Rattle.pp_opacity.specs.Replays.{applied_in}
use Rattle.pp_opacity.specs.Trials.{IsWith}
use Rattle.pp_opacity.proofs.Serials.{with_none}
use Rattle.pp_opacity.proofs.replay.keep_own.Goals as goal

pub returns-then-is_own-clause-at : goal.returns-then-is_own-clause-at
returns-then-is_own-clause-at g c = λ shape D m.
    let kept = c.args.attempts.now.entries in
    let own = own_in c.args.tx.now kept in
    let is = c.is_own.ensures c.if-is_own.true in
    let size : length c.own.result.now ≡ length own = ap (λ (w : List (Item _)). length w) c.own.ensures in
    let all = take_all (length c.own.result.now) own (omega (arith, size)) in
    subst (λ (w : List (Item _)). IsWith g.S.Spec.object shape D w c.args.serial.now) (sym all)
    (subst (λ (a : Option Name). IsWith g.S.Spec.object shape D (applied_in a kept) c.args.serial.now) is m.applied)

pub returns-clause-at : goal.returns-clause-at
returns-clause-at g c = λ shape D m.
    with_none g.S.Spec.object shape D c.settle.new.serial (c.in_ok-settle.ensures.at shape D m)
