use Rattle.std.proofs.Common.{◌≡◌, ◌+◌, ◌-◌, length, arith, rules, subst}
use Rattle.pp_model.specs.Object.{ops}
use Rattle.pp_opacity.specs.Trials.{IsTried}
use Rattle.pp_opacity.proofs.Trials.{applied_all, applied_none, tried_front}
use Rattle.pp_opacity.proofs.trial.apply_if_allowed.Goals as goal

pub returns-then-all-clause-applied : goal.returns-then-all-clause-applied
returns-then-all-clause-applied g c = λ s x may first.
    applied_all g.S.Spec.object s c.apply_list.new.state x (ops c.args.items.now) c.apply_list.new.undos.items
    (subst (λ b. IsTried g.S.Spec.object s x (ops c.args.items.now) b c.apply_list.new.undos.items c.apply_list.new.state) c.if-all.true (c.in_ok-all.ensures.tried s x may first))

pub take_back-requires : goal.take_back-requires
take_back-requires g c =
    let r = c.requires in
    let us = c.args.undos.now.items in
    let vs = c.apply_list.new.undos.items in
    let first : c.len-before.result ≡ length us = search rules in
    let second : c.len.result ≡ length vs = search rules in
    let long = c.in_ok-all.ensures.long in
    let e : (c.len.result - c.len-before.result) + length us ≡ length vs = omega (arith, first, second, long) in
    let h = tried_front g.S.Spec.object r.0 c.apply_list.new.state c.args.state.now r.1 c.args.items.now c.in_ok-all.all us vs (c.len.result - c.len-before.result) e r.2 r.3
    (c.in_ok-all.ensures.tried r.0 r.1 r.2 r.3) in
    (r.0, r.1, h.0, h.1)

pub returns-clause-applied : goal.returns-clause-applied
returns-clause-applied g c = λ s x may first.
    let us = c.args.undos.now.items in
    let vs = c.apply_list.new.undos.items in
    let one : c.len-before.result ≡ length us = search rules in
    let two : c.len.result ≡ length vs = search rules in
    let long = c.in_ok-all.ensures.long in
    let e : (c.len.result - c.len-before.result) + length us ≡ length vs = omega (arith, one, two, long) in
    let tried = c.in_ok-all.ensures.tried s x may first in
    let h = tried_front g.S.Spec.object s c.apply_list.new.state c.args.state.now x c.args.items.now c.in_ok-all.all us vs (c.len.result - c.len-before.result) e may first tried in
    applied_none g.S.Spec.object s c.apply_list.new.state c.take_back.new.state x (ops c.args.items.now) vs c.take_back.new.undos.items
    (subst (λ b. IsTried g.S.Spec.object s x (ops c.args.items.now) b vs c.apply_list.new.state) c.if-all.false tried)
    (c.in_ok-take_back.ensures.back s x h.0 h.1)
