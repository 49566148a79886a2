use Rattle.std.proofs.Common.{◌↔◌, ◌++◌, Bool, subst}
use Rattle.std.specs.Prelude.{IsTrue}
use Rattle.pp_model.specs.Object.{ops}
use Rattle.pp_kind.specs.Object.{AllowedFrom}
use Rattle.pp_opacity.specs.Trials.{IsDecidedNext}
use Rattle.pp_opacity.proofs.Trials.{applied_whole, decided_after}
use Rattle.pp_opacity.proofs.trial.is_allowed_next.Goals as goal

pub take_back-requires : goal.take_back-requires
take_back-requires g c =
    let r = c.requires in
    (r.0, r.1, r.2, applied_whole g.S.Spec.object r.0 c.apply_if_allowed.new.state r.1 (ops c.args.items.now) c.in_ok-all.all c.apply_if_allowed.new.undos.items (c.in_ok-all.ensures.applied r.0 r.1 r.2 r.3) c.if-not-all.false)

pub returns-clause-decided : goal.returns-clause-decided
returns-clause-decided g c = λ s x may first.
    let h = c.in_ok-all.ensures.applied s x may first in
    let whole = applied_whole g.S.Spec.object s c.apply_if_allowed.new.state x (ops c.args.items.now) c.in_ok-all.all c.apply_if_allowed.new.undos.items h c.if-not-all.false in
    record { trail = c.in_ok-take_back.ensures.back s x may whole; decides = subst (λ (b : Bool). IsTrue b ↔ AllowedFrom g.S.Spec.object s (x ++ ops c.args.items.now)) c.if-not-all.false h.decides }

pub returns-then-not-all-clause-decided : goal.returns-then-not-all-clause-decided
returns-then-not-all-clause-decided g c = λ s x may first.
    subst (λ (b : Bool). IsDecidedNext g.S.Spec.object s x (ops c.args.items.now) b c.apply_if_allowed.new.undos.items c.apply_if_allowed.new.state) c.if-not-all.true
    (decided_after g.S.Spec.object s c.apply_if_allowed.new.state x (ops c.args.items.now) c.in_ok-all.all c.apply_if_allowed.new.undos.items (c.in_ok-all.ensures.applied s x may first) c.if-not-all.true)
