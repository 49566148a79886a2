use Rattle.std.proofs.Common.{◌≡◌, ◌<◌, ◌+◌, ◌-◌, ◌++◌, ℕ, List, length, take, arith, rules, ap, sym, subst, ◌∙◌, vec_len}
use Rattle.std.proofs.lemmas.List.{append-nil}
use Rattle.pp_model.specs.Object.{ops}
use Rattle.pp_model.proofs.Lengths.{length-ops}
use Rattle.pp_attempts.specs.Trying.{IsTrail}
use Rattle.pp_attempts.proofs.Fronts.{op_at}
use Rattle.pp_opacity.proofs.Trials.{back_at, none_left}
use Rattle.pp_opacity.proofs.trial.take_back.Goals as goal

pub unreachable-requires : goal.unreachable-requires
unreachable-requires g c =
    let l = c.args.items.now in
    let r = c.requires in
    let size = length-ops l in
    let n = c.loop-left.left in
    let within = c.loop-left.invariant.within in
    let some = c.loop-left-test.true in
    let len : vec_len c.loop-left.undos ≡ length c.loop-left.undos.items = search rules in
    let no = c.in_default.ensures.cases.0 in
    let none : length c.loop-left.undos.items ≡ 0 = omega (arith, len, no) in
    let zero = none_left g.S.Spec.object r.0 c.loop-left.state r.1 (ops l) n c.loop-left.undos.items (c.loop-left.invariant.trail r.0 r.1 r.2 r.3) none (omega (arith, size, within)) in
    omega (arith, zero, some)

pub undo-requires : goal.undo-requires
undo-requires g c =
    let l = c.args.items.now in
    let n = c.loop-left.left in
    let i = n - 1 in
    let p = c.index-items-left.result in
    let r = c.requires in
    let some = c.loop-left-test.true in
    let within = c.loop-left.invariant.within in
    let below : i < length l = omega (arith, within, some) in
    let there : i < length (ops l) = omega (arith, below, length-ops l) in
    let e : n ≡ i + 1 = omega (arith, some) in
    (back_at g.S.Spec.object g.met.S.Spec.lawful r.0 c.loop-left.state r.1 (ops l) n i p.op c.loop-left.undos.items c.pop.new.self.items c.in-Some.undo e there
    (op_at l i p below c.index-items-left.is) r.2 c.in-Some.ensures.items (c.loop-left.invariant.trail r.0 r.1 r.2 r.3)).0

pub loop-left-preserved : goal.loop-left-preserved
loop-left-preserved g c =
    let l = c.args.items.now in
    let n = c.loop-left.left in
    let i = n - 1 in
    let p = c.index-items-left.result in
    let some = c.loop-left-test.true in
    let within = c.loop-left.invariant.within in
    let below : i < length l = omega (arith, within, some) in
    let there : i < length (ops l) = omega (arith, below, length-ops l) in
    let e : n ≡ i + 1 = omega (arith, some) in
    let cost = c.loop-left.invariant.cost in
    let rises = c.loop-left.invariant.rises in
    let more = c.in_ok-undo.ensures.cost in
    record {
      trail = λ s x may first.
          let back = back_at g.S.Spec.object g.met.S.Spec.lawful s c.loop-left.state x (ops l) n i p.op c.loop-left.undos.items c.pop.new.self.items c.in-Some.undo e there
          (op_at l i p below c.index-items-left.is) may c.in-Some.ensures.items (c.loop-left.invariant.trail s x may first) in
          subst (λ t. IsTrail g.S.Spec.object s (x ++ take i (ops l)) c.pop.new.self.items t) (sym c.in_ok-undo.ensures.ok) back.1;
      within = omega (arith, within);
      rises = omega (arith, rises, more);
      cost = omega (arith, cost, more, some);
    }

pub returns-clause-back : goal.returns-clause-back
returns-clause-back g c = λ s x may first.
    let l = c.args.items.now in
    let none : c.loop-left.left ≡ 0 = omega (arith, c.loop-left-test.false) in
    subst (λ (w : List _). IsTrail g.S.Spec.object s w c.loop-left.undos.items c.loop-left.state)
    (ap (λ (n : ℕ). x ++ take n (ops l)) none ∙ append-nil x) (c.loop-left.invariant.trail s x may first)
