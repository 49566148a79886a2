use Rattle.std.proofs.Common.{◌≡◌, ◌+◌, ◌*◌, ◌≤◌, Bool, List, [], cond, length, true, false, subst, sym, ap, ◌∙◌, arith, inl, inr, refl}
use Rattle.std.specs.Prelude.{◌↔◌, IsTrue, None, Some}
use Rattle.pp_model.specs.Object.{Item}
use Rattle.pp_kind.specs.Object.{rules_of}
use Rattle.pp_attempts.specs.Views.{Explains}
use Rattle.pp_opacity.specs.Attempts.{Excluded, excluded_in, least_in, own_in}
use Rattle.pp_opacity.specs.Trials.{AreExcluded, IsWith, MayAsk}
use Rattle.pp_opacity.proofs.Costs.{asked_here}
use Rattle.pp_opacity.proofs.Serials.{alone, asked_same, with_none}
use Rattle.pp_opacity.proofs.Windows.{greatest_same, none_excluded}
use Rattle.pp_opacity.proofs.replay.ask.Goals as goal

pub returns-in_err-here-clause-bound : goal.returns-in_err-here-clause-bound
returns-in_err-here-clause-bound g c =
    let u = c.args.tx.now in
    let kept = c.args.replay.now.attempts.entries in
    let size : length c.own-items.result.now ≡ length (own_in u kept) = ap (λ (w : List (Item _)). length w) c.own-items.ensures in
    let bound = c.in_err-here.ensures.bound in
    asked_here c.args.committed.now u kept c.args.replay.now.serial.count c.args.ticks.now c.apply_here.new.ticks c.requires.low (omega (arith, size, bound))

pub returns-then-here-clause-bound : goal.returns-then-here-clause-bound
returns-then-here-clause-bound g c =
    let u = c.args.tx.now in
    let kept = c.args.replay.now.attempts.entries in
    let size : length c.own-items.result.now ≡ length (own_in u kept) = ap (λ (w : List (Item _)). length w) c.own-items.ensures in
    let bound = c.in_ok-here.ensures.bound in
    asked_here c.args.committed.now u kept c.args.replay.now.serial.count c.args.ticks.now c.apply_here.new.ticks c.requires.low (omega (arith, size, bound))

pub returns-then-here-clause-paid : goal.returns-then-here-clause-paid
returns-then-here-clause-paid g c =
    let u = c.args.tx.now in
    let kept = c.args.replay.now.attempts.entries in
    let size : length c.own-items.result.now ≡ length (own_in u kept) = ap (λ (w : List (Item _)). length w) c.own-items.ensures in
    let items = c.own-items.result.now in
    let paid = subst (λ (b : Bool). c.apply_here.new.ticks + length (cond b items []) ≤ c.args.ticks.now + 2 * length items) c.if-here.true c.in_ok-here.ensures.paid in
    asked_here c.args.committed.now u kept c.args.replay.now.serial.count c.args.ticks.now (c.apply_here.new.ticks + length (own_in u kept)) c.requires.low (omega (arith, size, paid))

pub returns-in_default-clause-decided : goal.returns-in_default-clause-decided
returns-in_default-clause-decided g c = λ shape m.
    let o = g.S.Spec.object in
    let D = c.args.committed.now in
    let u = c.args.tx.now in
    let kept = c.args.replay.now.attempts.entries in
    let n = c.args.replay.now.serial.count in
    let items = c.own-items.result.now in
    let extend = asked_same o shape D c.args.replay.now.serial items (own_in u kept) c.excluded_of-known.result (excluded_in u kept) c.args.first c.own-items.ensures c.excluded_of-known.ensures m in
    let serial = c.apply_here.new.serial in
    let at = alone o shape D serial (subst (λ (b : Bool). IsWith o shape D (cond b items []) serial) c.if-here.false (c.in_ok-here.ensures.applied shape D extend)) in
    let may : MayAsk o shape D items c.excluded_of-known.result serial = record { run = extend.run; at = at; may = extend.may; none = extend.none } in
    let unexplained : Explains (rules_of o shape) D items serial.count → ⊥ = λ e.
    let z : false ≡ true = sym c.if-here.false ∙ (c.in_ok-here.ensures.decided shape D extend).1 (subst (λ k. Explains (rules_of o shape) D items k) c.in_ok-here.ensures.count e) in cc in
    let greatest = greatest_same (rules_of o shape) D items (own_in u kept) c.least-low.result (least_in u kept) serial.count n c.in_ok-found.found _ c.own-items.ensures c.least-low.ensures c.in_ok-here.ensures.count c.in_default.is
    (c.in_ok-found.ensures.decided shape may unexplained) in
    ((λ k. absurd (let z : false ≡ true = k in cc)), (λ e. absurd (greatest e)))

pub returns-in_default-clause-at : goal.returns-in_default-clause-at
returns-in_default-clause-at g c = λ shape m.
    let o = g.S.Spec.object in
    let D = c.args.committed.now in
    let u = c.args.tx.now in
    let kept = c.args.replay.now.attempts.entries in
    let n = c.args.replay.now.serial.count in
    let items = c.own-items.result.now in
    let extend = asked_same o shape D c.args.replay.now.serial items (own_in u kept) c.excluded_of-known.result (excluded_in u kept) c.args.first c.own-items.ensures c.excluded_of-known.ensures m in
    let serial = c.apply_here.new.serial in
    let at = alone o shape D serial (subst (λ (b : Bool). IsWith o shape D (cond b items []) serial) c.if-here.false (c.in_ok-here.ensures.applied shape D extend)) in
    let may : MayAsk o shape D items c.excluded_of-known.result serial = record { run = extend.run; at = at; may = extend.may; none = extend.none } in
    with_none o shape D c.find_below.new.serial (c.in_ok-found.ensures.at shape may)

pub returns-clause-decided : goal.returns-clause-decided
returns-clause-decided g c = λ shape m.
    let o = g.S.Spec.object in
    let D = c.args.committed.now in
    let u = c.args.tx.now in
    let kept = c.args.replay.now.attempts.entries in
    let n = c.args.replay.now.serial.count in
    let items = c.own-items.result.now in
    let extend = asked_same o shape D c.args.replay.now.serial items (own_in u kept) c.excluded_of-known.result (excluded_in u kept) c.args.first c.own-items.ensures c.excluded_of-known.ensures m in
    let serial = c.apply_here.new.serial in
    let at = alone o shape D serial (subst (λ (b : Bool). IsWith o shape D (cond b items []) serial) c.if-here.false (c.in_ok-here.ensures.applied shape D extend)) in
    let may : MayAsk o shape D items c.excluded_of-known.result serial = record { run = extend.run; at = at; may = extend.may; none = extend.none } in
    let unexplained : Explains (rules_of o shape) D items serial.count → ⊥ = λ e.
    let z : false ≡ true = sym c.if-here.false ∙ (c.in_ok-here.ensures.decided shape D extend).1 (subst (λ k. Explains (rules_of o shape) D items k) c.in_ok-here.ensures.count e) in cc in
    let greatest = greatest_same (rules_of o shape) D items (own_in u kept) c.least-low.result (least_in u kept) serial.count n c.in_ok-found.found _ c.own-items.ensures c.least-low.ensures c.in_ok-here.ensures.count c.in-Some.is
    (c.in_ok-found.ensures.decided shape may unexplained) in
    ((λ k. (c.in-Some.count, greatest.0, greatest.1, greatest.2)), (λ e. refl))

pub returns-clause-at : goal.returns-clause-at
returns-clause-at g c = λ shape m.
    let o = g.S.Spec.object in
    let D = c.args.committed.now in
    let u = c.args.tx.now in
    let kept = c.args.replay.now.attempts.entries in
    let n = c.args.replay.now.serial.count in
    let items = c.own-items.result.now in
    let extend = asked_same o shape D c.args.replay.now.serial items (own_in u kept) c.excluded_of-known.result (excluded_in u kept) c.args.first c.own-items.ensures c.excluded_of-known.ensures m in
    let serial = c.apply_here.new.serial in
    let at = alone o shape D serial (subst (λ (b : Bool). IsWith o shape D (cond b items []) serial) c.if-here.false (c.in_ok-here.ensures.applied shape D extend)) in
    let may : MayAsk o shape D items c.excluded_of-known.result serial = record { run = extend.run; at = at; may = extend.may; none = extend.none } in
    with_none o shape D c.find_below.new.serial (c.in_ok-found.ensures.at shape may)

pub returns-clause-excluded : goal.returns-clause-excluded
returns-clause-excluded g c = λ shape m.
    let o = g.S.Spec.object in
    let D = c.args.committed.now in
    let u = c.args.tx.now in
    let kept = c.args.replay.now.attempts.entries in
    let n = c.args.replay.now.serial.count in
    let items = c.own-items.result.now in
    let extend = asked_same o shape D c.args.replay.now.serial items (own_in u kept) c.excluded_of-known.result (excluded_in u kept) c.args.first c.own-items.ensures c.excluded_of-known.ensures m in
    let serial = c.apply_here.new.serial in
    let at = alone o shape D serial (subst (λ (b : Bool). IsWith o shape D (cond b items []) serial) c.if-here.false (c.in_ok-here.ensures.applied shape D extend)) in
    let may : MayAsk o shape D items c.excluded_of-known.result serial = record { run = extend.run; at = at; may = extend.may; none = extend.none } in
    let unexplained : Explains (rules_of o shape) D items serial.count → ⊥ = λ e.
    let z : false ≡ true = sym c.if-here.false ∙ (c.in_ok-here.ensures.decided shape D extend).1 (subst (λ k. Explains (rules_of o shape) D items k) c.in_ok-here.ensures.count e) in cc in
    let greatest = greatest_same (rules_of o shape) D items (own_in u kept) c.least-low.result (least_in u kept) serial.count n c.in_ok-found.found _ c.own-items.ensures c.least-low.ensures c.in_ok-here.ensures.count c.in-Some.is
    (c.in_ok-found.ensures.decided shape may unexplained) in
    let excluded : Excluded = record { after = c.in-Some.count; up_to = n } in
    elim c.exclude.ensures.begun [
      | inl e ↦ subst (λ (x : Excluded). AreExcluded (rules_of o shape) D (own_in u kept) x) (sym e) greatest.3
      | inr e ↦ subst (λ (x : Excluded). AreExcluded (rules_of o shape) D (own_in u kept) x) (sym e) (none_excluded (rules_of o shape) D (own_in u kept))
    ]
