use Rattle.std.proofs.Common.{◌≡◌, None, Some, ap, arith, length, subst, sym}
use Rattle.pp_violations.proofs.Searching.{own_shape}
use Rattle.pp_model.specs.Sound.{serial_ops}
use Rattle.pp_snapshots.proofs.StepCounts.{serial_ranged}
use Rattle.pp_snapshots.proofs.Takens.{serial_allowed}
use Rattle.pp_violations.specs.Searches.{AreItemsAsked}
use Rattle.pp_conflicts.specs.Searches.{SearchesPushes}
use Rattle.pp_conflicts.proofs.Closing.{commit_absent, commit_broken, commit_fine, commit_push, serial_begins, serial_room}
use Rattle.pp_conflicts.proofs.Seen.{own_items}
use Rattle.pp_conflicts.proofs.commit.search_commit.Goals as goal

pub returns-in_default-clause-searches : goal.returns-in_default-clause-searches
returns-in_default-clause-searches g c = commit_absent g.S.Spec.object g.S.Placed.place_of g.S.Placed.SameAt g.met.S.Spec.lawful g.met.S.Placed.placed c.args.parts.now c.requires.keeps c.args.tx.now (sym c.in_default.ensures) c.alone.result c.alone.ensures

pub serial_state-requires-clause-allowed : goal.serial_state-requires-clause-allowed
serial_state-requires-clause-allowed g c = serial_allowed g.S.Spec.object g.S.Placed.place_of g.S.Placed.SameAt g.met.S.Spec.lawful g.met.S.Placed.placed c.args.parts.now c.requires.keeps

pub serial_state-requires-clause-ranged : goal.serial_state-requires-clause-ranged
serial_state-requires-clause-ranged g c = serial_ranged g.S.Spec.object g.S.Placed.place_of g.S.Placed.SameAt g.met.S.Spec.lawful g.met.S.Placed.placed c.args.parts.now c.requires.keeps

pub serial_state-requires-clause-few : goal.serial_state-requires-clause-few
serial_state-requires-clause-few g c =
    let room = serial_room g.S.Spec.object g.S.Placed.place_of g.S.Placed.SameAt g.met.S.Spec.lawful g.met.S.Placed.placed c.args.parts.now c.requires.keeps c.args.tx.now c.in-Some.it.now (sym c.in-Some.ensures) in
    omega (arith, room, c.requires.few)

pub search_pushes-requires-clause-own : goal.search_pushes-requires-clause-own
search_pushes-requires-clause-own g c =
    let at = serial_begins g.S.Spec.object g.S.Placed.place_of g.S.Placed.SameAt g.met.S.Spec.lawful g.met.S.Placed.placed c.args.parts.now c.requires.keeps c.args.tx.now c.in_ok-state.state c.in_ok-state.ensures.state in
    subst (λ l. AreItemsAsked g.S.Spec.object (g.S.Spec.object.shape c.in_ok-state.state) l) (sym c.as_slice-own.ensures)
    (subst (λ z. AreItemsAsked g.S.Spec.object z c.in-Some.it.now.own) (sym at.shape_is) (own_items g.S.Spec.object g.S.Placed.place_of g.S.Placed.SameAt g.met.S.Spec.lawful g.met.S.Placed.placed c.args.parts.now c.requires.keeps c.args.tx.now c.in-Some.it.now (sym c.in-Some.ensures)))

pub search_pushes-requires-clause-state : goal.search_pushes-requires-clause-state
search_pushes-requires-clause-state g c =
    let at = serial_begins g.S.Spec.object g.S.Placed.place_of g.S.Placed.SameAt g.met.S.Spec.lawful g.met.S.Placed.placed c.args.parts.now c.requires.keeps c.args.tx.now c.in_ok-state.state c.in_ok-state.ensures.state in
    let room = serial_room g.S.Spec.object g.S.Placed.place_of g.S.Placed.SameAt g.met.S.Spec.lawful g.met.S.Placed.placed c.args.parts.now c.requires.keeps c.args.tx.now c.in-Some.it.now (sym c.in-Some.ensures) in
    let own = ap (λ l. length l) c.as_slice-own.ensures in
    (serial_ops c.args.parts.now.committed, own_shape g.S.Spec.object g.S.Placed.place_of c.args.parts.now.shape c.in_ok-state.state (serial_ops c.args.parts.now.committed) at, omega (arith, room, own, c.requires.few))

pub returns-in-Some-2-clause-searches : goal.returns-in-Some-2-clause-searches
returns-in-Some-2-clause-searches g c =
    let at = serial_begins g.S.Spec.object g.S.Placed.place_of g.S.Placed.SameAt g.met.S.Spec.lawful g.met.S.Placed.placed c.args.parts.now c.requires.keeps c.args.tx.now c.in_ok-state.state c.in_ok-state.ensures.state in
    let own = own_shape g.S.Spec.object g.S.Placed.place_of c.args.parts.now.shape c.in_ok-state.state (serial_ops c.args.parts.now.committed) at in
    let j = rw c.in-Some-2.is at c.in_ok-violation.ensures.searches in
    let r = c.in-Some-2.violation in
    commit_push g.S.Spec.object g.S.Placed.place_of g.S.Placed.SameAt g.met.S.Spec.lawful g.met.S.Placed.placed c.args.parts.now c.requires.keeps c.args.tx.now c.in-Some.it.now (sym c.in-Some.ensures) r
    (subst (λ l. SearchesPushes g.S.Spec.object c.args.parts.now.shape (serial_ops c.args.parts.now.committed) l (Some r)) c.as_slice-own.ensures
    (subst (λ z. SearchesPushes g.S.Spec.object z (serial_ops c.args.parts.now.committed) c.as_slice-own.result.now (Some r)) at.shape_is (j (serial_ops c.args.parts.now.committed) own)))

pub returns-then-not-complete-clause-searches : goal.returns-then-not-complete-clause-searches
returns-then-not-complete-clause-searches g c =
    let at = serial_begins g.S.Spec.object g.S.Placed.place_of g.S.Placed.SameAt g.met.S.Spec.lawful g.met.S.Placed.placed c.args.parts.now c.requires.keeps c.args.tx.now c.in_ok-state.state c.in_ok-state.ensures.state in
    let own = own_shape g.S.Spec.object g.S.Placed.place_of c.args.parts.now.shape c.in_ok-state.state (serial_ops c.args.parts.now.committed) at in
    let j = rw c.in_default-2.is at c.in_ok-violation.ensures.searches in
    let n : length c.as_slice-own.result.now ≡ length c.in-Some.it.now.own = ap (λ l. length l) c.as_slice-own.ensures in
    commit_broken g.S.Spec.object g.S.Placed.place_of g.S.Placed.SameAt g.met.S.Spec.lawful g.met.S.Placed.placed c.args.parts.now c.requires.keeps c.args.tx.now c.in-Some.it.now (sym c.in-Some.ensures)
    (subst (λ l. SearchesPushes g.S.Spec.object c.args.parts.now.shape (serial_ops c.args.parts.now.committed) l None) c.as_slice-own.ensures
    (subst (λ z. SearchesPushes g.S.Spec.object z (serial_ops c.args.parts.now.committed) c.as_slice-own.result.now None) at.shape_is (j (serial_ops c.args.parts.now.committed) own)))
    c.complete.result c.complete.ensures c.if-not-complete.true c.bare.result c.bare.ensures (length c.as_slice-own.result.now) n c.at_step.result c.at_step.ensures

pub returns-clause-searches : goal.returns-clause-searches
returns-clause-searches g c =
    let at = serial_begins g.S.Spec.object g.S.Placed.place_of g.S.Placed.SameAt g.met.S.Spec.lawful g.met.S.Placed.placed c.args.parts.now c.requires.keeps c.args.tx.now c.in_ok-state.state c.in_ok-state.ensures.state in
    let own = own_shape g.S.Spec.object g.S.Placed.place_of c.args.parts.now.shape c.in_ok-state.state (serial_ops c.args.parts.now.committed) at in
    let j = rw c.in_default-2.is at c.in_ok-violation.ensures.searches in
    commit_fine g.S.Spec.object g.S.Placed.place_of g.S.Placed.SameAt g.met.S.Spec.lawful g.met.S.Placed.placed c.args.parts.now c.requires.keeps c.args.tx.now c.in-Some.it.now (sym c.in-Some.ensures)
    (subst (λ l. SearchesPushes g.S.Spec.object c.args.parts.now.shape (serial_ops c.args.parts.now.committed) l None) c.as_slice-own.ensures
    (subst (λ z. SearchesPushes g.S.Spec.object z (serial_ops c.args.parts.now.committed) c.as_slice-own.result.now None) at.shape_is (j (serial_ops c.args.parts.now.committed) own)))
    c.complete.result c.complete.ensures c.if-not-complete.false

pub returns-in_err-state-clause-bound : goal.returns-in_err-state-clause-bound
returns-in_err-state-clause-bound g c =
    let room = serial_room g.S.Spec.object g.S.Placed.place_of g.S.Placed.SameAt g.met.S.Spec.lawful g.met.S.Placed.placed c.args.parts.now c.requires.keeps c.args.tx.now c.in-Some.it.now (sym c.in-Some.ensures) in
    omega (arith, room, c.serial_state.ensures.bound)

pub returns-in_err-violation-clause-bound : goal.returns-in_err-violation-clause-bound
returns-in_err-violation-clause-bound g c =
    let room = serial_room g.S.Spec.object g.S.Placed.place_of g.S.Placed.SameAt g.met.S.Spec.lawful g.met.S.Placed.placed c.args.parts.now c.requires.keeps c.args.tx.now c.in-Some.it.now (sym c.in-Some.ensures) in
    let own = ap (λ l. length l) c.as_slice-own.ensures in
    omega (arith, room, own, c.serial_state.ensures.bound, c.search_pushes.ensures.bound)

pub returns-in-Some-2-clause-bound : goal.returns-in-Some-2-clause-bound
returns-in-Some-2-clause-bound g c =
    let room = serial_room g.S.Spec.object g.S.Placed.place_of g.S.Placed.SameAt g.met.S.Spec.lawful g.met.S.Placed.placed c.args.parts.now c.requires.keeps c.args.tx.now c.in-Some.it.now (sym c.in-Some.ensures) in
    let own = ap (λ l. length l) c.as_slice-own.ensures in
    omega (arith, room, own, c.serial_state.ensures.bound, c.search_pushes.ensures.bound)

pub returns-then-not-complete-clause-bound : goal.returns-then-not-complete-clause-bound
returns-then-not-complete-clause-bound g c =
    let room = serial_room g.S.Spec.object g.S.Placed.place_of g.S.Placed.SameAt g.met.S.Spec.lawful g.met.S.Placed.placed c.args.parts.now c.requires.keeps c.args.tx.now c.in-Some.it.now (sym c.in-Some.ensures) in
    let own = ap (λ l. length l) c.as_slice-own.ensures in
    omega (arith, room, own, c.serial_state.ensures.bound, c.search_pushes.ensures.bound)

pub returns-clause-bound : goal.returns-clause-bound
returns-clause-bound g c =
    let room = serial_room g.S.Spec.object g.S.Placed.place_of g.S.Placed.SameAt g.met.S.Spec.lawful g.met.S.Placed.placed c.args.parts.now c.requires.keeps c.args.tx.now c.in-Some.it.now (sym c.in-Some.ensures) in
    let own = ap (λ l. length l) c.as_slice-own.ensures in
    omega (arith, room, own, c.serial_state.ensures.bound, c.search_pushes.ensures.bound)
