use Rattle.std.proofs.Common.{◌∙◌, ap, arith, subst, sym}
use Rattle.pp_laws_summary.specs.Summary.{SummaryOp}
use Rattle.pp_core.specs.declared.call.Style.TheVariants.{Optimistic}
use Rattle.pp_kind.specs.Object.{rules_of}
use Rattle.std.proofs.lemmas.Option.{same_Some}
use Rattle.pp_snapshots.specs.ByPart.{IsListed, ops_in}
use Rattle.pp_snapshots.specs.Ops.{IsGrown}
use Rattle.pp_snapshots.specs.Past.{IsPast}
use Rattle.pp_snapshots.specs.Shown.{done_ops, shown}
use Rattle.pp_snapshots.proofs.Apart.{has_allowed}
use Rattle.pp_snapshots.proofs.Moving.{asked_here, fine_of, own_asked, own_within, some_past, stays_same, stays_with}
use Rattle.pp_snapshots.proofs.OnOp.{from_good, grown_moves, not_open, to_good}
use Rattle.pp_snapshots.proofs.Pasts.{shape_is}
use Rattle.pp_snapshots.proofs.op.do_op.Goals as goal

pub returns-in_default-clause-answers : goal.returns-in_default-clause-answers
returns-in_default-clause-answers g c =
    let o = g.S.Spec.object in
    let place = g.S.Placed.place_of in
    let v = c.args.parts.now in
    let keeps = c.requires.keeps in (
      (λ ks k. not_open o place g.S.Placed.SameAt g.met.S.Spec.lawful g.met.S.Placed.placed v keeps c.args.tx.now (SummaryOp (rules_of o v.shape) place Optimistic (shown ks v) c.args.id c.args.op.now) (sym c.in_default.ensures) k),
      stays_same o place g.S.Placed.SameAt g.met.S.Spec.lawful g.met.S.Placed.placed v keeps,
    )

pub may_op-requires-clause-some : goal.may_op-requires-clause-some
may_op-requires-clause-some g c = some_past g.S.Spec.object g.S.Placed.place_of g.S.Placed.SameAt g.met.S.Spec.lawful g.met.S.Placed.placed c.args.parts.now c.requires.keeps

pub may_op-requires-clause-same : goal.may_op-requires-clause-same
may_op-requires-clause-same g c =
    let o = g.S.Spec.object in
    let place = g.S.Placed.place_of in
    let v = c.args.parts.now in
    shape_is o place g.S.Placed.SameAt g.met.S.Spec.lawful g.met.S.Placed.placed v.shape v.past (done_ops o place v.committed) c.requires.keeps.past

pub may_op-requires-clause-taken : goal.may_op-requires-clause-taken
may_op-requires-clause-taken g c =
    (fine_of g.S.Spec.object g.S.Placed.place_of g.S.Placed.SameAt g.met.S.Spec.lawful g.met.S.Placed.placed c.args.parts.now c.requires.keeps c.args.tx.now c.in-Some.it.now (sym c.in-Some.ensures)).taken

pub may_op-requires-clause-own : goal.may_op-requires-clause-own
may_op-requires-clause-own g c =
    own_asked g.S.Spec.object g.S.Placed.place_of g.S.Placed.SameAt g.met.S.Spec.lawful g.met.S.Placed.placed c.args.parts.now c.requires.keeps c.args.tx.now c.in-Some.it.now (sym c.in-Some.ensures)

pub may_op-requires-clause-asked : goal.may_op-requires-clause-asked
may_op-requires-clause-asked g c =
    asked_here g.S.Spec.object g.S.Placed.place_of g.S.Placed.SameAt g.met.S.Spec.lawful g.met.S.Placed.placed c.args.parts.now c.requires.keeps c.args.op.now c.requires.asked

pub may_op-requires-clause-has : goal.may_op-requires-clause-has
may_op-requires-clause-has g c =
    has_allowed g.S.Spec.object g.S.Placed.place_of g.S.Placed.SameAt g.met.S.Spec.lawful g.met.S.Placed.placed c.args.parts.now c.requires.keeps c.args.tx.now c.in-Some.it.now (sym c.in-Some.ensures)

pub may_op-requires-clause-few : goal.may_op-requires-clause-few
may_op-requires-clause-few g c =
    let within = own_within g.S.Spec.object g.S.Placed.place_of g.S.Placed.SameAt g.met.S.Spec.lawful g.met.S.Placed.placed c.args.parts.now c.requires.keeps c.args.tx.now c.in-Some.it.now (sym c.in-Some.ensures) in
    let few = c.requires.keeps.few in
    omega (arith, within, few, c.requires.few)

pub returns-in_default-found-clause-answers : goal.returns-in_default-found-clause-answers
returns-in_default-found-clause-answers g c =
    let o = g.S.Spec.object in
    let place = g.S.Placed.place_of in
    let v = c.args.parts.now in
    let keeps = c.requires.keeps in
    let tells = rw c.in_default-found.is at c.in_ok-found.ensures.tells in
    let told = tells v.shape (done_ops o place v.committed) keeps.past in (
      (λ ks k. told.0 (from_good o place g.S.Placed.SameAt g.met.S.Spec.lawful g.met.S.Placed.placed v keeps c.args.tx.now c.in-Some.it.now (sym c.in-Some.ensures) c.args.id c.args.op.now ks k)),
      stays_with o place g.S.Placed.SameAt g.met.S.Spec.lawful g.met.S.Placed.placed v keeps c.may_op.new.past c.may_op.new.by_part told.1 c.in_ok-found.ensures.size,
    )

pub add_op-requires : goal.add_op-requires
add_op-requires g c =
    let o = g.S.Spec.object in
    let place = g.S.Placed.place_of in
    let v = c.args.parts.now in
    let keeps = c.requires.keeps in
    let tells = rw c.in-Some-found.is at c.in_ok-found.ensures.tells in
    let told = tells v.shape (done_ops o place v.committed) keeps.past in
    let good = told.0.0 in
    let fine = fine_of o place g.S.Placed.SameAt g.met.S.Spec.lawful g.met.S.Placed.placed v keeps c.args.tx.now c.in-Some.it.now (sym c.in-Some.ensures) in
    record {
      it = c.in-Some.it.now;
      found = sym c.in-Some.ensures;
      may = (_, fine.taken, good.begins);
      new = good.new;
      few = omega (arith, c.requires.few);
    }

pub returns-clause-answers : goal.returns-clause-answers
returns-clause-answers g c =
    let o = g.S.Spec.object in
    let place = g.S.Placed.place_of in
    let v = c.args.parts.now in
    let keeps = c.requires.keeps in
    let t = c.args.tx.now in
    let x = c.in-Some.it.now in
    let found = sym c.in-Some.ensures in
    let tells = rw c.in-Some-found.is at c.in_ok-found.ensures.tells in
    let told = tells v.shape (done_ops o place v.committed) keeps.past in
    let good = to_good o place g.S.Placed.SameAt g.met.S.Spec.lawful g.met.S.Placed.placed v keeps t x found c.args.id c.args.op.now told.0.0 in
    let added = c.in_ok-add_op.ensures in
    let same = same_Some added.it x (sym added.found ∙ found) in
    let grows = subst (λ z. IsGrown o place z c.in-Some-found.seen (record { id = c.args.id; op = c.args.op.now }) added.grown) same added.grows in (
      good,
      grown_moves o place g.S.Placed.SameAt g.met.S.Spec.lawful g.met.S.Placed.placed v keeps t x found c.args.id c.args.op.now c.in-Some-found.seen added.grown told.0.1 grows c.add_op.new.parts good c.requires.asked
          added.slots added.ids added.shape added.threads
          (subst (λ z. IsPast o place v.shape z (done_ops o place v.committed)) (sym added.past) told.1) (ap (λ z. z.size) added.past ∙ c.in_ok-found.ensures.size) added.committed added.count,
    )

pub returns-clause-listed : goal.returns-clause-listed
returns-clause-listed g c =
    subst (λ b. IsListed g.S.Placed.place_of g.S.Parted.part_of b (ops_in c.args.parts.now.past)) (sym c.in_ok-add_op.ensures.by_part) c.in_ok-found.ensures.listed
