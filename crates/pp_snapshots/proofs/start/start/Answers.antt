use Rattle.std.proofs.Common.{◌∙◌, IfNone, IfSome, Some, ap, arith, length, refl, subst, sym}
use Rattle.std.proofs.lemmas.List.{length-map}
use Rattle.pp_kind.specs.Object.{rules_of}
use Rattle.pp_model.specs.Config.{start_with}
use Rattle.pp_model.specs.Object.{HasDistinctIds, ops}
use Rattle.pp_model.specs.Rules.{StartMeets}
use Rattle.pp_snapshots.specs.Many.{AreAsked, MayFollow}
use Rattle.pp_snapshots.specs.Past.{IsPast, with_ops}
use Rattle.pp_snapshots.specs.Shown.{done_ops}
use Rattle.pp_snapshots.proofs.Moving.{some_past, stays_with}
use Rattle.pp_snapshots.proofs.Starting.{no_past, not_begun, start_asked, start_may, started}
use Rattle.pp_snapshots.proofs.start.start.Goals as goal

pub returns-in_default-clause-answers : goal.returns-in_default-clause-answers
returns-in_default-clause-answers g c =
    let bad = subst (λ r. IfNone r (HasDistinctIds c.as_slice.result.now → ⊥)) c.in_default.is c.in_ok-ids.ensures.none in
    ((λ k. bad (subst HasDistinctIds (sym c.as_slice.ensures) k.0)), record { taken = refl; keeps = c.requires.keeps })

pub apply_all-requires-clause-some : goal.apply_all-requires-clause-some
apply_all-requires-clause-some g c = some_past g.S.Spec.object g.S.Placed.place_of g.S.Placed.SameAt g.met.S.Spec.lawful g.met.S.Placed.placed c.args.parts.now c.requires.keeps

pub apply_all-requires-clause-asked : goal.apply_all-requires-clause-asked
apply_all-requires-clause-asked g c =
    let all = c.deref.ensures.value ∙ c.in_ok-ops.ensures ∙ ap (λ l. ops l) c.as_slice-2.ensures in
    subst (AreAsked g.S.Spec.object c.args.parts.now.past) (sym all) (start_asked g.S.Spec.object g.S.Placed.place_of g.S.Placed.SameAt g.met.S.Spec.lawful g.met.S.Placed.placed c.args.parts.now c.requires.keeps c.requires.new c.args.tx.now c.args.items.now c.requires.asked)

pub apply_all-requires-clause-few : goal.apply_all-requires-clause-few
apply_all-requires-clause-few g c =
    let all = c.deref.ensures.value ∙ c.in_ok-ops.ensures ∙ ap (λ l. ops l) c.as_slice-2.ensures in
    let len = ap (λ l. length l) all ∙ length-map c.args.items.now (λ p. p.op) in
    let none = ap (λ s. s.count) c.requires.new in
    let kept = c.requires.keeps.few in
    let few = c.requires.few in
    omega (arith, len, none, kept, few)

pub returns-then-not-branch-clause-answers : goal.returns-then-not-branch-clause-answers
returns-then-not-branch-clause-answers g c =
    let o = g.S.Spec.object in
    let place = g.S.Placed.place_of in
    let v = c.args.parts.now in
    let h = done_ops o place v.committed in
    let all = c.deref.ensures.value ∙ c.in_ok-ops.ensures ∙ ap (λ l. ops l) c.as_slice-2.ensures in
    let refused = rw c.if-not-branch.true at c.in_ok-apply_all.ensures.follow in
    let told = refused v.shape h c.requires.keeps.past in
    let size = rw c.if-not-branch.true at c.in_ok-apply_all.ensures.size in (
      (λ k. told.0 (subst (MayFollow o place v.shape h) (sym all) ((start_may g.S.Spec.object g.S.Placed.place_of g.S.Placed.SameAt g.met.S.Spec.lawful g.met.S.Placed.placed v c.requires.keeps c.requires.new c.args.tx.now c.args.items.now).1 k.1.0))),
      record {
        taken = refl;
        keeps = (stays_with g.S.Spec.object g.S.Placed.place_of g.S.Placed.SameAt g.met.S.Spec.lawful g.met.S.Placed.placed v c.requires.keeps c.apply_all.new.past v.by_part told.1 (omega (arith, size))).keeps;
      },
    )

pub put_start-requires-clause-new : goal.put_start-requires-clause-new
put_start-requires-clause-new g c = not_begun g.S.Spec.object g.S.Placed.place_of g.S.Placed.SameAt g.met.S.Spec.lawful g.met.S.Placed.placed c.args.parts.now c.requires.keeps c.requires.new c.args.tx.now

pub returns-clause-answers : goal.returns-clause-answers
returns-clause-answers g c =
    let o = g.S.Spec.object in
    let place = g.S.Placed.place_of in
    let v = c.args.parts.now in
    let h = done_ops o place v.committed in
    let t = c.args.tx.now in
    let items = c.args.items.now in
    let distinct = subst (λ r. IfSome r (λ ids. HasDistinctIds c.as_slice.result.now)) c.in-Some.is c.in_ok-ids.ensures.some in
    let all = c.deref.ensures.value ∙ c.in_ok-ops.ensures ∙ ap (λ l. ops l) c.as_slice-2.ensures in
    let followed = rw c.if-not-branch.false at c.in_ok-apply_all.ensures.follow in
    let told = followed v.shape h c.requires.keeps.past in
    let size = rw c.if-not-branch.false at c.in_ok-apply_all.ensures.size in
    let may = subst (MayFollow o place v.shape h) all told.0 in
    let meets : StartMeets (rules_of o v.shape) (Some (start_with t items)) = (subst HasDistinctIds c.as_slice.ensures distinct, ((start_may g.S.Spec.object g.S.Placed.place_of g.S.Placed.SameAt g.met.S.Spec.lawful g.met.S.Placed.placed v c.requires.keeps c.requires.new t items).0 may, refl)) in
    let len = ap (λ l. length l) all ∙ length-map items (λ p. p.op) in
    let past = no_past g.S.Spec.object g.S.Placed.place_of g.S.Placed.SameAt g.met.S.Spec.lawful g.met.S.Placed.placed v c.requires.keeps c.requires.new in
    let few = c.requires.few in (
      meets,
      started g.S.Spec.object g.S.Placed.place_of g.S.Placed.SameAt g.met.S.Spec.lawful g.met.S.Placed.placed v c.requires.keeps c.requires.new t items c.apply_all.new.past c.put_start.new.parts c.in_ok-put_start.ensures meets
          (subst (λ l. IsPast o place v.shape c.apply_all.new.past (with_ops place h l)) all told.1)
          (omega (arith, size, len, past, few)),
    )

pub returns-clause-cost : goal.returns-clause-cost
returns-clause-cost g c = λ _.
    let all = c.deref.ensures.value ∙ c.in_ok-ops.ensures ∙ ap (λ l. ops l) c.as_slice-2.ensures in
    let len = ap (λ l. length l) all ∙ length-map c.args.items.now (λ p. p.op) in
    let good = rw c.if-not-branch.false at c.in_ok-apply_all.ensures.good in
    omega (arith, len, good)

pub returns-clause-repeated : goal.returns-clause-repeated
returns-clause-repeated g c = λ twice.
    let distinct = subst (λ r. IfSome r (λ ids. HasDistinctIds c.as_slice.result.now)) c.in-Some.is c.in_ok-ids.ensures.some in
    absurd (twice (subst HasDistinctIds c.as_slice.ensures distinct))

pub returns-then-not-branch-clause-repeated : goal.returns-then-not-branch-clause-repeated
returns-then-not-branch-clause-repeated g c = λ twice.
    let distinct = subst (λ r. IfSome r (λ ids. HasDistinctIds c.as_slice.result.now)) c.in-Some.is c.in_ok-ids.ensures.some in
    absurd (twice (subst HasDistinctIds c.as_slice.ensures distinct))

pub returns-in_err-apply_all-clause-repeated : goal.returns-in_err-apply_all-clause-repeated
returns-in_err-apply_all-clause-repeated g c = λ twice.
    let distinct = subst (λ r. IfSome r (λ ids. HasDistinctIds c.as_slice.result.now)) c.in-Some.is c.in_ok-ids.ensures.some in
    absurd (twice (subst HasDistinctIds c.as_slice.ensures distinct))

pub returns-in_err-put_start-clause-repeated : goal.returns-in_err-put_start-clause-repeated
returns-in_err-put_start-clause-repeated g c = λ twice.
    let distinct = subst (λ r. IfSome r (λ ids. HasDistinctIds c.as_slice.result.now)) c.in-Some.is c.in_ok-ids.ensures.some in
    absurd (twice (subst HasDistinctIds c.as_slice.ensures distinct))

pub returns-clause-bound : goal.returns-clause-bound
returns-clause-bound g c =
    let all = c.deref.ensures.value ∙ c.in_ok-ops.ensures ∙ ap (λ l. ops l) c.as_slice-2.ensures in
    let len = ap (λ l. length l) all ∙ length-map c.args.items.now (λ p. p.op) in
    let most = c.apply_all.ensures.bound in
    omega (arith, len, most)

pub returns-then-not-branch-clause-bound : goal.returns-then-not-branch-clause-bound
returns-then-not-branch-clause-bound g c =
    let all = c.deref.ensures.value ∙ c.in_ok-ops.ensures ∙ ap (λ l. ops l) c.as_slice-2.ensures in
    let len = ap (λ l. length l) all ∙ length-map c.args.items.now (λ p. p.op) in
    let most = c.apply_all.ensures.bound in
    omega (arith, len, most)

pub returns-in_err-apply_all-clause-bound : goal.returns-in_err-apply_all-clause-bound
returns-in_err-apply_all-clause-bound g c =
    let all = c.deref.ensures.value ∙ c.in_ok-ops.ensures ∙ ap (λ l. ops l) c.as_slice-2.ensures in
    let len = ap (λ l. length l) all ∙ length-map c.args.items.now (λ p. p.op) in
    let most = c.apply_all.ensures.bound in
    omega (arith, len, most)

pub returns-in_err-put_start-clause-bound : goal.returns-in_err-put_start-clause-bound
returns-in_err-put_start-clause-bound g c =
    let all = c.deref.ensures.value ∙ c.in_ok-ops.ensures ∙ ap (λ l. ops l) c.as_slice-2.ensures in
    let len = ap (λ l. length l) all ∙ length-map c.args.items.now (λ p. p.op) in
    let most = c.apply_all.ensures.bound in
    omega (arith, len, most)
