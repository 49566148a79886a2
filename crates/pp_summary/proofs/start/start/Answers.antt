use Rattle.std.proofs.Common.{◌∙◌, IfNone, IfSome, refl, subst, sym}
use Rattle.pp_model.specs.Object.{HasDistinctIds, ops}
use Rattle.pp_kind.specs.Object.{IsAllowed}
use Rattle.pp_summary.specs.Starting.{MakesLog}
use Rattle.pp_summary.proofs.start.start.Goals as goal

pub returns-in_default-clause-answers : goal.returns-in_default-clause-answers
returns-in_default-clause-answers g c =
    let bad = subst (λ r. IfNone r (HasDistinctIds c.as_slice.result.now → ⊥)) c.in_default.is c.in_ok-ids.ensures.none in
    ((λ k. bad (subst HasDistinctIds (sym c.as_slice.ensures) k.0)), refl)

pub make_log-requires-clause-distinct : goal.make_log-requires-clause-distinct
make_log-requires-clause-distinct g c =
    let distinct = subst (λ r. IfSome r (λ ids. HasDistinctIds c.as_slice.result.now)) c.in-Some.is c.in_ok-ids.ensures.some in
    subst HasDistinctIds (c.as_slice.ensures ∙ sym c.as_slice-2.ensures) distinct

pub put_start-requires-clause-meets : goal.put_start-requires-clause-meets
put_start-requires-clause-meets g c =
    let distinct = subst (λ r. IfSome r (λ ids. HasDistinctIds c.as_slice.result.now)) c.in-Some.is c.in_ok-ids.ensures.some in
    let makes = subst (λ r. MakesLog g.S.Spec.object c.args.parts.now.shape c.args.tx.now c.as_slice-2.result.now r) c.in-Some-log.is c.in_ok-log.ensures.log in
    (subst HasDistinctIds c.as_slice.ensures distinct, (subst (λ l. IsAllowed g.S.Spec.object c.args.parts.now.shape (ops l)) c.as_slice-2.ensures makes.0, refl))

pub returns-clause-answers : goal.returns-clause-answers
returns-clause-answers g c =
    let distinct = subst (λ r. IfSome r (λ ids. HasDistinctIds c.as_slice.result.now)) c.in-Some.is c.in_ok-ids.ensures.some in
    let makes = subst (λ r. MakesLog g.S.Spec.object c.args.parts.now.shape c.args.tx.now c.as_slice-2.result.now r) c.in-Some-log.is c.in_ok-log.ensures.log in (
      (subst HasDistinctIds c.as_slice.ensures distinct, (subst (λ l. IsAllowed g.S.Spec.object c.args.parts.now.shape (ops l)) c.as_slice-2.ensures makes.0, refl)),
      c.in_ok-put_start.ensures,
    )

pub returns-clause-repeated : goal.returns-clause-repeated
returns-clause-repeated g c = λ twice.
    let distinct = subst (λ r. IfSome r (λ ids. HasDistinctIds c.as_slice.result.now)) c.in-Some.is c.in_ok-ids.ensures.some in
    absurd (twice (subst HasDistinctIds c.as_slice.ensures distinct))

pub returns-in_err-log-clause-repeated : goal.returns-in_err-log-clause-repeated
returns-in_err-log-clause-repeated g c = λ twice.
    let distinct = subst (λ r. IfSome r (λ ids. HasDistinctIds c.as_slice.result.now)) c.in-Some.is c.in_ok-ids.ensures.some in
    absurd (twice (subst HasDistinctIds c.as_slice.ensures distinct))

pub returns-in_default-log-clause-repeated : goal.returns-in_default-log-clause-repeated
returns-in_default-log-clause-repeated g c = λ twice.
    let distinct = subst (λ r. IfSome r (λ ids. HasDistinctIds c.as_slice.result.now)) c.in-Some.is c.in_ok-ids.ensures.some in
    absurd (twice (subst HasDistinctIds c.as_slice.ensures distinct))

pub returns-in_err-put_start-clause-repeated : goal.returns-in_err-put_start-clause-repeated
returns-in_err-put_start-clause-repeated g c = λ twice.
    let distinct = subst (λ r. IfSome r (λ ids. HasDistinctIds c.as_slice.result.now)) c.in-Some.is c.in_ok-ids.ensures.some in
    absurd (twice (subst HasDistinctIds c.as_slice.ensures distinct))
