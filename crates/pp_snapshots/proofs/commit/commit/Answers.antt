use Rattle.std.proofs.Common.{◌+◌, ◌∙◌, ◌++◌, ◌∷◌, [], ap, arith, cond, false, length, subst, sym}
use Rattle.std.specs.List.{list_any}
use Rattle.pp_model.specs.Names.{◌=ⁿ◌}
use Rattle.pp_model.specs.Object.{ops}
use Rattle.std.proofs.lemmas.List.{length-map}
use Rattle.std.proofs.lemmas.Option.{same_Some}
use Rattle.pp_core.specs.declared.call.Style.TheVariants.{Optimistic}
use Rattle.pp_kind.specs.Object.{rules_of}
use Rattle.pp_model.proofs.Finding.{decided, decided_not}
use Rattle.pp_laws_summary.specs.Summary.{SummaryCommit}
use Rattle.pp_snapshots.specs.Many.{AreAsked, MayFollow}
use Rattle.pp_snapshots.specs.Past.{IsPast, with_ops}
use Rattle.pp_snapshots.specs.Shown.{done_ops, shown}
use Rattle.pp_snapshots.proofs.Moving.{own_asked, own_within, some_past, stays_same, stays_with}
use Rattle.pp_snapshots.proofs.OnClosing.{commit_good, committed_moves, may_of, word_is, word_of}
use Rattle.pp_snapshots.proofs.OnOp.{not_open}
use Rattle.pp_snapshots.proofs.commit.commit.Goals as goal

pub returns-in_default-clause-answers : goal.returns-in_default-clause-answers
returns-in_default-clause-answers g c =
    let o = g.S.Spec.object in
    let place = g.S.Placed.place_of in
    let v = c.args.parts.now in (
      (λ ks k. not_open o place g.S.Placed.SameAt g.met.S.Spec.lawful g.met.S.Placed.placed v c.requires.keeps c.args.tx.now (SummaryCommit Optimistic (rules_of o v.shape) place (shown ks v)) (sym c.in_default.ensures) k),
      stays_same o place g.S.Placed.SameAt g.met.S.Spec.lawful g.met.S.Placed.placed v c.requires.keeps,
    )

pub returns-then-not-complete-clause-answers : goal.returns-then-not-complete-clause-answers
returns-then-not-complete-clause-answers g c =
    let o = g.S.Spec.object in
    let place = g.S.Placed.place_of in
    let v = c.args.parts.now in
    let x = c.in-Some.it.now in
    let found = sym c.in-Some.ensures in
    let tells = word_is o place g.S.Placed.SameAt g.met.S.Spec.lawful g.met.S.Placed.placed v c.requires.keeps c.args.tx.now x found c.complete.result c.complete.ensures in (
      (λ ks k. decided_not c.complete.result _ tells c.if-not-complete.true (word_of o place g.S.Placed.SameAt g.met.S.Spec.lawful g.met.S.Placed.placed v c.requires.keeps c.args.tx.now x found ks k)),
      stays_same o place g.S.Placed.SameAt g.met.S.Spec.lawful g.met.S.Placed.placed v c.requires.keeps,
    )

pub apply_all-requires-clause-some : goal.apply_all-requires-clause-some
apply_all-requires-clause-some g c = some_past g.S.Spec.object g.S.Placed.place_of g.S.Placed.SameAt g.met.S.Spec.lawful g.met.S.Placed.placed c.args.parts.now c.requires.keeps

pub apply_all-requires-clause-asked : goal.apply_all-requires-clause-asked
apply_all-requires-clause-asked g c =
    let v = c.args.parts.now in
    let all = c.deref.ensures.value ∙ c.in_ok-own.ensures ∙ ap (λ l. ops l) c.as_slice.ensures in
    subst (AreAsked g.S.Spec.object v.past) (sym all) (own_asked g.S.Spec.object g.S.Placed.place_of g.S.Placed.SameAt g.met.S.Spec.lawful g.met.S.Placed.placed v c.requires.keeps c.args.tx.now c.in-Some.it.now (sym c.in-Some.ensures))

pub apply_all-requires-clause-few : goal.apply_all-requires-clause-few
apply_all-requires-clause-few g c =
    let x = c.in-Some.it.now in
    let all = c.deref.ensures.value ∙ c.in_ok-own.ensures ∙ ap (λ l. ops l) c.as_slice.ensures in
    let len = ap (λ l. length l) all ∙ length-map x.own (λ p. p.op) in
    let within = own_within g.S.Spec.object g.S.Placed.place_of g.S.Placed.SameAt g.met.S.Spec.lawful g.met.S.Placed.placed c.args.parts.now c.requires.keeps c.args.tx.now x (sym c.in-Some.ensures) in
    let few = c.requires.keeps.few in
    omega (arith, len, within, few, c.requires.few)

pub returns-then-not-branch-clause-answers : goal.returns-then-not-branch-clause-answers
returns-then-not-branch-clause-answers g c =
    let o = g.S.Spec.object in
    let place = g.S.Placed.place_of in
    let v = c.args.parts.now in
    let x = c.in-Some.it.now in
    let found = sym c.in-Some.ensures in
    let all = c.deref.ensures.value ∙ c.in_ok-own.ensures ∙ ap (λ l. ops l) c.as_slice.ensures in
    let refused = rw c.if-not-branch.true at c.in_ok-apply_all.ensures.follow in
    let told = refused v.shape (done_ops o place v.committed) c.requires.keeps.past in
    let size = rw c.if-not-branch.true at c.in_ok-apply_all.ensures.size in (
      (λ ks k. told.0 (subst (MayFollow o place v.shape (done_ops o place v.committed)) (sym all) (may_of o place g.S.Placed.SameAt g.met.S.Spec.lawful g.met.S.Placed.placed v c.requires.keeps c.args.tx.now x found ks k))),
      stays_with o place g.S.Placed.SameAt g.met.S.Spec.lawful g.met.S.Placed.placed v c.requires.keeps c.apply_all.new.past v.by_part told.1 (omega (arith, size)),
    )

pub returns-clause-answers : goal.returns-clause-answers
returns-clause-answers g c =
    let o = g.S.Spec.object in
    let place = g.S.Placed.place_of in
    let v = c.args.parts.now in
    let t = c.args.tx.now in
    let x = c.in-Some.it.now in
    let found = sym c.in-Some.ensures in
    let h = done_ops o place v.committed in
    let all = c.deref.ensures.value ∙ c.in_ok-own.ensures ∙ ap (λ l. ops l) c.as_slice.ensures in
    let tells = word_is o place g.S.Placed.SameAt g.met.S.Spec.lawful g.met.S.Placed.placed v c.requires.keeps t x found c.complete.result c.complete.ensures in
    let word = decided c.complete.result _ tells c.if-not-complete.false in
    let followed = rw c.if-not-branch.false at c.in_ok-apply_all.ensures.follow in
    let told = followed v.shape h c.requires.keeps.past in
    let size = rw c.if-not-branch.false at c.in_ok-apply_all.ensures.size in
    let may = subst (MayFollow o place v.shape h) all told.0 in
    let good = commit_good o place g.S.Placed.SameAt g.met.S.Spec.lawful g.met.S.Placed.placed v c.requires.keeps t x found word may in
    let s = c.in_ok-settle.ensures in
    let same = same_Some s.it x (sym s.found ∙ found) in
    let past = subst (λ z. IsPast o place v.shape z (with_ops place h (ops x.own))) (sym s.past) (subst (λ l. IsPast o place v.shape c.apply_all.new.past (with_ops place h l)) all told.1) in
    let sized = ap (λ z. z.size) s.past ∙ size ∙ ap (λ l. v.past.size + length l) all in (
      good,
      committed_moves o place g.S.Placed.SameAt g.met.S.Spec.lawful g.met.S.Placed.placed v c.requires.keeps t x found c.settle.new.parts s.slots
          (λ q. s.busy q ∙ ap (λ z. cond (z.thread =ⁿ q) false (list_any (λ n. q =ⁿ n) v.threads.keys)) same) s.shape s.ids s.count good past sized
          (s.committed ∙ ap (λ z. v.committed ++ record { name = t; entries = z.own } ∷ []) same),
    )
