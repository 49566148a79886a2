use Rattle.std.proofs.Common.{◌∙◌, ap, arith, cond, length, nat_eq, subst, sym, Some}
use Rattle.std.specs.Map.{lookup}
use Rattle.std.proofs.lemmas.Option.{same_Some}
use Rattle.pp_kind.specs.Object.{rules_of}
use Rattle.pp_laws_summary.specs.Summary.{SummaryRefresh}
use Rattle.pp_snapshots.specs.Past.{IsPast, made_at}
use Rattle.pp_snapshots.specs.Shown.{done_ops, shown}
use Rattle.pp_snapshots.proofs.Apart.{has_allowed}
use Rattle.pp_snapshots.proofs.Asking.{count_is}
use Rattle.pp_snapshots.proofs.Moving.{own_asked, own_within, some_past, stays_same, stays_with}
use Rattle.pp_snapshots.proofs.OnOp.{not_open}
use Rattle.pp_snapshots.proofs.OnRefresh.{refresh_good, refresh_not, refreshed_moves}
use Rattle.pp_snapshots.proofs.refresh.refresh.Goals as goal

pub returns-in_default-clause-answers : goal.returns-in_default-clause-answers
returns-in_default-clause-answers g c =
    let o = g.S.Spec.object in
    let place = g.S.Placed.place_of in
    let v = c.args.parts.now in (
      (λ ks k. not_open o place g.S.Placed.SameAt g.met.S.Spec.lawful g.met.S.Placed.placed v c.requires.keeps c.args.tx.now (SummaryRefresh (rules_of o v.shape) place (shown ks v) c.args.place) (sym c.in_default.ensures) k),
      stays_same o place g.S.Placed.SameAt g.met.S.Spec.lawful g.met.S.Placed.placed v c.requires.keeps,
    )

pub may_refresh-requires-clause-some : goal.may_refresh-requires-clause-some
may_refresh-requires-clause-some g c = some_past g.S.Spec.object g.S.Placed.place_of g.S.Placed.SameAt g.met.S.Spec.lawful g.met.S.Placed.placed c.args.parts.now c.requires.keeps

pub may_refresh-requires-clause-own : goal.may_refresh-requires-clause-own
may_refresh-requires-clause-own g c =
    own_asked g.S.Spec.object g.S.Placed.place_of g.S.Placed.SameAt g.met.S.Spec.lawful g.met.S.Placed.placed c.args.parts.now c.requires.keeps c.args.tx.now c.in-Some.it.now (sym c.in-Some.ensures)

pub may_refresh-requires-clause-has : goal.may_refresh-requires-clause-has
may_refresh-requires-clause-has g c =
    has_allowed g.S.Spec.object g.S.Placed.place_of g.S.Placed.SameAt g.met.S.Spec.lawful g.met.S.Placed.placed c.args.parts.now c.requires.keeps c.args.tx.now c.in-Some.it.now (sym c.in-Some.ensures)

pub may_refresh-requires-clause-few : goal.may_refresh-requires-clause-few
may_refresh-requires-clause-few g c =
    let within = own_within g.S.Spec.object g.S.Placed.place_of g.S.Placed.SameAt g.met.S.Spec.lawful g.met.S.Placed.placed c.args.parts.now c.requires.keeps c.args.tx.now c.in-Some.it.now (sym c.in-Some.ensures) in
    let few = c.requires.keeps.few in
    omega (arith, within, few, c.requires.few)

pub returns-then-not-branch-clause-answers : goal.returns-then-not-branch-clause-answers
returns-then-not-branch-clause-answers g c =
    let o = g.S.Spec.object in
    let place = g.S.Placed.place_of in
    let v = c.args.parts.now in
    let tells = rw c.if-not-branch.true at c.in_ok-may_refresh.ensures.tells in
    let told = tells v.shape (done_ops o place v.committed) c.requires.keeps.past in (
      refresh_not o place g.S.Placed.SameAt g.met.S.Spec.lawful g.met.S.Placed.placed v c.requires.keeps c.args.tx.now c.in-Some.it.now (sym c.in-Some.ensures) c.args.place told.0,
      stays_with o place g.S.Placed.SameAt g.met.S.Spec.lawful g.met.S.Placed.placed v c.requires.keeps c.may_refresh.new.past v.by_part told.1 c.in_ok-may_refresh.ensures.size,
    )

pub returns-clause-answers : goal.returns-clause-answers
returns-clause-answers g c =
    let o = g.S.Spec.object in
    let place = g.S.Placed.place_of in
    let v = c.args.parts.now in
    let h = done_ops o place v.committed in
    let x = c.in-Some.it.now in
    let found = sym c.in-Some.ensures in
    let tells = rw c.if-not-branch.false at c.in_ok-may_refresh.ensures.tells in
    let told = tells v.shape h c.requires.keeps.past in
    let good = refresh_good o place g.S.Placed.SameAt g.met.S.Spec.lawful g.met.S.Placed.placed v c.requires.keeps c.args.tx.now x found c.args.place told.0 in
    let s = c.in_ok-see_all.ensures in
    let same = same_Some s.it x (sym s.found ∙ found) in
    let n = length (made_at c.args.place c.may_refresh.new.past.places.items) in
    let all = count_is o place v.shape c.may_refresh.new.past h told.1 c.args.place in (
      good,
      refreshed_moves o place g.S.Placed.SameAt g.met.S.Spec.lawful g.met.S.Placed.placed v c.requires.keeps c.args.tx.now x found c.args.place c.see_all.new.parts good s.after
          (s.thread ∙ ap (λ z. z.thread) same) (s.walk ∙ ap (λ z. z.walk) same) (s.own ∙ ap (λ z. z.own) same) n all
          (λ q. s.seen q ∙ ap (λ z. cond (nat_eq c.args.place q) (Some n) (lookup (nat_eq q) z.seen.entries)) same)
          s.slots s.threads s.ids s.shape (subst (λ z. IsPast o place v.shape z h) (sym s.past) told.1) (ap (λ z. z.size) s.past ∙ c.in_ok-may_refresh.ensures.size) s.committed s.count,
    )
