use Rattle.std.proofs.Common.{◌≡◌, ◌++◌, ◌∷◌, ◌+◌, ℕ, Option, [], length, true, false, ap, sym, subst, ◌∙◌, arith}
use Rattle.pp_core.specs.Steps.{meaning}
use Rattle.pp_model.specs.Names.{Name}
use Rattle.pp_opacity.specs.Replays.{Follows, applied_in}
use Rattle.pp_opacity.proofs.Replays.{run_serial}
use Rattle.pp_opacity.proofs.Takes.{app_ask, app_low, app_seen, app_spent, app_unseen, app_within, cmt_left, cmt_spent, idle_note, idle_pull, idle_push, idle_quit, idle_unpull, idle_unpush}
use Rattle.pp_opacity.proofs.Takes.{IsIdle, may_settle, replay_idle, settled, take_app, take_begin, take_cmt, take_unapp, with_settled}
use Rattle.pp_opacity.proofs.replay.take.Goals as goal

pub settle-requires : goal.settle-requires
settle-requires g c =
    let o = g.S.Spec.object in
    let D = c.args.committed.now in
    let s = meaning c.args.step.now in
    let serial = c.args.replay.now.serial in
    let kept = c.args.replay.now.attempts.entries in
    let applied = c.args.replay.now.applied in
    let r = c.requires in
    (r.0, D, may_settle o r.0 r.1 r.2 r.3 s D serial kept applied r.4 r.5)

pub keep_own-requires : goal.keep_own-requires
keep_own-requires g c =
    let o = g.S.Spec.object in
    let D = c.args.committed.now in
    let s = meaning c.args.step.now in
    let serial = c.args.replay.now.serial in
    let kept = c.args.replay.now.attempts.entries in
    let applied = c.args.replay.now.applied in
    let r = c.requires in
    (r.0, D, may_settle o r.0 r.1 r.2 r.3 s D serial kept applied r.4 r.5)

pub settle-requires-in-Unapp : goal.settle-requires-in-Unapp
settle-requires-in-Unapp g c =
    let o = g.S.Spec.object in
    let D = c.args.committed.now in
    let s = meaning c.args.step.now in
    let serial = c.args.replay.now.serial in
    let kept = c.args.replay.now.attempts.entries in
    let applied = c.args.replay.now.applied in
    let r = c.requires in
    (r.0, D, may_settle o r.0 r.1 r.2 r.3 s D serial kept applied r.4 r.5)

pub settle-requires-in-Cmt : goal.settle-requires-in-Cmt
settle-requires-in-Cmt g c =
    let o = g.S.Spec.object in
    let D = c.args.committed.now in
    let s = meaning c.args.step.now in
    let serial = c.args.replay.now.serial in
    let kept = c.args.replay.now.attempts.entries in
    let applied = c.args.replay.now.applied in
    let r = c.requires in
    (r.0, D, may_settle o r.0 r.1 r.2 r.3 s D serial kept applied r.4 r.5)

pub ask-requires-clause-low : goal.ask-requires-clause-low
ask-requires-clause-low g c =
    let o = g.S.Spec.object in
    let D = c.args.committed.now in
    let s = meaning c.args.step.now in
    let serial = c.args.replay.now.serial in
    let kept = c.args.replay.now.attempts.entries in
    let applied = c.args.replay.now.applied in
    let shape = c.requires.0 in
    let h = c.requires.1 in
    let past = c.requires.2 in
    let rest = c.requires.3 in
    let run = c.requires.4 in
    let f = c.requires.5 in
    let m = c.keep_own.new.serial.count in
    let F = settled o shape h past rest s D serial kept applied run f m c.in_ok-first-in-App.ensures.count in
    let e = ap meaning c.in-App.is in
    let more = c.apply.new.attempts.entries in
    let own = c.in_ok-apply-in-App.ensures.own in
    let least = c.in_ok-apply-in-App.ensures.least in
    let excluded = c.in_ok-apply-in-App.ensures.excluded in
    app_low o shape h past rest s D m kept run F c.in-App.tx c.in-App.id c.in-App.op e more own least excluded

pub ask-requires-clause-within : goal.ask-requires-clause-within
ask-requires-clause-within g c =
    let o = g.S.Spec.object in
    let D = c.args.committed.now in
    let s = meaning c.args.step.now in
    let serial = c.args.replay.now.serial in
    let kept = c.args.replay.now.attempts.entries in
    let applied = c.args.replay.now.applied in
    let shape = c.requires.0 in
    let h = c.requires.1 in
    let past = c.requires.2 in
    let rest = c.requires.3 in
    let run = c.requires.4 in
    let f = c.requires.5 in
    let m = c.keep_own.new.serial.count in
    let F = settled o shape h past rest s D serial kept applied run f m c.in_ok-first-in-App.ensures.count in
    let e = ap meaning c.in-App.is in
    let more = c.apply.new.attempts.entries in
    let own = c.in_ok-apply-in-App.ensures.own in
    let least = c.in_ok-apply-in-App.ensures.least in
    let excluded = c.in_ok-apply-in-App.ensures.excluded in
    app_within o shape h past rest s D m kept run F c.in-App.tx c.in-App.id c.in-App.op e more own least excluded c.in_ok-first-in-App.first c.in_ok-first-in-App.ensures.within

pub ask-requires-clause-ask : goal.ask-requires-clause-ask
ask-requires-clause-ask g c =
    let o = g.S.Spec.object in
    let D = c.args.committed.now in
    let s = meaning c.args.step.now in
    let serial = c.args.replay.now.serial in
    let kept = c.args.replay.now.attempts.entries in
    let applied = c.args.replay.now.applied in
    let shape = c.requires.0 in
    let h = c.requires.1 in
    let past = c.requires.2 in
    let rest = c.requires.3 in
    let run = c.requires.4 in
    let f = c.requires.5 in
    let m = c.keep_own.new.serial.count in
    let F = settled o shape h past rest s D serial kept applied run f m c.in_ok-first-in-App.ensures.count in
    let e = ap meaning c.in-App.is in
    let more = c.apply.new.attempts.entries in
    let own = c.in_ok-apply-in-App.ensures.own in
    let least = c.in_ok-apply-in-App.ensures.least in
    let excluded = c.in_ok-apply-in-App.ensures.excluded in
    let back = may_settle o shape h past rest s D serial kept applied run f in
    let may = app_ask o shape h past rest s D m kept run F c.in-App.tx c.in-App.id c.in-App.op e more own least excluded c.keep_own.new.serial c.in_ok-first-in-App.first c.in_ok-first-in-App.ensures.within
    (c.in_ok-first-in-App.ensures.at shape D back) in
    (shape, may)

pub returns-then-explained-clause-follows : goal.returns-then-explained-clause-follows
returns-then-explained-clause-follows g c = λ shape h past rest run f.
    let o = g.S.Spec.object in
    let D = c.args.committed.now in
    let s = meaning c.args.step.now in
    let serial = c.args.replay.now.serial in
    let kept = c.args.replay.now.attempts.entries in
    let applied = c.args.replay.now.applied in
    let m = c.keep_own.new.serial.count in
    let F = settled o shape h past rest s D serial kept applied run f m c.in_ok-first-in-App.ensures.count in
    let e = ap meaning c.in-App.is in
    let more = c.apply.new.attempts.entries in
    let own = c.in_ok-apply-in-App.ensures.own in
    let least = c.in_ok-apply-in-App.ensures.least in
    let excluded = c.in_ok-apply-in-App.ensures.excluded in
    let back = may_settle o shape h past rest s D serial kept applied run f in
    let may = app_ask o shape h past rest s D m kept run F c.in-App.tx c.in-App.id c.in-App.op e more own least excluded c.keep_own.new.serial c.in_ok-first-in-App.first c.in_ok-first-in-App.ensures.within
    (c.in_ok-first-in-App.ensures.at shape D back) in
    let said = c.in_ok-explained-in-App.ensures in
    let now = take_app o shape h past rest s D m kept run F c.in-App.tx c.in-App.id c.in-App.op e more own least excluded c.ask.new.replay.attempts.entries said.own said.least said.others (said.excluded shape may) in
    record {
      follows = subst (λ (k : ℕ). Follows o shape h (past ++ s ∷ []) D k c.ask.new.replay.attempts.entries) (sym said.count) now;
      at = said.at shape may;
    }

pub returns-else-explained-clause-follows : goal.returns-else-explained-clause-follows
returns-else-explained-clause-follows g c = λ shape h past rest run f.
    let o = g.S.Spec.object in
    let D = c.args.committed.now in
    let s = meaning c.args.step.now in
    let serial = c.args.replay.now.serial in
    let kept = c.args.replay.now.attempts.entries in
    let applied = c.args.replay.now.applied in
    let m = c.keep_own.new.serial.count in
    let F = settled o shape h past rest s D serial kept applied run f m c.in_ok-first-in-App.ensures.count in
    let e = ap meaning c.in-App.is in
    let more = c.apply.new.attempts.entries in
    let own = c.in_ok-apply-in-App.ensures.own in
    let least = c.in_ok-apply-in-App.ensures.least in
    let excluded = c.in_ok-apply-in-App.ensures.excluded in
    let back = may_settle o shape h past rest s D serial kept applied run f in
    let may = app_ask o shape h past rest s D m kept run F c.in-App.tx c.in-App.id c.in-App.op e more own least excluded c.keep_own.new.serial c.in_ok-first-in-App.first c.in_ok-first-in-App.ensures.within
    (c.in_ok-first-in-App.ensures.at shape D back) in
    let said = c.in_ok-explained-in-App.ensures in
    let now = take_app o shape h past rest s D m kept run F c.in-App.tx c.in-App.id c.in-App.op e more own least excluded c.ask.new.replay.attempts.entries said.own said.least said.others (said.excluded shape may) in
    record {
      follows = subst (λ (k : ℕ). Follows o shape h (past ++ s ∷ []) D k c.ask.new.replay.attempts.entries) (sym said.count) now;
      at = said.at shape may;
    }

pub returns-then-explained-clause-seen : goal.returns-then-explained-clause-seen
returns-then-explained-clause-seen g c = λ shape h past rest run f.
    let o = g.S.Spec.object in
    let D = c.args.committed.now in
    let s = meaning c.args.step.now in
    let serial = c.args.replay.now.serial in
    let kept = c.args.replay.now.attempts.entries in
    let applied = c.args.replay.now.applied in
    let m = c.keep_own.new.serial.count in
    let F = settled o shape h past rest s D serial kept applied run f m c.in_ok-first-in-App.ensures.count in
    let e = ap meaning c.in-App.is in
    let more = c.apply.new.attempts.entries in
    let own = c.in_ok-apply-in-App.ensures.own in
    let least = c.in_ok-apply-in-App.ensures.least in
    let excluded = c.in_ok-apply-in-App.ensures.excluded in
    let back = may_settle o shape h past rest s D serial kept applied run f in
    let may = app_ask o shape h past rest s D m kept run F c.in-App.tx c.in-App.id c.in-App.op e more own least excluded c.keep_own.new.serial c.in_ok-first-in-App.first c.in_ok-first-in-App.ensures.within
    (c.in_ok-first-in-App.ensures.at shape D back) in
    app_seen o shape h past rest s D m kept run F c.in-App.tx c.in-App.id c.in-App.op e more own least excluded
    ((c.in_ok-explained-in-App.ensures.decided shape may).0 c.if-explained.true)

pub returns-else-explained-clause-seen : goal.returns-else-explained-clause-seen
returns-else-explained-clause-seen g c = λ shape h past rest run f.
    let o = g.S.Spec.object in
    let D = c.args.committed.now in
    let s = meaning c.args.step.now in
    let serial = c.args.replay.now.serial in
    let kept = c.args.replay.now.attempts.entries in
    let applied = c.args.replay.now.applied in
    let m = c.keep_own.new.serial.count in
    let F = settled o shape h past rest s D serial kept applied run f m c.in_ok-first-in-App.ensures.count in
    let e = ap meaning c.in-App.is in
    let more = c.apply.new.attempts.entries in
    let own = c.in_ok-apply-in-App.ensures.own in
    let least = c.in_ok-apply-in-App.ensures.least in
    let excluded = c.in_ok-apply-in-App.ensures.excluded in
    let back = may_settle o shape h past rest s D serial kept applied run f in
    let may = app_ask o shape h past rest s D m kept run F c.in-App.tx c.in-App.id c.in-App.op e more own least excluded c.keep_own.new.serial c.in_ok-first-in-App.first c.in_ok-first-in-App.ensures.within
    (c.in_ok-first-in-App.ensures.at shape D back) in
    app_unseen o shape h past rest s D m kept run F c.in-App.tx c.in-App.id c.in-App.op e more own least excluded
    (λ k. let z : true ≡ false = sym ((c.in_ok-explained-in-App.ensures.decided shape may).1 k) ∙ c.if-explained.false in cc)

pub returns-in_err-explained-in-App-clause-bound : goal.returns-in_err-explained-in-App-clause-bound
returns-in_err-explained-in-App-clause-bound g c = λ shape h past rest run f.
    let o = g.S.Spec.object in
    let D = c.args.committed.now in
    let s = meaning c.args.step.now in
    let serial = c.args.replay.now.serial in
    let kept = c.args.replay.now.attempts.entries in
    let applied = c.args.replay.now.applied in
    let m = c.keep_own.new.serial.count in
    let F = settled o shape h past rest s D serial kept applied run f m c.in_ok-first-in-App.ensures.count in
    let e = ap meaning c.in-App.is in
    let more = c.apply.new.attempts.entries in
    let own = c.in_ok-apply-in-App.ensures.own in
    let least = c.in_ok-apply-in-App.ensures.least in
    let excluded = c.in_ok-apply-in-App.ensures.excluded in
    let bound = c.in_ok-first-in-App.ensures.bound in
    let cost = app_spent o shape h past rest s D m kept run F c.in-App.tx c.in-App.id c.in-App.op e more own least excluded c.keep_own.new.ticks c.ask.new.ticks c.in_err-explained-in-App.ensures.bound in
    omega (arith, bound, cost)

pub returns-then-explained-clause-bound : goal.returns-then-explained-clause-bound
returns-then-explained-clause-bound g c = λ shape h past rest run f.
    let o = g.S.Spec.object in
    let D = c.args.committed.now in
    let s = meaning c.args.step.now in
    let serial = c.args.replay.now.serial in
    let kept = c.args.replay.now.attempts.entries in
    let applied = c.args.replay.now.applied in
    let m = c.keep_own.new.serial.count in
    let F = settled o shape h past rest s D serial kept applied run f m c.in_ok-first-in-App.ensures.count in
    let e = ap meaning c.in-App.is in
    let more = c.apply.new.attempts.entries in
    let own = c.in_ok-apply-in-App.ensures.own in
    let least = c.in_ok-apply-in-App.ensures.least in
    let excluded = c.in_ok-apply-in-App.ensures.excluded in
    let bound = c.in_ok-first-in-App.ensures.bound in
    let cost = app_spent o shape h past rest s D m kept run F c.in-App.tx c.in-App.id c.in-App.op e more own least excluded c.keep_own.new.ticks c.ask.new.ticks c.in_ok-explained-in-App.ensures.bound in
    omega (arith, bound, cost)

pub returns-then-explained-clause-paid : goal.returns-then-explained-clause-paid
returns-then-explained-clause-paid g c = λ shape h past rest run f.
    let o = g.S.Spec.object in
    let D = c.args.committed.now in
    let s = meaning c.args.step.now in
    let serial = c.args.replay.now.serial in
    let kept = c.args.replay.now.attempts.entries in
    let applied = c.args.replay.now.applied in
    let m = c.keep_own.new.serial.count in
    let F = settled o shape h past rest s D serial kept applied run f m c.in_ok-first-in-App.ensures.count in
    let e = ap meaning c.in-App.is in
    let more = c.apply.new.attempts.entries in
    let own = c.in_ok-apply-in-App.ensures.own in
    let least = c.in_ok-apply-in-App.ensures.least in
    let excluded = c.in_ok-apply-in-App.ensures.excluded in
    let bound = c.in_ok-first-in-App.ensures.bound in
    let cost = app_spent o shape h past rest s D m kept run F c.in-App.tx c.in-App.id c.in-App.op e more own least excluded c.keep_own.new.ticks
    (c.ask.new.ticks + length (applied_in c.ask.new.replay.applied c.ask.new.replay.attempts.entries)) c.in_ok-explained-in-App.ensures.paid in
    omega (arith, bound, cost)

pub returns-else-explained-clause-bound : goal.returns-else-explained-clause-bound
returns-else-explained-clause-bound g c = λ shape h past rest run f.
    let o = g.S.Spec.object in
    let D = c.args.committed.now in
    let s = meaning c.args.step.now in
    let serial = c.args.replay.now.serial in
    let kept = c.args.replay.now.attempts.entries in
    let applied = c.args.replay.now.applied in
    let m = c.keep_own.new.serial.count in
    let F = settled o shape h past rest s D serial kept applied run f m c.in_ok-first-in-App.ensures.count in
    let e = ap meaning c.in-App.is in
    let more = c.apply.new.attempts.entries in
    let own = c.in_ok-apply-in-App.ensures.own in
    let least = c.in_ok-apply-in-App.ensures.least in
    let excluded = c.in_ok-apply-in-App.ensures.excluded in
    let bound = c.in_ok-first-in-App.ensures.bound in
    let cost = app_spent o shape h past rest s D m kept run F c.in-App.tx c.in-App.id c.in-App.op e more own least excluded c.keep_own.new.ticks c.ask.new.ticks c.in_ok-explained-in-App.ensures.bound in
    omega (arith, bound, cost)

pub returns-else-explained-clause-paid : goal.returns-else-explained-clause-paid
returns-else-explained-clause-paid g c = λ shape h past rest run f.
    let o = g.S.Spec.object in
    let D = c.args.committed.now in
    let s = meaning c.args.step.now in
    let serial = c.args.replay.now.serial in
    let kept = c.args.replay.now.attempts.entries in
    let applied = c.args.replay.now.applied in
    let m = c.keep_own.new.serial.count in
    let F = settled o shape h past rest s D serial kept applied run f m c.in_ok-first-in-App.ensures.count in
    let e = ap meaning c.in-App.is in
    let more = c.apply.new.attempts.entries in
    let own = c.in_ok-apply-in-App.ensures.own in
    let least = c.in_ok-apply-in-App.ensures.least in
    let excluded = c.in_ok-apply-in-App.ensures.excluded in
    let bound = c.in_ok-first-in-App.ensures.bound in
    let cost = app_spent o shape h past rest s D m kept run F c.in-App.tx c.in-App.id c.in-App.op e more own least excluded c.keep_own.new.ticks
    (c.ask.new.ticks + length (applied_in c.ask.new.replay.applied c.ask.new.replay.attempts.entries)) c.in_ok-explained-in-App.ensures.paid in
    omega (arith, bound, cost)

pub returns-in_ok-begin-in-Begin-clause-follows : goal.returns-in_ok-begin-in-Begin-clause-follows
returns-in_ok-begin-in-Begin-clause-follows g c = λ shape h past rest run f.
    let o = g.S.Spec.object in
    let D = c.args.committed.now in
    let s = meaning c.args.step.now in
    let serial = c.args.replay.now.serial in
    let kept = c.args.replay.now.attempts.entries in
    let applied = c.args.replay.now.applied in
    let m = c.settle.new.serial.count in
    let F = settled o shape h past rest s D serial kept applied run f m c.in_ok-settle-in-Begin.ensures.count in
    record {
      follows = take_begin o shape h past rest s D m kept run F c.in-Begin.tx c.in-Begin.thread _ (ap meaning c.in-Begin.is) c.begin.new.attempts.entries
          c.in_ok-begin-in-Begin.ensures.own c.in_ok-begin-in-Begin.ensures.least c.in_ok-begin-in-Begin.ensures.excluded;
      at = with_settled o shape D c.settle.new.serial c.begin.new.attempts.entries c.settle.new.applied c.in_ok-settle-in-Begin.ensures.none
          (c.in_ok-settle-in-Begin.ensures.at shape D (may_settle o shape h past rest s D serial kept applied run f));
    }

pub returns-in_ok-settle-in-Unapp-clause-follows : goal.returns-in_ok-settle-in-Unapp-clause-follows
returns-in_ok-settle-in-Unapp-clause-follows g c = λ shape h past rest run f.
    let o = g.S.Spec.object in
    let D = c.args.committed.now in
    let s = meaning c.args.step.now in
    let serial = c.args.replay.now.serial in
    let kept = c.args.replay.now.attempts.entries in
    let applied = c.args.replay.now.applied in
    let m = c.settle-in-Unapp.new.serial.count in
    let F = settled o shape h past rest s D serial kept applied run f m c.in_ok-settle-in-Unapp.ensures.count in
    record {
      follows = take_unapp o shape h past rest s D m kept run F c.in-Unapp.tx c.in-Unapp.id (ap meaning c.in-Unapp.is) c.unapply.new.attempts.entries
          c.unapply.ensures.own c.unapply.ensures.others c.unapply.ensures.kept c.unapply.ensures.begins c.unapply.ensures.excluded;
      at = with_settled o shape D c.settle-in-Unapp.new.serial c.unapply.new.attempts.entries c.settle-in-Unapp.new.applied c.in_ok-settle-in-Unapp.ensures.none
          (c.in_ok-settle-in-Unapp.ensures.at shape D (may_settle o shape h past rest s D serial kept applied run f));
    }

pub advance-requires-clause-there : goal.advance-requires-clause-there
advance-requires-clause-there g c =
    let o = g.S.Spec.object in
    let D = c.args.committed.now in
    let s = meaning c.args.step.now in
    let serial = c.args.replay.now.serial in
    let kept = c.args.replay.now.attempts.entries in
    let applied = c.args.replay.now.applied in
    let shape = c.requires.0 in
    let h = c.requires.1 in
    let past = c.requires.2 in
    let rest = c.requires.3 in
    let run = c.requires.4 in
    let f = c.requires.5 in
    let m = c.settle-in-Cmt.new.serial.count in
    let F = settled o shape h past rest s D serial kept applied run f m c.in_ok-settle-in-Cmt.ensures.count in
    let left = cmt_left o shape h past rest s D m kept run F c.in-Cmt.tx (ap meaning c.in-Cmt.is) in
    omega (arith, left)

pub advance-requires-clause-at : goal.advance-requires-clause-at
advance-requires-clause-at g c =
    let o = g.S.Spec.object in
    let D = c.args.committed.now in
    let s = meaning c.args.step.now in
    let serial = c.args.replay.now.serial in
    let kept = c.args.replay.now.attempts.entries in
    let applied = c.args.replay.now.applied in
    let shape = c.requires.0 in
    let h = c.requires.1 in
    let past = c.requires.2 in
    let rest = c.requires.3 in
    let run = c.requires.4 in
    let f = c.requires.5 in
    (shape, run_serial o shape h (past ++ s ∷ rest) D run, c.in_ok-settle-in-Cmt.ensures.at shape D (may_settle o shape h past rest s D serial kept applied run f))

pub returns-in_ok-advance-in-Cmt-clause-follows : goal.returns-in_ok-advance-in-Cmt-clause-follows
returns-in_ok-advance-in-Cmt-clause-follows g c = λ shape h past rest run f.
    let o = g.S.Spec.object in
    let D = c.args.committed.now in
    let s = meaning c.args.step.now in
    let serial = c.args.replay.now.serial in
    let kept = c.args.replay.now.attempts.entries in
    let applied = c.args.replay.now.applied in
    let m = c.settle-in-Cmt.new.serial.count in
    let F = settled o shape h past rest s D serial kept applied run f m c.in_ok-settle-in-Cmt.ensures.count in
    record {
      follows = take_cmt o shape h past rest s D m kept run F c.in-Cmt.tx (ap meaning c.in-Cmt.is) c.advance.new.serial.count c.in_ok-advance-in-Cmt.ensures.count;
      at = with_settled o shape D c.advance.new.serial kept c.settle-in-Cmt.new.applied c.in_ok-settle-in-Cmt.ensures.none
          (c.in_ok-advance-in-Cmt.ensures.at shape (run_serial o shape h (past ++ s ∷ rest) D run)
          (c.in_ok-settle-in-Cmt.ensures.at shape D (may_settle o shape h past rest s D serial kept applied run f)));
    }

pub returns-in_err-advance-in-Cmt-clause-bound : goal.returns-in_err-advance-in-Cmt-clause-bound
returns-in_err-advance-in-Cmt-clause-bound g c = λ shape h past rest run f.
    let o = g.S.Spec.object in
    let D = c.args.committed.now in
    let s = meaning c.args.step.now in
    let serial = c.args.replay.now.serial in
    let kept = c.args.replay.now.attempts.entries in
    let applied = c.args.replay.now.applied in
    let m = c.settle-in-Cmt.new.serial.count in
    let F = settled o shape h past rest s D serial kept applied run f m c.in_ok-settle-in-Cmt.ensures.count in
    let bound = c.in_ok-settle-in-Cmt.ensures.bound in
    let cost = cmt_spent o shape h past rest s D m kept run F c.in-Cmt.tx (ap meaning c.in-Cmt.is) c.settle-in-Cmt.new.ticks c.advance.new.ticks c.in_err-advance-in-Cmt.ensures.cost in
    omega (arith, bound, cost)

pub returns-in_ok-advance-in-Cmt-clause-bound : goal.returns-in_ok-advance-in-Cmt-clause-bound
returns-in_ok-advance-in-Cmt-clause-bound g c = λ shape h past rest run f.
    let o = g.S.Spec.object in
    let D = c.args.committed.now in
    let s = meaning c.args.step.now in
    let serial = c.args.replay.now.serial in
    let kept = c.args.replay.now.attempts.entries in
    let applied = c.args.replay.now.applied in
    let m = c.settle-in-Cmt.new.serial.count in
    let F = settled o shape h past rest s D serial kept applied run f m c.in_ok-settle-in-Cmt.ensures.count in
    let bound = c.in_ok-settle-in-Cmt.ensures.bound in
    let cost = cmt_spent o shape h past rest s D m kept run F c.in-Cmt.tx (ap meaning c.in-Cmt.is) c.settle-in-Cmt.new.ticks c.advance.new.ticks c.in_ok-advance-in-Cmt.ensures.cost in
    omega (arith, bound, cost)

pub returns-in_ok-advance-in-Cmt-clause-paid : goal.returns-in_ok-advance-in-Cmt-clause-paid
returns-in_ok-advance-in-Cmt-clause-paid g c = λ shape h past rest run f.
    let o = g.S.Spec.object in
    let D = c.args.committed.now in
    let s = meaning c.args.step.now in
    let serial = c.args.replay.now.serial in
    let kept = c.args.replay.now.attempts.entries in
    let applied = c.args.replay.now.applied in
    let m = c.settle-in-Cmt.new.serial.count in
    let F = settled o shape h past rest s D serial kept applied run f m c.in_ok-settle-in-Cmt.ensures.count in
    let bound = c.in_ok-settle-in-Cmt.ensures.bound in
    let cost = cmt_spent o shape h past rest s D m kept run F c.in-Cmt.tx (ap meaning c.in-Cmt.is) c.settle-in-Cmt.new.ticks c.advance.new.ticks c.in_ok-advance-in-Cmt.ensures.cost in
    let none = ap (λ (a : Option Name). length (applied_in a kept)) c.in_ok-settle-in-Cmt.ensures.none in
    omega (arith, bound, cost, none)

pub returns-in-Push-clause-follows : goal.returns-in-Push-clause-follows
returns-in-Push-clause-follows g c = λ shape h past rest run f.
    let D = c.args.committed.now in
    let s = meaning c.args.step.now in
    let serial = c.args.replay.now.serial in
    let kept = c.args.replay.now.attempts.entries in
    let applied = c.args.replay.now.applied in
    replay_idle g.S.Spec.object shape h past rest s D serial kept applied run f (subst (λ w. IsIdle w) (sym (ap meaning c.in-Push.is)) (idle_push c.in-Push.tx c.in-Push.id))

pub returns-in-Unpush-clause-follows : goal.returns-in-Unpush-clause-follows
returns-in-Unpush-clause-follows g c = λ shape h past rest run f.
    let D = c.args.committed.now in
    let s = meaning c.args.step.now in
    let serial = c.args.replay.now.serial in
    let kept = c.args.replay.now.attempts.entries in
    let applied = c.args.replay.now.applied in
    replay_idle g.S.Spec.object shape h past rest s D serial kept applied run f (subst (λ w. IsIdle w) (sym (ap meaning c.in-Unpush.is)) (idle_unpush c.in-Unpush.tx c.in-Unpush.id))

pub returns-in-Pull-clause-follows : goal.returns-in-Pull-clause-follows
returns-in-Pull-clause-follows g c = λ shape h past rest run f.
    let D = c.args.committed.now in
    let s = meaning c.args.step.now in
    let serial = c.args.replay.now.serial in
    let kept = c.args.replay.now.attempts.entries in
    let applied = c.args.replay.now.applied in
    replay_idle g.S.Spec.object shape h past rest s D serial kept applied run f (subst (λ w. IsIdle w) (sym (ap meaning c.in-Pull.is)) (idle_pull c.in-Pull.tx c.in-Pull.id))

pub returns-in-Unpull-clause-follows : goal.returns-in-Unpull-clause-follows
returns-in-Unpull-clause-follows g c = λ shape h past rest run f.
    let D = c.args.committed.now in
    let s = meaning c.args.step.now in
    let serial = c.args.replay.now.serial in
    let kept = c.args.replay.now.attempts.entries in
    let applied = c.args.replay.now.applied in
    replay_idle g.S.Spec.object shape h past rest s D serial kept applied run f (subst (λ w. IsIdle w) (sym (ap meaning c.in-Unpull.is)) (idle_unpull c.in-Unpull.tx c.in-Unpull.id))

pub returns-in-Quit-clause-follows : goal.returns-in-Quit-clause-follows
returns-in-Quit-clause-follows g c = λ shape h past rest run f.
    let D = c.args.committed.now in
    let s = meaning c.args.step.now in
    let serial = c.args.replay.now.serial in
    let kept = c.args.replay.now.attempts.entries in
    let applied = c.args.replay.now.applied in
    replay_idle g.S.Spec.object shape h past rest s D serial kept applied run f (subst (λ w. IsIdle w) (sym (ap meaning c.in-Quit.is)) (idle_quit c.in-Quit.tx))

pub returns-in-Note-clause-follows : goal.returns-in-Note-clause-follows
returns-in-Note-clause-follows g c = λ shape h past rest run f.
    let D = c.args.committed.now in
    let s = meaning c.args.step.now in
    let serial = c.args.replay.now.serial in
    let kept = c.args.replay.now.attempts.entries in
    let applied = c.args.replay.now.applied in
    replay_idle g.S.Spec.object shape h past rest s D serial kept applied run f (subst (λ w. IsIdle w) (sym (ap meaning c.in-Note.is)) (idle_note c.in-Note.tx))
