use Rattle.std.proofs.Common.{◌≡◌, ◌+◌, ◌++◌, ◌∷◌, List, Option, length, take, drop, sym, ap, subst, arith, ◌≤◌}
use Rattle.std.proofs.lemmas.List.{length-map, length-take, take_all}
use Rattle.pp_core.specs.Steps.{Step, meaning}
use Rattle.pp_model.specs.Names.{Name}
use Rattle.pp_kind.specs.Object.{rules_of}
use Rattle.pp_attempts.specs.Peaks.{meanings}
use Rattle.pp_attempts.proofs.Collecting.{meanings_cut, meanings_take}
use Rattle.pp_laws_opacity.specs.Opacity.{IsOpaqueAtApps}
use Rattle.pp_laws_opacity.specs.Zombies.{IsZombie}
use Rattle.pp_attempts.proofs.Viewing.{serial_within}
use Rattle.pp_laws_opacity.proofs.Apps.{from_apps}
use Rattle.pp_laws_opacity.proofs.Prefixes.{prefix_same}
use Rattle.pp_opacity.specs.Costs.{searching_at_most}
use Rattle.pp_opacity.specs.Replays.{IsReplay, IsSeen, applied_in}
use Rattle.pp_opacity.specs.Results.{IsRun, as_zombie}
use Rattle.pp_opacity.proofs.Costs.{next_within, spent, spent_first, spent_within}
use Rattle.pp_opacity.proofs.Zombies.{found_is, opaque_first, opaque_next, zombie_there}
use Rattle.pp_opacity.proofs.zombie.first_zombie.Goals as goal

pub loop-i-init : goal.loop-i-init
loop-i-init g c = record {
  follows = λ h r e. c.in_ok-replay.ensures.follows h (meanings c.args.steps.now) r e;
  opaque = λ h r e. opaque_first (rules_of g.S.Spec.object c.args.shape.now) h;
  rises = c.in_ok-replay.ensures.rises;
  cost = λ h r e.
      let first = spent_first h c.args.committed.now c.args.given e in
      let bound = c.in_ok-replay.ensures.bound in
      let none = ap (λ (a : Option Name). length (applied_in a c.in_ok-replay.replay.attempts.entries)) c.in_ok-replay.ensures.none in
      omega (arith, first, bound, none);
}

pub take-requires : goal.take-requires
take-requires g c =
    let o = g.S.Spec.object in
    let r = c.requires in
    let steps = c.args.steps.now in
    let i = c.loop-i.i in
    let step = c.index-steps-i.result in (
      c.args.shape.now,
      r.0,
      meanings (take i steps),
      meanings (drop (i + 1) steps),
      subst (λ (w : List (Step _)). IsRun o c.args.shape.now r.0 w c.args.committed.now) (meanings_cut steps i step c.loop-i-test.true c.index-steps-i.is) r.1,
      c.loop-i.invariant.follows r.0 r.1 r.2,
    )

pub loop-i-preserved : goal.loop-i-preserved
loop-i-preserved g c =
    let o = g.S.Spec.object in
    let shape = c.args.shape.now in
    let D = c.args.committed.now in
    let steps = c.args.steps.now in
    let i = c.loop-i.i in
    let step = c.index-steps-i.result in
    let there = c.loop-i-test.true in
    let is = c.index-steps-i.is in
    let past = meanings (take i steps) in
    let rest = meanings (drop (i + 1) steps) in
    let cut = meanings_cut steps i step there is in
    let grown = meanings_take steps i step there is in
    let inv = c.loop-i.invariant in
    let up = c.in_ok-tx.ensures.rises in
    let rises = inv.rises in
    record {
      follows = λ h r e.
          let run = subst (λ (w : List (Step _)). IsRun o shape h w D) cut r in
          subst (λ (w : List (Step _)). IsReplay o shape h w D c.take.new.replay.serial c.take.new.replay.attempts.entries c.take.new.replay.applied) (sym grown)
          (c.in_ok-tx.ensures.follows shape h past rest run (inv.follows h r e));
      opaque = λ h r e.
          let run = subst (λ (w : List (Step _)). IsRun o shape h w D) cut r in
          let seen = subst (λ found. IsSeen (rules_of o shape) h past (meaning step) found) c.in_default.is (c.in_ok-tx.ensures.seen shape h past rest run (inv.follows h r e)) in
          subst (λ (w : List (Step _)). IsOpaqueAtApps (rules_of o shape) h w) (sym grown) (opaque_next (rules_of o shape) h past (meaning step) (inv.opaque h r e) seen);
      rises = omega (arith, up, rises);
      cost = λ h r e.
          let run = subst (λ (w : List (Step _)). IsRun o shape h w D) cut r in
          subst (λ (w : List (Step _)). c.take.new.ticks + length (applied_in c.take.new.replay.applied c.take.new.replay.attempts.entries) ≤ c.args.ticks.now + spent h D w) (sym grown)
          (next_within o shape h past rest (meaning step) D run c.args.ticks.now (c.loop-i.ticks + length (applied_in c.loop-i.replay.applied c.loop-i.replay.attempts.entries))
          (c.take.new.ticks + length (applied_in c.take.new.replay.applied c.take.new.replay.attempts.entries)) (inv.cost h r e) (c.in_ok-tx.ensures.paid shape h past rest run (inv.follows h r e))).0;
    }

pub returns-in-Some-clause-found : goal.returns-in-Some-clause-found
returns-in-Some-clause-found g c = λ h r e.
    let o = g.S.Spec.object in
    let shape = c.args.shape.now in
    let D = c.args.committed.now in
    let steps = c.args.steps.now in
    let i = c.loop-i.i in
    let step = c.index-steps-i.result in
    let there = c.loop-i-test.true in
    let is = c.index-steps-i.is in
    let past = meanings (take i steps) in
    let rest = meanings (drop (i + 1) steps) in
    let cut = meanings_cut steps i step there is in
    let run = subst (λ (w : List (Step _)). IsRun o shape h w D) cut r in
    let inv = c.loop-i.invariant in
    let follows = inv.follows h r e in
    let seen = subst (λ found. IsSeen (rules_of o shape) h past (meaning step) found) c.in-Some.is (c.in_ok-tx.ensures.seen shape h past rest run follows) in
    let serial = c.take.new.replay.serial in
    let kept = c.take.new.replay.attempts.entries in
    let u = c.in-Some.tx in
    let z = c.in_ok-zombie.zombie in
    let said = c.in_ok-zombie.ensures in
    let long = length-map (take i steps) meaning in
    let size = length-take i steps in
    let at = said.step in
    let number : z.step ≡ length past + 1 = omega (arith, long, size, there, at) in
    let zombie = zombie_there o shape h past rest D serial.count kept u (meaning step) run (c.in_ok-tx.ensures.follows shape h past rest run follows).follows (inv.opaque h r e) seen in
    let same = found_is o shape h past rest D serial.count kept u z number said.tx said.least said.most said.items in
    subst (λ (w : List (Step _)). IsZombie (rules_of o shape) h w (as_zombie z)) (sym cut) (subst (λ w. IsZombie (rules_of o shape) h (past ++ meaning step ∷ rest) w) same zombie)

pub returns-in-Some-clause-bound : goal.returns-in-Some-clause-bound
returns-in-Some-clause-bound g c = λ h r e.
    let o = g.S.Spec.object in
    let shape = c.args.shape.now in
    let D = c.args.committed.now in
    let steps = c.args.steps.now in
    let i = c.loop-i.i in
    let step = c.index-steps-i.result in
    let there = c.loop-i-test.true in
    let is = c.index-steps-i.is in
    let past = meanings (take i steps) in
    let rest = meanings (drop (i + 1) steps) in
    let cut = meanings_cut steps i step there is in
    let run = subst (λ (w : List (Step _)). IsRun o shape h w D) cut r in
    let inv = c.loop-i.invariant in
    let follows = inv.follows h r e in
    subst (λ (w : List (Step _)). c.take.new.ticks ≤ c.args.ticks.now + searching_at_most h w D) (sym cut)
    (next_within o shape h past rest (meaning step) D run c.args.ticks.now (c.loop-i.ticks + length (applied_in c.loop-i.replay.applied c.loop-i.replay.attempts.entries)) c.take.new.ticks (inv.cost h r e) (c.in_ok-tx.ensures.bound shape h past rest run follows)).1

pub returns-in_err-zombie-clause-bound : goal.returns-in_err-zombie-clause-bound
returns-in_err-zombie-clause-bound g c = λ h r e.
    let o = g.S.Spec.object in
    let shape = c.args.shape.now in
    let D = c.args.committed.now in
    let steps = c.args.steps.now in
    let i = c.loop-i.i in
    let step = c.index-steps-i.result in
    let there = c.loop-i-test.true in
    let is = c.index-steps-i.is in
    let past = meanings (take i steps) in
    let rest = meanings (drop (i + 1) steps) in
    let cut = meanings_cut steps i step there is in
    let run = subst (λ (w : List (Step _)). IsRun o shape h w D) cut r in
    let inv = c.loop-i.invariant in
    let follows = inv.follows h r e in
    subst (λ (w : List (Step _)). c.take.new.ticks ≤ c.args.ticks.now + searching_at_most h w D) (sym cut)
    (next_within o shape h past rest (meaning step) D run c.args.ticks.now (c.loop-i.ticks + length (applied_in c.loop-i.replay.applied c.loop-i.replay.attempts.entries)) c.take.new.ticks (inv.cost h r e) (c.in_ok-tx.ensures.bound shape h past rest run follows)).1

pub returns-in_err-tx-clause-bound : goal.returns-in_err-tx-clause-bound
returns-in_err-tx-clause-bound g c = λ h r e.
    let o = g.S.Spec.object in
    let shape = c.args.shape.now in
    let D = c.args.committed.now in
    let steps = c.args.steps.now in
    let i = c.loop-i.i in
    let step = c.index-steps-i.result in
    let there = c.loop-i-test.true in
    let is = c.index-steps-i.is in
    let past = meanings (take i steps) in
    let rest = meanings (drop (i + 1) steps) in
    let cut = meanings_cut steps i step there is in
    let run = subst (λ (w : List (Step _)). IsRun o shape h w D) cut r in
    let inv = c.loop-i.invariant in
    let follows = inv.follows h r e in
    subst (λ (w : List (Step _)). c.take.new.ticks ≤ c.args.ticks.now + searching_at_most h w D) (sym cut)
    (next_within o shape h past rest (meaning step) D run c.args.ticks.now (c.loop-i.ticks + length (applied_in c.loop-i.replay.applied c.loop-i.replay.attempts.entries)) c.take.new.ticks (inv.cost h r e) (c.in_err-tx.ensures.bound shape h past rest run follows)).1

pub returns-in_err-replay-clause-bound : goal.returns-in_err-replay-clause-bound
returns-in_err-replay-clause-bound g c = λ h r e.
    let within = serial_within c.args.committed.now c.args.given in
    let bound = c.in_err-replay.ensures.bound in
    omega (arith, within, bound)

pub returns-clause-found : goal.returns-clause-found
returns-clause-found g c = λ h r e.
    let O = rules_of g.S.Spec.object c.args.shape.now in
    let steps = c.args.steps.now in
    let whole = take_all c.loop-i.i steps (omega (arith, c.loop-i-test.false)) in
    from_apps O h r.met (meanings steps) r.run (subst (λ w. IsOpaqueAtApps O h (meanings w)) whole (c.loop-i.invariant.opaque h r e))

pub returns-clause-bound : goal.returns-clause-bound
returns-clause-bound g c = λ h r e.
    let D = c.args.committed.now in
    let steps = c.args.steps.now in
    let whole = take_all c.loop-i.i steps (omega (arith, c.loop-i-test.false)) in
    let within = spent_within h D (meanings steps) (meanings steps) (prefix_same (meanings steps)) in
    let cost = subst (λ w. c.loop-i.ticks + length (applied_in c.loop-i.replay.applied c.loop-i.replay.attempts.entries) ≤ c.args.ticks.now + spent h D (meanings w)) whole (c.loop-i.invariant.cost h r e) in
    omega (arith, within, cost)
