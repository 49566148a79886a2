use Rattle.std.proofs.Common.{◌≤◌, ◌+◌, List, length, sym, ◌∙◌, subst, arith}
use Rattle.std.proofs.lemmas.Result.{IfOk-weaker}
use Rattle.pp_core.specs.declared.call.Kind.{Kind}
use Rattle.pp_core.specs.declared.entry.CommittedTx.{CommittedTx}
use Rattle.pp_core.specs.declared.step.Step.{Step as StepOf}
use Rattle.pp_model.specs.Sound.{serial_ops}
use Rattle.pp_model.proofs.Lengths.{serial_fits}
use Rattle.pp_objects.specs.Objects.{kinds_of, objects}
use Rattle.pp_objects.specs.declared.act.Op.{Op}
use Rattle.pp_kind.specs.Object.{rules_of}
use Rattle.pp_opacity.specs.Costs.{searching_at_most}
use Rattle.pp_opacity.specs.Results.{IsFound, IsRun}
use Rattle.pp_styles.specs.Meanings.{meanings}
use Rattle.pp_judge.specs.Objects.{start_of}
use Rattle.pp_cmd_opaque.proofs.Deciding.{boosted_steps_opaque}
use Rattle.pp_cmd_opaque.proofs.Searching.{run_searched}
use Rattle.pp_cmd_opaque.proofs.report.find_zombie.Goals as goal

pub returns-in-Boosted-clause-found : goal.returns-in-Boosted-clause-found
returns-in-Boosted-clause-found g c =
    boosted_steps_opaque c.requires.0 c.args.tally.now c.args.machine.now (meanings c.args.steps.now) c.requires.1 c.requires.2 c.in-Boosted.is

pub first_zombie-requires : goal.first_zombie-requires
first_zombie-requires g c =
    let header = c.args.tally.now.header in
    let machine = c.args.machine.now in
    let h = c.requires.1 in
    let count = h.running.stands.few in
    let short = c.count-count.ensures.short in
    let few : length (serial_ops machine.config.done) ≤ 200_256 = omega (arith, serial_fits (rules_of objects machine.shape) machine.config c.count-count.ensures.sound, short, count) in
    let searched = run_searched c.requires.0 c.args.tally.now machine (meanings c.args.steps.now) h c.committed.ensures.ranged few in
    let same = c.as_slice-committed.ensures ∙ c.committed.ensures.done in
    let run = subst (λ (k : List Kind). IsRun objects k (start_of header) (meanings c.as_slice.result.now) c.as_slice-committed.result.now) (sym c.in_ok-kinds.ensures)
    (subst (λ (D : List (CommittedTx Op)). IsRun objects (kinds_of header.catalog) (start_of header) (meanings c.as_slice.result.now) D) (sym same)
    (subst (λ (ss : List (StepOf Op)). IsRun objects (kinds_of header.catalog) (start_of header) (meanings ss) machine.config.done) (sym c.as_slice.ensures) searched)) in
    (start_of header, run, c.count_started-given.ensures)

pub returns-clause-found : goal.returns-clause-found
returns-clause-found g c =
    let header = c.args.tally.now.header in
    let machine = c.args.machine.now in
    let h = c.requires.1 in
    let count = h.running.stands.few in
    let short = c.count-count.ensures.short in
    let few : length (serial_ops machine.config.done) ≤ 200_256 = omega (arith, serial_fits (rules_of objects machine.shape) machine.config c.count-count.ensures.sound, short, count) in
    let searched = run_searched c.requires.0 c.args.tally.now machine (meanings c.args.steps.now) h c.committed.ensures.ranged few in
    let same = c.as_slice-committed.ensures ∙ c.committed.ensures.done in
    let run = subst (λ (k : List Kind). IsRun objects k (start_of header) (meanings c.as_slice.result.now) c.as_slice-committed.result.now) (sym c.in_ok-kinds.ensures)
    (subst (λ (D : List (CommittedTx Op)). IsRun objects (kinds_of header.catalog) (start_of header) (meanings c.as_slice.result.now) D) (sym same)
    (subst (λ (ss : List (StepOf Op)). IsRun objects (kinds_of header.catalog) (start_of header) (meanings ss) machine.config.done) (sym c.as_slice.ensures) searched)) in
    IfOk-weaker c.first_zombie.result _ _ (λ found is.
    subst (λ (ss : List (StepOf Op)). IsFound (rules_of objects (kinds_of header.catalog)) (start_of header) (meanings ss) found) c.as_slice.ensures
    (subst (λ (k : List Kind). IsFound (rules_of objects k) (start_of header) (meanings c.as_slice.result.now) found) c.in_ok-kinds.ensures (is (start_of header) run c.count_started-given.ensures)))
    c.first_zombie.ensures.found

pub returns-clause-bound : goal.returns-clause-bound
returns-clause-bound g c =
    let header = c.args.tally.now.header in
    let machine = c.args.machine.now in
    let h = c.requires.1 in
    let count = h.running.stands.few in
    let short = c.count-count.ensures.short in
    let few : length (serial_ops machine.config.done) ≤ 200_256 = omega (arith, serial_fits (rules_of objects machine.shape) machine.config c.count-count.ensures.sound, short, count) in
    let searched = run_searched c.requires.0 c.args.tally.now machine (meanings c.args.steps.now) h c.committed.ensures.ranged few in
    let same = c.as_slice-committed.ensures ∙ c.committed.ensures.done in
    let run = subst (λ (k : List Kind). IsRun objects k (start_of header) (meanings c.as_slice.result.now) c.as_slice-committed.result.now) (sym c.in_ok-kinds.ensures)
    (subst (λ (D : List (CommittedTx Op)). IsRun objects (kinds_of header.catalog) (start_of header) (meanings c.as_slice.result.now) D) (sym same)
    (subst (λ (ss : List (StepOf Op)). IsRun objects (kinds_of header.catalog) (start_of header) (meanings ss) machine.config.done) (sym c.as_slice.ensures) searched)) in
    subst (λ (ss : List (StepOf Op)). c.first_zombie.new.ticks ≤ c.args.ticks.now + searching_at_most (start_of header) (meanings ss) c.args.machine.now.config.done) c.as_slice.ensures
    (subst (λ (D : List (CommittedTx Op)). c.first_zombie.new.ticks ≤ c.args.ticks.now + searching_at_most (start_of header) (meanings c.as_slice.result.now) D) same
    (c.first_zombie.ensures.bound (start_of header) run c.count_started-given.ensures))
