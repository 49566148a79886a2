use Rattle.std.proofs.Common.{◌≡◌, ◌≤◌, ◌+◌, ◌-◌, ◌∙◌, ap, arith, subst, sym}
use Rattle.std.specs.Prelude.{Ok, Err, take}
use Rattle.std.proofs.lemmas.Result.{err_from_is_err_and}
use Rattle.pp_core.specs.declared.limits.TheConstants.{MOST_STEPS}
use Rattle.pp_core.specs.Steps.{Step}
use Rattle.pp_records.specs.Expansions.{IsOfStyle}
use Rattle.pp_records.specs.Records.{record_meaning}
use Rattle.pp_format_write.specs.Statable.{IsWritable}
use Rattle.pp_model.specs.Lists.{Each, In}
use Rattle.pp_objects.specs.Objects.{kinds_of, objects, place_of}
use Rattle.pp_objects.specs.declared.act.Op.{Op}
use Rattle.pp_machine.specs.Stepping.{IsAsked}
use Rattle.pp_styles.specs.Driving.{CostAtMost, Drives}
use Rattle.pp_styles.specs.Meanings.{meanings}
use Rattle.pp_judge.specs.Driven.{driven_judging}
use Rattle.pp_judge.specs.Judging.{Judges}
use Rattle.pp_judge.specs.Running.{rejection_on}
use Rattle.pp_judge.proofs.Asking.{steps_asked}
use Rattle.pp_judge.proofs.Driving.{few_there, no_fewer_there, steps_here, untried}
use Rattle.pp_judge.proofs.DrivenSteps.{each_told, judges, judges_most, stops_there, told_meant}
use Rattle.pp_judge.proofs.Writable.{record_written}
use Rattle.pp_judge.proofs.driven.DrivenJudge.judge.Goals as goal

-- ---- the steps of the record

pub make_steps-requires : goal.make_steps-requires
make_steps-requires g c = subst (λ s. IsOfStyle s (record_meaning c.args.recorded.now)) (sym c.requires.good.2.0.style) c.requires.styled

pub do_steps-requires-clause-asked : goal.do_steps-requires-clause-asked
do_steps-requires-clause-asked g c =
    let header = c.args.header.now in
    let self = c.args.self in
    let list = meanings c.steps_of-steps.result.now in
    subst (λ m. (step : Step Op) → In step list → IsAsked objects m.shape step) (sym c.in_ok-made.ensures.machine)
    (steps_asked header self.front self.machine (record_meaning c.args.recorded.now) list c.requires.good.2.0.shape c.requires.readable (c.steps_of-steps.ensures ∙ c.in_ok-made.ensures.steps (kinds_of header.catalog)))

pub do_steps-requires-clause-few : goal.do_steps-requires-clause-few
do_steps-requires-clause-few g c = subst (λ m. m.count ≤ MOST_STEPS) (sym c.in_ok-made.ensures.machine) c.requires.good.2.0.stands.few

-- ---- what halted them

pub overflow_sub-count : goal.overflow_sub-count
overflow_sub-count g c =
    let header = c.args.header.now in
    let self = c.args.self in
    let here = steps_here header self.front self.machine (record_meaning c.args.recorded.now) in
    let now = c.args.ticks.now in
    let new = c.do_steps.new.ticks in
    let halt = c.in_ok-machine.halt in
    let machine = c.in_ok-machine.machine in
    let same = c.steps_of-steps.ensures ∙ c.in_ok-made.ensures.steps (kinds_of header.catalog) in
    let drives = subst (λ m. Drives MOST_STEPS objects m here now halt machine new) c.in_ok-made.ensures.machine (subst (λ w. Drives MOST_STEPS objects c.make_steps.new.machine w now halt machine new) same c.in_ok-machine.ensures.drives) in
    omega (arith, c.count-before.ensures.count, c.count-count.ensures.count, no_fewer_there MOST_STEPS self.machine machine here now new halt drives)

pub tried-requires : goal.tried-requires
tried-requires g c =
    let header = c.args.header.now in
    let self = c.args.self in
    let here = steps_here header self.front self.machine (record_meaning c.args.recorded.now) in
    let now = c.args.ticks.now in
    let new = c.do_steps.new.ticks in
    let halt = c.in_ok-machine.halt in
    let machine = c.in_ok-machine.machine in
    let same = c.steps_of-steps.ensures ∙ c.in_ok-made.ensures.steps (kinds_of header.catalog) in
    let drives = subst (λ m. Drives MOST_STEPS objects m here now halt machine new) c.in_ok-made.ensures.machine (subst (λ w. Drives MOST_STEPS objects c.make_steps.new.machine w now halt machine new) same c.in_ok-machine.ensures.drives) in
    omega (arith, c.count-count.ensures.count, few_there MOST_STEPS self.machine machine here now new halt drives)

pub see-requires : goal.see-requires
see-requires g c =
    let header = c.args.header.now in
    let self = c.args.self in
    let r = record_meaning c.args.recorded.now in
    each_told (IsWritable header.catalog) _ c.tried.result.now c.steps_of-steps.result.now c.tried.ensures
    (subst (Each (IsWritable header.catalog)) (sym (c.steps_of-steps.ensures ∙ c.in_ok-made.ensures.steps (kinds_of header.catalog))) (record_written header self.front self.machine r c.requires.statable))

-- ---- how the run is judged

pub returns-clause-judged : goal.returns-clause-judged
returns-clause-judged g c =
    let W = g.W.Observer.HasSeen in
    let header = c.args.header.now in
    let self = c.args.self in
    let r = record_meaning c.args.recorded.now in
    let kinds = kinds_of header.catalog in
    let here = steps_here header self.front self.machine r in
    let now = c.args.ticks.now in
    let new = c.do_steps.new.ticks in
    let halt = c.in_ok-machine.halt in
    let machine = c.in_ok-machine.machine in
    let front = c.make_steps.new.front in
    let next = c.in_ok-observer.observer in
    let same = c.steps_of-steps.ensures ∙ c.in_ok-made.ensures.steps kinds in
    let drives = subst (λ m. Drives MOST_STEPS objects m here now halt machine new) c.in_ok-made.ensures.machine (subst (λ w. Drives MOST_STEPS objects c.make_steps.new.machine w now halt machine new) same c.in_ok-machine.ensures.drives) in
    let counted = c.count-count.ensures.count in
    let fewer = no_fewer_there MOST_STEPS self.machine machine here now new halt drives in
    let first = told_meant ((c.count-count.result - c.count-before.result) + 1) c.tried.result.now c.steps_of-steps.result.now c.tried.ensures ∙ ap (λ l. take ((c.count-count.result - c.count-before.result) + 1) l) same in
    subst (λ judged. Judges (driven_judging W) header self r c.args.line judged now new) (sym c.judged_of.ensures)
    (judges W header self r c.args.line now new (meanings c.tried.result.now) next c.in_ok-observer.ensures front machine c.make_steps.ensures.same (c.in_ok-made.ensures.kept kinds)
    c.count-count.ensures.sound (c.count-count.result - c.count-before.result) first (omega (arith, c.count-before.ensures.count, counted, fewer)) halt c.in_ok-rejection.rejection drives
    (subst (λ n. rejection_on c.args.line n halt ≡ Ok c.in_ok-rejection.rejection) counted (sym c.in_ok-rejection.ensures)))

-- ---- one step too many

pub returns-in_err-rejection-clause-stop : goal.returns-in_err-rejection-clause-stop
returns-in_err-rejection-clause-stop g c =
    let W = g.W.Observer.HasSeen in
    let header = c.args.header.now in
    let self = c.args.self in
    let r = record_meaning c.args.recorded.now in
    let kinds = kinds_of header.catalog in
    let here = steps_here header self.front self.machine r in
    let now = c.args.ticks.now in
    let new = c.do_steps.new.ticks in
    let same = c.steps_of-steps.ensures ∙ c.in_ok-made.ensures.steps kinds in
    let halt = c.in_ok-machine.halt in
    let machine = c.in_ok-machine.machine in
    let drives = subst (λ m. Drives MOST_STEPS objects m here now halt machine new) c.in_ok-made.ensures.machine (subst (λ w. Drives MOST_STEPS objects c.make_steps.new.machine w now halt machine new) same c.in_ok-machine.ensures.drives) in
    let p = err_from_is_err_and c.from_residual-in_err-rejection.result c.from_residual-in_err-rejection.ensures.1 in
    rw (p.1, p.2) (stops_there W header self r c.args.line now new machine halt c.in_err-rejection.field-0.0 drives
    (subst (λ n. rejection_on c.args.line n halt ≡ Err c.in_err-rejection.field-0.0) c.count-count.ensures.count (sym c.in_err-rejection.ensures)))

-- ---- what they cost

pub returns-in_err-made-clause-most : goal.returns-in_err-made-clause-most
returns-in_err-made-clause-most g c =
    let header = c.args.header.now in
    let self = c.args.self in
    let r = record_meaning c.args.recorded.now in
    let now = c.args.ticks.now in
    judges_most g.W.Observer.HasSeen header self r c.args.line now now (untried MOST_STEPS self.machine (steps_here header self.front self.machine r) now c.requires.good.2.0.stands.few)

pub returns-in_err-machine-clause-most : goal.returns-in_err-machine-clause-most
returns-in_err-machine-clause-most g c =
    let W = g.W.Observer.HasSeen in
    let header = c.args.header.now in
    let self = c.args.self in
    let r = record_meaning c.args.recorded.now in
    let kinds = kinds_of header.catalog in
    let here = steps_here header self.front self.machine r in
    let now = c.args.ticks.now in
    let new = c.do_steps.new.ticks in
    let same = c.steps_of-steps.ensures ∙ c.in_ok-made.ensures.steps kinds in
    let cost = subst (λ m. CostAtMost MOST_STEPS objects place_of m here now new) c.in_ok-made.ensures.machine (subst (λ w. CostAtMost MOST_STEPS objects place_of c.make_steps.new.machine w now new) same c.do_steps.ensures.most) in
    judges_most W header self r c.args.line now new cost

pub returns-in_err-rejection-clause-most : goal.returns-in_err-rejection-clause-most
returns-in_err-rejection-clause-most g c =
    let W = g.W.Observer.HasSeen in
    let header = c.args.header.now in
    let self = c.args.self in
    let r = record_meaning c.args.recorded.now in
    let kinds = kinds_of header.catalog in
    let here = steps_here header self.front self.machine r in
    let now = c.args.ticks.now in
    let new = c.do_steps.new.ticks in
    let same = c.steps_of-steps.ensures ∙ c.in_ok-made.ensures.steps kinds in
    let cost = subst (λ m. CostAtMost MOST_STEPS objects place_of m here now new) c.in_ok-made.ensures.machine (subst (λ w. CostAtMost MOST_STEPS objects place_of c.make_steps.new.machine w now new) same c.do_steps.ensures.most) in
    judges_most W header self r c.args.line now new cost

pub returns-in_err-observer-clause-most : goal.returns-in_err-observer-clause-most
returns-in_err-observer-clause-most g c =
    let W = g.W.Observer.HasSeen in
    let header = c.args.header.now in
    let self = c.args.self in
    let r = record_meaning c.args.recorded.now in
    let kinds = kinds_of header.catalog in
    let here = steps_here header self.front self.machine r in
    let now = c.args.ticks.now in
    let new = c.do_steps.new.ticks in
    let same = c.steps_of-steps.ensures ∙ c.in_ok-made.ensures.steps kinds in
    let cost = subst (λ m. CostAtMost MOST_STEPS objects place_of m here now new) c.in_ok-made.ensures.machine (subst (λ w. CostAtMost MOST_STEPS objects place_of c.make_steps.new.machine w now new) same c.do_steps.ensures.most) in
    judges_most W header self r c.args.line now new cost

pub returns-clause-most : goal.returns-clause-most
returns-clause-most g c =
    let W = g.W.Observer.HasSeen in
    let header = c.args.header.now in
    let self = c.args.self in
    let r = record_meaning c.args.recorded.now in
    let kinds = kinds_of header.catalog in
    let here = steps_here header self.front self.machine r in
    let now = c.args.ticks.now in
    let new = c.do_steps.new.ticks in
    let same = c.steps_of-steps.ensures ∙ c.in_ok-made.ensures.steps kinds in
    let cost = subst (λ m. CostAtMost MOST_STEPS objects place_of m here now new) c.in_ok-made.ensures.machine (subst (λ w. CostAtMost MOST_STEPS objects place_of c.make_steps.new.machine w now new) same c.do_steps.ensures.most) in
    judges_most W header self r c.args.line now new cost
