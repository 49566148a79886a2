use Rattle.std.proofs.Common.{◌≡◌, ◌≤◌, ◌∙◌, subst, sym}
use Rattle.std.specs.Prelude.{Ok, Err}
use Rattle.std.proofs.lemmas.Result.{err_from_is_err_and}
use Rattle.pp_core.specs.Steps.{Step}
use Rattle.pp_records.specs.Expansions.{IsOfStyle}
use Rattle.pp_records.specs.Records.{record_meaning}
use Rattle.pp_model.specs.Lists.{In}
use Rattle.pp_objects.specs.Objects.{kinds_of, objects, place_of}
use Rattle.pp_objects.specs.declared.act.Op.{Op}
use Rattle.pp_machine.specs.Stepping.{IsAsked}
use Rattle.pp_styles.specs.Driving.{CostAtMost, Drives}
use Rattle.pp_styles.specs.Meanings.{meanings}
use Rattle.pp_judge.proofs.Asking.{steps_asked}
use Rattle.pp_judge.proofs.Driving.{steps_here, untried}
use Rattle.pp_judge.specs.Judging.{Judges}
use Rattle.pp_judge.specs.Running.{rejection_on}
use Rattle.pp_cmd_judge.proofs.DrivenJudging.{judges, judges_most, stops_there}
use Rattle.pp_cmd_judge.specs.StyleJudging.{style_judging}
use Rattle.pp_cmd_judge.specs.declared.style_judge.StyleJudge.TheVariants.{Driven}
use Rattle.pp_cmd_judge.proofs.driven.DrivenMachine.judge.Goals as goal

-- ---- the steps of the record

pub make_steps-requires : goal.make_steps-requires
make_steps-requires g c = subst (λ s. IsOfStyle s (record_meaning c.args.recorded.now)) (sym c.requires.good.2.style) c.requires.styled

pub do_steps-requires-clause-asked : goal.do_steps-requires-clause-asked
do_steps-requires-clause-asked g c =
    let header = c.args._header.now in
    let self = c.args.self in
    let list = meanings c.steps_of-steps.result.now in
    subst (λ m. (step : Step Op) → In step list → IsAsked objects m.shape step) (sym c.in_ok-made.ensures.machine)
    (steps_asked header self.front self.machine (record_meaning c.args.recorded.now) list c.requires.good.2.shape c.requires.readable (c.steps_of-steps.ensures ∙ c.in_ok-made.ensures.steps (kinds_of header.catalog)))

pub do_steps-requires-clause-few : goal.do_steps-requires-clause-few
do_steps-requires-clause-few g c = subst (λ m. m.count ≤ 4_294_967_295) (sym c.in_ok-made.ensures.machine) c.requires.good.2.few

-- ---- how the run is judged

pub returns-clause-judged : goal.returns-clause-judged
returns-clause-judged g c =
    let header = c.args._header.now in
    let self = c.args.self in
    let r = record_meaning c.args.recorded.now in
    let kinds = kinds_of header.catalog in
    let here = steps_here header self.front self.machine r in
    let now = c.args.ticks.now in
    let new = c.do_steps.new.ticks in
    let halt = c.in_ok-machine.halt in
    let machine = c.in_ok-machine.machine in
    let front = c.make_steps.new.front in
    let same = c.steps_of-steps.ensures ∙ c.in_ok-made.ensures.steps kinds in
    let drives = subst (λ m. Drives 4_294_967_295 objects m here now halt machine new) c.in_ok-made.ensures.machine (subst (λ w. Drives 4_294_967_295 objects c.make_steps.new.machine w now halt machine new) same c.in_ok-machine.ensures.drives) in
    subst (λ judged. Judges style_judging header (Driven self) r c.args.line judged now new) (sym c.judged_of.ensures)
    (judges header self r c.args.line now new (record { front = front; machine = machine }) c.requires.readable c.make_steps.ensures.same (c.in_ok-made.ensures.kept kinds)
    c.count-count.ensures.sound halt c.in_ok-rejection.rejection drives
    (subst (λ n. rejection_on c.args.line n halt ≡ Ok c.in_ok-rejection.rejection) c.count-count.ensures.count (sym c.in_ok-rejection.ensures)))

-- ---- one step too many

pub returns-in_err-rejection-clause-stop : goal.returns-in_err-rejection-clause-stop
returns-in_err-rejection-clause-stop g c =
    let header = c.args._header.now in
    let self = c.args.self in
    let r = record_meaning c.args.recorded.now in
    let kinds = kinds_of header.catalog in
    let here = steps_here header self.front self.machine r in
    let now = c.args.ticks.now in
    let new = c.do_steps.new.ticks in
    let same = c.steps_of-steps.ensures ∙ c.in_ok-made.ensures.steps kinds in
    let halt = c.in_ok-machine.halt in
    let machine = c.in_ok-machine.machine in
    let drives = subst (λ m. Drives 4_294_967_295 objects m here now halt machine new) c.in_ok-made.ensures.machine (subst (λ w. Drives 4_294_967_295 objects c.make_steps.new.machine w now halt machine new) same c.in_ok-machine.ensures.drives) in
    let p = err_from_is_err_and c.from_residual-in_err-rejection.result c.from_residual-in_err-rejection.ensures.1 in
    rw (p.1, p.2) (stops_there header self r c.args.line now new machine halt c.in_err-rejection.field-0.0 drives
    (subst (λ n. rejection_on c.args.line n halt ≡ Err c.in_err-rejection.field-0.0) c.count-count.ensures.count (sym c.in_err-rejection.ensures)))

-- ---- what they cost

pub returns-in_err-made-clause-most : goal.returns-in_err-made-clause-most
returns-in_err-made-clause-most g c =
    let header = c.args._header.now in
    let self = c.args.self in
    let r = record_meaning c.args.recorded.now in
    let now = c.args.ticks.now in
    judges_most header self r c.args.line now now (untried 4_294_967_295 self.machine (steps_here header self.front self.machine r) now c.requires.good.2.few)

pub returns-in_err-machine-clause-most : goal.returns-in_err-machine-clause-most
returns-in_err-machine-clause-most g c =
    let header = c.args._header.now in
    let self = c.args.self in
    let r = record_meaning c.args.recorded.now in
    let kinds = kinds_of header.catalog in
    let here = steps_here header self.front self.machine r in
    let now = c.args.ticks.now in
    let new = c.do_steps.new.ticks in
    let same = c.steps_of-steps.ensures ∙ c.in_ok-made.ensures.steps kinds in
    let cost = subst (λ m. CostAtMost 4_294_967_295 objects place_of m here now new) c.in_ok-made.ensures.machine (subst (λ w. CostAtMost 4_294_967_295 objects place_of c.make_steps.new.machine w now new) same c.do_steps.ensures.most) in
    judges_most header self r c.args.line now new cost

pub returns-in_err-rejection-clause-most : goal.returns-in_err-rejection-clause-most
returns-in_err-rejection-clause-most g c =
    let header = c.args._header.now in
    let self = c.args.self in
    let r = record_meaning c.args.recorded.now in
    let kinds = kinds_of header.catalog in
    let here = steps_here header self.front self.machine r in
    let now = c.args.ticks.now in
    let new = c.do_steps.new.ticks in
    let same = c.steps_of-steps.ensures ∙ c.in_ok-made.ensures.steps kinds in
    let cost = subst (λ m. CostAtMost 4_294_967_295 objects place_of m here now new) c.in_ok-made.ensures.machine (subst (λ w. CostAtMost 4_294_967_295 objects place_of c.make_steps.new.machine w now new) same c.do_steps.ensures.most) in
    judges_most header self r c.args.line now new cost

pub returns-clause-most : goal.returns-clause-most
returns-clause-most g c =
    let header = c.args._header.now in
    let self = c.args.self in
    let r = record_meaning c.args.recorded.now in
    let kinds = kinds_of header.catalog in
    let here = steps_here header self.front self.machine r in
    let now = c.args.ticks.now in
    let new = c.do_steps.new.ticks in
    let same = c.steps_of-steps.ensures ∙ c.in_ok-made.ensures.steps kinds in
    let cost = subst (λ m. CostAtMost 4_294_967_295 objects place_of m here now new) c.in_ok-made.ensures.machine (subst (λ w. CostAtMost 4_294_967_295 objects place_of c.make_steps.new.machine w now new) same c.do_steps.ensures.most) in
    judges_most header self r c.args.line now new cost
