use Rattle.std.proofs.Common.{◌≤◌, ◌<◌, ◌+◌, ◌*◌, ℕ, length, sym, ap, subst, arith}
use Rattle.std.proofs.lemmas.List.{length-map}
use Rattle.pp_core.specs.declared.limits.TheConstants.{MOST_VIEWED}
use Rattle.pp_core.specs.Steps.{meaning}
use Rattle.pp_model.specs.Sound.{serial_ops}
use Rattle.pp_styles.specs.Meanings.{meanings}
use Rattle.pp_attempts.specs.Peaks.{IsFaultOf, operations, peaks}
use Rattle.pp_cmd_views.proofs.Telling.{few_cost, few_steps, orderly_steps, told_too_large}
use Rattle.pp_cmd_views.proofs.report.report_views.Goals as goal

pub peaks_of-requires-clause-few : goal.peaks_of-requires-clause-few
peaks_of-requires-clause-few g c =
    let steps = c.args.steps.now in
    omega (arith, length-map steps meaning, few_steps c.requires.0 c.args.tally.now c.args.machine.now (meanings steps) c.requires.1)

pub peaks_of-requires-clause-orderly : goal.peaks_of-requires-clause-orderly
peaks_of-requires-clause-orderly g c = orderly_steps c.requires.0 c.args.tally.now c.args.machine.now (meanings c.args.steps.now) c.requires.1

pub views_told-requires : goal.views_told-requires
views_told-requires g c = (c.requires.0, meanings c.args.steps.now, c.requires.1, c.in-Ok.ensures.peaks)

pub returns-in_ok-text-in-Ok-clause-told : goal.returns-in_ok-text-in-Ok-clause-told
returns-in_ok-text-in-Ok-clause-told g c = λ sc h.
    let steps = meanings c.args.steps.now in
    let few : operations (peaks steps) ≤ MOST_VIEWED = subst (λ (n : ℕ). operations (peaks steps) ≤ n) c.from.ensures c.in-Ok.ensures.few in
    c.in_ok-text-in-Ok.ensures.told sc steps h c.in-Ok.ensures.peaks few

pub returns-in_ok-text-in-Ok-clause-bound : goal.returns-in_ok-text-in-Ok-clause-bound
returns-in_ok-text-in-Ok-clause-bound g c =
    let steps = meanings c.args.steps.now in
    let D = c.args.machine.now.config.done in
    let few : operations (peaks steps) ≤ MOST_VIEWED = subst (λ (n : ℕ). operations (peaks steps) ≤ n) c.from.ensures c.in-Ok.ensures.few in
    subst (λ (n : ℕ). c.views_told.new.ticks ≤ c.args.ticks.now + n) (sym (few_cost D steps few))
    (subst (λ (n : ℕ). c.views_told.new.ticks ≤ c.args.ticks.now + (length (serial_ops D) + 2 * ((length D + 1) * n))) (ap operations c.in-Ok.ensures.peaks)
    (let most = c.in_ok-text-in-Ok.ensures.bound in omega (arith, most)))

pub returns-in_err-text-in-Ok-clause-bound : goal.returns-in_err-text-in-Ok-clause-bound
returns-in_err-text-in-Ok-clause-bound g c =
    let steps = meanings c.args.steps.now in
    let D = c.args.machine.now.config.done in
    let few : operations (peaks steps) ≤ MOST_VIEWED = subst (λ (n : ℕ). operations (peaks steps) ≤ n) c.from.ensures c.in-Ok.ensures.few in
    subst (λ (n : ℕ). c.views_told.new.ticks ≤ c.args.ticks.now + n) (sym (few_cost D steps few))
    (subst (λ (n : ℕ). c.views_told.new.ticks ≤ c.args.ticks.now + (length (serial_ops D) + 2 * ((length D + 1) * n))) (ap operations c.in-Ok.ensures.peaks)
    (let most = c.in_err-text-in-Ok.ensures.bound in omega (arith, most)))

pub returns-in_ok-text-in-Err-TooMany-clause-told : goal.returns-in_ok-text-in-Err-TooMany-clause-told
returns-in_ok-text-in-Err-TooMany-clause-told g c = λ sc h.
    let steps = meanings c.args.steps.now in
    let n = operations (peaks steps) in
    let fault = subst (λ fault. IsFaultOf n c.from.result fault) c.in-Err-TooMany.field-0-is c.in-Err-TooMany.ensures.fault in
    told_too_large sc c.args.tally.now c.args.machine.now steps h c.in-Err-TooMany.count c.in_ok-text-in-Err-TooMany.text fault.0
    (subst (λ (m : ℕ). m < n) c.from.ensures fault.1) c.in_ok-text-in-Err-TooMany.ensures
