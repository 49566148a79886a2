use Rattle.std.proofs.Common.{◌≡◌, ◌-◌, ℕ, List, Some, length, slice_get, sym, ◌∙◌, ap, subst, arith}
use Rattle.std.proofs.lemmas.List.{length-map}
use Rattle.pp_core.specs.declared.entry.CommittedTx.{CommittedTx}
use Rattle.pp_core.specs.Steps.{meaning}
use Rattle.pp_objects.specs.declared.act.Op.{Op}
use Rattle.pp_opacity.specs.Results.{IsFound}
use Rattle.pp_styles.specs.Meanings.{meanings}
use Rattle.pp_judge.specs.Objects.{object_of, start_of}
use Rattle.pp_cmd_opaque.proofs.Reporting.{kept_lines, opaque_output, zombie_output}
use Rattle.pp_cmd_opaque.proofs.Searching.{zombie_named, zombie_within}
use Rattle.pp_cmd_opaque.proofs.report.report_opacity.Goals as goal

pub returns-in_default-clause-output : goal.returns-in_default-clause-output
returns-in_default-clause-output g c = λ sc k.
    let header = c.args.tally.now.header in
    let steps = c.args.kept.now.steps in
    let found = subst (λ o. IsFound (object_of header) (start_of header) (meanings steps) o) c.in_default.is c.in_ok-zombie.ensures.found in
    opaque_output sc c.args.tally.now c.args.machine.now c.args.kept.now k c.len.result c.len-in_default.result c.in_ok-text.text found
    (c.len.ensures ∙ sym (length-map steps meaning)) (c.len-in_default.ensures ∙ ap (λ (D : List (CommittedTx Op)). length D) c.committed-committed.ensures.done) c.in_ok-text.ensures

pub line_of-line-requires-clause-within : goal.line_of-line-requires-clause-within
line_of-line-requires-clause-within g c =
    let header = c.args.tally.now.header in
    let kept = c.args.kept.now in
    let k = c.requires.1 in
    let is = subst (λ o. IsFound (object_of header) (start_of header) (meanings kept.steps) o) c.in-Some.is c.in_ok-zombie.ensures.found in
    let within = (zombie_within c.requires.0 c.args.tally.now c.args.machine.now (meanings kept.steps) k.steps c.in-Some.zombie is).1 in
    let many = kept_lines c.requires.0 c.args.tally.now c.args.machine.now kept k in
    let same = ap (λ (ls : List ℕ). length ls) c.as_slice.ensures in
    omega (arith, within, many, same)

pub line_of-line-requires-clause-some : goal.line_of-line-requires-clause-some
line_of-line-requires-clause-some g c =
    let header = c.args.tally.now.header in
    let kept = c.args.kept.now in
    let is = subst (λ o. IsFound (object_of header) (start_of header) (meanings kept.steps) o) c.in-Some.is c.in_ok-zombie.ensures.found in
    (zombie_within c.requires.0 c.args.tally.now c.args.machine.now (meanings kept.steps) c.requires.1.steps c.in-Some.zombie is).0

pub zombie_text-requires : goal.zombie_text-requires
zombie_text-requires g c =
    let header = c.args.tally.now.header in
    let kept = c.args.kept.now in
    let is = subst (λ o. IsFound (object_of header) (start_of header) (meanings kept.steps) o) c.in-Some.is c.in_ok-zombie.ensures.found in
    zombie_named c.requires.0 c.args.tally.now c.args.machine.now (meanings kept.steps) c.requires.1.steps c.in-Some.zombie is

pub returns-clause-output : goal.returns-clause-output
returns-clause-output g c = λ sc k.
    let header = c.args.tally.now.header in
    let kept = c.args.kept.now in
    let is = subst (λ o. IsFound (object_of header) (start_of header) (meanings kept.steps) o) c.in-Some.is c.in_ok-zombie.ensures.found in
    zombie_output sc c.args.tally.now c.args.machine.now kept k c.in-Some.zombie c.line_of-line.result c.in_ok-text-2.text is
    (subst (λ (ls : List ℕ). slice_get ls (c.in-Some.zombie.step - 1) ≡ Some c.line_of-line.result) c.as_slice.ensures c.line_of-line.ensures) c.in_ok-text-2.ensures
