use Rattle.std.proofs.Common.{Some, subst, sym}
use Rattle.std.proofs.lemmas.Result.{IfOk-weaker}
use Rattle.pp_input_reader.proofs.Takers.{if_ok_all}
use Rattle.pp_run.proofs.Performing.{answered, checked, checked_fits, decided_fits, focused, focused_fits, sized}
use Rattle.pp_run.proofs.Performing.{whole_sound}
use Rattle.pp_run.specs.Bounds.{RisesAtLeast, RisesAtMost}
use Rattle.pp_run.specs.Outputs.{IsOfWhole, IsOutput, OfInput, ReadsSound}
use Rattle.pp_run.specs.Words.{DrivesMachine, Reads, TellsSize}
use Rattle.pp_run.specs.declared.words.Command.{Command}
use Rattle.pp_run.proofs.perform.perform.Goals as goal

-- ---- what is printed

pub returns-in-Certify-clause-output : goal.returns-in-Certify-clause-output
returns-in-Certify-clause-output g c =
    let left = g.S.Source.left c.args.source.now in
    IfOk-weaker c.certify.result _ _ (λ r here. subst (λ (k : Command). OfInput (Some k) left (λ bytes. IsOutput (Some k) bytes r.0 r.1)) (sym c.in-Certify.is) here) c.certify.ensures.report

pub returns-in-Expand-clause-output : goal.returns-in-Expand-clause-output
returns-in-Expand-clause-output g c =
    let left = g.S.Source.left c.args.source.now in
    IfOk-weaker c.expand.result _ _ (λ r here. subst (λ (k : Command). OfInput (Some k) left (λ bytes. IsOutput (Some k) bytes r.0 r.1)) (sym c.in-Expand.is) here) c.expand.ensures.output

pub returns-in-Judge-clause-output : goal.returns-in-Judge-clause-output
returns-in-Judge-clause-output g c =
    let left = g.S.Source.left c.args.source.now in
    IfOk-weaker c.judge.result _ _ (λ r here. subst (λ (k : Command). OfInput (Some k) left (λ bytes. IsOutput (Some k) bytes r.0 r.1)) (sym c.in-Judge.is) here) c.judge.ensures.output

pub returns-in-Quick-clause-output : goal.returns-in-Quick-clause-output
returns-in-Quick-clause-output g c =
    let left = g.S.Source.left c.args.source.now in
    IfOk-weaker c.quick.result _ _ (λ r here. subst (λ (k : Command). OfInput (Some k) left (λ bytes. IsOutput (Some k) bytes r.0 r.1)) (sym c.in-Quick.is) here) c.quick.ensures.output

pub returns-in-Swaps-clause-output : goal.returns-in-Swaps-clause-output
returns-in-Swaps-clause-output g c =
    let left = g.S.Source.left c.args.source.now in
    IfOk-weaker c.swaps.result _ _ (λ r here. subst (λ (k : Command). OfInput (Some k) left (λ bytes. IsOutput (Some k) bytes r.0 r.1)) (sym c.in-Swaps.is) here) c.swaps.ensures.output

pub returns-in-Recheck-clause-output : goal.returns-in-Recheck-clause-output
returns-in-Recheck-clause-output g c =
    let left = g.S.Source.left c.args.source.now in
    IfOk-weaker c.recheck.result _ _ (λ r here. subst (λ (k : Command). OfInput (Some k) left (λ bytes. IsOutput (Some k) bytes r.0 r.1)) (sym c.in-Recheck.is) here) c.recheck.ensures.output

pub returns-in-Views-clause-output : goal.returns-in-Views-clause-output
returns-in-Views-clause-output g c =
    let left = g.S.Source.left c.args.source.now in
    IfOk-weaker c.views.result _ _ (λ r here. subst (λ (k : Command). OfInput (Some k) left (λ bytes. IsOutput (Some k) bytes r.0 r.1)) (sym c.in-Views.is) here) c.views.ensures.output

pub returns-in-Opaque-clause-output : goal.returns-in-Opaque-clause-output
returns-in-Opaque-clause-output g c =
    let left = g.S.Source.left c.args.source.now in
    IfOk-weaker c.opaque.result _ _ (λ r here. subst (λ (k : Command). OfInput (Some k) left (λ bytes. IsOutput (Some k) bytes r.0 r.1)) (sym c.in-Opaque.is) here) c.opaque.ensures.output

pub returns-in-Focus-clause-output : goal.returns-in-Focus-clause-output
returns-in-Focus-clause-output g c =
    let left = g.S.Source.left c.args.source.now in
    IfOk-weaker c.focus.result _ _ (λ r here. subst (λ (k : Command). OfInput (Some k) left (λ bytes. IsOutput (Some k) bytes r.0 r.1)) (sym c.in-Focus.is) here) c.focus.ensures.output

-- ---- how it ends

pub returns-in-Certify-clause-status : goal.returns-in-Certify-clause-status
returns-in-Certify-clause-status g c = IfOk-weaker c.certify.result _ _ (λ r. answered r.0) c.certify.ensures.status

pub returns-in-Expand-clause-status : goal.returns-in-Expand-clause-status
returns-in-Expand-clause-status g c = IfOk-weaker c.expand.result _ _ (λ r. answered r.0) c.expand.ensures.status

pub returns-in-Judge-clause-status : goal.returns-in-Judge-clause-status
returns-in-Judge-clause-status g c = IfOk-weaker c.judge.result _ _ (λ r. answered r.0) c.judge.ensures.status

pub returns-in-Quick-clause-status : goal.returns-in-Quick-clause-status
returns-in-Quick-clause-status g c = IfOk-weaker c.quick.result _ _ (λ r. answered r.0) c.quick.ensures.status

pub returns-in-Swaps-clause-status : goal.returns-in-Swaps-clause-status
returns-in-Swaps-clause-status g c = IfOk-weaker c.swaps.result _ _ (λ r. sized r.0) c.swaps.ensures.status

pub returns-in-Recheck-clause-status : goal.returns-in-Recheck-clause-status
returns-in-Recheck-clause-status g c = IfOk-weaker c.recheck.result _ _ (λ r. checked r.0) c.recheck.ensures.status

pub returns-in-Views-clause-status : goal.returns-in-Views-clause-status
returns-in-Views-clause-status g c = IfOk-weaker c.views.result _ _ (λ r. sized r.0) c.views.ensures.status

pub returns-in-Opaque-clause-status : goal.returns-in-Opaque-clause-status
returns-in-Opaque-clause-status g c = IfOk-weaker c.opaque.result _ _ (λ r. answered r.0) c.opaque.ensures.status

pub returns-in-Focus-clause-status : goal.returns-in-Focus-clause-status
returns-in-Focus-clause-status g c = IfOk-weaker c.focus.result _ _ (λ r. focused r.0) c.focus.ensures.status

-- ---- whether the output is above a limit

pub returns-in-Certify-clause-size : goal.returns-in-Certify-clause-size
returns-in-Certify-clause-size g c = IfOk-weaker c.certify.result _ _ (λ r told large. absurd (decided_fits r.0 told large)) c.certify.ensures.status

pub returns-in-Expand-clause-size : goal.returns-in-Expand-clause-size
returns-in-Expand-clause-size g c = IfOk-weaker c.expand.result _ _ (λ r told large. absurd (decided_fits r.0 told large)) c.expand.ensures.status

pub returns-in-Judge-clause-size : goal.returns-in-Judge-clause-size
returns-in-Judge-clause-size g c = IfOk-weaker c.judge.result _ _ (λ r told large. absurd (decided_fits r.0 told large)) c.judge.ensures.status

pub returns-in-Quick-clause-size : goal.returns-in-Quick-clause-size
returns-in-Quick-clause-size g c = IfOk-weaker c.quick.result _ _ (λ r told large. absurd (decided_fits r.0 told large)) c.quick.ensures.status

pub returns-in-Recheck-clause-size : goal.returns-in-Recheck-clause-size
returns-in-Recheck-clause-size g c = IfOk-weaker c.recheck.result _ _ (λ r told large. absurd (checked_fits r.0 told large)) c.recheck.ensures.status

pub returns-in-Focus-clause-size : goal.returns-in-Focus-clause-size
returns-in-Focus-clause-size g c = IfOk-weaker c.focus.result _ _ (λ r told large. absurd (focused_fits r.0 told large)) c.focus.ensures.status

pub returns-in-Swaps-clause-size : goal.returns-in-Swaps-clause-size
returns-in-Swaps-clause-size g c = if_ok_all c.swaps.result _ (λ r large. subst (λ (k : Command). TellsSize (Some k)) (sym c.in-Swaps.is) tt)

pub returns-in-Views-clause-size : goal.returns-in-Views-clause-size
returns-in-Views-clause-size g c = if_ok_all c.views.result _ (λ r large. subst (λ (k : Command). TellsSize (Some k)) (sym c.in-Views.is) tt)

pub returns-in-Opaque-clause-size : goal.returns-in-Opaque-clause-size
returns-in-Opaque-clause-size g c = IfOk-weaker c.opaque.result _ _ (λ r told large. absurd (decided_fits r.0 told large)) c.opaque.ensures.status

-- ---- what is read to its end

pub returns-in-Certify-clause-end : goal.returns-in-Certify-clause-end
returns-in-Certify-clause-end g c =
    IfOk-weaker c.certify.result _ _ (λ r end whole. end (subst (λ (k : Command). IsOfWhole (Some k) r.0) c.in-Certify.is whole)) c.certify.ensures.end

pub returns-in-Expand-clause-end : goal.returns-in-Expand-clause-end
returns-in-Expand-clause-end g c =
    IfOk-weaker c.expand.result _ _ (λ r end whole. end (subst (λ (k : Command). IsOfWhole (Some k) r.0) c.in-Expand.is whole)) c.expand.ensures.end

pub returns-in-Judge-clause-end : goal.returns-in-Judge-clause-end
returns-in-Judge-clause-end g c =
    IfOk-weaker c.judge.result _ _ (λ r end whole. end (subst (λ (k : Command). IsOfWhole (Some k) r.0) c.in-Judge.is whole)) c.judge.ensures.end

pub returns-in-Quick-clause-end : goal.returns-in-Quick-clause-end
returns-in-Quick-clause-end g c =
    IfOk-weaker c.quick.result _ _ (λ r end whole. end (subst (λ (k : Command). IsOfWhole (Some k) r.0) c.in-Quick.is whole)) c.quick.ensures.end

pub returns-in-Swaps-clause-end : goal.returns-in-Swaps-clause-end
returns-in-Swaps-clause-end g c =
    IfOk-weaker c.swaps.result _ _ (λ r end whole. end (whole_sound r.0 (subst (λ (k : Command). IsOfWhole (Some k) r.0) c.in-Swaps.is whole))) c.swaps.ensures.end

pub returns-in-Recheck-clause-end : goal.returns-in-Recheck-clause-end
returns-in-Recheck-clause-end g c =
    IfOk-weaker c.recheck.result _ _ (λ r end whole. end (subst (λ (k : Command). IsOfWhole (Some k) r.0) c.in-Recheck.is whole)) c.recheck.ensures.end

pub returns-in-Views-clause-end : goal.returns-in-Views-clause-end
returns-in-Views-clause-end g c =
    IfOk-weaker c.views.result _ _ (λ r end whole. end (whole_sound r.0 (subst (λ (k : Command). IsOfWhole (Some k) r.0) c.in-Views.is whole))) c.views.ensures.end

pub returns-in-Opaque-clause-end : goal.returns-in-Opaque-clause-end
returns-in-Opaque-clause-end g c =
    IfOk-weaker c.opaque.result _ _ (λ r end whole. end (subst (λ (k : Command). IsOfWhole (Some k) r.0) c.in-Opaque.is whole)) c.opaque.ensures.end

pub returns-in-Focus-clause-end : goal.returns-in-Focus-clause-end
returns-in-Focus-clause-end g c =
    IfOk-weaker c.focus.result _ _ (λ r end whole. end (subst (λ (k : Command). IsOfWhole (Some k) r.0) c.in-Focus.is whole)) c.focus.ensures.end

-- ---- the evidence of a rejection

pub returns-in-Certify-clause-shown : goal.returns-in-Certify-clause-shown
returns-in-Certify-clause-shown g c = IfOk-weaker c.certify.result _ _ (λ r shown drives. shown) c.certify.ensures.shown

pub returns-in-Expand-clause-shown : goal.returns-in-Expand-clause-shown
returns-in-Expand-clause-shown g c = IfOk-weaker c.expand.result _ _ (λ r shown drives. shown) c.expand.ensures.shown

pub returns-in-Judge-clause-shown : goal.returns-in-Judge-clause-shown
returns-in-Judge-clause-shown g c =
    if_ok_all c.judge.result _ (λ r drives. absurd (subst (λ (k : Command). DrivesMachine (Some k)) c.in-Judge.is drives))

pub returns-in-Quick-clause-shown : goal.returns-in-Quick-clause-shown
returns-in-Quick-clause-shown g c =
    if_ok_all c.quick.result _ (λ r drives. absurd (subst (λ (k : Command). DrivesMachine (Some k)) c.in-Quick.is drives))

pub returns-in-Swaps-clause-shown : goal.returns-in-Swaps-clause-shown
returns-in-Swaps-clause-shown g c = IfOk-weaker c.swaps.result _ _ (λ r shown drives. shown) c.swaps.ensures.shown

pub returns-in-Recheck-clause-shown : goal.returns-in-Recheck-clause-shown
returns-in-Recheck-clause-shown g c =
    if_ok_all c.recheck.result _ (λ r drives. absurd (subst (λ (k : Command). DrivesMachine (Some k)) c.in-Recheck.is drives))

pub returns-in-Views-clause-shown : goal.returns-in-Views-clause-shown
returns-in-Views-clause-shown g c = IfOk-weaker c.views.result _ _ (λ r shown drives. shown) c.views.ensures.shown

pub returns-in-Opaque-clause-shown : goal.returns-in-Opaque-clause-shown
returns-in-Opaque-clause-shown g c =
    if_ok_all c.opaque.result _ (λ r drives. absurd (subst (λ (k : Command). DrivesMachine (Some k)) c.in-Opaque.is drives))

pub returns-in-Focus-clause-shown : goal.returns-in-Focus-clause-shown
returns-in-Focus-clause-shown g c =
    if_ok_all c.focus.result _ (λ r drives. absurd (subst (λ (k : Command). DrivesMachine (Some k)) c.in-Focus.is drives))

-- ---- the evidence of a rejection of `opaque`

pub returns-in-Certify-clause-opaque : goal.returns-in-Certify-clause-opaque
returns-in-Certify-clause-opaque g c =
    if_ok_all c.certify.result _ (λ r is.
    let no : ⊥ = cc in
    absurd no)

pub returns-in-Expand-clause-opaque : goal.returns-in-Expand-clause-opaque
returns-in-Expand-clause-opaque g c =
    if_ok_all c.expand.result _ (λ r is.
    let no : ⊥ = cc in
    absurd no)

pub returns-in-Judge-clause-opaque : goal.returns-in-Judge-clause-opaque
returns-in-Judge-clause-opaque g c =
    if_ok_all c.judge.result _ (λ r is.
    let no : ⊥ = cc in
    absurd no)

pub returns-in-Quick-clause-opaque : goal.returns-in-Quick-clause-opaque
returns-in-Quick-clause-opaque g c =
    if_ok_all c.quick.result _ (λ r is.
    let no : ⊥ = cc in
    absurd no)

pub returns-in-Swaps-clause-opaque : goal.returns-in-Swaps-clause-opaque
returns-in-Swaps-clause-opaque g c =
    if_ok_all c.swaps.result _ (λ r is.
    let no : ⊥ = cc in
    absurd no)

pub returns-in-Recheck-clause-opaque : goal.returns-in-Recheck-clause-opaque
returns-in-Recheck-clause-opaque g c =
    if_ok_all c.recheck.result _ (λ r is.
    let no : ⊥ = cc in
    absurd no)

pub returns-in-Views-clause-opaque : goal.returns-in-Views-clause-opaque
returns-in-Views-clause-opaque g c =
    if_ok_all c.views.result _ (λ r is.
    let no : ⊥ = cc in
    absurd no)

pub returns-in-Focus-clause-opaque : goal.returns-in-Focus-clause-opaque
returns-in-Focus-clause-opaque g c =
    if_ok_all c.focus.result _ (λ r is.
    let no : ⊥ = cc in
    absurd no)

pub returns-in-Opaque-clause-opaque : goal.returns-in-Opaque-clause-opaque
returns-in-Opaque-clause-opaque g c = IfOk-weaker c.opaque.result _ _ (λ r shown is. shown) c.opaque.ensures.shown

-- ---- the evidence of a rejection of `judge`

pub returns-in-Certify-clause-judged : goal.returns-in-Certify-clause-judged
returns-in-Certify-clause-judged g c =
    if_ok_all c.certify.result _ (λ r is.
    let no : ⊥ = cc in
    absurd no)

pub returns-in-Expand-clause-judged : goal.returns-in-Expand-clause-judged
returns-in-Expand-clause-judged g c =
    if_ok_all c.expand.result _ (λ r is.
    let no : ⊥ = cc in
    absurd no)

pub returns-in-Judge-clause-judged : goal.returns-in-Judge-clause-judged
returns-in-Judge-clause-judged g c = IfOk-weaker c.judge.result _ _ (λ r shown is. shown) c.judge.ensures.shown

pub returns-in-Quick-clause-judged : goal.returns-in-Quick-clause-judged
returns-in-Quick-clause-judged g c =
    if_ok_all c.quick.result _ (λ r is.
    let no : ⊥ = cc in
    absurd no)

pub returns-in-Swaps-clause-judged : goal.returns-in-Swaps-clause-judged
returns-in-Swaps-clause-judged g c =
    if_ok_all c.swaps.result _ (λ r is.
    let no : ⊥ = cc in
    absurd no)

pub returns-in-Recheck-clause-judged : goal.returns-in-Recheck-clause-judged
returns-in-Recheck-clause-judged g c =
    if_ok_all c.recheck.result _ (λ r is.
    let no : ⊥ = cc in
    absurd no)

pub returns-in-Views-clause-judged : goal.returns-in-Views-clause-judged
returns-in-Views-clause-judged g c =
    if_ok_all c.views.result _ (λ r is.
    let no : ⊥ = cc in
    absurd no)

pub returns-in-Opaque-clause-judged : goal.returns-in-Opaque-clause-judged
returns-in-Opaque-clause-judged g c =
    if_ok_all c.opaque.result _ (λ r is.
    let no : ⊥ = cc in
    absurd no)

pub returns-in-Focus-clause-judged : goal.returns-in-Focus-clause-judged
returns-in-Focus-clause-judged g c =
    if_ok_all c.focus.result _ (λ r is.
    let no : ⊥ = cc in
    absurd no)

-- ---- what an accepted certificate shows

pub returns-in-Certify-clause-checked : goal.returns-in-Certify-clause-checked
returns-in-Certify-clause-checked g c =
    if_ok_all c.certify.result _ (λ r is.
    let no : ⊥ = cc in
    absurd no)

pub returns-in-Expand-clause-checked : goal.returns-in-Expand-clause-checked
returns-in-Expand-clause-checked g c =
    if_ok_all c.expand.result _ (λ r is.
    let no : ⊥ = cc in
    absurd no)

pub returns-in-Judge-clause-checked : goal.returns-in-Judge-clause-checked
returns-in-Judge-clause-checked g c =
    if_ok_all c.judge.result _ (λ r is.
    let no : ⊥ = cc in
    absurd no)

pub returns-in-Quick-clause-checked : goal.returns-in-Quick-clause-checked
returns-in-Quick-clause-checked g c =
    if_ok_all c.quick.result _ (λ r is.
    let no : ⊥ = cc in
    absurd no)

pub returns-in-Swaps-clause-checked : goal.returns-in-Swaps-clause-checked
returns-in-Swaps-clause-checked g c =
    if_ok_all c.swaps.result _ (λ r is.
    let no : ⊥ = cc in
    absurd no)

pub returns-in-Recheck-clause-checked : goal.returns-in-Recheck-clause-checked
returns-in-Recheck-clause-checked g c = IfOk-weaker c.recheck.result _ _ (λ r told is. told) c.recheck.ensures.checked

pub returns-in-Views-clause-checked : goal.returns-in-Views-clause-checked
returns-in-Views-clause-checked g c =
    if_ok_all c.views.result _ (λ r is.
    let no : ⊥ = cc in
    absurd no)

pub returns-in-Opaque-clause-checked : goal.returns-in-Opaque-clause-checked
returns-in-Opaque-clause-checked g c =
    if_ok_all c.opaque.result _ (λ r is.
    let no : ⊥ = cc in
    absurd no)

pub returns-in-Focus-clause-checked : goal.returns-in-Focus-clause-checked
returns-in-Focus-clause-checked g c =
    if_ok_all c.focus.result _ (λ r is.
    let no : ⊥ = cc in
    absurd no)

-- ---- whether an input is read

pub returns-in-Certify-clause-untouched : goal.returns-in-Certify-clause-untouched
returns-in-Certify-clause-untouched g c = λ none. absurd (none (subst (λ (k : Command). Reads (Some k)) (sym c.in-Certify.is) tt))

pub returns-in-Expand-clause-untouched : goal.returns-in-Expand-clause-untouched
returns-in-Expand-clause-untouched g c = λ none. absurd (none (subst (λ (k : Command). Reads (Some k)) (sym c.in-Expand.is) tt))

pub returns-in-Judge-clause-untouched : goal.returns-in-Judge-clause-untouched
returns-in-Judge-clause-untouched g c = λ none. absurd (none (subst (λ (k : Command). Reads (Some k)) (sym c.in-Judge.is) tt))

pub returns-in-Quick-clause-untouched : goal.returns-in-Quick-clause-untouched
returns-in-Quick-clause-untouched g c = λ none. absurd (none (subst (λ (k : Command). Reads (Some k)) (sym c.in-Quick.is) tt))

pub returns-in-Swaps-clause-untouched : goal.returns-in-Swaps-clause-untouched
returns-in-Swaps-clause-untouched g c = λ none. absurd (none (subst (λ (k : Command). Reads (Some k)) (sym c.in-Swaps.is) tt))

pub returns-in-Recheck-clause-untouched : goal.returns-in-Recheck-clause-untouched
returns-in-Recheck-clause-untouched g c = λ none. absurd (none (subst (λ (k : Command). Reads (Some k)) (sym c.in-Recheck.is) tt))

pub returns-in-Views-clause-untouched : goal.returns-in-Views-clause-untouched
returns-in-Views-clause-untouched g c = λ none. absurd (none (subst (λ (k : Command). Reads (Some k)) (sym c.in-Views.is) tt))

pub returns-in-Opaque-clause-untouched : goal.returns-in-Opaque-clause-untouched
returns-in-Opaque-clause-untouched g c = λ none. absurd (none (subst (λ (k : Command). Reads (Some k)) (sym c.in-Opaque.is) tt))

pub returns-in-Focus-clause-untouched : goal.returns-in-Focus-clause-untouched
returns-in-Focus-clause-untouched g c = λ none. absurd (none (subst (λ (k : Command). Reads (Some k)) (sym c.in-Focus.is) tt))

-- ---- a failed read is reported only by a command that reads

pub returns-in-Certify-clause-reading : goal.returns-in-Certify-clause-reading
returns-in-Certify-clause-reading g c = λ failed. subst (λ (k : Command). Reads (Some k)) (sym c.in-Certify.is) tt

pub returns-in-Expand-clause-reading : goal.returns-in-Expand-clause-reading
returns-in-Expand-clause-reading g c = λ failed. subst (λ (k : Command). Reads (Some k)) (sym c.in-Expand.is) tt

pub returns-in-Judge-clause-reading : goal.returns-in-Judge-clause-reading
returns-in-Judge-clause-reading g c = λ failed. subst (λ (k : Command). Reads (Some k)) (sym c.in-Judge.is) tt

pub returns-in-Quick-clause-reading : goal.returns-in-Quick-clause-reading
returns-in-Quick-clause-reading g c = λ failed. subst (λ (k : Command). Reads (Some k)) (sym c.in-Quick.is) tt

pub returns-in-Swaps-clause-reading : goal.returns-in-Swaps-clause-reading
returns-in-Swaps-clause-reading g c = λ failed. subst (λ (k : Command). Reads (Some k)) (sym c.in-Swaps.is) tt

pub returns-in-Recheck-clause-reading : goal.returns-in-Recheck-clause-reading
returns-in-Recheck-clause-reading g c = λ failed. subst (λ (k : Command). Reads (Some k)) (sym c.in-Recheck.is) tt

pub returns-in-Views-clause-reading : goal.returns-in-Views-clause-reading
returns-in-Views-clause-reading g c = λ failed. subst (λ (k : Command). Reads (Some k)) (sym c.in-Views.is) tt

pub returns-in-Opaque-clause-reading : goal.returns-in-Opaque-clause-reading
returns-in-Opaque-clause-reading g c = λ failed. subst (λ (k : Command). Reads (Some k)) (sym c.in-Opaque.is) tt

pub returns-in-Focus-clause-reading : goal.returns-in-Focus-clause-reading
returns-in-Focus-clause-reading g c = λ failed. subst (λ (k : Command). Reads (Some k)) (sym c.in-Focus.is) tt

-- ---- what was read before a failed read

pub returns-in-Certify-clause-read_fault : goal.returns-in-Certify-clause-read_fault
returns-in-Certify-clause-read_fault g c = λ failed.
    let told = c.certify.ensures.read_fault failed in
    (told.0, subst (λ (k : Command). ReadsSound (Some k) (g.S.Source.left c.args.source.now) (g.S.Source.left c.certify.new.source)) (sym c.in-Certify.is) told.1)

pub returns-in-Expand-clause-read_fault : goal.returns-in-Expand-clause-read_fault
returns-in-Expand-clause-read_fault g c = λ failed.
    let told = c.expand.ensures.read_fault failed in
    (told.0, subst (λ (k : Command). ReadsSound (Some k) (g.S.Source.left c.args.source.now) (g.S.Source.left c.expand.new.source)) (sym c.in-Expand.is) told.1)

pub returns-in-Judge-clause-read_fault : goal.returns-in-Judge-clause-read_fault
returns-in-Judge-clause-read_fault g c = λ failed.
    let told = c.judge.ensures.read_fault failed in
    (told.0, subst (λ (k : Command). ReadsSound (Some k) (g.S.Source.left c.args.source.now) (g.S.Source.left c.judge.new.source)) (sym c.in-Judge.is) told.1)

pub returns-in-Quick-clause-read_fault : goal.returns-in-Quick-clause-read_fault
returns-in-Quick-clause-read_fault g c = λ failed.
    let told = c.quick.ensures.read_fault failed in
    (told.0, subst (λ (k : Command). ReadsSound (Some k) (g.S.Source.left c.args.source.now) (g.S.Source.left c.quick.new.source)) (sym c.in-Quick.is) told.1)

pub returns-in-Swaps-clause-read_fault : goal.returns-in-Swaps-clause-read_fault
returns-in-Swaps-clause-read_fault g c = λ failed.
    let told = c.swaps.ensures.read_fault failed in
    (told.0, subst (λ (k : Command). ReadsSound (Some k) (g.S.Source.left c.args.source.now) (g.S.Source.left c.swaps.new.source)) (sym c.in-Swaps.is) told.1)

pub returns-in-Recheck-clause-read_fault : goal.returns-in-Recheck-clause-read_fault
returns-in-Recheck-clause-read_fault g c = λ failed.
    let told = c.recheck.ensures.read_fault failed in
    (told.0, subst (λ (k : Command). ReadsSound (Some k) (g.S.Source.left c.args.source.now) (g.S.Source.left c.recheck.new.source)) (sym c.in-Recheck.is) told.1)

pub returns-in-Views-clause-read_fault : goal.returns-in-Views-clause-read_fault
returns-in-Views-clause-read_fault g c = λ failed.
    let told = c.views.ensures.read_fault failed in
    (told.0, subst (λ (k : Command). ReadsSound (Some k) (g.S.Source.left c.args.source.now) (g.S.Source.left c.views.new.source)) (sym c.in-Views.is) told.1)

pub returns-in-Opaque-clause-read_fault : goal.returns-in-Opaque-clause-read_fault
returns-in-Opaque-clause-read_fault g c = λ failed.
    let told = c.opaque.ensures.read_fault failed in
    (told.0, subst (λ (k : Command). ReadsSound (Some k) (g.S.Source.left c.args.source.now) (g.S.Source.left c.opaque.new.source)) (sym c.in-Opaque.is) told.1)

pub returns-in-Focus-clause-read_fault : goal.returns-in-Focus-clause-read_fault
returns-in-Focus-clause-read_fault g c = λ failed.
    let told = c.focus.ensures.read_fault failed in
    (told.0, subst (λ (k : Command). ReadsSound (Some k) (g.S.Source.left c.args.source.now) (g.S.Source.left c.focus.new.source)) (sym c.in-Focus.is) told.1)

-- ---- the greatest rise of the counter

pub returns-in-Certify-clause-most : goal.returns-in-Certify-clause-most
returns-in-Certify-clause-most g c = subst (λ (k : Command). RisesAtMost (Some k) (g.S.Source.left c.args.source.now) c.args.ticks.now c.certify.new.ticks) (sym c.in-Certify.is) c.certify.ensures.most

pub returns-in-Expand-clause-most : goal.returns-in-Expand-clause-most
returns-in-Expand-clause-most g c = subst (λ (k : Command). RisesAtMost (Some k) (g.S.Source.left c.args.source.now) c.args.ticks.now c.expand.new.ticks) (sym c.in-Expand.is) c.expand.ensures.most

pub returns-in-Judge-clause-most : goal.returns-in-Judge-clause-most
returns-in-Judge-clause-most g c = subst (λ (k : Command). RisesAtMost (Some k) (g.S.Source.left c.args.source.now) c.args.ticks.now c.judge.new.ticks) (sym c.in-Judge.is) c.judge.ensures.most

pub returns-in-Quick-clause-most : goal.returns-in-Quick-clause-most
returns-in-Quick-clause-most g c = subst (λ (k : Command). RisesAtMost (Some k) (g.S.Source.left c.args.source.now) c.args.ticks.now c.quick.new.ticks) (sym c.in-Quick.is) c.quick.ensures.most

pub returns-in-Swaps-clause-most : goal.returns-in-Swaps-clause-most
returns-in-Swaps-clause-most g c = subst (λ (k : Command). RisesAtMost (Some k) (g.S.Source.left c.args.source.now) c.args.ticks.now c.swaps.new.ticks) (sym c.in-Swaps.is) c.swaps.ensures.most

pub returns-in-Recheck-clause-most : goal.returns-in-Recheck-clause-most
returns-in-Recheck-clause-most g c = subst (λ (k : Command). RisesAtMost (Some k) (g.S.Source.left c.args.source.now) c.args.ticks.now c.recheck.new.ticks) (sym c.in-Recheck.is) c.recheck.ensures.most

pub returns-in-Views-clause-most : goal.returns-in-Views-clause-most
returns-in-Views-clause-most g c = subst (λ (k : Command). RisesAtMost (Some k) (g.S.Source.left c.args.source.now) c.args.ticks.now c.views.new.ticks) (sym c.in-Views.is) c.views.ensures.most

pub returns-in-Opaque-clause-most : goal.returns-in-Opaque-clause-most
returns-in-Opaque-clause-most g c = subst (λ (k : Command). RisesAtMost (Some k) (g.S.Source.left c.args.source.now) c.args.ticks.now c.opaque.new.ticks) (sym c.in-Opaque.is) c.opaque.ensures.most

pub returns-in-Focus-clause-most : goal.returns-in-Focus-clause-most
returns-in-Focus-clause-most g c = subst (λ (k : Command). RisesAtMost (Some k) (g.S.Source.left c.args.source.now) c.args.ticks.now c.focus.new.ticks) (sym c.in-Focus.is) c.focus.ensures.most

-- ---- its least rise

pub returns-in-Certify-clause-least : goal.returns-in-Certify-clause-least
returns-in-Certify-clause-least g c =
    IfOk-weaker c.certify.result _ _ (λ r told. subst (λ (k : Command). RisesAtLeast (Some k) (g.S.Source.left c.args.source.now) r.0 c.args.ticks.now c.certify.new.ticks) (sym c.in-Certify.is) told) c.certify.ensures.least

pub returns-in-Expand-clause-least : goal.returns-in-Expand-clause-least
returns-in-Expand-clause-least g c =
    IfOk-weaker c.expand.result _ _ (λ r told. subst (λ (k : Command). RisesAtLeast (Some k) (g.S.Source.left c.args.source.now) r.0 c.args.ticks.now c.expand.new.ticks) (sym c.in-Expand.is) told) c.expand.ensures.least

pub returns-in-Judge-clause-least : goal.returns-in-Judge-clause-least
returns-in-Judge-clause-least g c =
    IfOk-weaker c.judge.result _ _ (λ r told. subst (λ (k : Command). RisesAtLeast (Some k) (g.S.Source.left c.args.source.now) r.0 c.args.ticks.now c.judge.new.ticks) (sym c.in-Judge.is) told) c.judge.ensures.least

pub returns-in-Quick-clause-least : goal.returns-in-Quick-clause-least
returns-in-Quick-clause-least g c =
    IfOk-weaker c.quick.result _ _ (λ r told. subst (λ (k : Command). RisesAtLeast (Some k) (g.S.Source.left c.args.source.now) r.0 c.args.ticks.now c.quick.new.ticks) (sym c.in-Quick.is) told) c.quick.ensures.least

pub returns-in-Swaps-clause-least : goal.returns-in-Swaps-clause-least
returns-in-Swaps-clause-least g c =
    IfOk-weaker c.swaps.result _ _ (λ r told. subst (λ (k : Command). RisesAtLeast (Some k) (g.S.Source.left c.args.source.now) r.0 c.args.ticks.now c.swaps.new.ticks) (sym c.in-Swaps.is) told) c.swaps.ensures.least

pub returns-in-Recheck-clause-least : goal.returns-in-Recheck-clause-least
returns-in-Recheck-clause-least g c =
    IfOk-weaker c.recheck.result _ _ (λ r told. subst (λ (k : Command). RisesAtLeast (Some k) (g.S.Source.left c.args.source.now) r.0 c.args.ticks.now c.recheck.new.ticks) (sym c.in-Recheck.is) told) c.recheck.ensures.least

pub returns-in-Views-clause-least : goal.returns-in-Views-clause-least
returns-in-Views-clause-least g c =
    IfOk-weaker c.views.result _ _ (λ r told. subst (λ (k : Command). RisesAtLeast (Some k) (g.S.Source.left c.args.source.now) r.0 c.args.ticks.now c.views.new.ticks) (sym c.in-Views.is) told) c.views.ensures.least

pub returns-in-Opaque-clause-least : goal.returns-in-Opaque-clause-least
returns-in-Opaque-clause-least g c =
    IfOk-weaker c.opaque.result _ _ (λ r told. subst (λ (k : Command). RisesAtLeast (Some k) (g.S.Source.left c.args.source.now) r.0 c.args.ticks.now c.opaque.new.ticks) (sym c.in-Opaque.is) told) c.opaque.ensures.least

pub returns-in-Focus-clause-least : goal.returns-in-Focus-clause-least
returns-in-Focus-clause-least g c =
    if_ok_all c.focus.result _ (λ r. subst (λ (k : Command). RisesAtLeast (Some k) (g.S.Source.left c.args.source.now) r.0 c.args.ticks.now c.focus.new.ticks) (sym c.in-Focus.is) tt)
