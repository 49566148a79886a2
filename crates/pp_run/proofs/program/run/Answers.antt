use Rattle.pp_cmd_drill.specs.Prints.{PrintsLines}
use Rattle.pp_core.specs.declared.status.Status.TheVariants as statuses
use Rattle.pp_run.proofs.Endings.{Performs, Reports, no_command, out_of_memory, printed, read_failed, sink_refused, write_failed}
use Rattle.pp_run.proofs.Numbers.{drill_within}
use Rattle.pp_run.proofs.Promises.{drilled_lines}
use Rattle.pp_run.specs.Outcomes.{outcome}
use Rattle.pp_run.specs.Runs.{RunPromise}
use Rattle.pp_run.specs.Streams.{counts}
use Rattle.pp_run.specs.Words.{command_of}
use Rattle.pp_run.specs.Writing.{AppendsPrefix}
use Rattle.pp_run.specs.declared.words.Command.{Command}
use Rattle.pp_run.specs.declared.words.Command.TheVariants.{Drill}
use Rattle.std.proofs.Common.{◌≡◌, ◌∙◌, ℕ, Option, None, Some, ap, refl, rules, subst, sym}
use Rattle.std.specs.Io.KnownBytes.{Appends}
use Rattle.pp_run.proofs.program.run.Goals as goal

-- the number of a `drill` command is in the range of `drill`
pub perform-requires : goal.perform-requires
perform-requires g c = λ n is.
    let command : command_of c.args.words.now ≡ Some c.in-Some.command = search rules in
    drill_within c.args.words.now n (command ∙ ap (λ (k : Command). Some k) is)

-- the arguments are no command
pub returns-in_default-clause-promise : goal.returns-in_default-clause-promise
returns-in_default-clause-promise g c =
    let left = g.S.Source.left c.args.source.now in
    let held = g.K.Sink.held c.args.sink.now in
    let ticks = c.args.ticks.now in
    let reads = g.S.Source.faults c.args.source.now in
    let writes = g.K.Sink.faults c.args.sink.now in
    let refusals = g.K.Sink.refusals c.args.sink.now in
    let flushes = g.K.Sink.flushes c.args.sink.now in
    let none : command_of c.args.words.now ≡ None = search rules in
    subst (λ (o : Option Command). RunPromise (c.args.source.now ≡ c.args.source.now) (c.args.sink.now ≡ c.args.sink.now) o
    (outcome left left held held statuses.BadWords ticks ticks) (counts reads reads writes writes refusals refusals flushes flushes)) (sym none)
    (no_command _ _ left left held held ticks ticks (counts reads reads writes writes refusals refusals flushes flushes) refl refl refl refl refl refl)

-- the output was written and flushed
pub returns-in-Ok-send-clause-promise : goal.returns-in-Ok-send-clause-promise
returns-in-Ok-send-clause-promise g c =
    let source = c.args.source.now in
    let source' = c.perform.new.source in
    let sink = c.args.sink.now in
    let sink' = c.send.new.sink in
    let left = g.S.Source.left source in
    let left' = g.S.Source.left source' in
    let held = g.K.Sink.held sink in
    let held' = g.K.Sink.held sink' in
    let ticks = c.args.ticks.now in
    let ticks' = c.perform.new.ticks in
    let n = counts (g.S.Source.faults source) (g.S.Source.faults source') (g.K.Sink.faults sink) (g.K.Sink.faults sink')
    (g.K.Sink.refusals sink) (g.K.Sink.refusals sink') (g.K.Sink.flushes sink) (g.K.Sink.flushes sink') in
    let k = c.in-Some.command in
    let made = c.perform.ensures in
    let command : command_of c.args.words.now ≡ Some k = search rules in
    let lines : (m : ℕ) → Some k ≡ Some (Drill m) → PrintsLines m = subst (λ (o : Option Command). (m : ℕ) → o ≡ Some (Drill m) → PrintsLines m) command (drilled_lines c.args.words.now) in
    let performs : Performs (source' ≡ source) k left ticks ticks' n = record { untouched = made.untouched; count = made.count; most = made.most; lines = lines } in
    let s = c.in-Ok.report.0 in
    let text = c.in-Ok.report.1 in
    let r = c.in-Ok.ensures in
    let reports : Reports k left left' ticks ticks' s text = record { output = r.output; status = r.status; size = r.size; whole = r.end; shown = r.shown; opaque = r.opaque; judged = r.judged; checked = r.checked; least = r.least } in
    let told = c.in-Ok-send.ensures in
    let reads : g.S.Source.faults source' ≡ g.S.Source.faults source = search rules in
    let writes : g.K.Sink.faults sink' ≡ g.K.Sink.faults sink = told.faultless in
    let written : Appends held held' text = subst (Appends held held') c.bytes.ensures told.ok in
    subst (λ (o : Option Command). RunPromise (source' ≡ source) (sink' ≡ sink) o (outcome left left' held held' s ticks ticks') n) (sym command)
    (printed (source' ≡ source) (sink' ≡ sink) left left' held held' ticks ticks' n k performs s text reports reads writes written told.flushed)

-- a write or the flush failed
pub returns-in-Err-WriteFault-clause-promise : goal.returns-in-Err-WriteFault-clause-promise
returns-in-Err-WriteFault-clause-promise g c =
    let source = c.args.source.now in
    let source' = c.perform.new.source in
    let sink = c.args.sink.now in
    let sink' = c.send.new.sink in
    let left = g.S.Source.left source in
    let left' = g.S.Source.left source' in
    let held = g.K.Sink.held sink in
    let held' = g.K.Sink.held sink' in
    let ticks = c.args.ticks.now in
    let ticks' = c.perform.new.ticks in
    let n = counts (g.S.Source.faults source) (g.S.Source.faults source') (g.K.Sink.faults sink) (g.K.Sink.faults sink')
    (g.K.Sink.refusals sink) (g.K.Sink.refusals sink') (g.K.Sink.flushes sink) (g.K.Sink.flushes sink') in
    let k = c.in-Some.command in
    let made = c.perform.ensures in
    let command : command_of c.args.words.now ≡ Some k = search rules in
    let lines : (m : ℕ) → Some k ≡ Some (Drill m) → PrintsLines m = subst (λ (o : Option Command). (m : ℕ) → o ≡ Some (Drill m) → PrintsLines m) command (drilled_lines c.args.words.now) in
    let performs : Performs (source' ≡ source) k left ticks ticks' n = record { untouched = made.untouched; count = made.count; most = made.most; lines = lines } in
    let s = c.in-Ok.report.0 in
    let text = c.in-Ok.report.1 in
    let r = c.in-Ok.ensures in
    let reports : Reports k left left' ticks ticks' s text = record { output = r.output; status = r.status; size = r.size; whole = r.end; shown = r.shown; opaque = r.opaque; judged = r.judged; checked = r.checked; least = r.least } in
    let written : AppendsPrefix held held' text = subst (AppendsPrefix held held') c.bytes.ensures c.in-Err-WriteFault.ensures.err in
    subst (λ (o : Option Command). RunPromise (source' ≡ source) (sink' ≡ sink) o (outcome left left' held held' statuses.WriteFault ticks ticks') n) (sym command)
    (write_failed (source' ≡ source) (sink' ≡ sink) left left' held held' ticks ticks' n k performs s text reports written c.send.ensures.once c.send.ensures.count (c.send.ensures.write_fault (search rules)))

-- the sink was out of memory
pub returns-clause-promise : goal.returns-clause-promise
returns-clause-promise g c =
    let source = c.args.source.now in
    let source' = c.perform.new.source in
    let sink = c.args.sink.now in
    let sink' = c.send.new.sink in
    let left = g.S.Source.left source in
    let left' = g.S.Source.left source' in
    let held = g.K.Sink.held sink in
    let held' = g.K.Sink.held sink' in
    let ticks = c.args.ticks.now in
    let ticks' = c.perform.new.ticks in
    let n = counts (g.S.Source.faults source) (g.S.Source.faults source') (g.K.Sink.faults sink) (g.K.Sink.faults sink')
    (g.K.Sink.refusals sink) (g.K.Sink.refusals sink') (g.K.Sink.flushes sink) (g.K.Sink.flushes sink') in
    let k = c.in-Some.command in
    let made = c.perform.ensures in
    let command : command_of c.args.words.now ≡ Some k = search rules in
    let lines : (m : ℕ) → Some k ≡ Some (Drill m) → PrintsLines m = subst (λ (o : Option Command). (m : ℕ) → o ≡ Some (Drill m) → PrintsLines m) command (drilled_lines c.args.words.now) in
    let performs : Performs (source' ≡ source) k left ticks ticks' n = record { untouched = made.untouched; count = made.count; most = made.most; lines = lines } in
    let s = c.in-Ok.report.0 in
    let text = c.in-Ok.report.1 in
    let r = c.in-Ok.ensures in
    let reports : Reports k left left' ticks ticks' s text = record { output = r.output; status = r.status; size = r.size; whole = r.end; shown = r.shown; opaque = r.opaque; judged = r.judged; checked = r.checked; least = r.least } in
    let written : AppendsPrefix held held' text = subst (AppendsPrefix held held') c.bytes.ensures c.in-Err-Memory.ensures.err in
    subst (λ (o : Option Command). RunPromise (source' ≡ source) (sink' ≡ sink) o (outcome left left' held held' statuses.OutOfMemory ticks ticks') n) (sym command)
    (sink_refused (source' ≡ source) (sink' ≡ sink) left left' held held' ticks ticks' n k performs s text reports written c.send.ensures.once c.send.ensures.count (c.send.ensures.memory (search rules)))

-- a read failed
pub returns-in-Err-ReadFault-clause-promise : goal.returns-in-Err-ReadFault-clause-promise
returns-in-Err-ReadFault-clause-promise g c =
    let source = c.args.source.now in
    let source' = c.perform.new.source in
    let sink = c.args.sink.now in
    let sink' = c.args.sink.now in
    let left = g.S.Source.left source in
    let left' = g.S.Source.left source' in
    let held = g.K.Sink.held sink in
    let held' = g.K.Sink.held sink' in
    let ticks = c.args.ticks.now in
    let ticks' = c.perform.new.ticks in
    let n = counts (g.S.Source.faults source) (g.S.Source.faults source') (g.K.Sink.faults sink) (g.K.Sink.faults sink')
    (g.K.Sink.refusals sink) (g.K.Sink.refusals sink') (g.K.Sink.flushes sink) (g.K.Sink.flushes sink') in
    let k = c.in-Some.command in
    let made = c.perform.ensures in
    let command : command_of c.args.words.now ≡ Some k = search rules in
    let lines : (m : ℕ) → Some k ≡ Some (Drill m) → PrintsLines m = subst (λ (o : Option Command). (m : ℕ) → o ≡ Some (Drill m) → PrintsLines m) command (drilled_lines c.args.words.now) in
    let performs : Performs (source' ≡ source) k left ticks ticks' n = record { untouched = made.untouched; count = made.count; most = made.most; lines = lines } in
    let told = made.read_fault (search rules) in
    subst (λ (o : Option Command). RunPromise (source' ≡ source) (sink' ≡ sink) o (outcome left left' held held' statuses.ReadFault ticks ticks') n) (sym command)
    (read_failed (source' ≡ source) (sink' ≡ sink) left left' held held' ticks ticks' n k performs refl (made.reading (search rules)) told.0 told.1 refl refl)

-- out of memory before the output was whole
pub returns-in-Err-OutOfMemory-clause-promise : goal.returns-in-Err-OutOfMemory-clause-promise
returns-in-Err-OutOfMemory-clause-promise g c =
    let source = c.args.source.now in
    let source' = c.perform.new.source in
    let sink = c.args.sink.now in
    let sink' = c.args.sink.now in
    let left = g.S.Source.left source in
    let left' = g.S.Source.left source' in
    let held = g.K.Sink.held sink in
    let held' = g.K.Sink.held sink' in
    let ticks = c.args.ticks.now in
    let ticks' = c.perform.new.ticks in
    let n = counts (g.S.Source.faults source) (g.S.Source.faults source') (g.K.Sink.faults sink) (g.K.Sink.faults sink')
    (g.K.Sink.refusals sink) (g.K.Sink.refusals sink') (g.K.Sink.flushes sink) (g.K.Sink.flushes sink') in
    let k = c.in-Some.command in
    let made = c.perform.ensures in
    let command : command_of c.args.words.now ≡ Some k = search rules in
    let lines : (m : ℕ) → Some k ≡ Some (Drill m) → PrintsLines m = subst (λ (o : Option Command). (m : ℕ) → o ≡ Some (Drill m) → PrintsLines m) command (drilled_lines c.args.words.now) in
    let performs : Performs (source' ≡ source) k left ticks ticks' n = record { untouched = made.untouched; count = made.count; most = made.most; lines = lines } in
    subst (λ (o : Option Command). RunPromise (source' ≡ source) (sink' ≡ sink) o (outcome left left' held held' statuses.OutOfMemory ticks ticks') n) (sym command)
    (out_of_memory (source' ≡ source) (sink' ≡ sink) left left' held held' ticks ticks' n k performs refl refl refl refl)
