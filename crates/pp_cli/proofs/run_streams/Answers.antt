use Rattle.std.proofs.Common.{◌≡◌, subst}
use Rattle.pp_run.specs.Outcomes.{outcome}
use Rattle.pp_run.specs.Runs.{RunPromise}
use Rattle.pp_run.specs.Streams.{counts}
use Rattle.pp_run.specs.Words.{command_of}
use Rattle.pp_cli.proofs.run_streams.Goals as goal

-- the counter begins at 0
pub returns : goal.returns
returns g c =
    let old = c.args.source.now in
    let new = c.run.new.source in
    let held = c.args.sink.now in
    let holds = c.run.new.sink in
    let after = c.run.new.ticks in
    record {
      promise = (
        after,
        subst (λ n. RunPromise (new ≡ old) (holds ≡ held) (command_of c.args.words.now)
            (outcome (g.R.Read.remaining old.stream) (g.R.Read.remaining new.stream) (g.W.Write.contents held.stream) (g.W.Write.contents holds.stream) c.run.result n after)
            (counts old.faults new.faults held.faults holds.faults 0 0 held.flushes holds.flushes))
            c.new-ticks.ensures c.run.ensures.promise,
      );
      laws = c.run.ensures.laws;
    }
