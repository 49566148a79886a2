use Rattle.std.proofs.Common.{◌<◌, ◌∙◌, ap, arith, get_or, length, Some}
use Rattle.std.proofs.lemmas.Option.{slice_get-get_or}
use Rattle.pp_summary.proofs.Counts.{lookup_next}
use Rattle.pp_summary.proofs.seen.position.Goals as goal

pub returns-then-entries-k-clause-found : goal.returns-then-entries-k-clause-found
returns-then-entries-k-clause-found c =
    let lt : c.loop-k.k < length c.args.entries.now = omega arith in
    let e = get_or c.args.entries.now c.loop-k.k (0, 0) in
    record {
      count = e.1;
      here = slice_get-get_or c.args.entries.now c.loop-k.k (0, 0) lt ∙ ap (λ n. Some (n, e.1)) c.if-entries-k.true;
      before = c.loop-k.invariant;
    }

pub loop-k-preserved : goal.loop-k-preserved
loop-k-preserved c =
    let lt : c.loop-k.k < length c.args.entries.now = omega arith in
    lookup_next c.args.place c.args.entries.now c.loop-k.k lt c.if-entries-k.false c.loop-k.invariant
