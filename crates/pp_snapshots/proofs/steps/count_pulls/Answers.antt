use Rattle.std.proofs.Common.{◌∙◌, ◌==◌, ap}
use Rattle.std.specs.List.{list_any}
use Rattle.pp_snapshots.specs.Shown.{seen_in}
use Rattle.pp_snapshots.specs.Steps.{pulls_first}
use Rattle.pp_snapshots.proofs.steps.count_pulls.Goals as goal

pub returns : goal.returns
returns g c =
    let q = c.args.place in
    let x = c.args.it.now in
    c.pulls_of.ensures
    ∙ ap (λ n. pulls_first n c.has_own_at-own.result c.count_at-all.result) c.seen_at-seen.ensures
    ∙ ap (λ b. pulls_first (seen_in x.seen.entries q) b c.count_at-all.result) (c.has_own_at-own.ensures ∙ ap (λ l. list_any (λ p. g.S.Placed.place_of p.op == q) l) c.as_slice.ensures)
    ∙ ap (λ n. pulls_first (seen_in x.seen.entries q) (list_any (λ p. g.S.Placed.place_of p.op == q) x.own) n) c.count_at-all.ensures
