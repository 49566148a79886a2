use Rattle.std.proofs.Common.{◌∙◌, ap, nat_eq, subst}
use Rattle.std.specs.Map.{lookup}
use Rattle.pp_summary.specs.Seen.{IsFirst}
use Rattle.pp_summary.proofs.Counts.{lookup_read}
use Rattle.pp_summary.proofs.seen.Seen.get.Goals as goal

pub returns : goal.returns
returns c =
    let first = subst (λ l. IsFirst c.args.place l c.in_ok-k.k) c.deref.ensures.value c.in_ok-k.ensures.found in
    lookup_read c.args.place c.self.inside.entries.items c.in_ok-k.k c.index.result.now first c.index.ensures
    ∙ ap (λ s. lookup (nat_eq c.args.place) s.entries) c.self.view_is
