use Rattle.std.proofs.Common.{◌∙◌, ℕ, Some, ap, cond, length, nat_eq, refl, subst}
use Rattle.std.specs.Map.{lookup}
use Rattle.pp_body.specs.Walks.{HasTakenOneMore}
use Rattle.pp_summary.specs.Shown.{at}
use Rattle.pp_summary.proofs.open_tx.add_operation.Goals as goal

pub returns : goal.returns
returns g c =
    let commits = c.args.commits.now.items in
    let seen = c.args.it.now.seen.entries in
    record {
      thread = refl;
      body = c.in_ok-follow.ensures.body;
      taken = subst (λ z. HasTakenOneMore c.args.it.now.walk z c.follow.new.self) c.call.ensures c.in_ok-follow.ensures.taken;
      own = c.in_ok-add.ensures;
      seen = λ q.
          c.in_ok-insert.ensures q
          ∙ ap (λ (n : ℕ). cond (nat_eq c.place-place.result q) (Some n) (lookup (nat_eq q) seen)) c.count_at.ensures
          ∙ ap (λ (n : ℕ). cond (nat_eq n q) (Some (length (at n commits))) (lookup (nat_eq q) seen)) c.place-place.ensures;
    }
