use Rattle.std.proofs.Common.{◌<◌, None, Some, ap, subst, sym, ◌∙◌}
use Rattle.std.specs.Map.{lookup}
use Rattle.pp_log_shared.specs.declared.numbers.Holder.{Holder}
use Rattle.pp_log_shared.specs.Numbers.{amount, counted_of, same_holder}
use Rattle.pp_log_shared.proofs.numbers.Tallies.others_pass.Goals as goal

pub returns-in-Some : goal.returns-in-Some
returns-in-Some c = λ yes n others.
    let k : Holder = record { owner = Some c.args.owner.now; form = c.args.form } in
    let all = c.args.all.now in
    let found = ap (λ z. lookup (same_holder k) z) (sym c.self.view_is) ∙ sym c.in-Some.ensures.value in
    c.others_pass.ensures yes
    (subst (λ t. amount None (counted_of t) < amount None all) found others.size)
    n (subst (λ t. amount (Some n) (counted_of t) < amount (Some n) all) found others.number)
