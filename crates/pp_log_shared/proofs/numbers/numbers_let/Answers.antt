use Rattle.std.proofs.Common.{subst}
use Rattle.pp_log_shared.specs.Numbers.{CountsAllOf}
use Rattle.pp_log_shared.proofs.Counting.{entry_swaps}
use Rattle.pp_log_shared.proofs.numbers.numbers_let.Goals as goal

pub returns-in-Some : goal.returns-in-Some
returns-in-Some g c = λ yes x counts e there other.
    entry_swaps g.S.Spec.object g.S.Parted.label_of c.args.owner.now c.args.op.now c.in-Some.numbers
    x e (c.all_swap.ensures yes)
    (subst (λ n. CountsAllOf g.S.Parted.label_of n x) c.in-Some.is counts) there other
