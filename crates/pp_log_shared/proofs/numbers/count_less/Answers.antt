use Rattle.std.proofs.Common.{subst}
use Rattle.pp_log_shared.specs.Numbers.{CountsAllOf}
use Rattle.pp_log_shared.proofs.Counting.{counts_all_less}
use Rattle.pp_log_shared.proofs.numbers.count_less.Goals as goal

pub returns : goal.returns
returns g c = λ x y counts lost.
    counts_all_less g.S.Parted.label_of c.in-Some.kept c.take.new.self x y c.args.entry.now
    c.take.ensures (subst (λ n. CountsAllOf g.S.Parted.label_of n x) c.in-Some.is counts) lost
