use Rattle.std.proofs.Common.{subst}
use Rattle.pp_log_shared.specs.Numbers.{CountsAllOf}
use Rattle.pp_log_shared.proofs.Counting.{counts_all_more}
use Rattle.pp_log_shared.proofs.numbers.count_more.Goals as goal

pub returns-else-not-add : goal.returns-else-not-add
returns-else-not-add g c = λ x counts.
    counts_all_more g.S.Parted.label_of c.in-Some.kept c.add.new.self x c.args.entry.now
    (c.add.ensures c.if-not-add.false)
    (subst (λ n. CountsAllOf g.S.Parted.label_of n x) c.in-Some.is counts)
