use Rattle.std.proofs.Common.{◌≡◌, false, true, subst, sym}
use Rattle.pp_log_shared.specs.Numbers.{CountsAll}
use Rattle.pp_log_shared.specs.Uncommitted.{is_open_in, open_in}
use Rattle.pp_log_shared.proofs.Counting.{counts_all_more}
use Rattle.pp_log_shared.proofs.Uncommitted.{filter_push, filter_push-false}
use Rattle.pp_log_shared.proofs.numbers.add_open.Goals as goal

pub returns-then-not-is_open_in : goal.returns-then-not-is_open_in
returns-then-not-is_open_in g c = λ _ x counts.
    let outside : is_open_in g.S.Parted.part_of c.args.part c.args.entry.now ≡ false = cc in
    subst (λ z. CountsAll g.S.Parted.label_of c.args.numbers.now z)
    (sym (filter_push-false (is_open_in g.S.Parted.part_of c.args.part) x c.args.entry.now outside))
    counts

pub returns : goal.returns
returns g c = λ yes x counts.
    let label_of = g.S.Parted.label_of in
    let part_of = g.S.Parted.part_of in
    let e = c.args.entry.now in
    let inside : is_open_in part_of c.args.part e ≡ true = cc in
    subst (λ z. CountsAll label_of c.add.new.self z)
    (sym (filter_push (is_open_in part_of c.args.part) x e true inside))
    (counts_all_more label_of c.args.numbers.now c.add.new.self (open_in part_of c.args.part x) e
    (c.add.ensures yes) counts)
