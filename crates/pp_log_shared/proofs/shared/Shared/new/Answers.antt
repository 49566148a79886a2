use Rattle.std.proofs.Common.{[], sym, ap, subst, arith}
use Rattle.pp_log_shared.specs.Uncommitted.{KeepsOpen}
use Rattle.pp_log_shared.proofs.Uncommitted.{tells_nothing}
use Rattle.pp_log_shared.proofs.shared.Shared.new.Goals as goal

pub invariant_of-result : goal.invariant_of-result
invariant_of-result g c =
    let o = g.S.Spec.object in
    let label_of = g.S.Parted.label_of in
    let part_of = g.S.Parted.part_of in
    let empty = ap (λ z. z.1) c.in_ok-log.ensures in
    record {
      settles = record { within = omega arith; committed = λ j e below at. absurd (omega arith) };
      opens = subst (λ s. KeepsOpen o label_of part_of s c.in_ok-log.log.1) (sym c.new-2.ensures) (subst (λ l. KeepsOpen o label_of part_of [] l) (sym empty) (tells_nothing o label_of part_of));
    }
