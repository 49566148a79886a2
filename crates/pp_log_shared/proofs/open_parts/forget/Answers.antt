use Rattle.std.proofs.Common.{◌+◌, ◌≡◌, arith, refl}
use Rattle.pp_log_shared.proofs.Uncommitted.{one_less, tells_less}
use Rattle.pp_log_shared.proofs.open_parts.forget.Goals as goal

pub returns : goal.returns
returns g c = λ x y told lost.
    let e = c.args.entry.now in
    let was = told.count in
    let size = one_less e x y lost in
    let left = c.saturating_sub-slot.ensures in
    let less : c.saturating_sub-slot.result + 1 ≡ c.args.slot.now.count = omega arith in
    tells_less g.S.Spec.object g.S.Parted.label_of c.args.slot.now _ x y e
    c.saturating_sub-slot.result refl less refl refl refl (λ n. c.count_less.ensures x y n lost) told
    lost
