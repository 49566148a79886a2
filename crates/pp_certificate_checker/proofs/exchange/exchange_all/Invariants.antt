use Rattle.std.proofs.Common.{ℕ, ◌+◌, drop}
use Rattle.pp_certificate_checker.specs.Certificates.{AreExchanged, Step}
use Rattle.pp_certificate_checker.proofs.exchange.exchange_all.Given as goal

abbrev pub invariant-loop-position : goal.invariant-loop-position
invariant-loop-position g l =
    (shape : g.row.S-Shape.Denot) (count : ℕ) (r : Step g.row.S-Shape.Denot g.row.S-Op.Denot)
    → AreExchanged g.S.Spec.object shape l.list.items (count + l.position-index)
    (drop l.position-index l.positions) r
    → AreExchanged g.S.Spec.object shape l.fn.list.items count l.positions r
