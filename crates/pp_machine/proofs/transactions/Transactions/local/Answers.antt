use Rattle.std.proofs.Common.{Some, ap, option_map, sym, ◌∙◌}
use Rattle.std.specs.Option.{option_copied}
use Rattle.pp_machine.specs.Transactions.{course_of}
use Rattle.pp_machine.proofs.Cuts.{mapped_none, mapped_twice}
use Rattle.pp_machine.proofs.transactions.Transactions.local.Goals as goal

pub returns-in_err-_place : goal.returns-in_err-_place
returns-in_err-_place g c =
    ap option_copied c.from_residual.ensures ∙ sym (ap (option_map (λ x. x.local)) (mapped_none course_of _ c.in_err-_place.ensures.course))

pub returns : goal.returns
returns g c = ap (λ l. Some l) c.local.ensures ∙ ap (option_map (λ z. z.local)) c.in_ok-_place.ensures.course ∙ mapped_twice (λ z. z.local) course_of _
