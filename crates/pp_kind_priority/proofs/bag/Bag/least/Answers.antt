use Rattle.std.proofs.Common.{◌∙◌, sym, w64, rules, FitsSigned, Some, ap}
use Rattle.std.proofs.lemmas.Int.{to_z-of_z}
use Rattle.pp_kind_priority.specs.Values.{least_of}
use Rattle.pp_kind_priority.proofs.Copies.{least_spread}
use Rattle.pp_kind_priority.proofs.bag.Bag.least.Goals as goal

pub returns-in-Some : goal.returns-in-Some
returns-in-Some c =
    let fits : FitsSigned w64 c.in-Some.value.now = search rules in
    ap Some (to_z-of_z w64 c.in-Some.value.now fits)
    ∙ sym (least_spread c.self.inside.further.entries c.in-Some.value.now c.in-Some.field-0-1.now
    c.in-Some.ensures.first)
    ∙ ap least_of c.self.view_is
