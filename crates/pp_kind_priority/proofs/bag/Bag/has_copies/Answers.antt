use Rattle.std.proofs.Common.{◌∙◌, sym, w64, rules, to_z, of_z, FitsSigned, Some, None, arith}
use Rattle.std.proofs.lemmas.Int.{to_z-of_z}
use Rattle.pp_kind_priority.proofs.Copies.{counted_seen}
use Rattle.pp_kind_priority.proofs.bag.Bag.has_copies.Goals as goal

pub returns-else-count-eq0 : goal.returns-else-count-eq0
returns-else-count-eq0 c =
    let fits : FitsSigned w64 c.args.value = search rules in
    let counted = counted_seen c.self.inside.further.entries c.args.self.now c.args.value
    (to_z w64 (of_z w64 c.args.value)) (Some c.in-Some.further) c.self.view_is
    (to_z-of_z w64 c.args.value fits) c.len-ordered.ensures.ordered
    (sym (c.copied.ensures ∙ c.get.ensures.value) ∙ c.in-Some.is) in
    let more = c.if-count-eq0.false in
    (λ h. grind arith, λ h. grind arith)

pub returns-in-None : goal.returns-in-None
returns-in-None c =
    let fits : FitsSigned w64 c.args.value = search rules in
    let counted = counted_seen c.self.inside.further.entries c.args.self.now c.args.value
    (to_z w64 (of_z w64 c.args.value)) None c.self.view_is
    (to_z-of_z w64 c.args.value fits) c.len-ordered.ensures.ordered
    (sym (c.copied.ensures ∙ c.get.ensures.value) ∙ c.in-None.is) in
    (λ h. grind arith, λ h. grind arith)
