use Rattle.std.proofs.Common.{◌∙◌, ap, subst, w64, rules, FitsSigned}
use Rattle.std.proofs.lemmas.Int.{to_z-of_z}
use Rattle.pp_kind.specs.Object.{MayKeep}
use Rattle.pp_kind_memory.specs.Memories.{memory}
use Rattle.pp_kind_memory.specs.Operations.{writes_at}
use Rattle.pp_kind_memory.proofs.Kept.{kept_nothing, kept_told}
use Rattle.pp_kind_memory.proofs.mem.Mem.keep_in_turn.Goals as goal

pub returns-in-Covered : goal.returns-in-Covered
returns-in-Covered c = λ b k.
    let at = c.in-Covered.at in
    let fits : FitsSigned w64 at = search rules in
    let told = c.writes_at.ensures ∙ ap (writes_at c.args.a.now) (to_z-of_z w64 at fits) in
    kept_told c.args.a.now b at c.in-Covered.number c.writes_at.result told
    (subst (λ u. MayKeep memory b u) c.in-Covered.is k)

pub returns-in-Nothing : goal.returns-in-Nothing
returns-in-Nothing c = λ b k. kept_nothing c.args.a.now b
    (subst (λ u. MayKeep memory b u) c.in-Nothing.is k)
