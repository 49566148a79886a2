use Rattle.std.proofs.Common.{◌++◌, ◌∷◌, [], subst, sym}
use mathlib.Core.Logic.{inl, inr}
use Rattle.pp_model.proofs.Lists.{in_cases}
use Rattle.pp_summary.specs.Known.{KnowsMany}
use Rattle.pp_summary.specs.Filtered.{MayHaveAll, MayHave}
use Rattle.pp_summary.proofs.Filtered.{longer_or_same}
use Rattle.pp_summary.proofs.own.Own.add.Goals as goal

pub invariant_of-self-2 : goal.invariant_of-self-2
invariant_of-self-2 g c =
    let o = g.S.Spec.object in
    let part_of = g.S.Parted.part_of in
    let items = c.self.inside.items in
    let more = items ++ c.args.item ∷ [] in
    let filter = c.add.new.self in
    let slots = c.know_next.new.samples.entries in
    let known : KnowsMany o part_of slots items = subst (λ l. KnowsMany o part_of slots l) c.as_slice.ensures c.know_next.ensures.keeps in
    let all_known : KnowsMany o part_of slots more = subst (λ l. KnowsMany o part_of slots (l ++ c.args.item ∷ [])) c.as_slice.ensures c.in_ok-know_next.ensures.knows in
    let kept : MayHaveAll part_of filter items = λ p i. c.add.ensures.keeps (part_of p.op) (c.self.invariant.0 p i) in
    let all_kept : MayHaveAll part_of filter more = λ p i. elim (in_cases p items (c.args.item ∷ []) i) [
      | inl j ↦ kept p j
      | inr j ↦ elim j [
        | inl e ↦ subst (λ q. MayHave filter (part_of q.op)) (sym e) (subst (λ q. MayHave filter q) c.part.ensures c.add.ensures.adds)
        | inr z ↦ absurd z
      ]
    ] in
    elim (longer_or_same c.push.result c.push.ensures.ok c.push.ensures.err) [
      | inl e ↦ subst (λ l. MayHaveAll part_of filter l × KnowsMany o part_of slots l) (sym e) (all_kept, all_known)
      | inr e ↦ subst (λ l. MayHaveAll part_of filter l × KnowsMany o part_of slots l) (sym e) (kept, known)
    ]
