use Rattle.std.proofs.Common.{◌++◌, ◌∷◌, [], arith, subst, sym}
use Rattle.indexmap.proofs.MapLemmas.{OnOk-map}
use Rattle.pp_summary.specs.Known.{Knows, KnowsAll, KnowsMany}
use Rattle.pp_summary.proofs.Known.{all_known}
use Rattle.pp_summary.proofs.own.know_next.Goals.{else-items-eq-FEW_OPERATIONS, then-items-eq-FEW_OPERATIONS+in_ok-know_all}
use Rattle.pp_summary.proofs.own.know_next.Goals as goal

pub returns-clause-knows : goal.returns-clause-knows
returns-clause-knows g c =
    let o = g.S.Spec.object in
    let part_of = g.S.Parted.part_of in
    let items = c.args.items.now in
    let before = c.if-items-eq-FEW_OPERATIONS.samples.entries in
    let now = c.know.new.samples.entries in
    let known : KnowsAll o part_of before items = elim c.if-items-eq-FEW_OPERATIONS.branch [
      | then-items-eq-FEW_OPERATIONS+in_ok-know_all w ↦ subst (λ m. KnowsAll o part_of m.entries items) (sym w.samples-is) w.in_ok-know_all.ensures
      | else-items-eq-FEW_OPERATIONS w ↦ subst (λ m. KnowsAll o part_of m.entries items) (sym w.samples-is) (c.requires (omega arith))
    ] in
    OnOk-map c.know.result (Knows o part_of now c.args.item.now.op) (KnowsMany o part_of now (items ++ c.args.item.now ∷ []))
    (λ knows _. all_known o part_of before now items c.args.item.now known c.know.ensures.keeps knows) c.know.ensures.knows
