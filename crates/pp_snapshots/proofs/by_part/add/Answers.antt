use Rattle.std.proofs.Common.{◌∙◌, ◌++◌, ◌∷◌, [], Some, IsSome, ap, cond, refl, subst}
use Rattle.std.specs.Map.{lookup}
use Rattle.pp_kind_parts.specs.Alone.{same_part}
use Rattle.pp_snapshots.specs.declared.by_part.PartOps.{PartOps}
use Rattle.pp_snapshots.specs.ByPart.{listed_in}
use Rattle.pp_snapshots.proofs.Listed.{added}
use Rattle.pp_snapshots.proofs.by_part.add.Goals as goal

pub returns-in-Some : goal.returns-in-Some
returns-in-Some g c =
    let k = c.part-part.result in
    let old = c.args.lists.now.entries in
    let s : PartOps _ = record { ops = c.push.new.self } in
    let lent = c.get_mut.follows.holds s in
    let written = lent.3 (subst (λ s. IsSome s) c.in-Some.ensures.value refl) in
    added g.S.Parted.part_of c.args.op.now k old _ c.args.number s c.part-part.ensures written.0
    (c.in_ok-push.ensures.items ∙ ap (λ l. l ++ record { number = c.args.number; op = c.args.op.now } ∷ []) (ap listed_in c.in-Some.ensures.value))

pub returns : goal.returns
returns g c =
    let k = c.part-part.result in
    let old = c.args.lists.now.entries in
    let s : PartOps _ = record { ops = c.push-2.new.self } in
    let same = ap (λ m. m.entries) c.get_mut.follows.holds-at-none in
    added g.S.Parted.part_of c.args.op.now k old _ c.args.number s c.part-part.ensures
    (λ q. c.in_ok-insert.ensures.updates.0 q ∙ ap (λ m. cond (same_part k q) (Some s) (lookup (same_part q) m)) same)
    (c.in_ok-push-2.ensures.items ∙ ap (λ l. l ++ record { number = c.args.number; op = c.args.op.now } ∷ []) (c.new-ops.ensures.items ∙ ap listed_in c.in_default.ensures.value))
