use Rattle.pp_styles.specs.Dropping.{pullings}
use Rattle.pp_styles.proofs.Dropping.{adds_grow, adds_here, lists_none, lists_one, same_grows}
use Rattle.pp_styles.proofs.tracked.list_pulled.Goals as goal

pub returns-in_default : goal.returns-in_default
returns-in_default g c =
    let p = pullings c.args.pulled.now in (
      same_grows p,
      lists_none c.args.tx.now c.args.id c.args.shared.now.1 p c.in_default.ensures.none,
    )

pub returns : goal.returns
returns g c =
    let p = pullings c.args.pulled.now in
    let q = pullings c.add.new.self in
    let t = c.args.tx.now in
    let e = c.in-Some.entry.now in (
      adds_grow t e.owner c.args.id p q c.add.ensures,
      lists_one t c.args.id c.args.shared.now.1 q e c.in-Some.ensures.some (adds_here t e.owner c.args.id p q c.add.ensures),
    )
