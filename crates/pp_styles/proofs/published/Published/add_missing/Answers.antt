use Rattle.std.proofs.Common.{subst}
use Rattle.pp_styles.specs.Noting.{taken_in}
use Rattle.pp_styles.specs.Publishing.{Adds, publications}
use Rattle.pp_styles.proofs.Looking.{looks_further, on_ok}
use Rattle.pp_styles.proofs.published.Published.add_missing.Goals as goal

pub returns-clause-passed : goal.returns-clause-passed
returns-clause-passed g c =
    looks_further c.args.local.now.1 c.args.shared.now.1 c.args.tx.now c.args.object (publications c.args.self.now) (publications c.take-passed.new.self) (publications c.put.new.self)
    _ _ (λ v n. taken_in v c.add_on_object-added.new.gone n) c.take-passed.ensures.taken c.take-passed.ensures.rest c.add_on_object-added.ensures.gone c.add_on_object-added.ensures.passed c.put.ensures.kept c.put.ensures.ids c.put.ensures.gone c.put.ensures.passed

pub returns-clause-added : goal.returns-clause-added
returns-clause-added g c =
    let l = c.args.local.now.1 in
    let G = c.args.shared.now.1 in
    let o = c.args.object in
    let more = c.add_on_object-added.new.ids.items in
    on_ok c.add_on_object-added.result c.add_on_object-added.ensures.added (λ added v i.
    let p = publications c.args.self.now in
    subst (λ n. Adds l G (p.ids v o) (p.gone v o) n more) (c.take-passed.ensures.taken v o)
    (subst (λ n. Adds l G (p.ids v o) n (taken_in v c.take-passed.result o) more) (c.take-passed.ensures.rest.gone v o)
    (subst (λ w. Adds l G w ((publications c.take-passed.new.self).gone v o) (taken_in v c.take-passed.result o) more) (c.take-passed.ensures.rest.ids v o)
    (added v i))))
