use Rattle.std.proofs.Common.{OnOk, [], subst}
use Rattle.std.specs.Prelude.{nat_eq}
use Rattle.std.specs.Map.{lookup}
use Rattle.pp_model.specs.Lists.{In}
use Rattle.pp_model.specs.Names.{Name}
use Rattle.pp_styles.specs.Noting.{taken_in}
use Rattle.pp_styles.specs.Publishing.{Adds, SkipsAt, ids_of, kept_entries}
use Rattle.pp_styles.proofs.Looking.{adds_none, passes_same}
use Rattle.pp_styles.proofs.published.add_on_object.Goals as goal

pub returns-in_default-clause-gone : goal.returns-in_default-clause-gone
returns-in_default-clause-gone g c =
    passes_same [] c.args.shared.now.1 c.args.object (λ v. ids_of v (kept_entries (lookup (nat_eq c.args.object) c.args.lists.now.entries))) (λ v p. taken_in v c.args.gone.now p) (λ v p. taken_in v c.args.gone.now p)

pub returns-in_default-clause-passed : goal.returns-in_default-clause-passed
returns-in_default-clause-passed g c =
    passes_same c.args.local.now.1 c.args.shared.now.1 c.args.object (λ v. ids_of v (kept_entries (lookup (nat_eq c.args.object) c.args.lists.now.entries))) (λ v p. taken_in v c.args.gone.now p) (λ v p. taken_in v c.args.passed.now p)

pub returns-in_default-clause-added : goal.returns-in_default-clause-added
returns-in_default-clause-added g c = λ v i.
    subst (λ w. Adds c.args.local.now.1 c.args.shared.now.1 (ids_of v (kept_entries w)) (taken_in v c.args.gone.now c.args.object) (taken_in v c.args.passed.now c.args.object) c.args.ids.now.items) c.in_default.ensures.value
    (adds_none c.args.local.now.1 c.args.shared.now.1 (taken_in v c.args.gone.now c.args.object) (taken_in v c.args.passed.now c.args.object) c.args.ids.now.items)

pub returns-clause-gone : goal.returns-clause-gone
returns-clause-gone g c =
    subst (λ w. SkipsAt [] c.args.shared.now.1 c.args.object (λ v. ids_of v (kept_entries w)) (λ v p. taken_in v c.args.gone.now p) (λ v p. taken_in v c.args.gone.now p) (λ v p. taken_in v c.add_fewer.new.gone p))
    c.in-Some.ensures.value c.add_fewer.ensures.gone

pub returns-clause-passed : goal.returns-clause-passed
returns-clause-passed g c =
    subst (λ w. SkipsAt c.args.local.now.1 c.args.shared.now.1 c.args.object (λ v. ids_of v (kept_entries w)) (λ v p. taken_in v c.args.gone.now p) (λ v p. taken_in v c.args.passed.now p) (λ v p. taken_in v c.add_fewer.new.passed p))
    c.in-Some.ensures.value c.add_fewer.ensures.passed

pub returns-clause-added : goal.returns-clause-added
returns-clause-added g c =
    subst (λ w. OnOk c.add_fewer.result ((v : Name) → In v c.args.sources.now.keys → Adds c.args.local.now.1 c.args.shared.now.1 (ids_of v (kept_entries w)) (taken_in v c.args.gone.now c.args.object) (taken_in v c.args.passed.now c.args.object) c.add_fewer.new.ids.items))
    c.in-Some.ensures.value c.add_fewer.ensures.added
