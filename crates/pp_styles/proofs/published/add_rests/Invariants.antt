use Rattle.std.proofs.Common.{ℕ, [], take}
use Rattle.pp_model.specs.Lists.{In}
use Rattle.pp_model.specs.Names.{Name}
use Rattle.pp_styles.specs.Noting.{taken_in}
use Rattle.pp_styles.specs.Publishing.{Adds, SkipsAt, ids_of}
use Rattle.pp_styles.proofs.published.add_rests.Given as goal

abbrev pub invariant-loop-source : goal.invariant-loop-source
invariant-loop-source g l =
    SkipsAt [] l.shared.1 l.object (λ v. ids_of v l.owners.entries) (λ v p. taken_in v l.fn.gone p) (λ v p. taken_in v l.fn.gone p) (λ v p. taken_in v l.gone p)
    × SkipsAt l.local.1 l.shared.1 l.object (λ v. ids_of v l.owners.entries) (λ v p. taken_in v l.fn.gone p) (λ v p. taken_in v l.fn.passed p) (λ v p. taken_in v l.passed p)
    × ((i : ℕ) → In i l.fn.ids.items → In i l.ids.items)
    × ((v : Name) → In v (take l.source-index l.sources) → Adds l.local.1 l.shared.1 (ids_of v l.owners.entries) (taken_in v l.fn.gone l.object) (taken_in v l.fn.passed l.object) l.ids.items)
