use Rattle.pp_kind.specs.Object.{rules_of}
use Rattle.pp_laws_mapped.proofs.Runs.{alike}
use Rattle.pp_laws_mapped.proofs.mapped_runs_are_alike.Goals as goal

pub returns : goal.returns
returns g v = λ shape other f n place at style ks hs objects places h rs none.
    alike (rules_of g.S.Spec.object shape) (rules_of g.R.Spec.object other) f objects n place at style ks hs places h rs none
