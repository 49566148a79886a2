-- Steps that are readable whatever the objects of the run.
use Rattle.std.specs.Prelude.{Result, IfOk}
use Rattle.std.proofs.lemmas.Result.{IfOk-weaker}
use Rattle.pp_core.specs.Catalogs.{Objects}
use Rattle.pp_core.specs.Steps.{meaning}
use Rattle.pp_core.specs.declared.step.Step.{Step}
use Rattle.pp_objects.specs.declared.act.Op.{Op}
use Rattle.pp_format_read.specs.declared.fault.RecordFault.{RecordFault}
use Rattle.pp_format_read.specs.Rules.{IsReadableStep, IsAlwaysReadable}

-- they are readable over these objects
pub over : (catalog : Objects) (r : Result (Step Op) RecordFault) → IfOk r (λ step. IsAlwaysReadable (meaning step))
    → IfOk r (λ step. IsReadableStep catalog (meaning step))
over catalog r always =
    IfOk-weaker r (λ step. IsAlwaysReadable (meaning step)) (λ step. IsReadableStep catalog (meaning step)) (λ step h. h catalog) always
