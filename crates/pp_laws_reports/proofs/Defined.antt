-- Every input has an output.
use Rattle.std.specs.Prelude.{◌≤◌, ℕ, List}
use Rattle.pp_core.specs.declared.status.Status.TheVariants as statuses
use Rattle.pp_certificate_lines.specs.Rechecked.{IsRecheck}
use Rattle.pp_cmd_drill.proofs.Drilling.{prints_lines}
use Rattle.pp_cmd_drill.specs.Prints.{drill_lines}
use Rattle.pp_cmd_drill.specs.Reports.{IsDrilled}
use Rattle.pp_cmd_recheck.proofs.Rechecking.{some_recheck}
use Rattle.pp_laws_reports.proofs.Accepted.{opaque_is_defined, swaps_are_defined, views_are_defined}
use Rattle.pp_laws_reports.proofs.Certified.{certify_is_defined, expand_is_defined}
use Rattle.pp_laws_reports.proofs.Decided.{quick_is_defined}
use Rattle.pp_laws_reports.proofs.Judged.{judge_is_defined}
use Rattle.pp_laws_reports.specs.Defined.{DefinedLaws, IsDefined}

recheck_is_defined : (bytes : List ℕ) → IsDefined (IsRecheck bytes)
recheck_is_defined bytes none =
    let r = some_recheck bytes in
    none r.0 r.1 r.2

drill_is_defined : (n : ℕ) → 1 ≤ n → n ≤ 20_000 → IsDefined (IsDrilled n)
drill_is_defined n low high none = none statuses.Accepted (drill_lines n) (prints_lines n low high).output

-- Every input has an output of each command.
pub defined_laws : DefinedLaws
defined_laws =
    record {
      certify = certify_is_defined;
      expand = expand_is_defined;
      judge = judge_is_defined;
      quick = quick_is_defined;
      swaps = swaps_are_defined;
      recheck = recheck_is_defined;
      views = views_are_defined;
      opaque = opaque_is_defined;
      drill = drill_is_defined;
    }
