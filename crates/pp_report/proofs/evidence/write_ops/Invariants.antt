use Rattle.std.proofs.Common.{◌≡◌, ◌++◌, drop}
use Rattle.pp_report.specs.Reports.{ops_bytes}
use Rattle.pp_report.proofs.evidence.write_ops.Given as goal

abbrev pub invariant-loop-op : goal.invariant-loop-op
invariant-loop-op l = l.text ++ ops_bytes l.catalog (drop l.op-index l.ops) ≡ l.fn.text ++ ops_bytes l.catalog l.ops
