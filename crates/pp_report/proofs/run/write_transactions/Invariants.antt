use Rattle.std.proofs.Common.{◌≡◌, ◌++◌, drop}
use Rattle.pp_report.specs.Reports.{all_tx_lines}
use Rattle.pp_report.proofs.run.write_transactions.Given as goal

abbrev pub invariant-loop-transaction : goal.invariant-loop-transaction
invariant-loop-transaction l =
    l.text ++ all_tx_lines l.catalog (drop l.transaction-index l.committed) ≡ l.fn.text ++ all_tx_lines l.catalog l.committed
