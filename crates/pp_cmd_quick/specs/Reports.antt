-- Meaning: the texts of the decision on a boosted run.
use Rattle.std.specs.Prelude.{ℕ, List, ◌++◌, codes, length}
use Rattle.std.specs.Fmt.{decimal}
use Rattle.pp_core.specs.Catalogs.{Objects}
use Rattle.pp_core.specs.declared.entry.CommittedTx.{CommittedTx}
use Rattle.pp_objects.specs.declared.act.Op.{Op}
use Rattle.pp_objects.specs.declared.states.ObjectState.{ObjectState}
use Rattle.pp_text.specs.Lines.{line, state_lines}
use Rattle.pp_report.specs.Reports.{all_tx_lines}

-- the first line of an accepted run, with the number of its records and of its committed
-- transactions
abbrev pub quick_accepted_line : ℕ → ℕ → List ℕ
quick_accepted_line records count =
    line (codes "quick accepted records " ++ decimal records ++ codes " committed "
    ++ decimal count)

-- the text of an accepted run
abbrev pub quick_accepted_text : Objects → ℕ → List (CommittedTx Op) → List ObjectState → List ℕ
quick_accepted_text catalog records committed states =
    quick_accepted_line records (length committed) ++ all_tx_lines catalog committed
    ++ state_lines catalog states

-- the text of a rejected run, which is one line
abbrev pub quick_rejected_text : ℕ → List ℕ
quick_rejected_text at_line = line (codes "quick rejected line " ++ decimal at_line)
