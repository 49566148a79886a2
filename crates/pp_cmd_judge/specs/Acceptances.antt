-- Proof machinery: what a judge knows of a run whose steps all meet their criteria.
use Rattle.std.specs.Prelude.{◌≡◌, ℕ, List, length, map}
use Rattle.pp_core.specs.declared.entry.CommittedTx.{CommittedTx}
use Rattle.pp_records.specs.Records.{RunRecord}
use Rattle.pp_records.specs.Runs.{Records, bare}
use Rattle.pp_format_read.specs.declared.header.Header.{Header}
use Rattle.pp_model.specs.Serial.{attempts, committed_tx}
use Rattle.pp_objects.specs.declared.act.Op.{Op}
use Rattle.pp_judge.specs.Objects.{start_of}
use Rattle.pp_cmd_quick.specs.Decisions.{AllHold, steps_behind}

-- The start and each step that the records after a header mean meet their criteria, and these are
-- the number of the steps and the committed transactions.
pub record IsAcceptedBehind (header : Header) (records : Records (RunRecord Op)) (number : ℕ)
    (committed : List (CommittedTx Op)) : Type 0 where
  pub hold : AllHold header records
  pub steps : number ≡ length (steps_behind header records)
  pub done : committed
      ≡ map committed_tx (attempts (start_of header) (bare (steps_behind header records)))
