-- Proof machinery: what the snapshots say of optimistic runs, as their engine.
use Rattle.std.specs.Prelude.{◌≡◌, ◌≤◌, ◌+◌, Bool, true, false, List}
use Rattle.pp_core.specs.declared.call.Kind.{Kind}
use Rattle.pp_core.specs.declared.call.Style.TheVariants as styles
use Rattle.pp_records.specs.Records.{RunRecord}
use Rattle.pp_records.specs.Runs.{Records}
use Rattle.pp_format_read.specs.declared.header.Header.{Header}
use Rattle.pp_model.specs.Rules.{StartMeets}
use Rattle.pp_objects.specs.Objects.{kinds_of, objects, place_of}
use Rattle.pp_objects.specs.declared.act.Op.{Op}
use Rattle.pp_snapshots.specs.Held.{Taken, first_taken}
use Rattle.pp_snapshots.specs.Runs.{IsTakenAfter}
use Rattle.pp_conflicts.specs.Conflicts.{IsRefused}
use Rattle.pp_judge.specs.Objects.{object_of, start_of}
use Rattle.pp_cmd_judge.specs.Engines.{EngineOf}
use Rattle.pp_cmd_judge.specs.declared.style_judge.StyleJudge.TheVariants.{Optimistic}

-- What new Snapshots become by the start of a header, if it has one. False says that the start fails.
abbrev pub StartsSnapshots : Header → Bool → Taken (List Kind) Op → Type 0
StartsSnapshots header true snapshots =
    StartMeets (object_of header) (start_of header)
    × (snapshots ≡ first_taken (kinds_of header.catalog) (start_of header))
StartsSnapshots header false snapshots = StartMeets (object_of header) (start_of header) → ⊥

-- The start and the records after a header are good, and this is what took them. There are at most
-- 2,147,483,646 records, the lines of an input but for its header.
pub record AreTakenBehind (header : Header) (records : Records (RunRecord Op))
    (snapshots : Taken (List Kind) Op) : Type 0 where
  pub style : header.style ≡ styles.Optimistic
  pub shape : snapshots.shape ≡ kinds_of header.catalog
  pub taken : IsTakenAfter objects place_of (kinds_of header.catalog) (start_of header) records
      snapshots
  pub count : snapshots.count ≤ 2_147_483_646

abbrev pub optimistic_engine : EngineOf (Taken (List Kind) Op)
optimistic_engine = record {
  style = styles.Optimistic;
  AreGood = AreTakenBehind;
  IsRefused = IsRefused objects place_of;
  search = λ snapshots. snapshots.count + 256;
  done = λ snapshots. snapshots.done;
  shape = λ snapshots. snapshots.shape;
  wrap = λ judge. Optimistic judge;
}
