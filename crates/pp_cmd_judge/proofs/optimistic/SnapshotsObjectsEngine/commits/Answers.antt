use Rattle.std.proofs.Common.{arith, ◌≤◌, ◌<◌, ◌+◌, ℕ, length}
use Rattle.pp_kind.specs.declared.range.TheConstants.{MOST_OPERATIONS}
use Rattle.pp_model.specs.Sound.{serial_ops}
use Rattle.pp_cmd_judge.proofs.optimistic.SnapshotsObjectsEngine.commits.Goals as goal

pub returns-clause-few : goal.returns-clause-few
returns-clause-few c = few (length (serial_ops c.args.self.now.done)) c.args.self.now.count c.committed.ensures.few c.requires.2.count
  where
    few : (many count : ℕ) → many ≤ count + 256 → count ≤ 2_147_483_646 → many < MOST_OPERATIONS
    few many count x y = omega (arith, x, y)
