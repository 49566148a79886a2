use Rattle.std.proofs.Common.{◌≡◌, drop, map}
use Rattle.pp_model.specs.Config.{commit_all, shared_item}
use Rattle.pp_log_shared.specs.Committing.{HoldsIdsOf}
use Rattle.pp_log_shared.proofs.shared.Shared.commit.Given as goal

abbrev pub invariant-loop-item : goal.invariant-loop-item
invariant-loop-item g l = record {
  shape : l.self.0 ≡ l.initial.self.0;
  items : map shared_item l.self.1 ≡ map shared_item l.initial.self.1;
  end : commit_all l.owner l.self.1 ≡ commit_all l.owner l.initial.self.1;
  left : HoldsIdsOf l.owner (drop l.item-index l.own) l.self.1;
}
