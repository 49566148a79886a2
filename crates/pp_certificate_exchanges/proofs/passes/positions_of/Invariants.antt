use Rattle.std.proofs.Common.{◌≡◌, take, nat_cmp, Some}
use Rattle.std.specs.BTreeMap.{get}
use Rattle.pp_core.specs.declared.entry.Item.{Item}
use Rattle.pp_model.specs.Lists.{In}
use Rattle.pp_certificate_exchanges.specs.Exchanges.{position}
use Rattle.pp_certificate_exchanges.proofs.passes.positions_of.Given as goal

abbrev pub invariant-loop-item : goal.invariant-loop-item
invariant-loop-item g l = record {
  at : l.position ≡ l.item-index;
  known : (e : Item g.row.O.Denot) → In e (take l.item-index l.log) →
      get nat_cmp l.positions e.id ≡ Some (position e.id l.log);
}
