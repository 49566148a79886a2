use Rattle.std.proofs.Common.{map, sym, ◌∙◌}
use Rattle.pp_log.specs.Room.{ids_of}
use Rattle.pp_log.proofs.Ids.{position_of_id}
use Rattle.pp_log.proofs.Leaves.{found_item, nowhere}
use Rattle.pp_model.proofs.Finding.{stands_in}
use Rattle.pp_log.proofs.Others.{without_nothing}
use Rattle.pp_log.proofs.leave.leave_out.Goals as goal

pub returns-in_default : goal.returns-in_default
returns-in_default g c = sym (without_nothing g.T.Side.item_of c.args.own.now c.args.entries.now.items (sym c.in_default.ensures.value))

pub unreachable-requires : goal.unreachable-requires
unreachable-requires g c =
    let log = map g.T.Side.item_of c.args.entries.now.items in
    let e = c.in-Some.first.now in
    let inside = c.requires.stand e (stands_in c.args.own.now 0 e (sym c.in-Some.ensures.value)) in
    nowhere log e (sym (position_of_id log e.id) ∙ sym (c.find.ensures (ids_of log) c.requires.index) ∙ c.in_default-find.is) inside

pub keep_others-requires : goal.keep_others-requires
keep_others-requires g c =
    let log = map g.T.Side.item_of c.args.entries.now.items in
    let e = c.in-Some.first.now in
    let inside = c.requires.stand e (stands_in c.args.own.now 0 e (sym c.in-Some.ensures.value)) in
    record {
      stand = c.requires.stand;
      order = c.requires.order;
      distinct = c.requires.distinct;
      first = e;
      first_own = sym c.in-Some.ensures.value;
      first_there = found_item log c.requires.distinct e c.in-Some-find.from (sym (position_of_id log e.id) ∙ sym (c.find.ensures (ids_of log) c.requires.index) ∙ c.in-Some-find.is) inside;
    }
