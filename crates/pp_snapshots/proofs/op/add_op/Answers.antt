use Rattle.std.proofs.Common.{None, Some, ap, refl, sym, ◌∙◌}
use Rattle.std.specs.Map.{lookup, set_value}
use Rattle.std.specs.Str.{bytes_eq}
use Rattle.pp_summary.proofs.Judging.{slot_stays, some_there}
use Rattle.pp_snapshots.proofs.Moving.{set_twice}
use Rattle.pp_snapshots.proofs.op.add_op.Goals as goal

pub put_back-requires : goal.put_back-requires
put_back-requires g c =
    some_there _ _ (ap (lookup (bytes_eq c.args.tx.now)) c.in-Some.ensures.emptied ∙ slot_stays c.args.tx.now c.args.parts.now.slots.entries c.in-Some.it None (sym c.in-Some.ensures.found))

pub returns : goal.returns
returns g c =
    let t = c.args.tx.now in
    record {
      it = c.in-Some.it;
      found = sym c.in-Some.ensures.found;
      grown = c.grow.new.it;
      grows = c.in_ok-grow.ensures;
      slots =
          c.put_back.ensures
          ∙ ap (λ z. set_value (bytes_eq t) z (Some c.grow.new.it)) c.in-Some.ensures.emptied
          ∙ set_twice t c.args.parts.now.slots.entries None (Some c.grow.new.it);
      ids = c.in_ok-insert.ensures.ok;
      shape = refl;
      threads = refl;
      past = refl;
      by_part = refl;
      committed = refl;
      count = refl;
    }
