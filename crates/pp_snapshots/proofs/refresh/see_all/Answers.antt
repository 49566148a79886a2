use Rattle.std.proofs.Common.{◌∙◌, None, Some, ap, cond, nat_eq, refl, sym}
use Rattle.std.specs.Map.{lookup, set_value}
use Rattle.std.specs.Str.{bytes_eq}
use Rattle.pp_summary.proofs.Judging.{slot_stays, some_there}
use Rattle.pp_snapshots.proofs.Moving.{set_twice}
use Rattle.pp_snapshots.proofs.refresh.see_all.Goals as goal

pub put_back-requires : goal.put_back-requires
put_back-requires g c =
    some_there _ _ (ap (lookup (bytes_eq c.args.tx.now)) c.in-Some.ensures.emptied ∙ slot_stays c.args.tx.now c.args.parts.now.slots.entries c.in-Some.it None (sym c.in-Some.ensures.found))

pub returns : goal.returns
returns g c =
    let t = c.args.tx.now in
    let x = c.in-Some.it in
    let y = record x { seen = c.insert.new.self } in
    record {
      it = x;
      found = sym c.in-Some.ensures.found;
      after = y;
      thread = refl;
      walk = refl;
      own = refl;
      seen = λ q. c.in_ok-insert.ensures q ∙ ap (λ n. cond (nat_eq c.args.place q) (Some n) (lookup (nat_eq q) x.seen.entries)) c.count_at-all.ensures;
      slots = c.put_back.ensures ∙ ap (λ z. set_value (bytes_eq t) z (Some y)) c.in-Some.ensures.emptied ∙ set_twice t c.args.parts.now.slots.entries None (Some y);
      threads = refl;
      ids = refl;
      shape = refl;
      past = refl;
      by_part = refl;
      committed = refl;
      count = refl;
    }
