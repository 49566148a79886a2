use Rattle.std.proofs.Common.{◌∙◌, ◌++◌, ◌∷◌, [], ap, refl}
use Rattle.pp_snapshots.proofs.start.put_start.Goals as goal

pub put_new-requires : goal.put_new-requires
put_new-requires g c = c.requires.new

pub returns : goal.returns
returns g c = record {
  slots = c.in_ok-put_new.ensures;
  threads = refl;
  ids = c.requires.ids;
  committed = c.in_ok-push.ensures.ok
      ∙ ap (λ l. c.args.parts.now.committed ++ record { name = c.args.tx.now; entries = l } ∷ []) (c.in_ok-entries.ensures ∙ c.as_slice.ensures);
  shape = refl;
  past = refl;
  by_part = refl;
  count = refl;
}
