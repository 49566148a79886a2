use Rattle.std.proofs.Common.{◌∙◌}
use Rattle.std.specs.Str.{bytes_eq}
use Rattle.indexmap.proofs.CallerLemmas.{insert_entry-new}
use Rattle.pp_summary.proofs.slots.put_new.Goals as goal

pub returns : goal.returns
returns g c = c.in_ok-insert.ensures.entries ∙ insert_entry-new bytes_eq c.args.slots.now c.args.tx.now _ c.requires
