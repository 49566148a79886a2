use Rattle.pp_laws_focus.proofs.TextsLocal.{texts_are_local}
use Rattle.pp_laws_focus.proofs.texts_are_local.Goals as goal

pub returns : goal.returns
returns c = texts_are_local
