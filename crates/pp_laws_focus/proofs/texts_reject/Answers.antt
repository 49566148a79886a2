use Rattle.pp_laws_focus.proofs.TextsRejected.{texts_reject}
use Rattle.pp_laws_focus.proofs.texts_reject.Goals as goal

pub returns : goal.returns
returns c = texts_reject
