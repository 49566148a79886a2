use Rattle.pp_objects.proofs.Kept.{keeps_there, same_place_kept}
use Rattle.pp_objects.proofs.objects.ObjectsTakesBack.keep_in_turn.Goals as goal

pub returns : goal.returns
returns c = λ b same keeps. same_place_kept c.keep_in_turn.result c.args.a.now b same
    (c.keep_in_turn.ensures b.act (keeps_there b c.args.kept.now keeps))
