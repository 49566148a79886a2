use Rattle.pp_objects.proofs.Kept.{all_kept_alone}
use Rattle.pp_objects.proofs.objects.ObjectsTakesBack.keeps_alone.Goals as goal

pub returns : goal.returns
returns c = λ t b. all_kept_alone c.args.a.now b (c.keeps_alone.ensures t b.act)
