use Rattle.pp_cmd_views.proofs.Viewed.{kept_views, one_views}
use Rattle.pp_cmd_views.proofs.law.views_law.Goals as goal

pub returns-clause-one : goal.returns-clause-one
returns-clause-one c = λ bytes status other text more. one_views bytes status other text more

pub returns-clause-kept : goal.returns-clause-kept
returns-clause-kept c = kept_views
