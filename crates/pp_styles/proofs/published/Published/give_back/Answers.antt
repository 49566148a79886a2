use Rattle.pp_styles.specs.Publishing.{publications}
use Rattle.pp_styles.proofs.Leaving.{again_at}
use Rattle.pp_styles.proofs.published.Published.give_back.Goals as goal

pub returns-clause-again : goal.returns-clause-again
returns-clause-again c = λ kept.
    again_at ((publications c.args.self.now).ids c.args.owner.now c.args.object) ((publications c.lower.new.self).passed c.args.tx.now c.args.owner.now c.args.object) c.position_of-at.result c.args.id c.lower.ensures.here c.position_of-at.ensures
