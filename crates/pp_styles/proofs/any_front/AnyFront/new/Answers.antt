use Rattle.pp_styles.proofs.any_front.AnyFront.new.Goals as goal

pub returns-in-Dependent-clause-state : goal.returns-in-Dependent-clause-state
returns-in-Dependent-clause-state c = c.new-in-Dependent.ensures c.args.kinds
