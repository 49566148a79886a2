use Rattle.std.proofs.Common.{arith}
use Rattle.pp_styles.specs.Noting.{known}
use Rattle.pp_styles.proofs.Leaving.{pushed_low, pushed_set}
use Rattle.pp_styles.proofs.notes.Notes.lower_pushed.Goals as goal

pub returns-else-pushed-most : goal.returns-else-pushed-most
returns-else-pushed-most c = pushed_low c.args.tx.now c.args.most (known c.args.self.now) (omega (arith, c.pushed.ensures, c.if-pushed-most.false))

pub returns-then-pushed-most : goal.returns-then-pushed-most
returns-then-pushed-most c = pushed_set c.args.tx.now c.args.most (known c.args.self.now) (known c.replace_pushed.new.self) c.replace_pushed.ensures (omega (arith, c.pushed.ensures, c.if-pushed-most.true))
