use Rattle.std.proofs.Common.{◌≤◌, [], ℕ, List, drop}
use Rattle.pp_model.specs.Object.{Item}
use Rattle.pp_attempts.specs.Trying.{AreAlike, AreAlikeTo, HaveRests, Share}
use Rattle.pp_attempts.proofs.Leaving.{IsLeft}
use Rattle.pp_attempts.proofs.candidates.without_numbered.Given as goal

abbrev pub invariant-loop-candidate : goal.invariant-loop-candidate
invariant-loop-candidate g l = record {
  before : List (Item _);
  next : AreAlike l.peaks before (drop l.candidate-index l.candidates.list.items);
  alike : (n : ℕ) (ys : List (Item _)) → n ≤ l.alike → Share n before ys → AreAlikeTo l.peaks [] l.left.list.items n ys;
  left : IsLeft l.peaks l.views l.left.list.items (drop l.candidate-index l.candidates.list.items);
  rests : HaveRests l.peaks l.left.ops.items l.left.list.items;
}
