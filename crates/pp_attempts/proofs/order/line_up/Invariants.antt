use Rattle.std.proofs.Common.{◌≡◌, ◌≤◌, [], ℕ, List, length, map, take}
use Rattle.pp_model.specs.Lists.{In}
use Rattle.pp_model.specs.Object.{Item}
use Rattle.pp_attempts.specs.Peaks.{Peak}
use Rattle.pp_attempts.specs.Trying.{AreAlikeTo, HaveRests, Share, positions_of}
use Rattle.pp_attempts.proofs.order.line_up.Given as goal

abbrev pub invariant-loop-position : goal.invariant-loop-position
invariant-loop-position g l = record {
  within : l.position-index ≤ length l.position-items;
  positions : positions_of l.candidates.list.items ≡ map (λ o. o.1) (take l.position-index l.position-items);
  alike : (n : ℕ) (ys : List (Item _)) → Share n l.before ys → AreAlikeTo l.peaks [] l.candidates.list.items n ys;
  rests : HaveRests l.peaks l.candidates.ops.items l.candidates.list.items;
  among : (i : Item _) → In i l.before → (p : Peak _) × In p l.peaks × In i p.ops;
}
