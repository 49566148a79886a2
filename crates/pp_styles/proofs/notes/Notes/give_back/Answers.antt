use Rattle.std.proofs.Common.{◌≡◌, ◌⊎◌, ◌<◌, ◌≤◌, Some, ap, arith, inl, inr, subst, sym}
use Rattle.std.specs.List.{slice_get}
use Rattle.pp_styles.specs.Knowing.{LowersTaken}
use Rattle.pp_styles.specs.Noting.{known}
use Rattle.pp_styles.proofs.Leaving.{again_at, taken_same, taken_set}
use Rattle.pp_styles.proofs.notes.Notes.give_back.Goals as goal

-- ---- nothing is noted there

pub returns-then-taken-eq0-clause-lowers : goal.returns-then-taken-eq0-clause-lowers
returns-then-taken-eq0-clause-lowers c = taken_same c.args.tx.now c.args.object (known c.args.self.now)

-- ---- the number is low enough

pub returns-then-at-taken-clause-lowers : goal.returns-then-at-taken-clause-lowers
returns-then-at-taken-clause-lowers c =
    let k = known c.args.self.now in
    subst (λ w. LowersTaken c.args.tx.now c.args.object k w) (sym c.keep_places.ensures) (taken_same c.args.tx.now c.args.object k)

pub returns-then-at-taken-clause-again : goal.returns-then-at-taken-clause-again
returns-then-at-taken-clause-again c =
    let k = known c.keep_places.new.self in
    let t = c.args.tx.now in
    let o = c.args.object in
    let high = c.if-at-taken.true in
    let count_is = c.taken-taken.ensures in
    let same : k.taken t o ≡ (known c.args.self.now).taken t o = ap (λ w. w.taken t o) c.keep_places.ensures in
    let low : k.taken t o ≤ c.position_of-at.result = omega (arith, high, count_is, same) in
    again_at (k.ids o) (k.taken t o) c.position_of-at.result c.args.id low c.position_of-at.ensures

-- ---- it is lowered

pub returns-clause-lowers : goal.returns-clause-lowers
returns-clause-lowers c =
    let k = known c.keep_places.new.self in
    let t = c.args.tx.now in
    let o = c.args.object in
    let high = c.if-at-taken.false in
    let count_is = c.taken-taken.ensures in
    let same : k.taken t o ≡ (known c.args.self.now).taken t o = ap (λ w. w.taken t o) c.keep_places.ensures in
    let low : c.position_of-at.result < k.taken t o = omega (arith, high, count_is, same) in
    let new = known c.replace_taken.new.self in
    subst (λ w. LowersTaken t o w new) c.keep_places.ensures (taken_set t o c.position_of-at.result k new c.replace_taken.ensures.each low)

pub returns-clause-again : goal.returns-clause-again
returns-clause-again c =
    let new = known c.replace_taken.new.self in
    let o = c.args.object in
    let at = c.position_of-at.result in
    elim c.replace_taken.ensures.here [
      | inl none ↦ inl none
      | inr set ↦ again_at (new.ids o) (new.taken c.args.tx.now o) at c.args.id (omega (arith, set))
          (subst (λ w. (at ≡ 0) ⊎ (slice_get w at ≡ Some c.args.id)) (sym (c.replace_taken.ensures.each.ids o)) c.position_of-at.ensures)
    ]
