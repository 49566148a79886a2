-- The results of the look-ups in logs.
use Rattle.std.proofs.Common.{◌≡◌, ◌==◌, ℕ, true, false, not, List, Some, None, position, slice_get}
use Rattle.std.proofs.Common.{sym, ◌∙◌, ap}
use Rattle.std.proofs.lemmas.Bool.{eqb-true}
use Rattle.pp_core.specs.declared.entry.LocalEntry.{LocalEntry}
use Rattle.pp_core.specs.declared.entry.SharedEntry.{SharedEntry}
use Rattle.pp_model.specs.Config.{Mark, at_mark, of_other, is_mark}
use Rattle.pp_model.specs.Names.{Name, ◌=ⁿ◌}
use Rattle.pp_model.proofs.Finding.{place_none, place_found}
use Rattle.pp_machine.specs.Finding.{AreDistinct, HaveOwnIds}
use Rattle.pp_machine.specs.Standing.{is_committed, stands_committed}
use Rattle.pp_machine.proofs.Cuts.{find_both, find_neither, find_one}

module _ {Op : Type 0} (l : List (LocalEntry Op)) (id : ℕ) (m : Mark) where
  -- If an id has no position in a local log, no entry with the id and a mark is found.
  pub mark_absent : position (λ e. e.id == id) l ≡ None → at_mark id m l ≡ None
  mark_absent h = find_neither (λ e. e.id == id) (λ e. is_mark e.mark m) l (place_none (λ e. e.id == id) l h)

  -- The entry at the position of an id is found by the id and its mark.
  pub mark_there : (i : ℕ) (e : LocalEntry Op) → position (λ e. e.id == id) l ≡ Some i → slice_get l i ≡ Some e → is_mark e.mark m ≡ true → at_mark id m l ≡ Some e
  mark_there i e h k t = find_both (λ e. e.id == id) (λ e. is_mark e.mark m) l e (place_found (λ e. e.id == id) l i e h k) t

  -- If the entry at the position of an id has another mark, none is found with this mark.
  pub mark_other : (i : ℕ) (e : LocalEntry Op) → AreDistinct l → position (λ e. e.id == id) l ≡ Some i → slice_get l i ≡ Some e → is_mark e.mark m ≡ false → at_mark id m l ≡ None
  mark_other i e d h k t = find_one (λ e. e.id == id) (λ e. is_mark e.mark m) l e (λ y z b p q. d y z b (eqb-true y.id id p ∙ sym (eqb-true z.id id q))) (place_found (λ e. e.id == id) l i e h k) t

module _ {Op : Type 0} (l : List (SharedEntry Op)) (t : Name) (id : ℕ) where
  -- If an id has no position in the shared log, no entry of another owner is found.
  pub post_absent : position (λ g. g.id == id) l ≡ None → of_other t id l ≡ None
  post_absent h = find_neither (λ g. g.id == id) (λ g. not (g.owner =ⁿ t)) l (place_none (λ g. g.id == id) l h)

  -- The entry at the position of an id is found, if another transaction owns it.
  pub post_there : (i : ℕ) (g : SharedEntry Op) → position (λ g. g.id == id) l ≡ Some i → slice_get l i ≡ Some g → (g.owner =ⁿ t) ≡ false → of_other t id l ≡ Some g
  post_there i g h k n = find_both (λ g. g.id == id) (λ g. not (g.owner =ⁿ t)) l g (place_found (λ g. g.id == id) l i g h k) (ap not n)

  -- If the transaction owns the entry at the position of an id, none of another is found.
  pub post_own : (i : ℕ) (g : SharedEntry Op) → HaveOwnIds l → position (λ g. g.id == id) l ≡ Some i → slice_get l i ≡ Some g → (g.owner =ⁿ t) ≡ true → of_other t id l ≡ None
  post_own i g d h k n = find_one (λ g. g.id == id) (λ g. not (g.owner =ⁿ t)) l g (λ y z b p q. d y z b (eqb-true y.id id p ∙ sym (eqb-true z.id id q))) (place_found (λ g. g.id == id) l i g h k) (ap not n)

-- An id without a position in the shared log is not committed there.
pub stands_absent : {Op : Type 0} (l : List (SharedEntry Op)) (id : ℕ) → position (λ g. g.id == id) l ≡ None → false ≡ stands_committed id l
stands_absent l id h = sym (ap is_committed (place_none (λ g. g.id == id) l h))

-- An id in the shared log is committed there exactly if its entry is committed.
pub stands_there : {Op : Type 0} (l : List (SharedEntry Op)) (id i : ℕ) (g : SharedEntry Op) → position (λ g. g.id == id) l ≡ Some i → slice_get l i ≡ Some g → g.committed ≡ stands_committed id l
stands_there l id i g h k = sym (ap is_committed (place_found (λ g. g.id == id) l i g h k))
