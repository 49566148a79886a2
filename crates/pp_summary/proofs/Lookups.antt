-- What lookups find in a sound configuration, and where its entries come from.
use Rattle.std.specs.Prelude.{◌≡◌, ◌≢◌, ◌==◌, true, false, ◌&&◌, List, [], ◌∷◌, ◌++◌}
use Rattle.std.proofs.Common.{refl, sym, ap, ◌∙◌}
use mathlib.Core.Logic.{inl, inr}
use Rattle.pp_model.specs.Lists.{In, Before}
use Rattle.pp_model.specs.Names.{◌=ⁿ◌}
use Rattle.pp_model.specs.Object.{Object, Swaps}
use Rattle.pp_model.specs.Config.{SharedEntry, Config}
use Rattle.pp_model.specs.Sound.{Sound}
use Rattle.pp_model.proofs.Lists.{before_cases, before_in_first, before_in_second}
use Rattle.pp_laws_summary.proofs.Lookups.{done_by_other}

-- An uncommitted entry swaps with each committed entry after it.
pub open_before_done : {Op State : Type 0} (O : Object Op State) (c : Config Op) → Sound O c → (g h : SharedEntry Op) → Before g h c.shared → g.committed ≡ false → h.committed ≡ true → Swaps O g.op h.op
open_before_done {Op} O c s g h i u v =
    let r = s.uncommitted_from g (before_in_first g h c.shared i) u in
    s.uncommitted_swap g h i (λ e. done_by_other O c s r.0 r.1 h (before_in_second g h c.shared i) v (sym e ∙ ap (λ (w : SharedEntry Op). w.owner) r.5)) u

-- An entry before g is in the part of the list before g.
pub in_first_part : {Op : Type 0} (K H : List (SharedEntry Op)) (g r : SharedEntry Op) → ((a b : SharedEntry Op) → Before a b (K ++ g ∷ H) → a.id ≢ b.id) → Before r g (K ++ g ∷ H) → In r K
in_first_part {Op} K H g r d i = elim (before_cases r g K (g ∷ H) i) [
  | inl j ↦ before_in_first r g K j
  | inr (inl (inl j)) ↦ absurd (d r g i (ap (λ (w : SharedEntry Op). w.id) j.0))
  | inr (inl (inr j)) ↦ absurd (d g g (last K H g (before_in_second r g H j)) refl)
  | inr (inr j) ↦ j.0
]
  where
    last : (K H : List (SharedEntry Op)) (g : SharedEntry Op) → In g H → Before g g (K ++ g ∷ H)
    last [] H g j = inl (refl, j)
    last (k ∷ K) H g j = inr (last K H g j)
