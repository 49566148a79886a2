-- Proof machinery: what is known of an object of some kind, for the kind by itself.
use Rattle.std.proofs.Common.{◌≡◌, Bool, true, false, IsTrue, ◌↔◌, refl, sym, subst}
use Rattle.pp_core.specs.declared.call.Kind.{Kind}
use Rattle.pp_kind.specs.Calls.{WasApplied}
use Rattle.pp_kind.specs.Object.{IsReached, Swaps}
use Rattle.pp_kind_memory.specs.declared.undo.Undo.{Undo}
use Rattle.pp_objects.specs.declared.act.Act.{Act}
use Rattle.pp_objects.specs.declared.states.ObjectState.{ObjectState}
use Rattle.pp_objects.specs.One.{one}
use Rattle.pp_objects.specs.laws.Kinds.{Ops, States, act_of, its_act, object_of, state_of, undo_from}
use Rattle.pp_objects.specs.laws.Acts.{swaps_in, swaps_out}
use Rattle.pp_objects.specs.laws.One.{reached_shape, others_swap}
use Rattle.pp_objects.specs.laws.Reached.{reached_alone, was_applied_alone}

module _ (k : Kind) where
  -- A state of a kind that is reached among all kinds is reached in the kind by itself.
  pub reached_here : (w : ObjectState) (s : States k) → w ≡ state_of k s → IsReached one w
      → IsReached (object_of k) s
  reached_here w s e h = reached_alone k s (subst (λ (v : ObjectState). IsReached one v) e h)

  -- An act of a kind that was applied among all kinds was applied in the kind by itself.
  pub was_applied_here : (w : ObjectState) (s : States k) (x : Act) (a : Ops k) (u : Undo)
      → w ≡ state_of k s → x ≡ act_of k a → WasApplied one x u w
      → WasApplied (object_of k) a (undo_from k u) s
  was_applied_here w s x a u e f h =
      let P : ObjectState → Type 0 = λ v. WasApplied one (act_of k a) u v in
      let Q : Act → Type 0 = λ y. WasApplied one y u w in
      was_applied_alone k s a u (subst P e (subst Q f h))

  -- A pair of the kind swaps if it swaps in its kind.
  pub pair_swaps : (x y : Act) (a b : Ops k) (t : Bool) → x ≡ act_of k a → y ≡ act_of k b
      → (IsTrue t → Swaps (object_of k) a b) → (Swaps (object_of k) a b → IsTrue t) → IsTrue t
      ↔ Swaps one x y
  pair_swaps x y a b t e f h g =
      let P : Act → Act → Type 0 = λ v w. IsTrue t ↔ Swaps one v w in
      let there : P (act_of k a) (act_of k b) =
      ((λ r. swaps_in k reached_shape a b (h r)), (λ r. g (swaps_out k a b r))) in
      subst (λ (v : Act). P v y) (sym e) (subst (λ (w : Act). P (act_of k a) w) (sym f) there)

  unfit_by : (y : Act) (t : Bool) → one.fits k y ≡ t → ((b : Ops k) → y ≡ act_of k b → ⊥)
      → t ≡ false
  unfit_by y true e never = let b = its_act k y e in absurd (never b.0 b.1)
  unfit_by y false e never = refl

  -- and with an act of another kind it always does
  pub strangers_swap : (x y : Act) (a : Ops k) → x ≡ act_of k a → ((b : Ops k) → y ≡ act_of k b → ⊥)
      → IsTrue true ↔ Swaps one x y
  strangers_swap x y a e never =
      let swaps = others_swap k a y (unfit_by y (one.fits k y) refl never) in
      ((λ r. subst (λ (v : Act). Swaps one v y) (sym e) swaps), (λ r. refl))
