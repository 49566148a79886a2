-- The result of a rule's function for its own step is a result for the equal step that was requested.
use Rattle.std.proofs.Common.{◌≡◌, ◌≤◌, ◌+◌, ℕ, zero, suc, Result, Ok, Err, IfOk, sym, ap, subst}
use Rattle.std.proofs.Common.{arith}
use Rattle.pp_model.specs.Config.{Step}
use Rattle.pp_model.specs.Sound.{Sound}
use Rattle.pp_kind.specs.Object.{Object, IsLawful, rules_of}
use Rattle.pp_machine.specs.Evidence.{Fits}
use Rattle.pp_machine.specs.Shown.{HoldsAtNumber, IsShown, facts}
use Rattle.pp_machine.specs.declared.detail.Detail.{Detail}
use Rattle.pp_machine.specs.declared.machine.Outcome.{Outcome}
use Rattle.pp_machine.specs.declared.machine.Outcome.TheVariants.{Done, False}
use Rattle.pp_machine.specs.Costs.{Costs, CostsBy, CostsDone, CostsInVain}
use Rattle.pp_machine.specs.Machines.{Seen}
use Rattle.pp_machine.specs.Stepping.{IsAsked, Stepped}
use Rattle.pp_machine.proofs.Telling.{evidence_law}

module _ {Shape State Op Undo : Type 0} (o : Object Shape State Op Undo) (v : Seen Shape Op) where
  one_more : (s : Step Op) (out : Outcome Op) (w : Seen Shape Op) → Stepped o v s out w → w.count ≤ v.count + 1
  one_more s Done w h = let e : w.count ≡ v.count + 1 = ap (λ (z : Seen Shape Op). z.count) h.1 in omega (arith, e)
  one_more s (False n detail) w h = let e : w.count ≡ v.count = ap (λ (z : Seen Shape Op). z.count) h.2 in omega (arith, e)

  module _ {E : Type 0} (r : Result (Seen Shape Op × Outcome Op) E) (s asked : Step Op) (is : asked ≡ s) where
    -- The effect of a step is the effect of an equal step.
    pub effect_of : IfOk r (λ k. Stepped o v s k.1 k.0) → IfOk r (λ k. Stepped o v asked k.1 k.0)
    effect_of h = subst (λ (z : Step Op). IfOk r (λ k. Stepped o v z k.1 k.0)) (sym is) h

  module _ (laws : IsLawful o) (sound : Sound (rules_of o v.shape) v.config) (s : Step Op) (asks : IsAsked o v.shape s) where
    -- The evidence of a step shows the facts of an equal step.
    pub shows_by : (out : Outcome Op) (w : Seen Shape Op) → Stepped o v s out w → IsShown o v s out
    shows_by Done w h = tt
    shows_by (False zero detail) w h = absurd (omega (arith, h.1))
    shows_by (False (suc n) detail) w h =
        let law = evidence_law o laws v.shape in
        subst (λ (d : Detail Op). HoldsAtNumber o (facts o v.shape v.config s) (suc n) d × Fits o v.shape d) (sym h.3) (law.shows v.config s n sound asks h.0, law.fits v.config s (suc n) sound)

    -- The evidence that the machine returns of a step shows its first false criterion.
    pub shown_of : {E : Type 0} (r : Result (Seen Shape Op × Outcome Op) E) → IfOk r (λ k. Stepped o v s k.1 k.0) → IfOk r (λ k. IsShown o v s k.1)
    shown_of (Ok k) h = shows_by k.1 k.0 h
    shown_of (Err e) h = tt

  -- One step raises the count of steps by at most one.
  pub count_of : {E : Type 0} (r : Result (Seen Shape Op × Outcome Op) E) (s : Step Op) → IfOk r (λ k. Stepped o v s k.1 k.0) → IfOk r (λ k. k.0.count ≤ v.count + 1)
  count_of (Ok k) s h = one_more s k.1 k.0 h
  count_of (Err e) s h = tt

module _ {Shape Op : Type 0} (place : Op → ℕ) (v : Seen Shape Op) where
  free_by : (s : Step Op) (out : Outcome Op) (a : ℕ) → CostsDone place v.config s a a → CostsInVain place v.config s a a → CostsBy place v.config s out a a
  free_by s Done a e h = e
  free_by s (False n detail) a e h = h

  free : {A E : Type 0} (r : Result (A × Outcome Op) E) (s : Step Op) (a : ℕ) → CostsDone place v.config s a a → CostsInVain place v.config s a a → Costs place v s r a a
  free (Ok k) s a e h = free_by s k.1 a e h
  free (Err x) s a e h = omega arith

  -- A step whose function does not get the counter costs nothing.
  pub free_of : {A E : Type 0} (r : Result (A × Outcome Op) E) (s asked : Step Op) (a : ℕ) → asked ≡ s → CostsDone place v.config s a a → CostsInVain place v.config s a a → Costs place v asked r a a
  free_of r s asked a is e h = subst (λ (z : Step Op). Costs place v z r a a) (sym is) (free r s a e h)
