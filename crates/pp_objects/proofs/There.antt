-- Proof machinery: what was done to the object at a place, for all objects.
use Rattle.std.proofs.Common.{◌≡◌, ℕ, Bool, true, IsTrue, List, set, ◌↔◌, Option, Some, None}
use Rattle.std.proofs.Common.{Result, Ok, Err, OnOk, get_or, option_map, refl, sym, ◌∙◌, ap, subst}
use Rattle.std.proofs.lemmas.Option.{slice_get-map, get_or_from_slice_get}
use Rattle.std.specs.List.{slice_get}
use Rattle.pp_core.specs.declared.answer.OutOfMemory.{OutOfMemory}
use Rattle.pp_core.specs.declared.call.Kind.{Kind}
use Rattle.pp_kind.specs.Calls.{Applies, WasApplied}
use Rattle.pp_kind.specs.Object.{Swaps}
use Rattle.pp_kind.specs.declared.spec.Applied.{Applied}
use Rattle.pp_kind.specs.declared.spec.Applied.TheVariants.{Done, Differs}
use Rattle.pp_kind_memory.specs.declared.undo.Undo.{Undo}
use Rattle.pp_objects.specs.declared.act.Act.{Act}
use Rattle.pp_objects.specs.declared.act.Op.{Op}
use Rattle.pp_objects.specs.declared.states.ObjectState.{ObjectState}
use Rattle.pp_objects.specs.One.{one}
use Rattle.pp_objects.specs.Objects.{objects, gives_in, kept_in, fits_in, put, act_at}
use Rattle.pp_objects.specs.laws.Elements.{set_own}
use Rattle.pp_objects.specs.laws.Places.{next_is, next_there, legal_there, others_swap, swaps_at}
use Rattle.pp_objects.specs.laws.Places.{swaps_alone}
use Rattle.pp_objects.specs.laws.One.{one_lawful}

-- To apply an act to its object applies the operation to the objects of a run.
pub applies_there : (ss : List ObjectState) (x : Op) (s t : ObjectState)
    (r : Result (Applied Undo) OutOfMemory) → slice_get ss x.object ≡ Some s
    → Applies one s x.act r t → Applies objects ss x r (set ss x.object t)
applies_there ss x s t (Ok (Done undo)) e h = (
  ap (λ (v : Option ObjectState). gives_in one v x.act) e ∙ h.0,
  h.1 ∙ sym (ap (λ (v : Option ObjectState). kept_in one v x.act) e),
  ap (λ (v : ObjectState). set ss x.object v) h.2 ∙ sym (next_is one one_lawful ss x s e),
)
applies_there ss x s t (Ok Differs) e h = (
  (λ g. h.0 (sym (ap (λ (v : Option ObjectState). gives_in one v x.act) e) ∙ g)),
  ap (λ (v : ObjectState). set ss x.object v) h.1 ∙ set_own ss x.object s e,
)
applies_there ss x s t (Err refused) e h = ap (λ (v : ObjectState). set ss x.object v) h
    ∙ set_own ss x.object s e

-- operations of one place swap if their acts do
pub same_place_swaps : (a b : Op) (t : Bool) → a.object ≡ b.object
    → (IsTrue t → Swaps one a.act b.act) → (Swaps one a.act b.act → IsTrue t) → IsTrue t
    ↔ Swaps objects a b
same_place_swaps a b t e h g =
    let P : ℕ → Type 0 = λ p. IsTrue t ↔ Swaps objects a (act_at p b.act) in
    let there : P a.object = (
      (λ r. swaps_at one one_lawful a.object a.act b.act (h r)),
      (λ r. g (swaps_alone one one_lawful a.object a.act b.act r)),
    ) in
    subst P e there

-- Operations on different objects swap.
pub other_place_swaps : (a b : Op) → (a.object ≡ b.object → ⊥) → IsTrue true ↔ Swaps objects a b
other_place_swaps a b apart = ((λ r. others_swap one one_lawful a b apart), (λ r. refl))

-- An operation that fits, or that was applied, has an object at its place.
fits_by : (t : Option ObjectState) (a : Act) → IsTrue (fits_in one (option_map one.shape t) a)
    → (s : ObjectState) × (t ≡ Some s)
fits_by None a h = absurd (cc)
fits_by (Some s) a h = (s, refl)

-- An operation that fits the objects of a run has an object at its place.
pub fits_there : (ss : List ObjectState) (x : Op) → IsTrue (objects.fits (objects.shape ss) x)
    → (s : ObjectState) × (slice_get ss x.object ≡ Some s)
fits_there ss x h = fits_by (slice_get ss x.object) x.act
    (subst (λ (t : Option Kind). IsTrue (fits_in one t x.act))
    (slice_get-map one.shape ss x.object) h)

-- An operation that was applied has an object at its place.
pub was_there : (ss : List ObjectState) (x : Op) (u : Undo) → WasApplied objects x u ss
    → (s : ObjectState) × (slice_get ss x.object ≡ Some s)
was_there ss x u h =
    let t = legal_there one one_lawful h.0 x h.3 in (
      one.next t.0 x.act,
      ap (λ (ts : List ObjectState). slice_get ts x.object) h.4
          ∙ next_there one one_lawful h.0 x t.0 t.1,
    )

-- The object that is read at a place is the object there.
pub lent : (ss items : List ObjectState) (p n : ℕ) (s v : ObjectState) → slice_get ss p ≡ Some s
    → items ≡ ss → n ≡ p → v ≡ get_or items n v → slice_get ss p ≡ Some v
lent ss items p n s v e i j h =
    let at : v ≡ get_or ss p v = h ∙ ap (λ (l : List ObjectState). get_or l n v) i
    ∙ ap (λ (q : ℕ). get_or ss q v) j in
    e ∙ ap Some (sym (at ∙ get_or_from_slice_get ss p s v e))

-- The objects after one is written at a place.
pub written : (ss items : List ObjectState) (p n : ℕ) (t : ObjectState) → items ≡ ss → n ≡ p
    → set items n t ≡ set ss p t
written ss items p n t i j = ap (λ (l : List ObjectState). set l n t) i
    ∙ ap (λ (q : ℕ). set ss q t) j

-- To take an act back at its object takes the operation back in the objects of a run.
pub back_there : (ss : List ObjectState) (x : Op) (u : Undo) (s t : ObjectState)
    (r : Result (Unit {0}) OutOfMemory) (new : List ObjectState) → slice_get ss x.object ≡ Some s
    → new ≡ set ss x.object t → OnOk r (t ≡ one.upkeep.back s x.act u)
    → OnOk r (new ≡ objects.upkeep.back ss x u)
back_there ss x u s t (Ok done) new e w h =
    w ∙ ap (λ (v : ObjectState). set ss x.object v) h
    ∙ sym (ap (λ (v : Option ObjectState).
    put ss x.object (option_map (λ q. one.upkeep.back q x.act u) v)) e)
back_there ss x u s t (Err refused) new e w h = tt
