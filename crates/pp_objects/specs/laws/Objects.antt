-- Proof machinery: the objects of a run are lawful, and each operation has one place.
use Rattle.std.proofs.Common.{◌≡◌, ℕ, zero, suc, Bool, true, false, nat_eq, IsTrue, List, [], ◌∷◌}
use Rattle.std.proofs.Common.{◌++◌, map, set, Option, Some, None, option_map, ◌↔◌, refl, sym, ◌∙◌}
use Rattle.std.proofs.Common.{ap, subst, inl, inr, ◌⊎◌, if◌then◌else◌, arith}
use Rattle.std.proofs.lemmas.Bool.Decides.{nat_tests}
use Rattle.std.proofs.lemmas.List.{map-append, set-set}
use Rattle.std.proofs.lemmas.Option.{slice_get-map}
use Rattle.std.specs.List.{slice_get}
use Rattle.pp_core.specs.declared.call.Call.{Call}
use Rattle.pp_core.specs.declared.call.Kind.{Kind}
use Rattle.pp_kind.specs.Object.{Object, IsLegal, IsAllowed, AllRanged, Swaps, IsRefutedBy}
use Rattle.pp_kind.specs.Object.{IsLawful, IsPlaced, AllowsAllOf}
use Rattle.pp_kind_memory.specs.declared.undo.Undo.{Undo}
use Rattle.pp_objects.specs.declared.act.Act.{Act}
use Rattle.pp_objects.specs.declared.act.Op.{Op}
use Rattle.pp_objects.specs.declared.states.ObjectState.{ObjectState}
use Rattle.pp_objects.specs.One.{one, both_as}
use Rattle.pp_objects.specs.Objects.{many, objects, place_of, SameAt, fits_in, gives_in, kept_in}
use Rattle.pp_objects.specs.Objects.{put, act_at}
use Rattle.pp_objects.specs.laws.Elements.{same_place, same_some, set_own, same_list, get_put}
use Rattle.pp_objects.specs.laws.Elements.{put_other}
use Rattle.pp_objects.specs.laws.Places.{legal_there, next_is, next_there, next_other, next_shapes}
use Rattle.pp_objects.specs.laws.Places.{start_shapes, start_at, allowed_at, allowed_alone}
use Rattle.pp_objects.specs.laws.Places.{others_swap, swaps_at, swaps_alone}
use Rattle.pp_objects.specs.laws.One.{one_lawful, call_has_no_place, none_as}

-- a call at the object 0 is determined by its other parts
plain : (c : Call) → c.object ≡ 0 → record c { object = 0 } ≡ c
plain c h = ap (λ (n : ℕ). record c { object = n }) (sym h)

module _ (o : Object Kind ObjectState Act Undo) (laws : IsLawful o)
    (no_place : (a : Act) → (o.call a).object ≡ 0) where
  start_states : (kinds : List Kind) (p : ℕ) (s : ObjectState)
      → slice_get (map o.start kinds) p ≡ Some s → o.upkeep.IsState s
  start_states [] p s h = absurd (cc)
  start_states (q ∷ kinds) zero s h =
      subst (λ (t : ObjectState). o.upkeep.IsState t) (same_some (o.start q) s h)
      (laws.start_is_state q)
  start_states (q ∷ kinds) (suc p) s h = start_states kinds p s h

  next_states_by : (ss : List ObjectState) (x : Op) → (many o).upkeep.IsState ss
      → IsLegal (many o) ss x → (p : ℕ) (s : ObjectState) → (p ≡ x.object) ⊎ (p ≡ x.object → ⊥)
      → slice_get ((many o).next ss x) p ≡ Some s → o.upkeep.IsState s
  next_states_by ss x states h p s (inl e) there =
      let t = legal_there o laws ss x h in
      let at : slice_get ((many o).next ss x) x.object ≡ Some s =
      subst (λ (q : ℕ). slice_get ((many o).next ss x) q ≡ Some s) e there in
      subst (λ (r : ObjectState). o.upkeep.IsState r)
      (same_some (o.next t.0 x.act) s (sym (next_there o laws ss x t.0 t.1) ∙ at))
      (laws.next_is_state t.0 x.act (states x.object t.0 t.1) t.2)
  next_states_by ss x states h p s (inr other) there =
      let t = legal_there o laws ss x h in
      states p s (sym (next_other o laws ss x t.0 p t.1 other) ∙ there)

  back_is : (ss : List ObjectState) (x : Op) (u : Undo) (s : ObjectState)
      → slice_get ss x.object ≡ Some s
      → (many o).upkeep.back ss x u ≡ set ss x.object (o.upkeep.back s x.act u)
  back_is ss x u s e = ap (λ (t : Option ObjectState).
      put ss x.object (option_map (λ r. o.upkeep.back r x.act u) t)) e

  taken_back : (ss : List ObjectState) (x : Op) → (many o).upkeep.IsState ss → IsLegal (many o) ss x
      → (many o).upkeep.back ((many o).next ss x) x ((many o).upkeep.kept ss x) ≡ ss
  taken_back ss x states h =
      let t = legal_there o laws ss x h in
      let u = (many o).upkeep.kept ss x in
      back_is ((many o).next ss x) x u (o.next t.0 x.act) (next_there o laws ss x t.0 t.1)
      ∙ ap (λ (ts : List ObjectState). set ts x.object (o.upkeep.back (o.next t.0 x.act) x.act u))
      (next_is o laws ss x t.0 t.1)
      ∙ set-set ss x.object (o.next t.0 x.act) (o.upkeep.back (o.next t.0 x.act) x.act u)
      ∙ ap (λ (r : Option ObjectState).
      set ss x.object (o.upkeep.back (o.next t.0 x.act) x.act (kept_in o r x.act))) t.1
      ∙ ap (λ (s : ObjectState). set ss x.object s)
      (laws.taken_back t.0 x.act (states x.object t.0 t.1) t.2)
      ∙ set_own ss x.object t.0 t.1

  -- States of one shape that differ in the object at a place differ in what they allow.
  told_by : (ss ts : List ObjectState) (p : ℕ) (s t : Option ObjectState)
      → (many o).upkeep.IsState ss → (many o).upkeep.IsState ts → AllowsAllOf (many o) ss ts
      → slice_get ss p ≡ s → slice_get ts p ≡ t → option_map o.shape s ≡ option_map o.shape t
      → s ≡ t
  told_by ss ts p None None i j also e f h = refl
  told_by ss ts p None (Some t) i j also e f h = absurd (cc)
  told_by ss ts p (Some s) None i j also e f h = absurd (cc)
  told_by ss ts p (Some s) (Some t) i j also e f h =
      ap Some
      (laws.told_apart s t (i p s e) (j p t f) (same_some (o.shape s) (o.shape t) h)
      (λ l g. allowed_alone o laws p l ts t f
      (also (map (act_at p) l) (allowed_at o laws p l ss s e g))))

  told_apart : (ss ts : List ObjectState) → (many o).upkeep.IsState ss → (many o).upkeep.IsState ts
      → map o.shape ss ≡ map o.shape ts → AllowsAllOf (many o) ss ts → ss ≡ ts
  told_apart ss ts i j e also =
      same_list ss ts
      (λ p. told_by ss ts p (slice_get ss p) (slice_get ts p) i j also refl refl
      (sym (slice_get-map o.shape ss p) ∙ ap (λ (l : List Kind). slice_get l p) e
      ∙ slice_get-map o.shape ts p))

  one_answer : (ss : List ObjectState) (a b : Op) → (many o).call a ≡ (many o).call b
      → IsLegal (many o) ss a → IsLegal (many o) ss b → o.recorded a.act ≡ o.recorded b.act
  one_answer ss a b e h k =
      let t = legal_there o laws ss a h in
      let r = legal_there o laws ss b k in
      let place : a.object ≡ b.object = ap (λ (c : Call). c.object) e in
      let call : o.call a.act ≡ o.call b.act = sym (plain (o.call a.act) (no_place a.act))
      ∙ ap (λ (c : Call). record c { object = 0 }) e ∙ plain (o.call b.act) (no_place b.act) in
      let same : r.0 ≡ t.0 = same_some r.0 t.0
      (sym r.1 ∙ ap (λ (p : ℕ). slice_get ss p) (sym place) ∙ t.1) in
      laws.one_answer t.0 a.act b.act call t.2
      (subst (λ (s : ObjectState). IsLegal o s b.act) same r.2)

  -- the objects that both acts of a place fit
  fit_by : (t : Option Kind) (a b : Act) → IsTrue (fits_in o t a) → IsTrue (fits_in o t b)
      → (q : Kind) × (t ≡ Some q) × IsTrue (o.fits q a) × IsTrue (o.fits q b)
  fit_by None a b f g = absurd (cc)
  fit_by (Some q) a b f g = (q, refl, f, g)

  ranged_at : (p : ℕ) (l : List Act) → AllRanged o l → AllRanged (many o) (map (act_at p) l)
  ranged_at p [] h = tt
  ranged_at p (a ∷ l) h = (h.0, ranged_at p l h.1)

  refuted_at : (p : ℕ) (a b : Act) (r : Option (List Act × List Act)) → IsRefutedBy o a b r
      → IsRefutedBy (many o) (act_at p a) (act_at p b) (both_as (act_at p) r)
  refuted_at p a b None h = tt
  refuted_at p a b (Some lists) h =
      let P : List Kind → List Op → Type 0 = λ kinds l. IsAllowed (many o) kinds l in
      record {
        allowed = λ kinds f g.
            let q = fit_by (slice_get kinds p) a b f g in
            subst (P kinds) (map-append (act_at p) lists.0 (a ∷ b ∷ lists.1))
            (allowed_at o laws p (lists.0 ++ (a ∷ b ∷ lists.1)) (map o.start kinds) (o.start q.0)
            (start_at o laws kinds p q.0 q.1) (h.allowed q.0 q.2 q.3));
        changed = λ kinds f g k.
            let q = fit_by (slice_get kinds p) a b f g in
            h.changed q.0 q.2 q.3
            (allowed_alone o laws p (lists.0 ++ (b ∷ a ∷ lists.1)) (map o.start kinds) (o.start q.0)
            (start_at o laws kinds p q.0 q.1)
            (subst (P kinds) (sym (map-append (act_at p) lists.0 (b ∷ a ∷ lists.1))) k));
        ranged_before = λ f g. ranged_at p lists.0 (h.ranged_before f g);
        ranged_after = λ f g. ranged_at p lists.1 (h.ranged_after f g);
      }

  -- there are lists for a pair exactly if it does not swap, and they refute it
  IsExact : Op → Op → Option (List Op × List Op) → Type 0
  IsExact a b lists = ((lists ≡ None) ↔ Swaps (many o) a b) × IsRefutedBy (many o) a b lists

  exact_at : (p : ℕ) (a b : Act)
      → IsExact (act_at p a) (act_at p b) (both_as (act_at p) (o.refuting a b))
  unfolding IsExact
  exact_at p a b = (
    (
      (λ h. swaps_at o laws p a b ((laws.unrefuted a b).0 (none_as (act_at p) (o.refuting a b) h))),
      (λ h. ap (λ (r : Option (List Act × List Act)). both_as (act_at p) r)
          ((laws.unrefuted a b).1 (swaps_alone o laws p a b h))),
    ),
    refuted_at p a b (o.refuting a b) (laws.refuted a b),
  )

  exact_by : (a b : Op) (t : Bool) → nat_eq a.object b.object ≡ t
      → IsExact a b (if t then both_as (act_at a.object) (o.refuting a.act b.act) else None)
  unfolding IsExact
  exact_by a b true e =
      let same : a.object ≡ b.object = grind (arith, nat_tests) in
      subst (λ (p : ℕ). IsExact a (act_at p b.act)
      (both_as (act_at a.object) (o.refuting a.act b.act))) same (exact_at a.object a.act b.act)
  exact_by a b false e = (
    ((λ h. others_swap o laws a b (grind (arith, nat_tests))), (λ h. refl)),
    tt,
  )

  exact : (a b : Op) → IsExact a b ((many o).refuting a b)
  exact a b = exact_by a b (nat_eq a.object b.object) refl

  -- The objects of a run are lawful if an object of any kind is.
  pub many_lawful : IsLawful (many o)
  unfolding IsExact
  many_lawful = record {
    start_shape = start_shapes o laws;
    start_is_state = start_states;
    next_shape = next_shapes o laws;
    next_is_state = λ ss x i h p s e. next_states_by ss x i h p s (same_place p x.object) e;
    taken_back = taken_back;
    told_apart = told_apart;
    one_answer = one_answer;
    ranged_numbers = λ x. laws.ranged_numbers x.act;
    unrefuted = λ a b. (exact a b).0;
    refuted = λ a b. (exact a b).1;
  }

  -- Each operation on the objects of a run depends on its place alone.
  pub many_placed : IsPlaced (many o) place_of SameAt
  many_placed = record {
    same = λ p ss. refl;
    turned = λ p ss ts h. sym h;
    joined = λ p rs ss ts h k. h ∙ k;
    everywhere = λ ss ts e h. same_list ss ts h;
    apart = others_swap o laws;
    gives_there = λ ss ts a h. ap (λ (t : Option ObjectState). gives_in o t a.act) h;
    kept_there = λ ss ts a h. ap (λ (t : Option ObjectState). kept_in o t a.act) h;
    next_there = λ ss ts a h. get_put (λ s. o.next s a.act) ss a.object
        ∙ ap (λ (t : Option ObjectState). option_map (λ s. o.next s a.act) t) h
        ∙ sym (get_put (λ s. o.next s a.act) ts a.object);
    next_elsewhere = λ ss a p other.
        put_other ss a.object p (option_map (λ s. o.next s a.act) (slice_get ss a.object)) other;
  }

-- The objects of a run obey the laws of a kind, and the laws of places.
pub objects_lawful : IsLawful objects
objects_lawful = many_lawful one one_lawful call_has_no_place

-- Each operation on the objects of a run of all kinds depends on its place alone.
pub objects_placed : IsPlaced objects place_of SameAt
objects_placed = many_placed one one_lawful call_has_no_place
