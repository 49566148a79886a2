-- The acts on one object of a run mean what they mean to the object alone.
use Rattle.std.specs.Prelude.{◌≡◌, ◌≢◌, ◌==◌, Bool, true, false, cond, ℕ, zero, suc, List, [], ◌∷◌, ◌++◌, map, slice_get, Some}
use Rattle.std.proofs.Common.{refl, sym, ap, subst, ◌∙◌, arith}
use Rattle.std.proofs.lemmas.Bool.{eq-eqb, eqb-true}
use Rattle.std.proofs.lemmas.List.{map-append}
use Rattle.std.proofs.lemmas.List.Elements.{filter-append}
use mathlib.Core.Logic.{inl, inr}
use Rattle.pp_core.specs.declared.call.Kind.{Kind}
use Rattle.pp_model.specs.Object.{Allowed, Swaps}
use Rattle.pp_kind.specs.Object.{rules_of}
use Rattle.pp_records.specs.Fronts.{is_memory}
use Rattle.pp_objects.specs.declared.act.Act.{Act}
use Rattle.pp_objects.specs.declared.act.Op.{Op}
use Rattle.pp_objects.specs.Objects.{SameAt, act_at, objects, place_of}
use Rattle.pp_objects.specs.One.{one}
use Rattle.pp_objects.specs.laws.Elements.{same_place}
use Rattle.pp_objects.specs.laws.Objects.{objects_lawful, objects_placed}
use Rattle.pp_objects.specs.laws.One.{one_lawful}
use Rattle.pp_objects.specs.laws.Places.{allowed_alone, allowed_at, start_at}
use Rattle.pp_laws_summary.specs.Places.{PlacesPart, ops_at}
use Rattle.pp_laws_summary.proofs.Parts.{not_eq}
use Rattle.pp_laws_summary.proofs.Placed.{parts_of}
use Rattle.pp_laws_mapped.specs.Laws.{MapsObjects, MapsPlaces}

-- The number of an object in a run, if it is the first one alone. No other number leads to it.
abbrev pub numbered : ℕ → ℕ → ℕ
numbered o zero = o
numbered o (suc p) = suc o

module _ (o : ℕ) where
  -- the acts of a list on the object
  abbrev acts : List Op → List Act
  acts l = map (λ (x : Op). x.act) (ops_at place_of o l)

  acts_are : (l : List Op) → ops_at place_of o l ≡ map (act_at o) (acts l)
  acts_are [] = refl
  acts_are (x ∷ l) = by (place_of x == o) refl (acts_are l)
    where
      here : (place_of x == o) ≡ true → x ≡ act_at o x.act
      here e = ap (λ (p : ℕ). act_at p x.act) (eqb-true x.object o e)

      by : (b : Bool) → (place_of x == o) ≡ b → ops_at place_of o l ≡ map (act_at o) (acts l) → cond b (x ∷ ops_at place_of o l) (ops_at place_of o l) ≡ map (act_at o) (map (λ (y : Op). y.act) (cond b (x ∷ ops_at place_of o l) (ops_at place_of o l)))
      by true e more = ap (λ (y : Op). y ∷ ops_at place_of o l) (here e) ∙ ap (λ (w : List Op). act_at o x.act ∷ w) more
      by false e more = more

  -- two acts on the object, among other operations
  two_here : (before after : List Op) (a b : Act) → ops_at place_of o (before ++ act_at o a ∷ act_at o b ∷ after) ≡ map (act_at o) (acts before ++ a ∷ b ∷ acts after)
  two_here before after a b =
      filter-append (λ (x : Op). place_of x == o) before (act_at o a ∷ act_at o b ∷ after)
      ∙ ap (λ (t : Bool). ops_at place_of o before ++ cond t (act_at o a ∷ cond t (act_at o b ∷ ops_at place_of o after) (ops_at place_of o after)) (cond t (act_at o b ∷ ops_at place_of o after) (ops_at place_of o after))) (eq-eqb o o refl)
      ∙ ap (λ (w : List Op). w ++ act_at o a ∷ act_at o b ∷ ops_at place_of o after) (acts_are before)
      ∙ ap (λ (w : List Op). map (act_at o) (acts before) ++ act_at o a ∷ act_at o b ∷ w) (acts_are after)
      ∙ sym (map-append (act_at o) (acts before) (a ∷ b ∷ acts after))

  -- at another object they are not there
  two_elsewhere : (p : ℕ) → o ≢ p → (before after : List Op) (a b : Act) → ops_at place_of p (before ++ act_at o a ∷ act_at o b ∷ after) ≡ ops_at place_of p before ++ ops_at place_of p after
  two_elsewhere p n before after a b =
      filter-append (λ (x : Op). place_of x == p) before (act_at o a ∷ act_at o b ∷ after)
      ∙ ap (λ (t : Bool). ops_at place_of p before ++ cond t (act_at o a ∷ cond t (act_at o b ∷ ops_at place_of p after) (ops_at place_of p after)) (cond t (act_at o b ∷ ops_at place_of p after) (ops_at place_of p after))) (not_eq o p n)

  module _ (ks : List Kind) (k : Kind) (at : slice_get ks o ≡ Some k) where
    to_run : (l : List Act) → Allowed (rules_of one k) l → Allowed (rules_of objects ks) (map (act_at o) l)
    to_run l h = allowed_at one one_lawful o l (map one.start ks) (one.start k) (start_at one one_lawful ks o k at) h

    from_run : (l : List Act) → Allowed (rules_of objects ks) (map (act_at o) l) → Allowed (rules_of one k) l
    from_run l h = allowed_alone one one_lawful o l (map one.start ks) (one.start k) (start_at one one_lawful ks o k at) h

    places : PlacesPart (rules_of objects ks) place_of
    places = parts_of objects place_of SameAt objects_lawful objects_placed ks

    swaps_here : (a b : Act) → Swaps (rules_of one k) a b → (before after : List Op) → Allowed (rules_of objects ks) (before ++ act_at o a ∷ act_at o b ∷ after) → Allowed (rules_of objects ks) (before ++ act_at o b ∷ act_at o a ∷ after)
    swaps_here a b swaps before after h =
        (places.parts (before ++ act_at o b ∷ act_at o a ∷ after)).1 (λ p. elim (same_place p o) [
          | inl e ↦
              subst (λ (q : ℕ). Allowed (rules_of objects ks) (ops_at place_of q (before ++ act_at o b ∷ act_at o a ∷ after))) (sym e)
              (subst (λ (w : List Op). Allowed (rules_of objects ks) w) (sym (two_here before after b a))
              (to_run (acts before ++ b ∷ a ∷ acts after) (swaps.always (acts before) (acts after)
              (from_run (acts before ++ a ∷ b ∷ acts after) (subst (λ (w : List Op). Allowed (rules_of objects ks) w) (two_here before after a b) ((places.parts (before ++ act_at o a ∷ act_at o b ∷ after)).0 h o))))))
          | inr n ↦
              let apart : o ≢ p = λ e. n (sym e) in
              subst (λ (w : List Op). Allowed (rules_of objects ks) w) (two_elsewhere p apart before after a b ∙ sym (two_elsewhere p apart before after b a))
              ((places.parts (before ++ act_at o a ∷ act_at o b ∷ after)).0 h p)
        ])

    swaps_alone : (a b : Act) → Swaps (rules_of objects ks) (act_at o a) (act_at o b) → (before after : List Act) → Allowed (rules_of one k) (before ++ a ∷ b ∷ after) → Allowed (rules_of one k) (before ++ b ∷ a ∷ after)
    swaps_alone a b swaps before after h =
        from_run (before ++ b ∷ a ∷ after) (subst (λ (w : List Op). Allowed (rules_of objects ks) w) (sym (map-append (act_at o) before (b ∷ a ∷ after)))
        (swaps.always (map (act_at o) before) (map (act_at o) after) (subst (λ (w : List Op). Allowed (rules_of objects ks) w) (map-append (act_at o) before (a ∷ b ∷ after)) (to_run (before ++ a ∷ b ∷ after) h))))

    -- Acts on one object of a run are allowed as they are on the object alone, and the same pairs swap.
    pub one_of_run : MapsObjects (rules_of one k) (rules_of objects ks) (act_at o)
    one_of_run = record {
      only = λ a b h. ap (λ (x : Op). x.act) h;
      allowed = λ l. (to_run l, from_run l);
      swaps = λ a b. ((λ h. record { always = swaps_here a b h }), (λ h. record { always = swaps_alone a b h }));
    }

    same_number : (p : ℕ) → (o == numbered o p) ≡ (0 == p)
    same_number zero = eq-eqb o o refl
    same_number (suc p) = not_eq o (suc o) (λ e. omega (arith, e)) ∙ sym (not_eq 0 (suc p) (λ e. omega (arith, e)))

    -- The object is the first one of a run on it alone.
    pub first_of_run : MapsPlaces (act_at o) (numbered o) (λ a. 0) place_of (k ∷ []) ks
    first_of_run = record {
      anew = λ a. refl;
      same = λ a p. same_number p;
      memory = λ a. ap is_memory at;
    }
