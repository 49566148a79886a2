-- Each boosted configuration of which a Quick keeps the brief has a summary.
use Rattle.std.specs.Prelude.{◌≡◌, ◌≢◌, ◌==◌, ℕ, zero, nat_eq, is_some, Bool, true, false, not, ◌&&◌, List, [], ◌∷◌, ◌++◌, drop, filter, length, map, take, Option, None, Some}
use Rattle.std.specs.Map.{lookup}
use Rattle.std.proofs.Common.{refl, sym, ap, subst, ◌∙◌}
use Rattle.std.proofs.lemmas.Bool.{eq-eqb}
use Rattle.std.proofs.lemmas.List.{take-append-drop, take-map}
use mathlib.Core.Logic.{inl, inr}
use Rattle.pp_core.specs.declared.entry.Item.{Item}
use Rattle.pp_model.specs.Config.{Config, LocalEntry, Pulled, SharedEntry, Tx, as_shared, item, own_items, shared_item}
use Rattle.pp_model.specs.Lists.{Before, In}
use Rattle.pp_model.specs.Names.{Name}
use Rattle.pp_model.specs.Object.{HasDistinctIds, TellsStates}
use Rattle.pp_model.specs.Object as model
use Rattle.pp_model.specs.Serial.{has_id}
use Rattle.pp_model.proofs.Lists.{before_across, before_from_filter, before_from_map, by_key, from_filter, from_map, in_cases, in_filter, in_map}
use Rattle.pp_kind.specs.Object.{Object, rules_of}
use Rattle.pp_records.specs.Expansions.{stands_in}
use Rattle.pp_laws_summary.specs.LocalLogs.{IsSnapshot, Summable, serial_at}
use Rattle.pp_laws_summary.specs.Places.{PlacesPart}
use Rattle.pp_laws_summary.specs.Views.{done_at, pulled_at, seen_at}
use Rattle.pp_laws_summary.proofs.AtPlace.{from_done, from_pulled, to_pulled}
use Rattle.pp_laws_summary.proofs.Counts.{before_taken, in_taken}
use Rattle.pp_laws_summary.proofs.Parts.{swap_apart}
use Rattle.pp_laws_summary.proofs.Snapshots.{done_serial, is_pulled}
use Rattle.pp_summary.specs.Boosted.{PlacesSwap}
use Rattle.pp_summary.specs.Brief.{BriefTx, any_at, brief_tx, is_missed, shared_ids}
use Rattle.pp_summary.specs.Held.{IsHeldOf}
use Rattle.pp_summary.specs.Shown.{KeepsQuick, Kept, as_held, at, filled, ids_behind, is_unseen, shown_tx, unseen, unseen_at}
use Rattle.pp_summary.specs.declared.parts.OpenTx.{OpenTx}
use Rattle.pp_summary.proofs.Briefs.{differ}
use Rattle.pp_violations.specs.Summarised.{no_section, number_or_zero}
use Rattle.pp_violations.proofs.Summarised.{Slots, seen_is}
use Rattle.pp_violations.proofs.SummarisedLogs.{log_leads}
use Rattle.pp_laws_summary.proofs.Entries.{has_in, in_has, entry_in, is_there}
use Rattle.pp_laws_summary.proofs.Relog.{same_bool}

-- An id is among those of the entries that pass a test exactly if its entry passes.
has_filtered : {Op : Type 0} (test : SharedEntry Op → Bool) (G : List (SharedEntry Op)) → ((a b : SharedEntry Op) → Before a b G → a.id ≢ b.id) → (g : SharedEntry Op) → In g G →
    has_id g.id (shared_ids (filter test G)) ≡ test g
has_filtered {Op} test G d g i = same_bool (has_id g.id (shared_ids (filter test G))) (test g)
    (λ h.
    let m = from_map (λ (w : SharedEntry Op). w.id) g.id (filter test G) (has_in g.id (shared_ids (filter test G)) h) in
    let f = from_filter test m.0 G m.1 in
    subst (λ (w : SharedEntry Op). test w ≡ true) (by_key (λ (w : SharedEntry Op). w.id) G d m.0 g f.0 i (sym m.2)) f.1)
    (λ h. in_has g.id (shared_ids (filter test G)) (in_map (λ (w : SharedEntry Op). w.id) g (filter test G) (in_filter test g G i h)))

-- A view in the list is that of a transaction in a slot.
from_filled : {A B : Type 0} (f : Name → A → B) (es : List (Name × Option A)) (y : B) → In y (filled f es) → (n : Name) × (a : A) × In (n, Some a) es × (y ≡ f n a)
from_filled f [] y i = absurd i
from_filled f ((n, None) ∷ es) y i = let r = from_filled f es y i in (r.0, r.1, inr r.2, r.3)
from_filled f ((n, Some a) ∷ es) y (inl e) = (n, a, inl refl, e)
from_filled f ((n, Some a) ∷ es) y (inr i) = let r = from_filled f es y i in (r.0, r.1, inr r.2, r.3)

-- Operations at different places swap, in each shape.
pub places_swap : {Shape State Op Undo : Type 0} (o : Object Shape State Op Undo) (place : Op → ℕ) → ((shape : Shape) → PlacesPart (rules_of o shape) place) → (shape : Shape) → PlacesSwap (rules_of o shape) place
places_swap o place part shape = record { apart = (swap_apart (rules_of o shape) place (part shape)).apart }

module _ {Shape State Op Undo : Type 0} (o : Object Shape State Op Undo) (place : Op → ℕ) (part : (shape : Shape) → PlacesPart (rules_of o shape) place) (v : Kept Shape Op) (h : KeepsQuick o place v)
    (tells : TellsStates (rules_of o v.shape)) (c : Config Op) (is : IsHeldOf o place (as_held place v) c) where
  abbrev O : model.Object Op State
  O = rules_of o v.shape

  abbrev es : Slots Op
  es = v.slots.entries

  abbrev commits : List (List ℕ)
  commits = v.commits.items

  abbrev G : List (SharedEntry Op)
  G = c.shared

  same_log : G ≡ v.shared.1
  same_log = ap (λ b. b.shared) is.is

  same_done : c.done ≡ v.committed
  same_done = ap (λ b. b.done) is.is

  ids : (g k : SharedEntry Op) → Before g k G → g.id ≢ k.id
  ids = is.boosted.sound.shared_ids

  module _ (y : Tx Op) (iy : In y c.opened) (n : Name) (x : OpenTx (List (Item Op))) (i : In (n, Some x) es) (e : brief_tx place c.shared y ≡ shown_tx place v.shared.1 v.commits.items n x) (q : ℕ) where
    abbrev l : List (LocalEntry Op)
    l = y.local

    abbrev D : List (Item Op)
    D = serial_at place q c.done

    abbrev seen : Option ℕ
    seen = lookup (nat_eq q) x.seen.entries

    -- The items of the serial run at the place have the ids of the commits there.
    ids_are : map (λ p. p.id) D ≡ at q commits
    ids_are = ap (λ w. map (λ (p : Item Op). p.id) (serial_at place q w)) same_done ∙ sym (h.commits q)

    D_distinct : HasDistinctIds D
    D_distinct = (done_serial O place c is.boosted.sound q).distinct_y

    -- As many entries were pulled at the place as were seen there.
    count_is : seen_at place q l ≡ number_or_zero seen
    count_is = seen_is o place (places_swap o place part) v h c is y n x iy i e q

    stand : (a : LocalEntry Op) → In a l → a.mark ≡ Pulled → In (as_shared a.owner true (item a)) G
    stand a j m = (is.boosted.follows y iy).pulled_stand a j m

    -- An entry is missed exactly if it is unseen.
    same_missed : (g : SharedEntry Op) → In g G → is_missed place l g ≡ is_unseen place commits x.seen.entries g
    same_missed g j =
        sym (has_filtered (is_missed place l) G ids g j)
        ∙ ap (λ (js : List ℕ). has_id g.id js) (ap (λ (b : BriefTx Op). b.missed) e ∙ ap (λ (w : List (SharedEntry Op)). unseen place w commits x.seen.entries) (sym same_log))
        ∙ has_filtered (is_unseen place commits x.seen.entries) G ids g j

    -- The transaction has an own operation at a place exactly if it has a count for it.
    own_there : any_at place q (own_items l) ≡ is_some seen
    own_there = ap (λ (w : List (Item Op)). any_at place q w) (ap (λ (b : BriefTx Op). b.own) e) ∙ sym ((h.fine n x i).sees q)

    -- The commits that are missed at the place, if k were seen.
    module _ (k : ℕ) (s : lookup (nat_eq q) x.seen.entries ≡ Some k) where
      behind_is : (g : SharedEntry Op) → In g G → g.committed ≡ true → place g.op ≡ q → has_id g.id (drop k (at q commits)) ≡ not (stands_in l g.id)
      behind_is g j u p =
          let m : is_missed place l g ≡ not (stands_in l g.id) =
          ap (λ (b : Bool). b && (any_at place (place g.op) (own_items l) && not (stands_in l g.id))) u
          ∙ ap (λ (b : Bool). b && not (stands_in l g.id)) (ap (λ (w : ℕ). any_at place w (own_items l)) p ∙ own_there ∙ ap (λ (w : Option ℕ). is_some w) s) in
          let w : is_unseen place commits x.seen.entries g ≡ has_id g.id (drop k (at q commits)) =
          ap (λ (b : Bool). b && has_id g.id (unseen_at (place g.op) commits x.seen.entries)) u
          ∙ ap (λ (z : ℕ). has_id g.id (unseen_at z commits x.seen.entries)) p
          ∙ ap (λ (z : Option ℕ). has_id g.id (ids_behind z (at q commits))) s in
          sym w ∙ sym (same_missed g j) ∙ m

      id_in : (p : Item Op) → In p (take k D) → In p.id (take k (at q commits))
      id_in p j = subst (λ (w : List ℕ). In p.id w) (sym (take-map (λ (w : Item Op). w.id) k D) ∙ ap (λ (w : List ℕ). take k w) ids_are) (in_map (λ (w : Item Op). w.id) p (take k D) j)

      id_from : (p : Item Op) → In p D → In p.id (take k (at q commits)) → In p (take k D)
      id_from p j m =
          let r = from_map (λ (w : Item Op). w.id) p.id (take k D) (subst (λ (w : List ℕ). In p.id w) (sym (sym (take-map (λ (w : Item Op). w.id) k D) ∙ ap (λ (w : List ℕ). take k w) ids_are)) m) in
          subst (λ (w : Item Op). In w (take k D)) (by_key (λ (w : Item Op). w.id) D D_distinct r.0 p (in_taken k D r.0 r.1) j (sym r.2)) r.1

      -- No id is both seen and unseen.
      not_behind : (i : ℕ) → In i (take k (at q commits)) → In i (drop k (at q commits)) → ⊥
      not_behind i a b =
          let m = before_from_map (λ (w : Item Op). w.id) i i D
          (subst (λ (w : List ℕ). Before i i w) (take-append-drop k (at q commits) ∙ sym ids_are) (before_across i i (take k (at q commits)) (drop k (at q commits)) a b)) in
          D_distinct m.0 m.1 m.2 (sym m.3 ∙ m.4)

      some_into : (p : Item Op) → In p (map item (pulled_at place q l)) → In p (take k D)
      some_into p j =
          let m = from_map item p (pulled_at place q l) j in
          let f = from_pulled place q l m.0 m.1 in
          let g = as_shared (m.0).owner true (item m.0) in
          let ig = stand m.0 f.0 f.1 in
          let s = is.boosted.sound.committed_from g ig refl in
          let r = (done_serial O place c is.boosted.sound q).into (item m.0)
          (in_map shared_item g (done_at place q G) (in_filter (λ (w : SharedEntry Op). w.committed && (place w.op == q)) g G ig (eq-eqb (place (m.0).op) q f.2))) in
          let all : In (m.0).id (take k (at q commits) ++ drop k (at q commits)) =
          subst (λ (w : List ℕ). In (m.0).id w) (ids_are ∙ sym (take-append-drop k (at q commits))) (in_map (λ (w : Item Op). w.id) (item m.0) D r) in
          subst (λ (w : Item Op). In w (take k D)) (sym m.2) (elim (in_cases (m.0).id (take k (at q commits)) (drop k (at q commits)) all) [
            | inl z ↦ id_from (item m.0) r z
            | inr z ↦ absurd (differ (has_id (m.0).id (drop k (at q commits))) (in_has (m.0).id (drop k (at q commits)) z) (behind_is g ig refl f.2 ∙ ap not (is_there (m.0).id l m.0 f.0 refl)))
          ])

      -- A committed entry that is in the log was pulled.
      was_pulled : (g : SharedEntry Op) → In g G → g.committed ≡ true → place g.op ≡ q → stands_in l g.id ≡ true → In (shared_item g) (map item (pulled_at place q l))
      was_pulled g j u z w =
          let a = entry_in g.id l w in
          let r = is_pulled O place c is.boosted.sound y iy stand g j u a.0 a.1 a.2 in
          subst (λ (m : Item Op). In m (map item (pulled_at place q l))) r.1 (in_map item a.0 (pulled_at place q l) (to_pulled place q l a.0 a.1 r.0 (ap (λ (m : Item Op). place m.op) r.1 ∙ z)))

      -- A committed entry that was seen is in the log.
      was_seen : (g : SharedEntry Op) → In g G → g.committed ≡ true → place g.op ≡ q → In g.id (take k (at q commits)) → stands_in l g.id ≡ true
      was_seen g j u z w = by (stands_in l g.id) refl
        where
          by : (m : Bool) → stands_in l g.id ≡ m → stands_in l g.id ≡ true
          by true e = e
          by false e = absurd (not_behind g.id w (has_in g.id (drop k (at q commits)) (behind_is g j u z ∙ ap not e)))

      some_back : (p : Item Op) → In p (take k D) → In p (map item (pulled_at place q l))
      some_back p j =
          let m = from_map shared_item p (done_at place q G) ((done_serial O place c is.boosted.sound q).back p (in_taken k D p j)) in
          let d = from_done place q G m.0 m.1 in
          let seen : In (m.0).id (take k (at q commits)) = subst (λ (w : Item Op). In w.id (take k (at q commits))) m.2 (id_in p j) in
          subst (λ (w : Item Op). In w (map item (pulled_at place q l))) (sym m.2) (was_pulled m.0 d.0 d.1 d.2 (was_seen m.0 d.0 d.1 d.2 seen))

    none_in : {A : Type 0} (w : List A) (p : A) → length w ≡ zero → In p w → ⊥
    none_in [] p z j = j
    none_in (a ∷ w) p z j = absurd (cc)

    into : (p : Item Op) → In p (map item (pulled_at place q l)) → In p (take (seen_at place q l) D)
    into p j = by seen refl
      where
        by : (m : Option ℕ) → lookup (nat_eq q) x.seen.entries ≡ m → In p (take (seen_at place q l) D)
        by None s = let m = from_map item p (pulled_at place q l) j in absurd (none_in (pulled_at place q l) m.0 (count_is ∙ ap number_or_zero s) m.1)
        by (Some k) s = subst (λ (w : ℕ). In p (take w D)) (sym (count_is ∙ ap number_or_zero s)) (some_into k s p j)

    back : (p : Item Op) → In p (take (seen_at place q l) D) → In p (map item (pulled_at place q l))
    back p j = by seen refl
      where
        by : (m : Option ℕ) → lookup (nat_eq q) x.seen.entries ≡ m → In p (map item (pulled_at place q l))
        by None s = absurd (let z : In p (take zero D) = subst (λ (w : ℕ). In p (take w D)) (count_is ∙ ap number_or_zero s) j in z)
        by (Some k) s = some_back k s p (subst (λ (w : ℕ). In p (take w D)) (count_is ∙ ap number_or_zero s) j)

    taken_distinct : HasDistinctIds (take (seen_at place q l) D)
    taken_distinct p r j = D_distinct p r (before_taken (seen_at place q l) D p r j)

    -- The pulled entries at the place are the first commits there.
    snapshot : IsSnapshot O place y.local q (take (seen_at place q y.local) (serial_at place q c.done))
    snapshot =
        record {
          distinct_x = λ p r j s.
              let m = before_from_map item p r (pulled_at place q l) j in
              is.boosted.sound.local_ids y iy m.0 m.1 (before_from_filter _ m.0 m.1 l m.2) (ap (λ (w : Item Op). w.id) (sym m.3) ∙ s ∙ ap (λ (w : Item Op). w.id) m.4);
          distinct_y = taken_distinct;
          into = into;
          back = back;
          leads = log_leads O place (part v.shape) tells c is.boosted y iy q (take (seen_at place q l) D) taken_distinct into back
              (λ p r j. before_taken (seen_at place q l) D p r j) (λ p j. in_taken (seen_at place q l) D p j);
        }

  -- Each boosted configuration with this brief has a summary.
  pub boosted_summable : Summable (rules_of o v.shape) place no_section c
  boosted_summable =
      record {
        sound = is.boosted.sound;
        pulls_committed = λ y iy a j m. (is.boosted.follows y iy).pulled_stand a j m;
        snapshots = λ y iy q.
            let r = from_filled (shown_tx place v.shared.1 v.commits.items) es (brief_tx place c.shared y)
            (subst (λ (w : List (BriefTx Op)). In (brief_tx place c.shared y) w) (ap (λ b. b.opened) is.is) (in_map (brief_tx place c.shared) y c.opened iy)) in
            snapshot y iy r.0 r.1 r.2 r.3 q;
        sections = λ y iy m s. absurd (let z : None ≡ Some m = s in cc);
        fresh = λ t n. refl;
      }
