-- Which commits at a place are unseen, which entries with given ids swap with own operations, and the calls of the first items.
use Rattle.std.specs.Prelude.{◌≡◌, ◌==◌, ◌||◌, ◌<◌, ◌+◌, ℕ, nat_eq, Bool, true, false, List, [], ◌∷◌, ◌++◌, drop, length, map, position, slice_get, take, Option, None, Some}
use Rattle.std.specs.Map.{lookup}
use Rattle.std.proofs.Common.{refl, ap, subst, sym, ◌∙◌}
use Rattle.std.proofs.lemmas.Bool.{eq-eqb, eqb-true}
use Rattle.std.proofs.lemmas.List.{map-append}
use Rattle.std.proofs.lemmas.Option.{same_Some}
use mathlib.Core.Logic.{inl, inr}
use Rattle.pp_core.specs.declared.entry.Item.{Item}
use Rattle.pp_core.specs.declared.entry.SharedEntry.{SharedEntry}
use Rattle.pp_model.specs.Body.{Call}
use Rattle.pp_model.specs.Lists.{In}
use Rattle.pp_model.specs.Serial.{has_id}
use Rattle.pp_model.proofs.Lists.{by_key}
use Rattle.pp_model.proofs.Finding.{find_nowhere, place_none, placed, stands_in}
use Rattle.pp_kind.specs.Object.{Object}
use Rattle.pp_summary.specs.Passing.{HaveOwnIds, LetAllPass, LetPass, Stops, StopsOne}
use Rattle.pp_summary.specs.Shown.{at, calls_of, ids_behind, ids_or_none, unseen_at}
use Rattle.pp_summary.proofs.Items.{in_drop, some_there, take_next}

-- An element after the first k is an element of the list.
pub in_behind : {A : Type 0} (m : Option ℕ) (l : List A) (a : A) → In a (ids_behind m l) → In a l
in_behind None l a h = absurd h
in_behind (Some k) l a h = let r = in_drop l k a h in stands_in l r.0 a r.2

-- An id is in a joined list exactly if it is in one of both lists.
pub has_id_append : (i : ℕ) (l m : List ℕ) → has_id i (l ++ m) ≡ (has_id i l || has_id i m)
has_id_append i [] m = refl
has_id_append i (j ∷ l) m = ap (λ (b : Bool). (j == i) || b) (has_id_append i l m) ∙ assoc (j == i) (has_id i l) (has_id i m)
  where
    assoc : (a b c : Bool) → (a || (b || c)) ≡ ((a || b) || c)
    assoc true b c = refl
    assoc false b c = refl

-- The unseen commits at a place are those after the ones that were seen.
pub unseen_is : (q : ℕ) (commits : List (List ℕ)) (seen : List (ℕ × ℕ)) (k : ℕ) (l : List ℕ) →
    lookup (nat_eq q) seen ≡ Some k → slice_get commits q ≡ Some l → unseen_at q commits seen ≡ drop k l
unseen_is q commits seen k l h e =
    ap (λ m. ids_behind m (at q commits)) h ∙ ap (λ m. drop k (ids_or_none m)) e

-- If no position has an id, no entry of the shared log has it.
pub none_with_id : {Op : Type 0} (G : List (SharedEntry Op)) (id : ℕ) → position (λ e. e.id == id) G ≡ None → (g : SharedEntry Op) → In g G → g.id ≡ id → ⊥
none_with_id {Op} G id h g i n =
    let k = find_nowhere (λ (e : SharedEntry Op). e.id == id) G (place_none (λ (e : SharedEntry Op). e.id == id) G h) g i in
    let z : true ≡ false = sym (eq-eqb g.id id n) ∙ k in cc

-- The entry at the position of an id is in the shared log and has the id.
pub with_id : {Op : Type 0} (G : List (SharedEntry Op)) (id k : ℕ) (e : SharedEntry Op) → position (λ e. e.id == id) G ≡ Some k → slice_get G k ≡ Some e → In e G × (e.id ≡ id)
with_id {Op} G id k e h s =
    let p = placed (λ (g : SharedEntry Op). g.id == id) G k h in
    (stands_in G k e s, ap (λ (g : SharedEntry Op). g.id) (same_Some e p.0 (sym s ∙ p.1)) ∙ eqb-true (p.0).id id p.2)

-- If own operations swap with the entry of an id, they swap with each entry that has this id.
pub passes_alone : {Shape State Op Undo : Type 0} (o : Object Shape State Op Undo) (place : Op → ℕ) (own : List (Item Op)) (G : List (SharedEntry Op)) (id : ℕ) → HaveOwnIds G →
    (e : SharedEntry Op) → In e G × (e.id ≡ id) → LetPass o place own e.op → LetAllPass o place own G (id ∷ [])
passes_alone {Op = Op} o place own G id d e there pass g i (inl n) =
    subst (λ (w : SharedEntry Op). LetPass o place own w.op) (by_key (λ (w : SharedEntry Op). w.id) G d e g there.0 i (there.1 ∙ sym n)) pass
passes_alone o place own G id d e there pass g i (inr n) = absurd n

-- If an own operation does not swap with an entry, the id of this entry alone shows it.
pub stops_alone : {Shape State Op Undo : Type 0} (o : Object Shape State Op Undo) (place : Op → ℕ) (own : List (Item Op)) (G : List (SharedEntry Op)) (id : ℕ) (e : SharedEntry Op) → In e G × (e.id ≡ id) →
    Stops o place own e.op → StopsOne o place own G (id ∷ [])
stops_alone o place own G id e there stops = record { entry = e; is = there.0; among = inl there.1; stops = stops }

-- If a list of ids has the id of a stopped entry, an entry of the list is stopped.
pub stops_among : {Shape State Op Undo : Type 0} (o : Object Shape State Op Undo) (place : Op → ℕ) (own : List (Item Op)) (G : List (SharedEntry Op)) (id : ℕ) (ids : List ℕ) → In id ids →
    StopsOne o place own G (id ∷ []) → StopsOne o place own G ids
stops_among o place own G id ids i s =
    record {
      entry = s.entry;
      is = s.is;
      among = elim (s.among) [ inl e ↦ subst (λ (j : ℕ). In j ids) (sym e) i | inr e ↦ absurd e ];
      stops = s.stops;
    }

-- The calls of the first k + 1 items are those of the first k and the next call.
pub calls_next : {Shape State Op Undo : Type 0} (o : Object Shape State Op Undo) (own : List (Item Op)) (k : ℕ) → k < length own →
    (x : Call) × (calls_of o (take (k + 1) own) ≡ calls_of o (take k own) ++ x ∷ [])
calls_next {Op = Op} o own k l =
    let e = some_there own k l in
    let f : Item Op → Call = λ p. o.call p.op in
    (f e.0, ap (map f) (take_next own k e.0 l e.1) ∙ map-append f (take k own) (e.0 ∷ []))
