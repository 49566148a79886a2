use Rattle.std.proofs.Common.{◌≡◌, ℕ, ◌<◌, ◌==◌, nat_eq, List, [], ◌∷◌, length, map, get_or, refl}
use Rattle.std.proofs.Common.{sym, ◌∙◌, ap, subst, inl, inr, Some}
use Rattle.std.specs.List.{slice_get, position}
use Rattle.std.specs.Option.{option_map}
use Rattle.std.proofs.lemmas.Option.{slice_get-map, slice_get_read}
use Rattle.std.proofs.lemmas.Bool.{eq-eqb, ne_eqb}
use Rattle.std.proofs.lemmas.Bool.Decides.{eqb_tells}
use Rattle.pp_core.specs.declared.entry.Item.{Item}
use Rattle.pp_log.proofs.Lists.{same_position}
use Rattle.pp_log.specs.Index.{IsNewId, StandOnce}
use Rattle.pp_log.specs.Room.{ids_of}
use Rattle.pp_log.proofs.Distinct.{AreDistinct, IsNew}

turned : (a b : ℕ) → nat_eq a b ≡ (b == a)
turned a b = elim (eqb_tells a b) [
  | inl h ↦ h.0 ∙ sym (eq-eqb b a (sym h.1))
  | inr h ↦ h.0 ∙ sym (ne_eqb b a (λ e. h.1 (sym e)))
]

-- The position of an id among the ids of items is that of its item among the items.
pub position_of_id : {Op : Type 0} (x : List (Item Op)) (id : ℕ) → position (nat_eq id) (ids_of x) ≡ position (λ e. e.id == id) x
position_of_id {Op} x id = same_position (λ (e : Item Op). e.id) (nat_eq id) (λ (e : Item Op). e.id == id) (λ e. turned id e.id) x

-- If an id is new among items, it is new among their ids.
pub new_id : {Op : Type 0} (x : List (Item Op)) (id : ℕ) → IsNew id x → IsNewId id (ids_of x)
new_id [] id h = tt
new_id (e ∷ x) id h = (h.0, new_id x id h.1)

-- Each id of distinct items is among their ids once.
pub ids_once : {Op : Type 0} (x : List (Item Op)) → AreDistinct x → StandOnce (ids_of x)
ids_once [] h = tt
ids_once (e ∷ x) h = (new_id x e.id h.0, ids_once x h.1)

-- The id of the entry at a position is at this position among the ids.
pub id_stands : {Shape Op E : Type 0} (f : E → Item Op) (sh : Shape) (x : List E) (log : Shape × List E) (i : ℕ) (a : E) (e : Item Op) → ◌≡◌ {A = Shape × List E} (sh, x) log → i < length log.1 → a ≡ get_or x i a → e ≡ f a → slice_get (ids_of (map f x)) i ≡ Some e.id
id_stands {Shape} {Op} {E} f sh x log i a e is lt at item =
    let within : i < length x = subst (λ (z : Shape × List E). i < length z.1) (sym is) lt in
    slice_get-map (λ (d : Item Op). d.id) (map f x) i ∙ ap (option_map (λ (d : Item Op). d.id)) (slice_get-map f x i ∙ ap (option_map f) (slice_get_read x (length x) i a refl within at))
    ∙ ap (λ (d : Item Op). Some d.id) (sym item)
