-- The positions of the items of a place in the whole list, and which of them is the next.
use Rattle.std.proofs.Common.{◌≡◌, ℕ, ◌<◌, ◌≤◌, zero, suc, ◌==◌, List, [], ◌∷◌, length}
use Rattle.std.proofs.Common.{take, map, get_or, refl, sym, ◌∙◌, ap, subst, arith, inl, inr}
use Rattle.std.proofs.Common.{Option, Some, None, IfSome, IfNone}
use Rattle.std.specs.List.{slice_get, position}
use Rattle.std.specs.Option.{option_map}
use Rattle.std.proofs.lemmas.Bool.{cases_lt, eqb-true}
use Rattle.std.proofs.lemmas.Option.{slice_get-get_or, slice_get-map, slice_get_past}
use Rattle.std.proofs.lemmas.Option.{slice_get_read}
use Rattle.std.proofs.lemmas.List.Quantifiers.{position-Some}
use Rattle.pp_core.specs.declared.entry.Item.{Item}
use Rattle.pp_model.specs.Object.{HasDistinctIds}
use Rattle.pp_kind.specs.Object.{Object}
use Rattle.pp_log.specs.declared.place.Place.{Place}
use Rattle.pp_log.specs.Logs.{IsFirstFrom, IsOn, NoneFrom}
use Rattle.pp_log.specs.Keeps.{KeptIn, Keeps}
use Rattle.pp_log.specs.Parts.{there}
use Rattle.pp_log.proofs.Distinct.{AreDistinct, apart, new_not}
use Rattle.pp_log.specs.Room.{ids_of}
use Rattle.pp_log.proofs.Lists.{mapped_from, none_len}
use Rattle.pp_log.proofs.Maps.{new_len, position_seen}
use Rattle.pp_log.proofs.Parted.{is_at, there_at, there_off}
use Rattle.pp_log.proofs.Sites.{kept_of}

-- How many items of a place are before a position.
abbrev pub ahead : {Op : Type 0} → (Op → ℕ) → ℕ → List (Item Op) → ℕ → ℕ
ahead place p x m = length (there place p (take m x))

-- The k-th item of a place is at a position of the whole list.
pub record IsStand {Op : Type 0} (place : Op → ℕ) (p : ℕ) (x : List (Item Op)) (k : ℕ) (e : Item Op) (m : ℕ) : Type 0 where
  pub is : slice_get x m ≡ Some e
  pub on : place e.op ≡ p
  pub count : ahead place p x m ≡ k

-- In a list with distinct ids, an id is at one position.
one_position : {Op : Type 0} (x : List (Item Op)) (m n : ℕ) (e d : Item Op) → AreDistinct x → slice_get x m ≡ Some e → slice_get x n ≡ Some d → e.id ≡ d.id → m ≡ n
one_position [] m n e d h at there is = cc
one_position (a ∷ x) zero zero e d h at there is = refl
one_position {Op} (a ∷ x) zero (suc n) e d h at there is = let same : a ≡ e = cc in absurd (new_not a.id x n d h.0 there (ap (λ (f : Item Op). f.id) same ∙ is))
one_position {Op} (a ∷ x) (suc m) zero e d h at there is = let same : a ≡ d = cc in absurd (new_not a.id x m e h.0 at (ap (λ (f : Item Op). f.id) same ∙ sym is))
one_position (a ∷ x) (suc m) (suc n) e d h at there is = ap suc (one_position x m n e d h.1 at there is)

module _ {Op : Type 0} (place : Op → ℕ) (p : ℕ) where
  ahead_at : (d : Item Op) (x : List (Item Op)) (m : ℕ) → place d.op ≡ p → ahead place p (d ∷ x) (suc m) ≡ suc (ahead place p x m)
  ahead_at d x m h = ap length (there_at place p d (take m x) h)

  ahead_off : (d : Item Op) (x : List (Item Op)) (m : ℕ) → (place d.op ≡ p → ⊥) → ahead place p (d ∷ x) (suc m) ≡ ahead place p x m
  ahead_off d x m h = ap length (there_off place p d (take m x) h)

  -- At least as many items of the place are before a later position.
  ahead_rises : (x : List (Item Op)) (m n : ℕ) → m ≤ n → ahead place p x m ≤ ahead place p x n
  ahead_rises x zero n h = omega arith
  ahead_rises x (suc m) zero h = absurd (omega arith)
  ahead_rises [] (suc m) (suc n) h = omega arith
  ahead_rises (d ∷ x) (suc m) (suc n) h = let less = ahead_rises x m n (omega arith) in elim (is_at place d p) [
    | inl at ↦ let one = ahead_at d x m at in let two = ahead_at d x n at in omega arith
    | inr off ↦ let one = ahead_off d x m off in let two = ahead_off d x n off in omega arith
  ]

  -- More items of the place are before a later position, if the earlier position has such an item.
  ahead_more : (x : List (Item Op)) (m n : ℕ) (e : Item Op) → slice_get x m ≡ Some e → place e.op ≡ p → m < n → ahead place p x m < ahead place p x n
  ahead_more x m zero e at on h = absurd (omega arith)
  ahead_more [] m (suc n) e at on h = cc
  ahead_more (d ∷ x) zero (suc n) e at on h = let same : d ≡ e = cc in let one = ahead_at d x n (ap (λ (f : Item Op). place f.op) same ∙ on) in omega arith
  ahead_more (d ∷ x) (suc m) (suc n) e at on h = let less = ahead_more x m n e at on (omega arith) in elim (is_at place d p) [
    | inl here ↦ let one = ahead_at d x m here in let two = ahead_at d x n here in omega arith
    | inr off ↦ let one = ahead_off d x m off in let two = ahead_off d x n off in omega arith
  ]

  -- no more than there are
  pub ahead_all : (x : List (Item Op)) (m : ℕ) → ahead place p x m ≤ length (there place p x)
  ahead_all x zero = omega arith
  ahead_all [] (suc m) = omega arith
  ahead_all (d ∷ x) (suc m) = let less = ahead_all x m in elim (is_at place d p) [
    | inl at ↦ let one = ahead_at d x m at in let all = ap length (there_at place p d x at) in omega arith
    | inr off ↦ let one = ahead_off d x m off in let all = ap length (there_off place p d x off) in omega arith
  ]

  -- Each item of the place is at a position of the whole list.
  stand : (x : List (Item Op)) (k : ℕ) (e : Item Op) → slice_get (there place p x) k ≡ Some e → (m : ℕ) × IsStand place p x k e m
  stand [] k e h = cc
  stand (d ∷ x) zero e h = elim (is_at place d p) [
    | inl at ↦ let found : Some d ≡ Some e = ap (λ (z : List (Item Op)). slice_get z 0) (sym (there_at place p d x at)) ∙ h in
        let same : d ≡ e = cc in
        (0, record { is = found; on = ap (λ (f : Item Op). place f.op) (sym same) ∙ at; count = refl })
    | inr off ↦ let r = stand x zero e (ap (λ (z : List (Item Op)). slice_get z 0) (sym (there_off place p d x off)) ∙ h) in
        (suc r.0, record { is = r.1.is; on = r.1.on; count = ahead_off d x r.0 off ∙ r.1.count })
  ]
  stand (d ∷ x) (suc k) e h = elim (is_at place d p) [
    | inl at ↦ let r = stand x k e (ap (λ (z : List (Item Op)). slice_get z (suc k)) (sym (there_at place p d x at)) ∙ h) in
        (suc r.0, record { is = r.1.is; on = r.1.on; count = ahead_at d x r.0 at ∙ ap suc r.1.count })
    | inr off ↦ let r = stand x (suc k) e (ap (λ (z : List (Item Op)). slice_get z (suc k)) (sym (there_off place p d x off)) ∙ h) in
        (suc r.0, record { is = r.1.is; on = r.1.on; count = ahead_off d x r.0 off ∙ r.1.count })
  ]

  -- An item of the place is at the position at which its id is found.
  pub stand_found : (x : List (Item Op)) (k : ℕ) (e : Item Op) (m : ℕ) → AreDistinct x → slice_get (there place p x) k ≡ Some e → position (λ (d : Item Op). d.id == e.id) x ≡ Some m → IsStand place p x k e m
  stand_found x k e m h at found =
      let r = stand x k e at in
      let f = position-Some (λ (d : Item Op). d.id == e.id) x m e found in
      let d = get_or x m e in
      let same : r.0 ≡ m = one_position x r.0 m e d h r.1.is (slice_get-get_or x m e f.0) (sym (eqb-true d.id e.id f.1)) in
      subst (IsStand place p x k e) same r.1

  -- Each item of a place is found in the whole list by its id.
  pub stand_not_lost : (x : List (Item Op)) (k : ℕ) (e : Item Op) → slice_get (there place p x) k ≡ Some e → position (λ (d : Item Op). d.id == e.id) x ≡ None → ⊥
  stand_not_lost x k e at lost =
      let r = stand x k e at in
      new_not e.id x r.0 e (new_len x e.id (none_len (λ (d : Item Op). d.id == e.id) x lost)) r.1.is refl

  -- If the k-th item of the place is before a position, more than k items of the place are before it.
  pub stand_before : (x : List (Item Op)) (k : ℕ) (e : Item Op) (m from : ℕ) → IsStand place p x k e m → m < from → k < ahead place p x from
  stand_before x k e m from r h = let less = ahead_more x m from e r.is r.on h in let count = r.count in omega arith

  -- If the k-th item of a place is at or after a position, at most k of them are before it.
  pub stand_behind : (x : List (Item Op)) (k : ℕ) (e : Item Op) (m from : ℕ) → IsStand place p x k e m → from ≤ m → ahead place p x from ≤ k
  stand_behind x k e m from r h = let less = ahead_rises x from m h in let count = r.count in omega arith

-- An option meets a property if its value, if there is one, does.
pub if_some : {A : Type 0} (o : Option A) (P : A → Type 0) → ((a : A) → o ≡ Some a → P a) → IfSome o P
if_some None P h = tt
if_some (Some a) P h = h a refl

-- A fact that follows if an option is none is a fact of `IfNone`.
pub if_none : {A : Type 0} (o : Option A) (P : Type 0) → (o ≡ None → P) → IfNone o P
if_none None P h = h refl
if_none (Some a) P h = tt

item_at : {E Op : Type 0} (f : E → Item Op) (x : List E) (m : ℕ) (a : E) → slice_get x m ≡ Some a → slice_get (map f x) m ≡ Some (f a)
item_at f x m a h = slice_get-map f x m ∙ ap (option_map f) h

module _ {E Op : Type 0} (place : Op → ℕ) (f : E → Item Op) (p : ℕ) (x : List E) where
  -- If the k-th id of a place is found at a position, the k-th item of the place is at that position.
  pub found_at : (ids : List ℕ) (k id m : ℕ) → AreDistinct (map f x) → ids ≡ ids_of (there place p (map f x)) → slice_get ids k ≡ Some id → Some m ≡ position (λ (a : E). (f a).id == id) x → (e : Item Op) × IsStand place p (map f x) k e m
  found_at ids k id m h is at found =
      let e = mapped_from (λ (d : Item Op). d.id) (there place p (map f x)) k id (ap (λ (z : List ℕ). slice_get z k) (sym is) ∙ at) in
      (e.0, stand_found place p (map f x) k e.0 m h e.1 (position_seen f (map f x) x e.0.id refl ∙ ap (λ (i : ℕ). position (λ (a : E). (f a).id == i) x) e.2 ∙ sym found))

  -- Each id that a place keeps is found among the entries.
  pub never_lost : (ids : List ℕ) (k id : ℕ) → ids ≡ ids_of (there place p (map f x)) → slice_get ids k ≡ Some id → None ≡ position (λ (a : E). (f a).id == id) x → ⊥
  never_lost ids k id is at lost =
      let e = mapped_from (λ (d : Item Op). d.id) (there place p (map f x)) k id (ap (λ (z : List ℕ). slice_get z k) (sym is) ∙ at) in
      stand_not_lost place p (map f x) k e.0 e.1 (position_seen f (map f x) x e.0.id refl ∙ ap (λ (i : ℕ). position (λ (a : E). (f a).id == i) x) e.2 ∙ sym lost)

module _ {E Op : Type 0} (place : Op → ℕ) (f : E → Item Op) (p : ℕ) (x : List E) (from : ℕ) where
  -- As many are before the next item of the place as are before the position.
  pub next_stands : (k : ℕ) (e : Item Op) (m : ℕ) → IsStand place p (map f x) k e m → k ≡ ahead place p (map f x) from → IsFirstFrom (IsOn place f p) x from m
  next_stands k e m r is =
      let a = mapped_from f x m e r.is in
      record {
        entry = a.0;
        is = a.1;
        behind = elim (cases_lt m from) [
          | inl before ↦ let less = stand_before place p (map f x) k e m from r before in absurd (omega arith)
          | inr behind ↦ behind
        ];
        holds = ap (λ (d : Item Op). place d.op) a.2 ∙ r.on;
        first = λ j b l n at on.
            let less = ahead_more place p (map f x) j m (f b) (item_at f x j b at) on n in
            let enough = ahead_rises place p (map f x) from j l in
            let count = r.count in
            omega arith;
      }

  -- No item of the place is after a position if all of them are before it.
  pub none_stands : length (there place p (map f x)) ≤ ahead place p (map f x) from → NoneFrom (IsOn place f p) x from
  none_stands all j b l at on =
      let less = ahead_more place p (map f x) j (suc j) (f b) (item_at f x j b at) on (omega arith) in
      let enough = ahead_rises place p (map f x) from j l in
      let most = ahead_all place p (map f x) (suc j) in
      omega arith

-- What a log keeps of a place, after it was looked up.
module _ {Shape State Op Undo E : Type 0} (o : Object Shape State Op Undo) (place : Op → ℕ) (f : E → Item Op) (s : State) (x : List E) (log : Shape × List E) (ps lent : List (Place Undo)) (k p : ℕ) where
  -- The ids that a log keeps at a place are those of the items of the place.
  pub ids_are : (q : Place Undo) → ◌≡◌ {A = Shape × List E} (o.shape s, x) log → Keeps o place s (map f x) ps → lent ≡ ps → k ≡ p → k < length lent → q ≡ get_or lent k q → q.ids.items ≡ ids_of (there place p (map f log.1))
  ids_are q seen h is at within value =
      kept_of o place s (map f x) ps k q h (ap (λ (z : List (Place Undo)). slice_get z k) (sym is) ∙ slice_get_read lent (length lent) k q refl within value)
      ∙ ap (λ (j : ℕ). ids_of (there place j (map f x))) at ∙ ap (λ (z : Shape × List E). ids_of (there place p (map f z.1))) seen

  -- A place past the end of the places that a log keeps has no items.
  pub no_items : ◌≡◌ {A = Shape × List E} (o.shape s, x) log → Keeps o place s (map f x) ps → lent ≡ ps → k ≡ p → length lent ≤ k → there place p (map f log.1) ≡ []
  no_items seen h is at past =
      let none : there place k (map f x) ≡ [] = subst (KeptIn o (o.start (o.shape s)) (there place k (map f x))) (ap (λ (z : List (Place Undo)). slice_get z k) (sym is) ∙ slice_get_past lent k past) (h.kept k) in
      ap (λ (z : Shape × List E). there place p (map f z.1)) (sym seen) ∙ ap (λ (j : ℕ). there place j (map f x)) (sym at) ∙ none

-- The items of a log with distinct ids are distinct, item by item.
pub distinct_seen : {Shape Op E : Type 0} (f : E → Item Op) (sh : Shape) (x : List E) (log : Shape × List E) → ◌≡◌ {A = Shape × List E} (sh, x) log → HasDistinctIds (map f x) → AreDistinct (map f log.1)
distinct_seen {Shape} {Op} {E} f sh x log is h = subst (λ (z : Shape × List E). AreDistinct (map f z.1)) is (apart (map f x) h)
