use Rattle.std.proofs.Common.{◌≡◌, ℕ, ◌<◌, ◌+◌, ◌-◌, zero, suc, List, [], ◌∷◌, ◌++◌, length, take}
use Rattle.std.proofs.Common.{map, drop, get_or, refl, sym, ◌∙◌, ap, subst, arith, inl, inr, Some}
use Rattle.std.specs.List.{slice_get, slice_set, remove}
use Rattle.std.proofs.lemmas.Option.{slice_get-get_or, slice_get_past}
use Rattle.std.proofs.lemmas.List.Edits.{length-remove}
use Rattle.std.proofs.lemmas.Bool.{cases_lt}
use Rattle.std.proofs.lemmas.List.{drop-map, length-map}
use Rattle.pp_core.specs.declared.entry.Item.{Item}
use Rattle.pp_core.specs.declared.answer.Answer.{Answer}
use Rattle.pp_model.specs.Lists.{In}
use Rattle.pp_model.proofs.Lists.{in_right, not_empty}
use Rattle.pp_kind.specs.Object.{Object, IsAllowed, IsLawful, IsPlaced, state_after}
use Rattle.pp_log.specs.declared.place.Place.{Place}
use Rattle.pp_log.specs.declared.place.Removed.{Removed}
use Rattle.pp_log.specs.declared.place.Removed.TheVariants.{Done, Differs}
use Rattle.pp_model.specs.Object.{ops}
use Rattle.pp_log.specs.Parts.{there, elsewhere, with_first}
use Rattle.pp_log.specs.Room.{ids_of}
use Rattle.pp_log.proofs.Grown.{ids-append}
use Rattle.pp_log.proofs.Distinct.{AreDistinct, apart, distinct_index, distinct_there, one_id_less}
use Rattle.pp_log.specs.Keeps.{IsKept, KeptIn, Keeps}
use Rattle.pp_log.specs.Logs.{DiffersFrom, DiffersFirst, RemovesEntry, from_place}
use Rattle.pp_log.specs.TakesOut.{IsWhole, TakesOut, itself}
use Rattle.pp_log.proofs.Lists.{pair, all_behind, cut_there, drop_there, mapped_from}
use Rattle.pp_log.proofs.Lists.{remove_mid, set_other, set_same}
use Rattle.pp_log.proofs.Edits.{ranged-remove}
use Rattle.pp_log.proofs.Parted.{there_at, there_off, elsewhere_at, elsewhere-append, there-append}
use Rattle.pp_log.proofs.Parted.{there_count}
use Rattle.pp_log.proofs.Whole.{base_allowed, log_of, differs_first}

from_mid : {Op : Type 0} (place : Op → ℕ) (x : List (Item Op)) (i : ℕ) (e : Item Op) → i < length x → e ≡ get_or x i e → from_place place (ops x) i ≡ length (there place (place e.op) (e ∷ drop (i + 1) x))
from_mid place [] i e h is = absurd (omega arith)
from_mid {Op} place (d ∷ x) zero e h is =
    sym (there_count place (place d.op) (d ∷ x))
    ∙ ap (λ (k : Item Op). length (there place (place k.op) (k ∷ x))) (sym is)
from_mid {Op} place (d ∷ x) (suc i) e h is =
    let later : suc (i + 1) ≡ suc i + 1 = omega arith in
    from_mid place x i e (omega arith) is ∙ ap (λ (k : ℕ). length (there place (place e.op) (e ∷ drop k (d ∷ x)))) later

-- The known facts about the i-th item of a list.
pub record IsSite {Op : Type 0} (place : Op → ℕ) (log : List (Item Op)) (i : ℕ) (e : Item Op) (p : ℕ) : Type 0 where
  pub u : List (Item Op)
  pub v : List (Item Op)
  pub here : there place p log ≡ u ++ e ∷ v
  pub tail : there place p (drop i log) ≡ e ∷ v
  pub taken : there place p (remove log i) ≡ u ++ v
  pub base : elsewhere place p (remove log i) ≡ elsewhere place p log
  pub others : (r : ℕ) → (p ≡ r → ⊥) → there place r (remove log i) ≡ there place r log
  pub count : from_place place (ops log) i ≡ length v + 1

-- The item at a position of a list has its site there.
pub site_of : {Op : Type 0} (place : Op → ℕ) (log : List (Item Op)) (i : ℕ) (e : Item Op) (p : ℕ) → i < length log → e ≡ get_or log i e → place e.op ≡ p → IsSite place log i e p
site_of {Op} place log i e p h is at =
    let x = take i log in
    let y = drop (i + 1) log in
    let next : suc i ≡ i + 1 = omega arith in
    let cut : log ≡ x ++ e ∷ y = cut_there log i e h is in
    let without : remove log i ≡ x ++ y = ap (λ (k : ℕ). x ++ drop k log) next in
    let here_e = there_at place p e y at in
    record {
      u = there place p x;
      v = there place p y;
      here = ap (there place p) cut ∙ there-append place p x (e ∷ y) ∙ ap (λ (z : List (Item Op)). there place p x ++ z) here_e;
      tail = ap (there place p) (drop_there log i e h is) ∙ here_e;
      taken = ap (there place p) without ∙ there-append place p x y;
      base = ap (elsewhere place p) without ∙ elsewhere-append place p x y ∙ ap (λ (z : List (Item Op)). elsewhere place p x ++ z) (sym (elsewhere_at place p e y at)) ∙ sym (elsewhere-append place p x (e ∷ y)) ∙ ap (elsewhere place p) (sym cut);
      others = λ r n. ap (there place r) without ∙ there-append place r x y ∙ ap (λ (z : List (Item Op)). there place r x ++ z) (sym (there_off place r e y (λ k. n (sym at ∙ k)))) ∙ sym (there-append place r x (e ∷ y)) ∙ ap (there place r) (sym cut);
      count = let k = from_mid place log i e h is ∙ ap (λ (q : ℕ). length (there place q (e ∷ y))) at ∙ ap length here_e in omega arith;
    }

-- the place without the item
pub taken_there : {Op : Type 0} (place : Op → ℕ) (log : List (Item Op)) (i : ℕ) (e : Item Op) (p k : ℕ) (site : IsSite place log i e p) → k ≡ length site.u → remove (there place p log) k ≡ there place p (remove log i)
taken_there {Op} place log i e p k site index =
    ap (λ (z : List (Item Op)). remove z k) site.here ∙ ap (λ (j : ℕ). remove (site.u ++ e ∷ site.v) j) index ∙ remove_mid site.u site.v e ∙ sym site.taken

-- The items of its place among the entries from the i-th on, as they are lent.
pub tail_of : {E Op : Type 0} (place : Op → ℕ) (f : E → Item Op) (x lent : List E) (i : ℕ) (a : E) (e : Item Op) (p : ℕ) → lent ≡ x → i < length (map f x) → a ≡ get_or x i a → e ≡ f a → p ≡ place e.op → (site : IsSite place (map f x) i e p) → with_first place f (take (length lent - i) (drop i lent)) ≡ e ∷ site.v
tail_of {E} {Op} place f x lent i a e p same h is item here site =
    let size = length-map x f in
    let cut = drop_there x i a (omega arith) is in
    ap (λ (z : List E). with_first place f (take (length z - i) (drop i z))) same ∙ ap (with_first place f) (all_behind x i ∙ cut)
    ∙ ap (λ (q : ℕ). there place q (map f (a ∷ drop (i + 1) x))) (ap (λ (d : Item Op). place d.op) (sym item) ∙ sym here)
    ∙ ap (λ (z : List E). there place p (map f z)) (sym cut) ∙ ap (there place p) (sym (drop-map f i x)) ∙ site.tail

-- the list that is left
abbrev pub left : {A : Type 0} → Removed → List A → ℕ → List A
left Done x i = remove x i
left (Differs id answer) x i = x

-- A removal that is not done leaves the list as it was.
pub left_else : {A : Type 0} (removal : Removed) (x : List A) (i : ℕ) → (removal ≡ Done → ⊥) → left removal x i ≡ x
left_else Done x i n = absurd (n refl)
left_else (Differs id answer) x i n = refl

-- The known facts about the i-th item of a list that a log keeps, after it was found in its place.
pub record IsFound {Op Undo : Type 0} (place : Op → ℕ) (log : List (Item Op)) (ps : List (Place Undo)) (i : ℕ) (e : Item Op) (p k : ℕ) (q : Place Undo) : Type 0 where
  pub site : IsSite place log i e p
  pub within : i < length log
  pub is : p < length ps
  pub at : slice_get ps p ≡ Some q
  pub index : k ≡ length site.u

module _ {Shape State Op Undo : Type 0} (o : Object Shape State Op Undo) (place : Op → ℕ) where
  -- the place of an item is there
  pub place_there : (s : State) (log : List (Item Op)) (ps : List (Place Undo)) (i : ℕ) (e : Item Op) (p : ℕ) → Keeps o place s log ps → IsSite place log i e p → p < length ps
  place_there s log ps i e p h site = elim (cases_lt p (length ps)) [
    | inl k ↦ k
    | inr k ↦ let none : there place p log ≡ [] = subst (KeptIn o (o.start (o.shape s)) (there place p log)) (slice_get_past ps p k) (h.kept p) in
        absurd (not_empty site.u site.v e (sym none ∙ site.here))
  ]

  -- The id of an item is among the ids that a log keeps for the item's place.
  pub id_there : (s : State) (log : List (Item Op)) (ps : List (Place Undo)) (i : ℕ) (e : Item Op) (p : ℕ) (q : Place Undo) → Keeps o place s log ps → IsSite place log i e p → slice_get ps p ≡ Some q → (In e.id q.ids.items → ⊥) → ⊥
  id_there s log ps i e p q h site at none =
      let kept : IsKept o (o.start (o.shape s)) (there place p log) q = subst (KeptIn o (o.start (o.shape s)) (there place p log)) at (h.kept p) in
      none (subst (In e.id) (sym (kept.same_ids ∙ ap (λ (z : List (Item Op)). ids_of z) site.here ∙ ids-append site.u (e ∷ site.v))) (in_right e.id (ids_of site.u) (ids_of (e ∷ site.v)) (inl refl)))

  -- The ids that a log keeps for a place are those of the items there.
  pub kept_of : (s : State) (log : List (Item Op)) (ps : List (Place Undo)) (p : ℕ) (q : Place Undo) → Keeps o place s log ps → slice_get ps p ≡ Some q → q.ids.items ≡ ids_of (there place p log)
  kept_of s log ps p q h e = let kept : IsKept o (o.start (o.shape s)) (there place p log) q = subst (KeptIn o (o.start (o.shape s)) (there place p log)) e (h.kept p) in kept.same_ids

  -- The position of an item's id at its place is how many items of the place are before it.
  pub index_of_site : (s : State) (log : List (Item Op)) (ps : List (Place Undo)) (i : ℕ) (e : Item Op) (p k : ℕ) (q : Place Undo) → Keeps o place s log ps → (site : IsSite place log i e p) → slice_get ps p ≡ Some q → slice_get q.ids.items k ≡ Some e.id → k ≡ length site.u
  index_of_site s log ps i e p k q h site at found =
      let ids = kept_of s log ps p q h at ∙ ap (λ (z : List (Item Op)). ids_of z) site.here in
      let f = mapped_from (λ (d : Item Op). d.id) (site.u ++ e ∷ site.v) k e.id (ap (λ (z : List ℕ). slice_get z k) (sym ids) ∙ found) in
      distinct_index site.u site.v e k f.0
      (subst (λ (z : List (Item Op)). AreDistinct z) site.here (distinct_there place p log (apart log h.distinct))) f.1 f.2

  -- its place as the code reads it
  pub place_at : (s : State) (log : List (Item Op)) (ps : List (Place Undo)) (i : ℕ) (e : Item Op) (p : ℕ) (q : Place Undo) → Keeps o place s log ps → IsSite place log i e p → q ≡ get_or ps p q → slice_get ps p ≡ Some q
  place_at s log ps i e p q h site value = slice_get-get_or ps p q (place_there s log ps i e p h site) ∙ ap Some (sym value)

  -- An item whose id is found at its place has the facts of `IsFound`.
  pub found_in : (s : State) (log : List (Item Op)) (ps : List (Place Undo)) (i : ℕ) (e : Item Op) (p k : ℕ) (q : Place Undo) → Keeps o place s log ps → i < length log → IsSite place log i e p → q ≡ get_or ps p q → slice_get q.ids.items k ≡ Some e.id → IsFound place log ps i e p k q
  found_in s log ps i e p k q h within site value stands =
      let at = place_at s log ps i e p q h site value in
      record {
        site = site;
        within = within;
        is = place_there s log ps i e p h site;
        at = at;
        index = index_of_site s log ps i e p k q h site at stands;
      }

module _ {Shape State Op Undo : Type 0} (o : Object Shape State Op Undo) (place : Op → ℕ) (SameAt : ℕ → State → State → Type 0) (laws : IsLawful o) (places : IsPlaced o place SameAt) where
  -- the list without the item
  pub taken_out : (s t : State) (log : List (Item Op)) (ps : List (Place Undo)) (i : ℕ) (e : Item Op) (p k : ℕ) (q r : Place Undo) → Keeps o place s log ps → i < length log → (site : IsSite place log i e p) → p < length ps → slice_get ps p ≡ Some q → k ≡ length site.u → TakesOut o (state_after o (o.shape s) (ops (elsewhere place p log))) (there place p log) k r t Done → Keeps o place t (remove log i) (slice_set ps p r) × (o.shape t ≡ o.shape s)
  taken_out s t log ps i e p k q r h within site is at index takes =
      let sh = o.shape s in
      let size = length-remove log i within in
      let few = h.few in
      let base : ops (elsewhere place p log) ≡ ops (elsewhere place p (remove log i)) = ap (λ (z : List (Item Op)). ops z) (sym site.base) in
      log_of o place SameAt laws places p sh t (remove log i) (slice_set ps p r) r
      (subst (IsAllowed o sh) base (base_allowed o place SameAt laws places p (o.start sh) log h.allowed))
      (subst (λ (z : List (Item Op)). IsWhole o (state_after o sh (ops (elsewhere place p (remove log i)))) z r t) (taken_there place log i e p k site index)
      (subst (λ (z : List Op). IsWhole o (state_after o sh z) (remove (there place p log) k) r t) base takes))
      (ranged-remove o log i h.ranged) (omega arith) (one_id_less log i h.distinct) (set_same ps p r is)
      (λ j n. subst (λ (z : List (Item Op)). KeptIn o (o.start sh) z (slice_get (slice_set ps p r) j)) (sym (site.others j n)) (subst (KeptIn o (o.start sh) (there place j log)) (sym (set_other ps p j r n)) (h.kept j)))

  -- the list as it was, with the first item that differs
  pub put_back : (s t : State) (log : List (Item Op)) (ps : List (Place Undo)) (i : ℕ) (e : Item Op) (p k : ℕ) (q r : Place Undo) (id : ℕ) (answer : Answer) → Keeps o place s log ps → i < length log → (site : IsSite place log i e p) → p < length ps → slice_get ps p ≡ Some q → k ≡ length site.u → TakesOut o (state_after o (o.shape s) (ops (elsewhere place p log))) (there place p log) k r t (Differs id answer) → Keeps o place t log (slice_set ps p r) × (o.shape t ≡ o.shape s) × DiffersFirst o itself (o.shape s) (remove log i) id answer
  put_back s t log ps i e p k q r id answer h within site is at index takes =
      let sh = o.shape s in
      let allowed = base_allowed o place SameAt laws places p (o.start sh) log h.allowed in
      let base : ops (elsewhere place p log) ≡ ops (elsewhere place p (remove log i)) = ap (λ (z : List (Item Op)). ops z) (sym site.base) in
      let kept = log_of o place SameAt laws places p sh t log (slice_set ps p r) r allowed takes.0 h.ranged h.few h.distinct (set_same ps p r is)
      (λ j n. subst (KeptIn o (o.start sh) (there place j log)) (sym (set_other ps p j r n)) (h.kept j)) in
      let same = taken_there place log i e p k site index in
      (kept.0, kept.1, differs_first o place SameAt laws places p sh (remove log i) id answer (subst (IsAllowed o sh) base allowed) (subst (λ (z : List Op). DiffersFrom o itself (state_after o sh z) (there place p (remove log i)) id answer) base (subst (λ (z : List (Item Op)). DiffersFrom o itself (state_after o sh (ops (elsewhere place p log))) z id answer) same takes.1)))

  -- The list that a removal leaves, and what it returns.
  pub left_over : (s t : State) (log : List (Item Op)) (ps : List (Place Undo)) (i : ℕ) (e : Item Op) (p k : ℕ) (q r : Place Undo) (removed : Removed) → Keeps o place s log ps → IsFound place log ps i e p k q → TakesOut o (state_after o (o.shape s) (ops (elsewhere place p log))) (there place p log) k r t removed → Keeps o place t (left removed log i) (slice_set ps p r) × RemovesEntry o itself (o.shape s, log) i (o.shape t, left removed log i) removed
  left_over s t log ps i e p k q r Done h found takes =
      let kept = taken_out s t log ps i e p k q r h found.within found.site found.is found.at found.index takes in
      (kept.0, (ap (λ (sh : Shape). pair sh (remove log i)) kept.1, subst (λ (sh : Shape). IsAllowed o sh (ops (remove log i))) kept.1 kept.0.allowed))
  left_over s t log ps i e p k q r (Differs id answer) h found takes =
      let kept = put_back s t log ps i e p k q r id answer h found.within found.site found.is found.at found.index takes in
      (kept.0, (ap (λ (sh : Shape). pair sh log) kept.1, kept.2))
