-- The own calls of a local log, as it grows and as its entries are marked.
use Rattle.std.proofs.Common.{◌≡◌, ◌≢◌, ◌↔◌, ◌⊎◌, IsTrue, ℕ, zero, suc, Bool, true, false, cond}
use Rattle.std.proofs.Common.{List, [], ◌∷◌, ◌++◌, map, Some, slice_get, refl, sym, ap, subst, ◌∙◌}
use Rattle.std.proofs.Common.{inl, inr}
use Rattle.std.specs.List.{remove}
use Rattle.std.proofs.lemmas.List.{map-append}
use Rattle.std.proofs.lemmas.Option.{same_Some}
use Rattle.pp_core.specs.declared.entry.LocalEntry.{LocalEntry}
use Rattle.pp_model.specs.Body.{Call, Begins, IsWord}
use Rattle.pp_model.specs.Config.{Mark, Unpushed, Pushed, Pulled, but_last, is_own, item, local_ops}
use Rattle.pp_model.specs.Config.{set_mark, own, own_items}
use Rattle.pp_model.specs.Object.{Item}
use Rattle.pp_model.proofs.Lists.{by_key}
use Rattle.pp_model.proofs.Steps.{own_items-append}
use Rattle.pp_model.proofs.Push.{own_marked}
use Rattle.pp_model.proofs.Finding.{stands_in}
use Rattle.pp_log.specs.declared.place.Removed.{Removed}
use Rattle.pp_log.specs.declared.place.Removed.TheVariants.{Done, Differs}
use Rattle.pp_log.specs.Logs.{RemovesEntry}
use Rattle.pp_kind.specs.Object.{Object, IsAllowed}
use Rattle.pp_body.specs.Walks.{Walked, HasTaken, MayGoBack}
use Rattle.pp_machine.specs.Courses.{Guided, IsGivenBack, MayFollow, own_calls}
use Rattle.pp_machine.specs.Finding.{AreDistinct}
use Rattle.pp_machine.specs.Transactions.{HasOwn, MayLeave, Takes}
use Rattle.pp_machine.proofs.Removing.{front_is, last_removed}

-- A mark that is not Pulled is own.
pub own_mark : (m : Mark) → m ≢ Pulled → is_own m ≡ true
own_mark Unpushed n = refl
own_mark Pushed n = refl
own_mark Pulled n = absurd (n refl)

own_of : {Op : Type 0} (e : LocalEntry Op) (b : Bool) → is_own e.mark ≡ b → own_items (e ∷ []) ≡ map item (cond b (e ∷ []) [])
own_of e b h = ap (λ (z : Bool). map item (cond z (e ∷ []) [])) h

map_cond : {Op : Type 0} (b : Bool) (e : LocalEntry Op) (w : List (LocalEntry Op)) → map item (cond b (e ∷ w) w) ≡ cond b (item e ∷ map item w) (map item w)
map_cond true e w = refl
map_cond false e w = refl

module _ {Shape State Op Undo : Type 0} (o : Object Shape State Op Undo) where
  -- One more own entry adds its call to the own calls.
  pub calls_own : (l : List (LocalEntry Op)) (e : LocalEntry Op) → is_own e.mark ≡ true → own_calls o (l ++ e ∷ []) ≡ own_calls o l ++ o.call e.op ∷ []
  calls_own l e h =
      ap (map (λ (p : Item Op). o.call p.op)) (own_items-append l (e ∷ []) ∙ ap (λ (w : List (Item Op)). own_items l ++ w) (own_of e true h))
      ∙ map-append (λ (p : Item Op). o.call p.op) (own_items l) (item e ∷ [])

  -- Another own mark at an own entry leaves the own calls the same.
  pub calls_marked : (l : List (LocalEntry Op)) (i : ℕ) (e : LocalEntry Op) (m : Mark) → AreDistinct l → slice_get l i ≡ Some e → e.mark ≢ Pulled → m ≢ Pulled → own_calls o (set_mark e.id m l) ≡ own_calls o l
  calls_marked l i e m d h own to =
      ap (map (λ (p : Item Op). o.call p.op)) (own_marked e.id m (own_mark m to) l (λ a j s.
      ap (λ (z : LocalEntry Op). is_own z.mark) (by_key (λ (z : LocalEntry Op). z.id) l d a e j (stands_in l i e h) s) ∙ own_mark e.mark own))

-- the course as it is seen
module _ {Shape State Op Undo : Type 0} (o : Object Shape State Op Undo) (w : Walked) (log : Shape × List (LocalEntry Op)) (v : Guided Shape Op) (same : ◌≡◌ {A = Guided Shape Op} (record { body = w.body; local = log }) v) (taken : HasTaken w (own_calls o log.1)) where
  -- The test whether the body can take a call says whether the operation may follow.
  pub can_is : (r : Bool) (call : Call) (op : Op) → call ≡ o.call op → ((calls : List Call) → HasTaken w calls → IsTrue r ↔ Begins w.body (calls ++ call ∷ [])) → IsTrue r ↔ MayFollow o v.body v.local.1 op
  can_is r call op e known =
      subst (λ (z : Guided Shape Op). IsTrue r ↔ MayFollow o z.body z.local.1 op) same
      (subst (λ (z : Call). IsTrue r ↔ Begins w.body (own_calls o log.1 ++ z ∷ [])) e (known (own_calls o log.1) taken))

  -- The test whether the walk is complete says whether the own calls are a word of the body.
  pub complete_is : (r : Bool) → ((calls : List Call) → HasTaken w calls → IsTrue r ↔ IsWord w.body calls) → IsTrue r ↔ IsWord v.body (own_calls o v.local.1)
  complete_is r known = subst (λ (z : Guided Shape Op). IsTrue r ↔ IsWord z.body (own_calls o z.local.1)) same (known (own_calls o log.1) taken)

  -- An operation that may follow a course as it is seen may follow the course.
  pub may_follow : (op : Op) → MayFollow o v.body v.local.1 op → MayFollow o w.body log.1 op
  may_follow op h = subst (λ (z : Guided Shape Op). MayFollow o z.body z.local.1 op) (sym same) h

  -- A log that takes an entry as it is seen takes it.
  pub takes_still : (e : LocalEntry Op) → Takes o v.local e → Takes o log e
  takes_still e h = subst (λ (z : Guided Shape Op). Takes o z.local e) (sym same) h

  -- An entry that may leave a log as it is seen may leave it.
  pub leaves_still : (i : ℕ) → MayLeave v.local.1 i → MayLeave log.1 i
  leaves_still i h = subst (λ (z : Guided Shape Op). MayLeave z.local.1 i) (sym same) h

  -- Another own mark at an own entry keeps the calls that the walk has taken.
  pub mark_kept : (new : Shape × List (LocalEntry Op)) (i : ℕ) (m : Mark) → AreDistinct log.1 → m ≢ Pulled → HasOwn v.local.1 i → ((e : LocalEntry Op) → slice_get log.1 i ≡ Some e → new ≡ (log.0, set_mark e.id m log.1)) → HasTaken w (own_calls o new.1)
  mark_kept new i m d to h is =
      let own = subst (λ (z : Guided Shape Op). HasOwn z.local.1 i) (sym same) h in
      subst (λ (z : List Call). HasTaken w z) (sym (ap (λ (z : Shape × List (LocalEntry Op)). own_calls o z.1) (is own.entry own.here) ∙ calls_marked o log.1 i own.entry m d own.here own.own to)) taken

-- the own items stay where a pulled entry is taken out
own_removed : {Op : Type 0} (l : List (LocalEntry Op)) (i : ℕ) (e : LocalEntry Op) → slice_get l i ≡ Some e → is_own e.mark ≡ false → own_items (remove l i) ≡ own_items l
own_removed [] i e h p = absurd (cc)
own_removed {Op} (a ∷ l) zero e h p =
    let k : is_own a.mark ≡ false = ap (λ (z : LocalEntry Op). is_own z.mark) (same_Some a e h) ∙ p in
    sym (ap (λ (b : Bool). map item (cond b (a ∷ own l) (own l))) k)
own_removed {Op} (a ∷ l) (suc i) e h p =
    map_cond (is_own a.mark) a (own (remove l i))
    ∙ ap (λ (w : List (Item Op)). cond (is_own a.mark) (item a ∷ w) w) (own_removed l i e h p)
    ∙ sym (map_cond (is_own a.mark) a (own l))

own_or_not : (b : Bool) → (b ≡ true) ⊎ (b ≡ false)
own_or_not true = inl refl
own_or_not false = inr refl

module _ {Shape State Op Undo : Type 0} (o : Object Shape State Op Undo) (w : Walked) (log : Shape × List (LocalEntry Op)) (taken : HasTaken w (own_calls o log.1)) (i : ℕ) (m : MayLeave log.1 i) where
  own_split : is_own (m.entry).mark ≡ true → own_calls o log.1 ≡ own_calls o (but_last log.1) ++ o.call (m.entry).op ∷ []
  own_split mine = ap (own_calls o) (front_is o log i m (m.own_last mine)) ∙ calls_own o (but_last log.1) m.entry mine

  -- If the entry that leaves is own, the walk may go back.
  pub goes_back : is_own (m.entry).mark ≡ true → MayGoBack w
  goes_back mine = (own_calls o (but_last log.1), o.call (m.entry).op, subst (HasTaken w) (own_split mine) taken)

  pulled_removed : is_own (m.entry).mark ≡ false → (new : Shape × List (LocalEntry Op)) (removed : Removed) → RemovesEntry o item log i new removed → own_calls o new.1 ≡ own_calls o log.1
  pulled_removed other new Done r = ap (λ (z : Shape × List (LocalEntry Op)). own_calls o z.1) r.0 ∙ ap (map (λ (p : Item Op). o.call p.op)) (own_removed log.1 i m.entry m.here other)
  pulled_removed other new (Differs id answer) r = ap (λ (z : Shape × List (LocalEntry Op)). own_calls o z.1) r.0

  -- After a removal the walk has taken the own calls that are left.
  pub taken_removed : IsAllowed o log.0 (local_ops log.1) → (new : Shape × List (LocalEntry Op)) (removed : Removed) → RemovesEntry o item log i new removed → (b : Bool) → b ≡ is_own (m.entry).mark → (u : Walked) →
      (b ≡ false → u ≡ w) → (b ≡ true → IsGivenBack w u) → HasTaken u (own_calls o new.1)
  taken_removed h new removed r b is u kept back = elim (own_or_not b) [
    | inl t ↦
        (let mine = sym is ∙ t in
        subst (λ (z : Shape × List (LocalEntry Op)). HasTaken u (own_calls o z.1)) (sym (last_removed o log i m (m.own_last mine) h new removed r))
        (back t (own_calls o (but_last log.1)) (o.call (m.entry).op) (subst (HasTaken w) (own_split mine) taken)))
    | inr t ↦
        subst (λ (z : List Call). HasTaken u z) (sym (pulled_removed (sym is ∙ t) new removed r))
        (subst (λ (z : Walked). HasTaken z (own_calls o log.1)) (sym (kept t)) taken)
  ]
