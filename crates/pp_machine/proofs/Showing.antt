-- The evidence that walks of a log find.
use Rattle.std.proofs.Common.{◌≡◌, ◌≢◌, ◌&&◌, ℕ, Bool, true, false, cond, filter, find, List, []}
use Rattle.std.proofs.Common.{◌∷◌, ◌++◌, Option, Some, None, is_some, position, slice_get, refl}
use Rattle.std.proofs.Common.{sym, ap, subst, ◌∙◌}
use Rattle.std.proofs.lemmas.Bool.{and_parts, false_from_ne_true}
use Rattle.std.proofs.lemmas.Bool.Decides.{Decides-int_eq}
use Rattle.std.proofs.lemmas.Option.{same_Some}
use Rattle.pp_core.specs.declared.answer.Answer.{Answer}
use Rattle.pp_core.specs.declared.answer.Answer.TheVariants as answers
use Rattle.pp_core.specs.declared.entry.Item.{Item}
use Rattle.pp_core.specs.declared.entry.LocalEntry.{LocalEntry}
use Rattle.pp_log.specs.Logs.{DiffersFrom, entry_ops}
use Rattle.pp_model.specs.Lists.{In}
use Rattle.pp_model.proofs.Logs.{found}
use Rattle.pp_model.proofs.Finding.{find_nowhere, place_found, place_none}
use Rattle.pp_kind.specs.Object.{Object, AllowedFrom, state_from}
use Rattle.pp_machine.specs.Evidence.{first_differing, first_entry, first_swap, is_same, swap_or}
use Rattle.pp_machine.specs.declared.detail.Detail.{Detail}
use Rattle.pp_machine.specs.declared.detail.Detail.TheVariants.{Nothing, Entry, Gives}

-- two tests of which the first passes and not both
pub second_fails : (a b : Bool) → (a && b) ≡ false → a ≡ true → b ≡ false
second_fails true b e t = e
second_fails false b e t = absurd (cc)

module _ {Op E : Type 0} (passes : E → Bool) (refuting : E → Option (List Op × List Op)) where
  -- an entry that passes, whose pair does not swap
  abbrev pub stops : E → Bool
  stops e = passes e && is_some (refuting e)

  -- the entry at which the walk stops is the evidence
  pub swap_shown : (id_of : E → ℕ) (l : List E) (e : E) → find stops l ≡ Some e → swap_or (id_of e) (refuting e) Nothing ≡ first_swap id_of refuting (filter passes l)
  swap_shown id_of [] e h = absurd (cc)
  swap_shown id_of (y ∷ l) e h = go (passes y) (refuting y) refl (λ k. swap_shown id_of l e k) h
    where
      rest : Detail Op
      rest = first_swap id_of refuting (filter passes l)

      go : (b : Bool) (q : Option (List Op × List Op)) → refuting y ≡ q → (find stops l ≡ Some e → swap_or (id_of e) (refuting e) Nothing ≡ rest) → cond (b && is_some q) (Some y) (find stops l) ≡ Some e → swap_or (id_of e) (refuting e) Nothing ≡ first_swap id_of refuting (cond b (y ∷ filter passes l) (filter passes l))
      go false q is more k = more k
      go true None is more k = more k ∙ sym (ap (λ (z : Option (List Op × List Op)). swap_or (id_of y) z rest) is)
      go true (Some lists) is more k =
          subst (λ (z : E). swap_or (id_of z) (refuting z) Nothing ≡ swap_or (id_of y) (refuting y) rest) (same_Some y e k)
          (ap (λ (z : Option (List Op × List Op)). swap_or (id_of y) z Nothing) is ∙ sym (ap (λ (z : Option (List Op × List Op)). swap_or (id_of y) z rest) is))

  -- If the walk does not stop, no pair of an entry that passes is refuted.
  pub none_stops : (l : List E) → position stops l ≡ None → (e : E) → In e l → passes e ≡ true → is_some (refuting e) ≡ false
  none_stops l h e i p = second_fails (passes e) (is_some (refuting e)) (find_nowhere stops l (place_none stops l h) e i) p

  -- The entry at which a walk stops is in the list, passes the test, and is refuted.
  pub stops_here : (l : List E) (k : ℕ) (e : E) → position stops l ≡ Some k → slice_get l k ≡ Some e → In e l × (passes e ≡ true) × (is_some (refuting e) ≡ true)
  stops_here l k e h at =
      let q = found stops l e (place_found stops l k e h at) in
      let r = and_parts (passes e) (is_some (refuting e)) q.1 in
      (q.0, r.0, r.1)

-- the first entry that passes
pub entry_shown : {Op : Type 0} (passes : LocalEntry Op → Bool) (l : List (LocalEntry Op)) (e : LocalEntry Op) → find passes l ≡ Some e → Entry e.id ≡ first_entry (filter passes l)
entry_shown passes [] e h = absurd (cc)
entry_shown {Op} passes (y ∷ l) e h = go (passes y) (λ k. entry_shown passes l e k) h
  where
    go : (b : Bool) → (find passes l ≡ Some e → Entry e.id ≡ first_entry (filter passes l)) → cond b (Some y) (find passes l) ≡ Some e → Entry e.id ≡ first_entry (cond b (y ∷ filter passes l) (filter passes l))
    go false more k = more k
    go true more k = ap (λ (z : LocalEntry Op). Entry z.id) (sym (same_Some y e k))

-- results that are one, and results that differ
pub same_answer : (a b : Answer) → a ≡ b → is_same a b ≡ true
same_answer a b e = subst (λ (z : Answer). is_same a z ≡ true) e (itself a)
  where
    itself : (a : Answer) → is_same a a ≡ true
    itself answers.None = refl
    itself (answers.Number x) = (Decides-int_eq x x).1 refl
    itself (answers.Truth true) = refl
    itself (answers.Truth false) = refl

-- Results for which the test says that they are the same are equal.
pub answers_same : (a b : Answer) → is_same a b ≡ true → a ≡ b
answers_same answers.None answers.None e = refl
answers_same answers.None (answers.Number y) e = absurd (cc)
answers_same answers.None (answers.Truth y) e = absurd (cc)
answers_same (answers.Number x) answers.None e = absurd (cc)
answers_same (answers.Number x) (answers.Number y) e = ap (λ z. answers.Number z) ((Decides-int_eq x y).0 e)
answers_same (answers.Number x) (answers.Truth y) e = absurd (cc)
answers_same (answers.Truth true) answers.None e = absurd (cc)
answers_same (answers.Truth false) answers.None e = absurd (cc)
answers_same (answers.Truth true) (answers.Number y) e = absurd (cc)
answers_same (answers.Truth false) (answers.Number y) e = absurd (cc)
answers_same (answers.Truth true) (answers.Truth true) e = refl
answers_same (answers.Truth true) (answers.Truth false) e = absurd (cc)
answers_same (answers.Truth false) (answers.Truth true) e = absurd (cc)
answers_same (answers.Truth false) (answers.Truth false) e = refl

module _ {Shape State Op Undo E : Type 0} (o : Object Shape State Op Undo) (item_of : E → Item Op) where
  skipped : (s : State) (before : List E) (e : E) (after : List E) → AllowedFrom o s (entry_ops item_of before) → (answer : Answer) → o.gives (state_from o s (entry_ops item_of before)) (item_of e).op ≡ answer → answer ≢ o.recorded (item_of e).op
      → Gives (item_of e).id answer ≡ first_differing o item_of s (before ++ e ∷ after)
  skipped s [] e after h answer g d =
      subst (λ (z : Answer). Gives (item_of e).id z ≡ first_differing o item_of s (e ∷ after)) g
      (sym (ap (λ (b : Bool). cond b (first_differing o item_of (o.next s (item_of e).op) after) (Gives (item_of e).id (o.gives s (item_of e).op)))
      (false_from_ne_true (is_same (o.gives s (item_of e).op) (o.recorded (item_of e).op)) (λ k. d (sym g ∙ answers_same (o.gives s (item_of e).op) (o.recorded (item_of e).op) k)))))
  skipped s (y ∷ before) e after h answer g d =
      skipped (o.next s (item_of y).op) before e after h.1 answer g d
      ∙ sym (ap (λ (b : Bool). cond b (first_differing o item_of (o.next s (item_of y).op) (before ++ e ∷ after)) (Gives (item_of y).id (o.gives s (item_of y).op))) (same_answer (o.gives s (item_of y).op) (o.recorded (item_of y).op) h.0.1))

  -- the first entry that differs is the evidence
  pub differing_shown : (s : State) (l : List E) (id : ℕ) (answer : Answer) → DiffersFrom o item_of s l id answer → Gives id answer ≡ first_differing o item_of s l
  differing_shown s l id answer d =
      ap (λ (z : ℕ). Gives z answer) (sym d.id_is) ∙ skipped s d.before d.entry d.after d.allowed answer d.gives d.differs ∙ ap (first_differing o item_of s) (sym d.is)
