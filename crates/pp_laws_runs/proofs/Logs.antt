-- Entries of a log whose ids differ.
use Rattle.std.specs.Prelude.{◌≡◌, ◌≢◌, ◌==◌, ◌&&◌, ℕ, Bool, true, false, cond, not, List, [], ◌∷◌}
use Rattle.std.specs.Prelude.{◌++◌, eqb, filter, map, Some}
use Rattle.std.proofs.Common.{refl, sym, ap, ◌∙◌}
use Rattle.std.proofs.lemmas.Bool.Decides.{eqb_tells}
use Rattle.std.proofs.lemmas.Bool.{and_parts, eqb-true, eq-eqb}
use Rattle.std.proofs.lemmas.List.{map-append}
use Rattle.std.proofs.lemmas.List.Elements.{filter-append}
use mathlib.Core.Logic.{inl, inr}
use Rattle.pp_model.specs.Config.{LocalEntry, Mark, Pulled, Pushed, SharedEntry, Unpushed, at_mark}
use Rattle.pp_model.specs.Config.{is_mark, last, of_other, set_mark, without_local, without_shared}
use Rattle.pp_model.specs.Lists.{Before, In}
use Rattle.pp_model.specs.Names.{Name, ◌=ⁿ◌}
use Rattle.pp_model.proofs.Alone.{find_only}
use Rattle.pp_model.proofs.Lists.{before_across, before_cases, before_in_first, before_in_second}
use Rattle.pp_model.proofs.Lists.{before_right, by_key}
use Rattle.pp_model.proofs.Logs.{eqb_not}
use Rattle.pp_model.proofs.Names.{names_not}
use Rattle.pp_model.proofs.Trace.{keep_all}
use Rattle.pp_model.proofs.Push.{marked_other}

-- no two entries have one id
abbrev pub LocalIds : {Op : Type 0} → List (LocalEntry Op) → Type 0
LocalIds {Op} l = (e f : LocalEntry Op) → Before e f l → e.id ≢ f.id

-- no two entries of the shared log have one id
abbrev pub SharedIds : {Op : Type 0} → List (SharedEntry Op) → Type 0
SharedIds {Op} G = (g h : SharedEntry Op) → Before g h G → g.id ≢ h.id

-- the entry with this mark
abbrev pub marked : {Op : Type 0} → Mark → LocalEntry Op → LocalEntry Op
marked m e = record e { mark = m }

mark_same : (m : Mark) → is_mark m m ≡ true
mark_same Unpushed = refl
mark_same Pushed = refl
mark_same Pulled = refl

-- an entry is found by its id and its mark
pub mark_found : {Op : Type 0} (l : List (LocalEntry Op)) (e : LocalEntry Op) (m : Mark) → LocalIds l → In e l → e.mark ≡ m → at_mark e.id m l ≡ Some e
mark_found {Op} l e m d i k =
    find_only (λ (w : LocalEntry Op). (w.id == e.id) && is_mark w.mark m) e l i
    (ap (λ (b : Bool). b && is_mark e.mark m) (eq-eqb e.id e.id refl) ∙ ap (λ (w : Mark). is_mark w m) k ∙ mark_same m)
    (λ y j h. by_key (λ (w : LocalEntry Op). w.id) l d y e j i (eqb-true y.id e.id (and_parts (y.id == e.id) (is_mark y.mark m) h).0))

-- An entry of the shared log that another transaction owns is found by its id.
pub other_found : {Op : Type 0} (t : Name) (G : List (SharedEntry Op)) (g : SharedEntry Op) → SharedIds G → In g G → g.owner ≢ t → of_other t g.id G ≡ Some g
other_found {Op} t G g d i n =
    find_only (λ (w : SharedEntry Op). (w.id == g.id) && not (w.owner =ⁿ t)) g G i
    (ap (λ (b : Bool). b && not (g.owner =ⁿ t)) (eq-eqb g.id g.id refl) ∙ names_not g.owner t n)
    (λ y j h. by_key (λ (w : SharedEntry Op). w.id) G d y g j i (eqb-true y.id g.id (and_parts (y.id == g.id) (not (y.owner =ⁿ t)) h).0))

-- The last element of a list with an element at its end is this element.
pub last_end : {A : Type 0} (xs : List A) (x : A) → last (xs ++ x ∷ []) ≡ Some x
last_end [] x = refl
last_end (y ∷ []) x = refl
last_end (y ∷ z ∷ xs) x = last_end (z ∷ xs) x

not_same : (a b : ℕ) → a ≢ b → eqb a b ≡ false
not_same a b n = elim (eqb_tells a b) [ inl r ↦ absurd (n r.1) | inr r ↦ r.0 ]

-- an entry of a log, with what comes before and after it
module _ {Op : Type 0} (p q : List (LocalEntry Op)) (e : LocalEntry Op) (d : LocalIds (p ++ e ∷ q)) where
  -- An entry before another one in a log has another id.
  pub apart_before : (a : LocalEntry Op) → In a p → a.id ≢ e.id
  apart_before a i = d a e (before_across a e p (e ∷ q) i (inl refl))

  -- An entry after another one in a log has another id.
  pub apart_after : (a : LocalEntry Op) → In a q → a.id ≢ e.id
  apart_after a i z = d e a (before_right e a p (e ∷ q) (inl (refl, i))) (sym z)

  -- An entry that is in order before another one is in the part before it.
  pub before_it : (a : LocalEntry Op) → Before a e (p ++ e ∷ q) → In a p
  before_it a h = elim (before_cases a e p (e ∷ q) h) [
    | inl k ↦ before_in_first a e p k
    | inr (inl (inl k)) ↦ absurd (apart_after e k.1 refl)
    | inr (inl (inr k)) ↦ absurd (apart_after e (before_in_second a e q k) refl)
    | inr (inr k) ↦ k.0
  ]

  -- An entry that is in order after another one is in the part after it.
  pub after_it : (b : LocalEntry Op) → Before e b (p ++ e ∷ q) → In b q
  after_it b h = elim (before_cases e b p (e ∷ q) h) [
    | inl k ↦ absurd (apart_before e (before_in_first e b p k) refl)
    | inr (inl (inl k)) ↦ k.1
    | inr (inl (inr k)) ↦ before_in_second e b q k
    | inr (inr k) ↦ absurd (apart_before e k.0 refl)
  ]

  -- A mark at the id of an entry changes the mark of this entry alone.
  pub set_mark_at : (m : Mark) → set_mark e.id m (p ++ e ∷ q) ≡ p ++ marked m e ∷ q
  set_mark_at m =
      let f = λ (a : LocalEntry Op). cond (a.id == e.id) (marked m a) a in
      map-append f p (e ∷ q)
      ∙ ap (λ (w : List (LocalEntry Op)). w ++ map f (e ∷ q)) (marked_other e.id m p apart_before)
      ∙ ap (λ (b : Bool). p ++ cond b (marked m e) e ∷ map f q) (eq-eqb e.id e.id refl)
      ∙ ap (λ (w : List (LocalEntry Op)). p ++ marked m e ∷ w) (marked_other e.id m q apart_after)

  -- A log without the id of an entry is the part before it and the part after it.
  pub without_it : without_local e.id (p ++ e ∷ q) ≡ p ++ q
  without_it =
      let test = λ (a : LocalEntry Op). not (a.id == e.id) in
      filter-append test p (e ∷ q)
      ∙ ap (λ (w : List (LocalEntry Op)). w ++ filter test (e ∷ q)) (keep_all test p (λ a i. eqb_not a.id e.id (apart_before a i)))
      ∙ ap (λ (b : Bool). p ++ cond (not b) (e ∷ filter test q) (filter test q)) (eq-eqb e.id e.id refl)
      ∙ ap (λ (w : List (LocalEntry Op)). p ++ w) (keep_all test q (λ a i. eqb_not a.id e.id (apart_after a i)))

-- An entry of the shared log that is left out leaves what comes before and after it.
pub without_shared_at : {Op : Type 0} (p q : List (SharedEntry Op)) (g : SharedEntry Op) → SharedIds (p ++ g ∷ q) → without_shared g.id (p ++ g ∷ q) ≡ p ++ q
without_shared_at {Op} p q g d =
    let test = λ (a : SharedEntry Op). not (a.id == g.id) in
    let first : (a : SharedEntry Op) → In a p → a.id ≢ g.id = λ a i. d a g (before_across a g p (g ∷ q) i (inl refl)) in
    let second : (a : SharedEntry Op) → In a q → a.id ≢ g.id = λ a i z. d g a (before_right g a p (g ∷ q) (inl (refl, i))) (sym z) in
    filter-append test p (g ∷ q)
    ∙ ap (λ (w : List (SharedEntry Op)). w ++ filter test (g ∷ q)) (keep_all test p (λ a i. eqb_not a.id g.id (first a i)))
    ∙ ap (λ (b : Bool). p ++ cond (not b) (g ∷ filter test q) (filter test q)) (eq-eqb g.id g.id refl)
    ∙ ap (λ (w : List (SharedEntry Op)). p ++ w) (keep_all test q (λ a i. eqb_not a.id g.id (second a i)))
