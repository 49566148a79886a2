-- Ids among the last of a list, and in a local log.
use Rattle.std.proofs.Common.{◌≡◌, ◌≢◌, ◌≤◌, ◌<◌, ◌-◌, ◌==◌, ◌||◌, ℕ, zero, suc, Bool, true, false, cond, not, List, []}
use Rattle.std.proofs.Common.{◌∷◌, ◌++◌, length, drop, max, Option, None, Some, refl, sym, ap, subst, ◌∙◌, arith, inl, inr}
use Rattle.std.specs.List.{slice_get}
use Rattle.std.proofs.Math.Bool.{or-true}
use Rattle.std.proofs.Math.Nat.{max-eq_left, max-eq_right}
use Rattle.std.proofs.lemmas.Bool.{cases_lt, eq-eqb}
use Rattle.std.proofs.lemmas.Bool.Decides.{eqb_tells}
use Rattle.std.proofs.lemmas.List.{length-append}
use Rattle.std.proofs.lemmas.Option.{same_Some}
use Rattle.pp_core.specs.declared.entry.LocalEntry.{LocalEntry}
use Rattle.pp_core.specs.declared.entry.Mark.{Mark}
use Rattle.pp_records.specs.Expansions.{stands_in}
use Rattle.pp_model.specs.Config.{Unpushed, but_last, last, set_mark, without_local}
use Rattle.pp_model.specs.Lists.{In}
use Rattle.pp_model.specs.Rules.{IsLast}
use Rattle.pp_model.proofs.Lists.{in_left, in_right}
use Rattle.pp_model.proofs.Logs.{but_last_is}
use Rattle.pp_styles.specs.Knowing.{last_of}

-- ---- lists

-- an element of a list, and not of one behind it
pub slice_front : {A : Type 0} (xs ys : List A) (i : ℕ) (x : A) → i < length xs → slice_get (xs ++ ys) i ≡ Some x → slice_get xs i ≡ Some x
slice_front [] ys i x below h = absurd (omega arith)
slice_front (y ∷ xs) ys zero x below h = h
slice_front (y ∷ xs) ys (suc i) x below h = slice_front xs ys i x (omega arith) h

-- The last element of a list with an element at its end is this element.
pub last_there : {A : Type 0} (xs : List A) (x : A) → last_of (xs ++ x ∷ []) ≡ Some x
last_there {A} xs x = ap (λ (n : ℕ). slice_get (xs ++ x ∷ []) n) size ∙ at_end xs
  where
    at_end : (ys : List A) → slice_get (ys ++ x ∷ []) (length ys) ≡ Some x
    at_end [] = refl
    at_end (y ∷ ys) = at_end ys

    size : length (xs ++ x ∷ []) - 1 ≡ length xs
    size = let all = length-append xs (x ∷ []) in omega arith

-- ---- an id in a local log

or_more : (b c d : Bool) → (c ≡ true → d ≡ true) → (b || c) ≡ true → (b || d) ≡ true
or_more true c d more h = refl
or_more false c d more h = more h

-- An id in a local log is in each longer log.
pub stands_longer : {Op : Type 0} (l r : List (LocalEntry Op)) (i : ℕ) → stands_in l i ≡ true → stands_in (l ++ r) i ≡ true
stands_longer [] r i h = absurd (cc)
stands_longer (e ∷ l) r i h = or_more (e.id == i) (stands_in l i) (stands_in (l ++ r) i) (stands_longer l r i) h

-- The id of an entry of a local log is in the log.
pub in_stands : {Op : Type 0} (l : List (LocalEntry Op)) (e : LocalEntry Op) → In e l → stands_in l e.id ≡ true
in_stands [] e none = absurd none
in_stands {Op} (f ∷ l) e (inl same) = ap (λ (b : Bool). b || stands_in l e.id) (eq-eqb f.id e.id (ap (λ (w : LocalEntry Op). w.id) (sym same)))
in_stands (f ∷ l) e (inr there) = ap (λ (b : Bool). (f.id == e.id) || b) (in_stands l e there) ∙ or-true (f.id == e.id)

same_id : {Op : Type 0} (m : Mark) (e : LocalEntry Op) (b : Bool) → (cond b (record e { mark = m }) e).id ≡ e.id
same_id m e true = refl
same_id m e false = refl

-- Another mark leaves the ids in a local log the same.
pub stands_marked : {Op : Type 0} (id : ℕ) (m : Mark) (l : List (LocalEntry Op)) (i : ℕ) → stands_in (set_mark id m l) i ≡ stands_in l i
stands_marked id m [] i = refl
stands_marked {Op} id m (e ∷ l) i =
    ap (λ (n : ℕ). (n == i) || stands_in (set_mark id m l) i) (same_id m e (e.id == id))
    ∙ ap (λ (b : Bool). (e.id == i) || b) (stands_marked id m l i)

-- ---- ids after the first so many

-- an id among the last ones of a list is in it
pub in_from_drop : (n : ℕ) (ids : List ℕ) (id : ℕ) → In id (drop n ids) → In id ids
in_from_drop zero ids id h = h
in_from_drop (suc n) [] id h = h
in_from_drop (suc n) (j ∷ ids) id h = inr (in_from_drop n ids id h)

-- a longer list has it among as many last ones
pub in_drop_left : (n : ℕ) (ids more : List ℕ) (id : ℕ) → In id (drop n ids) → In id (drop n (ids ++ more))
in_drop_left zero ids more id h = in_left id ids more h
in_drop_left (suc n) [] more id h = absurd h
in_drop_left (suc n) (j ∷ ids) more id h = in_drop_left n ids more id h

-- An id among those added to a list is among its last ones, after any first n.
pub in_drop_right : (n : ℕ) (ids more : List ℕ) (id : ℕ) → n ≤ length ids → In id more → In id (drop n (ids ++ more))
in_drop_right zero ids more id low h = in_right id ids more h
in_drop_right (suc n) [] more id low h = absurd (omega arith)
in_drop_right (suc n) (j ∷ ids) more id low h = in_drop_right n ids more id (omega arith) h

-- an id among those from one number on, and at none of the places up to another, is among those from there on
pub later_in : (ids : List ℕ) (from at id : ℕ) → In id (drop from ids) → ((i : ℕ) → from ≤ i → i < at → slice_get ids i ≡ Some id → ⊥) → In id (drop at ids)
later_in ids from zero id there none = in_from_drop from ids id there
later_in [] zero (suc at) id there none = absurd there
later_in [] (suc from) (suc at) id there none = absurd there
later_in (j ∷ ids) zero (suc at) id (inl here) none = absurd (none 0 (omega arith) (omega arith) (ap Some (sym here)))
later_in (j ∷ ids) zero (suc at) id (inr later) none = later_in ids zero at id later (λ i above below there. none (suc i) (omega arith) (omega arith) there)
later_in (j ∷ ids) (suc from) (suc at) id there none = later_in ids from at id there (λ i above below here. none (suc i) (omega arith) (omega arith) here)

-- an id that is not in a longer local log is not in the shorter one
pub not_shorter : {Op : Type 0} (l r : List (LocalEntry Op)) (i : ℕ) → stands_in (l ++ r) i ≡ false → stands_in l i ≡ false
not_shorter l r i off = by (stands_in l i) refl
  where
    no : true ≡ false → ⊥
    no e = cc

    by : (b : Bool) → stands_in l i ≡ b → stands_in l i ≡ false
    by true is = absurd (no (sym (stands_longer l r i is) ∙ off))
    by false is = is

-- an id among those after some is among those after fewer
pub lower_in : (ids : List ℕ) (n m id : ℕ) → m ≤ n → In id (drop n ids) → In id (drop m ids)
lower_in ids n m id low there = later_in ids n m id there (λ i above below here. absurd (omega arith))

-- an id among those after some, and after some more or fewer, is among those after both
pub in_drop_max : (ids : List ℕ) (n m id : ℕ) → In id (drop n ids) → In id (drop m ids) → In id (drop (max n m) ids)
in_drop_max ids n m id first second = elim (cases_lt n m) [
  | inl below ↦ subst (λ (k : ℕ). In id (drop k ids)) (sym (max-eq_right (omega (arith, below)))) second
  | inr above ↦ subst (λ (k : ℕ). In id (drop k ids)) (sym (max-eq_left (omega (arith, above)))) first
]

-- no id is among those after all of a list
pub none_after : (ids : List ℕ) (n id : ℕ) → length ids ≤ n → In id (drop n ids) → ⊥
none_after [] zero id past there = absurd there
none_after [] (suc n) id past there = absurd there
none_after (j ∷ ids) zero id past there = absurd (omega arith)
none_after (j ∷ ids) (suc n) id past there = none_after ids n id (omega arith) there

-- an id at a place is among those after fewer
pub in_drop_at : (ids : List ℕ) (n at id : ℕ) → n ≤ at → slice_get ids at ≡ Some id → In id (drop n ids)
in_drop_at [] n at id low here = absurd (cc)
in_drop_at (j ∷ ids) zero zero id low here = inl (sym (same_Some j id here))
in_drop_at (j ∷ ids) zero (suc at) id low here = inr (in_drop_at ids zero at id (omega arith) here)
in_drop_at (j ∷ ids) (suc n) zero id low here = absurd (omega arith)
in_drop_at (j ∷ ids) (suc n) (suc at) id low here = in_drop_at ids n at id (omega arith) here

differ : (a b : ℕ) → a ≢ b → (a == b) ≡ false
differ a b off = elim (eqb_tells a b) [ inl same ↦ absurd (off same.1) | inr other ↦ other.0 ]

-- an id that is not in a local log is not in one that has an entry of another id more
pub not_with : {Op : Type 0} (l : List (LocalEntry Op)) (e : LocalEntry Op) (i : ℕ) → e.id ≢ i → stands_in l i ≡ false → stands_in (l ++ e ∷ []) i ≡ false
not_with [] e i other off = ap (λ (b : Bool). b || false) (differ e.id i other)
not_with (f ∷ l) e i other off =
    let p = parts (f.id == i) (stands_in l i) off in
    ap (λ (b : Bool). b || stands_in (l ++ e ∷ []) i) p.0 ∙ not_with l e i other p.1
  where
    parts : (b c : Bool) → (b || c) ≡ false → (b ≡ false) × (c ≡ false)
    parts true c h = absurd (let no : true ≡ false = h in cc)
    parts false c h = (refl, h)

-- and taking out entries of another id changes nothing
pub stands_without : {Op : Type 0} (id : ℕ) (l : List (LocalEntry Op)) (i : ℕ) → i ≢ id → stands_in (without_local id l) i ≡ stands_in l i
stands_without id [] i other = refl
stands_without {Op} id (e ∷ l) i other = elim (eqb_tells e.id id) [
  | inl same ↦
      ap (λ (b : Bool). stands_in (cond (not b) (e ∷ without_local id l) (without_local id l)) i) same.0
      ∙ stands_without id l i other
      ∙ sym (ap (λ (b : Bool). b || stands_in l i) (differ e.id i (λ here. other (sym here ∙ same.1))))
  | inr off ↦
      ap (λ (b : Bool). stands_in (cond (not b) (e ∷ without_local id l) (without_local id l)) i) off.0
      ∙ ap (λ (b : Bool). (e.id == i) || b) (stands_without id l i other)
]

-- the entry that an UNAPP takes out
pub unapplied_entry : {Op : Type 0} (l : List (LocalEntry Op)) (id : ℕ) → IsLast id (last l) → (e : LocalEntry Op) × (l ≡ but_last l ++ e ∷ []) × In e l × (e.mark ≡ Unpushed)
unapplied_entry {Op} l id is = by (last l) refl is
  where
    by : (o : Option (LocalEntry Op)) → last l ≡ o → IsLast id o → (e : LocalEntry Op) × (l ≡ but_last l ++ e ∷ []) × In e l × (e.mark ≡ Unpushed)
    by None found none = absurd none
    by (Some e) found is =
        let all = but_last_is e l found in
        (e, all, subst (λ (w : List (LocalEntry Op)). In e w) (sym all) (in_right e (but_last l) (e ∷ []) (inl refl)), is.1)
