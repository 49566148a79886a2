-- The operations of a place among some entries are taken back, and applied again without the first.
use Rattle.std.proofs.Common.{◌≡◌, ℕ, ◌<◌, ◌≤◌, ◌+◌, ◌-◌, map, take, drop, get_or, List, [], ◌∷◌, ◌++◌}
use Rattle.std.proofs.Common.{length, sym, ◌∙◌, ap, subst, arith, length-append}
use Rattle.std.specs.List.{remove}
use Rattle.std.proofs.lemmas.List.{map-append, take-append-drop, take-append-le}
use Rattle.pp_core.specs.declared.entry.Item.{Item}
use Rattle.pp_model.specs.Object.{ops}
use Rattle.pp_model.proofs.Lengths.{length-ops}
use Rattle.pp_kind.specs.Object.{AllRanged, AllowedFrom, Object, state_from}
use Rattle.pp_kind.proofs.Lists.{ranged-first}
use Rattle.pp_log.specs.Parts.{items_on, there, with_first}
use Rattle.pp_log.specs.Runs.{AllFit, IsRun, kept_along}
use Rattle.pp_log.proofs.Lists.{all_behind, remove_mid}
use Rattle.pp_log.proofs.Parted.{first_of, ops-append, there-append}

module _ {Shape State Op Undo : Type 0} (o : Object Shape State Op Undo) where
  fit-first : (sh : Shape) (x y : List Op) → AllFit o sh (x ++ y) → AllFit o sh x
  fit-first sh [] y h = tt
  fit-first sh (a ∷ x) y h = (h.0, fit-first sh x y h.1)

  -- The first operations of a joined list are those of the first list.
  front_ops : (n : ℕ) (x z : List (Item Op)) → n ≤ length x → take n (ops (x ++ z)) ≡ take n (ops x)
  front_ops n x z le = let size = length-ops x in ap (take n) (ops-append x z) ∙ take-append-le n (ops x) (ops z) (omega arith)

  -- a run that did not come to the last items is one over those before them
  pub run_front : (b s : State) (x z : List (Item Op)) (us : List Undo) → length us ≤ length x → IsRun o b (x ++ z) us s → IsRun o b x us s
  run_front b s x z us le r =
      let both = length-append x z in
      let few = r.few in
      let parts = ops-append x z in
      let same = front_ops (length us) x z le in
      record {
        base = r.base;
        log = r.log;
        few = omega arith;
        fit = fit-first (o.shape b) (ops x) (ops z) (subst (AllFit o (o.shape b)) parts r.fit);
        ranged = ranged-first o (ops x) (ops z) (subst (AllRanged o) parts r.ranged);
        within = le;
        allowed = subst (AllowedFrom o b) same r.allowed;
        is = r.is ∙ ap (state_from o b) same;
        kept = r.kept ∙ ap (kept_along o b) same;
      }

  -- If none but the items before are applied, others may be after them.
  pub run_before : (b s t : State) (x y z : List (Item Op)) (us vs : List Undo) → length us ≡ length x → IsRun o b (x ++ z) vs t → IsRun o b (x ++ y) us s → IsRun o b (x ++ z) us s
  run_before b s t x y z us vs n whole r =
      let both = length-append x z in
      let same = front_ops (length us) x y (omega arith) ∙ sym (front_ops (length us) x z (omega arith)) in
      record {
        base = whole.base;
        log = whole.log;
        few = whole.few;
        fit = whole.fit;
        ranged = whole.ranged;
        within = omega arith;
        allowed = subst (AllowedFrom o b) same r.allowed;
        is = r.is ∙ ap (state_from o b) same;
        kept = r.kept ∙ ap (kept_along o b) same;
      }

-- The items of a place among the first entries, and among the others.
pub items_parts : {Op E : Type 0} (place : Op → ℕ) (f : E → Item Op) (p : ℕ) (x : List E) (at : ℕ) → items_on place f p x ≡ items_on place f p (take at x) ++ items_on place f p (drop at x)
items_parts {Op} {E} place f p x at =
    ap (λ (z : List E). there place p (map f z)) (sym (take-append-drop at x)) ∙ ap (there place p) (map-append f (take at x) (drop at x))
    ∙ there-append place p (map f (take at x)) (map f (drop at x))

with_first_is : {Op E : Type 0} (place : Op → ℕ) (f : E → Item Op) (y : List E) (a : E) → 0 < length y → a ≡ get_or y 0 a → with_first place f y ≡ items_on place f (place (f a).op) y
with_first_is place f [] a some is = absurd (omega arith)
with_first_is {Op} {E} place f (b ∷ y) a some is = ap (λ (d : E). there place (place (f d).op) (map f (b ∷ y))) (sym is)

-- The first of some entries has a place.
module _ {Op E : Type 0} (place : Op → ℕ) (f : E → Item Op) (y : List E) (a : E) (some : 0 < length y) (is : a ≡ get_or y 0 a) (p : ℕ) (p_is : p ≡ place (f a).op) where
  -- The entries after the first.
  abbrev pub others : List E
  others = take (length y - 1) (drop 1 y)

  -- The items with the place of the first entry are the items of that place.
  pub whole_is : with_first place f y ≡ items_on place f p y
  whole_is = with_first_is place f y a some is ∙ ap (λ (q : ℕ). items_on place f q y) (sym p_is)

  -- The items of the first entry's place are its item, then those among the entries after it.
  pub all_is : items_on place f p y ≡ f a ∷ items_on place f p others
  all_is = sym whole_is ∙ first_of place f y a some is ∙ ap (λ (q : ℕ). f a ∷ there place q (map f (drop 1 y))) (sym p_is)
      ∙ ap (λ (z : List E). f a ∷ there place p (map f z)) (sym (all_behind y 1))

  -- The place of the first entry has one item more than it has among the entries after it.
  pub size_is : length (items_on place f p y) ≡ length (items_on place f p others) + 1
  size_is = let n = ap length all_is in omega arith

  -- To remove the first entry's item leaves the items of its place among those after it.
  pub left_is : (before : List (Item Op)) (from : ℕ) → length before ≡ from → remove (before ++ items_on place f p y) from ≡ before ++ items_on place f p others
  left_is before from n =
      ap (λ (z : List (Item Op)). remove (before ++ z) from) all_is ∙ ap (remove (before ++ f a ∷ items_on place f p others)) (sym n)
      ∙ remove_mid before (items_on place f p others) (f a)
