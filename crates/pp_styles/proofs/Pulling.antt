-- What the pulls of a transaction are, from one entry of an object to the next.
use Rattle.std.proofs.Common.{◌≡◌, ◌≤◌, ℕ, suc, Bool, true, false, not, ◌&&◌, ◌==◌}
use Rattle.std.proofs.Common.{List, [], ◌∷◌, ◌++◌, take, length, map, Some, refl, sym, ap, subst}
use Rattle.std.proofs.Common.{if◌then◌else◌, ◌∙◌, inl, inr}
use Rattle.std.specs.List.{slice_get}
use Rattle.std.proofs.Math.Bool.{or-false}
use Rattle.std.proofs.lemmas.Bool.{eq-eqb}
use Rattle.std.proofs.lemmas.Bool.Decides.{eqb_tells}
use Rattle.std.proofs.lemmas.List.Elements.{filter_agree}
use Rattle.std.proofs.lemmas.Option.{same_Some}
use Rattle.pp_core.specs.Steps.{Step, Pull}
use Rattle.pp_core.specs.declared.entry.LocalEntry.{LocalEntry}
use Rattle.pp_core.specs.declared.entry.SharedEntry.{SharedEntry}
use Rattle.pp_log.specs.Logs.{IsFirstFrom, IsOn, NoneFrom}
use Rattle.pp_model.specs.Config.{shared_item}
use Rattle.pp_model.specs.Names.{Name}
use Rattle.pp_records.specs.Expansions.{follow, is_followed, refresh, stands_in}
use Rattle.pp_styles.specs.Pulling.{pull_followed}
use Rattle.pp_styles.proofs.Growing.{chosen-found, chosen-rest}

-- tests of an entry
off_followed : (b r : Bool) (n m : ℕ) → (n ≡ m → ⊥) → ((b && (n == m)) && r) ≡ false
off_followed b r n m none = elim (eqb_tells n m) [
  | inl same ↦ absurd (none same.1)
  | inr other ↦ ap (λ (c : Bool). (b && c) && r) other.0 ∙ never b r
]
  where
    never : (b r : Bool) → ((b && false) && r) ≡ false
    never true r = refl
    never false r = refl

turned : {A : Type 0} (b : Bool) (xs : List A) → (if not b then xs else []) ≡ (if b then [] else xs)
turned true xs = refl
turned false xs = refl

both : {A : Type 0} (b c r : Bool) (xs : List A) → c ≡ true → (if ((b && c) && not r) then xs else []) ≡ (if b then (if r then [] else xs) else [])
both true c r xs h = ap (λ (w : Bool). if (w && not r) then xs else []) h ∙ turned r xs
both false c r xs h = refl

module _ {Op : Type 0} (place : Op → ℕ) (t : Name) (o : ℕ) (G : List (SharedEntry Op)) (l : List (LocalEntry Op)) (at next : ℕ) (is_next : next ≡ suc at) (from : ℕ) (g : SharedEntry Op) (here : slice_get G at ≡ Some g) where
  -- what a transaction follows, up to the next entry of the object
  pub follow_next : (sources : List Name) → IsFirstFrom (IsOn place shared_item o) G from at →
      follow place t o sources (take next G) l ≡ follow place t o sources (take from G) l ++ pull_followed sources l t g
  follow_next sources f =
      let same : f.entry ≡ g = same_Some f.entry g (sym f.is ∙ here) in
      let holds : IsOn place shared_item o g = subst (IsOn place shared_item o) same f.holds in
      ap (λ (n : ℕ). follow place t o sources (take n G) l) is_next
      ∙ chosen-found (λ (e : SharedEntry Op). Pull t e.id) (λ (e : SharedEntry Op). (is_followed sources e && (place e.op == o)) && not (stands_in l e.id)) G from at g f.behind here
      (λ j e from_on below there. off_followed (is_followed sources e) (not (stands_in l e.id)) (place e.op) o (f.first j e from_on below there))
      ∙ ap (λ (w : List (Step Op)). follow place t o sources (take from G) l ++ w)
      (both (is_followed sources g) (place g.op == o) (stands_in l g.id) (Pull t g.id ∷ []) (eq-eqb (place g.op) o holds))

module _ {Op : Type 0} (place : Op → ℕ) (t : Name) (o : ℕ) (G : List (SharedEntry Op)) (l : List (LocalEntry Op)) (from : ℕ) (within : from ≤ length G) where
  -- and behind the last one
  pub follow_rest : (sources : List Name) → NoneFrom (IsOn place shared_item o) G from → follow place t o sources (take from G) l ≡ follow place t o sources G l
  follow_rest sources none =
      chosen-rest (λ (e : SharedEntry Op). Pull t e.id) (λ (e : SharedEntry Op). (is_followed sources e && (place e.op == o)) && not (stands_in l e.id)) G from within
      (λ j e from_on there. off_followed (is_followed sources e) (not (stands_in l e.id)) (place e.op) o (none j e from_on there))

-- what is committed of an object is what a transaction with no sources follows
pub follow_none : {Op : Type 0} (place : Op → ℕ) (t : Name) (o : ℕ) (G : List (SharedEntry Op)) (l : List (LocalEntry Op)) → follow place t o [] G l ≡ refresh place t o G l
follow_none {Op} place t o G l =
    ap (map (λ (e : SharedEntry Op). Pull t e.id))
    (filter_agree (λ (e : SharedEntry Op). (is_followed [] e && (place e.op == o)) && not (stands_in l e.id)) (λ (e : SharedEntry Op). (e.committed && (place e.op == o)) && not (stands_in l e.id))
    (λ (e : SharedEntry Op). ap (λ (b : Bool). (b && (place e.op == o)) && not (stands_in l e.id)) (or-false e.committed)) G)
