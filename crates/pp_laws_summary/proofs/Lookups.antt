-- The results of the lookups in a sound configuration, and the origins of its entries.
use Rattle.std.specs.Prelude.{◌≡◌, ◌≢◌, ℕ, ◌==◌, Bool, true, false, not, ◌&&◌, List, Option, Some}
use Rattle.std.proofs.Common.{refl, sym, ap, subst, ◌∙◌}
use Rattle.std.proofs.lemmas.Bool.{eqb-true, eq-eqb}
use Rattle.pp_model.specs.Lists.{In, Before}
use Rattle.pp_model.specs.Names.{Name, ◌=ⁿ◌}
use Rattle.pp_model.specs.Object.{Object}
use Rattle.pp_model.specs.Config.{Mark, Unpushed, Pushed, Pulled, is_mark, LocalEntry, SharedEntry, Tx, Config, tx, at_mark, of_other}
use Rattle.pp_model.specs.Rules.{FirstFalse, there}
use Rattle.pp_model.specs.Sound.{Sound}
use Rattle.pp_model.proofs.Lists.{by_key}
use Rattle.pp_model.proofs.Names.{eq-names, names-true, names_not}
use Rattle.pp_model.proofs.Alone.{find_only}
use Rattle.std.proofs.lemmas.Bool.{and_parts}

-- A conjunction is true if both parts are.
pub and_true : (a b : Bool) → a ≡ true → b ≡ true → (a && b) ≡ true
and_true true b h k = k
and_true false b h k = absurd (cc)

same_mark : (m : Mark) → is_mark m m ≡ true
same_mark Unpushed = refl
same_mark Pushed = refl
same_mark Pulled = refl

-- An open transaction is found by its name.
pub tx_is : {Op State : Type 0} (O : Object Op State) (c : Config Op) → Sound O c → (t : Name) (x : Tx Op) → In x c.opened → x.name ≡ t → tx t c.opened ≡ Some x
tx_is {Op} O c s t x i n = find_only (λ (w : Tx Op). w.name =ⁿ t) x c.opened i (eq-names x.name t n)
    (λ y j k. by_key (λ (w : Tx Op). w.name) c.opened s.open_names y x j i (names-true y.name t k ∙ sym n))

-- An entry of L is found by its id and its mark.
pub mark_is : {Op : Type 0} (L : List (LocalEntry Op)) → ((e f : LocalEntry Op) → Before e f L → e.id ≢ f.id) → (id : ℕ) (m : Mark) (e : LocalEntry Op) → In e L → e.id ≡ id → e.mark ≡ m →
    at_mark id m L ≡ Some e
mark_is {Op} L d id m e i n k = find_only (λ (w : LocalEntry Op). (w.id == id) && is_mark w.mark m) e L i
    (and_true (e.id == id) (is_mark e.mark m) (eq-eqb e.id id n) (subst (λ (w : Mark). is_mark w m ≡ true) (sym k) (same_mark m)))
    (λ y j h. by_key (λ (w : LocalEntry Op). w.id) L d y e j i (eqb-true y.id id (and_parts (y.id == id) (is_mark y.mark m) h).0 ∙ sym n))

-- An entry of G that another transaction owns is found by its id.
pub other_is : {Op State : Type 0} (O : Object Op State) (c : Config Op) → Sound O c → (t : Name) (g : SharedEntry Op) → In g c.shared → g.owner ≢ t → of_other t g.id c.shared ≡ Some g
other_is {Op} O c s t g i n = find_only (λ (w : SharedEntry Op). (w.id == g.id) && not (w.owner =ⁿ t)) g c.shared i
    (and_true (g.id == g.id) (not (g.owner =ⁿ t)) (eq-eqb g.id g.id refl) (names_not g.owner t n))
    (λ y j h. by_key (λ (w : SharedEntry Op). w.id) c.shared s.shared_ids y g j i (eqb-true y.id g.id (and_parts (y.id == g.id) (not (y.owner =ⁿ t)) h).0))

-- a committed entry has another owner than an open transaction
pub done_by_other : {Op State : Type 0} (O : Object Op State) (c : Config Op) → Sound O c → (x : Tx Op) → In x c.opened → (g : SharedEntry Op) → In g c.shared → g.committed ≡ true → g.owner ≢ x.name
done_by_other {Op} O c s x i g j u e = let d = s.committed_from g j u in s.apart x d.0 i d.1 (sym e ∙ ap (λ (w : SharedEntry Op). w.owner) d.4)

-- If a value is there and no fact of `there` is false, no fact of the value is false.
pub there_of : {A : Type 0} (o : Option A) (F : A → List (Type 0)) (x : A) → o ≡ Some x → FirstFalse (there o F) 0 → FirstFalse (F x) 0
there_of {A} o F x e h = (subst (λ (w : Option A). FirstFalse (there w F) 0) e h).1
