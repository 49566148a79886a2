-- How a step changes the names that were begun and the open transactions.
use Rattle.std.specs.Prelude.{◌≡◌, ◌⊎◌, Bool, true, false, cond, not, List, [], ◌∷◌, Option, None}
use Rattle.std.specs.Prelude.{Some}
use Rattle.std.proofs.Common.{refl, sym, ap, ◌∙◌}
use mathlib.Core.Logic.{inl, inr}
use Rattle.pp_model.specs.Body.{Tree}
use Rattle.pp_model.specs.Config.{Begin, App, Unapp, Push, Unpush, Pull, Unpull, Cmt, Quit, Note}
use Rattle.pp_model.specs.Config.{Config, LocalEntry, SharedEntry, Step, Tx, Unpushed, commit_effect}
use Rattle.pp_model.specs.Config.{entry_of, of_other, on_log, pull_effect, push_effect, relog, then}
use Rattle.pp_model.specs.Config.{tx, without_tx}
use Rattle.pp_model.specs.Lists.{In}
use Rattle.pp_model.specs.Names.{Name, ◌=ⁿ◌}
use Rattle.pp_model.proofs.Lists.{from_filter, from_map, in_cases}

-- a name that was begun stays begun
pub names_stay : {Op : Type 0} (c : Config Op) (s : Step Op) (t : Name) → In t c.names → In t (then c s).names
names_stay c (Begin u p b) t i = inr i
names_stay c (App u id op) t i = i
names_stay c (Unapp u id) t i = i
names_stay {Op} c (Push u id) t i = by (entry_of id Unpushed (tx u c.opened))
  where
    by : (e : Option (LocalEntry Op)) → In t (push_effect c u id e).names
    by None = i
    by (Some e) = i
names_stay c (Unpush u id) t i = i
names_stay {Op} c (Pull u id) t i = by (of_other u id c.shared)
  where
    by : (g : Option (SharedEntry Op)) → In t (pull_effect c u id g).names
    by None = i
    by (Some g) = i
names_stay c (Unpull u id) t i = i
names_stay {Op} c (Cmt u) t i = by (tx u c.opened)
  where
    by : (x : Option (Tx Op)) → In t (commit_effect c u x).names
    by None = i
    by (Some x) = i
names_stay c (Quit u) t i = i
names_stay c (Note u) t i = i

-- a transaction with the name and thread of x is among xs
abbrev WasOpen : {Op : Type 0} → List (Tx Op) → Tx Op → Type 0
WasOpen {Op} xs x = (y : Tx Op) × In y xs × (x.name ≡ y.name) × (x.thread ≡ y.thread)

was_open_on_log : {Op : Type 0} (t : Name) (f : List (LocalEntry Op) → List (LocalEntry Op)) (xs : List (Tx Op)) (x : Tx Op) → In x (on_log t f xs) → WasOpen xs x
was_open_on_log {Op} t f xs x i =
    let m = from_map (λ (w : Tx Op). cond (w.name =ⁿ t) (relog f w) w) x xs i in
    let y : Tx Op = m.0 in
    let both = sides (y.name =ⁿ t) y in
    (y, m.1, ap (λ (w : Tx Op). w.name) m.2 ∙ both.0, ap (λ (w : Tx Op). w.thread) m.2 ∙ both.1)
  where
    sides : (b : Bool) (y : Tx Op) → ((cond b (relog f y) y).name ≡ y.name) × ((cond b (relog f y) y).thread ≡ y.thread)
    sides true y = (refl, refl)
    sides false y = (refl, refl)

was_open_without : {Op : Type 0} (t : Name) (xs : List (Tx Op)) (x : Tx Op) → In x (without_tx t xs) → WasOpen xs x
was_open_without {Op} t xs x i = (x, (from_filter (λ (w : Tx Op). not (w.name =ⁿ t)) x xs i).0, refl, refl)

-- a transaction that is open after a step was open before it, or the step is its BEGIN
pub open_before : {Op : Type 0} (c : Config Op) (s : Step Op) (x : Tx Op) → In x (then c s).opened → WasOpen c.opened x ⊎ ((b : Option Tree) × (s ≡ Begin x.name x.thread b))
open_before {Op} c (Begin t p b) x i = elim (in_cases x c.opened (record { name = t; thread = p; body = b; local = [] } ∷ []) i) [
  | inl j ↦ inl (x, j, refl, refl)
  | inr (inl e) ↦ inr (b, ap (λ (w : Tx Op). Begin w.name w.thread b) (sym e))
  | inr (inr j) ↦ absurd j
]
open_before c (App t id op) x i = inl (was_open_on_log t _ c.opened x i)
open_before c (Unapp t id) x i = inl (was_open_on_log t _ c.opened x i)
open_before {Op} c (Push t id) x i = inl (by (entry_of id Unpushed (tx t c.opened)) i)
  where
    by : (e : Option (LocalEntry Op)) → In x (push_effect c t id e).opened → WasOpen c.opened x
    by None j = (x, j, refl, refl)
    by (Some e) j = was_open_on_log t _ c.opened x j
open_before c (Unpush t id) x i = inl (was_open_on_log t _ c.opened x i)
open_before {Op} c (Pull t id) x i = inl (by (of_other t id c.shared) i)
  where
    by : (g : Option (SharedEntry Op)) → In x (pull_effect c t id g).opened → WasOpen c.opened x
    by None j = (x, j, refl, refl)
    by (Some g) j = was_open_on_log t _ c.opened x j
open_before c (Unpull t id) x i = inl (was_open_on_log t _ c.opened x i)
open_before {Op} c (Cmt t) x i = inl (by (tx t c.opened) i)
  where
    by : (z : Option (Tx Op)) → In x (commit_effect c t z).opened → WasOpen c.opened x
    by None j = (x, j, refl, refl)
    by (Some z) j = was_open_without t c.opened x j
open_before c (Quit t) x i = inl (was_open_without t c.opened x i)
open_before c (Note t) x i = inl (x, i, refl, refl)
