-- Meaning: after how many committed transactions the results of a peak are what the object returns.
use Rattle.std.specs.Prelude.{◌≡◌, ◌<◌, ◌+◌, ℕ, IsTrue, List, [], ◌∷◌, ◌++◌, length, take}
use Rattle.std.specs.Prelude.{Option, None, Some}
use Rattle.pp_model.specs.Config.{CommittedTx}
use Rattle.pp_model.specs.Lists.{Each}
use Rattle.pp_model.specs.Object as model
use Rattle.pp_model.specs.Object.{Allowed, Item, ops}
use Rattle.pp_model.specs.Sound.{serial_ops}
use Rattle.pp_kind.specs.Object.{Object, AllRanged}
use Rattle.pp_attempts.specs.Peaks.{Peak}
pub use Rattle.pp_attempts.specs.declared.view.View.{View}

-- It is the least of the numbers below m of which P is true, and none if P is true of none of them.
abbrev pub IsLeastBelow : ℕ → (ℕ → Type 0) → Option ℕ → Type 0
IsLeastBelow m P None = (n : ℕ) → n < m → P n → ⊥
IsLeastBelow m P (Some n) = (n < m) × P n × ((k : ℕ) → k < n → P k → ⊥)

-- The first n committed transactions, joined and followed by these operations, are allowed.
abbrev pub Explains : {Op State : Type 0} → model.Object Op State → List (CommittedTx Op)
    → List (Item Op) → ℕ → Type 0
Explains O committed items n = Allowed O (serial_ops (take n committed) ++ ops items)

-- It reports the peak's transaction, how many operations the peak has, and the least number below m
-- that explains them.
pub record IsViewBelow {Op State : Type 0} (m : ℕ) (O : model.Object Op State)
    (committed : List (CommittedTx Op)) (p : Peak Op) (v : View) : Type 0 where
  pub tx : v.tx ≡ p.tx
  pub ops : v.ops ≡ length p.ops
  pub after : IsLeastBelow m (Explains O committed p.ops) v.after

-- each element of the one list with that at its place of the other, and both are as long
abbrev pub Pairwise : {A B : Type 0} → (A → B → Type 0) → List A → List B → Type 0
Pairwise R [] [] = Unit {0}
Pairwise R [] (y ∷ ys) = ⊥
Pairwise R (x ∷ xs) [] = ⊥
Pairwise R (x ∷ xs) (y ∷ ys) = R x y × Pairwise R xs ys

-- These are the views of the peaks: the least number, from 0 to that of the committed transactions.
abbrev pub AreViews : {Op State : Type 0} → model.Object Op State → List (CommittedTx Op)
    → List (Peak Op) → List View → Type 0
AreViews O committed ps vs = Pairwise (IsViewBelow (length committed + 1) O committed) ps vs

-- The conditions on the operations of a peak, with this many before them: they are of this shape
-- and ranged, and all together are fewer than a million.
pub record MayBeTried {Shape State Op Undo : Type 0} (o : Object Shape State Op Undo)
    (shape : Shape) (before : ℕ) (items : List (Item Op)) : Type 0 where
  pub fit : Each (λ op. IsTrue (o.fits shape op)) (ops items)
  pub ranged : AllRanged o (ops items)
  pub few : before + length items < 1_000_000
