-- Conditions under which an accepted run is opaque.
use Rattle.std.specs.Prelude.{◌≡◌, ◌≤◌, ℕ, true, not, List, [], ◌∷◌, ◌++◌, filter, length, map}
use Rattle.std.specs.Prelude.{Option, take}
use Rattle.pp_model.specs.Config.{App, LocalEntry, Push, Pushed, Start, Step, Tx, Unapp}
use Rattle.pp_model.specs.Config.{Unpush, after, first, is_own, item}
use Rattle.pp_model.specs.Lists.{In, joined}
use Rattle.pp_model.specs.Names.{Name}
use Rattle.pp_model.specs.Object.{Item, Object, Reorders}
use Rattle.pp_model.specs.Rules.{RunsFrom, StartMeets}
use Rattle.pp_model.specs.Serial.{attempts}
use Rattle.pp_laws_opacity.specs.Opacity.{Began, IsOpaque, IsPrefix, Sees}

-- Each own entry of t is pushed after these steps.
abbrev pub HasPushed : {Op : Type 0} → Option (Start Op) → List (Step Op) → Name → Type 0
HasPushed {Op} h past t =
    (x : Tx Op) → In x (after h past).opened → x.name ≡ t → (e : LocalEntry Op) →
    In e x.local → is_own e.mark ≡ true → e.mark ≡ Pushed

-- Each APP is followed at once by its PUSH, and each UNPUSH by its UNAPP.
pub record PushesAtOnce {Op : Type 0} (ss : List (Step Op)) : Type 0 where
  pub app : (past rest : List (Step Op)) (t : Name) (id : ℕ) (op : Op) →
      ss ≡ past ++ App t id op ∷ rest → (more : List (Step Op)) × (rest ≡ Push t id ∷ more)
  pub unpush : (past rest : List (Step Op)) (t : Name) (id : ℕ) →
      ss ≡ past ++ Unpush t id ∷ rest → (more : List (Step Op)) × (rest ≡ Unapp t id ∷ more)

-- the pulled entries of a local log, in their order
abbrev pub pulled_items : {Op : Type 0} → List (LocalEntry Op) → List (Item Op)
pulled_items l = map item (filter (λ e. not (is_own e.mark)) l)

module _ {Op State : Type 0} (O : Object Op State) where
  -- An open transaction that has pushed all its own entries sees what all committed ones left.
  abbrev pub PushedLaw : Type 0
  PushedLaw =
      (h : Option (Start Op)) (ss : List (Step Op)) (t : Name) → StartMeets O h →
      RunsFrom O (first h) ss → (x : Tx Op) → In x (after h ss).opened → x.name ≡ t →
      HasPushed h ss t → Sees O h ss t (length (attempts h ss))

  -- So an accepted run is opaque if a PUSH follows each APP at once, and an UNAPP each UNPUSH. What
  -- its transactions pull does not matter.
  abbrev pub EagerLaw : Type 0
  EagerLaw =
      (h : Option (Start Op)) (ss : List (Step Op)) → StartMeets O h → RunsFrom O (first h) ss →
      PushesAtOnce ss → IsOpaque O h ss

  -- All entries that t has pulled are those of the first n committed transactions, up to the order
  -- of operations that swap. At least n transactions have committed, and at most n had committed
  -- when t's attempt began.
  pub record HasSnapshot (h : Option (Start Op)) (past : List (Step Op)) (t : Name) : Type 0 where
    pub x : Tx Op
    pub opened : In x (after h past).opened
    pub name : x.name ≡ t
    pub early : List (Step Op)
    pub began : Began t early past
    pub n : ℕ
    pub least : length (attempts h early) ≤ n
    pub most : n ≤ length (attempts h past)
    pub same : Reorders O (pulled_items x.local)
        (joined (map (λ a. a.items) (take n (attempts h past))))

  -- Right after each APP its transaction has such a snapshot.
  abbrev pub HasSnapshots : Option (Start Op) → List (Step Op) → Type 0
  HasSnapshots h ss =
      (past : List (Step Op)) (t : Name) (id : ℕ) (op : Op) →
      IsPrefix (past ++ App t id op ∷ []) ss → HasSnapshot h (past ++ App t id op ∷ []) t

  -- An accepted run with snapshots is opaque.
  abbrev pub SnapshotLaw : Type 0
  SnapshotLaw =
      (h : Option (Start Op)) (ss : List (Step Op)) → StartMeets O h → RunsFrom O (first h) ss →
      HasSnapshots h ss → IsOpaque O h ss
