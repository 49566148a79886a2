-- Proof machinery: an open transaction that commits, aborts, or begins anew.
use Rattle.std.specs.Prelude.{◌≡◌, ◌+◌, ◌<◌, ◌^◌, cond, false, List, [], ◌∷◌, ◌++◌, None, Some}
use Rattle.std.specs.List.{list_any}
use Rattle.std.specs.Map.{set_value}
use Rattle.pp_core.specs.declared.entry.Item.{Item}
use Rattle.pp_model.specs.Names.{Name, ◌=ⁿ◌}
use Rattle.pp_summary.specs.Shown.{open_in}
use Rattle.pp_summary.specs.declared.parts.OpenTx.{OpenTx}
use Rattle.pp_snapshots.specs.Shown.{Kept}

module _ {Shape State Op Undo : Type 0} where
  -- the transaction is open
  pub record IsOpenNow (v : Kept Shape State Op Undo) (t : Name) : Type 0 where
    pub it : OpenTx (List (Item Op))
    pub found : open_in t v.slots.entries ≡ Some it
    pub few : v.count < 2 ^ 32

  -- what it is that its operations are committed
  pub record Settles (v : Kept Shape State Op Undo) (t : Name) (w : Kept Shape State Op Undo) :
      Type 0 where
    pub it : OpenTx (List (Item Op))
    pub found : open_in t v.slots.entries ≡ Some it
    pub slots : w.slots.entries ≡ set_value (λ m. t =ⁿ m) v.slots.entries None
    pub busy : (q : Name) → list_any (λ z. q =ⁿ z) w.threads.keys
        ≡ cond (it.thread =ⁿ q) false (list_any (λ z. q =ⁿ z) v.threads.keys)
    pub committed : w.committed ≡ v.committed ++ record { name = t; entries = it.own } ∷ []
    pub ids : w.ids ≡ v.ids
    pub shape : w.shape ≡ v.shape
    pub past : w.past ≡ v.past
    pub by_part : w.by_part ≡ v.by_part
    pub count : w.count ≡ v.count + 1
