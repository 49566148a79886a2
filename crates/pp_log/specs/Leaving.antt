-- Meaning: entries that may leave a log together.
use Rattle.std.specs.Prelude.{◌≡◌, false, not, List, filter}
use Rattle.pp_core.specs.declared.entry.Item.{Item}
use Rattle.pp_model.specs.Lists.{Before, In}
use Rattle.pp_model.specs.Serial.{has_id}
use Rattle.pp_kind.specs.Object.{Object, Swaps}
use Rattle.pp_log.specs.Room.{ids_of}

-- The items are in the log in their order, and the entries of others after each may move past it.
pub record MayLeave {Shape State Op Undo : Type 0} (o : Object Shape State Op Undo)
    (own log : List (Item Op)) : Type 0 where
  pub stand : (p : Item Op) → In p own → In p log
  pub order : (p q : Item Op) → Before p q own → Before p q log
  pub pass : (p q : Item Op) → In p own → Before p q log → has_id q.id (ids_of own) ≡ false →
      Swaps o p.op q.op

-- The entries that are none of some items, which are in their order.
abbrev pub without_items : {Op E : Type 0} → (E → Item Op) → List (Item Op) → List E → List E
without_items item_of own log = filter (λ e. not (has_id (item_of e).id (ids_of own))) log
