-- Meaning: which entries of a local log an operation may not change places with.
use Rattle.std.specs.Prelude.{◌&&◌, Bool, is_some}
use Rattle.pp_core.specs.declared.entry.LocalEntry.{LocalEntry}
use Rattle.pp_model.specs.Config.{Unpushed, Pushed, is_mark, is_own}
use Rattle.pp_kind.specs.Object.{Object}

module _ {Shape State Op Undo : Type 0} (o : Object Shape State Op Undo) where
  -- whether this is an own unpushed entry that the operation may not come before
  abbrev pub holds_back : Op → LocalEntry Op → Bool
  holds_back op a = is_mark a.mark Unpushed && is_some (o.refuting op a.op)

  -- whether it is an own pushed entry that may not come before the operation
  abbrev pub stays_behind : Op → LocalEntry Op → Bool
  stays_behind op b = is_mark b.mark Pushed && is_some (o.refuting b.op op)

  -- whether it is an own entry that may not come after the operation
  abbrev pub stands_first : Op → LocalEntry Op → Bool
  stands_first op a = is_own a.mark && is_some (o.refuting a.op op)
