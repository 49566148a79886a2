-- Meaning: what a step costs: how many operations it applies or takes back.
use Rattle.std.specs.Prelude.{◌≡◌, ◌≤◌, ◌==◌, ◌+◌, ◌*◌, ◌-◌, ℕ, cond, List, [], ◌∷◌, map, filter}
use Rattle.std.specs.Prelude.{length, Option, None, Some, Result, Ok, Err}
use Rattle.pp_core.specs.Steps.{Step, Begin, App, Unapp, Push, Unpush, Pull, Unpull, Cmt, Quit}
use Rattle.pp_core.specs.Steps.{Note}
use Rattle.pp_core.specs.declared.entry.Item.{Item}
use Rattle.pp_model.specs.Config.{Config, Tx, item, shared_item, tx}
use Rattle.pp_machine.specs.declared.machine.Outcome.{Outcome}
use Rattle.pp_machine.specs.declared.machine.Outcome.TheVariants.{Done, False}
use Rattle.pp_machine.specs.Machines.{Seen}

-- How many items, from the one of this id to the end and itself counted, have its place. It is 1 if
-- there is no such item.
abbrev pub from_id : {Op : Type 0} → (Op → ℕ) → ℕ → List (Item Op) → ℕ
from_id place id [] = 1
from_id place id (p ∷ ps) =
    cond (p.id == id) (length (filter (λ q. place q.op == place p.op) (p ∷ ps)))
    (from_id place id ps)

-- the local log of the transaction, and the empty one if it is not open
abbrev pub log_items : {Op : Type 0} → Option (Tx Op) → List (Item Op)
log_items None = []
log_items (Some x) = map item x.local

-- The most ticks of a step, whatever it returns. A removal may also take back what it applied, and
-- apply all as they were.
abbrev pub at_most : {Op : Type 0} → (Op → ℕ) → Config Op → Step Op → ℕ
at_most place c (Begin t p b) = 0
at_most place c (App t id op) = 1
at_most place c (Unapp t id) = 1
at_most place c (Push t id) = 1
at_most place c (Unpush t id) = 4 * from_id place id (map shared_item c.shared) - 3
at_most place c (Pull t id) = 1
at_most place c (Unpull t id) = 4 * from_id place id (log_items (tx t c.opened)) - 3
at_most place c (Cmt t) = 0
at_most place c (Quit t) = 0
at_most place c (Note t) = 0

-- The ticks of a step that is not done: none, except for UNPUSH and UNPULL, which have a bound. No
-- tick is taken back.
abbrev pub CostsInVain : {Op : Type 0} → (Op → ℕ) → Config Op → Step Op → ℕ → ℕ → Type 0
CostsInVain place c (Begin t p b) old new = new ≡ old
CostsInVain place c (App t id op) old new = new ≡ old
CostsInVain place c (Unapp t id) old new = new ≡ old
CostsInVain place c (Push t id) old new = new ≡ old
CostsInVain place c (Unpush t id) old new =
    (old ≤ new) × (new ≤ old + at_most place c (Unpush t id))
CostsInVain place c (Pull t id) old new = new ≡ old
CostsInVain place c (Unpull t id) old new =
    (old ≤ new) × (new ≤ old + at_most place c (Unpull t id))
CostsInVain place c (Cmt t) old new = new ≡ old
CostsInVain place c (Quit t) old new = new ≡ old
CostsInVain place c (Note t) old new = new ≡ old

-- The ticks of a step that is done: exactly, except for UNPUSH and UNPULL, which have a bound. A
-- removal takes back the operations of its place from the entry on, and applies all but that one
-- again, or it takes that one back alone.
abbrev pub CostsDone : {Op : Type 0} → (Op → ℕ) → Config Op → Step Op → ℕ → ℕ → Type 0
CostsDone place c (Begin t p b) old new = new ≡ old
CostsDone place c (App t id op) old new = new ≡ old + 1
CostsDone place c (Unapp t id) old new = new ≡ old + 1
CostsDone place c (Push t id) old new = new ≡ old + 1
CostsDone place c (Unpush t id) old new =
    (old ≤ new) × (new ≤ old + (2 * from_id place id (map shared_item c.shared) - 1))
CostsDone place c (Pull t id) old new = new ≡ old + 1
CostsDone place c (Unpull t id) old new =
    (old ≤ new) × (new ≤ old + (2 * from_id place id (log_items (tx t c.opened)) - 1))
CostsDone place c (Cmt t) old new = new ≡ old
CostsDone place c (Quit t) old new = new ≡ old
CostsDone place c (Note t) old new = new ≡ old

-- The ticks of a step by its outcome.
abbrev pub CostsBy : {Op : Type 0} → (Op → ℕ) → Config Op → Step Op → Outcome Op → ℕ →
    ℕ → Type 0
CostsBy place c step Done old new = CostsDone place c step old new
CostsBy place c step (False n detail) old new = CostsInVain place c step old new

-- The ticks of a step by its result.
abbrev pub Costs : {Shape Op A E : Type 0} → (Op → ℕ) → Seen Shape Op → Step Op →
    Result (A × Outcome Op) E → ℕ → ℕ → Type 0
Costs place v step (Ok r) old new = CostsBy place v.config step r.1 old new
Costs place v step (Err e) old new = new ≤ old + at_most place v.config step
