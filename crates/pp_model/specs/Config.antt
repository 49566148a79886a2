-- Meaning: a configuration of the machine, and the steps.
use Rattle.std.specs.Prelude.{ℕ, ◌==◌, Bool, true, false, cond, not, ◌&&◌, List, [], ◌∷◌, ◌++◌, map}
use Rattle.std.specs.Prelude.{filter, find, Option, None, Some}
use Rattle.pp_model.specs.Body.{Tree}
use Rattle.pp_model.specs.Names.{Name, ◌=ⁿ◌}
pub use Rattle.pp_core.specs.declared.entry.Mark.{Mark}
pub use Rattle.pp_core.specs.declared.entry.Mark.TheVariants.{Unpushed, Pushed, Pulled}
pub use Rattle.pp_core.specs.declared.entry.LocalEntry.{LocalEntry}
pub use Rattle.pp_core.specs.declared.entry.SharedEntry.{SharedEntry}
pub use Rattle.pp_core.specs.declared.entry.CommittedTx.{CommittedTx}
pub use Rattle.pp_core.specs.Steps.{Step, Begin, App, Unapp, Push, Unpush, Pull, Unpull, Cmt, Quit}
pub use Rattle.pp_core.specs.Steps.{Note}
use Rattle.pp_model.specs.Object.{Item}

-- entries with this mark are the transaction's own
abbrev pub is_own : Mark → Bool
is_own Unpushed = true
is_own Pushed = true
is_own Pulled = false

-- An open transaction.
pub record Tx (Op : Type 0) : Type 0 where
  pub name : Name
  pub thread : Name
  pub body : Option Tree
  pub local : List (LocalEntry Op)

-- A configuration of the machine.
pub record Config (Op : Type 0) : Type 0 where
  -- begun so far
  pub names : List Name
  -- applied so far
  pub ids : List ℕ
  pub opened : List (Tx Op)
  pub shared : List (SharedEntry Op)
  -- in commit order
  pub done : List (CommittedTx Op)

-- The start of a header: the transaction that is committed before the first step, if there is one.
pub record Start (Op : Type 0) : Type 0 where
  pub tx : Name
  pub items : List (Item Op)

-- The start of this transaction with these items.
abbrev pub start_with : {Op : Type 0} → Name → List (Item Op) → Start Op
start_with tx items = record { tx = tx; items = items }

-- the id and the operation of an entry of a local log
abbrev pub item : {Op : Type 0} → LocalEntry Op → Item Op
item e = record { id = e.id; op = e.op }

-- the id and the operation of an entry of the shared log
abbrev pub shared_item : {Op : Type 0} → SharedEntry Op → Item Op
shared_item g = record { id = g.id; op = g.op }

-- the own entries of a local log
abbrev pub own : {Op : Type 0} → List (LocalEntry Op) → List (LocalEntry Op)
own l = filter (λ e. is_own e.mark) l

-- the items of the own entries of a local log
abbrev pub own_items : {Op : Type 0} → List (LocalEntry Op) → List (Item Op)
own_items l = map item (own l)

-- the operations of a local log
abbrev pub local_ops : {Op : Type 0} → List (LocalEntry Op) → List Op
local_ops l = map (λ e. e.op) l

-- the operations of a shared log
abbrev pub shared_ops : {Op : Type 0} → List (SharedEntry Op) → List Op
shared_ops l = map (λ g. g.op) l

-- the item p of t, as it is in the shared log
abbrev pub as_shared : {Op : Type 0} → Name → Bool → Item Op → SharedEntry Op
as_shared t b p = record { id = p.id; owner = t; committed = b; op = p.op }

-- the entry of a local log that t's APP adds
abbrev pub as_applied : {Op : Type 0} → Name → ℕ → Op → LocalEntry Op
as_applied t id op = record { id = id; owner = t; mark = Unpushed; op = op }

-- the entry of a local log that a PULL of g adds
abbrev pub as_pulled : {Op : Type 0} → SharedEntry Op → LocalEntry Op
as_pulled g = record { id = g.id; owner = g.owner; mark = Pulled; op = g.op }

-- the open transaction of this name
abbrev pub tx : {Op : Type 0} → Name → List (Tx Op) → Option (Tx Op)
tx t xs = find (λ x. x.name =ⁿ t) xs

-- f at the transaction t, and all others as they were
abbrev pub on : {Op : Type 0} → Name → (Tx Op → Tx Op) → List (Tx Op) → List (Tx Op)
on t f xs = map (λ x. cond (x.name =ⁿ t) (f x) x) xs

-- the transaction with f at its local log
abbrev pub relog : {Op : Type 0} → (List (LocalEntry Op) → List (LocalEntry Op)) → Tx Op → Tx Op
relog f x = record { name = x.name; thread = x.thread; body = x.body; local = f x.local }

-- f at the local log of t
abbrev pub on_log : {Op : Type 0} → Name → (List (LocalEntry Op) → List (LocalEntry Op)) →
    List (Tx Op) → List (Tx Op)
on_log t f xs = on t (relog f) xs

-- the transactions other than t
abbrev pub without_tx : {Op : Type 0} → Name → List (Tx Op) → List (Tx Op)
without_tx t xs = filter (λ x. not (x.name =ⁿ t)) xs

-- the local log with this mark at the entry of this id
abbrev pub set_mark : {Op : Type 0} → ℕ → Mark → List (LocalEntry Op) → List (LocalEntry Op)
set_mark id m l = map (λ e. cond (e.id == id) (record e { mark = m }) e) l

-- the local log without the entry of this id
abbrev pub without_local : {Op : Type 0} → ℕ → List (LocalEntry Op) → List (LocalEntry Op)
without_local id l = filter (λ e. not (e.id == id)) l

-- the shared log without the entry of this id
abbrev pub without_shared : {Op : Type 0} → ℕ → List (SharedEntry Op) → List (SharedEntry Op)
without_shared id l = filter (λ g. not (g.id == id)) l

-- the shared log with all entries of t committed
abbrev pub commit_all : {Op : Type 0} → Name → List (SharedEntry Op) → List (SharedEntry Op)
commit_all t l = map (λ g. cond (g.owner =ⁿ t) (record g { committed = true }) g) l

-- the uncommitted entries of a shared log
abbrev pub uncommitted : {Op : Type 0} → List (SharedEntry Op) → List (SharedEntry Op)
uncommitted l = filter (λ g. not g.committed) l

-- the committed entries of a shared log
abbrev pub only_committed : {Op : Type 0} → List (SharedEntry Op) → List (SharedEntry Op)
only_committed l = filter (λ g. g.committed) l

-- a list without its last element
abbrev pub but_last : {A : Type 0} → List A → List A
but_last [] = []
but_last (x ∷ []) = []
but_last (x ∷ y ∷ l) = x ∷ but_last (y ∷ l)

-- the last element of a list
abbrev pub last : {A : Type 0} → List A → Option A
last [] = None
last (x ∷ []) = Some x
last (x ∷ y ∷ l) = last (y ∷ l)

-- two marks are one
abbrev pub is_mark : Mark → Mark → Bool
is_mark Unpushed Unpushed = true
is_mark Unpushed Pushed = false
is_mark Unpushed Pulled = false
is_mark Pushed Unpushed = false
is_mark Pushed Pushed = true
is_mark Pushed Pulled = false
is_mark Pulled Unpushed = false
is_mark Pulled Pushed = false
is_mark Pulled Pulled = true

-- the entry of this id and mark in a local log
abbrev pub at_mark : {Op : Type 0} → ℕ → Mark → List (LocalEntry Op) → Option (LocalEntry Op)
at_mark id m l = find (λ e. (e.id == id) && is_mark e.mark m) l

-- the entry of this id in G that another transaction owns
abbrev pub of_other : {Op : Type 0} → Name → ℕ → List (SharedEntry Op) → Option (SharedEntry Op)
of_other t id l = find (λ g. (g.id == id) && not (g.owner =ⁿ t)) l

-- the configuration before the first step
abbrev pub first : {Op : Type 0} → Option (Start Op) → Config Op
first None = record { names = []; ids = []; opened = []; shared = []; done = [] }
first (Some z) =
    record {
      names = z.tx ∷ [];
      ids = map (λ p. p.id) z.items;
      opened = [];
      shared = map (as_shared z.tx true) z.items;
      done = record { name = z.tx; entries = z.items } ∷ [];
    }

-- the effect of a PUSH of the entry that it finds; none if it finds none
abbrev pub push_effect : {Op : Type 0} → Config Op → Name → ℕ → Option (LocalEntry Op) → Config Op
push_effect c t id None = c
push_effect c t id (Some e) =
    record c {
      opened = on_log t (set_mark id Pushed) c.opened;
      shared = c.shared ++ as_shared t false (item e) ∷ [];
    }

-- the effect of a PULL of the entry that it finds; none if it finds none
abbrev pub pull_effect : {Op : Type 0} → Config Op → Name → ℕ → Option (SharedEntry Op) → Config Op
pull_effect c t id None = c
pull_effect c t id (Some g) = record c { opened = on_log t (λ l. l ++ as_pulled g ∷ []) c.opened }

-- the effect of a CMT of the transaction that it finds; none if it finds none
abbrev pub commit_effect : {Op : Type 0} → Config Op → Name → Option (Tx Op) → Config Op
commit_effect c t None = c
commit_effect c t (Some x) =
    record c {
      opened = without_tx t c.opened;
      shared = commit_all t c.shared;
      done = c.done ++ record { name = t; entries = own_items x.local } ∷ [];
    }

-- the entry of this id and mark of a transaction
abbrev pub entry_of : {Op : Type 0} → ℕ → Mark → Option (Tx Op) → Option (LocalEntry Op)
entry_of id m None = None
entry_of id m (Some x) = at_mark id m x.local

-- the effect of a step
abbrev pub then : {Op : Type 0} → Config Op → Step Op → Config Op
then c (Begin t p b) =
    record c {
      names = t ∷ c.names;
      opened = c.opened ++ record { name = t; thread = p; body = b; local = [] } ∷ [];
    }
then c (App t id op) =
    record c { ids = id ∷ c.ids; opened = on_log t (λ l. l ++ as_applied t id op ∷ []) c.opened }
then c (Unapp t id) = record c { opened = on_log t but_last c.opened }
then c (Push t id) = push_effect c t id (entry_of id Unpushed (tx t c.opened))
then c (Unpush t id) =
    record c {
      opened = on_log t (set_mark id Unpushed) c.opened;
      shared = without_shared id c.shared;
    }
then c (Pull t id) = pull_effect c t id (of_other t id c.shared)
then c (Unpull t id) = record c { opened = on_log t (without_local id) c.opened }
then c (Cmt t) = commit_effect c t (tx t c.opened)
then c (Quit t) = record c { opened = without_tx t c.opened }
then c (Note t) = c

-- the configuration after these steps, from one on and from the first
abbrev pub after_from : {Op : Type 0} → Config Op → List (Step Op) → Config Op
after_from c [] = c
after_from c (s ∷ ss) = after_from (then c s) ss

-- the configuration after the steps of a run
abbrev pub after : {Op : Type 0} → Option (Start Op) → List (Step Op) → Config Op
after h steps = after_from (first h) steps
