-- Proof machinery: what contracts see of the transactions of a run.
use Rattle.std.specs.Prelude.{◌≡◌, ◌≢◌, ◌+◌, true, ℕ, Bool, not, cond, List, [], ◌∷◌, ◌++◌}
use Rattle.std.specs.Prelude.{map, filter, find, Option, None, Some, length, IsTrue, ◌<◌, ◌==◌}
use Rattle.std.specs.Prelude.{position, slice_get}
use Rattle.std.specs.List.{list_any}
use Rattle.pp_core.specs.Trees.{Tree}
use Rattle.pp_core.specs.declared.entry.LocalEntry.{LocalEntry}
use Rattle.pp_core.specs.declared.entry.Mark.TheVariants.{Pulled}
use Rattle.pp_model.specs.Config.{is_own, local_ops}
use Rattle.pp_model.specs.Lists.{Before}
use Rattle.pp_model.specs.Names.{Name, ◌=ⁿ◌}
use Rattle.pp_kind.specs.declared.range.TheConstants.{MOST_OPERATIONS}
use Rattle.pp_kind.specs.Object.{Object, IsAllowed}
use Rattle.pp_machine.specs.Courses.{Guided}

-- An open transaction, with its local log and the log's shape.
pub record Open (Shape Op : Type 0) : Type 0 where
  pub name : Name
  pub thread : Name
  pub body : Option Tree
  pub local : Shape × List (LocalEntry Op)

-- The names begun, in their order, and the open transactions.
pub record Txs (Shape Op : Type 0) : Type 0 where
  pub names : List Name
  pub opened : List (Open Shape Op)

-- the open transaction of this name
abbrev pub open_at : {Shape Op : Type 0} → Name → List (Open Shape Op) → Option (Open Shape Op)
open_at t l = find (λ x. x.name =ⁿ t) l

-- its body, and its local log
abbrev pub course_of : {Shape Op : Type 0} → Open Shape Op → Guided Shape Op
course_of x = record { body = x.body; local = x.local }

-- whether the name was begun
abbrev pub is_begun : {Shape Op : Type 0} → Txs Shape Op → Name → Bool
is_begun v t = list_any (λ n. n =ⁿ t) v.names

-- the threads of these transactions
abbrev pub threads_of : {Shape Op : Type 0} → List (Open Shape Op) → List Name
threads_of l = map (λ x. x.thread) l

-- whether an open transaction has this thread
abbrev pub is_busy : {Shape Op : Type 0} → Txs Shape Op → Name → Bool
is_busy v p = list_any (λ q. q =ⁿ p) (threads_of v.opened)

-- with this course of the open transaction t
abbrev pub recoursed : {Shape Op : Type 0} → Guided Shape Op → Open Shape Op → Open Shape Op
recoursed k x = record { name = x.name; thread = x.thread; body = k.body; local = k.local }

-- the transactions with this course of t
abbrev pub with_course : {Shape Op : Type 0} → Name → Guided Shape Op → Txs Shape Op → Txs Shape Op
with_course t k v =
    record { names = v.names; opened = map (λ x. cond (x.name =ⁿ t) (recoursed k x) x) v.opened }

-- with one more transaction at the end
abbrev pub with_open : {Shape Op : Type 0} → Open Shape Op → Txs Shape Op → Txs Shape Op
with_open x v = record { names = v.names ++ x.name ∷ []; opened = v.opened ++ x ∷ [] }

-- with the transaction t no longer open
abbrev pub without_open : {Shape Op : Type 0} → Name → Txs Shape Op → Txs Shape Op
without_open t v = record { names = v.names; opened = filter (λ x. not (x.name =ⁿ t)) v.opened }

-- the transactions in the slots, of which each has a name, and whether it is open
abbrev pub filled : {A B : Type 0} → (Name → A → B) → List (Name × Option A) → List B
filled f [] = []
filled f ((n, None) ∷ es) = filled f es
filled f ((n, Some x) ∷ es) = f n x ∷ filled f es

-- an open transaction of these parts
abbrev pub open_of : {Shape Op : Type 0} → Name → Name → Option Tree →
    Shape × List (LocalEntry Op) → Open Shape Op
open_of n p b l = record { name = n; thread = p; body = b; local = l }

-- The invariant of the transactions: distinct names, and the set of the busy threads, which are
-- distinct too.
pub record Kept (names threads busy : List Name) : Type 0 where
  pub names_apart : (s t : Name) → Before s t names → s ≢ t
  pub busy_apart : (p q : Name) → Before p q busy → p ≢ q
  pub threads_are : (p : Name) → list_any (λ q. p =ⁿ q) threads ≡ list_any (λ q. q =ⁿ p) busy

-- The local log takes the entry at its end.
pub record Takes {Shape State Op Undo : Type 0} (o : Object Shape State Op Undo)
    (log : Shape × List (LocalEntry Op)) (entry : LocalEntry Op) : Type 0 where
  pub allowed : IsAllowed o log.0 (local_ops log.1 ++ entry.op ∷ [])
  pub ranged : IsTrue (o.ranged entry.op)
  pub new : position (λ e. e.id == entry.id) log.1 ≡ None
  pub few : length log.1 < MOST_OPERATIONS

-- At this position of the local log is an own entry.
pub record HasOwn {Op : Type 0} (log : List (LocalEntry Op)) (i : ℕ) : Type 0 where
  pub within : i < length log
  pub entry : LocalEntry Op
  pub here : slice_get log i ≡ Some entry
  pub own : entry.mark ≢ Pulled

-- The entry at this position of a local log may be taken out: it is pulled, or the last.
pub record MayLeave {Op : Type 0} (log : List (LocalEntry Op)) (i : ℕ) : Type 0 where
  pub within : i < length log
  pub entry : LocalEntry Op
  pub here : slice_get log i ≡ Some entry
  pub own_last : is_own entry.mark ≡ true → i + 1 ≡ length log
