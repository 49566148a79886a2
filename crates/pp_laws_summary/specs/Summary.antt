-- Meaning: the summary of a boosted, an optimistic or a hardware run. It has no local logs, and it
-- decides whether the next record is good.
use Rattle.std.specs.Prelude.{◌≡◌, ◌≢◌, ℕ, zero, ◌==◌, Bool, true, false, not, ◌&&◌, ◌||◌, cond}
use Rattle.std.specs.Prelude.{List, [], ◌∷◌, ◌++◌, map, filter, find, take, drop, length, slice_get}
use Rattle.std.specs.Prelude.{Option, None, Some}
use Rattle.std.specs.List.{list_any}
use Rattle.pp_core.specs.declared.call.Kind.{Kind}
use Rattle.pp_core.specs.declared.call.Style.{Style}
use Rattle.pp_core.specs.declared.call.Style.TheVariants.{Rules, Boosted, Optimistic, Hardware}
use Rattle.pp_core.specs.declared.call.Style.TheVariants.{Dependent}
use Rattle.pp_model.specs.Body.{Begins, IsWord, Tree}
use Rattle.pp_model.specs.Config.{App, Begin, Cmt, CommittedTx, LocalEntry, Note, Pull, Push}
use Rattle.pp_model.specs.Config.{Pushed, Quit, SharedEntry, Step, Tx, Unapp, Unpull, Unpush}
use Rattle.pp_model.specs.Config.{Unpushed}
use Rattle.pp_model.specs.Config.{commit_all, is_own, item, local_ops, own, shared_ops}
use Rattle.pp_model.specs.Lists.{In}
use Rattle.pp_model.specs.Names.{Name, ◌=ⁿ◌}
use Rattle.pp_model.specs.Object.{Allowed, Object, Swaps, ops}
use Rattle.pp_model.specs.Rules.{calls}
use Rattle.pp_model.specs.Serial.{has_id}
use Rattle.pp_records.specs.Fronts.{Front, is_memory}
use Rattle.pp_records.specs.Records.{RunRecord}
use Rattle.pp_records.specs.Records as records
use Rattle.pp_records.specs.Runs.{Standing}
use Rattle.pp_laws_summary.specs.LocalLogs.{AtOnce, as_pushed, new_entry, new_shared, posted}
use Rattle.pp_laws_summary.specs.LocalLogs.{pushed_ids, serial_at, unpushed, without_ids}
use Rattle.pp_laws_summary.specs.Places.{ops_at}
use Rattle.pp_laws_summary.specs.Views.{seen_at}

-- The log to which a transaction returns if its section is aborted: its first `own` own entries,
-- and the snapshot of each object that it had then.
pub record Held : Type 0 where
  pub own : ℕ
  pub seen : ℕ → ℕ

-- An open transaction without its local log. It has its own entries with their marks, of each object
-- how many committed operations it pulled, and what its section returns to.
pub record OpenSummary (Op : Type 0) : Type 0 where
  pub name : Name
  pub thread : Name
  pub body : Option Tree
  pub own : List (LocalEntry Op)
  pub seen : ℕ → ℕ
  pub held : Option Held

-- A configuration and a front, without local logs.
pub record Summary (Op : Type 0) : Type 0 where
  pub names : List Name
  pub ids : List ℕ
  pub opened : List (OpenSummary Op)
  pub shared : List (SharedEntry Op)
  pub done : List (CommittedTx Op)
  pub kinds : List Kind

-- the log to which a section with this mark returns
abbrev pub held_of : {Op : Type 0} → (Op → ℕ) → Option ℕ → List (LocalEntry Op) → Option Held
held_of place None l = None
held_of place (Some m) l =
    Some (record { own = length (own (take m l)); seen = λ o. seen_at place o (take m l) })

-- The summary of an open transaction.
abbrev pub open_summary : {Op : Type 0} → (Op → ℕ) → Front → Tx Op → OpenSummary Op
open_summary place f x =
    record {
      name = x.name;
      thread = x.thread;
      body = x.body;
      own = own x.local;
      seen = λ o. seen_at place o x.local;
      held = held_of place (f.section x.name) x.local;
    }

-- The summary of a front and a configuration.
abbrev pub summary_of : {Op : Type 0} → (Op → ℕ) → Standing Front Op → Summary Op
summary_of place p =
    record {
      names = p.config.names;
      ids = p.config.ids;
      opened = map (open_summary place p.front) p.config.opened;
      shared = p.config.shared;
      done = p.config.done;
      kinds = p.front.kinds;
    }

-- the open transaction of this name
abbrev pub open_named : {Op : Type 0} → Name → List (OpenSummary Op) → Option (OpenSummary Op)
open_named t xs = find (λ x. x.name =ⁿ t) xs

-- When an operation of x on the object o is pushed: `None` if at once, and `Some h` if later. Then
-- the first operation on o since h pulls what is committed there.
abbrev pub summary_mode : {Op : Type 0} → Style → List Kind → OpenSummary Op → ℕ → Option Held
summary_mode Rules ks x o = None
summary_mode Boosted ks x o = None
summary_mode Optimistic ks x o = Some (record { own = zero; seen = λ p. zero })
summary_mode Hardware ks x o = cond (is_memory (slice_get ks o)) x.held None
summary_mode Dependent ks x o = None

-- since then it pulled an entry on the object, or has an own one there
abbrev pub touched_since : {Op : Type 0} → (Op → ℕ) → ℕ → Held → OpenSummary Op → Bool
touched_since place o h x =
    not (x.seen o == h.seen o) || list_any (λ e. place e.op == o) (drop h.own x.own)

-- The operations that a transaction has of an object: its snapshot in commit order, and then its
-- own operations.
abbrev pub summary_view : {Op : Type 0} → (Op → ℕ) → ℕ → List (CommittedTx Op) → OpenSummary Op →
    List Op
summary_view place o D x =
    ops (take (x.seen o) (serial_at place o D)) ++ ops_at place o (local_ops x.own)

-- the ids of the snapshot
abbrev pub seen_ids : {Op : Type 0} → (Op → ℕ) → ℕ → List (CommittedTx Op) → OpenSummary Op → List ℕ
seen_ids place o D x = map (λ p. p.id) (take (x.seen o) (serial_at place o D))

-- The committed entries of the object that are not in the snapshot, in the order of the shared log.
abbrev pub summary_missing : {Op : Type 0} → (Op → ℕ) → ℕ → Summary Op → OpenSummary Op →
    List (SharedEntry Op)
summary_missing place o B x =
    filter
    (λ g. (g.committed && (place g.op == o)) && not (has_id g.id (seen_ids place o B.done x)))
    B.shared

-- Those that an operation on the object pulls first.
abbrev pub summary_pulled : {Op : Type 0} → (Op → ℕ) → Option Held → ℕ → Summary Op →
    OpenSummary Op → List (SharedEntry Op)
summary_pulled place None o B x = summary_missing place o B x
summary_pulled place (Some h) o B x =
    cond (touched_since place o h x) [] (summary_missing place o B x)

-- The conditions on a push at once.
pub record SummaryPush {Op State : Type 0} (O : Object Op State) (place : Op → ℕ) (B : Summary Op)
    (op : Op) (x : OpenSummary Op) : Type 0 where
  -- PUSH 3
  pub turns : (a : LocalEntry Op) → In a x.own → place a.op ≡ place op → a.mark ≡ Unpushed →
      Swaps O op a.op
  -- PUSH 4
  pub passes : (u : SharedEntry Op) → In u B.shared → u.committed ≡ false → u.owner ≢ x.name →
      place u.op ≡ place op → Swaps O u.op op
  -- PUSH 5
  pub allowed : Allowed O (shared_ops B.shared ++ op ∷ [])

-- The conditions on an op record.
pub record SummaryOp {Op State : Type 0} (O : Object Op State) (place : Op → ℕ) (style : Style)
    (B : Summary Op) (id : ℕ) (op : Op) (x : OpenSummary Op) : Type 0 where
  -- APP 2
  pub new : In id B.ids → ⊥
  -- APP 3
  pub begins : Begins x.body (calls O (map item x.own) ++ O.call op ∷ [])
  -- PULL 5
  pub swaps : (a : LocalEntry Op) (g : SharedEntry Op) → In a x.own → place a.op ≡ place op →
      In g (summary_pulled place (summary_mode style B.kinds x (place op)) (place op) B x) →
      Swaps O a.op g.op
  -- PULL 4 and APP 4
  pub allowed :
      Allowed O (summary_view place (place op) B.done x
      ++ (shared_ops (summary_pulled place (summary_mode style B.kinds x (place op)) (place op) B x)
      ++ op ∷ []))
  pub pushed : AtOnce (summary_mode style B.kinds x (place op)) (SummaryPush O place B op x)

-- The conditions on a refresh of the object o.
pub record SummaryRefresh {Op State : Type 0} (O : Object Op State) (place : Op → ℕ)
    (B : Summary Op) (o : ℕ) (x : OpenSummary Op) : Type 0 where
  -- PULL 5
  pub swaps : (a : LocalEntry Op) (g : SharedEntry Op) → In a x.own → place a.op ≡ o →
      In g (summary_missing place o B x) → Swaps O a.op g.op
  -- PULL 4
  pub allowed :
      Allowed O (summary_view place o B.done x ++ shared_ops (summary_missing place o B x))

-- The conditions on the push of all unpushed entries.
pub record SummaryPushes {Op State : Type 0} (O : Object Op State) (place : Op → ℕ)
    (B : Summary Op) (x : OpenSummary Op) : Type 0 where
  -- PUSH 4
  pub passes : (e : LocalEntry Op) (u : SharedEntry Op) → In e (unpushed x.own) → In u B.shared →
      u.committed ≡ false → u.owner ≢ x.name → place u.op ≡ place e.op → Swaps O u.op e.op
  -- PUSH 5
  pub allowed : Allowed O (shared_ops B.shared ++ local_ops (unpushed x.own))

-- The criteria of the pushes of a commit.
abbrev pub SummaryCommitPushes : {Op State : Type 0} → Style → Object Op State → (Op → ℕ) →
    Summary Op → OpenSummary Op → Type 0
SummaryCommitPushes Rules O place B x = ⊥
SummaryCommitPushes {Op} Boosted O place B x =
    (e : LocalEntry Op) → In e x.own → is_own e.mark ≡ true → e.mark ≡ Pushed
SummaryCommitPushes Optimistic O place B x = SummaryPushes O place B x
SummaryCommitPushes Hardware O place B x = SummaryPushes O place B x
SummaryCommitPushes Dependent O place B x = ⊥

-- The conditions on a commit.
pub record SummaryCommit {Op State : Type 0} (style : Style) (O : Object Op State) (place : Op → ℕ)
    (B : Summary Op) (x : OpenSummary Op) : Type 0 where
  -- CMT 2
  pub word : IsWord x.body (calls O (map item x.own))
  pub pushed : SummaryCommitPushes style O place B x

-- The transaction t is open in the summary, and P is true of it.
abbrev pub OfOpenSummary : {Op : Type 0} → Summary Op → Name → (OpenSummary Op → Type 0) → Type 0
OfOpenSummary {Op} B t P = (x : OpenSummary Op) × (open_named t B.opened ≡ Some x) × P x

-- The conditions on a plain step: on a begin those of BEGIN. The other steps are no records here.
abbrev pub SummaryMeets : {Op : Type 0} → Summary Op → Step Op → Type 0
SummaryMeets {Op} B (Begin t p b) =
    (In t B.names → ⊥) × ((x : OpenSummary Op) → In x B.opened → x.thread ≢ p)
SummaryMeets B (App t id op) = ⊥
SummaryMeets B (Unapp t id) = ⊥
SummaryMeets B (Push t id) = ⊥
SummaryMeets B (Unpush t id) = ⊥
SummaryMeets B (Pull t id) = ⊥
SummaryMeets B (Unpull t id) = ⊥
SummaryMeets B (Cmt t) = ⊥
SummaryMeets B (Quit t) = ⊥
SummaryMeets B (Note t) = ⊥

-- A record is good, by the summary.
abbrev pub SummaryGood : {Op State : Type 0} → Style → Object Op State → (Op → ℕ) →
    Summary Op → RunRecord Op → Type 0
SummaryGood style O place B (records.Plain step) = SummaryMeets B step
SummaryGood style O place B (records.Op t id op) =
    OfOpenSummary B t (SummaryOp O place style B id op)
SummaryGood style O place B (records.Commit t) = OfOpenSummary B t (SummaryCommit style O place B)
SummaryGood style O place B (records.Abort t) = OfOpenSummary B t (λ x. Unit {0})
SummaryGood style O place B (records.Retry t) = OfOpenSummary B t (λ x. Unit {0})
SummaryGood style O place B (records.Refresh t o) = OfOpenSummary B t (SummaryRefresh O place B o)
SummaryGood style O place B (records.XBegin t) = OfOpenSummary B t (λ x. Unit {0})
SummaryGood style O place B (records.XEnd t) = OfOpenSummary B t (SummaryPushes O place B)
SummaryGood style O place B (records.XAbort t) = OfOpenSummary B t (λ x. Unit {0})
SummaryGood style O place B (records.Depend t source) = ⊥
SummaryGood style O place B (records.Publish t) = ⊥
SummaryGood style O place B (records.DropSource t source) = ⊥

-- f at the transaction t
abbrev pub at_open : {Op : Type 0} → Name → (OpenSummary Op → OpenSummary Op) →
    List (OpenSummary Op) → List (OpenSummary Op)
at_open t f xs = map (λ x. cond (x.name =ⁿ t) (f x) x) xs

-- all but the transaction t
abbrev pub without_open : {Op : Type 0} → Name → List (OpenSummary Op) → List (OpenSummary Op)
without_open t xs = filter (λ x. not (x.name =ⁿ t)) xs

-- n at o, and all others as they were
abbrev pub at_number : ℕ → ℕ → (ℕ → ℕ) → ℕ → ℕ
at_number o n old p = cond (p == o) n (old p)

-- the transaction with a new snapshot of the object
abbrev pub seen_all : {Op : Type 0} → (Op → ℕ) → ℕ → List (CommittedTx Op) → OpenSummary Op →
    OpenSummary Op
seen_all place o D x = record x { seen = at_number o (length (serial_at place o D)) x.seen }

-- the same, if an operation on the object takes a new snapshot
abbrev pub seen_first : {Op : Type 0} → (Op → ℕ) → Option Held → ℕ → List (CommittedTx Op) →
    OpenSummary Op → OpenSummary Op
seen_first place None o D x = seen_all place o D x
seen_first place (Some h) o D x = cond (touched_since place o h x) x (seen_all place o D x)

-- one more own entry
abbrev pub with_entry : {Op : Type 0} → LocalEntry Op → OpenSummary Op → OpenSummary Op
with_entry e x = record x { own = x.own ++ e ∷ [] }

-- the transaction t after an operation
abbrev pub after_op : {Op : Type 0} → (Op → ℕ) → Style → Summary Op → Name → ℕ → Op →
    OpenSummary Op → OpenSummary Op
after_op place style B t id op x =
    with_entry (new_entry (summary_mode style B.kinds x (place op)) t id op)
    (seen_first place (summary_mode style B.kinds x (place op)) (place op) B.done x)

-- the entries that the operation adds to the shared log
abbrev pub shared_by : {Op : Type 0} → (Op → ℕ) → Style → List Kind → Name → ℕ → Op →
    Option (OpenSummary Op) → List (SharedEntry Op)
shared_by place style ks t id op None = []
shared_by place style ks t id op (Some x) = new_shared (summary_mode style ks x (place op)) t id op

-- how many own entries, and which snapshots, remain after a return: none without a section
abbrev pub own_held : Option Held → ℕ
own_held None = zero
own_held (Some h) = h.own

-- the snapshots that remain
abbrev pub seen_held : Option Held → ℕ → ℕ
seen_held None o = zero
seen_held (Some h) o = h.seen o

-- the transaction after a return to h, and to nothing without h
abbrev pub taken_back : {Op : Type 0} → Option Held → OpenSummary Op → OpenSummary Op
taken_back h x = record x { own = take (own_held h) x.own; seen = seen_held h; held = None }

-- the transaction after the end of its section
abbrev pub ended : {Op : Type 0} → OpenSummary Op → OpenSummary Op
ended x = record x { own = map as_pushed x.own; held = None }

-- the log to which a section that begins now returns; an open one stays as it is
abbrev pub held_from : Option Held → ℕ → (ℕ → ℕ) → Option Held
held_from None n seen = Some (record { own = n; seen = seen })
held_from (Some h) n seen = Some h

-- the transaction after the begin of a section
abbrev pub begun_section : {Op : Type 0} → OpenSummary Op → OpenSummary Op
begun_section x = record x { held = held_from x.held (length x.own) x.seen }

-- the own entries of the transaction, if it is open
abbrev pub own_of : {Op : Type 0} → Option (OpenSummary Op) → List (LocalEntry Op)
own_of None = []
own_of (Some x) = x.own

-- those that its section added
abbrev pub own_since : {Op : Type 0} → Option (OpenSummary Op) → List (LocalEntry Op)
own_since None = []
own_since (Some x) = drop (own_held x.held) x.own

-- the transaction after its section was aborted
abbrev pub taken_to_held : {Op : Type 0} → OpenSummary Op → OpenSummary Op
taken_to_held x = taken_back x.held x

-- a transaction that has just begun
abbrev pub new_open : {Op : Type 0} → Name → Name → Option Tree → OpenSummary Op
new_open t p b =
    record { name = t; thread = p; body = b; own = []; seen = λ o. zero; held = None }

-- The summary after a begin.
abbrev pub summary_begun : {Op : Type 0} → Summary Op → Step Op → Summary Op
summary_begun B (Begin t p b) =
    record B { names = t ∷ B.names; opened = B.opened ++ new_open t p b ∷ [] }
summary_begun B (App t id op) = B
summary_begun B (Unapp t id) = B
summary_begun B (Push t id) = B
summary_begun B (Unpush t id) = B
summary_begun B (Pull t id) = B
summary_begun B (Unpull t id) = B
summary_begun B (Cmt t) = B
summary_begun B (Quit t) = B
summary_begun B (Note t) = B

-- The summary after a good record.
abbrev pub next_summary : {Op : Type 0} → (Op → ℕ) → Style → Summary Op → RunRecord Op →
    Summary Op
next_summary place style B (records.Plain step) = summary_begun B step
next_summary place style B (records.Op t id op) =
    record B {
      ids = id ∷ B.ids;
      opened = at_open t (after_op place style B t id op) B.opened;
      shared = B.shared ++ shared_by place style B.kinds t id op (open_named t B.opened);
    }
next_summary place style B (records.Commit t) =
    record B {
      opened = without_open t B.opened;
      shared = commit_all t (B.shared ++ posted t (unpushed (own_of (open_named t B.opened))));
      done = B.done
          ++ record { name = t; entries = map item (own_of (open_named t B.opened)) } ∷ [];
    }
next_summary place style B (records.Abort t) =
    record B {
      opened = without_open t B.opened;
      shared = without_ids (pushed_ids (own_of (open_named t B.opened))) B.shared;
    }
next_summary place style B (records.Retry t) =
    record B {
      opened = at_open t (taken_back None) B.opened;
      shared = without_ids (pushed_ids (own_of (open_named t B.opened))) B.shared;
    }
next_summary place style B (records.Refresh t o) =
    record B { opened = at_open t (seen_all place o B.done) B.opened }
next_summary place style B (records.XBegin t) =
    record B { opened = at_open t begun_section B.opened }
next_summary place style B (records.XEnd t) =
    record B {
      opened = at_open t ended B.opened;
      shared = B.shared ++ posted t (unpushed (own_of (open_named t B.opened)));
    }
next_summary place style B (records.XAbort t) =
    record B {
      opened = at_open t taken_to_held B.opened;
      shared = without_ids (pushed_ids (own_since (open_named t B.opened))) B.shared;
    }
next_summary place style B (records.Depend t source) = B
next_summary place style B (records.Publish t) = B
next_summary place style B (records.DropSource t source) = B
