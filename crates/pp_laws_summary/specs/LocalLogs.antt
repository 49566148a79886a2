-- Meaning: when a record of a boosted, an optimistic or a hardware run is good, by the local logs.
-- Below, G is the shared log, L the local log of a transaction, and o an object.
use Rattle.std.specs.Prelude.{◌≡◌, ◌≢◌, ◌≤◌, ◌==◌, ℕ, zero, true, false, not, cond, List, [], ◌∷◌}
use Rattle.std.specs.Prelude.{◌++◌, drop, filter, length, map, take, Option, None, Some}
use Rattle.pp_core.specs.declared.call.Style.{Style}
use Rattle.pp_core.specs.declared.call.Style.TheVariants.{Rules, Boosted, Optimistic, Hardware}
use Rattle.pp_core.specs.declared.call.Style.TheVariants.{Dependent}
use Rattle.pp_model.specs.Body.{Begins, IsWord}
use Rattle.pp_model.specs.Config.{CommittedTx, Config, LocalEntry, Mark, Pulled, Pushed}
use Rattle.pp_model.specs.Config.{SharedEntry, Tx, Unpushed, as_shared, is_mark, is_own, item}
use Rattle.pp_model.specs.Config.{local_ops, own, own_items, shared_ops, tx}
use Rattle.pp_model.specs.Lists.{In}
use Rattle.pp_model.specs.Names.{Name}
use Rattle.pp_model.specs.Object.{Allowed, HasDistinctIds, Item, Object, Swaps, ops}
use Rattle.pp_model.specs.Rules.{Meets, calls}
use Rattle.pp_model.specs.Serial.{has_id}
use Rattle.pp_model.specs.Sound.{Sound, serial_items}
use Rattle.pp_records.specs.Expansions.{touches}
use Rattle.pp_records.specs.Fronts.{Front, is_mem}
use Rattle.pp_records.specs.Records.{RunRecord}
use Rattle.pp_records.specs.Records as records
use Rattle.pp_laws_summary.specs.Places.{ops_at}
use Rattle.pp_laws_summary.specs.Views.{IsOwnAt, log_at, missing_at, pulled_at, seen_at}

-- The transaction t is open, and P is true of it.
abbrev pub OfOpen : {Op : Type 0} → Config Op → Name → (Tx Op → Type 0) → Type 0
OfOpen {Op} c t P = (x : Tx Op) × (tx t c.opened ≡ Some x) × P x

-- The three styles in which a transaction pulls committed entries only.
abbrev pub HasSummary : Style → Type 0
HasSummary Rules = ⊥
HasSummary Boosted = Unit {0}
HasSummary Optimistic = Unit {0}
HasSummary Hardware = Unit {0}
HasSummary Dependent = ⊥

-- When an operation of t on the object o is pushed: `None` if at once, and `Some m` if later. Then
-- the first operation on o after the first m entries of L pulls what is committed there.
abbrev pub push_mode : Style → Front → Name → ℕ → Option ℕ
push_mode Rules f t o = None
push_mode Boosted f t o = None
push_mode Optimistic f t o = Some zero
push_mode Hardware f t o = cond (is_mem f o) (f.section t) None
push_mode Dependent f t o = None

-- the entries of G that are pulled before an operation on the object
abbrev pub pulled_before : {Op : Type 0} → (Op → ℕ) → Option ℕ → ℕ → List (SharedEntry Op) →
    List (LocalEntry Op) → List (SharedEntry Op)
pulled_before place None o G l = missing_at place o G l
pulled_before place (Some m) o G l = cond (touches place o (drop m l)) [] (missing_at place o G l)

-- the own entries that are not pushed
abbrev pub unpushed : {Op : Type 0} → List (LocalEntry Op) → List (LocalEntry Op)
unpushed l = filter (λ e. is_mark e.mark Unpushed) l

-- the entry, pushed if it was not
abbrev pub as_pushed : {Op : Type 0} → LocalEntry Op → LocalEntry Op
as_pushed e = cond (is_mark e.mark Unpushed) (record e { mark = Pushed }) e

-- the entries that a push of these entries of t adds to G
abbrev pub posted : {Op : Type 0} → Name → List (LocalEntry Op) → List (SharedEntry Op)
posted t l = map (λ e. as_shared t false (item e)) l

-- the shared log without the entries of these ids
abbrev pub without_ids : {Op : Type 0} → List ℕ → List (SharedEntry Op) → List (SharedEntry Op)
without_ids js G = filter (λ g. not (has_id g.id js)) G

-- the ids of the pushed entries
abbrev pub pushed_ids : {Op : Type 0} → List (LocalEntry Op) → List ℕ
pushed_ids l = map (λ e. e.id) (filter (λ e. is_mark e.mark Pushed) l)

-- the mark of an operation of this mode
abbrev pub mode_mark : {A : Type 0} → Option A → Mark
mode_mark None = Pushed
mode_mark (Some m) = Unpushed

-- the entry that an operation adds to L
abbrev pub new_entry : {A Op : Type 0} → Option A → Name → ℕ → Op → LocalEntry Op
new_entry mode t id op = record { id = id; owner = t; mark = mode_mark mode; op = op }

-- the entries that it adds to G: one, if it is pushed at once
abbrev pub new_shared : {A Op : Type 0} → Option A → Name → ℕ → Op → List (SharedEntry Op)
new_shared None t id op = record { id = id; owner = t; committed = false; op = op } ∷ []
new_shared (Some m) t id op = []

-- The conditions on a push at once.
pub record LocalPush {Op State : Type 0} (O : Object Op State) (place : Op → ℕ) (c : Config Op)
    (op : Op) (x : Tx Op) : Type 0 where
  -- PUSH 3
  pub turns : (a : LocalEntry Op) → IsOwnAt place (place op) x.local a → a.mark ≡ Unpushed →
      Swaps O op a.op
  -- PUSH 4
  pub passes : (u : SharedEntry Op) → In u c.shared → u.committed ≡ false → u.owner ≢ x.name →
      place u.op ≡ place op → Swaps O u.op op
  -- PUSH 5
  pub allowed : Allowed O (shared_ops c.shared ++ op ∷ [])

-- P, if operations are pushed at once
abbrev pub AtOnce : {A : Type 0} → Option A → Type 0 → Type 0
AtOnce None P = P
AtOnce (Some m) P = Unit {0}

-- The conditions on an op record of the open transaction x that pulls the entries M first.
pub record LocalOpAfter {Op State : Type 0} (O : Object Op State) (place : Op → ℕ)
    (mode : Option ℕ) (M : List (SharedEntry Op)) (c : Config Op) (id : ℕ) (op : Op) (x : Tx Op) :
    Type 0 where
  -- APP 2
  pub new : In id c.ids → ⊥
  -- APP 3
  pub begins : Begins x.body (calls O (own_items x.local) ++ O.call op ∷ [])
  -- PULL 5: each own entry on its object, and each entry that is pulled
  pub swaps : (a : LocalEntry Op) (g : SharedEntry Op) → IsOwnAt place (place op) x.local a →
      In g M → Swaps O a.op g.op
  -- PULL 4 and APP 4, at its object
  pub allowed : Allowed O (log_at place (place op) x.local ++ (shared_ops M ++ op ∷ []))
  pub pushed : AtOnce mode (LocalPush O place c op x)

-- The conditions on an op record in the three styles.
abbrev pub LocalOp : {Op State : Type 0} → Object Op State → (Op → ℕ) → Option ℕ → Config Op → ℕ →
    Op → Tx Op → Type 0
LocalOp O place mode c id op x =
    LocalOpAfter O place mode (pulled_before place mode (place op) c.shared x.local) c id op x

-- The conditions on a refresh of the object o.
pub record LocalRefresh {Op State : Type 0} (O : Object Op State) (place : Op → ℕ) (c : Config Op)
    (o : ℕ) (x : Tx Op) : Type 0 where
  -- PULL 5
  pub swaps : (a : LocalEntry Op) (g : SharedEntry Op) → IsOwnAt place o x.local a →
      In g (missing_at place o c.shared x.local) → Swaps O a.op g.op
  -- PULL 4, at the object
  pub allowed :
      Allowed O (log_at place o x.local ++ shared_ops (missing_at place o c.shared x.local))

-- The conditions on the push of all unpushed entries.
pub record LocalPushes {Op State : Type 0} (O : Object Op State) (place : Op → ℕ) (c : Config Op)
    (x : Tx Op) : Type 0 where
  -- PUSH 4
  pub passes : (e : LocalEntry Op) (u : SharedEntry Op) → In e (unpushed x.local) →
      In u c.shared → u.committed ≡ false → u.owner ≢ x.name → place u.op ≡ place e.op →
      Swaps O u.op e.op
  -- PUSH 5
  pub allowed : Allowed O (shared_ops c.shared ++ local_ops (unpushed x.local))

-- The criteria of the pushes of a commit. If operations are pushed at once, all of them are pushed.
abbrev pub LocalCommitPushes : {Op State : Type 0} → Style → Object Op State → (Op → ℕ) →
    Config Op → Tx Op → Type 0
LocalCommitPushes Rules O place c x = ⊥
LocalCommitPushes {Op} Boosted O place c x =
    (e : LocalEntry Op) → In e x.local → is_own e.mark ≡ true → e.mark ≡ Pushed
LocalCommitPushes Optimistic O place c x = LocalPushes O place c x
LocalCommitPushes Hardware O place c x = LocalPushes O place c x
LocalCommitPushes Dependent O place c x = ⊥

-- The conditions on a commit.
pub record LocalCommit {Op State : Type 0} (style : Style) (O : Object Op State) (place : Op → ℕ)
    (c : Config Op) (x : Tx Op) : Type 0 where
  -- CMT 2
  pub word : IsWord x.body (calls O (own_items x.local))
  pub pushed : LocalCommitPushes style O place c x

-- A record is good, by the local logs. A plain step meets its criteria; it is a begin.
abbrev pub LocalGood : {Op State : Type 0} → Style → Object Op State → (Op → ℕ) → Front →
    Config Op → RunRecord Op → Type 0
LocalGood style O place f c (records.Plain step) = Meets O c step
LocalGood style O place f c (records.Op t id op) =
    OfOpen c t (LocalOp O place (push_mode style f t (place op)) c id op)
LocalGood style O place f c (records.Commit t) = OfOpen c t (LocalCommit style O place c)
LocalGood style O place f c (records.Abort t) = OfOpen c t (λ x. Unit {0})
LocalGood style O place f c (records.Retry t) = OfOpen c t (λ x. Unit {0})
LocalGood style O place f c (records.Refresh t o) = OfOpen c t (LocalRefresh O place c o)
LocalGood style O place f c (records.XBegin t) = OfOpen c t (λ x. Unit {0})
LocalGood style O place f c (records.XEnd t) = OfOpen c t (LocalPushes O place c)
LocalGood style O place f c (records.XAbort t) = OfOpen c t (λ x. Unit {0})
LocalGood style O place f c (records.Depend t source) = ⊥
LocalGood style O place f c (records.Publish t) = ⊥
LocalGood style O place f c (records.DropSource t source) = ⊥

-- the committed operations on the object, in commit order
abbrev pub serial_at : {Op : Type 0} → (Op → ℕ) → ℕ → List (CommittedTx Op) → List (Item Op)
serial_at place o D = filter (λ p. place p.op == o) (serial_items D)

-- L pulled these items of the object o, in any order. What is allowed after L at o is allowed after
-- them and then L's own operations.
pub record IsSnapshot {Op State : Type 0} (O : Object Op State) (place : Op → ℕ)
    (l : List (LocalEntry Op)) (o : ℕ) (items : List (Item Op)) : Type 0 where
  pub distinct_x : HasDistinctIds (map item (pulled_at place o l))
  pub distinct_y : HasDistinctIds items
  pub into : (p : Item Op) → In p (map item (pulled_at place o l)) → In p items
  pub back : (p : Item Op) → In p items → In p (map item (pulled_at place o l))
  pub leads : (k : List Op) → Allowed O (log_at place o l ++ k) →
      Allowed O (ops items ++ (ops_at place o (local_ops (own l)) ++ k))

-- L has a snapshot of each object: the first operations that were committed on it, as many as L
-- pulled of it.
abbrev pub HasSnapshots : {Op State : Type 0} → Object Op State → (Op → ℕ) →
    List (CommittedTx Op) → List (LocalEntry Op) → Type 0
HasSnapshots O place D l =
    (o : ℕ) → IsSnapshot O place l o (take (seen_at place o l) (serial_at place o D))

-- A summary describes this front and this configuration. It is so between the records of a run.
pub record Summable {Op State : Type 0} (O : Object Op State) (place : Op → ℕ) (f : Front)
    (c : Config Op) : Type 0 where
  pub sound : Sound O c
  -- each pulled entry is in G, committed
  pub pulls_committed : (x : Tx Op) → In x c.opened → (e : LocalEntry Op) → In e x.local →
      e.mark ≡ Pulled → In (as_shared e.owner true (item e)) c.shared
  pub snapshots : (x : Tx Op) → In x c.opened → HasSnapshots O place c.done x.local
  -- so it was at the mark of a section
  pub sections : (x : Tx Op) → In x c.opened → (m : ℕ) → f.section x.name ≡ Some m →
      (m ≤ length x.local) × HasSnapshots O place c.done (take m x.local)
  -- a transaction that has not begun has no section
  pub fresh : (t : Name) → (In t c.names → ⊥) → f.section t ≡ None
