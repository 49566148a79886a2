-- Meaning: the brief of a configuration, which has no local logs, and what a good record makes of
-- it.
use Rattle.std.specs.Prelude.{◌≡◌, ◌≢◌, ℕ, ◌==◌, Bool, false, not, ◌&&◌, ◌||◌, cond, List, []}
use Rattle.std.specs.Prelude.{◌∷◌, ◌++◌, map, filter, find, Option, None, Some}
use Rattle.pp_model.specs.Body.{Begins, IsWord, Tree}
use Rattle.pp_model.specs.Config.{App, Begin, Cmt, CommittedTx, Config, LocalEntry, Note, Pull}
use Rattle.pp_model.specs.Config.{Push, Quit, SharedEntry, Step, Tx, Unapp, Unpull, Unpush}
use Rattle.pp_model.specs.Config.{as_shared, commit_all, own_items, shared_ops}
use Rattle.pp_model.specs.Lists.{In}
use Rattle.pp_model.specs.Names.{Name, ◌=ⁿ◌}
use Rattle.pp_model.specs.Object.{Allowed, Item, Object, Swaps}
use Rattle.pp_model.specs.Rules.{calls}
use Rattle.pp_model.specs.Serial.{has_id}
use Rattle.pp_records.specs.Expansions.{stands_in}
use Rattle.pp_records.specs.Records.{RunRecord}
use Rattle.pp_records.specs.Records as records

-- An open transaction in a brief: its own operations, and the ids of what it has missed.
pub record BriefTx (Op : Type 0) : Type 0 where
  pub name : Name
  pub thread : Name
  pub body : Option Tree
  pub own : List (Item Op)
  pub missed : List ℕ

-- The brief of a configuration, which has no local logs.
pub record Brief (Op : Type 0) : Type 0 where
  pub names : List Name
  pub ids : List ℕ
  pub opened : List (BriefTx Op)
  pub shared : List (SharedEntry Op)
  pub done : List (CommittedTx Op)

-- One of the operations is at the place o.
abbrev pub any_at : {Op : Type 0} → (Op → ℕ) → ℕ → List (Item Op) → Bool
any_at place o [] = false
any_at place o (p ∷ l) = (place p.op == o) || any_at place o l

abbrev pub shared_ids : {Op : Type 0} → List (SharedEntry Op) → List ℕ
shared_ids G = map (λ g. g.id) G

-- The entry is committed, at the place of an own entry of L, and not in L.
abbrev pub is_missed : {Op : Type 0} → (Op → ℕ) → List (LocalEntry Op) → SharedEntry Op → Bool
is_missed place l g =
    g.committed && (any_at place (place g.op) (own_items l) && not (stands_in l g.id))

abbrev pub missed : {Op : Type 0} → (Op → ℕ) → List (SharedEntry Op) → List (LocalEntry Op) → List ℕ
missed place G l = shared_ids (filter (is_missed place l) G)

abbrev pub brief_tx : {Op : Type 0} → (Op → ℕ) → List (SharedEntry Op) → Tx Op → BriefTx Op
brief_tx place G x =
    record {
      name = x.name;
      thread = x.thread;
      body = x.body;
      own = own_items x.local;
      missed = missed place G x.local;
    }

-- The brief of a configuration. An open transaction has only its own operations, and what it has
-- missed.
abbrev pub brief : {Op : Type 0} → (Op → ℕ) → Config Op → Brief Op
brief place c =
    record {
      names = c.names;
      ids = c.ids;
      opened = map (brief_tx place c.shared) c.opened;
      shared = c.shared;
      done = c.done;
    }

-- The open transaction of this name.
abbrev pub brief_of : {Op : Type 0} → Name → List (BriefTx Op) → Option (BriefTx Op)
brief_of t xs = find (λ x. x.name =ⁿ t) xs

-- The conditions on an op record, from the brief.
pub record BriefGoodOp {Op State : Type 0} (O : Object Op State) (place : Op → ℕ) (B : Brief Op)
    (id : ℕ) (op : Op) (x : BriefTx Op) : Type 0 where
  pub new : In id B.ids → ⊥
  pub begins : Begins x.body (calls O x.own ++ O.call op ∷ [])
  pub swaps : (a : Item Op) (p : SharedEntry Op) → In a x.own → place a.op ≡ place op →
      In p B.shared → place p.op ≡ place op → In p.id x.missed → Swaps O a.op p.op
  pub passes : (u : SharedEntry Op) → In u B.shared → u.committed ≡ false → u.owner ≢ x.name →
      Swaps O u.op op
  pub allowed : Allowed O (shared_ops B.shared ++ op ∷ [])

-- The transaction t is open in the brief, and P is true of it.
abbrev pub InBrief : {Op : Type 0} → Brief Op → Name → (BriefTx Op → Type 0) → Type 0
InBrief {Op} B t P = (x : BriefTx Op) × (brief_of t B.opened ≡ Some x) × P x

-- A step that is a record of a boosted run meets its criteria. All but a begin are none.
abbrev pub BriefMeets : {Op : Type 0} → Brief Op → Step Op → Type 0
BriefMeets {Op} B (Begin t p b) =
    (In t B.names → ⊥) × ((x : BriefTx Op) → In x B.opened → x.thread ≢ p)
BriefMeets B (App t id op) = ⊥
BriefMeets B (Unapp t id) = ⊥
BriefMeets B (Push t id) = ⊥
BriefMeets B (Unpush t id) = ⊥
BriefMeets B (Pull t id) = ⊥
BriefMeets B (Unpull t id) = ⊥
BriefMeets B (Cmt t) = ⊥
BriefMeets B (Quit t) = ⊥
BriefMeets B (Note t) = ⊥

-- A record of a boosted run is good, from the brief.
abbrev pub BriefGood : {Op State : Type 0} → Object Op State → (Op → ℕ) → Brief Op → RunRecord Op →
    Type 0
BriefGood O place B (records.Plain step) = BriefMeets B step
BriefGood O place B (records.Op t id op) = InBrief B t (BriefGoodOp O place B id op)
BriefGood O place B (records.Commit t) = InBrief B t (λ x. IsWord x.body (calls O x.own))
BriefGood O place B (records.Abort t) = InBrief B t (λ x. Unit {0})
BriefGood O place B (records.Retry t) = InBrief B t (λ x. Unit {0})
BriefGood O place B (records.Refresh t o) = ⊥
BriefGood O place B (records.XBegin t) = ⊥
BriefGood O place B (records.XEnd t) = ⊥
BriefGood O place B (records.XAbort t) = ⊥
BriefGood O place B (records.Depend t source) = ⊥
BriefGood O place B (records.Publish t) = ⊥
BriefGood O place B (records.DropSource t source) = ⊥

-- The briefs of the transactions, with f applied to that of t.
abbrev pub at_brief : {Op : Type 0} → Name → (BriefTx Op → BriefTx Op) → List (BriefTx Op) →
    List (BriefTx Op)
at_brief t f xs = map (λ x. cond (x.name =ⁿ t) (f x) x) xs

abbrev pub without_brief : {Op : Type 0} → Name → List (BriefTx Op) → List (BriefTx Op)
without_brief t xs = filter (λ x. not (x.name =ⁿ t)) xs

abbrev pub without_owner : {Op : Type 0} → Name → List (SharedEntry Op) → List (SharedEntry Op)
without_owner t G = filter (λ g. not (g.owner =ⁿ t)) G

-- One more own operation. Nothing at its place is missed now.
abbrev pub grown : {Op : Type 0} → (Op → ℕ) → List (SharedEntry Op) → ℕ → Op → BriefTx Op →
    BriefTx Op
grown place G id op x =
    record x {
      own = x.own ++ record { id = id; op = op } ∷ [];
      missed = shared_ids (filter (λ g. has_id g.id x.missed && not (place g.op == place op)) G);
    }

-- The entry is owned by t, and at the place of one of the operations.
abbrev pub is_met : {Op : Type 0} → (Op → ℕ) → Name → List (Item Op) → SharedEntry Op → Bool
is_met place t own g = (g.owner =ⁿ t) && any_at place (place g.op) own

-- The transaction t commits: the others now also miss its entries at the places of their own
-- operations.
abbrev pub missing_more : {Op : Type 0} → (Op → ℕ) → List (SharedEntry Op) → Name → BriefTx Op →
    BriefTx Op
missing_more place G t x =
    record x {
      missed = shared_ids (filter (λ g. has_id g.id x.missed || is_met place t x.own g) G);
    }

abbrev pub emptied : {Op : Type 0} → BriefTx Op → BriefTx Op
emptied x = record x { own = []; missed = [] }

abbrev pub own_list : {Op : Type 0} → Option (BriefTx Op) → List (Item Op)
own_list None = []
own_list (Some x) = x.own

-- The brief after a begin.
abbrev pub brief_begun : {Op : Type 0} → Brief Op → Step Op → Brief Op
brief_begun B (Begin t p b) =
    record B {
      names = t ∷ B.names;
      opened =
          B.opened ++ record { name = t; thread = p; body = b; own = []; missed = [] } ∷ [];
    }
brief_begun B (App t id op) = B
brief_begun B (Unapp t id) = B
brief_begun B (Push t id) = B
brief_begun B (Unpush t id) = B
brief_begun B (Pull t id) = B
brief_begun B (Unpull t id) = B
brief_begun B (Cmt t) = B
brief_begun B (Quit t) = B
brief_begun B (Note t) = B

-- The brief after a good record.
abbrev pub brief_then : {Op : Type 0} → (Op → ℕ) → Brief Op → RunRecord Op → Brief Op
brief_then place B (records.Plain step) = brief_begun B step
brief_then place B (records.Op t id op) =
    record B {
      ids = id ∷ B.ids;
      opened = at_brief t (grown place B.shared id op) B.opened;
      shared = B.shared ++ as_shared t false (record { id = id; op = op }) ∷ [];
    }
brief_then place B (records.Commit t) =
    record B {
      opened = map (missing_more place B.shared t) (without_brief t B.opened);
      shared = commit_all t B.shared;
      done = B.done ++ record { name = t; entries = own_list (brief_of t B.opened) } ∷ [];
    }
brief_then place B (records.Abort t) =
    record B { opened = without_brief t B.opened; shared = without_owner t B.shared }
brief_then place B (records.Retry t) =
    record B { opened = at_brief t emptied B.opened; shared = without_owner t B.shared }
brief_then place B (records.Refresh t o) = B
brief_then place B (records.XBegin t) = B
brief_then place B (records.XEnd t) = B
brief_then place B (records.XAbort t) = B
brief_then place B (records.Depend t source) = B
brief_then place B (records.Publish t) = B
brief_then place B (records.DropSource t source) = B
