-- Proof machinery: an op record, by what is kept.
use Rattle.std.specs.Prelude.{◌≡◌, ◌==◌, ◌&&◌, ◌+◌, ◌*◌, ◌<◌, ◌^◌, ℕ, Bool, zero, cond, nat_eq, false, List, []}
use Rattle.std.specs.Prelude.{◌∷◌, ◌++◌, drop, length, take, Option, None, Some}
use Rattle.std.specs.List.{list_any}
use Rattle.std.specs.Map.{lookup, set_value}
use Rattle.pp_body.specs.Walks.{HasTakenOneMore, MayTake}
use Rattle.pp_core.specs.declared.entry.Item.{Item}
use Rattle.pp_kind.specs.Object.{IsAllowed, Object}
use Rattle.pp_kind.specs.declared.part.Part.{Part}
use Rattle.pp_model.specs.Body.{Begins}
use Rattle.pp_model.specs.Names.{Name, ◌=ⁿ◌}
use Rattle.pp_model.specs.Object.{ops}
use Rattle.pp_records.specs.Records.{RunRecord}
use Rattle.pp_records.specs.Records as records
use Rattle.pp_laws_summary.specs.Places.{ops_at}
use Rattle.pp_summary.specs.Shown.{calls_of, open_in}
use Rattle.pp_summary.specs.declared.parts.OpenTx.{OpenTx}
use Rattle.pp_snapshots.specs.declared.past.Past.{Past}
use Rattle.pp_snapshots.specs.Costs.{has_part, ops_of_part, share_part, tried_missed}
use Rattle.pp_snapshots.specs.Many.{ops_made}
use Rattle.pp_snapshots.specs.Past.{IsPast, made_at}
use Rattle.pp_snapshots.specs.Shown.{Kept, seen_in}

-- After how many commits at a place an operation is tried: after those of the snapshot, or after
-- all if the transaction has seen none at the place and has no own operation there.
abbrev pub snapshot_at : {A : Type 0} → ℕ → List A → ℕ → ℕ
snapshot_at seen own all = cond (nat_eq seen zero && nat_eq (length own) zero) all seen

module _ {Shape State Op Undo : Type 0} (o : Object Shape State Op Undo) (place : Op → ℕ) where
  -- after how many commits this operation of an open transaction is tried
  abbrev pub snapshot_of : (ℕ → List Op) → Op → OpenTx (List (Item Op)) → ℕ
  snapshot_of h op x =
      snapshot_at (seen_in x.seen.entries (place op)) (ops_at place (place op) (ops x.own))
      (length (h (place op)))

  -- These own operations at a place are allowed after the first n there.
  abbrev pub MayHave : Past State Op Undo → ℕ → ℕ → List Op → Type 0
  MayHave v p n own =
      (shape : Shape) (h : ℕ → List Op) → IsPast o place shape v h →
      IsAllowed o shape (take n (h p) ++ ops_at place p own)

  -- What the transaction has of each place is allowed: its snapshot, and then its own operations.
  abbrev pub HasAllowed : Past State Op Undo → OpenTx (List (Item Op)) → Type 0
  HasAllowed v x = (q : ℕ) → MayHave v q (seen_in x.seen.entries q) (ops x.own)

  -- The operation of an open transaction is good.
  pub record OpIsGood (shape : Shape) (h : ℕ → List Op) (ids : List ℕ) (id : ℕ) (op : Op)
      (x : OpenTx (List (Item Op))) : Type 0 where
    pub new : list_any (λ i. id == i) ids ≡ false
    pub begins : Begins x.walk.body (calls_of o x.own ++ o.call op ∷ [])
    pub allowed : IsAllowed o shape
        (take (snapshot_of h op x) (h (place op))
        ++ (ops_at place (place op) (ops x.own) ++ op ∷ []))

  -- What is returned: the snapshot if the operation is good, and else none.
  abbrev pub OpTold : Shape → (ℕ → List Op) → List ℕ → ℕ → Op → OpenTx (List (Item Op)) →
      Option ℕ → Type 0
  OpTold shape h ids id op x None = OpIsGood shape h ids id op x → ⊥
  OpTold shape h ids id op x (Some n) = OpIsGood shape h ids id op x × (n ≡ snapshot_of h op x)

  -- It returns that, and all that was applied still is.
  abbrev pub TellsOp : Past State Op Undo → List ℕ → ℕ → Op → OpenTx (List (Item Op)) →
      Option ℕ → Past State Op Undo → Type 0
  TellsOp v ids id op x found w =
      (shape : Shape) (h : ℕ → List Op) → IsPast o place shape v h →
      OpTold shape h ids id op x found × IsPast o place shape w h

  -- the transaction with one more own operation, and this snapshot of its place
  pub record IsGrown (x : OpenTx (List (Item Op))) (n : ℕ) (p : Item Op)
      (y : OpenTx (List (Item Op))) : Type 0 where
    pub thread : y.thread ≡ x.thread
    pub body : y.walk.body ≡ x.walk.body
    pub taken : HasTakenOneMore x.walk (o.call p.op) y.walk
    pub own : y.own ≡ x.own ++ p ∷ []
    pub seen : (q : ℕ) → lookup (nat_eq q) y.seen.entries
        ≡ cond (nat_eq (place p.op) q) (Some n) (lookup (nat_eq q) x.seen.entries)

module _ {Shape State Op Undo : Type 0} (o : Object Shape State Op Undo) where
  -- The operation may be added: the transaction is open, its walk may go on, and the id is new.
  pub record MayAddOp (v : Kept Shape State Op Undo) (t : Name) (p : Item Op) : Type 0 where
    pub it : OpenTx (List (Item Op))
    pub found : open_in t v.slots.entries ≡ Some it
    pub may : MayTake it.walk (o.call p.op)
    pub new : list_any (λ i. p.id == i) v.ids ≡ false
    pub few : v.count < 2 ^ 32

  -- what it is to add it
  pub record AddsOp (place : Op → ℕ) (v : Kept Shape State Op Undo) (t : Name) (n : ℕ) (p : Item Op)
      (w : Kept Shape State Op Undo) : Type 0 where
    pub it : OpenTx (List (Item Op))
    pub found : open_in t v.slots.entries ≡ Some it
    pub grown : OpenTx (List (Item Op))
    pub grows : IsGrown o place it n p grown
    pub slots : w.slots.entries ≡ set_value (λ m. t =ⁿ m) v.slots.entries (Some grown)
    pub ids : w.ids ≡ v.ids ++ p.id ∷ []
    pub shape : w.shape ≡ v.shape
    pub threads : w.threads.keys ≡ v.threads.keys
    pub past : w.past ≡ v.past
    pub by_part : w.by_part ≡ v.by_part
    pub committed : w.committed ≡ v.committed
    pub count : w.count ≡ v.count + 1

-- the operations at a place after the first ones, of those that were applied
abbrev pub made_from : {State Op Undo : Type 0} → Past State Op Undo → ℕ → ℕ → List Op
made_from v q n = drop n (ops_made (made_at q v.places.items))

-- the first ones at a place, of those that were applied
abbrev pub made_first : {State Op Undo : Type 0} → Past State Op Undo → ℕ → ℕ → List Op
made_first v q n = take n (ops_made (made_at q v.places.items))

-- How many operations are tried with an operation that is asked after the first n at its place, with
-- these own ones, if a later one is of its part.
abbrev pub missed_after : {State Op Undo : Type 0} → (Op → ℕ) → (Op → Part) → Past State Op Undo →
    ℕ → List Op → Op → ℕ
missed_after place part v n own op =
    tried_missed place part op (made_first v (place op) n) (made_from v (place op) n) own

-- So many whether one is or not: none if its call has no result, and else, if none is, the own ones of
-- its part.
abbrev pub tried_after : {State Op Undo : Type 0} → (Op → ℕ) → (Op → Part) → (Op → Bool) →
    Past State Op Undo → ℕ → List Op → Op → ℕ
tried_after place part silent v n own op =
    cond (silent op) 0
    (cond (has_part part op (made_from v (place op) n)) (missed_after place part v n own op)
    (length (ops_of_part part op own)))

-- What an operation costs at most: it and what is tried with it is applied and taken back once.
abbrev pub op_most : {State Op Undo : Type 0} → (Op → ℕ) → (Op → Part) → (Op → Bool) →
    Past State Op Undo → OpenTx (List (Item Op)) → Op → ℕ
op_most place part silent v x op =
    2 * (tried_after place part silent v
    (snapshot_at (seen_in x.seen.entries (place op)) (ops_at place (place op) (ops x.own))
    (length (made_at (place op) v.places.items))) (ops x.own) op + 1)

-- What a refresh costs at most.
abbrev pub refresh_most : {State Op Undo : Type 0} → (Op → ℕ) → (Op → Part) → Past State Op Undo →
    OpenTx (List (Item Op)) → ℕ → ℕ
refresh_most place part v x q =
    2 * cond
    (share_part part (ops_at place q (ops x.own)) (made_from v q (seen_in x.seen.entries q)))
    (length (made_from v q (seen_in x.seen.entries q))
    + (length (ops_at place q (ops x.own)) + length (made_from v q (seen_in x.seen.entries q)))) 0

-- nothing of a transaction that is not open
abbrev pub or_nothing : {A : Type 0} → Option A → (A → ℕ) → ℕ
or_nothing None most = 0
or_nothing (Some x) most = most x

abbrev pub open_most : {Shape State Op Undo : Type 0} → Name → Kept Shape State Op Undo →
    (OpenTx (List (Item Op)) → ℕ) → ℕ
open_most t v most = or_nothing (open_in t v.slots.entries) most

-- what a record costs at most, whatever is returned
abbrev pub kept_most : {Shape State Op Undo : Type 0} → (Op → ℕ) → (Op → Part) → (Op → Bool) →
    Kept Shape State Op Undo → RunRecord Op → ℕ
kept_most place part silent v (records.Plain step) = 0
kept_most place part silent v (records.Op t id op) =
    open_most t v (λ x. op_most place part silent v.past x op)
kept_most place part silent v (records.Commit t) = open_most t v (λ x. 2 * length x.own)
kept_most place part silent v (records.Abort t) = 0
kept_most place part silent v (records.Retry t) = 0
kept_most place part silent v (records.Refresh t q) =
    open_most t v (λ x. refresh_most place part v.past x q)
kept_most place part silent v (records.XBegin t) = 0
kept_most place part silent v (records.XEnd t) = 0
kept_most place part silent v (records.XAbort t) = 0
kept_most place part silent v (records.Depend t source) = 0
kept_most place part silent v (records.Publish t) = 0
kept_most place part silent v (records.DropSource t source) = 0
