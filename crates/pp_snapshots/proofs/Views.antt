-- Proof machinery: what a summary of an optimistic run is made of.
use Rattle.std.proofs.Common.{◌≡◌, ◌==◌, ◌&&◌, ℕ, zero, Bool, true, false, not, cond, List, [], ◌∷◌, ◌++◌, map, filter, take}
use Rattle.std.proofs.Common.{refl, sym, ap, ◌∙◌, inl, inr, append_assoc, append-nil}
use Rattle.std.proofs.lemmas.List.{map-append}
use Rattle.std.proofs.lemmas.List.Elements.{filter-append}
use Rattle.pp_core.specs.declared.call.Kind.{Kind}
use Rattle.pp_core.specs.declared.entry.CommittedTx.{CommittedTx}
use Rattle.pp_core.specs.declared.entry.Item.{Item}
use Rattle.pp_model.specs.Config.{LocalEntry, SharedEntry, as_shared, commit_all, item, local_ops, shared_ops}
use Rattle.pp_model.specs.Lists.{In}
use Rattle.pp_model.specs.Names.{Name, ◌=ⁿ◌}
use Rattle.pp_model.specs.Object.{ops}
use Rattle.pp_model.specs.Sound.{serial_items, serial_ops}
use Rattle.pp_model.specs.Serial.{has_id}
use Rattle.pp_model.proofs.Lists.{from_map, in_cases}
use Rattle.pp_model.proofs.Names.{eq-names}
use Rattle.pp_laws_summary.specs.LocalLogs.{posted, pushed_ids, serial_at, unpushed, without_ids}
use Rattle.pp_laws_summary.specs.Places.{ops_at}
use Rattle.pp_laws_summary.specs.Summary.{OpenSummary, Summary, summary_missing}
use Rattle.pp_laws_summary.specs.Views.{done_at}
use Rattle.pp_laws_summary.proofs.AtPlace.{ops_done}
use Rattle.pp_laws_summary.proofs.Relog.{filter_map, filter_same, map_id, map_map}
use Rattle.pp_summary.proofs.Committed.{serial_more}
use Rattle.pp_snapshots.specs.Shown.{as_local, shared_done}

-- the own operations of a summary
pub items_local : {Op : Type 0} (n : Name) (l : List (Item Op)) → map item (map (as_local n) l) ≡ l
items_local n [] = refl
items_local {Op} n (p ∷ l) = ap (λ (w : List (Item Op)). p ∷ w) (items_local n l)

-- The operations of the own entries are the own operations.
pub ops_local : {Op : Type 0} (n : Name) (l : List (Item Op)) → local_ops (map (as_local n) l) ≡ ops l
ops_local n [] = refl
ops_local {Op} n (p ∷ l) = ap (λ (w : List Op). p.op ∷ w) (ops_local n l)

-- Each own entry is not pushed.
pub unpushed_local : {Op : Type 0} (n : Name) (l : List (Item Op)) → unpushed (map (as_local n) l) ≡ map (as_local n) l
unpushed_local n [] = refl
unpushed_local {Op} n (p ∷ l) = ap (λ (w : List (LocalEntry Op)). as_local n p ∷ w) (unpushed_local n l)

-- No own entry is pushed.
pub pushed_none : {Op : Type 0} (n : Name) (l : List (Item Op)) → pushed_ids (map (as_local n) l) ≡ []
pushed_none n [] = refl
pushed_none n (p ∷ l) = pushed_none n l

-- The own entries, posted, are uncommitted entries of the transaction.
pub posted_local : {Op : Type 0} (t n : Name) (l : List (Item Op)) → posted t (map (as_local n) l) ≡ map (as_shared t false) l
posted_local t n [] = refl
posted_local {Op} t n (p ∷ l) = ap (λ (w : List (SharedEntry Op)). as_shared t false p ∷ w) (posted_local t n l)

-- The own entries with one item more have its entry last.
pub local_more : {Op : Type 0} (n : Name) (l : List (Item Op)) (p : Item Op) → map (as_local n) (l ++ p ∷ []) ≡ map (as_local n) l ++ as_local n p ∷ []
local_more n l p = map-append (as_local n) l (p ∷ [])

-- the shared log
pub without_none : {Op : Type 0} (G : List (SharedEntry Op)) → without_ids [] G ≡ G
without_none [] = refl
without_none {Op} (g ∷ G) = ap (λ (w : List (SharedEntry Op)). g ∷ w) (without_none G)

all_committed : {Op : Type 0} (D : List (CommittedTx Op)) (g : SharedEntry Op) → In g (shared_done D) → g.committed ≡ true
all_committed [] g h = absurd h
all_committed (d ∷ D) g h = elim (in_cases g (map (as_shared d.name true) d.entries) (shared_done D) h) [
  | inl i ↦ let m = from_map (as_shared d.name true) g d.entries i in ap (λ (w : SharedEntry _). w.committed) m.2
  | inr i ↦ all_committed D g i
]

-- Each entry of the shared log of committed transactions is committed.
pub committed_all : {Op : Type 0} (D : List (CommittedTx Op)) (g : SharedEntry Op) → In g (shared_done D) → g.committed ≡ true
committed_all = all_committed

-- The operations of the shared log are those of the serial run.
pub shared_serial : {Op : Type 0} (D : List (CommittedTx Op)) → shared_ops (shared_done D) ≡ serial_ops D
shared_serial [] = refl
shared_serial {Op} (d ∷ D) =
    map-append (λ (g : SharedEntry Op). g.op) (map (as_shared d.name true) d.entries) (shared_done D)
    ∙ ap (λ (w : List Op). w ++ shared_ops (shared_done D)) (map_map (λ (g : SharedEntry Op). g.op) (as_shared d.name true) d.entries)
    ∙ ap (λ (w : List Op). ops d.entries ++ w) (shared_serial D)
    ∙ sym (map-append (λ (p : Item Op). p.op) d.entries (serial_items D))

-- With one more committed transaction, the shared log has its entries last.
pub shared_more : {Op : Type 0} (D : List (CommittedTx Op)) (d : CommittedTx Op) → shared_done (D ++ d ∷ []) ≡ shared_done D ++ map (as_shared d.name true) d.entries
shared_more [] d = append-nil (map (as_shared d.name true) d.entries)
shared_more {Op} (c ∷ D) d =
    ap (λ (w : List (SharedEntry Op)). map (as_shared c.name true) c.entries ++ w) (shared_more D d)
    ∙ sym (append_assoc (map (as_shared c.name true) c.entries) (shared_done D) (map (as_shared d.name true) d.entries))

commit_one : {Op : Type 0} (t : Name) (g : SharedEntry Op) → g.committed ≡ true → cond (g.owner =ⁿ t) (record g { committed = true }) g ≡ g
commit_one {Op} t g e = by (g.owner =ⁿ t)
  where
    by : (b : Bool) → cond b (record g { committed = true }) g ≡ g
    by true = ap (λ (c : Bool). record g { committed = c }) (sym e)
    by false = refl

commit_own : {Op : Type 0} (t : Name) (l : List (Item Op)) → commit_all t (map (as_shared t false) l) ≡ map (as_shared t true) l
commit_own t [] = refl
commit_own {Op} t (p ∷ l) =
    ap (λ (b : Bool). cond b (as_shared t true p) (as_shared t false p) ∷ commit_all t (map (as_shared t false) l)) (eq-names t t refl)
    ∙ ap (λ (w : List (SharedEntry Op)). as_shared t true p ∷ w) (commit_own t l)

-- what a commit adds to the shared log
pub commit_adds : {Op : Type 0} (D : List (CommittedTx Op)) (t : Name) (l : List (Item Op)) → commit_all t (shared_done D ++ map (as_shared t false) l) ≡ shared_done (D ++ record { name = t; entries = l } ∷ [])
commit_adds {Op} D t l =
    map-append (λ (g : SharedEntry Op). cond (g.owner =ⁿ t) (record g { committed = true }) g) (shared_done D) (map (as_shared t false) l)
    ∙ ap (λ (w : List (SharedEntry Op)). w ++ commit_all t (map (as_shared t false) l)) (map_id (λ (g : SharedEntry Op). cond (g.owner =ⁿ t) (record g { committed = true }) g) (shared_done D) (λ g i. commit_one t g (all_committed D g i)))
    ∙ ap (λ (w : List (SharedEntry Op)). shared_done D ++ w) (commit_own t l)
    ∙ sym (shared_more D (record { name = t; entries = l }))

module _ {Op : Type 0} (place : Op → ℕ) where
  -- The operations at a place are those of the items there.
  pub ops_items : (o : ℕ) (l : List (Item Op)) → ops_at place o (ops l) ≡ ops (filter (λ p. place p.op == o) l)
  ops_items o l = filter_map (λ (a : Op). place a == o) (λ (p : Item Op). p.op) l

  -- the committed operations at a place, after a commit
  pub done_more : (D : List (CommittedTx Op)) (d : CommittedTx Op) (o : ℕ) → ops (serial_at place o (D ++ d ∷ [])) ≡ ops (serial_at place o D) ++ ops_at place o (ops d.entries)
  done_more D d o =
      ap (λ (l : List (Item Op)). ops (filter (λ p. place p.op == o) l)) (serial_more D d)
      ∙ ap (λ (l : List (Item Op)). ops l) (filter-append (λ (p : Item Op). place p.op == o) (serial_items D) d.entries)
      ∙ map-append (λ (p : Item Op). p.op) (serial_at place o D) (filter (λ p. place p.op == o) d.entries)
      ∙ ap (λ (l : List Op). ops (serial_at place o D) ++ l) (sym (ops_items o d.entries))

  -- where no entry was seen, all committed ones at the place are missed
  pub missing_all : (ks : List Kind) (D : List (CommittedTx Op)) (o : ℕ) (B : Summary Op) (X : OpenSummary Op) → B.shared ≡ shared_done D → X.seen o ≡ zero →
      shared_ops (summary_missing place o B X) ≡ ops (serial_at place o D)
  missing_all ks D o B X shared none =
      ap (λ (n : ℕ). shared_ops (filter (λ g. (g.committed && (place g.op == o)) && not (has_id g.id (map (λ p. p.id) (take n (serial_at place o B.done))))) B.shared)) none
      ∙ ap (λ (l : List (Item Op)). shared_ops (filter (λ g. (g.committed && (place g.op == o)) && not (has_id g.id (map (λ p. p.id) l))) B.shared)) (take_none (serial_at place o B.done))
      ∙ ap (λ (G : List (SharedEntry Op)). shared_ops G) (filter_same (λ (g : SharedEntry Op). (g.committed && (place g.op == o)) && true) (λ (g : SharedEntry Op). g.committed && (place g.op == o)) B.shared (λ g i. and_true (g.committed && (place g.op == o))))
      ∙ ap (λ (G : List (SharedEntry Op)). shared_ops (done_at place o G)) shared
      ∙ ops_done place o (shared_done D) (all_committed D)
      ∙ ap (ops_at place o) (shared_serial D)
      ∙ ops_items o (serial_items D)
    where
      take_none : {A : Type 0} (l : List A) → take zero l ≡ []
      take_none l = refl

      and_true : (b : Bool) → (b && true) ≡ b
      and_true true = refl
      and_true false = refl
