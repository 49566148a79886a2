-- The part of a summary that is on one object.
use Rattle.std.specs.Prelude.{◌≡◌, ◌≤◌, ◌==◌, Bool, true, false, cond, ℕ, zero, List, [], ◌∷◌, ◌++◌, filter, length, map, take, Option, None, Some}
use Rattle.std.proofs.Common.{refl, sym, ap, ◌∙◌}
use Rattle.std.proofs.lemmas.Bool.{eq-eqb}
use Rattle.std.proofs.lemmas.List.{take-append-le}
use Rattle.std.proofs.lemmas.List.Elements.{filter-append}
use mathlib.Core.Path.{fun_ext}
use Rattle.pp_core.specs.declared.call.Kind.{Kind}
use Rattle.pp_model.specs.Config.{CommittedTx, LocalEntry, SharedEntry, local_ops, shared_ops}
use Rattle.pp_model.specs.Lists.{In}
use Rattle.pp_model.specs.Names.{Name, ◌=ⁿ◌}
use Rattle.pp_model.specs.Object.{Item}
use Rattle.pp_model.specs.Sound.{serial_items}
use Rattle.pp_model.proofs.Trace.{map_same}
use Rattle.pp_laws_summary.specs.LocalLogs.{serial_at}
use Rattle.pp_laws_summary.specs.Places.{ops_at}
use Rattle.pp_laws_summary.specs.Summary.{Held, OpenSummary, Summary, at_open, open_named}
use Rattle.pp_laws_summary.proofs.Relog.{filter_map, map_map}
use Rattle.pp_laws_locality.proofs.Filtered.{filter_again}

-- own entries on the object, entries of the shared log, and items
abbrev pub own_at : {Op : Type 0} → (Op → ℕ) → ℕ → List (LocalEntry Op) → List (LocalEntry Op)
own_at place o l = filter (λ e. place e.op == o) l

-- The entries of a shared log on an object.
abbrev pub shared_at : {Op : Type 0} → (Op → ℕ) → ℕ → List (SharedEntry Op) → List (SharedEntry Op)
shared_at place o G = filter (λ g. place g.op == o) G

-- The items on an object.
abbrev pub items_at : {Op : Type 0} → (Op → ℕ) → ℕ → List (Item Op) → List (Item Op)
items_at place o l = filter (λ p. place p.op == o) l

-- the snapshot of the object, and none of another
abbrev pub seen_only : ℕ → (ℕ → ℕ) → ℕ → ℕ
seen_only o seen p = cond (p == o) (seen p) zero

-- The part on the object of the log to which a section returns.
abbrev pub held_at : {Op : Type 0} → (Op → ℕ) → ℕ → List (LocalEntry Op) → Option Held → Option Held
held_at place o l None = None
held_at place o l (Some h) = Some (record { own = length (own_at place o (take h.own l)); seen = seen_only o h.seen })

-- an open transaction on the object
abbrev pub open_at : {Op : Type 0} → (Op → ℕ) → ℕ → OpenSummary Op → OpenSummary Op
open_at place o x =
    record {
      name = x.name;
      thread = x.thread;
      body = None;
      own = own_at place o x.own;
      seen = seen_only o x.seen;
      held = held_at place o x.own x.held;
    }

-- a committed transaction on the object
abbrev pub committed_at : {Op : Type 0} → (Op → ℕ) → ℕ → CommittedTx Op → CommittedTx Op
committed_at place o d = record { name = d.name; entries = items_at place o d.entries }

-- The summary on the object, with these ids.
abbrev pub summary_at : {Op : Type 0} → (Op → ℕ) → ℕ → List ℕ → Summary Op → Summary Op
summary_at place o js B =
    record {
      names = B.names;
      ids = js;
      opened = map (open_at place o) B.opened;
      shared = shared_at place o B.shared;
      done = map (committed_at place o) B.done;
      kinds = B.kinds;
    }

-- the transaction, if it is open, on the object
abbrev pub found_at : {Op : Type 0} → (Op → ℕ) → ℕ → Option (OpenSummary Op) → Option (OpenSummary Op)
found_at place o None = None
found_at place o (Some x) = Some (open_at place o x)

-- A transaction is open on the object if it is open.
pub named_at : {Op : Type 0} (place : Op → ℕ) (o : ℕ) (t : Name) (xs : List (OpenSummary Op)) → open_named t (map (open_at place o) xs) ≡ found_at place o (open_named t xs)
named_at place o t [] = refl
named_at {Op} place o t (x ∷ xs) = ap (λ (w : Option (OpenSummary Op)). cond (x.name =ⁿ t) (Some (open_at place o x)) w) (named_at place o t xs) ∙ by (x.name =ⁿ t)
  where
    by : (b : Bool) → cond b (Some (open_at place o x)) (found_at place o (open_named t xs)) ≡ found_at place o (cond b (Some x) (open_named t xs))
    by true = refl
    by false = refl

-- the snapshot there
pub seen_here : (o : ℕ) (seen : ℕ → ℕ) → seen_only o seen o ≡ seen o
seen_here o seen = ap (λ (b : Bool). cond b (seen o) zero) (eq-eqb o o refl)

-- no snapshot is none on the object
pub seen_none : (o : ℕ) → seen_only o (λ p. zero) ≡ (λ p. zero)
seen_none o = fun_ext (λ p. by (p == o))
  where
    by : (b : Bool) → cond b zero zero ≡ zero
    by true = refl
    by false = refl

-- The serial run on the object is the same.
pub serial_same : {Op : Type 0} (place : Op → ℕ) (o : ℕ) (D : List (CommittedTx Op)) → serial_at place o (map (committed_at place o) D) ≡ serial_at place o D
serial_same place o [] = refl
serial_same {Op} place o (d ∷ D) =
    filter-append (λ (p : Item Op). place p.op == o) (items_at place o d.entries) (serial_items (map (committed_at place o) D))
    ∙ ap (λ (w : List (Item Op)). w ++ serial_at place o (map (committed_at place o) D)) (filter_again (λ (p : Item Op). place p.op == o) d.entries)
    ∙ ap (λ (w : List (Item Op)). items_at place o d.entries ++ w) (serial_same place o D)
    ∙ sym (filter-append (λ (p : Item Op). place p.op == o) d.entries (serial_items D))

-- the operations of entries on the object
pub ops_own : {Op : Type 0} (place : Op → ℕ) (o : ℕ) (l : List (LocalEntry Op)) → ops_at place o (local_ops l) ≡ local_ops (own_at place o l)
ops_own {Op} place o l = filter_map (λ (a : Op). place a == o) (λ (e : LocalEntry Op). e.op) l

-- The operations on an object of a shared log are those of its entries on the object.
pub ops_shared : {Op : Type 0} (place : Op → ℕ) (o : ℕ) (G : List (SharedEntry Op)) → ops_at place o (shared_ops G) ≡ shared_ops (shared_at place o G)
ops_shared {Op} place o G = filter_map (λ (a : Op). place a == o) (λ (g : SharedEntry Op). g.op) G

-- an open transaction without a body
abbrev pub open_of : {Op : Type 0} → Name → Name → List (LocalEntry Op) → (ℕ → ℕ) → Option Held → OpenSummary Op
open_of t p l seen held = record { name = t; thread = p; body = None; own = l; seen = seen; held = held }

-- Two of them are equal if their parts are.
pub open_same : {Op : Type 0} (t p : Name) (l k : List (LocalEntry Op)) (s r : ℕ → ℕ) (h g : Option Held) → l ≡ k → ((q : ℕ) → s q ≡ r q) → h ≡ g → open_of t p l s h ≡ open_of t p k r g
open_same {Op} t p l k s r h g el es eh =
    ap (λ (w : List (LocalEntry Op)). open_of t p w s h) el ∙ ap (λ (w : ℕ → ℕ). open_of t p k w h) (fun_ext es) ∙ ap (λ (w : Option Held). open_of t p k r w) eh

-- a summary
abbrev pub summary_by : {Op : Type 0} → List Name → List ℕ → List (OpenSummary Op) → List (SharedEntry Op) → List (CommittedTx Op) → List Kind → Summary Op
summary_by ns js xs G D ks = record { names = ns; ids = js; opened = xs; shared = G; done = D; kinds = ks }

-- Two summaries are equal if their parts are.
pub summary_same : {Op : Type 0} (ns : List Name) (js : List ℕ) (xs ys : List (OpenSummary Op)) (G H : List (SharedEntry Op)) (D E : List (CommittedTx Op)) (ks : List Kind) → xs ≡ ys → G ≡ H → D ≡ E →
    summary_by ns js xs G D ks ≡ summary_by ns js ys H E ks
summary_same {Op} ns js xs ys G H D E ks ex eg ed =
    ap (λ (w : List (OpenSummary Op)). summary_by ns js w G D ks) ex ∙ ap (λ (w : List (SharedEntry Op)). summary_by ns js ys w D ks) eg ∙ ap (λ (w : List (CommittedTx Op)). summary_by ns js ys H w ks) ed

-- a change of the transaction t, on the object
pub changed_at : {Op : Type 0} (place : Op → ℕ) (o : ℕ) (t : Name) (f k : OpenSummary Op → OpenSummary Op) (xs : List (OpenSummary Op)) → ((x : OpenSummary Op) → In x xs → k (open_at place o x) ≡ open_at place o (f x)) →
    at_open t k (map (open_at place o) xs) ≡ map (open_at place o) (at_open t f xs)
changed_at {Op} place o t f k xs h =
    map_map (λ (x : OpenSummary Op). cond (x.name =ⁿ t) (k x) x) (open_at place o) xs
    ∙ map_same (λ (x : OpenSummary Op). cond (x.name =ⁿ t) (k (open_at place o x)) (open_at place o x)) (λ (x : OpenSummary Op). open_at place o (cond (x.name =ⁿ t) (f x) x)) xs (λ x i. by x i (x.name =ⁿ t))
    ∙ sym (map_map (open_at place o) (λ (x : OpenSummary Op). cond (x.name =ⁿ t) (f x) x) xs)
  where
    by : (x : OpenSummary Op) → In x xs → (b : Bool) → cond b (k (open_at place o x)) (open_at place o x) ≡ open_at place o (cond b (f x) x)
    by x i true = h x i
    by x i false = refl

-- a change that the object does not show
pub unchanged_at : {Op : Type 0} (place : Op → ℕ) (o : ℕ) (t : Name) (f : OpenSummary Op → OpenSummary Op) (xs : List (OpenSummary Op)) → ((x : OpenSummary Op) → In x xs → open_at place o (f x) ≡ open_at place o x) →
    map (open_at place o) (at_open t f xs) ≡ map (open_at place o) xs
unchanged_at {Op} place o t f xs h =
    map_map (open_at place o) (λ (x : OpenSummary Op). cond (x.name =ⁿ t) (f x) x) xs
    ∙ map_same (λ (x : OpenSummary Op). open_at place o (cond (x.name =ⁿ t) (f x) x)) (open_at place o) xs (λ x i. by x i (x.name =ⁿ t))
  where
    by : (x : OpenSummary Op) → In x xs → (b : Bool) → open_at place o (cond b (f x) x) ≡ open_at place o x
    by x i true = h x i
    by x i false = refl

-- A section of the transaction began within its own entries.
abbrev pub HeldWithin : {Op : Type 0} → OpenSummary Op → Type 0
HeldWithin x = (h : Held) → x.held ≡ Some h → h.own ≤ length x.own

-- More own entries do not change what a section returns to.
pub held_more : {Op : Type 0} (place : Op → ℕ) (o : ℕ) (l k : List (LocalEntry Op)) (w : Option Held) → ((h : Held) → w ≡ Some h → h.own ≤ length l) → held_at place o (l ++ k) w ≡ held_at place o l w
held_more place o l k None le = refl
held_more {Op} place o l k (Some h) le =
    ap (λ (z : List (LocalEntry Op)). Some (record { own = length (own_at place o z); seen = seen_only o h.seen })) (take-append-le h.own l k (le h refl))
