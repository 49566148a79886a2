-- Meaning: when a record of a boosted run is good, and when a configuration is boosted.
use Rattle.std.specs.Prelude.{◌≡◌, ◌≢◌, ℕ, true, false, not, List, [], ◌∷◌, ◌++◌, filter, Some}
use Rattle.pp_model.specs.Body.{Begins, IsWord}
use Rattle.pp_model.specs.Config.{Config, LocalEntry, Pulled, Pushed, SharedEntry, Tx, as_shared}
use Rattle.pp_model.specs.Config.{is_own, item, own_items, shared_ops, tx}
use Rattle.pp_model.specs.Lists.{Before, In}
use Rattle.pp_model.specs.Names.{Name}
use Rattle.pp_model.specs.Object.{Allowed, Object, Swaps}
use Rattle.pp_model.specs.Rules.{Meets, calls}
use Rattle.pp_model.specs.Sound.{Sound, StandsBefore}
use Rattle.pp_records.specs.Expansions.{stands_in}
use Rattle.pp_records.specs.Records.{RunRecord}
use Rattle.pp_records.specs.Records as records

-- The premise: operations of different places swap.
pub record PlacesSwap {Op State : Type 0} (O : Object Op State) (place : Op → ℕ) : Type 0 where
  pub apart : (a b : Op) → place a ≢ place b → Swaps O a b

-- An own entry of L at the place o.
abbrev pub IsOwnAt : {Op : Type 0} → (Op → ℕ) → ℕ → List (LocalEntry Op) → LocalEntry Op → Type 0
IsOwnAt place o l a = In a l × (is_own a.mark ≡ true) × (place a.op ≡ o)

-- A committed entry of G at the place o.
abbrev pub IsDoneAt : {Op : Type 0} → (Op → ℕ) → ℕ → List (SharedEntry Op) → SharedEntry Op →
    Type 0
IsDoneAt place o G p = In p G × (p.committed ≡ true) × (place p.op ≡ o)

-- The conditions on an op record of the open transaction x.
pub record GoodOp {Op State : Type 0} (O : Object Op State) (place : Op → ℕ) (c : Config Op)
    (id : ℕ) (op : Op) (x : Tx Op) : Type 0 where
  -- Criterion 2 of APP.
  pub new : In id c.ids → ⊥
  -- Criterion 3 of APP.
  pub begins : Begins x.body (calls O (own_items x.local) ++ O.call op ∷ [])
  -- Each own entry at its place swaps with each committed one there that is not in L.
  pub swaps : (a : LocalEntry Op) (p : SharedEntry Op) → IsOwnAt place (place op) x.local a →
      IsDoneAt place (place op) c.shared p → stands_in x.local p.id ≡ false → Swaps O a.op p.op
  -- Criterion 4 of PUSH.
  pub passes : (u : SharedEntry Op) → In u c.shared → u.committed ≡ false → u.owner ≢ x.name →
      Swaps O u.op op
  -- Criterion 5 of PUSH.
  pub allowed : Allowed O (shared_ops c.shared ++ op ∷ [])

-- The transaction t is open, and P is true of it.
abbrev pub OfOpen : {Op : Type 0} → Config Op → Name → (Tx Op → Type 0) → Type 0
OfOpen {Op} c t P = (x : Tx Op) × (tx t c.opened ≡ Some x) × P x

-- A record of a boosted run is good. A plain step, which is a begin in a boosted run, must meet its
-- criteria. The last seven records are of no boosted run, and never good.
abbrev pub Good : {Op State : Type 0} → Object Op State → (Op → ℕ) → Config Op → RunRecord Op →
    Type 0
Good O place c (records.Plain step) = Meets O c step
Good O place c (records.Op t id op) = OfOpen c t (GoodOp O place c id op)
Good O place c (records.Commit t) = OfOpen c t (λ x. IsWord x.body (calls O (own_items x.local)))
Good O place c (records.Abort t) = OfOpen c t (λ x. Unit {0})
Good O place c (records.Retry t) = OfOpen c t (λ x. Unit {0})
Good O place c (records.Refresh t o) = ⊥
Good O place c (records.XBegin t) = ⊥
Good O place c (records.XEnd t) = ⊥
Good O place c (records.XAbort t) = ⊥
Good O place c (records.Depend t source) = ⊥
Good O place c (records.Publish t) = ⊥
Good O place c (records.DropSource t source) = ⊥

-- In L, the entry of the first id is before that of the second.
abbrev pub ComesBefore : {Op : Type 0} → ℕ → ℕ → List (LocalEntry Op) → Type 0
ComesBefore {Op} i j l = (a b : LocalEntry Op) × Before a b l × (a.id ≡ i) × (b.id ≡ j)

-- The local log L follows G.
pub record Follows {Op State : Type 0} (O : Object Op State) (place : Op → ℕ)
    (G : List (SharedEntry Op)) (L : List (LocalEntry Op)) : Type 0 where
  -- Each own entry is pushed, and the own entries are in G in the order of L.
  pub own_pushed : (a : LocalEntry Op) → In a L → is_own a.mark ≡ true → a.mark ≡ Pushed
  pub own_order : (a b : LocalEntry Op) → Before a b L → is_own a.mark ≡ true →
      is_own b.mark ≡ true → StandsBefore a.id b.id G
  -- Each pulled entry is in G, and committed.
  pub pulled_stand : (p : LocalEntry Op) → In p L → p.mark ≡ Pulled →
      In (as_shared p.owner true (item p)) G
  -- A committed entry swaps with l if it is at the place of l, before l in G, and not before l in
  -- L.
  pub late : (l : LocalEntry Op) (r : SharedEntry Op) → In l L → IsDoneAt place (place l.op) G r →
      StandsBefore r.id l.id G → (ComesBefore r.id l.id L → ⊥) → Swaps O r.op l.op

-- L has an own entry at the place of each pulled one.
abbrev pub Anchored : {Op : Type 0} → (Op → ℕ) → List (LocalEntry Op) → Type 0
Anchored {Op} place l =
    (p : LocalEntry Op) → In p l → p.mark ≡ Pulled →
    (a : LocalEntry Op) × IsOwnAt place (place p.op) l a

-- A boosted configuration: it is sound, and each local log follows the shared log and is anchored.
pub record Boosted {Op State : Type 0} (O : Object Op State) (place : Op → ℕ) (c : Config Op) :
    Type 0 where
  pub sound : Sound O c
  pub follows : (x : Tx Op) → In x c.opened → Follows O place c.shared x.local
  pub anchored : (x : Tx Op) → In x c.opened → Anchored place x.local

-- As `Boosted`, but the log of t need not be anchored. Between the PULL steps of a refresh of t it
-- may not be.
pub record BoostedBut {Op State : Type 0} (O : Object Op State) (place : Op → ℕ) (t : Name)
    (c : Config Op) : Type 0 where
  pub sound : Sound O c
  pub follows : (x : Tx Op) → In x c.opened → Follows O place c.shared x.local
  pub anchored : (x : Tx Op) → In x c.opened → x.name ≢ t → Anchored place x.local

-- The entries of G that are not in L.
abbrev pub rest : {Op : Type 0} → List (LocalEntry Op) → List (SharedEntry Op) →
    List (SharedEntry Op)
rest l G = filter (λ g. not (stands_in l g.id)) G
