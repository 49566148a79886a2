-- Meaning: what is known of the open transactions of a machine, and when it is true.
use Rattle.std.specs.Prelude.{◌≡◌, ◌⊎◌, ◌≤◌, ◌<◌, ◌==◌, ◌-◌, ℕ, true, false, List, []}
use Rattle.std.specs.Prelude.{◌++◌, drop, length, map, filter, min, slice_get, Option, None, Some}
use Rattle.std.specs.Prelude.{if◌then◌else◌, position}
use Rattle.std.specs.List.{Contains}
use Rattle.pp_core.specs.Steps.{Step, Begin, App, Unapp, Push, Unpush, Pull, Unpull, Cmt, Quit, Note}
use Rattle.pp_core.specs.declared.entry.CommittedTx.{CommittedTx}
use Rattle.pp_core.specs.declared.entry.LocalEntry.{LocalEntry}
use Rattle.pp_core.specs.declared.entry.SharedEntry.{SharedEntry}
use Rattle.pp_records.specs.Expansions.{is_followed, stands_in}
use Rattle.pp_model.specs.Config.{Config, Tx, Unpushed, is_mark, tx}
use Rattle.pp_model.specs.Lists.{In}
use Rattle.pp_model.specs.Names.{Name, ◌=ⁿ◌}
use Rattle.pp_model.specs.Object.{Item}

-- What is known: the ids of the committed entries of each object, in the order of the commits; of
-- each transaction and object, how many of these ids, from the first on, it need not look at again;
-- and of each transaction, how many entries of its local log, from the first on, are not unpushed.
pub record Knowledge : Type 0 where
  pub ids : ℕ → List ℕ
  pub taken : Name → ℕ → ℕ
  pub pushed : Name → ℕ

-- Of these ids those after the first so many are all that a local log lacks of what is committed on
-- an object.
pub record HasTaken {Op : Type 0} (place : Op → ℕ) (o : ℕ) (done : List (CommittedTx Op))
    (ids : List ℕ) (count : ℕ) (l : List (LocalEntry Op)) : Type 0 where
  pub within : count ≤ length ids
  pub rest : (d : CommittedTx Op) → In d done → (p : Item Op) → In p d.entries →
      place p.op ≡ o → stands_in l p.id ≡ false → In p.id (drop count ids)

-- none of the first so many entries of a local log is unpushed
pub record HasPushed {Op : Type 0} (count : ℕ) (l : List (LocalEntry Op)) : Type 0 where
  pub within : count ≤ length l
  pub none : (i : ℕ) (e : LocalEntry Op) → i < count → slice_get l i ≡ Some e →
      is_mark e.mark Unpushed ≡ false

-- It is true of a configuration.
pub record IsTrueOf {Op : Type 0} (place : Op → ℕ) (k : Knowledge) (c : Config Op) : Type 0 where
  pub listed : (d : CommittedTx Op) → In d c.done → (p : Item Op) → In p d.entries →
      In p.id (k.ids (place p.op))
  pub taken : (x : Tx Op) → In x c.opened → (o : ℕ) →
      HasTaken place o c.done (k.ids o) (k.taken x.name o) x.local
  pub pushed : (x : Tx Op) → In x c.opened → HasPushed (k.pushed x.name) x.local

-- Nothing is known of any transaction.
pub record IsBlank (k : Knowledge) : Type 0 where
  pub taken : (u : Name) (o : ℕ) → k.taken u o ≡ 0
  pub pushed : (u : Name) → k.pushed u ≡ 0

-- nothing is known of a transaction any more
pub record Forgets (t : Name) (old new : Knowledge) : Type 0 where
  pub ids : (o : ℕ) → new.ids o ≡ old.ids o
  pub taken : (u : Name) (o : ℕ) → new.taken u o ≡ (if u =ⁿ t then 0 else old.taken u o)
  pub pushed : (u : Name) → new.pushed u ≡ (if u =ⁿ t then 0 else old.pushed u)

-- of a transaction at most so many entries are known not to be unpushed; nothing else changes
pub record LowersPushed (t : Name) (most : ℕ) (old new : Knowledge) : Type 0 where
  pub ids : (o : ℕ) → new.ids o ≡ old.ids o
  pub taken : (u : Name) (o : ℕ) → new.taken u o ≡ old.taken u o
  pub pushed : (u : Name) →
      new.pushed u ≡ (if u =ⁿ t then min (old.pushed u) most else old.pushed u)

-- the same, if there is such a number; else nothing changes
abbrev pub LowersTo : Name → Option ℕ → Knowledge → Knowledge → Type 0
LowersTo t None old new = new ≡ old
LowersTo t (Some most) old new = LowersPushed t most old new

-- the position of the entry of an id in the local log of a transaction that may be open
abbrev pub local_place : {Op : Type 0} → ℕ → Option (Tx Op) → Option ℕ
local_place id None = None
local_place id (Some x) = position (λ e. e.id == id) x.local

-- A number of ids of one transaction and object may be lower than before. Nothing else changes.
pub record LowersTaken (t : Name) (object : ℕ) (old new : Knowledge) : Type 0 where
  pub ids : (o : ℕ) → new.ids o ≡ old.ids o
  pub taken : (u : Name) (o : ℕ) → (new.taken u o ≡ old.taken u o)
      ⊎ (((u =ⁿ t) ≡ true) × (o ≡ object) × (new.taken u o ≤ old.taken u o))
  pub pushed : (u : Name) → new.pushed u ≡ old.pushed u

-- a committed entry of this id is on the object
abbrev pub IsCommittedOn : {Op : Type 0} → (Op → ℕ) → List (SharedEntry Op) → ℕ → ℕ → Type 0
IsCommittedOn {Op} place G id o =
    (g : SharedEntry Op) × In g G × (g.id ≡ id) × (g.committed ≡ true) × (place g.op ≡ o)

-- If an entry of this id is committed, a transaction is to look at its id again.
abbrev pub IsUntaken : {Op : Type 0} → (Op → ℕ) → List (SharedEntry Op) → Name → ℕ → Knowledge →
    Type 0
IsUntaken {Op} place G t id k = (g : SharedEntry Op) → In g G → g.id ≡ id → g.committed ≡ true →
    (k.taken t (place g.op) ≡ 0) ⊎ In id (drop (k.taken t (place g.op)) (k.ids (place g.op)))

-- Before an UNPULL, of its transaction one entry less is known not to be unpushed. If its entry is
-- committed, the number of ids on that object may be lower, so that the id is looked at again. All
-- other numbers are as before.
pub record ForgetsPulled {Op : Type 0} (place : Op → ℕ) (G : List (SharedEntry Op)) (t : Name)
    (id : ℕ) (old new : Knowledge) : Type 0 where
  pub ids : (o : ℕ) → new.ids o ≡ old.ids o
  pub taken : (u : Name) (o : ℕ) → (new.taken u o ≡ old.taken u o)
      ⊎ (((u =ⁿ t) ≡ true) × IsCommittedOn place G id o × (new.taken u o ≤ old.taken u o))
  pub pushed : (u : Name) →
      new.pushed u ≡ (if u =ⁿ t then old.pushed u - 1 else old.pushed u)
  pub untaken : IsUntaken place G t id new

-- What is forgotten before a step: what is known of a transaction that begins or ends; before an
-- UNPUSH, that its entry and those after it are not unpushed; and before an UNPULL, that its entry is
-- there.
abbrev pub ForgetsBefore : {Op : Type 0} → (Op → ℕ) → Step Op → Config Op → Knowledge →
    Knowledge → Type 0
ForgetsBefore place (Begin t p b) c old new = Forgets t old new
ForgetsBefore place (App t id op) c old new = new ≡ old
ForgetsBefore place (Unapp t id) c old new = new ≡ old
ForgetsBefore place (Push t id) c old new = new ≡ old
ForgetsBefore place (Unpush t id) c old new = LowersTo t (local_place id (tx t c.opened)) old new
ForgetsBefore place (Pull t id) c old new = new ≡ old
ForgetsBefore place (Unpull t id) c old new = ForgetsPulled place c.shared t id old new
ForgetsBefore place (Cmt t) c old new = Forgets t old new
ForgetsBefore place (Quit t) c old new = Forgets t old new
ForgetsBefore place (Note t) c old new = new ≡ old

-- the ids of those operations that are on an object
abbrev pub ids_on : {Op : Type 0} → (Op → ℕ) → ℕ → List (Item Op) → List ℕ
ids_on place o items = map (λ p. p.id) (filter (λ p. place p.op == o) items)

-- the same of a transaction, if there is one
abbrev pub ids_of : {Op : Type 0} → (Op → ℕ) → ℕ → Option (CommittedTx Op) → List ℕ
ids_of place o None = []
ids_of place o (Some d) = ids_on place o d.entries

-- the last of a list
abbrev pub last_of : {A : Type 0} → List A → Option A
last_of xs = slice_get xs (length xs - 1)

-- more ids are listed
pub record Lists (more : ℕ → List ℕ) (old new : Knowledge) : Type 0 where
  pub ids : (o : ℕ) → new.ids o ≡ old.ids o ++ more o
  pub taken : (u : Name) (o : ℕ) → new.taken u o ≡ old.taken u o
  pub pushed : (u : Name) → new.pushed u ≡ old.pushed u

-- What is listed after a step, by the transactions that are committed then.
abbrev pub ListsAfter : {Op : Type 0} → (Op → ℕ) → Step Op → List (CommittedTx Op) → Knowledge →
    Knowledge → Type 0
ListsAfter place (Begin t p b) done old new = new ≡ old
ListsAfter place (App t id op) done old new = new ≡ old
ListsAfter place (Unapp t id) done old new = new ≡ old
ListsAfter place (Push t id) done old new = new ≡ old
ListsAfter place (Unpush t id) done old new = new ≡ old
ListsAfter place (Pull t id) done old new = new ≡ old
ListsAfter place (Unpull t id) done old new = new ≡ old
ListsAfter place (Cmt t) done old new = Lists (λ o. ids_of place o (last_of done)) old new
ListsAfter place (Quit t) done old new = new ≡ old
ListsAfter place (Note t) done old new = new ≡ old

-- What each of these transactions committed is listed, and nothing is known of a transaction.
pub record ListsAll {Op : Type 0} (place : Op → ℕ) (done : List (CommittedTx Op))
    (k : Knowledge) : Type 0 where
  pub listed : (d : CommittedTx Op) → In d done → (p : Item Op) → In p d.entries →
      In p.id (k.ids (place p.op))
  pub blank : IsBlank k

-- Each count of ids is none, or as it was, or this one, of a transaction and an object.
pub record SetsTaken (t : Name) (object count : ℕ) (old new : Knowledge) : Type 0 where
  pub ids : (o : ℕ) → new.ids o ≡ old.ids o
  pub pushed : (u : Name) → new.pushed u ≡ old.pushed u
  pub taken : (u : Name) (o : ℕ) → (new.taken u o ≡ 0) ⊎ (new.taken u o ≡ old.taken u o)
      ⊎ (((u =ⁿ t) ≡ true) × (o ≡ object) × (new.taken u o ≡ count))

-- the count of ids of a transaction and an object is as it was, or this one; nothing else changes
pub record ReplacesTaken (t : Name) (object count : ℕ) (old new : Knowledge) : Type 0 where
  pub ids : (o : ℕ) → new.ids o ≡ old.ids o
  pub pushed : (u : Name) → new.pushed u ≡ old.pushed u
  pub taken : (u : Name) (o : ℕ) → (new.taken u o ≡ old.taken u o)
      ⊎ (((u =ⁿ t) ≡ true) × (o ≡ object) × (new.taken u o ≡ count))

-- the count of entries of a transaction is this one; nothing else changes
pub record SetsPushed (t : Name) (count : ℕ) (old new : Knowledge) : Type 0 where
  pub ids : (o : ℕ) → new.ids o ≡ old.ids o
  pub taken : (u : Name) (o : ℕ) → new.taken u o ≡ old.taken u o
  pub pushed : (u : Name) → new.pushed u ≡ (if u =ⁿ t then count else old.pushed u)

-- Each count of ids is none, or as it was, or it is of a transaction with this local log, which has
-- what is counted more.
pub record TakesMore {Op : Type 0} (t : Name) (l : List (LocalEntry Op)) (old new : Knowledge) :
    Type 0 where
  pub ids : (o : ℕ) → new.ids o ≡ old.ids o
  pub pushed : (u : Name) → new.pushed u ≡ old.pushed u
  pub taken : (u : Name) (o : ℕ) → (new.taken u o ≡ 0) ⊎ (new.taken u o ≡ old.taken u o)
      ⊎ (((u =ⁿ t) ≡ true) × (new.taken u o ≤ length (old.ids o))
      × ((i id : ℕ) → old.taken t o ≤ i → i < new.taken u o → slice_get (old.ids o) i ≡ Some id →
      stands_in l id ≡ true))

-- The same of the entries that are not unpushed.
pub record PushesMore {Op : Type 0} (t : Name) (l : List (LocalEntry Op)) (old new : Knowledge) :
    Type 0 where
  pub ids : (o : ℕ) → new.ids o ≡ old.ids o
  pub taken : (u : Name) (o : ℕ) → new.taken u o ≡ old.taken u o
  pub pushed : (u : Name) → (new.pushed u ≡ 0) ⊎ (new.pushed u ≡ old.pushed u)
      ⊎ (((u =ⁿ t) ≡ true) × (new.pushed u ≤ length l)
      × ((i : ℕ) (e : LocalEntry Op) → old.pushed t ≤ i → i < new.pushed u →
      slice_get l i ≡ Some e → is_mark e.mark Unpushed ≡ false))

-- A committed entry of G on the object is in a local log, or its id is one of these.
abbrev pub IsAllBut : {Op : Type 0} → (Op → ℕ) → ℕ → List (SharedEntry Op) →
    List (LocalEntry Op) → List ℕ → Type 0
IsAllBut {Op} place o G l ids = (g : SharedEntry Op) → In g G → g.committed ≡ true →
    place g.op ≡ o → stands_in l g.id ≡ false → In g.id ids

-- The same of an entry that is committed or owned by a source.
abbrev pub IsFollowedBut : {Op : Type 0} → (Op → ℕ) → ℕ → List Name → List (SharedEntry Op) →
    List (LocalEntry Op) → List ℕ → Type 0
IsFollowedBut {Op} place o sources G l ids = (g : SharedEntry Op) → In g G →
    is_followed sources g ≡ true → place g.op ≡ o → stands_in l g.id ≡ false → In g.id ids

-- Each entry of G with one of these ids is at one of these positions.
abbrev pub HoldsPositions : {Op : Type 0} → List ℕ → List (SharedEntry Op) → List ℕ → Type 0
HoldsPositions {Op} ids G at = (k : ℕ) (g : SharedEntry Op) → slice_get G k ≡ Some g →
    In g.id ids → Contains at k

-- Each entry of G on the object that is followed and is not in a local log is at one of these
-- positions.
abbrev pub HoldsWanted : {Op : Type 0} → (Op → ℕ) → ℕ → List Name → List (SharedEntry Op) →
    List (LocalEntry Op) → List ℕ → Type 0
HoldsWanted {Op} place o sources G l at = (k : ℕ) (g : SharedEntry Op) →
    slice_get G k ≡ Some g → is_followed sources g ≡ true → place g.op ≡ o →
    stands_in l g.id ≡ false → Contains at k
