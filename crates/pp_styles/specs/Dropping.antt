-- Meaning: what is known of the entries that transactions pulled, and when it is true.
use Rattle.std.specs.Prelude.{◌≡◌, ◌⊎◌, ℕ, Bool, true, false, List, [], Option, None, Some}
use Rattle.std.specs.Prelude.{is_some, nat_eq}
use Rattle.std.specs.List.{Contains, slice_get}
use Rattle.std.specs.Map.{lookup}
use Rattle.std.specs.Str.{bytes_eq}
use Rattle.indexmap.specs.IndexSet.{IndexSet, insert_key}
use Rattle.pp_core.specs.Steps.{Step, Begin, App, Unapp, Push, Unpush, Pull, Unpull, Cmt, Quit, Note}
use Rattle.pp_core.specs.declared.entry.LocalEntry.{LocalEntry}
use Rattle.pp_core.specs.declared.entry.SharedEntry.{SharedEntry}
use Rattle.pp_records.specs.Expansions.{is_pulled_from, stands_in}
use Rattle.pp_records.specs.Fronts.{at_name}
use Rattle.pp_model.specs.Config.{Config, Pulled as PulledMark, Tx, is_mark}
use Rattle.pp_model.specs.Lists.{In}
use Rattle.pp_model.specs.Names.{Name, ◌=ⁿ◌}
use Rattle.pp_styles.specs.Publishing.{kept_entries}
use Rattle.pp_styles.specs.declared.pulled.Pulled.{Pulled}

-- What is known: of each transaction whether lists are kept, and of each owner ids of what the
-- transaction pulled from it.
pub record Pullings : Type 0 where
  pub kept : Name → Bool
  pub ids : Name → Name → List ℕ

-- The id of each pulled entry of a local log is in the list of its owner.
abbrev pub HasPulled : {Op : Type 0} → (Name → List ℕ) → List (LocalEntry Op) → Type 0
HasPulled {Op} ids l =
    (e : LocalEntry Op) → In e l → is_mark e.mark PulledMark ≡ true → In e.id (ids e.owner)

-- It is true of a configuration.
abbrev pub KnowsPulled : {Op : Type 0} → Pullings → Config Op → Type 0
KnowsPulled {Op} p c =
    (x : Tx Op) → In x c.opened → p.kept x.name ≡ true → HasPulled (p.ids x.name) x.local

-- Each pulled entry of a local log that is from this source has its id among these.
abbrev pub IsPulledBut : {Op : Type 0} → Name → List (LocalEntry Op) → List ℕ → Type 0
IsPulledBut {Op} source l ids =
    (e : LocalEntry Op) → In e l → is_pulled_from source e ≡ true → In e.id ids

-- The same, by the positions of the entries.
abbrev pub HoldsPulled : {Op : Type 0} → Name → List (LocalEntry Op) → List ℕ → Type 0
HoldsPulled {Op} source l at = (k : ℕ) (e : LocalEntry Op) → slice_get l k ≡ Some e →
    is_pulled_from source e ≡ true → Contains at k

-- Each entry of a local log with one of these ids is at one of these positions.
abbrev pub HoldsLocal : {Op : Type 0} → List ℕ → List (LocalEntry Op) → List ℕ → Type 0
HoldsLocal {Op} ids l at = (k : ℕ) (e : LocalEntry Op) → slice_get l k ≡ Some e →
    In e.id ids → Contains at k

-- No list is shorter than before, and one of a pulled entry has its id.
pub record AddsPulled {Op : Type 0} (e : LocalEntry Op) (old new : Name → List ℕ) : Type 0 where
  pub same : (v : Name) (i : ℕ) → In i (old v) → In i (new v)
  pub here : is_mark e.mark PulledMark ≡ true → In e.id (new e.owner)

-- no lists of a transaction are kept any more, or they are as they were
abbrev pub Loses : Pullings → Pullings → Type 0
Loses old new = (u : Name) → (new.kept u ≡ false)
    ⊎ ((new.kept u ≡ old.kept u) × ((v : Name) → new.ids u v ≡ old.ids u v))

-- The same, or the lists are longer by an id of an owner.
abbrev pub AddsAt : Name → Name → ℕ → Pullings → Pullings → Type 0
AddsAt t owner id old new = (u : Name) → (new.kept u ≡ false)
    ⊎ (((u =ⁿ t) ≡ false) × (new.kept u ≡ old.kept u) × ((v : Name) → new.ids u v ≡ old.ids u v))
    ⊎ ((old.kept u ≡ true)
    × ((v : Name) →
    new.ids u v ≡ at_name owner (insert_key nat_eq (old.ids u owner) id) (old.ids u) v))

-- The same, or they are lists of a transaction.
abbrev pub Puts : Name → (Name → List ℕ) → Pullings → Pullings → Type 0
Puts t ids old new = (u : Name) → (new.kept u ≡ false)
    ⊎ ((new.kept u ≡ old.kept u) × ((v : Name) → new.ids u v ≡ old.ids u v))
    ⊎ (((u =ⁿ t) ≡ true) × ((v : Name) → new.ids u v ≡ ids v))

-- The same, or they have all that is pulled of the local log of a transaction.
abbrev pub Looks : {Op : Type 0} → Name → List (LocalEntry Op) → Pullings → Pullings → Type 0
Looks t l old new = (u : Name) → (new.kept u ≡ false)
    ⊎ ((new.kept u ≡ old.kept u) × ((v : Name) → new.ids u v ≡ old.ids u v))
    ⊎ (((u =ⁿ t) ≡ true) × HasPulled (new.ids u) l)

-- Of these ids the others are those that are in a local log.
pub record KeepsThere {Op : Type 0} (l : List (LocalEntry Op)) (ids there : List ℕ) : Type 0 where
  pub from : (i : ℕ) → In i there → In i ids × (stands_in l i ≡ true)
  pub all : (i : ℕ) → In i ids → stands_in l i ≡ true → In i there

-- Each list is as it was, or it is of this owner and keeps the ids that are in a local log.
abbrev pub TrimsAt : {Op : Type 0} → Name → List (LocalEntry Op) → (Name → List ℕ) →
    (Name → List ℕ) → Type 0
TrimsAt owner l old new = (v : Name) → (new v ≡ old v)
    ⊎ (((v =ⁿ owner) ≡ true) × KeepsThere l (old v) (new v))

-- The same of the lists of a transaction. Nothing else changes.
pub record Trims {Op : Type 0} (t owner : Name) (l : List (LocalEntry Op)) (old new : Pullings) :
    Type 0 where
  pub kept : (u : Name) → new.kept u ≡ old.kept u
  pub ids : (u : Name) → ((v : Name) → new.ids u v ≡ old.ids u v)
      ⊎ (((u =ⁿ t) ≡ true) × TrimsAt owner l (old.ids u) (new.ids u))

-- a transaction whose lists are kept had them kept before, and none of its lists has lost an id
abbrev pub Grows : Pullings → Pullings → Type 0
Grows old new = (u : Name) → new.kept u ≡ true →
    (old.kept u ≡ true) × ((v : Name) (i : ℕ) → In i (old.ids u v) → In i (new.ids u v))

-- the id of an entry of G is listed
abbrev pub IsListed : {Op : Type 0} → Name → ℕ → List (SharedEntry Op) → Pullings → Type 0
IsListed {Op} t id G p =
    (g : SharedEntry Op) → In g G → g.id ≡ id → p.kept t ≡ true → In id (p.ids t g.owner)

-- What is known before a step: no lists are kept of a transaction that begins or ends, and the entry
-- that a PULL takes over is listed.
abbrev pub ListsPull : {Op : Type 0} → Step Op → List (SharedEntry Op) → Pullings → Pullings →
    Type 0
ListsPull (Begin t p b) G old new = Loses old new
ListsPull (App t id op) G old new = new ≡ old
ListsPull (Unapp t id) G old new = new ≡ old
ListsPull (Push t id) G old new = new ≡ old
ListsPull (Unpush t id) G old new = new ≡ old
ListsPull (Pull t id) G old new = Grows old new × IsListed t id G new
ListsPull (Unpull t id) G old new = new ≡ old
ListsPull (Cmt t) G old new = Loses old new
ListsPull (Quit t) G old new = Loses old new
ListsPull (Note t) G old new = new ≡ old

-- the ids that are listed of an owner
abbrev pub kept_keys : {H : Type 0} → Option (IndexSet ℕ H) → List ℕ
kept_keys None = []
kept_keys (Some ids) = ids.keys

abbrev pub ids_from : {H : Type 0} → Name → List (Name × IndexSet ℕ H) → List ℕ
ids_from v owners = kept_keys (lookup (bytes_eq v) owners)

-- what the lists say
abbrev pub pullings : Pulled → Pullings
pullings n =
    record {
      kept = λ u. is_some (lookup (bytes_eq u) n.lists.entries);
      ids = λ u v. ids_from v (kept_entries (lookup (bytes_eq u) n.lists.entries));
    }
