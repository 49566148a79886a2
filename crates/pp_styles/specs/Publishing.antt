-- Meaning: what is known of the entries that transactions published, and when it is true.
use Rattle.std.specs.Prelude.{◌≡◌, ◌⊎◌, ◌≤◌, ◌==◌, ◌++◌, ◌∷◌, ℕ, Bool, true, false, List, []}
use Rattle.std.specs.Prelude.{length, drop, Option, None, Some, if◌then◌else◌, nat_eq}
use Rattle.std.specs.Map.{lookup}
use Rattle.std.specs.Str.{bytes_eq}
use Rattle.indexmap.specs.IndexMap.{IndexMap}
use Rattle.pp_core.specs.Steps.{Step, Begin, App, Unapp, Push, Unpush, Pull, Unpull, Cmt, Quit, Note}
use Rattle.pp_core.specs.declared.entry.LocalEntry.{LocalEntry}
use Rattle.pp_core.specs.declared.entry.SharedEntry.{SharedEntry}
use Rattle.pp_records.specs.Expansions.{stands_in}
use Rattle.pp_model.specs.Config.{Config, Tx}
use Rattle.pp_model.specs.Lists.{In}
use Rattle.pp_model.specs.Names.{Name, ◌=ⁿ◌}
use Rattle.pp_styles.specs.Knowing.{last_of}
use Rattle.pp_styles.specs.Noting.{kept_ids, taken_in}
use Rattle.pp_styles.specs.declared.published.Published.{Published}

-- What is known: whether lists are kept; for each owner and object, the ids that the owner pushed,
-- in order; how many of these ids, from the first on, are gone for all transactions; and how many
-- of them each transaction has passed.
pub record Publications : Type 0 where
  pub kept : Bool
  pub ids : Name → ℕ → List ℕ
  pub gone : Name → ℕ → ℕ
  pub passed : Name → Name → ℕ → ℕ

-- The first `count` ids of each list are skipped: each list has so many, and an entry of G that is
-- not in the local log has its id after them.
pub record HasSkipped {Op : Type 0} (place : Op → ℕ) (p : Publications) (count : Name → ℕ → ℕ)
    (G : List (SharedEntry Op)) (l : List (LocalEntry Op)) : Type 0 where
  pub within : (v : Name) (o : ℕ) → count v o ≤ length (p.ids v o)
  pub rest : (g : SharedEntry Op) → In g G → stands_in l g.id ≡ false →
      In g.id (drop (count g.owner (place g.op)) (p.ids g.owner (place g.op)))

-- The id of each entry is in the list of its owner and its object.
abbrev pub AllListed : {Op : Type 0} → (Op → ℕ) → Publications → List (SharedEntry Op) → Type 0
AllListed {Op} place p G =
    (g : SharedEntry Op) → In g G → In g.id (p.ids g.owner (place g.op))

-- What is known is true of a configuration. If lists are kept, each entry of the shared log is in
-- its list, also after the ids that are gone. An entry that a transaction lacks is after the ids
-- that the transaction has passed.
pub record TellsTrue {Op : Type 0} (place : Op → ℕ) (p : Publications) (c : Config Op) :
    Type 0 where
  pub listed : p.kept ≡ true → AllListed place p c.shared
  pub gone : p.kept ≡ true → HasSkipped place p p.gone c.shared []
  pub passed : p.kept ≡ true → (x : Tx Op) → In x c.opened →
      HasSkipped place p (p.passed x.name) c.shared x.local

-- a transaction has passed nothing any more
pub record Unpasses (t : Name) (old new : Publications) : Type 0 where
  pub kept : new.kept ≡ old.kept
  pub ids : (v : Name) (o : ℕ) → new.ids v o ≡ old.ids v o
  pub gone : (v : Name) (o : ℕ) → new.gone v o ≡ old.gone v o
  pub passed : (u v : Name) (o : ℕ) →
      new.passed u v o ≡ (if u =ⁿ t then 0 else old.passed u v o)

-- The number of ids of one transaction, owner and object may be lower than before. Each other number
-- is as it was.
abbrev pub LowersPassed : Name → Name → ℕ → Publications → Publications → Type 0
LowersPassed t owner object old new = (u v : Name) (o : ℕ) → (new.passed u v o ≡ old.passed u v o)
    ⊎ (((u =ⁿ t) ≡ true) × ((v =ⁿ owner) ≡ true) × (o ≡ object)
    × (new.passed u v o ≤ old.passed u v o))

-- an entry of G has this id, and is of this owner and object
abbrev pub IsEntryOf : {Op : Type 0} → (Op → ℕ) → List (SharedEntry Op) → ℕ → Name → ℕ → Type 0
IsEntryOf {Op} place G id v o =
    (g : SharedEntry Op) × In g G × (g.id ≡ id) × ((v =ⁿ g.owner) ≡ true) × (place g.op ≡ o)

-- A number of a transaction may be lower at the owner and object of an entry of G with this id. Each
-- other number is as it was. If lists are kept, the transaction has not passed this id of an entry
-- of G.
pub record PassesBack {Op : Type 0} (place : Op → ℕ) (G : List (SharedEntry Op)) (t : Name) (id : ℕ)
    (old new : Publications) : Type 0 where
  pub kept : new.kept ≡ old.kept
  pub ids : (v : Name) (o : ℕ) → new.ids v o ≡ old.ids v o
  pub gone : (v : Name) (o : ℕ) → new.gone v o ≡ old.gone v o
  pub passed : (u v : Name) (o : ℕ) → (new.passed u v o ≡ old.passed u v o)
      ⊎ (((u =ⁿ t) ≡ true) × IsEntryOf place G id v o × (new.passed u v o ≤ old.passed u v o))
  pub away : old.kept ≡ true → (g : SharedEntry Op) → In g G → g.id ≡ id →
      (new.passed t g.owner (place g.op) ≡ 0)
      ⊎ In id (drop (new.passed t g.owner (place g.op)) (old.ids g.owner (place g.op)))

-- What is forgotten before a step: what a transaction has passed that begins or ends; and before an
-- UNPULL, that its entry is passed.
abbrev pub UnpassesBefore : {Op : Type 0} → (Op → ℕ) → Step Op → List (SharedEntry Op) →
    Publications → Publications → Type 0
UnpassesBefore place (Begin t p b) G old new = Unpasses t old new
UnpassesBefore place (App t id op) G old new = new ≡ old
UnpassesBefore place (Unapp t id) G old new = new ≡ old
UnpassesBefore place (Push t id) G old new = new ≡ old
UnpassesBefore place (Unpush t id) G old new = new ≡ old
UnpassesBefore place (Pull t id) G old new = new ≡ old
UnpassesBefore place (Unpull t id) G old new = PassesBack place G t id old new
UnpassesBefore place (Cmt t) G old new = Unpasses t old new
UnpassesBefore place (Quit t) G old new = Unpasses t old new
UnpassesBefore place (Note t) G old new = new ≡ old

-- the list with an id more, if the entry is of this owner and object
abbrev pub listed_more : {Op : Type 0} → (Op → ℕ) → Option (SharedEntry Op) →
    (Name → ℕ → List ℕ) → Name → ℕ → List ℕ
listed_more place None old v o = old v o
listed_more place (Some g) old v o =
    if o == place g.op
    then (if v =ⁿ g.owner then old g.owner (place g.op) ++ g.id ∷ [] else old v (place g.op))
    else old v o

-- the last entry of G is listed, if lists are kept
pub record ListsLast {Op : Type 0} (place : Op → ℕ) (G : List (SharedEntry Op))
    (old new : Publications) : Type 0 where
  pub kept : new.kept ≡ old.kept
  pub ids : old.kept ≡ true → (v : Name) (o : ℕ) →
      new.ids v o ≡ listed_more place (last_of G) old.ids v o
  pub gone : (v : Name) (o : ℕ) → new.gone v o ≡ old.gone v o
  pub passed : (u v : Name) (o : ℕ) → new.passed u v o ≡ old.passed u v o

-- What is listed after a step, by the shared log that is there then.
abbrev pub ListsPushed : {Op : Type 0} → (Op → ℕ) → Step Op → List (SharedEntry Op) →
    Publications → Publications → Type 0
ListsPushed place (Begin t p b) G old new = new ≡ old
ListsPushed place (App t id op) G old new = new ≡ old
ListsPushed place (Unapp t id) G old new = new ≡ old
ListsPushed place (Push t id) G old new = ListsLast place G old new
ListsPushed place (Unpush t id) G old new = new ≡ old
ListsPushed place (Pull t id) G old new = new ≡ old
ListsPushed place (Unpull t id) G old new = new ≡ old
ListsPushed place (Cmt t) G old new = new ≡ old
ListsPushed place (Quit t) G old new = new ≡ old
ListsPushed place (Note t) G old new = new ≡ old

-- Lists are kept as before, or none are kept, or all of G is listed, and nothing is gone or passed.
abbrev pub Keeps : {Op : Type 0} → (Op → ℕ) → List (SharedEntry Op) → Publications →
    Publications → Type 0
Keeps place G old new =
    (new ≡ old) ⊎ (new.kept ≡ false)
    ⊎ (AllListed place new G × ((v : Name) (o : ℕ) → new.gone v o ≡ 0)
    × ((u v : Name) (o : ℕ) → new.passed u v o ≡ 0))

-- If an entry of G is not in the local log, and its id is among `ids` from the n-th on and also from
-- the m-th on, its id is among `more`.
abbrev pub Adds : {Op : Type 0} → List (LocalEntry Op) → List (SharedEntry Op) → List ℕ → ℕ → ℕ →
    List ℕ → Type 0
Adds {Op} l G ids n m more = (g : SharedEntry Op) → In g G → stands_in l g.id ≡ false →
    In g.id (drop n ids) → In g.id (drop m ids) → In g.id more

-- Each number is as it was, or 0, or it is at this object, and the ids that it skips more need no
-- further look.
abbrev pub SkipsAt : {Op : Type 0} → List (LocalEntry Op) → List (SharedEntry Op) → ℕ →
    (Name → List ℕ) → (Name → ℕ → ℕ) → (Name → ℕ → ℕ) → (Name → ℕ → ℕ) → Type 0
SkipsAt l G o ids gone old new =
    (v : Name) (p : ℕ) → (new v p ≡ old v p) ⊎ (new v p ≡ 0)
    ⊎ ((p ≡ o) × (new v p ≤ length (ids v))
    × Adds l G (ids v) (gone v p) (old v p) (drop (new v p) (ids v)))

-- `SkipsAt` for the ids that are gone, and for those that a transaction with this local log has
-- passed.
pub record LooksFurther {Op : Type 0} (t : Name) (o : ℕ) (l : List (LocalEntry Op))
    (G : List (SharedEntry Op)) (old new : Publications) : Type 0 where
  pub kept : new.kept ≡ old.kept
  pub ids : (v : Name) (p : ℕ) → new.ids v p ≡ old.ids v p
  pub gone : SkipsAt [] G o (λ v. old.ids v o) old.gone old.gone new.gone
  pub passed : (u v : Name) (p : ℕ) → (new.passed u v p ≡ old.passed u v p)
      ⊎ (new.passed u v p ≡ 0)
      ⊎ (((u =ⁿ t) ≡ true) × (p ≡ o) × (new.passed u v p ≤ length (old.ids v p))
      × Adds l G (old.ids v p) (old.gone v p) (old.passed t v p)
      (drop (new.passed u v p) (old.ids v p)))

-- what is kept, and nothing if none is
abbrev pub kept_entries : {K V H : Type 0} → Option (IndexMap K V H) → List (K × V)
kept_entries None = []
kept_entries (Some m) = m.entries

-- the ids that an owner pushed on an object, by the lists at that object and by all lists
abbrev pub ids_of : Name → List (Name × List ℕ) → List ℕ
ids_of v owners = kept_ids (lookup (bytes_eq v) owners)

abbrev pub ids_by : {H : Type 0} → Name → ℕ → List (ℕ × IndexMap Name (List ℕ) H) → List ℕ
ids_by v o lists = ids_of v (kept_entries (lookup (nat_eq o) lists))

-- how many of them a transaction has passed
abbrev pub kept_passed : Option (List (Name × List (ℕ × ℕ))) → List (Name × List (ℕ × ℕ))
kept_passed None = []
kept_passed (Some passed) = passed

abbrev pub passed_by : Name → Name → ℕ → List (Name × List (Name × List (ℕ × ℕ))) → ℕ
passed_by u v o passed = taken_in v (kept_passed (lookup (bytes_eq u) passed)) o

-- what the lists say
abbrev pub publications : Published → Publications
publications n =
    record {
      kept = n.kept;
      ids = λ v o. ids_by v o n.lists.entries;
      gone = λ v o. taken_in v n.gone o;
      passed = λ u v o. passed_by u v o n.passed.entries;
    }
