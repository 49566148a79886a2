-- Meaning: when a record of a dependent run is good, by the local logs, and its law. Below, G is the
-- shared log, and L the local log of a transaction.
use Rattle.std.specs.Prelude.{◌≡◌, ◌↔◌, ◌==◌, ℕ, zero, true, not, ◌&&◌, List, [], ◌∷◌, filter}
use Rattle.std.specs.Prelude.{map, reverse, Option, Some}
use Rattle.pp_core.specs.declared.call.Style.TheVariants as styles
use Rattle.pp_model.specs.Body.{IsWord}
use Rattle.pp_model.specs.Config.{Config, LocalEntry, Pulled, SharedEntry, Start, Tx, after_from}
use Rattle.pp_model.specs.Config.{first, local_ops, own_items, without_local}
use Rattle.pp_model.specs.Lists.{In}
use Rattle.pp_model.specs.Names.{Name}
use Rattle.pp_model.specs.Object.{Allowed, Object}
use Rattle.pp_model.specs.Rules.{Meets, RunsFrom, StartMeets, calls}
use Rattle.pp_model.specs.Sound.{Sound}
use Rattle.pp_records.specs.Expansions.{IsOfStyle, expand, is_followed, is_pulled_from, stands_in}
use Rattle.pp_records.specs.Fronts.{Front}
use Rattle.pp_records.specs.Records.{RunRecord}
use Rattle.pp_records.specs.Records as records
use Rattle.pp_laws_summary.specs.LocalLogs.{LocalOpAfter, LocalPushes, OfOpen}
use Rattle.pp_laws_summary.specs.Places.{PlacesPart}

-- the entries of G on the object that are committed or owned by a source, and that L lacks
abbrev pub followed_at : {Op : Type 0} → (Op → ℕ) → ℕ → List Name → List (SharedEntry Op) →
    List (LocalEntry Op) → List (SharedEntry Op)
followed_at place o sources G l =
    filter (λ g. (is_followed sources g && (place g.op == o)) && not (stands_in l g.id)) G

-- The conditions on an op record.
abbrev pub DependentOp : {Op State : Type 0} → Object Op State → (Op → ℕ) → List Name →
    Config Op → ℕ → Op → Tx Op → Type 0
DependentOp O place sources c id op x =
    LocalOpAfter O place (Some zero) (followed_at place (place op) sources c.shared x.local)
    c id op x

-- The conditions on a commit.
pub record DependentCommit {Op State : Type 0} (O : Object Op State) (place : Op → ℕ)
    (c : Config Op) (x : Tx Op) : Type 0 where
  -- CMT 2
  pub word : IsWord x.body (calls O (own_items x.local))
  pub pushes : LocalPushes O place c x
  -- CMT 4
  pub done : (e : LocalEntry Op) → In e x.local → e.mark ≡ Pulled →
      (g : SharedEntry Op) × In g c.shared × (g.id ≡ e.id) × (g.committed ≡ true)

-- L stays allowed while the entries of these ids leave it, one after another
abbrev pub Leaves : {Op State : Type 0} → Object Op State → List ℕ → List (LocalEntry Op) → Type 0
Leaves O [] l = Unit {0}
Leaves O (i ∷ is) l =
    Allowed O (local_ops (without_local i l)) × Leaves O is (without_local i l)

-- the ids of the entries that were pulled from the source, from the end of L
abbrev pub pulled_ids : {Op : Type 0} → Name → List (LocalEntry Op) → List ℕ
pulled_ids source l = map (λ e. e.id) (reverse (filter (is_pulled_from source) l))

-- A record is good, by the local logs.
abbrev pub DependentGood : {Op State : Type 0} → Object Op State → (Op → ℕ) → Front → Config Op →
    RunRecord Op → Type 0
DependentGood O place f c (records.Plain step) = Meets O c step
DependentGood O place f c (records.Op t id op) =
    OfOpen c t (DependentOp O place (f.sources t) c id op)
DependentGood O place f c (records.Commit t) = OfOpen c t (DependentCommit O place c)
DependentGood O place f c (records.Abort t) = OfOpen c t (λ x. Unit {0})
DependentGood O place f c (records.Retry t) = OfOpen c t (λ x. Unit {0})
DependentGood O place f c (records.Refresh t o) = ⊥
DependentGood O place f c (records.XBegin t) = ⊥
DependentGood O place f c (records.XEnd t) = ⊥
DependentGood O place f c (records.XAbort t) = ⊥
DependentGood O place f c (records.Depend t source) = OfOpen c t (λ x. Unit {0})
DependentGood O place f c (records.Publish t) = OfOpen c t (LocalPushes O place c)
DependentGood O place f c (records.DropSource t source) =
    OfOpen c t (λ x. Leaves O (pulled_ids source x.local) x.local)

-- The local logs decide each record of any sound configuration.
pub record DependentDecides {Op State : Type 0} (O : Object Op State) (place : Op → ℕ) :
    Type 0 where
  pub start : (h : Option (Start Op)) → StartMeets O h → Sound O (first h)
  -- a record is good exactly if each of its steps meets its criteria
  pub good : (f : Front) (c : Config Op) (r : RunRecord Op) → IsOfStyle styles.Dependent r →
      Sound O c → DependentGood O place f c r ↔ RunsFrom O c (expand place styles.Dependent f c r)
  pub kept : (f : Front) (c : Config Op) (r : RunRecord Op) → IsOfStyle styles.Dependent r →
      Sound O c → DependentGood O place f c r →
      Sound O (after_from c (expand place styles.Dependent f c r))

-- The law of dependent runs.
abbrev pub DependentLaw : {Op State : Type 0} → Object Op State → Type 0
DependentLaw {Op} O = (place : Op → ℕ) → PlacesPart O place → DependentDecides O place
