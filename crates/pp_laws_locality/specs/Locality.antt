-- Meaning: locality. A run is right exactly if its bookkeeping is right and it is right on each
-- object.
use Rattle.std.specs.Prelude.{◌≡◌, ◌↔◌, ◌⊎◌, ℕ, suc, List, ◌∷◌, ◌++◌, Option}
use Rattle.pp_core.specs.declared.call.Kind.{Kind}
use Rattle.pp_core.specs.declared.call.Style.{Style}
use Rattle.pp_model.specs.Config.{Start, Step, first}
use Rattle.pp_model.specs.Lists.{Each, In}
use Rattle.pp_model.specs.Object.{Object, TellsStates}
use Rattle.pp_model.specs.Rules.{Accepted, IsVerdict, Rejected, StartMeets, Verdict}
use Rattle.pp_records.specs.Expansions.{IsOfStyle}
use Rattle.pp_records.specs.Records.{RunRecord}
use Rattle.pp_records.specs.Runs.{Lined, Records, bare, joined_steps, outset}
use Rattle.pp_records.specs.Styles.{translation}
use Rattle.pp_laws_summary.specs.LocalLogs.{HasSummary}
use Rattle.pp_laws_summary.specs.Places.{PlacesPart}
use Rattle.pp_laws_summary.specs.Summary.{summary_of}
use Rattle.pp_laws_locality.specs.Bookkeeping.{RunBookkeeping, StartBookkeeping}
use Rattle.pp_laws_locality.specs.Rejected.{FailsFrom, IsOfBookkeeping}
use Rattle.pp_laws_locality.specs.Restricted.{IsOn, StartIsOn, restricted_records}
use Rattle.pp_laws_locality.specs.Restricted.{restricted_start}

-- The verdict of the run of these records.
abbrev pub HasVerdict : {Op State : Type 0} → Style → Object Op State → (Op → ℕ) → List Kind →
    Option (Start Op) → Records (RunRecord Op) → Verdict → Type 0
HasVerdict style O place ks h rs v =
    IsVerdict O h
    (bare (joined_steps (translation place style ks) (outset (translation place style ks) h) rs))
    v

-- It is accepted.
abbrev pub IsAccepted : {Op State : Type 0} → Style → Object Op State → (Op → ℕ) → List Kind →
    Option (Start Op) → Records (RunRecord Op) → Type 0
IsAccepted style O place ks h rs = HasVerdict style O place ks h rs Accepted

-- The bookkeeping of the start and of each record is right.
abbrev pub HasBookkeeping : {Op State : Type 0} → Style → Object Op State → (Op → ℕ) → List Kind →
    Option (Start Op) → Records (RunRecord Op) → Type 0
HasBookkeeping style O place ks h rs =
    StartBookkeeping h
    × RunBookkeeping style O place (summary_of place (outset (translation place style ks) h))
    (bare rs)

-- The first step of the run that violates a criterion is s, on this line. The number of the
-- criterion is n + 1.
abbrev pub RunFails : {Op State : Type 0} → Style → Object Op State → (Op → ℕ) → List Kind →
    Option (Start Op) → Records (RunRecord Op) → ℕ → Step Op → ℕ → Type 0
RunFails style O place ks h rs line s n =
    FailsFrom O (first h)
    (joined_steps (translation place style ks) (outset (translation place style ks) h) rs)
    line s n

-- The records before `next`, a record on this line, are accepted, as a run and as a restriction to
-- each object.
pub record AcceptedUpTo {Op State : Type 0} (style : Style) (O : Object Op State) (place : Op → ℕ)
    (ks : List Kind) (h : Option (Start Op)) (rs : Records (RunRecord Op)) (line : ℕ) : Type 0 where
  pub before : Records (RunRecord Op)
  pub next : Lined (RunRecord Op)
  pub after : Records (RunRecord Op)
  pub parts : rs ≡ before ++ next ∷ after
  pub on_line : next.line ≡ line
  pub whole : IsAccepted style O place ks h before
  pub each : (o : ℕ) →
      IsAccepted style O place ks (restricted_start place o h) (restricted_records place o before)

-- A start and a run are right exactly if their bookkeeping is, and each restriction to an object.
pub record IsLocal {Op State : Type 0} (style : Style) (O : Object Op State) (place : Op → ℕ) :
    Type 0 where
  pub start : (h : Option (Start Op)) →
      StartMeets O h ↔ (StartBookkeeping h × ((o : ℕ) → StartMeets O (restricted_start place o h)))
  pub accepted : (ks : List Kind) (h : Option (Start Op)) (rs : Records (RunRecord Op)) →
      Each (IsOfStyle style) (bare rs) →
      IsAccepted style O place ks h rs
      ↔ (HasBookkeeping style O place ks h rs
      × ((o : ℕ) →
      IsAccepted style O place ks (restricted_start place o h) (restricted_records place o rs)))
  -- It is enough to test the objects that the run is on.
  pub enough :
      (ks : List Kind) (h : Option (Start Op)) (rs : Records (RunRecord Op)) (objects : List ℕ) →
      Each (IsOfStyle style) (bare rs) → StartIsOn place objects h →
      Each (IsOn place objects) (bare rs) → HasBookkeeping style O place ks h rs →
      ((o : ℕ) → In o objects →
      IsAccepted style O place ks (restricted_start place o h) (restricted_records place o rs)) →
      IsAccepted style O place ks h rs
  -- A rejection is one of the bookkeeping, or the restriction to some object o is rejected on the
  -- same line, at the same step, by the same criterion. Nothing else is said of o.
  pub rejected :
      (ks : List Kind) (h : Option (Start Op)) (rs : Records (RunRecord Op)) (line : ℕ)
      (s : Step Op) (n : ℕ) → Each (IsOfStyle style) (bare rs) → StartMeets O h →
      RunFails style O place ks h rs line s n →
      IsOfBookkeeping s (suc n)
      ⊎ ((o : ℕ)
      × RunFails style O place ks (restricted_start place o h) (restricted_records place o rs)
      line s n)
  -- No restriction is rejected at a record before `next`. This is a record on the line of the step.
  pub earlier :
      (ks : List Kind) (h : Option (Start Op)) (rs : Records (RunRecord Op)) (line : ℕ)
      (s : Step Op) (n : ℕ) → Each (IsOfStyle style) (bare rs) → StartMeets O h →
      RunFails style O place ks h rs line s n → AcceptedUpTo style O place ks h rs line
  -- Such a step is what the verdict rejects.
  pub verdict :
      (ks : List Kind) (h : Option (Start Op)) (rs : Records (RunRecord Op)) (line : ℕ)
      (s : Step Op) (n : ℕ) → StartMeets O h → RunFails style O place ks h rs line s n →
      (i : ℕ) × HasVerdict style O place ks h rs (Rejected i (suc n))
  pub fails :
      (ks : List Kind) (h : Option (Start Op)) (rs : Records (RunRecord Op)) (i m : ℕ) →
      StartMeets O h → HasVerdict style O place ks h rs (Rejected i m) →
      (line : ℕ) × (s : Step Op) × (n : ℕ) × (m ≡ suc n)
      × RunFails style O place ks h rs line s n

-- The law of locality.
abbrev pub LocalityLaw : {Op State : Type 0} → Object Op State → Type 0
LocalityLaw {Op} O =
    (style : Style) → HasSummary style → (place : Op → ℕ) → PlacesPart O place → TellsStates O →
    IsLocal style O place
