-- Meaning: which record of a run fails, of any records that become steps.
use Rattle.std.specs.Prelude.{◌≡◌, ℕ, suc, ◌∷◌, ◌++◌, Option, Some, slice_get}
use Rattle.pp_model.specs.Config.{Start, Step, first}
use Rattle.pp_model.specs.Object.{Object}
use Rattle.pp_model.specs.Rules.{IsVerdict, Rejected, RunsFrom, StartMeets, Verdict}
use Rattle.pp_records.specs.Runs.{Lined, LinedSteps, Records, Standing, Translation, after_records}
use Rattle.pp_records.specs.Runs.{bare, joined_steps, outset, steps_at}

-- All steps of the records, also those after one that fails.
abbrev pub all_steps : {F R Op : Type 0} → Translation F R Op → Option (Start Op) → Records R →
    LinedSteps Op
all_steps T h rs = joined_steps T (outset T h) rs

-- The configuration and the front after the records.
abbrev pub standing_after : {F R Op : Type 0} → Translation F R Op → Option (Start Op) → Records R →
    Standing F Op
standing_after T h rs = after_records T (outset T h) rs

-- The start holds, and each step of the records before this one, and not each of its own: it has
-- the first step that fails.
pub record FailsIn {F R Op State : Type 0} (O : Object Op State) (T : Translation F R Op)
    (h : Option (Start Op)) (rs : Records R) (r : Lined R) : Type 0 where
  pub begun : StartMeets O h
  pub before : Records R
  pub behind : Records R
  pub parts : rs ≡ before ++ r ∷ behind
  pub hold : RunsFrom O (first h) (bare (all_steps T h before))
  pub fails :
      RunsFrom O (standing_after T h before).config
      (steps_at T (standing_after T h before) r.what) →
      ⊥

-- The verdict rejects one of these steps by one of its criteria, and this step is on this line.
abbrev pub IsRejectedOn : {Op : Type 0} → LinedSteps Op → ℕ → Verdict → Type 0
IsRejectedOn {Op} ss line v =
    (i n : ℕ) × (v ≡ Rejected (suc i) (suc n))
    × ((s : Lined (Step Op)) × (slice_get ss i ≡ Some s) × (s.line ≡ line))

-- The law of which record of a run fails.
pub record FailureLaw {F R Op State : Type 0} (O : Object Op State) (T : Translation F R Op) :
    Type 0 where
  -- At most one record fails, at one position. None fails if each step meets its criteria. One
  -- fails if the start meets its criteria and a step does not. (This says that it is impossible
  -- that none fails, since it cannot be computed which one does.)
  pub one : (h : Option (Start Op)) (rs : Records R) (r q : Lined R) (a : FailsIn O T h rs r)
      (b : FailsIn O T h rs q) → (r ≡ q) × (a.before ≡ b.before)
  pub none : (h : Option (Start Op)) (rs : Records R) (r : Lined R) → FailsIn O T h rs r →
      RunsFrom O (first h) (bare (all_steps T h rs)) → ⊥
  pub some : (h : Option (Start Op)) (rs : Records R) → StartMeets O h →
      (RunsFrom O (first h) (bare (all_steps T h rs)) → ⊥) →
      ((r : Lined R) → FailsIn O T h rs r → ⊥) → ⊥
  -- Records after the failing one change nothing.
  pub stays : (h : Option (Start Op)) (rs more : Records R) (r : Lined R) → FailsIn O T h rs r →
      FailsIn O T h (rs ++ more) r
  -- If the start fails, the verdict of the steps rejects the start.
  pub unbegun : (h : Option (Start Op)) (rs : Records R) (v : Verdict) → (StartMeets O h → ⊥) →
      IsVerdict O h (bare (all_steps T h rs)) v → (n : ℕ) × (v ≡ Rejected 0 (suc n))
  -- The verdict of the steps, of which there is at most one, rejects a step on the line of the
  -- record.
  pub verdict : (h : Option (Start Op)) (rs : Records R) (r : Lined R) (v : Verdict) →
      FailsIn O T h rs r → IsVerdict O h (bare (all_steps T h rs)) v →
      IsRejectedOn (all_steps T h rs) r.line v
