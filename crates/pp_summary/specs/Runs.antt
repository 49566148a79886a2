-- Meaning: boosted runs, and what the briefs decide about their records.
use Rattle.std.specs.Prelude.{ℕ, List, [], ◌∷◌}
use Rattle.pp_core.specs.declared.call.Kind.{Kind}
use Rattle.pp_core.specs.declared.call.Style.TheVariants as styles
use Rattle.pp_model.specs.Lists.{Each}
use Rattle.pp_model.specs.Object.{Object}
use Rattle.pp_records.specs.Expansions.{IsOfStyle}
use Rattle.pp_records.specs.Fronts.{Front}
use Rattle.pp_records.specs.Records.{RunRecord}
use Rattle.pp_records.specs.Runs.{Records, Translation, bare}
use Rattle.pp_records.specs.Styles.{translation}
use Rattle.pp_summary.specs.Brief.{Brief, BriefGood, brief_then}

-- The record is one of a boosted run.
abbrev pub IsBoosted : {Op : Type 0} → RunRecord Op → Type 0
IsBoosted r = IsOfStyle styles.Boosted r

-- Each of the records is one of a boosted run.
abbrev pub AreBoosted : {Op : Type 0} → Records (RunRecord Op) → Type 0
AreBoosted rs = Each IsBoosted (bare rs)

-- How the records of a boosted run become steps.
abbrev pub boosting : {Op : Type 0} → (Op → ℕ) → List Kind → Translation Front (RunRecord Op) Op
boosting place ks = translation place styles.Boosted ks

-- Each record is good in the brief after the records before it.
abbrev pub BriefRuns : {Op State : Type 0} → Object Op State → (Op → ℕ) → Brief Op →
    List (RunRecord Op) → Type 0
BriefRuns O place B [] = Unit {0}
BriefRuns O place B (r ∷ rs) = BriefGood O place B r × BriefRuns O place (brief_then place B r) rs

-- The brief after these records.
abbrev pub brief_after : {Op : Type 0} → (Op → ℕ) → Brief Op → List (RunRecord Op) → Brief Op
brief_after place B [] = B
brief_after place B (r ∷ rs) = brief_after place (brief_then place B r) rs
