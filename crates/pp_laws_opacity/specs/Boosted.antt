-- The runs of style boosted are opaque.
use Rattle.std.specs.Prelude.{ℕ, List, Option}
use Rattle.pp_core.specs.declared.call.Kind.{Kind}
use Rattle.pp_core.specs.declared.call.Style.TheVariants.{Boosted}
use Rattle.pp_records.specs.Expansions.{IsOfStyle}
use Rattle.pp_records.specs.Records.{RunRecord}
use Rattle.pp_records.specs.Runs.{Lined, Records, bare, joined_steps, outset}
use Rattle.pp_records.specs.Styles.{translation}
use Rattle.pp_model.specs.Config.{Start, Step, first}
use Rattle.pp_model.specs.Lists.{In}
use Rattle.pp_model.specs.Object.{Object}
use Rattle.pp_model.specs.Rules.{RunsFrom, StartMeets}
use Rattle.pp_laws_opacity.specs.Opacity.{IsOpaque}

-- the steps of records of style boosted, over objects of these kinds
abbrev pub boosted_steps : {Op : Type 0} → (Op → ℕ) → List Kind → Option (Start Op) →
    Records (RunRecord Op) → List (Step Op)
boosted_steps place ks h rs =
    bare (joined_steps (translation place Boosted ks) (outset (translation place Boosted ks) h) rs)

-- If each of these steps meets its criteria, the run is opaque.
abbrev pub BoostedLaw : {Op State : Type 0} → Object Op State → Type 0
BoostedLaw {Op} O =
    (place : Op → ℕ) (ks : List Kind) (h : Option (Start Op)) (rs : Records (RunRecord Op)) →
    ((r : Lined (RunRecord Op)) → In r rs → IsOfStyle Boosted r.what) → StartMeets O h →
    RunsFrom O (first h) (boosted_steps place ks h rs) →
    IsOpaque O h (boosted_steps place ks h rs)
