-- Meaning: which criteria a run of one of the four recorded styles can break first.
use Rattle.std.specs.Prelude.{◌≡◌, ℕ, suc, List, [], ◌∷◌, ◌++◌, Option}
use Rattle.pp_core.specs.declared.call.Kind.{Kind}
use Rattle.pp_core.specs.declared.call.Style.{Style}
use Rattle.pp_core.specs.declared.call.Style.TheVariants as styles
use Rattle.pp_core.specs.declared.step.Rule.{Rule}
use Rattle.pp_core.specs.declared.step.Rule.TheVariants as rules
use Rattle.pp_core.specs.Steps.{rule_of}
use Rattle.pp_records.specs.Expansions.{IsOfStyle, IsRecorded}
use Rattle.pp_records.specs.Records.{RunRecord}
use Rattle.pp_records.specs.Runs.{Lined, LinedSteps, Records, bare, joined_steps, outset}
use Rattle.pp_records.specs.Styles.{translation}
use Rattle.pp_model.specs.Config.{Start, Step, after, first}
use Rattle.pp_model.specs.Lists.{In}
use Rattle.pp_model.specs.Object.{Object}
use Rattle.pp_model.specs.Rules.{Breaks, RunsFrom, StartMeets}

-- The numbers of the criteria of a rule that can be the first that a step violates, in a run of one
-- of the four recorded styles. The rows of style rules are empty, and no law uses them.
abbrev pub breakable : Rule → Style → List ℕ
breakable rules.Start styles.Rules = []
breakable rules.Start styles.Boosted = 1 ∷ 2 ∷ []
breakable rules.Start styles.Optimistic = 1 ∷ 2 ∷ []
breakable rules.Start styles.Hardware = 1 ∷ 2 ∷ []
breakable rules.Start styles.Dependent = 1 ∷ 2 ∷ []
breakable rules.Begin styles.Rules = []
breakable rules.Begin styles.Boosted = 1 ∷ 2 ∷ []
breakable rules.Begin styles.Optimistic = 1 ∷ 2 ∷ []
breakable rules.Begin styles.Hardware = 1 ∷ 2 ∷ []
breakable rules.Begin styles.Dependent = 1 ∷ 2 ∷ []
breakable rules.App styles.Rules = []
breakable rules.App styles.Boosted = 1 ∷ 2 ∷ 3 ∷ 4 ∷ []
breakable rules.App styles.Optimistic = 1 ∷ 2 ∷ 3 ∷ 4 ∷ []
breakable rules.App styles.Hardware = 1 ∷ 2 ∷ 3 ∷ 4 ∷ []
breakable rules.App styles.Dependent = 1 ∷ 2 ∷ 3 ∷ 4 ∷ []
breakable rules.Unapp styles.Rules = []
breakable rules.Unapp styles.Boosted = []
breakable rules.Unapp styles.Optimistic = []
breakable rules.Unapp styles.Hardware = []
breakable rules.Unapp styles.Dependent = []
breakable rules.Push styles.Rules = []
breakable rules.Push styles.Boosted = 4 ∷ 5 ∷ []
breakable rules.Push styles.Optimistic = 5 ∷ []
breakable rules.Push styles.Hardware = 4 ∷ 5 ∷ []
breakable rules.Push styles.Dependent = 4 ∷ 5 ∷ []
breakable rules.Unpush styles.Rules = []
breakable rules.Unpush styles.Boosted = []
breakable rules.Unpush styles.Optimistic = []
breakable rules.Unpush styles.Hardware = []
breakable rules.Unpush styles.Dependent = []
breakable rules.Pull styles.Rules = []
breakable rules.Pull styles.Boosted = 4 ∷ 5 ∷ []
breakable rules.Pull styles.Optimistic = 4 ∷ 5 ∷ []
breakable rules.Pull styles.Hardware = 4 ∷ 5 ∷ []
breakable rules.Pull styles.Dependent = 4 ∷ 5 ∷ []
breakable rules.Unpull styles.Rules = []
breakable rules.Unpull styles.Boosted = []
breakable rules.Unpull styles.Optimistic = []
breakable rules.Unpull styles.Hardware = []
breakable rules.Unpull styles.Dependent = 3 ∷ []
breakable rules.Cmt styles.Rules = []
breakable rules.Cmt styles.Boosted = 1 ∷ 2 ∷ []
breakable rules.Cmt styles.Optimistic = 1 ∷ 2 ∷ []
breakable rules.Cmt styles.Hardware = 1 ∷ 2 ∷ []
breakable rules.Cmt styles.Dependent = 1 ∷ 2 ∷ 4 ∷ []
breakable rules.Quit styles.Rules = []
breakable rules.Quit styles.Boosted = 1 ∷ []
breakable rules.Quit styles.Optimistic = 1 ∷ []
breakable rules.Quit styles.Hardware = 1 ∷ []
breakable rules.Quit styles.Dependent = 1 ∷ []
breakable rules.Note styles.Rules = []
breakable rules.Note styles.Boosted = 1 ∷ []
breakable rules.Note styles.Optimistic = 1 ∷ []
breakable rules.Note styles.Hardware = 1 ∷ []
breakable rules.Note styles.Dependent = 1 ∷ []

-- Take a step of a run of a recorded style, and let the start and all steps before it meet their
-- criteria. If the step violates a criterion, then the first one that it violates is breakable.
abbrev pub BreakableLaw : {Op State : Type 0} → Object Op State → (Op → ℕ) → Type 0
BreakableLaw {Op} O place =
    (style : Style) (kinds : List Kind) (h : Option (Start Op)) (rs : Records (RunRecord Op))
    (past rest : LinedSteps Op) (s : Lined (Step Op)) (n : ℕ) → IsRecorded style →
    ((r : Lined (RunRecord Op)) → In r rs → IsOfStyle style r.what) → StartMeets O h →
    joined_steps (translation place style kinds) (outset (translation place style kinds) h) rs
    ≡ past ++ s ∷ rest →
    RunsFrom O (first h) (bare past) → Breaks O (after h (bare past)) s.what (suc n) →
    In (suc n) (breakable (rule_of s.what) style)
