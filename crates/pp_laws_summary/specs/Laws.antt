-- Meaning: the laws of boosted, optimistic and hardware runs, over every object that is made of
-- objects at places.
use Rattle.std.specs.Prelude.{◌↔◌, ℕ, List, Option}
use Rattle.pp_core.specs.declared.call.Kind.{Kind}
use Rattle.pp_core.specs.declared.call.Style.{Style}
use Rattle.pp_model.specs.Config.{Config, Start, after_from, first}
use Rattle.pp_model.specs.Lists.{Each}
use Rattle.pp_model.specs.Object.{Object, TellsStates}
use Rattle.pp_model.specs.Rules.{Accepted, IsVerdict, RunsFrom, StartMeets}
use Rattle.pp_records.specs.Expansions.{IsOfStyle, expand, front_after}
use Rattle.pp_records.specs.Fronts.{Front, new_front}
use Rattle.pp_records.specs.Records.{RunRecord}
use Rattle.pp_records.specs.Runs.{Records, bare, joined_steps, outset}
use Rattle.pp_records.specs.Styles.{translation}
use Rattle.pp_laws_summary.specs.DecidedRuns.{DecidesRecords, DecidesRuns, GoodRuns, Summing}
use Rattle.pp_laws_summary.specs.LocalLogs.{HasSummary, LocalGood, Summable}
use Rattle.pp_laws_summary.specs.Places.{PlacesPart}
use Rattle.pp_laws_summary.specs.Summary.{Summary, SummaryGood, next_summary, summary_of}

-- The local logs decide each record of a summable configuration, and good records keep it summable.
pub record LocalLogsDecide {Op State : Type 0} (style : Style) (O : Object Op State)
    (place : Op → ℕ) : Type 0 where
  pub start : (ks : List Kind) (h : Option (Start Op)) → StartMeets O h →
      Summable O place (new_front ks) (first h)
  -- a record is good exactly if each of its steps meets its criteria
  pub good : (f : Front) (c : Config Op) (r : RunRecord Op) → IsOfStyle style r →
      Summable O place f c →
      LocalGood style O place f c r ↔ RunsFrom O c (expand place style f c r)
  pub kept : (f : Front) (c : Config Op) (r : RunRecord Op) → IsOfStyle style r →
      Summable O place f c → LocalGood style O place f c r →
      Summable O place (front_after f c r) (after_from c (expand place style f c r))

-- The law of local logs.
abbrev pub LocalLogsLaw : {Op State : Type 0} → Object Op State → Type 0
LocalLogsLaw {Op} O =
    (style : Style) → HasSummary style → (place : Op → ℕ) → PlacesPart O place →
    LocalLogsDecide style O place

-- The summaries of a run of one of the three styles.
abbrev pub summing : {Op State : Type 0} → Style → Object Op State → (Op → ℕ) →
    Summing Front (RunRecord Op) Op (Summary Op)
summing style O place =
    record {
      OfRun = IsOfStyle style;
      Holds = λ p. Summable O place p.front p.config;
      summary = summary_of place;
      Good = SummaryGood style O place;
      next = next_summary place style;
    }

-- They decide each record and each run.
pub record SummariesDecide {Op State : Type 0} (style : Style) (O : Object Op State)
    (place : Op → ℕ) : Type 0 where
  pub records : (ks : List Kind) →
      DecidesRecords (summing style O place) O (translation place style ks)
  pub runs : (ks : List Kind) → DecidesRuns (summing style O place) O (translation place style ks)
  -- if the start meets its criteria, the run is accepted exactly if each record is good
  pub accepted : (ks : List Kind) (h : Option (Start Op)) (rs : Records (RunRecord Op)) →
      Each (IsOfStyle style) (bare rs) → StartMeets O h →
      GoodRuns (summing style O place)
      (summary_of place (outset (translation place style ks) h)) (bare rs)
      ↔ IsVerdict O h
      (bare (joined_steps (translation place style ks) (outset (translation place style ks) h) rs))
      Accepted

-- The law of summaries. `TellsStates`: what may follow determines the state.
abbrev pub SummariesLaw : {Op State : Type 0} → Object Op State → Type 0
SummariesLaw {Op} O =
    (style : Style) → HasSummary style → (place : Op → ℕ) → PlacesPart O place → TellsStates O →
    SummariesDecide style O place
