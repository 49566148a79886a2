-- Proof machinery: what an engine, which takes the records of the runs of one style, says of them.
use Rattle.std.specs.Prelude.{◌≡◌, ◌≤◌, ◌<◌, ◌+◌, ◌*◌, ℕ, suc, Bool, true, false}
use Rattle.std.specs.Prelude.{List, [], length, take}
use Rattle.pp_core.specs.Steps.{rule_of}
use Rattle.pp_core.specs.declared.call.Kind.{Kind}
use Rattle.pp_core.specs.declared.call.Style.{Style}
use Rattle.pp_core.specs.declared.entry.CommittedTx.{CommittedTx}
use Rattle.pp_model.specs.Config.{Step, after_from}
use Rattle.pp_model.specs.Rules.{StartMeets}
use Rattle.pp_records.specs.Expansions.{IsOfStyle, expand}
use Rattle.pp_records.specs.Fronts.{Front}
use Rattle.pp_records.specs.Records.{RunRecord}
use Rattle.pp_records.specs.Runs.{Records, Standing}
use Rattle.pp_records.specs.Styles.{translation}
use Rattle.pp_format_read.specs.declared.header.Header.{Header}
use Rattle.pp_format_read.specs.Records.{IsReadable}
use Rattle.pp_machine.specs.Evidence.{evidence}
use Rattle.pp_objects.specs.Objects.{kinds_of, objects, place_of}
use Rattle.pp_objects.specs.declared.act.Op.{Op}
use Rattle.pp_laws_evidence.specs.Details.{FailsAt}
use Rattle.pp_summary.specs.Failures.{FailsIn, standing_after}
use Rattle.pp_violations.specs.declared.violation.Violation.{Violation}
use Rattle.pp_judge.specs.Objects.{object_of, start_of, translation_of}
use Rattle.pp_judge.specs.Tallies.{headed, one_more, scan_of}
use Rattle.pp_cmd_quick.specs.Decisions.{steps_behind}
use Rattle.pp_cmd_judge.specs.Costs.{StyleCostAtMost, StyleGoodCostAtLeast}
use Rattle.pp_cmd_judge.specs.Costs.{StyleRejectedCostAtLeast}
use Rattle.pp_cmd_judge.specs.declared.run_judge.RunJudge.{RunJudge}
use Rattle.pp_cmd_judge.specs.declared.style_judge.StyleJudge.{StyleJudge}

-- What an engine says of the runs of its style. E is the engine.
pub record EngineOf (E : Type 0) : Type 1 where
  pub style : Style
  -- the start and the records after a header are good, and this engine has taken them
  pub AreGood : Header → Records (RunRecord Op) → E → Type 0
  -- after what the engine has taken, some step of the record violates a criterion
  pub IsRefused : E → RunRecord Op → Type 0
  -- what it costs at most to find that step
  pub search : E → ℕ
  -- the committed transactions, and the kinds of the objects
  pub done : E → List (CommittedTx Op)
  pub shape : E → List Kind
  -- the judge of all styles that it is with a number of steps
  pub wrap : RunJudge E → StyleJudge

-- ---- a record after others

module _ (h : Header) (rs : Records (RunRecord Op)) where
  -- where the records lead, in this style
  abbrev pub led : Style → Standing Front Op
  led style = standing_after (translation place_of style (kinds_of h.catalog)) (start_of h) rs

  -- the steps of one record more
  abbrev pub own : Style → RunRecord Op → List (Step Op)
  own style r = expand place_of style (led style).front (led style).config r

  -- the violation is of the first of these steps that violates a criterion, over objects of these
  -- kinds, with its evidence
  abbrev pub Found : RunRecord Op → Violation Op → List Kind → Style → Type 0
  Found r x shape style = (s : Step Op) × (n : ℕ)
      × FailsAt objects shape place_of (led style).config (own style r) x.offset s n
      × (x.rule ≡ rule_of s) × (x.criterion ≡ suc n)
      × (x.detail
      ≡ evidence objects shape (after_from (led style).config (take x.offset (own style r))) s
      (suc n))

-- ---- what an engine promises

module _ {E : Type 0} (W : EngineOf E) where
  -- The start of the header meets its criteria, and this is the engine after it. False says that it
  -- does not meet them.
  abbrev pub Starts : Header → Bool → E → Type 0
  Starts header true engine = W.AreGood header [] engine
  Starts header false engine = StartMeets (object_of header) (start_of header) → ⊥

  -- The engine has taken some records, after which a run may have this one.
  pub record CanTake (engine : E) (r : RunRecord Op) : Type 0 where
    pub header : Header
    pub records : Records (RunRecord Op)
    pub good : W.AreGood header records engine
    pub few : length records < 2_147_483_646
    pub readable : IsReadable header.catalog r
    pub styled : IsOfStyle W.style r

  -- P is true of every header, and all records after it, that the engine may have taken.
  abbrev pub OfGood : E → (Header → Records (RunRecord Op) → Type 0) → Type 0
  OfGood engine P = (header : Header) (records : Records (RunRecord Op)) →
      W.AreGood header records engine → P header records

  -- the record means so many steps
  abbrev pub HasSteps : E → RunRecord Op → ℕ → Type 0
  HasSteps engine r n = OfGood engine λ header records.
      n ≡ length (own header records header.style r)

  -- The counter rises at most so, whether the record is good or not.
  abbrev pub CostsAtMost : E → RunRecord Op → (now new : ℕ) → Type 0
  CostsAtMost engine r now new = OfGood engine λ header records. (at line old : ℕ) →
      StyleCostAtMost W.style (scan_of (headed at header) records) old now →
      StyleCostAtMost W.style (scan_of (headed at header) (one_more records line r)) old new

  -- The record is good, and the engine has taken it.
  pub record TakesGood (engine : E) (r : RunRecord Op) (next : E) (now new : ℕ) : Type 0 where
    pub good : OfGood engine λ header records. (line : ℕ) →
        W.AreGood header (one_more records line r) next
    pub least : OfGood engine λ header records. (at line old : ℕ) →
        StyleGoodCostAtLeast W.style (scan_of (headed at header) records) old now →
        StyleGoodCostAtLeast W.style (scan_of (headed at header) (one_more records line r)) old new

  -- The record is not good, and the engine has taken what it had taken before. The bounds are of
  -- what the counter is after the search.
  pub record Refuses (engine : E) (r : RunRecord Op) (next : E) (now new : ℕ) : Type 0 where
    pub stays : OfGood engine λ header records. W.AreGood header records next
    pub fails : OfGood engine λ header records. (line : ℕ) →
        FailsIn (object_of header) (translation_of header) (start_of header)
        (one_more records line r) (record { line = line; what = r })
    pub refused : W.IsRefused next r
    pub most : OfGood engine λ header records. (at line old then : ℕ) →
        then ≤ new + W.search next →
        StyleCostAtMost W.style (scan_of (headed at header) records) old now →
        StyleCostAtMost W.style (scan_of (headed at header) (one_more records line r)) old then
    pub least : OfGood engine λ header records. (at line old then : ℕ) → new ≤ then →
        StyleGoodCostAtLeast W.style (scan_of (headed at header) records) old now →
        StyleRejectedCostAtLeast W.style (scan_of (headed at header) (one_more records line r)) old
        then

  abbrev pub Takes : E → RunRecord Op → Bool → E → (now new : ℕ) → Type 0
  Takes engine r true next now new = TakesGood engine r next now new
  Takes engine r false next now new = Refuses engine r next now new

  -- This is the first step of the record that violates a criterion, with the evidence.
  abbrev pub Finds : E → RunRecord Op → Violation Op → Type 0
  Finds engine r x = OfGood engine λ header records.
      Found header records r x (kinds_of header.catalog) header.style

  -- ---- with the number of steps

  -- The start and the records after a header are good, and this engine has taken them, with the
  -- number of their steps.
  pub record AreCounted (header : Header) (records : Records (RunRecord Op))
      (judge : RunJudge E) : Type 0 where
    pub good : W.AreGood header records judge.engine
    pub steps : judge.steps ≡ length (steps_behind header records)
    pub few : judge.steps ≤ 6_442_451_713 * length records
