-- Meaning: how many steps a record has, by the summary.
use Rattle.std.specs.Prelude.{◌≡◌, ◌+◌, ◌-◌, ℕ, cond, List, [], ◌∷◌, filter, length, map, take}
use Rattle.std.specs.Prelude.{Option, None, Some, drop}
use Rattle.pp_core.specs.declared.call.Kind.{Kind}
use Rattle.pp_core.specs.declared.call.Style.{Style}
use Rattle.pp_core.specs.declared.call.Style.TheVariants.{Rules, Boosted, Optimistic, Hardware}
use Rattle.pp_core.specs.declared.call.Style.TheVariants.{Dependent}
use Rattle.pp_model.specs.Config.{CommittedTx, Config, LocalEntry}
use Rattle.pp_model.specs.Lists.{Each}
use Rattle.pp_model.specs.Object.{Item, Object, TellsStates}
use Rattle.pp_model.specs.Serial.{has_id}
use Rattle.pp_model.specs.Sound.{serial_items}
use Rattle.pp_records.specs.Expansions.{IsOfStyle, expand}
use Rattle.pp_records.specs.Fronts.{Front}
use Rattle.pp_records.specs.Records.{RunRecord}
use Rattle.pp_records.specs.Records as records
use Rattle.pp_records.specs.Runs.{Records, Standing, bare, joined_steps}
use Rattle.pp_records.specs.Styles.{translation}
use Rattle.pp_laws_summary.specs.DecidedRuns.{GoodRuns}
use Rattle.pp_laws_summary.specs.Laws.{summing}
use Rattle.pp_laws_summary.specs.LocalLogs.{HasSummary, Summable, pushed_ids, serial_at, unpushed}
use Rattle.pp_laws_summary.specs.Places.{PlacesPart}
use Rattle.pp_laws_summary.specs.Summary.{Held, OpenSummary, Summary, next_summary, open_named}
use Rattle.pp_laws_summary.specs.Summary.{own_held, seen_held, summary_mode, summary_of}
use Rattle.pp_laws_summary.specs.Summary.{touched_since}

-- how many committed operations on the object the snapshot lacks
abbrev pub missing_count : {Op : Type 0} → (Op → ℕ) → ℕ → Summary Op → OpenSummary Op → ℕ
missing_count place o B x = length (serial_at place o B.done) - x.seen o

-- how many an operation on the object pulls first
abbrev pub pulled_count : {Op : Type 0} → (Op → ℕ) → Option Held → ℕ → Summary Op →
    OpenSummary Op → ℕ
pulled_count place None o B x = missing_count place o B x
pulled_count place (Some h) o B x = cond (touched_since place o h x) 0 (missing_count place o B x)

-- APP and PUSH, if it is pushed at once, and else APP
abbrev pub applied_count : {A : Type 0} → Option A → ℕ
applied_count None = 2
applied_count (Some h) = 1

-- an operation
abbrev pub op_count : {Op : Type 0} → (Op → ℕ) → Style → Summary Op → Op → OpenSummary Op → ℕ
op_count place style B op x =
    pulled_count place (summary_mode style B.kinds x (place op)) (place op) B x
    + applied_count (summary_mode style B.kinds x (place op))

-- a commit
abbrev pub commit_count : {Op : Type 0} → Style → OpenSummary Op → ℕ
commit_count Rules x = 1
commit_count Boosted x = 1
commit_count Optimistic x = length (unpushed x.own) + 1
commit_count Hardware x = length (unpushed x.own) + 1
commit_count Dependent x = length (unpushed x.own) + 1

-- An own entry that is taken back has one step, or two if it is pushed.
abbrev pub own_count : {Op : Type 0} → List (LocalEntry Op) → ℕ
own_count l = length l + length (pushed_ids l)

-- the ids of the first n committed operations on the object
abbrev pub first_ids : {Op : Type 0} → (Op → ℕ) → ℕ → List (CommittedTx Op) → ℕ → List ℕ
first_ids place o D n = map (λ p. p.id) (take n (serial_at place o D))

-- The committed operations of which a transaction with these snapshots has an entry. Each that is
-- taken back has one step.
abbrev pub seen_items : {Op : Type 0} → (Op → ℕ) → List (CommittedTx Op) → (ℕ → ℕ) → List (Item Op)
seen_items place D seen =
    filter (λ p. has_id p.id (first_ids place (place p.op) D (seen (place p.op)))) (serial_items D)

-- all that a transaction has is taken back
abbrev pub back_count : {Op : Type 0} → (Op → ℕ) → Summary Op → OpenSummary Op → ℕ
back_count place B x = own_count x.own + length (seen_items place B.done x.seen)

-- the number of steps that take back what the transaction's section added
abbrev pub section_count : {Op : Type 0} → (Op → ℕ) → Summary Op → OpenSummary Op → ℕ
section_count place B x =
    own_count (drop (own_held x.held) x.own)
    + (length (seen_items place B.done x.seen)
    - length (seen_items place B.done (seen_held x.held)))

-- A record of a transaction that is not open has one step.
abbrev pub open_count : {Op : Type 0} → Option (OpenSummary Op) → (OpenSummary Op → ℕ) → ℕ
open_count None f = 1
open_count (Some x) f = f x

-- How many steps a record has. The last three records are of no style with a summary.
abbrev pub record_steps : {Op : Type 0} → (Op → ℕ) → Style → Summary Op → RunRecord Op → ℕ
record_steps place style B (records.Plain step) = 1
record_steps place style B (records.Op t id op) =
    open_count (open_named t B.opened) (op_count place style B op)
record_steps place style B (records.Commit t) =
    open_count (open_named t B.opened) (commit_count style)
record_steps place style B (records.Abort t) =
    open_count (open_named t B.opened) (λ x. back_count place B x + 1)
record_steps place style B (records.Retry t) =
    open_count (open_named t B.opened) (λ x. back_count place B x + 1)
record_steps place style B (records.Refresh t o) =
    open_count (open_named t B.opened) (λ x. missing_count place o B x + 1)
record_steps place style B (records.XBegin t) = 1
record_steps place style B (records.XEnd t) =
    open_count (open_named t B.opened) (λ x. length (unpushed x.own) + 1)
record_steps place style B (records.XAbort t) =
    open_count (open_named t B.opened) (λ x. section_count place B x + 1)
record_steps place style B (records.Depend t source) = 1
record_steps place style B (records.Publish t) = 1
record_steps place style B (records.DropSource t source) = 1

-- How many steps the records have together.
abbrev pub run_steps : {Op : Type 0} → (Op → ℕ) → Style → Summary Op → List (RunRecord Op) → ℕ
run_steps place style B [] = 0
run_steps place style B (r ∷ rs) =
    record_steps place style B r + run_steps place style (next_summary place style B r) rs

-- The summary counts the steps of each record, good or not, and those of a run of good records.
pub record CountsSteps {Op State : Type 0} (style : Style) (O : Object Op State) (place : Op → ℕ) :
    Type 0 where
  pub record_count : (f : Front) (c : Config Op) (r : RunRecord Op) → IsOfStyle style r →
      Summable O place f c →
      record_steps place style (summary_of place (record { front = f; config = c })) r
      ≡ length (expand place style f c r)
  pub run_count : (ks : List Kind) (p : Standing Front Op) (rs : Records (RunRecord Op)) →
      Each (IsOfStyle style) (bare rs) → Summable O place p.front p.config →
      GoodRuns (summing style O place) (summary_of place p) (bare rs) →
      run_steps place style (summary_of place p) (bare rs)
      ≡ length (joined_steps (translation place style ks) p rs)

-- The law of counts.
abbrev pub CountsLaw : {Op State : Type 0} → Object Op State → Type 0
CountsLaw {Op} O =
    (style : Style) → HasSummary style → (place : Op → ℕ) → PlacesPart O place → TellsStates O →
    CountsSteps style O place
