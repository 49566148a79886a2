-- Meaning: whether a record fails, by the summary: at which of its steps, and by which criterion.
use Rattle.std.specs.Prelude.{◌≡◌, ◌≢◌, ◌↔◌, ◌⊎◌, ℕ, zero, suc, true, false, List, [], ◌∷◌, ◌++◌, map}
use Rattle.std.specs.Prelude.{Option, None, Some}
use Rattle.pp_core.specs.declared.call.Kind.{Kind}
use Rattle.pp_core.specs.declared.call.Style.{Style}
use Rattle.pp_core.specs.declared.call.Style.TheVariants.{Rules, Boosted, Optimistic, Hardware}
use Rattle.pp_core.specs.declared.call.Style.TheVariants.{Dependent}
use Rattle.pp_model.specs.Body.{Begins, IsWord}
use Rattle.pp_model.specs.Config.{App, Begin, Cmt, Config, LocalEntry, Note, Pull, Push, Pushed}
use Rattle.pp_model.specs.Config.{Quit, SharedEntry, Start, Step, Unapp, Unpull, Unpush, Unpushed}
use Rattle.pp_model.specs.Config.{is_own, item, local_ops, shared_ops}
use Rattle.pp_model.specs.Lists.{Each, In}
use Rattle.pp_model.specs.Names.{Name}
use Rattle.pp_model.specs.Object.{Allowed, Object, Swaps, TellsStates}
use Rattle.pp_model.specs.Rules.{FirstFalse, IsVerdict, IsVerdictFrom, Rejected, StartMeets}
use Rattle.pp_model.specs.Rules.{Accepted, Verdict, calls}
use Rattle.pp_records.specs.Expansions.{IsOfStyle, expand}
use Rattle.pp_records.specs.Fronts.{Front}
use Rattle.pp_records.specs.Records.{RunRecord}
use Rattle.pp_records.specs.Records as records
use Rattle.pp_records.specs.Runs.{Records, Standing, bare, joined_steps, outset}
use Rattle.pp_records.specs.Styles.{translation}
use Rattle.pp_laws_summary.specs.Counts.{back_count, section_count}
use Rattle.pp_laws_summary.specs.LocalLogs.{HasSummary, Summable, unpushed}
use Rattle.pp_laws_summary.specs.Places.{PlacesPart}
use Rattle.pp_laws_summary.specs.Summary.{Held, OpenSummary, Summary, next_summary, open_named}
use Rattle.pp_laws_summary.specs.Summary.{summary_missing, summary_mode, summary_of}
use Rattle.pp_laws_summary.specs.Summary.{summary_pulled, summary_view}

-- A step of a record, by the summary: the step, and its criteria in their order. A criterion that
-- cannot be false is `Unit`. A step that cannot fail needs neither.
pub record Asked (Op : Type 0) : Type 1 where
  pub step : Option (Step Op)
  pub asks : List (Type 0)

-- a step with these criteria
abbrev pub asked : {Op : Type 0} → Step Op → List (Type 0) → Asked Op
asked step asks = record { step = Some step; asks = asks }

-- so many steps that cannot fail
abbrev pub safe : {Op : Type 0} → ℕ → List (Asked Op)
safe zero = []
safe (suc n) = record { step = None; asks = [] } ∷ safe n

-- the criteria of the PULL of g on the object o, after the entries P
abbrev pub pull_facts : {Op State : Type 0} → Object Op State → (Op → ℕ) → Summary Op →
    OpenSummary Op → ℕ → List (SharedEntry Op) → SharedEntry Op → List (Type 0)
pull_facts {Op} O place B x o P g =
    Unit {0}
    ∷ Unit {0}
    ∷ Unit {0}
    ∷ Allowed O (summary_view place o B.done x ++ (shared_ops P ++ g.op ∷ []))
    ∷ ((a : LocalEntry Op) → In a x.own → place a.op ≡ o → Swaps O a.op g.op)
    ∷ []

-- PULL of each of the entries M, after those of P
abbrev pub pull_asks : {Op State : Type 0} → Object Op State → (Op → ℕ) → Summary Op → Name →
    OpenSummary Op → ℕ → List (SharedEntry Op) → List (SharedEntry Op) → List (Asked Op)
pull_asks O place B t x o P [] = []
pull_asks O place B t x o P (g ∷ M) =
    asked (Pull t g.id) (pull_facts O place B x o P g) ∷ pull_asks O place B t x o (P ++ g ∷ []) M

-- the criteria of the APP of an operation that pulls the entries M first
abbrev pub app_facts : {Op State : Type 0} → Object Op State → (Op → ℕ) → Summary Op → ℕ → Op →
    OpenSummary Op → List (SharedEntry Op) → List (Type 0)
app_facts O place B id op x M =
    Unit {0}
    ∷ (In id B.ids → ⊥)
    ∷ Begins x.body (calls O (map item x.own) ++ O.call op ∷ [])
    ∷ Allowed O (summary_view place (place op) B.done x ++ (shared_ops M ++ op ∷ []))
    ∷ []

-- the criteria of its PUSH at once
abbrev pub push_facts : {Op State : Type 0} → Object Op State → (Op → ℕ) → Summary Op → Op →
    OpenSummary Op → List (Type 0)
push_facts {Op} O place B op x =
    Unit {0}
    ∷ Unit {0}
    ∷ ((a : LocalEntry Op) → In a x.own → place a.op ≡ place op → a.mark ≡ Unpushed →
    Swaps O op a.op)
    ∷ ((u : SharedEntry Op) → In u B.shared → u.committed ≡ false → u.owner ≢ x.name →
    place u.op ≡ place op → Swaps O u.op op)
    ∷ Allowed O (shared_ops B.shared ++ op ∷ [])
    ∷ []

-- PUSH, if the operation is pushed at once
abbrev pub at_once_asks : {A Op State : Type 0} → Option A → Object Op State → (Op → ℕ) →
    Summary Op → Name → ℕ → Op → OpenSummary Op → List (Asked Op)
at_once_asks None O place B t id op x = asked (Push t id) (push_facts O place B op x) ∷ []
at_once_asks (Some h) O place B t id op x = []

-- the steps of an operation
abbrev pub op_asks : {Op State : Type 0} → Object Op State → (Op → ℕ) → Option Held → Summary Op →
    Name → ℕ → Op → OpenSummary Op → List (Asked Op)
op_asks O place h B t id op x =
    pull_asks O place B t x (place op) [] (summary_pulled place h (place op) B x)
    ++ (asked (App t id op) (app_facts O place B id op x (summary_pulled place h (place op) B x))
    ∷ at_once_asks h O place B t id op x)

-- the criteria of the PUSH of e, after the entries P
abbrev pub publish_facts : {Op State : Type 0} → Object Op State → (Op → ℕ) → Summary Op →
    OpenSummary Op → List (LocalEntry Op) → LocalEntry Op → List (Type 0)
publish_facts {Op} O place B x P e =
    Unit {0}
    ∷ Unit {0}
    ∷ Unit {0}
    ∷ ((u : SharedEntry Op) → In u B.shared → u.committed ≡ false → u.owner ≢ x.name →
    place u.op ≡ place e.op → Swaps O u.op e.op)
    ∷ Allowed O (shared_ops B.shared ++ (local_ops P ++ e.op ∷ []))
    ∷ []

-- PUSH of each of the entries M, after those of P
abbrev pub publish_asks : {Op State : Type 0} → Object Op State → (Op → ℕ) → Summary Op → Name →
    OpenSummary Op → List (LocalEntry Op) → List (LocalEntry Op) → List (Asked Op)
publish_asks O place B t x P [] = []
publish_asks O place B t x P (e ∷ M) =
    asked (Push t e.id) (publish_facts O place B x P e) ∷ publish_asks O place B t x (P ++ e ∷ []) M

-- criterion 3 of CMT
abbrev pub AllPushed : {Op : Type 0} → Style → OpenSummary Op → Type 0
AllPushed Rules x = ⊥
AllPushed {Op} Boosted x = (e : LocalEntry Op) → In e x.own → is_own e.mark ≡ true → e.mark ≡ Pushed
AllPushed Optimistic x = Unit {0}
AllPushed Hardware x = Unit {0}
AllPushed Dependent x = ⊥

-- the criteria of CMT
abbrev pub cmt_facts : {Op State : Type 0} → Style → Object Op State → OpenSummary Op →
    List (Type 0)
cmt_facts style O x =
    Unit {0} ∷ IsWord x.body (calls O (map item x.own)) ∷ AllPushed style x ∷ Unit {0} ∷ []

-- the steps of a commit
abbrev pub commit_asks : {Op State : Type 0} → Style → Object Op State → (Op → ℕ) → Summary Op →
    Name → OpenSummary Op → List (Asked Op)
commit_asks Rules O place B t x = asked (Cmt t) (cmt_facts Rules O x) ∷ []
commit_asks Boosted O place B t x = asked (Cmt t) (cmt_facts Boosted O x) ∷ []
commit_asks Optimistic O place B t x =
    publish_asks O place B t x [] (unpushed x.own) ++ asked (Cmt t) (cmt_facts Optimistic O x) ∷ []
commit_asks Hardware O place B t x =
    publish_asks O place B t x [] (unpushed x.own) ++ asked (Cmt t) (cmt_facts Hardware O x) ∷ []
commit_asks Dependent O place B t x = asked (Cmt t) (cmt_facts Dependent O x) ∷ []

-- If the transaction is not open, there is one step, and it violates its criterion 1.
abbrev pub open_asks : {Op : Type 0} → Option (OpenSummary Op) → Step Op →
    (OpenSummary Op → List (Asked Op)) → List (Asked Op)
open_asks None alone f = asked alone (⊥ ∷ []) ∷ []
open_asks (Some x) alone f = f x

-- a begin; the other steps are no records here
abbrev pub begin_asks : {Op : Type 0} → Summary Op → Step Op → List (Asked Op)
begin_asks {Op} B (Begin t p b) =
    asked (Begin t p b)
    ((In t B.names → ⊥) ∷ ((x : OpenSummary Op) → In x B.opened → x.thread ≢ p) ∷ [])
    ∷ []
begin_asks B (App t id op) = []
begin_asks B (Unapp t id) = []
begin_asks B (Push t id) = []
begin_asks B (Unpush t id) = []
begin_asks B (Pull t id) = []
begin_asks B (Unpull t id) = []
begin_asks B (Cmt t) = []
begin_asks B (Quit t) = []
begin_asks B (Note t) = []

-- The steps of a record, by the summary. The last three records are of no style with a summary.
abbrev pub record_asks : {Op State : Type 0} → Style → Object Op State → (Op → ℕ) → Summary Op →
    RunRecord Op → List (Asked Op)
record_asks style O place B (records.Plain step) = begin_asks B step
record_asks style O place B (records.Op t id op) =
    open_asks (open_named t B.opened) (App t id op)
    (λ x. op_asks O place (summary_mode style B.kinds x (place op)) B t id op x)
record_asks style O place B (records.Commit t) =
    open_asks (open_named t B.opened) (Cmt t) (commit_asks style O place B t)
record_asks style O place B (records.Abort t) =
    open_asks (open_named t B.opened) (Quit t) (λ x. safe (suc (back_count place B x)))
record_asks style O place B (records.Retry t) =
    open_asks (open_named t B.opened) (Note t) (λ x. safe (suc (back_count place B x)))
record_asks style O place B (records.Refresh t o) =
    open_asks (open_named t B.opened) (Note t)
    (λ x. safe 1 ++ pull_asks O place B t x o [] (summary_missing place o B x))
record_asks style O place B (records.XBegin t) =
    open_asks (open_named t B.opened) (Note t) (λ x. safe 1)
record_asks style O place B (records.XEnd t) =
    open_asks (open_named t B.opened) (Note t)
    (λ x. safe 1 ++ publish_asks O place B t x [] (unpushed x.own))
record_asks style O place B (records.XAbort t) =
    open_asks (open_named t B.opened) (Note t) (λ x. safe (suc (section_count place B x)))
record_asks style O place B (records.Depend t source) = []
record_asks style O place B (records.Publish t) = []
record_asks style O place B (records.DropSource t source) = []

-- The steps of the records together.
abbrev pub run_asks : {Op State : Type 0} → Style → Object Op State → (Op → ℕ) → Summary Op →
    List (RunRecord Op) → List (Asked Op)
run_asks style O place B [] = []
run_asks style O place B (r ∷ rs) =
    record_asks style O place B r ++ run_asks style O place (next_summary place style B r) rs

-- The verdict of these steps, the first of which has the number i.
abbrev pub IsAskedVerdict : {Op : Type 0} → ℕ → List (Asked Op) → Verdict → Type 0
IsAskedVerdict i [] v = v ≡ Accepted
IsAskedVerdict i (a ∷ qs) v =
    ((n : ℕ) × FirstFalse a.asks (suc n) × (v ≡ Rejected i (suc n)))
    ⊎ (FirstFalse a.asks 0 × IsAskedVerdict (suc i) qs v)

-- It is this step, if it can fail.
abbrev pub IsStep : {Op : Type 0} → Option (Step Op) → Step Op → Type 0
IsStep None s = Unit {0}
IsStep (Some a) s = a ≡ s

-- These are these steps, one for one.
abbrev pub AreSteps : {Op : Type 0} → List (Asked Op) → List (Step Op) → Type 0
AreSteps [] [] = Unit {0}
AreSteps [] (s ∷ ss) = ⊥
AreSteps (a ∷ qs) [] = ⊥
AreSteps (a ∷ qs) (s ∷ ss) = IsStep a.step s × AreSteps qs ss

-- The summary finds the first step that violates a criterion, and the criterion.
pub record FindsFailures {Op State : Type 0} (style : Style) (O : Object Op State)
    (place : Op → ℕ) : Type 0 where
  pub are_steps : (f : Front) (c : Config Op) (r : RunRecord Op) → IsOfStyle style r →
      Summable O place f c →
      AreSteps (record_asks style O place (summary_of place (record { front = f; config = c })) r)
      (expand place style f c r)
  -- the verdict of the steps of a record
  pub record_verdict :
      (f : Front) (c : Config Op) (r : RunRecord Op) (i : ℕ) (v : Verdict) → IsOfStyle style r →
      Summable O place f c →
      IsAskedVerdict i
      (record_asks style O place (summary_of place (record { front = f; config = c })) r) v
      ↔ IsVerdictFrom O i c (expand place style f c r) v
  -- the verdict of a run, from anywhere
  pub run_verdict :
      (ks : List Kind) (p : Standing Front Op) (rs : Records (RunRecord Op)) (i : ℕ) (v : Verdict) →
      Each (IsOfStyle style) (bare rs) → Summable O place p.front p.config →
      IsAskedVerdict i (run_asks style O place (summary_of place p) (bare rs)) v
      ↔ IsVerdictFrom O i p.config (bare (joined_steps (translation place style ks) p rs)) v
  -- the verdict of a whole run whose start meets its criteria
  pub verdict :
      (ks : List Kind) (h : Option (Start Op)) (rs : Records (RunRecord Op)) (v : Verdict) →
      Each (IsOfStyle style) (bare rs) → StartMeets O h →
      IsAskedVerdict 1
      (run_asks style O place (summary_of place (outset (translation place style ks) h)) (bare rs))
      v
      ↔ IsVerdict O h
      (bare (joined_steps (translation place style ks) (outset (translation place style ks) h) rs))
      v

-- The law of failures.
abbrev pub FailuresLaw : {Op State : Type 0} → Object Op State → Type 0
FailuresLaw {Op} O =
    (style : Style) → HasSummary style → (place : Op → ℕ) → PlacesPart O place → TellsStates O →
    FindsFailures style O place
