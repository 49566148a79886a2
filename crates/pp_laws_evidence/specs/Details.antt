-- Meaning: the evidence of a rejection, by the summary.
use Rattle.std.specs.Prelude.{◌≡◌, ◌&&◌, ℕ, suc, not, List, [], ◌∷◌, ◌++◌, filter, take, slice_get}
use Rattle.std.specs.Prelude.{Option, None, Some, zero}
use Rattle.pp_core.specs.declared.call.Kind.{Kind}
use Rattle.pp_core.specs.declared.call.Style.{Style}
use Rattle.pp_core.specs.declared.call.Style.TheVariants.{Rules, Boosted, Optimistic, Hardware}
use Rattle.pp_core.specs.declared.call.Style.TheVariants.{Dependent}
use Rattle.pp_model.specs.Config.{App, Begin, Cmt, Config, LocalEntry, Note, Pull, Push, Quit}
use Rattle.pp_model.specs.Config.{SharedEntry, Step, Unapp, Unpull, Unpush, after_from, local_ops}
use Rattle.pp_model.specs.Config.{shared_ops}
use Rattle.pp_model.specs.Lists.{Each}
use Rattle.pp_model.specs.Names.{Name, ◌=ⁿ◌}
use Rattle.pp_model.specs.Rules.{Breaks, RunsFrom}
use Rattle.pp_kind.specs.Object.{Object, rules_of}
use Rattle.pp_records.specs.Expansions.{IsOfStyle, expand}
use Rattle.pp_records.specs.Fronts.{Front}
use Rattle.pp_records.specs.Records.{RunRecord}
use Rattle.pp_records.specs.Records as records
use Rattle.pp_records.specs.Runs.{Records, Standing, bare, joined_steps}
use Rattle.pp_records.specs.Styles.{translation}
use Rattle.pp_machine.specs.declared.detail.Detail.{Detail}
use Rattle.pp_machine.specs.declared.detail.Detail.TheVariants.{Nothing}
use Rattle.pp_machine.specs.Evidence.{at_number, evidence, first_entry, first_swap, gives_behind}
use Rattle.pp_laws_summary.specs.Counts.{back_count, section_count}
use Rattle.pp_laws_summary.specs.LocalLogs.{Summable, unpushed}
use Rattle.pp_laws_summary.specs.Summary.{Held, OpenSummary, Summary, next_summary, open_named}
use Rattle.pp_laws_summary.specs.Summary.{summary_missing, summary_mode, summary_of}
use Rattle.pp_laws_summary.specs.Summary.{summary_pulled, summary_view}

-- so many steps without evidence
abbrev pub none_of : {Op : Type 0} → ℕ → List (List (Detail Op))
none_of zero = []
none_of (suc n) = [] ∷ none_of n

-- the uncommitted entries of other transactions
abbrev pub uncommitted_others : {Op : Type 0} → Name → List (SharedEntry Op) → List (SharedEntry Op)
uncommitted_others t G = filter (λ u. not u.committed && not (u.owner =ⁿ t)) G

-- CMT
abbrev pub cmt_detail : {Op : Type 0} → OpenSummary Op → List (Detail Op)
cmt_detail x = Nothing ∷ Nothing ∷ first_entry (unpushed x.own) ∷ Nothing ∷ []

-- If the transaction is not open, there is no evidence.
abbrev pub open_details : {Op : Type 0} → Option (OpenSummary Op) →
    (OpenSummary Op → List (List (Detail Op))) → List (List (Detail Op))
open_details None f = (Nothing ∷ []) ∷ []
open_details (Some x) f = f x

-- a begin; the other steps are no records here
abbrev pub begin_details : {Op : Type 0} → Step Op → List (List (Detail Op))
begin_details (Begin t p b) = (Nothing ∷ Nothing ∷ []) ∷ []
begin_details (App t id op) = []
begin_details (Unapp t id) = []
begin_details (Push t id) = []
begin_details (Unpush t id) = []
begin_details (Pull t id) = []
begin_details (Unpull t id) = []
begin_details (Cmt t) = []
begin_details (Quit t) = []
begin_details (Note t) = []

module _ {Shape State Op Undo : Type 0} (o : Object Shape State Op Undo) (shape : Shape)
    (place : Op → ℕ) where
  -- the evidence of each criterion of the PULL of g on the object p, after the entries P
  abbrev pub pull_detail : Summary Op → OpenSummary Op → ℕ → List (SharedEntry Op) →
      SharedEntry Op → List (Detail Op)
  pull_detail B x p P g =
      Nothing
      ∷ Nothing
      ∷ Nothing
      ∷ gives_behind o shape g.id (summary_view place p B.done x ++ shared_ops P) g.op
      ∷ first_swap (λ a. a.id) (λ a. o.refuting a.op g.op) x.own
      ∷ []

  -- PULL of each of the entries M, after those of P
  abbrev pub pull_details : Summary Op → OpenSummary Op → ℕ → List (SharedEntry Op) →
      List (SharedEntry Op) → List (List (Detail Op))
  pull_details B x p P [] = []
  pull_details B x p P (g ∷ M) = pull_detail B x p P g ∷ pull_details B x p (P ++ g ∷ []) M

  -- the APP of an operation that pulls the entries M first
  abbrev pub app_detail : Summary Op → ℕ → Op → OpenSummary Op → List (SharedEntry Op) →
      List (Detail Op)
  app_detail B id op x M =
      Nothing
      ∷ Nothing
      ∷ Nothing
      ∷ gives_behind o shape id (summary_view place (place op) B.done x ++ shared_ops M) op
      ∷ []

  -- its PUSH at once
  abbrev pub push_detail : Summary Op → Name → ℕ → Op → OpenSummary Op → List (Detail Op)
  push_detail B t id op x =
      Nothing
      ∷ Nothing
      ∷ first_swap (λ a. a.id) (λ a. o.refuting op a.op) (unpushed x.own)
      ∷ first_swap (λ u. u.id) (λ u. o.refuting u.op op) (uncommitted_others t B.shared)
      ∷ gives_behind o shape id (shared_ops B.shared) op
      ∷ []

  -- PUSH, if the operation is pushed at once
  abbrev pub at_once_details : {A : Type 0} → Option A → Summary Op → Name → ℕ → Op →
      OpenSummary Op → List (List (Detail Op))
  at_once_details None B t id op x = push_detail B t id op x ∷ []
  at_once_details (Some h) B t id op x = []

  -- the steps of an operation
  abbrev pub op_details : Option Held → Summary Op → Name → ℕ → Op → OpenSummary Op →
      List (List (Detail Op))
  op_details h B t id op x =
      pull_details B x (place op) [] (summary_pulled place h (place op) B x)
      ++ (app_detail B id op x (summary_pulled place h (place op) B x)
      ∷ at_once_details h B t id op x)

  -- the PUSH of e, after the entries P
  abbrev pub publish_detail : Summary Op → Name → List (LocalEntry Op) → LocalEntry Op →
      List (Detail Op)
  publish_detail B t P e =
      Nothing
      ∷ Nothing
      ∷ Nothing
      ∷ first_swap (λ u. u.id) (λ u. o.refuting u.op e.op) (uncommitted_others t B.shared)
      ∷ gives_behind o shape e.id (shared_ops B.shared ++ local_ops P) e.op
      ∷ []

  -- PUSH of each of the entries M, after those of P
  abbrev pub publish_details : Summary Op → Name → List (LocalEntry Op) → List (LocalEntry Op) →
      List (List (Detail Op))
  publish_details B t P [] = []
  publish_details B t P (e ∷ M) = publish_detail B t P e ∷ publish_details B t (P ++ e ∷ []) M

  -- the steps of a commit
  abbrev pub commit_details : Style → Summary Op → Name → OpenSummary Op → List (List (Detail Op))
  commit_details Rules B t x = cmt_detail x ∷ []
  commit_details Boosted B t x = cmt_detail x ∷ []
  commit_details Optimistic B t x = publish_details B t [] (unpushed x.own) ++ cmt_detail x ∷ []
  commit_details Hardware B t x = publish_details B t [] (unpushed x.own) ++ cmt_detail x ∷ []
  commit_details Dependent B t x = cmt_detail x ∷ []

  -- The evidence of each criterion of each step of a record, by the summary. The last three records
  -- are of no style with a summary.
  abbrev pub record_details : Style → Summary Op → RunRecord Op → List (List (Detail Op))
  record_details style B (records.Plain step) = begin_details step
  record_details style B (records.Op t id op) =
      open_details (open_named t B.opened)
      (λ x. op_details (summary_mode style B.kinds x (place op)) B t id op x)
  record_details style B (records.Commit t) =
      open_details (open_named t B.opened) (commit_details style B t)
  record_details style B (records.Abort t) =
      open_details (open_named t B.opened) (λ x. none_of (suc (back_count place B x)))
  record_details style B (records.Retry t) =
      open_details (open_named t B.opened) (λ x. none_of (suc (back_count place B x)))
  record_details style B (records.Refresh t p) =
      open_details (open_named t B.opened)
      (λ x. none_of 1 ++ pull_details B x p [] (summary_missing place p B x))
  record_details style B (records.XBegin t) =
      open_details (open_named t B.opened) (λ x. none_of 1)
  record_details style B (records.XEnd t) =
      open_details (open_named t B.opened)
      (λ x. none_of 1 ++ publish_details B t [] (unpushed x.own))
  record_details style B (records.XAbort t) =
      open_details (open_named t B.opened) (λ x. none_of (suc (section_count place B x)))
  record_details style B (records.Depend t source) = []
  record_details style B (records.Publish t) = []
  record_details style B (records.DropSource t source) = []

  -- The evidence of the steps of the records together.
  abbrev pub run_details : Style → Summary Op → List (RunRecord Op) → List (List (Detail Op))
  run_details style B [] = []
  run_details style B (r ∷ rs) =
      record_details style B r ++ run_details style (next_summary place style B r) rs

  -- Step number k, from 0, of these steps from c on is the first that violates a criterion, and n is
  -- the number of this criterion.
  pub record FailsAt (c : Config Op) (ss : List (Step Op)) (k : ℕ) (s : Step Op) (n : ℕ) :
      Type 0 where
    pub there : slice_get ss k ≡ Some s
    pub before : RunsFrom (rules_of o shape) c (take k ss)
    pub breaks : Breaks (rules_of o shape) (after_from c (take k ss)) s (suc n)

  -- This is the evidence of criterion n, from 0, of step number k.
  abbrev pub IsDetailAt : List (List (Detail Op)) → ℕ → ℕ → Detail Op → Type 0
  IsDetailAt ds k n d =
      (l : List (Detail Op)) × (slice_get ds k ≡ Some l) × (d ≡ at_number l (suc n))

  -- The summary has the evidence of the first step that violates a criterion.
  pub record HasEvidence (style : Style) : Type 0 where
    -- the evidence of a record
    pub of_record :
        (f : Front) (c : Config Op) (r : RunRecord Op) (k : ℕ) (s : Step Op) (n : ℕ) →
        IsOfStyle style r → Summable (rules_of o shape) place f c →
        FailsAt c (expand place style f c r) k s n →
        IsDetailAt (record_details style (summary_of place (record { front = f; config = c })) r) k
        n
        (evidence o shape (after_from c (take k (expand place style f c r))) s (suc n))
    -- the evidence of a run
    pub of_run :
        (ks : List Kind) (p : Standing Front Op) (rs : Records (RunRecord Op)) (k : ℕ)
        (s : Step Op) (n : ℕ) → Each (IsOfStyle style) (bare rs) →
        Summable (rules_of o shape) place p.front p.config →
        FailsAt p.config (bare (joined_steps (translation place style ks) p rs)) k s n →
        IsDetailAt (run_details style (summary_of place p) (bare rs)) k n
        (evidence o shape
        (after_from p.config (take k (bare (joined_steps (translation place style ks) p rs)))) s
        (suc n))
