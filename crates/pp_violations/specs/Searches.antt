-- Proof machinery: what the parts of the search return.
use Rattle.std.specs.Prelude.{◌≡◌, ◌≢◌, ◌<◌, ◌==◌, ◌&&◌, ℕ, Bool, false, not, List, [], ◌∷◌, ◌++◌}
use Rattle.std.specs.Prelude.{length, slice_get, take, Option, None, Some, Result, Ok, Err}
use Rattle.std.specs.List.{list_any}
use Rattle.pp_core.specs.declared.call.Style.TheVariants.{Boosted}
use Rattle.pp_core.specs.declared.entry.Item.{Item}
use Rattle.pp_core.specs.declared.entry.SharedEntry.{SharedEntry}
use Rattle.pp_core.specs.declared.step.Rule.{Rule}
use Rattle.pp_core.specs.declared.step.Rule.TheVariants as rules
use Rattle.pp_core.specs.Trees.{Tree}
use Rattle.pp_model.specs.Body.{Begins}
use Rattle.pp_model.specs.Config.{shared_ops}
use Rattle.pp_model.specs.Lists.{In}
use Rattle.pp_model.specs.Names.{Name}
use Rattle.pp_model.specs.Rules.{FirstFalse, calls}
use Rattle.pp_kind.specs.Object.{IsAllowed, IsLog, Object, SwapsIn, rules_of}
use Rattle.pp_machine.specs.declared.detail.Detail.{Detail}
use Rattle.pp_machine.specs.declared.detail.Detail.TheVariants.{Nothing}
use Rattle.pp_machine.specs.Evidence.{first_swap, gives_behind}
use Rattle.pp_laws_evidence.specs.Details.{record_details, uncommitted_others}
use Rattle.pp_laws_summary.specs.Failures.{record_asks}
use Rattle.pp_laws_summary.specs.LocalLogs.{serial_at}
use Rattle.pp_laws_summary.specs.Summary.{OpenSummary, Summary}
use Rattle.pp_records.specs.Records.{RunRecord}
use Rattle.pp_summary.specs.Held.{IsItemAsked, IsOpAsked}
use Rattle.pp_summary.specs.Shown.{Kept, items_at}
use Rattle.pp_summary.specs.declared.parts.OpenTx.{OpenTx}
use Rattle.pp_violations.specs.Asks.{Breaks, Finds}
use Rattle.pp_violations.specs.Summarised.{kept_summary, seen_of}
use Rattle.pp_violations.specs.declared.violation.Broken.{Broken}
use Rattle.pp_violations.specs.declared.violation.Violation.{Violation}

-- The criterion that a step of this number and rule violates.
abbrev pub step_violation : {Op : Type 0} → ℕ → Rule → Broken Op → Violation Op
step_violation offset rule x =
    record { offset = offset; rule = rule; criterion = x.criterion; detail = x.detail }

-- A step that violates its criterion 1, without evidence.
abbrev pub alone_violation : {Op : Type 0} → Rule → Violation Op
alone_violation rule = record { offset = 0; rule = rule; criterion = 1; detail = Nothing }

-- The criteria of BEGIN.
abbrev pub begin_facts : {Op : Type 0} → Summary Op → Name → Name → List (Type 0)
begin_facts {Op} B t p =
    (In t B.names → ⊥) ∷ ((x : OpenSummary Op) → In x B.opened → x.thread ≢ p) ∷ []

-- The operations that the transaction has at a place: the first commits there, which it has seen,
-- and then its own operations.
abbrev pub view_items : {Shape Op : Type 0} → (Op → ℕ) → ℕ → Kept Shape Op →
    OpenTx (List (Item Op)) → List (Item Op)
view_items place q v x =
    take (seen_of x.seen.entries q) (serial_at place q v.committed)
    ++ items_at place q x.own

-- The entry is committed, at this place, and its id is not among these.
abbrev pub is_lacking : {Op : Type 0} → (Op → ℕ) → ℕ → List ℕ → SharedEntry Op → Bool
is_lacking place q seen g =
    (g.committed && (place g.op == q)) && not (list_any (λ i. g.id == i) seen)

module _ {Shape State Op Undo : Type 0} (o : Object Shape State Op Undo) where
  -- Each of these operations is one of the objects, with numbers in range.
  abbrev pub AreItemsAsked : Shape → List (Item Op) → Type 0
  AreItemsAsked shape items = (p : Item Op) → In p items → IsItemAsked o shape p

  -- The operation of each entry is one of the objects, with numbers in range.
  abbrev pub AreEntriesAsked : Shape → List (SharedEntry Op) → Type 0
  AreEntriesAsked shape entries = (g : SharedEntry Op) → In g entries → IsOpAsked o shape g.op

  -- The evidence that one of these operations does not swap with another after it.
  abbrev pub own_swap : List (Item Op) → Op → Detail Op
  own_swap own op = first_swap (λ a. a.id) (λ a. o.refuting a.op op) own

module _ {Shape State Op Undo : Type 0} (o : Object Shape State Op Undo) (place : Op → ℕ)
    (shape : Shape) where
  -- The state is the one after these operations of the shape, which are allowed.
  pub record IsStateOf (s : State) (before : List Op) : Type 0 where
    pub log : IsLog o s before
    pub shape_is : o.shape s ≡ shape

  -- The criteria of a PULL after these operations, for a transaction with these own ones.
  abbrev pub pull_facts : List Op → List (Item Op) → SharedEntry Op → List (Type 0)
  pull_facts before own g =
      Unit {0}
      ∷ Unit {0}
      ∷ Unit {0}
      ∷ IsAllowed o shape (before ++ g.op ∷ [])
      ∷ ((a : Item Op) → In a own → place a.op ≡ place g.op → SwapsIn o shape a.op g.op)
      ∷ []

  -- The evidence for each criterion of a PULL.
  abbrev pub pull_evidence : List Op → List (Item Op) → SharedEntry Op → List (Detail Op)
  pull_evidence before own g =
      Nothing
      ∷ Nothing
      ∷ Nothing
      ∷ gives_behind o shape g.id before g.op
      ∷ own_swap o own g.op
      ∷ []

  -- What judging a PULL returns: if no criterion is violated, the state is the one after it.
  abbrev pub JudgesPull : List Op → List (Item Op) → SharedEntry Op → State →
      Option (Broken Op) → Type 0
  JudgesPull before own g s None =
      FirstFalse (pull_facts before own g) 0 × IsStateOf s (before ++ g.op ∷ [])
  JudgesPull before own g s (Some x) =
      Breaks (pull_facts before own g) (pull_evidence before own g) x

  -- The criteria of the first k PULLs are true.
  abbrev pub ArePulled : List Op → List (Item Op) → List (SharedEntry Op) → ℕ → Type 0
  ArePulled before own entries k =
      (j : ℕ) (g : SharedEntry Op) → j < k → slice_get entries j ≡ Some g →
      FirstFalse (pull_facts (before ++ shared_ops (take j entries)) own g) 0

  -- This is the first PULL that violates a criterion.
  pub record FailsPull (before : List Op) (own : List (Item Op)) (entries : List (SharedEntry Op))
      (x : Violation Op) : Type 0 where
    pub entry : SharedEntry Op
    pub there : slice_get entries x.offset ≡ Some entry
    pub pulled : ArePulled before own entries x.offset
    pub rule : x.rule ≡ rules.Pull
    pub breaks : Breaks (pull_facts (before ++ shared_ops (take x.offset entries)) own entry)
        (pull_evidence (before ++ shared_ops (take x.offset entries)) own entry)
        (record { criterion = x.criterion; detail = x.detail })

  -- What a search through PULLs returns: the state after all of them, or the first that fails.
  abbrev pub SearchesPulls : List Op → List (Item Op) → List (SharedEntry Op) →
      Result State (Violation Op) → Type 0
  SearchesPulls before own entries (Ok s) =
      ArePulled before own entries (length entries) × IsStateOf s (before ++ shared_ops entries)
  SearchesPulls before own entries (Err x) = FailsPull before own entries x

  -- The criteria of an APP after these operations, for a transaction with these own ones.
  abbrev pub app_facts : List ℕ → ℕ → Op → Option Tree → List (Item Op) → List Op → List (Type 0)
  app_facts ids id op body own before =
      Unit {0}
      ∷ (In id ids → ⊥)
      ∷ Begins body (calls (rules_of o shape) own ++ o.call op ∷ [])
      ∷ IsAllowed o shape (before ++ op ∷ [])
      ∷ []

  -- The evidence for each criterion of an APP.
  abbrev pub app_evidence : ℕ → Op → List Op → List (Detail Op)
  app_evidence id op before =
      Nothing ∷ Nothing ∷ Nothing ∷ gives_behind o shape id before op ∷ []

  -- The criteria of a PUSH after these entries, for a transaction whose own entries are pushed.
  abbrev pub push_facts : Name → Op → List (SharedEntry Op) → List (Type 0)
  push_facts t op G =
      Unit {0}
      ∷ Unit {0}
      ∷ Unit {0}
      ∷ ((u : SharedEntry Op) → In u G → u.committed ≡ false → u.owner ≢ t →
      place u.op ≡ place op → SwapsIn o shape u.op op)
      ∷ IsAllowed o shape (shared_ops G ++ op ∷ [])
      ∷ []

  -- The evidence for each criterion of a PUSH.
  abbrev pub push_evidence : Name → ℕ → Op → List (SharedEntry Op) → List (Detail Op)
  push_evidence t id op G =
      Nothing
      ∷ Nothing
      ∷ Nothing
      ∷ first_swap (λ u. u.id) (λ u. o.refuting u.op op) (uncommitted_others t G)
      ∷ gives_behind o shape id (shared_ops G) op
      ∷ []

  -- What the search for the first violated criterion of the steps of a record returns.
  abbrev pub SearchesRecord : Kept Shape Op → RunRecord Op → Option (Violation Op) → Type 0
  SearchesRecord v r x =
      Finds (record_asks Boosted (rules_of o shape) place (kept_summary v) r)
      (record_details o shape place Boosted (kept_summary v) r) x
