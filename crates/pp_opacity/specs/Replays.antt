-- Proof machinery: the steps of an accepted run, taken one after another.
use Rattle.std.specs.Prelude.{◌≡◌, ◌≤◌, ◌+◌, ◌-◌, ◌*◌, ℕ, List, [], ◌∷◌, ◌++◌, length, sum_by, Option, None, Some}
use Rattle.pp_model.specs.Config.{App, CommittedTx, Start, Step}
use Rattle.pp_model.specs.Names.{Name}
use Rattle.pp_model.specs.Object as model
use Rattle.pp_model.specs.Object.{Item}
use Rattle.pp_model.specs.Serial.{attempts, own_of}
use Rattle.pp_kind.specs.Object.{Object, rules_of}
use Rattle.pp_laws_opacity.specs.Opacity.{Began, SeesSome}
use Rattle.pp_laws_opacity.specs.Questions.{questions_after}
use Rattle.pp_opacity.specs.Attempts.{OpenAttempt, excluded_in, least_in, own_in}
use Rattle.pp_opacity.specs.Costs.{asking_at_most, operations_of}
use Rattle.pp_opacity.specs.Trials.{AreExcluded, IsWith, MayExtend, Serial}

-- What is kept follows the steps `past` of a run: so many transactions have committed, the attempts
-- are those that the transactions are in, and the numbers of commits that are excluded do not
-- explain the own lists.
pub record Follows {Shape State Op Undo : Type 0} (o : Object Shape State Op Undo) (shape : Shape)
    (h : Option (Start Op)) (past : List (Step Op)) (committed : List (CommittedTx Op))
    (n : ℕ) (kept : List (Name × OpenAttempt Op)) : Type 0 where
  pub count : n ≡ length (attempts h past)
  pub own : (t : Name) → own_in t kept ≡ own_of t past
  pub least : (t : Name) (early : List (Step Op)) → Began t early past
      → least_in t kept ≡ length (attempts h early)
  pub excluded : (t : Name)
      → AreExcluded (rules_of o shape) committed (own_in t kept) (excluded_in t kept)

-- the own list that is applied after the serial run, if that of a transaction is
abbrev pub applied_in : {Op : Type 0} → Option Name → List (Name × OpenAttempt Op)
    → List (Item Op)
applied_in None kept = []
applied_in (Some t) kept = own_in t kept

-- What is kept follows the steps `past` of a run. The serial run has the transactions that have
-- committed, and after them the own list that is applied, if one is.
pub record IsReplay {Shape State Op Undo : Type 0} (o : Object Shape State Op Undo) (shape : Shape)
    (h : Option (Start Op)) (past : List (Step Op)) (committed : List (CommittedTx Op))
    (serial : Serial State Undo) (kept : List (Name × OpenAttempt Op)) (applied : Option Name)
    : Type 0 where
  pub follows : Follows o shape h past committed serial.count kept
  pub at : IsWith o shape committed (applied_in applied kept) serial

-- The first so many operations of the own list of a transaction are applied after the serial run,
-- and all of it may be asked about.
abbrev pub MayAskOf : {Shape State Op Undo : Type 0} → Object Shape State Op Undo → Shape
    → List (CommittedTx Op) → Name → List (Name × OpenAttempt Op) → ℕ → Serial State Undo → Type 0
MayAskOf o shape committed t kept first serial =
    MayExtend o shape committed (own_in t kept) first (excluded_in t kept) serial

-- the counter rises at most by what a question about the own list of a transaction costs
abbrev pub AskingCostsAtMost : {Op : Type 0} → List (CommittedTx Op) → Name
    → List (Name × OpenAttempt Op) → (n old new : ℕ) → Type 0
AskingCostsAtMost committed t kept n old new =
    new + 2 * operations_of committed (least_in t kept)
    + 2 * (least_in t kept * length (own_in t kept))
    ≤ old + 2 * operations_of committed n + 2 * ((n + 1) * length (own_in t kept))

-- If a transaction is named, the step is its APP, and no number of commits in its window explains
-- its own list after the step. If none is named, and the step is an APP, some number does.
abbrev pub IsSeen : {Op State : Type 0} → model.Object Op State → Option (Start Op)
    → List (Step Op) → Step Op → Option Name → Type 0
IsSeen {Op} O h past s None =
    (t : Name) (id : ℕ) (op : Op) → s ≡ App t id op → SeesSome O h (past ++ s ∷ []) t
IsSeen {Op} O h past s (Some t) =
    (id : ℕ) × (op : Op) × (s ≡ App t id op) × (SeesSome O h (past ++ s ∷ []) t → ⊥)

-- What a step costs at most: its question, and the operations of the transaction that it commits.
abbrev pub step_costs : {Op : Type 0} → Option (Start Op) → List (Step Op) → Step Op
    → List (CommittedTx Op) → ℕ
step_costs h past s committed =
    (operations_of committed (length (attempts h (past ++ s ∷ [])))
    - operations_of committed (length (attempts h past)))
    + sum_by (asking_at_most committed) (questions_after h past (s ∷ []))
