-- Meaning: facts about the peaks of accepted runs, and about their views.
use Rattle.std.specs.Prelude.{◌≡◌, ◌≤◌, ◌+◌, ℕ, false, List, [], ◌∷◌, ◌++◌, length, map, Option}
use Rattle.std.specs.Prelude.{Some}
use Rattle.pp_model.specs.Config.{CommittedTx, Start, Step, App, first}
use Rattle.pp_model.specs.Lists.{In}
use Rattle.pp_model.specs.Names.{Name}
use Rattle.pp_model.specs.Object.{Item, Object}
use Rattle.pp_model.specs.Rules.{RunsFrom, StartMeets}
use Rattle.pp_model.specs.Serial.{Attempt, attempts, committed_tx, own_of, unapplied_ids}
use Rattle.pp_attempts.specs.Peaks.{IsOrderly, Peak, goes_on, peaks}
use Rattle.pp_attempts.specs.Views.{Explains, IsLeastBelow}

-- t's own list right after this APP step is a peak, and t undid nothing after it.
pub record IsKeptPeak {Op : Type 0} (ss past rest : List (Step Op)) (t : Name) (id : ℕ)
    (op : Op) : Type 0 where
  pub there : ss ≡ past ++ App t id op ∷ rest
  pub top : goes_on t rest ≡ false
  pub kept : unapplied_ids t rest ≡ []

-- t's own list right after the last of these steps
abbrev pub peak_behind : {Op : Type 0} → Name → List (Step Op) → Peak Op
peak_behind t past = record { tx = t; ops = own_of t past }

-- The peak is among these, and after it there is none of its transaction.
pub record IsLastOfItsTx {Op : Type 0} (p : Peak Op) (ps : List (Peak Op)) : Type 0 where
  pub before : List (Peak Op)
  pub behind : List (Peak Op)
  pub there : ps ≡ before ++ p ∷ behind
  pub last : (q : Peak Op) → In q behind → q.tx ≡ p.tx → ⊥

-- The operations of a peak were applied by its transaction, in a step of the run.
abbrev pub AppliedLaw : Type 0 → Type 0
AppliedLaw Op =
    (ss : List (Step Op)) (p : Peak Op) (i : Item Op) → In p (peaks ss) → In i p.ops
    → In (App p.tx i.id i.op) ss

module _ {Op State : Type 0} (O : Object Op State) where
  -- The steps of an accepted run meet the condition for looking for their peaks.
  abbrev pub OrderlyLaw : Type 0
  OrderlyLaw =
      (h : Option (Start Op)) (ss : List (Step Op)) → StartMeets O h → RunsFrom O (first h) ss
      → IsOrderly ss

  -- If a transaction is committed after the transactions `earlier`, the peak after which it undid
  -- nothing is its last one. The number of its view is at most the number of `earlier`.
  abbrev pub SeesKeptPeaks : Option (Start Op) → List (Step Op) → Type 0
  SeesKeptPeaks h ss =
      (past rest : List (Step Op)) (t : Name) (id : ℕ) (op : Op) (earlier later : List (Attempt Op))
      (a : Attempt Op) → IsKeptPeak ss past rest t id op
      → attempts h ss ≡ earlier ++ a ∷ later → a.name ≡ t
      → IsLastOfItsTx (peak_behind t (past ++ App t id op ∷ [])) (peaks ss)
      × ((found : Option ℕ) → IsLeastBelow (length (attempts h ss) + 1)
      (Explains O (map committed_tx (attempts h ss)) (own_of t (past ++ App t id op ∷ []))) found
      → (n : ℕ) × (found ≡ Some n) × (n ≤ length earlier))

  -- It is so in an accepted run.
  abbrev pub KeptPeakLaw : Type 0
  KeptPeakLaw =
      (h : Option (Start Op)) (ss : List (Step Op)) → StartMeets O h → RunsFrom O (first h) ss
      → SeesKeptPeaks h ss

  -- A peak has one view at most.
  abbrev pub OneViewLaw : Type 0
  OneViewLaw =
      (committed : List (CommittedTx Op)) (items : List (Item Op)) (v w : Option ℕ)
      → IsLeastBelow (length committed + 1) (Explains O committed items) v
      → IsLeastBelow (length committed + 1) (Explains O committed items) w → v ≡ w
