-- Conditions that are not enough for opacity, each with an accepted run that is not opaque, and
-- conditions that opacity does not require.
use Rattle.std.specs.Prelude.{◌≡◌, ℕ, true, List, [], ◌∷◌}
use Rattle.pp_core.specs.declared.call.Style.TheVariants.{Optimistic}
use Rattle.pp_records.specs.Expansions.{IsOfStyle}
use Rattle.pp_records.specs.Records.{RunRecord}
use Rattle.pp_records.specs.Runs.{Lined}
use Rattle.pp_model.specs.Config.{Config, SharedEntry, Step, Begin, App, Unapp, Push, Unpush, Pull}
use Rattle.pp_model.specs.Config.{Unpull, Cmt, Quit, Note, first, then}
use Rattle.pp_model.specs.Lists.{In}
use Rattle.pp_model.specs.Rules.{RunsFrom}
use Rattle.pp_model.specs.Serial.{commits, own_of}
use Rattle.pp_laws_opacity.specs.Cells.{Access, c, cells, early, none, old, retried, stale, torn}
use Rattle.pp_laws_opacity.specs.Cells.{zombie, zombie_steps}
use Rattle.pp_laws_opacity.specs.Opacity.{IsOpaque, Sees, SeesSome}
use Rattle.pp_laws_opacity.specs.Sufficient.{HasSnapshots}

-- Each PULL takes over an entry that is committed.
abbrev pub PullsCommitted : Config Access → List (Step Access) → Type 0
PullsCommitted k [] = Unit {0}
PullsCommitted k (Pull t id ∷ ss) =
    ((g : SharedEntry Access) → In g k.shared → g.id ≡ id → g.committed ≡ true)
    × PullsCommitted (then k (Pull t id)) ss
PullsCommitted k (Begin t p b ∷ ss) = PullsCommitted (then k (Begin t p b)) ss
PullsCommitted k (App t id op ∷ ss) = PullsCommitted (then k (App t id op)) ss
PullsCommitted k (Unapp t id ∷ ss) = PullsCommitted (then k (Unapp t id)) ss
PullsCommitted k (Push t id ∷ ss) = PullsCommitted (then k (Push t id)) ss
PullsCommitted k (Unpush t id ∷ ss) = PullsCommitted (then k (Unpush t id)) ss
PullsCommitted k (Unpull t id ∷ ss) = PullsCommitted (then k (Unpull t id)) ss
PullsCommitted k (Cmt t ∷ ss) = PullsCommitted (then k (Cmt t)) ss
PullsCommitted k (Quit t ∷ ss) = PullsCommitted (then k (Quit t)) ss
PullsCommitted k (Note t ∷ ss) = PullsCommitted (then k (Note t)) ss

-- It is not enough that only committed entries are pulled.
pub record TornLaw : Type 0 where
  pub accepted : RunsFrom cells (first none) torn
  pub pulled : PullsCommitted (first none) torn
  pub not_opaque : IsOpaque cells none torn → ⊥

-- It is not enough that some number of commits explains c's own list: it may be too small.
pub record StaleLaw : Type 0 where
  pub accepted : RunsFrom cells (first none) stale
  pub sees : Sees cells none stale c 0
  pub not_opaque : IsOpaque cells none stale → ⊥

-- It is not enough that this number is no smaller than when c began: its attempt may have begun
-- later.
pub record RetriedLaw : Type 0 where
  pub accepted : RunsFrom cells (first none) retried
  pub sees : Sees cells none retried c 0
  pub not_opaque : IsOpaque cells none retried → ⊥

-- It is not enough that a number in the window explains c's own list in the end: it may have been
-- there before the commit that explains it.
pub record EarlyLaw : Type 0 where
  pub accepted : RunsFrom cells (first none) early
  pub sees : SeesSome cells none early c
  pub not_opaque : IsOpaque cells none early → ⊥

-- Accepted runs of style optimistic need not be opaque, even if the attempt that saw an inconsistent
-- state is aborted, and its transaction never commits.
pub record OptimisticLaw : Type 0 where
  pub style : (r : Lined (RunRecord Access)) → In r zombie → IsOfStyle Optimistic r.what
  pub accepted : RunsFrom cells (first none) zombie_steps
  pub aborted : own_of c zombie_steps ≡ []
  pub uncommitted : In c (commits zombie_steps) → ⊥
  pub not_opaque : IsOpaque cells none zombie_steps → ⊥

-- A run with snapshots is opaque, and a snapshot may be older than what has committed.
pub record OldLaw : Type 0 where
  pub accepted : RunsFrom cells (first none) old
  pub snapshots : HasSnapshots cells none old
  pub sees : (n : ℕ) → Sees cells none old c n → n ≡ 0
