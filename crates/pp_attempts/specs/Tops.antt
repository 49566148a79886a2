-- Proof machinery: at which steps there is a peak.
use Rattle.std.specs.Prelude.{◌≡◌, Bool, false, not, List, [], ◌∷◌}
use Rattle.pp_core.specs.Steps.{Step, Begin, App, Unapp, Push, Unpush, Pull, Unpull, Cmt, Quit}
use Rattle.pp_core.specs.Steps.{Note}
use Rattle.indexmap.specs.IndexSet.{IndexSet, contains}
use Rattle.std.specs.Str.{bytes_eq}
use Rattle.pp_model.specs.Names.{Name}
use Rattle.pp_attempts.specs.Peaks.{goes_on}

-- there is a peak right after this step, which these follow
abbrev pub is_top : {Op : Type 0} → Step Op → List (Step Op) → Bool
is_top (App t id op) ss = not (goes_on t ss)
is_top (Begin u p b) ss = false
is_top (Unapp u id) ss = false
is_top (Push u id) ss = false
is_top (Unpush u id) ss = false
is_top (Pull u id) ss = false
is_top (Unpull u id) ss = false
is_top (Cmt u) ss = false
is_top (Quit u) ss = false
is_top (Note u) ss = false

-- whether one does, for each step
abbrev pub tops : {Op : Type 0} → List (Step Op) → List Bool
tops [] = []
tops (s ∷ ss) = is_top s ss ∷ tops ss

-- The set has the names that go on in these steps.
abbrev pub KeepsGoing : {Op H : Type 0} → IndexSet Name H → List (Step Op) → Type 0
KeepsGoing names ss = (t : Name) → contains bytes_eq names t ≡ goes_on t ss
