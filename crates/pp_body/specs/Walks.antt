-- Proof machinery: the calls that a walk has taken.
use Rattle.std.specs.Prelude.{◌≡◌, ◌↔◌, ℕ, Bool, true, false, IsTrue, Option, None, Some, List, []}
use Rattle.std.specs.Prelude.{◌∷◌, ◌++◌, refl}
use Rattle.std.specs.Coded.{Coded, code_by, coded×, coded_ℕ, coded_list, coded_option}
use Rattle.pp_core.specs.TreeCodes.{tree_code}
use Rattle.pp_core.specs.Trees.{Tree}
use Rattle.pp_model.specs.Body.{Call, Begins, IsWord}
use Rattle.pp_body.specs.Positions.{reaches, shift}

-- The tree of a body, and the positions reached after each call that was taken.
pub record Walked : Type 0 where
  pub body : Option Tree
  pub reached : List ℕ

-- it is stored as the pair of its fields
abbrev pub walked_code : Coded Walked
walked_code =
    code_by (Option Tree × List ℕ) (coded× (coded_option tree_code) (coded_list coded_ℕ))
    (λ w. (w.body, w.reached)) (λ p. record { body = p.0; reached = p.1 }) (λ _. refl)

-- the positions reached after each of the calls
abbrev pub sets_after : Tree → ℕ → Bool → List Call → List ℕ
sets_after b set entered [] = []
sets_after b set entered (c ∷ cs) =
    shift b 0 set entered c ∷ sets_after b (shift b 0 set entered c) false cs

-- the last of the sets, and whether that is the start
abbrev pub last_state : ℕ → Bool → List ℕ → ℕ × Bool
last_state set entered [] = (set, entered)
last_state set entered (t ∷ ts) = last_state t false ts

-- the positions that a walk over the body keeps for these calls
abbrev pub IsTracked : Option Tree → List Call → List ℕ → Type 0
IsTracked None taken reached = Unit {0}
IsTracked (Some b) taken reached = reached ≡ sets_after b 0 true taken

-- These calls were taken, in this order. With no body nothing is kept of them.
abbrev pub HasTaken : Walked → List Call → Type 0
HasTaken w taken = IsTracked w.body taken w.reached

-- The calls taken, followed by this one, begin a word.
abbrev pub MayTake : Walked → Call → Type 0
MayTake w c = (taken : List Call) × HasTaken w taken × Begins w.body (taken ++ c ∷ [])

-- Some call was taken.
abbrev pub MayGoBack : Walked → Type 0
MayGoBack w = (taken : List Call) × (c : Call) × HasTaken w (taken ++ c ∷ [])

-- Whether some word goes on by the call from the last of the sets, and whether one ends there.
abbrev pub can_go_on : Tree → List ℕ → Call → Bool
can_go_on b reached c =
    let last = last_state 0 true reached in
    reaches true b 0 (shift b 0 last.0 last.1 c) false

-- whether the calls taken are a word
abbrev pub can_end : Tree → List ℕ → Bool
can_end b reached =
    let last = last_state 0 true reached in
    reaches false b 0 last.0 last.1

-- The result says whether the calls taken, followed by this one, begin a word.
abbrev pub TellsBegins : Walked → Call → Bool → Type 0
TellsBegins w c answer =
    (taken : List Call) → HasTaken w taken → IsTrue answer ↔ Begins w.body (taken ++ c ∷ [])

-- The result says whether the calls taken are a word.
abbrev pub TellsWord : Walked → Bool → Type 0
TellsWord w answer = (taken : List Call) → HasTaken w taken → IsTrue answer ↔ IsWord w.body taken

-- The new walk has taken the calls that the old one had, and then this one.
abbrev pub HasTakenOneMore : Walked → Call → Walked → Type 0
HasTakenOneMore old c new =
    (taken : List Call) → HasTaken old taken → HasTaken new (taken ++ c ∷ [])

-- The new walk has taken the calls that the old one had, but for the last.
abbrev pub HasTakenOneLess : Walked → Walked → Type 0
HasTakenOneLess old new =
    (taken : List Call) (last : Call) → HasTaken old (taken ++ last ∷ []) → HasTaken new taken
