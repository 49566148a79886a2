-- Meaning: the run of `drill N` is accepted, and which state it leads to.
use Rattle.std.specs.Prelude.{◌≡◌, ℕ, zero, suc, ◌+◌, ◌-◌, ◌*◌, ◌/◌, ◌%◌, ◌≤◌, pos}
use Rattle.std.specs.Prelude.{List, [], ◌∷◌, ◌++◌, codes, length, None}
use Rattle.std.specs.Fmt.{decimal}
use Rattle.std.specs.FinMap.{empty}
use Rattle.pp_model.specs.Object.{Object, state}
use Rattle.pp_model.specs.Config.{first}
use Rattle.pp_model.specs.Rules.{Accepted, IsVerdict, RunsFrom}
use Rattle.pp_model.specs.Serial.{attempts, serial}
use Rattle.pp_kind.specs.Object.{rules_of}
use Rattle.pp_kind_memory.specs.Values.{written}
use Rattle.pp_objects.specs.declared.act.Op.{Op}
use Rattle.pp_objects.specs.declared.states.ObjectState.{ObjectState}
use Rattle.pp_objects.specs.declared.states.ObjectState.TheVariants as states
use Rattle.pp_objects.specs.Objects.{objects}
use Rattle.pp_text.specs.Texts.{state_bytes}
use Rattle.pp_cmd_drill.specs.Drill.{drill_catalog, drill_kinds, drill_steps}

-- m, c and s as one sequential object
abbrev pub drill_objects : Object Op (List ObjectState)
drill_objects = rules_of objects drill_kinds

-- how many steps there are: a pair has 17, the first 16, and a transaction that is left over 11, or
-- without a pair before it 10
abbrev pub count_of_steps : ℕ → ℕ
count_of_steps n = 17 * (n / 2) + 11 * (n % 2) - 1

-- how many pairs there are, the last of which may lack its second transaction
abbrev pub pairs_in : ℕ → ℕ
pairs_in n = (n + 1) / 2

-- the sum of k mod 7 for k = 1 to n
abbrev pub sum_to : ℕ → ℕ
sum_to zero = 0
sum_to (suc k) = sum_to k + suc k % 7

-- m has v at 0, c is at x, and s is empty
abbrev pub states_at : ℕ → ℕ → List ObjectState
states_at v x =
    states.Memory (written empty (pos 0) (pos v))
    ∷ states.Counter (pos x)
    ∷ states.KeySet empty
    ∷ []

-- The states after the committed transactions, one after another.
abbrev pub states_left : ℕ → List ObjectState
states_left n = state drill_objects (serial (attempts None (drill_steps n)))

-- The state lines show v at 0 in m, x in c and nothing in s.
pub record Shows (shown : List ObjectState) (v x : ℕ) : Type 0 where
  pub m : state_bytes drill_catalog shown 0 ≡ codes "state m 0=" ++ decimal v
  pub c : state_bytes drill_catalog shown 1 ≡ codes "state c " ++ decimal x
  pub s : state_bytes drill_catalog shown 2 ≡ codes "state s"

-- The facts of the run with n transactions.
pub record DrillFacts (n : ℕ) : Type 0 where
  -- each step meets its criteria
  pub runs : RunsFrom drill_objects (first None) (drill_steps n)
  pub accepted : IsVerdict drill_objects None (drill_steps n) Accepted
  pub steps : length (drill_steps n) ≡ count_of_steps n
  -- All transactions are committed, and they lead to this state.
  pub committed : length (attempts None (drill_steps n)) ≡ n
  pub leaves : states_left n ≡ states_at (pairs_in n) (sum_to n)
  pub shows : Shows (states_left n) (pairs_in n) (sum_to n)

abbrev pub DrillLaw : Type 0
DrillLaw = (n : ℕ) → 1 ≤ n → n ≤ 20_000 → DrillFacts n
