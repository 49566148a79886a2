-- Proof machinery: sets of positions. Each node of a body has a place: its parts' places follow one another from its
-- own. A set of places says which patterns may have matched the last call.
use Rattle.std.specs.Prelude.{◌≡◌, ◌⊎◌, ℕ, ◌+◌, ◌^◌, ◌==◌, Bool, true, false, ◌&&◌, ◌||◌}
use Rattle.std.specs.Prelude.{if◌then◌else◌, List, [], ◌++◌, bit_or}
use Rattle.std.specs.Int.{bit_at}
use Rattle.pp_body.specs.Patterns.{matches}
use Rattle.pp_model.specs.Body.{Tree, Trees, Skip, One, Seq, Alt, Star, NoPart, Part, Word}
use Rattle.pp_model.specs.Body.{WordInTurn, Repeats, Call}
use Rattle.pp_core.specs.Trees.{nodes, nodes_of_all}

-- the place is in the set
abbrev pub has : ℕ → ℕ → Bool
has set at = bit_at set at == 1

-- Whether the end is reached from the set, or from the start if that is entered. With `more`,
-- whether calls can lead there.
abbrev mutual
  -- whether the end of the body is reached
  pub reaches : Bool → Tree → ℕ → ℕ → Bool → Bool
  reaches more Skip at set entered = entered
  reaches more (One p) at set entered = has set at || (more && entered)
  reaches more (Seq bs) at set entered = reaches_in_turn more bs at set entered
  reaches more (Alt bs) at set entered = reaches_some more bs at set entered
  reaches more (Star b) at set entered = entered || reaches more b at set false

  -- whether the end of parts one after another is reached
  pub reaches_in_turn : Bool → Trees → ℕ → ℕ → Bool → Bool
  reaches_in_turn more NoPart at set entered = entered
  reaches_in_turn more (Part b bs) at set entered =
      reaches_in_turn more bs (at + nodes b) set (reaches more b at set entered)

  -- whether the end of any one of the parts is reached
  pub reaches_some : Bool → Trees → ℕ → ℕ → Bool → Bool
  reaches_some more NoPart at set entered = false
  reaches_some more (Part b bs) at set entered =
      reaches more b at set entered || reaches_some more bs (at + nodes b) set entered

-- the same for parts one after another, with the place after the parts
abbrev pub reaches_in_turn_to : Bool → Trees → ℕ → ℕ → Bool → Bool × ℕ
reaches_in_turn_to more bs at set entered =
    (reaches_in_turn more bs at set entered, at + nodes_of_all bs)

-- the same for any one of the parts, with the place after the parts
abbrev pub reaches_some_to : Bool → Trees → ℕ → ℕ → Bool → Bool × ℕ
reaches_some_to more bs at set entered = (reaches_some more bs at set entered, at + nodes_of_all bs)

-- the set after one more call
abbrev mutual
  -- the set in the body after one more call
  pub shift : Tree → ℕ → ℕ → Bool → Call → ℕ
  shift Skip at set entered call = 0
  shift (One p) at set entered call = if entered && matches p call then 2 ^ at else 0
  shift (Seq bs) at set entered call = shift_in_turn bs at set entered call
  shift (Alt bs) at set entered call = shift_some bs at set entered call
  shift (Star b) at set entered call = shift b at set (entered || reaches false b at set false) call

  -- the set in parts one after another, after one more call
  pub shift_in_turn : Trees → ℕ → ℕ → Bool → Call → ℕ
  shift_in_turn NoPart at set entered call = 0
  shift_in_turn (Part b bs) at set entered call =
      bit_or (shift b at set entered call)
      (shift_in_turn bs (at + nodes b) set (reaches false b at set entered) call)

  -- the set in any one of the parts, after one more call
  pub shift_some : Trees → ℕ → ℕ → Bool → Call → ℕ
  shift_some NoPart at set entered call = 0
  shift_some (Part b bs) at set entered call =
      bit_or (shift b at set entered call) (shift_some bs (at + nodes b) set entered call)

-- the words that may still follow from the set
abbrev mutual
  -- the calls may still follow in the body
  pub Rest : Tree → ℕ → ℕ → List Call → Type 0
  Rest Skip at set v = ⊥
  Rest (One p) at set v = (has set at ≡ true) × (v ≡ [])
  Rest (Seq bs) at set v = RestInTurn bs at set v
  Rest (Alt bs) at set v = RestOfSome bs at set v
  Rest (Star b) at set v =
      (u x : List Call) × (v ≡ u ++ x) × Rest b at set u × Repeats (λ w. Word b w) x

  -- the calls may still follow in parts one after another
  pub RestInTurn : Trees → ℕ → ℕ → List Call → Type 0
  RestInTurn NoPart at set v = ⊥
  RestInTurn (Part b bs) at set v =
      ((u x : List Call) × (v ≡ u ++ x) × Rest b at set u × WordInTurn bs x)
      ⊎ RestInTurn bs (at + nodes b) set v

  -- the calls may still follow in any one of the parts
  pub RestOfSome : Trees → ℕ → ℕ → List Call → Type 0
  RestOfSome NoPart at set v = ⊥
  RestOfSome (Part b bs) at set v = Rest b at set v ⊎ RestOfSome bs (at + nodes b) set v
