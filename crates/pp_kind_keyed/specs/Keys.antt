-- Meaning: objects that keep something at each key, as a memory, a set and a map do.
use Rattle.std.specs.Prelude.{◌≡◌, ℤ, Bool, true, false, not, cond, IsTrue, ◌&&◌, ◌||◌}
use Rattle.std.specs.Prelude.{if◌then◌else◌, List, ◌↔◌, Some, None}
use Rattle.std.specs.Ordering.{int_eq}
use Rattle.pp_kind.specs.Numbers.{has_ranged_arguments, is_ranged_answer}
use Rattle.pp_kind.specs.Object.{Object, IsLegal, AllowedFrom, IsAllowed, state_after, AllRanged}

-- The cells that a state keeps at its keys, and how an operation acts on the one key that it has.
pub record Keys (State Op Cell : Type 0) : Type 1 where
  -- the cell at a key
  pub cell : State → ℤ → Cell
  -- the key of an operation
  pub key : Op → ℤ
  -- whether this may be there before it, by its recorded result
  pub Finds : Op → Cell → Type 0
  -- the cell there after it, by the cell before
  pub left : Op → Cell → Cell
  -- the operation that finds this at a key, and leaves it
  pub read : ℤ → Cell → Op

module _ {State Op Cell : Type 0} (k : Keys State Op Cell) where
  -- If a and then b find what they require of this cell, so do b and then a, and both orders leave
  -- the same.
  abbrev pub TurnsAt : Op → Op → Cell → Type 0
  TurnsAt a b c =
      k.Finds a c → k.Finds b (k.left a c)
      → k.Finds b c × k.Finds a (k.left b c) × (k.left a (k.left b c) ≡ k.left b (k.left a c))

  -- Operations on different keys always swap. Those on one key swap if this test allows it.
  abbrev pub may_swap : (Op → Op → Bool) → Op → Op → Bool
  may_swap lets a b = if int_eq (k.key a) (k.key b) then lets a b else true

-- The same if the result of each operation shows what was at its key, and so what is there after
-- it.
pub record ToldKeys (State Op Cell : Type 0) : Type 0 where
  pub cell : State → ℤ → Cell
  -- whether two cells are one
  pub alike : Cell → Cell → Bool
  pub key : Op → ℤ
  -- the cell there before it
  pub found : Op → Cell
  -- the cell there after it
  pub left : Op → Cell
  pub read : ℤ → Cell → Op

-- The rule for one key, by what each of a pair finds and leaves: it swaps if the second never finds
-- what the first leaves, or if all four are one.
abbrev pub rule : {Cell : Type 0} → (Cell → Cell → Bool)
    → (found : Cell) (left : Cell) (then_found : Cell) (then_left : Cell) → Bool
rule alike found left then_found then_left =
    not (alike left then_found)
    || (alike left then_left && (alike then_left found && alike found then_found))

module _ {State Op Cell : Type 0} (k : ToldKeys State Op Cell) where
  -- the cells and the actions of keys whose operations record what they find
  abbrev pub told_keys : Keys State Op Cell
  told_keys = record {
    cell = k.cell;
    key = k.key;
    Finds = λ a c. c ≡ k.found a;
    left = λ a c. k.left a;
    read = k.read;
  }

  -- whether the rule allows two operations on one key to swap
  abbrev pub rule_lets : Op → Op → Bool
  rule_lets a b = rule k.alike (k.found a) (k.left a) (k.found b) (k.left b)

-- From here on proof machinery: what such an object shows of itself, of which its laws are made.

-- The state that undoing an operation leaves, right after it was applied.
abbrev pub undone : {State Op Undo : Type 0} → Object (Unit {0}) State Op Undo → State → Op → State
undone o s a = o.upkeep.back (o.next s a) a (o.upkeep.kept s a)

module _ {State Op Undo Cell : Type 0} (o : Object (Unit {0}) State Op Undo)
    (k : Keys State Op Cell) where
  -- An object acts by its keys.
  pub record IsKeyed : Type 0 where
    -- states with the same at each key are one
    pub one_state : (s t : State) → o.upkeep.IsState s → o.upkeep.IsState t
        → ((q : ℤ) → k.cell s q ≡ k.cell t q) → s ≡ t
    -- an operation is legal exactly if it finds what is at its key
    pub legal : (s : State) (a : Op) → IsLegal o s a ↔ k.Finds a (k.cell s (k.key a))
    -- it leaves at its key what it says, and every other key as it was
    pub next_cell : (s : State) (a : Op) (q : ℤ) → IsLegal o s a
        → k.cell (o.next s a) q ≡ cond (int_eq q (k.key a)) (k.left a (k.cell s q)) (k.cell s q)
    -- after an operation is taken back, each key has what it had
    pub back_cell : (s : State) (a : Op) (q : ℤ) → IsLegal o s a
        → k.cell (undone o s a) q ≡ k.cell s q
    -- every key can be read
    pub read_key : (q : ℤ) (c : Cell) → k.key (k.read q c) ≡ q
    pub read_finds : (q : ℤ) (c d : Cell) → k.Finds (k.read q c) d ↔ (d ≡ c)
    -- states stay states
    pub start_is_state : o.upkeep.IsState (o.start tt)
    pub next_is_state : (s : State) (a : Op) → o.upkeep.IsState s → IsLegal o s a
        → o.upkeep.IsState (o.next s a)
    pub back_is_state : (s : State) (a : Op) → o.upkeep.IsState s → IsLegal o s a
        → o.upkeep.IsState (undone o s a)
    -- operations of one call have one result in one state
    pub one_given : (s : State) (a b : Op) → o.call a ≡ o.call b → o.gives s a ≡ o.gives s b
    -- an operation is ranged exactly if its arguments and its recorded result are
    pub ranged_numbers : (a : Op)
        → o.ranged a ≡ (has_ranged_arguments (o.call a) && is_ranged_answer (o.recorded a))

  -- Why a pair on one key does not swap: after `before`, which is allowed, the pair and then
  -- `after` go on, and in the other order they stop.
  pub record Shows (a b : Op) (before after : List Op) : Type 0 where
    pub cell : Cell
    pub allowed : IsAllowed o tt before
    pub stands : k.cell (state_after o tt before) (k.key a) ≡ cell
    pub finds : k.Finds a cell
    pub follows : k.Finds b (k.left a cell)
    pub goes_on : (s : State) → k.cell s (k.key a) ≡ k.left b (k.left a cell)
        → AllowedFrom o s after
    pub stops : k.Finds b cell → k.Finds a (k.left b cell) → (s : State)
        → k.cell s (k.key a) ≡ k.left a (k.left b cell) → AllowedFrom o s after → ⊥

  -- Each pair on one key that the rule allows to swap does swap. For each other pair there are such
  -- operations, and they are ranged if the pair is.
  pub record IsShown (lets : Op → Op → Bool) (lists : Op → Op → List Op × List Op) : Type 0 where
    pub by_table : (a b : Op)
        → o.refuting a b ≡ (if may_swap k lets a b then None else Some (lists a b))
    pub turns : (a b : Op) → lets a b ≡ true → (c : Cell) → TurnsAt k a b c
    pub shown : (a b : Op) → k.key a ≡ k.key b → lets a b ≡ false
        → Shows a b (lists a b).0 (lists a b).1
    pub ranged_before : (a b : Op) → IsTrue (o.ranged a) → IsTrue (o.ranged b)
        → AllRanged o (lists a b).0
    pub ranged_after : (a b : Op) → IsTrue (o.ranged a) → IsTrue (o.ranged b)
        → AllRanged o (lists a b).1
