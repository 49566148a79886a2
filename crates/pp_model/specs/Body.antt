-- Meaning: the words of a body: the lists of calls that it allows.
use Rattle.std.specs.Prelude.{◌≡◌, ◌⊎◌, ℤ, List, [], ◌∷◌, ◌++◌, Option, None, Some}
pub use Rattle.pp_core.specs.Trees.{Tree, Trees, Skip, One, Seq, Alt, Star, NoPart, Part}
use Rattle.pp_model.specs.Lists.{Each, joined}
pub use Rattle.pp_core.specs.declared.body.Pattern.{Pattern}
pub use Rattle.pp_core.specs.declared.call.Call.{Call}

-- a number is the given one, if one is given
abbrev pub is_given : Option ℤ → ℤ → Type 0
is_given None z = Unit {0}
is_given (Some y) z = z ≡ y

-- a call matches a pattern
abbrev pub Matches : Pattern → Call → Type 0
Matches p c =
    (c.object ≡ p.object) × (c.method ≡ p.method) × is_given p.first c.first
    × is_given p.second c.second × is_given p.third c.third

-- the word is made of words of R that are not empty
abbrev pub Repeats : (List Call → Type 0) → List Call → Type 0
Repeats R w =
    (pieces : List (List Call)) × (w ≡ joined pieces) × Each (λ u. (u ≡ [] → ⊥) × R u) pieces

abbrev mutual
  -- the calls are a word of the body
  pub Word : Tree → List Call → Type 0
  Word Skip w = w ≡ []
  Word (One p) w = (c : Call) × (w ≡ c ∷ []) × Matches p c
  Word (Seq bs) w = WordInTurn bs w
  Word (Alt bs) w = WordOfSome bs w
  Word (Star b) w = Repeats (λ u. Word b u) w

  -- the calls are words of the bodies, one after another
  pub WordInTurn : Trees → List Call → Type 0
  WordInTurn NoPart w = w ≡ []
  WordInTurn (Part b bs) w = (u v : List Call) × (w ≡ u ++ v) × Word b u × WordInTurn bs v

  -- the calls are a word of one of the bodies
  pub WordOfSome : Trees → List Call → Type 0
  WordOfSome NoPart w = ⊥
  WordOfSome (Part b bs) w = Word b w ⊎ WordOfSome bs w

-- With no body each list of calls is a word.
abbrev pub IsWord : Option Tree → List Call → Type 0
IsWord None w = Unit {0}
IsWord (Some b) w = Word b w

-- the calls begin a word of the body, if there is one
abbrev pub Begins : Option Tree → List Call → Type 0
Begins b w = (v : List Call) × IsWord b (w ++ v)
