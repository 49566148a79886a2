-- Proof machinery: trees as lists, so that models may contain trees. Each part is written before
-- the part ahead of it, and a stack reads all back.
use Rattle.std.specs.Prelude.{◌≡◌, ◌⊎◌, ℕ, zero, suc, List, [], ◌∷◌, refl}
use Rattle.std.specs.Coded.{Coded, code_by, coded⊎, coded_ℕ, coded_list}
use Rattle.std.proofs.Common.{ap, ◌∙◌, inl, inr}
use Rattle.pp_core.specs.contracts.body.Pattern.{the_row}
use Rattle.pp_core.specs.declared.body.Pattern.{Pattern}
use Rattle.pp_core.specs.Trees.{Tree, Trees, Skip, One, Seq, Alt, Star, NoPart, Part}

-- a pattern, or what is to be done: 0 no call, 1 a new row of parts, 2 a row in turn, 3 one of a
-- row, 4 again and again
abbrev pub Token : Type 0
Token = ℕ ⊎ Pattern

abbrev mutual
  -- the tokens of a body, before further tokens
  pub written : Tree → List Token → List Token
  written Skip k = inl 0 ∷ k
  written (One p) k = inr p ∷ k
  written (Seq bs) k = inl 1 ∷ all_written bs (inl 2 ∷ k)
  written (Alt bs) k = inl 1 ∷ all_written bs (inl 3 ∷ k)
  written (Star b) k = inl 1 ∷ written b (inl 4 ∷ k)

  -- the tokens of some bodies, before further tokens
  pub all_written : Trees → List Token → List Token
  all_written NoPart k = k
  all_written (Part b bs) k = all_written bs (written b k)

-- the row on top of the stack made one part of the row below it
abbrev pub closed : (Trees → Tree) → List Trees → List Trees
closed f (bs ∷ (row ∷ st)) = Part (f bs) row ∷ st
closed f (bs ∷ []) = []
closed f [] = []

-- one more part of the row on top
abbrev pub with_part : Tree → List Trees → List Trees
with_part b (row ∷ st) = Part b row ∷ st
with_part b [] = []

-- the first body of a row
abbrev pub first_part : Trees → Tree
first_part NoPart = Skip
first_part (Part b bs) = b

-- the stack after one token
abbrev pub put : Token → List Trees → List Trees
put (inr p) st = with_part (One p) st
put (inl zero) st = with_part Skip st
put (inl (suc zero)) st = NoPart ∷ st
put (inl (suc (suc zero))) st = closed (λ bs. Seq bs) st
put (inl (suc (suc (suc zero)))) st = closed (λ bs. Alt bs) st
put (inl (suc (suc (suc (suc n))))) st = closed (λ bs. Star (first_part bs)) st

-- the stack after some tokens
abbrev pub read : List Token → List Trees → List Trees
read [] st = st
read (t ∷ ts) st = read ts (put t st)

-- the first body of the row on top of the stack
abbrev pub only : List Trees → Tree
only [] = Skip
only (row ∷ st) = first_part row

mutual
  -- To read a written tree adds the tree to the row on top of the stack.
  pub read_back : (b : Tree) (k : List Token) (row : Trees) (st : List Trees)
      → read (written b k) (row ∷ st) ≡ read k (Part b row ∷ st)
  read_back Skip k row st = refl
  read_back (One p) k row st = refl
  read_back (Seq bs) k row st = all_read_back bs (inl 2 ∷ k) (row ∷ st)
  read_back (Alt bs) k row st = all_read_back bs (inl 3 ∷ k) (row ∷ st)
  read_back (Star b) k row st = read_back b (inl 4 ∷ k) NoPart (row ∷ st)

  -- To read written trees onto an empty row makes this row the trees.
  pub all_read_back : (bs : Trees) (k : List Token) (st : List Trees)
      → read (all_written bs k) (NoPart ∷ st) ≡ read k (bs ∷ st)
  all_read_back NoPart k st = refl
  all_read_back (Part b bs) k st = all_read_back bs (written b k) st ∙ read_back b k bs st

-- a tree is stored as its list
abbrev pub tree_code : Coded Tree
tree_code =
    code_by (List Token) (coded_list (coded⊎ coded_ℕ the_row.coded)) (λ b. written b [])
    (λ ts. only (read ts (NoPart ∷ [])))
    (λ b. ap only (read_back b [] NoPart []))
