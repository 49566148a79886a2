-- Proof machinery: an attempt that did not commit is put after so many committed transactions.
use Rattle.std.specs.Prelude.{◌≡◌, ◌≢◌, ◌⊎◌, ◌≤◌, ◌<◌, ℕ, suc, zero, List, [], ◌∷◌, ◌++◌, length, map, take}
use Rattle.std.proofs.Common.{refl, sym, ap, subst, ◌∙◌, arith}
use mathlib.Core.Logic.{inl, inr}
use Rattle.pp_model.specs.Config.{Step}
use Rattle.pp_model.specs.Lists.{Before, In}
use Rattle.pp_model.specs.Names.{Name}
use Rattle.pp_model.specs.Serial.{Attempt}
use Rattle.pp_model.proofs.Lists.{before_from_map, before_map, from_map, in_right, not_empty}
use Rattle.pp_laws_opacity.specs.Orders.{Committed, Execution, Uncommitted, committed_in}

-- the position of an element: how many committed ones are before it
abbrev pub IsPlaced : {Op : Type 0} → Execution Op → List (Execution Op) → ℕ → Type 0
IsPlaced {Op} p l k = (before rest : List (Execution Op)) × (l ≡ before ++ p ∷ rest) × (length (committed_in before) ≡ k)

-- No element of a list occurs twice.
abbrev pub AreApart : {A : Type 0} → List A → Type 0
AreApart {A} l = (p q : A) → Before p q l → p ≢ q

module _ {Op : Type 0} (t : Name) (seen : List (Step Op)) where
  abbrev x : Execution Op
  x = Uncommitted t seen

  -- The executions with one more, after n committed ones.
  abbrev pub insert : ℕ → List (Execution Op) → List (Execution Op)
  insert zero l = Uncommitted t seen ∷ l
  insert (suc n) [] = Uncommitted t seen ∷ []
  insert (suc n) (Committed a ∷ l) = Committed a ∷ insert n l
  insert (suc n) (Uncommitted u s ∷ l) = Uncommitted u s ∷ insert (suc n) l

  -- An uncommitted execution that is put in leaves the committed ones as they were.
  pub insert_committed : (n : ℕ) (l : List (Execution Op)) → committed_in (insert n l) ≡ committed_in l
  insert_committed zero l = refl
  insert_committed (suc n) [] = refl
  insert_committed (suc n) (Committed a ∷ l) = ap (λ (w : List (Attempt Op)). a ∷ w) (insert_committed n l)
  insert_committed (suc n) (Uncommitted u s ∷ l) = insert_committed (suc n) l

  -- An element after one was put in is the new one, or was there before.
  pub in_insert : (n : ℕ) (l : List (Execution Op)) (p : Execution Op) → In p (insert n l) → (p ≡ x) ⊎ In p l
  in_insert zero l p i = i
  in_insert (suc n) [] p (inl e) = inl e
  in_insert (suc n) [] p (inr i) = absurd i
  in_insert (suc n) (Committed a ∷ l) p (inl e) = inr (inl e)
  in_insert (suc n) (Committed a ∷ l) p (inr i) = elim (in_insert n l p i) [ inl e ↦ inl e | inr j ↦ inr (inr j) ]
  in_insert (suc n) (Uncommitted u s ∷ l) p (inl e) = inr (inl e)
  in_insert (suc n) (Uncommitted u s ∷ l) p (inr i) = elim (in_insert (suc n) l p i) [ inl e ↦ inl e | inr j ↦ inr (inr j) ]

  -- The execution that is put in is in the sequence.
  pub insert_new : (n : ℕ) (l : List (Execution Op)) → In x (insert n l)
  insert_new zero l = inl refl
  insert_new (suc n) [] = inl refl
  insert_new (suc n) (Committed a ∷ l) = inr (insert_new n l)
  insert_new (suc n) (Uncommitted u s ∷ l) = inr (insert_new (suc n) l)

  -- Each old element is in the sequence after one was put in.
  pub insert_old : (n : ℕ) (l : List (Execution Op)) (p : Execution Op) → In p l → In p (insert n l)
  insert_old zero l p i = inr i
  insert_old (suc n) [] p i = absurd i
  insert_old (suc n) (Committed a ∷ l) p (inl e) = inl e
  insert_old (suc n) (Committed a ∷ l) p (inr i) = inr (insert_old n l p i)
  insert_old (suc n) (Uncommitted u s ∷ l) p (inl e) = inl e
  insert_old (suc n) (Uncommitted u s ∷ l) p (inr i) = inr (insert_old (suc n) l p i)

  -- The old elements keep their order if one is put in.
  pub insert_before : (n : ℕ) (l : List (Execution Op)) (p q : Execution Op) → Before p q l → Before p q (insert n l)
  insert_before zero l p q b = inr b
  insert_before (suc n) [] p q b = absurd b
  insert_before (suc n) (Committed a ∷ l) p q (inl i) = inl (i.0, insert_old n l q i.1)
  insert_before (suc n) (Committed a ∷ l) p q (inr b) = inr (insert_before n l p q b)
  insert_before (suc n) (Uncommitted u s ∷ l) p q (inl i) = inl (i.0, insert_old (suc n) l q i.1)
  insert_before (suc n) (Uncommitted u s ∷ l) p q (inr b) = inr (insert_before (suc n) l p q b)

  from_insert : (n : ℕ) (l : List (Execution Op)) (p q : Execution Op) → Before p q (insert n l) → Before p q l ⊎ ((p ≡ x) × In q l) ⊎ ((q ≡ x) × In p l)
  from_insert zero l p q (inl i) = inr (inl (i.0, i.1))
  from_insert zero l p q (inr b) = inl b
  from_insert (suc n) [] p q (inl i) = absurd (i.1)
  from_insert (suc n) [] p q (inr b) = absurd b
  from_insert (suc n) (Committed a ∷ l) p q (inl i) = elim (in_insert n l q i.1) [ inl e ↦ inr (inr (e, inl i.0)) | inr j ↦ inl (inl (i.0, j)) ]
  from_insert (suc n) (Committed a ∷ l) p q (inr b) = elim (from_insert n l p q b) [
    | inl c ↦ inl (inr c)
    | inr (inl c) ↦ inr (inl (c.0, inr c.1))
    | inr (inr c) ↦ inr (inr (c.0, inr c.1))
  ]
  from_insert (suc n) (Uncommitted u s ∷ l) p q (inl i) = elim (in_insert (suc n) l q i.1) [ inl e ↦ inr (inr (e, inl i.0)) | inr j ↦ inl (inl (i.0, j)) ]
  from_insert (suc n) (Uncommitted u s ∷ l) p q (inr b) = elim (from_insert (suc n) l p q b) [
    | inl c ↦ inl (inr c)
    | inr (inl c) ↦ inr (inl (c.0, inr c.1))
    | inr (inr c) ↦ inr (inr (c.0, inr c.1))
  ]

  -- Distinct executions stay distinct if a new one is put in.
  pub insert_apart : (n : ℕ) (l : List (Execution Op)) → AreApart l → (In x l → ⊥) → AreApart (insert n l)
  insert_apart n l apart new p q b e = elim (from_insert n l p q b) [
    | inl c ↦ apart p q c e
    | inr (inl c) ↦ new (subst (λ (w : Execution Op). In w l) (sym e ∙ c.0) c.1)
    | inr (inr c) ↦ new (subst (λ (w : Execution Op). In w l) (e ∙ c.0) c.1)
  ]

  -- it comes before each element with as many or more committed ones before it
  pub insert_first : (n : ℕ) (before rest : List (Execution Op)) (q : Execution Op) → n ≤ length (committed_in before) → Before x q (insert n (before ++ q ∷ rest))
  insert_first zero before rest q h = inl (refl, in_right q before (q ∷ rest) (inl refl))
  insert_first (suc n) [] rest q h = absurd (omega (arith, h))
  insert_first (suc n) (Committed a ∷ before) rest q h = inr (insert_first n before rest q (omega (arith, h)))
  insert_first (suc n) (Uncommitted u s ∷ before) rest q h = inr (insert_first (suc n) before rest q h)

  -- and after each element with fewer
  pub insert_last : (n : ℕ) (before rest : List (Execution Op)) (q : Execution Op) → length (committed_in before) < n → Before q x (insert n (before ++ q ∷ rest))
  insert_last zero before rest q h = absurd (omega (arith, h))
  insert_last (suc n) [] rest (Committed a) h = inl (refl, insert_new n rest)
  insert_last (suc n) [] rest (Uncommitted u s) h = inl (refl, insert_new (suc n) rest)
  insert_last (suc n) (Committed a ∷ before) rest q h = inr (insert_last n before rest q (omega (arith, h)))
  insert_last (suc n) (Uncommitted u s ∷ before) rest q h = inr (insert_last (suc n) before rest q h)

  -- the other elements keep their order
  insert_split : (n : ℕ) (before rest : List (Execution Op)) (q : Execution Op) →
      (b r : List (Execution Op)) × (insert n (before ++ q ∷ rest) ≡ b ++ q ∷ r) × (committed_in b ≡ committed_in before)
  insert_split zero before rest q = (x ∷ before, rest, refl, refl)
  insert_split (suc n) [] rest (Committed a) = ([], insert n rest, refl, refl)
  insert_split (suc n) [] rest (Uncommitted u s) = ([], insert (suc n) rest, refl, refl)
  insert_split (suc n) (Committed a ∷ before) rest q =
      let r = insert_split n before rest q in
      (Committed a ∷ r.0, r.1, ap (λ (w : List (Execution Op)). Committed a ∷ w) r.2, ap (λ (w : List (Attempt Op)). a ∷ w) r.3)
  insert_split (suc n) (Uncommitted u s ∷ before) rest q =
      let r = insert_split (suc n) before rest q in
      (Uncommitted u s ∷ r.0, r.1, ap (λ (w : List (Execution Op)). Uncommitted u s ∷ w) r.2, r.3)

  -- An old element keeps the number of committed ones before it if one is put in.
  pub insert_placed : (n : ℕ) (l : List (Execution Op)) (q : Execution Op) (k : ℕ) → IsPlaced q l k → IsPlaced q (insert n l) k
  insert_placed n l q k p =
      let r = insert_split n p.0 p.1 q in
      (r.0, r.1, ap (λ (w : List (Execution Op)). insert n w) p.2 ∙ r.2, ap (λ (w : List (Attempt Op)). length w) r.3 ∙ p.3)

  -- An attempt that is inserted is at the place at which it was inserted.
  pub insert_there : (n : ℕ) (l : List (Execution Op)) → n ≤ length (committed_in l) → IsPlaced x (insert n l) n
  insert_there zero l h = ([], l, refl, refl)
  insert_there (suc n) [] h = absurd (omega (arith, h))
  insert_there (suc n) (Committed a ∷ l) h =
      let r = insert_there n l (omega (arith, h)) in
      (Committed a ∷ r.0, r.1, ap (λ (w : List (Execution Op)). Committed a ∷ w) r.2, ap suc r.3)
  insert_there (suc n) (Uncommitted u s ∷ l) h =
      let r = insert_there (suc n) l h in
      (Uncommitted u s ∷ r.0, r.1, ap (λ (w : List (Execution Op)). Uncommitted u s ∷ w) r.2, r.3)

  -- an element is the new one, or was there before
  pub split_cases : (n : ℕ) (l before rest : List (Execution Op)) (p : Execution Op) → insert n l ≡ before ++ p ∷ rest
      → ((p ≡ x) × (committed_in before ≡ take n (committed_in l)))
      ⊎ ((b r : List (Execution Op)) × (l ≡ b ++ p ∷ r) × (committed_in b ≡ committed_in before))
  split_cases zero l [] rest p e = inl (let k : x ≡ p = cc in sym k, refl)
  split_cases zero l (y ∷ before) rest p e =
      let k : x ≡ y = cc in
      let m : l ≡ before ++ p ∷ rest = cc in
      inr (before, rest, m, ap (λ (w : Execution Op). committed_in (w ∷ before)) k)
  split_cases (suc n) [] [] rest p e = inl (let k : x ≡ p = cc in sym k, refl)
  split_cases (suc n) [] (y ∷ before) rest p e = absurd (let m : [] ≡ before ++ p ∷ rest = cc in not_empty before rest p m)
  split_cases (suc n) (Committed a ∷ l) [] rest p e = inr ([], l, let k : Committed a ≡ p = cc in ap (λ (w : Execution Op). w ∷ l) k, refl)
  split_cases (suc n) (Committed a ∷ l) (y ∷ before) rest p e =
      let k : Committed a ≡ y = cc in
      let m : insert n l ≡ before ++ p ∷ rest = cc in
      elim (split_cases n l before rest p m) [
        | inl r ↦ inl (r.0, ap (λ (w : Execution Op). committed_in (w ∷ before)) (sym k) ∙ ap (λ (w : List (Attempt Op)). a ∷ w) r.1)
        | inr r ↦ inr (Committed a ∷ r.0, r.1, ap (λ (w : List (Execution Op)). Committed a ∷ w) r.2, ap (λ (w : List (Attempt Op)). a ∷ w) r.3 ∙ ap (λ (w : Execution Op). committed_in (w ∷ before)) k)
      ]
  split_cases (suc n) (Uncommitted u s ∷ l) [] rest p e = inr ([], l, let k : Uncommitted u s ≡ p = cc in ap (λ (w : Execution Op). w ∷ l) k, refl)
  split_cases (suc n) (Uncommitted u s ∷ l) (y ∷ before) rest p e =
      let k : Uncommitted u s ≡ y = cc in
      let m : insert (suc n) l ≡ before ++ p ∷ rest = cc in
      elim (split_cases (suc n) l before rest p m) [
        | inl r ↦ inl (r.0, ap (λ (w : Execution Op). committed_in (w ∷ before)) (sym k) ∙ r.1)
        | inr r ↦ inr (Uncommitted u s ∷ r.0, r.1, ap (λ (w : List (Execution Op)). Uncommitted u s ∷ w) r.2, r.3 ∙ ap (λ (w : Execution Op). committed_in (w ∷ before)) k)
      ]

-- the committed ones alone
pub base_committed : {Op : Type 0} (A : List (Attempt Op)) → committed_in (map Committed A) ≡ A
base_committed [] = refl
base_committed {Op} (a ∷ A) = ap (λ (w : List (Attempt Op)). a ∷ w) (base_committed A)

-- An element of the sequence of committed attempts is one of them, with the others around it.
pub base_split : {Op : Type 0} (A : List (Attempt Op)) (before rest : List (Execution Op)) (p : Execution Op) → map Committed A ≡ before ++ p ∷ rest
    → (a : Attempt Op) × (A2 : List (Attempt Op)) × (p ≡ Committed a) × (A ≡ committed_in before ++ a ∷ A2)
base_split [] before rest p e = absurd (not_empty before rest p e)
base_split {Op} (a ∷ A) [] rest p e = (a, A, let k : Committed a ≡ p = cc in sym k, refl)
base_split {Op} (a ∷ A) (y ∷ before) rest p e =
    let k : Committed a ≡ y = cc in
    let m : map Committed A ≡ before ++ p ∷ rest = cc in
    let r = base_split A before rest p m in
    (r.0, r.1, r.2, more a A r.1 y before r.0 r.3 k)
  where
    more : (a : Attempt Op) (A A2 : List (Attempt Op)) (y : Execution Op) (before : List (Execution Op)) (b : Attempt Op) → A ≡ committed_in before ++ b ∷ A2 → Committed a ≡ y
        → a ∷ A ≡ committed_in (y ∷ before) ++ b ∷ A2
    more a A A2 y before b e k = ap (λ (w : List (Attempt Op)). a ∷ w) e ∙ ap (λ (w : Execution Op). committed_in (w ∷ before) ++ b ∷ A2) k

-- A committed attempt is placed after as many committed ones as are before it.
pub base_placed : {Op : Type 0} (A1 : List (Attempt Op)) (a : Attempt Op) (A2 : List (Attempt Op)) → IsPlaced (Committed a) (map Committed (A1 ++ a ∷ A2)) (length A1)
base_placed [] a A2 = ([], map Committed A2, refl, refl)
base_placed {Op} (b ∷ A1) a A2 =
    let r = base_placed A1 a A2 in
    (Committed b ∷ r.0, r.1, ap (λ (w : List (Execution Op)). Committed b ∷ w) r.2, ap suc r.3)

-- An attempt that did not commit, with its place.
pub record Place (Op : Type 0) : Type 0 where
  pub n : ℕ
  pub tx : Name
  pub seen : List (Step Op)

-- The execution of an uncommitted attempt.
abbrev pub part : {Op : Type 0} → Place Op → Execution Op
part c = Uncommitted c.tx c.seen

-- The executions of committed attempts, with the uncommitted ones inserted.
abbrev pub built : {Op : Type 0} → List (Attempt Op) → List (Place Op) → List (Execution Op)
built A [] = map Committed A
built A (c ∷ N) = insert c.tx c.seen c.n (built A N)

-- The committed executions of a built sequence are the committed attempts.
pub built_committed : {Op : Type 0} (A : List (Attempt Op)) (N : List (Place Op)) → committed_in (built A N) ≡ A
built_committed A [] = base_committed A
built_committed A (c ∷ N) = insert_committed c.tx c.seen c.n (built A N) ∙ built_committed A N

-- An element of a built sequence is a committed attempt, or one that was put in.
pub in_built : {Op : Type 0} (A : List (Attempt Op)) (N : List (Place Op)) (p : Execution Op) → In p (built A N)
    → ((a : Attempt Op) × In a A × (p ≡ Committed a)) ⊎ ((c : Place Op) × In c N × (p ≡ part c))
in_built A [] p i = inl (from_map Committed p A i)
in_built A (c ∷ N) p i = elim (in_insert c.tx c.seen c.n (built A N) p i) [
  | inl e ↦ inr (c, inl refl, e)
  | inr j ↦ elim (in_built A N p j) [ inl r ↦ inl r | inr r ↦ inr (r.0, inr r.1, r.2) ]
]

-- Each attempt that was put in is in the built sequence.
pub built_in : {Op : Type 0} (A : List (Attempt Op)) (N : List (Place Op)) (c : Place Op) → In c N → In (part c) (built A N)
built_in A [] c i = absurd i
built_in {Op} A (d ∷ N) c (inl e) = subst (λ (w : Place Op). In (part w) (built A (d ∷ N))) (sym e) (insert_new d.tx d.seen d.n (built A N))
built_in A (d ∷ N) c (inr i) = insert_old d.tx d.seen d.n (built A N) (part c) (built_in A N c i)

-- The elements of a built sequence are distinct if what it is built of is.
pub built_apart : {Op : Type 0} (A : List (Attempt Op)) (N : List (Place Op)) → AreApart A → ((c d : Place Op) → Before c d N → part c ≢ part d) → AreApart (built A N)
built_apart {Op} A [] apart places = λ p q b e.
    let m = before_from_map Committed p q A b in
    apart m.0 m.1 m.2 (one m.0 m.1 (sym m.3 ∙ e ∙ m.4))
  where
    one : (a b : Attempt Op) → Committed a ≡ Committed b → a ≡ b
    one a b e = cc
built_apart {Op} A (c ∷ N) apart places =
    insert_apart c.tx c.seen c.n (built A N) (built_apart A N apart (λ d e b. places d e (inr b))) (λ i. elim (in_built A N (part c) i) [
      | inl r ↦ differ (part c) r.0 c r.2 refl
      | inr r ↦ places c r.0 (inl (refl, r.1)) r.2
    ])
  where
    differ : (p : Execution Op) (a : Attempt Op) (c : Place Op) → p ≡ Committed a → p ≡ part c → ⊥
    differ p a c e f = let k : Committed a ≡ Uncommitted c.tx c.seen = sym e ∙ f in cc

-- the positions of the elements
pub committed_placed : {Op : Type 0} (A1 : List (Attempt Op)) (a : Attempt Op) (A2 : List (Attempt Op)) (N : List (Place Op)) → IsPlaced (Committed a) (built (A1 ++ a ∷ A2) N) (length A1)
committed_placed A1 a A2 [] = base_placed A1 a A2
committed_placed A1 a A2 (c ∷ N) = insert_placed c.tx c.seen c.n (built (A1 ++ a ∷ A2) N) (Committed a) (length A1) (committed_placed A1 a A2 N)

-- An inserted attempt is placed after as many commits as its number says.
pub part_placed : {Op : Type 0} (A : List (Attempt Op)) (N : List (Place Op)) → ((c : Place Op) → In c N → c.n ≤ length A) → (c : Place Op) → In c N → IsPlaced (part c) (built A N) c.n
part_placed A [] most c i = absurd i
part_placed {Op} A (d ∷ N) most c (inl e) =
    let within : d.n ≤ length (committed_in (built A N)) = subst (λ (w : List (Attempt Op)). d.n ≤ length w) (sym (built_committed A N)) (most d (inl refl)) in
    subst (λ (w : Place Op). IsPlaced (part w) (built A (d ∷ N)) w.n) (sym e) (insert_there d.tx d.seen d.n (built A N) within)
part_placed A (d ∷ N) most c (inr i) = insert_placed d.tx d.seen d.n (built A N) (part c) c.n (part_placed A N (λ e j. most e (inr j)) c i)

-- which of two comes before the other
first_of_two : {Op : Type 0} (c : Place Op) (l : List (Execution Op)) (q : Execution Op) (k : ℕ) → IsPlaced q l k → c.n ≤ k → Before (part c) q (insert c.tx c.seen c.n l)
first_of_two {Op} c l q k p h =
    subst (λ (w : List (Execution Op)). Before (part c) q (insert c.tx c.seen c.n w)) (sym p.2)
    (insert_first c.tx c.seen c.n p.0 p.1 q (subst (λ (w : ℕ). c.n ≤ w) (sym p.3) h))

last_of_two : {Op : Type 0} (c : Place Op) (l : List (Execution Op)) (q : Execution Op) (k : ℕ) → IsPlaced q l k → k < c.n → Before q (part c) (insert c.tx c.seen c.n l)
last_of_two {Op} c l q k p h =
    subst (λ (w : List (Execution Op)). Before q (part c) (insert c.tx c.seen c.n w)) (sym p.2)
    (insert_last c.tx c.seen c.n p.0 p.1 q (subst (λ (w : ℕ). w < c.n) (sym p.3) h))

-- Committed attempts keep their order in a built sequence.
pub two_committed : {Op : Type 0} (A : List (Attempt Op)) (N : List (Place Op)) (a b : Attempt Op) → Before a b A → Before (Committed a) (Committed b) (built A N)
two_committed A [] a b i = before_map Committed a b A i
two_committed A (c ∷ N) a b i = insert_before c.tx c.seen c.n (built A N) (Committed a) (Committed b) (two_committed A N a b i)

-- An attempt put in after at most n commits is before the committed attempt with n before it.
pub to_committed : {Op : Type 0} (A1 : List (Attempt Op)) (a : Attempt Op) (A2 : List (Attempt Op)) (N : List (Place Op)) (c : Place Op) → In c N → c.n ≤ length A1 → Before (part c) (Committed a) (built (A1 ++ a ∷ A2) N)
to_committed A1 a A2 [] c i h = absurd i
to_committed {Op} A1 a A2 (d ∷ N) c (inl e) h =
    let A = A1 ++ a ∷ A2 in
    subst (λ (w : Place Op). Before (part w) (Committed a) (built A (d ∷ N))) (sym e)
    (first_of_two d (built A N) (Committed a) (length A1) (committed_placed A1 a A2 N) (subst (λ (w : Place Op). w.n ≤ length A1) e h))
to_committed A1 a A2 (d ∷ N) c (inr i) h = insert_before d.tx d.seen d.n (built (A1 ++ a ∷ A2) N) (part c) (Committed a) (to_committed A1 a A2 N c i h)

-- An attempt put in after more than n commits is after the committed attempt with n before it.
pub from_committed : {Op : Type 0} (A1 : List (Attempt Op)) (a : Attempt Op) (A2 : List (Attempt Op)) (N : List (Place Op)) (c : Place Op) → In c N → length A1 < c.n → Before (Committed a) (part c) (built (A1 ++ a ∷ A2) N)
from_committed A1 a A2 [] c i h = absurd i
from_committed {Op} A1 a A2 (d ∷ N) c (inl e) h =
    let A = A1 ++ a ∷ A2 in
    subst (λ (w : Place Op). Before (Committed a) (part w) (built A (d ∷ N))) (sym e)
    (last_of_two d (built A N) (Committed a) (length A1) (committed_placed A1 a A2 N) (subst (λ (w : Place Op). length A1 < w.n) e h))
from_committed A1 a A2 (d ∷ N) c (inr i) h = insert_before d.tx d.seen d.n (built (A1 ++ a ∷ A2) N) (Committed a) (part c) (from_committed A1 a A2 N c i h)

-- Two attempts that were put in are in the order of their numbers of commits.
pub two_parts : {Op : Type 0} (A : List (Attempt Op)) (N : List (Place Op)) → ((c : Place Op) → In c N → c.n ≤ length A) → (c d : Place Op) → Before c d N → c.n ≤ d.n → Before (part c) (part d) (built A N)
two_parts A [] most c d b h = absurd b
two_parts {Op} A (e ∷ N) most c d (inl i) h =
    subst (λ (w : Place Op). Before (part w) (part d) (built A (e ∷ N))) (sym i.0)
    (first_of_two e (built A N) (part d) d.n (part_placed A N (λ f j. most f (inr j)) d i.1) (subst (λ (w : Place Op). w.n ≤ d.n) i.0 h))
two_parts A (e ∷ N) most c d (inr b) h = insert_before e.tx e.seen e.n (built A N) (part c) (part d) (two_parts A N (λ f j. most f (inr j)) c d b h)
