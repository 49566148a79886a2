-- Splitting a text after the bytes of one kind.
use Rattle.std.proofs.Common.{◌≡◌, ℕ, ◌==◌, not, Bool, true, false, ◌&&◌, List, [], ◌∷◌, ◌++◌, refl, sym}
use Rattle.std.proofs.Common.{◌∙◌, ap, subst, eqb-true, eq-eqb}
use Rattle.std.specs.List.{list_all}
use Rattle.std.proofs.lemmas.Bool.{and_parts}

-- each byte passes the test
abbrev pub Only : (ℕ → Bool) → List ℕ → Type 0
Only p [] = Unit {0}
Only p (b ∷ bs) = (p b ≡ true) × Only p bs

-- there is no byte, or the first one fails the test
abbrev pub Stops : (ℕ → Bool) → List ℕ → Type 0
Stops p [] = Unit {0}
Stops p (b ∷ bs) = p b ≡ false

-- any byte but this
abbrev pub other_than : ℕ → ℕ → Bool
other_than c b = not (b == c)

-- a byte that passes a test differs from one that fails it
pub clash : {A : Type 0} (p : ℕ → Bool) (b c : ℕ) → p b ≡ true → p c ≡ false → b ≡ c → A
clash p b c passes fails same = absurd (let all : true ≡ false = sym passes ∙ ap p same ∙ fails in cc)

-- texts with different first bytes differ
pub apart : {A : Type 0} (b c : ℕ) (x y : List ℕ) → (b == c) ≡ false → b ∷ x ≡ c ∷ y → A
apart b c x y differ e = let first : b ≡ c = cc in absurd (let all : true ≡ false = sym (eq-eqb b c first) ∙ differ in cc)

-- If two first parts have only bytes that pass a test, and no second part begins with such a byte,
-- then equal texts have equal parts.
pub split : (p : ℕ → Bool) (x y u v : List ℕ) → Only p x → Only p y → Stops p u → Stops p v → x ++ u ≡ y ++ v → (x ≡ y) × (u ≡ v)
split p [] [] u v only_x only_y stops_u stops_v e = (refl, e)
split p [] (b ∷ y) [] v only_x only_y stops_u stops_v e = absurd (cc)
split p [] (b ∷ y) (c ∷ u) v only_x only_y stops_u stops_v e = let same : b ≡ c = cc in clash p b c only_y.0 stops_u same
split p (a ∷ x) [] u [] only_x only_y stops_u stops_v e = absurd (cc)
split p (a ∷ x) [] u (c ∷ v) only_x only_y stops_u stops_v e = let same : a ≡ c = cc in clash p a c only_x.0 stops_v same
split p (a ∷ x) (b ∷ y) u v only_x only_y stops_u stops_v e =
    let first : a ≡ b = cc in
    let rest : x ++ u ≡ y ++ v = cc in
    let more = split p x y u v only_x.1 only_y.1 stops_u stops_v rest in
    let tails : x ≡ y = more.0 in
    (cc, more.1)

-- if all bytes of two texts pass a test, so do those of the joined text
pub only_append : (p : ℕ → Bool) (x y : List ℕ) → Only p x → Only p y → Only p (x ++ y)
only_append p [] y h k = k
only_append p (a ∷ x) y h k = (h.0, only_append p x y h.1 k)

-- bytes that pass a test pass a weaker one
pub only_weaker : (p q : ℕ → Bool) → ((b : ℕ) → p b ≡ true → q b ≡ true) → (x : List ℕ) → Only p x → Only q x
only_weaker p q weaker [] h = tt
only_weaker p q weaker (b ∷ x) h = (weaker b h.0, only_weaker p q weaker x h.1)

passes_other : (p : ℕ → Bool) (c : ℕ) → p c ≡ false → (b : ℕ) → p b ≡ true → other_than c b ≡ true
passes_other p c fails b passes = by (b == c) refl
  where
    by : (t : Bool) → (b == c) ≡ t → not t ≡ true
    by false e = refl
    by true e = clash p b c passes fails (eqb-true b c e)

-- a byte that fails a test is not in a text whose bytes pass it
pub only_other : (p : ℕ → Bool) (c : ℕ) → p c ≡ false → (x : List ℕ) → Only p x → Only (other_than c) x
only_other p c fails x h = only_weaker p (other_than c) (passes_other p c fails) x h

-- If `list_all` says that each byte passes a test, each byte does.
pub only_all : (p : ℕ → Bool) (x : List ℕ) → list_all p x ≡ true → Only p x
only_all p [] h = tt
only_all p (b ∷ x) h = let two = and_parts (p b) (list_all p x) h in (two.0, only_all p x two.1)

-- If each byte passes a test, `list_all` says so.
pub all_only : (p : ℕ → Bool) (x : List ℕ) → Only p x → list_all p x ≡ true
all_only p [] h = refl
all_only p (b ∷ x) h = ap (λ t. t && list_all p x) h.0 ∙ all_only p x h.1

-- a text of other bytes does not have this byte
never_other : {A : Type 0} (c : ℕ) (x y : List ℕ) → Only (other_than c) (x ++ c ∷ y) → A
never_other {A} c [] y h = clash (other_than c) c c h.0 (itself c) refl
  where
    itself : (d : ℕ) → other_than d d ≡ false
    itself d = ap not (eq-eqb d d refl)
never_other c (a ∷ x) y h = never_other c x y h.1

-- If the second parts come after a byte that they do not have, then equal texts have equal parts.
pub split_last : (c : ℕ) (x y u v : List ℕ) → Only (other_than c) u → Only (other_than c) v → x ++ c ∷ u ≡ y ++ c ∷ v → (x ≡ y) × (u ≡ v)
split_last c [] [] u v only_u only_v e = (refl, cc)
split_last c [] (b ∷ y) u v only_u only_v e =
    let rest : u ≡ y ++ c ∷ v = cc in never_other c y v (subst (Only (other_than c)) rest only_u)
split_last c (a ∷ x) [] u v only_u only_v e =
    let rest : x ++ c ∷ u ≡ v = cc in never_other c x u (subst (Only (other_than c)) (sym rest) only_v)
split_last c (a ∷ x) (b ∷ y) u v only_u only_v e =
    let first : a ≡ b = cc in
    let rest : x ++ c ∷ u ≡ y ++ c ∷ v = cc in
    let more = split_last c x y u v only_u only_v rest in
    let tails : x ≡ y = more.0 in
    (cc, more.1)
