-- The positions that `shift` keeps.
use Rattle.std.proofs.Common.{◌≡◌, ◌≤◌, ◌<◌, ◌⊎◌, ℕ, ◌+◌, ◌^◌, Bool, true, false, ◌&&◌, ◌||◌, cond}
use Rattle.std.proofs.Common.{List, [], ◌∷◌, ◌++◌, bit_or, max, refl, ap, sym, subst, ◌∙◌, inl, inr}
use Rattle.std.proofs.Common.{arith}
use Rattle.std.specs.Int.{bit_at}
use Rattle.std.proofs.lemmas.Nat.Bits.{bit_at_or, bit_at-zero, bit_at-pow_same, bit_at-pow_other}
use Rattle.std.proofs.lemmas.Nat.Bits.{bit_at-lt}
use Rattle.std.proofs.lemmas.Bool.Decides.{Decides-eqb, eqb_tells}
use Rattle.pp_body.specs.Patterns.{matches}
use Rattle.pp_model.specs.Body.{Tree, Trees, Skip, One, Seq, Alt, Star, NoPart, Part, Word}
use Rattle.pp_model.specs.Body.{WordInTurn, Repeats, Call, Pattern}
use Rattle.pp_core.specs.Trees.{nodes, nodes_of_all}
use Rattle.pp_body.specs.Positions.{has, reaches, shift, shift_in_turn, shift_some, Rest}
use Rattle.pp_body.specs.Positions.{RestInTurn, RestOfSome}
use Rattle.pp_body.proofs.Patterns.{and_left, and_right, or_cases, matches_means}
use Rattle.pp_body.proofs.Reaches.{Goes, GoesInTurn, GoesOfSome, reached, reaching}

-- bits
one_of : (s t i : ℕ) → has (bit_or s t) i ≡ true → (has s i ≡ true) ⊎ (has t i ≡ true)
one_of s t i h =
    let e = (Decides-eqb (bit_at (bit_or s t) i) 1).0 h in
    let m : max (bit_at s i) (bit_at t i) ≡ 1 = sym (bit_at_or s t i) ∙ e in
    elim (eqb_tells (bit_at s i) 1) [
      | inl y ↦ inl y.0
      | inr n ↦ inr ((Decides-eqb (bit_at t i) 1).1 (omega (arith, m, n.1, bit_at-lt s i, bit_at-lt t i)))
    ]

-- A place of the first set is in the union.
pub in_first : (s t i : ℕ) → has s i ≡ true → has (bit_or s t) i ≡ true
in_first s t i h =
    let e = (Decides-eqb (bit_at s i) 1).0 h in
    (Decides-eqb (bit_at (bit_or s t) i) 1).1 (bit_at_or s t i ∙ omega (arith, e, bit_at-lt t i))

-- A place of the second set is in the union.
pub in_second : (s t i : ℕ) → has t i ≡ true → has (bit_or s t) i ≡ true
in_second s t i h =
    let e = (Decides-eqb (bit_at t i) 1).0 h in
    (Decides-eqb (bit_at (bit_or s t) i) 1).1 (bit_at_or s t i ∙ omega (arith, e, bit_at-lt s i))

-- No place is in the empty set.
pub none_has : (i : ℕ) → has 0 i ≡ true → ⊥
none_has i h = let e = (Decides-eqb (bit_at 0 i) 1).0 h in let z = bit_at-zero i in omega arith

single : (k i : ℕ) → has (2 ^ k) i ≡ true → i ≡ k
single k i h =
    let e = (Decides-eqb (bit_at (2 ^ k) i) 1).0 h in
    elim (eqb_tells i k) [ inl y ↦ y.1 | inr n ↦ absurd (omega (arith, e, bit_at-pow_other k i n.1)) ]

-- The place k is in the set of k alone.
pub single_has : (k : ℕ) → has (2 ^ k) k ≡ true
single_has k = (Decides-eqb (bit_at (2 ^ k) k) 1).1 (bit_at-pow_same k)

-- The calls that may follow depend on the places of the body alone.
abbrev pub Along : ℕ → ℕ → ℕ → ℕ → Type 0
Along from until s t = (i : ℕ) → from ≤ i → i < until → has s i ≡ true → has t i ≡ true

mutual
  -- Words that follow from a set follow from each set that has at least its places in the body.
  pub along : (b : Tree) (at s t : ℕ) (v : List Call) → Along at (at + nodes b) s t → Rest b at s v → Rest b at t v
  along Skip at s t v f r = r
  along (One p) at s t v f r = (f at (omega arith) (omega arith) r.0, r.1)
  along (Seq bs) at s t v f r = along_turn bs at s t v (λ i a l. f i a (omega arith)) r
  along (Alt bs) at s t v f r = along_some bs at s t v (λ i a l. f i a (omega arith)) r
  along (Star b) at s t v f r = (r.0, r.1, r.2, along b at s t r.0 (λ i a l. f i a (omega arith)) r.3, r.4)

  -- Words that follow in turn from a set follow from each set that has at least its places in the parts.
  pub along_turn : (bs : Trees) (at s t : ℕ) (v : List Call) → Along at (at + nodes_of_all bs) s t → RestInTurn bs at s v → RestInTurn bs at t v
  along_turn NoPart at s t v f r = r
  along_turn (Part b bs) at s t v f (inl r) = inl (r.0, r.1, r.2, along b at s t r.0 (λ i a l. f i a (omega arith)) r.3, r.4)
  along_turn (Part b bs) at s t v f (inr r) = inr (along_turn bs (at + nodes b) s t v (λ i a l. f i (omega arith) (omega arith)) r)

  -- Words that follow in one of some parts do so from each set that has at least its places there.
  pub along_some : (bs : Trees) (at s t : ℕ) (v : List Call) → Along at (at + nodes_of_all bs) s t → RestOfSome bs at s v → RestOfSome bs at t v
  along_some NoPart at s t v f r = r
  along_some (Part b bs) at s t v f (inl r) = inl (along b at s t v (λ i a l. f i a (omega arith)) r)
  along_some (Part b bs) at s t v f (inr r) = inr (along_some bs (at + nodes b) s t v (λ i a l. f i (omega arith) (omega arith)) r)

-- the new set lies within the body's places
abbrev Lies : ℕ → ℕ → ℕ → Type 0
Lies from until s = (i : ℕ) → has s i ≡ true → (from ≤ i) × (i < until)

one_lies : (at : ℕ) (t : Bool) → Lies at (at + 1) (cond t (2 ^ at) 0)
one_lies at true i h = let e = single at i h in (omega arith, omega arith)
one_lies at false i h = absurd (none_has i h)

abbrev Until : ℕ → ℕ → ℕ → Type 0
Until at n s = Lies at (at + n) s

mutual
  lies : (b : Tree) (at set : ℕ) (m : Bool) (c : Call) → Until at (nodes b) (shift b at set m c)
  lies Skip at set m c i h = absurd (none_has i h)
  lies (One p) at set m c i h = one_lies at (m && matches p c) i h
  lies (Seq bs) at set m c i h = let r = lies_turn bs at set m c i h in (omega arith, omega arith)
  lies (Alt bs) at set m c i h = let r = lies_some bs at set m c i h in (omega arith, omega arith)
  lies (Star b) at set m c i h = let r = lies b at set (m || reaches false b at set false) c i h in (omega arith, omega arith)

  lies_turn : (bs : Trees) (at set : ℕ) (m : Bool) (c : Call) → Until at (nodes_of_all bs) (shift_in_turn bs at set m c)
  lies_turn NoPart at set m c i h = absurd (none_has i h)
  lies_turn (Part b bs) at set m c i h =
      elim (one_of (shift b at set m c) (shift_in_turn bs (at + nodes b) set (reaches false b at set m) c) i h) [
        | inl x ↦ let r = lies b at set m c i x in (omega arith, omega arith)
        | inr x ↦ let r = lies_turn bs (at + nodes b) set (reaches false b at set m) c i x in (omega arith, omega arith)
      ]

  lies_some : (bs : Trees) (at set : ℕ) (m : Bool) (c : Call) → Until at (nodes_of_all bs) (shift_some bs at set m c)
  lies_some NoPart at set m c i h = absurd (none_has i h)
  lies_some (Part b bs) at set m c i h =
      elim (one_of (shift b at set m c) (shift_some bs (at + nodes b) set m c) i h) [
        | inl x ↦ let r = lies b at set m c i x in (omega arith, omega arith)
        | inr x ↦ let r = lies_some bs (at + nodes b) set m c i x in (omega arith, omega arith)
      ]

-- two sets side by side
first_alone : (at n s t end : ℕ) → Lies (at + n) end t → Along at (at + n) (bit_or s t) s
first_alone at n s t end f i a l h = elim (one_of s t i h) [ inl x ↦ x | inr x ↦ let r = f i x in absurd (omega arith) ]

second_alone : (at n s t end : ℕ) → Until at n s → Along (at + n) end (bit_or s t) t
second_alone at n s t end f i a l h = elim (one_of s t i h) [ inl x ↦ let r = f i x in absurd (omega arith) | inr x ↦ x ]

-- words that repeat
one_more : (b : Tree) (c : Call) (u x : List Call) → Word b (c ∷ u) → Repeats (λ w. Word b w) x → Repeats (λ w. Word b w) (c ∷ (u ++ x))
one_more b c u x w reps = ((c ∷ u) ∷ reps.0, ap (λ z. c ∷ (u ++ z)) reps.1, ((λ e. cc, w), reps.2))

ends_here : (b : Tree) (at set : ℕ) (m : Bool) → reaches false b at set m ≡ true → Goes b at set m []
ends_here b at set m h =
    let r = reached false b at set m h in
    elim r.1 [ inl e ↦ absurd (cc) | inr e ↦ subst (λ (v : List Call). Goes b at set m v) e r.2 ]

-- If the empty word may follow, `reaches` is true of the body with no more calls.
pub ended : (b : Tree) (at set : ℕ) (m : Bool) (u : List Call) → u ≡ [] → Goes b at set m u → reaches false b at set m ≡ true
ended b at set m u e g = reaching false b at set m u (inr e) g

one_after : (p : Pattern) (at : ℕ) (m : Bool) (c : Call) (v : List Call) (t : Bool) → (m && matches p c) ≡ t → has (cond t (2 ^ at) 0) at ≡ true → v ≡ []
    → (m ≡ true) × Word (One p) (c ∷ v)
one_after p at m c v true e h f = (and_left m (matches p c) e, (c, ap (λ w. c ∷ w) f, matches_means p c (and_right m (matches p c) e)))
one_after p at m c v false e h f = absurd (none_has at h)

star_after : (b : Tree) (at set : ℕ) (m : Bool) (c : Call) (u x : List Call) → Repeats (λ w. Word b w) x
    → Goes b at set (m || reaches false b at set false) (c ∷ u) → Goes (Star b) at set m (c ∷ (u ++ x))
star_after b at set m c u x reps (inl (e, w)) =
    elim (or_cases m (reaches false b at set false) e) [
      | inl f ↦ inl (f, one_more b c u x w reps)
      | inr f ↦ elim (ends_here b at set false f) [ inl g ↦ absurd (cc (g.0)) | inr r ↦ inr ([], c ∷ (u ++ x), refl, r, one_more b c u x w reps) ]
    ]
star_after b at set m c u x reps (inr r) = inr (c ∷ u, x, refl, r, reps)

turn_after_first : (b : Tree) (bs : Trees) (at set : ℕ) (m : Bool) (c : Call) (u x : List Call) → WordInTurn bs x → Goes b at set m (c ∷ u) → GoesInTurn (Part b bs) at set m (c ∷ (u ++ x))
turn_after_first b bs at set m c u x wx (inl (e, w)) = inl (e, (c ∷ u, x, refl, w, wx))
turn_after_first b bs at set m c u x wx (inr r) = inr (inl (c ∷ u, x, refl, r, wx))

turn_after_second : (b : Tree) (bs : Trees) (at set : ℕ) (m : Bool) (c : Call) (v : List Call)
    → GoesInTurn bs (at + nodes b) set (reaches false b at set m) (c ∷ v) → GoesInTurn (Part b bs) at set m (c ∷ v)
turn_after_second b bs at set m c v (inl (e, w)) =
    elim (ends_here b at set m e) [ inl g ↦ inl (g.0, ([], c ∷ v, refl, g.1, w)) | inr r ↦ inr (inl ([], c ∷ v, refl, r, w)) ]
turn_after_second b bs at set m c v (inr r) = inr (inr r)

-- The calls that may follow the new set, with the call before them.
mutual
  -- Calls that may follow the set after a call may follow with the call before them.
  pub after : (b : Tree) (at set : ℕ) (m : Bool) (c : Call) (v : List Call) → Rest b at (shift b at set m c) v → Goes b at set m (c ∷ v)
  after Skip at set m c v r = elim r [ ]
  after (One p) at set m c v r = inl (one_after p at m c v (m && matches p c) refl r.0 r.1)
  after (Seq bs) at set m c v r = after_turn bs at set m c v r
  after (Alt bs) at set m c v r = after_some bs at set m c v r
  after (Star b) at set m c v r =
      subst (λ (w : List Call). Goes (Star b) at set m (c ∷ w)) (sym r.2) (star_after b at set m c r.0 r.1 r.4 (after b at set (m || reaches false b at set false) c r.0 r.3))

  -- In parts in turn, calls that may follow the set after a call may follow with it before them.
  pub after_turn : (bs : Trees) (at set : ℕ) (m : Bool) (c : Call) (v : List Call) → RestInTurn bs at (shift_in_turn bs at set m c) v → GoesInTurn bs at set m (c ∷ v)
  after_turn NoPart at set m c v r = elim r [ ]
  after_turn (Part b bs) at set m c v (inl r) =
      let s = shift b at set m c in
      let t = shift_in_turn bs (at + nodes b) set (reaches false b at set m) c in
      let alone = first_alone at (nodes b) s t (at + nodes b + nodes_of_all bs) (lies_turn bs (at + nodes b) set (reaches false b at set m) c) in
      subst (λ (w : List Call). GoesInTurn (Part b bs) at set m (c ∷ w)) (sym r.2)
      (turn_after_first b bs at set m c r.0 r.1 r.4 (after b at set m c r.0 (along b at (bit_or s t) s r.0 alone r.3)))
  after_turn (Part b bs) at set m c v (inr r) =
      let s = shift b at set m c in
      let t = shift_in_turn bs (at + nodes b) set (reaches false b at set m) c in
      let alone = second_alone at (nodes b) s t (at + nodes b + nodes_of_all bs) (lies b at set m c) in
      turn_after_second b bs at set m c v (after_turn bs (at + nodes b) set (reaches false b at set m) c v (along_turn bs (at + nodes b) (bit_or s t) t v alone r))

  -- In one of some parts, calls that may follow the set after a call may do so with it before them.
  pub after_some : (bs : Trees) (at set : ℕ) (m : Bool) (c : Call) (v : List Call) → RestOfSome bs at (shift_some bs at set m c) v → GoesOfSome bs at set m (c ∷ v)
  after_some NoPart at set m c v r = elim r [ ]
  after_some (Part b bs) at set m c v (inl r) =
      let s = shift b at set m c in
      let t = shift_some bs (at + nodes b) set m c in
      let alone = first_alone at (nodes b) s t (at + nodes b + nodes_of_all bs) (lies_some bs (at + nodes b) set m c) in
      elim (after b at set m c v (along b at (bit_or s t) s v alone r)) [ inl w ↦ inl (w.0, inl w.1) | inr w ↦ inr (inl w) ]
  after_some (Part b bs) at set m c v (inr r) =
      let s = shift b at set m c in
      let t = shift_some bs (at + nodes b) set m c in
      let alone = second_alone at (nodes b) s t (at + nodes b + nodes_of_all bs) (lies b at set m c) in
      elim (after_some bs (at + nodes b) set m c v (along_some bs (at + nodes b) (bit_or s t) t v alone r)) [ inl w ↦ inl (w.0, inr w.1) | inr w ↦ inr (inr w) ]
