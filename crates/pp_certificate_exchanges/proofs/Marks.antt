-- Proof machinery: entries of a log that are marked 1 are left, and those marked 0 were drawn.
use Rattle.std.proofs.Common.{◌≡◌, ℕ, zero, suc, ◌+◌, ◌-◌, ◌<◌, ◌≤◌, Bool, cond, sum, List, [], ◌∷◌}
use Rattle.std.proofs.Common.{◌++◌, length, take, drop, set, get_or, replicate, refl, sym, ap}
use Rattle.std.proofs.Common.{subst, ◌∙◌, arith, inl, inr, ne_eqb, append_assoc, Some}
use Rattle.std.proofs.lemmas.List.{drop_more, length-set, length-append, length-replicate}
use Rattle.pp_model.specs.Lists.{In}
use Rattle.pp_model.specs.Object.{Item, HasDistinctIds}
use Rattle.pp_certificate_exchanges.specs.Exchanges.{Permutes, position}
use Rattle.pp_certificate_exchanges.specs.Passes.{without, passes}
use Rattle.pp_certificate_exchanges.proofs.Positions.{position_here, position_later, position_between}
use Rattle.pp_certificate_exchanges.proofs.Routes.{rounded, without_between}
use Rattle.pp_certificate_exchanges.proofs.Pairs.{sum-cons}

-- each mark is 0 or 1
abbrev pub Bits : List ℕ → Type 0
Bits [] = Unit {0}
Bits (m ∷ ms) = (m ≤ 1) × Bits ms

-- the entries whose mark is not 0
abbrev pub kept : {A : Type 0} → List ℕ → List A → List A
kept [] x = []
kept (m ∷ ms) [] = []
kept (zero ∷ ms) (z ∷ x) = kept ms x
kept (suc m ∷ ms) (z ∷ x) = z ∷ kept ms x

in_kept : {A : Type 0} (ms : List ℕ) (x : List A) (e : A) → In e (kept ms x) → In e x
in_kept [] x e i = elim i [ ]
in_kept (m ∷ ms) [] e i = elim i [ ]
in_kept (zero ∷ ms) (z ∷ x) e i = inr (in_kept ms x e i)
in_kept (suc m ∷ ms) (z ∷ x) e (inl u) = inl u
in_kept (suc m ∷ ms) (z ∷ x) e (inr i) = inr (in_kept ms x e i)

all_kept : {A : Type 0} (x : List A) → kept (replicate (length x) 1) x ≡ x
all_kept [] = refl
all_kept {A} (z ∷ x) = ap (λ (w : List A). z ∷ w) (all_kept x)

all_bits : (n : ℕ) → Bits (replicate n 1)
all_bits zero = tt
all_bits (suc n) = (omega arith, all_bits n)

-- A sum of marks that are 0 or 1 is at most their number.
pub sum-bits : (ms : List ℕ) → Bits ms → sum ms ≤ length ms
sum-bits [] b = omega arith
sum-bits (m ∷ ms) b = omega (arith, sum-cons m ms, sum-bits ms b.1, b.0)

module _ {Op : Type 0} where
  -- e is left, and n is its position in the log
  pub record Marked (ms : List ℕ) (x : List (Item Op)) (e : Item Op) (n : ℕ) : Type 0 where
    pub is : position e.id x ≡ n
    pub there : n < length ms
    pub one : get_or ms n 0 ≡ 1
    pub before : sum (take n ms) ≡ position e.id (kept ms x)
    pub after : kept (set ms n 0) x ≡ without e.id (kept ms x)
    pub bits : Bits (set ms n 0)

  -- An entry that is left has a mark 1 at its position, and as many left ones before it.
  pub marked : (ms : List ℕ) (x : List (Item Op)) (e : Item Op) → Bits ms → HasDistinctIds x →
      In e (kept ms x) → (n : ℕ) × Marked ms x e n
  marked [] x e b d i = elim i [ ]
  marked (m ∷ ms) [] e b d i = elim i [ ]
  marked (zero ∷ ms) (z ∷ x) e b d i =
      let r = marked ms x e b.1 (λ p q j. d p q (inr j)) i in
      let apart : z.id ≡ e.id → ⊥ = d z e (inl (refl, in_kept ms x e i)) in
      let h = r.1 in (
        suc r.0,
        record {
          is = position_later e.id z x apart ∙ ap suc h.is;
          there = omega (arith, h.there);
          one = h.one;
          before = omega (arith, sum-cons 0 (take r.0 ms), h.before);
          after = h.after;
          bits = (b.0, h.bits);
        },
      )
  marked (suc m ∷ ms) (z ∷ x) e b d (inl u) =
      let same : (y : List (Item Op)) → position e.id (z ∷ y) ≡ 0 =
      λ y. subst (λ (w : Item Op). position e.id (w ∷ y) ≡ 0) u (position_here e y) in (
        0,
        record {
          is = same x;
          there = omega arith;
          one = omega (arith, b.0);
          before = sym (same (kept ms x));
          after = sym (subst (λ (w : Item Op). without e.id (w ∷ kept ms x) ≡ kept ms x) u
              (without_between e [] (kept ms x) (λ q i. absurd (elim i [ ]))));
          bits = (omega arith, b.1);
        },
      )
  marked (suc m ∷ ms) (z ∷ x) e b d (inr i) =
      let r = marked ms x e b.1 (λ p q j. d p q (inr j)) i in
      let apart : z.id ≡ e.id → ⊥ = d z e (inl (refl, in_kept ms x e i)) in
      let h = r.1 in (
        suc r.0,
        record {
          is = position_later e.id z x apart ∙ ap suc h.is;
          there = omega (arith, h.there);
          one = h.one;
          before = omega (
            arith,
            sum-cons (suc m) (take r.0 ms),
            h.before,
            position_later e.id z
                (kept ms x) apart,
            b.0,
          );
          after = ap (λ (w : List (Item Op)). z ∷ w) h.after
              ∙ sym (ap (λ (t : Bool). cond t (kept ms x) (z ∷ without e.id (kept ms x)))
              (ne_eqb z.id e.id apart));
          bits = (b.0, h.bits);
        },
      )

  -- The first i entries of the target are drawn, and counted.
  pub record Draws (log target : List (Item Op)) (ms counts : List ℕ) (i : ℕ) : Type 0 where
    pub long : length ms ≡ length log
    pub bits : Bits ms
    pub left : Permutes (kept ms log) (drop i target)
    pub counted : counts ++ passes (kept ms log) (drop i target) ≡ passes log target

module _ {Op : Type 0} (log target : List (Item Op)) (h : Permutes log target) where
  -- At first no entry of the target is drawn, and all are marked as left.
  pub draws_none : (counts : List ℕ) → counts ≡ [] →
      Draws log target (replicate (length log) 1) counts 0
  draws_none counts e = record {
    long = length-replicate (length log) 1;
    bits = all_bits (length log);
    left = subst (λ (w : List (Item Op)). Permutes w target) (sym (all_kept log)) h;
    counted = ap (λ (w : List ℕ). w ++ passes (kept (replicate (length log) 1) log) target) e
        ∙ ap (λ (w : List (Item Op)). passes w target) (all_kept log);
  }

  module _ (ms counts : List ℕ) (i : ℕ) (e : Item Op) (d : Draws log target ms counts i)
      (lt : i < length target) (is : e ≡ get_or target i e) where
    left_is : drop i target ≡ e ∷ drop (i + 1) target
    left_is = drop_more target i e lt ∙ ap (λ (w : Item Op). w ∷ drop (i + 1) target) (sym is)

    permutes : Permutes (kept ms log) (e ∷ drop (i + 1) target)
    permutes = subst (λ (w : List (Item Op)). Permutes (kept ms log) w) left_is d.left

    at : (n : ℕ) × Marked ms log e n
    at = marked ms log e d.bits h.distinct_x (permutes.back e (inl refl))

    -- The next entry of the target is in the log.
    pub draw_in : In e log
    draw_in = in_kept ms log e (permutes.back e (inl refl))

    -- The position of the next entry of the target is below the number of marks.
    pub draw_there : position e.id log < length ms
    draw_there = subst (λ n. n < length ms) (sym at.1.is) at.1.there

    -- The next entry of the target is marked as left.
    pub draw_some : 0 < get_or ms (position e.id log) 0
    draw_some = subst (λ n. 0 < get_or ms n 0) (sym at.1.is) (omega (arith, at.1.one))

    -- To draw the next entry adds its count and unmarks it.
    pub draws_more : (next : List ℕ) (r : ℕ) → r ≡ sum (take (position e.id log) ms) →
        next ≡ set ms (position e.id log) (get_or ms (position e.id log) 0 - 1) →
        Draws log target next (counts ++ r ∷ []) (i + 1)
    draws_more next r c f =
        let k = at.1 in
        let n = at.0 in
        let o = rounded (kept ms log) e (drop (i + 1) target) permutes in
        let none : get_or ms n 0 - 1 ≡ 0 = omega (arith, k.one) in
        let marks : next ≡ set ms n 0 = f ∙ ap (λ m. set ms m (get_or ms m 0 - 1)) k.is
        ∙ ap (λ m. set ms n m) none in
        let rest : kept next log ≡ without e.id (kept ms log) =
        ap (λ (w : List ℕ). kept w log) marks ∙ k.after in
        let fewer : without e.id (kept ms log) ≡ o.p ++ o.s =
        ap (λ (w : List (Item Op)). without e.id w) o.is ∙ without_between e o.p o.s o.before in
        let number : r ≡ position e.id (kept ms log) = c ∙ ap (λ m. sum (take m ms)) k.is
        ∙ k.before in
        record {
          long = ap (λ (w : List ℕ). length w) marks ∙ length-set ms n 0 ∙ d.long;
          bits = subst Bits (sym marks) k.bits;
          left = subst (λ (w : List (Item Op)). Permutes w (drop (i + 1) target))
              (sym (rest ∙ fewer)) o.rest;
          counted = append_assoc counts (r ∷ []) (passes (kept next log) (drop (i + 1) target))
              ∙ ap (λ (w : List (Item Op)). counts ++ r ∷ passes w (drop (i + 1) target)) rest
              ∙ ap (λ m. counts ++ m ∷ passes (without e.id (kept ms log)) (drop (i + 1) target))
              number
              ∙ ap (λ (w : List (Item Op)). counts ++ passes (kept ms log) w) (sym left_is)
              ∙ d.counted;
        }

-- No entry is drawn over more entries than there are.
pub passes_within : {Op : Type 0} (x y : List (Item Op)) → Permutes x y → (k : ℕ) →
    k < length (passes x y) → k + get_or (passes x y) k 0 < length x
passes_within x [] h k lt = absurd (omega arith)
passes_within {Op} x (e ∷ y) h k lt =
    let o = rounded x e y h in
    let at : position e.id x ≡ length o.p = ap (λ (w : List (Item Op)). position e.id w) o.is
    ∙ position_between e o.p o.s o.before in
    let long : length x ≡ length o.p + suc (length o.s) = ap (λ (w : List (Item Op)). length w) o.is
    ∙ length-append o.p (e ∷ o.s) in
    let fewer : without e.id x ≡ o.p ++ o.s = ap (λ (w : List (Item Op)). without e.id w) o.is
    ∙ without_between e o.p o.s o.before in
    let short : length (without e.id x) ≡ length o.p + length o.s =
    ap (λ (w : List (Item Op)). length w) fewer ∙ length-append o.p o.s in
    let rest : Permutes (without e.id x) y = subst (λ (w : List (Item Op)). Permutes w y)
    (sym fewer) o.rest in
    by_place k lt (length o.p) (length o.s) at long short
    (λ j l. passes_within (without e.id x) y rest j l)
  where
    by_place : (k : ℕ) → k < suc (length (passes (without e.id x) y)) → (n m : ℕ) →
        position e.id x ≡ n → length x ≡ n + suc m → length (without e.id x) ≡ n + m →
        ((j : ℕ) → j < length (passes (without e.id x) y) →
        j + get_or (passes (without e.id x) y) j 0 < length (without e.id x)) →
        k + get_or (position e.id x ∷ passes (without e.id x) y) k 0 < length x
    by_place zero lt n m a b c f = omega arith
    by_place (suc k) lt n m a b c f = let l : k < length (passes (without e.id x) y) =
        omega arith in omega (arith, f k l)

-- No more entries are drawn than the list has.
pub few_passes : {Op : Type 0} (x y : List (Item Op)) → Permutes x y →
    length (passes x y) ≤ length x
few_passes {Op} x y h = by_length (passes x y) (λ k l. passes_within x y h k l)
  where
    by_length : (ns : List ℕ) → ((k : ℕ) → k < length ns → k + get_or ns k 0 < length x) →
        length ns ≤ length x
    by_length [] f = omega arith
    by_length (n ∷ ns) f = omega (arith, f (length ns) (omega arith))

-- In an empty list no entry is drawn.
pub empty_passes : {Op : Type 0} (x y : List (Item Op)) → length x ≡ 0 → Permutes x y →
    passes x y ≡ []
empty_passes [] [] l h = refl
empty_passes [] (e ∷ y) l h = absurd (h.back e (inl refl))
empty_passes (z ∷ x) y l h = absurd (omega arith)

-- Two values are equal if the options with them are.
pub some_is : {A : Type 0} (a b : A) → Some a ≡ Some b → a ≡ b
some_is a b e = cc
