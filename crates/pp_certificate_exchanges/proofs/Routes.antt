-- Proof machinery: what a route does.
use Rattle.std.proofs.Common.{◌≡◌, ℕ, suc, ◌+◌, ◌-◌, Bool, cond, sum, List, [], ◌∷◌, ◌++◌, length}
use Rattle.std.proofs.Common.{refl, sym, ap, subst, ◌∙◌, arith, eq-eqb, ne_eqb, append_assoc, inl}
use Rattle.std.proofs.Common.{inr}
use Rattle.std.proofs.lemmas.List.{length-append}
use Rattle.std.proofs.lemmas.List.Sums.{sum_by-cons}
use Rattle.pp_model.specs.Lists.{In, Before}
use Rattle.pp_model.specs.Object.{Item, HasDistinctIds}
use Rattle.pp_model.proofs.Lists.{in_left, in_right, in_cases, before_left, before_right}
use Rattle.pp_model.proofs.Lists.{before_across, before_cases, split_at}
use Rattle.pp_certificate_exchanges.specs.Exchanges.{Permutes, Inverted, position, inverted, after_exchanges}
use Rattle.pp_certificate_exchanges.specs.Exchanges.{EachExchange, down_to, drawn, route_from, route}
use Rattle.pp_certificate_exchanges.specs.Passes.{without, passes, route_passing}
use Rattle.pp_certificate_exchanges.proofs.Positions.{Absent, position_behind, position_between, inverted_first}
use Rattle.pp_certificate_exchanges.proofs.Draws.{after_join, each_join, draw_ends, draw_turns, length_down_to}

module _ {Op : Type 0} where
  -- To leave out the entry between two lists joins them, if the first lacks its id.
  pub without_between : (e : Item Op) (p s : List (Item Op)) → Absent e.id p →
      without e.id (p ++ e ∷ s) ≡ p ++ s
  without_between e [] s a = ap (λ (b : Bool). cond b s (e ∷ without e.id s))
      (eq-eqb e.id e.id refl)
  without_between e (q ∷ p) s a =
      ap (λ (b : Bool). cond b (p ++ e ∷ s) (q ∷ without e.id (p ++ e ∷ s)))
      (ne_eqb q.id e.id (a q (inl refl)))
      ∙ ap (λ (w : List (Item Op)). q ∷ w) (without_between e p s (λ r j. a r (inr j)))

  -- the list x round the entry that comes first in its permutation
  pub record Round (x : List (Item Op)) (e : Item Op) (y : List (Item Op)) : Type 0 where
    pub p : List (Item Op)
    pub s : List (Item Op)
    pub is : x ≡ p ++ e ∷ s
    pub before : Absent e.id p
    pub behind : Absent e.id s
    pub rest : Permutes (p ++ s) y

  in_wider : (a e : Item Op) (p s : List (Item Op)) → In a (p ++ s) → In a (p ++ e ∷ s)
  in_wider a e p s i = elim (in_cases a p s i) [
    | inl j ↦ in_left a p (e ∷ s) j
    | inr j ↦
        in_right a p (e ∷ s) (inr j)
  ]

  -- A pair in order in joined lists is in order with one more entry between them.
  pub before_wider : (a b e : Item Op) (p s : List (Item Op)) → Before a b (p ++ s) →
      Before a b (p ++ e ∷ s)
  before_wider a b e p s i = elim (before_cases a b p s i) [
    | inl j ↦ before_left a b p (e ∷ s) j
    | inr (inl j) ↦ before_right a b p (e ∷ s) (inr j)
    | inr (inr j) ↦ before_across a b p (e ∷ s) j.0 (inr j.1)
  ]

  narrowed : (e : Item Op) (p s y : List (Item Op)) → Permutes (p ++ e ∷ s) (e ∷ y) → Absent e.id p
      → Absent e.id s → Permutes (p ++ s) y
  narrowed e p s y h k l = record {
    distinct_x = λ a b i. h.distinct_x a b (before_wider a b e p s i);
    distinct_y = λ a b i. h.distinct_y a b (inr i);
    into = λ a i. elim (h.into a (in_wider a e p s i)) [
      | inl u ↦
          absurd (apart a i (ap (λ (w : Item Op). w.id) u))
      | inr j ↦ j
    ];
    back = λ a i. elim (in_cases a p (e ∷ s) (h.back a (inr i))) [
      | inl j ↦ in_left a p s j
      | inr (inl u) ↦ absurd (h.distinct_y e a (inl (refl, i)) (ap (λ (w : Item Op). w.id) (sym u)))
      | inr (inr j) ↦ in_right a p s j
    ];
  }
    where
      apart : (a : Item Op) → In a (p ++ s) → a.id ≡ e.id → ⊥
      apart a i u = elim (in_cases a p s i) [ inl j ↦ k a j u | inr j ↦ l a j u ]

  -- A list is cut at the entry that is first in its permutation, and the rest permutes the rest.
  pub rounded : (x : List (Item Op)) (e : Item Op) (y : List (Item Op)) → Permutes x (e ∷ y) →
      Round x e y
  rounded x e y h =
      let c = split_at e x (h.back e (inl refl)) in
      let g : Permutes (c.0 ++ e ∷ c.1) (e ∷ y) =
      subst (λ (w : List (Item Op)). Permutes w (e ∷ y)) c.2 h in
      let before : Absent e.id c.0 = λ q i u. g.distinct_x q e
      (before_across q e c.0 (e ∷ c.1) i (inl refl)) u in
      let behind : Absent e.id c.1 = λ q i u. g.distinct_x e q
      (before_right e q c.0 (e ∷ c.1) (inl (refl, i))) (sym u) in
      record {
        p = c.0;
        s = c.1;
        is = c.2;
        before = before;
        behind = behind;
        rest =
            narrowed e c.0 c.1 y g before behind;
      }

  -- A list that permutes to the empty one is empty.
  pub none_left : (x : List (Item Op)) → Permutes x [] → x ≡ []
  none_left [] h = refl
  none_left (e ∷ x) h = absurd (h.into e (inl refl))

  -- After the entries d that are there already, the route from x to y.
  pub record Leads (R : Item Op → Item Op → Type 0) (j : ℕ) (d x y : List (Item Op)) : Type 0 where
    pub ends : after_exchanges (d ++ x) (route_from j (d ++ x) y) ≡ d ++ y
    pub turns : EachExchange R (d ++ x) (route_from j (d ++ x) y)
    pub counted : route_from j (d ++ x) y ≡ route_passing j (passes x y)
    pub number : sum (passes x y) ≡ inverted x y

  first_draw : (j : ℕ) (d p : List (Item Op)) (e : Item Op) (s y : List (Item Op)) → length d ≡ j →
      Absent e.id d → Absent e.id p →
      route_from j (d ++ (p ++ e ∷ s)) (e ∷ y) ≡ down_to j (length p) ++ route_from (suc j)
      ((d ++ e ∷ []) ++ (p ++ s)) y
  first_draw j d p e s y h a b =
      let now : List (Item Op) = d ++ (p ++ e ∷ s) in
      let at : position e.id now ≡ length d + length p = position_behind e.id d (p ++ e ∷ s) a
      ∙ ap (λ n. length d + n) (position_between e p s b) in
      let n : position e.id now - j ≡ length p = omega arith in
      let same : drawn j e.id now ≡ down_to j (length p) = ap (λ k. down_to j k) n in
      let end : after_exchanges now (down_to j (length p)) ≡ (d ++ e ∷ []) ++ (p ++ s) =
      draw_ends j d p e s h ∙ sym (append_assoc d (e ∷ []) (p ++ s)) in
      ap (λ (w : List ℕ). w ++ route_from (suc j) (after_exchanges now w) y) same
      ∙ ap (λ (w : List (Item Op)). down_to j (length p) ++ route_from (suc j) w y) end

  -- After entries that are in place, the route leads to the target by exchanges of related pairs.
  pub leads : (R : Item Op → Item Op → Type 0) (y : List (Item Op)) (j : ℕ) (d x : List (Item Op)) →
      length d ≡ j → Permutes x y → HasDistinctIds (d ++ y) →
      ((p q : Item Op) → Before p q x → Before q p y → R p q) → Leads R j d x y
  leads R [] j d x h k l r =
      let e = none_left x k in
      subst (λ (w : List (Item Op)). Leads R j d w []) (sym e)
      (record { ends = refl; turns = tt; counted = refl; number = refl })
  leads R (e ∷ y) j d x h k l r =
      let o = rounded x e y k in
      subst (λ (w : List (Item Op)). Leads R j d w (e ∷ y)) (sym o.is)
      (step o.p o.s o.before o.behind (subst (λ (w : List (Item Op)). Permutes w (e ∷ y)) o.is k)
      (subst (λ (w : List (Item Op)). (p q : Item Op) → Before p q w → Before q p (e ∷ y) →
      R p q) o.is r)
      (leads R y (suc j) (d ++ e ∷ []) (o.p ++ o.s) (length-append d (e ∷ []) ∙ omega arith) o.rest
      (subst (λ (w : List (Item Op)). HasDistinctIds w) (sym (append_assoc d (e ∷ []) y)) l)
      (λ p q u v. r p q (subst (λ (w : List (Item Op)). Before p q w) (sym o.is)
      (before_wider p q e o.p o.s u)) (inr v))))
    where
      absent : Absent e.id d
      absent q i u = l q e (before_across q e d (e ∷ y) i (inl refl)) u

      step : (p s : List (Item Op)) → Absent e.id p → Absent e.id s → Permutes (p ++ e ∷ s) (e ∷ y)
          →
          ((a b : Item Op) → Before a b (p ++ e ∷ s) → Before b a (e ∷ y) → R a b) →
          Leads R (suc j) (d ++ e ∷ []) (p ++ s) y → Leads R j d (p ++ e ∷ s) (e ∷ y)
      step p s a b g t i =
          let now : List (Item Op) = d ++ (p ++ e ∷ s) in
          let rest : List (Item Op) = (d ++ e ∷ []) ++ (p ++ s) in
          let first : List ℕ = down_to j (length p) in
          let more : List ℕ = route_from (suc j) rest y in
          let split : route_from j now (e ∷ y) ≡ first ++ more =
          first_draw j d p e s y h absent a in
          let there : after_exchanges now first ≡ rest = draw_ends j d p e s h
          ∙ sym (append_assoc d (e ∷ []) (p ++ s)) in
          let here : position e.id (p ++ e ∷ s) ≡ length p = position_between e p s a in
          let left : without e.id (p ++ e ∷ s) ≡ p ++ s = without_between e p s a in
          let turned : (q : Item Op) → In q p → R q e =
          λ q m. t q e (before_across q e p (e ∷ s) m (inl refl)) (inl (refl, stays q m)) in
          record {
            ends = ap (λ (w : List ℕ). after_exchanges now w) split ∙ after_join now first more
                ∙ ap (λ (w : List (Item Op)). after_exchanges w more) there ∙ i.ends
                ∙ append_assoc d (e ∷ []) y;
            turns = subst (λ (w : List ℕ). EachExchange R now w) (sym split)
                (each_join R now first more (draw_turns R j d p e s h turned)
                (subst (λ (w : List (Item Op)). EachExchange R w more) (sym there) i.turns));
            counted = split ∙ ap (λ (w : List ℕ). first ++ w) i.counted
                ∙ ap (λ (w : List (Item Op)). first ++ route_passing (suc j) (passes w y))
                (sym left)
                ∙ ap (λ n. down_to j n ++ route_passing (suc j)
                (passes (without e.id (p ++ e ∷ s)) y)) (sym here);
            number = sum_by-cons (λ (n : ℕ). n) (position e.id (p ++ e ∷ s))
                (passes (without e.id (p ++ e ∷ s)) y)
                ∙ ap (λ n. n + sum (passes (without e.id (p ++ e ∷ s)) y)) here
                ∙ ap (λ (w : List (Item Op)). length p + sum (passes w y)) left
                ∙ ap (λ n. length p + n) i.number ∙ sym (inverted_first e y p s a b);
          }
        where
          stays : (q : Item Op) → In q p → In q y
          stays q m = elim (g.into q (in_left q p (e ∷ s) m)) [
            | inl u ↦
                absurd (a q m (ap (λ (w : Item Op). w.id) u))
            | inr v ↦ v
          ]

  -- The route from a list to a permutation of it leads there by exchanges of related pairs.
  pub route_leads : (R : Item Op → Item Op → Type 0) (x y : List (Item Op)) → Permutes x y →
      ((p q : Item Op) → Before p q x → Before q p y → R p q) → Leads R 0 [] x y
  route_leads R x y h r = leads R y 0 [] x refl h h.distinct_y r

length_passing : (j : ℕ) (ns : List ℕ) → length (route_passing j ns) ≡ sum ns
length_passing j [] = refl
length_passing j (n ∷ ns) =
    length-append (down_to j n) (route_passing (suc j) ns)
    ∙ ap (λ m. m + length (route_passing (suc j) ns)) (length_down_to j n)
    ∙ ap (λ m. n + m) (length_passing (suc j) ns) ∙ sym (sum_by-cons (λ (m : ℕ). m) n ns)

module _ {Op : Type 0} (x y : List (Item Op)) (h : Permutes x y) where
  all : Leads (Inverted x y) 0 [] x y
  all = route_leads (Inverted x y) x y h (λ p q i j. (i, j))

  -- The route from a list to a permutation of it ends in the permutation.
  pub route_ends : after_exchanges x (route x y) ≡ y
  route_ends = all.ends

  -- Each exchange of a route is of an inverted pair.
  pub route_turns : EachExchange (Inverted x y) x (route x y)
  route_turns = all.turns

  -- The route is determined by the counts of entries that each one is drawn over.
  pub route_counted : route x y ≡ route_passing 0 (passes x y)
  route_counted = all.counted

  -- The entries that each one is drawn over are together as many as the inverted pairs.
  pub passes_counted : sum (passes x y) ≡ inverted x y
  passes_counted = all.number

  -- A route has as many exchanges as there are inverted pairs.
  pub length_route : length (route x y) ≡ inverted x y
  length_route = ap (λ (w : List ℕ). length w) route_counted ∙ length_passing 0 (passes x y)
      ∙ passes_counted

  -- Each exchange of a route is of a related pair if all inverted pairs are related.
  pub route_each : (R : Item Op → Item Op → Type 0) → ((p q : Item Op) → Inverted x y p q → R p q) →
      EachExchange R x (route x y)
  route_each R r = (route_leads R x y h (λ p q i j. r p q (i, j))).turns
