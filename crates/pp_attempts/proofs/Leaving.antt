-- Proof machinery: the views that get a number, and the peaks that are left.
use Rattle.std.specs.Prelude.{◌≡◌, ◌≢◌, ◌≤◌, ◌<◌, ◌+◌, ◌*◌, ◌⊎◌, ℕ, suc, zero, List}
use Rattle.std.specs.Prelude.{[], ◌∷◌, ◌++◌, length, take, drop, set, sum_by, Option, None, Some, false, true}
use Rattle.std.specs.Option.{is_some}
use Rattle.std.proofs.Common.{refl, sym, ap, subst, ◌∙◌, arith, get_or, inl, inr}
use Rattle.std.proofs.Math.Seq.{take-length}
use Rattle.std.proofs.lemmas.Bool.{cases_eq}
use Rattle.std.proofs.lemmas.Option.{none-some}
use Rattle.std.proofs.lemmas.List.{drop_more, length-set, get_or-set_same, get_or-set_other, map-append}
use Rattle.std.proofs.lemmas.List.Sums.{sum_by-cons, sum_by_push}
use Rattle.pp_model.specs.Config.{CommittedTx}
use Rattle.pp_model.specs.Lists.{In}
use Rattle.pp_model.specs.Object as model
use Rattle.pp_model.specs.Object.{Item, ops}
use Rattle.pp_model.proofs.Lists.{in_left, in_map, in_right}
use Rattle.pp_kind.specs.Object.{Object, AllowedFrom, rules_of, state_from}
use Rattle.pp_attempts.specs.Peaks.{Peak, operations}
use Rattle.pp_attempts.specs.Trying.{AreApart, AreCandidates, Candidate, HasRest, AreAllCandidates, IsStateAt, Candidates, StandsAt}
use Rattle.pp_attempts.specs.Trying.{length_at, positions_of}
use Rattle.pp_attempts.specs.Views.{Explains, IsLeastBelow, IsViewBelow, Pairwise, View}
use Rattle.pp_attempts.proofs.Fronts.{in_default}
use Rattle.pp_attempts.proofs.LiningUp.{apart_more, in_last, length_there, nobody, some_stands, stand_same}
use Rattle.pp_attempts.proofs.Viewing.{below_next, explains_there, pairwise_as, pairwise_long}

-- ---- what is at a position

-- An element that is written at a position is there.
pub stand_written : {A : Type 0} (xs : List A) (i : ℕ) (x : A) → i < length xs → StandsAt (set xs i x) i x
stand_written xs i x there = (omega (arith, there, length-set xs i x), sym (get_or-set_same xs i x x there))

-- An element at a position other than the one that was written was there before.
pub stand_before : {A : Type 0} (xs : List A) (i j : ℕ) (x y : A) → j ≢ i → StandsAt (set xs i x) j y → StandsAt xs j y
stand_before xs i j x y other s = (let l = s.0 in omega (arith, l, length-set xs i x), s.1 ∙ get_or-set_other xs i j x y other)

module _ {A B : Type 0} (R : A → B → Type 0) where
  -- Elements at one position of lists that go together go together.
  pub pairwise_at : (xs : List A) (ys : List B) (i : ℕ) (x : A) (y : B) → Pairwise R xs ys → StandsAt xs i x → StandsAt ys i y → R x y
  pairwise_at [] ys i x y h s t = absurd (let l = s.0 in omega (arith, l))
  pairwise_at (a ∷ xs) [] i x y h s t = absurd h
  pairwise_at (a ∷ xs) (b ∷ ys) zero x y h s t = subst (λ (w : A). R w y) (sym s.1) (subst (λ (w : B). R a w) (sym t.1) h.0)
  pairwise_at (a ∷ xs) (b ∷ ys) (suc i) x y h s t =
      let l = s.0 in
      let k = t.0 in
      pairwise_at xs ys i x y h.1 (omega (arith, l), s.1) (omega (arith, k), t.1)

  -- Lists of one length go together if the elements at each position do.
  pub pairwise_from : (xs : List A) (ys : List B) → length ys ≡ length xs → ((i : ℕ) (x : A) (y : B) → StandsAt xs i x → StandsAt ys i y → R x y) → Pairwise R xs ys
  pairwise_from [] [] e h = tt
  pairwise_from [] (b ∷ ys) e h = absurd (omega (arith, e))
  pairwise_from (a ∷ xs) [] e h = absurd (omega (arith, e))
  pairwise_from (a ∷ xs) (b ∷ ys) e h = (
    h zero a b (omega arith, refl) (omega arith, refl),
    pairwise_from xs ys (omega (arith, e)) (λ i x y s t. let l = s.0 in let k = t.0 in h (suc i) x y (omega (arith, l), s.1) (omega (arith, k), t.1)),
  )

-- ---- the first candidates

-- all are among them
pub first_candidates : {Op : Type 0} (ps : List (Peak Op)) (vs : List View) (candidates : Candidates Op) → length vs ≡ length ps → AreAllCandidates ps candidates → AreCandidates ps vs candidates
first_candidates {Op} ps vs candidates long h = record {
  apart = h.positions.apart;
  within = h.positions.within;
  all = λ i v s none. let l = s.0 in h.positions.all i (omega (arith, l, long));
  alike = h.alike;
  rests = h.rests;
  cost =
      let all : operations (take (length ps) ps) ≡ operations ps = ap (λ (w : List (Peak Op)). operations w) (take-length ps) in
      let cost = h.positions.cost in
      omega (arith, cost, all);
}

-- ---- the number of a view, one round on

wider : (n m : ℕ) (P : ℕ → Type 0) (a : Option ℕ) → n ≤ m → (a ≡ None → ⊥) → IsLeastBelow n P a → IsLeastBelow m P a
wider n m P None le some h = absurd (some refl)
wider n m P (Some k) le some h = let below = h.0 in (omega (arith, below, le), h.1, h.2)

first_found : (n : ℕ) (P : ℕ → Type 0) (a : Option ℕ) → a ≡ None → IsLeastBelow n P a → P n → IsLeastBelow (n + 1) P (Some n)
first_found n P a none h p = (omega arith, p, subst (λ (w : Option ℕ). IsLeastBelow n P w) none h)

none_yet : (n : ℕ) (P : ℕ → Type 0) (a : Option ℕ) → a ≡ None → IsLeastBelow n P a → (P n → ⊥) → IsLeastBelow (n + 1) P a
none_yet n P a none h never = subst (λ (w : Option ℕ). IsLeastBelow (n + 1) P w) (sym none)
    (λ k below p. elim (below_next k n below) [
      | inl l ↦ subst (λ (w : Option ℕ). IsLeastBelow n P w) none h k l p
      | inr e ↦ never (subst P e p)
    ])

-- a number that does not explain: the view keeps its own, or has none still
not_found : (n : ℕ) (P : ℕ → Type 0) (a : Option ℕ) → IsLeastBelow n P a → (P n → ⊥) → IsLeastBelow (n + 1) P a
not_found n P None h never = none_yet n P None refl h never
not_found n P (Some k) h never = wider n (n + 1) P (Some k) (omega arith) (λ e. none-some k (sym e)) h

-- a number is kept
still_least : (n : ℕ) (P : ℕ → Type 0) (a : Option ℕ) → (a ≡ None → ⊥) → IsLeastBelow n P a → IsLeastBelow (n + 1) P a
still_least n P a some h = wider n (n + 1) P a (omega arith) some h

module _ {Shape State Op Undo : Type 0} (o : Object Shape State Op Undo) (ps : List (Peak Op)) where
  -- if each view has a number, they are the views up to any number of committed transactions
  pub all_numbered : (shape : Shape) (D : List (CommittedTx Op)) (n m : ℕ) (vs : List View) (candidates : Candidates Op) → length candidates.list.items ≡ 0 → n ≤ m → AreCandidates ps vs candidates
      → Pairwise (IsViewBelow n (rules_of o shape) D) ps vs → Pairwise (IsViewBelow m (rules_of o shape) D) ps vs
  all_numbered shape D n m vs candidates empty le h views = pairwise_from (IsViewBelow m O D) ps vs (pairwise_long (IsViewBelow n O D) ps vs views) (λ i p v s t.
      let now = pairwise_at (IsViewBelow n O D) ps vs i p v views s t in
      record { tx = now.tx; ops = now.ops; after = wider n m (Explains O D p.ops) v.after le (λ none. nowhere candidates.list.items i empty (h.all i v t none)) now.after })
    where
      O : model.Object Op State
      O = rules_of o shape

      nowhere : (cs : List Candidate) (i : ℕ) → length cs ≡ 0 → In i (positions_of cs) → ⊥
      nowhere [] i none n = n
      nowhere (c ∷ cs) i none n = omega (arith, none)

  -- A transaction without operations leaves no peak with a new number.
  pub same_round : (shape : Shape) (D : List (CommittedTx Op)) (n m : ℕ) (s : State) (vs : List View) → m ≡ n + 1 → IsStateAt o shape D n s → IsStateAt o shape D m s
      → Pairwise (IsViewBelow m (rules_of o shape) D) ps vs → Pairwise (IsViewBelow (m + 1) (rules_of o shape) D) ps vs
  same_round shape D n m s vs is before behind h = pairwise_as (IsViewBelow m O D) (IsViewBelow (m + 1) O D) (λ p v now. record { tx = now.tx; ops = now.ops; after = by p v.after now.after }) ps vs h
    where
      O : model.Object Op State
      O = rules_of o shape

      by : (p : Peak Op) (a : Option ℕ) → IsLeastBelow m (Explains (rules_of o shape) D p.ops) a → IsLeastBelow (m + 1) (Explains (rules_of o shape) D p.ops) a
      by p None least = none_yet m (Explains (rules_of o shape) D p.ops) None refl least (λ e.
          least n (omega (arith, is)) ((explains_there o shape D n s before p.ops).1 ((explains_there o shape D m s behind p.ops).0 e)))
      by p (Some k) least = let below = least.0 in (omega (arith, below), least.1, least.2)

  -- A transaction without operations leaves the state the same.
  pub no_effect : (s : State) (l : List (Item Op)) → length l ≡ 0 → state_from o s (ops l) ≡ s
  no_effect s [] e = refl
  no_effect s (x ∷ l) e = absurd (omega (arith, e))

  -- ---- a round, while the peaks at the positions are tried

  -- Some were tried, and those at the positions `rest` were not yet. Their views are as they were, and so is each without a number. Each
  -- other view has the least number, this one included.
  module _ (number : ℕ) (state : State) (old : List View) where
    -- The views after some candidates were tried, and those at the positions `rest` were not yet.
    pub record AreViewsSoFar (views : List View) (rest : List ℕ) : Type 0 where
      pub long : length views ≡ length old
      pub apart : AreApart rest
      pub same : (i : ℕ) (v : View) → In i rest → StandsAt views i v → StandsAt old i v
      pub left : (i : ℕ) (v : View) → StandsAt views i v → v.after ≡ None → StandsAt old i v
      pub done : (shape : Shape) (D : List (CommittedTx Op)) → IsStateAt o shape D number state → Pairwise (IsViewBelow number (rules_of o shape) D) ps old
          → (i : ℕ) (p : Peak Op) (v : View) → StandsAt ps i p → StandsAt views i v → (In i rest → ⊥) → IsViewBelow (number + 1) (rules_of o shape) D p v

    -- Before a candidate is tried, the views are as they were.
    pub none_tried : (candidates : Candidates Op) → AreCandidates ps old candidates → AreViewsSoFar old (positions_of candidates.list.items)
    none_tried candidates h = record {
      long = refl;
      apart = h.apart;
      same = λ i v n s. s;
      left = λ i v s none. s;
      done = λ shape D at below i p v s t out.
          let now = pairwise_at (IsViewBelow number (rules_of o shape) D) ps old i p v below s t in
          record { tx = now.tx; ops = now.ops; after = still_least number (Explains (rules_of o shape) D p.ops) v.after (λ none. out (h.all i v t none)) now.after };
    }

    -- After all candidates are tried, the views are right for one more committed transaction.
    pub round_done : (views : List View) → length old ≡ length ps → AreViewsSoFar views [] → (shape : Shape) (D : List (CommittedTx Op)) → IsStateAt o shape D number state
        → Pairwise (IsViewBelow number (rules_of o shape) D) ps old → Pairwise (IsViewBelow (number + 1) (rules_of o shape) D) ps views
    round_done views count h shape D at before =
        pairwise_from (IsViewBelow (number + 1) (rules_of o shape) D) ps views (h.long ∙ count) (λ i p v s t. h.done shape D at before i p v s t (λ never. never))

    -- one position on
    module _ (views : List View) (j : ℕ) (rest : List ℕ) (p : Peak Op) (v : View) (h : AreViewsSoFar views (j ∷ rest)) (here : StandsAt ps j p) (now : StandsAt views j v) where
      was_here : StandsAt old j v
      was_here = h.same j v (inl refl) now

      later : (i : ℕ) → In i rest → i ≢ j
      later i n e = (h.apart).0 (subst (λ (k : ℕ). In k rest) e n)

      not_here : (i : ℕ) → i ≢ j → (In i rest → ⊥) → In i (j ∷ rest) → ⊥
      not_here i other out n = elim n [ inl e ↦ other e | inr m ↦ out m ]

      -- the view stays as it is, which is right
      stays : ((shape : Shape) (D : List (CommittedTx Op)) → IsStateAt o shape D number state → IsLeastBelow number (Explains (rules_of o shape) D p.ops) v.after
          → IsLeastBelow (number + 1) (Explains (rules_of o shape) D p.ops) v.after) → AreViewsSoFar views rest
      stays right = record {
        long = h.long;
        apart = (h.apart).1;
        same = λ i u n s. h.same i u (inr n) s;
        left = h.left;
        done = λ shape D at below i q u s t out. elim (cases_eq i j) [
          | inl e ↦
              let O = rules_of o shape in
              let q_is : q ≡ p = stand_same ps j q p (subst (λ (k : ℕ). StandsAt ps k q) e s) here in
              let u_is : u ≡ v = stand_same views j u v (subst (λ (k : ℕ). StandsAt views k u) e t) now in
              let was = pairwise_at (IsViewBelow number O D) ps old j p v below here was_here in
              subst (λ (x : Peak Op). IsViewBelow (number + 1) O D x u) (sym q_is) (subst (λ (x : View). IsViewBelow (number + 1) O D p x) (sym u_is)
              (record { tx = was.tx; ops = was.ops; after = right shape D at was.after }))
          | inr other ↦ h.done shape D at below i q u s t (not_here i other out)
        ];
      }

      -- it has a number
      pub one_numbered : (v.after ≡ None → ⊥) → AreViewsSoFar views rest
      one_numbered some = stays (λ shape D at was. still_least number (Explains (rules_of o shape) D p.ops) v.after some was)

      -- this number does not explain the peak
      pub one_left : (AllowedFrom o state (ops p.ops) → ⊥) → AreViewsSoFar views rest
      one_left never = stays (λ shape D at was. not_found number (Explains (rules_of o shape) D p.ops) v.after was
          (λ explains. never ((explains_there o shape D number state at p.ops).0 explains)))

      -- this number explains it, and it had none
      pub one_found : (w : View) (ws : List View) → ws ≡ set views j w → w.tx ≡ v.tx → w.ops ≡ v.ops → w.after ≡ Some number → v.after ≡ None → AllowedFrom o state (ops p.ops)
          → AreViewsSoFar ws rest
      one_found w ws written tx count found none allowed = subst (λ (us : List View). AreViewsSoFar us rest) (sym written) (record {
        long = length-set views j w ∙ h.long;
        apart = (h.apart).1;
        same = λ i u n s. h.same i u (inr n) (stand_before views j i w u (later i n) s);
        left = λ i u s nothing. elim (cases_eq i j) [
          | inl e ↦ absurd (let u_is : u ≡ w = stand_same (set views j w) j u w (subst (λ (k : ℕ). StandsAt (set views j w) k u) e s) (stand_written views j w now.0) in
              none-some number (sym nothing ∙ ap (λ (x : View). x.after) u_is ∙ found))
          | inr other ↦ h.left i u (stand_before views j i w u other s) nothing
        ];
        done = λ shape D at below i q u s t out. elim (cases_eq i j) [
          | inl e ↦
              let O = rules_of o shape in
              let q_is : q ≡ p = stand_same ps j q p (subst (λ (k : ℕ). StandsAt ps k q) e s) here in
              let u_is : u ≡ w = stand_same (set views j w) j u w (subst (λ (k : ℕ). StandsAt (set views j w) k u) e t) (stand_written views j w now.0) in
              let was = pairwise_at (IsViewBelow number O D) ps old j p v below here was_here in
              let explains = (explains_there o shape D number state at p.ops).1 allowed in
              subst (λ (x : Peak Op). IsViewBelow (number + 1) O D x u) (sym q_is) (subst (λ (x : View). IsViewBelow (number + 1) O D p x) (sym u_is) (record {
                tx = tx ∙ was.tx;
                ops = count ∙ was.ops;
                after = subst (λ (a : Option ℕ). IsLeastBelow (number + 1) (Explains O D p.ops) a) (sym found) (first_found number (Explains O D p.ops) v.after none was.after explains);
              }))
          | inr other ↦ h.done shape D at below i q u s (stand_before views j i w u other t) (not_here i other out)
        ];
      })

-- at a candidate of a loop over the candidates
module _ {Op : Type 0} (ps : List (Peak Op)) (views : List View) (candidates : Candidates Op) (xs : List Candidate) (k : ℕ) (same : xs ≡ candidates.list.items) (there : k < length xs)
    (h : AreCandidates ps views candidates) where
  there_too : k < length candidates.list.items
  there_too = subst (λ (w : List Candidate). k < length w) same there

  among_them : In (get_or xs k nobody) candidates.list.items
  among_them = subst (λ (w : List Candidate). In (get_or xs k nobody) w) same (in_default xs k nobody there)

  -- The position of a candidate is below the number of attempts.
  pub peak_within : (get_or xs k nobody).position < length ps
  peak_within = h.within (get_or xs k nobody).position (in_map (λ (c : Candidate). c.position) (get_or xs k nobody) candidates.list.items among_them)

  -- The operations that a candidate does not share are at its range among the others.
  pub rest_there : (p : Peak Op) → StandsAt ps (get_or xs k nobody).position p → HasRest candidates.ops.items (get_or xs k nobody) p.ops
  rest_there p s = h.rests (get_or xs k nobody) p among_them s

  -- The range of a candidate is within the operations of all candidates.
  pub others_within : ((get_or xs k nobody).from ≤ (get_or xs k nobody).to) × ((get_or xs k nobody).to ≤ length candidates.ops.items)
  others_within =
      let p = some_stands ps (get_or xs k nobody).position peak_within in
      let r = rest_there p.0 p.1 in
      (r.before, r.within)

  -- The candidates from a position on are the one there and those after it.
  pub cut_at : drop k candidates.list.items ≡ get_or xs k nobody ∷ drop (k + 1) candidates.list.items
  cut_at = drop_more candidates.list.items k nobody there_too ∙ ap (λ (w : List Candidate). get_or w k nobody ∷ drop (k + 1) candidates.list.items) (sym same)

-- ---- the candidates without those that have a number

-- An option for which `is_some` is true is not none.
pub some_is_not_none : (a : Option ℕ) → is_some a ≡ true → a ≡ None → ⊥
some_is_not_none None some none = cc
some_is_not_none (Some n) some none = cc

-- An option for which `is_some` is false is none.
pub not_some : (a : Option ℕ) → is_some a ≡ false → a ≡ None
not_some None none = refl
not_some (Some n) none = absurd cc

-- the candidates that stay, and those to come
pub record IsLeft {Op : Type 0} (ps : List (Peak Op)) (views : List View) (still rest : List Candidate) : Type 0 where
  pub apart : AreApart (positions_of still)
  pub rest_apart : AreApart (positions_of rest)
  pub other : (i : ℕ) → In i (positions_of still) → In i (positions_of rest) → ⊥
  pub within : (i : ℕ) → In i (positions_of still) → i < length ps
  pub rest_within : (i : ℕ) → In i (positions_of rest) → i < length ps
  pub all : (i : ℕ) (v : View) → StandsAt views i v → v.after ≡ None → In i (positions_of still) ⊎ In i (positions_of rest)
  pub unnumbered : (i : ℕ) (v : View) → In i (positions_of still) → StandsAt views i v → v.after ≡ None
  pub few : sum_by (length_at ps) (positions_of still) + sum_by (length_at ps) (positions_of rest) ≤ operations ps

module _ {Op : Type 0} (ps : List (Peak Op)) (views : List View) (still rest : List Candidate) (c : Candidate) (h : IsLeft ps views still (c ∷ rest)) where
  sums : sum_by (length_at ps) (positions_of (c ∷ rest)) ≡ length_at ps c.position + sum_by (length_at ps) (positions_of rest)
  sums = sum_by-cons (length_at ps) c.position (positions_of rest)

  -- its view has a number
  pub leaves : (v : View) → StandsAt views c.position v → (v.after ≡ None → ⊥) → IsLeft ps views still rest
  leaves v there some = record {
    apart = h.apart;
    rest_apart = (h.rest_apart).1;
    other = λ i n m. h.other i n (inr m);
    within = h.within;
    rest_within = λ i n. h.rest_within i (inr n);
    all = λ i u s nothing. elim (h.all i u s nothing) [
      | inl n ↦ inl n
      | inr n ↦ elim n [
        | inl e ↦ absurd (some (ap (λ (w : View). w.after) (stand_same views c.position v u there (subst (λ (k : ℕ). StandsAt views k u) e s)) ∙ nothing))
        | inr m ↦ inr m
      ]
    ];
    unnumbered = h.unnumbered;
    few = let few = h.few in omega (arith, few, sums);
  }

  -- it has none
  pub remains : (v : View) → StandsAt views c.position v → v.after ≡ None → (d : Candidate) (more : List Candidate) → d.position ≡ c.position → more ≡ still ++ d ∷ []
      → IsLeft ps views more rest
  remains v there none d more same pushed =
      let is : positions_of more ≡ positions_of still ++ c.position ∷ [] =
      ap (λ (w : List Candidate). positions_of w) pushed ∙ map-append (λ (w : Candidate). w.position) still (d ∷ []) ∙ ap (λ (i : ℕ). positions_of still ++ i ∷ []) same in
      let among : (i : ℕ) → In i (positions_of more) → In i (positions_of still) ⊎ (i ≡ c.position) = λ i n. in_last i c.position (positions_of still) (subst (λ (w : List ℕ). In i w) is n) in
      record {
        apart = subst (λ (w : List ℕ). AreApart w) (sym is) (apart_more (positions_of still) c.position h.apart (λ n. h.other c.position n (inl refl)));
        rest_apart = (h.rest_apart).1;
        other = λ i n m. elim (among i n) [ inl a ↦ h.other i a (inr m) | inr e ↦ (h.rest_apart).0 (subst (λ (k : ℕ). In k (positions_of rest)) e m) ];
        within = λ i n. elim (among i n) [ inl a ↦ h.within i a | inr e ↦ h.rest_within i (inl e) ];
        rest_within = λ i n. h.rest_within i (inr n);
        all = λ i u s nothing. elim (h.all i u s nothing) [
          | inl n ↦ inl (subst (λ (w : List ℕ). In i w) (sym is) (in_left i (positions_of still) (c.position ∷ []) n))
          | inr n ↦ elim n [
            | inl e ↦ inl (subst (λ (w : List ℕ). In i w) (sym is) (in_right i (positions_of still) (c.position ∷ []) (inl e)))
            | inr m ↦ inr m
          ]
        ];
        unnumbered = λ i u n s. elim (among i n) [
          | inl a ↦ h.unnumbered i u a s
          | inr e ↦ ap (λ (w : View). w.after) (stand_same views c.position u v (subst (λ (k : ℕ). StandsAt views k u) e s) there) ∙ none
        ];
        few =
            let few = h.few in
            let grown = ap (λ (w : List ℕ). sum_by (length_at ps) w) is ∙ sum_by_push (length_at ps) (positions_of still) c.position in
            omega (arith, few, sums, grown);
      }

-- ---- what a round costs

-- At most twice the operations of the peaks before those at `rest` were spent, less what is
-- applied and is still to be taken back.
pub record IsSpent {Op : Type 0} (ps : List (Peak Op)) (rest : List ℕ) (applied old new : ℕ) : Type 0 where
  pub rises : old ≤ new
  pub most : new + applied + 2 * sum_by (length_at ps) rest ≤ old + 2 * operations ps

-- At the start of a round nothing is spent.
pub nothing_spent : {Op : Type 0} (ps : List (Peak Op)) (rest : List ℕ) (applied old : ℕ) → applied ≡ 0 → sum_by (length_at ps) rest ≤ operations ps → IsSpent ps rest applied old old
nothing_spent ps rest applied old none few = record { rises = omega arith; most = omega (arith, none, few) }

-- one peak: of what was applied some is taken back, and then its own is applied
module _ {Op : Type 0} (ps : List (Peak Op)) (j : ℕ) (rest : List ℕ) (old now mid new was shared : ℕ) (p : Peak Op) (here : StandsAt ps j p)
    (spent : IsSpent ps (j ∷ rest) was old now) (back : now ≤ mid) (cost : mid + shared ≡ now + was) (rises : mid ≤ new) (bound : new + shared ≤ mid + length p.ops) where
  next : sum_by (length_at ps) (j ∷ rest) ≡ length p.ops + sum_by (length_at ps) rest
  next = sum_by-cons (length_at ps) j rest ∙ ap (λ (n : ℕ). n + sum_by (length_at ps) rest) (length_there ps j p here)

  -- One tried candidate spends at most twice its operations, if no more than these are applied.
  pub one_spent : (applied : ℕ) → applied ≤ length p.ops → IsSpent ps rest applied old new
  one_spent applied some = record {
    rises = let low = spent.rises in omega (arith, low, back, rises);
    most = let most = spent.most in omega (arith, most, next, cost, bound, some);
  }

  -- The ticks of a round are at most twice the operations of all attempts.
  pub spent_within : new ≤ old + 2 * operations ps
  spent_within = let most = spent.most in omega (arith, most, next, cost, bound)

-- nothing is done for a peak
pub skipped_spent : {Op : Type 0} (ps : List (Peak Op)) (j : ℕ) (rest : List ℕ) (applied old now : ℕ) → IsSpent ps (j ∷ rest) applied old now → IsSpent ps rest applied old now
skipped_spent ps j rest applied old now spent = record {
  rises = spent.rises;
  most = let most = spent.most in omega (arith, most, sum_by-cons (length_at ps) j rest);
}
