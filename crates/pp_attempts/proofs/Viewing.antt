-- Proof machinery: the views of peaks, while the committed transactions are gone through.
use Rattle.std.specs.Prelude.{◌≡◌, ◌≤◌, ◌<◌, ◌+◌, ◌*◌, ◌⊎◌, ◌↔◌, ℕ, suc, zero, IsTrue, List, []}
use Rattle.std.specs.Prelude.{◌∷◌, ◌++◌, length, take, drop, sum_by, Option}
use Rattle.std.proofs.Common.{refl, sym, ap, subst, ◌∙◌, arith, get_or, inl, inr, append_assoc}
use Rattle.std.proofs.Math.Nat.{suc-mul, mul-le-mul_right}
use Rattle.std.proofs.lemmas.List.{length-append, take-append-drop, map-append, append-nil, take_all}
use Rattle.std.proofs.lemmas.List.Sums.{sum-map, sum_by-append}
use Rattle.pp_model.specs.Config.{CommittedTx}
use Rattle.pp_model.specs.Lists.{Each, In}
use Rattle.pp_model.specs.Object as model
use Rattle.pp_model.specs.Object.{Item, ops}
use Rattle.pp_model.specs.Sound.{serial_items, serial_ops}
use Rattle.pp_model.proofs.Lengths.{length-ops}
use Rattle.pp_kind.specs.Object.{Object, AllowedFrom, IsAllowed, AllRanged, IsLog, IsLawful}
use Rattle.pp_kind.specs.Object.{rules_of, state_from, state_after}
use Rattle.pp_kind.proofs.Lists.{allowed-first, allowed-second, allowed-append, keeps_shape}
use Rattle.pp_kind.proofs.Lists.{state-append, ranged-first, ranged-second}
use Rattle.pp_attempts.specs.Peaks.{Peak, operations}
use Rattle.pp_attempts.specs.Trying.{IsStateAt, IsTrail, IsUntried, kept_from, MayFollow}
use Rattle.pp_attempts.specs.Views.{Explains, IsLeastBelow, IsViewBelow, MayBeTried, Pairwise, View}
use Rattle.pp_attempts.proofs.Fronts.{take_there, drop_there}
use Rattle.pp_attempts.proofs.Trails.{log_further}

-- the least of numbers, with one number more
pub below_next : (k n : ℕ) → k < n + 1 → (k < n) ⊎ (k ≡ n)
below_next zero zero l = inr refl
below_next zero (suc n) l = inl (omega arith)
below_next (suc k) zero l = absurd (omega arith)
below_next (suc k) (suc n) l = elim (below_next k n (omega arith)) [ inl h ↦ inl (omega arith) | inr h ↦ inr (ap suc h) ]

-- lists whose elements go together
module _ {A B : Type 0} (R : A → B → Type 0) where
  -- Lists that go together still do so with elements added that go together.
  pub pairwise_more : (xs : List A) (ys : List B) (x : A) (y : B) → Pairwise R xs ys → R x y → Pairwise R (xs ++ x ∷ []) (ys ++ y ∷ [])
  pairwise_more [] [] x y h r = (r, tt)
  pairwise_more [] (b ∷ ys) x y h r = absurd h
  pairwise_more (a ∷ xs) [] x y h r = absurd h
  pairwise_more (a ∷ xs) (b ∷ ys) x y h r = (h.0, pairwise_more xs ys x y h.1 r)

  -- Lists that go together have one length.
  pub pairwise_long : (xs : List A) (ys : List B) → Pairwise R xs ys → length ys ≡ length xs
  pairwise_long [] [] h = refl
  pairwise_long [] (b ∷ ys) h = absurd h
  pairwise_long (a ∷ xs) [] h = absurd h
  pairwise_long (a ∷ xs) (b ∷ ys) h = ap suc (pairwise_long xs ys h.1)

  -- Lists that go together still do so after elements that go together were pushed.
  pub pairwise_pushed : (xs us : List A) (ys vs : List B) (x : A) (y : B) → us ≡ xs ++ x ∷ [] → vs ≡ ys ++ y ∷ [] → Pairwise R xs ys → R x y → Pairwise R us vs
  pairwise_pushed xs us ys vs x y d e h r = subst (λ (w : List A). Pairwise R w vs) (sym d)
      (subst (λ (w : List B). Pairwise R (xs ++ x ∷ []) w) (sym e) (pairwise_more xs ys x y h r))

  -- Lists that go together by one relation do so by each weaker one.
  pub pairwise_as : (S : A → B → Type 0) → ((x : A) (y : B) → R x y → S x y) → (xs : List A) (ys : List B) → Pairwise R xs ys → Pairwise S xs ys
  pairwise_as S gives [] [] h = tt
  pairwise_as S gives [] (b ∷ ys) h = absurd h
  pairwise_as S gives (a ∷ xs) [] h = absurd h
  pairwise_as S gives (a ∷ xs) (b ∷ ys) h = (gives a b h.0, pairwise_as S gives xs ys h.1)

-- how many operations peaks have
pub operations-append : {Op : Type 0} (ps qs : List (Peak Op)) → operations (ps ++ qs) ≡ operations ps + operations qs
operations-append {Op} ps qs =
    let f = λ (p : Peak Op). length p.ops in
    sum-map f (ps ++ qs) ∙ sum_by-append f ps qs
    ∙ ap (λ (n : ℕ). n + sum_by f qs) (sym (sum-map f ps)) ∙ ap (λ (n : ℕ). operations ps + n) (sym (sum-map f qs))

one : {Op : Type 0} (p : Peak Op) → operations (p ∷ []) ≡ length p.ops
one p = omega arith

-- The operations of the first i + 1 attempts are those of the first i, and of the one at i.
pub operations_next : {Op : Type 0} (ps : List (Peak Op)) (i : ℕ) (p : Peak Op) → i < length ps → p ≡ get_or ps i p
    → operations (take (i + 1) ps) ≡ operations (take i ps) + length p.ops
operations_next {Op} ps i p there is = ap (λ (w : List (Peak Op)). operations w) (take_there ps i p there is)
    ∙ operations-append (take i ps) (p ∷ []) ∙ ap (λ (n : ℕ). operations (take i ps) + n) (let e : operations (p ∷ []) ≡ length p.ops = one p in e)

-- each round may cost twice the operations
pub one_round_more : (n w : ℕ) → 2 * ((n + 1 + 1) * w) ≡ 2 * ((n + 1) * w) + 2 * w
one_round_more n w =
    let e : (n + 1 + 1) * w ≡ (n + 1) * w + w = ap (λ (k : ℕ). k * w) (let z : n + 1 + 1 ≡ suc (n + 1) = omega arith in z) ∙ suc-mul (n + 1) w in
    omega (arith, e)

-- The cost of the rounds up to the i-th is at most that of the rounds up to a later one.
pub rounds_within : (i n w : ℕ) → i ≤ n → 2 * ((i + 1) * w) ≤ 2 * ((n + 1) * w)
rounds_within i n w h =
    let e : (i + 1) * w ≤ (n + 1) * w = mul-le-mul_right w (let z : i + 1 ≤ n + 1 = omega (arith, h) in z) in
    omega (arith, e)

-- the serial run, cut at a transaction
serial_items-append : {Op : Type 0} (x y : List (CommittedTx Op)) → serial_items (x ++ y) ≡ serial_items x ++ serial_items y
serial_items-append [] y = refl
serial_items-append {Op} (d ∷ x) y = ap (λ (w : List (Item Op)). d.entries ++ w) (serial_items-append x y) ∙ sym (append_assoc d.entries (serial_items x) (serial_items y))

-- The serial run of joined transactions is that of the first, then that of the second.
pub serial-append : {Op : Type 0} (x y : List (CommittedTx Op)) → serial_ops (x ++ y) ≡ serial_ops x ++ serial_ops y
serial-append {Op} x y = ap (λ (w : List (Item Op)). ops w) (serial_items-append x y) ∙ map-append (λ (p : Item Op). p.op) (serial_items x) (serial_items y)

serial_one : {Op : Type 0} (d : CommittedTx Op) → serial_ops (d ∷ []) ≡ ops d.entries
serial_one {Op} d = ap (λ (w : List (Item Op)). ops w) (append-nil d.entries)

module _ {Op : Type 0} (D : List (CommittedTx Op)) (i : ℕ) (d : CommittedTx Op) (there : i < length D) (is : d ≡ get_or D i d) where
  -- The serial run of i + 1 transactions is that of the first i, and the operations of the next.
  pub serial_next : serial_ops (take (i + 1) D) ≡ serial_ops (take i D) ++ ops d.entries
  serial_next = ap (λ (w : List (CommittedTx Op)). serial_ops w) (take_there D i d there is)
      ∙ serial-append (take i D) (d ∷ []) ∙ ap (λ (w : List Op). serial_ops (take i D) ++ w) (serial_one d)

-- The serial run is that of the first i transactions, then that of the others.
pub serial_cut : {Op : Type 0} (D : List (CommittedTx Op)) (i : ℕ) → serial_ops D ≡ serial_ops (take i D) ++ serial_ops (drop i D)
serial_cut {Op} D i = ap (λ (w : List (CommittedTx Op)). serial_ops w) (sym (take-append-drop i D)) ∙ serial-append (take i D) (drop i D)

-- The serial run of the first i transactions is no longer than the whole one.
pub serial_within : {Op : Type 0} (D : List (CommittedTx Op)) (i : ℕ) → length (serial_ops (take i D)) ≤ length (serial_ops D)
serial_within {Op} D i =
    let cut = ap (λ (w : List Op). length w) (serial_cut D i) in
    omega (arith, cut, length-append (serial_ops (take i D)) (serial_ops (drop i D)))

-- The ticks of a walk so far are within the bound.
pub cost_so_far : (old t done all i n w : ℕ) → t ≤ old + done + 2 * ((i + 1) * w) → done ≤ all → i ≤ n → t ≤ old + all + 2 * ((n + 1) * w)
cost_so_far old t done all i n w cost part within = omega (arith, cost, part, rounds_within i n w within)

-- If there is a peak, the bound on its operations bounds the serial run.
pub few_alone : {Op : Type 0} (n : ℕ) (ps : List (Peak Op)) → (length ps ≡ 0 → ⊥) → ((p : Peak Op) → In p ps → n + length p.ops < 1_000_000) → n < 1_000_000
few_alone n [] some h = absurd (some refl)
few_alone n (p ∷ ps) some h = let few = h p (inl refl) in omega (arith, few)

-- A view with no number is right if no number was tried.
pub untried_below : {Op State : Type 0} (O : model.Object Op State) (D : List (CommittedTx Op)) (p : Peak Op) (v : View) → IsUntried p v → IsViewBelow 0 O D p v
untried_below {Op} O D p v h = record {
  tx = h.tx;
  ops = h.ops;
  after = subst (λ (w : Option ℕ). IsLeastBelow 0 (Explains O D p.ops) w) (sym h.after) (λ n below e. absurd (omega (arith, below)));
}

module _ {Shape State Op Undo : Type 0} (o : Object Shape State Op Undo) where
  -- after an allowed list, a walk over it is a trail
  pub trail_of : (s t : State) (l : List Op) (i : ℕ) → AllowedFrom o s l → t ≡ state_from o s (take i l)
      → IsTrail o s (take i l) (kept_from o s (take i l)) t
  trail_of s t l i h e = record {
    allowed = allowed-first o s (take i l) (drop i l) (subst (λ (w : List Op). AllowedFrom o s w) (sym (take-append-drop i l)) h);
    kept = refl;
    leads = e;
  }

  -- operations that are allowed from a state fit it
  pub allowed_fit : IsLawful o → (s : State) (l : List Op) → AllowedFrom o s l → Each (λ (a : Op). IsTrue (o.fits (o.shape s) a)) l
  allowed_fit laws s [] h = tt
  allowed_fit laws s (a ∷ l) h = (
    (h.0).0,
    subst (λ (w : Shape). Each (λ (b : Op). IsTrue (o.fits w b)) l) (laws.next_shape s a h.0) (allowed_fit laws (o.next s a) l h.1),
  )

  module _ (shape : Shape) (D : List (CommittedTx Op)) (i : ℕ) (s : State) (at : IsStateAt o shape D i s) where
    allowed_there : IsAllowed o shape (serial_ops (take i D))
    allowed_there = subst (λ (w : Shape). IsAllowed o w (serial_ops (take i D))) at.same at.log.allowed

    is_there : s ≡ state_after o shape (serial_ops (take i D))
    is_there = at.log.is ∙ ap (λ (w : Shape). state_after o w (serial_ops (take i D))) at.same

    -- the first i transactions explain what is allowed from there
    pub explains_there : (items : List (Item Op)) → Explains (rules_of o shape) D items i ↔ AllowedFrom o s (ops items)
    explains_there items = (
      (λ h. subst (λ (w : State). AllowedFrom o w (ops items)) (sym is_there) (allowed-second o (o.start shape) (serial_ops (take i D)) (ops items) h)),
      (λ h. allowed-append o (o.start shape) (serial_ops (take i D)) (ops items) allowed_there (subst (λ (w : State). AllowedFrom o w (ops items)) is_there h)),
    )

    -- The operations of an attempt that may be tried may follow each committed transaction.
    pub may_follow_there : (items : List (Item Op)) → MayBeTried o shape (length (serial_ops D)) items → MayFollow o s (ops items)
    may_follow_there items may = record {
      before = serial_ops (take i D);
      log = at.log;
      fit = subst (λ (w : Shape). Each (λ (a : Op). IsTrue (o.fits w a)) (ops items)) (sym at.same) may.fit;
      ranged = may.ranged;
      few = let few = may.few in omega (arith, few, serial_within D i, length-ops items);
    }

    module _ (laws : IsLawful o) (d : CommittedTx Op) (there : i < length D) (is : d ≡ get_or D i d)
        (allowed : IsAllowed o shape (serial_ops D)) (ranged : AllRanged o (serial_ops D)) where
      cut : serial_ops D ≡ serial_ops (take i D) ++ (ops d.entries ++ serial_ops (drop (i + 1) D))
      cut = serial_cut D i ∙ ap (λ (w : List (CommittedTx Op)). serial_ops (take i D) ++ serial_ops w) (drop_there D i d there is)
          ∙ ap (λ (w : List Op). serial_ops (take i D) ++ w) (serial-append (d ∷ []) (drop (i + 1) D) ∙ ap (λ (w : List Op). w ++ serial_ops (drop (i + 1) D)) (serial_one d))

      -- The operations of the next committed transaction are allowed.
      pub next_allowed : AllowedFrom o s (ops d.entries)
      next_allowed = subst (λ (w : State). AllowedFrom o w (ops d.entries)) (sym is_there)
          (allowed-first o (state_after o shape (serial_ops (take i D))) (ops d.entries) (serial_ops (drop (i + 1) D))
          (allowed-second o (o.start shape) (serial_ops (take i D)) (ops d.entries ++ serial_ops (drop (i + 1) D)) (subst (λ (w : List Op). IsAllowed o shape w) cut allowed)))

      next_ranged : AllRanged o (ops d.entries)
      next_ranged = ranged-first o (ops d.entries) (serial_ops (drop (i + 1) D))
          (ranged-second o (serial_ops (take i D)) (ops d.entries ++ serial_ops (drop (i + 1) D)) (subst (λ (w : List Op). AllRanged o w) cut ranged))

      -- The operations of the next committed transaction may follow the state before it.
      pub next_may : length (serial_ops D) < 1_000_000 → MayFollow o s (ops d.entries)
      next_may few = record {
        before = serial_ops (take i D);
        log = at.log;
        fit = allowed_fit laws s (ops d.entries) next_allowed;
        ranged = next_ranged;
        few =
            let more = serial_within D (i + 1) in
            let next = ap (λ (w : List Op). length w) (serial_next D i d there is) in
            omega (arith, few, more, next, length-append (serial_ops (take i D)) (ops d.entries));
      }

      -- The state after the operations of the next transaction is that of i + 1 transactions.
      pub next_state : (t : State) → t ≡ state_from o s (ops d.entries) → IsStateAt o shape D (i + 1) t
      next_state t e = subst (λ (w : State). IsStateAt o shape D (i + 1) w) (sym e) (record {
        log = subst (λ (w : List Op). IsLog o (state_from o s (ops d.entries)) w) (sym (serial_next D i d there is))
            (log_further o laws s (serial_ops (take i D)) (ops d.entries) at.log next_allowed next_ranged);
        same = keeps_shape o laws.next_shape s (ops d.entries) next_allowed ∙ at.same;
      })

  -- The empty state is that of no committed transaction.
  pub first_state : IsLawful o → (shape : Shape) (D : List (CommittedTx Op)) (s : State) → s ≡ o.start shape → IsStateAt o shape D 0 s
  first_state laws shape D s e =
      let same : o.shape s ≡ shape = ap o.shape e ∙ laws.start_shape shape in
      record {
        log = record { allowed = tt; is = e ∙ ap o.start (sym same); ranged = tt };
        same = same;
      }

  -- The state one operation on, and after the last one.
  pub state_next : (s t u : State) (l : List Op) (i : ℕ) (a : Op) → i < length l → a ≡ get_or l i a → t ≡ state_from o s (take i l) → u ≡ o.next t a
      → u ≡ state_from o s (take (i + 1) l)
  state_next s t u l i a there is leads e = e ∙ ap (λ (w : State). o.next w a) leads ∙ sym (state-append o s (take i l) (a ∷ []))
      ∙ ap (λ (w : List Op). state_from o s w) (sym (take_there l i a there is))

  -- The state after all operations of a list is the one after the whole list.
  pub state_whole : (s t : State) (l : List Op) (i : ℕ) → length l ≤ i → t ≡ state_from o s (take i l) → t ≡ state_from o s l
  state_whole s t l i all leads = leads ∙ ap (λ (w : List Op). state_from o s w) (take_all i l all)
