-- Proof machinery: operations that are applied from a state, one after another, and taken back.
use Rattle.std.specs.Prelude.{◌≡◌, ◌≤◌, ◌<◌, ◌+◌, ℕ, IsTrue, List, [], ◌∷◌, ◌++◌, length, map, take, drop}
use Rattle.std.proofs.Common.{refl, sym, ap, subst, ◌∙◌, arith, get_or, append_assoc}
use Rattle.std.proofs.Math.Seq.{take-append-add, take-append_seam, take-length}
use Rattle.std.proofs.lemmas.List.{append-nil, length-append, length-map, length-take, map_push, same_from_push, take-append-drop}
use Rattle.std.proofs.lemmas.List.{take-map, take-take}
use Rattle.pp_model.specs.Lists.{Each}
use Rattle.pp_model.specs.Object.{Item, ops}
use Rattle.pp_kind.specs.Calls.{WasApplied}
use Rattle.pp_kind.specs.Object.{Object, IsLegal, AllowedFrom, AllRanged, IsLog, IsReached}
use Rattle.pp_kind.specs.Object.{IsLawful, state_from}
use Rattle.pp_kind.proofs.Lists.{log_grows, keeps_shape, allowed_is_state, state-append}
use Rattle.pp_kind.proofs.Lists.{allowed-first, allowed-second, allowed-append, ranged-first}
use Rattle.pp_kind.proofs.Lists.{ranged-second}
use Rattle.pp_attempts.specs.Trying.{AppliedOp, IsFurthest, IsTrail, MayFollow, Share, Stands, applied, kept_from}
use Rattle.pp_attempts.proofs.Fronts.{cut_there}

-- lists that share their beginnings
pub share_less : {A : Type 0} (n m : ℕ) (xs ys : List A) → m ≤ n → Share n xs ys → Share m xs ys
share_less {A} n m xs ys less alike = first xs ∙ ap (λ (w : List A). take m w) alike ∙ sym (first ys)
  where
    first : (zs : List A) → take m zs ≡ take m (take n zs)
    first zs = sym (take-take m n zs less)

-- If a list shares its first n elements with a list of at least n, it has at least n too.
pub share_long : {A : Type 0} (n : ℕ) (xs ys : List A) → n ≤ length ys → Share n xs ys → n ≤ length xs
share_long n xs ys within alike = let same = ap (λ w. length w) alike in omega (arith, within, same, length-take n xs, length-take n ys)

-- Lists of items that share their first n items share their first n operations.
pub share_ops : {Op : Type 0} (n : ℕ) (xs ys : List (Item Op)) → Share n xs ys → Share n (ops xs) (ops ys)
share_ops {Op} n xs ys alike = take-map (λ (w : Item Op). w.op) n xs ∙ ap (λ (w : List (Item Op)). ops w) alike ∙ sym (take-map (λ (w : Item Op). w.op) n ys)

-- a list whose first operations were applied, at the next one
pub next_there : {Op : Type 0} (x y l : List Op) (i : ℕ) (a : Op) → y ≡ x ++ take i l → i < length l → a ≡ get_or l i a → x ++ l ≡ y ++ a ∷ drop (i + 1) l
next_there {Op} x y l i a so_far there is = ap (λ (w : List Op). x ++ w) (cut_there l i a there is) ∙ sym (append_assoc x (take i l) (a ∷ drop (i + 1) l))
    ∙ ap (λ (w : List Op). w ++ a ∷ drop (i + 1) l) (sym so_far)

module _ {Shape State Op Undo : Type 0} (o : Object Shape State Op Undo) where
  -- One more operation adds one undo value: what it keeps in the state before it.
  pub kept-append : (s : State) (x : List Op) (a : Op)
      → kept_from o s (x ++ a ∷ []) ≡ kept_from o s x ++ o.upkeep.kept (state_from o s x) a ∷ []
  kept-append s [] a = refl
  kept-append s (b ∷ x) a = ap (λ (w : List Undo). o.upkeep.kept s b ∷ w) (kept-append (o.next s b) x a)

  -- the operation that a walk over an allowed list is at
  pub would_be_legal : (s t : State) (l : List Op) (i : ℕ) (a : Op) → AllowedFrom o s l → i < length l → a ≡ get_or l i a
      → t ≡ state_from o s (take i l) → IsLegal o t a
  would_be_legal s t l i a h there is leads =
      let cut = subst (λ (w : List Op). AllowedFrom o s w) (cut_there l i a there is) h in
      subst (λ (w : State). IsLegal o w a) (sym leads) (allowed-second o s (take i l) (a ∷ drop (i + 1) l) cut).0

  each-first : (P : Op → Type 0) (x y : List Op) → Each P (x ++ y) → Each P x
  each-first P [] y h = tt
  each-first P (a ∷ x) y h = (h.0, each-first P x y h.1)

  each-second : (P : Op → Type 0) (x y : List Op) → Each P (x ++ y) → Each P y
  each-second P [] y h = h
  each-second P (a ∷ x) y h = each-second P x y h.1

  -- fewer may follow as well
  pub may-first : (s : State) (x y : List Op) → MayFollow o s (x ++ y) → MayFollow o s x
  may-first s x y may = record {
    before = may.before;
    log = may.log;
    fit = each-first (λ a. IsTrue (o.fits (o.shape s) a)) x y may.fit;
    ranged = ranged-first o x y may.ranged;
    few = let few = may.few in omega (arith, few, length-append x y);
  }

  -- If nothing was applied, the state is the one at the start.
  pub nothing_stands : (s t : State) (done : List (AppliedOp Op Undo)) → done ≡ [] → t ≡ s → Stands o s done t
  nothing_stands s t done none e = subst (λ (w : List (AppliedOp Op Undo)). Stands o s w t) (sym none) (record { allowed = tt; kept = refl; leads = e })

  -- one operation more was applied
  pub stands_more : (s t t2 : State) (done more : List (AppliedOp Op Undo)) (d : AppliedOp Op Undo) → Stands o s done t
      → IsLegal o t d.op → d.undo ≡ o.upkeep.kept t d.op → t2 ≡ o.next t d.op → more ≡ done ++ d ∷ [] → Stands o s more t2
  stands_more s t t2 done more d h legal kept leads pushed =
      let x = applied done in
      let grown : applied more ≡ x ++ d.op ∷ [] = ap (λ (w : List (AppliedOp Op Undo)). applied w) pushed ∙ map_push (λ (w : AppliedOp Op Undo). w.op) done d in
      let undos : map (λ (w : AppliedOp Op Undo). w.undo) more ≡ map (λ (w : AppliedOp Op Undo). w.undo) done ++ d.undo ∷ [] =
      ap (λ (w : List (AppliedOp Op Undo)). map (λ (v : AppliedOp Op Undo). v.undo) w) pushed ∙ map_push (λ (w : AppliedOp Op Undo). w.undo) done d in
      record {
        allowed = subst (λ (w : List Op). AllowedFrom o s w) (sym grown)
            (allowed-append o s x (d.op ∷ []) h.allowed (subst (λ (w : State). IsLegal o w d.op) h.leads legal, tt));
        kept = undos ∙ ap (λ (w : List Undo). w ++ d.undo ∷ []) h.kept
            ∙ ap (λ (w : Undo). kept_from o s x ++ w ∷ []) (kept ∙ ap (λ (w : State). o.upkeep.kept w d.op) h.leads)
            ∙ sym (kept-append s x d.op) ∙ ap (λ (w : List Op). kept_from o s w) (sym grown);
        leads = leads ∙ ap (λ (w : State). o.next w d.op) h.leads ∙ sym (state-append o s x (d.op ∷ [])) ∙ ap (λ (w : List Op). state_from o s w) (sym grown);
      }

  module _ (laws : IsLawful o) where
    -- A log goes on by what is allowed after it.
    pub log_further : (s : State) (b x : List Op) → IsLog o s b → AllowedFrom o s x → AllRanged o x → IsLog o (state_from o s x) (b ++ x)
    log_further s b [] h k r = subst (λ (w : List Op). IsLog o s w) (sym (append-nil b)) h
    log_further s b (a ∷ x) h k r = subst (λ (w : List Op). IsLog o (state_from o (o.next s a) x) w) (append_assoc b (a ∷ []) x)
        (log_further (o.next s a) (b ++ a ∷ []) x (log_grows o s b a h k.0 r.0 (laws.next_shape s a k.0)) k.1 r.1)

    log_is_state : (s : State) (b : List Op) → IsLog o s b → o.upkeep.IsState s
    log_is_state s b h = subst (λ (w : State). o.upkeep.IsState w) (sym h.is)
        (allowed_is_state o (o.start (o.shape s)) b laws.next_is_state (laws.start_is_state (o.shape s)) h.allowed)

    -- if the first of operations that may follow led to a state
    module _ (s t : State) (x y : List Op) (us : List Undo) (may : MayFollow o s (x ++ y)) (trail : IsTrail o s x us t) where
      log_there : IsLog o t (may.before ++ x)
      log_there = subst (λ (w : State). IsLog o w (may.before ++ x)) (sym trail.leads)
          (log_further s may.before x may.log trail.allowed (ranged-first o x y may.ranged))

      -- The state that the first of some permitted operations led to is reached.
      pub reached_there : IsReached o t
      reached_there = record {
        ops = may.before ++ x;
        log = log_there;
        few = let few = may.few in omega (arith, few, length-append may.before x, length-append x y);
      }

      state_there : o.upkeep.IsState t
      state_there = log_is_state t (may.before ++ x) log_there

    -- the next one
    module _ (s t : State) (x y : List Op) (a : Op) (us : List Undo) (may : MayFollow o s (x ++ a ∷ y)) (trail : IsTrail o s x us t) where
      -- The next of some permitted operations fits the state that those before it led to.
      pub next_fits : IsTrue (o.fits (o.shape t) a)
      next_fits = subst (λ (w : Shape). IsTrue (o.fits w a)) (sym (ap o.shape trail.leads ∙ keeps_shape o laws.next_shape s x trail.allowed))
          (each-second (λ b. IsTrue (o.fits (o.shape s) b)) x (a ∷ y) may.fit).0

      -- The next of some permitted operations is ranged.
      pub next_ranged : IsTrue (o.ranged a)
      next_ranged = (ranged-second o x (a ∷ y) may.ranged).0

    -- the last one is taken back
    pub last_taken_back : (s t : State) (done less : List (AppliedOp Op Undo)) (d : AppliedOp Op Undo) → done ≡ less ++ d ∷ [] → MayFollow o s (applied done) → Stands o s done t
        → WasApplied o d.op d.undo t × MayFollow o s (applied less) × Stands o s less (o.upkeep.back t d.op d.undo)
    last_taken_back s t done less d popped may h =
        let a = d.op in
        let x = applied less in
        let grown : applied done ≡ x ++ a ∷ [] = ap (λ (w : List (AppliedOp Op Undo)). applied w) popped ∙ map_push (λ (w : AppliedOp Op Undo). w.op) less d in
        let undos : map (λ (w : AppliedOp Op Undo). w.undo) done ≡ map (λ (w : AppliedOp Op Undo). w.undo) less ++ d.undo ∷ [] =
        ap (λ (w : List (AppliedOp Op Undo)). map (λ (v : AppliedOp Op Undo). v.undo) w) popped ∙ map_push (λ (w : AppliedOp Op Undo). w.undo) less d in
        let may_all : MayFollow o s (x ++ a ∷ []) = subst (λ (w : List Op). MayFollow o s w) grown may in
        let mid = state_from o s x in
        let allowed : AllowedFrom o s (x ++ a ∷ []) = subst (λ (w : List Op). AllowedFrom o s w) grown h.allowed in
        let before = allowed-first o s x (a ∷ []) allowed in
        let legal = (allowed-second o s x (a ∷ []) allowed).0 in
        let kept = same_from_push (map (λ (w : AppliedOp Op Undo). w.undo) less) (kept_from o s x) d.undo (o.upkeep.kept mid a)
        (sym undos ∙ h.kept ∙ ap (λ (w : List Op). kept_from o s w) grown ∙ kept-append s x a) in
        let leads : t ≡ o.next mid a = h.leads ∙ ap (λ (w : List Op). state_from o s w) grown ∙ state-append o s x (a ∷ []) in
        let shorter : Stands o s less mid = record { allowed = before; kept = kept.0; leads = refl } in (
          (
            mid,
            reached_there s mid x (a ∷ []) (map (λ (w : AppliedOp Op Undo). w.undo) less) may_all shorter,
            next_ranged s mid x [] a (map (λ (w : AppliedOp Op Undo). w.undo) less) may_all shorter,
            legal,
            leads,
            kept.1,
          ),
          may-first s x (a ∷ []) may_all,
          record {
            allowed = before;
            kept = kept.0;
            leads = ap (λ (w : State). o.upkeep.back w a d.undo) leads ∙ ap (λ (w : Undo). o.upkeep.back (o.next mid a) a w) kept.1
                ∙ laws.taken_back mid a (state_there s mid x (a ∷ []) (map (λ (w : AppliedOp Op Undo). w.undo) less) may_all shorter) legal;
          },
        )

  -- ---- how far a list is allowed

  -- As many operations were applied as entries say that they were.
  pub length-applied : (done : List (AppliedOp Op Undo)) → length (applied done) ≡ length done
  length-applied done = length-map done (λ (w : AppliedOp Op Undo). w.op)

  -- A list is applied as far as it is allowed if its next operation is not legal.
  pub furthest_stopped : (s t : State) (l y : List Op) (a : Op) (done : List (AppliedOp Op Undo)) → Stands o s done t → l ≡ applied done ++ a ∷ y
      → (IsLegal o t a → ⊥) → IsFurthest o s l done t
  furthest_stopped s t l y a done h whole differs =
      let x = applied done in
      let n = length-applied done in
      record {
        stands = h;
        within = let all = ap (λ (w : List Op). length w) whole in omega (arith, all, n, length-append x (a ∷ y));
        front = sym (ap (λ (k : ℕ). take k l) (sym n) ∙ ap (λ (w : List Op). take (length x) w) whole ∙ take-append_seam x (a ∷ y));
        stops = λ less allowed.
            let one : take (length done + 1) l ≡ x ++ a ∷ [] = ap (λ (k : ℕ). take (k + 1) l) (sym n) ∙ ap (λ (w : List Op). take (length x + 1) w) whole
            ∙ take-append-add x (a ∷ y) 1 in
            differs (subst (λ (w : State). IsLegal o w a) (sym h.leads) (allowed-second o s x (a ∷ []) (subst (λ (w : List Op). AllowedFrom o s w) one allowed)).0);
      }

  -- A list that was applied as a whole is applied as far as it is allowed.
  pub furthest_whole : (s t : State) (l : List Op) (done : List (AppliedOp Op Undo)) → Stands o s done t → l ≡ applied done → IsFurthest o s l done t
  furthest_whole s t l done h whole =
      let n = length-applied done in
      let all = ap (λ (w : List Op). length w) whole in
      record {
        stands = h;
        within = omega (arith, all, n);
        front = sym (ap (λ (k : ℕ). take k l) (sym n ∙ sym all) ∙ take-length l ∙ whole);
        stops = λ less allowed. absurd (omega (arith, less, all, n));
      }

  module _ (s t : State) (l : List Op) (done : List (AppliedOp Op Undo)) (h : IsFurthest o s l done t) where
    -- A list that is allowed as far as its length is allowed as a whole.
    pub all_allowed : length done ≡ length l → AllowedFrom o s l
    all_allowed all = subst (λ (w : List Op). AllowedFrom o s w) (h.front ∙ ap (λ (k : ℕ). take k l) all ∙ take-length l) (h.stands).allowed

    -- A list that is allowed less far than its length is not allowed as a whole.
    pub not_allowed : length done < length l → AllowedFrom o s l → ⊥
    not_allowed less allowed = h.stops less (allowed-first o s (take (length done + 1) l) (drop (length done + 1) l)
        (subst (λ (w : List Op). AllowedFrom o s w) (sym (take-append-drop (length done + 1) l)) allowed))

    -- If the operation that failed is shared by another list, it fails there too.
    pub fails_alike : (m : List Op) (n : ℕ) → Share n l m → n ≤ length l → n ≤ length m → length done < n → IsFurthest o s m done t
    fails_alike m n alike left right less = record {
      stands = h.stands;
      within = omega (arith, right, less);
      front = h.front ∙ share_less n (length done) l m (omega (arith, less)) alike;
      stops = λ shorter allowed. h.stops (omega (arith, less, left))
          (subst (λ (w : List Op). AllowedFrom o s w) (sym (share_less n (length done + 1) l m (omega (arith, less)) alike)) allowed);
    }

    -- the first of what was applied are the first of another list
    pub first_alike : (m : List Op) (n : ℕ) (less : List (AppliedOp Op Undo)) → Share n l m → n ≤ length done → less ≡ take n done → applied less ≡ take n m
    first_alike m n less alike within taken = ap (λ (w : List (AppliedOp Op Undo)). applied w) taken ∙ sym (take-map (λ (w : AppliedOp Op Undo). w.op) n done)
        ∙ ap (λ (w : List Op). take n w) h.front ∙ take-take n (length done) l within ∙ alike

  -- If nothing is applied any more, the state is the one at the start.
  pub back_again : (s t : State) (done : List (AppliedOp Op Undo)) → done ≡ [] → Stands o s done t → t ≡ s
  back_again s t done none h = h.leads ∙ ap (λ (w : List (AppliedOp Op Undo)). state_from o s (applied w)) none
