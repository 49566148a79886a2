use Rattle.std.proofs.Common.{◌≡◌, ℕ, ◌<◌, ◌+◌, zero, suc, IsTrue, List, [], ◌∷◌, ◌++◌, length}
use Rattle.std.proofs.Common.{take, get_or, refl, sym, ◌∙◌, ap, subst, arith, length-append}
use Rattle.std.proofs.lemmas.List.{take_more, length_push, length-take-le}
use Rattle.pp_core.specs.declared.entry.Item.{Item}
use Rattle.pp_kind.specs.Object.{Object, IsLegal, AllowedFrom, IsAllowed, AllRanged, IsLog}
use Rattle.pp_kind.specs.Object.{IsReached, IsLawful, state_from, state_after}
use Rattle.pp_kind.proofs.Lists.{state-append, allowed-first, allowed-second, allowed-append}
use Rattle.pp_kind.proofs.Lists.{ranged-append, allowed_is_state}
use Rattle.pp_kind.proofs.Places.{shape_stays, reached_is_state}
use Rattle.pp_model.specs.Object.{ops}
use Rattle.pp_model.proofs.Lengths.{length-ops}
use Rattle.pp_log.proofs.Lists.{push-injective}
use Rattle.pp_log.specs.Runs.{kept_along, AllFit, IsRun}

get-ops : {Op : Type 0} (x : List (Item Op)) (i : ℕ) (e : Item Op) → get_or (ops x) i e.op ≡ (get_or x i e).op
get-ops [] i e = refl
get-ops (f ∷ x) zero e = refl
get-ops (f ∷ x) (suc i) e = get-ops x i e

-- one more operation
pub take_one_more : {Op : Type 0} (x : List (Item Op)) (i : ℕ) (e : Item Op) → i < length x → e ≡ get_or x i e → take (i + 1) (ops x) ≡ take i (ops x) ++ e.op ∷ []
take_one_more {Op} x i e h k =
    let size = length-ops x in
    let within : i < length (ops x) = omega arith in
    take_more (ops x) i e.op within ∙ ap (λ (a : Op). take i (ops x) ++ a ∷ []) (get-ops x i e ∙ ap (λ (f : Item Op). f.op) (sym k))

module _ {Shape State Op Undo : Type 0} (o : Object Shape State Op Undo) where
  -- The first operations of a ranged list are ranged.
  pub ranged-take : (i : ℕ) (x : List Op) → AllRanged o x → AllRanged o (take i x)
  ranged-take zero x h = tt
  ranged-take (suc i) [] h = tt
  ranged-take (suc i) (a ∷ x) h = (h.0, ranged-take i x h.1)

  -- The operation at a position of a ranged list is ranged.
  pub ranged-get : (x : List (Item Op)) (i : ℕ) (e : Item Op) → i < length x → AllRanged o (ops x) → IsTrue (o.ranged (get_or x i e).op)
  ranged-get [] i e h r = absurd (omega arith)
  ranged-get (f ∷ x) zero e h r = r.0
  ranged-get (f ∷ x) (suc i) e h r = ranged-get x i e (omega arith) r.1

  -- The operation at a position of a list that fits a shape fits the shape.
  pub fit-get : (sh : Shape) (x : List (Item Op)) (i : ℕ) (e : Item Op) → i < length x → AllFit o sh (ops x) → IsTrue (o.fits sh (get_or x i e).op)
  fit-get sh [] i e h r = absurd (omega arith)
  fit-get sh (f ∷ x) zero e h r = r.0
  fit-get sh (f ∷ x) (suc i) e h r = fit-get sh x i e (omega arith) r.1

  -- The undo values of joined lists are those of the first, then those of the second after it.
  pub kept-append : (s : State) (x y : List Op) → kept_along o s (x ++ y) ≡ kept_along o s x ++ kept_along o (state_from o s x) y
  kept-append s [] y = refl
  kept-append s (a ∷ x) y = ap (λ (us : List Undo). o.upkeep.kept s a ∷ us) (kept-append (o.next s a) x y)

  -- One more operation adds one undo value: what it keeps in the state before it.
  pub kept-push : (s : State) (x : List Op) (a : Op) → kept_along o s (x ++ a ∷ []) ≡ kept_along o s x ++ o.upkeep.kept (state_from o s x) a ∷ []
  kept-push s x a = kept-append s x (a ∷ [])

  -- A list of operations leaves as many undo values as it has operations.
  pub length-kept : (s : State) (x : List Op) → length (kept_along o s x) ≡ length x
  length-kept s [] = refl
  length-kept s (a ∷ x) = ap suc (length-kept (o.next s a) x)

module _ {Shape State Op Undo : Type 0} (o : Object Shape State Op Undo) (laws : IsLawful o) where
  -- More operations after a log.
  pub log-append : (b : State) (base x : List Op) → IsLog o b base → AllowedFrom o b x → AllRanged o x → IsLog o (state_from o b x) (base ++ x)
  log-append b base x h k r =
      let shape = shape_stays o laws b x k in
      let longer : IsAllowed o (o.shape b) (base ++ x) = allowed-append o (o.start (o.shape b)) base x h.allowed (subst (λ (t : State). AllowedFrom o t x) h.is k) in
      record {
        allowed = subst (λ (sh : Shape). IsAllowed o sh (base ++ x)) (sym shape) longer;
        is = ap (λ (t : State). state_from o t x) h.is ∙ sym (state-append o (o.start (o.shape b)) base x) ∙ ap (λ (sh : Shape). state_after o sh (base ++ x)) (sym shape);
        ranged = ranged-append o base x h.ranged r;
      }

  -- The state of a log is one that the laws speak of (`IsState`).
  pub log_is_state : (b : State) (base : List Op) → IsLog o b base → o.upkeep.IsState b
  log_is_state b base h = subst o.upkeep.IsState (sym h.is) (reached_is_state o laws (o.shape b) base h.allowed)

  -- the state of a run in which an item is left to apply is reached
  pub run_reached : (b s : State) (items : List (Item Op)) (us : List Undo) → IsRun o b items us s → length us < length items → IsReached o s
  run_reached b s items us h k =
      let n = length us in
      let x = take n (ops items) in
      let size = length-ops items in
      let short : length x ≡ n = length-take-le n (ops items) (omega arith) in
      let all = h.few in
      let both = length-append h.base x in
      record {
        ops = h.base ++ x;
        log = subst (λ (t : State). IsLog o t (h.base ++ x)) (sym h.is) (log-append b h.base x h.log h.allowed (ranged-take o n (ops items) h.ranged));
        few = omega arith;
      }

  -- A run keeps the shape of the state that it begins in.
  pub run_shape : (b s : State) (items : List (Item Op)) (us : List Undo) → IsRun o b items us s → o.shape s ≡ o.shape b
  run_shape b s items us h = ap o.shape h.is ∙ shape_stays o laws b (take (length us) (ops items)) h.allowed

  -- an item that is left to apply
  pub run_fits : (b s : State) (items : List (Item Op)) (us : List Undo) (e : Item Op) → IsRun o b items us s → length us < length items → e ≡ get_or items (length us) e → IsTrue (o.fits (o.shape s) e.op)
  run_fits b s items us e h k is =
      subst (λ (sh : Shape). IsTrue (o.fits sh e.op)) (sym (run_shape b s items us h))
      (subst (λ (f : Item Op). IsTrue (o.fits (o.shape b) f.op)) (sym is) (fit-get o (o.shape b) items (length us) e k h.fit))

  -- The next item of a run is ranged.
  pub run_ranged : (b s : State) (items : List (Item Op)) (us : List Undo) (e : Item Op) → IsRun o b items us s → length us < length items → e ≡ get_or items (length us) e → IsTrue (o.ranged e.op)
  run_ranged b s items us e h k is = subst (λ (f : Item Op). IsTrue (o.ranged f.op)) (sym is) (ranged-get o items (length us) e k h.ranged)

  -- A run goes on with its next item if the object's result is the recorded one.
  pub run_more : (b s : State) (items : List (Item Op)) (us vs : List Undo) (e : Item Op) (u : Undo) (t : State) → IsRun o b items us s → length us < length items → e ≡ get_or items (length us) e → o.gives s e.op ≡ o.recorded e.op → u ≡ o.upkeep.kept s e.op → t ≡ o.next s e.op → vs ≡ us ++ u ∷ [] → IsRun o b items vs t
  run_more b s items us vs e u t h k is gives kept next longer =
      let n = length us in
      let all = ops items in
      let a = e.op in
      let x = take n all in
      let legal : IsLegal o s a = (run_fits b s items us e h k is, gives) in
      let size : length vs ≡ n + 1 = ap length longer ∙ length_push us u in
      let cut : take (length vs) all ≡ x ++ a ∷ [] = ap (λ (i : ℕ). take i all) size ∙ take_one_more items n e k is in
      record {
        base = h.base;
        log = h.log;
        few = h.few;
        fit = h.fit;
        ranged = h.ranged;
        within = omega arith;
        allowed = subst (AllowedFrom o b) (sym cut) (allowed-append o b x (a ∷ []) h.allowed (subst (λ (r : State). IsLegal o r a) h.is legal, tt));
        is = next ∙ ap (λ (r : State). o.next r a) h.is ∙ sym (state-append o b x (a ∷ [])) ∙ ap (state_from o b) (sym cut);
        kept = longer ∙ ap (λ (ws : List Undo). ws ++ u ∷ []) h.kept ∙ ap (λ (w : Undo). kept_along o b x ++ w ∷ []) (kept ∙ ap (λ (r : State). o.upkeep.kept r a) h.is) ∙ sym (kept-push o b x a) ∙ ap (kept_along o b) (sym cut);
      }

-- The known facts about the last item that a run applied.
pub record IsLast {Shape State Op Undo : Type 0} (o : Object Shape State Op Undo) (b s : State) (items : List (Item Op)) (us : List Undo) (a : Op) (u : Undo) : Type 0 where
  pub before : State
  pub shorter : IsRun o b items us before
  pub reached : IsReached o before
  pub ranged : IsTrue (o.ranged a)
  pub legal : IsLegal o before a
  pub state : s ≡ o.next before a
  pub undo : u ≡ o.upkeep.kept before a
  pub back : o.upkeep.back s a u ≡ before

-- The last item of a run has the facts of `IsLast`: it may be taken back.
pub run_last : {Shape State Op Undo : Type 0} (o : Object Shape State Op Undo) (laws : IsLawful o) (b s : State) (items : List (Item Op)) (vs us : List Undo) (u : Undo) (e : Item Op) → vs ≡ us ++ u ∷ [] → e ≡ get_or items (length us) e → IsRun o b items vs s → IsLast o b s items us e.op u
run_last {Shape} {State} {Op} {Undo} o laws b s items vs us u e f is h =
    let n = length us in
    let all = ops items in
    let a = e.op in
    let x = take n all in
    let size : length vs ≡ n + 1 = ap length f ∙ length_push us u in
    let within = h.within in
    let k : n < length items = omega arith in
    let cut : take (length vs) all ≡ x ++ a ∷ [] = ap (λ (i : ℕ). take i all) size ∙ take_one_more items n e k is in
    let allowed : AllowedFrom o b (x ++ a ∷ []) = subst (AllowedFrom o b) cut h.allowed in
    let r = state_from o b x in
    let same = push-injective us (kept_along o b x) u (o.upkeep.kept r a) (sym f ∙ h.kept ∙ ap (kept_along o b) cut ∙ kept-push o b x a) in
    let state : s ≡ o.next r a = h.is ∙ ap (state_from o b) cut ∙ state-append o b x (a ∷ []) in
    let legal : IsLegal o r a = (allowed-second o b x (a ∷ []) allowed).0 in
    let first = allowed-first o b x (a ∷ []) allowed in
    let shorter : IsRun o b items us r = record {
      base = h.base;
      log = h.log;
      few = h.few;
      fit = h.fit;
      ranged = h.ranged;
      within = omega arith;
      allowed = first;
      is = refl;
      kept = same.0;
    } in
    let is_state : o.upkeep.IsState r = allowed_is_state o b x laws.next_is_state (log_is_state o laws b h.base h.log) first in
    record {
      before = r;
      shorter = shorter;
      reached = run_reached o laws b r items us shorter k;
      ranged = run_ranged o laws b r items us e shorter k is;
      legal = legal;
      state = state;
      undo = same.1;
      back = ap (λ (t : State). o.upkeep.back t a u) state ∙ ap (o.upkeep.back (o.next r a) a) same.1 ∙ laws.taken_back r a is_state legal;
    }
