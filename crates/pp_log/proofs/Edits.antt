use Rattle.std.proofs.Common.{◌≡◌, ℕ, ◌<◌, ◌≤◌, ◌+◌, zero, suc, List, [], ◌∷◌, length, take}
use Rattle.std.proofs.Common.{drop, get_or, refl, sym, ◌∙◌, ap, subst, arith, inl, inr}
use Rattle.std.specs.List.{remove}
use Rattle.std.proofs.lemmas.List.Edits.{length-remove}
use Rattle.std.proofs.Math.Seq.{take-length}
use Rattle.std.specs.Prelude.{Some}
use Rattle.pp_core.specs.declared.entry.Item.{Item}
use Rattle.pp_core.specs.declared.answer.Answer.{Answer}
use Rattle.pp_model.specs.Lists.{In}
use Rattle.pp_kind.specs.Object.{Object, AllowedFrom, AllRanged, state_from}
use Rattle.pp_kind.proofs.Lists.{allowed-second}
use Rattle.pp_model.specs.Object.{ops}
use Rattle.pp_log.specs.Runs.{kept_along, AllFit, IsRun, Stops}
use Rattle.std.proofs.lemmas.Option.{slice_get_within, get_or_from_slice_get}
use Rattle.pp_model.proofs.Lengths.{length-ops}
use Rattle.pp_log.specs.Logs.{DiffersFrom}
use Rattle.pp_log.specs.TakesOut.{itself}
use Rattle.pp_log.proofs.Lists.{cut_there}
use Rattle.pp_log.proofs.Runs.{take_one_more}

-- Lists of items, of which one is taken out.
pub take-remove : {Op : Type 0} (x : List (Item Op)) (i j : ℕ) → j ≤ i → take j (ops (remove x i)) ≡ take j (ops x)
take-remove x i zero h = refl
take-remove x zero (suc j) h = absurd (omega arith)
take-remove [] (suc i) (suc j) h = refl
take-remove {Op} (e ∷ x) (suc i) (suc j) h = ap (λ (z : List Op). e.op ∷ z) (take-remove x i j (omega arith))

-- The operations of the first items are the first operations.
pub ops-take : {Op : Type 0} (x : List (Item Op)) (i : ℕ) → ops (take i x) ≡ take i (ops x)
ops-take x zero = refl
ops-take [] (suc i) = refl
ops-take {Op} (e ∷ x) (suc i) = ap (λ (z : List Op). e.op ∷ z) (ops-take x i)

-- An id that is at no position of a list is not in the list.
pub not_among : (x : List ℕ) (id : ℕ) → ((j : ℕ) → j < length x → get_or x j 0 ≡ id → ⊥) → In id x → ⊥
not_among [] id h k = k
not_among (i ∷ x) id h k = elim k [
  | inl same ↦ h 0 (omega arith) (sym same)
  | inr later ↦ not_among x id (λ j l. h (suc j) (omega arith)) later
]

module _ {Shape State Op Undo : Type 0} (o : Object Shape State Op Undo) where
  fit-remove : (sh : Shape) (x : List (Item Op)) (i : ℕ) → AllFit o sh (ops x) → AllFit o sh (ops (remove x i))
  fit-remove sh [] zero h = tt
  fit-remove sh [] (suc i) h = tt
  fit-remove sh (e ∷ x) zero h = h.1
  fit-remove sh (e ∷ x) (suc i) h = (h.0, fit-remove sh x i h.1)

  -- Ranged items stay ranged without the item at a position.
  pub ranged-remove : (x : List (Item Op)) (i : ℕ) → AllRanged o (ops x) → AllRanged o (ops (remove x i))
  ranged-remove [] zero h = tt
  ranged-remove [] (suc i) h = tt
  ranged-remove (e ∷ x) zero h = h.1
  ranged-remove (e ∷ x) (suc i) h = (h.0, ranged-remove x i h.1)

  -- The first operations of an allowed list are allowed.
  pub allowed-take : (s : State) (i : ℕ) (x : List Op) → AllowedFrom o s x → AllowedFrom o s (take i x)
  allowed-take s zero x h = tt
  allowed-take s (suc i) [] h = tt
  allowed-take s (suc i) (a ∷ x) h = (h.0, allowed-take (o.next s a) i x h.1)

  -- a run over the items without one that was not applied
  pub run_without : (b s : State) (x : List (Item Op)) (us : List Undo) (i : ℕ) → length us ≤ i → i < length x → IsRun o b x us s → IsRun o b (remove x i) us s
  run_without b s x us i h k r =
      let same = sym (take-remove x i (length us) h) in
      let size = length-remove x i k in
      let few = r.few in
      record {
        base = r.base;
        log = r.log;
        few = omega arith;
        fit = fit-remove (o.shape b) x i r.fit;
        ranged = ranged-remove x i r.ranged;
        within = omega arith;
        allowed = subst (AllowedFrom o b) same r.allowed;
        is = r.is ∙ ap (state_from o b) same;
        kept = r.kept ∙ ap (kept_along o b) same;
      }

  -- nothing differs in a list that was applied before
  pub never_differs : (b s t : State) (x : List (Item Op)) (us vs : List Undo) (e : Item Op) → IsRun o b x vs t → length vs ≡ length x → IsRun o b x us s → length us < length x → e ≡ get_or x (length us) e → o.gives s e.op ≡ o.recorded e.op
  never_differs b s t x us vs e whole all r h is =
      let n = length us in
      let cut = take_one_more x n e h is in
      let long : AllowedFrom o b (take (n + 1) (take (length vs) (ops x))) = allowed-take b (n + 1) (take (length vs) (ops x)) whole.allowed in
      let every : AllowedFrom o b (take (n + 1) (ops x)) = subst (λ (z : List Op). AllowedFrom o b (take (n + 1) z)) (ap (λ (k : ℕ). take k (ops x)) (all ∙ sym (length-ops x)) ∙ take-length (ops x)) long in
      let legal = (allowed-second o b (take n (ops x)) (e.op ∷ []) (subst (AllowedFrom o b) cut every)).0 in
      ap (λ (q : State). o.gives q e.op) r.is ∙ legal.1

  -- If a run stopped at an item, that is the first item that differs.
  pub differs_there : (b s : State) (x : List (Item Op)) (us : List Undo) (e : Item Op) (id : ℕ) (answer : Answer) → IsRun o b x us s → length us < length x → e ≡ get_or x (length us) e → e.id ≡ id → o.gives s e.op ≡ answer → (answer ≡ o.recorded e.op → ⊥) → DiffersFrom o itself b x id answer
  differs_there b s x us e id answer r h is id_is gives differs =
      let n = length us in
      let cut : ops (take n x) ≡ take n (ops x) = ops-take x n in
      record {
        before = take n x;
        entry = e;
        after = drop (n + 1) x;
        is = cut_there x n e h is;
        id_is = id_is;
        allowed = subst (AllowedFrom o b) (sym cut) r.allowed;
        gives = ap (λ (q : State). o.gives q e.op) (ap (state_from o b) cut ∙ sym r.is) ∙ gives;
        differs = differs;
      }

  -- No item differs in a list of items that were all applied before from the same state.
  pub never_stops : (b s t : State) (x : List (Item Op)) (us vs : List Undo) (answer : Answer) → IsRun o b x vs t → length vs ≡ length x → IsRun o b x us s → Stops o x us s (Some answer) → ⊥
  never_stops b s t x us vs answer whole all r stop =
      let e = stop.0 in
      let at = slice_get_within x (length us) e stop.1 in
      let found = sym (get_or_from_slice_get x (length us) e e stop.1) in
      stop.3 (sym stop.2 ∙ never_differs b s t x us vs e whole all r at found)

  -- The item at which a run stops is the first one that differs.
  pub differs_where : (b s : State) (x : List (Item Op)) (us : List Undo) (f : Item Op) (answer : Answer) → f ≡ get_or x (length us) f → IsRun o b x us s → Stops o x us s (Some answer) → DiffersFrom o itself b x f.id answer
  differs_where b s x us f answer is r stop =
      let e = stop.0 in
      let at = slice_get_within x (length us) e stop.1 in
      let same : f ≡ e = is ∙ get_or_from_slice_get x (length us) e f stop.1 in
      differs_there b s x us f f.id answer r at is refl (ap (λ (z : Item Op). o.gives s z.op) same ∙ stop.2) (λ k. stop.3 (k ∙ ap (λ (z : Item Op). o.recorded z.op) same))
