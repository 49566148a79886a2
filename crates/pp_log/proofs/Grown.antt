use Rattle.std.proofs.Common.{◌≡◌, ℕ, ◌<◌, zero, suc, IsTrue, List, [], ◌∷◌}
use Rattle.std.proofs.Common.{◌++◌, length, refl, sym, ◌∙◌, ap, subst, arith, inl, inr, Option}
use Rattle.std.proofs.Common.{Some, None, append-nil}
use Rattle.std.specs.List.{slice_get, slice_set, remove}
use Rattle.std.proofs.lemmas.Bool.Decides.{eqb_tells}
use Rattle.std.proofs.lemmas.List.{length_push}
use Rattle.pp_core.specs.declared.entry.Item.{Item}
use Rattle.pp_kind.specs.declared.range.TheConstants.{MOST_OPERATIONS}
use Rattle.pp_kind.specs.Object.{Object, IsLegal, IsAllowed, IsReached, IsLawful, IsPlaced}
use Rattle.pp_kind.specs.Object.{AllRanged, state_after, state_from}
use Rattle.pp_kind.proofs.Lists.{one_more, state_one_more, ranged-append}
use Rattle.pp_log.specs.declared.place.Place.{Place}
use Rattle.pp_model.specs.Object.{ops}
use Rattle.pp_model.proofs.Lengths.{length-ops}
use Rattle.pp_log.specs.Parts.{there}
use Rattle.pp_log.proofs.Distinct.{IsNew, apart, one_more_id}
use Rattle.pp_log.specs.Runs.{kept_along}
use Rattle.pp_log.specs.Keeps.{IsKept, KeptIn, Keeps, KeepsAll}
use Rattle.pp_log.specs.declared.index.Index.{Index}
use Rattle.pp_log.specs.Index.{IsSameIndex}
use Rattle.pp_log.specs.Room.{ids_of, SameIn, ArePlacesSame}
use Rattle.pp_log.proofs.Lists.{set_same, set_other}
use Rattle.pp_log.proofs.Ids.{ids_once}
use Rattle.pp_log.proofs.Runs.{kept-push}
use Rattle.pp_log.proofs.Parted.{ops-append, there_at, there_off, there-append}
use Rattle.pp_log.proofs.Apart.{same_run, kept_at}

-- Ids.
pub ids-append : {Op : Type 0} (x y : List (Item Op)) → ids_of (x ++ y) ≡ ids_of x ++ ids_of y
ids-append [] y = refl
ids-append (e ∷ x) y = ap (λ (z : List ℕ). e.id ∷ z) (ids-append x y)

-- The ids without the one at a position are those of the items without the one there.
pub ids-remove : {Op : Type 0} (x : List (Item Op)) (i : ℕ) → remove (ids_of x) i ≡ ids_of (remove x i)
ids-remove [] zero = refl
ids-remove [] (suc i) = refl
ids-remove (e ∷ x) zero = refl
ids-remove (e ∷ x) (suc i) = ap (λ (z : List ℕ). e.id ∷ z) (ids-remove x i)

module _ {Shape State Op Undo : Type 0} (o : Object Shape State Op Undo) where
  -- A place with the same ids and undo values keeps the same items.
  pub kept_still : (b : State) (x : List (Item Op)) (old new : Option (Place Undo)) → KeptIn o b x old → SameIn old new → KeptIn o b x new
  kept_still b x None None h k = h
  kept_still b x None (Some q) h k = record { same_ids = k.0 ∙ ap (λ (z : List (Item Op)). ids_of z) (sym h); same_undos = k.1 ∙ ap (λ (z : List (Item Op)). kept_along o b (ops z)) (sym h) }
  kept_still b x (Some a) None h k = absurd k
  kept_still b x (Some a) (Some q) h k = record { same_ids = k.0 ∙ h.same_ids; same_undos = k.1 ∙ h.same_undos }

  -- the same list with room for more
  roomy : (place : Op → ℕ) (s : State) (log : List (Item Op)) (ps qs : List (Place Undo)) → Keeps o place s log ps → ArePlacesSame ps qs → Keeps o place s log qs
  roomy place s log ps qs h k = record { allowed = h.allowed; is = h.is; ranged = h.ranged; few = h.few; distinct = h.distinct; kept = λ r. kept_still (o.start (o.shape s)) (there place r log) (slice_get ps r) (slice_get qs r) (h.kept r) (k r) }

  -- A log keeps the same entries if its places and its index only get more room.
  pub with_room : (place : Op → ℕ) (s : State) (log new : List (Item Op)) (ps qs : List (Place Undo)) (ids more : Index) → KeepsAll o place s log ps ids → new ≡ log → ArePlacesSame ps qs → IsSameIndex ids more → KeepsAll o place s new qs more
  with_room place s log new ps qs ids more h is k same =
      subst (λ (z : List (Item Op)). KeepsAll o place s z qs more) (sym is) (record { keeps = roomy place s log ps qs h.keeps k; index = same (ids_of log) (ids_once log (apart log h.keeps.distinct)) h.index })

  -- The state of a log that has room for one more operation is reached.
  pub keeps_reached : (place : Op → ℕ) (s : State) (log : List (Item Op)) (ps : List (Place Undo)) → Keeps o place s log ps → length log < MOST_OPERATIONS → IsReached o s
  keeps_reached place s log ps h k = record {
    ops = ops log;
    log = record { allowed = h.allowed; is = h.is; ranged = h.ranged };
    few = let size = length-ops log in omega arith;
  }

module _ {Shape State Op Undo : Type 0} (o : Object Shape State Op Undo) (place : Op → ℕ) (SameAt : ℕ → State → State → Type 0) (laws : IsLawful o) (places : IsPlaced o place SameAt) where
  -- one more item, at its place
  pub grown : (s t : State) (log : List (Item Op)) (ps : List (Place Undo)) (e : Item Op) (p : ℕ) (q r : Place Undo) (u : Undo) → Keeps o place s log ps → IsLegal o s e.op → IsTrue (o.ranged e.op) → IsNew e.id log → length log < MOST_OPERATIONS → place e.op ≡ p → p < length ps → slice_get ps p ≡ Some q → t ≡ o.next s e.op → u ≡ o.upkeep.kept s e.op → r.ids.items ≡ q.ids.items ++ e.id ∷ [] → r.undos.items ≡ q.undos.items ++ u ∷ [] → Keeps o place t (log ++ e ∷ []) (slice_set ps p r) × (o.shape t ≡ o.shape s)
  grown s t log ps e p q r u h legal ranged new few at within found next kept ids undos =
      let sh = o.shape s in
      let start = o.start sh in
      let T = there place p log in
      let shape : o.shape t ≡ sh = ap o.shape next ∙ laws.next_shape s e.op legal in
      let more : ops (log ++ e ∷ []) ≡ ops log ++ e.op ∷ [] = ops-append log (e ∷ []) in
      let size = length_push log e in
      let had : IsKept o start T q = subst (KeptIn o start T) found (h.kept p) in
      let longer : there place p (log ++ e ∷ []) ≡ T ++ e ∷ [] = there-append place p log (e ∷ []) ∙ ap (λ (z : List (Item Op)). T ++ z) (there_at place p e [] at) in
      let same : SameAt p s (state_from o start (ops T)) = subst (λ (z : State). SameAt p z (state_from o start (ops T))) (sym h.is) (same_run o place SameAt laws places p start start log (places.same p start)) in
      let value : u ≡ o.upkeep.kept (state_from o start (ops T)) e.op = kept ∙ kept_at o place SameAt laws places p s (state_from o start (ops T)) e.op at same in
      let here : IsKept o start (T ++ e ∷ []) r = record {
        same_ids = ids ∙ ap (λ (z : List ℕ). z ++ e.id ∷ []) had.same_ids ∙ sym (ids-append T (e ∷ []));
        same_undos = undos ∙ ap (λ (z : List Undo). z ++ u ∷ []) had.same_undos ∙ ap (λ (v : Undo). kept_along o start (ops T) ++ v ∷ []) value ∙ sym (kept-push o start (ops T) e.op) ∙ ap (kept_along o start) (sym (ops-append T (e ∷ [])));
      } in
      let all : (j : ℕ) → KeptIn o start (there place j (log ++ e ∷ [])) (slice_get (slice_set ps p r) j) = λ j. elim (eqb_tells p j) [
        | inl k ↦ subst (λ (i : ℕ). KeptIn o start (there place i (log ++ e ∷ [])) (slice_get (slice_set ps p r) i)) k.1 (subst (KeptIn o start (there place p (log ++ e ∷ []))) (sym (set_same ps p r within)) (subst (λ (z : List (Item Op)). IsKept o start z r) (sym longer) here))
        | inr k ↦
            let still : there place j (log ++ e ∷ []) ≡ there place j log = there-append place j log (e ∷ []) ∙ ap (λ (z : List (Item Op)). there place j log ++ z) (there_off place j e [] (λ i. k.1 (sym at ∙ i))) ∙ append-nil (there place j log) in
            subst (KeptIn o start (there place j (log ++ e ∷ []))) (sym (set_other ps p j r k.1)) (subst (λ (z : List (Item Op)). KeptIn o start z (slice_get ps j)) (sym still) (h.kept j))
      ] in
      let allowed : IsAllowed o sh (ops (log ++ e ∷ [])) = subst (IsAllowed o sh) (sym more) (one_more o sh s (ops log) e.op h.is h.allowed legal) in
      let keeps : Keeps o place t (log ++ e ∷ []) (slice_set ps p r) = record {
        allowed = subst (λ (k : Shape). IsAllowed o k (ops (log ++ e ∷ []))) (sym shape) allowed;
        is = next ∙ state_one_more o sh s (ops log) e.op h.is ∙ ap (state_after o sh) (sym more) ∙ ap (λ (k : Shape). state_after o k (ops (log ++ e ∷ []))) (sym shape);
        ranged = subst (AllRanged o) (sym more) (ranged-append o (ops log) (e.op ∷ []) h.ranged (ranged, tt));
        few = omega arith;
        distinct = one_more_id log e h.distinct new;
        kept = subst (λ (k : Shape). (j : ℕ) → KeptIn o (o.start k) (there place j (log ++ e ∷ [])) (slice_get (slice_set ps p r) j)) (sym shape) all;
      } in
      (keeps, shape)

-- A log with one more entry is seen as before, with the entry added.
pub seen_more : {Shape E : Type 0} (sh k : Shape) (log now : List E) (e : E) (seen : Shape × List E) → ◌≡◌ {A = Shape × List E} (sh, log) seen → k ≡ sh → now ≡ log ++ e ∷ [] → ◌≡◌ {A = Shape × List E} (k, now) (seen.0, seen.1 ++ e ∷ [])
seen_more {Shape} {E} sh k log now e seen is f g =
    let P : Shape × List E → Type 0 = λ p. ◌≡◌ {A = Shape × List E} (k, now) (p.0, p.1 ++ e ∷ []) in
    subst P is (rw (f, g) refl)
