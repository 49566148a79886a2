use Rattle.std.proofs.Common.{◌≡◌, ℕ, ◌≤◌, List, [], ◌∷◌, ◌++◌, length, take, refl, sym, ◌∙◌, ap}
use Rattle.std.proofs.Common.{subst, arith, inl, inr, Some}
use Rattle.std.proofs.lemmas.Bool.Decides.{eqb_tells}
use Rattle.std.proofs.Math.Seq.{take-length}
use Rattle.std.specs.List.{slice_get}
use Rattle.pp_core.specs.declared.entry.Item.{Item}
use Rattle.pp_core.specs.declared.answer.Answer.{Answer}
use Rattle.pp_kind.specs.declared.range.TheConstants.{MOST_OPERATIONS}
use Rattle.pp_kind.specs.Object.{Object, AllowedFrom, IsAllowed, AllRanged, IsLawful, IsPlaced}
use Rattle.pp_kind.specs.Object.{state_from, state_after}
use Rattle.pp_kind.proofs.Lists.{state-append, allowed-first}
use Rattle.pp_kind.proofs.Places.{reached_shape}
use Rattle.pp_log.specs.declared.place.Place.{Place}
use Rattle.pp_model.specs.Object.{HasDistinctIds, ops}
use Rattle.pp_log.specs.Parts.{there, elsewhere}
use Rattle.pp_log.specs.Runs.{kept_along, AllFit, IsRun}
use Rattle.pp_log.specs.Keeps.{IsKept, KeptIn, Keeps}
use Rattle.pp_log.specs.Logs.{DiffersFrom, DiffersFirst}
use Rattle.pp_log.specs.TakesOut.{IsWhole, itself}
use Rattle.pp_model.proofs.Lists.{not_empty}
use Rattle.pp_model.proofs.Lengths.{length-ops}
use Rattle.pp_log.proofs.Runs.{length-kept, run_shape}
use Rattle.pp_log.proofs.Parted.{is_at, there_at, there_off, elsewhere_at, elsewhere_off}
use Rattle.pp_log.proofs.Parted.{there-append, there_of_elsewhere, there_of_others, parted}
use Rattle.pp_log.proofs.Parted.{length-parts, ops-append}
use Rattle.pp_log.proofs.Apart.{same_run, allowed_there, allowed_same, kept_same, allowed_by_places}
use Rattle.pp_log.proofs.Apart.{state_by_places, gives_at}

-- a list cut at an item of a place
pub record IsCutThere {Op : Type 0} (place : Op → ℕ) (p : ℕ) (x w z : List (Item Op)) (f : Item Op) : Type 0 where
  pub before : List (Item Op)
  pub after : List (Item Op)
  pub is : x ≡ before ++ f ∷ after
  pub there_before : there place p before ≡ w
  pub at : place f.op ≡ p

-- If the items of a place are cut at an item, the whole list is cut at this item.
pub cut_at : {Op : Type 0} (place : Op → ℕ) (p : ℕ) (x w z : List (Item Op)) (f : Item Op) → there place p x ≡ w ++ f ∷ z → IsCutThere place p x w z f
cut_at place p [] w z f e = absurd (not_empty w z f e)
cut_at {Op} place p (g ∷ x) [] z f e = elim (is_at place g p) [
  | inl h ↦ let both : g ∷ there place p x ≡ f ∷ z = sym (there_at place p g x h) ∙ e in
      let same : g ≡ f = cc in
      record { before = []; after = x; is = ap (λ (k : Item Op). k ∷ x) same; there_before = refl; at = ap (λ (k : Item Op). place k.op) (sym same) ∙ h }
  | inr h ↦ let r = cut_at place p x [] z f (sym (there_off place p g x h) ∙ e) in
      record { before = g ∷ r.before; after = r.after; is = ap (λ (k : List (Item Op)). g ∷ k) r.is; there_before = there_off place p g r.before h ∙ r.there_before; at = r.at }
]
cut_at {Op} place p (g ∷ x) (k ∷ w) z f e = elim (is_at place g p) [
  | inl h ↦ let both : g ∷ there place p x ≡ k ∷ (w ++ f ∷ z) = sym (there_at place p g x h) ∙ e in
      let same : g ≡ k = cc in
      let rest : there place p x ≡ w ++ f ∷ z = cc in
      let r = cut_at place p x w z f rest in
      record { before = g ∷ r.before; after = r.after; is = ap (λ (l : List (Item Op)). g ∷ l) r.is; there_before = there_at place p g r.before h ∙ ap (λ (l : List (Item Op)). g ∷ l) r.there_before ∙ ap (λ (m : Item Op). m ∷ w) same; at = r.at }
  | inr h ↦ let r = cut_at place p x (k ∷ w) z f (sym (there_off place p g x h) ∙ e) in
      record { before = g ∷ r.before; after = r.after; is = ap (λ (l : List (Item Op)). g ∷ l) r.is; there_before = there_off place p g r.before h ∙ r.there_before; at = r.at }
]

module _ {Shape State Op Undo : Type 0} (o : Object Shape State Op Undo) (place : Op → ℕ) where
  -- The items of a place in a ranged list are ranged.
  pub ranged_there : (p : ℕ) (x : List (Item Op)) → AllRanged o (ops x) → AllRanged o (ops (there place p x))
  ranged_there p [] h = tt
  ranged_there p (e ∷ x) h =
      let P : List (Item Op) → Type 0 = λ z. AllRanged o (ops z) in
      elim (is_at place e p) [ inl k ↦ subst P (sym (there_at place p e x k)) (h.0, ranged_there p x h.1) | inr k ↦ subst P (sym (there_off place p e x k)) (ranged_there p x h.1) ]

  -- The items of the other places in a ranged list are ranged.
  pub ranged_elsewhere : (p : ℕ) (x : List (Item Op)) → AllRanged o (ops x) → AllRanged o (ops (elsewhere place p x))
  ranged_elsewhere p [] h = tt
  ranged_elsewhere p (e ∷ x) h =
      let P : List (Item Op) → Type 0 = λ z. AllRanged o (ops z) in
      elim (is_at place e p) [ inl k ↦ subst P (sym (elsewhere_at place p e x k)) (ranged_elsewhere p x h.1) | inr k ↦ subst P (sym (elsewhere_off place p e x k)) (h.0, ranged_elsewhere p x h.1) ]

-- Each operation of an allowed list fits the shape of the state that it begins in.
pub allowed_fit : {Shape State Op Undo : Type 0} (o : Object Shape State Op Undo) (laws : IsLawful o) (s : State) (x : List Op) → AllowedFrom o s x → AllFit o (o.shape s) x
allowed_fit o laws s [] h = tt
allowed_fit {Shape} {State} {Op} {Undo} o laws s (a ∷ x) h = (h.0.0, subst (λ (sh : Shape). AllFit o sh x) (laws.next_shape s a h.0) (allowed_fit o laws (o.next s a) x h.1))

module _ {Shape State Op Undo : Type 0} (o : Object Shape State Op Undo) (place : Op → ℕ) (SameAt : ℕ → State → State → Type 0) (laws : IsLawful o) (places : IsPlaced o place SameAt) where
  -- the items of other places leave a place as it was
  pub base_same : (p : ℕ) (s : State) (x : List (Item Op)) → SameAt p s (state_from o s (ops (elsewhere place p x)))
  base_same p s x =
      let b = state_from o s (ops (elsewhere place p x)) in
      places.turned p b s (subst (λ (z : List (Item Op)). SameAt p b (state_from o s (ops z))) (there_of_elsewhere place p x) (same_run o place SameAt laws places p s s (elsewhere place p x) (places.same p s)))

  -- The items of the other places are allowed if the whole list is.
  pub base_allowed : (p : ℕ) (s : State) (x : List (Item Op)) → AllowedFrom o s (ops x) → AllowedFrom o s (ops (elsewhere place p x))
  base_allowed p s x h = allowed_by_places o place SameAt laws places s (elsewhere place p x) (λ q. elim (eqb_tells p q) [
    | inl e ↦ subst (λ (z : List (Item Op)). AllowedFrom o s (ops z)) (sym (ap (λ (r : ℕ). there place r (elsewhere place p x)) (sym e.1) ∙ there_of_elsewhere place p x)) tt
    | inr e ↦ subst (λ (z : List (Item Op)). AllowedFrom o s (ops z)) (sym (there_of_others place p q x e.1)) (allowed_there o place SameAt laws places q s s x (places.same q s) refl h)
  ])

  -- a list and the same list with the items of a place at its end
  pub state_parted : (p : ℕ) (s : State) (x : List (Item Op)) → AllowedFrom o s (ops x) → state_from o s (ops x) ≡ state_from o (state_from o s (ops (elsewhere place p x))) (ops (there place p x))
  state_parted p s x h =
      let y = elsewhere place p x ++ there place p x in
      let allowed : AllowedFrom o s (ops y) = allowed_by_places o place SameAt laws places s y (λ q.
      subst (λ (z : List (Item Op)). AllowedFrom o s (ops z)) (sym (parted place p q x)) (allowed_there o place SameAt laws places q s s x (places.same q s) refl h)) in
      state_by_places o place SameAt laws places s x y h allowed (λ q. sym (parted place p q x))
      ∙ ap (state_from o s) (ops-append (elsewhere place p x) (there place p x)) ∙ state-append o s (ops (elsewhere place p x)) (ops (there place p x))

  -- The ids and undo values that a log keeps for a place are those of the whole run there.
  pub whole_of : (p : ℕ) (s : State) (log : List (Item Op)) (ps : List (Place Undo)) (q : Place Undo) → Keeps o place s log ps → slice_get ps p ≡ Some q → IsWhole o (state_after o (o.shape s) (ops (elsewhere place p log))) (there place p log) q s
  whole_of p s log ps q h e =
      let sh = o.shape s in
      let start = o.start sh in
      let base = ops (elsewhere place p log) in
      let b = state_after o sh base in
      let T = there place p log in
      let kept : IsKept o start T q = subst (KeptIn o start T) e (h.kept p) in
      let us = q.undos.items in
      let allowed = base_allowed p start log h.allowed in
      let shape : o.shape b ≡ sh = reached_shape o laws sh base allowed in
      let same = base_same p start log in
      let size : length us ≡ length (ops T) = ap length kept.same_undos ∙ length-kept o start (ops T) in
      let items = length-ops T in
      let cut : take (length us) (ops T) ≡ ops T = ap (λ (n : ℕ). take n (ops T)) size ∙ take-length (ops T) in
      let there_allowed : AllowedFrom o b (ops T) = allowed_same o place SameAt laws places p start b log same (laws.start_shape sh ∙ sym shape) (allowed_there o place SameAt laws places p start start log (places.same p start) refl h.allowed) in
      let parts = length-parts place p log in
      let bases = length-ops (elsewhere place p log) in
      let few = h.few in
      let run : IsRun o b T us s = record {
        base = base;
        log = record {
          allowed = subst (λ (k : Shape). IsAllowed o k base) (sym shape) allowed;
          is = ap (λ (k : Shape). state_after o k base) (sym shape);
          ranged = ranged_elsewhere o place p log h.ranged;
        };
        few = omega arith;
        fit = allowed_fit o laws b (ops T) there_allowed;
        ranged = ranged_there o place p log h.ranged;
        within = omega arith;
        allowed = subst (AllowedFrom o b) (sym cut) there_allowed;
        is = h.is ∙ state_parted p start log h.allowed ∙ ap (state_from o b) (sym cut);
        kept = kept.same_undos ∙ kept_same o place SameAt laws places p start b log same ∙ ap (kept_along o b) (sym cut);
      } in
      record { run = run; all = size ∙ items; ids = kept.same_ids }

  -- a log of which one place was changed
  pub log_of : (p : ℕ) (sh : Shape) (s : State) (log : List (Item Op)) (ps : List (Place Undo)) (q : Place Undo) → IsAllowed o sh (ops (elsewhere place p log)) → IsWhole o (state_after o sh (ops (elsewhere place p log))) (there place p log) q s → AllRanged o (ops log) → length log ≤ MOST_OPERATIONS → HasDistinctIds log → slice_get ps p ≡ Some q → ((r : ℕ) → (p ≡ r → ⊥) → KeptIn o (o.start sh) (there place r log) (slice_get ps r)) → Keeps o place s log ps × (o.shape s ≡ sh)
  log_of p sh s log ps q base_ok whole ranged few distinct found others =
      let start = o.start sh in
      let base = ops (elsewhere place p log) in
      let b = state_after o sh base in
      let T = there place p log in
      let us = q.undos.items in
      let run : IsRun o b T us s = whole.run in
      let size : length us ≡ length (ops T) = whole.all ∙ sym (length-ops T) in
      let cut : take (length us) (ops T) ≡ ops T = ap (λ (n : ℕ). take n (ops T)) size ∙ take-length (ops T) in
      let bshape : o.shape b ≡ sh = reached_shape o laws sh base base_ok in
      let shape : o.shape s ≡ sh = run_shape o laws b s T us run ∙ bshape in
      let same = base_same p start log in
      let there_allowed : AllowedFrom o b (ops T) = subst (AllowedFrom o b) cut run.allowed in
      let start_allowed : AllowedFrom o start (ops T) = allowed_same o place SameAt laws places p b start log (places.turned p start b same) (bshape ∙ sym (laws.start_shape sh)) there_allowed in
      let allowed : IsAllowed o sh (ops log) = allowed_by_places o place SameAt laws places start log (λ r. elim (eqb_tells p r) [
        | inl e ↦ subst (λ (k : ℕ). AllowedFrom o start (ops (there place k log))) e.1 start_allowed
        | inr e ↦ subst (λ (z : List (Item Op)). AllowedFrom o start (ops z)) (there_of_others place p r log e.1) (allowed_there o place SameAt laws places r start start (elsewhere place p log) (places.same r start) refl base_ok)
      ]) in
      let is : s ≡ state_after o sh (ops log) = run.is ∙ ap (state_from o b) cut ∙ sym (state_parted p start log allowed) in
      let here : IsKept o start T q = record { same_ids = whole.ids; same_undos = run.kept ∙ ap (kept_along o b) cut ∙ sym (kept_same o place SameAt laws places p start b log same) } in
      let kept : (r : ℕ) → KeptIn o start (there place r log) (slice_get ps r) = λ r. elim (eqb_tells p r) [
        | inl e ↦ subst (λ (k : ℕ). KeptIn o start (there place k log) (slice_get ps k)) e.1 (subst (KeptIn o start T) (sym found) here)
        | inr e ↦ others r e.1
      ] in
      let all : Keeps o place s log ps = record {
        allowed = subst (λ (k : Shape). IsAllowed o k (ops log)) (sym shape) allowed;
        is = is ∙ ap (λ (k : Shape). state_after o k (ops log)) (sym shape);
        ranged = ranged;
        few = few;
        distinct = distinct;
        kept = subst (λ (k : Shape). (r : ℕ) → KeptIn o (o.start k) (there place r log) (slice_get ps r)) (sym shape) kept;
      } in
      (all, shape)

  -- the first item that differs at the place is the first one that differs
  pub differs_first : (p : ℕ) (sh : Shape) (log : List (Item Op)) (id : ℕ) (answer : Answer) → IsAllowed o sh (ops (elsewhere place p log)) → DiffersFrom o itself (state_after o sh (ops (elsewhere place p log))) (there place p log) id answer → DiffersFirst o itself sh log id answer
  differs_first p sh log id answer base_ok h =
      let start = o.start sh in
      let base = ops (elsewhere place p log) in
      let b = state_after o sh base in
      let cut = cut_at place p log h.before h.after h.entry h.is in
      let bshape : o.shape b ≡ sh = reached_shape o laws sh base base_ok in
      let same = base_same p start log in
      let x = cut.before in
      let at_b : AllowedFrom o b (ops (there place p x)) = subst (λ (z : List (Item Op)). AllowedFrom o b (ops z)) (sym cut.there_before) h.allowed in
      let at_start : AllowedFrom o start (ops (there place p x)) = allowed_same o place SameAt laws places p b start x (places.turned p start b same) (bshape ∙ sym (laws.start_shape sh)) at_b in
      let allowed : IsAllowed o sh (ops x) = allowed_by_places o place SameAt laws places start x (λ r. elim (eqb_tells p r) [
        | inl e ↦ subst (λ (k : ℕ). AllowedFrom o start (ops (there place k x))) e.1 at_start
        | inr e ↦
            let every : AllowedFrom o start (ops (there place r log)) = subst (λ (z : List (Item Op)). AllowedFrom o start (ops z)) (there_of_others place p r log e.1) (allowed_there o place SameAt laws places r start start (elsewhere place p log) (places.same r start) refl base_ok) in
            let split : ops (there place r log) ≡ ops (there place r x) ++ ops (there place r (h.entry ∷ cut.after)) = ap (λ (z : List (Item Op)). ops (there place r z)) cut.is ∙ ap (λ (z : List (Item Op)). ops z) (there-append place r x (h.entry ∷ cut.after)) ∙ ops-append (there place r x) (there place r (h.entry ∷ cut.after)) in
            allowed-first o start (ops (there place r x)) (ops (there place r (h.entry ∷ cut.after))) (subst (AllowedFrom o start) split every)
      ]) in
      let s = state_after o sh (ops x) in
      let t = state_from o b (ops h.before) in
      let states : SameAt p s t = subst (λ (z : List (Item Op)). SameAt p s (state_from o b (ops z))) cut.there_before (same_run o place SameAt laws places p start b x same) in
      record {
        before = x;
        entry = h.entry;
        after = cut.after;
        is = cut.is;
        id_is = h.id_is;
        allowed = allowed;
        gives = gives_at o place SameAt laws places p s t h.entry.op cut.at states ∙ h.gives;
        differs = h.differs;
      }
