-- What a drop takes out, and what is known of pulled entries from step to step.
use Rattle.std.proofs.Common.{◌≡◌, ◌≢◌, ◌⊎◌, ◌≤◌, ◌<◌, ◌+◌, ◌==◌, ◌&&◌, ℕ, zero, suc, Bool, true, false, cond, not, nat_eq}
use Rattle.std.proofs.Common.{List, [], ◌∷◌, ◌++◌, length, map, filter, reverse, take, drop, Option, None, Some, refl, sym, ap}
use Rattle.std.proofs.Common.{subst, ◌∙◌, arith, inl, inr, if◌then◌else◌, get_or, position}
use Rattle.std.proofs.Common.{IsSorted, nat_cmp}
use Rattle.std.specs.List.{Contains, list_any, slice_get}
use Rattle.std.specs.Option.{option_map}
use Rattle.std.proofs.lemmas.Bool.{and_parts, cases_lt, eq-eqb, eqb-true}
use Rattle.std.proofs.lemmas.List.{get_or_default}
use Rattle.std.proofs.lemmas.List.Elements.{Contains-append_left, Contains-push}
use Rattle.std.proofs.lemmas.List.Sorted.{IsNonDecreasingBy-from_sort}
use Rattle.std.proofs.lemmas.Option.{same_Some}
use Rattle.indexmap.specs.IndexSet.{insert_key}
use Rattle.pp_core.specs.Steps.{Step, Begin, App, Unapp, Push, Unpush, Pull, Unpull, Cmt, Quit, Note}
use Rattle.pp_core.specs.declared.entry.LocalEntry.{LocalEntry}
use Rattle.pp_core.specs.declared.entry.SharedEntry.{SharedEntry}
use Rattle.pp_records.specs.Expansions.{LocalLog, is_pulled_from, stands_in, unpulls}
use Rattle.pp_records.specs.Fronts.{at_name}
use Rattle.pp_model.specs.Config.{Config, Mark, Tx, Unpushed, Pushed, Pulled, as_pulled, but_last, commit_effect}
use Rattle.pp_model.specs.Config.{entry_of, is_mark, item, of_other, on_log, pull_effect, push_effect, set_mark, then}
use Rattle.pp_model.specs.Config.{tx, without_local, without_tx}
use Rattle.pp_model.specs.Lists.{In}
use Rattle.pp_model.specs.Names.{Name, ◌=ⁿ◌}
use Rattle.pp_model.specs.Object.{HasDistinctIds, Object}
use Rattle.pp_model.specs.Sound.{Sound}
use Rattle.pp_model.proofs.Finding.{any_in, find_nowhere, place_none, placed, stands_in as is_in}
use Rattle.pp_model.proofs.Lists.{from_filter, from_map, in_cases, in_left, in_map, in_right}
use Rattle.pp_model.proofs.Logs.{found, found_tx, in_but_last, on_each}
use Rattle.pp_model.proofs.Names.{names-true, names_tell}
use Rattle.pp_model.proofs.Steps.{only_one}
use Rattle.pp_styles.specs.Dropping.{AddsAt, AddsPulled, Grows, HasPulled, HoldsLocal, HoldsPulled, IsListed, IsPulledBut}
use Rattle.pp_styles.specs.Dropping.{KeepsThere, KnowsPulled, ListsPull, Looks, Loses, Pullings, Puts, Trims}
use Rattle.pp_styles.specs.Walking.{unpull_of}
use Rattle.pp_styles.proofs.Ids.{in_stands}
use Rattle.pp_styles.proofs.Looking.{in_next}
use Rattle.pp_styles.proofs.Noted.{take_next}
use Rattle.pp_styles.proofs.Outs.{unpulled_more}
use Rattle.pp_styles.proofs.Taking.{not_true}

never : true ≡ false → ⊥
never e = cc

-- ---- positions in a local log

same_place : {Op : Type 0} (l : List (LocalEntry Op)) → HasDistinctIds (map item l) → (q k : ℕ) (a b : LocalEntry Op) → slice_get l q ≡ Some a → slice_get l k ≡ Some b → a.id ≡ b.id → q ≡ k
same_place [] d q k a b at_q at_k same = absurd (cc)
same_place (e ∷ l) d zero zero a b at_q at_k same = refl
same_place {Op} (e ∷ l) d zero (suc k) a b at_q at_k same =
    absurd (d (item e) (item b) (inl (refl, in_map item b l (is_in l k b at_k)))
    (ap (λ (w : LocalEntry Op). w.id) (same_Some e a at_q) ∙ same))
same_place {Op} (e ∷ l) d (suc q) zero a b at_q at_k same =
    absurd (d (item e) (item a) (inl (refl, in_map item a l (is_in l q a at_q)))
    (ap (λ (w : LocalEntry Op). w.id) (same_Some e b at_k) ∙ sym same))
same_place (e ∷ l) d (suc q) (suc k) a b at_q at_k same = ap suc (same_place l (λ p r i. d p r (inr i)) q k a b at_q at_k same)

module _ {Op : Type 0} (l : List (LocalEntry Op)) (d : HasDistinctIds (map item l)) (ids at : List ℕ) (i e : ℕ) (below : i < length ids) (h : HoldsLocal (take i ids) l at) where
  -- an id is one of the first ones, or the next
  next_id : (id : ℕ) → In id (take (i + 1) ids) → In id (take i ids) ⊎ (id ≡ get_or ids i e)
  next_id id there = elim (in_cases id (take i ids) (get_or ids i e ∷ []) (subst (λ (w : List ℕ). In id w) (take_next ids i e below) there)) [
    | inl old ↦ inl old
    | inr (inl same) ↦ inr same
    | inr (inr none) ↦ absurd none
  ]

  -- one id more has its position among those that are kept
  pub local_next : (q : ℕ) → Some q ≡ position (λ g. g.id == get_or ids i e) l → HoldsLocal (take (i + 1) ids) l (at ++ q ∷ [])
  local_next q is k g here there = elim (next_id g.id there) [
    | inl old ↦ Contains-append_left at (q ∷ []) k (h k g here old)
    | inr same ↦
        let r = placed (λ (w : LocalEntry Op). w.id == get_or ids i e) l q (sym is) in
        let one : q ≡ k = same_place l d q k r.0 g r.1 here (eqb-true (r.0).id (get_or ids i e) r.2 ∙ sym same) in
        subst (λ (n : ℕ). Contains (at ++ q ∷ []) n) one (Contains-push at q)
  ]

  -- If the next id is not in a local log, the positions kept are those of one more id.
  pub no_local_next : None ≡ position (λ g. g.id == get_or ids i e) l → HoldsLocal (take (i + 1) ids) l at
  no_local_next none k g here there = elim (next_id g.id there) [
    | inl old ↦ h k g here old
    | inr same ↦
        absurd (never (sym (eq-eqb g.id (get_or ids i e) same) ∙ find_nowhere (λ (w : LocalEntry Op). w.id == get_or ids i e) l (place_none (λ (w : LocalEntry Op). w.id == get_or ids i e) l (sym none)) g (is_in l k g here)))
  ]

-- ---- a walk from the end over some positions

no_drop : {A : Type 0} (n : ℕ) (xs : List A) → xs ≡ [] → drop n xs ≡ []
no_drop zero xs none = none
no_drop (suc n) [] none = refl
no_drop (suc n) (x ∷ xs) none = absurd (cc)

-- entries that are not chosen
filter_skip : {A : Type 0} (p : A → Bool) (xs : List A) (i k : ℕ) → i ≤ k → ((j : ℕ) (x : A) → i ≤ j → j < k → slice_get xs j ≡ Some x → p x ≡ false) → filter p (drop i xs) ≡ filter p (drop k xs)
filter_skip p [] i k le h = ap (filter p) (no_drop i [] refl ∙ sym (no_drop k [] refl))
filter_skip p (x ∷ xs) zero zero le h = refl
filter_skip {A} p (x ∷ xs) zero (suc k) le h =
    ap (λ (b : Bool). cond b (x ∷ filter p xs) (filter p xs)) (h 0 x (omega arith) (omega arith) refl)
    ∙ filter_skip p xs zero k (omega arith) (λ j y above below there. h (suc j) y (omega arith) (omega arith) there)
filter_skip p (x ∷ xs) (suc i) zero le h = absurd (omega arith)
filter_skip p (x ∷ xs) (suc i) (suc k) le h = filter_skip p xs i k (omega arith) (λ j y above below there. h (suc j) y (omega arith) (omega arith) there)

module _ {Op : Type 0} (t source : Name) (l : List (LocalEntry Op)) where
  -- Of a local log the entries from a position on are done, and the other ones that were pulled from
  -- the source are at one of the first so many of these positions.
  pub record Rest (at : List ℕ) (n from : ℕ) : Type 0 where
    pub within : from ≤ length l
    pub few : n ≤ length at
    pub rest : (k : ℕ) (e : LocalEntry Op) → k < from → slice_get l k ≡ Some e → is_pulled_from source e ≡ true →
        (j : ℕ) × (j < n) × (get_or at j k ≡ k)

  -- At first no pulled entry was visited, and all are at one of the positions.
  pub all_rest : (at : List ℕ) → HoldsPulled source l at → Rest at (length at) (length l)
  all_rest at h =
      record {
        within = omega arith;
        few = omega arith;
        rest = λ k e below here is. let r = h k e here is in (r.0, r.1, r.2);
      }

  module _ (at : List ℕ) (n m from : ℕ) (is_n : n ≡ m + 1) (h : Rest at n from) (p : ℕ) (is_p : p ≡ get_or at m p) where
    size : m < length at
    size = let few = h.few in omega arith

    -- an entry that is not at the last position is at an earlier one
    earlier : (j k : ℕ) → j < n → get_or at j k ≡ k → k ≢ p → j < m
    earlier j k below is off = elim (cases_lt j m) [
      | inl less ↦ less
      | inr more ↦
          let same : j ≡ m = omega arith in
          absurd (off (sym is ∙ ap (λ (i : ℕ). get_or at i k) same ∙ get_or_default at m k p size ∙ sym is_p))
    ]

    -- the last position is passed over
    pub skipped : ((k : ℕ) (e : LocalEntry Op) → k < from → slice_get l k ≡ Some e → k ≢ p) → Rest at m from
    skipped other =
        record {
          within = h.within;
          few = let few = size in omega arith;
          rest = λ k e below here is.
              let r = h.rest k e below here is in
              (r.0, earlier r.0 k r.1 r.2 (other k e below here), r.2);
        }

    -- none is chosen after it
    none_between : IsSorted nat_cmp at → (k : ℕ) (e : LocalEntry Op) → p < k → k < from → slice_get l k ≡ Some e → is_pulled_from source e ≡ false
    none_between up k e above below here = not_true (is_pulled_from source e) (λ is.
        let r = h.rest k e below here is in
        let first = r.1 in
        let few = size in
        let grows = IsNonDecreasingBy-from_sort (λ (i : ℕ). i) at up r.0 m k (omega arith) size in
        let low : k ≤ p = subst (λ (i : ℕ). k ≤ i) (get_or_default at m k p size ∙ sym is_p) (subst (λ (i : ℕ). i ≤ get_or at m k) r.2 grows) in
        omega arith)

    -- it is taken out
    pub taken_here : p < from → Rest at m p
    taken_here less =
        let within_is = h.within in
        record {
          within = omega arith;
          few = let few = size in omega arith;
          rest = λ k e below here is.
              let r = h.rest k e (omega arith) here is in
              (r.0, earlier r.0 k r.1 r.2 (λ same. omega arith), r.2);
        }

    -- The pulled entry at the last position that is left adds its UNPULL to the steps.
    pub unpulls_here : IsSorted nat_cmp at → p < from → (e : LocalEntry Op) → slice_get l p ≡ Some e →
        unpulls t source (drop p l) ≡ unpulls t source (drop from l) ++ unpull_of t source e
    unpulls_here up less e here =
        unpulled_more t l p (p + 1) (omega arith) e here source
        ∙ ap (λ (w : List (LocalEntry Op)). map (λ (f : LocalEntry Op). Unpull t f.id) (reverse w) ++ unpull_of t source e)
        (filter_skip (is_pulled_from source) l (p + 1) from (omega arith) (λ j f above below there. none_between up j f (omega arith) below there))

  -- all positions are passed
  pub all_dropped : (at : List ℕ) (n from : ℕ) → n ≤ 0 → Rest at n from → unpulls t source (drop from l) ≡ unpulls t source l
  all_dropped at n from none h =
      sym (ap (λ (w : List (LocalEntry Op)). map (λ (f : LocalEntry Op). Unpull t f.id) (reverse w))
      (filter_skip (is_pulled_from source) l 0 from (omega arith) (λ j f above below there. not_true (is_pulled_from source f) (λ is.
      let r = h.rest j f below there is in
      let low = r.1 in
      omega arith))))

  -- what is pulled from a source is at the positions of its ids
  pub pulled_at : (ids at : List ℕ) → IsPulledBut source l ids → HoldsLocal ids l at → HoldsPulled source l at
  pulled_at ids at all h k e here is = h k e here (all e (is_in l k e here) is)

-- ---- lists of ids

-- an inserted id is in a list, and so are the others
pub inserted_here : (ids : List ℕ) (id : ℕ) → In id (insert_key nat_eq ids id)
inserted_here ids id = by (list_any (nat_eq id) ids) refl
  where
    by : (b : Bool) → list_any (nat_eq id) ids ≡ b → In id (if b then ids else ids ++ id ∷ [])
    by true is =
        let r = any_in (nat_eq id) ids is in
        subst (λ (n : ℕ). In n ids) (sym (eqb-true id r.0 r.2)) r.1
    by false is = in_right id ids (id ∷ []) (inl refl)

-- An id that is in a list is still in it after another was inserted.
pub inserted_still : (ids : List ℕ) (id i : ℕ) → In i ids → In i (insert_key nat_eq ids id)
inserted_still ids id i there = by (list_any (nat_eq id) ids)
  where
    by : (b : Bool) → In i (if b then ids else ids ++ id ∷ [])
    by true = there
    by false = in_left i ids (id ∷ []) there

-- An id of a list with one more id is in the list, or it is that id.
inserted_from : (ids : List ℕ) (id i : ℕ) → In i (insert_key nat_eq ids id) → In i ids ⊎ (i ≡ id)
inserted_from ids id i = by (list_any (nat_eq id) ids)
  where
    by : (b : Bool) → In i (if b then ids else ids ++ id ∷ []) → In i ids ⊎ (i ≡ id)
    by true there = inl there
    by false there = elim (in_cases i ids (id ∷ []) there) [
      | inl old ↦ inl old
      | inr (inl same) ↦ inr same
      | inr (inr none) ↦ absurd none
    ]

-- of no ids none is kept
pub none_there : {Op : Type 0} (l : List (LocalEntry Op)) (there : List ℕ) → there ≡ [] → KeepsThere l [] there
none_there l there is = record { from = λ i at. absurd (subst (λ (w : List ℕ). In i w) is at); all = λ i none has. absurd none }

module _ {Op : Type 0} (l : List (LocalEntry Op)) (ids : List ℕ) (i e : ℕ) (below : i < length ids) (there : List ℕ) (h : KeepsThere l (take i ids) there) where
  more : (b : Bool) → stands_in l (get_or ids i e) ≡ b → KeepsThere l (take i ids ++ get_or ids i e ∷ []) (if b then insert_key nat_eq there (get_or ids i e) else there)
  more true is =
      record {
        from = λ j at. elim (inserted_from there (get_or ids i e) j at) [
          | inl old ↦ let r = h.from j old in (in_left j (take i ids) (get_or ids i e ∷ []) r.0, r.1)
          | inr same ↦ (in_right j (take i ids) (get_or ids i e ∷ []) (inl same), subst (λ (n : ℕ). stands_in l n ≡ true) (sym same) is)
        ];
        all = λ j at has. elim (in_cases j (take i ids) (get_or ids i e ∷ []) at) [
          | inl old ↦ inserted_still there (get_or ids i e) j (h.all j old has)
          | inr (inl same) ↦ subst (λ (n : ℕ). In n (insert_key nat_eq there (get_or ids i e))) (sym same) (inserted_here there (get_or ids i e))
          | inr (inr none) ↦ absurd none
        ];
      }
  more false is =
      record {
        from = λ j at. let r = h.from j at in (in_left j (take i ids) (get_or ids i e ∷ []) r.0, r.1);
        all = λ j at has. elim (in_cases j (take i ids) (get_or ids i e ∷ []) at) [
          | inl old ↦ h.all j old has
          | inr (inl same) ↦ absurd (never (sym has ∙ ap (λ (n : ℕ). stands_in l n) same ∙ is))
          | inr (inr none) ↦ absurd none
        ];
      }

  -- If the next id is added when it is in a local log, of one id more those there are kept.
  pub there_next : (new : List ℕ) → new ≡ (if stands_in l (get_or ids i e) then insert_key nat_eq there (get_or ids i e) else there) → KeepsThere l (take (i + 1) ids) new
  there_next new is =
      subst (λ (w : List ℕ). KeepsThere l w new) (sym (take_next ids i e below))
      (subst (λ (w : List ℕ). KeepsThere l (take i ids ++ get_or ids i e ∷ []) w) (sym is) (more (stands_in l (get_or ids i e)) refl))

-- at one owner, and at each
module _ (owner : Name) (id : ℕ) (old new : Name → List ℕ) (is : (v : Name) → new v ≡ at_name owner (insert_key nat_eq (old owner) id) old v) where
  -- An inserted id is in the list of its owner.
  pub at_owner : In id (new owner)
  at_owner = subst (λ (w : List ℕ). In id w) (sym (is owner)) (by (names_tell owner owner))
    where
      by : (((owner =ⁿ owner) ≡ true) × (owner ≡ owner)) ⊎ (((owner =ⁿ owner) ≡ false) × (owner ≢ owner)) → In id (if owner =ⁿ owner then insert_key nat_eq (old owner) id else old owner)
      by (inl same) = subst (λ (b : Bool). In id (if b then insert_key nat_eq (old owner) id else old owner)) (sym same.0) (inserted_here (old owner) id)
      by (inr other) = absurd (other.1 refl)

  -- An id that is in the list of an owner is still in it after another was inserted.
  pub at_each : (v : Name) (i : ℕ) → In i (old v) → In i (new v)
  at_each v i there = subst (λ (w : List ℕ). In i w) (sym (is v)) (by (names_tell v owner))
    where
      by : (((v =ⁿ owner) ≡ true) × (v ≡ owner)) ⊎ (((v =ⁿ owner) ≡ false) × (v ≢ owner)) → In i (if v =ⁿ owner then insert_key nat_eq (old owner) id else old v)
      by (inl same) = subst (λ (b : Bool). In i (if b then insert_key nat_eq (old owner) id else old v)) (sym same.0) (inserted_still (old owner) id i (subst (λ (u : Name). In i (old u)) same.1 there))
      by (inr other) = subst (λ (b : Bool). In i (if b then insert_key nat_eq (old owner) id else old v)) (sym other.0) there

-- an entry that is added, and one entry more of a local log
pub adds_pulled : {Op : Type 0} (e : LocalEntry Op) (old new : Name → List ℕ) → ((v : Name) → new v ≡ at_name e.owner (insert_key nat_eq (old e.owner) e.id) old v) → AddsPulled e old new
adds_pulled e old new is = record { same = at_each e.owner e.id old new is; here = λ mark. at_owner e.owner e.id old new is }

-- If the next entry of a local log is added, the pulled entries up to it are known.
pub pulled_next : {Op : Type 0} (l : List (LocalEntry Op)) (i : ℕ) (g : LocalEntry Op) → slice_get l i ≡ Some g → (old new : Name → List ℕ) → AddsPulled g old new → HasPulled old (take i l) → HasPulled new (take (i + 1) l)
pulled_next {Op} l i g here old new more before e there is = elim (in_next e l i g here there) [
  | inl early ↦ more.same e.owner e.id (before e early is)
  | inr same ↦ subst (λ (w : LocalEntry Op). In w.id (new w.owner)) (sym same) (more.here (subst (λ (w : LocalEntry Op). is_mark w.mark Pulled ≡ true) same is))
]

-- ---- what is forgotten or added

-- If nothing changes, no list that is kept is shorter than before.
pub same_grows : (p : Pullings) → Grows p p
same_grows p u kept = (kept, λ v i there. there)

unkept : (p : Pullings) (u : Name) → p.kept u ≡ true → p.kept u ≡ false → ⊥
unkept p u kept none = never (sym kept ∙ none)

-- If lists are no longer kept, no list that is kept is shorter than before.
pub loses_grow : (p q : Pullings) → Loses p q → Grows p q
loses_grow p q f u kept = elim (f u) [
  | inl none ↦ absurd (unkept q u kept none)
  | inr same ↦ (sym same.0 ∙ kept, λ v i there. subst (λ (w : List ℕ). In i w) (sym (same.1 v)) there)
]

-- If the lists put for a transaction are true of its local log, it was looked at.
pub looks_put : {Op : Type 0} (t : Name) (l : List (LocalEntry Op)) (p q : Pullings) (ids : Name → List ℕ) → HasPulled ids l → Puts t ids p q → Looks t l p q
looks_put t l p q ids has f u = elim (f u) [
  | inl none ↦ inl none
  | inr (inl same) ↦ inr (inl same)
  | inr (inr set) ↦ inr (inr (set.0, λ e i is. subst (λ (w : List ℕ). In e.id w) (sym (set.1 e.owner)) (has e i is)))
]

module _ (t owner : Name) (id : ℕ) (p q : Pullings) (f : AddsAt t owner id p q) where
  -- If one more id is in a list, no list that is kept is shorter than before.
  pub adds_grow : Grows p q
  adds_grow u kept = elim (f u) [
    | inl none ↦ absurd (unkept q u kept none)
    | inr (inl same) ↦ (sym same.1 ∙ kept, λ v i there. subst (λ (w : List ℕ). In i w) (sym (same.2 v)) there)
    | inr (inr more) ↦ (more.0, at_each owner id (p.ids u) (q.ids u) more.1)
  ]

  -- An added id is in the list of its owner, if lists are kept for the transaction.
  pub adds_here : q.kept t ≡ true → In id (q.ids t owner)
  adds_here kept = elim (f t) [
    | inl none ↦ absurd (unkept q t kept none)
    | inr (inl same) ↦ absurd (by (names_tell t t) same.0)
    | inr (inr more) ↦ at_owner owner id (p.ids t) (q.ids t) more.1
  ]
    where
      by : (((t =ⁿ t) ≡ true) × (t ≡ t)) ⊎ (((t =ⁿ t) ≡ false) × (t ≢ t)) → (t =ⁿ t) ≡ false → ⊥
      by (inl same) off = never (sym same.0 ∙ off)
      by (inr other) off = other.1 refl

-- An id that no entry of the shared log has is listed, as nothing has to be.
pub lists_none : {Op : Type 0} (t : Name) (id : ℕ) (G : List (SharedEntry Op)) (p : Pullings) → ((g : SharedEntry Op) → In g G → g.id ≡ id → ⊥) → IsListed t id G p
lists_none t id G p none g i is kept = absurd (none g i is)

-- An id is listed if the only entry with it has it in the list of its owner.
pub lists_one : {Op : Type 0} (t : Name) (id : ℕ) (G : List (SharedEntry Op)) (p : Pullings) (e : SharedEntry Op) → ((g : SharedEntry Op) → In g G → g.id ≡ id → g ≡ e) → (p.kept t ≡ true → In id (p.ids t e.owner)) → IsListed t id G p
lists_one {Op} t id G p e one here g i is kept = subst (λ (w : SharedEntry Op). In id (p.ids t w.owner)) (sym (one g i is)) (here kept)

-- ---- a configuration

module _ {Op : Type 0} where
  abbrev Knows : Pullings → List (Tx Op) → Type 0
  Knows q xs = (x : Tx Op) → In x xs → q.kept x.name ≡ true → HasPulled (q.ids x.name) x.local

  -- a local log with no pulled entry that it had not
  fewer : (ids : Name → List ℕ) (l m : List (LocalEntry Op)) → ((e : LocalEntry Op) → In e m → is_mark e.mark Pulled ≡ true → In e l) → HasPulled ids l → HasPulled ids m
  fewer ids l m from h e i is = h e (from e i is) is

  in_marked : (id : ℕ) (m : Mark) (l : List (LocalEntry Op)) → is_mark m Pulled ≡ false → (e : LocalEntry Op) → In e (set_mark id m l) → is_mark e.mark Pulled ≡ true → In e l
  in_marked id m l own e i is =
      let r = from_map (λ (w : LocalEntry Op). cond (w.id == id) (record w { mark = m }) w) e l i in
      by r.0 ((r.0).id == id) r.1 r.2
    where
      by : (w : LocalEntry Op) (b : Bool) → In w l → e ≡ cond b (record w { mark = m }) w → In e l
      by w true there same = absurd (never (sym is ∙ ap (λ (f : LocalEntry Op). is_mark f.mark Pulled) same ∙ own))
      by w false there same = subst (λ (f : LocalEntry Op). In f l) (sym same) there

  module _ (q : Pullings) (c : Config Op) (h : KnowsPulled q c) where
    -- a local log is changed
    changed : (t : Name) (f : List (LocalEntry Op) → List (LocalEntry Op)) → ((l : List (LocalEntry Op)) (e : LocalEntry Op) → In e (f l) → is_mark e.mark Pulled ≡ true → In e l) → Knows q (on_log t f c.opened)
    changed t f from =
        on_each t f c.opened (λ (x : Tx Op). q.kept x.name ≡ true → HasPulled (q.ids x.name) x.local)
        (λ x i is kept. fewer (q.ids x.name) x.local (f x.local) (from x.local) (h x i kept)) (λ x i off. h x i)

    without : (t : Name) → Knows q (without_tx t c.opened)
    without t x i = h x (from_filter _ x c.opened i).0

    begun : (y : Tx Op) → y.local ≡ [] → Knows q (c.opened ++ y ∷ [])
    begun y empty x i kept = elim (in_cases x c.opened (y ∷ []) i) [
      | inl old ↦ h x old kept
      | inr (inl here) ↦ subst (λ (l : List (LocalEntry Op)). HasPulled (q.ids x.name) l) (sym (ap (λ (w : Tx Op). w.local) here ∙ empty)) (λ e none is. absurd none)
      | inr (inr none) ↦ absurd none
    ]

    applied : (t : Name) (r : LocalEntry Op) → is_mark r.mark Pulled ≡ false → Knows q (on_log t (λ l. l ++ r ∷ []) c.opened)
    applied t r own = changed t (λ l. l ++ r ∷ []) (λ l e i is. elim (in_cases e l (r ∷ []) i) [
      | inl old ↦ old
      | inr (inl same) ↦ absurd (never (sym is ∙ ap (λ (w : LocalEntry Op). is_mark w.mark Pulled) same ∙ own))
      | inr (inr none) ↦ absurd none
    ])

    pushed : (t : Name) (id : ℕ) (o : Option (LocalEntry Op)) → KnowsPulled q (push_effect c t id o)
    pushed t id None = h
    pushed t id (Some e) = changed t (set_mark id Pushed) (λ l. in_marked id Pushed l refl)

    committed : (t : Name) (o : Option (Tx Op)) → KnowsPulled q (commit_effect c t o)
    committed t None = h
    committed t (Some x) = without t

    pulled : (t : Name) (id : ℕ) (o : Option (SharedEntry Op)) → of_other t id c.shared ≡ o → IsListed t id c.shared q → KnowsPulled q (pull_effect c t id o)
    pulled t id None is all = h
    pulled t id (Some g) is all =
        let r = found (λ (w : SharedEntry Op). (w.id == id) && not (w.owner =ⁿ t)) c.shared g is in
        let same : g.id ≡ id = eqb-true g.id id (and_parts (g.id == id) (not (g.owner =ⁿ t)) r.1).0 in
        on_each t (λ l. l ++ as_pulled g ∷ []) c.opened (λ (x : Tx Op). q.kept x.name ≡ true → HasPulled (q.ids x.name) x.local)
        (λ x i named kept e there mark. elim (in_cases e x.local (as_pulled g ∷ []) there) [
          | inl old ↦ h x i kept e old mark
          | inr (inl new) ↦
              subst (λ (w : LocalEntry Op). In w.id (q.ids x.name w.owner)) (sym new)
              (subst (λ (n : ℕ). In n (q.ids x.name g.owner)) (sym same)
              (subst (λ (u : Name). In id (q.ids u g.owner)) (sym named) (all g r.0 same (subst (λ (u : Name). q.kept u ≡ true) named kept))))
          | inr (inr none) ↦ absurd none
        ])
        (λ x i off. h x i)

  module _ (p : Pullings) (c : Config Op) (h : KnowsPulled p c) where
    longer : (q : Pullings) → Grows p q → KnowsPulled q c
    longer q f x i kept e there is =
        let g = f x.name kept in
        g.1 e.owner e.id (h x i g.0 e there is)

    lost : (q : Pullings) → Loses p q → KnowsPulled q c
    lost q f = longer q (loses_grow p q f)

    same : (q : Pullings) → q ≡ p → KnowsPulled q c
    same q f = subst (λ (w : Pullings). KnowsPulled w c) (sym f) h

    -- what is known stays true where the step has its effect
    pub stays_pulled : (a : Step Op) (q : Pullings) → ListsPull a c.shared p q → KnowsPulled q ((then) c a)
    stays_pulled (Begin t n b) q f = begun q c (lost q f) _ refl
    stays_pulled (App t id op) q f = applied q c (same q f) t _ refl
    stays_pulled (Unapp t id) q f = changed q c (same q f) t but_last (λ l e i is. in_but_last e l i)
    stays_pulled (Push t id) q f = pushed q c (same q f) t id (entry_of id Unpushed (tx t c.opened))
    stays_pulled (Unpush t id) q f = changed q c (same q f) t (set_mark id Unpushed) (λ l. in_marked id Unpushed l refl)
    stays_pulled (Pull t id) q f = pulled q c (longer q f.0) t id (of_other t id c.shared) refl f.1
    stays_pulled (Unpull t id) q f = changed q c (same q f) t (without_local id) (λ l e i is. (from_filter (λ (w : LocalEntry Op). not (w.id == id)) e l i).0)
    stays_pulled (Cmt t) q f = committed q c (lost q f) t (tx t c.opened)
    stays_pulled (Quit t) q f = without q c (lost q f) t
    stays_pulled (Note t) q f = same q f

    -- and where it has none
    pub waits_pulled : (a : Step Op) (q : Pullings) → ListsPull a c.shared p q → KnowsPulled q c
    waits_pulled (Begin t n b) q f = lost q f
    waits_pulled (App t id op) q f = same q f
    waits_pulled (Unapp t id) q f = same q f
    waits_pulled (Push t id) q f = same q f
    waits_pulled (Unpush t id) q f = same q f
    waits_pulled (Pull t id) q f = longer q f.0
    waits_pulled (Unpull t id) q f = same q f
    waits_pulled (Cmt t) q f = lost q f
    waits_pulled (Quit t) q f = lost q f
    waits_pulled (Note t) q f = same q f

    -- what is listed of an open transaction
    pub known_pulled : (t : Name) → p.kept t ≡ true → (source : Name) (x : Tx Op) → tx t c.opened ≡ Some x → IsPulledBut source x.local (p.ids t source)
    known_pulled t kept source x open_is e i is =
        let r = found_tx t c.opened x open_is in
        let b = and_parts (is_mark e.mark Pulled) (e.owner =ⁿ source) is in
        subst (λ (v : Name). In e.id (p.ids t v)) (names-true e.owner source b.1)
        (subst (λ (u : Name). In e.id (p.ids u e.owner)) r.1 (h x r.0 (subst (λ (u : Name). p.kept u ≡ true) (sym r.1) kept) e i b.0))

    -- what is looked at
    module _ {State : Type 0} (O : Object Op State) (s : Sound O c) (t : Name) (y : Tx Op) (open_is : tx t c.opened ≡ Some y) where
      -- The facts looked up in the local log of an open transaction are true of the configuration.
      pub looks_pulled : (q : Pullings) → Looks t y.local p q → KnowsPulled q c
      looks_pulled q f x i kept = elim (f x.name) [
        | inl none ↦ absurd (unkept q x.name kept none)
        | inr (inl same) ↦ λ e there is. subst (λ (w : List ℕ). In e.id w) (sym (same.1 e.owner)) (h x i (sym same.0 ∙ kept) e there is)
        | inr (inr all) ↦ only_one O c s t y open_is (λ (w : Tx Op). HasPulled (q.ids x.name) w.local) all.1 x i (names-true x.name t all.0)
      ]

      -- Facts about pulled entries stay true if a list is trimmed to the ids in the local log.
      pub trims_pulled : (owner : Name) (q : Pullings) → Trims t owner y.local p q → KnowsPulled q c
      trims_pulled owner q f x i kept e there is = elim (f.ids x.name) [
        | inl same ↦ subst (λ (w : List ℕ). In e.id w) (sym (same e.owner)) listed
        | inr here ↦ elim (here.1 e.owner) [
          | inl same ↦ subst (λ (w : List ℕ). In e.id w) (sym same) listed
          | inr trimmed ↦ trimmed.1.all e.id listed (only_one O c s t y open_is (λ (w : Tx Op). In e w.local → stands_in y.local e.id ≡ true) (in_stands y.local e) x i (names-true x.name t here.0) there)
        ]
      ]
        where
          listed : In e.id (p.ids x.name e.owner)
          listed = h x i (sym (f.kept x.name) ∙ kept) e there is

-- at first none are kept
pub none_pulled : {Op : Type 0} (p : Pullings) (c : Config Op) → ((u : Name) → p.kept u ≡ false) → KnowsPulled p c
none_pulled p c none x i kept = absurd (unkept p x.name kept (none x.name))
