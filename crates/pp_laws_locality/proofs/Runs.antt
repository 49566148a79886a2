-- A run is accepted exactly if its bookkeeping is right and its restriction to each object is accepted. It is enough to test the objects
-- that the run is on. A start meets its criteria exactly if its ids are distinct and its restriction to each object does. If a step is
-- rejected by a criterion that is not of the bookkeeping, the restriction to some object is rejected on the same line, at the same step, by
-- the same criterion. No restriction is rejected at an earlier record.
use Rattle.std.specs.Prelude.{◌≡◌, ◌≢◌, ◌↔◌, ◌⊎◌, ◌==◌, Bool, true, false, cond, ℕ, List, [], ◌∷◌, filter, map, Option, None, Some}
use Rattle.std.proofs.Common.{refl, sym, ap, subst, ◌∙◌}
use mathlib.Core.Logic.{inl, inr}
use Rattle.pp_core.specs.declared.call.Kind.{Kind}
use Rattle.pp_core.specs.declared.call.Style.{Style}
use Rattle.pp_core.specs.declared.call.Style.TheVariants.{Rules, Boosted, Optimistic, Hardware, Dependent}
use Rattle.pp_model.specs.Config.{App, Begin, Cmt, Note, Pull, Push, Quit, SharedEntry, Start, Step, Unapp, Unpull, Unpush, as_shared, first}
use Rattle.pp_model.specs.Lists.{Each, In}
use Rattle.pp_model.specs.Object.{Allowed, Item, Object, TellsStates, ops}
use Rattle.pp_model.specs.Rules.{StartMeets}
use Rattle.pp_model.proofs.Lists.{before_from_filter, from_filter, from_map, in_map}
use Rattle.pp_model.proofs.Verdict.{accepted_iff}
use Rattle.pp_records.specs.Expansions.{HasStep, IsOfStyle}
use Rattle.pp_records.specs.Fronts.{Front}
use Rattle.pp_records.specs.Records.{RunRecord}
use Rattle.pp_records.specs.Records as records
use Rattle.pp_records.specs.Runs.{Records, Standing, after_record, bare, joined_steps, outset}
use Rattle.pp_records.specs.Styles.{translation}
use Rattle.pp_laws_summary.specs.DecidedRuns.{GoodRuns}
use Rattle.pp_laws_summary.specs.Laws.{summing}
use Rattle.pp_laws_summary.specs.LocalLogs.{HasSummary, Summable}
use Rattle.pp_laws_summary.specs.Places.{PlacesPart, ops_at}
use Rattle.pp_laws_summary.specs.Summary.{Summary, SummaryGood, next_summary, summary_of}
use Rattle.pp_laws_summary.proofs.LocalRecords.{keeps}
use Rattle.pp_laws_summary.proofs.Entries.{same_or_not}
use Rattle.pp_laws_summary.proofs.Parts.{not_eq}
use Rattle.pp_laws_summary.proofs.Relog.{filter_map}
use Rattle.pp_laws_summary.proofs.SummaryRuns.{decided}
use Rattle.pp_laws_locality.specs.Bookkeeping.{Bookkeeping, RunBookkeeping, StartBookkeeping}
use Rattle.pp_laws_locality.specs.Locality.{HasBookkeeping, IsAccepted}
use Rattle.pp_laws_locality.specs.Restricted.{IsOn, StartIsOn, restricted, restricted_records, restricted_start, with_record, without_body}
use Rattle.pp_laws_locality.proofs.Parts.{items_at, summary_at, summary_same}
use Rattle.pp_laws_locality.proofs.PartRecords.{RestrictedGood, fits, good_back, has_bookkeeping, known_after, restriction_good}
use Rattle.pp_laws_locality.proofs.PartSteps.{IsFit, after_restricted, ids_after, restricted_ends}
use Rattle.pp_laws_locality.proofs.Quiet.{IsElsewhere, IsQuiet, quiet_good, stays_quiet}

-- one more record, if there is one
abbrev pub with_one : {R : Type 0} → Option R → List R → List R
with_one None l = l
with_one (Some r) l = r ∷ l

-- the restriction of records, without their lines
abbrev pub restricted_list : {Op : Type 0} → (Op → ℕ) → ℕ → List (RunRecord Op) → List (RunRecord Op)
restricted_list place o [] = []
restricted_list place o (r ∷ rs) = with_one (restricted place o r) (restricted_list place o rs)

-- They are the records of the restriction.
pub bare_restricted : {Op : Type 0} (place : Op → ℕ) (o : ℕ) (rs : Records (RunRecord Op)) → bare (restricted_records place o rs) ≡ restricted_list place o (bare rs)
bare_restricted place o [] = refl
bare_restricted {Op} place o (r ∷ rs) = by (restricted place o r.what) (bare_restricted place o rs)
  where
    by : (w : Option (RunRecord Op)) → bare (restricted_records place o rs) ≡ restricted_list place o (bare rs) → bare (with_record r.line w (restricted_records place o rs)) ≡ with_one w (restricted_list place o (bare rs))
    by None e = e
    by (Some s) e = ap (λ (l : List (RunRecord Op)). s ∷ l) e

-- A restricted record is one of the style.
begin_of : {Op : Type 0} (style : Style) (step : Step Op) → HasStep style step → HasStep style (without_body step)
begin_of Rules (Begin t p b) s = tt
begin_of Boosted (Begin t p b) s = tt
begin_of Optimistic (Begin t p b) s = tt
begin_of Hardware (Begin t p b) s = tt
begin_of Dependent (Begin t p b) s = tt
begin_of style (App t id op) s = s
begin_of style (Unapp t id) s = s
begin_of style (Push t id) s = s
begin_of style (Unpush t id) s = s
begin_of style (Pull t id) s = s
begin_of style (Unpull t id) s = s
begin_of style (Cmt t) s = s
begin_of style (Quit t) s = s
begin_of style (Note t) s = s

module _ {Op : Type 0} (place : Op → ℕ) (o : ℕ) (style : Style) where
  -- the restriction of a record, if it stays, has the style
  abbrev pub Stays : Option (RunRecord Op) → Type 0
  Stays None = Unit {0}
  Stays (Some r) = IsOfStyle style r

  -- A record of a style, restricted to an object, is of that style if it stays.
  pub stays : (r : RunRecord Op) → IsOfStyle style r → Stays (restricted place o r)
  stays (records.Plain step) s = begin_of style step s
  stays (records.Op t id op) s = elim (place op == o) as (λ b. Stays (cond b (Some (records.Op t id op)) None)) [ true ↦ s | false ↦ tt ]
  stays (records.Commit t) s = s
  stays (records.Abort t) s = s
  stays (records.Retry t) s = s
  stays (records.Refresh t p) s = elim (p == o) as (λ b. Stays (cond b (Some (records.Refresh t p)) None)) [ true ↦ s | false ↦ tt ]
  stays (records.XBegin t) s = s
  stays (records.XEnd t) s = s
  stays (records.XAbort t) s = s
  stays (records.Depend t source) s = s
  stays (records.Publish t) s = s
  stays (records.DropSource t source) s = s

  -- Restricted records are those of the style.
  pub all_stay : (rs : List (RunRecord Op)) → Each (IsOfStyle style) rs → Each (IsOfStyle style) (restricted_list place o rs)
  all_stay [] s = tt
  all_stay (r ∷ rs) s = by (restricted place o r) (stays r s.0) (all_stay rs s.1)
    where
      by : (w : Option (RunRecord Op)) → Stays w → Each (IsOfStyle style) (restricted_list place o rs) → Each (IsOfStyle style) (with_one w (restricted_list place o rs))
      by None h k = k
      by (Some q) h k = (h, k)

-- the ids of the start on the object
abbrev pub start_ids : {Op : Type 0} → (Op → ℕ) → ℕ → Option (Start Op) → List ℕ
start_ids place o None = []
start_ids place o (Some z) = map (λ p. p.id) (items_at place o z.items)

-- The restricted start is the start on the object.
pub outset_at : {Op : Type 0} (place : Op → ℕ) (o : ℕ) (style : Style) (ks : List Kind) (h : Option (Start Op)) →
    summary_of place (outset (translation place style ks) (restricted_start place o h)) ≡ summary_at place o (start_ids place o h) (summary_of place (outset (translation place style ks) h))
outset_at place o style ks None = refl
outset_at {Op} place o style ks (Some z) =
    let B = summary_of place (outset (translation place style ks) (restricted_start place o (Some z))) in
    summary_same B.names B.ids [] [] B.shared (filter (λ g. place g.op == o) (map (as_shared z.tx true) z.items)) B.done B.done B.kinds
    refl (sym (filter_map (λ (g : SharedEntry Op). place g.op == o) (as_shared z.tx true) z.items)) refl

-- Its ids are known.
pub start_known : {Op : Type 0} (place : Op → ℕ) (o : ℕ) (h : Option (Start Op)) (i : ℕ) → In i (start_ids place o h) → In i (first h).ids
start_known place o None i k = k
start_known {Op} place o (Some z) i k =
    let m = from_map (λ (p : Item Op). p.id) i (items_at place o z.items) k in
    subst (λ (j : ℕ). In j (map (λ (p : Item Op). p.id) z.items)) (sym m.2) (in_map (λ (p : Item Op). p.id) m.0 z.items (from_filter (λ (p : Item Op). place p.op == o) m.0 z.items m.1).0)

-- A start meets its criteria exactly if its ids are distinct and its restriction to each object does.
pub start_local : {Op State : Type 0} (O : Object Op State) (place : Op → ℕ) → PlacesPart O place → (h : Option (Start Op)) → StartMeets O h ↔ (StartBookkeeping h × ((o : ℕ) → StartMeets O (restricted_start place o h)))
start_local O place part None = ((λ k. (tt, (λ o. k))), (λ k. refl))
start_local {Op} O place part (Some z) = (
  (λ k. (
    k.0,
    (λ o. (
      (λ p q b e. k.0 p q (before_from_filter (λ (w : Item Op). place w.op == o) p q z.items b) e),
      (subst (λ (w : List Op). Allowed O w) (at o) ((part.parts (ops z.items)).0 k.1.0 o), refl),
    )),
  )),
  (λ k. (k.0, ((part.parts (ops z.items)).1 (λ o. subst (λ (w : List Op). Allowed O w) (sym (at o)) (k.1 o).1.0), refl))),
)
  where
    at : (o : ℕ) → ops_at place o (ops z.items) ≡ ops (items_at place o z.items)
    at o = filter_map (λ (a : Op). place a == o) (λ (p : Item Op). p.op) z.items

-- A number is in a list, or not.
in_or_not : (o : ℕ) (l : List ℕ) → In o l ⊎ (In o l → ⊥)
in_or_not o [] = inr (λ h. h)
in_or_not o (j ∷ l) = elim (same_or_not o j) [
  | inl e ↦ inl (inl e)
  | inr n ↦ elim (in_or_not o l) [ inl k ↦ inl (inr k) | inr k ↦ inr (λ h. elim h [ inl e ↦ n e | inr i ↦ k i ]) ]
]

module _ {Op : Type 0} (place : Op → ℕ) (objects : List ℕ) (o : ℕ) (out : In o objects → ⊥) where
  apart : (p : ℕ) → In p objects → p ≢ o
  apart p i e = out (subst (λ (q : ℕ). In q objects) e i)

  elsewhere : (r : RunRecord Op) → IsOn place objects r → IsElsewhere place o r
  elsewhere (records.Plain step) h = tt
  elsewhere (records.Op t id op) h = apart (place op) h
  elsewhere (records.Commit t) h = tt
  elsewhere (records.Abort t) h = tt
  elsewhere (records.Retry t) h = tt
  elsewhere (records.Refresh t p) h = apart p h
  elsewhere (records.XBegin t) h = tt
  elsewhere (records.XEnd t) h = tt
  elsewhere (records.XAbort t) h = tt
  elsewhere (records.Depend t source) h = tt
  elsewhere (records.Publish t) h = tt
  elsewhere (records.DropSource t source) h = tt

  -- records on these objects are elsewhere
  all_elsewhere : (rs : List (RunRecord Op)) → Each (IsOn place objects) rs → Each (IsElsewhere place o) rs
  all_elsewhere [] h = tt
  all_elsewhere (r ∷ rs) h = (elsewhere r h.0, all_elsewhere rs h.1)

  -- so are items
  no_items : (l : List (Item Op)) → Each (λ p. In (place p.op) objects) l → items_at place o l ≡ []
  no_items [] h = refl
  no_items (p ∷ l) h = ap (λ (b : Bool). cond b (p ∷ items_at place o l) (items_at place o l)) (not_eq (place p.op) o (apart (place p.op) h.0)) ∙ no_items l h.1

-- a start that is elsewhere
start_elsewhere : {Op State : Type 0} (O : Object Op State) (place : Op → ℕ) (objects : List ℕ) (o : ℕ) → (In o objects → ⊥) → (h : Option (Start Op)) → StartIsOn place objects h → StartMeets O (restricted_start place o h)
start_elsewhere O place objects o out None on = refl
start_elsewhere {Op} O place objects o out (Some z) on =
    subst (λ (w : List (Item Op)). StartMeets O (Some (record { tx = z.tx; items = w }))) (sym (no_items place objects o out z.items on)) ((λ p q b e. absurd b), (tt, refl))

quiet_start : {Op : Type 0} (place : Op → ℕ) (style : Style) (ks : List Kind) (objects : List ℕ) (o : ℕ) → (In o objects → ⊥) → (h : Option (Start Op)) → StartIsOn place objects h →
    IsQuiet (summary_at place o (start_ids place o h) (summary_of place (outset (translation place style ks) h)))
quiet_start place style ks objects o out None on = record { none = λ y i. absurd i; empty = refl }
quiet_start {Op} place style ks objects o out (Some z) on =
    record {
      none = λ y i. absurd i;
      empty = filter_map (λ (g : SharedEntry Op). place g.op == o) (as_shared z.tx true) z.items ∙ ap (λ (w : List (Item Op)). map (as_shared z.tx true) w) (no_items place objects o out z.items on);
    }

module _ {Op State : Type 0} (style : Style) (has : HasSummary style) (O : Object Op State) (place : Op → ℕ) (part : PlacesPart O place) (tells : TellsStates O) (ks : List Kind) where
  abbrev Good : Summary Op → List (RunRecord Op) → Type 0
  Good B rs = GoodRuns (summing style O place) B rs

  -- the records that are good on the object
  one_good : (C : Summary Op) (w : Option (RunRecord Op)) (l : List (RunRecord Op)) → Good C (with_one w l) ↔ (RestrictedGood style O place C w × Good (after_restricted place style C w) l)
  one_good C None l = ((λ h. (tt, h)), (λ h. h.1))
  one_good C (Some r) l = ((λ h. h), (λ h. h))

  -- the bookkeeping is right, and each restriction is good
  abbrev Locals : Summary Op → List (RunRecord Op) → Type 0
  Locals B rs =
      RunBookkeeping style O place B rs
      × ((o : ℕ) (js : List ℕ) → ((i : ℕ) → In i js → In i B.ids) → Good (summary_at place o js B) (restricted_list place o rs))

  good_locals : (rs : List (RunRecord Op)) (p : Standing Front Op) → Each (IsOfStyle style) rs → Summable O place p.front p.config → Good (summary_of place p) rs → Locals (summary_of place p) rs
  good_locals [] p s b g = (tt, (λ o js known. tt))
  good_locals (r ∷ rs) p s b g =
      let B = summary_of place p in
      let T = translation place style ks in
      let q = (decided style has O place part tells).records ks in
      let step = q.step p r s.0 b g.0 in
      let k : Locals (next_summary place style B r) rs = subst (λ (Z : Summary Op). Locals Z rs) step
      (good_locals rs (after_record T p r) s.1 (q.kept p r s.0 b g.0) (subst (λ (Z : Summary Op). Good Z rs) (sym step) g.1)) in (
        (has_bookkeeping style O place B r g.0, k.0),
        (λ o js known. (one_good (summary_at place o js B) (restricted place o r) (restricted_list place o rs)).1 (
          restriction_good style has O place part B o js known r g.0,
          subst (λ (Z : Summary Op). Good Z (restricted_list place o rs)) (sym (restricted_ends O place style B (fits O place p.front p.config b) o js r))
              (k.1 o (ids_after place o js r) (known_after place style o js B r known)),
        )),
      )

  -- The restriction is good, or the records are elsewhere.
  abbrev Part : Summary Op → ℕ → List ℕ → List (RunRecord Op) → Type 0
  Part B o js rs = Good (summary_at place o js B) (restricted_list place o rs) ⊎ (IsQuiet (summary_at place o js B) × Each (IsElsewhere place o) rs)

  part_now : (B : Summary Op) (o : ℕ) (js : List ℕ) → ((i : ℕ) → In i js → In i B.ids) → (r : RunRecord Op) (rs : List (RunRecord Op)) → Bookkeeping O B r → Part B o js (r ∷ rs) →
      RestrictedGood style O place (summary_at place o js B) (restricted place o r)
  part_now B o js known r rs book (inl g) = ((one_good (summary_at place o js B) (restricted place o r) (restricted_list place o rs)).0 g).0
  part_now B o js known r rs book (inr q) = quiet_good style has O place part B o js known q.0 r q.1.0 book

  part_next : (B : Summary Op) → IsFit O place B → (o : ℕ) (js : List ℕ) (r : RunRecord Op) (rs : List (RunRecord Op)) → Part B o js (r ∷ rs) → Part (next_summary place style B r) o (ids_after place o js r) rs
  part_next B fit o js r rs (inl g) = inl (subst (λ (Z : Summary Op). Good Z (restricted_list place o rs)) (restricted_ends O place style B fit o js r) ((one_good (summary_at place o js B) (restricted place o r) (restricted_list place o rs)).0 g).1)
  part_next B fit o js r rs (inr q) = inr (subst (λ (Z : Summary Op). IsQuiet Z) (restricted_ends O place style B fit o js r) (stays_quiet (summary_at place o js B) q.0 place style o r q.1.0), q.1.1)

  locals_good : (rs : List (RunRecord Op)) (p : Standing Front Op) → Each (IsOfStyle style) rs → Summable O place p.front p.config → RunBookkeeping style O place (summary_of place p) rs → (js : ℕ → List ℕ) →
      ((o i : ℕ) → In i (js o) → In i (summary_of place p).ids) → ((o : ℕ) → Part (summary_of place p) o (js o) rs) → Good (summary_of place p) rs
  locals_good [] p s b book js known g = tt
  locals_good (r ∷ rs) p s b book js known g =
      let B = summary_of place p in
      let T = translation place style ks in
      let q = (decided style has O place part tells).records ks in
      let fit = fits O place p.front p.config b in
      let now : SummaryGood style O place B r = good_back style has O place part B fit js r book.0 (λ o. part_now B o (js o) (known o) r rs book.0 (g o)) in
      let step = q.step p r s.0 b now in (
        now,
        subst (λ (Z : Summary Op). Good Z rs) step
            (locals_good rs (after_record T p r) s.1 (q.kept p r s.0 b now) (subst (λ (Z : Summary Op). RunBookkeeping style O place Z rs) (sym step) book.1) (λ o. ids_after place o (js o) r)
            (λ o i k. subst (λ (Z : Summary Op). In i Z.ids) (sym step) (known_after place style o (js o) B r (known o) i k))
            (λ o. subst (λ (Z : Summary Op). Part Z o (ids_after place o (js o) r) rs) (sym step) (part_next B fit o (js o) r rs (g o)))),
      )

  module _ (h : Option (Start Op)) (rs : Records (RunRecord Op)) (s : Each (IsOfStyle style) (bare rs)) where
    abbrev B : Summary Op
    B = summary_of place (outset (translation place style ks) h)

    -- the summaries decide a restriction
    part_decided : (o : ℕ) → StartMeets O (restricted_start place o h) →
        Good (summary_at place o (start_ids place o h) B) (restricted_list place o (bare rs)) ↔ IsAccepted style O place ks (restricted_start place o h) (restricted_records place o rs)
    part_decided o m =
        let k = (decided style has O place part tells).accepted ks (restricted_start place o h) (restricted_records place o rs)
        (subst (λ (l : List (RunRecord Op)). Each (IsOfStyle style) l) (sym (bare_restricted place o rs)) (all_stay place o style (bare rs) s)) m in (
          (λ g. k.0 (subst (λ (l : List (RunRecord Op)). Good (summary_of place (outset (translation place style ks) (restricted_start place o h))) l) (sym (bare_restricted place o rs))
              (subst (λ (Z : Summary Op). Good Z (restricted_list place o (bare rs))) (sym (outset_at place o style ks h)) g))),
          (λ a. subst (λ (Z : Summary Op). Good Z (restricted_list place o (bare rs))) (outset_at place o style ks h)
              (subst (λ (l : List (RunRecord Op)). Good (summary_of place (outset (translation place style ks) (restricted_start place o h))) l) (bare_restricted place o rs) (k.1 a))),
        )

    start_of : (g : Option (Start Op)) (ls : Records (RunRecord Op)) → IsAccepted style O place ks g ls → StartMeets O g
    start_of g ls a = ((accepted_iff O g (bare (joined_steps (translation place style ks) (outset (translation place style ks) g) ls))).0 a).0

    parts_accepted : IsAccepted style O place ks h rs → HasBookkeeping style O place ks h rs × ((o : ℕ) → IsAccepted style O place ks (restricted_start place o h) (restricted_records place o rs))
    parts_accepted a =
        let m = start_of h rs a in
        let b = (keeps style has O place part).start ks h m in
        let q = (start_local O place part h).0 m in
        let k = good_locals (bare rs) (outset (translation place style ks) h) s b (((decided style has O place part tells).accepted ks h rs s m).1 a) in (
          (q.0, k.0),
          (λ o. (part_decided o (q.1 o)).0 (k.1 o (start_ids place o h) (start_known place o h))),
        )

    -- the whole from what is known of each object
    from_parts : HasBookkeeping style O place ks h rs → ((o : ℕ) → StartMeets O (restricted_start place o h)) → ((o : ℕ) → Part B o (start_ids place o h) (bare rs)) → IsAccepted style O place ks h rs
    from_parts book starts g =
        let m = (start_local O place part h).1 (book.0, starts) in
        let b = (keeps style has O place part).start ks h m in
        ((decided style has O place part tells).accepted ks h rs s m).0
        (locals_good (bare rs) (outset (translation place style ks) h) s b book.1 (λ o. start_ids place o h) (λ o. start_known place o h) g)

    whole_accepted : HasBookkeeping style O place ks h rs × ((o : ℕ) → IsAccepted style O place ks (restricted_start place o h) (restricted_records place o rs)) → IsAccepted style O place ks h rs
    whole_accepted k =
        let starts = λ (o : ℕ). start_of (restricted_start place o h) (restricted_records place o rs) (k.1 o) in
        from_parts k.0 starts (λ o. inl ((part_decided o (starts o)).1 (k.1 o)))

    -- It is enough to test the objects that the run is on.
    pub enough_objects : (objects : List ℕ) → StartIsOn place objects h → Each (IsOn place objects) (bare rs) → HasBookkeeping style O place ks h rs →
        ((o : ℕ) → In o objects → IsAccepted style O place ks (restricted_start place o h) (restricted_records place o rs)) → IsAccepted style O place ks h rs
    enough_objects objects start on book g = from_parts book starts parts
      where
        starts : (o : ℕ) → StartMeets O (restricted_start place o h)
        starts o = elim (in_or_not o objects) [
          | inl i ↦ start_of (restricted_start place o h) (restricted_records place o rs) (g o i)
          | inr k ↦ start_elsewhere O place objects o k h start
        ]

        parts : (o : ℕ) → Part B o (start_ids place o h) (bare rs)
        parts o = elim (in_or_not o objects) [
          | inl i ↦ inl ((part_decided o (starts o)).1 (g o i))
          | inr k ↦ inr (quiet_start place style ks objects o k h start, all_elsewhere place objects o k (bare rs) on)
        ]

  -- The runs of the three styles are local.
  pub accepted_local : (h : Option (Start Op)) (rs : Records (RunRecord Op)) → Each (IsOfStyle style) (bare rs) →
      IsAccepted style O place ks h rs ↔ (HasBookkeeping style O place ks h rs × ((o : ℕ) → IsAccepted style O place ks (restricted_start place o h) (restricted_records place o rs)))
  accepted_local h rs s = (parts_accepted h rs s, whole_accepted h rs s)
