-- Two objects for which the laws are false without their premises.
use Rattle.std.specs.Prelude.{◌≡◌, ◌≢◌, ℕ, zero, suc, ◌==◌, Bool, true, false, cond, List, [], ◌∷◌, ◌++◌, map, take, length, Some, None}
use Rattle.std.proofs.Common.{refl, sym, ap, subst, ◌∙◌, arith}
use mathlib.Core.Logic.{inl, inr}
use Rattle.pp_core.specs.declared.call.Style.TheVariants.{Optimistic}
use Rattle.pp_model.specs.Body.{Call}
use Rattle.pp_model.specs.Lists.{In}
use Rattle.pp_model.specs.Names.{Name}
use Rattle.pp_model.specs.Object.{Allowed, AllowedFrom, Item, Reorders, Swaps, ops}
use Rattle.pp_model.specs.Config.{Unpushed, Pushed, Pulled, LocalEntry, SharedEntry, Tx, Config, Step, Begin, App, Push, Pull, Cmt, as_pulled, as_shared, item, first, after_from}
use Rattle.pp_model.specs.Rules.{RunsFrom}
use Rattle.pp_model.specs.Sound.{Sound}
use Rattle.pp_model.proofs.Begin.{empty_sound}
use Rattle.pp_model.proofs.Keeps.{run_keeps}
use Rattle.pp_model.proofs.Trace.{keep_all}
use Rattle.pp_records.specs.Expansions.{expand}
use Rattle.pp_records.specs.Fronts.{Front, new_front}
use Rattle.pp_records.specs.Records.{RunRecord}
use Rattle.pp_records.specs.Records as records
use Rattle.pp_records.specs.Runs.{Standing}
use Rattle.pp_laws_summary.specs.Places.{PlacesPart, PlacesSwap, ops_at}
use Rattle.pp_laws_summary.specs.LocalLogs.{HasSnapshots, Summable}
use Rattle.pp_laws_summary.specs.Summary.{Summary, SummaryGood, summary_of}
use Rattle.pp_laws_summary.specs.Laws.{LocalLogsDecide, SummariesDecide}
use Rattle.pp_laws_summary.specs.Premises.{once, Three, First, Second, Tell, is_first, turning}
use Rattle.pp_laws_summary.proofs.Entries.{same_or_not}
use Rattle.pp_laws_summary.proofs.Parts.{not_eq}
use Rattle.pp_laws_summary.proofs.Relog.{filter_none}

abbrev t : Name
t = []

abbrev u : Name
u = 1 ∷ []

module _ (k : Call) where
  -- no two operations are allowed
  never_two : (s a b : ℕ) (before after : List ℕ) → AllowedFrom (once k) s (before ++ a ∷ b ∷ after) → ⊥
  never_two s a b [] after h = let e : suc s ≡ zero = h.1.0 in omega arith
  never_two s a b (d ∷ before) after h = never_two (suc s) a b before after h.1

  once_swaps : PlacesSwap (once k) (λ a. a)
  once_swaps = record { apart = λ a b n. record { always = λ before after h. absurd (never_two zero a b before after h) } }

  one_zero : suc zero ≢ zero
  one_zero e = omega arith

  abbrev own_zero : LocalEntry ℕ
  own_zero = record { id = 0; owner = t; mark = Unpushed; op = 0 }

  abbrev one_open : Tx ℕ
  one_open = record { name = t; thread = t; body = None; local = own_zero ∷ [] }

  abbrev c : Config ℕ
  c = record { names = t ∷ []; ids = 0 ∷ []; opened = one_open ∷ []; shared = []; done = [] }

  reached : RunsFrom (once k) (first None) (Begin t t None ∷ App t 0 0 ∷ [])
  reached = (((λ i. i), ((λ x i. absurd i), refl)), ((tt, ((λ i. i), (([], tt), ((refl, tt), refl)))), tt))

  is_own_zero : (e : LocalEntry ℕ) → In e (own_zero ∷ []) → e ≡ own_zero
  is_own_zero e i = elim i [ inl h ↦ h | inr h ↦ absurd h ]

  is_one_open : (x : Tx ℕ) → In x (one_open ∷ []) → x ≡ one_open
  is_one_open x i = elim i [ inl h ↦ h | inr h ↦ absurd h ]

  c_is : Summable (once k) (λ a. a) (new_front []) c
  c_is =
      record {
        sound = run_keeps (once k) (Begin t t None ∷ App t 0 0 ∷ []) (first None) (empty_sound (once k)) reached;
        pulls_committed = λ x i e j m.
            let h : In e (own_zero ∷ []) = subst (λ (w : Tx ℕ). In e w.local) (is_one_open x i) j in
            let z : Unpushed ≡ Pulled = ap (λ (w : LocalEntry ℕ). w.mark) (sym (is_own_zero e h)) ∙ m in
            cc;
        snapshots = λ x i. subst (λ (w : Tx ℕ). HasSnapshots (once k) (λ a. a) [] w.local) (sym (is_one_open x i)) (λ o. record { distinct_x = λ p q i e. i; distinct_y = λ p q i e. i; into = λ p i. i; back = λ p i. i; leads = λ k h. h });
        sections = λ x i m e. let z : None ≡ Some m = e in cc;
        fresh = λ u n. refl;
      }

  too_few : LocalLogsDecide Optimistic (once k) (λ a. a) → ⊥
  too_few h =
      let r = (h.good (new_front []) c (records.Op t 1 1) tt c_is).0 (
        one_open,
        refl,
        record {
          new = λ i. elim i [ inl e ↦ one_zero e | inr e ↦ e ];
          begins = ([], tt);
          swaps = λ a g i j. absurd j;
          allowed = (refl, tt);
          pushed = tt;
        },
      ) in
      let e : suc zero ≡ zero = r.0.1.1.1.0.1.0 in
      one_zero e

  -- The object `once` refutes the law over swaps alone.
  pub swaps_insufficient : PlacesSwap (once k) (λ a. a) × (LocalLogsDecide Optimistic (once k) (λ a. a) → ⊥)
  swaps_insufficient = (once_swaps, too_few)

  -- one place
  whole_at : (l : List Three) → ops_at (λ a. zero) zero l ≡ l
  whole_at l = keep_all (λ (a : Three). zero == zero) l (λ a i. refl)

  none_at : (o : ℕ) → zero ≢ o → (l : List Three) → ops_at (λ a. zero) o l ≡ []
  none_at o n l = filter_none (λ (a : Three). zero == o) l (λ a i. not_eq zero o n)

  turning_parts : PlacesPart (turning k) (λ a. zero)
  turning_parts =
      record {
        parts = λ l. (
          (λ h o. elim (same_or_not zero o) [
            | inl e ↦ subst (λ (p : ℕ). Allowed (turning k) (ops_at (λ a. zero) p l)) e (subst (λ (w : List Three). Allowed (turning k) w) (sym (whole_at l)) h)
            | inr n ↦ subst (λ (w : List Three). Allowed (turning k) w) (sym (none_at o n l)) tt
          ]),
          (λ h. subst (λ (w : List Three). Allowed (turning k) w) (whole_at l) (h zero)),
        );
      }

  abbrev own_first : LocalEntry Three
  own_first = record { id = 0; owner = t; mark = Unpushed; op = First }

  abbrev the_second : SharedEntry Three
  the_second = record { id = 1; owner = u; committed = true; op = Second }

  abbrev x1 : Tx Three
  x1 = record { name = t; thread = t; body = None; local = own_first ∷ as_pulled the_second ∷ [] }

  abbrev x2 : Tx Three
  x2 = record { name = t; thread = t; body = None; local = as_pulled the_second ∷ own_first ∷ [] }

  abbrev with_open : Tx Three → Config Three
  with_open x = record {
    names = u ∷ t ∷ [];
    ids = 0 ∷ 1 ∷ [];
    opened = x ∷ [];
    shared = the_second ∷ [];
    done = record { name = u; entries = record { id = 1; op = Second } ∷ [] } ∷ [];
  }

  -- own before pulled, and pulled before own
  abbrev steps1 : List (Step Three)
  steps1 = Begin t t None ∷ Begin u u None ∷ App u 1 Second ∷ App t 0 First ∷ Push u 1 ∷ Cmt u ∷ Pull t 1 ∷ []

  abbrev steps2 : List (Step Three)
  steps2 = Begin t t None ∷ Begin u u None ∷ App u 1 Second ∷ Push u 1 ∷ Cmt u ∷ Pull t 1 ∷ App t 0 First ∷ []

  leads1 : after_from (first None) steps1 ≡ with_open x1
  leads1 = refl

  leads2 : after_from (first None) steps2 ≡ with_open x2
  leads2 = refl

  -- Second moves left over First
  more_may : (l : List Three) → AllowedFrom (turning k) false l → AllowedFrom (turning k) true l
  more_may [] h = tt
  more_may (First ∷ l) h = h
  more_may (Second ∷ l) h = h
  more_may (Tell ∷ l) h = absurd (let z : false ≡ true = h.0 in cc)

  moves : (before : List Three) (s : Bool) (after : List Three) → AllowedFrom (turning k) s (before ++ First ∷ Second ∷ after) → AllowedFrom (turning k) s (before ++ Second ∷ First ∷ after)
  moves [] s after h = (tt, (tt, more_may after h.1.1))
  moves (a ∷ before) s after h = (h.0, moves before (is_first a) after h.1)

  first_second : Swaps (turning k) First Second
  first_second = record { always = λ before after h. moves before false after h }

  u_not_t : u ≡ t → ⊥
  u_not_t e = cc

  begin_u : ((In u (t ∷ []) → ⊥) × ((x : Tx Three) → In x (record { name = t; thread = t; body = None; local = [] } ∷ []) → x.thread ≢ u))
  begin_u = ((λ i. elim i [ inl e ↦ u_not_t e | inr e ↦ e ]), (λ x i. elim i [ inl e ↦ (λ h. u_not_t (sym h ∙ ap (λ (w : Tx Three). w.thread) e)) | inr e ↦ absurd e ]))

  fresh : (i j : ℕ) → i ≢ j → In i (j ∷ []) → ⊥
  fresh i j n h = elim h [ inl e ↦ n e | inr e ↦ e ]

  abbrev u_entry : LocalEntry Three
  u_entry = record { id = 1; owner = u; mark = Pushed; op = Second }

  all_pushed : (e : LocalEntry Three) → In e (u_entry ∷ []) → e.mark ≡ Pushed
  all_pushed e i = elim i [ inl h ↦ ap (λ (w : LocalEntry Three). w.mark) h | inr h ↦ absurd h ]

  none_pulled : (e : LocalEntry Three) → In e (u_entry ∷ []) → e.mark ≡ Pulled → ⊥
  none_pulled e i m = let z : Pushed ≡ Pulled = sym (all_pushed e i) ∙ m in cc

  zero_one : zero ≢ suc zero
  zero_one e = omega arith

  other_id : (e : LocalEntry Three) → In e (own_first ∷ []) → e.id ≢ 1
  other_id e i = elim i [ inl h ↦ (λ n. zero_one (sym (ap (λ (w : LocalEntry Three). w.id) h) ∙ n)) | inr h ↦ absurd h ]

  first_passes : (e : LocalEntry Three) → In e (own_first ∷ []) → Swaps (turning k) e.op Second
  first_passes e i = elim i [ inl h ↦ subst (λ (w : LocalEntry Three). Swaps (turning k) w.op Second) (sym h) first_second | inr h ↦ absurd h ]

  runs1 : RunsFrom (turning k) (first None) steps1
  runs1 = (
    ((λ i. i), ((λ x i. absurd i), refl)),
    (
      (begin_u.0, (begin_u.1, refl)),
      (
        (tt, ((λ i. i), (([], tt), ((tt, tt), refl)))),
        (
          (tt, (fresh 0 1 zero_one, (([], tt), ((tt, tt), refl)))),
          (
            (tt, (tt, ((λ a i m. elim i [ inl h ↦ absurd h.1 | inr h ↦ absurd h ]), ((λ w i. absurd i), ((tt, tt), refl))))),
            (
              (tt, (tt, ((λ e i o. all_pushed e i), ((λ e i m. absurd (none_pulled e i m)), refl)))),
              (
                (tt, (tt, (other_id, ((tt, (tt, tt)), ((λ e i o. first_passes e i), refl))))),
                tt,
              ),
            ),
          ),
        ),
      ),
    ),
  )

  runs2 : RunsFrom (turning k) (first None) steps2
  runs2 = (
    ((λ i. i), ((λ x i. absurd i), refl)),
    (
      (begin_u.0, (begin_u.1, refl)),
      (
        (tt, ((λ i. i), (([], tt), ((tt, tt), refl)))),
        (
          (tt, (tt, ((λ a i m. elim i [ inl h ↦ absurd h.1 | inr h ↦ absurd h ]), ((λ w i. absurd i), ((tt, tt), refl))))),
          (
            (tt, (tt, ((λ e i o. all_pushed e i), ((λ e i m. absurd (none_pulled e i m)), refl)))),
            (
              (tt, (tt, ((λ e i. absurd i), ((tt, tt), ((λ e i o. absurd i), refl))))),
              (
                (tt, (fresh 0 1 zero_one, (([], tt), ((tt, (tt, tt)), refl)))),
                tt,
              ),
            ),
          ),
        ),
      ),
    ),
  )

  abbrev second_item : Item Three
  second_item = record { id = 1; op = Second }

  one_item : (z : Bool) → Reorders (turning k) (cond z (second_item ∷ []) []) (cond z (second_item ∷ []) [])
  one_item true =
      record {
        distinct_x = λ p q i e. elim i [ inl h ↦ h.1 | inr h ↦ h ];
        distinct_y = λ p q i e. elim i [ inl h ↦ h.1 | inr h ↦ h ];
        into = λ p i. i;
        back = λ p i. i;
        turned = λ p q i j. elim i [ inl h ↦ absurd h.1 | inr h ↦ absurd h ];
      }
  one_item false = record { distinct_x = λ p q i e. i; distinct_y = λ p q i e. i; into = λ p i. i; back = λ p i. i; turned = λ p q i j. absurd i }

  pulled_or : (z : Bool) → Reorders (turning k) (map item (cond z (as_pulled the_second ∷ []) [])) (take (length (cond z (as_pulled the_second ∷ []) [])) (cond z (second_item ∷ []) []))
  pulled_or true = one_item true
  pulled_or false = one_item false

  -- The operations of the snapshot. What may follow the log may follow them and then the own operation.
  abbrev snapshot_ops : Bool → List Three
  snapshot_ops z = ops (take (length (cond z (as_pulled the_second ∷ []) [])) (cond z (second_item ∷ []) []))

  follows1 : (z : Bool) (j : List Three) → Allowed (turning k) (cond z (First ∷ cond z (Second ∷ []) []) (cond z (Second ∷ []) []) ++ j) → Allowed (turning k) (snapshot_ops z ++ (cond z (First ∷ []) [] ++ j))
  follows1 true j h = first_second.always [] j h
  follows1 false j h = h

  follows2 : (z : Bool) (j : List Three) → Allowed (turning k) (cond z (Second ∷ cond z (First ∷ []) []) (cond z (First ∷ []) []) ++ j) → Allowed (turning k) (snapshot_ops z ++ (cond z (First ∷ []) [] ++ j))
  follows2 true j h = h
  follows2 false j h = h

  abbrev p_of : Tx Three → Standing Front Three
  p_of x = record { front = new_front []; config = with_open x }

  is_summable : (x : Tx Three) (ss : List (Step Three)) → RunsFrom (turning k) (first None) ss → after_from (first None) ss ≡ with_open x →
      ((e : LocalEntry Three) → In e x.local → e.mark ≡ Pulled → e ≡ as_pulled the_second) → HasSnapshots (turning k) (λ a. zero) (with_open x).done x.local →
      Summable (turning k) (λ a. zero) (new_front []) (with_open x)
  is_summable x ss r e only h =
      record {
        sound = subst (λ (w : Config Three). Sound (turning k) w) e (run_keeps (turning k) ss (first None) (empty_sound (turning k)) r);
        pulls_committed = λ y i a j m. elim i [
          | inl z ↦ inl (ap (λ (w : LocalEntry Three). as_shared w.owner true (item w)) (only a (subst (λ (w : Tx Three). In a w.local) z j) m))
          | inr z ↦ absurd z
        ];
        snapshots = λ y i. elim i [ inl z ↦ subst (λ (w : Tx Three). HasSnapshots (turning k) (λ a. zero) (with_open x).done w.local) (sym z) h | inr z ↦ absurd z ];
        sections = λ y i m g. let z : None ≡ Some m = g in cc;
        fresh = λ u n. refl;
      }

  not_first : (e : LocalEntry Three) → e ≡ own_first → e.mark ≡ Pulled → ⊥
  not_first e h m = let z : Unpushed ≡ Pulled = ap (λ (w : LocalEntry Three). w.mark) (sym h) ∙ m in cc

  is1 : Summable (turning k) (λ a. zero) (new_front []) (with_open x1)
  is1 = is_summable x1 steps1 runs1 leads1
      (λ e i m. elim i [ inl h ↦ absurd (not_first e h m) | inr j ↦ elim j [ inl h ↦ h | inr h ↦ absurd h ] ])
      (λ o. let r = pulled_or (zero == o) in record { distinct_x = r.distinct_x; distinct_y = r.distinct_y; into = r.into; back = r.back; leads = follows1 (zero == o) })

  is2 : Summable (turning k) (λ a. zero) (new_front []) (with_open x2)
  is2 = is_summable x2 steps2 runs2 leads2
      (λ e i m. elim i [ inl h ↦ h | inr j ↦ elim j [ inl h ↦ absurd (not_first e h m) | inr h ↦ absurd h ] ])
      (λ o. let r = pulled_or (zero == o) in record { distinct_x = r.distinct_x; distinct_y = r.distinct_y; into = r.into; back = r.back; leads = follows2 (zero == o) })

  same : summary_of (λ a. zero) (p_of x1) ≡ summary_of (λ a. zero) (p_of x2)
  same = refl

  two_zero : suc (suc zero) ≢ zero
  two_zero e = omega arith

  two_one : suc (suc zero) ≢ suc zero
  two_one e = omega arith

  abbrev tells : RunRecord Three
  tells = records.Op t 2 Tell

  goes2 : RunsFrom (turning k) (with_open x2) (expand (λ a. zero) Optimistic (new_front []) (with_open x2) tells)
  goes2 = ((tt, ((λ i. elim i [ inl e ↦ two_zero e | inr e ↦ fresh 2 1 two_one e ]), (([], tt), ((tt, (tt, (refl, tt))), refl)))), tt)

  stops1 : RunsFrom (turning k) (with_open x1) (expand (λ a. zero) Optimistic (new_front []) (with_open x1) tells) → ⊥
  stops1 r = let w : false ≡ true = r.0.1.1.1.0.1.1.0 in cc

  refutes : SummariesDecide Optimistic (turning k) (λ a. zero) → ⊥
  refutes h =
      let q = h.records [] in
      stops1 ((q.good (p_of x1) tells tt is1).0
      (subst (λ (B : Summary Three). SummaryGood Optimistic (turning k) (λ a. zero) B tells) (sym same) ((q.good (p_of x2) tells tt is2).1 goes2)))

  -- The object `turning` refutes the law over parts alone.
  pub summaries_insufficient : PlacesPart (turning k) (λ a. zero) × (SummariesDecide Optimistic (turning k) (λ a. zero) → ⊥)
  summaries_insufficient = (turning_parts, refutes)
