-- The summary counts the steps of each record.
use Rattle.std.specs.Prelude.{◌≡◌, ◌≢◌, ◌≤◌, ◌+◌, ◌==◌, ◌&&◌, ℕ, suc, Bool, true, false, cond, List, [], ◌∷◌, ◌++◌, drop, filter, length, map, take, Option, None, Some}
use Rattle.std.proofs.Common.{refl, sym, ap, subst, ◌∙◌, arith, length-append}
use Rattle.std.proofs.lemmas.List.{length-map, take-append-drop}
use Rattle.std.proofs.lemmas.List.Elements.{filter-append}
use Rattle.std.proofs.lemmas.Bool.{and_parts}
use mathlib.Core.Path.{fun_ext}
use Rattle.pp_core.specs.declared.call.Kind.{Kind}
use Rattle.pp_core.specs.declared.call.Style.{Style}
use Rattle.pp_core.specs.declared.call.Style.TheVariants.{Rules, Boosted, Optimistic, Hardware, Dependent}
use Rattle.pp_model.specs.Lists.{In, Before, Each}
use Rattle.pp_model.specs.Names.{Name}
use Rattle.pp_model.specs.Object.{Object, Item, HasDistinctIds, TellsStates}
use Rattle.pp_model.specs.Config.{Mark, Unpushed, Pushed, Pulled, is_own, is_mark, LocalEntry, SharedEntry, Tx, Config, Step, App, Push, Pull, Cmt, Quit, Note, item, own, as_pulled, tx}
use Rattle.pp_model.specs.Serial.{has_id}
use Rattle.pp_model.specs.Sound.{Sound, serial_items}
use Rattle.pp_model.proofs.Lengths.{no_longer}
use Rattle.pp_model.proofs.Lists.{in_left, in_map, from_map, in_filter, from_filter, before_left, before_from_map, before_from_filter, by_key}
use Rattle.pp_model.proofs.Logs.{found_tx, is_mark-true}
use Rattle.pp_model.proofs.Serial.{ordered, reorders}
use Rattle.pp_records.specs.Expansions.{IsOfStyle, expand, steps_of_open, op_steps, commit_steps, pushall, refresh, back, taken_out, taken_at, touches}
use Rattle.pp_records.specs.Fronts.{Front, mark_of}
use Rattle.pp_records.specs.Records.{RunRecord}
use Rattle.pp_records.specs.Runs.{Records, Standing, bare, joined_steps, after_record, on_line, steps_at}
use Rattle.pp_records.specs.Styles.{translation}
use Rattle.pp_laws_summary.specs.Counts.{missing_count, pulled_count, applied_count, op_count, commit_count, own_count, first_ids, seen_items, back_count, section_count, open_count, record_steps, run_steps, CountsSteps}
use Rattle.pp_laws_summary.specs.DecidedRuns.{GoodRuns}
use Rattle.pp_laws_summary.specs.Laws.{summing}
use Rattle.pp_laws_summary.specs.LocalLogs.{HasSummary, Summable, HasSnapshots, push_mode, pulled_before, serial_at, unpushed}
use Rattle.pp_laws_summary.specs.Places.{PlacesPart}
use Rattle.pp_laws_summary.specs.Summary.{Held, OpenSummary, Summary, held_of, open_named, open_summary, own_held, seen_held, summary_mode, summary_of, next_summary}
use Rattle.pp_laws_summary.specs.Views.{missing_at, pulled_at, seen_at}
use Rattle.pp_laws_summary.proofs.AtPlace.{is_pulled_at, to_pulled}
use Rattle.pp_laws_summary.proofs.Entries.{has_in, in_has}
use Rattle.pp_laws_summary.proofs.LocalRecords.{by_record}
use Rattle.pp_laws_summary.proofs.Snapshots as snaps
use Rattle.pp_laws_summary.proofs.Steps as steps
use Rattle.pp_laws_summary.proofs.SummaryRecords.{to_open, open_named_is, held_parts}
use Rattle.pp_laws_summary.proofs.SummaryRuns.{decides_records}
use Rattle.pp_laws_summary.proofs.SummaryViews.{Match, match_of, own_unpushed, own_drop}

-- the pulled entries
abbrev pub pulled_of : {Op : Type 0} → List (LocalEntry Op) → List (LocalEntry Op)
pulled_of l = filter (λ e. is_mark e.mark Pulled) l

-- How many steps take a log back: one for each entry, and one more for each pushed one.
taken_count : {Op : Type 0} (t : Name) (l : List (LocalEntry Op)) → length (taken_out t l) ≡ own_count (own l) + length (pulled_of l)
taken_count t [] = refl
taken_count {Op} t (e ∷ l) = by e.mark refl (taken_count t l)
  where
    one : (m : Mark) → length (taken_out t l) ≡ own_count (own l) + length (pulled_of l) →
        length (taken_out t l) + length (taken_at {Op = Op} t e.id m)
        ≡ (length (cond (is_own m) (e ∷ own l) (own l)) + length (map (λ (w : LocalEntry Op). w.id) (cond (is_mark m Pushed && is_own m) (e ∷ filter (λ w. is_mark w.mark Pushed) (own l)) (filter (λ w. is_mark w.mark Pushed) (own l))))) + length (cond (is_mark m Pulled) (e ∷ pulled_of l) (pulled_of l))
    one Unpushed k = omega arith
    one Pushed k = omega arith
    one Pulled k = omega arith

    pushed_first : (m : Mark) → e.mark ≡ m → filter (λ (w : LocalEntry Op). is_mark w.mark Pushed) (cond (is_own m) (e ∷ own l) (own l)) ≡ cond (is_mark m Pushed && is_own m) (e ∷ filter (λ w. is_mark w.mark Pushed) (own l)) (filter (λ w. is_mark w.mark Pushed) (own l))
    pushed_first Unpushed h = ap (λ (w : Mark). cond (is_mark w Pushed) (e ∷ filter (λ (z : LocalEntry Op). is_mark z.mark Pushed) (own l)) (filter (λ z. is_mark z.mark Pushed) (own l))) h
    pushed_first Pushed h = ap (λ (w : Mark). cond (is_mark w Pushed) (e ∷ filter (λ (z : LocalEntry Op). is_mark z.mark Pushed) (own l)) (filter (λ z. is_mark z.mark Pushed) (own l))) h
    pushed_first Pulled h = refl

    by : (m : Mark) → e.mark ≡ m → length (taken_out t l) ≡ own_count (own l) + length (pulled_of l) → length (taken_out t l ++ taken_at t e.id e.mark) ≡ own_count (own (e ∷ l)) + length (pulled_of (e ∷ l))
    by m h k =
        length-append (taken_out t l) (taken_at t e.id e.mark)
        ∙ ap (λ (w : Mark). length (taken_out t l) + length (taken_at {Op = Op} t e.id w)) h
        ∙ one m k
        ∙ ap (λ (w : List (LocalEntry Op)). (length (cond (is_own m) (e ∷ own l) (own l)) + length (map (λ (z : LocalEntry Op). z.id) w)) + length (cond (is_mark m Pulled) (e ∷ pulled_of l) (pulled_of l))) (sym (pushed_first m h))
        ∙ ap (λ (w : Mark). own_count (cond (is_own w) (e ∷ own l) (own l)) + length (cond (is_mark w Pulled) (e ∷ pulled_of l) (pulled_of l))) (sym h)

-- An element of the first part of a list is in the list.
pub in_taken : {A : Type 0} (n : ℕ) (l : List A) (x : A) → In x (take n l) → In x l
in_taken {A} n l x i = subst (λ (w : List A). In x w) (take-append-drop n l) (in_left x (take n l) (drop n l) i)

-- The order of the first part of a list is that of the list.
pub before_taken : {A : Type 0} (n : ℕ) (l : List A) (x y : A) → Before x y (take n l) → Before x y l
before_taken {A} n l x y i = subst (λ (w : List A). Before x y w) (take-append-drop n l) (before_left x y (take n l) (drop n l) i)

module _ {Op State : Type 0} (O : Object Op State) (place : Op → ℕ) (c : Config Op) (s : Sound O c) where
  serial_distinct : HasDistinctIds (serial_items c.done)
  serial_distinct p q i = (reorders O c.shared c.done (ordered O c s)).distinct_y p q (before_left p q (serial_items c.done) _ i)

  serial_in : (o : ℕ) (p : Item Op) → In p (serial_at place o c.done) → In p (serial_items c.done)
  serial_in o p i = (from_filter (λ (w : Item Op). place w.op == o) p (serial_items c.done) i).0

  -- A log with snapshots has an entry for each operation in them, and no other pulled one.
  module _ (l : List (LocalEntry Op)) (d : (a b : LocalEntry Op) → Before a b l → a.id ≢ b.id) (v : HasSnapshots O place c.done l) where
    abbrev seen : ℕ → ℕ
    seen o = seen_at place o l

    abbrev test : Item Op → Bool
    test p = has_id p.id (first_ids place (place p.op) c.done (seen (place p.op)))

    abbrev P : List (Item Op)
    P = map item (pulled_of l)

    abbrev S : List (Item Op)
    S = seen_items place c.done (λ o. seen_at place o l)

    P_distinct : HasDistinctIds P
    P_distinct p q i =
        let m = before_from_map item p q (pulled_of l) i in
        λ n. d m.0 m.1 (before_from_filter (λ (w : LocalEntry Op). is_mark w.mark Pulled) m.0 m.1 l m.2)
        (ap (λ (w : Item Op). w.id) (sym m.3) ∙ n ∙ ap (λ (w : Item Op). w.id) m.4)

    P_in : (p : Item Op) → In p P → In p S
    P_in p i =
        let m = from_map item p (pulled_of l) i in
        let f = from_filter (λ (w : LocalEntry Op). is_mark w.mark Pulled) m.0 l m.1 in
        let o = place (m.0).op in
        let j : In (item m.0) (take (seen_at place o l) (serial_at place o c.done)) =
        (v o).into (item m.0) (in_map item m.0 (pulled_at place o l) (to_pulled place o l m.0 f.0 (is_mark-true (m.0).mark Pulled f.1) refl)) in
        subst (λ (w : Item Op). In w S) (sym m.2)
        (in_filter test (item m.0) (serial_items c.done) (serial_in o (item m.0) (in_taken (seen_at place o l) (serial_at place o c.done) (item m.0) j))
        (in_has (m.0).id (first_ids place o c.done (seen_at place o l)) (in_map (λ (w : Item Op). w.id) (item m.0) (take (seen_at place o l) (serial_at place o c.done)) j)))

    S_in : (p : Item Op) → In p S → In p P
    S_in p i =
        let f = from_filter test p (serial_items c.done) i in
        let o = place p.op in
        let m = from_map (λ (w : Item Op). w.id) p.id (take (seen_at place o l) (serial_at place o c.done)) (has_in p.id (first_ids place o c.done (seen_at place o l)) f.1) in
        let same : p ≡ m.0 = by_key (λ (w : Item Op). w.id) (serial_items c.done) serial_distinct p m.0 f.0
        (serial_in o m.0 (in_taken (seen_at place o l) (serial_at place o c.done) m.0 m.1)) m.2 in
        let e = from_map item m.0 (pulled_at place o l) ((v o).back m.0 m.1) in
        let g = from_filter (is_pulled_at place o) e.0 l e.1 in
        let k : In e.0 (pulled_of l) = in_filter (λ (w : LocalEntry Op). is_mark w.mark Pulled) e.0 l g.0 (and_parts (is_mark (e.0).mark Pulled) (place (e.0).op == o) g.1).0 in
        subst (λ (w : Item Op). In w P) (sym (same ∙ e.2)) (in_map item e.0 (pulled_of l) k)

    S_distinct : HasDistinctIds S
    S_distinct p q i = serial_distinct p q (before_from_filter test p q (serial_items c.done) i)

    -- it has as many
    pulled_seen : length (pulled_of l) ≡ length (seen_items place c.done (λ o. seen_at place o l))
    pulled_seen =
        let a : length P ≤ length S = no_longer P S P_distinct P_in in
        let b : length S ≤ length P = no_longer S P S_distinct S_in in
        let e : length P ≡ length (pulled_of l) = length-map (pulled_of l) (item {Op = Op}) in
        omega arith

module _ {Op State : Type 0} (O : Object Op State) (place : Op → ℕ) (part : PlacesPart O place) (tells : TellsStates O) (style : Style) (has : HasSummary style) (f : Front) (c : Config Op) (b : Summable O place f c) where
  abbrev B : Summary Op
  B = summary_of place (record { front = f; config = c })

  module _ (t : Name) (x : Tx Op) (lookup : tx t c.opened ≡ Some x) where
    abbrev y : OpenSummary Op
    y = open_summary place f x

    ix : In x c.opened
    ix = (found_tx t c.opened x lookup).0

    nx : x.name ≡ t
    nx = (found_tx t c.opened x lookup).1

    -- The summary's count of missed entries is the number of missed entries.
    missed : (o : ℕ) → missing_count place o B y ≡ length (missing_at place o c.shared x.local)
    missed o =
        let N = missing_at place o c.shared x.local in
        let a = snaps.all_seen O place c b.sound x ix (b.pulls_committed x ix) (b.snapshots x ix) o in
        let e : seen_at place o (x.local ++ map as_pulled N) ≡ length (pulled_at place o x.local ++ map as_pulled N) = ap (λ (w : List (LocalEntry Op)). length w) (snaps.pulled_here O place c b.sound x ix (b.pulls_committed x ix) (b.snapshots x ix) o) in
        let g : length (pulled_at place o x.local ++ map as_pulled N) ≡ length (pulled_at place o x.local) + length (map as_pulled N) = length-append (pulled_at place o x.local) (map as_pulled N) in
        let h : length (map as_pulled N) ≡ length N = length-map N (as_pulled {Op = Op}) in
        omega arith

    -- an operation
    first_pulled : (o : ℕ) (m : Option ℕ) (h : Option Held) → Match place o x.local y m h → pulled_count place h o B y ≡ length (pulled_before place m o c.shared x.local)
    first_pulled o None None e = missed o
    first_pulled o None (Some h) e = absurd e
    first_pulled o (Some m) None e = absurd e
    first_pulled o (Some m) (Some h) e =
        ap (λ (z : Bool). cond z 0 (missing_count place o B y)) (sym e) ∙ two (touches place o (drop m x.local))
      where
        two : (z : Bool) → cond z 0 (missing_count place o B y) ≡ length (cond z [] (missing_at place o c.shared x.local))
        two true = refl
        two false = missed o

    tail_count : (o : ℕ) (m : Option ℕ) (h : Option Held) → Match place o x.local y m h → (id : ℕ) → applied_count h ≡ suc (length (steps.tail {Op = Op} m t id))
    tail_count o None None e id = refl
    tail_count o None (Some h) e id = absurd e
    tail_count o (Some m) None e id = absurd e
    tail_count o (Some m) (Some h) e id = refl

    abbrev pulls_of : List (SharedEntry Op) → List (Step Op)
    pulls_of M = map (λ (w : SharedEntry Op). Pull t w.id) M

    ops : (id : ℕ) (op : Op) → op_count place style B op y ≡ length (op_steps place style f c.shared x.local t id op)
    ops id op =
        let o = place op in
        let m = push_mode style f t o in
        let h = summary_mode style f.kinds y o in
        let k = match_of O place part tells f c b t x lookup style has o in
        let M = pulled_before place m o c.shared x.local in
        let T : List (Step Op) = steps.tail m t id in
        let a = first_pulled o m h k in
        let d = tail_count o m h k id in
        let g : length (pulls_of M ++ App t id op ∷ T) ≡ length (pulls_of M) + suc (length T) = length-append (pulls_of M) (App t id op ∷ T) in
        let l : length (pulls_of M) ≡ length M = length-map M (λ (w : SharedEntry Op). Pull t w.id) in
        let z : op_count place style B op y ≡ length (pulls_of M ++ App t id op ∷ T) = omega arith in
        z ∙ ap (λ (w : List (Step Op)). length w) (sym (steps.style_steps O place part t c b.sound x lookup style has f id op))

    -- pushes
    pushes : length (unpushed y.own) ≡ length (pushall t x.local)
    pushes = ap (λ (w : List (LocalEntry Op)). length w) (own_unpushed x.local) ∙ sym (length-map (unpushed x.local) (λ (w : LocalEntry Op). Push t w.id))

    commits : (style : Style) → HasSummary style → commit_count style y ≡ length (commit_steps style x.local t)
    commits Rules h = absurd h
    commits Boosted h = refl
    commits Optimistic h = ap (λ (n : ℕ). n + 1) pushes ∙ sym (length-append (pushall t x.local) (Cmt t ∷ []))
    commits Hardware h = ap (λ (n : ℕ). n + 1) pushes ∙ sym (length-append (pushall t x.local) (Cmt t ∷ []))
    commits Dependent h = absurd h

    -- The summary's count of entries taken back is the number of the steps.
    pub all_back : back_count place B y ≡ length (taken_out t (drop 0 x.local))
    all_back =
        let a : length (taken_out t x.local) ≡ own_count (own x.local) + length (pulled_of x.local) = taken_count t x.local in
        let e : length (pulled_of x.local) ≡ length (seen_items place c.done (λ o. seen_at place o x.local)) = pulled_seen O place c b.sound x.local (b.sound.local_ids x ix) (b.snapshots x ix) in
        omega arith

    -- The steps of an abort are counted.
    pub abort_count : suc (back_count place B y) ≡ length (back t 0 x.local ++ Quit t ∷ [])
    abort_count =
        let a : length (back t 0 x.local ++ Quit t ∷ []) ≡ length (back t 0 x.local) + 1 = length-append (back t 0 x.local) (Quit t ∷ []) in
        let d = all_back in
        omega arith

    -- The log up to the mark of a section has snapshots.
    marked : (o : Option ℕ) → f.section x.name ≡ o → HasSnapshots O place c.done (take (mark_of o) x.local)
    marked None e = snaps.no_snapshots O place c.done
    marked (Some m) e = (b.sections x ix m e).1

    pulled_parts : (n : ℕ) → length (pulled_of x.local) ≡ length (pulled_of (take n x.local)) + length (pulled_of (drop n x.local))
    pulled_parts n = ap (λ (w : List (LocalEntry Op)). length (pulled_of w)) (sym (take-append-drop n x.local))
        ∙ ap (λ (w : List (LocalEntry Op)). length w) (filter-append (λ (e : LocalEntry Op). is_mark e.mark Pulled) (take n x.local) (drop n x.local))
        ∙ length-append (pulled_of (take n x.local)) (pulled_of (drop n x.local))

    own_after : (o : Option ℕ) → own (drop (mark_of o) x.local) ≡ drop (own_held (held_of place o x.local)) (own x.local)
    own_after None = refl
    own_after (Some m) = sym (own_drop m x.local)

    -- The summary's count of what a section added is the number of the steps that take it back.
    pub since : section_count place B y ≡ length (taken_out t (drop (mark_of (f.section x.name)) x.local))
    since =
        let o = f.section x.name in
        let n = mark_of (f.section x.name) in
        let a : length (taken_out t (drop n x.local)) ≡ own_count (own (drop n x.local)) + length (pulled_of (drop n x.local)) = taken_count t (drop n x.local) in
        let d : own_count (own (drop n x.local)) ≡ own_count (drop (own_held y.held) y.own) = ap (λ (w : List (LocalEntry Op)). own_count w) (own_after o) in
        let e : length (pulled_of x.local) ≡ length (seen_items place c.done (λ p. seen_at place p x.local)) = pulled_seen O place c b.sound x.local (b.sound.local_ids x ix) (b.snapshots x ix) in
        let g : length (pulled_of (take n x.local)) ≡ length (seen_items place c.done (λ p. seen_at place p (take n x.local))) =
        pulled_seen O place c b.sound (take n x.local) (λ u w i. b.sound.local_ids x ix u w (before_taken n x.local u w i)) (marked o refl) in
        let h : length (seen_items place c.done (λ p. seen_at place p (take n x.local))) ≡ length (seen_items place c.done (seen_held y.held)) =
        ap (λ (w : ℕ → ℕ). length (seen_items place c.done w)) (fun_ext (λ p. (held_parts O place part tells style has f c b t x lookup o).1 p)) in
        let k = pulled_parts n in
        omega arith

  -- a record of a transaction that may be open
  open_case : (t : Name) (alone : Step Op) (ss : List (LocalEntry Op) → List (Step Op)) (F : OpenSummary Op → ℕ) → ((x : Tx Op) → tx t c.opened ≡ Some x → F (open_summary place f x) ≡ length (ss x.local)) →
      open_count (open_named t B.opened) F ≡ length (steps_of_open (tx t c.opened) alone ss)
  open_case t alone ss F k = ap (λ (w : Option (OpenSummary Op)). open_count w F) (open_named_is place f t c.opened) ∙ by (tx t c.opened) refl
    where
      by : (w : Option (Tx Op)) → tx t c.opened ≡ w → open_count (to_open place f (tx t c.opened)) F ≡ length (steps_of_open (tx t c.opened) alone ss)
      by None e = subst (λ (w : Option (Tx Op)). open_count (to_open place f w) F ≡ length (steps_of_open w alone ss)) (sym e) refl
      by (Some x) e = subst (λ (w : Option (Tx Op)). open_count (to_open place f w) F ≡ length (steps_of_open w alone ss)) (sym e) (k x e)

  snoc_count : (ss : List (Step Op)) (a : Step Op) (n : ℕ) → n ≡ length ss → n + 1 ≡ length (ss ++ a ∷ [])
  snoc_count ss a n e = ap (λ (m : ℕ). m + 1) e ∙ sym (length-append ss (a ∷ []))

  cons_count : (ss : List (Step Op)) (a : Step Op) (n : ℕ) → n ≡ length ss → n + 1 ≡ length (a ∷ ss)
  cons_count ss a n e = omega arith

  -- The summary counts the steps of a record.
  pub counted : (r : RunRecord Op) → IsOfStyle style r → record_steps place style B r ≡ length (expand place style f c r)
  counted = by_record style has (λ r. record_steps place style B r ≡ length (expand place style f c r))
      (λ t p w. refl)
      (λ t id op. open_case t (App t id op) (λ l. op_steps place style f c.shared l t id op) (op_count place style B op) (λ x e. ops t x e id op))
      (λ t. open_case t (Cmt t) (λ l. commit_steps style l t) (commit_count style) (λ x e. commits t x e style has))
      (λ t. open_case t (Quit t) (λ l. back t 0 l ++ Quit t ∷ []) (λ x. back_count place B x + 1) (λ x e. snoc_count (back t 0 x.local) (Quit t) (back_count place B (open_summary place f x)) (all_back t x e)))
      (λ t. open_case t (Note t) (λ l. Note t ∷ back t 0 l) (λ x. back_count place B x + 1) (λ x e. cons_count (back t 0 x.local) (Note t) (back_count place B (open_summary place f x)) (all_back t x e)))
      (λ t o. open_case t (Note t) (λ l. Note t ∷ refresh place t o c.shared l) (λ x. missing_count place o B x + 1)
      (λ x e. cons_count (refresh place t o c.shared x.local) (Note t) (missing_count place o B (open_summary place f x)) (missed t x e o ∙ sym (length-map (missing_at place o c.shared x.local) (λ (w : SharedEntry Op). Pull t w.id)))))
      (λ t. refl)
      (λ t. open_case t (Note t) (λ l. Note t ∷ pushall t l) (λ x. length (unpushed x.own) + 1) (λ x e. cons_count (pushall t x.local) (Note t) (length (unpushed (own x.local))) (pushes t x e)))
      (λ t. open_case t (Note t) (λ l. Note t ∷ back t (mark_of (f.section t)) l) (λ x. section_count place B x + 1)
      (λ x e. cons_count (back t (mark_of (f.section t)) x.local) (Note t) (section_count place B (open_summary place f x))
      (since t x e ∙ ap (λ (u : Name). length (taken_out t (drop (mark_of (f.section u)) x.local))) (found_tx t c.opened x e).1)))

module _ {Op State : Type 0} (O : Object Op State) (place : Op → ℕ) (part : PlacesPart O place) (tells : TellsStates O) (style : Style) (has : HasSummary style) (ks : List Kind) where
  run_counted : (rs : Records (RunRecord Op)) (p : Standing Front Op) → Each (IsOfStyle style) (bare rs) → Summable O place p.front p.config → GoodRuns (summing style O place) (summary_of place p) (bare rs) →
      run_steps place style (summary_of place p) (bare rs) ≡ length (joined_steps (translation place style ks) p rs)
  run_counted [] p s b h = refl
  run_counted (r ∷ rs) p s b h =
      let T = translation place style ks in
      let q = decides_records style has O place part tells ks in
      let d = after_record T p r.what in
      let E : List (Step Op) = steps_at T p r.what in
      let one : record_steps place style (summary_of place p) r.what ≡ length E = counted O place part tells style has p.front p.config b r.what s.0 in
      let rest : run_steps place style (next_summary place style (summary_of place p) r.what) (bare rs) ≡ length (joined_steps T d rs) =
      subst (λ (z : Summary Op). run_steps place style z (bare rs) ≡ length (joined_steps T d rs)) (q.step p r.what s.0 b h.0)
      (run_counted rs d s.1 (q.kept p r.what s.0 b h.0) (subst (λ (z : Summary Op). GoodRuns (summing style O place) z (bare rs)) (sym (q.step p r.what s.0 b h.0)) h.1)) in
      let e : length (on_line r.line E ++ joined_steps T d rs) ≡ length (on_line r.line E) + length (joined_steps T d rs) = length-append (on_line r.line E) (joined_steps T d rs) in
      let l : length (on_line r.line E) ≡ length E = length-map E (λ (z : Step Op). record { line = r.line; what = z }) in
      omega arith

-- The summary counts the steps of each record and of each run.
pub counts : {Op State : Type 0} (O : Object Op State) (place : Op → ℕ) → PlacesPart O place → TellsStates O → (style : Style) → HasSummary style → CountsSteps style O place
counts O place part tells style has =
    record {
      record_count = λ f c r s b. counted O place part tells style has f c b r s;
      run_count = λ ks p rs s b h. run_counted O place part tells style has ks rs p s b h;
    }
