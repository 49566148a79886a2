-- What is true of unpushed and uncommitted entries between records.
use Rattle.std.specs.Prelude.{◌≡◌, ◌≢◌, ◌≤◌, ◌+◌, ℕ, Bool, true, false, cond, List, []}
use Rattle.std.specs.Prelude.{◌∷◌, ◌++◌, drop, length, slice_get, take, Option, None, Some}
use Rattle.std.proofs.Common.{refl, sym, ap, subst, ◌∙◌, arith, length-append}
use Rattle.std.proofs.lemmas.List.{take-append-le}
use Rattle.std.proofs.lemmas.Option.{same_Some}
use mathlib.Core.Logic.{inl, inr}
use Rattle.pp_core.specs.declared.call.Kind.{Kind}
use Rattle.pp_core.specs.declared.call.Style.{Style}
use Rattle.pp_core.specs.declared.call.Style.TheVariants as styles
use Rattle.pp_model.specs.Body.{Tree}
use Rattle.pp_model.specs.Config.{Begin, App, Cmt, Quit, Note, Config, LocalEntry, Pushed, Step, Tx}
use Rattle.pp_model.specs.Config.{Unpushed, after_from, as_applied, relog, tx}
use Rattle.pp_model.specs.Lists.{In}
use Rattle.pp_model.specs.Names.{Name}
use Rattle.pp_model.specs.Object.{Object}
use Rattle.pp_model.specs.Rules.{Meets, RunsFrom}
use Rattle.pp_model.specs.Sound.{Sound}
use Rattle.pp_model.proofs.Begin.{each_added}
use Rattle.pp_model.proofs.Keeps.{run_keeps}
use Rattle.pp_model.proofs.Lists.{in_cases}
use Rattle.pp_model.proofs.Logs.{found_tx}
use Rattle.pp_model.proofs.Names.{eq-names, name_or_not, names_tell}
use Rattle.pp_model.proofs.Steps.{only_one, there_holds}
use Rattle.pp_records.specs.Expansions.{IsOfStyle, back, expand, front_after, front_of_open, hardware_op}
use Rattle.pp_records.specs.Expansions.{op_at_once, op_later, pushall, steps_of_open, where_open}
use Rattle.pp_records.specs.Fronts.{Front, is_mem, is_memory, mark_of, opened_at, with_section, with_sources}
use Rattle.pp_records.specs.Records.{RunRecord}
use Rattle.pp_records.specs.Records as records
use Rattle.pp_records.proofs.Ends.{after_append, runs_back}
use Rattle.pp_records.proofs.Pushing.{pushall_law}
use Rattle.pp_records.proofs.Taking.{back_law}
use Rattle.pp_laws_runs.proofs.Logs.{marked}
use Rattle.pp_laws_runs.proofs.Others.{AreOf, after_cmt, after_quit, at_once_grows, begun_after}
use Rattle.pp_laws_runs.proofs.Others.{later_grows, of_pushall, of_taken, still_after}
use Rattle.pp_laws_runs.proofs.Pulling.{AllShared}
use Rattle.pp_laws_runs.proofs.Pushing.{NoneUnpushed}
use Rattle.pp_laws_runs.proofs.Sharing.{optimistic_keeps}
use Rattle.pp_laws_runs.proofs.Records.{only_begin}

-- the sections of other names stay as they were
section_other : (f : Front) (t u : Name) (v : Option ℕ) → u ≢ t → (with_section f t v).section u ≡ f.section u
section_other f t u v n = elim (names_tell u t) [
  | inl r ↦ absurd (n r.1)
  | inr r ↦ ap (λ (b : Bool). cond b v (f.section u)) r.0
]

section_at : (f : Front) (t u : Name) (v : Option ℕ) → u ≡ t → (with_section f t v).section u ≡ v
section_at f t u v e = ap (λ (b : Bool). cond b v (f.section u)) (eq-names u t e)

module _ {Op State : Type 0} (O : Object Op State) (place : Op → ℕ) where
  -- An unpushed entry is of a memory, and its transaction is in a section. What comes before the
  -- mark of a section is not unpushed.
  pub record SectionKept (f : Front) (x : Tx Op) : Type 0 where
    pub unpushed : (a : LocalEntry Op) → In a x.local → a.mark ≡ Unpushed → (is_mem f (place a.op) ≡ true) × (f.section x.name ≢ None)
    pub before : (m : ℕ) → f.section x.name ≡ Some m → (m ≤ length x.local) × NoneUnpushed (take m x.local)

  -- what records of the style keep
  abbrev pub Kept : Style → Front → Config Op → Type 0
  Kept styles.Rules f c = Unit {0}
  Kept styles.Boosted f c = (x : Tx Op) → In x c.opened → NoneUnpushed x.local
  Kept styles.Optimistic f c = AllShared c
  Kept styles.Hardware f c = ((x : Tx Op) → In x c.opened → SectionKept f x) × ((u : Name) → (In u c.names → ⊥) → f.section u ≡ None)
  Kept styles.Dependent f c = Unit {0}

  -- ---- from the logs after a record

  module _ (P : Tx Op → Type 0) (c : Config Op) (ss : List (Step Op)) (t : Name) (s : Sound O c) (run : RunsFrom O c ss) where
    -- A fact about t and about all other open transactions is a fact about each open transaction.
    one_and_others : (x : Tx Op) → tx t (after_from c ss).opened ≡ Some x → P x → ((y : Tx Op) → In y (after_from c ss).opened → y.name ≢ t → P y) → (y : Tx Op) → In y (after_from c ss).opened → P y
    one_and_others x h p others y i = elim (name_or_not y.name t) [
      | inl e ↦ only_one O (after_from c ss) (run_keeps O ss c s run) t x h P p y i e
      | inr n ↦ others y i n
    ]

  -- if the first step meets its criteria, the transaction is open
  opened_run : (c : Config Op) (t : Name) (alone : Step Op) (steps : List (LocalEntry Op) → List (Step Op)) (Q : Option (Tx Op) → List (Step Op) → Type 0) →
      (Meets O c alone → (x : Tx Op) × (tx t c.opened ≡ Some x)) → ((x : Tx Op) → tx t c.opened ≡ Some x → RunsFrom O c (steps x.local) → Q (Some x) (steps x.local)) →
      RunsFrom O c (where_open c t alone steps) → Q (tx t c.opened) (where_open c t alone steps)
  opened_run c t alone steps Q a b run =
      elim (tx t c.opened) as (λ o. tx t c.opened ≡ o → RunsFrom O c (steps_of_open o alone steps) → Q o (steps_of_open o alone steps)) [
        | None ↦ λ e r. absurd (let x = a r.0 in let z : ◌≡◌ {A = Option (Tx Op)} None (Some x.0) = sym e ∙ x.1 in cc)
        | Some x ↦ λ e r. b x e r
      ] refl run

  open_app : (c : Config Op) (t : Name) (id : ℕ) (op : Op) → Meets O c (App t id op) → (x : Tx Op) × (tx t c.opened ≡ Some x)
  open_app c t id op m = let x = there_holds (tx t c.opened) _ m in (x.0, x.1)

  open_cmt : (c : Config Op) (t : Name) → Meets O c (Cmt t) → (x : Tx Op) × (tx t c.opened ≡ Some x)
  open_cmt c t m = let x = there_holds (tx t c.opened) _ m in (x.0, x.1)

  open_quit : (c : Config Op) (t : Name) → Meets O c (Quit t) → (x : Tx Op) × (tx t c.opened ≡ Some x)
  open_quit c t m = let x = there_holds (tx t c.opened) _ m in (x.0, x.1)

  open_note : (c : Config Op) (t : Name) → Meets O c (Note t) → (x : Tx Op) × (tx t c.opened ≡ Some x)
  open_note c t m = let x = there_holds (tx t c.opened) _ m in (x.0, x.1)

  -- a transaction that is open after an abort or a commit of t was open before, and is not t
  after_abort : (c : Config Op) (t : Name) (l : List (LocalEntry Op)) (y : Tx Op) → In y (after_from c (back t 0 l ++ Quit t ∷ [])).opened → In y c.opened × (y.name ≢ t)
  after_abort c t l y i =
      let j = subst (λ (d : Config Op). In y d.opened) (after_append c (back t 0 l) (Quit t ∷ [])) i in
      let k = after_quit (after_from c (back t 0 l)) t y j in
      (still_after t (back t 0 l) c y (of_taken t (drop 0 l)) k.0 k.1, k.1)

  after_commit : (c : Config Op) (t : Name) (l : List (LocalEntry Op)) (y : Tx Op) → RunsFrom O c (pushall t l ++ Cmt t ∷ []) → In y (after_from c (pushall t l ++ Cmt t ∷ [])).opened → In y c.opened × (y.name ≢ t)
  after_commit c t l y run i =
      let j = subst (λ (d : Config Op). In y d.opened) (after_append c (pushall t l) (Cmt t ∷ [])) i in
      let m = runs_back O c (pushall t l) (Cmt t ∷ []) run in
      let k = after_cmt O (after_from c (pushall t l)) t y m.0 j in
      (still_after t (pushall t l) c y (of_pushall t l) k.0 k.1, k.1)

  -- an empty log has no unpushed entry
  none_left : (l : List (LocalEntry Op)) → NoneUnpushed (take 0 l)
  none_left l a i = absurd i

  grown_unpushed : (l more : List (LocalEntry Op)) (last : LocalEntry Op) → NoneUnpushed more → (a : LocalEntry Op) → In a (l ++ (more ++ last ∷ [])) → a.mark ≡ Unpushed → (P : Type 0) → (In a l → P) → (a ≡ last → P) → P
  grown_unpushed l more last none a i k P old new = elim (in_cases a l (more ++ last ∷ []) i) [
    | inl j ↦ old j
    | inr j ↦ elim (in_cases a more (last ∷ []) j) [
      | inl m ↦ absurd (none a m k)
      | inr (inl e) ↦ new e
      | inr (inr z) ↦ absurd z
    ]
  ]

  -- ---- style boosted

  module _ (f : Front) (c : Config Op) (s : Sound O c) (kept : (x : Tx Op) → In x c.opened → NoneUnpushed x.local) where
    abbrev Pushed_all : Option (Tx Op) → List (Step Op) → Type 0
    Pushed_all o ss = (x : Tx Op) → In x (after_from c ss).opened → NoneUnpushed x.local

    boosted_op : (t : Name) (id : ℕ) (op : Op) → RunsFrom O c (expand place styles.Boosted f c (records.Op t id op)) → Kept styles.Boosted f (after_from c (expand place styles.Boosted f c (records.Op t id op)))
    boosted_op t id op = opened_run c t (App t id op) (λ l. op_at_once place c.shared l t id op) Pushed_all (open_app c t id op)
        (λ x h r.
        let g = at_once_grows O place c t x id op s h r in
        let ss = op_at_once place c.shared x.local t id op in
        one_and_others (λ y. NoneUnpushed y.local) c ss t s r (relog (λ l. l ++ (g.more ++ marked Pushed (as_applied t id op) ∷ [])) x) g.led
        (λ a i k. grown_unpushed x.local g.more (marked Pushed (as_applied t id op)) g.none a i k ⊥ (λ j. kept x (found_tx t c.opened x h).0 a j k)
        (λ e. let z : Pushed ≡ Unpushed = sym (ap (λ (w : LocalEntry Op). w.mark) e) ∙ k in cc))
        (λ y i n. kept y (still_after t ss c y g.own i n)))

    -- Records of style `boosted` leave no unpushed entry between them.
    pub boosted_keeps : (r : RunRecord Op) → IsOfStyle styles.Boosted r → RunsFrom O c (expand place styles.Boosted f c r) → Kept styles.Boosted (front_after f c r) (after_from c (expand place styles.Boosted f c r))
    boosted_keeps (records.Plain step) i =
        let b = only_begin O place styles.Boosted (λ e. cc) step i in
        subst (λ (w : Step Op). RunsFrom O c (w ∷ []) → (x : Tx Op) → In x (after_from c (w ∷ [])).opened → NoneUnpushed x.local) (sym b.3)
        (λ r. each_added c.opened (record { name = b.0; thread = b.1; body = b.2; local = [] }) (λ y. NoneUnpushed y.local) kept (λ a j. absurd j))
    boosted_keeps (records.Op t id op) i = boosted_op t id op
    boosted_keeps (records.Commit t) i = opened_run c t (Cmt t) (λ l. Cmt t ∷ []) Pushed_all (open_cmt c t) (λ x h r y j. kept y (after_cmt O c t y r.0 j).0)
    boosted_keeps (records.Abort t) i = opened_run c t (Quit t) (λ l. back t 0 l ++ Quit t ∷ []) Pushed_all (open_quit c t) (λ x h r y j. kept y (after_abort c t x.local y j).0)
    boosted_keeps (records.Retry t) i = opened_run c t (Note t) (λ l. Note t ∷ back t 0 l) Pushed_all (open_note c t)
        (λ x h r. one_and_others (λ y. NoneUnpushed y.local) c (back t 0 x.local) t s r.1 (relog (λ l. take 0 l) x) (back_law O c t 0 x s h) (none_left x.local)
        (λ y j n. kept y (still_after t (back t 0 x.local) c y (of_taken t (drop 0 x.local)) j n)))
    boosted_keeps (records.Refresh t o) i = absurd i
    boosted_keeps (records.XBegin t) i = absurd i
    boosted_keeps (records.XEnd t) i = absurd i
    boosted_keeps (records.XAbort t) i = absurd i
    boosted_keeps (records.Depend t source) i = absurd i
    boosted_keeps (records.Publish t) i = absurd i
    boosted_keeps (records.DropSource t source) i = absurd i

  -- ---- style hardware

  -- a longer log keeps its section
  grown_kept : (f : Front) (x : Tx Op) (more : List (LocalEntry Op)) (last : LocalEntry Op) → SectionKept f x → NoneUnpushed more → (last.mark ≡ Unpushed → (is_mem f (place last.op) ≡ true) × (f.section x.name ≢ None)) →
      SectionKept f (relog (λ l. l ++ (more ++ last ∷ [])) x)
  grown_kept f x more last kept none new = record {
    unpushed = λ a i k. grown_unpushed x.local more last none a i k ((is_mem f (place a.op) ≡ true) × (f.section x.name ≢ None)) (λ j. kept.unpushed a j k)
        (λ e. subst (λ (w : LocalEntry Op). (is_mem f (place w.op) ≡ true) × (f.section x.name ≢ None)) (sym e) (new (ap (λ (w : LocalEntry Op). w.mark) (sym e) ∙ k)));
    before = λ m e.
        let k = kept.before m e in
        let longer : length (x.local ++ (more ++ last ∷ [])) ≡ length x.local + length (more ++ last ∷ []) = length-append x.local (more ++ last ∷ []) in (
          within m (length x.local) (length (more ++ last ∷ [])) (length (x.local ++ (more ++ last ∷ []))) k.0 longer,
          subst (λ (l : List (LocalEntry Op)). NoneUnpushed l) (sym (take-append-le m x.local (more ++ last ∷ []) k.0)) k.1,
        );
  }
    where
      within : (m a b n : ℕ) → m ≤ a → n ≡ a + b → m ≤ n
      within m a b n h e = omega (arith, h, e)

  module _ (f : Front) (c : Config Op) (s : Sound O c) (all : (x : Tx Op) → In x c.opened → SectionKept f x) (fresh : (u : Name) → (In u c.names → ⊥) → f.section u ≡ None) where
    -- the state of the front is as before but for this transaction
    record OnlyAt (t : Name) (g : Front) : Type 0 where
      pub kinds : g.kinds ≡ f.kinds
      pub section : (u : Name) → u ≢ t → g.section u ≡ f.section u

    other_kept : (t : Name) (g : Front) → OnlyAt t g → (y : Tx Op) → y.name ≢ t → SectionKept f y → SectionKept g y
    other_kept t g only y n k = record {
      unpushed = λ a i m.
          let z = k.unpushed a i m in
          (ap (λ (ks : List Kind). is_memory (slice_get ks (place a.op))) only.kinds ∙ z.0, λ e. z.1 (sym (only.section y.name n) ∙ e));
      before = λ m e. k.before m (sym (only.section y.name n) ∙ e);
    }

    -- The facts that are kept after these steps of t.
    abbrev KeptAfter : Front → List (Step Op) → Type 0
    KeptAfter g ss = Kept styles.Hardware g (after_from c ss)

    kept_after : (t : Name) (g : Front) (ss : List (Step Op)) → In t c.names → OnlyAt t g → ((y : Tx Op) → In y (after_from c ss).opened → SectionKept g y) → KeptAfter g ss
    kept_after t g ss known only sections = (
      sections,
      λ u n. elim (name_or_not u t) [
        | inl e ↦ absurd (n (begun_after ss c u (subst (λ (w : Name). In w c.names) (sym e) known)))
        | inr m ↦ only.section u m ∙ fresh u (λ i. n (begun_after ss c u i))
      ],
    )

    same_front : (t : Name) → OnlyAt t f
    same_front t = record { kinds = refl; section = λ u n. refl }

    sectioned : (t : Name) (v : Option ℕ) → OnlyAt t (with_section f t v)
    sectioned t v = record { kinds = refl; section = λ u n. section_other f t u v n }

    -- a closed section, and no entry that is unpushed
    closed : (t : Name) (g : Front) (x : Tx Op) → g.section x.name ≡ None → NoneUnpushed x.local → SectionKept g x
    closed t g x e none = record {
      unpushed = λ a i k. absurd (none a i k);
      before = λ m z. absurd (let bad : None ≡ Some m = sym e ∙ z in cc);
    }

    module _ (t : Name) (x : Tx Op) (h : tx t c.opened ≡ Some x) where
      there : In x c.opened
      there = (found_tx t c.opened x h).0

      named : x.name ≡ t
      named = (found_tx t c.opened x h).1

      known : In t c.names
      known = subst (λ (w : Name). In w c.names) named (s.open_known x there)

      -- The log of t is this one, and the other logs are as they were.
      known_log : (g : Front) (ss : List (Step Op)) (y : Tx Op) → RunsFrom O c ss → OnlyAt t g → AreOf t ss → tx t (after_from c ss).opened ≡ Some y → SectionKept g y → KeptAfter g ss
      known_log g ss y r only own led k =
          kept_after t g ss known only
          (one_and_others (λ z. SectionKept g z) c ss t s r y led k (λ z i n. other_kept t g only z n (all z (still_after t ss c z own i n))))

      -- The transaction t has ended, and the other ones are as they were.
      ended : (ss : List (Step Op)) → ((y : Tx Op) → In y (after_from c ss).opened → In y c.opened × (y.name ≢ t)) → KeptAfter f ss
      ended ss left = kept_after t f ss known (same_front t) (λ y i. all y (left y i).0)

      operation : (id : ℕ) (op : Op) (memory : Bool) → is_mem f (place op) ≡ memory → (section : Option ℕ) → f.section t ≡ section → RunsFrom O c (hardware_op place memory section c.shared x.local t id op) →
          KeptAfter f (hardware_op place memory section c.shared x.local t id op)
      operation id op memory is section at r = by memory is section at r
        where
          once : RunsFrom O c (op_at_once place c.shared x.local t id op) → KeptAfter f (op_at_once place c.shared x.local t id op)
          once r =
              let g = at_once_grows O place c t x id op s h r in
              let last : LocalEntry Op = marked Pushed (as_applied t id op) in
              known_log f (op_at_once place c.shared x.local t id op) (relog (λ l. l ++ (g.more ++ last ∷ [])) x) r (same_front t) g.own g.led
              (grown_kept f x g.more last (all x there) g.none (λ k. let bad : Pushed ≡ Unpushed = k in absurd (cc)))

          by : (memory : Bool) → is_mem f (place op) ≡ memory → (section : Option ℕ) → f.section t ≡ section → RunsFrom O c (hardware_op place memory section c.shared x.local t id op) →
              KeptAfter f (hardware_op place memory section c.shared x.local t id op)
          by true is (Some mark) at r =
              let g = later_grows O place c t x id op s h (drop mark x.local) r in
              let last : LocalEntry Op = as_applied t id op in
              known_log f (op_later place (drop mark x.local) c.shared x.local t id op) (relog (λ l. l ++ (g.more ++ last ∷ [])) x) r (same_front t) g.own g.led
              (grown_kept f x g.more last (all x there) g.none (λ k. (is, λ e. let bad : Some mark ≡ None = sym at ∙ ap f.section (sym named) ∙ e in cc)))
          by true is None at r = once r
          by false is section at r = once r

      retried : (g : Front) → OnlyAt t g → g.section t ≡ None → RunsFrom O c (Note t ∷ back t 0 x.local) → KeptAfter g (Note t ∷ back t 0 x.local)
      retried g only none r =
          known_log g (Note t ∷ back t 0 x.local) (relog (λ l. take 0 l) x) r only (refl, of_taken t (drop 0 x.local)) (back_law O c t 0 x s h)
          (closed t g (relog (λ l. take 0 l) x) (ap g.section named ∙ none) (none_left x.local))

      same_length : (n : ℕ) → n ≤ n
      same_length n = omega arith

      begun : RunsFrom O c (Note t ∷ []) → KeptAfter (with_section f t (opened_at (length x.local) (f.section t))) (Note t ∷ [])
      begun r =
          let g = with_section f t (opened_at (length x.local) (f.section t)) in
          let old = all x there in
          known_log g (Note t ∷ []) x r (sectioned t (opened_at (length x.local) (f.section t))) (refl, tt) h
          (by (f.section t) refl)
        where
          whole : (l : List (LocalEntry Op)) (a : LocalEntry Op) → In a (take (length l) l) → In a l
          whole [] a i = i
          whole (b ∷ l) a (inl e) = inl e
          whole (b ∷ l) a (inr i) = inr (whole l a i)

          by : (v : Option ℕ) → f.section t ≡ v → SectionKept (with_section f t (opened_at (length x.local) (f.section t))) x
          by None e =
              let none : NoneUnpushed x.local = λ a i k. ((all x there).unpushed a i k).1 (ap f.section named ∙ e) in
              let at : (with_section f t (opened_at (length x.local) (f.section t))).section x.name ≡ Some (length x.local) =
              section_at f t x.name (opened_at (length x.local) (f.section t)) named ∙ ap (λ (o : Option ℕ). opened_at (length x.local) o) e in
              record {
                unpushed = λ a i k. absurd (none a i k);
                before = λ m z.
                    let is : length x.local ≡ m = same_Some (length x.local) m (sym at ∙ z) in
                    subst (λ (n : ℕ). (n ≤ length x.local) × NoneUnpushed (take n x.local)) is (same_length (length x.local), λ a i. none a (whole x.local a i));
              }
          by (Some mark) e =
              let at : (with_section f t (opened_at (length x.local) (f.section t))).section x.name ≡ Some mark =
              section_at f t x.name (opened_at (length x.local) (f.section t)) named ∙ ap (λ (o : Option ℕ). opened_at (length x.local) o) e in
              record {
                unpushed = λ a i k. (((all x there).unpushed a i k).0, λ z. let bad : Some mark ≡ None = sym at ∙ z in cc);
                before = λ m z. (all x there).before m (ap f.section named ∙ e ∙ sym at ∙ z);
              }

      ended_section : RunsFrom O c (Note t ∷ pushall t x.local) → KeptAfter (with_section f t None) (Note t ∷ pushall t x.local)
      ended_section r =
          let y = pushall_law O c t x h r.1 in
          let name : (y.0).name ≡ t = (found_tx t (after_from c (pushall t x.local)).opened y.0 y.1).1 in
          known_log (with_section f t None) (Note t ∷ pushall t x.local) y.0 r (sectioned t None) (refl, of_pushall t x.local) y.1
          (closed t (with_section f t None) y.0 (section_at f t (y.0).name None name) y.2)

      taken_section : RunsFrom O c (Note t ∷ back t (mark_of (f.section t)) x.local) → KeptAfter (with_section f t None) (Note t ∷ back t (mark_of (f.section t)) x.local)
      taken_section r =
          let n : ℕ = mark_of (f.section t) in
          known_log (with_section f t None) (Note t ∷ back t n x.local) (relog (λ l. take n l) x) r (sectioned t None) (refl, of_taken t (drop n x.local)) (back_law O c t n x s h)
          (closed t (with_section f t None) (relog (λ l. take n l) x) (section_at f t x.name None named) (by (f.section t) refl))
        where
          by : (v : Option ℕ) → f.section t ≡ v → NoneUnpushed (take (mark_of v) x.local)
          by None e = none_left x.local
          by (Some m) e = ((all x there).before m (ap f.section named ∙ e)).1

    hardware_begin : (t p : Name) (b : Option Tree) → RunsFrom O c (Begin t p b ∷ []) → KeptAfter f (Begin t p b ∷ [])
    hardware_begin t p b r = (
      each_added c.opened (record { name = t; thread = p; body = b; local = [] }) (λ y. SectionKept f y) all
          (record { unpushed = λ a i k. absurd i; before = λ m e. absurd (let bad : None ≡ Some m = sym (fresh t r.0.0) ∙ e in cc) }),
      λ u n. fresh u (λ i. n (inr i)),
    )

    -- What the front of a record becomes, by the transaction that is found.
    abbrev KeptBy : (Option (Tx Op) → Front) → Option (Tx Op) → List (Step Op) → Type 0
    KeptBy g o ss = KeptAfter (g o) ss

    -- Records of style `hardware` keep what is true of sections between them.
    pub hardware_keeps : (r : RunRecord Op) → IsOfStyle styles.Hardware r → RunsFrom O c (expand place styles.Hardware f c r) → KeptAfter (front_after f c r) (expand place styles.Hardware f c r)
    hardware_keeps (records.Plain step) i =
        let b = only_begin O place styles.Hardware (λ e. cc) step i in
        subst (λ (w : Step Op). RunsFrom O c (w ∷ []) → KeptAfter f (w ∷ [])) (sym b.3) (hardware_begin b.0 b.1 b.2)
    hardware_keeps (records.Op t id op) i =
        opened_run c t (App t id op) (λ l. hardware_op place (is_mem f (place op)) (f.section t) c.shared l t id op) (KeptBy (λ o. f)) (open_app c t id op)
        (λ x h r. operation t x h id op (is_mem f (place op)) refl (f.section t) refl r)
    hardware_keeps (records.Commit t) i =
        opened_run c t (Cmt t) (λ l. pushall t l ++ Cmt t ∷ []) (KeptBy (λ o. f)) (open_cmt c t)
        (λ x h r. ended t x h (pushall t x.local ++ Cmt t ∷ []) (λ y j. after_commit c t x.local y r j))
    hardware_keeps (records.Abort t) i =
        opened_run c t (Quit t) (λ l. back t 0 l ++ Quit t ∷ []) (KeptBy (λ o. f)) (open_quit c t)
        (λ x h r. ended t x h (back t 0 x.local ++ Quit t ∷ []) (λ y j. after_abort c t x.local y j))
    hardware_keeps (records.Retry t) i =
        opened_run c t (Note t) (λ l. Note t ∷ back t 0 l) (KeptBy (λ o. front_of_open o f (λ l. with_sources (with_section f t None) t []))) (open_note c t)
        (λ x h r. retried t x h (with_sources (with_section f t None) t []) (record { kinds = refl; section = λ u n. section_other f t u None n }) (section_at f t t None refl) r)
    hardware_keeps (records.Refresh t o) i = absurd i
    hardware_keeps (records.XBegin t) i = λ r.
        let x = open_note c t r.0 in
        subst (λ (o : Option (Tx Op)). KeptAfter (front_of_open o f (λ l. with_section f t (opened_at (length l) (f.section t)))) (Note t ∷ [])) (sym x.1) (begun t x.0 x.1 r)
    hardware_keeps (records.XEnd t) i =
        opened_run c t (Note t) (λ l. Note t ∷ pushall t l) (KeptBy (λ o. front_of_open o f (λ l. with_section f t None))) (open_note c t) (λ x h r. ended_section t x h r)
    hardware_keeps (records.XAbort t) i =
        opened_run c t (Note t) (λ l. Note t ∷ back t (mark_of (f.section t)) l) (KeptBy (λ o. front_of_open o f (λ l. with_section f t None))) (open_note c t) (λ x h r. taken_section t x h r)
    hardware_keeps (records.Depend t source) i = absurd i
    hardware_keeps (records.Publish t) i = absurd i
    hardware_keeps (records.DropSource t source) i = absurd i

  -- Each record of a recorded style keeps what is true between records.
  pub record_keeps : (style : Style) → style ≢ styles.Rules → (f : Front) (c : Config Op) → Sound O c → Kept style f c → (r : RunRecord Op) → IsOfStyle style r → RunsFrom O c (expand place style f c r) →
      Kept style (front_after f c r) (after_from c (expand place style f c r))
  record_keeps styles.Rules recorded f c s kept r i run = absurd (recorded refl)
  record_keeps styles.Boosted recorded f c s kept r i run = boosted_keeps f c s kept r i run
  record_keeps styles.Optimistic recorded f c s kept r i run = optimistic_keeps O place f c kept r i run
  record_keeps styles.Hardware recorded f c s kept r i run = hardware_keeps f c s kept.0 kept.1 r i run
  record_keeps styles.Dependent recorded f c s kept r i run = tt
