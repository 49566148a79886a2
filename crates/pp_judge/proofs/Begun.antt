-- A run begins no more transactions than its records do, and of an input without a fault it has at
-- most 200,000 steps.
use Rattle.std.specs.Prelude.{◌≡◌, ◌≤◌, ◌+◌, ℕ, zero, suc, Bool, true, false, cond, List, [], ◌∷◌}
use Rattle.std.specs.Prelude.{◌++◌, length, filter, count_by}
use Rattle.std.proofs.Common.{refl, sym, ap, subst, ◌∙◌, arith}
use Rattle.std.proofs.lemmas.List.Recursion.{is_count_by}
use mathlib.Core.Logic.{inl, inr}
use Rattle.pp_core.specs.Steps.{Step, Begin, App, Unapp, Push, Unpush, Pull, Unpull, Cmt, Quit, Note}
use Rattle.pp_core.specs.declared.call.Kind.{Kind}
use Rattle.pp_core.specs.declared.call.Style.{Style}
use Rattle.pp_records.specs.Carried.{Carries, LogsCarry, RecordCarries}
use Rattle.pp_records.specs.Expansions.{expand}
use Rattle.pp_records.specs.Fronts.{Front}
use Rattle.pp_records.specs.Records.{RunRecord, Plain}
use Rattle.pp_records.specs.Records as records
use Rattle.pp_records.specs.Runs.{EndsAtFailure, HasOneMore, HasTooManySteps, IsRun, LinedSteps}
use Rattle.pp_records.specs.Runs.{Records, Standing, Translation, after_record, bare, joined_steps}
use Rattle.pp_records.specs.Runs.{on_line, outset, steps_at}
use Rattle.pp_records.specs.Styles.{translation}
use Rattle.pp_records.proofs.Carrying.{expand_carry}
use Rattle.pp_records.proofs.Ends.{bare_append, bare_on_line, more_behind}
use Rattle.pp_records.proofs.Restating.{run_front}
use Rattle.pp_format_write.specs.Statable.{is_begin}
use Rattle.pp_model.specs.Config.{Config, first, then}
use Rattle.pp_model.specs.Lists.{Each}
use Rattle.pp_model.specs.Object.{Object}
use Rattle.pp_objects.specs.Objects.{kinds_of, place_of}
use Rattle.pp_objects.specs.declared.act.Op.{Op}
use Rattle.pp_format_read.specs.declared.header.Header.{Header}
use Rattle.pp_judge.specs.Objects.{object_of, start_of, translation_of}
use Rattle.pp_judge.specs.Scans.{begins, is_begin_record}
use Rattle.pp_judge.proofs.Tallying.{test_begin}

-- ---- how many of some steps are begins

-- how many of these steps begin a transaction
abbrev pub how_many : List (Step Op) → ℕ
how_many [] = 0
how_many (s ∷ ss) = cond (is_begin s) (1 + how_many ss) (how_many ss)

-- The two counts of the steps that begin a transaction are equal.
pub how_many_are : (steps : List (Step Op)) → how_many steps ≡ count_by is_begin steps
how_many_are steps = is_count_by how_many is_begin refl (λ s ss. refl) steps

how_many_append : (xs ys : List (Step Op)) → how_many (xs ++ ys) ≡ how_many xs + how_many ys
how_many_append [] ys = omega arith
how_many_append (x ∷ xs) ys = by (is_begin x) (how_many (xs ++ ys)) (how_many xs) (how_many ys) (how_many_append xs ys)
  where
    by : (b : Bool) (all one other : ℕ) → all ≡ one + other → cond b (1 + all) all ≡ cond b (1 + one) one + other
    by true all one other e = omega (arith, e)
    by false all one other e = e

-- ---- the steps of a record

abbrev Anything : {A : Type 0} → A → Type 0
Anything x = Unit {0}

abbrev Nothing : {A : Type 0} → A → Type 0
Nothing x = ⊥

-- a step that carries no body, given or not, is no begin
abbrev IsNoBegin : Step Op → Type 0
IsNoBegin s = Carries (λ t. Anything t) (λ id. Anything id) (λ op. Anything op) (λ b. Nothing b) s

no_begin : (s : Step Op) → IsNoBegin s → is_begin s ≡ false
no_begin (Begin t p b) h = absurd h.2
no_begin (App t id op) h = refl
no_begin (Unapp t id) h = refl
no_begin (Push t id) h = refl
no_begin (Unpush t id) h = refl
no_begin (Pull t id) h = refl
no_begin (Unpull t id) h = refl
no_begin (Cmt t) h = refl
no_begin (Quit t) h = refl
no_begin (Note t) h = refl

no_begins : (ss : List (Step Op)) → Each (λ s. IsNoBegin s) ss → how_many ss ≡ 0
no_begins [] h = refl
no_begins (s ∷ ss) h = ap (λ (b : Bool). cond b (1 + how_many ss) (how_many ss)) (no_begin s h.0) ∙ no_begins ss h.1

each_any : {A : Type 0} (P : A → Type 0) → ((x : A) → P x) → (xs : List A) → Each P xs
each_any P f [] = tt
each_any P f (x ∷ xs) = (f x, each_any P f xs)

logs_any : (c : Config Op) → LogsCarry (λ id. Anything id) c
logs_any c = (each_any _ (λ g. tt) c.shared, each_any _ (λ x. each_any _ (λ e. tt) x.local) c.opened)

none_begun : (style : Style) (f : Front) (c : Config Op) (r : RunRecord Op) → RecordCarries (λ t. Anything t) (λ id. Anything id) (λ op. Anything op) (λ b. Nothing b) r
    → how_many (expand place_of style f c r) ≤ 0
none_begun style f c r h =
    let each = expand_carry (λ t. Anything t) (λ id. Anything id) (λ op. Anything op) (λ b. Nothing b) place_of style f c r (logs_any c) h in
    omega (arith, no_begins (expand place_of style f c r) each)

one_at_most : (b : Bool) → cond b (1 + 0) 0 ≤ cond b 1 0
one_at_most true = omega arith
one_at_most false = omega arith

begun_at : (style : Style) (f : Front) (c : Config Op) (r : RunRecord Op) → how_many (expand place_of style f c r) ≤ cond (is_begin_record r) 1 0
begun_at style f c (Plain step) = one_at_most (is_begin step)
begun_at style f c (records.Op t id op) = none_begun style f c (records.Op t id op) (tt, tt, tt)
begun_at style f c (records.Commit t) = none_begun style f c (records.Commit t) tt
begun_at style f c (records.Abort t) = none_begun style f c (records.Abort t) tt
begun_at style f c (records.Retry t) = none_begun style f c (records.Retry t) tt
begun_at style f c (records.Refresh t o) = none_begun style f c (records.Refresh t o) tt
begun_at style f c (records.XBegin t) = none_begun style f c (records.XBegin t) tt
begun_at style f c (records.XEnd t) = none_begun style f c (records.XEnd t) tt
begun_at style f c (records.XAbort t) = none_begun style f c (records.XAbort t) tt
begun_at style f c (records.Depend t source) = none_begun style f c (records.Depend t source) (tt, tt)
begun_at style f c (records.Publish t) = none_begun style f c (records.Publish t) tt
begun_at style f c (records.DropSource t source) = none_begun style f c (records.DropSource t source) (tt, tt)

-- ---- the steps of records, and of their run

begun_joined : (style : Style) (ks : List Kind) (p : Standing Front Op) (rs : Records (RunRecord Op)) → how_many (bare (joined_steps (translation place_of style ks) p rs)) ≤ begins rs
begun_joined style ks p [] = omega arith
begun_joined style ks p (r ∷ rs) =
    let T : Translation Front (RunRecord Op) Op = translation place_of style ks in
    let ss : List (Step Op) = steps_at T p r.what in
    let rest : LinedSteps Op = joined_steps T (after_record T p r.what) rs in
    let parted : bare (on_line r.line ss ++ rest) ≡ ss ++ bare rest = bare_append (on_line r.line ss) rest ∙ ap (λ (w : List (Step Op)). w ++ bare rest) (bare_on_line r.line ss) in
    let all : how_many (bare (on_line r.line ss ++ rest)) ≡ how_many ss + how_many (bare rest) = ap how_many parted ∙ how_many_append ss (bare rest) in
    let sum = by (is_begin_record r.what) (how_many ss) (how_many (bare rest)) (filter test_begin rs) (begun_at style p.front p.config r.what) (begun_joined style ks (after_record T p r.what) rs) in
    subst (λ (n : ℕ). n ≤ begins (r ∷ rs)) (sym all) sum
  where
    by : (b : Bool) (here behind : ℕ) (found : Records (RunRecord Op)) → here ≤ cond b 1 0 → behind ≤ length found → here + behind ≤ length (cond b (r ∷ found) found)
    by true here behind found x y = omega (arith, x, y)
    by false here behind found x y = omega (arith, x, y)

begun_front : (xs ys : LinedSteps Op) → how_many (bare xs) ≤ how_many (bare (xs ++ ys))
begun_front xs ys = omega (arith, ap how_many (bare_append xs ys) ∙ how_many_append (bare xs) (bare ys))

-- The run of some records begins at most as many transactions as the records.
pub begun_run : (header : Header) (rs : Records (RunRecord Op)) (run : LinedSteps Op) → IsRun (object_of header) (translation_of header) (start_of header) rs run → how_many (bare run) ≤ begins rs
begun_run header rs run (inl none) = subst (λ (w : LinedSteps Op). how_many (bare w) ≤ begins rs) (sym none.2) (least (begins rs))
  where
    least : (n : ℕ) → 0 ≤ n
    least n = omega arith
begun_run header rs run (inr ends) =
    let T = translation_of header in
    let ss : LinedSteps Op = joined_steps T (outset T (start_of header)) rs in
    let front = run_front (object_of header) (first (start_of header)) ss run ends.1 in
    let all = begun_joined header.style (kinds_of header.catalog) (outset T (start_of header)) rs in
    omega (arith, begun_front run front.0, ap (λ (w : LinedSteps Op). how_many (bare w)) front.1, all)

-- ---- how long a run is

few_ran : {State : Type 0} (O : Object Op State) (most : ℕ) (c : Config Op) (ss run : LinedSteps Op) → EndsAtFailure O c ss run → ((line : ℕ) → HasOneMore O most c run line → ⊥) → length run ≤ most
few_ran O most c [] run e none = subst (λ (w : LinedSteps Op). length w ≤ most) (sym e) (least most)
  where
    least : (n : ℕ) → 0 ≤ n
    least n = omega arith
few_ran O zero c (s ∷ ss) run (inl e) none = absurd (none s.line (record { before = []; next = s; behind = []; parts = e.2; count = refl; hold = tt; place = refl }))
few_ran O zero c (s ∷ ss) run (inr e) none = absurd (none s.line (record { before = []; next = s; behind = e.1.0; parts = e.1.2; count = refl; hold = tt; place = refl }))
few_ran O (suc m) c (s ∷ ss) run (inl e) none = subst (λ (w : LinedSteps Op). length w ≤ suc m) (sym e.2) (one m)
  where
    one : (n : ℕ) → 1 ≤ suc n
    one n = omega arith
few_ran O (suc m) c (s ∷ ss) run (inr e) none =
    let behind : length e.1.0 ≤ m = few_ran O m (then c s.what) ss e.1.0 e.1.1 (λ line more. none line (record {
      before = s ∷ more.before;
      next = more.next;
      behind = more.behind;
      parts = e.1.2 ∙ ap (λ (w : LinedSteps Op). s ∷ w) more.parts;
      count = ap (λ (n : ℕ). suc n) more.count;
      hold = (e.0, more.hold);
      place = more.place;
    })) in
    subst (λ (w : LinedSteps Op). length w ≤ suc m) (sym e.1.2) (more (length e.1.0) m behind)
  where
    more : (k m : ℕ) → k ≤ m → suc k ≤ suc m
    more k m h = omega (arith, h)

-- A run has at most 200,000 steps if its records do not have too many steps.
pub few_run : (header : Header) (rs : Records (RunRecord Op)) (run : LinedSteps Op) → IsRun (object_of header) (translation_of header) (start_of header) rs run
    → ((line : ℕ) → HasTooManySteps (object_of header) (translation_of header) (start_of header) rs line → ⊥) → length run ≤ 200_000
few_run header rs run (inl start) none = subst (λ (w : LinedSteps Op). length w ≤ 200_000) (sym start.2) (least 200_000)
  where
    least : (n : ℕ) → 0 ≤ n
    least n = omega arith
few_run header rs run (inr ends) none =
    let O = object_of header in
    let T = translation_of header in
    let c = first (start_of header) in
    let ss : LinedSteps Op = joined_steps T (outset T (start_of header)) rs in
    let front = run_front O c ss run ends.1 in
    few_ran O 200_000 c ss run ends.1 (λ line more.
    none line (ends.0, subst (λ (w : LinedSteps Op). HasOneMore O 200_000 c w line) (sym front.1) (more_behind O 200_000 c run front.0 line more)))
