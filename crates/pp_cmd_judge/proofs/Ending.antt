-- The steps of one record more, and a run that ends with one of them.
use Rattle.std.specs.Prelude.{◌≡◌, ◌<◌, ◌+◌, ℕ, zero, suc, List, [], ◌∷◌, ◌++◌, length}
use Rattle.std.specs.Prelude.{slice_get, take, drop, Option, None, Some}
use Rattle.std.proofs.Common.{refl, sym, ap, subst, ◌∙◌, arith, append_assoc, length-append}
use Rattle.std.proofs.lemmas.List.{append-nil, map-append}
use Rattle.std.proofs.lemmas.Option.{same_Some}
use mathlib.Core.Logic.{inl, inr}
use Rattle.pp_model.specs.Object.{Object}
use Rattle.pp_model.specs.Config.{Config, Start, Step, after_from, first}
use Rattle.pp_model.specs.Lists.{In}
use Rattle.pp_model.specs.Rules.{Breaks, IsVerdict, IsVerdictFrom, Rejected, RunsFrom, StartMeets}
use Rattle.pp_records.specs.Runs.{EndsAtFailure, IsRun, Lined, LinedSteps, Records, Standing}
use Rattle.pp_records.specs.Runs.{Translation, after_record, bare, joined_steps, on_line, outset}
use Rattle.pp_records.specs.Runs.{steps_at}
use Rattle.pp_records.proofs.Ends.{after_append, bare_append, bare_on_line, ends_here, length_bare}
use Rattle.pp_records.proofs.Ends.{length_on_line, rejected_here, runs_append}
use Rattle.pp_records.proofs.Whole.{joined_more, led_config}
use Rattle.pp_summary.specs.Failures.{all_steps, standing_after}

-- ---- an element at a place

-- a place with an element is below the length of the list
pub place_below : {A : Type 0} (xs : List A) (k : ℕ) (x : A) → slice_get xs k ≡ Some x → k < length xs
place_below [] k x e = absurd (let no : None ≡ Some x = e in cc)
place_below (y ∷ ys) zero x e = omega arith
place_below (y ∷ ys) (suc k) x e = let below = place_below ys k x e in omega (arith, below)

-- a list is the elements before a place, the element there, and those after it
pub parted_there : {A : Type 0} (xs : List A) (k : ℕ) (x : A) → slice_get xs k ≡ Some x → xs ≡ take k xs ++ x ∷ drop (suc k) xs
parted_there [] k x e = absurd (let no : None ≡ Some x = e in cc)
parted_there {A} (y ∷ ys) zero x e = ap (λ (w : A). w ∷ ys) (same_Some y x e)
parted_there {A} (y ∷ ys) (suc k) x e = ap (λ (w : List A). y ∷ w) (parted_there ys k x e)

-- before a place with an element there are as many elements as its number says
pub count_before : {A : Type 0} (xs : List A) (k : ℕ) (x : A) → slice_get xs k ≡ Some x → length (take k xs) ≡ k
count_before [] k x e = absurd (let no : None ≡ Some x = e in cc)
count_before (y ∷ ys) zero x e = refl
count_before (y ∷ ys) (suc k) x e = ap (λ (n : ℕ). suc n) (count_before ys k x e)

-- what is at a place of a list is an element of the list
pub in_there : {A : Type 0} (xs : List A) (k : ℕ) (x : A) → slice_get xs k ≡ Some x → In x xs
in_there [] k x e = absurd (let no : None ≡ Some x = e in cc)
in_there (y ∷ ys) zero x e = inl (sym (same_Some y x e))
in_there (y ∷ ys) (suc k) x e = inr (in_there ys k x e)

-- if one element is added at the end of a list, it is at the place that the length of the list says
pub last_there : {A : Type 0} (xs : List A) (x : A) → slice_get (xs ++ x ∷ []) (length xs) ≡ Some x
last_there [] x = refl
last_there (y ∷ ys) x = last_there ys x

-- a list with one element added at its end begins with the list
pub front_there : {A : Type 0} (xs : List A) (x : A) → take (length xs) (xs ++ x ∷ []) ≡ xs
front_there [] x = refl
front_there {A} (y ∷ ys) x = ap (λ (w : List A). y ∷ w) (front_there ys x)

-- the place that the length of a front says has the element after the front
pub seam_there : {A : Type 0} (xs : List A) (x : A) (ys : List A) → slice_get (xs ++ x ∷ ys) (length xs) ≡ Some x
seam_there [] x ys = refl
seam_there (y ∷ xs) x ys = seam_there xs x ys

-- the elements before that place are the front
pub seam_before : {A : Type 0} (xs : List A) (x : A) (ys : List A) → take (length xs) (xs ++ x ∷ ys) ≡ xs
seam_before [] x ys = refl
seam_before {A} (y ∷ xs) x ys = ap (λ (w : List A). y ∷ w) (seam_before xs x ys)

-- a list that is longer than a number has a front of so many elements, and an element after it
pub parted_at : {A : Type 0} (xs : List A) (n : ℕ) → n < length xs → (front : List A) × (x : A) × (behind : List A) × (xs ≡ front ++ x ∷ behind) × (length front ≡ n)
parted_at [] n short = absurd (omega (arith, short))
parted_at (x ∷ xs) zero short = ([], x, xs, refl, refl)
parted_at {A} (x ∷ xs) (suc n) short =
    let k = parted_at xs n (omega (arith, short)) in
    (x ∷ k.0, k.1, k.2, ap (λ (w : List A). x ∷ w) k.3, ap (λ (m : ℕ). suc m) k.4)

one_more_is : (m n : ℕ) → m ≡ n → 1 + m ≡ suc n
one_more_is m n e = omega (arith, e)

on_line_append : {A : Type 0} (line : ℕ) (xs ys : List A) → on_line line (xs ++ ys) ≡ on_line line xs ++ on_line line ys
on_line_append {A} line xs ys = map-append (λ (s : A). let z : Lined A = record { line = line; what = s } in z) xs ys

-- ---- one record more

module _ {F R Op State : Type 0} (O : Object Op State) (T : Translation F R Op) (h : Option (Start Op)) (rs : Records R) (r : Lined R) where
  -- where the records lead, and the steps of the next one
  abbrev p : Standing F Op
  p = standing_after T h rs

  abbrev ss : List (Step Op)
  ss = steps_at T p r.what

  abbrev all : LinedSteps Op
  all = all_steps T h rs

  abbrev rest : Records R → LinedSteps Op
  rest more = joined_steps T (after_record T p r.what) more

  steps_with : (more : Records R) → all_steps T h (rs ++ r ∷ more) ≡ all ++ (on_line r.line ss ++ rest more)
  steps_with more = joined_more O T (outset T h) rs (r ∷ more)

  -- the records with one more mean as many steps as the records, and those of the one more
  pub count_next : length (all_steps T h (rs ++ r ∷ [])) ≡ length all + length ss
  count_next =
      ap (λ (w : LinedSteps Op). length w) (steps_with [] ∙ ap (λ (w : LinedSteps Op). all ++ w) (append-nil (on_line r.line ss)))
      ∙ length-append all (on_line r.line ss) ∙ ap (λ (n : ℕ). length all + n) (length_on_line r.line ss)

  -- ---- a step of it

  -- the steps before the step at a place, and those after it
  abbrev pub before_it : ℕ → LinedSteps Op
  before_it k = all ++ on_line r.line (take k ss)

  abbrev pub after_it : ℕ → Records R → LinedSteps Op
  after_it k more = on_line r.line (drop (suc k) ss) ++ rest more

  -- all steps are those before the step at a place of the record, this step, and those after it
  pub parted : (k : ℕ) (s : Step Op) → slice_get ss k ≡ Some s → (more : Records R) →
      all_steps T h (rs ++ r ∷ more) ≡ before_it k ++ record { line = r.line; what = s } ∷ after_it k more
  parted k s there more =
      let last : Lined (Step Op) = record { line = r.line; what = s } in
      let own_parts : on_line r.line ss ≡ on_line r.line (take k ss) ++ last ∷ on_line r.line (drop (suc k) ss) =
      ap (λ (w : List (Step Op)). on_line r.line w) (parted_there ss k s there) ∙ on_line_append r.line (take k ss) (s ∷ drop (suc k) ss) in
      steps_with more
      ∙ ap (λ (w : LinedSteps Op). all ++ (w ++ rest more)) own_parts
      ∙ ap (λ (w : LinedSteps Op). all ++ w) (append_assoc (on_line r.line (take k ss)) (last ∷ on_line r.line (drop (suc k) ss)) (rest more))
      ∙ sym (append_assoc all (on_line r.line (take k ss)) (last ∷ after_it k more))

  -- ---- a step of it that violates a criterion

  module _ (k : ℕ) (s : Step Op) (n : ℕ) (there : slice_get ss k ≡ Some s) (before : RunsFrom O p.config (take k ss)) (breaks : Breaks O (after_from p.config (take k ss)) s (suc n))
      (begun : StartMeets O h) (hold : RunsFrom O (first h) (bare all)) where
    -- the steps before the step that violates a criterion
    abbrev pub front : LinedSteps Op
    front = all ++ on_line r.line (take k ss)

    -- the step that violates a criterion, on the line of its record
    abbrev pub last : Lined (Step Op)
    last = record { line = r.line; what = s }

    -- the run that ends with the step that violates a criterion
    abbrev pub run : LinedSteps Op
    run = front ++ last ∷ []

    bare_front : bare front ≡ bare all ++ take k ss
    bare_front = bare_append all (on_line r.line (take k ss)) ∙ ap (λ (w : List (Step Op)). bare all ++ w) (bare_on_line r.line (take k ss))

    config_is : p.config ≡ after_from (first h) (bare all)
    config_is = led_config O T (outset T h) rs

    -- the steps before the step that violates a criterion meet theirs, from the start on
    pub front_holds : RunsFrom O (first h) (bare front)
    front_holds =
        subst (λ (w : List (Step Op)). RunsFrom O (first h) w) (sym bare_front)
        (runs_append O (first h) (bare all) (take k ss) hold (subst (λ (c : Config Op). RunsFrom O c (take k ss)) config_is before))

    -- the steps of the record before the violation lead to where all steps before it lead from the start
    pub front_leads : after_from p.config (take k ss) ≡ after_from (first h) (bare front)
    front_leads =
        ap (λ (c : Config Op). after_from c (take k ss)) config_is
        ∙ sym (after_append (first h) (bare all) (take k ss)) ∙ ap (λ (w : List (Step Op)). after_from (first h) w) (sym bare_front)

    -- the step violates its criterion in the configuration to which all steps before it lead from the start
    pub breaks_there : Breaks O (after_from (first h) (bare front)) s (suc n)
    breaks_there = subst (λ (c : Config Op). Breaks O c s (suc n)) front_leads breaks

    -- before the step that violates a criterion there are the steps of the records, and as many of its own record as its place says
    pub front_count : length front ≡ length all + k
    front_count =
        length-append all (on_line r.line (take k ss))
        ∙ ap (λ (m : ℕ). length all + m) (length_on_line r.line (take k ss) ∙ count_before ss k s there)

    abbrev behind : Records R → LinedSteps Op
    behind more = after_it k more

    whole : (more : Records R) → all_steps T h (rs ++ r ∷ more) ≡ front ++ last ∷ behind more
    whole more = parted k s there more

    -- the run that ends with the step is that of the records with its own, whatever records come after them
    pub run_is : (more : Records R) → IsRun O T h (rs ++ r ∷ more) run
    run_is more =
        inr (
          begun,
          subst (λ (w : LinedSteps Op). EndsAtFailure O (first h) w run) (sym (whole more)) (ends_here O (first h) front last (behind more) n front_holds breaks_there),
        )

    -- the verdict of the run that ends with the step is that it is rejected: at this step, for this criterion
    pub verdict : IsVerdict O h (bare run) (Rejected (suc (length front)) (suc n))
    verdict =
        let number : 1 + length (bare front) ≡ suc (length front) = one_more_is (length (bare front)) (length front) (length_bare front) in
        inr (
          begun,
          subst (λ (w : List (Step Op)). IsVerdictFrom O 1 (first h) w (Rejected (suc (length front)) (suc n))) (sym (bare_append front (last ∷ [])))
              (subst (λ (m : ℕ). IsVerdictFrom O 1 (first h) (bare front ++ s ∷ []) (Rejected m (suc n))) number (rejected_here O 1 (first h) (bare front) s [] n front_holds breaks_there)),
        )
