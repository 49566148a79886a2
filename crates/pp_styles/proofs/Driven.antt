-- How far a machine was driven, from step to step.
use Rattle.std.proofs.Common.{◌≡◌, ◌≢◌, ◌<◌, ◌≤◌, ◌+◌, ℕ, zero, suc, List, [], ◌∷◌, ◌++◌}
use Rattle.std.proofs.Common.{length, map, drop, filter, Option, None, Some, refl, sym, ap, subst, ◌∙◌}
use Rattle.std.proofs.Common.{arith, inl, inr, append_assoc, length-append}
use Rattle.std.specs.List.{slice_get}
use Rattle.std.proofs.lemmas.List.{drop_all}
use Rattle.std.proofs.lemmas.List.Elements.{filter-append}
use Rattle.std.proofs.lemmas.Option.{same_Some}
use Rattle.pp_core.specs.Steps.{Step, Begin, App, Unapp, Push, Unpush, Pull, Unpull, Cmt, Quit, Note}
use Rattle.pp_core.specs.Steps.{meaning, rule_of}
use Rattle.pp_core.specs.declared.step.Step.{Step as StepOf}
use Rattle.pp_model.specs.Config.{Config, after_from, then}
use Rattle.pp_model.specs.Lists.{In}
use Rattle.pp_model.specs.Rules.{Meets}
use Rattle.pp_records.proofs.Ends.{after_append, runs_append}
use Rattle.pp_machine.specs.Costs.{CostsBy, CostsDone, CostsInVain, at_most}
use Rattle.pp_machine.specs.Machines.{Seen, stepped}
use Rattle.pp_machine.specs.Shown.{IsShown}
use Rattle.pp_machine.specs.Stepping.{Stepped}
use Rattle.pp_machine.specs.declared.detail.Detail.{Detail}
use Rattle.pp_machine.specs.declared.machine.Outcome.{Outcome}
use Rattle.pp_machine.specs.declared.machine.Outcome.TheVariants.{Done, False}
use Rattle.pp_kind.specs.Object.{Object, rules_of}
use Rattle.pp_styles.specs.declared.drive.Halt.{Halt}
use Rattle.pp_styles.specs.declared.drive.Halt.TheVariants.{Failed, TooMany}
use Rattle.pp_styles.specs.Costs.{is_single, most_ticks, singles}
use Rattle.pp_styles.specs.Driving.{CostAtMost, Drives, Halts, HasDone, after_steps, halt_of}
use Rattle.pp_styles.specs.Meanings.{meanings}
use Rattle.pp_styles.proofs.Growing.{drop_there}

-- ---- lists

-- the step at a place is one of them
pub element : {A B : Type 0} (f : A → B) (xs : List A) (i : ℕ) (x : A) → slice_get xs i ≡ Some x → In (f x) (map f xs)
element f [] i x h = absurd (cc)
element f (y ∷ xs) zero x h = inl (ap f (sym (same_Some y x h)))
element f (y ∷ xs) (suc i) x h = inr (element f xs i x h)

-- the steps from a place on
pub from_there : {Op : Type 0} (list : List (StepOf Op)) (i next : ℕ) (s : StepOf Op) → slice_get list i ≡ Some s → next ≡ suc i → meanings (drop i list) ≡ meaning s ∷ meanings (drop next list)
from_there list i next s here is_next =
    ap meanings (drop_there list i s here) ∙ ap (λ (n : ℕ). meaning s ∷ meanings (drop n list)) (sym is_next)

-- No steps are left after the last one of a list.
pub none_left : {Op : Type 0} (list : List (StepOf Op)) (i : ℕ) → length list ≤ i → meanings (drop i list) ≡ []
none_left list i past = ap meanings (drop_all i list past)

-- ---- numbers

zero_plus : (a : ℕ) → a ≡ 0 + a
zero_plus a = omega arith

plus_zero : (a : ℕ) → a ≡ a + 0
plus_zero a = omega arith

plus_more : (a b d : ℕ) → a + (b + d) ≡ (a + b) + d
plus_more a b d = omega arith

no_more : (a : ℕ) → a + 0 ≤ a
no_more a = omega arith

no_less : (a : ℕ) → a ≤ a + 0
no_less a = omega arith

counted : (a b c : ℕ) → c ≡ b + 1 → (a + b) + 1 ≡ a + c
counted a b c e = omega (arith, e)

one_more : (n m most : ℕ) → n ≡ m + 1 → m < most → n ≤ most
one_more n m most e l = omega (arith, e, l)

with_one : (old b c n most : ℕ) → n ≡ old + b → n < most → c ≡ b + 1 → old + c ≤ most
with_one old b c n most x l e = omega (arith, x, l, e)

not_more : (old b n most : ℕ) → n ≡ old + b → n ≤ most → old + b ≤ most
not_more old b n most x l = omega (arith, x, l)

adds_least : (from now to a b k : ℕ) → from + a ≤ now → now + b ≤ to → k ≡ a + b → from + k ≤ to
adds_least from now to a b k x y z = omega (arith, x, y, z)

still_least : (from now to a : ℕ) → from + a ≤ now → now ≤ to → from + a ≤ to
still_least from now to a x y = omega (arith, x, y)

adds_most : (from now to a w k : ℕ) → now ≤ from + a → to ≤ now + w → k ≡ a + (w + 0) → to ≤ from + k
adds_most from now to a w k x y z = omega (arith, x, y, z)

-- a run may have one step more
pub below : (m r limit : ℕ) → m ≤ limit → r ≡ m → r ≢ limit → m < limit
below m r limit le same other = omega (arith, le, same, other)

-- ---- costs

module _ {Op : Type 0} where
  -- Joined steps have as many single steps as both lists together.
  pub singles_append : (xs ys : List (Step Op)) → singles (xs ++ ys) ≡ singles xs + singles ys
  singles_append xs ys = ap (λ (l : List (Step Op)). length l) (filter-append is_single xs ys) ∙ length-append (filter is_single xs) (filter is_single ys)

  module _ (place : Op → ℕ) where
    -- Joined steps take at most the ticks of the first, and those of the second after it.
    pub most_append : (c : Config Op) (xs ys : List (Step Op)) → most_ticks place c (xs ++ ys) ≡ most_ticks place c xs + most_ticks place (after_from c xs) ys
    most_append c [] ys = zero_plus (most_ticks place c ys)
    most_append c (x ∷ xs) ys =
        ap (λ (k : ℕ). at_most place c x + k) (most_append (then c x) xs ys)
        ∙ plus_more (at_most place c x) (most_ticks place (then c x) xs) (most_ticks place (after_from (then c x) xs) ys)

    -- a step that is done costs one at least where it is single
    pub done_least : (c : Config Op) (step : Step Op) (old new : ℕ) → CostsDone place c step old new → old + singles (step ∷ []) ≤ new
    done_least c (Begin t p b) old new cost = omega (arith, cost)
    done_least c (App t id op) old new cost = omega (arith, cost)
    done_least c (Unapp t id) old new cost = omega (arith, cost)
    done_least c (Push t id) old new cost = omega (arith, cost)
    done_least c (Unpush t id) old new cost = let least = cost.0 in omega (arith, least)
    done_least c (Pull t id) old new cost = omega (arith, cost)
    done_least c (Unpull t id) old new cost = let least = cost.0 in omega (arith, least)
    done_least c (Cmt t) old new cost = omega (arith, cost)
    done_least c (Quit t) old new cost = omega (arith, cost)
    done_least c (Note t) old new cost = omega (arith, cost)

    stays : (old new : ℕ) → new ≡ old → old ≤ new
    stays old new e = omega (arith, e)

    -- a step that is not done takes no tick back
    pub vain_least : (c : Config Op) (step : Step Op) (old new : ℕ) → CostsInVain place c step old new → old ≤ new
    vain_least c (Begin t p b) old new e = stays old new e
    vain_least c (App t id op) old new e = stays old new e
    vain_least c (Unapp t id) old new e = stays old new e
    vain_least c (Push t id) old new e = stays old new e
    vain_least c (Unpush t id) old new e = e.0
    vain_least c (Pull t id) old new e = stays old new e
    vain_least c (Unpull t id) old new e = e.0
    vain_least c (Cmt t) old new e = stays old new e
    vain_least c (Quit t) old new e = stays old new e
    vain_least c (Note t) old new e = stays old new e

-- ---- a walk over the steps

module _ (limit : ℕ) {Shape State Op Undo : Type 0} (o : Object Shape State Op Undo) (place : Op → ℕ) (old : Seen Shape Op) (steps : List (Step Op)) (from : ℕ) where
  -- so far these were done, and cost this at most
  pub record SoFar (rest : List (Step Op)) (mid : Seen Shape Op) (now : ℕ) : Type 0 where
    pub done : HasDone limit o old steps rest mid from now
    pub most : now ≤ from + most_ticks place old.config done.before

  -- At first none of the steps is done, and none has cost a tick.
  pub at_first : old.count ≤ limit → SoFar steps old from
  at_first few =
      record {
        done = record {
          before = [];
          parts = refl;
          hold = tt;
          is = λ i. record { shape = old.shape; config = old.config; count = (plus_zero old.count) i };
          few = few;
          least = no_more from;
        };
        most = no_less from;
      }

  -- the rest in other words
  pub at_rest : (rest other : List (Step Op)) (mid : Seen Shape Op) (now : ℕ) → rest ≡ other → SoFar rest mid now → SoFar other mid now
  at_rest rest other mid now same so = subst (λ (w : List (Step Op)). SoFar w mid now) same so

  module _ (s : Step Op) (rest : List (Step Op)) (mid new : Seen Shape Op) (now to : ℕ) (so : SoFar (s ∷ rest) mid now) where
    whole : steps ≡ (so.done.before ++ s ∷ []) ++ rest
    whole = so.done.parts ∙ sym (append_assoc so.done.before (s ∷ []) rest)

    longer : length (so.done.before ++ s ∷ []) ≡ length so.done.before + 1
    longer = length-append so.done.before (s ∷ [])

    number : mid.count ≡ old.count + length so.done.before
    number = ap (λ (v : Seen Shape Op). v.count) so.done.is

    cost : most_ticks place old.config (so.done.before ++ s ∷ []) ≡ most_ticks place old.config so.done.before + (at_most place mid.config s + 0)
    cost =
        most_append place old.config so.done.before (s ∷ [])
        ∙ ap (λ (v : Seen Shape Op). most_ticks place old.config so.done.before + (at_most place v.config s + 0)) (sym so.done.is)

    led : stepped (after_steps old so.done.before) s ≡ after_steps old (so.done.before ++ s ∷ [])
    led = λ i.
        record {
          shape = old.shape;
          config = (sym (after_append old.config so.done.before (s ∷ []))) i;
          count = (counted old.count (length so.done.before) (length (so.done.before ++ s ∷ [])) longer) i;
        }

    -- a run may have no step more
    pub full_there : mid.count ≡ limit → Drives limit o old steps from (Some TooMany) mid now
    full_there full = (s, rest, so.done, full)

    module _ (few : mid.count < limit) where
      goes_on : Meets (rules_of o mid.shape) mid.config s → new ≡ stepped mid s → CostsDone place mid.config s now to → to ≤ now + at_most place mid.config s → SoFar rest new to
      goes_on meets is least most =
          record {
            done = record {
              before = so.done.before ++ s ∷ [];
              parts = whole;
              hold = runs_append (rules_of o old.shape) old.config so.done.before (s ∷ []) so.done.hold
                  (subst (λ (v : Seen Shape Op). Meets (rules_of o v.shape) v.config s) so.done.is meets, tt);
              is = is ∙ ap (λ (v : Seen Shape Op). stepped v s) so.done.is ∙ led;
              few = one_more new.count mid.count limit (ap (λ (v : Seen Shape Op). v.count) is) few;
              least = adds_least from now to (singles so.done.before) (singles (s ∷ [])) (singles (so.done.before ++ s ∷ [])) so.done.least (done_least place mid.config s now to least)
                  (singles_append so.done.before (s ∷ []));
            };
            most = adds_most from now to (most_ticks place old.config so.done.before) (at_most place mid.config s) (most_ticks place old.config (so.done.before ++ s ∷ [])) so.most most cost;
          }

      fails : (n : ℕ) (detail : Detail Op) → Stepped o mid s (False n detail) new → CostsInVain place mid.config s now to → IsShown o mid s (False n detail) → Drives limit o old steps from (Some (Failed (rule_of s) n detail)) new to
      fails n detail effect least shown =
          let is : new ≡ mid = effect.2 in (
            s,
            rest,
            record {
              before = so.done.before;
              parts = so.done.parts;
              hold = so.done.hold;
              is = is ∙ so.done.is;
              few = subst (λ (v : Seen Shape Op). v.count ≤ limit) (sym is) so.done.few;
              least = still_least from now to (singles so.done.before) so.done.least (vain_least place mid.config s now to least);
            },
            subst (λ (v : Seen Shape Op). Halts limit o v s (Failed (rule_of s) n detail)) (sym is) (few, refl, (effect.0, effect.1, refl, effect.3), shown),
          )

      -- the step is done
      pub went_on : (outcome : Outcome Op) → halt_of s outcome ≡ None → Stepped o mid s outcome new → CostsBy place mid.config s outcome now to → to ≤ now + at_most place mid.config s → SoFar rest new to
      went_on Done is effect cost most = goes_on effect.0 effect.1 cost most
      went_on (False n detail) is effect cost most = absurd (cc)

      -- it fails
      pub halted : (outcome : Outcome Op) (halt : Halt Op) → halt_of s outcome ≡ Some halt → Stepped o mid s outcome new → CostsBy place mid.config s outcome now to → IsShown o mid s outcome → Drives limit o old steps from (Some halt) new to
      halted Done halt is effect cost shown = absurd (cc)
      halted (False n detail) halt is effect cost shown = subst (λ (w : Option (Halt Op)). Drives limit o old steps from w new to) is (fails n detail effect cost shown)

      -- it is tried
      pub tried : to ≤ now + at_most place mid.config s → CostAtMost limit o place old steps from to
      tried most =
          record {
            before = so.done.before;
            tried = so.done.before ++ s ∷ [];
            behind = rest;
            parts = whole;
            hold = so.done.hold;
            last = inr (s, refl);
            few = with_one old.count (length so.done.before) (length (so.done.before ++ s ∷ [])) mid.count limit number few longer;
            most = adds_most from now to (most_ticks place old.config so.done.before) (at_most place mid.config s) (most_ticks place old.config (so.done.before ++ s ∷ [])) so.most most cost;
          }

  -- no other is tried
  pub only_these : (rest : List (Step Op)) (mid : Seen Shape Op) (now : ℕ) → SoFar rest mid now → CostAtMost limit o place old steps from now
  only_these rest mid now so =
      record {
        before = so.done.before;
        tried = so.done.before;
        behind = rest;
        parts = so.done.parts;
        hold = so.done.hold;
        last = inl refl;
        few = not_more old.count (length so.done.before) mid.count limit (ap (λ (v : Seen Shape Op). v.count) so.done.is) so.done.few;
        most = so.most;
      }
