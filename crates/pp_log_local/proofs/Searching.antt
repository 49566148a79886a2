-- Searches among the own entries of a local log that find nothing.
use Rattle.std.proofs.Common.{◌≡◌, ℕ, ◌<◌, ◌≤◌, ◌+◌, ◌-◌, true, false, List, take, drop, Option}
use Rattle.std.proofs.Common.{Some, None, option_map, position, slice_get, sym, ◌∙◌, ap, subst}
use Rattle.std.proofs.Common.{is_some, not, Bool, refl}
use Rattle.pp_core.specs.declared.entry.LocalEntry.{LocalEntry}
use Rattle.pp_model.specs.Config.{Unpushed, Pushed, is_mark, is_own}
use Rattle.pp_model.specs.Lists.{In}
use Rattle.pp_model.proofs.Finding.{nowhere}
use Rattle.pp_kind.specs.Object.{Object, IsLawful, Swaps}
use Rattle.pp_log_local.specs.Known.{KnowsOwn}
use Rattle.pp_log_local.specs.Movers.{holds_back, stands_first, stays_behind}
use Rattle.pp_log_local.proofs.Known.{other_mark, swapping_own, swapping_pushed, swapping_unpushed}
use Rattle.pp_log_local.proofs.Places.{before_from, from_before, in_front, in_rest, none_before}
use Rattle.pp_log_local.proofs.Places.{none_from}

module _ {Shape State Op Undo : Type 0} (o : Object Shape State Op Undo) (C : Op → Type 0) (log seen : Shape × List (LocalEntry Op)) (is : log ≡ seen) (n from to : ℕ) (known : KnowsOwn C log.1 n from to) (op : Op) where
  not_held : (j : ℕ) (e : LocalEntry Op) → j < from → slice_get seen.1 j ≡ Some e → holds_back o op e ≡ false
  not_held j e lt at = other_mark (is_mark e.mark Unpushed) (is_some (o.refuting op e.op)) (known.unpushed j e lt (ap (λ (z : Shape × List (LocalEntry Op)). slice_get z.1 j) is ∙ at))

  not_staying : (j : ℕ) (e : LocalEntry Op) → to ≤ j → slice_get seen.1 j ≡ Some e → stays_behind o op e ≡ false
  not_staying j e le at = other_mark (is_mark e.mark Pushed) (is_some (o.refuting e.op op)) (known.pushed j e le (ap (λ (z : Shape × List (LocalEntry Op)). slice_get z.1 j) is ∙ at))

  -- No such entry can be in that part of the log.
  pub none_held_before : (i : ℕ) → i ≤ from → None ≡ position (holds_back o op) (take i seen.1)
  none_held_before i le = none_before (holds_back o op) seen.1 from i le not_held

  -- From the frontier of the pushed entries on, no pushed entry may stay after the operation.
  pub none_staying_from : (i : ℕ) → to ≤ i → None ≡ option_map (λ k. i + k) (position (stays_behind o op) (drop i seen.1))
  none_staying_from i le = none_from (stays_behind o op) seen.1 i to le not_staying

  -- The search between two positions finds the first entry before the second that holds the operation back.
  pub held_between : (i : ℕ) (xs : List (LocalEntry Op)) (r : Option ℕ) → from ≤ i → xs ≡ seen.1 → r ≡ position (holds_back o op) (take (i - from) (drop from xs)) → option_map (λ k. from + k) r ≡ position (holds_back o op) (take i seen.1)
  held_between i xs r le list found =
      before_from (holds_back o op) seen.1 from i r le not_held
      (found ∙ ap (λ (z : List (LocalEntry Op)). position (holds_back o op) (take (i - from) (drop from z))) list)

  -- A search up to the frontier of the pushed entries finds what a search to the end finds.
  pub staying_between : (i : ℕ) (xs : List (LocalEntry Op)) (r : Option ℕ) → xs ≡ seen.1 → r ≡ position (stays_behind o op) (take (to - i) (drop i xs)) → option_map (λ k. i + k) r ≡ option_map (λ k. i + k) (position (stays_behind o op) (drop i seen.1))
  staying_between i xs r list found =
      from_before (stays_behind o op) seen.1 i to r not_staying
      (found ∙ ap (λ (z : List (LocalEntry Op)). position (stays_behind o op) (take (to - i) (drop i z))) list)

  covered_there : (e : LocalEntry Op) → In e seen.1 → is_own e.mark ≡ true → C e.op
  covered_there e there = known.covered e (subst (λ (z : Shape × List (LocalEntry Op)). In e z.1) (sym is) there)

  -- If all own entries swap, none is found.
  module _ (laws : IsLawful o) where
    -- If the operation swaps with all covered ones, no unpushed entry holds it back.
    pub none_holds_back : (i : ℕ) → ((b : Op) → C b → Swaps o op b) → None ≡ position (holds_back o op) (take i seen.1)
    none_holds_back i swap =
        sym (nowhere (holds_back o op) (take i seen.1) (λ e there.
        swapping_unpushed e.mark (o.refuting op e.op) (λ h. (laws.unrefuted op e.op).1 (swap e.op (covered_there e (in_front seen.1 i e there) h)))))

    -- If all covered operations swap with this one, no pushed entry must stay after it.
    pub none_stays_behind : (i : ℕ) → ((b : Op) → C b → Swaps o b op) → None ≡ option_map (λ k. i + k) (position (stays_behind o op) (drop i seen.1))
    none_stays_behind i swap =
        sym (ap (option_map (λ (k : ℕ). i + k)) (nowhere (stays_behind o op) (drop i seen.1) (λ e there.
        swapping_pushed e.mark (o.refuting e.op op) (λ h. (laws.unrefuted e.op op).1 (swap e.op (covered_there e (in_rest seen.1 i e there) h))))))

    -- If all covered operations swap with this one, no own entry must come before it.
    pub none_stands_first : ((b : Op) → C b → Swaps o b op) → None ≡ position (stands_first o op) seen.1
    none_stands_first swap =
        sym (nowhere (stands_first o op) seen.1 (λ e there.
        swapping_own e.mark (o.refuting e.op op) (λ h. (laws.unrefuted e.op op).1 (swap e.op (covered_there e there h)))))

-- There are refuting lists exactly if the pair does not swap.
pub refuted_by_lists : {A : Type 0} (b : Bool) (r : Option A) → (b ≡ true → r ≡ None) → (r ≡ None → b ≡ true) → not b ≡ is_some r
refuted_by_lists true r h k = sym (ap is_some (h refl))
refuted_by_lists false None h k = let never : false ≡ true = k refl in cc
refuted_by_lists false (Some x) h k = refl
