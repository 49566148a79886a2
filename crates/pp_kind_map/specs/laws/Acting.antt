-- Proof machinery: a map acts by its keys.
use Rattle.std.proofs.Common.{◌≡◌, ℤ, int_eq, Bool, cond, Option, Some, None, refl, sym, ◌∙◌, ap}
use Rattle.std.proofs.Common.{◌&&◌}
use Rattle.std.specs.Ordering.{int_cmp}
use Rattle.std.specs.Cmp.{int_cmp_total}
use Rattle.std.specs.FinMap.{FinMap, get, get-insert, get-remove, same_map, int_cmp-IsAntisymmetric}
use Rattle.pp_core.specs.declared.call.Call.{Call}
use Rattle.pp_kind.proofs.Numbers.{one_ranged, two_ranged}
use Rattle.pp_kind.specs.Numbers.{in_range, has_ranged_arguments, is_ranged_answer}
use Rattle.pp_kind.specs.Found.{answer_of}
use Rattle.pp_kind.specs.Object.{IsLegal}
use Rattle.pp_kind.proofs.Results.{same_found, found_numbers}
use Rattle.pp_kind_keyed.specs.Keys.{IsKeyed, told_keys}
use Rattle.pp_kind_keyed.proofs.Rule.{stands_at, covered}
use Rattle.pp_kind_map.specs.declared.op.MapOp.{MapOp}
use Rattle.pp_kind_map.specs.declared.op.MapOp.TheVariants.{Put, Get, Remove}
use Rattle.pp_kind_map.specs.Operations.{key_of, found_by, left_by, call_of, recorded_by, given_by}
use Rattle.pp_kind_map.specs.Operations.{with_value, values_after, values_before, is_ranged}
use Rattle.pp_kind_map.specs.KeyMap.{key_map, map_keys}

-- A map with a value set at a key has it there, and at other keys what it had.
pub get-with_value : (values : FinMap int_cmp ℤ) (key : ℤ) (v : Option ℤ) (q : ℤ)
    → get (with_value values key v) q ≡ cond (int_eq q key) v (get values q)
get-with_value values key None q = get-remove int_cmp_total values key q
get-with_value values key (Some x) q = get-insert int_cmp_total values key x q

next_cell : (values : FinMap int_cmp ℤ) (op : MapOp) (q : ℤ) → IsLegal key_map values op
    → get (values_after values op) q ≡ cond (int_eq q (key_of op)) (left_by op) (get values q)
next_cell values (Put key v was) q h = get-insert int_cmp_total values key v q
next_cell values (Get key found) q h =
    sym (stands_at (get values) key q found (int_eq q key) refl
    (same_found (get values key) found h.1))
next_cell values (Remove key was) q h = get-remove int_cmp_total values key q

back_over : (values : FinMap int_cmp ℤ) (key q : ℤ) (was v : Option ℤ) → get values key ≡ was
    → get (with_value (with_value values key v) key was) q ≡ get values q
back_over values key q was v h =
    get-with_value (with_value values key v) key was q
    ∙ ap (cond (int_eq q key) was) (get-with_value values key v q)
    ∙ covered (int_eq q key) was v (get values q)
    ∙ stands_at (get values) key q was (int_eq q key) refl h

back_cell : (values : FinMap int_cmp ℤ) (op : MapOp) (q : ℤ) → IsLegal key_map values op
    → get (values_before (values_after values op) op) q ≡ get values q
back_cell values (Put key v was) q h =
    back_over values key q was (Some v) (same_found (get values key) was h.1)
back_cell values (Get key found) q h = refl
back_cell values (Remove key was) q h =
    back_over values key q was None (same_found (get values key) was h.1)

-- Operations of one call have one key.
same_given : (values : FinMap int_cmp ℤ) (a b : MapOp) → call_of a ≡ call_of b
    → given_by values a ≡ given_by values b
same_given values a b e = ap (λ (q : ℤ). answer_of (get values q))
    (sym (first_is_key a) ∙ ap (λ (c : Call). c.first) e ∙ first_is_key b)
  where
    first_is_key : (op : MapOp) → (call_of op).first ≡ key_of op
    first_is_key (Put key v was) = refl
    first_is_key (Get key found) = refl
    first_is_key (Remove key was) = refl

-- An operation is ranged if its arguments and its recorded result are.
numbers : (op : MapOp) → is_ranged op
    ≡ (has_ranged_arguments (call_of op) && is_ranged_answer (recorded_by op))
numbers (Put key v was) = ap (λ (b : Bool). (in_range key && in_range v) && b) (found_numbers was)
    ∙ ap (λ (b : Bool). b && is_ranged_answer (answer_of was)) (sym (two_ranged key v))
numbers (Get key found) = ap (λ (b : Bool). in_range key && b) (found_numbers found)
    ∙ ap (λ (b : Bool). b && is_ranged_answer (answer_of found)) (sym (one_ranged key))
numbers (Remove key was) = ap (λ (b : Bool). in_range key && b) (found_numbers was)
    ∙ ap (λ (b : Bool). b && is_ranged_answer (answer_of was)) (sym (one_ranged key))

-- A map acts by its keys.
pub map_is_keyed : IsKeyed key_map (told_keys map_keys)
map_is_keyed = record {
  one_state = λ s t is it same. same_map int_cmp_total int_cmp-IsAntisymmetric s t same;
  legal = λ s a. (
    (λ h. same_found (get s (key_of a)) (found_by a) h.1),
    (λ e. (refl, ap answer_of e)),
  );
  next_cell = next_cell;
  back_cell = back_cell;
  read_key = λ q c. refl;
  read_finds = λ q c d. ((λ h. h), (λ h. h));
  start_is_state = tt;
  next_is_state = λ s a h k. tt;
  back_is_state = λ s a h k. tt;
  one_given = same_given;
  ranged_numbers = numbers;
}
