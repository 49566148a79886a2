-- Proof machinery: the laws of a priority queue.
use Rattle.std.proofs.Common.{◌≡◌, ℤ, List, [], ◌∷◌, ◌&&◌, Some, None, refl, sym, ◌∙◌}
use Rattle.std.proofs.Math.Bool.{and-true}
use Rattle.pp_kind.proofs.Numbers.{one_ranged}
use Rattle.pp_kind.specs.Numbers.{has_ranged_arguments, is_ranged_answer}
use Rattle.pp_kind.specs.Object.{AllowedFrom, CliqueSwaps, IsLawful}
use Rattle.pp_kind.proofs.Results.{found_numbers}
use Rattle.pp_kind.proofs.Tests.{unrefuted, refuted}
use Rattle.pp_kind_priority.specs.declared.op.PrioOp.{PrioOp}
use Rattle.pp_kind_priority.specs.declared.op.PrioOp.TheVariants.{Insert, Take, Least}
use Rattle.pp_kind_priority.specs.Values.{IsAscending}
use Rattle.pp_kind_priority.specs.Operations.{values_after, values_before, call_of, recorded_by, is_ranged}
use Rattle.pp_kind_priority.specs.Movers.{may_swap}
use Rattle.pp_kind_priority.specs.Contexts.{lists_round}
use Rattle.pp_kind_priority.specs.Prios.{prio}
use Rattle.pp_kind_priority.specs.laws.Values.{put_taken, put_first}
use Rattle.pp_kind_priority.specs.laws.Legal.{Tells, told, same_given, after_ascends}
use Rattle.pp_kind_priority.specs.laws.Swapping.{may_swap_exact, table_tells}

taken_back : (values : List ℤ) (op : PrioOp) → IsAscending values → Tells op values
    → values_before (values_after values op) op ≡ values
taken_back values (Insert x) is h = put_taken x values
taken_back [] (Take (Some x)) is h = cc
taken_back (z ∷ values) (Take (Some x)) is h =
    let e : z ≡ x = cc in let f = put_first z values is.0 in cc
taken_back [] (Take None) is h = refl
taken_back (z ∷ values) (Take None) is h = cc
taken_back values (Least value) is h = refl

-- All values are taken, and then there is none.
abbrev drain : List ℤ → List PrioOp
drain [] = Take None ∷ []
drain (x ∷ values) = Take (Some x) ∷ drain values

drain_allowed : (values : List ℤ) → AllowedFrom prio values (drain values)
drain_allowed [] = ((refl, refl), tt)
drain_allowed (x ∷ values) = ((refl, refl), drain_allowed values)

-- A queue that allows draining these values has these values.
drained : (values others : List ℤ) → AllowedFrom prio others (drain values) → values ≡ others
drained [] [] h = refl
drained [] (y ∷ others) h = let e = told (Take None) (y ∷ others) h.0 in cc
drained (x ∷ values) [] h = let e = told (Take (Some x)) [] h.0 in cc
drained (x ∷ values) (y ∷ others) h = let e = told (Take (Some x)) (y ∷ others) h.0 in
    let f = drained values others h.1 in cc

-- An operation is ranged if its argument and its recorded result are.
numbers : (op : PrioOp) → is_ranged op
    ≡ (has_ranged_arguments (call_of op) && is_ranged_answer (recorded_by op))
numbers (Insert x) = sym (and-true (has_ranged_arguments (call_of (Insert x))) ∙ one_ranged x)
numbers (Take value) = found_numbers value
numbers (Least value) = found_numbers value

-- The laws of a priority queue.
pub prio_lawful : IsLawful prio
prio_lawful = record {
  start_shape = λ shape. refl;
  start_is_state = λ shape. tt;
  next_shape = λ values op h. refl;
  next_is_state = λ values op is h. after_ascends values op is;
  taken_back = λ values op is h. taken_back values op is (told op values h);
  told_apart = λ values others h k e also.
      drained values others (also (drain values) (drain_allowed values));
  one_answer = λ values a b e h k. sym h.1 ∙ same_given values a b e ∙ k.1;
  ranged_numbers = numbers;
  unrefuted = unrefuted prio may_swap lists_round table_tells;
  refuted = refuted prio may_swap lists_round table_tells;
}

-- Insertions swap with one another.
pub clique_swaps : CliqueSwaps prio
clique_swaps (Insert x) (Insert y) h k = (may_swap_exact (Insert x) (Insert y)).0 refl
clique_swaps (Insert x) (Take value) h k = absurd (cc)
clique_swaps (Insert x) (Least value) h k = absurd (cc)
clique_swaps (Take value) b h k = absurd (cc)
clique_swaps (Least value) b h k = absurd (cc)
