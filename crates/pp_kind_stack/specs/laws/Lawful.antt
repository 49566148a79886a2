-- Proof machinery: the laws of a stack.
use Rattle.std.proofs.Common.{◌≡◌, ℤ, pos, List, [], ◌∷◌, ◌++◌, reverse, ◌&&◌, Some, None, refl}
use Rattle.std.proofs.Common.{sym, ◌∙◌, ap, subst}
use Rattle.std.proofs.lemmas.List.{reverse-append, reverse-reverse}
use Rattle.std.proofs.Math.Bool.{and-true}
use Rattle.pp_kind.proofs.Numbers.{one_ranged}
use Rattle.pp_kind.specs.Numbers.{in_range, has_ranged_arguments, is_ranged_answer}
use Rattle.pp_kind.specs.Object.{AllowedFrom, AllowsAllOf, IsLawful}
use Rattle.pp_kind.proofs.Results.{found_numbers}
use Rattle.pp_kind.proofs.Tests.{unrefuted, refuted}
use Rattle.pp_kind_stack.specs.declared.op.StackOp.{StackOp}
use Rattle.pp_kind_stack.specs.declared.op.StackOp.TheVariants.{Push, Pop}
use Rattle.pp_kind_stack.specs.Operations.{without_top, items_after, items_before, call_of, recorded_by}
use Rattle.pp_kind_stack.specs.Operations.{is_ranged}
use Rattle.pp_kind_stack.specs.Movers.{may_swap}
use Rattle.pp_kind_stack.specs.Contexts.{lists_round}
use Rattle.pp_kind_stack.specs.Stacks.{stack}
use Rattle.pp_kind_stack.specs.laws.Legal.{top_pushed, rest_pushed, top_there, no_top, Tells, told}
use Rattle.pp_kind_stack.specs.laws.Legal.{legal_where_told, same_given}
use Rattle.pp_kind_stack.specs.laws.Swapping.{table_tells}

taken_back : (items : List ℤ) (op : StackOp) → Tells op items
    → items_before (items_after items op) op ≡ items
taken_back items (Push x) h = rest_pushed items x
taken_back items (Pop (Some x)) h = top_there items x h
taken_back items (Pop None) h = let e = no_top items h in cc

-- All items are taken, from the top to the bottom, and then there is none.
abbrev drain : List ℤ → List StackOp
drain [] = Pop None ∷ []
drain (x ∷ below) = Pop (Some x) ∷ drain below

turned_over : (x : ℤ) (below : List ℤ) → reverse (x ∷ below) ≡ reverse below ++ x ∷ []
turned_over x below = reverse-append (x ∷ []) below

drain_pushed : (x : ℤ) (below : List ℤ) → AllowedFrom stack (reverse below) (drain below)
    → AllowedFrom stack (reverse below ++ x ∷ []) (drain (x ∷ below))
drain_pushed x below h = (
  legal_where_told (Pop (Some x)) (reverse below ++ x ∷ []) (top_pushed (reverse below) x),
  subst (λ (items : List ℤ). AllowedFrom stack items (drain below))
      (sym (rest_pushed (reverse below) x)) h,
)

drain_allowed : (tops : List ℤ) → AllowedFrom stack (reverse tops) (drain tops)
drain_allowed [] = ((refl, refl), tt)
drain_allowed (x ∷ below) =
    subst (λ (items : List ℤ). AllowedFrom stack items (drain (x ∷ below)))
    (sym (turned_over x below)) (drain_pushed x below (drain_allowed below))

-- A stack that allows draining these items has these items.
drained : (tops others : List ℤ) → AllowedFrom stack others (drain tops) → reverse tops ≡ others
drained [] others h = sym (no_top others (told (Pop None) others h.0))
drained (x ∷ below) others h =
    turned_over x below
    ∙ ap (λ (items : List ℤ). items ++ x ∷ []) (drained below (without_top others) h.1)
    ∙ top_there others x (told (Pop (Some x)) others h.0)

told_apart : (items others : List ℤ) → AllowsAllOf stack items others → items ≡ others
told_apart items others also =
    let tops = reverse items in
    sym (reverse-reverse items)
    ∙ drained tops others
    (also (drain tops)
    (subst (λ (l : List ℤ). AllowedFrom stack l (drain tops)) (reverse-reverse items)
    (drain_allowed tops)))

-- An operation is ranged if its argument and its recorded result are.
numbers : (op : StackOp) → is_ranged op
    ≡ (has_ranged_arguments (call_of op) && is_ranged_answer (recorded_by op))
numbers (Push x) = sym (and-true (has_ranged_arguments (call_of (Push x))) ∙ one_ranged x)
numbers (Pop value) = found_numbers value

-- The laws of a stack.
pub stack_lawful : IsLawful stack
stack_lawful = record {
  start_shape = λ shape. refl;
  start_is_state = λ shape. tt;
  next_shape = λ items op h. refl;
  next_is_state = λ items op h k. tt;
  taken_back = λ items op h k. taken_back items op (told op items k);
  told_apart = λ items others h k e also. told_apart items others also;
  one_answer = λ items a b e h k. sym h.1 ∙ same_given items a b e ∙ k.1;
  ranged_numbers = numbers;
  unrefuted = unrefuted stack may_swap lists_round table_tells;
  refuted = refuted stack may_swap lists_round table_tells;
}
