-- Proof machinery: what the table says of a pair, by its forms.
use Rattle.std.proofs.Common.{◌≡◌, ℤ, true, List, Some, None, refl, sym, ◌∙◌, ap, arith}
use Rattle.std.proofs.lemmas.Int.{ints}
use Rattle.pp_kind_stack.specs.declared.op.StackOp.{StackOp}
use Rattle.pp_kind_stack.specs.declared.op.StackOp.TheVariants.{Push, Pop}
use Rattle.pp_kind_stack.specs.Operations.{items_after}
use Rattle.pp_kind_stack.specs.Movers.{may_swap}
use Rattle.pp_kind_stack.specs.laws.Legal.{top_pushed, rest_pushed, top_there, no_top, Tells}

-- The second and then the first record the tops that they find, and leave the same items.
pub record Turns (a b : StackOp) (items : List ℤ) : Type 0 where
  pub second_first : Tells b items
  pub first_second : Tells a (items_after items b)
  pub same : items_after (items_after items b) a ≡ items_after (items_after items a) b

-- A pair that the table allows to swap may be turned wherever it is legal.
pub pair_turns : (a b : StackOp) (items : List ℤ) → may_swap a b ≡ true → Tells a items
    → Tells b (items_after items a) → Turns a b items
pair_turns (Push x) (Push y) items t h k = let e : x ≡ y = grind (arith, ints) in
    record { second_first = tt; first_second = tt; same = cc }
pair_turns (Push x) (Pop (Some y)) items t h k =
    absurd (let e = top_pushed items x in let f : x ≡ y = cc in grind (arith, ints))
pair_turns (Push x) (Pop None) items t h k = absurd (let e = top_pushed items x in cc)
pair_turns (Pop (Some x)) (Push y) items t h k = let e : x ≡ y = grind (arith, ints) in
    record {
      second_first = tt;
      first_second = top_pushed items y ∙ ap Some (sym e);
      same = rest_pushed items y ∙ sym (top_there items y (h ∙ ap Some e));
    }
pair_turns (Pop (Some x)) (Pop (Some y)) items t h k = let e : x ≡ y = grind (arith, ints) in
    record { second_first = h ∙ ap Some e; first_second = k ∙ ap Some (sym e); same = refl }
pair_turns (Pop (Some x)) (Pop None) items t h k = absurd (cc)
pair_turns (Pop None) (Push y) items t h k = absurd (cc)
pair_turns (Pop None) (Pop q) items t h k = let e = no_top items h in
    record { second_first = cc; first_second = cc; same = refl }
