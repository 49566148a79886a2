-- Proof machinery: what the table says of a pair, by its forms.
use Rattle.std.proofs.Common.{◌≡◌, ◌≢◌, ℤ, true, List, [], ◌∷◌, Some, None, refl, ◌∙◌, ap, arith}
use Rattle.std.proofs.lemmas.Int.{ints}
use Rattle.pp_kind_priority.specs.declared.op.PrioOp.{PrioOp}
use Rattle.pp_kind_priority.specs.declared.op.PrioOp.TheVariants.{Insert, Take, Least}
use Rattle.pp_kind_priority.specs.Values.{IsAscending}
use Rattle.pp_kind_priority.specs.Operations.{values_after}
use Rattle.pp_kind_priority.specs.Movers.{may_swap}
use Rattle.pp_kind_priority.specs.laws.Values.{with_two, was_least, some_least, stays_least}
use Rattle.pp_kind_priority.specs.laws.Legal.{Tells}

-- The second and then the first record the least values that they find, and leave the same values.
pub record Turns (a b : PrioOp) (values : List ℤ) : Type 0 where
  pub second_first : Tells b values
  pub first_second : Tells a (values_after values b)
  pub same : values_after (values_after values b) a ≡ values_after (values_after values a) b

-- A value is put in, or another is taken from those that are left.
different : (x y : ℤ) → may_swap (Insert x) (Take (Some y)) ≡ true → x ≢ y
different x y t e = grind (arith, ints)

-- A pair that the table allows to swap may be turned wherever it is legal.
pub pair_turns : (a b : PrioOp) (values : List ℤ) → IsAscending values → may_swap a b ≡ true
    → Tells a values → Tells b (values_after values a) → Turns a b values
pair_turns (Insert x) (Insert y) values is t h k =
    record { second_first = tt; first_second = tt; same = with_two x y values }
pair_turns (Insert x) (Take (Some y)) values is t h k =
    let was = was_least x y values (different x y t) k in
    record { second_first = was.least; first_second = tt; same = was.rest }
pair_turns (Insert x) (Take None) values is t h k = absurd (some_least x values k)
pair_turns (Insert x) (Least (Some y)) values is t h k =
    let was = was_least x y values (different x y t) k in
    record { second_first = was.least; first_second = tt; same = refl }
pair_turns (Insert x) (Least None) values is t h k = absurd (some_least x values k)
pair_turns (Take (Some x)) (Insert y) [] is t h k = absurd (cc)
pair_turns (Take (Some x)) (Insert y) (z ∷ values) is t h k =
    let e : z ≡ x = cc in
    let stays = stays_least z y values (grind (arith, ints)) is in
    record { second_first = tt; first_second = stays.least ∙ ap Some e; same = stays.rest }
pair_turns (Take None) (Insert y) values is t h k = absurd (cc)
pair_turns (Take r) (Take q) [] is t h k =
    record { second_first = k; first_second = h; same = refl }
pair_turns (Take (Some x)) (Take (Some y)) (z ∷ []) is t h k = absurd (cc)
pair_turns (Take (Some x)) (Take (Some y)) (z ∷ w ∷ values) is t h k =
    let e : z ≡ x = cc in let f : w ≡ y = cc in
    let g : x ≡ y = let b = is.0 in grind (arith, ints) in
    record { second_first = cc; first_second = cc; same = refl }
pair_turns (Take (Some x)) (Take None) (z ∷ values) is t h k = absurd (cc)
pair_turns (Take None) (Take q) (z ∷ values) is t h k = absurd (cc)
pair_turns (Take r) (Least q) [] is t h k =
    record { second_first = k; first_second = h; same = refl }
pair_turns (Take (Some x)) (Least (Some y)) (z ∷ []) is t h k = absurd (cc)
pair_turns (Take (Some x)) (Least (Some y)) (z ∷ w ∷ values) is t h k =
    let e : z ≡ x = cc in let f : w ≡ y = cc in
    let g : x ≡ y = let b = is.0 in grind (arith, ints) in
    record { second_first = cc; first_second = cc; same = refl }
pair_turns (Take (Some x)) (Least None) (z ∷ values) is t h k = absurd (cc)
pair_turns (Take None) (Least q) (z ∷ values) is t h k = absurd (cc)
pair_turns (Least (Some x)) (Insert y) [] is t h k = absurd (cc)
pair_turns (Least (Some x)) (Insert y) (z ∷ values) is t h k =
    let e : z ≡ x = cc in
    let stays = stays_least z y values (grind (arith, ints)) is in
    record { second_first = tt; first_second = stays.least ∙ ap Some e; same = refl }
pair_turns (Least None) (Insert y) values is t h k = absurd (cc)
pair_turns (Least r) (Take q) [] is t h k =
    record { second_first = k; first_second = h; same = refl }
pair_turns (Least (Some x)) (Take (Some y)) (z ∷ values) is t h k =
    absurd (let e : x ≡ y = cc in grind (arith, ints))
pair_turns (Least (Some x)) (Take None) (z ∷ values) is t h k = absurd (cc)
pair_turns (Least None) (Take q) (z ∷ values) is t h k = absurd (cc)
pair_turns (Least r) (Least q) values is t h k =
    record { second_first = k; first_second = h; same = refl }
