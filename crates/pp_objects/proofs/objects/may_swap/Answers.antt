use Rattle.std.proofs.Common.{◌≡◌, Bool, true, nat_eq, not, IsTrue, ◌↔◌, sym, subst, arith}
use Rattle.std.proofs.lemmas.Bool.Decides.{nat_tests}
use Rattle.pp_kind.specs.Object.{Swaps}
use Rattle.pp_objects.specs.Objects.{objects}
use Rattle.pp_objects.proofs.There.{same_place_swaps, other_place_swaps}
use Rattle.pp_objects.proofs.objects.may_swap.Goals as goal

pub returns-then-a-b : goal.returns-then-a-b
returns-then-a-b c =
    let t = c.if-a-b.true in
    let e : not (nat_eq c.args.a.now.object c.args.b.now.object) ≡ true =
    grind (arith, nat_tests) in
    subst (λ (b : Bool). IsTrue b ↔ Swaps objects c.args.a.now c.args.b.now) (sym e)
    (other_place_swaps c.args.a.now c.args.b.now t)

pub returns-else-a-b : goal.returns-else-a-b
returns-else-a-b c = let f = c.if-a-b.false in
    same_place_swaps c.args.a.now c.args.b.now c.swaps.result
    (grind (arith, nat_tests)) c.swaps.ensures.0 c.swaps.ensures.1
