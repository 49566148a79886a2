use Rattle.std.proofs.Common.{w64, rules, to_z, of_z, FitsSigned}
use Rattle.std.proofs.lemmas.Int.{to_z-of_z}
use Rattle.pp_kind_priority.specs.Copies.{spread}
use Rattle.pp_kind_priority.proofs.Copies.{entry_pushed}
use Rattle.pp_kind_priority.proofs.bag.Bag.values.Goals as goal

pub loop-value-preserved : goal.loop-value-preserved
loop-value-preserved c =
    let fits : FitsSigned w64 c.in-Some.value.now = search rules in
    entry_pushed c.in-Some.value.now (to_z w64 (of_z w64 c.in-Some.value.now))
    c.in-Some.further.now c.loop-value.values c.push.new.self c.push_copies.new.values
    (spread c.into_iter-value-iterator.result) c.loop-value.value-iterator c.next.new.self
    (to_z-of_z w64 c.in-Some.value.now fits) c.in_ok-push.ensures.ok
    c.in_ok-push_copies.ensures c.in-Some.ensures.steps c.loop-value.invariant
