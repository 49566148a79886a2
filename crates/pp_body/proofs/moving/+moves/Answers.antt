use Rattle.std.proofs.Common.{ap}
use Rattle.pp_body.proofs.Items.{place_goes_on, place_ends, turn_goes_on, turn_ends, some_goes_on}
use Rattle.pp_body.proofs.Items.{some_ends, pair_is}
use Rattle.pp_body.proofs.moving.+moves.Goals as goal

pub moves_in_turn-loop-part-preserved : goal.moves_in_turn-loop-part-preserved
moves_in_turn-loop-part-preserved t c = record {
  place = place_goes_on _ _ _ _ _ _ c.loop-part-test.true c.part-item.is (ap (λ p. p.1) c.moves_of-next.ensures) c.loop-part.invariant.place;
  same = turn_goes_on _ _ _ _ _ _ _ _ _ _ c.loop-part-test.true c.part-item.is c.moves_of-next.ensures c.then-all.ensures c.loop-part.invariant.same;
}

pub moves_in_turn-returns : goal.moves_in_turn-returns
moves_in_turn-returns t c =
    pair_is _ _ _ _ (turn_ends _ _ _ _ _ _ _ c.loop-part-test.false c.loop-part.invariant.same) (place_ends _ _ _ _ c.loop-part-test.false c.loop-part.invariant.place)

pub moves_of_some-loop-part-preserved : goal.moves_of_some-loop-part-preserved
moves_of_some-loop-part-preserved t c = record {
  place = place_goes_on _ _ _ _ _ _ c.loop-part-test.true c.part-item.is (ap (λ p. p.1) c.moves_of-next.ensures) c.loop-part.invariant.place;
  same = some_goes_on _ _ _ _ _ _ _ _ _ _ c.loop-part-test.true c.part-item.is c.moves_of-next.ensures c.or-all.ensures c.loop-part.invariant.same;
}

pub moves_of_some-returns : goal.moves_of_some-returns
moves_of_some-returns t c =
    pair_is _ _ _ _ (some_ends _ _ _ _ _ _ _ c.loop-part-test.false c.loop-part.invariant.same) (place_ends _ _ _ _ c.loop-part-test.false c.loop-part.invariant.place)
