use Rattle.std.proofs.Common.{◌≡◌, ◌++◌, take, map, false, refl, ap, ◌∙◌, rules}
use Rattle.pp_input.specs.Lines.{ended_behind, rest_behind, without_return}
use Rattle.pp_input.specs.Reaches.{overrun_from, reach_from, IsReach}
use Rattle.pp_input.specs.Overruns.{overrun, answer_of}
use Rattle.pp_input.specs.Held.{Held}
use Rattle.pp_input.proofs.Reading.{took_after, took_overrun}
use Rattle.pp_input.proofs.Grows.{counted_fed}
use Rattle.pp_input.proofs.lines.Lines.feed.Goals as goal
use Rattle.pp_input.proofs.lines.Lines.feed.Goals.{in-None, in-Some-overrun}

pub invariant_of-self-2 : goal.invariant_of-self-2
invariant_of-self-2 c =
    let inside = c.self.inside in
    let taken = take c.allowed-count.result.0 c.args.piece.now in
    let opened : inside.closed ≡ false = search rules in
    let reached : IsReach (reach_from inside.reach c.args.piece.now) = rw c.allowed-count.ensures.reach at c.allowed-count.ensures.reached in
    let added : c.cut.new.whole.items ≡ inside.whole.items ++ map without_return (ended_behind inside.tail taken) = search rules in
    let left : c.cut.new.tail ≡ rest_behind inside.tail taken = search rules in
    rw c.allowed-count.ensures.reach (counted_fed inside.reach inside.tail c.args.piece.now taken inside.whole.items c.cut.new.whole.items c.cut.new.tail inside.last inside.handed inside.closed c.self.invariant opened c.allowed-count.ensures.within reached added left)

pub returns-clause-input : goal.returns-clause-input
returns-clause-input c = λ limits bytes out took sound none.
    let old = c.args.self.now in
    let piece = c.args.piece.now in
    let answer : c.match-overrun.result ≡ answer_of c.allowed-count.result.2 = elim c.match-overrun.branch [ in-None w ↦ rw (w.result-is, w.in-None.is) refl | in-Some-overrun w ↦ rw (w.result-is, w.in-Some-overrun.is) refl ] in
    let fault : c.allowed-count.result.2 ≡ overrun limits (bytes ++ piece) = c.allowed-count.ensures.overrun ∙ ap (λ (held : Held). overrun_from held.reach piece) c.self.view_is ∙ took_overrun limits bytes piece out old took sound in
    (answer ∙ ap answer_of fault, took_after limits bytes piece out old _ took sound (search rules))
