use Rattle.std.proofs.Common.{subst}
use Rattle.pp_records.specs.Expansions.{IsOfStyle}
use Rattle.pp_records.specs.Records.{record_meaning}
use Rattle.pp_objects.specs.Objects.{objects, place_of}
use Rattle.pp_summary.specs.Held.{TakeCosts, Takes}
use Rattle.pp_cmd_quick.proofs.Judging.{below_most, judges_bad, judges_good, judges_most}
use Rattle.pp_cmd_quick.proofs.decider.DeciderJudge.judge.Goals as goal

pub returns-in_err-quick-clause-most : goal.returns-in_err-quick-clause-most
returns-in_err-quick-clause-most g c =
    judges_most c.args._header.now c.args.self (record_meaning c.args.recorded.now) c.args.line c.args.ticks.now c.take.new.ticks c.take.ensures.bound

pub returns-then-good-clause-most : goal.returns-then-good-clause-most
returns-then-good-clause-most g c =
    judges_most c.args._header.now c.args.self (record_meaning c.args.recorded.now) c.args.line c.args.ticks.now c.take.new.ticks c.take.ensures.bound

pub returns-else-good-clause-most : goal.returns-else-good-clause-most
returns-else-good-clause-most g c =
    judges_most c.args._header.now c.args.self (record_meaning c.args.recorded.now) c.args.line c.args.ticks.now c.take.new.ticks c.take.ensures.bound

pub returns-then-good-clause-judged : goal.returns-then-good-clause-judged
returns-then-good-clause-judged g c =
    let header = c.args._header.now in
    let judge = c.args.self in
    let r = record_meaning c.args.recorded.now in
    let next = c.in_ok-quick.quick in
    let now = c.args.ticks.now in
    let new = c.take.new.ticks in
    let takes = subst (λ b. Takes objects place_of judge.quick r b next) c.if-good.true c.in_ok-quick.ensures.takes in
    let cost = subst (λ b. TakeCosts judge.quick.brief r b now new) c.if-good.true c.in_ok-quick.ensures.cost in
    let boosted = subst (λ s. IsOfStyle s r) c.requires.good.2.style c.requires.styled in
    judges_good header judge r c.args.line now new next (below_most header judge c.requires.good) boosted takes c.in_ok-quick.ensures.shape cost

pub returns-else-good-clause-judged : goal.returns-else-good-clause-judged
returns-else-good-clause-judged g c =
    let judge = c.args.self in
    let r = record_meaning c.args.recorded.now in
    let next = c.in_ok-quick.quick in
    let takes = subst (λ b. Takes objects place_of judge.quick r b next) c.if-good.false c.in_ok-quick.ensures.takes in
    judges_bad c.args._header.now judge r c.args.line c.args.ticks.now c.take.new.ticks next takes c.take.ensures.rises
