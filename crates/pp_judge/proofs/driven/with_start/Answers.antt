use Rattle.std.proofs.Common.{subst}
use Rattle.pp_format_read.specs.Starts.{IsReadableStart}
use Rattle.pp_judge.proofs.Starting.{asked_there, empty, none_started, start_bound, started_result, uncounted}
use Rattle.pp_judge.proofs.driven.with_start.Goals as goal

pub start-requires-clause-empty : goal.start-requires-clause-empty
start-requires-clause-empty g c = empty c.args.header.now c.args.machine c.requires.new

pub start-requires-clause-uncounted : goal.start-requires-clause-uncounted
start-requires-clause-uncounted g c = uncounted c.args.header.now c.args.machine c.requires.new

pub start-requires-clause-asked : goal.start-requires-clause-asked
start-requires-clause-asked g c =
    asked_there c.args.header.now c.args.machine c.requires.new c.in-Some.start.ops (subst (IsReadableStart c.args.header.now.catalog) c.in-Some.is c.requires.readable).each

pub start-requires-clause-few : goal.start-requires-clause-few
start-requires-clause-few g c = (subst (IsReadableStart c.args.header.now.catalog) c.in-Some.is c.requires.readable).few

pub returns-in-None-clause-starts : goal.returns-in-None-clause-starts
returns-in-None-clause-starts g c = none_started c.args.header.now c.args.machine c.requires.new c.in-None.is

pub returns-in-Some-clause-starts : goal.returns-in-Some-clause-starts
returns-in-Some-clause-starts g c = started_result c.args.header.now c.args.machine c.requires.new c.in-Some.start c.in-Some.is c.start.result c.start.ensures.effect c.start.ensures.shown

pub returns-in-Some-clause-bound : goal.returns-in-Some-clause-bound
returns-in-Some-clause-bound g c = start_bound c.args.header.now c.args.machine c.requires.new c.in-Some.start c.in-Some.is c.args.ticks.now c.start.new.ticks c.start.ensures.bound
