use Rattle.std.proofs.Common.{List, None, ap, ◌∙◌, subst}
use Rattle.pp_core.specs.declared.call.Kind.{Kind}
use Rattle.pp_format_read.specs.Starts.{IsReadableStart}
use Rattle.pp_objects.specs.Objects.{objects, place_of}
use Rattle.pp_summary.specs.Held.{held_first}
use Rattle.pp_cmd_quick.proofs.Starting.{is_first, items_asked, none_started, start_bound, started_result}
use Rattle.pp_cmd_quick.proofs.decider.start_quick.Goals as goal

pub start-requires-clause-new : goal.start-requires-clause-new
start-requires-clause-new g c =
    let header = c.args.header.now in
    let quick = c.in_ok-quick.quick in
    is_first header quick (c.in_ok-quick.ensures ∙ ap (λ (k : List Kind). held_first objects place_of k None) c.in_ok-kinds.ensures)

pub start-requires-clause-asked : goal.start-requires-clause-asked
start-requires-clause-asked g c =
    let header = c.args.header.now in
    let quick = c.in_ok-quick.quick in
    items_asked header quick (c.in_ok-quick.ensures ∙ ap (λ (k : List Kind). held_first objects place_of k None) c.in_ok-kinds.ensures) c.in-Some.start.ops
    (subst (IsReadableStart header.catalog) c.in-Some.is c.requires).each

pub start-requires-clause-few : goal.start-requires-clause-few
start-requires-clause-few g c = (subst (IsReadableStart c.args.header.now.catalog) c.in-Some.is c.requires).few

pub returns-in-None-clause-starts : goal.returns-in-None-clause-starts
returns-in-None-clause-starts g c =
    let header = c.args.header.now in
    let quick = c.in_ok-quick.quick in
    none_started header quick (c.in_ok-quick.ensures ∙ ap (λ (k : List Kind). held_first objects place_of k None) c.in_ok-kinds.ensures) c.in-None.is

pub returns-in-Some-clause-starts : goal.returns-in-Some-clause-starts
returns-in-Some-clause-starts g c =
    let header = c.args.header.now in
    let quick = c.in_ok-quick.quick in
    started_result header quick (c.in_ok-quick.ensures ∙ ap (λ (k : List Kind). held_first objects place_of k None) c.in_ok-kinds.ensures) c.in-Some.start c.in-Some.is c.start.result c.start.ensures.starts

pub returns-in-Some-clause-bound : goal.returns-in-Some-clause-bound
returns-in-Some-clause-bound g c =
    let header = c.args.header.now in
    let quick = c.in_ok-quick.quick in
    start_bound header quick (c.in_ok-quick.ensures ∙ ap (λ (k : List Kind). held_first objects place_of k None) c.in_ok-kinds.ensures) c.in-Some.start c.in-Some.is c.args.ticks.now c.start.new.ticks c.start.ensures.bound
