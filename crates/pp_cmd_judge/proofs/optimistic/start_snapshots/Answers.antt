use Rattle.std.proofs.Common.{List, None, ap, ◌∙◌, subst}
use Rattle.pp_core.specs.declared.call.Kind.{Kind}
use Rattle.pp_format_read.specs.Starts.{IsReadableStart}
use Rattle.pp_objects.specs.declared.act.Op.{Op}
use Rattle.pp_snapshots.specs.Held.{Taken, first_taken}
use Rattle.pp_cmd_judge.proofs.OptimisticReading.{is_first, items_asked, none_started, start_bound, started_result}
use Rattle.pp_cmd_judge.proofs.optimistic.start_snapshots.Goals as goal

pub start-requires-clause-new : goal.start-requires-clause-new
start-requires-clause-new g c =
    is_first c.args.header.now c.in_ok-snapshots.snapshots (c.in_ok-snapshots.ensures ∙ ap (λ (k : List Kind). let s : Taken (List Kind) Op = first_taken k None in s) c.in_ok-kinds.ensures)

pub start-requires-clause-asked : goal.start-requires-clause-asked
start-requires-clause-asked g c =
    let header = c.args.header.now in
    items_asked header c.in_ok-snapshots.snapshots (c.in_ok-snapshots.ensures ∙ ap (λ (k : List Kind). let s : Taken (List Kind) Op = first_taken k None in s) c.in_ok-kinds.ensures) c.in-Some.start.ops
    (subst (IsReadableStart header.catalog) c.in-Some.is c.requires).each

pub start-requires-clause-few : goal.start-requires-clause-few
start-requires-clause-few g c = (subst (IsReadableStart c.args.header.now.catalog) c.in-Some.is c.requires).few

pub returns-in-None-clause-starts : goal.returns-in-None-clause-starts
returns-in-None-clause-starts g c =
    none_started c.args.header.now c.in_ok-snapshots.snapshots (c.in_ok-snapshots.ensures ∙ ap (λ (k : List Kind). let s : Taken (List Kind) Op = first_taken k None in s) c.in_ok-kinds.ensures) c.in-None.is

pub returns-in-Some-clause-starts : goal.returns-in-Some-clause-starts
returns-in-Some-clause-starts g c =
    started_result c.args.header.now c.in_ok-snapshots.snapshots (c.in_ok-snapshots.ensures ∙ ap (λ (k : List Kind). let s : Taken (List Kind) Op = first_taken k None in s) c.in_ok-kinds.ensures) c.in-Some.start c.in-Some.is c.start.result c.start.ensures.starts

pub returns-in-Some-clause-bound : goal.returns-in-Some-clause-bound
returns-in-Some-clause-bound g c =
    start_bound c.args.header.now c.in_ok-snapshots.snapshots (c.in_ok-snapshots.ensures ∙ ap (λ (k : List Kind). let s : Taken (List Kind) Op = first_taken k None in s) c.in_ok-kinds.ensures) c.in-Some.start c.in-Some.is c.args.ticks.now c.start.new.ticks c.start.ensures.bound
