use Rattle.std.proofs.Common.{refl}
use Rattle.pp_log_local.proofs.Known.{known_marked, own_mark}
use Rattle.pp_log_local.proofs.Marking.{seen_marked, seen_there}
use Rattle.pp_log_local.proofs.local.Local.mark.Goals as goal

pub returns : goal.returns
returns g c e found =
    seen_marked c.args.mark c.args.i c.self.inside.log c.args.self.now c.set.new.self c.in-Some.field-0.now e c.self.view_is c.len-distinct.ensures.distinct c.in-Some.ensures found c.set.ensures

pub invariant_of-self : goal.invariant_of-self
invariant_of-self g c =
    let e = c.in-Some.field-0.now in
    let seen = seen_there c.self.inside.log c.args.self.now c.args.i e c.self.view_is c.in-Some.ensures in
    known_marked c.self.inside.log c.set.new.self c.entries-entries.result.now c.entries-entries.ensures (record { id = e.id; owner = e.owner; mark = c.args.mark; op = e.op }) _ c.args.i e c.self.inside.own_count c.self.inside.unpushed_from c.unpushed_from-self-inside.result c.self.inside.pushed_to c.pushed_to-self-inside.result
    c.set.ensures c.in-Some.ensures refl
    (own_mark e.mark (c.requires.own e seen)) (own_mark c.args.mark c.requires.to_own)
    c.unpushed_from-self-inside.ensures.within c.unpushed_from-self-inside.ensures.before
    c.pushed_to-self-inside.ensures.within c.pushed_to-self-inside.ensures.behind c.self.invariant
