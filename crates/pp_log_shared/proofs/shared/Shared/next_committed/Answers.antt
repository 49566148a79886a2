use Rattle.std.proofs.Common.{ap, ◌∙◌, subst, arith}
use Rattle.pp_model.specs.Config.{shared_item}
use Rattle.pp_log.specs.Logs.{IsFirstFrom, IsOn}
use Rattle.pp_log_shared.proofs.Nexts.{first_there, none_there, read, smaller, within}
use Rattle.pp_log_shared.proofs.shared.Shared.next_committed.Goals as goal

pub returns-then-entries-k-clause-found : goal.returns-then-entries-k-clause-found
returns-then-entries-k-clause-found g c =
    let place_of = g.S.Placed.place_of in
    let log = c.args.self.now.1 in
    let next = subst (λ z. IsFirstFrom (IsOn place_of shared_item c.args.place) z.1 c.step.at c.in-Some.k) c.self.view_is c.in-Some.ensures.found in
    let list = c.entries-entries.ensures ∙ ap (λ z. z.1) c.self.view_is in
    let here = read c.entries-entries.result.now log c.in-Some.k c.index-entries-k.result list (within place_of c.args.place log c.step.at c.in-Some.k next) c.index-entries-k.is in
    first_there place_of c.args.place log c.args.from c.step.at c.in-Some.k c.index-entries-k.result c.step.invariant.above c.step.invariant.none next here (ap (λ e. e.committed) c.index-entries-k.is ∙ c.if-entries-k.true)

pub overflow_add-at : goal.overflow_add-at
overflow_add-at g c =
    let place_of = g.S.Placed.place_of in
    let size = within place_of c.args.place c.self.inside.log.1 c.step.at c.in-Some.k c.in-Some.ensures.found in
    let few = c.len.ensures.few in
    omega arith

pub step-smaller : goal.step-smaller
step-smaller g c =
    let place_of = g.S.Placed.place_of in
    smaller place_of c.args.place c.args.self.now.1 c.step.at c.in-Some.k (subst (λ z. IsFirstFrom (IsOn place_of shared_item c.args.place) z.1 c.step.at c.in-Some.k) c.self.view_is c.in-Some.ensures.found)

pub step-preserved : goal.step-preserved
step-preserved g c =
    let place_of = g.S.Placed.place_of in
    let log = c.args.self.now.1 in
    let next = subst (λ z. IsFirstFrom (IsOn place_of shared_item c.args.place) z.1 c.step.at c.in-Some.k) c.self.view_is c.in-Some.ensures.found in
    let behind = next.behind in
    let above = c.step.invariant.above in
    let list = c.entries-entries.ensures ∙ ap (λ z. z.1) c.self.view_is in
    let here = read c.entries-entries.result.now log c.in-Some.k c.index-entries-k.result list (within place_of c.args.place log c.step.at c.in-Some.k next) c.index-entries-k.is in
    record {
      above = omega arith;
      none = none_there place_of c.args.place log c.args.from c.step.at c.in-Some.k c.index-entries-k.result c.step.invariant.none next here (ap (λ e. e.committed) c.index-entries-k.is ∙ c.if-entries-k.false);
    }
