use Rattle.std.proofs.Common.{◌<◌, length, ap, sym, subst, ◌∙◌, arith}
use Rattle.pp_log.specs.Logs.{IsOn}
use Rattle.pp_model.specs.Config.{shared_item}
use Rattle.pp_log_shared.proofs.Nexts.{read}
use Rattle.pp_styles.proofs.Nearing.{first_behind, first_there, none_behind, none_there}
use Rattle.pp_styles.proofs.pulls.next_near.Goals as goal

pub returns : goal.returns
returns g c =
    let on = IsOn g.S.Placed.place_of shared_item c.args.object in
    let log = c.args.shared.now.1 in
    record {
      found = first_behind on log c.args.from c.look.at c.look.invariant.above c.look.invariant.none c.next_on.result c.next_on.ensures.found;
      none = none_behind on log c.args.from c.look.at c.look.invariant.none c.next_on.result c.next_on.ensures.none;
    }

pub returns-then-place-object-clause-found : goal.returns-then-place-object-clause-found
returns-then-place-object-clause-found g c =
    let least = c.min-end.ensures in
    let test = c.look-test.true in
    let there : c.look.at < length c.entries-entries.result.now = omega arith in
    let size = subst (λ z. c.look.at < length z) c.entries-entries.ensures there in
    let here = read c.entries-entries.result.now c.args.shared.now.1 c.look.at c.index-entries-at.result c.entries-entries.ensures size c.index-entries-at.is in
    first_there (IsOn g.S.Placed.place_of shared_item c.args.object) c.args.shared.now.1 c.args.from c.look.at c.index-entries-at.result c.look.invariant.above here (ap (λ e. g.S.Placed.place_of e.op) c.index-entries-at.is ∙ sym c.place.ensures ∙ c.if-place-object.true) c.look.invariant.none

pub look-preserved : goal.look-preserved
look-preserved g c =
    let above = c.look.invariant.above in
    let least = c.min-end.ensures in
    let test = c.look-test.true in
    let there : c.look.at < length c.entries-entries.result.now = omega arith in
    let size = subst (λ z. c.look.at < length z) c.entries-entries.ensures there in
    let here = read c.entries-entries.result.now c.args.shared.now.1 c.look.at c.index-entries-at.result c.entries-entries.ensures size c.index-entries-at.is in
    record {
      above = omega arith;
      none = none_there (IsOn g.S.Placed.place_of shared_item c.args.object) c.args.shared.now.1 c.args.from c.look.at c.index-entries-at.result here (λ on. c.if-place-object.false (c.place.ensures ∙ ap (λ e. g.S.Placed.place_of e.op) (sym c.index-entries-at.is) ∙ on)) c.look.invariant.none;
    }
