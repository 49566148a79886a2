use Rattle.std.proofs.Common.{◌==◌, sym, ap, ◌∙◌, subst, refl, map}
use Rattle.pp_model.specs.Config.{shared_item}
use Rattle.pp_model.specs.Object.{HasDistinctIds}
use Rattle.pp_model.proofs.Commit.{as_committed}
use Rattle.pp_log_shared.specs.Blocking.{IsSettled}
use Rattle.pp_log_shared.specs.Uncommitted.{CommitsOne, LeavesOut}
use Rattle.pp_log_shared.proofs.Committing.{commits_nothing, commits_no_other, commits_entry, settled_set}
use Rattle.pp_log_shared.proofs.Committing.{not_missing}
use Rattle.pp_log_shared.proofs.Uncommitted.{leaves_committed}
use Rattle.pp_log_shared.proofs.shared.Shared.commit_entry.Goals as goal

pub returns-in_default : goal.returns-in_default
returns-in_default g c =
    subst (λ z. CommitsOne c.args.owner.now c.args.id z c.args.self.now) c.self.view_is
    (commits_nothing c.args.owner.now c.args.id c.self.inside.log c.args.self.now (sym c.self.view_is) (sym c.in_default.ensures))

pub unreachable-requires : goal.unreachable-requires
unreachable-requires g c = not_missing (λ e. e.id == c.args.id) c.self.inside.log.1 c.in-Some.k (sym c.in-Some.ensures) (sym c.in_default-get.ensures)

pub returns-then-not-is_open : goal.returns-then-not-is_open
returns-then-not-is_open g c =
    subst (λ z. CommitsOne c.args.owner.now c.args.id z c.args.self.now) c.self.view_is
    (commits_no_other c.args.owner.now c.args.id c.self.inside.log c.args.self.now c.in-Some.k c.in-Some-get.field-0.now (sym c.self.view_is) (subst (λ z. HasDistinctIds (map shared_item z.1)) (sym c.self.view_is) c.requires) (sym c.in-Some.ensures) (sym c.in-Some-get.ensures) (sym c.is_open.ensures ∙ c.if-not-is_open.true))

pub invariant_of-self : goal.invariant_of-self
invariant_of-self g c =
    let list = ap (λ z. z.1) c.set.ensures in
    let e = c.in-Some-get.field-0.now in
    record {
      settles = subst (λ z. IsSettled z c.self.inside.settled) (sym list) (settled_set c.self.inside.log.1 c.self.inside.settled c.in-Some.k (as_committed e) refl c.self.invariant.settles);
      opens = c.take.ensures c.self.inside.log.1 c.set.new.self.1 c.self.invariant.opens (subst (λ z. LeavesOut g.S.Parted.part_of e c.self.inside.log.1 z) (sym list) (leaves_committed g.S.Parted.part_of c.self.inside.log.1 c.in-Some.k e (sym c.in-Some-get.ensures)));
    }

pub returns : goal.returns
returns g c =
    subst (λ z. CommitsOne c.args.owner.now c.args.id z c.set.new.self) c.self.view_is
    (commits_entry c.args.owner.now c.args.id c.self.inside.log c.set.new.self c.in-Some.k c.in-Some-get.field-0.now c.set.ensures (subst (λ z. HasDistinctIds (map shared_item z.1)) (sym c.self.view_is) c.requires) (sym c.in-Some.ensures) (sym c.in-Some-get.ensures) (sym c.is_open.ensures ∙ c.if-not-is_open.false))
