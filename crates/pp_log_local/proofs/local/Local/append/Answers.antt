use Rattle.std.proofs.Common.{◌≡◌, ◌<◌, ◌≤◌, ℕ, length, ap, arith}
use Rattle.pp_model.specs.Config.{own}
use Rattle.pp_kind.specs.declared.range.TheConstants.{MOST_OPERATIONS}
use Rattle.pp_log_local.proofs.Known.{few_own, known_grown, pushed_grown, unpushed_grown}
use Rattle.pp_log_local.proofs.local.Local.append.Goals as goal

pub with-self-inside-requires : goal.with-self-inside-requires
with-self-inside-requires g c =
    below c.self.inside.own_count (length (own c.self.inside.log.1)) (length c.self.inside.log.1) (length c.args.self.now.1) MOST_OPERATIONS
    c.self.invariant.counted (few_own c.self.inside.log.1) (ap (λ z. length z.1) c.self.view_is) c.requires.few
  where
    below : (p q r s t : ℕ) → p ≡ q → q ≤ r → r ≡ s → s < t → p < t
    below p q r s t h k l m = omega arith

pub unpushed_from-self-inside-requires-clause-others : goal.unpushed_from-self-inside-requires-clause-others
unpushed_from-self-inside-requires-clause-others g c =
    unpushed_grown c.self.inside.log c.append.new.self c.entries-entries.result.now c.entries-entries.ensures c.args.entry c.in_ok-append.ensures.ok c.len-i.result c.self.inside.unpushed_from c.len-i.ensures.len c.self.invariant.unpushed

pub pushed_to-self-inside-requires-clause-others : goal.pushed_to-self-inside-requires-clause-others
pushed_to-self-inside-requires-clause-others g c =
    pushed_grown c.self.inside.log c.append.new.self c.entries-entries.result.now c.entries-entries.ensures c.args.entry c.in_ok-append.ensures.ok c.len-i.result c.self.inside.pushed_to c.len-i.ensures.len c.self.invariant.pushed

pub invariant_of-self-2 : goal.invariant_of-self-2
invariant_of-self-2 g c =
    known_grown c.self.inside.log c.append.new.self c.entries-entries.result.now c.entries-entries.ensures c.args.entry c.in_ok-append.ensures.ok _ _ c.self.inside.own_count c.with-self-inside.result c.self.inside.unpushed_from c.unpushed_from-self-inside.result c.self.inside.pushed_to c.pushed_to-self-inside.result
    c.with-self-inside.ensures.keeps c.with-self-inside.ensures.covers c.with-self-inside.ensures.count
    c.unpushed_from-self-inside.ensures.within c.unpushed_from-self-inside.ensures.before
    c.pushed_to-self-inside.ensures.within c.pushed_to-self-inside.ensures.behind c.self.invariant
