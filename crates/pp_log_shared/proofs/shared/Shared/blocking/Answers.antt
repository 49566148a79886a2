use Rattle.std.proofs.Common.{◌≡◌, length, subst, ap, ◌∙◌, sym, arith, Some}
use Rattle.std.specs.List.{slice_get}
use Rattle.std.proofs.lemmas.Option.{slice_get_read}
use Rattle.pp_log_shared.specs.Blocking.{AllGiveWayBelow}
use Rattle.pp_log_shared.proofs.Blocked.{one_gives_way, all_give_way}
use Rattle.pp_log_shared.proofs.shared.Shared.blocking.Goals as goal

pub returns-then-blocks-clause-some : goal.returns-then-blocks-clause-some
returns-then-blocks-clause-some g c =
    let xs = c.entries-entries.result.now in
    let list : xs ≡ c.args.self.now.1 = c.entries-entries.ensures ∙ ap (λ z. z.1) c.self.view_is in
    let at = slice_get_read xs c.len-k-end.result c.loop-k.k c.index-entries-k.result (c.len-k-end.ensures.len ∙ ap length (sym c.entries-entries.ensures)) c.loop-k-test.true c.index-entries-k.is in
    record {
      entry = c.index-entries-k.result;
      is = subst (λ z. slice_get z c.loop-k.k ≡ Some c.index-entries-k.result) list at;
      blocks = c.blocks-in-loop-k.ensures.blocks c.if-blocks.true;
      first = c.loop-k.invariant;
    }

pub loop-k-preserved : goal.loop-k-preserved
loop-k-preserved g c =
    let xs = c.entries-entries.result.now in
    let list : xs ≡ c.args.self.now.1 = c.entries-entries.ensures ∙ ap (λ z. z.1) c.self.view_is in
    let at = slice_get_read xs c.len-k-end.result c.loop-k.k c.index-entries-k.result (c.len-k-end.ensures.len ∙ ap length (sym c.entries-entries.ensures)) c.loop-k-test.true c.index-entries-k.is in
    one_gives_way g.S.Spec.object c.args.owner.now c.args.op.now c.args.self.now.1 c.loop-k.k c.index-entries-k.result c.loop-k.invariant
    (subst (λ z. slice_get z c.loop-k.k ≡ Some c.index-entries-k.result) list at)
    (c.blocks-in-loop-k.ensures.gives_way c.if-blocks.false)

pub returns-clause-none : goal.returns-clause-none
returns-clause-none g c =
    let size = ap (λ z. length z.1) c.self.view_is in
    let all = c.len-k-end.ensures.len in
    let settled = c.self.invariant.settles.within in
    let end : c.loop-k.k ≡ length c.args.self.now.1 = omega arith in
    all_give_way g.S.Spec.object c.args.owner.now c.args.op.now c.args.self.now.1
    (subst (λ n. AllGiveWayBelow g.S.Spec.object c.args.owner.now c.args.op.now c.args.self.now.1 n) end c.loop-k.invariant)
