use Rattle.std.proofs.Common.{◌≡◌, ◌≤◌, ◌∙◌, true, arith, inl, inr, length, refl, subst, sym, take_all}
use Rattle.std.proofs.lemmas.Option.{slice_get_read}
use Rattle.pp_records.specs.Fronts.{has_name}
use Rattle.pp_model.specs.Lists.{In}
use Rattle.pp_styles.proofs.Looking.{has_list, in_next, is_found}
use Rattle.pp_styles.proofs.published.listed_sources.Goals as goal

pub loop-owner-preserved : goal.loop-owner-preserved
loop-owner-preserved c = λ v among there.
    let all = c.as_slice-owner-items.result.now in
    let k = c.loop-owner.owner-index in
    let here = slice_get_read all (length all) k c.owner-item.result refl c.loop-owner-test.true c.owner-item.is in
    elim (in_next v all k c.owner-item.result here there) [
      | inl early ↦ c.in_ok-add_name.ensures.kept v (c.loop-owner.invariant v among early)
      | inr same ↦ subst (λ u. In u c.add_name.new.names.items) (sym same)
          (c.in_ok-add_name.ensures.added (subst (λ u. has_name u c.args.sources.now.keys ≡ true) same (is_found v c.args.sources.now.keys among)))
    ]

pub returns : goal.returns
returns c = λ v among.
    let all = c.as_slice-owner-items.result.now in
    let k = c.loop-owner.owner-index in
    let past : length all ≤ k = omega (arith, c.loop-owner-test.false) in
    elim (has_list v c.args.owners.now.entries) [
      | inl there ↦ inl (c.loop-owner.invariant v among (subst (λ w. In v w) (sym (take_all k all past))
          (subst (λ w. In v w) (sym (c.as_slice-owner-items.ensures ∙ c.keys.ensures.rest)) there)))
      | inr none ↦ inr none
    ]
