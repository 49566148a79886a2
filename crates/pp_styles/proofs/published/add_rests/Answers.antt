use Rattle.std.proofs.Common.{ℕ, List, ◌≤◌, [], arith, drop, inl, inr, length, refl, subst, sym, take_all}
use Rattle.std.proofs.lemmas.Option.{slice_get_read}
use Rattle.pp_model.specs.Lists.{In}
use Rattle.pp_model.specs.Names.{Name}
use Rattle.pp_styles.specs.Noting.{taken_in}
use Rattle.pp_styles.specs.Publishing.{ids_of}
use Rattle.pp_styles.proofs.Looking.{in_next, not_gone_yet, passes_in, passes_on, passes_same}
use Rattle.pp_styles.proofs.published.add_rests.Goals as goal

pub loop-source-init : goal.loop-source-init
loop-source-init g c =
    let ids : Name → List ℕ = λ v. ids_of v c.args.owners.now.entries in
    let gone : Name → ℕ → ℕ = λ v p. taken_in v c.args.gone.now p in (
      passes_same [] c.args.shared.now.1 c.args.object ids gone gone,
      passes_same c.args.local.now.1 c.args.shared.now.1 c.args.object ids gone (λ v p. taken_in v c.args.passed.now p),
      λ i there. there,
      λ v none. absurd none,
    )

pub returns-in_err-add_rest-clause-gone : goal.returns-in_err-add_rest-clause-gone
returns-in_err-add_rest-clause-gone g c =
    let gone : Name → ℕ → ℕ = λ v p. taken_in v c.args.gone.now p in
    let more : Name → ℕ → ℕ = λ v p. taken_in v c.loop-source.gone p in
    passes_on c.args.shared.now.1 c.args.object (λ v. ids_of v c.args.owners.now.entries) gone more c.loop-source.invariant.0 [] gone more (λ v p. taken_in v c.add_rest.new.gone p) c.loop-source.invariant.0 c.add_rest.ensures.gone

pub returns-in_err-add_rest-clause-passed : goal.returns-in_err-add_rest-clause-passed
returns-in_err-add_rest-clause-passed g c =
    passes_on c.args.shared.now.1 c.args.object (λ v. ids_of v c.args.owners.now.entries) (λ v p. taken_in v c.args.gone.now p) (λ v p. taken_in v c.loop-source.gone p) c.loop-source.invariant.0 c.args.local.now.1 (λ v p. taken_in v c.args.passed.now p)
    (λ v p. taken_in v c.loop-source.passed p) (λ v p. taken_in v c.add_rest.new.passed p) c.loop-source.invariant.1 c.add_rest.ensures.passed

pub loop-source-preserved : goal.loop-source-preserved
loop-source-preserved g c =
    let l = c.args.local.now.1 in
    let G = c.args.shared.now.1 in
    let o = c.args.object in
    let ids : Name → List ℕ = λ v. ids_of v c.args.owners.now.entries in
    let gone : Name → ℕ → ℕ = λ v p. taken_in v c.args.gone.now p in
    let more : Name → ℕ → ℕ = λ v p. taken_in v c.loop-source.gone p in
    let a : Name → ℕ → ℕ = λ v p. taken_in v c.args.passed.now p in
    let b : Name → ℕ → ℕ = λ v p. taken_in v c.loop-source.passed p in
    let all = c.args.sources.now in
    let k = c.loop-source.source-index in
    let here = slice_get_read all (length all) k c.source-item.result refl c.loop-source-test.true c.source-item.is in
    let moved = c.loop-source.invariant.0 in (
      passes_on G o ids gone more moved [] gone more (λ v p. taken_in v c.add_rest.new.gone p) moved c.add_rest.ensures.gone,
      passes_on G o ids gone more moved l a b (λ v p. taken_in v c.add_rest.new.passed p) c.loop-source.invariant.1 c.add_rest.ensures.passed,
      λ i there. c.in_ok-add_rest.ensures.kept i (c.loop-source.invariant.2 i there),
      λ v among e i off out there. elim (in_next v all k c.source-item.result here among) [
        | inl early ↦ c.in_ok-add_rest.ensures.kept e.id (c.loop-source.invariant.3 v early e i off out there)
        | inr same ↦ c.in_ok-add_rest.ensures.added e i off
            (subst (λ u. In e.id (drop (more u o) (ids u))) same (not_gone_yet G o ids gone more moved v o e i out))
            (subst (λ u. In e.id (drop (b u o) (ids u))) same (passes_in l G o ids gone a b c.loop-source.invariant.1 v o e i off out there))
      ],
    )

pub returns-clause-added : goal.returns-clause-added
returns-clause-added g c = λ v there.
    let k = c.loop-source.source-index in
    let past : length c.args.sources.now ≤ k = omega (arith, c.loop-source-test.false) in
    c.loop-source.invariant.3 v (subst (λ w. In v w) (sym (take_all k c.args.sources.now past)) there)
