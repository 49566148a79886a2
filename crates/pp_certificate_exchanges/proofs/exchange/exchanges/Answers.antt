use Rattle.std.proofs.Common.{◌≡◌, ◌<◌, ◌+◌, ◌∙◌, ℕ, List, length, sum, get_or, sym, ap, subst}
use Rattle.std.proofs.Common.{arith, rules}
use Rattle.pp_kind.specs.Object.{Swaps}
use Rattle.pp_certificate_exchanges.specs.Exchanges.{inverted, after_exchanges, EachExchange}
use Rattle.pp_certificate_exchanges.specs.Passes.{passes, route_passing}
use Rattle.pp_certificate_exchanges.proofs.Marks.{few_passes, passes_within}
use Rattle.pp_certificate_exchanges.proofs.Routes.{route_counted, passes_counted, route_each, route_ends}
use Rattle.pp_certificate_exchanges.proofs.Routes.{length_route}
use Rattle.pp_certificate_exchanges.proofs.exchange.exchanges.Goals as goal

pub total-count-requires : goal.total-count-requires
total-count-requires g c =
    let e : c.deref.result.now ≡ passes c.args.log.now c.args.target.now = search rules in
    omega (
      arith,
      ap (λ (w : List ℕ). length w) e,
      few_passes c.args.log.now c.args.target.now
          c.requires.permutes,
      c.requires.few,
    )

pub returns-then-count-from-clause-fault : goal.returns-then-count-from-clause-fault
returns-then-count-from-clause-fault g c =
    let e : c.deref.result.now ≡ passes c.args.log.now c.args.target.now = search rules in
    let n : c.total-count.result ≡ inverted c.args.log.now c.args.target.now =
    c.total-count.ensures ∙ ap (λ (w : List ℕ). sum w) e
    ∙ passes_counted c.args.log.now c.args.target.now c.requires.permutes in
    (n, omega (arith, n, c.if-count-from.true, c.from.ensures))

pub add_draws-requires-clause-few : goal.add_draws-requires-clause-few
add_draws-requires-clause-few g c =
    let e : c.deref-2.result.now ≡ passes c.args.log.now c.args.target.now = search rules in
    omega (
      arith,
      ap (λ (w : List ℕ). length w) e,
      few_passes c.args.log.now c.args.target.now
          c.requires.permutes,
      c.requires.few,
    )

pub add_draws-requires-clause-within : goal.add_draws-requires-clause-within
add_draws-requires-clause-within g c =
    let e : c.deref-2.result.now ≡ passes c.args.log.now c.args.target.now = search rules in
    let P : List ℕ → Type 0 = λ w. (k : ℕ) → k < length w → k + get_or w k 0 < 4294967296 in
    let few = c.requires.few in
    subst P (sym e) (λ k l. omega (
      arith,
      passes_within c.args.log.now c.args.target.now
          c.requires.permutes k l,
      few,
    ))

pub returns-clause-route : goal.returns-clause-route
returns-clause-route g c =
    let e : c.deref-2.result.now ≡ passes c.args.log.now c.args.target.now = search rules in
    c.in_ok-add_draws.ensures ∙ ap (λ (w : List ℕ). route_passing 0 w) e
    ∙ sym (route_counted c.args.log.now c.args.target.now c.requires.permutes)

pub returns-clause-few : goal.returns-clause-few
returns-clause-few g c =
    let e : c.deref.result.now ≡ passes c.args.log.now c.args.target.now = search rules in
    let n : c.total-count.result ≡ inverted c.args.log.now c.args.target.now =
    c.total-count.ensures ∙ ap (λ (w : List ℕ). sum w) e
    ∙ passes_counted c.args.log.now c.args.target.now c.requires.permutes in
    omega (arith, n, c.if-count-from.false, c.from.ensures)

pub returns-clause-swaps : goal.returns-clause-swaps
returns-clause-swaps g c =
    let r = returns-clause-route g c in
    subst (λ (w : List ℕ). EachExchange (λ p q. Swaps g.S.Spec.object p.op q.op) c.args.log.now w)
    (sym r)
    (route_each c.args.log.now c.args.target.now c.requires.permutes
    (λ p q. Swaps g.S.Spec.object p.op q.op) (λ p q i. c.requires.swaps p q i))

pub returns-clause-last : goal.returns-clause-last
returns-clause-last g c =
    let r = returns-clause-route g c in
    ap (λ (w : List ℕ). after_exchanges c.args.log.now w) r
    ∙ route_ends c.args.log.now c.args.target.now c.requires.permutes

pub returns-clause-long : goal.returns-clause-long
returns-clause-long g c =
    let r = returns-clause-route g c in
    ap (λ (w : List ℕ). length w) r ∙ length_route c.args.log.now c.args.target.now
    c.requires.permutes
