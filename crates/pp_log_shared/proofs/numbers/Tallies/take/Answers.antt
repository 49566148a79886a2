use Rattle.std.proofs.Common.{◌-◌, ◌∙◌, IsSome, None, Some, FitsSigned, ap, arith, refl, rules, subst, sym}
use Rattle.std.proofs.lemmas.Int.{to_z-of_z}
use Rattle.std.specs.Int.{w128}
use Rattle.pp_log_shared.specs.Numbers.{Loses, amount, counted_of, holder_at, is_number, one_if}
use Rattle.pp_log_shared.proofs.Counting.{changed, set_twice}
use Rattle.pp_log_shared.proofs.numbers.Tallies.take.Goals as goal

pub returns-then-is_empty : goal.returns-then-is_empty
returns-then-is_empty c =
    let label = c.args.label.now in
    let m = label.number in
    let fits : FitsSigned w128 m = search rules in
    let old = c.self.inside.tallies.entries in
    let new = c.swap_remove.new.self.entries in
    let lent = c.get_mut.follows.holds c.take.new.self in
    let written = lent.3 (subst (λ s. IsSome s) c.in-Some.ensures.value refl) in
    let gone : Loses old new c.args.owner label =
    changed (λ a b. a - b) (λ a. omega arith) c.args.owner label old new None
    (set_twice (holder_at c.args.owner label) old _ new None (Some c.take.new.self) written.0
    c.swap_remove.ensures.updates.0)
    (λ q. ap (λ t. amount q t) (sym (c.is_empty.ensures c.if-is_empty.true))
    ∙ c.take.ensures q
    ∙ ap (λ z. amount q c.in-Some.tally.now - one_if (is_number q z)) (to_z-of_z w128 m fits)
    ∙ ap (λ t. amount q (counted_of t) - one_if (is_number q m)) c.in-Some.ensures.value) in
    let all : Loses c.args.self.now new c.args.owner label =
    subst (λ z. Loses z new c.args.owner label) c.self.view_is gone in
    search (rules, all)

pub returns-else-is_empty : goal.returns-else-is_empty
returns-else-is_empty c =
    let label = c.args.label.now in
    let m = label.number in
    let fits : FitsSigned w128 m = search rules in
    let lent = c.get_mut.follows.holds c.take.new.self in
    let written = lent.3 (subst (λ s. IsSome s) c.in-Some.ensures.value refl) in
    let new = (c.get_mut.follows.lender c.take.new.self).entries in
    subst (λ z. Loses z new c.args.owner label) c.self.view_is
    (changed (λ a b. a - b) (λ a. omega arith) c.args.owner label c.self.inside.tallies.entries new
    (Some c.take.new.self) written.0
    (λ q. c.take.ensures q
    ∙ ap (λ z. amount q c.in-Some.tally.now - one_if (is_number q z)) (to_z-of_z w128 m fits)
    ∙ ap (λ t. amount q (counted_of t) - one_if (is_number q m)) c.in-Some.ensures.value))
