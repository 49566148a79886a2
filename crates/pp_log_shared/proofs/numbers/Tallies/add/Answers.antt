use Rattle.std.proofs.Common.{◌+◌, ◌∙◌, IsSome, Some, FitsSigned, ap, arith, cond, refl, rules, subst}
use Rattle.std.proofs.lemmas.Int.{to_z-of_z}
use Rattle.std.specs.Map.{lookup}
use Rattle.std.specs.Int.{w128}
use Rattle.pp_log_shared.specs.Numbers.{Gains, amount, counted_of, holder_at, is_number, one_if}
use Rattle.pp_log_shared.specs.Numbers.{same_holder}
use Rattle.pp_log_shared.proofs.Counting.{changed}
use Rattle.pp_log_shared.proofs.numbers.Tallies.add.Goals as goal

pub returns-in-Some : goal.returns-in-Some
returns-in-Some c = λ yes.
    let label = c.args.label.now in
    let m = label.number in
    let fits : FitsSigned w128 m = search rules in
    let lent = c.get_mut.follows.holds c.add.new.self in
    let written = lent.3 (subst (λ s. IsSome s) c.in-Some.ensures.value refl) in
    let new = (c.get_mut.follows.lender c.add.new.self).entries in
    subst (λ z. Gains z new c.args.owner label) c.self.view_is
    (changed (λ a b. a + b) (λ a. omega arith) c.args.owner label c.self.inside.tallies.entries new
    (Some c.add.new.self) written.0
    (λ q. c.add.ensures yes q
    ∙ ap (λ z. amount q c.in-Some.tally.now + one_if (is_number q z)) (to_z-of_z w128 m fits)
    ∙ ap (λ t. amount q (counted_of t) + one_if (is_number q m)) c.in-Some.ensures.value))

pub returns : goal.returns
returns c = λ yes.
    let label = c.args.label.now in
    let m = label.number in
    let k = holder_at c.args.owner label in
    let fits : FitsSigned w128 m = search rules in
    let same = ap (λ z. z.entries) c.get_mut.follows.holds-at-none in
    let put = Some c.add-2.new.self in
    let new = c.insert.new.self.entries in
    subst (λ z. Gains z new c.args.owner label) c.self.view_is
    (changed (λ a b. a + b) (λ a. omega arith) c.args.owner label c.self.inside.tallies.entries new
    put
    (λ h. c.in-Ok.ensures.updates.0 h
    ∙ ap (λ s. cond (same_holder k h) put (lookup (same_holder h) s)) same)
    (λ q. c.add-2.ensures c.if-not-add.false q
    ∙ ap (λ z. amount q c.new-tally.result + one_if (is_number q z)) (to_z-of_z w128 m fits)
    ∙ ap (λ t. amount q t + one_if (is_number q m)) c.new-tally.ensures
    ∙ ap (λ t. amount q (counted_of t) + one_if (is_number q m)) c.in_default.ensures.value))
