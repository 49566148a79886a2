use Rattle.std.proofs.Common.{ℕ, List, ◌≡◌, ◌≤◌, ◌<◌, [], Some, drop, length, subst, sym}
use Rattle.std.specs.List.{slice_get}
use Rattle.pp_model.specs.Lists.{In}
use Rattle.pp_model.proofs.Lists.{in_left, in_right}
use Rattle.pp_model.specs.Names.{Name}
use Rattle.pp_styles.specs.Noting.{taken_in}
use Rattle.pp_styles.specs.Publishing.{Adds, ids_of}
use Rattle.pp_styles.proofs.Looking.{NeedsNoLook, adds_past, passes_same, passes_set, skips, skips_gone}
use Rattle.pp_styles.proofs.published.add_rest.Goals as goal

pub returns-then-from-listed-clause-gone : goal.returns-then-from-listed-clause-gone
returns-then-from-listed-clause-gone g c =
    passes_same [] c.args.shared.now.1 c.args.object (λ v. ids_of v c.args.owners.now.entries) (λ v p. taken_in v c.args.gone.now p) (λ v p. taken_in v c.args.gone.now p)

pub returns-then-from-listed-clause-passed : goal.returns-then-from-listed-clause-passed
returns-then-from-listed-clause-passed g c =
    passes_same c.args.local.now.1 c.args.shared.now.1 c.args.object (λ v. ids_of v c.args.owners.now.entries) (λ v p. taken_in v c.args.gone.now p) (λ v p. taken_in v c.args.passed.now p)

pub returns-then-from-listed-clause-added : goal.returns-then-from-listed-clause-added
returns-then-from-listed-clause-added g c =
    let past = subst (λ n. length c.listed-listed.result.now ≤ n) c.count-from.ensures c.if-from-listed.true in
    adds_past c.args.local.now.1 c.args.shared.now.1 (ids_of c.args.owner.now c.args.owners.now.entries) (taken_in c.args.owner.now c.args.gone.now c.args.object) (taken_in c.args.owner.now c.args.passed.now c.args.object) c.args.ids.now.items
    (subst (λ w. length w ≤ taken_in c.args.owner.now c.args.passed.now c.args.object) c.listed-listed.ensures past)

pub returns-in_err-extend_from_slice-clause-gone : goal.returns-in_err-extend_from_slice-clause-gone
returns-in_err-extend_from_slice-clause-gone g c =
    let G = c.args.shared.now.1 in
    let ids : Name → List ℕ = λ v. ids_of v c.args.owners.now.entries in
    let gone : Name → ℕ → ℕ = λ v p. taken_in v c.args.gone.now p in
    let n = taken_in c.args.owner.now c.args.gone.now c.args.object in
    let at = c.skip_gone-least.result in
    let low = subst (λ w. at ≤ length w) c.listed-listed.ensures c.skip_gone-least.ensures.within in
    let adds = subst (λ w. Adds [] G w n n (drop at w)) c.listed-listed.ensures (skips_gone [] G c.listed-listed.result.now n at c.skip_gone-least.ensures.gone) in
    passes_set [] G c.args.object ids c.args.owner.now at gone gone (λ v p. taken_in v c.skip_gone-least.new.gone p) c.skip_gone-least.ensures.each low adds

pub returns-in_err-extend_from_slice-clause-passed : goal.returns-in_err-extend_from_slice-clause-passed
returns-in_err-extend_from_slice-clause-passed g c =
    let l = c.args.local.now.1 in
    let G = c.args.shared.now.1 in
    let ids : Name → List ℕ = λ v. ids_of v c.args.owners.now.entries in
    let gone : Name → ℕ → ℕ = λ v p. taken_in v c.args.gone.now p in
    let a : Name → ℕ → ℕ = λ v p. taken_in v c.args.passed.now p in
    let n = taken_in c.args.owner.now c.args.gone.now c.args.object in
    let least = c.skip_gone-least.result in
    let at = c.first_missing-at.result in
    let listed = c.listed-listed.result.now in
    let low = subst (λ w. at ≤ length w) c.listed-listed.ensures c.first_missing-at.ensures.within in
    let after = subst (λ k. (i id : ℕ) → k ≤ i → i < at → slice_get listed i ≡ Some id → NeedsNoLook l G id) c.max.ensures c.first_missing-at.ensures.there in
    let adds = subst (λ k. Adds l G (ids c.args.owner.now) n k (drop at (ids c.args.owner.now))) c.count-from.ensures
    (subst (λ w. Adds l G w n c.count-from.result (drop at w)) c.listed-listed.ensures (skips l G listed c.count-from.result n least at c.skip_gone-least.ensures.gone after)) in
    passes_set l G c.args.object ids c.args.owner.now at gone a (λ v p. taken_in v c.raise_count.new.counts p) c.raise_count.ensures low adds

pub returns-clause-gone : goal.returns-clause-gone
returns-clause-gone g c =
    let G = c.args.shared.now.1 in
    let ids : Name → List ℕ = λ v. ids_of v c.args.owners.now.entries in
    let gone : Name → ℕ → ℕ = λ v p. taken_in v c.args.gone.now p in
    let n = taken_in c.args.owner.now c.args.gone.now c.args.object in
    let at = c.skip_gone-least.result in
    let low = subst (λ w. at ≤ length w) c.listed-listed.ensures c.skip_gone-least.ensures.within in
    let adds = subst (λ w. Adds [] G w n n (drop at w)) c.listed-listed.ensures (skips_gone [] G c.listed-listed.result.now n at c.skip_gone-least.ensures.gone) in
    passes_set [] G c.args.object ids c.args.owner.now at gone gone (λ v p. taken_in v c.skip_gone-least.new.gone p) c.skip_gone-least.ensures.each low adds

pub returns-clause-passed : goal.returns-clause-passed
returns-clause-passed g c =
    let l = c.args.local.now.1 in
    let G = c.args.shared.now.1 in
    let ids : Name → List ℕ = λ v. ids_of v c.args.owners.now.entries in
    let gone : Name → ℕ → ℕ = λ v p. taken_in v c.args.gone.now p in
    let a : Name → ℕ → ℕ = λ v p. taken_in v c.args.passed.now p in
    let n = taken_in c.args.owner.now c.args.gone.now c.args.object in
    let least = c.skip_gone-least.result in
    let at = c.first_missing-at.result in
    let listed = c.listed-listed.result.now in
    let low = subst (λ w. at ≤ length w) c.listed-listed.ensures c.first_missing-at.ensures.within in
    let after = subst (λ k. (i id : ℕ) → k ≤ i → i < at → slice_get listed i ≡ Some id → NeedsNoLook l G id) c.max.ensures c.first_missing-at.ensures.there in
    let adds = subst (λ k. Adds l G (ids c.args.owner.now) n k (drop at (ids c.args.owner.now))) c.count-from.ensures
    (subst (λ w. Adds l G w n c.count-from.result (drop at w)) c.listed-listed.ensures (skips l G listed c.count-from.result n least at c.skip_gone-least.ensures.gone after)) in
    passes_set l G c.args.object ids c.args.owner.now at gone a (λ v p. taken_in v c.raise_count.new.counts p) c.raise_count.ensures low adds

pub returns-clause-kept : goal.returns-clause-kept
returns-clause-kept g c = λ i there.
    subst (λ w. In i w) (sym c.in_ok-extend_from_slice.ensures.items) (in_left i c.args.ids.now.items _ there)

pub returns-clause-added : goal.returns-clause-added
returns-clause-added g c = λ e i off out there.
    let l = c.args.local.now.1 in
    let G = c.args.shared.now.1 in
    let n = taken_in c.args.owner.now c.args.gone.now c.args.object in
    let listed = c.listed-listed.result.now in
    let at = c.first_missing-at.result in
    let not_gone = subst (λ w. In e.id (drop n w)) (sym c.listed-listed.ensures) out in
    let not_passed = subst (λ k. In e.id (drop k listed)) (sym c.count-from.ensures)
    (subst (λ w. In e.id (drop (taken_in c.args.owner.now c.args.passed.now c.args.object) w)) (sym c.listed-listed.ensures) there) in
    let after = subst (λ k. (i id : ℕ) → k ≤ i → i < at → slice_get listed i ≡ Some id → NeedsNoLook l G id) c.max.ensures c.first_missing-at.ensures.there in
    let rest = skips l G listed c.count-from.result n c.skip_gone-least.result at c.skip_gone-least.ensures.gone after e i off not_gone not_passed in
    subst (λ w. In e.id w) (sym c.in_ok-extend_from_slice.ensures.items)
    (in_right e.id c.args.ids.now.items _ (subst (λ w. In e.id w) (sym c.last_ids.ensures) rest))
