use Rattle.std.proofs.Common.{◌≡◌, ◌<◌, ◌++◌, ◌∷◌, ◌-◌, ◌+◌, [], List, Bool, ℕ, arith, rules, sym, ap, subst, ◌∙◌}
use Rattle.std.proofs.Common.{drop, length, reverse}
use Rattle.std.proofs.lemmas.List.{reverse-append}
use Rattle.pp_core.specs.Steps.{Step, meaning}
use Rattle.pp_attempts.specs.Peaks.{meanings}
use Rattle.pp_attempts.specs.Tops.{KeepsGoing, is_top, tops}
use Rattle.pp_attempts.proofs.Collecting.{meanings_drop}
use Rattle.pp_attempts.proofs.top.tops.Goals as goal

pub loop-left-preserved : goal.loop-left-preserved
loop-left-preserved g c =
    let steps = c.args.steps.now in
    let i = c.loop-left.left in
    let step = c.index-steps-left.result in
    let rest = meanings (drop i steps) in
    let one : (i - 1) + 1 ≡ i = omega (arith, c.loop-left-test.true) in
    let below : i - 1 < length steps = omega (arith, c.loop-left-test.true, c.loop-left.invariant.within) in
    let here : meanings (drop (i - 1) steps) ≡ meaning step ∷ rest =
    meanings_drop steps (i - 1) step below c.index-steps-left.is
    ∙ ap (λ (k : ℕ). meaning step ∷ meanings (drop k steps)) one in
    let kept : KeepsGoing c.take.new.names (meaning step ∷ rest) = c.in_ok-take.ensures.kept rest c.loop-left.invariant.names in
    let pushed : c.push.new.self.items ≡ c.loop-left.found.items ++ c.in_ok-take.field-0 ∷ [] = search rules in
    let top : c.in_ok-take.field-0 ≡ is_top (meaning step) rest = c.in_ok-take.ensures.top rest c.loop-left.invariant.names in
    record {
      within = omega (arith, below);
      names = subst (λ (w : List (Step _)). KeepsGoing c.take.new.names w) (sym here) kept;
      found = pushed ∙ ap (λ (w : List Bool). w ++ c.in_ok-take.field-0 ∷ []) c.loop-left.invariant.found
          ∙ ap (λ (b : Bool). reverse (tops rest) ++ b ∷ []) top
          ∙ sym (reverse-append (is_top (meaning step) rest ∷ []) (tops rest))
          ∙ ap (λ (w : List (Step _)). reverse (tops w)) (sym here);
    }
