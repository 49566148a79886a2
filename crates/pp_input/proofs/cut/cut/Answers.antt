use Rattle.std.proofs.Common.{◌≡◌, ◌++◌, ◌+◌, [], ◌∷◌, take, sym, ◌∙◌, rules, add-one}
use Rattle.std.proofs.lemmas.List.{take_rest}
use Rattle.pp_input.specs.Lines.{without_return}
use Rattle.pp_input.proofs.Cuts.{cut_more, nothing_more, rest_at, all_rest, kept_push}
use Rattle.pp_input.proofs.cut.cut.Goals as goal

pub cuts-preserved : goal.cuts-preserved
cuts-preserved c =
    let k = c.in-Some.at in
    let left = c.cuts.left.now in
    let first = c.in-Some.ensures.0 in
    let line : c.take.result ≡ without_return (c.cuts.tail ++ take k left) = search rules in
    let pushed : c.push_back.new.self.items ≡ c.cuts.whole.items ++ c.take.result ∷ [] = c.in_ok-push_back.ensures.items in
    record {
      whole = rw (take_rest left (k + 1), c.take.ensures.left, pushed, line, add-one) (cut_more c.cuts.whole.items c.cuts.tail left k _ first.high c.in-Some.ensures.1 first.before c.cuts.invariant.whole);
      tail = rw (take_rest left (k + 1), c.take.ensures.left, add-one) (sym (rest_at c.cuts.tail left k first.high c.in-Some.ensures.1 first.before) ∙ c.cuts.invariant.tail);
      kept = rw pushed (kept_push _ _ _ c.cuts.invariant.kept);
    }

pub returns-clause-whole : goal.returns-clause-whole
returns-clause-whole c = nothing_more _ c.cuts.tail c.cuts.left.now _ c.in_default.ensures c.cuts.invariant.whole

pub returns-clause-tail : goal.returns-clause-tail
returns-clause-tail c = c.in_ok-extend-2.ensures.ok ∙ sym (all_rest c.cuts.tail c.cuts.left.now c.in_default.ensures) ∙ c.cuts.invariant.tail
