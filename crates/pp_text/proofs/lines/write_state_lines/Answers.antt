use Rattle.std.proofs.Common.{◌≡◌, ℕ, suc, ◌+◌, ◌-◌, ◌<◌, List, ◌++◌, ◌∙◌, append_assoc, arith}
use Rattle.std.specs.List.{flat_map, range_with_len}
use Rattle.pp_text.specs.Lines.{state_line}
use Rattle.pp_text.proofs.lines.write_state_lines.Goals as goal

-- The text at one position, followed by the text after it, is the text from that position on.
at_place : {A : Type 0} (f : ℕ → List A) (before after : List A) (place count : ℕ) → place < count → after ≡ before ++ f place
    → after ++ flat_map f (range_with_len (place + 1) (count - (place + 1))) ≡ before ++ flat_map f (range_with_len place (count - place))
at_place f before after place count below written =
    let left : count - place ≡ suc (count - (place + 1)) = omega arith in
    rw (left, written) (append_assoc before (f place) (flat_map f (range_with_len (place + 1) (count - (place + 1)))))

pub loop-object-preserved : goal.loop-object-preserved
loop-object-preserved c =
    at_place (state_line c.args.catalog.now c.args.states.now) c.loop-object.text c.write_state_line.new.text c.loop-object.object c.len-count.result c.loop-object-test.true c.in_ok-write_state_line.ensures ∙ c.loop-object.invariant
