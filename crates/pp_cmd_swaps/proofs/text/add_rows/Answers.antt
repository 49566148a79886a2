use Rattle.std.proofs.Common.{List, ℕ, [], ◌∷◌, ◌++◌, ap, ◌∙◌, arith}
use Rattle.pp_input.specs.Joined.{joined_lines}
use Rattle.pp_certificate_lines.specs.Lines.{row_bytes}
use Rattle.pp_cmd_swaps.proofs.Joining.{rest_at, row_at, row_last, row_more}
use Rattle.pp_cmd_swaps.proofs.text.add_rows.Goals as goal

pub rows-preserved : goal.rows-preserved
rows-preserved c =
    let at = c.rows.at in
    let is = c.args.positions.now in
    let inv = c.rows.invariant in
    record {
      within = omega arith;
      so_far =
          row_more row_bytes is at c.rows.text c.add_row.new.text _ inv.so_far c.rows-test.true
          (c.in_ok-add_row.ensures ∙ ap (λ (r : List ℕ). c.rows.text ++ joined_lines (row_bytes r ∷ [])) (row_at is at));
    }

pub returns : goal.returns
returns c =
    let at = c.rows.at in
    let is = c.args.positions.now in
    row_last row_bytes is at c.rows.text c.add_row-2.new.text _ c.rows.invariant.so_far (omega arith) (omega arith)
    (c.in_ok-add_row-2.ensures ∙ ap (λ (r : List ℕ). c.rows.text ++ joined_lines (row_bytes r ∷ [])) (rest_at is at))
