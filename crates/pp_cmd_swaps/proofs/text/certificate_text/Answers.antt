use Rattle.std.proofs.Common.{ℕ, List, [], ◌∷◌, ◌++◌, map, ap, ◌∙◌}
use Rattle.pp_input.specs.Joined.{joined_lines}
use Rattle.pp_certificate_checker.specs.Laws.{rows}
use Rattle.pp_certificate_lines.specs.Lines.{entry_bytes, head_bytes, row_bytes, serial_bytes}
use Rattle.pp_cmd_swaps.proofs.Joining.{all_joined, flat_is}
use Rattle.pp_cmd_swaps.proofs.text.certificate_text.Goals as goal

pub returns : goal.returns
returns c =
    let catalog = c.args.catalog.now in
    let first = c.in_ok-add_line.ensures ∙ ap (λ (l : List ℕ). c.new-text.result ++ joined_lines (l ∷ [])) c.in_ok-head.ensures.text in
    let entries = c.in_ok-add_entries.ensures ∙ ap (λ (l : List ℕ). c.add_line.new.text ++ l) (flat_is (entry_bytes catalog) c.args.log.now) in
    let whole = c.in_ok-add_line-2.ensures ∙ ap (λ (l : List ℕ). c.add_rows.new.text ++ joined_lines (l ∷ [])) c.in_ok-last.ensures.text in
    all_joined (head_bytes catalog) (serial_bytes c.args.serial) (map (entry_bytes catalog) c.args.log.now) (map row_bytes (rows c.args.positions.now)) c.new-text.result c.add_line.new.text
    c.add_entries.new.text c.add_rows.new.text c.add_line-2.new.text c.new-text.ensures first entries c.in_ok-add_rows.ensures whole
