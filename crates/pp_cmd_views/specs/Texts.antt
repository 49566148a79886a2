-- Meaning: what `views` prints, line by line.
use Rattle.std.specs.Prelude.{ℕ, List, ◌++◌, codes, Option, None, Some}
use Rattle.std.specs.Fmt.{decimal}
use Rattle.std.specs.List.{flat_map}
use Rattle.pp_report.specs.Reports.{accepted_line}
use Rattle.pp_attempts.specs.declared.view.View.{View}
use Rattle.pp_text.specs.Lines.{line}

-- a number, if there is one
abbrev pub number_bytes : Option ℕ → List ℕ
number_bytes None = codes "none"
number_bytes (Some number) = decimal number

-- the transaction of a view, and how many operations its attempt has
abbrev pub peak_bytes : View → List ℕ
peak_bytes v = codes "view " ++ v.tx ++ codes " ops " ++ decimal v.ops

-- the line of a view, with its number
abbrev pub view_line : View → List ℕ
view_line v = line (peak_bytes v ++ codes " after " ++ number_bytes v.after)

-- The text of an accepted run: the first line of its report, and a line for each view.
abbrev pub views_text : (steps count : ℕ) → List View → List ℕ
views_text steps count vs = accepted_line steps count ++ flat_map view_line vs

-- The text of a run whose attempts have too many operations to look for their views.
abbrev pub too_large_text : ℕ → List ℕ
too_large_text count = line (codes "toolarge views " ++ decimal count)
