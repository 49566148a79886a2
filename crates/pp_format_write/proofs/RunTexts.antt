-- The text of a run, line by line, and what it is as an input.
use Rattle.std.proofs.Common.{◌≡◌, ◌≤◌, ◌<◌, ◌+◌, ◌*◌, ◌==◌, ℕ, zero, suc, List, [], ◌∷◌, ◌++◌, map, take, length, get_or, slice_index, Option, Some, None}
use Rattle.std.proofs.Common.{cond, ◌-◌, not, true, false, IsTrue, refl, sym, ap, ◌∙◌, subst, arith, append_assoc, add-one}
use Rattle.std.proofs.lemmas.List.{map-append, length-append, length-map}
use Rattle.std.proofs.lemmas.List.Recursion.{is_count_by}
use Rattle.std.proofs.lemmas.Bool.{and_from}
use Rattle.std.proofs.lemmas.Bool.Decides.{nat_tests}
use Rattle.std.specs.List.{list_all, count_by}
use Rattle.pp_core.specs.Catalogs.{Objects}
use Rattle.pp_core.specs.Steps.{Step, Begin, App, Unapp, Push, Unpush, Pull, Unpull, Cmt, Quit, Note, meaning}
use Rattle.pp_core.specs.declared.step.Step.{Step as StepOf}
use Rattle.pp_input.specs.Joined.{joined_lines, IsLine, AreLines, AreShort, AreAllowed}
use Rattle.pp_input.specs.Limits.{usual_limits}
use Rattle.pp_input.specs.Lines.{blank, numbered_from}
use Rattle.pp_input.specs.Overruns.{overrun, scanned_lines}
use Rattle.pp_input.proofs.Joined as joined
use Rattle.pp_format_read.specs.declared.start.Start.{Start}
use Rattle.pp_model.specs.Lists.{Each}
use Rattle.pp_objects.specs.declared.act.Op.{Op}
use Rattle.pp_format_write.specs.Headers.{header_value, header_value_2}
use Rattle.pp_format_write.specs.Lines.{IsOneLine, most_bytes}
use Rattle.pp_format_write.specs.RunTexts.{printed_header, run_lines, run_text}
use Rattle.pp_format_write.specs.Statable.{IsCatalog, IsWritable, IsStatable, CanStart, is_begin, IsStatableRun}
use Rattle.pp_format_write.specs.Steps.{step_value, step_bytes}
use Rattle.pp_format_write.proofs.Words.{one_line}
use Rattle.pp_format_write.proofs.Texts.{IsNear, clean}
use Rattle.pp_format_write.proofs.Headers.{near_header, near_header_2, short}
use Rattle.pp_format_write.proofs.Steps.{near_step, statable_short}

-- ---- step by step
pub writable_at : (catalog : Objects) (steps : List (StepOf Op)) (i : ℕ) (step : StepOf Op) → Each (IsWritable catalog) (map meaning steps) → i < length steps → step ≡ get_or steps i step
    → IsWritable catalog (meaning step)
writable_at catalog [] i step h lt is = absurd (omega arith)
writable_at catalog (s ∷ ss) zero step h lt is = subst (λ (x : StepOf Op). IsWritable catalog (meaning x)) (sym is) h.0
writable_at catalog (s ∷ ss) (suc i) step h lt is = writable_at catalog ss i step h.1 (omega arith) is

taken_more : (steps : List (StepOf Op)) (i : ℕ) (step : StepOf Op) → i < length steps → step ≡ get_or steps i step → map meaning (take (suc i) steps) ≡ map meaning (take i steps) ++ meaning step ∷ []
taken_more [] i step lt is = absurd (omega arith)
taken_more (s ∷ ss) zero step lt is = ap (λ (x : StepOf Op). meaning x ∷ []) (sym is)
taken_more (s ∷ ss) (suc i) step lt is = ap (λ (l : List (Step Op)). meaning s ∷ l) (taken_more ss i step (omega arith) is)

-- The text of lines and more lines is the text of the first followed by the text of the others.
pub joined_both : (lines more : List (List ℕ)) → joined_lines (lines ++ more) ≡ joined_lines lines ++ joined_lines more
joined_both [] more = refl
joined_both (l ∷ ls) more = ap (λ (text : List ℕ). l ++ 10 ∷ text) (joined_both ls more) ∙ sym (append_assoc l (10 ∷ joined_lines ls) (joined_lines more))

-- The text of a run with more steps is the text of the run followed by the lines of these steps.
pub text_behind : (catalog : Objects) (start : Option Start) (before steps : List (Step Op)) → run_text catalog start (before ++ steps) ≡ run_text catalog start before ++ joined_lines (map (step_bytes catalog) steps)
text_behind catalog start before steps =
    ap (λ (ls : List (List ℕ)). joined_lines (printed_header catalog start ∷ ls)) (map-append (step_bytes catalog) before steps)
    ∙ joined_both (run_lines catalog start before) (map (step_bytes catalog) steps)

abbrev lines_of : Objects → List (Step Op) → List ℕ
lines_of catalog steps = joined_lines (map (step_bytes catalog) steps)

lines_behind : (catalog : Objects) (steps : List (Step Op)) (step : Step Op) → lines_of catalog (steps ++ step ∷ []) ≡ lines_of catalog steps ++ (step_bytes catalog step ++ 10 ∷ [])
lines_behind catalog steps step = ap joined_lines (map-append (step_bytes catalog) steps (step ∷ [])) ∙ joined_both (map (step_bytes catalog) steps) (step_bytes catalog step ∷ [])

-- If a text ends with the lines of the first i steps, with the line of step i it ends with those of the first i + 1.
pub one_more : (catalog : Objects) (steps : List (StepOf Op)) (i : ℕ) (step : StepOf Op) (old text longer : List ℕ)
    → text ≡ old ++ lines_of catalog (map meaning (take i steps)) → longer ≡ text ++ step_bytes catalog (meaning step) ++ 10 ∷ [] → i < length steps → step ≡ get_or steps i step
    → longer ≡ old ++ lines_of catalog (map meaning (take (i + 1) steps))
one_more catalog steps i step old text longer so_far next lt is =
    let bytes : List ℕ = step_bytes catalog (meaning step) in
    let told : List ℕ = lines_of catalog (map meaning (take i steps)) in
    next ∙ append_assoc text bytes (10 ∷ []) ∙ ap (λ (l : List ℕ). l ++ (bytes ++ 10 ∷ [])) so_far ∙ append_assoc old told (bytes ++ 10 ∷ [])
    ∙ ap (λ (l : List ℕ). old ++ l) (sym (lines_behind catalog (map meaning (take i steps)) (meaning step)))
    ∙ ap (λ (l : List (Step Op)). old ++ lines_of catalog l) (sym (taken_more steps i step lt is))
    ∙ ap (λ (n : ℕ). old ++ lines_of catalog (map meaning (take n steps))) (sym (add-one i))

-- ---- bytes that are no control bytes can be a line
inner : (b : ℕ) → 32 ≤ b → not (b == 10) ≡ true
inner b h = grind (arith, nat_tests)

kept_byte : (b : ℕ) → 32 ≤ b → (b == 13) ≡ false
kept_byte b h = grind (arith, nat_tests)

unbroken : (line : List ℕ) → IsOneLine line → IsTrue (list_all (λ byte. not (byte == 10)) line)
unbroken [] h = refl
unbroken (b ∷ bs) h = and_from (not (b == 10)) (list_all (λ byte. not (byte == 10)) bs) (inner b h.0) (unbroken bs h.1)

no_return : (line : List ℕ) (i : ℕ) → IsOneLine line → (slice_index line i == 13) ≡ false
no_return [] i h = refl
no_return (b ∷ bs) zero h = kept_byte b h.0
no_return (b ∷ bs) (suc i) h = no_return bs i h.1

-- Bytes of which none is below 32 can be a line.
pub is_line : (line : List ℕ) → IsOneLine line → IsLine line
is_line line h = record { unbroken = unbroken line h; kept = rw (no_return line (length line - 1) h) refl }

-- ---- its lines
header_one_line : (catalog : Objects) (start : Option Start) → IsCatalog catalog → CanStart catalog start → IsOneLine (printed_header catalog start)
header_one_line catalog None cat h = one_line (printed_header catalog None) (clean IsNear (header_value catalog) (near_header catalog cat.named))
header_one_line catalog (Some start) cat h = one_line (printed_header catalog (Some start)) (clean IsNear (header_value_2 catalog start.tx start.ops) (near_header_2 catalog start cat.named h))

most_most : (step : Step Op) → most_bytes step ≤ 7_840
most_most (Begin tx thread None) = omega arith
most_most (Begin tx thread (Some body)) = omega arith
most_most (App tx id op) = omega arith
most_most (Unapp tx id) = omega arith
most_most (Push tx id) = omega arith
most_most (Unpush tx id) = omega arith
most_most (Pull tx id) = omega arith
most_most (Unpull tx id) = omega arith
most_most (Cmt tx) = omega arith
most_most (Quit tx) = omega arith
most_most (Note tx) = omega arith

-- how many of the steps are begins
abbrev begins : List (Step Op) → ℕ
begins [] = 0
begins (s ∷ ss) = cond (is_begin s) (1 + begins ss) (begins ss)

begins_are : (steps : List (Step Op)) → begins steps ≡ count_by is_begin steps
begins_are steps = is_count_by begins is_begin refl (λ s ss. refl) steps

-- a begin may have 7,610 bytes more than another step
cost : (step : Step Op) (n : ℕ) → most_bytes step + 7_610 * n ≤ 230 + 7_610 * cond (is_begin step) (1 + n) n
cost (Begin tx thread None) n = omega arith
cost (Begin tx thread (Some body)) n = omega arith
cost (App tx id op) n = omega arith
cost (Unapp tx id) n = omega arith
cost (Push tx id) n = omega arith
cost (Unpush tx id) n = omega arith
cost (Pull tx id) n = omega arith
cost (Unpull tx id) n = omega arith
cost (Cmt tx) n = omega arith
cost (Quit tx) n = omega arith
cost (Note tx) n = omega arith

module _ (catalog : Objects) (cat : IsCatalog catalog) where
  step_lines : (steps : List (Step Op)) → Each (IsStatable catalog) steps → AreLines (map (step_bytes catalog) steps)
  step_lines [] h = tt
  step_lines (s ∷ ss) h = (is_line (step_bytes catalog s) (one_line (step_bytes catalog s) (clean IsNear (step_value catalog s) (near_step catalog s cat.named h.0))), step_lines ss h.1)

  steps_short : (steps : List (Step Op)) → Each (IsStatable catalog) steps → AreShort usual_limits (map (step_bytes catalog) steps)
  steps_short [] h = tt
  steps_short (s ∷ ss) h = (omega (arith, statable_short catalog s cat h.0, most_most s), steps_short ss h.1)

  steps_long : (steps : List (Step Op)) → Each (IsStatable catalog) steps → length (joined_lines (map (step_bytes catalog) steps)) ≤ 231 * length steps + 7_610 * begins steps
  steps_long [] h = omega arith
  steps_long (s ∷ ss) h =
      omega (arith, length-append (step_bytes catalog s) (10 ∷ joined_lines (map (step_bytes catalog) ss)), statable_short catalog s cat h.0, cost s (begins ss), steps_long ss h.1)

-- ---- its text
module _ (catalog : Objects) (start : Option Start) (steps : List (Step Op)) (h : IsStatableRun catalog start steps) where
  lines : AreLines (run_lines catalog start steps)
  lines = (is_line (printed_header catalog start) (header_one_line catalog start h.over h.begun), step_lines catalog h.over steps h.each)

  -- The text of a run that can be stated has fewer than 200,000,000 bytes.
  pub text_short : length (run_text catalog start steps) < 200_000_000
  text_short =
      let few = h.few in let begun = h.begins in
      omega (
        arith,
        length-append (printed_header catalog start) (10 ∷ joined_lines (map (step_bytes catalog) steps)),
        short catalog start h.over h.begun,
        steps_long catalog h.over steps h.each,
        begins_are steps,
      )

  text_allowed : AreAllowed usual_limits (run_lines catalog start steps)
  text_allowed = let few = h.few in record {
    few = omega (arith, length-map steps (step_bytes catalog));
    short = (omega (arith, short catalog start h.over h.begun), steps_short catalog h.over steps h.each);
    bytes = omega (arith, text_short);
  }

  -- The text of a run that can be stated passes no limit.
  pub text_passes : overrun usual_limits (run_text catalog start steps) ≡ None
  text_passes = joined.allowed usual_limits (run_lines catalog start steps) lines text_allowed

  -- The lines read from the text of a run that can be stated are those written, numbered from 1.
  pub text_scanned : scanned_lines usual_limits (run_text catalog start steps) ≡ numbered_from 1 (run_lines catalog start steps)
  text_scanned = joined.scanned usual_limits (run_lines catalog start steps) lines text_allowed

-- ---- no line is blank
header_shows : (catalog : Objects) (start : Option Start) → blank (printed_header catalog start) ≡ false
header_shows catalog None = refl
header_shows catalog (Some start) = refl

step_shows : (catalog : Objects) (step : Step Op) → blank (step_bytes catalog step) ≡ false
step_shows catalog (Begin tx thread body) = refl
step_shows catalog (App tx id op) = refl
step_shows catalog (Unapp tx id) = refl
step_shows catalog (Push tx id) = refl
step_shows catalog (Unpush tx id) = refl
step_shows catalog (Pull tx id) = refl
step_shows catalog (Unpull tx id) = refl
step_shows catalog (Cmt tx) = refl
step_shows catalog (Quit tx) = refl
step_shows catalog (Note tx) = refl

steps_show : (catalog : Objects) (steps : List (Step Op)) → Each (λ line. blank line ≡ false) (map (step_bytes catalog) steps)
steps_show catalog [] = tt
steps_show catalog (s ∷ ss) = (step_shows catalog s, steps_show catalog ss)

-- No line of a run is blank.
pub all_show : (catalog : Objects) (start : Option Start) (steps : List (Step Op)) → Each (λ line. blank line ≡ false) (run_lines catalog start steps)
all_show catalog start steps = (header_shows catalog start, steps_show catalog steps)
