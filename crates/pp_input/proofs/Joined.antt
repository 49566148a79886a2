-- Lines that are joined are split again, and lines that keep to the limits pass none.
use Rattle.std.proofs.Common.{◌≡◌, ◌≤◌, ◌<◌, ℕ, ◌+◌, List, [], ◌∷◌, ◌++◌, ◌==◌, length, map, not}
use Rattle.std.proofs.Common.{Bool, true, false, IsTrue, None, refl, ap, sym, ◌∙◌, append_assoc}
use Rattle.std.proofs.Common.{arith}
use Rattle.std.proofs.lemmas.List.{append-nil, length-append}
use Rattle.std.proofs.lemmas.Bool.{and_parts}
use Rattle.std.specs.List.{list_all}
use Rattle.pp_input.specs.declared.limits.Limits.{Limits}
use Rattle.pp_input.specs.declared.reach.Reach.{Reach}
use Rattle.pp_input.specs.Lines.{ended, rest, ended_behind, rest_behind, unended, without_return, numbered_from, numbered_lines}
use Rattle.pp_input.specs.Reaches.{overrun_from, start}
use Rattle.pp_input.specs.Overruns.{overrun, lines_before, scanned_lines}
use Rattle.pp_input.specs.Joined.{joined_lines, AreLines, AreShort, AreAllowed}
use Rattle.pp_input.proofs.Overruns.{start_overrun}
use Rattle.pp_input.proofs.Skips.{reach_same, passed_end, passed_byte}

is_false : (t : Bool) → not t ≡ true → t ≡ false
is_false false h = refl
is_false true h = absurd (cc)

-- a byte 10 is not among these
abbrev IsUnbroken : List ℕ → Type 0
IsUnbroken line = IsTrue (list_all (λ byte. not (byte == 10)) line)

-- the first byte is none, and the others are none
unbroken_parts : (b : ℕ) (bs : List ℕ) → IsUnbroken (b ∷ bs) → ((b == 10) ≡ false) × IsUnbroken bs
unbroken_parts b bs h =
    let parts = and_parts (not (b == 10)) (list_all (λ byte. not (byte == 10)) bs) h in
    (is_false (b == 10) parts.0, parts.1)

-- ---- split again
line_ended : (front line more : List ℕ) → IsUnbroken line → ended_behind front (line ++ 10 ∷ more) ≡ (front ++ line) ∷ ended_behind [] more
line_ended front [] more h = ap (λ (l : List ℕ). l ∷ ended_behind [] more) (sym (append-nil front))
line_ended front (b ∷ bs) more h =
    let parts = unbroken_parts b bs h in
    rw parts.0 (line_ended (front ++ b ∷ []) bs more parts.1 ∙ ap (λ (l : List ℕ). l ∷ ended_behind [] more) (append_assoc front (b ∷ []) bs))

line_left : (front line more : List ℕ) → IsUnbroken line → rest_behind front (line ++ 10 ∷ more) ≡ rest_behind [] more
line_left front [] more h = refl
line_left front (b ∷ bs) more h =
    let parts = unbroken_parts b bs h in
    rw parts.0 (line_left (front ++ b ∷ []) bs more parts.1)

all_ended : (lines : List (List ℕ)) → AreLines lines → ended (joined_lines lines) ≡ lines
all_ended [] h = refl
all_ended (l ∷ ls) h = line_ended [] l (joined_lines ls) h.0.unbroken ∙ ap (λ (rest : List (List ℕ)). l ∷ rest) (all_ended ls h.1)

none_left : (lines : List (List ℕ)) → AreLines lines → rest (joined_lines lines) ≡ []
none_left [] h = refl
none_left (l ∷ ls) h = line_left [] l (joined_lines ls) h.0.unbroken ∙ none_left ls h.1

all_kept : (lines : List (List ℕ)) → AreLines lines → map without_return lines ≡ lines
all_kept [] h = refl
all_kept (l ∷ ls) h = ap (λ (line : List ℕ). line ∷ map without_return ls) h.0.kept ∙ ap (λ (rest : List (List ℕ)). l ∷ rest) (all_kept ls h.1)

-- The lines of joined lines are these lines, numbered from 1.
pub split : (lines : List (List ℕ)) → AreLines lines → numbered_lines (joined_lines lines) ≡ numbered_from 1 lines
split lines h =
    ap (λ (ls : List (List ℕ)). numbered_from 1 (map without_return (ls ++ unended (rest (joined_lines lines))))) (all_ended lines h)
    ∙ ap (λ (left : List ℕ). numbered_from 1 (map without_return (lines ++ unended left))) (none_left lines h)
    ∙ ap (λ (ls : List (List ℕ)). numbered_from 1 (map without_return ls)) (append-nil lines)
    ∙ ap (numbered_from 1) (all_kept lines h)

-- ---- within the limits
line_allowed : (at to : Reach) (line more : List ℕ) → IsUnbroken line → at.bytes + length line < at.limits.bytes → at.lines < at.limits.lines → at.column + length line ≤ at.limits.line_bytes
    → to.limits ≡ at.limits → to.bytes ≡ at.bytes + length line + 1 → to.lines ≡ at.lines + 1 → to.column ≡ 0 → overrun_from at (line ++ 10 ∷ more) ≡ overrun_from to more
line_allowed at to [] more h b l c ts tb tl tc =
    let next : Reach = record { limits = at.limits; bytes = at.bytes + 1; lines = at.lines + 1; column = 0 } in
    rw (passed_end at 10 refl (omega arith) l) (ap (λ r. overrun_from r more) (reach_same next to (sym ts) (omega arith) (omega arith) (omega arith)))
line_allowed at to (x ∷ xs) more h b l c ts tb tl tc =
    let parts = unbroken_parts x xs h in
    let next : Reach = record { limits = at.limits; bytes = at.bytes + 1; lines = at.lines; column = at.column + 1 } in
    rw (passed_byte at x parts.0 (omega arith) l (omega arith), parts.0) (line_allowed next to xs more parts.1 (omega arith) l (omega arith) ts (omega arith) tl tc)

all_allowed : (at : Reach) (lines : List (List ℕ)) → AreLines lines → AreShort at.limits lines → at.column ≡ 0 → at.lines + length lines ≤ at.limits.lines
    → at.bytes + length (joined_lines lines) ≤ at.limits.bytes → overrun_from at (joined_lines lines) ≡ None
all_allowed at [] h short column few bytes = refl
all_allowed at (l ∷ ls) h short column few bytes =
    let to : Reach = record { limits = at.limits; bytes = at.bytes + length l + 1; lines = at.lines + 1; column = 0 } in
    let long = length-append l (10 ∷ joined_lines ls) in
    let first = short.0 in
    line_allowed at to l (joined_lines ls) h.0.unbroken (omega arith) (omega arith) (omega arith) refl refl refl refl
    ∙ all_allowed to ls h.1 short.1 refl (omega arith) (omega arith)

-- If lines keep to the limits, joined they pass none.
pub allowed : (L : Limits) (lines : List (List ℕ)) → AreLines lines → AreAllowed L lines → overrun L (joined_lines lines) ≡ None
allowed L lines h w =
    let few = w.few in let bytes = w.bytes in
    sym (start_overrun L (joined_lines lines)) ∙ all_allowed (start L) lines h w.short refl (omega arith) (omega arith)

-- If lines keep to the limits, those of them that are examined when joined are all, numbered from 1.
pub scanned : (L : Limits) (lines : List (List ℕ)) → AreLines lines → AreAllowed L lines → scanned_lines L (joined_lines lines) ≡ numbered_from 1 lines
scanned L lines h w = ap (λ o. lines_before o (numbered_lines (joined_lines lines))) (allowed L lines h w) ∙ split lines h
