-- Lines as they come, with a byte 13 at their end if they have one: they are read, written and read again.
use Rattle.std.specs.Prelude.{◌≡◌, ◌≤◌, ◌<◌, ℕ, zero, suc, ◌+◌, ◌*◌, ◌-◌, ◌==◌, ◌&&◌, not, nat_le, cond, Bool, true, false, IsTrue, List, [], ◌∷◌, ◌++◌, length, map, take, slice_index, if◌then◌else◌, Option, None, Some}
use Rattle.std.specs.List.{list_all}
use Rattle.std.specs.Option.{option_or}
use Rattle.std.proofs.Common.{refl, sym, ap, ◌∙◌, subst, arith, append_assoc, append-nil, length-append}
use Rattle.std.proofs.Math.Seq.{get_or-append_seam, take-append_seam}
use Rattle.std.proofs.lemmas.List.{length-map, length-take}
use Rattle.std.proofs.lemmas.Bool.{and_from, and_parts}
use Rattle.std.proofs.lemmas.Bool.Decides.{leb_tells}
use mathlib.Core.Logic.{inl, inr}
use Rattle.pp_input.specs.declared.limits.Limits.{Limits}
use Rattle.pp_input.specs.declared.reach.Reach.{Reach}
use Rattle.pp_input.specs.declared.fault.LineFault.{LineFault}
use Rattle.pp_input.specs.Joined.{joined_lines}
use Rattle.pp_input.specs.Lines.{NumberedLine, ended, ended_behind, rest, rest_behind, unended, without_return, numbered_from, numbered_lines}
use Rattle.pp_input.specs.Overruns.{lines_before, overrun, scanned_lines}
use Rattle.pp_input.specs.Reaches.{overrun_from, passed, past, start}
use Rattle.pp_input.proofs.Overruns.{start_overrun}
use Rattle.pp_input.proofs.Reading.{scanned_all}
use Rattle.pp_input.proofs.Skips.{passed_byte, passed_end, reach_same}
use Rattle.pp_format_write.specs.Lines.{IsOneLine}
use Rattle.pp_format_write.proofs.RunTexts.{is_line}
use Rattle.pp_cmd_judge.specs.Inputs.{judge_limits}
use Rattle.pp_cmd_focus.specs.Restrictions.{with_return}

-- none of these is a byte 10
abbrev pub IsUnbroken : List ℕ → Type 0
IsUnbroken line = IsTrue (list_all (λ byte. not (byte == 10)) line)

-- a line as it comes, which is not too long
abbrev pub IsRaw : ℕ → List ℕ → Type 0
IsRaw most line = IsUnbroken line × (length line ≤ most)

abbrev pub AreRaw : ℕ → List (List ℕ) → Type 0
AreRaw most [] = Unit {0}
AreRaw most (line ∷ lines) = IsRaw most line × AreRaw most lines

-- ---- which lines come

inner : (b : ℕ) → (b == 10) ≡ false → IsTrue (not (b == 10))
inner b is = rw is refl

unbroken_push : (front : List ℕ) (b : ℕ) → IsUnbroken front → (b == 10) ≡ false → IsUnbroken (front ++ b ∷ [])
unbroken_push [] b h is = and_from (not (b == 10)) true (inner b is) refl
unbroken_push (x ∷ xs) b h is =
    let parts = and_parts (not (x == 10)) (list_all (λ byte. not (byte == 10)) xs) h in
    and_from (not (x == 10)) (list_all (λ byte. not (byte == 10)) (xs ++ b ∷ [])) parts.0 (unbroken_push xs b parts.1 is)

unbroken_take : (n : ℕ) (line : List ℕ) → IsUnbroken line → IsUnbroken (take n line)
unbroken_take zero line h = refl
unbroken_take (suc n) [] h = refl
unbroken_take (suc n) (x ∷ xs) h =
    let parts = and_parts (not (x == 10)) (list_all (λ byte. not (byte == 10)) xs) h in
    and_from (not (x == 10)) (list_all (λ byte. not (byte == 10)) (take n xs)) parts.0 (unbroken_take n xs parts.1)

first_none : {A : Type 0} (x y : Option A) → option_or x y ≡ None → (x ≡ None) × (y ≡ None)
first_none None y is = (refl, is)
first_none (Some x) y is = absurd (let none : Some x ≡ None = is in cc)

no_fault : (a b c : Bool) (x y z : LineFault) → (if a then Some x else (if b then Some y else (if c then Some z else None))) ≡ None → (b ≡ false) × (c ≡ false)
no_fault true b c x y z is = absurd (let none : Some x ≡ None = is in cc)
no_fault false true c x y z is = absurd (let none : Some y ≡ None = is in cc)
no_fault false false true x y z is = absurd (let none : Some z ≡ None = is in cc)
no_fault false false false x y z is = (refl, refl)

below : (a b : ℕ) → nat_le a b ≡ false → b < a
below a b is = elim (leb_tells a b) [ inl h ↦ absurd (let t = h.0 in cc) | inr h ↦ h.1 ]

-- A byte that passes no limit is on a line that may be, and its place in it too.
allowed_byte : (at : Reach) (b : ℕ) → passed at b ≡ None → (at.lines < at.limits.lines) × ((b == 10) ≡ false → at.column < at.limits.line_bytes)
allowed_byte at b none =
    let both = no_fault _ _ _ _ _ _ none in
    (below at.limits.lines at.lines both.0, λ other. below at.limits.line_bytes at.column (column other both.1))
  where
    column : (b == 10) ≡ false → (not (b == 10) && nat_le at.limits.line_bytes at.column) ≡ false → nat_le at.limits.line_bytes at.column ≡ false
    column other both = rw other at both

abbrev raws : List ℕ → List ℕ → List (List ℕ)
raws front bytes = ended_behind front bytes ++ unended (rest_behind front bytes)

-- what holds if front is before the bytes
abbrev Holds : Reach → List ℕ → List ℕ → Type 0
Holds at front bytes = AreRaw at.limits.line_bytes (raws front bytes) × (at.lines + length (raws front bytes) ≤ at.limits.lines)

-- the same before one more byte, if it ends a line or not
abbrev lines_if : List ℕ → ℕ → List ℕ → Bool → List (List ℕ)
lines_if front b bs t = (if t then front ∷ ended_behind [] bs else ended_behind (front ++ b ∷ []) bs) ++ unended (if t then rest_behind [] bs else rest_behind (front ++ b ∷ []) bs)

abbrev HoldsIf : Reach → List ℕ → ℕ → List ℕ → Bool → Type 0
HoldsIf at front b bs t = AreRaw at.limits.line_bytes (lines_if front b bs t) × (at.lines + length (lines_if front b bs t) ≤ at.limits.lines)

left : (at : Reach) (front : List ℕ) → IsUnbroken front → length front ≡ at.column → at.column ≤ at.limits.line_bytes → at.lines ≤ at.limits.lines → (0 < at.column → at.lines < at.limits.lines)
    → Holds at front []
left at [] unbroken long short few next = (tt, omega (arith, few))
left at (b ∷ bs) unbroken long short few next =
    let on = next (omega (arith, long)) in
    (((unbroken, omega (arith, long, short)), tt), omega (arith, on))

come : (at : Reach) (front bytes : List ℕ) → IsUnbroken front → length front ≡ at.column → at.column ≤ at.limits.line_bytes → at.lines ≤ at.limits.lines → (0 < at.column → at.lines < at.limits.lines)
    → overrun_from at bytes ≡ None → Holds at front bytes
come at front [] unbroken long short few next none = left at front unbroken long short few next
come at front (b ∷ bs) unbroken long short few next none =
    let both = first_none (passed at b) (overrun_from (past at b) bs) none in
    let may = allowed_byte at b both.0 in
    let on = may.0 in
    by (b == 10) refl on
    (λ none'. come (record at { bytes = at.bytes + 1; lines = at.lines + 1; column = 0 }) [] bs refl refl (omega arith) (omega (arith, on)) (λ no. absurd (omega (arith, no))) none')
    (λ is none'. let here = may.1 is in come (record at { bytes = at.bytes + 1; column = at.column + 1 }) (front ++ b ∷ []) bs (unbroken_push front b unbroken is) (omega (arith, long, length-append front (b ∷ []))) (omega (arith, here)) few (λ so. on) none')
    both.1
  where
    by : (t : Bool) → (b == 10) ≡ t → at.lines < at.limits.lines
        → (overrun_from (record at { bytes = at.bytes + 1; lines = at.lines + 1; column = 0 }) bs ≡ None → Holds (record at { bytes = at.bytes + 1; lines = at.lines + 1; column = 0 }) [] bs)
        → ((b == 10) ≡ false → overrun_from (record at { bytes = at.bytes + 1; column = at.column + 1 }) bs ≡ None → Holds (record at { bytes = at.bytes + 1; column = at.column + 1 }) (front ++ b ∷ []) bs)
        → overrun_from (if t then record at { bytes = at.bytes + 1; lines = at.lines + 1; column = 0 } else record at { bytes = at.bytes + 1; column = at.column + 1 }) bs ≡ None → HoldsIf at front b bs t
    by true is on ends goes none' =
        let more = ends none' in
        let few' = more.1 in
        (((unbroken, omega (arith, long, short)), more.0), omega (arith, few'))
    by false is on ends goes none' = goes is none'

-- The lines of an input that passes no limit, as they come: none is broken or too long, and they are not too many.
pub lines_come : (L : Limits) (bytes : List ℕ) → overrun L bytes ≡ None → AreRaw L.line_bytes (ended bytes ++ unended (rest bytes)) × (length (ended bytes ++ unended (rest bytes)) ≤ L.lines)
lines_come L bytes none =
    let all = come (start L) [] bytes refl refl (omega arith) (omega arith) (λ no. absurd (omega (arith, no))) (start_overrun L bytes ∙ none) in
    let few = all.1 in
    (all.0, omega (arith, few))

-- ---- a byte 13 at the end

at_end : (line : List ℕ) → slice_index (line ++ 13 ∷ []) (length (line ++ 13 ∷ []) - 1) ≡ 13
at_end line =
    let last : length (line ++ 13 ∷ []) - 1 ≡ length line = omega (arith, length-append line (13 ∷ [])) in
    ap (λ (i : ℕ). slice_index (line ++ 13 ∷ []) i) last ∙ get_or-append_seam line 13 [] 0

dropped : (line : List ℕ) → without_return (line ++ 13 ∷ []) ≡ line
dropped line =
    let last : length (line ++ 13 ∷ []) - 1 ≡ length line = omega (arith, length-append line (13 ∷ [])) in
    ap (λ (b : ℕ). if b == 13 then take (length (line ++ 13 ∷ []) - 1) (line ++ 13 ∷ []) else line ++ 13 ∷ []) (at_end line)
    ∙ ap (λ (i : ℕ). take i (line ++ 13 ∷ [])) last ∙ take-append_seam line (13 ∷ [])

-- Whoever reads a line that is written so reads this line.
pub without_with : (line : List ℕ) → without_return (with_return line) ≡ line
without_with line = by (slice_index line (length line - 1) == 13) refl
  where
    by : (b : Bool) → (slice_index line (length line - 1) == 13) ≡ b → without_return (if b then line ++ 13 ∷ [] else line) ≡ line
    by true is = dropped line
    by false is = rw is refl

returned_some : (line : List ℕ) → (slice_index line (length line - 1) == 13) ≡ true → 0 < length line
returned_some [] is = absurd (cc)
returned_some (x ∷ xs) is = omega arith

with_kept : (line : List ℕ) → without_return line ≡ line → with_return line ≡ line
with_kept line kept = by (slice_index line (length line - 1) == 13) refl kept
  where
    by : (b : Bool) → (slice_index line (length line - 1) == 13) ≡ b → (if b then take (length line - 1) line else line) ≡ line → (if b then line ++ 13 ∷ [] else line) ≡ line
    by true is same = absurd (omega (arith, returned_some line is, length-take (length line - 1) line, ap length same))
    by false is same = refl

-- A line without a byte below 32 is written as it is.
pub one_line_raw : (line : List ℕ) → IsOneLine line → length line ≤ 65_536 → IsRaw 65_536 (with_return line)
one_line_raw line clean short =
    let may = is_line line clean in
    subst (IsRaw 65_536) (sym (with_kept line may.kept)) (may.unbroken, short)

-- A line that is written so is no longer than it was when it came.
with_without : (most : ℕ) (line : List ℕ) → IsRaw most line → IsRaw most (with_return (without_return line))
with_without most line raw = by (slice_index line (length line - 1) == 13) refl
  where
    by : (b : Bool) → (slice_index line (length line - 1) == 13) ≡ b → IsRaw most (with_return (if b then take (length line - 1) line else line))
    by true is = cut (slice_index (take (length line - 1) line) (length (take (length line - 1) line) - 1) == 13) (returned_some line is)
      where
        shorter : 0 < length line → length (take (length line - 1) line) + 1 ≤ most
        shorter there = let few = raw.1 in omega (arith, there, length-take (length line - 1) line, few)

        cut : (b : Bool) → 0 < length line → IsRaw most (if b then take (length line - 1) line ++ 13 ∷ [] else take (length line - 1) line)
        cut true there = (unbroken_push (take (length line - 1) line) 13 (unbroken_take (length line - 1) line raw.0) refl, omega (arith, shorter there, length-append (take (length line - 1) line) (13 ∷ [])))
        cut false there = (unbroken_take (length line - 1) line raw.0, omega (arith, shorter there))
    by false is = rw is raw

-- ---- lines that are written

is_false : (t : Bool) → not t ≡ true → t ≡ false
is_false false h = refl
is_false true h = absurd (cc)

unbroken_parts : (b : ℕ) (bs : List ℕ) → IsUnbroken (b ∷ bs) → ((b == 10) ≡ false) × IsUnbroken bs
unbroken_parts b bs h =
    let parts = and_parts (not (b == 10)) (list_all (λ byte. not (byte == 10)) bs) h in
    (is_false (b == 10) parts.0, parts.1)

line_ended : (front line more : List ℕ) → IsUnbroken line → ended_behind front (line ++ 10 ∷ more) ≡ (front ++ line) ∷ ended_behind [] more
line_ended front [] more h = ap (λ (l : List ℕ). l ∷ ended_behind [] more) (sym (append-nil front))
line_ended front (b ∷ bs) more h =
    let parts = unbroken_parts b bs h in
    rw parts.0 (line_ended (front ++ b ∷ []) bs more parts.1 ∙ ap (λ (l : List ℕ). l ∷ ended_behind [] more) (append_assoc front (b ∷ []) bs))

line_left : (front line more : List ℕ) → IsUnbroken line → rest_behind front (line ++ 10 ∷ more) ≡ rest_behind [] more
line_left front [] more h = refl
line_left front (b ∷ bs) more h =
    let parts = unbroken_parts b bs h in
    rw parts.0 (line_left (front ++ b ∷ []) bs more parts.1)

all_ended : (most : ℕ) (lines : List (List ℕ)) → AreRaw most lines → ended (joined_lines lines) ≡ lines
all_ended most [] h = refl
all_ended most (l ∷ ls) h = line_ended [] l (joined_lines ls) h.0.0 ∙ ap (λ (rest : List (List ℕ)). l ∷ rest) (all_ended most ls h.1)

none_left : (most : ℕ) (lines : List (List ℕ)) → AreRaw most lines → rest (joined_lines lines) ≡ []
none_left most [] h = refl
none_left most (l ∷ ls) h = line_left [] l (joined_lines ls) h.0.0 ∙ none_left most ls h.1

lines_split : (most : ℕ) (lines : List (List ℕ)) → AreRaw most lines → numbered_lines (joined_lines lines) ≡ numbered_from 1 (map without_return lines)
lines_split most lines h =
    ap (λ (ls : List (List ℕ)). numbered_from 1 (map without_return (ls ++ unended (rest (joined_lines lines))))) (all_ended most lines h)
    ∙ ap (λ (left : List ℕ). numbered_from 1 (map without_return (lines ++ unended left))) (none_left most lines h)
    ∙ ap (λ (ls : List (List ℕ)). numbered_from 1 (map without_return ls)) (append-nil lines)

line_allowed : (at to : Reach) (line more : List ℕ) → IsUnbroken line → at.bytes + length line < at.limits.bytes → at.lines < at.limits.lines → at.column + length line ≤ at.limits.line_bytes
    → to.limits ≡ at.limits → to.bytes ≡ at.bytes + length line + 1 → to.lines ≡ at.lines + 1 → to.column ≡ 0 → overrun_from at (line ++ 10 ∷ more) ≡ overrun_from to more
line_allowed at to [] more h b l c ts tb tl tc =
    let next : Reach = record { limits = at.limits; bytes = at.bytes + 1; lines = at.lines + 1; column = 0 } in
    rw (passed_end at 10 refl (omega arith) l) (ap (λ r. overrun_from r more) (reach_same next to (sym ts) (omega arith) (omega arith) (omega arith)))
line_allowed at to (x ∷ xs) more h b l c ts tb tl tc =
    let parts = unbroken_parts x xs h in
    let next : Reach = record { limits = at.limits; bytes = at.bytes + 1; lines = at.lines; column = at.column + 1 } in
    rw (passed_byte at x parts.0 (omega arith) l (omega arith), parts.0) (line_allowed next to xs more parts.1 (omega arith) l (omega arith) ts (omega arith) tl tc)

all_allowed : (at : Reach) (lines : List (List ℕ)) → AreRaw at.limits.line_bytes lines → at.column ≡ 0 → at.lines + length lines ≤ at.limits.lines
    → at.bytes + length (joined_lines lines) ≤ at.limits.bytes → overrun_from at (joined_lines lines) ≡ None
all_allowed at [] h column few bytes = refl
all_allowed at (l ∷ ls) h column few bytes =
    let to : Reach = record { limits = at.limits; bytes = at.bytes + length l + 1; lines = at.lines + 1; column = 0 } in
    let long = length-append l (10 ∷ joined_lines ls) in
    let first = h.0.1 in
    line_allowed at to l (joined_lines ls) h.0.0 (omega arith) (omega arith) (omega arith) refl refl refl refl
    ∙ all_allowed to ls h.1 refl (omega arith) (omega arith)

few_bytes : (lines : List (List ℕ)) → AreRaw 65_536 lines → length (joined_lines lines) ≤ 65_537 * length lines
few_bytes [] h = omega arith
few_bytes (l ∷ ls) h = let short = h.0.1 in omega (arith, length-append l (10 ∷ joined_lines ls), short, few_bytes ls h.1)

lines_allowed : (lines : List (List ℕ)) → AreRaw 65_536 lines → length lines ≤ 2_147_483_647 → overrun judge_limits (joined_lines lines) ≡ None
lines_allowed lines h few =
    let bytes = few_bytes lines h in
    sym (start_overrun judge_limits (joined_lines lines)) ∙ all_allowed (start judge_limits) lines h refl (omega (arith, few)) (omega (arith, few, bytes))

texts_raw : (texts : List (List ℕ)) → map without_return (map with_return texts) ≡ texts
texts_raw [] = refl
texts_raw (t ∷ ts) = ap (λ (l : List ℕ). l ∷ map without_return (map with_return ts)) (without_with t) ∙ ap (λ (ls : List (List ℕ)). t ∷ ls) (texts_raw ts)

-- Lines that are written as they come pass no limit of `judge`, and are read as the same lines, numbered from 1.
pub texts_scanned : (texts : List (List ℕ)) → AreRaw 65_536 (map with_return texts) → length texts ≤ 2_147_483_647
    → (overrun judge_limits (joined_lines (map with_return texts)) ≡ None) × (scanned_lines judge_limits (joined_lines (map with_return texts)) ≡ numbered_from 1 texts)
texts_scanned texts h few =
    let lines = map with_return texts in
    let none = lines_allowed lines h (omega (arith, length-map texts with_return, few)) in
    (none, scanned_all judge_limits (joined_lines lines) none ∙ lines_split 65_536 lines h ∙ ap (numbered_from 1) (texts_raw texts))

raw_back : (most : ℕ) (lines : List (List ℕ)) → AreRaw most lines → AreRaw most (map with_return (map without_return lines))
raw_back most [] h = tt
raw_back most (l ∷ ls) h = (with_without most l h.0, raw_back most ls h.1)

-- The lines of an input that passes no limit are texts, numbered from 1, that can be written.
pub scanned_texts : (bytes : List ℕ) → overrun judge_limits bytes ≡ None
    → (texts : List (List ℕ)) × (scanned_lines judge_limits bytes ≡ numbered_from 1 texts) × AreRaw 65_536 (map with_return texts) × (length texts ≤ 2_147_483_647)
scanned_texts bytes none =
    let lines = ended bytes ++ unended (rest bytes) in
    let come = lines_come judge_limits bytes none in
    let few = come.1 in
    (map without_return lines, scanned_all judge_limits bytes none, raw_back 65_536 lines come.0, omega (arith, length-map lines without_return, few))
