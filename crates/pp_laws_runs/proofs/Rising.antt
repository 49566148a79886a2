-- The records of an input are on lines that rise.
use Rattle.std.specs.Prelude.{◌≡◌, ◌⊎◌, ◌≤◌, ◌<◌, ◌+◌, ◌-◌, ◌==◌, ◌&&◌, ◌||◌, ℕ, Bool, true, false}
use Rattle.std.specs.Prelude.{List, [], ◌∷◌, ◌++◌, cond, drop, fold, is_some, map, take, Option, None}
use Rattle.std.specs.Prelude.{Some, Result, Ok, Err}
use Rattle.std.proofs.Common.{refl, sym, ap, subst, ◌∙◌, arith}
use Rattle.std.proofs.lemmas.List.{take-append-drop}
use mathlib.Core.Logic.{inl, inr}
use Rattle.pp_core.specs.declared.answer.OutOfMemory.{OutOfMemory}
use Rattle.pp_records.specs.Records.{RunRecord}
use Rattle.pp_records.specs.Runs.{Lined, Records}
use Rattle.pp_input.specs.declared.fault.LineFault.{LineFault}
use Rattle.pp_input.specs.declared.limits.Limits.{Limits}
use Rattle.pp_input.specs.Lines.{NumberedLine, blank, ended, numbered_from, numbered_lines, rest}
use Rattle.pp_input.specs.Lines.{unended, without_return}
use Rattle.pp_input.specs.Overruns.{line_of, lines_before, overrun, scanned_lines}
use Rattle.pp_format_read.specs.declared.fault.RecordFault.{RecordFault}
use Rattle.pp_format_read.specs.declared.header.Header.{Header}
use Rattle.pp_format_read.specs.Headers.{header_of}
use Rattle.pp_format_read.specs.Records.{record_of}
use Rattle.pp_model.specs.Lists.{Before, In}
use Rattle.pp_model.proofs.Lists.{before_cases, before_left, in_cases}
use Rattle.pp_objects.specs.declared.act.Op.{Op}
use Rattle.pp_input_reader.specs.declared.cause.Cause.{Cause}
use Rattle.pp_input_reader.specs.declared.cause.Cause.TheVariants.{TooManyTransactions}
use Rattle.pp_judge.specs.Causes.{cause_of}
use Rattle.pp_judge.specs.Scans.{InputScan, begins, is_begin_record, nothing, read_line, scan_line}
use Rattle.pp_judge.specs.Scans.{with_fault, with_header, with_next, with_record}
use Rattle.pp_laws_runs.specs.Lines.{LinesRise}
use Rattle.pp_laws_runs.specs.Timely.{RisingLaw}

-- ---- the numbers of the lines

abbrev NumbersRise : List NumberedLine → Type 0
NumbersRise lines = (a b : NumberedLine) → Before a b lines → a.0 < b.0

numbered_at_least : (n : ℕ) (texts : List (List ℕ)) (a : NumberedLine) → In a (numbered_from n texts) → n ≤ a.0
numbered_at_least n [] a i = absurd i
numbered_at_least n (text ∷ texts) a (inl e) = let k : a.0 ≡ n = ap (λ (w : NumberedLine). w.0) e in omega (arith, k)
numbered_at_least n (text ∷ texts) a (inr i) = let k : n + 1 ≤ a.0 = numbered_at_least (n + 1) texts a i in omega (arith, k)

numbered_rise : (n : ℕ) (texts : List (List ℕ)) → NumbersRise (numbered_from n texts)
numbered_rise n [] a b h = absurd h
numbered_rise n (text ∷ texts) a b (inl h) =
    let k : a.0 ≡ n = ap (λ (w : NumberedLine). w.0) h.0 in
    let l : n + 1 ≤ b.0 = numbered_at_least (n + 1) texts b h.1 in
    omega (arith, k, l)
numbered_rise n (text ∷ texts) a b (inr h) = numbered_rise (n + 1) texts a b h

taken_rise : (n : ℕ) (lines : List NumberedLine) → NumbersRise lines → NumbersRise (take n lines)
taken_rise n lines rise a b h = rise a b (subst (λ (w : List NumberedLine). Before a b w) (take-append-drop n lines) (before_left a b (take n lines) (drop n lines) h))

scanned_rise : (limits : Limits) (bytes : List ℕ) → NumbersRise (scanned_lines limits bytes)
scanned_rise limits bytes = by (overrun limits bytes)
  where
    all : NumbersRise (numbered_lines bytes)
    all = numbered_rise 1 (map without_return (ended bytes ++ unended (rest bytes)))

    by : (o : Option LineFault) → NumbersRise (lines_before o (numbered_lines bytes))
    by None = all
    by (Some fault) = taken_rise (line_of fault - 1) (numbered_lines bytes) all

-- ---- the records of the lines

-- the second list of records is the first, or has one more record, on this line
abbrev AddsAtMost : InputScan → ℕ → InputScan → Type 0
AddsAtMost sc line wider =
    (wider.records ≡ sc.records)
    ⊎ ((r : Lined (RunRecord Op)) × (wider.records ≡ sc.records ++ r ∷ []) × (r.line ≡ line))

adds_no_fault : (sc : InputScan) (line : ℕ) (r : Result Cause OutOfMemory) → AddsAtMost sc line (with_fault sc line r)
adds_no_fault sc line (Ok cause) = inl refl
adds_no_fault sc line (Err refused) = inl refl

adds_no_header : (sc : InputScan) (line : ℕ) (r : Result Header RecordFault) → AddsAtMost sc line (with_header sc line r)
adds_no_header sc line (Ok header) = inl refl
adds_no_header sc line (Err fault) = adds_no_fault sc line (cause_of fault)

adds_record : (most : ℕ) (sc : InputScan) (line : ℕ) (r : Result (RunRecord Op) RecordFault) → AddsAtMost sc line (with_record most sc line r)
adds_record most sc line (Err fault) = adds_no_fault sc line (cause_of fault)
adds_record most sc line (Ok r) = by (is_begin_record r && begins sc.records == most)
  where
    by : (b : Bool) → AddsAtMost sc line (cond b (with_fault sc line (Ok TooManyTransactions)) (with_next sc line r))
    by true = adds_no_fault sc line (Ok TooManyTransactions)
    by false = inr (record { line = line; what = r }, refl, refl)

adds_read : (most : ℕ) (sc : InputScan) (o : Option (Lined Header)) (line : NumberedLine) → AddsAtMost sc line.0 (read_line most sc o line)
adds_read most sc None line = adds_no_header sc line.0 (header_of line.1)
adds_read most sc (Some header) line = adds_record most sc line.0 (record_of header.what line.1)

adds_line : (most : ℕ) (sc : InputScan) (line : NumberedLine) → AddsAtMost sc line.0 (scan_line most sc line)
adds_line most sc line = by (is_some sc.fault || blank line.1)
  where
    by : (b : Bool) → AddsAtMost sc line.0 (cond b sc (read_line most sc sc.header line))
    by true = inl refl
    by false = adds_read most sc sc.header line

-- each record is on a line before these
abbrev AreBefore : Records (RunRecord Op) → List NumberedLine → Type 0
AreBefore rs lines = (r : Lined (RunRecord Op)) (l : NumberedLine) → In r rs → In l lines → r.line < l.0

less_at : (m n k : ℕ) → n ≡ k → m < k → m < n
less_at m n k e h = omega (arith, e, h)

one_more_rises : (rs : Records (RunRecord Op)) (r : Lined (RunRecord Op)) → LinesRise rs → ((x : Lined (RunRecord Op)) → In x rs → x.line < r.line) → LinesRise (rs ++ r ∷ [])
one_more_rises rs r rise less x y b = elim (before_cases x y rs (r ∷ []) b) [
  | inl k ↦ rise x y k
  | inr (inl (inl k)) ↦ absurd k.1
  | inr (inl (inr k)) ↦ absurd k
  | inr (inr k) ↦ last k.0 k.1
]
  where
    last : In x rs → In y (r ∷ []) → x.line < y.line
    last i (inl e) = less_at x.line y.line r.line (ap (λ (w : Lined (RunRecord Op)). w.line) e) (less x i)
    last i (inr j) = absurd j

module _ (most : ℕ) (sc : InputScan) (line : NumberedLine) (lines : List NumberedLine) (rise : LinesRise sc.records) (before : AreBefore sc.records (line ∷ lines)) (numbers : NumbersRise (line ∷ lines)) where
  next_rises : LinesRise (scan_line most sc line).records
  next_rises = elim (adds_line most sc line) [
    | inl e ↦ subst (λ (w : Records (RunRecord Op)). LinesRise w) (sym e) rise
    | inr r ↦ subst (λ (w : Records (RunRecord Op)). LinesRise w) (sym r.1)
        (one_more_rises sc.records r.0 rise (λ x i. less_at x.line r.0.line line.0 r.2 (before x line i (inl refl))))
  ]

  next_before : AreBefore (scan_line most sc line).records lines
  next_before x l i j = elim (adds_line most sc line) [
    | inl e ↦ before x l (subst (λ (w : Records (RunRecord Op)). In x w) e i) (inr j)
    | inr r ↦ by r.0 r.2 (in_cases x sc.records (r.0 ∷ []) (subst (λ (w : Records (RunRecord Op)). In x w) r.1 i))
  ]
    where
      at : (m n k : ℕ) → m ≡ n → n < k → m < k
      at m n k e h = omega (arith, e, h)

      by : (r : Lined (RunRecord Op)) → r.line ≡ line.0 → In x sc.records ⊎ In x (r ∷ []) → x.line < l.0
      by r is (inl k) = before x l k (inr j)
      by r is (inr (inl e)) = at x.line line.0 l.0 (ap (λ (w : Lined (RunRecord Op)). w.line) e ∙ is) (numbers line l (inl (refl, j)))
      by r is (inr (inr k)) = absurd k

scan_rises : (most : ℕ) (sc : InputScan) (lines : List NumberedLine) → LinesRise sc.records → AreBefore sc.records lines → NumbersRise lines → LinesRise (fold (scan_line most) sc lines).records
scan_rises most sc [] rise before numbers = rise
scan_rises most sc (line ∷ lines) rise before numbers =
    scan_rises most (scan_line most sc line) lines (next_rises most sc line lines rise before numbers) (next_before most sc line lines rise before numbers) (λ a b h. numbers a b (inr h))

-- The records of an input are on lines that rise.
pub rising_law : RisingLaw
rising_law limits bytes = scan_rises limits.transactions nothing (scanned_lines limits bytes) (λ x y b. absurd b) (λ r l i j. absurd i) (scanned_rise limits bytes)
