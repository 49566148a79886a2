-- What one line more makes of a scan.
use Rattle.std.specs.Prelude.{◌≡◌, ℕ, ◌==◌, ◌&&◌, ◌||◌, true, false, List, [], ◌∷◌, ◌++◌, fold}
use Rattle.std.specs.Prelude.{is_some, cond, Option, None, Some, Result, Ok}
use Rattle.std.proofs.Common.{refl, ap, ◌∙◌}
use Rattle.pp_objects.specs.declared.act.Op.{Op}
use Rattle.pp_input.specs.Lines.{NumberedLine, blank}
use Rattle.pp_format_read.specs.declared.header.Header.{Header}
use Rattle.pp_format_read.specs.declared.fault.RecordFault.{RecordFault}
use Rattle.pp_format_read.specs.Headers.{header_of}
use Rattle.pp_format_read.specs.Records.{record_of}
use Rattle.pp_records.specs.Records.{RunRecord}
use Rattle.pp_records.specs.Runs.{Lined}
use Rattle.pp_input_reader.specs.declared.cause.Cause.{Cause}
use Rattle.pp_input_reader.specs.declared.cause.Cause.TheVariants.{TooManyTransactions}
use Rattle.pp_judge.specs.Scans.{InputScan, begins, is_begin_record, nothing, read_line, scan_line}
use Rattle.pp_judge.specs.Scans.{scan_lines, with_header, with_next, with_record}

fold_append : {A B : Type 0} (f : B → A → B) (b : B) (xs ys : List A) → fold f b (xs ++ ys) ≡ fold f (fold f b xs) ys
fold_append f b [] ys = refl
fold_append f b (x ∷ xs) ys = fold_append f (f b x) xs ys

-- Scanning lines and then more lines is scanning the first and going on with the others.
pub scan_append : (most : ℕ) (lines more : List NumberedLine) → scan_lines most (lines ++ more) ≡ fold (scan_line most) (scan_lines most lines) more
scan_append most lines more = fold_append (scan_line most) nothing lines more

-- Scanning one line more is scanning the others and then this line.
pub scan_more : (most : ℕ) (lines : List NumberedLine) (line : NumberedLine) → scan_lines most (lines ++ line ∷ []) ≡ scan_line most (scan_lines most lines) line
scan_more most lines line = scan_append most lines (line ∷ [])

-- nothing is read behind a fault
pub skips : (most : ℕ) (sc : InputScan) (line : NumberedLine) (x : ℕ × Cause) → sc.fault ≡ Some x → scan_line most sc line ≡ sc
skips most sc line x faulty = ap (λ (f : Option (ℕ × Cause)). cond (is_some f || blank line.1) sc (read_line most sc sc.header line)) faulty

-- a blank line
pub scan_blank : (most : ℕ) (sc : InputScan) (line : NumberedLine) → sc.fault ≡ None → blank line.1 ≡ true → scan_line most sc line ≡ sc
scan_blank most sc line sound is = rw (sound, is) refl

-- a line that is not blank
pub scan_other : (most : ℕ) (sc : InputScan) (line : NumberedLine) → sc.fault ≡ None → blank line.1 ≡ false → scan_line most sc line ≡ read_line most sc sc.header line
scan_other most sc line sound is = rw (sound, is) refl

-- the header
pub scan_header : (most : ℕ) (sc : InputScan) (line : NumberedLine) (r : Result Header RecordFault) → sc.fault ≡ None → sc.header ≡ None → blank line.1 ≡ false → header_of line.1 ≡ r → scan_line most sc line ≡ with_header sc line.0 r
scan_header most sc line r sound none is read = scan_other most sc line sound is ∙ rw (none, read) refl

-- a record
pub scan_record : (most : ℕ) (sc : InputScan) (header : Lined Header) (line : NumberedLine) (r : Result (RunRecord Op) RecordFault) → sc.fault ≡ None → sc.header ≡ Some header → blank line.1 ≡ false → record_of header.what line.1 ≡ r → scan_line most sc line ≡ with_record most sc line.0 r
scan_record most sc header line r sound there is read = scan_other most sc line sound is ∙ rw (there, read) refl

-- A record is added to the records unless it begins a transaction and as many as allowed were begun.
pub next_taken : (most : ℕ) (sc : InputScan) (line : ℕ) (r : RunRecord Op) → (is_begin_record r && begins sc.records == most) ≡ false → with_record most sc line (Ok r) ≡ with_next sc line r
next_taken most sc line r few = rw few refl

-- the same lines with this fault
abbrev pub faulty_at : InputScan → ℕ × Cause → InputScan
faulty_at sc x = record sc { fault = Some x }

-- A record that begins a transaction when as many as allowed were begun is a fault of its line: too many transactions.
pub too_many : (most : ℕ) (sc : InputScan) (line : ℕ) (r : RunRecord Op) → (is_begin_record r && begins sc.records == most) ≡ true → with_record most sc line (Ok r) ≡ faulty_at sc (line, TooManyTransactions)
too_many most sc line r many = rw many refl
