-- One line more, seen from the counts of the lines that were taken.
use Rattle.std.specs.Prelude.{◌≡◌, ◌≤◌, ◌<◌, ℕ, suc, ◌+◌, ◌==◌, ◌&&◌, Bool, true, false, List}
use Rattle.std.specs.Prelude.{[], ◌∷◌, length, filter, cond, Option, Result, Ok, Err}
use Rattle.std.proofs.Common.{refl, sym, ap, ◌∙◌, arith, length-append}
use Rattle.std.proofs.lemmas.List.Elements.{filter-append}
use Rattle.pp_records.specs.Records.{RunRecord}
use Rattle.pp_records.specs.Runs.{Lined, Records}
use Rattle.pp_objects.specs.declared.act.Op.{Op}
use Rattle.pp_input.specs.Lines.{NumberedLine, blank}
use Rattle.pp_format_read.specs.declared.fault.RecordFault.{RecordFault}
use Rattle.pp_format_read.specs.declared.header.Header.{Header}
use Rattle.pp_format_read.specs.Records.{record_of}
use Rattle.pp_input_reader.specs.declared.cause.Cause.{Cause}
use Rattle.pp_judge.specs.Scans.{InputScan, begins, is_begin_record, nothing, scan_line, with_header}
use Rattle.pp_judge.specs.Scans.{with_next}
use Rattle.pp_judge.specs.Tallies.{IsRecordFault, IsTallied, headed, is_too_many, one_more, scan_of}
use Rattle.pp_judge.specs.Tallies.{with_line, with_record}
use Rattle.pp_judge.specs.declared.progress.Tally.{Tally}
use Rattle.pp_judge.proofs.Scanning.{faulty_at, next_taken, scan_record, too_many}

length_filter : {A : Type 0} (test : A → Bool) (xs : List A) → length (filter test xs) ≤ length xs
length_filter test [] = omega arith
length_filter test (x ∷ xs) =
    elim (test x) as (λ b. length (cond b (x ∷ filter test xs) (filter test xs)) ≤ suc (length xs)) [
      | true ↦ omega (arith, length_filter test xs)
      | false ↦ omega (arith, length_filter test xs)
    ]

-- whether a record begins a transaction
abbrev pub test_begin : Lined (RunRecord Op) → Bool
test_begin r = is_begin_record r.what

-- A tally counts fewer records that begin a transaction than lines.
pub few_begins : (sc : InputScan) (tally : Tally) → IsTallied sc tally → tally.begins < tally.lines
few_begins sc tally f = omega (arith, f.begun, f.fewer, length_filter test_begin sc.records)

-- lines that are tallied are a header and records without a fault
pub tallied_scan : (sc : InputScan) (tally : Tally) (f : IsTallied sc tally) → sc ≡ scan_of (headed f.at tally.header) sc.records
tallied_scan sc tally f =
    ap (λ (o : Option (Lined Header)). let s : InputScan = record sc { header = o } in s) f.header
    ∙ ap (λ (w : Option (ℕ × Cause)). let s : InputScan = record (scan_of (headed f.at tally.header) sc.records) { fault = w } in s) f.sound

-- one blank line more
unfoldable pub follows_line : (sc : InputScan) (tally : Tally) → IsTallied sc tally → IsTallied sc (with_line tally)
follows_line sc tally f = record { at = f.at; header = f.header; sound = f.sound; begun = f.begun; fewer = omega (arith, f.fewer) }

-- the header on its line
abbrev pub first_tally : ℕ → Header → Tally
first_tally line header = record { header = header; lines = line; begins = 0 }

unfoldable pub follows_first : (line : ℕ) (header : Header) → 0 < line → IsTallied (with_header nothing line (Ok header)) (first_tally line header)
follows_first line header positive = record { at = line; header = refl; sound = refl; begun = refl; fewer = positive }

-- a record more
module _ (most : ℕ) (sc : InputScan) (tally : Tally) (f : IsTallied sc tally) (line : NumberedLine) (other : blank line.1 ≡ false) where
  test_same : (r : RunRecord Op) (b : Bool) → is_too_many most tally r ≡ b → (is_begin_record r && begins sc.records == most) ≡ b
  test_same r b test = ap (λ (n : ℕ). is_begin_record r && n == most) (sym f.begun) ∙ test

  -- The scan takes a record that is read and begins no transaction too many.
  pub scan_next : (r : RunRecord Op) → record_of tally.header line.1 ≡ Ok r → is_too_many most tally r ≡ false → scan_line most sc line ≡ with_next sc line.0 r
  scan_next r read few = scan_record most sc (record { line = f.at; what = tally.header }) line (Ok r) f.sound f.header other read ∙ next_taken most sc line.0 r (test_same r false few)

  -- If a record is not taken for a cause, the scan is faulty at its line with this cause.
  pub record_fault : (r : Result (RunRecord Op) RecordFault) (cause : Cause) → record_of tally.header line.1 ≡ r → IsRecordFault most tally r cause → scan_line most sc line ≡ faulty_at sc (line.0, cause)
  record_fault (Ok r) cause read refused =
      scan_record most sc (record { line = f.at; what = tally.header }) line (Ok r) f.sound f.header other read
      ∙ too_many most sc line.0 r (test_same r true refused.0) ∙ ap (λ (c : Cause). faulty_at sc (line.0, c)) (sym refused.1)
  record_fault (Err fault) cause read refused = scan_record most sc (record { line = f.at; what = tally.header }) line (Err fault) f.sound f.header other read ∙ rw refused refl

-- a record on its line
abbrev pub on_record : ℕ → RunRecord Op → Lined (RunRecord Op)
on_record line r = record { line = line; what = r }

-- With one record more, the tally counts the records that begin a transaction as the scan does.
pub begun_more : (sc : InputScan) (tally : Tally) (f : IsTallied sc tally) (line : ℕ) (r : RunRecord Op) → (with_record tally r).begins ≡ begins (with_next sc line r).records
begun_more sc tally f line r =
    let it : Lined (RunRecord Op) = on_record line r in
    let all : begins (with_next sc line r).records ≡ begins sc.records + length (filter test_begin (it ∷ [])) =
    ap (λ (l : Records (RunRecord Op)). length l) (filter-append test_begin sc.records (it ∷ [])) ∙ length-append (filter test_begin sc.records) (filter test_begin (it ∷ [])) in
    by (is_begin_record r) it ∙ sym all
  where
    by : (b : Bool) (one : Lined (RunRecord Op)) → cond b (tally.begins + 1) tally.begins ≡ begins sc.records + length (cond b (one ∷ []) [])
    by true one = omega (arith, f.begun)
    by false one = omega (arith, f.begun)

unfoldable pub follows_next : (sc : InputScan) (tally : Tally) (f : IsTallied sc tally) (line : ℕ) (r : RunRecord Op) → IsTallied (with_next sc line r) (with_record tally r)
follows_next sc tally f line r = record {
  at = f.at;
  header = f.header;
  sound = f.sound;
  begun = begun_more sc tally f line r;
  fewer = omega (arith, f.fewer, length-append sc.records (on_record line r ∷ []));
}

-- the lines with a record more
pub tallied_next : (sc : InputScan) (tally : Tally) (f : IsTallied sc tally) (line : ℕ) (r : RunRecord Op) → with_next sc line r ≡ scan_of (headed f.at tally.header) (one_more sc.records line r)
unfolding follows_next
tallied_next sc tally f line r = tallied_scan (with_next sc line r) (with_record tally r) (follows_next sc tally f line r)
