-- The header and each record of an input were read from a line of it.
use Rattle.std.specs.Prelude.{◌≡◌, ◌==◌, ◌&&◌, ◌||◌, ℕ, Bool, true, false, List, [], ◌∷◌, cond, fold, is_some, Option, None, Some, Result, Ok, Err}
use Rattle.std.proofs.Common.{refl, sym, ap, subst, ◌∙◌}
use Rattle.std.proofs.lemmas.Option.{same_Some}
use mathlib.Core.Logic.{inl, inr}
use Rattle.pp_core.specs.declared.answer.OutOfMemory.{OutOfMemory}
use Rattle.pp_records.specs.Records.{RunRecord}
use Rattle.pp_records.specs.Runs.{Lined}
use Rattle.pp_input.specs.declared.limits.Limits.{Limits}
use Rattle.pp_input.specs.Lines.{NumberedLine, blank}
use Rattle.pp_input.specs.Overruns.{scanned_lines}
use Rattle.pp_format_read.specs.declared.fault.RecordFault.{RecordFault}
use Rattle.pp_format_read.specs.declared.header.Header.{Header}
use Rattle.pp_format_read.specs.Headers.{header_of}
use Rattle.pp_format_read.specs.Records.{record_of}
use Rattle.pp_model.specs.Lists.{In}
use Rattle.pp_model.proofs.Lists.{in_cases}
use Rattle.pp_objects.specs.declared.act.Op.{Op}
use Rattle.pp_input_reader.specs.declared.cause.Cause.{Cause}
use Rattle.pp_input_reader.specs.declared.cause.Cause.TheVariants.{TooManyTransactions}
use Rattle.pp_judge.specs.Causes.{cause_of}
use Rattle.pp_judge.specs.Inputs.{scan_within}
use Rattle.pp_judge.specs.Scans.{InputScan, begins, is_begin_record, nothing, read_line, scan_line, with_fault, with_header, with_next, with_record}

-- some line is read as this header, and as this record after a header
abbrev pub IsHeaderRead : Header → Type 0
IsHeaderRead header = (line : List ℕ) × (header_of line ≡ Ok header)

abbrev pub IsRecordRead : Header → RunRecord Op → Type 0
IsRecordRead header r = (line : List ℕ) × (record_of header line ≡ Ok r)

record AreRead (sc : InputScan) : Type 0 where
  pub none : sc.header ≡ None → sc.records ≡ []
  pub first : (h : Lined Header) → sc.header ≡ Some h → IsHeaderRead h.what
  pub others : (h : Lined Header) → sc.header ≡ Some h → (r : Lined (RunRecord Op)) → In r sc.records → IsRecordRead h.what r.what

fault_read : (sc : InputScan) (line : ℕ) (r : Result Cause OutOfMemory) → AreRead sc → AreRead (with_fault sc line r)
fault_read sc line (Ok cause) s = record { none = s.none; first = s.first; others = s.others }
fault_read sc line (Err refused) s = s

header_read : (sc : InputScan) (line : NumberedLine) (r : Result Header RecordFault) → header_of line.1 ≡ r → sc.header ≡ None → AreRead sc → AreRead (with_header sc line.0 r)
header_read sc line (Ok header) read e s =
    record {
      none = λ z. absurd (cc);
      first = λ h z. (line.1, read ∙ ap (λ (w : Lined Header). let r : Result Header RecordFault = Ok w.what in r) (same_Some (record { line = line.0; what = header }) h z));
      others = λ h z r i. absurd (subst (λ (w : List (Lined (RunRecord Op))). In r w) (s.none e) i);
    }
header_read sc line (Err fault) read e s = fault_read sc line.0 (cause_of fault) s

next_read : (most : ℕ) (sc : InputScan) (header : Lined Header) (line : NumberedLine) (r : Result (RunRecord Op) RecordFault) → sc.header ≡ Some header → record_of header.what line.1 ≡ r → AreRead sc → AreRead (with_record most sc line.0 r)
next_read most sc header line (Err fault) there read s = fault_read sc line.0 (cause_of fault) s
next_read most sc header line (Ok r) there read s = by (is_begin_record r && begins sc.records == most)
  where
    by : (b : Bool) → AreRead (cond b (with_fault sc line.0 (Ok TooManyTransactions)) (with_next sc line.0 r))
    by true = fault_read sc line.0 (Ok TooManyTransactions) s
    by false =
        record {
          none = λ z. absurd (let bad : None ≡ Some header = sym z ∙ there in cc);
          first = s.first;
          others = λ h z k i.
              let same : header ≡ h = same_Some header h (sym there ∙ z) in
              let of : IsRecordRead h.what r = subst (λ (w : Lined Header). IsRecordRead w.what r) same (line.1, read) in
              elim (in_cases k sc.records (record { line = line.0; what = r } ∷ []) i) [
                | inl j ↦ s.others h z k j
                | inr (inl e) ↦ subst (λ (w : Lined (RunRecord Op)). IsRecordRead h.what w.what) (sym e) of
                | inr (inr j) ↦ absurd j
              ];
        }

line_read : (most : ℕ) (sc : InputScan) (line : NumberedLine) → AreRead sc → AreRead (scan_line most sc line)
line_read most sc line s = by (is_some sc.fault || blank line.1) (either sc.header refl)
  where
    either : (o : Option (Lined Header)) → sc.header ≡ o → AreRead (read_line most sc o line)
    either None e = header_read sc line (header_of line.1) refl e s
    either (Some header) e = next_read most sc header line (record_of header.what line.1) e refl s

    by : (b : Bool) → AreRead (read_line most sc sc.header line) → AreRead (cond b sc (read_line most sc sc.header line))
    by true k = s
    by false k = k

lines_read : (most : ℕ) (sc : InputScan) (lines : List NumberedLine) → AreRead sc → AreRead (fold (scan_line most) sc lines)
lines_read most sc [] s = s
lines_read most sc (line ∷ lines) s = lines_read most (scan_line most sc line) lines (line_read most sc line s)

read_within : (limits : Limits) (bytes : List ℕ) → AreRead (fold (scan_line limits.transactions) nothing (scanned_lines limits bytes))
read_within limits bytes = lines_read limits.transactions nothing (scanned_lines limits bytes) (record { none = λ z. refl; first = λ h z. absurd (cc); others = λ k z q j. absurd j })

-- The header of an input was read from a line.
pub scan_header_read : (limits : Limits) (bytes : List ℕ) (h : Lined Header) → (scan_within limits bytes).header ≡ Some h → IsHeaderRead h.what
scan_header_read limits bytes h e = (read_within limits bytes).first h e

-- So was each record.
pub scan_record_read : (limits : Limits) (bytes : List ℕ) (h : Lined Header) → (scan_within limits bytes).header ≡ Some h → (r : Lined (RunRecord Op)) → In r (scan_within limits bytes).records → IsRecordRead h.what r.what
scan_record_read limits bytes h e r i = (read_within limits bytes).others h e r i
