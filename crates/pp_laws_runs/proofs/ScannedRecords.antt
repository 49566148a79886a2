-- The records of an input are of its style.
use Rattle.std.specs.Prelude.{◌≡◌, ◌==◌, ◌&&◌, ◌||◌, ℕ, Bool, true, false, List, [], ◌∷◌, cond, fold}
use Rattle.std.specs.Prelude.{is_some, Option, None, Some, Result, Ok, Err}
use Rattle.std.proofs.Common.{refl, sym, subst, ◌∙◌}
use Rattle.std.proofs.lemmas.Option.{same_Some}
use mathlib.Core.Logic.{inl, inr}
use Rattle.pp_core.specs.declared.answer.OutOfMemory.{OutOfMemory}
use Rattle.pp_records.specs.Expansions.{IsOfStyle}
use Rattle.pp_records.specs.Records.{RunRecord}
use Rattle.pp_records.specs.Runs.{Lined}
use Rattle.pp_input.specs.declared.limits.Limits.{Limits}
use Rattle.pp_input.specs.Lines.{NumberedLine, blank}
use Rattle.pp_input.specs.Overruns.{scanned_lines}
use Rattle.pp_format_read.specs.declared.fault.RecordFault.{RecordFault}
use Rattle.pp_format_read.specs.declared.header.Header.{Header}
use Rattle.pp_format_read.specs.Headers.{header_of}
use Rattle.pp_format_read.specs.Records.{record_of}
use Rattle.pp_model.specs.Lists.{In}
use Rattle.pp_model.proofs.Lists.{in_cases}
use Rattle.pp_objects.specs.declared.act.Op.{Op}
use Rattle.pp_input_reader.specs.declared.cause.Cause.{Cause}
use Rattle.pp_input_reader.specs.declared.cause.Cause.TheVariants.{TooManyTransactions}
use Rattle.pp_judge.specs.Causes.{cause_of}
use Rattle.pp_judge.specs.Inputs.{scan_within}
use Rattle.pp_judge.specs.Scans.{InputScan, begins, is_begin_record, nothing, read_line, scan_line}
use Rattle.pp_judge.specs.Scans.{with_fault, with_header, with_next, with_record}
use Rattle.pp_laws_runs.proofs.Styled.{record_styled}

record AreStyled (sc : InputScan) : Type 0 where
  pub none : sc.header ≡ None → sc.records ≡ []
  pub styled : (h : Lined Header) → sc.header ≡ Some h → (r : Lined (RunRecord Op)) → In r sc.records → IsOfStyle h.what.style r.what

fault_styled : (sc : InputScan) (line : ℕ) (r : Result Cause OutOfMemory) → AreStyled sc → AreStyled (with_fault sc line r)
fault_styled sc line (Ok cause) s = record { none = s.none; styled = s.styled }
fault_styled sc line (Err refused) s = s

header_styled : (sc : InputScan) (line : ℕ) (r : Result Header RecordFault) → sc.header ≡ None → AreStyled sc → AreStyled (with_header sc line r)
header_styled sc line (Ok header) e s = record {
  none = λ z. absurd (cc);
  styled = λ h z r i. absurd (subst (λ (w : List (Lined (RunRecord Op))). In r w) (s.none e) i);
}
header_styled sc line (Err fault) e s = fault_styled sc line (cause_of fault) s

next_styled : (most : ℕ) (sc : InputScan) (header : Lined Header) (line : NumberedLine) (r : Result (RunRecord Op) RecordFault) → sc.header ≡ Some header → record_of header.what line.1 ≡ r → AreStyled sc → AreStyled (with_record most sc line.0 r)
next_styled most sc header line (Err fault) there read s = fault_styled sc line.0 (cause_of fault) s
next_styled most sc header line (Ok r) there read s = by (is_begin_record r && begins sc.records == most)
  where
    by : (b : Bool) → AreStyled (cond b (with_fault sc line.0 (Ok TooManyTransactions)) (with_next sc line.0 r))
    by true = fault_styled sc line.0 (Ok TooManyTransactions) s
    by false = record {
      none = λ z. absurd (let bad : None ≡ Some header = sym z ∙ there in cc);
      styled = λ h z k i.
          let same : header ≡ h = same_Some header h (sym there ∙ z) in
          let of : IsOfStyle h.what.style r = subst (λ (w : Lined Header). IsOfStyle w.what.style r) same (record_styled header.what line.1 r read) in
          elim (in_cases k sc.records (record { line = line.0; what = r } ∷ []) i) [
            | inl j ↦ s.styled h z k j
            | inr (inl e) ↦ subst (λ (w : Lined (RunRecord Op)). IsOfStyle h.what.style w.what) (sym e) of
            | inr (inr j) ↦ absurd j
          ];
    }

read_styled : (most : ℕ) (sc : InputScan) (o : Option (Lined Header)) (line : NumberedLine) → sc.header ≡ o → AreStyled sc → AreStyled (read_line most sc o line)
read_styled most sc None line e s = header_styled sc line.0 (header_of line.1) e s
read_styled most sc (Some header) line e s = next_styled most sc header line (record_of header.what line.1) e refl s

line_styled : (most : ℕ) (sc : InputScan) (line : NumberedLine) → AreStyled sc → AreStyled (scan_line most sc line)
line_styled most sc line s = by (is_some sc.fault || blank line.1)
  where
    by : (b : Bool) → AreStyled (cond b sc (read_line most sc sc.header line))
    by true = s
    by false = read_styled most sc sc.header line refl s

lines_styled : (most : ℕ) (sc : InputScan) (lines : List NumberedLine) → AreStyled sc → AreStyled (fold (scan_line most) sc lines)
lines_styled most sc [] s = s
lines_styled most sc (line ∷ lines) s = lines_styled most (scan_line most sc line) lines (line_styled most sc line s)

-- The records of an input are of the style of its header, whatever its limits are.
pub scan_styled : (limits : Limits) (bytes : List ℕ) (h : Lined Header) → (scan_within limits bytes).header ≡ Some h → (r : Lined (RunRecord Op)) → In r (scan_within limits bytes).records → IsOfStyle h.what.style r.what
scan_styled limits bytes h e r i = (lines_styled limits.transactions nothing (scanned_lines limits bytes) (record { none = λ z. refl; styled = λ k z q j. absurd j })).styled h e r i
