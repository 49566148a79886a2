-- More lines and more bytes widen a scan.
use Rattle.std.specs.Prelude.{◌≡◌, ℕ, ◌==◌, ◌&&◌, ◌||◌, Bool, true, false, List, [], ◌∷◌, ◌++◌}
use Rattle.std.specs.Prelude.{fold, is_some, cond, Option, None, Some, Result, Ok, Err}
use Rattle.std.specs.Option.{option_or}
use Rattle.std.proofs.Common.{refl, sym, ap, subst, ◌∙◌, append_assoc}
use Rattle.std.proofs.lemmas.List.{append-nil}
use Rattle.pp_core.specs.declared.answer.OutOfMemory.{OutOfMemory}
use Rattle.pp_records.specs.Inputs.{Widens}
use Rattle.pp_records.specs.Records.{RunRecord}
use Rattle.pp_records.specs.Runs.{Lined, Records}
use Rattle.pp_objects.specs.declared.act.Op.{Op}
use Rattle.pp_input.specs.Lines.{NumberedLine, blank}
use Rattle.pp_format_read.specs.declared.header.Header.{Header}
use Rattle.pp_format_read.specs.declared.fault.RecordFault.{RecordFault}
use Rattle.pp_format_read.specs.Headers.{header_of}
use Rattle.pp_format_read.specs.Records.{record_of}
use Rattle.pp_input_reader.specs.declared.cause.Cause.{Cause}
use Rattle.pp_input_reader.specs.declared.cause.Cause.TheVariants.{TooManyTransactions}
use Rattle.pp_judge.specs.Causes.{cause_of}
use Rattle.pp_judge.specs.Inputs.{or_fault}
use Rattle.pp_judge.specs.Scans.{InputScan, begins, is_begin_record, read_line, scan_line, scan_lines}
use Rattle.pp_judge.specs.Scans.{with_fault, with_header, with_next, with_record}
use Rattle.pp_judge.proofs.Scanning.{scan_append, skips}

-- the second has the header of the first, if there is one, and its records before its own
record Extends (sc wider : InputScan) : Type 0 where
  pub header : (h : Lined Header) → sc.header ≡ Some h → wider.header ≡ Some h
  pub records : (more : Records (RunRecord Op)) × (wider.records ≡ sc.records ++ more)

extends_same : (sc wider : InputScan) → wider.header ≡ sc.header → wider.records ≡ sc.records → Extends sc wider
extends_same sc wider header records =
    record {
      header = λ h is. header ∙ is;
      records = ([], records ∙ sym (append-nil sc.records));
    }

extends_fault : (sc : InputScan) (line : ℕ) (r : Result Cause OutOfMemory) → Extends sc (with_fault sc line r)
extends_fault sc line (Ok cause) = extends_same sc (with_fault sc line (Ok cause)) refl refl
extends_fault sc line (Err refused) = extends_same sc sc refl refl

-- a header
extends_header : (sc : InputScan) (line : ℕ) (r : Result Header RecordFault) → sc.header ≡ None → Extends sc (with_header sc line r)
extends_header sc line (Ok header) none =
    record {
      header = λ h is. absurd (let e : None ≡ Some h = sym none ∙ is in cc);
      records = ([], sym (append-nil sc.records));
    }
extends_header sc line (Err fault) none = extends_fault sc line (cause_of fault)

-- a record
extends_record : (most : ℕ) (sc : InputScan) (line : ℕ) (r : Result (RunRecord Op) RecordFault) → Extends sc (with_record most sc line r)
extends_record most sc line (Err fault) = extends_fault sc line (cause_of fault)
extends_record most sc line (Ok r) = by (is_begin_record r && begins sc.records == most)
  where
    by : (b : Bool) → Extends sc (cond b (with_fault sc line (Ok TooManyTransactions)) (with_next sc line r))
    by true = extends_fault sc line (Ok TooManyTransactions)
    by false =
        record {
          header = λ h is. is;
          records = (record { line = line; what = r } ∷ [], refl);
        }

extends_read : (most : ℕ) (sc : InputScan) (o : Option (Lined Header)) (line : NumberedLine) → sc.header ≡ o → Extends sc (read_line most sc o line)
extends_read most sc None line is = extends_header sc line.0 (header_of line.1) is
extends_read most sc (Some header) line is = extends_record most sc line.0 (record_of header.what line.1)

extends_line : (most : ℕ) (sc : InputScan) (line : NumberedLine) → Extends sc (scan_line most sc line)
extends_line most sc line = by (is_some sc.fault || blank line.1)
  where
    by : (b : Bool) → Extends sc (cond b sc (read_line most sc sc.header line))
    by true = extends_same sc sc refl refl
    by false = extends_read most sc sc.header line refl

-- one line more
pub widens_line : (most : ℕ) (sc : InputScan) (line : NumberedLine) → Widens sc (scan_line most sc line)
widens_line most sc line =
    let e = extends_line most sc line in
    record { header = e.header; records = e.records; fault = λ f faulty. skips most sc line f faulty }

extends_twice : (a b c : InputScan) → Extends a b → Extends b c → Extends a c
extends_twice a b c x y =
    record {
      header = λ h is. y.header h (x.header h is);
      records = (
        x.records.0 ++ y.records.0,
        y.records.1 ∙ ap (λ (w : Records (RunRecord Op)). w ++ y.records.0) x.records.1 ∙ append_assoc a.records x.records.0 y.records.0,
      );
    }

extends_lines : (most : ℕ) (sc : InputScan) (lines : List NumberedLine) → Extends sc (fold (scan_line most) sc lines)
extends_lines most sc [] = extends_same sc sc refl refl
extends_lines most sc (line ∷ lines) =
    extends_twice sc (scan_line most sc line) (fold (scan_line most) (scan_line most sc line) lines) (extends_line most sc line) (extends_lines most (scan_line most sc line) lines)

-- lines behind a fault
pub stays : (most : ℕ) (sc : InputScan) (x : ℕ × Cause) (lines : List NumberedLine) → sc.fault ≡ Some x → fold (scan_line most) sc lines ≡ sc
stays most sc x [] faulty = refl
stays most sc x (line ∷ lines) faulty = ap (λ (s : InputScan). fold (scan_line most) s lines) (skips most sc line x faulty) ∙ stays most sc x lines faulty

-- lines behind these
pub widens_lines : (most : ℕ) (lines more : List NumberedLine) → Widens (scan_lines most lines) (scan_lines most (lines ++ more))
widens_lines most lines more =
    let e = extends_lines most (scan_lines most lines) more in
    let is : scan_lines most (lines ++ more) ≡ fold (scan_line most) (scan_lines most lines) more = scan_append most lines more in
    subst (λ (w : InputScan). Widens (scan_lines most lines) w) (sym is)
    (record {
      header = e.header;
      records = e.records;
      fault = λ f faulty. stays most (scan_lines most lines) f more faulty;
    })

-- a fault if no line has one
pub widens_fault : (sc : InputScan) (o : Option (ℕ × Cause)) → Widens sc (or_fault sc o)
widens_fault sc o =
    record {
      header = λ h is. is;
      records = ([], sym (append-nil sc.records));
      fault = λ f faulty.
          let same : option_or sc.fault o ≡ sc.fault = ap (λ (w : Option (ℕ × Cause)). option_or w o) faulty ∙ sym faulty in
          ap (λ (w : Option (ℕ × Cause)). let s : InputScan = record sc { fault = w } in s) same;
    }
