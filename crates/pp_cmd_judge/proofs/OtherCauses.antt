-- A cause that no line and no limit of an input has is not its fault for `judge`, unless it is TooManySteps.
use Rattle.std.specs.Prelude.{◌≡◌, ◌==◌, ◌&&◌, ◌||◌, ℕ, Bool, true, false, cond, fold, is_some, List, [], ◌∷◌, Option, None, Some, Result, Ok, Err}
use Rattle.std.specs.Option.{option_or}
use Rattle.std.proofs.Common.{sym, ap}
use Rattle.std.proofs.lemmas.Option.{same_Some}
use mathlib.Core.Logic.{inl, inr}
use Rattle.pp_core.specs.declared.answer.OutOfMemory.{OutOfMemory}
use Rattle.pp_records.specs.Records.{RunRecord}
use Rattle.pp_records.specs.Runs.{Lined}
use Rattle.pp_objects.specs.declared.act.Op.{Op}
use Rattle.pp_input.specs.Lines.{NumberedLine, blank}
use Rattle.pp_input.specs.Overruns.{overrun, scanned_lines}
use Rattle.pp_format_read.specs.declared.fault.RecordFault.{RecordFault}
use Rattle.pp_format_read.specs.declared.header.Header.{Header}
use Rattle.pp_format_read.specs.Headers.{header_of}
use Rattle.pp_format_read.specs.Records.{record_of}
use Rattle.pp_input_reader.specs.declared.cause.Cause.{Cause}
use Rattle.pp_input_reader.specs.declared.cause.Cause.TheVariants as causes
use Rattle.pp_input_reader.specs.Limits.{limit_fault}
use Rattle.pp_judge.specs.Causes.{cause_of}
use Rattle.pp_judge.specs.Inputs.{no_header}
use Rattle.pp_judge.specs.Scans.{InputScan, begins, is_begin_record, nothing, read_line, scan_line, scan_lines}
use Rattle.pp_judge.specs.Scans.{with_fault, with_header, with_next, with_record}
use Rattle.pp_cmd_judge.specs.Inputs.{judge_limits, judge_scan}
use Rattle.pp_cmd_judge.specs.Judgements.{IsJudgeFault}

-- the cause is none that a line has by itself, or that the whole input has
pub record IsApart (cause : Cause) : Type 0 where
  pub read : (fault : RecordFault) → cause_of fault ≡ Ok cause → ⊥
  pub many : causes.TooManyTransactions ≡ cause → ⊥
  pub header : causes.NoHeader ≡ cause → ⊥

-- the fault is not of this cause
abbrev pub IsOther : Cause → Option (ℕ × Cause) → Type 0
IsOther cause fault = (line : ℕ) → fault ≡ Some (line, cause) → ⊥

module _ (cause : Cause) where
  -- if there is no fault, it is not of this cause
  pub none_other : IsOther cause None
  none_other line is = absurd (cc)

  -- a fault of another cause is not of this cause
  pub some_other : (at : ℕ) (own : Cause) → (own ≡ cause → ⊥) → IsOther cause (Some (at, own))
  some_other at own other line is = other (ap (λ (x : ℕ × Cause). x.1) (same_Some (at, own) (line, cause) is))

  module _ (apart : IsApart cause) where
    -- ---- the faults of lines

    fault_other : (sc : InputScan) (line : ℕ) (r : Result Cause OutOfMemory) → IsOther cause sc.fault → (r ≡ Ok cause → ⊥) → IsOther cause (with_fault sc line r).fault
    fault_other sc line (Ok own) any other = some_other line own (λ is. other (ap (λ (x : Cause). let r : Result Cause OutOfMemory = Ok x in r) is))
    fault_other sc line (Err refused) any other = any

    header_other : (sc : InputScan) (line : ℕ) (r : Result Header RecordFault) → IsOther cause sc.fault → IsOther cause (with_header sc line r).fault
    header_other sc line (Ok header) any = any
    header_other sc line (Err fault) any = fault_other sc line (cause_of fault) any (apart.read fault)

    record_other : (sc : InputScan) (line : ℕ) (r : Result (RunRecord Op) RecordFault) → IsOther cause sc.fault → IsOther cause (with_record judge_limits.transactions sc line r).fault
    record_other sc line (Err fault) any = fault_other sc line (cause_of fault) any (apart.read fault)
    record_other sc line (Ok r) any = by (is_begin_record r && begins sc.records == judge_limits.transactions)
      where
        by : (b : Bool) → IsOther cause (cond b (with_fault sc line (Ok causes.TooManyTransactions)) (with_next sc line r)).fault
        by true = some_other line causes.TooManyTransactions apart.many
        by false = any

    read_other : (sc : InputScan) (o : Option (Lined Header)) (line : NumberedLine) → IsOther cause sc.fault → IsOther cause (read_line judge_limits.transactions sc o line).fault
    read_other sc None line any = header_other sc line.0 (header_of line.1) any
    read_other sc (Some header) line any = record_other sc line.0 (record_of header.what line.1) any

    line_other : (sc : InputScan) (line : NumberedLine) → IsOther cause sc.fault → IsOther cause (scan_line judge_limits.transactions sc line).fault
    line_other sc line any = by (is_some sc.fault || blank line.1)
      where
        by : (b : Bool) → IsOther cause (cond b sc (read_line judge_limits.transactions sc sc.header line)).fault
        by true = any
        by false = read_other sc sc.header line any

    lines_other : (sc : InputScan) (lines : List NumberedLine) → IsOther cause sc.fault → IsOther cause (fold (scan_line judge_limits.transactions) sc lines).fault
    lines_other sc [] any = any
    lines_other sc (line ∷ lines) any = lines_other (scan_line judge_limits.transactions sc line) lines (line_other sc line any)

    -- ---- the input

    or_other : (o p : Option (ℕ × Cause)) → IsOther cause o → IsOther cause p → IsOther cause (option_or o p)
    or_other None p a b = b
    or_other (Some x) p a b = a

    no_header_other : (bytes : List ℕ) (o : Option (Lined Header)) → IsOther cause (no_header bytes o)
    no_header_other bytes (Some header) = none_other
    no_header_other bytes None = some_other _ causes.NoHeader apart.header

    -- the scan of an input has no fault of this cause, if it is not that a limit is passed
    pub never : (bytes : List ℕ) → IsOther cause (limit_fault (overrun judge_limits bytes)) → IsOther cause (judge_scan bytes).fault
    never bytes limit =
        let sc : InputScan = scan_lines judge_limits.transactions (scanned_lines judge_limits bytes) in
        or_other sc.fault (option_or (limit_fault (overrun judge_limits bytes)) (no_header bytes sc.header)) (lines_other nothing (scanned_lines judge_limits bytes) none_other)
        (or_other (limit_fault (overrun judge_limits bytes)) (no_header bytes sc.header) limit (no_header_other bytes sc.header))

-- if the fault of a scan is not of a cause, nor is the fault of the input, unless the cause is TooManySteps
pub not_faulty : (sc : InputScan) (cause : Cause) → (causes.TooManySteps ≡ cause → ⊥) → IsOther cause sc.fault → (line : ℕ) → IsJudgeFault sc (Some (line, cause)) → ⊥
not_faulty sc cause other scanned line (inl k) = some_other cause k.0 causes.TooManySteps other line (sym k.2)
not_faulty sc cause other scanned line (inr k) = scanned line (sym k.1)
