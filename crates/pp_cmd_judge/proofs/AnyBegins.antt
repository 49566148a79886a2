-- No input has too many transactions for `judge`.
use Rattle.std.specs.Prelude.{◌≡◌, ◌≤◌, ◌<◌, ◌+◌, ◌-◌, ◌==◌, ◌&&◌, ◌||◌, not, nat_le, ℕ, zero, suc, Bool, true, false}
use Rattle.std.specs.Prelude.{List, [], ◌∷◌, ◌++◌, cond, filter, fold, is_some, length, map, take, Option, None, Some, Result, Ok, Err}
use Rattle.std.specs.Option.{option_or}
use Rattle.std.proofs.Common.{refl, ap, arith, length-append}
use Rattle.std.proofs.lemmas.Bool.{leb-false}
use Rattle.std.proofs.lemmas.Bool.Decides.{nat_tests}
use Rattle.std.proofs.lemmas.List.{length-map}
use Rattle.std.proofs.lemmas.Option.{same_Some}
use Rattle.pp_core.specs.declared.answer.OutOfMemory.{OutOfMemory}
use Rattle.pp_records.specs.Records.{RunRecord}
use Rattle.pp_records.specs.Runs.{Lined}
use Rattle.pp_objects.specs.declared.act.Op.{Op}
use Rattle.pp_input.specs.declared.fault.LineFault.{LineFault}
use Rattle.pp_input.specs.declared.fault.LineFault.TheVariants as limits
use Rattle.pp_input.specs.declared.limits.Limits.{Limits}
use Rattle.pp_input.specs.declared.reach.Reach.{Reach}
use Rattle.pp_input.specs.Lines.{NumberedLine, blank, ended, ended_behind, numbered_from, numbered_lines, rest, rest_behind, unended, without_return}
use Rattle.pp_input.specs.Overruns.{line_of, lines_before, overrun, scanned_lines}
use Rattle.pp_input.specs.Reaches.{overrun_from}
use Rattle.pp_input.proofs.Overruns.{start_overrun}
use Rattle.pp_format_read.specs.declared.fault.RecordFault.{RecordFault}
use Rattle.pp_format_read.specs.declared.fault.RecordFault.TheVariants as faults
use Rattle.pp_format_read.specs.declared.header.Header.{Header}
use Rattle.pp_format_read.specs.Headers.{header_of}
use Rattle.pp_format_read.specs.Records.{record_of}
use Rattle.pp_input_reader.specs.declared.cause.Cause.{Cause}
use Rattle.pp_input_reader.specs.declared.cause.Cause.TheVariants as causes
use Rattle.pp_input_reader.specs.Limits.{limit_fault}
use Rattle.pp_judge.specs.Causes.{cause_of}
use Rattle.pp_judge.specs.Inputs.{no_header}
use Rattle.pp_judge.specs.Scans.{InputScan, begins, is_begin_record, nothing, read_line, scan_line, scan_lines}
use Rattle.pp_judge.specs.Scans.{with_fault, with_header, with_next, with_record}
use Rattle.pp_cmd_judge.specs.Inputs.{judge_limits, judge_scan}
use Rattle.pp_cmd_judge.specs.Judgements.{IsJudgeFault}
use Rattle.pp_cmd_judge.proofs.OtherCauses.{not_faulty}

-- ---- the lines that are scanned are no more than the limit

-- So many lines have ended before these, and a rest may follow them. Or a limit is passed on a line.
abbrev HasLines : (most l : ℕ) → List (List ℕ) → List ℕ → Option LineFault → Type 0
HasLines most l ends behind None = l + length ends + length (unended behind) ≤ most
HasLines most l ends behind (Some fault) = line_of fault ≤ most + 1

next_line : (most l : ℕ) → l ≤ most → l + 1 ≤ most + 1
next_line most l x = omega (arith, x)

-- a limit is passed, or none is and there are lines left
passed_has : (a b c : Bool) (most l : ℕ) (ends : List (List ℕ)) (behind : List ℕ) (more : Option LineFault) → l ≤ most → (b ≡ false → HasLines most l ends behind more)
    → HasLines most l ends behind (option_or (cond a (Some (limits.TooLong (l + 1))) (cond b (Some (limits.TooManyLines (l + 1))) (cond c (Some (limits.LineTooLong (l + 1))) None))) more)
passed_has true b c most l ends behind more le has = next_line most l le
passed_has false true c most l ends behind more le has = next_line most l le
passed_has false false true most l ends behind more le has = next_line most l le
passed_has false false false most l ends behind more le has = has refl

one_ended : (most l : ℕ) (front : List ℕ) (ends : List (List ℕ)) (behind : List ℕ) (o : Option LineFault) → HasLines most (l + 1) ends behind o → HasLines most l (front ∷ ends) behind o
one_ended most l front ends behind None has = omega (arith, has)
one_ended most l front ends behind (Some fault) has = has

-- a line that has a byte is one line
one_unended : (front : List ℕ) (x : ℕ) → length (unended (front ++ x ∷ [])) ≡ 1
one_unended [] x = refl
one_unended (y ∷ front) x = refl

module _ (L : Limits) where
  abbrev reach_at : (bytes lines column : ℕ) → Reach
  reach_at bytes lines column = record { limits = L; bytes = bytes; lines = lines; column = column }

  -- a byte that passes no limit ends a line or is of one
  byte_has : (v : Bool) (n l c x : ℕ) (front xs : List ℕ) → HasLines L.lines (l + 1) (ended_behind [] xs) (rest_behind [] xs) (overrun_from (reach_at (n + 1) (l + 1) 0) xs)
      → HasLines L.lines l (ended_behind (front ++ x ∷ []) xs) (rest_behind (front ++ x ∷ []) xs) (overrun_from (reach_at (n + 1) l (c + 1)) xs)
      → HasLines L.lines l (cond v (front ∷ ended_behind [] xs) (ended_behind (front ++ x ∷ []) xs)) (cond v (rest_behind [] xs) (rest_behind (front ++ x ∷ []) xs)) (overrun_from (cond {A = Reach} v (reach_at (n + 1) (l + 1) 0) (reach_at (n + 1) l (c + 1))) xs)
  byte_has true n l c x front xs ends more = one_ended L.lines l front (ended_behind [] xs) (rest_behind [] xs) (overrun_from (reach_at (n + 1) (l + 1) 0) xs) ends
  byte_has false n l c x front xs ends more = more

  bytes_have : (n l c : ℕ) (front bytes : List ℕ) → l + length (unended front) ≤ L.lines → HasLines L.lines l (ended_behind front bytes) (rest_behind front bytes) (overrun_from (reach_at n l c) bytes)
  bytes_have n l c front [] fits = omega (arith, fits)
  bytes_have n l c front (x ∷ xs) fits =
      passed_has (nat_le L.bytes n) (nat_le L.lines l) (not (x == 10) && nat_le L.line_bytes c) L.lines l _ _ _ (omega (arith, fits)) (λ lines.
      let below : l < L.lines = leb-false L.lines l lines in
      byte_has (x == 10) n l c x front xs
      (bytes_have (n + 1) (l + 1) 0 [] xs (omega (arith, below)))
      (bytes_have (n + 1) l (c + 1) (front ++ x ∷ []) xs (omega (arith, below, one_unended front x))))

  length_numbered : (n : ℕ) (a : List (List ℕ)) → length (numbered_from n a) ≡ length a
  length_numbered n [] = refl
  length_numbered n (x ∷ xs) = ap suc (length_numbered (n + 1) xs)

  length_taken : {A : Type 0} (n : ℕ) (xs : List A) → length (take n xs) ≤ n
  length_taken zero xs = omega arith
  length_taken (suc n) [] = omega arith
  length_taken (suc n) (x ∷ xs) = omega (arith, length_taken n xs)

  -- no more lines are scanned than the limit allows
  pub scanned_few : (bytes : List ℕ) → length (scanned_lines L bytes) ≤ L.lines
  scanned_few bytes = by (overrun L bytes) (rw (← start_overrun L bytes) (bytes_have 0 0 0 [] bytes (omega arith)))
    where
      by : (o : Option LineFault) → HasLines L.lines 0 (ended bytes) (rest bytes) o → length (lines_before o (numbered_lines bytes)) ≤ L.lines
      by None has =
          let all = ended bytes ++ unended (rest bytes) in
          let a : length (numbered_from 1 (map without_return all)) ≡ length (map without_return all) = length_numbered 1 (map without_return all) in
          let b : length (map without_return all) ≡ length all = length-map all without_return in
          let c : length all ≡ length (ended bytes) + length (unended (rest bytes)) = length-append (ended bytes) (unended (rest bytes)) in
          omega (arith, has, a, b, c)
      by (Some fault) has = within (line_of fault) has
        where
          within : (k : ℕ) → k ≤ L.lines + 1 → length (take (k - 1) (numbered_lines bytes)) ≤ L.lines
          within k le = omega (arith, le, length_taken (k - 1) (numbered_lines bytes))

-- ---- the faults of lines

-- the fault is not that too many transactions begin
abbrev AnyBegins : Option (ℕ × Cause) → Type 0
AnyBegins fault = (line : ℕ) → fault ≡ Some (line, causes.TooManyTransactions) → ⊥

none_many : AnyBegins None
none_many line is = absurd (cc)

other_cause : (at : ℕ) (cause : Cause) → (cause ≡ causes.TooManyTransactions → ⊥) → AnyBegins (Some (at, cause))
other_cause at cause other line is = other (ap (λ (x : ℕ × Cause). x.1) (same_Some (at, cause) (line, causes.TooManyTransactions) is))

-- with so many lines to come, there is no such fault, and there are few records
abbrev HasFew : ℕ → InputScan → Type 0
HasFew left sc = AnyBegins sc.fault × (length sc.records + left ≤ judge_limits.lines)

cause_any : (fault : RecordFault) → cause_of fault ≡ Ok causes.TooManyTransactions → ⊥
cause_any faults.NotJson h = absurd (cc)
cause_any faults.NotObject h = absurd (cc)
cause_any (faults.Missing member) h = absurd (cc)
cause_any (faults.WrongType member) h = absurd (cc)
cause_any (faults.OutOfRange member) h = absurd (cc)
cause_any (faults.BadName member) h = absurd (cc)
cause_any faults.UnknownStyle h = absurd (cc)
cause_any faults.UnknownKind h = absurd (cc)
cause_any faults.RepeatedObject h = absurd (cc)
cause_any faults.TooManyObjects h = absurd (cc)
cause_any faults.TooManyStart h = absurd (cc)
cause_any faults.UnknownObject h = absurd (cc)
cause_any faults.UnknownCall h = absurd (cc)
cause_any faults.UnknownStep h = absurd (cc)
cause_any faults.BodyBad h = absurd (cc)
cause_any faults.BodyTooLarge h = absurd (cc)
cause_any faults.OutOfMemory h = absurd (cc)

none_yet : (n : ℕ) → n ≤ judge_limits.lines → 0 + n ≤ judge_limits.lines
none_yet n few = omega (arith, few)

one_less : (n left : ℕ) → n + suc left ≤ judge_limits.lines → n + left ≤ judge_limits.lines
one_less n left few = omega (arith, few)

fault_few : (left : ℕ) (sc : InputScan) (line : ℕ) (r : Result Cause OutOfMemory) → HasFew (suc left) sc → (r ≡ Ok causes.TooManyTransactions → ⊥) → HasFew left (with_fault sc line r)
fault_few left sc line (Ok cause) h other = (other_cause line cause (λ is. other (ap (λ (x : Cause). let r : Result Cause OutOfMemory = Ok x in r) is)), one_less (length sc.records) left h.1)
fault_few left sc line (Err refused) h other = (h.0, one_less (length sc.records) left h.1)

header_few : (left : ℕ) (sc : InputScan) (line : ℕ) (r : Result Header RecordFault) → HasFew (suc left) sc → HasFew left (with_header sc line r)
header_few left sc line (Ok header) h = (h.0, one_less (length sc.records) left h.1)
header_few left sc line (Err fault) h = fault_few left sc line (cause_of fault) h (cause_any fault)

length_filter : {A : Type 0} (test : A → Bool) (xs : List A) → length (filter test xs) ≤ length xs
length_filter test [] = omega arith
length_filter test (x ∷ xs) =
    elim (test x) as (λ b. length (cond b (x ∷ filter test xs) (filter test xs)) ≤ suc (length xs)) [
      | true ↦ omega (arith, length_filter test xs)
      | false ↦ omega (arith, length_filter test xs)
    ]

-- so few records do not begin so many transactions
not_many : (k n left : ℕ) (b : Bool) → k ≤ n → n + suc left ≤ 2_147_483_647 → (b && k == 4_294_967_295) ≡ false
not_many k n left false le few = refl
not_many k n left true le few = other k (omega (arith, le, few))
  where
    other : (k : ℕ) → k < 4_294_967_295 → (k == 4_294_967_295) ≡ false
    other k less = grind (arith, nat_tests)

record_few : (left : ℕ) (sc : InputScan) (line : ℕ) (r : Result (RunRecord Op) RecordFault) → HasFew (suc left) sc → HasFew left (with_record judge_limits.transactions sc line r)
record_few left sc line (Err fault) h = fault_few left sc line (cause_of fault) h (cause_any fault)
record_few left sc line (Ok r) h = by (is_begin_record r && begins sc.records == judge_limits.transactions) (not_many (begins sc.records) (length sc.records) left (is_begin_record r) (length_filter (λ (w : Lined (RunRecord Op)). is_begin_record w.what) sc.records) h.1)
  where
    by : (b : Bool) → b ≡ false → HasFew left (cond b (with_fault sc line (Ok causes.TooManyTransactions)) (with_next sc line r))
    by true test = absurd (cc)
    by false test =
        let it : Lined (RunRecord Op) = record { line = line; what = r } in
        (h.0, omega (arith, h.1, length-append sc.records (it ∷ [])))

read_few : (left : ℕ) (sc : InputScan) (o : Option (Lined Header)) (line : NumberedLine) → HasFew (suc left) sc → HasFew left (read_line judge_limits.transactions sc o line)
read_few left sc None line h = header_few left sc line.0 (header_of line.1) h
read_few left sc (Some header) line h = record_few left sc line.0 (record_of header.what line.1) h

line_few : (left : ℕ) (sc : InputScan) (line : NumberedLine) → HasFew (suc left) sc → HasFew left (scan_line judge_limits.transactions sc line)
line_few left sc line h = by (is_some sc.fault || blank line.1)
  where
    by : (b : Bool) → HasFew left (cond b sc (read_line judge_limits.transactions sc sc.header line))
    by true = (h.0, one_less (length sc.records) left h.1)
    by false = read_few left sc sc.header line h

lines_few : (sc : InputScan) (lines : List NumberedLine) → HasFew (length lines) sc → AnyBegins (fold (scan_line judge_limits.transactions) sc lines).fault
lines_few sc [] h = h.0
lines_few sc (line ∷ lines) h = lines_few (scan_line judge_limits.transactions sc line) lines (line_few (length lines) sc line h)

-- ---- the input

limit_any : (o : Option LineFault) → AnyBegins (limit_fault o)
limit_any None = none_many
limit_any (Some (limits.TooLong at)) = other_cause at causes.TooLong (λ no. absurd (cc))
limit_any (Some (limits.TooManyLines at)) = other_cause at causes.TooManyLines (λ no. absurd (cc))
limit_any (Some (limits.LineTooLong at)) = other_cause at causes.LineTooLong (λ no. absurd (cc))
limit_any (Some limits.OutOfMemory) = none_many

or_any : (o p : Option (ℕ × Cause)) → AnyBegins o → AnyBegins p → AnyBegins (option_or o p)
or_any None p a b = b
or_any (Some x) p a b = a

no_header_any : (bytes : List ℕ) (o : Option (Lined Header)) → AnyBegins (no_header bytes o)
no_header_any bytes (Some header) = none_many
no_header_any bytes None = other_cause _ causes.NoHeader (λ no. absurd (cc))

-- the scan of an input has no fault that it has too many transactions
scanned : (bytes : List ℕ) → AnyBegins (judge_scan bytes).fault
scanned bytes =
    let sc : InputScan = scan_lines judge_limits.transactions (scanned_lines judge_limits bytes) in
    or_any sc.fault (option_or (limit_fault (overrun judge_limits bytes)) (no_header bytes sc.header)) (lines_few nothing (scanned_lines judge_limits bytes) (none_many, none_yet (length (scanned_lines judge_limits bytes)) (scanned_few judge_limits bytes)))
    (or_any (limit_fault (overrun judge_limits bytes)) (no_header bytes sc.header) (limit_any (overrun judge_limits bytes)) (no_header_any bytes sc.header))

-- the fault of an input is never that it has too many transactions
pub any_begins : (bytes : List ℕ) (line : ℕ) → IsJudgeFault (judge_scan bytes) (Some (line, causes.TooManyTransactions)) → ⊥
any_begins bytes = not_faulty (judge_scan bytes) causes.TooManyTransactions (λ no. absurd (cc)) (scanned bytes)
