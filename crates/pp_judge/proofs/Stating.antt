-- What was read of an input can be stated, and so can its run.
use Rattle.std.specs.Prelude.{◌≡◌, ◌≤◌, ◌+◌, ℕ, ◌==◌, ◌&&◌, ◌||◌, Bool, true, false, cond, List, []}
use Rattle.std.specs.Prelude.{◌∷◌, ◌++◌, length, filter, fold, is_some, Option, None, Some, Result, Ok}
use Rattle.std.specs.Prelude.{Err, option_map}
use Rattle.std.proofs.Common.{refl, sym, ap, subst, ◌∙◌, arith, length-append}
use Rattle.std.proofs.lemmas.Bool.Decides.{nat_tests}
use Rattle.std.proofs.lemmas.List.Elements.{filter-append}
use Rattle.pp_core.specs.declared.answer.OutOfMemory.{OutOfMemory}
use Rattle.pp_core.specs.declared.limits.TheConstants.{MOST_TRANSACTIONS}
use Rattle.pp_core.specs.Catalogs.{Objects}
use Rattle.pp_core.specs.Names.{IsName}
use Rattle.pp_records.specs.Carried.{StartCarries}
use Rattle.pp_records.specs.Records.{RunRecord}
use Rattle.pp_records.specs.Runs.{IsRun, Lined, LinedSteps, Records, bare}
use Rattle.pp_records.proofs.Carrying.{carried_law}
use Rattle.pp_records.proofs.Ends.{bare_append}
use Rattle.pp_input.specs.Lines.{NumberedLine, blank}
use Rattle.pp_format_read.specs.declared.fault.RecordFault.{RecordFault}
use Rattle.pp_format_read.specs.declared.header.Header.{Header}
use Rattle.pp_format_read.specs.declared.start.Start.{Start}
use Rattle.pp_format_read.specs.Headers.{header_of}
use Rattle.pp_format_read.specs.Records.{record_of}
use Rattle.pp_format_write.specs.Statable.{CanStart, IfGiven, IsCatalog, IsId, IsOpOn, IsStatable}
use Rattle.pp_format_write.specs.Statable.{IsStatableBody, IsStatableRecord}
use Rattle.pp_format_write.proofs.HeadersRead.{is_catalog, can_start}
use Rattle.pp_format_write.proofs.StepsRead.{is_statable}
use Rattle.pp_model.specs.Config.{start_with}
use Rattle.pp_model.specs.Lists.{Each}
use Rattle.pp_objects.specs.Objects.{kinds_of, place_of}
use Rattle.pp_objects.specs.declared.act.Op.{Op}
use Rattle.pp_input.specs.Limits.{usual_limits}
use Rattle.pp_input.specs.Overruns.{scanned_lines}
use Rattle.pp_input_reader.specs.declared.cause.Cause.{Cause}
use Rattle.pp_input_reader.specs.declared.cause.Cause.TheVariants.{TooManyTransactions}
use Rattle.pp_judge.specs.Causes.{cause_of}
use Rattle.pp_judge.specs.Inputs.{scan}
use Rattle.pp_judge.specs.Objects.{object_of, start_of, translation_of}
use Rattle.pp_judge.specs.Scans.{InputScan, begins, is_begin_record, nothing, read_line, scan_line}
use Rattle.pp_judge.specs.Scans.{with_fault, with_header, with_next, with_record}
use Rattle.pp_judge.proofs.Tallying.{test_begin}

-- If each element of two lists has a property, so has each element of the first with the second appended.
pub each_append : {A : Type 0} (P : A → Type 0) (xs ys : List A) → Each P xs → Each P ys → Each P (xs ++ ys)
each_append P [] ys h k = k
each_append P (x ∷ xs) ys h k = (h.0, each_append P xs ys h.1 k)

-- ---- how many of the records begin a transaction

-- The records that begin a transaction in an appended list are counted by the sum of the counts of both lists.
pub begins_append : (rs more : Records (RunRecord Op)) → begins (rs ++ more) ≡ begins rs + begins more
begins_append rs more =
    ap (λ (l : Records (RunRecord Op)). length l) (filter-append test_begin rs more) ∙ length-append (filter test_begin rs) (filter test_begin more)

-- ---- what was read so far

-- a header and its records can be stated, and without a header there are no records
abbrev pub AreStated : Option (Lined Header) → Records (RunRecord Op) → Type 0
AreStated None rs = rs ≡ []
AreStated (Some h) rs = IsCatalog h.what.catalog × CanStart h.what.catalog h.what.start × Each (IsStatableRecord h.what.catalog) (bare rs)

-- the header and the records of a scan can be stated, and at most 20,000 records begin a transaction
pub record IsStated (sc : InputScan) : Type 0 where
  pub stated : AreStated sc.header sc.records
  pub begun : begins sc.records ≤ 20_000

stated_nothing : IsStated nothing
stated_nothing = record { stated = refl; begun = omega arith }

stated_fault : (sc : InputScan) (line : ℕ) (r : Result Cause OutOfMemory) → IsStated sc → IsStated (with_fault sc line r)
stated_fault sc line (Ok cause) h = record { stated = h.stated; begun = h.begun }
stated_fault sc line (Err refused) h = h

stated_header : (sc : InputScan) (line : NumberedLine) (r : Result Header RecordFault) → header_of line.1 ≡ r → sc.header ≡ None → IsStated sc → IsStated (with_header sc line.0 r)
stated_header sc line (Ok header) read none h =
    let empty : sc.records ≡ [] = subst (λ (o : Option (Lined Header)). AreStated o sc.records) none h.stated in
    let each : Each (IsStatableRecord header.catalog) (bare sc.records) = subst (λ (rs : Records (RunRecord Op)). Each (IsStatableRecord header.catalog) (bare rs)) (sym empty) tt in
    record { stated = (is_catalog line.1 header read, can_start line.1 header read, each); begun = h.begun }
stated_header sc line (Err fault) read none h = stated_fault sc line.0 (cause_of fault) h

-- one more is begun, if they are not too many
one_begun : (b : Bool) (k : ℕ) (r : Lined (RunRecord Op)) → k ≤ 20_000 → (b && k == MOST_TRANSACTIONS) ≡ false → k + length (cond b (r ∷ []) []) ≤ 20_000
one_begun true k r few test = less k few test
  where
    less : (k : ℕ) → k ≤ 20_000 → (k == 20_000) ≡ false → k + 1 ≤ 20_000
    less k few test = grind (arith, nat_tests)
one_begun false k r few test = omega (arith, few)

stated_next : (sc : InputScan) (header : Lined Header) (line : ℕ) (r : RunRecord Op) → sc.header ≡ Some header → IsStatableRecord header.what.catalog r
    → (is_begin_record r && begins sc.records == MOST_TRANSACTIONS) ≡ false → IsStated sc → IsStated (with_next sc line r)
stated_next sc header line r is each few h =
    let it : Lined (RunRecord Op) = record { line = line; what = r } in
    let P = IsStatableRecord header.what.catalog in
    let old = subst (λ (o : Option (Lined Header)). AreStated o sc.records) is h.stated in
    let all : Each P (bare (sc.records ++ it ∷ [])) = subst (Each P) (sym (bare_append sc.records (it ∷ []))) (each_append P (bare sc.records) (r ∷ []) old.2 (each, tt)) in
    record {
      stated = subst (λ (o : Option (Lined Header)). AreStated o (sc.records ++ it ∷ [])) (sym is) (old.0, old.1, all);
      begun = subst (λ (n : ℕ). n ≤ 20_000) (sym (begins_append sc.records (it ∷ []))) (one_begun (is_begin_record r) (begins sc.records) it h.begun few);
    }

stated_record : (sc : InputScan) (header : Lined Header) (line : NumberedLine) (r : Result (RunRecord Op) RecordFault) → record_of header.what line.1 ≡ r → sc.header ≡ Some header
    → IsStated sc → IsStated (with_record MOST_TRANSACTIONS sc line.0 r)
stated_record sc header line (Err fault) read is h = stated_fault sc line.0 (cause_of fault) h
stated_record sc header line (Ok r) read is h = by (is_begin_record r && begins sc.records == MOST_TRANSACTIONS) refl
  where
    by : (b : Bool) → (is_begin_record r && begins sc.records == MOST_TRANSACTIONS) ≡ b → IsStated (cond b (with_fault sc line.0 (Ok TooManyTransactions)) (with_next sc line.0 r))
    by true test = stated_fault sc line.0 (Ok TooManyTransactions) h
    by false test = stated_next sc header line.0 r is (is_statable header.what line.1 r read) test h

stated_read : (sc : InputScan) (o : Option (Lined Header)) (line : NumberedLine) → sc.header ≡ o → IsStated sc → IsStated (read_line MOST_TRANSACTIONS sc o line)
stated_read sc None line is h = stated_header sc line (header_of line.1) refl is h
stated_read sc (Some header) line is h = stated_record sc header line (record_of header.what line.1) refl is h

stated_line : (sc : InputScan) (line : NumberedLine) → IsStated sc → IsStated (scan_line MOST_TRANSACTIONS sc line)
stated_line sc line h = by (is_some sc.fault || blank line.1)
  where
    by : (b : Bool) → IsStated (cond b sc (read_line MOST_TRANSACTIONS sc sc.header line))
    by true = h
    by false = stated_read sc sc.header line refl h

stated_lines : (sc : InputScan) (lines : List NumberedLine) → IsStated sc → IsStated (fold (scan_line MOST_TRANSACTIONS) sc lines)
stated_lines sc [] h = h
stated_lines sc (line ∷ lines) h = stated_lines (scan_line MOST_TRANSACTIONS sc line) lines (stated_line sc line h)

-- The header and the records of every input can be stated, and at most 20,000 of the records begin a transaction.
pub stated_scan : (bytes : List ℕ) → IsStated (scan bytes)
stated_scan bytes =
    let h = stated_lines nothing (scanned_lines usual_limits bytes) stated_nothing in
    record { stated = h.stated; begun = h.begun }

-- ---- what the steps of a run carry

start_carries : (catalog : Objects) (o : Option Start) → CanStart catalog o
    → StartCarries IsName IsId (IsOpOn catalog) (IfGiven (IsStatableBody catalog)) (option_map (λ z. start_with z.tx z.ops) o)
start_carries catalog None h = tt
start_carries catalog (Some z) h = (h.named, h.each)

-- If a start and records can be stated, so can each step of their run.
pub steps_stated : (header : Header) (rs : Records (RunRecord Op)) (run : LinedSteps Op) → CanStart header.catalog header.start → Each (IsStatableRecord header.catalog) (bare rs)
    → IsRun (object_of header) (translation_of header) (start_of header) rs run → Each (IsStatable header.catalog) (bare run)
steps_stated header rs run start each is =
    let catalog = header.catalog in
    (carried_law IsName IsId (IsOpOn catalog) (IfGiven (IsStatableBody catalog)) (object_of header)).run place_of header.style (kinds_of catalog) (start_of header) rs run is each (start_carries catalog header.start start)
