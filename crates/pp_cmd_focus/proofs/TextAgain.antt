-- The text that is printed is read again.
use Rattle.std.specs.Prelude.{◌≡◌, ◌≤◌, ◌⊎◌, ℕ, ◌+◌, ◌==◌, ◌&&◌, ◌||◌, suc, Bool, true, false, List, [], ◌∷◌, ◌++◌, length, map, filter, fold, is_some, cond, if◌then◌else◌, option_map, Option, None, Some, Result, Ok, Err}
use Rattle.std.specs.Option.{option_or}
use Rattle.std.proofs.Common.{refl, sym, ap, ◌∙◌, subst, arith, append_assoc, append-nil}
use Rattle.std.proofs.lemmas.Option.{same_Some}
use mathlib.Core.Logic.{inl, inr}
use Rattle.pp_core.specs.Catalogs.{place_of as place_named}
use Rattle.pp_core.specs.Steps.{Step, Begin, App, Unapp, Push, Unpush, Pull, Unpull, Cmt, Quit, Note}
use Rattle.pp_core.specs.Trees.{Tree}
use Rattle.pp_core.specs.declared.answer.OutOfMemory.{OutOfMemory as Refused}
use Rattle.pp_records.specs.Records.{RunRecord}
use Rattle.pp_records.specs.Records as records
use Rattle.pp_records.specs.Runs.{Lined, Records}
use Rattle.pp_objects.specs.Objects.{place_of}
use Rattle.pp_objects.specs.declared.act.Op.{Op}
use Rattle.pp_input.specs.declared.fault.LineFault.{LineFault}
use Rattle.pp_input.specs.declared.fault.LineFault.TheVariants as limits
use Rattle.pp_input.specs.Joined.{joined_lines}
use Rattle.pp_input.specs.Lines.{NumberedLine, blank, numbered_from, numbered_lines}
use Rattle.pp_input.specs.Overruns.{overrun, scanned_lines}
use Rattle.pp_input.specs.Reaches.{start, reach_from}
use Rattle.pp_input.proofs.Overruns.{line_is, start_overrun}
use Rattle.pp_format_read.specs.declared.fault.RecordFault.{RecordFault}
use Rattle.pp_format_read.specs.declared.fault.RecordFault.TheVariants as faults
use Rattle.pp_format_read.specs.declared.header.Header.{Header}
use Rattle.pp_format_read.specs.Headers.{header_of}
use Rattle.pp_format_read.specs.Records.{record_of}
use Rattle.pp_format_write.specs.Lines.{IsOneLine}
use Rattle.pp_format_write.specs.Statable.{IsStatableRecord, is_begin}
use Rattle.pp_format_write.specs.Steps.{step_bytes}
use Rattle.pp_format_write.proofs.StepsRead.{is_statable}
use Rattle.pp_input_reader.specs.Limits.{limit_fault}
use Rattle.pp_input_reader.specs.declared.cause.Cause.{Cause}
use Rattle.pp_input_reader.specs.declared.cause.Cause.TheVariants.{TooManyTransactions}
use Rattle.pp_judge.specs.Causes.{cause_of}
use Rattle.pp_judge.specs.Inputs.{no_header, or_fault}
use Rattle.pp_judge.specs.Scans.{InputScan, begins, is_begin_record, nothing, read_line, scan_line, scan_lines, with_fault, with_header, with_next, with_record}
use Rattle.pp_judge.proofs.Scanning.{next_taken, scan_blank, scan_header, scan_record, skips, too_many}
use Rattle.pp_cmd_judge.specs.Inputs.{judge_limits, judge_scan}
use Rattle.pp_cmd_focus.specs.Again.{TextReadAgain, left_after, left_of, left_scan}
use Rattle.pp_cmd_focus.specs.Headers.{header_bytes}
use Rattle.pp_cmd_focus.specs.Moved.{moved_header, moved_record}
use Rattle.pp_cmd_focus.specs.Records.{kept_on, known, object_named, record_written, restricted_record, split_last}
use Rattle.pp_cmd_focus.specs.Restrictions.{last_written, lines_from, restricted_line, restricted_lines, restriction, with_return, written_in, written_on}
use Rattle.pp_cmd_focus.proofs.Again.{lines_read_again}
use Rattle.pp_cmd_focus.proofs.HeaderBack.{begin_one_line, begin_short}
use Rattle.pp_cmd_focus.proofs.HeaderMoved.{header_back}
use Rattle.pp_cmd_focus.proofs.Knowing.{split_more}
use Rattle.pp_cmd_focus.proofs.OtherFaults.{record_other_fault}
use Rattle.pp_cmd_focus.proofs.RawLines.{AreRaw, IsRaw, one_line_raw, scanned_texts, texts_scanned}

-- ---- what is left of a record

none_left : {A : Type 0} (b : Bool) (x left : A) → cond b (Some x) None ≡ Some left → x ≡ left
none_left true x left is = same_Some x left is
none_left false x left is = absurd (let none : None ≡ Some left = is in cc)

left_on : (o : ℕ) (p : Option ℕ) (x left : RunRecord Op) → kept_on o p (Some x) ≡ Some left → x ≡ left
left_on o None x left is = same_Some x left is
left_on o (Some p) x left is = none_left (p == o) x left is

-- a record that stays is written as it came
abbrev IsKept : List ℕ → RunRecord Op → RunRecord Op → Type 0
IsKept line r left = (r ≡ left) × (record_written (Some left) line ≡ line)

-- a begin is written anew
record IsBegun (r left : RunRecord Op) : Type 0 where
  tx : List ℕ
  thread : List ℕ
  body : Option Tree
  from : r ≡ records.Plain (Begin tx thread body)
  left_is : left ≡ records.Plain (Begin tx thread None)

module _ (line : List ℕ) (objects : ℕ → Option ℕ) (o : ℕ) where
  kept : (r left : RunRecord Op) → r ≡ left → record_written (Some r) line ≡ line → IsKept line r left ⊎ IsBegun r left
  kept r left same written = inl (same, subst (λ (x : RunRecord Op). record_written (Some x) line ≡ line) same written)

  step_kept : (step : Step Op) (left : RunRecord Op) → restricted_record objects o (records.Plain step) ≡ Some left → IsKept line (records.Plain step) left ⊎ IsBegun (records.Plain step) left
  step_kept (Begin t p b) left is = inr (record { tx = t; thread = p; body = b; from = refl; left_is = sym (same_Some (records.Plain (Begin t p None)) left is) })
  step_kept (App t id op) left is = kept (records.Plain (App t id op)) left (none_left (place_of op == o) (records.Plain (App t id op)) left is) refl
  step_kept (Unapp t id) left is = kept (records.Plain (Unapp t id)) left (left_on o (objects id) _ left is) refl
  step_kept (Push t id) left is = kept (records.Plain (Push t id)) left (left_on o (objects id) _ left is) refl
  step_kept (Unpush t id) left is = kept (records.Plain (Unpush t id)) left (left_on o (objects id) _ left is) refl
  step_kept (Pull t id) left is = kept (records.Plain (Pull t id)) left (left_on o (objects id) _ left is) refl
  step_kept (Unpull t id) left is = kept (records.Plain (Unpull t id)) left (left_on o (objects id) _ left is) refl
  step_kept (Cmt t) left is = kept (records.Plain (Cmt t)) left (same_Some _ left is) refl
  step_kept (Quit t) left is = kept (records.Plain (Quit t)) left (same_Some _ left is) refl
  step_kept (Note t) left is = kept (records.Plain (Note t)) left (same_Some _ left is) refl

  -- A record of which something is left stays as it came, or is a begin that is written anew.
  record_kept : (r left : RunRecord Op) → restricted_record objects o r ≡ Some left → IsKept line r left ⊎ IsBegun r left
  record_kept (records.Plain step) left is = step_kept step left is
  record_kept (records.Op t id op) left is = kept (records.Op t id op) left (none_left (place_of op == o) (records.Op t id op) left is) refl
  record_kept (records.Commit t) left is = kept (records.Commit t) left (same_Some _ left is) refl
  record_kept (records.Abort t) left is = kept (records.Abort t) left (same_Some _ left is) refl
  record_kept (records.Retry t) left is = kept (records.Retry t) left (same_Some _ left is) refl
  record_kept (records.Refresh t p) left is = kept (records.Refresh t p) left (none_left (p == o) (records.Refresh t p) left is) refl
  record_kept (records.XBegin t) left is = kept (records.XBegin t) left (same_Some _ left is) refl
  record_kept (records.XEnd t) left is = kept (records.XEnd t) left (same_Some _ left is) refl
  record_kept (records.XAbort t) left is = kept (records.XAbort t) left (same_Some _ left is) refl
  record_kept (records.Depend t source) left is = kept (records.Depend t source) left (same_Some _ left is) refl
  record_kept (records.Publish t) left is = kept (records.Publish t) left (same_Some _ left is) refl
  record_kept (records.DropSource t source) left is = kept (records.DropSource t source) left (same_Some _ left is) refl

  none_begun : (r : RunRecord Op) → restricted_record objects o r ≡ None → is_begin_record r ≡ false
  none_begun (records.Plain (Begin t p b)) is = absurd (let none : Some (records.Plain (Begin t p None)) ≡ None = is in cc)
  none_begun (records.Plain (App t id op)) is = refl
  none_begun (records.Plain (Unapp t id)) is = refl
  none_begun (records.Plain (Push t id)) is = refl
  none_begun (records.Plain (Unpush t id)) is = refl
  none_begun (records.Plain (Pull t id)) is = refl
  none_begun (records.Plain (Unpull t id)) is = refl
  none_begun (records.Plain (Cmt t)) is = refl
  none_begun (records.Plain (Quit t)) is = refl
  none_begun (records.Plain (Note t)) is = refl
  none_begun (records.Op t id op) is = refl
  none_begun (records.Commit t) is = refl
  none_begun (records.Abort t) is = refl
  none_begun (records.Retry t) is = refl
  none_begun (records.Refresh t p) is = refl
  none_begun (records.XBegin t) is = refl
  none_begun (records.XEnd t) is = refl
  none_begun (records.XAbort t) is = refl
  none_begun (records.Depend t source) is = refl
  none_begun (records.Publish t) is = refl
  none_begun (records.DropSource t source) is = refl

moved_begin : (r : RunRecord Op) → is_begin_record (moved_record r) ≡ is_begin_record r
moved_begin (records.Plain (Begin t p b)) = refl
moved_begin (records.Plain (App t id op)) = refl
moved_begin (records.Plain (Unapp t id)) = refl
moved_begin (records.Plain (Push t id)) = refl
moved_begin (records.Plain (Unpush t id)) = refl
moved_begin (records.Plain (Pull t id)) = refl
moved_begin (records.Plain (Unpull t id)) = refl
moved_begin (records.Plain (Cmt t)) = refl
moved_begin (records.Plain (Quit t)) = refl
moved_begin (records.Plain (Note t)) = refl
moved_begin (records.Op t id op) = refl
moved_begin (records.Commit t) = refl
moved_begin (records.Abort t) = refl
moved_begin (records.Retry t) = refl
moved_begin (records.Refresh t p) = refl
moved_begin (records.XBegin t) = refl
moved_begin (records.XEnd t) = refl
moved_begin (records.XAbort t) = refl
moved_begin (records.Depend t source) = refl
moved_begin (records.Publish t) = refl
moved_begin (records.DropSource t source) = refl

-- What is left of a record begins a transaction exactly if the record does.
same_begin : (objects : ℕ → Option ℕ) (o : ℕ) (r left : RunRecord Op) → restricted_record objects o r ≡ Some left → is_begin_record (moved_record left) ≡ is_begin_record r
same_begin objects o r left is = moved_begin left ∙ by (record_kept [] objects o r left is)
  where
    by : IsKept [] r left ⊎ IsBegun r left → is_begin_record left ≡ is_begin_record r
    by (inl same) = ap is_begin_record (sym same.0)
    by (inr begun) = ap is_begin_record begun.left_is ∙ sym (ap is_begin_record begun.from)

-- ---- what is left of records

module _ (o : ℕ) (header : Header) where
  abbrev left_next : Records (RunRecord Op) → Lined (RunRecord Op) → Records (RunRecord Op)
  left_next before r = left_of r.line (restricted_record (known header before) o r.what)

  left_more : (before rs : Records (RunRecord Op)) (r : Lined (RunRecord Op)) → left_after o header before (rs ++ r ∷ []) ≡ left_after o header before rs ++ left_next (before ++ rs) r
  left_more before [] r = append-nil (left_next before r) ∙ ap (λ (b : Records (RunRecord Op)). left_next b r) (sym (append-nil before))
  left_more before (x ∷ rs) r =
      ap (λ (l : Records (RunRecord Op)). left_next before x ++ l) (left_more (before ++ x ∷ []) rs r)
      ∙ ap (λ (b : Records (RunRecord Op)). left_next before x ++ (left_after o header (before ++ x ∷ []) rs ++ left_next b r)) (append_assoc before (x ∷ []) rs)
      ∙ sym (append_assoc (left_next before x) (left_after o header (before ++ x ∷ []) rs) (left_next (before ++ x ∷ rs) r))

  one_begun : (line : ℕ) (objects : ℕ → Option ℕ) (r : RunRecord Op) (more rest : Records (RunRecord Op)) → begins more ≡ begins rest
      → begins (left_of line (restricted_record objects o r) ++ more) ≡ begins (record { line = line; what = r } ∷ rest)
  one_begun line objects r more rest same = by (restricted_record objects o r) refl
    where
      count : (b c : Bool) (x y : Lined (RunRecord Op)) → b ≡ c → length (cond b (x ∷ filter (λ (z : Lined (RunRecord Op)). is_begin_record z.what) more) (filter (λ (z : Lined (RunRecord Op)). is_begin_record z.what) more))
          ≡ length (cond c (y ∷ filter (λ (z : Lined (RunRecord Op)). is_begin_record z.what) rest) (filter (λ (z : Lined (RunRecord Op)). is_begin_record z.what) rest))
      count true true x y is = ap suc same
      count false false x y is = same
      count true false x y is = absurd (cc)
      count false true x y is = absurd (cc)

      by : (left : Option (RunRecord Op)) → restricted_record objects o r ≡ left → begins (left_of line left ++ more) ≡ begins (record { line = line; what = r } ∷ rest)
      by None is = rw (none_begun [] objects o r is) same
      by (Some left) is = count (is_begin_record (moved_record left)) (is_begin_record r) _ _ (same_begin objects o r left is)

  -- As many transactions begin in what is left.
  begins_left : (before rs : Records (RunRecord Op)) → begins (left_after o header before rs) ≡ begins rs
  begins_left before [] = refl
  begins_left before (r ∷ rs) = one_begun r.line (known header before) r.what (left_after o header (before ++ r ∷ []) rs) rs (begins_left (before ++ r ∷ []) rs)

-- ---- a scan that ends without a fault

fault_first : (most : ℕ) (sc : InputScan) (lines : List NumberedLine) (x : ℕ × Cause) → sc.fault ≡ Some x → fold (scan_line most) sc lines ≡ sc
fault_first most sc [] x is = refl
fault_first most sc (line ∷ lines) x is = ap (λ (s : InputScan). fold (scan_line most) s lines) (skips most sc line x is) ∙ fault_first most sc lines x is

-- If a scan ends without a fault, it had none before.
fault_kept : (most : ℕ) (sc : InputScan) (lines : List NumberedLine) → (fold (scan_line most) sc lines).fault ≡ None → sc.fault ≡ None
fault_kept most sc lines none = by sc.fault refl
  where
    by : (f : Option (ℕ × Cause)) → sc.fault ≡ f → sc.fault ≡ None
    by None is = is
    by (Some x) is = ap (λ (s : InputScan). s.fault) (sym (fault_first most sc lines x is)) ∙ none

with_fault_header : (sc : InputScan) (line : ℕ) (r : Result Cause Refused) → (with_fault sc line r).header ≡ sc.header
with_fault_header sc line (Ok cause) = refl
with_fault_header sc line (Err refused) = refl

with_record_header : (most : ℕ) (sc : InputScan) (line : ℕ) (r : Result (RunRecord Op) RecordFault) → (with_record most sc line r).header ≡ sc.header
with_record_header most sc line (Err e) = with_fault_header sc line (cause_of e)
with_record_header most sc line (Ok r) = by (is_begin_record r && begins sc.records == most)
  where
    by : (b : Bool) → (if b then with_fault sc line (Ok TooManyTransactions) else with_next sc line r).header ≡ sc.header
    by true = refl
    by false = refl

line_header : (most : ℕ) (sc : InputScan) (line : NumberedLine) (h : Lined Header) → sc.header ≡ Some h → (scan_line most sc line).header ≡ Some h
line_header most sc line h is = by (is_some sc.fault || blank line.1)
  where
    by : (b : Bool) → (if b then sc else read_line most sc sc.header line).header ≡ Some h
    by true = is
    by false = ap (λ (x : Option (Lined Header)). (read_line most sc x line).header) is ∙ with_record_header most sc line.0 (record_of h.what line.1) ∙ is

-- A scan keeps its header.
header_kept : (most : ℕ) (sc : InputScan) (lines : List NumberedLine) (h : Lined Header) → sc.header ≡ Some h → (fold (scan_line most) sc lines).header ≡ Some h
header_kept most sc [] h is = is
header_kept most sc (line ∷ lines) h is = header_kept most (scan_line most sc line) lines h (line_header most sc line h is)

-- A line that can not be read is a fault.
faulty : (sc : InputScan) (line : ℕ) (e : RecordFault) → (e ≡ faults.OutOfMemory → ⊥) → (with_fault sc line (cause_of e)).fault ≡ None → ⊥
faulty sc line faults.NotJson h is = absurd (cc)
faulty sc line faults.NotObject h is = absurd (cc)
faulty sc line (faults.Missing m) h is = absurd (cc)
faulty sc line (faults.WrongType m) h is = absurd (cc)
faulty sc line (faults.OutOfRange m) h is = absurd (cc)
faulty sc line (faults.BadName m) h is = absurd (cc)
faulty sc line faults.UnknownStyle h is = absurd (cc)
faulty sc line faults.UnknownKind h is = absurd (cc)
faulty sc line faults.RepeatedObject h is = absurd (cc)
faulty sc line faults.TooManyObjects h is = absurd (cc)
faulty sc line faults.TooManyStart h is = absurd (cc)
faulty sc line faults.UnknownObject h is = absurd (cc)
faulty sc line faults.UnknownCall h is = absurd (cc)
faulty sc line faults.UnknownStep h is = absurd (cc)
faulty sc line faults.BodyBad h is = absurd (cc)
faulty sc line faults.BodyTooLarge h is = absurd (cc)
faulty sc line faults.OutOfMemory h is = h refl

-- ---- a line more

module _ (name : List ℕ) (header : Lined Header) (o : ℕ) (place : place_named name header.what.catalog ≡ Some o) where
  abbrev most : ℕ
  most = judge_limits.transactions

  abbrev Headed : InputScan → InputScan → Type 0
  Headed sc sc' = (sc.header ≡ Some header) × (sc.fault ≡ None) × (sc' ≡ left_scan o header sc.records)

  -- the scan of what is printed, if this is that of the lines so far
  abbrev Rel : InputScan → InputScan → Type 0
  Rel sc sc' = ((sc ≡ nothing) × (sc' ≡ nothing)) ⊎ Headed sc sc'

  sound : (sc sc' : InputScan) → Rel sc sc' → (sc.fault ≡ None) × (sc'.fault ≡ None)
  sound sc sc' (inl both) = (ap (λ (s : InputScan). s.fault) both.0, ap (λ (s : InputScan). s.fault) both.1)
  sound sc sc' (inr h) = (h.1, ap (λ (s : InputScan). s.fault) h.2)

  -- what comes of a line
  abbrev Next : ℕ → List ℕ → InputScan → InputScan → Type 0
  Next n t sc1 sc' = IsRaw 65_536 (with_return t) × Rel sc1 (scan_line most sc' (n, t))

  nothing_printed : IsRaw 65_536 (with_return [])
  nothing_printed = (refl, omega arith)

  stays : (x : List ℕ) (sc1 : InputScan) → blank x ≡ true → restricted_line name sc1 x ≡ x
  stays x sc1 is = rw is refl

  -- a blank line
  blank_next : (n : ℕ) (x : List ℕ) (sc sc' : InputScan) → Rel sc sc' → blank x ≡ true → IsRaw 65_536 (with_return x) → Next n (restricted_line name (scan_line most sc (n, x)) x) (scan_line most sc (n, x)) sc'
  blank_next n x sc sc' rel is raw =
      let fine = sound sc sc' rel in
      let same = scan_blank most sc (n, x) fine.0 is in
      let same' = scan_blank most sc' (n, x) fine.1 is in
      let rel' : Rel (scan_line most sc (n, x)) (scan_line most sc' (n, x)) = subst (λ (s : InputScan). Rel s (scan_line most sc' (n, x))) (sym same) (subst (λ (s : InputScan). Rel sc s) (sym same') rel) in
      subst (λ (t : List ℕ). Next n t (scan_line most sc (n, x)) sc') (sym (stays x (scan_line most sc (n, x)) is)) (raw, rel')

  shown : (n : ℕ) (x : List ℕ) (sc1 : InputScan) → blank x ≡ false → restricted_line name sc1 x ≡ written_in name sc1.header sc1.records x
  shown n x sc1 is = rw is refl

  headed : (sc1 : InputScan) (x : List ℕ) → sc1.header ≡ Some header → written_in name sc1.header sc1.records x ≡ last_written o header.what (split_last sc1.records) x
  headed sc1 x is = ap (λ (h : Option (Lined Header)). written_in name h sc1.records x) is ∙ ap (λ (p : Option ℕ). written_on p header.what sc1.records x) place

  -- the line of the header
  first_next : (n : ℕ) (x : List ℕ) → blank x ≡ false → (r : Result Header RecordFault) → header_of x ≡ r → (with_header nothing n r).fault ≡ None
      → ((h : Lined Header) → (with_header nothing n r).header ≡ Some h → h ≡ header) → Next n (written_in name (with_header nothing n r).header (with_header nothing n r).records x) (with_header nothing n r) nothing
  first_next n x is (Ok h) read none only =
      let same : record { line = n; what = h } ≡ header = only (record { line = n; what = h }) refl in
      let back = header_back x h o name read (ap (λ (z : Lined Header). place_named name z.what.catalog) same ∙ place) in
      let bytes = header_bytes o h in
      let scanned : scan_line most nothing (n, bytes) ≡ left_scan o (record { line = n; what = h }) [] = scan_header most nothing (n, bytes) (Ok (moved_header o h)) refl refl back.3 back.0 in
      let shows : written_in name (Some (record { line = n; what = h })) [] x ≡ bytes = ap (λ (p : Option ℕ). written_on p h [] x) (ap (λ (z : Lined Header). place_named name z.what.catalog) same ∙ place) in
      rw shows (
        one_line_raw bytes back.2 (omega (arith, back.1)),
        inr (ap (λ (z : Lined Header). Some z) same, refl, scanned ∙ ap (λ (z : Lined Header). left_scan o z []) same),
      )
  first_next n x is (Err e) read none only = by (cause_of e) none
    where
      by : (c : Result Cause Refused) → (with_fault nothing n c).fault ≡ None → Next n (written_in name (with_fault nothing n c).header (with_fault nothing n c).records x) (with_fault nothing n c) nothing
      by (Ok cause) none' = absurd (cc)
      by (Err refused) none' = (nothing_printed, inl (refl, refl))

  -- the line of a record
  module _ (n : ℕ) (x : List ℕ) (sc : InputScan) (there : sc.header ≡ Some header) (fine : sc.fault ≡ None) (is : blank x ≡ false) where
    abbrev left : InputScan
    left = left_scan o header sc.records

    last_is : (r : RunRecord Op) → written_in name sc.header (with_next sc n r).records x ≡ record_written (restricted_record (known header.what sc.records) o r) x
    last_is r =
        headed (with_next sc n r) x there
        ∙ ap (λ (s : Option (Records (RunRecord Op) × Lined (RunRecord Op))). last_written o header.what s x) (split_more sc.records (record { line = n; what = r }))

    -- one record more is left, or none
    abbrev more : Option (RunRecord Op) → InputScan
    more l = record left { records = left.records ++ left_of n l }

    left_is : (r : RunRecord Op) → left_scan o header (with_next sc n r).records ≡ more (restricted_record (known header.what sc.records) o r)
    left_is r = ap (λ (rs : Records (RunRecord Op)). record left { records = rs }) (left_more o header.what [] sc.records (record { line = n; what = r }))

    fits : (r l : RunRecord Op) → record_of header.what x ≡ Ok r → restricted_record (known header.what sc.records) o r ≡ Some l
        → IsRaw 65_536 (with_return x) → IsRaw 65_536 (with_return (record_written (Some l) x)) × (blank (record_written (Some l) x) ≡ false)
    fits r l read some raw = by (record_kept x (known header.what sc.records) o r l some)
      where
        begun : (l' : RunRecord Op) (t p : List ℕ) → l' ≡ records.Plain (Begin t p None) → IsRaw 65_536 (with_return (step_bytes [] (Begin t p None))) → IsRaw 65_536 (with_return (record_written (Some l') x)) × (blank (record_written (Some l') x) ≡ false)
        begun l' t p same raw' = rw same (raw', refl)

        by : IsKept x r l ⊎ IsBegun r l → IsRaw 65_536 (with_return (record_written (Some l) x)) × (blank (record_written (Some l) x) ≡ false)
        by (inl same) = rw same.1 (raw, is)
        by (inr b) =
            let named = subst (IsStatableRecord header.what.catalog) b.from (is_statable header.what x r read) in
            begun l b.tx b.thread b.left_is
            (one_line_raw (step_bytes [] (Begin b.tx b.thread None)) (begin_one_line b.tx b.thread named.0 named.1) (omega (arith, begin_short b.tx b.thread named.0 named.1)))

    record_next : (r : RunRecord Op) → record_of header.what x ≡ Ok r → (is_begin_record r && begins sc.records == most) ≡ false → IsRaw 65_536 (with_return x)
        → (l : Option (RunRecord Op)) → restricted_record (known header.what sc.records) o r ≡ l → Next n (record_written l x) (with_next sc n r) left
    record_next r read few raw None none =
        let same : left ≡ left_scan o header (with_next sc n r).records = ap (λ (rs : Records (RunRecord Op)). record left { records = rs }) (sym (append-nil left.records)) ∙ ap more (sym none) ∙ sym (left_is r) in
        (nothing_printed, inr (there, fine, same))
    record_next r read few raw (Some l) some =
        let printed = fits r l read some raw in
        let back = lines_read_again.other x header.what (known header.what sc.records) o r l read some in
        let few' : (is_begin_record (moved_record l) && begins left.records == most) ≡ false = ap (λ (b : Bool). b && begins left.records == most) (same_begin (known header.what sc.records) o r l some) ∙ ap (λ (k : ℕ). is_begin_record r && k == most) (begins_left o header.what [] sc.records) ∙ few in
        let scanned : scan_line most left (n, record_written (Some l) x) ≡ more (Some l) =
        scan_record most left (record { line = header.line; what = moved_header o header.what }) (n, record_written (Some l) x) (Ok (moved_record l)) refl refl printed.1 back ∙ next_taken most left n (moved_record l) few' in
        (printed.0, inr (there, fine, scanned ∙ ap more (sym some) ∙ sym (left_is r)))

    -- the line of a record that is read so
    read_next : (r : Result (RunRecord Op) RecordFault) → record_of header.what x ≡ r → (with_record most sc n r).fault ≡ None → IsRaw 65_536 (with_return x)
        → Next n (written_in name (with_record most sc n r).header (with_record most sc n r).records x) (with_record most sc n r) left
    read_next (Err e) read none raw = absurd (faulty sc n e (λ memory. record_other_fault header.what x (read ∙ ap (λ (f : RecordFault). let r : Result (RunRecord Op) RecordFault = Err f in r) memory)) none)
    read_next (Ok r) read none raw = by (is_begin_record r && begins sc.records == most) refl none
      where
        by : (b : Bool) → (is_begin_record r && begins sc.records == most) ≡ b → (if b then with_fault sc n (Ok TooManyTransactions) else with_next sc n r).fault ≡ None
            → Next n (written_in name (if b then with_fault sc n (Ok TooManyTransactions) else with_next sc n r).header (if b then with_fault sc n (Ok TooManyTransactions) else with_next sc n r).records x) (if b then with_fault sc n (Ok TooManyTransactions) else with_next sc n r) left
        by true many none' = absurd (cc)
        by false few none' = rw (last_is r) (record_next r read few raw (restricted_record (known header.what sc.records) o r) refl)

  -- any line
  line_next : (n : ℕ) (x : List ℕ) (sc sc' : InputScan) → Rel sc sc' → (scan_line most sc (n, x)).fault ≡ None → ((h : Lined Header) → (scan_line most sc (n, x)).header ≡ Some h → h ≡ header) → IsRaw 65_536 (with_return x)
      → Next n (restricted_line name (scan_line most sc (n, x)) x) (scan_line most sc (n, x)) sc'
  line_next n x sc sc' rel none only raw = by (blank x) refl rel
    where
      other : blank x ≡ false → Rel sc sc' → Next n (restricted_line name (scan_line most sc (n, x)) x) (scan_line most sc (n, x)) sc'
      other is (inl both) =
          let scanned : scan_line most sc (n, x) ≡ with_header nothing n (header_of x) = ap (λ (s : InputScan). scan_line most s (n, x)) both.0 ∙ scan_header most nothing (n, x) (header_of x) refl refl is refl in
          let no = ap (λ (s : InputScan). s.fault) (sym scanned) ∙ none in
          let next = first_next n x is (header_of x) refl no (λ h there. only h (ap (λ (s : InputScan). s.header) scanned ∙ there)) in
          let shows = shown n x (scan_line most sc (n, x)) is ∙ ap (λ (s : InputScan). written_in name s.header s.records x) scanned in
          rw (shows, scanned, both.1) next
      other is (inr h) =
          let scanned : scan_line most sc (n, x) ≡ with_record most sc n (record_of header.what x) = scan_record most sc header (n, x) (record_of header.what x) h.1 h.0 is refl in
          let no = ap (λ (s : InputScan). s.fault) (sym scanned) ∙ none in
          let next = read_next n x sc h.0 h.1 is (record_of header.what x) refl no raw in
          let shows = shown n x (scan_line most sc (n, x)) is ∙ ap (λ (s : InputScan). written_in name s.header s.records x) scanned in
          rw (shows, scanned, h.2) next

      by : (b : Bool) → blank x ≡ b → Rel sc sc' → Next n (restricted_line name (scan_line most sc (n, x)) x) (scan_line most sc (n, x)) sc'
      by true is r = blank_next n x sc sc' r is raw
      by false is r = other is r

  -- ---- all lines

  abbrev after : ℕ → List (List ℕ) → InputScan → InputScan
  after n xs sc = fold (scan_line most) sc (numbered_from n xs)

  abbrev printed : ℕ → List (List ℕ) → InputScan → List (List ℕ)
  printed n xs sc = lines_from most name sc (numbered_from n xs)

  lines_next : (n : ℕ) (xs : List (List ℕ)) (sc sc' : InputScan) → Rel sc sc' → (after n xs sc).fault ≡ None → (after n xs sc).header ≡ Some header → AreRaw 65_536 (map with_return xs)
      → AreRaw 65_536 (map with_return (printed n xs sc)) × (length (printed n xs sc) ≡ length xs) × Rel (after n xs sc) (after n (printed n xs sc) sc')
  lines_next n [] sc sc' rel none there raw = (tt, refl, rel)
  lines_next n (x ∷ xs) sc sc' rel none there raw =
      let sc1 = scan_line most sc (n, x) in
      let lines = numbered_from (n + 1) xs in
      let next = line_next n x sc sc' rel (fault_kept most sc1 lines none) (λ h is. same_Some h header (sym (header_kept most sc1 lines h is) ∙ there)) raw.0 in
      let more = lines_next (n + 1) xs sc1 (scan_line most sc' (n, restricted_line name sc1 x)) next.1 none there raw.1 in
      ((next.0, more.0), ap suc more.1, more.2)

-- ---- an input

no_memory : (bytes : List ℕ) → overrun judge_limits bytes ≡ Some limits.OutOfMemory → ⊥
no_memory bytes is =
    let at : 0 ≡ (reach_from (start judge_limits) bytes).lines + 1 = line_is (start judge_limits) bytes limits.OutOfMemory (start_overrun judge_limits bytes ∙ is) in
    omega (arith, at)

passes_none : (bytes : List ℕ) → limit_fault (overrun judge_limits bytes) ≡ None → overrun judge_limits bytes ≡ None
passes_none bytes is = by (overrun judge_limits bytes) refl is
  where
    by : (f : Option LineFault) → overrun judge_limits bytes ≡ f → limit_fault f ≡ None → overrun judge_limits bytes ≡ None
    by None here none' = here
    by (Some (limits.TooLong line)) here none' = absurd (cc)
    by (Some (limits.TooManyLines line)) here none' = absurd (cc)
    by (Some (limits.LineTooLong line)) here none' = absurd (cc)
    by (Some limits.OutOfMemory) here none' = absurd (no_memory bytes here)

first_none : {A : Type 0} (x y : Option A) → option_or x y ≡ None → (x ≡ None) × (y ≡ None)
first_none None y is = (refl, is)
first_none (Some x) y is = absurd (let none : Some x ≡ None = is in cc)

whole_scan : (bytes : List ℕ) (sc : InputScan) (header : Lined Header) → sc.fault ≡ None → sc.header ≡ Some header → overrun judge_limits bytes ≡ None → or_fault sc (option_or (limit_fault (overrun judge_limits bytes)) (no_header bytes sc.header)) ≡ sc
whole_scan bytes sc header none there passes = rw (passes, there, none) refl

numbered_length : (n : ℕ) (xs : List (List ℕ)) → length (numbered_from n xs) ≡ length xs
numbered_length n [] = refl
numbered_length n (x ∷ xs) = ap suc (numbered_length (n + 1) xs)

-- What is printed of an input without a fault is an input without a fault, over the object alone, with what is left of each record on its line.
pub text_read_again : TextReadAgain
text_read_again name bytes header o sound there place =
    let most = judge_limits.transactions in
    let sc = scan_lines most (scanned_lines judge_limits bytes) in
    let parts = first_none sc.fault (option_or (limit_fault (overrun judge_limits bytes)) (no_header bytes sc.header)) sound in
    let passes = passes_none bytes (first_none (limit_fault (overrun judge_limits bytes)) (no_header bytes sc.header) parts.1).0 in
    let (xs, lines, raw, few) = scanned_texts bytes passes in
    let scanned : sc ≡ fold (scan_line most) nothing (numbered_from 1 xs) = ap (scan_lines most) lines in
    let none = ap (λ (s : InputScan). s.fault) (sym scanned) ∙ parts.0 in
    let has = ap (λ (s : InputScan). s.header) (sym scanned) ∙ there in
    let all = lines_next name header o place 1 xs nothing nothing (inl (refl, refl)) none has raw in
    let texts = lines_from most name nothing (numbered_from 1 xs) in
    let count = all.1 in
    let again = texts_scanned texts all.0 (omega (arith, few, count)) in
    let text : restriction name bytes ≡ joined_lines (map with_return texts) = ap (λ (ls : List NumberedLine). joined_lines (map with_return (restricted_lines name ls))) lines in
    let left = left_scan o header (fold (scan_line most) nothing (numbered_from 1 xs)).records in
    let result : scan_lines most (numbered_from 1 texts) ≡ left = ends (fold (scan_line most) nothing (numbered_from 1 xs)) (scan_lines most (numbered_from 1 texts)) has all.2 in
    let fold_is : scan_lines most (scanned_lines judge_limits (joined_lines (map with_return texts))) ≡ left = ap (scan_lines most) again.1 ∙ result in
    let whole : judge_scan (joined_lines (map with_return texts)) ≡ left =
    ap (λ (s : InputScan). or_fault s (option_or (limit_fault (overrun judge_limits (joined_lines (map with_return texts)))) (no_header (joined_lines (map with_return texts)) s.header))) fold_is
    ∙ whole_scan (joined_lines (map with_return texts)) left (record { line = header.line; what = moved_header o header.what }) refl refl again.0 in
    let same : judge_scan bytes ≡ sc = whole_scan bytes sc header parts.0 there passes in (
      ap judge_scan text ∙ whole ∙ ap (λ (s : InputScan). left_scan o header s.records) (sym scanned ∙ sym same),
      ap (λ (t : List ℕ). length (scanned_lines judge_limits t)) text ∙ ap length again.1 ∙ numbered_length 1 texts ∙ count ∙ sym (numbered_length 1 xs) ∙ sym (ap length lines),
    )
  where
    ends : (sc sc' : InputScan) → sc.header ≡ Some header → ((sc ≡ nothing) × (sc' ≡ nothing)) ⊎ ((sc.header ≡ Some header) × (sc.fault ≡ None) × (sc' ≡ left_scan o header sc.records)) → sc' ≡ left_scan o header sc.records
    ends sc sc' has (inl both) = absurd (let no : Some header ≡ None = sym has ∙ ap (λ (s : InputScan). s.header) both.0 in cc)
    ends sc sc' has (inr h) = h.2
