-- The restriction of one line more.
use Rattle.std.specs.Prelude.{◌≡◌, ℕ, List, [], ◌∷◌, ◌++◌, fold, map, if◌then◌else◌, Option, None, Some, OnErr, Result, Ok, Err}
use Rattle.std.proofs.Common.{refl, sym, ap, ◌∙◌, append_assoc}
use Rattle.std.proofs.lemmas.List.{map-append}
use mathlib.Core.Logic.{inl, inr}
use Rattle.pp_core.specs.Catalogs.{place_of as place_named}
use Rattle.pp_records.specs.Records.{RunRecord}
use Rattle.pp_records.specs.Runs.{Lined, Records}
use Rattle.pp_objects.specs.declared.act.Op.{Op}
use Rattle.pp_format_read.specs.declared.header.Header.{Header}
use Rattle.std.specs.Io.KnownBytes.{IsAtEnd}
use Rattle.pp_input.specs.Joined.{joined_lines}
use Rattle.pp_input.specs.Lines.{NumberedLine, blank}
use Rattle.pp_input.specs.Overruns.{scanned_lines}
use Rattle.pp_input_reader.specs.declared.cause.Cause.{Cause}
use Rattle.pp_input_reader.specs.declared.stop.Stop.{Stop}
use Rattle.pp_input_reader.specs.Takers.{CountsTo, HasInputFault, IsNext, LeadsOn, ReadsAll, ReadsSoFar, StopsAt, StopsWith}
use Rattle.pp_input_reader.specs.Sources.{WhereTold}
use Rattle.pp_input_reader.proofs.Takers.{if_fault, taken_all}
use Rattle.pp_judge.specs.Progresses.{Covers, judged_reading}
use Rattle.pp_judge.specs.Scans.{InputScan, nothing, scan_line, scan_lines}
use Rattle.pp_judge.specs.Tallies.{headed}
use Rattle.pp_judge.proofs.Examining.{finds, input_fault, leads_nothing, lines_cost, reads_sound}
use Rattle.pp_judge.proofs.Scanning.{scan_more}
use Rattle.pp_judge.specs.declared.progress.Progress.{Progress}
use Rattle.pp_judge.specs.declared.progress.Progress.TheVariants.{Waiting, Running, Rejected}
use Rattle.pp_cmd_judge.specs.Inputs.{judge_limits, judge_scan}
use Rattle.pp_cmd_focus.specs.Located.{IsLocated, located_judging}
use Rattle.pp_cmd_focus.specs.LocatedLaws.{located_laws}
use Rattle.pp_cmd_focus.specs.Outputs.{FocusReadsNoFault}
use Rattle.pp_cmd_focus.specs.Records.{known, split_last}
use Rattle.pp_cmd_focus.specs.Restrictions.{last_written, lines_from, restricted_line, restricted_lines, restricted_text, restriction, with_return, written_in, written_on}
use Rattle.pp_cmd_focus.specs.Subjects.{last_subject, subject_on, subject_written}
use Rattle.pp_cmd_focus.specs.Taking.{CanWrite, FocusLeads, IsRead, focus_reading, progress_line, progress_shown}
use Rattle.pp_cmd_focus.specs.declared.located.Located.{Located}
use Rattle.pp_cmd_focus.specs.declared.located.Never.{Never}
use Rattle.pp_cmd_focus.specs.declared.subject.Subject.{Subject}
use Rattle.pp_cmd_focus.specs.declared.taker.Focus.{Focus}
use Rattle.pp_cmd_focus.proofs.Subjects.{subject_is}

-- ---- lists of lines

lines_more : (most : ℕ) (name : List ℕ) (sc : InputScan) (lines : List NumberedLine) (line : NumberedLine)
    → lines_from most name sc (lines ++ line ∷ []) ≡ lines_from most name sc lines ++ restricted_line name (scan_line most (fold (scan_line most) sc lines) line) line.1 ∷ []
lines_more most name sc [] line = refl
lines_more most name sc (l ∷ lines) line = ap (λ (rest : List (List ℕ)). restricted_line name (scan_line most sc l) l.1 ∷ rest) (lines_more most name (scan_line most sc l) lines line)

joined_more : (lines : List (List ℕ)) (line : List ℕ) → joined_lines (lines ++ line ∷ []) ≡ joined_lines lines ++ line ++ 10 ∷ []
joined_more [] line = refl
joined_more (l ∷ lines) line =
    ap (λ (rest : List ℕ). l ++ 10 ∷ rest) (joined_more lines line)
    ∙ sym (append_assoc l (10 ∷ (joined_lines lines ++ line)) (10 ∷ []))
    ∙ ap (λ (front : List ℕ). front ++ 10 ∷ []) (sym (append_assoc l (10 ∷ joined_lines lines) line))

-- ---- what is written of the last line

last_is : (o : ℕ) (header : Header) (split : Option (Records (RunRecord Op) × Lined (RunRecord Op))) (bytes : List ℕ) → subject_written o header (last_subject header split) bytes ≡ last_written o header split bytes
last_is o header None bytes = refl
last_is o header (Some (before, last)) bytes = subject_is (known header before) o header last.what bytes

module _ (header : Lined Header) (rs : Records (RunRecord Op)) (located : Located) (is : IsLocated header rs located) (bytes : List ℕ) where
  on_place : (o : Option ℕ) → subject_on o header.what located.subject bytes ≡ written_on o header.what rs bytes
  on_place None = refl
  on_place (Some o) = ap (λ (s : Subject). subject_written o header.what s bytes) is.subject ∙ last_is o header.what (split_last rs) bytes

shown_is : (name : List ℕ) (sc : InputScan) (p : Progress Located Never) (old new : ℕ) (bytes : List ℕ) → Covers located_judging sc p old new → progress_shown name p bytes ≡ written_in name sc.header sc.records bytes
shown_is name sc (Waiting lines) old new bytes c = sym (ap (λ (s : InputScan). written_in name s.header s.records bytes) c.0)
shown_is name sc (Running tally located) old new bytes c =
    on_place (headed c.follows.at tally.header) sc.records located c.good bytes (place_named name tally.header.catalog)
    ∙ sym (ap (λ (h : Option (Lined Header)). written_in name h sc.records bytes) c.follows.header)
shown_is name sc (Rejected tally never) old new bytes c = elim c.bad [ ]

-- What is written of a line, after which the run is here, is its restriction.
pub line_is : (name : List ℕ) (sc : InputScan) (p : Progress Located Never) (old new : ℕ) (bytes : List ℕ) → Covers located_judging sc p old new → progress_line name p bytes ≡ restricted_line name sc bytes
line_is name sc p old new bytes c = ap (λ (shown : List ℕ). if blank bytes then bytes else shown) (shown_is name sc p old new bytes c)

can_write : (sc : InputScan) (p : Progress Located Never) (old new : ℕ) → Covers located_judging sc p old new → CanWrite p
can_write sc (Waiting lines) old new c = tt
can_write sc (Running tally located) old new c = c.good.writable
can_write sc (Rejected tally never) old new c = tt

counted : (sc : InputScan) (p : Progress Located Never) (old new : ℕ) → Covers located_judging sc p old new → new ≡ old
counted sc (Waiting lines) old new c = c.1
counted sc (Running tally located) old new c = c.most
counted sc (Rejected tally never) old new c = c.most

-- ---- a line more

module _ (first now : ℕ) (from : Focus) (line : NumberedLine) (is : IsNext (focus_reading first) (from, now) line) where
  -- The next line of the restriction is the next line of the run.
  pub next_line : IsNext (judged_reading located_judging first) (from.progress, now) line
  next_line = (is.0, is.1.leads, is.2, is.3, is.4)

  module _ (to : Progress Located Never) (new : ℕ) (leads : LeadsOn (judged_reading located_judging first) (from.progress, now) line (to, new)) where
    -- After it the header of the run can be written.
    pub next_can_write : CanWrite to
    next_can_write = can_write (scan_lines judge_limits.transactions (is.0 ++ line ∷ [])) to first new (leads is.0 is.1.leads).covers

-- A line that leads a run on leads its restriction on, with what is written of it.
pub focus_on : (first now : ℕ) (from : Focus) (line : NumberedLine) (to : Progress Located Never) (new : ℕ) (text : List ℕ) → LeadsOn (judged_reading located_judging first) (from.progress, now) line (to, new)
    → text ≡ from.text ++ with_return (progress_line from.name to line.1) ++ 10 ∷ [] → LeadsOn (focus_reading first) (from, now) line (record { name = from.name; progress = to; text = text }, new)
focus_on first now from line to new text leads written lines before =
    let most = judge_limits.transactions in
    let after = leads lines before.leads in
    let shown : progress_line from.name to line.1 ≡ restricted_line from.name (scan_line most (scan_lines most lines) line) line.1 =
    line_is from.name (scan_lines most (lines ++ line ∷ [])) to first new line.1 after.covers
    ∙ ap (λ (s : InputScan). restricted_line from.name s line.1) (scan_more most lines line) in
    record {
      leads = after;
      text = written
          ∙ ap (λ (front : List ℕ). front ++ with_return (progress_line from.name to line.1) ++ 10 ∷ []) before.text
          ∙ ap (λ (bytes : List ℕ). restricted_text from.name lines ++ with_return bytes ++ 10 ∷ []) shown
          ∙ sym (joined_more (map with_return (restricted_lines from.name lines)) (with_return (restricted_line from.name (scan_line most (scan_lines most lines) line) line.1)))
          ∙ ap joined_lines (sym (map-append with_return (restricted_lines from.name lines) (restricted_line from.name (scan_line most (scan_lines most lines) line) line.1 ∷ [])))
          ∙ ap (λ (ls : List (List ℕ)). joined_lines (map with_return ls)) (sym (lines_more most from.name nothing lines line));
    }

-- A line at which the run stops is one at which its restriction stops.
pub focus_stops : (first now : ℕ) (from : Focus) (line : NumberedLine) (stop : Stop Cause) → StopsAt (judged_reading located_judging first) (from.progress, now) line stop → StopsAt (focus_reading first) (from, now) line stop
focus_stops first now from line stop h = if_fault stop _ _ (λ at fault said lines leads. said lines leads.leads) h

-- If the run stops at a line with this counter, its restriction stops there with it.
pub focus_stops_with : (first now : ℕ) (from : Focus) (line : NumberedLine) (new : ℕ) → StopsWith (judged_reading located_judging first) (from.progress, now) line new → StopsWith (focus_reading first) (from, now) line new
focus_stops_with first now from line new h lines leads = h lines leads.leads

-- If the run goes on, the counter is what it was before the first line.
pub focus_counts : (first now : ℕ) (from : Focus) (line : NumberedLine) (to : Progress Located Never) (new : ℕ) → LeadsOn (judged_reading located_judging first) (from.progress, now) line (to, new) → StopsWith (focus_reading first) (from, now) line new
focus_counts first now from line to new leads lines before = counted (scan_lines judge_limits.transactions (lines ++ line ∷ [])) to first new (leads lines before.leads).covers

-- No line leads to the first one.
pub focus_first : (name : List ℕ) (old : ℕ) → FocusLeads [] (record { name = name; progress = Waiting 0; text = [] }) old old
focus_first name old = record { leads = leads_nothing located_judging old; text = refl }

-- What is known whatever a call returns is known if it returns an error.
pub on_err : {A E : Type 0} (r : Result A E) (X : Type 0) → X → OnErr r X
on_err (Ok v) X x = tt
on_err (Err e) X x = x

-- ---- an input

-- An input that was read so far, or whole, was read so as a run.
pub whole_read : (first : ℕ) (old new : Option (List ℕ)) (to : Focus) (now : ℕ) → ReadsAll (focus_reading first) old new (to, now) → ReadsAll (judged_reading located_judging first) old new (to.progress, now)
whole_read first old new to now (bytes, read, none, leads) = (bytes, read, none, leads.leads)

-- The text is the restriction of what was read.
pub whole_text : (first : ℕ) (old new : Option (List ℕ)) (to : Focus) (now : ℕ) → IsAtEnd new → ReadsAll (focus_reading first) old new (to, now) → WhereTold old (λ bytes. to.text ≡ restriction to.name bytes)
whole_text first old new to now end (taken, read, none, leads) bytes is =
    leads.text ∙ ap (λ (bs : List ℕ). restriction to.name bs) (taken_all old new taken bytes read end is)

-- What was read so, to the end, is the whole input, and the text is its restriction.
pub is_read : (first : ℕ) (old new : Option (List ℕ)) (to : Focus) (now : ℕ) → IsAtEnd new → ReadsAll (focus_reading first) old new (to, now) → IsRead old new to
is_read first old new to now end reads = record {
  found = finds located_judging located_laws first now old new to.progress end (whole_read first old new to now reads);
  text = whole_text first old new to now end reads;
}

whole_fault : (first : ℕ) (bytes : List ℕ) (at : ℕ) (cause : Cause) → HasInputFault (focus_reading first) bytes at cause → HasInputFault (judged_reading located_judging first) bytes at cause
whole_fault first bytes at cause (inl faulty) = inl faulty
whole_fault first bytes at cause (inr (place, leads, limit)) = inr ((place.0.progress, place.1), leads.leads, limit)

-- A fault that the reading of an input finds is the fault of its scan.
pub scan_fault : (first : ℕ) (bytes : List ℕ) (at : ℕ) (cause : Cause) → HasInputFault (focus_reading first) bytes at cause → (judge_scan bytes).fault ≡ Some (at, cause)
scan_fault first bytes at cause faulty = input_fault located_judging located_laws first bytes at cause (whole_fault first bytes at cause faulty)

-- What was read so far has no fault that no further byte can change.
pub no_fault_so_far : (first : ℕ) (old new : Option (List ℕ)) → ReadsSoFar (focus_reading first) old new → FocusReadsNoFault old new
no_fault_so_far first old new (bytes, read, none, (to, leads)) = reads_sound located_judging located_laws first old new (bytes, read, none, ((to.0.progress, to.1), leads.leads))

whole_counts : (first : ℕ) (lines : List NumberedLine) (new : ℕ) → CountsTo (focus_reading first) lines new → CountsTo (judged_reading located_judging first) lines new
whole_counts first lines new (front, back, is, inl (to, leads)) = (front, back, is, inl (to.progress, leads.leads))
whole_counts first lines new (front, back, is, inr stops) = (front, back, is, inr stops)

-- Reading an input does not raise the counter.
pub counter_stays : (first : ℕ) (bytes : List ℕ) (new : ℕ) → CountsTo (focus_reading first) (scanned_lines judge_limits bytes) new → new ≡ first
counter_stays first bytes new counts = lines_cost located_judging located_laws first new bytes (whole_counts first (scanned_lines judge_limits bytes) new counts)
