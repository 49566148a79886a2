-- One line more, whatever the judge.
use Rattle.std.specs.Prelude.{◌≡◌, ◌<◌, ℕ, ◌+◌, true, false, [], ◌∷◌, Option, None, Some, Result, Ok, Err}
use Rattle.std.proofs.Common.{refl, sym, ap, ◌∙◌, subst, arith}
use Rattle.pp_core.specs.declared.answer.OutOfMemory.{OutOfMemory}
use Rattle.pp_records.specs.Records.{RunRecord}
use Rattle.pp_records.specs.Runs.{Lined}
use Rattle.pp_objects.specs.declared.act.Op.{Op}
use Rattle.pp_input.specs.Lines.{NumberedLine, blank}
use Rattle.pp_format_read.specs.declared.fault.RecordFault.{RecordFault}
use Rattle.pp_format_read.specs.declared.header.Header.{Header}
use Rattle.pp_format_read.specs.Headers.{header_of}
use Rattle.pp_format_read.specs.Records.{record_of}
use Rattle.pp_input_reader.specs.declared.cause.Cause.{Cause}
use Rattle.pp_judge.specs.Causes.{cause_of}
use Rattle.pp_judge.specs.Judging.{CostsAtMostThere, HasFaultThere, IsJudged, JudgedAtLeast, Judges}
use Rattle.pp_judge.specs.Judging.{Judging, JudgingLaws, MayTake}
use Rattle.pp_judge.specs.Progresses.{CostsOn, Covers, GoodAt, HasFaultOn, IsNextLine, LeadsTo, RejectedAt}
use Rattle.pp_judge.specs.Progresses.{lines_of, progress_of, with_blank}
use Rattle.pp_judge.specs.Scans.{InputScan, nothing, scan_line, with_fault, with_header, with_next}
use Rattle.pp_judge.specs.Tallies.{IsRecordFault, IsTallied, headed, is_too_many, one_more, scan_of}
use Rattle.pp_judge.specs.Tallies.{with_record}
use Rattle.pp_judge.specs.declared.judge.Judged.{Judged}
use Rattle.pp_judge.specs.declared.judge.Judged.TheVariants.{Good}
use Rattle.pp_judge.specs.declared.judge.Judged.TheVariants as judged
use Rattle.pp_judge.specs.declared.progress.Progress.{Progress}
use Rattle.pp_judge.specs.declared.progress.Progress.TheVariants.{Waiting, Running, Rejected}
use Rattle.pp_judge.specs.declared.progress.Tally.{Tally}
use Rattle.pp_judge.proofs.Scanning.{faulty_at, scan_blank, scan_header}
use Rattle.pp_judge.proofs.Tallying.{first_tally, follows_first, follows_line, follows_next, on_record}
use Rattle.pp_judge.proofs.Tallying.{record_fault, scan_next, tallied_next, tallied_scan}
use Rattle.pp_judge.proofs.Widening.{widens_line}

module _ {J R : Type 0} (M : Judging J R) where
  -- A scan that lines lead to here has no fault.
  pub covers_sound : (sc : InputScan) (p : Progress J R) (old now : ℕ) → Covers M sc p old now → sc.fault ≡ None
  covers_sound sc (Waiting lines) old now c = ap (λ (s : InputScan). s.fault) c.0
  covers_sound sc (Running tally judge) old now c = c.follows.sound
  covers_sound sc (Rejected tally rejection) old now c = c.follows.sound

  -- ---- a blank line

  skip_covers : (sc : InputScan) (p : Progress J R) (old now : ℕ) → Covers M sc p old now → Covers M sc (with_blank p) old now
  unfolding follows_line
  skip_covers sc (Waiting lines) old now c = c
  skip_covers sc (Running tally judge) old now c = record { follows = follows_line sc tally c.follows; good = c.good; most = c.most; least = c.least }
  skip_covers sc (Rejected tally rejection) old now c = record { follows = follows_line sc tally c.follows; bad = c.bad; most = c.most; least = c.least }

  blank_lines : (p : Progress J R) → lines_of (with_blank p) ≡ lines_of p + 1
  blank_lines (Waiting lines) = refl
  blank_lines (Running tally judge) = refl
  blank_lines (Rejected tally rejection) = refl

  -- A blank line raises the count of lines by one and changes nothing else.
  pub blank_on : (p : Progress J R) (line : NumberedLine) (now : ℕ) → blank line.1 ≡ true → LeadsTo M p line now (with_blank p) now
  blank_on p line now is = record {
    covers = λ sc old c. subst (λ (s : InputScan). Covers M s (with_blank p) old now) (sym (scan_blank M.limits.transactions sc line (covers_sound sc p old now c) is)) (skip_covers sc p old now c);
    lines = blank_lines p;
  }

  -- ---- the header

  progress_lines : (tally : Tally) (judged : Judged J R) → lines_of (progress_of tally judged) ≡ tally.lines
  progress_lines tally (Good judge) = refl
  progress_lines tally (judged.Rejected rejection) = refl

  module _ (line : NumberedLine) (header : Header) (positive : 0 < line.0) (now new : ℕ) (most : M.AtMost (scan_of (headed line.0 header) []) now new) where
    begun : (judged : Judged J R) → IsJudged M (headed line.0 header) [] judged → JudgedAtLeast M (scan_of (headed line.0 header) []) judged now new
        → Covers M (with_header nothing line.0 (Ok header)) (progress_of (first_tally line.0 header) judged) now new
    unfolding follows_first
    begun (Good judge) good least = record { follows = follows_first line.0 header positive; good = good; most = most; least = least }
    begun (judged.Rejected rejection) bad least = record { follows = follows_first line.0 header positive; bad = bad; most = most; least = least }

    -- If a first line is read as a header and judged, the progress of that judgement covers its scan.
    pub header_covers : blank line.1 ≡ false → header_of line.1 ≡ Ok header → (judged : Judged J R) → IsJudged M (headed line.0 header) [] judged → JudgedAtLeast M (scan_of (headed line.0 header) []) judged now new
        → Covers M (scan_line M.limits.transactions nothing line) (progress_of (first_tally line.0 header) judged) now new
    header_covers other read judged is least =
        subst (λ (s : InputScan). Covers M s (progress_of (first_tally line.0 header) judged) now new) (sym (scan_header M.limits.transactions nothing line (Ok header) refl refl other read)) (begun judged is least)

  -- what holds of the header's line holds of it after blank lines
  pub header_on : (P : InputScan → ℕ → Type 0) (lines : ℕ) (line : NumberedLine) (now : ℕ) → P (scan_line M.limits.transactions nothing line) now → (sc : InputScan) (old : ℕ) → Covers M sc (Waiting lines) old now → P (scan_line M.limits.transactions sc line) old
  header_on P lines line now is sc old c = subst (λ (s : InputScan). P (scan_line M.limits.transactions s line) old) (sym c.0) (subst (λ (n : ℕ). P (scan_line M.limits.transactions nothing line) n) c.1 is)

  -- If the progress covers the scan of the next line alone, this line leads there from waiting.
  pub header_leads : (lines : ℕ) (line : NumberedLine) (now : ℕ) (to : Progress J R) (new : ℕ) → IsNextLine M (Waiting lines) line now → Covers M (scan_line M.limits.transactions nothing line) to now new → lines_of to ≡ line.0 → LeadsTo M (Waiting lines) line now to new
  header_leads lines line now to new next covers count = record {
    covers = header_on (λ (s : InputScan) (n : ℕ). Covers M s to n new) lines line now covers;
    lines = count ∙ next.number;
  }

  -- what a judge says of the header's line holds of its scan
  pub header_there : (P : InputScan → Type 0) (line : NumberedLine) (header : Header) → blank line.1 ≡ false → header_of line.1 ≡ Ok header → P (scan_of (headed line.0 header) []) → P (scan_line M.limits.transactions nothing line)
  header_there P line header other read is = subst P (sym (scan_header M.limits.transactions nothing line (Ok header) refl refl other read)) is

  -- ---- what a judge may take

  -- A judge that runs may take the record of the next line.
  pub few_more : (tally : Tally) (judge : J) (line : NumberedLine) (now : ℕ) → IsNextLine M (Running tally judge) line now → MayTake M tally.header judge
  few_more tally judge line now n =
      let c : GoodAt M n.sc tally judge n.old now = n.covers in
      (c.follows.at, n.sc.records, c.good, omega (arith, n.number, n.few, c.follows.fewer))

  -- ---- a record

  module _ (sc : InputScan) (tally : Tally) (judge : J) (line : NumberedLine) (r : RunRecord Op) (old now new : ℕ) (c : GoodAt M sc tally judge old now) where
    most_here : M.AtMost (scan_of (headed c.follows.at tally.header) sc.records) old now
    most_here = subst (λ (s : InputScan). M.AtMost s old now) (tallied_scan sc tally c.follows) c.most

    least_here : M.GoodAtLeast (scan_of (headed c.follows.at tally.header) sc.records) old now
    least_here = subst (λ (s : InputScan). M.GoodAtLeast s old now) (tallied_scan sc tally c.follows) c.least

    most_next : CostsAtMostThere M tally.header judge r line.0 now new → M.AtMost (with_next sc line.0 r) old new
    most_next most =
        subst (λ (s : InputScan). M.AtMost s old new) (sym (tallied_next sc tally c.follows line.0 r)) (most c.follows.at sc.records c.good old most_here)

    covers_next : (judged : Judged J R) → CostsAtMostThere M tally.header judge r line.0 now new → IsJudged M (headed c.follows.at tally.header) (one_more sc.records line.0 r) judged
        → JudgedAtLeast M (scan_of (headed c.follows.at tally.header) (one_more sc.records line.0 r)) judged old new → Covers M (with_next sc line.0 r) (progress_of (with_record tally r) judged) old new
    unfolding follows_next
    covers_next (Good next) most is least = record {
      follows = follows_next sc tally c.follows line.0 r;
      good = is;
      most = most_next most;
      least = subst (λ (s : InputScan). M.GoodAtLeast s old new) (sym (tallied_next sc tally c.follows line.0 r)) least;
    }
    covers_next (judged.Rejected rejection) most is least = record {
      follows = follows_next sc tally c.follows line.0 r;
      bad = is;
      most = most_next most;
      least = subst (λ (s : InputScan). M.RejectedAtLeast s old new) (sym (tallied_next sc tally c.follows line.0 r)) least;
    }

  module _ (tally : Tally) (judge : J) (line : NumberedLine) (r : RunRecord Op) (now new : ℕ) (other : blank line.1 ≡ false) (read : record_of tally.header line.1 ≡ Ok r) (few : is_too_many M.limits.transactions tally r ≡ false) where
    -- If a record that may be taken is judged, its line leads to the progress of that judgement.
    pub record_on : (judged : Judged J R) → Judges M tally.header judge r line.0 judged now new → CostsAtMostThere M tally.header judge r line.0 now new → LeadsTo M (Running tally judge) line now (progress_of (with_record tally r) judged) new
    record_on judged judges most = record {
      covers = λ sc old c.
          subst (λ (s : InputScan). Covers M s (progress_of (with_record tally r) judged) old new) (sym (scan_next M.limits.transactions sc tally c.follows line other r read few))
          (covers_next sc tally judge line r old now new c judged most (judges.is c.follows.at sc.records c.good) (judges.least c.follows.at sc.records c.good old (least_here sc tally judge line r old now new c)));
      lines = progress_lines (with_record tally r) judged;
    }

    -- If the counter is within the upper bound of a record that may be taken, it is within that of its line.
    pub record_cost : CostsAtMostThere M tally.header judge r line.0 now new → CostsOn M (Running tally judge) line now new
    record_cost most sc old c =
        subst (λ (s : InputScan). M.AtMost s old new) (sym (scan_next M.limits.transactions sc tally c.follows line other r read few)) (most_next sc tally judge line r old now new c most)

    -- If the input has a fault with the record, its line has the fault.
    pub record_faulty : (cause : Cause) → HasFaultThere M tally.header judge r line.0 cause → HasFaultOn M (Running tally judge) line now cause
    record_faulty cause faulty sc old c =
        subst (λ (s : InputScan). M.IsFault s (Some (line.0, cause))) (sym (scan_next M.limits.transactions sc tally c.follows line other r read few ∙ tallied_next sc tally c.follows line.0 r))
        (faulty c.follows.at sc.records c.good)

  module _ (laws : JudgingLaws M) where
    -- the lines so far have this fault, where it comes after them
    pub covers_fault : (sc : InputScan) (p : Progress J R) (old now : ℕ) (fault : Option (ℕ × Cause)) → Covers M sc p old now → M.IsFault (record sc { fault = fault }) fault
    covers_fault sc (Waiting lines) old now fault c = subst (λ (s : InputScan). M.IsFault (record s { fault = fault }) fault) (sym c.0) (laws.first_fault fault)
    covers_fault sc (Running tally judge) old now fault c =
        subst (λ (s : InputScan). M.IsFault (record s { fault = fault }) fault) (sym (tallied_scan sc tally c.follows))
        (laws.good_fault (headed c.follows.at tally.header) sc.records judge fault c.good)
    covers_fault sc (Rejected tally rejection) old now fault c =
        subst (λ (s : InputScan). M.IsFault (record s { fault = fault }) fault) (sym (tallied_scan sc tally c.follows))
        (laws.rejected_fault (headed c.follows.at tally.header) sc.records rejection fault c.bad)

    -- If lines led to here, the counter is within their upper bound.
    pub covers_most : (sc : InputScan) (p : Progress J R) (old now : ℕ) → Covers M sc p old now → M.AtMost sc old now
    covers_most sc (Waiting lines) old now c = subst (λ (s : InputScan). M.AtMost s old now) (sym c.0) (subst (λ (n : ℕ). M.AtMost nothing old n) (sym c.1) (laws.first_most old))
    covers_most sc (Running tally judge) old now c = c.most
    covers_most sc (Rejected tally rejection) old now c = c.most

    -- a line at which the counter stays
    pub still_cost : (p : Progress J R) (line : NumberedLine) (now : ℕ) → CostsOn M p line now now
    still_cost p line now sc old c = laws.most_widens sc (scan_line M.limits.transactions sc line) old now (widens_line M.limits.transactions sc line) (covers_most sc p old now c)

    -- A counter that does not rise is within the upper bound of a scan of one line.
    pub still_nothing : (line : NumberedLine) (now : ℕ) → M.AtMost (scan_line M.limits.transactions nothing line) now now
    still_nothing line now = laws.most_widens nothing (scan_line M.limits.transactions nothing line) now now (widens_line M.limits.transactions nothing line) (laws.first_most now)

    -- ---- a line that can not be read

    -- A line that can not be read as the header is the fault of the input, with the cause of its reading.
    pub header_faulty : (line : NumberedLine) (fault : RecordFault) (cause : Cause) → blank line.1 ≡ false → header_of line.1 ≡ Err fault → cause_of fault ≡ Ok cause → M.IsFault (scan_line M.limits.transactions nothing line) (Some (line.0, cause))
    header_faulty line fault cause other read caused =
        let is : scan_line M.limits.transactions nothing line ≡ faulty_at nothing (line.0, cause) =
        scan_header M.limits.transactions nothing line (Err fault) refl refl other read ∙ ap (λ (r : Result Cause OutOfMemory). with_fault nothing line.0 r) caused in
        subst (λ (s : InputScan). M.IsFault s (Some (line.0, cause))) (sym is) (laws.first_fault (Some (line.0, cause)))

    -- A record that is not taken is the fault of its line, with the cause of its refusal.
    pub refused_faulty : (tally : Tally) (p : Progress J R) (line : NumberedLine) (now : ℕ) (cause : Cause) → ((sc : InputScan) (old : ℕ) → Covers M sc p old now → IsTallied sc tally) → blank line.1 ≡ false
        → IsRecordFault M.limits.transactions tally (record_of tally.header line.1) cause → HasFaultOn M p line now cause
    refused_faulty tally p line now cause follows other refused sc old c =
        subst (λ (s : InputScan). M.IsFault s (Some (line.0, cause))) (sym (record_fault M.limits.transactions sc tally (follows sc old c) line other (record_of tally.header line.1) cause refl refused))
        (covers_fault sc p old now (Some (line.0, cause)) c)

    -- ---- a record after a rejection

    passed : (sc : InputScan) (tally : Tally) (rejection : R) (line : NumberedLine) (r : RunRecord Op) (old now : ℕ) (c : RejectedAt M sc tally rejection old now) → M.AtMost (with_next sc line.0 r) old now
        → RejectedAt M (with_next sc line.0 r) (with_record tally r) rejection old now
    unfolding follows_next
    passed sc tally rejection line r old now c most =
        let h : Lined Header = headed c.follows.at tally.header in
        record {
          follows = follows_next sc tally c.follows line.0 r;
          bad = laws.rejection_stays h sc.records (on_record line.0 r ∷ []) rejection c.bad;
          most = most;
          least = subst (λ (s : InputScan). M.RejectedAtLeast s old now) (sym (tallied_next sc tally c.follows line.0 r))
              (laws.rejected_least_stays h sc.records (on_record line.0 r ∷ []) rejection old now c.bad (subst (λ (s : InputScan). M.RejectedAtLeast s old now) (tallied_scan sc tally c.follows) c.least));
        }

    -- After a rejection, the line of a record that may be taken leads to the same rejection at no cost.
    pub passed_on : (tally : Tally) (rejection : R) (line : NumberedLine) (r : RunRecord Op) (now : ℕ) → blank line.1 ≡ false → record_of tally.header line.1 ≡ Ok r → is_too_many M.limits.transactions tally r ≡ false
        → LeadsTo M (Rejected tally rejection) line now (Rejected (with_record tally r) rejection) now
    passed_on tally rejection line r now other read few = record {
      covers = λ sc old c.
          let is : scan_line M.limits.transactions sc line ≡ with_next sc line.0 r = scan_next M.limits.transactions sc tally c.follows line other r read few in
          subst (λ (s : InputScan). RejectedAt M s (with_record tally r) rejection old now) (sym is)
          (passed sc tally rejection line r old now c (subst (λ (s : InputScan). M.AtMost s old now) is (still_cost (Rejected tally rejection) line now sc old c)));
      lines = refl;
    }
