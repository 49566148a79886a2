-- The lines of a run, and what an input is found to be, whatever the judge.
use Rattle.std.specs.Prelude.{◌≡◌, ℕ, ◌+◌, List, [], ◌∷◌, ◌++◌, length, Option, None, Some}
use Rattle.std.specs.Prelude.{Result, Ok, Err, IfOk, IfErr, OnErr}
use Rattle.std.specs.Option.{option_or}
use Rattle.std.specs.Io.KnownBytes.{IsAtEnd}
use Rattle.std.proofs.Common.{refl, lit≤, sym, ap, ◌∙◌, subst, arith, length-append}
use mathlib.Core.Logic.{inl, inr}
use Rattle.pp_input.specs.Limits.{HasNext}
use Rattle.pp_input.specs.Lines.{NumberedLine}
use Rattle.pp_input.specs.Overruns.{early_lines, overrun, scanned_lines}
use Rattle.pp_input.proofs.Reading.{scanned_all}
use Rattle.pp_input_reader.specs.declared.cause.Cause.{Cause}
use Rattle.pp_input_reader.specs.declared.cause.Cause.TheVariants.{NoHeader}
use Rattle.pp_input_reader.specs.declared.stop.Stop.{Stop}
use Rattle.pp_input_reader.specs.Limits.{limit_fault}
use Rattle.pp_input_reader.specs.Takers.{CountsTo, HasFaultBehind, HasInputFault, IfFault, IsNext}
use Rattle.pp_input_reader.specs.Takers.{LeadsOn, ReadsAll, ReadsSoFar, StopsAt, StopsWith}
use Rattle.pp_input_reader.proofs.Takers.{if_fault, taken_all}
use Rattle.pp_judge.specs.Findings.{AreGood, AreRejected, Finds, ReadsSound, RisesAtLeast, finding_of}
use Rattle.pp_judge.specs.Inputs.{no_header, or_fault, scan_within}
use Rattle.pp_judge.specs.Judging.{Judging, JudgingLaws}
use Rattle.pp_judge.specs.Progresses.{CostsOn, Covers, GoodAt, HasFaultOn, IsNextLine, Leads, RejectedAt}
use Rattle.pp_judge.specs.Progresses.{LeadsTo, judged_reading, lines_of}
use Rattle.pp_judge.specs.Scans.{InputScan, scan_lines}
use Rattle.pp_judge.specs.Tallies.{IsTallied}
use Rattle.pp_judge.specs.declared.progress.Progress.{Progress}
use Rattle.pp_judge.specs.declared.progress.Progress.TheVariants.{Waiting, Running, Rejected}
use Rattle.pp_judge.specs.declared.progress.Tally.{Tally}
use Rattle.pp_judge.proofs.Scanning.{scan_more}
use Rattle.pp_judge.proofs.Taking.{covers_fault, covers_most, covers_sound}
use Rattle.pp_judge.proofs.Widening.{widens_fault, widens_lines}

-- ---- line by line

module _ {J R : Type 0} (M : Judging J R) where
  -- Before the first line, no lines lead to waiting after 0 lines, and the counter did not rise.
  pub leads_nothing : (old : ℕ) → Leads M [] (Waiting 0) old old
  leads_nothing old = record { covers = (refl, refl); count = refl; next = lit≤ tt }

  -- A line that is next in the reading is the next line of the judging.
  pub next_line : (first now : ℕ) (from : Progress J R) (line : NumberedLine) → IsNext (judged_reading M first) (from, now) line → IsNextLine M from line now
  next_line first now from line is = record {
    sc = scan_lines M.limits.transactions is.0;
    old = first;
    covers = is.1.covers;
    number = omega (arith, is.2, is.1.count);
    few = is.3;
    next = is.4;
  }

  -- If lines led to here and the next line leads from here to there, all of them lead to there.
  pub leads_on : (from : Progress J R) (line : NumberedLine) (now : ℕ) (to : Progress J R) (new : ℕ) → IsNextLine M from line now → LeadsTo M from line now to new → (first : ℕ) → LeadsOn (judged_reading M first) (from, now) line (to, new)
  leads_on from line now to new next to' first lines leads = record {
    covers = subst (λ (s : InputScan). Covers M s to first new) (sym (scan_more M.limits.transactions lines line)) (to'.covers (scan_lines M.limits.transactions lines) first leads.covers);
    count = omega (arith, to'.lines, leads.count, length-append lines (line ∷ []));
    next = subst HasNext (next.number ∙ sym to'.lines) next.next;
  }

  -- If the counter is within the upper bound of the next line, the reading may stop at this line with it.
  pub stops_with : (from : Progress J R) (line : NumberedLine) (now new : ℕ) → CostsOn M from line now new → (first : ℕ) → StopsWith (judged_reading M first) (from, now) line new
  stops_with from line now new costs first lines leads =
      subst (λ (s : InputScan). M.AtMost s first new) (sym (scan_more M.limits.transactions lines line)) (costs (scan_lines M.limits.transactions lines) first leads.covers)

  -- what `take` answers, where this is where it leads
  pub takes_on : (from : Progress J R) (line : NumberedLine) (now new : ℕ) (to : Result (Progress J R) (Stop Cause)) → IsNextLine M from line now → IfOk to (λ p. LeadsTo M from line now p new)
      → IfOk to (λ p. (first : ℕ) → LeadsOn (judged_reading M first) (from, now) line (p, new))
  takes_on from line now new (Ok p) next leads = λ first. leads_on from line now p new next leads first
  takes_on from line now new (Err stop) next leads = tt

  -- If a line is not taken and the counter is within the line's upper bound, the reading may stop at it with this counter.
  pub costs_on : (from : Progress J R) (line : NumberedLine) (now new : ℕ) (to : Result (Progress J R) (Stop Cause)) → CostsOn M from line now new → OnErr to ((first : ℕ) → StopsWith (judged_reading M first) (from, now) line new)
  costs_on from line now new (Ok p) costs = tt
  costs_on from line now new (Err stop) costs = λ first. stops_with from line now new costs first

  module _ (laws : JudgingLaws M) where
    stops_at : (from : Progress J R) (line : NumberedLine) (now : ℕ) (stop : Stop Cause) → IfFault stop (λ at cause. (at ≡ line.0) × HasFaultOn M from line now cause) → (first : ℕ) → StopsAt (judged_reading M first) (from, now) line stop
    stops_at from line now stop stops first =
        if_fault stop (λ at cause. (at ≡ line.0) × HasFaultOn M from line now cause) (λ at cause. (lines : List NumberedLine) → Leads M lines from first now → HasFaultBehind (judged_reading M first) (lines ++ line ∷ []) at cause)
        (λ at cause said lines leads more.
        let here : M.IsFault (scan_lines M.limits.transactions (lines ++ line ∷ [])) (Some (line.0, cause)) =
        subst (λ (s : InputScan). M.IsFault s (Some (line.0, cause))) (sym (scan_more M.limits.transactions lines line)) (said.1 (scan_lines M.limits.transactions lines) first leads.covers) in
        subst (λ (n : ℕ). M.IsFault (scan_lines M.limits.transactions ((lines ++ line ∷ []) ++ more)) (Some (n, cause))) (sym said.0)
        (laws.fault_stays (scan_lines M.limits.transactions (lines ++ line ∷ [])) (scan_lines M.limits.transactions ((lines ++ line ∷ []) ++ more)) (line.0, cause) (widens_lines M.limits.transactions (lines ++ line ∷ []) more) here))
        stops

    -- and if this is its fault
    pub stops_on : (from : Progress J R) (line : NumberedLine) (now : ℕ) (to : Result (Progress J R) (Stop Cause)) → IfErr to (λ stop. IfFault stop (λ at cause. (at ≡ line.0) × HasFaultOn M from line now cause))
        → IfErr to (λ stop. (first : ℕ) → StopsAt (judged_reading M first) (from, now) line stop)
    stops_on from line now (Ok p) stops = tt
    stops_on from line now (Err stop) stops = λ first. stops_at from line now stop stops first

    -- ---- the fault of an input

    -- after lines that led to here it is what comes after them
    or_covers : (sc : InputScan) (p : Progress J R) (old now : ℕ) (o : Option (ℕ × Cause)) → Covers M sc p old now → M.IsFault (or_fault sc o) o
    or_covers sc p old now o c =
        subst (λ (f : Option (ℕ × Cause)). M.IsFault (record sc { fault = f }) o) (sym (ap (λ (f : Option (ℕ × Cause)). option_or f o) (covers_sound M sc p old now c)))
        (covers_fault M laws sc p old now o c)

    -- what comes after the lines of an input: a limit that is passed, or that there is no header
    after_lines : (bytes : List ℕ) (p : Progress J R) (first now : ℕ) (o : Option (ℕ × Cause)) → Leads M (scanned_lines M.limits bytes) p first now
        → option_or (limit_fault (overrun M.limits bytes)) (no_header bytes (scan_lines M.limits.transactions (scanned_lines M.limits bytes)).header) ≡ o → M.IsFault (scan_within M.limits bytes) o
    after_lines bytes p first now o leads is =
        let sc : InputScan = scan_lines M.limits.transactions (scanned_lines M.limits bytes) in
        let behind : Option (ℕ × Cause) = option_or (limit_fault (overrun M.limits bytes)) (no_header bytes sc.header) in
        subst (λ (w : Option (ℕ × Cause)). M.IsFault (scan_within M.limits bytes) w) is (or_covers sc p first now behind leads.covers)

    -- A fault that the reading of an input finds is the fault of its scan.
    pub input_fault : (first : ℕ) (bytes : List ℕ) (at : ℕ) (cause : Cause) → HasInputFault (judged_reading M first) bytes at cause → M.IsFault (scan_within M.limits bytes) (Some (at, cause))
    input_fault first bytes at cause (inl line) =
        let sc : InputScan = scan_lines M.limits.transactions (scanned_lines M.limits bytes) in
        laws.fault_stays sc (scan_within M.limits bytes) (at, cause) (widens_fault sc (option_or (limit_fault (overrun M.limits bytes)) (no_header bytes sc.header))) line
    input_fault first bytes at cause (inr (place, leads, (named, limit, same))) =
        let is : limit_fault (overrun M.limits bytes) ≡ Some (at, cause) = limit ∙ ap (λ (c : Cause). let o : Option (ℕ × Cause) = Some (at, c) in o) (sym same) in
        after_lines bytes place.0 first place.1 (Some (at, cause)) leads (ap (λ (o : Option (ℕ × Cause)). option_or o (no_header bytes (scan_lines M.limits.transactions (scanned_lines M.limits bytes)).header)) is)

    -- what was read so far has no fault
    pub reads_sound : (first : ℕ) (old new : Option (List ℕ)) → ReadsSoFar (judged_reading M first) old new → ReadsSound M old new
    reads_sound first old new (bytes, read, none, (place, leads)) =
        let sc : InputScan = scan_lines M.limits.transactions (early_lines M.limits bytes) in (
          bytes,
          read,
          subst (λ (o : Option (ℕ × Cause)). M.IsFault (or_fault sc (limit_fault (overrun M.limits bytes))) o) (ap limit_fault none)
              (or_covers sc place.0 first place.1 (limit_fault (overrun M.limits bytes)) leads.covers),
        )

    -- ---- an input that was read to its end

    module _ (bytes : List ℕ) (none : overrun M.limits bytes ≡ None) (p : Progress J R) (first now : ℕ) (leads : Leads M (scanned_lines M.limits bytes) p first now) where
      abbrev sc : InputScan
      sc = scan_lines M.limits.transactions (scanned_lines M.limits bytes)

      -- without a header
      no_header_fault : sc.header ≡ None → M.IsFault (scan_within M.limits bytes) (Some (lines_of p + 1, NoHeader))
      no_header_fault is =
          let count : length (scanned_lines M.limits bytes) ≡ lines_of p = sym leads.count in
          after_lines bytes p first now (Some (lines_of p + 1, NoHeader)) leads
          (ap (λ o. option_or (limit_fault o) (no_header bytes sc.header)) none ∙ ap (no_header bytes) is
          ∙ ap (λ (k : ℕ). let o : Option (ℕ × Cause) = Some (k + 1, NoHeader) in o) (ap (λ (ls : List NumberedLine). length ls) (sym (scanned_all M.limits bytes none)) ∙ count))

      -- with one
      scan_is : (tally : Tally) → IsTallied sc tally → scan_within M.limits bytes ≡ sc
      scan_is tally f =
          let same : (scan_within M.limits bytes).fault ≡ sc.fault =
          ap (λ o. option_or o (option_or (limit_fault (overrun M.limits bytes)) (no_header bytes sc.header))) f.sound
          ∙ ap (λ o. option_or (limit_fault o) (no_header bytes sc.header)) none ∙ ap (no_header bytes) f.header ∙ sym f.sound in
          ap (λ (w : Option (ℕ × Cause)). let s : InputScan = record sc { fault = w } in s) same

    -- what is found is so
    pub finds : (first now : ℕ) (old new : Option (List ℕ)) (p : Progress J R) → IsAtEnd new → ReadsAll (judged_reading M first) old new (p, now) → Finds M old new (finding_of p)
    finds first now old new (Waiting lines) end (taken, read, none, leads) = λ bytes is.
        subst (λ (bs : List ℕ). M.IsFault (scan_within M.limits bs) (Some (lines + 1, NoHeader))) (taken_all old new taken bytes read end is)
        (no_header_fault taken none (Waiting lines) first now leads (ap (λ (s : InputScan). s.header) leads.covers.0))
    finds first now old new (Running tally judge) end (taken, read, none, leads) =
        let c : GoodAt M (scan_lines M.limits.transactions (scanned_lines M.limits taken)) tally judge first now = leads.covers in
        let is = scan_is taken none (Running tally judge) first now leads tally c.follows in
        (taken, read, end, subst (λ (s : InputScan). AreGood M s tally judge) (sym is) (record { follows = c.follows; good = c.good }))
    finds first now old new (Rejected tally rejection) end (taken, read, none, leads) =
        let c : RejectedAt M (scan_lines M.limits.transactions (scanned_lines M.limits taken)) tally rejection first now = leads.covers in
        let is = scan_is taken none (Rejected tally rejection) first now leads tally c.follows in
        (taken, read, end, subst (λ (s : InputScan). AreRejected M s tally rejection) (sym is) (record { follows = c.follows; bad = c.bad }))

    -- ---- what the counter shows

    -- the lines of an input, of which some were taken from the first on
    pub lines_cost : (first new : ℕ) (bytes : List ℕ) → CountsTo (judged_reading M first) (scanned_lines M.limits bytes) new → M.AtMost (scan_within M.limits bytes) first new
    lines_cost first new bytes (front, back, is, taken) =
        let here : M.AtMost (scan_lines M.limits.transactions front) first new = elim taken [ inl x ↦ covers_most M laws (scan_lines M.limits.transactions front) x.0 first new x.1.covers | inr y ↦ y ] in
        let sc : InputScan = scan_lines M.limits.transactions (scanned_lines M.limits bytes) in
        let all : M.AtMost sc first new =
        subst (λ (ls : List NumberedLine). M.AtMost (scan_lines M.limits.transactions ls) first new) (sym is) (laws.most_widens (scan_lines M.limits.transactions front) (scan_lines M.limits.transactions (front ++ back)) first new (widens_lines M.limits.transactions front back) here) in
        laws.most_widens sc (scan_within M.limits bytes) first new (widens_fault sc (option_or (limit_fault (overrun M.limits bytes)) (no_header bytes sc.header))) all

    -- if all lines were taken
    pub finding_counted : (first now : ℕ) (old new : Option (List ℕ)) (bytes : List ℕ) (p : Progress J R) → IsAtEnd new → old ≡ Some bytes → ReadsAll (judged_reading M first) old new (p, now) → RisesAtLeast M (scan_within M.limits bytes) (finding_of p) first now
    finding_counted first now old new bytes (Waiting lines) end is reads = tt
    finding_counted first now old new bytes (Running tally judge) end is (taken, read, none, leads) =
        let c : GoodAt M (scan_lines M.limits.transactions (scanned_lines M.limits taken)) tally judge first now = leads.covers in
        subst (λ (bs : List ℕ). M.GoodAtLeast (scan_within M.limits bs) first now) (taken_all old new taken bytes read end is)
        (subst (λ (s : InputScan). M.GoodAtLeast s first now) (sym (scan_is taken none (Running tally judge) first now leads tally c.follows)) c.least)
    finding_counted first now old new bytes (Rejected tally rejection) end is (taken, read, none, leads) =
        let c : RejectedAt M (scan_lines M.limits.transactions (scanned_lines M.limits taken)) tally rejection first now = leads.covers in
        subst (λ (bs : List ℕ). M.RejectedAtLeast (scan_within M.limits bs) first now) (taken_all old new taken bytes read end is)
        (subst (λ (s : InputScan). M.RejectedAtLeast s first now) (sym (scan_is taken none (Rejected tally rejection) first now leads tally c.follows)) c.least)
