-- What is read of a prefix is the first part of what is read of the whole.
use Rattle.std.specs.Prelude.{◌≡◌, ◌≤◌, ◌+◌, ◌||◌, ℕ, Bool, true, false, List, [], ◌∷◌, ◌++◌, length}
use Rattle.std.specs.Prelude.{cond, is_some, Option, None, Some, Result, Ok, Err}
use Rattle.std.specs.Option.{option_or}
use Rattle.std.proofs.Common.{refl, sym, ap, subst, ◌∙◌, append_assoc, arith}
use Rattle.std.proofs.lemmas.List.{append-nil}
use Rattle.std.proofs.lemmas.Option.{same_Some}
use mathlib.Core.Logic.{inl, inr}
use Rattle.pp_core.specs.declared.answer.OutOfMemory.{OutOfMemory}
use Rattle.pp_records.specs.Inputs.{Widens}
use Rattle.pp_records.specs.Runs.{Lined}
use Rattle.pp_input.specs.declared.fault.LineFault.{LineFault}
use Rattle.pp_input.specs.declared.fault.LineFault.TheVariants as limits
use Rattle.pp_input.specs.Limits.{usual_limits}
use Rattle.pp_input.specs.Lines.{NumberedLine, blank, ended, ended_lines, numbered_from}
use Rattle.pp_input.specs.Overruns.{overrun, scanned_lines}
use Rattle.pp_format_read.specs.declared.fault.RecordFault.{RecordFault}
use Rattle.pp_format_read.specs.declared.header.Header.{Header}
use Rattle.pp_format_read.specs.Headers.{header_of}
use Rattle.pp_input_reader.specs.declared.cause.Cause.{Cause}
use Rattle.pp_input_reader.specs.declared.cause.Cause.TheVariants.{TooManySteps}
use Rattle.pp_input_reader.specs.Limits.{limit_fault}
use Rattle.pp_judge.specs.Causes.{cause_of}
use Rattle.pp_judge.specs.Inputs.{IsFaultOf, no_header, scan}
use Rattle.pp_judge.specs.Scans.{InputScan, read_line, scan_line, scan_lines, with_fault, with_header}
use Rattle.pp_judge.proofs.Scanning.{scan_more}
use Rattle.pp_judge.proofs.Widening.{widens_lines}
use Rattle.pp_laws_runs.specs.Prefixes.{Begins, IsPrefixOfLines}
use Rattle.pp_laws_runs.proofs.Cutting.{front_lines, front_within, no_memory, whole_lines}

-- ---- the line of a header

-- a header is on the line that it was read from
header_line : (sc : InputScan) (line : NumberedLine) (h : Lined Header) → sc.header ≡ None → (scan_line usual_limits.transactions sc line).header ≡ Some h → h.line ≡ line.0
header_line sc line h none is = by (is_some sc.fault || blank line.1) is
  where
    still : sc.header ≡ Some h → h.line ≡ line.0
    still there = absurd (let e : None ≡ Some h = sym none ∙ there in cc)

    faulty : (r : Result Cause OutOfMemory) → (with_fault sc line.0 r).header ≡ Some h → h.line ≡ line.0
    faulty (Ok cause) there = still there
    faulty (Err refused) there = still there

    made : (r : Result Header RecordFault) → (with_header sc line.0 r).header ≡ Some h → h.line ≡ line.0
    made (Ok header) there =
        let one : Lined Header = record { line = line.0; what = header } in
        ap (λ (k : Lined Header). k.line) (sym (same_Some one h there))
    made (Err fault) there = faulty (cause_of fault) there

    read : (o : Option (Lined Header)) → o ≡ None → (read_line usual_limits.transactions sc o line).header ≡ Some h → h.line ≡ line.0
    read None e there = made (header_of line.1) there
    read (Some other) e there = absurd (cc)

    by : (b : Bool) → (cond b sc (read_line usual_limits.transactions sc sc.header line)).header ≡ Some h → h.line ≡ line.0
    by true there = still there
    by false there = read sc.header none there

below : (n k : ℕ) → n + 1 ≤ k → n ≤ k
below n k h = omega (arith, h)

at_least : (n k : ℕ) → k ≡ n → n ≤ k
at_least n k h = omega (arith, h)

-- If these lines have no header, the header is on a line after them.
header_behind : (before : List NumberedLine) (n : ℕ) (lines : List (List ℕ)) (h : Lined Header) → (scan_lines usual_limits.transactions before).header ≡ None → (scan_lines usual_limits.transactions (before ++ numbered_from n lines)).header ≡ Some h → n ≤ h.line
header_behind before n [] h none is =
    absurd (let e : None ≡ Some h = sym none ∙ ap (λ (ls : List NumberedLine). (scan_lines usual_limits.transactions ls).header) (sym (append-nil before)) ∙ is in cc)
header_behind before n (line ∷ lines) h none is =
    let one : NumberedLine = (n, line) in
    let next : List NumberedLine = before ++ one ∷ [] in
    let more : List NumberedLine = numbered_from (n + 1) lines in
    let whole : (scan_lines usual_limits.transactions (next ++ more)).header ≡ Some h = ap (λ (ls : List NumberedLine). (scan_lines usual_limits.transactions ls).header) (append_assoc before (one ∷ []) more) ∙ is in
    elim ((scan_lines usual_limits.transactions next).header) as (λ o. (scan_lines usual_limits.transactions next).header ≡ o → n ≤ h.line) [
      | None ↦ λ still. below n h.line (header_behind next (n + 1) lines h still whole)
      | Some first ↦ λ there.
          let same : first ≡ h = same_Some first h (sym ((widens_lines usual_limits.transactions next more).header first there) ∙ whole) in
          let here : first.line ≡ n = header_line (scan_lines usual_limits.transactions before) one first none (ap (λ (s : InputScan). s.header) (sym (scan_more usual_limits.transactions before one)) ∙ there) in
          at_least n h.line (ap (λ (k : Lined Header). k.line) (sym same) ∙ here)
    ] refl

-- ---- an input without a fault

both_none : {A : Type 0} (o p : Option A) → option_or o p ≡ None → (o ≡ None) × (p ≡ None)
both_none None p h = (refl, h)
both_none (Some x) p h = absurd (cc)

no_limit : (o : Option LineFault) → (o ≡ Some limits.OutOfMemory → ⊥) → limit_fault o ≡ None → o ≡ None
no_limit None never h = refl
no_limit (Some (limits.TooLong line)) never h = absurd (cc)
no_limit (Some (limits.TooManyLines line)) never h = absurd (cc)
no_limit (Some (limits.LineTooLong line)) never h = absurd (cc)
no_limit (Some limits.OutOfMemory) never h = absurd (never refl)

-- No line has a fault, and no limit is exceeded.
sound_parts : (bytes : List ℕ) → IsFaultOf (scan bytes) None → ((scan_lines usual_limits.transactions (scanned_lines usual_limits bytes)).fault ≡ None) × (overrun usual_limits bytes ≡ None)
sound_parts bytes (inl over) = absurd (let e : None ≡ Some (over.0, TooManySteps) = over.2 in cc)
sound_parts bytes (inr none) =
    let sc : InputScan = scan_lines usual_limits.transactions (scanned_lines usual_limits bytes) in
    let parts = both_none sc.fault (option_or (limit_fault (overrun usual_limits bytes)) (no_header bytes sc.header)) (sym none.1) in
    let limit = both_none (limit_fault (overrun usual_limits bytes)) (no_header bytes sc.header) parts.1 in
    (parts.0, no_limit (overrun usual_limits bytes) (no_memory bytes) limit.0)

-- ---- the prefix of such an input

module _ (front back : List ℕ) (is : IsPrefixOfLines front back) (none : IsFaultOf (scan (front ++ back)) None) where
  abbrev sc : InputScan
  sc = scan_lines usual_limits.transactions (ended_lines front)

  abbrev wide : InputScan
  wide = scan_lines usual_limits.transactions (scanned_lines usual_limits (front ++ back))

  sound : (wide.fault ≡ None) × (overrun usual_limits (front ++ back) ≡ None)
  sound = sound_parts (front ++ back) none

  within : overrun usual_limits front ≡ None
  within = front_within front back sound.1

  lines : scanned_lines usual_limits front ≡ ended_lines front
  lines = front_lines front is.ends within

  behind : (more : List (List ℕ)) × (wide ≡ scan_lines usual_limits.transactions (ended_lines front ++ numbered_from (1 + length (ended front)) more))
  behind =
      let whole = whole_lines front back sound.1 in
      (whole.0, ap (λ (ls : List NumberedLine). scan_lines usual_limits.transactions ls) whole.1)

  widens : Widens sc wide
  widens = subst (λ (s : InputScan). Widens sc s) (sym behind.1) (widens_lines usual_limits.transactions (ended_lines front) (numbered_from (1 + length (ended front)) behind.0))

  header_there : sc.header ≡ Some is.header
  header_there =
      elim (sc.header) as (λ o. sc.header ≡ o → sc.header ≡ Some is.header) [
        | None ↦ λ still.
            let late : 1 + length (ended front) ≤ is.header.line =
            header_behind (ended_lines front) (1 + length (ended front)) behind.0 is.header still (ap (λ (s : InputScan). s.header) (sym behind.1) ∙ is.read) in
            absurd (omega (arith, late, is.held))
        | Some first ↦ λ there. there ∙ sym (widens.header first there) ∙ is.read
      ] refl

  no_line : sc.fault ≡ None
  no_line =
      elim (sc.fault) as (λ o. sc.fault ≡ o → sc.fault ≡ None) [
        | None ↦ λ h. h
        | Some fault ↦ λ h. ap (λ (s : InputScan). s.fault) (sym (widens.fault fault h)) ∙ sound.0
      ] refl

  -- A prefix that has the header's line and ends a line has the same header.
  pub front_header : (scan front).header ≡ Some is.header
  front_header = ap (λ (ls : List NumberedLine). (scan_lines usual_limits.transactions ls).header) lines ∙ header_there

  -- A prefix of an input without a fault has no fault.
  pub front_sound : (scan front).fault ≡ None
  front_sound =
      ap (λ (ls : List NumberedLine). option_or (scan_lines usual_limits.transactions ls).fault (option_or (limit_fault (overrun usual_limits front)) (no_header front (scan_lines usual_limits.transactions ls).header))) lines
      ∙ ap (λ (o : Option (ℕ × Cause)). option_or o (option_or (limit_fault (overrun usual_limits front)) (no_header front sc.header))) no_line
      ∙ ap (λ (o : Option LineFault). option_or (limit_fault o) (no_header front sc.header)) within
      ∙ ap (λ (o : Option (Lined Header)). no_header front o) header_there

  -- The records of a prefix of an input are its first records.
  pub front_records : Begins (scan front).records (scan (front ++ back)).records
  front_records = (widens.records.0, widens.records.1 ∙ ap (λ (ls : List NumberedLine). (scan_lines usual_limits.transactions ls).records ++ widens.records.0) (sym lines))
