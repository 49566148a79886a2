-- Proof machinery: the lines of an input, and the result of checking it as a certificate.
use Rattle.std.proofs.Common.{◌≡◌, ◌≤◌, ◌+◌, ◌⊎◌, ℕ, Bool, cond, List, length, Option, None, Some}
use Rattle.std.proofs.Common.{refl, sym, ap, subst, ◌∙◌, arith, inl, inr, lt-ltb, le-ltb}
use Rattle.std.specs.Io.KnownBytes.{IsAtEnd}
use Rattle.std.proofs.lemmas.List.{length-append}
use Rattle.pp_core.specs.Catalogs.{Objects}
use Rattle.pp_core.specs.declared.call.Kind.{Kind}
use Rattle.pp_input.specs.Limits.{usual_limits}
use Rattle.pp_input.specs.Lines.{NumberedLine}
use Rattle.pp_input.specs.Overruns.{overrun, scanned_lines}
use Rattle.pp_objects.specs.Objects.{objects}
use Rattle.pp_objects.specs.declared.act.Op.{Op}
use Rattle.pp_objects.specs.declared.states.ObjectState.{ObjectState}
use Rattle.pp_input_reader.specs.Limits.{limit_fault}
use Rattle.pp_input_reader.specs.Takers.{CountsTo, HasInputFault, ReadsAll, ReadsSoFar}
use Rattle.pp_input_reader.specs.declared.cause.Cause.{Cause}
use Rattle.pp_input_reader.proofs.Takers.{taken_all}
use Rattle.pp_certificate_checker.specs.declared.refusal.Refusal.{Refusal}
use Rattle.pp_certificate_checker.specs.declared.refusal.Refusal.TheVariants.{NotCertificate}
use Rattle.pp_certificate_checker.specs.declared.shown.Shown.{Shown}
use Rattle.pp_certificate_checker.specs.Certificates.{Stage, Fresh}
use Rattle.pp_certificate_checker.specs.Certificates.{Verdict, Holds, Refused, IsClosing, IsVerdictOf, shown_at}
use Rattle.pp_certificate_checker.specs.Laws.{Leads}
use Rattle.pp_certificate_lines.specs.Checkings.{read_in, Covers}
use Rattle.pp_certificate_lines.specs.Reading.{objects_in, reader, reader_of}
use Rattle.pp_certificate_lines.specs.Rechecked.{texts, early_texts, Faulty, Shows, refused_at, checked}
use Rattle.pp_certificate_lines.specs.Rechecked.{IsChecked, RecheckReadsNoFault}
use Rattle.pp_certificate_lines.specs.Takers.{check_reading}
use Rattle.pp_certificate_lines.specs.declared.checking.Checking.{Checking}
use Rattle.pp_certificate_lines.specs.declared.checking.Checking.TheVariants.{Before, Within}
use Rattle.pp_certificate_lines.specs.declared.taker.CheckFault.{CheckFault}
use Rattle.pp_certificate_lines.specs.declared.taker.CheckFault.TheVariants as faults
use Rattle.pp_certificate_lines.proofs.Checkings.{covered_verdict, named_here}
use Rattle.pp_certificate_lines.proofs.Takers.{covers_count, length-bare}
use Rattle.pp_cmd_recheck.specs.Costs.{CheckCostsAtMost}
use Rattle.pp_cmd_recheck.specs.CheckedInputs.{ChecksInput, ChecksLines, faulty_at}
use Rattle.pp_cmd_recheck.specs.declared.check_input.CheckedInput.{CheckedInput}
use Rattle.pp_cmd_recheck.specs.declared.check_input.CheckedInput.TheVariants as inputs

abbrev Found : Type 0
Found = Verdict (List Kind) (List ObjectState) Op

-- ---- a line that is refused, or a limit that is exceeded
module _ (count at : ℕ) (why : Refusal) (within : at ≤ count) where
  -- No limit is exceeded before the refused line.
  refused_first : (limit : Option (ℕ × Cause))
      → refused_at at why ≡ checked limit count (Refused at why)
  refused_first None = refl
  refused_first (Some limit) =
      sym (ap (λ (b : Bool). cond b (Faulty limit.0 limit.1) (refused_at at why))
      (le-ltb count at within))

module _ (lines : List (List ℕ)) (now : Checking) (cov : Covers lines now) (limit : ℕ × Cause) where
  -- If all lines are taken, a limit that is exceeded is the result.
  limit_by : (o : Option (Shown (List Kind) (List ObjectState) Op))
      → shown_at objects (read_in now).stage ≡ o
      → (v : Found) × IsVerdictOf objects (reader_of lines) lines v
      × (Faulty limit.0 limit.1 ≡ checked (Some limit) (length lines) v)
  limit_by None e = (
    Refused (1 + length lines) NotCertificate,
    covered_verdict lines now cov (Refused (1 + length lines) NotCertificate)
        (subst (λ (h : Option (Shown (List Kind) (List ObjectState) Op)).
        IsClosing (1 + length lines) h (Refused (1 + length lines) NotCertificate)) (sym e) refl),
    sym (ap (λ (b : Bool). cond b (Faulty limit.0 limit.1)
        (refused_at (1 + length lines) NotCertificate))
        (lt-ltb (length lines) (1 + length lines) (omega arith))),
  )
  limit_by (Some h) e = (
    Holds h,
    covered_verdict lines now cov (Holds h)
        (subst (λ (g : Option (Shown (List Kind) (List ObjectState) Op)).
        IsClosing (1 + length lines) g (Holds h)) (sym e) refl),
    refl,
  )

  limit_told : (v : Found) × IsVerdictOf objects (reader_of lines) lines v
      × (Faulty limit.0 limit.1 ≡ checked (Some limit) (length lines) v)
  limit_told = limit_by (shown_at objects (read_in now).stage) refl

-- The result of the input is its first fault.
fault_is : (first : ℕ) (bytes : List ℕ) (at : ℕ) (fault : CheckFault)
    → HasInputFault (check_reading first) bytes at fault → IsChecked bytes (faulty_at at fault)
fault_is first bytes at (faults.Cause cause) (inl h) = absurd h
fault_is first bytes at (faults.Refusal why) (inl h) = (
  Refused at why,
  h.1,
  refused_first (length (texts bytes)) at why h.0 (limit_fault (overrun usual_limits bytes)),
)
fault_is first bytes at fault (inr (taker, leads, (cause, is, same))) =
    let told = limit_told (texts bytes) taker.0 leads.0 (at, cause) in
    let found : faulty_at at fault ≡ Faulty at cause =
    ap (λ (f : CheckFault). faulty_at at f) same in (
      told.0,
      told.1,
      found ∙ told.2 ∙ ap (λ (o : Option (ℕ × Cause)). checked o (length (texts bytes)) told.0)
          (sym is),
    )

-- If the reading of an input finds a fault on a line, the check of the input finds it too.
pub fault_found : (first : ℕ) (old : Option (List ℕ)) (at : ℕ) (fault : CheckFault)
    → ((bytes : List ℕ) → old ≡ Some bytes → HasInputFault (check_reading first) bytes at fault)
    → (bytes : List ℕ) → old ≡ Some bytes → IsChecked bytes (faulty_at at fault)
fault_found first old at fault h bytes is = fault_is first bytes at fault (h bytes is)

-- ---- all lines are taken
module _ (bytes : List ℕ) (none : overrun usual_limits bytes ≡ None) where
  -- No limit is exceeded.
  unlimited : (v : Found)
      → checked None (length (texts bytes)) v
      ≡ checked (limit_fault (overrun usual_limits bytes)) (length (texts bytes)) v
  unlimited v =
      ap (λ (o : Option (ℕ × Cause)). checked o (length (texts bytes)) v)
      (sym (ap limit_fault none))

  checks_fault : (at : ℕ) (fault : CheckFault)
      → ChecksLines (texts bytes) (inputs.Fault at fault) → IsChecked bytes (faulty_at at fault)
  checks_fault at (faults.Cause cause) h = absurd h
  checks_fault at (faults.Refusal why) h =
      (Refused at why, h, unlimited (Refused at why))

module _ (first now : ℕ) (old new : Option (List ℕ)) (checking : Checking)
    (all : ReadsAll (check_reading first) old new (checking, now)) (end : IsAtEnd new) where
  same_bytes : (bytes : List ℕ) → old ≡ Some bytes → all.0 ≡ bytes
  same_bytes bytes is = taken_all old new all.0 bytes all.1 end is

  -- If all lines were taken, the result of the lines is the result of the input.
  pub all_found : (input : CheckedInput)
      → ((lines : List (List ℕ)) → Covers lines checking → ChecksLines lines input)
      → ChecksInput old new input
  all_found (inputs.Fault at fault) h = λ bytes is.
      subst (λ (bs : List ℕ). IsChecked bs (faulty_at at fault)) (same_bytes bytes is)
      (checks_fault all.0 all.2 at fault (h (texts all.0) all.3.0))
  all_found (inputs.Shows catalog shown) h =
      let c = h (texts all.0) all.3.0 in (
        end,
        c.2,
        λ bytes is. subst (λ (bs : List ℕ). IsChecked bs (Shows shown)
            × (objects_in (texts bs) ≡ catalog)) (same_bytes bytes is)
            ((Holds shown, c.0, unlimited all.0 all.2 (Holds shown)), c.1),
      )

  -- The cost with that of the end.
  pub all_cost : (more : ℕ) → more ≤ now + (read_in checking).lines
      → (bytes : List ℕ) → old ≡ Some bytes → CheckCostsAtMost bytes first more
  all_cost more h bytes is =
      subst (λ (bs : List ℕ). CheckCostsAtMost bs first more) (same_bytes bytes is)
      (omega (
        arith,
        h,
        all.3.1,
        covers_count (texts all.0) checking all.3.0,
        length-bare (scanned_lines usual_limits all.0),
      ))

-- ---- what the counter shows
pub counted : (first new : ℕ) (bytes : List ℕ)
    → CountsTo (check_reading first) (scanned_lines usual_limits bytes) new → CheckCostsAtMost bytes first new
counted first new bytes c =
    omega (
      arith,
      at_most c.3,
      length-append c.0 c.1,
      ap (λ (ls : List NumberedLine). length ls) c.2,
      length-bare (scanned_lines usual_limits bytes),
    )
  where
    at_most : ((taker : Checking) × (check_reading first).Leads c.0 (taker, new))
        ⊎ (check_reading first).Stops c.0 new → new ≤ first + length c.0
    at_most (inl h) = h.1.1
    at_most (inr h) = h

-- ---- a read that failed
covered_leads : (lines : List (List ℕ)) (now : Checking) → Covers lines now
    → (s : Stage (List Kind) Op) × Leads objects (reader_of lines) Fresh lines s
covered_leads lines (Before v) cov = (v.stage, cov.leads (objects_in lines))
covered_leads lines (Within catalog v) cov = (
  v.stage,
  subst (λ (os : Objects). Leads objects (reader os) Fresh lines v.stage)
      (sym (named_here lines catalog v cov)) cov.leads,
)

-- If the lines that were read can be taken within the limits, they have no fault that no further byte can change.
pub reads_no_fault : (first : ℕ) (old new : Option (List ℕ))
    → ReadsSoFar (check_reading first) old new → RecheckReadsNoFault old new
reads_no_fault first old new (bytes, read, none, (taker, leads)) =
    (bytes, read, none, covered_leads (early_texts bytes) taker.0 leads.0)
