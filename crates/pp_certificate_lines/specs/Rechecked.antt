-- Meaning: what `recheck` prints for an input.
use Rattle.std.specs.Prelude.{◌≡◌, ℕ, nat_lt, List, ◌++◌, length, map, codes, Option, None}
use Rattle.std.specs.Prelude.{Some, if◌then◌else◌}
use Rattle.std.specs.Fmt.{decimal}
use Rattle.std.specs.Io.KnownBytes.{Consumes}
use Rattle.std.specs.List.{flat_map}
use Rattle.pp_core.specs.Catalogs.{Objects}
use Rattle.pp_core.specs.declared.call.Kind.{Kind}
use Rattle.pp_core.specs.declared.status.Status.{Status}
use Rattle.pp_core.specs.declared.status.Status.TheVariants as statuses
use Rattle.pp_input.specs.Limits.{usual_limits}
use Rattle.pp_input.specs.Overruns.{early_lines, overrun, scanned_lines}
use Rattle.pp_objects.specs.Objects.{objects}
use Rattle.pp_objects.specs.declared.act.Op.{Op}
use Rattle.pp_objects.specs.declared.states.ObjectState.{ObjectState}
use Rattle.pp_text.specs.Texts.{answer_bytes}
use Rattle.pp_input_reader.specs.FaultTexts.{fault_text}
use Rattle.pp_input_reader.specs.Limits.{limit_fault}
use Rattle.pp_input_reader.specs.declared.cause.Cause.{Cause}
use Rattle.pp_input_reader.specs.declared.cause.Cause.TheVariants as causes
use Rattle.pp_certificate_checker.specs.declared.refusal.Refusal.{Refusal}
use Rattle.pp_certificate_checker.specs.declared.refusal.Refusal.TheVariants.{NotCertificate, Gives, Position, Pair}
use Rattle.pp_certificate_checker.specs.declared.shown.Shown.{Shown}
use Rattle.pp_certificate_checker.specs.Certificates.{Stage, Fresh, Verdict, Holds, Refused, IsVerdictOf}
use Rattle.pp_certificate_checker.specs.Laws.{Leads, ShowsAllowed}
use Rattle.pp_certificate_checker.specs.Own.{ShowsOwn}
use Rattle.pp_text.specs.Lines.{line, op_line, state_lines}
use Rattle.pp_certificate_lines.specs.Reading.{objects_in, reader_of}

-- The lines of an input before the one that exceeds a limit.
abbrev pub texts : List ℕ → List (List ℕ)
texts bytes = map (λ numbered. numbered.1) (scanned_lines usual_limits bytes)

-- Those of them that no further byte can change.
abbrev pub early_texts : List ℕ → List (List ℕ)
early_texts bytes = map (λ numbered. numbered.1) (early_lines usual_limits bytes)

-- The result of checking an input as a certificate.
pub data Checked : Type 0 where
  -- This line has a fault.
  Faulty : (at_line : ℕ) → (cause : Cause) → Checked
  -- This line is refused.
  Refuses : (at_line : ℕ) → (why : Refusal) → Checked
  -- The input is a certificate, and this is what it shows.
  Shows : Shown (List Kind) (List ObjectState) Op → Checked

-- A line that is not of the form of its place is at fault.
abbrev pub refused_at : ℕ → Refusal → Checked
refused_at n NotCertificate = Faulty n causes.NotCertificate
refused_at n (Gives id answer) = Refuses n (Gives id answer)
refused_at n Position = Refuses n Position
refused_at n (Pair first second) = Refuses n (Pair first second)

-- The result of an input, from the limit that it exceeds and the verdict on the lines before that.
-- The first line that is refused or has a fault decides. If only the end is missing, the limit
-- decides.
abbrev pub checked : Option (ℕ × Cause) → ℕ → Verdict (List Kind) (List ObjectState) Op → Checked
checked None count (Holds h) = Shows h
checked None count (Refused n why) = refused_at n why
checked (Some limit) count (Holds h) = Faulty limit.0 limit.1
checked (Some limit) count (Refused n why) =
    if nat_lt count n then Faulty limit.0 limit.1 else refused_at n why

-- The result of this input, from the verdict on its lines and the limit that it exceeds.
abbrev pub IsChecked : List ℕ → Checked → Type 0
IsChecked bytes found =
    (v : Verdict (List Kind) (List ObjectState) Op)
    × IsVerdictOf objects (reader_of (texts bytes)) (texts bytes) v
    × (found ≡ checked (limit_fault (overrun usual_limits bytes)) (length (texts bytes)) v)

-- The part of a report that says which line is refused.
abbrev pub refused_place : ℕ → List ℕ
refused_place n = codes "refused line " ++ decimal n

-- The report of a refused line. A line that is not of the form of its place has that of a fault.
abbrev pub refused_text : ℕ → Refusal → List ℕ
refused_text n NotCertificate = fault_text n causes.NotCertificate
refused_text n (Gives id answer) =
    line (refused_place n ++ codes " entry " ++ decimal id ++ codes " gives "
    ++ answer_bytes answer)
refused_text n Position = line (refused_place n ++ codes " position")
refused_text n (Pair first second) =
    line (refused_place n ++ codes " pair " ++ decimal first ++ codes " " ++ decimal second)

-- The first line for what a certificate shows: how many entries, exchanges and serial entries.
abbrev pub holds_line : ℕ → ℕ → ℕ → List ℕ
holds_line operations swaps serial =
    line (codes "holds operations " ++ decimal operations ++ codes " swaps " ++ decimal swaps
    ++ codes " serial " ++ decimal serial)

-- the report of a certificate: its serial entries, and the state after them
abbrev pub holds_text : Objects → Shown (List Kind) (List ObjectState) Op → List ℕ
holds_text catalog h =
    holds_line h.operations h.swaps (length h.serial) ++ flat_map (op_line catalog) h.serial
    ++ state_lines catalog h.state

-- The status and the text of a result.
abbrev pub IsCheckedTold : Objects → Checked → Status → List ℕ → Type 0
IsCheckedTold catalog (Faulty n cause) status text =
    (status ≡ statuses.InputFault) × (text ≡ fault_text n cause)
IsCheckedTold catalog (Refuses n why) status text =
    (status ≡ statuses.Rejected) × (text ≡ refused_text n why)
IsCheckedTold catalog (Shows h) status text =
    (status ≡ statuses.Accepted) × (text ≡ holds_text catalog h)

-- The status and the text of `recheck` for an input.
abbrev pub IsRecheck : List ℕ → Status → List ℕ → Type 0
IsRecheck bytes status text =
    (found : Checked) × IsChecked bytes found
    × IsCheckedTold (objects_in (texts bytes)) found status text

-- The list that is shown is allowed, and leads to the state that is shown. It is that of the
-- entries of the input, exchanged as its lines say.
abbrev pub IsSoundOf : List ℕ → Shown (List Kind) (List ObjectState) Op → Type 0
IsSoundOf bytes h =
    ShowsAllowed objects h × ShowsOwn objects (reader_of (texts bytes)) (texts bytes) h

-- The input is an accepted certificate, and what it shows is sound.
abbrev pub IsCheckedSound : List ℕ → Type 0
IsCheckedSound bytes =
    (h : Shown (List Kind) (List ObjectState) Op) × IsChecked bytes (Shows h) × IsSoundOf bytes h

-- What was read exceeds no limit, and each line that no further byte can change is taken.
abbrev pub RecheckReadsNoFault : Option (List ℕ) → Option (List ℕ) → Type 0
RecheckReadsNoFault old new =
    (bytes : List ℕ) × Consumes old new bytes × (overrun usual_limits bytes ≡ None)
    × ((s : Stage (List Kind) Op)
    × Leads objects (reader_of (early_texts bytes)) Fresh (early_texts bytes) s)
