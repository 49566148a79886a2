-- Proof machinery: the lines of an input, taken one after another as those of a certificate.
use Rattle.std.proofs.Common.{◌≡◌, ◌≤◌, ◌+◌, ℕ, List, [], ◌∷◌, ◌++◌, length, sym, ap, subst, ◌∙◌}
use Rattle.std.proofs.Common.{Ok, Err, arith, append_assoc}
use Rattle.std.proofs.lemmas.List.{map-append, length-append, length-map}
use Rattle.pp_core.specs.declared.call.Kind.{Kind}
use Rattle.pp_input.specs.Lines.{NumberedLine}
use Rattle.pp_objects.specs.Objects.{objects}
use Rattle.pp_objects.specs.declared.act.Op.{Op}
use Rattle.pp_input_reader.specs.Takers.{HasFaultBehind, IsNext, LeadsOn}
use Rattle.pp_certificate_checker.specs.declared.refusal.Refusal.{Refusal}
use Rattle.pp_certificate_checker.specs.Certificates.{Stage, Fresh, Entered, Exchanged, Ended}
use Rattle.pp_certificate_checker.specs.Checking.{cost}
use Rattle.pp_certificate_lines.specs.Checkings.{line_in, read_in, Covers, TakesLine}
use Rattle.pp_certificate_lines.specs.Checkings as checkings
use Rattle.pp_certificate_lines.specs.Takers.{bare, HasCheckFault, check_reading, entries_at, entries_in}
use Rattle.pp_certificate_lines.specs.declared.checking.Checking.{Checking}
use Rattle.pp_certificate_lines.specs.declared.checking.Checking.TheVariants.{Before, Within}
use Rattle.pp_certificate_lines.specs.declared.taker.CheckFault.TheVariants as faults
use Rattle.pp_certificate_lines.proofs.Entries.{entries_taken}

-- ---- lines without their numbers
pub length-bare : (lines : List NumberedLine) → length (bare lines) ≡ length lines
length-bare lines = length-map lines (λ (l : NumberedLine). l.1)

bare-append : (xs ys : List NumberedLine) → bare (xs ++ ys) ≡ bare xs ++ bare ys
bare-append xs ys = map-append (λ (l : NumberedLine). l.1) xs ys

-- The number of lines that were taken is the number of the lines so far.
pub covers_count : (lines : List (List ℕ)) (now : Checking) → Covers lines now
    → (read_in now).lines ≡ length lines
covers_count lines (Before v) cov = cov.count
covers_count lines (Within catalog v) cov = cov.count

-- ---- taking the lines one by one

-- Before the first line, no entry was read.
none_at : (first : ℕ) (s : Stage (List Kind) Op) → s ≡ Fresh → first + entries_at s ≤ first
none_at first Fresh e = omega arith
none_at first (Entered shape list) e = absurd (cc)
none_at first (Exchanged shape list count) e = absurd (cc)
none_at first (Ended shape list count n) e = absurd (cc)

none_read : (first : ℕ) (now : Checking) → Covers [] now → first + entries_in now ≤ first
none_read first (Before v) cov = none_at first v.stage cov.fresh
none_read first (Within catalog v) cov = none_at first v.stage cov.leads

-- Before the first line, a new checking has taken no line.
pub leads_nothing : (first : ℕ) (checking : Checking) → Covers [] checking
    → (check_reading first).Leads [] (checking, first)
leads_nothing first checking cov = (cov, omega arith, none_read first checking cov)

module _ (first : ℕ) (from : Checking × ℕ) (line : NumberedLine) where
  -- The number of the next line is one more than the lines that were taken.
  pub next_number : IsNext (check_reading first) from line
      → line.0 ≡ (read_in from.0).lines + 1
  next_number is =
      omega (
        arith,
        is.2,
        length-bare is.0,
        covers_count (bare is.0) from.0 is.1.0,
      )

-- If a line is taken, the checking after it has taken this line too.
pub leads_on : (from : Checking) (now new : ℕ) (line : NumberedLine) (to : Checking)
    → new ≤ now + 1
    → new ≡ now + cost objects (read_in from).stage (line_in from line.1)
    → TakesLine from line.1 (Ok to)
    → ((lines : List (List ℕ)) → Covers lines from
    → checkings.LeadsOn lines line.1 (Ok to))
    → (first : ℕ) → LeadsOn (check_reading first) (from, now) line (to, new)
leads_on from now new line to bound counted takes taken first lines leads = (
  subst (λ (ls : List (List ℕ)). Covers ls to) (sym (bare-append lines (line ∷ [])))
      (taken (bare lines) leads.0),
  omega (arith, bound, leads.1, length-append lines (line ∷ [])),
  let more = entries_taken (read_in from).stage (read_in to).stage
      (line_in from line.1) takes.0.0 in
      omega (arith, counted, leads.2, more),
)

-- If a line is refused, it is the first line that is refused.
pub faulty_here : (from : Checking) (now : ℕ) (line : NumberedLine) (why : Refusal)
    → line.0 ≡ (read_in from).lines + 1
    → ((lines : List (List ℕ)) → Covers lines from
    → checkings.LeadsOn lines line.1 (Err why))
    → (first : ℕ) (lines : List NumberedLine) → (check_reading first).Leads lines (from, now)
    → HasFaultBehind (check_reading first) (lines ++ line ∷ []) line.0 (faults.Refusal why)
faulty_here from now line why number refused first lines leads more =
    let count : line.0 ≡ length (bare lines) + 1 =
    omega (arith, number, covers_count (bare lines) from leads.0) in
    let all : bare ((lines ++ line ∷ []) ++ more) ≡ bare lines ++ line.1 ∷ bare more =
    ap (λ (ls : List NumberedLine). bare ls) (append_assoc lines (line ∷ []) more)
    ∙ bare-append lines (line ∷ more) in
    let there : HasCheckFault (bare lines ++ line.1 ∷ bare more) (length (bare lines) + 1)
    (faults.Refusal why) = (
      omega (arith, length-append (bare lines) (line.1 ∷ bare more)),
      refused (bare lines) leads.0 (bare more),
    ) in
    subst (λ (ls : List (List ℕ)). HasCheckFault ls line.0 (faults.Refusal why)) (sym all)
    (subst (λ n. HasCheckFault (bare lines ++ line.1 ∷ bare more) n (faults.Refusal why))
    (sym count) there)
