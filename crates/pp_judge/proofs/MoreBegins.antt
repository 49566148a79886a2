-- Lines that do not begin too many transactions are scanned the same if more are allowed.
use Rattle.std.specs.Prelude.{◌≡◌, ◌≤◌, ◌⊎◌, ◌+◌, ◌==◌, ◌&&◌, ◌||◌, ℕ, Bool, true, false, List, []}
use Rattle.std.specs.Prelude.{◌∷◌, ◌++◌, cond, fold, is_some, length, Option, None, Some, Result, Ok, Err}
use Rattle.std.proofs.Common.{refl, sym, ap, subst, ◌∙◌, arith}
use Rattle.std.proofs.lemmas.Bool.Decides.{nat_tests}
use mathlib.Core.Logic.{inl, inr}
use Rattle.pp_core.specs.declared.answer.OutOfMemory.{OutOfMemory}
use Rattle.pp_records.specs.Records.{RunRecord}
use Rattle.pp_records.specs.Runs.{Lined}
use Rattle.pp_objects.specs.declared.act.Op.{Op}
use Rattle.pp_input.specs.Lines.{NumberedLine, blank}
use Rattle.pp_format_read.specs.declared.fault.RecordFault.{RecordFault}
use Rattle.pp_format_read.specs.declared.header.Header.{Header}
use Rattle.pp_format_read.specs.Headers.{header_of}
use Rattle.pp_format_read.specs.Records.{record_of}
use Rattle.pp_input_reader.specs.declared.cause.Cause.{Cause}
use Rattle.pp_input_reader.specs.declared.cause.Cause.TheVariants.{TooManyTransactions}
use Rattle.pp_judge.specs.Causes.{cause_of}
use Rattle.pp_judge.specs.Scans.{InputScan, begins, is_begin_record, read_line, scan_line}
use Rattle.pp_judge.specs.Scans.{with_fault, with_header, with_next, with_record}
use Rattle.pp_judge.proofs.Scanning.{next_taken, too_many}
use Rattle.pp_judge.proofs.Stating.{begins_append}
use Rattle.pp_judge.proofs.Widening.{stays}

-- the fault is that too many transactions begin
abbrev pub HasTooMany : InputScan → Type 0
HasTooMany sc = (line : ℕ) × (sc.fault ≡ Some (line, TooManyTransactions))

-- no more transactions begin than so many
abbrev pub BeginsAtMost : ℕ → InputScan → Type 0
BeginsAtMost most sc = begins sc.records ≤ most

-- too many begin, or if more are allowed it is the same, and no more begin
abbrev Agrees : ℕ → InputScan → InputScan → Type 0
Agrees narrow slim fat = HasTooMany slim ⊎ ((fat ≡ slim) × BeginsAtMost narrow slim)

few_fault : (most : ℕ) (sc : InputScan) (line : ℕ) (r : Result Cause OutOfMemory) → BeginsAtMost most sc → BeginsAtMost most (with_fault sc line r)
few_fault most sc line (Ok cause) few = few
few_fault most sc line (Err refused) few = few

few_header : (most : ℕ) (sc : InputScan) (line : ℕ) (r : Result Header RecordFault) → BeginsAtMost most sc → BeginsAtMost most (with_header sc line r)
few_header most sc line (Ok header) few = few
few_header most sc line (Err fault) few = few_fault most sc line (cause_of fault) few

-- a record that is not too many under the narrow limit is not under the wide one
not_many : (narrow wide : ℕ) (b : Bool) (k : ℕ) → narrow ≤ wide → k ≤ narrow → (b && k == narrow) ≡ false → (b && k == wide) ≡ false
not_many narrow wide true k le few test = more narrow wide k le few test
  where
    more : (narrow wide k : ℕ) → narrow ≤ wide → k ≤ narrow → (k == narrow) ≡ false → (k == wide) ≡ false
    more narrow wide k le few test = grind (arith, nat_tests)
not_many narrow wide false k le few test = refl

one_begun : (most : ℕ) (b : Bool) (k : ℕ) (r : Lined (RunRecord Op)) → k ≤ most → (b && k == most) ≡ false → k + length (cond b (r ∷ []) []) ≤ most
one_begun most true k r few test = less most k few test
  where
    less : (most k : ℕ) → k ≤ most → (k == most) ≡ false → k + 1 ≤ most
    less most k few test = grind (arith, nat_tests)
one_begun most false k r few test = omega (arith, few)

few_next : (most : ℕ) (sc : InputScan) (line : ℕ) (r : RunRecord Op) → BeginsAtMost most sc → (is_begin_record r && begins sc.records == most) ≡ false → BeginsAtMost most (with_next sc line r)
few_next most sc line r few test =
    let it : Lined (RunRecord Op) = record { line = line; what = r } in
    subst (λ (n : ℕ). n ≤ most) (sym (begins_append sc.records (it ∷ []))) (one_begun most (is_begin_record r) (begins sc.records) it few test)

module _ (narrow wide : ℕ) (le : narrow ≤ wide) where
  record_agrees : (sc : InputScan) (line : ℕ) (r : Result (RunRecord Op) RecordFault) → BeginsAtMost narrow sc → Agrees narrow (with_record narrow sc line r) (with_record wide sc line r)
  record_agrees sc line (Err fault) few = inr (refl, few_fault narrow sc line (cause_of fault) few)
  record_agrees sc line (Ok r) few = by (is_begin_record r && begins sc.records == narrow) refl
    where
      by : (b : Bool) → (is_begin_record r && begins sc.records == narrow) ≡ b → Agrees narrow (with_record narrow sc line (Ok r)) (with_record wide sc line (Ok r))
      by true test = inl (line, ap (λ (s : InputScan). s.fault) (too_many narrow sc line r test))
      by false test =
          let slim : with_record narrow sc line (Ok r) ≡ with_next sc line r = next_taken narrow sc line r test in
          let fat : with_record wide sc line (Ok r) ≡ with_next sc line r = next_taken wide sc line r (not_many narrow wide (is_begin_record r) (begins sc.records) le few test) in
          inr (fat ∙ sym slim, subst (BeginsAtMost narrow) (sym slim) (few_next narrow sc line r few test))

  read_agrees : (sc : InputScan) (o : Option (Lined Header)) (line : NumberedLine) → BeginsAtMost narrow sc → Agrees narrow (read_line narrow sc o line) (read_line wide sc o line)
  read_agrees sc None line few = inr (refl, few_header narrow sc line.0 (header_of line.1) few)
  read_agrees sc (Some header) line few = record_agrees sc line.0 (record_of header.what line.1) few

  line_agrees : (sc : InputScan) (line : NumberedLine) → BeginsAtMost narrow sc → Agrees narrow (scan_line narrow sc line) (scan_line wide sc line)
  line_agrees sc line few = by (is_some sc.fault || blank line.1)
    where
      by : (b : Bool) → Agrees narrow (cond b sc (read_line narrow sc sc.header line)) (cond b sc (read_line wide sc sc.header line))
      by true = inr (refl, few)
      by false = read_agrees sc sc.header line few

  -- the same lines after a scan that is the same
  behind : (slim fat : InputScan) (lines : List NumberedLine) → fat ≡ slim → HasTooMany (fold (scan_line narrow) slim lines) ⊎ (fold (scan_line wide) slim lines ≡ fold (scan_line narrow) slim lines)
      → HasTooMany (fold (scan_line narrow) slim lines) ⊎ (fold (scan_line wide) fat lines ≡ fold (scan_line narrow) slim lines)
  behind slim fat lines same (inl many) = inl many
  behind slim fat lines same (inr agree) = inr (ap (λ (s : InputScan). fold (scan_line wide) s lines) same ∙ agree)

  too_many_stays : (sc : InputScan) (lines : List NumberedLine) → HasTooMany sc → HasTooMany (fold (scan_line narrow) sc lines)
  too_many_stays sc lines (line, is) = (line, ap (λ (s : InputScan). s.fault) (stays narrow sc (line, TooManyTransactions) lines is) ∙ is)

  -- lines of which too many begin a transaction, or which are scanned the same if more may
  pub lines_agree : (sc : InputScan) (lines : List NumberedLine) → BeginsAtMost narrow sc
      → HasTooMany (fold (scan_line narrow) sc lines) ⊎ (fold (scan_line wide) sc lines ≡ fold (scan_line narrow) sc lines)
  lines_agree sc [] few = inr refl
  lines_agree sc (line ∷ lines) few = elim (line_agrees sc line few) [
    | inl many ↦ inl (too_many_stays (scan_line narrow sc line) lines many)
    | inr one ↦ behind (scan_line narrow sc line) (scan_line wide sc line) lines one.0 (lines_agree (scan_line narrow sc line) lines one.1)
  ]
