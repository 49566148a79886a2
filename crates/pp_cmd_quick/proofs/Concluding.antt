-- The text of a conclusion, and what it costs together with the serial run.
use Rattle.std.specs.Prelude.{◌≡◌, ◌≤◌, ◌<◌, ◌+◌, ℕ, List, length, map, Option, None, Some}
use Rattle.std.proofs.Common.{refl, sym, ap, ◌∙◌, subst, arith}
use mathlib.Core.Logic.{inl, inr}
use Rattle.pp_core.specs.declared.call.Kind.{Kind}
use Rattle.pp_core.specs.declared.entry.CommittedTx.{CommittedTx}
use Rattle.pp_core.specs.declared.status.Status.TheVariants as statuses
use Rattle.pp_records.specs.Records.{RunRecord}
use Rattle.pp_records.specs.Runs.{IsRun, Lined, LinedSteps, Records, bare}
use Rattle.pp_records.proofs.Whole.{one_run_law}
use Rattle.pp_format_read.specs.declared.header.Header.{Header}
use Rattle.pp_model.specs.Config.{Start, Step}
use Rattle.pp_model.specs.Object.{state}
use Rattle.pp_model.specs.Rules.{Accepted}
use Rattle.pp_model.specs.Serial.{Attempt, attempts, committed_tx, serial}
use Rattle.pp_model.specs.Sound.{serial_ops}
use Rattle.pp_model.proofs.Verdict.{accepted_iff}
use Rattle.pp_objects.specs.Objects.{kinds_of, objects}
use Rattle.pp_objects.specs.declared.act.Op.{Op}
use Rattle.pp_objects.specs.declared.states.ObjectState.{ObjectState}
use Rattle.pp_summary.specs.Held.{Held}
use Rattle.pp_summary.specs.Sums.{count_ops}
use Rattle.pp_input_reader.specs.declared.cause.Cause.{Cause}
use Rattle.pp_input_reader.specs.FaultTexts.{fault_text}
use Rattle.pp_kind.specs.Object.{state_after}
use Rattle.pp_judge.specs.Costs.{OfRun, serial_length, start_behind}
use Rattle.pp_judge.specs.Findings as findings
use Rattle.pp_judge.specs.Inputs.{scan}
use Rattle.pp_judge.specs.Objects.{object_of, start_of, translation_of}
use Rattle.pp_judge.specs.Scans.{InputScan}
use Rattle.pp_judge.specs.Tallies.{headed}
use Rattle.pp_judge.specs.declared.progress.Tally.{Tally}
use Rattle.pp_judge.proofs.Concluding.{serial_is}
use Rattle.pp_cmd_quick.specs.Costs.{OfTried, QuickCostsAtLeast, QuickCostsAtMost, RecordsCostAtMost, tried_most}
use Rattle.pp_cmd_quick.specs.Decisions.{Decision, Faulty, IsDecision, IsDecisionBehind, IsDecisionOf, IsDecisionTold, IsQuick, Rejects, acceptance, quick_fault, steps_behind}
use Rattle.pp_cmd_quick.specs.Reports.{quick_accepted_text, quick_rejected_text}
use Rattle.pp_cmd_quick.specs.Taking.{AreGood, HasFailed, quick_judging}
use Rattle.pp_cmd_quick.specs.declared.decider.Decider.{Decider}
use Rattle.pp_cmd_quick.specs.declared.decider.RejectedLine.{RejectedLine}
use Rattle.pp_cmd_quick.specs.DeciderLaws.{all_hold, boosted_fault}
use Rattle.pp_cmd_quick.proofs.Readers.{committed_are}

-- A number that is at most 256 above one of at most 4,294,967,294 is below 4,294,967,552.
pub few_serial : (a b k : ℕ) → a ≡ b → b ≤ k + 256 → k ≤ 4_294_967_294 → a < 4_294_967_552
few_serial a b k x y z = omega (arith, x, y, z)

-- ---- what the summary as a judge concludes

-- If the summary as a judge found the start and the records good, they are good with this Quick.
pub good_of : (sc : InputScan) (tally : Tally) (judge : Decider) → findings.AreGood quick_judging sc tally judge → AreGood sc tally judge.quick
good_of sc tally judge g = record { follows = g.follows; good = g.good }

-- If the summary as a judge rejected the records, the start or a record fails on this line.
pub failed_of : (sc : InputScan) (tally : Tally) (failed : RejectedLine) → findings.AreRejected quick_judging sc tally failed → HasFailed sc tally failed.line
failed_of sc tally failed b = record { follows = b.follows; style = b.bad.0; fails = b.bad.1 }

-- ---- the text

-- The text of the fault of an input is its output, with status input fault.
pub faulty_told : (bytes : List ℕ) (line : ℕ) (cause : Cause) (text : List ℕ) → quick_fault (scan bytes) ≡ Some (line, cause) → text ≡ fault_text line cause → IsQuick bytes statuses.InputFault text
faulty_told bytes line cause text is text_is = (
  Faulty line cause,
  subst (λ (o : Option (ℕ × Cause)). IsDecisionBehind o (scan bytes) (Faulty line cause)) (sym is) refl,
  (refl, text_is),
)

-- If the records have no fault, the decision about them is the decision about the input.
behind_none : (sc : InputScan) (header : Lined Header) (decision : Decision) → quick_fault sc ≡ None → sc.header ≡ Some header → IsDecisionOf header sc.records decision → IsDecision sc decision
behind_none sc header decision none there is = subst (λ (o : Option (ℕ × Cause)). IsDecisionBehind o sc decision) (sym none) (header, there, is)

-- If the start or a record fails on a line, the text that rejects this line is the output.
pub rejected_told : (bytes : List ℕ) (tally : Tally) (line : ℕ) (text : List ℕ) → HasFailed (scan bytes) tally line → text ≡ quick_rejected_text line → IsQuick bytes statuses.Rejected text
rejected_told bytes tally line text c text_is =
    let sc : InputScan = scan bytes in
    let none : quick_fault sc ≡ None = boosted_fault sc (headed c.follows.at tally.header) c.follows.header c.style ∙ c.follows.sound in
    (Rejects line, behind_none sc (headed c.follows.at tally.header) (Rejects line) none c.follows.header (inr (line, c.fails, refl)), (refl, text_is))

-- If the start and the records are good, a text that accepts them is the output.
pub accepted_told : (bytes : List ℕ) (tally : Tally) (quick : Held (List Kind) Op) (text : List ℕ) → AreGood (scan bytes) tally quick
    → IsDecisionTold (scan bytes).header (acceptance tally.header (scan bytes).records) statuses.Accepted text → IsQuick bytes statuses.Accepted text
accepted_told bytes tally quick text c told =
    let sc : InputScan = scan bytes in
    let none : quick_fault sc ≡ None = boosted_fault sc (headed c.follows.at tally.header) c.follows.header c.good.style ∙ c.follows.sound in
    let decision : Decision = acceptance tally.header sc.records in
    (decision, behind_none sc (headed c.follows.at tally.header) decision none c.follows.header (inl (all_hold tally.header sc.records quick c.good, refl)), told)

both_most : (old now new a b n : ℕ) → now ≤ old + a → new ≤ now + n → n ≡ b → new ≤ old + a + b
both_most old now new a b n x y z = omega (arith, x, y, z)

both_least : (old now new a b n : ℕ) → old + a ≤ now → new ≡ now + n → n ≡ b → old + a + b ≤ new
both_least old now new a b n x y z = omega (arith, x, y, z)

module _ (sc : InputScan) (tally : Tally) (quick : Held (List Kind) Op) (c : AreGood sc tally quick) where
  abbrev h : Header
  h = tally.header

  abbrev as' : List (Attempt Op)
  as' = attempts (start_of h) (bare (steps_behind h sc.records))

  -- The text of the transactions that a Quick committed.
  pub acceptance_told : (count : ℕ) (D : List (CommittedTx Op)) (states : List ObjectState) (text : List ℕ) → count ≡ quick.count → D ≡ quick.brief.done
      → states ≡ state_after objects (kinds_of h.catalog) (serial_ops D) → text ≡ quick_accepted_text h.catalog count D states → IsDecisionTold sc.header (acceptance h sc.records) statuses.Accepted text
  acceptance_told count D states text count_is D_is state_is text_is =
      let kinds : List Kind = kinds_of h.catalog in
      let committed : D ≡ map committed_tx as' = D_is ∙ committed_are tally.header sc.records quick c.good in
      let final : List ObjectState = state (object_of h) (serial as') in
      let same : states ≡ final =
      state_is ∙ ap (λ (E : List (CommittedTx Op)). state_after objects kinds (serial_ops E)) committed ∙ ap (λ (l : List Op). state_after objects kinds l) (serial_is as') in (
        refl,
        (
          headed c.follows.at tally.header,
          c.follows.header,
          text_is ∙ ap (λ (n : ℕ). quick_accepted_text h.catalog n D states) (count_is ∙ c.good.read.count)
              ∙ ap (λ (E : List (CommittedTx Op)). quick_accepted_text h.catalog (length sc.records) E states) committed
              ∙ ap (λ (s : List ObjectState). quick_accepted_text h.catalog (length sc.records) (map committed_tx as') s) same,
        ),
      )

  -- ---- the cost of the serial run

  run_is : IsRun (object_of h) (translation_of h) (start_of h) sc.records (steps_behind h sc.records)
  run_is =
      (one_run_law (object_of h) (translation_of h)).told (start_of h) sc.records Accepted
      ((accepted_iff (object_of h) (start_of h) (bare (steps_behind h sc.records))).1 (all_hold tally.header sc.records quick c.good))

  abbrev Serial : Option (Start Op) → List (Step Op) → Type 0
  Serial start steps = length (serial_ops quick.brief.done) ≡ serial_length start steps

  serial_count : OfRun sc.header sc.records (λ start steps. Serial start steps)
  serial_count =
      let all : LinedSteps Op = steps_behind h sc.records in
      let here : Serial (start_of h) (bare all) =
      ap (λ (D : List (CommittedTx Op)). length (serial_ops D)) (committed_are tally.header sc.records quick c.good) ∙ ap (λ (l : List Op). length l) (serial_is as') in
      subst (λ (o : Option (Lined Header)). OfRun o sc.records (λ start steps. Serial start steps)) (sym c.follows.header) (λ run is.
      let same : all ≡ run = (one_run_law (object_of h) (translation_of h)).run (start_of h) sc.records all run run_is is in
      subst (λ (w : LinedSteps Op). Serial (start_of h) (bare w)) same here)

  -- A bound on the records that are tried, and the cost of the serial run, bound the run.
  most_of : (old now new : ℕ) (o : Option (Lined Header)) (rs : Records (RunRecord Op)) → OfTried o rs (λ most. now ≤ old + most) → new ≤ now + length (serial_ops quick.brief.done) → OfRun o rs (λ start steps. Serial start steps)
      → OfTried o rs (λ most. OfRun o rs (λ start steps. new ≤ old + most + serial_length start steps))
  most_of old now new None rs most cost count = λ run is.
      both_most old now new 0 (serial_length None (bare run)) (length (serial_ops quick.brief.done)) most cost (count run is)
  most_of old now new (Some header) rs most cost count = λ tried k run is.
      both_most old now new (tried_most header.what tried) (serial_length (start_of header.what) (bare run)) (length (serial_ops quick.brief.done)) (most tried k) cost (count run is)

  -- Within the upper bound of the records, and up by at most the length of the serial run, the counter is within that of `quick`.
  pub serial_most : (old now new : ℕ) → RecordsCostAtMost sc old now → new ≤ now + length (serial_ops quick.brief.done) → QuickCostsAtMost sc old new
  serial_most old now new most cost = most_of old now new sc.header sc.records most cost serial_count

  -- If the counter rose by one for each operation and by the length of the serial run, it meets the lower bound of an accepted run.
  pub serial_least : (old now new : ℕ) → old + count_ops (bare sc.records) ≤ now → new ≡ now + length (serial_ops quick.brief.done) → QuickCostsAtLeast statuses.Accepted sc old new
  serial_least old now new least cost run is =
      both_least old now new (count_ops (bare sc.records)) (serial_length (start_behind sc.header) (bare run)) (length (serial_ops quick.brief.done)) least cost (serial_count run is)

more_room : (old new a b : ℕ) → new ≤ old + a → new ≤ old + a + b
more_room old new a b x = omega (arith, x)

-- A bound on the records that are tried is a bound without a serial run.
no_serial_of : (old new : ℕ) (o : Option (Lined Header)) (rs : Records (RunRecord Op)) → OfTried o rs (λ most. new ≤ old + most) → OfTried o rs (λ most. OfRun o rs (λ start steps. new ≤ old + most + serial_length start steps))
no_serial_of old new None rs most = λ run is. more_room old new 0 (serial_length None (bare run)) most
no_serial_of old new (Some header) rs most = λ tried k run is. more_room old new (tried_most header.what tried) (serial_length (start_of header.what) (bare run)) (most tried k)

-- If the counter is within the upper bound of the records, it is within that of `quick`.
pub no_serial : (sc : InputScan) (old new : ℕ) → RecordsCostAtMost sc old new → QuickCostsAtMost sc old new
no_serial sc old new most = no_serial_of old new sc.header sc.records most
