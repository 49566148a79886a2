-- Proof machinery: the text for a configuration, and for an input.
use Rattle.std.proofs.Common.{◌≡◌, ◌<◌, ◌≤◌, ℕ, List, length, refl, sym, ap, subst, ◌∙◌, arith}
use Rattle.std.proofs.Common.{inl, inr, Some, ◌+◌, ◌++◌, map}
use Rattle.std.proofs.lemmas.List.{length-map}
use Rattle.pp_core.specs.Catalogs.{Objects}
use Rattle.pp_core.specs.declared.call.Kind.{Kind}
use Rattle.pp_core.specs.declared.entry.CommittedTx.{CommittedTx}
use Rattle.pp_core.specs.declared.entry.Item.{Item}
use Rattle.pp_core.specs.declared.limits.TheConstants.{MOST_SWAPS}
use Rattle.pp_core.specs.declared.status.Status.{Status}
use Rattle.pp_core.specs.declared.status.Status.TheVariants as statuses
use Rattle.pp_records.specs.Runs.{Lined, LinedSteps}
use Rattle.pp_input.specs.Joined.{joined_lines}
use Rattle.pp_format_read.specs.declared.header.Header.{Header}
use Rattle.pp_format_write.specs.Statable.{AreWritable}
use Rattle.pp_model.specs.Config.{Config, SharedEntry, shared_item, shared_ops, uncommitted}
use Rattle.pp_model.specs.Sound.{Sound, serial_items, serial_ops}
use Rattle.pp_model.proofs.Lengths.{serial_fits}
use Rattle.pp_objects.specs.Objects.{kinds_of, objects}
use Rattle.pp_objects.specs.declared.act.Op.{Op}
use Rattle.pp_objects.specs.laws.Objects.{objects_lawful}
use Rattle.pp_report.specs.Reports.{accepted_text}
use Rattle.pp_machine.specs.Machines.{Seen}
use Rattle.pp_kind.specs.Object.{AllRanged, rules_of, state_after}
use Rattle.pp_certificate_exchanges.specs.Exchanges.{inverted, route}
use Rattle.pp_certificate_exchanges.specs.Laws.{log_of, target_of}
use Rattle.pp_certificate_checker.specs.Laws.{certificate}
use Rattle.pp_input_reader.specs.FaultTexts.{fault_text}
use Rattle.pp_input_reader.specs.declared.cause.Cause.{Cause}
use Rattle.pp_certificate_lines.specs.Lines.{line_bytes}
use Rattle.pp_judge.specs.Accepted.{HasRun}
use Rattle.pp_judge.specs.Certified.{IsDecided}
use Rattle.pp_judge.specs.Inputs.{IsFaultOf, scan}
use Rattle.pp_judge.specs.Running.{IsRejected, IsRunning}
use Rattle.pp_judge.specs.Reports.{IsRunTold}
use Rattle.pp_judge.specs.Scans.{InputScan}
use Rattle.pp_judge.specs.declared.driven.Rejection.{Rejection}
use Rattle.pp_judge.specs.declared.progress.Tally.{Tally}
use Rattle.pp_judge.proofs.Concluding.{accepted_told, fault_report, run_report}
use Rattle.pp_judge.proofs.Running.{is_run_so_far, run_so_far}
use Rattle.pp_judge.proofs.Running.{config_is, rejected_sound, running_sound}
use Rattle.pp_cmd_swaps.proofs.Targeting.{fit}
use Rattle.pp_cmd_swaps.specs.Swaps.{IsSwaps, IsTold, too_large_text}

-- ---- a configuration

-- The collected entries are the shared log and its target.
module _ (c : Config Op) (shape : List Kind) (pair : List Kind × List (SharedEntry Op)) (entries : List (SharedEntry Op)) (shared : pair ≡ (shape, c.shared)) (all : entries ≡ pair.1) where
  entries_are : entries ≡ c.shared
  entries_are = all ∙ ap (λ (p : List Kind × List (SharedEntry Op)). p.1) shared

  -- The operations of the machine's shared log are those of the configuration's.
  pub log_is : (log : List (Item Op)) → log ≡ map shared_item entries → log ≡ log_of c
  log_is log is = is ∙ ap (λ (G : List (SharedEntry Op)). map shared_item G) entries_are

  -- The serial run and then the uncommitted operations are the target of the configuration.
  pub target_is : (front target : List (Item Op)) → front ≡ serial_items c.done → target ≡ front ++ map shared_item (uncommitted entries) → target ≡ target_of c
  target_is front target done is =
      is ∙ ap (λ (l : List (Item Op)). l ++ map shared_item (uncommitted entries)) done ∙ ap (λ (G : List (SharedEntry Op)). serial_items c.done ++ map shared_item (uncommitted G)) entries_are

-- The operations of the committed transactions are those of the configuration's serial run.
pub done_is : (c : Config Op) (committed slice : List (CommittedTx Op)) (front : List (Item Op)) → committed ≡ c.done → slice ≡ committed → front ≡ serial_items slice → front ≡ serial_items c.done
done_is c committed slice front done same is = is ∙ ap (λ (D : List (CommittedTx Op)). serial_items D) (same ∙ done)

-- The log has at most 200,256 entries.
pub few_entries : (c : Config Op) (count : ℕ) (log : List (Item Op)) → length c.shared ≤ count + 256 → count ≤ 200_000 → log ≡ log_of c → length log ≤ 200_256
few_entries c count log short few is = omega (arith, short, few, ap (λ (l : List (Item Op)). length l) is, length-map c.shared (shared_item {Op = Op}))

-- With at most 200,000 steps, the serial run of a sound configuration has at most 200,256 operations.
pub few_serial : (c : Config Op) (shape : List Kind) (count : ℕ) (front : List (Item Op)) → Sound (rules_of objects shape) c → length c.shared ≤ count + 256 → count ≤ 200_000 → front ≡ serial_items c.done → length front ≤ 200_256
few_serial c shape count front sound short few is =
    omega (arith, short, few, ap (λ (l : List (Item Op)). length l) is, serial_fits (rules_of objects shape) c sound, length-map (serial_items c.done) (λ (p : Item Op). p.op))

-- Each entry can be written.
pub writable : (catalog : Objects) (c : Config Op) (shape : List Kind) (pair : List Kind × List (SharedEntry Op)) (log : List (Item Op)) → shape ≡ kinds_of catalog → Sound (rules_of objects shape) c → pair ≡ (shape, c.shared)
    → AllRanged objects (shared_ops pair.1) → log ≡ log_of c → AreWritable catalog log
writable catalog c shape pair log over sound shared ranged is =
    let over_these : Sound (rules_of objects (kinds_of catalog)) c = subst (λ (k : List Kind). Sound (rules_of objects k) c) over sound in
    let all : AllRanged objects (shared_ops c.shared) = subst (λ (p : List Kind × List (SharedEntry Op)). AllRanged objects (shared_ops p.1)) shared ranged in
    subst (λ (l : List (Item Op)). AreWritable catalog l) (sym is) (fit objects objects_lawful (kinds_of catalog) c over_these all)

module _ (catalog : Objects) (c : Config Op) (log target : List (Item Op)) (log_as : log ≡ log_of c) (target_as : target ≡ target_of c) where
  count_is : inverted log target ≡ inverted (log_of c) (target_of c)
  count_is = ap (λ (l : List (Item Op)). inverted l target) log_as ∙ ap (λ (l : List (Item Op)). inverted (log_of c) l) target_as

  route_is : route log target ≡ route (log_of c) (target_of c)
  route_is = ap (λ (l : List (Item Op)). route l target) log_as ∙ ap (λ (l : List (Item Op)). route (log_of c) l) target_as

  abbrev written : List (Item Op) → List ℕ → ℕ → List ℕ
  written l is n = joined_lines (certificate (line_bytes catalog) (kinds_of catalog) l is n)

  -- If the exchanges are not too many, the certificate of the log and its route is the text, with status accepted.
  pub small_told : (entries : List (Item Op)) (positions : List ℕ) (n : ℕ) (text : List ℕ) → inverted log target ≤ MOST_SWAPS → entries ≡ log → positions ≡ route log target → n ≡ length (serial_items c.done)
      → text ≡ joined_lines (certificate (line_bytes catalog) (kinds_of catalog) entries positions n) → IsTold catalog c statuses.Accepted text
  small_told entries positions n text few entries_as positions_as n_is text_is = inl (
    subst (λ (m : ℕ). m ≤ MOST_SWAPS) count_is few,
    refl,
    text_is ∙ ap (λ (l : List (Item Op)). written l positions n) (entries_as ∙ log_as) ∙ ap (λ (is : List ℕ). written (log_of c) is n) (positions_as ∙ route_is)
        ∙ ap (λ (m : ℕ). written (log_of c) (route (log_of c) (target_of c)) m) n_is,
  )

  -- If the exchanges are too many, the line that reports their number is the text, with status too large.
  pub large_told : (count : ℕ) (text : List ℕ) → count ≡ inverted log target → MOST_SWAPS < inverted log target → text ≡ too_large_text count → IsTold catalog c statuses.TooLarge text
  large_told count text is many text_is = inr (
    subst (λ (m : ℕ). MOST_SWAPS < m) count_is many,
    refl,
    text_is ∙ ap (λ (m : ℕ). too_large_text m) (is ∙ count_is),
  )

-- ---- an input

-- The text of the fault of an input is its output, with status input fault.
pub fault_swaps : (bytes : List ℕ) (line : ℕ) (cause : Cause) (text : List ℕ) → IsFaultOf (scan bytes) (Some (line, cause)) → text ≡ fault_text line cause → IsSwaps bytes statuses.InputFault text
fault_swaps bytes line cause text faulty is = (statuses.InputFault, text, fault_report bytes line cause text faulty is, (refl, refl))

-- The text of a rejection is the output of a rejected input, with status rejected.
pub rejected_swaps : (bytes : List ℕ) (tally : Tally) (rejection : Rejection) (text : List ℕ) → IsRejected (scan bytes) tally rejection → IsRunTold (scan bytes) statuses.Rejected text → IsSwaps bytes statuses.Rejected text
rejected_swaps bytes tally rejection text r told = (statuses.Rejected, text, run_report bytes statuses.Rejected text (rejected_sound (scan bytes) tally rejection r) told, (refl, refl))

-- The status and the text of the configuration of an accepted run are the output of the input.
pub accepted_swaps : (bytes : List ℕ) (tally : Tally) (machine : Seen (List Kind) Op) (status : Status) (text : List ℕ) → IsRunning (scan bytes) tally machine → IsTold tally.header.catalog machine.config status text → IsSwaps bytes status text
accepted_swaps bytes tally machine status text r told =
    let sc : InputScan = scan bytes in
    let h : Header = tally.header in
    let head : Lined Header = record { line = r.follows.at; what = h } in
    let run : LinedSteps Op = run_so_far sc tally machine r in
    let states = state_after objects (kinds_of h.catalog) (serial_ops machine.config.done) in
    let report : List ℕ = accepted_text h.catalog machine.count machine.config.done states in
    let own : HasRun sc = record { header = head; run = run; first_line = r.follows.header; steps = is_run_so_far sc tally machine r } in
    let certified = accepted_told sc tally machine r machine.count machine.config.done states report refl refl refl refl in (
      statuses.Accepted,
      report,
      run_report bytes statuses.Accepted report (running_sound sc tally machine r) certified,
      (own, subst (λ (c : Config Op). IsTold h.catalog c status text) (config_is sc tally machine r) told),
    )

-- A configuration has a verdict only if its certificate is printed, and then it is accepted.
pub accepted_if_decided : (catalog : Objects) (c : Config Op) (status : Status) (text : List ℕ) → IsTold catalog c status text → IsDecided status → status ≡ statuses.Accepted
accepted_if_decided catalog c status text (inl small) decided = small.1
accepted_if_decided catalog c status text (inr large) decided = absurd (subst IsDecided large.1 decided)
