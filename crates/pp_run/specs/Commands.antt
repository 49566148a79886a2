-- Meaning: what each command promises. Each field is one promise.
use Rattle.std.specs.Prelude.{◌≡◌, ◌⊎◌, ℕ, List, [], Option, None, Some}
use Rattle.std.specs.Io.KnownBytes.{Appends}
use Rattle.pp_core.specs.declared.status.Status.TheVariants as statuses
use Rattle.pp_certificate_lines.specs.Rechecked.{IsCheckedSound, IsRecheck}
use Rattle.pp_judge.specs.Accepted.{EachStepMeets, IsAloneAccepted, IsExact, IsSimulated}
use Rattle.pp_judge.specs.Certified.{IsDecided}
use Rattle.pp_judge.specs.Costs.{CostsAtLeast, CostsAtMost, StepsCostAtLeast, StepsCostAtMost}
use Rattle.pp_judge.specs.Inputs.{scan}
use Rattle.pp_judge.specs.Rejected.{IsEvident}
use Rattle.pp_judge.specs.Reports.{IsCertified, IsExpanded}
use Rattle.pp_judge.specs.Restated.{PrintsAgain}
use Rattle.pp_judge.specs.Scans.{InputScan}
use Rattle.pp_cmd_views.specs.Costs.{ViewsCostAtMost}
use Rattle.pp_cmd_views.specs.Outputs.{IsViews}
use Rattle.pp_cmd_opaque.specs.Bounds.{OpaqueCostsAtMost}
use Rattle.pp_cmd_opaque.specs.Meanings.{HasOrderedRun, IsBoostedOpaque, IsOpaqueExactly, MeetsAll}
use Rattle.pp_cmd_opaque.specs.Outputs.{IsOpaqueOutput}
use Rattle.pp_cmd_quick.specs.Costs.{QuickCostsAtLeast, QuickCostsAtMost}
use Rattle.pp_cmd_quick.specs.Decisions.{IsQuick}
use Rattle.pp_cmd_judge.specs.Costs.{JudgeCostsAtLeast, JudgeCostsAtMost}
use Rattle.pp_cmd_judge.specs.Inputs.{judge_scan}
use Rattle.pp_cmd_judge.specs.Judgements.{IsJudgeOutput, IsJudgedEvident}
use Rattle.pp_cmd_judge.specs.Judgements.{IsJudgedExactly}
use Rattle.pp_cmd_judge.specs.Laws.{IsWithinCertify}
use Rattle.pp_cmd_drill.specs.Prints.{PrintsLines}
use Rattle.pp_cmd_drill.specs.Reports.{IsDrilled, drill_scan}
use Rattle.pp_cmd_drill.specs.Text.{drill_text}
use Rattle.pp_cmd_focus.specs.Outputs.{IsFocused}
use Rattle.pp_cmd_focus.specs.Restrictions.{restriction}
use Rattle.pp_cmd_swaps.specs.Prints.{PrintsCertificate}
use Rattle.pp_cmd_swaps.specs.Swaps.{IsSwaps}
use Rattle.pp_laws_runs.specs.Timely.{IsTimely}
use Rattle.pp_cmd_recheck.specs.Costs.{CheckCostsAtLeast, CheckCostsAtMost}
use Rattle.pp_run.specs.declared.words.Command.{Command}
use Rattle.pp_run.specs.declared.words.Command.TheVariants.{Certify, Drill, Expand, Focus, Judge}
use Rattle.pp_run.specs.declared.words.Command.TheVariants.{Opaque, Quick, Recheck, Swaps, Views}
use Rattle.pp_run.specs.Outcomes.{IsTheOutput, OfItsInput, Outcome, PrintsJust}
use Rattle.pp_run.specs.Outputs.{IsPrinted}
use Rattle.pp_run.specs.Promises.{IsFocusedExactly, PrintsZombie, SeesKept}

-- What is true of the scan of an input if its start and each of its steps meet their criteria,
-- however many steps there are.
pub record IsSerializable (sc : InputScan) : Type 0 where
  -- the start and each step meet their criteria
  pub steps : EachStepMeets sc
  -- The committed transactions, one after another in commit order, return all recorded results.
  -- They lead to the state that the committed entries of the shared log lead to.
  pub simulated : IsSimulated sc
  -- Strict serializability: the commit order respects real time by the lines of the input, and the
  -- order of each thread.
  pub timely : IsTimely sc
  -- The committed transactions, one after another and without all others, are an accepted run.
  pub alone : IsAloneAccepted sc

-- What `certify` promises. `OfItsInput` is about the bytes that the source has left.
pub record CertifyPromise (o : Outcome) : Type 0 where
  -- The status and the text are the only output that is defined for the input.
  pub prints : PrintsJust IsCertified o
  -- Accepted is printed exactly if the input has no fault, and its start and each step meet their
  -- criteria.
  pub exact : IsPrinted o.status → OfItsInput o λ bytes. IsExact bytes o.status
  -- An accepted run is serializable.
  pub accepted : o.status ≡ statuses.Accepted → OfItsInput o λ bytes. IsSerializable (scan bytes)
  -- The evidence of a rejection is the one that is defined for its criterion. If it is not empty,
  -- it proves that the criterion is false.
  pub rejected : o.status ≡ statuses.Rejected → OfItsInput o λ bytes. IsEvident (scan bytes)
  -- The counter of operations rises at most by the greatest cost of the start, the steps and the
  -- serial run. With a verdict it rises at least by their least cost.
  pub most : OfItsInput o λ bytes. CostsAtMost (scan bytes) o.before o.after
  pub least : IsDecided o.status → OfItsInput o λ bytes.
      CostsAtLeast o.status (scan bytes) o.before o.after

-- What `expand` promises.
pub record ExpandPromise (o : Outcome) : Type 0 where
  pub prints : PrintsJust IsExpanded o
  pub exact : IsPrinted o.status → OfItsInput o λ bytes. IsExact bytes o.status
  pub accepted : o.status ≡ statuses.Accepted → OfItsInput o λ bytes. IsSerializable (scan bytes)
  pub rejected : o.status ≡ statuses.Rejected → OfItsInput o λ bytes. IsEvident (scan bytes)
  -- The printed run is an input again, without a fault and within all limits. Its records are the
  -- steps. Its report is the same but for the line numbers. If the run is accepted, `certify`
  -- prints the same text for both.
  pub again : IsDecided o.status → OfItsInput o λ bytes. PrintsAgain bytes o.held o.holds
  pub most : OfItsInput o λ bytes. StepsCostAtMost (scan bytes) o.before o.after
  pub least : IsDecided o.status → OfItsInput o λ bytes.
      StepsCostAtLeast o.status (scan bytes) o.before o.after

-- What `judge` promises. It is `certify` without a limit on transactions and bytes. In styles
-- hardware and dependent a run has at most 4,294,967,295 steps, and in the others any number.
-- `judge_scan` is what an input is within its limits.
pub record JudgePromise (o : Outcome) : Type 0 where
  pub prints : PrintsJust IsJudgeOutput o
  -- Accepted is printed exactly if the input has no fault, and its start and each step meet their
  -- criteria.
  pub exact : IsPrinted o.status → OfItsInput o λ bytes. IsJudgedExactly bytes o.status
  -- If `certify` reports none of TooManySteps, TooManyTransactions, TooManyLines and TooLong, then
  -- the status and the text are the only output of `certify` for the input.
  pub same : IsPrinted o.status → OfItsInput o λ bytes. IsWithinCertify (scan bytes) →
      IsTheOutput IsCertified bytes o
  -- An accepted run is serializable, also if it has too many steps for `certify`.
  pub accepted : o.status ≡ statuses.Accepted → OfItsInput o λ bytes.
      IsSerializable (judge_scan bytes)
  -- The evidence of a rejection is the one that is defined for its criterion. If it is not empty,
  -- it proves that the criterion is false.
  pub rejected : o.status ≡ statuses.Rejected → OfItsInput o λ bytes.
      IsJudgedEvident (judge_scan bytes)
  -- The counter rises at most by what the judge of the style costs and by the serial run. With a
  -- verdict it rises at least by their least cost.
  pub most : OfItsInput o λ bytes. JudgeCostsAtMost (judge_scan bytes) o.before o.after
  pub least : IsDecided o.status → OfItsInput o λ bytes.
      JudgeCostsAtLeast o.status (judge_scan bytes) o.before o.after

-- What `quick` promises.
pub record QuickPromise (o : Outcome) : Type 0 where
  pub prints : PrintsJust IsQuick o
  -- An accepted run is serializable, also if it has too many steps for `certify`.
  pub accepted : o.status ≡ statuses.Accepted → OfItsInput o λ bytes. IsSerializable (scan bytes)
  pub most : OfItsInput o λ bytes. QuickCostsAtMost (scan bytes) o.before o.after
  pub least : IsDecided o.status → OfItsInput o λ bytes.
      QuickCostsAtLeast o.status (scan bytes) o.before o.after

-- What `swaps` promises.
pub record SwapsPromise (o : Outcome) : Type 0 where
  pub prints : PrintsJust IsSwaps o
  pub accepted : o.status ≡ statuses.Accepted → OfItsInput o λ bytes. IsSerializable (scan bytes)
  pub rejected : o.status ≡ statuses.Rejected → OfItsInput o λ bytes. IsEvident (scan bytes)
  -- For an accepted run the printed text is its certificate, and `recheck` accepts it.
  pub certified : o.status ≡ statuses.Accepted → OfItsInput o λ bytes.
      PrintsCertificate bytes o.held o.holds
  pub most : OfItsInput o λ bytes. StepsCostAtMost (scan bytes) o.before o.after
  pub least : IsDecided o.status → OfItsInput o λ bytes.
      StepsCostAtLeast o.status (scan bytes) o.before o.after

-- What `recheck` promises.
pub record RecheckPromise (o : Outcome) : Type 0 where
  pub prints : PrintsJust IsRecheck o
  -- The operations that an accepted certificate shows are allowed, and lead to the printed state.
  pub checked : o.status ≡ statuses.Accepted → OfItsInput o λ bytes. IsCheckedSound bytes
  pub most : OfItsInput o λ bytes. CheckCostsAtMost bytes o.before o.after
  pub least : o.status ≡ statuses.Accepted → OfItsInput o λ bytes.
      CheckCostsAtLeast bytes o.before o.after

-- What `views` promises.
pub record ViewsPromise (o : Outcome) : Type 0 where
  pub prints : PrintsJust IsViews o
  pub accepted : o.status ≡ statuses.Accepted → OfItsInput o λ bytes. IsSerializable (scan bytes)
  pub rejected : o.status ≡ statuses.Rejected → OfItsInput o λ bytes. IsEvident (scan bytes)
  -- The last attempt of a committed transaction has a number if the transaction took back nothing
  -- after it. The number is at most that of the transactions that committed before it.
  pub seen : o.status ≡ statuses.Accepted → OfItsInput o λ bytes. SeesKept (scan bytes)
  pub most : OfItsInput o λ bytes. ViewsCostAtMost (scan bytes) o.before o.after
  pub least : IsDecided o.status → OfItsInput o λ bytes.
      StepsCostAtLeast o.status (scan bytes) o.before o.after

-- What `opaque` promises. Its limits are those of `certify`.
pub record OpaquePromise (o : Outcome) : Type 0 where
  pub prints : PrintsJust IsOpaqueOutput o
  -- Accepted is printed exactly if the input has no fault, its start and each of its steps meet
  -- their criteria, and the run is opaque.
  pub exact : IsPrinted o.status → OfItsInput o λ bytes. IsOpaqueExactly bytes o.status
  pub accepted : o.status ≡ statuses.Accepted → OfItsInput o λ bytes. IsSerializable (scan bytes)
  -- At accepted, one sequence of all transactions and attempts explains what they saw, for each
  -- prefix of the run. It has the committed transactions in commit order and respects real time.
  pub ordered : o.status ≡ statuses.Accepted → OfItsInput o λ bytes. HasOrderedRun (scan bytes)
  -- At rejected, the run is rejected with evidence, or it is accepted and not opaque. In the second
  -- case the text is that of the first zombie: the step and its line, the own list of a transaction
  -- after the step, and a window. No number of commits in the window explains the list, and each
  -- shorter prefix of the run is opaque.
  pub rejected : o.status ≡ statuses.Rejected → OfItsInput o λ bytes.
      IsEvident (scan bytes) ⊎ (MeetsAll bytes × PrintsZombie bytes o.held o.holds)
  -- If the start and each step meet their criteria in style boosted, the run is opaque. So `opaque`
  -- accepts each run of style boosted that `certify` accepts.
  pub boosted : OfItsInput o λ bytes. IsBoostedOpaque (scan bytes)
  -- The counter rises at most by what the start and the steps cost, and by the search: one for each
  -- committed operation, and for each APP what its question costs. A question costs twice its own
  -- list for each number in its window, and twice the operations that committed in the window.
  pub most : OfItsInput o λ bytes. OpaqueCostsAtMost (scan bytes) o.before o.after
  pub least : IsDecided o.status → OfItsInput o λ bytes.
      StepsCostAtLeast o.status (scan bytes) o.before o.after

-- `drill` reads no input, so its output depends on its number alone.
pub record DrillPromise (n : ℕ) (o : Outcome) : Type 0 where
  pub prints : IsPrinted o.status → IsTheOutput (λ bytes. IsDrilled n) [] o
  -- The run of n transactions is accepted.
  pub accepted : IsPrinted o.status → o.status ≡ statuses.Accepted
  -- The printed lines have numbers that are functions of n.
  pub lines : PrintsLines n
  -- The text of the run is an input, and it is serializable.
  pub serializable : IsSerializable (scan (drill_text n))
  pub most : CostsAtMost (drill_scan n) o.before o.after
  pub least : o.status ≡ statuses.Accepted →
      CostsAtLeast statuses.Accepted (drill_scan n) o.before o.after

-- What `focus` promises for the object of a name. Its limits are those of `judge`.
pub record FocusPromise (name : List ℕ) (o : Outcome) : Type 0 where
  pub prints : PrintsJust (IsFocused name) o
  -- Accepted is printed exactly if the input has no fault, and its header has an object of the name.
  -- Otherwise a fault is printed.
  pub exact : IsPrinted o.status → OfItsInput o λ bytes. IsFocusedExactly name bytes o.status
  -- The printed text is then the restriction of the whole input to this object, line for line.
  pub restricted : o.status ≡ statuses.Accepted → OfItsInput o λ bytes.
      Appends o.held o.holds (restriction name bytes)
  -- No operation is applied or taken back.
  pub free : OfItsInput o λ bytes. o.after ≡ o.before

-- What a call of `run` promises, by its command. Arguments that are no command print nothing.
abbrev pub CommandPromise : Option Command → Outcome → Type 0
CommandPromise None o = Unit {0}
CommandPromise (Some Certify) o = CertifyPromise o
CommandPromise (Some Expand) o = ExpandPromise o
CommandPromise (Some Judge) o = JudgePromise o
CommandPromise (Some Quick) o = QuickPromise o
CommandPromise (Some Swaps) o = SwapsPromise o
CommandPromise (Some Recheck) o = RecheckPromise o
CommandPromise (Some Views) o = ViewsPromise o
CommandPromise (Some Opaque) o = OpaquePromise o
CommandPromise (Some (Drill n)) o = DrillPromise n o
CommandPromise (Some (Focus name)) o = FocusPromise name o
