-- The first records of an accepted run are accepted too.
use Rattle.std.specs.Prelude.{◌≡◌, ℕ, zero, suc, List, ◌++◌, length, map, Option, None}
use Rattle.std.specs.Prelude.{Some}
use Rattle.std.proofs.Common.{refl, sym, ap, subst, ◌∙◌}
use mathlib.Core.Logic.{inl, inr}
use Rattle.pp_model.specs.Config.{Step, first}
use Rattle.pp_model.specs.Object.{state}
use Rattle.pp_model.specs.Rules.{Accepted, IsVerdict, Rejected, RunsFrom, Verdict}
use Rattle.pp_model.specs.Serial.{Attempt, attempts, committed_tx, serial}
use Rattle.pp_model.proofs.Verdict.{accepted_iff}
use Rattle.pp_records.specs.Inputs.{Accepts, InputLaw, IsFault, IsReport, IsReportBehind, IsReportOf}
use Rattle.pp_records.specs.Inputs.{IsRunReport, OverrunsAt, Report, Scan, Setting, steps_of}
use Rattle.pp_records.specs.Runs.{IsRun, LinedSteps, Records, after_records, bare, joined_steps, outset}
use Rattle.pp_records.proofs.Ends.{bare_append, runs_front}
use Rattle.pp_records.proofs.Reporting.{input_law}
use Rattle.pp_records.proofs.Whole.{extends_law, one_run_law}
use Rattle.pp_laws_runs.specs.Prefixes.{Begins}
use Rattle.pp_laws_runs.proofs.Growing.{committed_more}

-- The parts of a report that accepts.
told_accepted : {F R Op State : Type 0} (Cause : Type 0) (s : Setting F R Op State) (run : LinedSteps Op) (v : Verdict) (steps : ℕ) (committed : List (Attempt Op)) (final : State) →
    IsReportOf {Cause = Cause} s run v (Accepts steps committed final) → (v ≡ Accepted) × (steps ≡ length run) × (committed ≡ attempts s.start (bare run))
told_accepted Cause s run Accepted steps committed final is = (refl, cc, cc)
told_accepted Cause s run (Rejected zero n) steps committed final is = absurd (cc)
told_accepted Cause s run (Rejected (suc i) n) steps committed final is = absurd (let told = is.2 in cc)

module _ {H F R Op State Cause : Type 0} (setting : H → Setting F R Op State) (too_many : Cause) (h : H) where
  abbrev s : Setting F R Op State
  s = setting h

  law : InputLaw setting too_many
  law = input_law setting too_many

  -- the steps of these records
  abbrev steps_in : Records R → List (Step Op)
  steps_in rs = bare (steps_of s rs)

  -- the verdict on the steps of these records is that they are accepted
  abbrev pub AreAccepted : Records R → Type 0
  AreAccepted rs = IsVerdict s.object s.start (steps_in rs) Accepted

  -- ---- an accepted scan

  -- An accepted scan has no fault, this number of steps and these committed attempts.
  abbrev pub Parts : Scan H R Cause → ℕ → List (Attempt Op) → Type 0
  Parts sc steps committed = IsFault setting too_many sc None × AreAccepted sc.records × (steps ≡ length (steps_of s sc.records)) × (committed ≡ attempts s.start (steps_in sc.records))

  parts_behind : (sc : Scan H R Cause) (steps : ℕ) (committed : List (Attempt Op)) (final : State) (fault : Option (ℕ × Cause)) → sc.header ≡ Some h → IsFault setting too_many sc fault →
      IsReportBehind setting fault sc (Accepts steps committed final) → Parts sc steps committed
  parts_behind sc steps committed final (Some f) header is report = absurd (cc)
  parts_behind sc steps committed final None header is report =
      let r : Report Op State Cause = Accepts steps committed final in
      let told = (law.unfolded h sc.records r).0 (subst (λ (o : Option H). IsRunReport setting o sc.records r) header report) in
      let same = told_accepted Cause s (steps_of s sc.records) told.0 steps committed final told.2 in
      (is, subst (λ (v : Verdict). IsVerdict s.object s.start (steps_in sc.records) v) same.0 told.1, same.1, same.2)

  -- An accepted report has no fault, accepted records, and their numbers of steps and attempts.
  pub accepted_parts : (sc : Scan H R Cause) (steps : ℕ) (committed : List (Attempt Op)) (final : State) → sc.header ≡ Some h → IsReport setting too_many sc (Accepts steps committed final) → Parts sc steps committed
  accepted_parts sc steps committed final header is = parts_behind sc steps committed final is.0 header is.1 is.2

  -- A scan with no fault and accepted records has a report that accepts it.
  pub accepted_whole : (sc : Scan H R Cause) (steps : ℕ) (committed : List (Attempt Op)) → sc.header ≡ Some h → Parts sc steps committed → (final : State) × IsReport setting too_many sc (Accepts steps committed final)
  accepted_whole sc steps committed header (none, accepted, count, same) =
      let final : State = state s.object (serial (attempts s.start (steps_in sc.records))) in
      let r : Report Op State Cause = Accepts steps committed final in
      let told : r ≡ Accepts (length (steps_of s sc.records)) (attempts s.start (steps_in sc.records)) final = rw (count, same) refl in
      (final, (None, none, subst (λ (o : Option H). IsRunReport setting o sc.records r) (sym header) ((law.unfolded h sc.records r).1 (Accepted, accepted, told))))

  -- The run of an accepted scan is all of its steps.
  pub run_whole : (rs : Records R) (run : LinedSteps Op) → AreAccepted rs → IsRun s.object s.translation s.start rs run → run ≡ steps_of s rs
  run_whole rs run accepted is =
      let runs = one_run_law s.object s.translation in
      runs.run s.start rs run (steps_of s rs) is (runs.told s.start rs Accepted accepted)

  -- ---- the first records of an accepted scan

  module _ (sc wider : Scan H R Cause) (records : Begins sc.records wider.records) where
    -- The steps of the first records are the first steps of all records.
    pub first_steps : Begins (steps_of s sc.records) (steps_of s wider.records)
    first_steps =
        let p = outset s.translation s.start in (
          joined_steps s.translation (after_records s.translation p sc.records) records.0,
          ap (λ (rs : Records R). steps_of s rs) records.1 ∙ (extends_law s.object s.translation).steps p sc.records records.0,
        )

    first_bare : steps_in wider.records ≡ steps_in sc.records ++ bare first_steps.0
    first_bare = ap (λ (ss : LinedSteps Op). bare ss) first_steps.1 ∙ bare_append (steps_of s sc.records) first_steps.0

    module _ (accepted : AreAccepted wider.records) where
      first_runs : RunsFrom s.object (first s.start) (steps_in sc.records ++ bare first_steps.0)
      first_runs = subst (λ (ss : List (Step Op)). RunsFrom s.object (first s.start) ss) first_bare ((accepted_iff s.object s.start (steps_in wider.records)).0 accepted).1

      -- If all records of a run are accepted, so are the first ones.
      pub first_accepted : AreAccepted sc.records
      first_accepted =
          (accepted_iff s.object s.start (steps_in sc.records)).1 (
            ((accepted_iff s.object s.start (steps_in wider.records)).0 accepted).0,
            runs_front s.object (first s.start) (steps_in sc.records) (bare first_steps.0) first_runs,
          )

      -- The transactions that the first records commit are the first that all records commit.
      pub first_committed : Begins (map committed_tx (attempts s.start (steps_in sc.records))) (map committed_tx (attempts s.start (steps_in wider.records)))
      first_committed =
          subst (λ (ss : List (Step Op)). Begins (map committed_tx (attempts s.start (steps_in sc.records))) (map committed_tx (attempts s.start ss))) (sym first_bare)
          (committed_more s.object s.start (steps_in sc.records) (bare first_steps.0) ((accepted_iff s.object s.start (steps_in wider.records)).0 accepted).0 first_runs)

    -- The first records do not have too many steps.
    module _ (header : sc.header ≡ Some h) (wide_header : wider.header ≡ Some h) where
      overruns_too : (line : ℕ) → OverrunsAt setting sc.header sc.records line → OverrunsAt setting wider.header wider.records line
      overruns_too line over =
          subst (λ (o : Option H). OverrunsAt setting o wider.records line) (sym wide_header)
          (subst (λ (rs : Records R). OverrunsAt setting (Some h) rs line) (sym records.1)
          ((extends_law s.object s.translation).too_many s.start sc.records records.0 line (subst (λ (o : Option H). OverrunsAt setting o sc.records line) header over)))

      -- If an input has no fault, and no line of its first records has one, they have none.
      pub first_sound : sc.fault ≡ None → IsFault setting too_many wider None → IsFault setting too_many sc None
      first_sound sound (inl over) = absurd (let e : None ≡ Some (over.0, too_many) = over.2 in cc)
      first_sound sound (inr none) = inr (λ line over. none.0 line (overruns_too line over), sym sound)
