-- The run of the records so far, and where it leads a machine.
use Rattle.std.specs.Prelude.{◌≡◌, List, Option, None}
use Rattle.std.proofs.Common.{sym, ap, ◌∙◌, subst}
use mathlib.Core.Logic.{inr}
use Rattle.pp_core.specs.declared.call.Kind.{Kind}
use Rattle.pp_records.specs.Fronts.{Front}
use Rattle.pp_records.specs.Inputs.{OverrunsAt}
use Rattle.pp_records.specs.Records.{RunRecord}
use Rattle.pp_records.specs.Runs.{IsRun, Lined, LinedSteps, Records, Standing, bare, joined_steps, outset}
use Rattle.pp_records.proofs.Reading.{reading_law}
use Rattle.pp_records.proofs.Whole.{extends_law}
use Rattle.pp_format_read.specs.declared.header.Header.{Header}
use Rattle.pp_model.specs.Config.{after}
use Rattle.pp_objects.specs.declared.act.Op.{Op}
use Rattle.pp_machine.specs.Machines.{Seen}
use Rattle.pp_styles.specs.declared.any_front.AnyFront.{AnyFront}
use Rattle.pp_judge.specs.Driven.{driven_judging}
use Rattle.pp_judge.specs.Findings.{AreGood, AreRejected}
use Rattle.pp_judge.specs.Inputs.{IsFaultOf}
use Rattle.pp_judge.specs.Objects.{object_of, setting_of, start_of, translation_of}
use Rattle.pp_judge.specs.Running.{GoesOn, IsRejected, IsRunning, standing_of}
use Rattle.pp_judge.specs.Scans.{InputScan}
use Rattle.pp_judge.specs.declared.driven.Driven.{Driven}
use Rattle.pp_judge.specs.declared.driven.ObservedRejection.{ObservedRejection}
use Rattle.pp_judge.specs.declared.driven.Rejection.{Rejection}
use Rattle.pp_judge.specs.declared.progress.Tally.{Tally}
use Rattle.pp_judge.specs.laws.Driven.{bad_few}

-- ---- after a header and some records

-- all steps that these records mean
abbrev pub all_so_far : Header → Records (RunRecord Op) → LinedSteps Op
all_so_far h rs = joined_steps (translation_of h) (outset (translation_of h) (start_of h)) rs

module _ (h : Header) (rs : Records (RunRecord Op)) (front : AnyFront) (machine : Seen (List Kind) Op) (c : GoesOn h rs front machine) where
  -- The configuration of the machine is the one after the run so far.
  pub config_there : machine.config ≡ after (start_of h) (bare (all_so_far h rs))
  config_there =
      ap (λ (p : Standing Front Op). p.config) c.stands.place ∙ (extends_law (object_of h) (translation_of h)).config (outset (translation_of h) (start_of h)) rs

  -- The run so far is the run of the records.
  pub run_there : IsRun (object_of h) (translation_of h) (start_of h) rs (all_so_far h rs)
  run_there = ((reading_law (object_of h) (translation_of h)).end (start_of h) rs (standing_of c.state machine) machine.count c.stands).0

-- ---- after some lines

module _ (sc : InputScan) (tally : Tally) (machine : Seen (List Kind) Op) (r : IsRunning sc tally machine) where
  -- all steps that the records of the scan mean
  abbrev pub run_so_far : LinedSteps Op
  run_so_far = all_so_far tally.header sc.records

  -- The run so far is the run of the records of the scan.
  pub is_run_so_far : IsRun (object_of tally.header) (translation_of tally.header) (start_of tally.header) sc.records run_so_far
  is_run_so_far = ((reading_law (object_of tally.header) (translation_of tally.header)).end (start_of tally.header) sc.records (standing_of r.state machine) machine.count r.stands).0

  -- the machine is where the steps so far lead
  pub config_is : machine.config ≡ after (start_of tally.header) (bare run_so_far)
  config_is =
      let h = tally.header in
      ap (λ (p : Standing Front Op). p.config) r.stands.place ∙ (extends_law (object_of h) (translation_of h)).config (outset (translation_of h) (start_of h)) sc.records

  -- a run has no fault
  pub running_sound : IsFaultOf sc None
  running_sound =
      let h = tally.header in
      inr (
        λ line over.
            ((reading_law (object_of h) (translation_of h)).end (start_of h) sc.records (standing_of r.state machine) machine.count r.stands).2 line
            (subst (λ (w : Option (Lined Header)). OverrunsAt setting_of w sc.records line) r.follows.header over),
        sym r.follows.sound,
      )

-- A rejected run has no fault.
pub rejected_sound : (sc : InputScan) (tally : Tally) (rejection : Rejection) → IsRejected sc tally rejection → IsFaultOf sc None
rejected_sound sc tally rejection r =
    inr (
      λ line over. bad_few tally.header r.follows.at sc.records rejection r.ends line (subst (λ (w : Option (Lined Header)). OverrunsAt setting_of w sc.records line) r.follows.header over),
      sym r.follows.sound,
    )

-- ---- what the machine as a judge says

module _ {W : Type 0} (HasSeen : Header → LinedSteps Op → W → Type 0) where
  -- If a judge found the records good, each step meets its criteria and the machine is where they lead.
  pub running_of : (sc : InputScan) (tally : Tally) (judge : Driven W) → AreGood (driven_judging HasSeen) sc tally judge → IsRunning sc tally judge.machine
  running_of sc tally judge g = record { follows = g.follows; shape = g.good.0.shape; state = g.good.0.state; stands = g.good.0.stands }

  -- If a judge rejected the records, the run is rejected by the same rejection.
  pub rejected_of : (sc : InputScan) (tally : Tally) (refused : ObservedRejection W) → AreRejected (driven_judging HasSeen) sc tally refused → IsRejected sc tally refused.rejection
  rejected_of sc tally refused b = record { follows = b.follows; ends = b.bad.0 }
