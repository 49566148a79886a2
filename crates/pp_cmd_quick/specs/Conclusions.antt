-- Proof machinery: what is reported of a run whose start and records are good.
use Rattle.std.specs.Prelude.{ℕ, List}
use Rattle.pp_core.specs.declared.call.Kind.{Kind}
use Rattle.pp_core.specs.declared.status.Status.TheVariants as statuses
use Rattle.pp_objects.specs.declared.act.Op.{Op}
use Rattle.pp_summary.specs.Held.{Held}
use Rattle.pp_judge.specs.Scans.{InputScan}
use Rattle.pp_judge.specs.declared.progress.Tally.{Tally}
use Rattle.pp_cmd_quick.specs.Decisions.{IsDecisionTold, acceptance}
use Rattle.pp_cmd_quick.specs.Taking.{AreGood}

-- the text of a run whose start and records are good
abbrev pub IsAcceptedText : Tally → Held (List Kind) Op → List ℕ → Type 0
IsAcceptedText tally quick text = (sc : InputScan) → AreGood sc tally quick →
    IsDecisionTold sc.header (acceptance tally.header sc.records) statuses.Accepted text
