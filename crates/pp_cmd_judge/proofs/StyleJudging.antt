-- What the judge of all styles knows of a run that is accepted.
use Rattle.std.specs.Prelude.{◌≡◌}
use Rattle.pp_records.specs.Records.{RunRecord}
use Rattle.pp_records.specs.Runs.{Lined, Records}
use Rattle.pp_format_read.specs.declared.header.Header.{Header}
use Rattle.pp_objects.specs.Objects.{kinds_of}
use Rattle.pp_objects.specs.declared.act.Op.{Op}
use Rattle.pp_cmd_quick.proofs.Readers.{committed_are}
use Rattle.pp_cmd_judge.specs.Acceptances.{IsAcceptedBehind}
use Rattle.pp_cmd_judge.specs.StyleJudging.{IsGoodBy, done_of, shape_of, step_count}
use Rattle.pp_cmd_judge.specs.StyleLaws.{all_hold}
use Rattle.pp_cmd_judge.specs.declared.style_judge.StyleJudge.{StyleJudge}
use Rattle.pp_cmd_judge.specs.declared.style_judge.StyleJudge.TheVariants.{Boosted, Driven, Optimistic, Rules}
use Rattle.pp_cmd_judge.proofs.DrivenRecords as driven_records
use Rattle.pp_cmd_judge.proofs.OptimisticReading as optimistic_reading
use Rattle.pp_cmd_judge.proofs.RuleSteps as rule_steps

-- if the start and the records are good, all steps meet their criteria, and the judge has their number and the committed transactions
pub accepted_by : (h : Lined Header) (rs : Records (RunRecord Op)) (judge : StyleJudge) → IsGoodBy h rs judge → IsAcceptedBehind h.what rs (step_count judge) (done_of judge)
accepted_by h rs (Rules judge) c = record {
  hold = all_hold h rs (Rules judge) c;
  steps = c.steps;
  done = rule_steps.committed_are h.what rs judge.engine c.good;
}
accepted_by h rs (Boosted judge) c = record {
  hold = all_hold h rs (Boosted judge) c;
  steps = c.steps;
  done = committed_are h.what rs judge.engine c.good;
}
accepted_by h rs (Optimistic judge) c = record {
  hold = all_hold h rs (Optimistic judge) c;
  steps = c.steps;
  done = optimistic_reading.committed_are h.what rs judge.engine c.good;
}
accepted_by h rs (Driven judge) c = record {
  hold = c.hold;
  steps = c.count;
  done = driven_records.committed_are h.what rs judge c;
}

-- if the start and the records are good, the objects of the judge are of the kinds of the header
pub shape_is : (h : Lined Header) (rs : Records (RunRecord Op)) (judge : StyleJudge) → IsGoodBy h rs judge → shape_of judge ≡ kinds_of h.what.catalog
shape_is h rs (Rules judge) c = c.good.shape
shape_is h rs (Boosted judge) c = c.good.shape
shape_is h rs (Optimistic judge) c = c.good.shape
shape_is h rs (Driven judge) c = c.shape
