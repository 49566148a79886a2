-- Proof machinery: what the summary says of boosted runs, as their engine.
use Rattle.std.specs.Prelude.{◌+◌, List}
use Rattle.pp_core.specs.declared.call.Kind.{Kind}
use Rattle.pp_core.specs.declared.call.Style.TheVariants as styles
use Rattle.pp_objects.specs.Objects.{objects, place_of}
use Rattle.pp_objects.specs.declared.act.Op.{Op}
use Rattle.pp_summary.specs.Held.{Held}
use Rattle.pp_violations.specs.Violations.{IsRefused}
use Rattle.pp_cmd_quick.specs.Taking.{AreGoodBehind}
use Rattle.pp_cmd_judge.specs.Engines.{EngineOf}
use Rattle.pp_cmd_judge.specs.declared.style_judge.StyleJudge.TheVariants.{Boosted}

abbrev pub boosted_engine : EngineOf (Held (List Kind) Op)
boosted_engine = record {
  style = styles.Boosted;
  AreGood = AreGoodBehind;
  IsRefused = IsRefused objects place_of;
  search = λ quick. quick.count + 256;
  done = λ quick. quick.brief.done;
  shape = λ quick. quick.shape;
  wrap = λ judge. Boosted judge;
}
