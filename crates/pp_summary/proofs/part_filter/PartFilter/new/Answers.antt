use Rattle.std.proofs.Common.{◌∙◌, ◌≡◌, false, sym, true}
use Rattle.pp_summary.specs.Filtered.{remainder}
use Rattle.pp_summary.specs.declared.part_filter.TheConstants.{REMAINDERS}
use Rattle.pp_summary.proofs.Filtered.{none_true}
use Rattle.pp_summary.proofs.part_filter.PartFilter.new.Goals as goal

pub returns : goal.returns
returns c = λ part e. let z : false ≡ true = sym (none_true REMAINDERS (remainder part)) ∙ e in cc
