-- What is printed of an input that was read.
use Rattle.std.specs.Prelude.{◌≡◌, ℕ, List, Option, Some}
use Rattle.std.proofs.Common.{sym, ap, ◌∙◌, subst}
use Rattle.pp_records.specs.Runs.{Lined}
use Rattle.pp_format_read.specs.declared.header.Header.{Header}
use Rattle.pp_input_reader.proofs.Takers.{taken_all}
use Rattle.pp_judge.specs.Findings.{Finds}
use Rattle.pp_judge.specs.Tallies.{headed}
use Rattle.pp_judge.specs.declared.finding.Finding.TheVariants as findings
use Rattle.pp_judge.specs.declared.progress.Tally.{Tally}
use Rattle.pp_cmd_focus.specs.Located.{located_judging}
use Rattle.pp_cmd_focus.specs.Taking.{IsWhole}
use Rattle.pp_cmd_focus.specs.declared.located.Located.{Located}

-- If a source is found to have a run whose records are all good, its input has no fault, and the header of the run on its line.
pub found_whole : (old new : Option (List ℕ)) (bytes : List ℕ) (tally : Tally) (located : Located) → old ≡ Some bytes → Finds located_judging old new (findings.Accepted tally located) → IsWhole bytes tally located
found_whole old new bytes tally located is (taken, read, end, good) =
    subst (λ (bs : List ℕ). IsWhole bs tally located) (taken_all old new taken bytes read end is)
    (good.follows.sound, good.follows.header ∙ ap (λ (n : ℕ). let h : Option (Lined Header) = Some (headed n tally.header) in h) (sym good.good.line))
