-- Proof machinery: the restriction of the lines so far, and what comes of the next line.
use Rattle.std.specs.Prelude.{◌≡◌, ℕ, List, [], if◌then◌else◌, Option, None, Some}
use Rattle.pp_input.specs.Lines.{NumberedLine, blank}
use Rattle.pp_format_write.specs.Statable.{IsWritableStart}
use Rattle.pp_input_reader.specs.declared.cause.Cause.{Cause}
use Rattle.pp_input_reader.specs.Sources.{WhereTold}
use Rattle.pp_input_reader.specs.Takers.{Reading}
use Rattle.pp_judge.specs.Findings.{Finds, finding_of}
use Rattle.pp_judge.specs.Progresses.{Leads, judged_reading}
use Rattle.pp_judge.specs.Tallies.{headed}
use Rattle.pp_judge.specs.declared.progress.Tally.{Tally}
use Rattle.pp_judge.specs.declared.progress.Progress.{Progress}
use Rattle.pp_judge.specs.declared.progress.Progress.TheVariants as progresses
use Rattle.pp_cmd_judge.specs.Inputs.{judge_scan}
use Rattle.pp_cmd_focus.specs.Located.{located_judging}
use Rattle.pp_cmd_focus.specs.Restrictions.{restricted_text, restriction}
use Rattle.pp_cmd_focus.specs.Subjects.{subject_in}
use Rattle.pp_cmd_focus.specs.declared.located.Located.{Located}
use Rattle.pp_cmd_focus.specs.declared.located.Never.{Never}
use Rattle.pp_cmd_focus.specs.declared.taker.Focus.{Focus}

-- the header of the run can be written
abbrev pub CanWrite : Progress Located Never → Type 0
CanWrite (progresses.Waiting lines) = Unit {0}
CanWrite (progresses.Running tally located) =
    IsWritableStart tally.header.catalog tally.header.start
CanWrite (progresses.Rejected tally never) = Unit {0}

-- what is written of a line that is not blank, after which the run is here
abbrev pub progress_shown : List ℕ → Progress Located Never → List ℕ → List ℕ
progress_shown name (progresses.Waiting lines) bytes = []
progress_shown name (progresses.Running tally located) bytes =
    subject_in name tally.header located.subject bytes
progress_shown name (progresses.Rejected tally never) bytes = []

-- the same of any line
abbrev pub progress_line : List ℕ → Progress Located Never → List ℕ → List ℕ
progress_line name progress bytes =
    if blank bytes then bytes else progress_shown name progress bytes

-- these lines led to here, and the text is their restriction
pub record FocusLeads (lines : List NumberedLine) (at : Focus) (old new : ℕ) : Type 0 where
  pub leads : Leads located_judging lines at.progress old new
  pub text : at.text ≡ restricted_text at.name lines

-- what lines of an input lead to, and their faults, which are those of the scan
abbrev pub focus_reading : ℕ → Reading (Focus × ℕ) Cause
focus_reading old =
    let R = judged_reading located_judging old in
    record {
      limits = R.limits;
      Leads = λ lines at. FocusLeads lines at.0 old at.1;
      HasFault = R.HasFault;
      Stops = R.Stops;
      at_limit = R.at_limit;
    }

-- the whole input has no fault, and this header on this line
abbrev pub IsWhole : List ℕ → Tally → Located → Type 0
IsWhole bytes tally located =
    ((judge_scan bytes).fault ≡ None)
    × ((judge_scan bytes).header ≡ Some (headed located.line tally.header))

-- The lines that were read are those of the whole input, and the text is their restriction.
pub record IsRead (old new : Option (List ℕ)) (focus : Focus) : Type 0 where
  pub found : Finds located_judging old new (finding_of focus.progress)
  pub text : WhereTold old λ bytes. focus.text ≡ restriction focus.name bytes
