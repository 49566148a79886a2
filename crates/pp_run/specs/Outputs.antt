-- Meaning: what a command prints, and how it ends.
use Rattle.std.specs.Prelude.{◌≡◌, ◌⊎◌, ℕ, List, [], Option, None, Some}
use Rattle.std.specs.Io.KnownBytes.{Appends}
use Rattle.pp_core.specs.declared.status.Status.{Status}
use Rattle.pp_core.specs.declared.status.Status.TheVariants as statuses
use Rattle.pp_input_reader.specs.Sources.{WhereTold}
use Rattle.pp_certificate_lines.specs.Rechecked.{IsRecheck, RecheckReadsNoFault}
use Rattle.pp_judge.specs.Certified.{IsDecided}
use Rattle.pp_judge.specs.Inputs.{ReadsNoFault}
use Rattle.pp_judge.specs.Reports.{IsCertified, IsExpanded}
use Rattle.pp_cmd_views.specs.Outputs.{IsViews}
use Rattle.pp_cmd_opaque.specs.Outputs.{IsOpaqueOutput}
use Rattle.pp_cmd_quick.specs.Decisions.{IsQuick, QuickReadsNoFault}
use Rattle.pp_cmd_judge.specs.Judgements.{IsJudgeOutput, JudgeReadsNoFault}
use Rattle.pp_laws_reports.specs.Defined.{IsDefined}
use Rattle.pp_cmd_drill.specs.Reports.{IsDrilled}
use Rattle.pp_cmd_focus.specs.Outputs.{FocusReadsNoFault, IsFocused}
use Rattle.pp_cmd_swaps.specs.Swaps.{IsSwaps}
use Rattle.pp_run.specs.declared.words.Command.{Command}
use Rattle.pp_run.specs.declared.words.Command.TheVariants.{Certify, Drill, Expand, Focus, Judge}
use Rattle.pp_run.specs.declared.words.Command.TheVariants.{Opaque, Quick, Recheck, Swaps, Views}
use Rattle.pp_run.specs.Words.{command_of}
use Rattle.pp_run.specs.Writing.{AppendsPrefix}

-- The statement P is true of the input of a command: of the bytes that the source has left, if it
-- says them. A command that reads no input has the empty input, whatever the source has.
abbrev pub OfInput : Option Command → Option (List ℕ) → (List ℕ → Type 0) → Type 0
OfInput None left P = P []
OfInput (Some Certify) left P = WhereTold left P
OfInput (Some Expand) left P = WhereTold left P
OfInput (Some Judge) left P = WhereTold left P
OfInput (Some Quick) left P = WhereTold left P
OfInput (Some Swaps) left P = WhereTold left P
OfInput (Some Recheck) left P = WhereTold left P
OfInput (Some Views) left P = WhereTold left P
OfInput (Some Opaque) left P = WhereTold left P
OfInput (Some (Drill n)) left P = P []
OfInput (Some (Focus name)) left P = WhereTold left P

-- the status and the text of a command; arguments that are no command print nothing
abbrev pub IsOutput : Option Command → List ℕ → Status → List ℕ → Type 0
IsOutput None bytes status text = (status ≡ statuses.BadWords) × (text ≡ [])
IsOutput (Some Certify) bytes status text = IsCertified bytes status text
IsOutput (Some Expand) bytes status text = IsExpanded bytes status text
IsOutput (Some Judge) bytes status text = IsJudgeOutput bytes status text
IsOutput (Some Quick) bytes status text = IsQuick bytes status text
IsOutput (Some Swaps) bytes status text = IsSwaps bytes status text
IsOutput (Some Recheck) bytes status text = IsRecheck bytes status text
IsOutput (Some Views) bytes status text = IsViews bytes status text
IsOutput (Some Opaque) bytes status text = IsOpaqueOutput bytes status text
IsOutput (Some (Drill n)) bytes status text = IsDrilled n status text
IsOutput (Some (Focus name)) bytes status text = IsFocused name bytes status text

-- A status and a text are defined for all arguments and every input.
abbrev pub DefinedLaw : Type 0
DefinedLaw = (words : List (List ℕ)) (bytes : List ℕ) →
    IsDefined (IsOutput (command_of words) bytes)

-- ---- what is read

-- the status is a verdict, or it says that the output is above a limit
abbrev pub IsVerdictOrSize : Status → Type 0
IsVerdictOrSize status = IsDecided status ⊎ (status ≡ statuses.TooLarge)

-- A result of the command with this status is about its whole input. `recheck` may refuse a line.
-- Then it does not read the lines after it. The only other result of `focus` is a fault.
abbrev pub IsOfWhole : Option Command → Status → Type 0
IsOfWhole None status = ⊥
IsOfWhole (Some Certify) status = IsDecided status
IsOfWhole (Some Expand) status = IsDecided status
IsOfWhole (Some Judge) status = IsDecided status
IsOfWhole (Some Quick) status = IsDecided status
IsOfWhole (Some Swaps) status = IsVerdictOrSize status
IsOfWhole (Some Recheck) status = status ≡ statuses.Accepted
IsOfWhole (Some Views) status = IsVerdictOrSize status
IsOfWhole (Some Opaque) status = IsDecided status
IsOfWhole (Some (Drill n)) status = ⊥
IsOfWhole (Some (Focus name)) status = status ≡ statuses.Accepted

-- What the command has read has no fault that stays whatever bytes follow. For `recheck` it has no
-- refused line either.
abbrev pub ReadsSound : Option Command → Option (List ℕ) → Option (List ℕ) → Type 0
ReadsSound None old new = ⊥
ReadsSound (Some Certify) old new = ReadsNoFault old new
ReadsSound (Some Expand) old new = ReadsNoFault old new
ReadsSound (Some Judge) old new = JudgeReadsNoFault old new
ReadsSound (Some Quick) old new = QuickReadsNoFault old new
ReadsSound (Some Swaps) old new = ReadsNoFault old new
ReadsSound (Some Recheck) old new = RecheckReadsNoFault old new
ReadsSound (Some Views) old new = ReadsNoFault old new
ReadsSound (Some Opaque) old new = ReadsNoFault old new
ReadsSound (Some (Drill n)) old new = ⊥
ReadsSound (Some (Focus name)) old new = FocusReadsNoFault old new

-- ---- what is printed

-- the output was written to its end
abbrev pub IsPrinted : Status → Type 0
IsPrinted statuses.Accepted = Unit {0}
IsPrinted statuses.Rejected = Unit {0}
IsPrinted statuses.BadWords = Unit {0}
IsPrinted statuses.InputFault = Unit {0}
IsPrinted statuses.ReadFault = ⊥
IsPrinted statuses.WriteFault = ⊥
IsPrinted statuses.OutOfMemory = ⊥
IsPrinted statuses.TooLarge = Unit {0}

-- a write or the flush failed, or the call was out of memory: at most a prefix of an output was
-- written, which may be all of it
abbrev pub MayBeCutShort : Status → Type 0
MayBeCutShort statuses.Accepted = ⊥
MayBeCutShort statuses.Rejected = ⊥
MayBeCutShort statuses.BadWords = ⊥
MayBeCutShort statuses.InputFault = ⊥
MayBeCutShort statuses.ReadFault = ⊥
MayBeCutShort statuses.WriteFault = Unit {0}
MayBeCutShort statuses.OutOfMemory = Unit {0}
MayBeCutShort statuses.TooLarge = ⊥

-- the known bytes grow by an output that is defined, with this status
abbrev pub Prints : Option Command → List ℕ → Status → Option (List ℕ) → Option (List ℕ) → Type 0
Prints command bytes status old new =
    (text : List ℕ) × IsOutput command bytes status text × Appends old new text

-- each output that is defined is this one
abbrev pub PrintsOnly : Option Command → List ℕ → Status → Option (List ℕ) → Option (List ℕ) →
    Type 0
PrintsOnly command bytes status old new = (other : Status) (text : List ℕ) →
    IsOutput command bytes other text → (other ≡ status) × Appends old new text

-- the known bytes grow by a prefix of an output that is defined
abbrev pub PrintsPrefix : Option Command → List ℕ → Option (List ℕ) → Option (List ℕ) → Type 0
PrintsPrefix command bytes old new = (status : Status) × (text : List ℕ)
    × IsOutput command bytes status text × AppendsPrefix old new text

-- for each output that is defined, the known bytes grow by a prefix of it
abbrev pub PrintsPrefixOnly : Option Command → List ℕ → Option (List ℕ) → Option (List ℕ) → Type 0
PrintsPrefixOnly command bytes old new = (status : Status) (text : List ℕ) →
    IsOutput command bytes status text → AppendsPrefix old new text
