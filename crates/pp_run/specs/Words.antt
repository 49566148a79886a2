-- Meaning: the words of a command.
use Rattle.std.specs.Prelude.{◌≡◌, ◌≤◌, ◌↔◌, ℕ, ◌&&◌, nat_le, List, [], ◌∷◌, codes}
use Rattle.std.specs.Prelude.{if◌then◌else◌, Option, None, Some, option_map}
use Rattle.std.specs.Fmt.{decimal}
use Rattle.std.specs.Str.{bytes_eq}
use Rattle.std.specs.Str.Parse.{digits_value}
use Rattle.pp_format_read.specs.Members.{name_from}
use Rattle.pp_run.specs.declared.words.Command.{Command}
use Rattle.pp_run.specs.declared.words.Command.TheVariants.{Certify, Drill, Expand, Focus, Judge}
use Rattle.pp_run.specs.declared.words.Command.TheVariants.{Opaque, Quick, Recheck, Swaps, Views}

-- the command of one argument
abbrev pub command_named : List ℕ → Option Command
command_named word =
    if bytes_eq word (codes "certify") then Some Certify
    else if bytes_eq word (codes "expand") then Some Expand
    else if bytes_eq word (codes "judge") then Some Judge
    else if bytes_eq word (codes "quick") then Some Quick
    else if bytes_eq word (codes "swaps") then Some Swaps
    else if bytes_eq word (codes "recheck") then Some Recheck
    else if bytes_eq word (codes "views") then Some Views
    else if bytes_eq word (codes "opaque") then Some Opaque else None

-- the number of transactions that an argument states: 1 to 20,000, written in decimal digits
abbrev pub drill_number : List ℕ → Option ℕ
drill_number word =
    let n = digits_value 10 word in
    if bytes_eq word (decimal n) && (nat_le 1 n && nat_le n 20_000) then Some n else None

-- An argument states a number exactly if it is written so, and the number is from 1 to 20,000.
abbrev pub DrillNumberLaw : Type 0
DrillNumberLaw = (word : List ℕ) (n : ℕ) →
    (drill_number word ≡ Some n) ↔ ((word ≡ decimal n) × (1 ≤ n) × (n ≤ 20_000))

-- the command of two arguments: `drill` and a number, or `focus` and a name
abbrev pub command_with : List ℕ → List ℕ → Option Command
command_with word argument =
    if bytes_eq word (codes "drill") then option_map (λ n. Drill n) (drill_number argument)
    else if bytes_eq word (codes "focus") then option_map (λ name. Focus name) (name_from argument)
    else None

-- the command that the arguments are; a command has one or two
abbrev pub command_of : List (List ℕ) → Option Command
command_of [] = None
command_of (word ∷ []) = command_named word
command_of (word ∷ argument ∷ []) = command_with word argument
command_of (word ∷ argument ∷ more ∷ words) = None

-- the command reads an input
abbrev pub Reads : Option Command → Type 0
Reads None = ⊥
Reads (Some Certify) = Unit {0}
Reads (Some Expand) = Unit {0}
Reads (Some Judge) = Unit {0}
Reads (Some Quick) = Unit {0}
Reads (Some Swaps) = Unit {0}
Reads (Some Recheck) = Unit {0}
Reads (Some Views) = Unit {0}
Reads (Some Opaque) = Unit {0}
Reads (Some (Drill n)) = ⊥
Reads (Some (Focus name)) = Unit {0}

-- The command drives the machine through the run of its input, and rejects nothing else. So a
-- rejection has evidence, of the start or of a step. `opaque` also rejects accepted runs that are
-- not opaque.
abbrev pub DrivesMachine : Option Command → Type 0
DrivesMachine None = ⊥
DrivesMachine (Some Certify) = Unit {0}
DrivesMachine (Some Expand) = Unit {0}
DrivesMachine (Some Judge) = ⊥
DrivesMachine (Some Quick) = ⊥
DrivesMachine (Some Swaps) = Unit {0}
DrivesMachine (Some Recheck) = ⊥
DrivesMachine (Some Views) = Unit {0}
DrivesMachine (Some Opaque) = ⊥
DrivesMachine (Some (Drill n)) = ⊥
DrivesMachine (Some (Focus name)) = ⊥

-- the output of the command may be above a limit: it is a certificate, or views
abbrev pub TellsSize : Option Command → Type 0
TellsSize None = ⊥
TellsSize (Some Certify) = ⊥
TellsSize (Some Expand) = ⊥
TellsSize (Some Judge) = ⊥
TellsSize (Some Quick) = ⊥
TellsSize (Some Swaps) = Unit {0}
TellsSize (Some Recheck) = ⊥
TellsSize (Some Views) = Unit {0}
TellsSize (Some Opaque) = ⊥
TellsSize (Some (Drill n)) = ⊥
TellsSize (Some (Focus name)) = ⊥
