-- Meaning: the report of a run, line by line.
use Rattle.std.specs.Prelude.{ℕ, List, [], ◌++◌, length, codes}
use Rattle.std.specs.Fmt.{decimal}
use Rattle.std.specs.List.{flat_map}
use Rattle.pp_core.specs.Catalogs.{Objects}
use Rattle.pp_core.specs.Words.{rule_word}
use Rattle.pp_core.specs.declared.entry.CommittedTx.{CommittedTx}
use Rattle.pp_core.specs.declared.step.Rule.{Rule}
use Rattle.pp_model.specs.Lists.{Each}
use Rattle.pp_objects.specs.declared.act.Op.{Op}
use Rattle.pp_objects.specs.declared.states.ObjectState.{ObjectState}
use Rattle.pp_objects.specs.Objects.{kinds_of, objects}
use Rattle.pp_machine.specs.Evidence.{Fits}
use Rattle.pp_machine.specs.declared.detail.Detail.{Detail}
use Rattle.pp_machine.specs.declared.detail.Detail.TheVariants.{Nothing, Entry, Gives, Swap}
use Rattle.pp_text.specs.Lines.{line, op_line, state_lines}
use Rattle.pp_text.specs.Texts.{answer_bytes, op_bytes, EachNamed}

-- the first line of an accepted run, with the number of its steps and of its committed transactions
abbrev pub accepted_line : ℕ → ℕ → List ℕ
accepted_line steps count =
    line (codes "accepted steps " ++ decimal steps ++ codes " committed " ++ decimal count)

-- the lines of a committed transaction
abbrev pub tx_lines : Objects → CommittedTx Op → List ℕ
tx_lines catalog tx = line (codes "tx " ++ tx.name) ++ flat_map (op_line catalog) tx.entries

-- the lines of committed transactions, in their order
abbrev pub all_tx_lines : Objects → List (CommittedTx Op) → List ℕ
all_tx_lines catalog committed = flat_map (tx_lines catalog) committed

-- the objects that the operations of committed transactions name are in the catalog, with the kinds
-- of their acts
abbrev pub AreNamed : Objects → List (CommittedTx Op) → Type 0
AreNamed catalog committed = Each (λ tx. EachNamed catalog tx.entries) committed

-- the report of an accepted run
abbrev pub accepted_text : Objects → ℕ → List (CommittedTx Op) → List ObjectState → List ℕ
accepted_text catalog steps committed states =
    accepted_line steps (length committed) ++ all_tx_lines catalog committed
    ++ state_lines catalog states

-- the position of the failed step: its number, and the line of its record
abbrev pub rejected_place : ℕ → ℕ → List ℕ
rejected_place step at_line =
    codes "rejected step " ++ decimal step ++ codes " line " ++ decimal at_line

-- its rule, and the number of the criterion that fails
abbrev pub rejected_rule : Rule → ℕ → List ℕ
rejected_rule rule criterion =
    codes " " ++ rule_word rule ++ codes " " ++ decimal criterion

-- the first line of a rejected run
abbrev pub rejected_line : ℕ → ℕ → Rule → ℕ → List ℕ
rejected_line step at_line rule criterion =
    line (rejected_place step at_line ++ rejected_rule rule criterion)

-- an operation after a space
abbrev pub spaced_bytes : Objects → Op → List ℕ
spaced_bytes catalog op = codes " " ++ op_bytes catalog op

-- operations, each after a space
abbrev pub ops_bytes : Objects → List Op → List ℕ
ops_bytes catalog ops = flat_map (spaced_bytes catalog) ops

-- the entry that the evidence is of
abbrev pub entry_bytes : ℕ → List ℕ
entry_bytes id = codes "entry " ++ decimal id

-- a line of operations after a word
abbrev pub ops_line : Objects → List ℕ → List Op → List ℕ
ops_line catalog word ops = line (word ++ ops_bytes catalog ops)

-- the lines of the evidence of a rejection
abbrev pub detail_text : Objects → Detail Op → List ℕ
detail_text catalog Nothing = []
detail_text catalog (Entry id) = line (entry_bytes id)
detail_text catalog (Gives id answer) =
    line (entry_bytes id ++ codes " gives " ++ answer_bytes answer)
detail_text catalog (Swap id context) =
    line (entry_bytes id) ++ ops_line catalog (codes "before") context.before
    ++ ops_line catalog (codes "after") context.after

-- the objects that the evidence names are in the catalog, with the kinds of their acts
abbrev pub IsDetailNamed : Objects → Detail Op → Type 0
IsDetailNamed catalog detail = Fits objects (kinds_of catalog) detail

-- the report of a rejected run
abbrev pub rejected_text : Objects → ℕ → ℕ → Rule → ℕ → Detail Op → List ℕ
rejected_text catalog step at_line rule criterion detail =
    rejected_line step at_line rule criterion ++ detail_text catalog detail
