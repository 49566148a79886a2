-- Meaning: the steps of the machine, and their rules.
use Rattle.std.specs.Prelude.{ℕ, List, Option, option_map}
use Rattle.pp_core.specs.declared.step.Rule.{Rule}
use Rattle.pp_core.specs.declared.step.Rule.TheVariants as rules
use Rattle.pp_core.specs.declared.step.Step.{Step as StepOf}
use Rattle.pp_core.specs.declared.step.Step.TheVariants as steps
use Rattle.pp_core.specs.Trees.{Tree, tree}

-- One act of a transaction: the transaction's name, and what the step needs.
pub data Step (Op : Type 0) : Type 0 where
  Begin : (tx thread : List ℕ) → (body : Option Tree) → Step Op
  App : (tx : List ℕ) → (id : ℕ) → (op : Op) → Step Op
  Unapp : (tx : List ℕ) → (id : ℕ) → Step Op
  Push : (tx : List ℕ) → (id : ℕ) → Step Op
  Unpush : (tx : List ℕ) → (id : ℕ) → Step Op
  Pull : (tx : List ℕ) → (id : ℕ) → Step Op
  Unpull : (tx : List ℕ) → (id : ℕ) → Step Op
  Cmt : (tx : List ℕ) → Step Op
  Quit : (tx : List ℕ) → Step Op
  Note : (tx : List ℕ) → Step Op

-- the same step, with the tree of its body
abbrev pub meaning : {Op : Type 0} → StepOf Op → Step Op
meaning (steps.Begin t p b) = Begin t p (option_map tree b)
meaning (steps.App t id op) = App t id op
meaning (steps.Unapp t id) = Unapp t id
meaning (steps.Push t id) = Push t id
meaning (steps.Unpush t id) = Unpush t id
meaning (steps.Pull t id) = Pull t id
meaning (steps.Unpull t id) = Unpull t id
meaning (steps.Cmt t) = Cmt t
meaning (steps.Quit t) = Quit t
meaning (steps.Note t) = Note t

-- the rule of a step
abbrev pub rule_of : {Op : Type 0} → Step Op → Rule
rule_of (Begin t p b) = rules.Begin
rule_of (App t id op) = rules.App
rule_of (Unapp t id) = rules.Unapp
rule_of (Push t id) = rules.Push
rule_of (Unpush t id) = rules.Unpush
rule_of (Pull t id) = rules.Pull
rule_of (Unpull t id) = rules.Unpull
rule_of (Cmt t) = rules.Cmt
rule_of (Quit t) = rules.Quit
rule_of (Note t) = rules.Note
