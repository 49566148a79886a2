-- Meaning: what a step returns.
use Rattle.std.specs.Prelude.{◌≡◌, ◌<◌, Result}
use Rattle.std.specs.Prelude.{IfOk, IsTrue}
use Rattle.pp_core.specs.Trees.{IsWithinLimits}
use Rattle.pp_core.specs.Steps.{Step, Begin, App, Unapp, Push, Unpush, Pull, Unpull, Cmt, Quit}
use Rattle.pp_core.specs.Steps.{Note}
use Rattle.pp_model.specs.Rules.{Breaks, Meets}
use Rattle.pp_kind.specs.Object.{Object, rules_of}
use Rattle.pp_machine.specs.Evidence.{evidence}
use Rattle.pp_machine.specs.declared.machine.Outcome.{Outcome}
use Rattle.pp_machine.specs.declared.machine.Outcome.TheVariants.{Done, False}
use Rattle.pp_machine.specs.Machines.{Seen, stepped}

-- The precondition of a step: a body within the limits, and an operation of the shape, in the range
-- of records.
abbrev pub IsAsked : {Shape State Op Undo : Type 0} → Object Shape State Op Undo → Shape → Step Op →
    Type 0
IsAsked o shape (Begin t p b) = IsWithinLimits b
IsAsked o shape (App t id op) = IsTrue (o.fits shape op) × IsTrue (o.ranged op)
IsAsked o shape (Unapp t id) = Unit {0}
IsAsked o shape (Push t id) = Unit {0}
IsAsked o shape (Unpush t id) = Unit {0}
IsAsked o shape (Pull t id) = Unit {0}
IsAsked o shape (Unpull t id) = Unit {0}
IsAsked o shape (Cmt t) = Unit {0}
IsAsked o shape (Quit t) = Unit {0}
IsAsked o shape (Note t) = Unit {0}

-- `Done` comes with the effect if each criterion is true. `False` comes with the number of the
-- first false one and its evidence, and the machine is as it was.
abbrev pub Stepped : {Shape State Op Undo : Type 0} → Object Shape State Op Undo → Seen Shape Op →
    Step Op → Outcome Op → Seen Shape Op → Type 0
Stepped o old step Done new =
    Meets (rules_of o old.shape) old.config step × (new ≡ stepped old step)
Stepped o old step (False n detail) new =
    Breaks (rules_of o old.shape) old.config step n × (0 < n) × (new ≡ old)
    × (detail ≡ evidence o old.shape old.config step n)

-- The result of doing a step, unless memory ran out: the machine after the step, and its outcome.
abbrev pub Does : {Shape State Op Undo E : Type 0} → Object Shape State Op Undo → Seen Shape Op →
    Step Op →
    Result (Seen Shape Op × Outcome Op) E → Type 0
Does o old step result = IfOk result (λ r. Stepped o old step r.1 r.0)

-- The step needs no memory.
abbrev pub NeedsNoMemory : {Op : Type 0} → Step Op → Type 0
NeedsNoMemory (Begin t p b) = ⊥
NeedsNoMemory (App t id op) = ⊥
NeedsNoMemory (Unapp t id) = ⊥
NeedsNoMemory (Push t id) = ⊥
NeedsNoMemory (Unpush t id) = ⊥
NeedsNoMemory (Pull t id) = ⊥
NeedsNoMemory (Unpull t id) = ⊥
NeedsNoMemory (Cmt t) = ⊥
NeedsNoMemory (Quit t) = Unit {0}
NeedsNoMemory (Note t) = Unit {0}
