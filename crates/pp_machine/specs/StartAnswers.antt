-- Meaning: what the start of a machine returns, and what its evidence shows.
use Rattle.std.specs.Prelude.{◌≡◌, ◌<◌, ℕ, suc, List, [], ◌∷◌, ◌++◌, Some, IsTrue}
use Rattle.pp_core.specs.declared.entry.Item.{Item}
use Rattle.pp_model.specs.Config.{Start, first}
use Rattle.pp_model.specs.Lists.{In}
use Rattle.pp_model.specs.Object.{HasDistinctIds}
use Rattle.pp_model.specs.Rules.{StartBreaks, StartMeets, start_criteria}
use Rattle.pp_kind.specs.Object.{Object, rules_of}
use Rattle.pp_machine.specs.Evidence.{Fits}
use Rattle.pp_machine.specs.Machines.{Seen}
use Rattle.pp_machine.specs.Shown.{FailsAt, HoldsAtNumber, TellsFirstOther}
use Rattle.pp_machine.specs.Starts.{start_evidence}
use Rattle.pp_machine.specs.declared.detail.Detail.{Detail}
use Rattle.pp_machine.specs.declared.detail.Detail.TheVariants.{Entry}
use Rattle.pp_machine.specs.declared.machine.Outcome.{Outcome}
use Rattle.pp_machine.specs.declared.machine.Outcome.TheVariants.{Done, False}

-- It reports the first item whose id is before it.
abbrev pub TellsFirstRepeated : {Op : Type 0} → List (Item Op) → Detail Op → Type 0
TellsFirstRepeated {Op} items detail =
    (before : List (Item Op)) × (p : Item Op) × (after : List (Item Op))
    × (items ≡ before ++ p ∷ after) × HasDistinctIds before
    × (q : Item Op) × In q before × (q.id ≡ p.id) × (detail ≡ Entry p.id)

module _ {Shape State Op Undo : Type 0} (o : Object Shape State Op Undo) (shape : Shape) where
  -- The item's operation is one of the objects of the shape, in the range of records.
  abbrev pub IsAskedItem : Item Op → Type 0
  IsAskedItem p = IsTrue (o.fits shape p.op) × IsTrue (o.ranged p.op)

  -- The fact that the evidence of each criterion of the start shows, in their order.
  abbrev pub start_facts : Start Op → List (Detail Op → Type 0)
  start_facts z = TellsFirstRepeated z.items ∷ TellsFirstOther o (λ p. p) shape z.items ∷ []

  -- The start's operations are of the objects.
  abbrev pub StartFits : Start Op → Type 0
  StartFits z = (p : Item Op) → In p z.items → IsTrue (o.fits shape p.op)

  -- The evidence of the first false criterion of a start shows that it is false.
  pub record StartEvidenceLaw : Type 0 where
    -- the fact of the first false criterion is true for its evidence
    pub shows : (z : Start Op) (n : ℕ) → StartFits z
        → StartBreaks (rules_of o shape) (Some z) (suc n)
        → HoldsAtNumber o (start_facts z) (suc n) (start_evidence o shape z (suc n))
    -- if the fact of a criterion is true for a detail, the criterion is false
    pub refutes : (z : Start Op) (n : ℕ) (detail : Detail Op)
        → HoldsAtNumber o (start_facts z) (suc n) detail
        → FailsAt (start_criteria (rules_of o shape) (Some z)) (suc n)
    -- it reports no operation, so what is printed of it is of the objects
    pub fits : (z : Start Op) (n : ℕ) → Fits o shape (start_evidence o shape z n)

module _ {Shape State Op Undo : Type 0} (o : Object Shape State Op Undo) where
  -- `Done` comes with the configuration before the first step if each criterion is true. `False`
  -- comes with the number of the first false one and its evidence, and the machine is as it was.
  abbrev pub Started : Seen Shape Op → Start Op → Outcome Op → Seen Shape Op → Type 0
  Started old z Done new =
      StartMeets (rules_of o old.shape) (Some z)
      × (new ≡ record { shape = old.shape; config = first (Some z); count = 0 })
  Started old z (False n detail) new =
      StartBreaks (rules_of o old.shape) (Some z) n × (0 < n) × (new ≡ old)
      × (detail ≡ start_evidence o old.shape z n)

  -- The fact that the evidence of a refused start shows.
  abbrev pub IsStartShown : Seen Shape Op → Start Op → Outcome Op → Type 0
  IsStartShown old z Done = Unit {0}
  IsStartShown old z (False n detail) =
      HoldsAtNumber o (start_facts o old.shape z) n detail × Fits o old.shape detail
