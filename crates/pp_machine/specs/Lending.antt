-- Proof machinery: what the lender of a course ends as, once the course is given back.
use Rattle.std.specs.Prelude.{ℕ, Option}
use Rattle.std.specs.Borrow.{Fml, RattleType, MutBor, LendsIf}
use Rattle.std.specs.declared.clone.Clone.{Ghosts}
use Rattle.pp_model.specs.Names.{Name}
use Rattle.pp_kind.specs.declared.label.Label.{Label}
use Rattle.pp_kind.specs.declared.part.Part.{Part}
use Rattle.pp_kind.specs.Object.{Object}
use Rattle.pp_machine.specs.Courses.{Guided}
use Rattle.pp_machine.specs.Transactions.{Txs, with_course}
use Rattle.pp_machine.specs.contracts.course.Course as course
use Rattle.pp_machine.specs.contracts.transactions.Transactions as txs

module _ (S Shape State Op Undo Gap : RattleType)
    (object : Object Shape.Denot State.Denot Op.Denot Undo.Denot)
    (Bears : Gap.Denot → State.Denot → Type 0)
    (Differ : Gap.Denot → State.Denot → State.Denot → Type 0)
    (place_of : Op.Denot → ℕ) (SameAt : ℕ → State.Denot → State.Denot → Type 0)
    (part_of : Op.Denot → Part) (label_of : Op.Denot → Label) (clone : Ghosts Op.Denot) where
  -- the types of the transactions and of a course, as the logic holds them
  abbrev txs_row : RattleType
  txs_row =
      txs.the_row S Shape State Op Undo Gap (record { part_of = part_of; label_of = label_of })
      (record { place_of = place_of; SameAt = SameAt }) (record { object = object }) clone
      (record { Bears = Bears; Differ = Differ })

  abbrev course_row : RattleType
  course_row =
      course.the_row S Shape State Op Undo Gap (record { part_of = part_of; label_of = label_of })
      (record { place_of = place_of; SameAt = SameAt }) (record { object = object }) clone
      (record { Bears = Bears; Differ = Differ })

  -- The open transaction t ends with the last course written through r, and all else stays.
  abbrev pub LendsCourse : MutBor (Txs Shape.Denot Op.Denot) → Name →
      Option (MutBor (Guided Shape.Denot Op.Denot)) → Fml
  LendsCourse s t r = LendsIf txs_row course_row s r (λ k. with_course t k s.now) s.now
