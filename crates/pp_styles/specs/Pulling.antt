-- Proof machinery: the pull of one entry.
use Rattle.std.specs.Prelude.{ℕ, ◌==◌, Bool, List, [], ◌∷◌}
use Rattle.std.specs.Prelude.{if◌then◌else◌}
use Rattle.pp_core.specs.Steps.{Step, Pull}
use Rattle.pp_core.specs.declared.entry.LocalEntry.{LocalEntry}
use Rattle.pp_core.specs.declared.entry.SharedEntry.{SharedEntry}
use Rattle.pp_model.specs.Names.{Name}
use Rattle.pp_records.specs.Expansions.{is_followed, stands_in}

-- no step if the entry is there, and else its PULL
abbrev pub pull_unless : {Op : Type 0} → Bool → Name → ℕ → List (Step Op)
pull_unless there t id = if there then [] else Pull t id ∷ []

-- the same of an entry that is followed
abbrev pub pull_followed : {Op : Type 0} → List Name → List (LocalEntry Op) → Name →
    SharedEntry Op → List (Step Op)
pull_followed sources l t g =
    if is_followed sources g then pull_unless (stands_in l g.id) t g.id else []

-- the same of an entry that is on the object
abbrev pub pull_on : {Op : Type 0} → (Op → ℕ) → ℕ → List Name → List (LocalEntry Op) → Name →
    SharedEntry Op → List (Step Op)
pull_on place o sources l t g =
    if place g.op == o then pull_followed sources l t g else []
