use Rattle.std.proofs.Common.{◌≡◌, ◌==◌, ℕ, take}
use Rattle.std.specs.List.{list_any}
use Rattle.pp_model.specs.Serial.{has_id}
use Rattle.pp_violations.proofs.view.first_ids.Given as goal

-- The ids so far.
abbrev pub invariant-loop-k : goal.invariant-loop-k
invariant-loop-k l = (j : ℕ) → list_any (λ i. j == i) l.set ≡ has_id j (take l.k l.ids)
