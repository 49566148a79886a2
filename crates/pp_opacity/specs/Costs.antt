-- Meaning: how far the search for the first zombie raises the counter of operations that are applied
-- or taken back.
use Rattle.std.specs.Prelude.{◌+◌, ◌-◌, ◌*◌, ℕ, List, length, sum_by, take, Option}
use Rattle.pp_model.specs.Config.{CommittedTx, Start, Step}
use Rattle.pp_model.specs.Sound.{serial_ops}
use Rattle.pp_laws_opacity.specs.Questions.{Question, questions}

-- how many operations the first n of these transactions have
abbrev pub operations_of : {Op : Type 0} → List (CommittedTx Op) → ℕ → ℕ
operations_of committed n = length (serial_ops (take n committed))

-- What a question costs at most: twice its items for each number in its window, and twice the
-- operations of the transactions that committed in the window.
abbrev pub asking_at_most : {Op : Type 0} → List (CommittedTx Op) → Question Op → ℕ
asking_at_most committed q =
    2 * ((q.most + 1 - q.least) * length q.items)
    + 2 * (operations_of committed q.most - operations_of committed q.least)

-- What the search costs at most: one for each committed operation, and what the questions of the
-- run cost.
abbrev pub searching_at_most : {Op : Type 0} → Option (Start Op) → List (Step Op)
    → List (CommittedTx Op) → ℕ
searching_at_most h ss committed =
    length (serial_ops committed) + sum_by (asking_at_most committed) (questions h ss)
