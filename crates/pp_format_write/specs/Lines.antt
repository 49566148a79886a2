-- Meaning: what a line may hold, and how long the line of a step may be.
use Rattle.std.specs.Prelude.{◌≤◌, ℕ, List, [], ◌∷◌, None, Some}
use Rattle.pp_core.specs.Steps.{Step, Begin, App, Unapp, Push, Unpush, Pull, Unpull, Cmt, Quit}
use Rattle.pp_core.specs.Steps.{Note}

-- No byte is below 32, so no line end is among them.
abbrev pub IsOneLine : List ℕ → Type 0
IsOneLine [] = Unit {0}
IsOneLine (b ∷ bs) = (32 ≤ b) × IsOneLine bs

-- how many bytes the line of a step has at most
abbrev pub most_bytes : {Op : Type 0} → Step Op → ℕ
most_bytes (Begin tx thread (Some body)) = 7_840
most_bytes (Begin tx thread None) = 230
most_bytes (App tx id op) = 230
most_bytes (Unapp tx id) = 230
most_bytes (Push tx id) = 230
most_bytes (Unpush tx id) = 230
most_bytes (Pull tx id) = 230
most_bytes (Unpull tx id) = 230
most_bytes (Cmt tx) = 230
most_bytes (Quit tx) = 230
most_bytes (Note tx) = 230
