-- Meaning: the range of the numbers of records.
use Rattle.std.specs.Prelude.{ℤ, pos, negsuc, Bool, true, ◌&&◌, int_le}
use Rattle.pp_core.specs.declared.answer.Answer.{Answer}
use Rattle.pp_core.specs.declared.answer.Answer.TheVariants as answers
use Rattle.pp_core.specs.declared.call.Call.{Call}

-- from -10^18 to 10^18
abbrev pub in_range : ℤ → Bool
in_range x = int_le (negsuc 999_999_999_999_999_999) x && int_le x (pos 1_000_000_000_000_000_000)

-- all arguments lie in it
abbrev pub has_ranged_arguments : Call → Bool
has_ranged_arguments c = in_range c.first && in_range c.second && in_range c.third

-- a number lies in it
abbrev pub is_ranged_answer : Answer → Bool
is_ranged_answer answers.None = true
is_ranged_answer (answers.Number x) = in_range x
is_ranged_answer (answers.Truth b) = true
