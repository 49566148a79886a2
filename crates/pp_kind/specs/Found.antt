-- Meaning: the results of calls that find a number or nothing.
use Rattle.std.specs.Prelude.{ℤ, Bool, true, Option, Some, None}
use Rattle.pp_core.specs.declared.answer.Answer.{Answer}
use Rattle.pp_core.specs.declared.answer.Answer.TheVariants as answers
use Rattle.pp_kind.specs.Numbers.{in_range}

-- the result of a call that found this
abbrev pub answer_of : Option ℤ → Answer
answer_of None = answers.None
answer_of (Some x) = answers.Number x

-- the value that was found, if any, is in the range of records
abbrev pub is_ranged_found : Option ℤ → Bool
is_ranged_found None = true
is_ranged_found (Some x) = in_range x
