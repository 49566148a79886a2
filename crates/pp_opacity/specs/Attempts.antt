-- Proof machinery: the attempts of the transactions, as they are kept.
use Rattle.std.specs.Prelude.{ℕ, List, [], Option, None, Some}
use Rattle.std.specs.Map.{lookup}
use Rattle.std.specs.Str.{bytes_eq}
use Rattle.pp_model.specs.Names.{Name}
use Rattle.pp_model.specs.Object.{Item}
pub use Rattle.pp_opacity.specs.declared.attempts.Excluded.{Excluded}
pub use Rattle.pp_opacity.specs.declared.attempts.OpenAttempt.{OpenAttempt}

-- no numbers of commits
abbrev pub excludes_none : Excluded
excludes_none = record { after = 0; up_to = 0 }

-- the own list of an attempt that may be kept
abbrev pub own_kept : {Op : Type 0} → Option (OpenAttempt Op) → List (Item Op)
own_kept None = []
own_kept (Some attempt) = attempt.own.items

-- how many transactions had committed when it began
abbrev pub least_kept : {Op : Type 0} → Option (OpenAttempt Op) → ℕ
least_kept None = 0
least_kept (Some attempt) = attempt.least

-- numbers of commits that do not explain its own list
abbrev pub excluded_kept : {Op : Type 0} → Option (OpenAttempt Op) → Excluded
excluded_kept None = excludes_none
excluded_kept (Some attempt) = attempt.excluded

-- the own list that is kept of this transaction
abbrev pub own_in : {Op : Type 0} → Name → List (Name × OpenAttempt Op) → List (Item Op)
own_in t entries = own_kept (lookup (bytes_eq t) entries)

-- how many transactions had committed when its attempt began, as it is kept
abbrev pub least_in : {Op : Type 0} → Name → List (Name × OpenAttempt Op) → ℕ
least_in t entries = least_kept (lookup (bytes_eq t) entries)

-- numbers of commits that do not explain its own list, as they are kept
abbrev pub excluded_in : {Op : Type 0} → Name → List (Name × OpenAttempt Op) → Excluded
excluded_in t entries = excluded_kept (lookup (bytes_eq t) entries)
