-- Meaning: what notes on the open transactions of a machine say.
use Rattle.std.specs.Prelude.{◌==◌, ℕ, List, [], Option, None, Some, if◌then◌else◌, nat_eq}
use Rattle.std.specs.Map.{lookup}
use Rattle.std.specs.Str.{bytes_eq}
use Rattle.pp_model.specs.Names.{Name}
use Rattle.pp_styles.specs.Counting.{count_of, kept_count}
use Rattle.pp_styles.specs.Knowing.{Knowledge}
use Rattle.pp_styles.specs.declared.notes.Notes.{Notes}

-- what is kept, and nothing if none is
abbrev pub kept_ids : Option (List ℕ) → List ℕ
kept_ids None = []
kept_ids (Some ids) = ids

abbrev pub kept_counts : Option (List (ℕ × ℕ)) → List (ℕ × ℕ)
kept_counts None = []
kept_counts (Some counts) = counts

-- the ids of the committed entries on an object
abbrev pub ids_in : ℕ → List (ℕ × List ℕ) → List ℕ
ids_in o committed = kept_ids (lookup (nat_eq o) committed)

-- how many of them, from the first on, a transaction need not look at again
abbrev pub taken_in : Name → List (Name × List (ℕ × ℕ)) → ℕ → ℕ
taken_in t taken o = count_of (kept_counts (lookup (bytes_eq t) taken)) o

-- how many entries of its local log, from the first on, are known not to be unpushed
abbrev pub pushed_in : Name → List (Name × ℕ) → ℕ
pushed_in t pushed = kept_count (lookup (bytes_eq t) pushed)

-- the list at one object, and the others as they were
abbrev pub at_object : ℕ → List ℕ → (ℕ → List ℕ) → ℕ → List ℕ
at_object object ids old o = if o == object then ids else old o

-- what the notes say
abbrev pub known : Notes → Knowledge
known n =
    record {
      ids = λ o. ids_in o n.committed.entries;
      taken = λ u. taken_in u n.taken.entries;
      pushed = λ u. pushed_in u n.pushed.entries;
    }
