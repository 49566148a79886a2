-- Meaning: the summary of a boosted run, from what a Quick keeps.
use Rattle.std.specs.Prelude.{ℕ, zero, nat_eq, List, [], map, reverse, Option, None, Some}
use Rattle.std.specs.Map.{keys_of, lookup}
use Rattle.pp_core.specs.declared.entry.Item.{Item}
use Rattle.pp_model.specs.Config.{LocalEntry, Mark, Pushed}
use Rattle.pp_model.specs.Names.{Name}
use Rattle.pp_records.specs.Fronts.{Front, new_front}
use Rattle.pp_laws_summary.specs.Summary.{OpenSummary, Summary}
use Rattle.pp_summary.specs.Shown.{Kept, filled}
use Rattle.pp_summary.specs.declared.parts.OpenTx.{OpenTx}

-- A front without sections. A boosted run needs no other.
abbrev pub no_section : Front
no_section = new_front []

-- The number, or 0 if there is none.
abbrev pub number_or_zero : Option ℕ → ℕ
number_or_zero None = zero
number_or_zero (Some n) = n

-- How many of the commits at a place were seen: none if the place has no count.
abbrev pub seen_of : List (ℕ × ℕ) → ℕ → ℕ
seen_of entries q = number_or_zero (lookup (nat_eq q) entries)

-- The entry of an operation of t, with this mark.
abbrev pub marked_entry : {Op : Type 0} → Mark → Name → Item Op → LocalEntry Op
marked_entry m t p = record { id = p.id; owner = t; mark = m; op = p.op }

-- The own entry of an operation of t, which is pushed at once.
abbrev pub own_entry : {Op : Type 0} → Name → Item Op → LocalEntry Op
own_entry t p = marked_entry Pushed t p

-- The summary of an open transaction.
abbrev pub kept_open : {Op : Type 0} → Name → OpenTx (List (Item Op)) → OpenSummary Op
kept_open t x =
    record {
      name = t;
      thread = x.thread;
      body = x.walk.body;
      own = map (own_entry t) x.own;
      seen = seen_of x.seen.entries;
      held = None;
    }

-- The summary that a Quick keeps.
abbrev pub kept_summary : {Shape Op : Type 0} → Kept Shape Op → Summary Op
kept_summary v =
    record {
      names = reverse (keys_of v.slots.entries);
      ids = reverse v.ids;
      opened = filled kept_open v.slots.entries;
      shared = v.shared.1;
      done = v.committed;
      kinds = [];
    }
