-- Proof machinery: how many steps a record has, by what is kept.
use Rattle.std.specs.Prelude.{◌≡◌, ◌≤◌, ◌==◌, ◌&&◌, ℕ, zero, nat_eq, Bool, not, cond, List, length}
use Rattle.std.specs.List.{list_any}
use Rattle.pp_core.specs.declared.call.Kind.{Kind}
use Rattle.pp_core.specs.declared.call.Style.TheVariants.{Optimistic}
use Rattle.pp_core.specs.declared.entry.Item.{Item}
use Rattle.pp_laws_summary.specs.Counts.{record_steps}
use Rattle.pp_records.specs.Records.{RunRecord}
use Rattle.pp_summary.specs.declared.parts.OpenTx.{OpenTx}
use Rattle.pp_snapshots.specs.Past.{made_at}
use Rattle.pp_snapshots.specs.Shown.{Kept, seen_in, shown}

-- all, if none was seen and there is no own operation, and else none
abbrev pub pulls_first : ℕ → Bool → ℕ → ℕ
pulls_first seen own all = cond (nat_eq seen zero && not own) all 0

-- how many commits at a place the first operation there pulls; a later one pulls none
abbrev pub first_pulls : {Shape State Op Undo : Type 0} → (Op → ℕ) → Kept Shape State Op Undo →
    ℕ → OpenTx (List (Item Op)) → ℕ
first_pulls place v q x =
    pulls_first (seen_in x.seen.entries q) (list_any (λ p. place p.op == q) x.own)
    (length (made_at q v.past.places.items))

-- The record has so many steps, by the summary that is shown.
abbrev pub CountsAs : {Shape State Op Undo : Type 0} → (Op → ℕ) → Kept Shape State Op Undo →
    RunRecord Op → ℕ → Type 0
CountsAs place v r n = (ks : List Kind) → n ≡ record_steps place Optimistic (shown ks v) r

-- no more of a place was seen than was committed there
abbrev pub SawNoMore : {Shape State Op Undo : Type 0} → Kept Shape State Op Undo → ℕ →
    OpenTx (List (Item Op)) → Type 0
SawNoMore v q x = seen_in x.seen.entries q ≤ length (made_at q v.past.places.items)
