-- Meaning: what taking a record of an optimistic run costs at most, and which records of a run are
-- tried, by the summaries.
use Rattle.std.specs.Prelude.{◌≡◌, ◌⊎◌, ◌&&◌, ◌+◌, ◌*◌, ℕ, Bool, zero, nat_eq, nat_le, cond}
use Rattle.std.specs.Prelude.{List, [], ◌∷◌, drop, filter, length, take, Option}
use Rattle.std.specs.Prelude.{None, Some}
use Rattle.std.specs.List.{list_any}
use Rattle.pp_core.specs.declared.call.Style.TheVariants.{Optimistic}
use Rattle.pp_laws_summary.specs.LocalLogs.{serial_at}
use Rattle.pp_laws_summary.specs.Places.{ops_at}
use Rattle.pp_laws_summary.specs.Summary.{OpenSummary, Summary, SummaryGood, next_summary}
use Rattle.pp_laws_summary.specs.Summary.{open_named}
use Rattle.pp_kind.specs.declared.part.Part.{Part}
use Rattle.pp_kind_parts.specs.Alone.{same_part}
use Rattle.pp_model.specs.Config.{local_ops}
use Rattle.pp_model.specs.Object.{Object, ops}
use Rattle.pp_records.specs.Records.{RunRecord}
use Rattle.pp_records.specs.Records as records

-- ---- one record

-- whether one of these operations is of the part of another
abbrev pub has_part : {Op : Type 0} → (Op → Part) → Op → List Op → Bool
has_part part op l = list_any (λ a. same_part (part a) (part op)) l

-- whether operations of two lists are of one part
abbrev pub share_part : {Op : Type 0} → (Op → Part) → List Op → List Op → Bool
share_part part l later = list_any (λ b. has_part part b l) later

-- those of the part of another
abbrev pub ops_of_part : {Op : Type 0} → (Op → Part) → Op → List Op → List Op
ops_of_part part op l = filter (λ a. same_part (part a) (part op)) l

-- the own operations of a transaction at a place
abbrev pub own_at : {Op : Type 0} → (Op → ℕ) → OpenSummary Op → ℕ → List Op
own_at place x q = ops_at place q (local_ops x.own)

-- the committed operations at a place that a transaction has not seen
abbrev pub unseen_at : {Op : Type 0} → (Op → ℕ) → Summary Op → OpenSummary Op → ℕ → List Op
unseen_at place B x q = drop (x.seen q) (ops (serial_at place q B.done))

-- The committed operations at a place that are later for an operation: those that the transaction
-- has not seen, and none if it has seen none there and has no own operation there.
abbrev pub later_at : {Op : Type 0} → (Op → ℕ) → Summary Op → OpenSummary Op → ℕ → List Op
later_at place B x q =
    cond (nat_eq (x.seen q) zero && nat_eq (length (own_at place x q)) zero) []
    (unseen_at place B x q)

-- After how many commits at a place an operation is tried: after those that the transaction has seen, or
-- after all if it has seen none there and has no own operation there.
abbrev pub tried_behind : {Op : Type 0} → (Op → ℕ) → Summary Op → OpenSummary Op → ℕ → ℕ
tried_behind place B x q =
    cond (nat_eq (x.seen q) zero && nat_eq (length (own_at place x q)) zero)
    (length (ops (serial_at place q B.done))) (x.seen q)

-- the operations of these commits
abbrev pub first_at : {Op : Type 0} → (Op → ℕ) → Summary Op → OpenSummary Op → ℕ → List Op
first_at place B x q = take (tried_behind place B x q) (ops (serial_at place q B.done))

-- How many operations are tried with an operation of whose part some are later. If no more of its part
-- are in the snapshot than are later, they are these, and the own ones of its part. Otherwise they are
-- all later ones at its place, and the own ones there.
abbrev pub tried_missed : {Op : Type 0} → (Op → ℕ) → (Op → Part) → Op → List Op → List Op →
    List Op → ℕ
tried_missed place part op first later own =
    cond (nat_le (length (ops_of_part part op first)) (length later))
    (length (ops_of_part part op first) + length (ops_of_part part op own))
    (length later + length (ops_at place (place op) own))

-- How many operations are tried with an operation: none if its call has no result, and else the own
-- ones of its part. But if a later one is of its part, they are those above.
abbrev pub tried_with : {Op : Type 0} → (Op → ℕ) → (Op → Part) → (Op → Bool) → Summary Op →
    OpenSummary Op → Op → ℕ
tried_with place part silent B x op =
    cond (silent op) 0
    (cond (has_part part op (later_at place B x (place op)))
    (tried_missed place part op (first_at place B x (place op)) (later_at place B x (place op))
    (local_ops x.own))
    (length (ops_of_part part op (local_ops x.own))))

-- How many operations are tried for a refresh of an object: none, if no own operation there is of the
-- part of one that was not seen. Else they are the own ones and twice those that were not seen.
abbrev pub tried_for : {Op : Type 0} → (Op → ℕ) → (Op → Part) → Summary Op → OpenSummary Op → ℕ → ℕ
tried_for place part B x q =
    cond (share_part part (own_at place x q) (unseen_at place B x q))
    (length (unseen_at place B x q)
    + (length (own_at place x q) + length (unseen_at place B x q))) 0

-- the number, or 0 if the transaction is not open
abbrev pub of_open : {A : Type 0} → Option A → (A → ℕ) → ℕ
of_open None most = 0
of_open (Some x) most = most x

-- What a record costs at most, whatever is returned: each operation that is tried is applied and taken
-- back once.
abbrev pub take_most : {Op : Type 0} → (Op → ℕ) → (Op → Part) → (Op → Bool) → Summary Op →
    RunRecord Op → ℕ
take_most place part silent B (records.Plain step) = 0
take_most place part silent B (records.Op t id op) =
    of_open (open_named t B.opened) (λ x. 2 * (tried_with place part silent B x op + 1))
take_most place part silent B (records.Commit t) =
    of_open (open_named t B.opened) (λ x. 2 * length x.own)
take_most place part silent B (records.Abort t) = 0
take_most place part silent B (records.Retry t) = 0
take_most place part silent B (records.Refresh t q) =
    of_open (open_named t B.opened) (λ x. 2 * tried_for place part B x q)
take_most place part silent B (records.XBegin t) = 0
take_most place part silent B (records.XEnd t) = 0
take_most place part silent B (records.XAbort t) = 0
take_most place part silent B (records.Depend t source) = 0
take_most place part silent B (records.Publish t) = 0
take_most place part silent B (records.DropSource t source) = 0

-- ---- the records of a run

-- what these records cost at most, one after another
abbrev pub records_most : {Op : Type 0} → (Op → ℕ) → (Op → Part) → (Op → Bool) → Summary Op →
    List (RunRecord Op) → ℕ
records_most place part silent B [] = 0
records_most place part silent B (r ∷ rs) =
    take_most place part silent B r
    + records_most place part silent (next_summary place Optimistic B r) rs

-- The tried records are all up to the first that is not good, this one included, or all if each is
-- good.
abbrev pub AreTried : {Op State : Type 0} → Object Op State → (Op → ℕ) → Summary Op →
    List (RunRecord Op) → List (RunRecord Op) → Type 0
AreTried O place B [] tried = tried ≡ []
AreTried {Op = Op} O place B (r ∷ rs) tried =
    ((SummaryGood Optimistic O place B r → ⊥) × (tried ≡ r ∷ []))
    ⊎ (SummaryGood Optimistic O place B r × ((rest : List (RunRecord Op))
    × AreTried O place (next_summary place Optimistic B r) rs rest × (tried ≡ r ∷ rest)))
