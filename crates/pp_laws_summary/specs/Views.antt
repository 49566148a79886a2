-- Meaning: what the shared log G and a local log L have of an object.
use Rattle.std.specs.Prelude.{◌≡◌, ◌==◌, ℕ, true, not, ◌&&◌, List, filter, length}
use Rattle.pp_model.specs.Config.{LocalEntry, Pulled, SharedEntry, is_mark, is_own, local_ops}
use Rattle.pp_model.specs.Lists.{In}
use Rattle.pp_records.specs.Expansions.{stands_in}
use Rattle.pp_laws_summary.specs.Places.{ops_at}

-- the committed entries of G on the object o, in the order of G
abbrev pub done_at : {Op : Type 0} → (Op → ℕ) → ℕ → List (SharedEntry Op) → List (SharedEntry Op)
done_at place o G = filter (λ g. g.committed && (place g.op == o)) G

-- those that L lacks
abbrev pub missing_at : {Op : Type 0} → (Op → ℕ) → ℕ → List (SharedEntry Op) →
    List (LocalEntry Op) → List (SharedEntry Op)
missing_at place o G l =
    filter (λ g. (g.committed && (place g.op == o)) && not (stands_in l g.id)) G

-- the pulled entries of L on the object, in the order of L
abbrev pub pulled_at : {Op : Type 0} → (Op → ℕ) → ℕ → List (LocalEntry Op) → List (LocalEntry Op)
pulled_at place o l = filter (λ e. is_mark e.mark Pulled && (place e.op == o)) l

-- how many these are
abbrev pub seen_at : {Op : Type 0} → (Op → ℕ) → ℕ → List (LocalEntry Op) → ℕ
seen_at place o l = length (pulled_at place o l)

-- the operations of L on the object, in the order of L
abbrev pub log_at : {Op : Type 0} → (Op → ℕ) → ℕ → List (LocalEntry Op) → List Op
log_at place o l = ops_at place o (local_ops l)

-- an own entry of L on the object
abbrev pub IsOwnAt : {Op : Type 0} → (Op → ℕ) → ℕ → List (LocalEntry Op) → LocalEntry Op → Type 0
IsOwnAt place o l a = In a l × (is_own a.mark ≡ true) × (place a.op ≡ o)
