-- Proof machinery: the operations that were applied, part by part.
use Rattle.std.specs.Prelude.{◌≡◌, ◌≤◌, ◌++◌, ℕ, suc, nat_le, List, [], ◌∷◌, filter, length, take}
use Rattle.std.specs.Prelude.{true, false, Option, None, Some}
use Rattle.std.specs.Global.{Vec}
use Rattle.std.specs.Map.{lookup}
use Rattle.pp_kind.specs.declared.part.Part.{Part}
use Rattle.pp_kind_parts.specs.Alone.{same_part}
use Rattle.pp_snapshots.specs.declared.by_part.ByPart.{ByPart}
use Rattle.pp_snapshots.specs.declared.by_part.Numbered.{Numbered}
use Rattle.pp_snapshots.specs.declared.by_part.PartOps.{PartOps}
use Rattle.pp_snapshots.specs.declared.past.Past.{Past}
use Rattle.pp_snapshots.specs.Costs.{ops_of_part}
use Rattle.pp_snapshots.specs.Many.{ops_made}
use Rattle.pp_snapshots.specs.Past.{made_at}
use Rattle.pp_snapshots.specs.Shown.{seen_in}

-- the operations that were applied at each place
abbrev pub ops_in : {State Op Undo : Type 0} → Past State Op Undo → ℕ → List Op
ops_in v q = ops_made (made_at q v.places.items)

-- the operations with their numbers, from this one on
abbrev pub numbered : {Op : Type 0} → ℕ → List Op → List (Numbered Op)
numbered n [] = []
numbered n (a ∷ l) = record { number = n; op = a } ∷ numbered (suc n) l

-- those of the part of an operation, with their numbers among all of them
abbrev pub numbered_of : {Op : Type 0} → (Op → Part) → Op → ℕ → List Op → List (Numbered Op)
numbered_of part op n l = filter (λ e. same_part (part e.op) (part op)) (numbered n l)

abbrev pub listed_in : {Op : Type 0} → Option (PartOps Op) → List (Numbered Op)
listed_in None = []
listed_in (Some l) = l.ops.items

-- what is listed of a part
abbrev pub listed_of : {Op : Type 0} → Part → List (Part × PartOps Op) → List (Numbered Op)
listed_of p lists = listed_in (lookup (same_part p) lists)

-- These operations are added to the lists, with their numbers from this one on.
abbrev pub AddsListed : {Op : Type 0} → (Op → Part) → List (Part × PartOps Op) → ℕ → List Op →
    List (Part × PartOps Op) → Type 0
AddsListed {Op = Op} part old n l new =
    (a : Op) → listed_of (part a) new ≡ listed_of (part a) old ++ numbered_of part a n l

-- The lists have the first operations of each place, as many as are counted there.
pub record IsListed {Op : Type 0} (place : Op → ℕ) (part : Op → Part) (v : ByPart Op)
    (h : ℕ → List Op) : Type 0 where
  pub lists : (a : Op) → listed_of (part a) v.lists.entries
      ≡ numbered_of part a 0 (take (seen_in v.counts.entries (place a)) (h (place a)))
  pub few : (q : ℕ) → seen_in v.counts.entries q ≤ length (h q)

-- The lists have all operations of the part of an operation.
abbrev pub IsListedOf : {Op : Type 0} → (Op → ℕ) → (Op → Part) → ByPart Op → (ℕ → List Op) → Op →
    Type 0
IsListedOf place part v h a =
    listed_of (part a) v.lists.entries ≡ numbered_of part a 0 (h (place a))

-- What is returned of the operations of a part in a list: all of them if they are no more than this
-- many, and else none.
abbrev pub FewTold : {Op : Type 0} → (Op → Part) → Op → ℕ → List Op → Option (Vec Op) → Type 0
FewTold part op most l None = nat_le (length (ops_of_part part op l)) most ≡ false
FewTold part op most l (Some found) =
    (found.items ≡ ops_of_part part op l) × (nat_le (length (ops_of_part part op l)) most ≡ true)
