-- A log with more pulled entries.
use Rattle.std.specs.Prelude.{◌≡◌, List, [], ◌∷◌, ◌++◌, map}
use Rattle.std.proofs.Common.{refl, ap, ◌∙◌}
use Rattle.std.proofs.lemmas.List.{append-nil, map-append}
use Rattle.pp_model.specs.Object.{Item}
use Rattle.pp_model.specs.Config.{LocalEntry, SharedEntry, as_pulled, own_items, local_ops, shared_ops}
use Rattle.pp_model.proofs.Steps.{own_items-append}

-- Pulled entries have the operations of the entries of G.
pub ops_pulled : {Op : Type 0} (M : List (SharedEntry Op)) → local_ops (map as_pulled M) ≡ shared_ops M
ops_pulled [] = refl
ops_pulled {Op} (g ∷ M) = ap (λ (w : List Op). g.op ∷ w) (ops_pulled M)

-- None of them is own.
pub own_pulled_none : {Op : Type 0} (M : List (SharedEntry Op)) → own_items (map as_pulled M) ≡ []
own_pulled_none [] = refl
own_pulled_none (g ∷ M) = own_pulled_none M

-- They leave the own items as they were.
pub own_more : {Op : Type 0} (l : List (LocalEntry Op)) (M : List (SharedEntry Op)) → own_items (l ++ map as_pulled M) ≡ own_items l
own_more {Op} l M = own_items-append l (map as_pulled M) ∙ ap (λ (w : List (Item Op)). own_items l ++ w) (own_pulled_none M) ∙ append-nil (own_items l)

-- Their operations come after those of L.
pub ops_more : {Op : Type 0} (l : List (LocalEntry Op)) (M : List (SharedEntry Op)) → local_ops (l ++ map as_pulled M) ≡ local_ops l ++ shared_ops M
ops_more {Op} l M = map-append (λ (e : LocalEntry Op). e.op) l (map as_pulled M) ∙ ap (λ (w : List Op). local_ops l ++ w) (ops_pulled M)
