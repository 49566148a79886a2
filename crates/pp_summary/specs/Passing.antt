-- Proof machinery: which own operations swap with commits, and which commits a transaction sees.
use Rattle.std.specs.Prelude.{◌≡◌, ℕ, cond, nat_eq, List, [], ◌∷◌, ◌++◌, length}
use Rattle.std.specs.Prelude.{Some}
use Rattle.std.specs.Map.{lookup}
use Rattle.pp_body.specs.Walks.{HasTakenOneMore}
use Rattle.pp_core.specs.declared.entry.Item.{Item}
use Rattle.pp_core.specs.declared.entry.SharedEntry.{SharedEntry}
use Rattle.pp_model.specs.Lists.{Before, In}
use Rattle.pp_kind.specs.Object.{Object, Swaps, SwapsNowhere}
use Rattle.pp_summary.specs.declared.parts.OpenTx.{OpenTx}
use Rattle.pp_summary.specs.Shown.{at}

-- The ids of the commits at a place, with one more if it is there.
abbrev pub with_commit : {Op : Type 0} → (Op → ℕ) → Item Op → ℕ → List ℕ → List ℕ
with_commit place p q ids = cond (nat_eq (place p.op) q) (ids ++ p.id ∷ []) ids

-- No two entries have one id.
abbrev pub HaveOwnIds : {Op : Type 0} → List (SharedEntry Op) → Type 0
HaveOwnIds {Op} G = (g h : SharedEntry Op) → Before g h G → g.id ≡ h.id → ⊥

-- Each of these ids is the id of an entry.
abbrev pub HaveEntries : {Op : Type 0} → List (SharedEntry Op) → List ℕ → Type 0
HaveEntries {Op} G ids = (id : ℕ) → In id ids → (g : SharedEntry Op) × In g G × (g.id ≡ id)

module _ {Shape State Op Undo : Type 0} (o : Object Shape State Op Undo) (place : Op → ℕ) where
  -- Each of the items at the operation's place swaps with it.
  abbrev pub LetPass : List (Item Op) → Op → Type 0
  LetPass own op = (a : Item Op) → In a own → place a.op ≡ place op → Swaps o a.op op

  -- One of the items at the place of the operation does not swap with it, in any shape that both
  -- fit.
  pub record Stops (own : List (Item Op)) (op : Op) : Type 0 where
    pub item : Item Op
    pub is : In item own
    pub there : place item.op ≡ place op
    pub stays : SwapsNowhere o item.op op

  -- The items swap with the operation of each entry that has one of these ids.
  abbrev pub LetAllPass : List (Item Op) → List (SharedEntry Op) → List ℕ → Type 0
  LetAllPass own G ids = (g : SharedEntry Op) → In g G → In g.id ids → LetPass own g.op

  -- The items stop the operation of an entry that has one of these ids.
  pub record StopsOne (own : List (Item Op)) (G : List (SharedEntry Op)) (ids : List ℕ) :
      Type 0 where
    pub entry : SharedEntry Op
    pub is : In entry G
    pub among : In entry.id ids
    pub stops : Stops own entry.op

  -- The transaction with one more own operation. It has then seen all commits at the place of the
  -- operation.
  pub record IsGrown (commits : List (List ℕ)) (x : OpenTx (List (Item Op)))
      (p : Item Op) (y : OpenTx (List (Item Op))) : Type 0 where
    pub thread : y.thread ≡ x.thread
    pub body : y.walk.body ≡ x.walk.body
    pub taken : HasTakenOneMore x.walk (o.call p.op) y.walk
    pub own : y.own ≡ x.own ++ p ∷ []
    pub seen : (q : ℕ) → lookup (nat_eq q) y.seen.entries
        ≡ cond (nat_eq (place p.op) q) (Some (length (at (place p.op) commits)))
        (lookup (nat_eq q) x.seen.entries)
