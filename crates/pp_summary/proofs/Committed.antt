-- The commits at each place.
use Rattle.std.specs.Prelude.{◌≡◌, ◌==◌, ℕ, List, [], ◌∷◌, ◌++◌}
use Rattle.std.proofs.Common.{ap, sym, ◌∙◌, append_assoc}
use Rattle.std.proofs.lemmas.Bool.{eqb-true}
use Rattle.std.proofs.lemmas.List.{append-nil, map-append}
use Rattle.std.proofs.lemmas.List.Elements.{filter-append}
use Rattle.pp_core.specs.declared.entry.CommittedTx.{CommittedTx}
use Rattle.pp_core.specs.declared.entry.Item.{Item}
use Rattle.pp_model.specs.Lists.{In}
use Rattle.pp_model.specs.Sound.{serial_items}
use Rattle.pp_model.proofs.Lists.{from_filter, from_map}
use Rattle.pp_summary.specs.Shown.{ids_at, item_ids, items_at}

-- An id among those of the items at a place is the id of such an item.
pub item_of_id : {Op : Type 0} (place : Op → ℕ) (l : List (Item Op)) (q id : ℕ) → In id (ids_at place q l) → (p : Item Op) × In p l × (p.id ≡ id) × (place p.op ≡ q)
item_of_id {Op} place l q id i =
    let m = from_map (λ (p : Item Op). p.id) id (items_at place q l) i in
    let f = from_filter (λ (p : Item Op). place p.op == q) m.0 l m.1 in
    (m.0, f.0, sym m.2, eqb-true (place (m.0).op) q f.1)

-- The ids at a place of two lists, one after another.
pub ids_append : {Op : Type 0} (place : Op → ℕ) (q : ℕ) (k l : List (Item Op)) → ids_at place q (k ++ l) ≡ ids_at place q k ++ ids_at place q l
ids_append {Op} place q k l =
    ap (λ (w : List (Item Op)). item_ids w) (filter-append (λ (p : Item Op). place p.op == q) k l)
    ∙ map-append (λ (p : Item Op). p.id) (items_at place q k) (items_at place q l)

-- With one more committed transaction, its items are at the end of the serial run.
pub serial_more : {Op : Type 0} (D : List (CommittedTx Op)) (d : CommittedTx Op) → serial_items (D ++ d ∷ []) ≡ serial_items D ++ d.entries
serial_more [] d = append-nil d.entries
serial_more {Op} (c ∷ D) d = ap (λ (z : List (Item Op)). c.entries ++ z) (serial_more D d) ∙ sym (append_assoc c.entries (serial_items D) d.entries)
