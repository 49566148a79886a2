-- Proof machinery: what is left of a list of entries, and of the serial run, before each part.
use Rattle.std.proofs.Common.{◌≡◌, ◌<◌, ◌+◌, ℕ, List, ◌∷◌, ◌++◌, length, drop, get_or, sym, ◌∙◌}
use Rattle.std.proofs.Common.{ap, subst}
use Rattle.std.proofs.lemmas.List.{at_drop_more, map-append}
use Rattle.pp_core.specs.declared.entry.CommittedTx.{CommittedTx}
use Rattle.pp_model.specs.Object.{Item, ops}
use Rattle.pp_model.specs.Sound.{serial_items, serial_ops}

-- The operations from a position on are the one there and those after it.
pub ops_left : {Op : Type 0} (l : List (Item Op)) (i : ℕ) (p : Item Op) → i < length l
    → p ≡ get_or l i p → ops (drop i l) ≡ p.op ∷ ops (drop (i + 1) l)
ops_left {Op} l i p h e = at_drop_more (λ (w : List (Item Op)). ops w) l i p h
    ∙ ap (λ (q : Item Op). q.op ∷ ops (drop (i + 1) l)) (sym e)

-- The serial run from a transaction on is its operations, then those of the transactions after it.
pub serial_left : {Op : Type 0} (l slice : List (CommittedTx Op)) (i : ℕ) (d : CommittedTx Op)
    (entries : List (Item Op)) → slice ≡ l → i < length slice → d ≡ get_or slice i d
    → entries ≡ d.entries → serial_ops (drop i l) ≡ ops entries ++ serial_ops (drop (i + 1) l)
serial_left {Op} l slice i d entries whole h e same =
    let left : List (CommittedTx Op) → Type 0 =
    λ w. serial_ops (drop i w) ≡ ops entries ++ serial_ops (drop (i + 1) w) in
    subst left whole (
    at_drop_more (λ (w : List (CommittedTx Op)). serial_ops w) slice i d h
    ∙ ap (λ (c : CommittedTx Op). serial_ops (c ∷ drop (i + 1) slice)) (sym e)
    ∙ map-append (λ (p : Item Op). p.op) d.entries (serial_items (drop (i + 1) slice))
    ∙ ap (λ (w : List (Item Op)). ops w ++ serial_ops (drop (i + 1) slice)) (sym same)
    )
