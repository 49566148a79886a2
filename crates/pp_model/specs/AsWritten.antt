-- Meaning: the seven parts of a sound configuration, word by word. An entry of a local log is own
-- if its owner is the transaction.
use Rattle.std.specs.Prelude.{◌++◌, ◌≡◌, ◌≢◌, ◌⊎◌, ◌↔◌, List, map, true, false, ℕ, []}
use Rattle.pp_model.specs.Body.{Begins}
use Rattle.pp_model.specs.Config.{Config, CommittedTx, LocalEntry, Pulled, Pushed, SharedEntry, Tx}
use Rattle.pp_model.specs.Config.{item, shared_item, local_ops, own_items, shared_ops}
use Rattle.pp_model.specs.Lists.{Before, In}
use Rattle.pp_model.specs.Object.{Allowed, Item, Object, Swaps}
use Rattle.pp_model.specs.Rules.{calls}
use Rattle.pp_model.specs.Sound.{CommittedAfter, KeepsOrder, OwnedAsMarked, Sound, serial_items}
use Rattle.pp_model.specs.Names.{Name}

-- No element of the list occurs twice.
abbrev pub AllDistinct : {A : Type 0} → List A → Type 0
AllDistinct {A} xs = (x y : A) → Before x y xs → x ≢ y

-- the item p is as an own entry of t, in G with the owner t, or in done under t
abbrev pub StandsFor : {Op : Type 0} → Config Op → Name → Item Op → Type 0
StandsFor {Op} c t p =
    ((x : Tx Op) × In x c.opened × (x.name ≡ t)
    × ((e : LocalEntry Op) × In e x.local × (e.owner ≡ t) × (item e ≡ p)))
    ⊎ ((g : SharedEntry Op) × In g c.shared × (g.owner ≡ t) × (shared_item g ≡ p))
    ⊎ ((d : CommittedTx Op) × In d c.done × (d.name ≡ t) × In p d.entries)

module _ {Op State : Type 0} (O : Object Op State) where
  -- A configuration is sound, word by word.
  pub record AsWritten (c : Config Op) : Type 0 where
    -- the clause on marks of a configuration
    pub marks : (x : Tx Op) → In x c.opened → (e : LocalEntry Op) → In e x.local →
        OwnedAsMarked x.name e
    -- 1
    pub names : AllDistinct (map (λ x. x.name) c.opened ++ map (λ d. d.name) c.done)
    pub names_begun : (t : Name) → In t (map (λ x. x.name) c.opened ++ map (λ d. d.name) c.done) →
        In t c.names
    pub done_ids : AllDistinct (map (λ p. p.id) (serial_items c.done))
    pub shared_ids : AllDistinct (map (λ g. g.id) c.shared)
    pub local_ids : (x : Tx Op) → In x c.opened → AllDistinct (map (λ e. e.id) x.local)
    pub done_used : (i : ℕ) → In i (map (λ p. p.id) (serial_items c.done)) → In i c.ids
    pub shared_used : (i : ℕ) → In i (map (λ g. g.id) c.shared) → In i c.ids
    pub local_used : (x : Tx Op) → In x c.opened → (i : ℕ) → In i (map (λ e. e.id) x.local) →
        In i c.ids
    pub one : (t u : Name) (p q : Item Op) → StandsFor c t p → StandsFor c u q → p.id ≡ q.id →
        (t ≡ u) × (p ≡ q)
    -- 2
    pub pushed : (x : Tx Op) → In x c.opened → (p : Item Op) →
        ((e : LocalEntry Op) × In e x.local × (e.owner ≡ x.name) × (e.mark ≡ Pushed) × (item e ≡ p))
        ↔ ((g : SharedEntry Op) × In g c.shared × (g.committed ≡ false) × (g.owner ≡ x.name)
        × (shared_item g ≡ p))
    pub owned_open : (g : SharedEntry Op) → In g c.shared → g.committed ≡ false →
        (x : Tx Op) × In x c.opened × (x.name ≡ g.owner)
    pub done : (p : Item Op) → ((g : SharedEntry Op) × In g c.shared × (g.committed ≡ true)
        × (shared_item g ≡ p)) ↔ In p (serial_items c.done)
    -- 3
    pub shared_allowed : Allowed O (shared_ops c.shared)
    pub local_allowed : (x : Tx Op) → In x c.opened → Allowed O (local_ops x.local)
    -- 4
    pub shared_order : (g h : SharedEntry Op) → Before g h c.shared → g.owner ≢ h.owner →
        (g.committed ≡ false) ⊎ ((g.committed ≡ true) × (h.committed ≡ true)
        × CommittedAfter c.done g.owner h.owner) → Swaps O g.op h.op
    -- 5
    pub open_order : (x : Tx Op) → In x c.opened → KeepsOrder O c.shared (own_items x.local)
    pub done_order : (d : CommittedTx Op) → In d c.done → KeepsOrder O c.shared d.entries
    -- 6
    pub own_pulled : (x : Tx Op) → In x c.opened → (a p : LocalEntry Op) → Before a p x.local →
        a.owner ≡ x.name → p.mark ≡ Pulled → Swaps O a.op p.op
    -- 7
    pub begun : (x : Tx Op) → In x c.opened →
        (own_items x.local ≡ []) ⊎ Begins x.body (calls O (own_items x.local))

  -- A configuration is sound exactly if it is so word by word.
  abbrev pub WrittenLaw : Type 0
  WrittenLaw = (c : Config Op) → Sound O c ↔ AsWritten c
