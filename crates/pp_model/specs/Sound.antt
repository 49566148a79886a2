-- Meaning: what every reachable configuration keeps.
use Rattle.std.specs.Prelude.{◌≡◌, ◌≢◌, ◌⊎◌, ℕ, true, false, List, [], ◌++◌, map, Option}
use Rattle.pp_model.specs.Lists.{In, Before, joined}
use Rattle.pp_model.specs.Body.{Begins}
use Rattle.pp_model.specs.Object.{Object, Allowed, Swaps, Item, ops, state}
use Rattle.pp_model.specs.Config.{Pushed, Pulled, is_own, LocalEntry, SharedEntry, Tx, CommittedTx}
use Rattle.pp_model.specs.Config.{Config, item, own_items, local_ops, shared_ops, as_shared}
use Rattle.pp_model.specs.Config.{uncommitted, only_committed, Start, Step, then, first}
use Rattle.pp_model.specs.Rules.{calls, Meets, StartMeets}
use Rattle.pp_model.specs.Names.{Name}

-- an entry of this id is in G
abbrev pub Stands : {Op : Type 0} → ℕ → List (SharedEntry Op) → Type 0
Stands {Op} i G = (g : SharedEntry Op) × In g G × (g.id ≡ i)

-- the first id is in G before the second
abbrev pub StandsBefore : {Op : Type 0} → ℕ → ℕ → List (SharedEntry Op) → Type 0
StandsBefore {Op} i j G = (g h : SharedEntry Op) × Before g h G × (g.id ≡ i) × (h.id ≡ j)

-- the transaction t, open or committed, has the own entry p
abbrev pub Owns : {Op : Type 0} → Config Op → Name → Item Op → Type 0
Owns {Op} c t p =
    ((x : Tx Op) × In x c.opened × (x.name ≡ t) × In p (own_items x.local))
    ⊎ ((d : CommittedTx Op) × In d c.done × (d.name ≡ t) × In p d.entries)

-- in the commit order t is after u
abbrev pub CommittedAfter : {Op : Type 0} → List (CommittedTx Op) → Name → Name → Type 0
CommittedAfter {Op} D t u = (d e : CommittedTx Op) × Before d e D × (d.name ≡ u) × (e.name ≡ t)

-- an entry of t's local log is own exactly if its owner is t
abbrev pub OwnedAsMarked : {Op : Type 0} → Name → LocalEntry Op → Type 0
OwnedAsMarked t e = ((is_own e.mark ≡ true) × (e.owner ≡ t)) ⊎ ((e.mark ≡ Pulled) × (e.owner ≢ t))

-- The operations of the committed transactions, one transaction after another.
abbrev pub serial_items : {Op : Type 0} → List (CommittedTx Op) → List (Item Op)
serial_items D = joined (map (λ d. d.entries) D)

-- the operations of the committed transactions, one transaction after another
abbrev pub serial_ops : {Op : Type 0} → List (CommittedTx Op) → List Op
serial_ops D = ops (serial_items D)

module _ {Op State : Type 0} (O : Object Op State) where
  -- of an own list: for a before b, if b is in G and a is not, or is after b, then b and a swap
  abbrev pub KeepsOrder : List (SharedEntry Op) → List (Item Op) → Type 0
  KeepsOrder G xs =
      (a b : Item Op) → Before a b xs → Stands b.id G →
      (Stands a.id G → ⊥) ⊎ StandsBefore b.id a.id G → Swaps O b.op a.op

  -- A sound configuration.
  pub record Sound (c : Config Op) : Type 0 where
    -- 0 marks and owners
    pub marks : (x : Tx Op) → In x c.opened → (e : LocalEntry Op) → In e x.local →
        OwnedAsMarked x.name e
    -- 1 names, ids and owners
    pub open_names : (x y : Tx Op) → Before x y c.opened → x.name ≢ y.name
    pub done_names : (d e : CommittedTx Op) → Before d e c.done → d.name ≢ e.name
    pub apart : (x : Tx Op) (d : CommittedTx Op) → In x c.opened → In d c.done → x.name ≢ d.name
    pub open_known : (x : Tx Op) → In x c.opened → In x.name c.names
    pub done_known : (d : CommittedTx Op) → In d c.done → In d.name c.names
    pub local_ids : (x : Tx Op) → In x c.opened → (e f : LocalEntry Op) → Before e f x.local →
        e.id ≢ f.id
    pub shared_ids : (g h : SharedEntry Op) → Before g h c.shared → g.id ≢ h.id
    pub done_ids : (d : CommittedTx Op) → In d c.done → (p q : Item Op) → Before p q d.entries →
        p.id ≢ q.id
    pub local_used : (x : Tx Op) → In x c.opened → (e : LocalEntry Op) → In e x.local →
        In e.id c.ids
    pub done_used : (d : CommittedTx Op) → In d c.done → (p : Item Op) → In p d.entries →
        In p.id c.ids
    pub one_owner : (t u : Name) (p q : Item Op) → Owns c t p → Owns c u q → p.id ≡ q.id → t ≡ u
    -- 2 what is in G
    pub pushed_stand : (x : Tx Op) → In x c.opened → (e : LocalEntry Op) → In e x.local →
        e.mark ≡ Pushed → In (as_shared x.name false (item e)) c.shared
    pub done_stand : (d : CommittedTx Op) → In d c.done → (p : Item Op) → In p d.entries →
        In (as_shared d.name true p) c.shared
    pub uncommitted_from : (g : SharedEntry Op) → In g c.shared → g.committed ≡ false →
        (x : Tx Op) × In x c.opened × (e : LocalEntry Op) × In e x.local × (e.mark ≡ Pushed)
        × (g ≡ as_shared x.name false (item e))
    pub committed_from : (g : SharedEntry Op) → In g c.shared → g.committed ≡ true →
        (d : CommittedTx Op) × In d c.done × (p : Item Op) × In p d.entries
        × (g ≡ as_shared d.name true p)
    -- 3 what is allowed
    pub shared_allowed : Allowed O (shared_ops c.shared)
    pub local_allowed : (x : Tx Op) → In x c.opened → Allowed O (local_ops x.local)
    -- 4 the order of G
    pub uncommitted_swap : (g h : SharedEntry Op) → Before g h c.shared → g.owner ≢ h.owner →
        g.committed ≡ false → Swaps O g.op h.op
    pub late_swap : (g h : SharedEntry Op) → Before g h c.shared → g.owner ≢ h.owner →
        g.committed ≡ true → h.committed ≡ true →
        CommittedAfter c.done g.owner h.owner → Swaps O g.op h.op
    -- 5 the order of own lists
    pub open_order : (x : Tx Op) → In x c.opened → KeepsOrder c.shared (own_items x.local)
    pub done_order : (d : CommittedTx Op) → In d c.done → KeepsOrder c.shared d.entries
    -- 6 own before pulled
    pub own_pulled : (x : Tx Op) → In x c.opened → (a p : LocalEntry Op) → Before a p x.local →
        is_own a.mark ≡ true → p.mark ≡ Pulled → Swaps O a.op p.op
    -- 7 bodies
    pub begun : (x : Tx Op) → In x c.opened →
        (own_items x.local ≡ []) ⊎ Begins x.body (calls O (own_items x.local))

  -- The start is sound, and each step that meets its criteria keeps a configuration sound.
  pub record KeptLaw : Type 0 where
    pub start : (h : Option (Start Op)) → StartMeets O h → Sound (first h)
    pub step : (c : Config Op) (a : Step Op) → Sound c → Meets O c a → Sound (then c a)

  -- After the serial run and the uncommitted entries, all is allowed that is allowed after the
  -- shared log.
  abbrev pub MayRunSerially : Config Op → Type 0
  MayRunSerially c =
      (k : List Op) → Allowed O (shared_ops c.shared ++ k) →
      Allowed O (serial_ops c.done ++ (shared_ops (uncommitted c.shared) ++ k))

  -- After a sound configuration's serial run and uncommitted entries, all is allowed that is
  -- allowed after its shared log.
  abbrev pub SerialLaw : Type 0
  SerialLaw = (c : Config Op) → Sound c → MayRunSerially c

  -- The committed entries, in the order of the shared log, lead to the state of the serial run.
  abbrev pub HasSerialState : Config Op → Type 0
  HasSerialState c = state O (shared_ops (only_committed c.shared)) ≡ state O (serial_ops c.done)

  -- The committed entries of a sound configuration have a serial state.
  abbrev pub SameStateLaw : Type 0
  SameStateLaw = (c : Config Op) → Sound c → HasSerialState c
