-- The shared log may be put into the order of the commits.
use Rattle.std.specs.Prelude.{◌≡◌, ◌≢◌, ◌⊎◌, ℕ, Bool, true, false, not, cond, List, [], ◌∷◌, ◌++◌}
use Rattle.std.specs.Prelude.{map}
use Rattle.std.proofs.Common.{refl, sym, ap, subst, ◌∙◌, append_assoc}
use Rattle.std.proofs.lemmas.Bool.{not-true}
use Rattle.std.proofs.lemmas.List.{map-append, append-nil}
use mathlib.Core.Logic.{inl, inr}
use Rattle.pp_model.specs.Lists.{In, Before}
use Rattle.pp_model.specs.Object.{Object, AllowedFrom, Allowed, Swaps, Item, ops, Reorders}
use Rattle.pp_model.specs.Object.{TellsStates, state_from}
use Rattle.pp_model.specs.Config.{SharedEntry, CommittedTx, Config, shared_item, shared_ops}
use Rattle.pp_model.specs.Config.{as_shared, uncommitted, only_committed}
use Rattle.pp_model.specs.Sound.{Sound, Stands, KeepsOrder, CommittedAfter, HasSerialState}
use Rattle.pp_model.specs.Sound.{MayRunSerially, serial_items, serial_ops}
use Rattle.pp_model.proofs.Lists.{in_left, in_right, in_cases, before_cases, before_in_first}
use Rattle.pp_model.proofs.Lists.{before_in_second, in_map, from_map, before_from_map, in_filter}
use Rattle.pp_model.proofs.Lists.{from_filter, before_from_filter, from_joined, in_joined}
use Rattle.pp_model.proofs.Lists.{before_from_joined, by_key, not_both}
use Rattle.pp_model.proofs.Permute.{permuted}
use Rattle.pp_model.proofs.Parted.{parted}

-- The facts on which the commit order rests.
pub record IsOrdered {Op State : Type 0} (O : Object Op State) (G : List (SharedEntry Op)) (D : List (CommittedTx Op)) : Type 0 where
  pub ids : (g h : SharedEntry Op) → Before g h G → g.id ≡ h.id → ⊥
  pub names : (d e : CommittedTx Op) → Before d e D → d.name ≢ e.name
  pub within : (d : CommittedTx Op) → In d D → (p q : Item Op) → Before p q d.entries → p.id ≢ q.id
  pub across : (d e : CommittedTx Op) (p q : Item Op) → In d D → In e D → In p d.entries → In q e.entries → p.id ≡ q.id → d.name ≡ e.name
  pub stand : (d : CommittedTx Op) → In d D → (p : Item Op) → In p d.entries → In (as_shared d.name true p) G
  pub from : (g : SharedEntry Op) → In g G → g.committed ≡ true → (d : CommittedTx Op) × In d D × (p : Item Op) × In p d.entries × (g ≡ as_shared d.name true p)
  pub alone : (g : SharedEntry Op) → In g G → g.committed ≡ false → (d : CommittedTx Op) → In d D → g.owner ≢ d.name
  pub early : (g h : SharedEntry Op) → Before g h G → g.owner ≢ h.owner → g.committed ≡ false → Swaps O g.op h.op
  pub late : (g h : SharedEntry Op) → Before g h G → g.owner ≢ h.owner → g.committed ≡ true → h.committed ≡ true → CommittedAfter D g.owner h.owner → Swaps O g.op h.op
  pub order : (d : CommittedTx Op) → In d D → KeepsOrder O G d.entries

-- the items of G, and in commit order
abbrev pub items : {Op : Type 0} → List (SharedEntry Op) → List (Item Op)
items G = map shared_item G

-- The serial run, followed by the uncommitted items.
abbrev pub target : {Op : Type 0} → List (SharedEntry Op) → List (CommittedTx Op) → List (Item Op)
target G D = serial_items D ++ items (uncommitted G)

-- an item of the serial run, with its transaction and its entry in G
pub from_serial : {Op : Type 0} (D : List (CommittedTx Op)) (p : Item Op) → In p (serial_items D) → (d : CommittedTx Op) × In d D × In p d.entries
from_serial {Op} D p i =
    let r = from_joined p (map (λ (d : CommittedTx Op). d.entries) D) i in
    let m = from_map (λ (d : CommittedTx Op). d.entries) r.0 D r.1 in
    (m.0, m.1, subst (λ (w : List (Item Op)). In p w) m.2 r.2)

-- An item of a committed transaction is an item of the serial run.
pub to_serial : {Op : Type 0} (D : List (CommittedTx Op)) (d : CommittedTx Op) (p : Item Op) → In d D → In p d.entries → In p (serial_items D)
to_serial {Op} D d p i j = in_joined p d.entries (map (λ (d : CommittedTx Op). d.entries) D) (in_map (λ (d : CommittedTx Op). d.entries) d D i) j

-- A pair in order in the serial run is in one committed transaction, or in two in commit order.
pub before_from_serial : {Op : Type 0} (D : List (CommittedTx Op)) (p q : Item Op) → Before p q (serial_items D) →
    ((d : CommittedTx Op) × In d D × Before p q d.entries) ⊎ ((d e : CommittedTx Op) × Before d e D × In p d.entries × In q e.entries)
before_from_serial {Op} D p q i =
    elim (before_from_joined p q (map (λ (d : CommittedTx Op). d.entries) D) i) [
      | inl r ↦ let m = from_map (λ (d : CommittedTx Op). d.entries) r.0 D r.1 in inl (m.0, m.1, subst (λ (w : List (Item Op)). Before p q w) m.2 r.2)
      | inr r ↦
          let m = before_from_map (λ (d : CommittedTx Op). d.entries) r.0 r.1 D r.2 in
          inr (m.0, m.1, m.2, subst (λ (w : List (Item Op)). In p w) m.3 r.3, subst (λ (w : List (Item Op)). In q w) m.4 r.4)
    ]

-- Each item of the uncommitted part of a shared log is that of an uncommitted entry.
pub from_uncommitted : {Op : Type 0} (G : List (SharedEntry Op)) (p : Item Op) → In p (items (uncommitted G)) → (g : SharedEntry Op) × In g G × (g.committed ≡ false) × (p ≡ shared_item g)
from_uncommitted {Op} G p i =
    let m = from_map shared_item p (uncommitted G) i in
    let f = from_filter (λ (g : SharedEntry Op). not g.committed) m.0 G m.1 in
    (m.0, f.0, not-true (m.0).committed f.1, m.2)

-- An ordered shared log may be reordered to the serial run, then the uncommitted entries.
pub reorders : {Op State : Type 0} (O : Object Op State) (G : List (SharedEntry Op)) (D : List (CommittedTx Op)) → IsOrdered O G D → Reorders O (items G) (target G D)
reorders {Op} O G D o =
    record {
      distinct_x = λ p q i e.
          let m = before_from_map shared_item p q G i in
          o.ids m.0 m.1 m.2 (ap (λ (w : Item Op). w.id) (sym m.3) ∙ e ∙ ap (λ (w : Item Op). w.id) m.4);
      distinct_y = λ p q i e. elim (before_cases p q (serial_items D) (items (uncommitted G)) i) [
        | inl j ↦ elim (before_from_serial D p q j) [
          | inl r ↦ o.within r.0 r.1 p q r.2 e
          | inr r ↦ o.names r.0 r.1 r.2 (o.across r.0 r.1 p q (before_in_first r.0 r.1 D r.2) (before_in_second r.0 r.1 D r.2) r.3 r.4 e)
        ]
        | inr (inl j) ↦
            let m = before_from_map shared_item p q (uncommitted G) j in
            o.ids m.0 m.1 (before_from_filter (λ (g : SharedEntry Op). not g.committed) m.0 m.1 G m.2) (ap (λ (w : Item Op). w.id) (sym m.3) ∙ e ∙ ap (λ (w : Item Op). w.id) m.4)
        | inr (inr j) ↦ two_places p q j.0 j.1 e
      ];
      into = λ p i. let m = from_map shared_item p G i in subst (λ (w : Item Op). In w (target G D)) (sym m.2) (put m.0 m.1 (m.0).committed refl);
      back = λ p i. elim (in_cases p (serial_items D) (items (uncommitted G)) i) [
        | inl j ↦ let r = from_serial D p j in in_map shared_item (as_shared (r.0).name true p) G (o.stand r.0 r.1 p r.2)
        | inr j ↦ let r = from_uncommitted G p j in subst (λ (w : Item Op). In w (items G)) (sym r.3) (in_map shared_item r.0 G r.1)
      ];
      turned = λ p q i j.
          let m = before_from_map shared_item p q G i in
          subst (λ (w : Item Op). Swaps O w.op q.op) (sym m.3) (subst (λ (w : Item Op). Swaps O (m.0).op w.op) (sym m.4)
          (turn m.0 m.1 m.2 (subst (λ (w : Item Op). Before w (shared_item m.0) (target G D)) m.4 (subst (λ (w : Item Op). Before q w (target G D)) m.3 j))));
    }
  where
    serial_entry : (d : CommittedTx Op) (g : SharedEntry Op) → In d D → In (shared_item g) d.entries → In g G → g ≡ as_shared d.name true (shared_item g)
    serial_entry d g i j k = by_key (λ (w : SharedEntry Op). w.id) G o.ids g (as_shared d.name true (shared_item g)) k (o.stand d i (shared_item g) j) refl

    two_places : (p q : Item Op) → In p (serial_items D) → In q (items (uncommitted G)) → p.id ≡ q.id → ⊥
    two_places p q i j e =
        let r = from_serial D p i in
        let u = from_uncommitted G q j in
        let same : as_shared (r.0).name true p ≡ u.0 = by_key (λ (w : SharedEntry Op). w.id) G o.ids (as_shared (r.0).name true p) u.0 (o.stand r.0 r.1 p r.2) u.1 (e ∙ ap (λ (w : Item Op). w.id) u.3) in
        let t : true ≡ false = ap (λ (w : SharedEntry Op). w.committed) same ∙ u.2 in
        cc

    put : (g : SharedEntry Op) → In g G → (b : Bool) → g.committed ≡ b → In (shared_item g) (target G D)
    put g i true e =
        let r = o.from g i e in
        in_left (shared_item g) (serial_items D) (items (uncommitted G)) (subst (λ (w : SharedEntry Op). In (shared_item w) (serial_items D)) (sym r.4) (to_serial D r.0 r.2 r.1 r.3))
    put g i false e = in_right (shared_item g) (serial_items D) (items (uncommitted G)) (in_map shared_item g (uncommitted G) (in_filter (λ (w : SharedEntry Op). not w.committed) g G i (ap not e)))

    key : (g h : SharedEntry Op) → In g G → In h G → shared_item g ≡ shared_item h → g ≡ h
    key g h i j e = by_key (λ (w : SharedEntry Op). w.id) G o.ids g h i j (ap (λ (w : Item Op). w.id) e)

    turn : (g h : SharedEntry Op) → Before g h G → Before (shared_item h) (shared_item g) (target G D) → Swaps O g.op h.op
    turn g h i j = elim (before_cases (shared_item h) (shared_item g) (serial_items D) (items (uncommitted G)) j) [
      | inl k ↦ elim (before_from_serial D (shared_item h) (shared_item g) k) [
        | inl r ↦ o.order r.0 r.1 (shared_item h) (shared_item g) r.2 (g, before_in_first g h G i, refl) (inr (g, h, i, refl, refl))
        | inr r ↦
            let eh = serial_entry r.0 h (before_in_first r.0 r.1 D r.2) r.3 (before_in_second g h G i) in
            let eg = serial_entry r.1 g (before_in_second r.0 r.1 D r.2) r.4 (before_in_first g h G i) in
            let oh = ap (λ (w : SharedEntry Op). w.owner) eh in
            let og = ap (λ (w : SharedEntry Op). w.owner) eg in
            o.late g h i (λ e. o.names r.0 r.1 r.2 (sym oh ∙ sym e ∙ og)) (ap (λ (w : SharedEntry Op). w.committed) eg) (ap (λ (w : SharedEntry Op). w.committed) eh) (r.0, r.1, r.2, sym oh, sym og)
      ]
      | inr (inl k) ↦ absurd (unturned g h i k)
      | inr (inr k) ↦
          let r = from_serial D (shared_item h) k.0 in
          let u = from_uncommitted G (shared_item g) k.1 in
          let eh = serial_entry r.0 h r.1 r.2 (before_in_second g h G i) in
          let eg = key g u.0 (before_in_first g h G i) u.1 u.3 in
          let un : g.committed ≡ false = ap (λ (w : SharedEntry Op). w.committed) eg ∙ u.2 in
          o.early g h i (λ e. o.alone g (before_in_first g h G i) un r.0 r.1 (e ∙ ap (λ (w : SharedEntry Op). w.owner) eh)) un
    ]
      where
        unturned : (g h : SharedEntry Op) → Before g h G → Before (shared_item h) (shared_item g) (items (uncommitted G)) → ⊥
        unturned g h i k =
            let m = before_from_map shared_item (shared_item h) (shared_item g) (uncommitted G) k in
            let b = before_from_filter (λ (w : SharedEntry Op). not w.committed) m.0 m.1 G m.2 in
            let eh = key h m.0 (before_in_second g h G i) (before_in_first m.0 m.1 G b) m.3 in
            let eg = key g m.1 (before_in_first g h G i) (before_in_second m.0 m.1 G b) m.4 in
            not_both (λ (w : SharedEntry Op). w.id) G o.ids g h i (subst (λ (w : SharedEntry Op). Before w g G) (sym eh) (subst (λ (w : SharedEntry Op). Before m.0 w G) (sym eg) b))

-- The shared log and the committed transactions of a sound configuration are ordered.
pub ordered : {Op State : Type 0} (O : Object Op State) (c : Config Op) → Sound O c → IsOrdered O c.shared c.done
ordered {Op} O c s =
    record {
      ids = s.shared_ids;
      names = s.done_names;
      within = s.done_ids;
      across = λ d e p q i j k l h. s.one_owner d.name e.name p q (inr (d, i, refl, k)) (inr (e, j, refl, l)) h;
      stand = s.done_stand;
      from = s.committed_from;
      alone = λ g i u d j e. let r = s.uncommitted_from g i u in s.apart r.0 d r.1 j (ap (λ (w : SharedEntry Op). w.owner) (sym r.5) ∙ e);
      early = s.uncommitted_swap;
      late = s.late_swap;
      order = s.done_order;
    }

-- An id with a committed entry in the shared log has an entry in the whole log.
pub stands_in : {Op : Type 0} (G : List (SharedEntry Op)) (i : ℕ) → Stands i (only_committed G) → Stands i G
stands_in {Op} G i h = (h.0, (from_filter (λ (w : SharedEntry Op). w.committed) h.0 G h.1).0, h.2)

-- the committed entries alone are ordered too
pub ordered_committed : {Op State : Type 0} (O : Object Op State) (G : List (SharedEntry Op)) (D : List (CommittedTx Op)) → IsOrdered O G D → IsOrdered O (only_committed G) D
ordered_committed {Op} O G D o =
    record {
      ids = λ g h i. o.ids g h (wide g h i);
      names = o.names;
      within = o.within;
      across = o.across;
      stand = λ d i p j. in_filter (λ (w : SharedEntry Op). w.committed) (as_shared d.name true p) G (o.stand d i p j) refl;
      from = λ g i e. o.from g (from_filter (λ (w : SharedEntry Op). w.committed) g G i).0 e;
      alone = λ g i e d j. absurd (let t : true ≡ false = sym (from_filter (λ (w : SharedEntry Op). w.committed) g G i).1 ∙ e in cc);
      early = λ g h i. o.early g h (wide g h i);
      late = λ g h i. o.late g h (wide g h i);
      order = λ d i a b j k l. o.order d i a b j (stands_in G b.id k)
          (elim l [ inl n ↦ inl (λ m. n (back d i a (before_in_first a b d.entries j) m)) | inr m ↦ inr (m.0, m.1, wide m.0 m.1 m.2, m.3, m.4) ]);
    }
  where
    wide : (g h : SharedEntry Op) → Before g h (only_committed G) → Before g h G
    wide g h i = before_from_filter (λ (w : SharedEntry Op). w.committed) g h G i

    back : (d : CommittedTx Op) → In d D → (a : Item Op) → In a d.entries → Stands a.id G → Stands a.id (only_committed G)
    back d i a j m = (as_shared d.name true a, in_filter (λ (w : SharedEntry Op). w.committed) (as_shared d.name true a) G (o.stand d i a j) refl, refl)

ops_items : {Op : Type 0} (G : List (SharedEntry Op)) → ops (items G) ≡ shared_ops G
ops_items [] = refl
ops_items {Op} (g ∷ G) = ap (λ (w : List Op). g.op ∷ w) (ops_items G)

-- An ordered shared log may be replaced by the serial run, then the uncommitted entries.
pub serial_law : {Op State : Type 0} (O : Object Op State) (G : List (SharedEntry Op)) (D : List (CommittedTx Op)) (k : List Op) → IsOrdered O G D →
    Allowed O (shared_ops G ++ k) → Allowed O (serial_ops D ++ (shared_ops (uncommitted G) ++ k))
serial_law {Op} O G D k o h =
    let h1 : Allowed O (ops (items G) ++ k) = subst (λ (w : List Op). Allowed O (w ++ k)) (sym (ops_items G)) h in
    let h2 : Allowed O (ops (target G D) ++ k) = permuted O (target G D) (items G) [] k (reorders O G D o) h1 in
    let e1 : ops (target G D) ≡ serial_ops D ++ shared_ops (uncommitted G) = map-append (λ (w : Item Op). w.op) (serial_items D) (items (uncommitted G)) ∙ ap (λ (w : List Op). serial_ops D ++ w) (ops_items (uncommitted G)) in
    let h3 : Allowed O ((serial_ops D ++ shared_ops (uncommitted G)) ++ k) = subst (λ (w : List Op). Allowed O (w ++ k)) e1 h2 in
    subst (λ (w : List Op). Allowed O w) (append_assoc (serial_ops D) (shared_ops (uncommitted G)) k) h3

-- The serial run may replace the committed part of a sound shared log, whatever follows.
pub may_run_serially : {Op State : Type 0} (O : Object Op State) (c : Config Op) → Sound O c → MayRunSerially O c
may_run_serially O c s k h = serial_law O c.shared c.done k (ordered O c s) h

-- the committed entries may be put before the uncommitted ones
pub committed_first : {Op State : Type 0} (O : Object Op State) (G : List (SharedEntry Op)) (D : List (CommittedTx Op)) → IsOrdered O G D →
    Reorders O (items G) (items (only_committed G) ++ items (uncommitted G))
committed_first {Op} O G D o = parted O shared_item (λ (g : SharedEntry Op). g.committed) G o.ids (λ g h i m n. o.early g h i
    (λ e. let f = o.from h (before_in_second g h G i) n in o.alone g (before_in_first g h G i) m f.0 f.1 (e ∙ ap (λ (w : SharedEntry Op). w.owner) f.4)) m)

-- a list is allowed in two parts
pub allowed_front : {Op State : Type 0} (O : Object Op State) (s : State) (l k : List Op) → AllowedFrom O s (l ++ k) → AllowedFrom O s l
allowed_front O s [] k a = tt
allowed_front O s (x ∷ l) k a = (a.0, allowed_front O (O.next s x) l k a.1)

-- If two joined lists are allowed, the second is allowed from the state after the first.
pub allowed_back : {Op State : Type 0} (O : Object Op State) (s : State) (l k : List Op) → AllowedFrom O s (l ++ k) → AllowedFrom O (state_from O s l) k
allowed_back O s [] k a = a
allowed_back O s (x ∷ l) k a = allowed_back O (O.next s x) l k a.1

none_step : {Op : Type 0} (g : SharedEntry Op) (l : List (SharedEntry Op)) → uncommitted l ≡ [] → (b : Bool) → g.committed ≡ b → uncommitted (cond b (g ∷ l) l) ≡ []
none_step {Op} g l h true e = subst (λ (b : Bool). cond (not b) (g ∷ uncommitted l) (uncommitted l) ≡ []) (sym e) h
none_step g l h false e = h

none_uncommitted : {Op : Type 0} (G : List (SharedEntry Op)) → uncommitted (only_committed G) ≡ []
none_uncommitted [] = refl
none_uncommitted (g ∷ G) = none_step g (only_committed G) (none_uncommitted G) g.committed refl

-- The committed entries of a sound configuration are allowed alone, in the order of the shared log.
pub committed_allowed : {Op State : Type 0} (O : Object Op State) (c : Config Op) → Sound O c → Allowed O (shared_ops (only_committed c.shared))
committed_allowed {Op} O c s =
    let G = c.shared in
    let y : List (Item Op) = items (only_committed G) ++ items (uncommitted G) in
    let h1 : Allowed O (ops (items G) ++ []) = subst (λ (w : List Op). Allowed O w) (sym (ops_items G) ∙ sym (append-nil (ops (items G)))) s.shared_allowed in
    let h2 : Allowed O (ops y ++ []) = permuted O y (items G) [] [] (committed_first O G c.done (ordered O c s)) h1 in
    let h3 : Allowed O (ops (items (only_committed G)) ++ ops (items (uncommitted G))) = subst (λ (w : List Op). Allowed O w) (append-nil (ops y) ∙ map-append (λ (w : Item Op). w.op) (items (only_committed G)) (items (uncommitted G))) h2 in
    subst (λ (w : List Op). Allowed O w) (ops_items (only_committed G)) (allowed_front O O.start (ops (items (only_committed G))) (ops (items (uncommitted G))) h3)

-- The committed entries of the shared log and the serial run lead to one state.
pub same_state : {Op State : Type 0} (O : Object Op State) → TellsStates O → (c : Config Op) → Sound O c → HasSerialState O c
same_state {Op} O tells c s = tells (shared_ops (only_committed c.shared)) (serial_ops c.done) (committed_allowed O c s) (λ k h.
    let turned = serial_law O (only_committed c.shared) c.done k (ordered_committed O c.shared c.done (ordered O c s)) h in
    subst (λ (w : List (SharedEntry Op)). Allowed O (serial_ops c.done ++ (shared_ops w ++ k))) (none_uncommitted c.shared) turned)
