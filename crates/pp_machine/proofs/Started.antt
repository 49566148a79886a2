-- A machine that a start leaves holds what each machine keeps.
use Rattle.std.proofs.Common.{◌≡◌, ◌≤◌, ℕ, Bool, true, false, cond, IsTrue, List, [], ◌∷◌}
use Rattle.std.proofs.Common.{◌++◌, map, length, reverse, None, Some, refl, sym, ap, subst, ◌∙◌}
use Rattle.std.proofs.Common.{arith}
use Rattle.std.specs.List.{All}
use Rattle.std.proofs.lemmas.List.{append-nil, length-map}
use Rattle.std.proofs.lemmas.List.Elements.{All-get_or}
use Rattle.std.proofs.lemmas.Option.{get_or_from_slice_get}
use Rattle.pp_core.specs.declared.entry.CommittedTx.{CommittedTx}
use Rattle.pp_core.specs.declared.entry.Item.{Item}
use Rattle.pp_core.specs.declared.entry.SharedEntry.{SharedEntry}
use Rattle.pp_log.proofs.Lists.{in_at}
use Rattle.pp_model.specs.Config.{Config, Start, Tx, as_shared, commit_all, first, shared_ops}
use Rattle.pp_model.specs.Lists.{In}
use Rattle.pp_model.specs.Names.{Name}
use Rattle.pp_model.specs.Object.{ops}
use Rattle.pp_model.specs.Rules.{StartMeets}
use Rattle.pp_model.specs.Sound.{Sound, serial_ops}
use Rattle.pp_model.proofs.Begin.{start_sound}
use Rattle.pp_model.proofs.Lists.{from_map, in_map}
use Rattle.pp_model.proofs.Names.{eq-names}
use Rattle.pp_model.proofs.Finding.{reverse_more}
use Rattle.pp_log_shared.specs.Committing.{HoldsIdsOf}
use Rattle.pp_kind.specs.Object.{Object, AllRanged, rules_of}
use Rattle.pp_kind.proofs.Fitting.{in_ranged}
use Rattle.pp_machine.specs.Machines.{Holds, Seen, config_of, tx_of}
use Rattle.pp_machine.specs.Starting.{posted}
use Rattle.pp_machine.specs.StartAnswers.{IsAskedItem}
use Rattle.pp_machine.specs.Transactions.{Open, Txs, is_begun}
use Rattle.pp_machine.proofs.Opened.{begun_in}

-- the ids of the items are those of the entries
pub ids_posted : {Op : Type 0} (t : Name) (items : List (Item Op)) → HoldsIdsOf t items (posted t items)
ids_posted {Op} t items e i n owner = let m = from_map (as_shared t false) e items i in (m.0, m.1, ap (λ (w : SharedEntry Op). w.id) (sym m.2))

committed_all : {Op : Type 0} (t : Name) (l : List (Item Op)) → commit_all t (posted t l) ≡ map (as_shared t true) l
committed_all t [] = refl
committed_all {Op} t (p ∷ l) =
    ap (λ (b : Bool). cond b (as_shared t true p) (as_shared t false p) ∷ commit_all t (posted t l)) (eq-names t t refl)
    ∙ ap (λ (w : List (SharedEntry Op)). as_shared t true p ∷ w) (committed_all t l)

committed_ops : {Op : Type 0} (t : Name) (l : List (Item Op)) → shared_ops (map (as_shared t true) l) ≡ ops l
committed_ops t [] = refl
committed_ops {Op} t (p ∷ l) = ap (λ (w : List Op). p.op ∷ w) (committed_ops t l)

-- a configuration is what its parts are
same_config : {Op : Type 0} (a b : List Name) (c d : List ℕ) (e f : List (Tx Op)) (g h : List (SharedEntry Op)) (i j : List (CommittedTx Op)) → a ≡ b → c ≡ d → e ≡ f → g ≡ h → i ≡ j
    → ◌≡◌ {A = Config Op} (record { names = a; ids = c; opened = e; shared = g; done = i }) (record { names = b; ids = d; opened = f; shared = h; done = j })
same_config {Op} a b c d e f g h i j p q r s t =
    ap (λ (z : List Name). record { names = z; ids = c; opened = e; shared = g; done = i }) p
    ∙ ap (λ (z : List ℕ). record { names = b; ids = z; opened = e; shared = g; done = i }) q
    ∙ ap (λ (z : List (Tx Op)). record { names = b; ids = d; opened = z; shared = g; done = i }) r
    ∙ ap (λ (z : List (SharedEntry Op)). record { names = b; ids = d; opened = f; shared = z; done = i }) s
    ∙ ap (λ (z : List (CommittedTx Op)). record { names = b; ids = d; opened = f; shared = h; done = z }) t

-- A machine that was as `new` made it, and its start.
module _ {Shape State Op Undo : Type 0} (o : Object Shape State Op Undo) (shape : Shape) (v : Txs Shape Op) (ids : List ℕ) (G : Shape × List (SharedEntry Op)) (F : List (CommittedTx Op)) (n : ℕ) (w : Seen Shape Op)
    (same : ◌≡◌ {A = Seen Shape Op} (record { shape = shape; config = config_of v ids G.1 F; count = n }) w) (empty : w.config ≡ first None) where
  was : config_of v ids G.1 F ≡ first None
  was = ap (λ (z : Seen Shape Op). z.config) same ∙ empty

  -- The shape of a new machine is the one that is seen.
  pub shape_is : shape ≡ w.shape
  shape_is = ap (λ (z : Seen Shape Op). z.shape) same

  no_names : reverse v.names ≡ []
  no_names = ap (λ (c : Config Op). c.names) was

  none_open : map tx_of v.opened ≡ []
  none_open = ap (λ (c : Config Op). c.opened) was

  none_done : F ≡ []
  none_done = ap (λ (c : Config Op). c.done) was

  unbegun : (t : Name) (b : Bool) → is_begun v t ≡ b → b ≡ false
  unbegun t true e = absurd (subst (λ (l : List Name). In t l) no_names (begun_in v t (sym e)))
  unbegun t false e = refl

  -- A new machine has begun no transaction.
  pub not_begun : (t : Name) → is_begun v t ≡ false
  not_begun t = unbegun t (is_begun v t) refl

  module _ (z : Start Op) (u : Txs Shape Op) (js : List ℕ) (K : Shape × List (SharedEntry Op)) (D : List (CommittedTx Op))
      (ended : u ≡ record { names = v.names ++ z.tx ∷ []; opened = v.opened }) (used : reverse js ≡ map (λ p. p.id) z.items)
      (shared : K ≡ (w.shape, commit_all z.tx (posted z.tx z.items))) (done : D ≡ F ++ record { name = z.tx; entries = z.items } ∷ []) where
    names_are : reverse u.names ≡ z.tx ∷ []
    names_are = ap (λ (x : Txs Shape Op). reverse x.names) ended ∙ reverse_more v.names z.tx ∙ ap (λ (l : List Name). z.tx ∷ l) no_names

    opened_are : map tx_of u.opened ≡ []
    opened_are = ap (λ (x : Txs Shape Op). map tx_of x.opened) ended ∙ none_open

    shared_are : K.1 ≡ map (as_shared z.tx true) z.items
    shared_are = ap (λ (k : Shape × List (SharedEntry Op)). k.1) shared ∙ committed_all z.tx z.items

    done_are : D ≡ record { name = z.tx; entries = z.items } ∷ []
    done_are = done ∙ ap (λ (l : List (CommittedTx Op)). l ++ record { name = z.tx; entries = z.items } ∷ []) none_done

    config_is : config_of u js K.1 D ≡ first (Some z)
    config_is = same_config _ _ _ _ _ _ _ _ _ _ names_are used opened_are shared_are done_are

    -- After a start, the machine is seen with the first configuration of this start.
    pub seen_started : w.count ≡ 0 → ◌≡◌ {A = Seen Shape Op} (record { shape = shape; config = config_of u js K.1 D; count = n }) (record { shape = w.shape; config = first (Some z); count = 0 })
    seen_started e =
        ap (λ (s : Shape). record { shape = s; config = config_of u js K.1 D; count = n }) shape_is
        ∙ ap (λ (c : Config Op). record { shape = w.shape; config = c; count = n }) config_is
        ∙ ap (λ (m : ℕ). record { shape = w.shape; config = first (Some z); count = m }) (ap (λ (s : Seen Shape Op). s.count) same ∙ e)

    module _ (asked : All (IsAskedItem o w.shape) z.items) where
      ranged : AllRanged o (ops z.items)
      ranged = in_ranged o (ops z.items) (λ a i.
          let m = from_map (λ (p : Item Op). p.op) a z.items i in
          let k = in_at z.items m.0 m.1 in
          let e = get_or_from_slice_get z.items k.0 m.0 m.0 k.2 in
          subst (λ (x : Op). IsTrue (o.ranged x)) (sym m.2) (subst (IsAskedItem o w.shape) e (All-get_or (IsAskedItem o w.shape) z.items k.0 m.0 k.1 asked)).1)

      -- no transaction is open
      none : (x : Open Shape Op) → In x u.opened → ⊥
      none x i = subst (λ (l : List (Tx Op)). In (tx_of x) l) opened_are (in_map tx_of x u.opened i)

      -- After a start that meets its criteria, the machine holds what each machine keeps.
      pub holds_started : length z.items ≤ 256 → StartMeets (rules_of o w.shape) (Some z) → Holds o shape u js K D n
      holds_started few meets =
          let size : length K.1 ≡ length z.items = ap (λ (l : List (SharedEntry Op)). length l) shared_are ∙ length-map z.items (as_shared z.tx true) in
          record {
            sound = subst (λ (c : Config Op). Sound (rules_of o shape) c) (sym config_is) (subst (λ (s : Shape). Sound (rules_of o s) (first (Some z))) (sym shape_is) (start_sound (rules_of o w.shape) (Some z) meets));
            fine = λ x i. absurd (none x i);
            shared_shape = ap (λ (k : Shape × List (SharedEntry Op)). k.0) shared ∙ sym shape_is;
            shared_short = omega (arith, size, few);
            shared_ranged = subst (λ (l : List (SharedEntry Op)). AllRanged o (shared_ops l)) (sym shared_are) (subst (AllRanged o) (sym (committed_ops z.tx z.items)) ranged);
            serial_ranged = subst (λ (l : List (CommittedTx Op)). AllRanged o (serial_ops l)) (sym done_are) (subst (λ (l : List (Item Op)). AllRanged o (ops l)) (sym (append-nil z.items)) ranged);
          }
