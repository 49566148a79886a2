-- The configurations after the steps.
use Rattle.std.proofs.Common.{◌≡◌, ℕ, Bool, true, false, cond, not, filter, List, [], ◌∷◌, ◌++◌}
use Rattle.std.proofs.Common.{map, Option, Some, reverse, refl, sym, ◌∙◌, ap}
use Rattle.std.proofs.lemmas.List.{map-append}
use Rattle.pp_core.specs.declared.entry.CommittedTx.{CommittedTx}
use Rattle.pp_core.specs.declared.entry.LocalEntry.{LocalEntry}
use Rattle.pp_core.specs.declared.entry.SharedEntry.{SharedEntry}
use Rattle.pp_model.specs.Body.{Tree}
use Rattle.pp_model.specs.Config.{Tx, Begin, App, Unapp, Push, Unpush, Pull, Unpull, Cmt, Quit}
use Rattle.pp_model.specs.Config.{Unpushed, Pushed, Pulled, commit_all, at_mark, but_last}
use Rattle.pp_model.specs.Config.{commit_effect, entry_of, item, set_mark, of_other, on_log}
use Rattle.pp_model.specs.Config.{own_items, as_shared, pull_effect, push_effect, relog, then, tx}
use Rattle.pp_model.specs.Config.{without_local, without_shared, without_tx}
use Rattle.pp_model.specs.Names.{Name, ◌=ⁿ◌}
use Rattle.pp_model.proofs.Finding.{reverse_more}
use Rattle.pp_machine.specs.Machines.{config_of, tx_of}
use Rattle.pp_machine.specs.Transactions.{Open, Txs, open_of, with_open}
use Rattle.pp_machine.specs.Transactions.{without_open}

-- the transaction with f at the entries of its local log
abbrev pub relogged : {Shape Op : Type 0} → (List (LocalEntry Op) → List (LocalEntry Op)) →
    Open Shape Op → Open Shape Op
relogged f x =
    record { name = x.name; thread = x.thread; body = x.body; local = (x.local.0, f x.local.1) }

-- with f at the local log of the open transaction t
abbrev pub with_log : {Shape Op : Type 0} → Name → (List (LocalEntry Op) → List (LocalEntry Op)) →
    Txs Shape Op → Txs Shape Op
with_log t f v =
    record { names = v.names; opened = map (λ x. cond (x.name =ⁿ t) (relogged f x) x) v.opened }

module _ {Shape Op : Type 0} where
  relogged_tx : (h : List (LocalEntry Op) → List (LocalEntry Op)) (x : Open Shape Op) (b : Bool) → tx_of (cond b (relogged h x) x) ≡ cond b (relog h (tx_of x)) (tx_of x)
  relogged_tx h x true = refl
  relogged_tx h x false = refl

  on_logs : (t : Name) (h : List (LocalEntry Op) → List (LocalEntry Op)) (l : List (Open Shape Op)) → map tx_of (map (λ x. cond (x.name =ⁿ t) (relogged h x) x) l) ≡ on_log t h (map tx_of l)
  on_logs t h [] = refl
  on_logs t h (x ∷ l) =
      ap (λ (z : Tx Op). z ∷ map tx_of (map (λ x. cond (x.name =ⁿ t) (relogged h x) x) l)) (relogged_tx h x (x.name =ⁿ t))
      ∙ ap (λ (z : List (Tx Op)). cond (x.name =ⁿ t) (relog h (tx_of x)) (tx_of x) ∷ z) (on_logs t h l)

  left_tx : (x : Open Shape Op) (l : List (Open Shape Op)) (b : Bool) → map tx_of (cond b (x ∷ l) l) ≡ cond b (tx_of x ∷ map tx_of l) (map tx_of l)
  left_tx x l true = refl
  left_tx x l false = refl

  left : (t : Name) (l : List (Open Shape Op)) → map tx_of (filter (λ x. not (x.name =ⁿ t)) l) ≡ without_tx t (map tx_of l)
  left t [] = refl
  left t (x ∷ l) =
      left_tx x (filter (λ x. not (x.name =ⁿ t)) l) (not (x.name =ⁿ t))
      ∙ ap (λ (z : List (Tx Op)). cond (not (x.name =ⁿ t)) (tx_of x ∷ z) z) (left t l)

  module _ (v : Txs Shape Op) (ids : List ℕ) (G : List (SharedEntry Op)) (F : List (CommittedTx Op)) (t : Name) where
    -- A new open transaction with an empty log makes the configuration after a BEGIN.
    pub after_begin : (p : Name) (b : Option Tree) (l : Shape × List (LocalEntry Op)) → l.1 ≡ [] → config_of (with_open (open_of t p b l) v) ids G F ≡ then (config_of v ids G F) (Begin t p b)
    after_begin p b l e =
        ap (λ (z : List Name). record { names = z; ids = reverse ids; opened = map tx_of (v.opened ++ open_of t p b l ∷ []); shared = G; done = F }) (reverse_more v.names t)
        ∙ ap (λ (z : List (Tx Op)). record { names = t ∷ reverse v.names; ids = reverse ids; opened = z; shared = G; done = F })
        (map-append tx_of v.opened (open_of t p b l ∷ []) ∙ ap (λ (z : List (LocalEntry Op)). map tx_of v.opened ++ record { name = t; thread = p; body = b; local = z } ∷ []) e)

    -- A new unpushed entry in the local log and a used id make the configuration after an APP.
    pub after_app : (id : ℕ) (op : Op) → config_of (with_log t (λ l. l ++ record { id = id; owner = t; mark = Unpushed; op = op } ∷ []) v) (ids ++ id ∷ []) G F ≡ then (config_of v ids G F) (App t id op)
    after_app id op =
        ap (λ (z : List ℕ). record { names = reverse v.names; ids = z; opened = map tx_of (with_log t (λ l. l ++ record { id = id; owner = t; mark = Unpushed; op = op } ∷ []) v).opened; shared = G; done = F }) (reverse_more ids id)
        ∙ ap (λ (z : List (Tx Op)). record { names = reverse v.names; ids = id ∷ reverse ids; opened = z; shared = G; done = F }) (on_logs t (λ l. l ++ record { id = id; owner = t; mark = Unpushed; op = op } ∷ []) v.opened)

    -- A new pulled entry in the local log makes the configuration after a PULL.
    pub after_pull : (id : ℕ) (g : SharedEntry Op) → of_other t id G ≡ Some g →
        config_of (with_log t (λ l. l ++ record { id = g.id; owner = g.owner; mark = Pulled; op = g.op } ∷ []) v) ids G F ≡ then (config_of v ids G F) (Pull t id)
    after_pull id g h =
        ap (λ (z : List (Tx Op)). record { names = reverse v.names; ids = reverse ids; opened = z; shared = G; done = F }) (on_logs t (λ l. l ++ record { id = g.id; owner = g.owner; mark = Pulled; op = g.op } ∷ []) v.opened)
        ∙ sym (ap (λ (z : Option (SharedEntry Op)). pull_effect (config_of v ids G F) t id z) h)

    -- The mark Pushed and a new entry of the shared log make the configuration after a PUSH.
    pub after_push : (id : ℕ) (x : Tx Op) (p : LocalEntry Op) → tx t (map tx_of v.opened) ≡ Some x → at_mark id Unpushed x.local ≡ Some p →
        config_of (with_log t (set_mark id Pushed) v) ids (G ++ as_shared t false (item p) ∷ []) F ≡ then (config_of v ids G F) (Push t id)
    after_push id x p e h =
        ap (λ (z : List (Tx Op)). record { names = reverse v.names; ids = reverse ids; opened = z; shared = G ++ as_shared t false (item p) ∷ []; done = F }) (on_logs t (set_mark id Pushed) v.opened)
        ∙ sym (ap (λ (z : Option (Tx Op)). push_effect (config_of v ids G F) t id (entry_of id Unpushed z)) e ∙ ap (λ (z : Option (LocalEntry Op)). push_effect (config_of v ids G F) t id z) h)

    -- Without the transaction, with its entries committed, the configuration is that after its CMT.
    pub after_cmt : (x : Tx Op) → tx t (map tx_of v.opened) ≡ Some x →
        config_of (without_open t v) ids (commit_all t G) (F ++ record { name = t; entries = own_items x.local } ∷ []) ≡ then (config_of v ids G F) (Cmt t)
    after_cmt x e =
        ap (λ (z : List (Tx Op)). record { names = reverse v.names; ids = reverse ids; opened = z; shared = commit_all t G; done = F ++ record { name = t; entries = own_items x.local } ∷ [] }) (left t v.opened)
        ∙ sym (ap (λ (z : Option (Tx Op)). commit_effect (config_of v ids G F) t z) e)

    -- Without the transaction, the configuration is that after its QUIT.
    pub after_quit : config_of (without_open t v) ids G F ≡ then (config_of v ids G F) (Quit t)
    after_quit = ap (λ (z : List (Tx Op)). record { names = reverse v.names; ids = reverse ids; opened = z; shared = G; done = F }) (left t v.opened)

    -- Without the last entry of its local log, the configuration is that after an UNAPP.
    pub after_unapp : (id : ℕ) → config_of (with_log t but_last v) ids G F ≡ then (config_of v ids G F) (Unapp t id)
    after_unapp id = ap (λ (z : List (Tx Op)). record { names = reverse v.names; ids = reverse ids; opened = z; shared = G; done = F }) (on_logs t but_last v.opened)

    -- The mark Unpushed, and no entry in the shared log, make the configuration after an UNPUSH.
    pub after_unpush : (id : ℕ) → config_of (with_log t (set_mark id Unpushed) v) ids (without_shared id G) F ≡ then (config_of v ids G F) (Unpush t id)
    after_unpush id = ap (λ (z : List (Tx Op)). record { names = reverse v.names; ids = reverse ids; opened = z; shared = without_shared id G; done = F }) (on_logs t (set_mark id Unpushed) v.opened)

    -- Without the entry in the local log, the configuration is that after an UNPULL.
    pub after_unpull : (id : ℕ) → config_of (with_log t (without_local id) v) ids G F ≡ then (config_of v ids G F) (Unpull t id)
    after_unpull id = ap (λ (z : List (Tx Op)). record { names = reverse v.names; ids = reverse ids; opened = z; shared = G; done = F }) (on_logs t (without_local id) v.opened)
