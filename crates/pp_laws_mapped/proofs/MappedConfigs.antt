-- A configuration whose operations are mapped, and the effect of a step on it.
use Rattle.std.specs.Prelude.{◌≡◌, ◌==◌, ◌&&◌, Bool, true, false, cond, not, ℕ, List, [], ◌∷◌, ◌++◌, map, Option, None, Some, option_map}
use Rattle.std.proofs.Common.{refl, sym, ap, ◌∙◌}
use Rattle.std.proofs.lemmas.List.{map-append}
use Rattle.pp_model.specs.Config.{App, Begin, Cmt, CommittedTx, Config, LocalEntry, Mark, Note, Pull, Push, Pushed, Quit, SharedEntry, Start, Step, Tx, Unapp, Unpull, Unpush, Unpushed}
use Rattle.pp_model.specs.Config.{as_applied, as_pulled, as_shared, at_mark, but_last, commit_all, commit_effect, entry_of, first, is_mark, is_own, item, local_ops, of_other, on_log, own, own_items, pull_effect, push_effect, relog, set_mark, shared_ops, then, tx, without_local, without_tx}
use Rattle.pp_model.specs.Names.{Name, ◌=ⁿ◌}
use Rattle.pp_model.specs.Object.{Item, ops}
use Rattle.pp_laws_summary.proofs.Relog.{filter_map}
use Rattle.pp_laws_mapped.specs.Mapped.{mapped_item, mapped_start, mapped_step}
use Rattle.pp_laws_mapped.proofs.MappedLists.{but_last_mapped, find_mapped, maps_turned}

-- entries, transactions and configurations
abbrev pub local_by : {A B : Type 0} → (A → B) → LocalEntry A → LocalEntry B
local_by f e = record { id = e.id; owner = e.owner; mark = e.mark; op = f e.op }

abbrev pub shared_by : {A B : Type 0} → (A → B) → SharedEntry A → SharedEntry B
shared_by f g = record { id = g.id; owner = g.owner; committed = g.committed; op = f g.op }

abbrev pub tx_by : {A B : Type 0} → (A → B) → Tx A → Tx B
tx_by f x = record { name = x.name; thread = x.thread; body = x.body; local = map (local_by f) x.local }

abbrev pub done_by : {A B : Type 0} → (A → B) → CommittedTx A → CommittedTx B
done_by f d = record { name = d.name; entries = map (mapped_item f) d.entries }

abbrev pub config_by : {A B : Type 0} → (A → B) → Config A → Config B
config_by f c =
    record {
      names = c.names;
      ids = c.ids;
      opened = map (tx_by f) c.opened;
      shared = map (shared_by f) c.shared;
      done = map (done_by f) c.done;
    }

module _ {A B : Type 0} (f : A → B) where
  -- ---- parts of a configuration

  pub ops_local : (l : List (LocalEntry A)) → local_ops (map (local_by f) l) ≡ map f (local_ops l)
  ops_local l = maps_turned (local_by f) (λ (e : LocalEntry A). e.op) f (λ (e : LocalEntry B). e.op) l (λ e. refl)

  pub ops_shared : (l : List (SharedEntry A)) → shared_ops (map (shared_by f) l) ≡ map f (shared_ops l)
  ops_shared l = maps_turned (shared_by f) (λ (g : SharedEntry A). g.op) f (λ (g : SharedEntry B). g.op) l (λ g. refl)

  pub ops_items : (l : List (Item A)) → ops (map (mapped_item f) l) ≡ map f (ops l)
  ops_items l = maps_turned (mapped_item f) (λ (p : Item A). p.op) f (λ (p : Item B). p.op) l (λ p. refl)

  items_own : (l : List (LocalEntry A)) → own_items (map (local_by f) l) ≡ map (mapped_item f) (own_items l)
  items_own l =
      ap (map item) (filter_map (λ (e : LocalEntry B). is_own e.mark) (local_by f) l)
      ∙ maps_turned (local_by f) item (mapped_item f) item (own l) (λ e. refl)

  pub tx_mapped : (t : Name) (xs : List (Tx A)) → tx t (map (tx_by f) xs) ≡ option_map (tx_by f) (tx t xs)
  tx_mapped t xs = find_mapped (tx_by f) (λ (x : Tx B). x.name =ⁿ t) xs

  pub at_mark_mapped : (id : ℕ) (m : Mark) (l : List (LocalEntry A)) → at_mark id m (map (local_by f) l) ≡ option_map (local_by f) (at_mark id m l)
  at_mark_mapped id m l = find_mapped (local_by f) (λ (e : LocalEntry B). (e.id == id) && is_mark e.mark m) l

  pub of_other_mapped : (t : Name) (id : ℕ) (l : List (SharedEntry A)) → of_other t id (map (shared_by f) l) ≡ option_map (shared_by f) (of_other t id l)
  of_other_mapped t id l = find_mapped (shared_by f) (λ (g : SharedEntry B). (g.id == id) && not (g.owner =ⁿ t)) l

  entry_of_mapped : (id : ℕ) (m : Mark) (o : Option (Tx A)) → entry_of id m (option_map (tx_by f) o) ≡ option_map (local_by f) (entry_of id m o)
  entry_of_mapped id m None = refl
  entry_of_mapped id m (Some x) = at_mark_mapped id m x.local

  -- ---- changes of logs

  on_log_mapped : (t : Name) (F : List (LocalEntry A) → List (LocalEntry A)) (G : List (LocalEntry B) → List (LocalEntry B)) (xs : List (Tx A)) → ((l : List (LocalEntry A)) → G (map (local_by f) l) ≡ map (local_by f) (F l)) →
      on_log t G (map (tx_by f) xs) ≡ map (tx_by f) (on_log t F xs)
  on_log_mapped t F G xs h =
      maps_turned (tx_by f) (λ (x : Tx A). cond (x.name =ⁿ t) (relog F x) x) (tx_by f) (λ (x : Tx B). cond (x.name =ⁿ t) (relog G x) x) xs (λ x. by x (x.name =ⁿ t))
    where
      by : (x : Tx A) (b : Bool) → cond b (relog G (tx_by f x)) (tx_by f x) ≡ tx_by f (cond b (relog F x) x)
      by x true = ap (λ (l : List (LocalEntry B)). record { name = x.name; thread = x.thread; body = x.body; local = l }) (h x.local)
      by x false = refl

  set_mark_mapped : (id : ℕ) (m : Mark) (l : List (LocalEntry A)) → set_mark id m (map (local_by f) l) ≡ map (local_by f) (set_mark id m l)
  set_mark_mapped id m l =
      maps_turned (local_by f) (λ (e : LocalEntry A). cond (e.id == id) (record e { mark = m }) e) (local_by f) (λ (e : LocalEntry B). cond (e.id == id) (record e { mark = m }) e) l (λ e. by e (e.id == id))
    where
      by : (e : LocalEntry A) (b : Bool) → (let e' = local_by f e in cond b (record e' { mark = m }) e') ≡ local_by f (cond b (record e { mark = m }) e)
      by e true = refl
      by e false = refl

  commit_all_mapped : (t : Name) (l : List (SharedEntry A)) → commit_all t (map (shared_by f) l) ≡ map (shared_by f) (commit_all t l)
  commit_all_mapped t l =
      maps_turned (shared_by f) (λ (g : SharedEntry A). cond (g.owner =ⁿ t) (record g { committed = true }) g) (shared_by f) (λ (g : SharedEntry B). cond (g.owner =ⁿ t) (record g { committed = true }) g) l (λ g. by g (g.owner =ⁿ t))
    where
      by : (g : SharedEntry A) (b : Bool) → (let g' = shared_by f g in cond b (record g' { committed = true }) g') ≡ shared_by f (cond b (record g { committed = true }) g)
      by g true = refl
      by g false = refl

  -- ---- a configuration from its parts

  abbrev config_of : List Name → List ℕ → List (Tx B) → List (SharedEntry B) → List (CommittedTx B) → Config B
  config_of ns js xs G D = record { names = ns; ids = js; opened = xs; shared = G; done = D }

  parts : (ns : List Name) (js : List ℕ) (xs ys : List (Tx B)) (G H : List (SharedEntry B)) (D E : List (CommittedTx B)) → xs ≡ ys → G ≡ H → D ≡ E → config_of ns js xs G D ≡ config_of ns js ys H E
  parts ns js xs ys G H D E ex eg ed =
      ap (λ (w : List (Tx B)). config_of ns js w G D) ex ∙ ap (λ (w : List (SharedEntry B)). config_of ns js ys w D) eg ∙ ap (λ (w : List (CommittedTx B)). config_of ns js ys H w) ed

  push_mapped : (c : Config A) (t : Name) (id : ℕ) (o : Option (LocalEntry A)) → push_effect (config_by f c) t id (option_map (local_by f) o) ≡ config_by f (push_effect c t id o)
  push_mapped c t id None = refl
  push_mapped c t id (Some e) =
      parts c.names c.ids _ _ _ _ _ _ (on_log_mapped t (set_mark id Pushed) (set_mark id Pushed) c.opened (set_mark_mapped id Pushed))
      (sym (map-append (shared_by f) c.shared (as_shared t false (item e) ∷ []))) refl

  pull_mapped : (c : Config A) (t : Name) (id : ℕ) (o : Option (SharedEntry A)) → pull_effect (config_by f c) t id (option_map (shared_by f) o) ≡ config_by f (pull_effect c t id o)
  pull_mapped c t id None = refl
  pull_mapped c t id (Some g) =
      parts c.names c.ids _ _ _ _ _ _ (on_log_mapped t (λ l. l ++ as_pulled g ∷ []) (λ l. l ++ as_pulled (shared_by f g) ∷ []) c.opened (λ l. sym (map-append (local_by f) l (as_pulled g ∷ [])))) refl refl

  without_mapped : (t : Name) (xs : List (Tx A)) → without_tx t (map (tx_by f) xs) ≡ map (tx_by f) (without_tx t xs)
  without_mapped t xs = filter_map (λ (x : Tx B). not (x.name =ⁿ t)) (tx_by f) xs

  commit_mapped : (c : Config A) (t : Name) (o : Option (Tx A)) → commit_effect (config_by f c) t (option_map (tx_by f) o) ≡ config_by f (commit_effect c t o)
  commit_mapped c t None = refl
  commit_mapped c t (Some x) =
      parts c.names c.ids _ _ _ _ _ _ (without_mapped t c.opened) (commit_all_mapped t c.shared)
      (ap (λ (w : List (Item B)). map (done_by f) c.done ++ record { name = t; entries = w } ∷ []) (items_own x.local)
      ∙ sym (map-append (done_by f) c.done (record { name = t; entries = own_items x.local } ∷ [])))

  -- The effect of a step is mapped.
  pub then_mapped : (c : Config A) (s : Step A) → then (config_by f c) (mapped_step f s) ≡ config_by f (then c s)
  then_mapped c (Begin t p b) = parts (t ∷ c.names) c.ids _ _ _ _ _ _ (sym (map-append (tx_by f) c.opened (record { name = t; thread = p; body = b; local = [] } ∷ []))) refl refl
  then_mapped c (App t id op) =
      parts c.names (id ∷ c.ids) _ _ _ _ _ _ (on_log_mapped t (λ l. l ++ as_applied t id op ∷ []) (λ l. l ++ as_applied t id (f op) ∷ []) c.opened (λ l. sym (map-append (local_by f) l (as_applied t id op ∷ [])))) refl refl
  then_mapped c (Unapp t id) = parts c.names c.ids _ _ _ _ _ _ (on_log_mapped t but_last but_last c.opened (but_last_mapped (local_by f))) refl refl
  then_mapped c (Push t id) =
      ap (push_effect (config_by f c) t id) (ap (entry_of id Unpushed) (tx_mapped t c.opened) ∙ entry_of_mapped id Unpushed (tx t c.opened)) ∙ push_mapped c t id (entry_of id Unpushed (tx t c.opened))
  then_mapped c (Unpush t id) =
      parts c.names c.ids _ _ _ _ _ _ (on_log_mapped t (set_mark id Unpushed) (set_mark id Unpushed) c.opened (set_mark_mapped id Unpushed)) (filter_map (λ (g : SharedEntry B). not (g.id == id)) (shared_by f) c.shared) refl
  then_mapped c (Pull t id) = ap (pull_effect (config_by f c) t id) (of_other_mapped t id c.shared) ∙ pull_mapped c t id (of_other t id c.shared)
  then_mapped c (Unpull t id) =
      parts c.names c.ids _ _ _ _ _ _ (on_log_mapped t (without_local id) (without_local id) c.opened (λ l. filter_map (λ (e : LocalEntry B). not (e.id == id)) (local_by f) l)) refl refl
  then_mapped c (Cmt t) = ap (commit_effect (config_by f c) t) (tx_mapped t c.opened) ∙ commit_mapped c t (tx t c.opened)
  then_mapped c (Quit t) = parts c.names c.ids _ _ _ _ _ _ (without_mapped t c.opened) refl refl
  then_mapped c (Note t) = refl

  -- The first configuration is mapped.
  pub first_mapped : (h : Option (Start A)) → first (mapped_start f h) ≡ config_by f (first h)
  first_mapped None = refl
  first_mapped (Some z) =
      ap (λ (js : List ℕ). config_of (z.tx ∷ []) js [] (map (as_shared z.tx true) (map (mapped_item f) z.items)) (record { name = z.tx; entries = map (mapped_item f) z.items } ∷ []))
      (maps_turned (mapped_item f) (λ (p : Item A). p.id) (λ (i : ℕ). i) (λ (p : Item B). p.id) z.items (λ p. refl) ∙ ids (map (λ p. p.id) z.items))
      ∙ parts (z.tx ∷ []) (map (λ p. p.id) z.items) _ _ _ _ _ _ refl (maps_turned (mapped_item f) (as_shared z.tx true) (shared_by f) (as_shared z.tx true) z.items (λ p. refl)) refl
    where
      ids : (js : List ℕ) → map (λ (i : ℕ). i) js ≡ js
      ids [] = refl
      ids (j ∷ js) = ap (λ (l : List ℕ). j ∷ l) (ids js)
