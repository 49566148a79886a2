-- An op record: its refresh, APP and PUSH.
use Rattle.std.specs.Prelude.{◌≡◌, ◌⊎◌, ℕ, true, false, List, [], ◌∷◌, ◌++◌, Option, Some}
use Rattle.std.proofs.Common.{refl, sym, ap, subst, ◌∙◌}
use Rattle.std.proofs.lemmas.List.{append-nil}
use mathlib.Core.Logic.{inl, inr}
use Rattle.pp_model.specs.Body.{Tree, Begins}
use Rattle.pp_model.specs.Lists.{In}
use Rattle.pp_model.specs.Names.{Name}
use Rattle.pp_model.specs.Object.{Object, Allowed, Swaps, Item}
use Rattle.pp_model.specs.Config.{Unpushed, Pushed, Pulled, LocalEntry, SharedEntry, Tx, Config, Step, App, Push, own_items, shared_ops, as_shared, tx, on_log, set_mark, after_from}
use Rattle.pp_model.specs.Rules.{Meets, RunsFrom, calls}
use Rattle.pp_model.proofs.Lists.{in_left, in_right, in_cases}
use Rattle.pp_model.proofs.Logs.{found_tx}
use Rattle.pp_records.specs.Expansions.{stands_in, refresh}
use Rattle.pp_summary.specs.Boosted.{PlacesSwap, Boosted, BoostedBut, Anchored, GoodOp, IsDoneAt, IsOwnAt}
use Rattle.pp_model.proofs.Local.{shared_used}
use Rattle.pp_model.proofs.Steps.{own_items-append}
use Rattle.pp_summary.proofs.Front.{is_item}
use Rattle.pp_summary.proofs.Refresh.{Refreshing, refreshed, Goal}
use Rattle.pp_summary.proofs.Append.{Asked, asked_app, asked_push, app_holds, push_holds, marked_last, then_two, two_boosted}
use Rattle.pp_records.proofs.Ends.{after_append, runs_append, runs_front, runs_back}
use Rattle.pp_laws_summary.proofs.Entries.{is_there, entry_in}
use Rattle.pp_laws_summary.proofs.Relog.{on_log-same, on_log-fuse}

-- A boosted configuration is boosted but for one transaction.
pub as_boosted_but : {Op State : Type 0} (O : Object Op State) (place : Op → ℕ) (t : Name) (c : Config Op) → Boosted O place c → BoostedBut O place t c
as_boosted_but O place t c b = record { sound = b.sound; follows = b.follows; anchored = λ y i n. b.anchored y i }

-- The configuration d is c after an op record of x.
pub record Grown {Op : Type 0} (place : Op → ℕ) (c : Config Op) (t : Name) (id : ℕ) (op : Op) (x : Tx Op) (d : Config Op) : Type 0 where
  pub log : List (LocalEntry Op)
  pub is : d ≡ record { names = c.names; ids = id ∷ c.ids; opened = on_log t (λ l. log) c.opened; shared = c.shared ++ as_shared t false (record { id = id; op = op }) ∷ []; done = c.done }
  pub own : own_items log ≡ own_items x.local ++ record { id = id; op = op } ∷ []
  pub kept : (a : LocalEntry Op) → In a x.local → In a log
  pub added : (a : LocalEntry Op) → In a log → In a x.local ⊎ ((g : SharedEntry Op) → In g c.shared → g.id ≡ a.id → place g.op ≡ place op)
  pub full : (q : SharedEntry Op) → IsDoneAt place (place op) c.shared q → stands_in log q.id ≡ true

module _ {Op State : Type 0} (O : Object Op State) (place : Op → ℕ) (apart : PlacesSwap O place)
    (c : Config Op) (b : Boosted O place c) (t : Name) (id : ℕ) (op : Op) (x : Tx Op) (lookup : tx t c.opened ≡ Some x) where
  abbrev pulls : List (Step Op)
  pulls = refresh place t (place op) c.shared x.local

  abbrev ends : List (Step Op)
  ends = App t id op ∷ Push t id ∷ []

  abbrev d : Config Op
  d = after_from c pulls

  begun : Refreshing O place t c x (place op) [] c.shared c x
  begun =
      record {
        boosted_but = as_boosted_but O place t c b;
        lookup = lookup;
        is = ap (λ (w : List (Tx Op)). record c { opened = w }) (sym (on_log-same O c b.sound t x (found_tx t c.opened x lookup).0 (found_tx t c.opened x lookup).1));
        shared = refl;
        ids = refl;
        body = refl;
        own = refl;
        cut = refl;
        kept = λ a i. i;
        added = λ a i. inl i;
        seen = λ r k. absurd k.0;
        ahead = λ r i. refl;
      }

  goal : Goal O place apart t c x (place op) c.shared c pulls
  goal = refreshed O place apart t c x (place op) c.shared [] c x begun

  nx : x.name ≡ t
  nx = (found_tx t c.opened x lookup).1

  module _ (K : List (SharedEntry Op)) (y : Tx Op) (r : Refreshing O place t c x (place op) K [] d y) where
    full : (q : SharedEntry Op) → IsDoneAt place (place op) d.shared q → stands_in y.local q.id ≡ true
    full q k = r.seen q (subst (λ (w : List (SharedEntry Op)). In q w) (r.cut ∙ append-nil K) k.0, k.1, k.2)

    asked : GoodOp O place c id op x → Asked O place apart t d r.boosted_but y r.lookup id op full
    asked g =
        record {
          new = subst (λ (w : List ℕ). In id w → ⊥) (sym r.ids) g.new;
          begins = subst (λ (w : Option Tree). Begins w (calls O (own_items y.local) ++ O.call op ∷ [])) (sym r.body)
              (subst (λ (w : List (Item Op)). Begins x.body (calls O w ++ O.call op ∷ [])) (sym r.own) g.begins);
          passes = λ u i v n. g.passes u (subst (λ (w : List (SharedEntry Op)). In u w) r.shared i) v (λ e. n (e ∙ nx));
          allowed = subst (λ (w : List (SharedEntry Op)). Allowed O (shared_ops w ++ op ∷ [])) (sym r.shared) g.allowed;
        }

    app : GoodOp O place c id op x → Meets O d (App t id op)
    app g = app_holds O place apart t d r.boosted_but y r.lookup id op full (asked g)

    end_runs : GoodOp O place c id op x → RunsFrom O d ends
    end_runs g = (app g, (push_holds O place apart t d r.boosted_but y r.lookup id op full (app g) (asked g), tt))

    end_good : RunsFrom O d ends → ((a : LocalEntry Op) (p : SharedEntry Op) → IsOwnAt place (place op) x.local a → IsDoneAt place (place op) c.shared p → stands_in x.local p.id ≡ false → Swaps O a.op p.op) →
        GoodOp O place c id op x
    end_good h sw =
        let k = asked_app O place apart t d r.boosted_but y r.lookup id op full h.0 in
        let l = asked_push O place apart t d r.boosted_but y r.lookup id op full h.0 h.1.0 in
        record {
          new = subst (λ (w : List ℕ). In id w → ⊥) r.ids k.0;
          begins = subst (λ (w : Option Tree). Begins w (calls O (own_items x.local) ++ O.call op ∷ [])) r.body
              (subst (λ (w : List (Item Op)). Begins y.body (calls O w ++ O.call op ∷ [])) r.own k.1);
          swaps = sw;
          passes = λ u i v n. l.0 u (subst (λ (w : List (SharedEntry Op)). In u w) (sym r.shared) i) v (λ e. n (e ∙ sym nx));
          allowed = subst (λ (w : List (SharedEntry Op)). Allowed O (shared_ops w ++ op ∷ [])) r.shared l.1;
        }

    abbrev now_pushed : LocalEntry Op
    now_pushed = record { id = id; owner = t; mark = Pushed; op = op }

    anchors : Anchored place (y.local ++ now_pushed ∷ [])
    anchors p i m = elim (in_cases p y.local (now_pushed ∷ []) i) [
      | inl j ↦ elim (r.added p j) [
        | inl k ↦ let a = b.anchored x (found_tx t c.opened x lookup).0 p k m in (a.0, (in_left a.0 y.local (now_pushed ∷ []) (r.kept a.0 a.1.0), a.1.1, a.1.2))
        | inr k ↦ (now_pushed, (in_right now_pushed y.local (now_pushed ∷ []) (inl refl), refl, sym k.1))
      ]
      | inr (inl j) ↦ absurd (let z : Pushed ≡ Pulled = ap (λ (w : LocalEntry Op). w.mark) (sym j) ∙ m in cc)
      | inr (inr j) ↦ absurd j
    ]

    end_boosted : RunsFrom O d ends → Boosted O place (after_from d ends)
    end_boosted h = subst (λ (w : Config Op). Boosted O place w) (sym (then_two O place apart t d r.boosted_but y r.lookup id op full h.0))
        (two_boosted O place apart t d r.boosted_but y r.lookup id op full h.0 h.1.0 anchors)

    new_here : RunsFrom O d ends → In id d.ids → ⊥
    new_here h = (asked_app O place apart t d r.boosted_but y r.lookup id op full h.0).0

    iy : In y d.opened
    iy = (found_tx t d.opened y r.lookup).0

    abbrev unpushed : LocalEntry Op
    unpushed = record { id = id; owner = t; mark = Unpushed; op = op }

    end_is : RunsFrom O d ends → after_from d ends ≡ record { names = c.names; ids = id ∷ c.ids; opened = on_log t (λ l. y.local ++ now_pushed ∷ []) c.opened; shared = c.shared ++ as_shared t false (record { id = id; op = op }) ∷ []; done = c.done }
    end_is h = then_two O place apart t d r.boosted_but y r.lookup id op full h.0
        ∙ ap (λ (w : Config Op). record { names = w.names; ids = id ∷ w.ids; opened = on_log t (set_mark id Pushed) (on_log t (λ l. l ++ unpushed ∷ []) w.opened); shared = w.shared ++ as_shared t false (record { id = id; op = op }) ∷ []; done = w.done }) r.is
        ∙ ap (λ (w : List (Tx Op)). record { names = c.names; ids = id ∷ c.ids; opened = w; shared = c.shared ++ as_shared t false (record { id = id; op = op }) ∷ []; done = c.done }) logs
      where
        logs : on_log t (set_mark id Pushed) (on_log t (λ l. l ++ unpushed ∷ []) (on_log t (λ l. y.local) c.opened)) ≡ on_log t (λ l. y.local ++ now_pushed ∷ []) c.opened
        logs = ap (λ (w : List (Tx Op)). on_log t (set_mark id Pushed) w) (on_log-fuse t (λ l. l ++ unpushed ∷ []) (λ l. y.local) c.opened)
            ∙ on_log-fuse t (set_mark id Pushed) (λ l. y.local ++ unpushed ∷ []) c.opened
            ∙ ap (λ (w : List (LocalEntry Op)). on_log t (λ l. w) c.opened)
            (marked_last id Pushed y.local unpushed (λ a i n. new_here h (subst (λ (w : ℕ). In w d.ids) n (r.boosted_but.sound.local_used y iy a i))) refl)

    end_grown : RunsFrom O d ends → Grown place c t id op x (after_from d ends)
    end_grown h =
        record {
          log = y.local ++ now_pushed ∷ [];
          is = end_is h;
          own = own_items-append y.local (now_pushed ∷ []) ∙ ap (λ (w : List (Item Op)). w ++ record { id = id; op = op } ∷ []) r.own;
          kept = λ a i. in_left a y.local (now_pushed ∷ []) (r.kept a i);
          added = λ a i. elim (in_cases a y.local (now_pushed ∷ []) i) [
            | inl j ↦ elim (r.added a j) [
              | inl k ↦ inl k
              | inr k ↦ inr (λ g k' n. ap (λ (w : Item Op). place w.op) (is_item O place apart d r.boosted_but.sound y iy (r.boosted_but.follows y iy) a j g (subst (λ (w : List (SharedEntry Op)). In g w) (sym r.shared) k') n) ∙ k.1)
            ]
            | inr (inl j) ↦ inr (λ g k n. absurd (new_here h (subst (λ (w : ℕ). In w d.ids) (n ∙ ap (λ (w : LocalEntry Op). w.id) j)
                (shared_used O d r.boosted_but.sound g (subst (λ (w : List (SharedEntry Op)). In g w) (sym r.shared) k)))))
            | inr (inr j) ↦ absurd j
          ];
          full = λ q k.
              let e = entry_in q.id y.local (full q (subst (λ (w : List (SharedEntry Op)). In q w) (sym r.shared) k.0, k.1, k.2)) in
              is_there q.id (y.local ++ now_pushed ∷ []) e.0 (in_left e.0 y.local (now_pushed ∷ []) e.1) e.2;
        }

  -- If an op record is good, its pulls, its APP and its PUSH meet their criteria.
  pub op_runs : GoodOp O place c id op x → RunsFrom O c (pulls ++ ends)
  op_runs g =
      let k = goal.0 g.swaps in
      let e = (goal.1 k).1 in
      runs_append O c pulls ends k (end_runs e.0 e.1 e.2 g)

  -- If the steps of an op record meet their criteria, the record is good.
  pub op_good : RunsFrom O c (pulls ++ ends) → GoodOp O place c id op x
  op_good h =
      let k : RunsFrom O c pulls × RunsFrom O d ends = (runs_front O c pulls ends h, runs_back O c pulls ends h) in
      let e = goal.1 k.0 in
      end_good e.1.0 e.1.1 e.1.2 k.1 e.0

  -- The steps of an op record, if they meet their criteria, keep a configuration boosted.
  pub op_boosted : RunsFrom O c (pulls ++ ends) → Boosted O place (after_from c (pulls ++ ends))
  op_boosted h =
      let k : RunsFrom O c pulls × RunsFrom O d ends = (runs_front O c pulls ends h, runs_back O c pulls ends h) in
      let e = (goal.1 k.0).1 in
      subst (λ (w : Config Op). Boosted O place w) (sym (after_append c pulls ends)) (end_boosted e.0 e.1 e.2 k.1)

  -- The steps of an op record pull the missed entries and add the new entry to both logs.
  pub op_grown : RunsFrom O c (pulls ++ ends) → Grown place c t id op x (after_from c (pulls ++ ends))
  op_grown h =
      let k : RunsFrom O c pulls × RunsFrom O d ends = (runs_front O c pulls ends h, runs_back O c pulls ends h) in
      let e = (goal.1 k.0).1 in
      subst (λ (w : Config Op). Grown place c t id op x w) (sym (after_append c pulls ends)) (end_grown e.0 e.1 e.2 k.1)
