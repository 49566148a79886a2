-- Proof machinery: what holds before each step of an accepted run.
use Rattle.std.specs.Prelude.{◌≡◌, ℕ, Bool, cond, List, [], ◌∷◌, ◌++◌, map, Option, None, Some}
use Rattle.std.proofs.Common.{refl, sym, ap, subst, ◌∙◌, append_assoc}
use Rattle.std.proofs.lemmas.List.{append-nil}
use mathlib.Core.Logic.{inl, inr}
use Rattle.pp_model.specs.Body.{IsWord}
use Rattle.pp_model.specs.Config.{Config, LocalEntry, Start, Step, Tx, Unpushed, is_own}
use Rattle.pp_model.specs.Config.{Begin, App, Unapp, Push, Unpush, Pull, Unpull, Cmt, Quit, Note}
use Rattle.pp_model.specs.Config.{after, after_from, but_last, entry_of, first, item, last, of_other}
use Rattle.pp_model.specs.Config.{own_items, push_effect, pull_effect, commit_effect, then, tx}
use Rattle.pp_model.specs.Lists.{Before, In}
use Rattle.pp_model.specs.Names.{Name}
use Rattle.pp_model.specs.Object.{Item, Object}
use Rattle.pp_model.specs.Rules.{calls, Meets, RunsFrom, StartMeets}
use Rattle.pp_model.specs.Serial.{Attempt, own_of}
use Rattle.pp_model.specs.Sound.{Sound}
use Rattle.pp_model.proofs.Begin.{start_sound}
use Rattle.pp_model.proofs.Follow.{follow}
use Rattle.pp_model.proofs.Keeps.{step_keeps, run_keeps}
use Rattle.pp_model.proofs.Logs.{but_last_is, found_tx}
use Rattle.pp_model.proofs.Steps.{last_holds, own_items-append, there_holds}
use Rattle.pp_model.proofs.Trace.{Traced}
use Rattle.pp_attempts.specs.Peaks.{IsOrderly}

-- An element with another after it.
before_cut : {A : Type 0} (x y : A) (xs : List A) → Before x y xs → (p r : List A) × (xs ≡ p ++ y ∷ r) × In x p
before_cut x y [] h = absurd h
before_cut {A} x y (z ∷ xs) (inl h) = let r = cut y xs h.1 in (z ∷ r.0, r.1, ap (λ (w : List A). z ∷ w) r.2, inl h.0)
  where
    cut : (y : A) (xs : List A) → In y xs → (p r : List A) × (xs ≡ p ++ y ∷ r)
    cut y [] h = absurd h
    cut y (z ∷ xs) (inl e) = ([], xs, ap (λ (w : A). w ∷ xs) (sym e))
    cut y (z ∷ xs) (inr i) = let r = cut y xs i in (z ∷ r.0, r.1, ap (λ (w : List A). z ∷ w) r.2)
before_cut {A} x y (z ∷ xs) (inr h) = let r = before_cut x y xs h in (z ∷ r.0, r.1, ap (λ (w : List A). z ∷ w) r.2, inr r.3)

last_end : {A : Type 0} (xs : List A) (x : A) → last (xs ++ x ∷ []) ≡ Some x
last_end [] x = refl
last_end (y ∷ []) x = refl
last_end (y ∷ z ∷ xs) x = last_end (z ∷ xs) x

-- ids that were applied stay
ids_stay : {Op : Type 0} (c : Config Op) (s : Step Op) (i : ℕ) → In i c.ids → In i (then c s).ids
ids_stay c (Begin t p b) i h = h
ids_stay c (App t id op) i h = inr h
ids_stay c (Unapp t id) i h = h
ids_stay {Op} c (Push t id) i h = by (entry_of id Unpushed (tx t c.opened))
  where
    by : (e : Option (LocalEntry Op)) → In i (push_effect c t id e).ids
    by None = h
    by (Some e) = h
ids_stay c (Unpush t id) i h = h
ids_stay c (Pull t id) i h = by (of_other t id c.shared)
  where
    by : (g : _) → In i (pull_effect c t id g).ids
    by None = h
    by (Some g) = h
ids_stay c (Unpull t id) i h = h
ids_stay {Op} c (Cmt t) i h = by (tx t c.opened)
  where
    by : (x : Option (Tx Op)) → In i (commit_effect c t x).ids
    by None = h
    by (Some x) = h
ids_stay c (Quit t) i h = h
ids_stay c (Note t) i h = h

ids_stay_on : {Op : Type 0} (c : Config Op) (ss : List (Step Op)) (i : ℕ) → In i c.ids → In i (after_from c ss).ids
ids_stay_on c [] i h = h
ids_stay_on c (s ∷ ss) i h = ids_stay_on (then c s) ss i (ids_stay c s i h)

applied_used : {Op : Type 0} (c : Config Op) (ss : List (Step Op)) (t : Name) (id : ℕ) (op : Op) → In (App t id op) ss → In id (after_from c ss).ids
applied_used c [] t id op h = absurd h
applied_used {Op} c (s ∷ ss) t id op (inl e) = ids_stay_on (then c s) ss id (subst (λ (w : Step Op). In id (then c w).ids) e (inl refl))
applied_used c (s ∷ ss) t id op (inr h) = applied_used (then c s) ss t id op h

module _ {Op State : Type 0} (O : Object Op State) where
  run_front : (c : Config Op) (p q : List (Step Op)) → RunsFrom O c (p ++ q) → RunsFrom O c p
  run_front c [] q r = tt
  run_front c (s ∷ p) q r = (r.0, run_front (then c s) p q r.1)

  run_at : (c : Config Op) (p q : List (Step Op)) (s : Step Op) → RunsFrom O c (p ++ s ∷ q) → Meets O (after_from c p) s
  run_at c [] q s r = r.0
  run_at c (a ∷ p) q s r = run_at (then c a) p q s r.1

  start_traced : (h : Option (Start Op)) → Traced O h [] (first h)
  start_traced None = record { lists = λ x i. absurd i; bodies = λ x i. absurd i; done = refl; words = λ a i. absurd i; fresh_list = λ t n. refl; fresh_bodies = λ t n. refl; drops = λ t i j. absurd j }
  start_traced (Some z) =
      record {
        lists = λ x i. absurd i;
        bodies = λ x i. absurd i;
        done = refl;
        words = λ a i. elim i [ inl e ↦ subst (λ (w : Attempt Op). IsWord w.body (calls O w.items)) (sym e) tt | inr j ↦ absurd j ];
        fresh_list = λ t n. refl;
        fresh_bodies = λ t n. refl;
        drops = λ t i j. absurd j;
      }

  run_traced : (h : Option (Start Op)) (ss past : List (Step Op)) (c : Config Op) → Sound O c → Traced O h past c → RunsFrom O c ss → Traced O h (past ++ ss) (after_from c ss)
  run_traced h [] past c s t r = subst (λ (w : List (Step Op)). Traced O h w c) (sym (append-nil past)) t
  run_traced h (a ∷ ss) past c s t r =
      subst (λ (w : List (Step Op)). Traced O h w (after_from (then c a) ss)) (append_assoc past (a ∷ []) ss)
      (run_traced h ss (past ++ a ∷ []) (then c a) (step_keeps O c a s r.0) (follow O h past c a s t r.0) r.1)

  module _ (h : Option (Start Op)) (met : StartMeets O h) where
    -- The configuration after an accepted run is sound.
    pub sound_there : (ss : List (Step Op)) → RunsFrom O (first h) ss → Sound O (after h ss)
    sound_there ss r = run_keeps O ss (first h) (start_sound O h met) r

    -- The configuration after an accepted run is what the steps say of it (`Traced`).
    pub traced_there : (ss : List (Step Op)) → RunsFrom O (first h) ss → Traced O h ss (after h ss)
    traced_there ss r = run_traced h ss [] (first h) (start_sound O h met) (start_traced h) r

    -- The facts right before a step.
    module _ (ss past rest : List (Step Op)) (s : Step Op) (run : RunsFrom O (first h) ss) (there : ss ≡ past ++ s ∷ rest) where
      whole : RunsFrom O (first h) (past ++ s ∷ rest)
      whole = subst (λ (w : List (Step Op)). RunsFrom O (first h) w) there run

      -- The steps before a step of an accepted run are accepted.
      pub front_runs : RunsFrom O (first h) past
      front_runs = run_front (first h) past (s ∷ rest) whole

      -- Each step of an accepted run meets its criteria after the steps before it.
      pub met_there : Meets O (after h past) s
      met_there = run_at (first h) past rest s whole

    applied_once : (ss : List (Step Op)) → RunsFrom O (first h) ss → (t u : Name) (id : ℕ) (a b : Op) → Before (App t id a) (App u id b) ss → ⊥
    applied_once ss r t u id a b before =
        let cut = before_cut (App t id a) (App u id b) ss before in
        let met = there_holds (tx u (after h cut.0).opened) _ (met_there ss cut.0 cut.1 (App u id b) r cut.2) in
        (met.2).0 (applied_used (first h) cut.0 t id a cut.3)

    undone_last : (ss : List (Step Op)) → RunsFrom O (first h) ss → (past rest : List (Step Op)) (t : Name) (id : ℕ) → ss ≡ past ++ Unapp t id ∷ rest
        → (p : Item Op) × (last (own_of t past) ≡ Some p) × (p.id ≡ id)
    undone_last ss r past rest t id there =
        let c = after h past in
        let met = there_holds (tx t c.opened) _ (met_there ss past rest (Unapp t id) r there) in
        let x : Tx Op = met.0 in
        let found = found_tx t c.opened x met.1 in
        let e = last_holds id (last x.local) (met.2).0 in
        let ends = but_last_is e.0 x.local e.1 in
        let owns : own_items (e.0 ∷ []) ≡ item e.0 ∷ [] = own_one e.0 e.3 in
        let list : own_of t past ≡ own_items (but_last x.local) ++ item e.0 ∷ [] =
        ap (λ (w : Name). own_of w past) (sym found.1)
        ∙ sym ((traced_there past (front_runs ss past rest (Unapp t id) r there)).lists x found.0)
        ∙ ap (λ (w : List (LocalEntry Op)). own_items w) ends
        ∙ own_items-append (but_last x.local) (e.0 ∷ [])
        ∙ ap (λ (w : List (Item Op)). own_items (but_last x.local) ++ w) owns in
        (item e.0, ap (λ (w : List (Item Op)). last w) list ∙ last_end (own_items (but_last x.local)) (item e.0), e.2)
      where
        own_one : (e : LocalEntry Op) → e.mark ≡ Unpushed → own_items (e ∷ []) ≡ item e ∷ []
        own_one e m = ap (λ (b : Bool). map item (cond b (e ∷ []) [])) (ap is_own m)

    -- The steps of an accepted run are orderly.
    pub orderly : (ss : List (Step Op)) → RunsFrom O (first h) ss → IsOrderly ss
    orderly ss r = record { once = applied_once ss r; last_first = undone_last ss r }
