-- Proof machinery: the shared log of a run.
use Rattle.std.specs.Prelude.{◌≡◌, ◌≢◌, ◌≤◌, ◌+◌, ◌*◌, ◌==◌, ◌⊎◌, ℕ, Bool, true, false, cond, IsTrue}
use Rattle.std.specs.Prelude.{List, [], ◌∷◌, ◌++◌, map, length, not, Option, None, Some}
use Rattle.std.proofs.Common.{refl, sym, ap, subst, ◌∙◌, arith, length-append}
use Rattle.std.proofs.lemmas.List.{length-map}
use mathlib.Core.Logic.{inl, inr}
use Rattle.pp_model.specs.Config.{Config, LocalEntry, Mark, Pushed, SharedEntry, Start, Step, Tx}
use Rattle.pp_model.specs.Config.{Unpushed, Begin, App, Unapp, Push, Unpush, Pull, Unpull, Cmt, Quit}
use Rattle.pp_model.specs.Config.{Note, after, after_from, as_applied, as_pulled, as_shared, but_last}
use Rattle.pp_model.specs.Config.{commit_effect, entry_of, first, item, on_log, pull_effect}
use Rattle.pp_model.specs.Config.{push_effect, relog, set_mark, shared_item, then, tx, without_local}
use Rattle.pp_model.specs.Lists.{Before, Each, In}
use Rattle.pp_model.specs.Names.{Name, ◌=ⁿ◌}
use Rattle.pp_model.specs.Object.{Item, Object}
use Rattle.pp_model.specs.Rules.{RunsFrom, StartMeets}
use Rattle.pp_model.specs.Sound.{Sound}
use Rattle.pp_model.proofs.Begin.{start_sound}
use Rattle.pp_model.proofs.Keeps.{run_keeps}
use Rattle.pp_model.proofs.Lists.{before_from_map, each_from, from_filter, from_map, in_cases}
use Rattle.pp_model.proofs.Lists.{in_left, in_right, split_at}
use Rattle.pp_model.proofs.Logs.{found_mark, found_other, found_tx}
use Rattle.pp_cmd_swaps.specs.Logs.{AppliesOnly, ArePlain, LogLaw, start_items}
use Rattle.pp_machine.proofs.Cuts.{filter_short}
use Rattle.pp_model.proofs.Local.{shared_used}

-- ---- what is in the logs

but_last_in : {A : Type 0} (l : List A) (e : A) → In e (but_last l) → In e l
but_last_in [] e i = i
but_last_in (x ∷ []) e i = absurd i
but_last_in (x ∷ y ∷ l) e (inl is) = inl is
but_last_in (x ∷ y ∷ l) e (inr i) = inr (but_last_in (y ∷ l) e i)

module _ {Op : Type 0} (plain : Item Op → Bool) where
  abbrev Of : Item Op → Type 0
  Of p = IsTrue (plain p)

  abbrev OfLocal : List (LocalEntry Op) → Type 0
  OfLocal l = (e : LocalEntry Op) → In e l → Of (item e)

  abbrev OfShared : List (SharedEntry Op) → Type 0
  OfShared G = (g : SharedEntry Op) → In g G → Of (shared_item g)

  abbrev OfOpen : List (Tx Op) → Type 0
  OfOpen xs = (x : Tx Op) → In x xs → OfLocal x.local

  abbrev OfLogs : Config Op → Type 0
  OfLogs c = OfShared c.shared × OfOpen c.opened

  relogged : (x : Tx Op) (f : List (LocalEntry Op) → List (LocalEntry Op)) (b : Bool) → OfLocal x.local → OfLocal (f x.local) → OfLocal (cond b (relog f x) x).local
  relogged x f true h k = k
  relogged x f false h k = h

  on_all : (t : Name) (f : List (LocalEntry Op) → List (LocalEntry Op)) (xs : List (Tx Op)) → ((l : List (LocalEntry Op)) → OfLocal l → OfLocal (f l)) → OfOpen xs → OfOpen (on_log t f xs)
  on_all t f xs keeps h y i =
      let m = from_map (λ (x : Tx Op). cond (x.name =ⁿ t) (relog f x) x) y xs i in
      let old : OfLocal (m.0).local = h m.0 m.1 in
      subst (λ (z : Tx Op). OfLocal z.local) (sym m.2) (relogged m.0 f ((m.0).name =ⁿ t) old (keeps (m.0).local old))

  with_entry : (l : List (LocalEntry Op)) (e : LocalEntry Op) → Of (item e) → OfLocal l → OfLocal (l ++ e ∷ [])
  with_entry l e q h x i = at (in_cases x l (e ∷ []) i)
    where
      at : In x l ⊎ In x (e ∷ []) → Of (item x)
      at (inl f) = h x f
      at (inr (inl is)) = subst (λ (z : LocalEntry Op). Of (item z)) (sym is) q
      at (inr (inr n)) = absurd n

  remarked : (m : Mark) (e : LocalEntry Op) (b : Bool) → Of (item e) → Of (item (cond b (record e { mark = m }) e))
  remarked m e true h = h
  remarked m e false h = h

  all_remarked : (id : ℕ) (m : Mark) (l : List (LocalEntry Op)) → OfLocal l → OfLocal (set_mark id m l)
  all_remarked id m l h e i =
      let f = from_map (λ (z : LocalEntry Op). cond (z.id == id) (record z { mark = m }) z) e l i in
      subst (λ (z : LocalEntry Op). Of (item z)) (sym f.2) (remarked m f.0 ((f.0).id == id) (h f.0 f.1))

  -- ---- logs after a step
  own_entry : (t : Name) (xs : List (Tx Op)) (id : ℕ) (m : Mark) (o : Option (Tx Op)) → ((x : Tx Op) → o ≡ Some x → In x xs) → OfOpen xs → (e : LocalEntry Op) → entry_of id m o ≡ Some e → Of (item e)
  own_entry t xs id m None there h e is = absurd (cc)
  own_entry t xs id m (Some x) there h e is = h x (there x refl) e (found_mark id m x.local e is).0

  pushed : (c : Config Op) (t : Name) (id : ℕ) (o : Option (LocalEntry Op)) → ((e : LocalEntry Op) → o ≡ Some e → Of (item e)) → OfLogs c → OfLogs (push_effect c t id o)
  pushed c t id None q h = h
  pushed c t id (Some e) q h = (more, on_all t (set_mark id Pushed) c.opened (all_remarked id Pushed) h.1)
    where
      new : SharedEntry Op
      new = as_shared t false (item e)

      at : (g : SharedEntry Op) → In g c.shared ⊎ In g (as_shared t false (item e) ∷ []) → Of (shared_item g)
      at g (inl f) = h.0 g f
      at g (inr (inl is)) = subst (λ (z : SharedEntry Op). Of (shared_item z)) (sym is) (q e refl)
      at g (inr (inr n)) = absurd n

      more : OfShared (c.shared ++ as_shared t false (item e) ∷ [])
      more g i = at g (in_cases g c.shared (as_shared t false (item e) ∷ []) i)

  pulled : (c : Config Op) (t : Name) (id : ℕ) (o : Option (SharedEntry Op)) → ((g : SharedEntry Op) → o ≡ Some g → Of (shared_item g)) → OfLogs c → OfLogs (pull_effect c t id o)
  pulled c t id None q h = h
  pulled c t id (Some g) q h = (h.0, on_all t (λ l. l ++ as_pulled g ∷ []) c.opened (λ l k. with_entry l (as_pulled g) (q g refl) k) h.1)

  recommitted : (g : SharedEntry Op) (b : Bool) → Of (shared_item g) → Of (shared_item (cond b (record g { committed = true }) g))
  recommitted g true h = h
  recommitted g false h = h

  committed : (c : Config Op) (t : Name) (o : Option (Tx Op)) → OfLogs c → OfLogs (commit_effect c t o)
  committed c t None h = h
  committed c t (Some x) h = (
    λ g i.
        let f = from_map (λ (z : SharedEntry Op). cond (z.owner =ⁿ t) (record z { committed = true }) z) g c.shared i in
        subst (λ (z : SharedEntry Op). Of (shared_item z)) (sym f.2) (recommitted f.0 ((f.0).owner =ⁿ t) (h.0 f.0 f.1)),
    λ y i. h.1 y (from_filter (λ (z : Tx Op). not (z.name =ⁿ t)) y c.opened i).0,
  )

  begun : (xs : List (Tx Op)) (x : Tx Op) → OfLocal x.local → OfOpen xs → OfOpen (xs ++ x ∷ [])
  begun xs x q h y i = at (in_cases y xs (x ∷ []) i)
    where
      at : In y xs ⊎ In y (x ∷ []) → OfLocal y.local
      at (inl f) = h y f
      at (inr (inl is)) = subst (λ (z : Tx Op). OfLocal z.local) (sym is) q
      at (inr (inr n)) = absurd n

  step_of : (c : Config Op) (s : Step Op) → AppliesOnly plain s → OfLogs c → OfLogs (then c s)
  step_of c (Begin t p b) q h = (h.0, begun c.opened (record { name = t; thread = p; body = b; local = [] }) (λ e i. absurd i) h.1)
  step_of c (App t id op) q h = (h.0, on_all t (λ l. l ++ as_applied t id op ∷ []) c.opened (λ l k. with_entry l (as_applied t id op) q k) h.1)
  step_of c (Unapp t id) q h = (h.0, on_all t but_last c.opened (λ l k e i. k e (but_last_in l e i)) h.1)
  step_of c (Push t id) q h =
      pushed c t id (entry_of id Unpushed (tx t c.opened)) (λ e is. own_entry t c.opened id Unpushed (tx t c.opened) (λ x k. (found_tx t c.opened x k).0) h.1 e is) h
  step_of c (Unpush t id) q h = (
    λ g i. h.0 g (from_filter (λ (z : SharedEntry Op). not (z.id == id)) g c.shared i).0,
    on_all t (set_mark id Unpushed) c.opened (all_remarked id Unpushed) h.1,
  )
  step_of c (Pull t id) q h = pulled c t id _ (λ g is. h.0 g (found_other t id c.shared g is).0) h
  step_of c (Unpull t id) q h =
      (h.0, on_all t (without_local id) c.opened (λ l k e i. k e (from_filter (λ (z : LocalEntry Op). not (z.id == id)) e l i).0) h.1)
  step_of c (Cmt t) q h = committed c t (tx t c.opened) h
  step_of c (Quit t) q h = (h.0, λ x i. h.1 x (from_filter (λ (z : Tx Op). not (z.name =ⁿ t)) x c.opened i).0)
  step_of c (Note t) q h = h

  steps_of : (ss : List (Step Op)) (c : Config Op) → Each (AppliesOnly plain) ss → OfLogs c → OfLogs (after_from c ss)
  steps_of [] c q h = h
  steps_of (s ∷ ss) c q h = steps_of ss (then c s) q.1 (step_of c s q.0 h)

  one_of : (items : List (Item Op)) (p : Item Op) → ArePlain plain items → In p items → Of p
  one_of [] p h i = absurd i
  one_of (x ∷ xs) p h (inl is) = subst (λ (z : Item Op). Of z) (sym is) h.0
  one_of (x ∷ xs) p h (inr i) = one_of xs p h.1 i

  first_of : (h : Option (Start Op)) → ArePlain plain (start_items h) → OfLogs (first h)
  first_of None q = (λ g i. absurd i, λ x i. absurd i)
  first_of (Some z) q = (
    λ g i.
        let f = from_map (as_shared z.tx true) g z.items i in
        subst (λ (w : SharedEntry Op). Of (shared_item w)) (sym f.2) (one_of z.items f.0 q f.1),
    λ x i. absurd i,
  )

  -- If the operations of the start and those that the steps apply pass a test, so do the entries of the shared log.
  pub applied : (h : Option (Start Op)) (ss : List (Step Op)) → ArePlain plain (start_items h) → Each (AppliesOnly plain) ss → Each (λ g. IsTrue (plain (shared_item g))) (after h ss).shared
  applied h ss q k = each_from (λ (g : SharedEntry Op). IsTrue (plain (shared_item g))) (after h ss).shared (steps_of ss (first h) k (first_of h q)).0

-- ---- how long the shared log is

-- How many ids were used and how many entries are in the shared log, together.
abbrev both : {Op : Type 0} → Config Op → ℕ
both c = length c.ids + length c.shared

pushed_long : {Op : Type 0} (c : Config Op) (t : Name) (id : ℕ) (o : Option (LocalEntry Op)) → both (push_effect c t id o) ≤ both c + 1
pushed_long c t id None = omega arith
pushed_long c t id (Some e) = omega (arith, length-append c.shared (as_shared t false (item e) ∷ []))

pulled_long : {Op : Type 0} (c : Config Op) (t : Name) (id : ℕ) (o : Option (SharedEntry Op)) → both (pull_effect c t id o) ≤ both c + 1
pulled_long c t id None = omega arith
pulled_long c t id (Some g) = omega arith

committed_long : {Op : Type 0} (c : Config Op) (t : Name) (o : Option (Tx Op)) → both (commit_effect c t o) ≤ both c + 1
committed_long c t None = omega arith
committed_long {Op} c t (Some x) = omega (arith, length-map c.shared (λ (z : SharedEntry Op). cond (z.owner =ⁿ t) (record z { committed = true }) z))

-- Each step adds at most one.
step_long : {Op : Type 0} (c : Config Op) (s : Step Op) → both (then c s) ≤ both c + 1
step_long c (Begin t p b) = omega arith
step_long c (App t id op) = omega arith
step_long c (Unapp t id) = omega arith
step_long c (Push t id) = pushed_long c t id (entry_of id Unpushed (tx t c.opened))
step_long {Op} c (Unpush t id) = omega (arith, filter_short (λ (z : SharedEntry Op). not (z.id == id)) c.shared)
step_long c (Pull t id) = pulled_long c t id _
step_long c (Unpull t id) = omega arith
step_long c (Cmt t) = committed_long c t (tx t c.opened)
step_long c (Quit t) = omega arith
step_long c (Note t) = omega arith

steps_long : {Op : Type 0} (ss : List (Step Op)) (c : Config Op) → both (after_from c ss) ≤ both c + length ss
steps_long [] c = omega arith
steps_long (s ∷ ss) c = omega (arith, steps_long ss (then c s), step_long c s)

first_long : {Op : Type 0} (h : Option (Start Op)) → both (first h) ≡ 2 * length (start_items h)
first_long None = refl
first_long {Op} (Some z) = omega (arith, length-map z.items (λ (p : Item Op). p.id), length-map z.items (as_shared z.tx true))

-- A list without repetitions is at most as long as a list that has all its elements.
no_longer : (xs ys : List ℕ) → ((i j : ℕ) → Before i j xs → i ≢ j) → ((i : ℕ) → In i xs → In i ys) → length xs ≤ length ys
no_longer [] ys distinct within = omega arith
no_longer (x ∷ xs) ys distinct within =
    let s = split_at x ys (within x (inl refl)) in
    let rest : length xs ≤ length (s.0 ++ s.1) = no_longer xs (s.0 ++ s.1) (λ i j b. distinct i j (inr b)) (λ i k. left s.0 s.1 i k (subst (In i) s.2 (within i (inr k)))) in
    omega (arith, rest, ap length s.2, length-append s.0 s.1, length-append s.0 (x ∷ s.1))
  where
    left : (front back : List ℕ) (i : ℕ) → In i xs → In i (front ++ x ∷ back) → In i (front ++ back)
    left front back i k there = at (in_cases i front (x ∷ back) there)
      where
        at : In i front ⊎ In i (x ∷ back) → In i (front ++ back)
        at (inl f) = in_left i front back f
        at (inr (inl is)) = absurd (distinct x i (inl (refl, k)) (sym is))
        at (inr (inr b)) = in_right i front back b

module _ {Op State : Type 0} (O : Object Op State) (c : Config Op) (sound : Sound O c) where
  abbrev id_of : SharedEntry Op → ℕ
  id_of g = g.id

  used : (i : ℕ) → In i (map id_of c.shared) → In i c.ids
  used i k = let f = from_map id_of i c.shared k in subst (λ n. In n c.ids) (sym f.2) (shared_used O c sound f.0 f.1)

  apart : (i j : ℕ) → Before i j (map id_of c.shared) → i ≢ j
  apart i j b is = let f = before_from_map id_of i j c.shared b in sound.shared_ids f.0 f.1 f.2 (sym f.3 ∙ is ∙ f.4)

  fewer_than_ids : length c.shared ≤ length c.ids
  fewer_than_ids = omega (arith, no_longer (map id_of c.shared) c.ids apart used, length-map c.shared id_of)

-- Of an accepted run, twice the length of the shared log is at most twice the start's length plus the number of steps.
pub half : {Op State : Type 0} (O : Object Op State) (h : Option (Start Op)) (ss : List (Step Op)) → StartMeets O h → RunsFrom O (first h) ss → 2 * length (after h ss).shared ≤ 2 * length (start_items h) + length ss
half O h ss begun runs =
    let sound = run_keeps O ss (first h) (start_sound O h begun) runs in
    omega (arith, fewer_than_ids O (after h ss) sound, steps_long ss (first h), first_long h)

-- The entries of the shared log pass each test that the operations of the start and of the steps pass. Without those of the start, they are
-- at most half as many as the steps.
pub log_law : {Op State : Type 0} (O : Object Op State) → LogLaw O
log_law O = record { applied = applied; half = half O }
