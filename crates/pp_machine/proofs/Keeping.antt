-- The invariant of a machine is true after each step.
use Rattle.std.proofs.Common.{◌≡◌, ◌≢◌, ◌==◌, ℕ, ◌<◌, ◌≤◌, ◌+◌, IsTrue, Bool, true, false, cond}
use Rattle.std.proofs.Common.{not, List, [], ◌∷◌, ◌++◌, map, filter, length, Option, Some, None}
use Rattle.std.proofs.Common.{position, slice_get, refl, sym, ◌∙◌, ap, subst, arith, inl, inr}
use Rattle.std.proofs.lemmas.List.{length_push, length-map}
use Rattle.std.proofs.lemmas.Bool.{eqb-true, false_from_ne_true}
use Rattle.std.specs.List.{list_any, remove}
use Rattle.std.proofs.lemmas.Option.{same_Some}
use Rattle.pp_core.specs.declared.entry.CommittedTx.{CommittedTx}
use Rattle.pp_core.specs.declared.entry.LocalEntry.{LocalEntry}
use Rattle.pp_core.specs.declared.entry.SharedEntry.{SharedEntry}
use Rattle.pp_model.specs.Body.{Tree}
use Rattle.pp_model.specs.Config.{Config, Mark, Tx, Step, Begin, App, Unapp, Push, Unpush, Pull}
use Rattle.pp_model.specs.Config.{Unpull, Cmt, Quit, Note, Unpushed, Pushed, Pulled, commit_all}
use Rattle.pp_model.specs.Config.{at_mark, but_last, is_own, item, local_ops, set_mark, of_other}
use Rattle.pp_model.specs.Config.{own_items, as_shared, shared_ops, then, tx, without_local}
use Rattle.pp_model.specs.Config.{without_shared}
use Rattle.pp_model.specs.Lists.{In}
use Rattle.pp_model.specs.Names.{Name, ◌=ⁿ◌}
use Rattle.pp_model.specs.Rules.{Breaks, Meets}
use Rattle.pp_model.specs.Sound.{Sound, serial_ops}
use Rattle.pp_model.proofs.Begin.{empty_sound}
use Rattle.pp_model.proofs.Keeps.{step_keeps}
use Rattle.pp_model.proofs.Lists.{before_across, before_map, by_key, from_filter, from_map}
use Rattle.pp_model.proofs.Lists.{in_cases, in_map}
use Rattle.pp_model.proofs.Logs.{found, found_mark, found_other, found_tx, in_but_last}
use Rattle.pp_model.proofs.Names.{names_tell}
use Rattle.pp_model.proofs.Steps.{there_holds}
use Rattle.pp_model.proofs.Push.{ops_marked}
use Rattle.pp_model.proofs.Commit.{ops_committed}
use Rattle.pp_model.proofs.Finding.{placed, stands_in, nowhere}
use Rattle.pp_kind.specs.Object.{Object, AllRanged, IsAllowed, rules_of}
use Rattle.pp_kind.proofs.Fitting.{in_ranged, ranged_in, ranged_more}
use Rattle.pp_machine.specs.Courses.{FollowsIfOwn, Guided}
use Rattle.pp_machine.specs.Machines.{Holds, IsFine, Seen, config_of, stepped, tx_of}
use Rattle.pp_machine.specs.Transactions.{HasOwn, MayLeave, is_begun, is_busy, Open, Takes, Txs}
use Rattle.pp_machine.specs.Transactions.{course_of, open_at, open_of, recoursed, with_course}
use Rattle.pp_machine.specs.Transactions.{with_open, without_open}
use Rattle.pp_machine.proofs.Acting.{after_begin, after_app, after_unapp, after_pull, after_unpull}
use Rattle.pp_machine.proofs.Acting.{after_push, after_unpush, after_cmt, after_quit, relogged}
use Rattle.pp_machine.proofs.Acting.{with_log}
use Rattle.pp_machine.proofs.Cuts.{but_last_short, filter_short}
use Rattle.pp_machine.proofs.Cuts.{removed_filter, slice_within}
use Rattle.pp_machine.proofs.Fitting.{serial_allowed, serial_more}
use Rattle.pp_machine.proofs.Opened.{HasCourse, HasLog, begun_in, busy_in, distinct, opened, ranged_local}
use Rattle.pp_machine.proofs.Opened.{ranged_shared, used_in}
use Rattle.pp_machine.proofs.Removing.{ranged_posts}

-- The mark Unpushed is not Pulled.
pub unpushed_own : Unpushed ≢ Pulled
unpushed_own e = cc

-- The mark Pushed is not Pulled.
pub pushed_own : Pushed ≢ Pulled
pushed_own e = cc

pulled_other : is_own Pulled ≡ true → ⊥
pulled_other e = cc

ops_more : {Op : Type 0} (l : List (LocalEntry Op)) (e : LocalEntry Op) → local_ops (l ++ e ∷ []) ≡ local_ops l ++ e.op ∷ []
ops_more [] e = refl
ops_more {Op} (x ∷ l) e = ap (λ (z : List Op). x.op ∷ z) (ops_more l e)

posts_more : {Op : Type 0} (l : List (SharedEntry Op)) (g : SharedEntry Op) → shared_ops (l ++ g ∷ []) ≡ shared_ops l ++ g.op ∷ []
posts_more [] g = refl
posts_more {Op} (x ∷ l) g = ap (λ (z : List Op). x.op ∷ z) (posts_more l g)

coursed_one : {Shape Op : Type 0} (t : Name) (k : Guided Shape Op) (f : Open Shape Op → Open Shape Op) (x : Open Shape Op) → (x.name ≡ t → recoursed k x ≡ f x) →
    cond (x.name =ⁿ t) (recoursed k x) x ≡ cond (x.name =ⁿ t) (f x) x
coursed_one {Shape} {Op} t k f x e = elim (names_tell x.name t) [
  | inl r ↦ ap (λ (b : Bool). cond b (recoursed k x) x) r.0 ∙ e r.1 ∙ sym (ap (λ (b : Bool). cond b (f x) x) r.0)
  | inr r ↦ ap (λ (b : Bool). cond b (recoursed k x) x) r.0 ∙ sym (ap (λ (b : Bool). cond b (f x) x) r.0)
]

coursed_all : {Shape Op : Type 0} (xs : List (Open Shape Op)) (t : Name) (k : Guided Shape Op) (f : Open Shape Op → Open Shape Op) → ((x : Open Shape Op) → In x xs → x.name ≡ t → recoursed k x ≡ f x) →
    map (λ x. cond (x.name =ⁿ t) (recoursed k x) x) xs ≡ map (λ x. cond (x.name =ⁿ t) (f x) x) xs
coursed_all [] t k f e = refl
coursed_all {Shape} {Op} (x ∷ xs) t k f e =
    ap (λ (z : Open Shape Op). z ∷ map (λ x. cond (x.name =ⁿ t) (recoursed k x) x) xs) (coursed_one t k f x (λ i. e x (inl refl) i))
    ∙ ap (λ (z : List (Open Shape Op)). cond (x.name =ⁿ t) (f x) x ∷ z) (coursed_all xs t k f (λ y i m. e y (inr i) m))

cond_same : {X : Type 0} (b : Bool) (x : X) → cond b x x ≡ x
cond_same true x = refl
cond_same false x = refl

all_same : {Shape Op : Type 0} (xs : List (Open Shape Op)) (t : Name) → map (λ x. cond (x.name =ⁿ t) x x) xs ≡ xs
all_same [] t = refl
all_same {Shape} {Op} (x ∷ xs) t =
    ap (λ (z : Open Shape Op). z ∷ map (λ x. cond (x.name =ⁿ t) x x) xs) (cond_same (x.name =ⁿ t) x)
    ∙ ap (λ (z : List (Open Shape Op)). x ∷ z) (all_same xs t)

module _ {Shape State Op Undo : Type 0} (o : Object Shape State Op Undo) (shape : Shape) (n : ℕ) where
  -- one step later an open transaction is as fine
  later : (x : Open Shape Op) → IsFine o shape n x → IsFine o shape (n + 1) x
  later x h = record { same_shape = h.same_shape; short = (let s = h.short in omega (arith, s)); ranged = h.ranged }

module _ {Shape State Op Undo : Type 0} (o : Object Shape State Op Undo) (shape : Shape) (n : ℕ) (l : List (Open Shape Op)) (fine : (x : Open Shape Op) → In x l → IsFine o shape n x) where
  fine_later : (x : Open Shape Op) → In x l → IsFine o shape (n + 1) x
  fine_later x i = later o shape n x (fine x i)

  fine_more : (y : Open Shape Op) → IsFine o shape (n + 1) y → (x : Open Shape Op) → In x (l ++ y ∷ []) → IsFine o shape (n + 1) x
  fine_more y h x i = elim (in_cases x l (y ∷ []) i) [
    | inl j ↦ fine_later x j
    | inr (inl e) ↦ subst (IsFine o shape (n + 1)) (sym e) h
    | inr (inr j) ↦ absurd j
  ]

  fine_log : (t : Name) (h : List (LocalEntry Op) → List (LocalEntry Op)) → ((x : Open Shape Op) → In x l → x.name ≡ t → IsFine o shape (n + 1) (relogged h x)) →
      (y : Open Shape Op) → In y (map (λ x. cond (x.name =ⁿ t) (relogged h x) x) l) → IsFine o shape (n + 1) y
  fine_log t h f y i =
      let m = from_map (λ x. cond (x.name =ⁿ t) (relogged h x) x) y l i in
      elim (names_tell (m.0).name t) [
        | inl r ↦ subst (IsFine o shape (n + 1)) (sym (m.2 ∙ ap (λ (b : Bool). cond b (relogged h m.0) m.0) r.0)) (f m.0 m.1 r.1)
        | inr r ↦ subst (IsFine o shape (n + 1)) (sym (m.2 ∙ ap (λ (b : Bool). cond b (relogged h m.0) m.0) r.0)) (fine_later m.0 m.1)
      ]

  -- Open transactions that are fine are so one step later, without some of them.
  pub fine_left : (test : Open Shape Op → Bool) (x : Open Shape Op) → In x (filter test l) → IsFine o shape (n + 1) x
  fine_left test x i = fine_later x (from_filter test x l i).0

  fine_entry : (e : LocalEntry Op) → IsTrue (o.ranged e.op) → (x : Open Shape Op) → In x l → IsFine o shape (n + 1) (relogged (λ k. k ++ e ∷ []) x)
  fine_entry e r x i =
      let h = fine x i in
      record {
        same_shape = h.same_shape;
        short = (let s = h.short in let k = length_push x.local.1 e in omega (arith, s, k));
        ranged = subst (AllRanged o) (sym (ops_more x.local.1 e)) (ranged_more o (local_ops x.local.1) e.op h.ranged r);
      }

  fine_mark : (id : ℕ) (m : Mark) (x : Open Shape Op) → In x l → IsFine o shape (n + 1) (relogged (set_mark id m) x)
  fine_mark id m x i =
      let h = fine x i in
      record {
        same_shape = h.same_shape;
        short = (let s = h.short in let k : length (set_mark id m x.local.1) ≡ length x.local.1 = length-map x.local.1 _ in omega (arith, s, k));
        ranged = subst (AllRanged o) (sym (ops_marked id m x.local.1)) h.ranged;
      }

  fine_part : (k : List (LocalEntry Op) → List (LocalEntry Op)) → ((m : List (LocalEntry Op)) → length (k m) ≤ length m) → ((m : List (LocalEntry Op)) (e : LocalEntry Op) → In e (k m) → In e m) → (x : Open Shape Op) → In x l → IsFine o shape (n + 1) (relogged k x)
  fine_part k less part x i =
      let h = fine x i in
      record {
        same_shape = h.same_shape;
        short = (let s = h.short in let m = less x.local.1 in omega (arith, s, m));
        ranged = in_ranged o (local_ops (k x.local.1)) (λ a j.
            let q = from_map (λ (e : LocalEntry Op). e.op) a (k x.local.1) j in
            ranged_in o (local_ops x.local.1) h.ranged a (subst (λ (z : Op). In z (local_ops x.local.1)) (sym q.2) (in_map (λ (e : LocalEntry Op). e.op) q.0 x.local.1 (part x.local.1 q.0 q.1))));
      }

-- a machine, and what is seen of it
module _ {Shape State Op Undo : Type 0} (o : Object Shape State Op Undo) (shape : Shape) (v : Txs Shape Op) (ids : List ℕ) (G : Shape × List (SharedEntry Op)) (F : List (CommittedTx Op)) (n : ℕ) (w : Seen Shape Op)
    (same : ◌≡◌ {A = Seen Shape Op} (record { shape = shape; config = config_of v ids G.1 F; count = n }) w) (h : Holds o shape v ids G F n) where
  lower : (s : Step Op) (k : ℕ) → Breaks (rules_of o w.shape) w.config s k → Breaks (rules_of o shape) (config_of v ids G.1 F) s k
  lower s k f = subst (λ (z : Seen Shape Op). Breaks (rules_of o z.shape) z.config s k) (sym same) f

  sound_then : (s : Step Op) → Meets (rules_of o w.shape) w.config s → Sound (rules_of o shape) (then (config_of v ids G.1 F) s)
  sound_then s f = step_keeps (rules_of o shape) (config_of v ids G.1 F) s h.sound (lower s 0 f)

  sound_as : (s : Step Op) (c : Config Op) → Meets (rules_of o w.shape) w.config s → c ≡ then (config_of v ids G.1 F) s → Sound (rules_of o shape) c
  sound_as s c f e = subst (λ (z : Config Op). Sound (rules_of o shape) z) (sym e) (sound_then s f)

  seen_as : (s : Step Op) (c : Config Op) → c ≡ then (config_of v ids G.1 F) s → ◌≡◌ {A = Seen Shape Op} (record { shape = shape; config = c; count = n + 1 }) (stepped w s)
  seen_as s c e = ap (λ (z : Config Op). record { shape = shape; config = z; count = n + 1 }) e ∙ ap (λ (z : Seen Shape Op). stepped z s) same

  -- BEGIN
  begin_is : (t p : Name) (b : Option Tree) (u : Txs Shape Op) → u ≡ with_open (open_of t p b (shape, [])) v → config_of u ids G.1 F ≡ then (config_of v ids G.1 F) (Begin t p b)
  begin_is t p b u e = ap (λ (z : Txs Shape Op). config_of z ids G.1 F) e ∙ after_begin v ids G.1 F t p b (shape, []) refl

  -- A new open transaction makes the machine seen as after a BEGIN.
  pub seen_begin : (t p : Name) (b : Option Tree) (u : Txs Shape Op) → u ≡ with_open (open_of t p b (shape, [])) v → ◌≡◌ {A = Seen Shape Op} (record { shape = shape; config = config_of u ids G.1 F; count = n + 1 }) (stepped w (Begin t p b))
  seen_begin t p b u e = seen_as (Begin t p b) (config_of u ids G.1 F) (begin_is t p b u e)

  -- After a BEGIN that meets its criteria, the machine holds what each machine keeps.
  pub holds_begin : (t p : Name) (b : Option Tree) (u : Txs Shape Op) → Meets (rules_of o w.shape) w.config (Begin t p b) → u ≡ with_open (open_of t p b (shape, [])) v → Holds o shape u ids G F (n + 1)
  holds_begin t p b u f e = record {
    sound = sound_as (Begin t p b) (config_of u ids G.1 F) f (begin_is t p b u e);
    fine = subst (λ (z : Txs Shape Op). (x : Open Shape Op) → In x z.opened → IsFine o shape (n + 1) x) (sym e)
        (fine_more o shape n v.opened h.fine (open_of t p b (shape, [])) (record { same_shape = refl; short = omega arith; ranged = tt }));
    shared_shape = h.shared_shape;
    shared_short = (let s = h.shared_short in omega (arith, s));
    shared_ranged = h.shared_ranged;
    serial_ranged = h.serial_ranged;
  }

  -- The name of a BEGIN that meets its criteria was not begun.
  pub begin_free : (t p : Name) (b : Option Tree) → Meets (rules_of o w.shape) w.config (Begin t p b) → is_begun v t ≡ false
  begin_free t p b f = false_from_ne_true (is_begun v t) (λ k. (lower (Begin t p b) 0 f).0 (begun_in v t (sym k)))

  -- The thread of a BEGIN that meets its criteria is not busy.
  pub begin_idle : (t p : Name) (b : Option Tree) → Meets (rules_of o w.shape) w.config (Begin t p b) → is_busy v p ≡ false
  begin_idle t p b f = false_from_ne_true (is_busy v p) (λ k. let x = busy_in v p (sym k) in (lower (Begin t p b) 0 f).1.0 x.0 x.1 x.2)

  -- APP
  pub id_unused : (t : Name) (id : ℕ) (op : Op) → Meets (rules_of o w.shape) w.config (App t id op) → list_any (λ j. id == j) ids ≡ false
  id_unused t id op f =
      let k = there_holds (tx t (map tx_of v.opened)) _ (lower (App t id op) 0 f) in
      false_from_ne_true (list_any (λ j. id == j) ids) (λ m. k.2.0 (used_in ids id (sym m)))

  app_is : (t : Name) (id : ℕ) (op : Op) (u : Txs Shape Op) (js : List ℕ) → u ≡ with_log t (λ l. l ++ record { id = id; owner = t; mark = Unpushed; op = op } ∷ []) v → js ≡ ids ++ id ∷ [] → config_of u js G.1 F ≡ then (config_of v ids G.1 F) (App t id op)
  app_is t id op u js e i =
      ap (λ (z : Txs Shape Op). config_of z js G.1 F) e
      ∙ ap (λ (z : List ℕ). config_of (with_log t (λ l. l ++ record { id = id; owner = t; mark = Unpushed; op = op } ∷ []) v) z G.1 F) i
      ∙ after_app v ids G.1 F t id op

  -- A new unpushed entry makes the machine seen as after an APP.
  pub seen_app : (t : Name) (id : ℕ) (op : Op) (u : Txs Shape Op) (js : List ℕ) → u ≡ with_log t (λ l. l ++ record { id = id; owner = t; mark = Unpushed; op = op } ∷ []) v → js ≡ ids ++ id ∷ [] →
      ◌≡◌ {A = Seen Shape Op} (record { shape = shape; config = config_of u js G.1 F; count = n + 1 }) (stepped w (App t id op))
  seen_app t id op u js e i = seen_as (App t id op) (config_of u js G.1 F) (app_is t id op u js e i)

  fine_after : (t : Name) (k : List (LocalEntry Op) → List (LocalEntry Op)) (u : Txs Shape Op) → u ≡ with_log t k v → ((x : Open Shape Op) → In x v.opened → IsFine o shape (n + 1) (relogged k x)) → (x : Open Shape Op) → In x u.opened → IsFine o shape (n + 1) x
  fine_after t k u e f = subst (λ (z : Txs Shape Op). (x : Open Shape Op) → In x z.opened → IsFine o shape (n + 1) x) (sym e) (fine_log o shape n v.opened h.fine t k (λ x i same. f x i))

  -- After an APP that meets its criteria, the machine holds what each machine keeps.
  pub holds_app : (t : Name) (id : ℕ) (op : Op) (u : Txs Shape Op) (js : List ℕ) → Meets (rules_of o w.shape) w.config (App t id op) → IsTrue (o.ranged op) → u ≡ with_log t (λ l. l ++ record { id = id; owner = t; mark = Unpushed; op = op } ∷ []) v → js ≡ ids ++ id ∷ [] → Holds o shape u js G F (n + 1)
  holds_app t id op u js f r e i = record {
    sound = sound_as (App t id op) (config_of u js G.1 F) f (app_is t id op u js e i);
    fine = fine_after t (λ l. l ++ record { id = id; owner = t; mark = Unpushed; op = op } ∷ []) u e (fine_entry o shape n v.opened h.fine (record { id = id; owner = t; mark = Unpushed; op = op }) r);
    shared_shape = h.shared_shape;
    shared_short = (let s = h.shared_short in omega (arith, s));
    shared_ranged = h.shared_ranged;
    serial_ranged = h.serial_ranged;
  }

  -- the local log takes an entry
  takes : (t : Name) (x : Tx Op) (e : LocalEntry Op) → tx t (map tx_of v.opened) ≡ Some x → IsAllowed o shape (local_ops x.local ++ e.op ∷ []) → IsTrue (o.ranged e.op) → ((a : LocalEntry Op) → In a x.local → a.id ≢ e.id) → n < 4_294_967_295 →
      FollowsIfOwn o x.body x.local e → (y : Open Shape Op) × (open_at t v.opened ≡ Some y) × Takes o y.local e × FollowsIfOwn o y.body y.local.1 e
  takes t x e q a r d few follows =
      let y = opened o shape v ids G F n h t x q in
      let fine = y.3 in
      let local : (tx_of y.0).local ≡ x.local = ap (λ (z : Tx Op). z.local) y.2 in (
        y.0,
        y.1,
        record {
          allowed = subst (λ (z : Shape). IsAllowed o z (local_ops (y.0).local.1 ++ e.op ∷ [])) (sym fine.same_shape) (subst (λ (z : List (LocalEntry Op)). IsAllowed o shape (local_ops z ++ e.op ∷ [])) (sym local) a);
          ranged = r;
          new = nowhere (λ z. z.id == e.id) (y.0).local.1 (λ z i. false_from_ne_true (z.id == e.id) (λ k. d z (subst (λ (l : List (LocalEntry Op)). In z l) local i) (eqb-true z.id e.id k)));
          few = (let s = fine.short in omega (arith, s, few));
        },
        subst (λ (z : Tx Op). FollowsIfOwn o z.body z.local e) (sym y.2) follows,
      )

  -- The local log takes the entry of an APP that meets its criteria, and the body its call.
  pub takes_app : (t : Name) (id : ℕ) (op : Op) → Meets (rules_of o w.shape) w.config (App t id op) → IsTrue (o.ranged op) → w.count < 4_294_967_295 →
      (y : Open Shape Op) × (open_at t v.opened ≡ Some y) × Takes o y.local (record { id = id; owner = t; mark = Unpushed; op = op }) × FollowsIfOwn o y.body y.local.1 (record { id = id; owner = t; mark = Unpushed; op = op })
  takes_app t id op f r few =
      let k = there_holds (tx t (map tx_of v.opened)) _ (lower (App t id op) 0 f) in
      let i = (found_tx t (map tx_of v.opened) k.0 k.1).0 in
      takes t k.0 (record { id = id; owner = t; mark = Unpushed; op = op }) k.1 k.2.1.1.0 r (λ a j e. k.2.0 (subst (λ (z : ℕ). In z (config_of v ids G.1 F).ids) e (h.sound.local_used k.0 i a j))) (subst (λ (z : ℕ). z < 4_294_967_295) (sym (ap (λ (z : Seen Shape Op). z.count) same)) few) (λ own. k.2.1.0)

  -- PULL
  pull_is : (t : Name) (id : ℕ) (g : SharedEntry Op) (u : Txs Shape Op) → of_other t id G.1 ≡ Some g → u ≡ with_log t (λ l. l ++ record { id = g.id; owner = g.owner; mark = Pulled; op = g.op } ∷ []) v → config_of u ids G.1 F ≡ then (config_of v ids G.1 F) (Pull t id)
  pull_is t id g u q e = ap (λ (z : Txs Shape Op). config_of z ids G.1 F) e ∙ after_pull v ids G.1 F t id g q

  -- A new pulled entry makes the machine seen as after a PULL.
  pub seen_pull : (t : Name) (id : ℕ) (g : SharedEntry Op) (u : Txs Shape Op) → of_other t id G.1 ≡ Some g → u ≡ with_log t (λ l. l ++ record { id = g.id; owner = g.owner; mark = Pulled; op = g.op } ∷ []) v →
      ◌≡◌ {A = Seen Shape Op} (record { shape = shape; config = config_of u ids G.1 F; count = n + 1 }) (stepped w (Pull t id))
  seen_pull t id g u q e = seen_as (Pull t id) (config_of u ids G.1 F) (pull_is t id g u q e)

  -- After a PULL that meets its criteria, the machine holds what each machine keeps.
  pub holds_pull : (t : Name) (id : ℕ) (g : SharedEntry Op) (u : Txs Shape Op) → Meets (rules_of o w.shape) w.config (Pull t id) → of_other t id G.1 ≡ Some g → u ≡ with_log t (λ l. l ++ record { id = g.id; owner = g.owner; mark = Pulled; op = g.op } ∷ []) v → Holds o shape u ids G F (n + 1)
  holds_pull t id g u f q e = record {
    sound = sound_as (Pull t id) (config_of u ids G.1 F) f (pull_is t id g u q e);
    fine = fine_after t (λ l. l ++ record { id = g.id; owner = g.owner; mark = Pulled; op = g.op } ∷ []) u e (fine_entry o shape n v.opened h.fine (record { id = g.id; owner = g.owner; mark = Pulled; op = g.op }) (ranged_shared o shape v ids G F n h g (found_other t id G.1 g q).0));
    shared_shape = h.shared_shape;
    shared_short = (let s = h.shared_short in omega (arith, s));
    shared_ranged = h.shared_ranged;
    serial_ranged = h.serial_ranged;
  }

  -- The local log takes the entry of a PULL that meets its criteria.
  pub takes_pull : (t : Name) (id : ℕ) (g : SharedEntry Op) → Meets (rules_of o w.shape) w.config (Pull t id) → of_other t id G.1 ≡ Some g → w.count < 4_294_967_295 →
      (y : Open Shape Op) × (open_at t v.opened ≡ Some y) × Takes o y.local (record { id = g.id; owner = g.owner; mark = Pulled; op = g.op }) × FollowsIfOwn o y.body y.local.1 (record { id = g.id; owner = g.owner; mark = Pulled; op = g.op })
  takes_pull t id g f q few =
      let k = there_holds (tx t (map tx_of v.opened)) _ (lower (Pull t id) 0 f) in
      let m = there_holds (of_other t id G.1) _ k.2 in
      let e = same_Some m.0 g (sym m.1 ∙ q) in
      let i = found_other t id G.1 g q in
      takes t k.0 (record { id = g.id; owner = g.owner; mark = Pulled; op = g.op }) k.1 (subst (λ (z : SharedEntry Op). IsAllowed o shape (local_ops (k.0).local ++ z.op ∷ [])) e m.2.1.0) (ranged_shared o shape v ids G F n h g i.0) (λ a j d. m.2.0 a j (d ∙ i.1))
      (subst (λ (z : ℕ). z < 4_294_967_295) (sym (ap (λ (z : Seen Shape Op). z.count) same)) few) (λ own. absurd (cc))

  -- PUSH
  pub push_allowed : (t : Name) (id : ℕ) → Meets (rules_of o w.shape) w.config (Push t id) → (l : Shape × List (LocalEntry Op)) → HasLog o shape v ids G F n h t l → (p : LocalEntry Op) → at_mark id Unpushed l.1 ≡ Some p →
      IsAllowed o G.0 (shared_ops G.1 ++ p.op ∷ [])
  push_allowed t id f l r p q =
      let k = there_holds (tx t (map tx_of v.opened)) _ (lower (Push t id) 0 f) in
      let m = there_holds (at_mark id Unpushed (k.0).local) _ k.2 in
      let z : Some m.0 ≡ Some p = sym m.1 ∙ ap (λ (y : Tx Op). at_mark id Unpushed y.local) (same_Some k.0 _ (sym k.1 ∙ r.is)) ∙ q in
      subst (λ (s : Shape). IsAllowed o s (shared_ops G.1 ++ p.op ∷ [])) (sym h.shared_shape) (subst (λ (y : LocalEntry Op). IsAllowed o shape (shared_ops G.1 ++ y.op ∷ [])) (same_Some m.0 p z) m.2.1.1.0)

  -- The id of a PUSH that meets its criteria is not in the shared log.
  pub push_new : (t : Name) (id : ℕ) → Meets (rules_of o w.shape) w.config (Push t id) → (l : Shape × List (LocalEntry Op)) → HasLog o shape v ids G F n h t l → (p : LocalEntry Op) → at_mark id Unpushed l.1 ≡ Some p → position (λ g. g.id == p.id) G.1 ≡ None
  push_new t id f l r p q =
      let s = subst (λ (c : Config Op). Sound (rules_of o shape) c) (sym (after_push v ids G.1 F t id _ p r.is q)) (sound_then (Push t id) f) in
      nowhere (λ g. g.id == p.id) G.1 (λ g i. false_from_ne_true (g.id == p.id) (λ k. s.shared_ids g (as_shared t false (item p)) (before_across g (as_shared t false (item p)) G.1 (as_shared t false (item p) ∷ []) i (inl refl)) (eqb-true g.id p.id k)))

  push_is : (t : Name) (id : ℕ) (l : Shape × List (LocalEntry Op)) → HasLog o shape v ids G F n h t l → (p : LocalEntry Op) → at_mark id Unpushed l.1 ≡ Some p → (u : Txs Shape Op) (H : List (SharedEntry Op)) → u ≡ with_log t (set_mark p.id Pushed) v → H ≡ G.1 ++ as_shared t false (item p) ∷ [] →
      config_of u ids H F ≡ then (config_of v ids G.1 F) (Push t id)
  push_is t id l r p q u H e k =
      ap (λ (z : Txs Shape Op). config_of z ids H F) (e ∙ ap (λ (z : ℕ). with_log t (set_mark z Pushed) v) (found_mark id Unpushed l.1 p q).1)
      ∙ ap (λ (z : List (SharedEntry Op)). config_of (with_log t (set_mark id Pushed) v) ids z F) k
      ∙ after_push v ids G.1 F t id _ p r.is q

  -- The mark Pushed and the new shared entry make the machine seen as after a PUSH.
  pub seen_push : (t : Name) (id : ℕ) (l : Shape × List (LocalEntry Op)) → HasLog o shape v ids G F n h t l → (p : LocalEntry Op) → at_mark id Unpushed l.1 ≡ Some p → (u : Txs Shape Op) (H : Shape × List (SharedEntry Op)) → u ≡ with_log t (set_mark p.id Pushed) v → H ≡ (G.0, G.1 ++ as_shared t false (item p) ∷ []) →
      ◌≡◌ {A = Seen Shape Op} (record { shape = shape; config = config_of u ids H.1 F; count = n + 1 }) (stepped w (Push t id))
  seen_push t id l r p q u H e k = seen_as (Push t id) (config_of u ids H.1 F) (push_is t id l r p q u H.1 e (ap (λ (z : Shape × List (SharedEntry Op)). z.1) k))

  -- After a PUSH that meets its criteria, the machine holds what each machine keeps.
  pub holds_push : (t : Name) (id : ℕ) → Meets (rules_of o w.shape) w.config (Push t id) → (l : Shape × List (LocalEntry Op)) → HasLog o shape v ids G F n h t l → (p : LocalEntry Op) (i : ℕ) → at_mark id Unpushed l.1 ≡ Some p → slice_get l.1 i ≡ Some p →
      (u : Txs Shape Op) (H : Shape × List (SharedEntry Op)) → u ≡ with_log t (set_mark p.id Pushed) v → H ≡ (G.0, G.1 ++ as_shared t false (item p) ∷ []) → Holds o shape u ids H F (n + 1)
  holds_push t id f l r p i q at u H e k =
      let posts : H.1 ≡ G.1 ++ as_shared t false (item p) ∷ [] = ap (λ (z : Shape × List (SharedEntry Op)). z.1) k in
      record {
        sound = sound_as (Push t id) (config_of u ids H.1 F) f (push_is t id l r p q u H.1 e posts);
        fine = fine_after t (set_mark p.id Pushed) u e (fine_mark o shape n v.opened h.fine p.id Pushed);
        shared_shape = ap (λ (z : Shape × List (SharedEntry Op)). z.0) k ∙ h.shared_shape;
        shared_short = (let s = h.shared_short in let m = ap length posts ∙ length_push G.1 (as_shared t false (item p)) in omega (arith, s, m));
        shared_ranged = subst (AllRanged o) (sym (ap shared_ops posts ∙ posts_more G.1 (as_shared t false (item p)))) (ranged_more o (shared_ops G.1) p.op h.shared_ranged (ranged_local o shape v ids G F n h t l r p (stands_in l.1 i p at)));
        serial_ranged = h.serial_ranged;
      }

  -- An entry found with an own mark in the local log of t is own in its course.
  pub owns : (t : Name) (id : ℕ) (m : Mark) → m ≢ Pulled → (l : Shape × List (LocalEntry Op)) → HasLog o shape v ids G F n h t l → (p : LocalEntry Op) (i : ℕ) → at_mark id m l.1 ≡ Some p → slice_get l.1 i ≡ Some p → (y : Open Shape Op) × (open_at t v.opened ≡ Some y) × HasOwn y.local.1 i
  owns t id m d l r p i q at =
      (open_of t r.thread r.body l, r.at, record { within = slice_within l.1 i p at; entry = p; here = at; own = λ e. d (sym (found_mark id m l.1 p q).2 ∙ e) })

  -- The course of the transaction t is the lent one.
  same_course : (t : Name) (k : Guided Shape Op) → HasCourse o shape v ids G F n h t k → (x : Open Shape Op) → In x v.opened → x.name ≡ t → course_of x ≡ k
  same_course t k r x i e =
      let q = found (λ (z : Open Shape Op). z.name =ⁿ t) v.opened _ (r.log).at in
      ap (λ (z : Open Shape Op). course_of z) (by_key (λ (z : Open Shape Op). z.name) v.opened (λ p q b. h.sound.open_names (tx_of p) (tx_of q) (before_map tx_of p q v.opened b)) x _ i q.0 e)
      ∙ ap (λ (b : Option Tree). record { body = b; local = k.local }) r.body_is

  with_course_is : (t : Name) (k new : Guided Shape Op) → HasCourse o shape v ids G F n h t k → (f : Guided Shape Op → Guided Shape Op) → new ≡ f k → with_course t new v ≡ record { names = v.names; opened = map (λ x. cond (x.name =ⁿ t) (recoursed (f (course_of x)) x) x) v.opened }
  with_course_is t k new r f e =
      ap (λ (z : List (Open Shape Op)). record { names = v.names; opened = z })
      (coursed_all v.opened t new (λ x. recoursed (f (course_of x)) x) (λ x i is. ap (λ (z : Guided Shape Op). recoursed z x) (e ∙ ap f (sym (same_course t k r x i is)))))

  -- the transactions with what became of the course of t: another log, or what it was
  pub relogged_is : (t : Name) (k new : Guided Shape Op) → HasCourse o shape v ids G F n h t k → (f : List (LocalEntry Op) → List (LocalEntry Op)) → new ≡ record { body = k.body; local = (k.local.0, f k.local.1) } → with_course t new v ≡ with_log t f v
  relogged_is t k new r f e = with_course_is t k new r (λ z. record { body = z.body; local = (z.local.0, f z.local.1) }) e

  -- To write back the course of t as it was leaves the transactions the same.
  pub course_same : (t : Name) (k new : Guided Shape Op) → HasCourse o shape v ids G F n h t k → new ≡ k → with_course t new v ≡ v
  course_same t k new r e = with_course_is t k new r (λ z. z) e ∙ ap (λ (z : List (Open Shape Op)). record { names = v.names; opened = z }) (all_same v.opened t)

  -- The course of the open transaction t is the lent one.
  pub of_course : (t : Name) (k : Guided Shape Op) → HasCourse o shape v ids G F n h t k → (x : Open Shape Op) → open_at t v.opened ≡ Some x → course_of x ≡ k
  of_course t k r x e =
      ap (λ (z : Open Shape Op). course_of z) (same_Some x _ (sym e ∙ (r.log).at))
      ∙ ap (λ (b : Option Tree). record { body = b; local = k.local }) r.body_is

  -- UNAPP
  unapp_is : (t : Name) (id : ℕ) (u : Txs Shape Op) → u ≡ with_log t but_last v → config_of u ids G.1 F ≡ then (config_of v ids G.1 F) (Unapp t id)
  unapp_is t id u e = ap (λ (z : Txs Shape Op). config_of z ids G.1 F) e ∙ after_unapp v ids G.1 F t id

  -- Without the last entry of a local log, the machine is seen as after an UNAPP.
  pub seen_unapp : (t : Name) (id : ℕ) (u : Txs Shape Op) → u ≡ with_log t but_last v → ◌≡◌ {A = Seen Shape Op} (record { shape = shape; config = config_of u ids G.1 F; count = n + 1 }) (stepped w (Unapp t id))
  seen_unapp t id u e = seen_as (Unapp t id) (config_of u ids G.1 F) (unapp_is t id u e)

  -- After an UNAPP that meets its criteria, the machine holds what each machine keeps.
  pub holds_unapp : (t : Name) (id : ℕ) (u : Txs Shape Op) → Meets (rules_of o w.shape) w.config (Unapp t id) → u ≡ with_log t but_last v → Holds o shape u ids G F (n + 1)
  holds_unapp t id u f e = record {
    sound = sound_as (Unapp t id) (config_of u ids G.1 F) f (unapp_is t id u e);
    fine = fine_after t but_last u e (fine_part o shape n v.opened h.fine but_last (λ m. but_last_short m) (λ m a i. in_but_last a m i));
    shared_shape = h.shared_shape;
    shared_short = (let s = h.shared_short in omega (arith, s));
    shared_ranged = h.shared_ranged;
    serial_ranged = h.serial_ranged;
  }

  -- UNPULL
  unpull_is : (t : Name) (id : ℕ) (u : Txs Shape Op) → u ≡ with_log t (without_local id) v → config_of u ids G.1 F ≡ then (config_of v ids G.1 F) (Unpull t id)
  unpull_is t id u e = ap (λ (z : Txs Shape Op). config_of z ids G.1 F) e ∙ after_unpull v ids G.1 F t id

  -- Without the entry in the local log, the machine is seen as after an UNPULL.
  pub seen_unpull : (t : Name) (id : ℕ) (u : Txs Shape Op) → u ≡ with_log t (without_local id) v → ◌≡◌ {A = Seen Shape Op} (record { shape = shape; config = config_of u ids G.1 F; count = n + 1 }) (stepped w (Unpull t id))
  seen_unpull t id u e = seen_as (Unpull t id) (config_of u ids G.1 F) (unpull_is t id u e)

  -- After an UNPULL that meets its criteria, the machine holds what each machine keeps.
  pub holds_unpull : (t : Name) (id : ℕ) (u : Txs Shape Op) → Meets (rules_of o w.shape) w.config (Unpull t id) → u ≡ with_log t (without_local id) v → Holds o shape u ids G F (n + 1)
  holds_unpull t id u f e = record {
    sound = sound_as (Unpull t id) (config_of u ids G.1 F) f (unpull_is t id u e);
    fine = fine_after t (without_local id) u e (fine_part o shape n v.opened h.fine (without_local id) (λ m. filter_short (λ (z : LocalEntry Op). not (z.id == id)) m) (λ m a i. (from_filter (λ (z : LocalEntry Op). not (z.id == id)) a m i).0));
    shared_shape = h.shared_shape;
    shared_short = (let s = h.shared_short in omega (arith, s));
    shared_ranged = h.shared_ranged;
    serial_ranged = h.serial_ranged;
  }

  -- the i-th entry of the local log is the pulled one of this id
  pub unpull_leaves : (t : Name) (id : ℕ) (l : Shape × List (LocalEntry Op)) → HasLog o shape v ids G F n h t l → (p : LocalEntry Op) (i : ℕ) → at_mark id Pulled l.1 ≡ Some p → slice_get l.1 i ≡ Some p → (y : Open Shape Op) × (open_at t v.opened ≡ Some y) × MayLeave y.local.1 i
  unpull_leaves t id l r p i q at =
      (open_of t r.thread r.body l, r.at, record { within = slice_within l.1 i p at; entry = p; here = at; own_last = λ mine. absurd (pulled_other (sym (ap is_own (found_mark id Pulled l.1 p q).2) ∙ mine)) })

  -- To remove the pulled entry at its position is to take its id out of the local log.
  pub unpulled : (t : Name) (id : ℕ) (l : Shape × List (LocalEntry Op)) → HasLog o shape v ids G F n h t l → (p : LocalEntry Op) (i : ℕ) → at_mark id Pulled l.1 ≡ Some p → slice_get l.1 i ≡ Some p → remove l.1 i ≡ without_local id l.1
  unpulled t id l r p i q at = removed_filter (λ (z : LocalEntry Op). z.id) id l.1 (distinct o shape v ids G F n h t l r) i p at (found_mark id Pulled l.1 p q).1

  -- UNPUSH
  pub posted_at : (id j : ℕ) → position (λ g. g.id == id) G.1 ≡ Some j → remove G.1 j ≡ without_shared id G.1
  posted_at id j e =
      let k = placed (λ (z : SharedEntry Op). z.id == id) G.1 j e in
      removed_filter (λ (z : SharedEntry Op). z.id) id G.1 h.sound.shared_ids j k.0 k.1 (eqb-true (k.0).id id k.2)

  unpush_is : (t : Name) (id : ℕ) (u : Txs Shape Op) (H : List (SharedEntry Op)) → u ≡ with_log t (set_mark id Unpushed) v → H ≡ without_shared id G.1 → config_of u ids H F ≡ then (config_of v ids G.1 F) (Unpush t id)
  unpush_is t id u H e k =
      ap (λ (z : Txs Shape Op). config_of z ids H F) e
      ∙ ap (λ (z : List (SharedEntry Op)). config_of (with_log t (set_mark id Unpushed) v) ids z F) k
      ∙ after_unpush v ids G.1 F t id

  -- The mark Unpushed, and no shared entry, make the machine seen as after an UNPUSH.
  pub seen_unpush : (t : Name) (id : ℕ) (u : Txs Shape Op) (H : Shape × List (SharedEntry Op)) → u ≡ with_log t (set_mark id Unpushed) v → H ≡ (G.0, without_shared id G.1) →
      ◌≡◌ {A = Seen Shape Op} (record { shape = shape; config = config_of u ids H.1 F; count = n + 1 }) (stepped w (Unpush t id))
  seen_unpush t id u H e k = seen_as (Unpush t id) (config_of u ids H.1 F) (unpush_is t id u H.1 e (ap (λ (z : Shape × List (SharedEntry Op)). z.1) k))

  -- After an UNPUSH that meets its criteria, the machine holds what each machine keeps.
  pub holds_unpush : (t : Name) (id : ℕ) (u : Txs Shape Op) (H : Shape × List (SharedEntry Op)) → Meets (rules_of o w.shape) w.config (Unpush t id) → u ≡ with_log t (set_mark id Unpushed) v → H ≡ (G.0, without_shared id G.1) → Holds o shape u ids H F (n + 1)
  holds_unpush t id u H f e k =
      let posts : H.1 ≡ without_shared id G.1 = ap (λ (z : Shape × List (SharedEntry Op)). z.1) k in
      record {
        sound = sound_as (Unpush t id) (config_of u ids H.1 F) f (unpush_is t id u H.1 e posts);
        fine = fine_after t (set_mark id Unpushed) u e (fine_mark o shape n v.opened h.fine id Unpushed);
        shared_shape = ap (λ (z : Shape × List (SharedEntry Op)). z.0) k ∙ h.shared_shape;
        shared_short = (let s = h.shared_short in let m = ap length posts in let less = filter_short (λ (z : SharedEntry Op). not (z.id == id)) G.1 in omega (arith, s, m, less));
        shared_ranged = subst (AllRanged o) (sym (ap shared_ops posts)) (ranged_posts o id G.1 h.shared_ranged);
        serial_ranged = h.serial_ranged;
      }

  -- If the transactions and the shared log are the same, the seen machine is.
  pub seen_same : (u : Txs Shape Op) (H : Shape × List (SharedEntry Op)) → u ≡ v → H ≡ G → ◌≡◌ {A = Seen Shape Op} (record { shape = shape; config = config_of u ids H.1 F; count = n }) w
  seen_same u H e k =
      ap (λ (z : Txs Shape Op). record { shape = shape; config = config_of z ids H.1 F; count = n }) e
      ∙ ap (λ (z : Shape × List (SharedEntry Op)). record { shape = shape; config = config_of v ids z.1 F; count = n }) k
      ∙ same

  -- A machine in which nothing has changed holds what it held.
  pub holds_same : (u : Txs Shape Op) (H : Shape × List (SharedEntry Op)) → u ≡ v → H ≡ G → Holds o shape u ids H F n
  holds_same u H e k =
      subst (λ (z : Txs Shape Op). Holds o shape z ids H F n) (sym e)
      (subst (λ (z : Shape × List (SharedEntry Op)). Holds o shape v ids z F n) (sym k) h)

  -- CMT
  cmt_is : (t : Name) (l : Shape × List (LocalEntry Op)) → HasLog o shape v ids G F n h t l → (u : Txs Shape Op) (H : List (SharedEntry Op)) (D : List (CommittedTx Op)) → u ≡ without_open t v → H ≡ commit_all t G.1 → D ≡ F ++ record { name = t; entries = own_items l.1 } ∷ [] →
      config_of u ids H D ≡ then (config_of v ids G.1 F) (Cmt t)
  cmt_is t l r u H D e k d =
      ap (λ (z : Txs Shape Op). config_of z ids H D) e
      ∙ ap (λ (z : List (SharedEntry Op)). config_of (without_open t v) ids z D) k
      ∙ ap (λ (z : List (CommittedTx Op)). config_of (without_open t v) ids (commit_all t G.1) z) d
      ∙ after_cmt v ids G.1 F t _ r.is

  -- Without the transaction, its entries committed, the machine is seen as after a CMT.
  pub seen_cmt : (t : Name) (l : Shape × List (LocalEntry Op)) → HasLog o shape v ids G F n h t l → (u : Txs Shape Op) (H : Shape × List (SharedEntry Op)) (D : List (CommittedTx Op)) → u ≡ without_open t v → H ≡ (G.0, commit_all t G.1) → D ≡ F ++ record { name = t; entries = own_items l.1 } ∷ [] →
      ◌≡◌ {A = Seen Shape Op} (record { shape = shape; config = config_of u ids H.1 D; count = n + 1 }) (stepped w (Cmt t))
  seen_cmt t l r u H D e k d = seen_as (Cmt t) (config_of u ids H.1 D) (cmt_is t l r u H.1 D e (ap (λ (z : Shape × List (SharedEntry Op)). z.1) k) d)

  fine_without : (t : Name) (u : Txs Shape Op) → u ≡ without_open t v → (x : Open Shape Op) → In x u.opened → IsFine o shape (n + 1) x
  fine_without t u e = subst (λ (z : Txs Shape Op). (x : Open Shape Op) → In x z.opened → IsFine o shape (n + 1) x) (sym e) (fine_left o shape n v.opened h.fine _)

  -- After a CMT that meets its criteria, the machine holds what each machine keeps.
  pub holds_cmt : (t : Name) → Meets (rules_of o w.shape) w.config (Cmt t) → (l : Shape × List (LocalEntry Op)) → HasLog o shape v ids G F n h t l → (u : Txs Shape Op) (H : Shape × List (SharedEntry Op)) (D : List (CommittedTx Op)) →
      u ≡ without_open t v → H ≡ (G.0, commit_all t G.1) → D ≡ F ++ record { name = t; entries = own_items l.1 } ∷ [] → Holds o shape u ids H D (n + 1)
  holds_cmt t f l r u H D e k d =
      let posts : H.1 ≡ commit_all t G.1 = ap (λ (z : Shape × List (SharedEntry Op)). z.1) k in
      record {
        sound = sound_as (Cmt t) (config_of u ids H.1 D) f (cmt_is t l r u H.1 D e posts d);
        fine = fine_without t u e;
        shared_shape = ap (λ (z : Shape × List (SharedEntry Op)). z.0) k ∙ h.shared_shape;
        shared_short = (let s = h.shared_short in let m : length H.1 ≡ length G.1 = ap length posts ∙ length-map G.1 _ in omega (arith, s, m));
        shared_ranged = subst (AllRanged o) (sym (ap shared_ops posts ∙ ops_committed t G.1)) h.shared_ranged;
        serial_ranged = subst (λ (z : List (CommittedTx Op)). AllRanged o (serial_ops z)) (sym d) (serial_more o F (record { name = t; entries = own_items l.1 }) l.1 h.serial_ranged (r.fine).ranged refl);
      }

  -- QUIT
  quit_is : (t : Name) (u : Txs Shape Op) → u ≡ without_open t v → config_of u ids G.1 F ≡ then (config_of v ids G.1 F) (Quit t)
  quit_is t u e = ap (λ (z : Txs Shape Op). config_of z ids G.1 F) e ∙ after_quit v ids G.1 F t

  -- Without the transaction, the machine is seen as after a QUIT.
  pub seen_quit : (t : Name) (u : Txs Shape Op) → u ≡ without_open t v → ◌≡◌ {A = Seen Shape Op} (record { shape = shape; config = config_of u ids G.1 F; count = n + 1 }) (stepped w (Quit t))
  seen_quit t u e = seen_as (Quit t) (config_of u ids G.1 F) (quit_is t u e)

  -- After a QUIT that meets its criteria, the machine holds what each machine keeps.
  pub holds_quit : (t : Name) (u : Txs Shape Op) → Meets (rules_of o w.shape) w.config (Quit t) → u ≡ without_open t v → Holds o shape u ids G F (n + 1)
  holds_quit t u f e = record {
    sound = sound_as (Quit t) (config_of u ids G.1 F) f (quit_is t u e);
    fine = fine_without t u e;
    shared_shape = h.shared_shape;
    shared_short = (let s = h.shared_short in omega (arith, s));
    shared_ranged = h.shared_ranged;
    serial_ranged = h.serial_ranged;
  }

  -- NOTE
  pub seen_note : (t : Name) → ◌≡◌ {A = Seen Shape Op} (record { shape = shape; config = config_of v ids G.1 F; count = n + 1 }) (stepped w (Note t))
  seen_note t = seen_as (Note t) (config_of v ids G.1 F) refl

  -- After a NOTE, the machine holds what each machine keeps.
  pub holds_note : Holds o shape v ids G F (n + 1)
  holds_note = record {
    sound = h.sound;
    fine = fine_later o shape n v.opened h.fine;
    shared_shape = h.shared_shape;
    shared_short = (let s = h.shared_short in omega (arith, s));
    shared_ranged = h.shared_ranged;
    serial_ranged = h.serial_ranged;
  }

-- a machine with no transaction
pub start_holds : {Shape State Op Undo : Type 0} (o : Object Shape State Op Undo) (shape : Shape) (v : Txs Shape Op) (ids : List ℕ) (G : Shape × List (SharedEntry Op)) (F : List (CommittedTx Op)) →
    v ≡ record { names = []; opened = [] } → ids ≡ [] → G ≡ (shape, []) → F ≡ [] → Holds o shape v ids G F 0
start_holds {Shape} {State} {Op} o shape v ids G F a b c d =
    subst (λ (z : Txs Shape Op). Holds o shape z ids G F 0) (sym a)
    (subst (λ (z : List ℕ). Holds o shape (record { names = []; opened = [] }) z G F 0) (sym b)
    (subst (λ (z : Shape × List (SharedEntry Op)). Holds o shape (record { names = []; opened = [] }) [] z F 0) (sym c)
    (subst (λ (z : List (CommittedTx Op)). Holds o shape (record { names = []; opened = [] }) [] (shape, []) z 0) (sym d)
    (record { sound = empty_sound (rules_of o shape); fine = λ x i. absurd i; shared_shape = refl; shared_short = omega arith; shared_ranged = tt; serial_ranged = tt }))))

-- The seen configuration of a machine is sound.
module _ {Shape State Op Undo : Type 0} (o : Object Shape State Op Undo) (v w : Seen Shape Op) (same : v ≡ w) where
  -- A machine that is seen the same has a sound configuration if the other has.
  pub seen_sound : Sound (rules_of o v.shape) v.config → Sound (rules_of o w.shape) w.config
  seen_sound s = subst (λ (z : Seen Shape Op). Sound (rules_of o z.shape) z.config) same s

  -- The serial run of a sound configuration of a machine is allowed.
  pub seen_allowed : Sound (rules_of o v.shape) v.config → IsAllowed o w.shape (serial_ops w.config.done)
  seen_allowed s = serial_allowed o w.shape w.config (seen_sound s)

  -- The serial run of a machine is ranged if that of the equal seen machine is.
  pub seen_ranged : AllRanged o (serial_ops v.config.done) → AllRanged o (serial_ops w.config.done)
  seen_ranged s = subst (λ (z : Seen Shape Op). AllRanged o (serial_ops z.config.done)) same s
