-- The open transactions of a machine, as they are in its configuration.
use Rattle.std.proofs.Common.{IsTrue, ◌≡◌, ◌≢◌, ◌==◌, ℕ, true, false, List, [], ◌∷◌, ◌++◌, map}
use Rattle.std.proofs.Common.{reverse, Option, Some, None, is_some, option_map, refl, sym, ap}
use Rattle.std.proofs.Common.{subst, ◌∙◌}
use Rattle.std.specs.List.{list_any}
use Rattle.std.proofs.lemmas.Bool.{eqb-true, eq-eqb}
use Rattle.pp_core.specs.declared.entry.CommittedTx.{CommittedTx}
use Rattle.pp_core.specs.declared.entry.LocalEntry.{LocalEntry}
use Rattle.pp_core.specs.declared.entry.SharedEntry.{SharedEntry}
use Rattle.pp_model.specs.Body.{Tree}
use Rattle.pp_model.specs.Config.{Tx, tx, local_ops, shared_ops}
use Rattle.pp_model.specs.Lists.{In}
use Rattle.pp_model.specs.Names.{Name, ◌=ⁿ◌}
use Rattle.pp_model.proofs.Lists.{in_map, from_map}
use Rattle.pp_model.proofs.Logs.{found, found_tx}
use Rattle.pp_model.proofs.Names.{eq-names, names-true}
use Rattle.pp_model.proofs.Finding.{any_in, none_in, from_reverse, in_reverse}
use Rattle.pp_kind.specs.Object.{Object, IsAllowed, IsLawful}
use Rattle.pp_kind.proofs.Fitting.{ranged_in}
use Rattle.pp_machine.specs.Machines.{Holds, IsFine, config_of, tx_of}
use Rattle.pp_machine.specs.Courses.{Guided}
use Rattle.pp_machine.specs.Sites.{HoldsCourse, HoldsLocal, Rest}
use Rattle.pp_machine.specs.Transactions.{Open, Txs, course_of, is_begun, is_busy, open_at, open_of}
use Rattle.pp_machine.specs.Transactions.{threads_of}
use Rattle.pp_machine.specs.Finding.{AreDistinct}
use Rattle.pp_machine.proofs.Fitting.{local_fits, shared_fits}
use Rattle.pp_machine.proofs.Cuts.{find_map}
use Rattle.pp_machine.proofs.Cuts.{mapped_some, mapped_none, mapped_twice}

-- If `is_some` is true, the option has a value.
pub is_there : {X : Type 0} (r : Option X) → is_some r ≡ true → (x : X) × (r ≡ Some x)
is_there None e = absurd (cc)
is_there (Some x) e = (x, refl)

-- names, threads and ids
pub begun_in : {Shape Op : Type 0} (v : Txs Shape Op) (t : Name) → true ≡ is_begun v t → In t (reverse v.names)
begun_in v t e =
    let r = any_in (λ (n : Name). n =ⁿ t) v.names (sym e) in
    in_reverse t v.names (subst (λ (n : Name). In n v.names) (names-true r.0 t r.2) r.1)

-- A name for which the test says that it was not begun is not among the names.
pub not_begun : {Shape Op : Type 0} (v : Txs Shape Op) (t : Name) → false ≡ is_begun v t → In t (reverse v.names) → ⊥
not_begun v t e i =
    let k = none_in (λ (n : Name). n =ⁿ t) v.names (sym e) t (from_reverse t v.names i) in
    let z : true ≡ false = sym (eq-names t t refl) ∙ k in cc

-- An id for which the test says that it was used is among the ids.
pub used_in : (l : List ℕ) (id : ℕ) → true ≡ list_any (λ i. id == i) l → In id (reverse l)
used_in l id e =
    let r = any_in (λ (i : ℕ). id == i) l (sym e) in
    in_reverse id l (subst (λ (i : ℕ). In i l) (sym (eqb-true id r.0 r.2)) r.1)

-- An id for which the test says that it was not used is not among the ids.
pub not_used : (l : List ℕ) (id : ℕ) → false ≡ list_any (λ i. id == i) l → In id (reverse l) → ⊥
not_used l id e i =
    let k = none_in (λ (i : ℕ). id == i) l (sym e) id (from_reverse id l i) in
    let z : true ≡ false = sym (eq-eqb id id refl) ∙ k in cc

-- A thread for which the test says that it is busy is that of an open transaction.
pub busy_in : {Shape Op : Type 0} (v : Txs Shape Op) (p : Name) → true ≡ is_busy v p → (x : Tx Op) × In x (map tx_of v.opened) × (x.thread ≡ p)
busy_in v p e =
    let r = any_in (λ (q : Name). q =ⁿ p) (threads_of v.opened) (sym e) in
    let m = from_map (λ x. x.thread) r.0 v.opened r.1 in
    (tx_of m.0, in_map tx_of m.0 v.opened m.1, sym m.2 ∙ names-true r.0 p r.2)

-- A thread for which the test says that it is not busy is that of no open transaction.
pub not_busy : {Shape Op : Type 0} (v : Txs Shape Op) (p : Name) → false ≡ is_busy v p → (x : Tx Op) → In x (map tx_of v.opened) → x.thread ≢ p
not_busy {Shape} {Op} v p e x i n =
    let m = from_map tx_of x v.opened i in
    let k = none_in (λ (q : Name). q =ⁿ p) (threads_of v.opened) (sym e) (m.0).thread (in_map (λ x. x.thread) m.0 v.opened m.1) in
    let z : true ≡ false = sym (eq-names (m.0).thread p (sym (ap (λ (w : Tx Op). w.thread) m.2) ∙ n)) ∙ k in cc

-- the log that a course lends
module _ {Shape State Op Undo : Type 0} (o : Object Shape State Op Undo) (shape : Shape) (l m : Shape × List (LocalEntry Op)) (op : Op) (same : m ≡ l) (here : l.0 ≡ shape) where
  -- An operation allowed after the log that a course lends is allowed after the local log.
  pub allowed_here : IsAllowed o m.0 (local_ops m.1 ++ op ∷ []) → IsAllowed o shape (local_ops l.1 ++ op ∷ [])
  allowed_here h = subst (λ (s : Shape). IsAllowed o s (local_ops l.1 ++ op ∷ [])) here (subst (λ (z : Shape × List (LocalEntry Op)). IsAllowed o z.0 (local_ops z.1 ++ op ∷ [])) same h)

  -- An operation allowed after the local log is allowed after the log that a course lends.
  pub allowed_there : IsAllowed o shape (local_ops l.1 ++ op ∷ []) → IsAllowed o m.0 (local_ops m.1 ++ op ∷ [])
  allowed_there h = subst (λ (z : Shape × List (LocalEntry Op)). IsAllowed o z.0 (local_ops z.1 ++ op ∷ [])) (sym same) (subst (λ (s : Shape). IsAllowed o s (local_ops l.1 ++ op ∷ [])) (sym here) h)

module _ {Shape State Op Undo : Type 0} (o : Object Shape State Op Undo) (shape : Shape) (v : Txs Shape Op) (ids : List ℕ) (G : Shape × List (SharedEntry Op)) (F : List (CommittedTx Op)) (n : ℕ) (h : Holds o shape v ids G F n) where
  -- the open transaction t, with this local log
  pub record HasLog (t : Name) (l : Shape × List (LocalEntry Op)) : Type 0 where
    pub thread : Name
    pub body : Option Tree
    pub is : tx t (map tx_of v.opened) ≡ Some (record { name = t; thread = thread; body = body; local = l.1 })
    pub at : open_at t v.opened ≡ Some (open_of t thread body l)
    pub fine : IsFine o shape n (open_of t thread body l)

  -- the same, with this body
  pub record HasCourse (t : Name) (k : Guided Shape Op) : Type 0 where
    pub log : HasLog t k.local
    pub body_is : log.body ≡ k.body

  open_is : (x : Open Shape Op) (t : Name) (l : Shape × List (LocalEntry Op)) → x.name ≡ t → x.local ≡ l → x ≡ open_of t x.thread x.body l
  open_is x t l a c = λ i. record { name = a i; thread = x.thread; body = x.body; local = c i }

  tx_is : (t : Name) → tx t (map tx_of v.opened) ≡ option_map tx_of (open_at t v.opened)
  tx_is t = find_map tx_of (λ x. x.name =ⁿ t) v.opened

  log_of : (t : Name) (l : Shape × List (LocalEntry Op)) (x : Open Shape Op) → open_at t v.opened ≡ Some x → x.local ≡ l → (r : HasLog t l) × (r.body ≡ x.body)
  log_of t l x e m =
      let k = found (λ (x : Open Shape Op). x.name =ⁿ t) v.opened x e in
      let same = open_is x t l (names-true x.name t k.1) m in
      let at : open_at t v.opened ≡ Some (open_of t x.thread x.body l) = e ∙ ap (λ (x : Open Shape Op). Some x) same in
      (record { thread = x.thread; body = x.body; is = tx_is t ∙ ap (option_map tx_of) at; at = at; fine = subst (IsFine o shape n) same (h.fine x k.0) }, refl)

  -- The local log that the machine has for t is that of the open transaction t.
  pub logged : (t : Name) (l : Shape × List (LocalEntry Op)) → Some l ≡ option_map (λ x. x.local) (open_at t v.opened) → HasLog t l
  logged t l e =
      let r = mapped_some (λ x. x.local) (open_at t v.opened) l e in
      (log_of t l r.0 r.1 r.2).0

  -- The course that the machine has for t is that of the open transaction t.
  pub coursed : (t : Name) (k : Guided Shape Op) → Some k ≡ option_map course_of (open_at t v.opened) → HasCourse t k
  coursed t k e =
      let r = mapped_some course_of (open_at t v.opened) k e in
      let q = log_of t k.local r.0 r.1 (ap (λ (z : Guided Shape Op). z.local) r.2) in
      record { log = q.0; body_is = q.1 ∙ ap (λ (z : Guided Shape Op). z.body) r.2 }

  -- If the machine has no course for t, t is not open in the configuration.
  pub uncoursed : (t : Name) → None ≡ option_map course_of (open_at t v.opened) → tx t (map tx_of v.opened) ≡ None
  uncoursed t e = tx_is t ∙ ap (option_map tx_of) (mapped_none course_of (open_at t v.opened) e)

  -- the transaction of the configuration, as it is kept
  pub opened : (t : Name) (x : Tx Op) → tx t (map tx_of v.opened) ≡ Some x → (y : Open Shape Op) × (open_at t v.opened ≡ Some y) × (tx_of y ≡ x) × IsFine o shape n y × (y.name ≡ t) × In y v.opened
  opened t x e =
      let r = mapped_some tx_of (open_at t v.opened) x (sym e ∙ tx_is t) in
      let k = found (λ (x : Open Shape Op). x.name =ⁿ t) v.opened r.0 r.1 in
      (r.0, r.1, r.2, h.fine r.0 k.0, names-true (r.0).name t k.1, k.0)

  local_of : (x : Option (Open Shape Op)) → ((y : Open Shape Op) → x ≡ Some y → y.local.0 ≡ shape) → option_map (λ x. x.local) x ≡ option_map (λ x. (shape, x.local)) (option_map tx_of x)
  local_of None f = refl
  local_of (Some y) f = ap (λ (s : Shape). Some (s, y.local.1)) (f y refl)

  -- The local log that the machine has for t is the one in the configuration, if any.
  pub local_seen : (t : Name) → option_map (λ x. x.local) (open_at t v.opened) ≡ option_map (λ x. (shape, x.local)) (tx t (map tx_of v.opened))
  local_seen t =
      local_of (open_at t v.opened) (λ y e. (h.fine y (found (λ (x : Open Shape Op). x.name =ⁿ t) v.opened y e).0).same_shape)
      ∙ ap (option_map (λ x. (shape, x.local))) (sym (tx_is t))

  some_mapped : {X Y : Type 0} (f : X → Y) (x : Option X) → is_some (option_map f x) ≡ is_some x
  some_mapped f None = refl
  some_mapped f (Some x) = refl

  -- The machine has a local log for t exactly if t is open in the configuration.
  pub open_seen : (t : Name) → is_some (option_map (λ x. x.local) (open_at t v.opened)) ≡ is_some (tx t (map tx_of v.opened))
  open_seen t = some_mapped (λ x. x.local) (open_at t v.opened) ∙ sym (some_mapped tx_of (open_at t v.opened)) ∙ ap is_some (sym (tx_is t))

  -- The operations in the local log of an open transaction fit the shape.
  pub fits_local : IsLawful o → (t : Name) (l : Shape × List (LocalEntry Op)) → HasLog t l → (p : LocalEntry Op) → In p l.1 → IsTrue (o.fits shape p.op)
  fits_local laws t l r p i = local_fits o laws shape (config_of v ids G.1 F) h.sound t _ r.is p i

  -- The local log of an open transaction has distinct ids.
  pub distinct : (t : Name) (l : Shape × List (LocalEntry Op)) → HasLog t l → AreDistinct l.1
  distinct t l r = h.sound.local_ids (record { name = t; thread = r.thread; body = r.body; local = l.1 }) (found_tx t (map tx_of v.opened) _ r.is).0

  -- Each entry of the shared log of a machine fits its shape.
  pub fits_shared : IsLawful o → (u : SharedEntry Op) → In u G.1 → IsTrue (o.fits shape u.op)
  fits_shared laws u i = shared_fits o laws shape (config_of v ids G.1 F) h.sound u i

  -- Each entry of the local log of an open transaction is ranged.
  pub ranged_local : (t : Name) (l : Shape × List (LocalEntry Op)) → HasLog t l → (p : LocalEntry Op) → In p l.1 → IsTrue (o.ranged p.op)
  ranged_local t l r p i = ranged_in o (local_ops l.1) (r.fine).ranged p.op (in_map (λ (z : LocalEntry Op). z.op) p l.1 i)

  -- Each entry of the shared log of a machine is ranged.
  pub ranged_shared : (u : SharedEntry Op) → In u G.1 → IsTrue (o.ranged u.op)
  ranged_shared u i = ranged_in o (shared_ops G.1) h.shared_ranged u.op (in_map (λ (z : SharedEntry Op). z.op) u G.1 i)

  -- the machine that judging a step is about
  abbrev pub rest : Rest Shape Op
  rest = record { shape = shape; txs = v; ids = ids; done = F; count = n }

  -- A machine with a course for t holds this course.
  pub holds_course : (t : Name) (k : Guided Shape Op) → Some k ≡ option_map course_of (open_at t v.opened) → HoldsCourse o rest G t k
  holds_course t k e = record { holds = h; is_open = e }

  -- A machine with a course for t holds the local log of this course.
  pub holds_local : (t : Name) (k : Guided Shape Op) → Some k ≡ option_map course_of (open_at t v.opened) → (l : Shape × List (LocalEntry Op)) → l ≡ k.local → HoldsLocal o rest G t l
  holds_local t k e l is = record { holds = h; is_open = ap (λ (z : Shape × List (LocalEntry Op)). Some z) is ∙ ap (option_map (λ (z : Guided Shape Op). z.local)) e ∙ mapped_twice (λ (z : Guided Shape Op). z.local) course_of (open_at t v.opened) }
