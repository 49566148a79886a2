-- Proof machinery: acts of one kind do on its states what its operations do by themselves.
use Rattle.std.proofs.Common.{◌≡◌, IsTrue, List, [], ◌∷◌, map, refl, sym, ◌∙◌, ap, subst}
use Rattle.pp_core.specs.declared.call.Kind.{Kind}
use Rattle.pp_kind.specs.Object.{IsLegal, AllowedFrom, state_from, IsAllowed, state_after}
use Rattle.pp_kind.specs.Object.{AllRanged, Swaps}
use Rattle.pp_kind.proofs.Lists.{MayTurn, turned_there, swaps_where_turned}
use Rattle.pp_objects.specs.declared.act.Act.{Act}
use Rattle.pp_objects.specs.declared.states.ObjectState.{ObjectState}
use Rattle.pp_objects.specs.One.{one}
use Rattle.pp_objects.specs.laws.Kinds.{Ops, States, act_of, asks_kind, fits, gives_is, has_kind}
use Rattle.pp_objects.specs.laws.Kinds.{its_act, next_is, object_of, only_kind, ranged_is}
use Rattle.pp_objects.specs.laws.Kinds.{recorded_is, start_is, state_of}

module _ (k : Kind) where
  -- An operation that is legal in a state of its kind is legal as an act.
  pub legal_in : (s : States k) (a : Ops k) → IsLegal (object_of k) s a
      → IsLegal one (state_of k s) (act_of k a)
  legal_in s a h = (
    subst (λ (q : Kind). IsTrue (one.fits q (act_of k a))) (sym (has_kind k s))
        (asks_kind k a),
    gives_is k s a ∙ h.1 ∙ sym (recorded_is k a),
  )

  -- An act that is legal in a state of its kind is legal as an operation of the kind.
  pub legal_out : (s : States k) (a : Ops k) → IsLegal one (state_of k s) (act_of k a)
      → IsLegal (object_of k) s a
  legal_out s a h = (fits k a, sym (gives_is k s a) ∙ h.1 ∙ recorded_is k a)

  -- An act that is legal in a state of the kind is an operation of the kind.
  pub legal_act : (s : States k) (a : Act) → IsLegal one (state_of k s) a → (b : Ops k)
      × (a ≡ act_of k b)
  legal_act s a h = its_act k a (subst (λ (q : Kind). IsTrue (one.fits q a)) (has_kind k s) h.0)

  -- A list that is allowed in a kind is allowed as acts.
  pub allowed_in : (s : States k) (l : List (Ops k)) → AllowedFrom (object_of k) s l
      → AllowedFrom one (state_of k s) (map (act_of k) l)
  allowed_in s [] h = tt
  allowed_in s (a ∷ l) h = (
    legal_in s a h.0,
    subst (λ (t : ObjectState). AllowedFrom one t (map (act_of k) l)) (sym (next_is k s a))
        (allowed_in ((object_of k).next s a) l h.1),
  )

  -- A list that is allowed as acts of one kind is allowed in the kind.
  pub allowed_out : (s : States k) (l : List (Ops k))
      → AllowedFrom one (state_of k s) (map (act_of k) l) → AllowedFrom (object_of k) s l
  allowed_out s [] h = tt
  allowed_out s (a ∷ l) h = (
    legal_out s a h.0,
    allowed_out ((object_of k).next s a) l
        (subst (λ (t : ObjectState). AllowedFrom one t (map (act_of k) l)) (next_is k s a) h.1),
  )

  -- Acts of a kind lead to the state that its operations lead to.
  pub state_in : (s : States k) (l : List (Ops k))
      → state_from one (state_of k s) (map (act_of k) l) ≡ state_of k (state_from (object_of k) s l)
  state_in s [] = refl
  state_in s (a ∷ l) = ap (λ (t : ObjectState). state_from one t (map (act_of k) l)) (next_is k s a)
      ∙ state_in ((object_of k).next s a) l

  -- the acts of a list that is allowed on a state of the kind are its operations
  pub their_ops : (s : States k) (l : List Act) → AllowedFrom one (state_of k s) l
      → (m : List (Ops k)) × (l ≡ map (act_of k) m)
  their_ops s [] h = ([], refl)
  their_ops s (x ∷ l) h =
      let b = legal_act s x h.0 in
      let P : Act → Type 0 = λ y. AllowedFrom one (one.next (state_of k s) y) l in
      let m = their_ops ((object_of k).next s b.0) l
      (subst (λ (t : ObjectState). AllowedFrom one t l) (next_is k s b.0) (subst P b.1 h.1)) in
      (b.0 ∷ m.0, ap (λ (y : Act). y ∷ l) b.1 ∙ ap (λ (z : List Act). act_of k b.0 ∷ z) m.1)

  -- An allowed list of acts leads to the state to which the kind's operations lead by themselves.
  pub reached_in : (before : List Act) → IsAllowed one k before → (m : List (Ops k))
      × (before ≡ map (act_of k) m) × IsAllowed (object_of k) tt m
      × (state_after one k before ≡ state_of k (state_after (object_of k) tt m))
  reached_in before h =
      let s = (object_of k).start tt in
      let from : AllowedFrom one (state_of k s) before =
      subst (λ (t : ObjectState). AllowedFrom one t before) (start_is k) h in
      let m = their_ops s before from in (
        m.0,
        m.1,
        allowed_out s m.0 (subst (λ (z : List Act). AllowedFrom one (state_of k s) z) m.1 from),
        ap (λ (t : ObjectState). state_from one t before) (start_is k)
            ∙ ap (λ (z : List Act). state_from one (state_of k s) z) m.1 ∙ state_in s m.0,
      )

  -- A pair of the kind may be turned if it may be turned in its kind.
  pub turned_in : (t : States k) (a b : Ops k) → MayTurn (object_of k) t a b
      → MayTurn one (state_of k t) (act_of k a) (act_of k b)
  turned_in t a b turned l h =
      let u = (object_of k).next t a in
      let P : ObjectState → Type 0 = λ s. AllowedFrom one s l in
      let Q : ObjectState → Type 0 = λ s. AllowedFrom one s (act_of k b ∷ l) in
      let rest = subst P (next_is k u b) (subst Q (next_is k t a) h.1).1 in
      let n = their_ops ((object_of k).next u b) l rest in
      let R : List Act → Type 0 = λ z.
      AllowedFrom one (state_of k t) (act_of k a ∷ act_of k b ∷ z) in
      let T : List Act → Type 0 = λ z.
      AllowedFrom one (state_of k t) (act_of k b ∷ act_of k a ∷ z) in
      subst T (sym n.1) (allowed_in t (b ∷ a ∷ n.0)
      (turned n.0 (allowed_out t (a ∷ b ∷ n.0) (subst R n.1 h))))

  -- a list that is allowed in a shape and has an act of the kind is one of the kind's shape
  pub swaps_in : ((sh : Kind) (l : List Act) → IsAllowed one sh l
      → one.shape (state_after one sh l) ≡ sh) → (a b : Ops k) → Swaps (object_of k) a b
      → Swaps one (act_of k a) (act_of k b)
  swaps_in shapes a b swaps =
      swaps_where_turned one (act_of k a) (act_of k b)
      (λ sh before first l h.
      let e : sh ≡ k = only_kind k sh a
      (subst (λ (q : Kind). IsTrue (one.fits q (act_of k a))) (shapes sh before first) h.0.0) in
      let P : Kind → Type 0 = λ q. IsAllowed one q before
      → MayTurn one (state_after one q before) (act_of k a) (act_of k b) in
      let there : P k = λ f l g.
      let r = reached_in before f in
      let Q : List Act → ObjectState → Type 0 = λ z s. AllowedFrom one s z in
      subst (Q (act_of k b ∷ act_of k a ∷ l)) (sym r.3)
      (turned_in (state_after (object_of k) tt r.0) a b
      (turned_there (object_of k) a b swaps tt r.0 r.2) l
      (subst (Q (act_of k a ∷ act_of k b ∷ l)) r.3 g)) in
      subst P (sym e) there first l h)

  -- Two operations whose acts swap, swap in their kind.
  pub swaps_out : (a b : Ops k) → Swaps one (act_of k a) (act_of k b) → Swaps (object_of k) a b
  swaps_out a b swaps =
      swaps_where_turned (object_of k) a b
      (λ sh before first l h.
      let s = (object_of k).start tt in
      let P : ObjectState → List Act → Type 0 = λ t z. AllowedFrom one t z in
      let start : IsAllowed one k (map (act_of k) before) =
      subst (λ (t : ObjectState). P t (map (act_of k) before)) (sym (start_is k))
      (allowed_in s before first) in
      let e : state_after one k (map (act_of k) before)
      ≡ state_of k (state_after (object_of k) tt before) =
      ap (λ (t : ObjectState). state_from one t (map (act_of k) before)) (start_is k)
      ∙ state_in s before in
      let there = allowed_in (state_after (object_of k) tt before) (a ∷ b ∷ l) h in
      let turned = turned_there one (act_of k a) (act_of k b) swaps k (map (act_of k) before) start
      (map (act_of k) l) (subst (λ (t : ObjectState).
      P t (act_of k a ∷ act_of k b ∷ map (act_of k) l)) (sym e) there) in
      allowed_out (state_after (object_of k) tt before) (b ∷ a ∷ l)
      (subst (λ (t : ObjectState). P t (act_of k b ∷ act_of k a ∷ map (act_of k) l)) e turned))

  -- A list that is ranged in a kind is ranged as acts.
  pub ranged_in : (l : List (Ops k)) → AllRanged (object_of k) l → AllRanged one (map (act_of k) l)
  ranged_in [] h = tt
  ranged_in (a ∷ l) h = (subst IsTrue (sym (ranged_is k a)) h.0, ranged_in l h.1)

  -- A list that is ranged as acts of one kind is ranged in the kind.
  pub ranged_out : (l : List (Ops k)) → AllRanged one (map (act_of k) l) → AllRanged (object_of k) l
  ranged_out [] h = tt
  ranged_out (a ∷ l) h = (subst IsTrue (ranged_is k a) h.0, ranged_out l h.1)
