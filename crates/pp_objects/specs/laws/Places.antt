-- Proof machinery: what an operation does at its place, and that it does nothing elsewhere.
use Rattle.std.proofs.Common.{◌≡◌, ℕ, ◌≤◌, suc, IsTrue, List, [], ◌∷◌, length, map, set, replicate}
use Rattle.std.proofs.Common.{Option, Some, None, option_map, refl, sym, ◌∙◌, ap, subst, inl, inr}
use Rattle.std.proofs.Common.{◌⊎◌, arith}
use Rattle.std.proofs.lemmas.List.{set-set, set_comm}
use Rattle.std.proofs.lemmas.Option.{slice_get-map}
use Rattle.std.specs.List.{slice_get}
use Rattle.pp_core.specs.declared.call.Kind.{Kind}
use Rattle.pp_kind.specs.Calls.{WasApplied}
use Rattle.pp_kind.specs.Object.{Object, IsLegal, AllowedFrom, state_from, state_after, AllRanged}
use Rattle.pp_kind.specs.Object.{IsLawful, IsReached, Swaps, Commutes, AllowsAllOf}
use Rattle.pp_kind.proofs.Lists.{commuting_swap, keeps_shape, MayTurn, turned_there}
use Rattle.pp_kind.proofs.Lists.{swaps_where_turned}
use Rattle.pp_kind_memory.specs.declared.undo.Undo.{Undo}
use Rattle.pp_objects.specs.declared.act.Act.{Act}
use Rattle.pp_objects.specs.declared.act.Op.{Op}
use Rattle.pp_objects.specs.declared.states.ObjectState.{ObjectState}
use Rattle.pp_objects.specs.Objects.{many, fits_in, gives_in, kept_in, put, act_at}
use Rattle.pp_objects.specs.laws.Elements.{same_place, same_some, get_set, get_other, map_set}
use Rattle.pp_objects.specs.laws.Elements.{get_replicate}

module _ (o : Object Kind ObjectState Act Undo) (laws : IsLawful o) where
  -- an operation is legal if its act is legal at its place
  legal_by : (t : Option ObjectState) (a : Act) → IsTrue (fits_in o (option_map o.shape t) a)
      → gives_in o t a ≡ o.recorded a → (s : ObjectState) × (t ≡ Some s) × IsLegal o s a
  legal_by None a f g = absurd (cc)
  legal_by (Some s) a f g = (s, refl, (f, g))

  -- If an operation is legal, an object is at its place, and its act is legal there.
  pub legal_there : (ss : List ObjectState) (x : Op) → IsLegal (many o) ss x → (s : ObjectState)
      × (slice_get ss x.object ≡ Some s) × IsLegal o s x.act
  legal_there ss x h = legal_by (slice_get ss x.object) x.act
      (subst (λ (t : Option Kind). IsTrue (fits_in o t x.act))
      (slice_get-map o.shape ss x.object) h.0) h.1

  -- An operation is legal if its act is legal at its place.
  pub legal_from : (ss : List ObjectState) (x : Op) (s : ObjectState)
      → slice_get ss x.object ≡ Some s → IsLegal o s x.act → IsLegal (many o) ss x
  legal_from ss x s e h = (
    subst (λ (t : Option Kind). IsTrue (fits_in o t x.act))
        (sym (slice_get-map o.shape ss x.object
        ∙ ap (λ (t : Option ObjectState). option_map o.shape t) e)) h.0,
    ap (λ (t : Option ObjectState). gives_in o t x.act) e ∙ h.1,
  )

  -- the state that it leaves
  pub next_is : (ss : List ObjectState) (x : Op) (s : ObjectState) → slice_get ss x.object ≡ Some s
      → (many o).next ss x ≡ set ss x.object (o.next s x.act)
  next_is ss x s e = ap (λ (t : Option ObjectState).
      put ss x.object (option_map (λ r. o.next r x.act) t)) e

  -- After an operation, its object is in the state after its act.
  pub next_there : (ss : List ObjectState) (x : Op) (s : ObjectState)
      → slice_get ss x.object ≡ Some s
      → slice_get ((many o).next ss x) x.object ≡ Some (o.next s x.act)
  next_there ss x s e = ap (λ (ts : List ObjectState). slice_get ts x.object) (next_is ss x s e)
      ∙ get_set ss x.object s (o.next s x.act) e

  -- A legal operation keeps the shapes of all objects.
  pub next_shapes : (ss : List ObjectState) (x : Op) → IsLegal (many o) ss x
      → map o.shape ((many o).next ss x) ≡ map o.shape ss
  next_shapes ss x h =
      let t = legal_there ss x h in
      ap (λ (ts : List ObjectState). map o.shape ts) (next_is ss x t.0 t.1)
      ∙ map_set o.shape ss x.object t.0 (o.next t.0 x.act) t.1 (laws.next_shape t.0 x.act t.2)

  -- The shapes of the objects at the start are the kinds that they were made of.
  pub start_shapes : (kinds : List Kind) → map o.shape (map o.start kinds) ≡ kinds
  start_shapes [] = refl
  start_shapes (q ∷ kinds) = ap (λ (r : Kind). r ∷ map o.shape (map o.start kinds))
      (laws.start_shape q) ∙ ap (λ (l : List Kind). q ∷ l) (start_shapes kinds)

  -- acts at one place are allowed and lead on as they do by themselves
  pub allowed_at : (p : ℕ) (l : List Act) (ss : List ObjectState) (s : ObjectState)
      → slice_get ss p ≡ Some s → AllowedFrom o s l → AllowedFrom (many o) ss (map (act_at p) l)
  allowed_at p [] ss s e h = tt
  allowed_at p (a ∷ l) ss s e h = (
    legal_from ss (act_at p a) s e h.0,
    allowed_at p l ((many o).next ss (act_at p a)) (o.next s a)
        (next_there ss (act_at p a) s e) h.1,
  )

  -- Acts on one object that are allowed in a run are allowed for the object alone.
  pub allowed_alone : (p : ℕ) (l : List Act) (ss : List ObjectState) (s : ObjectState)
      → slice_get ss p ≡ Some s → AllowedFrom (many o) ss (map (act_at p) l) → AllowedFrom o s l
  allowed_alone p [] ss s e h = tt
  allowed_alone p (a ∷ l) ss s e h =
      let t = legal_there ss (act_at p a) h.0 in (
        subst (λ (r : ObjectState). IsLegal o r a) (same_some t.0 s (sym t.1 ∙ e)) t.2,
        allowed_alone p l ((many o).next ss (act_at p a)) (o.next s a)
            (next_there ss (act_at p a) s e) h.1,
      )

  -- Acts on one object lead it to the state to which they lead it alone.
  pub state_at : (p : ℕ) (l : List Act) (ss : List ObjectState) (s : ObjectState)
      → slice_get ss p ≡ Some s → slice_get (state_from (many o) ss (map (act_at p) l)) p
      ≡ Some (state_from o s l)
  state_at p [] ss s e = e
  state_at p (a ∷ l) ss s e = state_at p l ((many o).next ss (act_at p a)) (o.next s a)
      (next_there ss (act_at p a) s e)

  -- An operation keeps the object at another place.
  pub next_other : (ss : List ObjectState) (x : Op) (s : ObjectState) (p : ℕ)
      → slice_get ss x.object ≡ Some s → (p ≡ x.object → ⊥)
      → slice_get ((many o).next ss x) p ≡ slice_get ss p
  next_other ss x s p e other = ap (λ (ts : List ObjectState). slice_get ts p) (next_is ss x s e)
      ∙ get_other ss x.object p (o.next s x.act) other

  -- a list that is allowed has acts at a place that are allowed there, and lead there to what
  -- is there after it
  pub record IsSeenAt (ss : List ObjectState) (p : ℕ) (s : ObjectState) (l : List Op)
      (m : List Act) : Type 0 where
    pub allowed : AllowedFrom o s m
    pub leads : slice_get (state_from (many o) ss l) p ≡ Some (state_from o s m)
    pub few : length m ≤ length l
    pub ranged : AllRanged (many o) l → AllRanged o m

  seen_by : (p : ℕ) (l : List Op) (ss : List ObjectState) (x : Op) (s : ObjectState)
      → (p ≡ x.object) ⊎ (p ≡ x.object → ⊥) → slice_get ss p ≡ Some s → IsLegal (many o) ss x
      → ((t : ObjectState) → slice_get ((many o).next ss x) p ≡ Some t → (m : List Act)
      × IsSeenAt ((many o).next ss x) p t l m) → (m : List Act) × IsSeenAt ss p s (x ∷ l) m
  seen_by p l ss x s (inl e) there h rest =
      let at : slice_get ss x.object ≡ Some s =
      subst (λ (q : ℕ). slice_get ss q ≡ Some s) e there in
      let t = legal_there ss x h in
      let legal = subst (λ (r : ObjectState). IsLegal o r x.act)
      (same_some t.0 s (sym t.1 ∙ at)) t.2 in
      let m = rest (o.next s x.act)
      (subst (λ (q : ℕ). slice_get ((many o).next ss x) q ≡ Some (o.next s x.act)) (sym e)
      (next_there ss x s at)) in
      let f = m.1.few in (
        x.act ∷ m.0,
        record {
          allowed = (legal, m.1.allowed);
          leads = m.1.leads;
          few = omega arith;
          ranged = λ r. (r.0, m.1.ranged r.1);
        },
      )
  seen_by p l ss x s (inr other) there h rest =
      let t = legal_there ss x h in
      let m = rest s (next_other ss x t.0 p t.1 other ∙ there) in
      let f = m.1.few in (
        m.0,
        record {
          allowed = m.1.allowed;
          leads = m.1.leads;
          few = omega arith;
          ranged = λ r. m.1.ranged r.1;
        },
      )

  -- A list that is allowed for all objects is allowed at each place, by the acts there.
  pub seen_at : (p : ℕ) (l : List Op) (ss : List ObjectState) (s : ObjectState)
      → slice_get ss p ≡ Some s → AllowedFrom (many o) ss l → (m : List Act) × IsSeenAt ss p s l m
  seen_at p [] ss s e h = (
    [],
    record {
      allowed = tt;
      leads = e;
      few = omega arith;
      ranged =
          λ r. tt;
    },
  )
  seen_at p (x ∷ l) ss s e h = seen_by p l ss x s (same_place p x.object) e h.0
      (λ t f. seen_at p l ((many o).next ss x) t f h.1)

  -- The object at a place at the start has the kind of the object there later.
  pub start_at : (kinds : List Kind) (p : ℕ) (q : Kind) → slice_get kinds p ≡ Some q
      → slice_get (map o.start kinds) p ≡ Some (o.start q)
  start_at kinds p q e = slice_get-map o.start kinds p
      ∙ ap (λ (t : Option Kind). option_map o.start t) e

  -- The shape at a place is the shape of the object there.
  pub shape_at : (ss : List ObjectState) (p : ℕ) (s : ObjectState) → slice_get ss p ≡ Some s
      → slice_get (map o.shape ss) p ≡ Some (o.shape s)
  shape_at ss p s e = slice_get-map o.shape ss p
      ∙ ap (λ (t : Option ObjectState). option_map o.shape t) e

  -- If the objects are reached, the object at each place is.
  pub reached_at : (ss : List ObjectState) (p : ℕ) (s : ObjectState) → slice_get ss p ≡ Some s
      → IsReached (many o) ss → IsReached o s
  reached_at ss p s e h =
      let shapes = map o.shape ss in
      let q = o.shape s in
      let m = seen_at p h.ops (map o.start shapes) (o.start q)
      (start_at shapes p q (shape_at ss p s e)) h.log.allowed in
      let few = m.1.few in
      let all = h.few in
      record {
        ops = m.0;
        log = record {
          allowed = m.1.allowed;
          is = same_some s (state_from o (o.start q) m.0)
              (sym e ∙ ap (λ (ts : List ObjectState). slice_get ts p) h.log.is ∙ m.1.leads);
          ranged = m.1.ranged h.log.ranged;
        };
        few = omega arith;
      }

  -- If an operation was applied, its act was applied at its place.
  pub was_applied_at : (ss : List ObjectState) (x : Op) (u : Undo) (s : ObjectState)
      → slice_get ss x.object ≡ Some s → WasApplied (many o) x u ss → WasApplied o x.act u s
  was_applied_at ss x u s e h =
      let t = legal_there h.0 x h.3 in (
        t.0,
        reached_at h.0 x.object t.0 t.1 h.1,
        h.2,
        t.2,
        same_some s (o.next t.0 x.act)
            (sym e ∙ ap (λ (ts : List ObjectState). slice_get ts x.object) h.4
            ∙ next_there h.0 x t.0 t.1),
        h.5 ∙ ap (λ (r : Option ObjectState). kept_in o r x.act) t.1,
      )

  -- operations of different places commute, and so they swap
  others_commute : (a b : Op) → (a.object ≡ b.object → ⊥) → Commutes (many o) a b
  others_commute a b apart shape before first h k =
      let ss = state_after (many o) shape before in
      let t = legal_there ss a h in
      let turned : b.object ≡ a.object → ⊥ = λ e. apart (sym e) in
      let r = legal_there ((many o).next ss a) b k in
      let there : slice_get ss b.object ≡ Some r.0 = sym (next_other ss a t.0 b.object t.1 turned)
      ∙ r.1 in
      let here : slice_get ((many o).next ss b) a.object ≡ Some t.0 =
      next_other ss b r.0 a.object there apart ∙ t.1 in (
        legal_from ss b r.0 there r.2,
        legal_from ((many o).next ss b) a t.0 here t.2,
        next_is ((many o).next ss b) a t.0 here
            ∙ ap (λ (ts : List ObjectState). set ts a.object (o.next t.0 a.act))
            (next_is ss b r.0 there)
            ∙ sym (set_comm ss a.object b.object (o.next t.0 a.act) (o.next r.0 b.act) apart)
            ∙ ap (λ (ts : List ObjectState). set ts b.object (o.next r.0 b.act))
            (sym (next_is ss a t.0 t.1))
            ∙ sym (next_is ((many o).next ss a) b r.0 r.1),
      )

  -- Operations on different objects of a run swap.
  pub others_swap : (a b : Op) → (a.object ≡ b.object → ⊥) → Swaps (many o) a b
  others_swap a b apart = commuting_swap (many o) a b (others_commute a b apart)

  -- If t allows all that s allows, the objects with t at a place allow all that they allow with s
  -- there.
  carried_by : (p : ℕ) (l : List Op) (ss : List ObjectState) (x : Op) (s t : ObjectState)
      → (p ≡ x.object) ⊎ (p ≡ x.object → ⊥) → slice_get ss p ≡ Some s → o.shape s ≡ o.shape t
      → AllowsAllOf o s t
      → ((ts : List ObjectState) (u v : ObjectState) → slice_get ts p ≡ Some u
      → o.shape u ≡ o.shape v → AllowsAllOf o u v → AllowedFrom (many o) ts l
      → AllowedFrom (many o) (set ts p v) l)
      → AllowedFrom (many o) ss (x ∷ l) → AllowedFrom (many o) (set ss p t) (x ∷ l)
  carried_by p l ss x s t (inl e) there same behind rest h =
      let P : ℕ → Type 0 = λ q. AllowedFrom (many o) (set ss q t) (x ∷ l) in
      let Q : List ObjectState → Type 0 = λ ts. AllowedFrom (many o) ts l in
      let at : slice_get ss x.object ≡ Some s =
      subst (λ (q : ℕ). slice_get ss q ≡ Some s) e there in
      let r = legal_there ss x h.0 in
      let legal = subst (λ (v : ObjectState). IsLegal o v x.act)
      (same_some r.0 s (sym r.1 ∙ at)) r.2 in
      let legal_t = (behind (x.act ∷ []) (legal, tt)).0 in
      let at_t = get_set ss x.object s t at in
      let after = rest ((many o).next ss x) (o.next s x.act) (o.next t x.act)
      (subst (λ (q : ℕ). slice_get ((many o).next ss x) q ≡ Some (o.next s x.act)) (sym e)
      (next_there ss x s at))
      (laws.next_shape s x.act legal ∙ same ∙ sym (laws.next_shape t x.act legal_t))
      (λ m f. (behind (x.act ∷ m) (legal, f)).1)
      h.1 in
      let left : set ((many o).next ss x) p (o.next t x.act) ≡ (many o).next (set ss x.object t) x =
      ap (λ (q : ℕ). set ((many o).next ss x) q (o.next t x.act)) e
      ∙ ap (λ (ts : List ObjectState). set ts x.object (o.next t x.act)) (next_is ss x s at)
      ∙ set-set ss x.object (o.next s x.act) (o.next t x.act)
      ∙ sym (set-set ss x.object t (o.next t x.act))
      ∙ sym (next_is (set ss x.object t) x t at_t) in
      subst P (sym e) (legal_from (set ss x.object t) x t at_t legal_t, subst Q left after)
  carried_by p l ss x s t (inr other) there same behind rest h =
      let Q : List ObjectState → Type 0 = λ ts. AllowedFrom (many o) ts l in
      let r = legal_there ss x h.0 in
      let at : slice_get (set ss p t) x.object ≡ Some r.0 =
      get_other ss p x.object t (λ e. other (sym e)) ∙ r.1 in
      let after = rest ((many o).next ss x) s t
      (next_other ss x r.0 p r.1 other ∙ there) same behind h.1 in
      let left : set ((many o).next ss x) p t ≡ (many o).next (set ss p t) x =
      ap (λ (ts : List ObjectState). set ts p t) (next_is ss x r.0 r.1)
      ∙ sym (set_comm ss p x.object t (o.next r.0 x.act) other)
      ∙ sym (next_is (set ss p t) x r.0 at) in
      (legal_from (set ss p t) x r.0 at r.2, subst Q left after)

  carried : (p : ℕ) (l : List Op) (ss : List ObjectState) (s t : ObjectState)
      → slice_get ss p ≡ Some s → o.shape s ≡ o.shape t → AllowsAllOf o s t
      → AllowedFrom (many o) ss l → AllowedFrom (many o) (set ss p t) l
  carried p [] ss s t e same behind h = tt
  carried p (x ∷ l) ss s t e same behind h =
      carried_by p l ss x s t (same_place p x.object) e same behind
      (λ ts u v f g k. carried p l ts u v f g k) h

  -- acts of one place may be turned if they may be turned by themselves
  turned_at : (p : ℕ) (a b : Act) (ss : List ObjectState) (s : ObjectState)
      → slice_get ss p ≡ Some s → MayTurn o s a b → MayTurn (many o) ss (act_at p a) (act_at p b)
  turned_at p a b ss s e turned l h =
      let first = allowed_alone p (a ∷ b ∷ []) ss s e (h.0, (h.1.0, tt)) in
      let second = turned [] first in
      let both = allowed_at p (b ∷ a ∷ []) ss s e second in
      let u = o.next (o.next s a) b in
      let v = o.next (o.next s b) a in
      let Q : List ObjectState → Type 0 = λ ts. AllowedFrom (many o) ts l in
      let there = state_at p (a ∷ b ∷ []) ss s e in
      let one_set : (c d : Act) → state_from (many o) ss (act_at p c ∷ act_at p d ∷ [])
      ≡ set ss p (o.next (o.next s c) d) = λ c d.
      next_is ((many o).next ss (act_at p c)) (act_at p d) (o.next s c)
      (next_there ss (act_at p c) s e)
      ∙ ap (λ (ts : List ObjectState). set ts p (o.next (o.next s c) d))
      (next_is ss (act_at p c) s e)
      ∙ set-set ss p (o.next s c) (o.next (o.next s c) d) in
      let same : o.shape u ≡ o.shape v =
      laws.next_shape (o.next s a) b first.1.0 ∙ laws.next_shape s a first.0
      ∙ sym (laws.next_shape s b second.0) ∙ sym (laws.next_shape (o.next s b) a second.1.0) in
      let after = carried p l (state_from (many o) ss (act_at p a ∷ act_at p b ∷ [])) u v there same
      (λ m f. (turned m (first.0, (first.1.0, f))).1.1) h.1.1 in
      let left : set (state_from (many o) ss (act_at p a ∷ act_at p b ∷ [])) p v
      ≡ state_from (many o) ss (act_at p b ∷ act_at p a ∷ []) =
      ap (λ (ts : List ObjectState). set ts p v) (one_set a b) ∙ set-set ss p u v
      ∙ sym (one_set b a) in
      (both.0, (both.1.0, subst Q left after))

  -- Acts that swap alone swap on one object of a run.
  pub swaps_at : (p : ℕ) (a b : Act) → Swaps o a b → Swaps (many o) (act_at p a) (act_at p b)
  swaps_at p a b swaps =
      swaps_where_turned (many o) (act_at p a) (act_at p b)
      (λ kinds before first l h.
      let ss = state_after (many o) kinds before in
      let t = legal_there ss (act_at p a) h.0 in
      let q = o.shape t.0 in
      let shapes : map o.shape ss ≡ kinds =
      keeps_shape (many o) next_shapes (map o.start kinds) before first ∙ start_shapes kinds in
      let kind : slice_get kinds p ≡ Some q = ap (λ (l : List Kind). slice_get l p) (sym shapes)
      ∙ shape_at ss p t.0 t.1 in
      let m = seen_at p before (map o.start kinds) (o.start q) (start_at kinds p q kind) first in
      turned_at p a b ss (state_after o q m.0) m.1.leads
      (turned_there o a b swaps q m.0 m.1.allowed) l h)

  -- so a pair swaps that swaps by itself if it is on one object
  pub swap_by : (a b : Op) → (a.object ≡ b.object → Swaps o a.act b.act) → Swaps (many o) a b
  swap_by a b swaps = elim (same_place a.object b.object) [
    | inl e ↦ subst (λ (p : ℕ). Swaps (many o) a (act_at p b.act)) e
        (swaps_at a.object a.act b.act (swaps e))
    | inr apart ↦ others_swap a b apart
  ]

  -- Acts that swap on one object of a run swap alone.
  pub swaps_alone : (p : ℕ) (a b : Act) → Swaps (many o) (act_at p a) (act_at p b) → Swaps o a b
  swaps_alone p a b swaps =
      swaps_where_turned o a b
      (λ q before first l h.
      let kinds = replicate (suc p) q in
      let start = start_at kinds p q (get_replicate p q) in
      let there = state_at p before (map o.start kinds) (o.start q) start in
      let ss = state_after (many o) kinds (map (act_at p) before) in
      allowed_alone p (b ∷ a ∷ l) ss (state_after o q before) there
      (turned_there (many o) (act_at p a) (act_at p b) swaps kinds (map (act_at p) before)
      (allowed_at p before (map o.start kinds) (o.start q) start first) (map (act_at p) l)
      (allowed_at p (a ∷ b ∷ l) ss (state_after o q before) there h)))
