-- Proof machinery: what is kept of a pair is as the object alone keeps it.
use Rattle.std.proofs.Common.{◌≡◌, ℕ, Bool, true, false, IsTrue, List, [], ◌∷◌, Option, Some, refl, sym, ◌∙◌}
use Rattle.std.proofs.Common.{ap, subst}
use Rattle.std.proofs.Common.{inl, inr}
use Rattle.std.proofs.lemmas.Bool.Decides.{eqb_tells}
use Rattle.std.specs.List.{slice_get}
use Rattle.pp_core.specs.declared.call.Kind.{Kind}
use Rattle.pp_core.specs.declared.call.Kind.TheVariants as kinds
use Rattle.pp_kind.specs.Object.{IsLegal, MayKeep, KeptAs, KeptAsAt, Swaps}
use Rattle.pp_kind_memory.specs.declared.op.MemOp.{MemOp}
use Rattle.pp_kind_memory.specs.declared.undo.Undo.{Undo}
use Rattle.pp_objects.specs.declared.act.Act.{Act}
use Rattle.pp_objects.specs.declared.act.Act.TheVariants.{Memory, KeySet, KeyMap, Counter, Queue}
use Rattle.pp_objects.specs.declared.act.Act.TheVariants.{Stack, PriorityQueue}
use Rattle.pp_objects.specs.declared.act.Op.{Op}
use Rattle.pp_objects.specs.declared.states.ObjectState.{ObjectState}
use Rattle.pp_objects.specs.One.{one}
use Rattle.pp_objects.specs.Objects.{objects, kept_in, act_at}
use Rattle.pp_objects.specs.laws.Kinds.{Ops, States, act_of, from_state, its_act, its_state, kept_is}
use Rattle.pp_objects.specs.laws.Kinds.{next_is, object_of, one_undo, only_kind, state_of}
use Rattle.pp_objects.specs.laws.Kinds.{undo_as, undo_from}
use Rattle.pp_objects.specs.laws.Acts.{legal_out, swaps_out}
use Rattle.pp_objects.specs.laws.One.{one_lawful}
use Rattle.pp_objects.specs.laws.Objects.{objects_placed}
use Rattle.pp_objects.specs.laws.Places.{allowed_alone, legal_there, next_there, swaps_alone}

module _ (k : Kind) where
  one_kept : (s t : States k) (a b : Ops k)
      → (object_of k).upkeep.kept s a ≡ (object_of k).upkeep.kept t b
      → one.upkeep.kept (state_of k s) (act_of k a) ≡ one.upkeep.kept (state_of k t) (act_of k b)
  one_kept s t a b e = kept_is k s a ∙ ap (undo_as k) e ∙ sym (kept_is k t b)

  seen_behind : (s : States k) (a b : Ops k)
      → one.upkeep.kept (one.next (state_of k s) (act_of k b)) (act_of k a)
      ≡ one.upkeep.kept (state_of k ((object_of k).next s b)) (act_of k a)
  seen_behind s a b = ap (λ (t : ObjectState). one.upkeep.kept t (act_of k a)) (next_is k s b)

  kept_at : (in_turn : Bool) (s : States k) (a b : Ops k) → KeptAsAt (object_of k) in_turn s a b
      → KeptAsAt one in_turn (state_of k s) (act_of k a) (act_of k b)
  kept_at true s a b e = (
    one_kept s s b a e.0,
    seen_behind s a b ∙ one_kept ((object_of k).next s b) ((object_of k).next s a) a b e.1
        ∙ sym (seen_behind s b a),
  )
  kept_at false s a b e = (
    one_kept s ((object_of k).next s a) b b e.0 ∙ sym (seen_behind s b a),
    seen_behind s a b ∙ one_kept ((object_of k).next s b) s a a e.1,
  )

  kept_here : (in_turn : Bool) (s : States k) (a b : Ops k) → KeptAs (object_of k) in_turn a b
      → one.upkeep.IsState (state_of k s) → IsLegal one (state_of k s) (act_of k a)
      → IsLegal one (state_of k s) (act_of k b)
      → IsLegal one (one.next (state_of k s) (act_of k a)) (act_of k b)
      → KeptAsAt one in_turn (state_of k s) (act_of k a) (act_of k b)
  kept_here in_turn s a b kept is h g l =
      let follows : IsLegal one (state_of k ((object_of k).next s a)) (act_of k b) =
      subst (λ (t : ObjectState). IsLegal one t (act_of k b)) (next_is k s a) l in
      kept_at in_turn s a b (kept s (from_state k s is) (legal_out k s a h) (legal_out k s b g)
      (legal_out k ((object_of k).next s a) b follows))

  kept_in_kind : (in_turn : Bool) (a b : Ops k) → KeptAs (object_of k) in_turn a b
      → KeptAs one in_turn (act_of k a) (act_of k b)
  kept_in_kind in_turn a b kept s is h g l =
      let u = its_state k s (only_kind k (one.shape s) a h.0) in
      let P : ObjectState → Type 0 = λ t. one.upkeep.IsState t → IsLegal one t (act_of k a)
      → IsLegal one t (act_of k b) → IsLegal one (one.next t (act_of k a)) (act_of k b)
      → KeptAsAt one in_turn t (act_of k a) (act_of k b) in
      let there : P (state_of k u.0) = kept_here in_turn u.0 a b kept in
      subst P (sym u.1) there is h g l

  -- A pair of the kind.
  pair_kept : (in_turn : Bool) (x y : Act) (a b : Ops k) → x ≡ act_of k a → y ≡ act_of k b
      → (Swaps (object_of k) a b → KeptAs (object_of k) in_turn a b)
      → Swaps one x y → KeptAs one in_turn x y
  pair_kept in_turn x y a b e f kept =
      let P : Act → Act → Type 0 = λ v w. Swaps one v w → KeptAs one in_turn v w in
      let there : P (act_of k a) (act_of k b) =
      λ swaps. kept_in_kind in_turn a b (kept (swaps_out k a b swaps)) in
      subst (λ (v : Act). P v y) (sym e) (subst (λ (w : Act). P (act_of k a) w) (sym f) there)

  -- An act that is legal together with an act of a kind is of that kind.
  beside : (x y : Act) (a : Ops k) → x ≡ act_of k a → (s : ObjectState) → IsLegal one s x
      → IsLegal one s y → (b : Ops k) × (y ≡ act_of k b)
  beside x y a e s h g =
      let own = subst (λ (v : Act). IsLegal one s v) e h in
      let kind = only_kind k (one.shape s) a own.0 in
      its_act k y (subst (λ (q : Kind). IsTrue (one.fits q y)) kind g.0)

  -- The undo value of an act of the kind is the one of its kind.
  keeps_out : (b : Ops k) (u : Undo) → MayKeep one (act_of k b) u
      → MayKeep (object_of k) b (undo_from k u)
  keeps_out b u keeps =
      let t = its_state k keeps.0 (only_kind k (one.shape keeps.0) b keeps.1.0) in
      let legal = subst (λ (s : ObjectState). IsLegal one s (act_of k b)) t.1 keeps.1 in
      let kept = sym (kept_is k t.0 b)
      ∙ ap (λ (s : ObjectState). one.upkeep.kept s (act_of k b)) (sym t.1) ∙ keeps.2 in (
        t.0,
        legal_out k t.0 b legal,
        sym (one_undo k ((object_of k).upkeep.kept t.0 b))
            ∙ ap (undo_from k) kept,
      )

  -- An act of the kind with any other one, of which this is kept.
  pub told_kept : (in_turn : Bool) (x : Act) (a : Ops k) (u : Undo) → x ≡ act_of k a
      → ((b : Ops k) → MayKeep (object_of k) b (undo_from k u) → Swaps (object_of k) a b
      → KeptAs (object_of k) in_turn a b)
      → (y : Act) → MayKeep one y u → Swaps one x y → KeptAs one in_turn x y
  told_kept in_turn x a u e kept y keeps swaps s is h g l =
      let b = beside x y a e s h g in
      let told = keeps_out b.0 u (subst (λ (v : Act). MayKeep one v u) b.1 keeps) in
      pair_kept in_turn x y a b.0 e b.1 (kept b.0 told) swaps s is h g l

  -- An act that keeps in turn with none of its kind does so with none.
  pub alone_kept : (alone : Bool) (x : Act) (a : Ops k) → x ≡ act_of k a
      → (IsTrue alone → (b : Ops k) → Swaps (object_of k) a b → KeptAs (object_of k) false a b)
      → IsTrue alone → (y : Act) → Swaps one x y → KeptAs one false x y
  alone_kept alone x a e kept t y swaps s is h g l =
      let b = beside x y a e s h g in
      pair_kept false x y a b.0 e b.1 (kept t b.0) swaps s is h g l

-- If the same is kept of an act in each state, it keeps in turn with none.
nothing_kept : (k : Kind) (x : Act) (a : Ops k) → x ≡ act_of k a
    → ((s t : States k) (b : Ops k)
    → (object_of k).upkeep.kept s b ≡ (object_of k).upkeep.kept t b)
    → (y : Act) → Swaps one x y → KeptAs one false x y
nothing_kept k x a e same = alone_kept k true x a e
    (λ t b swaps s is f g l. (same s ((object_of k).next s a) b, same ((object_of k).next s b) s a))
    refl

-- An act on another object than a memory keeps in turn with none, as nothing is kept of it.
pub other_kept : (x : Act) → ((a : MemOp) → x ≡ Memory a → ⊥) → (y : Act) → Swaps one x y
    → KeptAs one false x y
other_kept (Memory a) h = absurd (h a refl)
other_kept (KeySet a) h = nothing_kept kinds.KeySet (KeySet a) a refl (λ s t b. refl)
other_kept (KeyMap a) h = nothing_kept kinds.KeyMap (KeyMap a) a refl (λ s t b. refl)
other_kept (Counter a) h = nothing_kept kinds.Counter (Counter a) a refl (λ s t b. refl)
other_kept (Queue a) h = nothing_kept kinds.Queue (Queue a) a refl (λ s t b. refl)
other_kept (Stack a) h = nothing_kept kinds.Stack (Stack a) a refl (λ s t b. refl)
other_kept (PriorityQueue a) h = nothing_kept kinds.PriorityQueue (PriorityQueue a) a refl
    (λ s t b. refl)

-- Operations of one place.
seen_there : (p : ℕ) (ss : List ObjectState) (a : Act) (s : ObjectState) → slice_get ss p ≡ Some s
    → objects.upkeep.kept ss (act_at p a) ≡ one.upkeep.kept s a
seen_there p ss a s there = ap (λ (t : Option ObjectState). kept_in one t a) there

kept_at_place : (in_turn : Bool) (p : ℕ) (ss : List ObjectState) (a b : Act) (s : ObjectState)
    → slice_get ss p ≡ Some s → KeptAsAt one in_turn s a b
    → KeptAsAt objects in_turn ss (act_at p a) (act_at p b)
kept_at_place true p ss a b s there e =
    let behind_a = next_there one one_lawful ss (act_at p a) s there in
    let behind_b = next_there one one_lawful ss (act_at p b) s there in (
      seen_there p ss b s there ∙ e.0 ∙ sym (seen_there p ss a s there),
      seen_there p (objects.next ss (act_at p b)) a (one.next s b) behind_b ∙ e.1
          ∙ sym (seen_there p (objects.next ss (act_at p a)) b (one.next s a) behind_a),
    )
kept_at_place false p ss a b s there e =
    let behind_a = next_there one one_lawful ss (act_at p a) s there in
    let behind_b = next_there one one_lawful ss (act_at p b) s there in (
      seen_there p ss b s there ∙ e.0
          ∙ sym (seen_there p (objects.next ss (act_at p a)) b (one.next s a) behind_a),
      seen_there p (objects.next ss (act_at p b)) a (one.next s b) behind_b ∙ e.1
          ∙ sym (seen_there p ss a s there),
    )

in_place : (in_turn : Bool) (p : ℕ) (a b : Act) → (Swaps one a b → KeptAs one in_turn a b)
    → Swaps objects (act_at p a) (act_at p b) → KeptAs objects in_turn (act_at p a) (act_at p b)
in_place in_turn p a b kept swaps ss is h g l =
    let s = legal_there one one_lawful ss (act_at p a) h in
    let both = allowed_alone one one_lawful p (a ∷ b ∷ []) ss s.0 s.1 (h, (l, tt)) in
    let other = allowed_alone one one_lawful p (b ∷ []) ss s.0 s.1 (g, tt) in
    kept_at_place in_turn p ss a b s.0 s.1 (kept (swaps_alone one one_lawful p a b swaps) s.0
    (is p s.0 s.1) both.0 other.0 both.1.0)

-- Operations on one object keep what their acts keep.
pub same_place_kept : (in_turn : Bool) (a b : Op) → a.object ≡ b.object
    → (Swaps one a.act b.act → KeptAs one in_turn a.act b.act)
    → Swaps objects a b → KeptAs objects in_turn a b
same_place_kept in_turn a b e kept =
    let P : ℕ → Type 0 = λ p. Swaps objects a (act_at p b.act)
    → KeptAs objects in_turn a (act_at p b.act) in
    let there : P a.object = in_place in_turn a.object a.act b.act kept in
    subst P e there

-- A value that an operation may keep is one that its act may keep.
pub keeps_there : (b : Op) (u : Undo) → MayKeep objects b u → MayKeep one b.act u
keeps_there b u keeps =
    let s = legal_there one one_lawful keeps.0 b keeps.1 in
    let both = allowed_alone one one_lawful b.object (b.act ∷ []) keeps.0 s.0 s.1 (keeps.1, tt) in
    (s.0, both.0, sym (seen_there b.object keeps.0 b.act s.0 s.1) ∙ keeps.2)

-- Operations of different places.
other_place_kept : (a b : Op) → (a.object ≡ b.object → ⊥) → KeptAs objects false a b
other_place_kept a b apart ss is h g l = (
  objects_placed.kept_there ss (objects.next ss a) b
      (objects_placed.next_elsewhere ss a b.object (λ e. apart (sym e))),
  sym (objects_placed.kept_there ss (objects.next ss b) a
      (objects_placed.next_elsewhere ss b a.object apart)),
)

-- With an operation of any place.
pub all_kept_alone : (a b : Op) → (Swaps one a.act b.act → KeptAs one false a.act b.act)
    → Swaps objects a b → KeptAs objects false a b
all_kept_alone a b kept swaps = elim (eqb_tells a.object b.object) [
  | inl e ↦ same_place_kept false a b e.1 kept swaps
  | inr e ↦ other_place_kept a b e.1
]
