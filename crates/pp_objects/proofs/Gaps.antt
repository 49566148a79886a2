-- Proof machinery: the gaps of a kind, as those of acts; and those of an act, as those of operations.
use Rattle.std.proofs.Common.{◌≡◌, Result, Ok, Err, OnOk, refl, sym, ◌∙◌, ap}
use Rattle.std.proofs.Common.{subst, ◌↔◌}
use Rattle.pp_core.specs.declared.answer.OutOfMemory.{OutOfMemory}
use Rattle.pp_core.specs.declared.call.Kind.{Kind}
use Rattle.pp_core.specs.declared.call.Kind.TheVariants as kinds
use Rattle.pp_kind_counter.specs.Gaps as counters
use Rattle.pp_kind_counter.specs.declared.gap.CounterGap.{CounterGap}
use Rattle.pp_kind_map.specs.Gaps as maps
use Rattle.pp_kind_map.specs.declared.gap.MapGap.{MapGap}
use Rattle.pp_kind_memory.specs.Gaps as memories
use Rattle.pp_kind_memory.specs.declared.gap.MemGap.{MemGap}
use Rattle.pp_kind_priority.specs.Gaps as prios
use Rattle.pp_kind_priority.specs.declared.gap.PrioGap.{PrioGap}
use Rattle.pp_kind_queue.specs.Gaps as queues
use Rattle.pp_kind_queue.specs.declared.gap.QueueGap.{QueueGap}
use Rattle.pp_kind_set.specs.Gaps as sets
use Rattle.pp_kind_set.specs.declared.gap.SetGap.{SetGap}
use Rattle.pp_kind_stack.specs.Gaps as stacks
use Rattle.pp_kind_stack.specs.declared.gap.StackGap.{StackGap}
use Rattle.pp_objects.specs.declared.gap.ActGap.TheVariants.{Memory, KeySet, KeyMap, Counter, Queue}
use Rattle.pp_objects.specs.declared.gap.ActGap.TheVariants.{Stack, PriorityQueue}
use Rattle.pp_kind.specs.Gaps.{ClosesTo, Crosses, Leaves, MayClose, Meets, StaysApart}
use Rattle.pp_kind.specs.Object.{IsLegal, IsReached}
use Rattle.pp_kind.specs.declared.gapped.Left.{Left}
use Rattle.pp_kind.specs.declared.gapped.Left.TheVariants as left
use Rattle.pp_kind.specs.declared.gapped.Crossed.{Crossed}
use Rattle.pp_kind.specs.declared.gapped.Crossed.TheVariants as crossed
use Rattle.pp_kind_memory.specs.declared.undo.Undo.{Undo}
use Rattle.pp_objects.specs.declared.act.Act.{Act}
use Rattle.pp_objects.specs.declared.gap.ActGap.{ActGap}
use Rattle.pp_objects.specs.declared.states.ObjectState.{ObjectState}
use Rattle.pp_objects.specs.One.{one}
use Rattle.pp_objects.specs.Gaps.{OneBears, OneDiffer, kind_for}
use Rattle.pp_objects.specs.Wraps.{crossed_as, left_as}
use Rattle.pp_objects.specs.laws.Kinds.{Ops, States, Undos, act_of, from_state, has_kind}
use Rattle.pp_objects.specs.laws.Kinds.{its_state, kept_is}
use Rattle.pp_objects.specs.laws.Kinds.{next_is, object_of, one_state, one_undo, only_kind, state_of}
use Rattle.pp_objects.specs.laws.Kinds.{undo_as, undo_from}
use Rattle.pp_objects.specs.laws.Acts.{legal_in, legal_out}
use Rattle.pp_objects.specs.laws.Reached.{reached_alone}

-- An object that differs by a gap is of the gap's kind.
its_kind : (f : ActGap) (s : ObjectState) → MayClose one OneDiffer f s
    → one.shape s ≡ kind_for f
its_kind f s h =
    let d = h.1.3 in
    ap one.shape d.2 ∙ has_kind (kind_for f) d.0

-- A gap of a kind is one of its own.
pub memory_gap : (f : ActGap) → kinds.Memory ≡ kind_for f → (g : MemGap) × (f ≡ Memory g)
memory_gap (Memory g) e = (g, refl)
memory_gap f e = absurd (cc)

-- A gap of the kind set is a gap of sets.
pub set_gap : (f : ActGap) → kinds.KeySet ≡ kind_for f → (g : SetGap) × (f ≡ KeySet g)
set_gap (KeySet g) e = (g, refl)
set_gap f e = absurd (cc)

-- A gap of the kind map is a gap of maps.
pub map_gap : (f : ActGap) → kinds.KeyMap ≡ kind_for f → (g : MapGap) × (f ≡ KeyMap g)
map_gap (KeyMap g) e = (g, refl)
map_gap f e = absurd (cc)

-- A gap of the kind counter is a gap of counters.
pub counter_gap : (f : ActGap) → kinds.Counter ≡ kind_for f → (g : CounterGap) × (f ≡ Counter g)
counter_gap (Counter g) e = (g, refl)
counter_gap f e = absurd (cc)

-- A gap of the kind queue is a gap of queues.
pub queue_gap : (f : ActGap) → kinds.Queue ≡ kind_for f → (g : QueueGap) × (f ≡ Queue g)
queue_gap (Queue g) e = (g, refl)
queue_gap f e = absurd (cc)

-- A gap of the kind stack is a gap of stacks.
pub stack_gap : (f : ActGap) → kinds.Stack ≡ kind_for f → (g : StackGap) × (f ≡ Stack g)
stack_gap (Stack g) e = (g, refl)
stack_gap f e = absurd (cc)

-- A gap of the kind priority queue is a gap of priority queues.
pub prio_gap : (f : ActGap) → kinds.PriorityQueue ≡ kind_for f → (g : PrioGap) × (f ≡ PriorityQueue g)
prio_gap (PriorityQueue g) e = (g, refl)
prio_gap f e = absurd (cc)

-- Gaps of a kind, as those of acts: what an object bears, and how two differ, is what their kind says.
pub record GapsOf (k : Kind) (G : Type 0) : Type 1 where
  pub wrap : G → ActGap
  pub Bears : G → States k → Type 0
  pub Differ : G → States k → States k → Type 0
  pub bears : (g : G) (s : ObjectState) → OneBears (wrap g) s
      ↔ ((v : States k) → s ≡ state_of k v → Bears g v)
  pub differ : (g : G) (s t : ObjectState) → OneDiffer (wrap g) s t
      ↔ ((v w : States k) × (s ≡ state_of k v) × (t ≡ state_of k w) × Differ g v w)
  pub own : (f : ActGap) → k ≡ kind_for f → (g : G) × (f ≡ wrap g)

module _ (k : Kind) {G : Type 0} (gaps : GapsOf k G) where
  bears_in : (g : G) (s : States k) → gaps.Bears g s → OneBears (gaps.wrap g) (state_of k s)
  bears_in g s h = (gaps.bears g (state_of k s)).1 (λ v e. subst (gaps.Bears g) (one_state k s v e) h)

  bears_out : (g : G) (s : States k) → OneBears (gaps.wrap g) (state_of k s) → gaps.Bears g s
  bears_out g s h = (gaps.bears g (state_of k s)).0 h s refl

  differ_in : (g : G) (s t : States k) → gaps.Differ g s t
      → OneDiffer (gaps.wrap g) (state_of k s) (state_of k t)
  differ_in g s t h = (gaps.differ g (state_of k s) (state_of k t)).1 (s, t, refl, refl, h)

  differ_out : (g : G) (s : States k) (t : ObjectState) → OneDiffer (gaps.wrap g) (state_of k s) t
      → (w : States k) × (t ≡ state_of k w) × gaps.Differ g s w
  differ_out g s t h =
      let d = (gaps.differ g (state_of k s) t).0 h in
      (d.1, d.3, subst (λ (v : States k). gaps.Differ g v d.1) (sym (one_state k s d.0 d.2)) d.4)

  -- If an operation of a kind leaves no gap, neither does its act.
  leaves_same : (a : Ops k) (u : Undo)
      → Leaves (object_of k) gaps.Bears gaps.Differ a (undo_from k u) left.Same
      → (s : States k) → one.upkeep.IsState (state_of k s) → IsLegal one (state_of k s) (act_of k a)
      → one.upkeep.kept (state_of k s) (act_of k a) ≡ u
      → one.next (state_of k s) (act_of k a) ≡ state_of k s
  leaves_same a u h s is legal kept =
      next_is k s a ∙ ap (state_of k) (h s (from_state k s is) (legal_out k s a legal)
      (sym (one_undo k ((object_of k).upkeep.kept s a))
      ∙ ap (undo_from k) (sym (kept_is k s a) ∙ kept)))

  leaves_apart : (g : G) (a : Ops k) (u : Undo)
      → Leaves (object_of k) gaps.Bears gaps.Differ a (undo_from k u) (left.Apart g)
      → (s : States k) → one.upkeep.IsState (state_of k s) → IsLegal one (state_of k s) (act_of k a)
      → one.upkeep.kept (state_of k s) (act_of k a) ≡ u
      → OneBears (gaps.wrap g) (one.next (state_of k s) (act_of k a))
      → OneDiffer (gaps.wrap g) (one.next (state_of k s) (act_of k a)) (state_of k s)
  leaves_apart g a u h s is legal kept bears =
      let P : ObjectState → Type 0 = λ t. OneBears (gaps.wrap g) t in
      let Q : ObjectState → Type 0 = λ t. OneDiffer (gaps.wrap g) t (state_of k s) in
      subst Q (sym (next_is k s a))
      (differ_in g ((object_of k).next s a) s
      (h s (from_state k s is) (legal_out k s a legal)
      (sym (one_undo k ((object_of k).upkeep.kept s a))
      ∙ ap (undo_from k) (sym (kept_is k s a) ∙ kept))
      (bears_out g ((object_of k).next s a) (subst P (next_is k s a) bears))))

  leaves_by : (a : Ops k) (u : Undo) (r : Left G) → Leaves (object_of k) gaps.Bears gaps.Differ a (undo_from k u) r
      → Leaves one OneBears OneDiffer (act_of k a) u (left_as gaps.wrap r)
  leaves_by a u left.Same h = λ s is legal kept.
      let t = its_state k s (only_kind k (one.shape s) a legal.0) in
      let P : ObjectState → Type 0 = λ v. one.upkeep.IsState v → IsLegal one v (act_of k a)
      → one.upkeep.kept v (act_of k a) ≡ u → one.next v (act_of k a) ≡ v in
      subst P (sym t.1) (leaves_same a u h t.0) is legal kept
  leaves_by a u (left.Apart g) h = λ s is legal kept.
      let t = its_state k s (only_kind k (one.shape s) a legal.0) in
      let P : ObjectState → Type 0 = λ v. one.upkeep.IsState v → IsLegal one v (act_of k a)
      → one.upkeep.kept v (act_of k a) ≡ u → OneBears (gaps.wrap g) (one.next v (act_of k a))
      → OneDiffer (gaps.wrap g) (one.next v (act_of k a)) v in
      subst P (sym t.1) (leaves_apart g a u h t.0) is legal kept

  -- If an operation of a kind leaves a gap, its act leaves it among all kinds.
  pub leaves_here : (x : Act) (a : Ops k) (u : Undo) (r : Left G) (q : Left ActGap)
      → x ≡ act_of k a → q ≡ left_as gaps.wrap r
      → Leaves (object_of k) gaps.Bears gaps.Differ a (undo_from k u) r
      → Leaves one OneBears OneDiffer x u q
  leaves_here x a u r q e i h =
      let P : Act → Left ActGap → Type 0 = λ y l. Leaves one OneBears OneDiffer y u l in
      subst (λ (y : Act). P y q) (sym e)
      (subst (λ (l : Left ActGap). P (act_of k a) l) (sym i) (leaves_by a u r h))

  -- If an operation keeps the same undo value in two states of its kind, so does its act.
  kept_there : (s t : States k) (a : Ops k)
      → (object_of k).upkeep.kept t a ≡ (object_of k).upkeep.kept s a
      → one.upkeep.kept (state_of k t) (act_of k a) ≡ one.upkeep.kept (state_of k s) (act_of k a)
  kept_there s t a e = kept_is k t a ∙ ap (undo_as k) e ∙ sym (kept_is k s a)

  stays_apart : (h : G) (a : Ops k) (s t : States k) → StaysApart (object_of k) (gaps.Differ h) a s t
      → StaysApart one (OneDiffer (gaps.wrap h)) (act_of k a) (state_of k s) (state_of k t)
  stays_apart h a s t stays =
      let P : ObjectState → ObjectState → Type 0 = λ v w. OneDiffer (gaps.wrap h) v w in
      let there = differ_in h ((object_of k).next s a) ((object_of k).next t a) stays.differ in
      record {
        legal = legal_in k t a stays.legal;
        differ = subst (λ (v : ObjectState). P v (one.next (state_of k t) (act_of k a)))
            (sym (next_is k s a))
            (subst (λ (w : ObjectState). P (state_of k ((object_of k).next s a)) w)
            (sym (next_is k t a)) there);
        kept = kept_there s t a stays.kept;
      }

  meets : (a : Ops k) (u : Undos k) (s t : States k) → Meets (object_of k) a u s t
      → Meets one (act_of k a) (undo_as k u) (state_of k s) (state_of k t)
  meets a u s t met = record {
    legal = legal_in k t a met.legal;
    same = next_is k t a ∙ ap (state_of k) met.same ∙ sym (next_is k s a);
    kept = kept_is k t a ∙ ap (undo_as k) met.kept;
  }

  -- A fact about each state of the kind that differs from one by a gap is a fact about each object that does.
  from_here : (g : G) (s : States k) (P : ObjectState → Type 0)
      → ((t : States k) → (object_of k).upkeep.IsState t → gaps.Differ g s t → P (state_of k t))
      → (t : ObjectState) → one.upkeep.IsState t → OneDiffer (gaps.wrap g) (state_of k s) t → P t
  from_here g s P h t is d =
      let w = differ_out g s t d in
      subst P (sym w.1)
      (h w.0 (from_state k w.0 (subst (λ (v : ObjectState). one.upkeep.IsState v) w.1 is)) w.2)

  crosses_apart : (g h : G) (a : Ops k) → Crosses (object_of k) gaps.Bears gaps.Differ g a (crossed.Apart h)
      → (s : States k) → one.upkeep.IsState (state_of k s) → IsLegal one (state_of k s) (act_of k a)
      → OneBears (gaps.wrap h) (one.next (state_of k s) (act_of k a))
      → OneBears (gaps.wrap g) (state_of k s) × ((t : ObjectState) → one.upkeep.IsState t
      → OneDiffer (gaps.wrap g) (state_of k s) t
      → StaysApart one (OneDiffer (gaps.wrap h)) (act_of k a) (state_of k s) t)
  crosses_apart g h a crosses s is legal bears =
      let P : ObjectState → Type 0 = λ t. OneBears (gaps.wrap h) t in
      let c = crosses s (from_state k s is) (legal_out k s a legal)
      (bears_out h ((object_of k).next s a) (subst P (next_is k s a) bears)) in (
        bears_in g s c.0,
        from_here g s (StaysApart one (OneDiffer (gaps.wrap h)) (act_of k a) (state_of k s))
            (λ t it d. stays_apart h a s t (c.1 t it d)),
      )

  crosses_same : (g : G) (u : Undos k) (a : Ops k)
      → Crosses (object_of k) gaps.Bears gaps.Differ g a (crossed.Same u)
      → (s : States k) → one.upkeep.IsState (state_of k s) → IsLegal one (state_of k s) (act_of k a)
      → OneBears (gaps.wrap g) (state_of k s) × ((t : ObjectState) → one.upkeep.IsState t
      → OneDiffer (gaps.wrap g) (state_of k s) t
      → Meets one (act_of k a) (undo_as k u) (state_of k s) t)
  crosses_same g u a crosses s is legal =
      let c = crosses s (from_state k s is) (legal_out k s a legal) in (
        bears_in g s c.0,
        from_here g s (Meets one (act_of k a) (undo_as k u) (state_of k s))
            (λ t it d. meets a u s t (c.1 t it d)),
      )

  crosses_by : (g : G) (a : Ops k) (r : Crossed G (Undos k)) → Crosses (object_of k) gaps.Bears gaps.Differ g a r
      → Crosses one OneBears OneDiffer (gaps.wrap g) (act_of k a) (crossed_as gaps.wrap (undo_as k) r)
  crosses_by g a (crossed.Same u) h = λ s is legal.
      let t = its_state k s (only_kind k (one.shape s) a legal.0) in
      let P : ObjectState → Type 0 = λ v. one.upkeep.IsState v → IsLegal one v (act_of k a)
      → OneBears (gaps.wrap g) v × ((w : ObjectState) → one.upkeep.IsState w → OneDiffer (gaps.wrap g) v w
      → Meets one (act_of k a) (undo_as k u) v w) in
      subst P (sym t.1) (crosses_same g u a h t.0) is legal
  crosses_by g a (crossed.Apart q) h = λ s is legal bears.
      let t = its_state k s (only_kind k (one.shape s) a legal.0) in
      let P : ObjectState → Type 0 = λ v. one.upkeep.IsState v → IsLegal one v (act_of k a)
      → OneBears (gaps.wrap q) (one.next v (act_of k a))
      → OneBears (gaps.wrap g) v × ((w : ObjectState) → one.upkeep.IsState w → OneDiffer (gaps.wrap g) v w
      → StaysApart one (OneDiffer (gaps.wrap q)) (act_of k a) v w) in
      subst P (sym t.1) (crosses_apart g q a h t.0) is legal bears
  crosses_by g a crossed.Unknown h = tt

  -- If an operation of a kind crosses a gap, its act crosses it among all kinds.
  pub crosses_here : (f : ActGap) (g : G) (x : Act) (a : Ops k) (r : Crossed G (Undos k))
      (q : Crossed ActGap Undo) → f ≡ gaps.wrap g → x ≡ act_of k a
      → q ≡ crossed_as gaps.wrap (undo_as k) r
      → Crosses (object_of k) gaps.Bears gaps.Differ g a r
      → Crosses one OneBears OneDiffer f x q
  crosses_here f g x a r q e i j h =
      let P : ActGap → Act → Crossed ActGap Undo → Type 0 = λ p y c.
      Crosses one OneBears OneDiffer p y c in
      subst (λ (p : ActGap). P p x q) (sym e)
      (subst (λ (y : Act). P (gaps.wrap g) y q) (sym i)
      (subst (λ (c : Crossed ActGap Undo). P (gaps.wrap g) (act_of k a) c) (sym j)
      (crosses_by g a r h)))

  -- An object bears a gap that its state bears in its kind.
  pub bears_here : (f : ActGap) (g : G) (w : ObjectState) (s : States k) → f ≡ gaps.wrap g
      → w ≡ state_of k s → gaps.Bears g s → OneBears f w
  bears_here f g w s e i h =
      let P : ActGap → ObjectState → Type 0 = λ p v. OneBears p v in
      subst (λ (p : ActGap). P p w) (sym e)
      (subst (λ (v : ObjectState). P (gaps.wrap g) v) (sym i) (bears_in g s h))

  may_close_by : (g : G) (s : States k) → MayClose one OneDiffer (gaps.wrap g) (state_of k s)
      → MayClose (object_of k) gaps.Differ g s
  may_close_by g s h =
      let w = differ_out g s h.1.0 h.1.3 in (
        from_state k s h.0,
        (
          w.0,
          from_state k w.0 (subst (λ (v : ObjectState). one.upkeep.IsState v) w.1 h.1.1),
          reached_alone k w.0 (subst (λ (v : ObjectState). IsReached one v) w.1 h.1.2),
          w.2,
        ),
      )

  -- A gap that may be closed among all kinds may be closed in its kind.
  pub may_close_here : (f : ActGap) (g : G) (w : ObjectState) (s : States k) → f ≡ gaps.wrap g
      → w ≡ state_of k s → MayClose one OneDiffer f w → MayClose (object_of k) gaps.Differ g s
  may_close_here f g w s e i h =
      let P : ActGap → ObjectState → Type 0 = λ p v. MayClose one OneDiffer p v in
      may_close_by g s (subst (λ (v : ObjectState). P (gaps.wrap g) v) i
      (subst (λ (p : ActGap). P p w) e h))

  closes_by : (g : G) (s new : States k) → ClosesTo (object_of k) gaps.Differ g s new
      → ClosesTo one OneDiffer (gaps.wrap g) (state_of k s) (state_of k new)
  closes_by g s new h = from_here g s (λ (t : ObjectState). state_of k new ≡ t)
      (λ t is d. ap (state_of k) (h t is d))

  closes_there : (f : ActGap) (g : G) (w v : ObjectState) (s new : States k) → f ≡ gaps.wrap g
      → w ≡ state_of k s → v ≡ state_of k new → ClosesTo (object_of k) gaps.Differ g s new
      → ClosesTo one OneDiffer f w v
  closes_there f g w v s new e i j h =
      let P : ActGap → ObjectState → ObjectState → Type 0 = λ p a b. ClosesTo one OneDiffer p a b in
      subst (λ (p : ActGap). P p w v) (sym e)
      (subst (λ (a : ObjectState). P (gaps.wrap g) a v) (sym i)
      (subst (λ (b : ObjectState). P (gaps.wrap g) (state_of k s) b) (sym j) (closes_by g s new h)))

  closes_as : (f : ActGap) (g : G) (w v : ObjectState) (s new : States k)
      (r : Result (Unit {0}) OutOfMemory) → f ≡ gaps.wrap g → w ≡ state_of k s
      → v ≡ state_of k new → OnOk r (ClosesTo (object_of k) gaps.Differ g s new)
      → OnOk r (ClosesTo one OneDiffer f w v)
  closes_as f g w v s new (Ok done) e i j h = closes_there f g w v s new e i j h
  closes_as f g w v s new (Err refused) e i j h = tt

  -- If a kind closes a gap of its own, the gap is closed among all kinds.
  pub closes_here : (f : ActGap) (g : G) (w v : ObjectState) (s new : States k)
      (q r : Result (Unit {0}) OutOfMemory) → f ≡ gaps.wrap g → w ≡ state_of k s
      → v ≡ state_of k new → q ≡ r → OnOk r (ClosesTo (object_of k) gaps.Differ g s new)
      → OnOk q (ClosesTo one OneDiffer f w v)
  closes_here f g w v s new q r e i j same h =
      subst (λ (p : Result (Unit {0}) OutOfMemory). OnOk p (ClosesTo one OneDiffer f w v))
      (sym same) (closes_as f g w v s new r e i j h)

  -- An object of the kind differs by no gap of another kind.
  pub never_other : (f : ActGap) (w : ObjectState) (s : States k) → w ≡ state_of k s
      → MayClose one OneDiffer f w → ((g : G) → f ≡ gaps.wrap g → ⊥) → ⊥
  never_other f w s e h never =
      let g = gaps.own f (sym (has_kind k s) ∙ sym (ap one.shape e) ∙ its_kind f w h) in
      never g.0 g.1

-- The gaps of each kind are so.
abbrev pub memory_gaps : GapsOf kinds.Memory MemGap
memory_gaps = record {
  wrap = Memory;
  Bears = memories.Bears;
  Differ = memories.Differ;
  bears = λ g s. ((λ h. h), (λ h. h));
  differ = λ g s t. ((λ h. h), (λ h. h));
  own = memory_gap;
}

-- The gaps of sets are gaps of acts.
abbrev pub set_gaps : GapsOf kinds.KeySet SetGap
set_gaps = record {
  wrap = KeySet;
  Bears = sets.Bears;
  Differ = sets.Differ;
  bears = λ g s. ((λ h. h), (λ h. h));
  differ = λ g s t. ((λ h. h), (λ h. h));
  own = set_gap;
}

-- The gaps of maps are gaps of acts.
abbrev pub map_gaps : GapsOf kinds.KeyMap MapGap
map_gaps = record {
  wrap = KeyMap;
  Bears = maps.Bears;
  Differ = maps.Differ;
  bears = λ g s. ((λ h. h), (λ h. h));
  differ = λ g s t. ((λ h. h), (λ h. h));
  own = map_gap;
}

-- The gaps of counters are gaps of acts.
abbrev pub counter_gaps : GapsOf kinds.Counter CounterGap
counter_gaps = record {
  wrap = Counter;
  Bears = counters.Bears;
  Differ = counters.Differ;
  bears = λ g s. ((λ h. h), (λ h. h));
  differ = λ g s t. ((λ h. h), (λ h. h));
  own = counter_gap;
}

-- The gaps of queues are gaps of acts.
abbrev pub queue_gaps : GapsOf kinds.Queue QueueGap
queue_gaps = record {
  wrap = Queue;
  Bears = queues.Bears;
  Differ = queues.Differ;
  bears = λ g s. ((λ h. h), (λ h. h));
  differ = λ g s t. ((λ h. h), (λ h. h));
  own = queue_gap;
}

-- The gaps of stacks are gaps of acts.
abbrev pub stack_gaps : GapsOf kinds.Stack StackGap
stack_gaps = record {
  wrap = Stack;
  Bears = stacks.Bears;
  Differ = stacks.Differ;
  bears = λ g s. ((λ h. h), (λ h. h));
  differ = λ g s t. ((λ h. h), (λ h. h));
  own = stack_gap;
}

-- The gaps of priority queues are gaps of acts.
abbrev pub prio_gaps : GapsOf kinds.PriorityQueue PrioGap
prio_gaps = record {
  wrap = PriorityQueue;
  Bears = prios.Bears;
  Differ = prios.Differ;
  bears = λ g s. ((λ h. h), (λ h. h));
  differ = λ g s t. ((λ h. h), (λ h. h));
  own = prio_gap;
}
