-- Proof machinery: the gap of one object, as a gap of the objects of a run.
use Rattle.std.proofs.Common.{◌≡◌, ℕ, List, Some, Option, set, sym, ◌∙◌, ap, subst}
use Rattle.std.proofs.Common.{Result, Ok, Err, OnOk}
use Rattle.std.proofs.lemmas.List.{set-set}
use Rattle.std.specs.List.{slice_get}
use Rattle.pp_core.specs.declared.answer.OutOfMemory.{OutOfMemory}
use Rattle.pp_kind.specs.Gaps.{ClosesTo, Crosses, Leaves, MayClose, Meets, StaysApart}
use Rattle.pp_kind.specs.Object.{IsLegal}
use Rattle.pp_kind.specs.declared.gapped.Left.{Left}
use Rattle.pp_kind.specs.declared.gapped.Left.TheVariants as left
use Rattle.pp_kind.specs.declared.gapped.Crossed.{Crossed}
use Rattle.pp_kind.specs.declared.gapped.Crossed.TheVariants as crossed
use Rattle.pp_kind_memory.specs.declared.undo.Undo.{Undo}
use Rattle.pp_objects.specs.declared.act.Op.{Op}
use Rattle.pp_objects.specs.declared.gap.ActGap.{ActGap}
use Rattle.pp_objects.specs.declared.gap.Gap.{Gap}
use Rattle.pp_objects.specs.declared.states.ObjectState.{ObjectState}
use Rattle.pp_objects.specs.One.{one}
use Rattle.pp_objects.specs.Objects.{objects, kept_in}
use Rattle.pp_objects.specs.Gaps.{Bears, Differ, OneBears, OneDiffer}
use Rattle.pp_objects.specs.laws.Elements.{get_set, same_some, set_own}
use Rattle.pp_objects.specs.laws.One.{one_lawful}
use Rattle.pp_objects.specs.laws.Places as places

-- The gap of an act, at a place.
abbrev pub gap_at : ℕ → ActGap → Gap
gap_at p g = record { object = p; act = g }

legal_there : (ss : List ObjectState) (x : Op) → IsLegal objects ss x → (s : ObjectState)
    × (slice_get ss x.object ≡ Some s) × IsLegal one s x.act
legal_there = places.legal_there one one_lawful

next_is : (ss : List ObjectState) (x : Op) (s : ObjectState) → slice_get ss x.object ≡ Some s
    → objects.next ss x ≡ set ss x.object (one.next s x.act)
next_is = places.next_is one one_lawful

next_there : (ss : List ObjectState) (x : Op) (s : ObjectState) → slice_get ss x.object ≡ Some s
    → slice_get (objects.next ss x) x.object ≡ Some (one.next s x.act)
next_there = places.next_there one one_lawful

-- The undo value of an operation is the one that its object keeps.
kept_there : (ss : List ObjectState) (x : Op) (s : ObjectState) → slice_get ss x.object ≡ Some s
    → objects.upkeep.kept ss x ≡ one.upkeep.kept s x.act
kept_there ss x s e = ap (λ (t : Option ObjectState). kept_in one t x.act) e

-- If an act leaves no gap, neither does its operation.
same_there : (x : Op) (u : Undo) → Leaves one OneBears OneDiffer x.act u left.Same
    → Leaves objects Bears Differ x u left.Same
same_there x u leaves ss is h kept =
    let t = legal_there ss x h in
    next_is ss x t.0 t.1
    ∙ ap (λ (v : ObjectState). set ss x.object v)
    (leaves t.0 (is x.object t.0 t.1) t.2 (sym (kept_there ss x t.0 t.1) ∙ kept))
    ∙ set_own ss x.object t.0 t.1

-- The object that was there before, among those after the operation.
put_back : (ss : List ObjectState) (x : Op) (s : ObjectState) → slice_get ss x.object ≡ Some s
    → ss ≡ set (objects.next ss x) x.object s
put_back ss x s e =
    sym (ap (λ (ts : List ObjectState). set ts x.object s) (next_is ss x s e)
    ∙ set-set ss x.object (one.next s x.act) s ∙ set_own ss x.object s e)

apart_there : (x : Op) (u : Undo) (g : ActGap)
    → Leaves one OneBears OneDiffer x.act u (left.Apart g)
    → Leaves objects Bears Differ x u (left.Apart (gap_at x.object g))
apart_there x u g leaves ss is h kept bears =
    let t = legal_there ss x h in
    let there = next_there ss x t.0 t.1 in (
      one.next t.0 x.act,
      t.0,
      there,
      put_back ss x t.0 t.1,
      leaves t.0 (is x.object t.0 t.1) t.2 (sym (kept_there ss x t.0 t.1) ∙ kept)
          (bears (one.next t.0 x.act) there),
    )

-- If an operation crosses a gap, the object there and the one that differs from it.
pub record IsBeside (g : ActGap) (x : Op) (ss ts : List ObjectState) (s : ObjectState) : Type 0 where
  pub other : ObjectState
  pub is : ts ≡ set ss x.object other
  pub there : slice_get ts x.object ≡ Some other
  pub state : one.upkeep.IsState other
  pub differ : OneDiffer g s other

beside : (g : ActGap) (x : Op) (ss ts : List ObjectState) (s : ObjectState)
    → slice_get ss x.object ≡ Some s → objects.upkeep.IsState ts
    → Differ (gap_at x.object g) ss ts → IsBeside g x ss ts s
beside g x ss ts s e is d =
    let there : slice_get ts x.object ≡ Some d.1 =
    ap (λ (l : List ObjectState). slice_get l x.object) d.3 ∙ get_set ss x.object s d.1 e in
    record {
      other = d.1;
      is = d.3;
      there = there;
      state = is x.object d.1 there;
      differ = subst (λ (v : ObjectState). OneDiffer g v d.1)
          (same_some d.0 s (sym d.2 ∙ e)) d.4;
    }

-- The two after the operation.
next_beside : (g : ActGap) (x : Op) (ss ts : List ObjectState) (s : ObjectState)
    (b : IsBeside g x ss ts s) → slice_get ss x.object ≡ Some s
    → objects.next ts x ≡ set (objects.next ss x) x.object (one.next b.other x.act)
next_beside g x ss ts s b e =
    next_is ts x b.other b.there
    ∙ ap (λ (l : List ObjectState). set l x.object (one.next b.other x.act)) b.is
    ∙ set-set ss x.object b.other (one.next b.other x.act)
    ∙ sym (ap (λ (l : List ObjectState). set l x.object (one.next b.other x.act)) (next_is ss x s e)
    ∙ set-set ss x.object (one.next s x.act) (one.next b.other x.act))

stays_there : (g h : ActGap) (x : Op) (ss ts : List ObjectState) (s : ObjectState)
    (b : IsBeside g x ss ts s) → slice_get ss x.object ≡ Some s
    → StaysApart one (OneDiffer h) x.act s b.other
    → StaysApart objects (Differ (gap_at x.object h)) x ss ts
stays_there g h x ss ts s b e stays = record {
  legal = places.legal_from one one_lawful ts x b.other b.there stays.legal;
  differ = (
    one.next s x.act,
    one.next b.other x.act,
    next_there ss x s e,
    next_beside g x ss ts s b e,
    stays.differ,
  );
  kept = kept_there ts x b.other b.there ∙ stays.kept ∙ sym (kept_there ss x s e);
}

meets_there : (g : ActGap) (x : Op) (u : Undo) (ss ts : List ObjectState) (s : ObjectState)
    (b : IsBeside g x ss ts s) → slice_get ss x.object ≡ Some s → Meets one x.act u s b.other
    → Meets objects x u ss ts
meets_there g x u ss ts s b e met = record {
  legal = places.legal_from one one_lawful ts x b.other b.there met.legal;
  same = next_beside g x ss ts s b e
      ∙ ap (λ (v : ObjectState). set (objects.next ss x) x.object v) met.same
      ∙ set_own (objects.next ss x) x.object (one.next s x.act) (next_there ss x s e);
  kept = kept_there ts x b.other b.there ∙ met.kept;
}

-- The objects bear a gap at a place if the object there bears it.
bears_there : (g : ActGap) (x : Op) (ss : List ObjectState) (s : ObjectState)
    → slice_get ss x.object ≡ Some s → OneBears g s → Bears (gap_at x.object g) ss
bears_there g x ss s e h v f = subst (λ (w : ObjectState). OneBears g w) (same_some s v (sym e ∙ f)) h

crosses_apart_there : (g h : ActGap) (x : Op)
    → Crosses one OneBears OneDiffer g x.act (crossed.Apart h)
    → Crosses objects Bears Differ (gap_at x.object g) x (crossed.Apart (gap_at x.object h))
crosses_apart_there g h x crosses ss is legal bears =
    let t = legal_there ss x legal in
    let c = crosses t.0 (is x.object t.0 t.1) t.2
    (bears (one.next t.0 x.act) (next_there ss x t.0 t.1)) in (
      bears_there g x ss t.0 t.1 c.0,
      (λ ts it d.
          let b = beside g x ss ts t.0 t.1 it d in
          stays_there g h x ss ts t.0 b t.1 (c.1 b.other b.state b.differ)),
    )

crosses_same_there : (g : ActGap) (u : Undo) (x : Op)
    → Crosses one OneBears OneDiffer g x.act (crossed.Same u)
    → Crosses objects Bears Differ (gap_at x.object g) x (crossed.Same u)
crosses_same_there g u x crosses ss is legal =
    let t = legal_there ss x legal in
    let c = crosses t.0 (is x.object t.0 t.1) t.2 in (
      bears_there g x ss t.0 t.1 c.0,
      (λ ts it d.
          let b = beside g x ss ts t.0 t.1 it d in
          meets_there g x u ss ts t.0 b t.1 (c.1 b.other b.state b.differ)),
    )

-- The same about the result of the object alone.
pub same_left : (x : Op) (u : Undo) (r : Left ActGap) → r ≡ left.Same
    → Leaves one OneBears OneDiffer x.act u r → Leaves objects Bears Differ x u left.Same
same_left x u r e h =
    same_there x u (subst (λ (l : Left ActGap). Leaves one OneBears OneDiffer x.act u l) e h)

-- If an act leaves a gap at its object, its operation leaves it at the object of the run.
pub apart_left : (x : Op) (u : Undo) (g : ActGap) (r : Left ActGap) → r ≡ left.Apart g
    → Leaves one OneBears OneDiffer x.act u r
    → Leaves objects Bears Differ x u (left.Apart (gap_at x.object g))
apart_left x u g r e h =
    apart_there x u g (subst (λ (l : Left ActGap). Leaves one OneBears OneDiffer x.act u l) e h)

-- If an act closes a gap at its object, its operation closes it at the object of the run.
pub same_crossed : (f : Gap) (x : Op) (u : Undo) (r : Crossed ActGap Undo) → x.object ≡ f.object
    → r ≡ crossed.Same u → Crosses one OneBears OneDiffer f.act x.act r
    → Crosses objects Bears Differ f x (crossed.Same u)
same_crossed f x u r e i h =
    let there = crosses_same_there f.act u x
    (subst (λ (c : Crossed ActGap Undo). Crosses one OneBears OneDiffer f.act x.act c) i h) in
    subst (λ (p : ℕ). Crosses objects Bears Differ (gap_at p f.act) x (crossed.Same u)) e there

-- If an act takes one gap to another, its operation does so at the object of the run.
pub apart_crossed : (f : Gap) (x : Op) (g : ActGap) (r : Crossed ActGap Undo)
    → x.object ≡ f.object → r ≡ crossed.Apart g → Crosses one OneBears OneDiffer f.act x.act r
    → Crosses objects Bears Differ f x (crossed.Apart (gap_at f.object g))
apart_crossed f x g r e i h =
    let there = crosses_apart_there f.act g x
    (subst (λ (c : Crossed ActGap Undo). Crosses one OneBears OneDiffer f.act x.act c) i h) in
    subst (λ (p : ℕ).
    Crosses objects Bears Differ (gap_at p f.act) x (crossed.Apart (gap_at p g))) e there

-- If a gap may be closed among the objects, it may be closed at its object.
pub may_close_there : (f : Gap) (ss : List ObjectState) (s : ObjectState)
    → slice_get ss f.object ≡ Some s → MayClose objects Differ f ss → MayClose one OneDiffer f.act s
may_close_there f ss s e h =
    let ts = h.1.0 in
    let d = h.1.3 in
    let there : slice_get ts f.object ≡ Some d.1 =
    ap (λ (l : List ObjectState). slice_get l f.object) d.3 ∙ get_set ss f.object s d.1 e in (
      h.0 f.object s e,
      (
        d.1,
        h.1.1 f.object d.1 there,
        places.reached_at one one_lawful ts f.object d.1 there h.1.2,
        subst (λ (v : ObjectState). OneDiffer f.act v d.1) (same_some d.0 s (sym d.2 ∙ e)) d.4,
      ),
    )

-- there is an object there
pub gap_there : (f : Gap) (ss : List ObjectState) → MayClose objects Differ f ss
    → (s : ObjectState) × (slice_get ss f.object ≡ Some s)
gap_there f ss h = let d = h.1.3 in (d.0, d.2)

closes_by : (f : Gap) (ss : List ObjectState) (s v : ObjectState)
    → slice_get ss f.object ≡ Some s → ClosesTo one OneDiffer f.act s v
    → ClosesTo objects Differ f ss (set ss f.object v)
closes_by f ss s v e h ts is d =
    let there : slice_get ts f.object ≡ Some d.1 =
    ap (λ (l : List ObjectState). slice_get l f.object) d.3 ∙ get_set ss f.object s d.1 e in
    let differ = subst (λ (w : ObjectState). OneDiffer f.act w d.1) (same_some d.0 s (sym d.2 ∙ e)) d.4
    in
    ap (λ (w : ObjectState). set ss f.object w) (h d.1 (is f.object d.1 there) differ) ∙ sym d.3

-- If the gap at one object is closed, it is closed for all objects of a run.
pub closes_there : (f : Gap) (ss : List ObjectState) (s v : ObjectState)
    (r : Result (Unit {0}) OutOfMemory) (new : List ObjectState) → slice_get ss f.object ≡ Some s
    → new ≡ set ss f.object v → OnOk r (ClosesTo one OneDiffer f.act s v)
    → OnOk r (ClosesTo objects Differ f ss new)
closes_there f ss s v (Ok done) new e w h =
    subst (λ (l : List ObjectState). ClosesTo objects Differ f ss l) (sym w) (closes_by f ss s v e h)
closes_there f ss s v (Err refused) new e w h = tt
