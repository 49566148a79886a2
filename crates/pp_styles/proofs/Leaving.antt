-- What is known of a transaction before an entry of its local log changes its mark, or leaves it.
use Rattle.std.proofs.Common.{◌≡◌, ◌⊎◌, ◌≤◌, ◌<◌, ◌-◌, ◌==◌, ℕ, Bool, true, false, List, map, min, drop, get_or, position, IfNone, Option, None, Some}
use Rattle.std.proofs.Common.{refl, sym, ap, subst, ◌∙◌, arith, inl, inr, if◌then◌else◌}
use Rattle.std.specs.List.{slice_get}
use Rattle.std.specs.Option.{option_map}
use Rattle.std.proofs.Math.Nat.{min-eq_left, min-eq_right, min-le_left, min-le_right}
use Rattle.std.proofs.lemmas.Bool.{eq-eqb, eqb-true}
use Rattle.std.proofs.lemmas.List.Quantifiers.{position-Some}
use Rattle.std.proofs.lemmas.Option.{get_or_from_slice_get, same_Some}
use Rattle.pp_core.specs.declared.entry.LocalEntry.{LocalEntry}
use Rattle.pp_core.specs.declared.entry.SharedEntry.{SharedEntry}
use Rattle.pp_records.specs.Expansions.{LocalLog}
use Rattle.pp_model.specs.Config.{Config, Tx, shared_item, tx}
use Rattle.pp_model.specs.Lists.{In}
use Rattle.pp_model.specs.Names.{Name, ◌=ⁿ◌}
use Rattle.pp_model.specs.Object.{HasDistinctIds}
use Rattle.pp_model.proofs.Finding.{find_nowhere, place_none, placed, stands_in as is_in}
use Rattle.pp_model.proofs.Lists.{before_map, by_key}
use Rattle.pp_model.proofs.Names.{eq-names, names-true, names_tell}
use Rattle.pp_styles.specs.Knowing.{ForgetsPulled, IsCommittedOn, IsUntaken, Knowledge, LowersPushed, LowersTaken, LowersTo, ReplacesTaken, SetsPushed}
use Rattle.pp_styles.specs.Knowing.{local_place}
use Rattle.pp_styles.specs.Publishing.{LowersPassed, PassesBack, Publications}
use Rattle.pp_styles.proofs.Ids.{in_drop_at}

no : true ≡ false → ⊥
no e = cc

-- what holds in any case
pub if_none : {A P : Type 0} (r : Option A) → P → IfNone r P
if_none None p = p
if_none (Some x) p = tt

-- ---- an entry of the shared log, by its id

-- If ids are distinct, the entry found by an id is the only one with it.
pub one_of_id : {Op : Type 0} (G : List (SharedEntry Op)) → HasDistinctIds (map shared_item G) → (id at : ℕ) (e : SharedEntry Op) → position (λ w. w.id == id) G ≡ Some at → slice_get G at ≡ Some e →
    (g : SharedEntry Op) → In g G → g.id ≡ id → g ≡ e
one_of_id {Op} G d id at e found here g i is =
    let r = placed (λ (w : SharedEntry Op). w.id == id) G at found in
    let same : r.0 ≡ e = same_Some r.0 e (sym r.1 ∙ here) in
    by_key (λ (w : SharedEntry Op). w.id) G (λ p q b k. d (shared_item p) (shared_item q) (before_map shared_item p q G b) k) g e i (is_in G at e here)
    (is ∙ sym (ap (λ (w : SharedEntry Op). w.id) (sym same) ∙ eqb-true (r.0).id id r.2))

-- the entry at the position of an id has that id
pub is_of_id : {Op : Type 0} (G : List (SharedEntry Op)) (id at : ℕ) (e : SharedEntry Op) → position (λ w. w.id == id) G ≡ Some at → slice_get G at ≡ Some e → In e G × (e.id ≡ id)
is_of_id {Op} G id at e found here =
    let r = placed (λ (w : SharedEntry Op). w.id == id) G at found in (
      is_in G at e here,
      ap (λ (w : SharedEntry Op). w.id) (same_Some e r.0 (sym here ∙ r.1)) ∙ eqb-true (r.0).id id r.2,
    )

-- If an id has no position in the shared log, no entry has it.
pub none_of_id : {Op : Type 0} (G : List (SharedEntry Op)) (id : ℕ) → position (λ w. w.id == id) G ≡ None → (g : SharedEntry Op) → In g G → g.id ≡ id → ⊥
none_of_id {Op} G id none g i is =
    no (sym (eq-eqb g.id id is) ∙ find_nowhere (λ (w : SharedEntry Op). w.id == id) G (place_none (λ (w : SharedEntry Op). w.id == id) G none) g i)

-- ---- lower numbers

-- no number is higher than before
pub record Lowers (old new : Knowledge) : Type 0 where
  pub ids : (o : ℕ) → new.ids o ≡ old.ids o
  pub taken : (u : Name) (o : ℕ) → new.taken u o ≤ old.taken u o
  pub pushed : (u : Name) → new.pushed u ≤ old.pushed u

-- none of the entries of a transaction that are known not to be unpushed has this id
abbrev pub IsAfterPushed : {Op : Type 0} → Config Op → Name → ℕ → Knowledge → Type 0
IsAfterPushed {Op} c t id k =
    (x : Tx Op) → tx t c.opened ≡ Some x → (i : ℕ) (e : LocalEntry Op) → i < k.pushed t → slice_get x.local i ≡ Some e → (e.id == id) ≡ false

-- Numbers are no higher than themselves.
pub lowers_same : (k : Knowledge) → Lowers k k
lowers_same k = record { ids = λ o. refl; taken = λ u o. omega arith; pushed = λ u. omega arith }

min_lower : (b : Bool) (n most : ℕ) → (if b then min n most else n) ≤ n
min_lower true n most = min-le_left n most
min_lower false n most = omega arith

one_lower : (b : Bool) (n : ℕ) → (if b then n - 1 else n) ≤ n
one_lower true n = omega arith
one_lower false n = omega arith

-- no number is higher after the count of entries of a transaction is lowered
pub lowers_pushed : (t : Name) (most : ℕ) (old new : Knowledge) → LowersPushed t most old new → Lowers old new
lowers_pushed t most old new f =
    record {
      ids = f.ids;
      taken = λ u o. let same = f.taken u o in omega (arith, same);
      pushed = λ u. subst (λ (n : ℕ). n ≤ old.pushed u) (sym (f.pushed u)) (min_lower (u =ⁿ t) (old.pushed u) most);
    }

-- no number is higher before an UNPUSH
pub lowers_to : (t : Name) (most : Option ℕ) (old new : Knowledge) → LowersTo t most old new → Lowers old new
lowers_to t None old new is = subst (λ (k : Knowledge). Lowers old k) (sym is) (lowers_same old)
lowers_to t (Some most) old new f = lowers_pushed t most old new f

-- no number is higher before an UNPULL
pub lowers_pulled : {Op : Type 0} (place : Op → ℕ) (G : List (SharedEntry Op)) (t : Name) (id : ℕ) (old new : Knowledge) → ForgetsPulled place G t id old new → Lowers old new
lowers_pulled place G t id old new f =
    record {
      ids = f.ids;
      taken = λ u o. elim (f.taken u o) [ inl same ↦ omega (arith, same) | inr low ↦ low.2 ];
      pushed = λ u. subst (λ (n : ℕ). n ≤ old.pushed u) (sym (f.pushed u)) (one_lower (u =ⁿ t) (old.pushed u));
    }

-- a lower count of entries in place of another
pub pushed_set : (t : Name) (most : ℕ) (old new : Knowledge) → SetsPushed t most old new → most < old.pushed t → LowersPushed t most old new
pushed_set t most old new f low =
    record {
      ids = f.ids;
      taken = f.taken;
      pushed = λ u. elim (names_tell u t) [
        | inl here ↦
            let below : most ≤ old.pushed u = subst (λ (w : Name). most ≤ old.pushed w) (sym here.1) (omega (arith, low)) in
            f.pushed u ∙ ap (λ (b : Bool). if b then most else old.pushed u) here.0
            ∙ sym (ap (λ (b : Bool). if b then min (old.pushed u) most else old.pushed u) here.0 ∙ min-eq_right below)
        | inr other ↦
            f.pushed u ∙ ap (λ (b : Bool). if b then most else old.pushed u) other.0
            ∙ sym (ap (λ (b : Bool). if b then min (old.pushed u) most else old.pushed u) other.0)
      ];
    }

-- a count of entries that is not too high stays
pub pushed_low : (t : Name) (most : ℕ) (k : Knowledge) → k.pushed t ≤ most → LowersPushed t most k k
pushed_low t most k low =
    record {
      ids = λ o. refl;
      taken = λ u o. refl;
      pushed = λ u. elim (names_tell u t) [
        | inl here ↦
            let below : k.pushed u ≤ most = subst (λ (w : Name). k.pushed w ≤ most) (sym here.1) low in
            sym (ap (λ (b : Bool). if b then min (k.pushed u) most else k.pushed u) here.0 ∙ min-eq_left below)
        | inr other ↦ sym (ap (λ (b : Bool). if b then min (k.pushed u) most else k.pushed u) other.0)
      ];
    }

-- the count of entries of a transaction is lowered by one
pub pushed_one_less : (t : Name) (most : ℕ) (old new : Knowledge) → LowersPushed t most old new → most ≡ old.pushed t - 1 → (u : Name) → new.pushed u ≡ (if u =ⁿ t then old.pushed u - 1 else old.pushed u)
pushed_one_less t most old new f is u = elim (names_tell u t) [
  | inl here ↦
      let less : most ≡ old.pushed u - 1 = is ∙ ap (λ (w : Name). old.pushed w - 1) (sym here.1) in
      let below : most ≤ old.pushed u = omega (arith, less) in
      f.pushed u ∙ ap (λ (b : Bool). if b then min (old.pushed u) most else old.pushed u) here.0 ∙ min-eq_right below ∙ less
      ∙ sym (ap (λ (b : Bool). if b then old.pushed u - 1 else old.pushed u) here.0)
  | inr other ↦
      f.pushed u ∙ ap (λ (b : Bool). if b then min (old.pushed u) most else old.pushed u) other.0
      ∙ sym (ap (λ (b : Bool). if b then old.pushed u - 1 else old.pushed u) other.0)
]

-- a lower count of ids in place of another
pub taken_set : (t : Name) (object at : ℕ) (old new : Knowledge) → ReplacesTaken t object at old new → at < old.taken t object → LowersTaken t object old new
taken_set t object at old new f low =
    record {
      ids = f.ids;
      taken = λ u o. elim (f.taken u o) [
        | inl same ↦ inl same
        | inr set ↦
            let old_is : old.taken u o ≡ old.taken t object = ap (λ (w : Name). old.taken w o) (names-true u t set.0) ∙ ap (λ (n : ℕ). old.taken t n) set.1 in
            let new_is = set.2 in
            inr (set.0, set.1, omega (arith, old_is, new_is, low))
      ];
      pushed = f.pushed;
    }

-- counts that stay as they are
pub taken_same : (t : Name) (object : ℕ) (k : Knowledge) → LowersTaken t object k k
taken_same t object k = record { ids = λ o. refl; taken = λ u o. inl refl; pushed = λ u. refl }

-- an id is among those after fewer than are before it
pub again_at : (ids : List ℕ) (n at id : ℕ) → n ≤ at → (at ≡ 0) ⊎ (slice_get ids at ≡ Some id) → (n ≡ 0) ⊎ In id (drop n ids)
again_at ids n at id low (inl none) = inl (omega arith)
again_at ids n at id low (inr here) = inr (in_drop_at ids n at id low here)

-- ---- an entry is marked

module _ {Op : Type 0} (t : Name) (id : ℕ) where
  module _ {Shape : Type 0} (shape : Shape) where
    -- the local log that is lent
    abbrev pub lent : Option (Tx Op) → Option (Shape × LocalLog Op)
    lent o = option_map (λ (y : Tx Op). (shape, y.local)) o

    -- nothing changes if the transaction is not open
    pub none_open : (k : Knowledge) (o : Option (Tx Op)) → None ≡ lent o → LowersTo t (local_place id o) k k
    none_open k None is = refl
    none_open k (Some x) is = absurd (cc)

    -- the position in the local log that is lent
    place_lent : (o : Option (Tx Op)) (local : Shape × LocalLog Op) → Some local ≡ lent o → local_place id o ≡ position (λ e. e.id == id) local.1
    place_lent None local is = absurd (cc)
    place_lent (Some x) local is =
        ap (λ (p : Shape × LocalLog Op). position (λ (e : LocalEntry Op). e.id == id) p.1) (sym (same_Some local (shape, x.local) is))

    -- what is lowered to the position in that log
    pub lowers_there : (o : Option (Tx Op)) (local : Shape × LocalLog Op) (most : Option ℕ) (old new : Knowledge) → Some local ≡ lent o →
        position (λ e. e.id == id) local.1 ≡ most → LowersTo t most old new → LowersTo t (local_place id o) old new
    lowers_there o local most old new is found f = subst (λ (w : Option ℕ). LowersTo t w old new) (sym (place_lent o local is ∙ found)) f

  after_place : (x : Tx Op) (most : Option ℕ) (old new : Knowledge) → position (λ e. e.id == id) x.local ≡ most → LowersTo t most old new →
      (i : ℕ) (e : LocalEntry Op) → i < new.pushed t → slice_get x.local i ≡ Some e → (e.id == id) ≡ false
  after_place x None old new none f i e below at =
      find_nowhere (λ (w : LocalEntry Op). w.id == id) x.local (place_none (λ (w : LocalEntry Op). w.id == id) x.local none) e (is_in x.local i e at)
  after_place x (Some n) old new found f i e below at =
      let low : new.pushed t ≤ n = subst (λ (m : ℕ). m ≤ n) (sym (f.pushed t ∙ ap (λ (b : Bool). if b then min (old.pushed t) n else old.pushed t) (eq-names t t refl))) (min-le_right (old.pushed t) n) in
      let r = position-Some (λ (w : LocalEntry Op). w.id == id) x.local n e found in
      ap (λ (w : LocalEntry Op). w.id == id) (sym (get_or_from_slice_get x.local i e e at)) ∙ r.2 i (omega (arith, low, below))

  -- none of the entries before that position has the id
  pub after_pushed : (c : Config Op) (old new : Knowledge) → LowersTo t (local_place id (tx t c.opened)) old new → IsAfterPushed c t id new
  after_pushed c old new f x open_is =
      after_place x (position (λ e. e.id == id) x.local) old new refl (subst (λ (o : Option (Tx Op)). LowersTo t (local_place id o) old new) open_is f)

-- ---- a pulled entry leaves a local log

module _ {Op : Type 0} (place : Op → ℕ) (G : List (SharedEntry Op)) (t : Name) (id : ℕ) where
  module _ (e : SharedEntry Op) (one : (g : SharedEntry Op) → In g G → g.id ≡ id → g ≡ e) where
    -- An uncommitted entry need not be looked at again by a transaction.
    pub untaken_fresh : (k : Knowledge) → e.committed ≡ false → IsUntaken place G t id k
    untaken_fresh k fresh g i is committed = absurd (no (sym committed ∙ ap (λ (w : SharedEntry Op). w.committed) (one g i is) ∙ fresh))

    -- If the id is after those that the transaction has taken, it is to look at the id again.
    pub untaken_again : (k : Knowledge) → (k.taken t (place e.op) ≡ 0) ⊎ In id (drop (k.taken t (place e.op)) (k.ids (place e.op))) → IsUntaken place G t id k
    untaken_again k again g i is committed =
        subst (λ (w : SharedEntry Op). (k.taken t (place w.op) ≡ 0) ⊎ In id (drop (k.taken t (place w.op)) (k.ids (place w.op)))) (sym (one g i is)) again

    -- If one number is lowered, and excludes the id, the transaction has not passed it.
    pub passes_back : (object : ℕ) → place e.op ≡ object → In e G × (e.id ≡ id) → (p q : Publications) → q.kept ≡ p.kept → ((v : Name) (o : ℕ) → q.ids v o ≡ p.ids v o) → ((v : Name) (o : ℕ) → q.gone v o ≡ p.gone v o) → LowersPassed t e.owner object p q →
        (p.kept ≡ true → (q.passed t e.owner (place e.op) ≡ 0) ⊎ In id (drop (q.passed t e.owner (place e.op)) (p.ids e.owner (place e.op)))) → PassesBack place G t id p q
    passes_back object on there p q kept ids gone passed again =
        record {
          kept = kept;
          ids = ids;
          gone = gone;
          passed = λ u v o. elim (passed u v o) [
            | inl same ↦ inl same
            | inr low ↦ inr (low.0, (e, there.0, there.1, low.1, on ∙ sym low.2), low.3)
          ];
          away = λ before g i is. subst (λ (w : SharedEntry Op). (q.passed t w.owner (place w.op) ≡ 0) ⊎ In id (drop (q.passed t w.owner (place w.op)) (p.ids w.owner (place w.op))))
              (sym (one g i is)) (again before);
        }

  -- ---- what is forgotten

  -- a count of entries is lowered by one, and no count of ids changes
  pub forgets_pushed : (most : ℕ) (old new : Knowledge) → LowersPushed t most old new → most ≡ old.pushed t - 1 → IsUntaken place G t id new → ForgetsPulled place G t id old new
  forgets_pushed most old new f is untaken =
      record {
        ids = f.ids;
        taken = λ u o. inl (f.taken u o);
        pushed = pushed_one_less t most old new f is;
        untaken = untaken;
      }

  -- a count of ids too, on the object of a committed entry
  pub forgets_taken : (most object : ℕ) (old mid new : Knowledge) → LowersPushed t most old mid → most ≡ old.pushed t - 1 → LowersTaken t object mid new → IsCommittedOn place G id object →
      IsUntaken place G t id new → ForgetsPulled place G t id old new
  forgets_taken most object old mid new f is g there untaken =
      record {
        ids = λ o. g.ids o ∙ f.ids o;
        taken = λ u o. elim (g.taken u o) [
          | inl same ↦ inl (same ∙ f.taken u o)
          | inr low ↦ inr (
            low.0,
            subst (λ (p : ℕ). IsCommittedOn place G id p) (sym low.1) there,
            subst (λ (n : ℕ). new.taken u o ≤ n) (f.taken u o) low.2,
          )
        ];
        pushed = λ u. g.pushed u ∙ pushed_one_less t most old mid f is u;
        untaken = untaken;
      }

  module _ (none : (g : SharedEntry Op) → In g G → g.id ≡ id → ⊥) where
    -- If no entry has the id, no transaction has to look at it again.
    pub untaken_none : (k : Knowledge) → IsUntaken place G t id k
    untaken_none k g i is committed = absurd (none g i is)

    -- If no entry has the id, no number must be lowered before the id is looked at again.
    pub passes_none : (p : Publications) → PassesBack place G t id p p
    passes_none p =
        record {
          kept = refl;
          ids = λ v o. refl;
          gone = λ v o. refl;
          passed = λ u v o. inl refl;
          away = λ before g i is. absurd (none g i is);
        }
