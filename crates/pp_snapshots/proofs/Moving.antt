-- Proof machinery: what each record makes of what is kept.
use Rattle.std.proofs.Common.{◌≡◌, ◌≢◌, ◌+◌, ◌≤◌, ℕ, zero, Bool, true, false, not, cond, IsTrue, List, [], ◌∷◌, ◌++◌, length, reverse, option_map, Option, None, Some}
use Rattle.std.proofs.Common.{refl, sym, ap, subst, ◌∙◌, inl, inr, arith}
use Rattle.std.specs.List.{list_any}
use Rattle.std.specs.Map.{keys_of, lookup, set_value}
use Rattle.std.proofs.lemmas.List.{map-append}
use Rattle.std.proofs.lemmas.Option.{same_Some}
use Rattle.pp_core.specs.declared.call.Kind.{Kind}
use Rattle.pp_core.specs.declared.call.Style.TheVariants.{Optimistic}
use Rattle.pp_core.specs.declared.entry.CommittedTx.{CommittedTx}
use Rattle.pp_core.specs.declared.entry.Item.{Item}
use Rattle.pp_model.specs.Body.{Tree}
use Rattle.pp_model.specs.Config.{App, Begin, Cmt, LocalEntry, Note, Pull, Push, Quit, SharedEntry, Step, Unapp, Unpull, Unpush}
use Rattle.pp_model.specs.Lists.{Before, In}
use Rattle.pp_model.specs.Names.{Name, ◌=ⁿ◌}
use Rattle.pp_model.specs.Object.{ops}
use Rattle.pp_model.proofs.Lists.{from_map}
use Rattle.pp_model.proofs.Names.{names_tell}
use Rattle.pp_model.proofs.Trace.{map_same}
use Rattle.pp_kind.specs.Object.{IsLawful, IsPlaced, Object, rules_of}
use Rattle.pp_kind.proofs.Places.{tells_states}
use Rattle.pp_records.specs.Expansions.{IsOfStyle}
use Rattle.pp_records.specs.Fronts.{Front}
use Rattle.pp_records.specs.Records.{RunRecord}
use Rattle.pp_records.specs.Records as records
use Rattle.pp_records.specs.Runs.{Standing, after_record}
use Rattle.pp_records.specs.Styles.{translation}
use Rattle.pp_laws_summary.specs.DecidedRuns.{DecidesRecords}
use Rattle.pp_laws_summary.specs.Laws.{summing}
use Rattle.pp_laws_summary.specs.LocalLogs.{Summable}
use Rattle.pp_laws_summary.specs.Summary.{OpenSummary, Summary, SummaryGood, at_open, next_summary, open_named, summary_begun, summary_of, without_open}
use Rattle.pp_laws_summary.proofs.Placed.{parts_of}
use Rattle.pp_laws_summary.proofs.Relog.{map_id, map_map}
use Rattle.pp_laws_summary.proofs.SummaryRuns.{decides_records}
use Rattle.pp_summary.specs.Held.{IsOpAsked}
use Rattle.pp_summary.specs.Shown.{AreThreads, filled, in_slot, open_in}
use Rattle.pp_summary.specs.declared.parts.OpenTx.{OpenTx}
use Rattle.pp_summary.proofs.Filled.{Apart, in_set, keys_stay}
use Rattle.pp_summary.proofs.Threads.{threads_less}
use Rattle.pp_snapshots.specs.Moving.{IsGood, Moves, Stays}
use Rattle.pp_snapshots.specs.declared.by_part.ByPart.{ByPart}
use Rattle.pp_snapshots.specs.declared.past.Past.{Past}
use Rattle.pp_snapshots.specs.Many.{AreAsked}
use Rattle.pp_snapshots.specs.Past.{IsPast, IsSomePast}
use Rattle.pp_snapshots.specs.Shown.{IsFine, IsShownOf, Keeps, Kept, SlotList, done_ops, own_total, shown, shown_tx, threads_of}
use Rattle.pp_snapshots.proofs.Pasts.{shape_is}
use Rattle.pp_snapshots.proofs.Filled.{filled_out, filled_set, found_is}

-- a summary is what its parts are
pub same_summary : {Op : Type 0} (ks : List Kind) (a b : List Name) (c d : List ℕ) (e f : List (OpenSummary Op)) (g h : List (SharedEntry Op)) (i j : List (CommittedTx Op)) → a ≡ b → c ≡ d → e ≡ f → g ≡ h → i ≡ j
    → ◌≡◌ {A = Summary Op} (record { names = a; ids = c; opened = e; shared = g; done = i; kinds = ks }) (record { names = b; ids = d; opened = f; shared = h; done = j; kinds = ks })
same_summary {Op} ks a b c d e f g h i j p q r s t =
    ap (λ (z : List Name). record { names = z; ids = c; opened = e; shared = g; done = i; kinds = ks }) p
    ∙ ap (λ (z : List ℕ). record { names = b; ids = z; opened = e; shared = g; done = i; kinds = ks }) q
    ∙ ap (λ (z : List (OpenSummary Op)). record { names = b; ids = d; opened = z; shared = g; done = i; kinds = ks }) r
    ∙ ap (λ (z : List (SharedEntry Op)). record { names = b; ids = d; opened = f; shared = z; done = i; kinds = ks }) s
    ∙ ap (λ (z : List (CommittedTx Op)). record { names = b; ids = d; opened = f; shared = h; done = z; kinds = ks }) t

-- Summaries of open transactions with equal parts are equal.
pub same_open : {Op : Type 0} (n : Name) (a b : Name) (c d : Option Tree) (e f : List (LocalEntry Op)) (g h : ℕ → ℕ) → a ≡ b → c ≡ d → e ≡ f → g ≡ h
    → ◌≡◌ {A = OpenSummary Op} (record { name = n; thread = a; body = c; own = e; seen = g; held = None }) (record { name = n; thread = b; body = d; own = f; seen = h; held = None })
same_open {Op} n a b c d e f g h p q r s =
    ap (λ (z : Name). record { name = n; thread = z; body = c; own = e; seen = g; held = None }) p
    ∙ ap (λ (z : Option Tree). record { name = n; thread = b; body = z; own = e; seen = g; held = None }) q
    ∙ ap (λ (z : List (LocalEntry Op)). record { name = n; thread = b; body = d; own = z; seen = g; held = None }) r
    ∙ ap (λ (z : ℕ → ℕ). record { name = n; thread = b; body = d; own = f; seen = z; held = None }) s

-- a slot that is changed twice
pub set_twice : {X : Type 0} (t : Name) (es : List (Name × X)) (a b : X) → set_value (λ n. t =ⁿ n) (set_value (λ n. t =ⁿ n) es a) b ≡ set_value (λ n. t =ⁿ n) es b
set_twice t [] a b = refl
set_twice {X} t (e ∷ es) a b = by (t =ⁿ e.0) refl (set_twice t es a b)
  where
    by : (z : Bool) → (t =ⁿ e.0) ≡ z → set_value (λ n. t =ⁿ n) (set_value (λ n. t =ⁿ n) es a) b ≡ set_value (λ n. t =ⁿ n) es b →
        set_value (λ n. t =ⁿ n) (cond z ((e.0, a) ∷ es) (e ∷ set_value (λ n. t =ⁿ n) es a)) b ≡ cond z ((e.0, b) ∷ es) (e ∷ set_value (λ n. t =ⁿ n) es b)
    by true q k = ap (λ (z : Bool). cond z ((e.0, b) ∷ es) ((e.0, a) ∷ set_value (λ n. t =ⁿ n) es b)) q
    by false q k = ap (λ (z : Bool). cond z ((e.0, b) ∷ set_value (λ n. t =ⁿ n) es a) (e ∷ set_value (λ n. t =ⁿ n) (set_value (λ n. t =ⁿ n) es a) b)) q ∙ ap (λ (z : List (Name × X)). e ∷ z) k

-- a slot that is there
pub slot_is : {A : Type 0} (o : Option (Option A)) (x : A) → in_slot o ≡ Some x → o ≡ Some (Some x)
slot_is None x e = absurd (cc)
slot_is (Some s) x e = ap (λ z. Some z) e

module _ {Op : Type 0} where
  -- an open transaction is in its slot
  pub in_slot_of : (t : Name) (fs : SlotList Op) (x : OpenTx (List (Item Op))) → lookup (λ n. t =ⁿ n) fs ≡ Some (Some x) → In (t, Some x) fs
  in_slot_of t [] x e = absurd (cc)
  in_slot_of t ((n, s) ∷ fs) x e = elim (names_tell t n) [
    | inl r ↦
        let k = same_Some s (Some x) (sym (ap (λ (b : Bool). cond b (Some s) (lookup (λ n. t =ⁿ n) fs)) r.0) ∙ e) in
        inl (ap (λ (m : Name). (m, Some x)) r.1 ∙ ap (λ z. (n, z)) (sym k))
    | inr r ↦ inr (in_slot_of t fs x (sym (ap (λ (b : Bool). cond b (Some s) (lookup (λ n. t =ⁿ n) fs)) r.0) ∙ e))
  ]

  -- how many own operations there are, with another transaction in a slot
  abbrev pub own_size : Option (OpenTx (List (Item Op))) → ℕ
  own_size None = zero
  own_size (Some x) = length x.own

  -- The own operations of slots are those of the first slot and those of the others.
  pub total_first : (n : Name) (s : Option (OpenTx (List (Item Op)))) (es : SlotList Op) → own_total ((n, s) ∷ es) ≡ own_size s + own_total es
  total_first n None es = omega arith
  total_first n (Some x) es = refl

  -- If a slot changes, all own operations change by those of this slot.
  pub total_set : (t : Name) (es : SlotList Op) (x : OpenTx (List (Item Op))) (s : Option (OpenTx (List (Item Op)))) → lookup (λ n. t =ⁿ n) es ≡ Some (Some x) →
      own_total (set_value (λ n. t =ⁿ n) es s) + length x.own ≡ own_total es + own_size s
  total_set t [] x s e = absurd (cc)
  total_set t ((n, r) ∷ es) x s e = elim (names_tell t n) [
    | inl k ↦
        let same = same_Some r (Some x) (sym (ap (λ (b : Bool). cond b (Some r) (lookup (λ n. t =ⁿ n) es)) k.0) ∙ e) in
        let old : own_total ((n, r) ∷ es) ≡ length x.own + own_total es = ap (λ (z : Option (OpenTx (List (Item Op)))). own_total ((n, z) ∷ es)) same in
        let new : own_total (set_value (λ n. t =ⁿ n) ((n, r) ∷ es) s) ≡ own_size s + own_total es = ap (λ (b : Bool). own_total (cond b ((n, s) ∷ es) ((n, r) ∷ set_value (λ n. t =ⁿ n) es s))) k.0 ∙ total_first n s es in
        omega (arith, old, new)
    | inr k ↦
        let rest = total_set t es x s (sym (ap (λ (b : Bool). cond b (Some r) (lookup (λ n. t =ⁿ n) es)) k.0) ∙ e) in
        let old = total_first n r es in
        let new : own_total (set_value (λ n. t =ⁿ n) ((n, r) ∷ es) s) ≡ own_size r + own_total (set_value (λ n. t =ⁿ n) es s) =
        ap (λ (b : Bool). own_total (cond b ((n, s) ∷ es) ((n, r) ∷ set_value (λ n. t =ⁿ n) es s))) k.0 ∙ total_first n r (set_value (λ n. t =ⁿ n) es s) in
        omega (arith, rest, old, new)
  ]

  -- A new slot adds its own operations to all of them.
  pub total_more : (es : SlotList Op) (n : Name) (x : OpenTx (List (Item Op))) → own_total (es ++ (n, Some x) ∷ []) ≡ own_total es + length x.own
  total_more [] n x = omega arith
  total_more ((m, s) ∷ es) n x =
      let rest = total_more es n x in
      let old = total_first m s es in
      let new = total_first m s (es ++ (n, Some x) ∷ []) in
      omega (arith, rest, old, new)

  -- the names of the open transactions are apart
  shown_in : (es : SlotList Op) (y : OpenSummary Op) → In y (filled shown_tx es) → In y.name (keys_of es)
  shown_in [] y h = absurd h
  shown_in ((n, None) ∷ es) y h = inr (shown_in es y h)
  shown_in ((n, Some x) ∷ es) y (inl e) = inl (ap (λ (z : OpenSummary Op). z.name) e)
  shown_in ((n, Some x) ∷ es) y (inr h) = inr (shown_in es y h)

  -- Open transactions in different slots have different names.
  pub shown_apart : (es : SlotList Op) → Apart es → (y z : OpenSummary Op) → Before y z (filled shown_tx es) → y.name ≢ z.name
  shown_apart [] d y z b = absurd b
  shown_apart ((n, None) ∷ es) d y z b = shown_apart es (λ s t k. d s t (inr k)) y z b
  shown_apart ((n, Some x) ∷ es) d y z (inl b) = λ e. d n z.name (inl (refl, shown_in es z b.1)) (sym (ap (λ (w : OpenSummary Op). w.name) b.0) ∙ e)
  shown_apart ((n, Some x) ∷ es) d y z (inr b) = shown_apart es (λ s t k. d s t (inr k)) y z b

  -- an open transaction among the others
  pub record IsAmong (t : Name) (l : List (OpenSummary Op)) (x : OpenSummary Op) : Type 0 where
    pub before : List (OpenSummary Op)
    pub after : List (OpenSummary Op)
    pub is : l ≡ before ++ x ∷ after
    pub without : without_open t l ≡ before ++ after

  stay : (t : Name) (m : List (OpenSummary Op)) → ((z : OpenSummary Op) → In z m → z.name ≢ t) → without_open t m ≡ m
  stay t [] k = refl
  stay t (z ∷ m) k = elim (names_tell z.name t) [
    | inl r ↦ absurd (k z (inl refl) r.1)
    | inr r ↦ ap (λ (b : Bool). cond (not b) (z ∷ without_open t m) (without_open t m)) r.0 ∙ ap (λ (w : List (OpenSummary Op)). z ∷ w) (stay t m (λ u i. k u (inr i)))
  ]

  -- The open transaction of a name is among all, and the others are those before and after it.
  pub among : (t : Name) (l : List (OpenSummary Op)) (x : OpenSummary Op) → ((y z : OpenSummary Op) → Before y z l → y.name ≢ z.name) → open_named t l ≡ Some x → IsAmong t l x
  among t [] x d h = absurd (cc)
  among t (y ∷ l) x d h = elim (names_tell y.name t) [
    | inl r ↦
        let e = same_Some y x (sym (ap (λ (b : Bool). cond b (Some y) (open_named t l)) r.0) ∙ h) in
        record {
          before = [];
          after = l;
          is = ap (λ (w : OpenSummary Op). w ∷ l) e;
          without = ap (λ (b : Bool). cond (not b) (y ∷ without_open t l) (without_open t l)) r.0 ∙ stay t l (λ z i s. d y z (inl (refl, i)) (r.1 ∙ sym s));
        }
    | inr r ↦
        let k = among t l x (λ u v i. d u v (inr i)) (sym (ap (λ (b : Bool). cond b (Some y) (open_named t l)) r.0) ∙ h) in
        record {
          before = y ∷ k.before;
          after = k.after;
          is = ap (λ (w : List (OpenSummary Op)). y ∷ w) k.is;
          without = ap (λ (b : Bool). cond (not b) (y ∷ without_open t l) (without_open t l)) r.0 ∙ ap (λ (w : List (OpenSummary Op)). y ∷ w) k.without;
        }
  ]

begun_kinds : {Op : Type 0} (B : Summary Op) (step : Step Op) → (summary_begun B step).kinds ≡ B.kinds
begun_kinds B (Begin t p b) = refl
begun_kinds B (App t id op) = refl
begun_kinds B (Unapp t id) = refl
begun_kinds B (Push t id) = refl
begun_kinds B (Unpush t id) = refl
begun_kinds B (Pull t id) = refl
begun_kinds B (Unpull t id) = refl
begun_kinds B (Cmt t) = refl
begun_kinds B (Quit t) = refl
begun_kinds B (Note t) = refl

-- The summary after a record has the same kinds.
pub kinds_stay : {Op : Type 0} (place : Op → ℕ) (B : Summary Op) (r : RunRecord Op) → IsOfStyle Optimistic r → (next_summary place Optimistic B r).kinds ≡ B.kinds
kinds_stay place B (records.Plain step) s = begun_kinds B step
kinds_stay place B (records.Op t id op) s = refl
kinds_stay place B (records.Commit t) s = refl
kinds_stay place B (records.Abort t) s = refl
kinds_stay place B (records.Retry t) s = refl
kinds_stay place B (records.Refresh t q) s = refl
kinds_stay place B (records.XBegin t) s = refl
kinds_stay place B (records.XEnd t) s = refl
kinds_stay place B (records.XAbort t) s = refl
kinds_stay place B (records.Depend t source) s = refl
kinds_stay place B (records.Publish t) s = refl
kinds_stay place B (records.DropSource t source) s = refl

module _ {Shape State Op Undo : Type 0} (o : Object Shape State Op Undo) (place : Op → ℕ) (SameAt : ℕ → State → State → Type 0) (laws : IsLawful o) (places : IsPlaced o place SameAt) where
  -- The next summary is that of the front and the configuration after the record.
  pub advance : (v w : Kept Shape State Op Undo) (r : RunRecord Op) → IsOfStyle Optimistic r → ((ks : List Kind) → IsGood o place ks v r) → w.shape ≡ v.shape
      → ((ks : List Kind) → shown ks w ≡ next_summary place Optimistic (shown ks v) r) → (p : Standing Front Op) × IsShownOf o place v p → (p : Standing Front Op) × IsShownOf o place w p
  advance v w r style good shape is held =
      let O = rules_of o v.shape in
      let p = held.0 in
      let ks = p.front.kinds in
      let decides : DecidesRecords (summing Optimistic O place) O (translation place Optimistic ks) = decides_records Optimistic tt O place (parts_of o place SameAt laws places v.shape) (tells_states o laws v.shape) ks in
      let yes = subst (λ (B : Summary Op). SummaryGood Optimistic O place B r) (sym held.1.is) (good ks) in
      let q = after_record (translation place Optimistic ks) p r in
      let next : summary_of place q ≡ next_summary place Optimistic (shown ks v) r = decides.step p r style held.1.summable yes ∙ ap (λ (B : Summary Op). next_summary place Optimistic B r) held.1.is in
      let same : q.front.kinds ≡ ks = ap (λ (B : Summary Op). B.kinds) next ∙ kinds_stay place (shown ks v) r style in (
        q,
        record {
          summable = subst (λ (sh : Shape). Summable (rules_of o sh) place q.front q.config) (sym shape) (decides.kept p r style held.1.summable yes);
          is = next ∙ sym (is ks) ∙ ap (λ (k : List Kind). shown k w) (sym same);
        },
      )

  module _ (v : Kept Shape State Op Undo) (h : Keeps o place v) where
    -- the slots: each name with its open transaction, if it has one
    abbrev pub es : SlotList Op
    es = v.slots.entries

    named : (n : Name) (x : OpenTx (List (Item Op))) → (shown_tx n x).name ≡ n
    named n x = refl

    -- what is open at t
    pub open_is : (t : Name) → open_named t (filled shown_tx es) ≡ option_map (shown_tx t) (open_in t es)
    open_is t = found_is t shown_tx shown_tx named es h.names

    -- A transaction that is open in the slots is open in the summary.
    pub open_there : (t : Name) (x : OpenTx (List (Item Op))) → open_in t es ≡ Some x → open_named t (filled shown_tx es) ≡ Some (shown_tx t x)
    open_there t x e = open_is t ∙ ap (option_map (shown_tx t)) e

    -- An open transaction has a slot, which is filled.
    pub slot_there : (t : Name) (x : OpenTx (List (Item Op))) → open_in t es ≡ Some x → lookup (λ n. t =ⁿ n) es ≡ Some (Some x)
    slot_there t x e = slot_is (lookup (λ n. t =ⁿ n) es) x e

    -- What is kept of an open transaction is fine.
    pub fine_of : (t : Name) (x : OpenTx (List (Item Op))) → open_in t es ≡ Some x → IsFine o place v.shape x
    fine_of t x e = h.fine t x (in_slot_of t es x (slot_there t x e))

    -- An open transaction has at most all own operations of the slots.
    pub own_within : (t : Name) (x : OpenTx (List (Item Op))) → open_in t es ≡ Some x → length x.own ≤ own_total es
    own_within t x e = let k = total_set t es x None (slot_there t x e) in omega (arith, k)

    -- A good record leads to the next summary, if its parts are kept well.
    pub moves : (r : RunRecord Op) (w : Kept Shape State Op Undo) → IsOfStyle Optimistic r → ((ks : List Kind) → IsGood o place ks v r) → w.shape ≡ v.shape → w.count ≡ v.count + 1
        → ((ks : List Kind) → shown ks w ≡ next_summary place Optimistic (shown ks v) r) → Apart w.slots.entries
        → AreThreads w.threads.keys (threads_of (filled shown_tx w.slots.entries)) → ((n : Name) (x : OpenTx (List (Item Op))) → In (n, Some x) w.slots.entries → IsFine o place v.shape x)
        → IsPast o place v.shape w.past (done_ops o place w.committed) → w.past.size + own_total w.slots.entries ≤ v.count + 1 + 256 → Moves o place v r w
    moves r w style good shape count is names threads fine past few =
        record {
          shape = shape;
          count = count;
          shown = is;
          keeps =
              record {
                names = names;
                threads = threads;
                fine = λ n x i. subst (λ (sh : Shape). IsFine o place sh x) (sym shape) (fine n x i);
                past = subst (λ (sh : Shape). IsPast o place sh w.past (done_ops o place w.committed)) (sym shape) past;
                is_held = advance v w r style good shape is h.is_held;
                few = omega (arith, few, count);
              };
        }

    -- threads
    pub threads_on : (t : Name) (g : OpenSummary Op → OpenSummary Op) (l : List (OpenSummary Op)) → ((y : OpenSummary Op) → (g y).thread ≡ y.thread) → threads_of (at_open t g l) ≡ threads_of l
    threads_on t g l e = map_map (λ (y : OpenSummary Op). y.thread) (λ (y : OpenSummary Op). cond (y.name =ⁿ t) (g y) y) l
        ∙ map_same (λ (y : OpenSummary Op). (cond (y.name =ⁿ t) (g y) y).thread) (λ (y : OpenSummary Op). y.thread) l (λ y i. by y (y.name =ⁿ t))
      where
        by : (y : OpenSummary Op) (b : Bool) → (cond b (g y) y).thread ≡ y.thread
        by y true = e y
        by y false = refl

    -- Without a transaction the busy threads are those of the other open ones.
    pub threads_gone : (t : Name) (x : OpenTx (List (Item Op))) (us : List Name) → open_in t es ≡ Some x → ((q : Name) → list_any (λ z. q =ⁿ z) us ≡ cond (x.thread =ⁿ q) false (list_any (λ z. q =ⁿ z) v.threads.keys)) →
        AreThreads us (threads_of (without_open t (filled shown_tx es)))
    threads_gone t x us e u =
        let a = among t (filled shown_tx es) (shown_tx t x) (shown_apart es h.names) (open_there t x e) in
        let cut : threads_of (filled shown_tx es) ≡ threads_of a.before ++ x.thread ∷ threads_of a.after = ap (λ (l : List (OpenSummary Op)). threads_of l) a.is ∙ map-append (λ (y : OpenSummary Op). y.thread) a.before (shown_tx t x ∷ a.after) in
        subst (λ (l : List Name). AreThreads us l) (sym (ap (λ (l : List (OpenSummary Op)). threads_of l) a.without ∙ map-append (λ (y : OpenSummary Op). y.thread) a.before a.after))
        (threads_less v.threads.keys us (threads_of a.before) (threads_of a.after) x.thread (subst (λ (l : List Name). AreThreads v.threads.keys l) cut h.threads) u)

    -- Setting a slot leaves the names of the slots distinct.
    pub names_set : (t : Name) (s : Option (OpenTx (List (Item Op)))) (fs : SlotList Op) → fs ≡ set_value (λ n. t =ⁿ n) es s → Apart fs
    names_set t s fs e = subst (λ (l : List Name). (a b : Name) → Before a b l → a ≢ b) (sym (ap (λ (z : SlotList Op). keys_of z) e ∙ keys_stay t es s)) h.names

    -- Setting a slot leaves the names of the slots.
    pub keys_set : (t : Name) (s : Option (OpenTx (List (Item Op)))) (fs : SlotList Op) → fs ≡ set_value (λ n. t =ⁿ n) es s → reverse (keys_of fs) ≡ reverse (keys_of es)
    keys_set t s fs e = ap (λ (z : SlotList Op). reverse (keys_of z)) e ∙ ap (λ (z : List Name). reverse z) (keys_stay t es s)

    -- the slots after a change of one
    pub fine_set : (t : Name) (s : Option (OpenTx (List (Item Op)))) (fs : SlotList Op) → fs ≡ set_value (λ n. t =ⁿ n) es s →
        ((x : OpenTx (List (Item Op))) → s ≡ Some x → IsFine o place v.shape x) → (n : Name) (x : OpenTx (List (Item Op))) → In (n, Some x) fs → IsFine o place v.shape x
    fine_set t s fs e new n x i = elim (in_set t es s (n, Some x) (subst (λ (z : SlotList Op). In (n, Some x) z) e i)) [
      | inl j ↦ h.fine n x j
      | inr j ↦ new x (sym j)
    ]

    -- one open transaction is another one now
    pub opened_set : (t : Name) (x y : OpenTx (List (Item Op))) (g : OpenSummary Op → OpenSummary Op) (fs : SlotList Op) → open_in t es ≡ Some x → fs ≡ set_value (λ n. t =ⁿ n) es (Some y)
        → shown_tx t y ≡ g (shown_tx t x) → filled shown_tx fs ≡ at_open t g (filled shown_tx es)
    opened_set t x y g fs found slots is =
        ap (λ (z : SlotList Op). filled shown_tx z) slots
        ∙ filled_set t shown_tx shown_tx named g x y es h.names (slot_there t x found) is (λ n z i q. refl)

    -- and one is gone
    pub opened_out : (t : Name) (fs : SlotList Op) → fs ≡ set_value (λ n. t =ⁿ n) es None → filled shown_tx fs ≡ without_open t (filled shown_tx es)
    opened_out t fs slots =
        ap (λ (z : SlotList Op). filled shown_tx z) slots
        ∙ filled_out t shown_tx shown_tx named (λ y. y) es h.names (λ n z i q. refl)
        ∙ map_id (λ (y : OpenSummary Op). y) (without_open t (filled shown_tx es)) (λ y i. refl)

    -- Other states with the same operations at each place show the same.
    pub stays_with : (past : Past State Op Undo) (u : ByPart Op) → IsPast o place v.shape past (done_ops o place v.committed) → past.size ≡ v.past.size → Stays o place v (record v { past = past; by_part = u })
    stays_with past u is size =
        record {
          shape = refl;
          count = refl;
          shown = λ ks. refl;
          keeps =
              record {
                names = h.names;
                threads = h.threads;
                fine = h.fine;
                past = is;
                is_held = (h.is_held.0, record { summable = h.is_held.1.summable; is = h.is_held.1.is });
                few = (let few = h.few in omega (arith, few, size));
              };
        }

    -- What is kept shows the same as itself.
    pub stays_same : Stays o place v v
    stays_same = record { shape = refl; count = refl; shown = λ ks. refl; keeps = h }

    -- what is asked of the own operations of an open transaction
    pub own_asked : (t : Name) (x : OpenTx (List (Item Op))) → open_in t es ≡ Some x → AreAsked o v.past (ops x.own)
    own_asked t x found a i =
        let m = from_map (λ (p : Item Op). p.op) a x.own i in
        let asked = (fine_of t x found).asked m.0 m.1 in
        let fit = subst (λ (sh : Shape). IsTrue (o.fits sh m.0.op)) (sym (shape_is o place SameAt laws places v.shape v.past (done_ops o place v.committed) h.past)) asked.0 in
        subst (λ (b : Op). IsTrue (o.fits (o.shape v.past.state) b) × IsTrue (o.ranged b)) (sym m.2) (fit, asked.1)

    -- An operation that fits the shape fits the shape of the state.
    pub asked_here : (op : Op) → IsOpAsked o v.shape op → IsOpAsked o (o.shape v.past.state) op
    asked_here op asked =
        (subst (λ (sh : Shape). IsTrue (o.fits sh op)) (sym (shape_is o place SameAt laws places v.shape v.past (done_ops o place v.committed) h.past)) asked.0, asked.1)

    -- Some operations were applied to what is kept.
    pub some_past : IsSomePast o place v.past
    some_past = (v.shape, (done_ops o place v.committed, h.past))
