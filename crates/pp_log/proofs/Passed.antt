-- An item that those after it may move past, carried after them and taken back there.
use Rattle.std.proofs.Common.{◌≡◌, ℕ, ◌<◌, ◌+◌, Bool, true, false, IsTrue}
use Rattle.std.proofs.Common.{List, [], ◌∷◌, ◌++◌, length, take, drop, get_or, refl, sym, ◌∙◌, ap, subst}
use Rattle.std.proofs.Common.{arith, append_assoc, append-nil, length-append}
use Rattle.std.specs.List.{remove, swap}
use Rattle.std.proofs.Math.Seq.{get_or_at, take-length}
use Rattle.std.proofs.lemmas.List.{length-take-le, map-append}
use Rattle.std.proofs.lemmas.Option.{get_or_from_slice_get, slice_get_within}
use Rattle.std.proofs.lemmas.List.Edits.{length-remove}
use Rattle.pp_core.specs.declared.entry.Item.{Item}
use Rattle.pp_model.specs.Object.{ops}
use Rattle.pp_model.proofs.Lengths.{length-ops}
use Rattle.pp_kind.specs.Calls.{WasApplied}
use Rattle.pp_kind.specs.Object.{Object, AllowedFrom, AllRanged, IsAllowed, IsLawful, IsLegal, IsLog}
use Rattle.pp_kind.specs.Object.{IsReached}
use Rattle.pp_kind.specs.Object.{MayKeep, KeptAs, KeptAsAt, LetsPass, Swaps, state_after, state_from}
use Rattle.pp_kind.proofs.Lists.{allowed-append, allowed-first, allowed-second, state-append}
use Rattle.pp_kind.proofs.Passing.{IsPair, left_by, pair, passed_last, turned}
use Rattle.pp_kind.proofs.Places.{reached_is_state}
use Rattle.pp_log.specs.Carries.{CarriesOut, IsCarried, IsOnWay}
use Rattle.pp_log.specs.Parts.{AllAt}
use Rattle.pp_log.specs.Runs.{IsRun, kept_along}
use Rattle.pp_log.specs.TakesOut.{Passes}
use Rattle.pp_log.proofs.Edits.{ranged-remove, run_without}
use Rattle.pp_log.proofs.Lists.{cut_there, get_second, remove_mid, swap_mid}
use Rattle.pp_log.proofs.Runs.{kept-append, length-kept, log-append, ranged-get}

-- Operations from the state b of a log on.
module _ {Shape State Op Undo : Type 0} (o : Object Shape State Op Undo) (laws : IsLawful o) (b : State) (base : List Op) (log : IsLog o b base) where
  abbrev sh : Shape
  sh = o.shape b

  -- The state after a log and more operations is the one after these from the log's state.
  pub seen : (x : List Op) → state_after o sh (base ++ x) ≡ state_from o b x
  seen x = state-append o (o.start sh) base x ∙ ap (λ (t : State). state_from o t x) (sym log.is)

  -- Operations that are allowed from the state of a log are allowed after the log.
  pub long : (x : List Op) → AllowedFrom o b x → IsAllowed o sh (base ++ x)
  long x h = allowed-append o (o.start sh) base x log.allowed (subst (λ (t : State). AllowedFrom o t x) log.is h)

  -- Operations that are allowed after a log are allowed from its state.
  pub short : (x : List Op) → IsAllowed o sh (base ++ x) → AllowedFrom o b x
  short x h = subst (λ (t : State). AllowedFrom o t x) (sym log.is) (allowed-second o (o.start sh) base x h)

  -- The operation a, and c after it, which may move past a.
  module _ (x z : List Op) (a c : Op) (swaps : Swaps o a c) (h : AllowedFrom o b (x ++ a ∷ c ∷ z)) where
    whole : IsAllowed o sh ((base ++ x) ++ a ∷ c ∷ z)
    whole = subst (IsAllowed o sh) (sym (append_assoc base x (a ∷ c ∷ z))) (long (x ++ a ∷ c ∷ z) h)

    stands : IsPair o laws (state_from o b x) a c
    stands = subst (λ (t : State). IsPair o laws t a c) (seen x) (pair o laws sh (base ++ x) z a c swaps whole)

    -- An operation moves past the next one of an allowed list, if the two swap.
    pub turned_on : AllowedFrom o b ((x ++ c ∷ []) ++ a ∷ z)
    turned_on = short ((x ++ c ∷ []) ++ a ∷ z) (subst (IsAllowed o sh) (append_assoc base (x ++ c ∷ []) (a ∷ z))
        (subst (λ (w : List Op). IsAllowed o sh (w ++ a ∷ z)) (append_assoc base x (c ∷ [])) (turned o laws sh (base ++ x) z a c swaps whole)))

    -- in both orders they lead to one state
    pub one_end : state_from o b (x ++ a ∷ c ∷ z) ≡ state_from o b ((x ++ c ∷ []) ++ a ∷ z)
    one_end = state-append o b x (a ∷ c ∷ z) ∙ ap (λ (t : State). state_from o t z) stands.one_state
        ∙ sym (state-append o b x (c ∷ a ∷ z)) ∙ ap (state_from o b) (sym (append_assoc x (c ∷ []) (a ∷ z)))

    kept_at : (t : Bool) → KeptAs o t a c → KeptAsAt o t (state_from o b x) a c
    kept_at t kept = kept (state_from o b x) stands.is_state stands.first stands.other stands.second

    abbrev s : State
    s = state_from o b x

    abbrev front : List Undo
    front = kept_along o b x

    abbrev rest : List Undo
    rest = kept_along o (o.next (o.next s a) c) z

    -- The undo values of all operations, before and after.
    before : kept_along o b (x ++ a ∷ c ∷ z) ≡ front ++ o.upkeep.kept s a ∷ o.upkeep.kept (o.next s a) c ∷ rest
    before = kept-append o b x (a ∷ c ∷ z)

    after : kept_along o b ((x ++ c ∷ []) ++ a ∷ z) ≡ front ++ o.upkeep.kept s c ∷ o.upkeep.kept (o.next s c) a ∷ rest
    after = ap (kept_along o b) (append_assoc x (c ∷ []) (a ∷ z)) ∙ kept-append o b x (c ∷ a ∷ z)
        ∙ ap (λ (t : State). front ++ o.upkeep.kept s c ∷ o.upkeep.kept (o.next s c) a ∷ kept_along o t z) (sym stands.one_state)

    both_now : (v w : Undo) → o.upkeep.kept s c ≡ v → o.upkeep.kept (o.next s c) a ≡ w → front ++ v ∷ w ∷ rest ≡ kept_along o b ((x ++ c ∷ []) ++ a ∷ z)
    both_now v w first second = sym (after ∙ ap (λ (u : Undo). front ++ u ∷ o.upkeep.kept (o.next s c) a ∷ rest) first ∙ ap (λ (u : Undo). front ++ v ∷ u ∷ rest) second)

    -- The undo value of c is what c keeps in some state.
    pub other_may_keep : (us : List Undo) (d : Undo) (n : ℕ) → length x ≡ n → us ≡ kept_along o b (x ++ a ∷ c ∷ z) → MayKeep o c (get_or us (n + 1) d)
    other_may_keep us d n is kept = (
      o.next s a,
      stands.second,
      sym (ap (λ (l : List Undo). get_or l (n + 1) d) (kept ∙ before)
          ∙ get_second front rest (o.upkeep.kept s a) (o.upkeep.kept (o.next s a) c) d n (length-kept o b x ∙ is)),
    )

    -- The operation a comes after c. Each keeps what it kept, and the two values are exchanged.
    pub kept_alone : (us : List Undo) (n : ℕ) → length x ≡ n → KeptAs o false a c → us ≡ kept_along o b (x ++ a ∷ c ∷ z) → swap us n (n + 1) ≡ kept_along o b ((x ++ c ∷ []) ++ a ∷ z)
    kept_alone us n is alone kept =
        let both = kept_at false alone in
        ap (λ (l : List Undo). swap l n (n + 1)) (kept ∙ before)
        ∙ swap_mid front rest (o.upkeep.kept s a) (o.upkeep.kept (o.next s a) c) n (length-kept o b x ∙ is)
        ∙ both_now (o.upkeep.kept (o.next s a) c) (o.upkeep.kept s a) both.0 both.1

    -- or they keep in turn, and the list stays
    pub kept_in_turn : (us : List Undo) → KeptAs o true a c → us ≡ kept_along o b (x ++ a ∷ c ∷ z) → us ≡ kept_along o b ((x ++ c ∷ []) ++ a ∷ z)
    kept_in_turn us in_turn kept =
        let both = kept_at true in_turn in
        kept ∙ before ∙ both_now (o.upkeep.kept s a) (o.upkeep.kept (o.next s a) c) both.0 both.1

  -- An operation that exchanges no undo value leaves what the others kept, and keeps the same after them.
  module _ (a : Op) (alone : (c : Op) → Swaps o a c → KeptAs o false a c) where
    along : (z x : List Op) → LetsPass o a z → AllowedFrom o b (x ++ a ∷ z)
        → (kept_along o (o.next (state_from o b x) a) z ≡ kept_along o (state_from o b x) z) × (o.upkeep.kept (state_from o b (x ++ z)) a ≡ o.upkeep.kept (state_from o b x) a)
    along [] x p h = (refl, ap (λ (l : List Op). o.upkeep.kept (state_from o b l) a) (append-nil x))
    along (c ∷ z) x p h =
        let s = state_from o b x in
        let both = kept_at x z a c p.0 h false (alone c p.0) in
        let stand = stands x z a c p.0 h in
        let rest = along z (x ++ c ∷ []) p.1 (turned_on x z a c p.0 h) in
        let next : state_from o b (x ++ c ∷ []) ≡ o.next s c = state-append o b x (c ∷ []) in (
          ap (λ (u : Undo). u ∷ kept_along o (o.next (o.next s a) c) z) (sym both.0)
              ∙ ap (λ (t : State). o.upkeep.kept s c ∷ kept_along o t z) stand.one_state
              ∙ ap (λ (us : List Undo). o.upkeep.kept s c ∷ us) (subst (λ (t : State). kept_along o (o.next t a) z ≡ kept_along o t z) next rest.0),
          ap (λ (l : List Op). o.upkeep.kept (state_from o b l) a) (sym (append_assoc x (c ∷ []) z)) ∙ rest.1 ∙ ap (λ (t : State). o.upkeep.kept t a) next ∙ both.1,
        )

    -- An operation that keeps its value in any order is carried to the end with that value.
    pub carried_alone : (x z : List Op) (us : List Undo) (d : Undo) (n : ℕ) → length x ≡ n → LetsPass o a z → AllowedFrom o b (x ++ a ∷ z) → us ≡ kept_along o b (x ++ a ∷ z)
        → IsCarried o b (x ++ z) a (remove us n) (get_or us n d)
    carried_alone x z us d n is p h kept =
        let s = state_from o b x in
        let front = kept_along o b x in
        let rest = kept_along o (o.next s a) z in
        let cut = kept ∙ kept-append o b x (a ∷ z) in
        let size : length front ≡ n = length-kept o b x ∙ is in
        let both = along z x p h in
        record {
          others = ap (λ (l : List Undo). remove l n) cut ∙ ap (remove (front ++ o.upkeep.kept s a ∷ rest)) (sym size)
              ∙ remove_mid front rest (o.upkeep.kept s a) ∙ ap (λ (l : List Undo). front ++ l) both.0 ∙ sym (kept-append o b x z);
          own = ap (λ (l : List Undo). get_or l n d) cut ∙ get_or_at front (o.upkeep.kept s a) rest d n size ∙ sym both.1;
        }

-- All items of the place were applied. Those after the i-th one may move past it.
module _ {Shape State Op Undo : Type 0} (o : Object Shape State Op Undo) (laws : IsLawful o) (b s : State) (items : List (Item Op)) (us : List Undo) (h : IsRun o b items us s) (all : length us ≡ length items)
    (i : ℕ) (e : Item Op) (k : i < length items) (is : e ≡ get_or items i e) where
  abbrev a : Op
  a = e.op

  abbrev x : List Op
  x = ops (take i items)

  abbrev y : List Op
  y = ops (drop (i + 1) items)

  cut : ops items ≡ x ++ a ∷ y
  cut = ap ops (cut_there items i e k is) ∙ map-append (λ (f : Item Op). f.op) (take i items) (e ∷ drop (i + 1) items)

  whole_list : take (length us) (ops items) ≡ x ++ a ∷ y
  whole_list = ap (λ (n : ℕ). take n (ops items)) (all ∙ sym (length-ops items)) ∙ take-length (ops items) ∙ cut

  -- The item with the items before and after it is allowed.
  pub allowed_there : AllowedFrom o b (x ++ a ∷ y)
  allowed_there = subst (AllowedFrom o b) whole_list h.allowed

  size : length (take i items) ≡ i
  size = length-take-le i items (omega arith)

  -- The undo values of all items.
  pub undos : us ≡ kept_along o b (x ++ a ∷ y)
  undos = h.kept ∙ ap (kept_along o b) whole_list

  -- the operations that are left
  ops_left : ops (remove items i) ≡ x ++ y
  ops_left =
      ap (λ (n : ℕ). ops (remove items n)) (sym size) ∙ ap (λ (l : List (Item Op)). ops (remove l (length (take i items)))) (cut_there items i e k is)
      ∙ ap ops (remove_mid (take i items) (drop (i + 1) items) e) ∙ map-append (λ (f : Item Op). f.op) (take i items) (drop (i + 1) items)

  -- The item was carried after all others.
  module _ (p : LetsPass o e.op (ops (drop (i + 1) items))) (vs : List Undo) (u : Undo) (carried : IsCarried o b (x ++ y) a vs u) where
    last : IsAllowed o (o.shape b) (((h.base ++ x) ++ y) ++ a ∷ [])
    last = passed_last o laws (o.shape b) (h.base ++ x) y a p
        (subst (IsAllowed o (o.shape b)) (sym (append_assoc h.base x (a ∷ y))) (long o laws b h.base h.log (x ++ a ∷ y) allowed_there))

    left : AllowedFrom o b ((x ++ y) ++ a ∷ [])
    left = short o laws b h.base h.log ((x ++ y) ++ a ∷ [])
        (subst (IsAllowed o (o.shape b)) (append_assoc h.base (x ++ y) (a ∷ []))
        (subst (λ (w : List Op). IsAllowed o (o.shape b) (w ++ a ∷ [])) (append_assoc h.base x y) last))

    others : AllowedFrom o b (x ++ y)
    others = allowed-first o b (x ++ y) (a ∷ []) left

    state_is : s ≡ o.next (state_from o b (x ++ y)) a
    state_is =
        h.is ∙ ap (state_from o b) whole_list ∙ sym (seen o laws b h.base h.log (x ++ a ∷ y))
        ∙ ap (state_after o (o.shape b)) (sym (append_assoc h.base x (a ∷ y)))
        ∙ left_by o laws (o.shape b) (h.base ++ x) y a p (subst (IsAllowed o (o.shape b)) (sym (append_assoc h.base x (a ∷ y))) (long o laws b h.base h.log (x ++ a ∷ y) allowed_there))
        ∙ ap (λ (l : List Op). o.next (state_after o (o.shape b) l) a) (append_assoc h.base x y)
        ∙ ap (λ (r : State). o.next r a) (seen o laws b h.base h.log (x ++ y))

    legal : IsLegal o (state_from o b (x ++ y)) a
    legal = (allowed-second o b (x ++ y) (a ∷ []) left).0

    reached : IsReached o (state_from o b (x ++ y))
    reached = record {
      ops = h.base ++ (x ++ y);
      log = log-append o laws b h.base (x ++ y) h.log others (subst (λ (l : List Op). AllRanged o l) ops_left (ranged-remove o items i h.ranged));
      few = let few = h.few in let n = ap length ops_left ∙ length-append x y in let m = length-ops (remove items i) in let r = length-remove items i k in
          let both = length-append h.base (x ++ y) in let xy = length-append x y in omega (arith, few, n, m, r, both, xy, k);
    }

    -- it may be taken back as the last one
    pub was_applied : WasApplied o a u s
    was_applied =
        let ranged = subst (λ (f : Item Op). IsTrue (o.ranged f.op)) (sym is) (ranged-get o items i e k h.ranged) in
        (state_from o b (x ++ y), reached, ranged, legal, state_is, carried.own)

    -- After one item is taken out, each other item still has an undo value.
    pub all_left : length vs ≡ length (remove items i)
    all_left = ap length carried.others ∙ length-kept o b (x ++ y) ∙ ap length (sym ops_left) ∙ length-ops (remove items i)

    -- and then the others are what was applied
    pub run_left : IsRun o b (remove items i) vs (o.upkeep.back s a u)
    run_left =
        let none : IsRun o b items [] b = record {
          base = h.base;
          log = h.log;
          few = h.few;
          fit = h.fit;
          ranged = h.ranged;
          within = omega arith;
          allowed = tt;
          is = refl;
          kept = refl;
        } in
        let shorter = run_without o b b items [] i (omega arith) k none in
        let n = length-remove items i k in
        let full : take (length vs) (ops (remove items i)) ≡ x ++ y =
        ap (λ (j : ℕ). take j (ops (remove items i))) (all_left ∙ sym (length-ops (remove items i))) ∙ take-length (ops (remove items i)) ∙ ops_left in
        let is_state = reached_is_state o laws (o.shape b) (h.base ++ (x ++ y)) (long o laws b h.base h.log (x ++ y) others) in
        let here = subst o.upkeep.IsState (seen o laws b h.base h.log (x ++ y)) is_state in
        record {
          base = h.base;
          log = h.log;
          few = let few = h.few in omega (arith, few, n);
          fit = shorter.fit;
          ranged = shorter.ranged;
          within = let m = all_left in omega (arith, m);
          allowed = subst (AllowedFrom o b) (sym full) others;
          is = ap (λ (r : State). o.upkeep.back r a u) state_is
              ∙ ap (o.upkeep.back (o.next (state_from o b (x ++ y)) a) a) carried.own
              ∙ laws.taken_back (state_from o b (x ++ y)) a here legal ∙ ap (state_from o b) (sym full);
          kept = carried.others ∙ ap (kept_along o b) (sym full);
        }

-- The i-th item, with the operation a. Those after it may move past it.
module _ {Shape State Op Undo : Type 0} (o : Object Shape State Op Undo) (laws : IsLawful o) (b s : State) (items z : List (Item Op)) (us : List Undo) (i : ℕ) (a : Op) (h : IsRun o b items us s) (all : length us ≡ length items)
    (passes : Passes o items i a z) where
  within : i < length items
  within = slice_get_within items i passes.item passes.is

  is : passes.item ≡ get_or items i passes.item
  is = sym (get_or_from_slice_get items i passes.item passes.item passes.is)

  behind : LetsPass o passes.item.op (ops (drop (i + 1) items))
  behind = subst (λ (l : List (Item Op)). LetsPass o passes.item.op (ops l)) (sym passes.others) (subst (λ (c : Op). LetsPass o c (ops z)) (sym passes.op) passes.behind)

  -- before it is carried
  way_first : IsOnWay o b h.base (ops (take i items)) (ops z) a us
  way_first =
      subst (λ (l : List (Item Op)). IsOnWay o b h.base (ops (take i items)) (ops l) a us) passes.others
      (subst (λ (c : Op). IsOnWay o b h.base (ops (take i items)) (ops (drop (i + 1) items)) c us) passes.op (record {
        log = h.log;
        allowed = allowed_there o laws b s items us h all i passes.item within is;
        kept = undos o laws b s items us h all i passes.item within is;
      }))

  many_before : length (ops (take i items)) ≡ i
  many_before = let k = within in length-ops (take i items) ∙ length-take-le i items (omega arith)

  -- The item, carried after all others.
  pub way_last : (place : Op → ℕ) (vs : List Undo) (v : Undo) → AllAt place (place a) (ops z) → CarriesOut o place a i us vs v → IsCarried o b (ops (take i items) ++ ops z) a vs v
  way_last place vs v one_place carries = carries b h.base (ops (take i items)) (ops z) many_before passes.behind one_place way_first

  -- and then it is out
  module _ (vs : List Undo) (v : Undo) (carried : IsCarried o b (ops (take i items) ++ ops z) a vs v) where
    carried_all : IsCarried o b (ops (take i items) ++ ops (drop (i + 1) items)) passes.item.op vs v
    carried_all = subst (λ (l : List (Item Op)). IsCarried o b (ops (take i items) ++ ops l) passes.item.op vs v) (sym passes.others)
        (subst (λ (c : Op). IsCarried o b (ops (take i items) ++ ops z) c vs v) (sym passes.op) carried)

    -- An operation that is carried past all others was applied last, with its carried undo value.
    pub applied_out : WasApplied o a v s
    applied_out = subst (λ (c : Op). WasApplied o c v s) passes.op (was_applied o laws b s items us h all i passes.item within is behind vs v carried_all)

    -- After the carried operation is taken back, the others make a run.
    pub run_out : IsRun o b (remove items i) vs (o.upkeep.back s a v)
    run_out = subst (λ (c : Op). IsRun o b (remove items i) vs (o.upkeep.back s c v)) passes.op (run_left o laws b s items us h all i passes.item within is behind vs v carried_all)

    -- After one item is taken out, all other items are still applied.
    pub all_out : length vs ≡ length (remove items i)
    all_out = all_left o laws b s items us h all i passes.item within is behind vs v carried_all
