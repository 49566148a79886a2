-- The gap that an operation leaves, carried over others, and the place at which it is closed.
use Rattle.std.proofs.Common.{◌≡◌, ℕ, ◌<◌, ◌+◌, ◌-◌, List, [], ◌∷◌, ◌++◌, length, map, take, drop, get_or}
use Rattle.std.proofs.Common.{refl, sym, ◌∙◌, ap, subst, arith, length-append}
use Rattle.std.specs.List.{remove, slice_set}
use Rattle.std.proofs.Math.Seq.{get_or_at, take-length}
use Rattle.pp_core.specs.declared.entry.Item.{Item}
use Rattle.pp_model.specs.Object.{ops}
use Rattle.pp_model.proofs.Lengths.{length-ops}
use Rattle.pp_kind.specs.Gaps.{ClosesTo, Crosses, MayClose}
use Rattle.pp_kind.specs.Object.{AllowedFrom, AllRanged, IsLawful, IsLog, IsReached, Object, state_from}
use Rattle.pp_kind.specs.declared.gapped.Crossed.TheVariants as crossed
use Rattle.pp_kind.proofs.Lists.{allowed-append, allowed-first, allowed-second, allowed_is_state, state-append}
use Rattle.pp_log.specs.declared.gap.Crossing.TheVariants as crossing
use Rattle.pp_log.specs.declared.place.Place.{Place}
use Rattle.pp_log.specs.Gaps.{AllMeet, AllStayApart, CrossesAll, LeavesGap}
use Rattle.pp_log.specs.Parts.{items_on, with_first}
use Rattle.pp_log.specs.Room.{ids_of}
use Rattle.pp_log.specs.Runs.{IsRun, kept_along}
use Rattle.pp_log.specs.TakesOut.{IsWhole, Passes}
use Rattle.pp_log.proofs.Edits.{run_without}
use Rattle.pp_log.proofs.Grown.{ids-remove}
use Rattle.pp_log.proofs.Lists.{at_first, behind_first, drop_there, only_one, remove_mid, set_behind, set_mid}
use Rattle.pp_log.proofs.Parted.{none_more_there, one_more_there, ops-append, there_at}
use Rattle.pp_log.proofs.Replayed.{all_is, items_parts, whole_is}
use Rattle.pp_log.proofs.Runs.{kept-append, kept-push, length-kept, log-append, log_is_state}

module _ {Shape State Op Undo Gap : Type 0} (o : Object Shape State Op Undo) (laws : IsLawful o) (Bears : Gap → State → Type 0) (Differ : Gap → State → State → Type 0) where
  behind : (s : State) (x : List Op) → o.upkeep.IsState s → AllowedFrom o s x → o.upkeep.IsState (state_from o s x)
  behind s x is h = allowed_is_state o s x laws.next_is_state is h

  -- A gap stays the same over no operations.
  pub crossed_none : (g : Gap) → CrossesAll o Bears Differ g [] (crossing.Apart g)
  crossed_none g = λ s is h bears. (bears, λ t it d. record { allowed = tt; differ = d; kept = refl })

  -- an operation more is crossed
  pub crossed_more : (g h k : Gap) (x : List Op) (b : Op) → CrossesAll o Bears Differ g x (crossing.Apart h) → Crosses o Bears Differ h b (crossed.Apart k) → CrossesAll o Bears Differ g (x ++ b ∷ []) (crossing.Apart k)
  crossed_more g h k x b all one = λ s is allowed bears.
      let first = allowed-first o s x (b ∷ []) allowed in
      let next = state-append o s x (b ∷ []) in
      let here = one (state_from o s x) (behind s x is first) (allowed-second o s x (b ∷ []) allowed).0 (subst (Bears k) next bears) in
      let before = all s is first here.0 in (
        before.0,
        λ t it d.
            let apart = before.1 t it d in
            let stays = here.1 (state_from o t x) (behind t x it apart.allowed) apart.differ in
            record {
              allowed = allowed-append o t x (b ∷ []) apart.allowed (stays.legal, tt);
              differ = subst (λ (r : State). Differ k r (state_from o t (x ++ b ∷ []))) (sym next)
                  (subst (λ (r : State). Differ k (o.next (state_from o s x) b) r) (sym (state-append o t x (b ∷ []))) stays.differ);
              kept = kept-push o t x b ∙ ap (λ (us : List Undo). us ++ o.upkeep.kept (state_from o t x) b ∷ []) apart.kept
                  ∙ ap (λ (u : Undo). kept_along o s x ++ u ∷ []) stays.kept ∙ sym (kept-push o s x b);
            },
      )

  -- An operation closes the gap, and others are after it.
  pub crossed_to_end : (g h : Gap) (x y : List Op) (b : Op) (u : Undo) → CrossesAll o Bears Differ g x (crossing.Apart h) → Crosses o Bears Differ h b (crossed.Same u) → CrossesAll o Bears Differ g (x ++ b ∷ y) (crossing.Same (length x) u)
  crossed_to_end g h x y b u all one =
      let both = length-append x (b ∷ y) in
      let within : length x < length (x ++ b ∷ y) = omega arith in (
        within,
        λ s is allowed.
            let r = state_from o s x in
            let first = allowed-first o s x (b ∷ y) allowed in
            let second = allowed-second o s x (b ∷ y) allowed in
            let here = one r (behind s x is first) second.0 in
            let before = all s is first here.0 in (
              before.0,
              λ t it d.
                  let apart = before.1 t it d in
                  let q = state_from o t x in
                  let meets = here.1 q (behind t x it apart.allowed) apart.differ in
                  let front = kept_along o s x in
                  let rest = kept_along o (o.next r b) y in
                  let set : slice_set (front ++ o.upkeep.kept r b ∷ rest) (length x) u ≡ front ++ u ∷ rest =
                  ap (λ (n : ℕ). slice_set (front ++ o.upkeep.kept r b ∷ rest) n u) (sym (length-kept o s x)) ∙ set_mid front rest (o.upkeep.kept r b) u in
                  record {
                    allowed = allowed-append o t x (b ∷ y) apart.allowed (meets.legal, subst (λ (p : State). AllowedFrom o p y) (sym meets.same) second.1);
                    same = state-append o t x (b ∷ y) ∙ ap (λ (p : State). state_from o p y) meets.same ∙ sym (state-append o s x (b ∷ y));
                    kept = kept-append o t x (b ∷ y) ∙ ap (λ (us : List Undo). us ++ o.upkeep.kept q b ∷ kept_along o (o.next q b) y) apart.kept
                        ∙ ap (λ (v : Undo). front ++ v ∷ kept_along o (o.next q b) y) meets.kept
                        ∙ ap (λ (p : State). front ++ u ∷ kept_along o p y) meets.same
                        ∙ sym set ∙ ap (λ (us : List Undo). slice_set us (length x) u) (sym (kept-append o s x (b ∷ y)));
                  },
            ),
      )

  -- Entries, of which those of a place before the k-th are crossed.
  module _ {E : Type 0} (place : Op → ℕ) (f : E → Item Op) (p : ℕ) (x : List E) (k : ℕ) (d : E) (lt : k < length x) (is : d ≡ get_or x k d) (g h : Gap) (so_far : CrossesAll o Bears Differ g (ops (items_on place f p (take k x))) (crossing.Apart h)) where
    abbrev done : List (Item Op)
    done = items_on place f p (take k x)

    -- A gap that crosses the next entry of its place crosses the entries up to this one.
    pub crossed_item : (next : Gap) → place (f d).op ≡ p → Crosses o Bears Differ h (f d).op (crossed.Apart next) → CrossesAll o Bears Differ g (ops (items_on place f p (take (k + 1) x))) (crossing.Apart next)
    crossed_item next at one =
        let more : ops (items_on place f p (take (k + 1) x)) ≡ ops done ++ (f d).op ∷ [] = ap ops (one_more_there place f p x k d lt is at) ∙ ops-append done (f d ∷ []) in
        subst (λ (l : List Op). CrossesAll o Bears Differ g l (crossing.Apart next)) (sym more) (crossed_more g h next (ops done) (f d).op so_far one)

    -- An entry of another place leaves the gap over the first entries the same.
    pub crossed_other : (place (f d).op ≡ p → ⊥) → CrossesAll o Bears Differ g (ops (items_on place f p (take (k + 1) x))) (crossing.Apart h)
    crossed_other off = subst (λ (l : List (Item Op)). CrossesAll o Bears Differ g (ops l) (crossing.Apart h)) (sym (none_more_there place f p x k d lt is off)) so_far

    -- If the states meet at the next entry of the place, they meet over all its entries.
    pub crossed_last : (n : ℕ) (u : Undo) → place (f d).op ≡ p → n ≡ length done → Crosses o Bears Differ h (f d).op (crossed.Same u) → CrossesAll o Bears Differ g (ops (items_on place f p x)) (crossing.Same n u)
    crossed_last n u at size one =
        let rest = items_on place f p (drop (k + 1) x) in
        let cut : ops (items_on place f p x) ≡ ops done ++ (f d).op ∷ ops rest =
        ap ops (items_parts place f p x k ∙ ap (λ (l : List E). done ++ items_on place f p l) (drop_there x k d lt is)
        ∙ ap (λ (l : List (Item Op)). done ++ l) (there_at place p (f d) (map f (drop (k + 1) x)) at)) ∙ ops-append done (f d ∷ rest) in
        subst (λ (l : List Op). CrossesAll o Bears Differ g l (crossing.Same n u)) (sym cut)
        (subst (λ (m : ℕ). CrossesAll o Bears Differ g (ops done ++ (f d).op ∷ ops rest) (crossing.Same m u)) (length-ops done ∙ sym size)
        (crossed_to_end g h (ops done) (ops rest) (f d).op u so_far one))

-- All items of a place were applied, of which e, with the operation a, is after these and before z.
module _ {Shape State Op Undo : Type 0} (o : Object Shape State Op Undo) (laws : IsLawful o) (b s : State) (before items : List (Item Op)) (from : ℕ) (q : Place Undo)
    (e : Item Op) (z : List (Item Op)) (is : items ≡ e ∷ z) (size : length before ≡ from) (whole : IsWhole o b (before ++ items) q s) where
  abbrev x : List Op
  x = ops before

  abbrev a : Op
  a = e.op

  abbrev y : List Op
  y = ops z

  abbrev us : List Undo
  us = q.undos.items

  abbrev here : State
  here = state_from o b x

  abbrev front : List Undo
  front = kept_along o b x

  abbrev rest : List Undo
  rest = kept_along o (o.next here a) y

  run : IsRun o b (before ++ e ∷ z) us s
  run = subst (λ (l : List (Item Op)). IsRun o b (before ++ l) us s) is whole.run

  all : length us ≡ length (before ++ e ∷ z)
  all = whole.all ∙ ap (λ (l : List (Item Op)). length (before ++ l)) is

  list : take (length us) (ops (before ++ e ∷ z)) ≡ x ++ a ∷ y
  list = ap (λ (n : ℕ). take n (ops (before ++ e ∷ z))) (all ∙ sym (length-ops (before ++ e ∷ z))) ∙ take-length (ops (before ++ e ∷ z)) ∙ ops-append before (e ∷ z)

  allowed : AllowedFrom o b (x ++ a ∷ y)
  allowed = subst (AllowedFrom o b) list run.allowed

  first : AllowedFrom o b x
  first = allowed-first o b x (a ∷ y) allowed

  -- The removed operation and those after it are allowed from the state before it.
  pub from_here : AllowedFrom o here (a ∷ y)
  from_here = allowed-second o b x (a ∷ y) allowed

  b_is_state : o.upkeep.IsState b
  b_is_state = log_is_state o laws b run.base run.log

  -- The state before the removed operation is one that the laws speak of (`IsState`).
  pub here_is_state : o.upkeep.IsState here
  here_is_state = allowed_is_state o b x laws.next_is_state b_is_state first

  -- The removed operation and those after it lead from the state before it to the log's state.
  pub state_is : s ≡ state_from o here (a ∷ y)
  state_is = run.is ∙ ap (state_from o b) list ∙ state-append o b x (a ∷ y)

  undos_are : us ≡ front ++ o.upkeep.kept here a ∷ rest
  undos_are = run.kept ∙ ap (kept_along o b) list ∙ kept-append o b x (a ∷ y)

  front_size : length front ≡ from
  front_size = length-kept o b x ∙ length-ops before ∙ size

  -- The undo value at the position is what the removed operation kept.
  pub kept_here : (u : Undo) → u ≡ get_or us from u → o.upkeep.kept here a ≡ u
  kept_here u at = sym (at ∙ ap (λ (l : List Undo). get_or l from u) undos_are ∙ get_or_at front (o.upkeep.kept here a) rest u from front_size)

  others_are : remove us from ≡ front ++ rest
  others_are = ap (λ (l : List Undo). remove l from) undos_are ∙ ap (remove (front ++ o.upkeep.kept here a ∷ rest)) (sym front_size) ∙ remove_mid front rest (o.upkeep.kept here a)

  rest_size : length rest ≡ length z
  rest_size = length-kept o (o.next here a) y ∙ length-ops z

  -- Each operation after the removed one has a value among the undo values that are left.
  pub others_have : (at : ℕ) → at < length y → from + at < length (remove us from)
  others_have at h =
      let n = ap length others_are in
      let both = length-append front rest in
      let f = front_size in
      let r = rest_size in
      let m = length-ops z in
      omega arith

  -- the items without it
  none_applied : IsRun o b (before ++ z) [] b
  none_applied =
      let none : IsRun o b (before ++ e ∷ z) [] b = record {
        base = run.base;
        log = run.log;
        few = run.few;
        fit = run.fit;
        ranged = run.ranged;
        within = omega arith;
        allowed = tt;
        is = refl;
        kept = refl;
      } in
      let both = length-append before (e ∷ z) in
      subst (λ (l : List (Item Op)). IsRun o b l [] b) (remove_mid before z e) (run_without o b b (before ++ e ∷ z) [] (length before) (omega arith) (omega arith) none)

  left_is : remove (before ++ items) from ≡ before ++ z
  left_is = ap (λ (l : List (Item Op)). remove (before ++ l) from) is ∙ ap (remove (before ++ e ∷ z)) (sym size) ∙ remove_mid before z e

  -- they are allowed, lead to t, and leave these
  module _ (t : State) (next : Place Undo) (ids_are : next.ids.items ≡ remove q.ids.items from)
      (ok : AllowedFrom o here y) (t_is : t ≡ state_from o here y) (kept : next.undos.items ≡ front ++ kept_along o here y) where
    undos_size : length next.undos.items ≡ length (before ++ z)
    undos_size =
        ap length kept ∙ ap length (sym (kept-append o b x y)) ∙ length-kept o b (x ++ y) ∙ ap length (sym (ops-append before z)) ∙ length-ops (before ++ z)

    cut : take (length next.undos.items) (ops (before ++ z)) ≡ x ++ y
    cut = ap (λ (n : ℕ). take n (ops (before ++ z))) (undos_size ∙ sym (length-ops (before ++ z))) ∙ take-length (ops (before ++ z)) ∙ ops-append before z

    -- A place is whole without an item, if the others are allowed and these values are kept.
    pub whole_left : IsWhole o b (remove (before ++ items) from) next t
    whole_left =
        let none = none_applied in
        let n = undos_size in
        subst (λ (l : List (Item Op)). IsWhole o b l next t) (sym left_is) (record {
          run = record {
            base = none.base;
            log = none.log;
            few = none.few;
            fit = none.fit;
            ranged = none.ranged;
            within = omega arith;
            allowed = subst (AllowedFrom o b) (sym cut) (allowed-append o b x y first ok);
            is = t_is ∙ sym (state-append o b x y) ∙ ap (state_from o b) (sym cut);
            kept = kept ∙ sym (kept-append o b x y) ∙ ap (kept_along o b) (sym cut);
          };
          all = undos_size;
          ids = ids_are ∙ ap (λ (l : List ℕ). remove l from) whole.ids ∙ ids-remove (before ++ items) from ∙ ap ids_of left_is;
        })

  -- The state that the other operations lead to is reached, if they are allowed.
  pub reached_left : AllowedFrom o here y → IsReached o (state_from o here y)
  reached_left ok =
      let none = none_applied in
      let few = run.few in
      let m = length-append before (e ∷ z) in
      let k = length-append run.base (x ++ y) in
      let xy = length-append x y in
      let nx = length-ops before in
      let ny = length-ops z in
      record {
        ops = run.base ++ (x ++ y);
        log = subst (λ (r : State). IsLog o r (run.base ++ (x ++ y))) (state-append o b x y)
            (log-append o laws b run.base (x ++ y) run.log (allowed-append o b x y first ok) (subst (AllRanged o) (ops-append before z) none.ranged));
        few = omega arith;
      }

  module _ {Gap : Type 0} (Bears : Gap → State → Type 0) (Differ : Gap → State → State → Type 0) (u : Undo) (at_from : u ≡ get_or us from u) where
    -- the operation changes nothing
    module _ (leaves : LeavesGap o Bears Differ a u y crossing.Idle) (next : Place Undo) (ids_are : next.ids.items ≡ remove q.ids.items from) where
      same_here : o.next here a ≡ here
      same_here = leaves here here_is_state from_here (kept_here u at_from)

      -- If the removed operation changes nothing, the place is whole without it in the same state.
      pub out_idle : next.undos.items ≡ remove us from → IsWhole o b (remove (before ++ items) from) next s
      out_idle undos = whole_left s next ids_are (subst (λ (r : State). AllowedFrom o r y) same_here from_here.1)
          (state_is ∙ ap (λ (r : State). state_from o r y) same_here) (undos ∙ others_are ∙ ap (λ (r : State). front ++ kept_along o r y) same_here)

    -- the states come together
    module _ (at : ℕ) (v : Undo) (leaves : LeavesGap o Bears Differ a u y (crossing.Same at v)) (next : Place Undo) (ids_are : next.ids.items ≡ remove q.ids.items from) where
      together : AllMeet o y at v (o.next here a) here
      together = leaves.1 here here_is_state from_here (kept_here u at_from)

      -- If the states come together, the place is whole without the operation in the same state.
      pub out_same : next.undos.items ≡ slice_set (remove us from) (from + at) v → IsWhole o b (remove (before ++ items) from) next s
      out_same undos = whole_left s next ids_are together.allowed (state_is ∙ sym together.same)
          (undos ∙ ap (λ (l : List Undo). slice_set l (from + at) v) others_are
          ∙ set_behind front rest at (from + at) v (ap (λ (n : ℕ). n + at) (sym front_size)) ∙ ap (λ (l : List Undo). front ++ l) (sym together.kept))

    -- they stay apart
    module _ (h : Gap) (leaves : LeavesGap o Bears Differ a u y (crossing.Apart h)) (bears : Bears h s) where
      stay : AllStayApart o (Differ h) y (o.next here a) here
      stay = leaves here here_is_state from_here (kept_here u at_from) (subst (Bears h) state_is bears)

      end_is_state : o.upkeep.IsState (state_from o here y)
      end_is_state = allowed_is_state o here y laws.next_is_state here_is_state stay.allowed

      differ : Differ h s (state_from o here y)
      differ = subst (λ (r : State). Differ h r (state_from o here y)) (sym state_is) stay.differ

      -- The gap that an operation leaves may be closed, if the state bears it.
      pub may_close : MayClose o Differ h s
      may_close = (
        subst o.upkeep.IsState (sym state_is) (allowed_is_state o here (a ∷ y) laws.next_is_state here_is_state from_here),
        (state_from o here y, end_is_state, reached_left stay.allowed, differ),
      )

      -- If the gap is closed, the place is whole without the operation.
      pub out_apart : (t : State) (next : Place Undo) → next.ids.items ≡ remove q.ids.items from → next.undos.items ≡ remove us from → ClosesTo o Differ h s t → IsWhole o b (remove (before ++ items) from) next t
      out_apart t next ids_are undos closes = whole_left t next ids_are stay.allowed (closes (state_from o here y) end_is_state differ)
          (undos ∙ others_are ∙ ap (λ (l : List Undo). front ++ l) (sym stay.kept))

-- The first of some entries, and those of its place after it.
pub first_there : {Op E : Type 0} (place : Op → ℕ) (f : E → Item Op) (y : List E) (d : E) (some : 0 < length y) (is : d ≡ get_or y 0 d) → with_first place f y ≡ f d ∷ items_on place f (place (f d).op) (take (length y - 1) (drop 1 y))
first_there place f y d some is = whole_is place f y d some is (place (f d).op) refl ∙ all_is place f y d some is (place (f d).op) refl

-- If the entry is the last one there, none is after it that may not move past it.
pub last_passes : {Shape State Op Undo E : Type 0} (o : Object Shape State Op Undo) (place : Op → ℕ) (f : E → Item Op) (y : List E) (d : E) (b s : State) (before : List (Item Op)) (from : ℕ) (q : Place Undo) (a : Op)
    → 0 < length y → d ≡ get_or y 0 d → length before ≡ from → IsWhole o b (before ++ with_first place f y) q s → from + 1 ≡ length q.undos.items → a ≡ (f d).op → Passes o (before ++ with_first place f y) from a []
last_passes {Shape} {State} {Op} o place f y d b s before from q a some is size whole last same =
    let z = items_on place f (place (f d).op) (take (length y - 1) (drop 1 y)) in
    let first = first_there place f y d some is in
    let all = whole.all in
    let both = length-append before (with_first place f y) in
    let one : length (f d ∷ z) ≡ 1 = ap length (sym first) ∙ omega arith in
    let alone : with_first place f y ≡ f d ∷ [] = first ∙ ap (λ (l : List (Item Op)). f d ∷ l) (only_one (f d) z one) in
    subst (λ (n : ℕ). Passes o (before ++ with_first place f y) n a []) size
    (subst (λ (l : List (Item Op)). Passes o (before ++ l) (length before) a []) (sym alone) (record {
      item = f d;
      is = at_first before [] (f d);
      op = sym same;
      others = behind_first before [] (f d);
      behind = tt;
    }))
