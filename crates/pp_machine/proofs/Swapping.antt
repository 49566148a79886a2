-- Which operations swap, by what the tests of the movers say.
use Rattle.std.proofs.Common.{◌≡◌, ◌==◌, ◌&&◌, ◌+◌, false, ℕ, IsTrue, true, suc, zero, Bool, cond}
use Rattle.std.proofs.Common.{not, filter, find, is_some, List, [], ◌∷◌, Some, None, drop, take}
use Rattle.std.proofs.Common.{position, slice_get, refl, sym, ap, subst, ◌∙◌, ◌<◌, arith}
use Rattle.std.specs.List.{position_or_len}
use Rattle.std.proofs.lemmas.Option.{same_Some}
use Rattle.std.proofs.lemmas.Bool.{true_from_ne_false}
use Rattle.pp_core.specs.declared.entry.LocalEntry.{LocalEntry}
use Rattle.pp_core.specs.declared.entry.SharedEntry.{SharedEntry}
use Rattle.pp_core.proofs.Places.{is_none_of}
use Rattle.pp_model.specs.Names.{Name, ◌=ⁿ◌}
use Rattle.pp_model.specs.Config.{Mark, Unpushed, Pushed, Pulled, is_mark, is_own, own}
use Rattle.pp_model.specs.Lists.{In, Before}
use Rattle.pp_model.proofs.Logs.{is_mark-true}
use Rattle.pp_model.proofs.Names.{eq-names, names-true}
use Rattle.pp_model.proofs.Finding.{place_found}
use Rattle.pp_log_local.specs.Movers.{holds_back, stands_first, stays_behind}
use Rattle.pp_log_shared.specs.Blocking.{GivesWay, IsFirstBlocking}
use Rattle.pp_kind.specs.Object.{Object, IsLawful, IsRefutedBy, Swaps, SwapsIn}
use Rattle.pp_kind.proofs.Lists.{refuted_nowhere}
use Rattle.pp_machine.specs.Evidence.{entries_before, entries_behind, first_swap, swap_or}
use Rattle.pp_machine.specs.Finding.{AreDistinct}
use Rattle.pp_machine.specs.declared.detail.Detail.TheVariants.{Nothing}
use Rattle.pp_machine.proofs.Opened.{is_there}
use Rattle.pp_machine.proofs.Showing.{none_stops, stops_here, swap_shown}
use Rattle.pp_machine.proofs.Cuts.{in_taken, before_here, behind_here, here_behind, in_dropped}
use Rattle.pp_machine.proofs.Cuts.{here_before, place_or_len}

mark_is : (m n : Mark) → m ≡ n → is_mark m n ≡ true
mark_is m n e = subst (λ (z : Mark). is_mark z n ≡ true) (sym e) (itself n)
  where
    itself : (n : Mark) → is_mark n n ≡ true
    itself Unpushed = refl
    itself Pushed = refl
    itself Pulled = refl

module _ {Shape State Op Undo : Type 0} (o : Object Shape State Op Undo) where
  -- whether it is an uncommitted entry of another, which the operation may not come before
  abbrev pub blocks : Name → Op → SharedEntry Op → Bool
  blocks t op u = (not u.committed && not (u.owner =ⁿ t)) && is_some (o.refuting u.op op)

module _ {Shape State Op Undo : Type 0} (o : Object Shape State Op Undo) (laws : IsLawful o) (shape : Shape) where
  -- a pair that no lists refute swaps, and one that lists refute does not
  unrefuted_in : (a b : Op) → is_some (o.refuting a b) ≡ false → SwapsIn o shape a b
  unrefuted_in a b h = (laws.unrefuted a b).0 (is_none_of (o.refuting a b) h) shape

  refuted_in : (a b : Op) → IsTrue (o.fits shape a) → IsTrue (o.fits shape b) → is_some (o.refuting a b) ≡ true → SwapsIn o shape a b → ⊥
  refuted_in a b f g h s =
      let r = is_there (o.refuting a b) h in
      refuted_nowhere o a b r.0 (subst (IsRefutedBy o a b) r.1 (laws.refuted a b)) shape f g s

  module _ (l : List (LocalEntry Op)) where
    -- each operation of the log fits
    abbrev pub AllFit : Type 0
    AllFit = (p : LocalEntry Op) → In p l → IsTrue (o.fits shape p.op)

    module _ (i : ℕ) (p : LocalEntry Op) (at : slice_get l i ≡ Some p) (ds : List (LocalEntry Op)) where
      -- If no entry before p holds it back, each earlier unpushed entry swaps with it.
      pub own_swap : AreDistinct l → ds ≡ take i l → position (holds_back o p.op) ds ≡ None → (a : LocalEntry Op) → Before a p l → a.mark ≡ Unpushed → SwapsIn o shape p.op a.op
      own_swap d e n a b m =
          unrefuted_in p.op a.op
          (none_stops (λ z. is_mark z.mark Unpushed) (λ z. o.refuting p.op z.op) ds n a (subst (λ (z : List (LocalEntry Op)). In a z) (sym e) (here_before (λ (z : LocalEntry Op). z.id) l d i p a at b)) (mark_is a.mark Unpushed m))

      -- The entry that holds p back is an earlier unpushed one that does not swap with it.
      pub own_not : (k : ℕ) (a : LocalEntry Op) → AllFit → IsTrue (o.fits shape p.op) → ds ≡ take i l → position (holds_back o p.op) ds ≡ Some k → slice_get ds k ≡ Some a →
          Before a p l × (a.mark ≡ Unpushed) × (SwapsIn o shape p.op a.op → ⊥)
      own_not k a fit f e w here =
          let q = stops_here (λ z. is_mark z.mark Unpushed) (λ z. o.refuting p.op z.op) ds k a w here in
          let inside = subst (λ (z : List (LocalEntry Op)). In a z) e q.0 in
          (before_here l i p a at inside, is_mark-true a.mark Unpushed q.1, refuted_in p.op a.op f (fit a (in_taken i a l inside)) q.2)

      -- The first entry that holds p back is the evidence of PUSH 3.
      pub own_shown : (k : ℕ) (a : LocalEntry Op) (id : ℕ) → ds ≡ take i l → position (holds_back o p.op) ds ≡ Some k → slice_get ds k ≡ Some a → position (λ z. z.id == id) l ≡ Some i →
          swap_or a.id (o.refuting p.op a.op) Nothing ≡ first_swap (λ z. z.id) (λ z. o.refuting p.op z.op) (filter (λ z. is_mark z.mark Unpushed) (entries_before id l))
      own_shown k a id e w here place =
          swap_shown (λ z. is_mark z.mark Unpushed) (λ z. o.refuting p.op z.op) (λ z. z.id) ds a (place_found (holds_back o p.op) ds k a w here)
          ∙ ap (λ (z : List (LocalEntry Op)). first_swap (λ z. z.id) (λ z. o.refuting p.op z.op) (filter (λ z. is_mark z.mark Unpushed) z)) (e ∙ ap (λ (n : ℕ). take n l) (sym (place_or_len (λ z. z.id == id) l i place)))

      -- If no pushed entry stays after p, each later pushed entry swaps with it.
      pub behind_swap : AreDistinct l → ds ≡ drop (suc i) l → position (stays_behind o p.op) ds ≡ None → (b : LocalEntry Op) → Before p b l → b.mark ≡ Pushed → SwapsIn o shape b.op p.op
      behind_swap d e n b before m =
          unrefuted_in b.op p.op
          (none_stops (λ z. is_mark z.mark Pushed) (λ z. o.refuting z.op p.op) ds n b (subst (λ (z : List (LocalEntry Op)). In b z) (sym e) (behind_here (λ (z : LocalEntry Op). z.id) l d i p b at before)) (mark_is b.mark Pushed m))

      -- The entry that stays after p is a later pushed one that does not swap with it.
      pub behind_not : (k : ℕ) (b : LocalEntry Op) → AllFit → IsTrue (o.fits shape p.op) → ds ≡ drop (suc i) l → position (stays_behind o p.op) ds ≡ Some k → slice_get ds k ≡ Some b →
          Before p b l × (b.mark ≡ Pushed) × (SwapsIn o shape b.op p.op → ⊥)
      behind_not k b fit f e w here =
          let q = stops_here (λ z. is_mark z.mark Pushed) (λ z. o.refuting z.op p.op) ds k b w here in
          let inside = subst (λ (z : List (LocalEntry Op)). In b z) e q.0 in
          (here_behind l i p b at inside, is_mark-true b.mark Pushed q.1, refuted_in b.op p.op (fit b (in_dropped (suc i) b l inside)) f q.2)

      -- The first entry that stays after p is the evidence of UNPUSH 3.
      pub behind_shown : (k : ℕ) (b : LocalEntry Op) (id : ℕ) → ds ≡ drop (suc i) l → position (stays_behind o p.op) ds ≡ Some k → slice_get ds k ≡ Some b → position (λ z. z.id == id) l ≡ Some i →
          swap_or b.id (o.refuting b.op p.op) Nothing ≡ first_swap (λ z. z.id) (λ z. o.refuting z.op p.op) (filter (λ z. is_mark z.mark Pushed) (entries_behind id l))
      behind_shown k b id e w here place =
          let n = place_or_len (λ z. z.id == id) l i place in
          let m : suc i ≡ position_or_len (λ z. z.id == id) l + 1 = omega (arith, n) in
          swap_shown (λ z. is_mark z.mark Pushed) (λ z. o.refuting z.op p.op) (λ z. z.id) ds b (place_found (stays_behind o p.op) ds k b w here)
          ∙ ap (λ (z : List (LocalEntry Op)). first_swap (λ z. z.id) (λ z. o.refuting z.op p.op) (filter (λ z. is_mark z.mark Pushed) z)) (e ∙ ap (λ (n : ℕ). drop n l) m)

    module _ (op : Op) (ds : List (LocalEntry Op)) (e : ds ≡ l) where
      -- If no own entry must be first, each own entry swaps with the operation after it.
      pub own_before : position (stands_first o op) ds ≡ None → (a : LocalEntry Op) → In a l → is_own a.mark ≡ true → SwapsIn o shape a.op op
      own_before n a i m =
          unrefuted_in a.op op
          (none_stops (λ z. is_own z.mark) (λ z. o.refuting z.op op) ds n a (subst (λ (z : List (LocalEntry Op)). In a z) (sym e) i) m)

      -- The entry that must be first is an own one that does not swap with the operation.
      pub not_before : (k : ℕ) (a : LocalEntry Op) → AllFit → IsTrue (o.fits shape op) → position (stands_first o op) ds ≡ Some k → slice_get ds k ≡ Some a → In a l × (is_own a.mark ≡ true) × (SwapsIn o shape a.op op → ⊥)
      not_before k a fit f w here =
          let q = stops_here (λ z. is_own z.mark) (λ z. o.refuting z.op op) ds k a w here in
          let inside = subst (λ (z : List (LocalEntry Op)). In a z) e q.0 in
          (inside, q.1, refuted_in a.op op (fit a inside) f q.2)

      -- The first own entry that must be first is the evidence of PULL 5.
      pub before_shown : (k : ℕ) (a : LocalEntry Op) → position (stands_first o op) ds ≡ Some k → slice_get ds k ≡ Some a → swap_or a.id (o.refuting a.op op) Nothing ≡ first_swap (λ z. z.id) (λ z. o.refuting z.op op) (own l)
      before_shown k a w here =
          swap_shown (λ z. is_own z.mark) (λ z. o.refuting z.op op) (λ z. z.id) ds a (place_found (stands_first o op) ds k a w here)
          ∙ ap (λ (z : List (LocalEntry Op)). first_swap (λ z. z.id) (λ z. o.refuting z.op op) (own z)) e

  -- An entry of the shared log that commutes with an operation does not block it.
  gives_way : (t : Name) (op : Op) (u : SharedEntry Op) → GivesWay o t op u → blocks o t op u ≡ false
  gives_way t op u g = go u.committed (u.owner =ⁿ t) refl refl
    where
      go : (b c : Bool) → u.committed ≡ b → (u.owner =ⁿ t) ≡ c → ((not b && not c) && is_some (o.refuting u.op op)) ≡ false
      go true c eb ec = refl
      go false true eb ec = refl
      go false false eb ec =
          ap is_some ((laws.unrefuted u.op op).1 (g eb (λ s. let k : true ≡ false = sym (eq-names u.owner t s) ∙ ec in cc)))

  -- the first that blocks is the one that a walk finds
  first_blocks : (p : SharedEntry Op → Bool) (l : List (SharedEntry Op)) (k : ℕ) (u : SharedEntry Op) → slice_get l k ≡ Some u → p u ≡ true → ((j : ℕ) (z : SharedEntry Op) → j < k → slice_get l j ≡ Some z → p z ≡ false) → find p l ≡ Some u
  first_blocks p [] k u at h n = absurd (cc)
  first_blocks p (y ∷ l) zero u at h n = ap (λ (b : Bool). cond b (Some y) (find p l)) (ap p (same_Some y u at) ∙ h) ∙ at
  first_blocks p (y ∷ l) (suc k) u at h n =
      ap (λ (b : Bool). cond b (Some y) (find p l)) (n 0 y (omega arith) refl)
      ∙ first_blocks p l k u at h (λ j z b w. n (suc j) z (omega arith) w)

  -- The first uncommitted entry of another that does not swap is the evidence of PUSH 4.
  pub blocking_shown : (t : Name) (op : Op) (l : List (SharedEntry Op)) (k : ℕ) (d : IsFirstBlocking o t op l k) →
      swap_or (d.entry).id (o.refuting (d.entry).op op) Nothing ≡ first_swap (λ z. z.id) (λ z. o.refuting z.op op) (filter (λ z. not z.committed && not (z.owner =ⁿ t)) l)
  blocking_shown t op l k d =
      let u = d.entry in
      swap_shown (λ z. not z.committed && not (z.owner =ⁿ t)) (λ z. o.refuting z.op op) (λ z. z.id) l u
      (first_blocks (blocks o t op) l k u d.is (true_from_ne_false (blocks o t op u) (λ e. d.blocks.unswapped (swaps_if e))) (λ j z b w. gives_way t op z (d.first j z b w)))
    where
      swaps_if : blocks o t op d.entry ≡ false → Swaps o (d.entry).op op
      swaps_if e = go (d.entry).committed ((d.entry).owner =ⁿ t) refl refl e
        where
          go : (b c : Bool) → (d.entry).committed ≡ b → ((d.entry).owner =ⁿ t) ≡ c → ((not b && not c) && is_some (o.refuting (d.entry).op op)) ≡ false → Swaps o (d.entry).op op
          go true c eb ec h = let z : true ≡ false = sym eb ∙ d.blocks.uncommitted in absurd (cc)
          go false true eb ec h = absurd (d.blocks.other (names-true (d.entry).owner t ec))
          go false false eb ec h = (laws.unrefuted (d.entry).op op).0 (is_none_of (o.refuting (d.entry).op op) h)
