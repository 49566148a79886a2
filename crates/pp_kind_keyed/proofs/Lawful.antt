-- Proof machinery: an object that acts by its keys is lawful.
use Rattle.std.proofs.Common.{◌≡◌, ℤ, int_eq, Bool, true, false, if◌then◌else◌, List, [], ◌∷◌, ◌++◌}
use Rattle.std.proofs.Common.{refl, sym, ◌∙◌, subst}
use Rattle.pp_kind.specs.Object.{Object, IsLegal, IsAllowed, IsLawful, AllowsAllOf}
use Rattle.pp_kind.proofs.Tests.{IsTold, unrefuted, refuted}
use Rattle.pp_kind_keyed.specs.Keys.{Keys, IsKeyed, may_swap, undone, IsShown}
use Rattle.pp_kind_keyed.proofs.Rule.{same_key}
use Rattle.pp_kind_keyed.proofs.Acting.{may_swap_commutes, shown_allowed, shown_stops}

refused_by : (t r : Bool) → (if t then r else true) ≡ false → (t ≡ true) × (r ≡ false)
refused_by true r e = (refl, e)
refused_by false r e = cc

module _ {State Op Undo Cell : Type 0} (o : Object (Unit {0}) State Op Undo)
    (k : Keys State Op Cell) (lets : Op → Op → Bool) (lists : Op → Op → List Op × List Op)
    (acts : IsKeyed o k) (shown : IsShown o k lets lists) where
  refused_here : (a b : Op) → may_swap k lets a b ≡ false → (k.key a ≡ k.key b) × (lets a b ≡ false)
  refused_here a b e = let r = refused_by (int_eq (k.key a) (k.key b)) (lets a b) e in
      (same_key (k.key a) (k.key b) r.0, r.1)

  pair_allowed : (a b : Op) → may_swap k lets a b ≡ false
      → IsAllowed o tt ((lists a b).0 ++ (a ∷ b ∷ (lists a b).1))
  pair_allowed a b e = let r = refused_here a b e in
      shown_allowed o k acts a b (lists a b).0 (lists a b).1 r.0 (shown.shown a b r.0 r.1)

  turned_stops : (a b : Op) → may_swap k lets a b ≡ false
      → IsAllowed o tt ((lists a b).0 ++ (b ∷ a ∷ (lists a b).1)) → ⊥
  turned_stops a b e = let r = refused_here a b e in
      shown_stops o k acts a b (lists a b).0 (lists a b).1 r.0 (shown.shown a b r.0 r.1)

  -- The table shows which pairs swap.
  pub table_tells : IsTold o (may_swap k lets) lists
  table_tells = record {
    refuting = shown.by_table;
    commutes = may_swap_commutes o k acts lets shown.turns;
    allowed = pair_allowed;
    turned = turned_stops;
    ranged_before = shown.ranged_before;
    ranged_after = shown.ranged_after;
  }

  -- Each key is read, so no other state allows what one allows.
  told_apart : (s t : State) → o.upkeep.IsState s → o.upkeep.IsState t → AllowsAllOf o s t → s ≡ t
  told_apart s t is it also =
      acts.one_state s t is it
      (λ q.
      let c = k.cell s q in
      let r = k.read q c in
      let Here : State → ℤ → Type 0 = λ u p. k.Finds r (k.cell u p) in
      let finds : Here s (k.key r) =
      subst (Here s) (sym (acts.read_key q c)) ((acts.read_finds q c c).1 refl) in
      let there = (acts.legal t r).0 (also (r ∷ []) ((acts.legal s r).1 finds, tt)).0 in
      sym ((acts.read_finds q c (k.cell t q)).0 (subst (Here t) (acts.read_key q c) there)))

  taken_back : (s : State) (a : Op) → o.upkeep.IsState s → IsLegal o s a → undone o s a ≡ s
  taken_back s a is h = acts.one_state (undone o s a) s (acts.back_is_state s a is h) is
      (λ q. acts.back_cell s a q h)

  -- An object that acts by its keys is lawful.
  pub keyed_lawful : IsLawful o
  keyed_lawful = record {
    start_shape = λ shape. refl;
    start_is_state = λ shape. acts.start_is_state;
    next_shape = λ s a h. refl;
    next_is_state = acts.next_is_state;
    taken_back = taken_back;
    told_apart = λ s t h g e also. told_apart s t h g also;
    one_answer = λ s a b e h g. sym h.1 ∙ acts.one_given s a b e ∙ g.1;
    ranged_numbers = acts.ranged_numbers;
    unrefuted = unrefuted o (may_swap k lets) lists table_tells;
    refuted = refuted o (may_swap k lets) lists table_tells;
  }
