-- The tests of CMT on a local log.
use Rattle.std.proofs.Common.{◌≡◌, ◌==◌, ◌&&◌, ℕ, Bool, true, false, not, filter, List, [], ◌∷◌}
use Rattle.std.proofs.Common.{Option, Some, None, find, position, slice_get, refl, sym, ◌∙◌, ap}
use Rattle.std.proofs.Common.{subst}
use Rattle.std.proofs.lemmas.Bool.{and_parts, eqb-true, eq-eqb, not-false, not-true}
use Rattle.std.proofs.lemmas.Option.{same_Some}
use Rattle.pp_model.specs.Config.{LocalEntry, SharedEntry, Mark, Unpushed, Pushed, Pulled, is_mark}
use Rattle.pp_model.specs.Config.{is_own}
use Rattle.pp_model.specs.Lists.{In}
use Rattle.pp_model.proofs.Lists.{by_key}
use Rattle.pp_model.proofs.Logs.{found, is_mark-true}
use Rattle.pp_model.proofs.Finding.{find_nowhere, place_found, place_none}
use Rattle.pp_machine.specs.Evidence.{first_entry}
use Rattle.pp_machine.specs.Finding.{HaveOwnIds}
use Rattle.pp_machine.specs.Standing.{StandsCommitted, is_committed, stands_committed}
use Rattle.pp_machine.specs.declared.detail.Detail.TheVariants.{Entry}
use Rattle.pp_machine.proofs.Showing.{entry_shown, second_fails}

unpushed_own : (m : Mark) → is_mark m Unpushed ≡ true → (is_own m ≡ true) × (m ≡ Pushed → ⊥)
unpushed_own Unpushed h = (refl, λ e. cc)
unpushed_own Pushed h = absurd (cc)
unpushed_own Pulled h = absurd (cc)

own_pushed : (m : Mark) → is_mark m Unpushed ≡ false → is_own m ≡ true → m ≡ Pushed
own_pushed Unpushed h k = absurd (cc)
own_pushed Pushed h k = refl
own_pushed Pulled h k = absurd (cc)

module _ {Op : Type 0} where
  -- If no entry is unpushed, all own entries are pushed.
  pub all_pushed : (l ds : List (LocalEntry Op)) → ds ≡ l → position (λ e. is_mark e.mark Unpushed) ds ≡ None → (p : LocalEntry Op) → In p l → is_own p.mark ≡ true → p.mark ≡ Pushed
  all_pushed l ds e h p i m =
      own_pushed p.mark (find_nowhere (λ z. is_mark z.mark Unpushed) ds (place_none (λ z. is_mark z.mark Unpushed) ds h) p (subst (λ (z : List (LocalEntry Op)). In p z) (sym e) i)) m

  -- The first unpushed entry is own and not pushed, and is the evidence of CMT 3.
  pub not_all_pushed : (l ds : List (LocalEntry Op)) → ds ≡ l → (k : ℕ) (p : LocalEntry Op) → position (λ e. is_mark e.mark Unpushed) ds ≡ Some k → slice_get ds k ≡ Some p →
      In p l × (is_own p.mark ≡ true) × (p.mark ≡ Pushed → ⊥) × (Entry p.id ≡ first_entry (filter (λ e. is_mark e.mark Unpushed) l))
  not_all_pushed l ds e k p h at =
      let f = place_found (λ z. is_mark z.mark Unpushed) ds k p h at in
      let r = found (λ z. is_mark z.mark Unpushed) ds p f in
      let m = unpushed_own p.mark r.1 in
      (subst (λ (z : List (LocalEntry Op)). In p z) e r.0, m.0, m.1, entry_shown (λ z. is_mark z.mark Unpushed) ds p f ∙ ap (λ (z : List (LocalEntry Op)). first_entry (filter (λ e. is_mark e.mark Unpushed) z)) e)

  -- the first entry, and that there is none
  pub head_shown : (l ds : List (LocalEntry Op)) (x : LocalEntry Op) → ds ≡ l → Some x ≡ slice_get ds 0 → (l ≡ [] → ⊥) × (Entry x.id ≡ first_entry l)
  head_shown l [] x e h = absurd (cc)
  head_shown l (y ∷ ds) x e h =
      (λ k. let z : (y ∷ ds) ≡ [] = e ∙ k in cc, ap (λ (z : LocalEntry Op). Entry z.id) (same_Some x y h) ∙ ap first_entry e)

  -- If there is no first entry, the local log is empty.
  pub none_there : (l ds : List (LocalEntry Op)) → ds ≡ l → None ≡ slice_get ds 0 → l ≡ []
  none_there l [] e h = sym e
  none_there l (y ∷ ds) e h = absurd (cc)

  standing_found : (G : List (SharedEntry Op)) (id : ℕ) (r : Option (SharedEntry Op)) → find (λ g. g.id == id) G ≡ r → is_committed r ≡ true → StandsCommitted id G
  standing_found G id None e h = absurd (cc)
  standing_found G id (Some g) e h = let k = found (λ (z : SharedEntry Op). z.id == id) G g e in (g, k.0, eqb-true g.id id k.1, h)

  standing_not : (G : List (SharedEntry Op)) (id : ℕ) → HaveOwnIds G → (r : Option (SharedEntry Op)) → find (λ g. g.id == id) G ≡ r → is_committed r ≡ false → StandsCommitted id G → ⊥
  standing_not G id d None e h s = let k = find_nowhere (λ (z : SharedEntry Op). z.id == id) G e s.0 s.1 in let z : true ≡ false = sym (eq-eqb (s.0).id id s.2) ∙ k in cc
  standing_not G id d (Some g) e h s =
      let k = found (λ (z : SharedEntry Op). z.id == id) G g e in
      let same = by_key (λ (z : SharedEntry Op). z.id) G d g s.0 k.0 s.1 (eqb-true g.id id k.1 ∙ sym s.2) in
      let z : true ≡ false = sym s.3 ∙ sym (ap (λ (z : SharedEntry Op). z.committed) same) ∙ h in cc

  -- An entry is pulled, and not committed in G.
  abbrev pub fallen : List (SharedEntry Op) → LocalEntry Op → Bool
  fallen G e = is_mark e.mark Pulled && not (stands_committed e.id G)

  -- A pulled entry that has not fallen is committed.
  pub stands : (G : List (SharedEntry Op)) (p : LocalEntry Op) → fallen G p ≡ false → p.mark ≡ Pulled → StandsCommitted p.id G
  stands G p n m =
      let pulled : is_mark p.mark Pulled ≡ true = ap (λ (z : Mark). is_mark z Pulled) m in
      standing_found G p.id (find (λ g. g.id == p.id) G) refl (not-false (stands_committed p.id G) (second_fails (is_mark p.mark Pulled) (not (stands_committed p.id G)) n pulled))

  -- If no pulled entry has fallen, all pulled entries are committed in the shared log.
  pub all_stand : (l ds : List (LocalEntry Op)) (G : List (SharedEntry Op)) → ds ≡ l → position (fallen G) ds ≡ None → (p : LocalEntry Op) → In p l → p.mark ≡ Pulled → StandsCommitted p.id G
  all_stand l ds G e h p i m = stands G p (find_nowhere (fallen G) ds (place_none (fallen G) ds h) p (subst (λ (z : List (LocalEntry Op)). In p z) (sym e) i)) m

  -- The first pulled entry that is not committed is the evidence of CMT 4.
  pub not_all_stand : (l ds : List (LocalEntry Op)) (G : List (SharedEntry Op)) → ds ≡ l → HaveOwnIds G → (k : ℕ) (p : LocalEntry Op) → position (fallen G) ds ≡ Some k → slice_get ds k ≡ Some p →
      In p l × (p.mark ≡ Pulled) × (StandsCommitted p.id G → ⊥) × (Entry p.id ≡ first_entry (filter (fallen G) l))
  not_all_stand l ds G e d k p h at =
      let f = place_found (fallen G) ds k p h at in
      let r = found (fallen G) ds p f in
      let b = and_parts (is_mark p.mark Pulled) (not (stands_committed p.id G)) r.1 in (
        subst (λ (z : List (LocalEntry Op)). In p z) e r.0,
        is_mark-true p.mark Pulled b.0,
        standing_not G p.id d (find (λ g. g.id == p.id) G) refl (not-true (stands_committed p.id G) b.1),
        entry_shown (fallen G) ds p f ∙ ap (λ (z : List (LocalEntry Op)). first_entry (filter (fallen G) z)) e,
      )
