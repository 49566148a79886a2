-- The last own entries of an open transaction may leave the shared log.
use Rattle.std.specs.Prelude.{◌≡◌, ℕ, Bool, true, false, not, List, [], ◌++◌, map, filter}
use Rattle.std.proofs.Common.{refl, sym, ap, subst, ◌∙◌}
use Rattle.std.proofs.lemmas.List.{map-append, append-nil}
use mathlib.Core.Logic.{inl, inr}
use Rattle.pp_model.specs.Lists.{In, Before}
use Rattle.pp_model.specs.Object.{Object, Allowed, Swaps, Item, ops}
use Rattle.pp_model.specs.Config.{is_own, SharedEntry, Tx, Config, item, shared_item, own_items, shared_ops, as_shared}
use Rattle.pp_model.specs.Serial.{has_id}
use Rattle.pp_model.specs.Sound.{StandsBefore}
use Rattle.pp_model.proofs.Lists.{in_right, in_cases, in_map, from_map, before_across, before_in_first, before_in_second, by_key, not_both}
use Rattle.pp_model.proofs.Logs.{from_own, in_own, before_from_own}
use Rattle.pp_model.proofs.Parted.{parted}
use Rattle.pp_model.proofs.Permute.{permuted}
use Rattle.pp_model.proofs.Serial.{allowed_front}
use Rattle.pp_summary.specs.Boosted.{PlacesSwap, Boosted}
use Rattle.pp_summary.specs.Laws.{without_ids}
use Rattle.pp_summary.proofs.Briefs.{differ}
use Rattle.pp_laws_summary.proofs.Entries.{ops_items, was_false, has_in, in_has}
use Rattle.pp_laws_summary.proofs.Lookups.{done_by_other}

module _ {Op State : Type 0} (O : Object Op State) (place : Op → ℕ) (apart : PlacesSwap O place) (c : Config Op) (b : Boosted O place c)
    (x : Tx Op) (ix : In x c.opened) (front last : List (Item Op)) (cut : own_items x.local ≡ front ++ last) where
  abbrev test : SharedEntry Op → Bool
  test g = not (has_id g.id (map (λ (p : Item Op). p.id) last))

  -- An entry that leaves is a pushed one of the open transaction.
  leaving : (g : SharedEntry Op) → In g c.shared → test g ≡ false → (p : Item Op) × In p last × (g ≡ as_shared x.name false p)
  leaving g i n =
      let m = from_map (λ (p : Item Op). p.id) g.id last (has_in g.id (map (λ (p : Item Op). p.id) last) (was_true (has_id g.id (map (λ (p : Item Op). p.id) last)) n)) in
      let e = from_own x.local m.0 (subst (λ (w : List (Item Op)). In m.0 w) (sym cut) (in_right m.0 front last m.1)) in (
        m.0,
        m.1,
        by_key (λ (w : SharedEntry Op). w.id) c.shared b.sound.shared_ids g (as_shared x.name false m.0) i
            (subst (λ (w : Item Op). In (as_shared x.name false w) c.shared) (sym e.3) (b.sound.pushed_stand x ix e.0 e.1 ((b.follows x ix).own_pushed e.0 e.1 e.2))) m.2,
      )
    where
      was_true : (z : Bool) → not z ≡ false → z ≡ true
      was_true true e = refl
      was_true false e = cc

  -- Two own items in order in a local log are in this order in the shared log.
  pub own_before : (a p : Item Op) → Before a p (own_items x.local) → StandsBefore a.id p.id c.shared
  own_before a p i =
      let o = before_from_own x.local a p i in
      let z = (b.follows x ix).own_order o.0 o.1 o.2 o.3 o.4 in
      (z.0, z.1, z.2, z.3 ∙ ap (λ (w : Item Op). w.id) (sym o.5), z.4 ∙ ap (λ (w : Item Op). w.id) (sym o.6))

  -- An entry that leaves swaps with each entry after it that stays.
  pub moved : (g h : SharedEntry Op) → Before g h c.shared → test g ≡ false → test h ≡ true → Swaps O g.op h.op
  moved g h i n k =
      let r = leaving g (before_in_first g h c.shared i) n in
      b.sound.uncommitted_swap g h i (λ e. stays r.0 r.1 r.2 (sym e ∙ ap (λ (w : SharedEntry Op). w.owner) r.2) h.committed refl) (ap (λ (w : SharedEntry Op). w.committed) r.2)
    where
      ih : In h c.shared
      ih = before_in_second g h c.shared i

      stays : (p : Item Op) → In p last → g ≡ as_shared x.name false p → h.owner ≡ x.name → (z : Bool) → h.committed ≡ z → ⊥
      stays p j eg q true u = done_by_other O c b.sound x ix h ih u q
      stays p j eg q false u =
          let r = b.sound.uncommitted_from h ih u in
          let y : r.0 ≡ x = by_key (λ (w : Tx Op). w.name) c.opened b.sound.open_names r.0 x r.1 ix (ap (λ (w : SharedEntry Op). w.owner) (sym r.5) ∙ q) in
          let a : In (item r.2) (own_items x.local) = in_own x.local r.2 (subst (λ (w : Tx Op). In r.2 w.local) y r.3) (ap is_own r.4) in
          elim (in_cases (item r.2) front last (subst (λ (w : List (Item Op)). In (item r.2) w) cut a)) [
            | inl l ↦
                let z = own_before (item r.2) p (subst (λ (w : List (Item Op)). Before (item r.2) p w) (sym cut) (before_across (item r.2) p front last l j)) in
                let eh : z.0 ≡ h = by_key (λ (w : SharedEntry Op). w.id) c.shared b.sound.shared_ids z.0 h (before_in_first z.0 z.1 c.shared z.2) ih (z.3 ∙ ap (λ (w : SharedEntry Op). w.id) (sym r.5)) in
                let eg' : z.1 ≡ g = by_key (λ (w : SharedEntry Op). w.id) c.shared b.sound.shared_ids z.1 g (before_in_second z.0 z.1 c.shared z.2) (before_in_first g h c.shared i) (z.4 ∙ ap (λ (w : SharedEntry Op). w.id) (sym eg)) in
                not_both (λ (w : SharedEntry Op). w.id) c.shared b.sound.shared_ids g h i
                (subst (λ (w : SharedEntry Op). Before w g c.shared) eh (subst (λ (w : SharedEntry Op). Before z.0 w c.shared) eg' z.2))
            | inr l ↦ differ (has_id h.id (map (λ (p : Item Op). p.id) last))
                (in_has h.id (map (λ (p : Item Op). p.id) last) (subst (λ (w : ℕ). In w (map (λ (p : Item Op). p.id) last)) (ap (λ (w : SharedEntry Op). w.id) (sym r.5)) (in_map (λ (p : Item Op). p.id) (item r.2) last l)))
                (was_false (has_id h.id (map (λ (p : Item Op). p.id) last)) k)
          ]

  -- The shared log without the last own entries of an open transaction is allowed.
  pub leave : Allowed O (shared_ops (without_ids (map (λ (p : Item Op). p.id) last) c.shared))
  leave =
      let F = filter test c.shared in
      let B = filter (λ g. not (test g)) c.shared in
      let y : List (Item Op) = map shared_item F ++ map shared_item B in
      let h1 : Allowed O (ops (map shared_item c.shared) ++ []) = subst (λ (w : List Op). Allowed O w) (sym (append-nil (ops (map shared_item c.shared)) ∙ ops_items c.shared)) b.sound.shared_allowed in
      let h2 : Allowed O (ops y ++ []) = permuted O y (map shared_item c.shared) [] [] (parted O shared_item test c.shared b.sound.shared_ids moved) h1 in
      let h3 : Allowed O (ops (map shared_item F) ++ ops (map shared_item B)) = subst (λ (w : List Op). Allowed O w) (append-nil (ops y) ∙ map-append (λ (w : Item Op). w.op) (map shared_item F) (map shared_item B)) h2 in
      subst (λ (w : List Op). Allowed O w) (ops_items F) (allowed_front O O.start (ops (map shared_item F)) (ops (map shared_item B)) h3)
