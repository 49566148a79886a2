-- The entries of the shared log at a place, and those that a transaction misses.
use Rattle.std.proofs.Common.{◌≡◌, ◌≢◌, ◌==◌, ◌&&◌, ◌||◌, ◌<◌, ◌+◌, ℕ, zero, suc, Bool, true, false, not, cond, List, [], ◌∷◌, ◌++◌, drop, filter, length, map, take}
use Rattle.std.proofs.Common.{refl, sym, ap, subst, ◌∙◌, inl, inr, append_assoc, append-nil, eq-eqb, get_or}
use Rattle.std.proofs.lemmas.List.{map-append, take-map}
use Rattle.std.proofs.lemmas.List.Elements.{filter-append}
use Rattle.pp_core.specs.declared.entry.CommittedTx.{CommittedTx}
use Rattle.pp_core.specs.declared.entry.Item.{Item}
use Rattle.pp_model.specs.Config.{SharedEntry, as_shared, shared_item, shared_ops}
use Rattle.pp_model.specs.Lists.{Before}
use Rattle.pp_model.specs.Names.{Name}
use Rattle.pp_model.specs.Object.{HasDistinctIds, ops}
use Rattle.pp_model.specs.Serial.{has_id}
use Rattle.pp_model.specs.Sound.{serial_items}
use Rattle.pp_model.proofs.Lists.{before_from_filter, before_map}
use Rattle.pp_laws_summary.specs.LocalLogs.{serial_at}
use Rattle.pp_laws_summary.specs.Summary.{OpenSummary, Summary, seen_ids, summary_missing}
use Rattle.pp_laws_summary.proofs.AtPlace.{filter_twice}
use Rattle.pp_laws_summary.proofs.Parts.{not_eq}
use Rattle.pp_laws_summary.proofs.Relog.{filter_map, filter_same, map_map}
use Rattle.pp_summary.specs.Shown.{items_at}
use Rattle.pp_summary.proofs.Items.{take_next}
use Rattle.pp_snapshots.specs.Shown.{shared_done}
use Rattle.pp_snapshots.proofs.OnRefresh.{serial_shared}
use Rattle.pp_snapshots.proofs.Views.{committed_all}
use Rattle.pp_violations.proofs.Views.{filter_next}
use Rattle.pp_conflicts.specs.Searches.{shared_at}

-- Elements whose keys are none of the first ones' are the others, if no key is there twice.
pub drop_by_keys : {A : Type 0} (key : A → ℕ) (l : List A) → ((a b : A) → Before a b l → key a ≢ key b) → (n : ℕ) → filter (λ a. not (has_id (key a) (map key (take n l)))) l ≡ drop n l
drop_by_keys key [] d zero = refl
drop_by_keys key [] d (suc n) = refl
drop_by_keys {A} key (p ∷ l) d zero = keep (p ∷ l)
  where
    keep : (l : List A) → filter (λ (a : A). true) l ≡ l
    keep [] = refl
    keep (q ∷ l) = ap (λ (w : List A). q ∷ w) (keep l)
drop_by_keys {A} key (p ∷ l) d (suc n) =
    ap (λ (b : Bool). cond (not (b || has_id (key p) (map key (take n l)))) (p ∷ filter (λ (r : A). not (has_id (key r) (map key (p ∷ take n l)))) l) (filter (λ (r : A). not (has_id (key r) (map key (p ∷ take n l)))) l)) (eq-eqb (key p) (key p) refl)
    ∙ filter_same (λ (r : A). not (has_id (key r) (map key (p ∷ take n l)))) (λ (r : A). not (has_id (key r) (map key (take n l)))) l
    (λ r i. ap (λ (b : Bool). not (b || has_id (key r) (map key (take n l)))) (not_eq (key p) (key r) (d p r (inl (refl, i)))))
    ∙ drop_by_keys key l (λ q r b. d q r (inr b)) n

module _ {Op : Type 0} (place : Op → ℕ) (q : ℕ) where
  abbrev here : SharedEntry Op → Bool
  here g = place g.op == q

  -- They are those of the shared log of the committed transactions.
  pub shared_at_is : (D : List (CommittedTx Op)) → filter (λ g. place g.op == q) (shared_done D) ≡ shared_at place q D
  shared_at_is [] = refl
  shared_at_is (d ∷ D) =
      filter-append here (map (as_shared d.name true) d.entries) (shared_done D)
      ∙ ap (λ (w : List (SharedEntry Op)). w ++ filter here (shared_done D)) (filter_map here (as_shared d.name true) d.entries)
      ∙ ap (λ (w : List (SharedEntry Op)). map (as_shared d.name true) (items_at place q d.entries) ++ w) (shared_at_is D)

  -- Their items are those of the serial run.
  pub items_shared : (D : List (CommittedTx Op)) → map shared_item (shared_at place q D) ≡ serial_at place q D
  items_shared D =
      ap (λ (w : List (SharedEntry Op)). map shared_item w) (sym (shared_at_is D))
      ∙ sym (filter_map (λ (p : Item Op). place p.op == q) shared_item (shared_done D))
      ∙ ap (λ (w : List (Item Op)). filter (λ p. place p.op == q) w) (serial_shared D)

  -- Their operations too.
  pub ops_shared : (D : List (CommittedTx Op)) → shared_ops (shared_at place q D) ≡ ops (serial_at place q D)
  ops_shared D = sym (map_map (λ (p : Item Op). p.op) shared_item (shared_at place q D)) ∙ ap (λ (w : List (Item Op)). ops w) (items_shared D)

  -- One more committed transaction.
  pub shared_more_at : (D : List (CommittedTx Op)) (d : CommittedTx Op) → shared_at place q (D ++ d ∷ []) ≡ shared_at place q D ++ map (as_shared d.name true) (items_at place q d.entries)
  shared_more_at [] d = append-nil (map (as_shared d.name true) (items_at place q d.entries))
  shared_more_at (c ∷ D) d =
      ap (λ (w : List (SharedEntry Op)). map (as_shared c.name true) (items_at place q c.entries) ++ w) (shared_more_at D d)
      ∙ sym (append_assoc (map (as_shared c.name true) (items_at place q c.entries)) (shared_at place q D) (map (as_shared d.name true) (items_at place q d.entries)))

  -- The same of one that is read from a slice.
  pub shared_read : (D slice : List (CommittedTx Op)) (i : ℕ) (d : CommittedTx Op) (entries : List (Item Op)) → slice ≡ D → i < length slice → d ≡ get_or slice i d → entries ≡ d.entries →
      (old new : List (SharedEntry Op)) → old ≡ shared_at place q (take i D) → new ≡ old ++ map (as_shared d.name true) (items_at place q entries) → new ≡ shared_at place q (take (i + 1) D)
  shared_read D slice i d entries whole lt is same old new so more =
      subst (λ (w : List (CommittedTx Op)). old ≡ shared_at place q (take i w) → new ≡ shared_at place q (take (i + 1) w)) whole
      (λ s.
      more ∙ ap (λ (w : List (SharedEntry Op)). w ++ map (as_shared d.name true) (items_at place q entries)) s
      ∙ ap (λ (w : List (Item Op)). shared_at place q (take i slice) ++ map (as_shared d.name true) (items_at place q w)) same
      ∙ sym (shared_more_at (take i slice) d) ∙ ap (λ (w : List (CommittedTx Op)). shared_at place q w) (sym (take_next slice i d lt is))) so

  -- What a transaction misses there are all but the first ones.
  pub missing_entries : (D : List (CommittedTx Op)) → HasDistinctIds (serial_items D) → (B : Summary Op) (X : OpenSummary Op) → B.shared ≡ shared_done D → B.done ≡ D → summary_missing place q B X ≡ drop (X.seen q) (shared_at place q D)
  missing_entries D distinct B X shared done =
      ap (λ (E : List (CommittedTx Op)). filter (λ g. (g.committed && (place g.op == q)) && not (has_id g.id (seen_ids place q E X))) B.shared) done
      ∙ ap (λ (G : List (SharedEntry Op)). filter (λ g. (g.committed && (place g.op == q)) && not (has_id g.id ids)) G) shared
      ∙ filter_same (λ (g : SharedEntry Op). (g.committed && (place g.op == q)) && not (has_id g.id ids)) (λ (g : SharedEntry Op). here g && not (has_id g.id ids)) (shared_done D)
      (λ g i. ap (λ (b : Bool). (b && (place g.op == q)) && not (has_id g.id ids)) (committed_all D g i))
      ∙ sym (filter_twice (λ (g : SharedEntry Op). not (has_id g.id ids)) here (shared_done D))
      ∙ ap (λ (w : List (SharedEntry Op)). filter (λ g. not (has_id g.id ids)) w) (shared_at_is D)
      ∙ ap (λ (w : List ℕ). filter (λ g. not (has_id g.id w)) (shared_at place q D)) ids_are
      ∙ drop_by_keys (λ (g : SharedEntry Op). g.id) (shared_at place q D) apart (X.seen q)
    where
      ids : List ℕ
      ids = map (λ p. p.id) (take (X.seen q) (serial_at place q D))

      ids_are : map (λ p. p.id) (take (X.seen q) (serial_at place q D)) ≡ map (λ g. g.id) (take (X.seen q) (shared_at place q D))
      ids_are =
          ap (λ (w : List (Item Op)). map (λ p. p.id) (take (X.seen q) w)) (sym (items_shared D))
          ∙ ap (λ (w : List (Item Op)). map (λ p. p.id) w) (take-map shared_item (X.seen q) (shared_at place q D))
          ∙ map_map (λ (p : Item Op). p.id) shared_item (take (X.seen q) (shared_at place q D))

      apart : (a b : SharedEntry Op) → Before a b (shared_at place q D) → a.id ≢ b.id
      apart a b h e =
          distinct (shared_item a) (shared_item b)
          (before_from_filter (λ (p : Item Op). place p.op == q) (shared_item a) (shared_item b) (serial_items D)
          (subst (λ (w : List (Item Op)). Before (shared_item a) (shared_item b) w) (items_shared D) (before_map shared_item a b (shared_at place q D) h))) e

  -- One more item, which is at the place.
  pub entry_added : (t : Name) (l : List (Item Op)) (i : ℕ) (p : Item Op) → i < length l → p ≡ get_or l i p → (place p.op == q) ≡ true → (front old new : List (SharedEntry Op)) →
      old ≡ front ++ map (as_shared t true) (items_at place q (take i l)) → new ≡ old ++ as_shared t true p ∷ [] → new ≡ front ++ map (as_shared t true) (items_at place q (take (i + 1) l))
  entry_added t l i p lt is there front old new so more =
      more ∙ ap (λ (w : List (SharedEntry Op)). w ++ as_shared t true p ∷ []) so
      ∙ append_assoc front (map (as_shared t true) (items_at place q (take i l))) (as_shared t true p ∷ [])
      ∙ ap (λ (w : List (SharedEntry Op)). front ++ w) (sym (map-append (as_shared t true) (items_at place q (take i l)) (p ∷ [])))
      ∙ ap (λ (b : Bool). front ++ map (as_shared t true) (items_at place q (take i l) ++ cond b (p ∷ []) [])) (sym there)
      ∙ ap (λ (w : List (Item Op)). front ++ map (as_shared t true) w) (sym (filter_next (λ (z : Item Op). place z.op == q) l i p lt is))

  -- One more item, which is not.
  pub entry_skipped : (t : Name) (l : List (Item Op)) (i : ℕ) (p : Item Op) → i < length l → p ≡ get_or l i p → (place p.op == q) ≡ false → (front old : List (SharedEntry Op)) →
      old ≡ front ++ map (as_shared t true) (items_at place q (take i l)) → old ≡ front ++ map (as_shared t true) (items_at place q (take (i + 1) l))
  entry_skipped t l i p lt is away front old so =
      so ∙ ap (λ (w : List (Item Op)). front ++ map (as_shared t true) w) (sym (append-nil (items_at place q (take i l))))
      ∙ ap (λ (b : Bool). front ++ map (as_shared t true) (items_at place q (take i l) ++ cond b (p ∷ []) [])) (sym away)
      ∙ ap (λ (w : List (Item Op)). front ++ map (as_shared t true) w) (sym (filter_next (λ (z : Item Op). place z.op == q) l i p lt is))
