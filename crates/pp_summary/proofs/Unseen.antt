-- Which commits an open transaction has not seen, after each record.
use Rattle.std.specs.Prelude.{◌≡◌, ◌≢◌, ◌⊎◌, ◌==◌, ◌≤◌, ℕ, nat_eq, Bool, true, false, cond, not, ◌&&◌, ◌||◌, List, [], ◌∷◌, ◌++◌, filter, drop, length, is_some, Option, None, Some}
use Rattle.std.specs.Map.{lookup}
use Rattle.std.proofs.Common.{refl, sym, ap, subst, ◌∙◌, arith}
use Rattle.std.proofs.lemmas.List.{append-nil, drop_all, drop-append-le}
use Rattle.std.proofs.lemmas.List.Elements.{filter-append}
use Rattle.std.proofs.lemmas.Bool.{and_parts, eqb-true, eq-eqb, false_from_ne_true}
use mathlib.Core.Logic.{inl, inr}
use Rattle.pp_core.specs.declared.entry.Item.{Item}
use Rattle.pp_model.specs.Config.{SharedEntry, as_shared, commit_all}
use Rattle.pp_model.specs.Lists.{Before, In}
use Rattle.pp_model.specs.Names.{Name, ◌=ⁿ◌}
use Rattle.pp_model.specs.Serial.{has_id}
use Rattle.pp_model.proofs.Commit.{commit, as_committed}
use Rattle.pp_model.proofs.Lists.{by_key, from_filter, from_map, in_filter, in_map}
use Rattle.pp_model.proofs.Names.{names_tell, names_not}
use Rattle.pp_model.proofs.Trace.{map_same}
use Rattle.pp_summary.specs.Brief.{is_met, shared_ids, any_at, without_owner}
use Rattle.pp_summary.specs.Shown.{at, ids_at, ids_behind, is_unseen, items_at, unseen, unseen_at}
use Rattle.pp_summary.proofs.Briefs.{differ}
use Rattle.pp_summary.proofs.OnCommit.{commit_rest}
use Rattle.pp_laws_summary.proofs.Entries.{has_in, in_has}
use Rattle.pp_laws_summary.proofs.Relog.{filter_map, filter_none, filter_same, filter_within, map_map, same_bool}
use Rattle.std.proofs.Math.Bool.{and-false, or-false}
use Rattle.pp_summary.proofs.Passing.{has_id_append, in_behind}

module _ {Op : Type 0} (place : Op → ℕ) where
  -- The id of an entry is among the unseen ids exactly if the entry is unseen.
  pub has_unseen : (G : List (SharedEntry Op)) (commits : List (List ℕ)) (seen : List (ℕ × ℕ)) → ((g h : SharedEntry Op) → Before g h G → g.id ≡ h.id → ⊥) → (g : SharedEntry Op) → In g G →
      has_id g.id (unseen place G commits seen) ≡ is_unseen place commits seen g
  has_unseen G commits seen d g i = same_bool (has_id g.id (unseen place G commits seen)) (is_unseen place commits seen g)
      (λ h.
      let m = from_map (λ (w : SharedEntry Op). w.id) g.id (filter (is_unseen place commits seen) G) (has_in g.id (unseen place G commits seen) h) in
      let f = from_filter (is_unseen place commits seen) m.0 G m.1 in
      subst (λ (w : SharedEntry Op). is_unseen place commits seen w ≡ true) (by_key (λ (w : SharedEntry Op). w.id) G d m.0 g f.0 i (sym m.2)) f.1)
      (λ h. in_has g.id (unseen place G commits seen) (in_map (λ (w : SharedEntry Op). w.id) g (filter (is_unseen place commits seen) G) (in_filter (is_unseen place commits seen) g G i h)))

  -- A transaction without own operations has no unseen commits.
  pub unseen_none : (G : List (SharedEntry Op)) (commits : List (List ℕ)) → unseen place G commits [] ≡ []
  unseen_none G commits = ap (λ (w : List (SharedEntry Op)). shared_ids w) (filter_none (is_unseen place commits []) G (λ g i. and-false g.committed))

  -- An uncommitted entry at the end of the shared log is not unseen.
  pub unseen_wider : (G : List (SharedEntry Op)) (commits : List (List ℕ)) (seen : List (ℕ × ℕ)) (t : Name) (p : Item Op) → unseen place (G ++ as_shared t false p ∷ []) commits seen ≡ unseen place G commits seen
  unseen_wider G commits seen t p = ap (λ (w : List (SharedEntry Op)). shared_ids w)
      (filter-append (is_unseen place commits seen) G (as_shared t false p ∷ []) ∙ append-nil (filter (is_unseen place commits seen) G))

  -- If uncommitted entries of t leave the shared log, the unseen commits stay the same.
  pub unseen_fewer : (G : List (SharedEntry Op)) (commits : List (List ℕ)) (seen : List (ℕ × ℕ)) (t : Name) → ((g : SharedEntry Op) → In g G → g.owner ≡ t → g.committed ≡ false) →
      unseen place (without_owner t G) commits seen ≡ unseen place G commits seen
  unseen_fewer G commits seen t n = ap (λ (w : List (SharedEntry Op)). shared_ids w)
      (filter_within (is_unseen place commits seen) (λ (g : SharedEntry Op). not (g.owner =ⁿ t)) G
      (λ g i m. names_not g.owner t (λ e. differ g.committed (and_parts g.committed (has_id g.id (unseen_at (place g.op) commits seen)) m).0 (n g i e))))

  -- After one more own operation, the commits at its place are seen, and the other unseen commits stay the same.
  pub unseen_grown : (G : List (SharedEntry Op)) (commits : List (List ℕ)) (old new : List (ℕ × ℕ)) (op : Op) → ((g h : SharedEntry Op) → Before g h G → g.id ≡ h.id → ⊥) →
      ((q : ℕ) → lookup (nat_eq q) new ≡ cond (nat_eq (place op) q) (Some (length (at (place op) commits))) (lookup (nat_eq q) old)) →
      unseen place G commits new ≡ shared_ids (filter (λ g. has_id g.id (unseen place G commits old) && not (place g.op == place op)) G)
  unseen_grown G commits old new op d s = ap (λ (w : List (SharedEntry Op)). shared_ids w)
      (filter_same (is_unseen place commits new) (λ g. has_id g.id (unseen place G commits old) && not (place g.op == place op)) G (λ g i.
      by g (place g.op == place op) refl ∙ ap (λ (b : Bool). b && not (place g.op == place op)) (sym (has_unseen G commits old d g i))))
    where
      by : (g : SharedEntry Op) (b : Bool) → (place g.op == place op) ≡ b → is_unseen place commits new g ≡ (is_unseen place commits old g && not (place g.op == place op))
      by g true e =
          let q : place g.op ≡ place op = eqb-true (place g.op) (place op) e in
          let looked : lookup (nat_eq (place g.op)) new ≡ Some (length (at (place g.op) commits)) =
          s (place g.op) ∙ ap (λ (b : Bool). cond b (Some (length (at (place op) commits))) (lookup (nat_eq (place g.op)) old)) (eq-eqb (place op) (place g.op) (sym q))
          ∙ ap (λ (n : ℕ). Some (length (at n commits))) (sym q) in
          let nothing : unseen_at (place g.op) commits new ≡ [] =
          ap (λ m. ids_behind m (at (place g.op) commits)) looked ∙ drop_all (length (at (place g.op) commits)) (at (place g.op) commits) (omega arith) in
          ap (λ l. g.committed && has_id g.id l) nothing ∙ and-false g.committed
          ∙ sym (ap (λ (b : Bool). is_unseen place commits old g && not b) e ∙ and-false (is_unseen place commits old g))
      by g false e =
          let other : (place op == place g.op) ≡ false = false_from_ne_true (place op == place g.op) (λ z. differ (place g.op == place op) (eq-eqb (place g.op) (place op) (sym (eqb-true (place op) (place g.op) z))) e) in
          let looked : lookup (nat_eq (place g.op)) new ≡ lookup (nat_eq (place g.op)) old =
          s (place g.op) ∙ ap (λ (b : Bool). cond b (Some (length (at (place op) commits))) (lookup (nat_eq (place g.op)) old)) other in
          ap (λ m. g.committed && has_id g.id (ids_behind m (at (place g.op) commits))) looked
          ∙ sym (ap (λ (b : Bool). is_unseen place commits old g && not b) e ∙ and_true_right (is_unseen place commits old g))
        where
          and_true_right : (a : Bool) → (a && true) ≡ a
          and_true_right true = refl
          and_true_right false = refl

  -- The transaction t commits its own operations.
  module _ (G : List (SharedEntry Op)) (commits later : List (List ℕ)) (seen : List (ℕ × ℕ)) (t : Name) (own mine : List (Item Op))
      (d : (g h : SharedEntry Op) → Before g h G → g.id ≡ h.id → ⊥)
      (owned : (g : SharedEntry Op) → In g G → g.owner ≡ t → (p : Item Op) × In p mine × (g ≡ as_shared t false p))
      (stands : (p : Item Op) → In p mine → In (as_shared t false p) G)
      (sees : (q : ℕ) → is_some (lookup (nat_eq q) seen) ≡ any_at place q own)
      (within : (q k : ℕ) → lookup (nat_eq q) seen ≡ Some k → k ≤ length (at q commits))
      (grows : (q : ℕ) → at q later ≡ at q commits ++ ids_at place q mine)
      (done : (q id : ℕ) → In id (at q commits) → (g : SharedEntry Op) × In g G × (g.committed ≡ true) × (g.id ≡ id)) where
    behind_more : (q : ℕ) (m : Option ℕ) → lookup (nat_eq q) seen ≡ m → (i : ℕ) →
        has_id i (ids_behind m (at q later)) ≡ (has_id i (ids_behind m (at q commits)) || (is_some m && has_id i (ids_at place q mine)))
    behind_more q None e i = refl
    behind_more q (Some k) e i =
        ap (λ l. has_id i (drop k l)) (grows q)
        ∙ ap (λ l. has_id i l) (drop-append-le k (at q commits) (ids_at place q mine) (within q k e))
        ∙ has_id_append i (drop k (at q commits)) (ids_at place q mine)

    -- The ids of the operations of t are those of its entries, and of no others.
    is_mine : (g : SharedEntry Op) → In g G → has_id g.id (ids_at place (place g.op) mine) ≡ (g.owner =ⁿ t)
    is_mine g i = same_bool (has_id g.id (ids_at place (place g.op) mine)) (g.owner =ⁿ t)
        (λ h.
        let m = from_map (λ (p : Item Op). p.id) g.id (items_at place (place g.op) mine) (has_in g.id (ids_at place (place g.op) mine) h) in
        let f = from_filter (λ (p : Item Op). place p.op == place g.op) m.0 mine m.1 in
        let e = by_key (λ (w : SharedEntry Op). w.id) G d g (as_shared t false m.0) i (stands m.0 f.0) m.2 in
        elim (names_tell g.owner t) [ inl r ↦ r.0 | inr r ↦ absurd (r.1 (ap (λ (w : SharedEntry Op). w.owner) e)) ])
        (λ h. elim (names_tell g.owner t) [
          | inl r ↦
              let w = owned g i r.1 in
              in_has g.id (ids_at place (place g.op) mine) (subst (λ (j : ℕ). In j (ids_at place (place g.op) mine)) (ap (λ (z : SharedEntry Op). z.id) (sym w.2))
              (in_map (λ (p : Item Op). p.id) w.0 (items_at place (place g.op) mine) (in_filter (λ (p : Item Op). place p.op == place g.op) w.0 mine w.1 (eq-eqb (place (w.0).op) (place g.op) (ap (λ (z : SharedEntry Op). place z.op) (sym w.2))))))
          | inr r ↦ absurd (differ (g.owner =ⁿ t) h r.0)
        ])

    one : (g : SharedEntry Op) → In g G → is_unseen place later seen (commit t g) ≡ (has_id g.id (unseen place G commits seen) || is_met place t own g)
    one g i =
        ap (λ (z : Op). (commit t g).committed && has_id (commit t g).id (unseen_at (place z) later seen)) (commit_rest t g).1
        ∙ ap (λ (z : ℕ). (commit t g).committed && has_id z (unseen_at (place g.op) later seen)) (commit_rest t g).0
        ∙ ap (λ (b : Bool). (commit t g).committed && b) (behind_more (place g.op) (lookup (nat_eq (place g.op)) seen) refl g.id
        ∙ ap (λ (b : Bool). old || (is_some (lookup (nat_eq (place g.op)) seen) && b)) (is_mine g i)
        ∙ ap (λ (b : Bool). old || (b && (g.owner =ⁿ t))) (sees (place g.op)))
        ∙ by g.committed refl (names_tell g.owner t)
        ∙ ap (λ (b : Bool). b || is_met place t own g) (sym (has_unseen G commits seen d g i))
      where
        old : Bool
        old = has_id g.id (unseen_at (place g.op) commits seen)

        any_there : Bool
        any_there = any_at place (place g.op) own

        lone : (a b : Bool) → a ≡ false → (a || (b && true)) ≡ b
        lone true b e = absurd (cc)
        lone false true e = refl
        lone false false e = refl

        -- An uncommitted entry is not an unseen commit.
        none : (b : Bool) → old ≡ b → g.committed ≡ false → b ≡ false
        none false e u = refl
        none true e u =
            let h = has_in g.id (unseen_at (place g.op) commits seen) e in
            let c = done (place g.op) g.id (in_behind (lookup (nat_eq (place g.op)) seen) (at (place g.op) commits) g.id h) in
            absurd (differ g.committed (ap (λ (w : SharedEntry Op). w.committed) (by_key (λ (w : SharedEntry Op). w.id) G d g c.0 i c.1 (sym c.3)) ∙ c.2) u)

        by : (z : Bool) → g.committed ≡ z → (((g.owner =ⁿ t) ≡ true) × (g.owner ≡ t)) ⊎ (((g.owner =ⁿ t) ≡ false) × (g.owner ≢ t)) →
            ((commit t g).committed && (old || (any_there && (g.owner =ⁿ t)))) ≡ ((g.committed && old) || ((g.owner =ⁿ t) && any_there))
        by true u (inl r) = absurd (differ g.committed u (ap (λ (w : SharedEntry Op). w.committed) (owned g i r.1).2))
        by false u (inl r) =
            ap (λ (b : Bool). (cond b (as_committed g) g).committed && (old || (any_there && b))) r.0
            ∙ lone old any_there (none old refl u)
            ∙ sym (ap (λ (b : Bool). (b && old) || ((g.owner =ⁿ t) && any_there)) u ∙ ap (λ (b : Bool). b && any_there) r.0)
        by z u (inr r) =
            ap (λ (b : Bool). (cond b (as_committed g) g).committed && (old || (any_there && b))) r.0
            ∙ ap (λ (b : Bool). g.committed && (old || b)) (and-false any_there)
            ∙ ap (λ (b : Bool). g.committed && b) (or-false old)
            ∙ sym (ap (λ (b : Bool). (g.committed && old) || (b && any_there)) r.0 ∙ or-false (g.committed && old))

    -- After a commit, a transaction has not seen the committed entries that it met either.
    pub unseen_committed : unseen place (commit_all t G) later seen ≡ shared_ids (filter (λ g. has_id g.id (unseen place G commits seen) || is_met place t own g) G)
    unseen_committed =
        ap (λ (w : List (SharedEntry Op)). shared_ids w) (filter_map (is_unseen place later seen) (commit t) G)
        ∙ map_map (λ (w : SharedEntry Op). w.id) (commit t) (filter (λ h. is_unseen place later seen (commit t h)) G)
        ∙ map_same (λ (w : SharedEntry Op). (commit t w).id) (λ (w : SharedEntry Op). w.id) (filter (λ h. is_unseen place later seen (commit t h)) G) (λ w j. (commit_rest t w).0)
        ∙ ap (λ (w : List (SharedEntry Op)). shared_ids w) (filter_same (λ (h : SharedEntry Op). is_unseen place later seen (commit t h)) (λ (h : SharedEntry Op). has_id h.id (unseen place G commits seen) || is_met place t own h) G one)
