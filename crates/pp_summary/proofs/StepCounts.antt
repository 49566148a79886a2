-- How many steps a record means, by the data that a Quick keeps.
use Rattle.std.specs.Prelude.{◌≡◌, ◌≢◌, ◌==◌, ◌≤◌, ◌+◌, ◌*◌, ℕ, suc, nat_eq, Bool, true, false, cond, not, ◌&&◌, List, [], ◌∷◌, ◌++◌, drop, filter, is_some, length, map, option_map, take, Option, None, Some}
use Rattle.std.specs.Map.{lookup}
use Rattle.std.proofs.Common.{refl, sym, ap, subst, ◌∙◌, arith, length-append}
use Rattle.std.proofs.lemmas.Bool.{and_parts, eqb-true, eq-eqb, false_from_ne_true}
use Rattle.std.proofs.lemmas.List.{length-map, length-take-le, take-append-drop}
use mathlib.Core.Logic.{inl, inr}
use Rattle.pp_core.specs.declared.call.Style.TheVariants as styles
use Rattle.pp_core.specs.declared.entry.Item.{Item}
use Rattle.pp_model.specs.Config.{App, Cmt, Config, LocalEntry, Mark, Note, Pull, Pulled, Push, Pushed, Quit, SharedEntry, Tx, Unpushed, as_shared, is_mark, is_own, item, own_items, shared_item, tx}
use Rattle.pp_model.specs.Lists.{Before, In}
use Rattle.pp_model.specs.Names.{Name}
use Rattle.pp_model.specs.Object.{HasDistinctIds}
use Rattle.pp_model.specs.Serial.{has_id}
use Rattle.pp_model.specs.Sound.{serial_items, serial_ops}
use Rattle.pp_model.proofs.Lengths.{length-ops, no_longer}
use Rattle.pp_model.proofs.Lists.{before_from_filter, before_from_map, before_left, before_right, by_key, from_filter, from_map, in_filter, in_map, in_right}
use Rattle.pp_model.proofs.Logs.{before_from_own, found_tx, in_own, is_mark-true}
use Rattle.pp_model.proofs.Serial.{ordered, reorders, to_serial}
use Rattle.pp_kind.specs.Object.{Object, rules_of}
use Rattle.pp_records.specs.Expansions.{expand, refresh, stands_in, steps_of_open, taken_at, taken_out}
use Rattle.pp_records.specs.Fronts.{Front}
use Rattle.pp_records.specs.Records as records
use Rattle.pp_summary.specs.Boosted.{Boosted, Follows, PlacesSwap}
use Rattle.pp_summary.specs.Brief.{Brief, BriefTx, any_at, brief_of, brief_tx, is_missed, missed, shared_ids}
use Rattle.pp_summary.specs.Held.{HasSteps, IsHeldOf}
use Rattle.pp_summary.specs.Seen.{HaveOwnPlaces, seen_total}
use Rattle.pp_summary.specs.Shown.{KeepsQuick, Kept, as_held, at, count_behind, ids_at, ids_behind, is_unseen, items_at, open_in, shown_tx, unseen_at}
use Rattle.pp_summary.specs.declared.parts.OpenTx.{OpenTx}
use Rattle.pp_summary.proofs.Briefs.{brief_of_is, differ, to_any_at, to_brief}
use Rattle.pp_summary.proofs.Fresh.{done_few}
use Rattle.pp_summary.proofs.HeldOf.{done_stands, own_stands, there}
use Rattle.pp_summary.proofs.Judging.{own_ids}
use Rattle.pp_summary.proofs.Moving.{committed_there, fine_of, open_is, open_there}
use Rattle.pp_summary.proofs.Places.{Distinct, count_ids, count_looked_up, count_there, filter_parts, filter_twice, length_parts, total_is, total_within}
use Rattle.pp_laws_summary.proofs.Entries.{has_in, in_has, entry_in, is_there}
use Rattle.pp_laws_summary.proofs.Lookups.{and_true}
use Rattle.pp_laws_summary.proofs.Relog.{filter_same, same_bool}

-- An id is among those of the entries that pass a test exactly if its entry passes.
has_filtered : {Op : Type 0} (test : SharedEntry Op → Bool) (G : List (SharedEntry Op)) → ((a b : SharedEntry Op) → Before a b G → a.id ≡ b.id → ⊥) → (g : SharedEntry Op) → In g G →
    has_id g.id (shared_ids (filter test G)) ≡ test g
has_filtered {Op} test G d g i = same_bool (has_id g.id (shared_ids (filter test G))) (test g)
    (λ h.
    let m = from_map (λ (w : SharedEntry Op). w.id) g.id (filter test G) (has_in g.id (shared_ids (filter test G)) h) in
    let f = from_filter test m.0 G m.1 in
    subst (λ (w : SharedEntry Op). test w ≡ true) (by_key (λ (w : SharedEntry Op). w.id) G d m.0 g f.0 i (sym m.2)) f.1)
    (λ h. in_has g.id (shared_ids (filter test G)) (in_map (λ (w : SharedEntry Op). w.id) g (filter test G) (in_filter test g G i h)))

before_dropped : {A : Type 0} (k : ℕ) (l : List A) (x y : A) → Before x y (drop k l) → Before x y l
before_dropped {A} k l x y i = subst (λ (w : List A). Before x y w) (take-append-drop k l) (before_right x y (take k l) (drop k l) i)

in_dropped : {A : Type 0} (k : ℕ) (l : List A) (x : A) → In x (drop k l) → In x l
in_dropped {A} k l x i = subst (λ (w : List A). In x w) (take-append-drop k l) (in_right x (take k l) (drop k l) i)

some_or_none : (m : Option ℕ) → is_some m ≡ true → (k : ℕ) × (m ≡ Some k)
some_or_none None e = absurd (cc)
some_or_none (Some k) e = (k, refl)

-- The pulled entries of a local log.
abbrev pub pulled : {Op : Type 0} → List (LocalEntry Op) → List (LocalEntry Op)
pulled l = filter (λ e. is_mark e.mark Pulled) l

-- The pulled entries of a local log at a place.
abbrev pub pulled_there : {Op : Type 0} → (Op → ℕ) → ℕ → List (LocalEntry Op) → List (LocalEntry Op)
pulled_there place q l = filter (λ e. is_mark e.mark Pulled && (place e.op == q)) l

-- How many steps take out a log that has no unpushed entry.
taken_length : {Op : Type 0} (t : Name) (l : List (LocalEntry Op)) → ((a : LocalEntry Op) → In a l → is_own a.mark ≡ true → a.mark ≡ Pushed) →
    length (taken_out t l) ≡ length (pulled l) + 2 * length (own_items l)
taken_length t [] p = refl
taken_length {Op} t (e ∷ l) p = by e.mark refl (taken_length t l (λ a i. p a (inr i)))
  where
    by : (m : Mark) → e.mark ≡ m → length (taken_out t l) ≡ length (pulled l) + 2 * length (own_items l) →
        length (taken_out t l ++ taken_at t e.id e.mark) ≡ length (pulled (e ∷ l)) + 2 * length (own_items (e ∷ l))
    by Unpushed h k = absurd (let z : Unpushed ≡ Pushed = sym h ∙ p e (inl refl) (ap is_own h) in cc)
    by Pushed h k =
        length-append (taken_out t l) (taken_at t e.id e.mark)
        ∙ ap (λ (w : Mark). length (taken_out t l) + length (taken_at {Op = Op} t e.id w)) h
        ∙ (let z : length (taken_out t l) + 2 ≡ length (pulled l) + 2 * suc (length (own_items l)) = omega arith in z)
        ∙ ap (λ (w : Mark). length (cond (is_mark w Pulled) (e ∷ pulled l) (pulled l)) + 2 * length (map item (cond (is_own w) (e ∷ filter (λ (z : LocalEntry Op). is_own z.mark) l) (filter (λ z. is_own z.mark) l)))) (sym h)
    by Pulled h k =
        length-append (taken_out t l) (taken_at t e.id e.mark)
        ∙ ap (λ (w : Mark). length (taken_out t l) + length (taken_at {Op = Op} t e.id w)) h
        ∙ (let z : length (taken_out t l) + 1 ≡ suc (length (pulled l)) + 2 * length (own_items l) = omega arith in z)
        ∙ ap (λ (w : Mark). length (cond (is_mark w Pulled) (e ∷ pulled l) (pulled l)) + 2 * length (map item (cond (is_own w) (e ∷ filter (λ (z : LocalEntry Op). is_own z.mark) l) (filter (λ z. is_own z.mark) l)))) (sym h)

module _ {Shape State Op Undo : Type 0} (o : Object Shape State Op Undo) (place : Op → ℕ) (apart : (shape : Shape) → PlacesSwap (rules_of o shape) place) (v : Kept Shape Op) (h : KeepsQuick o place v) where
  abbrev G : List (SharedEntry Op)
  G = v.shared.1

  abbrev commits : List (List ℕ)
  commits = v.commits.items

  -- The entry is committed and at the place q.
  abbrev pub is_done : ℕ → SharedEntry Op → Bool
  is_done q g = g.committed && (place g.op == q)

  alone : (a b : SharedEntry Op) → Before a b G → a.id ≡ b.id → ⊥
  alone = own_ids o place apart v h

  -- A committed entry has the id and the place of an item of the serial run.
  done_item : (g : SharedEntry Op) → In g G → g.committed ≡ true → (p : Item Op) × In p (serial_items v.committed) × (g.id ≡ p.id) × (place g.op ≡ place p.op)
  done_item = subst (λ (b : Brief Op). (g : SharedEntry Op) → In g b.shared → g.committed ≡ true → (p : Item Op) × In p (serial_items b.done) × (g.id ≡ p.id) × (place g.op ≡ place p.op))
      h.is_held.1.is
      (λ g i u.
      let c = h.is_held.0 in
      let s = h.is_held.1.boosted.sound.committed_from g i u in
      (s.2, to_serial c.done s.0 s.2 s.1 s.3, ap (λ (w : SharedEntry Op). w.id) s.4, ap (λ (w : SharedEntry Op). place w.op) s.4))

  done_id : (q : ℕ) (g : SharedEntry Op) → In g G → is_done q g ≡ true → In g.id (at q commits)
  done_id q g i e =
      let a = and_parts g.committed (place g.op == q) e in
      let s = done_item g i a.0 in
      let there : (place (s.0).op == q) ≡ true = eq-eqb (place (s.0).op) q (sym s.3 ∙ eqb-true (place g.op) q a.1) in
      subst (λ (l : List ℕ). In g.id l) (sym (h.commits q))
      (subst (λ (k : ℕ). In k (ids_at place q (serial_items v.committed))) (sym s.2)
      (in_map (λ (p : Item Op). p.id) s.0 (items_at place q (serial_items v.committed)) (in_filter (λ (p : Item Op). place p.op == q) s.0 (serial_items v.committed) s.1 there)))

  done_entry : (q i : ℕ) → In i (at q commits) → (g : SharedEntry Op) × In g G × (is_done q g ≡ true) × (g.id ≡ i)
  done_entry q i j =
      let k = committed_there o place apart v h q i j in
      let s = done_stands o place apart (as_held place v) h.is_held k.0 k.1 in
      (as_shared s.0 true k.0, s.1, eq-eqb (place (k.0).op) q k.3, k.2)

  serial_distinct : HasDistinctIds (serial_items v.committed)
  serial_distinct = subst (λ (b : Brief Op). HasDistinctIds (serial_items b.done)) h.is_held.1.is
      (λ p q i.
      let c = h.is_held.0 in
      let O = rules_of o v.shape in
      (reorders O c.shared c.done (ordered O c h.is_held.1.boosted.sound)).distinct_y p q (before_left p q (serial_items c.done) _ i))

  ids_distinct : (q : ℕ) → Distinct (at q commits)
  ids_distinct q = subst (λ (l : List ℕ). Distinct l) (sym (h.commits q)) (λ i j b.
      let m = before_from_map (λ (p : Item Op). p.id) i j (items_at place q (serial_items v.committed)) b in
      λ s. serial_distinct m.0 m.1 (before_from_filter (λ (p : Item Op). place p.op == q) m.0 m.1 (serial_items v.committed) m.2) (sym m.3 ∙ s ∙ m.4))

  -- As many entries are committed at a place as the Quick keeps ids for it.
  pub done_length : (q : ℕ) → length (filter (is_done q) G) ≡ length (at q commits)
  done_length q = count_ids (λ (g : SharedEntry Op). g.id) (is_done q) G (at q commits) alone (ids_distinct q) (done_id q) (done_entry q)

  behind_length : (q k : ℕ) → length (filter (λ g. is_done q g && has_id g.id (drop k (at q commits))) G) ≡ length (drop k (at q commits))
  behind_length q k = count_ids (λ (g : SharedEntry Op). g.id) (λ g. is_done q g && has_id g.id (drop k (at q commits))) G (drop k (at q commits)) alone
      (λ i j b. ids_distinct q i j (before_dropped k (at q commits) i j b))
      (λ g i e. has_in g.id (drop k (at q commits)) (and_parts (is_done q g) (has_id g.id (drop k (at q commits))) e).1)
      (λ i j.
      let d = done_entry q i (in_dropped k (at q commits) i j) in
      (d.0, d.1, and_true (is_done q d.0) (has_id (d.0).id (drop k (at q commits))) d.2 (in_has (d.0).id (drop k (at q commits)) (subst (λ (n : ℕ). In n (drop k (at q commits))) (sym d.3) j)), d.3))

  -- A transaction has seen at most 256 more commits than records were taken.
  pub seen_few : (t : Name) (x : OpenTx (List (Item Op))) → open_in t v.slots.entries ≡ Some x → HaveOwnPlaces x.seen.entries → seen_total x.seen.entries ≤ v.count + 256
  seen_few t x found own =
      let all : seen_total x.seen.entries ≤ length (serial_items v.committed) =
      total_within (λ (p : Item Op). place p.op) x.seen.entries (serial_items v.committed) own (λ q k i.
      let w : k ≤ length (at q commits) = (fine_of o place apart v h t x found).within q k (count_looked_up x.seen.entries own q k i) in
      let e : length (at q commits) ≡ length (items_at place q (serial_items v.committed)) =
      ap (λ (l : List ℕ). length l) (h.commits q) ∙ length-map (items_at place q (serial_items v.committed)) (λ (p : Item Op). p.id) in
      omega arith) in
      let few : length (serial_ops v.committed) ≤ v.count + 256 = done_few o place apart v h in
      let same : length (serial_ops v.committed) ≡ length (serial_items v.committed) = length-ops (serial_items v.committed) in
      omega arith

  -- At a place, the commits after a position are at most 256 more than the records that were taken.
  pub unseen_few : (q : ℕ) (m : Option ℕ) → count_behind m (at q commits) ≤ v.count + 256
  unseen_few q m =
      let few : length (serial_ops v.committed) ≤ v.count + 256 = done_few o place apart v h in
      let same : length (serial_ops v.committed) ≡ length (serial_items v.committed) = length-ops (serial_items v.committed) in
      let there : length (at q commits) ≡ length (items_at place q (serial_items v.committed)) =
      ap (λ (l : List ℕ). length l) (h.commits q) ∙ length-map (items_at place q (serial_items v.committed)) (λ (p : Item Op). p.id) in
      let parts = length_parts (λ (p : Item Op). place p.op == q) (serial_items v.committed) in
      let some : count_behind m (at q commits) ≤ length (at q commits) = behind m in
      omega arith
    where
      behind : (m : Option ℕ) → count_behind m (at q commits) ≤ length (at q commits)
      behind None = omega arith
      behind (Some k) =
          let n : length (at q commits) ≡ length (take k (at q commits)) + length (drop k (at q commits)) =
          ap (λ (z : List ℕ). length z) (sym (take-append-drop k (at q commits))) ∙ length-append (take k (at q commits)) (drop k (at q commits)) in
          omega arith

  -- A configuration of which it is the brief.
  module _ (c : Config Op) (is : IsHeldOf o place (as_held place v) c) where
    -- A transaction without an open slot is not open in the configuration.
    pub none_open : (t : Name) → open_in t v.slots.entries ≡ None → tx t c.opened ≡ None
    none_open t e = by (tx t c.opened)
        (sym (brief_of_is place c.shared t c.opened) ∙ ap (λ (b : Brief Op). brief_of t b.opened) is.is ∙ open_is o place apart v h t ∙ ap (option_map (shown_tx place G commits t)) e)
      where
        by : (w : Option (Tx Op)) → to_brief place c.shared w ≡ None → w ≡ None
        by None k = refl
        by (Some y) k = absurd (cc)

    module _ (t : Name) (x : OpenTx (List (Item Op))) (found : open_in t v.slots.entries ≡ Some x) where
      -- The open transaction x, as the configuration has it.
      pub opened : (y : Tx Op) × (tx t c.opened ≡ Some y) × (brief_tx place c.shared y ≡ shown_tx place G commits t x)
      opened = there o place apart (as_held place v) (c, is) t (shown_tx place G commits t x) (open_there o place apart v h t x found)

      abbrev y : Tx Op
      y = opened.0

      -- The local log of the open transaction x.
      abbrev pub l : List (LocalEntry Op)
      l = y.local

      iy : In y c.opened
      iy = (found_tx t c.opened y opened.1).0

      same_log : c.shared ≡ G
      same_log = ap (λ (b : Brief Op). b.shared) is.is

      -- The own items of the local log are those that the summary keeps.
      pub same_own : own_items l ≡ x.own
      same_own = ap (λ (b : BriefTx Op). b.own) opened.2

      follows : Follows (rules_of o v.shape) place G l
      follows = subst (λ (z : List (SharedEntry Op)). Follows (rules_of o v.shape) place z l) same_log (is.boosted.follows y iy)

      own_distinct : HasDistinctIds (own_items l)
      own_distinct p q b =
          let r = before_from_own l p q b in
          λ s. is.boosted.sound.local_ids y iy r.0 r.1 r.2 (ap (λ (w : Item Op). w.id) (sym r.5) ∙ s ∙ ap (λ (w : Item Op). w.id) r.6)

      pushed_there : (e : LocalEntry Op) → In e l → e.mark ≡ Pushed → In (as_shared y.name false (item e)) G
      pushed_there e i m = subst (λ (z : List (SharedEntry Op)). In (as_shared y.name false (item e)) z) same_log (is.boosted.sound.pushed_stand y iy e i m)

      -- A committed entry that is in the local log was pulled.
      was_pulled : (g : SharedEntry Op) → In g G → g.committed ≡ true → stands_in l g.id ≡ true → (e : LocalEntry Op) × In e l × (e.mark ≡ Pulled) × (e.id ≡ g.id) × (e.op ≡ g.op)
      was_pulled g i u s = let e = entry_in g.id l s in by e.0 e.1 e.2 (e.0).mark refl
        where
          by : (e : LocalEntry Op) → In e l → e.id ≡ g.id → (m : Mark) → e.mark ≡ m → (e : LocalEntry Op) × In e l × (e.mark ≡ Pulled) × (e.id ≡ g.id) × (e.op ≡ g.op)
          by e j n Unpushed k = absurd (let z : Unpushed ≡ Pushed = sym k ∙ follows.own_pushed e j (ap is_own k) in cc)
          by e j n Pushed k =
              let z : as_shared y.name false (item e) ≡ g = by_key (λ (w : SharedEntry Op). w.id) G alone (as_shared y.name false (item e)) g (pushed_there e j k) i n in
              absurd (differ g.committed u (ap (λ (w : SharedEntry Op). w.committed) (sym z)))
          by e j n Pulled k =
              let z : as_shared e.owner true (item e) ≡ g = by_key (λ (w : SharedEntry Op). w.id) G alone (as_shared e.owner true (item e)) g (follows.pulled_stand e j k) i n in
              (e, j, k, n, ap (λ (w : SharedEntry Op). w.op) z)

      same_missed : (g : SharedEntry Op) → In g G → is_missed place l g ≡ is_unseen place commits x.seen.entries g
      same_missed g i =
          sym (has_filtered (is_missed place l) G alone g i)
          ∙ ap (λ (js : List ℕ). has_id g.id js) (ap (λ (z : List (SharedEntry Op)). missed place z l) (sym same_log) ∙ ap (λ (b : BriefTx Op). b.missed) opened.2)
          ∙ has_filtered (is_unseen place commits x.seen.entries) G alone g i

      own_there : (q : ℕ) (m : Option ℕ) → lookup (nat_eq q) x.seen.entries ≡ m → any_at place q (own_items l) ≡ is_some m
      own_there q m e = ap (λ (w : List (Item Op)). any_at place q w) same_own ∙ sym ((fine_of o place apart v h t x found).sees q) ∙ ap (λ (z : Option ℕ). is_some z) e

      -- For each pulled entry, the log has an own entry at the same place.
      anchor : (e : LocalEntry Op) → In e l → e.mark ≡ Pulled → any_at place (place e.op) (own_items l) ≡ true
      anchor e i m = let a = is.boosted.anchored y iy e i m in to_any_at place (place e.op) (own_items l) (item a.0) (in_own l a.0 (a.1).0 (a.1).1) (a.1).2

      -- The committed entries at a place that the local log does not have.
      abbrev pub lacking : ℕ → List (SharedEntry Op)
      lacking q = filter (λ g. is_done q g && not (stands_in l g.id)) G

      lacking_some : (q k : ℕ) → lookup (nat_eq q) x.seen.entries ≡ Some k → length (lacking q) ≡ length (drop k (at q commits))
      lacking_some q k e =
          ap (λ (w : List (SharedEntry Op)). length w)
          (filter_same (λ g. is_done q g && not (stands_in l g.id)) (λ g. is_done q g && has_id g.id (drop k (at q commits))) G (λ g i. by g i (is_done q g) refl))
          ∙ behind_length q k
        where
          by : (g : SharedEntry Op) → In g G → (b : Bool) → is_done q g ≡ b → (is_done q g && not (stands_in l g.id)) ≡ (is_done q g && has_id g.id (drop k (at q commits)))
          by g i false d = ap (λ (b : Bool). b && not (stands_in l g.id)) d ∙ sym (ap (λ (b : Bool). b && has_id g.id (drop k (at q commits))) d)
          by g i true d =
              let a = and_parts g.committed (place g.op == q) d in
              let p : place g.op ≡ q = eqb-true (place g.op) q a.1 in
              let m : is_missed place l g ≡ not (stands_in l g.id) =
              ap (λ (b : Bool). b && (any_at place (place g.op) (own_items l) && not (stands_in l g.id))) a.0
              ∙ ap (λ (b : Bool). b && not (stands_in l g.id)) (ap (λ (n : ℕ). any_at place n (own_items l)) p ∙ own_there q (Some k) e) in
              let u : is_unseen place commits x.seen.entries g ≡ has_id g.id (drop k (at q commits)) =
              ap (λ (b : Bool). b && has_id g.id (unseen_at (place g.op) commits x.seen.entries)) a.0
              ∙ ap (λ (n : ℕ). has_id g.id (unseen_at n commits x.seen.entries)) p
              ∙ ap (λ (z : Option ℕ). has_id g.id (ids_behind z (at q commits))) e in
              ap (λ (b : Bool). b && not (stands_in l g.id)) d ∙ sym m ∙ same_missed g i ∙ u ∙ sym (ap (λ (b : Bool). b && has_id g.id (drop k (at q commits))) d)

      lacking_none : (q : ℕ) → lookup (nat_eq q) x.seen.entries ≡ None → length (lacking q) ≡ length (at q commits)
      lacking_none q e =
          ap (λ (w : List (SharedEntry Op)). length w) (filter_same (λ g. is_done q g && not (stands_in l g.id)) (is_done q) G (λ g i. by g i (is_done q g) refl)) ∙ done_length q
        where
          by : (g : SharedEntry Op) → In g G → (b : Bool) → is_done q g ≡ b → (is_done q g && not (stands_in l g.id)) ≡ is_done q g
          by g i false d = ap (λ (b : Bool). b && not (stands_in l g.id)) d ∙ sym d
          by g i true d =
              let a = and_parts g.committed (place g.op == q) d in
              let out : stands_in l g.id ≡ false = false_from_ne_true (stands_in l g.id) (λ s.
              let w = was_pulled g i a.0 s in
              differ (any_at place q (own_items l)) (subst (λ (n : ℕ). any_at place n (own_items l) ≡ true) (ap place w.4 ∙ eqb-true (place g.op) q a.1) (anchor w.0 w.1 w.2)) (own_there q None e)) in
              ap (λ (b : Bool). b && not (stands_in l g.id)) d ∙ ap not out ∙ sym d

      -- The local log does not have as many committed entries of a place as come after those that were seen there.
      pub lacking_length : (q : ℕ) → length (lacking q) ≡ count_behind (lookup (nat_eq q) x.seen.entries) (at q commits)
      lacking_length q = by (lookup (nat_eq q) x.seen.entries) refl
        where
          by : (m : Option ℕ) → lookup (nat_eq q) x.seen.entries ≡ m → length (lacking q) ≡ count_behind (lookup (nat_eq q) x.seen.entries) (at q commits)
          by None e = lacking_none q e ∙ ap (λ (z : Option ℕ). count_behind z (at q commits)) (sym e)
          by (Some k) e = lacking_some q k e ∙ ap (λ (z : Option ℕ). count_behind z (at q commits)) (sym e)

      abbrev test : ℕ → LocalEntry Op → Bool
      test q e = is_mark e.mark Pulled && (place e.op == q)

      abbrev P : ℕ → List (LocalEntry Op)
      P q = pulled_there place q l

      stood_length : (q : ℕ) → length (filter (λ g. is_done q g && stands_in l g.id) G) ≡ length (P q)
      stood_length q =
          count_ids (λ (g : SharedEntry Op). g.id) (λ g. is_done q g && stands_in l g.id) G (map (λ (e : LocalEntry Op). e.id) (P q)) alone
          (λ i j b. let m = before_from_map (λ (e : LocalEntry Op). e.id) i j (P q) b in
          λ s. is.boosted.sound.local_ids y iy m.0 m.1 (before_from_filter (test q) m.0 m.1 l m.2) (sym m.3 ∙ s ∙ m.4))
          (λ g i e.
          let a = and_parts (is_done q g) (stands_in l g.id) e in
          let d = and_parts g.committed (place g.op == q) a.0 in
          let w = was_pulled g i d.0 a.1 in
          let p : test q w.0 ≡ true = and_true (is_mark (w.0).mark Pulled) (place (w.0).op == q) (ap (λ (m : Mark). is_mark m Pulled) w.2) (eq-eqb (place (w.0).op) q (ap place w.4 ∙ eqb-true (place g.op) q d.1)) in
          subst (λ (n : ℕ). In n (map (λ (z : LocalEntry Op). z.id) (P q))) w.3 (in_map (λ (z : LocalEntry Op). z.id) w.0 (P q) (in_filter (test q) w.0 l w.1 p)))
          (λ i j.
          let m = from_map (λ (e : LocalEntry Op). e.id) i (P q) j in
          let f = from_filter (test q) m.0 l m.1 in
          let a = and_parts (is_mark (m.0).mark Pulled) (place (m.0).op == q) f.1 in
          let g = as_shared (m.0).owner true (item m.0) in (
            g,
            follows.pulled_stand m.0 f.0 (is_mark-true (m.0).mark Pulled a.0),
            and_true (is_done q g) (stands_in l g.id) a.1 (is_there (m.0).id l m.0 f.0 refl),
            sym m.2,
          ))
          ∙ length-map (P q) (λ (e : LocalEntry Op). e.id)

      stood_and_lacking : (q : ℕ) → length (at q commits) ≡ length (pulled_there place q l) + length (lacking q)
      stood_and_lacking q = sym (done_length q) ∙ filter_parts (λ (g : SharedEntry Op). stands_in l g.id) (is_done q) G ∙ ap (λ (n : ℕ). n + length (lacking q)) (stood_length q)

      -- As many entries were pulled at a place as were seen there.
      pub pulled_some : (q k : ℕ) → lookup (nat_eq q) x.seen.entries ≡ Some k → length (pulled_there place q l) ≡ k
      pulled_some q k e =
          let w : k ≤ length (at q commits) = (fine_of o place apart v h t x found).within q k e in
          let a = stood_and_lacking q in
          let b = lacking_some q k e in
          let n : length (at q commits) ≡ length (take k (at q commits)) + length (drop k (at q commits)) =
          ap (λ (z : List ℕ). length z) (sym (take-append-drop k (at q commits))) ∙ length-append (take k (at q commits)) (drop k (at q commits)) in
          let m : length (take k (at q commits)) ≡ k = length-take-le k (at q commits) w in
          omega arith

      -- If nothing was seen of a place, no pulled entry is at it.
      pub pulled_none : (q : ℕ) → lookup (nat_eq q) x.seen.entries ≡ None → length (pulled_there place q l) ≡ 0
      pulled_none q e =
          let a = stood_and_lacking q in
          let b = lacking_none q e in
          omega arith

      pulled_length : HaveOwnPlaces x.seen.entries → length (pulled l) ≡ seen_total x.seen.entries
      pulled_length own = total_is (λ (e : LocalEntry Op). place e.op) x.seen.entries (pulled l) own
          (λ q k i. ap (λ (w : List (LocalEntry Op)). length w) (filter_twice (λ (e : LocalEntry Op). place e.op == q) (λ (e : LocalEntry Op). is_mark e.mark Pulled) l)
          ∙ pulled_some q k (count_looked_up x.seen.entries own q k i))
          (λ e i.
          let f = from_filter (λ (w : LocalEntry Op). is_mark w.mark Pulled) e l i in
          let a = anchor e f.0 (is_mark-true e.mark Pulled f.1) in
          let s = some_or_none (lookup (nat_eq (place e.op)) x.seen.entries) (sym (own_there (place e.op) (lookup (nat_eq (place e.op)) x.seen.entries) refl) ∙ a) in
          (s.0, count_there x.seen.entries (place e.op) s.0 s.1))

      -- How many steps take the transaction back.
      pub back_length : HaveOwnPlaces x.seen.entries → length (taken_out t l) ≡ seen_total x.seen.entries + 2 * length x.own
      back_length own =
          let a = taken_length t l follows.own_pushed in
          let b = pulled_length own in
          let d : length (own_items l) ≡ length x.own = ap (λ (w : List (Item Op)). length w) same_own in
          omega arith

      -- How many steps an operation means.
      pub op_length : (f : Front) (id : ℕ) (op : Op) → length (expand place styles.Boosted f c (records.Op t id op)) ≡ count_behind (lookup (nat_eq (place op)) x.seen.entries) (at (place op) commits) + 2
      op_length f id op =
          ap (λ (w : Option (Tx Op)). length (steps_of_open w (App t id op) (λ k. refresh place t (place op) c.shared k ++ App t id op ∷ Push t id ∷ []))) opened.1
          ∙ ap (λ (z : List (SharedEntry Op)). length (refresh place t (place op) z l ++ App t id op ∷ Push t id ∷ [])) same_log
          ∙ length-append (refresh place t (place op) G l) (App t id op ∷ Push t id ∷ [])
          ∙ ap (λ (n : ℕ). n + 2) (length-map (lacking (place op)) (λ (g : SharedEntry Op). Pull t g.id) ∙ lacking_length (place op))

  -- A transaction has at most 256 more own operations than records were taken.
  pub own_few : (t : Name) (x : OpenTx (List (Item Op))) → open_in t v.slots.entries ≡ Some x → length x.own ≤ v.count + 256
  own_few t x found =
      let c = h.is_held in
      let d : HasDistinctIds x.own = subst (λ (w : List (Item Op)). HasDistinctIds w) (same_own c.0 c.1 t x found) (own_distinct c.0 c.1 t x found) in
      let s = own_stands o place apart (as_held place v) c t (shown_tx place G commits t x) (open_there o place apart v h t x found) in
      let a : length x.own ≤ length (map shared_item G) = no_longer x.own (map shared_item G) d (λ p i. in_map shared_item (as_shared t false p) G (s p i)) in
      let b : length (map shared_item G) ≡ length G = length-map G (shared_item {Op = Op}) in
      let few = h.few in
      omega arith

  abbrev Has : records.RunRecord Op → ℕ → Type 0
  Has r n = HasSteps o place (as_held place v) r n

  -- An op record of a transaction that is not open is one step.
  pub op_alone : (t : Name) → open_in t v.slots.entries ≡ None → (id : ℕ) (op : Op) → Has (records.Op t id op) 1
  op_alone t e id op f c is = sym (ap (λ (w : Option (Tx Op)). length (steps_of_open w (App t id op) (λ k. refresh place t (place op) c.shared k ++ App t id op ∷ Push t id ∷ []))) (none_open c is t e))

  -- An abort record of a transaction that is not open is one step.
  pub abort_alone : (t : Name) → open_in t v.slots.entries ≡ None → Has (records.Abort t) 1
  abort_alone t e f c is = sym (ap (λ (w : Option (Tx Op)). length (steps_of_open w (Quit t) (λ k. taken_out t k ++ Quit t ∷ []))) (none_open c is t e))

  -- A retry record of a transaction that is not open is one step.
  pub retry_alone : (t : Name) → open_in t v.slots.entries ≡ None → Has (records.Retry t) 1
  retry_alone t e f c is = sym (ap (λ (w : Option (Tx Op)). length (steps_of_open w (Note t) (λ k. Note t ∷ taken_out t k))) (none_open c is t e))

  module _ (t : Name) (x : OpenTx (List (Item Op))) (found : open_in t v.slots.entries ≡ Some x) where
    -- An op record is as many steps as commits at its place were not seen, and two more.
    pub op_steps : (id : ℕ) (op : Op) (n : ℕ) → n ≡ count_behind (lookup (nat_eq (place op)) x.seen.entries) (at (place op) commits) + 2 → Has (records.Op t id op) n
    op_steps id op n e f c is = e ∙ sym (op_length c is t x found f id op)

    module _ (own : HaveOwnPlaces x.seen.entries) (n : ℕ) (e : n ≡ seen_total x.seen.entries + 2 * length x.own + 1) where
      -- An abort record is a step for each pulled entry, two for each own entry, and one step for itself.
      pub abort_steps : Has (records.Abort t) n
      abort_steps f c is =
          let y = opened c is t x found in
          let a : length (taken_out t (y.0).local ++ Quit t ∷ []) ≡ length (taken_out t (y.0).local) + 1 = length-append (taken_out t (y.0).local) (Quit t ∷ []) in
          let b = back_length c is t x found own in
          let d : n ≡ length (taken_out t (y.0).local ++ Quit t ∷ []) = omega arith in
          d ∙ sym (ap (λ (w : Option (Tx Op)). length (steps_of_open w (Quit t) (λ k. taken_out t k ++ Quit t ∷ []))) y.1)

      -- A retry record is a step for each pulled entry, two for each own entry, and one step for itself.
      pub retry_steps : Has (records.Retry t) n
      retry_steps f c is =
          let y = opened c is t x found in
          let b = back_length c is t x found own in
          let d : n ≡ length (Note t ∷ taken_out t (y.0).local) = omega arith in
          d ∙ sym (ap (λ (w : Option (Tx Op)). length (steps_of_open w (Note t) (λ k. Note t ∷ taken_out t k))) y.1)

  -- A commit record is one step.
  pub commit_steps : (t : Name) → Has (records.Commit t) 1
  commit_steps t f c is = by (tx t c.opened)
    where
      by : (w : Option (Tx Op)) → 1 ≡ length (steps_of_open w (Cmt t) (λ k. Cmt t ∷ []))
      by None = refl
      by (Some y) = refl
