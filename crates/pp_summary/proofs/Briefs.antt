-- The brief decides whether a record is good, and which brief a good one leads to.
use Rattle.std.specs.Prelude.{◌≡◌, ◌≢◌, ℕ, ◌==◌, Bool, true, false, not, cond, ◌&&◌, ◌||◌, List, [], ◌∷◌, ◌++◌, map, filter, Option, Some, None}
use Rattle.std.proofs.Common.{refl, sym, ap, subst, ◌∙◌}
use Rattle.std.proofs.lemmas.List.{map-append, append-nil}
use Rattle.std.proofs.lemmas.Bool.{eqb-true, eq-eqb}
use mathlib.Core.Logic.{inl, inr}
use Rattle.pp_model.specs.Body.{IsWord}
use Rattle.pp_model.specs.Lists.{In, Before}
use Rattle.pp_model.specs.Names.{Name, ◌=ⁿ◌}
use Rattle.pp_model.specs.Object.{Object, Swaps, Item}
use Rattle.pp_model.specs.Config.{LocalEntry, SharedEntry, Tx, Config, App, Cmt, Note, Quit, item, own_items, as_shared, tx, then, commit_effect, commit_all, on_log, relog, without_tx, after_from}
use Rattle.pp_model.specs.Rules.{calls}
use Rattle.pp_model.specs.Serial.{has_id}
use Rattle.pp_model.proofs.Lists.{in_left, in_cases, in_map, from_map, in_filter, from_filter, by_key}
use Rattle.pp_model.proofs.Logs.{found_tx, from_own, in_own, eqb_not, not_eqb}
use Rattle.pp_model.proofs.Names.{names-true, names_tell, names_not, not_names}
use Rattle.pp_model.proofs.Commit.{commit, as_committed}
use Rattle.pp_model.proofs.Trace.{map_same}
use Rattle.pp_core.specs.declared.call.Style.TheVariants as styles
use Rattle.pp_records.specs.Expansions.{expand, op_at_once, stands_in, steps_of_open, taken_out}
use Rattle.pp_records.specs.Fronts.{Front}
use Rattle.pp_records.specs.Records.{RunRecord}
use Rattle.pp_records.specs.Records as records
use Rattle.pp_summary.specs.Runs.{IsBoosted}
use Rattle.pp_summary.specs.Boosted.{PlacesSwap, Boosted, Good, GoodOp, OfOpen}
use Rattle.pp_summary.specs.Brief.{BriefTx, any_at, shared_ids, is_missed, missed, brief_tx, brief, brief_of, BriefGood, BriefGoodOp, InBrief, at_brief, without_brief, without_owner, grown, missing_more, emptied, own_list, brief_then}
use Rattle.pp_summary.specs.Laws.{IsBriefed}
use Rattle.pp_summary.proofs.OnOp.{as_boosted_but, op_runs, op_grown, Grown}
use Rattle.pp_summary.proofs.OnCommit.{commit_rest}
use Rattle.pp_records.proofs.Ends.{after_append}
use Rattle.pp_summary.proofs.BackEnd.{all_since, none_owned}
use Rattle.pp_summary.proofs.Deciding.{by_record, whole}
use Rattle.std.proofs.lemmas.Bool.{and_parts}
use Rattle.std.proofs.lemmas.List.Elements.{filter-append}
use Rattle.pp_laws_summary.proofs.Entries.{is_there, not_there, was_false, or_true, or_right, has_in, in_has}
use Rattle.pp_laws_summary.proofs.Lookups.{and_true, done_by_other}
use Rattle.pp_laws_summary.proofs.Relog.{map_map, same_bool, filter_same, filter_none, filter_within, filter_map, on_log-same, without_on}
use Rattle.std.proofs.Math.Bool.{and-false}
use Rattle.pp_body.proofs.Patterns.{or_left}

-- No boolean is both true and false.
pub differ : (b : Bool) → b ≡ true → b ≡ false → ⊥
differ b h k = let z : true ≡ false = sym h ∙ k in cc

-- If `any_at` is true, one of the items is at the place.
pub from_any_at : {Op : Type 0} (place : Op → ℕ) (o : ℕ) (l : List (Item Op)) → any_at place o l ≡ true → (q : Item Op) × In q l × (place q.op ≡ o)
from_any_at place o [] h = absurd (cc)
from_any_at place o (p ∷ l) h = elim (or_true (place p.op == o) (any_at place o l) h) [
  | inl k ↦ (p, inl refl, eqb-true (place p.op) o k)
  | inr k ↦ let r = from_any_at place o l k in (r.0, inr r.1, r.2)
]

-- If one of the items is at the place, `any_at` is true.
pub to_any_at : {Op : Type 0} (place : Op → ℕ) (o : ℕ) (l : List (Item Op)) (q : Item Op) → In q l → place q.op ≡ o → any_at place o l ≡ true
to_any_at place o [] q h e = absurd h
to_any_at {Op} place o (p ∷ l) q (inl h) e = or_left (place p.op == o) (any_at place o l) (eq-eqb (place p.op) o (ap (λ (w : Item Op). place w.op) (sym h) ∙ e))
to_any_at place o (p ∷ l) q (inr h) e = or_right (place p.op == o) (any_at place o l) (to_any_at place o l q h e)

-- The facts that make an entry a missed one.
abbrev Parts : {Op : Type 0} → (Op → ℕ) → List (LocalEntry Op) → SharedEntry Op → Type 0
Parts place L g = (g.committed ≡ true) × (any_at place (place g.op) (own_items L) ≡ true) × (stands_in L g.id ≡ false)

parts : {Op : Type 0} (place : Op → ℕ) (L : List (LocalEntry Op)) (g : SharedEntry Op) → is_missed place L g ≡ true → Parts place L g
parts place L g h =
    let a = and_parts g.committed (any_at place (place g.op) (own_items L) && not (stands_in L g.id)) h in
    let b = and_parts (any_at place (place g.op) (own_items L)) (not (stands_in L g.id)) a.1 in
    (a.0, b.0, was_false (stands_in L g.id) b.1)

from_parts : {Op : Type 0} (place : Op → ℕ) (L : List (LocalEntry Op)) (g : SharedEntry Op) → Parts place L g → is_missed place L g ≡ true
from_parts place L g p =
    and_true g.committed (any_at place (place g.op) (own_items L) && not (stands_in L g.id)) p.0
    (and_true (any_at place (place g.op) (own_items L)) (not (stands_in L g.id)) p.1 (ap not p.2))

-- The id of an entry is among the missed ids exactly if the entry is missed.
has_missed : {Op : Type 0} (place : Op → ℕ) (G : List (SharedEntry Op)) (L : List (LocalEntry Op)) → ((g h : SharedEntry Op) → Before g h G → g.id ≢ h.id) → (g : SharedEntry Op) → In g G →
    has_id g.id (missed place G L) ≡ is_missed place L g
has_missed {Op} place G L d g i = same_bool (has_id g.id (missed place G L)) (is_missed place L g)
    (λ h.
    let m = from_map (λ (w : SharedEntry Op). w.id) g.id (filter (is_missed place L) G) (has_in g.id (missed place G L) h) in
    let f = from_filter (is_missed place L) m.0 G m.1 in
    subst (λ (w : SharedEntry Op). is_missed place L w ≡ true) (by_key (λ (w : SharedEntry Op). w.id) G d m.0 g f.0 i (sym m.2)) f.1)
    (λ h. in_has g.id (missed place G L) (in_map (λ (w : SharedEntry Op). w.id) g (filter (is_missed place L) G) (in_filter (is_missed place L) g G i h)))

missed_none : {Op : Type 0} (place : Op → ℕ) (G : List (SharedEntry Op)) → missed place G [] ≡ []
missed_none {Op} place G = ap (λ (w : List (SharedEntry Op)). shared_ids w) (filter_none (is_missed place []) G (λ g i. and-false g.committed))

-- An uncommitted entry at the end of the shared log is not missed.
missed_wider : {Op : Type 0} (place : Op → ℕ) (G : List (SharedEntry Op)) (L : List (LocalEntry Op)) (t : Name) (p : Item Op) → missed place (G ++ as_shared t false p ∷ []) L ≡ missed place G L
missed_wider {Op} place G L t p = ap (λ (w : List (SharedEntry Op)). shared_ids w) (filter-append (is_missed place L) G (as_shared t false p ∷ []) ∙ append-nil (filter (is_missed place L) G))

-- The brief of an open transaction, if there is one.
abbrev pub to_brief : {Op : Type 0} → (Op → ℕ) → List (SharedEntry Op) → Option (Tx Op) → Option (BriefTx Op)
to_brief place G None = None
to_brief place G (Some x) = Some (brief_tx place G x)

-- The open transaction that is found in a brief is the brief of the one in the configuration.
pub brief_of_is : {Op : Type 0} (place : Op → ℕ) (G : List (SharedEntry Op)) (t : Name) (xs : List (Tx Op)) → brief_of t (map (brief_tx place G) xs) ≡ to_brief place G (tx t xs)
brief_of_is place G t [] = refl
brief_of_is {Op} place G t (x ∷ xs) = ap (λ (w : Option (BriefTx Op)). cond (x.name =ⁿ t) (Some (brief_tx place G x)) w) (brief_of_is place G t xs) ∙ into (x.name =ⁿ t)
  where
    into : (b : Bool) → cond b (Some (brief_tx place G x)) (to_brief place G (tx t xs)) ≡ to_brief place G (cond b (Some x) (tx t xs))
    into true = refl
    into false = refl

-- The briefs of the transactions after a change of one local log.
briefs_on : {Op : Type 0} (place : Op → ℕ) (t : Name) (f : List (LocalEntry Op) → List (LocalEntry Op)) (G G' : List (SharedEntry Op)) (h : BriefTx Op → BriefTx Op) (xs : List (Tx Op)) →
    ((w : Tx Op) → In w xs → w.name ≡ t → brief_tx place G' (relog f w) ≡ h (brief_tx place G w)) →
    ((w : Tx Op) → In w xs → w.name ≢ t → brief_tx place G' w ≡ brief_tx place G w) →
    map (brief_tx place G') (on_log t f xs) ≡ at_brief t h (map (brief_tx place G) xs)
briefs_on {Op} place t f G G' h xs here others =
    map_map (brief_tx place G') (λ (w : Tx Op). cond (w.name =ⁿ t) (relog f w) w) xs
    ∙ map_same (λ (w : Tx Op). brief_tx place G' (cond (w.name =ⁿ t) (relog f w) w)) (λ (w : Tx Op). cond (w.name =ⁿ t) (h (brief_tx place G w)) (brief_tx place G w)) xs one
    ∙ sym (map_map (λ (y : BriefTx Op). cond (y.name =ⁿ t) (h y) y) (brief_tx place G) xs)
  where
    one : (w : Tx Op) → In w xs → brief_tx place G' (cond (w.name =ⁿ t) (relog f w) w) ≡ cond (w.name =ⁿ t) (h (brief_tx place G w)) (brief_tx place G w)
    one w i = elim (names_tell w.name t) [
      | inl r ↦ ap (λ (z : Bool). brief_tx place G' (cond z (relog f w) w)) r.0 ∙ here w i r.1 ∙ sym (ap (λ (z : Bool). cond z (h (brief_tx place G w)) (brief_tx place G w)) r.0)
      | inr r ↦ ap (λ (z : Bool). brief_tx place G' (cond z (relog f w) w)) r.0 ∙ others w i r.1 ∙ sym (ap (λ (z : Bool). cond z (h (brief_tx place G w)) (brief_tx place G w)) r.0)
    ]

-- The briefs of the transactions without one of them.
briefs_without : {Op : Type 0} (place : Op → ℕ) (t : Name) (G G' : List (SharedEntry Op)) (h : BriefTx Op → BriefTx Op) (xs : List (Tx Op)) →
    ((w : Tx Op) → In w xs → w.name ≢ t → brief_tx place G' w ≡ h (brief_tx place G w)) →
    map (brief_tx place G') (without_tx t xs) ≡ map h (without_brief t (map (brief_tx place G) xs))
briefs_without {Op} place t G G' h xs others =
    map_same (brief_tx place G') (λ (w : Tx Op). h (brief_tx place G w)) (without_tx t xs)
    (λ w i. let k = from_filter (λ (x : Tx Op). not (x.name =ⁿ t)) w xs i in others w k.0 (not_names w.name t k.1))
    ∙ sym (map_map h (brief_tx place G) (without_tx t xs))
    ∙ ap (λ (w : List (BriefTx Op)). map h w) (sym (filter_map (λ (y : BriefTx Op). not (y.name =ⁿ t)) (brief_tx place G) xs))

same_brief : {Op : Type 0} (place : Op → ℕ) (G G' : List (SharedEntry Op)) (w : Tx Op) → missed place G' w.local ≡ missed place G w.local → brief_tx place G' w ≡ brief_tx place G w
same_brief place G G' w e = ap (λ (m : List ℕ). record { name = w.name; thread = w.thread; body = w.body; own = own_items w.local; missed = m }) e

module _ {Op State : Type 0} (O : Object Op State) (place : Op → ℕ) (apart : PlacesSwap O place) (c : Config Op) (b : Boosted O place c) where
  found : (t : Name) (x : Tx Op) → tx t c.opened ≡ Some x → brief_of t (map (brief_tx place c.shared) c.opened) ≡ Some (brief_tx place c.shared x)
  found t x e = brief_of_is place c.shared t c.opened ∙ ap (to_brief place c.shared) e

  op_to : (id : ℕ) (op : Op) (x : Tx Op) → GoodOp O place c id op x → BriefGoodOp O place (brief place c) id op (brief_tx place c.shared x)
  op_to id op x g =
      record {
        new = g.new;
        begins = g.begins;
        swaps = λ a p i q j r m.
            let e = from_own x.local a i in
            let k = parts place x.local p (sym (has_missed place c.shared x.local b.sound.shared_ids p j) ∙ in_has p.id (missed place c.shared x.local) m) in
            subst (λ (w : Item Op). Swaps O w.op p.op) (sym e.3) (g.swaps e.0 p (e.1, e.2, ap (λ (w : Item Op). place w.op) (sym e.3) ∙ q) (j, k.0, r) k.2);
        passes = g.passes;
        allowed = g.allowed;
      }

  op_from : (id : ℕ) (op : Op) (x : Tx Op) → BriefGoodOp O place (brief place c) id op (brief_tx place c.shared x) → GoodOp O place c id op x
  op_from id op x g =
      record {
        new = g.new;
        begins = g.begins;
        swaps = λ a p i j n. g.swaps (item a) p (in_own x.local a i.0 i.1) i.2 j.0 j.2
            (has_in p.id (missed place c.shared x.local) (has_missed place c.shared x.local b.sound.shared_ids p j.0
            ∙ from_parts place x.local p (j.1, to_any_at place (place p.op) (own_items x.local) (item a) (in_own x.local a i.0 i.1) (i.2 ∙ sym j.2), n)));
        passes = g.passes;
        allowed = g.allowed;
      }

  to : (t : Name) (P : Tx Op → Type 0) (Q : BriefTx Op → Type 0) → ((x : Tx Op) → P x → Q (brief_tx place c.shared x)) → OfOpen c t P → InBrief (brief place c) t Q
  to t P Q f g = (brief_tx place c.shared g.0, found t g.0 g.1, f g.0 g.2)

  from : (t : Name) (P : Tx Op → Type 0) (Q : BriefTx Op → Type 0) → ((x : Tx Op) → Q (brief_tx place c.shared x) → P x) → InBrief (brief place c) t Q → OfOpen c t P
  from t P Q f g = by (tx t c.opened) refl
    where
      by : (o : Option (Tx Op)) → tx t c.opened ≡ o → OfOpen c t P
      by None e = absurd (let z : None ≡ Some g.0 = sym (brief_of_is place c.shared t c.opened ∙ ap (to_brief place c.shared) e) ∙ g.1 in cc)
      by (Some x) e =
          let z : Some (brief_tx place c.shared x) ≡ Some g.0 = sym (found t x e) ∙ g.1 in
          let y : g.0 ≡ brief_tx place c.shared x = cc in
          (x, e, f x (subst Q y g.2))

  good_to : (r : RunRecord Op) → IsBoosted r → Good O place c r → BriefGood O place (brief place c) r
  good_to = by_record (λ r. Good O place c r → BriefGood O place (brief place c) r)
      (λ t p w g. (g.0, (λ y i. let m = from_map (brief_tx place c.shared) y c.opened i in λ e. g.1.0 m.0 m.1 (ap (λ (z : BriefTx Op). z.thread) (sym m.2) ∙ e))))
      (λ t id op g. to t (GoodOp O place c id op) (BriefGoodOp O place (brief place c) id op) (op_to id op) g)
      (λ t g. to t (λ x. IsWord x.body (calls O (own_items x.local))) (λ x. IsWord x.body (calls O x.own)) (λ x k. k) g)
      (λ t g. to t (λ x. Unit {0}) (λ x. Unit {0}) (λ x k. k) g)
      (λ t g. to t (λ x. Unit {0}) (λ x. Unit {0}) (λ x k. k) g)

  good_from : (r : RunRecord Op) → IsBoosted r → BriefGood O place (brief place c) r → Good O place c r
  good_from = by_record (λ r. BriefGood O place (brief place c) r → Good O place c r)
      (λ t p w g. (g.0, ((λ y i. g.1 (brief_tx place c.shared y) (in_map (brief_tx place c.shared) y c.opened i)), refl)))
      (λ t id op g. from t (GoodOp O place c id op) (BriefGoodOp O place (brief place c) id op) (op_from id op) g)
      (λ t g. from t (λ x. IsWord x.body (calls O (own_items x.local))) (λ x. IsWord x.body (calls O x.own)) (λ x k. k) g)
      (λ t g. from t (λ x. Unit {0}) (λ x. Unit {0}) (λ x k. k) g)
      (λ t g. from t (λ x. Unit {0}) (λ x. Unit {0}) (λ x k. k) g)

  -- What a transaction misses after an op record.
  op_missed : (t : Name) (id : ℕ) (op : Op) (x : Tx Op) (d : Config Op) (g : Grown place c t id op x d) (h : SharedEntry Op) → In h c.shared →
      is_missed place g.log h ≡ (has_id h.id (missed place c.shared x.local) && not (place h.op == place op))
  op_missed t id op x d g h i = same_bool (is_missed place g.log h) (has_id h.id (missed place c.shared x.local) && not (place h.op == place op)) to_old to_new
    where
      p : Item Op
      p = record { id = id; op = op }

      to_old : is_missed place g.log h ≡ true → (has_id h.id (missed place c.shared x.local) && not (place h.op == place op)) ≡ true
      to_old m =
          let k = parts place g.log h m in
          let away : place h.op ≢ place op = λ e. differ (stands_in g.log h.id) (g.full h (i, k.0, e)) k.2 in
          let q = from_any_at place (place h.op) (own_items g.log) k.1 in
          let here : any_at place (place h.op) (own_items x.local) ≡ true = elim (in_cases q.0 (own_items x.local) (p ∷ []) (subst (λ (w : List (Item Op)). In q.0 w) g.own q.1)) [
            | inl j ↦ to_any_at place (place h.op) (own_items x.local) q.0 j q.2
            | inr (inl j) ↦ absurd (away (sym q.2 ∙ ap (λ (w : Item Op). place w.op) j))
            | inr (inr j) ↦ absurd j
          ] in
          let out : stands_in x.local h.id ≡ false = not_there h.id x.local (λ e j n. differ (stands_in g.log h.id) (is_there h.id g.log e (g.kept e j) n) k.2) in
          and_true (has_id h.id (missed place c.shared x.local)) (not (place h.op == place op))
          (has_missed place c.shared x.local b.sound.shared_ids h i ∙ from_parts place x.local h (k.0, here, out)) (eqb_not (place h.op) (place op) away)

      to_new : (has_id h.id (missed place c.shared x.local) && not (place h.op == place op)) ≡ true → is_missed place g.log h ≡ true
      to_new m =
          let a = and_parts (has_id h.id (missed place c.shared x.local)) (not (place h.op == place op)) m in
          let k = parts place x.local h (sym (has_missed place c.shared x.local b.sound.shared_ids h i) ∙ a.0) in
          let away : place h.op ≢ place op = not_eqb (place h.op) (place op) a.1 in
          let q = from_any_at place (place h.op) (own_items x.local) k.1 in
          from_parts place g.log h (
            k.0,
            to_any_at place (place h.op) (own_items g.log) q.0 (subst (λ (w : List (Item Op)). In q.0 w) (sym g.own) (in_left q.0 (own_items x.local) (p ∷ []) q.1)) q.2,
            not_there h.id g.log (λ e j n. elim (g.added e j) [
              | inl l ↦ differ (stands_in x.local h.id) (is_there h.id x.local e l n) k.2
              | inr l ↦ away (l h i (sym n))
            ]),
          )

  op_step : (t : Name) (id : ℕ) (op : Op) (x : Tx Op) → tx t c.opened ≡ Some x → (d : Config Op) → Grown place c t id op x d → brief place d ≡ brief_then place (brief place c) (records.Op t id op)
  op_step t id op x lookup d g =
      ap (brief place) g.is
      ∙ ap (λ (w : List (BriefTx Op)). record { names = c.names; ids = id ∷ c.ids; opened = w; shared = c.shared ++ as_shared t false (record { id = id; op = op }) ∷ []; done = c.done })
      (briefs_on place t (λ l. g.log) c.shared (c.shared ++ as_shared t false (record { id = id; op = op }) ∷ []) (grown place c.shared id op) c.opened
      (λ w i n. here w (by_key (λ (z : Tx Op). z.name) c.opened b.sound.open_names x w (found_tx t c.opened x lookup).0 i ((found_tx t c.opened x lookup).1 ∙ sym n)))
      (λ w i n. same_brief place c.shared (c.shared ++ as_shared t false (record { id = id; op = op }) ∷ []) w (missed_wider place c.shared w.local t (record { id = id; op = op }))))
    where
      p : Item Op
      p = record { id = id; op = op }

      M : List ℕ
      M = shared_ids (filter (λ (h : SharedEntry Op). has_id h.id (missed place c.shared x.local) && not (place h.op == place op)) c.shared)

      here : (w : Tx Op) → x ≡ w → brief_tx place (c.shared ++ as_shared t false (record { id = id; op = op }) ∷ []) (relog (λ l. g.log) w) ≡ grown place c.shared id op (brief_tx place c.shared w)
      here w e = subst (λ (z : Tx Op). brief_tx place (c.shared ++ as_shared t false (record { id = id; op = op }) ∷ []) (relog (λ l. g.log) z) ≡ grown place c.shared id op (brief_tx place c.shared z)) e
          (ap (λ (m : List ℕ). record { name = x.name; thread = x.thread; body = x.body; own = own_items g.log; missed = m })
          (missed_wider place c.shared g.log t p
          ∙ ap (λ (w : List (SharedEntry Op)). shared_ids w) (filter_same (is_missed place g.log) (λ (h : SharedEntry Op). has_id h.id (missed place c.shared x.local) && not (place h.op == place op)) c.shared (op_missed t id op x d g)))
          ∙ ap (λ (m : List (Item Op)). record { name = x.name; thread = x.thread; body = x.body; own = m; missed = M }) g.own)

  -- What another transaction misses after a commit.
  commit_missed : (t : Name) (x : Tx Op) → In x c.opened → x.name ≡ t → (y : Tx Op) → In y c.opened → y.name ≢ t → (h : SharedEntry Op) → In h c.shared →
      is_missed place y.local (commit t h) ≡ (has_id h.id (missed place c.shared y.local) || ((h.owner =ⁿ t) && any_at place (place h.op) (own_items y.local)))
  commit_missed t x ix nx y iy ny h i =
      same_bool (is_missed place y.local (commit t h)) (has_id h.id (missed place c.shared y.local) || ((h.owner =ⁿ t) && any_at place (place h.op) (own_items y.local))) to_old to_new
    where
      L : List (LocalEntry Op)
      L = y.local

      any_there : any_at place (place (commit t h).op) (own_items y.local) ≡ any_at place (place h.op) (own_items y.local)
      any_there = ap (λ (w : Op). any_at place (place w) (own_items y.local)) (commit_rest t h).1

      inside : stands_in y.local (commit t h).id ≡ stands_in y.local h.id
      inside = ap (λ (w : ℕ). stands_in y.local w) (commit_rest t h).0

      to_old : is_missed place y.local (commit t h) ≡ true → (has_id h.id (missed place c.shared y.local) || ((h.owner =ⁿ t) && any_at place (place h.op) (own_items y.local))) ≡ true
      to_old m = let k = parts place y.local (commit t h) m in by h.committed refl k.0 (sym any_there ∙ k.1) (sym inside ∙ k.2)
        where
          by : (z : Bool) → h.committed ≡ z → (commit t h).committed ≡ true → any_at place (place h.op) (own_items y.local) ≡ true → stands_in y.local h.id ≡ false →
              (has_id h.id (missed place c.shared y.local) || ((h.owner =ⁿ t) && any_at place (place h.op) (own_items y.local))) ≡ true
          by true u v w o = or_left (has_id h.id (missed place c.shared y.local)) ((h.owner =ⁿ t) && any_at place (place h.op) (own_items y.local))
              (has_missed place c.shared y.local b.sound.shared_ids h i ∙ from_parts place y.local h (u, w, o))
          by false u v w o = or_right (has_id h.id (missed place c.shared y.local)) ((h.owner =ⁿ t) && any_at place (place h.op) (own_items y.local))
              (and_true (h.owner =ⁿ t) (any_at place (place h.op) (own_items y.local)) (elim (names_tell h.owner t) [
                | inl r ↦ r.0
                | inr r ↦ absurd (differ (commit t h).committed v (ap (λ (z : Bool). (cond z (as_committed h) h).committed) r.0 ∙ u))
              ]) w)

      to_new : (has_id h.id (missed place c.shared y.local) || ((h.owner =ⁿ t) && any_at place (place h.op) (own_items y.local))) ≡ true → is_missed place y.local (commit t h) ≡ true
      to_new m = elim (or_true (has_id h.id (missed place c.shared y.local)) ((h.owner =ⁿ t) && any_at place (place h.op) (own_items y.local)) m) [
        | inl a ↦
            let k = parts place y.local h (sym (has_missed place c.shared y.local b.sound.shared_ids h i) ∙ a) in
            from_parts place y.local (commit t h) (stays (h.owner =ⁿ t) k.0, any_there ∙ k.1, inside ∙ k.2)
        | inr a ↦
            let k = and_parts (h.owner =ⁿ t) (any_at place (place h.op) (own_items y.local)) a in
            from_parts place y.local (commit t h) (ap (λ (z : Bool). (cond z (as_committed h) h).committed) k.0, any_there ∙ k.1, inside ∙ not_there h.id y.local (other (names-true h.owner t k.0)))
      ]
        where
          stays : (z : Bool) → h.committed ≡ true → (cond z (as_committed h) h).committed ≡ true
          stays true u = refl
          stays false u = u

          other : h.owner ≡ t → (e : LocalEntry Op) → In e y.local → e.id ≡ h.id → ⊥
          other o e j n = elim (b.sound.marks y iy e j) [
            | inl k ↦
                let same = by_key (λ (w : SharedEntry Op). w.id) c.shared b.sound.shared_ids (as_shared y.name false (item e)) h (b.sound.pushed_stand y iy e j ((b.follows y iy).own_pushed e j k.0)) i n in
                ny (ap (λ (w : SharedEntry Op). w.owner) same ∙ o)
            | inr k ↦
                let same = by_key (λ (w : SharedEntry Op). w.id) c.shared b.sound.shared_ids (as_shared e.owner true (item e)) h ((b.follows y iy).pulled_stand e j k.0) i n in
                done_by_other O c b.sound x ix h i (ap (λ (w : SharedEntry Op). w.committed) (sym same)) (o ∙ sym nx)
          ]

  commit_step : (t : Name) (x : Tx Op) → tx t c.opened ≡ Some x → brief place (then c (Cmt t)) ≡ brief_then place (brief place c) (records.Commit t)
  commit_step t x lookup =
      ap (λ (w : Option (Tx Op)). brief place (commit_effect c t w)) lookup
      ∙ ap (λ (w : List (BriefTx Op)). record { names = c.names; ids = c.ids; opened = w; shared = commit_all t c.shared; done = c.done ++ record { name = t; entries = own_items x.local } ∷ [] })
      (briefs_without place t c.shared (commit_all t c.shared) (missing_more place c.shared t) c.opened (λ y i n.
      ap (λ (m : List ℕ). record { name = y.name; thread = y.thread; body = y.body; own = own_items y.local; missed = m }) (more y i n)))
      ∙ ap (λ (w : List (Item Op)). record { names = c.names; ids = c.ids; opened = map (missing_more place c.shared t) (without_brief t (map (brief_tx place c.shared) c.opened)); shared = commit_all t c.shared; done = c.done ++ record { name = t; entries = w } ∷ [] })
      (sym (ap own_list (found t x lookup)))
    where
      f : In x c.opened × (x.name ≡ t)
      f = found_tx t c.opened x lookup

      more : (y : Tx Op) → In y c.opened → y.name ≢ t →
          missed place (commit_all t c.shared) y.local ≡ shared_ids (filter (λ (h : SharedEntry Op). has_id h.id (missed place c.shared y.local) || ((h.owner =ⁿ t) && any_at place (place h.op) (own_items y.local))) c.shared)
      more y i n =
          ap (λ (w : List (SharedEntry Op)). shared_ids w) (filter_map (is_missed place y.local) (commit t) c.shared)
          ∙ map_map (λ (w : SharedEntry Op). w.id) (commit t) (filter (λ h. is_missed place y.local (commit t h)) c.shared)
          ∙ map_same (λ (w : SharedEntry Op). (commit t w).id) (λ (w : SharedEntry Op). w.id) (filter (λ h. is_missed place y.local (commit t h)) c.shared) (λ w j. (commit_rest t w).0)
          ∙ ap (λ (w : List (SharedEntry Op)). shared_ids w) (filter_same (λ (h : SharedEntry Op). is_missed place y.local (commit t h))
          (λ (h : SharedEntry Op). has_id h.id (missed place c.shared y.local) || ((h.owner =ⁿ t) && any_at place (place h.op) (own_items y.local))) c.shared (commit_missed t x f.0 f.1 y i n))

  -- The brief after the local log of t was taken back.
  taken_back : (t : Name) (x : Tx Op) → tx t c.opened ≡ Some x →
      after_from c (taken_out t x.local) ≡ record { names = c.names; ids = c.ids; opened = on_log t (λ l. []) c.opened; shared = without_owner t c.shared; done = c.done }
  taken_back t x e =
      let f = found_tx t c.opened x e in
      let k = all_since O place apart t c x.local [] c (as_boosted_but O place t c b, (x, e, refl))
      (record { is = ap (λ (w : List (Tx Op)). record c { opened = w }) (sym (on_log-same O c b.sound t x f.0 f.1)); others = refl }) in
      let d = after_from c (taken_out t x.local) in
      k.is ∙ ap (λ (w : List (SharedEntry Op)). record { names = c.names; ids = c.ids; opened = on_log t (λ l. []) c.opened; shared = w; done = c.done })
      (none_owned O place apart t c d (whole O place apart c b t x e).1 k)

  fewer : (t : Name) (x : Tx Op) → In x c.opened → x.name ≡ t → (y : Tx Op) → missed place (without_owner t c.shared) y.local ≡ missed place c.shared y.local
  fewer t x ix nx y = ap (λ (w : List (SharedEntry Op)). shared_ids w)
      (filter_within (is_missed place y.local) (λ (g : SharedEntry Op). not (g.owner =ⁿ t)) c.shared
      (λ g i m. names_not g.owner t (λ n. done_by_other O c b.sound x ix g i (parts place y.local g m).0 (n ∙ sym nx))))

  abort_step : (t : Name) (x : Tx Op) → tx t c.opened ≡ Some x → brief place (after_from c (taken_out t x.local ++ Quit t ∷ [])) ≡ brief_then place (brief place c) (records.Abort t)
  abort_step t x e =
      let f = found_tx t c.opened x e in
      ap (brief place) (after_append c (taken_out t x.local) (Quit t ∷ []))
      ∙ ap (λ (w : Config Op). brief place (then w (Quit t))) (taken_back t x e)
      ∙ ap (λ (w : List (Tx Op)). brief place (record { names = c.names; ids = c.ids; opened = w; shared = without_owner t c.shared; done = c.done })) (without_on t (λ l. []) c.opened)
      ∙ ap (λ (w : List (BriefTx Op)). record { names = c.names; ids = c.ids; opened = w; shared = without_owner t c.shared; done = c.done })
      (map_same (brief_tx place (without_owner t c.shared)) (brief_tx place c.shared) (without_tx t c.opened)
      (λ y i. same_brief place c.shared (without_owner t c.shared) y (fewer t x f.0 f.1 y))
      ∙ sym (filter_map (λ (y : BriefTx Op). not (y.name =ⁿ t)) (brief_tx place c.shared) c.opened))

  retry_step : (t : Name) (x : Tx Op) → tx t c.opened ≡ Some x → brief place (after_from c (taken_out t x.local)) ≡ brief_then place (brief place c) (records.Retry t)
  retry_step t x e =
      let f = found_tx t c.opened x e in
      ap (brief place) (taken_back t x e)
      ∙ ap (λ (w : List (BriefTx Op)). record { names = c.names; ids = c.ids; opened = w; shared = without_owner t c.shared; done = c.done })
      (briefs_on place t (λ l. []) c.shared (without_owner t c.shared) emptied c.opened
      (λ w i n. ap (λ (m : List ℕ). record { name = w.name; thread = w.thread; body = w.body; own = []; missed = m }) (missed_none place (without_owner t c.shared)))
      (λ w i n. same_brief place c.shared (without_owner t c.shared) w (fewer t x f.0 f.1 w)))

  step : (f : Front) (r : RunRecord Op) → IsBoosted r → Good O place c r → brief place (after_from c (expand place styles.Boosted f c r)) ≡ brief_then place (brief place c) r
  step f = by_record (λ r. Good O place c r → brief place (after_from c (expand place styles.Boosted f c r)) ≡ brief_then place (brief place c) r)
      (λ t p w g.
      ap (λ (z : List (BriefTx Op)). record { names = t ∷ c.names; ids = c.ids; opened = z; shared = c.shared; done = c.done })
      (map-append (brief_tx place c.shared) c.opened (record { name = t; thread = p; body = w; local = [] } ∷ [])
      ∙ ap (λ (m : List ℕ). map (brief_tx place c.shared) c.opened ++ record { name = t; thread = p; body = w; own = []; missed = m } ∷ []) (missed_none place c.shared)))
      (λ t id op g. ap (λ (w : Option (Tx Op)). brief place (after_from c (steps_of_open w (App t id op) (λ l. op_at_once place c.shared l t id op)))) g.1
      ∙ op_step t id op g.0 g.1 (after_from c (op_at_once place c.shared (g.0).local t id op)) (op_grown O place apart c b t id op g.0 g.1 (op_runs O place apart c b t id op g.0 g.1 g.2)))
      (λ t g. ap (λ (w : Option (Tx Op)). brief place (after_from c (steps_of_open w (Cmt t) (λ l. Cmt t ∷ [])))) g.1 ∙ commit_step t g.0 g.1)
      (λ t g. ap (λ (w : Option (Tx Op)). brief place (after_from c (steps_of_open w (Quit t) (λ l. taken_out t l ++ Quit t ∷ [])))) g.1 ∙ abort_step t g.0 g.1)
      (λ t g. ap (λ (w : Option (Tx Op)). brief place (after_from c (steps_of_open w (Note t) (λ l. Note t ∷ taken_out t l)))) g.1 ∙ retry_step t g.0 g.1)

-- The brief decides whether a record is good, and which brief a good record leads to.
pub briefed : {Op State : Type 0} (O : Object Op State) (place : Op → ℕ) → PlacesSwap O place → IsBriefed O place
briefed O place apart =
    record {
      good = λ c r s b. (good_to O place apart c b r s, good_from O place apart c b r s);
      step = λ f c r s b g. step O place apart c b f r s g;
    }
