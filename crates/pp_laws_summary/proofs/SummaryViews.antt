-- The facts in a summary about one transaction are those of its log.
use Rattle.std.specs.Prelude.{◌≡◌, ◌+◌, ℕ, zero, ◌==◌, Bool, true, false, not, cond, ◌&&◌, ◌||◌, List, [], ◌∷◌, ◌++◌, map, take, drop, length, Option, Some, None}
use Rattle.std.specs.List.{list_any}
use Rattle.std.proofs.Common.{refl, sym, ap, subst, ◌∙◌, arith, append_assoc, take-append-drop, length-append}
use Rattle.std.proofs.lemmas.List.Elements.{filter-append}
use Rattle.std.proofs.lemmas.Bool.{and_parts, eqb-true, eq-eqb}
use Rattle.std.proofs.lemmas.Bool.Decides.{eqb_tells}
use Rattle.std.proofs.Math.Seq.{take-append_seam, drop-append_seam}
use mathlib.Core.Logic.{inl, inr}
use Rattle.pp_core.specs.declared.call.Style.{Style}
use Rattle.pp_core.specs.declared.call.Style.TheVariants.{Rules, Boosted, Optimistic, Hardware, Dependent}
use Rattle.pp_model.specs.Lists.{In}
use Rattle.pp_model.specs.Names.{Name}
use Rattle.pp_model.specs.Object.{Object, Allowed, AllowedFrom, Item, TellsStates, ops, state}
use Rattle.pp_model.specs.Config.{Mark, Unpushed, Pushed, Pulled, is_own, is_mark, LocalEntry, SharedEntry, Tx, Config, item, own, own_items, local_ops, tx}
use Rattle.pp_model.specs.Serial.{has_id}
use Rattle.pp_model.proofs.Lists.{in_map, from_map}
use Rattle.pp_model.proofs.Logs.{found_tx}
use Rattle.pp_model.proofs.Serial.{allowed_back}
use Rattle.pp_records.specs.Expansions.{touches, stands_in}
use Rattle.pp_records.specs.Fronts.{Front, is_mem}
use Rattle.pp_laws_summary.specs.Places.{PlacesPart, ops_at}
use Rattle.pp_laws_summary.specs.Views.{missing_at, pulled_at, seen_at, log_at}
use Rattle.pp_laws_summary.specs.LocalLogs.{HasSummary, Summable, push_mode, pulled_before, serial_at, unpushed, pushed_ids}
use Rattle.pp_laws_summary.specs.Summary.{Held, OpenSummary, Summary, held_of, open_summary, summary_of, summary_mode, touched_since, summary_view, seen_ids, summary_missing, summary_pulled}
use Rattle.pp_laws_summary.proofs.Entries.{has_in, in_has}
use Rattle.pp_laws_summary.proofs.Relog.{filter_same, filter_within, same_bool}
use Rattle.pp_laws_summary.proofs.AtPlace.{is_pulled_at, to_done}
use Rattle.pp_laws_summary.proofs.Touching.{any_at, touches_is}
use Rattle.pp_laws_summary.proofs.Turning.{allowed_join}
use Rattle.pp_laws_summary.proofs.Snapshots.{seen_tells}

-- own entries
pub own_unpushed : {Op : Type 0} (l : List (LocalEntry Op)) → unpushed (own l) ≡ unpushed l
own_unpushed {Op} l = filter_within (λ (e : LocalEntry Op). is_mark e.mark Unpushed) (λ (e : LocalEntry Op). is_own e.mark) l (λ e i h. by e.mark h)
  where
    by : (m : Mark) → is_mark m Unpushed ≡ true → is_own m ≡ true
    by Unpushed h = refl
    by Pushed h = refl
    by Pulled h = absurd (cc)

-- The own entries have all pushed ids.
pub own_pushed_ids : {Op : Type 0} (l : List (LocalEntry Op)) → pushed_ids (own l) ≡ pushed_ids l
own_pushed_ids {Op} l = ap (λ (w : List (LocalEntry Op)). map (λ (e : LocalEntry Op). e.id) w)
    (filter_within (λ (e : LocalEntry Op). is_mark e.mark Pushed) (λ (e : LocalEntry Op). is_own e.mark) l (λ e i h. by e.mark h))
  where
    by : (m : Mark) → is_mark m Pushed ≡ true → is_own m ≡ true
    by Unpushed h = refl
    by Pushed h = refl
    by Pulled h = absurd (cc)

-- The own entries of two logs, one after another.
pub own-append : {Op : Type 0} (l k : List (LocalEntry Op)) → own (l ++ k) ≡ own l ++ own k
own-append {Op} l k = filter-append (λ (e : LocalEntry Op). is_own e.mark) l k

own_cut : {Op : Type 0} (m : ℕ) (l : List (LocalEntry Op)) → own l ≡ own (take m l) ++ own (drop m l)
own_cut {Op} m l = ap (λ (w : List (LocalEntry Op)). own w) (sym (take-append-drop m l)) ∙ own-append (take m l) (drop m l)

-- The own entries of the first part of a log are the first own ones.
pub own_take : {Op : Type 0} (m : ℕ) (l : List (LocalEntry Op)) → take (length (own (take m l))) (own l) ≡ own (take m l)
own_take {Op} m l = ap (λ (w : List (LocalEntry Op)). take (length (own (take m l))) w) (own_cut m l) ∙ take-append_seam (own (take m l)) (own (drop m l))

-- Those of the rest are the others.
pub own_drop : {Op : Type 0} (m : ℕ) (l : List (LocalEntry Op)) → drop (length (own (take m l))) (own l) ≡ own (drop m l)
own_drop {Op} m l = ap (λ (w : List (LocalEntry Op)). drop (length (own (take m l))) w) (own_cut m l) ∙ drop-append_seam (own (take m l)) (own (drop m l))

any_own : {Op : Type 0} (place : Op → ℕ) (o : ℕ) (l : List (LocalEntry Op)) → list_any (λ e. place e.op == o) l ≡ any_at place o (map item l)
any_own place o [] = refl
any_own {Op} place o (e ∷ l) = ap (λ (z : Bool). (place e.op == o) || z) (any_own place o l)

seen_cut : {Op : Type 0} (place : Op → ℕ) (o m : ℕ) (l : List (LocalEntry Op)) → seen_at place o l ≡ seen_at place o (take m l) + seen_at place o (drop m l)
seen_cut {Op} place o m l = ap (λ (w : List (LocalEntry Op)). seen_at place o w) (sym (take-append-drop m l))
    ∙ ap (λ (w : List (LocalEntry Op)). length w) (filter-append (is_pulled_at place o) (take m l) (drop m l))
    ∙ length-append (pulled_at place o (take m l)) (pulled_at place o (drop m l))

same_sum : (a d : ℕ) → ((a + d) == a) ≡ (d == zero)
same_sum a d = elim (eqb_tells (a + d) a) [
  | inl r ↦ let z : d ≡ zero = (let h : a + d ≡ a = r.1 in omega arith) in r.0 ∙ sym (eq-eqb d zero z)
  | inr r ↦ elim (eqb_tells d zero) [
    | inl q ↦ absurd (r.1 (let h : d ≡ zero = q.1 in omega arith))
    | inr q ↦ r.0 ∙ sym q.0
  ]
]

-- Whether an object is touched after a mark, by the snapshots and the own operations.
pub touched_is : {Op : Type 0} (place : Op → ℕ) (o m : ℕ) (l : List (LocalEntry Op)) →
    touches place o (drop m l) ≡ (not (seen_at place o l == seen_at place o (take m l)) || list_any (λ e. place e.op == o) (drop (length (own (take m l))) (own l)))
touched_is {Op} place o m l =
    sym (touches_is place o (drop m l))
    ∙ ap (λ (z : Bool). z || any_at place o (own_items (drop m l))) (ap not (sym (same_sum (seen_at place o (take m l)) (seen_at place o (drop m l))) ∙ ap (λ (n : ℕ). n == seen_at place o (take m l)) (sym (seen_cut place o m l))))
    ∙ ap (λ (z : Bool). not (seen_at place o l == seen_at place o (take m l)) || z) (sym (any_own place o (own (drop m l))) ∙ ap (λ (w : List (LocalEntry Op)). list_any (λ (e : LocalEntry Op). place e.op == o) w) (sym (own_drop m l)))

-- An object is touched exactly if its snapshot is not empty or an own operation is on it.
pub touched_all : {Op : Type 0} (place : Op → ℕ) (o : ℕ) (l : List (LocalEntry Op)) → touches place o l ≡ (not (seen_at place o l == zero) || list_any (λ e. place e.op == o) (own l))
touched_all {Op} place o l = sym (touches_is place o l) ∙ ap (λ (z : Bool). not (seen_at place o l == zero) || z) (sym (any_own place o (own l)))

-- a mode and that of the summary
abbrev pub Match : {Op : Type 0} → (Op → ℕ) → ℕ → List (LocalEntry Op) → OpenSummary Op → Option ℕ → Option Held → Type 0
Match place o l y None None = Unit {0}
Match place o l y None (Some h) = ⊥
Match place o l y (Some m) None = ⊥
Match place o l y (Some m) (Some h) = touches place o (drop m l) ≡ touched_since place o h y

module _ {Op State : Type 0} (O : Object Op State) (place : Op → ℕ) (part : PlacesPart O place) (tells : TellsStates O) (f : Front) (c : Config Op) (b : Summable O place f c)
    (t : Name) (x : Tx Op) (lookup : tx t c.opened ≡ Some x) where
  -- the summary of the transaction
  abbrev pub y : OpenSummary Op
  y = open_summary place f x

  -- the summary of the configuration
  abbrev pub B : Summary Op
  B = summary_of place (record { front = f; config = c })

  ix : In x c.opened
  ix = (found_tx t c.opened x lookup).0

  -- The name of the transaction is t.
  pub nx : x.name ≡ t
  nx = (found_tx t c.opened x lookup).1

  -- The entries that a transaction misses are those that the summary names.
  pub missing_is : (o : ℕ) → missing_at place o c.shared x.local ≡ summary_missing place o B y
  missing_is o = filter_same (λ (g : SharedEntry Op). (g.committed && (place g.op == o)) && not (stands_in x.local g.id)) (λ (g : SharedEntry Op). (g.committed && (place g.op == o)) && not (has_id g.id (seen_ids place o c.done y))) c.shared
      (λ g i. by g i (g.committed && (place g.op == o)) refl)
    where
      by : (g : SharedEntry Op) → In g c.shared → (z : Bool) → (g.committed && (place g.op == o)) ≡ z → ((g.committed && (place g.op == o)) && not (stands_in x.local g.id)) ≡ ((g.committed && (place g.op == o)) && not (has_id g.id (seen_ids place o c.done y)))
      by g i false e = ap (λ (z : Bool). z && not (stands_in x.local g.id)) e ∙ sym (ap (λ (z : Bool). z && not (has_id g.id (seen_ids place o c.done y))) e)
      by g i true e =
          let a = and_parts g.committed (place g.op == o) e in
          let k = seen_tells O place c b.sound x ix (b.pulls_committed x ix) o (b.snapshots x ix o) g (to_done place o c.shared g i a.0 (eqb-true (place g.op) o a.1)) in
          ap (λ (z : Bool). (g.committed && (place g.op == o)) && not z) (same_bool (stands_in x.local g.id) (has_id g.id (seen_ids place o c.done y))
          (λ h. let q = k.0 h in in_has g.id (seen_ids place o c.done y) (subst (λ (w : ℕ). In w (seen_ids place o c.done y)) q.2 (in_map (λ (p : Item Op). p.id) q.0 (take (seen_at place o x.local) (serial_at place o c.done)) q.1)))
          (λ h. let q = from_map (λ (p : Item Op). p.id) g.id (take (seen_at place o x.local) (serial_at place o c.done)) (has_in g.id (seen_ids place o c.done y) h) in k.1 (q.0, q.1, sym q.2)))

  -- the same is allowed after both views
  module _ (o : ℕ) where
    -- Operations that are allowed after the local log are allowed after the view of the summary.
    pub log_to : (k : List Op) → Allowed O (log_at place o x.local ++ k) → Allowed O (summary_view place o c.done y ++ k)
    log_to k a = subst (λ (w : List Op). Allowed O w) (sym (append_assoc (ops (take (seen_at place o x.local) (serial_at place o c.done))) (ops_at place o (local_ops (own x.local))) k)) ((b.snapshots x ix o).leads k a)

    log_allowed : Allowed O (log_at place o x.local)
    log_allowed = (part.parts (local_ops x.local)).0 (b.sound.local_allowed x ix) o

    -- The local log and the view have one state of the object.
    pub same_state : state O (log_at place o x.local) ≡ state O (summary_view place o c.done y)
    same_state = tells (log_at place o x.local) (summary_view place o c.done y) log_allowed log_to

    -- Operations that are allowed after the view of the summary are allowed after the local log.
    pub log_from : (k : List Op) → Allowed O (summary_view place o c.done y ++ k) → Allowed O (log_at place o x.local ++ k)
    log_from k a = allowed_join O O.start (log_at place o x.local) k log_allowed
        (subst (λ (z : State). AllowedFrom O z k) (sym same_state) (allowed_back O O.start (summary_view place o c.done y) k a))

  -- the modes
  pub match_of : (style : Style) → HasSummary style → (o : ℕ) → Match place o x.local y (push_mode style f t o) (summary_mode style f.kinds y o)
  match_of Rules h o = absurd h
  match_of Boosted h o = tt
  match_of Optimistic h o = touched_all place o x.local
  match_of Hardware h o = by (is_mem f o)
    where
      two : (n : Option ℕ) → Match place o x.local y n (held_of place n x.local)
      two None = tt
      two (Some m) = touched_is place o m x.local

      by : (z : Bool) → Match place o x.local y (cond z (f.section t) None) (cond z (held_of place (f.section x.name) x.local) None)
      by true = subst (λ (n : Option ℕ). Match place o x.local y (f.section t) (held_of place n x.local)) (ap f.section (sym nx)) (two (f.section t))
      by false = tt
  match_of Dependent h o = absurd h

  -- The entries that are pulled first are those that the summary names.
  pub first_is : (o : ℕ) (m : Option ℕ) (h : Option Held) → Match place o x.local y m h → pulled_before place m o c.shared x.local ≡ summary_pulled place h o B y
  first_is o None None e = missing_is o
  first_is o None (Some h) e = absurd e
  first_is o (Some m) None e = absurd e
  first_is o (Some m) (Some h) e = ap (λ (z : Bool). cond z [] (missing_at place o c.shared x.local)) e ∙ ap (λ (w : List (SharedEntry Op)). cond (touched_since place o h y) [] w) (missing_is o)
