-- The summary after a record, on the object, is the one after its restriction.
use Rattle.std.specs.Prelude.{◌≡◌, ◌≢◌, ◌==◌, Bool, true, false, cond, not, ◌&&◌, ℕ, List, [], ◌∷◌, ◌++◌, drop, filter, map, take, Option, None, Some}
use Rattle.std.proofs.Common.{refl, sym, ap, subst, ◌∙◌, take-append-drop}
use Rattle.std.proofs.lemmas.Bool.{eqb-true, eq-eqb}
use Rattle.std.proofs.lemmas.Bool.Decides.{eqb_tells}
use Rattle.std.proofs.lemmas.List.{append-nil, map-append}
use Rattle.std.proofs.lemmas.List.Elements.{filter-append}
use mathlib.Core.Logic.{inl, inr}
use Rattle.pp_core.specs.declared.call.Kind.{Kind}
use Rattle.pp_core.specs.declared.call.Style.{Style}
use Rattle.pp_model.specs.Body.{Tree}
use Rattle.pp_model.specs.Config.{App, Begin, Cmt, LocalEntry, Note, Pull, Push, Pushed, Quit, SharedEntry, Step, Unapp, Unpull, Unpush, as_shared, commit_all, is_mark, item, shared_ops}
use Rattle.pp_model.specs.Lists.{In}
use Rattle.pp_model.specs.Names.{Name, ◌=ⁿ◌}
use Rattle.pp_model.specs.Object.{Allowed, Item, Object}
use Rattle.pp_model.specs.Serial.{has_id}
use Rattle.pp_model.proofs.Lists.{from_filter, from_map, in_filter, in_map, in_right}
use Rattle.pp_model.proofs.Logs.{found, is_mark-true}
use Rattle.pp_records.specs.Records.{RunRecord}
use Rattle.pp_records.specs.Records as records
use Rattle.pp_laws_summary.specs.LocalLogs.{new_shared, posted, pushed_ids, unpushed, without_ids}
use Rattle.pp_laws_summary.specs.Summary.{Held, OpenSummary, Summary, after_op, begun_section, ended, new_open, next_summary, open_named, own_held, own_of, own_since, seen_all, shared_by, summary_mode, taken_back, taken_to_held, at_open, without_open}
use Rattle.pp_laws_summary.proofs.AtPlace.{filter_twice}
use Rattle.pp_laws_summary.proofs.Entries.{has_in, in_has}
use Rattle.pp_laws_summary.proofs.Parts.{not_eq}
use Rattle.pp_laws_summary.proofs.Relog.{filter_map, filter_same, same_bool}
use Rattle.pp_laws_locality.specs.Restricted.{restricted}
use Rattle.pp_laws_locality.proofs.Filtered.{drop_passed, filter_unseen, filters_turned}
use Rattle.pp_laws_locality.proofs.Parts.{HeldWithin, changed_at, committed_at, found_at, held_at, named_at, open_at, own_at, shared_at, summary_at, summary_same, unchanged_at}
use Rattle.pp_laws_locality.proofs.PartLogs.{from_own, mode_at, to_own, unpushed_at}
use Rattle.pp_laws_locality.proofs.PartTransactions.{after_at, after_off, all_at, all_off, back_at, ended_at, new_at, section_at}

-- The invariant of a summary.
pub record IsFit {Op State : Type 0} (O : Object Op State) (place : Op → ℕ) (B : Summary Op) : Type 0 where
  -- a section began within the own entries
  pub within : (x : OpenSummary Op) → In x B.opened → HeldWithin x
  -- a pushed entry is on the object of the entry of its id in the shared log
  pub placed : (x : OpenSummary Op) (e : LocalEntry Op) (g : SharedEntry Op) → In x B.opened → In e x.own → e.mark ≡ Pushed → In g B.shared → g.id ≡ e.id → place g.op ≡ place e.op
  pub allowed : Allowed O (shared_ops B.shared)

-- the summary after the restriction of a record
abbrev pub after_restricted : {Op : Type 0} → (Op → ℕ) → Style → Summary Op → Option (RunRecord Op) → Summary Op
after_restricted place style C None = C
after_restricted place style C (Some r) = next_summary place style C r

-- the ids on the object after a record
abbrev pub ids_after : {Op : Type 0} → (Op → ℕ) → ℕ → List ℕ → RunRecord Op → List ℕ
ids_after place o js (records.Plain step) = js
ids_after place o js (records.Op t id op) = cond (place op == o) (id ∷ js) js
ids_after place o js (records.Commit t) = js
ids_after place o js (records.Abort t) = js
ids_after place o js (records.Retry t) = js
ids_after place o js (records.Refresh t p) = js
ids_after place o js (records.XBegin t) = js
ids_after place o js (records.XEnd t) = js
ids_after place o js (records.XAbort t) = js
ids_after place o js (records.Depend t source) = js
ids_after place o js (records.Publish t) = js
ids_after place o js (records.DropSource t source) = js

module _ {Op : Type 0} (place : Op → ℕ) (o : ℕ) where
  shared-append : (G H : List (SharedEntry Op)) → shared_at place o (G ++ H) ≡ shared_at place o G ++ shared_at place o H
  shared-append G H = filter-append (λ (g : SharedEntry Op). place g.op == o) G H

  -- the own entries of the transaction, and those of its section
  own_found : (w : Option (OpenSummary Op)) → own_of (found_at place o w) ≡ own_at place o (own_of w)
  own_found None = refl
  own_found (Some x) = refl

  since_found : (w : Option (OpenSummary Op)) → own_since (found_at place o w) ≡ own_at place o (own_since w)
  since_found None = refl
  since_found (Some x) = by x.held
    where
      by : (h : Option Held) → drop (own_held (held_at place o x.own h)) (own_at place o x.own) ≡ own_at place o (drop (own_held h) x.own)
      by None = refl
      by (Some h) = drop_passed (λ (e : LocalEntry Op). place e.op == o) h.own x.own

  -- The posted entries of the part are the part of the posted entries.
  posted_at : (t : Name) (l : List (LocalEntry Op)) → posted t (unpushed (own_at place o l)) ≡ shared_at place o (posted t (unpushed l))
  posted_at t l = ap (λ (w : List (LocalEntry Op)). posted t w) (unpushed_at place o l)
      ∙ sym (filter_map (λ (g : SharedEntry Op). place g.op == o) (λ (e : LocalEntry Op). as_shared t false (item e)) (unpushed l))

  -- the shared log after all is posted
  posts_at : (t : Name) (xs : List (OpenSummary Op)) (G : List (SharedEntry Op)) →
      shared_at place o G ++ posted t (unpushed (own_of (open_named t (map (open_at place o) xs)))) ≡ shared_at place o (G ++ posted t (unpushed (own_of (open_named t xs))))
  posts_at t xs G =
      ap (λ (w : Option (OpenSummary Op)). shared_at place o G ++ posted t (unpushed (own_of w))) (named_at place o t xs)
      ∙ ap (λ (w : List (LocalEntry Op)). shared_at place o G ++ posted t (unpushed w)) (own_found (open_named t xs))
      ∙ ap (λ (w : List (SharedEntry Op)). shared_at place o G ++ w) (posted_at t (own_of (open_named t xs)))
      ∙ sym (shared-append G (posted t (unpushed (own_of (open_named t xs)))))

  -- the shared log after a commit
  commit_at : (t : Name) (G : List (SharedEntry Op)) → commit_all t (shared_at place o G) ≡ shared_at place o (commit_all t G)
  commit_at t G = sym (filter_unseen (λ (g : SharedEntry Op). place g.op == o) (λ (g : SharedEntry Op). cond (g.owner =ⁿ t) (record g { committed = true }) g) G (λ g. by g (g.owner =ⁿ t)))
    where
      by : (g : SharedEntry Op) (b : Bool) → (place (cond b (record g { committed = true }) g).op == o) ≡ (place g.op == o)
      by g true = refl
      by g false = refl

  -- the shared log without the pushed entries of l
  module _ (l : List (LocalEntry Op)) (G : List (SharedEntry Op)) (at : (e : LocalEntry Op) (g : SharedEntry Op) → In e l → e.mark ≡ Pushed → In g G → g.id ≡ e.id → place g.op ≡ place e.op) where
    is_pushed : LocalEntry Op → Bool
    is_pushed e = is_mark e.mark Pushed

    fewer : (i : ℕ) → has_id i (pushed_ids (own_at place o l)) ≡ true → has_id i (pushed_ids l) ≡ true
    fewer i h =
        let m = from_map (λ (e : LocalEntry Op). e.id) i (filter (λ (e : LocalEntry Op). is_mark e.mark Pushed) (own_at place o l)) (has_in i (pushed_ids (own_at place o l)) h) in
        let f = from_filter (λ (e : LocalEntry Op). is_mark e.mark Pushed) m.0 (own_at place o l) m.1 in
        let k : In m.0.id (pushed_ids l) = in_map (λ (e : LocalEntry Op). e.id) m.0 (filter (λ (e : LocalEntry Op). is_mark e.mark Pushed) l) (in_filter (λ (e : LocalEntry Op). is_mark e.mark Pushed) m.0 l (from_own place o m.0 l f.0) f.1) in
        in_has i (pushed_ids l) (subst (λ (j : ℕ). In j (pushed_ids l)) (sym m.2) k)

    all_there : (g : SharedEntry Op) → In g G → place g.op ≡ o → has_id g.id (pushed_ids l) ≡ true → has_id g.id (pushed_ids (own_at place o l)) ≡ true
    all_there g i n h =
        let m = from_map (λ (e : LocalEntry Op). e.id) g.id (filter (λ (e : LocalEntry Op). is_mark e.mark Pushed) l) (has_in g.id (pushed_ids l) h) in
        let f = from_filter (λ (e : LocalEntry Op). is_mark e.mark Pushed) m.0 l m.1 in
        let p : place m.0.op ≡ o = sym (at m.0 g f.0 (is_mark-true m.0.mark Pushed f.1) i m.2) ∙ n in
        let k : In m.0.id (pushed_ids (own_at place o l)) = in_map (λ (e : LocalEntry Op). e.id) m.0 (filter (λ (e : LocalEntry Op). is_mark e.mark Pushed) (own_at place o l)) (in_filter (λ (e : LocalEntry Op). is_mark e.mark Pushed) m.0 (own_at place o l) (to_own place o m.0 l f.0 p) f.1) in
        in_has g.id (pushed_ids (own_at place o l)) (subst (λ (j : ℕ). In j (pushed_ids (own_at place o l))) (sym m.2) k)

    without_at : without_ids (pushed_ids (own_at place o l)) (shared_at place o G) ≡ shared_at place o (without_ids (pushed_ids l) G)
    without_at =
        filter_twice (λ (g : SharedEntry Op). not (has_id g.id (pushed_ids (own_at place o l)))) (λ (g : SharedEntry Op). place g.op == o) G
        ∙ filter_same (λ (g : SharedEntry Op). (place g.op == o) && not (has_id g.id (pushed_ids (own_at place o l)))) (λ (g : SharedEntry Op). (place g.op == o) && not (has_id g.id (pushed_ids l))) G
        (λ g i. by g i (place g.op == o) refl)
        ∙ sym (filter_twice (λ (g : SharedEntry Op). not (has_id g.id (pushed_ids l))) (λ (g : SharedEntry Op). place g.op == o) G)
        ∙ filters_turned (λ (g : SharedEntry Op). not (has_id g.id (pushed_ids l))) (λ (g : SharedEntry Op). place g.op == o) G
      where
        by : (g : SharedEntry Op) → In g G → (b : Bool) → (place g.op == o) ≡ b → (b && not (has_id g.id (pushed_ids (own_at place o l)))) ≡ (b && not (has_id g.id (pushed_ids l)))
        by g i true e = ap not (same_bool (has_id g.id (pushed_ids (own_at place o l))) (has_id g.id (pushed_ids l)) (fewer g.id) (all_there g i (eqb-true (place g.op) o e)))
        by g i false e = refl

-- The entries that an operation adds on its object are the same in the part.
adds_at : {Op : Type 0} (place : Op → ℕ) (style : Style) (ks : List Kind) (t : Name) (id : ℕ) (op : Op) (w : Option (OpenSummary Op)) →
    shared_by place style ks t id op (found_at place (place op) w) ≡ shared_at place (place op) (shared_by place style ks t id op w)
adds_at place style ks t id op None = refl
adds_at {Op} place style ks t id op (Some x) =
    ap (λ (z : Option Held). new_shared z t id op) (mode_at place (place op) style ks x (place op)) ∙ by (summary_mode style ks x (place op))
  where
    by : (m : Option Held) → new_shared (held_at place (place op) x.own m) t id op ≡ shared_at place (place op) (new_shared m t id op)
    by None = sym (ap (λ (b : Bool). cond b (new_shared {A = Held} None t id op) []) (eq-eqb (place op) (place op) refl))
    by (Some h) = refl

adds_off : {Op : Type 0} (place : Op → ℕ) (o : ℕ) (style : Style) (ks : List Kind) (t : Name) (id : ℕ) (op : Op) → place op ≢ o → (w : Option (OpenSummary Op)) → shared_at place o (shared_by place style ks t id op w) ≡ []
adds_off place o style ks t id op n None = refl
adds_off {Op} place o style ks t id op n (Some x) = by (summary_mode style ks x (place op))
  where
    by : (m : Option Held) → shared_at place o (new_shared m t id op) ≡ []
    by None = ap (λ (b : Bool). cond b (new_shared {A = Held} None t id op) []) (not_eq (place op) o n)
    by (Some h) = refl

-- an own entry of the transaction is one of an open transaction
own_from : {Op : Type 0} (t : Name) (xs : List (OpenSummary Op)) (e : LocalEntry Op) (w : Option (OpenSummary Op)) → open_named t xs ≡ w → In e (own_of w) → (x : OpenSummary Op) × In x xs × In e x.own
own_from t xs e None h i = absurd i
own_from {Op} t xs e (Some x) h i = (x, (found (λ (y : OpenSummary Op). y.name =ⁿ t) xs x h).0, i)

since_from : {Op : Type 0} (e : LocalEntry Op) (w : Option (OpenSummary Op)) → In e (own_since w) → In e (own_of w)
since_from e None i = absurd i
since_from {Op} e (Some x) i = subst (λ (l : List (LocalEntry Op)). In e l) (take-append-drop (own_held x.held) x.own) (in_right e (take (own_held x.held) x.own) (drop (own_held x.held) x.own) i)

module _ {Op State : Type 0} (O : Object Op State) (place : Op → ℕ) (style : Style) (B : Summary Op) (fit : IsFit O place B) where
  module _ (o : ℕ) (js : List ℕ) where
    abbrev C : Summary Op
    C = summary_at place o js B

    abbrev ends : RunRecord Op → Type 0
    ends r = after_restricted place style C (restricted place o r) ≡ summary_at place o (ids_after place o js r) (next_summary place style B r)

    own_placed : (t : Name) (e : LocalEntry Op) (g : SharedEntry Op) → In e (own_of (open_named t B.opened)) → e.mark ≡ Pushed → In g B.shared → g.id ≡ e.id → place g.op ≡ place e.op
    own_placed t e g i m j n = let x = own_from t B.opened e (open_named t B.opened) refl i in fit.placed x.0 e g x.1 x.2 m j n

    -- the shared log after all is taken back, and after a section is
    taken_at : (t : Name) → without_ids (pushed_ids (own_of (open_named t C.opened))) C.shared ≡ shared_at place o (without_ids (pushed_ids (own_of (open_named t B.opened))) B.shared)
    taken_at t =
        ap (λ (w : Option (OpenSummary Op)). without_ids (pushed_ids (own_of w)) C.shared) (named_at place o t B.opened)
        ∙ ap (λ (w : List (LocalEntry Op)). without_ids (pushed_ids w) C.shared) (own_found place o (open_named t B.opened))
        ∙ without_at place o (own_of (open_named t B.opened)) B.shared (own_placed t)

    since_at : (t : Name) → without_ids (pushed_ids (own_since (open_named t C.opened))) C.shared ≡ shared_at place o (without_ids (pushed_ids (own_since (open_named t B.opened))) B.shared)
    since_at t =
        ap (λ (w : Option (OpenSummary Op)). without_ids (pushed_ids (own_since w)) C.shared) (named_at place o t B.opened)
        ∙ ap (λ (w : List (LocalEntry Op)). without_ids (pushed_ids w) C.shared) (since_found place o (open_named t B.opened))
        ∙ without_at place o (own_since (open_named t B.opened)) B.shared (λ e g i. own_placed t e g (since_from e (open_named t B.opened) i))

    closed_at : (t : Name) → without_open t C.opened ≡ map (open_at place o) (without_open t B.opened)
    closed_at t = filter_map (λ (x : OpenSummary Op). not (x.name =ⁿ t)) (open_at place o) B.opened

    begin_ends : (t p : Name) (b : Option Tree) → ends (records.Plain (Begin t p b))
    begin_ends t p b = summary_same (t ∷ B.names) js (C.opened ++ new_open t p None ∷ []) (map (open_at place o) (B.opened ++ new_open t p b ∷ [])) C.shared C.shared C.done C.done B.kinds
        (ap (λ (x : OpenSummary Op). C.opened ++ x ∷ []) (sym (new_at place o t p b)) ∙ sym (map-append (open_at place o) B.opened (new_open t p b ∷ []))) refl refl

    plain_ends : (step : Step Op) → ends (records.Plain step)
    plain_ends (Begin t p b) = begin_ends t p b
    plain_ends (App t id op) = refl
    plain_ends (Unapp t id) = refl
    plain_ends (Push t id) = refl
    plain_ends (Unpush t id) = refl
    plain_ends (Pull t id) = refl
    plain_ends (Unpull t id) = refl
    plain_ends (Cmt t) = refl
    plain_ends (Quit t) = refl
    plain_ends (Note t) = refl

    op_off : (t : Name) (id : ℕ) (op : Op) → place op ≢ o → C ≡ summary_at place o js (next_summary place style B (records.Op t id op))
    op_off t id op n =
        let more = shared_by place style B.kinds t id op (open_named t B.opened) in
        summary_same B.names js C.opened (map (open_at place o) (at_open t (after_op place style B t id op) B.opened)) C.shared (shared_at place o (B.shared ++ more)) C.done C.done B.kinds
        (sym (unchanged_at place o t (after_op place style B t id op) B.opened (λ x i. after_off place style B t id op x o n (fit.within x i))))
        (sym (shared-append place o B.shared more ∙ ap (λ (w : List (SharedEntry Op)). C.shared ++ w) (adds_off place o style B.kinds t id op n (open_named t B.opened)) ∙ append-nil C.shared)) refl

    commit_ends : (t : Name) → ends (records.Commit t)
    commit_ends t =
        let mine = own_of (open_named t B.opened) in
        summary_same B.names js (without_open t C.opened) (map (open_at place o) (without_open t B.opened))
        (commit_all t (C.shared ++ posted t (unpushed (own_of (open_named t C.opened))))) (shared_at place o (commit_all t (B.shared ++ posted t (unpushed mine))))
        (C.done ++ record { name = t; entries = map item (own_of (open_named t C.opened)) } ∷ []) (map (committed_at place o) (B.done ++ record { name = t; entries = map item mine } ∷ [])) B.kinds
        (closed_at t)
        (ap (λ (w : List (SharedEntry Op)). commit_all t w) (posts_at place o t B.opened B.shared) ∙ commit_at place o t (B.shared ++ posted t (unpushed mine)))
        (ap (λ (w : List (Item Op)). C.done ++ record { name = t; entries = w } ∷ [])
        (ap (λ (w : Option (OpenSummary Op)). map item (own_of w)) (named_at place o t B.opened) ∙ ap (λ (w : List (LocalEntry Op)). map item w) (own_found place o (open_named t B.opened))
        ∙ sym (filter_map (λ (p : Item Op). place p.op == o) item mine))
        ∙ sym (map-append (committed_at place o) B.done (record { name = t; entries = map item mine } ∷ [])))

    abort_ends : (t : Name) → ends (records.Abort t)
    abort_ends t = summary_same B.names js (without_open t C.opened) (map (open_at place o) (without_open t B.opened))
        (without_ids (pushed_ids (own_of (open_named t C.opened))) C.shared) (shared_at place o (without_ids (pushed_ids (own_of (open_named t B.opened))) B.shared)) C.done C.done B.kinds
        (closed_at t) (taken_at t) refl

    retry_ends : (t : Name) → ends (records.Retry t)
    retry_ends t = summary_same B.names js (at_open t (taken_back None) C.opened) (map (open_at place o) (at_open t (taken_back None) B.opened))
        (without_ids (pushed_ids (own_of (open_named t C.opened))) C.shared) (shared_at place o (without_ids (pushed_ids (own_of (open_named t B.opened))) B.shared)) C.done C.done B.kinds
        (changed_at place o t (taken_back None) (taken_back None) B.opened (λ x i. back_at place o x None)) (taken_at t) refl

    refresh_at : (t : Name) → next_summary place style C (records.Refresh t o) ≡ summary_at place o js (next_summary place style B (records.Refresh t o))
    refresh_at t = summary_same B.names js (at_open t (seen_all place o C.done) C.opened) (map (open_at place o) (at_open t (seen_all place o B.done) B.opened)) C.shared C.shared C.done C.done B.kinds
        (changed_at place o t (seen_all place o B.done) (seen_all place o C.done) B.opened (λ x i. all_at place o x B.done)) refl refl

    refresh_off : (t : Name) (p : ℕ) → p ≢ o → C ≡ summary_at place o js (next_summary place style B (records.Refresh t p))
    refresh_off t p n = summary_same B.names js C.opened (map (open_at place o) (at_open t (seen_all place p B.done) B.opened)) C.shared C.shared C.done C.done B.kinds
        (sym (unchanged_at place o t (seen_all place p B.done) B.opened (λ x i. all_off place o x p n B.done))) refl refl

    refresh_ends : (t : Name) (p : ℕ) → ends (records.Refresh t p)
    refresh_ends t p = elim (eqb_tells p o) [
      | inl r ↦ ap (λ (b : Bool). after_restricted place style C (cond b (Some (records.Refresh t p)) None)) r.0
          ∙ subst (λ (q : ℕ). next_summary place style C (records.Refresh t q) ≡ summary_at place o js (next_summary place style B (records.Refresh t q))) (sym r.1) (refresh_at t)
      | inr r ↦ ap (λ (b : Bool). after_restricted place style C (cond b (Some (records.Refresh t p)) None)) r.0 ∙ refresh_off t p r.1
    ]

    begun_ends : (t : Name) → ends (records.XBegin t)
    begun_ends t = summary_same B.names js (at_open t begun_section C.opened) (map (open_at place o) (at_open t begun_section B.opened)) C.shared C.shared C.done C.done B.kinds
        (changed_at place o t begun_section begun_section B.opened (λ x i. section_at place o x)) refl refl

    ended_ends : (t : Name) → ends (records.XEnd t)
    ended_ends t = summary_same B.names js (at_open t ended C.opened) (map (open_at place o) (at_open t ended B.opened))
        (C.shared ++ posted t (unpushed (own_of (open_named t C.opened)))) (shared_at place o (B.shared ++ posted t (unpushed (own_of (open_named t B.opened))))) C.done C.done B.kinds
        (changed_at place o t ended ended B.opened (λ x i. ended_at place o x)) (posts_at place o t B.opened B.shared) refl

    aborted_ends : (t : Name) → ends (records.XAbort t)
    aborted_ends t = summary_same B.names js (at_open t taken_to_held C.opened) (map (open_at place o) (at_open t taken_to_held B.opened))
        (without_ids (pushed_ids (own_since (open_named t C.opened))) C.shared) (shared_at place o (without_ids (pushed_ids (own_since (open_named t B.opened))) B.shared)) C.done C.done B.kinds
        (changed_at place o t taken_to_held taken_to_held B.opened (λ x i. back_at place o x x.held)) (since_at t) refl

  op_at : (js : List ℕ) (t : Name) (id : ℕ) (op : Op) →
      next_summary place style (summary_at place (place op) js B) (records.Op t id op) ≡ summary_at place (place op) (id ∷ js) (next_summary place style B (records.Op t id op))
  op_at js t id op =
      let o = place op in
      let D = summary_at place o js B in
      let more = shared_by place style B.kinds t id op (open_named t B.opened) in
      summary_same B.names (id ∷ js) (at_open t (after_op place style D t id op) D.opened) (map (open_at place o) (at_open t (after_op place style B t id op) B.opened))
      (D.shared ++ shared_by place style B.kinds t id op (open_named t D.opened)) (shared_at place o (B.shared ++ more)) D.done D.done B.kinds
      (changed_at place o t (after_op place style B t id op) (after_op place style D t id op) B.opened (λ x i. after_at place style B t id op x js (fit.within x i)))
      (ap (λ (w : Option (OpenSummary Op)). D.shared ++ shared_by place style B.kinds t id op w) (named_at place o t B.opened)
      ∙ ap (λ (w : List (SharedEntry Op)). D.shared ++ w) (adds_at place style B.kinds t id op (open_named t B.opened))
      ∙ sym (shared-append place o B.shared more)) refl

  op_ends : (o : ℕ) (js : List ℕ) (t : Name) (id : ℕ) (op : Op) → ends o js (records.Op t id op)
  op_ends o js t id op =
      let N = next_summary place style B (records.Op t id op) in
      let C = summary_at place o js B in
      elim (eqb_tells (place op) o) [
        | inl r ↦ subst (λ (b : Bool). after_restricted place style C (cond b (Some (records.Op t id op)) None) ≡ summary_at place o (cond b (id ∷ js) js) N) (sym r.0)
            (subst (λ (q : ℕ). next_summary place style (summary_at place q js B) (records.Op t id op) ≡ summary_at place q (id ∷ js) N) r.1 (op_at js t id op))
        | inr r ↦ subst (λ (b : Bool). after_restricted place style C (cond b (Some (records.Op t id op)) None) ≡ summary_at place o (cond b (id ∷ js) js) N) (sym r.0) (op_off o js t id op r.1)
      ]

  -- The summary after a record, on the object, is the one after its restriction.
  pub restricted_ends : (o : ℕ) (js : List ℕ) (r : RunRecord Op) →
      after_restricted place style (summary_at place o js B) (restricted place o r) ≡ summary_at place o (ids_after place o js r) (next_summary place style B r)
  restricted_ends o js (records.Plain step) = plain_ends o js step
  restricted_ends o js (records.Op t id op) = op_ends o js t id op
  restricted_ends o js (records.Commit t) = commit_ends o js t
  restricted_ends o js (records.Abort t) = abort_ends o js t
  restricted_ends o js (records.Retry t) = retry_ends o js t
  restricted_ends o js (records.Refresh t p) = refresh_ends o js t p
  restricted_ends o js (records.XBegin t) = begun_ends o js t
  restricted_ends o js (records.XEnd t) = ended_ends o js t
  restricted_ends o js (records.XAbort t) = aborted_ends o js t
  restricted_ends o js (records.Depend t source) = refl
  restricted_ends o js (records.Publish t) = refl
  restricted_ends o js (records.DropSource t source) = refl
