-- The summary decides whether a record is good, and which summary a good one leads to.
use Rattle.std.specs.Prelude.{◌≡◌, ℕ, zero, ◌==◌, Bool, true, false, not, cond, ◌&&◌, if◌then◌else◌, List, [], ◌∷◌, ◌++◌, map, take, drop, length, Option, Some, None}
use Rattle.std.proofs.Common.{refl, sym, ap, subst, ◌∙◌, append_assoc}
use Rattle.std.proofs.lemmas.List.{append-nil, map-append, take-append-le}
use Rattle.std.proofs.lemmas.List.Elements.{filter-append}
use Rattle.std.proofs.lemmas.Bool.{eq-eqb}
use Rattle.std.proofs.Math.Seq.{take-length}
use mathlib.Core.Logic.{inl, inr}
use mathlib.Core.Path.{fun_ext}
use Rattle.pp_core.specs.declared.call.Style.{Style}
use Rattle.pp_core.specs.declared.call.Style.TheVariants.{Rules, Boosted, Optimistic, Hardware, Dependent}
use Rattle.pp_model.specs.Lists.{In}
use Rattle.pp_model.specs.Names.{Name, ◌=ⁿ◌}
use Rattle.pp_model.specs.Object.{Object, Allowed, TellsStates}
use Rattle.pp_model.specs.Config.{Mark, Unpushed, Pushed, Pulled, is_own, is_mark, LocalEntry, SharedEntry, Tx, Config, Step, App, Cmt, Quit, Note, item, as_pulled, own, own_items, local_ops, shared_ops, commit_all, tx, on_log, relog, without_tx, after_from}
use Rattle.pp_model.proofs.Lists.{in_map, from_map, in_filter, from_filter, by_key}
use Rattle.pp_model.proofs.Logs.{found_tx}
use Rattle.pp_model.proofs.Names.{eq-names, names_tell}
use Rattle.pp_model.proofs.Trace.{map_same}
use Rattle.pp_model.proofs.Push.{remark}
use Rattle.pp_records.specs.Expansions.{IsOfStyle, expand, front_after, steps_of_open, front_of_open, op_steps, commit_steps, refresh, pushall, back, touches}
use Rattle.pp_records.specs.Fronts.{Front, with_section, with_sources, opened_at, mark_of}
use Rattle.pp_records.specs.Records.{RunRecord}
use Rattle.pp_records.specs.Records as records
use Rattle.pp_laws_summary.specs.Places.{PlacesPart}
use Rattle.pp_laws_summary.specs.Views.{missing_at, pulled_at, seen_at}
use Rattle.pp_laws_summary.specs.LocalLogs.{OfOpen, HasSummary, Summable, AtOnce, as_pushed, posted, pushed_ids, without_ids, new_entry, new_shared, push_mode, pulled_before, serial_at, unpushed, LocalGood, LocalPush, LocalOp, LocalRefresh, LocalPushes, LocalCommit}
use Rattle.pp_laws_summary.specs.Summary.{at_number, Held, OpenSummary, Summary, held_of, open_summary, summary_of, open_named, summary_mode, summary_view, SummaryPush, SummaryOp, SummaryRefresh, SummaryPushes, SummaryCommit, OfOpenSummary, SummaryGood, at_open, without_open, seen_all, seen_first, with_entry, after_op, shared_by, own_held, seen_held, taken_back, ended, held_from, begun_section, own_of, own_since, taken_to_held, next_summary}
use Rattle.pp_laws_summary.proofs.Entries.{same_or_not}
use Rattle.pp_laws_summary.proofs.Parts.{not_eq}
use Rattle.pp_laws_summary.proofs.Relog.{map_map, filter_map, on_log-same}
use Rattle.pp_laws_summary.proofs.AtPlace.{is_pulled_at}
use Rattle.pp_laws_summary.proofs.Pushed.{as_pushed_at}
use Rattle.pp_laws_summary.proofs.Steps as steps
use Rattle.pp_laws_summary.proofs.Keeps.{SameElsewhere, closed, closed_here, opened, pushed_pulled, back_leads, abort_leads}
use Rattle.pp_laws_summary.proofs.Commit.{commit_leads, commit_runs}
use Rattle.pp_laws_summary.proofs.SummaryViews.{own-append, own_unpushed, own_pushed_ids, own_take, own_drop, Match, missing_is, log_to, log_from, match_of, first_is}
use Rattle.pp_laws_summary.proofs.LocalRecords.{by_record}
use Rattle.pp_laws_summary.proofs.Snapshots as snaps

-- lookups
abbrev pub to_open : {Op : Type 0} → (Op → ℕ) → Front → Option (Tx Op) → Option (OpenSummary Op)
to_open place f None = None
to_open place f (Some x) = Some (open_summary place f x)

-- A transaction is open in the summary if it is open in the configuration.
pub open_named_is : {Op : Type 0} (place : Op → ℕ) (f : Front) (t : Name) (xs : List (Tx Op)) → open_named t (map (open_summary place f) xs) ≡ to_open place f (tx t xs)
open_named_is place f t [] = refl
open_named_is {Op} place f t (x ∷ xs) = ap (λ (w : Option (OpenSummary Op)). cond (x.name =ⁿ t) (Some (open_summary place f x)) w) (open_named_is place f t xs) ∙ into (x.name =ⁿ t)
  where
    into : (b : Bool) → cond b (Some (open_summary place f x)) (to_open place f (tx t xs)) ≡ to_open place f (cond b (Some x) (tx t xs))
    into true = refl
    into false = refl

without_open_is : {Op : Type 0} (place : Op → ℕ) (f : Front) (t : Name) (xs : List (Tx Op)) → map (open_summary place f) (without_tx t xs) ≡ without_open t (map (open_summary place f) xs)
without_open_is {Op} place f t xs = sym (filter_map (λ (y : OpenSummary Op). not (y.name =ⁿ t)) (open_summary place f) xs)

own_pulled_none : {Op : Type 0} (M : List (SharedEntry Op)) → own (map as_pulled M) ≡ []
own_pulled_none [] = refl
own_pulled_none (g ∷ M) = own_pulled_none M

own_new : {A Op : Type 0} (mode : Option A) (t : Name) (id : ℕ) (op : Op) → own (new_entry mode t id op ∷ []) ≡ new_entry mode t id op ∷ []
own_new None t id op = refl
own_new (Some m) t id op = refl

own_all_pushed : {Op : Type 0} (l : List (LocalEntry Op)) → own (map as_pushed l) ≡ map as_pushed (own l)
own_all_pushed [] = refl
own_all_pushed {Op} (e ∷ l) = by e.mark refl (own_all_pushed l)
  where
    by : (m : Mark) → e.mark ≡ m → own (map as_pushed l) ≡ map as_pushed (own l) → own (as_pushed e ∷ map as_pushed l) ≡ map as_pushed (own (e ∷ l))
    by Unpushed h k = ap (λ (w : LocalEntry Op). own (w ∷ map as_pushed l)) (as_pushed_at e Unpushed h) ∙ ap (λ (w : List (LocalEntry Op)). remark Pushed e ∷ w) k
        ∙ ap (λ (w : LocalEntry Op). w ∷ map as_pushed (own l)) (sym (as_pushed_at e Unpushed h))
        ∙ ap (λ (w : Mark). map as_pushed (cond (is_own w) (e ∷ own l) (own l))) (sym h)
    by Pushed h k = ap (λ (w : LocalEntry Op). own (w ∷ map as_pushed l)) (as_pushed_at e Pushed h)
        ∙ ap (λ (w : Mark). cond (is_own w) (e ∷ own (map as_pushed l)) (own (map as_pushed l))) h
        ∙ ap (λ (w : List (LocalEntry Op)). e ∷ w) k
        ∙ ap (λ (w : LocalEntry Op). w ∷ map as_pushed (own l)) (sym (as_pushed_at e Pushed h))
        ∙ ap (λ (w : Mark). map as_pushed (cond (is_own w) (e ∷ own l) (own l))) (sym h)
    by Pulled h k = ap (λ (w : LocalEntry Op). own (w ∷ map as_pushed l)) (as_pushed_at e Pulled h)
        ∙ ap (λ (w : Mark). cond (is_own w) (e ∷ own (map as_pushed l)) (own (map as_pushed l))) h
        ∙ k
        ∙ ap (λ (w : Mark). map as_pushed (cond (is_own w) (e ∷ own l) (own l))) (sym h)

-- the summary of a transaction with another log, and under another state of the front
tx_with : {Op : Type 0} (place : Op → ℕ) (g : Front) (x : Tx Op) (K o : List (LocalEntry Op)) (s : ℕ → ℕ) (h : Option Held) → own K ≡ o → ((p : ℕ) → seen_at place p K ≡ s p) → held_of place (g.section x.name) K ≡ h →
    open_summary place g (relog (λ l. K) x) ≡ record { name = x.name; thread = x.thread; body = x.body; own = o; seen = s; held = h }
tx_with {Op} place g x K o s h eo es eh =
    ap (λ (w : List (LocalEntry Op)). record { name = x.name; thread = x.thread; body = x.body; own = w; seen = λ p. seen_at place p K; held = held_of place (g.section x.name) K }) eo
    ∙ ap (λ (w : ℕ → ℕ). record { name = x.name; thread = x.thread; body = x.body; own = o; seen = w; held = held_of place (g.section x.name) K }) (fun_ext es)
    ∙ ap (λ (w : Option Held). record { name = x.name; thread = x.thread; body = x.body; own = o; seen = s; held = w }) eh

module _ {Op State : Type 0} (O : Object Op State) (place : Op → ℕ) (part : PlacesPart O place) (tells : TellsStates O) (style : Style) (has : HasSummary style) (f : Front) (c : Config Op) (b : Summable O place f c) where
  abbrev B : Summary Op
  B = summary_of place (record { front = f; config = c })

  found : (t : Name) (x : Tx Op) → tx t c.opened ≡ Some x → open_named t (map (open_summary place f) c.opened) ≡ Some (open_summary place f x)
  found t x e = open_named_is place f t c.opened ∙ ap (to_open place f) e

  module _ (t : Name) (x : Tx Op) (lookup : tx t c.opened ≡ Some x) where
    abbrev y : OpenSummary Op
    y = open_summary place f x

    ix : In x c.opened
    ix = (found_tx t c.opened x lookup).0

    nx : x.name ≡ t
    nx = (found_tx t c.opened x lookup).1

    -- An own entry is in the log.
    pub own_of_in : (a : LocalEntry Op) → In a (own x.local) → In a x.local × (is_own a.mark ≡ true)
    own_of_in a i = from_filter (λ (e : LocalEntry Op). is_own e.mark) a x.local i

    -- An own entry of the log is one of the own entries.
    pub in_own_of : (a : LocalEntry Op) → In a x.local → is_own a.mark ≡ true → In a (own x.local)
    in_own_of a i o = in_filter (λ (e : LocalEntry Op). is_own e.mark) a x.local i o

    -- good, to and from the summary
    push_to : (op : Op) → LocalPush O place c op x → SummaryPush O place B op y
    push_to op g = record { turns = λ a i p m. let k = own_of_in a i in g.turns a (k.0, k.1, p) m; passes = g.passes; allowed = g.allowed }

    push_from : (op : Op) → SummaryPush O place B op y → LocalPush O place c op x
    push_from op g = record { turns = λ a i m. g.turns a (in_own_of a i.0 i.1) i.2 m; passes = g.passes; allowed = g.allowed }

    once_to : (o : ℕ) (m : Option ℕ) (h : Option Held) → Match place o x.local y m h → (P Q : Type 0) → (P → Q) → AtOnce m P → AtOnce h Q
    once_to o None None e P Q k a = k a
    once_to o None (Some h) e P Q k a = absurd e
    once_to o (Some m) None e P Q k a = absurd e
    once_to o (Some m) (Some h) e P Q k a = tt

    once_from : (o : ℕ) (m : Option ℕ) (h : Option Held) → Match place o x.local y m h → (P Q : Type 0) → (Q → P) → AtOnce h Q → AtOnce m P
    once_from o None None e P Q k a = k a
    once_from o None (Some h) e P Q k a = absurd e
    once_from o (Some m) None e P Q k a = absurd e
    once_from o (Some m) (Some h) e P Q k a = tt

    op_to : (id : ℕ) (op : Op) → LocalOp O place (push_mode style f t (place op)) c id op x → SummaryOp O place style B id op y
    op_to id op g =
        let o = place op in
        let m = match_of O place part tells f c b t x lookup style has o in
        let e = first_is O place part tells f c b t x lookup o (push_mode style f t o) (summary_mode style f.kinds y o) m in
        record {
          new = g.new;
          begins = g.begins;
          swaps = λ a h i p j. let k = own_of_in a i in g.swaps a h (k.0, k.1, p) (subst (λ (w : List (SharedEntry Op)). In h w) (sym e) j);
          allowed = subst (λ (w : List (SharedEntry Op)). Allowed O (summary_view place o c.done y ++ (shared_ops w ++ op ∷ []))) e
              (log_to O place part tells f c b t x lookup o (shared_ops (pulled_before place (push_mode style f t o) o c.shared x.local) ++ op ∷ []) g.allowed);
          pushed = once_to o (push_mode style f t o) (summary_mode style f.kinds y o) m (LocalPush O place c op x) (SummaryPush O place B op y) (push_to op) g.pushed;
        }

    op_from : (id : ℕ) (op : Op) → SummaryOp O place style B id op y → LocalOp O place (push_mode style f t (place op)) c id op x
    op_from id op g =
        let o = place op in
        let m = match_of O place part tells f c b t x lookup style has o in
        let e = first_is O place part tells f c b t x lookup o (push_mode style f t o) (summary_mode style f.kinds y o) m in
        record {
          new = g.new;
          begins = g.begins;
          swaps = λ a h i j. g.swaps a h (in_own_of a i.0 i.1) i.2 (subst (λ (w : List (SharedEntry Op)). In h w) e j);
          allowed = log_from O place part tells f c b t x lookup o (shared_ops (pulled_before place (push_mode style f t o) o c.shared x.local) ++ op ∷ [])
              (subst (λ (w : List (SharedEntry Op)). Allowed O (summary_view place o c.done y ++ (shared_ops w ++ op ∷ []))) (sym e) g.allowed);
          pushed = once_from o (push_mode style f t o) (summary_mode style f.kinds y o) m (LocalPush O place c op x) (SummaryPush O place B op y) (push_from op) g.pushed;
        }

    refresh_to : (o : ℕ) → LocalRefresh O place c o x → SummaryRefresh O place B o y
    refresh_to o g =
        let e = missing_is O place part tells f c b t x lookup o in
        record {
          swaps = λ a h i p j. let k = own_of_in a i in g.swaps a h (k.0, k.1, p) (subst (λ (w : List (SharedEntry Op)). In h w) (sym e) j);
          allowed = subst (λ (w : List (SharedEntry Op)). Allowed O (summary_view place o c.done y ++ shared_ops w)) e
              (log_to O place part tells f c b t x lookup o (shared_ops (missing_at place o c.shared x.local)) g.allowed);
        }

    refresh_from : (o : ℕ) → SummaryRefresh O place B o y → LocalRefresh O place c o x
    refresh_from o g =
        let e = missing_is O place part tells f c b t x lookup o in
        record {
          swaps = λ a h i j. g.swaps a h (in_own_of a i.0 i.1) i.2 (subst (λ (w : List (SharedEntry Op)). In h w) e j);
          allowed = log_from O place part tells f c b t x lookup o (shared_ops (missing_at place o c.shared x.local))
              (subst (λ (w : List (SharedEntry Op)). Allowed O (summary_view place o c.done y ++ shared_ops w)) (sym e) g.allowed);
        }

    pushes_to : LocalPushes O place c x → SummaryPushes O place B y
    pushes_to g = record {
      passes = λ e u i. g.passes e u (subst (λ (w : List (LocalEntry Op)). In e w) (own_unpushed x.local) i);
      allowed = subst (λ (w : List (LocalEntry Op)). Allowed O (shared_ops c.shared ++ local_ops w)) (sym (own_unpushed x.local)) g.allowed;
    }

    pushes_from : SummaryPushes O place B y → LocalPushes O place c x
    pushes_from g = record {
      passes = λ e u i. g.passes e u (subst (λ (w : List (LocalEntry Op)). In e w) (sym (own_unpushed x.local)) i);
      allowed = subst (λ (w : List (LocalEntry Op)). Allowed O (shared_ops c.shared ++ local_ops w)) (own_unpushed x.local) g.allowed;
    }

    commit_to : (style : Style) → HasSummary style → LocalCommit style O place c x → SummaryCommit style O place B y
    commit_to Rules h g = absurd h
    commit_to Boosted h g = record { word = g.word; pushed = λ e i o. g.pushed e (own_of_in e i).0 o }
    commit_to Optimistic h g = record { word = g.word; pushed = pushes_to g.pushed }
    commit_to Hardware h g = record { word = g.word; pushed = pushes_to g.pushed }
    commit_to Dependent h g = absurd h

    commit_from : (style : Style) → HasSummary style → SummaryCommit style O place B y → LocalCommit style O place c x
    commit_from Rules h g = absurd h
    commit_from Boosted h g = record { word = g.word; pushed = λ e i o. g.pushed e (in_own_of e i o) o }
    commit_from Optimistic h g = record { word = g.word; pushed = pushes_from g.pushed }
    commit_from Hardware h g = record { word = g.word; pushed = pushes_from g.pushed }
    commit_from Dependent h g = absurd h

    -- the summaries after a change of one log
    on_open : (g : Front) (K : List (LocalEntry Op)) (h : OpenSummary Op → OpenSummary Op) → SameElsewhere t f g → open_summary place g (relog (λ l. K) x) ≡ h (open_summary place f x) →
        map (open_summary place g) (on_log t (λ l. K) c.opened) ≡ at_open t h (map (open_summary place f) c.opened)
    on_open g K h same e =
        map_map (open_summary place g) (λ (w : Tx Op). cond (w.name =ⁿ t) (relog (λ l. K) w) w) c.opened
        ∙ map_same (λ (w : Tx Op). open_summary place g (cond (w.name =ⁿ t) (relog (λ l. K) w) w)) (λ (w : Tx Op). cond (w.name =ⁿ t) (h (open_summary place f w)) (open_summary place f w)) c.opened one
        ∙ sym (map_map (λ (z : OpenSummary Op). cond (z.name =ⁿ t) (h z) z) (open_summary place f) c.opened)
      where
        one : (w : Tx Op) → In w c.opened → open_summary place g (cond (w.name =ⁿ t) (relog (λ l. K) w) w) ≡ cond (w.name =ⁿ t) (h (open_summary place f w)) (open_summary place f w)
        one w i = elim (names_tell w.name t) [
          | inl r ↦ ap (λ (z : Bool). open_summary place g (cond z (relog (λ l. K) w) w)) r.0
              ∙ subst (λ (z : Tx Op). open_summary place g (relog (λ l. K) z) ≡ h (open_summary place f z)) (by_key (λ (z : Tx Op). z.name) c.opened b.sound.open_names x w ix i (nx ∙ sym r.1)) e
              ∙ sym (ap (λ (z : Bool). cond z (h (open_summary place f w)) (open_summary place f w)) r.0)
          | inr r ↦ ap (λ (z : Bool). open_summary place g (cond z (relog (λ l. K) w) w)) r.0
              ∙ ap (λ (z : Option ℕ). record { name = w.name; thread = w.thread; body = w.body; own = own w.local; seen = λ o. seen_at place o w.local; held = held_of place z w.local }) (same w.name r.1)
              ∙ sym (ap (λ (z : Bool). cond z (h (open_summary place f w)) (open_summary place f w)) r.0)
        ]

    still : SameElsewhere t f f
    still u n = refl

    -- The log that a section holds stays the same if entries are added.
    held_more : (K : List (LocalEntry Op)) → held_of place (f.section x.name) (x.local ++ K) ≡ held_of place (f.section x.name) x.local
    held_more K = by (f.section x.name) refl
      where
        by : (o : Option ℕ) → f.section x.name ≡ o → held_of place o (x.local ++ K) ≡ held_of place o x.local
        by None e = refl
        by (Some m) e = ap (λ (w : List (LocalEntry Op)). Some (record { own = length (own w); seen = λ o. seen_at place o w })) (take-append-le m x.local K (b.sections x ix m e).0)

    held_none : (g : Front) → g.section t ≡ None → (K : List (LocalEntry Op)) → held_of place (g.section x.name) K ≡ None
    held_none g e K = ap (λ (z : Option ℕ). held_of place z K) (ap g.section nx ∙ e)

    -- refresh
    pulled_tx : (o : ℕ) → open_summary place f (relog (λ l. x.local ++ map as_pulled (missing_at place o c.shared x.local)) x) ≡ seen_all place o c.done (open_summary place f x)
    pulled_tx o =
        let N = missing_at place o c.shared x.local in
        tx_with place f x (x.local ++ map as_pulled N) (own x.local) (at_number o (length (serial_at place o c.done)) (λ p. seen_at place p x.local)) (held_of place (f.section x.name) x.local)
        (own-append x.local (map as_pulled N) ∙ ap (λ (w : List (LocalEntry Op)). own x.local ++ w) (own_pulled_none N) ∙ append-nil (own x.local))
        seen (held_more (map as_pulled N))
      where
        seen : (p : ℕ) → seen_at place p (x.local ++ map as_pulled (missing_at place o c.shared x.local)) ≡ cond (p == o) (length (serial_at place o c.done)) (seen_at place p x.local)
        seen p = elim (same_or_not p o) [
          | inl e ↦ subst (λ (q : ℕ). seen_at place q (x.local ++ map as_pulled (missing_at place o c.shared x.local)) ≡ length (serial_at place o c.done)) (sym e)
              (snaps.all_seen O place c b.sound x ix (b.pulls_committed x ix) (b.snapshots x ix) o)
              ∙ sym (ap (λ (z : Bool). cond z (length (serial_at place o c.done)) (seen_at place p x.local)) (eq-eqb p o e))
          | inr n ↦ ap (λ (w : List (LocalEntry Op)). length w) (snaps.pulled_elsewhere O place c b.sound x ix (b.pulls_committed x ix) (b.snapshots x ix) o p n)
              ∙ sym (ap (λ (z : Bool). cond z (length (serial_at place o c.done)) (seen_at place p x.local)) (not_eq p o n))
        ]

    nil_tx : open_summary place f (relog (λ l. x.local ++ []) x) ≡ open_summary place f x
    nil_tx = ap (λ (w : List (LocalEntry Op)). open_summary place f (relog (λ l. w) x)) (append-nil x.local)

    refresh_step : (o : ℕ) → LocalRefresh O place c o x → summary_of place (record { front = f; config = after_from c (Note t ∷ refresh place t o c.shared x.local) }) ≡ next_summary place style B (records.Refresh t o)
    refresh_step o g =
        ap (λ (w : Config Op). summary_of place (record { front = f; config = w })) (steps.note_leads O place part t c b.sound x lookup o (steps.note_runs O place part t c b.sound x lookup o g))
        ∙ ap (λ (w : List (OpenSummary Op)). record { names = c.names; ids = c.ids; opened = w; shared = c.shared; done = c.done; kinds = f.kinds })
        (on_open f (x.local ++ map as_pulled (missing_at place o c.shared x.local)) (seen_all place o c.done) still (pulled_tx o))

    -- operation
    first_tx : (o : ℕ) (m : Option ℕ) (h : Option Held) → Match place o x.local y m h → open_summary place f (relog (λ l. x.local ++ map as_pulled (pulled_before place m o c.shared x.local)) x) ≡ seen_first place h o c.done y
    first_tx o None None e = pulled_tx o
    first_tx o None (Some h) e = absurd e
    first_tx o (Some m) None e = absurd e
    first_tx o (Some m) (Some h) e = two (touches place o (drop m x.local)) ∙ ap (λ (z : Bool). cond z y (seen_all place o c.done y)) e
      where
        two : (z : Bool) → open_summary place f (relog (λ l. x.local ++ map as_pulled (cond z [] (missing_at place o c.shared x.local))) x) ≡ cond z y (seen_all place o c.done y)
        two true = nil_tx
        two false = pulled_tx o

    same_entry : (o : ℕ) (m : Option ℕ) (h : Option Held) → Match place o x.local y m h → (id : ℕ) (op : Op) → (new_entry m t id op ≡ new_entry h t id op) × (new_shared m t id op ≡ new_shared h t id op)
    same_entry o None None e id op = (refl, refl)
    same_entry o None (Some h) e id op = absurd e
    same_entry o (Some m) None e id op = absurd e
    same_entry o (Some m) (Some h) e id op = (refl, refl)

    not_pulled : {A : Type 0} (m : Option A) (id : ℕ) (op : Op) → is_mark (new_entry m t id op).mark Pulled ≡ false
    not_pulled None id op = refl
    not_pulled (Some m) id op = refl

    entry_tx : (M : List (SharedEntry Op)) (m : Option ℕ) (id : ℕ) (op : Op) →
        open_summary place f (relog (λ l. (x.local ++ map as_pulled M) ++ new_entry m t id op ∷ []) x) ≡ with_entry (new_entry m t id op) (open_summary place f (relog (λ l. x.local ++ map as_pulled M) x))
    entry_tx M m id op =
        let e : LocalEntry Op = new_entry m t id op in
        let K = x.local ++ map as_pulled M in
        tx_with place f x (K ++ e ∷ []) (own K ++ e ∷ []) (λ p. seen_at place p K) (held_of place (f.section x.name) K)
        (own-append K (e ∷ []) ∙ ap (λ (w : List (LocalEntry Op)). own K ++ w) (own_new m t id op))
        (λ p. ap (λ (w : List (LocalEntry Op)). length w) (filter-append (is_pulled_at place p) K (e ∷ []) ∙ ap (λ (z : Bool). pulled_at place p K ++ cond (z && (place op == p)) (e ∷ []) []) (not_pulled m id op) ∙ append-nil (pulled_at place p K)))
        (ap (λ (w : List (LocalEntry Op)). held_of place (f.section x.name) w) (append_assoc x.local (map as_pulled M) (e ∷ [])) ∙ held_more (map as_pulled M ++ e ∷ []) ∙ sym (held_more (map as_pulled M)))

    op_step : (id : ℕ) (op : Op) → LocalOp O place (push_mode style f t (place op)) c id op x →
        summary_of place (record { front = f; config = after_from c (op_steps place style f c.shared x.local t id op) }) ≡ next_summary place style B (records.Op t id op)
    op_step id op g =
        let o = place op in
        let m = push_mode style f t o in
        let h = summary_mode style f.kinds y o in
        let k = match_of O place part tells f c b t x lookup style has o in
        let M = pulled_before place m o c.shared x.local in
        let r = steps.op_runs O place part t c b.sound x lookup m id op g in
        let s = same_entry o m h k id op in
        ap (λ (w : List (Step Op)). summary_of place (record { front = f; config = after_from c w })) (steps.style_steps O place part t c b.sound x lookup style has f id op)
        ∙ ap (λ (w : Config Op). summary_of place (record { front = f; config = w })) (steps.op_leads O place part t c b.sound x lookup m id op r)
        ∙ ap (λ (w : List (OpenSummary Op)). record { names = c.names; ids = id ∷ c.ids; opened = w; shared = c.shared ++ new_shared m t id op; done = c.done; kinds = f.kinds })
        (on_open f ((x.local ++ map as_pulled M) ++ new_entry m t id op ∷ []) (after_op place style B t id op) still
        (entry_tx M m id op ∙ ap (λ (w : OpenSummary Op). with_entry (new_entry m t id op) w) (first_tx o m h k) ∙ ap (λ (w : LocalEntry Op). with_entry w (seen_first place h o c.done y)) s.0))
        ∙ ap (λ (w : List (SharedEntry Op)). record { names = c.names; ids = id ∷ c.ids; opened = at_open t (after_op place style B t id op) B.opened; shared = c.shared ++ w; done = c.done; kinds = f.kinds })
        (s.1 ∙ ap (λ (w : Option (OpenSummary Op)). shared_by place style f.kinds t id op w) (sym (found t x lookup)))

    -- commit
    commit_step : LocalCommit style O place c x → summary_of place (record { front = f; config = after_from c (commit_steps style x.local t) }) ≡ next_summary place style B (records.Commit t)
    commit_step g =
        ap (λ (w : Config Op). summary_of place (record { front = f; config = w })) (commit_leads O place part f c b t x lookup style has (commit_runs O place part f c b t x lookup style has g))
        ∙ ap (λ (w : List (OpenSummary Op)). record { names = c.names; ids = c.ids; opened = w; shared = commit_all t (c.shared ++ posted t (unpushed x.local)); done = c.done ++ record { name = t; entries = own_items x.local } ∷ []; kinds = f.kinds })
        (without_open_is place f t c.opened)
        ∙ ap (λ (w : List (LocalEntry Op)). record { names = c.names; ids = c.ids; opened = without_open t B.opened; shared = commit_all t (c.shared ++ posted t w); done = c.done ++ record { name = t; entries = own_items x.local } ∷ []; kinds = f.kinds })
        (sym (own_unpushed x.local))
        ∙ ap (λ (w : Option (OpenSummary Op)). record { names = c.names; ids = c.ids; opened = without_open t B.opened; shared = commit_all t (c.shared ++ posted t (unpushed (own_of w))); done = c.done ++ record { name = t; entries = map item (own_of w) } ∷ []; kinds = f.kinds })
        (sym (found t x lookup))

    -- abort, retry, and the end of a section
    abort_step : summary_of place (record { front = f; config = after_from c (back t 0 x.local ++ Quit t ∷ []) }) ≡ next_summary place style B (records.Abort t)
    abort_step =
        ap (λ (w : Config Op). summary_of place (record { front = f; config = w })) (abort_leads O place part f c b t x lookup)
        ∙ ap (λ (w : List (OpenSummary Op)). record { names = c.names; ids = c.ids; opened = w; shared = without_ids (pushed_ids x.local) c.shared; done = c.done; kinds = f.kinds }) (without_open_is place f t c.opened)
        ∙ ap (λ (w : List ℕ). record { names = c.names; ids = c.ids; opened = without_open t B.opened; shared = without_ids w c.shared; done = c.done; kinds = f.kinds }) (sym (own_pushed_ids x.local))
        ∙ ap (λ (w : Option (OpenSummary Op)). record { names = c.names; ids = c.ids; opened = without_open t B.opened; shared = without_ids (pushed_ids (own_of w)) c.shared; done = c.done; kinds = f.kinds }) (sym (found t x lookup))

    retry_step : summary_of place (record { front = with_sources (with_section f t None) t []; config = after_from c (Note t ∷ back t 0 x.local) }) ≡ next_summary place style B (records.Retry t)
    retry_step =
        let g : Front = with_sources (with_section f t None) t [] in
        ap (λ (w : Config Op). summary_of place (record { front = g; config = w })) (back_leads O place part f c b t x lookup zero)
        ∙ ap (λ (w : List (OpenSummary Op)). record { names = c.names; ids = c.ids; opened = w; shared = without_ids (pushed_ids x.local) c.shared; done = c.done; kinds = f.kinds })
        (on_open g [] (taken_back None) (closed O place part f c b t x lookup) (tx_with place g x [] [] (seen_held None) None refl (λ p. refl) (held_none g (closed_here O place part f c b t x lookup) [])))
        ∙ ap (λ (w : List ℕ). record { names = c.names; ids = c.ids; opened = at_open t (taken_back None) B.opened; shared = without_ids w c.shared; done = c.done; kinds = f.kinds }) (sym (own_pushed_ids x.local))
        ∙ ap (λ (w : Option (OpenSummary Op)). record { names = c.names; ids = c.ids; opened = at_open t (taken_back None) B.opened; shared = without_ids (pushed_ids (own_of w)) c.shared; done = c.done; kinds = f.kinds }) (sym (found t x lookup))

    -- The log to which a section returns is the log up to its mark.
    pub held_parts : (o : Option ℕ) → (take (own_held (held_of place o x.local)) (own x.local) ≡ own (take (mark_of o) x.local)) × ((p : ℕ) → seen_at place p (take (mark_of o) x.local) ≡ seen_held (held_of place o x.local) p)
        × (pushed_ids (drop (mark_of o) x.local) ≡ pushed_ids (drop (own_held (held_of place o x.local)) (own x.local)))
    held_parts None = (refl, (λ p. refl), sym (own_pushed_ids x.local))
    held_parts (Some m) = (own_take m x.local, (λ p. refl), sym (own_pushed_ids (drop m x.local)) ∙ ap (λ (w : List (LocalEntry Op)). pushed_ids w) (sym (own_drop m x.local)))

    held_is : held_of place (f.section t) x.local ≡ y.held
    held_is = ap (λ (z : Option ℕ). held_of place z x.local) (ap f.section (sym nx))

    abandon_step : summary_of place (record { front = with_section f t None; config = after_from c (Note t ∷ back t (mark_of (f.section t)) x.local) }) ≡ next_summary place style B (records.XAbort t)
    abandon_step =
        let g : Front = with_section f t None in
        let n = mark_of (f.section t) in
        let k = held_parts (f.section t) in
        ap (λ (w : Config Op). summary_of place (record { front = g; config = w })) (back_leads O place part f c b t x lookup n)
        ∙ ap (λ (w : List (OpenSummary Op)). record { names = c.names; ids = c.ids; opened = w; shared = without_ids (pushed_ids (drop n x.local)) c.shared; done = c.done; kinds = f.kinds })
        (on_open g (take n x.local) taken_to_held (closed O place part f c b t x lookup)
        (tx_with place g x (take n x.local) (take (own_held (held_of place (f.section t) x.local)) (own x.local)) (seen_held (held_of place (f.section t) x.local)) None (sym k.0) k.1 (held_none g (closed_here O place part f c b t x lookup) (take n x.local))
        ∙ ap (λ (w : Option Held). taken_back w y) held_is))
        ∙ ap (λ (w : List ℕ). record { names = c.names; ids = c.ids; opened = at_open t taken_to_held B.opened; shared = without_ids w c.shared; done = c.done; kinds = f.kinds })
        (k.2 ∙ ap (λ (w : Option Held). pushed_ids (drop (own_held w) (own x.local))) held_is)
        ∙ ap (λ (w : Option (OpenSummary Op)). record { names = c.names; ids = c.ids; opened = at_open t taken_to_held B.opened; shared = without_ids (pushed_ids (own_since w)) c.shared; done = c.done; kinds = f.kinds }) (sym (found t x lookup))

    end_step : LocalPushes O place c x → summary_of place (record { front = with_section f t None; config = after_from c (Note t ∷ pushall t x.local) }) ≡ next_summary place style B (records.XEnd t)
    end_step q =
        let g : Front = with_section f t None in
        ap (λ (w : Config Op). summary_of place (record { front = g; config = w })) (steps.pushes_lead O place part t c b.sound x lookup (steps.pushes_run O place part t c b.sound x lookup q))
        ∙ ap (λ (w : List (OpenSummary Op)). record { names = c.names; ids = c.ids; opened = w; shared = c.shared ++ posted t (unpushed x.local); done = c.done; kinds = f.kinds })
        (on_open g (map as_pushed x.local) ended (closed O place part f c b t x lookup)
        (tx_with place g x (map as_pushed x.local) (map as_pushed (own x.local)) (λ p. seen_at place p x.local) None (own_all_pushed x.local)
        (λ p. ap (λ (w : List (LocalEntry Op)). length w) (pushed_pulled O place part f c b t x lookup p x.local)) (held_none g (closed_here O place part f c b t x lookup) (map as_pushed x.local))))
        ∙ ap (λ (w : List (LocalEntry Op)). record { names = c.names; ids = c.ids; opened = at_open t ended B.opened; shared = c.shared ++ posted t w; done = c.done; kinds = f.kinds }) (sym (own_unpushed x.local))
        ∙ ap (λ (w : Option (OpenSummary Op)). record { names = c.names; ids = c.ids; opened = at_open t ended B.opened; shared = c.shared ++ posted t (unpushed (own_of w)); done = c.done; kinds = f.kinds }) (sym (found t x lookup))

    section_step : summary_of place (record { front = with_section f t (opened_at (length x.local) (f.section t)); config = c }) ≡ next_summary place style B (records.XBegin t)
    section_step =
        let g : Front = with_section f t (opened_at (length x.local) (f.section t)) in
        ap (λ (w : List (Tx Op)). record { names = c.names; ids = c.ids; opened = map (open_summary place g) w; shared = c.shared; done = c.done; kinds = f.kinds }) (sym (on_log-same O c b.sound t x ix nx))
        ∙ ap (λ (w : List (OpenSummary Op)). record { names = c.names; ids = c.ids; opened = w; shared = c.shared; done = c.done; kinds = f.kinds })
        (on_open g x.local begun_section (opened O place part f c b t x lookup)
        (tx_with place g x x.local (own x.local) (λ p. seen_at place p x.local) (held_from y.held (length (own x.local)) (λ p. seen_at place p x.local)) refl (λ p. refl)
        (ap (λ (z : Option ℕ). held_of place z x.local) (ap g.section nx ∙ ap (λ (z : Bool). if z then opened_at (length x.local) (f.section t) else f.section t) (eq-names t t refl))
        ∙ by (f.section t) ∙ ap (λ (w : Option Held). held_from w (length (own x.local)) (λ p. seen_at place p x.local)) held_is)))
      where
        by : (o : Option ℕ) → held_of place (opened_at (length x.local) o) x.local ≡ held_from (held_of place o x.local) (length (own x.local)) (λ p. seen_at place p x.local)
        by None = ap (λ (w : List (LocalEntry Op)). Some (record { own = length (own w); seen = λ o. seen_at place o w })) (take-length x.local)
        by (Some m) = refl

  to : (t : Name) (P : Tx Op → Type 0) (Q : OpenSummary Op → Type 0) → ((x : Tx Op) → tx t c.opened ≡ Some x → P x → Q (open_summary place f x)) → OfOpen c t P → OfOpenSummary B t Q
  to t P Q k g = (open_summary place f g.0, found t g.0 g.1, k g.0 g.1 g.2)

  from : (t : Name) (P : Tx Op → Type 0) (Q : OpenSummary Op → Type 0) → ((x : Tx Op) → tx t c.opened ≡ Some x → Q (open_summary place f x) → P x) → OfOpenSummary B t Q → OfOpen c t P
  from t P Q k g = by (tx t c.opened) refl
    where
      by : (o : Option (Tx Op)) → tx t c.opened ≡ o → OfOpen c t P
      by None e = absurd (let z : None ≡ Some g.0 = sym (open_named_is place f t c.opened ∙ ap (to_open place f) e) ∙ g.1 in cc)
      by (Some x) e =
          let z : Some (open_summary place f x) ≡ Some g.0 = sym (found t x e) ∙ g.1 in
          let y : g.0 ≡ open_summary place f x = cc in
          (x, e, k x e (subst Q y g.2))

  good_to : (r : RunRecord Op) → IsOfStyle style r → LocalGood style O place f c r → SummaryGood style O place B r
  good_to = by_record style has (λ r. LocalGood style O place f c r → SummaryGood style O place B r)
      (λ t p w g. (g.0, (λ y i. let m = from_map (open_summary place f) y c.opened i in λ e. g.1.0 m.0 m.1 (ap (λ (z : OpenSummary Op). z.thread) (sym m.2) ∙ e))))
      (λ t id op g. to t (LocalOp O place (push_mode style f t (place op)) c id op) (SummaryOp O place style B id op) (λ x e k. op_to t x e id op k) g)
      (λ t g. to t (LocalCommit style O place c) (SummaryCommit style O place B) (λ x e k. commit_to t x e style has k) g)
      (λ t g. to t (λ x. Unit {0}) (λ x. Unit {0}) (λ x e k. k) g)
      (λ t g. to t (λ x. Unit {0}) (λ x. Unit {0}) (λ x e k. k) g)
      (λ t o g. to t (LocalRefresh O place c o) (SummaryRefresh O place B o) (λ x e k. refresh_to t x e o k) g)
      (λ t g. to t (λ x. Unit {0}) (λ x. Unit {0}) (λ x e k. k) g)
      (λ t g. to t (LocalPushes O place c) (SummaryPushes O place B) (λ x e k. pushes_to t x e k) g)
      (λ t g. to t (λ x. Unit {0}) (λ x. Unit {0}) (λ x e k. k) g)

  good_from : (r : RunRecord Op) → IsOfStyle style r → SummaryGood style O place B r → LocalGood style O place f c r
  good_from = by_record style has (λ r. SummaryGood style O place B r → LocalGood style O place f c r)
      (λ t p w g. (g.0, ((λ y i. g.1 (open_summary place f y) (in_map (open_summary place f) y c.opened i)), refl)))
      (λ t id op g. from t (LocalOp O place (push_mode style f t (place op)) c id op) (SummaryOp O place style B id op) (λ x e k. op_from t x e id op k) g)
      (λ t g. from t (LocalCommit style O place c) (SummaryCommit style O place B) (λ x e k. commit_from t x e style has k) g)
      (λ t g. from t (λ x. Unit {0}) (λ x. Unit {0}) (λ x e k. k) g)
      (λ t g. from t (λ x. Unit {0}) (λ x. Unit {0}) (λ x e k. k) g)
      (λ t o g. from t (LocalRefresh O place c o) (SummaryRefresh O place B o) (λ x e k. refresh_from t x e o k) g)
      (λ t g. from t (λ x. Unit {0}) (λ x. Unit {0}) (λ x e k. k) g)
      (λ t g. from t (LocalPushes O place c) (SummaryPushes O place B) (λ x e k. pushes_from t x e k) g)
      (λ t g. from t (λ x. Unit {0}) (λ x. Unit {0}) (λ x e k. k) g)

  -- the record's steps, and the front after it, if t is open
  step_of : (t : Name) (alone : Step Op) (ss : List (LocalEntry Op) → List (Step Op)) (k : List (LocalEntry Op) → Front) (N : Summary Op) (x : Tx Op) → tx t c.opened ≡ Some x →
      summary_of place (record { front = k x.local; config = after_from c (ss x.local) }) ≡ N → summary_of place (record { front = front_of_open (tx t c.opened) f k; config = after_from c (steps_of_open (tx t c.opened) alone ss) }) ≡ N
  step_of t alone ss k N x e = subst (λ (w : Option (Tx Op)). summary_of place (record { front = front_of_open w f k; config = after_from c (steps_of_open w alone ss) }) ≡ N) (sym e)

  step_here : (t : Name) (alone : Step Op) (ss : List (LocalEntry Op) → List (Step Op)) (N : Summary Op) (x : Tx Op) → tx t c.opened ≡ Some x →
      summary_of place (record { front = f; config = after_from c (ss x.local) }) ≡ N → summary_of place (record { front = f; config = after_from c (steps_of_open (tx t c.opened) alone ss) }) ≡ N
  step_here t alone ss N x e = subst (λ (w : Option (Tx Op)). summary_of place (record { front = f; config = after_from c (steps_of_open w alone ss) }) ≡ N) (sym e)

  -- The next summary is that of the configuration after a good record.
  pub stepped : (r : RunRecord Op) → IsOfStyle style r → LocalGood style O place f c r →
      summary_of place (record { front = front_after f c r; config = after_from c (expand place style f c r) }) ≡ next_summary place style B r
  stepped = by_record style has (λ r. LocalGood style O place f c r → summary_of place (record { front = front_after f c r; config = after_from c (expand place style f c r) }) ≡ next_summary place style B r)
      (λ t p w g. ap (λ (z : List (OpenSummary Op)). record { names = t ∷ c.names; ids = c.ids; opened = z; shared = c.shared; done = c.done; kinds = f.kinds })
      (map-append (open_summary place f) c.opened (record { name = t; thread = p; body = w; local = [] } ∷ [])
      ∙ ap (λ (z : Option ℕ). map (open_summary place f) c.opened ++ record { name = t; thread = p; body = w; own = []; seen = λ o. zero; held = held_of place z [] } ∷ []) (b.fresh t g.0)))
      (λ t id op g. step_here t (App t id op) (λ l. op_steps place style f c.shared l t id op) (next_summary place style B (records.Op t id op)) g.0 g.1 (op_step t g.0 g.1 id op g.2))
      (λ t g. step_here t (Cmt t) (λ l. commit_steps style l t) (next_summary place style B (records.Commit t)) g.0 g.1 (commit_step t g.0 g.1 g.2))
      (λ t g. step_here t (Quit t) (λ l. back t 0 l ++ Quit t ∷ []) (next_summary place style B (records.Abort t)) g.0 g.1 (abort_step t g.0 g.1))
      (λ t g. step_of t (Note t) (λ l. Note t ∷ back t 0 l) (λ l. with_sources (with_section f t None) t []) (next_summary place style B (records.Retry t)) g.0 g.1 (retry_step t g.0 g.1))
      (λ t o g. step_here t (Note t) (λ l. Note t ∷ refresh place t o c.shared l) (next_summary place style B (records.Refresh t o)) g.0 g.1 (refresh_step t g.0 g.1 o g.2))
      (λ t g. subst (λ (w : Option (Tx Op)). summary_of place (record { front = front_of_open w f (λ l. with_section f t (opened_at (length l) (f.section t))); config = c }) ≡ next_summary place style B (records.XBegin t)) (sym g.1) (section_step t g.0 g.1))
      (λ t g. step_of t (Note t) (λ l. Note t ∷ pushall t l) (λ l. with_section f t None) (next_summary place style B (records.XEnd t)) g.0 g.1 (end_step t g.0 g.1 g.2))
      (λ t g. step_of t (Note t) (λ l. Note t ∷ back t (mark_of (f.section t)) l) (λ l. with_section f t None) (next_summary place style B (records.XAbort t)) g.0 g.1 (abandon_step t g.0 g.1))

  -- A record is good by the summary exactly if it is good by the local logs.
  pub good_iff : (r : RunRecord Op) → IsOfStyle style r → (LocalGood style O place f c r → SummaryGood style O place B r) × (SummaryGood style O place B r → LocalGood style O place f c r)
  good_iff r s = (good_to r s, good_from r s)
