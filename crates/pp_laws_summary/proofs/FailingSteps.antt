-- The conditions of a summary on a record are those of its steps, one for one.
use Rattle.std.specs.Prelude.{◌≡◌, ℕ, suc, List, [], ◌∷◌, ◌++◌, drop, length, map, Option, None, Some}
use Rattle.std.proofs.Common.{refl, sym, ap, subst, ◌∙◌}
use Rattle.pp_core.specs.declared.call.Style.{Style}
use Rattle.pp_core.specs.declared.call.Style.TheVariants.{Rules, Boosted, Optimistic, Hardware, Dependent}
use Rattle.pp_model.specs.Names.{Name}
use Rattle.pp_model.specs.Object.{Object, TellsStates}
use Rattle.pp_model.specs.Config.{LocalEntry, SharedEntry, Tx, Config, Step, App, Push, Pull, Cmt, Quit, Note, tx}
use Rattle.pp_model.proofs.Logs.{found_tx}
use Rattle.pp_records.specs.Expansions.{IsOfStyle, expand, steps_of_open, op_steps, commit_steps, pushall, refresh, back, taken_out}
use Rattle.pp_records.specs.Fronts.{Front, mark_of}
use Rattle.pp_records.specs.Records.{RunRecord}
use Rattle.pp_laws_summary.specs.Counts.{back_count, section_count}
use Rattle.pp_laws_summary.specs.Failures.{AreSteps, Asked, app_facts, asked, at_once_asks, cmt_facts, commit_asks, op_asks, open_asks, publish_asks, pull_asks, record_asks, safe}
use Rattle.pp_laws_summary.specs.LocalLogs.{HasSummary, Summable, pulled_before, push_mode, unpushed}
use Rattle.pp_laws_summary.specs.Places.{PlacesPart}
use Rattle.pp_laws_summary.specs.Summary.{Held, OpenSummary, Summary, open_named, open_summary, summary_missing, summary_mode, summary_of}
use Rattle.pp_laws_summary.specs.Views.{missing_at}
use Rattle.pp_laws_summary.proofs.Counts as counts
use Rattle.pp_laws_summary.proofs.LocalRecords.{by_record}
use Rattle.pp_laws_summary.proofs.Steps as steps
use Rattle.pp_laws_summary.proofs.SummaryRecords.{to_open, open_named_is}
use Rattle.pp_laws_summary.proofs.SummaryViews.{Match, match_of, first_is, missing_is, own_unpushed}

safe_are : {Op : Type 0} (ss : List (Step Op)) → AreSteps (safe (length ss)) ss
safe_are [] = tt
safe_are (s ∷ ss) = (tt, safe_are ss)

count_are : {Op : Type 0} (ss : List (Step Op)) (n : ℕ) → n ≡ length ss → AreSteps (safe n) ss
count_are ss n e = subst (λ (k : ℕ). AreSteps (safe k) ss) (sym e) (safe_are ss)

append_are : {Op : Type 0} (qs more : List (Asked Op)) (ss rest : List (Step Op)) → AreSteps qs ss → AreSteps more rest → AreSteps (qs ++ more) (ss ++ rest)
append_are [] more [] rest a m = m
append_are [] more (s ∷ ss) rest a m = absurd a
append_are (q ∷ qs) more [] rest a m = absurd a
append_are (q ∷ qs) more (s ∷ ss) rest a m = (a.0, append_are qs more ss rest a.1 m)

module _ {Op State : Type 0} (O : Object Op State) (place : Op → ℕ) where
  pulls_are : (B : Summary Op) (t : Name) (y : OpenSummary Op) (o : ℕ) (M P : List (SharedEntry Op)) → AreSteps (pull_asks O place B t y o P M) (map (λ g. Pull t g.id) M)
  pulls_are B t y o [] P = tt
  pulls_are B t y o (g ∷ M) P = (refl, pulls_are B t y o M (P ++ g ∷ []))

  publish_are : (B : Summary Op) (t : Name) (y : OpenSummary Op) (M P : List (LocalEntry Op)) → AreSteps (publish_asks O place B t y P M) (map (λ e. Push t e.id) M)
  publish_are B t y [] P = tt
  publish_are B t y (e ∷ M) P = (refl, publish_are B t y M (P ++ e ∷ []))

module _ {Op State : Type 0} (O : Object Op State) (place : Op → ℕ) (part : PlacesPart O place) (tells : TellsStates O) (style : Style) (has : HasSummary style) (f : Front) (c : Config Op) (b : Summable O place f c) where
  abbrev B : Summary Op
  B = summary_of place (record { front = f; config = c })

  module _ (t : Name) (x : Tx Op) (lookup : tx t c.opened ≡ Some x) where
    abbrev y : OpenSummary Op
    y = open_summary place f x

    tail_are : (o : ℕ) (k : Option ℕ) (h : Option Held) → Match place o x.local y k h → (id : ℕ) (op : Op) → AreSteps (at_once_asks h O place B t id op y) (steps.tail k t id)
    tail_are o None None w id op = (refl, tt)
    tail_are o None (Some h) w id op = absurd w
    tail_are o (Some k) None w id op = absurd w
    tail_are o (Some k) (Some h) w id op = tt

    ops_are : (id : ℕ) (op : Op) → AreSteps (op_asks O place (summary_mode style B.kinds y (place op)) B t id op y) (op_steps place style f c.shared x.local t id op)
    ops_are id op =
        let o = place op in
        let m = push_mode style f t o in
        let h = summary_mode style f.kinds y o in
        let k = match_of O place part tells f c b t x lookup style has o in
        let M = pulled_before place m o c.shared x.local in
        subst (λ (w : List (Step Op)). AreSteps (op_asks O place h B t id op y) w) (sym (steps.style_steps O place part t c b.sound x lookup style has f id op))
        (subst (λ (N : List (SharedEntry Op)). AreSteps (pull_asks O place B t y o [] N ++ (asked (App t id op) (app_facts O place B id op y N) ∷ at_once_asks h O place B t id op y)) (map (λ (g : SharedEntry Op). Pull t g.id) M ++ App t id op ∷ steps.tail m t id))
        (first_is O place part tells f c b t x lookup o m h k)
        (append_are (pull_asks O place B t y o [] M) (asked (App t id op) (app_facts O place B id op y M) ∷ at_once_asks h O place B t id op y) (map (λ (g : SharedEntry Op). Pull t g.id) M) (App t id op ∷ steps.tail m t id)
        (pulls_are O place B t y o M []) (refl, tail_are o m h k id op)))

    pushes_are : AreSteps (publish_asks O place B t y [] (unpushed y.own)) (pushall t x.local)
    pushes_are = subst (λ (w : List (LocalEntry Op)). AreSteps (publish_asks O place B t y [] w) (pushall t x.local)) (sym (own_unpushed x.local)) (publish_are O place B t y (unpushed x.local) [])

    late_are : (qs : List (Type 0)) → AreSteps (publish_asks O place B t y [] (unpushed y.own) ++ asked (Cmt t) qs ∷ []) (pushall t x.local ++ Cmt t ∷ [])
    late_are qs = append_are (publish_asks O place B t y [] (unpushed y.own)) (asked (Cmt t) qs ∷ []) (pushall t x.local) (Cmt t ∷ []) pushes_are (refl, tt)

    commits_are : (style : Style) → HasSummary style → AreSteps (commit_asks style O place B t y) (commit_steps style x.local t)
    commits_are Rules h = absurd h
    commits_are Boosted h = (refl, tt)
    commits_are Optimistic h = late_are (cmt_facts Optimistic O y)
    commits_are Hardware h = late_are (cmt_facts Hardware O y)
    commits_are Dependent h = absurd h

    refresh_are : (o : ℕ) → AreSteps (pull_asks O place B t y o [] (summary_missing place o B y)) (refresh place t o c.shared x.local)
    refresh_are o = subst (λ (w : List (SharedEntry Op)). AreSteps (pull_asks O place B t y o [] w) (refresh place t o c.shared x.local)) (missing_is O place part tells f c b t x lookup o)
        (pulls_are O place B t y o (missing_at place o c.shared x.local) [])

  open_are : (t : Name) (alone : Step Op) (ss : List (LocalEntry Op) → List (Step Op)) (F : OpenSummary Op → List (Asked Op)) →
      ((x : Tx Op) → tx t c.opened ≡ Some x → AreSteps (F (open_summary place f x)) (ss x.local)) → AreSteps (open_asks (open_named t B.opened) alone F) (steps_of_open (tx t c.opened) alone ss)
  open_are t alone ss F some =
      subst (λ (w : Option (OpenSummary Op)). AreSteps (open_asks w alone F) (steps_of_open (tx t c.opened) alone ss)) (sym (open_named_is place f t c.opened)) (by (tx t c.opened) refl)
    where
      by : (w : Option (Tx Op)) → tx t c.opened ≡ w → AreSteps (open_asks (to_open place f (tx t c.opened)) alone F) (steps_of_open (tx t c.opened) alone ss)
      by None e = subst (λ (w : Option (Tx Op)). AreSteps (open_asks (to_open place f w) alone F) (steps_of_open w alone ss)) (sym e) (refl, tt)
      by (Some x) e = subst (λ (w : Option (Tx Op)). AreSteps (open_asks (to_open place f w) alone F) (steps_of_open w alone ss)) (sym e) (some x e)

  -- The conditions of the summary on a record are those of its steps.
  pub record_are : (r : RunRecord Op) → IsOfStyle style r → AreSteps (record_asks style O place B r) (expand place style f c r)
  record_are = by_record style has (λ r. AreSteps (record_asks style O place B r) (expand place style f c r))
      (λ t p w. (refl, tt))
      (λ t id op. open_are t (App t id op) (λ l. op_steps place style f c.shared l t id op) (λ x. op_asks O place (summary_mode style B.kinds x (place op)) B t id op x) (λ x e. ops_are t x e id op))
      (λ t. open_are t (Cmt t) (λ l. commit_steps style l t) (commit_asks style O place B t) (λ x e. commits_are t x e style has))
      (λ t. open_are t (Quit t) (λ l. back t 0 l ++ Quit t ∷ []) (λ x. safe (suc (back_count place B x)))
      (λ x e. count_are (back t 0 x.local ++ Quit t ∷ []) (suc (back_count place B (open_summary place f x))) (counts.abort_count O place part tells style has f c b t x e)))
      (λ t. open_are t (Note t) (λ l. Note t ∷ back t 0 l) (λ x. safe (suc (back_count place B x)))
      (λ x e. count_are (Note t ∷ back t 0 x.local) (suc (back_count place B (open_summary place f x))) (ap suc (counts.all_back O place part tells style has f c b t x e))))
      (λ t o. open_are t (Note t) (λ l. Note t ∷ refresh place t o c.shared l) (λ x. safe 1 ++ pull_asks O place B t x o [] (summary_missing place o B x)) (λ x e. (tt, refresh_are t x e o)))
      (λ t. xbegin_are t (tx t c.opened) refl)
      (λ t. open_are t (Note t) (λ l. Note t ∷ pushall t l) (λ x. safe 1 ++ publish_asks O place B t x [] (unpushed x.own)) (λ x e. (tt, pushes_are t x e)))
      (λ t. open_are t (Note t) (λ l. Note t ∷ back t (mark_of (f.section t)) l) (λ x. safe (suc (section_count place B x)))
      (λ x e. count_are (Note t ∷ back t (mark_of (f.section t)) x.local) (suc (section_count place B (open_summary place f x)))
      (ap suc (counts.since O place part tells style has f c b t x e ∙ ap (λ (u : Name). length (taken_out t (drop (mark_of (f.section u)) x.local))) (found_tx t c.opened x e).1))))
    where
      xbegin_are : (t : Name) (w : Option (Tx Op)) → tx t c.opened ≡ w → AreSteps (open_asks (open_named t B.opened) (Note t) (λ x. safe 1)) (Note t ∷ [])
      xbegin_are t None e = subst (λ (w : Option (OpenSummary Op)). AreSteps (open_asks w (Note t) (λ x. safe 1)) (Note t ∷ [])) (sym (open_named_is place f t c.opened ∙ ap (to_open place f) e)) (refl, tt)
      xbegin_are t (Some x) e = subst (λ (w : Option (OpenSummary Op)). AreSteps (open_asks w (Note t) (λ x. safe 1)) (Note t ∷ [])) (sym (open_named_is place f t c.opened ∙ ap (to_open place f) e)) (tt, tt)
