-- What the searches through the steps of a begin, an abort, a retry, an operation and a refresh answer, by the summary.
use Rattle.std.proofs.Common.{◌≡◌, ◌↔◌, ◌+◌, ℕ, suc, List, [], ◌∷◌, ◌++◌, length, map, option_map, reverse, Option, None, Some}
use Rattle.std.proofs.Common.{refl, sym, ap, subst, ◌∙◌, append_assoc, arith}
use Rattle.pp_core.specs.declared.call.Kind.{Kind}
use Rattle.pp_core.specs.declared.call.Style.TheVariants.{Optimistic}
use Rattle.pp_core.specs.declared.entry.Item.{Item}
use Rattle.pp_core.specs.declared.step.Rule.TheVariants as rules
use Rattle.pp_core.specs.Trees.{Tree}
use Rattle.pp_model.specs.Body.{Begins}
use Rattle.pp_model.specs.Config.{App, Begin, Note, Quit, SharedEntry, Step, Unpushed, item, shared_ops}
use Rattle.pp_model.specs.Lists.{In}
use Rattle.pp_model.specs.Names.{Name}
use Rattle.pp_model.specs.Object as model
use Rattle.pp_model.specs.Object.{ops}
use Rattle.pp_model.specs.Rules.{calls}
use Rattle.pp_kind.specs.Object.{IsAllowed, IsLawful, IsPlaced, Object, rules_of}
use Rattle.pp_records.specs.Records as records
use Rattle.pp_machine.specs.declared.detail.Detail.{Detail}
use Rattle.pp_machine.specs.declared.detail.Detail.TheVariants.{Nothing}
use Rattle.pp_laws_evidence.specs.Details as details
use Rattle.pp_laws_evidence.specs.Details.{none_of}
use Rattle.pp_laws_summary.specs.Counts.{back_count}
use Rattle.pp_laws_summary.specs.Failures as asks
use Rattle.pp_laws_summary.specs.Failures.{Asked, asked, pull_asks, safe}
use Rattle.pp_laws_summary.specs.Summary.{OpenSummary, open_named, summary_missing, summary_pulled, summary_view}
use Rattle.pp_laws_summary.proofs.Asks.{Alike}
use Rattle.pp_summary.specs.Shown.{filled, open_in}
use Rattle.pp_summary.specs.declared.parts.OpenTx.{OpenTx}
use Rattle.pp_snapshots.specs.Shown.{Keeps, Kept, shown, shown_tx}
use Rattle.pp_snapshots.proofs.Moving.{open_is}
use Rattle.pp_snapshots.proofs.Views.{items_local}
use Rattle.pp_violations.specs.Asks.{AllTrue, Finds, Judges}
use Rattle.pp_violations.specs.Searches.{ArePulled, FailsPull, alone_violation, app_evidence, app_facts, begin_facts, step_violation}
use Rattle.pp_violations.specs.declared.violation.Broken.{Broken}
use Rattle.pp_violations.specs.declared.violation.Violation.{Violation}
use Rattle.pp_violations.proofs.Finds.{all_append, all_safe, judges_alike, one_step}
use Rattle.pp_violations.proofs.Pulls.{after_pulls, rule_after_pulls, shown_after_pulls}
use Rattle.pp_violations.proofs.Records.{none_there, one_there}
use Rattle.pp_conflicts.specs.Searches.{SearchesShown, at_commit, view_items}
use Rattle.pp_conflicts.proofs.Pulling.{fails_after, fails_left, pulls_fail, pulls_pass}
use Rattle.pp_conflicts.proofs.Seen.{view_ops}

module _ {Shape State Op Undo : Type 0} (o : Object Shape State Op Undo) (place : Op → ℕ) (SameAt : ℕ → State → State → Type 0) (laws : IsLawful o) (places : IsPlaced o place SameAt) (v : Kept Shape State Op Undo) (h : Keeps o place v) where
  abbrev O : model.Object Op State
  O = rules_of o v.shape

  -- A begin whose criteria are judged.
  pub begin_searched : (step : Step Op) (t p : Name) (b : Option Tree) → step ≡ Begin t p b → (j : Option (Broken Op)) → Judges (begin_facts (shown [] v) t p) (Nothing ∷ Nothing ∷ []) j →
      (x : Option (Violation Op)) → x ≡ option_map (step_violation 0 rules.Begin) j → SearchesShown o place v (records.Plain step) x
  begin_searched step t p b e j k x is =
      subst (λ (z : Option (Violation Op)). SearchesShown o place v (records.Plain step) z) (sym is)
      (subst (λ (s : Step Op). SearchesShown o place v (records.Plain s) (option_map (step_violation 0 rules.Begin) j)) (sym e)
      (λ ks. one_step (Begin t p b) (begin_facts (shown ks v) t p) (Nothing ∷ Nothing ∷ []) rules.Begin refl j k))

  module _ (t : Name) where
    -- The open transaction of the name, in the summary.
    pub named : (w : Option (OpenTx (List (Item Op)))) → open_in t v.slots.entries ≡ w → open_named t (filled shown_tx v.slots.entries) ≡ option_map (shown_tx t) w
    named w e = open_is o place SameAt laws places v h t ∙ ap (option_map (shown_tx t)) e

    abbrev Open : Option (OpenSummary Op)
    Open = open_named t (filled shown_tx v.slots.entries)

    module _ (none : open_in t v.slots.entries ≡ None) where
      -- An abort of a transaction that is not open.
      pub abort_absent : (r : Violation Op) → r ≡ alone_violation rules.Quit → SearchesShown o place v (records.Abort t) (Some r)
      abort_absent r is = subst (λ (z : Violation Op). SearchesShown o place v (records.Abort t) (Some z)) (sym is)
          (λ ks. none_there Open (Quit t) (λ x. safe (suc (back_count place (shown ks v) x))) (λ x. none_of (suc (back_count place (shown ks v) x))) (named None none) rules.Quit refl)

      -- The same of a retry.
      pub retry_absent : (r : Violation Op) → r ≡ alone_violation rules.Note → SearchesShown o place v (records.Retry t) (Some r)
      retry_absent r is = subst (λ (z : Violation Op). SearchesShown o place v (records.Retry t) (Some z)) (sym is)
          (λ ks. none_there Open (Note t) (λ x. safe (suc (back_count place (shown ks v) x))) (λ x. none_of (suc (back_count place (shown ks v) x))) (named None none) rules.Note refl)

      -- The same of a refresh.
      pub refresh_absent : (q : ℕ) (r : Violation Op) → r ≡ alone_violation rules.Note → SearchesShown o place v (records.Refresh t q) (Some r)
      refresh_absent q r is = subst (λ (z : Violation Op). SearchesShown o place v (records.Refresh t q) (Some z)) (sym is)
          (λ ks. none_there Open (Note t) (λ x. safe 1 ++ pull_asks O place (shown ks v) t x q [] (summary_missing place q (shown ks v) x))
          (λ x. none_of 1 ++ details.pull_details o v.shape place (shown ks v) x q [] (summary_missing place q (shown ks v) x)) (named None none) rules.Note refl)

      -- The same of an operation.
      pub op_absent : (id : ℕ) (op : Op) (r : Violation Op) → r ≡ alone_violation rules.App → SearchesShown o place v (records.Op t id op) (Some r)
      op_absent id op r is = subst (λ (z : Violation Op). SearchesShown o place v (records.Op t id op) (Some z)) (sym is)
          (λ ks. none_there Open (App t id op) (λ x. asks.op_asks O place at_commit (shown ks v) t id op x) (λ x. details.op_details o v.shape place at_commit (shown ks v) t id op x) (named None none) rules.App refl)

    module _ (it : OpenTx (List (Item Op))) (found : open_in t v.slots.entries ≡ Some it) where
      abbrev x : OpenSummary Op
      x = shown_tx t it

      -- What an abort takes back cannot fail.
      pub abort_safe : SearchesShown o place v (records.Abort t) None
      abort_safe ks = one_there Open (Quit t) (λ y. safe (suc (back_count place (shown ks v) y))) (λ y. none_of (suc (back_count place (shown ks v) y))) x (named (Some it) found) None (all_safe Op (suc (back_count place (shown ks v) x)))

      -- Nor can a retry.
      pub retry_safe : SearchesShown o place v (records.Retry t) None
      retry_safe ks = one_there Open (Note t) (λ y. safe (suc (back_count place (shown ks v) y))) (λ y. none_of (suc (back_count place (shown ks v) y))) x (named (Some it) found) None (all_safe Op (suc (back_count place (shown ks v) x)))

      -- a refresh
      module _ (q : ℕ) (missing : List (SharedEntry Op)) (same : (ks : List Kind) → missing ≡ summary_missing place q (shown ks v) (shown_tx t it)) (at : (g : SharedEntry Op) → In g missing → place g.op ≡ q) where
        refreshed : (ks : List Kind) (r : Option (Violation Op)) → Finds (safe 1 ++ pull_asks O place (shown ks v) t x q [] missing) (none_of 1 ++ details.pull_details o v.shape place (shown ks v) x q [] missing) r →
            Finds (asks.record_asks Optimistic O place (shown ks v) (records.Refresh t q)) (details.record_details o v.shape place Optimistic (shown ks v) (records.Refresh t q)) r
        refreshed ks r f = one_there Open (Note t) (λ y. safe 1 ++ pull_asks O place (shown ks v) t y q [] (summary_missing place q (shown ks v) y))
            (λ y. none_of 1 ++ details.pull_details o v.shape place (shown ks v) y q [] (summary_missing place q (shown ks v) y)) x (named (Some it) found) r
            (subst (λ (w : List (SharedEntry Op)). Finds (safe 1 ++ pull_asks O place (shown ks v) t x q [] w) (none_of 1 ++ details.pull_details o v.shape place (shown ks v) x q [] w) r) (same ks) f)

        -- A PULL of it is the first step that is false.
        pub refresh_pull : (r : Violation Op) → FailsPull o place v.shape (ops (view_items place q v it)) it.own missing r → (s : Violation Op) → s ≡ record r { offset = r.offset + 1 } → SearchesShown o place v (records.Refresh t q) (Some s)
        refresh_pull r f s is ks = refreshed ks (Some s) (fails_after (pull_asks O place (shown ks v) t x q [] missing) (details.pull_details o v.shape place (shown ks v) x q [] missing) r s is
            (pulls_fail o place v.shape (shown ks v) t x q it.own refl (ops (view_items place q v it)) (view_ops place q t v it) missing at r f))

        -- No step of it is false.
        pub refresh_fine : ArePulled o place v.shape (ops (view_items place q v it)) it.own missing (length missing) → SearchesShown o place v (records.Refresh t q) None
        refresh_fine p ks = refreshed ks None (refl, pulls_pass o place v.shape (shown ks v) t x q it.own refl (ops (view_items place q v it)) (view_ops place q t v it) missing at p)

      -- an operation
      module _ (id : ℕ) (op : Op) (pulled : List (SharedEntry Op)) (same : (ks : List Kind) → pulled ≡ summary_pulled place at_commit (place op) (shown ks v) (shown_tx t it)) (at : (g : SharedEntry Op) → In g pulled → place g.op ≡ place op) where
        abbrev q : ℕ
        q = place op

        abbrev view : List Op
        view = ops (view_items place (place op) v it)

        abbrev Pulls : List Kind → List (Asked Op)
        Pulls ks = pull_asks O place (shown ks v) t x q [] pulled

        abbrev Last : List Kind → List (Asked Op)
        Last ks = asked (App t id op) (asks.app_facts O place (shown ks v) id op x pulled) ∷ []

        abbrev Shown : List Kind → List (List (Detail Op))
        Shown ks = details.pull_details o v.shape place (shown ks v) x q [] pulled

        abbrev LastShown : List Kind → List (List (Detail Op))
        LastShown ks = details.app_detail o v.shape place (shown ks v) id op x pulled ∷ []

        searched : (ks : List Kind) (r : Option (Violation Op)) → Finds (Pulls ks ++ Last ks) (Shown ks ++ LastShown ks) r →
            Finds (asks.record_asks Optimistic O place (shown ks v) (records.Op t id op)) (details.record_details o v.shape place Optimistic (shown ks v) (records.Op t id op)) r
        searched ks r f = one_there Open (App t id op) (λ y. asks.op_asks O place at_commit (shown ks v) t id op y) (λ y. details.op_details o v.shape place at_commit (shown ks v) t id op y) x (named (Some it) found) r
            (subst (λ (w : List (SharedEntry Op)). Finds (pull_asks O place (shown ks v) t x q [] w ++ asked (App t id op) (asks.app_facts O place (shown ks v) id op x w) ∷ [])
            (details.pull_details o v.shape place (shown ks v) x q [] w ++ details.app_detail o v.shape place (shown ks v) id op x w ∷ []) r) (same ks) f)

        -- A PULL of it is the first step that is false.
        pub op_pull : (r : Violation Op) → FailsPull o place v.shape (ops (view_items place (place op) v it)) it.own pulled r → SearchesShown o place v (records.Op t id op) (Some r)
        op_pull r f ks = searched ks (Some r) (fails_left (Pulls ks) (Last ks) (Shown ks) (LastShown ks) r
            (pulls_fail o place v.shape (shown ks v) t x q it.own refl view (view_ops place q t v it) pulled at r f))

        -- the APP, after all PULLs
        app_alike : (ks : List Kind) → Alike (app_facts o place v.shape (reverse v.ids) id op it.walk.body it.own (view ++ shared_ops pulled)) (asks.app_facts O place (shown ks v) id op x pulled)
        app_alike ks =
            let unit : Unit {0} ↔ Unit {0} = ((λ z. tt), (λ z. tt)) in
            (unit, (((λ z. z), (λ z. z)), (begins, (allowed, tt))))
          where
            begins : Begins it.walk.body (calls O it.own ++ O.call op ∷ []) ↔ Begins x.body (calls O (map item x.own) ++ O.call op ∷ [])
            begins = (
              (λ z. subst (λ (w : List (Item Op)). Begins it.walk.body (calls O w ++ O.call op ∷ [])) (sym (items_local t it.own)) z),
              (λ z. subst (λ (w : List (Item Op)). Begins it.walk.body (calls O w ++ O.call op ∷ [])) (items_local t it.own) z),
            )

            whole : (view ++ shared_ops pulled) ++ op ∷ [] ≡ summary_view place (place op) v.committed x ++ (shared_ops pulled ++ op ∷ [])
            whole = append_assoc view (shared_ops pulled) (op ∷ []) ∙ ap (λ (w : List Op). w ++ (shared_ops pulled ++ op ∷ [])) (view_ops place (place op) t v it)

            allowed : IsAllowed o v.shape ((view ++ shared_ops pulled) ++ op ∷ []) ↔ model.Allowed O (summary_view place (place op) v.committed x ++ (shared_ops pulled ++ op ∷ []))
            allowed = ((λ z. subst (λ (w : List Op). IsAllowed o v.shape w) whole z), (λ z. subst (λ (w : List Op). IsAllowed o v.shape w) (sym whole) z))

        app_shows : (ks : List Kind) → app_evidence o place v.shape id op (view ++ shared_ops pulled) ≡ details.app_detail o v.shape place (shown ks v) id op x pulled
        app_shows ks = ap (λ (w : List Op). app_evidence o place v.shape id op (w ++ shared_ops pulled)) (view_ops place (place op) t v it)

        -- The APP is false, or no step is.
        pub op_app : ArePulled o place v.shape (ops (view_items place (place op) v it)) it.own pulled (length pulled) → (j : Option (Broken Op)) →
            Judges (app_facts o place v.shape (reverse v.ids) id op it.walk.body it.own (ops (view_items place (place op) v it) ++ shared_ops pulled)) (app_evidence o place v.shape id op (ops (view_items place (place op) v it) ++ shared_ops pulled)) j →
            (n : ℕ) → n ≡ length pulled → (r : Option (Violation Op)) → r ≡ option_map (step_violation n rules.App) j → SearchesShown o place v (records.Op t id op) r
        op_app p j k n m r is ks = subst (λ (z : Option (Violation Op)). Finds (asks.record_asks Optimistic O place (shown ks v) (records.Op t id op)) (details.record_details o v.shape place Optimistic (shown ks v) (records.Op t id op)) z) (sym is)
            (searched ks (option_map (step_violation n rules.App) j)
            (by j (judges_alike (app_facts o place v.shape (reverse v.ids) id op it.walk.body it.own (view ++ shared_ops pulled)) (asks.app_facts O place (shown ks v) id op x pulled) (app_alike ks)
            (app_evidence o place v.shape id op (view ++ shared_ops pulled)) (details.app_detail o v.shape place (shown ks v) id op x pulled) (app_shows ks) j k)))
          where
            all : AllTrue (Pulls ks)
            all = pulls_pass o place v.shape (shown ks v) t x q it.own refl view (view_ops place q t v it) pulled at p

            by : (j : Option (Broken Op)) → Judges (asks.app_facts O place (shown ks v) id op x pulled) (details.app_detail o v.shape place (shown ks v) id op x pulled) j → Finds (Pulls ks ++ Last ks) (Shown ks ++ LastShown ks) (option_map (step_violation n rules.App) j)
            by None c = all_append (Pulls ks) (Last ks) all (c, tt)
            by (Some b) c =
                let e : n ≡ length pulled + 0 = omega (arith, m) in
                record {
                  number = c.number;
                  is_false = after_pulls o place v.shape (shown ks v) t x q it.own Unpushed refl [] pulled (Last ks) 0 c.number n all e c.is_false;
                  rule = rule_after_pulls o place v.shape (shown ks v) t x q it.own Unpushed refl [] pulled (Last ks) 0 n rules.App e refl;
                  criterion = c.criterion;
                  detail = (details.app_detail o v.shape place (shown ks v) id op x pulled, shown_after_pulls o place v.shape (shown ks v) t x q it.own Unpushed refl [] pulled (LastShown ks) 0 n (details.app_detail o v.shape place (shown ks v) id op x pulled) e refl, c.detail);
                }
