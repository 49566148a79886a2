-- What the search through the steps of an op record returns, by the summary that a Quick keeps.
use Rattle.std.specs.Prelude.{◌≡◌, ◌↔◌, ◌+◌, ℕ, List, [], ◌∷◌, ◌++◌, length, map, option_map, reverse, Option, None, Some}
use Rattle.std.proofs.Common.{refl, sym, ap, subst, ◌∙◌, append_assoc, arith}
use Rattle.pp_core.specs.declared.entry.Item.{Item}
use Rattle.pp_core.specs.declared.step.Rule.TheVariants as rules
use Rattle.pp_model.specs.Body.{Begins}
use Rattle.pp_model.specs.Config.{App, LocalEntry, Push, Pushed, SharedEntry, Unpushed, item, shared_ops}
use Rattle.pp_model.specs.Lists.{In}
use Rattle.pp_model.specs.Names.{Name}
use Rattle.pp_model.specs.Object as model
use Rattle.pp_model.specs.Object.{ops}
use Rattle.pp_model.specs.Rules.{FirstFalse, calls}
use Rattle.pp_kind.specs.Object.{IsAllowed, Object, rules_of}
use Rattle.pp_records.specs.Records as records
use Rattle.pp_machine.specs.declared.detail.Detail.{Detail}
use Rattle.pp_machine.specs.declared.detail.Detail.TheVariants.{Nothing}
use Rattle.pp_machine.specs.Evidence.{first_swap, gives_behind}
use Rattle.pp_laws_evidence.specs.Details as details
use Rattle.pp_laws_evidence.specs.Details.{uncommitted_others}
use Rattle.pp_laws_summary.specs.Failures as asks
use Rattle.pp_laws_summary.specs.Failures.{Asked, asked, op_asks, pull_asks}
use Rattle.pp_laws_summary.specs.Summary.{OpenSummary, Summary, open_named, summary_missing, summary_view}
use Rattle.pp_laws_summary.proofs.Asks.{Alike}
use Rattle.pp_summary.specs.Boosted.{PlacesSwap}
use Rattle.pp_summary.specs.Shown.{KeepsQuick, Kept, open_in}
use Rattle.pp_summary.specs.declared.parts.OpenTx.{OpenTx}
use Rattle.pp_violations.specs.Asks.{AllTrue, Breaks, Fails, Finds, Judges}
use Rattle.pp_violations.specs.Searches.{ArePulled, FailsPull, SearchesRecord, alone_violation, app_evidence, app_facts, push_evidence, push_facts, step_violation, view_items}
use Rattle.pp_violations.specs.Summarised.{kept_open, kept_summary}
use Rattle.pp_violations.specs.declared.violation.Broken.{Broken}
use Rattle.pp_violations.specs.declared.violation.Violation.{Violation}
use Rattle.pp_violations.proofs.Finds.{all_append, detail_left, false_left, judges_alike, rule_left}
use Rattle.pp_violations.proofs.Kept.{all_pushed, items_back, none_unpushed, view_is}
use Rattle.pp_violations.proofs.Pulls.{after_pulls, pulls_false, pulls_rule, pulls_shown, pulls_true, rule_after_pulls, shown_after_pulls}
use Rattle.pp_violations.proofs.Records.{named, none_there, one_there}

module _ {Shape State Op Undo : Type 0} (o : Object Shape State Op Undo) (place : Op → ℕ) (v : Kept Shape Op) (apart : (shape : Shape) → PlacesSwap (rules_of o shape) place) (h : KeepsQuick o place v) (t : Name) (id : ℕ) (op : Op) where
  abbrev O : model.Object Op State
  O = rules_of o v.shape

  abbrev B : Summary Op
  B = kept_summary v

  -- For a transaction that is not open, the search returns its single step.
  pub op_absent : open_in t v.slots.entries ≡ None → (r : Violation Op) → r ≡ alone_violation rules.App → SearchesRecord o place v.shape v (records.Op t id op) (Some r)
  op_absent e r is = subst (λ (z : Violation Op). SearchesRecord o place v.shape v (records.Op t id op) (Some z)) (sym is)
      (none_there (open_named t B.opened) (App t id op) (λ x. op_asks O place None B t id op x) (λ x. details.op_details o v.shape place None B t id op x) (named o place v apart h t None e) rules.App refl)

  module _ (it : OpenTx (List (Item Op))) (found : open_in t v.slots.entries ≡ Some it) where
    abbrev x : OpenSummary Op
    x = kept_open t it

    abbrev q : ℕ
    q = place op

    abbrev M : List (SharedEntry Op)
    M = summary_missing place (place op) B x

    abbrev view : List Op
    view = summary_view place (place op) v.committed x

    -- The steps, and the evidence of their criteria.
    abbrev Pulls : List (Asked Op)
    Pulls = pull_asks O place B t x q [] M

    abbrev Last : List (Asked Op)
    Last = asked (App t id op) (asks.app_facts O place B id op x M) ∷ asked (Push t id) (asks.push_facts O place B op x) ∷ []

    abbrev Shown : List (List (Detail Op))
    Shown = details.pull_details o v.shape place B x q [] M

    abbrev LastShown : List (List (Detail Op))
    LastShown = details.app_detail o v.shape place B id op x M ∷ details.push_detail o v.shape place B t id op x ∷ []

    searched : (r : Option (Violation Op)) → Finds (Pulls ++ Last) (Shown ++ LastShown) r → SearchesRecord o place v.shape v (records.Op t id op) r
    searched r f = one_there (open_named t B.opened) (App t id op) (λ y. op_asks O place None B t id op y) (λ y. details.op_details o v.shape place None B t id op y) x (named o place v apart h t (Some it) found) r f

    module _ (M_at : (g : SharedEntry Op) → In g M → place g.op ≡ q) where
      -- If a PULL is the first that violates a criterion, it is the violation of the record.
      pub op_pull : (missing : List (SharedEntry Op)) → missing ≡ M → (r : Violation Op) → FailsPull o place v.shape (ops (view_items place q v it)) it.own missing r → SearchesRecord o place v.shape v (records.Op t id op) (Some r)
      op_pull missing same r f = searched (Some r) (by (subst (λ (w : List Op). FailsPull o place v.shape w it.own M r) (view_is t place q v it) (subst (λ (w : List (SharedEntry Op)). FailsPull o place v.shape (ops (view_items place q v it)) it.own w r) same f)))
        where
          by : FailsPull o place v.shape view it.own M r → Fails (Pulls ++ Last) (Shown ++ LastShown) r
          by k =
              record {
                number = k.breaks.number;
                is_false = false_left Pulls Last r.offset k.breaks.number (pulls_false o place v.shape B t x q it.own Pushed refl [] M r.offset k.breaks.number k.entry M_at k.there k.pulled k.breaks.is_false);
                rule = rule_left Pulls Last r.offset r.rule (pulls_rule o place v.shape B t x q it.own Pushed refl [] M r.offset k.entry r.rule k.rule k.there);
                criterion = k.breaks.criterion;
                detail = detail_left Shown LastShown r.offset k.breaks.number r.detail (_, pulls_shown o place v.shape B t x q it.own Pushed refl [] M r.offset k.entry k.there, k.breaks.detail);
              }

      -- The APP after all PULLs has the same criteria in the search and in the summary.
      app_alike : Alike (app_facts o place v.shape (reverse v.ids) id op it.walk.body it.own (view ++ shared_ops M)) (asks.app_facts O place B id op x M)
      app_alike =
          let same : Unit {0} ↔ Unit {0} = ((λ z. tt), (λ z. tt)) in
          (same, (((λ z. z), (λ z. z)), (begins, (allowed, tt))))
        where
          begins : Begins it.walk.body (calls O it.own ++ O.call op ∷ []) ↔ Begins x.body (calls O (map item x.own) ++ O.call op ∷ [])
          begins = (
            (λ z. subst (λ (w : List (Item Op)). Begins it.walk.body (calls O w ++ O.call op ∷ [])) (sym (items_back t it.own)) z),
            (λ z. subst (λ (w : List (Item Op)). Begins it.walk.body (calls O w ++ O.call op ∷ [])) (items_back t it.own) z),
          )

          allowed : IsAllowed o v.shape ((view ++ shared_ops M) ++ op ∷ []) ↔ model.Allowed O (view ++ (shared_ops M ++ op ∷ []))
          allowed = (
            (λ z. subst (λ (w : List Op). IsAllowed o v.shape w) (append_assoc view (shared_ops M) (op ∷ [])) z),
            (λ z. subst (λ (w : List Op). IsAllowed o v.shape w) (sym (append_assoc view (shared_ops M) (op ∷ []))) z),
          )

      -- The PUSH has the same criteria in the search and in the summary, since the own entries are pushed.
      push_alike : Alike (push_facts o place v.shape t op v.shared.1) (asks.push_facts O place B op x)
      push_alike =
          let same : Unit {0} ↔ Unit {0} = ((λ z. tt), (λ z. tt)) in
          (same, (same, (((λ z a i e m. absurd (let w : Unpushed ≡ _ = sym m ∙ all_pushed t it.own a i in cc)), (λ z. tt)), (((λ z. z), (λ z. z)), (((λ z. z), (λ z. z)), tt)))))

      push_shows : push_evidence o place v.shape t id op v.shared.1 ≡ details.push_detail o v.shape place B t id op x
      push_shows = ap (λ (w : List (LocalEntry Op)). Nothing ∷ Nothing ∷ first_swap (λ a. a.id) (λ a. o.refuting op a.op) w
          ∷ first_swap (λ u. u.id) (λ u. o.refuting u.op op) (uncommitted_others t v.shared.1) ∷ gives_behind o v.shape id (shared_ops v.shared.1) op ∷ []) (sym (none_unpushed t it.own))

      module _ (missing : List (SharedEntry Op)) (same : missing ≡ M) (pulled : ArePulled o place v.shape (ops (view_items place q v it)) it.own missing (length missing)) where
        all_pulls : AllTrue Pulls
        all_pulls = pulls_true o place v.shape B t x q it.own Pushed refl [] M M_at
            (subst (λ (w : List Op). ArePulled o place v.shape w it.own M (length M)) (view_is t place q v it) (subst (λ (w : List (SharedEntry Op)). ArePulled o place v.shape (ops (view_items place q v it)) it.own w (length w)) same pulled))

        -- What is judged of the APP in the search is judged of it in the summary.
        app_judged : (j : Option (Broken Op)) → Judges (app_facts o place v.shape (reverse v.ids) id op it.walk.body it.own (ops (view_items place q v it) ++ shared_ops missing)) (app_evidence o place v.shape id op (ops (view_items place q v it) ++ shared_ops missing)) j →
            Judges (asks.app_facts O place B id op x M) (details.app_detail o v.shape place B id op x M) j
        app_judged j k = judges_alike (app_facts o place v.shape (reverse v.ids) id op it.walk.body it.own (view ++ shared_ops M)) (asks.app_facts O place B id op x M) app_alike
            (app_evidence o place v.shape id op (view ++ shared_ops M)) (details.app_detail o v.shape place B id op x M) refl j
            (subst (λ (w : List Op). Judges (app_facts o place v.shape (reverse v.ids) id op it.walk.body it.own w) (app_evidence o place v.shape id op w) j)
            (ap (λ (w : List Op). w ++ shared_ops missing) (view_is t place q v it) ∙ ap (λ (w : List (SharedEntry Op)). view ++ shared_ops w) same) k)

        len_is : length missing ≡ length M
        len_is = ap (λ (w : List (SharedEntry Op)). length w) same

        -- If all PULLs meet their criteria and the APP does not, the APP is the violation of the record.
        pub op_app : (b : Broken Op) → Breaks (app_facts o place v.shape (reverse v.ids) id op it.walk.body it.own (ops (view_items place q v it) ++ shared_ops missing)) (app_evidence o place v.shape id op (ops (view_items place q v it) ++ shared_ops missing)) b →
            (n : ℕ) → n ≡ length missing → (r : Violation Op) → r ≡ step_violation n rules.App b → SearchesRecord o place v.shape v (records.Op t id op) (Some r)
        op_app b k n m r is =
            let c : Breaks (asks.app_facts O place B id op x M) (details.app_detail o v.shape place B id op x M) b = app_judged (Some b) k in
            let e : n ≡ length M + 0 = omega (arith, len_is) in
            subst (λ (z : Violation Op). SearchesRecord o place v.shape v (records.Op t id op) (Some z)) (sym is)
            (searched (Some (step_violation n rules.App b)) (record {
              number = c.number;
              is_false = after_pulls o place v.shape B t x q it.own Pushed refl [] M Last 0 c.number n all_pulls e c.is_false;
              rule = rule_after_pulls o place v.shape B t x q it.own Pushed refl [] M Last 0 n rules.App e refl;
              criterion = c.criterion;
              detail = (details.app_detail o v.shape place B id op x M, shown_after_pulls o place v.shape B t x q it.own Pushed refl [] M LastShown 0 n (details.app_detail o v.shape place B id op x M) e refl, c.detail);
            }))

        -- The PUSH, after an APP that meets its criteria.
        module _ (fine : FirstFalse (app_facts o place v.shape (reverse v.ids) id op it.walk.body it.own (ops (view_items place q v it) ++ shared_ops missing)) 0) where
          app_true : FirstFalse (asks.app_facts O place B id op x M) 0
          app_true = app_judged None fine

          push_judged : (j : Option (Broken Op)) → Judges (push_facts o place v.shape t op v.shared.1) (push_evidence o place v.shape t id op v.shared.1) j → Judges (asks.push_facts O place B op x) (details.push_detail o v.shape place B t id op x) j
          push_judged j k = judges_alike (push_facts o place v.shape t op v.shared.1) (asks.push_facts O place B op x) push_alike
              (push_evidence o place v.shape t id op v.shared.1) (details.push_detail o v.shape place B t id op x) push_shows j k

          last_searched : (n : ℕ) → n ≡ length missing + 1 → (j : Option (Broken Op)) → Judges (asks.push_facts O place B op x) (details.push_detail o v.shape place B t id op x) j → SearchesRecord o place v.shape v (records.Op t id op) (option_map (step_violation n rules.Push) j)
          last_searched n m None k = searched None (all_append Pulls Last all_pulls (app_true, (k, tt)))
          last_searched n m (Some b) k =
              let e : n ≡ length M + 1 = omega (arith, len_is) in
              searched (Some (step_violation n rules.Push b)) (record {
                number = k.number;
                is_false = after_pulls o place v.shape B t x q it.own Pushed refl [] M Last 1 k.number n all_pulls e (app_true, k.is_false);
                rule = rule_after_pulls o place v.shape B t x q it.own Pushed refl [] M Last 1 n rules.Push e refl;
                criterion = k.criterion;
                detail = (details.push_detail o v.shape place B t id op x, shown_after_pulls o place v.shape B t x q it.own Pushed refl [] M LastShown 1 n (details.push_detail o v.shape place B t id op x) e refl, k.detail);
              })

          -- If the PULLs and the APP meet their criteria, the record has the violation of the PUSH, or none.
          pub op_push : (n : ℕ) → n ≡ length missing + 1 → (j : Option (Broken Op)) → Judges (push_facts o place v.shape t op v.shared.1) (push_evidence o place v.shape t id op v.shared.1) j → (r : Option (Violation Op)) → r ≡ option_map (step_violation n rules.Push) j →
              SearchesRecord o place v.shape v (records.Op t id op) r
          op_push n m j k r is = subst (λ (z : Option (Violation Op)). SearchesRecord o place v.shape v (records.Op t id op) z) (sym is) (last_searched n m j (push_judged j k))
