-- What the search through the steps of a commit answers, by the summary.
use Rattle.std.proofs.Common.{◌≡◌, ◌↔◌, ◌≤◌, ◌+◌, ℕ, Bool, false, true, List, [], ◌∷◌, ◌++◌, length, map, take, Option, None, Some}
use Rattle.std.proofs.Common.{refl, sym, ap, subst, ◌∙◌, append_assoc, append-nil, arith}
use Rattle.pp_body.specs.Walks.{TellsWord}
use Rattle.pp_core.specs.declared.call.Kind.{Kind}
use Rattle.pp_core.specs.declared.call.Style.TheVariants.{Optimistic}
use Rattle.pp_core.specs.declared.entry.Item.{Item}
use Rattle.pp_core.specs.declared.step.Rule.TheVariants as rules
use Rattle.pp_model.specs.Body.{IsWord}
use Rattle.pp_model.specs.Config.{Cmt, LocalEntry, item, shared_ops}
use Rattle.pp_model.specs.Names.{Name}
use Rattle.pp_model.specs.Object as model
use Rattle.pp_model.specs.Object.{ops}
use Rattle.pp_model.specs.Rules.{calls}
use Rattle.pp_model.specs.Sound.{serial_items, serial_ops}
use Rattle.pp_model.proofs.Finding.{decided, decided_not}
use Rattle.pp_kind.specs.Object.{IsAllowed, IsLawful, IsPlaced, Object, rules_of, state_after}
use Rattle.pp_records.specs.Records as records
use Rattle.pp_machine.specs.declared.detail.Detail.{Detail}
use Rattle.pp_machine.specs.declared.detail.Detail.TheVariants.{Nothing}
use Rattle.pp_machine.specs.Evidence.{gives_behind}
use Rattle.pp_laws_evidence.specs.Details.{cmt_detail, commit_details, publish_details, record_details}
use Rattle.pp_laws_summary.specs.Failures.{Asked, asked, cmt_facts, commit_asks, publish_asks, record_asks}
use Rattle.pp_laws_summary.specs.Summary.{OpenSummary, open_named}
use Rattle.pp_summary.specs.Shown.{filled, open_in}
use Rattle.pp_summary.specs.declared.parts.OpenTx.{OpenTx}
use Rattle.pp_snapshots.specs.Shown.{Keeps, Kept, as_local, shared_done, shown, shown_tx}
use Rattle.pp_snapshots.proofs.Moving.{own_within}
use Rattle.pp_snapshots.proofs.OnClosing.{word_is}
use Rattle.pp_snapshots.proofs.StepCounts.{same_length, serial_ranged}
use Rattle.pp_snapshots.proofs.Takens.{serial_allowed}
use Rattle.pp_snapshots.proofs.Views.{committed_all, items_local, ops_items, ops_local, shared_serial, unpushed_local}
use Rattle.pp_violations.specs.Asks.{AllTrue, Fails, Finds}
use Rattle.pp_violations.specs.Searches.{IsStateOf, alone_violation, step_violation}
use Rattle.pp_violations.specs.declared.violation.Broken.{Broken}
use Rattle.pp_violations.specs.declared.violation.Violation.{Violation}
use Rattle.pp_violations.proofs.Finds.{all_append}
use Rattle.pp_violations.proofs.Records.{none_there, one_there}
use Rattle.pp_violations.proofs.Searching.{begin_state}
use Rattle.pp_conflicts.specs.Searches.{ArePushed, FailsPush, SearchesShown}
use Rattle.pp_conflicts.proofs.Pulling.{fails_left}
use Rattle.pp_conflicts.proofs.Pushes.{after_pushes, pushes_false, pushes_rule, pushes_shown, pushes_true, rule_after_pushes, shown_after_pushes}
use Rattle.pp_conflicts.proofs.Records.{named}

module _ {Shape State Op Undo : Type 0} (o : Object Shape State Op Undo) (place : Op → ℕ) (SameAt : ℕ → State → State → Type 0) (laws : IsLawful o) (places : IsPlaced o place SameAt) (v : Kept Shape State Op Undo) (h : Keeps o place v) (t : Name) where
  abbrev O : model.Object Op State
  O = rules_of o v.shape

  abbrev Open : Option (OpenSummary Op)
  Open = open_named t (filled shown_tx v.slots.entries)

  -- With the own operations of an open transaction they are at most 256 more than records were taken.
  pub serial_room : (x : OpenTx (List (Item Op))) → open_in t v.slots.entries ≡ Some x → length (serial_ops v.committed) + length x.own ≤ v.count + 256
  serial_room x found =
      let same = same_length place (length h.past.log) h.past.log (serial_ops v.committed) (omega arith) (λ q. h.past.at_places q ∙ sym (ops_items place q (serial_items v.committed))) in
      let within = own_within o place SameAt laws places v h t x found in
      let size = h.past.size in
      let few = h.few in
      omega (arith, same, within, size, few)

  -- The state after the serial run is the one after its operations.
  pub serial_begins : (s : State) → s ≡ state_after o v.shape (serial_ops v.committed) → IsStateOf o place v.shape s (serial_ops v.committed)
  serial_begins s is = subst (λ (w : List Op). IsStateOf o place v.shape s w) (append-nil (serial_ops v.committed))
      (begin_state o place laws v.shape (serial_ops v.committed) (serial_allowed o place SameAt laws places v h) (serial_ranged o place SameAt laws places v h) s is [])

  -- A commit of a transaction that is not open.
  pub commit_absent : open_in t v.slots.entries ≡ None → (r : Violation Op) → r ≡ alone_violation rules.Cmt → SearchesShown o place v (records.Commit t) (Some r)
  commit_absent none r is = subst (λ (z : Violation Op). SearchesShown o place v (records.Commit t) (Some z)) (sym is)
      (λ ks. none_there Open (Cmt t) (commit_asks Optimistic O place (shown ks v) t) (commit_details o v.shape place Optimistic (shown ks v) t) (named o place SameAt laws places v h t None none) rules.Cmt refl)

  module _ (it : OpenTx (List (Item Op))) (found : open_in t v.slots.entries ≡ Some it) where
    abbrev x : OpenSummary Op
    x = shown_tx t it

    abbrev Pushes : List Kind → List (Asked Op)
    Pushes ks = publish_asks O place (shown ks v) t x [] (map (as_local t) it.own)

    abbrev Last : List (Asked Op)
    Last = asked (Cmt t) (cmt_facts Optimistic O x) ∷ []

    abbrev Shown : List Kind → List (List (Detail Op))
    Shown ks = publish_details o v.shape place (shown ks v) t [] (map (as_local t) it.own)

    abbrev LastShown : List (List (Detail Op))
    LastShown = cmt_detail x ∷ []

    abbrev SerialOps : List Op
    SerialOps = serial_ops v.committed

    searched : (ks : List Kind) (r : Option (Violation Op)) → Finds (Pushes ks ++ Last) (Shown ks ++ LastShown) r →
        Finds (record_asks Optimistic O place (shown ks v) (records.Commit t)) (record_details o v.shape place Optimistic (shown ks v) (records.Commit t)) r
    searched ks r f = one_there Open (Cmt t) (commit_asks Optimistic O place (shown ks v) t) (commit_details o v.shape place Optimistic (shown ks v) t) x (named o place SameAt laws places v h t (Some it) found) r
        (subst (λ (w : List (LocalEntry Op)). Finds (publish_asks O place (shown ks v) t x [] w ++ asked (Cmt t) (cmt_facts Optimistic O x) ∷ []) (publish_details o v.shape place (shown ks v) t [] w ++ cmt_detail x ∷ []) r) (sym (unpushed_local t it.own)) f)

    -- The shared log is that of the serial run.
    serial : (k : List Op) → serial_ops v.committed ++ k ≡ shared_ops (shared_done v.committed) ++ k
    serial k = ap (λ (w : List Op). w ++ k) (sym (shared_serial v.committed))

    -- A PUSH that is not allowed is the first step that is false.
    pub commit_push : (r : Violation Op) → FailsPush o v.shape (serial_ops v.committed) it.own r → SearchesShown o place v (records.Commit t) (Some r)
    commit_push r f ks = searched ks (Some r) (fails_left (Pushes ks) Last (Shown ks) LastShown r fails)
      where
        first : List Op
        first = ops (take r.offset it.own)

        fails : Fails (publish_asks O place (shown ks v) t x [] (map (as_local t) it.own)) (publish_details o v.shape place (shown ks v) t [] (map (as_local t) it.own)) r
        fails =
            record {
              number = 4;
              is_false = pushes_false o place v.shape (shown ks v) t x (committed_all v.committed) [] it.own r.offset f.item f.there
                  (subst (λ (w : List Op). IsAllowed o v.shape w) (serial (ops (take r.offset it.own))) f.pushed)
                  (λ a. f.refused (subst (λ (w : List Op). IsAllowed o v.shape w) (sym (append_assoc (serial_ops v.committed) (ops (take r.offset it.own)) (f.item.op ∷ []) ∙ serial (ops (take r.offset it.own) ++ f.item.op ∷ []))) a));
              rule = pushes_rule o place v.shape (shown ks v) t x (committed_all v.committed) [] it.own r.offset f.item r.rule f.rule f.there;
              criterion = f.criterion;
              detail = (
                _,
                pushes_shown o place v.shape (shown ks v) t x (committed_all v.committed) [] it.own r.offset f.item f.there,
                f.detail ∙ ap (λ (w : List Op). gives_behind o v.shape f.item.id w f.item.op) (serial (ops (take r.offset it.own)) ∙ ap (λ (w : List Op). shared_ops (shared_done v.committed) ++ w) (sym (ops_local t (take r.offset it.own)))),
              );
            }

    -- the CMT, after PUSHes that are allowed
    module _ (pushed : ArePushed o v.shape (serial_ops v.committed) it.own) where
      all : (ks : List Kind) → AllTrue (publish_asks O place (shown ks v) t x [] (map (as_local t) it.own))
      all ks = pushes_true o place v.shape (shown ks v) t x (committed_all v.committed) [] it.own (subst (λ (w : List Op). IsAllowed o v.shape w) (serial (ops it.own)) pushed)

      is_word : IsWord it.walk.body (calls O it.own) ↔ IsWord x.body (calls O (map item x.own))
      is_word = (
        (λ w. subst (λ (z : List (Item Op)). IsWord it.walk.body (calls O z)) (sym (items_local t it.own)) w),
        (λ w. subst (λ (z : List (Item Op)). IsWord it.walk.body (calls O z)) (items_local t it.own) w),
      )

      -- If the calls are no word of the body, criterion 2 is violated.
      pub commit_broken : (answer : Bool) → TellsWord it.walk answer → answer ≡ false → (b : Broken Op) → b ≡ record { criterion = 2; detail = Nothing } → (n : ℕ) → n ≡ length it.own → (r : Violation Op) → r ≡ step_violation n rules.Cmt b →
          SearchesShown o place v (records.Commit t) (Some r)
      commit_broken answer w e b bis n m r is = subst (λ (z : Violation Op). SearchesShown o place v (records.Commit t) (Some z)) (sym (is ∙ ap (λ (z : Broken Op). step_violation n rules.Cmt z) bis))
          (λ ks. searched ks (Some (step_violation n rules.Cmt (record { criterion = 2; detail = Nothing })))
          (let k : n ≡ length it.own + 0 = omega (arith, m) in
          record {
            number = 1;
            is_false = after_pushes o place v.shape (shown ks v) t x (committed_all v.committed) [] it.own Last 0 1 n (all ks) k
                (tt, λ z. decided_not answer _ (word_is o place SameAt laws places v h t it found answer w) e (is_word.1 z));
            rule = rule_after_pushes o place v.shape (shown ks v) t x (committed_all v.committed) [] it.own Last 0 n rules.Cmt k refl;
            criterion = refl;
            detail = (cmt_detail x, shown_after_pushes o place v.shape (shown ks v) t x (committed_all v.committed) [] it.own LastShown 0 n (cmt_detail x) k refl, refl);
          }))

      -- If they are one, no criterion is.
      pub commit_fine : (answer : Bool) → TellsWord it.walk answer → answer ≡ true → SearchesShown o place v (records.Commit t) None
      commit_fine answer w e ks = searched ks None (all_append (Pushes ks) Last (all ks)
          ((tt, (is_word.0 (decided answer _ (word_is o place SameAt laws places v h t it found answer w) e), (tt, (tt, refl)))), tt))
