-- What the searches through the steps of a record return, by the summary that a Quick keeps.
use Rattle.std.specs.Prelude.{◌≡◌, ◌↔◌, ℕ, Bool, true, false, List, [], ◌∷◌, map, option_map, suc, Option, None, Some}
use Rattle.std.proofs.Common.{refl, sym, ap, subst, ◌∙◌}
use Rattle.pp_body.specs.Walks.{TellsWord}
use Rattle.pp_core.specs.declared.call.Style.TheVariants.{Boosted}
use Rattle.pp_core.specs.declared.entry.Item.{Item}
use Rattle.pp_core.specs.declared.step.Rule.{Rule}
use Rattle.pp_core.specs.declared.step.Rule.TheVariants as rules
use Rattle.pp_core.specs.Steps.{rule_of}
use Rattle.pp_core.specs.Trees.{Tree}
use Rattle.pp_model.specs.Body.{IsWord}
use Rattle.pp_model.specs.Config.{Begin, Cmt, Note, Quit, Step, item}
use Rattle.pp_model.specs.Names.{Name}
use Rattle.pp_model.specs.Rules.{calls}
use Rattle.pp_kind.specs.Object.{Object, rules_of}
use Rattle.pp_records.specs.Records.{Abort, Commit, Plain, Retry}
use Rattle.pp_machine.specs.declared.detail.Detail.{Detail}
use Rattle.pp_machine.specs.declared.detail.Detail.TheVariants.{Nothing}
use Rattle.pp_laws_evidence.specs.Details.{cmt_detail, none_of, open_details}
use Rattle.pp_laws_summary.specs.Counts.{back_count}
use Rattle.pp_laws_summary.specs.Failures.{Asked, asked, cmt_facts, open_asks, safe}
use Rattle.pp_laws_summary.specs.Summary.{OpenSummary, Summary, open_named}
use Rattle.pp_summary.specs.Boosted.{PlacesSwap}
use Rattle.pp_summary.specs.Shown.{KeepsQuick, Kept, open_in}
use Rattle.pp_summary.specs.declared.parts.OpenTx.{OpenTx}
use Rattle.pp_model.proofs.Finding.{decided, decided_not}
use Rattle.pp_summary.proofs.Judging.{word_is}
use Rattle.pp_violations.specs.Asks.{Finds, Judges}
use Rattle.pp_violations.specs.Searches.{SearchesRecord, alone_violation, begin_facts, step_violation}
use Rattle.pp_violations.specs.Summarised.{kept_open, kept_summary}
use Rattle.pp_violations.specs.declared.violation.Broken.{Broken}
use Rattle.pp_violations.specs.declared.violation.Violation.{Violation}
use Rattle.pp_violations.proofs.Finds.{all_safe, one_alone, one_step}
use Rattle.pp_violations.proofs.Kept.{all_pushed, items_back}
use Rattle.pp_violations.proofs.Summarised.{kept_named}

-- The steps of a transaction that is open or not.
module _ {Op : Type 0} (w : Option (OpenSummary Op)) (s : Step Op) (f : OpenSummary Op → List (Asked Op)) (ds : OpenSummary Op → List (List (Detail Op))) where
  -- If the transaction is not open, its record has one step, which violates criterion 1.
  pub none_there : w ≡ None → (rule : Rule) → rule ≡ rule_of s → Finds (open_asks w s f) (open_details w ds) (Some (alone_violation rule))
  none_there e rule r = subst (λ (z : Option (OpenSummary Op)). Finds (open_asks z s f) (open_details z ds) (Some (alone_violation rule))) (sym e) (one_alone s rule r)

  -- If the transaction is open, the steps of its record are those of the open transaction.
  pub one_there : (x : OpenSummary Op) → w ≡ Some x → (r : Option (Violation Op)) → Finds (f x) (ds x) r → Finds (open_asks w s f) (open_details w ds) r
  one_there x e r h = subst (λ (z : Option (OpenSummary Op)). Finds (open_asks z s f) (open_details z ds) r) (sym e) h

module _ {Shape State Op Undo : Type 0} (o : Object Shape State Op Undo) (place : Op → ℕ) (v : Kept Shape Op) where
  abbrev B : Summary Op
  B = kept_summary v

  -- The search through a begin record returns the violation of its BEGIN, if it has one.
  pub begin_searched : (step : Step Op) (t p : Name) (b : Option Tree) → step ≡ Begin t p b → (j : Option (Broken Op)) → Judges (begin_facts B t p) (Nothing ∷ Nothing ∷ []) j →
      (x : Option (Violation Op)) → x ≡ option_map (step_violation 0 rules.Begin) j → SearchesRecord o place v.shape v (Plain step) x
  begin_searched step t p b e j h x is =
      subst (λ (z : Option (Violation Op)). SearchesRecord o place v.shape v (Plain step) z) (sym is)
      (subst (λ (s : Step Op). SearchesRecord o place v.shape v (Plain s) (option_map (step_violation 0 rules.Begin) j)) (sym e)
      (one_step (Begin t p b) (begin_facts B t p) (Nothing ∷ Nothing ∷ []) rules.Begin refl j h))

  module _ (apart : (shape : Shape) → PlacesSwap (rules_of o shape) place) (h : KeepsQuick o place v) (t : Name) where
    -- The open transaction of a name in the summary is that in its slot.
    pub named : (w : Option (OpenTx (List (Item Op)))) → open_in t v.slots.entries ≡ w → open_named t B.opened ≡ option_map (kept_open t) w
    named w e = kept_named o place apart v h t ∙ ap (option_map (kept_open t)) e

    -- For a transaction that is not open, the search through a commit record returns its CMT.
    pub commit_absent : open_in t v.slots.entries ≡ None → (r : Violation Op) → r ≡ alone_violation rules.Cmt → SearchesRecord o place v.shape v (Commit t) (Some r)
    commit_absent e r is = subst (λ (z : Violation Op). SearchesRecord o place v.shape v (Commit t) (Some z)) (sym is)
        (none_there (open_named t B.opened) (Cmt t) (λ x. asked (Cmt t) (cmt_facts Boosted (rules_of o v.shape) x) ∷ []) (λ x. cmt_detail x ∷ []) (named None e) rules.Cmt refl)

    -- For a transaction that is not open, the search through an abort record returns its single step.
    pub abort_absent : open_in t v.slots.entries ≡ None → (r : Violation Op) → r ≡ alone_violation rules.Quit → SearchesRecord o place v.shape v (Abort t) (Some r)
    abort_absent e r is = subst (λ (z : Violation Op). SearchesRecord o place v.shape v (Abort t) (Some z)) (sym is)
        (none_there (open_named t B.opened) (Quit t) (λ x. safe (suc (back_count place B x))) (λ x. none_of (suc (back_count place B x))) (named None e) rules.Quit refl)

    -- For a transaction that is not open, the search through a retry record returns its single step.
    pub retry_absent : open_in t v.slots.entries ≡ None → (r : Violation Op) → r ≡ alone_violation rules.Note → SearchesRecord o place v.shape v (Retry t) (Some r)
    retry_absent e r is = subst (λ (z : Violation Op). SearchesRecord o place v.shape v (Retry t) (Some z)) (sym is)
        (none_there (open_named t B.opened) (Note t) (λ x. safe (suc (back_count place B x))) (λ x. none_of (suc (back_count place B x))) (named None e) rules.Note refl)

    module _ (it : OpenTx (List (Item Op))) (found : open_in t v.slots.entries ≡ Some it) where
      abbrev x : OpenSummary Op
      x = kept_open t it

      -- No step of an abort record of an open transaction violates a criterion.
      pub abort_safe : SearchesRecord o place v.shape v (Abort t) None
      abort_safe = one_there (open_named t B.opened) (Quit t) (λ y. safe (suc (back_count place B y))) (λ y. none_of (suc (back_count place B y))) x (named (Some it) found) None (all_safe Op (suc (back_count place B x)))

      -- No step of a retry record of an open transaction violates a criterion.
      pub retry_safe : SearchesRecord o place v.shape v (Retry t) None
      retry_safe = one_there (open_named t B.opened) (Note t) (λ y. safe (suc (back_count place B y))) (λ y. none_of (suc (back_count place B y))) x (named (Some it) found) None (all_safe Op (suc (back_count place B x)))

      -- The own calls are a word of the body in the search exactly if they are in the summary.
      is_word : IsWord it.walk.body (calls (rules_of o v.shape) it.own) ↔ IsWord x.body (calls (rules_of o v.shape) (map item x.own))
      is_word = (
        (λ w. subst (λ (z : List (Item Op)). IsWord it.walk.body (calls (rules_of o v.shape) z)) (sym (items_back t it.own)) w),
        (λ w. subst (λ (z : List (Item Op)). IsWord it.walk.body (calls (rules_of o v.shape) z)) (items_back t it.own) w),
      )

      commit_one : (j : Option (Broken Op)) → Judges (cmt_facts Boosted (rules_of o v.shape) x) (cmt_detail x) j → SearchesRecord o place v.shape v (Commit t) (option_map (step_violation 0 rules.Cmt) j)
      commit_one j h = one_there (open_named t B.opened) (Cmt t) (λ y. asked (Cmt t) (cmt_facts Boosted (rules_of o v.shape) y) ∷ []) (λ y. cmt_detail y ∷ []) x (named (Some it) found)
          (option_map (step_violation 0 rules.Cmt) j) (one_step (Cmt t) (cmt_facts Boosted (rules_of o v.shape) x) (cmt_detail x) rules.Cmt refl j h)

      -- If the own calls are no word of the body, the CMT violates criterion 2.
      pub commit_broken : (answer : Bool) → TellsWord it.walk answer → answer ≡ false → (b : Broken Op) → b ≡ record { criterion = 2; detail = Nothing } → (r : Violation Op) → r ≡ step_violation 0 rules.Cmt b →
          SearchesRecord o place v.shape v (Commit t) (Some r)
      commit_broken answer w e b bis r is = subst (λ (z : Violation Op). SearchesRecord o place v.shape v (Commit t) (Some z)) (sym is) (commit_one (Some b) (record {
        number = 1;
        is_false = (tt, λ k. decided_not answer _ (word_is o place apart v h t it found answer w) e (is_word.1 k));
        criterion = ap (λ (z : Broken Op). z.criterion) bis;
        detail = ap (λ (z : Broken Op). z.detail) bis;
      }))

      -- If the own calls are a word of the body, the CMT violates no criterion.
      pub commit_fine : (answer : Bool) → TellsWord it.walk answer → answer ≡ true → SearchesRecord o place v.shape v (Commit t) None
      commit_fine answer w e = commit_one None (tt, (is_word.0 (decided answer _ (word_is o place apart v h t it found answer w) e), ((λ a i m. all_pushed t it.own a i), (tt, refl))))
