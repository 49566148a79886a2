-- The commits that a transaction has not seen, as the search finds them.
use Rattle.std.specs.Prelude.{◌≡◌, ◌==◌, ◌&&◌, ℕ, Bool, not, List, filter, take, Result, Ok, Err, IfOk}
use Rattle.std.specs.List.{list_any}
use Rattle.std.proofs.Common.{sym, ap, ◌∙◌}
use Rattle.pp_core.specs.declared.entry.Item.{Item}
use Rattle.pp_model.specs.Config.{SharedEntry}
use Rattle.pp_model.specs.Names.{Name}
use Rattle.pp_model.specs.Serial.{has_id}
use Rattle.pp_kind.specs.Object.{Object, rules_of}
use Rattle.pp_laws_summary.specs.Summary.{summary_missing}
use Rattle.pp_summary.specs.Boosted.{PlacesSwap}
use Rattle.pp_summary.specs.Shown.{KeepsQuick, Kept, at}
use Rattle.pp_summary.specs.declared.parts.OpenTx.{OpenTx}
use Rattle.pp_violations.specs.Searches.{is_lacking}
use Rattle.pp_violations.specs.Summarised.{kept_open, kept_summary, seen_of}
use Rattle.pp_violations.proofs.Summarised.{missing_is}
use Rattle.pp_violations.proofs.Views.{filter_alike}

module _ {Shape State Op Undo : Type 0} (o : Object Shape State Op Undo) (place : Op → ℕ) (apart : (shape : Shape) → PlacesSwap (rules_of o shape) place) (v : Kept Shape Op) (h : KeepsQuick o place v)
    (it : OpenTx (List (Item Op))) (q : ℕ) (ids : List ℕ) (count : ℕ) (seen : List ℕ) (entries : List (SharedEntry Op))
    (ids_are : ids ≡ at q v.commits.items) (count_is : count ≡ seen_of it.seen.entries q) (seen_are : (j : ℕ) → list_any (λ i. j == i) seen ≡ has_id j (take count ids)) (entries_are : entries ≡ v.shared.1) where
  lacking : (t : Name) → filter (is_lacking place q seen) entries ≡ summary_missing place q (kept_summary v) (kept_open t it)
  lacking t =
      ap (λ (w : List (SharedEntry Op)). filter (is_lacking place q seen) w) entries_are
      ∙ filter_alike (is_lacking place q seen) (λ g. (g.committed && (place g.op == q)) && not (has_id g.id (take (seen_of it.seen.entries q) (at q v.commits.items)))) v.shared.1
      (λ g. ap (λ (b : Bool). (g.committed && (place g.op == q)) && not b)
      (seen_are g.id ∙ ap (λ (n : ℕ). has_id g.id (take n ids)) count_is ∙ ap (λ (w : List ℕ). has_id g.id (take (seen_of it.seen.entries q) w)) ids_are))
      ∙ sym (missing_is o place apart v h t it q)

  -- The commits that the search finds missing are those that are missing in the summary.
  pub missing_found : {V E : Type 0} (r : Result V E) (items_of : V → List (SharedEntry Op)) → IfOk r (λ l. items_of l ≡ filter (is_lacking place q seen) entries) → IfOk r (λ l. (t : Name) → items_of l ≡ summary_missing place q (kept_summary v) (kept_open t it))
  missing_found (Ok l) items_of f = λ t. f ∙ lacking t
  missing_found (Err e) items_of f = tt
