-- A search through PUSHes, one after another.
use Rattle.std.proofs.Common.{◌≡◌, ◌≢◌, ◌<◌, ◌+◌, ℕ, IsTrue, List, [], ◌∷◌, ◌++◌, length, take, None, Some}
use Rattle.std.proofs.Common.{refl, sym, ap, subst, ◌∙◌, append_assoc, append-nil, get_or}
use Rattle.std.proofs.Math.Seq.{take-length}
use Rattle.std.proofs.lemmas.List.{map-append}
use Rattle.std.proofs.lemmas.Option.{slice_get-get_or}
use Rattle.pp_core.specs.declared.answer.Answer.{Answer}
use Rattle.pp_core.specs.declared.entry.Item.{Item}
use Rattle.pp_core.specs.declared.step.Rule.TheVariants as rules
use Rattle.pp_model.specs.Object.{ops}
use Rattle.pp_kind.specs.Object.{IsAllowed, IsLawful, IsLegal, Object, state_after}
use Rattle.pp_kind.proofs.Lists.{last_is_legal, log_grows}
use Rattle.pp_machine.specs.declared.detail.Detail.TheVariants.{Gives}
use Rattle.pp_summary.proofs.Items.{take_next}
use Rattle.pp_violations.specs.Searches.{IsStateOf, step_violation}
use Rattle.pp_violations.specs.declared.violation.Broken.{Broken}
use Rattle.pp_violations.specs.declared.violation.Violation.{Violation}
use Rattle.pp_conflicts.specs.Searches.{FailsPush, SearchesPushes}

-- The operations of the first items, with one more.
pub items_next : {Op : Type 0} (l : List (Item Op)) (k : ℕ) (p : Item Op) → k < length l → p ≡ get_or l k p → (before : List Op) → before ++ ops (take (k + 1) l) ≡ (before ++ ops (take k l)) ++ p.op ∷ []
items_next {Op} l k p lt is before =
    ap (λ (w : List (Item Op)). before ++ ops w) (take_next l k p lt is)
    ∙ ap (λ (w : List Op). before ++ w) (map-append (λ (z : Item Op). z.op) (take k l) (p ∷ []))
    ∙ sym (append_assoc before (ops (take k l)) (p.op ∷ []))

module _ {Shape State Op Undo : Type 0} (o : Object Shape State Op Undo) (laws : IsLawful o) (place : Op → ℕ) (shape : Shape) (before : List Op) (own : List (Item Op)) where
  -- Before any PUSH the state is the one after the operations before them.
  pub pushes_begin : (s : State) → IsStateOf o place shape s before → IsStateOf o place shape s (before ++ ops (take 0 own))
  pushes_begin s at = subst (λ (w : List Op). IsStateOf o place shape s w) (sym (append-nil before)) at

  module _ (k : ℕ) (p : Item Op) (lt : k < length own) (is : p ≡ get_or own k p) (fits : IsTrue (o.fits shape p.op)) (ranged : IsTrue (o.ranged p.op)) (s : State) (at : IsStateOf o place shape s (before ++ ops (take k own))) where
    abbrev B : List Op
    B = before ++ ops (take k own)

    own_log : s ≡ state_after o shape (before ++ ops (take k own))
    own_log = at.log.is ∙ ap (λ (z : Shape). state_after o z B) at.shape_is

    -- If the object returns the result, the state is the one after one operation more.
    pub push_next : (new : State) → o.gives s p.op ≡ o.recorded p.op → new ≡ o.next s p.op → IsStateOf o place shape new (before ++ ops (take (k + 1) own))
    push_next new gives next =
        let legal : IsLegal o s p.op = (subst (λ (z : Shape). IsTrue (o.fits z p.op)) (sym at.shape_is) fits, gives) in
        subst (λ (w : List Op). IsStateOf o place shape new w) (sym (items_next own k p lt is before))
        (subst (λ (z : State). IsStateOf o place shape z (B ++ p.op ∷ [])) (sym next)
        (record { log = log_grows o s B p.op at.log legal ranged (laws.next_shape s p.op legal); shape_is = laws.next_shape s p.op legal ∙ at.shape_is }))

    -- Otherwise this PUSH is the first that is not allowed.
    pub push_fails : (new : State) → o.gives s p.op ≢ o.recorded p.op → new ≡ s → (answer : Answer) → answer ≡ o.gives new p.op → (b : Broken Op) → b ≡ record { criterion = 5; detail = Gives p.id answer } →
        (x : Violation Op) → x ≡ step_violation k rules.Push b → SearchesPushes o shape before own (Some x)
    push_fails new differs stays answer gives b b_is x x_is =
        subst (λ (z : Violation Op). FailsPush o shape before own z) (sym (x_is ∙ ap (λ (z : Broken Op). step_violation k rules.Push z) b_is)) (record {
          item = p;
          there = slice_get-get_or own k p lt ∙ ap (λ (z : Item Op). Some z) (sym is);
          pushed = subst (λ (z : Shape). IsAllowed o z (before ++ ops (take k own))) at.shape_is at.log.allowed;
          refused = λ a. differs (last_is_legal o shape s (before ++ ops (take k own)) p.op own_log a).1;
          rule = refl;
          criterion = refl;
          detail = ap (Gives p.id) (gives ∙ ap (λ (z : State). o.gives z p.op) (stays ∙ own_log));
        })

  -- If none is left, all are allowed.
  pub pushes_end : (k : ℕ) → k ≡ length own → (s : State) → IsStateOf o place shape s (before ++ ops (take k own)) → SearchesPushes o shape before own None
  pushes_end k e s at =
      subst (λ (w : List (Item Op)). IsAllowed o shape (before ++ ops w)) (ap (λ (n : ℕ). take n own) e ∙ take-length own)
      (subst (λ (z : Shape). IsAllowed o z (before ++ ops (take k own))) at.shape_is at.log.allowed)
