-- A search through PULLs, one by one.
use Rattle.std.specs.Prelude.{◌≡◌, ◌<◌, ◌+◌, ℕ, List, [], ◌∷◌, ◌++◌, length, slice_get, take, None, Some}
use Rattle.std.proofs.Common.{refl, sym, ap, subst, ◌∙◌, append_assoc, get_or}
use Rattle.std.proofs.Math.Seq.{take-length}
use Rattle.std.proofs.lemmas.List.{append-nil, map-append}
use Rattle.std.proofs.lemmas.Option.{same_Some, slice_get-get_or}
use mathlib.Core.Logic.{inl, inr}
use Rattle.pp_core.specs.declared.entry.Item.{Item}
use Rattle.pp_core.specs.declared.step.Rule.TheVariants as rules
use Rattle.pp_model.specs.Config.{SharedEntry, shared_ops}
use Rattle.pp_model.specs.Rules.{FirstFalse}
use Rattle.pp_kind.specs.Object.{AllRanged, IsAllowed, IsLawful, Object, state_after}
use Rattle.pp_kind.proofs.Lists.{keeps_shape}
use Rattle.pp_summary.proofs.Items.{below_next, take_next}
use Rattle.pp_violations.specs.Asks.{Breaks}
use Rattle.pp_violations.specs.Searches.{ArePulled, FailsPull, IsStateOf, JudgesPull, pull_evidence, pull_facts, step_violation}
use Rattle.pp_violations.specs.declared.violation.Broken.{Broken}
use Rattle.pp_violations.specs.declared.violation.Violation.{Violation}

-- An element that is read at a position below the length is at this position.
stands_at : {A : Type 0} (l : List A) (k : ℕ) (a : A) → k < length l → a ≡ get_or l k a → slice_get l k ≡ Some a
stands_at {A} l k a lt is = slice_get-get_or l k a lt ∙ ap (λ (z : A). Some z) (sym is)

-- The operations of the first k + 1 entries are those of the first k and the next one.
pub ops_next : {Op : Type 0} (l : List (SharedEntry Op)) (k : ℕ) (g : SharedEntry Op) → k < length l → g ≡ get_or l k g → (before : List Op) → before ++ shared_ops (take (k + 1) l) ≡ (before ++ shared_ops (take k l)) ++ g.op ∷ []
ops_next {Op} l k g lt is before =
    ap (λ (w : List (SharedEntry Op)). before ++ shared_ops w) (take_next l k g lt is)
    ∙ ap (λ (w : List Op). before ++ w) (map-append (λ (z : SharedEntry Op). z.op) (take k l) (g ∷ []))
    ∙ sym (append_assoc before (shared_ops (take k l)) (g.op ∷ []))

-- If a state is one of a shape, it is one of its own shape.
pub own_shape : {Shape State Op Undo : Type 0} (o : Object Shape State Op Undo) (place : Op → ℕ) (shape : Shape) (s : State) (l : List Op) → IsStateOf o place shape s l → IsStateOf o place (o.shape s) s l
own_shape o place shape s l h = record { log = h.log; shape_is = refl }

-- The state before any PULL is the state after the operations before the PULLs.
pub begin_state : {Shape State Op Undo : Type 0} (o : Object Shape State Op Undo) (place : Op → ℕ) → IsLawful o → (shape : Shape) (l : List Op) → IsAllowed o shape l → AllRanged o l → (s : State) → s ≡ state_after o shape l → (entries : List (SharedEntry Op)) →
    IsStateOf o place shape s (l ++ shared_ops (take 0 entries))
begin_state {Shape} {State} {Op} o place laws shape l h r s is entries =
    let e : o.shape s ≡ shape = ap o.shape is ∙ keeps_shape o laws.next_shape (o.start shape) l h ∙ laws.start_shape shape in
    subst (λ (w : List Op). IsStateOf o place shape s w) (sym (none entries))
    (record {
      log =
          record {
            allowed = subst (λ (z : Shape). IsAllowed o z l) (sym e) h;
            is = is ∙ ap (λ (z : Shape). state_after o z l) (sym e);
            ranged = r;
          };
      shape_is = e;
    })
  where
    none : (w : List (SharedEntry Op)) → l ++ shared_ops (take 0 w) ≡ l
    none w = append-nil l

module _ {Shape State Op Undo : Type 0} (o : Object Shape State Op Undo) (place : Op → ℕ) (shape : Shape) (before : List Op) (own : List (Item Op)) (entries : List (SharedEntry Op)) where
  -- One PULL, in the state after the PULLs before it.
  module _ (k : ℕ) (g : SharedEntry Op) (lt : k < length entries) (is : g ≡ get_or entries k g) (pulled : ArePulled o place shape before own entries k) (s : State) (at : IsStateOf o place shape s (before ++ shared_ops (take k entries))) where
    abbrev B : List Op
    B = before ++ shared_ops (take k entries)

    -- The state before the PULL is one of its own shape.
    pub here : IsStateOf o place (o.shape s) s (before ++ shared_ops (take k entries))
    here = record { log = at.log; shape_is = refl }

    module _ (new : State) where
      -- If a PULL violates no criterion, one more PULL is true, and the state is the one after it.
      pub pulled_next : JudgesPull o place (o.shape s) (before ++ shared_ops (take k entries)) own g new None → ArePulled o place shape before own entries (k + 1) × IsStateOf o place shape new (before ++ shared_ops (take (k + 1) entries))
      pulled_next j =
          let h : JudgesPull o place shape B own g new None = subst (λ (z : Shape). JudgesPull o place z B own g new None) at.shape_is j in (
            (λ i z l e. elim (below_next i k l) [
              | inl m ↦ pulled i z m e
              | inr m ↦
                  let same : g ≡ z = same_Some g z (sym (stands_at entries k g lt is) ∙ ap (λ (n : ℕ). slice_get entries n) (sym m) ∙ e) in
                  subst (λ (n : ℕ). FirstFalse (pull_facts o place shape (before ++ shared_ops (take n entries)) own z) 0) (sym m)
                  (subst (λ (w : SharedEntry Op). FirstFalse (pull_facts o place shape B own w) 0) same h.0)
            ]),
            subst (λ (w : List Op). IsStateOf o place shape new w) (sym (ops_next entries k g lt is before)) h.1,
          )

      -- If a PULL violates a criterion, it is the first that does.
      pub pulled_false : (b : Broken Op) → JudgesPull o place (o.shape s) (before ++ shared_ops (take k entries)) own g new (Some b) → (x : Violation Op) → x ≡ step_violation k rules.Pull b → FailsPull o place shape before own entries x
      pulled_false b j x e = subst (λ (z : Violation Op). FailsPull o place shape before own entries z) (sym e) (record {
        entry = g;
        there = stands_at entries k g lt is;
        pulled = pulled;
        rule = refl;
        breaks = subst (λ (z : Shape). Breaks (pull_facts o place z B own g) (pull_evidence o place z B own g) (record { criterion = b.criterion; detail = b.detail })) at.shape_is j;
      })

  -- If all PULLs are true, the state is the one after all of them.
  pub pulled_all : (k : ℕ) → k ≡ length entries → (s : State) → ArePulled o place shape before own entries k → IsStateOf o place shape s (before ++ shared_ops (take k entries)) →
      ArePulled o place shape before own entries (length entries) × IsStateOf o place shape s (before ++ shared_ops entries)
  pulled_all k e s p at = (
    subst (λ (n : ℕ). ArePulled o place shape before own entries n) e p,
    subst (λ (w : List (SharedEntry Op)). IsStateOf o place shape s (before ++ shared_ops w)) (ap (λ (n : ℕ). take n entries) e ∙ take-length entries) at,
  )
