-- The PULLs of an op record, by the criteria that a summary lists for them.
use Rattle.std.specs.Prelude.{◌≡◌, ◌↔◌, ◌<◌, ◌+◌, ℕ, zero, suc, List, [], ◌∷◌, ◌++◌, length, map, slice_get, take, Option, Some}
use Rattle.std.proofs.Common.{refl, sym, ap, subst, ◌∙◌, append_assoc, arith}
use Rattle.std.proofs.lemmas.List.{append-nil}
use Rattle.std.proofs.lemmas.Option.{same_Some}
use mathlib.Core.Logic.{inl, inr}
use Rattle.pp_core.specs.declared.entry.Item.{Item}
use Rattle.pp_core.specs.declared.step.Rule.{Rule}
use Rattle.pp_core.specs.declared.step.Rule.TheVariants as rules
use Rattle.pp_model.specs.Config.{LocalEntry, Mark, SharedEntry, shared_ops}
use Rattle.pp_model.specs.Lists.{In}
use Rattle.pp_model.specs.Names.{Name}
use Rattle.pp_model.specs.Object as model
use Rattle.pp_model.specs.Rules.{FirstFalse}
use Rattle.pp_model.proofs.Lists.{from_map, in_map}
use Rattle.pp_kind.specs.Object.{IsAllowed, Object, SwapsIn, rules_of}
use Rattle.pp_machine.specs.declared.detail.Detail.{Detail}
use Rattle.pp_machine.specs.declared.detail.Detail.TheVariants.{Nothing}
use Rattle.pp_machine.specs.Evidence.{first_swap, gives_behind, swap_or}
use Rattle.pp_laws_evidence.specs.Details as details
use Rattle.pp_laws_summary.specs.Failures as asks
use Rattle.pp_laws_summary.specs.Failures.{Asked, pull_asks}
use Rattle.pp_laws_summary.specs.Summary.{OpenSummary, Summary, summary_view}
use Rattle.pp_laws_summary.proofs.Asks.{Alike, alike}
use Rattle.pp_violations.specs.Asks.{AllTrue, FalseAt, HasRuleAt}
use Rattle.pp_violations.specs.Searches.{pull_evidence, pull_facts}
use Rattle.pp_violations.specs.Summarised.{marked_entry}

-- The first own operation that does not swap is that of the first own entry that does not swap.
pub swap_of_own : {Op : Type 0} (m : Mark) (t : Name) (refuting : Op → Option (List Op × List Op)) (own : List (Item Op)) →
    first_swap (λ (a : Item Op). a.id) (λ a. refuting a.op) own ≡ first_swap (λ (a : LocalEntry Op). a.id) (λ a. refuting a.op) (map (marked_entry m t) own)
swap_of_own m t refuting [] = refl
swap_of_own {Op} m t refuting (a ∷ own) = ap (λ (w : Detail Op). swap_or a.id (refuting a.op) w) (swap_of_own m t refuting own)

module _ {Shape State Op Undo : Type 0} (o : Object Shape State Op Undo) (place : Op → ℕ) (shape : Shape)
    (B : Summary Op) (t : Name) (x : OpenSummary Op) (q : ℕ) (own : List (Item Op)) (mark : Mark) (own_is : x.own ≡ map (marked_entry mark t) own) where
  abbrev O : model.Object Op State
  O = rules_of o shape

  abbrev view : List Op
  view = summary_view place q B.done x

  -- The PULL of g after the entries P has the same criteria in the search and in the summary.
  pull_alike : (P : List (SharedEntry Op)) (g : SharedEntry Op) → place g.op ≡ q → Alike (pull_facts o place shape (view ++ shared_ops P) own g) (asks.pull_facts O place B x q P g)
  pull_alike P g at =
      let same : Unit {0} ↔ Unit {0} = ((λ h. tt), (λ h. tt)) in
      (same, (same, (same, (allowed, (swaps, tt)))))
    where
      allowed : IsAllowed o shape ((view ++ shared_ops P) ++ g.op ∷ []) ↔ model.Allowed O (view ++ (shared_ops P ++ g.op ∷ []))
      allowed = (
        (λ h. subst (λ (w : List Op). IsAllowed o shape w) (append_assoc view (shared_ops P) (g.op ∷ [])) h),
        (λ h. subst (λ (w : List Op). IsAllowed o shape w) (sym (append_assoc view (shared_ops P) (g.op ∷ []))) h),
      )

      swaps : ((a : Item Op) → In a own → place a.op ≡ place g.op → SwapsIn o shape a.op g.op) ↔ ((a : LocalEntry Op) → In a x.own → place a.op ≡ q → model.Swaps O a.op g.op)
      swaps = (
        (λ h a i e.
            let m = from_map (marked_entry mark t) a own (subst (λ (w : List (LocalEntry Op)). In a w) own_is i) in
            let same : a.op ≡ (m.0).op = ap (λ (w : LocalEntry Op). w.op) m.2 in
            subst (λ (w : Op). SwapsIn o shape w g.op) (sym same) (h m.0 m.1 (sym (ap place same) ∙ e ∙ sym at))),
        (λ h a i e. h (marked_entry mark t a) (subst (λ (w : List (LocalEntry Op)). In (marked_entry mark t a) w) (sym own_is) (in_map (marked_entry mark t) a own i)) (e ∙ at)),
      )

  -- The PULL of g after the entries P has the same evidence in the search and in the summary.
  pull_shows : (P : List (SharedEntry Op)) (g : SharedEntry Op) → pull_evidence o place shape (view ++ shared_ops P) own g ≡ details.pull_detail o shape place B x q P g
  pull_shows P g =
      ap (λ (w : Detail Op). Nothing ∷ Nothing ∷ Nothing ∷ gives_behind o shape g.id (view ++ shared_ops P) g.op ∷ w ∷ [])
      (swap_of_own mark t (λ a. o.refuting a g.op) own ∙ ap (λ (w : List (LocalEntry Op)). first_swap (λ (a : LocalEntry Op). a.id) (λ a. o.refuting a.op g.op) w) (sym own_is))

  -- The facts of the PULL of g, after the PULLs of P and of the first j entries of M.
  abbrev Facts : List (SharedEntry Op) → List (SharedEntry Op) → ℕ → SharedEntry Op → List (Type 0)
  Facts P M j g = pull_facts o place shape (view ++ shared_ops (P ++ take j M)) own g

  abbrev AreTrue : List (SharedEntry Op) → List (SharedEntry Op) → ℕ → Type 0
  AreTrue P M k = (j : ℕ) (g : SharedEntry Op) → j < k → slice_get M j ≡ Some g → FirstFalse (Facts P M j g) 0

  abbrev AllAt : List (SharedEntry Op) → Type 0
  AllAt M = (g : SharedEntry Op) → In g M → place g.op ≡ q

  -- The facts of the first PULL.
  at_first : (P M : List (SharedEntry Op)) (m : SharedEntry Op) (n : ℕ) → place m.op ≡ q → FirstFalse (Facts P (m ∷ M) 0 m) n → FirstFalse (asks.pull_facts O place B x q P m) n
  at_first P M m n at h = (alike (pull_facts o place shape (view ++ shared_ops P) own m) (asks.pull_facts O place B x q P m) (pull_alike P m at) n).0
      (subst (λ (w : List (SharedEntry Op)). FirstFalse (pull_facts o place shape (view ++ shared_ops w) own m) n) (append-nil P) h)

  moved : (P M : List (SharedEntry Op)) (m g : SharedEntry Op) (j n : ℕ) → FirstFalse (Facts P (m ∷ M) (suc j) g) n → FirstFalse (Facts (P ++ m ∷ []) M j g) n
  moved P M m g j n h = subst (λ (w : List (SharedEntry Op)). FirstFalse (pull_facts o place shape (view ++ shared_ops w) own g) n) (sym (append_assoc P (m ∷ []) (take j M))) h

  later : (P M : List (SharedEntry Op)) (m : SharedEntry Op) (k : ℕ) → AreTrue P (m ∷ M) (suc k) → AreTrue (P ++ m ∷ []) M k
  later P M m k h j g l e = moved P M m g j 0 (h (suc j) g (omega arith) e)

  -- If the facts of each PULL are true, all criteria of the PULLs are true.
  pub pulls_true : (P M : List (SharedEntry Op)) → AllAt M → AreTrue P M (length M) → AllTrue (pull_asks O place B t x q P M)
  pulls_true P [] at h = tt
  pulls_true P (m ∷ M) at h = (
    at_first P M m 0 (at m (inl refl)) (h 0 m (omega arith) refl),
    pulls_true (P ++ m ∷ []) M (λ g i. at g (inr i)) (λ j g l e. later P M m (length M) (λ i z b w. h i z (omega arith) w) j g l e),
  )

  -- If the PULL at position k is the first with a false fact, it has the first false criterion.
  pub pulls_false : (P M : List (SharedEntry Op)) (k n : ℕ) (g : SharedEntry Op) → AllAt M → slice_get M k ≡ Some g → AreTrue P M k → FirstFalse (Facts P M k g) (suc n) → FalseAt (pull_asks O place B t x q P M) k n
  pulls_false P [] k n g at e h f = absurd (cc)
  pulls_false P (m ∷ M) zero n g at e h f =
      at_first P M m (suc n) (at m (inl refl)) (subst (λ (w : SharedEntry Op). FirstFalse (Facts P (m ∷ M) 0 w) (suc n)) (sym (same_Some m g e)) f)
  pulls_false P (m ∷ M) (suc k) n g at e h f = (
    at_first P M m 0 (at m (inl refl)) (h 0 m (omega arith) refl),
    pulls_false (P ++ m ∷ []) M k n g (λ z i. at z (inr i)) e (later P M m k h) (moved P M m g k (suc n) f),
  )

  -- The rule of each PULL is PULL.
  pub pulls_rule : (P M : List (SharedEntry Op)) (k : ℕ) (g : SharedEntry Op) (rule : Rule) → rule ≡ rules.Pull → slice_get M k ≡ Some g → HasRuleAt (pull_asks O place B t x q P M) k rule
  pulls_rule P [] k g rule r e = absurd (cc)
  pulls_rule P (m ∷ M) zero g rule r e = r
  pulls_rule P (m ∷ M) (suc k) g rule r e = pulls_rule (P ++ m ∷ []) M k g rule r e

  -- The evidence of the PULL at position k.
  pub pulls_shown : (P M : List (SharedEntry Op)) (k : ℕ) (g : SharedEntry Op) → slice_get M k ≡ Some g →
      slice_get (details.pull_details o shape place B x q P M) k ≡ Some (pull_evidence o place shape (view ++ shared_ops (P ++ take k M)) own g)
  pulls_shown P [] k g e = absurd (cc)
  pulls_shown P (m ∷ M) zero g e =
      ap (λ (w : List (Detail Op)). Some w) (sym (pull_shows P m))
      ∙ ap (λ (w : List (SharedEntry Op)). Some (pull_evidence o place shape (view ++ shared_ops w) own m)) (sym (append-nil P))
      ∙ ap (λ (w : SharedEntry Op). Some (pull_evidence o place shape (view ++ shared_ops (P ++ [])) own w)) (same_Some m g e)
  pulls_shown P (m ∷ M) (suc k) g e =
      pulls_shown (P ++ m ∷ []) M k g e
      ∙ ap (λ (w : List (SharedEntry Op)). Some (pull_evidence o place shape (view ++ shared_ops w) own g)) (append_assoc P (m ∷ []) (take k M))

  -- If all PULLs are true, a criterion that is false in a later step is false at its position after the PULLs.
  pub after_pulls : (P M : List (SharedEntry Op)) (more : List (Asked Op)) (k n j : ℕ) → AllTrue (pull_asks O place B t x q P M) → j ≡ length M + k → FalseAt more k n → FalseAt (pull_asks O place B t x q P M ++ more) j n
  after_pulls P [] more k n j a e f = let z : k ≡ j = omega arith in subst (λ (w : ℕ). FalseAt more w n) z f
  after_pulls P (m ∷ M) more k n j a e f =
      let z : suc (length M + k) ≡ j = omega arith in
      subst (λ (w : ℕ). FalseAt (pull_asks O place B t x q P (m ∷ M) ++ more) w n) z (a.0, after_pulls (P ++ m ∷ []) M more k n (length M + k) a.1 refl f)

  -- The rule of a later step is found at its position after the PULLs.
  pub rule_after_pulls : (P M : List (SharedEntry Op)) (more : List (Asked Op)) (k j : ℕ) (rule : Rule) → j ≡ length M + k → HasRuleAt more k rule → HasRuleAt (pull_asks O place B t x q P M ++ more) j rule
  rule_after_pulls P [] more k j rule e f = let z : k ≡ j = omega arith in subst (λ (w : ℕ). HasRuleAt more w rule) z f
  rule_after_pulls P (m ∷ M) more k j rule e f =
      let z : suc (length M + k) ≡ j = omega arith in
      subst (λ (w : ℕ). HasRuleAt (pull_asks O place B t x q P (m ∷ M) ++ more) w rule) z (rule_after_pulls (P ++ m ∷ []) M more k (length M + k) rule refl f)

  -- The evidence of a later step is found at its position after the PULLs.
  pub shown_after_pulls : (P M : List (SharedEntry Op)) (more : List (List (Detail Op))) (k j : ℕ) (d : List (Detail Op)) → j ≡ length M + k → slice_get more k ≡ Some d →
      slice_get (details.pull_details o shape place B x q P M ++ more) j ≡ Some d
  shown_after_pulls P [] more k j d e f = let z : k ≡ j = omega arith in subst (λ (w : ℕ). slice_get more w ≡ Some d) z f
  shown_after_pulls P (m ∷ M) more k j d e f =
      let z : suc (length M + k) ≡ j = omega arith in
      subst (λ (w : ℕ). slice_get (details.pull_details o shape place B x q P (m ∷ M) ++ more) w ≡ Some d) z (shown_after_pulls (P ++ m ∷ []) M more k (length M + k) d refl f)
