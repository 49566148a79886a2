-- The PUSHes of a commit, as a summary asks for them.
use Rattle.std.proofs.Common.{◌≡◌, ◌+◌, ℕ, zero, suc, true, false, List, [], ◌∷◌, ◌++◌, length, map, slice_get, take, Some}
use Rattle.std.proofs.Common.{refl, sym, ap, subst, ◌∙◌, append_assoc, append-nil, arith}
use Rattle.std.proofs.lemmas.List.{map-append}
use Rattle.std.proofs.lemmas.Option.{same_Some}
use Rattle.pp_core.specs.declared.entry.Item.{Item}
use Rattle.pp_core.specs.declared.step.Rule.{Rule}
use Rattle.pp_core.specs.declared.step.Rule.TheVariants as rules
use Rattle.pp_model.specs.Config.{LocalEntry, SharedEntry, local_ops, shared_ops}
use Rattle.pp_model.specs.Lists.{In}
use Rattle.pp_model.specs.Names.{Name}
use Rattle.pp_model.specs.Object as model
use Rattle.pp_model.specs.Object.{Allowed, ops}
use Rattle.pp_model.specs.Rules.{FirstFalse}
use Rattle.pp_model.proofs.Serial.{allowed_front}
use Rattle.pp_kind.specs.Object.{Object, rules_of}
use Rattle.pp_machine.specs.declared.detail.Detail.{Detail}
use Rattle.pp_laws_evidence.specs.Details.{publish_detail, publish_details}
use Rattle.pp_laws_summary.specs.Failures.{Asked, publish_asks, publish_facts}
use Rattle.pp_laws_summary.specs.Summary.{OpenSummary, Summary}
use Rattle.pp_snapshots.specs.Shown.{as_local}
use Rattle.pp_violations.specs.Asks.{AllTrue, FalseAt, HasRuleAt}

module _ {Shape State Op Undo : Type 0} (o : Object Shape State Op Undo) (place : Op → ℕ) (shape : Shape) (B : Summary Op) (t : Name) (x : OpenSummary Op) (committed : (u : SharedEntry Op) → In u B.shared → u.committed ≡ true) where
  abbrev O : model.Object Op State
  O = rules_of o shape

  abbrev G : List Op
  G = shared_ops B.shared

  abbrev Pushes : List (LocalEntry Op) → List (Item Op) → List (Asked Op)
  Pushes P own = publish_asks (rules_of o shape) place B t x P (map (as_local t) own)

  abbrev Shown : List (LocalEntry Op) → List (Item Op) → List (List (Detail Op))
  Shown P own = publish_details o shape place B t P (map (as_local t) own)

  -- No uncommitted entry is in the way.
  not_open : (u : SharedEntry Op) → In u B.shared → u.committed ≡ false → ⊥
  not_open u i e = let z : true ≡ false = sym (committed u i) ∙ e in cc

  -- a PUSH that is allowed
  one_true : (P : List (LocalEntry Op)) (p : Item Op) → Allowed O (G ++ (local_ops P ++ p.op ∷ [])) → FirstFalse (publish_facts O place B x P (as_local t p)) 0
  one_true P p a = (tt, (tt, (tt, ((λ u i e. absurd (not_open u i e)), (a, refl)))))

  local_next : (P : List (LocalEntry Op)) (p : Item Op) (k : List Op) → local_ops (P ++ as_local t p ∷ []) ++ k ≡ local_ops P ++ (p.op ∷ k)
  local_next P p k = ap (λ (w : List Op). w ++ k) (map-append (λ (e : LocalEntry Op). e.op) P (as_local t p ∷ [])) ∙ append_assoc (local_ops P) (p.op ∷ []) k

  first_of : (P : List (LocalEntry Op)) (p : Item Op) (k : List Op) → Allowed O (G ++ (local_ops P ++ (p.op ∷ k))) → Allowed O (G ++ (local_ops P ++ p.op ∷ []))
  first_of P p k a = allowed_front O O.start (G ++ (local_ops P ++ p.op ∷ [])) k
      (subst (λ (w : List Op). Allowed O w)
      (ap (λ (w : List Op). G ++ w) (sym (append_assoc (local_ops P) (p.op ∷ []) k)) ∙ sym (append_assoc G (local_ops P ++ p.op ∷ []) k)) a)

  rest_of : (P : List (LocalEntry Op)) (p : Item Op) (k : List Op) → Allowed O (G ++ (local_ops P ++ (p.op ∷ k))) → Allowed O (G ++ (local_ops (P ++ as_local t p ∷ []) ++ k))
  rest_of P p k a = subst (λ (w : List Op). Allowed O (G ++ w)) (sym (local_next P p k)) a

  -- If all are allowed, each criterion is true.
  pub pushes_true : (P : List (LocalEntry Op)) (own : List (Item Op)) → Allowed O (G ++ (local_ops P ++ ops own)) → AllTrue (publish_asks (rules_of o shape) place B t x P (map (as_local t) own))
  pushes_true P [] a = tt
  pushes_true P (p ∷ own) a = (one_true P p (first_of P p (ops own) a), pushes_true (P ++ as_local t p ∷ []) own (rest_of P p (ops own) a))

  -- The first that is not allowed is the first step that fails, by criterion 5.
  pub pushes_false : (P : List (LocalEntry Op)) (own : List (Item Op)) (k : ℕ) (p : Item Op) → slice_get own k ≡ Some p → Allowed O (G ++ (local_ops P ++ ops (take k own))) → (Allowed O (G ++ (local_ops P ++ (ops (take k own) ++ p.op ∷ []))) → ⊥) →
      FalseAt (publish_asks (rules_of o shape) place B t x P (map (as_local t) own)) k 4
  pushes_false P [] k p e a n = absurd (cc)
  pushes_false P (m ∷ own) zero p e a n = (tt, (tt, (tt, ((λ u i c. absurd (not_open u i c)), λ z. n (subst (λ (w : Item Op). Allowed O (G ++ (local_ops P ++ w.op ∷ []))) (same_Some m p e) z)))))
  pushes_false P (m ∷ own) (suc k) p e a n = (
    one_true P m (first_of P m (ops (take k own)) a),
    pushes_false (P ++ as_local t m ∷ []) own k p e (rest_of P m (ops (take k own)) a)
        (λ z. n (subst (λ (w : List Op). Allowed O (G ++ w)) (local_next P m (ops (take k own) ++ p.op ∷ [])) z)),
  )

  -- Its rule is PUSH.
  pub pushes_rule : (P : List (LocalEntry Op)) (own : List (Item Op)) (k : ℕ) (p : Item Op) (rule : Rule) → rule ≡ rules.Push → slice_get own k ≡ Some p → HasRuleAt (publish_asks (rules_of o shape) place B t x P (map (as_local t) own)) k rule
  pushes_rule P [] k p rule r e = absurd (cc)
  pushes_rule P (m ∷ own) zero p rule r e = r
  pushes_rule P (m ∷ own) (suc k) p rule r e = pushes_rule (P ++ as_local t m ∷ []) own k p rule r e

  -- Its evidence.
  pub pushes_shown : (P : List (LocalEntry Op)) (own : List (Item Op)) (k : ℕ) (p : Item Op) → slice_get own k ≡ Some p →
      slice_get (publish_details o shape place B t P (map (as_local t) own)) k ≡ Some (publish_detail o shape place B t (P ++ map (as_local t) (take k own)) (as_local t p))
  pushes_shown P [] k p e = absurd (cc)
  pushes_shown P (m ∷ own) zero p e =
      ap (λ (w : Item Op). Some (publish_detail o shape place B t P (as_local t w))) (same_Some m p e)
      ∙ ap (λ (w : List (LocalEntry Op)). Some (publish_detail o shape place B t w (as_local t p))) (sym (append-nil P))
  pushes_shown P (m ∷ own) (suc k) p e =
      pushes_shown (P ++ as_local t m ∷ []) own k p e
      ∙ ap (λ (w : List (LocalEntry Op)). Some (publish_detail o shape place B t w (as_local t p))) (append_assoc P (as_local t m ∷ []) (map (as_local t) (take k own)))

  -- Steps after the PUSHes, which are true.
  pub after_pushes : (P : List (LocalEntry Op)) (own : List (Item Op)) (more : List (Asked Op)) (k n j : ℕ) → AllTrue (publish_asks (rules_of o shape) place B t x P (map (as_local t) own)) → j ≡ length own + k → FalseAt more k n →
      FalseAt (publish_asks (rules_of o shape) place B t x P (map (as_local t) own) ++ more) j n
  after_pushes P [] more k n j a e f = let z : k ≡ j = omega arith in subst (λ (w : ℕ). FalseAt more w n) z f
  after_pushes P (m ∷ own) more k n j a e f =
      let z : suc (length own + k) ≡ j = omega arith in
      subst (λ (w : ℕ). FalseAt (Pushes P (m ∷ own) ++ more) w n) z (a.0, after_pushes (P ++ as_local t m ∷ []) own more k n (length own + k) a.1 refl f)

  -- Their rules.
  pub rule_after_pushes : (P : List (LocalEntry Op)) (own : List (Item Op)) (more : List (Asked Op)) (k j : ℕ) (rule : Rule) → j ≡ length own + k → HasRuleAt more k rule →
      HasRuleAt (publish_asks (rules_of o shape) place B t x P (map (as_local t) own) ++ more) j rule
  rule_after_pushes P [] more k j rule e f = let z : k ≡ j = omega arith in subst (λ (w : ℕ). HasRuleAt more w rule) z f
  rule_after_pushes P (m ∷ own) more k j rule e f =
      let z : suc (length own + k) ≡ j = omega arith in
      subst (λ (w : ℕ). HasRuleAt (Pushes P (m ∷ own) ++ more) w rule) z (rule_after_pushes (P ++ as_local t m ∷ []) own more k (length own + k) rule refl f)

  -- Their evidence.
  pub shown_after_pushes : (P : List (LocalEntry Op)) (own : List (Item Op)) (more : List (List (Detail Op))) (k j : ℕ) (d : List (Detail Op)) → j ≡ length own + k → slice_get more k ≡ Some d →
      slice_get (publish_details o shape place B t P (map (as_local t) own) ++ more) j ≡ Some d
  shown_after_pushes P [] more k j d e f = let z : k ≡ j = omega arith in subst (λ (w : ℕ). slice_get more w ≡ Some d) z f
  shown_after_pushes P (m ∷ own) more k j d e f =
      let z : suc (length own + k) ≡ j = omega arith in
      subst (λ (w : ℕ). slice_get (Shown P (m ∷ own) ++ more) w ≡ Some d) z (shown_after_pushes (P ++ as_local t m ∷ []) own more k (length own + k) d refl f)
