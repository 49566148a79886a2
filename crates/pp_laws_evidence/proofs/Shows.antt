-- Steps, the conditions of a summary on them, and its evidence.
use Rattle.std.specs.Prelude.{◌≡◌, ℕ, zero, suc, List, [], ◌∷◌, ◌++◌, Some, take, length, slice_get}
use Rattle.std.proofs.Common.{refl, sym, ap, subst}
use Rattle.std.proofs.lemmas.Option.{same_Some}
use Rattle.pp_kind.specs.Object.{Object, rules_of}
use Rattle.pp_model.specs.Config.{Config, Step, after_from, then}
use Rattle.pp_model.specs.Rules.{Breaks, FirstFalse, Meets, RunsFrom}
use Rattle.pp_machine.specs.declared.detail.Detail.{Detail}
use Rattle.pp_machine.specs.Evidence.{at_number, evidence, evidences}
use Rattle.pp_laws_evidence.specs.Details.{none_of}
use Rattle.pp_laws_summary.specs.Failures.{Asked, safe}
use Rattle.pp_laws_summary.proofs.Asks.{Matches}

module _ {Shape State Op Undo : Type 0} (o : Object Shape State Op Undo) (shape : Shape) where
  -- If a criterion of a step is the first that is false, the step has this evidence.
  abbrev pub Shows : Config Op → List (Step Op) → List (Asked Op) → List (List (Detail Op)) → Type 0
  Shows c [] [] [] = Unit {0}
  Shows c [] [] (d ∷ ds) = ⊥
  Shows c [] (a ∷ qs) ds = ⊥
  Shows c (s ∷ ss) [] ds = ⊥
  Shows c (s ∷ ss) (a ∷ qs) [] = ⊥
  Shows c (s ∷ ss) (a ∷ qs) (d ∷ ds) =
      ((n : ℕ) → FirstFalse a.asks (suc n) → evidence o shape c s (suc n) ≡ at_number d (suc n))
      × (Meets (rules_of o shape) c s → Shows (then c s) ss qs ds)

  -- The evidence is a list that is known.
  pub known : (c : Config Op) (s : Step Op) (d : List (Detail Op)) → evidences o shape c s ≡ d → (n : ℕ) → evidence o shape c s (suc n) ≡ at_number d (suc n)
  known c s d e n = ap (λ (w : List (Detail Op)). at_number w (suc n)) e

  -- Steps that cannot fail have none.
  pub show_safe : (ss : List (Step Op)) (c : Config Op) → Shows c ss (safe (length ss)) (none_of (length ss))
  show_safe [] c = tt
  show_safe (s ∷ ss) c = ((λ n h. absurd (let z : suc n ≡ 0 = h in cc)), (λ m. show_safe ss (then c s)))

  -- so many of them
  pub show_count : (ss : List (Step Op)) (c : Config Op) (n : ℕ) → n ≡ length ss → Shows c ss (safe n) (none_of n)
  show_count ss c n e = subst (λ (k : ℕ). Shows c ss (safe k) (none_of k)) (sym e) (show_safe ss c)

  -- more steps, after those with evidence
  pub show_append : (ss : List (Step Op)) (qs : List (Asked Op)) (ds : List (List (Detail Op))) (rest : List (Step Op)) (more : List (Asked Op)) (others : List (List (Detail Op))) (c : Config Op) → Shows c ss qs ds →
      (RunsFrom (rules_of o shape) c ss → Shows (after_from c ss) rest more others) → Shows c (ss ++ rest) (qs ++ more) (ds ++ others)
  show_append [] [] [] rest more others c m k = k tt
  show_append [] [] (d ∷ ds) rest more others c m k = absurd m
  show_append [] (a ∷ qs) ds rest more others c m k = absurd m
  show_append (s ∷ ss) [] ds rest more others c m k = absurd m
  show_append (s ∷ ss) (a ∷ qs) [] rest more others c m k = absurd m
  show_append (s ∷ ss) (a ∷ qs) (d ∷ ds) rest more others c m k = (m.0, (λ h. show_append ss qs ds rest more others (then c s) (m.1 h) (λ r. k (h, r))))

  -- The first step that violates a criterion has its evidence.
  pub shown : (k : ℕ) (ss : List (Step Op)) (qs : List (Asked Op)) (ds : List (List (Detail Op))) (c : Config Op) → Matches (rules_of o shape) c ss qs → Shows c ss qs ds → (s : Step Op) (n : ℕ) →
      slice_get ss k ≡ Some s → RunsFrom (rules_of o shape) c (take k ss) → Breaks (rules_of o shape) (after_from c (take k ss)) s (suc n) →
      (d : List (Detail Op)) × (slice_get ds k ≡ Some d) × (evidence o shape (after_from c (take k ss)) s (suc n) ≡ at_number d (suc n))
  shown k [] qs ds c m w s n e r b = absurd (cc)
  shown k (z ∷ ss) [] ds c m w s n e r b = absurd m
  shown k (z ∷ ss) (a ∷ qs) [] c m w s n e r b = absurd w
  shown zero (z ∷ ss) (a ∷ qs) (x ∷ ds) c m w s n e r b =
      let same_step : z ≡ s = same_Some z s e in
      let h : FirstFalse a.asks (suc n) = (m.1 (suc n)).1 (subst (λ (y : Step Op). Breaks (rules_of o shape) c y (suc n)) (sym same_step) b) in
      (x, refl, subst (λ (y : Step Op). evidence o shape c y (suc n) ≡ at_number x (suc n)) same_step (w.0 n h))
  shown (suc k) (z ∷ ss) (a ∷ qs) (x ∷ ds) c m w s n e r b = shown k ss qs ds (then c z) (m.2 r.0) (w.1 r.0) s n e r.1 b
