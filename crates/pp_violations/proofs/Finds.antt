-- The first of some steps that has a false criterion: for one step, and for two lists of steps one after the other.
use Rattle.std.specs.Prelude.{◌≡◌, ℕ, zero, suc, List, [], ◌∷◌, ◌++◌, slice_get, option_map, Option, None, Some}
use Rattle.std.proofs.Common.{refl, ap, ◌∙◌}
use Rattle.pp_core.specs.declared.step.Rule.{Rule}
use Rattle.pp_core.specs.Steps.{rule_of}
use Rattle.pp_model.specs.Config.{Step}
use Rattle.pp_machine.specs.declared.detail.Detail.{Detail}
use Rattle.pp_machine.specs.declared.detail.Detail.TheVariants.{Nothing}
use Rattle.pp_machine.specs.Evidence.{at_number}
use Rattle.pp_laws_summary.specs.Failures.{Asked, asked, safe}
use Rattle.pp_laws_summary.proofs.Asks.{Alike, alike}
use Rattle.pp_violations.specs.Asks.{AllTrue, Breaks, FalseAt, Finds, HasDetailAt, HasRuleAt, Judges}
use Rattle.pp_violations.specs.Searches.{alone_violation, step_violation}
use Rattle.pp_violations.specs.declared.violation.Broken.{Broken}

-- Steps that cannot fail.
pub all_safe : (Op : Type 0) (n : ℕ) → AllTrue (safe {Op = Op} n)
all_safe Op zero = tt
all_safe Op (suc n) = (refl, all_safe Op n)

slice_left : {A : Type 0} (l more : List A) (k : ℕ) (a : A) → slice_get l k ≡ Some a → slice_get (l ++ more) k ≡ Some a
slice_left [] more k a h = absurd (cc)
slice_left (x ∷ l) more zero a h = h
slice_left (x ∷ l) more (suc k) a h = slice_left l more k a h

module _ {Op : Type 0} where
  -- Judging the criteria of one step finds the first violation in that step.
  pub one_step : (s : Step Op) (facts : List (Type 0)) (ds : List (Detail Op)) (rule : Rule) → rule ≡ rule_of s → (r : Option (Broken Op)) → Judges facts ds r →
      Finds (asked s facts ∷ []) (ds ∷ []) (option_map (step_violation 0 rule) r)
  one_step s facts ds rule e None h = (h, tt)
  one_step s facts ds rule e (Some x) h =
      record { number = h.number; is_false = h.is_false; rule = e; criterion = h.criterion; detail = (ds, refl, h.detail) }

  -- A step whose transaction is not open has one false criterion.
  pub one_alone : (s : Step Op) (rule : Rule) → rule ≡ rule_of s → Finds (asked s (⊥ ∷ []) ∷ []) ((Nothing ∷ []) ∷ []) (Some (alone_violation rule))
  one_alone s rule e = record { number = 0; is_false = λ z. z; rule = e; criterion = refl; detail = (Nothing ∷ [], refl, refl) }

  -- A criterion that is the first broken one of some facts is the first broken one of equivalent facts.
  pub breaks_alike : (ps qs : List (Type 0)) → Alike ps qs → (ds es : List (Detail Op)) → ds ≡ es → (x : Broken Op) → Breaks ps ds x → Breaks qs es x
  breaks_alike ps qs a ds es e x h =
      record {
        number = h.number;
        is_false = (alike ps qs a (suc h.number)).0 h.is_false;
        criterion = h.criterion;
        detail = h.detail ∙ ap (λ (w : List (Detail Op)). at_number w (suc h.number)) e;
      }

  -- Judging facts is judging equivalent facts.
  pub judges_alike : (ps qs : List (Type 0)) → Alike ps qs → (ds es : List (Detail Op)) → ds ≡ es → (r : Option (Broken Op)) → Judges ps ds r → Judges qs es r
  judges_alike ps qs a ds es e None h = (alike ps qs a 0).0 h
  judges_alike ps qs a ds es e (Some x) h = breaks_alike ps qs a ds es e x h

  -- More steps at the end leave a false criterion at its position.
  pub false_left : (qs more : List (Asked Op)) (k n : ℕ) → FalseAt qs k n → FalseAt (qs ++ more) k n
  false_left [] more k n h = absurd h
  false_left (a ∷ qs) more zero n h = h
  false_left (a ∷ qs) more (suc k) n h = (h.0, false_left qs more k n h.1)

  -- More steps at the end leave the rule of a step the same.
  pub rule_left : (qs more : List (Asked Op)) (k : ℕ) (rule : Rule) → HasRuleAt qs k rule → HasRuleAt (qs ++ more) k rule
  rule_left [] more k rule h = absurd h
  rule_left (a ∷ qs) more zero rule h = h
  rule_left (a ∷ qs) more (suc k) rule h = rule_left qs more k rule h

  -- More steps at the end leave the evidence of a criterion the same.
  pub detail_left : (ds more : List (List (Detail Op))) (k n : ℕ) (d : Detail Op) → HasDetailAt ds k n d → HasDetailAt (ds ++ more) k n d
  detail_left ds more k n d h = (h.0, slice_left ds more k h.0 h.1, h.2)

  -- If all criteria of two lists of steps are true, all of the joined list are.
  pub all_append : (qs more : List (Asked Op)) → AllTrue qs → AllTrue more → AllTrue (qs ++ more)
  all_append [] more h k = k
  all_append (a ∷ qs) more h k = (h.0, all_append qs more h.1 k)
