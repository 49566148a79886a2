-- A start that is rejected, and a record more of which a step is the first to violate a criterion.
use Rattle.std.specs.Prelude.{◌≡◌, ◌<◌, ◌+◌, ℕ, zero, suc, List, []}
use Rattle.std.specs.Prelude.{◌∷◌, ◌++◌, length, take}
use Rattle.std.proofs.Common.{refl, sym, ap, subst, ◌∙◌, arith, append_assoc}
use mathlib.Core.Logic.{inl}
use Rattle.pp_core.specs.Steps.{rule_of}
use Rattle.pp_core.specs.declared.call.Kind.{Kind}
use Rattle.pp_core.specs.declared.step.Rule.{Rule}
use Rattle.pp_core.specs.declared.step.Rule.TheVariants as rules
use Rattle.pp_model.proofs.Begin.{start_sound}
use Rattle.pp_model.proofs.Keeps.{run_keeps}
use Rattle.pp_model.specs.Config.{Config, Step, after, first}
use Rattle.pp_model.specs.Sound.{Sound}
use Rattle.pp_records.specs.Records.{RunRecord}
use Rattle.pp_records.specs.Runs.{IsRun, Lined, LinedSteps, Records, bare}
use Rattle.pp_format_read.specs.declared.header.Header.{Header}
use Rattle.pp_format_read.specs.Records.{IsReadable}
use Rattle.pp_kind.specs.Object.{rules_of}
use Rattle.pp_machine.proofs.Telling.{evidence_law}
use Rattle.pp_machine.specs.Evidence.{Fits, evidence}
use Rattle.pp_machine.specs.Machines.{Seen}
use Rattle.pp_machine.specs.declared.detail.Detail.{Detail}
use Rattle.pp_machine.specs.declared.machine.Outcome.TheVariants.{False}
use Rattle.pp_objects.specs.Objects.{kinds_of, objects}
use Rattle.pp_objects.specs.laws.Objects.{objects_lawful}
use Rattle.pp_objects.specs.declared.act.Op.{Op}
use Rattle.pp_violations.specs.declared.violation.Violation.{Violation}
use Rattle.pp_judge.proofs.Asking.{expansion_asked}
use Rattle.pp_judge.specs.Objects.{object_of, start_of, translation_of}
use Rattle.pp_judge.specs.Running.{HasStarted, IsRejectionOf}
use Rattle.pp_judge.specs.Rejected.{IsStepEvident}
use Rattle.pp_judge.specs.Tallies.{headed, one_more}
use Rattle.pp_judge.specs.declared.driven.Rejection.{Rejection}
use Rattle.pp_cmd_quick.specs.Decisions.{AllHold, steps_behind}
use Rattle.pp_cmd_judge.specs.Engines.{Found, led, own}
use Rattle.pp_cmd_judge.specs.Rejections.{IsRejectedBehind}
use Rattle.pp_cmd_judge.proofs.Ending as ending

-- if the machine finds that a start violates a criterion, the run ends with its rejection: as step 0, on the line of the header
pub start_rejected : (line n : ℕ) (h : Header) (detail : Detail Op) (machine : Seen (List Kind) Op) → HasStarted h (False n detail) machine
    → IsRejectedBehind (headed line h) [] (record { step = 0; line = line; rule = rules.Start; criterion = n; detail = detail })
start_rejected line zero h detail machine s = absurd (omega (arith, s.1))
start_rejected line (suc n) h detail machine s = record {
  run = [];
  number = 0;
  criterion = n;
  is = (ap (λ (d : Detail Op). let x : Rejection = record { step = 0; line = line; rule = rules.Start; criterion = suc n; detail = d } in x) s.2, s.4);
  named = s.3;
  verdict = inl (n, s.0, refl);
  stays = λ more. inl (n, s.0, refl);
}

-- ---- a record

-- the rejection of a step of a record on this line, after so many steps
abbrev pub rejection_by : (steps line : ℕ) → Violation Op → Rejection
rejection_by steps line x = record {
  step = steps + x.offset + 1;
  line = line;
  rule = x.rule;
  criterion = x.criterion;
  detail = x.detail;
}

next_number : (steps all k front : ℕ) → steps ≡ all → front ≡ all + k → steps + k + 1 ≡ suc front
next_number steps all k front x y = omega (arith, x, y)

-- after a header and some records
module _ (h : Header) (rs : Records (RunRecord Op)) where
  abbrev ks : List Kind
  ks = kinds_of h.catalog

  module _ (r : RunRecord Op) (x : Violation Op) where
    -- the place of a violation is below the number of steps of the record
    pub found_below : Found h rs r x ks h.style → x.offset < length (own h rs h.style r)
    found_below k = ending.place_below (own h rs h.style r) x.offset k.0 k.2.there

    -- the run ends with this step
    module _ (steps : ℕ) (steps_are : steps ≡ length (steps_behind h rs)) (holds : AllHold h rs) (k : Found h rs r x ks h.style) (at line : ℕ) (readable : IsReadable h.catalog r) where
      abbrev s : Step Op
      s = k.0

      abbrev n : ℕ
      n = k.1

      abbrev it : Lined (RunRecord Op)
      it = record { line = line; what = r }

      -- the steps before it
      abbrev front : LinedSteps Op
      front = ending.front (object_of h) (translation_of h) (start_of h) rs it x.offset s n k.2.there k.2.before k.2.breaks holds.0 holds.1

      abbrev last : Lined (Step Op)
      last = record { line = line; what = s }

      abbrev before : Config Op
      before = after (start_of h) (bare front)

      sound : Sound (rules_of objects ks) before
      sound =
          run_keeps (object_of h) (bare front) (first (start_of h)) (start_sound (object_of h) (start_of h) holds.0)
          (ending.front_holds (object_of h) (translation_of h) (start_of h) rs it x.offset s n k.2.there k.2.before k.2.breaks holds.0 holds.1)

      evident : IsStepEvident ks before s (suc n)
      evident =
          let asked = expansion_asked h.catalog h.style (led h rs h.style).front (led h rs h.style).config r readable s (ending.in_there (own h rs h.style r) x.offset s k.2.there) in (
            sound,
            (evidence_law objects objects_lawful ks).shows before s n sound asked
                (ending.breaks_there (object_of h) (translation_of h) (start_of h) rs it x.offset s n k.2.there k.2.before k.2.breaks holds.0 holds.1),
          )

      detail_is : x.detail ≡ evidence objects ks before s (suc n)
      detail_is =
          k.5
          ∙ ap (λ (b : Config Op). evidence objects ks b s (suc n))
          (ending.front_leads (object_of h) (translation_of h) (start_of h) rs it x.offset s n k.2.there k.2.before k.2.breaks holds.0 holds.1)

      number_is : steps + x.offset + 1 ≡ suc (length front)
      number_is =
          next_number steps (length (steps_behind h rs)) x.offset (length front) steps_are
          (ending.front_count (object_of h) (translation_of h) (start_of h) rs it x.offset s n k.2.there k.2.before k.2.breaks holds.0 holds.1)

      abbrev numbered : (step : ℕ) → Rule → (criterion : ℕ) → Detail Op → Rejection
      numbered step rule criterion detail = record { step = step; line = line; rule = rule; criterion = criterion; detail = detail }

      rejection_is : rejection_by steps line x ≡ numbered (suc (length front)) (rule_of s) (suc n) (evidence objects ks before s (suc n))
      rejection_is =
          ap (λ (m : ℕ). numbered m x.rule x.criterion x.detail) number_is
          ∙ ap (λ (u : Rule). numbered (suc (length front)) u x.criterion x.detail) k.3
          ∙ ap (λ (m : ℕ). numbered (suc (length front)) (rule_of s) m x.detail) k.4
          ∙ ap (λ (d : Detail Op). numbered (suc (length front)) (rule_of s) (suc n) d) detail_is

      -- what it takes to be the rejection, by the steps before it
      abbrev IsBy : LinedSteps Op → Type 0
      IsBy w = (rejection_by steps line x ≡ numbered (suc (length front)) (rule_of s) (suc n) (evidence objects ks (after (start_of h) (bare w)) s (suc n)))
          × IsStepEvident ks (after (start_of h) (bare w)) s (suc n)

      is_rejection : IsRejectionOf h at (front ++ last ∷ []) (suc (length front)) (suc n) (rejection_by steps line x)
      is_rejection =
          let by : IsBy (take (length front) (front ++ last ∷ [])) = subst (λ (w : LinedSteps Op). IsBy w) (sym (ending.front_there front last)) (rejection_is, evident) in
          (s, ending.last_there front last, by.0, by.1)

      -- the run of these records and of one more ends with the rejection of the step that violates a criterion
      pub rejected_by : IsRejectedBehind (headed at h) (one_more rs line r) (rejection_by steps line x)
      rejected_by = record {
        run = front ++ last ∷ [];
        number = suc (length front);
        criterion = n;
        is = is_rejection;
        named = subst (λ (d : Detail Op). Fits objects ks d) (sym detail_is) ((evidence_law objects objects_lawful ks).fits before s (suc n) sound);
        verdict = ending.verdict (object_of h) (translation_of h) (start_of h) rs it x.offset s n k.2.there k.2.before k.2.breaks holds.0 holds.1;
        stays = λ more.
            subst (λ (w : Records (RunRecord Op)). IsRun (object_of h) (translation_of h) (start_of h) w (front ++ last ∷ [])) (sym (append_assoc rs (it ∷ []) more))
            (ending.run_is (object_of h) (translation_of h) (start_of h) rs it x.offset s n k.2.there k.2.before k.2.breaks holds.0 holds.1 more);
      }
