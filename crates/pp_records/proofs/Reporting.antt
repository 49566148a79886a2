-- An input has one fault and one report at most.
use Rattle.std.specs.Prelude.{◌≡◌, ◌≤◌, ◌↔◌, ℕ, zero, suc, List, [], ◌∷◌, ◌++◌, length, slice_get}
use Rattle.std.specs.Prelude.{take, Option, None, Some}
use Rattle.std.proofs.Common.{refl, sym, ap, subst, ◌∙◌}
use Rattle.std.proofs.lemmas.Option.{same_Some}
use mathlib.Core.Logic.{inl, inr}
use Rattle.pp_model.specs.Config.{Step, after}
use Rattle.pp_model.specs.Rules.{Accepted, IsVerdict, Rejected, Verdict}
use Rattle.pp_model.proofs.Verdict.{one_verdict}
use Rattle.pp_records.specs.Records.{RunRecord}
use Rattle.pp_records.specs.Fronts.{Front}
use Rattle.pp_records.specs.Inputs.{InputLaw, IsFault, IsReport, IsReportBehind, IsReportOf}
use Rattle.pp_records.specs.Inputs.{IsRunReport, OverrunsAt, Report, Scan, Setting, StepRejected}
use Rattle.pp_records.specs.Inputs.{Widens, steps_of}
use Rattle.pp_records.specs.Laws.{up_to}
use Rattle.pp_records.specs.PlainInputs.{AreStyled, PlainInputLaw}
use Rattle.pp_records.specs.Runs.{IsRun, Lined, Translation, bare, joined_steps, outset}
use Rattle.pp_records.specs.Styles.{plain, translation}
use Rattle.pp_records.proofs.Ends.{few_steps}
use Rattle.pp_records.proofs.Restating.{plain_steps}
use Rattle.pp_records.proofs.Whole.{extends_law, one_run_law}

taken_at : {A : Type 0} (i : ℕ) (xs : List A) → slice_get (take (suc i) xs) i ≡ slice_get xs i
taken_at zero [] = refl
taken_at zero (x ∷ xs) = refl
taken_at (suc i) [] = refl
taken_at (suc i) (x ∷ xs) = taken_at i xs

taken_twice : {A : Type 0} (i : ℕ) (xs : List A) → take i (take (suc i) xs) ≡ take i xs
taken_twice zero xs = refl
taken_twice (suc i) [] = refl
taken_twice {A} (suc i) (x ∷ xs) = ap (λ (w : List A). x ∷ w) (taken_twice i xs)

module _ {F R Op State Cause : Type 0} (s : Setting F R Op State) where
  report_off : (all : List (Lined (Step Op))) (v : Verdict) (r : Report Op State Cause) → IsReportOf s (up_to v all) v r → IsReportOf s all v r
  report_off all Accepted r k = k
  report_off all (Rejected zero n) r k = k
  report_off all (Rejected (suc i) n) r k =
      (k.0, sym (taken_at i all) ∙ k.1, k.2 ∙ ap (λ (w : List (Lined (Step Op))). StepRejected (suc i) k.0.line n (after s.start (bare w)) k.0.what) (taken_twice i all))

  report_on : (all : List (Lined (Step Op))) (v : Verdict) (r : Report Op State Cause) → IsReportOf s all v r → IsReportOf s (up_to v all) v r
  report_on all Accepted r k = k
  report_on all (Rejected zero n) r k = k
  report_on all (Rejected (suc i) n) r k =
      (k.0, taken_at i all ∙ k.1, k.2 ∙ ap (λ (w : List (Lined (Step Op))). StepRejected (suc i) k.0.line n (after s.start (bare w)) k.0.what) (sym (taken_twice i all)))

  one_report_of : (all : List (Lined (Step Op))) (v : Verdict) (r q : Report Op State Cause) → IsReportOf s all v r → IsReportOf s all v q → r ≡ q
  one_report_of all Accepted r q a b = a ∙ sym b
  one_report_of all (Rejected zero n) r q a b = a ∙ sym b
  one_report_of all (Rejected (suc i) n) r q a b =
      a.2 ∙ ap (λ (w : Lined (Step Op)). StepRejected (suc i) w.line n (after s.start (bare (take i all))) w.what) (same_Some a.0 b.0 (sym a.1 ∙ b.1)) ∙ sym b.2

module _ {H F R Op State Cause : Type 0} (setting : H → Setting F R Op State) (too_many : Cause) where
  run_report_to : (h : H) (rs : List (Lined R)) (r : Report Op State Cause) → IsRunReport setting (Some h) rs r →
      (v : Verdict) × IsVerdict (setting h).object (setting h).start (bare (steps_of (setting h) rs)) v × IsReportOf (setting h) (steps_of (setting h) rs) v r
  run_report_to h rs r k =
      let s : Setting F R Op State = setting h in
      let law = one_run_law s.object s.translation in
      let run : List (Lined (Step Op)) = k.0 in
      let v : Verdict = k.1 in
      let whole : IsVerdict s.object s.start (bare (steps_of s rs)) v = (law.verdict s.start rs run v k.2).0 k.3 in
      let is : run ≡ up_to v (steps_of s rs) = law.run s.start rs run (up_to v (steps_of s rs)) k.2 (law.told s.start rs v whole) in
      (v, whole, report_off s (steps_of s rs) v r (subst (λ (w : List (Lined (Step Op))). IsReportOf s w v r) is k.4))

  run_report_of : (h : H) (rs : List (Lined R)) (r : Report Op State Cause) →
      (v : Verdict) × IsVerdict (setting h).object (setting h).start (bare (steps_of (setting h) rs)) v × IsReportOf (setting h) (steps_of (setting h) rs) v r →
      IsRunReport setting (Some h) rs r
  run_report_of h rs r k =
      let s : Setting F R Op State = setting h in
      let law = one_run_law s.object s.translation in
      let v : Verdict = k.0 in
      let run : List (Lined (Step Op)) = up_to v (steps_of s rs) in
      let told : IsRun s.object s.translation s.start rs run = law.told s.start rs v k.1 in
      (run, v, told, (law.verdict s.start rs run v told).1 k.1, report_on s (steps_of s rs) v r k.2)

  one_overrun : (ho : Option H) (rs : List (Lined R)) (m n : ℕ) → OverrunsAt setting ho rs m → OverrunsAt setting ho rs n → m ≡ n
  one_overrun None rs m n a b = absurd a
  one_overrun (Some h) rs m n a b = (one_run_law (setting h).object (setting h).translation).line (setting h).start rs m n a b

  one_fault : (sc : Scan H R Cause) (f g : Option (ℕ × Cause)) → IsFault setting too_many sc f → IsFault setting too_many sc g → f ≡ g
  one_fault sc f g (inl a) (inl b) = a.2 ∙ ap (λ (w : ℕ). Some (w, too_many)) (one_overrun sc.header sc.records a.0 b.0 a.1 b.1) ∙ sym b.2
  one_fault sc f g (inl a) (inr b) = absurd (b.0 a.0 a.1)
  one_fault sc f g (inr a) (inl b) = absurd (a.0 b.0 b.1)
  one_fault sc f g (inr a) (inr b) = a.1 ∙ sym b.1

  one_run_report : (ho : Option H) (rs : List (Lined R)) (r q : Report Op State Cause) → IsRunReport setting ho rs r → IsRunReport setting ho rs q → r ≡ q
  one_run_report None rs r q a b = absurd a
  one_run_report (Some h) rs r q a b =
      let s : Setting F R Op State = setting h in
      let x = run_report_to h rs r a in
      let y = run_report_to h rs q b in
      let same : x.0 ≡ y.0 = one_verdict s.object s.start (bare (steps_of s rs)) x.0 y.0 x.1 y.1 in
      one_report_of s (steps_of s rs) y.0 r q (subst (λ (w : Verdict). IsReportOf s (steps_of s rs) w r) same x.2) y.2

  one_behind : (f : Option (ℕ × Cause)) (sc : Scan H R Cause) (r q : Report Op State Cause) → IsReportBehind setting f sc r → IsReportBehind setting f sc q → r ≡ q
  one_behind (Some f) sc r q a b = a ∙ sym b
  one_behind None sc r q a b = one_run_report sc.header sc.records r q a b

  one_report : (sc : Scan H R Cause) (r q : Report Op State Cause) → IsReport setting too_many sc r → IsReport setting too_many sc q → r ≡ q
  one_report sc r q a b =
      one_behind b.0 sc r q (subst (λ (w : Option (ℕ × Cause)). IsReportBehind setting w sc r) (one_fault sc a.0 b.0 a.1 b.1) a.2) b.2

  -- a fault stays
  overrun_stays : (ho wo : Option H) (rs more : List (Lined R)) (line : ℕ) → ((h : H) → ho ≡ Some h → wo ≡ Some h) → OverrunsAt setting ho rs line → OverrunsAt setting wo (rs ++ more) line
  overrun_stays None wo rs more line same m = absurd m
  overrun_stays (Some h) wo rs more line same m =
      subst (λ (w : Option H). OverrunsAt setting w (rs ++ more) line) (sym (same h refl))
      ((extends_law (setting h).object (setting h).translation).too_many (setting h).start rs more line m)

  fault_stays : (sc wider : Scan H R Cause) (f : ℕ × Cause) → Widens sc wider → IsFault setting too_many sc (Some f) → IsFault setting too_many wider (Some f)
  fault_stays sc wider f w (inl a) =
      inl (a.0, subst (λ (k : List (Lined R)). OverrunsAt setting wider.header k a.0) (sym w.records.1) (overrun_stays sc.header wider.header sc.records w.records.0 a.0 w.header a.1), a.2)
  fault_stays sc wider f w (inr a) = subst (λ (k : Scan H R Cause). IsFault setting too_many k (Some f)) (sym (w.fault f (sym a.1))) (inr a)

  -- An input has at most one fault and one report.
  pub input_law : InputLaw setting too_many
  input_law =
      record {
        one_fault = one_fault;
        one_report = one_report;
        stays = fault_stays;
        unfolded = λ h rs r. (run_report_to h rs r, run_report_of h rs r);
      }

-- records that are steps
module _ {H Op State Cause : Type 0} (setting : H → Setting Front (RunRecord Op) Op State) (too_many : Cause) where
  plain_are : AreStyled setting → (h : H) (ss : List (Lined (Step Op))) → steps_of (setting h) (plain ss) ≡ ss
  plain_are rules h ss =
      let k = rules h in
      ap (λ (w : Translation Front (RunRecord Op) Op). joined_steps w (outset w (setting h).start) (plain ss)) k.3
      ∙ plain_steps k.0 k.1 k.2 (outset (translation k.0 k.1 k.2) (setting h).start) ss

  no_overrun : AreStyled setting → (ho : Option H) (ss : List (Lined (Step Op))) → length ss ≤ 200_000 → (line : ℕ) → OverrunsAt setting ho (plain ss) line → ⊥
  no_overrun rules None ss few line m = m
  no_overrun rules (Some h) ss few line m =
      few_steps (setting h).object 200_000 _ (steps_of (setting h) (plain ss)) line (subst (λ (w : List (Lined (Step Op))). length w ≤ 200_000) (sym (plain_are rules h ss)) few) m.1

  plain_fault : AreStyled setting → (header : Option H) (ss : List (Lined (Step Op))) (scanned f : Option (ℕ × Cause)) → length ss ≤ 200_000 →
      IsFault setting too_many (record { header = header; records = plain ss; fault = scanned }) f → f ≡ scanned
  plain_fault rules header ss scanned f few (inl a) = absurd (no_overrun rules header ss few a.0 a.1)
  plain_fault rules header ss scanned f few (inr a) = a.1

  -- The fault of an input is that of its scan, and its report that of the verdict of its steps.
  pub plain_input_law : PlainInputLaw setting too_many
  plain_input_law =
      record {
        fault = λ rules header ss scanned f few. (plain_fault rules header ss scanned f few, λ e. inr (no_overrun rules header ss few, e));
        report = λ rules h ss r.
            subst (λ (w : List (Lined (Step Op))). IsRunReport setting (Some h) (plain ss) r ↔ ((v : Verdict) × IsVerdict (setting h).object (setting h).start (bare w) v × IsReportOf (setting h) w v r))
            (plain_are rules h ss) (run_report_to setting too_many h (plain ss) r, run_report_of setting too_many h (plain ss) r);
      }
