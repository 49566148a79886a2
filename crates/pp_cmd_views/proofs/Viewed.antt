-- An input has one output, and the properties of this output.
use Rattle.std.specs.Prelude.{◌≡◌, ◌≤◌, ◌<◌, ◌+◌, ℕ, zero, suc, List, [], ◌∷◌, length, map, Option, None, Some}
use Rattle.std.proofs.Common.{refl, sym, ap, ◌∙◌, subst, arith}
use mathlib.Core.Logic.{inl, inr}
use Rattle.pp_core.specs.declared.entry.CommittedTx.{CommittedTx}
use Rattle.pp_core.specs.declared.limits.TheConstants.{MOST_VIEWED}
use Rattle.pp_core.specs.declared.status.Status.{Status}
use Rattle.pp_core.specs.declared.status.Status.TheVariants as statuses
use Rattle.pp_core.specs.Steps.{Step}
use Rattle.pp_records.specs.Inputs.{Faulty, IsReportBehind, IsRunReport}
use Rattle.pp_records.specs.Runs.{Lined, bare}
use Rattle.pp_format_read.specs.declared.header.Header.{Header}
use Rattle.pp_model.proofs.Verdict.{accepted_iff}
use Rattle.pp_model.specs.Config.{first}
use Rattle.pp_model.specs.Object.{Object}
use Rattle.pp_model.specs.Rules.{Accepted, Rejected, RunsFrom, StartMeets}
use Rattle.pp_model.specs.Serial.{attempts, committed_tx}
use Rattle.pp_objects.specs.declared.act.Op.{Op}
use Rattle.pp_input_reader.specs.declared.cause.Cause.{Cause}
use Rattle.pp_attempts.specs.declared.peak.Peak.{Peak}
use Rattle.pp_attempts.specs.Peaks.{operations, peaks}
use Rattle.pp_attempts.specs.declared.view.View.{View}
use Rattle.pp_attempts.specs.Views.{Explains, IsViewBelow, Pairwise}
use Rattle.pp_attempts.proofs.KeptPeaks.{kept_peak, one_least}
use Rattle.pp_judge.proofs.Concluding.{one_certified, only_run}
use Rattle.pp_judge.specs.Accepted.{HasRun}
use Rattle.pp_judge.specs.Inputs.{scan}
use Rattle.pp_judge.specs.Objects.{object_of, setting_of, start_of}
use Rattle.pp_judge.specs.Reports.{IsCertified, IsTold, RunReport}
use Rattle.pp_judge.specs.Scans.{InputScan}
use Rattle.pp_cmd_views.specs.Laws.{KeptViewLaw}
use Rattle.pp_cmd_views.specs.Outputs.{IsRunTold, IsStepsTold, IsViews, IsViewsOf, IsViewsText}
use Rattle.pp_cmd_views.specs.Texts.{views_text}

-- ---- one list of views

one_view : {State : Type 0} (m : ℕ) (O : Object Op State) (D : List (CommittedTx Op)) (p : Peak Op) (v w : View) → IsViewBelow m O D p v → IsViewBelow m O D p w → v ≡ w
one_view m O D p v w a b =
    ap (λ (x : List ℕ). let r : View = record { tx = x; ops = v.ops; after = v.after } in r) (a.tx ∙ sym b.tx)
    ∙ ap (λ (x : ℕ). let r : View = record { tx = w.tx; ops = x; after = v.after } in r) (a.ops ∙ sym b.ops)
    ∙ ap (λ (x : Option ℕ). let r : View = record { tx = w.tx; ops = w.ops; after = x } in r) (one_least m (Explains O D p.ops) v.after w.after a.after b.after)

one_list : {State : Type 0} (m : ℕ) (O : Object Op State) (D : List (CommittedTx Op)) (ps : List (Peak Op)) (vs ws : List View) → Pairwise (IsViewBelow m O D) ps vs → Pairwise (IsViewBelow m O D) ps ws → vs ≡ ws
one_list m O D [] [] [] a b = refl
one_list m O D [] [] (w ∷ ws) a b = absurd b
one_list m O D [] (v ∷ vs) ws a b = absurd a
one_list m O D (p ∷ ps) [] ws a b = absurd a
one_list m O D (p ∷ ps) (v ∷ vs) [] a b = absurd b
one_list m O D (p ∷ ps) (v ∷ vs) (w ∷ ws) a b =
    ap (λ (x : View). x ∷ vs) (one_view m O D p v w a.0 b.0) ∙ ap (λ (x : List View). w ∷ x) (one_list m O D ps vs ws a.1 b.1)

-- ---- one output

not_both : (n : ℕ) → n ≤ MOST_VIEWED → MOST_VIEWED < n → ⊥
not_both n few many = omega (arith, few, many)

one_text : (header : Header) (steps : List (Step Op)) (t u : List ℕ) → IsViewsText header steps t → IsViewsText header steps u → t ≡ u
one_text header steps t u (vs, are, is) (ws, are', is') =
    let D = map committed_tx (attempts (start_of header) steps) in
    is ∙ ap (λ (x : List View). views_text (length steps) (length D) x) (one_list (length D + 1) (object_of header) D (peaks steps) vs ws are are') ∙ sym is'

one_told : (header : Header) (steps : List (Step Op)) (s s' : Status) (t t' : List ℕ) → IsStepsTold header steps s t → IsStepsTold header steps s' t' → (s ≡ s') × (t ≡ t')
one_told header steps s s' t t' (inl a) (inl b) = (a.1 ∙ sym b.1, one_text header steps t t' a.2 b.2)
one_told header steps s s' t t' (inl a) (inr b) = absurd (not_both (operations (peaks steps)) a.0 b.0)
one_told header steps s s' t t' (inr a) (inl b) = absurd (not_both (operations (peaks steps)) b.0 a.0)
one_told header steps s s' t t' (inr a) (inr b) = (a.1 ∙ sym b.1, a.2 ∙ sym b.2)

one_run_told : (sc : InputScan) (s s' : Status) (t t' : List ℕ) → IsRunTold sc s t → IsRunTold sc s' t' → (s ≡ s') × (t ≡ t')
one_run_told sc s s' t t' a b =
    one_told b.0.header.what (bare b.0.run) s s' t t' (only_run sc a.0 b.0 (λ head run. IsStepsTold head.what (bare run) s t) a.1) b.1

one_output : (sc : InputScan) (how : Status) (r q : List ℕ) (s s' : Status) (t t' : List ℕ) → r ≡ q → IsViewsOf sc how r s t → IsViewsOf sc how q s' t' → (s ≡ s') × (t ≡ t')
one_output sc statuses.Accepted r q s s' t t' same a b = one_run_told sc s s' t t' a b
one_output sc statuses.Rejected r q s s' t t' same a b = (a.0 ∙ sym b.0, a.1 ∙ same ∙ sym b.1)
one_output sc statuses.InputFault r q s s' t t' same a b = (a.0 ∙ sym b.0, a.1 ∙ same ∙ sym b.1)
one_output sc statuses.BadWords r q s s' t t' same a b = absurd a
one_output sc statuses.ReadFault r q s s' t t' same a b = absurd a
one_output sc statuses.WriteFault r q s s' t t' same a b = absurd a
one_output sc statuses.OutOfMemory r q s s' t t' same a b = absurd a
one_output sc statuses.TooLarge r q s s' t t' same a b = absurd a

-- An input has one status and one text at most.
pub one_views : (bytes : List ℕ) (s s' : Status) (t t' : List ℕ) → IsViews bytes s t → IsViews bytes s' t' → (s ≡ s') × (t ≡ t')
one_views bytes s s' t t' (how, report, certified, is) (how', report', certified', is') =
    let one = one_certified bytes how how' report report' certified certified' in
    one_output (scan bytes) how' report report' s s' t t' one.1 (subst (λ (w : Status). IsViewsOf (scan bytes) w report s t) one.0 is) is'

-- ---- the last attempt of a committed transaction

-- Each step of a run of the scan meets its criteria.
record MeetsAll (sc : InputScan) : Type 0 where
  pub own : HasRun sc
  pub begun : StartMeets (object_of own.header.what) (start_of own.header.what)
  pub hold : RunsFrom (object_of own.header.what) (first (start_of own.header.what)) (bare own.run)

meets_by : (sc : InputScan) (o : Option (Lined Header)) → sc.header ≡ o → (report : RunReport) (text : List ℕ) → IsRunReport setting_of o sc.records report → IsTold o report statuses.Accepted text → MeetsAll sc
meets_by sc None is report text r t = absurd r
meets_by sc (Some h) is report text (run, Accepted, run_is, v, r) t =
    let both = (accepted_iff (object_of h.what) (start_of h.what) (bare run)).0 v in
    record { own = record { header = h; run = run; first_line = is; steps = run_is }; begun = both.0; hold = both.1 }
meets_by sc (Some h) is report text (run, Rejected zero n, run_is, v, r) t =
    absurd (let told = subst (λ (w : RunReport). IsTold (Some h) w statuses.Accepted text) r t in let e : statuses.Accepted ≡ statuses.Rejected = told.0 in cc)
meets_by sc (Some h) is report text (run, Rejected (suc i) n, run_is, v, r) t =
    absurd (let told = subst (λ (w : RunReport). IsTold (Some h) w statuses.Accepted text) r.2 t in let e : statuses.Accepted ≡ statuses.Rejected = told.0 in cc)

no_fault : (o : Option (Lined Header)) (report : RunReport) (line : ℕ) (cause : Cause) (text : List ℕ) → report ≡ Faulty line cause → IsTold o report statuses.Accepted text → ⊥
no_fault None report line cause text r t = let told = subst (λ (w : RunReport). IsTold None w statuses.Accepted text) r t in let e : statuses.Accepted ≡ statuses.InputFault = told.0 in cc
no_fault (Some h) report line cause text r t = let told = subst (λ (w : RunReport). IsTold (Some h) w statuses.Accepted text) r t in let e : statuses.Accepted ≡ statuses.InputFault = told.0 in cc

meets_behind : (sc : InputScan) (fault : Option (ℕ × Cause)) (report : RunReport) (text : List ℕ) → IsReportBehind setting_of fault sc report → IsTold sc.header report statuses.Accepted text → MeetsAll sc
meets_behind sc (Some x) report text r t = absurd (no_fault sc.header report x.0 x.1 text r t)
meets_behind sc None report text r t = meets_by sc sc.header refl report text r t

meets_all : (bytes text : List ℕ) → IsCertified bytes statuses.Accepted text → MeetsAll (scan bytes)
meets_all bytes text r = meets_behind (scan bytes) r.1.0 r.0 text r.1.2 r.2

-- In an accepted run, the last peak of a transaction that undid nothing after it has a number, at most its place in commit order.
pub kept_views : KeptViewLaw
kept_views bytes report certified r =
    let sc : InputScan = scan bytes in
    let m = meets_all bytes report certified in
    let both = only_run sc m.own r (λ head run. StartMeets (object_of head.what) (start_of head.what) × RunsFrom (object_of head.what) (first (start_of head.what)) (bare run)) (m.begun, m.hold) in
    kept_peak (object_of r.header.what) (start_of r.header.what) both.0 (bare r.run) both.1
