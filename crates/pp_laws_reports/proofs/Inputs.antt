-- Two accepted inputs with the same report have the same committed transactions.
use Rattle.std.specs.Prelude.{◌≡◌, ◌≤◌, ◌<◌, ◌^◌, ℕ, zero, suc, List, [], ◌∷◌, ◌++◌, length, map, Option, None, Some}
use Rattle.std.proofs.Common.{refl, sym, ap, subst, ◌∙◌, arith}
use Rattle.std.proofs.lemmas.Option.{same_Some}
use mathlib.Core.Logic.{inl, inr}
use Rattle.pp_core.specs.Catalogs.{Objects}
use Rattle.pp_core.specs.declared.entry.CommittedTx.{CommittedTx}
use Rattle.pp_core.specs.declared.entry.Item.{Item}
use Rattle.pp_core.specs.declared.status.Status.TheVariants as statuses
use Rattle.pp_records.specs.Inputs.{Accepts, Faulty, IsReportBehind, IsReportOf, IsRunReport}
use Rattle.pp_records.specs.Inputs.{StartRejected}
use Rattle.pp_records.specs.Runs.{EndsAtFailure, IsRun, Lined, LinedSteps, bare}
use Rattle.pp_records.proofs.Ends.{length_bare}
use Rattle.pp_records.proofs.Whole.{one_run_law}
use Rattle.pp_format_read.specs.declared.header.Header.{Header}
use Rattle.pp_format_write.specs.Statable.{CanStart, IsCatalog, IsStatableRecord, IsStatableRun}
use Rattle.pp_model.specs.Lists.{joined}
use Rattle.pp_model.specs.Config.{Config, first, then}
use Rattle.pp_model.specs.Lists.{Each}
use Rattle.pp_model.specs.Object.{Object, ops, state}
use Rattle.pp_model.specs.Rules.{Accepted, Rejected, RunsFrom, Verdict}
use Rattle.pp_model.specs.Serial.{Attempt, committed_tx, serial}
use Rattle.pp_objects.specs.Objects.{kinds_of, objects}
use Rattle.pp_objects.specs.declared.act.Op.{Op}
use Rattle.pp_objects.specs.declared.states.ObjectState.{ObjectState}
use Rattle.pp_input_reader.specs.declared.cause.Cause.{Cause}
use Rattle.pp_kind.specs.Object.{rules_of}
use Rattle.pp_report.specs.Reports.{accepted_text}
use Rattle.pp_judge.specs.Accepted.{HasRun}
use Rattle.pp_judge.specs.Inputs.{IsFaultOf, scan}
use Rattle.pp_judge.specs.Objects.{object_of, setting_of, start_of, translation_of}
use Rattle.pp_judge.specs.Reports.{IsCertified, IsTold, RunReport}
use Rattle.pp_judge.specs.Scans.{InputScan}
use Rattle.pp_judge.proofs.Restated.{is_restated}
use Rattle.pp_judge.proofs.Stating.{AreStated, stated_scan, steps_stated}
use Rattle.pp_cmd_quick.specs.Decisions.{AllHold, Decision, IsDecisionBehind, IsDecisionTold, IsQuick, acceptance, quick_fault}
use Rattle.pp_cmd_quick.specs.Reports.{quick_accepted_text}
use Rattle.pp_laws_reports.specs.Readable.{AreOneReport, ArePrintable, CertifyLaw, HasHeader, HaveOneSerialRun, QuickLaw, attempts_in, committed_in, final_of, steps_in}
use Rattle.pp_laws_reports.proofs.Committed.{all_printable}
use Rattle.pp_laws_reports.proofs.Texts.{certify_readable, quick_readable}

-- an accepted input has no fault, and its report is that of its run
record IsReported (bytes text : List ℕ) (header : Header) (run : LinedSteps Op) : Type 0 where
  sound : IsFaultOf (scan bytes) None
  printed : text ≡ accepted_text header.catalog (length run) (committed_in header run) (final_of header run)

reported_verdict : (header : Lined Header) (run : LinedSteps Op) (v : Verdict) (report : RunReport) (text : List ℕ) → IsReportOf (setting_of header) run v report → IsTold (Some header) report statuses.Accepted text
    → text ≡ accepted_text header.what.catalog (length run) (committed_in header.what run) (final_of header.what run)
reported_verdict header run Accepted report text is told =
    let here : IsTold (Some header) (Accepts (length run) (attempts_in header.what run) (final_of header.what run)) statuses.Accepted text = subst (λ (w : RunReport). IsTold (Some header) w statuses.Accepted text) is told in
    here.1
reported_verdict header run (Rejected zero n) report text is told =
    let here : IsTold (Some header) (StartRejected header.line n) statuses.Accepted text = subst (λ (w : RunReport). IsTold (Some header) w statuses.Accepted text) is told in
    absurd (let e : statuses.Accepted ≡ statuses.Rejected = here.0 in cc)
reported_verdict header run (Rejected (suc i) n) report text is told =
    let here = subst (λ (w : RunReport). IsTold (Some header) w statuses.Accepted text) is.2 told in
    absurd (let e : statuses.Accepted ≡ statuses.Rejected = here.0 in cc)

not_faulty : {A : Type 0} (o : Option (Lined Header)) (line : ℕ) (cause : Cause) (text : List ℕ) → IsTold o (Faulty line cause) statuses.Accepted text → A
not_faulty None line cause text told = absurd (let e : statuses.Accepted ≡ statuses.InputFault = told.0 in cc)
not_faulty (Some header) line cause text told = absurd (let e : statuses.Accepted ≡ statuses.InputFault = told.0 in cc)

module _ (bytes text : List ℕ) (r : HasRun (scan bytes)) where
  abbrev header : Lined Header
  header = r.header

  reported_run : (report : RunReport) → IsRunReport setting_of (Some header) (scan bytes).records report → IsTold (Some header) report statuses.Accepted text
      → text ≡ accepted_text header.what.catalog (length r.run) (committed_in header.what r.run) (final_of header.what r.run)
  reported_run report (run, v, is, verdict, of) told =
      let same : run ≡ r.run = (one_run_law (object_of header.what) (translation_of header.what)).run (start_of header.what) (scan bytes).records run r.run is r.steps in
      reported_verdict header r.run v report text (subst (λ (w : LinedSteps Op). IsReportOf (setting_of header) w v report) same of) told

  reported_by : (fault : Option (ℕ × Cause)) (report : RunReport) → IsFaultOf (scan bytes) fault → IsReportBehind setting_of fault (scan bytes) report → IsTold (scan bytes).header report statuses.Accepted text → IsReported bytes text header.what r.run
  reported_by (Some f) report is behind told = not_faulty (scan bytes).header f.0 f.1 text (subst (λ (w : RunReport). IsTold (scan bytes).header w statuses.Accepted text) behind told)
  reported_by None report is behind told =
      record {
        sound = is;
        printed = reported_run report (subst (λ (o : Option (Lined Header)). IsRunReport setting_of o (scan bytes).records report) r.first_line behind) (subst (λ (o : Option (Lined Header)). IsTold o report statuses.Accepted text) r.first_line told);
      }

  reported_certified : IsCertified bytes statuses.Accepted text → IsReported bytes text header.what r.run
  reported_certified (report, (fault, is, behind), told) = reported_by fault report is behind told

  statable : IsReported bytes text header.what r.run → IsStatableRun header.what.catalog header.what.start (bare r.run)
  statable t =
      let again = is_restated bytes header r.run (record { sound = t.sound; headed = r.first_line; is = r.steps }) in
      again.statable

-- ---- the final state

items_are : (as' : List (Attempt Op)) → joined (map (λ (x : CommittedTx Op). x.entries) (map committed_tx as')) ≡ joined (map (λ (a : Attempt Op). a.items) as')
items_are [] = refl
items_are (a ∷ as') = ap (λ (w : List (Item Op)). a.items ++ w) (items_are as')

same_serial : (as' bs : List (Attempt Op)) → map committed_tx as' ≡ map committed_tx bs → serial as' ≡ serial bs
same_serial as' bs e =
    ap (λ (w : List (Item Op)). ops w) (sym (items_are as') ∙ ap (λ (w : List (CommittedTx Op)). joined (map (λ (x : CommittedTx Op). x.entries) w)) e ∙ items_are bs)

small : (n : ℕ) → n ≤ 200_000 → n < 2 ^ 64
small n h = omega arith

-- ---- an accepted input has a run

run_of_report : (sc : InputScan) (o : Option (Lined Header)) (report : RunReport) → sc.header ≡ o → IsRunReport setting_of o sc.records report → HasRun sc
run_of_report sc None report first r = absurd r
run_of_report sc (Some h) report first (run, v, is, verdict, of) = record { header = h; run = run; first_line = first; steps = is }

run_of_certified : (sc : InputScan) (fault : Option (ℕ × Cause)) (report : RunReport) (text : List ℕ) → IsReportBehind setting_of fault sc report → IsTold sc.header report statuses.Accepted text → HasRun sc
run_of_certified sc (Some f) report text behind told = not_faulty sc.header f.0 f.1 text (subst (λ (w : RunReport). IsTold sc.header w statuses.Accepted text) behind told)
run_of_certified sc None report text behind told = run_of_report sc sc.header report refl behind

has_run : (bytes text : List ℕ) → IsCertified bytes statuses.Accepted text → HasRun (scan bytes)
has_run bytes text (report, (fault, is, behind), told) = run_of_certified (scan bytes) fault report text behind told

-- ---- what certify prints

same_state : (x y : Header) (k l : List Op) → x.catalog ≡ y.catalog → k ≡ l → state (object_of x) k ≡ state (object_of y) l
same_state x y k l same same_ops = ap (λ (c : Objects). state (rules_of objects (kinds_of c)) k) same ∙ ap (λ (w : List Op). state (object_of y) w) same_ops

-- runs whose reports state the same have one serial run
serial_run : (x y : Header) (run again : LinedSteps Op) (m n : ℕ) → AreOneReport x.catalog y.catalog m n (committed_in x run) (committed_in y again) → HaveOneSerialRun x y run again
serial_run x y run again m n law =
    record {
      names = law.names;
      committed = law.committed;
      final = λ same. same_state x y (serial (attempts_in x run)) (serial (attempts_in y again)) same (same_serial (attempts_in x run) (attempts_in y again) law.committed);
    }

same_runs : (bytes other text : List ℕ) (r : HasRun (scan bytes)) (q : HasRun (scan other)) → IsCertified bytes statuses.Accepted text → IsCertified other statuses.Accepted text
    → (length r.run ≡ length q.run) × HaveOneSerialRun r.header.what q.header.what r.run q.run
same_runs bytes other text r q is also =
    let x = r.header.what in
    let y = q.header.what in
    let one = reported_certified bytes text r is in
    let two = reported_certified other text q also in
    let here = statable bytes text r one in
    let there = statable other text q two in
    let a : ArePrintable x.catalog (committed_in x r.run) = all_printable x.catalog x.start (bare r.run) here.begun here.each in
    let b : ArePrintable y.catalog (committed_in y q.run) = all_printable y.catalog y.start (bare q.run) there.begun there.each in
    let law = certify_readable x.catalog y.catalog (length r.run) (length q.run) (committed_in x r.run) (committed_in y q.run) (final_of x r.run) (final_of y q.run) here.over there.over a b (sym one.printed ∙ two.printed) in
    let few_r : length r.run ≤ 200_000 = subst (λ (n : ℕ). n ≤ 200_000) (length_bare r.run) here.few in
    let few_q : length q.run ≤ 200_000 = subst (λ (n : ℕ). n ≤ 200_000) (length_bare q.run) there.few in
    (law.count (small (length r.run) few_r) (small (length q.run) few_q), serial_run x y r.run q.run (length r.run) (length q.run) law)

-- Accepted inputs with the same report of `certify` have the same committed transactions.
pub certify_law : CertifyLaw
certify_law bytes other text is also = (has_run bytes text is, has_run other text also, λ r q. same_runs bytes other text r q is also)

-- ---- what quick prints

-- all steps of records are their run, if all of them meet their criteria
ends_with_all : (O : Object Op (List ObjectState)) (c : Config Op) (ss : LinedSteps Op) → RunsFrom O c (bare ss) → EndsAtFailure O c ss ss
ends_with_all O c [] runs = refl
ends_with_all O c (s ∷ ss) runs = inr (runs.0, ((ss, ends_with_all O (then c s.what) ss runs.1, refl)))

-- an input that quick accepts, with this header
record IsDecided (bytes text : List ℕ) (h : Lined Header) : Type 0 where
  hold : AllHold h.what (scan bytes).records
  printed : text ≡ quick_accepted_text h.what.catalog (length (scan bytes).records) (committed_in h.what (steps_in h (scan bytes))) (final_of h.what (steps_in h (scan bytes)))

module _ (bytes text : List ℕ) (h : Lined Header) (there : (scan bytes).header ≡ Some h) where
  same_header : (g : Lined Header) → (scan bytes).header ≡ Some g → g ≡ h
  same_header g is = same_Some g h (sym is ∙ there)

  decided_accepts : (g : Lined Header) (decision : Decision) → (scan bytes).header ≡ Some g → AllHold g.what (scan bytes).records → decision ≡ acceptance g.what (scan bytes).records → IsDecisionTold (scan bytes).header decision statuses.Accepted text → IsDecided bytes text h
  decided_accepts g decision is hold of told =
      let here = subst (λ (d : Decision). IsDecisionTold (scan bytes).header d statuses.Accepted text) of told in
      let named : text ≡ quick_accepted_text here.1.0.what.catalog (length (scan bytes).records) (committed_in g.what (steps_in g (scan bytes))) (final_of g.what (steps_in g (scan bytes))) = here.1.2 in
      let over : text ≡ quick_accepted_text h.what.catalog (length (scan bytes).records) (committed_in g.what (steps_in g (scan bytes))) (final_of g.what (steps_in g (scan bytes))) =
      subst (λ (w : Lined Header). text ≡ quick_accepted_text w.what.catalog (length (scan bytes).records) (committed_in g.what (steps_in g (scan bytes))) (final_of g.what (steps_in g (scan bytes)))) (same_header here.1.0 here.1.1) named in
      record {
        hold = subst (λ (w : Lined Header). AllHold w.what (scan bytes).records) (same_header g is) hold;
        printed = subst (λ (w : Lined Header). text ≡ quick_accepted_text h.what.catalog (length (scan bytes).records) (committed_in w.what (steps_in w (scan bytes))) (final_of w.what (steps_in w (scan bytes)))) (same_header g is) over;
      }

  decided_by : (fault : Option (ℕ × Cause)) (decision : Decision) → IsDecisionBehind fault (scan bytes) decision → IsDecisionTold (scan bytes).header decision statuses.Accepted text → IsDecided bytes text h
  decided_by (Some f) decision behind told =
      let here = subst (λ (d : Decision). IsDecisionTold (scan bytes).header d statuses.Accepted text) behind told in
      absurd (let e : statuses.Accepted ≡ statuses.InputFault = here.0 in cc)
  decided_by None decision (g, is, inl good) told = decided_accepts g decision is good.0 good.1 told
  decided_by None decision (g, is, inr bad) told =
      let here = subst (λ (d : Decision). IsDecisionTold (scan bytes).header d statuses.Accepted text) bad.2 told in
      absurd (let e : statuses.Accepted ≡ statuses.Rejected = here.0 in cc)

  decided : IsQuick bytes statuses.Accepted text → IsDecided bytes text h
  decided (decision, is, told) = decided_by (quick_fault (scan bytes)) decision is told

  stated : IsCatalog h.what.catalog × CanStart h.what.catalog h.what.start × Each (IsStatableRecord h.what.catalog) (bare (scan bytes).records)
  stated =
      let sc = stated_scan bytes in
      subst (λ (o : Option (Lined Header)). AreStated o (scan bytes).records) there sc.stated

  quick_printable : AllHold h.what (scan bytes).records → ArePrintable h.what.catalog (committed_in h.what (steps_in h (scan bytes)))
  quick_printable hold =
      let O = object_of h.what in
      let run : LinedSteps Op = steps_in h (scan bytes) in
      let is : IsRun O (translation_of h.what) (start_of h.what) (scan bytes).records run = inr (hold.0, ends_with_all O (first (start_of h.what)) run hold.1) in
      all_printable h.what.catalog h.what.start (bare run) stated.1 (steps_stated h.what (scan bytes).records run stated.1 stated.2 is)

header_of_decision : (sc : InputScan) (fault : Option (ℕ × Cause)) (decision : Decision) (text : List ℕ) → IsDecisionBehind fault sc decision → IsDecisionTold sc.header decision statuses.Accepted text → HasHeader sc
header_of_decision sc (Some f) decision text behind told =
    let here = subst (λ (d : Decision). IsDecisionTold sc.header d statuses.Accepted text) behind told in
    absurd (let e : statuses.Accepted ≡ statuses.InputFault = here.0 in cc)
header_of_decision sc None decision text behind told = (behind.0, behind.1)

has_header : (bytes text : List ℕ) → IsQuick bytes statuses.Accepted text → HasHeader (scan bytes)
has_header bytes text (decision, is, told) = header_of_decision (scan bytes) (quick_fault (scan bytes)) decision text is told

same_decided : (bytes other text : List ℕ) → IsQuick bytes statuses.Accepted text → IsQuick other statuses.Accepted text → (h k : Lined Header) → (scan bytes).header ≡ Some h → (scan other).header ≡ Some k
    → HaveOneSerialRun h.what k.what (steps_in h (scan bytes)) (steps_in k (scan other))
same_decided bytes other text is also h k here there =
    let one = decided bytes text h here is in
    let two = decided other text k there also in
    let x = h.what in
    let y = k.what in
    let run : LinedSteps Op = steps_in h (scan bytes) in
    let again : LinedSteps Op = steps_in k (scan other) in
    let m = length (scan bytes).records in
    let n = length (scan other).records in
    let over = stated bytes text h here in
    let under = stated other text k there in
    let law = quick_readable x.catalog y.catalog m n (committed_in x run) (committed_in y again) (final_of x run) (final_of y again) over.0 under.0 (quick_printable bytes text h here one.hold) (quick_printable other text k there two.hold) (sym one.printed ∙ two.printed) in
    serial_run x y run again m n law

-- Accepted inputs with the same report of `quick` have the same committed transactions.
pub quick_law : QuickLaw
quick_law bytes other text is also = (has_header bytes text is, has_header other text also, λ h k here there. same_decided bytes other text is also h k here there)
