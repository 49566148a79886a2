-- An input has one output of `opaque`, and what this says of the input.
use Rattle.std.specs.Prelude.{◌≡◌, ℕ, List}
use Rattle.std.proofs.Common.{refl, sym, ◌∙◌, subst}
use mathlib.Core.Logic.{inl, inr}
use Rattle.pp_core.specs.declared.call.Kind.{Kind}
use Rattle.pp_core.specs.declared.call.Style.{Style}
use Rattle.pp_core.specs.declared.call.Style.TheVariants.{Boosted}
use Rattle.pp_core.specs.declared.status.Status.{Status}
use Rattle.pp_core.specs.declared.status.Status.TheVariants as statuses
use Rattle.pp_records.proofs.Whole.{one_run_law}
use Rattle.pp_records.specs.Expansions.{IsOfStyle}
use Rattle.pp_records.specs.Records.{RunRecord}
use Rattle.pp_records.specs.Runs.{Lined, bare, joined_steps, outset}
use Rattle.pp_records.specs.Styles.{translation}
use Rattle.pp_model.specs.Config.{Step, first}
use Rattle.pp_model.specs.Lists.{In}
use Rattle.pp_model.specs.Rules.{Accepted, RunsFrom, StartMeets}
use Rattle.pp_model.proofs.Verdict.{accepted_iff}
use Rattle.pp_objects.specs.Objects.{kinds_of, place_of}
use Rattle.pp_objects.specs.declared.act.Op.{Op}
use Rattle.pp_machine.specs.Machines.{Seen}
use Rattle.pp_laws_opacity.proofs.Boosted.{boosted_opaque}
use Rattle.pp_laws_opacity.proofs.Orders.{ordered}
use Rattle.pp_laws_opacity.specs.Opacity.{IsOpaque}
use Rattle.pp_judge.proofs.Concluding.{accepted_run, has_run, one_certified, only_run}
use Rattle.pp_judge.proofs.Exact.{certified_exact}
use Rattle.pp_judge.specs.Accepted.{EachStepMeets, HasRun}
use Rattle.pp_judge.specs.Inputs.{scan}
use Rattle.pp_judge.specs.Objects.{object_of, start_of, translation_of}
use Rattle.pp_judge.specs.Reports.{IsCertified}
use Rattle.pp_judge.specs.Scans.{InputScan}
use Rattle.pp_judge.specs.declared.progress.Tally.{Tally}
use Rattle.pp_cmd_views.proofs.Telling.{own_run, steps_are}
use Rattle.pp_cmd_views.specs.Taken.{HasSteps}
use Rattle.pp_cmd_opaque.specs.Kept.{AreOfStyle}
use Rattle.pp_cmd_opaque.specs.Meanings.{HasOpaqueRun, HasOrderedRun, IsBoostedOpaque, IsFirstZombie, IsOpaqueExactly, MeetsAll}
use Rattle.pp_cmd_opaque.specs.Outputs.{IsOpaqueOutput, IsOutputOf, IsRunOutput, IsScanOutput, IsZombieText}
use Rattle.pp_cmd_opaque.proofs.Zombies.{one_run_output, opaque_no_zombie, some_run_output}

-- ---- how an input is certified

-- If the status of `opaque` is accepted, the input is certified as accepted.
pub accepted_how : (sc : InputScan) (how : Status) (report text : List ℕ) → IsOutputOf sc how report statuses.Accepted text → how ≡ statuses.Accepted
accepted_how sc statuses.Accepted report text is = refl
accepted_how sc statuses.Rejected report text is = absurd (let no : statuses.Accepted ≡ statuses.Rejected = is.0 in cc)
accepted_how sc statuses.InputFault report text is = absurd (let no : statuses.Accepted ≡ statuses.InputFault = is.0 in cc)
accepted_how sc statuses.BadWords report text is = absurd is
accepted_how sc statuses.ReadFault report text is = absurd is
accepted_how sc statuses.WriteFault report text is = absurd is
accepted_how sc statuses.OutOfMemory report text is = absurd is
accepted_how sc statuses.TooLarge report text is = absurd is

module _ (bytes : List ℕ) (how : Status) (report : List ℕ) (certified : IsCertified bytes how report) where
  -- an input that meets all is certified as accepted
  meets_how : MeetsAll bytes → how ≡ statuses.Accepted
  meets_how all = (certified_exact bytes how report certified).1 all

  -- what is printed of it is the output of its run
  run_output : (status : Status) (text : List ℕ) → how ≡ statuses.Accepted → IsOutputOf (scan bytes) how report status text → IsScanOutput (scan bytes) status text
  run_output status text accepted is = subst (λ (w : Status). IsOutputOf (scan bytes) w report status text) accepted is

module _ (bytes report : List ℕ) (certified : IsCertified bytes statuses.Accepted report) where
  -- the start and the steps of every run of an accepted input meet their criteria
  run_meets : (r : HasRun (scan bytes)) → StartMeets (object_of r.header.what) (start_of r.header.what) × RunsFrom (object_of r.header.what) (first (start_of r.header.what)) (bare r.run)
  run_meets r =
      let a = accepted_run bytes report certified in
      only_run (scan bytes) (has_run (scan bytes) a) r (λ head run. StartMeets (object_of head.what) (start_of head.what) × RunsFrom (object_of head.what) (first (start_of head.what)) (bare run)) (a.begun, a.hold)

  -- an accepted input has one output
  one_scan_output : (s s' : Status) (t t' : List ℕ) → IsScanOutput (scan bytes) s t → IsScanOutput (scan bytes) s' t' → (s ≡ s') × (t ≡ t')
  one_scan_output s s' t t' a b =
      let meets = run_meets b.0 in
      one_run_output b.0.header.what b.0.run meets.0 meets.1 s s' t t' (only_run (scan bytes) a.0 b.0 (λ head run. IsRunOutput head.what run s t) a.1) b.1

  -- an opaque run has no first zombie
  opaque_or_zombie : (text : List ℕ) → HasOpaqueRun (scan bytes) → (r : HasRun (scan bytes)) → IsZombieText r.header.what r.run text → ⊥
  opaque_or_zombie text opaque r zombie =
      let meets = run_meets r in
      opaque_no_zombie r.header.what r.run meets.0 meets.1 _ text (opaque r, refl) zombie

-- ---- one output

one_of : (bytes : List ℕ) (how : Status) (r q : List ℕ) (s s' : Status) (t t' : List ℕ) → IsCertified bytes how r → r ≡ q → IsOutputOf (scan bytes) how r s t → IsOutputOf (scan bytes) how q s' t' → (s ≡ s') × (t ≡ t')
one_of bytes statuses.Accepted r q s s' t t' certified same a b = one_scan_output bytes r certified s s' t t' a b
one_of bytes statuses.Rejected r q s s' t t' certified same a b = (a.0 ∙ sym b.0, a.1 ∙ same ∙ sym b.1)
one_of bytes statuses.InputFault r q s s' t t' certified same a b = (a.0 ∙ sym b.0, a.1 ∙ same ∙ sym b.1)
one_of bytes statuses.BadWords r q s s' t t' certified same a b = absurd a
one_of bytes statuses.ReadFault r q s s' t t' certified same a b = absurd a
one_of bytes statuses.WriteFault r q s s' t t' certified same a b = absurd a
one_of bytes statuses.OutOfMemory r q s s' t t' certified same a b = absurd a
one_of bytes statuses.TooLarge r q s s' t t' certified same a b = absurd a

-- An input has one status and one text of `opaque` at most.
pub one_opaque_output : (bytes : List ℕ) (s s' : Status) (t t' : List ℕ) → IsOpaqueOutput bytes s t → IsOpaqueOutput bytes s' t' → (s ≡ s') × (t ≡ t')
one_opaque_output bytes s s' t t' (how, report, certified, is) (how', report', certified', is') =
    let one = one_certified bytes how how' report report' certified certified' in
    one_of bytes how' report report' s s' t t' (subst (λ (w : Status). IsCertified bytes w report) one.0 certified) one.1 (subst (λ (w : Status). IsOutputOf (scan bytes) w report s t) one.0 is) is'

-- It is impossible that the run of an accepted input has no output.
pub some_scan_output : (bytes report : List ℕ) → IsCertified bytes statuses.Accepted report → (r : HasRun (scan bytes)) → ((status : Status) (text : List ℕ) → IsScanOutput (scan bytes) status text → ⊥) → ⊥
some_scan_output bytes report certified r none =
    let meets = run_meets bytes report certified r in
    some_run_output r.header.what r.run meets.0 meets.1 (λ status text is. none status text (r, is))

-- ---- what the output says

-- If the status is accepted, the run is opaque.
pub accepted_opaque : (bytes text : List ℕ) → IsOpaqueOutput bytes statuses.Accepted text → MeetsAll bytes × HasOpaqueRun (scan bytes)
accepted_opaque bytes text (how, report, certified, is) =
    let accepted = accepted_how (scan bytes) how report text is in
    let out = run_output bytes how report certified statuses.Accepted text accepted is in
    ((certified_exact bytes how report certified).0 accepted, by out.0 out.1)
  where
    by : (r : HasRun (scan bytes)) → IsRunOutput r.header.what r.run statuses.Accepted text → HasOpaqueRun (scan bytes)
    by r (inl a) = λ q. only_run (scan bytes) r q (λ head run. IsOpaque (object_of head.what) (start_of head.what) (bare run)) a.1.0
    by r (inr b) = absurd (let no : statuses.Accepted ≡ statuses.Rejected = b.0 in cc)

-- If the run is opaque, the status is accepted.
opaque_accepted : (bytes : List ℕ) (status : Status) (text : List ℕ) → IsOpaqueOutput bytes status text → MeetsAll bytes → HasOpaqueRun (scan bytes) → status ≡ statuses.Accepted
opaque_accepted bytes status text (how, report, certified, is) all opaque =
    let accepted = meets_how bytes how report certified all in
    let out = run_output bytes how report certified status text accepted is in
    by (subst (λ (w : Status). IsCertified bytes w report) accepted certified) out.0 out.1
  where
    by : IsCertified bytes statuses.Accepted report → (r : HasRun (scan bytes)) → IsRunOutput r.header.what r.run status text → status ≡ statuses.Accepted
    by sure r (inl a) = a.0
    by sure r (inr b) = absurd (opaque_or_zombie bytes report sure text opaque r b.1)

-- The status is accepted exactly if the input has no fault, its start and each of its steps meet their criteria, and its run is opaque.
pub opaque_exactly : (bytes : List ℕ) (status : Status) (text : List ℕ) → IsOpaqueOutput bytes status text → IsOpaqueExactly bytes status
opaque_exactly bytes status text out = (
  λ e. accepted_opaque bytes text (subst (λ (s : Status). IsOpaqueOutput bytes s text) e out),
  λ both. opaque_accepted bytes status text out both.0 both.1,
)

-- If the status is accepted, the transactions and attempts of each prefix can be put into one sequence.
pub accepted_ordered : (bytes text : List ℕ) → IsOpaqueOutput bytes statuses.Accepted text → HasOrderedRun (scan bytes)
accepted_ordered bytes text (how, report, certified, is) = λ r.
    let accepted = accepted_how (scan bytes) how report text is in
    let meets = run_meets bytes report (subst (λ (w : Status). IsCertified bytes w report) accepted certified) r in
    ordered (object_of r.header.what) (start_of r.header.what) meets.0 (bare r.run) meets.1 ((accepted_opaque bytes text (how, report, certified, is)).1 r)

-- If the status is rejected and each step meets its criteria, the text is that of the first zombie.
pub rejected_zombie : (bytes text : List ℕ) → IsOpaqueOutput bytes statuses.Rejected text → MeetsAll bytes → IsFirstZombie (scan bytes) text
rejected_zombie bytes text (how, report, certified, is) all =
    let out = run_output bytes how report certified statuses.Rejected text (meets_how bytes how report certified all) is in
    by out.0 out.1
  where
    by : (r : HasRun (scan bytes)) → IsRunOutput r.header.what r.run statuses.Rejected text → IsFirstZombie (scan bytes) text
    by r (inl a) = absurd (let no : statuses.Rejected ≡ statuses.Accepted = a.0 in cc)
    by r (inr b) = λ q. only_run (scan bytes) r q (λ head run. IsZombieText head.what run text) b.1

-- ---- style boosted

-- the run of steps that all meet their criteria has all steps of the records
abbrev whole_run : (sc : InputScan) → EachStepMeets sc → HasRun sc
whole_run sc m =
    let h = m.header.what in
    let T = translation_of h in
    let accepted = (accepted_iff (object_of h) (start_of h) (bare (joined_steps T (outset T (start_of h)) sc.records))).1 (m.start, m.steps) in
    record {
      header = m.header;
      run = joined_steps T (outset T (start_of h)) sc.records;
      first_line = m.first_line;
      steps = (one_run_law (object_of h) T).told (start_of h) sc.records Accepted accepted;
    }

-- If the records are of style boosted, and the start and each step meet their criteria, the run is opaque.
pub boosted_run_opaque : (sc : InputScan) → ((m : EachStepMeets sc) (r : Lined (RunRecord Op)) → In r sc.records → IsOfStyle m.header.what.style r.what) → IsBoostedOpaque sc
boosted_run_opaque sc styled m boosted = λ q.
    let h = m.header.what in
    let Steps = λ (s : Style). let T = translation place_of s (kinds_of h.catalog) in bare (joined_steps T (outset T (start_of h)) sc.records) in
    let runs = subst (λ (s : Style). RunsFrom (object_of h) (first (start_of h)) (Steps s)) boosted m.steps in
    let opaque = boosted_opaque (object_of h) place_of (kinds_of h.catalog) (start_of h) sc.records (λ r i. subst (λ (s : Style). IsOfStyle s r.what) boosted (styled m r i)) m.start runs in
    only_run sc (whole_run sc m) q (λ head run. IsOpaque (object_of head.what) (start_of head.what) (bare run))
    (subst (λ (s : Style). IsOpaque (object_of h) (start_of h) (Steps s)) (sym boosted) opaque)

-- The steps that are kept of a run of style boosted are opaque.
pub boosted_steps_opaque : (sc : InputScan) (tally : Tally) (machine : Seen (List Kind) Op) (steps : List (Step Op)) → HasSteps sc tally machine steps → AreOfStyle sc → tally.header.style ≡ Boosted
    → IsOpaque (object_of tally.header) (start_of tally.header) steps
boosted_steps_opaque sc tally machine steps h styled boosted =
    let own = own_run sc tally machine steps h in
    let m : EachStepMeets sc = record { header = own.header; first_line = own.first_line; start = h.running.stands.begun; steps = h.running.stands.hold } in
    subst (λ (w : List (Step Op)). IsOpaque (object_of tally.header) (start_of tally.header) w) (sym (steps_are sc tally machine steps h))
    (boosted_run_opaque sc (λ e. styled e.header e.first_line) m boosted own)
