-- Every accepted run has views and exchanges, and is opaque or has a first zombie. So `views`, `swaps` and `opaque` have an output for every input.
use Rattle.std.specs.Prelude.{◌≡◌, ◌+◌, ℕ, zero, suc, List, [], ◌∷◌, length, map, Option, None, Some}
use Rattle.std.proofs.Common.{refl, subst, arith}
use Rattle.std.proofs.lemmas.Bool.{cases_lt}
use mathlib.Core.Logic.{inl, inr}
use Rattle.pp_core.specs.declared.limits.TheConstants.{MOST_SWAPS, MOST_VIEWED}
use Rattle.pp_core.specs.declared.status.Status.TheVariants as statuses
use Rattle.pp_records.specs.Runs.{bare}
use Rattle.pp_model.specs.Config.{CommittedTx}
use Rattle.pp_model.specs.Object.{Object}
use Rattle.pp_model.specs.Serial.{attempts, committed_tx}
use Rattle.pp_attempts.specs.Peaks.{operations, peaks}
use Rattle.pp_attempts.specs.Views.{Explains, IsLeastBelow, IsViewBelow, Pairwise}
use Rattle.pp_attempts.specs.declared.peak.Peak.{Peak}
use Rattle.pp_attempts.specs.declared.view.View.{View}
use Rattle.pp_cmd_opaque.proofs.Deciding.{some_scan_output}
use Rattle.pp_cmd_opaque.specs.Outputs.{IsOpaqueOutput}
use Rattle.pp_cmd_views.specs.Outputs.{IsViews}
use Rattle.pp_cmd_views.specs.Texts.{too_large_text as too_large_views, views_text}
use Rattle.pp_judge.specs.Accepted.{HasRun}
use Rattle.pp_judge.specs.Inputs.{scan}
use Rattle.pp_judge.specs.Objects.{object_of, start_of}
use Rattle.pp_judge.specs.Reports.{IsCertified}
use Rattle.pp_cmd_swaps.specs.Swaps.{IsSwaps, certificate_text, config_of, inverted_in, too_large_text}
use Rattle.pp_laws_reports.proofs.Certified.{some_report}
use Rattle.pp_laws_reports.specs.Defined.{IsDefined}

-- There is a least number below m with the property, or no number below m has it.
some_least : (m : ℕ) (P : ℕ → Type 0) → ((o : Option ℕ) → IsLeastBelow m P o → ⊥) → ⊥
some_least zero P none = none None (λ n below holds. let no : ⊥ = omega arith in no)
some_least (suc m) P none = some_least m P more
  where
    more : (o : Option ℕ) → IsLeastBelow m P o → ⊥
    more (Some n) is = none (Some n) (omega (arith, is.0), is.1, is.2)
    more None is =
        let last : P m → ⊥ = λ holds. none (Some m) (omega arith, holds, is) in
        none None (λ n below holds. elim (cases_lt n m) [
          | inl less ↦ is n less holds
          | inr reached ↦ let same : n ≡ m = omega arith in last (subst P same holds)
        ])

-- Attempts have views.
some_views : {Op State : Type 0} (m : ℕ) (O : Object Op State) (committed : List (CommittedTx Op)) (ps : List (Peak Op)) →
    ((vs : List View) → Pairwise (IsViewBelow m O committed) ps vs → ⊥) → ⊥
some_views m O committed [] none = none [] tt
some_views m O committed (p ∷ ps) none =
    some_least m (Explains O committed p.ops) (λ least is.
    some_views m O committed ps (λ vs are.
    let v : View = record { tx = p.tx; ops = length p.ops; after = least } in
    none (v ∷ vs) (record { tx = refl; ops = refl; after = is }, are)))

module _ (bytes : List ℕ) (run : HasRun (scan bytes)) (report : List ℕ) (is : IsCertified bytes statuses.Accepted report) where
  accepted_views : IsDefined (IsViews bytes)
  accepted_views none =
      let steps = bare run.run in
      let count = operations (peaks steps) in
      let committed = map committed_tx (attempts (start_of run.header.what) steps) in
      elim (cases_lt MOST_VIEWED count) [
        | inl more ↦ none statuses.TooLarge (too_large_views count) (statuses.Accepted, report, is, (run, inr (more, refl, refl)))
        | inr few ↦ some_views (length committed + 1) (object_of run.header.what) committed (peaks steps) (λ vs are.
            none statuses.Accepted (views_text (length steps) (length committed) vs) (statuses.Accepted, report, is, (run, inl (few, refl, (vs, are, refl)))))
      ]

  accepted_swaps : IsDefined (IsSwaps bytes)
  accepted_swaps none =
      let config = config_of run in
      elim (cases_lt MOST_SWAPS (inverted_in config)) [
        | inl more ↦ none statuses.TooLarge (too_large_text (inverted_in config)) (statuses.Accepted, report, is, (run, inr (more, refl, refl)))
        | inr few ↦ none statuses.Accepted (certificate_text run.header.what.catalog config) (statuses.Accepted, report, is, (run, inl (few, refl, refl)))
      ]

-- Every input has an output of `views`.
pub views_are_defined : (bytes : List ℕ) → IsDefined (IsViews bytes)
views_are_defined bytes none =
    some_report bytes (λ report is. none statuses.InputFault report (statuses.InputFault, report, is, (refl, refl)))
    (λ run report is. accepted_views bytes run report is none)
    (λ run report is. none statuses.Rejected report (statuses.Rejected, report, is, (refl, refl)))

-- Every input has an output of `swaps`.
pub swaps_are_defined : (bytes : List ℕ) → IsDefined (IsSwaps bytes)
swaps_are_defined bytes none =
    some_report bytes (λ report is. none statuses.InputFault report (statuses.InputFault, report, is, (refl, refl)))
    (λ run report is. accepted_swaps bytes run report is none)
    (λ run report is. none statuses.Rejected report (statuses.Rejected, report, is, (refl, refl)))

-- Every input has an output of `opaque`.
pub opaque_is_defined : (bytes : List ℕ) → IsDefined (IsOpaqueOutput bytes)
opaque_is_defined bytes none =
    some_report bytes (λ report is. none statuses.InputFault report (statuses.InputFault, report, is, (refl, refl)))
    (λ run report is. some_scan_output bytes report is run (λ status text output. none status text (statuses.Accepted, report, is, output)))
    (λ run report is. none statuses.Rejected report (statuses.Rejected, report, is, (refl, refl)))
