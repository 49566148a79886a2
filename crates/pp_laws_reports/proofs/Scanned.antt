-- A scan without a fault has a header, and a rejected step is among the steps.
use Rattle.std.specs.Prelude.{◌≡◌, ℕ, ◌+◌, suc, List, [], ◌∷◌, slice_get, Option, None, Some}
use Rattle.std.specs.Option.{option_or}
use Rattle.std.proofs.Common.{refl, subst, arith}
use mathlib.Core.Logic.{inl, inr}
use Rattle.pp_records.specs.Runs.{Lined, LinedSteps, bare}
use Rattle.pp_input.specs.declared.limits.Limits.{Limits}
use Rattle.pp_input.specs.Overruns.{overrun, scanned_lines}
use Rattle.pp_format_read.specs.declared.header.Header.{Header}
use Rattle.pp_model.specs.Config.{Config, Start, Step, then}
use Rattle.pp_model.specs.Object.{Object}
use Rattle.pp_model.specs.Rules.{Accepted, IsVerdict, IsVerdictFrom, Rejected}
use Rattle.pp_input_reader.specs.declared.cause.Cause.{Cause}
use Rattle.pp_input_reader.specs.Limits.{limit_fault}
use Rattle.pp_judge.specs.Inputs.{no_header, scan_within}
use Rattle.pp_judge.specs.Scans.{scan_lines}

-- an input without a fault has a header
pub header_of_sound : (limits : Limits) (bytes : List ℕ) → (scan_within limits bytes).fault ≡ None → (header : Lined Header) × ((scan_within limits bytes).header ≡ Some header)
header_of_sound limits bytes sound = by (scan_lines limits.transactions (scanned_lines limits bytes)).fault (limit_fault (overrun limits bytes)) (scan_lines limits.transactions (scanned_lines limits bytes)).header sound
  where
    by : (read limit : Option (ℕ × Cause)) (o : Option (Lined Header)) → option_or read (option_or limit (no_header bytes o)) ≡ None → (header : Lined Header) × (o ≡ Some header)
    by (Some f) limit o e = absurd (let no : Some f ≡ None = e in cc)
    by None (Some f) o e = absurd (let no : Some f ≡ None = e in cc)
    by None None None e = absurd (cc)
    by None None (Some header) e = (header, refl)

-- the step that a verdict rejects, counted from where the steps begin
rejected_from : {Op State : Type 0} (O : Object Op State) (first : ℕ) (c : Config Op) (ss : LinedSteps Op) (j n : ℕ) → IsVerdictFrom O first c (bare ss) (Rejected j n) →
    (i : ℕ) × (j ≡ first + i) × ((step : Lined (Step Op)) × (slice_get ss i ≡ Some step))
rejected_from O first c [] j n v = absurd (let e : Rejected j n ≡ Accepted = v in cc)
rejected_from O first c (s ∷ ss) j n (inl v) =
    let here : j ≡ first = let e : Rejected j n ≡ Rejected first (suc v.0) = v.2 in cc in
    (0, omega arith, (s, refl))
rejected_from O first c (s ∷ ss) j n (inr v) =
    let r = rejected_from O (suc first) (then c s.what) ss j n v.1 in
    (suc r.0, omega (arith, r.1), r.2)

-- the step that a verdict rejects is among the steps
pub rejected_step : {Op State : Type 0} (O : Object Op State) (h : Option (Start Op)) (ss : LinedSteps Op) (i n : ℕ) → IsVerdict O h (bare ss) (Rejected (suc i) n) →
    (step : Lined (Step Op)) × (slice_get ss i ≡ Some step)
rejected_step O h ss i n (inl v) = absurd (let e : Rejected (suc i) n ≡ Rejected 0 (suc v.0) = v.2 in let z : suc i ≡ 0 = cc in let no : ⊥ = omega arith in no)
rejected_step {Op} O h ss i n (inr v) =
    let r = rejected_from O 1 _ ss (suc i) n v.1 in
    let same : r.0 ≡ i = omega (arith, r.1) in
    subst (λ (k : ℕ). (step : Lined (Step Op)) × (slice_get ss k ≡ Some step)) same r.2
