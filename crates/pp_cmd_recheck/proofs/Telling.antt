-- Proof machinery: the report of a checked input.
use Rattle.std.proofs.Common.{◌≡◌, ◌⊎◌, ℕ, List, [], Option, Some, sym, subst, inl, inr, ◌∙◌}
use Rattle.std.specs.Io.KnownBytes.{IsAtEnd}
use Rattle.pp_core.specs.Catalogs.{Objects}
use Rattle.pp_core.specs.declared.status.Status.{Status}
use Rattle.pp_core.specs.declared.status.Status.TheVariants as statuses
use Rattle.pp_certificate_checker.specs.declared.refusal.Refusal.{Refusal}
use Rattle.pp_certificate_checker.specs.declared.refusal.Refusal.TheVariants as refusals
use Rattle.pp_certificate_lines.specs.Reading.{objects_in}
use Rattle.pp_certificate_lines.specs.Rechecked.{texts, Checked, Faulty, Refuses, Shows, refused_at}
use Rattle.pp_certificate_lines.specs.Rechecked.{IsCheckedSound, IsCheckedTold, IsRecheck}
use Rattle.pp_certificate_lines.specs.declared.taker.CheckFault.{CheckFault}
use Rattle.pp_certificate_lines.specs.declared.taker.CheckFault.TheVariants as faults
use Rattle.pp_cmd_recheck.specs.Costs.{CheckCostsAtLeast}
use Rattle.pp_cmd_recheck.specs.CheckedInputs.{faulty_at, CanReport, ChecksInput, IsCheckedInputTold, ShownCounted}
use Rattle.pp_cmd_recheck.specs.declared.check_input.CheckedInput.{CheckedInput}
use Rattle.pp_cmd_recheck.specs.declared.check_input.CheckedInput.TheVariants as inputs
use Rattle.pp_cmd_recheck.proofs.Rechecking.{shows_sound}

-- The status is one of the three that a verdict can have.
abbrev IsAnswer : Status → Type 0
IsAnswer s = (s ≡ statuses.Accepted) ⊎ (s ≡ statuses.Rejected) ⊎ (s ≡ statuses.InputFault)

checked_status : (catalog : Objects) (f : Checked) (s : Status) (t : List ℕ)
    → IsCheckedTold catalog f s t → IsAnswer s
checked_status catalog (Faulty n cause) s t h = inr (inr h.0)
checked_status catalog (Refuses n why) s t h = inr (inl h.0)
checked_status catalog (Shows shown) s t h = inl h.0

-- The status of a checked input is accepted, rejected or input fault.
pub told_status : (input : CheckedInput) (s : Status) (t : List ℕ) → IsCheckedInputTold input s t
    → IsAnswer s
told_status (inputs.Fault at fault) s t h = checked_status [] (faulty_at at fault) s t (h [])
told_status (inputs.Shows catalog shown) s t h = checked_status catalog (Shows shown) s t h

not_faulty : (s : Status) → s ≡ statuses.InputFault → s ≡ statuses.Accepted → ⊥
not_faulty s a b = let e : statuses.InputFault ≡ statuses.Accepted = sym a ∙ b in cc

not_rejected : (s : Status) → s ≡ statuses.Rejected → s ≡ statuses.Accepted → ⊥
not_rejected s a b = let e : statuses.Rejected ≡ statuses.Accepted = sym a ∙ b in cc

refusal_not_accepted : (at : ℕ) (why : Refusal) (s : Status) (t : List ℕ)
    → IsCheckedTold [] (refused_at at why) s t → s ≡ statuses.Accepted → ⊥
refusal_not_accepted at refusals.NotCertificate s t h e = not_faulty s h.0 e
refusal_not_accepted at (refusals.Gives id answer) s t h e = not_rejected s h.0 e
refusal_not_accepted at refusals.Position s t h e = not_rejected s h.0 e
refusal_not_accepted at (refusals.Pair first second) s t h e = not_rejected s h.0 e

not_accepted : (at : ℕ) (fault : CheckFault) (s : Status) (t : List ℕ)
    → IsCheckedInputTold (inputs.Fault at fault) s t → s ≡ statuses.Accepted → ⊥
not_accepted at (faults.Cause cause) s t h e = not_faulty s (h []).0 e
not_accepted at (faults.Refusal why) s t h e = refusal_not_accepted at why s t (h []) e

module _ (old new : Option (List ℕ)) where
  -- If an input is found to show something, its operations and states are those of its objects.
  pub can_report : (input : CheckedInput) → ChecksInput old new input → CanReport input
  can_report (inputs.Fault at fault) h = tt
  can_report (inputs.Shows catalog shown) h = h.1

  -- The status and the text of a checked input are its output.
  pub told_output : (input : CheckedInput) (s : Status) (t : List ℕ) → ChecksInput old new input
      → IsCheckedInputTold input s t → (bytes : List ℕ) → old ≡ Some bytes → IsRecheck bytes s t
  told_output (inputs.Fault at fault) s t h told bytes is =
      (faulty_at at fault, h bytes is, told (objects_in (texts bytes)))
  told_output (inputs.Shows catalog shown) s t h told bytes is =
      let k = h.2 bytes is in (
        Shows shown,
        k.0,
        subst (λ (os : Objects). IsCheckedTold os (Shows shown) s t) (sym k.1) told,
      )

  -- If the status is accepted, the input is at its end.
  pub told_end : (input : CheckedInput) (s : Status) (t : List ℕ) → ChecksInput old new input
      → IsCheckedInputTold input s t → s ≡ statuses.Accepted → IsAtEnd new
  told_end (inputs.Fault at fault) s t h told e = absurd (not_accepted at fault s t told e)
  told_end (inputs.Shows catalog shown) s t h told e = h.0

  -- If the status is accepted, what the input shows is sound.
  pub told_sound : (input : CheckedInput) (s : Status) (t : List ℕ) → ChecksInput old new input
      → IsCheckedInputTold input s t → s ≡ statuses.Accepted → (bytes : List ℕ)
      → old ≡ Some bytes → IsCheckedSound bytes
  told_sound (inputs.Fault at fault) s t h told e bytes is =
      absurd (not_accepted at fault s t told e)
  told_sound (inputs.Shows catalog shown) s t h told e bytes is =
      let k = h.2 bytes is in (shown, k.0, shows_sound bytes shown k.0)

  -- If the status is accepted, the counter meets the lower bound of the input.
  pub told_least : (input : CheckedInput) (s : Status) (t : List ℕ) → ChecksInput old new input
      → IsCheckedInputTold input s t → (first now : ℕ) → ShownCounted input first now
      → s ≡ statuses.Accepted → (bytes : List ℕ) → old ≡ Some bytes
      → CheckCostsAtLeast bytes first now
  told_least (inputs.Fault at fault) s t h told first now counted e bytes is =
      absurd (not_accepted at fault s t told e)
  told_least (inputs.Shows catalog shown) s t h told first now counted e bytes is =
      let k = h.2 bytes is in (shown, k.0, counted)
