-- What is printed for an input that `focus` restricts.
use Rattle.std.specs.Prelude.{◌≡◌, ◌↔◌, ℕ, List, Option, None, Some}
use Rattle.std.proofs.Common.{ap, inl, inr, refl}
use Rattle.pp_core.specs.declared.status.Status.{Status}
use Rattle.pp_core.specs.declared.status.Status.TheVariants as statuses
use Rattle.pp_input_reader.specs.declared.cause.Cause.{Cause}
use Rattle.pp_cmd_judge.specs.Inputs.{judge_scan}
use Rattle.pp_cmd_focus.specs.Outputs.{IsFocusStatus, IsFocused, fault_or_restriction, focus_fault}
use Rattle.pp_cmd_focus.specs.Restrictions.{restriction}
use Rattle.pp_run.specs.Promises.{IsFocusedExactly}

module _ (name bytes : List ℕ) where
  abbrev Told : Option (ℕ × Cause) → Status → List ℕ → Type 0
  Told fault s text = (s, text) ≡ fault_or_restriction name bytes fault

  status_of : (r r' : Status × List ℕ) → r ≡ r' → r.0 ≡ r'.0
  status_of r r' is = ap (λ (p : Status × List ℕ). p.0) is

  exactly : (fault : Option (ℕ × Cause)) (s : Status) (text : List ℕ) → Told fault s text → ((s ≡ statuses.Accepted) ↔ (fault ≡ None)) × IsFocusStatus s
  exactly None s text is = ((λ e. refl, λ e. status_of _ _ is), inl (status_of _ _ is))
  exactly (Some (line, cause)) s text is =
      let fault : s ≡ statuses.InputFault = status_of _ _ is in
      ((λ e. absurd (let no : statuses.Accepted ≡ statuses.InputFault = cc in cc), λ e. absurd (let no : Some (line, cause) ≡ None = e in cc)), inr fault)

  text_is : (fault : Option (ℕ × Cause)) (text : List ℕ) → Told fault statuses.Accepted text → text ≡ restriction name bytes
  text_is None text is = ap (λ (p : Status × List ℕ). p.1) is
  text_is (Some (line, cause)) text is = absurd (let no : statuses.Accepted ≡ statuses.InputFault = status_of _ _ is in cc)

  -- The status of `focus` is accepted exactly if the input has no fault and its header has the object.
  pub focused_exactly : (s : Status) (text : List ℕ) → IsFocused name bytes s text → IsFocusedExactly name bytes s
  focused_exactly s text is = exactly (focus_fault name (judge_scan bytes)) s text is

  -- The text that `focus` prints at accepted is the restriction of the input.
  pub focused_text : (text : List ℕ) → IsFocused name bytes statuses.Accepted text → text ≡ restriction name bytes
  focused_text text is = text_is (focus_fault name (judge_scan bytes)) text is
