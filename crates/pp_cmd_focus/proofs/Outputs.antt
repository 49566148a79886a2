-- An input has one output.
use Rattle.std.specs.Prelude.{◌≡◌, ℕ, List}
use Rattle.std.proofs.Common.{sym, ap, ◌∙◌}
use Rattle.pp_core.specs.declared.status.Status.{Status}
use Rattle.pp_cmd_focus.specs.Outputs.{IsFocused}

-- An input has one status and one text at most.
pub one_focused : (name bytes : List ℕ) (s s' : Status) (t t' : List ℕ) → IsFocused name bytes s t → IsFocused name bytes s' t' → (s ≡ s') × (t ≡ t')
one_focused name bytes s s' t t' a b =
    let same : (s, t) ≡ (s', t') = a ∙ sym b in
    (ap (λ (r : Status × List ℕ). r.0) same, ap (λ (r : Status × List ℕ). r.1) same)
