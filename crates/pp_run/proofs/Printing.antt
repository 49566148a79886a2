-- A command has one output.
use Rattle.std.specs.Prelude.{◌≡◌, ℕ, List, [], Option, None, Some}
use Rattle.std.specs.Io.KnownBytes.{Appends}
use Rattle.std.proofs.Common.{sym, ◌∙◌, subst}
use Rattle.pp_core.specs.declared.status.Status.{Status}
use Rattle.pp_run.specs.declared.words.Command.{Command}
use Rattle.pp_run.specs.declared.words.Command.TheVariants.{Certify, Drill, Expand, Focus, Judge, Opaque, Quick, Recheck, Swaps, Views}
use Rattle.pp_run.specs.Outputs.{IsOutput, OfInput, Prints, PrintsOnly, PrintsPrefix, PrintsPrefixOnly}
use Rattle.pp_run.specs.Writing.{AppendsPrefix}
use Rattle.pp_judge.proofs.Concluding.{one_certified}
use Rattle.pp_cmd_expand.proofs.Expanding.{one_expanded}
use Rattle.pp_cmd_opaque.proofs.Deciding.{one_opaque_output}
use Rattle.pp_cmd_views.proofs.Viewed.{one_views}
use Rattle.pp_cmd_quick.proofs.Decided.{one_quick}
use Rattle.pp_cmd_judge.proofs.Judged.{one_judged}
use Rattle.pp_cmd_drill.proofs.Drilling.{one_drilled}
use Rattle.pp_cmd_focus.proofs.Outputs.{one_focused}
use Rattle.pp_cmd_swaps.proofs.Swapping.{one_swaps}
use Rattle.pp_cmd_recheck.proofs.Rechecking.{one_recheck}

-- two outputs of one input are the same
pub one_output : (command : Option Command) (bytes : List ℕ) (s s' : Status) (t t' : List ℕ) → IsOutput command bytes s t → IsOutput command bytes s' t' → (s ≡ s') × (t ≡ t')
one_output None bytes s s' t t' a b = (a.0 ∙ sym b.0, a.1 ∙ sym b.1)
one_output (Some Certify) bytes s s' t t' a b = one_certified bytes s s' t t' a b
one_output (Some Expand) bytes s s' t t' a b = one_expanded bytes s s' t t' a b
one_output (Some Judge) bytes s s' t t' a b = one_judged bytes s s' t t' a b
one_output (Some Quick) bytes s s' t t' a b = one_quick bytes s s' t t' a b
one_output (Some Swaps) bytes s s' t t' a b = one_swaps bytes s s' t t' a b
one_output (Some Recheck) bytes s s' t t' a b = one_recheck bytes s s' t t' a b
one_output (Some Views) bytes s s' t t' a b = one_views bytes s s' t t' a b
one_output (Some Opaque) bytes s s' t t' a b = one_opaque_output bytes s s' t t' a b
one_output (Some (Drill n)) bytes s s' t t' a b = one_drilled n s s' t t' a b
one_output (Some (Focus name)) bytes s s' t t' a b = one_focused name bytes s s' t t' a b

-- If P implies Q for all bytes, and P is true of an input, Q is true of it.
of_input : (o : Option Command) (left : Option (List ℕ)) (P Q : List ℕ → Type 0) → ((bytes : List ℕ) → P bytes → Q bytes) → OfInput o left P → OfInput o left Q
of_input None left P Q f p = f [] p
of_input (Some Certify) left P Q f p = λ bytes is. f bytes (p bytes is)
of_input (Some Expand) left P Q f p = λ bytes is. f bytes (p bytes is)
of_input (Some Judge) left P Q f p = λ bytes is. f bytes (p bytes is)
of_input (Some Quick) left P Q f p = λ bytes is. f bytes (p bytes is)
of_input (Some Swaps) left P Q f p = λ bytes is. f bytes (p bytes is)
of_input (Some Recheck) left P Q f p = λ bytes is. f bytes (p bytes is)
of_input (Some Views) left P Q f p = λ bytes is. f bytes (p bytes is)
of_input (Some Opaque) left P Q f p = λ bytes is. f bytes (p bytes is)
of_input (Some (Drill n)) left P Q f p = f [] p
of_input (Some (Focus name)) left P Q f p = λ bytes is. f bytes (p bytes is)

-- what is written, if the output of a command is this text or a prefix of it
module _ (o : Option Command) (command : Command) (is : o ≡ Some command) (left old new : Option (List ℕ)) (status : Status) (text : List ℕ)
    (output : OfInput (Some command) left (λ bytes. IsOutput (Some command) bytes status text)) where
  follows : (Q : Option Command → List ℕ → Type 0) → ((bytes : List ℕ) → IsOutput (Some command) bytes status text → Q (Some command) bytes) → OfInput o left (Q o)
  follows Q f = subst (λ (c : Option Command). OfInput c left (Q c)) (sym is) (of_input (Some command) left (λ bytes. IsOutput (Some command) bytes status text) (Q (Some command)) f output)

  -- A text that is the output of a command and is written whole is what the command prints.
  pub prints : Appends old new text → OfInput o left (λ bytes. Prints o bytes status old new)
  prints written = follows (λ c bytes. Prints c bytes status old new) (λ bytes here. (text, here, written))

  -- A text that is the only output of a command, written whole, is all that the command prints.
  pub prints_only : Appends old new text → OfInput o left (λ bytes. PrintsOnly o bytes status old new)
  prints_only written =
      follows (λ c bytes. PrintsOnly c bytes status old new) (λ bytes here other more there.
      let one = one_output (Some command) bytes status other text more here there in
      (sym one.0, subst (Appends old new) one.1 written))

  -- A written prefix of the output of a command is a prefix of what the command prints.
  pub prints_prefix : AppendsPrefix old new text → OfInput o left (λ bytes. PrintsPrefix o bytes old new)
  prints_prefix written = follows (λ c bytes. PrintsPrefix c bytes old new) (λ bytes here. (status, text, here, written))

  -- A written prefix of the only output of a command is a prefix of all that the command prints.
  pub prints_prefix_only : AppendsPrefix old new text → OfInput o left (λ bytes. PrintsPrefixOnly o bytes old new)
  prints_prefix_only written =
      follows (λ c bytes. PrintsPrefixOnly c bytes old new) (λ bytes here other more there.
      subst (AppendsPrefix old new) (one_output (Some command) bytes status other text more here there).1 written)
