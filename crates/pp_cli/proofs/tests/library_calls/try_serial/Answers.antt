use Rattle.std.proofs.Common.{◌∙◌, [], ◌∷◌, ap, slice_get}
use Rattle.pp_core.specs.declared.call.Kind.TheVariants.{Memory, Counter}
use Rattle.pp_model.specs.Sound.{serial_ops}
use Rattle.pp_objects.specs.Objects.{objects}
use Rattle.pp_kind.specs.Object.{state_after}
use Rattle.pp_cli.proofs.tests.library_calls.try_serial.Goals as goal

pub state_line-requires : goal.state_line-requires
state_line-requires g c =
    let committed = serial_ops c.in_ok-transactions.transactions in
    let kinds = c.in_ok-kinds.ensures ∙ c.in_ok-catalog.ensures in
    let same_kinds = ap (λ kinds. state_after objects kinds committed) kinds in
    let same_ops = ap (state_after objects (Memory ∷ Counter ∷ [])) c.in_ok-transactions.ensures in
    let states = c.in_ok-list.ensures.state ∙ same_kinds ∙ same_ops in (
      Memory,
      ap (λ kinds. slice_get kinds 0) c.in_ok-catalog.ensures,
      ap (λ states. slice_get (objects.shape states) 0) states,
    )

pub state_line-requires-2 : goal.state_line-requires-2
state_line-requires-2 g c =
    let committed = serial_ops c.in_ok-transactions.transactions in
    let kinds = c.in_ok-kinds.ensures ∙ c.in_ok-catalog.ensures in
    let same_kinds = ap (λ kinds. state_after objects kinds committed) kinds in
    let same_ops = ap (state_after objects (Memory ∷ Counter ∷ [])) c.in_ok-transactions.ensures in
    let states = c.in_ok-list.ensures.state ∙ same_kinds ∙ same_ops in (
      Counter,
      ap (λ kinds. slice_get kinds 1) c.in_ok-catalog.ensures,
      ap (λ states. slice_get (objects.shape states) 1) states,
    )
