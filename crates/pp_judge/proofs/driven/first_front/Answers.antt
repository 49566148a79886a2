use Rattle.std.proofs.Common.{◌≡◌, subst}
use Rattle.pp_records.specs.Fronts.{new_front}
use Rattle.pp_styles.specs.AnyFronts.{any_state}
use Rattle.pp_input_reader.proofs.Takers.{if_ok_two}
use Rattle.pp_judge.proofs.driven.first_front.Goals as goal

pub returns : goal.returns
returns c =
    if_ok_two c.new.result _ _ _ (λ front style state. (style, subst (λ k. any_state k front ≡ new_front k) c.in_ok-kinds.ensures state)) c.new.ensures.style c.new.ensures.state
