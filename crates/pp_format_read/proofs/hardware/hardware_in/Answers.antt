use Rattle.pp_core.specs.declared.call.Style.TheVariants as styles
use Rattle.pp_format_read.proofs.Styled.{of_style}
use Rattle.pp_format_read.proofs.hardware.hardware_in.Goals as goal

pub returns-in_default-clause-styled : goal.returns-in_default-clause-styled
returns-in_default-clause-styled c = of_style styles.Hardware (λ x h. h.hardware) c.boosted_in.result c.boosted_in.ensures.styled
