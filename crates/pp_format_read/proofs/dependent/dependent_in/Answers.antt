use Rattle.pp_core.specs.declared.call.Style.TheVariants as styles
use Rattle.pp_format_read.proofs.Styled.{of_style}
use Rattle.pp_format_read.proofs.dependent.dependent_in.Goals as goal

pub returns-in_default-clause-styled : goal.returns-in_default-clause-styled
returns-in_default-clause-styled c = of_style styles.Dependent (λ x h. h.dependent) c.boosted_in.result c.boosted_in.ensures.styled
