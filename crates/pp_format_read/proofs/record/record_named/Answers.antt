use Rattle.pp_core.specs.declared.call.Style.TheVariants as styles
use Rattle.pp_format_read.proofs.Styled.{of_style}
use Rattle.pp_format_read.proofs.record.record_named.Goals as goal

pub returns-in-Boosted-clause-styled : goal.returns-in-Boosted-clause-styled
returns-in-Boosted-clause-styled c =
    rw (c.in-Boosted.is) (of_style styles.Boosted (λ x h. h.boosted) c.boosted_in.result c.boosted_in.ensures.styled)
