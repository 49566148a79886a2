-- Meaning: which style a front has, and what it keeps.
use Rattle.std.specs.Prelude.{List}
use Rattle.pp_core.specs.declared.call.Kind.{Kind}
use Rattle.pp_core.specs.declared.call.Style.{Style}
use Rattle.pp_core.specs.declared.call.Style.TheVariants as styles
use Rattle.pp_records.specs.Fronts.{Front, new_front}
use Rattle.pp_styles.specs.declared.any_front.AnyFront.{AnyFront}
use Rattle.pp_styles.specs.declared.any_front.AnyFront.TheVariants.{Rules, Boosted, Optimistic}
use Rattle.pp_styles.specs.declared.any_front.AnyFront.TheVariants.{Hardware, Dependent}
use Rattle.pp_styles.specs.States.{dependent_state, hardware_state}

abbrev pub any_style : AnyFront → Style
any_style (Rules f) = styles.Rules
any_style (Boosted f) = styles.Boosted
any_style (Optimistic f) = styles.Optimistic
any_style (Hardware f) = styles.Hardware
any_style (Dependent f) = styles.Dependent

-- over objects of these kinds
abbrev pub any_state : List Kind → AnyFront → Front
any_state ks (Rules f) = new_front ks
any_state ks (Boosted f) = new_front ks
any_state ks (Optimistic f) = new_front ks
any_state ks (Hardware f) = hardware_state f
any_state ks (Dependent f) = dependent_state ks f
