use Rattle.pp_log_shared.specs.Numbers.{AllFormsSwap}
use Rattle.pp_log_shared.proofs.numbers.all_forms_swap.Given as goal

-- If all entries that are left swap, all do.
abbrev pub invariant-loop-holder : goal.invariant-loop-holder
invariant-loop-holder g l =
    AllFormsSwap g.S.Spec.object g.S.Parted.label_of l.owner l.op l.own l.holder-iterator →
    AllFormsSwap g.S.Spec.object g.S.Parted.label_of l.owner l.op l.own l.initial.holder-iterator
