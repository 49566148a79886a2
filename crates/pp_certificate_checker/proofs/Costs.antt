-- Proof machinery: a line costs one operation at most.
use Rattle.std.proofs.Common.{◌≤◌, Bool, true, false, cond, arith}
use Rattle.pp_model.specs.Object.{Item}
use Rattle.pp_kind.specs.Object.{Object}
use Rattle.pp_certificate_checker.specs.Certificates.{Line, Blank, Head, Entry, Exchanges, Serial, Other}
use Rattle.pp_certificate_checker.specs.Certificates.{Stage, Fresh, Entered, Exchanged, Ended}
use Rattle.pp_certificate_checker.specs.Checking.{cost, entry_cost}

one_or_none : (b : Bool) → cond b 1 0 ≤ 1
one_or_none true = omega arith
one_or_none false = omega arith

entry_small : {Shape State Op Undo : Type 0} (o : Object Shape State Op Undo)
    (s : Stage Shape Op) (p : Item Op) → entry_cost o s p ≤ 1
entry_small o Fresh p = omega arith
entry_small o (Entered shape list) p = one_or_none (o.fits shape p.op)
entry_small o (Exchanged shape list count) p = omega arith
entry_small o (Ended shape list count n) p = omega arith

-- A line costs at most one operation.
pub cost_small : {Shape State Op Undo : Type 0} (o : Object Shape State Op Undo)
    (s : Stage Shape Op) (line : Line Shape Op) → cost o s line ≤ 1
cost_small o s Blank = omega arith
cost_small o s (Head shape) = omega arith
cost_small o s (Entry p) = entry_small o s p
cost_small o s (Exchanges is) = omega arith
cost_small o s (Serial n) = omega arith
cost_small o s Other = omega arith
