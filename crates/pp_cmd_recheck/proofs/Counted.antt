-- Proof machinery: what is shown costs at least one for each entry and each serial entry.
use Rattle.std.proofs.Common.{◌≡◌, ◌+◌, ◌≤◌, ℕ, zero, suc, List, [], ◌∷◌, length, take, Some}
use Rattle.std.proofs.Common.{subst, sym, arith}
use Rattle.pp_core.specs.declared.call.Kind.{Kind}
use Rattle.pp_objects.specs.Objects.{objects}
use Rattle.pp_objects.specs.declared.act.Op.{Op}
use Rattle.pp_objects.specs.declared.states.ObjectState.{ObjectState}
use Rattle.pp_certificate_checker.specs.declared.shown.Shown.{Shown}
use Rattle.pp_certificate_checker.specs.Certificates.{Stage, Fresh, Entered, Exchanged, Ended}
use Rattle.pp_certificate_checker.specs.Certificates.{shown, shown_at}
use Rattle.pp_certificate_checker.specs.Checking.{serial_in}
use Rattle.pp_certificate_lines.specs.Takers.{entries_at}
use Rattle.pp_cmd_recheck.specs.Costs.{ShownCostsAtLeast}

take_short : {A : Type 0} (n : ℕ) (l : List A) → length (take n l) ≤ n
take_short zero l = omega arith
take_short (suc n) [] = omega arith
take_short (suc n) (x ∷ l) = let rest = take_short n l in omega (arith, rest)

-- Ending a certificate costs at least one tick for each serial entry.
pub shown_counted : (s : Stage (List Kind) Op) (h : Shown (List Kind) (List ObjectState) Op) (first old new : ℕ)
    → Some h ≡ shown_at objects s → new ≡ old + serial_in s → first + entries_at s ≤ old
    → ShownCostsAtLeast h first new
shown_counted Fresh h first old new e cost least = absurd (cc)
shown_counted (Entered over list) h first old new e cost least = absurd (cc)
shown_counted (Exchanged over list count) h first old new e cost least = absurd (cc)
shown_counted (Ended over list count n) h first old new e cost least =
    let is : h ≡ shown objects over list count n = cc in
    subst (λ (x : Shown (List Kind) (List ObjectState) Op). ShownCostsAtLeast x first new) (sym is)
    (omega (arith, cost, least, take_short n list))
