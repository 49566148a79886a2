-- What the form in a gate shows about an operation.
use Rattle.std.proofs.Common.{◌≡◌, ◌≢◌, ℕ, ℤ, pos, ◌+◌, ◌-ℤ◌, ◌<◌, ◌≤◌, Bool, true, false, int_eq}
use Rattle.std.proofs.Common.{if◌then◌else◌, refl, sym, arith}
use Rattle.std.proofs.lemmas.Bool.Decides.{Decides-int_eq}
use Rattle.std.proofs.lemmas.Int.{ints}
use Rattle.pp_kind_memory.specs.declared.op.MemOp.{MemOp}
use Rattle.pp_kind_memory.specs.declared.op.MemOp.TheVariants.{Read, Write, Cas}
use Rattle.pp_kind_memory.specs.Movers.{figures_of, form_of, gate_form_of, number_of}

-- a compare-and-swap that was done
pub moved_of : (a : MemOp) → gate_form_of a ≡ 2
    → (form_of a ≡ 2) × ((figures_of a).from ≡ number_of a)
moved_of (Read at v) is = absurd (omega arith)
moved_of (Write at v) is = absurd (omega arith)
moved_of (Cas at e n true) is = (refl, refl)
moved_of (Cas at e n false) is = absurd (omega arith)

-- a write
not_done : (b : Bool) (n : ℕ) → (if b then 6 else 2) ≡ n → n ≢ 2 → n < 4 → ⊥
not_done true n is other low = omega arith
not_done false n is other low = other (sym is)

-- Below 4, but for 2, the form that gates see is the row, and the number is the one led to.
pub led_of : (a : MemOp) (n : ℕ) → gate_form_of a ≡ n → n ≢ 2 → n < 4
    → (form_of a ≡ n) × ((figures_of a).to ≡ number_of a)
led_of (Read at v) n is other low = absurd (omega arith)
led_of (Write at v) n is other low = (is, refl)
led_of (Cas at e m true) n is other low = absurd (not_done (int_eq e m) n is other low)
led_of (Cas at e m false) n is other low = absurd (omega arith)

-- an operation that leaves the number that it finds
done : (b : Bool) (n : ℕ) → (if b then 6 else 2) ≡ n → 4 ≤ n → (b ≡ true) × (6 ≡ n)
done true n is high = (refl, is)
done false n is high = absurd (omega arith)

-- From 4 on, the form that gates see is the row and 4, and the operation changes no number.
pub still_of : (a : MemOp) (n : ℕ) → gate_form_of a ≡ n → 4 ≤ n
    → (form_of a + 4 ≡ n) × ((figures_of a).from ≡ number_of a)
    × ((figures_of a).to ≡ number_of a) × ((figures_of a).shift ≡ pos 0)
still_of (Read at v) n is high = (is, refl, refl, refl)
still_of (Write at v) n is high = absurd (omega arith)
still_of (Cas at e m true) n is high =
    let r = done (int_eq e m) n is high in
    let same : e ≡ m = (Decides-int_eq e m).0 r.0 in
    let none : m -ℤ e ≡ pos 0 = grind (arith, ints) in
    (r.1, refl, sym same, none)
still_of (Cas at e m false) n is high = (is, refl, refl, refl)
