-- What the form in a gate shows about an operation.
use Rattle.std.proofs.Common.{◌≡◌, ℕ, ℤ, pos, ◌+◌, ◌<◌, ◌≤◌, ◌+ℤ◌, Bool, true, false, int_eq, if◌then◌else◌, refl, arith}
use Rattle.std.proofs.lemmas.Bool.Decides.{Decides-int_eq}
use Rattle.std.proofs.lemmas.Int.{ints}
use Rattle.pp_kind_counter.specs.declared.op.CounterOp.{CounterOp}
use Rattle.pp_kind_counter.specs.declared.op.CounterOp.TheVariants.{Add, Get, FetchAdd}
use Rattle.pp_kind_counter.specs.Movers.{figures_of, form_of, gate_form_of, number_of}

-- below 3 it is the row
low : (b : Bool) (row n : ℕ) → (if b then row + 3 else row) ≡ n → n < 3 → row ≡ n
low true row n is h = absurd (omega arith)
low false row n is h = is

-- Below 3, the form of an operation that gates see is its row.
pub row_of : (a : CounterOp) (n : ℕ) → gate_form_of a ≡ n → n < 3 → form_of a ≡ n
row_of (Add by) n is h = low (int_eq by (pos 0)) 0 n is h
row_of (Get value) n is h = absurd (omega arith)
row_of (FetchAdd by was) n is h = low (int_eq by (pos 0)) 2 n is h

-- from 3 on nothing is shifted
high : (b : Bool) (row n : ℕ) → row < 3 → (if b then row + 3 else row) ≡ n → 3 ≤ n → (b ≡ true) × (row + 3 ≡ n)
high true row n small is h = (refl, is)
high false row n small is h = absurd (omega arith)

-- From 3 on, the form that gates see is the row and 3, and the operation shifts nothing.
pub still_of : (a : CounterOp) (n : ℕ) → gate_form_of a ≡ n → 3 ≤ n
    → (form_of a + 3 ≡ n) × ((figures_of a).from ≡ number_of a) × ((figures_of a).shift ≡ pos 0)
still_of (Add by) n is h =
    let r = high (int_eq by (pos 0)) 0 n (omega arith) is h in
    (r.1, refl, (Decides-int_eq by (pos 0)).0 r.0)
still_of (Get value) n is h = (is, refl, refl)
still_of (FetchAdd by was) n is h =
    let r = high (int_eq by (pos 0)) 2 n (omega arith) is h in
    let none : by ≡ pos 0 = (Decides-int_eq by (pos 0)).0 r.0 in
    (r.1, (let same : was ≡ was +ℤ by = grind (arith, ints) in same), none)
