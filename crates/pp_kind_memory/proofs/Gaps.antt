-- Proof machinery: the gaps of a memory, and that each call returns the right one.
use Rattle.std.proofs.Common.{◌≡◌, ℤ, int_eq, Bool, true, false, not, if◌then◌else◌, refl, sym, ◌∙◌}
use Rattle.std.proofs.Common.{ap, subst}
use Rattle.std.specs.Ordering.{int_cmp}
use Rattle.std.specs.FinMap.{FinMap}
use Rattle.pp_kind.specs.Gaps.{Leaves, Crosses, MayClose, ClosesTo}
use Rattle.pp_kind.specs.declared.gapped.Crossed.TheVariants as crossed
use Rattle.pp_kind_keyed.specs.Gaps.{DiffersAt}
use Rattle.pp_kind_keyed.proofs.Rule.{same_key, key_is}
use Rattle.pp_kind_keyed.proofs.Gaps.{left_apart, left_same, one_apart, stays_elsewhere, stays_there}
use Rattle.pp_kind_keyed.proofs.Gaps.{meets_there}
use Rattle.pp_kind_memory.specs.declared.gap.MemGap.{MemGap}
use Rattle.pp_kind_memory.specs.declared.op.MemOp.{MemOp}
use Rattle.pp_kind_memory.specs.declared.op.MemOp.TheVariants.{Read, Write, Cas}
use Rattle.pp_kind_memory.specs.declared.undo.Undo.{Undo}
use Rattle.pp_kind_memory.specs.declared.undo.Undo.TheVariants.{Covered}
use Rattle.pp_kind_memory.specs.Values.{written}
use Rattle.pp_kind_memory.specs.Operations.{address_of, number_of}
use Rattle.pp_kind_memory.specs.Memories.{memory, addresses}
use Rattle.pp_kind_memory.specs.Gaps.{Bears, Differ, gap_left, gap_there, gap_behind}
use Rattle.pp_kind_memory.specs.Gaps.{where_found}
use Rattle.pp_kind_memory.specs.laws.Written.{written_at, written_has_no_zero}
use Rattle.pp_kind_memory.specs.laws.Acting.{memory_keyed}
use Rattle.pp_kind_memory.proofs.Kept.{kept_there}

-- The gap that an operation leaves.
pub leaves : (a : MemOp) (u : Undo) → Leaves memory Bears Differ a u (gap_left a u)
leaves (Read a v) u = λ s is h k. refl
leaves (Write a v) u = λ s is h k bears.
    left_apart memory addresses memory_keyed s (Write a v) (number_of u) (ap number_of k) h
leaves (Cas a e n true) u = λ s is h k bears.
    left_apart memory addresses memory_keyed s (Cas a e n true) e
    ((memory_keyed.legal s (Cas a e n true)).0 h) h
leaves (Cas a e n false) u = λ s is h k.
    left_same memory addresses memory_keyed s (Cas a e n false) is refl h

-- After an operation at its address, by whether the number is the required one.
abbrev CrossesThere : ℤ → MemOp → Type 0
CrossesThere c b =
    Crosses memory Bears Differ (record { at = address_of b; number = c }) b (gap_there c b)

crosses_read : (a v c : ℤ) (t : Bool) → int_eq v c ≡ t
    → Crosses memory Bears Differ (record { at = a; number = c }) (Read a v)
    (where_found t a c)
crosses_read a v c true e = λ s is h bears. (
  tt,
  λ t it d. stays_there memory addresses memory_keyed a c (Read a v) s t refl
      (sym (same_key v c e)) refl h d,
)
crosses_read a v c false e = tt

crosses_done : (a e n c : ℤ) (t : Bool) → int_eq e c ≡ t
    → Crosses memory Bears Differ (record { at = a; number = c }) (Cas a e n true)
    (where_found t a n)
crosses_done a e n c true r = λ s is h bears. (
  tt,
  λ t it d. stays_there memory addresses memory_keyed a c (Cas a e n true) s t refl
      (sym (same_key e c r)) refl h d,
)
crosses_done a e n c false r = tt

crosses_failed : (a e n c : ℤ) (t : Bool) → int_eq e c ≡ t
    → Crosses memory Bears Differ (record { at = a; number = c }) (Cas a e n false)
    (where_found (not t) a c)
crosses_failed a e n c true r = tt
crosses_failed a e n c false r = λ s is h bears. (
  tt,
  λ t it d. stays_there memory addresses memory_keyed a c (Cas a e n false) s t refl
      (λ f. let g = key_is e c (sym f) in let k : true ≡ false = sym g ∙ r in cc) refl h d,
)

crosses_there : (c : ℤ) (b : MemOp) → CrossesThere c b
crosses_there c (Read a v) = crosses_read a v c (int_eq v c) refl
crosses_there c (Write a v) = λ s is h. (
  tt,
  λ t it d. meets_there memory addresses memory_keyed a c (Write a v) (Covered a c) s t refl tt
      (λ x. refl) (ap (Covered a)) is it h d,
)
crosses_there c (Cas a e n true) = crosses_done a e n c (int_eq e c) refl
crosses_there c (Cas a e n false) = crosses_failed a e n c (int_eq e c) refl

-- The gap after each operation.
pub crosses : (g : MemGap) (b : MemOp) → Crosses memory Bears Differ g b (gap_behind g b)
crosses g b = by (int_eq (address_of b) g.at) refl
  where
    by : (t : Bool) → int_eq (address_of b) g.at ≡ t → Crosses memory Bears Differ g b
        (if t then gap_there g.number b else crossed.Apart g)
    by true e = subst
        (λ (q : ℤ). Crosses memory Bears Differ (record { at = q; number = g.number }) b
        (gap_there g.number b))
        (same_key (address_of b) g.at e) (crosses_there g.number b)
    by false e = λ s is h bears. (
      tt,
      λ t it d. stays_elsewhere memory addresses memory_keyed g.at g.number b s t e
          (kept_there t s b) h d,
    )

-- The memory with the number at the address is the other one.
pub closes : (g : MemGap) (s new : FinMap int_cmp ℤ) (a n : ℤ) → a ≡ g.at → n ≡ g.number
    → MayClose memory Differ g s → new ≡ written s a n → ClosesTo memory Differ g s new
closes g s new a n f h may e t it d = e
    ∙ one_apart memory addresses memory_keyed s (written s a n) t a n
    (written_has_no_zero s a n may.0) it (written_at s a n)
    (subst (λ (q : ℤ). DiffersAt addresses q n s t) (sym f)
    (subst (λ (c : ℤ). DiffersAt addresses g.at c s t) (sym h) d))
