-- Proof machinery: the gaps of a set, and that each call returns the right one.
use Rattle.std.proofs.Common.{◌≡◌, ℤ, int_eq, Bool, true, false, if◌then◌else◌, refl, sym, ◌∙◌}
use Rattle.std.proofs.Common.{subst}
use Rattle.std.specs.Ordering.{int_cmp}
use Rattle.std.specs.FinSet.{FinSet}
use Rattle.pp_kind.specs.Object.{IsLegal}
use Rattle.pp_kind.specs.Gaps.{Leaves, Crosses, ClosesTo}
use Rattle.pp_kind.specs.declared.gapped.Left.TheVariants as left
use Rattle.pp_kind.specs.declared.gapped.Crossed.TheVariants as crossed
use Rattle.pp_kind_keyed.specs.Keys.{told_keys}
use Rattle.pp_kind_keyed.specs.Gaps.{DiffersAt}
use Rattle.pp_kind_keyed.proofs.Gaps.{left_apart, left_same, one_apart, stays_elsewhere}
use Rattle.pp_kind_set.specs.declared.gap.SetGap.{SetGap}
use Rattle.pp_kind_set.specs.declared.op.SetOp.{SetOp}
use Rattle.pp_kind_set.specs.Keys.{insert, remove}
use Rattle.pp_kind_set.specs.Operations.{key_of, bit_before, bit_after}
use Rattle.pp_kind_set.specs.Sets.{key_set, bits, same_bit}
use Rattle.pp_kind_set.specs.Gaps.{Bears, Differ, gap_left, gap_behind}
use Rattle.pp_kind_set.specs.laws.Bits.{one_bit, inserted_at, removed_at}
use Rattle.pp_kind_set.specs.laws.Acting.{set_keyed}

-- A legal operation finds the value at its key.
found : (s : FinSet int_cmp) (a : SetOp) → IsLegal key_set s a
    → bits.cell s (key_of a) ≡ bit_before a
found s a h = (set_keyed.legal s a).0 h

-- The gap that an operation leaves, by whether it leaves what it finds.
pub leaves : (a : SetOp) (u : Unit {0}) → Leaves key_set Bears Differ a u (gap_left a)
leaves a u = by (same_bit (bit_before a) (bit_after a)) refl
  where
    by : (t : Bool) → same_bit (bit_before a) (bit_after a) ≡ t
        → Leaves key_set Bears Differ a u (if t then left.Same
        else left.Apart (record { key = key_of a; present = bit_before a }))
    by true e = λ s is h k.
        left_same key_set (told_keys bits) set_keyed s a is
        (sym (found s a h ∙ (one_bit (bit_before a) (bit_after a)).0 e)) h
    by false e = λ s is h k bears.
        left_apart key_set (told_keys bits) set_keyed s a (bit_before a) (found s a h) h

-- The gap after an operation, by whether it is at the key.
pub crosses : (g : SetGap) (b : SetOp) → Crosses key_set Bears Differ g b (gap_behind g b)
crosses g b = by (int_eq (key_of b) g.key) refl
  where
    by : (t : Bool) → int_eq (key_of b) g.key ≡ t
        → Crosses key_set Bears Differ g b (if t then crossed.Unknown else crossed.Apart g)
    by true e = tt
    by false e = λ s is h bears. (
      tt,
      λ t it d. stays_elsewhere key_set (told_keys bits) set_keyed g.key g.present b s t e
          (λ f. refl) h d,
    )

-- The set with the key, or without it, is the other one.
seen_at : (g : SetGap) (s t : FinSet int_cmp) (q : ℤ) (b : Bool) → q ≡ g.key → g.present ≡ b
    → Differ g s t → DiffersAt (told_keys bits) q b s t
seen_at g s t q b f h d =
    subst (λ (p : ℤ). DiffersAt (told_keys bits) p b s t) (sym f)
    (subst (λ (c : Bool). DiffersAt (told_keys bits) g.key c s t) h d)

-- To insert the key of a gap closes it, if the gap says that the key is to be present.
pub closes_in : (g : SetGap) (s new : FinSet int_cmp) (q : ℤ) → q ≡ g.key → g.present ≡ true
    → new ≡ insert s q → ClosesTo key_set Differ g s new
closes_in g s new q f h e t it d = e
    ∙ one_apart key_set (told_keys bits) set_keyed s (insert s q) t q true tt it (inserted_at s q)
    (seen_at g s t q true f h d)

-- To remove the key of a gap closes it, if the gap says that the key is to be absent.
pub closes_out : (g : SetGap) (s new : FinSet int_cmp) (q : ℤ) → q ≡ g.key → g.present ≡ false
    → new ≡ remove s q → ClosesTo key_set Differ g s new
closes_out g s new q f h e t it d = e
    ∙ one_apart key_set (told_keys bits) set_keyed s (remove s q) t q false tt it (removed_at s q)
    (seen_at g s t q false f h d)
