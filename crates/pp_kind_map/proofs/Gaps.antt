-- Proof machinery: the gaps of a map, and that each call returns the right one.
use Rattle.std.proofs.Common.{◌≡◌, ℤ, int_eq, Bool, true, false, if◌then◌else◌, refl, sym, ◌∙◌}
use Rattle.std.proofs.Common.{subst, Option}
use Rattle.std.specs.Ordering.{int_cmp}
use Rattle.std.specs.Option.{option_eq}
use Rattle.std.specs.FinMap.{FinMap}
use Rattle.pp_kind.specs.Object.{IsLegal}
use Rattle.pp_kind.specs.Gaps.{Leaves, Crosses, ClosesTo}
use Rattle.pp_kind.specs.declared.gapped.Left.TheVariants as left
use Rattle.pp_kind.specs.declared.gapped.Crossed.TheVariants as crossed
use Rattle.pp_kind_keyed.specs.Keys.{told_keys}
use Rattle.pp_kind_keyed.specs.Gaps.{DiffersAt}
use Rattle.pp_kind_keyed.proofs.Gaps.{left_apart, left_same, one_apart, stays_elsewhere}
use Rattle.pp_kind_map.specs.declared.gap.MapGap.{MapGap}
use Rattle.pp_kind_map.specs.declared.op.MapOp.{MapOp}
use Rattle.pp_kind_map.specs.Operations.{key_of, found_by, left_by, with_value}
use Rattle.pp_kind_map.specs.KeyMap.{key_map, map_keys}
use Rattle.pp_kind_map.specs.Gaps.{Bears, Differ, gap_left, gap_behind}
use Rattle.pp_kind_map.specs.laws.Rule.{alike_is}
use Rattle.pp_kind_map.specs.laws.Acting.{map_is_keyed, get-with_value}

-- A legal operation finds the value at its key.
found : (s : FinMap int_cmp ℤ) (a : MapOp) → IsLegal key_map s a
    → map_keys.cell s (key_of a) ≡ found_by a
found s a h = (map_is_keyed.legal s a).0 h

-- The gap that an operation leaves, by whether it leaves what it finds.
pub leaves : (a : MapOp) (u : Unit {0}) → Leaves key_map Bears Differ a u (gap_left a)
leaves a u = by (option_eq int_eq (found_by a) (left_by a)) refl
  where
    by : (t : Bool) → option_eq int_eq (found_by a) (left_by a) ≡ t
        → Leaves key_map Bears Differ a u (if t then left.Same
        else left.Apart (record { key = key_of a; value = found_by a }))
    by true e = λ s is h k.
        left_same key_map (told_keys map_keys) map_is_keyed s a is
        (sym (found s a h ∙ (alike_is (found_by a) (left_by a)).0 e)) h
    by false e = λ s is h k bears.
        left_apart key_map (told_keys map_keys) map_is_keyed s a (found_by a) (found s a h) h

-- The gap after an operation, by whether it is at the key.
pub crosses : (g : MapGap) (b : MapOp) → Crosses key_map Bears Differ g b (gap_behind g b)
crosses g b = by (int_eq (key_of b) g.key) refl
  where
    by : (t : Bool) → int_eq (key_of b) g.key ≡ t
        → Crosses key_map Bears Differ g b (if t then crossed.Unknown else crossed.Apart g)
    by true e = tt
    by false e = λ s is h bears. (
      tt,
      λ t it d. stays_elsewhere key_map (told_keys map_keys) map_is_keyed g.key g.value b s t e
          (λ f. refl) h d,
    )

-- The map with the value at the key, or without one there, is the other one.
pub closes : (g : MapGap) (s new : FinMap int_cmp ℤ) (q : ℤ) (v : Option ℤ) → q ≡ g.key
    → v ≡ g.value → new ≡ with_value s q v → ClosesTo key_map Differ g s new
closes g s new q v f h e t it d = e
    ∙ one_apart key_map (told_keys map_keys) map_is_keyed s (with_value s q v) t q v tt it
    (get-with_value s q v)
    (subst (λ (p : ℤ). DiffersAt (told_keys map_keys) p v s t) (sym f)
    (subst (λ (c : Option ℤ). DiffersAt (told_keys map_keys) g.key c s t) (sym h) d))
