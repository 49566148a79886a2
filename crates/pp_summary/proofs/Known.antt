-- Samples of own operations, part by part.
use Rattle.std.specs.Prelude.{◌≡◌, ℕ, Bool, true, false, List, [], ◌∷◌, ◌++◌, Option, None, Some, cond}
use Rattle.std.specs.Map.{lookup}
use Rattle.std.proofs.Common.{refl, sym, ap, subst, ◌∙◌}
use mathlib.Core.Logic.{inl, inr}
use Rattle.pp_core.specs.declared.entry.Item.{Item}
use Rattle.pp_model.proofs.Lists.{in_cases}
use Rattle.pp_kind.specs.declared.part.Part.{Part}
use Rattle.pp_kind.specs.Parts.{Covers, PartsSwap, SampleList}
use Rattle.pp_log_shared.specs.Uncommitted.{same_part}
use Rattle.pp_log_shared.proofs.Uncommitted.{same_part-itself, same_part-true}
use Rattle.pp_kind.specs.Object.{Object, Swaps}
use Rattle.pp_summary.specs.Known.{CoversOf, Knows, KnowsAll}
use Rattle.pp_summary.specs.Passing.{LetPass}

module _ {Shape State Op Undo : Type 0} (o : Object Shape State Op Undo) (part_of : Op → Part) where
  -- The samples of one part are replaced by samples that cover what the old ones covered, and one operation more.
  module _ (op : Op) (k : Part) (old new : List (Part × SampleList Op)) (s : SampleList Op) (here : k ≡ part_of op)
      (is : (q : Part) → lookup (same_part q) new ≡ cond (same_part k q) (Some s) (lookup (same_part q) old)) where
    stays : ((b : Op) → CoversOf o (lookup (same_part k) old) b → Covers o s b) → (b : Op) (t : Bool) → same_part k (part_of b) ≡ t →
        CoversOf o (lookup (same_part (part_of b)) old) b → CoversOf o (cond t (Some s) (lookup (same_part (part_of b)) old)) b
    stays keeps b true e h = keeps b (subst (λ (p : Part). CoversOf o (lookup (same_part p) old) b) (sym (same_part-true k (part_of b) e)) h)
    stays keeps b false e h = h

    -- If one part gets other samples, each operation that was known is still known.
    pub still_known : ((b : Op) → CoversOf o (lookup (same_part k) old) b → Covers o s b) → (b : Op) → Knows o part_of old b → Knows o part_of new b
    still_known keeps b h =
        subst (λ (z : Option (SampleList Op)). CoversOf o z b) (sym (is (part_of b))) (stays keeps b (same_part k (part_of b)) refl h)

    -- If the samples of its part cover an operation, it is known.
    pub now_known : Covers o s op → Knows o part_of new op
    now_known covers =
        let same : same_part k (part_of op) ≡ true = subst (λ (p : Part). same_part k p ≡ true) here (same_part-itself k) in
        let found : lookup (same_part (part_of op)) new ≡ Some s = is (part_of op) ∙ ap (λ (t : Bool). cond t (Some s) (lookup (same_part (part_of op)) old)) same in
        subst (λ (z : Option (SampleList Op)). CoversOf o z op) (sym found) covers

  -- If the samples still know what they knew, and know one more operation, they know all own operations with it.
  pub all_known : (old new : List (Part × SampleList Op)) (items : List (Item Op)) (item : Item Op) → KnowsAll o part_of old items →
      ((b : Op) → Knows o part_of old b → Knows o part_of new b) → Knows o part_of new item.op → KnowsAll o part_of new (items ++ item ∷ [])
  all_known old new items item known keeps more p i = elim (in_cases p items (item ∷ []) i) [
    | inl j ↦ keeps p.op (known p j)
    | inr j ↦ elim j [ inl e ↦ subst (λ (z : Item Op). Knows o part_of new z.op) (sym e) more | inr z ↦ absurd z ]
  ]

  -- Own operations swap with an operation if those of its part do.
  module _ (apart : PartsSwap o part_of) (place : Op → ℕ) (op : Op) (slots : List (Part × SampleList Op)) (own : List (Item Op)) (known : KnowsAll o part_of slots own) where
    of_part : ((b : Op) → CoversOf o (lookup (same_part (part_of op)) slots) b → Swaps o b op) → (b : Op) (t : Bool) → same_part (part_of b) (part_of op) ≡ t →
        Knows o part_of slots b → Swaps o b op
    of_part there b true e h = there b (subst (λ (p : Part). CoversOf o (lookup (same_part p) slots) b) (same_part-true (part_of b) (part_of op) e) h)
    of_part there b false e h = apart b op (λ same.
        let z : false ≡ true = sym e ∙ subst (λ (p : Part). same_part (part_of b) p ≡ true) same (same_part-itself (part_of b)) in cc)

    -- If nothing is known of the part of an operation, all own operations swap with it.
    pub none_of_part : lookup (same_part (part_of op)) slots ≡ None → LetPass o place own op
    none_of_part none a i at =
        of_part (λ b h. absurd (subst (λ (z : Option (SampleList Op)). CoversOf o z b) none h)) a.op (same_part (part_of a.op) (part_of op)) refl (known a i)

    -- If the samples of the part of an operation swap with it, all own operations do.
    pub samples_let : (s : SampleList Op) → lookup (same_part (part_of op)) slots ≡ Some s → ((b : Op) → Covers o s b → Swaps o b op) → LetPass o place own op
    samples_let s is swaps a i at =
        of_part (λ b h. swaps b (subst (λ (z : Option (SampleList Op)). CoversOf o z b) is h)) a.op (same_part (part_of a.op) (part_of op)) refl (known a i)
