-- Proof machinery: operations of different parts swap.
use Rattle.std.proofs.Common.{◌≡◌, ℕ, ℤ, Bool, true, false, int_eq, if◌then◌else◌, refl, sym, ◌∙◌}
use Rattle.std.proofs.Common.{ap, subst}
use Rattle.pp_core.specs.declared.call.Kind.{Kind}
use Rattle.pp_core.specs.declared.call.Kind.TheVariants as kinds
use Rattle.pp_kind_keyed.proofs.Rule.{same_key}
use Rattle.pp_kind_memory.specs.Movers as mem
use Rattle.pp_kind_memory.specs.Operations.{address_of}
use Rattle.pp_kind_memory.specs.laws.Lawful as memory_laws
use Rattle.pp_kind_set.specs.Movers as set
use Rattle.pp_kind_set.specs.Operations as sets
use Rattle.pp_kind_set.specs.laws.Lawful as set_laws
use Rattle.pp_kind_map.specs.Movers as map
use Rattle.pp_kind_map.specs.Operations as maps
use Rattle.pp_kind_map.specs.laws.Lawful as map_laws
use Rattle.pp_kind.specs.Object.{Swaps}
use Rattle.pp_kind.specs.Parts.{PartsSwap}
use Rattle.pp_objects.specs.declared.act.Act.{Act}
use Rattle.pp_objects.specs.One.{one}
use Rattle.pp_objects.specs.Objects.{objects, act_at}
use Rattle.pp_objects.specs.Parts.{key_of, part_of}
use Rattle.pp_objects.specs.laws.Kinds.{Ops, act_of, each_act, its_act, object_of}
use Rattle.pp_objects.specs.laws.Acts.{swaps_in}
use Rattle.pp_objects.specs.laws.One.{one_lawful, reached_shape, others_swap}
use Rattle.pp_objects.specs.laws.Places as places

let_by : (t there : Bool) → (t ≡ true → ⊥) → (if t then there else true) ≡ true
let_by true there other = absurd (other refl)
let_by false there other = refl

-- Operations at two keys always swap, whatever swaps at one key.
let_apart : (x y : ℤ) (there : Bool) → (x ≡ y → ⊥)
    → (if int_eq x y then there else true) ≡ true
let_apart x y there other = let_by (int_eq x y) there (λ e. other (same_key x y e))

-- operations of a kind on different keys swap
keys_swap : (k : Kind) (a b : Ops k) → (key_of (act_of k a) ≡ key_of (act_of k b) → ⊥)
    → Swaps (object_of k) a b
keys_swap kinds.Memory a b other = (memory_laws.may_swap_exact a b).0
    (let_apart (address_of a) (address_of b) (mem.may_swap_there a b) other)
keys_swap kinds.KeySet a b other = (set_laws.may_swap_exact a b).0
    (let_apart (sets.key_of a) (sets.key_of b) (set.may_swap_there a b) other)
keys_swap kinds.KeyMap a b other = (map_laws.may_swap_exact a b).0
    (let_apart (maps.key_of a) (maps.key_of b) (map.table_lets a b) other)
keys_swap k a b other = absurd (other refl)

acts_swap_by : (k : Kind) (a : Ops k) (b : Act) (t : Bool) → one.fits k b ≡ t
    → (key_of (act_of k a) ≡ key_of b → ⊥) → Swaps one (act_of k a) b
acts_swap_by k a b true e other =
    let c = its_act k b e in
    subst (λ (y : Act). Swaps one (act_of k a) y) (sym c.1)
    (swaps_in k reached_shape a c.0
    (keys_swap k a c.0 (λ f. other (f ∙ ap key_of (sym c.1)))))
acts_swap_by k a b false e other = others_swap k a b e

-- acts on different keys swap
acts_swap : (b a : Act) → (key_of a ≡ key_of b → ⊥) → Swaps one a b
acts_swap b = each_act (λ a. (key_of a ≡ key_of b → ⊥) → Swaps one a b)
    (λ k a other. acts_swap_by k a b (one.fits k b) refl other)

-- Operations of different parts swap.
pub other_parts_swap : PartsSwap objects part_of
other_parts_swap a b other = places.swap_by one one_lawful a b (λ e.
    acts_swap b.act a.act (λ f. other (ap (λ (p : ℕ). part_of (act_at p a.act)) e
    ∙ ap (λ (q : ℤ). record { object = b.object; key = q }) f)))
