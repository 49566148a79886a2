-- Proof machinery: any two operations in the clique swap.
use Rattle.std.proofs.Common.{◌≡◌, Bool, true, false, IsTrue, refl, sym, ◌∙◌, ap, subst}
use Rattle.pp_core.specs.declared.call.Kind.{Kind}
use Rattle.pp_core.specs.declared.call.Kind.TheVariants as kinds
use Rattle.pp_kind_memory.specs.laws.Lawful as memories
use Rattle.pp_kind_priority.specs.laws.Lawful as priorities
use Rattle.pp_kind.specs.Object.{CliqueSwaps, Swaps}
use Rattle.pp_objects.specs.declared.act.Act.{Act}
use Rattle.pp_objects.specs.One.{one}
use Rattle.pp_objects.specs.Objects.{objects}
use Rattle.pp_objects.specs.laws.Acts.{swaps_in}
use Rattle.pp_objects.specs.laws.Kinds.{Ops, act_of, each_act, its_act, object_of}
use Rattle.pp_objects.specs.laws.One.{one_lawful, others_swap, reached_shape}
use Rattle.pp_objects.specs.laws.Places as places

-- The clique of each kind swaps.
swaps_of : (k : Kind) → CliqueSwaps (object_of k)
swaps_of kinds.Memory a b h i = memories.clique_swaps a b h i
swaps_of kinds.PriorityQueue a b h i = priorities.clique_swaps a b h i
swaps_of k a b h i = absurd (cc)

clique_is : (k : Kind) (a : Ops k)
    → one.upkeep.in_clique (act_of k a) ≡ (object_of k).upkeep.in_clique a
clique_is kinds.Memory a = refl
clique_is k a = refl

acts_swap_by : (k : Kind) (a : Ops k) (b : Act) (t : Bool) → one.fits k b ≡ t
    → IsTrue (one.upkeep.in_clique (act_of k a)) → IsTrue (one.upkeep.in_clique b)
    → Swaps one (act_of k a) b
acts_swap_by k a b true e h i =
    let c = its_act k b e in
    subst (λ (y : Act). Swaps one (act_of k a) y) (sym c.1)
    (swaps_in k reached_shape a c.0
    (swaps_of k a c.0 (sym (clique_is k a) ∙ h)
    (sym (clique_is k c.0) ∙ sym (ap one.upkeep.in_clique c.1) ∙ i)))
acts_swap_by k a b false e h i = others_swap k a b e

-- Acts in the clique swap, also those of two kinds.
acts_swap : (b a : Act) → IsTrue (one.upkeep.in_clique a) → IsTrue (one.upkeep.in_clique b)
    → Swaps one a b
acts_swap b = each_act (λ a. IsTrue (one.upkeep.in_clique a) → IsTrue (one.upkeep.in_clique b)
    → Swaps one a b)
    (λ k a h i. acts_swap_by k a b (one.fits k b) refl h i)

-- Any two operations in the clique swap.
pub clique_swaps : CliqueSwaps objects
clique_swaps a b h i = places.swap_by one one_lawful a b (λ e. acts_swap b.act a.act h i)
