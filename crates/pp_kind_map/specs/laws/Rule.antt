-- Proof machinery: the table of a map is the rule of two operations on one key.
use Rattle.std.proofs.Common.{◌≡◌, ℤ, int_eq, Bool, true, false, not, ◌&&◌, ◌||◌, ◌↔◌, Option, Some}
use Rattle.std.proofs.Common.{None, refl, ap, arith}
use Rattle.std.proofs.lemmas.Int.{ints}
use Rattle.std.specs.Option.{option_eq}
use Rattle.pp_kind_keyed.specs.Keys.{rule_lets}
use Rattle.pp_kind_keyed.proofs.Rule.{same_key, key_is}
use Rattle.pp_kind_map.specs.declared.op.MapOp.{MapOp}
use Rattle.pp_kind_map.specs.declared.op.MapOp.TheVariants.{Put, Get, Remove}
use Rattle.pp_kind_map.specs.Movers.{table_lets}
use Rattle.pp_kind_map.specs.KeyMap.{map_keys}

-- Two keys have the same: one value, or none.
pub alike_is : (c d : Option ℤ) → (option_eq int_eq c d ≡ true) ↔ (c ≡ d)
alike_is None None = ((λ h. refl), (λ h. refl))
alike_is None (Some y) = ((λ h. absurd (cc)), (λ h. absurd (cc)))
alike_is (Some x) None = ((λ h. absurd (cc)), (λ h. absurd (cc)))
alike_is (Some x) (Some y) = ((λ h. ap Some (same_key x y h)), (λ h. key_is x y (cc)))

-- The conditions of the table that read figures, as the rule has them.
unequal : (c d : Bool) → not c ≡ (not c || (d && false))
unequal true true = refl
unequal true false = refl
unequal false d = refl

chain : (u v w z : ℤ) → (not (int_eq v w) || (int_eq u v && int_eq v w && int_eq w z))
    ≡ (not (int_eq v w) || (int_eq v z && (int_eq z u && int_eq u w)))
chain u v w z = grind (arith, ints)

-- Each entry of the table is the rule of its forms.
pub table_is_rule : (a b : MapOp) → table_lets a b ≡ rule_lets map_keys a b
table_is_rule (Put k v None) (Put l z None) = refl
table_is_rule (Put k v None) (Put l z (Some w)) = unequal (int_eq v w) (int_eq v z)
table_is_rule (Put k v None) (Get l None) = refl
table_is_rule (Put k v None) (Get l (Some w)) = unequal (int_eq v w) (int_eq v w)
table_is_rule (Put k v None) (Remove l None) = refl
table_is_rule (Put k v None) (Remove l (Some w)) = unequal (int_eq v w) false
table_is_rule (Put k v (Some u)) (Put l z None) = refl
table_is_rule (Put k v (Some u)) (Put l z (Some w)) = chain u v w z
table_is_rule (Put k v (Some u)) (Get l None) = refl
table_is_rule (Put k v (Some u)) (Get l (Some w)) = chain u v w w
table_is_rule (Put k v (Some u)) (Remove l None) = refl
table_is_rule (Put k v (Some u)) (Remove l (Some w)) = unequal (int_eq v w) false
table_is_rule (Get k None) (Put l z None) = refl
table_is_rule (Get k None) (Put l z (Some w)) = refl
table_is_rule (Get k None) (Get l None) = refl
table_is_rule (Get k None) (Get l (Some w)) = refl
table_is_rule (Get k None) (Remove l None) = refl
table_is_rule (Get k None) (Remove l (Some w)) = refl
table_is_rule (Get k (Some v)) (Put l z None) = refl
table_is_rule (Get k (Some v)) (Put l z (Some w)) = chain v v w z
table_is_rule (Get k (Some v)) (Get l None) = refl
table_is_rule (Get k (Some v)) (Get l (Some w)) = chain v v w w
table_is_rule (Get k (Some v)) (Remove l None) = refl
table_is_rule (Get k (Some v)) (Remove l (Some w)) = unequal (int_eq v w) false
table_is_rule (Remove k None) (Put l z None) = refl
table_is_rule (Remove k None) (Put l z (Some w)) = refl
table_is_rule (Remove k None) (Get l None) = refl
table_is_rule (Remove k None) (Get l (Some w)) = refl
table_is_rule (Remove k None) (Remove l None) = refl
table_is_rule (Remove k None) (Remove l (Some w)) = refl
table_is_rule (Remove k (Some u)) (Put l z None) = refl
table_is_rule (Remove k (Some u)) (Put l z (Some w)) = refl
table_is_rule (Remove k (Some u)) (Get l None) = refl
table_is_rule (Remove k (Some u)) (Get l (Some w)) = refl
table_is_rule (Remove k (Some u)) (Remove l None) = refl
table_is_rule (Remove k (Some u)) (Remove l (Some w)) = refl
