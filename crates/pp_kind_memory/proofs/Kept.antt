-- Proof machinery: the undo value of an operation does not depend on operations at other addresses, nor on those at its own that it swaps
-- with. The exception are two writes, each of which keeps what it covers.
use Rattle.std.proofs.Common.{◌≡◌, ◌≢◌, ℤ, pos, ◌-ℤ◌, int_eq, Bool, true, false, not, ◌&&◌, IsTrue}
use Rattle.std.proofs.Common.{refl, sym, ◌∙◌, ap, arith}
use Rattle.std.proofs.lemmas.Int.{ints}
use Rattle.std.specs.Ordering.{int_cmp}
use Rattle.std.specs.FinMap.{FinMap}
use Rattle.pp_kind.specs.Object.{IsLegal, MayKeep, KeptAs, Swaps}
use Rattle.pp_kind_keyed.proofs.Rule.{key_is, other_key}
use Rattle.pp_kind_keyed.proofs.Acting.{left_elsewhere, left_here}
use Rattle.pp_kind_memory.specs.declared.op.MemOp.{MemOp}
use Rattle.pp_kind_memory.specs.declared.op.MemOp.TheVariants.{Read, Write, Cas}
use Rattle.pp_kind_memory.specs.Values.{value_at}
use Rattle.pp_kind_memory.specs.declared.undo.Undo.TheVariants.{Covered, Nothing}
use Rattle.pp_kind_memory.specs.Operations.{address_of, is_write, kept_by, memory_after, writes_at}
use Rattle.pp_kind_memory.specs.Memories.{memory, addresses}
use Rattle.pp_kind_memory.specs.Movers.{may_swap, may_swap_there}
use Rattle.pp_kind_memory.specs.laws.Acting.{memory_keyed}
use Rattle.pp_kind_memory.specs.laws.Lawful.{may_swap_exact}

-- It depends on the number at its address alone.
pub kept_there : (m n : FinMap int_cmp ℤ) (a : MemOp)
    → value_at m (address_of a) ≡ value_at n (address_of a) → kept_by m a ≡ kept_by n a
kept_there m n (Read a v) h = refl
kept_there m n (Write a v) h = ap (Covered a) h
kept_there m n (Cas a e k done) h = refl

kept_behind : (m : FinMap int_cmp ℤ) (a b : MemOp) → int_eq (address_of a) (address_of b) ≡ false
    → IsLegal memory m b → kept_by m a ≡ kept_by (memory_after m b) a
kept_behind m a b e h = kept_there m (memory_after m b) a
    (sym (left_elsewhere memory addresses memory_keyed m b (address_of a) e h))

other_address : (x y : ℤ) → x ≢ y → int_eq x y ≡ false
other_address x y h = grind (arith, ints)

apart_alike : (a b : MemOp) → address_of a ≢ address_of b → KeptAs memory false a b
apart_alike a b apart m is h g l =
    let e = other_address (address_of a) (address_of b) apart in (
      kept_behind m b a (other_key (address_of a) (address_of b) e) h,
      sym (kept_behind m a b e g),
    )

-- Operations at one address, of which the table says that they swap.
unequal : (v e : ℤ) → not (int_eq v e) ≡ true → v ≡ e → ⊥
unequal v e t h = grind (arith, ints)

settled : (e n w : ℤ) → (int_eq n w && int_eq (n -ℤ e) (pos 0)) ≡ true → e ≡ n
settled e n w t = grind (arith, ints)

equal : (v w : ℤ) → int_eq v w ≡ true → v ≡ w
equal v w t = grind (arith, ints)

one_address_alike : (a b : MemOp) → address_of a ≡ address_of b
    → (is_write a && is_write b) ≡ false → may_swap_there a b ≡ true → KeptAs memory false a b
one_address_alike (Read a v) (Read b w) e t k m is h g l = (refl, refl)
one_address_alike (Read a v) (Write b w) e t k m is h g l = (refl, refl)
one_address_alike (Read a v) (Cas b c n done) e t k m is h g l = (refl, refl)
one_address_alike (Write a v) (Read b w) e t k m is h g l = (refl, refl)
one_address_alike (Write a v) (Write b w) e t k m is h g l = absurd (cc)
one_address_alike (Write a v) (Cas b c n true) e t k m is h g l =
    let after = memory_after m (Write a v) in
    let finds = (memory_keyed.legal after (Cas b c n true)).0 l in
    let left = left_here memory addresses memory_keyed m (Write a v) b (sym e) h in
    absurd (unequal v c k (sym left ∙ finds))
one_address_alike (Write a v) (Cas b c n false) e t k m is h g l =
    (refl, ap (Covered a) (left_here memory addresses memory_keyed m (Cas b c n false) a e g))
one_address_alike (Cas a c n done) (Read b w) e t k m is h g l = (refl, refl)
one_address_alike (Cas a c n true) (Write b w) e t k m is h g l =
    let finds = (memory_keyed.legal m (Cas a c n true)).0 h in
    let left = left_here memory addresses memory_keyed m (Cas a c n true) b (sym e) h in
    (ap (Covered b) (ap (value_at m) (sym e) ∙ finds ∙ settled c n w k ∙ sym left), refl)
one_address_alike (Cas a c n false) (Write b w) e t k m is h g l =
    (ap (Covered b) (sym (left_here memory addresses memory_keyed m (Cas a c n false) b (sym e) h)), refl)
one_address_alike (Cas a c n done) (Cas b d i other) e t k m is h g l = (refl, refl)

-- The table decides for two operations at one address.
asked_there : (a b : MemOp) → int_eq (address_of a) (address_of b) ≡ true → may_swap a b ≡ true
    → may_swap_there a b ≡ true
asked_there a b e h = cc

swap_there : (a b : MemOp) → address_of a ≡ address_of b → Swaps memory a b
    → may_swap_there a b ≡ true
swap_there a b e h =
    asked_there a b (key_is (address_of a) (address_of b) e) ((may_swap_exact a b).1 h)

address_cases : (x y : ℤ) (b : Bool) → int_eq x y ≡ b → (P : Type 0) → (x ≡ y → P) → (x ≢ y → P) → P
address_cases x y true e P f g = f (equal x y e)
address_cases x y false e P f g = g (λ h. let k = key_is x y h in let c : true ≡ false = cc in cc)

-- If not both write at one address, what each keeps is its own.
kept_alone : (a b : MemOp) → (address_of a ≡ address_of b → (is_write a && is_write b) ≡ false)
    → Swaps memory a b → KeptAs memory false a b
kept_alone a b t h =
    address_cases (address_of a) (address_of b) (int_eq (address_of a) (address_of b)) refl
    (KeptAs memory false a b)
    (λ e. one_address_alike a b e (t e) (swap_there a b e h))
    (apart_alike a b)

-- Two writes of one number at one address.
writes_turn : (a b : MemOp) → address_of a ≡ address_of b → IsTrue (is_write a) → IsTrue (is_write b)
    → may_swap_there a b ≡ true → KeptAs memory true a b
writes_turn (Write a v) (Write b w) e s t k m is h g l = (
  ap (λ q. Covered q (value_at m q)) (sym e),
  ap (Covered a) (left_here memory addresses memory_keyed m (Write b w) a e g ∙ sym (equal v w k)
      ∙ sym (left_here memory addresses memory_keyed m (Write a v) b (sym e) h))
      ∙ ap (λ q. Covered q (value_at (memory_after m (Write a v)) b)) e,
)
writes_turn (Write a v) (Read b w) e s t k m is h g l = cc
writes_turn (Write a v) (Cas b c n done) e s t k m is h g l = cc
writes_turn (Read a v) b e s t k m is h g l = cc
writes_turn (Cas a c n done) b e s t k m is h g l = cc

kept_in_turn : (a b : MemOp) → address_of a ≡ address_of b → IsTrue (is_write a)
    → IsTrue (is_write b) → Swaps memory a b → KeptAs memory true a b
kept_in_turn a b e s t h = writes_turn a b e s t (swap_there a b e h)

-- The undo value of an operation shows whether it writes, and where.
wrote_there : (b : MemOp) (at n : ℤ) → MayKeep memory b (Covered at n)
    → IsTrue (is_write b) × (address_of b ≡ at)
wrote_there (Write b w) at n k = (refl, let e = k.2 in cc)
wrote_there (Read b w) at n k = let e = k.2 in absurd (cc)
wrote_there (Cas b c m done) at n k = let e = k.2 in absurd (cc)

wrote_nothing : (b : MemOp) → MayKeep memory b Nothing → is_write b ≡ false
wrote_nothing (Write b w) k = let e = k.2 in absurd (cc)
wrote_nothing (Read b w) k = refl
wrote_nothing (Cas b c m done) k = refl

writes_here : (a : MemOp) (at : ℤ) → writes_at a at ≡ true
    → IsTrue (is_write a) × (address_of a ≡ at)
writes_here (Write a v) at t = (refl, equal a at t)
writes_here (Read a v) at t = absurd (cc)
writes_here (Cas a e n done) at t = absurd (cc)

writes_elsewhere : (a : MemOp) (at : ℤ) → writes_at a at ≡ false → address_of a ≡ at
    → is_write a ≡ false
writes_elsewhere (Write a v) at t e = let k = key_is a at e in absurd (cc)
writes_elsewhere (Read a v) at t e = refl
writes_elsewhere (Cas a c n done) at t e = refl

and_false : (v w : Bool) → w ≡ false → (v && w) ≡ false
and_false true w e = e
and_false false w e = refl

false_and : (v w : Bool) → v ≡ false → (v && w) ≡ false
false_and v w e = ap (λ (t : Bool). t && w) e

-- Either way, as what is kept of the second shows.
pub kept_told : (a b : MemOp) (at n : ℤ) (t : Bool) → t ≡ writes_at a at
    → MayKeep memory b (Covered at n) → Swaps memory a b → KeptAs memory t a b
kept_told a b at n true e k h =
    let first = writes_here a at (sym e) in
    let second = wrote_there b at n k in
    kept_in_turn a b (first.1 ∙ sym second.1) first.0 second.0 h
kept_told a b at n false e k h =
    let second = wrote_there b at n k in
    kept_alone a b (λ f. false_and (is_write a) (is_write b)
    (writes_elsewhere a at (sym e) (f ∙ second.1))) h

-- If two operations swap and nothing is kept of the second, each keeps the same in both orders.
pub kept_nothing : (a b : MemOp) → MayKeep memory b Nothing → Swaps memory a b
    → KeptAs memory false a b
kept_nothing a b k = kept_alone a b (λ f. and_false (is_write a) (is_write b) (wrote_nothing b k))

-- The undo values of a pair whose first operation does not write.
pub kept_unwritten : (a b : MemOp) (v : Bool) → v ≡ is_write a → IsTrue (not v) → Swaps memory a b
    → KeptAs memory false a b
kept_unwritten a b true e t h = cc
kept_unwritten a b false e t h = kept_alone a b (λ _. ap (λ (w : Bool). w && is_write b) (sym e)) h
