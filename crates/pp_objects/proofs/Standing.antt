-- Proof machinery: an addition to a counter represents all others there, and every other operation represents its equals.
use Rattle.std.proofs.Common.{◌≡◌, ℕ, ℤ, pos, Bool, true, false, int_eq, not, refl, sym, subst}
use Rattle.std.proofs.Common.{inl, inr, ◌⊎◌, arith}
use Rattle.std.proofs.lemmas.Int.{ints}
use Rattle.pp_core.specs.declared.call.Kind.{Kind}
use Rattle.pp_core.specs.declared.call.Kind.TheVariants as kinds
use Rattle.pp_kind_counter.specs.Count.{counter}
use Rattle.pp_kind_counter.specs.Movers.{may_swap}
use Rattle.pp_kind_counter.specs.declared.op.CounterOp.{CounterOp}
use Rattle.pp_kind_counter.specs.declared.op.CounterOp.TheVariants.{Add, Get, FetchAdd}
use Rattle.pp_kind_counter.specs.laws.Swapping.{may_swap_exact}
use Rattle.pp_kind.specs.Object.{Swaps}
use Rattle.pp_kind.specs.Parts.{StandsFor}
use Rattle.pp_objects.specs.declared.act.Act.{Act}
use Rattle.pp_objects.specs.declared.act.Act.TheVariants.{Counter}
use Rattle.pp_objects.specs.declared.act.Op.{Op}
use Rattle.pp_objects.specs.One.{one}
use Rattle.pp_objects.specs.Objects.{objects, act_at}
use Rattle.pp_objects.specs.Parts.{both_add}
use Rattle.pp_objects.specs.laws.Kinds.{Ops, act_of, each_act, its_act, object_of, only_kind}
use Rattle.pp_objects.specs.laws.Acts.{swaps_in, swaps_out}
use Rattle.pp_objects.specs.laws.One.{one_lawful, reached_shape, others_swap}
use Rattle.pp_objects.specs.laws.Elements.{same_place}
use Rattle.pp_objects.specs.laws.Places as places

-- What swaps with an addition of a number other than 0 swaps with every addition.
add_before : (d e : ℤ) (c : CounterOp) → not (int_eq d (pos 0)) ≡ true
    → may_swap (Add d) c ≡ true → may_swap (Add e) c ≡ true
add_before d e (Add x) n t = refl
add_before d e (Get v) n t = grind (arith, ints)
add_before d e (FetchAdd x v) n t = grind (arith, ints)

add_behind : (d e : ℤ) (c : CounterOp) → not (int_eq d (pos 0)) ≡ true
    → may_swap c (Add d) ≡ true → may_swap c (Add e) ≡ true
add_behind d e (Add x) n t = refl
add_behind d e (Get v) n t = grind (arith, ints)
add_behind d e (FetchAdd x v) n t = grind (arith, ints)

add_stands : (d e : ℤ) → not (int_eq d (pos 0)) ≡ true → StandsFor counter (Add d) (Add e)
add_stands d e n = (
  (λ c h. (may_swap_exact (Add e) c).0 (add_before d e c n ((may_swap_exact (Add d) c).1 h))),
  (λ c h. (may_swap_exact c (Add e)).0 (add_behind d e c n ((may_swap_exact c (Add d)).1 h))),
)

module _ (k : Kind) (a b : Ops k) (stands : StandsFor (object_of k) a b) where
  before_by : (c : Act) (t : Bool) → one.fits k c ≡ t → Swaps one (act_of k a) c
      → Swaps one (act_of k b) c
  before_by c true e h =
      let x = its_act k c e in
      let there = swaps_out k a x.0 (subst (λ (y : Act). Swaps one (act_of k a) y) x.1 h) in
      subst (λ (y : Act). Swaps one (act_of k b) y) (sym x.1)
      (swaps_in k reached_shape b x.0 (stands.0 x.0 there))
  before_by c false e h = others_swap k b c e

  behind_by : (q : Kind) (c : Ops q) (t : Bool) → one.fits q (act_of k b) ≡ t
      → Swaps one (act_of q c) (act_of k a) → Swaps one (act_of q c) (act_of k b)
  behind_by q c true e h =
      let P : Kind → Type 0 = λ p. (x : Ops p) → Swaps one (act_of p x) (act_of k a)
      → Swaps one (act_of p x) (act_of k b) in
      let there : P k = λ x g. swaps_in k reached_shape x b (stands.1 x (swaps_out k x a g)) in
      subst P (sym (only_kind k q b e)) there c h
  behind_by q c false e h = others_swap q c (act_of k b) e

  -- An operation that represents another one in its kind does so among all acts.
  stands_in : StandsFor one (act_of k a) (act_of k b)
  stands_in = (
    (λ c h. before_by c (one.fits k c) refl h),
    each_act (λ c. Swaps one c (act_of k a) → Swaps one c (act_of k b))
        (λ q c h. behind_by q c (one.fits q (act_of k b)) refl h),
  )

module _ (p : ℕ) (a b : Act) (stands : StandsFor one a b) where
  place_before : (c : Op) → (p ≡ c.object) ⊎ (p ≡ c.object → ⊥) → Swaps objects (act_at p a) c
      → Swaps objects (act_at p b) c
  place_before c (inl e) h =
      let P : ℕ → Type 0 = λ q. Swaps objects (act_at p a) (act_at q c.act)
      → Swaps objects (act_at p b) (act_at q c.act) in
      let there : P p = λ g. places.swaps_at one one_lawful p b c.act
      (stands.0 c.act (places.swaps_alone one one_lawful p a c.act g)) in
      subst P e there h
  place_before c (inr apart) h = places.others_swap one one_lawful (act_at p b) c apart

  place_behind : (c : Op) → (p ≡ c.object) ⊎ (p ≡ c.object → ⊥) → Swaps objects c (act_at p a)
      → Swaps objects c (act_at p b)
  place_behind c (inl e) h =
      let P : ℕ → Type 0 = λ q. Swaps objects (act_at q c.act) (act_at p a)
      → Swaps objects (act_at q c.act) (act_at p b) in
      let there : P p = λ g. places.swaps_at one one_lawful p c.act b
      (stands.1 c.act (places.swaps_alone one one_lawful p c.act a g)) in
      subst P e there h
  place_behind c (inr apart) h = places.others_swap one one_lawful c (act_at p b)
      (λ e. apart (sym e))

  -- An act that represents another one does so at each place.
  stands_at : StandsFor objects (act_at p a) (act_at p b)
  stands_at = (
    (λ c h. place_before c (same_place p c.object) h),
    (λ c h. place_behind c (same_place p c.object) h),
  )

act_stands : (a b : Act) → both_add a b ≡ true → StandsFor one a b
act_stands (Counter (Add d)) (Counter (Add e)) t =
    stands_in kinds.Counter (Add d) (Add e) (add_stands d e t)
act_stands a b t = absurd (cc)

-- An addition represents the others of its place, and every other operation represents its equals.
pub addition_stands : (a b : Op) → a.object ≡ b.object → both_add a.act b.act ≡ true
    → StandsFor objects a b
addition_stands a b e t = subst (λ (p : ℕ). StandsFor objects a (act_at p b.act)) e
    (stands_at a.object a.act b.act (act_stands a.act b.act t))

-- An operation represents each operation with its object and its act.
pub equal_stands : (a b : Op) → a.object ≡ b.object → a.act ≡ b.act → StandsFor objects a b
equal_stands a b e f =
    let there : StandsFor objects a (act_at a.object b.act) =
    subst (λ (y : Act). StandsFor objects a (act_at a.object y)) f ((λ c h. h), (λ c h. h)) in
    subst (λ (p : ℕ). StandsFor objects a (act_at p b.act)) e there
