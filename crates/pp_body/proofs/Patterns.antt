-- The test of a pattern is its meaning.
use Rattle.std.proofs.Common.{◌≡◌, ◌⊎◌, ◌==◌, ℤ, pos, Bool, true, false, ◌&&◌, ◌||◌, Option, None}
use Rattle.std.proofs.Common.{Some, refl, sym, inl, inr, rules}
use Rattle.std.proofs.lemmas.Bool.Decides.{Decides-eqb, Decides-int_eq}
use denote.Enum.Bare.{sameb, same_true, true_same}
use Rattle.pp_core.specs.declared.call.Method.{Method}
use Rattle.pp_core.specs.contracts.call.Method.{the_type}
use Rattle.pp_model.specs.Body.{Pattern, Call, Matches, is_given}
use Rattle.pp_body.specs.Patterns.{matches, is_allowed}

-- If a conjunction is true, so is its first boolean.
pub and_left : (a b : Bool) → (a && b) ≡ true → a ≡ true
and_left true b h = refl
and_left false b h = h

-- If a conjunction is true, so is its second boolean.
pub and_right : (a b : Bool) → (a && b) ≡ true → b ≡ true
and_right true b h = h
and_right false b h = absurd (cc)

-- If two booleans are true, so is their conjunction.
pub both : (a b : Bool) → a ≡ true → b ≡ true → (a && b) ≡ true
both true b h k = k
both false b h k = h

-- If a disjunction is true, so is one of its booleans.
pub or_cases : (a b : Bool) → (a || b) ≡ true → (a ≡ true) ⊎ (b ≡ true)
or_cases true b h = inl refl
or_cases false b h = inr h

-- A disjunction is true if its first boolean is.
pub or_left : (a b : Bool) → a ≡ true → (a || b) ≡ true
or_left true b h = refl
or_left false b h = absurd (cc)

-- A disjunction is true if its second boolean is.
pub or_right : (a b : Bool) → b ≡ true → (a || b) ≡ true
or_right true b h = refl
or_right false b h = h

same_method : (m n : Method) → sameb the_type m n ≡ true → n ≡ m
same_method m n e = sym (same_true the_type (search rules) m n e)

allowed_given : (o : Option ℤ) (z : ℤ) → is_allowed o z ≡ true → is_given o z
allowed_given None z h = tt
allowed_given (Some y) z h = sym ((Decides-int_eq y z).0 h)

given_allowed : (o : Option ℤ) (z : ℤ) → is_given o z → is_allowed o z ≡ true
given_allowed None z h = refl
given_allowed (Some y) z h = (Decides-int_eq y z).1 (sym h)

-- A call that passes the test of a pattern matches the pattern.
pub matches_means : (p : Pattern) (c : Call) → matches p c ≡ true → Matches p c
matches_means p c h =
    let two = and_left (p.object == c.object && sameb the_type p.method c.method && is_allowed p.first c.first && is_allowed p.second c.second) (is_allowed p.third c.third) h in
    let front = and_left (p.object == c.object && sameb the_type p.method c.method && is_allowed p.first c.first) (is_allowed p.second c.second) two in
    let head = and_left (p.object == c.object && sameb the_type p.method c.method) (is_allowed p.first c.first) front in (
      sym ((Decides-eqb p.object c.object).0 (and_left (p.object == c.object) (sameb the_type p.method c.method) head)),
      same_method p.method c.method (and_right (p.object == c.object) (sameb the_type p.method c.method) head),
      allowed_given p.first c.first (and_right (p.object == c.object && sameb the_type p.method c.method) (is_allowed p.first c.first) front),
      allowed_given p.second c.second (and_right (p.object == c.object && sameb the_type p.method c.method && is_allowed p.first c.first) (is_allowed p.second c.second) two),
      allowed_given p.third c.third (and_right (p.object == c.object && sameb the_type p.method c.method && is_allowed p.first c.first && is_allowed p.second c.second) (is_allowed p.third c.third) h),
    )

-- A call that matches a pattern passes its test.
pub means_matches : (p : Pattern) (c : Call) → Matches p c → matches p c ≡ true
means_matches p c m =
    both _ _ (both _ _ (both _ _ (both _ _ ((Decides-eqb p.object c.object).1 (sym m.0)) (true_same the_type p.method c.method (sym m.1))) (given_allowed p.first c.first m.2)) (given_allowed p.second c.second m.3)) (given_allowed p.third c.third m.4)

some_number : Option ℤ → ℤ
some_number None = pos 0
some_number (Some z) = z

number_given : (o : Option ℤ) → is_given o (some_number o)
unfolding some_number
number_given None = tt
number_given (Some z) = refl

-- a pattern matches some call
pub some_call : (p : Pattern) → (c : Call) × Matches p c
some_call p =
    (record { object = p.object; method = p.method; first = some_number p.first; second = some_number p.second; third = some_number p.third }, (refl, refl, number_given p.first, number_given p.second, number_given p.third))
