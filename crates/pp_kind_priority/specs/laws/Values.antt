-- Proof machinery: ascending lists with one value more or less.
use Rattle.std.proofs.Common.{◌≡◌, ◌≢◌, ℤ, Bool, true, false, int_le, int_eq, IsTrue, if◌then◌else◌}
use Rattle.std.proofs.Common.{suc, List, [], ◌∷◌, Some, None, refl, sym, ◌∙◌, ap, arith}
use Rattle.std.proofs.lemmas.Int.{ints}
use Rattle.pp_kind_priority.specs.Values.{copies_of, least_of, without_least, with_one, without_one}
use Rattle.pp_kind_priority.specs.Values.{BeginsAt, IsAscending}

-- A value goes before the first that is not less, and past one that is less.
pub put_before : (v x : ℤ) (values : List ℤ) → int_le v x ≡ true
    → with_one v (x ∷ values) ≡ v ∷ x ∷ values
put_before v x values h =
    ap (λ (b : Bool). if b then v ∷ x ∷ values else x ∷ with_one v values) h

-- A value is put in after a first value that is less.
pub put_behind : (v x : ℤ) (values : List ℤ) → int_le v x ≡ false
    → with_one v (x ∷ values) ≡ x ∷ with_one v values
put_behind v x values h =
    ap (λ (b : Bool). if b then v ∷ x ∷ values else x ∷ with_one v values) h

-- Taking a value removes its first copy, and passes over other values.
pub taken_here : (v x : ℤ) (values : List ℤ) → int_eq v x ≡ true
    → without_one v (x ∷ values) ≡ values
taken_here v x values h = ap (λ (b : Bool). if b then values else x ∷ without_one v values) h

-- A value is taken out after a first value that is another one.
pub taken_past : (v x : ℤ) (values : List ℤ) → int_eq v x ≡ false
    → without_one v (x ∷ values) ≡ x ∷ without_one v values
taken_past v x values h = ap (λ (b : Bool). if b then values else x ∷ without_one v values) h

-- The number of copies of a value grows by one at each element equal to it, and by none at others.
pub copies_here : (v x : ℤ) (values : List ℤ) → int_eq v x ≡ true
    → copies_of v (x ∷ values) ≡ suc (copies_of v values)
copies_here v x values h =
    ap (λ (b : Bool). if b then suc (copies_of v values) else copies_of v values) h

-- A first value that is another one is no copy of a value.
pub copies_past : (v x : ℤ) (values : List ℤ) → int_eq v x ≡ false
    → copies_of v (x ∷ values) ≡ copies_of v values
copies_past v x values h =
    ap (λ (b : Bool). if b then suc (copies_of v values) else copies_of v values) h

-- Order of two numbers.
same_test : (v : ℤ) → int_eq v v ≡ true
same_test v = grind (arith, ints)

greater : (v x : ℤ) → int_le v x ≡ false → int_eq v x ≡ false
greater v x h = grind (arith, ints)

above : (v x : ℤ) → int_le v x ≡ false → IsTrue (int_le x v)
above v x h = grind (arith, ints)

between : (v w x : ℤ) → int_le v x ≡ true → int_le w x ≡ false → int_le w v ≡ false
between v w x h k = grind (arith, ints)

alike : (v w : ℤ) → int_le v w ≡ true → int_le w v ≡ true → v ≡ w
alike v w h k = grind (arith, ints)

one_is_less : (v w : ℤ) → int_le v w ≡ false → int_le w v ≡ false → ⊥
one_is_less v w h k = grind (arith, ints)

-- Taking a value that was just put in restores the list.
put_taken_by : (v x : ℤ) (values : List ℤ) (t : Bool) → int_le v x ≡ t
    → without_one v (with_one v values) ≡ values
    → without_one v (with_one v (x ∷ values)) ≡ x ∷ values
put_taken_by v x values true e h = ap (without_one v) (put_before v x values e)
    ∙ taken_here v v (x ∷ values) (same_test v)
put_taken_by v x values false e h = ap (without_one v) (put_behind v x values e)
    ∙ taken_past v x (with_one v values) (greater v x e) ∙ ap (λ (l : List ℤ). x ∷ l) h

-- To take out a value that was put in leaves the values as they were.
pub put_taken : (v : ℤ) (values : List ℤ) → without_one v (with_one v values) ≡ values
put_taken v [] = taken_here v v [] (same_test v)
put_taken v (x ∷ values) = put_taken_by v x values (int_le v x) refl (put_taken v values)

-- The first of ascending values goes before the others.
pub put_first : (v : ℤ) (values : List ℤ) → BeginsAt v values → with_one v values ≡ v ∷ values
put_first v [] h = refl
put_first v (x ∷ values) h = put_before v x values (grind (arith, ints))

-- With one more, they ascend still.
begins_by : (v x y : ℤ) (values : List ℤ) (t : Bool) → int_le v y ≡ t → IsTrue (int_le x v)
    → IsTrue (int_le x y) → BeginsAt x (if t then v ∷ y ∷ values else y ∷ with_one v values)
begins_by v x y values true e h k = h
begins_by v x y values false e h k = k

begins : (v x : ℤ) (values : List ℤ) → IsTrue (int_le x v) → BeginsAt x values
    → BeginsAt x (with_one v values)
begins v x [] h k = h
begins v x (y ∷ values) h k = begins_by v x y values (int_le v y) refl h k

ascending_by : (v x : ℤ) (values : List ℤ) (t : Bool) → int_le v x ≡ t
    → IsAscending (x ∷ values) → IsAscending (with_one v values)
    → IsAscending (if t then v ∷ x ∷ values else x ∷ with_one v values)
ascending_by v x values true e h k = (grind (arith, ints), h)
ascending_by v x values false e h k = (begins v x values (above v x e) h.0, k)

-- Ascending values ascend with one more value.
pub with_one_ascends : (v : ℤ) (values : List ℤ) → IsAscending values
    → IsAscending (with_one v values)
with_one_ascends v [] h = (tt, tt)
with_one_ascends v (x ∷ values) h =
    ascending_by v x values (int_le v x) refl h (with_one_ascends v values h.1)

-- Ascending values ascend without the least.
pub rest_ascends : (values : List ℤ) → IsAscending values → IsAscending (without_least values)
rest_ascends [] h = tt
rest_ascends (x ∷ values) h = h.1

-- It is one which of two values is put in first.
abbrev pub Turned : ℤ → ℤ → List ℤ → Type 0
Turned v w values = with_one v (with_one w values) ≡ with_one w (with_one v values)

both_before : (v w x : ℤ) (values : List ℤ) (r s : Bool) → int_le v w ≡ r → int_le w v ≡ s
    → int_le v x ≡ true → int_le w x ≡ true → Turned v w (x ∷ values)
both_before v w x values true true e f h k = let same = alike v w e f in cc
both_before v w x values true false e f h k =
    ap (with_one v) (put_before w x values k) ∙ put_before v w (x ∷ values) e
    ∙ sym (ap (with_one w) (put_before v x values h) ∙ put_behind w v (x ∷ values) f
    ∙ ap (λ (l : List ℤ). v ∷ l) (put_before w x values k))
both_before v w x values false true e f h k =
    ap (with_one v) (put_before w x values k) ∙ put_behind v w (x ∷ values) e
    ∙ ap (λ (l : List ℤ). w ∷ l) (put_before v x values h)
    ∙ sym (ap (with_one w) (put_before v x values h) ∙ put_before w v (x ∷ values) f)
both_before v w x values false false e f h k = absurd (one_is_less v w e f)

one_before : (v w x : ℤ) (values : List ℤ) → int_le v x ≡ true → int_le w x ≡ false
    → Turned v w (x ∷ values)
one_before v w x values h k =
    ap (with_one v) (put_behind w x values k) ∙ put_before v x (with_one w values) h
    ∙ sym (ap (with_one w) (put_before v x values h)
    ∙ put_behind w v (x ∷ values) (between v w x h k)
    ∙ ap (λ (l : List ℤ). v ∷ l) (put_behind w x values k))

both_behind : (v w x : ℤ) (values : List ℤ) → int_le v x ≡ false → int_le w x ≡ false
    → Turned v w values → Turned v w (x ∷ values)
both_behind v w x values h k t =
    ap (with_one v) (put_behind w x values k) ∙ put_behind v x (with_one w values) h
    ∙ ap (λ (l : List ℤ). x ∷ l) t
    ∙ sym (ap (with_one w) (put_behind v x values h) ∙ put_behind w x (with_one v values) k)

turned_by : (v w x : ℤ) (values : List ℤ) (r s : Bool) → int_le v x ≡ r → int_le w x ≡ s
    → Turned v w values → Turned v w (x ∷ values)
turned_by v w x values true true h k t =
    both_before v w x values (int_le v w) (int_le w v) refl refl h k
turned_by v w x values true false h k t = one_before v w x values h k
turned_by v w x values false true h k t = sym (one_before w v x values k h)
turned_by v w x values false false h k t = both_behind v w x values h k t

none_yet : (v w : ℤ) (r s : Bool) → int_le v w ≡ r → int_le w v ≡ s → Turned v w []
none_yet v w true true e f = let same = alike v w e f in cc
none_yet v w true false e f = put_before v w [] e ∙ sym (put_behind w v [] f)
none_yet v w false true e f = put_behind v w [] e ∙ sym (put_before w v [] f)
none_yet v w false false e f = absurd (one_is_less v w e f)

-- Two values may be put in in either order.
pub with_two : (v w : ℤ) (values : List ℤ) → Turned v w values
with_two v w [] = none_yet v w (int_le v w) (int_le w v) refl refl
with_two v w (x ∷ values) =
    turned_by v w x values (int_le v x) (int_le w x) refl refl (with_two v w values)

-- If the least is not the one that was put in, it was the least before.
pub record WasLeast (v w : ℤ) (values : List ℤ) : Type 0 where
  pub least : least_of values ≡ Some w
  pub rest : with_one v (without_least values) ≡ without_least (with_one v values)

was_least_by : (v w x : ℤ) (values : List ℤ) (t : Bool) → int_le v x ≡ t → v ≢ w
    → least_of (if t then v ∷ x ∷ values else x ∷ with_one v values) ≡ Some w
    → WasLeast v w (x ∷ values)
was_least_by v w x values true e n h = absurd (n (let f : v ≡ w = cc in f))
was_least_by v w x values false e n h =
    record { least = h; rest = sym (ap without_least (put_behind v x values e)) }

-- If the least value is not the one that was put in, it was the least before.
pub was_least : (v w : ℤ) (values : List ℤ) → v ≢ w → least_of (with_one v values) ≡ Some w
    → WasLeast v w values
was_least v w [] n h = absurd (n (let f : v ≡ w = cc in f))
was_least v w (x ∷ values) n h = was_least_by v w x values (int_le v x) refl n h

-- A list that a value was put in has a least value.
some_least_by : (v x : ℤ) (values : List ℤ) (t : Bool)
    → least_of (if t then v ∷ x ∷ values else x ∷ with_one v values) ≡ None → ⊥
some_least_by v x values true h = cc
some_least_by v x values false h = cc

-- There is a least value after one was put in.
pub some_least : (v : ℤ) (values : List ℤ) → least_of (with_one v values) ≡ None → ⊥
some_least v [] h = cc
some_least v (x ∷ values) h = some_least_by v x values (int_le v x) h

-- A value that is not less than the least leaves it the least.
pub record StaysLeast (w v : ℤ) (values : List ℤ) : Type 0 where
  pub least : least_of (with_one v (w ∷ values)) ≡ Some w
  pub rest : without_least (with_one v (w ∷ values)) ≡ with_one v values

stays_least_by : (w v : ℤ) (values : List ℤ) (t : Bool) → int_le v w ≡ t → int_le w v ≡ true
    → BeginsAt w values → StaysLeast w v values
stays_least_by w v values true e h k = let same = alike v w e h in
    let front = put_first w values k in let put = put_before v w values e in
    record { least = cc; rest = cc }
stays_least_by w v values false e h k = let put = put_behind v w values e in
    record { least = ap least_of put; rest = ap without_least put }

-- A value that is not less than the least leaves it the least.
pub stays_least : (w v : ℤ) (values : List ℤ) → int_le w v ≡ true → IsAscending (w ∷ values)
    → StaysLeast w v values
stays_least w v values h k = stays_least_by w v values (int_le v w) refl h k.0
