-- Proof machinery: how the gaps of a priority queue are crossed.
use Rattle.std.proofs.Common.{◌≡◌, ◌≢◌, ℕ, suc, ◌+◌, ◌≤◌, ℤ, ◌<ℤ◌, ◌≤ℤ◌, Bool, true, false}
use Rattle.std.proofs.Common.{int_le, int_eq, List, [], ◌∷◌, Option, Some, None, IfSome, IsTrue}
use Rattle.std.proofs.Common.{Result, Ok, Err, OnOk}
use Rattle.std.specs.Option.{SomeIff}
use Rattle.std.proofs.Common.{refl, sym, ◌∙◌, ap, subst, arith, w64, to_z, of_z, FitsSigned}
use Rattle.std.proofs.lemmas.Int.{ints, to_z-of_z}
use Rattle.pp_core.specs.declared.answer.OutOfMemory.{OutOfMemory}
use Rattle.pp_kind.specs.Gaps.{ClosesTo}
use Rattle.pp_kind_priority.specs.declared.op.PrioOp.{PrioOp}
use Rattle.pp_kind_priority.specs.declared.op.PrioOp.TheVariants.{Insert, Take, Least}
use Rattle.pp_kind_priority.specs.declared.gap.PrioGap.{PrioGap}
use Rattle.pp_kind_priority.specs.declared.gap.PrioGap.TheVariants as gap
use Rattle.pp_kind_priority.specs.Values.{copies_of, least_of, with_one, without_least, without_one}
use Rattle.pp_kind_priority.specs.Values.{BeginsAt, IsAscending}
use Rattle.pp_kind_priority.specs.Prios.{prio}
use Rattle.pp_kind_priority.specs.Gaps.{Differ, LeadsTo}
use Rattle.pp_kind_priority.specs.laws.Values.{copies_here, copies_past, put_before, put_behind, put_first}
use Rattle.pp_kind_priority.specs.laws.Values.{put_taken, stays_least, taken_here, was_least, with_two}
use Rattle.pp_kind_priority.specs.laws.Legal.{told, legal_where_told}

-- Tests of two values.
like : (v : ℤ) → int_eq v v ≡ true
like v = grind (arith, ints)

alike : (v x : ℤ) → int_eq v x ≡ true → x ≡ v
alike v x h = grind (arith, ints)

unlike : (v x : ℤ) → v ≢ x → int_eq v x ≡ false
unlike v x h = grind (arith, ints)

-- How many of the values are this one, with one more of it.
one_counted_by : (v x : ℤ) (values : List ℤ) (t s : Bool) → int_le v x ≡ t → int_eq v x ≡ s
    → copies_of v (with_one v values) ≡ suc (copies_of v values)
    → copies_of v (with_one v (x ∷ values)) ≡ suc (copies_of v (x ∷ values))
one_counted_by v x values true s h e k = ap (copies_of v) (put_before v x values h)
    ∙ copies_here v v (x ∷ values) (like v)
one_counted_by v x values false true h e k = ap (copies_of v) (put_behind v x values h)
    ∙ copies_here v x (with_one v values) e ∙ ap suc (k ∙ sym (copies_here v x values e))
one_counted_by v x values false false h e k = ap (copies_of v) (put_behind v x values h)
    ∙ copies_past v x (with_one v values) e ∙ k ∙ ap suc (sym (copies_past v x values e))

one_counted : (v : ℤ) (values : List ℤ)
    → copies_of v (with_one v values) ≡ suc (copies_of v values)
one_counted v [] = copies_here v v [] (like v)
one_counted v (x ∷ values) =
    one_counted_by v x values (int_le v x) (int_eq v x) refl refl (one_counted v values)

-- With one more of another, there are as many.
past_both : (v x : ℤ) (values others : List ℤ) (s : Bool) → int_eq v x ≡ s
    → copies_of v others ≡ copies_of v values
    → copies_of v (x ∷ others) ≡ copies_of v (x ∷ values)
past_both v x values others true e k = copies_here v x others e ∙ ap suc k
    ∙ sym (copies_here v x values e)
past_both v x values others false e k = copies_past v x others e ∙ k
    ∙ sym (copies_past v x values e)

other_counted_by : (v w x : ℤ) (values : List ℤ) (t : Bool) → int_le w x ≡ t
    → int_eq v w ≡ false → copies_of v (with_one w values) ≡ copies_of v values
    → copies_of v (with_one w (x ∷ values)) ≡ copies_of v (x ∷ values)
other_counted_by v w x values true h e k = ap (copies_of v) (put_before w x values h)
    ∙ copies_past v w (x ∷ values) e
other_counted_by v w x values false h e k = ap (copies_of v) (put_behind w x values h)
    ∙ past_both v x values (with_one w values) (int_eq v x) refl k

other_counted : (v w : ℤ) (values : List ℤ) → int_eq v w ≡ false
    → copies_of v (with_one w values) ≡ copies_of v values
other_counted v w [] e = copies_past v w [] e
other_counted v w (x ∷ values) e =
    other_counted_by v w x values (int_le w x) refl e (other_counted v w values e)

-- Without the least there are no more, and one less of the least.
rest_counted_by : (v x : ℤ) (values : List ℤ) (s : Bool) → int_eq v x ≡ s
    → copies_of v values ≤ copies_of v (x ∷ values)
rest_counted_by v x values true e = let h = copies_here v x values e in omega arith
rest_counted_by v x values false e = let h = copies_past v x values e in omega arith

rest_counted : (v : ℤ) (values : List ℤ)
    → copies_of v (without_least values) ≤ copies_of v values
rest_counted v [] = omega arith
rest_counted v (x ∷ values) = rest_counted_by v x values (int_eq v x) refl

least_counted : (v : ℤ) (values : List ℤ) → least_of values ≡ Some v
    → copies_of v values ≡ suc (copies_of v (without_least values))
least_counted v [] h = cc
least_counted v (x ∷ values) h = let e : x ≡ v = cc in
    copies_here v x values (let s = like v in cc)

-- A value that is less than the first of ascending ones is none of them.
none_before : (v x : ℤ) (values : List ℤ) → v <ℤ x → BeginsAt x values → IsAscending values
    → copies_of v values ≡ 0
none_before v x [] l b is = refl
none_before v x (y ∷ values) l b is =
    copies_past v y values (grind (arith, ints))
    ∙ none_before v y values (grind (arith, ints)) is.0 is.1

again_by : (v x : ℤ) (values : List ℤ) (t : Bool) → int_eq v x ≡ t
    → IsAscending (v ∷ x ∷ values) → 1 ≤ copies_of v (x ∷ values) → x ≡ v
again_by v x values true e is h = alike v x e
again_by v x values false e is h =
    let past = copies_past v x values e in
    let first = is.0 in
    let below : v <ℤ x = grind (arith, ints) in
    let none = none_before v x values below is.1.0 is.1.1 in
    absurd (omega arith)

again : (v : ℤ) (values : List ℤ) → IsAscending (v ∷ values) → 1 ≤ copies_of v values
    → least_of values ≡ Some v
again v [] is h = absurd (omega arith)
again v (x ∷ values) is h = ap Some (again_by v x values (int_eq v x) refl is h)

-- If there is another one of the least, it is the least of the others.
least_again : (v : ℤ) (values : List ℤ) → IsAscending values → least_of values ≡ Some v
    → 1 ≤ copies_of v (without_least values) → least_of (without_least values) ≡ Some v
least_again v [] is e h = cc
least_again v (x ∷ values) is e h = let f : x ≡ v = cc in
    again v values (subst (λ (y : ℤ). IsAscending (y ∷ values)) f is) h

-- Putting the least value back restores the list.
put_back : (v : ℤ) (values : List ℤ) → IsAscending values → least_of values ≡ Some v
    → values ≡ with_one v (without_least values)
put_back v [] is e = cc
put_back v (x ∷ values) is e = let f : x ≡ v = cc in
    let g = put_first x values is.0 in cc

-- If the value that was put in is the least, the other queue has all but it.
other_is : (v : ℤ) (values others : List ℤ) → least_of values ≡ Some v
    → values ≡ with_one v others → others ≡ without_least values
other_is v [] others e d = cc
other_is v (x ∷ values) others e d = let f : x ≡ v = cc in
    sym (put_taken v others) ∙ ap (without_one v) (sym d)
    ∙ taken_here v x values (let s = like v in cc)

-- A value was put in, and the operation speaks of the same.
pub put_again : (v : ℤ) (n m : ℕ) → m ≡ n + 1
    → LeadsTo (gap.Insert v n) (Insert v) (gap.Insert v m)
put_again v n m more = λ s is h bears. (
  (let k = one_counted v s in omega arith),
  λ t ist d. record {
    legal = legal_where_told (Insert v) t tt;
    differ = ap (with_one v) d;
    kept = refl;
  },
)

-- The gap of a value that was put in crosses a take of it, if another copy is left.
pub taken_again : (v : ℤ) (n m : ℕ) → n ≤ m + 1 → 1 ≤ m
    → LeadsTo (gap.Insert v n) (Take (Some v)) (gap.Insert v m)
taken_again v n m less some = λ s is h bears.
    let e = told (Take (Some v)) s h in
    let next = least_again v s is e (omega arith) in
    let k = least_counted v s e in (
      omega arith,
      λ t ist d.
          let o = other_is v s t e d in
          let f = ap least_of o ∙ next in
          record {
            legal = legal_where_told (Take (Some v)) t f;
            differ = sym o ∙ put_back v t ist f;
            kept = refl;
          },
    )

-- The gap of a value that was put in crosses a look that finds it, if there are two of it.
pub seen_again : (v : ℤ) (n m : ℕ) → n ≤ m → 2 ≤ m
    → LeadsTo (gap.Insert v n) (Least (Some v)) (gap.Insert v m)
seen_again v n m less some = λ s is h bears.
    let e = told (Least (Some v)) s h in
    let k = least_counted v s e in
    let next = least_again v s is e (omega arith) in (
      omega arith,
      λ t ist d.
          record {
            legal = legal_where_told (Least (Some v)) t (ap least_of (other_is v s t e d) ∙ next);
            differ = d;
            kept = refl;
          },
    )

-- A value was put in, and the operation speaks of another.
pub put_other : (v w : ℤ) (n : ℕ) → v ≢ w
    → LeadsTo (gap.Insert v n) (Insert w) (gap.Insert v n)
put_other v w n other = λ s is h bears. (
  (let k = other_counted v w s (unlike v w other) in omega arith),
  λ t ist d. record {
    legal = legal_where_told (Insert w) t tt;
    differ = ap (with_one w) d ∙ with_two w v t;
    kept = refl;
  },
)

-- The gap of a value that was put in crosses a take of another value.
pub taken_other : (v w : ℤ) (n : ℕ) → v ≢ w
    → LeadsTo (gap.Insert v n) (Take (Some w)) (gap.Insert v n)
taken_other v w n other = λ s is h bears. (
  (let k = rest_counted v s in omega arith),
  λ t ist d.
      let was = was_least v w t other (ap least_of (sym d) ∙ told (Take (Some w)) s h) in
      record {
        legal = legal_where_told (Take (Some w)) t was.least;
        differ = ap without_least d ∙ sym was.rest;
        kept = refl;
      },
)

-- The gap of a value that was put in crosses a look that finds another value.
pub seen_other : (v w : ℤ) (n : ℕ) → v ≢ w
    → LeadsTo (gap.Insert v n) (Least (Some w)) (gap.Insert v n)
seen_other v w n other = λ s is h bears. (
  bears,
  λ t ist d.
      let was = was_least v w t other (ap least_of (sym d) ∙ told (Least (Some w)) s h) in
      record { legal = legal_where_told (Least (Some w)) t was.least; differ = d; kept = refl },
)

-- A value was taken, and what is put in or found is not greater.
pub put_beside : (v w : ℤ) → LeadsTo (gap.Take v) (Insert w) (gap.Take v)
put_beside v w = λ s is h bears. (
  tt,
  λ t ist d. record {
    legal = legal_where_told (Insert w) t tt;
    differ = ap (with_one w) d ∙ with_two w v s;
    kept = refl;
  },
)

-- The least value stays the least if one is added that is not less, and taking it leaves the added one.
record StaysFirst (v w : ℤ) (s t : List ℤ) : Type 0 where
  pub least : least_of t ≡ Some w
  pub rest : without_least t ≡ with_one v (without_least s)

stays_first : (v w : ℤ) (s t : List ℤ) → w ≤ℤ v → IsAscending s → least_of s ≡ Some w
    → t ≡ with_one v s → StaysFirst v w s t
stays_first v w [] t low is e d = cc
stays_first v w (z ∷ s) t low is e d =
    let f : z ≡ w = cc in
    let stays = stays_least z v s (grind (arith, ints)) is in
    record {
      least = ap least_of d ∙ stays.least ∙ ap Some f;
      rest = ap without_least d ∙ stays.rest;
    }

-- The gap of a value that was taken crosses a take of one that is not greater.
pub taken_below : (v w : ℤ) → w ≤ℤ v → LeadsTo (gap.Take v) (Take (Some w)) (gap.Take v)
taken_below v w low = λ s is h bears. (
  tt,
  λ t ist d.
      let stays = stays_first v w s t low is (told (Take (Some w)) s h) d in
      record {
        legal = legal_where_told (Take (Some w)) t stays.least;
        differ = stays.rest;
        kept = refl;
      },
)

-- The gap of a value that was taken crosses a look that finds one that is not greater.
pub seen_below : (v w : ℤ) → w ≤ℤ v → LeadsTo (gap.Take v) (Least (Some w)) (gap.Take v)
seen_below v w low = λ s is h bears. (
  tt,
  λ t ist d.
      let stays = stays_first v w s t low is (told (Least (Some w)) s h) d in
      record {
        legal = legal_where_told (Least (Some w)) t stays.least;
        differ = d;
        kept = refl;
      },
)

-- The same for an equal operation.
pub led_by : (g h : PrioGap) (a b : PrioOp) → a ≡ b → LeadsTo g b h → LeadsTo g a h
led_by g h a b e k = subst (λ (op : PrioOp). LeadsTo g op h) (sym e) k

-- Numbers that are stored as one are one.
pub stored_alike : (v w : ℤ) → FitsSigned w64 v → FitsSigned w64 w → of_z w64 w ≡ of_z w64 v
    → w ≡ v
stored_alike v w fits also e =
    sym (to_z-of_z w64 w also) ∙ ap (to_z w64) e ∙ to_z-of_z w64 v fits

-- If two numbers in range are in order as they are stored, they are in order.
pub stored_below : (v w : ℤ) → FitsSigned w64 v → FitsSigned w64 w
    → IsTrue (int_le (to_z w64 (of_z w64 w)) (to_z w64 (of_z w64 v))) → w ≤ℤ v
stored_below v w fits also h =
    let e = to_z-of_z w64 w also in
    let f = to_z-of_z w64 v fits in
    grind (arith, ints)

-- One more copy is required, if the number of copies has room.
pub put_counted : (v : ℤ) (n : ℕ) (op : PrioOp) (Fits : Type 0) (r : Option ℕ) → op ≡ Insert v
    → SomeIff r Fits (n + 1)
    → IfSome r (λ (m : ℕ). LeadsTo (gap.Insert v n) op (gap.Insert v m))
put_counted v n op Fits None e h = tt
put_counted v n op Fits (Some m) e h =
    led_by (gap.Insert v n) (gap.Insert v m) op (Insert v) e (put_again v n m h.1)

-- The queue that lacks the value, and the one that has it still.
pub closed_without : (v j : ℤ) (n : ℕ) (g : PrioGap) (old new : List ℤ)
    (r : Result (Unit {0}) OutOfMemory) → j ≡ v → g ≡ gap.Insert v n
    → OnOk r (new ≡ without_one j old) → OnOk r (ClosesTo prio Differ g old new)
closed_without v j n g old new (Ok u) i e h = λ t ist d.
    h ∙ ap (λ (x : ℤ). without_one x old) i
    ∙ ap (without_one v) (subst (λ (k : PrioGap). Differ k old t) e d) ∙ put_taken v t
closed_without v j n g old new (Err refused) i e h = tt

-- To put the taken value back closes the gap of a take.
pub closed_with : (v j : ℤ) (g : PrioGap) (old new : List ℤ)
    (r : Result (Unit {0}) OutOfMemory) → j ≡ v → g ≡ gap.Take v
    → OnOk r (new ≡ with_one j old) → OnOk r (ClosesTo prio Differ g old new)
closed_with v j g old new (Ok u) i e h = λ t ist d.
    h ∙ ap (λ (x : ℤ). with_one x old) i ∙ sym (subst (λ (k : PrioGap). Differ k old t) e d)
closed_with v j g old new (Err refused) i e h = tt
