-- Numbers that rise along a list of ids.
use Rattle.std.proofs.Common.{◌≡◌, ℕ, ◌<◌, ◌≤◌, ◌+◌, zero, suc, Bool, not, cond, nat_eq}
use Rattle.std.proofs.Common.{List, [], ◌∷◌, ◌++◌, length, get_or, take, refl, sym, ◌∙◌, ap, subst}
use Rattle.std.proofs.Common.{arith, inl, inr, Option, Some, None}
use Rattle.std.specs.List.{slice_get, remove, position, position_or_len}
use Rattle.std.proofs.lemmas.Bool.{cases_lt, eq-eqb, le-ltb, ne_eqb}
use Rattle.std.proofs.lemmas.Bool.Decides.{eqb_tells}
use Rattle.std.proofs.lemmas.List.{get_or_append_left, get_or_push, length_push}
use Rattle.std.proofs.lemmas.List.Edits.{length-remove, remove-append_left}
use Rattle.std.proofs.lemmas.List.Quantifiers.{all_pairs_push, all_pairs_remove}
use borrow.Author.Tests.{lt-ltb}
use Rattle.std.proofs.lemmas.Option.{slice_get_within}
use Rattle.std.specs.Prelude.{Result, Ok, Err, MatchResult}
use Rattle.std.specs.Result.{result_ok}
use Rattle.pp_core.specs.Values.{Updates, value_of}
use Rattle.pp_log.specs.declared.id_table.IdTable.{IdTable}
use Rattle.pp_log.specs.Index.{IsNewId, IsRising, IsSameTable, IsTableOf, StandOnce, number_of}

-- one number more
pub rising_more : (x : List ℕ) (n : ℕ) → IsRising (x ++ n ∷ []) → IsRising ((x ++ n ∷ []) ++ (n + 1) ∷ [])
rising_more x n h = let size = length_push x n in
    all_pairs_push (λ (a b : ℕ). a < b) (x ++ n ∷ []) (n + 1) h (λ k d lt.
    let last = get_or_push x n d (length x) refl in
    elim (cases_lt k (length x)) [
      | inl l ↦ let less = h k (length x) d l (omega arith) in omega arith
      | inr l ↦ let same : k ≡ length x = omega arith in let at = ap (λ (j : ℕ). get_or (x ++ n ∷ []) j d) same in omega arith
    ])

-- one number less, of which the last is free again
rising_front : (x : List ℕ) (n : ℕ) → IsRising (x ++ n ∷ []) → IsRising x
rising_front x n h i j d l k =
    let size = length_push x n in
    let one = get_or_append_left x (n ∷ []) d i (omega arith) in
    let two = get_or_append_left x (n ∷ []) d j k in
    let less = h i j d l (omega arith) in
    omega arith

without_last : (x : List ℕ) (i : ℕ) (d : ℕ) → length x ≡ suc i → remove x i ++ get_or x i d ∷ [] ≡ x
without_last [] i d h = absurd (omega arith)
without_last (a ∷ []) zero d h = refl
without_last (a ∷ b ∷ x) zero d h = absurd (omega arith)
without_last (a ∷ x) (suc i) d h = ap (λ (z : List ℕ). a ∷ z) (without_last x i d (omega arith))

-- Rising numbers still rise if the last of them is freed and becomes the next number.
pub rising_without_last : (x : List ℕ) (n i d : ℕ) → IsRising (x ++ n ∷ []) → length x ≡ suc i → IsRising (remove x i ++ get_or x i d ∷ [])
rising_without_last x n i d h k = subst IsRising (sym (without_last x i d k)) (rising_front x n h)

-- Rising numbers still rise without the one at a position, and before the same next number.
pub rising_without : (x : List ℕ) (n i : ℕ) → IsRising (x ++ n ∷ []) → i < length x → IsRising (remove x i ++ n ∷ [])
rising_without x n i h k =
    let size = length_push x n in
    subst IsRising (remove-append_left x (n ∷ []) i k) (all_pairs_remove (λ (a b : ℕ). a < b) (x ++ n ∷ []) i (omega arith) h)

-- as a search by halves wants it
pub rising_by_index : (x : List ℕ) (n : ℕ) → IsRising (x ++ n ∷ []) → (i j : ℕ) → i ≤ j → j < length x → get_or x i 0 ≤ get_or x j 0
rising_by_index x n h i j l k = elim (cases_lt i j) [
  | inl less ↦ let below = rising_front x n h i j 0 less k in omega arith
  | inr same ↦ let is : i ≡ j = omega arith in let at = ap (λ (m : ℕ). get_or x m 0) is in omega arith
]

-- the number of an id
here_is : (i n id : ℕ) (ids numbers : List ℕ) → i ≡ id → number_of (i ∷ ids) (n ∷ numbers) id ≡ Some n
here_is i n id ids numbers h = ap (λ (b : Bool). cond b (Some n) (number_of ids numbers id)) (eq-eqb i id h)

not_here : (i n id : ℕ) (ids numbers : List ℕ) → (i ≡ id → ⊥) → number_of (i ∷ ids) (n ∷ numbers) id ≡ number_of ids numbers id
not_here i n id ids numbers h = ap (λ (b : Bool). cond b (Some n) (number_of ids numbers id)) (ne_eqb i id h)

-- with one id more
pub number_of_new : (ids numbers : List ℕ) (id n : ℕ) → length numbers ≡ length ids → IsNewId id ids → number_of (ids ++ id ∷ []) (numbers ++ n ∷ []) id ≡ Some n
number_of_new [] [] id n h new = here_is id n id [] [] refl
number_of_new [] (m ∷ numbers) id n h new = absurd (omega arith)
number_of_new (i ∷ ids) [] id n h new = absurd (omega arith)
number_of_new (i ∷ ids) (m ∷ numbers) id n h new = not_here i m id (ids ++ id ∷ []) (numbers ++ n ∷ []) (λ is. new.0 (sym is)) ∙ number_of_new ids numbers id n (omega arith) new.1

-- With one more id in a table, each other id has the number that it had.
pub number_of_old : (ids numbers : List ℕ) (id n other : ℕ) → length numbers ≡ length ids → (id ≡ other → ⊥) → number_of (ids ++ id ∷ []) (numbers ++ n ∷ []) other ≡ number_of ids numbers other
number_of_old [] [] id n other h apart = not_here id n other [] [] apart
number_of_old [] (m ∷ numbers) id n other h apart = absurd (omega arith)
number_of_old (i ∷ ids) [] id n other h apart = absurd (omega arith)
number_of_old (i ∷ ids) (m ∷ numbers) id n other h apart = ap (λ (o : Option ℕ). cond (nat_eq i other) (Some m) o) (number_of_old ids numbers id n other (omega arith) apart)

-- with one id less
no_number : (ids numbers : List ℕ) (id : ℕ) → IsNewId id ids → number_of ids numbers id ≡ None
no_number [] numbers id new = refl
no_number (i ∷ ids) [] id new = refl
no_number (i ∷ ids) (n ∷ numbers) id new = not_here i n id ids numbers (λ is. new.0 (sym is)) ∙ no_number ids numbers id new.1

stands_behind : (ids : List ℕ) (i id a : ℕ) → IsNewId a ids → slice_get ids i ≡ Some id → a ≡ id → ⊥
stands_behind [] i id a new at is = cc
stands_behind (b ∷ ids) zero id a new at is = let same : b ≡ id = cc in new.0 (is ∙ sym same)
stands_behind (b ∷ ids) (suc i) id a new at is = stands_behind ids i id a new.1 at is

-- An id that is removed with its number has no number.
pub number_of_gone : (ids numbers : List ℕ) (i id : ℕ) → length numbers ≡ length ids → StandOnce ids → slice_get ids i ≡ Some id → number_of (remove ids i) (remove numbers i) id ≡ None
number_of_gone [] numbers i id h once at = cc
number_of_gone (a ∷ ids) [] i id h once at = absurd (omega arith)
number_of_gone (a ∷ ids) (n ∷ numbers) zero id h once at = let same : a ≡ id = cc in no_number ids numbers id (subst (λ (k : ℕ). IsNewId k ids) same once.0)
number_of_gone (a ∷ ids) (n ∷ numbers) (suc i) id h once at = not_here a n id (remove ids i) (remove numbers i) (stands_behind ids i id a once.0 at) ∙ number_of_gone ids numbers i id (omega arith) once.1 at

-- If an id is removed with its number, each other id has the number that it had.
pub number_of_left : (ids numbers : List ℕ) (i id other : ℕ) → length numbers ≡ length ids → slice_get ids i ≡ Some id → (id ≡ other → ⊥) → number_of (remove ids i) (remove numbers i) other ≡ number_of ids numbers other
number_of_left [] numbers i id other h at apart = cc
number_of_left (a ∷ ids) [] i id other h at apart = absurd (omega arith)
number_of_left (a ∷ ids) (n ∷ numbers) zero id other h at apart = let same : a ≡ id = cc in sym (not_here a n other ids numbers (λ is. apart (sym same ∙ is)))
number_of_left (a ∷ ids) (n ∷ numbers) (suc i) id other h at apart = ap (λ (o : Option ℕ). cond (nat_eq a other) (Some n) o) (number_of_left ids numbers i id other (omega arith) at apart)

-- An id that is the first of a list is at the position 0.
place_here : (id i : ℕ) (ids : List ℕ) → i ≡ id → position_or_len (nat_eq id) (i ∷ ids) ≡ 0
place_here id i ids h = ap (λ (b : Bool). cond (not b) (1 + position_or_len (nat_eq id) ids) 0) (eq-eqb id i (sym h))

place_later : (id i : ℕ) (ids : List ℕ) → (i ≡ id → ⊥) → position_or_len (nat_eq id) (i ∷ ids) ≡ 1 + position_or_len (nat_eq id) ids
place_later id i ids h = ap (λ (b : Bool). cond (not b) (1 + position_or_len (nat_eq id) ids) 0) (ne_eqb id i (λ is. h (sym is)))

-- An id that has a number is in the list of ids, and the number is the one at its position.
number_there : (ids numbers : List ℕ) (id n : ℕ) → length numbers ≡ length ids → number_of ids numbers id ≡ Some n → (position_or_len (nat_eq id) ids < length ids) × (get_or numbers (position_or_len (nat_eq id) ids) 0 ≡ n)
number_there [] numbers id n h k = cc
number_there (i ∷ ids) [] id n h k = cc
number_there (i ∷ ids) (m ∷ numbers) id n h k = elim (eqb_tells i id) [
  | inl is ↦ let at = place_here id i ids is.1 in
      let same : Some m ≡ Some n = sym (here_is i m id ids numbers is.1) ∙ k in
      let is : m ≡ n = cc in
      (omega arith, ap (λ (j : ℕ). get_or (m ∷ numbers) j 0) at ∙ is)
  | inr off ↦ let at = place_later id i ids off.1 in
      let r = number_there ids numbers id n (omega arith) (sym (not_here i m id ids numbers off.1) ∙ k) in
      let less = r.0 in
      let next : position_or_len (nat_eq id) (i ∷ ids) ≡ suc (position_or_len (nat_eq id) ids) = omega arith in
      (omega arith, ap (λ (j : ℕ). get_or (m ∷ numbers) j 0) next ∙ r.1)
]

-- An id with a number is at the position of its number.
pub position_by_number : (ids numbers : List ℕ) (next id n k : ℕ) → length numbers ≡ length ids → IsRising (numbers ++ next ∷ []) → number_of ids numbers id ≡ Some n → k < length numbers → get_or numbers k 0 ≡ n → position (nat_eq id) ids ≡ Some k
position_by_number ids numbers next id n k size h has lt at =
    let j = position_or_len (nat_eq id) ids in
    let there = number_there ids numbers id n size has in
    let rising = rising_front numbers next h in
    let same : j ≡ k = elim (cases_lt j k) [
      | inl less ↦ let below = rising j k 0 less lt in absurd (omega (arith, there.1, at))
      | inr more ↦ elim (cases_lt k j) [
        | inl less ↦ let within = there.0 in let below = rising k j 0 less (omega arith) in absurd (omega (arith, there.1, at))
        | inr both ↦ omega arith
      ]
    ] in
    ap (λ (b : Bool). cond b (Some j) None) (lt-ltb j (length ids) there.0) ∙ ap Some same

-- An id without a number is not in the list of ids.
no_place : (ids numbers : List ℕ) (id : ℕ) → length numbers ≡ length ids → number_of ids numbers id ≡ None → position_or_len (nat_eq id) ids ≡ length ids
no_place [] numbers id h k = refl
no_place (i ∷ ids) [] id h k = absurd (omega arith)
no_place (i ∷ ids) (n ∷ numbers) id h k = elim (eqb_tells i id) [
  | inl is ↦ let both : Some n ≡ None = sym (here_is i n id ids numbers is.1) ∙ k in cc
  | inr off ↦ let rest = no_place ids numbers id (omega arith) (sym (not_here i n id ids numbers off.1) ∙ k) in
      let at = place_later id i ids off.1 in omega arith
]

-- An id without a number is not among the ids.
pub no_position : (ids numbers : List ℕ) (id : ℕ) → length numbers ≡ length ids → number_of ids numbers id ≡ None → position (nat_eq id) ids ≡ None
no_position ids numbers id h k =
    let j = position_or_len (nat_eq id) ids in
    let all = no_place ids numbers id h k in
    ap (λ (b : Bool). cond b (Some j) None) (le-ltb j (length ids) (omega arith))

-- A search by halves for the number of an id finds its position.
pub searched_position : (ids numbers : List ℕ) (next id n : ℕ) (r : Result ℕ ℕ) → length numbers ≡ length ids → IsRising (numbers ++ next ∷ []) → number_of ids numbers id ≡ Some n → MatchResult r (λ i. (i < length numbers) × (get_or numbers i 0 ≡ n)) (λ i. (i ≤ length numbers) × ((k : ℕ) → k < i → get_or numbers k 0 < n) × ((k : ℕ) → i ≤ k → k < length numbers → n < get_or numbers k 0)) → result_ok r ≡ position (nat_eq id) ids
searched_position ids numbers next id n (Ok k) size h has m = sym (position_by_number ids numbers next id n k size h has m.0 m.1)
searched_position ids numbers next id n (Err k) size h has m =
    let j = position_or_len (nat_eq id) ids in
    let there = number_there ids numbers id n size has in
    let within = there.0 in
    elim (cases_lt j k) [
      | inl before ↦ let less = m.1 j before in absurd (omega (arith, there.1))
      | inr behind ↦ let more = m.2 j behind (omega arith) in absurd (omega (arith, there.1))
    ]

-- An id is not among those before it.
pub new_before : (ids : List ℕ) (i id : ℕ) → StandOnce ids → slice_get ids i ≡ Some id → IsNewId id (take i ids)
new_before [] i id once at = cc
new_before (a ∷ ids) zero id once at = tt
new_before (a ∷ ids) (suc i) id once at = ((λ is. stands_behind ids i id a once.0 at (sym is)), new_before ids i id once.1 at)

-- A table that has room for more.
pub table_same : (old new : IdTable) (ids : List ℕ) → IsTableOf old ids → IsSameTable old new → IsTableOf new ids
table_same old new ids h k = record {
  size = ap length k.serials ∙ h.size;
  rising = subst (λ (z : List ℕ). IsRising (z ++ new.next ∷ [])) (sym k.serials) (subst (λ (n : ℕ). IsRising (old.serials.items ++ n ∷ [])) (sym k.next) h.rising);
  has = λ id. k.serial_of id ∙ h.has id ∙ ap (λ (z : List ℕ). number_of ids z id) (sym k.serials);
}

-- A table with one entry more, and with one less.
pub table_pushed : (old new : IdTable) (ids : List ℕ) (id : ℕ) → IsTableOf old ids → IsNewId id ids → new.serials.items ≡ old.serials.items ++ old.next ∷ [] → new.next ≡ old.next + 1 → Updates old.serial_of new.serial_of id (Some old.next) → IsTableOf new (ids ++ id ∷ [])
table_pushed old new ids id h fresh serials next updates =
    let size = h.size in
    let more = length_push old.serials.items old.next in
    let longer = length_push ids id in
    let all = ap length serials in
    record {
      size = omega arith;
      rising = subst (λ (z : List ℕ). IsRising (z ++ new.next ∷ [])) (sym serials) (subst (λ (n : ℕ). IsRising ((old.serials.items ++ old.next ∷ []) ++ n ∷ [])) (sym next) (rising_more old.serials.items old.next h.rising));
      has = λ other. elim (eqb_tells id other) [
        | inl is ↦ updates other ∙ ap (λ (b : Bool). cond b (Some old.next) (value_of old.serial_of other)) is.0
            ∙ sym (number_of_new ids old.serials.items id old.next size fresh) ∙ ap (λ (k : ℕ). number_of (ids ++ id ∷ []) (old.serials.items ++ old.next ∷ []) k) is.1
        | inr off ↦ updates other ∙ ap (λ (b : Bool). cond b (Some old.next) (value_of old.serial_of other)) off.0 ∙ h.has other ∙ sym (number_of_old ids old.serials.items id old.next other size off.1)
      ] ∙ ap (λ (z : List ℕ). number_of (ids ++ id ∷ []) z other) (sym serials);
    }

-- A table from which an entry was removed is the table of the ids without its id.
pub table_removed : (old new : IdTable) (ids : List ℕ) (i id : ℕ) → IsTableOf old ids → StandOnce ids → slice_get ids i ≡ Some id → new.serials.items ≡ remove old.serials.items i → IsRising (remove old.serials.items i ++ new.next ∷ []) → Updates old.serial_of new.serial_of id None → IsTableOf new (remove ids i)
table_removed old new ids i id h once at serials rising updates =
    let within = slice_get_within ids i id at in
    let size = h.size in
    let less = length-remove old.serials.items i (omega arith) in
    let shorter = length-remove ids i within in
    let all = ap length serials in
    record {
      size = omega arith;
      rising = subst (λ (z : List ℕ). IsRising (z ++ new.next ∷ [])) (sym serials) rising;
      has = λ other. elim (eqb_tells id other) [
        | inl is ↦ updates other ∙ ap (λ (b : Bool). cond b None (value_of old.serial_of other)) is.0
            ∙ sym (number_of_gone ids old.serials.items i id size once at) ∙ ap (λ (k : ℕ). number_of (remove ids i) (remove old.serials.items i) k) is.1
        | inr off ↦ updates other ∙ ap (λ (b : Bool). cond b None (value_of old.serial_of other)) off.0 ∙ h.has other ∙ sym (number_of_left ids old.serials.items i id other size at off.1)
      ] ∙ ap (λ (z : List ℕ). number_of (remove ids i) z other) (sym serials);
    }
