-- Parts of lists: what is taken, dropped and left, and what is found in them.
use Rattle.std.proofs.Common.{◌≡◌, ◌≢◌, ◌-◌, drop, filter, Bor, is_some, ◌==◌, ℕ, zero}
use Rattle.std.proofs.Common.{suc, ◌<◌, ◌≤◌, ◌+◌, Bool, true, false, cond, not, ◌&&◌, List}
use Rattle.std.proofs.Common.{[], ◌∷◌, map, take, length, get_or, Option, Some, None}
use Rattle.std.proofs.Common.{option_map, add-one, position, find}
use Rattle.std.proofs.Common.{slice_get, refl, sym, ◌∙◌, ap, subst, arith, inl, inr}
use Rattle.std.specs.List.{position_or_len, remove}
use Rattle.std.proofs.lemmas.Bool.{eqb-true, eq-eqb, false_from_ne_true}
use Rattle.std.proofs.lemmas.Grind.{common_steps}
use Rattle.std.proofs.lemmas.Option.{get_or_from_slice_get, slice_get_read}
use Rattle.std.proofs.lemmas.Option.{same_Some}
use Rattle.std.specs.Option.{option_copied}
use Rattle.pp_core.specs.declared.entry.LocalEntry.{LocalEntry}
use Rattle.pp_model.specs.Config.{but_last, last}
use Rattle.pp_model.specs.Lists.{In, Before}
use Rattle.pp_model.proofs.Lists.{before_in_second}
use Rattle.pp_model.proofs.Trace.{keep_all}
use Rattle.pp_model.proofs.Finding.{find_nowhere, place_none, placed, stands_in}
use Rattle.pp_log_local.proofs.Places.{from_within, get_taken, place_within, stands_from}

-- If `position` finds a position, `position_or_len` is that position.
pub place_or_len : {X : Type 0} (p : X → Bool) (xs : List X) (i : ℕ) → position p xs ≡ Some i → position_or_len p xs ≡ i
place_or_len p xs i h = grind (arith, common_steps)

-- The element that is found by a key and passes another test is the first that passes both.
found_both : {X : Type 0} (p q : X → Bool) (y x : X) (ys : List X) → q x ≡ true → (find p ys ≡ Some x → find (λ z. p z && q z) ys ≡ Some x) →
    (b : Bool) → p y ≡ b → cond b (Some y) (find p ys) ≡ Some x → cond (b && q y) (Some y) (find (λ z. p z && q z) ys) ≡ Some x
found_both {X} p q y x ys t f true e h = let k = same_Some y x h in ap (λ (c : Bool). cond c (Some y) (find (λ z. p z && q z) ys)) (ap q k ∙ t) ∙ ap (λ (z : X). Some z) k
found_both p q y x ys t f false e h = f h

-- If an element found by a key passes another test, it is found by both tests.
pub find_both : {X : Type 0} (p q : X → Bool) (xs : List X) (x : X) → find p xs ≡ Some x → q x ≡ true → find (λ z. p z && q z) xs ≡ Some x
find_both p q [] x h t = absurd (cc)
find_both p q (y ∷ ys) x h t = found_both p q y x ys t (λ k. find_both p q ys x k t) (p y) refl h

neither : {X : Type 0} (p q : X → Bool) (y : X) (ys : List X) → (find p ys ≡ None → find (λ z. p z && q z) ys ≡ None) → (b : Bool) → cond b (Some y) (find p ys) ≡ None → cond (b && q y) (Some y) (find (λ z. p z && q z) ys) ≡ None
neither p q y ys f true h = absurd (cc)
neither p q y ys f false h = f h

-- If no element is found by a key, none is found by the key and another test.
pub find_neither : {X : Type 0} (p q : X → Bool) (xs : List X) → find p xs ≡ None → find (λ z. p z && q z) xs ≡ None
find_neither p q [] h = refl
find_neither p q (y ∷ ys) h = neither p q y ys (λ k. find_neither p q ys k) (p y) h

no_other : {X : Type 0} (p q : X → Bool) (ys : List X) → ((z : X) → In z ys → p z ≡ false) → find (λ z. p z && q z) ys ≡ None
no_other p q [] n = refl
no_other {X} p q (y ∷ ys) n = ap (λ (b : Bool). cond (b && q y) (Some y) (find (λ z. p z && q z) ys)) (n y (inl refl)) ∙ no_other p q ys (λ z i. n z (inr i))

found_one : {X : Type 0} (p q : X → Bool) (y x : X) (ys : List X) → q x ≡ false → (p y ≡ true → (z : X) → In z ys → p z ≡ false) → (find p ys ≡ Some x → find (λ z. p z && q z) ys ≡ None) →
    (b : Bool) → p y ≡ b → cond b (Some y) (find p ys) ≡ Some x → cond (b && q y) (Some y) (find (λ z. p z && q z) ys) ≡ None
found_one {X} p q y x ys t d f true e h = ap (λ (c : Bool). cond c (Some y) (find (λ z. p z && q z) ys)) (ap q (same_Some y x h) ∙ t) ∙ no_other p q ys (d e)
found_one p q y x ys t d f false e h = f h

-- If the only element with a key fails another test, none is found by both tests.
pub find_one : {X : Type 0} (p q : X → Bool) (xs : List X) (x : X) → ((y z : X) → Before y z xs → p y ≡ true → p z ≡ true → ⊥) → find p xs ≡ Some x → q x ≡ false → find (λ z. p z && q z) xs ≡ None
find_one p q [] x d h t = refl
find_one p q (y ∷ ys) x d h t = found_one p q y x ys t (λ e z i. false_from_ne_true (p z) (d y z (inl (refl, i)) e)) (λ k. find_one p q ys x (λ u v b. d u v (inr b)) k t) (p y) refl h

-- options
pub mapped_some : {X Y : Type 0} (f : X → Y) (o : Option X) (y : Y) → Some y ≡ option_map f o → (x : X) × (o ≡ Some x) × (f x ≡ y)
mapped_some f None y e = absurd (cc)
mapped_some f (Some x) y e = (x, refl, same_Some (f x) y (sym e))

-- If a mapped option is none, so is the option.
pub mapped_none : {X Y : Type 0} (f : X → Y) (o : Option X) → None ≡ option_map f o → o ≡ None
mapped_none f None e = refl
mapped_none f (Some x) e = absurd (cc)

-- To map an option twice is to map it once by both functions.
pub mapped_twice : {X Y Z : Type 0} (g : Y → Z) (f : X → Y) (o : Option X) → option_map g (option_map f o) ≡ option_map (λ x. g (f x)) o
mapped_twice g f None = refl
mapped_twice g f (Some x) = refl

map_cond : {X Y : Type 0} (f : X → Y) (x : X) (r : Option X) (b : Bool) → cond b (Some (f x)) (option_map f r) ≡ option_map f (cond b (Some x) r)
map_cond f x r true = refl
map_cond f x r false = refl

-- The first element found in a mapped list is the image of the first found in the list.
pub find_map : {X Y : Type 0} (f : X → Y) (p : Y → Bool) (xs : List X) → find p (map f xs) ≡ option_map f (find (λ x. p (f x)) xs)
find_map f p [] = refl
find_map {X} {Y} f p (x ∷ xs) = ap (λ (r : Option Y). cond (p (f x)) (Some (f x)) r) (find_map f p xs) ∙ map_cond f x (find (λ y. p (f y)) xs) (p (f x))

-- A position with an element is below the length of the list.
pub slice_within : {X : Type 0} (xs : List X) (i : ℕ) (x : X) → slice_get xs i ≡ Some x → i < length xs
slice_within [] i x h = absurd (cc)
slice_within (y ∷ ys) zero x h = omega arith
slice_within (y ∷ ys) (suc i) x h = let k = slice_within ys i x h in omega (arith, k)

-- An element of the part before a position is before the element there.
pub before_here : {X : Type 0} (xs : List X) (i : ℕ) (x a : X) → slice_get xs i ≡ Some x → In a (take i xs) → Before a x xs
before_here [] i x a h j = absurd (cc)
before_here (y ∷ ys) zero x a h j = elim j [ ]
before_here (y ∷ ys) (suc i) x a h (inl e) = inl (e, stands_in ys i x h)
before_here (y ∷ ys) (suc i) x a h (inr j) = inr (before_here ys i x a h j)

-- If keys are distinct, an element before the one at a position is in the part before it.
pub here_before : {X K : Type 0} (f : X → K) (xs : List X) → ((p q : X) → Before p q xs → f p ≡ f q → ⊥) → (i : ℕ) (x a : X) → slice_get xs i ≡ Some x → Before a x xs → In a (take i xs)
here_before f [] d i x a h b = elim b [ ]
here_before f (y ∷ ys) d zero x a h (inl k) = absurd (d y x (inl (refl, k.1)) (ap f (same_Some y x h)))
here_before f (y ∷ ys) d zero x a h (inr b) = absurd (d y x (inl (refl, before_in_second a x ys b)) (ap f (same_Some y x h)))
here_before f (y ∷ ys) d (suc i) x a h (inl k) = inl k.0
here_before f (y ∷ ys) d (suc i) x a h (inr b) = inr (here_before f ys (λ p q w. d p q (inr w)) i x a h b)

-- An element of the first i elements is an element of the list.
pub in_taken : {X : Type 0} (i : ℕ) (a : X) (xs : List X) → In a (take i xs) → In a xs
in_taken zero a xs h = elim h [ ]
in_taken (suc i) a [] h = elim h [ ]
in_taken (suc i) a (y ∷ ys) (inl e) = inl e
in_taken (suc i) a (y ∷ ys) (inr h) = inr (in_taken i a ys h)

-- A copied option is there exactly if the option is.
pub some_copied : {X : Type 0} (r : Option (Bor X)) → is_some r ≡ is_some (option_copied r)
some_copied None = refl
some_copied (Some x) = refl

-- If an id has no position in a local log, no entry has it.
pub not_placed : {Op : Type 0} (l : List (LocalEntry Op)) (id : ℕ) → position (λ e. e.id == id) l ≡ None → (a : LocalEntry Op) → In a l → a.id ≡ id → ⊥
not_placed {Op} l id h a i e =
    let n = find_nowhere (λ (z : LocalEntry Op). z.id == id) l (place_none (λ (z : LocalEntry Op). z.id == id) l h) a i in
    let z : true ≡ false = sym (eq-eqb a.id id e) ∙ n in cc

-- An option that is not `None` has a value.
pub a_place : (r : Option ℕ) (b : Bool) → b ≡ is_some r → b ≡ true → (k : ℕ) × (r ≡ Some k)
a_place None b e t = let z : true ≡ false = sym t ∙ e in cc
a_place (Some k) b e t = (k, refl)

-- If the test that says whether there is a position is false, there is none.
pub no_place : (r : Option ℕ) (b : Bool) → b ≡ is_some r → b ≡ false → r ≡ None
no_place None b e t = refl
no_place (Some k) b e t = let z : true ≡ false = sym e ∙ t in cc

-- If a test has a position in a list, an element of the list passes it.
pub place_in : {X : Type 0} (p : X → Bool) (xs : List X) (i : ℕ) → position p xs ≡ Some i → (x : X) × In x xs × (p x ≡ true)
place_in p xs i h = let q = placed p xs i h in (q.0, stands_in xs i q.0 q.1, q.2)

-- An element after a position is an element of the list.
pub in_dropped : {X : Type 0} (i : ℕ) (a : X) (xs : List X) → In a (drop i xs) → In a xs
in_dropped zero a xs h = h
in_dropped (suc i) a [] h = elim h [ ]
in_dropped (suc i) a (y ∷ ys) h = inr (in_dropped i a ys h)

-- An element of the part after a position is after the element there.
pub here_behind : {X : Type 0} (xs : List X) (i : ℕ) (x b : X) → slice_get xs i ≡ Some x → In b (drop (suc i) xs) → Before x b xs
here_behind [] i x b h j = absurd (cc)
here_behind {X} (y ∷ ys) zero x b h j = inl (sym (same_Some y x h), j)
here_behind (y ∷ ys) (suc i) x b h j = inr (here_behind ys i x b h j)

-- If keys are distinct, an element after the one at a position is in the part after it.
pub behind_here : {X K : Type 0} (f : X → K) (xs : List X) → ((p q : X) → Before p q xs → f p ≡ f q → ⊥) → (i : ℕ) (x b : X) → slice_get xs i ≡ Some x → Before x b xs → In b (drop (suc i) xs)
behind_here f [] d i x b h k = elim k [ ]
behind_here f (y ∷ ys) d zero x b h (inl k) = k.1
behind_here f (y ∷ ys) d zero x b h (inr k) = before_in_second x b ys k
behind_here f (y ∷ ys) d (suc i) x b h (inl k) = absurd (d y x (inl (refl, stands_in ys i x h)) (ap f (sym k.0)))
behind_here f (y ∷ ys) d (suc i) x b h (inr k) = behind_here f ys (λ p q w. d p q (inr w)) i x b h k

-- Two elements in order in the first part of a list are in order in the list.
pub before_taken : {X : Type 0} (i : ℕ) (a b : X) (xs : List X) → Before a b (take i xs) → Before a b xs
before_taken zero a b xs h = elim h [ ]
before_taken (suc i) a b [] h = elim h [ ]
before_taken (suc i) a b (y ∷ ys) (inl k) = inl (k.0, in_taken i b ys k.1)
before_taken (suc i) a b (y ∷ ys) (inr k) = inr (before_taken i a b ys k)

-- If keys are distinct, an element before an element of the first part is before it in the first part.
pub taken_before : {X K : Type 0} (f : X → K) (xs : List X) → ((p q : X) → Before p q xs → f p ≡ f q → ⊥) → (i : ℕ) (a b : X) → In b (take i xs) → Before a b xs → Before a b (take i xs)
taken_before f [] d i a b j k = elim k [ ]
taken_before f (y ∷ ys) d zero a b j k = elim j [ ]
taken_before f (y ∷ ys) d (suc i) a b (inl e) (inl k) = absurd (d y b (inl (refl, k.1)) (ap f (sym e)))
taken_before f (y ∷ ys) d (suc i) a b (inl e) (inr k) = absurd (d y b (inl (refl, before_in_second a b ys k)) (ap f (sym e)))
taken_before f (y ∷ ys) d (suc i) a b (inr j) (inl k) = inl (k.0, j)
taken_before f (y ∷ ys) d (suc i) a b (inr j) (inr k) = inr (taken_before f ys (λ p q w. d p q (inr w)) i a b j k)

-- A pair in order in what is left of a list is in order in the list.
pub before_dropped : {X : Type 0} (i : ℕ) (a b : X) (xs : List X) → Before a b (drop i xs) → Before a b xs
before_dropped zero a b xs h = h
before_dropped (suc i) a b [] h = elim h [ ]
before_dropped (suc i) a b (y ∷ ys) h = inr (before_dropped i a b ys h)

-- If keys are distinct, a pair in order after the element at a position is so in the rest.
pub dropped_before : {X K : Type 0} (f : X → K) (xs : List X) → ((p q : X) → Before p q xs → f p ≡ f q → ⊥) → (i : ℕ) (x a b : X) → slice_get xs i ≡ Some x → Before x a xs → Before a b xs → Before a b (drop (suc i) xs)
dropped_before f [] d i x a b h j k = elim k [ ]
dropped_before f (y ∷ ys) d i x a b h (inl j) (inl k) = absurd (d y a (inl (refl, j.1)) (ap f (sym k.0)))
dropped_before f (y ∷ ys) d i x a b h (inr j) (inl k) = absurd (d y a (inl (refl, before_in_second x a ys j)) (ap f (sym k.0)))
dropped_before f (y ∷ ys) d zero x a b h j (inr k) = k
dropped_before f (y ∷ ys) d (suc i) x a b h (inl j) (inr k) = absurd (d y x (inl (refl, stands_in ys i x h)) (ap f (sym j.0)))
dropped_before f (y ∷ ys) d (suc i) x a b h (inr j) (inr k) = dropped_before f ys (λ p q w. d p q (inr w)) i x a b h j k

-- The element that is found is the first that passes the test.
pub before_found : {X K : Type 0} (f : X → K) (p : X → Bool) (xs : List X) → ((u v : X) → Before u v xs → f u ≡ f v → ⊥) → (x z : X) → find p xs ≡ Some x → Before z x xs → p z ≡ false
before_found f p [] d x z h b = elim b [ ]
before_found {X} f p (y ∷ ys) d x z h b = go (p y) refl h b (λ k w. before_found f p ys (λ u v q. d u v (inr q)) x z k w)
  where
    go : (c : Bool) → p y ≡ c → cond c (Some y) (find p ys) ≡ Some x → Before z x (y ∷ ys) → (find p ys ≡ Some x → Before z x ys → p z ≡ false) → p z ≡ false
    go true e k (inl w) more = absurd (d y x (inl (refl, w.1)) (ap f (same_Some y x k)))
    go true e k (inr w) more = absurd (d y x (inl (refl, before_in_second z x ys w)) (ap f (same_Some y x k)))
    go false e k (inl w) more = ap p w.0 ∙ e
    go false e k (inr w) more = more k w

-- a list without the element at a place
differs_in : (a b : ℕ) → a ≢ b → not (a == b) ≡ true
differs_in a b n = ap not (false_from_ne_true (a == b) (λ e. n (eqb-true a b e)))

-- If keys are distinct, to remove the element at a position is to filter its key out.
pub removed_filter : {X : Type 0} (key : X → ℕ) (id : ℕ) (xs : List X) → ((p q : X) → Before p q xs → key p ≡ key q → ⊥) → (i : ℕ) (x : X) → slice_get xs i ≡ Some x → key x ≡ id → remove xs i ≡ filter (λ z. not (key z == id)) xs
removed_filter key id [] d i x h e = absurd (cc)
removed_filter {X} key id (y ∷ ys) d zero x h e =
    let k : key y ≡ id = ap key (same_Some y x h) ∙ e in
    sym (ap (λ (b : Bool). cond (not b) (y ∷ filter (λ z. not (key z == id)) ys) (filter (λ z. not (key z == id)) ys)) (eq-eqb (key y) id k)
    ∙ keep_all (λ z. not (key z == id)) ys (λ z j. differs_in (key z) id (λ q. d y z (inl (refl, j)) (k ∙ sym q))))
removed_filter {X} key id (y ∷ ys) d (suc i) x h e =
    ap (λ (z : List X). y ∷ z) (removed_filter key id ys (λ p q w. d p q (inr w)) i x h e)
    ∙ sym (ap (λ (b : Bool). cond b (y ∷ filter (λ z. not (key z == id)) ys) (filter (λ z. not (key z == id)) ys)) (differs_in (key y) id (λ q. d y x (inl (refl, stands_in ys i x h)) (q ∙ sym e))))

-- To remove the element at the last position is to take the list without its last element.
pub removed_last : {X : Type 0} (xs : List X) (i : ℕ) → i + 1 ≡ length xs → remove xs i ≡ but_last xs
removed_last [] i e = absurd (omega arith)
removed_last (y ∷ []) zero e = refl
removed_last (y ∷ []) (suc i) e = absurd (omega arith)
removed_last (y ∷ z ∷ zs) zero e = absurd (omega arith)
removed_last {X} (y ∷ z ∷ zs) (suc i) e = ap (λ (w : List X). y ∷ w) (removed_last (z ∷ zs) i (omega arith))

-- The last element is the one at the position before the length.
pub last_at : {X : Type 0} (xs : List X) → last xs ≡ slice_get xs (length xs - 1)
last_at [] = refl
last_at (y ∷ []) = refl
last_at {X} (y ∷ z ∷ zs) =
    let e : suc (length (z ∷ zs) - 1) ≡ length (y ∷ z ∷ zs) - 1 = omega arith in
    last_at (z ∷ zs) ∙ ap (slice_get (y ∷ z ∷ zs)) e

-- A list without its last element is no longer than the list.
pub but_last_short : {X : Type 0} (xs : List X) → length (but_last xs) ≤ length xs
but_last_short [] = omega arith
but_last_short (x ∷ []) = omega arith
but_last_short (x ∷ y ∷ xs) = let k = but_last_short (y ∷ xs) in omega (arith, k)

-- A filtered list is no longer than the list.
pub filter_short : {X : Type 0} (p : X → Bool) (xs : List X) → length (filter p xs) ≤ length xs
filter_short p [] = omega arith
filter_short {X} p (x ∷ xs) = go (p x) (filter_short p xs)
  where
    go : (b : Bool) → length (filter p xs) ≤ length xs → length (cond b (x ∷ filter p xs) (filter p xs)) ≤ length (x ∷ xs)
    go true k = omega (arith, k)
    go false k = omega (arith, k)

-- The element that an index reads is the one at that position.
pub read_there : {X : Type 0} (xs : List X) (k : ℕ) (x y : X) → slice_get xs k ≡ Some y → x ≡ get_or xs k x → y ≡ x
read_there xs k x y h e = sym (get_or_from_slice_get xs k y x h) ∙ sym e

-- The element that an index reads at a position that was found is the element there.
pub read_found : {X : Type 0} (p : X → Bool) (xs : List X) (k : ℕ) (x : X) → position p xs ≡ Some k → x ≡ get_or xs k x → slice_get xs k ≡ Some x
read_found {X} p xs k x h e = let r = placed p xs k h in r.1 ∙ ap (λ (z : X). Some z) (read_there xs k x r.0 r.1 e)

-- The element that an index reads at a position that was found in a list, before or after another position.
module _ {X : Type 0} (p : X → Bool) (xs l : List X) (e : xs ≡ l) where
  -- A position that was found in a list is below its length.
  pub found_within : (k : ℕ) → position p l ≡ Some k → k < length xs
  found_within k h = subst (λ (z : List X). k < length z) (sym e) (place_within p l k h)

  -- The element read at a position that was found is the element there.
  pub read_place : (k : ℕ) (x : X) → position p l ≡ Some k → x ≡ get_or xs k x → slice_get l k ≡ Some x
  read_place k x h is = ap (λ (z : List X). slice_get z k) (sym e) ∙ slice_get_read xs (length xs) k x refl (found_within k h) is

  -- A position that was found among the first i elements is below the length of the list.
  pub taken_within : (i k : ℕ) → position p (take i l) ≡ Some k → k < length xs
  taken_within i k h = let r = placed p (take i l) k h in subst (λ (z : List X). k < length z) (sym e) (slice_within l k r.0 (get_taken l i k r.0 r.1))

  -- The element read at a position found among the first i is the one there among them.
  pub read_taken : (i k : ℕ) (x : X) → position p (take i l) ≡ Some k → x ≡ get_or xs k x → slice_get (take i l) k ≡ Some x
  read_taken i k x h is =
      let r = placed p (take i l) k h in
      r.1 ∙ ap (λ (z : X). Some z) (read_there xs k x r.0 (ap (λ (z : List X). slice_get z k) e ∙ get_taken l i k r.0 r.1) is)

  -- A position that was found from n on is below the length of the list.
  pub behind_within : (n k : ℕ) → Some k ≡ option_map (λ j. n + j) (position p (drop n l)) → k < length xs
  behind_within n k h = subst (λ (z : List X). k < length z) (sym e) (from_within p l n k h)

  -- The element read at a position found from n on is the one at its position in the rest.
  pub read_behind : (n k : ℕ) (x : X) → Some k ≡ option_map (λ j. n + j) (position p (drop n l)) → x ≡ get_or xs k x → (j : ℕ) × (position p (drop n l) ≡ Some j) × (slice_get (drop n l) j ≡ Some x)
  read_behind n k x h is =
      stands_from p l n k x h (ap (λ (z : List X). slice_get z k) (sym e) ∙ slice_get_read xs (length xs) k x refl (behind_within n k h) is)

-- To drop i + 1 elements is to drop as many as the successor of i.
pub drop_next : {X : Type 0} (i : ℕ) (l : List X) → drop (i + 1) l ≡ drop (suc i) l
drop_next {X} i l = ap (λ (n : ℕ). drop n l) (add-one i)
