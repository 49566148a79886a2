-- Proof machinery: values with the numbers of their further copies, with one more or one less.
use Rattle.std.proofs.Common.{◌≡◌, ℕ, ℤ, zero, suc, ◌<◌, ◌+◌, ◌<ℤ◌, Bool, true, false, cond, int_le}
use Rattle.std.proofs.Common.{int_eq, List, [], ◌∷◌, ◌++◌, length, Option, Some, None, refl, sym}
use Rattle.std.proofs.Common.{◌∙◌, ap, subst, append_assoc, arith}
use Rattle.std.proofs.lemmas.Int.{ints}
use Rattle.std.proofs.lemmas.Map.{lookup-none}
use Rattle.std.proofs.lemmas.Map.Entries.{none_below_head, none_past_head}
use Rattle.std.proofs.lemmas.Map.Keys.{IsDistinct-from_sorted}
use Rattle.std.specs.declared.cmp.Ordering.{Ordering}
use Rattle.std.specs.declared.cmp.Ordering.TheVariants.{Less, Equal, Greater}
use Rattle.std.specs.Ordering.{int_cmp, is_eq, match_ordering, MatchOrdering}
use Rattle.std.specs.Cmp.{eq_by_cmp_equiv, int_cmp_total, int_ranks}
use Rattle.std.specs.List.{slice_get}
use Rattle.std.specs.List.Sorted.{IsStrictlySortedBy}
use Rattle.std.specs.BTreeMap.{insert_entry, is_at}
use Rattle.std.specs.Map.{keys_of, lookup, remove_entry}
use Rattle.pp_kind_priority.specs.Values.{copies_of, least_of, with_one, without_one}
use Rattle.pp_kind_priority.specs.Copies.{copies, spread}
use Rattle.pp_kind_priority.specs.laws.Values.{put_before, put_behind, taken_here, taken_past}
use Rattle.pp_kind_priority.specs.laws.Values.{copies_here, copies_past}

-- How many further copies there are with one more.
abbrev pub one_more : Option ℕ → ℕ
one_more None = 0
one_more (Some n) = suc n

-- Order of two values.
ranked : (v x : ℤ) (o : Ordering) → int_cmp v x ≡ o
    → MatchOrdering o (v <ℤ x) (v ≡ x) (x <ℤ v)
ranked v x o e = subst (λ (p : Ordering). MatchOrdering p (v <ℤ x) (v ≡ x) (x <ℤ v)) e
    (int_ranks v x)

less : (v x : ℤ) → int_cmp v x ≡ Less → int_le v x ≡ true
less v x e = let h = ranked v x Less e in grind (arith, ints)

equal : (v x : ℤ) → int_cmp v x ≡ Equal → v ≡ x
equal v x e = ranked v x Equal e

greater : (v x : ℤ) → int_cmp v x ≡ Greater → int_le v x ≡ false
greater v x e = let h = ranked v x Greater e in grind (arith, ints)

same_test : (v x : ℤ) → v ≡ x → int_eq v x ≡ true
same_test v x e = grind (arith, ints)

no_less : (v x : ℤ) → v ≡ x → int_le v x ≡ true
no_less v x e = grind (arith, ints)

unlike : (v x : ℤ) (o : Ordering) → int_cmp v x ≡ o → is_eq o ≡ false → int_eq v x ≡ false
unlike v x Less e f = let h = ranked v x Less e in grind (arith, ints)
unlike v x Equal e f = cc
unlike v x Greater e f = let h = ranked v x Greater e in grind (arith, ints)

alike : (v x : ℤ) (o : Ordering) → int_cmp v x ≡ o → is_eq o ≡ true → v ≡ x
alike v x Less e f = cc
alike v x Equal e f = equal v x e
alike v x Greater e f = cc

-- A value goes past copies of a lesser one, and is looked for past copies of another.
put_past : (v x : ℤ) (n : ℕ) (values : List ℤ) → int_le v x ≡ false
    → with_one v (copies x n values) ≡ copies x n (with_one v values)
put_past v x zero values h = refl
put_past v x (suc n) values h = put_behind v x (copies x n values) h
    ∙ ap (λ (l : List ℤ). x ∷ l) (put_past v x n values h)

sought_past : (v x : ℤ) (n : ℕ) (values : List ℤ) → int_eq v x ≡ false
    → without_one v (copies x n values) ≡ copies x n (without_one v values)
sought_past v x zero values h = refl
sought_past v x (suc n) values h = taken_past v x (copies x n values) h
    ∙ ap (λ (l : List ℤ). x ∷ l) (sought_past v x n values h)

-- The first entry has the least value.
pub least_spread : (es : List (ℤ × ℕ)) (x : ℤ) (n : ℕ) → slice_get es 0 ≡ Some (x, n)
    → least_of (spread es) ≡ Some x
least_spread [] x n h = cc
least_spread (e ∷ es) x n h = let f : e ≡ (x, n) = cc in ap (λ (p : ℤ × ℕ). Some p.0) f

-- There are fewer further copies of a value than values.
copies_length : (x : ℤ) (n : ℕ) (values : List ℤ)
    → length (copies x n values) ≡ n + length values
copies_length x zero values = omega arith
copies_length x (suc n) values = let h = copies_length x n values in omega arith

room_by : (e : ℤ × ℕ) (es : List (ℤ × ℕ)) (rest : Option ℕ) (t : Bool) (n : ℕ)
    → cond t (Some e.1) rest ≡ Some n → (rest ≡ Some n → n < length (spread es))
    → n < length (spread (e ∷ es))
room_by e es rest true n h k = let f : e.1 ≡ n = cc in
    let l = copies_length e.0 e.1 (spread es) in omega arith
room_by e es rest false n h k = let g = k h in
    let l = copies_length e.0 e.1 (spread es) in omega arith

-- A value has fewer further copies than there are values.
pub room : (v : ℤ) (es : List (ℤ × ℕ)) (n : ℕ) → lookup (is_at (int_cmp v)) es ≡ Some n
    → n < length (spread es)
room v [] n h = cc
room v (e ∷ es) n h = room_by e es (lookup (is_at (int_cmp v)) es) (is_at (int_cmp v) e.0) n h
    (room v es n)

-- One value more.
abbrev Added : ℤ → List (ℤ × ℕ) → Option ℕ → Type 0
Added v es f = lookup (is_at (int_cmp v)) es ≡ f
    → spread (insert_entry int_cmp es v (one_more f)) ≡ with_one v (spread es)

added_by : (v : ℤ) (e : ℤ × ℕ) (es : List (ℤ × ℕ)) (f : Option ℕ) (o : Ordering)
    → int_cmp v e.0 ≡ o → IsStrictlySortedBy int_cmp (keys_of (e ∷ es))
    → lookup (is_at (int_cmp v)) (e ∷ es) ≡ f
    → cond (is_eq o) (Some e.1) (lookup (is_at (int_cmp v)) es) ≡ f → Added v es f
    → spread (match_ordering o ((v, one_more f) ∷ e ∷ es) ((e.0, one_more f) ∷ es)
    (e ∷ insert_entry int_cmp es v (one_more f)))
    ≡ with_one v (spread (e ∷ es))
added_by v e es f Less i s g h k =
    let none : f ≡ None = sym g ∙ lookup-none (is_at (int_cmp v)) (e ∷ es)
    (none_below_head int_cmp_total v e es s i) in
    ap (λ (p : Option ℕ). spread ((v, one_more p) ∷ e ∷ es)) none
    ∙ sym (put_before v e.0 (copies e.0 e.1 (spread es)) (less v e.0 i))
added_by v e es f Equal i s g h k =
    let same = equal v e.0 i in
    ap (λ (p : Option ℕ). spread ((e.0, one_more p) ∷ es)) (sym h)
    ∙ ap (λ (x : ℤ). x ∷ spread (e ∷ es)) (sym same)
    ∙ sym (put_before v e.0 (copies e.0 e.1 (spread es)) (no_less v e.0 same))
added_by v e es f Greater i s g h k =
    let past = greater v e.0 i in
    ap (λ (l : List ℤ). e.0 ∷ copies e.0 e.1 l) (k h)
    ∙ ap (λ (l : List ℤ). e.0 ∷ l) (sym (put_past v e.0 e.1 (spread es) past))
    ∙ sym (put_behind v e.0 (copies e.0 e.1 (spread es)) past)

added : (v : ℤ) (es : List (ℤ × ℕ)) (f : Option ℕ) → IsStrictlySortedBy int_cmp (keys_of es)
    → Added v es f
unfolding IsStrictlySortedBy
added v [] f s h = ap (λ (p : Option ℕ). v ∷ copies v (one_more p) []) (sym h)
added v (e ∷ es) f s h = added_by v e es f (int_cmp v e.0) refl s h h (added v es f s.1)

-- One value less, of which there is none, one, or more than one.
gone_by : (v : ℤ) (e : ℤ × ℕ) (es : List (ℤ × ℕ)) (o : Ordering) (t : Bool) → int_cmp v e.0 ≡ o
    → is_eq o ≡ t → cond t (Some e.1) (lookup (is_at (int_cmp v)) es) ≡ None
    → (lookup (is_at (int_cmp v)) es ≡ None → without_one v (spread es) ≡ spread es)
    → without_one v (spread (e ∷ es)) ≡ spread (e ∷ es)
gone_by v e es o true i j h k = cc
gone_by v e es o false i j h k =
    let other = unlike v e.0 o i j in
    taken_past v e.0 (copies e.0 e.1 (spread es)) other
    ∙ ap (λ (l : List ℤ). e.0 ∷ l)
    (sought_past v e.0 e.1 (spread es) other ∙ ap (copies e.0 e.1) (k h))

gone : (v : ℤ) (es : List (ℤ × ℕ)) → lookup (is_at (int_cmp v)) es ≡ None
    → without_one v (spread es) ≡ spread es
gone v [] h = refl
gone v (e ∷ es) h = gone_by v e es (int_cmp v e.0) (is_at (int_cmp v) e.0) refl refl h (gone v es)

last_by : (v : ℤ) (e : ℤ × ℕ) (es : List (ℤ × ℕ)) (o : Ordering) (t : Bool) → int_cmp v e.0 ≡ o
    → is_eq o ≡ t → cond t (Some e.1) (lookup (is_at (int_cmp v)) es) ≡ Some 0
    → (lookup (is_at (int_cmp v)) es ≡ Some 0
    → spread (remove_entry (is_at (int_cmp v)) es) ≡ without_one v (spread es))
    → spread (cond t es (e ∷ remove_entry (is_at (int_cmp v)) es))
    ≡ without_one v (spread (e ∷ es))
last_by v e es o true i j h k =
    let none : e.1 ≡ 0 = cc in
    ap (λ (n : ℕ). copies e.0 n (spread es)) (sym none)
    ∙ sym (taken_here v e.0 (copies e.0 e.1 (spread es)) (same_test v e.0 (alike v e.0 o i j)))
last_by v e es o false i j h k =
    let other = unlike v e.0 o i j in
    ap (λ (l : List ℤ). e.0 ∷ copies e.0 e.1 l) (k h)
    ∙ ap (λ (l : List ℤ). e.0 ∷ l) (sym (sought_past v e.0 e.1 (spread es) other))
    ∙ sym (taken_past v e.0 (copies e.0 e.1 (spread es)) other)

last_removed : (v : ℤ) (es : List (ℤ × ℕ)) → lookup (is_at (int_cmp v)) es ≡ Some 0
    → spread (remove_entry (is_at (int_cmp v)) es) ≡ without_one v (spread es)
last_removed v [] h = refl
last_removed v (e ∷ es) h = last_by v e es (int_cmp v e.0) (is_at (int_cmp v) e.0) refl refl h
    (last_removed v es)

abbrev Fewer : ℤ → List (ℤ × ℕ) → ℕ → Type 0
Fewer v es n = lookup (is_at (int_cmp v)) es ≡ Some (suc n)
    → spread (insert_entry int_cmp es v n) ≡ without_one v (spread es)

fewer_by : (v : ℤ) (e : ℤ × ℕ) (es : List (ℤ × ℕ)) (n : ℕ) (o : Ordering)
    → int_cmp v e.0 ≡ o → IsStrictlySortedBy int_cmp (keys_of (e ∷ es))
    → lookup (is_at (int_cmp v)) (e ∷ es) ≡ Some (suc n)
    → cond (is_eq o) (Some e.1) (lookup (is_at (int_cmp v)) es) ≡ Some (suc n) → Fewer v es n
    → spread (match_ordering o ((v, n) ∷ e ∷ es) ((e.0, n) ∷ es)
    (e ∷ insert_entry int_cmp es v n))
    ≡ without_one v (spread (e ∷ es))
fewer_by v e es n Less i s g h k =
    let none = lookup-none (is_at (int_cmp v)) (e ∷ es) (none_below_head int_cmp_total v e es s i)
    in
    absurd (let f : None ≡ Some (suc n) = sym none ∙ g in cc)
fewer_by v e es n Equal i s g h k =
    let more : suc n ≡ e.1 = cc in
    ap (λ (m : ℕ). copies e.0 m (spread es)) more
    ∙ sym (taken_here v e.0 (copies e.0 e.1 (spread es)) (same_test v e.0 (equal v e.0 i)))
fewer_by v e es n Greater i s g h k =
    let other = unlike v e.0 Greater i refl in
    ap (λ (l : List ℤ). e.0 ∷ copies e.0 e.1 l) (k h)
    ∙ ap (λ (l : List ℤ). e.0 ∷ l) (sym (sought_past v e.0 e.1 (spread es) other))
    ∙ sym (taken_past v e.0 (copies e.0 e.1 (spread es)) other)

fewer : (v : ℤ) (es : List (ℤ × ℕ)) (n : ℕ) → IsStrictlySortedBy int_cmp (keys_of es)
    → Fewer v es n
unfolding IsStrictlySortedBy
fewer v [] n s h = cc
fewer v (e ∷ es) n s h = fewer_by v e es n (int_cmp v e.0) refl s h h (fewer v es n s.1)

-- The same for the list as it is seen, with a value as it is stored.
pub added_seen : (es fs : List (ℤ × ℕ)) (seen : List ℤ) (v j : ℤ) (f : Option ℕ) (n : ℕ)
    → spread es ≡ seen → j ≡ v → IsStrictlySortedBy int_cmp (keys_of es)
    → lookup (is_at (int_cmp j)) es ≡ f → n ≡ one_more f → fs ≡ insert_entry int_cmp es j n
    → spread fs ≡ with_one v seen
added_seen es fs seen v j f n e i s h m g =
    ap spread (g ∙ ap (insert_entry int_cmp es j) m) ∙ added j es f s h
    ∙ ap (λ (x : ℤ). with_one x (spread es)) i ∙ ap (with_one v) e

-- To take out a value that has no entry changes nothing.
pub gone_seen : (es : List (ℤ × ℕ)) (seen : List ℤ) (v j : ℤ) → spread es ≡ seen → j ≡ v
    → lookup (is_at (int_cmp j)) es ≡ None → seen ≡ without_one v seen
gone_seen es seen v j e i h =
    sym e ∙ sym (gone j es h) ∙ ap (λ (x : ℤ). without_one x (spread es)) i
    ∙ ap (without_one v) e

-- Without the entry of a value with no further copy, there is one less of this value.
pub last_seen : (es fs : List (ℤ × ℕ)) (seen : List ℤ) (v j : ℤ) → spread es ≡ seen → j ≡ v
    → lookup (is_at (int_cmp j)) es ≡ Some 0 → fs ≡ remove_entry (is_at (int_cmp j)) es
    → spread fs ≡ without_one v seen
last_seen es fs seen v j e i h g =
    ap spread g ∙ last_removed j es h ∙ ap (λ (x : ℤ). without_one x (spread es)) i
    ∙ ap (without_one v) e

-- If an entry has one further copy less, there is one less of its value.
pub fewer_seen : (es fs : List (ℤ × ℕ)) (seen : List ℤ) (v j : ℤ) (n : ℕ)
    → spread es ≡ seen → j ≡ v → IsStrictlySortedBy int_cmp (keys_of es)
    → lookup (is_at (int_cmp j)) es ≡ Some (suc n) → fs ≡ insert_entry int_cmp es j n
    → spread fs ≡ without_one v seen
fewer_seen es fs seen v j n e i s h g =
    ap spread g ∙ fewer j es n s h ∙ ap (λ (x : ℤ). without_one x (spread es)) i
    ∙ ap (without_one v) e

-- How many of the values are one of them: its further copies, and the first.
counted_past : (v x : ℤ) (n : ℕ) (values : List ℤ) → int_eq v x ≡ false
    → copies_of v (copies x n values) ≡ copies_of v values
counted_past v x zero values h = refl
counted_past v x (suc n) values h = copies_past v x (copies x n values) h
    ∙ counted_past v x n values h

counted_here : (v x : ℤ) (n : ℕ) (values : List ℤ) → int_eq v x ≡ true
    → copies_of v (copies x n values) ≡ n + copies_of v values
counted_here v x zero values h = omega arith
counted_here v x (suc n) values h =
    let here = copies_here v x (copies x n values) h in
    let k = counted_here v x n values h in omega arith

-- The value of the first entry is in no later one.
none_later : (v : ℤ) (e : ℤ × ℕ) (es : List (ℤ × ℕ)) → int_cmp v e.0 ≡ Equal
    → IsStrictlySortedBy int_cmp (keys_of (e ∷ es)) → lookup (is_at (int_cmp v)) es ≡ None
none_later v e es i s = lookup-none (is_at (int_cmp v)) es
    (none_past_head (eq_by_cmp_equiv int_cmp_total) v e es
    (IsDistinct-from_sorted int_cmp (keys_of (e ∷ es)) s) (ap is_eq i))

counted_by : (v : ℤ) (e : ℤ × ℕ) (es : List (ℤ × ℕ)) (o : Ordering) → int_cmp v e.0 ≡ o
    → IsStrictlySortedBy int_cmp (keys_of (e ∷ es))
    → copies_of v (spread es) ≡ one_more (lookup (is_at (int_cmp v)) es)
    → copies_of v (spread (e ∷ es))
    ≡ one_more (cond (is_eq o) (Some e.1) (lookup (is_at (int_cmp v)) es))
counted_by v e es Less i s k =
    let other = unlike v e.0 Less i refl in
    copies_past v e.0 (copies e.0 e.1 (spread es)) other
    ∙ counted_past v e.0 e.1 (spread es) other ∙ k
counted_by v e es Equal i s k =
    let same = same_test v e.0 (equal v e.0 i) in
    let here = copies_here v e.0 (copies e.0 e.1 (spread es)) same in
    let further = counted_here v e.0 e.1 (spread es) same in
    let none = k ∙ ap one_more (none_later v e es i s) in
    omega arith
counted_by v e es Greater i s k =
    let other = unlike v e.0 Greater i refl in
    copies_past v e.0 (copies e.0 e.1 (spread es)) other
    ∙ counted_past v e.0 e.1 (spread es) other ∙ k

counted : (v : ℤ) (es : List (ℤ × ℕ)) → IsStrictlySortedBy int_cmp (keys_of es)
    → copies_of v (spread es) ≡ one_more (lookup (is_at (int_cmp v)) es)
unfolding IsStrictlySortedBy
counted v [] s = refl
counted v (e ∷ es) s = counted_by v e es (int_cmp v e.0) refl s (counted v es s.1)

-- A value is there as often as its entry says: its further copies, and the first.
pub counted_seen : (es : List (ℤ × ℕ)) (seen : List ℤ) (v j : ℤ) (f : Option ℕ)
    → spread es ≡ seen → j ≡ v → IsStrictlySortedBy int_cmp (keys_of es)
    → lookup (is_at (int_cmp j)) es ≡ f → copies_of v seen ≡ one_more f
counted_seen es seen v j f e i s h =
    ap (copies_of v) (sym e) ∙ ap (λ (x : ℤ). copies_of x (spread es)) (sym i) ∙ counted j es s
    ∙ ap one_more h

-- Copies that are added one after another, after others.
one_copy_more : (x : ℤ) (n : ℕ) → copies x n [] ++ x ∷ [] ≡ copies x (suc n) []
one_copy_more x zero = refl
one_copy_more x (suc n) = ap (λ (l : List ℤ). x ∷ l) (one_copy_more x n)

-- One more copy added at the end makes one more copy of the value.
pub copy_pushed : (x : ℤ) (n : ℕ) (front old new : List ℤ) → old ≡ front ++ copies x n []
    → new ≡ old ++ x ∷ [] → new ≡ front ++ copies x (n + 1) []
copy_pushed x n front old new e h =
    let next : suc n ≡ n + 1 = omega arith in
    h ∙ ap (λ (l : List ℤ). l ++ x ∷ []) e ∙ append_assoc front (copies x n []) (x ∷ [])
    ∙ ap (λ (l : List ℤ). front ++ l) (one_copy_more x n ∙ ap (λ (m : ℕ). copies x m []) next)

copies_before : (x : ℤ) (n : ℕ) (values : List ℤ) → copies x n [] ++ values ≡ copies x n values
copies_before x zero values = refl
copies_before x (suc n) values = ap (λ (l : List ℤ). x ∷ l) (copies_before x n values)

entry_there : (x : ℤ) (n : ℕ) (front : List ℤ) (es : List (ℤ × ℕ))
    → ((front ++ x ∷ []) ++ copies x n []) ++ spread es ≡ front ++ spread ((x, n) ∷ es)
entry_there x n front es =
    append_assoc (front ++ x ∷ []) (copies x n []) (spread es)
    ∙ append_assoc front (x ∷ []) (copies x n [] ++ spread es)
    ∙ ap (λ (l : List ℤ). front ++ x ∷ l) (copies_before x n (spread es))

-- Once the first entry and its copies are added, the other entries are left to add.
pub entry_pushed : (x j : ℤ) (n : ℕ) (front one new whole : List ℤ) (es fs : List (ℤ × ℕ))
    → j ≡ x → one ≡ front ++ j ∷ [] → new ≡ one ++ copies j n [] → es ≡ (x, n) ∷ fs
    → front ++ spread es ≡ whole → new ++ spread fs ≡ whole
entry_pushed x j n front one new whole es fs i h g s e =
    ap (λ (l : List ℤ). l ++ spread fs) (g ∙ ap (λ (l : List ℤ). l ++ copies j n []) h)
    ∙ ap (λ (q : ℤ). ((front ++ q ∷ []) ++ copies q n []) ++ spread fs) i
    ∙ entry_there x n front fs ∙ ap (λ (k : List (ℤ × ℕ)). front ++ spread k) (sym s) ∙ e
