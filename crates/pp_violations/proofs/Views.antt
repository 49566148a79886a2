-- Lists that are built from entries and operations one by one.
use Rattle.std.specs.Prelude.{◌≡◌, ◌==◌, ◌<◌, ◌+◌, ℕ, Bool, true, false, cond, ◌||◌, List, [], ◌∷◌, ◌++◌, filter, length, take}
use Rattle.std.specs.List.{list_any}
use Rattle.std.proofs.Common.{refl, sym, ap, subst, ◌∙◌, append_assoc, get_or}
use Rattle.std.proofs.lemmas.Bool.{eqb-true}
use Rattle.std.proofs.lemmas.List.{append-nil}
use Rattle.std.proofs.lemmas.List.Elements.{filter-append}
use Rattle.std.proofs.lemmas.Option.{get_or_from_slice_get, slice_get-get_or}
use Rattle.std.proofs.lemmas.List.Folds.{list_any-append}
use Rattle.pp_core.specs.declared.entry.Item.{Item}
use Rattle.pp_model.specs.Config.{CommittedTx}
use Rattle.pp_model.specs.Serial.{has_id}
use Rattle.pp_model.specs.Sound.{serial_items}
use Rattle.pp_laws_summary.specs.LocalLogs.{serial_at}
use Rattle.pp_laws_summary.proofs.BackAll.{eqb_turned}
use Rattle.pp_summary.specs.Shown.{items_at}
use Rattle.pp_summary.proofs.Committed.{serial_more}
use Rattle.pp_summary.proofs.Items.{take_next}
use Rattle.pp_summary.proofs.Passing.{has_id_append}

-- Filtering the first i + 1 elements is filtering the first i, with the next one at the end if it passes.
pub filter_next : {A : Type 0} (test : A → Bool) (l : List A) (i : ℕ) (e : A) → i < length l → e ≡ get_or l i e → filter test (take (i + 1) l) ≡ filter test (take i l) ++ cond (test e) (e ∷ []) []
filter_next {A} test l i e lt is = ap (λ (w : List A). filter test w) (take_next l i e lt is) ∙ filter-append test (take i l) (e ∷ [])

-- A list that is filtered up to position i, with the next element at the end, is filtered up to i + 1 if that element passes.
pub filter_yes : {A : Type 0} (test : A → Bool) (l old new : List A) (i : ℕ) (e : A) → i < length l → e ≡ get_or l i e → test e ≡ true → (front : List A) → old ≡ front ++ filter test (take i l) → new ≡ old ++ e ∷ [] → new ≡ front ++ filter test (take (i + 1) l)
filter_yes {A} test l old new i e lt is passed front so more =
    more ∙ ap (λ (w : List A). w ++ e ∷ []) so ∙ append_assoc front (filter test (take i l)) (e ∷ [])
    ∙ ap (λ (b : Bool). front ++ (filter test (take i l) ++ cond b (e ∷ []) [])) (sym passed)
    ∙ ap (λ (w : List A). front ++ w) (sym (filter_next test l i e lt is))

-- A list that is filtered up to position i is filtered up to i + 1 if the next element does not pass.
pub filter_no : {A : Type 0} (test : A → Bool) (l old : List A) (i : ℕ) (e : A) → i < length l → e ≡ get_or l i e → test e ≡ false → (front : List A) → old ≡ front ++ filter test (take i l) → old ≡ front ++ filter test (take (i + 1) l)
filter_no {A} test l old i e lt is failed front so =
    so ∙ ap (λ (w : List A). front ++ w) (sym (append-nil (filter test (take i l))))
    ∙ ap (λ (b : Bool). front ++ (filter test (take i l) ++ cond b (e ∷ []) [])) (sym failed)
    ∙ ap (λ (w : List A). front ++ w) (sym (filter_next test l i e lt is))

-- The serial items at a place after one more committed transaction.
pub serial_next : {Op : Type 0} (place : Op → ℕ) (q : ℕ) (D : List (CommittedTx Op)) (i : ℕ) (d : CommittedTx Op) → i < length D → d ≡ get_or D i d →
    serial_at place q (take (i + 1) D) ≡ serial_at place q (take i D) ++ filter (λ p. place p.op == q) d.entries
serial_next {Op} place q D i d lt is =
    ap (λ (w : List (CommittedTx Op)). serial_at place q w) (take_next D i d lt is)
    ∙ ap (λ (w : List (Item Op)). filter (λ p. place p.op == q) w) (serial_more (take i D) d)
    ∙ filter-append (λ (p : Item Op). place p.op == q) (serial_items (take i D)) d.entries

-- Lists of ids.
or_last : (a b : Bool) → (a || (b || false)) ≡ (a || b)
or_last true b = refl
or_last false true = refl
or_last false false = refl

-- An id is among the first i + 1 ids if it is among the first i or the next one.
pub has_next : (j : ℕ) (l : List ℕ) (i e : ℕ) → i < length l → e ≡ get_or l i e → has_id j (take (i + 1) l) ≡ (has_id j (take i l) || (e == j))
has_next j l i e lt is = ap (λ (w : List ℕ). has_id j w) (take_next l i e lt is) ∙ has_id_append j (take i l) (e ∷ []) ∙ or_last (has_id j (take i l)) (e == j)

-- An id is in a list with one more id if it is in the list or is that id.
pub any_added : (j id : ℕ) (l : List ℕ) → list_any (λ i. j == i) (l ++ id ∷ []) ≡ (list_any (λ i. j == i) l || (id == j))
any_added j id l = list_any-append (λ (i : ℕ). j == i) l (id ∷ []) ∙ or_last (list_any (λ (i : ℕ). j == i) l) (j == id) ∙ ap (λ (b : Bool). list_any (λ i. j == i) l || b) (eqb_turned j id)

-- Adding an id that is in the list does not change which ids are in it.
pub any_there : (j id : ℕ) (l : List ℕ) → list_any (λ i. id == i) l ≡ true → list_any (λ i. j == i) l ≡ (list_any (λ i. j == i) l || (id == j))
any_there j id l h = by (id == j) refl
  where
    or_false : (a : Bool) → a ≡ (a || false)
    or_false true = refl
    or_false false = refl

    or_itself : (a : Bool) → a ≡ true → a ≡ (a || true)
    or_itself true e = refl
    or_itself false e = absurd (cc)

    by : (b : Bool) → (id == j) ≡ b → list_any (λ i. j == i) l ≡ (list_any (λ i. j == i) l || b)
    by true e = or_itself (list_any (λ (i : ℕ). j == i) l) (subst (λ (n : ℕ). list_any (λ i. n == i) l ≡ true) (eqb-true id j e) h)
    by false e = or_false (list_any (λ (i : ℕ). j == i) l)

-- The serial items at a place after one more committed transaction, which was read from a slice.
pub serial_read : {Op : Type 0} (place : Op → ℕ) (q : ℕ) (D slice : List (CommittedTx Op)) (i : ℕ) (d : CommittedTx Op) (entries : List (Item Op)) → slice ≡ D → i < length slice → d ≡ get_or slice i d → entries ≡ d.entries →
    (old new : List (Item Op)) → old ≡ serial_at place q (take i D) → new ≡ old ++ items_at place q entries → new ≡ serial_at place q (take (i + 1) D)
serial_read {Op} place q D slice i d entries whole lt is same old new so more =
    subst (λ (w : List (CommittedTx Op)). old ≡ serial_at place q (take i w) → new ≡ serial_at place q (take (i + 1) w)) whole
    (λ s. more ∙ ap (λ (w : List (Item Op)). w ++ items_at place q entries) s ∙ ap (λ (w : List (Item Op)). serial_at place q (take i slice) ++ items_at place q w) same ∙ sym (serial_next place q slice i d lt is)) so

-- Two tests that agree on each element of a list filter it to the same list.
pub filter_alike : {A : Type 0} (p q : A → Bool) (l : List A) → ((a : A) → p a ≡ q a) → filter p l ≡ filter q l
filter_alike p q [] h = refl
filter_alike {A} p q (a ∷ l) h = ap (λ (b : Bool). cond b (a ∷ filter p l) (filter p l)) (h a) ∙ ap (λ (w : List A). cond (q a) (a ∷ w) w) (filter_alike p q l h)

-- An id is among the first i + 1 ids if it is among the first i or the one that is read next.
pub has_read : (j : ℕ) (l : List ℕ) (i : ℕ) → i < length l → (b : Bool) → b ≡ has_id j (take i l) → (b || (get_or l i 0 == j)) ≡ has_id j (take (i + 1) l)
has_read j l i lt b so =
    ap (λ (z : Bool). z || (get_or l i 0 == j)) so
    ∙ sym (has_next j l i (get_or l i 0) lt (sym (get_or_from_slice_get l i (get_or l i 0) (get_or l i 0) (slice_get-get_or l i 0 lt))))
