-- Proof machinery: the operations that are asked with an operation, and behind which snapshot.
use Rattle.std.proofs.Common.{◌≡◌, ◌≤◌, ◌<◌, ◌==◌, ◌&&◌, ◌||◌, ◌+◌, ℕ, Bool, true, false, cond, nat_eq, not, zero, IfOk, IsTrue, Result, Ok, Err, List, [], ◌∷◌, ◌++◌, drop, get_or, length, filter, suc, take}
use Rattle.std.proofs.Common.{refl, sym, ap, subst, ◌∙◌, inl, inr, arith}
use Rattle.std.specs.List.{list_any}
use Rattle.std.proofs.lemmas.Bool.{eqb-true}
use Rattle.std.proofs.lemmas.List.{drop-append-le, length-map, length-take-le}
use Rattle.std.proofs.lemmas.List.Folds.{list_any-append}
use Rattle.pp_core.specs.declared.entry.Item.{Item}
use Rattle.pp_model.specs.Object.{ops}
use Rattle.pp_model.proofs.Lists.{from_filter, in_cases}
use Rattle.pp_kind.specs.Object.{Object}
use Rattle.pp_laws_summary.specs.Places.{ops_at}
use Rattle.pp_laws_summary.proofs.Parts.{not_eq}
use Rattle.pp_summary.specs.Held.{IsOpAsked}
use Rattle.pp_summary.specs.declared.parts.OpenTx.{OpenTx}
use Rattle.pp_snapshots.specs.declared.past.Made.{Made}
use Rattle.pp_snapshots.specs.declared.past.Past.{Past}
use Rattle.pp_snapshots.specs.Many.{AreAsked, AreThere, ops_made}
use Rattle.pp_snapshots.specs.Ops.{snapshot_at}
use Rattle.pp_snapshots.specs.Past.{IsPast, made_at}
use Rattle.pp_snapshots.specs.Shown.{seen_in}
use Rattle.pp_snapshots.proofs.Manies.{cut_at, drop_take_more, ops_there}

-- A filtered list is at most as long as the list.
pub filter_short : {X : Type 0} (test : X → Bool) (l : List X) → length (filter test l) ≤ length l
filter_short test [] = omega arith
filter_short {X} test (x ∷ l) = by (test x) (filter_short test l)
  where
    by : (b : Bool) → length (filter test l) ≤ length l → length (cond b (x ∷ filter test l) (filter test l)) ≤ suc (length l)
    by true k = omega arith
    by false k = omega arith

-- The operations of a list at a place are all at that place.
pub are_there : {Op : Type 0} (place : Op → ℕ) (p : ℕ) (l : List Op) → AreThere place p (ops_at place p l)
are_there place p l a i = eqb-true (place a) p (from_filter (λ b. place b == p) a l i).1

-- If the operations of two lists are all at a place, those of both together are.
pub joined_there : {Op : Type 0} (place : Op → ℕ) (p : ℕ) (l k : List Op) → AreThere place p l → AreThere place p k → AreThere place p (l ++ k)
joined_there place p l k s t a i = elim (in_cases a l k i) [ inl j ↦ s a j | inr j ↦ t a j ]

-- The list of one operation at a place has all its operations there.
pub one_there : {Op : Type 0} (place : Op → ℕ) (p : ℕ) (op : Op) → place op ≡ p → AreThere place p (op ∷ [])
one_there place p op e a (inl i) = ap place i ∙ e
one_there place p op e a (inr i) = absurd i

-- A test of operations, on what is kept of them.
pub any_made : {Op Undo : Type 0} (t : Op → Bool) (l : List (Made Op Undo)) → list_any t (ops_made l) ≡ list_any (λ m. t m.op) l
any_made t [] = refl
any_made t (m ∷ l) = ap (λ (b : Bool). t m.op || b) (any_made t l)

-- A test that one element passes, which comes after the first n.
pub any_at : {A : Type 0} (t : A → Bool) (l : List A) (n k : ℕ) (a : A) → n ≤ k → k < length l → a ≡ get_or l k a → t a ≡ true → list_any t (drop n l) ≡ true
any_at {A} t l n k a le lt is e =
    ap (λ (w : List A). list_any t (drop n w)) (cut_at l k a lt is)
    ∙ ap (list_any t) (drop-append-le n (take k l) (a ∷ drop (k + 1) l) (let s = length-take-le k l (omega (arith, lt)) in omega (arith, s, le)))
    ∙ list_any-append t (drop n (take k l)) (a ∷ drop (k + 1) l)
    ∙ ap (λ (b : Bool). list_any t (drop n (take k l)) || (b || list_any t (drop (k + 1) l))) e
    ∙ or_true (list_any t (drop n (take k l)))
  where
    or_true : (b : Bool) → (b || true) ≡ true
    or_true true = refl
    or_true false = refl

-- If neither an element nor those before it, but for the first n, pass a test, none passes up to it.
pub none_more : {A : Type 0} (t : A → Bool) (l : List A) (n k : ℕ) (a : A) → n ≤ k → k < length l → a ≡ get_or l k a → list_any t (drop n (take k l)) ≡ false → t a ≡ false
    → list_any t (drop n (take (k + 1) l)) ≡ false
none_more {A} t l n k a le lt is none e =
    ap (list_any t) (drop_take_more l n k a le lt is)
    ∙ list_any-append t (drop n (take k l)) (a ∷ [])
    ∙ ap (λ (b : Bool). b || (t a || false)) none
    ∙ ap (λ (b : Bool). b || false) e

module _ {Shape State Op Undo : Type 0} (o : Object Shape State Op Undo) (place : Op → ℕ) where
  -- If the operations of two lists fit and are in range, those of both together are so.
  pub joined_asked : (v : Past State Op Undo) (l k : List Op) → AreAsked o v l → AreAsked o v k → AreAsked o v (l ++ k)
  joined_asked v l k s t a i = elim (in_cases a l k i) [ inl j ↦ s a j | inr j ↦ t a j ]

  -- If the operations of a list fit and are in range, those at a place are so.
  pub part_asked : (v : Past State Op Undo) (p : ℕ) (l : List Op) → AreAsked o v l → AreAsked o v (ops_at place p l)
  part_asked v p l s a i = s a (from_filter (λ b. place b == p) a l i).0

  -- If an operation fits and is in range, all operations of the list of it are so.
  pub one_asked : (v : Past State Op Undo) (op : Op) → IsOpAsked o (o.shape v.state) op → AreAsked o v (op ∷ [])
  one_asked v op h a (inl i) = subst (λ (b : Op). IsTrue (o.fits (o.shape v.state) b) × IsTrue (o.ranged b)) (sym i) h
  one_asked v op h a (inr i) = absurd i

  -- how many operations there are at a place
  pub count_is : (shape : Shape) (v : Past State Op Undo) (h : ℕ → List Op) → IsPast o place shape v h → (p : ℕ) → length (made_at p v.places.items) ≡ length (h p)
  count_is shape v h past p =
      sym (length-map (made_at p v.places.items) (λ (m : Made Op Undo). m.op))
      ∙ ap (λ (l : List Op). length l) (ops_there o place shape v h past p)

-- What is true of a result is true in other words.
pub ok_then : {A E : Type 0} (r : Result A E) (P Q : A → Type 0) → ((a : A) → P a → Q a) → IfOk r P → IfOk r Q
ok_then (Ok a) P Q f h = f a h
ok_then (Err e) P Q f h = tt

module _ {Op : Type 0} (place : Op → ℕ) where
  -- No own operation is at a place exactly if those there are none.
  pub none_own : (q : ℕ) (l : List (Item Op)) → not (list_any (λ e. place e.op == q) l) ≡ nat_eq (length (ops_at place q (ops l))) zero
  none_own q [] = refl
  none_own q (p ∷ l) = by (place p.op == q) (none_own q l)
    where
      by : (b : Bool) → not (list_any (λ e. place e.op == q) l) ≡ nat_eq (length (ops_at place q (ops l))) zero
          → not (b || list_any (λ e. place e.op == q) l) ≡ nat_eq (length (cond b (p.op ∷ ops_at place q (ops l)) (ops_at place q (ops l)))) zero
      by true k = sym (not_eq (suc (length (ops_at place q (ops l)))) zero (λ e. absurd (omega (arith, e))))
      by false k = k

  -- the snapshot, as it is read
  pub snapshot_here : {State Undo : Type 0} (v : Past State Op Undo) (op : Op) (x : OpenTx (List (Item Op))) (p n s all : ℕ) (own : Bool) → p ≡ place op → n ≡ cond (nat_eq s zero && not own) all s
      → s ≡ seen_in x.seen.entries p → own ≡ list_any (λ e. place e.op == p) x.own → all ≡ length (made_at p v.places.items)
      → n ≡ snapshot_at (seen_in x.seen.entries (place op)) (ops_at place (place op) (ops x.own)) (length (made_at (place op) v.places.items))
  snapshot_here v op x p n s all own at is seen any count =
      is
      ∙ ap (λ (m : ℕ). cond (nat_eq m zero && not own) all m) seen
      ∙ ap (λ (b : Bool). cond (nat_eq (seen_in x.seen.entries p) zero && b) all (seen_in x.seen.entries p)) (ap not any ∙ none_own p x.own)
      ∙ ap (λ (m : ℕ). snapshot_at (seen_in x.seen.entries p) (ops_at place p (ops x.own)) m) count
      ∙ ap (λ (q : ℕ). snapshot_at (seen_in x.seen.entries q) (ops_at place q (ops x.own)) (length (made_at q v.places.items))) at
