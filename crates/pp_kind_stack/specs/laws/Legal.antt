-- Proof machinery: the top of a list, and when an operation of a stack is legal.
use Rattle.std.proofs.Common.{◌≡◌, ℕ, ℤ, suc, zero, ◌-◌, List, [], ◌∷◌, ◌++◌, Some, None, refl, ◌∙◌}
use Rattle.std.proofs.Common.{ap, length, take, length-append, arith}
use Rattle.std.proofs.Math.Seq.{take-append_seam}
use Rattle.std.specs.List.{slice_get}
use Rattle.pp_core.specs.declared.call.Call.{Call}
use Rattle.pp_kind.specs.Found.{answer_of}
use Rattle.pp_kind.specs.Object.{IsLegal}
use Rattle.pp_kind.proofs.Results.{same_found}
use Rattle.pp_kind_stack.specs.declared.op.StackOp.{StackOp}
use Rattle.pp_kind_stack.specs.declared.op.StackOp.TheVariants.{Push, Pop}
use Rattle.pp_kind_stack.specs.Operations.{top_of, without_top, given_by, call_of}
use Rattle.pp_kind_stack.specs.Stacks.{stack}

-- The item that is added is at the top, above all that was there.
one_more : (items : List ℤ) (x : ℤ) → length (items ++ x ∷ []) - 1 ≡ length items
one_more items x = omega (arith, length-append items (x ∷ []))

found_last : (items : List ℤ) (x : ℤ) → slice_get (items ++ x ∷ []) (length items) ≡ Some x
found_last [] x = refl
found_last (y ∷ items) x = found_last items x

-- The top of a list with an item added is this item.
pub top_pushed : (items : List ℤ) (x : ℤ) → top_of (items ++ x ∷ []) ≡ Some x
top_pushed items x = ap (slice_get (items ++ x ∷ [])) (one_more items x) ∙ found_last items x

-- A list with an item added, without its top, is the list.
pub rest_pushed : (items : List ℤ) (x : ℤ) → without_top (items ++ x ∷ []) ≡ items
rest_pushed items x = ap (λ (n : ℕ). take n (items ++ x ∷ [])) (one_more items x)
    ∙ take-append_seam items (x ∷ [])

-- If an item is at the top, all items are the others below it; else there is none.
cut_last : (items : List ℤ) (n : ℕ) (x : ℤ) → length items ≡ suc n → slice_get items n ≡ Some x
    → take n items ++ x ∷ [] ≡ items
cut_last [] n x e h = cc
cut_last (y ∷ []) zero x e h = cc
cut_last (y ∷ z ∷ items) zero x e h = absurd (omega arith)
cut_last (y ∷ items) (suc n) x e h = ap (λ (l : List ℤ). y ∷ l) (cut_last items n x (omega arith) h)

-- A list with a top is the list without it, followed by it.
pub top_there : (items : List ℤ) (x : ℤ) → top_of items ≡ Some x
    → without_top items ++ x ∷ [] ≡ items
top_there [] x h = cc
top_there (y ∷ items) x h = cut_last (y ∷ items) (length (y ∷ items) - 1) x (omega arith) h

none_there : (items : List ℤ) (n : ℕ) → length items ≡ suc n → slice_get items n ≡ None → ⊥
none_there [] n e h = cc
none_there (y ∷ items) zero e h = cc
none_there (y ∷ items) (suc n) e h = none_there items n (omega arith) h

-- A list without a top is empty.
pub no_top : (items : List ℤ) → top_of items ≡ None → items ≡ []
no_top [] h = refl
no_top (y ∷ items) h =
    absurd (none_there (y ∷ items) (length (y ∷ items) - 1) (omega arith) h)

-- The top that the result of an operation shows.
abbrev pub Tells : StackOp → List ℤ → Type 0
Tells (Push value) items = Unit {0}
Tells (Pop value) items = top_of items ≡ value

-- An operation is legal exactly at the top that its result shows.
pub told : (op : StackOp) (items : List ℤ) → IsLegal stack items op → Tells op items
told (Push value) items h = tt
told (Pop value) items h = same_found (top_of items) value h.1

-- An operation is legal if the top of the stack is the one that it records.
pub legal_where_told : (op : StackOp) (items : List ℤ) → Tells op items → IsLegal stack items op
legal_where_told (Push value) items h = (refl, refl)
legal_where_told (Pop value) items h = (refl, ap answer_of h)

-- Operations of one call have one result in one state.
pub same_given : (items : List ℤ) (a b : StackOp) → call_of a ≡ call_of b
    → given_by items a ≡ given_by items b
same_given items (Push x) (Push y) h = refl
same_given items (Pop r) (Pop q) h = refl
same_given items (Push x) (Pop q) h = let m = ap (λ (c : Call). c.method) h in cc
same_given items (Pop r) (Push y) h = let m = ap (λ (c : Call). c.method) h in cc
