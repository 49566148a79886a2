-- A stack's gap crosses each operation, and closes.
use Rattle.std.proofs.Common.{◌≡◌, ℕ, ℤ, zero, suc, ◌+◌, ◌-◌, ◌<◌, List, [], ◌∷◌, ◌++◌, length}
use Rattle.std.proofs.Common.{true, Option, Some, None, inl, inr, refl, sym, ◌∙◌, ap, subst, arith}
use Rattle.std.proofs.Common.{append_assoc, append-nil, length-append}
use Rattle.std.proofs.lemmas.Bool.Decides.{Decides-int_eq}
use Rattle.std.proofs.lemmas.List.{nil_from_length}
use Rattle.std.specs.List.{remove, slice_get}
use Rattle.std.specs.Option.{option_eq}
use Rattle.std.specs.Ordering.{int_eq}
use Rattle.pp_kind.specs.Gaps.{Crosses, Leaves, StaysApart}
use Rattle.pp_kind.specs.declared.gapped.Crossed.TheVariants as crossed
use Rattle.pp_kind.specs.declared.gapped.Left.TheVariants as left
use Rattle.pp_kind_stack.specs.declared.gap.StackGap.{StackGap}
use Rattle.pp_kind_stack.specs.declared.gap.StackGap.TheVariants as gap
use Rattle.pp_kind_stack.specs.declared.op.StackOp.{StackOp}
use Rattle.pp_kind_stack.specs.declared.op.StackOp.TheVariants.{Push, Pop}
use Rattle.pp_kind_stack.specs.Operations.{top_of, without_top}
use Rattle.pp_kind_stack.specs.Stacks.{stack}
use Rattle.pp_kind_stack.specs.Gaps.{Lacks, Bears, Differ, IsAboveBehind}
use Rattle.pp_kind_stack.specs.laws.Legal.{top_pushed, rest_pushed, top_there, no_top, told, Tells}
use Rattle.pp_kind_stack.specs.laws.Legal.{legal_where_told}

-- A list with an item has a last one.
record Ends (items : List ℤ) : Type 0 where
  pub rest : List ℤ
  pub last : ℤ
  pub is : items ≡ rest ++ last ∷ []

last_of : (x : ℤ) (items : List ℤ) → Ends (x ∷ items)
last_of x [] = record { rest = []; last = x; is = refl }
last_of x (y ∷ items) =
    let more = last_of y items in
    record { rest = x ∷ more.rest; last = more.last; is = ap (λ (l : List ℤ). x ∷ l) more.is }

ends : (items : List ℤ) (n : ℕ) → length items ≡ n + 1 → Ends items
ends [] n e = absurd (omega arith)
ends (x ∷ items) n e = last_of x items

one_less : (items rest : List ℤ) (x : ℤ) (n : ℕ) → items ≡ rest ++ x ∷ [] → length items ≡ n + 1
    → length rest ≡ n
one_less items rest x n e h = omega (arith, h, ap length e, length-append rest (x ∷ []))

-- An item more at the top of both.
on_top : (v w : ℤ) (d : ℕ) (s t : List ℤ) → Lacks v d s t
    → Lacks v (d + 1) (s ++ w ∷ []) (t ++ w ∷ [])
on_top v w d s t h = (
  h.0,
  h.1 ++ w ∷ [],
  ap (λ (l : List ℤ). l ++ w ∷ []) h.2 ∙ append_assoc h.0 (v ∷ h.1) (w ∷ []),
  ap (λ (l : List ℤ). l ++ w ∷ []) h.3 ∙ append_assoc h.0 h.1 (w ∷ []),
  omega (arith, length-append h.1 (w ∷ []), h.4),
)

-- If some are above the item, both have one top, and lack the same without it.
record SharesTop (v : ℤ) (d : ℕ) (s t : List ℤ) : Type 0 where
  pub top : top_of s ≡ top_of t
  pub rest : Lacks v d (without_top s) (without_top t)

shares_top : (v : ℤ) (d : ℕ) (s t : List ℤ) → Lacks v (d + 1) s t → SharesTop v d s t
shares_top v d s t h =
    let high = ends h.1 d h.4 in
    let first : s ≡ (h.0 ++ v ∷ high.rest) ++ high.last ∷ [] =
    h.2 ∙ (ap (λ (l : List ℤ). h.0 ++ v ∷ l) high.is
    ∙ sym (append_assoc h.0 (v ∷ high.rest) (high.last ∷ []))) in
    let second : t ≡ (h.0 ++ high.rest) ++ high.last ∷ [] =
    h.3 ∙ (ap (λ (l : List ℤ). h.0 ++ l) high.is
    ∙ sym (append_assoc h.0 high.rest (high.last ∷ []))) in
    record {
      top = ap top_of first ∙ (top_pushed (h.0 ++ v ∷ high.rest) high.last
          ∙ sym (ap top_of second ∙ top_pushed (h.0 ++ high.rest) high.last));
      rest = (
        h.0,
        high.rest,
        ap without_top first ∙ rest_pushed (h.0 ++ v ∷ high.rest) high.last,
        ap without_top second ∙ rest_pushed (h.0 ++ high.rest) high.last,
        one_less h.1 high.rest high.last d high.is h.4,
      );
    }

-- If the item is at the top, the other one is the rest.
top_lacks : (v : ℤ) (s : List ℤ) → top_of s ≡ Some v → Lacks v 0 s (without_top s)
top_lacks v s h = (without_top s, [], sym (top_there s v h), sym (append-nil (without_top s)), refl)

rest_of_top : (v : ℤ) (s t : List ℤ) → Lacks v 0 s t → s ≡ t ++ v ∷ []
rest_of_top v s t h =
    let none = nil_from_length h.1 h.4 in
    let low : t ≡ h.0 = h.3 ∙ (ap (λ (l : List ℤ). h.0 ++ l) none ∙ append-nil h.0) in
    h.2 ∙ (ap (λ (l : List ℤ). h.0 ++ v ∷ l) none ∙ sym (ap (λ (l : List ℤ). l ++ v ∷ []) low))

top_of_first : (v : ℤ) (s t : List ℤ) → Lacks v 0 s t → top_of s ≡ Some v
top_of_first v s t h = ap top_of (rest_of_top v s t h) ∙ top_pushed t v

rest_of_first : (v : ℤ) (s t : List ℤ) → Lacks v 0 s t → without_top s ≡ t
rest_of_first v s t h = ap without_top (rest_of_top v s t h) ∙ rest_pushed t v

-- The gap that an operation leaves.
pub pop_leaves : (v : ℤ) (op : StackOp) (u : Unit {0}) → Pop (Some v) ≡ op
    → Leaves stack Bears Differ op u (left.Apart (gap.Pop v 0))
pop_leaves v op u e =
    subst (λ (x : StackOp). Leaves stack Bears Differ x u (left.Apart (gap.Pop v 0))) e
    (λ s is legal kept bears. top_lacks v s (told (Pop (Some v)) s legal))

-- A pop that finds nothing leaves no gap.
pub none_leaves : (op : StackOp) (u : Unit {0}) → Pop None ≡ op
    → Leaves stack Bears Differ op u left.Same
none_leaves op u e = subst (λ (x : StackOp). Leaves stack Bears Differ x u left.Same) e
    (λ s is legal kept. let none = no_top s (told (Pop None) s legal) in cc)

-- The condition on the first stack before an operation, from the condition after it.
bears_before : (v : ℤ) (d e : ℕ) (op : StackOp) (s : List ℤ) → IsAboveBehind v d op e
    → Tells op s → Bears (gap.Push v e) (stack.next s op) → Bears (gap.Push v d) s
bears_before v d e (Push w) s h k b =
    let high = ends b.1 d (b.3 ∙ h) in (
      b.0,
      high.rest,
      sym (rest_pushed s w)
          ∙ (ap without_top (b.2 ∙ (ap (λ (l : List ℤ). b.0 ++ v ∷ l) high.is
          ∙ sym (append_assoc b.0 (v ∷ high.rest) (high.last ∷ []))))
          ∙ rest_pushed (b.0 ++ v ∷ high.rest) high.last),
      one_less b.1 high.rest high.last d high.is (b.3 ∙ h),
    )
bears_before v d e (Pop (Some w)) s (inl h) k b = (
  b.0,
  b.1 ++ w ∷ [],
  sym (top_there s w k)
      ∙ (ap (λ (l : List ℤ). l ++ w ∷ []) b.2 ∙ append_assoc b.0 (v ∷ b.1) (w ∷ [])),
  omega (arith, length-append b.1 (w ∷ []), b.3, h),
)
bears_before v d e (Pop (Some w)) s (inr h) k b = (
  without_top s,
  [],
  sym (top_there s v (k ∙ ap Some h.2)),
  sym h.0,
)
bears_before v d e (Pop None) s h k b = absurd h

-- The item of the first that the second lacks, after an operation.
push_differs : (v : ℤ) (d e : ℕ) (op : StackOp) (s t : List ℤ) → IsAboveBehind v d op e
    → Tells op s → Bears (gap.Push v e) (stack.next s op) → Differ (gap.Push v d) s t
    → StaysApart stack (Differ (gap.Push v e)) op s t
push_differs v d e (Push w) s t h k b f = record {
  legal = (refl, refl);
  differ = subst (λ (n : ℕ). Lacks v n (s ++ w ∷ []) (t ++ w ∷ [])) (sym h) (on_top v w d s t f);
  kept = refl;
}
push_differs v d e (Pop (Some w)) s t (inl h) k b f =
    let shared = shares_top v e s t (subst (λ (n : ℕ). Lacks v n s t) h f) in
    record {
      legal = legal_where_told (Pop (Some w)) t (sym shared.top ∙ k);
      differ = shared.rest;
      kept = refl;
    }
push_differs v d e (Pop (Some w)) s t (inr h) k b f =
    let first = subst (λ (n : ℕ). Lacks v n s t) h.0 f in
    let rest : without_top s ≡ t = rest_of_first v s t first in
    let none = nil_from_length b.1 (b.3 ∙ h.1) in
    let below : t ≡ b.0 ++ v ∷ [] = sym rest ∙ (b.2 ∙ ap (λ (l : List ℤ). b.0 ++ v ∷ l) none) in
    let top : top_of t ≡ Some v = ap top_of below ∙ top_pushed b.0 v in
    record {
      legal = legal_where_told (Pop (Some w)) t (top ∙ ap Some (sym h.2));
      differ = subst (λ (n : ℕ). Lacks v n (without_top s) (without_top t)) (sym h.1)
          (subst (λ (l : List ℤ). Lacks v 0 l (without_top t)) (sym rest) (top_lacks v t top));
      kept = refl;
    }
push_differs v d e (Pop None) s t h k b f = absurd h

-- The item that the second has more, after an operation.
pop_differs : (v : ℤ) (d e : ℕ) (op : StackOp) (s t : List ℤ) → IsAboveBehind v d op e
    → Tells op s → Differ (gap.Pop v d) s t → StaysApart stack (Differ (gap.Pop v e)) op s t
pop_differs v d e (Push w) s t h k f = record {
  legal = (refl, refl);
  differ = subst (λ (n : ℕ). Lacks v n (t ++ w ∷ []) (s ++ w ∷ [])) (sym h) (on_top v w d t s f);
  kept = refl;
}
pop_differs v d e (Pop (Some w)) s t (inl h) k f =
    let shared = shares_top v e t s (subst (λ (n : ℕ). Lacks v n t s) h f) in
    record {
      legal = legal_where_told (Pop (Some w)) t (shared.top ∙ k);
      differ = shared.rest;
      kept = refl;
    }
pop_differs v d e (Pop (Some w)) s t (inr h) k f =
    let first = subst (λ (n : ℕ). Lacks v n t s) h.0 f in
    let rest : without_top t ≡ s = rest_of_first v t s first in
    record {
      legal = legal_where_told (Pop (Some w)) t (top_of_first v t s first ∙ ap Some (sym h.2));
      differ = subst (λ (n : ℕ). Lacks v n (without_top t) (without_top s)) (sym h.1)
          (subst (λ (l : List ℤ). Lacks v 0 l (without_top s)) (sym rest)
          (top_lacks v s (k ∙ ap Some h.2)));
      kept = refl;
    }
pop_differs v d e (Pop None) s t h k f = absurd h

-- The gap of a push crosses an operation, with as many items above as there are after it.
pub crosses_push : (v : ℤ) (d e : ℕ) (op : StackOp) (g : StackGap) → gap.Push v d ≡ g
    → IsAboveBehind v d op e → Crosses stack Bears Differ g op (crossed.Apart (gap.Push v e))
crosses_push v d e op g is h =
    subst (λ (x : StackGap). Crosses stack Bears Differ x op (crossed.Apart (gap.Push v e))) is
    (λ s state legal bears. (
      bears_before v d e op s h (told op s legal) bears,
      λ t also differ. push_differs v d e op s t h (told op s legal) bears differ,
    ))

-- The gap of a pop crosses an operation, with as many items above as there are after it.
pub crosses_pop : (v : ℤ) (d e : ℕ) (op : StackOp) (g : StackGap) → gap.Pop v d ≡ g
    → IsAboveBehind v d op e → Crosses stack Bears Differ g op (crossed.Apart (gap.Pop v e))
crosses_pop v d e op g is h =
    subst (λ (x : StackGap). Crosses stack Bears Differ x op (crossed.Apart (gap.Pop v e))) is
    (λ s state legal bears. (
      tt,
      λ t also differ. pop_differs v d e op s t h (told op s legal) differ,
    ))

-- An item that is found has the others round it.
found : (v : ℤ) (items : List ℤ) (i : ℕ) → slice_get items i ≡ Some v
    → (low : List ℤ) × (high : List ℤ) × (items ≡ low ++ v ∷ high) × (length low ≡ i)
found v [] i h = absurd (cc)
found v (x ∷ items) zero h = ([], items, cc, refl)
found v (x ∷ items) (suc i) h =
    let more = found v items i h in
    (x ∷ more.0, more.1, ap (λ (l : List ℤ). x ∷ l) more.2, ap suc more.3)

-- If the test says that an item was found, it was this item.
pub same_item : (was : Option ℤ) (u v : ℤ) → u ≡ v → option_eq int_eq was (Some u) ≡ true
    → was ≡ Some v
same_item None u v e h = cc
same_item (Some x) u v e h = ap Some ((Decides-int_eq x u).0 h ∙ e)

-- A stack with the pushed item at its position bears the gap of the push.
pub bears_found : (v : ℤ) (d i : ℕ) (items : List ℤ) → d < length items
    → i ≡ length items - 1 - d → slice_get items i ≡ Some v → Bears (gap.Push v d) items
bears_found v d i items h e k =
    let parts = found v items i k in (
      parts.0,
      parts.1,
      parts.2,
      omega (arith, ap length parts.2, length-append parts.0 (v ∷ parts.1), parts.3, e, h),
    )

-- An item is taken out of the midst of others.
taken_out : (v : ℤ) (low high : List ℤ) → remove (low ++ v ∷ high) (length low) ≡ low ++ high
taken_out v [] high = refl
taken_out v (x ∷ low) high = ap (λ (l : List ℤ). x ∷ l) (taken_out v low high)

-- To remove the pushed item from its position closes the gap of the push.
pub push_closes : (v : ℤ) (d at : ℕ) (g : StackGap) (s t : List ℤ) → g ≡ gap.Push v d
    → at ≡ length s - 1 - d → Differ g s t → remove s at ≡ t
push_closes v d at g s t is e f =
    let h : Lacks v d s t = subst (λ (x : StackGap). Differ x s t) is f in
    let same : at ≡ length h.0 = omega (
      arith,
      e,
      ap length h.2,
      h.4,
      length-append h.0 (v ∷ h.1),
    ) in
    ap (remove s) same
    ∙ (ap (λ (l : List ℤ). remove l (length h.0)) h.2 ∙ (taken_out v h.0 h.1 ∙ sym h.3))
