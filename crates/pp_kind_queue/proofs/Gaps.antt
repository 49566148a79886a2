-- A queue's gap crosses each operation, and closes.
use Rattle.std.proofs.Common.{◌≡◌, ℕ, ℤ, ◌+◌, ◌-◌, ◌≤◌, List, [], ◌∷◌, ◌++◌, Some, refl, sym, ◌∙◌}
use Rattle.std.proofs.Common.{ap, subst, length, length-append, arith}
use Rattle.std.specs.List.{remove}
use Rattle.pp_kind.specs.Gaps.{Crosses, StaysApart}
use Rattle.pp_kind.specs.declared.gapped.Crossed.{Crossed}
use Rattle.pp_kind.specs.declared.gapped.Crossed.TheVariants as crossed
use Rattle.pp_kind_queue.specs.declared.gap.QueueGap.{QueueGap}
use Rattle.pp_kind_queue.specs.declared.gap.QueueGap.TheVariants as gap
use Rattle.pp_kind_queue.specs.declared.op.QueueOp.{QueueOp}
use Rattle.pp_kind_queue.specs.declared.op.QueueOp.TheVariants.{Deq}
use Rattle.pp_kind_queue.specs.Operations.{front_of, behind_front}
use Rattle.pp_kind_queue.specs.Fifo.{fifo}
use Rattle.pp_kind_queue.specs.Gaps.{Bears, Differ}
use Rattle.pp_kind_queue.specs.laws.Legal.{told, legal_where_told}

-- An item less in front leaves all but one.
none_less : (items : List ℤ) (n m : ℕ) → n ≤ m + 1 → 1 ≤ m → m ≤ length (behind_front items)
    → n ≤ length items
none_less [] n m h k l = omega arith
none_less (x ∷ items) n m h k l = omega arith

-- The item that left both queues was before the one that is missing.
front_left : (v w : ℤ) (m : ℕ) (s t front back : List ℤ) → front_of s ≡ Some w
    → length back + 1 ≤ length (behind_front s) → s ≡ front ++ v ∷ back → t ≡ front ++ back
    → StaysApart fifo (Differ (gap.Enq v (length back) m)) (Deq (Some w)) s t
front_left v w m s t [] back h k e f =
    absurd (omega (arith, k, ap (λ (l : List ℤ). length (behind_front l)) e))
front_left v w m s t (x ∷ front) back h k e f = record {
  legal = legal_where_told (Deq (Some w)) t (ap front_of f ∙ (sym (ap front_of e) ∙ h));
  differ = (front, back, ap behind_front e, ap behind_front f, refl);
  kept = refl;
}

-- The gap of an item that was put in crosses a removal of an item before it.
pub crosses_deq : (v w : ℤ) (r n m : ℕ) → n ≤ m + 1 → r + 1 ≤ m
    → Crosses fifo Bears Differ (gap.Enq v r n) (Deq (Some w)) (crossed.Apart (gap.Enq v r m))
crosses_deq v w r n m h k = λ s is legal bears. (
  none_less s n m h (omega arith) bears,
  λ t also differ.
      let e = differ.4 in
      subst (λ (r : ℕ). StaysApart fifo (Differ (gap.Enq v r m)) (Deq (Some w)) s t) e
      (front_left v w m s t differ.0 differ.1 (told (Deq (Some w)) s legal) (omega arith)
      differ.2 differ.3),
)

-- A fact about an item and an operation is true for equal ones.
pub carried : (v u : ℤ) (r n : ℕ) (b c : QueueOp) (after : Crossed QueueGap (Unit {0})) → v ≡ u
    → b ≡ c → Crosses fifo Bears Differ (gap.Enq v r n) b after
    → Crosses fifo Bears Differ (gap.Enq u r n) c after
carried v u r n b c after e f h =
    subst (λ (x : QueueOp). Crosses fifo Bears Differ (gap.Enq u r n) x after) f
    (subst (λ (x : ℤ). Crosses fifo Bears Differ (gap.Enq x r n) b after) e h)

-- Without the missing item, which has this many after it, it is the other queue.
taken_out : (v : ℤ) (front back : List ℤ)
    → remove (front ++ v ∷ back) (length front) ≡ front ++ back
taken_out v [] back = refl
taken_out v (x ∷ front) back = ap (λ (l : List ℤ). x ∷ l) (taken_out v front back)

-- To remove the item that the other queue lacks makes it the other queue.
pub closes : (v : ℤ) (r n at : ℕ) (g : QueueGap) (s t : List ℤ) → g ≡ gap.Enq v r n
    → at ≡ length s - 1 - r → Differ g s t → remove s at ≡ t
closes v r n at g s t is e d =
    let differ : Differ (gap.Enq v r n) s t = subst (λ (x : QueueGap). Differ x s t) is d in
    let front = differ.0 in
    let back = differ.1 in
    let same : at ≡ length front = omega (
      arith,
      e,
      ap length differ.2,
      differ.4,
      length-append front (v ∷ back),
    ) in
    ap (remove s) same
    ∙ (ap (λ (l : List ℤ). remove l (length front)) differ.2
    ∙ (taken_out v front back ∙ sym differ.3))
