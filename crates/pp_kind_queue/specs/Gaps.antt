-- Meaning: how a queue differs from the one that would be there without one of its operations.
use Rattle.std.specs.Prelude.{◌≡◌, ℤ, ◌≤◌, List, ◌∷◌, ◌++◌, length}
use Rattle.pp_kind_queue.specs.declared.gap.QueueGap.{QueueGap}
use Rattle.pp_kind_queue.specs.declared.gap.QueueGap.TheVariants as gap

-- There are so many items that the one which the other queue lacks has not left.
abbrev pub Bears : QueueGap → List ℤ → Type 0
Bears (gap.Enq v behind least) items = least ≤ length items
Bears (gap.Deq v) items = Unit {0}

-- The other queue lacks an item that has so many after it, or has one more in front.
abbrev pub Differ : QueueGap → List ℤ → List ℤ → Type 0
Differ (gap.Enq v behind least) items others =
    (front : List ℤ) × (back : List ℤ) × (items ≡ front ++ v ∷ back) × (others ≡ front ++ back)
    × (length back ≡ behind)
Differ (gap.Deq v) items others = others ≡ v ∷ items
