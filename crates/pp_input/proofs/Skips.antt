-- A line that ends within the limits is taken whole.
use Rattle.std.proofs.Common.{◌≡◌, ◌≤◌, ◌<◌, ℕ, zero, suc, ◌+◌, List, [], ◌∷◌, ◌++◌, ◌==◌, length}
use Rattle.std.proofs.Common.{take, drop, true, false, slice_index, None, refl, ap, sym, ◌∙◌}
use Rattle.std.proofs.Common.{append_assoc, subst, add-one, arith}
use Rattle.std.proofs.lemmas.List.{drop-drop}
use Rattle.std.proofs.Math.Seq.{take-add}
use Rattle.std.proofs.lemmas.Bool.{false_from_ne_true, lt-leb}
use Rattle.pp_input.specs.declared.reach.Reach.{Reach}
use Rattle.pp_input.specs.Reaches.{passed, past, overrun_from, within_from, reach_from, IsSkipped}

-- Two places with the same limits, bytes, lines and column are equal.
pub reach_same : (a b : Reach) → a.limits ≡ b.limits → a.bytes ≡ b.bytes → a.lines ≡ b.lines → a.column ≡ b.column → a ≡ b
reach_same a b l p q r =
    ap (λ x. let at : Reach = record { limits = x; bytes = a.bytes; lines = a.lines; column = a.column } in at) l
    ∙ ap (λ x. let at : Reach = record { limits = b.limits; bytes = x; lines = a.lines; column = a.column } in at) p
    ∙ ap (λ x. let at : Reach = record { limits = b.limits; bytes = b.bytes; lines = x; column = a.column } in at) q
    ∙ ap (λ x. let at : Reach = record { limits = b.limits; bytes = b.bytes; lines = b.lines; column = x } in at) r

-- A byte 10 passes no limit if the bytes and the lines are below theirs.
pub passed_end : (at : Reach) (b : ℕ) → (b == 10) ≡ true → at.bytes < at.limits.bytes → at.lines < at.limits.lines → passed at b ≡ None
passed_end at b end bytes lines = rw (lt-leb at.limits.bytes at.bytes bytes, lt-leb at.limits.lines at.lines lines, end) refl

-- Another byte than 10 passes no limit if the bytes, the lines and the column are below theirs.
pub passed_byte : (at : Reach) (b : ℕ) → (b == 10) ≡ false → at.bytes < at.limits.bytes → at.lines < at.limits.lines → at.column < at.limits.line_bytes → passed at b ≡ None
passed_byte at b inner bytes lines column = rw (lt-leb at.limits.bytes at.bytes bytes, lt-leb at.limits.lines at.lines lines, inner, lt-leb at.limits.line_bytes at.column column) refl

-- one byte, and those that follow it
skip_one : (at to : Reach) (b : ℕ) (bs : List ℕ) (n : ℕ) → passed at b ≡ None → IsSkipped (past at b) bs n to → IsSkipped at (b ∷ bs) (suc n) to
skip_one at to b bs n none more = record {
  within = rw none (ap (λ ls. b ∷ ls) more.within);
  reach = rw none more.reach;
  overrun = rw none more.overrun;
}

skip_none : (at to : Reach) (bs : List ℕ) → at ≡ to → IsSkipped at bs 0 to
skip_none at to bs same = record { within = ap (λ r. within_from r bs) same; reach = ap (λ r. reach_from r bs) same; overrun = ap (λ r. overrun_from r bs) same }

-- Within the limits, a line and its end are passed at once, and reach the start of the next line.
pub line_skipped : (at to : Reach) (bytes : List ℕ) (k : ℕ) → k < length bytes → (slice_index bytes k == 10) ≡ true → ((j : ℕ) → 0 ≤ j → j < k → (slice_index bytes j == 10) ≡ true → ⊥)
    → at.bytes + k < at.limits.bytes → at.lines < at.limits.lines → at.column + k ≤ at.limits.line_bytes → to.limits ≡ at.limits → to.bytes ≡ at.bytes + k + 1 → to.lines ≡ at.lines + 1 → to.column ≡ 0
    → IsSkipped at bytes (suc k) to
line_skipped at to [] k lt end inner b l c ts tb tl tc = absurd (omega arith)
line_skipped at to (x ∷ xs) zero lt end inner b l c ts tb tl tc =
    let here : past at x ≡ to = rw end (reach_same (record { limits = at.limits; bytes = at.bytes + 1; lines = at.lines + 1; column = 0 }) to (sym ts) (omega arith) (omega arith) (omega arith)) in
    skip_one at to x xs 0 (passed_end at x end (omega arith) l) (skip_none (past at x) to xs here)
line_skipped at to (x ∷ xs) (suc k) lt end inner b l c ts tb tl tc =
    let no_end : (x == 10) ≡ false = false_from_ne_true _ (inner 0 (omega arith) (omega arith)) in
    let next : Reach = record { limits = at.limits; bytes = at.bytes + 1; lines = at.lines; column = at.column + 1 } in
    let here : next ≡ past at x = rw no_end refl in
    let more : IsSkipped next xs (suc k) to = line_skipped next to xs k (omega arith) end (λ j le m h. inner (suc j) (omega arith) (omega arith) h) (omega arith) l (omega arith) ts (omega arith) tl tc in
    skip_one at to x xs (suc k) (passed_byte at x no_end (omega arith) l (omega arith)) (rw (← here) more)

-- one more line
pub skipped_more : (from at to : Reach) (bytes : List ℕ) (n k : ℕ) → IsSkipped from bytes n at → IsSkipped at (drop n bytes) k to → IsSkipped from bytes (n + k) to
skipped_more from at to bytes n k first next = record {
  within = first.within ∙ ap (λ ls. take n bytes ++ ls) next.within ∙ sym (append_assoc (take n bytes) (take k (drop n bytes)) (within_from to (drop k (drop n bytes))))
      ∙ ap (λ ls. ls ++ within_from to (drop k (drop n bytes))) (sym (take-add n k bytes)) ∙ ap (λ ls. take (n + k) bytes ++ within_from to ls) (drop-drop k n bytes);
  reach = first.reach ∙ next.reach ∙ ap (reach_from to) (drop-drop k n bytes);
  overrun = first.overrun ∙ next.overrun ∙ ap (overrun_from to) (drop-drop k n bytes);
}

-- and one more line, if these bytes are left
pub line_more : (from at to : Reach) (bytes left : List ℕ) (n k : ℕ) → IsSkipped from bytes n at → left ≡ drop n bytes
    → k < length left → (slice_index left k == 10) ≡ true → ((j : ℕ) → 0 ≤ j → j < k → (slice_index left j == 10) ≡ true → ⊥)
    → at.bytes + k < at.limits.bytes → at.lines < at.limits.lines → at.column + k ≤ at.limits.line_bytes → to.limits ≡ at.limits → to.bytes ≡ at.bytes + k + 1 → to.lines ≡ at.lines + 1 → to.column ≡ 0
    → IsSkipped from bytes (n + (k + 1)) to
line_more from at to bytes left n k first is lt end inner b l c ts tb tl tc =
    rw add-one (skipped_more from at to bytes n (suc k) first (subst (λ ls. IsSkipped at ls (suc k) to) is (line_skipped at to left k lt end inner b l c ts tb tl tc)))

-- The bytes within the limits are the skipped ones and those that are taken one by one after them.
pub within_more : (from at : Reach) (bytes : List ℕ) (n k : ℕ) → IsSkipped from bytes n at → take k (drop n bytes) ≡ within_from at (drop n bytes) → take (n + k) bytes ≡ within_from from bytes
within_more from at bytes n k first next = take-add n k bytes ∙ ap (λ ls. take n bytes ++ ls) next ∙ sym first.within
