-- An input that is cut into pieces passes the same limit, at the same byte.
use Rattle.std.proofs.Common.{◌≡◌, ◌≤◌, ◌<◌, ℕ, ◌+◌, List, [], ◌∷◌, ◌++◌, ◌==◌, length, Bool, true}
use Rattle.std.proofs.Common.{false, cond, is_some, Option, Some, None, refl, ap, sym, ◌∙◌}
use Rattle.std.proofs.Common.{append_assoc, arith}
use Rattle.std.proofs.lemmas.List.{append-nil, length-append}
use Rattle.std.proofs.lemmas.Bool.{leb-false}
use Rattle.std.proofs.lemmas.Option.{same_Some}
use Rattle.std.specs.Option.{option_or}
use Rattle.pp_input.specs.declared.limits.Limits.{Limits}
use Rattle.pp_input.specs.declared.reach.Reach.{Reach}
use Rattle.pp_input.specs.declared.fault.LineFault.{LineFault}
use Rattle.pp_input.specs.declared.fault.LineFault.TheVariants.{TooLong, TooManyLines, LineTooLong}
use Rattle.pp_input.specs.Lines.{ended, rest, ended_behind, rest_behind}
use Rattle.pp_input.specs.Reaches.{passed, past, overrun_from, within_from, reach_from, start}
use Rattle.pp_input.specs.Overruns.{reach_of, overrun_behind, overrun, within, line_of}

-- The ended lines of two pieces are those of the first and those of the second after what the first leaves.
pub ended_append : (front a b : List ℕ) → ended_behind front (a ++ b) ≡ ended_behind front a ++ ended_behind (rest_behind front a) b
ended_append front [] b = refl
ended_append front (x ∷ xs) b =
    elim (x == 10) as (λ v. cond v (front ∷ ended_behind [] (xs ++ b)) (ended_behind (front ++ x ∷ []) (xs ++ b)) ≡ cond v (front ∷ ended_behind [] xs) (ended_behind (front ++ x ∷ []) xs) ++ ended_behind (cond v (rest_behind [] xs) (rest_behind (front ++ x ∷ []) xs)) b) [
      | true ↦ ap (λ ls. front ∷ ls) (ended_append [] xs b)
      | false ↦ ended_append (front ++ x ∷ []) xs b
    ]

-- The bytes after the last byte 10 of two pieces are those of the second piece, after those of the first.
pub rest_append : (front a b : List ℕ) → rest_behind front (a ++ b) ≡ rest_behind (rest_behind front a) b
rest_append front [] b = refl
rest_append front (x ∷ xs) b =
    elim (x == 10) as (λ v. cond v (rest_behind [] (xs ++ b)) (rest_behind (front ++ x ∷ []) (xs ++ b)) ≡ rest_behind (cond v (rest_behind [] xs) (rest_behind (front ++ x ∷ []) xs)) b) [
      | true ↦ rest_append [] xs b
      | false ↦ rest_append (front ++ x ∷ []) xs b
    ]

-- one byte further
past_push : (L : Limits) (front : List ℕ) (b : ℕ) → past (reach_of L front) b ≡ reach_of L (front ++ b ∷ [])
past_push L front b =
    let lines : length (ended (front ++ b ∷ [])) ≡ length (ended front) + length (ended_behind (rest front) (b ∷ [])) = ap length (ended_append [] front (b ∷ [])) ∙ length-append (ended front) (ended_behind (rest front) (b ∷ [])) in
    let column : length (rest (front ++ b ∷ [])) ≡ length (rest_behind (rest front) (b ∷ [])) = ap length (rest_append [] front (b ∷ [])) in
    let bytes : length (front ++ b ∷ []) ≡ length front + 1 = length-append front (b ∷ []) in
    rw (lines, column, bytes) (
    elim (b == 10) as (λ v. cond {A = Reach} v (record { limits = L; bytes = length front + 1; lines = length (ended front) + 1; column = 0 }) (record { limits = L; bytes = length front + 1; lines = length (ended front); column = length (rest front) + 1 })
    ≡ record { limits = L; bytes = length front + 1; lines = length (ended front) + length (cond v (rest front ∷ []) []); column = length (cond v [] (rest front ++ b ∷ [])) }) [
      | true ↦ refl
      | false ↦
          let none : length (ended front) ≡ length (ended front) + 0 = omega arith in
          let one : length (rest front) + 1 ≡ length (rest front ++ b ∷ []) = sym (length-append (rest front) (b ∷ [])) in
          rw (← none, ← one) refl
    ])

-- how far the bytes reach is all that a limit looks at
pub overrun_is : (L : Limits) (front bytes : List ℕ) → overrun_from (reach_of L front) bytes ≡ overrun_behind L front bytes
overrun_is L front [] = refl
overrun_is L front (b ∷ bs) = ap (λ at. option_or (passed (reach_of L front) b) (overrun_from at bs)) (past_push L front b) ∙ ap (option_or (passed (reach_of L front) b)) (overrun_is L (front ++ b ∷ []) bs)

-- The state of the input after two pieces is the state after the second piece, from the state after the first, up to the byte that passes a
-- limit.
pub reach_is : (L : Limits) (front bytes : List ℕ) → reach_from (reach_of L front) bytes ≡ reach_of L (front ++ within_from (reach_of L front) bytes)
reach_is L front [] = ap (reach_of L) (sym (append-nil front))
reach_is L front (b ∷ bs) =
    elim (is_some (passed (reach_of L front) b)) as (λ v. cond {A = Reach} v (reach_of L front) (reach_from (past (reach_of L front) b) bs) ≡ reach_of L (front ++ cond v [] (b ∷ within_from (past (reach_of L front) b) bs))) [
      | true ↦ ap (reach_of L) (sym (append-nil front))
      | false ↦ rw (past_push L) (reach_is L (front ++ b ∷ []) bs ∙ ap (reach_of L) (append_assoc front (b ∷ []) (within_from (reach_of L (front ++ b ∷ [])) bs)))
    ]

none_first : {A : Type 0} (o p : Option A) → option_or o p ≡ None → (o ≡ None) × (p ≡ None)
none_first None p h = (refl, h)
none_first (Some x) p h = absurd (cc)

-- If the first bytes pass no limit, the limit that both pass is that of the second after the first.
pub overrun_on : (L : Limits) (front a b : List ℕ) → overrun_behind L front a ≡ None → overrun_behind L front (a ++ b) ≡ overrun_behind L (front ++ a) b
overrun_on L front [] b none = ap (λ f. overrun_behind L f b) (sym (append-nil front))
overrun_on L front (x ∷ xs) b none =
    let first = none_first (passed (reach_of L front) x) (overrun_behind L (front ++ x ∷ []) xs) none in
    rw first.0 (overrun_on L (front ++ x ∷ []) xs b first.1 ∙ ap (λ f. overrun_behind L f b) (append_assoc front (x ∷ []) xs))

or_same : (o p q : Option LineFault) (x : LineFault) → (p ≡ Some x → q ≡ Some x) → option_or o p ≡ Some x → option_or o q ≡ Some x
or_same None p q x f h = f h
or_same (Some y) p q x f h = h

-- If the first bytes pass a limit, more bytes after them pass the same.
pub overrun_stays : (L : Limits) (front a b : List ℕ) (fault : LineFault) → overrun_behind L front a ≡ Some fault → overrun_behind L front (a ++ b) ≡ Some fault
overrun_stays L front [] b fault h = absurd (cc)
overrun_stays L front (x ∷ xs) b fault h = or_same (passed (reach_of L front) x) _ _ fault (overrun_stays L (front ++ x ∷ []) xs b fault) h

-- If the first bytes pass no limit, those within the limits are the first and then those of the second.
pub within_on : (at : Reach) (a b : List ℕ) → overrun_from at a ≡ None → within_from at (a ++ b) ≡ a ++ within_from (reach_from at a) b
within_on at [] b none = refl
within_on at (x ∷ xs) b none =
    let first = none_first (passed at x) (overrun_from (past at x) xs) none in
    rw first.0 (ap (λ ls. x ∷ ls) (within_on (past at x) xs b first.1))

-- If the first bytes pass a limit, more bytes do not change those within the limits.
pub within_stays : (at : Reach) (a b : List ℕ) (fault : LineFault) → overrun_from at a ≡ Some fault → within_from at (a ++ b) ≡ within_from at a
within_stays at [] b fault h = absurd (cc)
within_stays at (x ∷ xs) b fault h =
    elim (passed at x) as (λ o. option_or o (overrun_from (past at x) xs) ≡ Some fault → cond (is_some o) [] (x ∷ within_from (past at x) (xs ++ b)) ≡ cond (is_some o) [] (x ∷ within_from (past at x) xs)) [
      | None ↦ λ k. ap (λ ls. x ∷ ls) (within_stays (past at x) xs b fault k)
      | Some f ↦ λ k. refl
    ] h

-- the bytes before the one that passes a limit are at the front
pub within_front : (at : Reach) (bytes : List ℕ) → (more : List ℕ) × (bytes ≡ within_from at bytes ++ more)
within_front at [] = ([], refl)
within_front at (x ∷ xs) =
    let tail = within_front (past at x) xs in
    elim (is_some (passed at x)) as (λ v. (more : List ℕ) × (x ∷ xs ≡ cond v [] (x ∷ within_from (past at x) xs) ++ more)) [
      | true ↦ (x ∷ xs, refl)
      | false ↦ (tail.0, ap (λ ls. x ∷ ls) tail.1)
    ]

line_in : (a b c : Bool) (n : ℕ) (fault : LineFault) → cond a (Some (TooLong n)) (cond b (Some (TooManyLines n)) (cond c (Some (LineTooLong n)) None)) ≡ Some fault → line_of fault ≡ n
line_in true b c n fault h = sym (ap line_of (same_Some (TooLong n) fault h))
line_in false true c n fault h = sym (ap line_of (same_Some (TooManyLines n) fault h))
line_in false false true n fault h = sym (ap line_of (same_Some (LineTooLong n) fault h))
line_in false false false n fault h = absurd (cc)

-- The line of a fault is the one after those that ended.
pub line_is : (at : Reach) (bytes : List ℕ) (fault : LineFault) → overrun_from at bytes ≡ Some fault → line_of fault ≡ (reach_from at bytes).lines + 1
line_is at [] fault h = absurd (cc)
line_is at (x ∷ xs) fault h =
    elim (passed at x) as (λ o. (o ≡ Some fault → line_of fault ≡ at.lines + 1) → option_or o (overrun_from (past at x) xs) ≡ Some fault → line_of fault ≡ (cond {A = Reach} (is_some o) at (reach_from (past at x) xs)).lines + 1) [
      | None ↦ λ first k. line_is (past at x) xs fault k
      | Some f ↦ λ first k. first k
    ] (line_in _ _ _ (at.lines + 1) fault) h

-- The first limit that all bytes of an input pass, by the program's steps.
pub start_overrun : (L : Limits) (bytes : List ℕ) → overrun_from (start L) bytes ≡ overrun L bytes
start_overrun L bytes = overrun_is L [] bytes

-- From the start, the state of the input is that of its bytes within the limits.
pub start_reach : (L : Limits) (bytes : List ℕ) → reach_from (start L) bytes ≡ reach_of L (within L bytes)
start_reach L bytes = reach_is L [] bytes

-- If an input passes no limit, all its bytes are within the limits.
pub within_all : (L : Limits) (bytes : List ℕ) → overrun L bytes ≡ None → within L bytes ≡ bytes
within_all L bytes none = ap (within_from (start L)) (sym (append-nil bytes)) ∙ within_on (start L) bytes [] (start_overrun L bytes ∙ none) ∙ append-nil bytes

-- If an input passes no limit, its state from the start is that of all its bytes.
pub start_reach_all : (L : Limits) (bytes : List ℕ) → overrun L bytes ≡ None → reach_from (start L) bytes ≡ reach_of L bytes
start_reach_all L bytes none = start_reach L bytes ∙ ap (reach_of L) (within_all L bytes none)

-- If the first bytes pass no limit, those within it are the first and those of a piece after them.
pub within_more : (L : Limits) (bytes piece : List ℕ) → overrun L bytes ≡ None → within L (bytes ++ piece) ≡ bytes ++ within_from (reach_of L bytes) piece
within_more L bytes piece none = within_on (start L) bytes piece (start_overrun L bytes ∙ none) ∙ ap (λ at. bytes ++ within_from at piece) (start_reach_all L bytes none)

-- A piece that is fed after bytes that pass no limit.
pub overrun_more : (L : Limits) (bytes piece : List ℕ) → overrun L bytes ≡ None → overrun_from (reach_of L bytes) piece ≡ overrun L (bytes ++ piece)
overrun_more L bytes piece none = overrun_is L bytes piece ∙ sym (overrun_on L [] bytes piece none)

not_first : {A : Type 0} (t : Bool) (x : A) (more : Option A) → cond t (Some x) more ≡ None → t ≡ false
not_first true x more h = absurd (cc)
not_first false x more h = refl

past_bytes : (at : Reach) (b : ℕ) → (past at b).bytes ≡ at.bytes + 1
past_bytes at b = elim (b == 10) as (λ v. (cond {A = Reach} v (record { limits = at.limits; bytes = at.bytes + 1; lines = at.lines + 1; column = 0 }) (record { limits = at.limits; bytes = at.bytes + 1; lines = at.lines; column = at.column + 1 })).bytes ≡ at.bytes + 1) [ true ↦ refl | false ↦ refl ]

past_limits : (at : Reach) (b : ℕ) → (past at b).limits ≡ at.limits
past_limits at b = elim (b == 10) as (λ v. (cond {A = Reach} v (record { limits = at.limits; bytes = at.bytes + 1; lines = at.lines + 1; column = 0 }) (record { limits = at.limits; bytes = at.bytes + 1; lines = at.lines; column = at.column + 1 })).limits ≡ at.limits) [ true ↦ refl | false ↦ refl ]

-- no more bytes than may be are taken
pub bytes_bounded : (most : ℕ) (at : Reach) (bytes : List ℕ) → at.limits.bytes ≡ most → at.bytes ≤ most → (reach_from at bytes).bytes ≤ most
bytes_bounded most at [] is le = le
bytes_bounded most at (b ∷ bs) is le =
    elim (passed at b) as (λ o. passed at b ≡ o → (cond {A = Reach} (is_some o) at (reach_from (past at b) bs)).bytes ≤ most) [
      | None ↦ λ none.
          let lt : at.bytes < at.limits.bytes = leb-false at.limits.bytes at.bytes (not_first _ _ _ none) in
          let same : (past at b).limits.bytes ≡ most = ap (λ (l : Limits). l.bytes) (past_limits at b) ∙ is in
          bytes_bounded most (past at b) bs same (omega (arith, past_bytes at b))
      | Some fault ↦ λ h. le
    ] refl
