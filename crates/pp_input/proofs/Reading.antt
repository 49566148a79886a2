-- Feeding pieces and taking lines hands out the lines of the whole input, in order.
use Rattle.std.proofs.Common.{◌≡◌, ◌≤◌, ℕ, suc, ◌+◌, ◌-◌, List, [], ◌∷◌, ◌++◌, length, map, Some}
use Rattle.std.proofs.Common.{None, refl, ap, sym, ◌∙◌, subst, append_assoc, arith}
use Rattle.std.proofs.lemmas.List.{append-nil, length-append, length-map, map-append}
use Rattle.std.proofs.Math.Seq.{take-append_seam}
use Rattle.pp_input.specs.declared.limits.Limits.{Limits}
use Rattle.pp_input.specs.declared.reach.Reach.{Reach}
use Rattle.pp_input.specs.declared.fault.LineFault.{LineFault}
use Rattle.pp_input.specs.Lines.{ended, rest, ended_behind, unended, without_return, numbered_from}
use Rattle.pp_input.specs.Lines.{numbered, ended_lines, numbered_lines}
use Rattle.pp_input.specs.Reaches.{overrun_from, within_from, reach_from, start}
use Rattle.pp_input.specs.Overruns.{reach_of, overrun, within, line_of, lines_before, scanned_lines}
use Rattle.pp_input.specs.Overruns.{early_lines}
use Rattle.pp_input.specs.Held.{Held, fed, finished, next_line, after_next, first_of}
use Rattle.pp_input.specs.Held.{after_first}
use Rattle.pp_input.specs.Taken.{Hands, Took}
use Rattle.pp_input.proofs.Overruns.{ended_append, rest_append, overrun_stays, within_stays}
use Rattle.pp_input.proofs.Overruns.{within_front, line_is, reach_is, start_overrun, start_reach}
use Rattle.pp_input.proofs.Overruns.{within_all, bytes_bounded, within_more, overrun_more}

-- ---- numbers

numbered_append : (n : ℕ) (a b : List (List ℕ)) → numbered_from n (a ++ b) ≡ numbered_from n a ++ numbered_from (n + length a) b
numbered_append n [] b = ap (λ m. numbered_from m b) (let e : n ≡ n + 0 = omega arith in e)
numbered_append n (x ∷ xs) b =
    let e : n + 1 + length xs ≡ n + length (x ∷ xs) = omega arith in
    ap (λ ls. (n, x) ∷ ls) (numbered_append (n + 1) xs b ∙ ap (λ m. numbered_from (n + 1) xs ++ numbered_from m b) e)

length_numbered : (n : ℕ) (a : List (List ℕ)) → length (numbered_from n a) ≡ length a
length_numbered n [] = refl
length_numbered n (x ∷ xs) = ap suc (length_numbered (n + 1) xs)

-- the first lines, and then others
numbered_front : (lines more : List (List ℕ)) → numbered (lines ++ more) ≡ numbered lines ++ numbered_from (1 + length (map without_return lines)) (map without_return more)
numbered_front lines more = ap (numbered_from 1) (map-append without_return lines more) ∙ numbered_append 1 (map without_return lines) (map without_return more)

-- ---- the lines before a fault's line

-- the bytes that pass no limit end the lines before that of the byte that passes one
ended_front : (L : Limits) (bytes : List ℕ) → (more : List (List ℕ)) × (ended bytes ≡ ended (within L bytes) ++ more)
ended_front L bytes =
    let front = within_front (start L) bytes in
    (ended_behind (rest (within L bytes)) front.0, ap ended front.1 ∙ ended_append [] (within L bytes) front.0)

fault_line : (L : Limits) (bytes : List ℕ) (fault : LineFault) → overrun L bytes ≡ Some fault → line_of fault - 1 ≡ length (ended_lines (within L bytes))
fault_line L bytes fault h =
    let line : line_of fault ≡ (reach_from (start L) bytes).lines + 1 = line_is (start L) bytes fault (start_overrun L bytes ∙ h) in
    let lines : (reach_from (start L) bytes).lines ≡ length (ended (within L bytes)) = ap (λ (at : Reach). at.lines) (start_reach L bytes) in
    let count : length (ended_lines (within L bytes)) ≡ length (ended (within L bytes)) = length_numbered 1 (map without_return (ended (within L bytes))) ∙ length-map (ended (within L bytes)) without_return in
    omega (arith, line, lines, count)

before_fault : (L : Limits) (bytes : List ℕ) (fault : LineFault) (more : List (List ℕ)) → overrun L bytes ≡ Some fault → lines_before (overrun L bytes) (numbered (ended bytes ++ more)) ≡ ended_lines (within L bytes)
before_fault L bytes fault more h =
    let front = ended_front L bytes in
    let all : numbered (ended bytes ++ more) ≡ ended_lines (within L bytes) ++ numbered_from (1 + length (map without_return (ended (within L bytes)))) (map without_return (front.0 ++ more))
    = ap (λ ls. numbered (ls ++ more)) front.1 ∙ ap numbered (append_assoc (ended (within L bytes)) front.0 more) ∙ numbered_front (ended (within L bytes)) (front.0 ++ more) in
    rw (h, all, fault_line L bytes fault h) (take-append_seam (ended_lines (within L bytes)) _)

-- if a limit is passed, the lines before that line are what ended before that byte
pub scanned_at_fault : (L : Limits) (bytes : List ℕ) (fault : LineFault) → overrun L bytes ≡ Some fault → scanned_lines L bytes ≡ ended_lines (within L bytes)
scanned_at_fault L bytes fault h = before_fault L bytes fault (unended (rest bytes)) h

early_at_fault : (L : Limits) (bytes : List ℕ) (fault : LineFault) → overrun L bytes ≡ Some fault → early_lines L bytes ≡ ended_lines (within L bytes)
early_at_fault L bytes fault h = ap (λ ls. lines_before (overrun L bytes) (numbered ls)) (sym (append-nil (ended bytes))) ∙ before_fault L bytes fault [] h

-- if none is passed, all lines are examined
pub scanned_all : (L : Limits) (bytes : List ℕ) → overrun L bytes ≡ None → scanned_lines L bytes ≡ numbered_lines bytes
scanned_all L bytes none = ap (λ o. lines_before o (numbered_lines bytes)) none

-- The lines that no further byte can change are those ended before the byte that passes a limit.
pub early_is : (L : Limits) (bytes : List ℕ) → early_lines L bytes ≡ ended_lines (within L bytes)
early_is L bytes =
    elim (overrun L bytes) as (λ o. overrun L bytes ≡ o → early_lines L bytes ≡ ended_lines (within L bytes)) [
      | None ↦ λ h. ap (λ o. lines_before o (ended_lines bytes)) h ∙ ap ended_lines (sym (within_all L bytes h))
      | Some fault ↦ λ h. early_at_fault L bytes fault h
    ] refl

-- a limit that was passed stays passed, and the lines before it stay the same
pub overrun_kept : (L : Limits) (bytes left : List ℕ) (fault : LineFault) → overrun L bytes ≡ Some fault → overrun L (bytes ++ left) ≡ Some fault
overrun_kept L bytes left fault h = overrun_stays L [] bytes left fault h

-- If an input passes a limit, with more bytes the lines that are examined are those that no byte could change.
pub scanned_kept : (L : Limits) (bytes left : List ℕ) (fault : LineFault) → overrun L bytes ≡ Some fault → scanned_lines L (bytes ++ left) ≡ early_lines L bytes
scanned_kept L bytes left fault h =
    scanned_at_fault L (bytes ++ left) fault (overrun_kept L bytes left fault h) ∙ ap ended_lines (within_stays (start L) bytes left fault (start_overrun L bytes ∙ h)) ∙ sym (early_is L bytes)

-- ---- one line or one piece further

-- more lines are held
hands_more : (lines more : List (List ℕ)) (out : List (ℕ × List ℕ)) (old new : Held) → Hands (numbered lines) out old → new.handed ≡ old.handed → new.whole ≡ old.whole ++ map without_return more → Hands (numbered (lines ++ more)) out new
hands_more lines more out old new is handed whole =
    let rest_of = map without_return more in
    let count : length out + length (numbered_from (old.handed + 1) old.whole) ≡ length (numbered lines) = sym (length-append out _) ∙ ap length is.order in
    let number : old.handed + 1 + length old.whole ≡ 1 + length (map without_return lines) = omega (arith, count, is.handed, length_numbered (old.handed + 1) old.whole, length_numbered 1 (map without_return lines)) in
    record {
      handed = handed ∙ is.handed;
      order = rw (handed, whole, numbered_append (old.handed + 1) old.whole rest_of, numbered_front lines more, ← append_assoc out (numbered_from (old.handed + 1) old.whole) (numbered_from (old.handed + 1 + length old.whole) rest_of), is.order, number) refl;
    }

hands_first : (lines out : List (ℕ × List ℕ)) (line : ℕ × List ℕ) (held : Held) (whole : List (List ℕ)) → held.handed ≡ length out → out ++ numbered_from (held.handed + 1) whole ≡ lines → first_of held.handed whole ≡ Some line → Hands lines (out ++ line ∷ []) (after_first held whole)
hands_first lines out line held [] handed all h = absurd (cc)
hands_first lines out line held (x ∷ xs) handed all h =
    let first : (held.handed + 1, x) ≡ line = cc in
    record {
      handed = omega (arith, handed, length-append out (line ∷ []));
      order = append_assoc out (line ∷ []) (numbered_from (held.handed + 1 + 1) xs) ∙ ap (λ l. out ++ l ∷ numbered_from (held.handed + 1 + 1) xs) (sym first) ∙ all;
    }

-- the next line is handed out
pub hands_next : (lines out : List (ℕ × List ℕ)) (line : ℕ × List ℕ) (held : Held) → Hands lines out held → next_line held ≡ Some line → Hands lines (out ++ line ∷ []) (after_next held)
hands_next lines out line held is h = hands_first lines out line held held.whole is.handed is.order h

all_handed : (lines out : List (ℕ × List ℕ)) (handed : ℕ) (whole : List (List ℕ)) → out ++ numbered_from (handed + 1) whole ≡ lines → first_of handed whole ≡ None → out ≡ lines
all_handed lines out handed [] all h = sym (append-nil out) ∙ all
all_handed lines out handed (x ∷ xs) all h = absurd (cc)

-- no line is left
pub hands_all : (lines out : List (ℕ × List ℕ)) (held : Held) → Hands lines out held → next_line held ≡ None → out ≡ lines
hands_all lines out held is h = all_handed lines out held.handed held.whole is.order h

-- a piece is fed
pub took_fed : (L : Limits) (bytes piece : List ℕ) (out : List (ℕ × List ℕ)) (held : Held) → Took L bytes out held → held.fault ≡ None → Took L (bytes ++ piece) out (fed held piece)
took_fed L bytes piece out held is sound =
    let none : overrun L bytes ≡ None = sym is.fault ∙ sound in
    let all : within L bytes ≡ bytes = within_all L bytes none in
    let reach : held.reach ≡ reach_of L bytes = is.reach ∙ ap (reach_of L) all in
    let tail : held.rest ≡ rest bytes = is.rest ∙ ap rest all in
    let front = within_from (reach_of L bytes) piece in
    let more : within L (bytes ++ piece) ≡ bytes ++ front = within_more L bytes piece none in
    let lines : early_lines L bytes ≡ ended_lines bytes = early_is L bytes ∙ ap ended_lines all in
    let new_lines : early_lines L (bytes ++ piece) ≡ numbered (ended bytes ++ ended_behind (rest bytes) front) = early_is L (bytes ++ piece) ∙ ap ended_lines more ∙ ap numbered (ended_append [] bytes front) in
    let hands : Hands (ended_lines bytes) out held = subst (λ ls. Hands ls out held) lines is.hands in
    let whole : (fed held piece).whole ≡ held.whole ++ map without_return (ended_behind (rest bytes) front) = rw (tail, reach) refl in
    record {
      hands = subst (λ ls. Hands ls out (fed held piece)) (sym new_lines) (hands_more (ended bytes) (ended_behind (rest bytes) front) out held (fed held piece) hands refl whole);
      rest = rw (tail, reach, more) (sym (rest_append [] bytes front));
      reach = rw (reach, more) (reach_is L bytes piece);
      fault = rw reach (overrun_more L bytes piece none);
      unclosed = is.unclosed;
    }

-- the input is at its end
pub hands_finished : (L : Limits) (bytes : List ℕ) (out : List (ℕ × List ℕ)) (held : Held) → Took L bytes out held → held.fault ≡ None → Hands (scanned_lines L bytes) out (finished held)
hands_finished L bytes out held is sound =
    let none : overrun L bytes ≡ None = sym is.fault ∙ sound in
    let all : within L bytes ≡ bytes = within_all L bytes none in
    let lines : early_lines L bytes ≡ ended_lines bytes = early_is L bytes ∙ ap ended_lines all in
    let hands : Hands (ended_lines bytes) out held = subst (λ ls. Hands ls out held) lines is.hands in
    let whole : (finished held).whole ≡ held.whole ++ map without_return (unended (rest bytes)) = rw (is.rest, all) refl in
    subst (λ ls. Hands ls out (finished held)) (sym (scanned_all L bytes none)) (hands_more (ended bytes) (unended (rest bytes)) out held (finished held) hands refl whole)

-- a limit that the next piece passes is one that the whole input passes
pub took_overrun : (L : Limits) (bytes piece : List ℕ) (out : List (ℕ × List ℕ)) (held : Held) → Took L bytes out held → held.fault ≡ None → overrun_from held.reach piece ≡ overrun L (bytes ++ piece)
took_overrun L bytes piece out held is sound =
    let none : overrun L bytes ≡ None = sym is.fault ∙ sound in
    ap (λ at. overrun_from at piece) (is.reach ∙ ap (reach_of L) (within_all L bytes none)) ∙ overrun_more L bytes piece none

-- a bound on how far an input comes
pub took_bytes : (L : Limits) (bytes : List ℕ) (out : List (ℕ × List ℕ)) (held : Held) → Took L bytes out held → held.reach.bytes ≤ L.bytes
took_bytes L bytes out held is = subst (λ (at : Reach). at.bytes ≤ L.bytes) (start_reach L bytes ∙ sym is.reach) (bytes_bounded L.bytes (start L) bytes refl (omega arith))

-- the lines that are examined begin with those that the first pieces end
pub scanned_front : (L : Limits) (bytes left : List ℕ) → (more : List (ℕ × List ℕ)) × (scanned_lines L (bytes ++ left) ≡ early_lines L bytes ++ more)
scanned_front L bytes left =
    elim (overrun L bytes) as (λ o. overrun L bytes ≡ o → (more : List (ℕ × List ℕ)) × (scanned_lines L (bytes ++ left) ≡ early_lines L bytes ++ more)) [
      | Some fault ↦ λ h. ([], scanned_kept L bytes left fault h ∙ sym (append-nil (early_lines L bytes)))
      | None ↦ λ none.
          let early : early_lines L bytes ≡ ended_lines bytes = early_is L bytes ∙ ap ended_lines (within_all L bytes none) in
          let number = 1 + length (map without_return (ended bytes)) in
          let ends : ended (bytes ++ left) ≡ ended bytes ++ ended_behind (rest bytes) left = ended_append [] bytes left in
          elim (overrun L (bytes ++ left)) as (λ o. overrun L (bytes ++ left) ≡ o → (more : List (ℕ × List ℕ)) × (scanned_lines L (bytes ++ left) ≡ early_lines L bytes ++ more)) [
            | None ↦ λ h.
                let lines = ended_behind (rest bytes) left ++ unended (rest (bytes ++ left)) in (
                  numbered_from number (map without_return lines),
                  scanned_all L (bytes ++ left) h ∙ ap (λ ls. numbered (ls ++ unended (rest (bytes ++ left)))) ends ∙ ap numbered (append_assoc (ended bytes) (ended_behind (rest bytes) left) (unended (rest (bytes ++ left)))) ∙ numbered_front (ended bytes) lines ∙ ap (λ ls. ls ++ numbered_from number (map without_return lines)) (sym early),
                )
            | Some fault ↦ λ h.
                let front = within_from (reach_of L bytes) left in
                let lines = ended_behind (rest bytes) front in (
                  numbered_from number (map without_return lines),
                  scanned_at_fault L (bytes ++ left) fault h ∙ ap ended_lines (within_more L bytes left none) ∙ ap numbered (ended_append [] bytes front) ∙ numbered_front (ended bytes) lines ∙ ap (λ ls. ls ++ numbered_from number (map without_return lines)) (sym early),
                )
          ] refl
    ] refl

-- and the next line is the next of them
pub hands_front : (lines out : List (ℕ × List ℕ)) (line : ℕ × List ℕ) (held : Held) → Hands lines out held → next_line held ≡ Some line → (more : List (ℕ × List ℕ)) × (lines ≡ out ++ line ∷ more)
hands_front lines out line held is h =
    let next = hands_next lines out line held is h in
    let more = numbered_from ((after_next held).handed + 1) (after_next held).whole in
    (more, sym next.order ∙ append_assoc out (line ∷ []) more)

-- ---- the same, for what is held after a call

-- Without a fault, after a further piece was fed, the same lines are handed out of the longer input.
pub took_after : (L : Limits) (bytes piece : List ℕ) (out : List (ℕ × List ℕ)) (old new : Held) → Took L bytes out old → old.fault ≡ None → new ≡ fed old piece → Took L (bytes ++ piece) out new
took_after L bytes piece out old new is sound after = subst (λ held. Took L (bytes ++ piece) out held) (sym after) (took_fed L bytes piece out old is sound)

-- Without a fault, after the end of the input the lines handed out and those that are held are all.
pub hands_after : (L : Limits) (bytes : List ℕ) (out : List (ℕ × List ℕ)) (old new : Held) → Took L bytes out old → old.fault ≡ None → new ≡ finished old → Hands (numbered_lines bytes) out new
hands_after L bytes out old new is sound after =
    let hands : Hands (numbered_lines bytes) out (finished old) = subst (λ ls. Hands ls out (finished old)) (scanned_all L bytes (sym is.fault ∙ sound)) (hands_finished L bytes out old is sound) in
    subst (λ held. Hands (numbered_lines bytes) out held) (sym after) hands
