-- The lines of an input are those of a prefix that ends a line, and then others.
use Rattle.std.specs.Prelude.{◌≡◌, ℕ, ◌+◌, List, [], ◌∷◌, ◌++◌, length, map, Bool, true, false, cond}
use Rattle.std.specs.Prelude.{None, Some}
use Rattle.std.proofs.Common.{refl, sym, ap, ◌∙◌, append_assoc, arith}
use Rattle.std.proofs.lemmas.List.{append-nil, length-map, map-append}
use Rattle.std.specs.Option.{option_or}
use Rattle.pp_input.specs.declared.fault.LineFault.TheVariants.{LineTooLong, OutOfMemory, TooLong}
use Rattle.pp_input.specs.declared.fault.LineFault.TheVariants.{TooManyLines}
use Rattle.pp_input.specs.declared.reach.Reach.{Reach}
use Rattle.pp_input.specs.Limits.{usual_limits}
use Rattle.pp_input.specs.Lines.{ended, ended_behind, ended_lines, numbered, numbered_from, rest}
use Rattle.pp_input.specs.Lines.{unended, without_return}
use Rattle.pp_input.specs.Overruns.{overrun, scanned_lines}
use Rattle.pp_input.specs.Reaches.{overrun_from, passed, past, start}
use Rattle.pp_input.proofs.Overruns.{ended_append, rest_append, start_overrun}
use Rattle.pp_input.proofs.Reading.{overrun_kept, scanned_all}
use Rattle.pp_laws_runs.specs.Prefixes.{EndsLine}

-- ---- limits

-- out of memory is no limit
no_memory_in : (a b c : Bool) (n : ℕ) → cond a (Some (TooLong n)) (cond b (Some (TooManyLines n)) (cond c (Some (LineTooLong n)) None)) ≡ Some OutOfMemory → ⊥
no_memory_in true b c n h = cc
no_memory_in false true c n h = cc
no_memory_in false false true n h = cc
no_memory_in false false false n h = cc

no_memory_from : (at : Reach) (bytes : List ℕ) → overrun_from at bytes ≡ Some OutOfMemory → ⊥
no_memory_from at [] h = cc
no_memory_from at (b ∷ bs) h =
    elim (passed at b) as (λ o. (o ≡ Some OutOfMemory → ⊥) → option_or o (overrun_from (past at b) bs) ≡ Some OutOfMemory → ⊥) [
      | None ↦ λ first k. no_memory_from (past at b) bs k
      | Some fault ↦ λ first k. first k
    ] (no_memory_in _ _ _ (at.lines + 1)) h

-- Out of memory is no limit that an input passes.
pub no_memory : (bytes : List ℕ) → overrun usual_limits bytes ≡ Some OutOfMemory → ⊥
no_memory bytes h = no_memory_from (start usual_limits) bytes (start_overrun usual_limits bytes ∙ h)

-- a prefix passes none that the input does not pass
pub front_within : (front back : List ℕ) → overrun usual_limits (front ++ back) ≡ None → overrun usual_limits front ≡ None
front_within front back none =
    elim (overrun usual_limits front) as (λ o. overrun usual_limits front ≡ o → overrun usual_limits front ≡ None) [
      | None ↦ λ h. h
      | Some fault ↦ λ h. absurd (let e : None ≡ Some fault = sym none ∙ overrun_kept usual_limits front back fault h in cc)
    ] refl

-- ---- lines

nothing_left : (front : List ℕ) → EndsLine front → rest front ≡ []
nothing_left front (before, is) = ap rest is ∙ rest_append [] before (10 ∷ [])

-- each line of such a prefix is a whole line
pub front_lines : (front : List ℕ) → EndsLine front → overrun usual_limits front ≡ None → scanned_lines usual_limits front ≡ ended_lines front
front_lines front ends none =
    scanned_all usual_limits front none ∙ ap (λ (left : List ℕ). numbered (ended front ++ unended left)) (nothing_left front ends)
    ∙ ap numbered (append-nil (ended front))

numbered_append : (n : ℕ) (a b : List (List ℕ)) → numbered_from n (a ++ b) ≡ numbered_from n a ++ numbered_from (n + length a) b
numbered_append n [] b = ap (λ m. numbered_from m b) (let e : n ≡ n + 0 = omega arith in e)
numbered_append n (x ∷ xs) b =
    let e : n + 1 + length xs ≡ n + length (x ∷ xs) = omega arith in
    ap (λ ls. (n, x) ∷ ls) (numbered_append (n + 1) xs b ∙ ap (λ m. numbered_from (n + 1) xs ++ numbered_from m b) e)

-- The other lines are numbered after them.
pub whole_lines : (front back : List ℕ) → overrun usual_limits (front ++ back) ≡ None → (more : List (List ℕ))
    × (scanned_lines usual_limits (front ++ back) ≡ ended_lines front ++ numbered_from (1 + length (ended front)) more)
whole_lines front back none =
    let behind = ended_behind (rest front) back in
    let left = unended (rest (front ++ back)) in
    let more = map without_return (behind ++ left) in
    let lines : ended (front ++ back) ++ left ≡ ended front ++ (behind ++ left) = ap (λ ls. ls ++ left) (ended_append [] front back) ∙ append_assoc (ended front) behind left in (
      more,
      scanned_all usual_limits (front ++ back) none ∙ ap numbered lines ∙ ap (numbered_from 1) (map-append without_return (ended front) (behind ++ left))
          ∙ numbered_append 1 (map without_return (ended front)) more
          ∙ ap (λ (n : ℕ). ended_lines front ++ numbered_from (1 + n) more) (length-map (ended front) without_return),
    )
