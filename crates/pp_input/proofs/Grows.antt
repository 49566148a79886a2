-- The invariant of the fields of `Lines`, as bytes are taken.
use Rattle.std.proofs.Common.{◌≡◌, ◌≤◌, ℕ, ◌+◌, List, [], ◌∷◌, ◌++◌, ◌==◌, length, map, Bool}
use Rattle.std.proofs.Common.{true, false, is_some, Option, refl, ap, ◌∙◌, arith}
use Rattle.std.proofs.lemmas.List.{length-append, length-map}
use Rattle.pp_input.specs.declared.reach.Reach.{Reach}
use Rattle.pp_input.specs.Lines.{ended_behind, rest_behind, without_return}
use Rattle.pp_input.specs.Reaches.{passed, past, within_from, reach_from, IsReach}
use Rattle.pp_input.specs.Counted.{IsCounted}

-- each line that ends is counted
pub lines_counted : (at : Reach) (front bytes : List ℕ) → (reach_from at bytes).lines ≡ at.lines + length (ended_behind front (within_from at bytes))
lines_counted at front [] = omega arith
lines_counted at front (b ∷ bs) =
    elim (is_some (passed at b)) as (λ v. is_some (passed at b) ≡ v → (reach_from at (b ∷ bs)).lines ≡ at.lines + length (ended_behind front (within_from at (b ∷ bs)))) [
      | true ↦ λ e. rw e (omega arith)
      | false ↦ λ e. rw e (
          elim (b == 10) as (λ v. (b == 10) ≡ v → (reach_from (past at b) bs).lines ≡ at.lines + length (ended_behind front (b ∷ within_from (past at b) bs))) [
            | true ↦ λ t. rw t (omega (arith, lines_counted (record { limits = at.limits; bytes = at.bytes + 1; lines = at.lines + 1; column = 0 }) [] bs))
            | false ↦ λ t. rw t (lines_counted (record { limits = at.limits; bytes = at.bytes + 1; lines = at.lines; column = at.column + 1 }) (front ++ b ∷ []) bs)
          ] refl)
    ] refl

-- The column counts each byte after the last line end.
pub column_counted : (at : Reach) (front bytes : List ℕ) → length front ≤ at.column → length (rest_behind front (within_from at bytes)) ≤ (reach_from at bytes).column
column_counted at front [] le = le
column_counted at front (b ∷ bs) le =
    elim (is_some (passed at b)) as (λ v. is_some (passed at b) ≡ v → length (rest_behind front (within_from at (b ∷ bs))) ≤ (reach_from at (b ∷ bs)).column) [
      | true ↦ λ e. rw e le
      | false ↦ λ e. rw e (
          elim (b == 10) as (λ v. (b == 10) ≡ v → length (rest_behind front (b ∷ within_from (past at b) bs)) ≤ (reach_from (past at b) bs).column) [
            | true ↦ λ t. rw t (column_counted (record { limits = at.limits; bytes = at.bytes + 1; lines = at.lines + 1; column = 0 }) [] bs (omega arith))
            | false ↦ λ t. rw t (column_counted (record { limits = at.limits; bytes = at.bytes + 1; lines = at.lines; column = at.column + 1 }) (front ++ b ∷ []) bs (omega (arith, length-append front (b ∷ []))))
          ] refl)
    ] refl

-- The counts after a piece was cut into lines.
pub counted_fed : (at : Reach) (rest piece bytes : List ℕ) (old new : List (List ℕ)) (tail : List ℕ) (last : Option (List ℕ)) (handed : ℕ) (closed : Bool)
    → IsCounted old last rest handed at closed → closed ≡ false → bytes ≡ within_from at piece → IsReach (reach_from at piece)
    → new ≡ old ++ map without_return (ended_behind rest bytes) → tail ≡ rest_behind rest bytes
    → IsCounted new last tail handed (reach_from at piece) closed
counted_fed at rest piece bytes old new tail last handed closed is open_yet within reached added left =
    let first = is.ahead open_yet in
    let more : length new ≡ length old + length (ended_behind rest (within_from at piece)) = ap length added ∙ length-append old _ ∙ rw (length-map, within) refl in
    let le : handed + length new ≤ (reach_from at piece).lines = omega (arith, more, lines_counted at rest piece, first.0) in
    record {
      reached = reached;
      column = rw (left, within) (column_counted at rest piece is.column);
      ahead = λ e. (le, first.1);
      room = rw first.1 (omega (arith, le, reached.0));
    }
