-- The text of the states in which the run ends.
use Rattle.std.proofs.Common.{◌≡◌, ℕ, ◌≤◌, ℤ, pos, int_eq, Bool, false, if◌then◌else◌, List, [], ◌∷◌, ◌++◌, map, codes, length, refl, ap, ◌∙◌, arith}
use Rattle.std.proofs.lemmas.Fmt.{decimal_digit}
use Rattle.std.proofs.lemmas.Int.{ints}
use Rattle.std.proofs.lemmas.List.{append-nil}
use Rattle.std.specs.Cmp.{int_cmp_total}
use Rattle.std.specs.FinMap.{FinMap, empty, entries, insert, remove, entries-insert, len-empty, len-entries}
use Rattle.std.specs.FinMap.Entries.{put}
use Rattle.std.specs.Fmt.{decimal}
use Rattle.std.specs.List.{flat_map}
use Rattle.std.specs.Ordering.{int_cmp}
use Rattle.pp_kind_memory.specs.Values.{written}
use Rattle.pp_objects.specs.Pieces.{at_key, alone}
use Rattle.pp_text.specs.Texts.{piece_bytes}
use Rattle.pp_cmd_drill.specs.Law.{states_at, Shows}

none_left : {A : Type 0} (l : List A) → length l ≡ 0 → l ≡ []
none_left [] e = refl
none_left (x ∷ l) e = absurd (omega arith)

no_entries : {X : Type 0} → entries (empty {X = X} {R = int_cmp}) ≡ []
no_entries {X} = none_left (entries (empty {X = X} {R = int_cmp})) (let e = len-empty int_cmp X in let f = len-entries (empty {X = X} {R = int_cmp}) in cc)

not_zero : (v : ℕ) → 1 ≤ v → int_eq (pos v) (pos 0) ≡ false
not_zero v h = grind (arith, ints)

one_entry : (v : ℕ) → 1 ≤ v → entries (written empty (pos 0) (pos v)) ≡ (pos 0, pos v) ∷ []
one_entry v h =
    let start : FinMap int_cmp ℤ = empty in
    ap (λ (b : Bool). entries (if b then remove start (pos 0) else insert start (pos 0) (pos v))) (not_zero v h)
    ∙ entries-insert int_cmp_total start (pos 0) (pos v)
    ∙ ap (λ (l : List (ℤ × ℤ)). put int_cmp (pos 0) (pos v) l) no_entries

-- With v at 0 in m, c at x and an empty s, the state lines show v, x and nothing, if v is at least 1.
pub shows_at : (v x : ℕ) → 1 ≤ v → Shows (states_at v x) v x
shows_at v x h =
    record {
      m = ap (λ (l : List (ℤ × ℤ)). codes "state m" ++ flat_map piece_bytes (map at_key l)) (one_entry v h)
          ∙ ap (λ (l : List ℕ). codes "state m" ++ (((codes " " ++ (l ++ codes "=")) ++ decimal v) ++ [])) (decimal_digit 0 (omega arith))
          ∙ append-nil (codes "state m 0=" ++ decimal v);
      c = append-nil (codes "state c " ++ decimal x);
      s = ap (λ (l : List (ℤ × Unit {0})). codes "state s" ++ flat_map piece_bytes (map alone (map (λ e. e.0) l))) no_entries;
    }
