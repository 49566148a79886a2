-- Meaning: the word that a part is hashed by.
use Rattle.std.specs.Prelude.{◌≡◌, ℕ, ◌+◌, ◌*◌, ◌^◌, ◌%◌, true, ◌&&◌, nat_eq}
use Rattle.std.specs.Int.{w64, cast_unsigned}
use Rattle.std.specs.Ordering.{int_eq}
use Rattle.std.specs.Hash as fed
use Rattle.std.proofs.Common.{ap, ◌∙◌}
use Rattle.std.proofs.lemmas.Bool.{and_parts}
use Rattle.std.proofs.lemmas.Bool.Decides.{Decides-eqb, Decides-int_eq}
use Rattle.pp_kind.specs.declared.part.Part.{Part}

-- The key, with the object added at the upper end of the word.
abbrev pub part_word : Part → ℕ
part_word part = (cast_unsigned w64 part.key + part.object * 2 ^ 48) % 2 ^ 64

-- Parts that are equal have one word.
pub parts_alike : (p q : Part) → (nat_eq p.object q.object && int_eq p.key q.key) ≡ true
    → fed.u64 (part_word p) ≡ fed.u64 (part_word q)
parts_alike p q h =
    let both = and_parts (nat_eq p.object q.object) (int_eq p.key q.key) h in
    let object : p.object ≡ q.object = (Decides-eqb p.object q.object).0 both.0 in
    let key : p.key ≡ q.key = (Decides-int_eq p.key q.key).0 both.1 in
    ap (λ n. fed.u64 ((cast_unsigned w64 p.key + n * 2 ^ 48) % 2 ^ 64)) object
    ∙ ap (λ k. fed.u64 ((cast_unsigned w64 k + q.object * 2 ^ 48) % 2 ^ 64)) key
