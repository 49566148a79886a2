-- Numbers and lists of numbers can be read back from their texts.
use Rattle.std.proofs.Common.{◌≡◌, ◌<◌, ℕ, zero, suc, ◌/◌, ◌%◌, ◌^◌, ◌==◌, ◌||◌, ◌&&◌, Bool, true, false}
use Rattle.std.proofs.Common.{cond, nat_le, int_le, ℤ, pos, negsuc, IsTrue, List, [], ◌∷◌, ◌++◌, decimal}
use Rattle.std.proofs.Common.{length, refl, sym, ap, arith}
use Rattle.std.specs.Int.Signed.{mag}
use Rattle.std.proofs.lemmas.Bool.Decides.{nat_tests}
use Rattle.std.proofs.lemmas.Fmt.{decimal_nonempty, signed_decimal_injective}
use Rattle.std.specs.Fmt.{digits, digits_onto, digit_glyph, signed_decimal}
use Rattle.pp_model.specs.Lists.{Each}
use Rattle.pp_kind.specs.Numbers.{in_range}
use Rattle.pp_text.specs.Texts.{arguments_bytes, more_bytes}
use Rattle.pp_laws_reports.proofs.Splits.{Only, Stops, only_append, only_weaker, split}
use Rattle.std.proofs.lemmas.Bool.{and_parts}

-- a digit, or a byte of a number with its sign
abbrev pub is_digit : ℕ → Bool
is_digit b = nat_le 48 b && nat_le b 57

-- whether a byte is a decimal digit or a minus sign
abbrev pub is_number_byte : ℕ → Bool
is_number_byte b = is_digit b || b == 45

glyph_is : (d : ℕ) → d < 10 → is_digit (digit_glyph false d) ≡ true
glyph_is d small = grind (arith, nat_tests)

onto_only : (k n : ℕ) (acc : List ℕ) → Only is_digit acc → Only is_digit (digits_onto k 10 false n acc)
onto_only zero n acc h = h
onto_only (suc k) n acc h =
    let d = digit_glyph false (n % 10) in
    let more : Only is_digit (d ∷ acc) = (glyph_is (n % 10) (omega arith), h) in
    either (n / 10 == 0) (d ∷ acc) (digits_onto k 10 false (n / 10) (d ∷ acc)) more (onto_only k (n / 10) (d ∷ acc) more)
  where
    either : (b : Bool) (xs ys : List ℕ) → Only is_digit xs → Only is_digit ys → Only is_digit (cond b xs ys)
    either true xs ys p q = p
    either false xs ys p q = q

-- the decimal text of a number has only digits
pub decimal_only : (n : ℕ) → Only is_digit (decimal n)
unfolding digits
decimal_only n = onto_only 64 n [] tt

digit_in_number : (b : ℕ) → is_digit b ≡ true → is_number_byte b ≡ true
digit_in_number b h = ap (λ t. t || b == 45) h

-- The decimal text of a whole number has only digits and a sign.
pub signed_only : (z : ℤ) → Only is_number_byte (signed_decimal z)
signed_only (pos n) = only_weaker is_digit is_number_byte digit_in_number (decimal n) (decimal_only n)
signed_only (negsuc n) = (refl, only_weaker is_digit is_number_byte digit_in_number (decimal (suc n)) (decimal_only (suc n)))

-- ---- numbers in the range of records

abbrev least : ℤ
least = negsuc 999_999_999_999_999_999

abbrev most : ℤ
most = pos 1_000_000_000_000_000_000

-- A number in the range of records has a magnitude below 2 to the power of 63.
pub range_mag : (z : ℤ) → IsTrue (in_range z) → mag z < 2 ^ 63
range_mag (pos n) h =
    let ends = and_parts (int_le least (pos n)) (int_le (pos n) most) h in
    let le : nat_le n 1_000_000_000_000_000_000 ≡ true = ends.1 in
    grind (arith, nat_tests)
range_mag (negsuc n) h =
    let ends = and_parts (int_le least (negsuc n)) (int_le (negsuc n) most) h in
    let le : nat_le n 999_999_999_999_999_999 ≡ true = ends.0 in
    grind (arith, nat_tests)

-- Numbers in the range of records with the same decimal text are equal.
pub same_number : (y z : ℤ) → IsTrue (in_range y) → IsTrue (in_range z) → signed_decimal y ≡ signed_decimal z → y ≡ z
same_number y z h k e = signed_decimal_injective y z (range_mag y h) (range_mag z k) e

-- ---- lists of numbers

-- the number is in the range of the numbers of a run
abbrev pub InRange : ℤ → Type 0
InRange z = IsTrue (in_range z)

more_stops : (ns : List ℤ) → Stops is_number_byte (more_bytes ns)
more_stops [] = tt
more_stops (n ∷ ns) = refl

same_more : (xs ys : List ℤ) → Each InRange xs → Each InRange ys → more_bytes xs ≡ more_bytes ys → xs ≡ ys
same_more [] [] h k e = refl
same_more [] (y ∷ ys) h k e = absurd (cc)
same_more (x ∷ xs) [] h k e = absurd (cc)
same_more (x ∷ xs) (y ∷ ys) h k e =
    let bare : signed_decimal x ++ more_bytes xs ≡ signed_decimal y ++ more_bytes ys = cc in
    let two = split is_number_byte (signed_decimal x) (signed_decimal y) (more_bytes xs) (more_bytes ys) (signed_only x) (signed_only y) (more_stops xs) (more_stops ys) bare in
    let head : x ≡ y = same_number x y h.0 k.0 two.0 in
    let rest : xs ≡ ys = same_more xs ys h.1 k.1 two.1 in
    cc

no_text : {A : Type 0} (x rest : List ℕ) → 0 < length x → [] ≡ x ++ rest → A
no_text [] rest h e = absurd (omega arith)
no_text (b ∷ x) rest h e = absurd (cc)

-- the text of a number is not empty
some_text : {A : Type 0} (z : ℤ) (rest : List ℕ) → InRange z → [] ≡ signed_decimal z ++ rest → A
some_text (pos n) rest h e = no_text (decimal n) rest (decimal_nonempty n (omega (arith, range_mag (pos n) h))) e
some_text (negsuc n) rest h e = absurd (cc)

-- two lists of numbers with the same text are equal
pub same_arguments : (xs ys : List ℤ) → Each InRange xs → Each InRange ys → arguments_bytes xs ≡ arguments_bytes ys → xs ≡ ys
same_arguments [] [] h k e = refl
same_arguments [] (y ∷ ys) h k e = some_text y (more_bytes ys) k.0 e
same_arguments (x ∷ xs) [] h k e = some_text x (more_bytes xs) h.0 (sym e)
same_arguments (x ∷ xs) (y ∷ ys) h k e =
    let two = split is_number_byte (signed_decimal x) (signed_decimal y) (more_bytes xs) (more_bytes ys) (signed_only x) (signed_only y) (more_stops xs) (more_stops ys) e in
    let head : x ≡ y = same_number x y h.0 k.0 two.0 in
    let rest : xs ≡ ys = same_more xs ys h.1 k.1 two.1 in
    cc

-- a byte of a number or a comma
abbrev pub is_arguments_byte : ℕ → Bool
is_arguments_byte b = is_number_byte b || b == 44

number_in_arguments : (b : ℕ) → is_number_byte b ≡ true → is_arguments_byte b ≡ true
number_in_arguments b h = ap (λ t. t || b == 44) h

signed_in : (z : ℤ) → Only is_arguments_byte (signed_decimal z)
signed_in z = only_weaker is_number_byte is_arguments_byte number_in_arguments (signed_decimal z) (signed_only z)

more_only : (ns : List ℤ) → Only is_arguments_byte (more_bytes ns)
more_only [] = tt
more_only (n ∷ ns) = (refl, only_append is_arguments_byte (signed_decimal n) (more_bytes ns) (signed_in n) (more_only ns))

-- The text of a list of numbers has only digits, signs and commas.
pub arguments_only : (ns : List ℤ) → Only is_arguments_byte (arguments_bytes ns)
arguments_only [] = tt
arguments_only (n ∷ ns) = only_append is_arguments_byte (signed_decimal n) (more_bytes ns) (signed_in n) (more_only ns)
