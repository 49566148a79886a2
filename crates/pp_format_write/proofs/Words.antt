-- Words, and the bytes of what is written of them.
use Rattle.std.proofs.Common.{◌≡◌, ◌<◌, ◌≤◌, ℕ, List, [], ◌∷◌, ◌++◌, true, IsTrue}
use Rattle.std.proofs.Common.{nat_lt, refl, arith, IsUtf8, lt-ltb}
use Rattle.std.proofs.lemmas.Bool.{and_parts, and_from}
use Rattle.std.proofs.lemmas.Bool.Decides.{nat_tests}
use Rattle.std.specs.List.{list_all}
use Rattle.json.specs.Print.{escape, quoted}
use Rattle.json.proofs.Printed.Strings.{escape_byte_plain}
use Rattle.json.proofs.Printed.Utf8.{are_ascii, IsUtf8-are_ascii}
use Rattle.pp_core.specs.Names.{IsName, is_name_byte}
use Rattle.pp_format_write.specs.Lines.{IsOneLine}

-- Each byte may be in a name.
abbrev pub IsWord : List ℕ → Type 0
IsWord s = IsTrue (list_all is_name_byte s)

-- Each byte is ASCII, and none is a control byte.
abbrev pub IsClean : List ℕ → Type 0
IsClean [] = Unit {0}
IsClean (b ∷ bs) = (32 ≤ b) × (b < 128) × IsClean bs

-- If two lists have only ASCII bytes and no control byte, so has the first followed by the second.
pub clean_append : (xs ys : List ℕ) → IsClean xs → IsClean ys → IsClean (xs ++ ys)
clean_append [] ys h k = k
clean_append (x ∷ xs) ys h k = (h.0, h.1, clean_append xs ys h.2 k)

-- A list of ASCII bytes without a control byte has no byte below 32.
pub one_line : (xs : List ℕ) → IsClean xs → IsOneLine xs
one_line [] h = tt
one_line (x ∷ xs) h = (h.0, one_line xs h.2)

ascii : (xs : List ℕ) → IsClean xs → are_ascii xs ≡ true
ascii [] h = refl
ascii (x ∷ xs) h = and_from (nat_lt x 128) (are_ascii xs) (lt-ltb x 128 h.1) (ascii xs h.2)

-- A list of ASCII bytes without a control byte is UTF-8.
pub utf8 : (xs : List ℕ) → IsClean xs → IsUtf8 xs
utf8 xs h = IsUtf8-are_ascii xs (ascii xs h)

-- a byte of a name
low : (b : ℕ) → is_name_byte b ≡ true → 32 ≤ b
low b h = grind (arith, nat_tests)

high : (b : ℕ) → is_name_byte b ≡ true → b < 128
high b h = grind (arith, nat_tests)

no_quote : (b : ℕ) → is_name_byte b ≡ true → b ≡ 34 → ⊥
no_quote b h e = grind (arith, nat_tests)

no_backslash : (b : ℕ) → is_name_byte b ≡ true → b ≡ 92 → ⊥
no_backslash b h e = grind (arith, nat_tests)

-- a word is written as it is
pub escape_word : (s : List ℕ) → IsWord s → escape s ≡ s
escape_word [] h = refl
escape_word (b ∷ bs) h =
    let parts = and_parts (is_name_byte b) (list_all is_name_byte bs) h in
    rw (escape_byte_plain b (no_quote b parts.0) (no_backslash b parts.0) (low b parts.0), escape_word bs parts.1) refl

-- A word has only ASCII bytes and no control byte.
pub clean_word : (s : List ℕ) → IsWord s → IsClean s
clean_word [] h = tt
clean_word (b ∷ bs) h =
    let parts = and_parts (is_name_byte b) (list_all is_name_byte bs) h in
    (low b parts.0, high b parts.0, clean_word bs parts.1)

-- A quoted word has only ASCII bytes and no control byte.
pub clean_quoted : (s : List ℕ) → IsWord s → IsClean (quoted s)
clean_quoted s h = rw (escape_word s h) (omega arith, omega arith, clean_append s (34 ∷ []) (clean_word s h) (omega arith, omega arith, tt))

-- A name is UTF-8.
pub name_utf8 : (s : List ℕ) → IsName s → IsUtf8 s
name_utf8 s h = utf8 s (clean_word s h.bytes)
