-- The text of a value whose texts are words, whose numbers are whole, and whose members are in
-- order: it is one line, and it is read back as the value.
use Rattle.std.proofs.Common.{◌≡◌, ◌≤◌, ◌<◌, ◌+◌, ◌/◌, ◌%◌, ◌==◌, ◌&&◌, ℕ, zero, suc, pos, negsuc, List, [], ◌∷◌, ◌++◌}
use Rattle.std.proofs.Common.{Bool, true, false, cond, IsTrue, length, codes, Option, Some, Ok, option_map, option_and_then, decimal, refl, sym, ap, ◌∙◌, arith, append-nil, length-append}
use Rattle.std.proofs.lemmas.Bool.{and_parts}
use Rattle.std.proofs.lemmas.Bool.Decides.{nat_tests}
use Rattle.std.proofs.lemmas.Fmt.{length-decimal-le}
use Rattle.std.specs.Fmt.{digits, digits_onto, digit_glyph}
use Rattle.std.specs.Ordering.{nat_cmp, match_ordering}
use Rattle.std.specs.declared.cmp.Ordering.{Ordering}
use Rattle.std.specs.declared.cmp.Ordering.TheVariants.{Less, Equal, Greater}
use Rattle.std.specs.Cmp.Lexicographic.{slice_cmp}
use Rattle.json.specs.Lex.{tokens}
use Rattle.json.specs.Token.{Token}
use Rattle.json.specs.Print.{quoted, IsNumber}
use Rattle.json.specs.Json as json
use Rattle.json.specs.Tree as tree
use Rattle.json.proofs.Printed.Decimals.{IsNumber-decimal, IsNumber-signed_decimal}
use Rattle.json.proofs.Printed.Tokens.{tokens-print}
use Rattle.json.proofs.Printed.Trees.{value-json_tokens, ArePrintable-json_tokens}
use Rattle.serde_json.specs.Data.{Num, unsigned, negative, float, Data, null, boolean, number, string, array, object, Items, no_items, item, Members, no_members, member, put, depth, items_depth, members_depth}
use Rattle.serde_json.specs.Read.{read, max_depth, number_of, of_json, of_items, of_members}
use Rattle.serde_json.specs.Written.{number_text, comma_if, outline, items_outline, members_outline, compact_text, items_text, members_text, has_float, items_have_float, members_have_float}
use Rattle.serde_json.proofs.Numbers.{number_of-decimal, number_of-negative}
use Rattle.serde_json.proofs.Texts.{print-outline}
use Rattle.pp_format_read.specs.Members.{value_of}
use Rattle.pp_format_read.proofs.Values.{value_is}
use Rattle.pp_format_write.specs.Lines.{IsOneLine}
use Rattle.pp_format_write.proofs.Words.{IsWord, IsClean, clean_append, clean_word, clean_quoted, escape_word, one_line, utf8}

-- the key is before each of these
abbrev pub is_before : List ℕ → Members → Bool
is_before k no_members = true
is_before k (member l d ms) = match_ordering (slice_cmp nat_cmp l k) false false true && is_before k ms

-- Whether the keys of members rise.
abbrev pub keys_rise : Members → Bool
keys_rise no_members = true
keys_rise (member k d ms) = is_before k ms && keys_rise ms

-- texts and keys are words, keys are in order, and each number has this property
abbrev mutual
  -- Texts and keys of a value are words, keys are in order, and each number has a property.
  pub IsTidy : (Num → Type 0) → Data → Type 0
  IsTidy P null = Unit {0}
  IsTidy P (boolean b) = Unit {0}
  IsTidy P (number n) = P n
  IsTidy P (string s) = IsWord s
  IsTidy P (array ds) = AreTidy P ds
  IsTidy P (object ms) = IsTrue (keys_rise ms) × HasTidy P ms

  -- Each of the items is tidy for this property.
  pub AreTidy : (Num → Type 0) → Items → Type 0
  AreTidy P no_items = Unit {0}
  AreTidy P (item d ds) = IsTidy P d × AreTidy P ds

  -- Each key is a word, and the value of each member is tidy for this property.
  pub HasTidy : (Num → Type 0) → Members → Type 0
  HasTidy P no_members = Unit {0}
  HasTidy P (member k d ms) = IsWord k × IsTidy P d × HasTidy P ms

-- a whole number
abbrev pub IsWhole : Num → Type 0
IsWhole (unsigned n) = Unit {0}
IsWhole (negative z) = Unit {0}
IsWhole (float x) = ⊥

-- one in -10^18 to 10^18
abbrev pub IsNear : Num → Type 0
IsNear (unsigned n) = n ≤ 1_000_000_000_000_000_000
IsNear (negative (pos n)) = ⊥
IsNear (negative (negsuc n)) = n < 1_000_000_000_000_000_000
IsNear (float x) = ⊥

near_is_whole : (n : Num) → IsNear n → IsWhole n
near_is_whole (unsigned n) h = tt
near_is_whole (negative z) h = tt
near_is_whole (float x) h = h

mutual
  -- A value that is tidy with numbers within 10^18 is tidy with whole numbers.
  pub whole_tidy : (d : Data) → IsTidy IsNear d → IsTidy IsWhole d
  whole_tidy null h = tt
  whole_tidy (boolean b) h = tt
  whole_tidy (number n) h = near_is_whole n h
  whole_tidy (string s) h = h
  whole_tidy (array ds) h = whole_items ds h
  whole_tidy (object ms) h = (h.0, whole_members ms h.1)

  whole_items : (ds : Items) → AreTidy IsNear ds → AreTidy IsWhole ds
  whole_items no_items h = tt
  whole_items (item d ds) h = (whole_tidy d h.0, whole_items ds h.1)

  whole_members : (ms : Members) → HasTidy IsNear ms → HasTidy IsWhole ms
  whole_members no_members h = tt
  whole_members (member k d ms) h = (h.0, whole_tidy d h.1, whole_members ms h.2)

-- ---- no float
whole_number : (n : Num) → IsWhole n → has_float (number n) ≡ false
whole_number (unsigned n) h = refl
whole_number (negative z) h = refl
whole_number (float x) h = absurd h

mutual
  -- A value that is tidy with whole numbers has no floating-point number.
  pub no_float : (d : Data) → IsTidy IsWhole d → has_float d ≡ false
  no_float null h = refl
  no_float (boolean b) h = refl
  no_float (number n) h = whole_number n h
  no_float (string s) h = refl
  no_float (array ds) h = no_items_float ds h
  no_float (object ms) h = no_members_float ms h.1

  no_items_float : (ds : Items) → AreTidy IsWhole ds → items_have_float ds ≡ false
  no_items_float no_items h = refl
  no_items_float (item d ds) h = rw (no_float d h.0, no_items_float ds h.1) refl

  no_members_float : (ms : Members) → HasTidy IsWhole ms → members_have_float ms ≡ false
  no_members_float no_members h = refl
  no_members_float (member k d ms) h = rw (no_float d h.1, no_members_float ms h.2) refl

-- ---- the bytes
glyph : (d : ℕ) → (32 ≤ digit_glyph false (d % 10)) × (digit_glyph false (d % 10) < 128)
glyph d = (grind (arith, nat_tests), grind (arith, nat_tests))

clean_cond : (b : Bool) (xs ys : List ℕ) → IsClean xs → IsClean ys → IsClean (cond b xs ys)
clean_cond true xs ys h k = h
clean_cond false xs ys h k = k

clean_onto : (k n : ℕ) (acc : List ℕ) → IsClean acc → IsClean (digits_onto k 10 false n acc)
clean_onto zero n acc h = h
clean_onto (suc k) n acc h =
    let one : IsClean (digit_glyph false (n % 10) ∷ acc) = ((glyph n).0, (glyph n).1, h) in
    clean_cond (n / 10 == 0) _ _ one (clean_onto k (n / 10) _ one)

clean_decimal : (n : ℕ) → IsClean (decimal n)
unfolding digits
clean_decimal n = clean_onto 64 n [] tt

clean_number : (n : Num) → IsClean (number_text n)
clean_number (unsigned n) = clean_decimal n
clean_number (negative (pos n)) = clean_decimal n
clean_number (negative (negsuc n)) = (omega arith, omega arith, clean_decimal (suc n))
clean_number (float x) = tt

clean_comma : (b : Bool) → IsClean (comma_if b)
clean_comma true = (omega arith, omega arith, tt)
clean_comma false = tt

mutual
  -- The text of a tidy value has only ASCII bytes and no control byte.
  pub clean : (P : Num → Type 0) (d : Data) → IsTidy P d → IsClean (compact_text d)
  clean P null h = clean_word (codes "null") refl
  clean P (boolean true) h = clean_word (codes "true") refl
  clean P (boolean false) h = clean_word (codes "false") refl
  clean P (number n) h = clean_number n
  clean P (string s) h = clean_quoted s h
  clean P (array ds) h = (omega arith, omega arith, clean_items P false ds h)
  clean P (object ms) h = (omega arith, omega arith, clean_members P false ms h.1)

  clean_items : (P : Num → Type 0) (b : Bool) (ds : Items) → AreTidy P ds → IsClean (items_text b ds)
  clean_items P b no_items h = (omega arith, omega arith, tt)
  clean_items P b (item d ds) h = clean_append (comma_if b) _ (clean_comma b) (clean_append (compact_text d) (items_text true ds) (clean P d h.0) (clean_items P true ds h.1))

  clean_members : (P : Num → Type 0) (b : Bool) (ms : Members) → HasTidy P ms → IsClean (members_text b ms)
  clean_members P b no_members h = (omega arith, omega arith, tt)
  clean_members P b (member k d ms) h =
      clean_append (comma_if b) _ (clean_comma b)
      (clean_append (quoted k) _ (clean_quoted k h.0)
      (omega arith, omega arith, clean_append (compact_text d) (members_text true ms) (clean P d h.1) (clean_members P true ms h.2)))

-- The text of a value that is tidy with whole numbers has no byte below 32.
pub one_line_text : (d : Data) → IsTidy IsWhole d → IsOneLine (compact_text d)
one_line_text d h = one_line (compact_text d) (clean IsWhole d h)

-- ---- reading back
number_back : (n : Num) → IsNear n → number_of (number_text n) ≡ Some n
number_back (unsigned n) h = number_of-decimal n (omega arith)
number_back (negative (pos n)) h = absurd h
number_back (negative (negsuc n)) h = number_of-negative n (omega arith)
number_back (float x) h = absurd h

-- The members after others.
abbrev behind : Members → Members → Members
behind no_members ms = ms
behind (member k d fs) ms = member k d (behind fs ms)

behind_none : (fs : Members) → behind fs no_members ≡ fs
behind_none no_members = refl
behind_none (member k d fs) = ap (member k d) (behind_none fs)

behind_one : (fs : Members) (k : List ℕ) (d : Data) (ms : Members) → behind (behind fs (member k d no_members)) ms ≡ behind fs (member k d ms)
behind_one no_members k d ms = refl
behind_one (member l e fs) k d ms = ap (member l e) (behind_one fs k d ms)

-- each of these keys is before each of those
abbrev AreBefore : Members → Members → Type 0
AreBefore no_members ms = Unit {0}
AreBefore (member k d fs) ms = IsTrue (is_before k ms) × AreBefore fs ms

is_greater : (o : Ordering) → match_ordering o false false true ≡ true → o ≡ Greater
is_greater Less h = absurd (cc)
is_greater Equal h = absurd (cc)
is_greater Greater h = refl

put_end : (fs : Members) (k : List ℕ) (d : Data) (ms : Members) → AreBefore fs (member k d ms) → put k d fs ≡ behind fs (member k d no_members)
put_end no_members k d ms h = refl
put_end (member l e fs) k d ms h =
    let parts = and_parts (match_ordering (slice_cmp nat_cmp k l) false false true) (is_before l ms) h.0 in
    rw (is_greater (slice_cmp nat_cmp k l) parts.0) (ap (member l e) (put_end fs k d ms h.1))

before_rest : (fs : Members) (k : List ℕ) (d : Data) (ms : Members) → AreBefore fs (member k d ms) → IsTrue (is_before k ms) → AreBefore (behind fs (member k d no_members)) ms
before_rest no_members k d ms h first = (first, tt)
before_rest (member l e fs) k d ms h first =
    let parts = and_parts (match_ordering (slice_cmp nat_cmp k l) false false true) (is_before l ms) h.0 in
    (parts.1, before_rest fs k d ms h.1 first)

mutual
  json_back : (d : Data) → IsTidy IsNear d → of_json (outline d) ≡ Some d
  json_back null h = refl
  json_back (boolean b) h = refl
  json_back (number n) h = ap (option_map number) (number_back n h)
  json_back (string s) h = refl
  json_back (array ds) h = ap (option_map array) (items_back ds h)
  json_back (object ms) h = ap (option_map object) (members_back no_members ms tt h.0 h.1)

  items_back : (ds : Items) → AreTidy IsNear ds → of_items (items_outline ds) ≡ Some ds
  items_back no_items h = refl
  items_back (item d ds) h = rw (json_back d h.0, items_back ds h.1) refl

  members_back : (fs ms : Members) → AreBefore fs ms → IsTrue (keys_rise ms) → HasTidy IsNear ms → of_members (members_outline ms) fs ≡ Some (behind fs ms)
  members_back fs no_members before rise h = ap Some (sym (behind_none fs))
  members_back fs (member k d ms) before rise h =
      let parts = and_parts (is_before k ms) (keys_rise ms) rise in
      let longer = behind fs (member k d no_members) in
      ap (option_and_then (λ e. of_members (members_outline ms) (put k e fs))) (json_back d h.1)
      ∙ ap (of_members (members_outline ms)) (put_end fs k d ms before)
      ∙ members_back longer ms (before_rest fs k d ms before parts.0) parts.1 h.2
      ∙ ap Some (behind_one fs k d ms)

numbered : (n : Num) → IsNear n → IsNumber (number_text n)
numbered (unsigned n) h = IsNumber-decimal n (omega arith)
numbered (negative (pos n)) h = absurd h
numbered (negative (negsuc n)) h = IsNumber-signed_decimal (negsuc n) (omega arith)
numbered (float x) h = absurd h

mutual
  has_numbers : (d : Data) → IsTidy IsNear d → tree.HasNumbers (outline d)
  has_numbers null h = tt
  has_numbers (boolean b) h = tt
  has_numbers (number n) h = numbered n h
  has_numbers (string s) h = tt
  has_numbers (array ds) h = items_have_numbers ds h
  has_numbers (object ms) h = members_have_numbers ms h.1

  items_have_numbers : (ds : Items) → AreTidy IsNear ds → tree.ItemsHaveNumbers (items_outline ds)
  items_have_numbers no_items h = tt
  items_have_numbers (item d ds) h = (has_numbers d h.0, items_have_numbers ds h.1)

  members_have_numbers : (ms : Members) → HasTidy IsNear ms → tree.MembersHaveNumbers (members_outline ms)
  members_have_numbers no_members h = tt
  members_have_numbers (member k d ms) h = (has_numbers d h.1, members_have_numbers ms h.2)

mutual
  same_depth : (d : Data) → tree.depth (outline d) ≡ depth d
  same_depth null = refl
  same_depth (boolean b) = refl
  same_depth (number n) = refl
  same_depth (string s) = refl
  same_depth (array ds) = ap suc (same_items_depth ds)
  same_depth (object ms) = ap suc (same_members_depth ms)

  same_items_depth : (ds : Items) → tree.items_depth (items_outline ds) ≡ items_depth ds
  same_items_depth no_items = refl
  same_items_depth (item d ds) = rw (same_depth d, same_items_depth ds) refl

  same_members_depth : (ms : Members) → tree.members_depth (members_outline ms) ≡ members_depth ms
  same_members_depth no_members = refl
  same_members_depth (member k d ms) = rw (same_depth d, same_members_depth ms) refl

-- the data of the value that tokens begin with, if it is all
abbrev data_of : Option (json.Json × List Token) → Option Data
data_of o = option_and_then of_json (option_and_then (λ p. json.if_last p.0 p.1) o)

text_read : (d : Data) → IsTidy IsNear d → depth d ≤ max_depth → read (compact_text d) ≡ Some d
text_read d h few =
    let printed = ap tokens (sym (print-outline d)) ∙ tokens-print (tree.json_tokens (outline d)) (ArePrintable-json_tokens (outline d) (has_numbers d h)) in
    let shallow : tree.depth (outline d) ≤ max_depth = rw (same_depth d) few in
    ap data_of (ap (json.value max_depth) (printed ∙ sym (append-nil _)) ∙ value-json_tokens (outline d) max_depth [] shallow) ∙ json_back d h

-- The text of a tidy value with numbers within 10^18, and no deeper than JSON may be, is read as this value.
pub value_back : (d : Data) → IsTidy IsNear d → depth d ≤ max_depth → value_of (compact_text d) ≡ Ok d
value_back d h few = value_is (compact_text d) d (utf8 (compact_text d) (clean IsNear d h)) (text_read d h few)

-- ---- how long it is, with a comma after each element and each member
abbrev mutual
  -- The most bytes of the text of a tidy value with numbers within 10^18, with a comma after each element and each member.
  pub width : Data → ℕ
  width null = 4
  width (boolean b) = 5
  width (number n) = 20
  width (string s) = length s + 2
  width (array ds) = 1 + items_width ds
  width (object ms) = 1 + members_width ms

  -- The same for items and the closing bracket.
  pub items_width : Items → ℕ
  items_width no_items = 1
  items_width (item d ds) = width d + 1 + items_width ds

  -- The same for members and the closing brace.
  pub members_width : Members → ℕ
  members_width no_members = 1
  members_width (member k d ms) = length k + 4 + width d + members_width ms

number_short : (n : Num) → IsNear n → length (number_text n) ≤ 20
number_short (unsigned n) h = let short = length-decimal-le 19 n (omega arith) (omega arith) (omega arith) in omega arith
number_short (negative (pos n)) h = absurd h
number_short (negative (negsuc n)) h = let short = length-decimal-le 19 (suc n) (omega arith) (omega arith) (omega arith) in omega arith
number_short (float x) h = absurd h

quoted_length : (s : List ℕ) → IsWord s → length (quoted s) ≡ length s + 2
quoted_length s h = rw (escape_word s h) (omega (arith, length-append s (34 ∷ [])))

comma_length : (b : Bool) → length (comma_if b) ≤ 1
comma_length true = omega arith
comma_length false = omega arith

mutual
  -- The text of a tidy value with numbers within 10^18 is at most as long as its width.
  pub short_text : (d : Data) → IsTidy IsNear d → length (compact_text d) ≤ width d
  short_text null h = omega arith
  short_text (boolean true) h = omega arith
  short_text (boolean false) h = omega arith
  short_text (number n) h = number_short n h
  short_text (string s) h = omega (arith, quoted_length s h)
  short_text (array ds) h = omega (arith, short_items false ds h)
  short_text (object ms) h = omega (arith, short_members false ms h.1)

  short_items : (b : Bool) (ds : Items) → AreTidy IsNear ds → length (items_text b ds) ≤ items_width ds
  short_items b no_items h = omega arith
  short_items b (item d ds) h =
      let first = length-append (comma_if b) (compact_text d ++ items_text true ds) in
      let second = length-append (compact_text d) (items_text true ds) in
      omega (arith, first, second, comma_length b, short_text d h.0, short_items true ds h.1)

  short_members : (b : Bool) (ms : Members) → HasTidy IsNear ms → length (members_text b ms) ≤ members_width ms
  short_members b no_members h = omega arith
  short_members b (member k d ms) h =
      let first = length-append (comma_if b) (quoted k ++ 58 ∷ (compact_text d ++ members_text true ms)) in
      let second = length-append (quoted k) (58 ∷ (compact_text d ++ members_text true ms)) in
      let third = length-append (compact_text d) (members_text true ms) in
      omega (arith, first, second, third, comma_length b, quoted_length k h.0, short_text d h.1, short_members true ms h.2)
