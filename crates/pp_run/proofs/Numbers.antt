-- The number of transactions that an argument states.
use Rattle.std.specs.Prelude.{◌≡◌, ℕ, ◌≤◌, Bool, true, false, ◌&&◌, nat_le, List, [], ◌∷◌, codes}
use Rattle.std.specs.Prelude.{if◌then◌else◌, Option, None, Some, option_map, Result, Ok, Err}
use Rattle.std.specs.Fmt.{decimal}
use Rattle.std.specs.Str.{IsUtf8, bytes_eq}
use Rattle.std.specs.Str.Parse.{ParsesUnsigned, digits_value}
use Rattle.std.proofs.Common.{refl, sym, ap, ◌∙◌, subst, arith}
use Rattle.std.proofs.lemmas.Bool.Decides.{nat_tests}
use Rattle.std.proofs.lemmas.Fmt.{IsAscii-decimal, decimal_is_IsNumeral, parse-decimal}
use Rattle.std.proofs.lemmas.Option.{same_Some}
use Rattle.std.proofs.lemmas.Slice.Eq.{bytes_eq-Decides}
use Rattle.std.proofs.lemmas.Str.{IsUtf8-from_ascii}
use Rattle.pp_format_read.specs.Members.{name_from}
use Rattle.pp_run.specs.Words.{command_named, command_of, drill_number}
use Rattle.pp_run.specs.declared.words.Command.{Command}
use Rattle.pp_run.specs.declared.words.Command.TheVariants.{Certify, Drill, Expand, Focus, Judge, Opaque}
use Rattle.pp_run.specs.declared.words.Command.TheVariants.{Quick, Recheck, Swaps, Views}
use Rattle.std.proofs.lemmas.Bool.{and_parts}
use Rattle.pp_laws_summary.proofs.Lookups.{and_true}

-- ---- tests

yes_le : (a b : ℕ) → a ≤ b → nat_le a b ≡ true
yes_le a b h = grind (arith, nat_tests)

le_yes : (a b : ℕ) → nat_le a b ≡ true → a ≤ b
le_yes a b h = grind (arith, nat_tests)

by_test : (b : Bool) (v n : ℕ) → (if b then Some v else None) ≡ Some n → (b ≡ true) × (v ≡ n)
by_test true v n e = (refl, same_Some v n e)
by_test false v n e = absurd (let no : None ≡ Some n = e in cc)

-- ---- the number of an argument

abbrev test : List ℕ → ℕ → Bool
test word n = bytes_eq word (decimal n) && (nat_le 1 n && nat_le n 20_000)

abbrev IsNumberOf : List ℕ → ℕ → Type 0
IsNumberOf word n = (word ≡ decimal n) × (1 ≤ n) × (n ≤ 20_000)

-- An argument that is the text of a number from 1 to 20,000 has this number.
pub number_is : (word : List ℕ) (n : ℕ) → IsNumberOf word n → drill_number word ≡ Some n
number_is word n (is, low, high) =
    let value : digits_value 10 word ≡ n = ap (digits_value 10) is ∙ (decimal_is_IsNumeral n (omega (arith, high))).1 in
    let passes : test word n ≡ true =
    and_true (bytes_eq word (decimal n)) (nat_le 1 n && nat_le n 20_000) ((bytes_eq-Decides word (decimal n)).1 is) (and_true (nat_le 1 n) (nat_le n 20_000) (yes_le 1 n low) (yes_le n 20_000 high)) in
    ap (λ (k : ℕ). if test word k then Some k else None) value ∙ ap (λ (b : Bool). if b then Some n else None) passes

-- The number of an argument is from 1 to 20,000, and the argument is its text.
pub number_told : (word : List ℕ) (n : ℕ) → drill_number word ≡ Some n → IsNumberOf word n
number_told word n e =
    let v = digits_value 10 word in
    let t = by_test (test word v) v n e in
    let p = and_parts (bytes_eq word (decimal v)) (nat_le 1 v && nat_le v 20_000) t.0 in
    let q = and_parts (nat_le 1 v) (nat_le v 20_000) p.1 in
    subst (IsNumberOf word) t.1 ((bytes_eq-Decides word (decimal v)).0 p.0, le_yes 1 v q.0, le_yes v 20_000 q.1)

-- An argument that is the text of no number from 1 to 20,000 has no number.
pub no_number : (word : List ℕ) → ((n : ℕ) → IsNumberOf word n → ⊥) → drill_number word ≡ None
no_number word none = cases (drill_number word) refl
  where
    cases : (o : Option ℕ) → drill_number word ≡ o → drill_number word ≡ None
    cases None e = e
    cases (Some n) e = absurd (none n (number_told word n e))

-- ---- how it is read

-- a numeral is UTF-8
pub number_is_text : (word : List ℕ) (n : ℕ) → IsNumberOf word n → IsUtf8 word
number_is_text word n (is, low, high) = subst IsUtf8 (sym is) (IsUtf8-from_ascii (decimal n) (IsAscii-decimal n (omega (arith, high))))

-- what the parser of std returns for an argument, against its number
module _ {E : Type 0} (word text : List ℕ) (same : text ≡ word) (r : Result ℕ E) (parses : ParsesUnsigned 32 10 text r) where
  parsed : (n : ℕ) → IsNumberOf word n → r ≡ Ok n
  parsed n (is, low, high) = parse-decimal 32 n text r (omega (arith, high)) (omega (arith, high)) (same ∙ is) parses

  parsed_is : (k n : ℕ) → r ≡ Ok k → IsNumberOf word n → k ≡ n
  parsed_is k n read is =
      let here : r ≡ Ok n = parsed n is in
      cc

  -- The argument states no number if it is not read as one, if the number is out of range, or if it
  -- is not written as that number is.
  pub unread : (e : E) → r ≡ Err e → drill_number word ≡ None
  unread e read = no_number word (λ n is.
      let here : r ≡ Ok n = parsed n is in
      cc)

  -- An argument that is read as a number out of range has no number.
  pub outside : (k : ℕ) → r ≡ Ok k → (1 ≤ k → k ≤ 20_000 → ⊥) → drill_number word ≡ None
  outside k read none = no_number word (λ n is.
      let one : k ≡ n = parsed_is k n read is in
      none (omega (arith, one, is.1)) (omega (arith, one, is.2)))

  -- An argument that is not the text of the number that it is read as has no number.
  pub unlike : (k : ℕ) → r ≡ Ok k → (word ≡ decimal k → ⊥) → drill_number word ≡ None
  unlike k read none = no_number word (λ n is. none (is.0 ∙ ap decimal (sym (parsed_is k n read is))))

-- ---- the number of a command

-- the command has no number: it is not `drill`
abbrev IsUnnumbered : Option Command → Type 0
IsUnnumbered o = (n : ℕ) → o ≡ Some (Drill n) → ⊥

either : (b : Bool) (x y : Option Command) → IsUnnumbered x → IsUnnumbered y → IsUnnumbered (if b then x else y)
either true x y p q = p
either false x y p q = q

unnumbered : (word : List ℕ) → IsUnnumbered (command_named word)
unnumbered word =
    let is : List ℕ → Bool = bytes_eq word in
    either (is (codes "certify")) (Some Certify) _ (λ n e. let no : Some Certify ≡ Some (Drill n) = e in cc)
    (either (is (codes "expand")) (Some Expand) _ (λ n e. let no : Some Expand ≡ Some (Drill n) = e in cc)
    (either (is (codes "judge")) (Some Judge) _ (λ n e. let no : Some Judge ≡ Some (Drill n) = e in cc)
    (either (is (codes "quick")) (Some Quick) _ (λ n e. let no : Some Quick ≡ Some (Drill n) = e in cc)
    (either (is (codes "swaps")) (Some Swaps) _ (λ n e. let no : Some Swaps ≡ Some (Drill n) = e in cc)
    (either (is (codes "recheck")) (Some Recheck) _ (λ n e. let no : Some Recheck ≡ Some (Drill n) = e in cc)
    (either (is (codes "views")) (Some Views) _ (λ n e. let no : Some Views ≡ Some (Drill n) = e in cc)
    (either (is (codes "opaque")) (Some Opaque) None (λ n e. let no : Some Opaque ≡ Some (Drill n) = e in cc)
    (λ n e. let no : None ≡ Some (Drill n) = e in cc))))))))

focused : (b : Bool) (o : Option (List ℕ)) → IsUnnumbered (if b then option_map (λ name. Focus name) o else None)
focused true (Some name) n e = let no : Some (Focus name) ≡ Some (Drill n) = e in cc
focused true None n e = let no : None ≡ Some (Drill n) = e in cc
focused false o n e = let no : None ≡ Some (Drill n) = e in cc

-- the number of a `drill` command is from 1 to 20,000
pub drill_within : (words : List (List ℕ)) (n : ℕ) → command_of words ≡ Some (Drill n) → (1 ≤ n) × (n ≤ 20_000)
drill_within [] n e = absurd (let no : None ≡ Some (Drill n) = e in cc)
drill_within (word ∷ []) n e = absurd (unnumbered word n e)
drill_within (word ∷ argument ∷ []) n e =
    numbered (bytes_eq word (codes "drill")) (drill_number argument) _ refl (focused (bytes_eq word (codes "focus")) (name_from argument)) e
  where
    numbered : (b : Bool) (o : Option ℕ) (other : Option Command) → drill_number argument ≡ o → IsUnnumbered other → (if b then option_map (λ k. Drill k) o else other) ≡ Some (Drill n) → (1 ≤ n) × (n ≤ 20_000)
    numbered false o other is none e = absurd (none n e)
    numbered true None other is none e = absurd (let no : None ≡ Some (Drill n) = e in cc)
    numbered true (Some k) other is none e =
        let same : k ≡ n = let some : Some (Drill k) ≡ Some (Drill n) = e in cc in
        let told = number_told argument k is in
        subst (λ (m : ℕ). (1 ≤ m) × (m ≤ 20_000)) same (told.1, told.2)
drill_within (word ∷ argument ∷ more ∷ words) n e = absurd (let no : None ≡ Some (Drill n) = e in cc)

-- ---- what a comparison of arguments means

-- Arguments for which the comparison is true are equal.
pub equal_words : (b : Bool) (xs ys : List ℕ) → b ≡ bytes_eq xs ys → b ≡ true → xs ≡ ys
equal_words b xs ys is e = (bytes_eq-Decides xs ys).0 (sym is ∙ e)

-- Arguments for which the comparison is false are different.
pub other_words : (b : Bool) (xs ys : List ℕ) → b ≡ bytes_eq xs ys → b ≡ false → xs ≡ ys → ⊥
other_words b xs ys is e same =
    let told : true ≡ false = sym ((bytes_eq-Decides xs ys).1 same) ∙ sym is ∙ e in
    cc
