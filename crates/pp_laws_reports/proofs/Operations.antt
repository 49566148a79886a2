-- An operation can be read back from its text.
use Rattle.std.proofs.Common.{◌≡◌, ℕ, zero, suc, ℤ, ◌==◌, ◌||◌, nat_le, Bool, true, false, ◌&&◌, IsTrue, List}
use Rattle.std.proofs.Common.{[], ◌∷◌, ◌++◌, take, slice_get, Some}
use Rattle.std.proofs.Common.{refl, sym, ap, subst, ◌∙◌, append_assoc}
use Rattle.std.specs.Fmt.{signed_decimal}
use Rattle.std.specs.List.{list_all}
use Rattle.std.specs.Map.{keys_of}
use Rattle.pp_core.specs.Calls.{arguments}
use Rattle.pp_core.specs.Catalogs.{Objects, HasDistinctNames, HasNames}
use Rattle.pp_core.specs.Names.{is_name_byte}
use Rattle.pp_core.specs.Words.{method_word}
use Rattle.pp_core.specs.declared.answer.Answer.{Answer}
use Rattle.pp_core.specs.declared.answer.Answer.TheVariants as answers
use Rattle.pp_core.specs.declared.call.Method.{Method}
use Rattle.pp_core.specs.declared.call.Method.TheVariants as methods
use Rattle.pp_format_write.specs.Statable.{IsOpOn}
use Rattle.pp_model.specs.Lists.{Each}
use Rattle.pp_objects.specs.Objects.{act_at, fits_in, kinds_of}
use Rattle.pp_objects.specs.One.{call_of, is_ranged, one, recorded_by}
use Rattle.pp_objects.specs.declared.act.Act.{Act}
use Rattle.pp_objects.specs.declared.act.Op.{Op}
use Rattle.pp_objects.specs.laws.One.{one_lawful}
use Rattle.pp_kind.specs.Numbers.{has_ranged_arguments, in_range, is_ranged_answer}
use Rattle.pp_text.specs.Texts.{answer_bytes, arguments_bytes, arguments_in, name_at, op_bytes}
use Rattle.pp_laws_reports.proofs.Splits.{Only, apart, only_all, only_append, only_other, other_than, split, split_last}
use Rattle.pp_laws_reports.proofs.Numbers.{InRange, arguments_only, is_arguments_byte, is_number_byte, same_arguments, same_number, signed_only}
use Rattle.pp_laws_reports.proofs.Acts.{method_of, same_act, same_method}
use Rattle.std.proofs.lemmas.Bool.{and_parts}

-- ---- the words of methods

-- a small letter, or `_`
abbrev is_word_byte : ℕ → Bool
is_word_byte b = b == 95 || (nat_le 97 b && nat_le b 122)

word_all : (m : Method) → list_all is_word_byte (method_word m) ≡ true
word_all methods.Read = refl
word_all methods.Write = refl
word_all methods.Cas = refl
word_all methods.Add = refl
word_all methods.Remove = refl
word_all methods.Contains = refl
word_all methods.Put = refl
word_all methods.Get = refl
word_all methods.FetchAdd = refl
word_all methods.Enq = refl
word_all methods.Deq = refl
word_all methods.StackPush = refl
word_all methods.StackPop = refl
word_all methods.Insert = refl
word_all methods.Take = refl
word_all methods.Least = refl

word_only : (m : Method) → Only is_word_byte (method_word m)
word_only m = only_all is_word_byte (method_word m) (word_all m)

-- ---- the name of an object

-- The object at this place, and its name.
record Stands (catalog : Objects) (place : ℕ) : Type 0 where
  name : List ℕ
  key : slice_get (keys_of catalog) place ≡ Some name
  text : name_at catalog place ≡ name

stands : (catalog : Objects) (place : ℕ) (act : Act) → IsTrue (fits_in one (slice_get (kinds_of catalog) place) act) → Stands catalog place
stands [] place act h = absurd (cc)
stands (e ∷ es) zero act h = record { name = e.0; key = refl; text = refl }
stands (e ∷ es) (suc place) act h = let r = stands es place act h in record { name = r.name; key = r.key; text = r.text }

-- The name at a place has only bytes of names. It is empty if there is no object.
pub name_only : (catalog : Objects) (place : ℕ) → HasNames catalog → Only is_name_byte (name_at catalog place)
name_only [] place names = tt
name_only (e ∷ es) zero names = only_all is_name_byte e.0 names.0.bytes
name_only (e ∷ es) (suc place) names = name_only es place names.1

-- ---- results

number_word : {A : Type 0} (z : ℤ) (b : ℕ) (w : List ℕ) → is_number_byte b ≡ false → signed_decimal z ≡ b ∷ w → A
number_word z b w fails e = absurd (let only : Only is_number_byte (b ∷ w) = subst (Only is_number_byte) e (signed_only z) in let all : true ≡ false = sym only.0 ∙ fails in cc)

same_answer : (a b : Answer) → IsTrue (is_ranged_answer a) → IsTrue (is_ranged_answer b) → answer_bytes a ≡ answer_bytes b → a ≡ b
same_answer answers.None answers.None h k e = refl
same_answer answers.None (answers.Number z) h k e = number_word z 110 _ refl (sym e)
same_answer answers.None (answers.Truth true) h k e = apart 110 116 _ _ refl e
same_answer answers.None (answers.Truth false) h k e = apart 110 102 _ _ refl e
same_answer (answers.Number y) answers.None h k e = number_word y 110 _ refl e
same_answer (answers.Number y) (answers.Number z) h k e = ap (λ (n : ℤ). answers.Number n) (same_number y z h k e)
same_answer (answers.Number y) (answers.Truth true) h k e = number_word y 116 _ refl e
same_answer (answers.Number y) (answers.Truth false) h k e = number_word y 102 _ refl e
same_answer (answers.Truth true) answers.None h k e = apart 116 110 _ _ refl e
same_answer (answers.Truth false) answers.None h k e = apart 102 110 _ _ refl e
same_answer (answers.Truth true) (answers.Number z) h k e = number_word z 116 _ refl (sym e)
same_answer (answers.Truth false) (answers.Number z) h k e = number_word z 102 _ refl (sym e)
same_answer (answers.Truth true) (answers.Truth true) h k e = refl
same_answer (answers.Truth true) (answers.Truth false) h k e = apart 116 102 _ _ refl e
same_answer (answers.Truth false) (answers.Truth true) h k e = apart 102 116 _ _ refl e
same_answer (answers.Truth false) (answers.Truth false) h k e = refl

answer_only : (a : Answer) → Only (other_than 10) (answer_bytes a)
answer_only answers.None = (refl, (refl, (refl, (refl, tt))))
answer_only (answers.Number z) = only_other is_number_byte 10 refl (signed_decimal z) (signed_only z)
answer_only (answers.Truth true) = (refl, (refl, (refl, (refl, tt))))
answer_only (answers.Truth false) = (refl, (refl, (refl, (refl, (refl, tt)))))

-- ---- the numbers of an operation

take_ranged : (n : ℕ) (ns : List ℤ) → Each InRange ns → Each InRange (take n ns)
take_ranged zero ns h = tt
take_ranged (suc n) [] h = tt
take_ranged (suc n) (x ∷ ns) h = (h.0, take_ranged n ns h.1)

parts : (a : Act) → IsTrue (is_ranged a) → IsTrue (has_ranged_arguments (call_of a)) × IsTrue (is_ranged_answer (recorded_by a))
parts a h = and_parts (has_ranged_arguments (call_of a)) (is_ranged_answer (recorded_by a)) (sym (one_lawful.ranged_numbers a) ∙ h)

arguments_ranged : (a : Act) → IsTrue (is_ranged a) → Each InRange (arguments_in a)
arguments_ranged a h =
    let c = call_of a in
    let three = and_parts (in_range c.first && in_range c.second) (in_range c.third) (parts a h).0 in
    let two = and_parts (in_range c.first) (in_range c.second) three.0 in
    take_ranged _ (arguments c) (two.0, (two.1, (three.1, tt)))

-- ---- the text of an operation

abbrev after_paren : Act → List ℕ → List ℕ
after_paren act rest = arguments_bytes (arguments_in act) ++ 41 ∷ 61 ∷ (answer_bytes (recorded_by act) ++ 10 ∷ rest)

abbrev before_paren : Objects → Op → List ℕ
before_paren catalog op = name_at catalog op.object ++ 46 ∷ method_word (method_of op.act)

regrouped : (catalog : Objects) (op : Op) (rest : List ℕ) → op_bytes catalog op ++ 10 ∷ rest ≡ before_paren catalog op ++ 40 ∷ after_paren op.act rest
regrouped catalog op rest = simp append_assoc

before_only : (catalog : Objects) (op : Op) → HasNames catalog → Only (other_than 40) (before_paren catalog op)
before_only catalog op names =
    let name = name_at catalog op.object in
    let word = method_word (method_of op.act) in
    only_append (other_than 40) name (46 ∷ word) (only_other is_name_byte 40 refl name (name_only catalog op.object names)) (refl, only_other is_word_byte 40 refl word (word_only (method_of op.act)))

both_parts : (p q : ℕ) (x y : Act) → p ≡ q → x ≡ y → act_at p x ≡ act_at q y
both_parts p q x y same_place same = ap (λ (n : ℕ). act_at n x) same_place ∙ ap (λ (z : Act). act_at q z) same

module _ (catalog other : Objects) (names : HasNames catalog) (others : HasNames other) (distinct : HasDistinctNames catalog) where
  same_place : (a b : Op) → IsOpOn catalog a → IsOpOn other b → name_at catalog a.object ≡ name_at other b.object → keys_of catalog ≡ keys_of other → a.object ≡ b.object
  same_place a b h k name keys =
      let here = stands catalog a.object a.act h.0 in
      let there = stands other b.object b.act k.0 in
      let same : there.name ≡ here.name = sym there.text ∙ sym name ∙ here.text in
      let key : slice_get (keys_of catalog) b.object ≡ Some here.name = ap (λ (w : List (List ℕ)). slice_get w b.object) keys ∙ there.key ∙ ap (λ (n : List ℕ). Some n) same in
      distinct here.name a.object b.object here.key key

  -- Operations with the same text are equal if the objects have the same names. What follows the
  -- operations is equal too.
  pub same_op : (a b : Op) (u v : List ℕ) → IsOpOn catalog a → IsOpOn other b → op_bytes catalog a ++ 10 ∷ u ≡ op_bytes other b ++ 10 ∷ v → (keys_of catalog ≡ keys_of other → a ≡ b) × (u ≡ v)
  same_op a b u v h k e =
      let whole : before_paren catalog a ++ 40 ∷ after_paren a.act u ≡ before_paren other b ++ 40 ∷ after_paren b.act v = sym (regrouped catalog a u) ∙ e ∙ regrouped other b v in
      let parens = split (other_than 40) (before_paren catalog a) (before_paren other b) (40 ∷ after_paren a.act u) (40 ∷ after_paren b.act v) (before_only catalog a names) (before_only other b others) refl refl whole in
      let word_a = method_word (method_of a.act) in
      let word_b = method_word (method_of b.act) in
      let dots = split_last 46 (name_at catalog a.object) (name_at other b.object) word_a word_b (only_other is_word_byte 46 refl word_a (word_only (method_of a.act))) (only_other is_word_byte 46 refl word_b (word_only (method_of b.act))) parens.0 in
      let method : method_of a.act ≡ method_of b.act = same_method (method_of a.act) (method_of b.act) dots.1 in
      let behind : after_paren a.act u ≡ after_paren b.act v = let rest = parens.1 in cc in
      let close_a = 41 ∷ 61 ∷ (answer_bytes (recorded_by a.act) ++ 10 ∷ u) in
      let close_b = 41 ∷ 61 ∷ (answer_bytes (recorded_by b.act) ++ 10 ∷ v) in
      let arguments = split is_arguments_byte (arguments_bytes (arguments_in a.act)) (arguments_bytes (arguments_in b.act)) close_a close_b (arguments_only (arguments_in a.act)) (arguments_only (arguments_in b.act)) refl refl behind in
      let numbers : arguments_in a.act ≡ arguments_in b.act = same_arguments (arguments_in a.act) (arguments_in b.act) (arguments_ranged a.act h.1) (arguments_ranged b.act k.1) arguments.0 in
      let results : answer_bytes (recorded_by a.act) ++ 10 ∷ u ≡ answer_bytes (recorded_by b.act) ++ 10 ∷ v = let rest = arguments.1 in cc in
      let ends = split (other_than 10) (answer_bytes (recorded_by a.act)) (answer_bytes (recorded_by b.act)) (10 ∷ u) (10 ∷ v) (answer_only (recorded_by a.act)) (answer_only (recorded_by b.act)) refl refl results in
      let answer : recorded_by a.act ≡ recorded_by b.act = same_answer (recorded_by a.act) (recorded_by b.act) (parts a.act h.1).1 (parts b.act k.1).1 ends.0 in
      let act : a.act ≡ b.act = same_act a.act b.act method numbers answer in
      let tails : u ≡ v = let rest = ends.1 in cc in
      (λ keys. both_parts a.object b.object a.act b.act (same_place a b h k dots.0 keys) act, tails)
