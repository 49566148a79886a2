-- The result of `Name::read`, as `name_from`.
use Rattle.std.proofs.Common.{◌≡◌, ◌≤◌, ◌↔◌, ℕ, List, Option, true, false, Some, None, IsTrue}
use Rattle.std.proofs.Common.{length, refl, sym, ◌∙◌, ap, cond, arith, rules}
use Rattle.std.specs.Prelude.{IsSome, IfSome}
use Rattle.std.specs.List.{list_all}
use Rattle.std.proofs.lemmas.Grind.{common_steps}
use Rattle.pp_core.specs.declared.limits.TheConstants.{LONGEST_NAME}
use Rattle.pp_core.specs.Names.{IsName, is_name_byte}
use Rattle.pp_format_read.specs.Members.{is_name, name_from}

is_name_test : (text : List ℕ) → IsName text → is_name text ≡ true
is_name_test text h =
    let some = h.some in
    let few = h.few in
    let bytes = h.bytes in
    grind (arith, common_steps)

-- A text for which `is_name` is true is a name.
pub is_name_fact : (text : List ℕ) → is_name text ≡ true → IsName text
is_name_fact text e =
    let some : 1 ≤ length text = grind (arith, common_steps) in
    let few : length text ≤ LONGEST_NAME = grind (arith, common_steps) in
    let bytes : IsTrue (list_all is_name_byte text) = grind (arith, common_steps) in
    record { some = some; few = few; bytes = bytes }

-- The result is the text, if the text is a name.
pub name_is : (text : List ℕ) (answer : Option (List ℕ)) → IfSome answer (λ name. name ≡ text) → IsSome answer ↔ IsName text → answer ≡ name_from text
unfolding name_from
name_is text (Some name) same read =
    let named : IsName text = read.0 (search rules) in
    ap Some same ∙ sym (ap (λ b. cond b (Some text) None) (is_name_test text named))
name_is text None same read =
    elim (is_name text) as (λ b. is_name text ≡ b → None ≡ cond b (Some text) None) [
      | true ↦ λ e. let some : IsSome {T = List ℕ} None = read.1 (is_name_fact text e) in cc
      | false ↦ λ e. refl
    ] refl
