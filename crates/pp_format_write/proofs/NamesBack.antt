-- Names are read back, and the objects that they name are found.
use Rattle.std.proofs.Common.{◌≡◌, ◌<◌, ◌+◌, ℕ, zero, suc, List, [], ◌∷◌, length, Bool, true, false}
use Rattle.std.proofs.Common.{cond, not, get_or, Some, None, slice_get, position, option_map}
use Rattle.std.proofs.Common.{unwrap_or, refl, sym, ap, ◌∙◌, arith, lt-ltb}
use Rattle.std.specs.List.{position_or_len}
use Rattle.std.specs.Map.{keys_of}
use Rattle.std.specs.Str.{bytes_eq}
use Rattle.std.proofs.lemmas.List.Quantifiers.{position-Some}
use Rattle.std.proofs.lemmas.Option.{slice_get-get_or}
use Rattle.std.proofs.lemmas.Slice.Eq.{bytes_eq-Decides}
use Rattle.pp_core.specs.Catalogs.{Objects, place_of, HasDistinctNames}
use Rattle.pp_core.specs.Names.{IsName}
use Rattle.pp_core.specs.declared.call.Kind.{Kind}
use Rattle.pp_objects.specs.Objects.{kinds_of}
use Rattle.pp_text.specs.Texts.{name_at}
use Rattle.pp_format_read.specs.Members.{name_from}
use Rattle.pp_format_read.specs.Calls.{object_named}
use Rattle.pp_format_read.proofs.Texts.{name_is}
use Rattle.pp_format_write.specs.Statable.{IsCatalog}
use Rattle.pp_format_write.proofs.Names.{named_at}
use Rattle.pp_format_write.proofs.Operations.{below}

-- A name is read as itself.
pub name_back : (text : List ℕ) → IsName text → name_from text ≡ Some text
name_back text h = sym (name_is text (Some text) refl ((λ some. h), (λ name. refl)))

-- ---- the first element that passes a test
begins : (b : Bool) (n m : ℕ) → n < m → cond (not b) (1 + n) 0 < suc m
begins true n m lt = omega arith
begins false n m lt = omega arith

passed : (b : Bool) (n m : ℕ) → b ≡ true → cond (not b) (1 + n) 0 < suc m
passed true n m e = omega arith
passed false n m e = absurd (cc)

within : {X : Type 0} (p : X → Bool) (xs : List X) (i : ℕ) (x : X) → slice_get xs i ≡ Some x → p x ≡ true → position_or_len p xs < length xs
within p [] i x at h = absurd (cc)
within p (y ∷ ys) zero x at h = let same : p y ≡ true = cc in passed (p y) (position_or_len p ys) (length ys) same
within p (y ∷ ys) (suc i) x at h = begins (p y) (position_or_len p ys) (length ys) (within p ys i x at h)

-- a place with such a name, if there is one
pub record IsFound (names : List (List ℕ)) (name : List ℕ) (j : ℕ) : Type 0 where
  pub first : position (bytes_eq name) names ≡ Some j
  pub at : slice_get names j ≡ Some name

-- If a name is in a list, the first position of an equal name is found, and the name is there.
pub found : (names : List (List ℕ)) (i : ℕ) (name : List ℕ) → slice_get names i ≡ Some name → (j : ℕ) × IsFound names name j
found names i name at =
    let j = position_or_len (bytes_eq name) names in
    let lt : j < length names = within (bytes_eq name) names i name at ((bytes_eq-Decides name name).1 refl) in
    let first : position (bytes_eq name) names ≡ Some j = ap (λ b. cond b (Some j) None) (lt-ltb j (length names) lt) in
    let facts = position-Some (bytes_eq name) names j [] first in
    let same : name ≡ get_or names j [] = (bytes_eq-Decides name (get_or names j [])).0 facts.1 in
    (j, record { first = first; at = slice_get-get_or names j [] facts.0 ∙ ap Some (sym same) })

place_back : (catalog : Objects) (i : ℕ) (name : List ℕ) → HasDistinctNames catalog → slice_get (keys_of catalog) i ≡ Some name → place_of name catalog ≡ Some i
place_back catalog i name distinct at =
    let f = found (keys_of catalog) i name at in
    f.1.first ∙ ap Some (distinct name f.0 i f.1.at at)

-- the object at a place
record IsEntry (catalog : Objects) (i : ℕ) (kind : Kind) (entry : List ℕ × Kind) : Type 0 where
  at : slice_get catalog i ≡ Some entry
  kind_is : entry.1 ≡ kind
  name : slice_get (keys_of catalog) i ≡ Some entry.0

entry_at : (catalog : Objects) (i : ℕ) (kind : Kind) → slice_get (kinds_of catalog) i ≡ Some kind → (entry : List ℕ × Kind) × IsEntry catalog i kind entry
entry_at [] i kind is = absurd (cc)
entry_at (e ∷ es) zero kind is = (e, record { at = refl; kind_is = cc; name = refl })
entry_at (e ∷ es) (suc i) kind is = let f = entry_at es i kind is in (f.0, record { at = f.1.at; kind_is = f.1.kind_is; name = f.1.name })

-- An object of a catalog is found by its name, with its kind.
pub object_back : (catalog : Objects) (i : ℕ) (kind : Kind) → IsCatalog catalog → slice_get (kinds_of catalog) i ≡ Some kind → object_named catalog (name_at catalog i) ≡ Some (i, kind)
unfolding object_named
object_back catalog i kind h is =
    let e = entry_at catalog i kind is in
    let name : name_at catalog i ≡ e.0.0 = ap (λ o. unwrap_or (option_map (λ entry. entry.0) o) []) e.1.at in
    let place : place_of (name_at catalog i) catalog ≡ Some i = rw name (place_back catalog i e.0.0 h.distinct e.1.name) in
    rw (name_back (name_at catalog i) (named_at catalog i h.named (below catalog i kind is)), place, e.1.at, e.1.kind_is) refl

-- a name that is found at a place is there
pub named_place : (catalog : Objects) (name : List ℕ) (i : ℕ) → place_of name catalog ≡ Some i → slice_get (keys_of catalog) i ≡ Some name
named_place catalog name i is =
    let names = keys_of catalog in
    let facts = position-Some (bytes_eq name) names i [] is in
    slice_get-get_or names i [] facts.0 ∙ ap Some (sym ((bytes_eq-Decides name (get_or names i [])).0 facts.1))
