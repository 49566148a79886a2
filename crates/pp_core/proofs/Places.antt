-- The position of a name among distinct names, and that each object has one.
use Rattle.std.proofs.Common.{◌≡◌, ℕ, zero, suc, false, List, [], ◌∷◌, ◌++◌, Option, None, Some}
use Rattle.std.proofs.Common.{slice_get, position, refl, is_some, true≢false, subst}
use Rattle.std.specs.List.{IsDistinct}
use Rattle.std.specs.Map.{keys_of}
use Rattle.std.specs.Str.{bytes_eq}
use Rattle.std.proofs.lemmas.Cmp.{nat_list_eq_equiv}
use Rattle.indexmap.proofs.MapLemmas.{index-first}
use Rattle.indexmap.proofs.RemoveLemmas.{own_first}
use Rattle.pp_core.specs.Catalogs.{Objects, HasNames}
use Rattle.pp_core.specs.Names.{IsName}
use Rattle.pp_core.specs.declared.call.Kind.{Kind}

-- an object is found at its place
pub found_at_place : {K : Type 0} (es : List (List ℕ × K)) (i : ℕ) (e : List ℕ × K) → IsDistinct bytes_eq (keys_of es) → slice_get es i ≡ Some e → position (bytes_eq e.0) (keys_of es) ≡ Some i
found_at_place es i e distinct at = index-first (bytes_eq e.0) es i (own_first bytes_eq nat_list_eq_equiv es i e.0 e.1 distinct at)

-- An object of this name is at the place.
named_at : {K : Type 0} (es : List (List ℕ × K)) (i : ℕ) (name : List ℕ) → slice_get (keys_of es) i ≡ Some name
    → (e : List ℕ × K) × (slice_get es i ≡ Some e) × (e.0 ≡ name)
named_at [] i name h = absurd (cc)
named_at (e ∷ es) zero name h = (e, refl, cc)
named_at (e ∷ es) (suc i) name h = named_at es i name h

-- a name is found at its place
name_at_place : {K : Type 0} (es : List (List ℕ × K)) (i : ℕ) (name : List ℕ) → IsDistinct bytes_eq (keys_of es)
    → slice_get (keys_of es) i ≡ Some name → position (bytes_eq name) (keys_of es) ≡ Some i
name_at_place es i name distinct at =
    let found = named_at es i name at in
    subst (λ n. position (bytes_eq n) (keys_of es) ≡ Some i) found.2 (found_at_place es i found.0 distinct found.1)

-- two places with one name are one place
pub one_place : {K : Type 0} (es : List (List ℕ × K)) → IsDistinct bytes_eq (keys_of es) → (name : List ℕ) (i j : ℕ)
    → slice_get (keys_of es) i ≡ Some name → slice_get (keys_of es) j ≡ Some name → i ≡ j
one_place es distinct name i j at_i at_j =
    let first = name_at_place es i name distinct at_i in
    let second = name_at_place es j name distinct at_j in
    cc

-- If `is_some` is false, the option is none.
pub is_none_of : {A : Type 0} (o : Option A) → is_some o ≡ false → o ≡ None
is_none_of None h = refl
is_none_of (Some x) h = absurd (true≢false h)

-- objects that are named, with one more
pub with_named : (before : Objects) (e : List ℕ × Kind) → HasNames before → IsName e.0 → HasNames (before ++ e ∷ [])
with_named [] e h name = (name, tt)
with_named (x ∷ xs) e h name = (h.0, with_named xs e h.1 name)
