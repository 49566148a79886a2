-- A slot that was lent by its name and is returned.
use Rattle.std.specs.Prelude.{◌≡◌, Bool, true, false, cond, List, [], ◌∷◌, Option, None, Some, IfNone}
use Rattle.std.specs.Map.{lookup, set_value}
use Rattle.std.proofs.Common.{refl, sym, ap, ◌∙◌}
use Rattle.std.proofs.lemmas.Option.{same_Some}
use Rattle.indexmap.specs.IndexMap.{IndexMap, WritesThrough, hasher_of, spare}
use Rattle.indexmap.specs.Layout.{hash_map}

-- Setting the value of a key to the value that it has changes nothing.
set_same : {K X : Type 0} (test : K → Bool) (es : List (K × X)) (x : X) → lookup test es ≡ Some x → set_value test es x ≡ es
set_same test [] x e = refl
set_same {K} {X} test (d ∷ es) x e = by (test d.0) e (set_same test es x)
  where
    by : (b : Bool) → cond b (Some d.1) (lookup test es) ≡ Some x → (lookup test es ≡ Some x → set_value test es x ≡ es) → cond b ((d.0, x) ∷ es) (d ∷ set_value test es x) ≡ d ∷ es
    by true q k = ap (λ (z : X). (d.0, z) ∷ es) (sym (same_Some d.1 x q))
    by false q k = ap (λ (w : List (K × X)). d ∷ w) (k q)

same_map : {K X S : Type 0} (m n : IndexMap K X S) → n.entries ≡ m.entries → hasher_of n ≡ hasher_of m → spare n ≡ spare m → n ≡ m
same_map {K} {X} {S} m n p q r =
    ap (λ (z : List (K × X)). hash_map z (hasher_of n) (spare n)) p
    ∙ ap (λ (z : S). hash_map m.entries z (spare n)) q
    ∙ ap (λ z. hash_map m.entries (hasher_of m) z) r

-- If a slot is returned as it was, the map is as it was.
pub given_back : {K X S : Type 0} (eq : K → K → Bool) (test : K → Bool) (m n : IndexMap K X S) (x : X) → lookup test m.entries ≡ Some x → WritesThrough eq test m x n → n ≡ m
given_back eq test m n x there w = same_map m n (w.0 ∙ set_same test m.entries x there) w.5 w.6

-- If a slot that was empty is emptied, the map is as it was.
pub empty_before : {K X S : Type 0} (eq : K → K → Bool) (test : K → Bool) (m n : IndexMap K (Option X) S) (slot left taken : Option X) → lookup test m.entries ≡ Some slot → taken ≡ slot → left ≡ None →
    WritesThrough eq test m left n → IfNone taken (n ≡ m)
empty_before eq test m n slot left (Some x) there was is w = tt
empty_before {X = X} eq test m n slot left None there was is w = given_back eq test m n left (there ∙ ap (λ (s : Option X). Some s) (sym was ∙ sym is)) w
