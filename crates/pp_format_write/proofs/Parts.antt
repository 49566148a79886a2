-- The parts of a body, one by one.
use Rattle.std.proofs.Common.{◌≡◌, ◌<◌, ℕ, zero, suc, List, [], ◌∷◌, length, get_or, map, codes, slice_get, Option, Some, option_map, refl, ap, subst, sym, ◌∙◌, arith, rules}
use Rattle.std.proofs.lemmas.Option.{slice_get-map}
use Rattle.serde_json.specs.Data.{Data, array, object, Items, item, no_members, member}
use Rattle.serde_json.specs.View.{items_of}
use Rattle.pp_core.specs.Catalogs.{Objects}
use Rattle.pp_core.specs.Trees.{Tree, Seq, Alt, tree, trees_of}
use Rattle.pp_core.specs.declared.body.Body.{Body, the_lemmas}
use Rattle.pp_core.specs.declared.body.Body.TheVariants as body
use Rattle.pp_core.specs.declared.body.Pattern.{Pattern}
use Rattle.pp_core.specs.declared.call.Kind.{Kind}
use Rattle.pp_objects.specs.Calls.{HasMethod, arity_of}
use Rattle.pp_objects.specs.Objects.{kinds_of}
use Rattle.pp_format_write.specs.Bodies.{arity_on, pattern_arity, seq_value, alt_value, body_value, part_values}
use Rattle.pp_format_write.specs.Statable.{EachCall, EachCallIn, IsKnown}
use Rattle.pp_format_write.proofs.Operations.{below}

-- The values of the trees of some parts are the values of the parts, one by one.
pub parts_are : (catalog : Objects) (parts : List Body) → part_values catalog (trees_of parts) ≡ items_of (map (λ b. body_value catalog (tree b)) parts)
parts_are catalog [] = refl
parts_are catalog (b ∷ bs) = ap (item (body_value catalog (tree b))) (parts_are catalog bs)

-- If each call of some parts is known, so is each call of the part at an index.
pub known_at : (catalog : Objects) (parts : List Body) (i : ℕ) (b : Body) → EachCallIn (IsKnown catalog) (trees_of parts) → i < length parts → b ≡ get_or parts i b
    → EachCall (IsKnown catalog) (tree b)
known_at catalog [] i b h lt is = absurd (omega arith)
known_at catalog (x ∷ xs) zero b h lt is = subst (λ (y : Body). EachCall (IsKnown catalog) (tree y)) (sym is) h.0
known_at catalog (x ∷ xs) (suc i) b h lt is = known_at catalog xs i b h.1 (omega arith) is

seq_tree : (parts : List Body) → tree (body.Seq parts) ≡ Seq (trees_of parts)
seq_tree parts = search (rules, the_lemmas)

alt_tree : (parts : List Body) → tree (body.Alt parts) ≡ Alt (trees_of parts)
alt_tree parts = search (rules, the_lemmas)

-- The sequence of the values of the parts of a sequence is the value of this sequence.
pub seq_is : (catalog : Objects) (parts : List Body) (b : Body) (ds : List Data) → b ≡ body.Seq parts → ds ≡ map (λ b. body_value catalog (tree b)) parts → seq_value ds ≡ body_value catalog (tree b)
seq_is catalog parts b ds is e =
    ap (λ (l : List Data). seq_value l) e
    ∙ ap (λ (l : Items). object (member (codes "seq") (array l) no_members)) (sym (parts_are catalog parts))
    ∙ ap (λ (t : Tree). body_value catalog t) (sym (seq_tree parts) ∙ ap tree (sym is))

-- The choice among the values of the parts of a choice is the value of this choice.
pub alt_is : (catalog : Objects) (parts : List Body) (b : Body) (ds : List Data) → b ≡ body.Alt parts → ds ≡ map (λ b. body_value catalog (tree b)) parts → alt_value ds ≡ body_value catalog (tree b)
alt_is catalog parts b ds is e =
    ap (λ (l : List Data). alt_value l) e
    ∙ ap (λ (l : Items). object (member (codes "alt") (array l) no_members)) (sym (parts_are catalog parts))
    ∙ ap (λ (t : Tree). body_value catalog t) (sym (alt_tree parts) ∙ ap tree (sym is))

-- ---- the object of a pattern
some_is : (x y : Kind) → Some x ≡ Some y → x ≡ y
some_is x y e = cc

kind_of : (catalog : Objects) (i : ℕ) (entry : List ℕ × Kind) → slice_get catalog i ≡ Some entry → slice_get (kinds_of catalog) i ≡ Some entry.1
kind_of catalog i entry at = slice_get-map (λ (e : List ℕ × Kind). e.1) catalog i ∙ ap (λ o. option_map (λ (e : List ℕ × Kind). e.1) o) at

-- The number of arguments of a pattern is that of its method on the kind of its object.
pub arity_is : (catalog : Objects) (p : Pattern) (entry : List ℕ × Kind) → slice_get catalog p.object ≡ Some entry → pattern_arity catalog p ≡ arity_of entry.1 p.method
arity_is catalog p entry at = ap (λ (o : Option Kind). arity_on o p.method) (kind_of catalog p.object entry at)

-- If a pattern is known, the kind of its object has its method.
pub known_there : (catalog : Objects) (p : Pattern) (entry : List ℕ × Kind) → IsKnown catalog p → slice_get catalog p.object ≡ Some entry → HasMethod entry.1 p.method
known_there catalog p entry h at =
    let same : h.0 ≡ entry.1 = some_is h.0 entry.1 (sym h.1.there ∙ kind_of catalog p.object entry at) in
    subst (λ (k : Kind). HasMethod k p.method) same h.1.method

-- If a pattern is known, the index of its object is below the number of objects.
pub known_below : (catalog : Objects) (p : Pattern) → IsKnown catalog p → p.object < length catalog
known_below catalog p h = below catalog p.object h.0 h.1.there
