-- A body is read back.
use Rattle.std.proofs.Common.{◌≡◌, ◌≤◌, ◌==◌, ℕ, zero, suc, ℤ, pos, negsuc, IsTrue, List, [], ◌∷◌}
use Rattle.std.proofs.Common.{map, take, true, Option, Some, None, Result, Ok, refl, ap, ◌∙◌, arith, le-leb}
use Rattle.std.proofs.lemmas.Bool.{and_from}
use Rattle.serde_json.specs.Data.{object}
use Rattle.serde_json.specs.View.{items_of}
use Rattle.pp_core.specs.Catalogs.{Objects}
use Rattle.pp_core.specs.Trees.{Tree, Trees, Skip, One, Seq, Alt, Star, NoPart, Part, trees, IsWithin, is_within, nodes, depth}
use Rattle.pp_core.specs.declared.body.Pattern.{Pattern}
use Rattle.pp_core.specs.declared.call.Kind.{Kind}
use Rattle.pp_kind.specs.Found.{is_ranged_found}
use Rattle.pp_objects.specs.Calls.{arity_of}
use Rattle.pp_text.proofs.Arguments.{few}
use Rattle.pp_format_read.specs.declared.fault.RecordFault.{RecordFault}
use Rattle.pp_format_read.specs.Reading.{◌>>=◌}
use Rattle.pp_format_read.specs.Members.{count}
use Rattle.pp_format_read.specs.Calls.{number_from}
use Rattle.pp_format_read.specs.Patterns.{wanted, wanted_at, body_text, target_of, wanted_of, pattern_of}
use Rattle.pp_format_read.specs.Bodies.{forms, leaf_of, as_seq, as_alt, as_star, body_of, bodies_of, bodies_in, seq_among, alt_among, star_among, small_body_of, body_given}
use Rattle.pp_format_write.specs.Bodies.{arity_on, pattern_arity, pattern_members, body_value, part_values}
use Rattle.pp_format_write.specs.Operations.{number_or_null, arguments_value}
use Rattle.pp_format_write.specs.Statable.{IsCatalog, IsPatternOn, IsStatablePattern, if_wanted, EachCall, EachCallIn, HasChoices, HaveChoices, IsStatableBody}
use Rattle.pp_format_write.proofs.NamesBack.{object_back}
use Rattle.pp_format_write.proofs.OperationsBack.{named_back}

-- ---- what is wanted of the arguments
wanted_back : (n : Option ℤ) → IsTrue (is_ranged_found n) → wanted (number_or_null n) ≡ Ok n
unfolding wanted number_from
wanted_back None h = refl
wanted_back (Some (pos n)) h = rw h refl
wanted_back (Some (negsuc n)) h = rw h refl

record AreBack (arity : ℕ) (x y z : Option ℤ) : Type 0 where
  counted : (count (items_of (map number_or_null (take arity (x ∷ y ∷ z ∷ [])))) == arity) ≡ true
  first : wanted_at 0 (arguments_value arity x y z) ≡ Ok (if_wanted 0 arity x)
  second : wanted_at 1 (arguments_value arity x y z) ≡ Ok (if_wanted 1 arity y)
  third : wanted_at 2 (arguments_value arity x y z) ≡ Ok (if_wanted 2 arity z)

back : (arity : ℕ) (x y z : Option ℤ) → arity ≤ 3 → IsTrue (is_ranged_found x) → IsTrue (is_ranged_found y) → IsTrue (is_ranged_found z) → AreBack arity x y z
unfolding wanted_at
back zero x y z le near also too = record { counted = refl; first = refl; second = refl; third = refl }
back (suc zero) x y z le near also too = record { counted = refl; first = wanted_back x near; second = refl; third = refl }
back (suc (suc zero)) x y z le near also too = record { counted = refl; first = wanted_back x near; second = wanted_back y also; third = refl }
back (suc (suc (suc zero))) x y z le near also too = record { counted = refl; first = wanted_back x near; second = wanted_back y also; third = wanted_back z too }
back (suc (suc (suc (suc n)))) x y z le near also too = absurd (omega arith)

-- ---- a pattern
module _ (catalog : Objects) (cat : IsCatalog catalog) where
  module _ (p : Pattern) (kind : Kind) (h : IsPatternOn catalog p kind) where
    arity_is : pattern_arity catalog p ≡ arity_of kind p.method
    arity_is = ap (λ (o : Option Kind). arity_on o p.method) h.call.there

    target_is : target_of catalog (object (pattern_members catalog p)) ≡ Ok (p.object, kind, p.method)
    unfolding target_of body_text
    target_is = rw (object_back catalog p.object kind cat h.call.there, named_back kind p.method h.call.method) refl

    pattern_is : pattern_of catalog (object (pattern_members catalog p)) ≡ Ok p
    unfolding pattern_of wanted_of
    pattern_is =
        let b = back (arity_of kind p.method) p.first p.second p.third (few kind p.method) h.first.ranged h.second.ranged h.third.ranged in
        rw (target_is, arity_is, b.counted, b.first, b.second, b.third, h.first.used, h.second.used, h.third.used) refl

  -- ---- a body
  abbrev listed : Trees → List Tree
  listed NoPart = []
  listed (Part b bs) = b ∷ listed bs

  as_listed : (bs : Trees) → trees (listed bs) ≡ bs
  as_listed NoPart = refl
  as_listed (Part b bs) = ap (Part b) (as_listed bs)

  mutual
    unfolding forms leaf_of body_of bodies_of bodies_in seq_among alt_among star_among

    body_is : (b : Tree) → EachCall (IsStatablePattern catalog) b → HasChoices b → body_of catalog (body_value catalog b) ≡ Ok b
    body_is Skip h c = refl
    body_is (One p) h c = ap (λ (r : Result Pattern RecordFault). r >>= λ q. Ok (One q)) (pattern_is p h.0 h.1)
    body_is (Seq bs) h c = ap as_seq (parts_are bs h c) ∙ ap (λ (l : Trees). Ok (Seq l)) (as_listed bs)
    body_is (Alt NoPart) h c = absurd c
    body_is (Alt (Part b bs)) h c = ap as_alt (parts_are (Part b bs) h c) ∙ ap (λ (l : Trees). Ok (Alt l)) (as_listed (Part b bs))
    body_is (Star b) h c = ap as_star (body_is b h c)

    parts_are : (bs : Trees) → EachCallIn (IsStatablePattern catalog) bs → HaveChoices bs → bodies_in catalog (part_values catalog bs) ≡ Ok (listed bs)
    parts_are NoPart h c = refl
    parts_are (Part b bs) h c = rw (body_is b h.0 c.0, parts_are bs h.1 c.1) refl

  within : (b : Tree) → IsWithin b → is_within b ≡ true
  unfolding is_within
  within b h = and_from _ _ (le-leb (nodes b) 64 h.0) (le-leb (depth b) 16 h.1)

  -- The value of a body that can be stated is read as this body.
  pub body_back : (b : Tree) → IsStatableBody catalog b → body_given catalog (Some (body_value catalog b)) ≡ Ok (Some b)
  unfolding small_body_of
  body_back b h = rw (body_is b h.calls h.choices, within b h.small) refl
