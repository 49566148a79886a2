-- The text of a body.
use Rattle.std.proofs.Common.{◌≡◌, ◌≤◌, ◌+◌, ◌*◌, ℕ, zero, suc, ℤ, IsTrue, List, length}
use Rattle.std.proofs.Common.{map, take, [], ◌∷◌, Option, Some, None, refl, ap, arith}
use Rattle.serde_json.specs.Data.{Num, object, items_depth}
use Rattle.serde_json.specs.Data.{depth as data_depth}
use Rattle.serde_json.specs.View.{items_of}
use Rattle.pp_core.specs.Catalogs.{Objects, HasNames}
use Rattle.pp_core.specs.Trees.{Tree, Trees, Skip, One, Seq, Alt, Star, NoPart, Part, nodes, depth}
use Rattle.pp_core.specs.Trees.{nodes_of_all, depth_of_all}
use Rattle.pp_core.specs.Words.{method_word}
use Rattle.pp_core.specs.declared.body.Pattern.{Pattern}
use Rattle.pp_core.specs.declared.call.Kind.{Kind}
use Rattle.pp_core.specs.declared.call.Kind.TheVariants as kinds
use Rattle.pp_core.specs.declared.call.Method.{Method}
use Rattle.pp_core.specs.declared.call.Method.TheVariants as methods
use Rattle.pp_objects.specs.Calls.{arity_of}
use Rattle.pp_kind.specs.Found.{is_ranged_found}
use Rattle.pp_format_write.specs.Bodies.{pattern_arity, pattern_members, body_value}
use Rattle.pp_format_write.specs.Bodies.{part_values, arity_on}
use Rattle.pp_format_write.specs.Operations.{number_or_null, arguments_value}
use Rattle.pp_format_write.specs.Statable.{IsKnown, IsStatablePattern, EachCall, EachCallIn}
use Rattle.pp_format_write.proofs.Texts.{IsTidy, AreTidy, HasTidy, IsWhole, IsNear, width, items_width}
use Rattle.pp_format_write.proofs.Names.{named_at}
use Rattle.pp_format_write.proofs.Operations.{below, method_is_word, whole_integer, near_integer}
use Rattle.pp_format_write.proofs.Operations.{IfNumber, arguments_tidy}

-- a pattern that can be stated is a pattern of calls of its object's kind
known : (catalog : Objects) (p : Pattern) → IsStatablePattern catalog p → IsKnown catalog p
known catalog p h = (h.0, h.1.call)

mutual
  -- If each call of a body can be stated, each is a call of its object's kind.
  pub each_known : (catalog : Objects) (b : Tree) → EachCall (IsStatablePattern catalog) b → EachCall (IsKnown catalog) b
  each_known catalog Skip h = tt
  each_known catalog (One p) h = known catalog p h
  each_known catalog (Seq bs) h = all_known catalog bs h
  each_known catalog (Alt bs) h = all_known catalog bs h
  each_known catalog (Star b) h = each_known catalog b h

  all_known : (catalog : Objects) (bs : Trees) → EachCallIn (IsStatablePattern catalog) bs → EachCallIn (IsKnown catalog) bs
  all_known catalog NoPart h = tt
  all_known catalog (Part b bs) h = (each_known catalog b h.0, all_known catalog bs h.1)

-- ---- its texts are words, and its numbers have a property

-- the value of a pattern is tidy
IsTidyAt : (Num → Type 0) → Objects → Pattern → Type 0
IsTidyAt P catalog p = HasTidy P (pattern_members catalog p)

pattern_tidy : (P : Num → Type 0) (catalog : Objects) (p : Pattern) → HasNames catalog → IsKnown catalog p
    → IfNumber P p.first → IfNumber P p.second → IfNumber P p.third → IsTidyAt P catalog p
unfolding IsTidyAt
pattern_tidy P catalog p names h first second third =
    let name = named_at catalog p.object names (below catalog p.object h.0 h.1.there) in
    (refl, arguments_tidy P (pattern_arity catalog p) p.first p.second p.third first second third, (refl, method_is_word p.method, (refl, name.bytes, tt)))

whole_given : (n : Option ℤ) → IfNumber IsWhole n
whole_given None = tt
whole_given (Some z) = whole_integer z

near_given : (n : Option ℤ) → IsTrue (is_ranged_found n) → IfNumber IsNear n
near_given None h = tt
near_given (Some z) h = near_integer z h

whole_pattern : (catalog : Objects) → HasNames catalog → (p : Pattern) → IsKnown catalog p → IsTidyAt IsWhole catalog p
whole_pattern catalog names p h = pattern_tidy IsWhole catalog p names h (whole_given p.first) (whole_given p.second) (whole_given p.third)

near_pattern : (catalog : Objects) → HasNames catalog → (p : Pattern) → IsStatablePattern catalog p → IsTidyAt IsNear catalog p
near_pattern catalog names p h =
    pattern_tidy IsNear catalog p names (known catalog p h) (near_given p.first h.1.first.ranged) (near_given p.second h.1.second.ranged) (near_given p.third h.1.third.ranged)

module _ (P : Num → Type 0) (catalog : Objects) (Q : Pattern → Type 0) (each : (p : Pattern) → Q p → IsTidyAt P catalog p) where
  mutual
    unfolding IsTidyAt

    body_tidy : (b : Tree) → EachCall Q b → IsTidy P (body_value catalog b)
    body_tidy Skip h = (refl, (refl, tt, tt))
    body_tidy (One p) h = (refl, each p h)
    body_tidy (Seq bs) h = (refl, (refl, parts_tidy bs h, tt))
    body_tidy (Alt bs) h = (refl, (refl, parts_tidy bs h, tt))
    body_tidy (Star b) h = (refl, (refl, body_tidy b h, tt))

    parts_tidy : (bs : Trees) → EachCallIn Q bs → AreTidy P (part_values catalog bs)
    parts_tidy NoPart h = tt
    parts_tidy (Part b bs) h = (body_tidy b h.0, parts_tidy bs h.1)

-- If all objects have names and each call of a body is known, the value of the body is tidy, with whole numbers.
pub whole_body : (catalog : Objects) (b : Tree) → HasNames catalog → EachCall (IsKnown catalog) b → IsTidy IsWhole (body_value catalog b)
whole_body catalog b names h = body_tidy IsWhole catalog (IsKnown catalog) (whole_pattern catalog names) b h

-- If all objects have names and each call of a body can be stated, the value of the body is tidy, with numbers within 10^18.
pub near_body : (catalog : Objects) (b : Tree) → HasNames catalog → EachCall (IsStatablePattern catalog) b → IsTidy IsNear (body_value catalog b)
near_body catalog b names h = body_tidy IsNear catalog (IsStatablePattern catalog) (near_pattern catalog names) b h

-- ---- how deep and how long it is
flat : (n : Option ℤ) → data_depth (number_or_null n) ≡ 0
flat None = refl
flat (Some z) = refl

first_flat : (arity : ℕ) (ns : List (Option ℤ)) → items_depth (items_of (map number_or_null (take arity ns))) ≡ 0
first_flat zero ns = refl
first_flat (suc arity) [] = refl
first_flat (suc arity) (n ∷ ns) = rw (flat n, first_flat arity ns) refl

-- The value of the arguments of a call has depth 1.
pub arguments_flat : (arity : ℕ) (x y z : Option ℤ) → data_depth (arguments_value arity x y z) ≡ 1
arguments_flat arity x y z = ap suc (first_flat arity (x ∷ y ∷ z ∷ []))

mutual
  -- The value of a body is at most twice as deep as the body.
  pub body_depth : (catalog : Objects) (b : Tree) → data_depth (body_value catalog b) ≤ 2 * depth b
  body_depth catalog Skip = omega arith
  body_depth catalog (One p) = let one = arguments_flat (pattern_arity catalog p) p.first p.second p.third in omega arith
  body_depth catalog (Seq bs) = omega (arith, parts_depth catalog bs)
  body_depth catalog (Alt bs) = omega (arith, parts_depth catalog bs)
  body_depth catalog (Star b) = omega (arith, body_depth catalog b)

  parts_depth : (catalog : Objects) (bs : Trees) → items_depth (part_values catalog bs) ≤ 2 * depth_of_all bs
  parts_depth catalog NoPart = omega arith
  parts_depth catalog (Part b bs) = omega (arith, body_depth catalog b, parts_depth catalog bs)

wide : (n : Option ℤ) → width (number_or_null n) ≤ 20
wide None = omega arith
wide (Some z) = omega arith

first_wide : (arity : ℕ) (ns : List (Option ℤ)) → items_width (items_of (map number_or_null (take arity ns))) ≤ 21 * arity + 1
first_wide zero ns = omega arith
first_wide (suc arity) [] = omega arith
first_wide (suc arity) (n ∷ ns) = omega (arith, wide n, first_wide arity ns)

-- The value of n arguments has a width of at most 21 n + 2.
pub arguments_wide : (arity : ℕ) (x y z : Option ℤ) → width (arguments_value arity x y z) ≤ 21 * arity + 2
arguments_wide arity x y z = omega (arith, first_wide arity (x ∷ y ∷ z ∷ []))

-- a call's word with its arguments
pub call_wide : (kind : Kind) (m : Method) → length (method_word m) + 21 * arity_of kind m ≤ 66
call_wide kind methods.Read = omega arith
call_wide kind methods.Write = omega arith
call_wide kind methods.Cas = omega arith
call_wide kind methods.Add = omega arith
call_wide kind methods.Remove = omega arith
call_wide kind methods.Contains = omega arith
call_wide kind methods.Put = omega arith
call_wide kinds.Counter methods.Get = omega arith
call_wide kind methods.Get = omega arith
call_wide kind methods.FetchAdd = omega arith
call_wide kind methods.Enq = omega arith
call_wide kind methods.Deq = omega arith
call_wide kind methods.StackPush = omega arith
call_wide kind methods.StackPop = omega arith
call_wide kind methods.Insert = omega arith
call_wide kind methods.Take = omega arith
call_wide kind methods.Least = omega arith

pattern_wide : (catalog : Objects) (p : Pattern) → HasNames catalog → IsKnown catalog p → width (object (pattern_members catalog p)) ≤ 120
pattern_wide catalog p names h =
    let name = named_at catalog p.object names (below catalog p.object h.0 h.1.there) in
    let few = name.few in
    let same : pattern_arity catalog p ≡ arity_of h.0 p.method = ap (λ o. arity_on o p.method) h.1.there in
    omega (arith, arguments_wide (pattern_arity catalog p) p.first p.second p.third, call_wide h.0 p.method)

module _ (catalog : Objects) (names : HasNames catalog) where
  mutual
    body_wide : (b : Tree) → EachCall (IsKnown catalog) b → width (body_value catalog b) + 1 ≤ 121 * nodes b
    body_wide Skip h = omega arith
    body_wide (One p) h = omega (arith, pattern_wide catalog p names h)
    body_wide (Seq bs) h = omega (arith, parts_wide bs h)
    body_wide (Alt bs) h = omega (arith, parts_wide bs h)
    body_wide (Star b) h = omega (arith, body_wide b h)

    parts_wide : (bs : Trees) → EachCallIn (IsKnown catalog) bs → items_width (part_values catalog bs) ≤ 121 * nodes_of_all bs + 1
    parts_wide NoPart h = omega arith
    parts_wide (Part b bs) h = omega (arith, body_wide b h.0, parts_wide bs h.1)

-- If all objects have names, the value of a body of known calls, at most 64 nodes, has a width of at most 7,743.
pub body_short : (catalog : Objects) (b : Tree) → HasNames catalog → EachCall (IsKnown catalog) b → nodes b ≤ 64 → width (body_value catalog b) ≤ 7_743
body_short catalog b names h small = omega (arith, body_wide catalog names b h)
