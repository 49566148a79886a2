-- A body that was read can be stated.
use Rattle.std.proofs.Common.{◌≡◌, ◌<◌, ◌==◌, ℕ, zero, suc, ℤ, pos, IsTrue, Bool, true, false, cond, not, List, [], ◌∷◌, codes}
use Rattle.std.proofs.Common.{slice_get, nat_lt, nat_le, Option, Some, None, Result, Ok, Err, ok_or, option_and_then, unwrap_or, refl, ap, arith, lt-ltb}
use Rattle.std.specs.Prelude.{IfOk, IfSome}
use Rattle.std.proofs.lemmas.Bool.{and_parts, leb-true, eqb-true}
use Rattle.std.proofs.lemmas.Option.{IfSome_then}
use Rattle.std.proofs.lemmas.Result.{IfOk-weaker}
use Rattle.std.specs.Ordering.{nat_cmp, match_ordering}
use Rattle.std.specs.declared.cmp.Ordering.{Ordering}
use Rattle.std.specs.declared.cmp.Ordering.TheVariants.{Less, Equal, Greater}
use Rattle.std.specs.Cmp.Lexicographic.{slice_cmp}
use Rattle.serde_json.specs.Data.{Data, null, boolean, number, string, array, object, Items, no_items, item, Members, no_members, member}
use Rattle.serde_json.specs.Find.{get, get_item, as_bool, as_array, as_number, as_integer}
use Rattle.pp_core.specs.Catalogs.{Objects}
use Rattle.pp_core.specs.Trees.{Tree, Alt, trees, nodes, depth, IsWithin, is_within}
use Rattle.pp_core.specs.Words.{method_word}
use Rattle.pp_core.specs.declared.call.Kind.{Kind}
use Rattle.pp_core.specs.declared.call.Method.{Method}
use Rattle.pp_kind.specs.Found.{is_ranged_found}
use Rattle.pp_kind.specs.Numbers.{in_range}
use Rattle.pp_objects.specs.Calls.{HasMethod, methods_of, method_named, arity_of}
use Rattle.pp_objects.specs.Objects.{kinds_of}
use Rattle.pp_objects.proofs.Named as named
use Rattle.pp_format_read.specs.declared.fault.RecordFault.{RecordFault}
use Rattle.pp_format_read.specs.declared.fault.RecordFault.TheVariants.{BodyBad, BodyTooLarge}
use Rattle.pp_format_read.specs.Reading.{◌>>=◌, fault_if}
use Rattle.pp_format_read.specs.Members.{count}
use Rattle.pp_format_read.specs.Calls.{number_from, object_named, IsThere}
use Rattle.pp_format_read.specs.Patterns.{wanted, wanted_or_none, wanted_at, body_text, target_of, wanted_of, pattern_of}
use Rattle.pp_format_read.specs.Bodies.{forms, skip_in, leaf_in, leaf_of, is_none, as_seq, as_alt, as_star, form_of, body_of, bodies_of, bodies_in, seq_among, alt_among, star_among, small_body_of, body_given, body_of_begin}
use Rattle.pp_format_read.proofs.ReadableStarts.{behind, behind_any, found, named_there}
use Rattle.pp_format_write.specs.Statable.{IsStatablePattern, IsWanted, EachCall, EachCallIn, HasChoices, HaveChoices, IsStatableBody, IfGiven}

-- ---- what is wanted of the arguments
near : (n : ℤ) → IfSome (number_from n) (λ z. IsTrue (in_range z))
unfolding number_from
near n = by (in_range n) refl
  where
    by : (b : Bool) → in_range n ≡ b → IfSome (cond b (Some n) None) (λ z. IsTrue (in_range z))
    by true e = e
    by false e = tt

number_ranged : (o : Option ℤ) → IfOk (ok_or o BodyBad >>= λ n. (ok_or (number_from n) BodyBad >>= λ z. Ok (Some z))) (λ x. IsTrue (is_ranged_found x))
number_ranged o =
    behind_any (ok_or o BodyBad) _ _ (λ n. behind (ok_or (number_from n) BodyBad) _ (λ z. IsTrue (in_range z)) _ (found (number_from n) BodyBad _ (near n)) (λ z h. h))

wanted_ranged : (value : Data) → IfOk (wanted value) (λ x. IsTrue (is_ranged_found x))
unfolding wanted
wanted_ranged null = refl
wanted_ranged (boolean b) = number_ranged (option_and_then as_integer (as_number (boolean b)))
wanted_ranged (number n) = number_ranged (option_and_then as_integer (as_number (number n)))
wanted_ranged (string s) = number_ranged (option_and_then as_integer (as_number (string s)))
wanted_ranged (array ds) = number_ranged (option_and_then as_integer (as_number (array ds)))
wanted_ranged (object ms) = number_ranged (option_and_then as_integer (as_number (object ms)))

item_within : (ds : Items) (i : ℕ) (value : Data) → get_item i ds ≡ Some value → i < count ds
item_within no_items i value h = absurd (cc)
item_within (item d ds) zero value h = omega arith
item_within (item d ds) (suc i) value h = let lt = item_within ds i value h in omega arith

same_both : (b : Bool) (x : Option ℤ) → cond b x x ≡ x
same_both true x = refl
same_both false x = refl

-- an array of this many values
IsArrayOf : ℕ → Data → Type 0
IsArrayOf n list = (ds : Items) × (list ≡ array ds) × (count ds ≡ n)

item_wanted : (i n : ℕ) (ds : Items) → count ds ≡ n → IfOk (wanted_or_none (get_item i ds)) (IsWanted i n)
item_wanted i n ds many = by (get_item i ds) refl
  where
    by : (o : Option Data) → get_item i ds ≡ o → IfOk (wanted_or_none o) (IsWanted i n)
    by None e = record { ranged = refl; used = same_both (nat_lt i n) (Some (pos 0)) }
    by (Some value) e =
        let lt : i < n = let within = item_within ds i value e in omega arith in
        IfOk-weaker (wanted value) (λ x. IsTrue (is_ranged_found x)) (IsWanted i n)
        (λ x h. record { ranged = h; used = ap (λ b. cond b x (Some (pos 0))) (lt-ltb i n lt) }) (wanted_ranged value)

wanted_is : (i n : ℕ) (list : Data) → IsArrayOf n list → IfOk (wanted_at i list) (IsWanted i n)
unfolding wanted_at IsArrayOf
wanted_is i n list h = rw h.1 (item_wanted i n h.0 h.2)

-- ---- a pattern
array_is : (list : Data) → IfSome (as_array list) (λ ds. list ≡ array ds)
array_is null = tt
array_is (boolean b) = tt
array_is (number n) = tt
array_is (string s) = tt
array_is (array ds) = refl
array_is (object ms) = tt

exact : (m n : ℕ) → IfOk (fault_if (not (m == n)) BodyBad) (λ _. m ≡ n)
exact m n = by (m == n) refl
  where
    by : (b : Bool) → (m == n) ≡ b → IfOk (fault_if (not b) BodyBad) (λ _. m ≡ n)
    by true e = eqb-true m n e
    by false e = tt

all_wanted : (kind : Kind) (method : Method) (value : Data) → IfOk (wanted_of kind method value) (IsArrayOf (arity_of kind method))
unfolding wanted_of IsArrayOf
all_wanted kind method value =
    behind_any (ok_or (get (codes "args") value) BodyBad) _ _ (λ list.
    behind (ok_or (as_array list) BodyBad) _ (λ ds. list ≡ array ds) _ (found (as_array list) BodyBad _ (array_is list)) (λ ds is.
    behind (fault_if (not (count ds == arity_of kind method)) BodyBad) _ (λ _. count ds ≡ arity_of kind method) _ (exact (count ds) (arity_of kind method)) (λ _ many. (ds, is, many))))

method_found : (kind : Kind) (word : List ℕ) → IfSome (method_named kind word) (HasMethod kind)
method_found kind word = IfSome_then (method_named kind word) (named.found method_word word (methods_of kind)) (λ m h. h.0)

module _ (catalog : Objects) where
  -- the object is of the kind, which has the method
  IsTarget : (ℕ × Kind × Method) → Type 0
  IsTarget t = (slice_get (kinds_of catalog) t.0 ≡ Some t.1) × HasMethod t.1 t.2

  target_is : (value : Data) → IfOk (target_of catalog value) IsTarget
  unfolding target_of IsTarget
  target_is value =
      behind_any (body_text (codes "on") value) _ _ (λ on.
      behind (ok_or (object_named catalog on) BodyBad) _ (IsThere catalog) _ (found (object_named catalog on) BodyBad _ (named_there catalog on)) (λ one there.
      behind_any (body_text (codes "call") value) _ _ (λ word.
      behind (ok_or (method_named one.1 word) BodyBad) _ (HasMethod one.1) _ (found (method_named one.1 word) BodyBad _ (method_found one.1 word)) (λ m has. (there, has)))))

  pattern_is : (value : Data) → IfOk (pattern_of catalog value) (IsStatablePattern catalog)
  unfolding pattern_of IsTarget
  pattern_is value =
      behind (target_of catalog value) _ IsTarget _ (target_is value) (λ t h.
      behind (wanted_of t.1 t.2 value) _ (IsArrayOf (arity_of t.1 t.2)) _ (all_wanted t.1 t.2 value) (λ list many.
      behind (wanted_at 0 list) _ (IsWanted 0 (arity_of t.1 t.2)) _ (wanted_is 0 (arity_of t.1 t.2) list many) (λ first x.
      behind (wanted_at 1 list) _ (IsWanted 1 (arity_of t.1 t.2)) _ (wanted_is 1 (arity_of t.1 t.2) list many) (λ second y.
      behind (wanted_at 2 list) _ (IsWanted 2 (arity_of t.1 t.2)) _ (wanted_is 2 (arity_of t.1 t.2) list many) (λ third z.
      (t.1, record { call = record { there = h.0; method = h.1 }; first = x; second = y; third = z }))))))

  -- ---- a body
  abbrev IsSound : Tree → Type 0
  IsSound b = EachCall (IsStatablePattern catalog) b × HasChoices b

  abbrev AreSound : List Tree → Type 0
  AreSound bs = EachCallIn (IsStatablePattern catalog) (trees bs) × HaveChoices (trees bs)

  abbrev Reads : Result Tree RecordFault → Type 0
  Reads r = IfOk r IsSound

  of_seq : (r : Result (List Tree) RecordFault) → IfOk r AreSound → Reads (as_seq r)
  of_seq r h = behind r _ AreSound _ h (λ bs k. k)

  alt_parts : (bs : List Tree) → AreSound bs → Reads (cond (is_none bs) (Err BodyBad) (Ok (Alt (trees bs))))
  alt_parts [] h = tt
  alt_parts (b ∷ bs) h = h

  of_alt : (r : Result (List Tree) RecordFault) → IfOk r AreSound → Reads (as_alt r)
  of_alt r h = behind r _ AreSound _ h alt_parts

  of_star : (r : Result Tree RecordFault) → Reads r → Reads (as_star r)
  of_star r h = behind r _ IsSound _ h (λ b k. k)

  of_skip : (o : Option Bool) → Reads (skip_in o)
  of_skip None = tt
  of_skip (Some false) = tt
  of_skip (Some true) = (tt, tt)

  leaf : (value : Data) (o : Option Data) → Reads (leaf_in catalog value o)
  leaf value None = behind (pattern_of catalog value) _ (IsStatablePattern catalog) _ (pattern_is value) (λ p h. (h, tt))
  leaf value (Some skip) = of_skip (as_bool skip)

  or_else : (o : Option (Result Tree RecordFault)) (r : Result Tree RecordFault) → IfSome o Reads → Reads r → Reads (unwrap_or o r)
  or_else None r h k = k
  or_else (Some s) r h k = h

  if_one : (b : Bool) (r : Result Tree RecordFault) → Reads r → Reads (cond b r (Err BodyBad))
  if_one true r h = h
  if_one false r h = tt

  form : (value : Data) (seq alt star : Option (Result Tree RecordFault)) → IfSome seq Reads → IfSome alt Reads → IfSome star Reads → Reads (form_of catalog value seq alt star)
  unfolding leaf_of
  form value seq alt star h k l = if_one (forms value == 1) _ (or_else seq _ h (or_else alt _ k (or_else star _ l (leaf value (get (codes "skip") value)))))

  at_key : (o : Ordering) (rest : Option (Result Tree RecordFault)) (r : Result Tree RecordFault) → IfSome rest Reads → Reads r → IfSome (match_ordering o rest (Some r) rest) Reads
  at_key Less rest r h k = h
  at_key Equal rest r h k = k
  at_key Greater rest r h k = h

  mutual
    unfolding body_of seq_among alt_among star_among bodies_of bodies_in

    body_sound : (value : Data) → Reads (body_of catalog value)
    body_sound (object ms) = form (object ms) (seq_among catalog ms) (alt_among catalog ms) (star_among catalog ms) (seq_sound ms) (alt_sound ms) (star_sound ms)
    body_sound null = tt
    body_sound (boolean b) = tt
    body_sound (number n) = tt
    body_sound (string s) = tt
    body_sound (array ds) = tt

    seq_sound : (ms : Members) → IfSome (seq_among catalog ms) Reads
    seq_sound no_members = tt
    seq_sound (member k d ms) = at_key (slice_cmp nat_cmp (codes "seq") k) (seq_among catalog ms) (as_seq (bodies_of catalog d)) (seq_sound ms) (of_seq (bodies_of catalog d) (bodies_sound d))

    alt_sound : (ms : Members) → IfSome (alt_among catalog ms) Reads
    alt_sound no_members = tt
    alt_sound (member k d ms) = at_key (slice_cmp nat_cmp (codes "alt") k) (alt_among catalog ms) (as_alt (bodies_of catalog d)) (alt_sound ms) (of_alt (bodies_of catalog d) (bodies_sound d))

    star_sound : (ms : Members) → IfSome (star_among catalog ms) Reads
    star_sound no_members = tt
    star_sound (member k d ms) = at_key (slice_cmp nat_cmp (codes "star") k) (star_among catalog ms) (as_star (body_of catalog d)) (star_sound ms) (of_star (body_of catalog d) (body_sound d))

    bodies_sound : (value : Data) → IfOk (bodies_of catalog value) AreSound
    bodies_sound (array ds) = items_sound ds
    bodies_sound null = tt
    bodies_sound (boolean b) = tt
    bodies_sound (number n) = tt
    bodies_sound (string s) = tt
    bodies_sound (object ms) = tt

    items_sound : (ds : Items) → IfOk (bodies_in catalog ds) AreSound
    items_sound no_items = (tt, tt)
    items_sound (item d ds) =
        behind (body_of catalog d) _ IsSound _ (body_sound d) (λ b h. behind (bodies_in catalog ds) _ AreSound _ (items_sound ds) (λ bs k. ((h.0, k.0), (h.1, k.1))))

  within : (b : Tree) → IfOk (fault_if (not (is_within b)) BodyTooLarge) (λ _. IsWithin b)
  unfolding is_within
  within b = by (is_within b) refl
    where
      by : (t : Bool) → is_within b ≡ t → IfOk (fault_if (not t) BodyTooLarge) (λ _. IsWithin b)
      by true e = let parts = and_parts (nat_le (nodes b) 64) (nat_le (depth b) 16) e in (leb-true (nodes b) 64 parts.0, leb-true (depth b) 16 parts.1)
      by false e = tt

  small : (value : Data) → IfOk (small_body_of catalog value >>= λ b. Ok (Some b)) (IfGiven (IsStatableBody catalog))
  unfolding small_body_of
  small value =
      behind (small_body_of catalog value) _ (IsStatableBody catalog) _
      (behind (body_of catalog value) _ IsSound _ (body_sound value) (λ b h.
      behind (fault_if (not (is_within b)) BodyTooLarge) _ (λ _. IsWithin b) _ (within b) (λ _ few. record { calls = h.0; choices = h.1; small = few })))
      (λ b h. h)

  given : (o : Option Data) → IfOk (body_given catalog o) (IfGiven (IsStatableBody catalog))
  given None = tt
  given (Some null) = tt
  given (Some (boolean b)) = small (boolean b)
  given (Some (number n)) = small (number n)
  given (Some (string s)) = small (string s)
  given (Some (array ds)) = small (array ds)
  given (Some (object ms)) = small (object ms)

  -- If the body of a begin record is read, and there is one, it can be stated.
  pub body_read : (value : Data) → IfOk (body_of_begin catalog value) (IfGiven (IsStatableBody catalog))
  unfolding body_of_begin
  body_read value = given (get (codes "body") value)
