-- Meaning: the body that a value is. Each fault in it at any depth is that the body is bad.
use Rattle.std.specs.Prelude.{ℕ, ◌+◌, ◌==◌, List, [], ◌∷◌, codes, Bool, true, false, is_some, not}
use Rattle.std.specs.Prelude.{Option, Some, None, unwrap_or, Result, Ok, Err, if◌then◌else◌, cond}
use Rattle.std.specs.Ordering.{nat_cmp, match_ordering}
use Rattle.std.specs.Cmp.Lexicographic.{slice_cmp}
use Rattle.serde_json.specs.Data.{Data, Items, no_items, item, Members, no_members, member, null}
use Rattle.serde_json.specs.Data.{boolean, number, string, array, object}
use Rattle.serde_json.specs.Find.{get, as_bool}
use Rattle.pp_core.specs.Catalogs.{Objects}
use Rattle.pp_core.specs.Trees.{Tree, Skip, One, Seq, Alt, Star, trees, is_within}
use Rattle.pp_format_read.specs.declared.fault.RecordFault.{RecordFault}
use Rattle.pp_format_read.specs.declared.fault.RecordFault.TheVariants.{BodyBad, BodyTooLarge}
use Rattle.pp_format_read.specs.Reading.{◌>>=◌, fault_if}
use Rattle.pp_format_read.specs.Patterns.{pattern_of}

-- whether it has a member, as 1 or 0
abbrev pub present : List ℕ → Data → ℕ
present key value = cond (is_some (get key value)) 1 0

-- the number of the five members that it has
unfoldable pub forms : Data → ℕ
forms value =
    present (codes "seq") value + present (codes "alt") value + present (codes "star") value
    + present (codes "skip") value + present (codes "on") value

-- the body of the member `skip`: only true is a body
abbrev pub skip_in : Option Bool → Result Tree RecordFault
skip_in (Some true) = Ok Skip
skip_in (Some false) = Err BodyBad
skip_in None = Err BodyBad

-- a skip if that member is there, else a pattern
abbrev pub leaf_in : Objects → Data → Option Data → Result Tree RecordFault
leaf_in objects value (Some skip) = skip_in (as_bool skip)
leaf_in objects value None = pattern_of objects value >>= λ p. Ok (One p)

-- a skip or a pattern
unfoldable pub leaf_of : Objects → Data → Result Tree RecordFault
leaf_of objects value = leaf_in objects value (get (codes "skip") value)

-- no part
abbrev pub is_none : List Tree → Bool
is_none [] = true
is_none (b ∷ bs) = false

-- the parts, one after another
abbrev pub as_seq : Result (List Tree) RecordFault → Result Tree RecordFault
as_seq read = read >>= λ bs. Ok (Seq (trees bs))

-- any one of the parts, of which there is one at least
abbrev pub as_alt : Result (List Tree) RecordFault → Result Tree RecordFault
as_alt read = read >>= λ bs. (if is_none bs then Err BodyBad else Ok (Alt (trees bs)))

-- the body any number of times
abbrev pub as_star : Result Tree RecordFault → Result Tree RecordFault
as_star read = read >>= λ b. Ok (Star b)

-- the first of these forms that is there, else a skip or a pattern
abbrev pub form_of : Objects → Data → Option (Result Tree RecordFault) →
    Option (Result Tree RecordFault)
    → Option (Result Tree RecordFault) → Result Tree RecordFault
form_of objects value seq alt star =
    if forms value == 1 then unwrap_or seq (unwrap_or alt (unwrap_or star (leaf_of objects value)))
    else Err BodyBad

-- a body, the three members that hold bodies, and the bodies of an array
unfoldable mutual
  -- the body that a value is
  pub body_of : Objects → Data → Result Tree RecordFault
  body_of objects (object ms) =
      form_of objects (object ms) (seq_among objects ms) (alt_among objects ms)
      (star_among objects ms)
  body_of objects null = Err BodyBad
  body_of objects (boolean b) = Err BodyBad
  body_of objects (number n) = Err BodyBad
  body_of objects (string s) = Err BodyBad
  body_of objects (array ds) = Err BodyBad

  -- the sequence among the members, if there is one
  pub seq_among : Objects → Members → Option (Result Tree RecordFault)
  seq_among objects no_members = None
  seq_among objects (member k d ms) =
      match_ordering (slice_cmp nat_cmp (codes "seq") k)
      (seq_among objects ms) (Some (as_seq (bodies_of objects d))) (seq_among objects ms)

  -- the choice among the members, if there is one
  pub alt_among : Objects → Members → Option (Result Tree RecordFault)
  alt_among objects no_members = None
  alt_among objects (member k d ms) =
      match_ordering (slice_cmp nat_cmp (codes "alt") k)
      (alt_among objects ms) (Some (as_alt (bodies_of objects d))) (alt_among objects ms)

  -- the repetition among the members, if there is one
  pub star_among : Objects → Members → Option (Result Tree RecordFault)
  star_among objects no_members = None
  star_among objects (member k d ms) =
      match_ordering (slice_cmp nat_cmp (codes "star") k)
      (star_among objects ms) (Some (as_star (body_of objects d))) (star_among objects ms)

  -- the bodies of an array
  pub bodies_of : Objects → Data → Result (List Tree) RecordFault
  bodies_of objects (array ds) = bodies_in objects ds
  bodies_of objects null = Err BodyBad
  bodies_of objects (boolean b) = Err BodyBad
  bodies_of objects (number n) = Err BodyBad
  bodies_of objects (string s) = Err BodyBad
  bodies_of objects (object ms) = Err BodyBad

  -- the bodies of the elements of an array
  pub bodies_in : Objects → Items → Result (List Tree) RecordFault
  bodies_in objects no_items = Ok []
  bodies_in objects (item d ds) =
      body_of objects d >>= λ b. (bodies_in objects ds >>= λ bs. Ok (b ∷ bs))

-- a body that is within the limits
unfoldable pub small_body_of : Objects → Data → Result Tree RecordFault
small_body_of objects value = do
  body ← body_of objects value
  few ← fault_if (not (is_within body)) BodyTooLarge
  Ok body

-- no body if it is missing or null
abbrev pub body_given : Objects → Option Data → Result (Option Tree) RecordFault
body_given objects None = Ok None
body_given objects (Some null) = Ok None
body_given objects (Some value) = small_body_of objects value >>= λ body. Ok (Some body)

-- the body of a begin
unfoldable pub body_of_begin : Objects → Data → Result (Option Tree) RecordFault
body_of_begin objects value = body_given objects (get (codes "body") value)
