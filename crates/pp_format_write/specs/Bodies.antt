-- Meaning: the value of a body, an object with its members in the order of their names.
use Rattle.std.specs.Prelude.{ℕ, List, codes, true, Option, Some, None, slice_get}
use Rattle.serde_json.specs.Data.{Data, boolean, string, array, object, Items, no_items, item}
use Rattle.serde_json.specs.Data.{Members, no_members, member}
use Rattle.serde_json.specs.View.{items_of}
use Rattle.pp_core.specs.Catalogs.{Objects}
use Rattle.pp_core.specs.Trees.{Tree, Trees, Skip, One, Seq, Alt, Star, NoPart, Part}
use Rattle.pp_core.specs.Words.{method_word}
use Rattle.pp_core.specs.declared.body.Pattern.{Pattern}
use Rattle.pp_core.specs.declared.call.Kind.{Kind}
use Rattle.pp_core.specs.declared.call.Method.{Method}
use Rattle.pp_objects.specs.Calls.{arity_of}
use Rattle.pp_objects.specs.Objects.{kinds_of}
use Rattle.pp_text.specs.Texts.{name_at}
use Rattle.pp_format_write.specs.Operations.{arguments_value}

-- how many arguments a method has on an object of the kind, if there is one
abbrev pub arity_on : Option Kind → Method → ℕ
arity_on None method = 0
arity_on (Some kind) method = arity_of kind method

-- how many arguments the calls of a pattern have
abbrev pub pattern_arity : Objects → Pattern → ℕ
pattern_arity catalog p = arity_on (slice_get (kinds_of catalog) p.object) p.method

-- the members of a pattern of calls
abbrev pub pattern_members : Objects → Pattern → Members
pattern_members catalog p =
    member (codes "args") (arguments_value (pattern_arity catalog p) p.first p.second p.third)
    (member (codes "call") (string (method_word p.method))
    (member (codes "on") (string (name_at catalog p.object)) no_members))

-- the value of parts one after another
abbrev pub seq_value : List Data → Data
seq_value parts = object (member (codes "seq") (array (items_of parts)) no_members)

-- the value of a choice of parts
abbrev pub alt_value : List Data → Data
alt_value parts = object (member (codes "alt") (array (items_of parts)) no_members)

-- the members of a body, and the values of its parts
abbrev mutual
  -- the members of a body
  pub body_members : Objects → Tree → Members
  body_members catalog Skip = member (codes "skip") (boolean true) no_members
  body_members catalog (One p) = pattern_members catalog p
  body_members catalog (Seq bs) =
      member (codes "seq") (array (part_values catalog bs)) no_members
  body_members catalog (Alt bs) =
      member (codes "alt") (array (part_values catalog bs)) no_members
  body_members catalog (Star b) =
      member (codes "star") (object (body_members catalog b)) no_members

  -- the values of some parts
  pub part_values : Objects → Trees → Items
  part_values catalog NoPart = no_items
  part_values catalog (Part b bs) =
      item (object (body_members catalog b)) (part_values catalog bs)

-- the value of a body
abbrev pub body_value : Objects → Tree → Data
body_value catalog b = object (body_members catalog b)
