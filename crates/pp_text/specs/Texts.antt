-- Meaning: the texts of results, operations and states.
use Rattle.std.specs.Prelude.{◌≡◌, ℕ, ℤ, true, false, IsTrue, List, [], ◌∷◌, ◌++◌, take, Option}
use Rattle.std.specs.Prelude.{Some, None, option_map, unwrap_or, slice_get, codes}
use Rattle.std.specs.Fmt.{signed_decimal}
use Rattle.std.specs.List.{flat_map}
use Rattle.pp_core.specs.Calls.{arguments}
use Rattle.pp_core.specs.Catalogs.{Objects}
use Rattle.pp_core.specs.Words.{method_word}
use Rattle.pp_core.specs.declared.answer.Answer.{Answer}
use Rattle.pp_core.specs.declared.answer.Answer.TheVariants.{None as NoAnswer, Number, Truth}
use Rattle.pp_core.specs.declared.call.Kind.{Kind}
use Rattle.pp_core.specs.declared.entry.Item.{Item}
use Rattle.pp_model.specs.Lists.{Each}
use Rattle.pp_objects.specs.declared.act.Act.{Act}
use Rattle.pp_objects.specs.declared.act.Op.{Op}
use Rattle.pp_objects.specs.declared.pieces.Piece.{Piece}
use Rattle.pp_objects.specs.declared.states.ObjectState.{ObjectState}
use Rattle.pp_objects.specs.Calls.{arity_of}
use Rattle.pp_objects.specs.Objects.{objects, kinds_of}
use Rattle.pp_objects.specs.One.{kind_for, call_of, recorded_by}
use Rattle.pp_objects.specs.Pieces.{pieces_at}

-- the object that an operation names is in the catalog, with the kind of its act
abbrev pub IsNamed : Objects → Op → Type 0
IsNamed catalog op = IsTrue (objects.fits (kinds_of catalog) op)

-- the objects that these operations name are in the catalog, with the kinds of their acts
abbrev pub EachNamed : Objects → List (Item Op) → Type 0
EachNamed catalog entries = Each (λ entry. IsNamed catalog entry.op) entries

-- the object at this place is there, and its state is one of its kind
abbrev pub IsObjectOf : Objects → List ObjectState → ℕ → Type 0
IsObjectOf catalog states place =
    (kind : Kind) × (slice_get (kinds_of catalog) place ≡ Some kind)
    × (slice_get (objects.shape states) place ≡ Some kind)

-- the states are those of the objects of the catalog, in their order
abbrev pub AreStatesOf : Objects → List ObjectState → Type 0
AreStatesOf catalog states = objects.shape states ≡ kinds_of catalog

-- the name of the object at this place
abbrev pub name_at : Objects → ℕ → List ℕ
name_at catalog place = unwrap_or (option_map (λ entry. entry.0) (slice_get catalog place)) []

-- a result, as `none`, `true` or `-5`
abbrev pub answer_bytes : Answer → List ℕ
answer_bytes NoAnswer = codes "none"
answer_bytes (Number n) = signed_decimal n
answer_bytes (Truth true) = codes "true"
answer_bytes (Truth false) = codes "false"

-- numbers, each after a comma
abbrev pub more_bytes : List ℤ → List ℕ
more_bytes numbers = flat_map (λ n. codes "," ++ signed_decimal n) numbers

-- numbers, separated by commas
abbrev pub arguments_bytes : List ℤ → List ℕ
arguments_bytes [] = []
arguments_bytes (n ∷ ns) = signed_decimal n ++ more_bytes ns

-- the arguments of an act, as many as its method has
abbrev pub arguments_in : Act → List ℤ
arguments_in act = take (arity_of (kind_for act) (call_of act).method) (arguments (call_of act))

-- a call with its arguments, as `write(0,5)` or `get()`
abbrev pub call_bytes : Act → List ℕ
call_bytes act =
    method_word (call_of act).method ++ codes "(" ++ arguments_bytes (arguments_in act) ++ codes ")"

-- an operation, as `m.write(0,5)=none`
abbrev pub op_bytes : Objects → Op → List ℕ
op_bytes catalog op =
    name_at catalog op.object ++ codes "." ++ call_bytes op.act ++ codes "="
    ++ answer_bytes (recorded_by op.act)

-- the key of a number that is shown, as `0=`, if it has one
abbrev pub key_bytes : Option ℤ → List ℕ
key_bytes None = []
key_bytes (Some key) = signed_decimal key ++ codes "="

-- a number that is shown, as ` 0=5` or ` 7`
abbrev pub piece_bytes : Piece → List ℕ
piece_bytes piece = codes " " ++ key_bytes piece.key ++ signed_decimal piece.value

-- the state of an object, as `state c 2` or `state m 0=5 3=-1`, without a line end
abbrev pub state_bytes : Objects → List ObjectState → ℕ → List ℕ
state_bytes catalog states place =
    codes "state " ++ name_at catalog place ++ flat_map piece_bytes (pieces_at states place)
