-- Meaning: what the objects of a run mean: at each place one object, of which an operation knows
-- the place.
use Rattle.std.specs.Prelude.{◌≡◌, ℕ, Bool, false, nat_eq, if◌then◌else◌, List, map, slice_set}
use Rattle.std.specs.Prelude.{Option, Some, None, option_map}
use Rattle.std.specs.List.{slice_get}
use Rattle.pp_core.specs.Catalogs as catalogs
use Rattle.pp_core.specs.declared.answer.Answer.{Answer}
use Rattle.pp_core.specs.declared.answer.Answer.TheVariants.{None as NoAnswer}
use Rattle.pp_core.specs.declared.call.Kind.{Kind}
use Rattle.pp_kind.specs.Object.{Object}
use Rattle.pp_kind_memory.specs.declared.undo.Undo.{Undo}
use Rattle.pp_kind_memory.specs.declared.undo.Undo.TheVariants.{Nothing}
use Rattle.pp_objects.specs.declared.act.Act.{Act}
use Rattle.pp_objects.specs.declared.act.Op.{Op}
use Rattle.pp_objects.specs.declared.states.ObjectState.{ObjectState}
use Rattle.pp_objects.specs.One.{one, both_as}

-- the act on the object at a place
abbrev pub act_at : ℕ → Act → Op
act_at p a = record { object = p; act = a }

-- the list with this at a place, if there is one
abbrev pub put : {X : Type 0} → List X → ℕ → Option X → List X
put xs p None = xs
put xs p (Some x) = slice_set xs p x

-- it is an act on the object of this kind, if there is one
abbrev pub fits_in : Object Kind ObjectState Act Undo → Option Kind → Act → Bool
fits_in o None a = false
fits_in o (Some kind) a = o.fits kind a

-- the result of the object at a place, and the undo value that it keeps for an act
abbrev pub gives_in : Object Kind ObjectState Act Undo → Option ObjectState → Act → Answer
gives_in o None a = NoAnswer
gives_in o (Some s) a = o.gives s a

-- the undo value that the object at a place keeps for an act
abbrev pub kept_in : Object Kind ObjectState Act Undo → Option ObjectState → Act → Undo
kept_in o None a = Nothing
kept_in o (Some s) a = o.upkeep.kept s a

-- several objects, each of which means this by itself
abbrev pub many : Object Kind ObjectState Act Undo → Object (List Kind) (List ObjectState) Op Undo
many o = record {
  start = λ kinds. map o.start kinds;
  shape = λ ss. map o.shape ss;
  fits = λ kinds op. fits_in o (slice_get kinds op.object) op.act;
  ranged = λ op. o.ranged op.act;
  call = λ op. record (o.call op.act) { object = op.object };
  recorded = λ op. o.recorded op.act;
  gives = λ ss op. gives_in o (slice_get ss op.object) op.act;
  next = λ ss op. put ss op.object (option_map (λ s. o.next s op.act) (slice_get ss op.object));
  refuting = λ a b. if nat_eq a.object b.object then both_as (act_at a.object)
      (o.refuting a.act b.act) else None;
  upkeep = record {
    IsState = λ ss. (p : ℕ) (s : ObjectState) → slice_get ss p ≡ Some s → o.upkeep.IsState s;
    kept = λ ss op. kept_in o (slice_get ss op.object) op.act;
    back = λ ss op undo. put ss op.object
        (option_map (λ s. o.upkeep.back s op.act undo) (slice_get ss op.object));
    in_clique = λ op. o.upkeep.in_clique op.act;
  };
}

-- the objects of a run, of any kinds
abbrev pub objects : Object (List Kind) (List ObjectState) Op Undo
objects = many one

-- the kinds of the objects of a catalog
abbrev pub kinds_of : catalogs.Objects → List Kind
kinds_of catalog = map (λ entry. entry.1) catalog

-- the place of an operation's object
abbrev pub place_of : Op → ℕ
place_of op = op.object

-- the object at a place is one in both states
abbrev pub SameAt : ℕ → List ObjectState → List ObjectState → Type 0
SameAt p ss ts = slice_get ss p ≡ slice_get ts p
