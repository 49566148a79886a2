-- Meaning: parts of objects that do not depend on one another.
use Rattle.std.specs.Prelude.{◌≡◌, ◌≢◌, ◌&&◌, ℕ, nat_eq, Bool, true, IsTrue}
use Rattle.std.specs.Ordering.{int_eq}
use Rattle.pp_kind.specs.Object.{IsLegal, Object}
use Rattle.pp_kind.specs.declared.part.Part.{Part}

-- whether two parts are one
abbrev pub same_part : Part → Part → Bool
same_part p q = nat_eq p.object q.object && int_eq p.key q.key

-- What a kind promises of its parts.
pub record PartsStandAlone {Shape State Op Undo : Type 0} (o : Object Shape State Op Undo)
    (place_of : Op → ℕ) (part_of : Op → Part) : Type 0 where
  -- a part is one of the object of the operation
  pub placed : (a : Op) → (part_of a).object ≡ place_of a
  -- a legal operation is still legal after one of another part
  pub legal : (s : State) (a b : Op) → part_of a ≢ part_of b → IsLegal o s a → IsLegal o s b →
      IsLegal o (o.next s a) b

-- Operations that pass this test are legal in each state that they fit.
abbrev pub AreAlwaysLegal : {Shape State Op Undo : Type 0} → Object Shape State Op Undo →
    (Op → Bool) → Type 0
AreAlwaysLegal {State = State} {Op = Op} o test =
    (s : State) (a : Op) → test a ≡ true → IsTrue (o.fits (o.shape s) a) → IsLegal o s a
