-- Proof machinery: operations that are applied one after another, or taken back.
use Rattle.std.specs.Prelude.{◌≡◌, ◌↔◌, ℕ, Bool, true, false, IsTrue, List, ◌++◌, map, take}
use Rattle.pp_kind.specs.Object.{IsAllowed, Object}
use Rattle.pp_model.specs.Lists.{In}
use Rattle.pp_snapshots.specs.declared.past.Made.{Made}
use Rattle.pp_snapshots.specs.declared.past.Past.{Past}
use Rattle.pp_snapshots.specs.Past.{IsPast, with_ops}

-- the operations alone
abbrev pub ops_made : {Op Undo : Type 0} → List (Made Op Undo) → List Op
ops_made l = map (λ m. m.op) l

-- all of them are at the place
abbrev pub AreThere : {Op : Type 0} → (Op → ℕ) → ℕ → List Op → Type 0
AreThere {Op} place p l = (a : Op) → In a l → place a ≡ p

-- They are of the objects, and in the range of records.
abbrev pub AreAsked : {Shape State Op Undo : Type 0} → Object Shape State Op Undo →
    Past State Op Undo → List Op → Type 0
AreAsked {Op = Op} o v l =
    (a : Op) → In a l → IsTrue (o.fits (o.shape v.state) a) × IsTrue (o.ranged a)

-- They are of the objects of a shape, and in the range of records.
abbrev pub AreOf : {Shape State Op Undo : Type 0} → Object Shape State Op Undo → Shape → List Op →
    Type 0
AreOf {Op = Op} o shape l = (a : Op) → In a l → IsTrue (o.fits shape a) × IsTrue (o.ranged a)

module _ {Shape State Op Undo : Type 0} (o : Object Shape State Op Undo) (place : Op → ℕ) where
  -- At each place they are allowed after those there.
  abbrev pub MayFollow : Shape → (ℕ → List Op) → List Op → Type 0
  MayFollow shape h l = (q : ℕ) → IsAllowed o shape (with_ops place h l q)

  -- What applying all of them returns: whether they may follow. If not, none is applied.
  abbrev pub AllFollow : Past State Op Undo → List Op → Bool → Past State Op Undo → Type 0
  AllFollow v l true w =
      (shape : Shape) (h : ℕ → List Op) → IsPast o place shape v h →
      MayFollow shape h l × IsPast o place shape w (with_ops place h l)
  AllFollow v l false w =
      (shape : Shape) (h : ℕ → List Op) → IsPast o place shape v h →
      (MayFollow shape h l → ⊥) × IsPast o place shape w h

  -- They are the last ones at their places.
  pub record CanAllGoBack (v : Past State Op Undo) (l : List Op) : Type 0 where
    pub shape : Shape
    pub ops : ℕ → List Op
    pub past : IsPast o place shape v (with_ops place ops l)

  -- what is left without them
  abbrev pub AllGoBack : Past State Op Undo → List Op → Past State Op Undo → Type 0
  AllGoBack v l w =
      (shape : Shape) (h : ℕ → List Op) → IsPast o place shape v (with_ops place h l) →
      IsPast o place shape w h

  -- Whether they may follow, and all that was applied still is.
  abbrev pub CanFollow : Past State Op Undo → List Op → Bool → Past State Op Undo → Type 0
  CanFollow v l answer w =
      (shape : Shape) (h : ℕ → List Op) → IsPast o place shape v h →
      (IsTrue answer ↔ MayFollow shape h l) × IsPast o place shape w h

  -- They may follow some operations that were applied.
  pub record FollowsSome (v : Past State Op Undo) (l : List Op) : Type 0 where
    pub shape : Shape
    pub ops : ℕ → List Op
    pub past : IsPast o place shape v ops
    pub may : MayFollow shape ops l

  -- all of them are applied
  abbrev pub AllAreDone : Past State Op Undo → List Op → Past State Op Undo → Type 0
  AllAreDone v l w =
      (shape : Shape) (h : ℕ → List Op) → IsPast o place shape v h →
      IsPast o place shape w (with_ops place h l)

  -- The answer says whether they are allowed after the first n operations at the place. All that
  -- was applied still is.
  abbrev pub TellsBehind : Past State Op Undo → ℕ → ℕ → List Op → Bool → Past State Op Undo →
      Type 0
  TellsBehind v p n l answer w =
      (shape : Shape) (h : ℕ → List Op) → IsPast o place shape v h →
      (IsTrue answer ↔ IsAllowed o shape (take n (h p) ++ l)) × IsPast o place shape w h
