-- Proof machinery: the front of a list of entries.
use Rattle.std.proofs.Common.{◌≡◌, ℕ, List, ◌++◌, take, drop, sym, ap, subst, ◌∙◌}
use Rattle.std.proofs.Common.{take-append-drop}
use Rattle.std.proofs.lemmas.List.{map-append}
use Rattle.pp_model.specs.Object.{Item, ops}
use Rattle.pp_kind.specs.Object.{Object, IsAllowed, AllRanged}
use Rattle.pp_kind.proofs.Lists.{allowed-first, ranged-first}

module _ {Shape State Op Undo : Type 0} (o : Object Shape State Op Undo) where
  cut : (n : ℕ) (l : List (Item Op)) → ops l ≡ ops (take n l) ++ ops (drop n l)
  cut n l = ap (λ (w : List (Item Op)). ops w) (sym (take-append-drop n l))
      ∙ map-append (λ (w : Item Op). w.op) (take n l) (drop n l)

  -- The first entries of an allowed list are allowed.
  pub front_allowed : (shape : Shape) (n : ℕ) (l : List (Item Op)) → IsAllowed o shape (ops l) →
      IsAllowed o shape (ops (take n l))
  front_allowed shape n l h = allowed-first o (o.start shape) (ops (take n l)) (ops (drop n l))
      (subst (λ (w : List Op). IsAllowed o shape w) (cut n l) h)

  -- The first entries of a ranged list are ranged.
  pub front_ranged : (n : ℕ) (l : List (Item Op)) → AllRanged o (ops l) →
      AllRanged o (ops (take n l))
  front_ranged n l h = ranged-first o (ops (take n l)) (ops (drop n l))
      (subst (λ (w : List Op). AllRanged o w) (cut n l) h)
