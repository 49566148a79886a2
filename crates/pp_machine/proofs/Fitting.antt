-- Operations of the logs of a sound configuration fit its shape, and serial lists of ranged operations.
use Rattle.std.proofs.Common.{ℕ, Some, ◌≡◌, IsTrue, List, [], ◌∷◌, ◌++◌, ap, sym, ◌∙◌, subst}
use Rattle.std.proofs.Common.{inl, inr}
use Rattle.std.proofs.lemmas.List.{append-nil}
use Rattle.pp_core.specs.declared.entry.CommittedTx.{CommittedTx}
use Rattle.pp_core.specs.declared.entry.LocalEntry.{LocalEntry}
use Rattle.pp_core.specs.declared.entry.SharedEntry.{SharedEntry}
use Rattle.pp_model.specs.Config.{Mark, Tx, at_mark, local_ops, own_items, tx, Config, shared_ops}
use Rattle.pp_model.specs.Config.{uncommitted}
use Rattle.pp_model.specs.Lists.{In}
use Rattle.pp_model.specs.Sound.{serial_items, serial_ops, Sound}
use Rattle.pp_model.proofs.Lists.{in_map, from_map, in_cases}
use Rattle.pp_model.proofs.Logs.{found_mark, found_tx, from_own}
use Rattle.pp_model.proofs.Serial.{allowed_front, from_serial, ordered, serial_law, to_serial}
use Rattle.pp_kind.specs.Object.{Object, AllRanged, IsAllowed, IsLawful, rules_of}
use Rattle.pp_kind.proofs.Fitting.{fits_in, in_ranged, ranged_in}

module _ {Shape State Op Undo : Type 0} (o : Object Shape State Op Undo) where
  -- each operation of a log of a sound configuration fits
  module _ (laws : IsLawful o) (shape : Shape) (c : Config Op) (s : Sound (rules_of o shape) c) where
    -- Each entry of the local log of an open transaction fits the shape.
    pub local_fits : (t : _) (x : Tx Op) → tx t c.opened ≡ Some x → (e : LocalEntry Op) → In e x.local → IsTrue (o.fits shape e.op)
    local_fits t x h e i = fits_in o laws shape (local_ops x.local) (s.local_allowed x (found_tx t c.opened x h).0) e.op (in_map (λ (z : LocalEntry Op). z.op) e x.local i)

    -- Each entry of the shared log fits the shape.
    pub shared_fits : (u : SharedEntry Op) → In u c.shared → IsTrue (o.fits shape u.op)
    shared_fits u i = fits_in o laws shape (shared_ops c.shared) s.shared_allowed u.op (in_map (λ (z : SharedEntry Op). z.op) u c.shared i)

    -- An entry found by its id and mark in a local log fits the shape.
    pub marked_fits : (t : _) (x : Tx Op) → tx t c.opened ≡ Some x → (id : ℕ) (m : Mark) (e : LocalEntry Op) → at_mark id m x.local ≡ Some e → IsTrue (o.fits shape e.op)
    marked_fits t x h id m e k = local_fits t x h e (found_mark id m x.local e k).0

  -- With the own operations of a ranged log after it, a ranged serial list stays ranged.
  pub serial_more : (D : List (CommittedTx Op)) (d : CommittedTx Op) (l : List (LocalEntry Op)) → AllRanged o (serial_ops D) → AllRanged o (local_ops l) → d.entries ≡ own_items l → AllRanged o (serial_ops (D ++ d ∷ []))
  serial_more D d l h r e = in_ranged o (serial_ops (D ++ d ∷ [])) (λ a i.
      let p = from_map (λ q. q.op) a (serial_items (D ++ d ∷ [])) i in
      let s = from_serial (D ++ d ∷ []) p.0 p.1 in
      elim (in_cases s.0 D (d ∷ []) s.1) [
        | inl j ↦ ranged_in o (serial_ops D) h a (subst (λ (z : Op). In z (serial_ops D)) (sym p.2) (in_map (λ q. q.op) p.0 (serial_items D) (to_serial D s.0 p.0 j s.2)))
        | inr (inl j) ↦
            let w = from_own l p.0 (subst (λ z. In p.0 z) (ap (λ (z : CommittedTx Op). z.entries) j ∙ e) s.2) in
            ranged_in o (local_ops l) r a (subst (λ (z : Op). In z (local_ops l)) (sym (p.2 ∙ ap (λ q. q.op) w.3)) (in_map (λ q. q.op) w.0 l w.1))
        | inr (inr j) ↦ absurd j
      ])

  -- the operations of the committed transactions are allowed
  pub serial_allowed : (shape : Shape) (c : Config Op) → Sound (rules_of o shape) c → IsAllowed o shape (serial_ops c.done)
  serial_allowed shape c s =
      allowed_front (rules_of o shape) (o.start shape) (serial_ops c.done) (shared_ops (uncommitted c.shared) ++ [])
      (serial_law (rules_of o shape) c.shared c.done [] (ordered (rules_of o shape) c s) (subst (λ (z : List Op). IsAllowed o shape z) (sym (append-nil (shared_ops c.shared))) s.shared_allowed))
