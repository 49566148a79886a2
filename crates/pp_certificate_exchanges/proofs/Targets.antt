-- Proof machinery: the shared log and its target.
use Rattle.std.proofs.Common.{◌≡◌, IsTrue, List, [], ◌∷◌, Option, Some, None, refl, sym, ap, subst}
use Rattle.std.proofs.Common.{◌∙◌, inl, inr}
use Rattle.pp_model.specs.Lists.{In}
use Rattle.pp_model.specs.Object as model
use Rattle.pp_model.specs.Object.{Item, Reorders}
use Rattle.pp_model.specs.Config.{Config, SharedEntry, shared_item, shared_ops}
use Rattle.pp_model.specs.Sound.{Sound}
use Rattle.pp_model.proofs.Lists.{from_map, before_in_first, before_in_second}
use Rattle.pp_model.proofs.Serial.{reorders, ordered}
use Rattle.pp_kind.specs.Object.{Object, IsLawful, IsRefutedBy, AllowedFrom, Swaps, SwapsIn}
use Rattle.pp_kind.specs.Object.{rules_of}
use Rattle.pp_certificate_exchanges.specs.Laws.{log_of, target_of, TargetLaw}

-- The shared log of a sound configuration may be reordered to its target.
pub in_order : {Op State : Type 0} (O : model.Object Op State) (c : Config Op) → Sound O c →
    Reorders O (log_of c) (target_of c)
in_order O c s = reorders O c.shared c.done (ordered O c s)

module _ {Shape State Op Undo : Type 0} (o : Object Shape State Op Undo) (laws : IsLawful o) where
  refuted_pair : (shape : Shape) (a b : Op) → IsTrue (o.fits shape a) → IsTrue (o.fits shape b) →
      SwapsIn o shape a b →
      (r : Option (List Op × List Op)) → IsRefutedBy o a b r → r ≡ None
  refuted_pair shape a b f g s None h = refl
  refuted_pair shape a b f g s (Some lists) h =
      absurd (h.changed shape f g (s.always lists.0 lists.1 (h.allowed shape f g)))

  -- A pair that swaps in one shape that it fits swaps in all.
  pub swaps_everywhere : (shape : Shape) (a b : Op) → IsTrue (o.fits shape a) →
      IsTrue (o.fits shape b) → SwapsIn o shape a b → Swaps o a b
  swaps_everywhere shape a b f g s = (laws.unrefuted a b).0
      (refuted_pair shape a b f g s (o.refuting a b) (laws.refuted a b))

  allowed_fits : (s : State) (shape : Shape) (l : List Op) (a : Op) → o.shape s ≡ shape →
      AllowedFrom o s l → In a l → IsTrue (o.fits shape a)
  allowed_fits s shape [] a e h i = elim i [ ]
  allowed_fits s shape (b ∷ l) a e h (inl u) =
      subst (λ (w : Op). IsTrue (o.fits shape w)) (sym u)
      (subst (λ (w : Shape). IsTrue (o.fits w b)) e h.0.0)
  allowed_fits s shape (b ∷ l) a e h (inr i) =
      allowed_fits (o.next s b) shape l a (laws.next_shape s b h.0 ∙ e) h.1 i

  -- Each entry of the shared log of a sound configuration fits the shape.
  pub log_fits : (shape : Shape) (c : Config Op) → Sound (rules_of o shape) c → (p : Item Op) →
      In p (log_of c) → IsTrue (o.fits shape p.op)
  log_fits shape c s p i =
      let m = from_map shared_item p c.shared i in
      subst (λ (w : Item Op). IsTrue (o.fits shape w.op)) (sym m.2)
      (allowed_fits (o.start shape) shape (shared_ops c.shared) (m.0).op (laws.start_shape shape)
      s.shared_allowed (stands m.0 c.shared m.1))
    where
      stands : (g : SharedEntry Op) (G : List (SharedEntry Op)) → In g G → In g.op (shared_ops G)
      stands g [] h = elim h [ ]
      stands g (z ∷ G) (inl e) = inl (ap (λ (w : SharedEntry Op). w.op) e)
      stands g (z ∷ G) (inr h) = inr (stands g G h)

  -- The target of a sound configuration permutes its log, and inverted pairs of it swap.
  pub targets : TargetLaw o
  targets = record {
    permutes = λ shape c s.
        let r = in_order (rules_of o shape) c s in
        record {
          distinct_x = r.distinct_x;
          distinct_y = r.distinct_y;
          into = r.into;
          back =
              r.back;
        };
    swaps = λ shape c s p q i.
        let r = in_order (rules_of o shape) c s in
        swaps_everywhere shape p.op q.op (log_fits shape c s p (before_in_first p q (log_of c) i.0))
        (log_fits shape c s q (before_in_second p q (log_of c) i.0)) (r.turned p q i.0 i.1);
  }
