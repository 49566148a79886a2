-- Proof machinery: the shared log of a machine and its target meet the conditions on a certificate.
use Rattle.std.proofs.Common.{◌≡◌, IsTrue, List, [], ◌∷◌, map, sym, subst, inl, inr, refl}
use Rattle.pp_model.specs.Config.{Config, SharedEntry, shared_item, shared_ops}
use Rattle.pp_model.specs.Lists.{Each, In}
use Rattle.pp_model.specs.Object.{Item}
use Rattle.pp_model.specs.Sound.{Sound}
use Rattle.pp_kind.specs.Object.{AllRanged, IsLawful, Object, rules_of}
use Rattle.pp_certificate_exchanges.specs.Exchanges.{Permutes}
use Rattle.pp_certificate_exchanges.specs.Laws.{InvertedSwap, log_of, target_of}
use Rattle.pp_certificate_exchanges.proofs.Targets.{log_fits, targets}

module _ {Shape State Op Undo : Type 0} (o : Object Shape State Op Undo) (laws : IsLawful o) (shape : Shape) (c : Config Op) (sound : Sound (rules_of o shape) c) where
  -- The target of a sound configuration is a permutation of its shared log.
  pub permutes : (log target : List (Item Op)) → log ≡ log_of c → target ≡ target_of c → Permutes log target
  permutes log target log_is target_is =
      subst (λ (l : List (Item Op)). Permutes l target) (sym log_is) (subst (λ (l : List (Item Op)). Permutes (log_of c) l) (sym target_is) ((targets o laws).permutes shape c sound))

  -- Each pair of entries that the log and the target of a sound configuration order differently swaps, in every shape.
  pub swap : (log target : List (Item Op)) → log ≡ log_of c → target ≡ target_of c → InvertedSwap o log target
  swap log target log_is target_is =
      subst (λ (l : List (Item Op)). InvertedSwap o l target) (sym log_is) (subst (λ (l : List (Item Op)). InvertedSwap o (log_of c) l) (sym target_is) ((targets o laws).swaps shape c sound))

  -- Each entry is an operation of these objects, in the range of records.
  pub fit : AllRanged o (shared_ops c.shared) → Each (λ p. IsTrue (o.fits shape p.op) × IsTrue (o.ranged p.op)) (log_of c)
  fit ranged = go c.shared ranged (log_fits o laws shape c sound)
    where
      go : (G : List (SharedEntry Op)) → AllRanged o (shared_ops G) → ((p : Item Op) → In p (map shared_item G) → IsTrue (o.fits shape p.op)) → Each (λ p. IsTrue (o.fits shape p.op) × IsTrue (o.ranged p.op)) (map shared_item G)
      go [] r f = tt
      go (g ∷ G) r f = ((f (shared_item g) (inl refl), r.0), go G r.1 (λ p i. f p (inr i)))
