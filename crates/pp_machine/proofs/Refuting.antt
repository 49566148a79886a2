-- If the fact of a criterion is true for a detail that reports something, the criterion is false.
use Rattle.std.proofs.Common.{◌≡◌, ◌≢◌, ℕ, zero, suc, IsTrue, List, [], ◌∷◌, ◌++◌, Option, Some}
use Rattle.std.proofs.Common.{None, refl, sym, ap, ◌∙◌}
use Rattle.pp_model.specs.Config.{Config, Step, Begin, App, Unapp, Push, Unpush, Pull, Unpull, Cmt}
use Rattle.pp_model.specs.Config.{Quit, Note, Unpushed, Pushed, Pulled, at_mark, is_own, item}
use Rattle.pp_model.specs.Config.{local_ops, of_other, shared_item, shared_ops, tx, without_local}
use Rattle.pp_model.specs.Config.{without_shared}
use Rattle.pp_model.specs.Rules.{criteria, there}
use Rattle.pp_model.specs.Sound.{Sound}
use Rattle.pp_model.proofs.Lists.{before_in_first, before_in_second}
use Rattle.pp_model.proofs.Logs.{found_other}
use Rattle.pp_kind.specs.Object.{Object, IsAllowed, IsLawful, SwapsIn, rules_of}
use Rattle.pp_kind.proofs.Lists.{allowed-second, refuted_nowhere}
use Rattle.pp_machine.specs.Shown.{FailsAt, HoldsAtNumber, TellsOther, TellsRefuted, facts}
use Rattle.pp_machine.specs.Shown.{if_there as facts_there}
use Rattle.pp_machine.specs.declared.detail.Detail.{Detail}
use Rattle.pp_machine.specs.declared.detail.Detail.TheVariants.{Nothing}
use Rattle.pp_machine.proofs.Fitting.{local_fits, marked_fits, shared_fits}
use Rattle.pp_machine.proofs.Removing.{differs_not}

module _ {Shape State Op Undo : Type 0} (o : Object Shape State Op Undo) (laws : IsLawful o) (shape : Shape) where
  module _ (detail : Detail Op) (told : detail ≢ Nothing) where
    -- Criterion by criterion: if the fact is true for the detail, the criterion is false.
    abbrev Against : List (Type 0) → List (Detail Op → Type 0) → Type 0
    Against [] [] = Unit {0}
    Against [] (S ∷ Ss) = ⊥
    Against (p ∷ ps) [] = Unit {0}
    Against (p ∷ ps) (S ∷ Ss) = (S detail → p → ⊥) × Against ps Ss

    against_at : (ps : List (Type 0)) (Ss : List (Detail Op → Type 0)) (n : ℕ) → Against ps Ss → HoldsAtNumber o Ss (suc n) detail → FailsAt ps (suc n)
    against_at [] [] n a h = elim h [ ]
    against_at [] (S ∷ Ss) n a h = elim a [ ]
    against_at (p ∷ ps) [] n a h = elim h [ ]
    against_at (p ∷ ps) (S ∷ Ss) zero a h = a.0 h
    against_at (p ∷ ps) (S ∷ Ss) (suc n) a h = against_at ps Ss n a.1 h

    against_there : {A : Type 0} (q : Option A) (f : A → List (Type 0)) (k : A → List (Detail Op → Type 0)) → ((x : A) → q ≡ Some x → Against (f x) (k x)) → Against (there q f) (facts_there o q k)
    against_there None f k h = ((λ e p. told e), tt)
    against_there (Some x) f k h = ((λ e p. told e), h x refl)

    -- another result than the recorded one, and lists that refute a pair
    other_not : (l : List Op) (id : ℕ) (op : Op) → TellsOther o shape l id op detail → IsAllowed o shape (l ++ op ∷ []) → ⊥
    other_not l id op r h = r.1 (allowed-second o (o.start shape) l (op ∷ []) h).0.1

    refuted_not : (id : ℕ) (a b : Op) → TellsRefuted o id a b detail → IsTrue (o.fits shape a) → IsTrue (o.fits shape b) → SwapsIn o shape a b → ⊥
    refuted_not id a b r f g = refuted_nowhere o a b (r.0, r.1) r.2 shape f g

    module _ (c : Config Op) (s : Sound (rules_of o shape) c) where
      all_against : (step : Step Op) → Against (criteria (rules_of o shape) c step) (facts o shape c step)
      all_against (Begin t p b) = ((λ e p. told e), ((λ e p. told e), tt))
      all_against (App t id op) = against_there (tx t c.opened) _ _ (λ x h. ((λ e p. told e), ((λ e p. told e), ((λ r. other_not (local_ops x.local) id op r), tt))))
      all_against (Unapp t id) = against_there (tx t c.opened) _ _ (λ x h. ((λ e p. told e), tt))
      all_against (Push t id) = against_there (tx t c.opened) _ _ (λ x h. against_there (at_mark id Unpushed x.local) _ _ (λ e k.
          let fits = marked_fits o laws shape c s t x h id Unpushed e k in (
            (λ r all. refuted_not (r.0).id e.op (r.0).op r.4 fits (local_fits o laws shape c s t x h r.0 (before_in_first r.0 e x.local r.1)) (all r.0 r.1 r.2)),
            ((λ r all. refuted_not (r.0).id (r.0).op e.op r.5 (shared_fits o laws shape c s r.0 r.1) fits (all r.0 r.1 r.2 r.3)), ((λ r. other_not (shared_ops c.shared) id e.op r), tt)),
          )))
      all_against (Unpush t id) = against_there (tx t c.opened) _ _ (λ x h. against_there (at_mark id Pushed x.local) _ _ (λ e k.
          let fits = marked_fits o laws shape c s t x h id Pushed e k in (
            (λ r all. refuted_not (r.0).id (r.0).op e.op r.4 (local_fits o laws shape c s t x h r.0 (before_in_second e r.0 x.local r.1)) fits (all r.0 r.1 r.2)),
            ((λ r. differs_not o shared_item shape (without_shared id c.shared) r.0 r.1 r.2), tt),
          )))
      all_against (Pull t id) = against_there (tx t c.opened) _ _ (λ x h. against_there (of_other t id c.shared) _ _ (λ g k. (
        (λ e p. told e),
        (
          (λ r. other_not (local_ops x.local) id g.op r),
          ((λ r all. refuted_not (r.0).id (r.0).op g.op r.4 (local_fits o laws shape c s t x h r.0 r.1) (shared_fits o laws shape c s g (found_other t id c.shared g k).0) (all r.0 r.1 r.2)), tt),
        ),
      )))
      all_against (Unpull t id) = against_there (tx t c.opened) _ _ (λ x h. against_there (at_mark id Pulled x.local) _ _ (λ e k. ((λ r. differs_not o item shape (without_local id x.local) r.0 r.1 r.2), tt)))
      all_against (Cmt t) = against_there (tx t c.opened) _ _ (λ x h. (
        (λ e p. told e),
        (
          (λ r all. let z : Unpushed ≡ Pushed = sym r.2 ∙ all r.0 r.1 (ap is_own r.2) in cc),
          ((λ r all. r.3 (all r.0 r.1 r.2)), tt),
        ),
      ))
      all_against (Quit t) = against_there (tx t c.opened) _ _ (λ x h. ((λ r p. let z : (r.0 ∷ r.1) ≡ [] = sym r.2 ∙ p in cc), tt))
      all_against (Note t) = against_there (tx t c.opened) _ _ (λ x h. tt)

  -- If the fact of a criterion is true for a detail that reports something, the criterion is false.
  pub refutes : (c : Config Op) (step : Step Op) (n : ℕ) (detail : Detail Op) → Sound (rules_of o shape) c → HoldsAtNumber o (facts o shape c step) (suc n) detail → detail ≢ Nothing → FailsAt (criteria (rules_of o shape) c step) (suc n)
  refutes c step n detail s h told = against_at detail told (criteria (rules_of o shape) c step) (facts o shape c step) n (all_against detail told c s step) h
