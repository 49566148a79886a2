-- Proof machinery: a log with one more entry.
use Rattle.std.proofs.Common.{◌≡◌, IsTrue, List, [], ◌∷◌, ◌++◌, Result, Ok, Err, OnOk, sym, subst}
use Rattle.std.proofs.lemmas.List.{map-append}
use Rattle.pp_model.specs.Object.{Item, ops}
use Rattle.pp_kind.specs.Object.{Object, IsLegal, IsLog, IsLawful}
use Rattle.pp_kind.proofs.Lists.{log_grows}

-- A fact that is true anyway is true if a result is `Ok`.
pub on_ok : {A B : Type 0} (P : Type 0) (r : Result A B) → P → OnOk r P
on_ok P (Ok a) p = p
on_ok P (Err e) p = tt

module _ {Shape State Op Undo : Type 0} (o : Object Shape State Op Undo) (laws : IsLawful o) where
  -- A log goes on with an entry whose result is the object's.
  pub entry_logged : (s t : State) (l m : List (Item Op)) (p : Item Op) → IsLog o s (ops l) →
      IsTrue (o.fits (o.shape s) p.op) → IsTrue (o.ranged p.op) →
      o.gives s p.op ≡ o.recorded p.op → t ≡ o.next s p.op → m ≡ l ++ p ∷ [] → IsLog o t (ops m)
  entry_logged s t l m p h f r g e k =
      let legal : IsLegal o s p.op = (f, g) in
      let grown : IsLog o (o.next s p.op) (ops l ++ p.op ∷ []) =
      log_grows o s (ops l) p.op h legal r (laws.next_shape s p.op legal) in
      let there : IsLog o (o.next s p.op) (ops (l ++ p ∷ [])) =
      subst (λ (w : List Op). IsLog o (o.next s p.op) w)
      (sym (map-append (λ (w : Item Op). w.op) l (p ∷ []))) grown in
      subst (λ (w : List (Item Op)). IsLog o t (ops w)) (sym k)
      (subst (λ (w : State). IsLog o w (ops (l ++ p ∷ []))) (sym e) there)

-- A log is one of the same entries in the same state.
pub unchanged_logged : {Shape State Op Undo : Type 0} (o : Object Shape State Op Undo) (s t : State)
    (l m : List (Item Op)) → IsLog o s (ops l) → t ≡ s → m ≡ l → IsLog o t (ops m)
unchanged_logged {Shape} {State} {Op} {Undo} o s t l m h e k =
    subst (λ (w : List (Item Op)). IsLog o t (ops w)) (sym k)
    (subst (λ (w : State). IsLog o w (ops l)) (sym e) h)
