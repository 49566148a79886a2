-- What the front of style dependent keeps behind a record.
use Rattle.std.proofs.Common.{◌≡◌, ℕ, Bool, true, false, List, [], if◌then◌else◌, Option, None, Some}
use Rattle.std.proofs.Common.{Result, Ok, Err, OnOk, is_some, refl, sym, ap, subst, ◌∙◌}
use Rattle.pp_core.specs.declared.call.Kind.{Kind}
use Rattle.pp_model.specs.Config.{Config, Tx}
use Rattle.pp_model.specs.Names.{Name, ◌=ⁿ◌}
use Rattle.pp_records.specs.Expansions.{front_after, front_of_open}
use Rattle.pp_records.specs.Fronts.{Front, at_name, has_name, with_section, with_sources, without_source}
use Rattle.pp_records.specs.Records.{record_meaning}
use Rattle.pp_records.specs.declared.run_record.RunRecord.{RunRecord as RecordOf}
use Rattle.pp_styles.specs.declared.dependent.Dependent.{Dependent}
use Rattle.pp_styles.specs.SameFronts.{SameFront}
use Rattle.pp_styles.specs.Sources.{sources_in}
use Rattle.pp_styles.specs.States.{dependent_state}

-- A fact that is true anyway is true if a result is `Ok`.
pub whenever : {A E : Type 0} {P : Type 0} (r : Result A E) → P → OnOk r P
whenever (Ok x) p = p
whenever (Err e) p = tt

-- A front that is the same as that after a record is the same as that after an equal record.
pub at_record : {Op : Type 0} (f : Front) (c : Config Op) (g : Front) (rec r : RecordOf Op) → rec ≡ r → SameFront g (front_after f c (record_meaning r)) → SameFront g (front_after f c (record_meaning rec))
at_record {Op} f c g rec r is kept = subst (λ (w : RecordOf Op). SameFront g (front_after f c (record_meaning w))) (sym is) kept

either : {A : Type 0} (b : Bool) (x : A) → (if b then x else x) ≡ x
either true x = refl
either false x = refl

-- it has no section to forget
unsectioned : (ks : List Kind) (f : Dependent) (t : Name) → with_section (dependent_state ks f) t None ≡ dependent_state ks f
unsectioned ks f t = λ i.
    record {
      section = λ u. either {A = Option ℕ} (u =ⁿ t) None i;
      sources = λ u. sources_in u f.sources.entries;
      kinds = ks;
    }

-- If the sources of a transaction are forgotten, it makes no difference to end its section too.
pub forgotten : {Op : Type 0} (ks : List Kind) (f : Dependent) (t : Name) (x : Option (Tx Op)) → front_of_open x (dependent_state ks f) (λ l. with_sources (dependent_state ks f) t [])
    ≡ front_of_open x (dependent_state ks f) (λ l. with_sources (with_section (dependent_state ks f) t None) t [])
forgotten ks f t None = refl
forgotten ks f t (Some x) = ap (λ (w : Front). with_sources w t []) (sym (unsectioned ks f t))

-- If an open transaction keeps its sources but one, and each other keeps its own, the state is that after the drop, but for the order of the sources.
pub given_up : {Op : Type 0} (ks : List Kind) (old new : Dependent) (t source : Name) (x : Option (Tx Op)) → is_some x ≡ true
    → ((u v : Name) → has_name v (sources_in u new.sources.entries) ≡ has_name v (at_name t (without_source source (sources_in t old.sources.entries)) (λ w. sources_in w old.sources.entries) u))
    → SameFront (dependent_state ks new) (front_of_open x (dependent_state ks old) (λ l. with_sources (dependent_state ks old) t (without_source source ((dependent_state ks old).sources t))))
given_up ks old new t source None open_there same = cc
given_up ks old new t source (Some x) open_there same = record { kinds = refl; section = λ u. refl; sources = same }
