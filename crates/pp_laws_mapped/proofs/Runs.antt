-- A run and the mapped run have the same steps on the same lines, and the same verdict.
use Rattle.std.specs.Prelude.{◌≡◌, ◌↔◌, ℕ, List, [], ◌∷◌, ◌++◌, map, Option}
use Rattle.std.proofs.Common.{refl, sym, ap, subst, ◌∙◌}
use Rattle.std.proofs.lemmas.List.{map-append}
use Rattle.pp_core.specs.declared.call.Kind.{Kind}
use Rattle.pp_core.specs.declared.call.Style.{Style}
use Rattle.pp_model.specs.Config.{Config, Start, Step, after_from, then}
use Rattle.pp_model.specs.Lists.{Each}
use Rattle.pp_model.specs.Object.{Object}
use Rattle.pp_model.specs.Rules.{IsVerdict}
use Rattle.pp_records.specs.Fronts.{Front, new_front}
use Rattle.pp_records.specs.Records.{RunRecord}
use Rattle.pp_records.specs.Runs.{Lined, LinedSteps, Records, Standing, after_record, bare, joined_steps, on_line, outset, steps_at}
use Rattle.pp_records.specs.Styles.{translation}
use Rattle.pp_records.proofs.Ends.{bare_append, bare_on_line}
use Rattle.pp_laws_mapped.specs.Mapped.{HasNoBody, StepHasNoBody, mapped_record, mapped_records, mapped_start, mapped_step, mapped_steps}
use Rattle.pp_laws_mapped.specs.Laws.{IsAlike, MapsObjects, MapsPlaces, steps_from}
use Rattle.pp_laws_mapped.proofs.MappedLists.{each_append, maps_turned}
use Rattle.pp_laws_mapped.proofs.MappedConfigs.{config_by, first_mapped, then_mapped}
use Rattle.pp_laws_mapped.proofs.MappedSteps.{verdict_mapped}
use Rattle.pp_laws_mapped.proofs.Expanded.{bare_steps, expanded, front_mapped, kinds_stay, over}

-- The configuration after mapped steps.
after_mapped : {A B : Type 0} (f : A → B) (c : Config A) (ss : List (Step A)) → after_from (config_by f c) (map (mapped_step f) ss) ≡ config_by f (after_from c ss)
after_mapped f c [] = refl
after_mapped f c (s ∷ ss) = ap (λ (d : Config _). after_from d (map (mapped_step f) ss)) (then_mapped f c s) ∙ after_mapped f (then c s) ss

module _ {A B : Type 0} (f : A → B) (n : ℕ → ℕ) (place : A → ℕ) (at : B → ℕ) (style : Style) (ks hs : List Kind) (places : MapsPlaces f n place at ks hs) where
  -- the state of the run
  abbrev standing : Standing Front A → Standing Front B
  standing p = record { front = over hs p.front; config = config_by f p.config }

  after : (p : Standing Front A) (r : RunRecord A) → p.front.kinds ≡ ks → after_record (translation at style hs) (standing p) (mapped_record f n r) ≡ standing (after_record (translation place style ks) p r)
  after p r is =
      ap (λ (w : Front). let q : Standing Front B = record { front = w; config = after_from (config_by f p.config) (steps_at (translation at style hs) (standing p) (mapped_record f n r)) } in q) (front_mapped f hs n p.front p.config r)
      ∙ ap (λ (d : Config B). let q : Standing Front B = record { front = over hs (after_record (translation place style ks) p r).front; config = d } in q)
      (ap (after_from (config_by f p.config)) (expanded f n place at ks hs places style p.front p.config r is) ∙ after_mapped f p.config (steps_at (translation place style ks) p r))

  steps_mapped : (p : Standing Front A) (rs : Records (RunRecord A)) → p.front.kinds ≡ ks → joined_steps (translation at style hs) (standing p) (mapped_records f n rs) ≡ mapped_steps f (joined_steps (translation place style ks) p rs)
  steps_mapped p [] is = refl
  steps_mapped p (r ∷ rs) is =
      let T = translation place style ks in
      let U = translation at style hs in
      ap (λ (ss : List (Step B)). on_line r.line ss ++ joined_steps U (after_record U (standing p) (mapped_record f n r.what)) (mapped_records f n rs)) (expanded f n place at ks hs places style p.front p.config r.what is)
      ∙ ap (λ (q : Standing Front B). on_line r.line (map (mapped_step f) (steps_at T p r.what)) ++ joined_steps U q (mapped_records f n rs)) (after p r.what is)
      ∙ ap (λ (ss : LinedSteps B). on_line r.line (map (mapped_step f) (steps_at T p r.what)) ++ ss) (steps_mapped (after_record T p r.what) rs (kinds_stay p.front p.config r.what ∙ is))
      ∙ ap (λ (ss : LinedSteps B). ss ++ mapped_steps f (joined_steps T (after_record T p r.what) rs))
      (maps_turned (mapped_step f) (λ (s : Step A). record { line = r.line; what = s }) (λ (s : Lined (Step A)). record { line = s.line; what = mapped_step f s.what }) (λ (s : Step B). record { line = r.line; what = s }) (steps_at T p r.what) (λ s. refl))
      ∙ sym (map-append (λ (s : Lined (Step A)). record { line = s.line; what = mapped_step f s.what }) (on_line r.line (steps_at T p r.what)) (joined_steps T (after_record T p r.what) rs))

  -- The steps of a run.
  from_mapped : (h : Option (Start A)) (rs : Records (RunRecord A)) → steps_from at style hs (mapped_start f h) (mapped_records f n rs) ≡ mapped_steps f (steps_from place style ks h rs)
  from_mapped h rs =
      ap (λ (c : Config B). joined_steps (translation at style hs) (record { front = new_front hs; config = c }) (mapped_records f n rs)) (first_mapped f h)
      ∙ steps_mapped (outset (translation place style ks) h) rs refl

-- No begin among the steps of records without bodies has a body.
pub bare_joined : {A : Type 0} (place : A → ℕ) (style : Style) (ks : List Kind) (p : Standing Front A) (rs : Records (RunRecord A)) → Each HasNoBody (bare rs) → Each StepHasNoBody (bare (joined_steps (translation place style ks) p rs))
bare_joined place style ks p [] h = tt
bare_joined place style ks p (r ∷ rs) h =
    let T = translation place style ks in
    subst (λ (w : List (Step _)). Each StepHasNoBody w) (sym (bare_append (on_line r.line (steps_at T p r.what)) (joined_steps T (after_record T p r.what) rs) ∙ ap (λ (w : List (Step _)). w ++ bare (joined_steps T (after_record T p r.what) rs)) (bare_on_line r.line (steps_at T p r.what))))
    (each_append StepHasNoBody (steps_at T p r.what) (bare (joined_steps T (after_record T p r.what) rs)) (bare_steps place style p.front p.config r.what h.0) (bare_joined place style ks (after_record T p r.what) rs h.1))

-- A run and the mapped run are alike.
pub alike : {A B S T : Type 0} (O : Object A S) (Q : Object B T) (f : A → B) → MapsObjects O Q f → (n : ℕ → ℕ) (place : A → ℕ) (at : B → ℕ) (style : Style) (ks hs : List Kind) → MapsPlaces f n place at ks hs → (h : Option (Start A)) (rs : Records (RunRecord A)) →
    Each HasNoBody (bare rs) → IsAlike O Q f n place at style ks hs h rs
alike {A} {B} O Q f objects n place at style ks hs places h rs none =
    let ss = steps_from place style ks h rs in
    let same = from_mapped f n place at style ks hs places h rs in
    let bare_same : bare (mapped_steps f ss) ≡ map (mapped_step f) (bare ss) =
    maps_turned (λ (s : Lined (Step A)). let t : Lined (Step B) = record { line = s.line; what = mapped_step f s.what } in t) (λ (s : Lined (Step A)). s.what) (mapped_step f) (λ (s : Lined (Step B)). s.what) ss (λ s. refl) in
    record {
      steps = same;
      verdict = λ v. subst (λ (w : List (Step B)). IsVerdict O h (bare ss) v ↔ IsVerdict Q (mapped_start f h) w v) (sym (ap bare same ∙ bare_same)) (verdict_mapped O Q f objects h (bare ss) v (bare_joined place style ks (outset (translation place style ks) h) rs none));
    }
