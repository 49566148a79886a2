-- A mapped run fails where the run does.
use Rattle.std.specs.Prelude.{◌≡◌, ℕ, suc, List, [], ◌∷◌, slice_get, Option, Some}
use Rattle.std.proofs.Common.{refl, sym, ap, subst, ◌∙◌}
use mathlib.Core.Logic.{inl, inr}
use Rattle.pp_core.specs.declared.call.Kind.{Kind}
use Rattle.pp_core.specs.declared.call.Style.{Style}
use Rattle.pp_core.specs.Steps.{Step, Begin, App, Unapp, Push, Unpush, Pull, Unpull, Cmt, Quit, Note}
use Rattle.pp_model.specs.Config.{Config, Start, first, then}
use Rattle.pp_model.specs.Lists.{Each}
use Rattle.pp_model.specs.Object.{Object}
use Rattle.pp_model.specs.Rules.{Breaks, StartMeets, criteria, start_criteria}
use Rattle.pp_kind.specs.Object.{rules_of}
use Rattle.pp_records.specs.Expansions.{IsOfStyle}
use Rattle.pp_records.specs.Records.{RunRecord}
use Rattle.pp_records.specs.Runs.{Lined, LinedSteps, Records, bare, outset}
use Rattle.pp_records.specs.Styles.{translation}
use Rattle.pp_objects.specs.Objects.{act_at, objects, place_of}
use Rattle.pp_objects.specs.One.{one}
use Rattle.pp_objects.specs.declared.act.Act.{Act}
use Rattle.pp_objects.specs.declared.act.Op.{Op}
use Rattle.pp_laws_summary.specs.LocalLogs.{HasSummary}
use Rattle.pp_laws_locality.specs.Locality.{RunFails}
use Rattle.pp_laws_locality.specs.Rejected.{FailsFrom}
use Rattle.pp_laws_locality.specs.Restricted.{restricted_records, restricted_start}
use Rattle.pp_laws_mapped.specs.Laws.{MapsObjects, MapsPlaces, steps_from}
use Rattle.pp_laws_mapped.specs.Mapped.{HasNoBody, StepHasNoBody, mapped_records, mapped_start, mapped_step, mapped_steps}
use Rattle.pp_laws_mapped.proofs.MappedConfigs.{config_by, first_mapped, then_mapped}
use Rattle.pp_laws_mapped.proofs.MappedSteps.{NoBodies, bare_first, bare_then, criteria_mapped, first_alike, start_mapped}
use Rattle.pp_laws_mapped.proofs.Runs.{alike, bare_joined}
use Rattle.pp_cmd_focus.specs.Moved.{moved_step}
use Rattle.pp_laws_focus.proofs.OneObject.{first_of_run, numbered, one_of_run}
use Rattle.pp_laws_focus.proofs.PartAlone.{acts_records, acts_start, alone_records, alone_start, bare_part, records_again, start_again}

module _ {A B S T : Type 0} (O : Object A S) (Q : Object B T) (f : A → B) (maps : MapsObjects O Q f) where
  -- The mapped run fails there too.
  fails_to : (ss : LinedSteps A) (c : Config A) (line : ℕ) (s : Step A) (n : ℕ) → NoBodies c → Each StepHasNoBody (bare ss) → FailsFrom O c ss line s n → FailsFrom Q (config_by f c) (mapped_steps f ss) line (mapped_step f s) n
  fails_to [] c line s n none bare k = absurd k
  fails_to (a ∷ ss) c line s n none bare (inl k) = inl (
    ap (λ (w : Lined (Step A)). let d : Lined (Step B) = record { line = w.line; what = mapped_step f w.what } in d) k.0,
    (first_alike (criteria O c s) (criteria Q (config_by f c) (mapped_step f s)) (suc n) (criteria_mapped O Q f maps c none s)).0 k.1,
  )
  fails_to (a ∷ ss) c line s n none bare (inr k) = inr (
    (first_alike (criteria O c a.what) (criteria Q (config_by f c) (mapped_step f a.what)) 0 (criteria_mapped O Q f maps c none a.what)).0 k.0,
    subst (λ (d : Config B). FailsFrom Q d (mapped_steps f ss) line (mapped_step f s) n) (sym (then_mapped f c a.what))
        (fails_to ss (then c a.what) line s n (bare_then c a.what none bare.0) bare.1 k.1),
  )

  -- If the mapped run fails, the run fails there.
  fails_back : (ss : LinedSteps A) (c : Config A) (line : ℕ) (t : Step B) (n : ℕ) → NoBodies c → Each StepHasNoBody (bare ss) → FailsFrom Q (config_by f c) (mapped_steps f ss) line t n → (s : Step A) × (t ≡ mapped_step f s) × FailsFrom O c ss line s n
  fails_back [] c line t n none bare k = absurd k
  fails_back (a ∷ ss) c line t n none bare (inl k) =
      let here : mapped_step f a.what ≡ t = ap (λ (w : Lined (Step B)). w.what) k.0 in
      let on : a.line ≡ line = ap (λ (w : Lined (Step B)). w.line) k.0 in (
        a.what,
        sym here,
        inl (
          ap (λ (l : ℕ). let d : Lined (Step A) = record { line = l; what = a.what } in d) on,
          (first_alike (criteria O c a.what) (criteria Q (config_by f c) (mapped_step f a.what)) (suc n) (criteria_mapped O Q f maps c none a.what)).1 (subst (λ (w : Step B). Breaks Q (config_by f c) w (suc n)) (sym here) k.1),
        ),
      )
  fails_back (a ∷ ss) c line t n none bare (inr k) =
      let more = fails_back ss (then c a.what) line t n (bare_then c a.what none bare.0) bare.1 (subst (λ (d : Config B). FailsFrom Q d (mapped_steps f ss) line t n) (then_mapped f c a.what) k.1) in (
        more.0,
        more.1,
        inr ((first_alike (criteria O c a.what) (criteria Q (config_by f c) (mapped_step f a.what)) 0 (criteria_mapped O Q f maps c none a.what)).1 k.0, more.2),
      )

  module _ (n : ℕ → ℕ) (place : A → ℕ) (at : B → ℕ) (style : Style) (ks hs : List Kind) (places : MapsPlaces f n place at ks hs) (h : Option (Start A)) (rs : Records (RunRecord A)) (none : Each HasNoBody (bare rs)) (line : ℕ) (i : ℕ) where
    abbrev ss : LinedSteps A
    ss = steps_from place style ks h rs

    bare_ss : Each StepHasNoBody (bare ss)
    bare_ss = bare_joined place style ks (outset (translation place style ks) h) rs none

    same : steps_from at style hs (mapped_start f h) (mapped_records f n rs) ≡ mapped_steps f ss
    same = (alike O Q f maps n place at style ks hs places h rs none).steps

    run_to : (s : Step A) → RunFails style O place ks h rs line s i → RunFails style Q at hs (mapped_start f h) (mapped_records f n rs) line (mapped_step f s) i
    run_to s k =
        subst (λ (c : Config B). FailsFrom Q c (steps_from at style hs (mapped_start f h) (mapped_records f n rs)) line (mapped_step f s) i) (sym (first_mapped f h))
        (subst (λ (l : LinedSteps B). FailsFrom Q (config_by f (first h)) l line (mapped_step f s) i) (sym same) (fails_to ss (first h) line s i (bare_first h) bare_ss k))

    run_back : (t : Step B) → RunFails style Q at hs (mapped_start f h) (mapped_records f n rs) line t i → (s : Step A) × (t ≡ mapped_step f s) × RunFails style O place ks h rs line s i
    run_back t k =
        fails_back ss (first h) line t i (bare_first h) bare_ss
        (subst (λ (l : LinedSteps B). FailsFrom Q (config_by f (first h)) l line t i) same (subst (λ (c : Config B). FailsFrom Q c (steps_from at style hs (mapped_start f h) (mapped_records f n rs)) line t i) (first_mapped f h) k))

step_moved : (o : ℕ) (s : Step Act) → moved_step (mapped_step (act_at o) s) ≡ mapped_step (act_at 0) s
step_moved o (Begin t p b) = refl
step_moved o (App t id op) = refl
step_moved o (Unapp t id) = refl
step_moved o (Push t id) = refl
step_moved o (Unpush t id) = refl
step_moved o (Pull t id) = refl
step_moved o (Unpull t id) = refl
step_moved o (Cmt t) = refl
step_moved o (Quit t) = refl
step_moved o (Note t) = refl

module _ (style : Style) (has : HasSummary style) (ks : List Kind) (k : Kind) (o : ℕ) (at : slice_get ks o ≡ Some k) (h : Option (Start Op)) (rs : Records (RunRecord Op)) (is : Each (IsOfStyle style) (bare rs)) where
  -- If the restriction of a run fails, the run on the object alone fails there.
  pub alone_fails : (line : ℕ) (s : Step Op) (i : ℕ) → RunFails style (rules_of objects ks) place_of ks (restricted_start place_of o h) (restricted_records place_of o rs) line s i →
      RunFails style (rules_of objects (k ∷ [])) place_of (k ∷ []) (alone_start o h) (alone_records o rs) line (moved_step s) i
  alone_fails line s i f =
      let whole = run_back (rules_of one k) (rules_of objects ks) (act_at o) (one_of_run o ks k at) (numbered o) (λ a. 0) place_of style (k ∷ []) ks (first_of_run o ks k at) (acts_start o h) (acts_records o rs) (bare_part o rs) line i s
      (subst (λ (g : Option (Start Op)). RunFails style (rules_of objects ks) place_of ks g (mapped_records (act_at o) (numbered o) (acts_records o rs)) line s i) (sym (start_again o h))
      (subst (λ (l : Records (RunRecord Op)). RunFails style (rules_of objects ks) place_of ks (restricted_start place_of o h) l line s i) (sym (records_again o style has rs is)) f)) in
      let alone = run_to (rules_of one k) (rules_of objects (k ∷ [])) (act_at 0) (one_of_run 0 (k ∷ []) k refl) (numbered 0) (λ a. 0) place_of style (k ∷ []) (k ∷ []) (first_of_run 0 (k ∷ []) k refl) (acts_start o h) (acts_records o rs) (bare_part o rs) line i
      whole.0 whole.2 in
      subst (λ (t : Step Op). RunFails style (rules_of objects (k ∷ [])) place_of (k ∷ []) (alone_start o h) (alone_records o rs) line t i) (sym (ap moved_step whole.1 ∙ step_moved o whole.0)) alone

  -- The start on the object alone meets its criteria if the restriction does.
  pub start_meets : StartMeets (rules_of objects ks) (restricted_start place_of o h) → StartMeets (rules_of objects (k ∷ [])) (alone_start o h)
  start_meets m =
      let here : StartMeets (rules_of objects ks) (mapped_start (act_at o) (acts_start o h)) = subst (λ (g : Option (Start Op)). StartMeets (rules_of objects ks) g) (sym (start_again o h)) m in
      let acts : StartMeets (rules_of one k) (acts_start o h) =
      (first_alike (start_criteria (rules_of one k) (acts_start o h)) (start_criteria (rules_of objects ks) (mapped_start (act_at o) (acts_start o h))) 0 (start_mapped (rules_of one k) (rules_of objects ks) (act_at o) (one_of_run o ks k at) (acts_start o h))).1 here in
      (first_alike (start_criteria (rules_of one k) (acts_start o h)) (start_criteria (rules_of objects (k ∷ [])) (alone_start o h)) 0 (start_mapped (rules_of one k) (rules_of objects (k ∷ [])) (act_at 0) (one_of_run 0 (k ∷ []) k refl) (acts_start o h))).0 acts
