-- The law: the steps of records of a recorded style break only breakable criteria.
use Rattle.std.specs.Prelude.{◌≡◌, ◌≢◌, ℕ, true, List, [], ◌∷◌, ◌++◌, Option, None, Some}
use Rattle.std.proofs.Common.{refl, sym, ap, subst, ◌∙◌}
use mathlib.Core.Logic.{inl, inr}
use Rattle.pp_core.specs.declared.call.Kind.{Kind}
use Rattle.pp_core.specs.declared.call.Style.{Style}
use Rattle.pp_core.specs.declared.call.Style.TheVariants as styles
use Rattle.pp_model.specs.Config.{Config, Start, Step, Tx, first}
use Rattle.pp_model.specs.Lists.{In}
use Rattle.pp_model.specs.Object.{Object, Swaps}
use Rattle.pp_model.specs.Sound.{Sound}
use Rattle.pp_model.proofs.Begin.{start_sound}
use Rattle.pp_model.proofs.Keeps.{run_keeps}
use Rattle.pp_records.specs.Expansions.{IsOfStyle, IsRecorded, expand}
use Rattle.pp_records.specs.Fronts.{Front, new_front}
use Rattle.pp_records.specs.Records.{RunRecord}
use Rattle.pp_records.specs.Runs.{Lined, LinedSteps, Records, Standing, after_record, bare, joined_steps}
use Rattle.pp_records.specs.Runs.{on_line, outset}
use Rattle.pp_records.specs.Styles.{translation}
use Rattle.pp_records.proofs.Ends.{bare_append, bare_on_line}
use Rattle.pp_laws_runs.specs.Breakable.{BreakableLaw}
use Rattle.pp_laws_runs.proofs.Keeping.{Kept, record_keeps}
use Rattle.pp_laws_runs.proofs.Only.{OnlyBreaks, only_append, only_at}
use Rattle.pp_model.proofs.Lists.{from_map}
use Rattle.pp_model.specs.Config.{SharedEntry, as_shared}
use Rattle.pp_laws_runs.proofs.Pulling.{AllShared}
use Rattle.pp_laws_runs.proofs.Pushing.{NoneUnpushed}
use Rattle.pp_laws_runs.proofs.Records.{PassesAtOnce, record_committed, record_only}
use Rattle.pp_laws_runs.proofs.Settled.{PulledCommitted, run_pulled}

module _ {Op State : Type 0} (O : Object Op State) (place : Op → ℕ) (apart : (a b : Op) → place a ≢ place b → Swaps O a b) where
  kept_passes : (style : Style) (f : Front) (c : Config Op) → Kept O place style f c → PassesAtOnce O place style f c
  kept_passes styles.Rules f c kept = tt
  kept_passes styles.Boosted f c kept = kept
  kept_passes styles.Optimistic f c kept = tt
  kept_passes styles.Hardware f c kept = λ x i a j k. (kept.0 x i).unpushed a j k
  kept_passes styles.Dependent f c kept = tt

  kept_boosted : (style : Style) (f : Front) (c : Config Op) → Kept O place style f c → style ≡ styles.Boosted → (x : Tx Op) → In x c.opened → NoneUnpushed x.local
  kept_boosted style f c kept e = subst (λ (s : Style). Kept O place s f c) e kept

  kept_calm : (style : Style) (f : Front) (c : Config Op) → Kept O place style f c → style ≡ styles.Optimistic → AllShared c
  kept_calm style f c kept e = subst (λ (s : Style). Kept O place s f c) e kept

  kept_first : (style : Style) (kinds : List Kind) (h : Option (Start Op)) → Kept O place style (new_front kinds) (first h)
  kept_first styles.Rules kinds h = tt
  kept_first styles.Boosted kinds h = λ x i. absurd (none h x i)
    where
      none : (h : Option (Start Op)) (x : Tx Op) → In x (first h).opened → ⊥
      none None x i = i
      none (Some z) x i = i
  kept_first styles.Optimistic kinds h = all h
    where
      all : (h : Option (Start Op)) → AllShared (first h)
      all None u i = absurd i
      all (Some z) u i = let m = from_map (as_shared z.tx true) u z.items i in ap (λ (w : SharedEntry Op). w.committed) m.2
  kept_first styles.Hardware kinds h = (λ x i. absurd (none h x i), λ u n. refl)
    where
      none : (h : Option (Start Op)) (x : Tx Op) → In x (first h).opened → ⊥
      none None x i = i
      none (Some z) x i = i
  kept_first styles.Dependent kinds h = tt

  pulled_first : (h : Option (Start Op)) → PulledCommitted (first h)
  pulled_first None x i = absurd i
  pulled_first (Some z) x i = absurd i

  module _ (style : Style) (kinds : List Kind) (recorded : style ≢ styles.Rules) where
    records_only : (rs : Records (RunRecord Op)) (p : Standing Front Op) → ((r : Lined (RunRecord Op)) → In r rs → IsOfStyle style r.what) → Sound O p.config → (style ≢ styles.Dependent → PulledCommitted p.config) →
        Kept O place style p.front p.config → OnlyBreaks O style p.config (bare (joined_steps (translation place style kinds) p rs))
    records_only [] p styled s pulled kept = tt
    records_only (r ∷ rs) p styled s pulled kept =
        let T = translation place style kinds in
        let f : Front = p.front in
        let c : Config Op = p.config in
        let ss : List (Step Op) = expand place style f c r.what in
        let of : IsOfStyle style r.what = styled r (inl refl) in
        let rest : LinedSteps Op = joined_steps T (after_record T p r.what) rs in
        let is : bare (on_line r.line ss ++ rest) ≡ ss ++ bare rest = bare_append (on_line r.line ss) rest ∙ ap (λ (w : List (Step Op)). w ++ bare rest) (bare_on_line r.line ss) in
        subst (λ (w : List (Step Op)). OnlyBreaks O style c w) (sym is)
        (only_append O style c ss (bare rest) (record_only O place apart style recorded f c s (kept_calm style f c kept) pulled (kept_passes style f c kept) (kept_boosted style f c kept) r.what of)
        (λ run. records_only rs (after_record T p r.what) (λ q i. styled q (inr i)) (run_keeps O ss c s run)
        (λ n. run_pulled O c ss s (pulled n) run (record_committed O place style recorded n f c s r.what of))
        (record_keeps O place style recorded f c s kept r.what of run)))

  -- The steps of records of a recorded style break only breakable criteria.
  pub breakable_law : BreakableLaw O place
  breakable_law style kinds h rs past rest s n recorded styled met is run breaks =
      let T = translation place style kinds in
      let not_rules : style ≢ styles.Rules = λ e. subst (λ (w : Style). IsRecorded w) e recorded in
      let all = records_only style kinds not_rules rs (outset T h) styled (start_sound O h met) (λ d. pulled_first h) (kept_first style kinds h) in
      let split : bare (joined_steps T (outset T h) rs) ≡ bare past ++ s.what ∷ bare rest = ap (λ (w : LinedSteps Op). bare w) is ∙ bare_append past (s ∷ rest) in
      only_at O style (first h) (bare past) (bare rest) s.what n (subst (λ (w : List (Step Op)). OnlyBreaks O style (first h) w) split all) run breaks
