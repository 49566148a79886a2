-- The order of the sources makes no difference: neither to the steps of a record nor to what is kept.
use Rattle.std.proofs.Common.{◌≡◌, ℕ, ◌==◌, Bool, true, false, ◌&&◌, ◌||◌, List, [], ◌∷◌, ◌++◌}
use Rattle.std.proofs.Common.{length, if◌then◌else◌, Option, None, Some, refl, sym, ap, ◌∙◌}
use Rattle.std.specs.List.{slice_get}
use Rattle.pp_core.specs.declared.call.Style.{Style}
use Rattle.pp_core.specs.declared.call.Style.TheVariants as styles
use Rattle.pp_model.specs.Config.{App, Config, Note, Step, Tx, tx}
use Rattle.pp_model.specs.Names.{Name, ◌=ⁿ◌}
use Rattle.pp_records.specs.Expansions.{LocalLog, Steps, back, expand, front_after, front_of_open, hardware_op, op_steps, pulls}
use Rattle.pp_records.specs.Expansions.{where_open}
use Rattle.pp_records.specs.Fronts.{Front, at_name, has_name, is_memory, mark_of, opened_at, with_section, with_source}
use Rattle.pp_records.specs.Fronts.{with_sources, without_source}
use Rattle.pp_records.specs.Records.{RunRecord}
use Rattle.pp_records.specs.Records as records
use Rattle.pp_styles.specs.SameFronts.{SameFront}
use Rattle.pp_styles.proofs.Named.{added_same, dropped_same}

-- Equal states of a front are the same.
pub same_front : (f g : Front) → f ≡ g → SameFront f g
same_front f g is = record {
  kinds = ap (λ (w : Front). w.kinds) is;
  section = λ t. ap (λ (w : Front). w.section t) is;
  sources = λ t u. ap (λ (w : Front). has_name u (w.sources t)) is;
}

-- A state that is the same as one that is the same as a third is the same as the third.
pub same_as_third : (f g h : Front) → SameFront f g → SameFront g h → SameFront f h
same_as_third f g h first next = record {
  kinds = first.kinds ∙ next.kinds;
  section = λ t. first.section t ∙ next.section t;
  sources = λ t u. first.sources t u ∙ next.sources t u;
}

module _ (f g : Front) (s : SameFront f g) (t : Name) where
  -- Two states of a front stay the same if a transaction is given equal sections.
  pub with_section_same : (a b : Option ℕ) → a ≡ b → SameFront (with_section f t a) (with_section g t b)
  with_section_same a b is = record {
    kinds = s.kinds;
    section = λ u. λ i. at_name t (is i) (λ v. s.section v i) u;
    sources = s.sources;
  }

  -- Two states of a front stay the same if a transaction is given sources with the same names.
  pub with_sources_same : (us vs : List Name) → ((u : Name) → has_name u us ≡ has_name u vs) → SameFront (with_sources f t us) (with_sources g t vs)
  with_sources_same us vs same = record {
    kinds = s.kinds;
    section = s.section;
    sources = λ v u. by v u (v =ⁿ t);
  }
    where
      by : (v u : Name) (b : Bool) → has_name u (if b then us else f.sources v) ≡ has_name u (if b then vs else g.sources v)
      by v u true = same u
      by v u false = s.sources v u

module _ {Op : Type 0} (f g : Front) (s : SameFront f g) (c : Config Op) where
  same_op : (place : Op → ℕ) (style : Style) (t : Name) (id : ℕ) (op : Op) (l : LocalLog Op) → op_steps place style f c.shared l t id op ≡ op_steps place style g c.shared l t id op
  same_op place styles.Rules t id op l = refl
  same_op place styles.Boosted t id op l = refl
  same_op place styles.Optimistic t id op l = refl
  same_op place styles.Hardware t id op l = λ i. hardware_op place (is_memory (slice_get (s.kinds i) (place op))) (s.section t i) c.shared l t id op
  same_op place styles.Dependent t id op l = λ i. pulls t (λ e. (e.committed || s.sources t e.owner i) && (place e.op == place op)) c.shared l ++ App t id op ∷ []

  -- A record stands for the same steps in two states of a front that are the same.
  pub expand_same : (place : Op → ℕ) (style : Style) (r : RunRecord Op) → expand place style f c r ≡ expand place style g c r
  expand_same place style (records.Plain step) = refl
  expand_same place style (records.Op t id op) = λ i. where_open c t (App t id op) (λ l. same_op place style t id op l i)
  expand_same place style (records.Commit t) = refl
  expand_same place style (records.Abort t) = refl
  expand_same place style (records.Retry t) = refl
  expand_same place style (records.Refresh t o) = refl
  expand_same place style (records.XBegin t) = refl
  expand_same place style (records.XEnd t) = refl
  expand_same place style (records.XAbort t) = λ i. where_open c t (Note t) (λ l. Note t ∷ back t (mark_of (s.section t i)) l)
  expand_same place style (records.Depend t source) = refl
  expand_same place style (records.Publish t) = refl
  expand_same place style (records.DropSource t source) = refl

  same_if_open : (F G : LocalLog Op → Front) → ((l : LocalLog Op) → SameFront (F l) (G l)) → (x : Option (Tx Op)) → SameFront (front_of_open x f F) (front_of_open x g G)
  same_if_open F G same None = s
  same_if_open F G same (Some x) = same x.local

  -- Two states of a front that are the same stay the same after a record.
  pub after_same : (r : RunRecord Op) → SameFront (front_after f c r) (front_after g c r)
  after_same (records.Plain step) = s
  after_same (records.Op t id op) = s
  after_same (records.Commit t) = s
  after_same (records.Abort t) = s
  after_same (records.Retry t) = same_if_open (λ l. with_sources (with_section f t None) t []) (λ l. with_sources (with_section g t None) t [])
      (λ l. with_sources_same (with_section f t None) (with_section g t None) (with_section_same f g s t None None refl) t [] [] (λ u. refl)) (tx t c.opened)
  after_same (records.Refresh t o) = s
  after_same (records.XBegin t) = same_if_open _ _ (λ l. with_section_same f g s t (opened_at (length l) (f.section t)) (opened_at (length l) (g.section t)) (ap (opened_at (length l)) (s.section t))) (tx t c.opened)
  after_same (records.XEnd t) = same_if_open _ _ (λ l. with_section_same f g s t None None refl) (tx t c.opened)
  after_same (records.XAbort t) = same_if_open _ _ (λ l. with_section_same f g s t None None refl) (tx t c.opened)
  after_same (records.Depend t source) = same_if_open _ _
      (λ l. with_sources_same f g s t (with_source source (f.sources t)) (with_source source (g.sources t)) (added_same source (f.sources t) (g.sources t) (s.sources t))) (tx t c.opened)
  after_same (records.Publish t) = s
  after_same (records.DropSource t source) = same_if_open _ _
      (λ l. with_sources_same f g s t (without_source source (f.sources t)) (without_source source (g.sources t)) (dropped_same source (f.sources t) (g.sources t) (s.sources t))) (tx t c.opened)
