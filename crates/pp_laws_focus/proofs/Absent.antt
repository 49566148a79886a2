-- The restriction of a run to an object that its header does not have is idle.
use Rattle.std.specs.Prelude.{◌≡◌, ◌⊎◌, ◌==◌, Bool, true, false, cond, ℕ, List, [], ◌∷◌, filter, map, slice_get, Option, None, Some}
use Rattle.std.proofs.Common.{refl, sym, ap, subst, ◌∙◌}
use Rattle.std.proofs.lemmas.Bool.{eqb-true}
use mathlib.Core.Logic.{inl, inr}
use Rattle.pp_core.specs.Catalogs.{Objects}
use Rattle.pp_core.specs.declared.call.Kind.{Kind}
use Rattle.pp_core.specs.declared.call.Style.{Style}
use Rattle.pp_core.specs.declared.call.Style.TheVariants.{Rules, Boosted, Optimistic, Hardware, Dependent}
use Rattle.pp_core.specs.declared.entry.Item.{Item}
use Rattle.pp_model.specs.Config.{as_shared, first}
use Rattle.pp_model.specs.Lists.{Each}
use Rattle.pp_records.specs.Expansions.{HasSources, IsOfStyle}
use Rattle.pp_records.specs.Records.{RunRecord}
use Rattle.pp_records.specs.Records as records
use Rattle.pp_records.specs.Runs.{Records, bare}
use Rattle.pp_objects.specs.Objects.{kinds_of, place_of}
use Rattle.pp_objects.specs.declared.act.Op.{Op}
use Rattle.pp_format_read.specs.declared.header.Header.{Header}
use Rattle.pp_format_read.specs.declared.start.Start.{Start as HeaderStart}
use Rattle.pp_format_write.specs.Statable.{CanStart, IsId, IsOpOn}
use Rattle.pp_laws_summary.specs.LocalLogs.{HasSummary}
use Rattle.pp_laws_locality.specs.Restricted.{restricted, restricted_records, restricted_start, with_record}
use Rattle.pp_judge.specs.Objects.{start_of}
use Rattle.pp_laws_focus.proofs.Idle.{HasEmptyLogs, IsIdle}
use Rattle.pp_laws_focus.proofs.PartAlone.{begin_back}
use Rattle.pp_laws_focus.proofs.PlacedRecords.{HasObject, HasPlace, fits_place}

-- A catalog has an object at a place, or none.
pub has_or_not : (catalog : Objects) (o : ℕ) → HasPlace catalog o ⊎ (HasPlace catalog o → ⊥)
has_or_not catalog o = by (slice_get (kinds_of catalog) o) refl
  where
    by : (k : Option Kind) → slice_get (kinds_of catalog) o ≡ k → HasPlace catalog o ⊎ (HasPlace catalog o → ⊥)
    by None is = inr (λ h. let no : Some h.0 ≡ None = sym h.1 ∙ is in cc)
    by (Some k) is = inl (k, is)

no_sources : (style : Style) → HasSummary style → HasSources style → ⊥
no_sources Rules has s = has
no_sources Boosted has s = s
no_sources Optimistic has s = s
no_sources Hardware has s = s
no_sources Dependent has s = has

module _ (catalog : Objects) (o : ℕ) (absent : HasPlace catalog o → ⊥) where
  elsewhere : (p : ℕ) → HasPlace catalog p → (p == o) ≡ true → ⊥
  elsewhere p h e = absent (subst (λ (q : ℕ). HasPlace catalog q) (eqb-true p o e) h)

  IfIdle : Option (RunRecord Op) → Type 0
  IfIdle None = Unit {0}
  IfIdle (Some r) = IsIdle r

  none_here : (r : RunRecord Op) (b : Bool) → (b ≡ true → ⊥) → IfIdle (cond b (Some r) None)
  unfolding IfIdle
  none_here r true h = absurd (h refl)
  none_here r false h = tt

  record_idle : (style : Style) → HasSummary style → (r : RunRecord Op) → IsOfStyle style r → HasObject catalog r → IfIdle (restricted place_of o r)
  unfolding IfIdle
  record_idle style has (records.Plain step) is h = begin_back style has (λ s. IfIdle (restricted place_of o (records.Plain s))) (λ t p b. tt) step is
  record_idle style has (records.Op t id op) is h = none_here (records.Op t id op) (place_of op == o) (elsewhere op.object h)
  record_idle style has (records.Commit t) is h = tt
  record_idle style has (records.Abort t) is h = tt
  record_idle style has (records.Retry t) is h = tt
  record_idle style has (records.Refresh t p) is h = none_here (records.Refresh t p) (p == o) (elsewhere p h)
  record_idle style has (records.XBegin t) is h = tt
  record_idle style has (records.XEnd t) is h = tt
  record_idle style has (records.XAbort t) is h = tt
  record_idle style has (records.Depend t source) is h = absurd (no_sources style has is)
  record_idle style has (records.Publish t) is h = absurd (no_sources style has is)
  record_idle style has (records.DropSource t source) is h = absurd (no_sources style has is)

  more_idle : (line : ℕ) (w : Option (RunRecord Op)) (rs : Records (RunRecord Op)) → IfIdle w → Each IsIdle (bare rs) → Each IsIdle (bare (with_record line w rs))
  unfolding IfIdle
  more_idle line None rs h k = k
  more_idle line (Some r) rs h k = (h, k)

  -- Records that are left are no operations.
  pub all_idle : (style : Style) → HasSummary style → (rs : Records (RunRecord Op)) → Each (IsOfStyle style) (bare rs) → Each (HasObject catalog) (bare rs) → Each IsIdle (bare (restricted_records place_of o rs))
  all_idle style has [] is h = tt
  all_idle style has (r ∷ rs) is h = more_idle r.line (restricted place_of o r.what) (restricted_records place_of o rs) (record_idle style has r.what is.0 h.0) (all_idle style has rs is.1 h.1)

  no_items : (items : List (Item Op)) → Each (λ p. IsId p.id × IsOpOn catalog p.op) items → filter (λ p. place_of p.op == o) items ≡ []
  no_items [] h = refl
  no_items (p ∷ ps) h = by (place_of p.op == o) (elsewhere p.op.object (fits_place catalog p.op h.0.1.0)) (no_items ps h.1)
    where
      by : (b : Bool) → (b ≡ true → ⊥) → filter (λ q. place_of q.op == o) ps ≡ [] → cond b (p ∷ filter (λ q. place_of q.op == o) ps) (filter (λ q. place_of q.op == o) ps) ≡ []
      by true none more = absurd (none refl)
      by false none more = more

  -- The first configuration has no operations.
  pub first_empty : (header : Header) → CanStart catalog header.start → HasEmptyLogs (first (restricted_start place_of o (start_of header)))
  first_empty header h = by header.start h
    where
      by : (s : Option HeaderStart) → CanStart catalog s → HasEmptyLogs (first (restricted_start place_of o (start_of (record { style = header.style; catalog = header.catalog; start = s }))))
      by None k = record { locals = tt; shared = refl }
      by (Some z) k = record { locals = tt; shared = ap (λ (w : List (Item Op)). map (as_shared z.tx true) w) (no_items z.ops k.each) }
