-- What a Quick over the objects of a header proves about the records.
use Rattle.std.specs.Prelude.{◌≡◌, false, List, ◌∷◌, ◌++◌, [], map, Option}
use Rattle.std.proofs.Common.{sym, subst}
use Rattle.pp_core.specs.declared.call.Kind.{Kind}
use Rattle.pp_core.specs.declared.call.Style.{Style}
use Rattle.pp_records.specs.Records.{RunRecord}
use Rattle.pp_records.specs.Runs.{Lined, Records, bare}
use Rattle.pp_records.specs.Styles.{translation}
use Rattle.pp_format_read.specs.declared.header.Header.{Header}
use Rattle.pp_model.specs.Config.{Start}
use Rattle.pp_model.specs.Serial.{attempts, committed_tx}
use Rattle.pp_objects.specs.Objects.{SameAt, kinds_of, objects, place_of}
use Rattle.pp_objects.specs.laws.Objects.{objects_placed}
use Rattle.pp_objects.specs.declared.act.Op.{Op}
use Rattle.pp_summary.specs.Brief.{brief}
use Rattle.pp_summary.specs.Failures.{FailsIn, all_steps}
use Rattle.pp_summary.specs.Held.{Held, Takes}
use Rattle.pp_summary.specs.Laws.{BriefsDecide, IsBriefed, KeepsBoosted}
use Rattle.pp_summary.specs.Reading.{IsReader}
use Rattle.pp_summary.specs.Runs.{BriefRuns, boosting, brief_after}
use Rattle.pp_summary.specs.Sums.{AreTried}
use Rattle.pp_summary.proofs.Briefs.{briefed}
use Rattle.pp_summary.proofs.Deciding.{quick as boosted_law}
use Rattle.pp_summary.proofs.Reading.{reader}
use Rattle.pp_summary.proofs.HeldOf.{apart_of}
use Rattle.pp_summary.proofs.Whole.{decided}
use Rattle.pp_kind.specs.Object.{rules_of}
use Rattle.pp_judge.specs.Objects.{object_of, start_of, translation_of}
use Rattle.pp_cmd_quick.specs.Costs.{first_brief}
use Rattle.pp_cmd_quick.specs.Decisions.{steps_behind}
use Rattle.pp_cmd_quick.specs.Taking.{AreGoodBehind}

-- A Quick over any objects, with any start, reads records as `IsReader` says.
pub reads : (ks : List Kind) (h : Option (Start Op)) → IsReader objects place_of ks h
reads ks h = reader objects place_of (apart_of objects place_of SameAt objects_placed) ks h

-- Over the objects of a header, good records keep configurations boosted.
pub keeps_boosted : (header : Header) → KeepsBoosted (object_of header) place_of
keeps_boosted header = boosted_law (object_of header) place_of (apart_of objects place_of SameAt objects_placed (kinds_of header.catalog))

-- Over the objects of a header, the brief decides whether a record is good, and to which brief it leads.
pub is_briefed : (header : Header) → IsBriefed (object_of header) place_of
is_briefed header = briefed (object_of header) place_of (apart_of objects place_of SameAt objects_placed (kinds_of header.catalog))

-- Over the objects of a header, the briefs decide a run of records.
pub briefs_decide : (header : Header) → BriefsDecide (object_of header) place_of
briefs_decide header = decided (object_of header) place_of (apart_of objects place_of SameAt objects_placed (kinds_of header.catalog))

module _ (h : Header) (rs : Records (RunRecord Op)) (quick : Held (List Kind) Op) (c : AreGoodBehind h rs quick) where
  abbrev ks : List Kind
  ks = kinds_of h.catalog

  -- The committed transactions of a Quick are those of the steps.
  pub committed_are : quick.brief.done ≡ map committed_tx (attempts (start_of h) (bare (steps_behind h rs)))
  committed_are =
      subst (λ (s : Style). quick.brief.done ≡ map committed_tx (attempts (start_of h) (bare (all_steps (translation place_of s ks) (start_of h) rs)))) (sym c.style)
      ((reads ks (start_of h)).committed rs quick c.read)

  -- Each of the records that are good is good in the brief of those before it.
  pub good_runs : BriefRuns (object_of h) place_of (first_brief h) (bare rs)
  good_runs = subst (λ (k : List Kind). BriefRuns (rules_of objects k) place_of (first_brief h) (bare rs)) c.shape ((reads ks (start_of h)).good rs quick c.read)

  -- The brief of the Quick is the one after the records.
  pub brief_is : quick.brief ≡ brief_after place_of (first_brief h) (bare rs)
  brief_is = (reads ks (start_of h)).leads rs quick c.read

  -- All records that are good are tried.
  pub all_tried : AreTried (object_of h) place_of (first_brief h) (bare rs) (bare rs)
  all_tried = subst (λ (k : List Kind). AreTried (rules_of objects k) place_of (first_brief h) (bare rs) (bare rs)) c.shape ((reads ks (start_of h)).all_tried rs quick c.read)

  -- A record that is not good is the first with a step that fails.
  pub fails_next : (r : Lined (RunRecord Op)) (next : Held (List Kind) Op) → Takes objects place_of quick r.what false next → FailsIn (object_of h) (translation_of h) (start_of h) (rs ++ r ∷ []) r
  fails_next r next takes =
      subst (λ (s : Style). FailsIn (object_of h) (translation place_of s ks) (start_of h) (rs ++ r ∷ []) r) (sym c.style)
      (subst (λ (k : List Kind). FailsIn (rules_of objects k) (boosting place_of ks) (start_of h) (rs ++ r ∷ []) r) c.shape ((reads ks (start_of h)).fails rs [] r quick next c.read takes))
