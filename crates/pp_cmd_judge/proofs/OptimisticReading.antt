-- What Snapshots over the objects of a header say of its start and its records.
use Rattle.std.specs.Prelude.{◌≡◌, ◌≤◌, ◌+◌, ◌*◌, ℕ, Bool, true, false, List, [], ◌∷◌, ◌++◌, length, map, Option, None, Some, option_map, Result, IfOk}
use Rattle.std.specs.List.{All}
use Rattle.std.proofs.Common.{refl, sym, ap, subst, ◌∙◌}
use Rattle.std.proofs.lemmas.List.Elements.{All-weaker}
use Rattle.std.proofs.lemmas.Result.{IfOk-weaker}
use Rattle.pp_core.specs.declared.answer.OutOfMemory.{OutOfMemory}
use Rattle.pp_core.specs.declared.call.Kind.{Kind}
use Rattle.pp_core.specs.declared.call.Style.{Style}
use Rattle.pp_core.specs.declared.call.Style.TheVariants as styles
use Rattle.pp_core.specs.declared.entry.Item.{Item}
use Rattle.pp_records.specs.Records.{RunRecord}
use Rattle.pp_records.specs.Records as records
use Rattle.pp_records.specs.Runs.{Lined, Records, bare}
use Rattle.pp_records.specs.Styles.{translation}
use Rattle.pp_format_read.specs.declared.header.Header.{Header}
use Rattle.pp_format_read.specs.declared.start.Start.{Start as HeaderStart}
use Rattle.pp_format_read.specs.Items.{IsReadableItem}
use Rattle.pp_kind.specs.Object.{rules_of}
use Rattle.pp_laws_summary.specs.DecidedRuns.{GoodRuns, summary_after}
use Rattle.pp_laws_summary.specs.Laws.{summing}
use Rattle.pp_laws_summary.specs.Summary.{Summary}
use Rattle.pp_model.specs.Config.{Start, start_with}
use Rattle.pp_model.specs.Rules.{StartMeets}
use Rattle.pp_model.specs.Serial.{attempts, committed_tx}
use Rattle.pp_objects.specs.Objects.{SameAt, kinds_of, objects, place_of}
use Rattle.pp_objects.specs.laws.Objects.{objects_lawful, objects_placed}
use Rattle.pp_objects.specs.declared.act.Op.{Op}
use Rattle.pp_summary.specs.Failures.{FailsIn, all_steps}
use Rattle.pp_summary.specs.Held.{IsItemAsked}
use Rattle.pp_objects.specs.Parts.{part_of}
use Rattle.pp_kind_parts.specs.Silent.{silent_of}
use Rattle.pp_snapshots.specs.Costs.{AreTried, take_most}
use Rattle.pp_snapshots.specs.Held.{Starts, Taken, Takes, first_taken, summary_taken}
use Rattle.pp_snapshots.specs.Runs.{IsOptimistic, TakesRuns, optimism}
use Rattle.pp_snapshots.proofs.Runs.{takes_runs}
use Rattle.pp_judge.specs.Costs.{start_at_most}
use Rattle.pp_judge.specs.Objects.{object_of, start_of, translation_of}
use Rattle.pp_cmd_quick.specs.Decisions.{steps_behind}
use Rattle.pp_cmd_judge.specs.Optimistic.{AreTakenBehind, StartsSnapshots}
use Rattle.pp_cmd_judge.specs.OptimisticCosts.{AreTriedAfter, first_summary}

-- Snapshots over any objects, with any start, take the records of a run one after another.
pub takes_of : (ks : List Kind) (h : Option (Start Op)) → TakesRuns objects place_of ks h
takes_of ks h = takes_runs objects place_of SameAt objects_lawful objects_placed ks h

-- What a record costs at most does not depend on the kinds.
pub any_kinds_most : (js ks : List Kind) (s : Taken (List Kind) Op) (r : RunRecord Op) → take_most place_of part_of silent_of (summary_taken js s) r ≡ take_most place_of part_of silent_of (summary_taken ks s) r
any_kinds_most js ks s (records.Plain step) = refl
any_kinds_most js ks s (records.Op t id op) = refl
any_kinds_most js ks s (records.Commit t) = refl
any_kinds_most js ks s (records.Abort t) = refl
any_kinds_most js ks s (records.Retry t) = refl
any_kinds_most js ks s (records.Refresh t q) = refl
any_kinds_most js ks s (records.XBegin t) = refl
any_kinds_most js ks s (records.XEnd t) = refl
any_kinds_most js ks s (records.XAbort t) = refl
any_kinds_most js ks s (records.Depend t source) = refl
any_kinds_most js ks s (records.Publish t) = refl
any_kinds_most js ks s (records.DropSource t source) = refl

-- ---- the start

module _ (header : Header) (snapshots : Taken (List Kind) Op) (new : snapshots ≡ first_taken (kinds_of header.catalog) None) where
  abbrev ks : List Kind
  ks = kinds_of header.catalog

  shape_is : snapshots.shape ≡ ks
  shape_is = ap (λ (s : Taken (List Kind) Op). s.shape) new

  -- they are as `new` made them
  pub is_first : snapshots ≡ first_taken snapshots.shape None
  is_first = new ∙ ap (λ (k : List Kind). let s : Taken (List Kind) Op = first_taken k None in s) (sym shape_is)

  -- Operations of a start that were read may be asked of new Snapshots.
  pub items_asked : (items : List (Item Op)) → All (IsReadableItem header.catalog) items → All (IsItemAsked objects snapshots.shape) items
  items_asked items all =
      subst (λ (k : List Kind). All (IsItemAsked objects k) items) (sym shape_is)
      (All-weaker (IsReadableItem header.catalog) (IsItemAsked objects ks) (λ p h. (h.1, h.2)) items all)

  abbrev AreFirst : Taken (List Kind) Op → Option (Start Op) → Type 0
  AreFirst s h = StartMeets (object_of header) h × (s ≡ first_taken ks h)

  -- without a start
  pub none_started : header.start ≡ None → StartsSnapshots header true snapshots
  none_started is =
      let none : start_of header ≡ None = ap (λ (z : Option HeaderStart). option_map (λ s. start_with s.tx s.ops) z) is in
      subst (λ (h : Option (Start Op)). AreFirst snapshots h) (sym none) (refl, new)

  one : (z : HeaderStart) → header.start ≡ Some z → start_of header ≡ Some (start_with z.tx z.ops)
  one z is = ap (λ (w : Option HeaderStart). option_map (λ s. start_with s.tx s.ops) w) is

  -- with one
  some_started : (z : HeaderStart) → header.start ≡ Some z → (good : Bool) (after : Taken (List Kind) Op) → Starts objects place_of snapshots (start_with z.tx z.ops) good after → StartsSnapshots header good after
  some_started z is true after s =
      subst (λ (h : Option (Start Op)). AreFirst after h) (sym (one z is))
      (subst (λ (k : List Kind). StartMeets (rules_of objects k) (Some (start_with z.tx z.ops)) × (after ≡ first_taken k (Some (start_with z.tx z.ops)))) shape_is s)
  some_started z is false after s =
      subst (λ (h : Option (Start Op)). StartMeets (object_of header) h → ⊥) (sym (one z is))
      (subst (λ (k : List Kind). StartMeets (rules_of objects k) (Some (start_with z.tx z.ops)) → ⊥) shape_is s.0)

  -- the same of what the Snapshots return
  pub started_result : (z : HeaderStart) → header.start ≡ Some z → (r : Result (Taken (List Kind) Op × Bool) OutOfMemory) → IfOk r (λ x. Starts objects place_of snapshots (start_with z.tx z.ops) x.1 x.0) → IfOk r (λ x. StartsSnapshots header x.1 x.0)
  started_result z is r s = IfOk-weaker r _ _ (λ x k. some_started z is x.1 x.0 k) s

  -- and of what it costs
  pub start_bound : (z : HeaderStart) → header.start ≡ Some z → (old now : ℕ) → now ≤ old + 2 * length z.ops → now ≤ old + start_at_most (start_of header)
  start_bound z is old now bound = subst (λ (h : Option (Start Op)). now ≤ old + start_at_most h) (sym (one z is)) bound

-- ---- the records

module _ (h : Header) (rs : Records (RunRecord Op)) (snapshots : Taken (List Kind) Op) (c : AreTakenBehind h rs snapshots) where
  abbrev own_kinds : List Kind
  own_kinds = kinds_of h.catalog

  abbrev reads : TakesRuns objects place_of own_kinds (start_of h)
  reads = takes_of own_kinds (start_of h)

  -- what was committed
  pub committed_are : snapshots.done ≡ map committed_tx (attempts (start_of h) (bare (steps_behind h rs)))
  committed_are =
      subst (λ (s : Style). snapshots.done ≡ map committed_tx (attempts (start_of h) (bare (all_steps (translation place_of s own_kinds) (start_of h) rs)))) (sym c.style)
      (reads.committed rs snapshots c.taken)

  -- Each of the records that are good is good in the summary of those before it.
  pub good_runs : GoodRuns (summing styles.Optimistic (object_of h) place_of) (first_summary h) (bare rs)
  good_runs =
      subst (λ (k : List Kind). GoodRuns (summing styles.Optimistic (rules_of objects k) place_of) (first_summary h) (bare rs)) c.shape
      (reads.are_good rs snapshots c.taken)

  -- The summary of the Snapshots is the one after the records.
  pub summary_is : summary_taken own_kinds snapshots ≡ summary_after (summing styles.Optimistic (object_of h) place_of) (first_summary h) (bare rs)
  summary_is =
      subst (λ (k : List Kind). summary_taken own_kinds snapshots ≡ summary_after (summing styles.Optimistic (rules_of objects k) place_of) (first_summary h) (bare rs)) c.shape
      (reads.leads rs snapshots c.taken)

  -- what the next record costs at most, by that summary
  pub next_most : (r : RunRecord Op) → take_most place_of part_of silent_of (summary_taken [] snapshots) r
      ≡ take_most place_of part_of silent_of (summary_after (summing styles.Optimistic (object_of h) place_of) (first_summary h) (bare rs)) r
  next_most r = any_kinds_most [] own_kinds snapshots r ∙ ap (λ (B : Summary Op). take_most place_of part_of silent_of B r) summary_is

  -- All records that are good are tried.
  pub all_tried : AreTriedAfter h rs (bare rs)
  all_tried = subst (λ (k : List Kind). AreTried (rules_of objects k) place_of (first_summary h) (bare rs) (bare rs)) c.shape (reads.all_tried rs snapshots c.taken)

  -- a record that is not good is the first of which a step fails
  pub fails_next : (r : Lined (RunRecord Op)) (next : Taken (List Kind) Op) → IsOptimistic r.what → Takes objects place_of snapshots r.what false next
      → FailsIn (object_of h) (translation_of h) (start_of h) (rs ++ r ∷ []) r
  fails_next r next optimistic takes =
      subst (λ (s : Style). FailsIn (object_of h) (translation place_of s own_kinds) (start_of h) (rs ++ r ∷ []) r) (sym c.style)
      (subst (λ (k : List Kind). FailsIn (rules_of objects k) (optimism place_of own_kinds) (start_of h) (rs ++ r ∷ []) r) c.shape
      (reads.fails rs [] r snapshots next optimistic c.taken takes))

  -- Snapshots that refuse a record are those of the same records.
  pub refused_stays : (r : Lined (RunRecord Op)) (next : Taken (List Kind) Op) → Takes objects place_of snapshots r.what false next
      → AreTakenBehind h rs next
  refused_stays r next takes = record {
    style = c.style;
    shape = takes.1.shape ∙ c.shape;
    taken = reads.stays rs r snapshots next c.taken takes;
    count = subst (λ (n : ℕ). n ≤ 2_147_483_646) (sym takes.1.count) c.count;
  }
