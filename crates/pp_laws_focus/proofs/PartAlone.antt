-- The restriction of a run to an object has the verdict of a run on this object alone.
use Rattle.std.specs.Prelude.{◌≡◌, ◌↔◌, ◌==◌, Bool, true, false, cond, ℕ, List, [], ◌∷◌, filter, map, slice_get, option_map, Option, None, Some}
use Rattle.std.proofs.Common.{refl, sym, ap, subst, ◌∙◌}
use Rattle.std.proofs.lemmas.Bool.{eqb-true}
use Rattle.pp_core.specs.declared.call.Kind.{Kind}
use Rattle.pp_core.specs.declared.call.Style.{Style}
use Rattle.pp_core.specs.declared.call.Style.TheVariants.{Rules, Boosted, Optimistic, Hardware, Dependent}
use Rattle.pp_model.specs.Config.{App, Begin, Cmt, Note, Pull, Push, Quit, Start, Step, Unapp, Unpull, Unpush}
use Rattle.pp_model.specs.Lists.{Each}
use Rattle.pp_model.specs.Object.{Item}
use Rattle.pp_model.specs.Rules.{Verdict}
use Rattle.pp_kind.specs.Object.{rules_of}
use Rattle.pp_records.specs.Expansions.{HasStep, IsOfStyle}
use Rattle.pp_records.specs.Records.{RunRecord}
use Rattle.pp_records.specs.Records as records
use Rattle.pp_records.specs.Runs.{Records, bare}
use Rattle.pp_objects.specs.declared.act.Act.{Act}
use Rattle.pp_objects.specs.declared.act.Op.{Op}
use Rattle.pp_objects.specs.Objects.{act_at, objects, place_of}
use Rattle.pp_objects.specs.One.{one}
use Rattle.pp_laws_summary.specs.LocalLogs.{HasSummary}
use Rattle.pp_laws_locality.specs.Locality.{HasVerdict}
use Rattle.pp_laws_locality.specs.Restricted.{restricted, restricted_records, restricted_start, with_record, without_body}
use Rattle.pp_laws_mapped.specs.Mapped.{HasNoBody, StepHasNoBody, mapped_item, mapped_record, mapped_records, mapped_start, mapped_step}
use Rattle.pp_laws_mapped.proofs.Runs.{alike}
use Rattle.pp_laws_focus.proofs.OneObject.{first_of_run, numbered, one_of_run}

-- an operation without its place
abbrev pub act_of : Op → Act
act_of x = x.act

-- the restriction of a start and of records, without places
abbrev pub acts_start : ℕ → Option (Start Op) → Option (Start Act)
acts_start o h = mapped_start act_of (restricted_start place_of o h)

abbrev pub acts_records : ℕ → Records (RunRecord Op) → Records (RunRecord Act)
acts_records o rs = mapped_records act_of (λ p. 0) (restricted_records place_of o rs)

-- the same on the first object
abbrev pub alone_start : ℕ → Option (Start Op) → Option (Start Op)
alone_start o h = mapped_start (act_at 0) (acts_start o h)

abbrev pub alone_records : ℕ → Records (RunRecord Op) → Records (RunRecord Op)
alone_records o rs = mapped_records (act_at 0) (numbered 0) (acts_records o rs)

-- A step that is a record of one of the three styles is a begin.
pub begin_back : (style : Style) → HasSummary style → (P : Step Op → Type 0) → ((t p : List ℕ) (b : Option _) → P (Begin t p b)) → (step : Step Op) → HasStep style step → P step
begin_back Rules has P h step is = absurd has
begin_back Dependent has P h step is = absurd has
begin_back Boosted has P h (Begin t p b) is = h t p b
begin_back Boosted has P h (App t id op) is = absurd is
begin_back Boosted has P h (Unapp t id) is = absurd is
begin_back Boosted has P h (Push t id) is = absurd is
begin_back Boosted has P h (Unpush t id) is = absurd is
begin_back Boosted has P h (Pull t id) is = absurd is
begin_back Boosted has P h (Unpull t id) is = absurd is
begin_back Boosted has P h (Cmt t) is = absurd is
begin_back Boosted has P h (Quit t) is = absurd is
begin_back Boosted has P h (Note t) is = absurd is
begin_back Optimistic has P h (Begin t p b) is = h t p b
begin_back Optimistic has P h (App t id op) is = absurd is
begin_back Optimistic has P h (Unapp t id) is = absurd is
begin_back Optimistic has P h (Push t id) is = absurd is
begin_back Optimistic has P h (Unpush t id) is = absurd is
begin_back Optimistic has P h (Pull t id) is = absurd is
begin_back Optimistic has P h (Unpull t id) is = absurd is
begin_back Optimistic has P h (Cmt t) is = absurd is
begin_back Optimistic has P h (Quit t) is = absurd is
begin_back Optimistic has P h (Note t) is = absurd is
begin_back Hardware has P h (Begin t p b) is = h t p b
begin_back Hardware has P h (App t id op) is = absurd is
begin_back Hardware has P h (Unapp t id) is = absurd is
begin_back Hardware has P h (Push t id) is = absurd is
begin_back Hardware has P h (Unpush t id) is = absurd is
begin_back Hardware has P h (Pull t id) is = absurd is
begin_back Hardware has P h (Unpull t id) is = absurd is
begin_back Hardware has P h (Cmt t) is = absurd is
begin_back Hardware has P h (Quit t) is = absurd is
begin_back Hardware has P h (Note t) is = absurd is

module _ (o : ℕ) where
  -- a record with its place again
  abbrev again : RunRecord Op → RunRecord Op
  again r = mapped_record (act_at o) (numbered o) (mapped_record act_of (λ p. 0) r)

  op_again : (x : Op) → (place_of x == o) ≡ true → act_at o x.act ≡ x
  op_again x e = ap (λ (p : ℕ). act_at p x.act) (sym (eqb-true x.object o e))

  if_here : (r : RunRecord Op) (b : Bool) → (b ≡ true → again r ≡ r) → option_map again (cond b (Some r) None) ≡ cond b (Some r) None
  if_here r true h = ap (λ (w : RunRecord Op). Some w) (h refl)
  if_here r false h = refl

  record_again : (style : Style) → HasSummary style → (r : RunRecord Op) → IsOfStyle style r → option_map again (restricted place_of o r) ≡ restricted place_of o r
  record_again style has (records.Plain step) is =
      begin_back style has (λ s. option_map again (restricted place_of o (records.Plain s)) ≡ restricted place_of o (records.Plain s)) (λ t p b. refl) step is
  record_again style has (records.Op t id op) is = if_here (records.Op t id op) (place_of op == o) (λ e. ap (λ (w : Op). records.Op t id w) (op_again op e))
  record_again style has (records.Commit t) is = refl
  record_again style has (records.Abort t) is = refl
  record_again style has (records.Retry t) is = refl
  record_again style has (records.Refresh t p) is = if_here (records.Refresh t p) (p == o) (λ e. ap (λ (w : ℕ). let r : RunRecord Op = records.Refresh t w in r) (sym (eqb-true p o e)))
  record_again style has (records.XBegin t) is = refl
  record_again style has (records.XEnd t) is = refl
  record_again style has (records.XAbort t) is = refl
  record_again style has (records.Depend t source) is = refl
  record_again style has (records.Publish t) is = refl
  record_again style has (records.DropSource t source) is = refl

  all_again : Records (RunRecord Op) → Records (RunRecord Op)
  all_again rs = mapped_records (act_at o) (numbered o) (mapped_records act_of (λ p. 0) rs)

  one_more : (line : ℕ) (w : Option (RunRecord Op)) (rs : Records (RunRecord Op)) → all_again (with_record line w rs) ≡ with_record line (option_map again w) (all_again rs)
  unfolding all_again
  one_more line None rs = refl
  one_more line (Some r) rs = refl

  -- The restriction of records has its places again.
  pub records_again : (style : Style) → HasSummary style → (rs : Records (RunRecord Op)) → Each (IsOfStyle style) (bare rs) → mapped_records (act_at o) (numbered o) (acts_records o rs) ≡ restricted_records place_of o rs
  unfolding all_again
  records_again style has [] is = refl
  records_again style has (r ∷ rs) is =
      one_more r.line (restricted place_of o r.what) (restricted_records place_of o rs)
      ∙ ap (λ (w : Option (RunRecord Op)). with_record r.line w (all_again (restricted_records place_of o rs))) (record_again style has r.what is.0)
      ∙ ap (λ (l : Records (RunRecord Op)). with_record r.line (restricted place_of o r.what) l) (records_again style has rs is.1)

  items_again : (items : List (Item Op)) → map (mapped_item (act_at o)) (map (mapped_item act_of) (filter (λ p. place_of p.op == o) items)) ≡ filter (λ p. place_of p.op == o) items
  items_again [] = refl
  items_again (p ∷ ps) = by (place_of p.op == o) (filter (λ q. place_of q.op == o) ps) refl (items_again ps)
    where
      by : (b : Bool) (on : List (Item Op)) → (place_of p.op == o) ≡ b → map (mapped_item (act_at o)) (map (mapped_item act_of) on) ≡ on → map (mapped_item (act_at o)) (map (mapped_item act_of) (cond b (p ∷ on) on)) ≡ cond b (p ∷ on) on
      by true on e more = ap (λ (w : Op). record { id = p.id; op = w } ∷ map (mapped_item (act_at o)) (map (mapped_item act_of) on)) (op_again p.op e) ∙ ap (λ (w : List (Item Op)). p ∷ w) more
      by false on e more = more

  -- So has that of a start.
  pub start_again : (h : Option (Start Op)) → mapped_start (act_at o) (acts_start o h) ≡ restricted_start place_of o h
  start_again None = refl
  start_again (Some z) = ap (λ (w : List (Item Op)). Some (record { tx = z.tx; items = w })) (items_again z.items)

  -- ---- bodies

  bare_step : (step : Step Op) → StepHasNoBody (mapped_step act_of (without_body step))
  bare_step (Begin t p b) = refl
  bare_step (App t id op) = tt
  bare_step (Unapp t id) = tt
  bare_step (Push t id) = tt
  bare_step (Unpush t id) = tt
  bare_step (Pull t id) = tt
  bare_step (Unpull t id) = tt
  bare_step (Cmt t) = tt
  bare_step (Quit t) = tt
  bare_step (Note t) = tt

  IsBare : Option (RunRecord Op) → Type 0
  IsBare None = Unit {0}
  IsBare (Some r) = HasNoBody (mapped_record act_of (λ p. 0) r)

  bare_if : (r : RunRecord Op) (b : Bool) → HasNoBody (mapped_record act_of (λ p. 0) r) → IsBare (cond b (Some r) None)
  unfolding IsBare
  bare_if r true h = h
  bare_if r false h = tt

  bare_record : (r : RunRecord Op) → IsBare (restricted place_of o r)
  unfolding IsBare
  bare_record (records.Plain step) = bare_step step
  bare_record (records.Op t id op) = bare_if (records.Op t id op) (place_of op == o) tt
  bare_record (records.Commit t) = tt
  bare_record (records.Abort t) = tt
  bare_record (records.Retry t) = tt
  bare_record (records.Refresh t p) = bare_if (records.Refresh t p) (p == o) tt
  bare_record (records.XBegin t) = tt
  bare_record (records.XEnd t) = tt
  bare_record (records.XAbort t) = tt
  bare_record (records.Depend t source) = tt
  bare_record (records.Publish t) = tt
  bare_record (records.DropSource t source) = tt

  bare_more : (line : ℕ) (w : Option (RunRecord Op)) (rs : Records (RunRecord Op)) → IsBare w → Each HasNoBody (bare (mapped_records act_of (λ p. 0) rs)) → Each HasNoBody (bare (mapped_records act_of (λ p. 0) (with_record line w rs)))
  unfolding IsBare
  bare_more line None rs h k = k
  bare_more line (Some r) rs h k = (h, k)

  -- No begin of a restriction has a body.
  pub bare_part : (rs : Records (RunRecord Op)) → Each HasNoBody (bare (acts_records o rs))
  bare_part [] = tt
  bare_part (r ∷ rs) = bare_more r.line (restricted place_of o r.what) (restricted_records place_of o rs) (bare_record r.what) (bare_part rs)

  -- The restriction of a run has the verdict of the run on the object alone.
  pub part_alone : (style : Style) → HasSummary style → (ks : List Kind) (k : Kind) → slice_get ks o ≡ Some k → (h : Option (Start Op)) (rs : Records (RunRecord Op)) → Each (IsOfStyle style) (bare rs) → (v : Verdict) →
      HasVerdict style (rules_of objects ks) place_of ks (restricted_start place_of o h) (restricted_records place_of o rs) v
      ↔ HasVerdict style (rules_of objects (k ∷ [])) place_of (k ∷ []) (alone_start o h) (alone_records o rs) v
  part_alone style has ks k at h rs is v =
      let whole = alike (rules_of one k) (rules_of objects ks) (act_at o) (one_of_run o ks k at) (numbered o) (λ a. 0) place_of style (k ∷ []) ks (first_of_run o ks k at) (acts_start o h) (acts_records o rs) (bare_part rs) in
      let alone = alike (rules_of one k) (rules_of objects (k ∷ [])) (act_at 0) (one_of_run 0 (k ∷ []) k refl) (numbered 0) (λ a. 0) place_of style (k ∷ []) (k ∷ []) (first_of_run 0 (k ∷ []) k refl) (acts_start o h) (acts_records o rs) (bare_part rs) in
      let here = subst (λ (g : Option (Start Op)). HasVerdict style (rules_of one k) (λ a. 0) (k ∷ []) (acts_start o h) (acts_records o rs) v ↔ HasVerdict style (rules_of objects ks) place_of ks g (restricted_records place_of o rs) v) (start_again h)
      (subst (λ (l : Records (RunRecord Op)). HasVerdict style (rules_of one k) (λ a. 0) (k ∷ []) (acts_start o h) (acts_records o rs) v ↔ HasVerdict style (rules_of objects ks) place_of ks (mapped_start (act_at o) (acts_start o h)) l v) (records_again style has rs is) (whole.verdict v)) in (
        (λ x. (alone.verdict v).0 (here.1 x)),
        (λ x. here.0 ((alone.verdict v).1 x)),
      )
