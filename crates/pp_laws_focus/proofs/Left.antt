-- What is left of records and of a header, as the restriction on the object alone.
use Rattle.std.specs.Prelude.{◌≡◌, ℕ, List, [], ◌∷◌, ◌++◌, option_map, slice_get, Option, None, Some}
use Rattle.std.specs.Option.{option_to_list}
use Rattle.std.proofs.Common.{refl, sym, ap, ◌∙◌}
use Rattle.std.proofs.lemmas.Option.{slice_get-map}
use Rattle.pp_core.specs.Catalogs.{Objects}
use Rattle.pp_core.specs.declared.call.Kind.{Kind}
use Rattle.pp_core.specs.declared.call.Style.{Style}
use Rattle.pp_core.specs.Steps.{Step, Begin, App, Unapp, Push, Unpush, Pull, Unpull, Cmt, Quit, Note}
use Rattle.pp_core.specs.declared.entry.Item.{Item}
use Rattle.pp_model.specs.Config.{Start}
use Rattle.pp_model.specs.Lists.{Each}
use Rattle.pp_records.specs.Expansions.{IsOfStyle}
use Rattle.pp_records.specs.Records.{RunRecord}
use Rattle.pp_records.specs.Records as records
use Rattle.pp_records.specs.Runs.{Records, bare}
use Rattle.pp_objects.specs.Objects.{act_at, kinds_of, place_of}
use Rattle.pp_objects.specs.declared.act.Op.{Op}
use Rattle.pp_format_read.specs.declared.header.Header.{Header}
use Rattle.pp_format_read.specs.declared.start.Start.{Start as HeaderStart}
use Rattle.pp_laws_summary.specs.LocalLogs.{HasSummary}
use Rattle.pp_laws_summary.proofs.Relog.{map_map}
use Rattle.pp_laws_locality.specs.Restricted.{restricted, restricted_records, with_record}
use Rattle.pp_laws_mapped.specs.Mapped.{mapped_item, mapped_record, mapped_records, mapped_step}
use Rattle.pp_judge.specs.Objects.{start_of}
use Rattle.pp_cmd_focus.specs.Again.{left_after, left_of}
use Rattle.pp_cmd_focus.specs.Headers.{items_on, object_at}
use Rattle.pp_cmd_focus.specs.Moved.{moved_header, moved_record, moved_step}
use Rattle.pp_cmd_focus.specs.Records.{known, restricted_record}
use Rattle.pp_laws_focus.proofs.OneObject.{numbered}
use Rattle.pp_laws_focus.proofs.PartAlone.{act_of, alone_records, alone_start, begin_back}

-- a record on the first object
abbrev first_again : RunRecord Op → RunRecord Op
first_again r = mapped_record (act_at 0) (numbered 0) (mapped_record act_of (λ p. 0) r)

step_first : (step : Step Op) → mapped_step (act_at 0) (mapped_step act_of step) ≡ moved_step step
step_first (Begin t p b) = refl
step_first (App t id op) = refl
step_first (Unapp t id) = refl
step_first (Push t id) = refl
step_first (Unpush t id) = refl
step_first (Pull t id) = refl
step_first (Unpull t id) = refl
step_first (Cmt t) = refl
step_first (Quit t) = refl
step_first (Note t) = refl

record_first : (r : RunRecord Op) → first_again r ≡ moved_record r
record_first (records.Plain step) = ap (λ (s : Step Op). records.Plain s) (step_first step)
record_first (records.Op t id op) = refl
record_first (records.Commit t) = refl
record_first (records.Abort t) = refl
record_first (records.Retry t) = refl
record_first (records.Refresh t p) = refl
record_first (records.XBegin t) = refl
record_first (records.XEnd t) = refl
record_first (records.XAbort t) = refl
record_first (records.Depend t source) = refl
record_first (records.Publish t) = refl
record_first (records.DropSource t source) = refl

module _ (style : Style) (has : HasSummary style) (o : ℕ) where
  -- In the three styles the ids do not matter.
  same_record : (objects : ℕ → Option ℕ) (r : RunRecord Op) → IsOfStyle style r → restricted_record objects o r ≡ restricted place_of o r
  same_record objects (records.Plain step) is = begin_back style has (λ s. restricted_record objects o (records.Plain s) ≡ restricted place_of o (records.Plain s)) (λ t p b. refl) step is
  same_record objects (records.Op t id op) is = refl
  same_record objects (records.Commit t) is = refl
  same_record objects (records.Abort t) is = refl
  same_record objects (records.Retry t) is = refl
  same_record objects (records.Refresh t p) is = refl
  same_record objects (records.XBegin t) is = refl
  same_record objects (records.XEnd t) is = refl
  same_record objects (records.XAbort t) is = refl
  same_record objects (records.Depend t source) is = refl
  same_record objects (records.Publish t) is = refl
  same_record objects (records.DropSource t source) is = refl

  abbrev all_first : Records (RunRecord Op) → Records (RunRecord Op)
  all_first rs = mapped_records (act_at 0) (numbered 0) (mapped_records act_of (λ p. 0) rs)

  one_left : (line : ℕ) (w : Option (RunRecord Op)) (rs : Records (RunRecord Op)) → left_of line w ++ all_first rs ≡ all_first (with_record line w rs)
  one_left line None rs = refl
  one_left line (Some r) rs = ap (λ (s : RunRecord Op). record { line = line; what = s } ∷ all_first rs) (sym (record_first r))

  -- What is left of records is their restriction on the object alone.
  pub left_alone : (header : Header) (before rs : Records (RunRecord Op)) → Each (IsOfStyle style) (bare rs) → left_after o header before rs ≡ alone_records o rs
  left_alone header before [] is = refl
  left_alone header before (r ∷ rs) is =
      ap (λ (w : Option (RunRecord Op)). left_of r.line w ++ left_after o header (before ++ r ∷ []) rs) (same_record (known header before) r.what is.0)
      ∙ ap (λ (l : Records (RunRecord Op)). left_of r.line (restricted place_of o r.what) ++ l) (left_alone header (before ++ r ∷ []) rs is.1)
      ∙ one_left r.line (restricted place_of o r.what) (restricted_records place_of o rs)

-- The start of the header over an object alone.
pub start_alone : (o : ℕ) (header : Header) → start_of (moved_header o header) ≡ alone_start o (start_of header)
start_alone o header = by header.start
  where
    by : (s : Option HeaderStart) → start_of (moved_header o (record { style = header.style; catalog = header.catalog; start = s })) ≡ alone_start o (start_of (record { style = header.style; catalog = header.catalog; start = s }))
    by None = refl
    by (Some z) =
        ap (λ (items : List (Item Op)). let g : Option (Start Op) = Some (record { tx = z.tx; items = items }) in g)
        (sym (map_map (mapped_item (act_at 0)) (mapped_item act_of) (items_on o z.ops)))

-- Its kinds.
pub kinds_alone : (catalog : Objects) (o : ℕ) (k : Kind) → slice_get (kinds_of catalog) o ≡ Some k → kinds_of (object_at o catalog) ≡ k ∷ []
kinds_alone catalog o k at = by (slice_get catalog o) refl
  where
    by : (e : Option (List ℕ × Kind)) → slice_get catalog o ≡ e → kinds_of (option_to_list (slice_get catalog o)) ≡ k ∷ []
    by None is = absurd (let no : Some k ≡ None = sym at ∙ slice_get-map (λ (x : List ℕ × Kind). x.1) catalog o ∙ ap (λ (w : Option (List ℕ × Kind)). option_map (λ x. x.1) w) is in cc)
    by (Some entry) is =
        let kind : Some k ≡ Some entry.1 = sym at ∙ slice_get-map (λ (x : List ℕ × Kind). x.1) catalog o ∙ ap (λ (w : Option (List ℕ × Kind)). option_map (λ x. x.1) w) is in
        let same : k ≡ entry.1 = cc in
        ap (λ (w : Option (List ℕ × Kind)). kinds_of (option_to_list w)) is ∙ ap (λ (q : Kind). q ∷ []) (sym same)
