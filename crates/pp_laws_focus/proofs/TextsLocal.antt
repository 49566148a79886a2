-- An input is right exactly if its bookkeeping is, and the text of `focus` for each name is right.
use Rattle.std.specs.Prelude.{◌≡◌, ◌↔◌, ℕ, List, [], Option, None, Some}
use Rattle.std.proofs.Common.{refl, sym, subst, ◌∙◌}
use Rattle.std.proofs.lemmas.Option.{same_Some}
use Rattle.pp_core.specs.Catalogs.{place_of as place_named}
use Rattle.pp_core.specs.declared.call.Kind.{Kind}
use Rattle.pp_kind.specs.Object.{rules_of}
use Rattle.pp_kind.proofs.Places.{tells_states}
use Rattle.pp_model.specs.Config.{Start}
use Rattle.pp_model.specs.Lists.{Each}
use Rattle.pp_model.specs.Rules.{Accepted, Verdict}
use Rattle.pp_model.proofs.Verdict.{accepted_iff}
use Rattle.pp_records.specs.Expansions.{IsOfStyle}
use Rattle.pp_records.specs.Inputs.{steps_of}
use Rattle.pp_records.specs.Records.{RunRecord}
use Rattle.pp_records.specs.Runs.{Lined, Records, bare}
use Rattle.pp_objects.specs.Objects.{SameAt, kinds_of, objects, place_of}
use Rattle.pp_objects.specs.declared.act.Op.{Op}
use Rattle.pp_objects.specs.laws.Objects.{objects_lawful, objects_placed}
use Rattle.pp_format_read.specs.declared.header.Header.{Header}
use Rattle.pp_format_write.proofs.NamesBack.{named_place}
use Rattle.pp_laws_summary.specs.LocalLogs.{HasSummary}
use Rattle.pp_laws_summary.proofs.Placed.{parts_of}
use Rattle.pp_laws_locality.specs.Locality.{HasVerdict, IsLocal}
use Rattle.pp_laws_locality.specs.Restricted.{restricted_records, restricted_start}
use Rattle.pp_laws_locality.proofs.RunFailures.{locals}
use Rattle.pp_judge.specs.Accepted.{EachStepMeets}
use Rattle.pp_judge.specs.Objects.{object_of, setting_of, start_of}
use Rattle.pp_judge.specs.Scans.{InputScan}
use Rattle.pp_cmd_judge.specs.Inputs.{judge_limits, judge_scan}
use Rattle.pp_cmd_focus.specs.Again.{left_after, left_scan}
use Rattle.pp_cmd_focus.specs.Headers.{object_at}
use Rattle.pp_cmd_focus.specs.Moved.{moved_header}
use Rattle.pp_cmd_focus.specs.Restrictions.{restriction}
use Rattle.pp_cmd_focus.proofs.TextAgain.{text_read_again}
use Rattle.pp_laws_focus.specs.TextsLocal.{EachTextMeets, InputHasBookkeeping, TextsAreLocal}
use Rattle.pp_laws_focus.specs.TextsRejected.{RecordsHave}
use Rattle.pp_laws_focus.proofs.Left.{kinds_alone, left_alone, start_alone}
use Rattle.pp_laws_focus.proofs.ObjectsOf.{all_named, all_on, all_styled, kind_at, places_of, start_is_on}
use Rattle.pp_laws_focus.proofs.PartAlone.{alone_records, alone_start, part_alone}

-- The start and each step of a scan meet their criteria exactly if its records are accepted.
pub meets_accepted : (sc : InputScan) (header : Lined Header) → sc.header ≡ Some header → EachStepMeets sc ↔ RecordsHave header.what sc.records Accepted
meets_accepted sc header there = (
  (λ m.
      let same : m.header ≡ header = same_Some m.header header (sym m.first_line ∙ there) in
      subst (λ (h : Lined Header). RecordsHave h.what sc.records Accepted) same
      ((accepted_iff (object_of m.header.what) (start_of m.header.what) (bare (steps_of (setting_of m.header) sc.records))).1 (m.start, m.steps))),
  (λ a.
      let k = (accepted_iff (object_of header.what) (start_of header.what) (bare (steps_of (setting_of header) sc.records))).0 a in
      record { header = header; first_line = there; start = k.0; steps = k.1 }),
)

module _ (bytes : List ℕ) (header : Lined Header) (sound : (judge_scan bytes).fault ≡ None) (there : (judge_scan bytes).header ≡ Some header) (has : HasSummary header.what.style) where
  abbrev rs : Records (RunRecord Op)
  rs = (judge_scan bytes).records

  abbrev ks : List Kind
  ks = kinds_of header.what.catalog

  -- the restriction of the run to an object has this verdict
  abbrev pub PartVerdict : ℕ → Verdict → Type 0
  PartVerdict o v = HasVerdict header.what.style (object_of header.what) place_of ks (restricted_start place_of o (start_of header.what)) (restricted_records place_of o rs) v

  -- What is left of records has the verdict of their restriction.
  pub prefix_verdict : (ls : Records (RunRecord Op)) → Each (IsOfStyle header.what.style) (bare ls) → (name : List ℕ) (o : ℕ) → place_named name header.what.catalog ≡ Some o → (v : Verdict) →
      HasVerdict header.what.style (object_of header.what) place_of ks (restricted_start place_of o (start_of header.what)) (restricted_records place_of o ls) v ↔ RecordsHave (moved_header o header.what) (left_after o header.what [] ls) v
  prefix_verdict ls styled name o place v =
      let (k, at) = kind_at header.what.catalog o name (named_place header.what.catalog name o place) in
      let Part = HasVerdict header.what.style (object_of header.what) place_of ks (restricted_start place_of o (start_of header.what)) (restricted_records place_of o ls) v in
      subst (λ (l : Records (RunRecord Op)). Part ↔ RecordsHave (moved_header o header.what) l v) (sym (left_alone header.what.style has o header.what [] ls styled))
      (subst (λ (z : Option (Start Op)). Part ↔ HasVerdict header.what.style (object_of (moved_header o header.what)) place_of (kinds_of (object_at o header.what.catalog)) z (alone_records o ls) v) (sym (start_alone o header.what))
      (subst (λ (qs : List Kind). Part ↔ HasVerdict header.what.style (rules_of objects qs) place_of qs (alone_start o (start_of header.what)) (alone_records o ls) v) (sym (kinds_alone header.what.catalog o k at))
      (part_alone o header.what.style has ks k at (start_of header.what) ls styled v)))

  -- The text of `focus` is right exactly if the restriction is accepted.
  pub text_meets : (name : List ℕ) (o : ℕ) → place_named name header.what.catalog ≡ Some o → PartVerdict o Accepted ↔ EachStepMeets (judge_scan (restriction name bytes))
  text_meets name o place =
      let again = (text_read_again name bytes header o sound there place).0 in
      let left = left_scan o header rs in
      let m = meets_accepted left (record { line = header.line; what = moved_header o header.what }) refl in
      let t = prefix_verdict rs (all_styled judge_limits bytes header there) name o place Accepted in (
        (λ a. subst (λ (s : InputScan). EachStepMeets s) (sym again) (m.1 (t.0 a))),
        (λ e. t.1 (m.0 (subst (λ (s : InputScan). EachStepMeets s) again e))),
      )

  -- Runs over the objects of the header are local.
  pub local : IsLocal header.what.style (object_of header.what) place_of
  local =
      locals header.what.style has (object_of header.what) place_of (parts_of objects place_of SameAt objects_lawful objects_placed (kinds_of header.what.catalog))
      (tells_states objects objects_lawful (kinds_of header.what.catalog))

  -- The input is right exactly if its bookkeeping and the texts are.
  pub texts_meet : EachStepMeets (judge_scan bytes) ↔ (InputHasBookkeeping header (judge_scan bytes) × EachTextMeets header bytes)
  texts_meet =
      let whole = meets_accepted (judge_scan bytes) header there in
      let styled = all_styled judge_limits bytes header there in (
        (λ m.
            let parts = (local.accepted ks (start_of header.what) rs styled).0 (whole.0 m) in
            (parts.0, (λ name o place. (text_meets name o place).0 (parts.1 o)))),
        (λ k.
            whole.1 (local.enough ks (start_of header.what) rs (places_of header.what.catalog) styled (start_is_on judge_limits bytes header there) (all_on judge_limits bytes header there) k.0
            (λ o i. let n = all_named judge_limits bytes header there o i in (text_meets n.name o n.found).1 (k.1 n.name o n.found)))),
      )

-- Inputs of the three styles are right exactly if their bookkeeping and their texts are.
pub texts_are_local : TextsAreLocal
texts_are_local bytes header sound there has = texts_meet bytes header sound there has
