-- If an input is rejected, the criterion is one of bookkeeping, or some text of `focus` is rejected alike.
use Rattle.std.specs.Prelude.{◌≡◌, ◌⊎◌, ℕ, suc, List, [], ◌∷◌, ◌++◌, None, Some, Option}
use Rattle.std.proofs.Common.{sym, ap, subst}
use mathlib.Core.Logic.{inl, inr}
use Rattle.pp_core.specs.declared.call.Kind.{Kind}
use Rattle.pp_kind.specs.Object.{rules_of}
use Rattle.pp_model.specs.Config.{Start, Step}
use Rattle.pp_model.specs.Lists.{Each}
use Rattle.pp_model.specs.Rules.{Accepted, StartMeets}
use Rattle.pp_records.specs.Expansions.{IsOfStyle}
use Rattle.pp_records.specs.Records.{RunRecord}
use Rattle.pp_records.specs.Runs.{Lined, Records, bare, outset}
use Rattle.pp_records.specs.Styles.{translation}
use Rattle.pp_objects.specs.Objects.{kinds_of, objects, place_of}
use Rattle.pp_objects.specs.declared.act.Op.{Op}
use Rattle.pp_format_read.specs.declared.header.Header.{Header}
use Rattle.pp_laws_summary.specs.LocalLogs.{HasSummary}
use Rattle.pp_laws_locality.specs.Locality.{RunFails}
use Rattle.pp_laws_locality.specs.Rejected.{IsOfBookkeeping}
use Rattle.pp_laws_locality.specs.Restricted.{restricted_records, restricted_start}
use Rattle.pp_judge.specs.Objects.{object_of, start_of}
use Rattle.pp_judge.specs.Scans.{InputScan}
use Rattle.pp_cmd_judge.specs.Inputs.{judge_limits, judge_scan}
use Rattle.pp_cmd_focus.specs.Again.{left_after}
use Rattle.pp_cmd_focus.specs.Headers.{object_at}
use Rattle.pp_cmd_focus.specs.Moved.{moved_header, moved_step}
use Rattle.pp_cmd_focus.proofs.TextAgain.{text_read_again}
use Rattle.pp_laws_focus.specs.TextsRejected.{RecordsFail, SomeTextIsRejectedAt, TextsAcceptedUpTo, TextsReject}
use Rattle.pp_laws_focus.proofs.Absent.{all_idle, first_empty, has_or_not}
use Rattle.pp_laws_focus.proofs.Failing.{alone_fails, start_meets}
use Rattle.pp_laws_focus.proofs.Idle.{idle_fails}
use Rattle.pp_laws_focus.proofs.Left.{kinds_alone, left_alone, start_alone}
use Rattle.pp_laws_focus.proofs.ObjectsOf.{all_named, all_placed, all_styled, placed, start_stated}
use Rattle.pp_laws_focus.proofs.PartAlone.{alone_records, alone_start}
use Rattle.pp_laws_focus.proofs.PlacedRecords.{HasPlace}
use Rattle.pp_laws_focus.proofs.TextsLocal.{local, prefix_verdict}

-- the records before others are of their style
each_before : {A : Type 0} (P : A → Type 0) (xs ys : List (Lined A)) → Each P (bare (xs ++ ys)) → Each P (bare xs)
each_before P [] ys h = tt
each_before P (x ∷ xs) ys h = (h.0, each_before P xs ys h.1)

module _ (bytes : List ℕ) (header : Lined Header) (sound : (judge_scan bytes).fault ≡ None) (there : (judge_scan bytes).header ≡ Some header) (has : HasSummary header.what.style)
    (line : ℕ) (s : Step Op) (n : ℕ) (start : StartMeets (object_of header.what) (start_of header.what)) where
  abbrev rs : Records (RunRecord Op)
  rs = (judge_scan bytes).records

  abbrev ks : List Kind
  ks = kinds_of header.what.catalog

  styled : Each (IsOfStyle header.what.style) (bare rs)
  styled = all_styled judge_limits bytes header there

  abbrev PartFails : ℕ → Type 0
  PartFails o = RunFails header.what.style (object_of header.what) place_of ks (restricted_start place_of o (start_of header.what)) (restricted_records place_of o rs) line s n

  -- the text for the object at a place
  text_rejected : (o : ℕ) → HasPlace header.what.catalog o → PartFails o → SomeTextIsRejectedAt header bytes line s n
  text_rejected o (k, at) f =
      let named = all_named judge_limits bytes header there o (placed header.what.catalog o (k, at)) in
      let again = (text_read_again named.name bytes header o sound there named.found).0 in
      let part = ((local bytes header sound there has).start (start_of header.what)).0 start in
      let meets : StartMeets (object_of (moved_header o header.what)) (start_of (moved_header o header.what)) =
      subst (λ (z : Option (Start Op)). StartMeets (object_of (moved_header o header.what)) z) (sym (start_alone o header.what))
      (subst (λ (qs : List Kind). StartMeets (rules_of objects qs) (alone_start o (start_of header.what))) (sym (kinds_alone header.what.catalog o k at))
      (start_meets header.what.style has ks k o at (start_of header.what) rs styled (part.1 o))) in
      let fails : RecordsFail (moved_header o header.what) (left_after o header.what [] rs) line (moved_step s) n =
      subst (λ (l : Records (RunRecord Op)). RecordsFail (moved_header o header.what) l line (moved_step s) n) (sym (left_alone header.what.style has o header.what [] rs styled))
      (subst (λ (z : Option (Start Op)). RunFails header.what.style (object_of (moved_header o header.what)) place_of (kinds_of (object_at o header.what.catalog)) z (alone_records o rs) line (moved_step s) n) (sym (start_alone o header.what))
      (subst (λ (qs : List Kind). RunFails header.what.style (rules_of objects qs) place_of qs (alone_start o (start_of header.what)) (alone_records o rs) line (moved_step s) n) (sym (kinds_alone header.what.catalog o k at))
      (alone_fails header.what.style has ks k o at (start_of header.what) rs styled line s n f))) in (
        named.name,
        o,
        named.found,
        record {
          header = record { line = header.line; what = moved_header o header.what };
          first_line = ap (λ (c : InputScan). c.header) again;
          start = meets;
          fails = subst (λ (c : InputScan). RecordsFail (moved_header o header.what) c.records line (moved_step s) n) (sym again) fails;
        },
      )

  -- an object that the header does not have
  none_rejected : (o : ℕ) → (HasPlace header.what.catalog o → ⊥) → PartFails o → IsOfBookkeeping s (suc n)
  none_rejected o absent f =
      idle_fails (object_of header.what) place_of header.what.style ks line s n (restricted_records place_of o rs) (outset (translation place_of header.what.style ks) (restricted_start place_of o (start_of header.what)))
      (all_idle header.what.catalog o absent header.what.style has rs styled (all_placed judge_limits bytes header there)) (first_empty header.what.catalog o absent header.what (start_stated judge_limits bytes header there)) f

  rejected_alike : RecordsFail header.what rs line s n → IsOfBookkeeping s (suc n) ⊎ SomeTextIsRejectedAt header bytes line s n
  rejected_alike f = elim ((local bytes header sound there has).rejected ks (start_of header.what) rs line s n styled start f) [
    | inl b ↦ inl b
    | inr k ↦ elim (has_or_not header.what.catalog k.0) [ inl h ↦ inr (text_rejected k.0 h k.1) | inr absent ↦ inl (none_rejected k.0 absent k.1) ]
  ]

  accepted_before : RecordsFail header.what rs line s n → TextsAcceptedUpTo header.what rs line
  accepted_before f =
      let k = (local bytes header sound there has).earlier ks (start_of header.what) rs line s n styled start f in
      record {
        before = k.before;
        next = k.next;
        after = k.after;
        parts = k.parts;
        on_line = k.on_line;
        each = λ name o place.
            (prefix_verdict bytes header sound there has k.before (each_before (IsOfStyle header.what.style) k.before (k.next ∷ k.after) (subst (λ (l : Records (RunRecord Op)). Each (IsOfStyle header.what.style) (bare l)) k.parts styled)) name o place Accepted).0
            (k.each o);
      }

-- If an input is rejected, the criterion is one of bookkeeping, or some text is rejected alike. No text is rejected earlier.
pub texts_reject : TextsReject
texts_reject bytes header line s n sound there has start f = (rejected_alike bytes header sound there has line s n start f, accepted_before bytes header sound there has line s n start f)
