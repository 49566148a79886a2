-- The lines that are printed are read again.
use Rattle.std.specs.Prelude.{◌≡◌, ℕ, ◌==◌, Bool, true, false, cond, List, Option, None, Some, Ok}
use Rattle.std.proofs.Common.{refl, ap, ◌∙◌, subst}
use Rattle.std.proofs.lemmas.Bool.Decides.{eqb_tells}
use Rattle.std.proofs.lemmas.Option.{same_Some}
use mathlib.Core.Logic.{inl, inr}
use Rattle.pp_core.specs.Steps.{Step, Begin, App, Unapp, Push, Unpush, Pull, Unpull, Cmt, Quit, Note}
use Rattle.pp_records.specs.Records.{RunRecord}
use Rattle.pp_records.specs.Records as records
use Rattle.pp_objects.specs.Objects.{place_of}
use Rattle.pp_objects.specs.declared.act.Op.{Op}
use Rattle.pp_format_read.specs.declared.header.Header.{Header}
use Rattle.pp_format_read.specs.Records.{record_of}
use Rattle.pp_format_write.proofs.StepsRead.{is_statable}
use Rattle.pp_cmd_focus.specs.Again.{LinesReadAgain}
use Rattle.pp_cmd_focus.specs.Moved.{Stays, moved_header, moved_record}
use Rattle.pp_cmd_focus.specs.Records.{kept_on, record_written, restricted_record}
use Rattle.pp_cmd_focus.proofs.HeaderBack.{begin_back}
use Rattle.pp_cmd_focus.proofs.HeaderMoved.{header_back}
use Rattle.pp_cmd_focus.proofs.Readings.{record_moves}

-- what is left of what stays if a test is passed
left_if : {A : Type 0} (b : Bool) (x left : A) → cond b (Some x) None ≡ Some left → (b ≡ true) × (x ≡ left)
left_if true x left is = (refl, same_Some x left is)
left_if false x left is = absurd (let none : None ≡ Some left = is in cc)

left_on : (o : ℕ) (p : Option ℕ) (x left : RunRecord Op) → kept_on o p (Some x) ≡ Some left → x ≡ left
left_on o None x left is = same_Some x left is
left_on o (Some p) x left is = (left_if (p == o) x left is).1

here : (p o : ℕ) → (p == o) ≡ true → p ≡ o
here p o is = elim (eqb_tells p o) [ inl h ↦ h.1 | inr h ↦ absurd (cc (is, h.0)) ]

module _ (line : List ℕ) (header : Header) (objects : ℕ → Option ℕ) (o : ℕ) where
  Goal : RunRecord Op → Type 0
  Goal left = record_of (moved_header o header) (record_written (Some left) line) ≡ Ok (moved_record left)

  -- a record that stays as it came
  stays : (r left : RunRecord Op) → r ≡ left → record_of header line ≡ Ok r → Stays o r → record_written (Some r) line ≡ line → Goal left
  unfolding Goal
  stays r left same read on written =
      subst Goal same (ap (λ (bytes : List ℕ). record_of (moved_header o header) bytes) written ∙ record_moves o header (moved_header o header) line r refl refl read on)

  step_left : (step : Step Op) (left : RunRecord Op) → record_of header line ≡ Ok (records.Plain step) → restricted_record objects o (records.Plain step) ≡ Some left → Goal left
  unfolding Goal
  step_left (Begin t p b) left read is =
      let named = is_statable header line (records.Plain (Begin t p b)) read in
      subst Goal (same_Some (records.Plain (Begin t p None)) left is) (begin_back t p named.0 named.1 (moved_header o header))
  step_left (App t id op) left read is =
      let on = left_if (place_of op == o) (records.Plain (App t id op)) left is in
      stays (records.Plain (App t id op)) left on.1 read (here (place_of op) o on.0) refl
  step_left (Unapp t id) left read is = stays (records.Plain (Unapp t id)) left (left_on o (objects id) _ left is) read tt refl
  step_left (Push t id) left read is = stays (records.Plain (Push t id)) left (left_on o (objects id) _ left is) read tt refl
  step_left (Unpush t id) left read is = stays (records.Plain (Unpush t id)) left (left_on o (objects id) _ left is) read tt refl
  step_left (Pull t id) left read is = stays (records.Plain (Pull t id)) left (left_on o (objects id) _ left is) read tt refl
  step_left (Unpull t id) left read is = stays (records.Plain (Unpull t id)) left (left_on o (objects id) _ left is) read tt refl
  step_left (Cmt t) left read is = stays (records.Plain (Cmt t)) left (same_Some _ left is) read tt refl
  step_left (Quit t) left read is = stays (records.Plain (Quit t)) left (same_Some _ left is) read tt refl
  step_left (Note t) left read is = stays (records.Plain (Note t)) left (same_Some _ left is) read tt refl

  record_left : (r left : RunRecord Op) → record_of header line ≡ Ok r → restricted_record objects o r ≡ Some left → Goal left
  record_left (records.Plain step) left read is = step_left step left read is
  record_left (records.Op t id op) left read is =
      let on = left_if (place_of op == o) (records.Op t id op) left is in
      stays (records.Op t id op) left on.1 read (here (place_of op) o on.0) refl
  record_left (records.Commit t) left read is = stays (records.Commit t) left (same_Some _ left is) read tt refl
  record_left (records.Abort t) left read is = stays (records.Abort t) left (same_Some _ left is) read tt refl
  record_left (records.Retry t) left read is = stays (records.Retry t) left (same_Some _ left is) read tt refl
  record_left (records.Refresh t p) left read is =
      let on = left_if (p == o) (records.Refresh t p) left is in
      stays (records.Refresh t p) left on.1 read (here p o on.0) refl
  record_left (records.XBegin t) left read is = stays (records.XBegin t) left (same_Some _ left is) read tt refl
  record_left (records.XEnd t) left read is = stays (records.XEnd t) left (same_Some _ left is) read tt refl
  record_left (records.XAbort t) left read is = stays (records.XAbort t) left (same_Some _ left is) read tt refl
  record_left (records.Depend t source) left read is = stays (records.Depend t source) left (same_Some _ left is) read tt refl
  record_left (records.Publish t) left read is = stays (records.Publish t) left (same_Some _ left is) read tt refl
  record_left (records.DropSource t source) left read is = stays (records.DropSource t source) left (same_Some _ left is) read tt refl

  record_again : (r left : RunRecord Op) → record_of header line ≡ Ok r → restricted_record objects o r ≡ Some left
      → record_of (moved_header o header) (record_written (Some left) line) ≡ Ok (moved_record left)
  unfolding Goal
  record_again r left read is = record_left r left read is

-- Each line that is printed of a record or of the header is read without a fault.
pub lines_read_again : LinesReadAgain
lines_read_again = record {
  first = λ line name header o read place. (header_back line header o name read place).0;
  other = record_again;
}
