-- What is written of a line, by what it is about.
use Rattle.std.specs.Prelude.{◌≡◌, ◌==◌, ℕ, Bool, true, false, cond, if◌then◌else◌, List, [], Option, None, Some}
use Rattle.std.proofs.Common.{refl, sym, ap}
use Rattle.pp_core.specs.Steps.{Step, Begin, App, Unapp, Push, Unpush, Pull, Unpull, Cmt, Quit, Note}
use Rattle.pp_records.specs.Records.{RunRecord}
use Rattle.pp_records.specs.Records as records
use Rattle.pp_objects.specs.Objects.{place_of}
use Rattle.pp_objects.specs.declared.act.Op.{Op}
use Rattle.pp_format_read.specs.declared.header.Header.{Header}
use Rattle.pp_cmd_focus.specs.Records.{kept_on, record_written, restricted_record}
use Rattle.pp_cmd_focus.specs.Subjects.{subject_of, subject_of_id, subject_of_step, subject_written}

-- a record that is written as it came is kept or not
kept_written : (r : RunRecord Op) (bytes : List ℕ) → record_written (Some r) bytes ≡ bytes → (b : Bool) → (if b then bytes else []) ≡ record_written (cond b (Some r) None) bytes
kept_written r bytes same true = sym same
kept_written r bytes same false = refl

-- a step of an id that may be known
id_written : (o : ℕ) (header : Header) (step : Step Op) (bytes : List ℕ) → record_written (Some (records.Plain step)) bytes ≡ bytes → (w : Option ℕ)
    → subject_written o header (subject_of_id w) bytes ≡ record_written (kept_on o w (Some (records.Plain step))) bytes
id_written o header step bytes same None = sym same
id_written o header step bytes same (Some p) = kept_written (records.Plain step) bytes same (p == o)

step_written_so : (objects : ℕ → Option ℕ) (o : ℕ) (header : Header) (step : Step Op) (bytes : List ℕ)
    → subject_written o header (subject_of_step objects step) bytes ≡ record_written (restricted_record objects o (records.Plain step)) bytes
step_written_so objects o header (Begin t p b) bytes = refl
step_written_so objects o header (App t id op) bytes = kept_written (records.Plain (App t id op)) bytes refl (place_of op == o)
step_written_so objects o header (Unapp t id) bytes = id_written o header (Unapp t id) bytes refl (objects id)
step_written_so objects o header (Push t id) bytes = id_written o header (Push t id) bytes refl (objects id)
step_written_so objects o header (Unpush t id) bytes = id_written o header (Unpush t id) bytes refl (objects id)
step_written_so objects o header (Pull t id) bytes = id_written o header (Pull t id) bytes refl (objects id)
step_written_so objects o header (Unpull t id) bytes = id_written o header (Unpull t id) bytes refl (objects id)
step_written_so objects o header (Cmt t) bytes = refl
step_written_so objects o header (Quit t) bytes = refl
step_written_so objects o header (Note t) bytes = refl

-- What is written of a record by what it is about is the line of its restriction.
pub subject_is : (objects : ℕ → Option ℕ) (o : ℕ) (header : Header) (r : RunRecord Op) (bytes : List ℕ)
    → subject_written o header (subject_of objects r) bytes ≡ record_written (restricted_record objects o r) bytes
subject_is objects o header (records.Plain step) bytes = step_written_so objects o header step bytes
subject_is objects o header (records.Op t id op) bytes = kept_written (records.Op t id op) bytes refl (place_of op == o)
subject_is objects o header (records.Commit t) bytes = refl
subject_is objects o header (records.Abort t) bytes = refl
subject_is objects o header (records.Retry t) bytes = refl
subject_is objects o header (records.Refresh t p) bytes = kept_written (records.Refresh t p) bytes refl (p == o)
subject_is objects o header (records.XBegin t) bytes = refl
subject_is objects o header (records.XEnd t) bytes = refl
subject_is objects o header (records.XAbort t) bytes = refl
subject_is objects o header (records.Depend t source) bytes = refl
subject_is objects o header (records.Publish t) bytes = refl
subject_is objects o header (records.DropSource t source) bytes = refl

-- ---- the objects of ids

module _ (f g : ℕ → Option ℕ) (same : (id : ℕ) → f id ≡ g id) where
  same_step : (step : Step Op) → subject_of_step f step ≡ subject_of_step g step
  same_step (Begin t p b) = refl
  same_step (App t id op) = refl
  same_step (Unapp t id) = ap subject_of_id (same id)
  same_step (Push t id) = ap subject_of_id (same id)
  same_step (Unpush t id) = ap subject_of_id (same id)
  same_step (Pull t id) = ap subject_of_id (same id)
  same_step (Unpull t id) = ap subject_of_id (same id)
  same_step (Cmt t) = refl
  same_step (Quit t) = refl
  same_step (Note t) = refl

  -- What a record is about depends on the objects of ids alone.
  pub same_subject : (r : RunRecord Op) → subject_of f r ≡ subject_of g r
  same_subject (records.Plain step) = same_step step
  same_subject (records.Op t id op) = refl
  same_subject (records.Commit t) = refl
  same_subject (records.Abort t) = refl
  same_subject (records.Retry t) = refl
  same_subject (records.Refresh t p) = refl
  same_subject (records.XBegin t) = refl
  same_subject (records.XEnd t) = refl
  same_subject (records.XAbort t) = refl
  same_subject (records.Depend t source) = refl
  same_subject (records.Publish t) = refl
  same_subject (records.DropSource t source) = refl
