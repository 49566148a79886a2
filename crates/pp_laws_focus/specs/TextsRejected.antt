-- Meaning: an input that is rejected has bookkeeping that is not right, or the text that `focus`
-- prints of it for some object is rejected on the same line.
use Rattle.std.specs.Prelude.{◌≡◌, ◌⊎◌, ℕ, suc, List, [], ◌∷◌, ◌++◌, None, Some}
use Rattle.pp_core.specs.Catalogs.{place_of as place_named}
use Rattle.pp_model.specs.Config.{Step}
use Rattle.pp_model.specs.Rules.{Accepted, StartMeets, Verdict}
use Rattle.pp_records.specs.Records.{RunRecord}
use Rattle.pp_records.specs.Runs.{Lined, Records}
use Rattle.pp_objects.specs.Objects.{kinds_of, place_of}
use Rattle.pp_objects.specs.declared.act.Op.{Op}
use Rattle.pp_format_read.specs.declared.header.Header.{Header}
use Rattle.pp_laws_summary.specs.LocalLogs.{HasSummary}
use Rattle.pp_laws_locality.specs.Locality.{HasVerdict, RunFails}
use Rattle.pp_laws_locality.specs.Rejected.{IsOfBookkeeping}
use Rattle.pp_judge.specs.Objects.{object_of, start_of}
use Rattle.pp_cmd_judge.specs.Inputs.{judge_scan}
use Rattle.pp_cmd_focus.specs.Again.{left_after}
use Rattle.pp_cmd_focus.specs.Moved.{moved_header, moved_step}
use Rattle.pp_cmd_focus.specs.Restrictions.{restriction}

-- The first step of the records after this header that violates a criterion is s, on this line. The
-- number of the criterion is n + 1.
abbrev pub RecordsFail : Header → Records (RunRecord Op) → ℕ → Step Op → ℕ → Type 0
RecordsFail header rs line s n =
    RunFails header.style (object_of header) place_of (kinds_of header.catalog) (start_of header) rs
    line s n

-- The records after this header have this verdict.
abbrev pub RecordsHave : Header → Records (RunRecord Op) → Verdict → Type 0
RecordsHave header rs v =
    HasVerdict header.style (object_of header) place_of (kinds_of header.catalog) (start_of header)
    rs v

-- The start of this input meets its criteria, and its first step that violates one is s, on this
-- line.
pub record IsRejectedAt (bytes : List ℕ) (line : ℕ) (s : Step Op) (n : ℕ) : Type 0 where
  pub header : Lined Header
  pub first_line : (judge_scan bytes).header ≡ Some header
  pub start : StartMeets (object_of header.what) (start_of header.what)
  pub fails : RecordsFail header.what (judge_scan bytes).records line s n

-- The text for some name of the header is rejected on this line, at this step, which is then on the
-- first object, and by this criterion.
abbrev pub SomeTextIsRejectedAt : Lined Header → List ℕ → ℕ → Step Op → ℕ → Type 0
SomeTextIsRejectedAt header bytes line s n =
    (name : List ℕ) × (o : ℕ) × (place_named name header.what.catalog ≡ Some o)
    × IsRejectedAt (restriction name bytes) line (moved_step s) n

-- In the text for each name of the header, what is left of the records before `next` is accepted.
-- This is a record on the line.
pub record TextsAcceptedUpTo (header : Header) (rs : Records (RunRecord Op)) (line : ℕ) :
    Type 0 where
  pub before : Records (RunRecord Op)
  pub next : Lined (RunRecord Op)
  pub after : Records (RunRecord Op)
  pub parts : rs ≡ before ++ next ∷ after
  pub on_line : next.line ≡ line
  pub each : (name : List ℕ) (o : ℕ) → place_named name header.catalog ≡ Some o →
      RecordsHave (moved_header o header) (left_after o header [] before) Accepted

-- If a boosted, optimistic or hardware input without a fault is rejected at a step, the criterion
-- is one of bookkeeping, or some text is rejected alike. No text is rejected at an earlier record.
abbrev pub TextsReject : Type 0
TextsReject = (bytes : List ℕ) (header : Lined Header) (line : ℕ) (s : Step Op) (n : ℕ) →
    (judge_scan bytes).fault ≡ None → (judge_scan bytes).header ≡ Some header →
    HasSummary header.what.style → StartMeets (object_of header.what) (start_of header.what) →
    RecordsFail header.what (judge_scan bytes).records line s n →
    (IsOfBookkeeping s (suc n) ⊎ SomeTextIsRejectedAt header bytes line s n)
    × TextsAcceptedUpTo header.what (judge_scan bytes).records line
