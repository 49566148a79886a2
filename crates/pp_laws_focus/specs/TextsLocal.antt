-- Meaning: a run is right exactly if its bookkeeping is, and the text that `focus` prints of it for
-- each object is right.
use Rattle.std.specs.Prelude.{◌≡◌, ◌↔◌, ℕ, List, None, Some}
use Rattle.pp_core.specs.Catalogs.{place_of as place_named}
use Rattle.pp_records.specs.Runs.{Lined}
use Rattle.pp_objects.specs.Objects.{kinds_of, place_of}
use Rattle.pp_format_read.specs.declared.header.Header.{Header}
use Rattle.pp_laws_summary.specs.LocalLogs.{HasSummary}
use Rattle.pp_laws_locality.specs.Locality.{HasBookkeeping}
use Rattle.pp_judge.specs.Accepted.{EachStepMeets}
use Rattle.pp_judge.specs.Objects.{object_of, start_of}
use Rattle.pp_judge.specs.Scans.{InputScan}
use Rattle.pp_cmd_judge.specs.Inputs.{judge_scan}
use Rattle.pp_cmd_focus.specs.Restrictions.{restriction}

-- The bookkeeping of an input with this header is right: names, threads, ids and bodies.
abbrev pub InputHasBookkeeping : Lined Header → InputScan → Type 0
InputHasBookkeeping header sc =
    HasBookkeeping header.what.style (object_of header.what) place_of (kinds_of header.what.catalog)
    (start_of header.what) sc.records

-- The text that `focus` prints for each name of the header is right: its start and each of its
-- steps meet their criteria.
abbrev pub EachTextMeets : Lined Header → List ℕ → Type 0
EachTextMeets header bytes =
    (name : List ℕ) (o : ℕ) → place_named name header.what.catalog ≡ Some o →
    EachStepMeets (judge_scan (restriction name bytes))

-- The start and each step of a boosted, optimistic or hardware input without a fault meet their
-- criteria exactly if its bookkeeping is right, and so does the text of `focus` for each name.
abbrev pub TextsAreLocal : Type 0
TextsAreLocal = (bytes : List ℕ) (header : Lined Header) → (judge_scan bytes).fault ≡ None →
    (judge_scan bytes).header ≡ Some header → HasSummary header.what.style →
    EachStepMeets (judge_scan bytes)
    ↔ (InputHasBookkeeping header (judge_scan bytes) × EachTextMeets header bytes)
