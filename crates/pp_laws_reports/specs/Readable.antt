-- Meaning: two different lists of committed transactions never have the same report.
use Rattle.std.specs.Prelude.{◌≡◌, ℕ, ◌<◌, ◌^◌, ◌==◌, not, IsTrue, List, ◌++◌, length, map, Some}
use Rattle.std.specs.List.{list_all}
use Rattle.std.specs.Map.{keys_of}
use Rattle.pp_core.specs.Catalogs.{Objects}
use Rattle.pp_core.specs.Names.{IsName}
use Rattle.pp_core.specs.declared.entry.CommittedTx.{CommittedTx}
use Rattle.pp_core.specs.declared.status.Status.TheVariants as statuses
use Rattle.pp_records.specs.Runs.{Lined, LinedSteps, bare}
use Rattle.pp_format_read.specs.declared.header.Header.{Header}
use Rattle.pp_format_write.specs.Statable.{IsCatalog, IsId, IsOpOn}
use Rattle.pp_model.specs.Lists.{Each}
use Rattle.pp_model.specs.Object.{state}
use Rattle.pp_model.specs.Serial.{Attempt, attempts, committed_tx, serial}
use Rattle.pp_objects.specs.declared.act.Op.{Op}
use Rattle.pp_objects.specs.declared.states.ObjectState.{ObjectState}
use Rattle.pp_report.specs.Reports.{accepted_text, all_tx_lines}
use Rattle.pp_text.specs.Lines.{line, state_lines}
use Rattle.pp_judge.specs.Accepted.{HasRun}
use Rattle.pp_judge.specs.Inputs.{scan}
use Rattle.pp_judge.specs.Objects.{object_of, start_of}
use Rattle.pp_judge.specs.Reports.{IsCertified}
use Rattle.pp_judge.specs.Scans.{InputScan}
use Rattle.pp_cmd_quick.specs.Decisions.{IsQuick, steps_behind}
use Rattle.pp_cmd_quick.specs.Reports.{quick_accepted_text}

-- The name of the transaction is a name. The id of each operation is an id of a record, its object
-- is in the catalog and has the kind of the operation, and its numbers are in the range of records.
pub record IsPrintable (catalog : Objects) (tx : CommittedTx Op) : Type 0 where
  pub named : IsName tx.name
  pub each : Each (λ p. IsId p.id × IsOpOn catalog p.op) tx.entries

-- each of the transactions is printable
abbrev pub ArePrintable : Objects → List (CommittedTx Op) → Type 0
ArePrintable catalog committed = Each (IsPrintable catalog) committed

-- the text is one line: it has no byte 10
abbrev pub IsUnbroken : List ℕ → Type 0
IsUnbroken text = IsTrue (list_all (λ byte. not (byte == 10)) text)

-- a first line, then the lines of committed transactions and of the states of all objects
abbrev pub text_with : List ℕ → Objects → List (CommittedTx Op) → List ObjectState → List ℕ
text_with first catalog committed states =
    line first ++ all_tx_lines catalog committed ++ state_lines catalog states

-- Two texts have the same first line, the same names of objects and the same committed
-- transactions.
pub record AreOneText (catalog other : Objects) (first next : List ℕ)
    (a b : List (CommittedTx Op)) : Type 0 where
  pub line : first ≡ next
  pub names : keys_of catalog ≡ keys_of other
  pub committed : a ≡ b

-- If two such texts are the same, they state the same first line, the same names of objects and the
-- same committed transactions. The law does not require that anything else is the same.
abbrev pub TextLaw : Type 0
TextLaw = (catalog other : Objects) (first next : List ℕ) (a b : List (CommittedTx Op))
    (s t : List ObjectState) → IsCatalog catalog → IsCatalog other → IsUnbroken first →
    IsUnbroken next → ArePrintable catalog a → ArePrintable other b →
    text_with first catalog a s ≡ text_with next other b t →
    AreOneText catalog other first next a b

-- Two reports state the same names of objects, the same committed transactions, and the same number
-- of steps or records. These numbers are compared if they fit 64 bits.
pub record AreOneReport (catalog other : Objects) (m n : ℕ) (a b : List (CommittedTx Op)) :
    Type 0 where
  pub names : keys_of catalog ≡ keys_of other
  pub committed : a ≡ b
  pub count : m < 2 ^ 64 → n < 2 ^ 64 → m ≡ n

-- A command prints a text for an accepted run. If the texts of two runs are the same, they state
-- the same committed transactions. The law does not require that anything else is the same.
abbrev pub IsReadable : (Objects → ℕ → List (CommittedTx Op) → List ObjectState → List ℕ) → Type 0
IsReadable printed = (catalog other : Objects) (m n : ℕ) (a b : List (CommittedTx Op))
    (s t : List ObjectState) → IsCatalog catalog → IsCatalog other → ArePrintable catalog a →
    ArePrintable other b → printed catalog m a s ≡ printed other n b t →
    AreOneReport catalog other m n a b

-- the text that certify prints, and the text that quick prints
abbrev pub ReportLaw : Type 0
ReportLaw = IsReadable accepted_text × IsReadable quick_accepted_text

-- the committed transactions of a run, in commit order
abbrev pub attempts_in : Header → LinedSteps Op → List (Attempt Op)
attempts_in header run = attempts (start_of header) (bare run)

-- The committed transactions without their bodies, which no report has.
abbrev pub committed_in : Header → LinedSteps Op → List (CommittedTx Op)
committed_in header run = map committed_tx (attempts_in header run)

-- The state after the committed transactions, one after another.
abbrev pub final_of : Header → LinedSteps Op → List ObjectState
final_of header run = state (object_of header) (serial (attempts_in header run))

-- Two runs have the same names of objects and the same committed transactions. If their objects
-- also have the same kinds, they have the same final state.
pub record HaveOneSerialRun (one other : Header) (run again : LinedSteps Op) : Type 0 where
  pub names : keys_of one.catalog ≡ keys_of other.catalog
  pub committed : committed_in one run ≡ committed_in other again
  pub final : one.catalog ≡ other.catalog → final_of one run ≡ final_of other again

-- If certify prints the same text for two accepted inputs, each has a run (there is one at most),
-- and their runs have as many steps and the same committed transactions.
abbrev pub CertifyLaw : Type 0
CertifyLaw = (bytes other text : List ℕ) → IsCertified bytes statuses.Accepted text →
    IsCertified other statuses.Accepted text →
    HasRun (scan bytes) × HasRun (scan other)
    × ((r : HasRun (scan bytes)) (q : HasRun (scan other)) →
    (length r.run ≡ length q.run)
    × HaveOneSerialRun r.header.what q.header.what r.run q.run)

-- the header of an input
abbrev pub HasHeader : InputScan → Type 0
HasHeader sc = (h : Lined Header) × (sc.header ≡ Some h)

-- all steps of the records of an input with this header, also more than 200,000
abbrev pub steps_in : Lined Header → InputScan → LinedSteps Op
steps_in header sc = steps_behind header.what sc.records

-- If quick prints the same text for two accepted inputs, each has a header, and their runs have the
-- same committed transactions.
abbrev pub QuickLaw : Type 0
QuickLaw = (bytes other text : List ℕ) → IsQuick bytes statuses.Accepted text →
    IsQuick other statuses.Accepted text →
    HasHeader (scan bytes) × HasHeader (scan other)
    × ((h k : Lined Header) → (scan bytes).header ≡ Some h → (scan other).header ≡ Some k →
    HaveOneSerialRun h.what k.what (steps_in h (scan bytes)) (steps_in k (scan other)))
