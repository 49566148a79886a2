-- Meaning: what contracts see of a checker, and what one line does to it.
use Rattle.std.specs.Prelude.{◌≡◌, ◌+◌, ◌<◌, ◌≤◌, ℕ, IsTrue, if◌then◌else◌, length, Result, Ok}
use Rattle.std.specs.Prelude.{Err}
use Rattle.pp_model.specs.Object.{Item}
use Rattle.pp_kind.specs.Object.{Object}
use Rattle.pp_certificate_checker.specs.Certificates.{Line, Blank, Head, Entry, Exchanges, Serial, Other}
use Rattle.pp_certificate_checker.specs.Certificates.{Stage, Fresh, Entered, Exchanged, Ended, Refusal}
use Rattle.pp_certificate_checker.specs.Certificates.{IsTaken}

-- The part that was read so far, and how many lines were taken.
pub record ReadSoFar (Shape Op : Type 0) : Type 0 where
  pub stage : Stage Shape Op
  pub lines : ℕ

-- the serial number, or 0 if none was read
abbrev pub serial_in : {Shape Op : Type 0} → Stage Shape Op → ℕ
serial_in Fresh = 0
serial_in (Entered shape list) = 0
serial_in (Exchanged shape list count) = 0
serial_in (Ended shape list count n) = n

module _ {Shape State Op Undo : Type 0} (o : Object Shape State Op Undo) where
  -- The conditions on a line: the numbers of an entry are in the range of records, and there are 1
  -- to a thousand positions.
  abbrev pub IsReadable : Line Shape Op → Type 0
  IsReadable Blank = Unit {0}
  IsReadable (Head shape) = Unit {0}
  IsReadable (Entry p) = IsTrue (o.ranged p.op)
  IsReadable (Exchanges is) = (0 < length is) × (length is ≤ 1000)
  IsReadable (Serial n) = Unit {0}
  IsReadable Other = Unit {0}

  -- A line is taken, or refused.
  abbrev pub Takes : ReadSoFar Shape Op → Line Shape Op → Result (ReadSoFar Shape Op) Refusal
      → Type 0
  Takes v line (Ok w) = IsTaken o v.stage line (Ok w.stage) × (w.lines ≡ v.lines + 1)
  Takes v line (Err why) = IsTaken o v.stage line (Err why)

  -- An entry in its place is tried on the objects, which is one operation. No other line is.
  abbrev pub entry_cost : Stage Shape Op → Item Op → ℕ
  entry_cost Fresh p = 0
  entry_cost (Entered shape list) p = if o.fits shape p.op then 1 else 0
  entry_cost (Exchanged shape list count) p = 0
  entry_cost (Ended shape list count n) p = 0

  -- the ticks of one line
  abbrev pub cost : Stage Shape Op → Line Shape Op → ℕ
  cost s Blank = 0
  cost s (Head shape) = 0
  cost s (Entry p) = entry_cost s p
  cost s (Exchanges is) = 0
  cost s (Serial n) = 0
  cost s Other = 0
