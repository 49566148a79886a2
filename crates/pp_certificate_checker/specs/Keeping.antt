-- Proof machinery: what a checker keeps of the lines that were taken.
use Rattle.std.specs.Prelude.{◌≡◌, ◌+◌, ◌*◌, ◌≤◌, ℕ, List, length, Option, None, Some, Result, Ok}
use Rattle.std.specs.Prelude.{Err}
use Rattle.pp_model.specs.Object.{Item, ops}
use Rattle.pp_kind.specs.Object.{Object, IsAllowed, AllRanged, IsLog}
use Rattle.pp_certificate_checker.specs.Certificates.{Line, Stage, Step, Fresh, Entered, Exchanged, Ended}
use Rattle.pp_certificate_checker.specs.Certificates.{Refusal, NotCertificate, AreExchanged, IsEnded}
use Rattle.pp_certificate_checker.specs.Certificates.{AreExchangesTaken, IsSerialTaken, IsTaken}
use Rattle.pp_certificate_checker.specs.declared.held.Turned.{Turned}
use Rattle.pp_certificate_checker.specs.declared.held.Held.{Held}
use Rattle.pp_certificate_checker.specs.declared.held.Held.TheVariants as held

-- the stage t if nothing was refused, and else why
abbrev pub step : {A Shape Op : Type 0} → Stage Shape Op → Result A Refusal → Step Shape Op
step t (Ok a) = Ok t
step t (Err why) = Err why

-- the stage of the kept data
abbrev pub stage_of : {Shape State Op : Type 0} → Held Shape State Op → Stage Shape Op
stage_of held.Nothing = Fresh
stage_of (held.Entries shape list state) = Entered shape list.items
stage_of (held.Exchanges t) = Exchanged t.shape t.list.items t.count
stage_of (held.All t serial) = Ended t.shape t.list.items t.count serial

module _ {Shape State Op Undo : Type 0} (o : Object Shape State Op Undo) where
  -- The list is allowed and ranged, and there are no more entries and exchanges than the lines can
  -- have had.
  pub record IsKept (shape : Shape) (list : List (Item Op)) (count lines : ℕ) : Type 0 where
    pub allowed : IsAllowed o shape (ops list)
    pub ranged : AllRanged o (ops list)
    pub short : length list ≤ lines
    pub few : count ≤ 1000 * lines

  -- The invariant of the checker after this many lines.
  abbrev pub IsHeld : Held Shape State Op → ℕ → Type 0
  IsHeld held.Nothing n = Unit {0}
  IsHeld (held.Entries shape list state) n =
      IsLog o state (ops list.items) × (o.shape state ≡ shape) × (length list.items ≤ n)
  IsHeld (held.Exchanges t) n = IsKept t.shape t.list.items t.count n
  IsHeld (held.All t serial) n =
      IsKept t.shape t.list.items t.count n × (serial ≤ length t.list.items)

  -- Exchanges and the serial number go on from these entries, or from none.
  abbrev pub GoesOn : Held Shape State Op → ℕ → Option (Turned Shape Op) → Type 0
  GoesOn h n None =
      ((is : List ℕ) → AreExchangesTaken o (stage_of h) is (Err NotCertificate))
      × ((m : ℕ) → IsSerialTaken o (stage_of h) m (Err NotCertificate))
  GoesOn h n (Some t) =
      IsKept t.shape t.list.items t.count n
      × ((is : List ℕ) (r : Step Shape Op) → AreExchanged o t.shape t.list.items t.count is r
      → AreExchangesTaken o (stage_of h) is r)
      × ((m : ℕ) (r : Step Shape Op) → IsEnded o t.shape t.list.items t.count m r
      → IsSerialTaken o (stage_of h) m r)

  -- A line leads from what is kept to what is kept with one line more, or is refused.
  abbrev pub Moves : Held Shape State Op → Line Shape Op → ℕ → Result (Held Shape State Op) Refusal
      → Type 0
  Moves h line n (Ok next) =
      IsTaken o (stage_of h) line (Ok (stage_of next)) × IsHeld next (n + 1)
  Moves h line n (Err why) = IsTaken o (stage_of h) line (Err why)
