-- Meaning: the reading of a certificate: the objects, entries, exchanges, and a serial number.
use Rattle.std.specs.Prelude.{◌≡◌, ◌≢◌, ◌⊎◌, ◌+◌, ◌<◌, ◌≤◌, ℕ, suc, MatchBool}
use Rattle.std.specs.Prelude.{List, [], ◌∷◌, ◌++◌, length, take, Option, None, Some, Result, Ok}
use Rattle.std.specs.Prelude.{Err}
use Rattle.pp_core.specs.declared.answer.Answer.{Answer}
use Rattle.pp_model.specs.Object.{Item, ops}
use Rattle.pp_kind.specs.Object.{Object, Swaps, state_after}
use Rattle.pp_certificate_exchanges.specs.Exchanges.{exchanged, AtPair}
pub use Rattle.pp_certificate_checker.specs.declared.line.Line.{Line}
pub use Rattle.pp_certificate_checker.specs.declared.line.Line.TheVariants.{Blank, Head, Entry, Exchanges}
pub use Rattle.pp_certificate_checker.specs.declared.line.Line.TheVariants.{Serial, Other}
pub use Rattle.pp_certificate_checker.specs.declared.refusal.Refusal.{Refusal}
pub use Rattle.pp_certificate_checker.specs.declared.refusal.Refusal.TheVariants.{NotCertificate, Gives}
pub use Rattle.pp_certificate_checker.specs.declared.refusal.Refusal.TheVariants.{Position, Pair}
pub use Rattle.pp_certificate_checker.specs.declared.shown.Shown.{Shown}

-- The part of a certificate that was read so far.
pub data Stage (Shape Op : Type 0) : Type 0 where
  -- nothing
  Fresh : Stage Shape Op
  -- the head, and these entries
  Entered : (shape : Shape) → (list : List (Item Op)) → Stage Shape Op
  -- exchanges too, so many, which led to this list
  Exchanged : (shape : Shape) → (list : List (Item Op)) → (count : ℕ) → Stage Shape Op
  -- the serial number too
  Ended : (shape : Shape) → (list : List (Item Op)) → (count serial : ℕ) → Stage Shape Op

-- the stage after a line, or why the line is refused
abbrev pub Step : Type 0 → Type 0 → Type 0
Step Shape Op = Result (Stage Shape Op) Refusal

-- how a line is read in its place
abbrev pub Reader : Type 0 → Type 0 → Type 0 → Type 0
Reader L Shape Op = Stage Shape Op → L → Line Shape Op

-- The verdict on a certificate.
pub data Verdict (Shape State Op : Type 0) : Type 0 where
  -- all lines are taken, and they show this
  Holds : Shown Shape State Op → Verdict Shape State Op
  -- the first line that is not taken, and why: `NotCertificate` is a fault, the others are refusals
  Refused : (line : ℕ) → Refusal → Verdict Shape State Op

-- A head is taken as the first line alone.
abbrev pub IsHeadTaken : {Shape Op : Type 0} → Stage Shape Op → Shape → Step Shape Op → Type 0
IsHeadTaken Fresh shape r = r ≡ Ok (Entered shape [])
IsHeadTaken (Entered over list) shape r = r ≡ Err NotCertificate
IsHeadTaken (Exchanged over list count) shape r = r ≡ Err NotCertificate
IsHeadTaken (Ended over list count n) shape r = r ≡ Err NotCertificate

-- The verdict at the end of the input. Without a serial number it ends too early, n being one more
-- than the number of its lines.
abbrev pub IsClosing : {Shape State Op : Type 0} → ℕ → Option (Shown Shape State Op)
    → Verdict Shape State Op → Type 0
IsClosing n None v = v ≡ Refused n NotCertificate
IsClosing n (Some h) v = v ≡ Holds h

module _ {Shape State Op Undo : Type 0} (o : Object Shape State Op Undo) where
  -- the object's result for an operation after a list
  abbrev pub given : Shape → List (Item Op) → Op → Answer
  given shape list op = o.gives (state_after o shape (ops list)) op

  -- An entry is taken if the object returns its result after the entries before it.
  abbrev pub IsEntered : Shape → List (Item Op) → Item Op → Step Shape Op → Type 0
  IsEntered shape list p r =
      ((given shape list p.op ≡ o.recorded p.op) × (r ≡ Ok (Entered shape (list ++ p ∷ []))))
      ⊎ ((given shape list p.op ≢ o.recorded p.op)
      × (r ≡ Err (Gives p.id (given shape list p.op))))

  -- Entries come after the head, before any exchange. An operation of other objects is not of the
  -- form of an entry.
  abbrev pub IsEntryTaken : Stage Shape Op → Item Op → Step Shape Op → Type 0
  IsEntryTaken Fresh p r = r ≡ Err NotCertificate
  IsEntryTaken (Entered shape list) p r =
      MatchBool (o.fits shape p.op) (IsEntered shape list p r) (r ≡ Err NotCertificate)
  IsEntryTaken (Exchanged shape list count) p r = r ≡ Err NotCertificate
  IsEntryTaken (Ended shape list count n) p r = r ≡ Err NotCertificate

  -- The positions are tried in order, and the first refused one decides: there is no next entry, or
  -- the pair does not swap.
  abbrev pub AreExchanged : Shape → List (Item Op) → ℕ → List ℕ → Step Shape Op → Type 0
  AreExchanged shape list count [] r = r ≡ Ok (Exchanged shape list count)
  AreExchanged shape list count (i ∷ is) r =
      (AtPair (λ a b. Swaps o a.op b.op) list i
      × AreExchanged shape (exchanged list i) (suc count) is r)
      ⊎ AtPair (λ a b. ¬ Swaps o a.op b.op × (r ≡ Err (Pair a.id b.id))) list i
      ⊎ ((length list ≤ i + 1) × (r ≡ Err Position))

  -- Exchanges come after the head, before the serial number.
  abbrev pub AreExchangesTaken : Stage Shape Op → List ℕ → Step Shape Op → Type 0
  AreExchangesTaken Fresh is r = r ≡ Err NotCertificate
  AreExchangesTaken (Entered shape list) is r = AreExchanged shape list 0 is r
  AreExchangesTaken (Exchanged shape list count) is r = AreExchanged shape list count is r
  AreExchangesTaken (Ended shape list count n) is r = r ≡ Err NotCertificate

  -- The serial number is at most the number of entries.
  abbrev pub IsEnded : Shape → List (Item Op) → ℕ → ℕ → Step Shape Op → Type 0
  IsEnded shape list count n r =
      ((n ≤ length list) × (r ≡ Ok (Ended shape list count n)))
      ⊎ ((length list < n) × (r ≡ Err Position))

  -- It comes after the head, once.
  abbrev pub IsSerialTaken : Stage Shape Op → ℕ → Step Shape Op → Type 0
  IsSerialTaken Fresh n r = r ≡ Err NotCertificate
  IsSerialTaken (Entered shape list) n r = IsEnded shape list 0 n r
  IsSerialTaken (Exchanged shape list count) n r = IsEnded shape list count n r
  IsSerialTaken (Ended shape list count m) n r = r ≡ Err NotCertificate

  -- The effect of one line. A blank line has none, wherever it is.
  abbrev pub IsTaken : Stage Shape Op → Line Shape Op → Step Shape Op → Type 0
  IsTaken s Blank r = r ≡ Ok s
  IsTaken s (Head shape) r = IsHeadTaken s shape r
  IsTaken s (Entry p) r = IsEntryTaken s p r
  IsTaken s (Exchanges is) r = AreExchangesTaken s is r
  IsTaken s (Serial n) r = IsSerialTaken s n r
  IsTaken s Other r = r ≡ Err NotCertificate

  -- The verdict that the first n entries of the last list show.
  abbrev pub shown : Shape → List (Item Op) → ℕ → ℕ → Shown Shape State Op
  shown shape list count n = record {
    shape = shape;
    operations = length list;
    swaps = count;
    serial = take n list;
    state = state_after o shape (ops (take n list));
  }

  -- The verdict at the end, if a serial number was read.
  abbrev pub shown_at : Stage Shape Op → Option (Shown Shape State Op)
  shown_at Fresh = None
  shown_at (Entered shape list) = None
  shown_at (Exchanged shape list count) = None
  shown_at (Ended shape list count n) = Some (shown shape list count n)

  -- The verdict on these lines from a stage on, the first of which has the number n.
  abbrev pub IsRead : {L : Type 0} → Reader L Shape Op → ℕ → Stage Shape Op → List L
      → Verdict Shape State Op → Type 0
  IsRead read n s [] v = IsClosing n (shown_at s) v
  IsRead read n s (line ∷ lines) v =
      ((why : Refusal) × IsTaken s (read s line) (Err why) × (v ≡ Refused n why))
      ⊎ ((t : Stage Shape Op) × IsTaken s (read s line) (Ok t) × IsRead read (suc n) t lines v)

  -- The verdict on an input.
  abbrev pub IsVerdictOf : {L : Type 0} → Reader L Shape Op → List L
      → Verdict Shape State Op → Type 0
  IsVerdictOf read lines v = IsRead read 1 Fresh lines v
