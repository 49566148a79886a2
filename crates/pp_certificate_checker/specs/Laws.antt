-- Meaning: facts about every certificate, and about those that are written.
use Rattle.std.specs.Prelude.{◌≡◌, ◌+◌, ◌<◌, ◌≤◌, ℕ, zero, suc, Bool, IsTrue, Ok}
use Rattle.std.specs.Prelude.{List, [], ◌∷◌, ◌++◌, map, length, take, drop}
use Rattle.pp_model.specs.Lists.{Each}
use Rattle.pp_model.specs.Object.{Item, ops}
use Rattle.pp_model.specs.Config.{Config}
use Rattle.pp_model.specs.Sound.{Sound, serial_items, serial_ops}
use Rattle.pp_kind.specs.Object.{Object, IsAllowed, AllRanged, rules_of, state_after}
use Rattle.pp_certificate_exchanges.specs.Exchanges.{inverted, route, after_exchanges}
use Rattle.pp_certificate_exchanges.specs.Laws.{log_of, target_of, ExchangesSwap}
use Rattle.pp_certificate_checker.specs.Certificates.{Line, Head, Entry, Exchanges, Serial}
use Rattle.pp_certificate_checker.specs.Certificates.{Stage, Fresh, Entered, Exchanged, Ended, Shown, Reader}
use Rattle.pp_certificate_checker.specs.Certificates.{AreExchanged, IsTaken, Verdict, Holds, IsRead}
use Rattle.pp_certificate_checker.specs.Certificates.{IsVerdictOf}
use Rattle.pp_certificate_checker.specs.Own.{ShowsOwn}

-- The list that is shown is allowed, and leads to the state that is shown.
abbrev pub ShowsAllowed : {Shape State Op Undo : Type 0} → Object Shape State Op Undo
    → Shown Shape State Op → Type 0
ShowsAllowed o h =
    IsAllowed o h.shape (ops h.serial) × (h.state ≡ state_after o h.shape (ops h.serial))

-- Whatever the lines are, they have one verdict. If it accepts, what is shown is allowed, and is
-- what the lines say.
pub record CheckedLaw {Shape State Op Undo : Type 0} (o : Object Shape State Op Undo)
    (L : Type 0) : Type 0 where
  pub allowed : (read : Reader L Shape Op) (lines : List L) (h : Shown Shape State Op)
      → IsVerdictOf o read lines (Holds h) → ShowsAllowed o h
  pub own : (read : Reader L Shape Op) (lines : List L) (h : Shown Shape State Op)
      → IsVerdictOf o read lines (Holds h) → ShowsOwn o read lines h
  pub once : (read : Reader L Shape Op) (lines : List L) (v w : Verdict Shape State Op)
      → IsVerdictOf o read lines v → IsVerdictOf o read lines w → v ≡ w
  pub some : (read : Reader L Shape Op) (lines : List L)
      → (v : Verdict Shape State Op) × IsVerdictOf o read lines v

-- The list so far is allowed.
abbrev pub IsAllowedSoFar : {Shape State Op Undo : Type 0} → Object Shape State Op Undo
    → Stage Shape Op → Type 0
IsAllowedSoFar o Fresh = Unit {0}
IsAllowedSoFar o (Entered shape list) = IsAllowed o shape (ops list)
IsAllowedSoFar o (Exchanged shape list count) = IsAllowed o shape (ops list)
IsAllowedSoFar o (Ended shape list count n) = IsAllowed o shape (ops list)

-- The invariant of the lines of a certificate: the list so far is allowed, and exchanges keep it in
-- the range of records.
pub record TakenLaw {Shape State Op Undo : Type 0} (o : Object Shape State Op Undo) : Type 0 where
  pub step : (s t : Stage Shape Op) (line : Line Shape Op)
      → IsAllowedSoFar o s → IsTaken o s line (Ok t) → IsAllowedSoFar o t
  pub turned : (shape : Shape) (list : List (Item Op)) (count : ℕ) (is : List ℕ)
      → (t : Stage Shape Op) → AreExchanged o shape list count is (Ok t)
      → (t ≡ Exchanged shape (after_exchanges list is) (count + length is))
      × ExchangesSwap o list is
  pub ranged : (list : List (Item Op)) (is : List ℕ)
      → AllRanged o (ops list) → AllRanged o (ops (after_exchanges list is))

-- The head of these objects was read.
abbrev pub IsOver : {Shape Op : Type 0} → Shape → Stage Shape Op → Type 0
IsOver shape Fresh = ⊥
IsOver shape (Entered over list) = over ≡ shape
IsOver shape (Exchanged over list count) = over ≡ shape
IsOver shape (Ended over list count n) = over ≡ shape

-- Each of these lines is taken, from the first stage on, and they lead to the last.
abbrev pub Leads : {Shape State Op Undo L : Type 0} → Object Shape State Op Undo
    → Reader L Shape Op → Stage Shape Op → List L → Stage Shape Op → Type 0
Leads o read s [] t = t ≡ s
Leads {Shape} {State} {Op} o read s (line ∷ lines) t =
    (u : Stage Shape Op) × IsTaken o s (read s line) (Ok u) × Leads o read u lines t

-- After lines that are taken, the verdict is that of the other lines from there on.
abbrev pub ReadLaw : {Shape State Op Undo : Type 0} → Object Shape State Op Undo → Type 0 → Type 0
ReadLaw {Shape} {State} {Op} o L =
    (read : Reader L Shape Op) (lines more : List L) (n : ℕ) (s t : Stage Shape Op)
    (v : Verdict Shape State Op) → Leads o read s lines t
    → IsRead o read (n + length lines) t more v → IsRead o read n s (lines ++ more) v

-- the positions in rows of a thousand, the last having 1 to a thousand
abbrev pub rows_from : ℕ → List ℕ → List ℕ → List (List ℕ)
rows_from room [] [] = []
rows_from room (i ∷ row) [] = (i ∷ row) ∷ []
rows_from zero row (i ∷ is) = row ∷ rows_from 999 (i ∷ []) is
rows_from (suc room) row (i ∷ is) = rows_from room (row ++ i ∷ []) is

-- positions in rows of a thousand
abbrev pub rows : List ℕ → List (List ℕ)
rows is = rows_from 1000 [] is

-- A row is a thousand positions, and the other rows are those of the rest.
abbrev pub RowsLaw : Type 0
RowsLaw = (is : List ℕ) → 0 < length is → rows is ≡ take 1000 is ∷ rows (drop 1000 is)

-- the lines of a certificate, each written by `write`
abbrev pub certificate : {Shape Op L : Type 0} → (Line Shape Op → L)
    → Shape → List (Item Op) → List ℕ → ℕ → List L
certificate write shape log is n =
    write (Head shape)
    ∷ (map (λ p. write (Entry p)) log
    ++ (map (λ row. write (Exchanges row)) (rows is)
    ++ write (Serial n) ∷ []))

-- The head of these objects was read, and no serial number so far.
abbrev pub IsGoing : {Shape Op : Type 0} → Shape → Stage Shape Op → Type 0
IsGoing shape Fresh = ⊥
IsGoing shape (Entered over list) = over ≡ shape
IsGoing shape (Exchanged over list count) = over ≡ shape
IsGoing shape (Ended over list count n) = ⊥

-- Each line of a certificate over these objects is read in its place as it was written. The test
-- `plain` shows which entries can be.
pub record Spells {Shape State Op Undo L : Type 0} (o : Object Shape State Op Undo) (shape : Shape)
    (plain : Item Op → Bool) (read : Reader L Shape Op) (write : Line Shape Op → L) : Type 0 where
  pub head : read Fresh (write (Head shape)) ≡ Head shape
  pub entry : (list : List (Item Op)) (p : Item Op)
      → IsTrue (o.fits shape p.op) → IsTrue (plain p)
      → read (Entered shape list) (write (Entry p)) ≡ Entry p
  pub exchanges : (s : Stage Shape Op) (row : List ℕ) → IsGoing shape s
      → 0 < length row → length row ≤ 1000 → Each (λ i. i ≤ 999_999_999) row
      → read s (write (Exchanges row)) ≡ Exchanges row
  pub serial : (s : Stage Shape Op) (n : ℕ) → IsGoing shape s → n ≤ 999_999_999
      → read s (write (Serial n)) ≡ Serial n

-- the certificate of a configuration, by the route from its log to its target
abbrev pub certificate_of : {Shape Op L : Type 0} → (Line Shape Op → L) → Shape → Config Op
    → List L
certificate_of write shape c =
    certificate write shape (log_of c) (route (log_of c) (target_of c))
    (length (serial_items c.done))

-- the verdict that it shows
abbrev pub shown_of : {Shape State Op Undo : Type 0} → Object Shape State Op Undo
    → Shape → Config Op → Shown Shape State Op
shown_of o shape c = record {
  shape = shape;
  operations = length (log_of c);
  swaps = inverted (log_of c) (target_of c);
  serial = serial_items c.done;
  state = state_after o shape (serial_ops c.done);
}

-- The certificate of a sound configuration is accepted, and shows its committed operations in
-- commit order.
abbrev pub CertificateLaw : {Shape State Op Undo : Type 0} → Object Shape State Op Undo
    → Type 0 → Type 0
CertificateLaw {Shape} {State} {Op} {Undo} o L =
    (shape : Shape) (plain : Item Op → Bool) (read : Reader L Shape Op) (write : Line Shape Op → L)
    → Spells o shape plain read write
    → (c : Config Op) → Sound (rules_of o shape) c → length (log_of c) < 1_000_000
    → Each (λ p. IsTrue (plain p)) (log_of c)
    → IsVerdictOf o read (certificate_of write shape c) (Holds (shown_of o shape c))
