-- Meaning: what an accepted certificate shows, by what its lines say.
use Rattle.std.specs.Prelude.{◌≡◌, ◌≤◌, ℕ, List, [], ◌∷◌, ◌++◌, length, Ok}
use Rattle.pp_model.specs.Object.{Item, ops}
use Rattle.pp_kind.specs.Object.{Object, IsAllowed}
use Rattle.pp_certificate_exchanges.specs.Exchanges.{after_exchanges}
use Rattle.pp_certificate_exchanges.specs.Laws.{ExchangesSwap}
use Rattle.pp_certificate_checker.specs.Certificates.{Line, Blank, Head, Entry, Exchanges, Serial, Other}
use Rattle.pp_certificate_checker.specs.Certificates.{Stage, Fresh, Shown, Reader, IsTaken, shown}

-- the entries of lines, in their order
abbrev pub entries_of : {Shape Op : Type 0} → List (Line Shape Op) → List (Item Op)
entries_of [] = []
entries_of (Blank ∷ lines) = entries_of lines
entries_of (Head shape ∷ lines) = entries_of lines
entries_of (Entry p ∷ lines) = p ∷ entries_of lines
entries_of (Exchanges is ∷ lines) = entries_of lines
entries_of (Serial n ∷ lines) = entries_of lines
entries_of (Other ∷ lines) = entries_of lines

-- the positions of their exchanges
abbrev pub positions_of : {Shape Op : Type 0} → List (Line Shape Op) → List ℕ
positions_of [] = []
positions_of (Blank ∷ lines) = positions_of lines
positions_of (Head shape ∷ lines) = positions_of lines
positions_of (Entry p ∷ lines) = positions_of lines
positions_of (Exchanges is ∷ lines) = is ++ positions_of lines
positions_of (Serial n ∷ lines) = positions_of lines
positions_of (Other ∷ lines) = positions_of lines

-- their serial numbers
abbrev pub serials_of : {Shape Op : Type 0} → List (Line Shape Op) → List ℕ
serials_of [] = []
serials_of (Blank ∷ lines) = serials_of lines
serials_of (Head shape ∷ lines) = serials_of lines
serials_of (Entry p ∷ lines) = serials_of lines
serials_of (Exchanges is ∷ lines) = serials_of lines
serials_of (Serial n ∷ lines) = n ∷ serials_of lines
serials_of (Other ∷ lines) = serials_of lines

-- Each of these lines says this in its place, and is taken.
abbrev pub AreSaid : {Shape State Op Undo L : Type 0} → Object Shape State Op Undo
    → Reader L Shape Op → Stage Shape Op → List L → List (Line Shape Op) → Type 0
AreSaid o read s [] [] = Unit {0}
AreSaid o read s [] (said ∷ more) = ⊥
AreSaid o read s (line ∷ lines) [] = ⊥
AreSaid {Shape} {State} {Op} o read s (line ∷ lines) (said ∷ more) =
    (said ≡ read s line)
    × ((t : Stage Shape Op) × IsTaken o s said (Ok t) × AreSaid o read t lines more)

-- The verdict has the entries of the lines, exchanged at the positions of the lines, as many as the
-- one serial number says. In the order of the lines the entries are allowed, and each pair that
-- changes places swaps.
pub record ShowsOwn {Shape State Op Undo L : Type 0} (o : Object Shape State Op Undo)
    (read : Reader L Shape Op) (lines : List L) (h : Shown Shape State Op) : Type 0 where
  pub said : List (Line Shape Op)
  pub serial : ℕ
  pub lines_say : AreSaid o read Fresh lines said
  pub one_serial : serials_of said ≡ serial ∷ []
  pub within : serial ≤ length (entries_of said)
  pub entries_allowed : IsAllowed o h.shape (ops (entries_of said))
  pub pairs_swap : ExchangesSwap o (entries_of said) (positions_of said)
  pub shows : h ≡ shown o h.shape (after_exchanges (entries_of said) (positions_of said))
      (length (positions_of said)) serial
