-- Proof machinery: lines that are taken go on over the objects of the head.
use Rattle.std.proofs.Common.{◌≡◌, ◌++◌, ◌∷◌, [], ℕ, Bool, true, false, MatchBool, List, Ok, Err}
use Rattle.std.proofs.Common.{refl, sym, subst, inl, inr}
use Rattle.pp_model.specs.Object.{Item}
use Rattle.pp_kind.specs.Object.{Object}
use Rattle.pp_certificate_checker.specs.Certificates.{Line, Blank, Head, Entry, Exchanges, Serial, Other}
use Rattle.pp_certificate_checker.specs.Certificates.{Stage, Fresh, Entered, Exchanged, Ended, Step}
use Rattle.pp_certificate_checker.specs.Certificates.{NotCertificate, Gives, Position, given}
use Rattle.pp_certificate_checker.specs.Certificates.{IsEntered, IsHeadTaken, IsEntryTaken, AreExchanged}
use Rattle.pp_certificate_checker.specs.Certificates.{AreExchangesTaken, IsEnded, IsSerialTaken, IsTaken}
use Rattle.pp_certificate_checker.specs.Laws.{IsOver}
use Rattle.pp_certificate_checker.proofs.Checked.{ok_is, not_ok}
use Rattle.pp_certificate_checker.proofs.Kept.{turned}

module _ {Shape State Op Undo : Type 0} (o : Object Shape State Op Undo) (shape : Shape) where
  -- the stage t is u, which is over these objects
  is_over : (t u : Stage Shape Op) → ◌≡◌ {A = Step Shape Op} (Ok t) (Ok u) → IsOver shape u
      → IsOver shape t
  is_over t u r h = subst (λ (w : Stage Shape Op). IsOver shape w) (sym (ok_is t u r)) h

  -- A head that is taken as the first line leads to a stage over its objects.
  pub head_over : (t : Stage Shape Op) → IsHeadTaken Fresh shape (Ok t) → IsOver shape t
  head_over t r = is_over t (Entered shape []) r refl

  head_again : (s : Stage Shape Op) (more : Shape) (t : Stage Shape Op) → IsOver shape s
      → IsHeadTaken s more (Ok t) → IsOver shape t
  head_again Fresh more t h r = absurd h
  head_again (Entered over l) more t h r = absurd (not_ok t NotCertificate r)
  head_again (Exchanged over l count) more t h r = absurd (not_ok t NotCertificate r)
  head_again (Ended over l count n) more t h r = absurd (not_ok t NotCertificate r)

  entered_over : (over : Shape) (l : List (Item Op)) (p : Item Op) (t : Stage Shape Op)
      → over ≡ shape → (b : Bool)
      → MatchBool b (IsEntered o over l p (Ok t))
      (◌≡◌ {A = Step Shape Op} (Ok t) (Err NotCertificate)) → IsOver shape t
  entered_over over l p t h true (inl r) = is_over t (Entered over (l ++ p ∷ [])) r.1 h
  entered_over over l p t h true (inr r) = absurd (not_ok t (Gives p.id (given o over l p.op)) r.1)
  entered_over over l p t h false r = absurd (not_ok t NotCertificate r)

  entry_over : (s : Stage Shape Op) (p : Item Op) (t : Stage Shape Op) → IsOver shape s
      → IsEntryTaken o s p (Ok t) → IsOver shape t
  entry_over Fresh p t h r = absurd h
  entry_over (Entered over l) p t h r = entered_over over l p t h (o.fits over p.op) r
  entry_over (Exchanged over l count) p t h r = absurd (not_ok t NotCertificate r)
  entry_over (Ended over l count n) p t h r = absurd (not_ok t NotCertificate r)

  exchanged_over : (over : Shape) (l : List (Item Op)) (count : ℕ) (is : List ℕ)
      (t : Stage Shape Op) → over ≡ shape → AreExchanged o over l count is (Ok t)
      → IsOver shape t
  exchanged_over over l count is t h r =
      subst (λ (w : Stage Shape Op). IsOver shape w) (sym (turned o over is l count t r).0) h

  exchanges_over : (s : Stage Shape Op) (is : List ℕ) (t : Stage Shape Op) → IsOver shape s
      → AreExchangesTaken o s is (Ok t) → IsOver shape t
  exchanges_over Fresh is t h r = absurd h
  exchanges_over (Entered over l) is t h r = exchanged_over over l 0 is t h r
  exchanges_over (Exchanged over l count) is t h r = exchanged_over over l count is t h r
  exchanges_over (Ended over l count n) is t h r = absurd (not_ok t NotCertificate r)

  ended_over : (over : Shape) (l : List (Item Op)) (count n : ℕ) (t : Stage Shape Op)
      → over ≡ shape → IsEnded o over l count n (Ok t) → IsOver shape t
  ended_over over l count n t h (inl r) = is_over t (Ended over l count n) r.1 h
  ended_over over l count n t h (inr r) = absurd (not_ok t Position r.1)

  serial_over : (s : Stage Shape Op) (n : ℕ) (t : Stage Shape Op) → IsOver shape s
      → IsSerialTaken o s n (Ok t) → IsOver shape t
  serial_over Fresh n t h r = absurd h
  serial_over (Entered over l) n t h r = ended_over over l 0 n t h r
  serial_over (Exchanged over l count) n t h r = ended_over over l count n t h r
  serial_over (Ended over l count m) n t h r = absurd (not_ok t NotCertificate r)

  -- A line that is taken keeps the objects of the stage.
  pub taken_over : (s : Stage Shape Op) (line : Line Shape Op) (t : Stage Shape Op)
      → IsOver shape s → IsTaken o s line (Ok t) → IsOver shape t
  taken_over s Blank t h r = is_over t s r h
  taken_over s (Head more) t h r = head_again s more t h r
  taken_over s (Entry p) t h r = entry_over s p t h r
  taken_over s (Exchanges is) t h r = exchanges_over s is t h r
  taken_over s (Serial n) t h r = serial_over s n t h r
  taken_over s Other t h r = absurd (not_ok t NotCertificate r)
