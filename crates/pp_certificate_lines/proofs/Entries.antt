-- Proof machinery: a line that is taken adds at most as many entries as it costs operations.
use Rattle.std.proofs.Common.{◌≡◌, ◌+◌, ◌≤◌, ℕ, Bool, true, false, cond, MatchBool, List, [], ◌∷◌}
use Rattle.std.proofs.Common.{◌++◌, length, Ok, Err, subst, sym, inl, inr, arith}
use Rattle.std.proofs.lemmas.List.{length-append}
use Rattle.pp_core.specs.declared.call.Kind.{Kind}
use Rattle.pp_model.specs.Object.{Item}
use Rattle.pp_objects.specs.Objects.{objects}
use Rattle.pp_objects.specs.declared.act.Op.{Op}
use Rattle.pp_certificate_checker.specs.declared.line.Line.{Line}
use Rattle.pp_certificate_checker.specs.declared.line.Line.TheVariants.{Blank, Head, Entry, Exchanges, Serial}
use Rattle.pp_certificate_checker.specs.declared.line.Line.TheVariants.{Other}
use Rattle.pp_certificate_checker.specs.declared.refusal.Refusal.TheVariants.{NotCertificate, Gives, Position}
use Rattle.pp_certificate_checker.specs.Certificates.{Stage, Fresh, Entered, Exchanged, Ended, Step}
use Rattle.pp_certificate_checker.specs.Certificates.{given}
use Rattle.pp_certificate_checker.specs.Certificates.{IsEntered, IsHeadTaken, IsEntryTaken, AreExchanged}
use Rattle.pp_certificate_checker.specs.Certificates.{AreExchangesTaken, IsEnded, IsSerialTaken, IsTaken}
use Rattle.pp_certificate_checker.specs.Checking.{cost, entry_cost}
use Rattle.pp_certificate_checker.proofs.Checked.{ok_is, not_ok}
use Rattle.pp_certificate_checker.proofs.Kept.{turned}
use Rattle.pp_certificate_checker.proofs.Rows.{length-after}
use Rattle.pp_certificate_lines.specs.Takers.{entries_at}

abbrev At : Type 0
At = Stage (List Kind) Op

-- If the stage u has at most n entries, and the stage t is u, t has at most n.
entries_is : (t u : At) (n : ℕ) → ◌≡◌ {A = Step (List Kind) Op} (Ok t) (Ok u) → entries_at u ≤ n
    → entries_at t ≤ n
entries_is t u n r h = subst (λ (w : At). entries_at w ≤ n) (sym (ok_is t u r)) h

head_entries : (s : At) (shape : List Kind) (t : At) → IsHeadTaken s shape (Ok t)
    → entries_at t ≤ entries_at s + 0
head_entries Fresh shape t r = entries_is t (Entered shape []) 0 r (omega arith)
head_entries (Entered over l) shape t r = absurd (not_ok t NotCertificate r)
head_entries (Exchanged over l count) shape t r = absurd (not_ok t NotCertificate r)
head_entries (Ended over l count n) shape t r = absurd (not_ok t NotCertificate r)

entered_entries : (over : List Kind) (l : List (Item Op)) (p : Item Op) (t : At) (b : Bool)
    → MatchBool b (IsEntered objects over l p (Ok t))
    (◌≡◌ {A = Step (List Kind) Op} (Ok t) (Err NotCertificate))
    → entries_at t ≤ length l + cond b 1 0
entered_entries over l p t true (inl r) =
    entries_is t (Entered over (l ++ p ∷ [])) (length l + 1) r.1
    (omega (arith, length-append l (p ∷ [])))
entered_entries over l p t true (inr r) =
    absurd (not_ok t (Gives p.id (given objects over l p.op)) r.1)
entered_entries over l p t false r = absurd (not_ok t NotCertificate r)

entry_entries : (s : At) (p : Item Op) (t : At) → IsEntryTaken objects s p (Ok t)
    → entries_at t ≤ entries_at s + entry_cost objects s p
entry_entries Fresh p t r = absurd (not_ok t NotCertificate r)
entry_entries (Entered over l) p t r = entered_entries over l p t (objects.fits over p.op) r
entry_entries (Exchanged over l count) p t r = absurd (not_ok t NotCertificate r)
entry_entries (Ended over l count n) p t r = absurd (not_ok t NotCertificate r)

exchanged_entries : (over : List Kind) (l : List (Item Op)) (count : ℕ) (is : List ℕ) (t : At)
    → AreExchanged objects over l count is (Ok t) → entries_at t ≤ length l + 0
exchanged_entries over l count is t r =
    subst (λ (w : At). entries_at w ≤ length l + 0) (sym (turned objects over is l count t r).0)
    (omega (arith, length-after l is))

exchanges_entries : (s : At) (is : List ℕ) (t : At) → AreExchangesTaken objects s is (Ok t)
    → entries_at t ≤ entries_at s + 0
exchanges_entries Fresh is t r = absurd (not_ok t NotCertificate r)
exchanges_entries (Entered over l) is t r = exchanged_entries over l 0 is t r
exchanges_entries (Exchanged over l count) is t r = exchanged_entries over l count is t r
exchanges_entries (Ended over l count n) is t r = absurd (not_ok t NotCertificate r)

ended_entries : (over : List Kind) (l : List (Item Op)) (count n : ℕ) (t : At)
    → IsEnded objects over l count n (Ok t) → entries_at t ≤ length l + 0
ended_entries over l count n t (inl r) =
    entries_is t (Ended over l count n) (length l + 0) r.1 (omega arith)
ended_entries over l count n t (inr r) = absurd (not_ok t Position r.1)

serial_entries : (s : At) (n : ℕ) (t : At) → IsSerialTaken objects s n (Ok t)
    → entries_at t ≤ entries_at s + 0
serial_entries Fresh n t r = absurd (not_ok t NotCertificate r)
serial_entries (Entered over l) n t r = ended_entries over l 0 n t r
serial_entries (Exchanged over l count) n t r = ended_entries over l count n t r
serial_entries (Ended over l count m) n t r = absurd (not_ok t NotCertificate r)

-- A line that is taken adds at most as many entries as it costs operations.
pub entries_taken : (s t : At) (line : Line (List Kind) Op) → IsTaken objects s line (Ok t)
    → entries_at t ≤ entries_at s + cost objects s line
entries_taken s t Blank r = entries_is t s (entries_at s + 0) r (omega arith)
entries_taken s t (Head shape) r = head_entries s shape t r
entries_taken s t (Entry p) r = entry_entries s p t r
entries_taken s t (Exchanges is) r = exchanges_entries s is t r
entries_taken s t (Serial n) r = serial_entries s n t r
entries_taken s t Other r = absurd (not_ok t NotCertificate r)
