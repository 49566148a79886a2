-- Proof machinery: what an accepted certificate shows is allowed.
use Rattle.std.proofs.Common.{◌≡◌, ℕ, suc, Bool, true, false, MatchBool, IsTrue, List, [], ◌∷◌}
use Rattle.std.proofs.Common.{◌++◌, take, drop, Ok, Err, refl, sym, ap, subst}
use Rattle.std.proofs.Common.{◌∙◌, inl, inr, take-append-drop, append-nil}
use Rattle.std.proofs.lemmas.List.{map-append}
use Rattle.pp_model.specs.Object.{Item, Allowed, ops}
use Rattle.pp_kind.proofs.Lists.{allowed-first, allowed-append}
use Rattle.pp_kind.specs.Object.{Object, IsLegal, IsLawful, IsAllowed, AllowedFrom, Swaps}
use Rattle.pp_kind.specs.Object.{rules_of, state_from, state_after}
use Rattle.pp_certificate_exchanges.specs.Exchanges.{AtPair, exchanged}
use Rattle.pp_certificate_exchanges.specs.Laws.{ItemsSwap}
use Rattle.pp_certificate_exchanges.proofs.Follows.{exchanges_allowed}
use Rattle.pp_certificate_checker.specs.Certificates.{Line, Blank, Head, Entry, Exchanges, Serial, Other}
use Rattle.pp_certificate_checker.specs.Certificates.{Stage, Fresh, Entered, Exchanged, Ended, Step, Reader}
use Rattle.pp_certificate_checker.specs.Certificates.{Refusal, NotCertificate, Gives, Position, Pair, given}
use Rattle.pp_certificate_checker.specs.Certificates.{IsEntered, IsHeadTaken, IsEntryTaken, AreExchanged}
use Rattle.pp_certificate_checker.specs.Certificates.{AreExchangesTaken, IsEnded, IsSerialTaken, IsTaken}
use Rattle.pp_certificate_checker.specs.Certificates.{Shown, Holds, Refused, shown, shown_at}
use Rattle.pp_certificate_checker.specs.Certificates.{IsClosing, IsRead}
use Rattle.pp_certificate_checker.specs.Laws.{IsAllowedSoFar, ShowsAllowed}
use Rattle.pp_certificate_checker.proofs.Pairs.{at_pair_map, at_pair_both}

module _ {Shape Op : Type 0} where
  -- Stages that are taken are equal if the results with them are.
  pub ok_is : (a b : Stage Shape Op) → ◌≡◌ {A = Step Shape Op} (Ok a) (Ok b) → a ≡ b
  ok_is a b e = cc

  -- A stage that is taken is no refusal.
  pub not_ok : (a : Stage Shape Op) (b : Refusal) → ◌≡◌ {A = Step Shape Op} (Ok a) (Err b) → ⊥
  not_ok a b e = cc

module _ {Shape State Op Undo : Type 0} (o : Object Shape State Op Undo) where
  module _ (laws : IsLawful o) where
    same_shape : (s : State) (l : List Op) → AllowedFrom o s l →
        o.shape (state_from o s l) ≡ o.shape s
    same_shape s [] h = refl
    same_shape s (a ∷ l) h = same_shape (o.next s a) l h.1 ∙ laws.next_shape s a h.0

    entered : (shape : Shape) (l : List (Item Op)) (p : Item Op) → IsTrue (o.fits shape p.op)
        → given o shape l p.op ≡ o.recorded p.op → IsAllowed o shape (ops l)
        → IsAllowed o shape (ops (l ++ p ∷ []))
    entered shape l p f g h =
        let s : State = state_after o shape (ops l) in
        let k : o.shape s ≡ shape =
        same_shape (o.start shape) (ops l) h ∙ laws.start_shape shape in
        let legal : IsLegal o s p.op =
        (subst (λ (w : Shape). IsTrue (o.fits w p.op)) (sym k) f, g) in
        subst (λ (w : List Op). IsAllowed o shape w)
        (sym (map-append (λ (w : Item Op). w.op) l (p ∷ [])))
        (allowed-append o (o.start shape) (ops l) (p.op ∷ []) h (legal, tt))

  -- the stage t is u, which is sound
  is_sound : (t u : Stage Shape Op) → ◌≡◌ {A = Step Shape Op} (Ok t) (Ok u) → IsAllowedSoFar o u
      → IsAllowedSoFar o t
  is_sound t u r h = subst (λ (w : Stage Shape Op). IsAllowedSoFar o w) (sym (ok_is t u r)) h

  -- Exchanges that are taken lead from an allowed list to a stage that is allowed so far.
  pub exchanged_sound : (shape : Shape) (is : List ℕ) (l : List (Item Op)) (count : ℕ)
      (t : Stage Shape Op) → IsAllowed o shape (ops l) → AreExchanged o shape l count is (Ok t)
      → IsAllowedSoFar o t
  exchanged_sound shape [] l count t h r = is_sound t (Exchanged shape l count) r h
  exchanged_sound shape (i ∷ is) l count t h (inl r) =
      let O = rules_of o shape in
      let s : AtPair (ItemsSwap O) l i =
      at_pair_map (λ a b. Swaps o a.op b.op) (ItemsSwap O) (λ a b f. f shape) l i r.0 in
      let h1 : Allowed O (ops l ++ []) =
      subst (λ (w : List Op). IsAllowed o shape w) (sym (append-nil (ops l))) h in
      let h2 = exchanges_allowed O l (i ∷ []) [] (s, tt) h1 in
      let h3 : IsAllowed o shape (ops (exchanged l i)) =
      subst (λ (w : List Op). IsAllowed o shape w) (append-nil (ops (exchanged l i))) h2 in
      exchanged_sound shape is (exchanged l i) (suc count) t h3 r.1
  exchanged_sound shape (i ∷ is) l count t h (inr (inl r)) =
      let Q : Item Op → Item Op → Type 0 =
      λ a b. ¬ Swaps o a.op b.op × (Ok t ≡ Err (Pair a.id b.id)) in
      absurd (at_pair_both Q Q ⊥ (λ a b f k. not_ok t (Pair a.id b.id) f.1) l i r r)
  exchanged_sound shape (i ∷ is) l count t h (inr (inr r)) = absurd (not_ok t Position r.1)

  ended_sound : (shape : Shape) (l : List (Item Op)) (count n : ℕ) (t : Stage Shape Op)
      → IsAllowed o shape (ops l) → IsEnded o shape l count n (Ok t) → IsAllowedSoFar o t
  ended_sound shape l count n t h (inl r) = is_sound t (Ended shape l count n) r.1 h
  ended_sound shape l count n t h (inr r) = absurd (not_ok t Position r.1)

  entered_sound : IsLawful o → (shape : Shape) (l : List (Item Op)) (p : Item Op)
      (t : Stage Shape Op) → IsAllowed o shape (ops l) → (b : Bool) → o.fits shape p.op ≡ b
      → MatchBool b (IsEntered o shape l p (Ok t))
      (◌≡◌ {A = Step Shape Op} (Ok t) (Err NotCertificate)) → IsAllowedSoFar o t
  entered_sound laws shape l p t h true f (inl r) =
      is_sound t (Entered shape (l ++ p ∷ [])) r.1 (entered laws shape l p f r.0 h)
  entered_sound laws shape l p t h true f (inr r) =
      absurd (not_ok t (Gives p.id (given o shape l p.op)) r.1)
  entered_sound laws shape l p t h false f r = absurd (not_ok t NotCertificate r)

  head_sound : (s : Stage Shape Op) (shape : Shape) (t : Stage Shape Op)
      → IsHeadTaken s shape (Ok t) → IsAllowedSoFar o t
  head_sound Fresh shape t r = is_sound t (Entered shape []) r tt
  head_sound (Entered over l) shape t r = absurd (not_ok t NotCertificate r)
  head_sound (Exchanged over l count) shape t r = absurd (not_ok t NotCertificate r)
  head_sound (Ended over l count n) shape t r = absurd (not_ok t NotCertificate r)

  entry_sound : IsLawful o → (s : Stage Shape Op) (p : Item Op) (t : Stage Shape Op)
      → IsAllowedSoFar o s → IsEntryTaken o s p (Ok t) → IsAllowedSoFar o t
  entry_sound laws Fresh p t h r = absurd (not_ok t NotCertificate r)
  entry_sound laws (Entered shape l) p t h r =
      entered_sound laws shape l p t h (o.fits shape p.op) refl r
  entry_sound laws (Exchanged shape l count) p t h r = absurd (not_ok t NotCertificate r)
  entry_sound laws (Ended shape l count n) p t h r = absurd (not_ok t NotCertificate r)

  exchanges_sound : (s : Stage Shape Op) (is : List ℕ) (t : Stage Shape Op) → IsAllowedSoFar o s
      → AreExchangesTaken o s is (Ok t) → IsAllowedSoFar o t
  exchanges_sound Fresh is t h r = absurd (not_ok t NotCertificate r)
  exchanges_sound (Entered shape l) is t h r = exchanged_sound shape is l 0 t h r
  exchanges_sound (Exchanged shape l count) is t h r = exchanged_sound shape is l count t h r
  exchanges_sound (Ended shape l count n) is t h r = absurd (not_ok t NotCertificate r)

  serial_sound : (s : Stage Shape Op) (n : ℕ) (t : Stage Shape Op) → IsAllowedSoFar o s
      → IsSerialTaken o s n (Ok t) → IsAllowedSoFar o t
  serial_sound Fresh n t h r = absurd (not_ok t NotCertificate r)
  serial_sound (Entered shape l) n t h r = ended_sound shape l 0 n t h r
  serial_sound (Exchanged shape l count) n t h r = ended_sound shape l count n t h r
  serial_sound (Ended shape l count m) n t h r = absurd (not_ok t NotCertificate r)

  -- A line that is taken keeps a stage allowed so far.
  pub taken_sound : IsLawful o → (s : Stage Shape Op) (line : Line Shape Op) (t : Stage Shape Op)
      → IsAllowedSoFar o s → IsTaken o s line (Ok t) → IsAllowedSoFar o t
  taken_sound laws s Blank t h r = is_sound t s r h
  taken_sound laws s (Head shape) t h r = head_sound s shape t r
  taken_sound laws s (Entry p) t h r = entry_sound laws s p t h r
  taken_sound laws s (Exchanges is) t h r = exchanges_sound s is t h r
  taken_sound laws s (Serial n) t h r = serial_sound s n t h r
  taken_sound laws s Other t h r = absurd (not_ok t NotCertificate r)

  -- Two verdicts that hold and are equal show the same.
  pub holds_is : (a b : Shown Shape State Op) → Holds a ≡ Holds b → a ≡ b
  holds_is a b e = cc

  -- A verdict that holds is not a refusal.
  pub not_holds : (a : Shown Shape State Op) (n : ℕ) (f : Refusal) → Holds a ≡ Refused n f → ⊥
  not_holds a n f e = cc

  -- The first entries of an allowed list show an allowed list and the state after it.
  pub shown_sound : (shape : Shape) (l : List (Item Op)) (count n : ℕ) → IsAllowed o shape (ops l)
      → ShowsAllowed o (shown o shape l count n)
  shown_sound shape l count n h =
      let e : ops l ≡ ops (take n l) ++ ops (drop n l) =
      ap (λ (w : List (Item Op)). ops w) (sym (take-append-drop n l))
      ∙ map-append (λ (w : Item Op). w.op) (take n l) (drop n l) in
      let k : IsAllowed o shape (ops (take n l) ++ ops (drop n l)) =
      subst (λ (w : List Op). IsAllowed o shape w) e h in
      (allowed-first o (o.start shape) (ops (take n l)) (ops (drop n l)) k, refl)

  closing_sound : (n : ℕ) (s : Stage Shape Op) (h : Shown Shape State Op) → IsAllowedSoFar o s
      → IsClosing n (shown_at o s) (Holds h) → ShowsAllowed o h
  closing_sound n Fresh h a r = absurd (not_holds h n NotCertificate r)
  closing_sound n (Entered shape l) h a r = absurd (not_holds h n NotCertificate r)
  closing_sound n (Exchanged shape l count) h a r = absurd (not_holds h n NotCertificate r)
  closing_sound n (Ended shape l count k) h a r =
      subst (λ (w : Shown Shape State Op). ShowsAllowed o w)
      (sym (holds_is h (shown o shape l count k) r)) (shown_sound shape l count k a)

  -- An accepted certificate shows an allowed list and the state after it.
  pub read_sound : IsLawful o → {L : Type 0} (read : Reader L Shape Op) (n : ℕ)
      (s : Stage Shape Op) (lines : List L) (h : Shown Shape State Op) → IsAllowedSoFar o s
      → IsRead o read n s lines (Holds h) → ShowsAllowed o h
  read_sound laws read n s [] h a r = closing_sound n s h a r
  read_sound laws read n s (line ∷ lines) h a (inl r) = absurd (not_holds h n r.0 r.2)
  read_sound laws read n s (line ∷ lines) h a (inr r) =
      read_sound laws read (suc n) r.0 lines h (taken_sound laws s (read s line) r.0 a r.1) r.2
