-- Proof machinery: what an accepted certificate shows is what its lines say.
use Rattle.std.proofs.Common.{◌≡◌, ◌≤◌, ◌+◌, ℕ, suc, Bool, true, false, MatchBool, List, [], ◌∷◌, ◌++◌}
use Rattle.std.proofs.Common.{length, Ok, Err, Option, Some, None, refl, sym, ap, subst, ◌∙◌, arith}
use Rattle.std.proofs.Common.{inl, inr, append_assoc, append-nil}
use Rattle.std.proofs.lemmas.List.{length-append}
use Rattle.pp_model.specs.Object.{Item, ops}
use Rattle.pp_kind.specs.Object.{Object, IsLawful, IsAllowed, Swaps}
use Rattle.pp_certificate_exchanges.specs.Exchanges.{EachExchange, after_exchanges}
use Rattle.pp_certificate_exchanges.specs.Laws.{ExchangesSwap}
use Rattle.pp_certificate_exchanges.proofs.Draws.{after_join, each_join}
use Rattle.pp_certificate_checker.specs.Certificates.{Line, Blank, Head, Entry, Exchanges, Serial, Other}
use Rattle.pp_certificate_checker.specs.Certificates.{Stage, Fresh, Entered, Exchanged, Ended, Step, Reader}
use Rattle.pp_certificate_checker.specs.Certificates.{NotCertificate, Gives, Position, given, Shown, Holds}
use Rattle.pp_certificate_checker.specs.Certificates.{IsEntered, AreExchanged, IsEnded, IsTaken, IsRead}
use Rattle.pp_certificate_checker.specs.Certificates.{IsClosing, shown, shown_at}
use Rattle.pp_certificate_checker.specs.Own.{entries_of, positions_of, serials_of, AreSaid, ShowsOwn}
use Rattle.pp_certificate_checker.specs.Laws.{IsAllowedSoFar}
use Rattle.pp_certificate_checker.proofs.Checked.{ok_is, not_ok, holds_is, not_holds, taken_sound}
use Rattle.pp_certificate_checker.proofs.Kept.{turned}
use Rattle.pp_certificate_checker.proofs.Rows.{length-after}

module _ {Shape Op : Type 0} where
  -- The entries of joined lines are those of the first, then those of the second.
  pub entries-append : (xs ys : List (Line Shape Op))
      → entries_of (xs ++ ys) ≡ entries_of xs ++ entries_of ys
  entries-append [] ys = refl
  entries-append (Blank ∷ xs) ys = entries-append xs ys
  entries-append (Head shape ∷ xs) ys = entries-append xs ys
  entries-append (Entry p ∷ xs) ys = ap (λ (l : List (Item Op)). p ∷ l) (entries-append xs ys)
  entries-append (Exchanges is ∷ xs) ys = entries-append xs ys
  entries-append (Serial n ∷ xs) ys = entries-append xs ys
  entries-append (Other ∷ xs) ys = entries-append xs ys

  -- The positions of joined lines are those of the first, then those of the second.
  pub positions-append : (xs ys : List (Line Shape Op))
      → positions_of (xs ++ ys) ≡ positions_of xs ++ positions_of ys
  positions-append [] ys = refl
  positions-append (Blank ∷ xs) ys = positions-append xs ys
  positions-append (Head shape ∷ xs) ys = positions-append xs ys
  positions-append (Entry p ∷ xs) ys = positions-append xs ys
  positions-append (Exchanges is ∷ xs) ys =
      ap (λ (l : List ℕ). is ++ l) (positions-append xs ys)
      ∙ sym (append_assoc is (positions_of xs) (positions_of ys))
  positions-append (Serial n ∷ xs) ys = positions-append xs ys
  positions-append (Other ∷ xs) ys = positions-append xs ys

  -- The serial numbers of joined lines are those of the first, then those of the second.
  pub serials-append : (xs ys : List (Line Shape Op))
      → serials_of (xs ++ ys) ≡ serials_of xs ++ serials_of ys
  serials-append [] ys = refl
  serials-append (Blank ∷ xs) ys = serials-append xs ys
  serials-append (Head shape ∷ xs) ys = serials-append xs ys
  serials-append (Entry p ∷ xs) ys = serials-append xs ys
  serials-append (Exchanges is ∷ xs) ys = serials-append xs ys
  serials-append (Serial n ∷ xs) ys = ap (λ (l : List ℕ). n ∷ l) (serials-append xs ys)
  serials-append (Other ∷ xs) ys = serials-append xs ys

module _ {Shape State Op Undo : Type 0} (o : Object Shape State Op Undo) (laws : IsLawful o) where
  -- the stage is that of these entries, positions and serial numbers
  abbrev IsOf : Stage Shape Op → List (Item Op) → List ℕ → List ℕ → Type 0
  IsOf Fresh es ps ns = (es ≡ []) × (ps ≡ []) × (ns ≡ [])
  IsOf (Entered shape list) es ps ns =
      (list ≡ es) × (ps ≡ []) × (ns ≡ []) × IsAllowed o shape (ops es)
  IsOf (Exchanged shape list count) es ps ns =
      (list ≡ after_exchanges es ps) × (count ≡ length ps) × ExchangesSwap o es ps × (ns ≡ [])
      × IsAllowed o shape (ops es)
  IsOf (Ended shape list count n) es ps ns =
      (list ≡ after_exchanges es ps) × (count ≡ length ps) × ExchangesSwap o es ps
      × (n ≤ length es) × (ns ≡ n ∷ []) × IsAllowed o shape (ops es)

  -- the stage t is u
  is_of : (t u : Stage Shape Op) (es : List (Item Op)) (ps ns : List ℕ)
      → ◌≡◌ {A = Step Shape Op} (Ok t) (Ok u) → IsOf u es ps ns → IsOf t es ps ns
  is_of t u es ps ns r h =
      subst (λ (w : Stage Shape Op). IsOf w es ps ns) (sym (ok_is t u r)) h

  -- nothing more is said
  still : (s : Stage Shape Op) (es : List (Item Op)) (ps ns : List ℕ) → IsOf s es ps ns
      → IsOf s (es ++ []) (ps ++ []) (ns ++ [])
  still s es ps ns h =
      subst (λ (l : List (Item Op)). IsOf s l (ps ++ []) (ns ++ [])) (sym (append-nil es))
      (subst (λ (l : List ℕ). IsOf s es l (ns ++ [])) (sym (append-nil ps))
      (subst (λ (l : List ℕ). IsOf s es ps l) (sym (append-nil ns)) h))

  module _ (es : List (Item Op)) (ps ns : List ℕ) where
    -- with what one line says
    abbrev IsOfMore : Stage Shape Op → Line Shape Op → Type 0
    IsOfMore t said = IsOf t (es ++ entries_of (said ∷ [])) (ps ++ positions_of (said ∷ []))
        (ns ++ serials_of (said ∷ []))

    head_of : (s : Stage Shape Op) (shape : Shape) (t : Stage Shape Op) → IsOf s es ps ns
        → IsTaken o s (Head shape) (Ok t) → IsOfMore t (Head shape)
    head_of Fresh shape t h r =
        is_of t (Entered shape []) (es ++ []) (ps ++ []) (ns ++ []) r
        (still (Entered shape []) es ps ns (
          sym h.0,
          h.1,
          h.2,
          subst (λ (l : List (Item Op)). IsAllowed o shape (ops l)) (sym h.0) tt,
        ))
    head_of (Entered over l) shape t h r = absurd (not_ok t NotCertificate r)
    head_of (Exchanged over l count) shape t h r = absurd (not_ok t NotCertificate r)
    head_of (Ended over l count n) shape t h r = absurd (not_ok t NotCertificate r)

    entered_of : (shape : Shape) (l : List (Item Op)) (p : Item Op) (t : Stage Shape Op)
        → IsOf (Entered shape l) es ps ns → IsAllowedSoFar o t → (b : Bool)
        → MatchBool b (IsEntered o shape l p (Ok t))
        (◌≡◌ {A = Step Shape Op} (Ok t) (Err NotCertificate)) → IsOfMore t (Entry p)
    entered_of shape l p t h a true (inl r) =
        let next : Stage Shape Op = Entered shape (l ++ p ∷ []) in
        let longer : l ++ p ∷ [] ≡ es ++ p ∷ [] =
        ap (λ (w : List (Item Op)). w ++ p ∷ []) h.0 in
        let allowed : IsAllowedSoFar o next =
        subst (λ (w : Stage Shape Op). IsAllowedSoFar o w) (ok_is t next r.1) a in
        is_of t next (es ++ p ∷ []) (ps ++ []) (ns ++ []) r.1 (
          longer,
          append-nil ps ∙ h.1,
          append-nil ns ∙ h.2,
          subst (λ (w : List (Item Op)). IsAllowed o shape (ops w)) longer allowed,
        )
    entered_of shape l p t h a true (inr r) =
        absurd (not_ok t (Gives p.id (given o shape l p.op)) r.1)
    entered_of shape l p t h a false r = absurd (not_ok t NotCertificate r)

    entry_of : (s : Stage Shape Op) (p : Item Op) (t : Stage Shape Op) → IsOf s es ps ns
        → IsTaken o s (Entry p) (Ok t) → IsOfMore t (Entry p)
    entry_of Fresh p t h r = absurd (not_ok t NotCertificate r)
    entry_of (Entered shape l) p t h r =
        let before : IsAllowed o shape (ops l) =
        subst (λ (w : List (Item Op)). IsAllowed o shape (ops w)) (sym h.0) h.3 in
        entered_of shape l p t h (taken_sound o laws (Entered shape l) (Entry p) t before r)
        (o.fits shape p.op) r
    entry_of (Exchanged shape l count) p t h r = absurd (not_ok t NotCertificate r)
    entry_of (Ended shape l count n) p t h r = absurd (not_ok t NotCertificate r)

    -- exchanges go on from these
    exchanged_of : (shape : Shape) (l : List (Item Op)) (count : ℕ) (is : List ℕ)
        (t : Stage Shape Op) → l ≡ after_exchanges es ps → count ≡ length ps
        → ExchangesSwap o es ps → ns ≡ [] → IsAllowed o shape (ops es)
        → AreExchanged o shape l count is (Ok t) → IsOfMore t (Exchanges is)
    exchanged_of shape l count is t e n swap none allowed r =
        let k = turned o shape is l count t r in
        let R : Item Op → Item Op → Type 0 = λ p q. Swaps o p.op q.op in
        let there : EachExchange R (after_exchanges es ps) is =
        subst (λ (w : List (Item Op)). EachExchange R w is) e k.1 in
        let here : IsOf (Exchanged shape (after_exchanges l is) (count + length is)) es (ps ++ is)
        ns = (
          ap (λ (w : List (Item Op)). after_exchanges w is) e ∙ sym (after_join es ps is),
          omega (arith, n, length-append ps is),
          each_join R es ps is swap there,
          none,
          allowed,
        ) in
        let at : IsOf t es (ps ++ is) ns =
        subst (λ (w : Stage Shape Op). IsOf w es (ps ++ is) ns) (sym k.0) here in
        subst (λ (w : List (Item Op)). IsOf t w (ps ++ (is ++ [])) (ns ++ [])) (sym (append-nil es))
        (subst (λ (w : List ℕ). IsOf t es (ps ++ w) (ns ++ [])) (sym (append-nil is))
        (subst (λ (w : List ℕ). IsOf t es (ps ++ is) w) (sym (append-nil ns)) at))

    -- After entries alone nothing was exchanged.
    unturned : (l : List (Item Op)) → l ≡ es → ps ≡ []
        → (l ≡ after_exchanges es ps) × (0 ≡ length ps) × ExchangesSwap o es ps
    unturned l e none = (
      e ∙ sym (ap (λ (w : List ℕ). after_exchanges es w) none),
      sym (ap (λ (w : List ℕ). length w) none),
      subst (λ (w : List ℕ). ExchangesSwap o es w) (sym none) tt,
    )

    exchanges_of : (s : Stage Shape Op) (is : List ℕ) (t : Stage Shape Op) → IsOf s es ps ns
        → IsTaken o s (Exchanges is) (Ok t) → IsOfMore t (Exchanges is)
    exchanges_of Fresh is t h r = absurd (not_ok t NotCertificate r)
    exchanges_of (Entered shape l) is t h r =
        let u = unturned l h.0 h.1 in exchanged_of shape l 0 is t u.0 u.1 u.2 h.2 h.3 r
    exchanges_of (Exchanged shape l count) is t h r =
        exchanged_of shape l count is t h.0 h.1 h.2 h.3 h.4 r
    exchanges_of (Ended shape l count n) is t h r = absurd (not_ok t NotCertificate r)

    -- the serial number ends it
    ended_of : (shape : Shape) (l : List (Item Op)) (count n : ℕ) (t : Stage Shape Op)
        → l ≡ after_exchanges es ps → count ≡ length ps → ExchangesSwap o es ps → ns ≡ []
        → IsAllowed o shape (ops es) → IsEnded o shape l count n (Ok t) → IsOfMore t (Serial n)
    ended_of shape l count n t e k swap none allowed (inl r) =
        let long : length l ≡ length es =
        ap (λ (w : List (Item Op)). length w) e ∙ length-after es ps in
        let here : IsOf (Ended shape l count n) es ps (ns ++ n ∷ []) = (
          e,
          k,
          swap,
          omega (arith, long, r.0),
          ap (λ (w : List ℕ). w ++ n ∷ []) none,
          allowed,
        ) in
        let at : IsOf t es ps (ns ++ n ∷ []) =
        is_of t (Ended shape l count n) es ps (ns ++ n ∷ []) r.1 here in
        subst (λ (w : List (Item Op)). IsOf t w (ps ++ []) (ns ++ n ∷ [])) (sym (append-nil es))
        (subst (λ (w : List ℕ). IsOf t es w (ns ++ n ∷ [])) (sym (append-nil ps)) at)
    ended_of shape l count n t e k swap none allowed (inr r) = absurd (not_ok t Position r.1)

    serial_of : (s : Stage Shape Op) (n : ℕ) (t : Stage Shape Op) → IsOf s es ps ns
        → IsTaken o s (Serial n) (Ok t) → IsOfMore t (Serial n)
    serial_of Fresh n t h r = absurd (not_ok t NotCertificate r)
    serial_of (Entered shape l) n t h r =
        let u = unturned l h.0 h.1 in ended_of shape l 0 n t u.0 u.1 u.2 h.2 h.3 r
    serial_of (Exchanged shape l count) n t h r =
        ended_of shape l count n t h.0 h.1 h.2 h.3 h.4 r
    serial_of (Ended shape l count m) n t h r = absurd (not_ok t NotCertificate r)

    taken_of : (s : Stage Shape Op) (said : Line Shape Op) (t : Stage Shape Op)
        → IsOf s es ps ns → IsTaken o s said (Ok t) → IsOfMore t said
    taken_of s Blank t h r =
        is_of t s (es ++ []) (ps ++ []) (ns ++ []) r (still s es ps ns h)
    taken_of s (Head shape) t h r = head_of s shape t h r
    taken_of s (Entry p) t h r = entry_of s p t h r
    taken_of s (Exchanges is) t h r = exchanges_of s is t h r
    taken_of s (Serial n) t h r = serial_of s n t h r
    taken_of s Other t h r = absurd (not_ok t NotCertificate r)

  -- the same of all that was said
  abbrev IsOfAll : Stage Shape Op → List (Line Shape Op) → Type 0
  IsOfAll s said = IsOf s (entries_of said) (positions_of said) (serials_of said)

  said_more : (s t : Stage Shape Op) (before : List (Line Shape Op)) (said : Line Shape Op)
      → IsOfAll s before → IsTaken o s said (Ok t) → IsOfAll t (before ++ said ∷ [])
  said_more s t before said h r =
      let more : List (Line Shape Op) = said ∷ [] in
      let there = taken_of (entries_of before) (positions_of before) (serials_of before) s said t
      h r in
      subst (λ (w : List (Item Op)). IsOf t w (positions_of (before ++ more))
      (serials_of (before ++ more))) (sym (entries-append before more))
      (subst (λ (w : List ℕ). IsOf t (entries_of before ++ entries_of more) w
      (serials_of (before ++ more))) (sym (positions-append before more))
      (subst (λ (w : List ℕ). IsOf t (entries_of before ++ entries_of more)
      (positions_of before ++ positions_of more) w) (sym (serials-append before more)) there))

  -- The verdict at the end is that of all lines.
  record Shows {L : Type 0} (read : Reader L Shape Op) (s : Stage Shape Op) (lines : List L)
      (before : List (Line Shape Op)) (h : Shown Shape State Op) : Type 0 where
    pub said : List (Line Shape Op)
    pub lines_say : AreSaid o read s lines said
    pub last : Stage Shape Op
    pub is : IsOfAll last (before ++ said)
    pub shows : shown_at o last ≡ Some h

  closing_shows : (n : ℕ) (found : Option (Shown Shape State Op)) (h : Shown Shape State Op)
      → IsClosing n found (Holds h) → found ≡ Some h
  closing_shows n None h r = absurd (not_holds o h n NotCertificate r)
  closing_shows n (Some k) h r =
      ap (λ (w : Shown Shape State Op). Some w) (sym (holds_is o h k r))

  read_shows : {L : Type 0} (read : Reader L Shape Op) (n : ℕ) (s : Stage Shape Op)
      (lines : List L) (before : List (Line Shape Op)) (h : Shown Shape State Op)
      → IsOfAll s before → IsRead o read n s lines (Holds h) → Shows read s lines before h
  read_shows read n s [] before h i r = record {
    said = [];
    lines_say = tt;
    last = s;
    is = subst (λ (w : List (Line Shape Op)). IsOfAll s w) (sym (append-nil before)) i;
    shows = closing_shows n (shown_at o s) h r;
  }
  read_shows read n s (line ∷ lines) before h i (inl r) = absurd (not_holds o h n r.0 r.2)
  read_shows read n s (line ∷ lines) before h i (inr r) =
      let said : Line Shape Op = read s line in
      let k = read_shows read (suc n) r.0 lines (before ++ said ∷ []) h
      (said_more s r.0 before said i r.1) r.2 in
      record {
        said = said ∷ k.said;
        lines_say = (refl, (r.0, r.1, k.lines_say));
        last = k.last;
        is = subst (λ (w : List (Line Shape Op)). IsOfAll k.last w)
            (append_assoc before (said ∷ []) k.said) k.is;
        shows = k.shows;
      }

  -- Verdicts with equal parts are equal.
  shown_is : (shape : Shape) (l m : List (Item Op)) (i j n : ℕ) → l ≡ m → i ≡ j
      → shown o shape l i n ≡ shown o shape m j n
  shown_is shape l m i j n e f =
      ap (λ (w : List (Item Op)). shown o shape w i n) e ∙ ap (λ k. shown o shape m k n) f

  module _ {L : Type 0} (read : Reader L Shape Op) (lines : List L) (h : Shown Shape State Op)
      (said : List (Line Shape Op)) (lines_say : AreSaid o read Fresh lines said) where
    own_of : (last : Stage Shape Op) → IsOfAll last said → shown_at o last ≡ Some h
        → ShowsOwn o read lines h
    own_of Fresh i e = absurd (cc)
    own_of (Entered shape l) i e = absurd (cc)
    own_of (Exchanged shape l count) i e = absurd (cc)
    own_of (Ended shape l count n) i e =
        let is : h ≡ shown o shape l count n = cc in
        let over : h.shape ≡ shape = ap (λ (w : Shown Shape State Op). w.shape) is in
        let es : List (Item Op) = entries_of said in
        let ps : List ℕ = positions_of said in
        record {
          said = said;
          serial = n;
          lines_say = lines_say;
          one_serial = i.4;
          within = i.3;
          entries_allowed = subst (λ (w : Shape). IsAllowed o w (ops es)) (sym over) i.5;
          pairs_swap = i.2;
          shows = is ∙ shown_is shape l (after_exchanges es ps) count (length ps) n i.0 i.1
              ∙ ap (λ (w : Shape). shown o w (after_exchanges es ps) (length ps) n) (sym over);
        }

  -- An accepted certificate shows just what its own lines say.
  pub shows_own : {L : Type 0} (read : Reader L Shape Op) (lines : List L)
      (h : Shown Shape State Op) → IsRead o read 1 Fresh lines (Holds h)
      → ShowsOwn o read lines h
  shows_own read lines h r =
      let k = read_shows read 1 Fresh lines [] h (refl, refl, refl) r in
      own_of read lines h k.said k.lines_say k.last k.is k.shows
