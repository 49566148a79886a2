-- Proof machinery: there is one verdict.
use Rattle.std.proofs.Common.{◌≡◌, ◌≢◌, ◌⊎◌, ℕ, ℤ, suc, Bool, true, false, MatchBool, List, []}
use Rattle.std.proofs.Common.{◌∷◌, ◌++◌, length, Option, Some, None, Ok, Err, refl, sym, ap, subst}
use Rattle.std.proofs.Common.{◌∙◌, arith, inl, inr}
use Rattle.std.proofs.lemmas.Bool.{cases_lt}
use Rattle.std.proofs.lemmas.Bool.Decides.{Decides-int_eq}
use Rattle.std.specs.Ordering.{int_eq}
use Rattle.pp_core.specs.declared.answer.Answer.{Answer}
use Rattle.pp_core.specs.declared.answer.Answer.TheVariants as answers
use Rattle.pp_model.specs.Object.{Item}
use Rattle.pp_kind.specs.Object.{Object, IsLawful, Swaps}
use Rattle.pp_certificate_exchanges.specs.Exchanges.{exchanged}
use Rattle.pp_certificate_checker.specs.Certificates.{Line, Blank, Head, Entry, Exchanges, Serial, Other}
use Rattle.pp_certificate_checker.specs.Certificates.{Stage, Fresh, Entered, Exchanged, Ended, Step, Reader}
use Rattle.pp_certificate_checker.specs.Certificates.{Refusal, NotCertificate, Gives, Position, Pair, given}
use Rattle.pp_certificate_checker.specs.Certificates.{IsEntered, IsHeadTaken, IsEntryTaken, AreExchanged}
use Rattle.pp_certificate_checker.specs.Certificates.{AreExchangesTaken, IsEnded, IsSerialTaken, IsTaken}
use Rattle.pp_certificate_checker.specs.Certificates.{Shown, Verdict, Holds, Refused, shown_at}
use Rattle.pp_certificate_checker.specs.Certificates.{IsClosing, IsRead}
use Rattle.pp_certificate_checker.proofs.Checked.{ok_is, not_ok}
use Rattle.pp_certificate_checker.proofs.Pairs.{at_pair_both, at_pair_within, at_pair_decided, at_pair_named}

-- Two results are equal, or not.
same_truths : (a b : Bool) → (answers.Truth a ≡ answers.Truth b)
    ⊎ (answers.Truth a ≢ answers.Truth b)
same_truths true true = inl refl
same_truths true false = inr (λ e. cc)
same_truths false true = inr (λ e. cc)
same_truths false false = inl refl

same_numbers : (a b : ℤ) (t : Bool) → int_eq a b ≡ t
    → (answers.Number a ≡ answers.Number b) ⊎ (answers.Number a ≢ answers.Number b)
same_numbers a b true e = inl (ap answers.Number ((Decides-int_eq a b).0 e))
same_numbers a b false e =
    inr (λ u. let v : a ≡ b = cc in let w : int_eq a b ≡ true = (Decides-int_eq a b).1 v in cc)

same_answers : (a b : Answer) → (a ≡ b) ⊎ (a ≢ b)
same_answers answers.None answers.None = inl refl
same_answers answers.None (answers.Number y) = inr (λ e. cc)
same_answers answers.None (answers.Truth y) = inr (λ e. cc)
same_answers (answers.Number x) answers.None = inr (λ e. cc)
same_answers (answers.Number x) (answers.Number y) = same_numbers x y (int_eq x y) refl
same_answers (answers.Number x) (answers.Truth y) = inr (λ e. cc)
same_answers (answers.Truth x) answers.None = inr (λ e. cc)
same_answers (answers.Truth x) (answers.Number y) = inr (λ e. cc)
same_answers (answers.Truth x) (answers.Truth y) = same_truths x y

module _ {Shape State Op Undo : Type 0} (o : Object Shape State Op Undo) where
  head_once : (s : Stage Shape Op) (shape : Shape) (r q : Step Shape Op) → IsHeadTaken s shape r
      → IsHeadTaken s shape q → r ≡ q
  head_once Fresh shape r q a b = a ∙ sym b
  head_once (Entered over l) shape r q a b = a ∙ sym b
  head_once (Exchanged over l count) shape r q a b = a ∙ sym b
  head_once (Ended over l count n) shape r q a b = a ∙ sym b

  entered_once : (shape : Shape) (l : List (Item Op)) (p : Item Op) (r q : Step Shape Op)
      → IsEntered o shape l p r → IsEntered o shape l p q → r ≡ q
  entered_once shape l p r q (inl a) (inl b) = a.1 ∙ sym b.1
  entered_once shape l p r q (inl a) (inr b) = absurd (b.0 a.0)
  entered_once shape l p r q (inr a) (inl b) = absurd (a.0 b.0)
  entered_once shape l p r q (inr a) (inr b) = a.1 ∙ sym b.1

  entered_or_not : (b : Bool) (shape : Shape) (l : List (Item Op)) (p : Item Op)
      (r q : Step Shape Op) → MatchBool b (IsEntered o shape l p r) (r ≡ Err NotCertificate)
      → MatchBool b (IsEntered o shape l p q) (q ≡ Err NotCertificate) → r ≡ q
  entered_or_not true shape l p r q a b = entered_once shape l p r q a b
  entered_or_not false shape l p r q a b = a ∙ sym b

  entry_once : (s : Stage Shape Op) (p : Item Op) (r q : Step Shape Op) → IsEntryTaken o s p r
      → IsEntryTaken o s p q → r ≡ q
  entry_once Fresh p r q a b = a ∙ sym b
  entry_once (Entered shape l) p r q a b = entered_or_not (o.fits shape p.op) shape l p r q a b
  entry_once (Exchanged shape l count) p r q a b = a ∙ sym b
  entry_once (Ended shape l count n) p r q a b = a ∙ sym b

  abbrev Turns : Item Op → Item Op → Type 0
  Turns a b = Swaps o a.op b.op

  -- the pair at a position does not swap, and this is reported
  abbrev Stays : Step Shape Op → Item Op → Item Op → Type 0
  Stays r a b = ¬ Swaps o a.op b.op × (r ≡ Err (Pair a.id b.id))

  exchanged_once : (shape : Shape) (is : List ℕ) (l : List (Item Op)) (count : ℕ)
      (r q : Step Shape Op) → AreExchanged o shape l count is r → AreExchanged o shape l count is q
      → r ≡ q
  exchanged_once shape [] l count r q a b = a ∙ sym b
  exchanged_once shape (i ∷ is) l count r q (inl a) (inl b) =
      exchanged_once shape is (exchanged l i) (suc count) r q a.1 b.1
  exchanged_once shape (i ∷ is) l count r q (inl a) (inr (inl b)) =
      absurd (at_pair_both Turns (Stays q) ⊥ (λ x y s t. t.0 s) l i a.0 b)
  exchanged_once shape (i ∷ is) l count r q (inl a) (inr (inr b)) =
      absurd (omega (arith, at_pair_within Turns l i a.0, b.0))
  exchanged_once shape (i ∷ is) l count r q (inr (inl a)) (inl b) =
      absurd (at_pair_both Turns (Stays r) ⊥ (λ x y s t. t.0 s) l i b.0 a)
  exchanged_once shape (i ∷ is) l count r q (inr (inl a)) (inr (inl b)) =
      at_pair_both (Stays r) (Stays q) (r ≡ q) (λ x y s t. s.1 ∙ sym t.1) l i a b
  exchanged_once shape (i ∷ is) l count r q (inr (inl a)) (inr (inr b)) =
      absurd (omega (arith, at_pair_within (Stays r) l i a, b.0))
  exchanged_once shape (i ∷ is) l count r q (inr (inr a)) (inl b) =
      absurd (omega (arith, at_pair_within Turns l i b.0, a.0))
  exchanged_once shape (i ∷ is) l count r q (inr (inr a)) (inr (inl b)) =
      absurd (omega (arith, at_pair_within (Stays q) l i b, a.0))
  exchanged_once shape (i ∷ is) l count r q (inr (inr a)) (inr (inr b)) = a.1 ∙ sym b.1

  exchanges_once : (s : Stage Shape Op) (is : List ℕ) (r q : Step Shape Op)
      → AreExchangesTaken o s is r → AreExchangesTaken o s is q → r ≡ q
  exchanges_once Fresh is r q a b = a ∙ sym b
  exchanges_once (Entered shape l) is r q a b = exchanged_once shape is l 0 r q a b
  exchanges_once (Exchanged shape l count) is r q a b = exchanged_once shape is l count r q a b
  exchanges_once (Ended shape l count n) is r q a b = a ∙ sym b

  ended_once : (shape : Shape) (l : List (Item Op)) (count n : ℕ) (r q : Step Shape Op)
      → IsEnded o shape l count n r → IsEnded o shape l count n q → r ≡ q
  ended_once shape l count n r q (inl a) (inl b) = a.1 ∙ sym b.1
  ended_once shape l count n r q (inl a) (inr b) = absurd (omega (arith, a.0, b.0))
  ended_once shape l count n r q (inr a) (inl b) = absurd (omega (arith, a.0, b.0))
  ended_once shape l count n r q (inr a) (inr b) = a.1 ∙ sym b.1

  serial_once : (s : Stage Shape Op) (n : ℕ) (r q : Step Shape Op) → IsSerialTaken o s n r
      → IsSerialTaken o s n q → r ≡ q
  serial_once Fresh n r q a b = a ∙ sym b
  serial_once (Entered shape l) n r q a b = ended_once shape l 0 n r q a b
  serial_once (Exchanged shape l count) n r q a b = ended_once shape l count n r q a b
  serial_once (Ended shape l count m) n r q a b = a ∙ sym b

  taken_once : (s : Stage Shape Op) (line : Line Shape Op) (r q : Step Shape Op)
      → IsTaken o s line r → IsTaken o s line q → r ≡ q
  taken_once s Blank r q a b = a ∙ sym b
  taken_once s (Head shape) r q a b = head_once s shape r q a b
  taken_once s (Entry p) r q a b = entry_once s p r q a b
  taken_once s (Exchanges is) r q a b = exchanges_once s is r q a b
  taken_once s (Serial n) r q a b = serial_once s n r q a b
  taken_once s Other r q a b = a ∙ sym b

  closing_once : (n : ℕ) (h : Option (Shown Shape State Op)) (v w : Verdict Shape State Op)
      → IsClosing n h v → IsClosing n h w → v ≡ w
  closing_once n None v w a b = a ∙ sym b
  closing_once n (Some h) v w a b = a ∙ sym b

  same_refusals : (f h : Refusal) → ◌≡◌ {A = Step Shape Op} (Err f) (Err h) → f ≡ h
  same_refusals f h e = cc

  -- Lines have at most one verdict.
  pub read_once : {L : Type 0} (read : Reader L Shape Op) (n : ℕ) (s : Stage Shape Op)
      (lines : List L) (v w : Verdict Shape State Op) → IsRead o read n s lines v
      → IsRead o read n s lines w → v ≡ w
  read_once read n s [] v w a b = closing_once n (shown_at o s) v w a b
  read_once read n s (line ∷ lines) v w (inl a) (inl b) =
      let e = taken_once s (read s line) (Err a.0) (Err b.0) a.1 b.1 in
      a.2 ∙ ap (λ (f : Refusal). Refused n f) (same_refusals a.0 b.0 e) ∙ sym b.2
  read_once read n s (line ∷ lines) v w (inl a) (inr b) =
      absurd (not_ok b.0 a.0 (taken_once s (read s line) (Ok b.0) (Err a.0) b.1 a.1))
  read_once read n s (line ∷ lines) v w (inr a) (inl b) =
      absurd (not_ok a.0 b.0 (taken_once s (read s line) (Ok a.0) (Err b.0) a.1 b.1))
  read_once read n s (line ∷ lines) v w (inr a) (inr b) =
      let e = ok_is a.0 b.0 (taken_once s (read s line) (Ok a.0) (Ok b.0) a.1 b.1) in
      let k = subst (λ (t : Stage Shape Op). IsRead o read (suc n) t lines v) e a.2 in
      read_once read (suc n) b.0 lines v w k b.2

  head_some : (s : Stage Shape Op) (shape : Shape) → (r : Step Shape Op) × IsHeadTaken s shape r
  head_some Fresh shape = (Ok (Entered shape []), refl)
  head_some (Entered over l) shape = (Err NotCertificate, refl)
  head_some (Exchanged over l count) shape = (Err NotCertificate, refl)
  head_some (Ended over l count n) shape = (Err NotCertificate, refl)

  entered_some : (shape : Shape) (l : List (Item Op)) (p : Item Op)
      → (r : Step Shape Op) × IsEntered o shape l p r
  entered_some shape l p = elim (same_answers (given o shape l p.op) (o.recorded p.op)) [
    | inl e ↦ (Ok (Entered shape (l ++ p ∷ [])), inl (e, refl))
    | inr n ↦ (Err (Gives p.id (given o shape l p.op)), inr (n, refl))
  ]

  entered_or_not_some : (b : Bool) (shape : Shape) (l : List (Item Op)) (p : Item Op)
      → (r : Step Shape Op) × MatchBool b (IsEntered o shape l p r) (r ≡ Err NotCertificate)
  entered_or_not_some true shape l p = entered_some shape l p
  entered_or_not_some false shape l p = (Err NotCertificate, refl)

  entry_some : (s : Stage Shape Op) (p : Item Op) → (r : Step Shape Op) × IsEntryTaken o s p r
  entry_some Fresh p = (Err NotCertificate, refl)
  entry_some (Entered shape l) p = entered_or_not_some (o.fits shape p.op) shape l p
  entry_some (Exchanged shape l count) p = (Err NotCertificate, refl)
  entry_some (Ended shape l count n) p = (Err NotCertificate, refl)

  ended_some : (shape : Shape) (l : List (Item Op)) (count n : ℕ)
      → (r : Step Shape Op) × IsEnded o shape l count n r
  ended_some shape l count n = elim (cases_lt (length l) n) [
    | inl a ↦ (Err Position, inr (a, refl))
    | inr a ↦ (Ok (Ended shape l count n), inl (a, refl))
  ]

  serial_some : (s : Stage Shape Op) (n : ℕ) → (r : Step Shape Op) × IsSerialTaken o s n r
  serial_some Fresh n = (Err NotCertificate, refl)
  serial_some (Entered shape l) n = ended_some shape l 0 n
  serial_some (Exchanged shape l count) n = ended_some shape l count n
  serial_some (Ended shape l count m) n = (Err NotCertificate, refl)

  closing_some : (n : ℕ) (h : Option (Shown Shape State Op))
      → (v : Verdict Shape State Op) × IsClosing n h v
  closing_some n None = (Refused n NotCertificate, refl)
  closing_some n (Some h) = (Holds h, refl)

  module _ (laws : IsLawful o) where
    pair_decided : (a b : Op) (r : Option (List Op × List Op)) → o.refuting a b ≡ r
        → Swaps o a b ⊎ ¬ Swaps o a b
    pair_decided a b None e = inl ((laws.unrefuted a b).0 e)
    pair_decided a b (Some lists) e = inr (λ s. let n = (laws.unrefuted a b).1 s in cc)

    exchanged_some : (shape : Shape) (is : List ℕ) (l : List (Item Op)) (count : ℕ)
        → (r : Step Shape Op) × AreExchanged o shape l count is r
    exchanged_some shape [] l count = (Ok (Exchanged shape l count), refl)
    exchanged_some shape (i ∷ is) l count =
        elim (at_pair_decided Turns (λ a b. ¬ Swaps o a.op b.op)
        (λ a b. pair_decided a.op b.op (o.refuting a.op b.op) refl) l i) [
          | inl p ↦
              let k = exchanged_some shape is (exchanged l i) (suc count) in (k.0, inl (p, k.1))
          | inr (inl p) ↦
              let k = at_pair_named (λ a b. let t : Step Shape Op = Err (Pair a.id b.id) in t)
              (λ a b. ¬ Swaps o a.op b.op) l i p in
              (k.0, inr (inl k.1))
          | inr (inr p) ↦ (Err Position, inr (inr (p, refl)))
        ]

    exchanges_some : (s : Stage Shape Op) (is : List ℕ)
        → (r : Step Shape Op) × AreExchangesTaken o s is r
    exchanges_some Fresh is = (Err NotCertificate, refl)
    exchanges_some (Entered shape l) is = exchanged_some shape is l 0
    exchanges_some (Exchanged shape l count) is = exchanged_some shape is l count
    exchanges_some (Ended shape l count n) is = (Err NotCertificate, refl)

    taken_some : (s : Stage Shape Op) (line : Line Shape Op)
        → (r : Step Shape Op) × IsTaken o s line r
    taken_some s Blank = (Ok s, refl)
    taken_some s (Head shape) = head_some s shape
    taken_some s (Entry p) = entry_some s p
    taken_some s (Exchanges is) = exchanges_some s is
    taken_some s (Serial n) = serial_some s n
    taken_some s Other = (Err NotCertificate, refl)

    -- Lines have a verdict.
    pub read_some : {L : Type 0} (read : Reader L Shape Op) (n : ℕ) (s : Stage Shape Op)
        (lines : List L) → (v : Verdict Shape State Op) × IsRead o read n s lines v
    read_some read n s [] = closing_some n (shown_at o s)
    read_some {L} read n s (line ∷ lines) =
        let k = taken_some s (read s line) in
        go k.0 k.1 (λ t. read_some read (suc n) t lines)
      where
        go : (r : Step Shape Op) → IsTaken o s (read s line) r → ((t : Stage Shape Op)
            → (v : Verdict Shape State Op) × IsRead o read (suc n) t lines v)
            → (v : Verdict Shape State Op) × IsRead o read n s (line ∷ lines) v
        go (Ok t) k f = ((f t).0, inr (t, k, (f t).1))
        go (Err e) k f = (Refused n e, inl (e, k, refl))
