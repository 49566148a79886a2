-- Proof machinery: after lines that are taken the verdict is that of the other lines.
use Rattle.std.proofs.Common.{ℕ, suc, ◌+◌, List, [], ◌∷◌, ◌++◌, length, subst, refl, arith}
use Rattle.std.proofs.Common.{inr, Ok, add-zero, ◌≡◌}
use Rattle.pp_kind.specs.Object.{Object}
use Rattle.pp_certificate_checker.specs.Certificates.{Stage, Reader, Verdict, IsRead, IsTaken}
use Rattle.pp_certificate_checker.specs.Laws.{Leads}

module _ {Shape State Op Undo L : Type 0} (o : Object Shape State Op Undo)
    (read : Reader L Shape Op) (more : List L) (v : Verdict Shape State Op) where
  -- After lines that are taken, the verdict of all lines is that of the others.
  pub read_on : (lines : List L) (n : ℕ) (s t : Stage Shape Op) → Leads o read s lines t
      → IsRead o read (n + length lines) t more v → IsRead o read n s (lines ++ more) v
  read_on [] n s t h r =
      let here : IsRead o read n t more v =
      subst (λ m. IsRead o read m t more v) (add-zero n) r in
      subst (λ (w : Stage Shape Op). IsRead o read n w more v) h here
  read_on (line ∷ lines) n s t h r =
      let e : n + suc (length lines) ≡ suc n + length lines = omega arith in
      let r1 : IsRead o read (suc n + length lines) t more v =
      subst (λ m. IsRead o read m t more v) e r in
      inr (h.0, h.1, read_on lines (suc n) h.0 t h.2 r1)

-- lines that are taken, and one more
module _ {Shape State Op Undo L : Type 0} (o : Object Shape State Op Undo)
    (read : Reader L Shape Op) (line : L) where
  -- Lines that are taken, and one more, lead to the stage after the last one.
  pub leads_on : (lines : List L) (s u t : Stage Shape Op) → Leads o read s lines u
      → IsTaken o u (read u line) (Ok t) → Leads o read s (lines ++ line ∷ []) t
  leads_on [] s u t h r =
      (t, subst (λ (w : Stage Shape Op). IsTaken o w (read w line) (Ok t)) h r, refl)
  leads_on (next ∷ lines) s u t h r = (h.0, h.1, leads_on lines h.0 u t h.2 r)
