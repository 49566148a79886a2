-- Proof machinery: what is kept with one line more.
use Rattle.std.proofs.Common.{◌≡◌, ◌+◌, ◌≤◌, ℕ, List, length, Ok, sym, subst, ap, ◌∙◌, arith}
use Rattle.pp_model.specs.Object.{Item, ops}
use Rattle.pp_kind.specs.Object.{Object, AllRanged}
use Rattle.pp_certificate_exchanges.specs.Exchanges.{after_exchanges}
use Rattle.pp_certificate_checker.specs.Certificates.{Stage, Exchanged, AreExchanged}
use Rattle.pp_certificate_checker.specs.Keeping.{IsKept}
use Rattle.pp_certificate_checker.proofs.Checked.{exchanged_sound}
use Rattle.pp_certificate_checker.proofs.Kept.{turned, all_ranged}
use Rattle.pp_certificate_checker.proofs.Rows.{length-after}

module _ {Shape State Op Undo : Type 0} (o : Object Shape State Op Undo) where
  same_list : (shape : Shape) (l m : List (Item Op)) (i j : ℕ)
      → ◌≡◌ {A = Stage Shape Op} (Exchanged shape l i) (Exchanged shape m j) → l ≡ m
  same_list shape l m i j e = cc

  -- with a row of exchanges
  pub row_kept : (shape : Shape) (l m : List (Item Op)) (count n : ℕ) (is : List ℕ)
      → IsKept o shape l count n → length is ≤ 1000
      → AreExchanged o shape l count is (Ok (Exchanged shape m (count + length is)))
      → IsKept o shape m (count + length is) (n + 1)
  row_kept shape l m count n is k few r =
      let last : Stage Shape Op = Exchanged shape m (count + length is) in
      let e = (turned o shape is l count last r).0 in
      let same : m ≡ after_exchanges l is =
      same_list shape m (after_exchanges l is) (count + length is) (count + length is) e in
      let long : length m ≡ length l =
      ap (λ (w : List (Item Op)). length w) same ∙ length-after l is in
      record {
        allowed = exchanged_sound o shape is l count last k.allowed r;
        ranged = subst (λ (w : List (Item Op)). AllRanged o (ops w)) (sym same)
            (all_ranged o is l k.ranged);
        short = omega (arith, long, k.short);
        few = omega (arith, few, k.few);
      }
