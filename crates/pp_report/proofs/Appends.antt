-- Pieces that are added to a text in turn.
use Rattle.std.proofs.Common.{◌≡◌, List, ◌++◌, ◌∙◌, ap, append_assoc}

module _ {A : Type 0} (text : List A) where
  -- two pieces that are added in turn are one
  two : (x y a b : List A) → x ≡ text ++ a → y ≡ x ++ b → y ≡ text ++ (a ++ b)
  two x y a b p q = q ∙ ap (λ (l : List A). l ++ b) p ∙ append_assoc text a b

  -- Five pieces that are added to a text in turn add all of them, one after another.
  pub five : (v w x y z a b c d e : List A) → v ≡ text ++ a → w ≡ v ++ b → x ≡ w ++ c → y ≡ x ++ d → z ≡ y ++ e
      → z ≡ text ++ (a ++ b ++ c ++ d ++ e)
  five v w x y z a b c d e p q r s t = two y z (a ++ b ++ c ++ d) e (two x y (a ++ b ++ c) d (two w x (a ++ b) c (two v w a b p q) r) s) t
