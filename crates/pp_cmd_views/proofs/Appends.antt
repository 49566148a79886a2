-- Pieces that are added to a text in turn.
use Rattle.std.proofs.Common.{◌≡◌, List, ◌++◌, ◌∙◌, ap, append_assoc}

module _ {A : Type 0} (text : List A) where
  -- Two pieces that are added one after the other are one piece.
  pub two : (x y a b : List A) → x ≡ text ++ a → y ≡ x ++ b → y ≡ text ++ (a ++ b)
  two x y a b p q = q ∙ ap (λ (l : List A). l ++ b) p ∙ append_assoc text a b

  -- Three pieces that are added to a text in turn are added to it as one.
  pub three : (x y z a b c : List A) → x ≡ text ++ a → y ≡ x ++ b → z ≡ y ++ c → z ≡ text ++ (a ++ b ++ c)
  three x y z a b c p q r = two y z (a ++ b) c (two x y a b p q) r

  -- Four pieces that are added to a text in turn are added to it as one.
  pub four : (w x y z a b c d : List A) → w ≡ text ++ a → x ≡ w ++ b → y ≡ x ++ c → z ≡ y ++ d → z ≡ text ++ (a ++ b ++ c ++ d)
  four w x y z a b c d p q r s = two y z (a ++ b ++ c) d (three w x y a b c p q r) s
