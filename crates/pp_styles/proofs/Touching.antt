-- An object is touched from a position of a local log on where a next entry on it is found.
use Rattle.std.proofs.Common.{◌≡◌, ◌≤◌, ℕ, zero, suc, Bool, true, false, ◌==◌, ◌||◌, List, []}
use Rattle.std.proofs.Common.{◌∷◌, drop, Option, None, Some, IfNone, IfSome, is_some, refl, sym, ap, ◌∙◌}
use Rattle.std.proofs.Common.{arith, inl, inr}
use Rattle.std.specs.List.{slice_get}
use Rattle.std.proofs.lemmas.Bool.{eq-eqb}
use Rattle.std.proofs.lemmas.Bool.Decides.{eqb_tells}
use Rattle.std.proofs.lemmas.Option.{same_Some}
use Rattle.pp_records.specs.Expansions.{touches}
use Rattle.pp_log.specs.Logs.{IsFirstFrom, IsOn, NoneFrom}
use Rattle.pp_model.specs.Config.{LocalEntry, item}

differs : (n m : ℕ) → (n ≡ m → ⊥) → (n == m) ≡ false
differs n m other = elim (eqb_tells n m) [
  | inl same ↦ absurd (other same.1)
  | inr none ↦ none.0
]

either : (b : Bool) → (b || true) ≡ true
either true = refl
either false = refl

module _ {Op : Type 0} (place : Op → ℕ) (o : ℕ) where
  untouched : (l : List (LocalEntry Op)) (from : ℕ) → NoneFrom (IsOn place item o) l from → touches place o (drop from l) ≡ false
  untouched [] zero none = refl
  untouched [] (suc from) none = refl
  untouched (e ∷ l) zero none =
      ap (λ (b : Bool). b || touches place o l) (differs (place e.op) o (none 0 e (omega arith) refl))
      ∙ untouched l 0 (λ j f from_on there. none (suc j) f (omega arith) there)
  untouched (e ∷ l) (suc from) none = untouched l from (λ j f from_on there. none (suc j) f (omega arith) there)

  touched : (l : List (LocalEntry Op)) (from k : ℕ) (e : LocalEntry Op) → slice_get l k ≡ Some e → from ≤ k → place e.op ≡ o → touches place o (drop from l) ≡ true
  touched [] from k e there le on = absurd (cc)
  touched (f ∷ l) zero zero e there le on =
      ap (λ (b : Bool). b || touches place o l) (eq-eqb (place f.op) o (ap (λ (g : LocalEntry Op). place g.op) (same_Some f e there) ∙ on))
  touched (f ∷ l) zero (suc k) e there le on =
      ap (λ (b : Bool). (place f.op == o) || b) (touched l 0 k e there (omega arith) on) ∙ either (place f.op == o)
  touched (f ∷ l) (suc from) zero e there le on = absurd (omega arith)
  touched (f ∷ l) (suc from) (suc k) e there le on = touched l from k e there (omega arith) on

  -- An object is touched from a position on exactly if a next entry on it is found.
  pub found_touches : (l : List (LocalEntry Op)) (from : ℕ) (r : Option ℕ) → IfSome r (IsFirstFrom (IsOn place item o) l from) → IfNone r (NoneFrom (IsOn place item o) l from) →
      is_some r ≡ touches place o (drop from l)
  found_touches l from None some none = sym (untouched l from none)
  found_touches l from (Some k) some none = sym (touched l from k some.entry some.is some.behind some.holds)
