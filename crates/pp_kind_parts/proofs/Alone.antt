-- Lists of operations whose parts do not depend on one another.
use Rattle.std.specs.Prelude.{◌≡◌, ◌≢◌, ℕ, Bool, true, false, cond, List, [], ◌∷◌, ◌++◌, ◌&&◌, ℤ, nat_eq, filter}
use Rattle.std.specs.Ordering.{int_eq}
use Rattle.std.proofs.lemmas.Bool.{and_parts}
use Rattle.std.proofs.lemmas.Bool.Decides.{Decides-eqb, Decides-int_eq}
use Rattle.std.proofs.Common.{refl, sym, ap, subst, ◌∙◌, inl, inr, append_assoc, append-nil}
use Rattle.pp_model.specs.Lists.{In}
use Rattle.pp_model.proofs.Lists.{from_filter, in_cases}
use Rattle.pp_kind.specs.Object.{IsAllowed, IsLegal, Object, state_after}
use Rattle.pp_kind.specs.Parts.{PartsSwap}
use Rattle.pp_kind.specs.declared.part.Part.{Part}
use Rattle.pp_kind.proofs.Lists.{allowed-first, allowed-second, last_is_legal, one_more, state_one_more}
use Rattle.pp_kind_parts.specs.Alone.{PartsStandAlone, same_part}

-- Parts that the test finds equal are one.
pub same_part_is : (p q : Part) → same_part p q ≡ true → p ≡ q
same_part_is p q h =
    let both = and_parts (nat_eq p.object q.object) (int_eq p.key q.key) h in
    let object : p.object ≡ q.object = (Decides-eqb p.object q.object).0 both.0 in
    let key : p.key ≡ q.key = (Decides-int_eq p.key q.key).0 both.1 in
    ap (λ (n : ℕ). record { object = n; key = p.key }) object
    ∙ ap (λ (k : ℤ). record { object = q.object; key = k }) key

-- The test finds a part equal to itself.
pub same_part_own : (p : Part) → same_part p p ≡ true
same_part_own p =
    ap (λ (b : Bool). b && int_eq p.key p.key) ((Decides-eqb p.object p.object).1 refl)
    ∙ (Decides-int_eq p.key p.key).1 refl

-- An operation of the part of a third and one that is not of it have two parts.
pub parts_told : {Op : Type 0} (part_of : Op → Part) (op a b : Op) → same_part (part_of a) (part_of op) ≡ false → same_part (part_of b) (part_of op) ≡ true → part_of a ≢ part_of b
parts_told part_of op a b off on e =
    let same : part_of a ≡ part_of op = e ∙ same_part_is (part_of b) (part_of op) on in
    let z : true ≡ false = sym (same_part_own (part_of op)) ∙ ap (λ (p : Part). same_part p (part_of op)) (sym same) ∙ off in
    cc

module _ {Shape State Op Undo : Type 0} (o : Object Shape State Op Undo) (place_of : Op → ℕ) (part_of : Op → Part) (swap : PartsSwap o part_of) (alone : PartsStandAlone o place_of part_of) (sh : Shape) where
  -- each operation of the list has another part than a
  abbrev pub AllOther : Op → List Op → Type 0
  AllOther a l = (b : Op) → In b l → part_of a ≢ part_of b

  -- one more of the list before what comes
  abbrev P : List Op → Type 0
  P = IsAllowed o sh

  -- If an operation is allowed, and so are others of other parts, it is allowed before them.
  pub allowed_before : (x : List Op) (a : Op) (y : List Op) → AllOther a y → P (x ++ a ∷ []) → P (x ++ y) → P (x ++ a ∷ y)
  allowed_before x a [] other h k = h
  allowed_before x a (b ∷ y) other h k =
      let s = state_after o sh x in
      let legal_a : IsLegal o s a = last_is_legal o sh s x a refl h in
      let legal_b : IsLegal o s b = (allowed-second o (o.start sh) x (b ∷ y) k).0 in
      let apart : part_of b ≢ part_of a = λ e. other b (inl refl) (sym e) in
      let with_b : P (x ++ b ∷ []) = one_more o sh s x b refl (allowed-first o (o.start sh) x (b ∷ y) k) legal_b in
      let with_ba : P ((x ++ b ∷ []) ++ a ∷ []) = one_more o sh (o.next s b) (x ++ b ∷ []) a (state_one_more o sh s x b refl) with_b (alone.legal s b a apart legal_b legal_a) in
      let behind = allowed_before (x ++ b ∷ []) a y (λ c i. other c (inr i)) with_ba (subst P (sym (append_assoc x (b ∷ []) y)) k) in
      (swap b a apart sh).always x y (subst P (append_assoc x (b ∷ []) (a ∷ y)) behind)

  -- Two lists that have no part in common are allowed one after the other if each is.
  pub allowed_both : (x l y : List Op) → ((a : Op) → In a l → AllOther a y) → P (x ++ l) → P (x ++ y) → P (x ++ (l ++ y))
  allowed_both x [] y other h k = k
  allowed_both x (a ∷ l) y other h k =
      let h_a : P ((x ++ a ∷ []) ++ l) = subst P (sym (append_assoc x (a ∷ []) l)) h in
      let with_a : P (x ++ a ∷ []) = allowed-first o (o.start sh) (x ++ a ∷ []) l h_a in
      let k_a = allowed_before x a y (other a (inl refl)) with_a k in
      subst P (append_assoc x (a ∷ []) (l ++ y))
      (allowed_both (x ++ a ∷ []) l y (λ c i. other c (inr i)) h_a (subst P (sym (append_assoc x (a ∷ []) y)) k_a))

  -- An operation is taken out before operations of other parts.
  pub allowed_without : (x : List Op) (a : Op) (y : List Op) → AllOther a y → P (x ++ a ∷ y) → P (x ++ y)
  allowed_without x a [] other h = subst P (sym (append-nil x)) (allowed-first o (o.start sh) x (a ∷ []) h)
  allowed_without x a (b ∷ y) other h =
      let turned : P (x ++ (b ∷ a ∷ y)) = (swap a b (other b (inl refl)) sh).always x y h in
      subst P (append_assoc x (b ∷ []) y)
      (allowed_without (x ++ b ∷ []) a y (λ c i. other c (inr i)) (subst P (sym (append_assoc x (b ∷ []) (a ∷ y))) turned))

  -- A test that tells parts apart: what passes has another part than what does not.
  abbrev pub TellsParts : (Op → Bool) → Type 0
  TellsParts t = (a b : Op) → t a ≡ false → t b ≡ true → part_of a ≢ part_of b

  module _ (t : Op → Bool) (tells : TellsParts t) where
    passing : (a : Op) (l : List Op) → In a (filter t l) → t a ≡ true
    passing a l i = (from_filter t a l i).1

    -- The operations of an allowed list that pass are allowed without the others.
    pub allowed_passing : (x l : List Op) → P (x ++ l) → P (x ++ filter t l)
    allowed_passing x [] h = h
    allowed_passing x (a ∷ l) h = by (t a) refl (allowed_passing (x ++ a ∷ []) l (subst P (sym (append_assoc x (a ∷ []) l)) h))
      where
        by : (c : Bool) → t a ≡ c → P ((x ++ a ∷ []) ++ filter t l) → P (x ++ cond c (a ∷ filter t l) (filter t l))
        by true e k = subst P (append_assoc x (a ∷ []) (filter t l)) k
        by false e k = allowed_without x a (filter t l) (λ b i. tells a b e (passing b l i)) (subst P (append_assoc x (a ∷ []) (filter t l)) k)

    -- Operations that pass are allowed after an allowed list if they are after those that pass.
    pub allowed_after : (x l y : List Op) → ((b : Op) → In b y → t b ≡ true) → P (x ++ l) → P (x ++ (filter t l ++ y)) → P (x ++ (l ++ y))
    allowed_after x [] y pass h k = k
    allowed_after x (a ∷ l) y pass h k =
        subst P (append_assoc x (a ∷ []) (l ++ y))
        (allowed_after (x ++ a ∷ []) l y pass h_a (by (t a) refl k))
      where
        h_a : P ((x ++ a ∷ []) ++ l)
        h_a = subst P (sym (append_assoc x (a ∷ []) l)) h

        passes : (b : Op) → In b (filter t l ++ y) → t b ≡ true
        passes b i = elim (in_cases b (filter t l) y i) [ inl j ↦ passing b l j | inr j ↦ pass b j ]

        by : (c : Bool) → t a ≡ c → P (x ++ (cond c (a ∷ filter t l) (filter t l) ++ y)) → P ((x ++ a ∷ []) ++ (filter t l ++ y))
        by true e k = subst P (sym (append_assoc x (a ∷ []) (filter t l ++ y))) k
        by false e k =
            subst P (sym (append_assoc x (a ∷ []) (filter t l ++ y)))
            (allowed_before x a (filter t l ++ y) (λ b i. tells a b e (passes b i)) (allowed-first o (o.start sh) (x ++ a ∷ []) l h_a) k)
