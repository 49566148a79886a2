-- Proof machinery: states that differ at a key, before and after an operation.
use Rattle.std.proofs.Common.{◌≡◌, ℤ, int_eq, Bool, true, false, cond, refl, sym, ◌∙◌, ap, subst}
use Rattle.pp_kind.specs.Object.{Object, IsLegal}
use Rattle.pp_kind.specs.Gaps.{StaysApart, Meets}
use Rattle.pp_kind_keyed.specs.Keys.{Keys, IsKeyed}
use Rattle.pp_kind_keyed.specs.Gaps.{DiffersAt}
use Rattle.pp_kind_keyed.proofs.Rule.{same_key, key_is, other_key}
use Rattle.pp_kind_keyed.proofs.Acting.{left_here, left_elsewhere}

module _ {State Op Undo Cell : Type 0} (o : Object (Unit {0}) State Op Undo)
    (k : Keys State Op Cell) (acts : IsKeyed o k) where
  -- The other state has the cell of a gap at the key of the gap.
  there : (s t : State) (q p : ℤ) (c : Cell) → DiffersAt k q c s t → p ≡ q → k.cell t p ≡ c
  there s t q p c d e = d p ∙ ap (λ (b : Bool). cond b c (k.cell s p)) (key_is p q e)

  elsewhere : (s t : State) (q p : ℤ) (c : Cell) → DiffersAt k q c s t → int_eq p q ≡ false
      → k.cell t p ≡ k.cell s p
  elsewhere s t q p c d e = d p ∙ ap (λ (b : Bool). cond b c (k.cell s p)) e

  -- states that do so
  differ_by : (s t : State) (q : ℤ) (c : Cell) → k.cell t q ≡ c
      → ((p : ℤ) → int_eq p q ≡ false → k.cell t p ≡ k.cell s p) → DiffersAt k q c s t
  differ_by s t q c here others p = by (int_eq p q) refl
    where
      by : (b : Bool) → int_eq p q ≡ b → k.cell t p ≡ cond b c (k.cell s p)
      by true e = ap (k.cell t) (same_key p q e) ∙ here
      by false e = others p e

  -- The state before an operation has at its key what was there.
  pub left_apart : (s : State) (a : Op) (c : Cell) → k.cell s (k.key a) ≡ c → IsLegal o s a
      → DiffersAt k (k.key a) c (o.next s a) s
  left_apart s a c e h =
      differ_by (o.next s a) s (k.key a) c e (λ p f. sym (left_elsewhere o k acts s a p f h))

  -- one state differs so
  pub one_apart : (s t u : State) (q : ℤ) (c : Cell) → o.upkeep.IsState t → o.upkeep.IsState u
      → DiffersAt k q c s t → DiffersAt k q c s u → t ≡ u
  one_apart s t u q c it iu d e = acts.one_state t u it iu (λ p. d p ∙ sym (e p))

  -- States that differ at most at a key, and have the same cell there, are equal.
  pub none_apart : (s t : State) (q : ℤ) (c : Cell) → o.upkeep.IsState s → o.upkeep.IsState t
      → k.cell s q ≡ c → DiffersAt k q c s t → t ≡ s
  none_apart s t q c is it e d =
      one_apart s t s q c it is d (differ_by s s q c e (λ p f. refl))

  -- An operation that leaves what was at its key changes nothing.
  pub left_same : (s : State) (a : Op) → o.upkeep.IsState s
      → k.left a (k.cell s (k.key a)) ≡ k.cell s (k.key a) → IsLegal o s a → o.next s a ≡ s
  left_same s a is e h =
      sym (none_apart (o.next s a) s (k.key a) (k.cell s (k.key a)) (acts.next_is_state s a is h) is
      (left_here o k acts s a (k.key a) refl h ∙ e) (left_apart s a (k.cell s (k.key a)) refl h))

  -- an operation on another key
  pub stays_elsewhere : (q : ℤ) (c : Cell) (b : Op) (s t : State) → int_eq (k.key b) q ≡ false
      → (k.cell t (k.key b) ≡ k.cell s (k.key b) → o.upkeep.kept t b ≡ o.upkeep.kept s b)
      → IsLegal o s b → DiffersAt k q c s t → StaysApart o (DiffersAt k q c) b s t
  stays_elsewhere q c b s t e kept h d =
      let alike = elsewhere s t q (k.key b) c d e in
      let g : IsLegal o t b = (acts.legal t b).1
      (subst (k.Finds b) (sym alike) ((acts.legal s b).0 h)) in
      record {
        legal = g;
        differ = differ_by (o.next s b) (o.next t b) q c
            (left_elsewhere o k acts t b q (other_key (k.key b) q e) g ∙ there s t q q c d refl)
            (λ p f. behind g p f (int_eq p (k.key b)) refl);
        kept = kept alike;
      }
    where
      behind : IsLegal o t b → (p : ℤ) → int_eq p q ≡ false → (here : Bool)
          → int_eq p (k.key b) ≡ here → k.cell (o.next t b) p ≡ k.cell (o.next s b) p
      behind g p f here r =
          acts.next_cell t b p g
          ∙ ap (λ (x : Cell). cond (int_eq p (k.key b)) (k.left b x) x) (elsewhere s t q p c d f)
          ∙ sym (acts.next_cell s b p h)

  -- An operation at the key of a gap is legal in the other state, if it finds the cell there.
  legal_there : (q : ℤ) (c : Cell) (b : Op) (s t : State) → k.key b ≡ q → k.Finds b c
      → DiffersAt k q c s t → IsLegal o t b
  legal_there q c b s t e f d =
      (acts.legal t b).1 (subst (k.Finds b) (sym (there s t q (k.key b) c d e)) f)

  behind_there : (q : ℤ) (c : Cell) (b : Op) (s t : State) → k.key b ≡ q → k.Finds b c
      → IsLegal o s b → DiffersAt k q c s t
      → DiffersAt k q (k.left b c) (o.next s b) (o.next t b)
  behind_there q c b s t e f h d =
      let g = legal_there q c b s t e f d in
      differ_by (o.next s b) (o.next t b) q (k.left b c)
      (left_here o k acts t b q (sym e) g ∙ ap (k.left b) (there s t q q c d refl))
      (λ p x. let y : int_eq p (k.key b) ≡ false =
      subst (λ (r : ℤ). int_eq p r ≡ false) (sym e) x in
      left_elsewhere o k acts t b p y g ∙ elsewhere s t q p c d x
      ∙ sym (left_elsewhere o k acts s b p y h))

  -- States that differ at a key stay apart by what an operation on the key leaves there.
  pub stays_there : (q : ℤ) (c : Cell) (b : Op) (s t : State) → k.key b ≡ q → k.Finds b c
      → o.upkeep.kept t b ≡ o.upkeep.kept s b → IsLegal o s b → DiffersAt k q c s t
      → StaysApart o (DiffersAt k q (k.left b c)) b s t
  stays_there q c b s t e f kept h d = record {
    legal = legal_there q c b s t e f d;
    differ = behind_there q c b s t e f h d;
    kept = kept;
  }

  -- An operation at the key of a gap meets the gap, if the other state has there what the operation finds,
  -- and it leaves the same whatever is there.
  pub meets_there : (q : ℤ) (c : Cell) (b : Op) (u : Undo) (s t : State) → k.key b ≡ q
      → k.Finds b c → ((x : Cell) → k.left b x ≡ k.left b c)
      → (k.cell t (k.key b) ≡ c → o.upkeep.kept t b ≡ u) → o.upkeep.IsState s
      → o.upkeep.IsState t → IsLegal o s b → DiffersAt k q c s t → Meets o b u s t
  meets_there q c b u s t e f one kept is it h d =
      let g = legal_there q c b s t e f d in
      record {
        legal = g;
        same = none_apart (o.next s b) (o.next t b) q (k.left b c)
            (acts.next_is_state s b is h) (acts.next_is_state t b it g)
            (left_here o k acts s b q (sym e) h ∙ one (k.cell s q))
            (behind_there q c b s t e f h d);
        kept = kept (there s t q (k.key b) c d e);
      }
