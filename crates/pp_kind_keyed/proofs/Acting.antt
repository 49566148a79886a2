-- Proof machinery: what operations on keys do one after another.
use Rattle.std.proofs.Common.{◌≡◌, ℤ, int_eq, Bool, true, false, cond, if◌then◌else◌, List, [], ◌∷◌}
use Rattle.std.proofs.Common.{◌++◌, ◌↔◌, refl, sym, ◌∙◌, ap, subst}
use Rattle.pp_kind.specs.Object.{Object, IsLegal, IsAllowed, state_after, Commutes}
use Rattle.pp_kind.proofs.Lists.{allowed_is_state, allowed-append, allowed-second}
use Rattle.pp_kind_keyed.specs.Keys.{Keys, ToldKeys, IsKeyed, TurnsAt, may_swap, Shows, rule_lets}
use Rattle.pp_kind_keyed.specs.Keys.{told_keys}
use Rattle.pp_kind_keyed.proofs.Rule.{same_key, key_is, other_key, turned_cells, lets_turned}
use Rattle.pp_kind_keyed.proofs.Rule.{refused_follows, refused_turned}

module _ {State Op Undo Cell : Type 0} (o : Object (Unit {0}) State Op Undo)
    (k : Keys State Op Cell) (acts : IsKeyed o k) where
  -- The cell at its key after an operation is the one that the operation leaves.
  pub left_here : (s : State) (a : Op) (q : ℤ) → q ≡ k.key a → IsLegal o s a
      → k.cell (o.next s a) q ≡ k.left a (k.cell s q)
  left_here s a q e h = acts.next_cell s a q h
      ∙ ap (λ (b : Bool). cond b (k.left a (k.cell s q)) (k.cell s q)) (key_is q (k.key a) e)

  -- A legal operation leaves what is at other keys.
  pub left_elsewhere : (s : State) (a : Op) (q : ℤ) → int_eq q (k.key a) ≡ false → IsLegal o s a
      → k.cell (o.next s a) q ≡ k.cell s q
  left_elsewhere s a q e h = acts.next_cell s a q h
      ∙ ap (λ (b : Bool). cond b (k.left a (k.cell s q)) (k.cell s q)) e

  -- two legal operations, in either order
  abbrev put : Op → ℤ → Cell → Cell
  put a q c = cond (int_eq q (k.key a)) (k.left a c) c

  both_left : (s : State) (a b : Op) (q : ℤ) → IsLegal o s a → IsLegal o (o.next s a) b
      → k.cell (o.next (o.next s a) b) q ≡ put b q (put a q (k.cell s q))
  both_left s a b q h g = acts.next_cell (o.next s a) b q g ∙ ap (put b q) (acts.next_cell s a q h)

  same_left : (s : State) (a b : Op) → o.upkeep.IsState s
      → ((q : ℤ) → q ≡ k.key a → q ≡ k.key b
      → k.left a (k.left b (k.cell s q)) ≡ k.left b (k.left a (k.cell s q)))
      → IsLegal o s a → IsLegal o (o.next s a) b → IsLegal o s b → IsLegal o (o.next s b) a
      → o.next (o.next s b) a ≡ o.next (o.next s a) b
  same_left s a b is one h g hb ga =
      acts.one_state (o.next (o.next s b) a) (o.next (o.next s a) b)
      (acts.next_is_state (o.next s b) a (acts.next_is_state s b is hb) ga)
      (acts.next_is_state (o.next s a) b (acts.next_is_state s a is h) g)
      (λ q.
      both_left s b a q hb ga
      ∙ turned_cells (int_eq q (k.key a)) (int_eq q (k.key b)) (k.left a) (k.left b) (k.cell s q)
      (λ e f. one q (same_key q (k.key a) e) (same_key q (k.key b) f))
      ∙ sym (both_left s a b q h g))

  abbrev AreLegalTurned : State → Op → Op → Type 0
  AreLegalTurned s a b = IsLegal o s b × IsLegal o (o.next s b) a
      × (o.next (o.next s b) a ≡ o.next (o.next s a) b)

  -- operations on different keys
  apart : (s : State) (a b : Op) → o.upkeep.IsState s → int_eq (k.key a) (k.key b) ≡ false
      → IsLegal o s a → IsLegal o (o.next s a) b → AreLegalTurned s a b
  apart s a b is e h g =
      let hb : IsLegal o s b = (acts.legal s b).1
      (subst (k.Finds b) (left_elsewhere s a (k.key b) (other_key (k.key a) (k.key b) e) h)
      ((acts.legal (o.next s a) b).0 g)) in
      let ga : IsLegal o (o.next s b) a =
      (acts.legal (o.next s b) a).1
      (subst (k.Finds a) (sym (left_elsewhere s b (k.key a) e hb)) ((acts.legal s a).0 h))
      in (
        hb,
        ga,
        same_left s a b is (λ q x y. let f = key_is (k.key a) (k.key b) (sym x ∙ y) in
            absurd (let g : true ≡ false = sym f ∙ e in cc)) h g hb ga,
      )

  -- operations on one key whose cells turn
  together : (s : State) (a b : Op) → o.upkeep.IsState s → k.key a ≡ k.key b
      → ((c : Cell) → TurnsAt k a b c) → IsLegal o s a → IsLegal o (o.next s a) b → AreLegalTurned s a b
  together s a b is e turns h g =
      let turned = turns (k.cell s (k.key b))
      (subst (λ (q : ℤ). k.Finds a (k.cell s q)) e ((acts.legal s a).0 h))
      (subst (k.Finds b) (left_here s a (k.key b) (sym e) h) ((acts.legal (o.next s a) b).0 g)) in
      let hb : IsLegal o s b = (acts.legal s b).1 turned.0 in
      let there : k.Finds a (k.cell (o.next s b) (k.key b)) =
      subst (k.Finds a) (sym (left_here s b (k.key b) refl hb)) turned.1 in
      let ga : IsLegal o (o.next s b) a = (acts.legal (o.next s b) a).1
      (subst (λ (q : ℤ). k.Finds a (k.cell (o.next s b) q)) (sym e) there) in
      let Same : ℤ → Type 0 =
      λ q. k.left a (k.left b (k.cell s q)) ≡ k.left b (k.left a (k.cell s q)) in
      (hb, ga, same_left s a b is (λ q x y. subst Same (sym y) turned.2) h g hb ga)

  turned_by : (lets : Op → Op → Bool)
      → ((a b : Op) → lets a b ≡ true → (c : Cell) → TurnsAt k a b c) → (t : Bool) (s : State)
      (a b : Op) → int_eq (k.key a) (k.key b) ≡ t → (if t then lets a b else true) ≡ true
      → o.upkeep.IsState s → IsLegal o s a → IsLegal o (o.next s a) b → AreLegalTurned s a b
  turned_by lets turns true s a b e r is h g =
      together s a b is (same_key (k.key a) (k.key b) e) (turns a b r) h g
  turned_by lets turns false s a b e r is h g = apart s a b is e h g

  -- Operations that swap by the test commute, if each cell turns for each pair that swaps by it.
  pub may_swap_commutes : (lets : Op → Op → Bool)
      → ((a b : Op) → lets a b ≡ true → (c : Cell) → TurnsAt k a b c) → (a b : Op)
      → may_swap k lets a b ≡ true → Commutes o a b
  may_swap_commutes lets turns a b r shape before allowed h g =
      turned_by lets turns (int_eq (k.key a) (k.key b)) (state_after o shape before) a b refl r
      (allowed_is_state o (o.start shape) before acts.next_is_state acts.start_is_state allowed) h g

  -- operations that show that a pair does not swap do so
  pub shown_allowed : (a b : Op) (before after : List Op) → k.key a ≡ k.key b
      → Shows o k a b before after → IsAllowed o tt (before ++ (a ∷ b ∷ after))
  shown_allowed a b before after e w =
      let s = state_after o tt before in
      let first : IsLegal o s a = (acts.legal s a).1 (subst (k.Finds a) (sym w.stands) w.finds) in
      let here : k.cell (o.next s a) (k.key a) ≡ k.left a w.cell =
      left_here s a (k.key a) refl first ∙ ap (k.left a) w.stands in
      let second : IsLegal o (o.next s a) b =
      (acts.legal (o.next s a) b).1
      (subst (k.Finds b) (sym (ap (k.cell (o.next s a)) (sym e) ∙ here)) w.follows) in
      allowed-append o (o.start tt) before (a ∷ b ∷ after) w.allowed (
        first,
        (
          second,
          w.goes_on (o.next (o.next s a) b)
              (left_here (o.next s a) b (k.key a) e second ∙ ap (k.left b) here),
        ),
      )

  -- The lists that show that a pair does not swap are not allowed with the pair turned.
  pub shown_stops : (a b : Op) (before after : List Op) → k.key a ≡ k.key b
      → Shows o k a b before after → IsAllowed o tt (before ++ (b ∷ a ∷ after)) → ⊥
  shown_stops a b before after e w h =
      let s = state_after o tt before in
      let rest = allowed-second o (o.start tt) before (b ∷ a ∷ after) h in
      let here : k.cell (o.next s b) (k.key a) ≡ k.left b w.cell =
      left_here s b (k.key a) e rest.0 ∙ ap (k.left b) w.stands in
      let first = subst (k.Finds b) (ap (k.cell s) (sym e) ∙ w.stands)
      ((acts.legal s b).0 rest.0) in
      let second = subst (k.Finds a) here ((acts.legal (o.next s b) a).0 rest.1.0) in
      w.stops first second (o.next (o.next s b) a)
      (left_here (o.next s b) a (k.key a) refl rest.1.0 ∙ ap (k.left a) here) rest.1.1

-- If each operation shows what it found, the rule says which cells turn.
module _ {State Op Undo Cell : Type 0} (o : Object (Unit {0}) State Op Undo)
    (k : ToldKeys State Op Cell) (alike_is : (c d : Cell) → (k.alike c d ≡ true) ↔ (c ≡ d)) where
  -- Two operations that swap by the rule turn each cell at their key.
  pub rule_turns : (a b : Op) → rule_lets k a b ≡ true → (c : Cell) → TurnsAt (told_keys k) a b c
  rule_turns a b r c h g =
      let one = lets_turned k.alike alike_is (k.found a) (k.left a) (k.found b) (k.left b) r g in
      (h ∙ one.2, one.1, one.0)

  -- The operations that lead to such a cell show, for each pair that the rule does not allow to swap, that it does not swap.
  pub rule_shows : (a b : Op) (before : List Op) → rule_lets k a b ≡ false → IsAllowed o tt before
      → k.cell (state_after o tt before) (k.key a) ≡ k.found a
      → Shows o (told_keys k) a b before []
  rule_shows a b before r allowed stands = record {
    cell = k.found a;
    allowed = allowed;
    stands = stands;
    finds = refl;
    follows = refused_follows k.alike alike_is (k.found a) (k.left a) (k.found b) (k.left b) r;
    goes_on = λ s h. tt;
    stops = λ h g s f l.
        refused_turned k.alike alike_is (k.found a) (k.left a) (k.found b) (k.left b) r h g;
  }
