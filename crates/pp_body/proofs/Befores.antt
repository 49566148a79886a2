-- The calls that may follow a call may follow the set after it.
use Rattle.std.proofs.Common.{◌≡◌, ℕ, ◌+◌, ◌^◌, Bool, true, false, ◌||◌, cond, List, [], ◌∷◌, ◌++◌}
use Rattle.std.proofs.Common.{bit_or, refl, sym, subst, ◌∙◌, inl, inr}
use Rattle.pp_body.specs.Patterns.{matches}
use Rattle.pp_model.specs.Body.{Tree, Trees, Skip, One, Seq, Alt, Star, NoPart, Part, Word}
use Rattle.pp_model.specs.Body.{WordInTurn, Repeats, Call, Pattern, Matches}
use Rattle.pp_core.specs.Trees.{nodes}
use Rattle.pp_model.specs.Lists.{Each, joined}
use Rattle.pp_body.specs.Positions.{has, reaches, shift, shift_in_turn, shift_some, Rest}
use Rattle.pp_body.specs.Positions.{RestInTurn, RestOfSome}
use Rattle.pp_body.proofs.Patterns.{both, or_left, or_right, means_matches}
use Rattle.pp_body.proofs.Reaches.{Goes, GoesInTurn, GoesOfSome}
use Rattle.pp_body.proofs.Shifts.{along, along_turn, along_some, in_first, in_second, single_has}
use Rattle.pp_body.proofs.Shifts.{ended}

one_before : (p : Pattern) (at : ℕ) (m : Bool) (c : Call) (v : List Call) → m ≡ true → Word (One p) (c ∷ v) → Rest (One p) at (shift (One p) at 0 m c) v
one_before p at m c v e w =
    let same : c ≡ w.0 = cc (w.1) in
    let none : v ≡ [] = cc (w.1) in
    let test = both m (matches p c) e (means_matches p c (subst (λ (d : Call). Matches p d) (sym same) w.2)) in
    (subst (λ (t : Bool). has (cond t (2 ^ at) 0) at ≡ true) (sym test) (single_has at), none)

-- a repeated word that begins with the call
star_before : (b : Tree) (at set : ℕ) (m : Bool) (c : Call) (v : List Call) (pieces : List (List Call)) → c ∷ v ≡ joined pieces
    → Each (λ u. (u ≡ [] → ⊥) × Word b u) pieces
    → ((u : List Call) → Word b (c ∷ u) → Rest b at (shift b at set m c) u)
    → Rest (Star b) at (shift b at set m c) v
star_before b at set m c v [] e each ih = absurd (cc)
star_before b at set m c v ([] ∷ pieces) e each ih = absurd (each.0.0 refl)
star_before b at set m c v ((d ∷ u) ∷ pieces) e each ih =
    let same : c ≡ d = cc in
    let left : v ≡ u ++ joined pieces = cc in
    (u, joined pieces, left, ih u (subst (λ (x : Call). Word b (x ∷ u)) (sym same) each.0.1), (pieces, refl, each.1))

star_cut : (b : Tree) (at set : ℕ) (m : Bool) (c : Call) (v u x : List Call) → c ∷ v ≡ u ++ x → Rest b at set u → Repeats (λ w. Word b w) x
    → ((w : List Call) → Goes b at set (m || reaches false b at set false) (c ∷ w) → Rest b at (shift (Star b) at set m c) w)
    → Rest (Star b) at (shift (Star b) at set m c) v
star_cut b at set m c v [] x e r reps ih =
    let enters = or_right m (reaches false b at set false) (ended b at set false [] refl (inr r)) in
    star_before b at set (m || reaches false b at set false) c v reps.0 (e ∙ reps.1) reps.2 (λ u w. ih u (inl (enters, w)))
star_cut b at set m c v (d ∷ u) x e r reps ih =
    let same : c ≡ d = cc in
    let left : v ≡ u ++ x = cc in
    (u, x, left, ih u (inr (subst (λ (y : Call). Rest b at set (y ∷ u)) (sym same) r)), reps)

turn_cut : (b : Tree) (bs : Trees) (at set : ℕ) (m : Bool) (c : Call) (v u x : List Call) → c ∷ v ≡ u ++ x → Goes b at set m u → WordInTurn bs x
    → ((w : List Call) → Goes b at set m (c ∷ w) → Rest b at (shift b at set m c) w)
    → ((w : List Call) → GoesInTurn bs (at + nodes b) set (reaches false b at set m) (c ∷ w) → RestInTurn bs (at + nodes b) (shift_in_turn bs (at + nodes b) set (reaches false b at set m) c) w)
    → RestInTurn (Part b bs) at (shift_in_turn (Part b bs) at set m c) v
turn_cut b bs at set m c v [] x e g wx ih ihs =
    let s = shift b at set m c in
    let t = shift_in_turn bs (at + nodes b) set (reaches false b at set m) c in
    inr (along_turn bs (at + nodes b) t (bit_or s t) v (λ i a l h. in_second s t i h)
    (ihs v (inl (ended b at set m [] refl g, subst (λ (w : List Call). WordInTurn bs w) (sym e) wx))))
turn_cut b bs at set m c v (d ∷ u) x e g wx ih ihs =
    let s = shift b at set m c in
    let t = shift_in_turn bs (at + nodes b) set (reaches false b at set m) c in
    let same : c ≡ d = cc in
    let left : v ≡ u ++ x = cc in
    inl (u, x, left, along b at s (bit_or s t) u (λ i a l h. in_first s t i h) (ih u (subst (λ (y : Call). Goes b at set m (y ∷ u)) (sym same) g)), wx)

mutual
  -- Calls that may follow a call in a body may follow the set after it.
  pub before : (b : Tree) (at set : ℕ) (m : Bool) (c : Call) (v : List Call) → Goes b at set m (c ∷ v) → Rest b at (shift b at set m c) v
  before Skip at set m c v (inl g) = absurd (cc (g.1))
  before Skip at set m c v (inr r) = elim r [ ]
  before (One p) at set m c v (inl g) = one_before p at m c v g.0 g.1
  before (One p) at set m c v (inr r) = absurd (cc (r.1))
  before (Seq bs) at set m c v g = before_turn bs at set m c v g
  before (Alt bs) at set m c v g = before_some bs at set m c v g
  before (Star b) at set m c v (inl g) =
      star_before b at set (m || reaches false b at set false) c v g.1.0 g.1.1 g.1.2
      (λ u w. before b at set (m || reaches false b at set false) c u (inl (or_left m (reaches false b at set false) g.0, w)))
  before (Star b) at set m c v (inr r) =
      star_cut b at set m c v r.0 r.1 r.2 r.3 r.4 (λ w g. before b at set (m || reaches false b at set false) c w g)

  -- Calls that may follow a call in parts in turn may follow the set after it.
  pub before_turn : (bs : Trees) (at set : ℕ) (m : Bool) (c : Call) (v : List Call) → GoesInTurn bs at set m (c ∷ v) → RestInTurn bs at (shift_in_turn bs at set m c) v
  before_turn NoPart at set m c v (inl g) = absurd (cc (g.1))
  before_turn NoPart at set m c v (inr r) = elim r [ ]
  before_turn (Part b bs) at set m c v (inl (e, w)) =
      turn_cut b bs at set m c v w.0 w.1 w.2 (inl (e, w.3)) w.4 (λ u g. before b at set m c u g)
      (λ u g. before_turn bs (at + nodes b) set (reaches false b at set m) c u g)
  before_turn (Part b bs) at set m c v (inr (inl w)) =
      turn_cut b bs at set m c v w.0 w.1 w.2 (inr w.3) w.4 (λ u g. before b at set m c u g)
      (λ u g. before_turn bs (at + nodes b) set (reaches false b at set m) c u g)
  before_turn (Part b bs) at set m c v (inr (inr r)) =
      let s = shift b at set m c in
      let t = shift_in_turn bs (at + nodes b) set (reaches false b at set m) c in
      inr (along_turn bs (at + nodes b) t (bit_or s t) v (λ i a l h. in_second s t i h) (before_turn bs (at + nodes b) set (reaches false b at set m) c v (inr r)))

  -- Calls that may follow a call in one of some parts may follow the set after it.
  pub before_some : (bs : Trees) (at set : ℕ) (m : Bool) (c : Call) (v : List Call) → GoesOfSome bs at set m (c ∷ v) → RestOfSome bs at (shift_some bs at set m c) v
  before_some NoPart at set m c v (inl g) = elim (g.1) [ ]
  before_some NoPart at set m c v (inr r) = elim r [ ]
  before_some (Part b bs) at set m c v (inl (e, inl w)) =
      inl (along b at (shift b at set m c) (shift_some (Part b bs) at set m c) v (λ i a l h. in_first (shift b at set m c) (shift_some bs (at + nodes b) set m c) i h) (before b at set m c v (inl (e, w))))
  before_some (Part b bs) at set m c v (inl (e, inr w)) =
      inr (along_some bs (at + nodes b) (shift_some bs (at + nodes b) set m c) (shift_some (Part b bs) at set m c) v
      (λ i a l h. in_second (shift b at set m c) (shift_some bs (at + nodes b) set m c) i h) (before_some bs (at + nodes b) set m c v (inl (e, w))))
  before_some (Part b bs) at set m c v (inr (inl r)) =
      inl (along b at (shift b at set m c) (shift_some (Part b bs) at set m c) v (λ i a l h. in_first (shift b at set m c) (shift_some bs (at + nodes b) set m c) i h) (before b at set m c v (inr r)))
  before_some (Part b bs) at set m c v (inr (inr r)) =
      inr (along_some bs (at + nodes b) (shift_some bs (at + nodes b) set m c) (shift_some (Part b bs) at set m c) v
      (λ i a l h. in_second (shift b at set m c) (shift_some bs (at + nodes b) set m c) i h) (before_some bs (at + nodes b) set m c v (inr r)))
