-- One pass over a body finds the set after a call.
use Rattle.std.proofs.Common.{◌≡◌, ℕ, ◌+◌, Bool, true, false, ◌&&◌, ◌||◌, cond, bit_or, max, refl}
use Rattle.std.proofs.Common.{ap, sym, ◌∙◌, arith}
use Rattle.std.specs.Int.{bit_at}
use Rattle.std.specs.Int.Bits.{or_zero_l, or_zero_r}
use Rattle.std.proofs.lemmas.Nat.Bits.{same_from_bits, bit_at_or}
use Rattle.pp_core.specs.Trees.{Tree, Trees, Skip, One, Seq, Alt, Star, NoPart, Part, nodes}
use Rattle.pp_model.specs.Body.{Call}
use Rattle.pp_body.specs.declared.moving.Moves.{Moves}
use Rattle.pp_body.specs.Patterns.{matches}
use Rattle.pp_body.specs.Positions.{has, reaches, reaches_in_turn, reaches_some, shift}
use Rattle.pp_body.specs.Positions.{shift_in_turn, shift_some}
use Rattle.pp_body.specs.Moves.{when, after, ends, passing, nowhere, first_then, either, moves}
use Rattle.pp_body.specs.Moves.{moves_in_turn, moves_of_some}

-- sets
max_assoc : (a b c : ℕ) → max (max a b) c ≡ max a (max b c)
max_assoc a b c = omega arith

max_twice : (a f n r : ℕ) → max (max a f) (max n r) ≡ max (max a (max n r)) (max f r)
max_twice a f n r = omega arith

max_swap : (a f n r : ℕ) → max (max a f) (max n r) ≡ max (max a n) (max f r)
max_swap a f n r = omega arith

max_self : (a : ℕ) → max a a ≡ a
max_self a = omega arith

or_assoc : (a b c : ℕ) → bit_or (bit_or a b) c ≡ bit_or a (bit_or b c)
or_assoc a b c =
    same_from_bits _ _ (λ i.
    rw (bit_at_or (bit_or a b) c i, bit_at_or a (bit_or b c) i, bit_at_or a b i, bit_at_or b c i) (max_assoc (bit_at a i) (bit_at b i) (bit_at c i)))

or_twice : (a f n r : ℕ) → bit_or (bit_or a f) (bit_or n r) ≡ bit_or (bit_or a (bit_or n r)) (bit_or f r)
or_twice a f n r =
    same_from_bits _ _ (λ i.
    rw (bit_at_or (bit_or a f) (bit_or n r) i, bit_at_or (bit_or a (bit_or n r)) (bit_or f r) i, bit_at_or a (bit_or n r) i, bit_at_or a f i, bit_at_or n r i, bit_at_or f r i)
    (max_twice (bit_at a i) (bit_at f i) (bit_at n i) (bit_at r i)))

or_swap : (a f n r : ℕ) → bit_or (bit_or a f) (bit_or n r) ≡ bit_or (bit_or a n) (bit_or f r)
or_swap a f n r =
    same_from_bits _ _ (λ i.
    rw (bit_at_or (bit_or a f) (bit_or n r) i, bit_at_or (bit_or a n) (bit_or f r) i, bit_at_or a f i, bit_at_or a n i, bit_at_or n r i, bit_at_or f r i)
    (max_swap (bit_at a i) (bit_at f i) (bit_at n i) (bit_at r i)))

or_self : (a : ℕ) → bit_or a a ≡ a
or_self a = same_from_bits _ _ (λ i. rw (bit_at_or a a i) (max_self (bit_at a i)))

none_more : (a f n : ℕ) → bit_or (bit_or a f) n ≡ bit_or (bit_or a n) (bit_or f 0)
none_more a f n = ap (λ (x : ℕ). bit_or (bit_or a f) x) (sym (or_zero_r n)) ∙ or_swap a f n 0

not_entered : (a n : ℕ) → bit_or (bit_or a 0) n ≡ bit_or (bit_or a n) 0
not_entered a n = ap (λ (x : ℕ). bit_or x n) (or_zero_r a) ∙ sym (or_zero_r (bit_or a n))

-- parts in turn, entered or not
turn_set : (m e s : Bool) (a f n r : ℕ) → bit_or (bit_or a (when m f)) (bit_or n (when (e || (m && s)) r)) ≡ bit_or (bit_or a (bit_or n (when e r))) (when m (bit_or f (when s r)))
turn_set true true true a f n r = or_twice a f n r
turn_set true true false a f n r = none_more a f (bit_or n r)
turn_set true false true a f n r = or_swap a f n r ∙ ap (λ (x : ℕ). bit_or (bit_or a x) (bit_or f r)) (sym (or_zero_r n))
turn_set true false false a f n r = none_more a f (bit_or n 0)
turn_set false true s a f n r = not_entered a (bit_or n r)
turn_set false false s a f n r = not_entered a (bit_or n 0)

turn_end : (m e s f k : Bool) → (f || ((e || (m && s)) && k)) ≡ ((f || (e && k)) || (m && (s && k)))
turn_end m e s true k = refl
turn_end m true s false true = refl
turn_end true true true false false = refl
turn_end true true false false false = refl
turn_end false true s false false = refl
turn_end true false s false k = refl
turn_end false false s false k = refl

-- one part or the other, entered or not
some_set : (m : Bool) (a f n r : ℕ) → bit_or (bit_or a (when m f)) (bit_or n (when m r)) ≡ bit_or (bit_or a n) (when m (bit_or f r))
some_set true a f n r = or_swap a f n r
some_set false a f n r = or_swap a 0 n 0

some_end : (m e s f k : Bool) → ((e || (m && s)) || (f || (m && k))) ≡ ((e || f) || (m && (s || k)))
some_end m true s f k = refl
some_end true false true true k = refl
some_end true false true false k = refl
some_end true false false f k = refl
some_end false false s true k = refl
some_end false false s false k = refl

-- a part again and again, entered or not
star_set : (m e : Bool) (a f : ℕ) → bit_or a (when (m || (e || false)) f) ≡ bit_or (bit_or a (when e f)) (when m f)
star_set true true a f = ap (λ (x : ℕ). bit_or a x) (sym (or_self f)) ∙ sym (or_assoc a f f)
star_set true false a f = ap (λ (x : ℕ). bit_or x f) (sym (or_zero_r a))
star_set false true a f = sym (or_zero_r (bit_or a f))
star_set false false a f = sym (or_zero_r (bit_or a 0))

star_end : (m e : Bool) → (m || (e || false)) ≡ (e || (m && true))
star_end true true = refl
star_end true false = refl
star_end false true = refl
star_end false false = refl

skip_end : (m : Bool) → m ≡ (m && true)
skip_end true = refl
skip_end false = refl

no_end : (m : Bool) → false ≡ (m && false)
no_end true = refl
no_end false = refl

nothing_after : (m : Bool) → 0 ≡ bit_or 0 (when m 0)
nothing_after true = refl
nothing_after false = refl

one_after : (m t : Bool) (s : ℕ) → cond (m && t) s 0 ≡ bit_or 0 (when m (when t s))
one_after true t s = sym (or_zero_l _)
one_after false t s = refl

one_end : (m h : Bool) → (h || false) ≡ (h || (m && false))
one_end true h = refl
one_end false h = refl

-- the same as `reaches` and `shift`
mutual
  ended_is : (b : Tree) (at set : ℕ) (m : Bool) (c : Call) → reaches false b at set m ≡ ends m (moves b at set c)
  ended_is Skip at set m c = skip_end m
  ended_is (One p) at set m c = one_end m (has set at)
  ended_is (Seq bs) at set m c = ended_in_turn bs at set m c
  ended_is (Alt bs) at set m c = ended_by_some bs at set m c
  ended_is (Star b) at set m c = ap (λ (e : Bool). m || e) (ended_is b at set false c) ∙ star_end m (moves b at set c).ended

  ended_in_turn : (bs : Trees) (at set : ℕ) (m : Bool) (c : Call) → reaches_in_turn false bs at set m ≡ ends m (moves_in_turn bs at set c)
  ended_in_turn NoPart at set m c = skip_end m
  ended_in_turn (Part b bs) at set m c =
      let a = moves b at set c in
      let r = moves_in_turn bs (at + nodes b) set c in
      ended_in_turn bs (at + nodes b) set (reaches false b at set m) c ∙ ap (λ (e : Bool). ends e r) (ended_is b at set m c)
      ∙ turn_end m a.ended a.skips r.ended r.skips

  ended_by_some : (bs : Trees) (at set : ℕ) (m : Bool) (c : Call) → reaches_some false bs at set m ≡ ends m (moves_of_some bs at set c)
  ended_by_some NoPart at set m c = no_end m
  ended_by_some (Part b bs) at set m c =
      let a = moves b at set c in
      let r = moves_of_some bs (at + nodes b) set c in
      ap (λ (e : Bool). e || reaches_some false bs (at + nodes b) set m) (ended_is b at set m c)
      ∙ ap (λ (e : Bool). ends m a || e) (ended_by_some bs (at + nodes b) set m c)
      ∙ some_end m a.ended a.skips r.ended r.skips

mutual
  -- The set after a call is what one pass over the body finds (`moves`).
  pub shift_is : (b : Tree) (at set : ℕ) (m : Bool) (c : Call) → shift b at set m c ≡ after m (moves b at set c)
  shift_is Skip at set m c = nothing_after m
  shift_is (One p) at set m c = one_after m (matches p c) _
  shift_is (Seq bs) at set m c = shift_in_turn_is bs at set m c
  shift_is (Alt bs) at set m c = shift_some_is bs at set m c
  shift_is (Star b) at set m c =
      let a = moves b at set c in
      ap (λ (e : Bool). shift b at set (m || e) c) (ended_is b at set false c) ∙ shift_is b at set (m || (a.ended || false)) c ∙ star_set m a.ended a.moved a.fresh

  shift_in_turn_is : (bs : Trees) (at set : ℕ) (m : Bool) (c : Call) → shift_in_turn bs at set m c ≡ after m (moves_in_turn bs at set c)
  shift_in_turn_is NoPart at set m c = nothing_after m
  shift_in_turn_is (Part b bs) at set m c =
      let a = moves b at set c in
      let r = moves_in_turn bs (at + nodes b) set c in
      ap (λ (s : ℕ). bit_or s (shift_in_turn bs (at + nodes b) set (reaches false b at set m) c)) (shift_is b at set m c)
      ∙ ap (λ (s : ℕ). bit_or (after m a) s)
      (shift_in_turn_is bs (at + nodes b) set (reaches false b at set m) c ∙ ap (λ (e : Bool). after e r) (ended_is b at set m c))
      ∙ turn_set m a.ended a.skips a.moved a.fresh r.moved r.fresh

  shift_some_is : (bs : Trees) (at set : ℕ) (m : Bool) (c : Call) → shift_some bs at set m c ≡ after m (moves_of_some bs at set c)
  shift_some_is NoPart at set m c = nothing_after m
  shift_some_is (Part b bs) at set m c =
      let a = moves b at set c in
      let r = moves_of_some bs (at + nodes b) set c in
      ap (λ (s : ℕ). bit_or s (shift_some bs (at + nodes b) set m c)) (shift_is b at set m c)
      ∙ ap (λ (s : ℕ). bit_or (after m a) s) (shift_some_is bs (at + nodes b) set m c) ∙ some_set m a.moved a.fresh r.moved r.fresh

-- moves in parts, one after another
fresh_again : (s t : Bool) (a b c : ℕ) → bit_or (bit_or a (when s b)) (when (s && t) c) ≡ bit_or a (when s (bit_or b (when t c)))
fresh_again true t a b c = or_assoc a b (when t c)
fresh_again false t a b c = or_zero_r (bit_or a 0)

and_assoc : (a b c : Bool) → ((a && b) && c) ≡ (a && (b && c))
and_assoc true b c = refl
and_assoc false b c = refl

or_or : (a b c : Bool) → ((a || b) || c) ≡ (a || (b || c))
or_or true b c = refl
or_or false b c = refl

or_nothing : (e : Bool) → (e || false) ≡ e
or_nothing true = refl
or_nothing false = refl

and_all : (e : Bool) → (e && true) ≡ e
and_all true = refl
and_all false = refl

same_moves : (a b : Moves) → a.moved ≡ b.moved → a.fresh ≡ b.fresh → a.ended ≡ b.ended → a.skips ≡ b.skips → a ≡ b
same_moves a b m f e s =
    ap (λ (x : ℕ). record { moved = x; fresh = a.fresh; ended = a.ended; skips = a.skips }) m ∙ ap (λ (x : ℕ). record { moved = b.moved; fresh = x; ended = a.ended; skips = a.skips }) f
    ∙ ap (λ (x : Bool). record { moved = b.moved; fresh = b.fresh; ended = x; skips = a.skips }) e ∙ ap (λ (x : Bool). record { moved = b.moved; fresh = b.fresh; ended = b.ended; skips = x }) s

-- To join moves in turn is associative.
pub then_then : (t a r : Moves) → first_then (first_then t a) r ≡ first_then t (first_then a r)
then_then t a r =
    same_moves _ _
    (or_assoc t.moved (after t.ended a) (after (ends t.ended a) r) ∙ ap (λ (s : ℕ). bit_or t.moved s) (turn_set t.ended a.ended a.skips a.moved a.fresh r.moved r.fresh))
    (fresh_again t.skips a.skips t.fresh a.fresh r.fresh) (turn_end t.ended a.ended a.skips r.ended r.skips) (and_assoc t.skips a.skips r.skips)

-- To join moves of alternatives is associative.
pub either_either : (t a r : Moves) → either (either t a) r ≡ either t (either a r)
either_either t a r =
    same_moves _ _ (or_assoc t.moved a.moved r.moved) (or_assoc t.fresh a.fresh r.fresh) (or_or t.ended a.ended r.ended) (or_or t.skips a.skips r.skips)

no_fresh : (e : Bool) (s : ℕ) → bit_or s (when e 0) ≡ s
no_fresh true s = or_zero_r s
no_fresh false s = or_zero_r s

-- A part with only the empty word changes nothing after other moves.
pub then_passing : (t : Moves) → first_then t passing ≡ t
then_passing t =
    same_moves _ _ (ap (λ (s : ℕ). bit_or t.moved s) (sym (nothing_after t.ended)) ∙ or_zero_r t.moved) (no_fresh t.skips t.fresh) (and_all t.ended) (and_all t.skips)

-- An alternative with no word changes nothing.
pub either_nowhere : (t : Moves) → either t nowhere ≡ t
either_nowhere t = same_moves _ _ (or_zero_r t.moved) (or_zero_r t.fresh) (or_nothing t.ended) (or_nothing t.skips)

-- A part with only the empty word changes nothing before other moves.
pub passing_then : (t : Moves) → first_then passing t ≡ t
passing_then t = same_moves _ _ (or_zero_l _ ∙ or_zero_r t.moved) (or_zero_l t.fresh) (or_nothing t.ended) refl
