-- Lists of steps up to and with the first that fails.
use Rattle.std.specs.Prelude.{◌≡◌, ◌<◌, ◌≤◌, ◌+◌, ℕ, zero, suc, List, [], ◌∷◌, ◌++◌, length, take}
use Rattle.std.proofs.Common.{refl, sym, ap, subst, ◌∙◌, arith, append_assoc, length-append}
use Rattle.std.proofs.Common.{add-zero}
use Rattle.std.proofs.lemmas.List.{map-append}
use mathlib.Core.Logic.{inl, inr}
use Rattle.pp_model.specs.Object.{Object}
use Rattle.pp_model.specs.Config.{Config, Step, after_from, then}
use Rattle.pp_model.specs.Rules.{Accepted, Breaks, Meets, IsVerdictFrom, Rejected, RunsFrom}
use Rattle.pp_model.specs.Rules.{FirstFalse, Verdict, criteria}
use Rattle.pp_model.proofs.Parted.{one_number}
use Rattle.pp_records.specs.Runs.{EndsAtFailure, HasOneMore, Lined, bare, on_line}

-- The bare elements of joined lists are those of the first, then those of the second.
pub bare_append : {A : Type 0} (xs ys : List (Lined A)) → bare (xs ++ ys) ≡ bare xs ++ bare ys
bare_append {A} xs ys = map-append (λ (s : Lined A). s.what) xs ys

-- Elements that are put on a line are bare what they were.
pub bare_on_line : {A : Type 0} (line : ℕ) (ss : List A) → bare (on_line line ss) ≡ ss
bare_on_line line [] = refl
bare_on_line {A} line (s ∷ ss) = ap (λ (w : List A). s ∷ w) (bare_on_line line ss)

-- A list of lined elements has as many bare ones.
pub length_bare : {A : Type 0} (xs : List (Lined A)) → length (bare xs) ≡ length xs
length_bare [] = refl
length_bare (x ∷ xs) = ap (λ (k : ℕ). suc k) (length_bare xs)

-- A list that is put on a line keeps its length.
pub length_on_line : {A : Type 0} (line : ℕ) (ss : List A) → length (on_line line ss) ≡ length ss
length_on_line line [] = refl
length_on_line line (s ∷ ss) = ap (λ (k : ℕ). suc k) (length_on_line line ss)

-- The configuration after joined steps is the one after the second, from that after the first.
pub after_append : {Op : Type 0} (c : Config Op) (xs ys : List (Step Op)) → after_from c (xs ++ ys) ≡ after_from (after_from c xs) ys
after_append c [] ys = refl
after_append c (x ∷ xs) ys = after_append (then c x) xs ys

-- Joined steps meet their criteria if the first do, and the second do after them.
pub runs_append : {Op State : Type 0} (O : Object Op State) (c : Config Op) (xs ys : List (Step Op)) → RunsFrom O c xs → RunsFrom O (after_from c xs) ys → RunsFrom O c (xs ++ ys)
runs_append O c [] ys a b = b
runs_append O c (x ∷ xs) ys a b = (a.0, runs_append O (then c x) xs ys a.1 b)

-- If joined steps meet their criteria, so do the first.
pub runs_front : {Op State : Type 0} (O : Object Op State) (c : Config Op) (xs ys : List (Step Op)) → RunsFrom O c (xs ++ ys) → RunsFrom O c xs
runs_front O c [] ys a = tt
runs_front O c (x ∷ xs) ys a = (a.0, runs_front O (then c x) xs ys a.1)

-- If joined steps meet their criteria, so do the second from the configuration after the first.
pub runs_back : {Op State : Type 0} (O : Object Op State) (c : Config Op) (xs ys : List (Step Op)) → RunsFrom O c (xs ++ ys) → RunsFrom O (after_from c xs) ys
runs_back O c [] ys a = a
runs_back O c (x ∷ xs) ys a = runs_back O (then c x) xs ys a.1

-- Equal lists that are not empty have equal first elements.
pub heads : {A : Type 0} (x y : A) (xs ys : List A) → x ∷ xs ≡ y ∷ ys → x ≡ y
heads x y xs ys e = cc

-- Equal lists that are not empty have equal rests.
pub tails : {A : Type 0} (x y : A) (xs ys : List A) → x ∷ xs ≡ y ∷ ys → xs ≡ ys
tails x y xs ys e = cc

-- A step that meets its criteria breaks none.
pub never : {Op State : Type 0} (O : Object Op State) (c : Config Op) (s : Step Op) (n : ℕ) → Meets O c s → Breaks O c s (suc n) → ⊥
never O c s n a b = let e : zero ≡ suc n = one_number _ zero (suc n) a b in cc

-- a list of facts has a first false one, or all hold
pub some_number : (ps : List (Type 0)) → ((n : ℕ) → FirstFalse ps n → ⊥) → ⊥
some_number [] none = none 0 refl
some_number (p ∷ ps) none = none 1 (λ h. some_number ps (behind h))
  where
    behind : p → (n : ℕ) → FirstFalse ps n → ⊥
    behind h zero a = none 0 (h, a)
    behind h (suc n) a = none (suc (suc n)) (h, a)

-- a run
pub ends_some : {Op State : Type 0} (O : Object Op State) (c : Config Op) (ss : List (Lined (Step Op))) → ((run : List (Lined (Step Op))) → EndsAtFailure O c ss run → ⊥) → ⊥
ends_some O c [] none = none [] refl
ends_some {Op} O c (s ∷ ss) none = some_number (criteria O c s.what) (judged (ends_some O (then c s.what) ss))
  where
    judged : (((run : List (Lined (Step Op))) → EndsAtFailure O (then c s.what) ss run → ⊥) → ⊥) → (n : ℕ) → FirstFalse (criteria O c s.what) n → ⊥
    judged rest zero m = rest (λ (run : List (Lined (Step Op))) e. none (s ∷ run) (inr (m, (run, e, refl))))
    judged rest (suc n) b = none (s ∷ []) (inl (n, b, refl))

-- one run at most
pub ends_once : {Op State : Type 0} (O : Object Op State) (c : Config Op) (ss a b : List (Lined (Step Op))) → EndsAtFailure O c ss a → EndsAtFailure O c ss b → a ≡ b
ends_once O c [] a b x y = x ∙ sym y
ends_once O c (s ∷ ss) a b (inl x) (inl y) = x.2 ∙ sym y.2
ends_once O c (s ∷ ss) a b (inl x) (inr y) = absurd (never O c s.what x.0 y.0 x.1)
ends_once O c (s ∷ ss) a b (inr x) (inl y) = absurd (never O c s.what y.0 x.0 y.1)
ends_once {Op} O c (s ∷ ss) a b (inr x) (inr y) =
    x.1.2 ∙ ap (λ (w : List (Lined (Step Op))). s ∷ w) (ends_once O (then c s.what) ss x.1.0 y.1.0 x.1.1 y.1.1) ∙ sym y.1.2

-- After steps that hold.
pub ends_behind : {Op State : Type 0} (O : Object Op State) (c : Config Op) (xs ys rest : List (Lined (Step Op))) → RunsFrom O c (bare xs) →
    EndsAtFailure O (after_from c (bare xs)) ys rest → EndsAtFailure O c (xs ++ ys) (xs ++ rest)
ends_behind O c [] ys rest r e = e
ends_behind O c (x ∷ xs) ys rest r e = inr (r.0, (xs ++ rest, ends_behind O (then c x.what) xs ys rest r.1 e, refl))

-- A run of joined steps, the first of which hold, is these and a run of the others after them.
pub ends_split : {Op State : Type 0} (O : Object Op State) (c : Config Op) (xs ys run : List (Lined (Step Op))) → RunsFrom O c (bare xs) →
    EndsAtFailure O c (xs ++ ys) run → (rest : List (Lined (Step Op))) × EndsAtFailure O (after_from c (bare xs)) ys rest × (run ≡ xs ++ rest)
ends_split O c [] ys run r e = (run, e, refl)
ends_split O c (x ∷ xs) ys run r (inl e) = absurd (never O c x.what e.0 r.0 e.1)
ends_split {Op} O c (x ∷ xs) ys run r (inr e) =
    let k = ends_split O (then c x.what) xs ys e.1.0 r.1 e.1.1 in
    (k.0, k.1, e.1.2 ∙ ap (λ (w : List (Lined (Step Op))). x ∷ w) k.2)

-- The run of steps that all meet their criteria is all of them.
pub ends_whole : {Op State : Type 0} (O : Object Op State) (c : Config Op) (ss : List (Lined (Step Op))) → RunsFrom O c (bare ss) → EndsAtFailure O c ss ss
ends_whole O c [] r = refl
ends_whole O c (s ∷ ss) r = inr (r.0, (ss, ends_whole O (then c s.what) ss r.1, refl))

-- the verdict of the run and that of all steps
pub verdict_on : {Op State : Type 0} (O : Object Op State) (i : ℕ) (c : Config Op) (ss run : List (Lined (Step Op))) (v : Verdict) → EndsAtFailure O c ss run →
    IsVerdictFrom O i c (bare run) v → IsVerdictFrom O i c (bare ss) v
verdict_on {Op} O i c [] run v e k = subst (λ (w : List (Lined (Step Op))). IsVerdictFrom O i c (bare w) v) e k
verdict_on {Op} O i c (s ∷ ss) run v (inl e) k =
    elim (subst (λ (w : List (Lined (Step Op))). IsVerdictFrom O i c (bare w) v) e.2 k) [ inl z ↦ inl z | inr z ↦ absurd (never O c s.what e.0 z.0 e.1) ]
verdict_on {Op} O i c (s ∷ ss) run v (inr e) k =
    elim (subst (λ (w : List (Lined (Step Op))). IsVerdictFrom O i c (bare w) v) e.1.2 k) [
      | inl z ↦ inl z
      | inr z ↦ inr (z.0, verdict_on O (suc i) (then c s.what) ss e.1.0 v e.1.1 z.1)
    ]

-- The verdict of all steps is the verdict of their run.
pub verdict_off : {Op State : Type 0} (O : Object Op State) (i : ℕ) (c : Config Op) (ss run : List (Lined (Step Op))) (v : Verdict) → EndsAtFailure O c ss run →
    IsVerdictFrom O i c (bare ss) v → IsVerdictFrom O i c (bare run) v
verdict_off {Op} O i c [] run v e k = subst (λ (w : List (Lined (Step Op))). IsVerdictFrom O i c (bare w) v) (sym e) k
verdict_off {Op} O i c (s ∷ ss) run v (inl e) k =
    subst (λ (w : List (Lined (Step Op))). IsVerdictFrom O i c (bare w) v) (sym e.2) (elim k [ inl z ↦ inl z | inr z ↦ absurd (never O c s.what e.0 z.0 e.1) ])
verdict_off {Op} O i c (s ∷ ss) run v (inr e) k =
    subst (λ (w : List (Lined (Step Op))). IsVerdictFrom O i c (bare w) v) (sym e.1.2) (elim k [
      | inl z ↦ inl z
      | inr z ↦ inr (z.0, verdict_off O (suc i) (then c s.what) ss e.1.0 v e.1.1 z.1)
    ])

-- A verdict determines the run.
pub accepted_ends : {Op State : Type 0} (O : Object Op State) (i : ℕ) (c : Config Op) (ss : List (Lined (Step Op))) → IsVerdictFrom O i c (bare ss) Accepted → EndsAtFailure O c ss ss
accepted_ends O i c [] k = refl
accepted_ends O i c (s ∷ ss) (inl k) = absurd (let e : Accepted ≡ Rejected i (suc k.0) = k.2 in cc)
accepted_ends O i c (s ∷ ss) (inr k) = inr (k.0, (ss, accepted_ends O (suc i) (then c s.what) ss k.1, refl))

-- the step that a rejection names is not before the first
pub rejected_from : {Op State : Type 0} (O : Object Op State) (i : ℕ) (c : Config Op) (ss : List (Lined (Step Op))) (j n : ℕ) → IsVerdictFrom O i c (bare ss) (Rejected j n) →
    (k : ℕ) × (j ≡ i + k) × EndsAtFailure O c ss (take (suc k) ss)
rejected_from O i c [] j n v = absurd (let e : Rejected j n ≡ Accepted = v in cc)
rejected_from {Op} O i c (s ∷ ss) j n (inl v) =
    (0, rejected_number j n i v.0 v.2 ∙ sym (add-zero i), inl (v.0, v.1, ap (λ (w : List (Lined (Step Op))). s ∷ w) (take_none ss)))
  where
    rejected_number : (j n i m : ℕ) → Rejected j n ≡ Rejected i (suc m) → j ≡ i
    rejected_number j n i m e = cc

    take_none : (ss : List (Lined (Step Op))) → take 0 ss ≡ []
    take_none ss = refl
rejected_from O i c (s ∷ ss) j n (inr v) =
    let r = rejected_from O (suc i) (then c s.what) ss j n v.1 in
    (suc r.0, r.1 ∙ shift i r.0, inr (v.0, (take (suc r.0) ss, r.2, refl)))
  where
    shift : (i k : ℕ) → suc i + k ≡ i + suc k
    shift i k = omega arith

-- a failing step
pub ends_here : {Op State : Type 0} (O : Object Op State) (c : Config Op) (xs : List (Lined (Step Op))) (s : Lined (Step Op)) (ys : List (Lined (Step Op))) (n : ℕ) →
    RunsFrom O c (bare xs) → Breaks O (after_from c (bare xs)) s.what (suc n) → EndsAtFailure O c (xs ++ s ∷ ys) (xs ++ s ∷ [])
ends_here O c xs s ys n r f = ends_behind O c xs (s ∷ ys) (s ∷ []) r (inl (n, f, refl))

-- If the steps before a step hold and it breaks a criterion, the verdict rejects that step.
pub rejected_here : {Op State : Type 0} (O : Object Op State) (i : ℕ) (c : Config Op) (xs : List (Step Op)) (s : Step Op) (ys : List (Step Op)) (n : ℕ) →
    RunsFrom O c xs → Breaks O (after_from c xs) s (suc n) → IsVerdictFrom O i c (xs ++ s ∷ ys) (Rejected (i + length xs) (suc n))
rejected_here O i c [] s ys n r f = inl (n, f, ap (λ (k : ℕ). Rejected k (suc n)) (omega arith))
rejected_here O i c (x ∷ xs) s ys n r f =
    let at : suc i + length xs ≡ i + length (x ∷ xs) = omega arith in
    inr (r.0, subst (λ (k : ℕ). IsVerdictFrom O (suc i) (then c x) (xs ++ s ∷ ys) (Rejected k (suc n))) at (rejected_here O (suc i) (then c x) xs s ys n r.1 f))

-- If a step fails, steps after change nothing.
pub failed_stays : {Op State : Type 0} (O : Object Op State) (i : ℕ) (c : Config Op) (ss ys run : List (Lined (Step Op))) (j n : ℕ) → EndsAtFailure O c ss run →
    IsVerdictFrom O i c (bare run) (Rejected j n) → EndsAtFailure O c (ss ++ ys) run
failed_stays {Op} O i c [] ys run j n e v =
    absurd (let k : Rejected j n ≡ Accepted = subst (λ (w : List (Lined (Step Op))). IsVerdictFrom O i c (bare w) (Rejected j n)) e v in cc)
failed_stays O i c (s ∷ ss) ys run j n (inl e) v = inl e
failed_stays {Op} O i c (s ∷ ss) ys run j n (inr e) v =
    elim (subst (λ (w : List (Lined (Step Op))). IsVerdictFrom O i c (bare w) (Rejected j n)) e.1.2 v) [
      | inl z ↦ absurd (never O c s.what z.0 e.0 z.1)
      | inr z ↦ inr (e.0, (e.1.0, failed_stays O (suc i) (then c s.what) ss ys e.1.0 j n e.1.1 z.1, e.1.2))
    ]

-- a failing step is not among steps that hold
pub not_within : {Op State : Type 0} (O : Object Op State) (c : Config Op) (before xs behind ys : List (Lined (Step Op))) (s : Lined (Step Op)) (n : ℕ) →
    xs ++ s ∷ ys ≡ before ++ behind → length xs < length before → RunsFrom O c (bare before) → Breaks O (after_from c (bare xs)) s.what (suc n) → ⊥
not_within O c [] xs behind ys s n e l r f = let z : ⊥ = omega arith in z
not_within {Op} O c (b ∷ before) [] behind ys s n e l r f =
    let same : s ≡ b = heads s b ys (before ++ behind) e in
    never O c b.what n r.0 (subst (λ (w : Lined (Step Op)). Breaks O c w.what (suc n)) same f)
not_within {Op} O c (b ∷ before) (x ∷ xs) behind ys s n e l r f =
    let same : x ≡ b = heads x b (xs ++ s ∷ ys) (before ++ behind) e in
    not_within O (then c b.what) before xs behind ys s n (tails x b (xs ++ s ∷ ys) (before ++ behind) e) (omega arith) r.1
    (subst (λ (w : Lined (Step Op)). Breaks O (after_from (then c w.what) (bare xs)) s.what (suc n)) same f)

-- one line at most with one more step
one_place : {A : Type 0} (xs zs ys ws : List A) (s z : A) → xs ++ s ∷ ys ≡ zs ++ z ∷ ws → length xs ≡ length zs → s ≡ z
one_place [] [] ys ws s z e l = heads s z ys ws e
one_place [] (z' ∷ zs) ys ws s z e l = absurd (cc)
one_place (x ∷ xs) [] ys ws s z e l = absurd (cc)
one_place (x ∷ xs) (z' ∷ zs) ys ws s z e l = one_place xs zs ys ws s z (tails x z' (xs ++ s ∷ ys) (zs ++ z ∷ ws) e) (omega arith)

-- At most one line has one step more than a run may have.
pub one_line : {Op State : Type 0} (O : Object Op State) (most : ℕ) (c : Config Op) (ss : List (Lined (Step Op))) (m n : ℕ) → HasOneMore O most c ss m → HasOneMore O most c ss n → m ≡ n
one_line {Op} O most c ss m n a b =
    sym a.place ∙ ap (λ (w : Lined (Step Op)). w.line) (one_place a.before b.before a.behind b.behind a.next b.next (sym a.parts ∙ b.parts) (a.count ∙ sym b.count)) ∙ b.place

-- few steps have no more
pub few_steps : {Op State : Type 0} (O : Object Op State) (most : ℕ) (c : Config Op) (ss : List (Lined (Step Op))) (line : ℕ) → length ss ≤ most → HasOneMore O most c ss line → ⊥
few_steps {Op} O most c ss line few m =
    let e : length ss ≡ length m.before + suc (length m.behind) = ap (λ (w : List (Lined (Step Op))). length w) m.parts ∙ length-append m.before (m.next ∷ m.behind) in
    let k : length m.before ≡ most = m.count in
    let z : ⊥ = omega arith in z

-- a failing step that comes early leaves no more
pub failing_first : {Op State : Type 0} (O : Object Op State) (most : ℕ) (c : Config Op) (xs ys : List (Lined (Step Op))) (s : Lined (Step Op)) (n line : ℕ) →
    length xs < most → Breaks O (after_from c (bare xs)) s.what (suc n) → HasOneMore O most c (xs ++ s ∷ ys) line → ⊥
failing_first O most c xs ys s n line l f m = not_within O c m.before xs (m.next ∷ m.behind) ys s n m.parts (subst (λ (w : ℕ). length xs < w) (sym m.count) l) m.hold f

-- If this many steps hold and one more is on a line, that is so also with further steps after them.
pub more_behind : {Op State : Type 0} (O : Object Op State) (most : ℕ) (c : Config Op) (ss ys : List (Lined (Step Op))) (line : ℕ) → HasOneMore O most c ss line → HasOneMore O most c (ss ++ ys) line
more_behind {Op} O most c ss ys line m =
    record {
      before = m.before;
      next = m.next;
      behind = m.behind ++ ys;
      parts = ap (λ (w : List (Lined (Step Op))). w ++ ys) m.parts ∙ append_assoc m.before (m.next ∷ m.behind) ys;
      count = m.count;
      hold = m.hold;
      place = m.place;
    }

-- steps before that hold
pub more_before : {Op State : Type 0} (O : Object Op State) (most : ℕ) (c : Config Op) (xs ss : List (Lined (Step Op))) (line : ℕ) → RunsFrom O c (bare xs) →
    HasOneMore O most (after_from c (bare xs)) ss line → HasOneMore O (length xs + most) c (xs ++ ss) line
more_before {Op} O most c xs ss line r m =
    record {
      before = xs ++ m.before;
      next = m.next;
      behind = m.behind;
      parts = ap (λ (w : List (Lined (Step Op))). xs ++ w) m.parts ∙ sym (append_assoc xs m.before (m.next ∷ m.behind));
      count = length-append xs m.before ∙ ap (λ (w : ℕ). length xs + w) m.count;
      hold = subst (λ (w : List (Step Op)). RunsFrom O c w) (sym (bare_append xs m.before)) (runs_append O c (bare xs) (bare m.before) r m.hold);
      place = m.place;
    }

-- and back: a list that begins with these
front_of : {A : Type 0} (xs ss before rest : List A) → xs ++ ss ≡ before ++ rest → length xs ≤ length before → (mid : List A) × (before ≡ xs ++ mid) × (ss ≡ mid ++ rest)
front_of [] ss before rest e l = (before, refl, e)
front_of (x ∷ xs) ss [] rest e l = absurd (let z : ⊥ = omega arith in z)
front_of {A} (x ∷ xs) ss (b ∷ before) rest e l =
    let r = front_of xs ss before rest (tails x b (xs ++ ss) (before ++ rest) e) (omega arith) in
    let same : x ≡ b = heads x b (xs ++ ss) (before ++ rest) e in
    (r.0, ap (λ (w : List A). b ∷ w) r.1 ∙ ap (λ (w : A). w ∷ (xs ++ r.0)) (sym same), r.2)

-- If joined steps have one more than they may have, so have the second after the first.
pub less_before : {Op State : Type 0} (O : Object Op State) (most : ℕ) (c : Config Op) (xs ss : List (Lined (Step Op))) (line : ℕ) →
    HasOneMore O (length xs + most) c (xs ++ ss) line → HasOneMore O most (after_from c (bare xs)) ss line
less_before {Op} O most c xs ss line m =
    let k : length m.before ≡ length xs + most = m.count in
    let r = front_of xs ss m.before (m.next ∷ m.behind) m.parts (omega arith) in
    let mid : List (Lined (Step Op)) = r.0 in
    let whole : m.before ≡ xs ++ mid = r.1 in
    let long : length m.before ≡ length xs + length mid = ap (λ (w : List (Lined (Step Op))). length w) whole ∙ length-append xs mid in
    record {
      before = mid;
      next = m.next;
      behind = m.behind;
      parts = r.2;
      count = omega arith;
      hold = runs_back O c (bare xs) (bare mid) (subst (λ (w : List (Step Op)). RunsFrom O c w) (ap (λ (w : List (Lined (Step Op))). bare w) whole ∙ bare_append xs mid) m.hold);
      place = m.place;
    }
