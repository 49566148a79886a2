-- Local logs after entries were taken out of them or pulled into them.
use Rattle.std.specs.Prelude.{◌≡◌, ◌≢◌, ℕ, eqb, Bool, true, false, not, cond, ◌&&◌, List, [], ◌∷◌}
use Rattle.std.specs.Prelude.{◌++◌, map, take, drop, Option, Some}
use Rattle.std.proofs.Common.{refl, sym, ap, subst, ◌∙◌, append_assoc, take-append-drop}
use Rattle.std.proofs.lemmas.List.{append-nil}
use Rattle.std.proofs.lemmas.Bool.Decides.{eqb_tells}
use Rattle.std.proofs.lemmas.Bool.{eqb-true, eq-eqb, or_cases}
use Rattle.std.proofs.lemmas.Option.{same_Some}
use mathlib.Core.Logic.{inl, inr}
use Rattle.pp_model.specs.Lists.{Before, In}
use Rattle.pp_model.specs.Names.{Name, ◌=ⁿ◌}
use Rattle.pp_model.specs.Object.{Object}
use Rattle.pp_model.specs.Config.{Config, LocalEntry, Mark, Pull, Pulled, Pushed, SharedEntry, Step}
use Rattle.pp_model.specs.Config.{Tx, Unpushed, after_from, but_last, set_mark, of_other, on_log}
use Rattle.pp_model.specs.Config.{pull_effect, relog, then, tx, without_local}
use Rattle.pp_model.specs.Rules.{RunsFrom}
use Rattle.pp_model.specs.Sound.{Sound}
use Rattle.pp_model.proofs.Lists.{before_across, by_key, from_filter, in_filter, in_left, in_map}
use Rattle.pp_model.proofs.Lists.{in_right}
use Rattle.pp_model.proofs.Logs.{found_other, found_tx}
use Rattle.pp_model.proofs.Steps.{there_holds}
use Rattle.pp_records.specs.Effects.{BackLaw, PullsLaw, as_pulled, missing}
use Rattle.pp_records.specs.Expansions.{pulls, stands_in, taken_at, taken_out}
use Rattle.pp_records.proofs.Ends.{after_append}

-- the transaction after a change of its log
on_step : {Op : Type 0} (t : Name) (f : List (LocalEntry Op) → List (LocalEntry Op)) (z x : Tx Op) (zs : List (Tx Op)) (b : Bool) → (z.name =ⁿ t) ≡ b → cond b (Some z) (tx t zs) ≡ Some x →
    (tx t zs ≡ Some x → tx t (on_log t f zs) ≡ Some (relog f x)) → tx t (on_log t f (z ∷ zs)) ≡ Some (relog f x)
on_step {Op} t f z x zs true e h k =
    ap (λ (w : Tx Op). cond (w.name =ⁿ t) (Some w) (tx t (on_log t f zs))) (ap (λ (b : Bool). cond b (relog f z) z) e)
    ∙ ap (λ (b : Bool). cond b (Some (relog f z)) (tx t (on_log t f zs))) e
    ∙ ap (λ (w : Tx Op). Some (relog f w)) (same_Some z x h)
on_step {Op} t f z x zs false e h k =
    ap (λ (w : Tx Op). cond (w.name =ⁿ t) (Some w) (tx t (on_log t f zs))) (ap (λ (b : Bool). cond b (relog f z) z) e)
    ∙ ap (λ (b : Bool). cond b (Some z) (tx t (on_log t f zs))) e
    ∙ k h

-- A changed local log is the one that `tx` finds for its transaction afterwards.
pub tx_on : {Op : Type 0} (t : Name) (f : List (LocalEntry Op) → List (LocalEntry Op)) (xs : List (Tx Op)) (x : Tx Op) → tx t xs ≡ Some x → tx t (on_log t f xs) ≡ Some (relog f x)
tx_on t f [] x h = absurd (cc)
tx_on t f (z ∷ zs) x h = on_step t f z x zs (z.name =ⁿ t) refl h (λ k. tx_on t f zs x k)

-- an entry at the end of a log in which no other has its id
module _ {Op : Type 0} (e : LocalEntry Op) where
  Apart : List (LocalEntry Op) → Type 0
  Apart p = (a : LocalEntry Op) → In a p → a.id ≢ e.id

  not_same : (a : LocalEntry Op) → a.id ≢ e.id → eqb a.id e.id ≡ false
  not_same a n = elim (eqb_tells a.id e.id) [ inl r ↦ absurd (n r.1) | inr r ↦ r.0 ]

  last_out : (p : List (LocalEntry Op)) → but_last (p ++ e ∷ []) ≡ p
  last_out [] = refl
  last_out (a ∷ []) = refl
  last_out (a ∷ b ∷ p) = ap (λ (w : List (LocalEntry Op)). a ∷ w) (last_out (b ∷ p))

  filtered_out : (p : List (LocalEntry Op)) → Apart p → without_local e.id (p ++ e ∷ []) ≡ p
  unfolding Apart
  filtered_out [] n = ap (λ (b : Bool). cond (not b) (e ∷ []) []) (eq-eqb e.id e.id refl)
  filtered_out (a ∷ p) n =
      ap (λ (b : Bool). cond (not b) (a ∷ without_local e.id (p ++ e ∷ [])) (without_local e.id (p ++ e ∷ []))) (not_same a (n a (inl refl)))
      ∙ ap (λ (w : List (LocalEntry Op)). a ∷ w) (filtered_out p (λ b i. n b (inr i)))

  marked_apart : (m : Mark) (p rest : List (LocalEntry Op)) → Apart p → set_mark e.id m (p ++ rest) ≡ p ++ set_mark e.id m rest
  unfolding Apart
  marked_apart m [] rest n = refl
  marked_apart m (a ∷ p) rest n =
      ap (λ (b : Bool). cond b (record { id = a.id; owner = a.owner; mark = m; op = a.op }) a ∷ set_mark e.id m (p ++ rest)) (not_same a (n a (inl refl)))
      ∙ ap (λ (w : List (LocalEntry Op)). a ∷ w) (marked_apart m p rest (λ b i. n b (inr i)))

-- the steps that take out the last entry
one_out : {Op : Type 0} (t : Name) (c : Config Op) (x : Tx Op) (e : LocalEntry Op) (p : List (LocalEntry Op)) (m : Mark) → tx t c.opened ≡ Some x → x.local ≡ p ++ e ∷ [] → Apart e p →
    tx t (after_from c (taken_at t e.id m)).opened ≡ Some (relog (λ l. p) x)
unfolding Apart
one_out {Op} t c x e p Pulled h w n =
    tx_on t (without_local e.id) c.opened x h ∙ ap (λ (k : List (LocalEntry Op)). Some (relog (λ l. k) x)) (ap (λ (k : List (LocalEntry Op)). without_local e.id k) w ∙ filtered_out e p n)
one_out {Op} t c x e p Unpushed h w n =
    tx_on t but_last c.opened x h ∙ ap (λ (k : List (LocalEntry Op)). Some (relog (λ l. k) x)) (ap (λ (k : List (LocalEntry Op)). but_last k) w ∙ last_out e p)
one_out {Op} t c x e p Pushed h w n =
    let f : List (LocalEntry Op) → List (LocalEntry Op) = set_mark e.id Unpushed in
    let one : LocalEntry Op = record { id = e.id; owner = e.owner; mark = Unpushed; op = e.op } in
    let alone : set_mark e.id Unpushed (e ∷ []) ≡ one ∷ [] = ap (λ (b : Bool). cond b one e ∷ []) (eq-eqb e.id e.id refl) in
    tx_on t but_last (on_log t f c.opened) (relog f x) (tx_on t f c.opened x h)
    ∙ ap (λ (k : List (LocalEntry Op)). Some (relog (λ l. k) x))
    (ap (λ (k : List (LocalEntry Op)). but_last (f k)) w
    ∙ ap (λ (k : List (LocalEntry Op)). but_last k) (marked_apart e Unpushed p (e ∷ []) n)
    ∙ ap (λ (k : List (LocalEntry Op)). but_last (p ++ k)) alone
    ∙ last_out one p)

apart : {Op : Type 0} (e : LocalEntry Op) (l p : List (LocalEntry Op)) → ((a b : LocalEntry Op) → Before a b (p ++ e ∷ l) → a.id ≢ b.id) → Apart e p
unfolding Apart
apart e l p n a i = n a e (before_across a e p (e ∷ l) i (inl refl))

-- Taking the entries l back from the end of the local log p ++ l leaves p.
all_out : {Op : Type 0} (t : Name) (c : Config Op) (x : Tx Op) (p l : List (LocalEntry Op)) → tx t c.opened ≡ Some x → x.local ≡ p ++ l →
    ((a b : LocalEntry Op) → Before a b (p ++ l) → a.id ≢ b.id) → tx t (after_from c (taken_out t l)).opened ≡ Some (relog (λ l. p) x)
all_out {Op} t c x p [] h w n = h ∙ ap (λ (k : List (LocalEntry Op)). Some (relog (λ l. k) x)) (w ∙ append-nil p)
all_out {Op} t c x p (e ∷ l) h w n =
    let split : p ++ e ∷ l ≡ (p ++ e ∷ []) ++ l = sym (append_assoc p (e ∷ []) l) in
    let c2 : Config Op = after_from c (taken_out t l) in
    let rest : tx t c2.opened ≡ Some (relog (λ l. p ++ e ∷ []) x) =
    all_out t c x (p ++ e ∷ []) l h (w ∙ split) (λ a b i. n a b (subst (λ (k : List (LocalEntry Op)). Before a b k) (sym split) i)) in
    ap (λ (k : Config Op). tx t k.opened) (after_append c (taken_out t l) (taken_at t e.id e.mark))
    ∙ one_out t c2 (relog (λ l. p ++ e ∷ []) x) e p e.mark rest refl (apart e l p n)

-- The steps of `back` leave the first n entries of a local log.
pub back_law : {Op State : Type 0} (O : Object Op State) → BackLaw O
back_law {Op} O c t n x s h =
    let whole : take n x.local ++ drop n x.local ≡ x.local = take-append-drop n x.local in
    all_out t c x (take n x.local) (drop n x.local) h (sym whole)
    (λ a b i. s.local_ids x (found_tx t c.opened x h).0 a b (subst (λ (k : List (LocalEntry Op)). Before a b k) whole i))

-- pulls
all_in : {Op State : Type 0} (O : Object Op State) (t : Name) (G gs : List (SharedEntry Op)) (c : Config Op) (x : Tx Op) → c.shared ≡ G → ((g h : SharedEntry Op) → Before g h G → g.id ≢ h.id) →
    ((g : SharedEntry Op) → In g gs → In g G) → tx t c.opened ≡ Some x → RunsFrom O c (map (λ g. Pull t g.id) gs) →
    tx t (after_from c (map (λ g. Pull t g.id) gs)).opened ≡ Some (relog (λ l. l ++ map as_pulled gs) x)
all_in {Op} O t G [] c x same d among h r = h ∙ ap (λ (k : List (LocalEntry Op)). Some (relog (λ l. k) x)) (sym (append-nil x.local))
all_in {Op} O t G (g ∷ gs) c x same d among h r =
    let k = there_holds (tx t c.opened) _ r.0 in
    let q = there_holds (of_other t g.id c.shared) _ k.2 in
    let f = found_other t g.id c.shared q.0 q.1 in
    let is : q.0 ≡ g = by_key (λ (w : SharedEntry Op). w.id) G d q.0 g (subst (λ (w : List (SharedEntry Op)). In q.0 w) same f.0) (among g (inl refl)) f.1 in
    let found : of_other t g.id c.shared ≡ Some g = q.1 ∙ ap (λ (w : SharedEntry Op). Some w) is in
    let c2 : Config Op = pull_effect c t g.id (Some g) in
    let to : then c (Pull t g.id) ≡ c2 = ap (λ (w : Option (SharedEntry Op)). pull_effect c t g.id w) found in
    let more : List (Step Op) = map (λ g. Pull t g.id) gs in
    let x2 : Tx Op = relog (λ l. l ++ as_pulled g ∷ []) x in
    let h2 : tx t c2.opened ≡ Some x2 = tx_on t (λ l. l ++ as_pulled g ∷ []) c.opened x h in
    ap (λ (w : Config Op). tx t (after_from w more).opened) to
    ∙ all_in O t G gs c2 x2 same d (λ g i. among g (inr i)) h2 (subst (λ (w : Config Op). RunsFrom O w more) to r.1)
    ∙ ap (λ (w : List (LocalEntry Op)). Some (relog (λ l. w) x)) (append_assoc x.local (as_pulled g ∷ []) (map as_pulled gs))

pulled_log : {Op State : Type 0} (O : Object Op State) (c : Config Op) (t : Name) (wanted : SharedEntry Op → Bool) (x : Tx Op) → Sound O c → tx t c.opened ≡ Some x →
    RunsFrom O c (pulls t wanted c.shared x.local) →
    tx t (after_from c (pulls t wanted c.shared x.local)).opened ≡ Some (relog (λ l. l ++ map as_pulled (missing wanted c.shared l)) x)
pulled_log {Op} O c t wanted x s h r =
    all_in O t c.shared (missing wanted c.shared x.local) c x refl s.shared_ids
    (λ g i. (from_filter (λ (g : SharedEntry Op). wanted g && not (stands_in x.local g.id)) g c.shared i).0) h r

-- An id that is reported to be among those of the entries is one of theirs.
told_in : {Op : Type 0} (l : List (LocalEntry Op)) (i : ℕ) → stands_in l i ≡ true → (e : LocalEntry Op) × In e l × (e.id ≡ i)
told_in [] i h = absurd (cc)
told_in (e ∷ l) i h =
    elim (or_cases (eqb e.id i) (stands_in l i) h) [
      | inl k ↦ (e, inl refl, eqb-true e.id i k)
      | inr k ↦ let r = told_in l i k in (r.0, inr r.1, r.2)
    ]

stand_by : {Op : Type 0} (wanted : SharedEntry Op → Bool) (G : List (SharedEntry Op)) (l : List (LocalEntry Op)) (g : SharedEntry Op) → In g G → wanted g ≡ true →
    (b : Bool) → stands_in l g.id ≡ b → (e : LocalEntry Op) × In e (l ++ map as_pulled (missing wanted G l)) × (e.id ≡ g.id)
stand_by wanted G l g i w true h = let r = told_in l g.id h in (r.0, in_left r.0 l (map as_pulled (missing wanted G l)) r.1, r.2)
stand_by {Op} wanted G l g i w false h =
    let passes : (wanted g && not (stands_in l g.id)) ≡ true = ap (λ (a : Bool). a && not (stands_in l g.id)) w ∙ ap (λ (b : Bool). not b) h in
    let j : In g (missing wanted G l) = in_filter (λ (g : SharedEntry Op). wanted g && not (stands_in l g.id)) g G i passes in
    (as_pulled g, in_right (as_pulled g) l (map as_pulled (missing wanted G l)) (in_map as_pulled g (missing wanted G l) j), refl)

-- Pulls that hold add the missing entries to a local log, in the order of the shared log.
pub pulls_law : {Op State : Type 0} (O : Object Op State) → PullsLaw O
pulls_law {Op} O =
    record {
      log = pulled_log O;
      stand = λ wanted G l g i w. stand_by wanted G l g i w (stands_in l g.id) refl;
      refreshed = λ c t place o x s h r.
          let wanted : SharedEntry Op → Bool = λ g. g.committed && eqb (place g.op) o in (
            relog (λ l. l ++ map as_pulled (missing wanted c.shared l)) x,
            pulled_log O c t wanted x s h r,
            λ g i a b. stand_by wanted c.shared x.local g i (ap (λ (z : Bool). z && eqb (place g.op) o) a ∙ eq-eqb (place g.op) o b) (stands_in x.local g.id) refl,
          );
    }
