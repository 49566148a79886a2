-- Proof machinery: the attempts that did not commit, in the order in which their last operations were taken back.
use Rattle.std.specs.Prelude.{◌≡◌, ◌≢◌, ◌≤◌, ◌<◌, ◌+◌, ℕ, Bool, true, false, List, [], ◌∷◌, ◌++◌, filter, length, map, Option}
use Rattle.std.proofs.Common.{refl, sym, ap, subst, ◌∙◌, arith, append_assoc}
use Rattle.std.proofs.lemmas.List.{append-nil, length-append}
use mathlib.Core.Logic.{inl, inr}
use Rattle.pp_model.specs.Config.{Unapp}
use Rattle.pp_model.specs.Config.{Start, Step, Tx, after, first, tx}
use Rattle.pp_model.specs.Lists.{Before, In}
use Rattle.pp_model.specs.Names.{Name}
use Rattle.pp_model.specs.Object.{Object}
use Rattle.pp_model.specs.Rules.{RunsFrom, StartMeets}
use Rattle.pp_model.specs.Serial.{own_of}
use Rattle.pp_model.proofs.Lists.{before_cases, before_from_filter, before_from_map, from_filter, from_map}
use Rattle.pp_model.proofs.Lists.{in_cases, in_filter, in_left, in_map, in_right, not_empty}
use Rattle.pp_model.proofs.Logs.{found_tx}
use Rattle.pp_model.proofs.Steps.{there_holds}
use Rattle.pp_laws_opacity.specs.Opacity.{IsPrefix}
use Rattle.pp_laws_opacity.specs.Orders.{IsUncommitted}
use Rattle.pp_laws_opacity.proofs.Prefixes.{prefix_same, prefix_trans}
use Rattle.pp_laws_opacity.proofs.Runs.{front, meets_at, own_undone, sound_at}

-- An attempt of tx, with the own list that it has after these steps.
pub record Unfinished (Op : Type 0) : Type 0 where
  pub tx : Name
  pub seen : List (Step Op)

-- The unfinished attempt of t after some steps.
abbrev pub unfinished_at : {Op : Type 0} → Name → List (Step Op) → Unfinished Op
unfinished_at t seen = record { tx = t; seen = seen }

-- A prefix of a run is no longer than the run.
pub prefix_length : {Op : Type 0} (a b : List (Step Op)) → IsPrefix a b → length a ≤ length b
prefix_length {Op} a b i = let e : length b ≡ length a + length i.0 = ap (λ (w : List (Step Op)). length w) i.1 ∙ length-append a i.0 in omega (arith, e)

-- Steps before the last step of a prefix are fewer than those of the run.
pub prefix_shorter : {Op : Type 0} (a b : List (Step Op)) (s : Step Op) → IsPrefix (a ++ s ∷ []) b → length a < length b
prefix_shorter a b s i = let l = prefix_length (a ++ s ∷ []) b i in let e : length (a ++ s ∷ []) ≡ length a + 1 = length-append a (s ∷ []) in omega (arith, l, e)

-- The unfinished attempts that the UNAPP steps of `ss`, which follow `past`, give up.
abbrev pub given_up : {Op : Type 0} → List (Step Op) → List (Step Op) → List (Unfinished Op)
given_up past [] = []
given_up past (Unapp t id ∷ ss) = unfinished_at t past ∷ given_up (past ++ Unapp t id ∷ []) ss
given_up past (s ∷ ss) = given_up (past ++ s ∷ []) ss

abbrev IsGivenUp : {Op : Type 0} → List (Step Op) → Unfinished Op → List (Step Op) → Type 0
IsGivenUp past p ss = (id : ℕ) × IsPrefix (p.seen ++ Unapp p.tx id ∷ []) ss × IsPrefix past p.seen

given_later : {Op : Type 0} (past ss : List (Step Op)) (s : Step Op) (p : Unfinished Op) → IsGivenUp (past ++ s ∷ []) p ((past ++ s ∷ []) ++ ss) → IsGivenUp past p (past ++ s ∷ ss)
given_later {Op} past ss s p r = (
  r.0,
  subst (λ (w : List (Step Op)). IsPrefix (p.seen ++ Unapp p.tx r.0 ∷ []) w) (append_assoc past (s ∷ []) ss) r.1,
  prefix_trans past (past ++ s ∷ []) p.seen (s ∷ [], refl) r.2,
)

given_there : {Op : Type 0} (past ss : List (Step Op)) (p : Unfinished Op) → In p (given_up past ss) → IsGivenUp past p (past ++ ss)
given_there past [] p i = absurd i
given_there {Op} past (Unapp t id ∷ ss) p (inl e) =
    subst (λ (w : Unfinished Op). IsGivenUp past w (past ++ Unapp t id ∷ ss)) (sym e) (id, (ss, sym (append_assoc past (Unapp t id ∷ []) ss)), prefix_same past)
given_there past (Unapp t id ∷ ss) p (inr i) = given_later past ss (Unapp t id) p (given_there (past ++ Unapp t id ∷ []) ss p i)
given_there past (s ∷ ss) p i = given_later past ss s p (given_there (past ++ s ∷ []) ss p i)

given_step : {Op : Type 0} (past ss : List (Step Op)) (s : Step Op) (p : Unfinished Op) → In p (given_up (past ++ s ∷ []) ss) → In p (given_up past (s ∷ ss))
given_step past ss (Unapp t id) p i = inr i
given_step past ss _ p i = i

given_in : {Op : Type 0} (past mid rest : List (Step Op)) (t : Name) (id : ℕ) → In (unfinished_at t (past ++ mid)) (given_up past (mid ++ Unapp t id ∷ rest))
given_in {Op} past [] rest t id = inl (ap (λ (w : List (Step Op)). unfinished_at t w) (append-nil past))
given_in {Op} past (s ∷ mid) rest t id =
    given_step past (mid ++ Unapp t id ∷ rest) s (unfinished_at t (past ++ s ∷ mid))
    (subst (λ (w : List (Step Op)). In (unfinished_at t w) (given_up (past ++ s ∷ []) (mid ++ Unapp t id ∷ rest))) (append_assoc past (s ∷ []) mid)
    (given_in (past ++ s ∷ []) mid rest t id))

given_sorted : {Op : Type 0} (past ss : List (Step Op)) (p q : Unfinished Op) → Before p q (given_up past ss) → length p.seen < length q.seen
given_sorted past [] p q b = absurd b
given_sorted {Op} past (Unapp t id ∷ ss) p q (inl b) =
    let g = given_there (past ++ Unapp t id ∷ []) ss q b.1 in
    subst (λ (w : Unfinished Op). length w.seen < length q.seen) (sym b.0) (prefix_shorter past q.seen (Unapp t id) g.2)
given_sorted past (Unapp t id ∷ ss) p q (inr b) = given_sorted (past ++ Unapp t id ∷ []) ss p q b
given_sorted past (s ∷ ss) p q b = given_sorted (past ++ s ∷ []) ss p q b

abbrev has_any : {A : Type 0} → List A → Bool
has_any [] = false
has_any (x ∷ l) = true

any_some : {A : Type 0} (l : List A) → has_any l ≡ true → l ≢ []
any_some [] e n = cc
any_some (x ∷ l) e n = cc

some_any : {A : Type 0} (l : List A) → l ≢ [] → has_any l ≡ true
some_any [] n = absurd (n refl)
some_any (x ∷ l) n = refl

module _ {Op State : Type 0} (O : Object Op State) (h : Option (Start Op)) (met : StartMeets O h) (past : List (Step Op)) (run : RunsFrom O (first h) past) where
  abbrev applies : Tx Op → Bool
  applies x = has_any (own_of x.name past)

  -- the attempts of open transactions
  abbrev open_now : List (Unfinished Op)
  open_now = map (λ x. unfinished_at x.name past) (filter applies (after h past).opened)

  -- All unfinished attempts: those given up, and those open now.
  abbrev pub unfinished : List (Unfinished Op)
  unfinished = given_up [] past ++ open_now

  open_there : (p : Unfinished Op) → In p open_now → (x : Tx Op) × In x (after h past).opened × (own_of x.name past ≢ []) × (p ≡ unfinished_at x.name past)
  open_there p i =
      let m = from_map (λ (x : Tx Op). unfinished_at x.name past) p (filter applies (after h past).opened) i in
      let f = from_filter applies m.0 (after h past).opened m.1 in
      (m.0, f.0, any_some (own_of (m.0).name past) f.1, m.2)

  -- Each unfinished attempt of an accepted run is an uncommitted execution.
  pub unfinished_are : (p : Unfinished Op) → In p unfinished → IsUncommitted h past p.tx p.seen
  unfinished_are p i = elim (in_cases p (given_up [] past) open_now i) [
    | inl j ↦
        let g = given_there [] past p j in
        let s : Step Op = Unapp p.tx g.0 in
        let r : RunsFrom O (first h) (p.seen ++ s ∷ []) = front O h met (p.seen ++ s ∷ []) (g.1).0 (subst (λ (w : List (Step Op)). RunsFrom O (first h) w) (g.1).1 run) in
        let q = there_holds (tx p.tx (after h p.seen).opened) _ (meets_at O h met p.seen [] s r) in
        let f = found_tx p.tx (after h p.seen).opened q.0 q.1 in
        let u = own_undone O h met p.tx p.seen g.0 r in
        ((q.0, f.0, f.1), λ e. not_empty (own_of p.tx (p.seen ++ s ∷ [])) [] u.0 (sym e ∙ u.1), inr (g.0, g.1))
    | inr j ↦
        let o = open_there p j in
        subst (λ (w : Unfinished Op). IsUncommitted h past w.tx w.seen) (sym o.3) ((o.0, o.1, refl), o.2, inl refl)
  ]

  -- Each uncommitted execution of an accepted run is among its unfinished attempts.
  pub are_unfinished : (t : Name) (seen : List (Step Op)) → IsUncommitted h past t seen → In (unfinished_at t seen) unfinished
  are_unfinished t seen k = elim k.2 [
    | inl e ↦
        let x : Tx Op = k.0.0 in
        let here : In x (after h past).opened = subst (λ (w : List (Step Op)). In x (after h w).opened) e k.0.1 in
        let some : own_of x.name past ≢ [] = subst (λ (w : Name). own_of w past ≢ []) (sym k.0.2) (subst (λ (w : List (Step Op)). own_of t w ≢ []) e k.1) in
        let i = in_map (λ (x : Tx Op). unfinished_at x.name past) x (filter applies (after h past).opened) (in_filter applies x (after h past).opened here (some_any (own_of x.name past) some)) in
        in_right (unfinished_at t seen) (given_up [] past) open_now
        (subst (λ (w : Unfinished Op). In w open_now) (ap (λ (w : Name). unfinished_at w past) k.0.2 ∙ ap (λ (w : List (Step Op)). unfinished_at t w) (sym e)) i)
    | inr u ↦
        let is : past ≡ seen ++ Unapp t u.0 ∷ u.1.0 = u.1.1 ∙ append_assoc seen (Unapp t u.0 ∷ []) u.1.0 in
        in_left (unfinished_at t seen) (given_up [] past) open_now
        (subst (λ (w : List (Step Op)). In (unfinished_at t seen) (given_up [] w)) (sym is) (given_in [] seen u.1.0 t u.0))
  ]

  given_shorter : (p : Unfinished Op) → In p (given_up [] past) → length p.seen < length past
  given_shorter p i = let g = given_there [] past p i in prefix_shorter p.seen past (Unapp p.tx g.0) g.1

  open_length : (p : Unfinished Op) → In p open_now → length p.seen ≡ length past
  open_length p i = let o = open_there p i in ap (λ (w : Unfinished Op). length w.seen) o.3

  -- The unfinished attempts are in the order of the steps after which they are seen.
  pub unfinished_sorted : (p q : Unfinished Op) → Before p q unfinished → length p.seen ≤ length q.seen
  unfinished_sorted p q b = elim (before_cases p q (given_up [] past) open_now b) [
    | inl i ↦ let l = given_sorted [] past p q i in omega (arith, l)
    | inr (inl i) ↦
        let m = before_from_map (λ (x : Tx Op). unfinished_at x.name past) p q (filter applies (after h past).opened) i in
        let e : length p.seen ≡ length past = ap (λ (w : Unfinished Op). length w.seen) m.3 in
        let f : length q.seen ≡ length past = ap (λ (w : Unfinished Op). length w.seen) m.4 in
        omega (arith, e, f)
    | inr (inr i) ↦ let l = given_shorter p i.0 in let e = open_length q i.1 in omega (arith, l, e)
  ]

  -- The unfinished attempts of an accepted run are distinct.
  pub unfinished_apart : (p q : Unfinished Op) → Before p q unfinished → p ≢ q
  unfinished_apart p q b e = elim (before_cases p q (given_up [] past) open_now b) [
    | inl i ↦ let l = given_sorted [] past p q i in let same : length p.seen ≡ length q.seen = ap (λ (w : Unfinished Op). length w.seen) e in absurd (omega (arith, l, same))
    | inr (inl i) ↦
        let m = before_from_map (λ (x : Tx Op). unfinished_at x.name past) p q (filter applies (after h past).opened) i in
        (sound_at O h met past run).open_names m.0 m.1 (before_from_filter applies m.0 m.1 (after h past).opened m.2) (ap (λ (w : Unfinished Op). w.tx) (sym m.3 ∙ e ∙ m.4))
    | inr (inr i) ↦
        let l = given_shorter p i.0 in let k = open_length q i.1 in
        let same : length p.seen ≡ length q.seen = ap (λ (w : Unfinished Op). length w.seen) e in absurd (omega (arith, l, k, same))
  ]
