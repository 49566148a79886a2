-- Proof machinery: prefixes of a run, and the starts of attempts.
use Rattle.std.specs.Prelude.{◌≡◌, ◌≢◌, ◌⊎◌, List, [], ◌∷◌, ◌++◌, Option, Some}
use Rattle.std.proofs.Common.{refl, sym, ap, subst, ◌∙◌, append_assoc}
use Rattle.std.proofs.lemmas.List.{append-nil, append_cancel_left}
use Rattle.std.proofs.lemmas.Option.{same_Some}
use mathlib.Core.Logic.{inl, inr}
use Rattle.pp_model.specs.Body.{Tree}
use Rattle.pp_model.specs.Config.{Begin, App, Unapp, Push, Unpush, Pull, Unpull, Cmt, Quit, Note}
use Rattle.pp_model.specs.Config.{Start, Step, after, first, last, tx}
use Rattle.pp_model.specs.Names.{Name}
use Rattle.pp_model.specs.Object.{Item, Object}
use Rattle.pp_model.specs.Rules.{RunsFrom, StartMeets}
use Rattle.pp_model.specs.Serial.{bodies_of, own_of}
use Rattle.pp_model.proofs.Lists.{not_empty}
use Rattle.pp_model.proofs.Logs.{found_tx}
use Rattle.pp_model.proofs.Names.{name_or_not}
use Rattle.pp_model.proofs.Steps.{there_holds}
use Rattle.pp_model.proofs.Trace.{bodies-append, own_quiet, quiet_bodies}
use Rattle.pp_laws_opacity.specs.Opacity.{Began, IsPrefix, IsOpen, MayStart, Starts}
use Rattle.pp_laws_opacity.proofs.Runs.{along_from, front, meets_at, own_step, traced_at}

-- The last element of a list with an element at its end is this element.
pub last_end : {A : Type 0} (xs : List A) (x : A) → last (xs ++ x ∷ []) ≡ Some x
last_end [] x = refl
last_end (y ∷ []) x = refl
last_end (y ∷ z ∷ xs) x = last_end (z ∷ xs) x

-- A list is empty or not.
pub empty_or_not : {A : Type 0} (l : List A) → (l ≡ []) ⊎ (l ≢ [])
empty_or_not [] = inl refl
empty_or_not (x ∷ l) = inr (λ e. cc)

-- If joined lists are empty, both are.
pub both_none : {A : Type 0} (xs ys : List A) → xs ++ ys ≡ [] → (xs ≡ []) × (ys ≡ [])
both_none [] ys e = (refl, e)
both_none (x ∷ xs) ys e = absurd (let n : x ∷ (xs ++ ys) ≡ [] = e in cc)

-- a list that is not empty has a last element
pub ends : {A : Type 0} (l : List A) → l ≢ [] → (k : List A) × (x : A) × (l ≡ k ++ x ∷ [])
ends [] n = absurd (n refl)
ends (x ∷ []) n = ([], x, refl)
ends {A} (x ∷ y ∷ l) n = let r = ends (y ∷ l) (λ e. cc) in (x ∷ r.0, r.1, ap (λ (w : List A). x ∷ w) r.2)

-- an element of a list that has one more at its end
pub end_cases : {A : Type 0} (l more k : List A) (p q : A) → l ++ p ∷ more ≡ k ++ q ∷ []
    → ((l ≡ k) × (p ≡ q) × (more ≡ [])) ⊎ ((m : List A) × (more ≡ m ++ q ∷ []) × (k ≡ l ++ p ∷ m))
end_cases [] more [] p q e = inl (refl, cc, cc)
end_cases {A} [] more (x ∷ k) p q e = let a : p ≡ x = cc in let b : more ≡ k ++ q ∷ [] = cc in inr (k, b, ap (λ (w : A). w ∷ k) (sym a))
end_cases (y ∷ l) more [] p q e = absurd (let b : l ++ p ∷ more ≡ [] = cc in not_empty l more p (sym b))
end_cases {A} (y ∷ l) more (x ∷ k) p q e =
    let a : y ≡ x = cc in
    let b : l ++ p ∷ more ≡ k ++ q ∷ [] = cc in
    elim (end_cases l more k p q b) [
      | inl r ↦ inl (ap (λ (w : List A). y ∷ w) r.0 ∙ ap (λ (w : A). w ∷ k) a, r.1, r.2)
      | inr r ↦ inr (r.0, r.1, ap (λ (w : A). w ∷ k) (sym a) ∙ ap (λ (w : List A). y ∷ w) r.2)
    ]

-- a prefix of a list that has one more at its end
pub prefix_cases : {Op : Type 0} (later past : List (Step Op)) (s : Step Op) → IsPrefix later (past ++ s ∷ []) → IsPrefix later past ⊎ (later ≡ past ++ s ∷ [])
prefix_cases later past s ([], e) = inr (sym (e ∙ append-nil later))
prefix_cases later past s (x ∷ rest, e) = elim (end_cases later rest past x s (sym e)) [
  | inl r ↦ inl ([], sym r.0 ∙ sym (append-nil later))
  | inr r ↦ inl (x ∷ r.0, r.2)
]

-- Each run is a prefix of itself.
pub prefix_same : {Op : Type 0} (ss : List (Step Op)) → IsPrefix ss ss
prefix_same ss = ([], sym (append-nil ss))

-- A prefix of a prefix of a run is a prefix of the run.
pub prefix_trans : {Op : Type 0} (a b c : List (Step Op)) → IsPrefix a b → IsPrefix b c → IsPrefix a c
prefix_trans {Op} a b c i j = (i.0 ++ j.0, j.1 ∙ ap (λ (w : List (Step Op)). w ++ j.0) i.1 ∙ append_assoc a i.0 j.0)

-- Runs that are prefixes of each other are equal.
pub prefix_both : {Op : Type 0} (a b : List (Step Op)) → IsPrefix a b → IsPrefix b a → a ≡ b
prefix_both {Op} a b i j =
    let k = j.1 ∙ ap (λ (w : List (Step Op)). w ++ j.0) i.1 ∙ append_assoc a i.0 j.0 in
    let none : [] ≡ i.0 ++ j.0 = append_cancel_left a [] (i.0 ++ j.0) (append-nil a ∙ k) in
    let r = both_none i.0 j.0 (sym none) in
    sym (i.1 ∙ ap (λ (w : List (Step Op)). a ++ w) r.0 ∙ append-nil a)

may_start : {Op : Type 0} (t : Name) (s : Step Op) → MayStart t s ⊎ (MayStart t s → ⊥)
may_start t (Begin u p b) = name_or_not u t
may_start t (Unapp u id) = name_or_not u t
may_start t (App u id op) = inr (λ n. n)
may_start t (Push u id) = inr (λ n. n)
may_start t (Unpush u id) = inr (λ n. n)
may_start t (Pull u id) = inr (λ n. n)
may_start t (Unpull u id) = inr (λ n. n)
may_start t (Cmt u) = inr (λ n. n)
may_start t (Quit u) = inr (λ n. n)
may_start t (Note u) = inr (λ n. n)

starts_or_not : {Op : Type 0} (t : Name) (past : List (Step Op)) (s : Step Op) → Starts t (past ++ s ∷ []) ⊎ (Starts t (past ++ s ∷ []) → ⊥)
starts_or_not {Op} t past s = elim (may_start t s) [
  | inl m ↦ elim (empty_or_not (own_of t (past ++ s ∷ []))) [ inl e ↦ inl (s, last_end past s, m, e) | inr n ↦ inr (λ k. n k.3) ]
  | inr n ↦ inr (λ k. n (subst (λ (w : Step Op). MayStart t w) (same_Some k.0 s (sym k.1 ∙ last_end past s)) k.2))
]

-- A transaction whose attempt starts after some steps began it there.
pub began_new : {Op : Type 0} (t : Name) (past : List (Step Op)) → Starts t past → Began t past past
began_new t past s = record { starts = s; within = prefix_same past; last = λ later b k. b }

-- A step that starts no attempt of a transaction does not change the start of its attempt.
pub began_kept : {Op : Type 0} (t : Name) (early past : List (Step Op)) (s : Step Op) → Began t early past → (Starts t (past ++ s ∷ []) → ⊥) → Began t early (past ++ s ∷ [])
began_kept {Op} t early past s b n = record {
  starts = b.starts;
  within = prefix_trans early past (past ++ s ∷ []) b.within (s ∷ [], refl);
  last = λ later i k. elim (prefix_cases later past s i) [
    | inl j ↦ b.last later j k
    | inr e ↦ absurd (n (subst (λ (w : List (Step Op)). Starts t w) e k))
  ];
}

-- An attempt of a transaction began after one prefix only.
pub began_one : {Op : Type 0} (t : Name) (ss e f : List (Step Op)) → Began t e ss → Began t f ss → e ≡ f
began_one t ss e f b c = prefix_both e f (c.last e b.within b.starts) (b.last f c.within c.starts)

module _ {Op State : Type 0} (O : Object Op State) (h : Option (Start Op)) (met : StartMeets O h) where
  -- A transaction with a BEGIN has an attempt that began.
  began_body : (t : Name) (ss : List (Step Op)) → RunsFrom O (first h) ss → bodies_of t ss ≢ [] → (early : List (Step Op)) × Began t early ss
  began_body t ss run = along_from O h met (λ w. bodies_of t w ≢ [] → (early : List (Step Op)) × Began t early w) step [] ss (λ n. absurd (n refl)) run
    where
      starts : (past : List (Step Op)) (s : Step Op) → RunsFrom O (first h) (past ++ s ∷ []) → bodies_of t (s ∷ []) ≢ [] → Starts t (past ++ s ∷ [])
      starts past (Begin u p b) r n = elim (name_or_not u t) [
        | inl e ↦
            let fresh = (meets_at O h met past [] (Begin u p b) r).0 in
            let none = (traced_at O h met past (front O h met past (Begin u p b ∷ []) r)).fresh_list u fresh in
            (Begin u p b, last_end past (Begin u p b), e, own_quiet t past (Begin u p b) refl refl ∙ ap (λ (w : Name). own_of w past) (sym e) ∙ none)
        | inr e ↦ absurd (n (quiet_bodies {Op = Op} t (Begin u p b) e))
      ]
      starts past (App u id op) r n = absurd (n refl)
      starts past (Unapp u id) r n = absurd (n refl)
      starts past (Push u id) r n = absurd (n refl)
      starts past (Unpush u id) r n = absurd (n refl)
      starts past (Pull u id) r n = absurd (n refl)
      starts past (Unpull u id) r n = absurd (n refl)
      starts past (Cmt u) r n = absurd (n refl)
      starts past (Quit u) r n = absurd (n refl)
      starts past (Note u) r n = absurd (n refl)

      step : (past : List (Step Op)) (s : Step Op) → RunsFrom O (first h) (past ++ s ∷ [])
          → (bodies_of t past ≢ [] → (early : List (Step Op)) × Began t early past)
          → bodies_of t (past ++ s ∷ []) ≢ [] → (early : List (Step Op)) × Began t early (past ++ s ∷ [])
      step past s r k n = elim (starts_or_not t past s) [
        | inl y ↦ (past ++ s ∷ [], began_new t (past ++ s ∷ []) y)
        | inr not ↦ elim (empty_or_not (bodies_of t past)) [
          | inl e ↦ absurd (not (starts past s r (λ z. n (bodies-append t past (s ∷ []) ∙ ap (λ (w : List (Option Tree)). w ++ bodies_of t (s ∷ [])) e ∙ z))))
          | inr m ↦ let b = k m in (b.0, began_kept t b.0 past s b.1 not)
        ]
      ]

  -- A transaction without a BEGIN applied nothing.
  has_body : (t : Name) (ss : List (Step Op)) → RunsFrom O (first h) ss → bodies_of t ss ≡ [] → own_of t ss ≡ []
  has_body t ss run = along_from O h met (λ w. bodies_of t w ≡ [] → own_of t w ≡ []) step [] ss (λ e. refl) run
    where
      step : (past : List (Step Op)) (s : Step Op) → RunsFrom O (first h) (past ++ s ∷ []) → (bodies_of t past ≡ [] → own_of t past ≡ [])
          → bodies_of t (past ++ s ∷ []) ≡ [] → own_of t (past ++ s ∷ []) ≡ []
      step past s r k e =
          let none : bodies_of t past ≡ [] = (both_none (bodies_of t past) (bodies_of t (s ∷ [])) (sym (bodies-append t past (s ∷ [])) ∙ e)).0 in
          elim (own_step O h met t past s r) [
            | inl same ↦ same ∙ k none
            | inr (inl more) ↦
                let q = there_holds (tx t (after h past).opened) _ (meets_at O h met past [] (App t more.0 more.1) (subst (λ (w : Step Op). RunsFrom O (first h) (past ++ w ∷ [])) more.2 r)) in
                let g = found_tx t (after h past).opened q.0 q.1 in
                let body = (traced_at O h met past (front O h met past (s ∷ []) r)).bodies q.0 g.0 in
                absurd (let no : [] ≡ (q.0).body ∷ [] = sym none ∙ ap (λ (w : Name). bodies_of w past) (sym g.1) ∙ body in cc)
            | inr (inr less) ↦ absurd (not_empty (own_of t (past ++ s ∷ [])) [] less.1 (sym (k none) ∙ less.3))
          ]

  -- Each open transaction of an accepted run began an attempt.
  pub began_open : (t : Name) (ss : List (Step Op)) → RunsFrom O (first h) ss → IsOpen h ss t → (early : List (Step Op)) × Began t early ss
  began_open t ss run x = began_body t ss run (λ e.
      let body = (traced_at O h met ss run).bodies x.0 x.1 in
      let no : [] ≡ (x.0).body ∷ [] = sym e ∙ ap (λ (w : Name). bodies_of w ss) (sym x.2) ∙ body in
      cc)

  -- Each transaction with an own list that is not empty began an attempt.
  pub began_some : (t : Name) (ss : List (Step Op)) → RunsFrom O (first h) ss → own_of t ss ≢ [] → (early : List (Step Op)) × Began t early ss
  began_some t ss run n = began_body t ss run (λ e. n (has_body t ss run e))

  -- the APP after which an entry was the last
  abbrev pub Applied : Name → List (Step Op) → List (Item Op) → Item Op → Type 0
  Applied t past l p =
      (a : List (Step Op)) × IsPrefix (a ++ App t p.id p.op ∷ []) past × (own_of t (a ++ App t p.id p.op ∷ []) ≡ l ++ p ∷ [])
      × ((early : List (Step Op)) → Began t early (a ++ App t p.id p.op ∷ []) → Began t early past)

  -- Each item of an own list was applied by an APP after which it was the last.
  pub last_app : (t : Name) (ss : List (Step Op)) → RunsFrom O (first h) ss → (l more : List (Item Op)) (p : Item Op) → own_of t ss ≡ l ++ p ∷ more → Applied t ss l p
  last_app t ss run =
      along_from O h met (λ w. (l more : List (Item Op)) (p : Item Op) → own_of t w ≡ l ++ p ∷ more → Applied t w l p) step [] ss (λ l more p e. absurd (not_empty l more p e)) run
    where
      more_after : (past : List (Step Op)) (s : Step Op) (l more : List (Item Op)) (p : Item Op) → own_of t (past ++ s ∷ []) ≡ l ++ p ∷ more → Applied t past l p → Applied t (past ++ s ∷ []) l p
      more_after past s l more p e r = (
        r.0,
        prefix_trans (r.0 ++ App t p.id p.op ∷ []) past (past ++ s ∷ []) r.1 (s ∷ [], refl),
        r.2,
        λ early b. began_kept t early past s (r.3 early b) (λ k. not_empty l more p (sym k.3 ∙ e)),
      )

      step : (past : List (Step Op)) (s : Step Op) → RunsFrom O (first h) (past ++ s ∷ [])
          → ((l more : List (Item Op)) (p : Item Op) → own_of t past ≡ l ++ p ∷ more → Applied t past l p)
          → (l more : List (Item Op)) (p : Item Op) → own_of t (past ++ s ∷ []) ≡ l ++ p ∷ more → Applied t (past ++ s ∷ []) l p
      step past s r k l more p e = elim (own_step O h met t past s r) [
        | inl same ↦ more_after past s l more p e (k l more p (sym same ∙ e))
        | inr (inl one) ↦
            let q : Item Op = record { id = one.0; op = one.1 } in
            elim (end_cases l more (own_of t past) p q (sym e ∙ one.3)) [
              | inl z ↦
                  let is : s ≡ App t p.id p.op = one.2 ∙ ap (λ (w : Item Op). App t w.id w.op) (sym z.1) in
                  subst (λ (w : Step Op). Applied t (past ++ w ∷ []) l p) (sym is) (
                    past,
                    prefix_same (past ++ App t p.id p.op ∷ []),
                    subst (λ (w : Step Op). own_of t (past ++ w ∷ []) ≡ l ++ p ∷ []) is (e ∙ ap (λ (w : List (Item Op)). l ++ p ∷ w) z.2),
                    λ early b. b,
                  )
              | inr z ↦ more_after past s l more p e (k l z.0 p z.2)
            ]
        | inr (inr less) ↦
            more_after past s l more p e
            (k l (more ++ less.1 ∷ []) p (less.3 ∙ ap (λ (w : List (Item Op)). w ++ less.1 ∷ []) e ∙ append_assoc l (p ∷ more) (less.1 ∷ [])))
      ]
