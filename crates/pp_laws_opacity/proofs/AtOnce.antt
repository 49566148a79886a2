-- Proof machinery: if each operation is pushed at once, all own entries are pushed.
use Rattle.std.specs.Prelude.{◌≡◌, ◌≢◌, ◌⊎◌, ◌==◌, ℕ, Bool, true, false, cond, not, List, [], ◌∷◌, ◌++◌, Option, None, Some}
use Rattle.std.proofs.Common.{refl, sym, ap, subst, ◌∙◌, append_assoc}
use Rattle.std.proofs.lemmas.Bool.Decides.{eqb_tells}
use mathlib.Core.Logic.{inl, inr}
use Rattle.pp_model.specs.Config.{Begin, App, Unapp, Push, Unpush, Pull, Unpull, Cmt, Quit, Note}
use Rattle.pp_model.specs.Config.{Config, LocalEntry, Mark, Pushed, SharedEntry, Start, Step, Tx, Unpushed}
use Rattle.pp_model.specs.Config.{after, as_applied, as_pulled, at_mark, but_last, commit_effect, entry_of, first, is_own}
use Rattle.pp_model.specs.Config.{last, of_other, on_log, pull_effect, push_effect, set_mark, then, tx, without_local}
use Rattle.pp_model.specs.Lists.{Before, In}
use Rattle.pp_model.specs.Names.{Name, ◌=ⁿ◌}
use Rattle.pp_model.specs.Object.{Object}
use Rattle.pp_model.specs.Rules.{RunsFrom, StartMeets}
use Rattle.pp_model.proofs.Begin.{each_added}
use Rattle.pp_model.proofs.Lists.{before_across, by_key, from_filter, from_map, in_cases}
use Rattle.pp_model.proofs.Logs.{but_last_is, found_tx, in_but_last, on_each}
use Rattle.pp_model.proofs.Steps.{last_holds, there_holds}
use Rattle.pp_laws_opacity.specs.Opacity.{IsPrefix}
use Rattle.pp_laws_opacity.specs.Sufficient.{HasPushed, PushesAtOnce}
use Rattle.pp_laws_opacity.proofs.Apps.{after_step}
use Rattle.pp_laws_opacity.proofs.Prefixes.{prefix_trans, last_end}
use Rattle.pp_laws_opacity.proofs.Runs.{along_from, front, meets_at, sound_at}

-- the last step pushes nothing yet, or has taken back a push
abbrev IsPending : {Op : Type 0} → List (Step Op) → Name → ℕ → Type 0
IsPending {Op} past t i = ((op : Op) × (last past ≡ Some (App t i op))) ⊎ (last past ≡ Some (Unpush t i))

-- each own entry of these is such
abbrev Each : {Op : Type 0} → List (Tx Op) → (Name → LocalEntry Op → Type 0) → Type 0
Each {Op} xs Q = (x : Tx Op) → In x xs → (e : LocalEntry Op) → In e x.local → is_own e.mark ≡ true → Q x.name e

abbrev IsPushed : {Op : Type 0} → Name → LocalEntry Op → Type 0
IsPushed t e = e.mark ≡ Pushed

changed : {Op : Type 0} (t : Name) (f : List (LocalEntry Op) → List (LocalEntry Op)) (xs : List (Tx Op)) (Q : Name → LocalEntry Op → Type 0)
    → ((y : Tx Op) → In y xs → y.name ≡ t → (e : LocalEntry Op) → In e (f y.local) → is_own e.mark ≡ true → Q y.name e)
    → ((y : Tx Op) → In y xs → y.name ≢ t → (e : LocalEntry Op) → In e y.local → is_own e.mark ≡ true → Q y.name e)
    → Each (on_log t f xs) Q
changed {Op} t f xs Q a b = on_each t f xs (λ (x : Tx Op). (e : LocalEntry Op) → In e x.local → is_own e.mark ≡ true → Q x.name e) a b

-- an entry of a log with a mark set: it has that mark and this id, or it is as it was
remarked : {Op : Type 0} (id : ℕ) (m : Mark) (l : List (LocalEntry Op)) (e : LocalEntry Op) → In e (set_mark id m l) → ((e.id ≡ id) × (e.mark ≡ m)) ⊎ (In e l × (e.id ≢ id))
remarked {Op} id m l e i =
    let z = from_map (λ (w : LocalEntry Op). cond (w.id == id) (record w { mark = m }) w) e l i in
    let o : LocalEntry Op = z.0 in
    let n : LocalEntry Op = record { id = o.id; owner = o.owner; mark = m; op = o.op } in
    elim (eqb_tells o.id id) [
      | inl r ↦ let is : e ≡ n = z.2 ∙ ap (λ (b : Bool). cond b n o) r.0 in inl (ap (λ (w : LocalEntry Op). w.id) is ∙ r.1, ap (λ (w : LocalEntry Op). w.mark) is)
      | inr r ↦ let is : e ≡ o = z.2 ∙ ap (λ (b : Bool). cond b n o) r.0 in
          inr (subst (λ (w : LocalEntry Op). In w l) (sym is) z.1, λ k. r.1 (ap (λ (w : LocalEntry Op). w.id) (sym is) ∙ k))
    ]

-- which of the two the last step is, if it is one
abbrev Latest : {Op : Type 0} → Option (Step Op) → Type 0
Latest {Op} o =
    ((t : Name) × (id : ℕ) × (op : Op) × (o ≡ Some (App t id op)))
    ⊎ ((t : Name) × (id : ℕ) × (o ≡ Some (Unpush t id)))
    ⊎ ((t : Name) (id : ℕ) → (((op : Op) × (o ≡ Some (App t id op))) ⊎ (o ≡ Some (Unpush t id))) → ⊥)

latest : {Op : Type 0} (o : Option (Step Op)) → Latest o
latest None = inr (inr (λ t id p. elim p [ inl e ↦ absurd (cc e.1) | inr e ↦ absurd (cc) ]))
latest (Some (App t id op)) = inl (t, id, op, refl)
latest (Some (Unpush t id)) = inr (inl (t, id, refl))
latest (Some (Begin u p b)) = inr (inr (λ t id p. elim p [ inl e ↦ absurd (cc e.1) | inr e ↦ absurd (cc) ]))
latest (Some (Unapp u i)) = inr (inr (λ t id p. elim p [ inl e ↦ absurd (cc e.1) | inr e ↦ absurd (cc) ]))
latest (Some (Push u i)) = inr (inr (λ t id p. elim p [ inl e ↦ absurd (cc e.1) | inr e ↦ absurd (cc) ]))
latest (Some (Pull u i)) = inr (inr (λ t id p. elim p [ inl e ↦ absurd (cc e.1) | inr e ↦ absurd (cc) ]))
latest (Some (Unpull u i)) = inr (inr (λ t id p. elim p [ inl e ↦ absurd (cc e.1) | inr e ↦ absurd (cc) ]))
latest (Some (Cmt u)) = inr (inr (λ t id p. elim p [ inl e ↦ absurd (cc e.1) | inr e ↦ absurd (cc) ]))
latest (Some (Quit u)) = inr (inr (λ t id p. elim p [ inl e ↦ absurd (cc e.1) | inr e ↦ absurd (cc) ]))
latest (Some (Note u)) = inr (inr (λ t id p. elim p [ inl e ↦ absurd (cc e.1) | inr e ↦ absurd (cc) ]))

same_app : {Op : Type 0} (t u : Name) (i j : ℕ) (a b : Op) → ◌≡◌ {A = Option (Step Op)} (Some (App t i a)) (Some (App u j b)) → (t ≡ u) × (i ≡ j)
same_app t u i j a b e = (cc, cc)

same_unpush : {Op : Type 0} (t u : Name) (i j : ℕ) → ◌≡◌ {A = Option (Step Op)} (Some (Unpush t i)) (Some (Unpush u j)) → (t ≡ u) × (i ≡ j)
same_unpush t u i j e = (cc, cc)

app_or_unpush : {Op : Type 0} (t u : Name) (i j : ℕ) (a : Op) → ◌≡◌ {A = Option (Step Op)} (Some (App t i a)) (Some (Unpush u j)) → ⊥
app_or_unpush t u i j a e = cc

same_first : {A : Type 0} (x y : A) (k l : List A) → x ∷ k ≡ y ∷ l → x ≡ y
same_first x y k l e = cc

module _ {Op State : Type 0} (O : Object Op State) (h : Option (Start Op)) (met : StartMeets O h) where
  -- The open transactions after a PUSH are those before it, with one mark set to Pushed.
  pub opened_by_push : (past : List (Step Op)) (t : Name) (id : ℕ) → RunsFrom O (first h) (past ++ Push t id ∷ []) → (after h (past ++ Push t id ∷ [])).opened ≡ on_log t (set_mark id Pushed) (after h past).opened
  opened_by_push past t id run =
      let c = after h past in
      let q = there_holds (tx t c.opened) _ (meets_at O h met past [] (Push t id) run) in
      let x : Tx Op = q.0 in
      let k = there_holds (at_mark id Unpushed x.local) _ q.2 in
      ap (λ (w : Config Op). w.opened) (after_step (first h) past (Push t id))
      ∙ ap (λ (w : Option (LocalEntry Op)). (push_effect c t id w).opened) (ap (λ (w : Option (Tx Op)). entry_of id Unpushed w) q.1 ∙ k.1)

  module _ (ss : List (Step Op)) (run : RunsFrom O (first h) ss) (eager : PushesAtOnce ss) where
    abbrev AllBut : List (Step Op) → Type 0
    AllBut past = Each (after h past).opened (λ t e. (e.mark ≡ Pushed) ⊎ IsPending past t e.id)

    -- a step after which nothing is pending
    settled : (past : List (Step Op)) → Each (after h past).opened IsPushed → AllBut past
    settled past k x i e j o = inl (k x i e j o)

    -- after a step before which nothing is pending
    step_settled : (past : List (Step Op)) (s : Step Op) → RunsFrom O (first h) (past ++ s ∷ []) → Each (after h past).opened IsPushed
        → Each (then (after h past) s).opened (λ t e. (e.mark ≡ Pushed) ⊎ IsPending (past ++ s ∷ []) t e.id)
    step_settled past (Begin t p b) r k =
        each_added (after h past).opened (record { name = t; thread = p; body = b; local = [] })
        (λ (x : Tx Op). (e : LocalEntry Op) → In e x.local → is_own e.mark ≡ true → (e.mark ≡ Pushed) ⊎ IsPending (past ++ Begin t p b ∷ []) x.name e.id)
        (λ y i e j o. inl (k y i e j o)) (λ e j. absurd j)
    step_settled past (App t id op) r k =
        changed t (λ l. l ++ as_applied t id op ∷ []) (after h past).opened (λ u e. (e.mark ≡ Pushed) ⊎ IsPending (past ++ App t id op ∷ []) u e.id)
        (λ y i n e j o. elim (in_cases e y.local (as_applied t id op ∷ []) j) [
          | inl a ↦ inl (k y i e a o)
          | inr (inl a) ↦ inr (inl (op, last_end past (App t id op) ∙ ap (λ (w : Name). Some (App w id op)) (sym n) ∙ ap (λ (w : LocalEntry Op). Some (App y.name w.id op)) (sym a)))
          | inr (inr a) ↦ absurd a
        ])
        (λ y i n e j o. inl (k y i e j o))
    step_settled past (Unapp t id) r k =
        changed t but_last (after h past).opened (λ u e. (e.mark ≡ Pushed) ⊎ IsPending (past ++ Unapp t id ∷ []) u e.id)
        (λ y i n e j o. inl (k y i e (in_but_last e y.local j) o)) (λ y i n e j o. inl (k y i e j o))
    step_settled past (Push t id) r k =
        let is = sym (ap (λ (w : Config Op). w.opened) (after_step (first h) past (Push t id))) ∙ opened_by_push past t id r in
        subst (λ (w : List (Tx Op)). Each w (λ u e. (e.mark ≡ Pushed) ⊎ IsPending (past ++ Push t id ∷ []) u e.id)) (sym is)
        (changed t (set_mark id Pushed) (after h past).opened (λ u e. (e.mark ≡ Pushed) ⊎ IsPending (past ++ Push t id ∷ []) u e.id)
        (λ y i n e j o. elim (remarked id Pushed y.local e j) [ inl a ↦ inl a.1 | inr a ↦ inl (k y i e a.0 o) ])
        (λ y i n e j o. inl (k y i e j o)))
    step_settled past (Unpush t id) r k =
        changed t (set_mark id Unpushed) (after h past).opened (λ u e. (e.mark ≡ Pushed) ⊎ IsPending (past ++ Unpush t id ∷ []) u e.id)
        (λ y i n e j o. elim (remarked id Unpushed y.local e j) [
          | inl a ↦ inr (inr (last_end past (Unpush t id) ∙ ap (λ (w : Name). Some (Unpush w id)) (sym n) ∙ ap (λ (w : ℕ). Some (Unpush y.name w)) (sym a.0)))
          | inr a ↦ inl (k y i e a.0 o)
        ])
        (λ y i n e j o. inl (k y i e j o))
    step_settled past (Pull t id) r k = by (of_other t id (after h past).shared)
      where
        by : (g : Option (SharedEntry Op)) → Each (pull_effect (after h past) t id g).opened (λ u e. (e.mark ≡ Pushed) ⊎ IsPending (past ++ Pull t id ∷ []) u e.id)
        by None = λ x i e j o. inl (k x i e j o)
        by (Some g) =
            changed t (λ l. l ++ as_pulled g ∷ []) (after h past).opened (λ u e. (e.mark ≡ Pushed) ⊎ IsPending (past ++ Pull t id ∷ []) u e.id)
            (λ y i n e j o. elim (in_cases e y.local (as_pulled g ∷ []) j) [
              | inl a ↦ inl (k y i e a o)
              | inr (inl a) ↦ absurd (let z : false ≡ true = ap (λ (w : LocalEntry Op). is_own w.mark) (sym a) ∙ o in cc)
              | inr (inr a) ↦ absurd a
            ])
            (λ y i n e j o. inl (k y i e j o))
    step_settled past (Unpull t id) r k =
        changed t (without_local id) (after h past).opened (λ u e. (e.mark ≡ Pushed) ⊎ IsPending (past ++ Unpull t id ∷ []) u e.id)
        (λ y i n e j o. inl (k y i e (from_filter (λ (w : LocalEntry Op). not (w.id == id)) e y.local j).0 o)) (λ y i n e j o. inl (k y i e j o))
    step_settled past (Cmt t) r k = by (tx t (after h past).opened)
      where
        by : (z : Option (Tx Op)) → Each (commit_effect (after h past) t z).opened (λ u e. (e.mark ≡ Pushed) ⊎ IsPending (past ++ Cmt t ∷ []) u e.id)
        by None = λ x i e j o. inl (k x i e j o)
        by (Some z) = λ x i e j o. inl (k x (from_filter (λ (w : Tx Op). not (w.name =ⁿ t)) x (after h past).opened i).0 e j o)
    step_settled past (Quit t) r k = λ x i e j o. inl (k x (from_filter (λ (w : Tx Op). not (w.name =ⁿ t)) x (after h past).opened i).0 e j o)
    step_settled past (Note t) r k = λ x i e j o. inl (k x i e j o)

    -- the PUSH that comes after an APP
    step_push : (past : List (Step Op)) (t : Name) (id : ℕ) (op : Op) → RunsFrom O (first h) (past ++ Push t id ∷ []) → last past ≡ Some (App t id op) → AllBut past
        → Each (after h (past ++ Push t id ∷ [])).opened IsPushed
    step_push past t id op r l k =
        let mine : (y : Tx Op) (e : LocalEntry Op) → (e.mark ≡ Pushed) ⊎ IsPending past y.name e.id → (y.name ≢ t) ⊎ (e.id ≢ id) → e.mark ≡ Pushed = λ y e p n. elim p [
          | inl m ↦ m
          | inr (inl q) ↦
              let z = same_app y.name t e.id id q.0 op (sym q.1 ∙ l) in
              absurd (elim n [ inl a ↦ a z.0 | inr a ↦ a z.1 ])
          | inr (inr q) ↦ absurd (app_or_unpush t y.name id e.id op (sym l ∙ q))
        ] in
        subst (λ (w : List (Tx Op)). Each w IsPushed) (sym (opened_by_push past t id r))
        (changed t (set_mark id Pushed) (after h past).opened IsPushed
        (λ y i n e j o. elim (remarked id Pushed y.local e j) [ inl a ↦ a.1 | inr a ↦ mine y e (k y i e a.0 o) (inr a.1) ])
        (λ y i n e j o. mine y e (k y i e j o) (inl n)))

    -- the UNAPP that comes after an UNPUSH
    step_unapp : (past : List (Step Op)) (t : Name) (id : ℕ) → RunsFrom O (first h) (past ++ Unapp t id ∷ []) → last past ≡ Some (Unpush t id) → AllBut past
        → Each (after h (past ++ Unapp t id ∷ [])).opened IsPushed
    step_unapp past t id r l k =
        let c = after h past in
        let s = sound_at O h met past (front O h met past (Unapp t id ∷ []) r) in
        let q = there_holds (tx t c.opened) _ (meets_at O h met past [] (Unapp t id) r) in
        let g = found_tx t c.opened q.0 q.1 in
        let z = last_holds id (last (q.0).local) q.2.0 in
        let mine : (y : Tx Op) (e : LocalEntry Op) → (e.mark ≡ Pushed) ⊎ IsPending past y.name e.id → (y.name ≢ t) ⊎ (e.id ≢ id) → e.mark ≡ Pushed = λ y e p n. elim p [
          | inl m ↦ m
          | inr (inl q) ↦ absurd (app_or_unpush y.name t e.id id q.0 (sym q.1 ∙ l))
          | inr (inr q) ↦ let z = same_unpush {Op = Op} y.name t e.id id (sym q ∙ l) in absurd (elim n [ inl a ↦ a z.0 | inr a ↦ a z.1 ])
        ] in
        let apart : (y : Tx Op) → In y c.opened → y.name ≡ t → (e : LocalEntry Op) → In e (but_last y.local) → e.id ≢ id = λ y i n e j m.
        let same : q.0 ≡ y = by_key (λ (w : Tx Op). w.name) c.opened s.open_names q.0 y g.0 i (g.1 ∙ sym n) in
        let there : last y.local ≡ Some z.0 = ap (λ (w : Tx Op). last w.local) (sym same) ∙ z.1 in
        let is = but_last_is z.0 y.local there in
        let pair : Before e z.0 y.local = subst (λ (w : List (LocalEntry Op)). Before e z.0 w) (sym is) (before_across e z.0 (but_last y.local) (z.0 ∷ []) j (inl refl)) in
        s.local_ids y i e z.0 pair (m ∙ sym z.2) in
        subst (λ (w : List (Tx Op)). Each w IsPushed) (sym (ap (λ (w : Config Op). w.opened) (after_step (first h) past (Unapp t id))))
        (changed t but_last c.opened IsPushed
        (λ y i n e j o. mine y e (k y i e (in_but_last e y.local j) o) (inr (apart y i n e j)))
        (λ y i n e j o. mine y e (k y i e j o) (inl n)))

    -- a step that has this one before it
    parted : (past : List (Step Op)) (s a : Step Op) (b : IsPrefix (past ++ s ∷ []) ss) → last past ≡ Some a → ss ≡ but_last past ++ a ∷ (s ∷ b.0)
    parted past s a b l =
        b.1 ∙ append_assoc past (s ∷ []) b.0 ∙ ap (λ (w : List (Step Op)). w ++ s ∷ b.0) (but_last_is a past l) ∙ append_assoc (but_last past) (a ∷ []) (s ∷ b.0)

    all_but : (past : List (Step Op)) → IsPrefix past ss → AllBut past
    all_but past b = along_from O h met (λ w. IsPrefix w ss → AllBut w) step [] past (λ i. none h) (front O h met past b.0 (subst (λ (w : List (Step Op)). RunsFrom O (first h) w) b.1 run)) b
      where
        none : (g : Option (Start Op)) → Each (first g).opened (λ t e. (e.mark ≡ Pushed) ⊎ IsPending {Op = Op} [] t e.id)
        none None x i = absurd i
        none (Some z) x i = absurd i

        step : (past : List (Step Op)) (s : Step Op) → RunsFrom O (first h) (past ++ s ∷ []) → (IsPrefix past ss → AllBut past) → IsPrefix (past ++ s ∷ []) ss → AllBut (past ++ s ∷ [])
        step past s r f b =
            let k = f (prefix_trans past (past ++ s ∷ []) ss (s ∷ [], refl) b) in
            elim (latest (last past)) [
              | inl p ↦
                  let e = eager.app (but_last past) (s ∷ b.0) p.0 p.1 p.2 (parted past s (App p.0 p.1 p.2) b p.3) in
                  let is : s ≡ Push p.0 p.1 = same_first s (Push p.0 p.1) b.0 e.0 e.1 in
                  subst (λ (w : Step Op). AllBut (past ++ w ∷ [])) (sym is)
                  (settled (past ++ Push p.0 p.1 ∷ []) (step_push past p.0 p.1 p.2 (subst (λ (w : Step Op). RunsFrom O (first h) (past ++ w ∷ [])) is r) p.3 k))
              | inr (inl p) ↦
                  let e = eager.unpush (but_last past) (s ∷ b.0) p.0 p.1 (parted past s (Unpush p.0 p.1) b p.2) in
                  let is : s ≡ Unapp p.0 p.1 = same_first s (Unapp p.0 p.1) b.0 e.0 e.1 in
                  subst (λ (w : Step Op). AllBut (past ++ w ∷ [])) (sym is)
                  (settled (past ++ Unapp p.0 p.1 ∷ []) (step_unapp past p.0 p.1 (subst (λ (w : Step Op). RunsFrom O (first h) (past ++ w ∷ [])) is r) p.2 k))
              | inr (inr n) ↦
                  let all : Each (after h past).opened IsPushed = λ x i e j o. elim (k x i e j o) [ inl m ↦ m | inr q ↦ absurd (n x.name e.id q) ] in
                  subst (λ (w : Config Op). Each w.opened (λ t e. (e.mark ≡ Pushed) ⊎ IsPending (past ++ s ∷ []) t e.id)) (sym (after_step (first h) past s)) (step_settled past s r all)
            ]

    -- after a PUSH all is pushed
    pub pushed_after : (past : List (Step Op)) (t : Name) (id : ℕ) → IsPrefix (past ++ Push t id ∷ []) ss → HasPushed h (past ++ Push t id ∷ []) t
    pushed_after past t id b x i n e j o = elim (all_but (past ++ Push t id ∷ []) b x i e j o) [
      | inl m ↦ m
      | inr (inl q) ↦ absurd (no_app x.name e.id q.0 (sym (last_end past (Push t id)) ∙ q.1))
      | inr (inr q) ↦ absurd (no_unpush x.name e.id (sym (last_end past (Push t id)) ∙ q))
    ]
      where
        no_app : (u : Name) (i : ℕ) (op : Op) → ◌≡◌ {A = Option (Step Op)} (Some (Push t id)) (Some (App u i op)) → ⊥
        no_app u i op e = cc

        no_unpush : (u : Name) (i : ℕ) → ◌≡◌ {A = Option (Step Op)} (Some (Push t id)) (Some (Unpush u i)) → ⊥
        no_unpush u i e = cc
