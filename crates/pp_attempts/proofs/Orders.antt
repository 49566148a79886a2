-- Proof machinery: how the own lists of orderly steps grow.
use Rattle.std.specs.Prelude.{◌≡◌, ◌≢◌, ◌≤◌, ℕ, suc, Bool, true, false, cond, not, List}
use Rattle.std.specs.Prelude.{[], ◌∷◌, ◌++◌, ◌-◌, Some, filter, length, take}
use Rattle.std.proofs.Common.{refl, sym, ap, subst, ◌∙◌, arith, append_assoc}
use mathlib.Core.Logic.{inl, inr}
use Rattle.pp_model.specs.Config.{Step, Begin, App, Unapp, Push, Unpush, Pull, Unpull, Cmt, Quit, Note}
use Rattle.pp_model.specs.Config.{but_last, last}
use Rattle.pp_model.specs.Lists.{In, Before}
use Rattle.pp_model.specs.Names.{Name, ◌=ⁿ◌}
use Rattle.pp_model.specs.Object.{Item}
use Rattle.pp_model.specs.Serial.{applied_items, unapplied_ids, own_of, has_id}
use Rattle.pp_model.proofs.Lists.{in_left, before_left, before_across, before_from_filter, from_filter}
use Rattle.pp_model.proofs.Logs.{but_last_is}
use Rattle.pp_model.proofs.Names.{names_tell}
use Rattle.pp_model.proofs.Trace.{own_app, own_unapp, own_quiet, quiet_applied, quiet_dropped}
use Rattle.pp_attempts.specs.Lists.{own_after}
use Rattle.pp_attempts.specs.Peaks.{IsOrderly}

-- t's UNAPP of this id is among the steps
abbrev IsUnapplied : {Op : Type 0} → Name → ℕ → List (Step Op) → Type 0
IsUnapplied {Op} t i ss = (past rest : List (Step Op)) × (ss ≡ past ++ Unapp t i ∷ rest)

one_more : {Op : Type 0} (t : Name) (i : ℕ) (s : Step Op) (ss : List (Step Op)) → IsUnapplied t i ss → IsUnapplied t i (s ∷ ss)
one_more {Op} t i s ss r = (s ∷ r.0, r.1, ap (λ (w : List (Step Op)). s ∷ w) r.2)

unapplied_there : {Op : Type 0} (t : Name) (i : ℕ) (ss : List (Step Op)) → In i (unapplied_ids t ss) → IsUnapplied t i ss
unapplied_there t i [] h = absurd h
unapplied_there {Op} t i (Unapp u id ∷ ss) h = elim (names_tell u t) [
  | inl r ↦ elim (subst (λ (b : Bool). In i (cond b (id ∷ unapplied_ids t ss) (unapplied_ids t ss))) r.0 h) [
    | inl e ↦ ([], ss, ap (λ (w : Name). Unapp w id ∷ ss) r.1 ∙ ap (λ (w : ℕ). Unapp t w ∷ ss) (sym e))
    | inr k ↦ one_more t i (Unapp u id) ss (unapplied_there t i ss k)
  ]
  | inr r ↦ one_more t i (Unapp u id) ss (unapplied_there t i ss (subst (λ (b : Bool). In i (cond b (id ∷ unapplied_ids t ss) (unapplied_ids t ss))) r.0 h))
]
unapplied_there t i (s ∷ ss) h = one_more t i s ss (unapplied_there t i ss h)

-- Each item that a transaction applied is in one of its APP steps.
pub applied_there : {Op : Type 0} (t : Name) (p : Item Op) (ss : List (Step Op)) → In p (applied_items t ss) → In (App t p.id p.op) ss
applied_there t p [] h = absurd h
applied_there {Op} t p (App u id op ∷ ss) h = elim (names_tell u t) [
  | inl r ↦ elim (subst (λ (b : Bool). In p (cond b (record { id = id; op = op } ∷ applied_items t ss) (applied_items t ss))) r.0 h) [
    | inl e ↦ inl (ap (λ (w : Item Op). App t w.id w.op) e ∙ ap (λ (w : Name). App w id op) (sym r.1))
    | inr k ↦ inr (applied_there t p ss k)
  ]
  | inr r ↦ inr (applied_there t p ss (subst (λ (b : Bool). In p (cond b (record { id = id; op = op } ∷ applied_items t ss) (applied_items t ss))) r.0 h))
]
applied_there t p (s ∷ ss) h = inr (applied_there t p ss h)

applied_before : {Op : Type 0} (t : Name) (p q : Item Op) (ss : List (Step Op)) → Before p q (applied_items t ss) → Before (App t p.id p.op) (App t q.id q.op) ss
applied_before t p q [] h = absurd h
applied_before {Op} t p q (App u id op ∷ ss) h = elim (names_tell u t) [
  | inl r ↦ elim (subst (λ (b : Bool). Before p q (cond b (record { id = id; op = op } ∷ applied_items t ss) (applied_items t ss))) r.0 h) [
    | inl e ↦ inl (ap (λ (w : Item Op). App t w.id w.op) e.0 ∙ ap (λ (w : Name). App w id op) (sym r.1), applied_there t q ss e.1)
    | inr k ↦ inr (applied_before t p q ss k)
  ]
  | inr r ↦ inr (applied_before t p q ss (subst (λ (b : Bool). Before p q (cond b (record { id = id; op = op } ∷ applied_items t ss) (applied_items t ss))) r.0 h))
]
applied_before t p q (s ∷ ss) h = inr (applied_before t p q ss h)

but_last-take : {A : Type 0} (xs : List A) → but_last xs ≡ take (length xs - 1) xs
but_last-take [] = refl
but_last-take (x ∷ []) = refl
but_last-take {A} (x ∷ y ∷ xs) =
    let n : suc (length xs) ≡ length (x ∷ y ∷ xs) - 1 = omega arith in
    ap (λ (w : List A). x ∷ w) (but_last-take (y ∷ xs) ∙ ap (λ (k : ℕ). take k (y ∷ xs)) (let m : length (y ∷ xs) - 1 ≡ length xs = omega arith in m))
    ∙ ap (λ (k : ℕ). take k (x ∷ y ∷ xs)) n

-- the steps that go before a step and those that come after
module _ {Op : Type 0} (past rest : List (Step Op)) (s : Step Op) (orderly : IsOrderly (past ++ s ∷ rest)) where
  -- an id that is undone was applied before, so it is not applied again
  not_undone : (t u : Name) (id : ℕ) (op : Op) → s ≡ App u id op → In id (unapplied_ids t past) → ⊥
  not_undone t u id op is h =
      let r = unapplied_there t id past h in
      let there : past ++ s ∷ rest ≡ r.0 ++ Unapp t id ∷ (r.1 ++ s ∷ rest) =
      ap (λ (w : List (Step Op)). w ++ s ∷ rest) r.2 ∙ append_assoc r.0 (Unapp t id ∷ r.1) (s ∷ rest) in
      let p = orderly.last_first r.0 (r.1 ++ s ∷ rest) t id there in
      let own = but_last_is p.0 _ p.1 in
      let in_own : In p.0 (own_of t r.0) = subst (λ (w : List (Item Op)). In p.0 w) (sym own) (in_last p.0 (but_last (own_of t r.0))) in
      let applied = applied_there t p.0 r.0 (from_filter _ p.0 (applied_items t r.0) in_own).0 in
      let before : Before (App t (p.0).id (p.0).op) s (past ++ s ∷ rest) =
      before_across _ s past (s ∷ rest) (subst (λ (w : List (Step Op)). In (App t (p.0).id (p.0).op) w) (sym r.2) (in_left _ r.0 (Unapp t id ∷ r.1) applied)) (inl refl) in
      orderly.once t u id (p.0).op op (subst (λ (w : Step Op). Before (App t id (p.0).op) w (past ++ s ∷ rest)) is
      (subst (λ (i : ℕ). Before (App t i (p.0).op) s (past ++ s ∷ rest)) p.2 before))
    where
      in_last : (q : Item Op) (l : List (Item Op)) → In q (l ++ q ∷ [])
      in_last q [] = inl refl
      in_last q (x ∷ l) = inr (in_last q l)

  -- An operation that is undone is the last of the own list, and its id occurs once.
  undone_once : (t : Name) (id : ℕ) → s ≡ Unapp t id → (p : Item Op) × (last (own_of t past) ≡ Some p) × (p.id ≡ id)
      × ((q : Item Op) → In q (but_last (own_of t past)) → q.id ≢ id)
  undone_once t id is =
      let p = orderly.last_first past rest t id (ap (λ (w : Step Op). past ++ w ∷ rest) is) in
      let own = but_last_is p.0 _ p.1 in (
        p.0,
        p.1,
        p.2,
        λ q i e.
            let both : Before q p.0 (own_of t past) = subst (λ (w : List (Item Op)). Before q p.0 w) (sym own)
            (before_across q p.0 (but_last (own_of t past)) ((p.0) ∷ []) i (inl refl)) in
            let applied = applied_before t q p.0 past (before_from_filter _ q p.0 (applied_items t past) both) in
            orderly.once t t id q.op (p.0).op (subst (λ (i : ℕ). Before (App t i q.op) (App t id (p.0).op) (past ++ s ∷ rest)) e
            (subst (λ (i : ℕ). Before (App t q.id q.op) (App t i (p.0).op) (past ++ s ∷ rest)) p.2 (before_left _ _ past (s ∷ rest) applied))),
      )

  own_grows_by : (t : Name) (a : Step Op) → s ≡ a → own_of t (past ++ a ∷ []) ≡ own_after t a (own_of t past)
  own_grows_by t (App u id op) is = elim (names_tell u t) [
    | inl r ↦ ap (λ (w : Name). own_of t (past ++ App w id op ∷ [])) r.1 ∙ own_app t id op past (not_undone t u id op is)
        ∙ ap (λ (b : Bool). cond b (own_of t past ++ record { id = id; op = op } ∷ []) (own_of t past)) (sym r.0)
    | inr r ↦ own_quiet t past (App u id op) (quiet_applied t (App u id op) r.1) refl
        ∙ ap (λ (b : Bool). cond b (own_of t past ++ record { id = id; op = op } ∷ []) (own_of t past)) (sym r.0)
  ]
  own_grows_by t (Unapp u id) is = elim (names_tell u t) [
    | inl r ↦ undone r.1 r.0
    | inr r ↦ own_quiet t past (Unapp u id) refl (quiet_dropped {Op = Op} t (Unapp u id) r.1)
        ∙ ap (λ (b : Bool). cond b (take (length (own_of t past) - 1) (own_of t past)) (own_of t past)) (sym r.0)
  ]
    where
      undone : u ≡ t → (u =ⁿ t) ≡ true → own_of t (past ++ Unapp u id ∷ []) ≡ cond (u =ⁿ t) (take (length (own_of t past) - 1) (own_of t past)) (own_of t past)
      undone n b =
          let p = undone_once t id (is ∙ ap (λ (w : Name). Unapp w id) n) in
          ap (λ (w : Name). own_of t (past ++ Unapp w id ∷ [])) n
          ∙ own_unapp t id past (but_last (own_of t past)) p.0 (but_last_is p.0 _ p.1) p.2 p.3
          ∙ ap (λ (b : Bool). cond b (but_last (own_of t past)) (own_of t past)) (sym b)
          ∙ ap (λ (w : List (Item Op)). cond (u =ⁿ t) w (own_of t past)) (but_last-take (own_of t past))
  own_grows_by t (Begin u v b) is = own_quiet t past (Begin u v b) refl refl
  own_grows_by t (Push u id) is = own_quiet t past (Push u id) refl refl
  own_grows_by t (Unpush u id) is = own_quiet t past (Unpush u id) refl refl
  own_grows_by t (Pull u id) is = own_quiet t past (Pull u id) refl refl
  own_grows_by t (Unpull u id) is = own_quiet t past (Unpull u id) refl refl
  own_grows_by t (Cmt u) is = own_quiet t past (Cmt u) refl refl
  own_grows_by t (Quit u) is = own_quiet t past (Quit u) refl refl
  own_grows_by t (Note u) is = own_quiet t past (Note u) refl refl

  -- One more orderly step changes an own list as the step says: it adds, removes or leaves.
  pub own_grows : (t : Name) → own_of t (past ++ s ∷ []) ≡ own_after t s (own_of t past)
  own_grows t = own_grows_by t s refl

applied_short : {Op : Type 0} (t : Name) (ss : List (Step Op)) → length (applied_items t ss) ≤ length ss
applied_short t [] = omega arith
applied_short {Op} t (App u id op ∷ ss) =
    let shorter = applied_short t ss in
    elim (names_tell u t) [
      | inl r ↦ subst (λ (b : Bool). length (cond b (record { id = id; op = op } ∷ applied_items t ss) (applied_items t ss)) ≤ suc (length ss)) (sym r.0) (omega (arith, shorter))
      | inr r ↦ subst (λ (b : Bool). length (cond b (record { id = id; op = op } ∷ applied_items t ss) (applied_items t ss)) ≤ suc (length ss)) (sym r.0) (omega (arith, shorter))
    ]
applied_short t (s ∷ ss) = let shorter = applied_short t ss in omega (arith, shorter)

filter_short : {A : Type 0} (test : A → Bool) (xs : List A) → length (filter test xs) ≤ length xs
filter_short test [] = omega arith
filter_short {A} test (x ∷ xs) = by (test x) (filter_short test xs)
  where
    by : (b : Bool) → length (filter test xs) ≤ length xs → length (cond b (x ∷ filter test xs) (filter test xs)) ≤ suc (length xs)
    by true h = omega (arith, h)
    by false h = omega (arith, h)

-- t's own list is not longer than the steps
pub own_short : {Op : Type 0} (t : Name) (ss : List (Step Op)) → length (own_of t ss) ≤ length ss
own_short t ss = omega (arith, filter_short (λ p. not (has_id p.id (unapplied_ids t ss))) (applied_items t ss), applied_short t ss)
