-- The first false criterion with its evidence, by what the tests of the machine say.
use Rattle.std.proofs.Common.{◌≡◌, ◌≢◌, ◌&&◌, ℕ, suc, not, true, false, filter, List, [], ◌∷◌, ◌++◌}
use Rattle.std.proofs.Common.{Option, Some, None, refl, sym, subst, arith}
use Rattle.pp_model.specs.Config.{is_mark, item, own, shared_item, Step, Begin, App, Unapp, Push}
use Rattle.pp_model.specs.Config.{Unpush, Pull, Unpull, Cmt, Quit, Note, last, of_other}
use Rattle.pp_model.specs.Config.{without_local, without_shared, Tx, tx, LocalEntry, SharedEntry}
use Rattle.pp_model.specs.Config.{local_ops, shared_ops, is_own, Unpushed, Pushed, Pulled, at_mark}
use Rattle.pp_model.specs.Lists.{In, Before}
use Rattle.pp_model.specs.Body.{Tree, IsWord}
use Rattle.pp_model.specs.Names.{Name, ◌=ⁿ◌}
use Rattle.pp_model.specs.Object as model
use Rattle.pp_model.specs.Rules.{Breaks, Meets, FirstFalse, IsLast, there}
use Rattle.pp_model.proofs.Alone.{there_is}
use Rattle.pp_kind.specs.Object.{Object, IsAllowed, rules_of}
use Rattle.pp_log.specs.Logs.{answer_behind}
use Rattle.pp_machine.specs.Machines.{Seen}
use Rattle.pp_machine.specs.Courses.{MayFollow, own_calls}
use Rattle.pp_machine.specs.Evidence.{entries_before, entries_behind, evidence, first_differing}
use Rattle.pp_machine.specs.Evidence.{first_entry, first_swap, if_there, at_number}
use Rattle.pp_machine.specs.Standing.{stands_committed}
use Rattle.pp_machine.specs.Judges.{Refuses}
use Rattle.pp_machine.specs.declared.detail.Detail.{Detail}
use Rattle.pp_machine.specs.declared.detail.Detail.TheVariants.{Nothing, Gives}
use Rattle.pp_machine.specs.declared.detail.Refusal.{Refusal}

-- If there is nothing to speak of, the first of the criteria is false.
pub there_1 : {A : Type 0} (o : Option A) (f : A → List (Type 0)) → o ≡ None → FirstFalse (there o f) 1
there_1 {A} o f e = subst (λ (w : Option A). FirstFalse (there w f) 1) (sym e) (λ z. z)

-- If there is something to speak of, the first false fact about it is the first false one.
pub there_more : {A : Type 0} (o : Option A) (f : A → List (Type 0)) (x : A) (n : ℕ) → o ≡ Some x → FirstFalse (f x) (suc n) → FirstFalse (there o f) (suc (suc n))
there_more {A} o f x n e h = subst (λ (w : Option A). FirstFalse (there w f) (suc (suc n))) (sym e) (tt, h)

-- The first criterion, that a value is there, has no evidence.
pub there_shown_1 : {A Op : Type 0} (q : Option A) (f : A → List (Detail Op)) → Nothing ≡ at_number (if_there q f) 1
there_shown_1 None f = refl
there_shown_1 (Some x) f = refl

-- If there is something to speak of, the evidence for a fact about it is the evidence.
pub there_shown_more : {A Op : Type 0} (q : Option A) (f : A → List (Detail Op)) (x : A) (n : ℕ) → q ≡ Some x → {d : Detail Op} → d ≡ at_number (f x) (suc n) → d ≡ at_number (if_there q f) (suc (suc n))
there_shown_more {A} {Op} q f x n e {d} h = subst (λ (w : Option A). d ≡ at_number (if_there w f) (suc (suc n))) (sym e) h

module _ {Shape State Op Undo : Type 0} (o : Object Shape State Op Undo) (v w : Seen Shape Op) (same : v ≡ w) where
  refuse : (s : Step Op) (n : ℕ) (r : Refusal Op) (d : Detail Op) → r ≡ record { criterion = suc n; detail = d } → Breaks (rules_of o v.shape) v.config s (suc n) → d ≡ evidence o v.shape v.config s (suc n) → Refuses o w s r
  refuse s n r d is h e =
      subst (λ (z : Refusal Op). Refuses o w s z) (sym is)
      (subst (λ (z : Seen Shape Op). Refuses o z s (record { criterion = suc n; detail = d })) same (record { breaks = h; not_zero = omega arith; is_evidence = e }))

  lift_shown : (s : Step Op) (n : ℕ) (d : Detail Op) → d ≡ evidence o v.shape v.config s n → d ≡ evidence o w.shape w.config s n
  lift_shown s n d h = subst (λ (z : Seen Shape Op). d ≡ evidence o z.shape z.config s n) same h

  lift : (s : Step Op) (n : ℕ) → Breaks (rules_of o v.shape) v.config s n → Breaks (rules_of o w.shape) w.config s n
  lift s n h = subst (λ (z : Seen Shape Op). Breaks (rules_of o z.shape) z.config s n) same h

  -- An APP of a transaction that is not open violates criterion 1.
  pub app_1 : (t : Name) (id : ℕ) (op : Op) → tx t v.config.opened ≡ None → (r : Refusal Op) → r ≡ record { criterion = 1; detail = Nothing } → Refuses o w (App t id op) r
  app_1 t id op e r is = refuse (App t id op) 0 r Nothing is (there_1 (tx t v.config.opened) _ e) (there_shown_1 (tx t v.config.opened) _)

  -- An APP with an id that was used violates criterion 2.
  pub app_2 : (t : Name) (id : ℕ) (op : Op) (x : Tx Op) → tx t v.config.opened ≡ Some x → In id v.config.ids → (r : Refusal Op) → r ≡ record { criterion = 2; detail = Nothing } → Refuses o w (App t id op) r
  app_2 t id op x e i r is = refuse (App t id op) 1 r Nothing is (there_more (tx t v.config.opened) _ x 0 e (λ n. n i)) (there_shown_more (tx t v.config.opened) _ x 0 e refl)

  -- An APP with a call that may not follow violates criterion 3.
  pub app_3 : (t : Name) (id : ℕ) (op : Op) (x : Tx Op) → tx t v.config.opened ≡ Some x → (In id v.config.ids → ⊥) → (MayFollow o x.body x.local op → ⊥) → (r : Refusal Op) → r ≡ record { criterion = 3; detail = Nothing } → Refuses o w (App t id op) r
  app_3 t id op x e n b r is = refuse (App t id op) 2 r Nothing is (there_more (tx t v.config.opened) _ x 1 e (n, b)) (there_shown_more (tx t v.config.opened) _ x 1 e refl)

  -- An APP that is not allowed after the local log violates criterion 4, with the object's result.
  pub app_4 : (t : Name) (id : ℕ) (op : Op) (x : Tx Op) → tx t v.config.opened ≡ Some x → (In id v.config.ids → ⊥) → MayFollow o x.body x.local op → (IsAllowed o v.shape (local_ops x.local ++ op ∷ []) → ⊥) → (d : Detail Op) → d ≡ Gives id (answer_behind o v.shape (local_ops x.local) op) → (r : Refusal Op) → r ≡ record { criterion = 4; detail = d } → Refuses o w (App t id op) r
  app_4 t id op x e n b k d shown r is = refuse (App t id op) 3 r d is (there_more (tx t v.config.opened) _ x 2 e (n, (b, k))) (there_shown_more (tx t v.config.opened) _ x 2 e shown)

  -- An APP with a new id, a call that may follow and an allowed operation meets its criteria.
  pub app_0 : (t : Name) (id : ℕ) (op : Op) (x : Tx Op) → tx t v.config.opened ≡ Some x → (In id v.config.ids → ⊥) → MayFollow o x.body x.local op → IsAllowed o v.shape (local_ops x.local ++ op ∷ []) → Meets (rules_of o w.shape) w.config (App t id op)
  app_0 t id op x e n b k = lift (App t id op) 0 (there_is (tx t v.config.opened) _ x e (n, (b, (k, refl))))

  -- A PUSH of a transaction that is not open violates criterion 1.
  pub push_1 : (t : Name) (id : ℕ) → tx t v.config.opened ≡ None → (r : Refusal Op) → r ≡ record { criterion = 1; detail = Nothing } → Refuses o w (Push t id) r
  push_1 t id e r is = refuse (Push t id) 0 r Nothing is (there_1 (tx t v.config.opened) _ e) (there_shown_1 (tx t v.config.opened) _)

  -- A PUSH of an id without an unpushed entry violates criterion 2.
  pub push_2 : (t : Name) (id : ℕ) (x : Tx Op) → tx t v.config.opened ≡ Some x → at_mark id Unpushed x.local ≡ None → (r : Refusal Op) → r ≡ record { criterion = 2; detail = Nothing } → Refuses o w (Push t id) r
  push_2 t id x e h r is = refuse (Push t id) 1 r Nothing is (there_more (tx t v.config.opened) _ x 0 e (there_1 (at_mark id Unpushed x.local) _ h)) (there_shown_more (tx t v.config.opened) _ x 0 e (there_shown_1 (at_mark id Unpushed x.local) _))

  -- A PUSH past an earlier unpushed entry that does not swap with it violates criterion 3.
  pub push_3 : (t : Name) (id : ℕ) (x : Tx Op) (p a : LocalEntry Op) → tx t v.config.opened ≡ Some x → at_mark id Unpushed x.local ≡ Some p →
      Before a p x.local → a.mark ≡ Unpushed → (model.Swaps (rules_of o v.shape) p.op a.op → ⊥) → (d : Detail Op) → d ≡ first_swap (λ a. a.id) (λ a. o.refuting p.op a.op) (filter (λ a. is_mark a.mark Unpushed) (entries_before id x.local)) → (r : Refusal Op) → r ≡ record { criterion = 3; detail = d } → Refuses o w (Push t id) r
  push_3 t id x p a e h b m n d shown r is = refuse (Push t id) 2 r d is (there_more (tx t v.config.opened) _ x 1 e (there_more (at_mark id Unpushed x.local) _ p 0 h (λ all. n (all a b m)))) (there_shown_more (tx t v.config.opened) _ x 1 e (there_shown_more (at_mark id Unpushed x.local) _ p 0 h shown))

  -- The unpushed own entries before p swap with it.
  abbrev pub OwnSwap : Tx Op → LocalEntry Op → Type 0
  OwnSwap x p = (a : LocalEntry Op) → Before a p x.local → a.mark ≡ Unpushed → model.Swaps (rules_of o v.shape) p.op a.op

  -- The uncommitted entries of others swap with p.
  abbrev pub OthersSwap : Name → LocalEntry Op → Type 0
  OthersSwap t p = (u : SharedEntry Op) → In u v.config.shared → u.committed ≡ false → (u.owner ≡ t → ⊥) → model.Swaps (rules_of o v.shape) u.op p.op

  -- A PUSH past an uncommitted entry of another that does not swap with it violates criterion 4.
  pub push_4 : (t : Name) (id : ℕ) (x : Tx Op) (p : LocalEntry Op) (u : SharedEntry Op) → tx t v.config.opened ≡ Some x → at_mark id Unpushed x.local ≡ Some p →
      OwnSwap x p → In u v.config.shared → u.committed ≡ false → (u.owner ≡ t → ⊥) → (model.Swaps (rules_of o v.shape) u.op p.op → ⊥) → (d : Detail Op) → d ≡ first_swap (λ u. u.id) (λ u. o.refuting u.op p.op) (filter (λ u. not u.committed && not (u.owner =ⁿ t)) v.config.shared) → (r : Refusal Op) → r ≡ record { criterion = 4; detail = d } → Refuses o w (Push t id) r
  push_4 t id x p u e h own i m w n d shown r is = refuse (Push t id) 3 r d is (there_more (tx t v.config.opened) _ x 2 e (there_more (at_mark id Unpushed x.local) _ p 1 h (own, (λ all. n (all u i m w))))) (there_shown_more (tx t v.config.opened) _ x 2 e (there_shown_more (at_mark id Unpushed x.local) _ p 1 h shown))

  -- A PUSH that is not allowed after the shared log violates criterion 5.
  pub push_5 : (t : Name) (id : ℕ) (x : Tx Op) (p : LocalEntry Op) → tx t v.config.opened ≡ Some x → at_mark id Unpushed x.local ≡ Some p →
      OwnSwap x p → OthersSwap t p → (IsAllowed o v.shape (shared_ops v.config.shared ++ p.op ∷ []) → ⊥) → (d : Detail Op) → d ≡ Gives id (answer_behind o v.shape (shared_ops v.config.shared) p.op) → (r : Refusal Op) → r ≡ record { criterion = 5; detail = d } → Refuses o w (Push t id) r
  push_5 t id x p e h own others n d shown r is = refuse (Push t id) 4 r d is (there_more (tx t v.config.opened) _ x 3 e (there_more (at_mark id Unpushed x.local) _ p 2 h (own, (others, n)))) (there_shown_more (tx t v.config.opened) _ x 3 e (there_shown_more (at_mark id Unpushed x.local) _ p 2 h shown))

  -- A PUSH that swaps with what it passes and is allowed after the shared log meets its criteria.
  pub push_0 : (t : Name) (id : ℕ) (x : Tx Op) (p : LocalEntry Op) → tx t v.config.opened ≡ Some x → at_mark id Unpushed x.local ≡ Some p →
      OwnSwap x p → OthersSwap t p → IsAllowed o v.shape (shared_ops v.config.shared ++ p.op ∷ []) → Meets (rules_of o w.shape) w.config (Push t id)
  push_0 t id x p e h own others k = lift (Push t id) 0 (there_is (tx t v.config.opened) _ x e (there_is (at_mark id Unpushed x.local) _ p h (own, (others, (k, refl)))))

  -- A CMT of a transaction that is not open violates criterion 1.
  pub cmt_1 : (t : Name) → tx t v.config.opened ≡ None → (r : Refusal Op) → r ≡ record { criterion = 1; detail = Nothing } → Refuses o w (Cmt t) r
  cmt_1 t e r is = refuse (Cmt t) 0 r Nothing is (there_1 (tx t v.config.opened) _ e) (there_shown_1 (tx t v.config.opened) _)

  -- The own calls of a transaction are a word of its body.
  abbrev pub IsComplete : Tx Op → Type 0
  IsComplete x = IsWord x.body (own_calls o x.local)

  -- A CMT of own calls that are no word of the body violates criterion 2.
  pub cmt_2 : (t : Name) (x : Tx Op) → tx t v.config.opened ≡ Some x → (IsComplete x → ⊥) → (r : Refusal Op) → r ≡ record { criterion = 2; detail = Nothing } → Refuses o w (Cmt t) r
  cmt_2 t x e n r is = refuse (Cmt t) 1 r Nothing is (there_more (tx t v.config.opened) _ x 0 e n) (there_shown_more (tx t v.config.opened) _ x 0 e refl)

  -- A CMT of a transaction with an unpushed entry violates criterion 3.
  pub cmt_3 : (t : Name) (x : Tx Op) (p : LocalEntry Op) → tx t v.config.opened ≡ Some x → IsComplete x → In p x.local → is_own p.mark ≡ true → (p.mark ≡ Pushed → ⊥) → (d : Detail Op) → d ≡ first_entry (filter (λ e. is_mark e.mark Unpushed) x.local) → (r : Refusal Op) → r ≡ record { criterion = 3; detail = d } → Refuses o w (Cmt t) r
  cmt_3 t x p e b i m n d shown r is = refuse (Cmt t) 2 r d is (there_more (tx t v.config.opened) _ x 1 e (b, (λ all. n (all p i m)))) (there_shown_more (tx t v.config.opened) _ x 1 e shown)

  -- All own entries of a transaction are pushed.
  abbrev pub AllPushed : Tx Op → Type 0
  AllPushed x = (p : LocalEntry Op) → In p x.local → is_own p.mark ≡ true → p.mark ≡ Pushed

  -- An entry of this id is committed in the shared log.
  abbrev pub StandsCommitted : ℕ → Type 0
  StandsCommitted id = (g : SharedEntry Op) × In g v.config.shared × (g.id ≡ id) × (g.committed ≡ true)

  -- A CMT of a transaction with a pulled entry that is not committed violates criterion 4.
  pub cmt_4 : (t : Name) (x : Tx Op) (p : LocalEntry Op) → tx t v.config.opened ≡ Some x → IsComplete x → AllPushed x → In p x.local → p.mark ≡ Pulled → (StandsCommitted p.id → ⊥) → (d : Detail Op) → d ≡ first_entry (filter (λ e. is_mark e.mark Pulled && not (stands_committed e.id v.config.shared)) x.local) → (r : Refusal Op) → r ≡ record { criterion = 4; detail = d } → Refuses o w (Cmt t) r
  cmt_4 t x p e b all i m n d shown r is = refuse (Cmt t) 3 r d is (there_more (tx t v.config.opened) _ x 2 e (b, (all, (λ h. n (h p i m))))) (there_shown_more (tx t v.config.opened) _ x 2 e shown)

  -- A CMT of a complete transaction, all pushed, with all it pulled committed, meets its criteria.
  pub cmt_0 : (t : Name) (x : Tx Op) → tx t v.config.opened ≡ Some x → IsComplete x → AllPushed x → ((p : LocalEntry Op) → In p x.local → p.mark ≡ Pulled → StandsCommitted p.id) → Meets (rules_of o w.shape) w.config (Cmt t)
  cmt_0 t x e b all h = lift (Cmt t) 0 (there_is (tx t v.config.opened) _ x e (b, (all, (h, refl))))

  -- A BEGIN of a name that was begun violates criterion 1.
  pub begin_1 : (t p : Name) (b : Option Tree) → In t v.config.names → (r : Refusal Op) → r ≡ record { criterion = 1; detail = Nothing } → Refuses o w (Begin t p b) r
  begin_1 t p b i r is = refuse (Begin t p b) 0 r Nothing is (λ n. n i) refl

  -- A BEGIN on a thread that is busy violates criterion 2.
  pub begin_2 : (t p : Name) (b : Option Tree) → (In t v.config.names → ⊥) → (x : Tx Op) → In x v.config.opened → x.thread ≡ p → (r : Refusal Op) → r ≡ record { criterion = 2; detail = Nothing } → Refuses o w (Begin t p b) r
  begin_2 t p b n x i e r is = refuse (Begin t p b) 1 r Nothing is (n, λ h. h x i e) refl

  -- A BEGIN of a new name on an idle thread meets its criteria.
  pub begin_0 : (t p : Name) (b : Option Tree) → (In t v.config.names → ⊥) → ((x : Tx Op) → In x v.config.opened → x.thread ≢ p) → Meets (rules_of o w.shape) w.config (Begin t p b)
  begin_0 t p b n h = lift (Begin t p b) 0 (n, (h, refl))

  -- A QUIT of a transaction that is not open violates criterion 1.
  pub quit_1 : (t : Name) → tx t v.config.opened ≡ None → (r : Refusal Op) → r ≡ record { criterion = 1; detail = Nothing } → Refuses o w (Quit t) r
  quit_1 t e r is = refuse (Quit t) 0 r Nothing is (there_1 (tx t v.config.opened) _ e) (there_shown_1 (tx t v.config.opened) _)

  -- A QUIT of a transaction whose local log is not empty violates criterion 2.
  pub quit_2 : (t : Name) (x : Tx Op) → tx t v.config.opened ≡ Some x → (x.local ≡ [] → ⊥) → (d : Detail Op) → d ≡ first_entry x.local → (r : Refusal Op) → r ≡ record { criterion = 2; detail = d } → Refuses o w (Quit t) r
  quit_2 t x e n d shown r is = refuse (Quit t) 1 r d is (there_more (tx t v.config.opened) _ x 0 e n) (there_shown_more (tx t v.config.opened) _ x 0 e shown)

  -- A QUIT of an open transaction with an empty local log meets its criteria.
  pub quit_0 : (t : Name) (x : Tx Op) → tx t v.config.opened ≡ Some x → x.local ≡ [] → Meets (rules_of o w.shape) w.config (Quit t)
  quit_0 t x e h = lift (Quit t) 0 (there_is (tx t v.config.opened) _ x e (h, refl))

  -- A NOTE of a transaction that is not open violates criterion 1.
  pub note_1 : (t : Name) → tx t v.config.opened ≡ None → (r : Refusal Op) → r ≡ record { criterion = 1; detail = Nothing } → Refuses o w (Note t) r
  note_1 t e r is = refuse (Note t) 0 r Nothing is (there_1 (tx t v.config.opened) _ e) (there_shown_1 (tx t v.config.opened) _)

  -- A NOTE of an open transaction meets its criteria.
  pub note_0 : (t : Name) (x : Tx Op) → tx t v.config.opened ≡ Some x → Meets (rules_of o w.shape) w.config (Note t)
  note_0 t x e = lift (Note t) 0 (there_is (tx t v.config.opened) _ x e refl)

  -- A PULL of a transaction that is not open violates criterion 1.
  pub pull_1 : (t : Name) (id : ℕ) → tx t v.config.opened ≡ None → (r : Refusal Op) → r ≡ record { criterion = 1; detail = Nothing } → Refuses o w (Pull t id) r
  pull_1 t id e r is = refuse (Pull t id) 0 r Nothing is (there_1 (tx t v.config.opened) _ e) (there_shown_1 (tx t v.config.opened) _)

  -- A PULL of an id without an entry of another in the shared log violates criterion 2.
  pub pull_2 : (t : Name) (id : ℕ) (x : Tx Op) → tx t v.config.opened ≡ Some x → of_other t id v.config.shared ≡ None → (r : Refusal Op) → r ≡ record { criterion = 2; detail = Nothing } → Refuses o w (Pull t id) r
  pull_2 t id x e h r is = refuse (Pull t id) 1 r Nothing is (there_more (tx t v.config.opened) _ x 0 e (there_1 (of_other t id v.config.shared) _ h)) (there_shown_more (tx t v.config.opened) _ x 0 e (there_shown_1 (of_other t id v.config.shared) _))

  -- A PULL of an id that the local log has violates criterion 3.
  pub pull_3 : (t : Name) (id : ℕ) (x : Tx Op) (g : SharedEntry Op) (a : LocalEntry Op) → tx t v.config.opened ≡ Some x → of_other t id v.config.shared ≡ Some g → In a x.local → a.id ≡ id → (r : Refusal Op) → r ≡ record { criterion = 3; detail = Nothing } → Refuses o w (Pull t id) r
  pull_3 t id x g a e h i k r is = refuse (Pull t id) 2 r Nothing is (there_more (tx t v.config.opened) _ x 1 e (there_more (of_other t id v.config.shared) _ g 0 h (λ all. all a i k))) (there_shown_more (tx t v.config.opened) _ x 1 e (there_shown_more (of_other t id v.config.shared) _ g 0 h refl))

  -- No entry of a local log has this id.
  abbrev pub NotThere : ℕ → Tx Op → Type 0
  NotThere id x = (a : LocalEntry Op) → In a x.local → a.id ≢ id

  -- The own entries of a transaction swap with an entry of the shared log.
  abbrev pub OwnBefore : Tx Op → SharedEntry Op → Type 0
  OwnBefore x g = (a : LocalEntry Op) → In a x.local → is_own a.mark ≡ true → model.Swaps (rules_of o v.shape) a.op g.op

  -- A PULL that is not allowed after the local log violates criterion 4.
  pub pull_4 : (t : Name) (id : ℕ) (x : Tx Op) (g : SharedEntry Op) → tx t v.config.opened ≡ Some x → of_other t id v.config.shared ≡ Some g → NotThere id x → (IsAllowed o v.shape (local_ops x.local ++ g.op ∷ []) → ⊥) → (d : Detail Op) → d ≡ Gives id (answer_behind o v.shape (local_ops x.local) g.op) → (r : Refusal Op) → r ≡ record { criterion = 4; detail = d } → Refuses o w (Pull t id) r
  pull_4 t id x g e h n k d shown r is = refuse (Pull t id) 3 r d is (there_more (tx t v.config.opened) _ x 2 e (there_more (of_other t id v.config.shared) _ g 1 h (n, k))) (there_shown_more (tx t v.config.opened) _ x 2 e (there_shown_more (of_other t id v.config.shared) _ g 1 h shown))

  -- A PULL of an entry with which an own one does not swap violates criterion 5.
  pub pull_5 : (t : Name) (id : ℕ) (x : Tx Op) (g : SharedEntry Op) (a : LocalEntry Op) → tx t v.config.opened ≡ Some x → of_other t id v.config.shared ≡ Some g → NotThere id x → IsAllowed o v.shape (local_ops x.local ++ g.op ∷ []) →
      In a x.local → is_own a.mark ≡ true → (model.Swaps (rules_of o v.shape) a.op g.op → ⊥) → (d : Detail Op) → d ≡ first_swap (λ a. a.id) (λ a. o.refuting a.op g.op) (own x.local) → (r : Refusal Op) → r ≡ record { criterion = 5; detail = d } → Refuses o w (Pull t id) r
  pull_5 t id x g a e h n k i m z d shown r is = refuse (Pull t id) 4 r d is (there_more (tx t v.config.opened) _ x 3 e (there_more (of_other t id v.config.shared) _ g 2 h (n, (k, λ all. z (all a i m))))) (there_shown_more (tx t v.config.opened) _ x 3 e (there_shown_more (of_other t id v.config.shared) _ g 2 h shown))

  -- A PULL of a new, allowed entry of another, with which all own ones swap, meets its criteria.
  pub pull_0 : (t : Name) (id : ℕ) (x : Tx Op) (g : SharedEntry Op) → tx t v.config.opened ≡ Some x → of_other t id v.config.shared ≡ Some g → NotThere id x → IsAllowed o v.shape (local_ops x.local ++ g.op ∷ []) → OwnBefore x g → Meets (rules_of o w.shape) w.config (Pull t id)
  pull_0 t id x g e h n k b = lift (Pull t id) 0 (there_is (tx t v.config.opened) _ x e (there_is (of_other t id v.config.shared) _ g h (n, (k, (b, refl)))))

  -- An UNAPP of a transaction that is not open violates criterion 1.
  pub unapp_1 : (t : Name) (id : ℕ) → tx t v.config.opened ≡ None → (r : Refusal Op) → r ≡ record { criterion = 1; detail = Nothing } → Refuses o w (Unapp t id) r
  unapp_1 t id e r is = refuse (Unapp t id) 0 r Nothing is (there_1 (tx t v.config.opened) _ e) (there_shown_1 (tx t v.config.opened) _)

  -- An UNAPP of an id that is not the last entry, unpushed, violates criterion 2.
  pub unapp_2 : (t : Name) (id : ℕ) (x : Tx Op) → tx t v.config.opened ≡ Some x → (IsLast id (last x.local) → ⊥) → (r : Refusal Op) → r ≡ record { criterion = 2; detail = Nothing } → Refuses o w (Unapp t id) r
  unapp_2 t id x e n r is = refuse (Unapp t id) 1 r Nothing is (there_more (tx t v.config.opened) _ x 0 e n) (there_shown_more (tx t v.config.opened) _ x 0 e refl)

  -- An UNAPP of the last entry, if it is unpushed, meets its criteria.
  pub unapp_0 : (t : Name) (id : ℕ) (x : Tx Op) → tx t v.config.opened ≡ Some x → IsLast id (last x.local) → Meets (rules_of o w.shape) w.config (Unapp t id)
  unapp_0 t id x e k = lift (Unapp t id) 0 (there_is (tx t v.config.opened) _ x e (k, refl))

  -- An UNPUSH of a transaction that is not open violates criterion 1.
  pub unpush_1 : (t : Name) (id : ℕ) → tx t v.config.opened ≡ None → (r : Refusal Op) → r ≡ record { criterion = 1; detail = Nothing } → Refuses o w (Unpush t id) r
  unpush_1 t id e r is = refuse (Unpush t id) 0 r Nothing is (there_1 (tx t v.config.opened) _ e) (there_shown_1 (tx t v.config.opened) _)

  -- An UNPUSH of an id without a pushed entry violates criterion 2.
  pub unpush_2 : (t : Name) (id : ℕ) (x : Tx Op) → tx t v.config.opened ≡ Some x → at_mark id Pushed x.local ≡ None → (r : Refusal Op) → r ≡ record { criterion = 2; detail = Nothing } → Refuses o w (Unpush t id) r
  unpush_2 t id x e h r is = refuse (Unpush t id) 1 r Nothing is (there_more (tx t v.config.opened) _ x 0 e (there_1 (at_mark id Pushed x.local) _ h)) (there_shown_more (tx t v.config.opened) _ x 0 e (there_shown_1 (at_mark id Pushed x.local) _))

  -- An UNPUSH of an entry that a later pushed one does not swap with violates criterion 3.
  pub unpush_3 : (t : Name) (id : ℕ) (x : Tx Op) (p b : LocalEntry Op) → tx t v.config.opened ≡ Some x → at_mark id Pushed x.local ≡ Some p →
      Before p b x.local → b.mark ≡ Pushed → (model.Swaps (rules_of o v.shape) b.op p.op → ⊥) → (d : Detail Op) → d ≡ first_swap (λ b. b.id) (λ b. o.refuting b.op p.op) (filter (λ b. is_mark b.mark Pushed) (entries_behind id x.local)) → (r : Refusal Op) → r ≡ record { criterion = 3; detail = d } → Refuses o w (Unpush t id) r
  unpush_3 t id x p b e h i m n d shown r is = refuse (Unpush t id) 2 r d is (there_more (tx t v.config.opened) _ x 1 e (there_more (at_mark id Pushed x.local) _ p 0 h (λ all. n (all b i m)))) (there_shown_more (tx t v.config.opened) _ x 1 e (there_shown_more (at_mark id Pushed x.local) _ p 0 h shown))

  -- The entries after p in a local log swap with it.
  abbrev pub BehindSwap : Tx Op → LocalEntry Op → Type 0
  BehindSwap x p = (b : LocalEntry Op) → Before p b x.local → b.mark ≡ Pushed → model.Swaps (rules_of o v.shape) b.op p.op

  -- An UNPUSH without which the shared log is not allowed violates criterion 4.
  pub unpush_4 : (t : Name) (id : ℕ) (x : Tx Op) (p : LocalEntry Op) → tx t v.config.opened ≡ Some x → at_mark id Pushed x.local ≡ Some p →
      BehindSwap x p → (IsAllowed o v.shape (shared_ops (without_shared id v.config.shared)) → ⊥) → Breaks (rules_of o w.shape) w.config (Unpush t id) 4
  unpush_4 t id x p e h all n = lift (Unpush t id) 4 (there_more (tx t v.config.opened) _ x 2 e (there_more (at_mark id Pushed x.local) _ p 1 h (all, n)))

  -- The first entry that differs in the shared log without the entry is the evidence of UNPUSH 4.
  pub unpush_shown : (t : Name) (id : ℕ) (x : Tx Op) (p : LocalEntry Op) → tx t v.config.opened ≡ Some x → at_mark id Pushed x.local ≡ Some p →
      (d : Detail Op) → d ≡ first_differing o shared_item (o.start v.shape) (without_shared id v.config.shared) → d ≡ evidence o w.shape w.config (Unpush t id) 4
  unpush_shown t id x p e h d shown = lift_shown (Unpush t id) 4 d (there_shown_more (tx t v.config.opened) _ x 2 e (there_shown_more (at_mark id Pushed x.local) _ p 1 h shown))

  -- An UNPUSH meets its criteria if later pushed entries swap with it and the rest is allowed.
  pub unpush_0 : (t : Name) (id : ℕ) (x : Tx Op) (p : LocalEntry Op) → tx t v.config.opened ≡ Some x → at_mark id Pushed x.local ≡ Some p →
      BehindSwap x p → IsAllowed o v.shape (shared_ops (without_shared id v.config.shared)) → Meets (rules_of o w.shape) w.config (Unpush t id)
  unpush_0 t id x p e h all k = lift (Unpush t id) 0 (there_is (tx t v.config.opened) _ x e (there_is (at_mark id Pushed x.local) _ p h (all, (k, refl))))

  -- An UNPULL of a transaction that is not open violates criterion 1.
  pub unpull_1 : (t : Name) (id : ℕ) → tx t v.config.opened ≡ None → (r : Refusal Op) → r ≡ record { criterion = 1; detail = Nothing } → Refuses o w (Unpull t id) r
  unpull_1 t id e r is = refuse (Unpull t id) 0 r Nothing is (there_1 (tx t v.config.opened) _ e) (there_shown_1 (tx t v.config.opened) _)

  -- An UNPULL of an id without a pulled entry violates criterion 2.
  pub unpull_2 : (t : Name) (id : ℕ) (x : Tx Op) → tx t v.config.opened ≡ Some x → at_mark id Pulled x.local ≡ None → (r : Refusal Op) → r ≡ record { criterion = 2; detail = Nothing } → Refuses o w (Unpull t id) r
  unpull_2 t id x e h r is = refuse (Unpull t id) 1 r Nothing is (there_more (tx t v.config.opened) _ x 0 e (there_1 (at_mark id Pulled x.local) _ h)) (there_shown_more (tx t v.config.opened) _ x 0 e (there_shown_1 (at_mark id Pulled x.local) _))

  -- An UNPULL without which the local log is not allowed violates criterion 3.
  pub unpull_3 : (t : Name) (id : ℕ) (x : Tx Op) (p : LocalEntry Op) → tx t v.config.opened ≡ Some x → at_mark id Pulled x.local ≡ Some p →
      (IsAllowed o v.shape (local_ops (without_local id x.local)) → ⊥) → Breaks (rules_of o w.shape) w.config (Unpull t id) 3
  unpull_3 t id x p e h n = lift (Unpull t id) 3 (there_more (tx t v.config.opened) _ x 1 e (there_more (at_mark id Pulled x.local) _ p 0 h n))

  -- The first entry that differs in the local log without the entry is the evidence of UNPULL 3.
  pub unpull_shown : (t : Name) (id : ℕ) (x : Tx Op) (p : LocalEntry Op) → tx t v.config.opened ≡ Some x → at_mark id Pulled x.local ≡ Some p →
      (d : Detail Op) → d ≡ first_differing o item (o.start v.shape) (without_local id x.local) → d ≡ evidence o w.shape w.config (Unpull t id) 3
  unpull_shown t id x p e h d shown = lift_shown (Unpull t id) 3 d (there_shown_more (tx t v.config.opened) _ x 1 e (there_shown_more (at_mark id Pulled x.local) _ p 0 h shown))

  -- An UNPULL of a pulled entry that leaves an allowed local log meets its criteria.
  pub unpull_0 : (t : Name) (id : ℕ) (x : Tx Op) (p : LocalEntry Op) → tx t v.config.opened ≡ Some x → at_mark id Pulled x.local ≡ Some p →
      IsAllowed o v.shape (local_ops (without_local id x.local)) → Meets (rules_of o w.shape) w.config (Unpull t id)
  unpull_0 t id x p e h k = lift (Unpull t id) 0 (there_is (tx t v.config.opened) _ x e (there_is (at_mark id Pulled x.local) _ p h (k, refl)))
