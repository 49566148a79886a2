-- Single steps, each from a configuration that is written out to the next one.
use Rattle.std.proofs.Common.{◌≡◌, ◌≢◌, ℕ, ◌==◌, Bool, true, false, not, cond, ◌&&◌, List, [], ◌∷◌, ◌++◌, Option, Some, None, refl, sym, ap, subst, ◌∙◌, append_assoc, inl, inr}
use Rattle.std.proofs.lemmas.Bool.{eq-eqb}
use Rattle.std.proofs.lemmas.List.{map-append}
use Rattle.pp_model.specs.Lists.{In, Before, Each}
use Rattle.pp_model.specs.Names.{Name, ◌=ⁿ◌}
use Rattle.pp_model.specs.Object.{Object, Allowed, AllowedFrom, Item, Swaps, state, state_from}
use Rattle.pp_model.specs.Config.{Mark, Unpushed, Pushed, Pulled, is_own, is_mark, LocalEntry, SharedEntry, CommittedTx, Tx, Config, as_pulled, Step, Begin, App, Push, Pull, Cmt, tx, on_log, relog, without_tx, set_mark, at_mark, of_other, entry_of, push_effect, pull_effect, commit_effect, commit_all, local_ops, shared_ops, own_items, then, after_from}
use Rattle.pp_model.specs.Rules.{Meets, RunsFrom}
use Rattle.pp_model.proofs.Lists.{in_cases, before_in_second}
use Rattle.pp_model.proofs.Names.{eq-names}
use Rattle.pp_model.proofs.Alone.{there_is}

-- If each element of a list has a property, an element that is in the list has it.
pub each_in : {A : Type 0} (P : A → Type 0) (xs : List A) (x : A) → Each P xs → In x xs → P x
each_in P [] x h i = absurd i
each_in P (y ∷ ys) x h (inl e) = subst P (sym e) h.0
each_in P (y ∷ ys) x h (inr i) = each_in P ys x h.1 i

-- If the first property implies the second, and each element of a list has the first, each has the second.
pub each_as : {A : Type 0} (P Q : A → Type 0) (xs : List A) → ((x : A) → P x → Q x) → Each P xs → Each Q xs
each_as P Q [] f h = tt
each_as P Q (x ∷ xs) f h = (f x h.0, each_as P Q xs f h.1)

-- The configuration of these parts.
abbrev pub conf : {Op : Type 0} → List Name → List ℕ → List (Tx Op) → List (SharedEntry Op) → List (CommittedTx Op) → Config Op
conf ns is xs G D = record { names = ns; ids = is; opened = xs; shared = G; done = D }

-- An open transaction without a body.
abbrev pub open_tx : {Op : Type 0} → Name → Name → List (LocalEntry Op) → Tx Op
open_tx t p l = record { name = t; thread = p; body = None; local = l }

-- An entry of a local log.
abbrev pub own_entry : {Op : Type 0} → Name → Mark → ℕ → Op → LocalEntry Op
own_entry t m i op = record { id = i; owner = t; mark = m; op = op }

-- An entry of the shared log, which is committed or not.
abbrev pub shared_entry : {Op : Type 0} → Name → Bool → ℕ → Op → SharedEntry Op
shared_entry t b i op = record { id = i; owner = t; committed = b; op = op }

-- The steps run from c, and lead to d.
pub record LeadsTo {Op State : Type 0} (O : Object Op State) (c : Config Op) (ss : List (Step Op)) (d : Config Op) : Type 0 where
  pub runs : RunsFrom O c ss
  pub ends : after_from c ss ≡ d

-- The list is allowed, and this is the state after it.
pub record Log {Op State : Type 0} (O : Object Op State) (l : List Op) (s : State) : Type 0 where
  pub allowed : Allowed O l
  pub is : state O l ≡ s

-- No transaction of the list has this name.
abbrev pub Others : {Op : Type 0} → Name → List (Tx Op) → Type 0
Others t xs = Each (λ x. (x.name =ⁿ t) ≡ false) xs

-- No entry of the local log has this id.
abbrev pub Apart : {Op : Type 0} → ℕ → List (LocalEntry Op) → Type 0
Apart i l = Each (λ e. (e.id == i) ≡ false) l

-- No entry of the local log is unpushed.
abbrev pub Settled : {Op : Type 0} → List (LocalEntry Op) → Type 0
Settled l = Each (λ e. is_mark e.mark Unpushed ≡ false) l

-- An entry of a transaction that may commit: an own one is pushed, and a pulled one is committed.
abbrev pub MayCommit : {Op : Type 0} → List (SharedEntry Op) → LocalEntry Op → Type 0
MayCommit {Op} G e = (is_own e.mark ≡ true → e.mark ≡ Pushed) × (e.mark ≡ Pulled → (g : SharedEntry Op) × In g G × (g.id ≡ e.id) × (g.committed ≡ true))

module _ {Op State : Type 0} (O : Object Op State) where
  -- No steps lead from a configuration to itself.
  pub nothing_more : (c : Config Op) → LeadsTo O c [] c
  nothing_more c = record { runs = tt; ends = refl }

  -- If a step meets its criteria in c and leads to d, and further steps lead from d to e, all lead from c to e.
  pub one_more : (c d e : Config Op) (s : Step Op) (ss : List (Step Op)) → Meets O c s → then c s ≡ d → LeadsTo O d ss e → LeadsTo O c (s ∷ ss) e
  one_more c d e s ss f t l =
      record {
        runs = (f, subst (λ (z : Config Op). RunsFrom O z ss) (sym t) l.runs);
        ends = ap (λ (z : Config Op). after_from z ss) t ∙ l.ends;
      }

  -- If some steps lead from c to d and others from d to e, the first and then the others lead from c to e.
  pub in_turn : (c d e : Config Op) (ss ts : List (Step Op)) → LeadsTo O c ss d → LeadsTo O d ts e → LeadsTo O c (ss ++ ts) e
  in_turn c d e [] ts l m =
      record {
        runs = subst (λ (z : Config Op). RunsFrom O z ts) (sym l.ends) m.runs;
        ends = ap (λ (z : Config Op). after_from z ts) l.ends ∙ m.ends;
      }
  in_turn c d e (s ∷ ss) ts l m =
      let r = in_turn (then c s) d e ss ts (record { runs = l.runs.1; ends = l.ends }) m in
      record { runs = (l.runs.0, r.runs); ends = r.ends }

  state-append : (s : State) (l k : List Op) → state_from O s (l ++ k) ≡ state_from O (state_from O s l) k
  state-append s [] k = refl
  state-append s (x ∷ l) k = state-append (O.next s x) l k

  allowed_both : (s : State) (l k : List Op) → AllowedFrom O s l → AllowedFrom O (state_from O s l) k → AllowedFrom O s (l ++ k)
  allowed_both s [] k h j = j
  allowed_both s (x ∷ l) k h j = (h.0, allowed_both (O.next s x) l k h.1 j)

  -- If a list leads to a state and further operations are allowed from it, both in turn are allowed and lead on from it.
  pub longer : (l k : List Op) (s : State) → Log O l s → AllowedFrom O s k → Log O (l ++ k) (state_from O s k)
  longer l k s h a =
      record {
        allowed = allowed_both O.start l k h.allowed (subst (λ (z : State). AllowedFrom O z k) (sym h.is) a);
        is = state-append O.start l k ∙ ap (λ (z : State). state_from O z k) h.is;
      }

  -- The open transaction of the name t is found among others.
  pub tx_at : (t p : Name) (L : List (LocalEntry Op)) (l r : List (Tx Op)) → Others t l → tx t (l ++ open_tx t p L ∷ r) ≡ Some (open_tx t p L)
  tx_at t p L [] r h = ap (λ (b : Bool). cond b (Some (open_tx t p L)) (tx t r)) (eq-names t t refl)
  tx_at t p L (x ∷ l) r h = ap (λ (b : Bool). cond b (Some x) (tx t (l ++ open_tx t p L ∷ r))) h.0 ∙ tx_at t p L l r h.1

  on_others : (t : Name) (f : List (LocalEntry Op) → List (LocalEntry Op)) (l : List (Tx Op)) → Others t l → on_log t f l ≡ l
  on_others t f [] h = refl
  on_others t f (x ∷ l) h = ap (λ (b : Bool). cond b (relog f x) x ∷ on_log t f l) h.0 ∙ ap (λ (w : List (Tx Op)). x ∷ w) (on_others t f l h.1)

  on_at : (t p : Name) (f : List (LocalEntry Op) → List (LocalEntry Op)) (L : List (LocalEntry Op)) (l r : List (Tx Op)) → Others t l → Others t r → on_log t f (l ++ open_tx t p L ∷ r) ≡ l ++ open_tx t p (f L) ∷ r
  on_at t p f L [] r h k = ap (λ (b : Bool). cond b (open_tx t p (f L)) (open_tx t p L) ∷ on_log t f r) (eq-names t t refl) ∙ ap (λ (w : List (Tx Op)). open_tx t p (f L) ∷ w) (on_others t f r k)
  on_at t p f L (x ∷ l) r h k = ap (λ (b : Bool). cond b (relog f x) x ∷ on_log t f (l ++ open_tx t p L ∷ r)) h.0 ∙ ap (λ (w : List (Tx Op)). x ∷ w) (on_at t p f L l r h.1 k)

  without_others : (t : Name) (l : List (Tx Op)) → Others t l → without_tx t l ≡ l
  without_others t [] h = refl
  without_others t (x ∷ l) h = ap (λ (b : Bool). cond (not b) (x ∷ without_tx t l) (without_tx t l)) h.0 ∙ ap (λ (w : List (Tx Op)). x ∷ w) (without_others t l h.1)

  without_at : (t p : Name) (L : List (LocalEntry Op)) (l r : List (Tx Op)) → Others t l → Others t r → without_tx t (l ++ open_tx t p L ∷ r) ≡ l ++ r
  without_at t p L [] r h k = ap (λ (b : Bool). cond (not b) (open_tx t p L ∷ without_tx t r) (without_tx t r)) (eq-names t t refl) ∙ without_others t r k
  without_at t p L (x ∷ l) r h k = ap (λ (b : Bool). cond (not b) (x ∷ without_tx t (l ++ open_tx t p L ∷ r)) (without_tx t (l ++ open_tx t p L ∷ r))) h.0 ∙ ap (λ (w : List (Tx Op)). x ∷ w) (without_at t p L l r h.1 k)

  -- The entry of an id is found after entries of other ids.
  mark_behind : (i : ℕ) (m : Mark) (k l : List (LocalEntry Op)) → Apart i k → at_mark i m (k ++ l) ≡ at_mark i m l
  mark_behind i m [] l h = refl
  mark_behind i m (e ∷ k) l h = ap (λ (b : Bool). cond (b && is_mark e.mark m) (Some e) (at_mark i m (k ++ l))) h.0 ∙ mark_behind i m k l h.1

  mark_here : (t : Name) (i : ℕ) (op : Op) (l : List (LocalEntry Op)) → at_mark i Unpushed (own_entry t Unpushed i op ∷ l) ≡ Some (own_entry t Unpushed i op)
  mark_here t i op l = ap (λ (b : Bool). cond (b && true) (Some (own_entry t Unpushed i op)) (at_mark i Unpushed l)) (eq-eqb i i refl)

  marked_apart : (i : ℕ) (m : Mark) (l : List (LocalEntry Op)) → Apart i l → set_mark i m l ≡ l
  marked_apart i m [] h = refl
  marked_apart i m (e ∷ l) h = ap (λ (b : Bool). cond b (record { id = e.id; owner = e.owner; mark = m; op = e.op }) e ∷ set_mark i m l) h.0 ∙ ap (λ (w : List (LocalEntry Op)). e ∷ w) (marked_apart i m l h.1)

  marked_behind : (i : ℕ) (m : Mark) (k l : List (LocalEntry Op)) → Apart i k → set_mark i m (k ++ l) ≡ k ++ set_mark i m l
  marked_behind i m [] l h = refl
  marked_behind i m (e ∷ k) l h = ap (λ (b : Bool). cond b (record { id = e.id; owner = e.owner; mark = m; op = e.op }) e ∷ set_mark i m (k ++ l)) h.0 ∙ ap (λ (w : List (LocalEntry Op)). e ∷ w) (marked_behind i m k l h.1)

  marked_here : (t : Name) (i : ℕ) (op : Op) (l : List (LocalEntry Op)) → Apart i l → set_mark i Pushed (own_entry t Unpushed i op ∷ l) ≡ own_entry t Pushed i op ∷ l
  marked_here t i op l h = ap (λ (b : Bool). cond b (own_entry t Pushed i op) (own_entry t Unpushed i op) ∷ set_mark i Pushed l) (eq-eqb i i refl) ∙ ap (λ (w : List (LocalEntry Op)). own_entry t Pushed i op ∷ w) (marked_apart i Pushed l h)

  -- No entry of a log has an id that the log does not have.
  apart_in : (i : ℕ) (l : List (LocalEntry Op)) (e : LocalEntry Op) → Apart i l → In e l → e.id ≡ i → ⊥
  apart_in i l e h j k = let f = each_in (λ (x : LocalEntry Op). (x.id == i) ≡ false) l e h j in let g = eq-eqb e.id i k in cc

  none_waits : (a e : LocalEntry Op) (k l : List (LocalEntry Op)) → Settled k → (Before a e l → a.mark ≡ Unpushed → ⊥) → Before a e (k ++ l) → a.mark ≡ Unpushed → ⊥
  none_waits a e [] l h f b w = f b w
  none_waits a e (x ∷ k) l h f (inl b) w = let z : is_mark x.mark Unpushed ≡ is_mark Unpushed Unpushed = ap (λ (m : Mark). is_mark m Unpushed) (ap (λ (y : LocalEntry Op). y.mark) (sym b.0) ∙ w) in let y = h.0 in cc
  none_waits a e (x ∷ k) l h f (inr b) w = none_waits a e k l h.1 f b w

  none_before : (a e : LocalEntry Op) (i : ℕ) (l : List (LocalEntry Op)) → e.id ≡ i → Apart i l → Before a e (e ∷ l) → ⊥
  none_before a e i l k h (inl b) = apart_in i l e h b.1 k
  none_before a e i l k h (inr b) = apart_in i l e h (before_in_second a e l b) k

-- A step of t, which is open among others.
module _ {Op State : Type 0} (O : Object Op State) (ns : List Name) (is : List ℕ) (t p : Name) (l r : List (Tx Op)) (D : List (CommittedTx Op)) (first : Others t l) (last : Others t r) where
  -- An APP of a fresh id adds an unpushed entry to the local log of t, if the operation is allowed in the view of t.
  pub app_step : (seen L : List (LocalEntry Op)) (G : List (SharedEntry Op)) (i : ℕ) (op : Op) (s : State) (ss : List (Step Op)) (e : Config Op) → (In i is → ⊥) → Log O (local_ops seen) s → AllowedFrom O s (local_ops L ++ op ∷ []) →
      LeadsTo O (conf ns (i ∷ is) (l ++ open_tx t p (seen ++ (L ++ own_entry t Unpushed i op ∷ [])) ∷ r) G D) ss e →
      LeadsTo O (conf ns is (l ++ open_tx t p (seen ++ L) ∷ r) G D) (App t i op ∷ ss) e
  app_step seen L G i op s ss e new log a h =
      let whole : Allowed O (local_ops (seen ++ L) ++ op ∷ []) =
      subst (λ (z : List Op). Allowed O z) (sym (ap (λ (z : List Op). z ++ op ∷ []) (map-append (λ (e : LocalEntry Op). e.op) seen L) ∙ append_assoc (local_ops seen) (local_ops L) (op ∷ []))) (longer O (local_ops seen) (local_ops L ++ op ∷ []) s log a).allowed in
      one_more O _ _ e (App t i op) ss
      (there_is (tx t (l ++ open_tx t p (seen ++ L) ∷ r)) _ (open_tx t p (seen ++ L)) (tx_at O t p (seen ++ L) l r first) (new, (([], tt), (whole, refl))))
      (ap (λ (xs : List (Tx Op)). conf ns (i ∷ is) xs G D)
      (on_at O t p (λ k. k ++ own_entry t Unpushed i op ∷ []) (seen ++ L) l r first last ∙ ap (λ (w : List (LocalEntry Op)). l ++ open_tx t p w ∷ r) (append_assoc seen L (own_entry t Unpushed i op ∷ []))))
      h

  -- A PUSH marks an entry of t pushed and adds it to the shared log, if it is allowed and may move left past others' uncommitted ones.
  pub push_step : (seen done rest : List (LocalEntry Op)) (G new : List (SharedEntry Op)) (i : ℕ) (op : Op) (s : State) (ss : List (Step Op)) (e : Config Op) →
      Apart i seen → Apart i done → Apart i rest → Settled seen → Settled done → Each (λ g. g.committed ≡ true) G → Each (λ u. u.owner ≢ t → Swaps O u.op op) new →
      Log O (shared_ops G) s → AllowedFrom O s (shared_ops new ++ op ∷ []) →
      LeadsTo O (conf ns is (l ++ open_tx t p (seen ++ (done ++ own_entry t Pushed i op ∷ rest)) ∷ r) (G ++ (new ++ shared_entry t false i op ∷ [])) D) ss e →
      LeadsTo O (conf ns is (l ++ open_tx t p (seen ++ (done ++ own_entry t Unpushed i op ∷ rest)) ∷ r) (G ++ new) D) (Push t i ∷ ss) e
  push_step seen done rest G new i op s ss e a b c f g all swap log k h =
      let L = seen ++ (done ++ own_entry t Unpushed i op ∷ rest) in
      let o : LocalEntry Op = own_entry t Unpushed i op in
      let at : tx t (l ++ open_tx t p L ∷ r) ≡ Some (open_tx t p L) = tx_at O t p L l r first in
      let mark : at_mark i Unpushed L ≡ Some o = mark_behind O i Unpushed seen (done ++ o ∷ rest) a ∙ mark_behind O i Unpushed done (o ∷ rest) b ∙ mark_here O t i op rest in
      let whole : Allowed O (shared_ops (G ++ new) ++ op ∷ []) =
      subst (λ (z : List Op). Allowed O z) (sym (ap (λ (z : List Op). z ++ op ∷ []) (map-append (λ (e : SharedEntry Op). e.op) G new) ∙ append_assoc (shared_ops G) (shared_ops new) (op ∷ []))) (longer O (shared_ops G) (shared_ops new ++ op ∷ []) s log k).allowed in
      let others : (u : SharedEntry Op) → In u (G ++ new) → u.committed ≡ false → u.owner ≢ t → Swaps O u.op op = λ u j n m.
      elim (in_cases u G new j) [
        | inl q ↦ absurd (let z = each_in (λ (g : SharedEntry Op). g.committed ≡ true) G u all q in cc)
        | inr q ↦ each_in (λ (u : SharedEntry Op). u.owner ≢ t → Swaps O u.op op) new u swap q m
      ] in
      one_more O _ _ e (Push t i) ss
      (there_is (tx t (l ++ open_tx t p L ∷ r)) _ (open_tx t p L) at
      (there_is (at_mark i Unpushed L) _ o mark (
        (λ x q w. absurd (none_waits O x o seen (done ++ o ∷ rest) f (none_waits O x o done (o ∷ rest) g (λ q w. none_before O x o i rest refl c q)) q w)),
        (others, (whole, refl)),
      )))
      (ap (λ (x : Option (LocalEntry Op)). push_effect (conf ns is (l ++ open_tx t p L ∷ r) (G ++ new) D) t i x) (ap (λ (x : Option (Tx Op)). entry_of i Unpushed x) at ∙ mark)
      ∙ ap (λ (xs : List (Tx Op)). conf ns is xs ((G ++ new) ++ shared_entry t false i op ∷ []) D)
      (on_at O t p (set_mark i Pushed) L l r first last
      ∙ ap (λ (w : List (LocalEntry Op)). l ++ open_tx t p w ∷ r)
      (marked_behind O i Pushed seen (done ++ o ∷ rest) a
      ∙ ap (λ (w : List (LocalEntry Op)). seen ++ w) (marked_behind O i Pushed done (o ∷ rest) b ∙ ap (λ (w : List (LocalEntry Op)). done ++ w) (marked_here O t i op rest c))))
      ∙ ap (λ (w : List (SharedEntry Op)). conf ns is (l ++ open_tx t p (seen ++ (done ++ own_entry t Pushed i op ∷ rest)) ∷ r) w D) (append_assoc G new (shared_entry t false i op ∷ [])))
      h

  -- A PULL by t, with an empty local log, of another's entry whose operation is allowed adds it to the local log.
  pub pull_step : (G : List (SharedEntry Op)) (g : SharedEntry Op) (ss : List (Step Op)) (e : Config Op) → of_other t g.id G ≡ Some g → Allowed O (g.op ∷ []) →
      LeadsTo O (conf ns is (l ++ open_tx t p (as_pulled g ∷ []) ∷ r) G D) ss e → LeadsTo O (conf ns is (l ++ open_tx t p [] ∷ r) G D) (Pull t g.id ∷ ss) e
  pull_step G g ss e found a h =
      one_more O _ _ e (Pull t g.id) ss
      (there_is (tx t (l ++ open_tx t p [] ∷ r)) _ (open_tx t p []) (tx_at O t p [] l r first)
      (there_is (of_other t g.id G) _ g found ((λ x j. absurd j), (a, ((λ x j. absurd j), refl)))))
      (ap (λ (x : Option (SharedEntry Op)). pull_effect (conf ns is (l ++ open_tx t p [] ∷ r) G D) t g.id x) found
      ∙ ap (λ (xs : List (Tx Op)). conf ns is xs G D) (on_at O t p (λ k. k ++ as_pulled g ∷ []) [] l r first last))
      h

  -- A CMT of t commits its operations and closes it, if each entry of its local log may be committed.
  pub cmt_step : (L : List (LocalEntry Op)) (items : List (Item Op)) (G H : List (SharedEntry Op)) (ss : List (Step Op)) (e : Config Op) → Each (MayCommit G) L → own_items L ≡ items → commit_all t G ≡ H →
      LeadsTo O (conf ns is (l ++ r) H (D ++ record { name = t; entries = items } ∷ [])) ss e → LeadsTo O (conf ns is (l ++ open_tx t p L ∷ r) G D) (Cmt t ∷ ss) e
  cmt_step L items G H ss e may own all h =
      let at : tx t (l ++ open_tx t p L ∷ r) ≡ Some (open_tx t p L) = tx_at O t p L l r first in
      one_more O _ _ e (Cmt t) ss
      (there_is (tx t (l ++ open_tx t p L ∷ r)) _ (open_tx t p L) at
      (tt, ((λ x j q. (each_in (MayCommit G) L x may j).0 q), ((λ x j q. (each_in (MayCommit G) L x may j).1 q), refl))))
      (ap (λ (x : Option (Tx Op)). commit_effect (conf ns is (l ++ open_tx t p L ∷ r) G D) t x) at
      ∙ ap (λ (xs : List (Tx Op)). conf ns is xs (commit_all t G) (D ++ record { name = t; entries = own_items L } ∷ [])) (without_at O t p L l r first last)
      ∙ ap (λ (w : List (SharedEntry Op)). conf ns is (l ++ r) w (D ++ record { name = t; entries = own_items L } ∷ [])) all
      ∙ ap (λ (w : List (Item Op)). conf ns is (l ++ r) H (D ++ record { name = t; entries = w } ∷ [])) own)
      h

-- A BEGIN of a new name on a free thread opens a transaction with an empty local log.
pub begin_step : {Op State : Type 0} (O : Object Op State) (ns : List Name) (is : List ℕ) (xs : List (Tx Op)) (G : List (SharedEntry Op)) (D : List (CommittedTx Op)) (t p : Name) (ss : List (Step Op)) (e : Config Op) →
    (In t ns → ⊥) → ((x : Tx Op) → In x xs → x.thread ≢ p) →
    LeadsTo O (conf (t ∷ ns) is (xs ++ open_tx t p [] ∷ []) G D) ss e → LeadsTo O (conf ns is xs G D) (Begin t p None ∷ ss) e
begin_step O ns is xs G D t p ss e new free h = one_more O _ _ e (Begin t p None) ss (new, (free, refl)) refl h
