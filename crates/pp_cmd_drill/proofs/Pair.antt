-- The steps of a pair, and of a transaction alone, from one in which all of the shared log is committed.
use Rattle.std.proofs.Common.{◌≡◌, ◌≢◌, ℕ, suc, ◌<◌, eqb, Bool, true, false, cond, List, [], ◌∷◌, ◌++◌, refl, sym, ap, ◌∙◌, inl, inr, pos, arith}
use Rattle.std.proofs.lemmas.Bool.{eq-eqb}
use Rattle.std.proofs.lemmas.Bool.Decides.{eqb_tells}
use Rattle.std.proofs.lemmas.List.{map-append}
use Rattle.pp_model.specs.Lists.{In, Each}
use Rattle.pp_model.specs.Names.{Name, ◌=ⁿ◌}
use Rattle.pp_model.specs.Object.{AllowedFrom, Item, Swaps}
use Rattle.pp_model.specs.Config.{Mark, Unpushed, Pushed, LocalEntry, SharedEntry, CommittedTx, Tx, Config, Step, Cmt, commit_all, local_ops, shared_ops, own_items}
use Rattle.pp_model.proofs.Lists.{in_left}
use Rattle.pp_model.proofs.Names.{eq-names, names_tell}
use Rattle.pp_model.proofs.Steps.{own_items-append}
use Rattle.std.specs.FinMap.{empty}
use Rattle.pp_kind_memory.specs.Values.{written}
use Rattle.pp_objects.specs.declared.act.Op.{Op}
use Rattle.pp_cmd_drill.specs.Drill.{name_of, first_thread, second_thread, id_of, read, write, add, ask, app, push, first_apps}
use Rattle.pp_cmd_drill.specs.Law.{drill_objects, states_at}
use Rattle.pp_cmd_drill.proofs.Moves.{conf, open_tx, own_entry, shared_entry, LeadsTo, Log, Others, Apart, Settled, MayCommit, each_in, each_as, app_step, push_step, cmt_step}
use Rattle.pp_cmd_drill.proofs.Acts.{first_allowed, both_allowed, value_is, adds_swap, asks_swap, read_add_swap, add_write_swap, read_ask_swap, write_ask_swap, ask_add_swap, add_ask_swap}
use Rattle.pp_judge.proofs.Stating.{each_append}

-- All ids are below n.
abbrev pub Under : ℕ → List ℕ → Type 0
Under n is = Each (λ i. i < n) is

-- If all ids are below n, then n is none of them.
pub fresh : (n : ℕ) (is : List ℕ) → Under n is → In n is → ⊥
fresh n is h j = let k = each_in (λ (i : ℕ). i < n) is n h j in omega arith

-- If all ids are below n and n is below m, n and all of them are below m.
pub under_next : (n m : ℕ) (is : List ℕ) → Under n is → n < m → Under m (n ∷ is)
under_next n m is h k = (k, each_as (λ i. i < n) (λ i. i < m) is (λ i j. omega arith) h)

-- Numbers that differ are not equal for the test.
pub not_eqb : (i j : ℕ) → i ≢ j → eqb i j ≡ false
not_eqb i j h = elim (eqb_tells i j) [ inl r ↦ absurd (h r.1) | inr r ↦ r.0 ]

-- Names that differ are not equal for the test.
pub not_name : (t u : Name) → t ≢ u → (t =ⁿ u) ≡ false
not_name t u h = elim (names_tell t u) [ inl r ↦ absurd (h r.1) | inr r ↦ r.0 ]

-- Two operations of one transaction have different ids.
pub two_ids : (k i j : ℕ) → eqb i j ≡ false → eqb (id_of k i) (id_of k j) ≡ false
two_ids k i j h = not_eqb (id_of k i) (id_of k j) (λ e. let f : i ≡ j = omega arith in let g = eq-eqb i j f in cc)

-- All these shared entries are committed.
abbrev pub AllCommitted : List (SharedEntry Op) → Type 0
AllCommitted G = Each (λ g. g.committed ≡ true) G

-- What a has pulled: nothing, or operations that lead to a memory with p at 0.
pub record View (a p : ℕ) (G : List (SharedEntry Op)) (seen : List (LocalEntry Op)) : Type 0 where
  pub log : Log drill_objects (local_ops seen) (states_at p 0)
  pub apart : (i : ℕ) → 0 < i → Apart (id_of a i) seen
  pub settled : Settled seen
  pub may : Each (MayCommit G) seen
  pub none : own_items seen ≡ []

-- If all entries of a shared log are committed, committing those of a transaction changes nothing.
pub still : (t : Name) (G : List (SharedEntry Op)) → AllCommitted G → commit_all t G ≡ G
still t [] h = refl
still t (g ∷ G) h =
    ap (λ (w : SharedEntry Op). w ∷ commit_all t G) (same (g.owner =ⁿ t) (ap (λ (b : Bool). record { id = g.id; owner = g.owner; committed = b; op = g.op }) (sym h.0)))
    ∙ ap (λ (w : List (SharedEntry Op)). g ∷ w) (still t G h.1)
  where
    same : {x : SharedEntry Op} (b : Bool) → x ≡ g → cond b x g ≡ g
    same true e = e
    same false e = refl

-- If each entry may be committed with a shared log, each may be with a longer one.
pub may_still : (G H : List (SharedEntry Op)) (l : List (LocalEntry Op)) → Each (MayCommit G) l → Each (MayCommit (G ++ H)) l
may_still G H l h = each_as (MayCommit G) (MayCommit (G ++ H)) l (λ e k. (k.0, λ m. let r = k.1 m in (r.0, in_left r.0 G H r.1, r.2, r.3))) h

-- The own entries of the first transaction of a pair, with their marks.
abbrev pub own_first : ℕ → ℕ → (m1 m2 m3 m4 : Mark) → List (LocalEntry Op)
own_first p a m1 m2 m3 m4 =
    own_entry (name_of a) m1 (id_of a 1) (read p) ∷ own_entry (name_of a) m2 (id_of a 2) (write (suc p)) ∷ own_entry (name_of a) m3 (id_of a 3) (add a) ∷ own_entry (name_of a) m4 (id_of a 4) (ask a) ∷ []

-- The own entries of the second transaction of a pair, with their marks.
abbrev pub own_second : ℕ → (m1 m2 : Mark) → List (LocalEntry Op)
own_second b m1 m2 = own_entry (name_of b) m1 (id_of b 1) (add b) ∷ own_entry (name_of b) m2 (id_of b 2) (ask b) ∷ []

-- The committed entries of the first transaction of a pair.
abbrev pub items_first : ℕ → ℕ → List (Item Op)
items_first p a = record { id = id_of a 1; op = read p } ∷ record { id = id_of a 2; op = write (suc p) } ∷ record { id = id_of a 3; op = add a } ∷ record { id = id_of a 4; op = ask a } ∷ []

-- The committed entries of the second transaction of a pair.
abbrev pub items_second : ℕ → List (Item Op)
items_second b = record { id = id_of b 1; op = add b } ∷ record { id = id_of b 2; op = ask b } ∷ []

-- The first transaction of a pair as it was committed.
abbrev pub done_first : ℕ → ℕ → CommittedTx Op
done_first p a = record { name = name_of a; entries = items_first p a }

-- The second transaction of a pair as it was committed.
abbrev pub done_second : ℕ → CommittedTx Op
done_second b = record { name = name_of b; entries = items_second b }

-- The shared entries of the first transaction of a pair alone, committed or not.
abbrev pub shared_first : ℕ → ℕ → Bool → List (SharedEntry Op)
shared_first p a x = shared_entry (name_of a) x (id_of a 1) (read p) ∷ shared_entry (name_of a) x (id_of a 2) (write (suc p)) ∷ shared_entry (name_of a) x (id_of a 3) (add a) ∷ shared_entry (name_of a) x (id_of a 4) (ask a) ∷ []

-- The shared entries of a pair. The boolean x says whether those of a are committed, and y whether those of b are.
abbrev pub shared_both : ℕ → ℕ → ℕ → Bool → Bool → List (SharedEntry Op)
shared_both p a b x y =
    shared_entry (name_of a) x (id_of a 1) (read p)
    ∷ shared_entry (name_of b) y (id_of b 1) (add b)
    ∷ shared_entry (name_of a) x (id_of a 2) (write (suc p))
    ∷ shared_entry (name_of b) y (id_of b 2) (ask b)
    ∷ shared_entry (name_of a) x (id_of a 3) (add a)
    ∷ shared_entry (name_of a) x (id_of a 4) (ask a)
    ∷ []

-- These ids and those of the first transaction of a pair.
abbrev pub ids_first : ℕ → List ℕ → List ℕ
ids_first a is = id_of a 4 ∷ id_of a 3 ∷ id_of a 2 ∷ id_of a 1 ∷ is

-- These ids and those of the second transaction of a pair.
abbrev pub ids_second : ℕ → List ℕ → List ℕ
ids_second b is = id_of b 2 ∷ id_of b 1 ∷ is

-- The four operations of a lead on from here.
pub apps_lead : (p a : ℕ) (ns : List Name) (is : List ℕ) (r : List (Tx Op)) (G : List (SharedEntry Op)) (D : List (CommittedTx Op)) (seen : List (LocalEntry Op)) (ss : List (Step Op)) (e : Config Op) →
    Others (name_of a) r → Under (id_of a 1) is → Log drill_objects (local_ops seen) (states_at p 0) →
    LeadsTo drill_objects (conf ns (ids_first a is) (open_tx (name_of a) first_thread (seen ++ own_first p a Unpushed Unpushed Unpushed Unpushed) ∷ r) G D) ss e →
    LeadsTo drill_objects (conf ns is (open_tx (name_of a) first_thread (seen ++ []) ∷ r) G D) (first_apps p a ++ ss) e
apps_lead p a ns is r G D seen ss e others under log h =
    let t = name_of a in
    let o1 : LocalEntry Op = own_entry t Unpushed (id_of a 1) (read p) in
    let o2 : LocalEntry Op = own_entry t Unpushed (id_of a 2) (write (suc p)) in
    let o3 : LocalEntry Op = own_entry t Unpushed (id_of a 3) (add a) in
    let k = first_allowed (written empty (pos 0) (pos p)) (pos 0) p a (value_is p) in
    let u2 : Under (id_of a 2) (id_of a 1 ∷ is) = under_next (id_of a 1) (id_of a 2) is under (omega arith) in
    let u3 : Under (id_of a 3) (id_of a 2 ∷ id_of a 1 ∷ is) = under_next (id_of a 2) (id_of a 3) (id_of a 1 ∷ is) u2 (omega arith) in
    let u4 : Under (id_of a 4) (id_of a 3 ∷ id_of a 2 ∷ id_of a 1 ∷ is) = under_next (id_of a 3) (id_of a 4) (id_of a 2 ∷ id_of a 1 ∷ is) u3 (omega arith) in
    app_step drill_objects ns is t first_thread [] r D tt others seen [] G (id_of a 1) (read p) (states_at p 0) (app a 2 (write (suc p)) ∷ app a 3 (add a) ∷ app a 4 (ask a) ∷ ss) e
    (fresh (id_of a 1) is under) log (k.0, tt)
    (app_step drill_objects ns (id_of a 1 ∷ is) t first_thread [] r D tt others seen (o1 ∷ []) G (id_of a 2) (write (suc p)) (states_at p 0) (app a 3 (add a) ∷ app a 4 (ask a) ∷ ss) e
    (fresh (id_of a 2) (id_of a 1 ∷ is) u2) log (k.0, (k.1.0, tt))
    (app_step drill_objects ns (id_of a 2 ∷ id_of a 1 ∷ is) t first_thread [] r D tt others seen (o1 ∷ o2 ∷ []) G (id_of a 3) (add a) (states_at p 0) (app a 4 (ask a) ∷ ss) e
    (fresh (id_of a 3) (id_of a 2 ∷ id_of a 1 ∷ is) u3) log (k.0, (k.1.0, (k.1.1.0, tt)))
    (app_step drill_objects ns (id_of a 3 ∷ id_of a 2 ∷ id_of a 1 ∷ is) t first_thread [] r D tt others seen (o1 ∷ o2 ∷ o3 ∷ []) G (id_of a 4) (ask a) (states_at p 0) ss e
    (fresh (id_of a 4) (id_of a 3 ∷ id_of a 2 ∷ id_of a 1 ∷ is) u4) log (k.0, (k.1.0, (k.1.1.0, (k.1.1.1.0, tt))))
    h)))

-- The steps of a and b while both are open, with the own entries A of a and B of b, and with what the pair has pushed.
module _ (p x a b : ℕ) (ns : List Name) (is : List ℕ) (G : List (SharedEntry Op)) (D : List (CommittedTx Op)) (seen : List (LocalEntry Op))
    (view : View a p G seen) (all : AllCommitted G) (log : Log drill_objects (shared_ops G) (states_at p x)) (apart : name_of a ≢ name_of b) where
  abbrev both_open : (A B : List (LocalEntry Op)) → List (SharedEntry Op) → Config Op
  both_open A B new = conf ns is (open_tx (name_of a) first_thread (seen ++ A) ∷ open_tx (name_of b) second_thread B ∷ []) (G ++ new) D

  not_b : (name_of b =ⁿ name_of a) ≡ false
  not_b = not_name (name_of b) (name_of a) (λ e. apart (sym e))

  not_a : (name_of a =ⁿ name_of b) ≡ false
  not_a = not_name (name_of a) (name_of b) apart

  push_first : (done rest B : List (LocalEntry Op)) (new : List (SharedEntry Op)) (i : ℕ) (op : Op) (ss : List (Step Op)) (e : Config Op) →
      0 < i → Apart (id_of a i) done → Apart (id_of a i) rest → Settled done → Each (λ u. u.owner ≢ name_of a → Swaps drill_objects u.op op) new → AllowedFrom drill_objects (states_at p x) (shared_ops new ++ op ∷ []) →
      LeadsTo drill_objects (both_open (done ++ own_entry (name_of a) Pushed (id_of a i) op ∷ rest) B (new ++ shared_entry (name_of a) false (id_of a i) op ∷ [])) ss e →
      LeadsTo drill_objects (both_open (done ++ own_entry (name_of a) Unpushed (id_of a i) op ∷ rest) B new) (push a i ∷ ss) e
  push_first done rest B new i op ss e h f g k swap allowed l =
      push_step drill_objects ns is (name_of a) first_thread [] (open_tx (name_of b) second_thread B ∷ []) D tt (not_b, tt) seen done rest G new (id_of a i) op (states_at p x) ss e
      (view.apart i h) f g view.settled k all swap log allowed l

  push_second : (done rest A : List (LocalEntry Op)) (new : List (SharedEntry Op)) (i : ℕ) (op : Op) (ss : List (Step Op)) (e : Config Op) →
      Apart (id_of b i) done → Apart (id_of b i) rest → Settled done → Each (λ u. u.owner ≢ name_of b → Swaps drill_objects u.op op) new → AllowedFrom drill_objects (states_at p x) (shared_ops new ++ op ∷ []) →
      LeadsTo drill_objects (both_open A (done ++ own_entry (name_of b) Pushed (id_of b i) op ∷ rest) (new ++ shared_entry (name_of b) false (id_of b i) op ∷ [])) ss e →
      LeadsTo drill_objects (both_open A (done ++ own_entry (name_of b) Unpushed (id_of b i) op ∷ rest) new) (push b i ∷ ss) e
  push_second done rest A new i op ss e f g k swap allowed l =
      push_step drill_objects ns is (name_of b) second_thread (open_tx (name_of a) first_thread (seen ++ A) ∷ []) [] D (not_a, tt) tt [] done rest G new (id_of b i) op (states_at p x) ss e
      tt f g tt k all swap log allowed l

  -- The six pushes of a pair lead from two transactions with nothing pushed to the same with all pushed; more steps lead on.
  pub pushes_lead : (ss : List (Step Op)) (e : Config Op) →
      LeadsTo drill_objects (both_open (own_first p a Pushed Pushed Pushed Pushed) (own_second b Pushed Pushed) (shared_both p a b false false)) ss e →
      LeadsTo drill_objects (both_open (own_first p a Unpushed Unpushed Unpushed Unpushed) (own_second b Unpushed Unpushed) []) (push a 1 ∷ push b 1 ∷ push a 2 ∷ push b 2 ∷ push a 3 ∷ push a 4 ∷ ss) e
  pushes_lead ss e h =
      let t = name_of a in
      let u = name_of b in
      let o : Mark → ℕ → Op → LocalEntry Op = λ m i op. own_entry t m (id_of a i) op in
      let q : Mark → ℕ → Op → LocalEntry Op = λ m i op. own_entry u m (id_of b i) op in
      let f : ℕ → Op → SharedEntry Op = λ i op. shared_entry t false (id_of a i) op in
      let g : ℕ → Op → SharedEntry Op = λ i op. shared_entry u false (id_of b i) op in
      let k = both_allowed (written empty (pos 0) (pos p)) (pos x) p a b (value_is p) in
      push_first [] (o Unpushed 2 (write (suc p)) ∷ o Unpushed 3 (add a) ∷ o Unpushed 4 (ask a) ∷ []) (own_second b Unpushed Unpushed) [] 1 (read p) _ e
      (omega arith) tt (two_ids a 2 1 refl, (two_ids a 3 1 refl, (two_ids a 4 1 refl, tt))) tt tt (k.0, tt)
      (push_second [] (q Unpushed 2 (ask b) ∷ []) (own_first p a Pushed Unpushed Unpushed Unpushed) (f 1 (read p) ∷ []) 1 (add b) _ e
      tt (two_ids b 2 1 refl, tt) tt ((λ n. read_add_swap p b), tt) (k.0, (k.1.0, tt))
      (push_first (o Pushed 1 (read p) ∷ []) (o Unpushed 3 (add a) ∷ o Unpushed 4 (ask a) ∷ []) (own_second b Pushed Unpushed) (f 1 (read p) ∷ g 1 (add b) ∷ []) 2 (write (suc p)) _ e
      (omega arith) (two_ids a 1 2 refl, tt) (two_ids a 3 2 refl, (two_ids a 4 2 refl, tt)) (refl, tt)
      ((λ n. absurd (n refl)), ((λ n. add_write_swap (suc p) b), tt)) (k.0, (k.1.0, (k.1.1.0, tt)))
      (push_second (q Pushed 1 (add b) ∷ []) [] (own_first p a Pushed Pushed Unpushed Unpushed) (f 1 (read p) ∷ g 1 (add b) ∷ f 2 (write (suc p)) ∷ []) 2 (ask b) _ e
      (two_ids b 1 2 refl, tt) tt (refl, tt)
      ((λ n. read_ask_swap p b), ((λ n. absurd (n refl)), ((λ n. write_ask_swap (suc p) b), tt))) (k.0, (k.1.0, (k.1.1.0, (k.1.1.1.0, tt))))
      (push_first (o Pushed 1 (read p) ∷ o Pushed 2 (write (suc p)) ∷ []) (o Unpushed 4 (ask a) ∷ []) (own_second b Pushed Pushed) (f 1 (read p) ∷ g 1 (add b) ∷ f 2 (write (suc p)) ∷ g 2 (ask b) ∷ []) 3 (add a) _ e
      (omega arith) (two_ids a 1 3 refl, (two_ids a 2 3 refl, tt)) (two_ids a 4 3 refl, tt) (refl, (refl, tt))
      ((λ n. absurd (n refl)), ((λ n. adds_swap b a), ((λ n. absurd (n refl)), ((λ n. ask_add_swap a b), tt)))) (k.0, (k.1.0, (k.1.1.0, (k.1.1.1.0, (k.1.1.1.1.0, tt)))))
      (push_first (o Pushed 1 (read p) ∷ o Pushed 2 (write (suc p)) ∷ o Pushed 3 (add a) ∷ []) [] (own_second b Pushed Pushed) (f 1 (read p) ∷ g 1 (add b) ∷ f 2 (write (suc p)) ∷ g 2 (ask b) ∷ f 3 (add a) ∷ []) 4 (ask a) ss e
      (omega arith) (two_ids a 1 4 refl, (two_ids a 2 4 refl, (two_ids a 3 4 refl, tt))) tt (refl, (refl, (refl, tt)))
      ((λ n. absurd (n refl)), ((λ n. add_ask_swap a b), ((λ n. absurd (n refl)), ((λ n. asks_swap b a), ((λ n. absurd (n refl)), tt))))) k
      h)))))

  -- The two commits.
  second_commits : commit_all (name_of b) (G ++ shared_both p a b false false) ≡ G ++ shared_both p a b false true
  second_commits = map-append _ G (shared_both p a b false false) ∙ ap (λ (w : List (SharedEntry Op)). w ++ commit_all (name_of b) (shared_both p a b false false)) (still (name_of b) G all) ∙ rw (not_a, eq-names (name_of b) (name_of b) refl) refl

  first_commits : commit_all (name_of a) (G ++ shared_both p a b false true) ≡ G ++ shared_both p a b true true
  first_commits = map-append _ G (shared_both p a b false true) ∙ ap (λ (w : List (SharedEntry Op)). w ++ commit_all (name_of a) (shared_both p a b false true)) (still (name_of a) G all) ∙ rw (not_b, eq-names (name_of a) (name_of a) refl) refl

  -- The two commits of a pair, both pushed, lead to no open transaction and all its entries committed; more steps lead on.
  pub commits_lead : (ss : List (Step Op)) (e : Config Op) →
      LeadsTo drill_objects (conf ns is [] (G ++ shared_both p a b true true) ((D ++ done_second b ∷ []) ++ done_first p a ∷ [])) ss e →
      LeadsTo drill_objects (both_open (own_first p a Pushed Pushed Pushed Pushed) (own_second b Pushed Pushed) (shared_both p a b false false)) (Cmt (name_of b) ∷ Cmt (name_of a) ∷ ss) e
  commits_lead ss e h =
      let own_may : (G : List (SharedEntry Op)) (t : Name) (i : ℕ) (op : Op) → MayCommit G (own_entry t Pushed i op) = λ G t i op. ((λ k. refl), (λ k. absurd (cc))) in
      let A = own_first p a Pushed Pushed Pushed Pushed in
      let H = G ++ shared_both p a b false true in
      cmt_step drill_objects ns is (name_of b) second_thread (open_tx (name_of a) first_thread (seen ++ A) ∷ []) [] D (not_a, tt) tt
      (own_second b Pushed Pushed) (items_second b) (G ++ shared_both p a b false false) H (Cmt (name_of a) ∷ ss) e
      (own_may _ (name_of b) (id_of b 1) (add b), (own_may _ (name_of b) (id_of b 2) (ask b), tt)) refl second_commits
      (cmt_step drill_objects ns is (name_of a) first_thread [] [] (D ++ done_second b ∷ []) tt tt
      (seen ++ A) (items_first p a) H (G ++ shared_both p a b true true) ss e
      (each_append (MayCommit H) seen A (may_still G (shared_both p a b false true) seen view.may)
      (own_may H (name_of a) (id_of a 1) (read p), (own_may H (name_of a) (id_of a 2) (write (suc p)), (own_may H (name_of a) (id_of a 3) (add a), (own_may H (name_of a) (id_of a 4) (ask a), tt)))))
      (own_items-append seen A ∙ ap (λ (w : List (Item Op)). w ++ items_first p a) view.none)
      first_commits
      h)

-- The steps of a alone: its pushes and its commit.
module _ (p x a : ℕ) (ns : List Name) (is : List ℕ) (G : List (SharedEntry Op)) (D : List (CommittedTx Op)) (seen : List (LocalEntry Op))
    (view : View a p G seen) (all : AllCommitted G) (log : Log drill_objects (shared_ops G) (states_at p x)) where
  abbrev one_open : List (LocalEntry Op) → List (SharedEntry Op) → Config Op
  one_open A new = conf ns is (open_tx (name_of a) first_thread (seen ++ A) ∷ []) (G ++ new) D

  push_alone : (done rest : List (LocalEntry Op)) (new : List (SharedEntry Op)) (i : ℕ) (op : Op) (ss : List (Step Op)) (e : Config Op) →
      0 < i → Apart (id_of a i) done → Apart (id_of a i) rest → Settled done → Each (λ u. u.owner ≢ name_of a → Swaps drill_objects u.op op) new → AllowedFrom drill_objects (states_at p x) (shared_ops new ++ op ∷ []) →
      LeadsTo drill_objects (one_open (done ++ own_entry (name_of a) Pushed (id_of a i) op ∷ rest) (new ++ shared_entry (name_of a) false (id_of a i) op ∷ [])) ss e →
      LeadsTo drill_objects (one_open (done ++ own_entry (name_of a) Unpushed (id_of a i) op ∷ rest) new) (push a i ∷ ss) e
  push_alone done rest new i op ss e h f g k swap allowed l =
      push_step drill_objects ns is (name_of a) first_thread [] [] D tt tt seen done rest G new (id_of a i) op (states_at p x) ss e
      (view.apart i h) f g view.settled k all swap log allowed l

  -- The four pushes of a transaction alone lead from nothing pushed to all pushed; more steps lead on.
  pub unpaired_pushes_lead : (ss : List (Step Op)) (e : Config Op) →
      LeadsTo drill_objects (one_open (own_first p a Pushed Pushed Pushed Pushed) (shared_first p a false)) ss e →
      LeadsTo drill_objects (one_open (own_first p a Unpushed Unpushed Unpushed Unpushed) []) (push a 1 ∷ push a 2 ∷ push a 3 ∷ push a 4 ∷ ss) e
  unpaired_pushes_lead ss e h =
      let t = name_of a in
      let o : Mark → ℕ → Op → LocalEntry Op = λ m i op. own_entry t m (id_of a i) op in
      let f : ℕ → Op → SharedEntry Op = λ i op. shared_entry t false (id_of a i) op in
      let k = first_allowed (written empty (pos 0) (pos p)) (pos x) p a (value_is p) in
      push_alone [] (o Unpushed 2 (write (suc p)) ∷ o Unpushed 3 (add a) ∷ o Unpushed 4 (ask a) ∷ []) [] 1 (read p) _ e
      (omega arith) tt (two_ids a 2 1 refl, (two_ids a 3 1 refl, (two_ids a 4 1 refl, tt))) tt tt (k.0, tt)
      (push_alone (o Pushed 1 (read p) ∷ []) (o Unpushed 3 (add a) ∷ o Unpushed 4 (ask a) ∷ []) (f 1 (read p) ∷ []) 2 (write (suc p)) _ e
      (omega arith) (two_ids a 1 2 refl, tt) (two_ids a 3 2 refl, (two_ids a 4 2 refl, tt)) (refl, tt)
      ((λ n. absurd (n refl)), tt) (k.0, (k.1.0, tt))
      (push_alone (o Pushed 1 (read p) ∷ o Pushed 2 (write (suc p)) ∷ []) (o Unpushed 4 (ask a) ∷ []) (f 1 (read p) ∷ f 2 (write (suc p)) ∷ []) 3 (add a) _ e
      (omega arith) (two_ids a 1 3 refl, (two_ids a 2 3 refl, tt)) (two_ids a 4 3 refl, tt) (refl, (refl, tt))
      ((λ n. absurd (n refl)), ((λ n. absurd (n refl)), tt)) (k.0, (k.1.0, (k.1.1.0, tt)))
      (push_alone (o Pushed 1 (read p) ∷ o Pushed 2 (write (suc p)) ∷ o Pushed 3 (add a) ∷ []) [] (f 1 (read p) ∷ f 2 (write (suc p)) ∷ f 3 (add a) ∷ []) 4 (ask a) ss e
      (omega arith) (two_ids a 1 4 refl, (two_ids a 2 4 refl, (two_ids a 3 4 refl, tt))) tt (refl, (refl, (refl, tt)))
      ((λ n. absurd (n refl)), ((λ n. absurd (n refl)), ((λ n. absurd (n refl)), tt))) k
      h)))

  alone_commits : commit_all (name_of a) (G ++ shared_first p a false) ≡ G ++ shared_first p a true
  alone_commits = map-append _ G (shared_first p a false) ∙ ap (λ (w : List (SharedEntry Op)). w ++ commit_all (name_of a) (shared_first p a false)) (still (name_of a) G all) ∙ rw (eq-names (name_of a) (name_of a) refl) refl

  -- The commit of a transaction alone, all pushed, leads to no open transaction and its entries committed; more steps lead on.
  pub unpaired_commit_leads : (ss : List (Step Op)) (e : Config Op) →
      LeadsTo drill_objects (conf ns is [] (G ++ shared_first p a true) (D ++ done_first p a ∷ [])) ss e →
      LeadsTo drill_objects (one_open (own_first p a Pushed Pushed Pushed Pushed) (shared_first p a false)) (Cmt (name_of a) ∷ ss) e
  unpaired_commit_leads ss e h =
      let A = own_first p a Pushed Pushed Pushed Pushed in
      let H = G ++ shared_first p a false in
      let own_may : (i : ℕ) (op : Op) → MayCommit H (own_entry (name_of a) Pushed i op) = λ i op. ((λ k. refl), (λ k. absurd (cc))) in
      cmt_step drill_objects ns is (name_of a) first_thread [] [] D tt tt
      (seen ++ A) (items_first p a) H (G ++ shared_first p a true) ss e
      (each_append (MayCommit H) seen A (may_still G (shared_first p a false) seen view.may)
      (own_may (id_of a 1) (read p), (own_may (id_of a 2) (write (suc p)), (own_may (id_of a 3) (add a), (own_may (id_of a 4) (ask a), tt)))))
      (own_items-append seen A ∙ ap (λ (w : List (Item Op)). w ++ items_first p a) view.none)
      alone_commits
      h
