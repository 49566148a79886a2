-- The committed transactions of a run, each alone, make an accepted run.
use mathlib.Core.List.{map-map}
use Rattle.std.specs.Prelude.{◌≡◌, ◌≢◌, ◌⊎◌, ℕ, ◌==◌, Bool, true, false, not, cond, ◌&&◌, List, []}
use Rattle.std.specs.Prelude.{◌∷◌, ◌++◌, map, find, Option, Some, None}
use Rattle.std.proofs.Common.{refl, sym, ap, subst, ◌∙◌, append_assoc}
use Rattle.std.proofs.lemmas.List.{map-append, append-nil}
use Rattle.std.proofs.lemmas.Bool.{and_parts, eqb-true, eq-eqb}
use mathlib.Core.Logic.{inl, inr}
use Rattle.pp_model.specs.Lists.{In, Before, joined}
use Rattle.pp_model.specs.Body.{Call, Tree, IsWord, Begins}
use Rattle.pp_model.specs.Object.{Object, Allowed, Item, ops}
use Rattle.pp_model.specs.Config.{after, Unpushed, Pushed, Pulled, is_own, is_mark, LocalEntry}
use Rattle.pp_model.specs.Config.{SharedEntry, Tx, CommittedTx, Config, Start, Step, App, Push}
use Rattle.pp_model.specs.Config.{Pull, Cmt, item, shared_item, own, own_items, local_ops}
use Rattle.pp_model.specs.Config.{shared_ops, as_shared, tx, then, push_effect, pull_effect}
use Rattle.pp_model.specs.Config.{commit_effect, entry_of, at_mark, of_other, on_log, set_mark}
use Rattle.pp_model.specs.Config.{commit_all, first}
use Rattle.pp_model.specs.Rules.{calls, FirstFalse, there, Meets, StartMeets, RunsFrom}
use Rattle.pp_model.specs.Sound.{Sound}
use Rattle.pp_model.specs.Serial.{Attempt, attempt_of, attempts, commits, start_attempts}
use Rattle.pp_model.specs.Serial.{committed_tx, serial}
use Rattle.pp_model.specs.Alone.{own_steps, one_alone, all_alone, alone, first_thread, threads_of}
use Rattle.pp_model.proofs.Lists.{in_left, in_right, in_cases, before_cases, before_left}
use Rattle.pp_model.proofs.Lists.{before_right, before_across, before_in_first, before_in_second}
use Rattle.pp_model.proofs.Lists.{in_map, from_map, before_map, before_from_map, by_key, in_joined}
use Rattle.pp_model.proofs.Lists.{before_from_joined}
use Rattle.pp_model.proofs.Logs.{at_tx, is_mark-true}
use Rattle.pp_model.proofs.Steps.{own_items-append}
use Rattle.pp_model.proofs.Push.{mark_at, marked_other, remark}
use Rattle.pp_model.proofs.Serial.{allowed_front}
use Rattle.pp_model.proofs.SameAttempts.{same_attempts}
use Rattle.pp_model.proofs.Begin.{start_sound}
use Rattle.pp_model.proofs.Keeps.{run_keeps}
use Rattle.pp_model.proofs.Simulate.{finished_are, serial_allowed, all_words}
use Rattle.pp_model.specs.Names.{Name, ◌=ⁿ◌}
use Rattle.pp_model.proofs.Names.{eq-names, names_not, names_tell}

-- the only element that passes the test is found
find_step : {A : Type 0} (test : A → Bool) (x z : A) (r : Option A) → ((x ≡ z) ⊎ (r ≡ Some x)) → (test z ≡ true → z ≡ x) → test x ≡ true → (b : Bool) → test z ≡ b → cond b (Some z) r ≡ Some x
find_step {A} test x z r h u t true e = ap (λ (w : A). Some w) (u e)
find_step {A} test x z r (inl h) u t false e = absurd (let k : true ≡ false = sym t ∙ ap test h ∙ e in cc)
find_step test x z r (inr h) u t false e = h

-- If x is the only element of a list that passes a test, `find` returns x.
pub find_only : {A : Type 0} (test : A → Bool) (x : A) (xs : List A) → In x xs → test x ≡ true → ((y : A) → In y xs → test y ≡ true → y ≡ x) → find test xs ≡ Some x
find_only test x [] i t u = absurd i
find_only test x (z ∷ zs) (inl e) t u = find_step test x z (find test zs) (inl e) (λ k. u z (inl refl) k) t (test z) refl
find_only test x (z ∷ zs) (inr i) t u = find_step test x z (find test zs) (inr (find_only test x zs i t (λ y j k. u y (inr j) k))) (λ k. u z (inl refl) k) t (test z) refl

-- If an option is `Some x`, and no fact about x is false, then `there` has no false fact.
pub there_is : {A : Type 0} (o : Option A) (F : A → List (Type 0)) (x : A) → o ≡ Some x → FirstFalse (F x) 0 → FirstFalse (there o F) 0
there_is {A} o F x e h = subst (λ (w : Option A). FirstFalse (there w F) 0) (sym e) (tt, h)

-- one step, and the rest from the configuration that it leads to
step_to : {Op State : Type 0} (O : Object Op State) (c d : Config Op) (a : Step Op) (ss : List (Step Op)) → Meets O c a → then c a ≡ d → RunsFrom O d ss → RunsFrom O c (a ∷ ss)
step_to {Op} O c d a ss f e r = (f, subst (λ (w : Config Op). RunsFrom O w ss) (sym e) r)

-- The entry of a local log that a PULL of g adds.
abbrev pub pull_entry : {Op : Type 0} → SharedEntry Op → LocalEntry Op
pull_entry g = record { id = g.id; owner = g.owner; mark = Pulled; op = g.op }

-- The entry of t's local log for an item that was pushed.
abbrev pub push_entry : {Op : Type 0} → Name → Item Op → LocalEntry Op
push_entry t q = record { id = q.id; owner = t; mark = Pushed; op = q.op }

-- one transaction is open
abbrev pub busy : {Op : Type 0} → List Name → List ℕ → Tx Op → List (SharedEntry Op) → List (CommittedTx Op) → Config Op
busy N I x G F = record { names = N; ids = I; opened = x ∷ []; shared = G; done = F }

-- The open transaction with these parts.
abbrev pub the_tx : {Op : Type 0} → Name → Name → Option Tree → List (LocalEntry Op) → Tx Op
the_tx t p b l = record { name = t; thread = p; body = b; local = l }

tx_one : {Op : Type 0} (t p : Name) (b : Option Tree) (l : List (LocalEntry Op)) → tx t (the_tx t p b l ∷ []) ≡ Some (the_tx t p b l)
tx_one {Op} t p b l = ap (λ (z : Bool). cond z (Some (the_tx t p b l)) None) (eq-names t t refl)

on_one : {Op : Type 0} (t p : Name) (b : Option Tree) (l : List (LocalEntry Op)) (f : List (LocalEntry Op) → List (LocalEntry Op)) → on_log t f (the_tx t p b l ∷ []) ≡ the_tx t p b (f l) ∷ []
on_one {Op} t p b l f = ap (λ (w : Tx Op). w ∷ []) (at_tx t f (the_tx t p b l) refl)

-- The criteria that a transaction which runs alone meets: its own items A after the committed entries G.
pub record MayRunAlone {Op State : Type 0} (O : Object Op State) (t : Name) (b : Option Tree) (I : List ℕ) (G : List (SharedEntry Op)) (A : List (Item Op)) : Type 0 where
  pub settled : (g : SharedEntry Op) → In g G → g.committed ≡ true
  pub others : (g : SharedEntry Op) → In g G → g.owner ≢ t
  pub distinct : (g h : SharedEntry Op) → Before g h G → g.id ≢ h.id
  pub used : (g : SharedEntry Op) → In g G → In g.id I
  pub free : (q : Item Op) → In q A → In q.id I → ⊥
  pub apart : (q r : Item Op) → Before q r A → q.id ≢ r.id
  pub allowed : Allowed O (shared_ops G ++ ops A)
  pub word : IsWord b (calls O A)

pull_ops : {Op : Type 0} (G : List (SharedEntry Op)) → local_ops (map pull_entry G) ≡ shared_ops G
pull_ops [] = refl
pull_ops {Op} (g ∷ G) = ap (λ (w : List Op). g.op ∷ w) (pull_ops G)

-- it pulls all entries
pulls : {Op State : Type 0} (O : Object Op State) (t p : Name) (b : Option Tree) (N : List Name) (I : List ℕ) (F : List (CommittedTx Op)) (G : List (SharedEntry Op)) (A : List (Item Op)) → MayRunAlone O t b I G A →
    (H K : List (SharedEntry Op)) → G ≡ K ++ H → (rest : List (Step Op)) →
    RunsFrom O (busy N I (the_tx t p b (map pull_entry G)) G F) rest →
    RunsFrom O (busy N I (the_tx t p b (map pull_entry K)) G F) (map (λ g. Pull t g.id) H ++ rest)
pulls {Op} O t p b N I F G A m [] K e rest r = subst (λ (w : List (SharedEntry Op)). RunsFrom O (busy N I (the_tx t p b (map pull_entry w)) G F) rest) (e ∙ append-nil K) r
pulls {Op} O t p b N I F G A m (g ∷ H) K e rest r =
    step_to O c d (Pull t g.id) (map (λ g. Pull t g.id) H ++ rest)
    (there_is (tx t c.opened) _ (the_tx t p b (map pull_entry K)) (tx_one t p b (map pull_entry K))
    (there_is (of_other t g.id G) _ g lookup (
      (λ a i. let w = from_map pull_entry a K i in λ z. m.distinct w.0 g (subst (λ (w' : List (SharedEntry Op)). Before w.0 g w') (sym e) (before_across w.0 g K (g ∷ H) w.1 (inl refl))) (ap (λ (z : LocalEntry Op). z.id) (sym w.2) ∙ z)),
      (
        subst (λ (w : List Op). Allowed O (w ++ g.op ∷ [])) (sym (pull_ops K)) front,
        ((λ a i o. let w = from_map pull_entry a K i in absurd (let z : true ≡ false = sym o ∙ ap (λ (z : LocalEntry Op). is_own z.mark) w.2 in cc)), refl),
      ),
    )))
    (ap (λ (w : Option (SharedEntry Op)). pull_effect c t g.id w) lookup
    ∙ ap (λ (w : List (Tx Op)). record { names = N; ids = I; opened = w; shared = G; done = F }) (on_one t p b (map pull_entry K) (λ l. l ++ pull_entry g ∷ []) ∙ ap (λ (w : List (LocalEntry Op)). the_tx t p b w ∷ []) (sym (map-append pull_entry K (g ∷ [])))))
    (pulls O t p b N I F G A m H (K ++ g ∷ []) (e ∙ sym (append_assoc K (g ∷ []) H)) rest r)
  where
    c : Config Op
    c = busy N I (the_tx t p b (map pull_entry K)) G F

    d : Config Op
    d = busy N I (the_tx t p b (map pull_entry (K ++ g ∷ []))) G F

    here : In g G
    here = subst (λ (w : List (SharedEntry Op)). In g w) (sym e) (in_right g K (g ∷ H) (inl refl))

    lookup : of_other t g.id G ≡ Some g
    lookup = find_only (λ (w : SharedEntry Op). (w.id == g.id) && not (w.owner =ⁿ t)) g G here
        (ap (λ (z : Bool). z && not (g.owner =ⁿ t)) (eq-eqb g.id g.id refl) ∙ names_not g.owner t (m.others g here))
        (λ y i k. by_key (λ (w : SharedEntry Op). w.id) G m.distinct y g i here (eqb-true y.id g.id (and_parts (y.id == g.id) (not (y.owner =ⁿ t)) k).0))

    front : Allowed O (shared_ops K ++ g.op ∷ [])
    front = allowed_front O O.start (shared_ops K ++ g.op ∷ []) (shared_ops H ++ ops A)
        (subst (λ (w : List Op). Allowed O w)
        (ap (λ (w : List (SharedEntry Op)). shared_ops w ++ ops A) e ∙ ap (λ (w : List Op). w ++ ops A) (map-append (λ (w : SharedEntry Op). w.op) K (g ∷ H))
        ∙ append_assoc (shared_ops K) (g.op ∷ shared_ops H) (ops A) ∙ sym (append_assoc (shared_ops K) (g.op ∷ []) (shared_ops H ++ ops A)))
        m.allowed)

-- The local log of a transaction that has applied and pushed the items A.
abbrev pub log_of : {Op : Type 0} → Name → List (SharedEntry Op) → List (Item Op) → List (LocalEntry Op)
log_of t G A = map pull_entry G ++ map (push_entry t) A

-- The shared log after t has pushed the items A.
abbrev pub shared_of : {Op : Type 0} → Name → List (SharedEntry Op) → List (Item Op) → List (SharedEntry Op)
shared_of t G A = G ++ map (as_shared t false) A

-- The used ids after the items A were applied.
abbrev pub ids_after : {Op : Type 0} → List (Item Op) → List ℕ → List ℕ
ids_after [] I = I
ids_after (q ∷ A) I = ids_after A (q.id ∷ I)

own_pulled : {Op : Type 0} (G : List (SharedEntry Op)) → own (map pull_entry G) ≡ []
own_pulled [] = refl
own_pulled (g ∷ G) = own_pulled G

own_pushed : {Op : Type 0} (t : Name) (A : List (Item Op)) → own_items (map (push_entry t) A) ≡ A
own_pushed t [] = refl
own_pushed {Op} t (q ∷ A) = ap (λ (w : List (Item Op)). q ∷ w) (own_pushed t A)

own_log : {Op : Type 0} (t : Name) (G : List (SharedEntry Op)) (A : List (Item Op)) → own_items (log_of t G A) ≡ A
own_log {Op} t G A = own_items-append (map pull_entry G) (map (push_entry t) A) ∙ ap (λ (w : List (LocalEntry Op)). map item w ++ own_items (map (push_entry t) A)) (own_pulled G) ∙ own_pushed t A

push_ops : {Op : Type 0} (t : Name) (A : List (Item Op)) → local_ops (map (push_entry t) A) ≡ ops A
push_ops t [] = refl
push_ops {Op} t (q ∷ A) = ap (λ (w : List Op). q.op ∷ w) (push_ops t A)

post_ops : {Op : Type 0} (t : Name) (b : Bool) (A : List (Item Op)) → shared_ops (map (as_shared t b) A) ≡ ops A
post_ops t b [] = refl
post_ops {Op} t b (q ∷ A) = ap (λ (w : List Op). q.op ∷ w) (post_ops t b A)

log_ops : {Op : Type 0} (t : Name) (G : List (SharedEntry Op)) (A : List (Item Op)) → local_ops (log_of t G A) ≡ shared_ops G ++ ops A
log_ops {Op} t G A = map-append (λ (w : LocalEntry Op). w.op) (map pull_entry G) (map (push_entry t) A) ∙ ap (λ (w : List Op). w ++ local_ops (map (push_entry t) A)) (pull_ops G) ∙ ap (λ (w : List Op). shared_ops G ++ w) (push_ops t A)

shared_of_ops : {Op : Type 0} (t : Name) (b : Bool) (G : List (SharedEntry Op)) (A : List (Item Op)) → shared_ops (G ++ map (as_shared t b) A) ≡ shared_ops G ++ ops A
shared_of_ops {Op} t b G A = map-append (λ (w : SharedEntry Op). w.op) G (map (as_shared t b) A) ∙ ap (λ (w : List Op). shared_ops G ++ w) (post_ops t b A)

-- no entry of the log is unpushed, and none has an id that is new
log_marks : {Op : Type 0} (t : Name) (G : List (SharedEntry Op)) (A : List (Item Op)) (e : LocalEntry Op) → In e (log_of t G A) → e.mark ≢ Unpushed
log_marks {Op} t G A e i u = elim (in_cases e (map pull_entry G) (map (push_entry t) A) i) [
  | inl j ↦ let w = from_map pull_entry e G j in let z : Pulled ≡ Unpushed = ap (λ (w : LocalEntry Op). w.mark) (sym w.2) ∙ u in cc
  | inr j ↦ let w = from_map (push_entry t) e A j in let z : Pushed ≡ Unpushed = ap (λ (w : LocalEntry Op). w.mark) (sym w.2) ∙ u in cc
]

log_ids : {Op : Type 0} (t : Name) (id : ℕ) (G : List (SharedEntry Op)) (A : List (Item Op)) → ((g : SharedEntry Op) → In g G → g.id ≢ id) → ((q : Item Op) → In q A → q.id ≢ id) → (e : LocalEntry Op) → In e (log_of t G A) → e.id ≢ id
log_ids {Op} t id G A m n e i u = elim (in_cases e (map pull_entry G) (map (push_entry t) A) i) [
  | inl j ↦ let w = from_map pull_entry e G j in m w.0 w.1 (ap (λ (w : LocalEntry Op). w.id) (sym w.2) ∙ u)
  | inr j ↦ let w = from_map (push_entry t) e A j in n w.0 w.1 (ap (λ (w : LocalEntry Op). w.id) (sym w.2) ∙ u)
]

-- it applies and pushes its own items
owns : {Op State : Type 0} (O : Object Op State) (t p : Name) (b : Option Tree) (N : List Name) (I : List ℕ) (F : List (CommittedTx Op)) (G : List (SharedEntry Op)) (A : List (Item Op)) → MayRunAlone O t b I G A →
    (B K : List (Item Op)) → A ≡ K ++ B → (J : List ℕ) → ((q : Item Op) → In q B → In q.id J → ⊥) → (rest : List (Step Op)) →
    RunsFrom O (busy N (ids_after B J) (the_tx t p b (log_of t G A)) (shared_of t G A) F) rest →
    RunsFrom O (busy N J (the_tx t p b (log_of t G K)) (shared_of t G K) F) (own_steps t B ++ rest)
owns {Op} O t p b N I F G A m [] K e J free rest r =
    subst (λ (w : List (Item Op)). RunsFrom O (busy N J (the_tx t p b (log_of t G w)) (shared_of t G w) F) rest) (e ∙ append-nil K) r
owns {Op} O t p b N I F G A m (q ∷ B) K e J free rest r =
    step_to O c d (App t q.id q.op) (Push t q.id ∷ (own_steps t B ++ rest))
    (there_is (tx t c.opened) _ (the_tx t p b (log_of t G K)) (tx_one t p b (log_of t G K))
    (free q (inl refl), (begins, (subst (λ (w : List Op). Allowed O (w ++ q.op ∷ [])) (sym (log_ops t G K)) front, refl))))
    (ap (λ (w : List (Tx Op)). record { names = N; ids = q.id ∷ J; opened = w; shared = shared_of t G K; done = F }) (on_one t p b (log_of t G K) (λ l. l ++ u ∷ [])))
    (step_to O d f (Push t q.id) (own_steps t B ++ rest)
    (there_is (tx t d.opened) _ (the_tx t p b (log_of t G K ++ u ∷ [])) (tx_one t p b (log_of t G K ++ u ∷ []))
    (there_is (at_mark q.id Unpushed (log_of t G K ++ u ∷ [])) _ u lookup (
      (λ a i n. absurd (log_marks t G K a (earlier a i) n)),
      (
        (λ v i n o. elim (in_cases v G (map (as_shared t false) K) i) [
          | inl j ↦ absurd (let z : true ≡ false = sym (m.settled v j) ∙ n in cc)
          | inr j ↦ let w = from_map (as_shared t false) v K j in absurd (o (ap (λ (z : SharedEntry Op). z.owner) w.2))
        ]),
        (subst (λ (w : List Op). Allowed O (w ++ q.op ∷ [])) (sym (shared_of_ops t false G K)) front, refl),
      ),
    )))
    (ap (λ (w : Option (Tx Op)). push_effect d t q.id (entry_of q.id Unpushed w)) (tx_one t p b (log_of t G K ++ u ∷ []))
    ∙ ap (λ (w : Option (LocalEntry Op)). push_effect d t q.id w) lookup
    ∙ ap (λ (w : List (Tx Op)). record { names = N; ids = q.id ∷ J; opened = w; shared = shared_of t G K ++ as_shared t false q ∷ []; done = F })
    (on_one t p b (log_of t G K ++ u ∷ []) (set_mark q.id Pushed) ∙ ap (λ (w : List (LocalEntry Op)). the_tx t p b w ∷ []) longer)
    ∙ ap (λ (w : List (SharedEntry Op)). record { names = N; ids = q.id ∷ J; opened = the_tx t p b (log_of t G (K ++ q ∷ [])) ∷ []; shared = w; done = F })
    (append_assoc G (map (as_shared t false) K) (as_shared t false q ∷ []) ∙ ap (λ (w : List (SharedEntry Op)). G ++ w) (sym (map-append (as_shared t false) K (q ∷ [])))))
    (owns O t p b N I F G A m B (K ++ q ∷ []) (e ∙ sym (append_assoc K (q ∷ []) B)) (q.id ∷ J) (λ a i j. again a i j) rest r))
  where
    u : LocalEntry Op
    u = record { id = q.id; owner = t; mark = Unpushed; op = q.op }

    c : Config Op
    c = busy N J (the_tx t p b (log_of t G K)) (shared_of t G K) F

    d : Config Op
    d = busy N (q.id ∷ J) (the_tx t p b (log_of t G K ++ u ∷ [])) (shared_of t G K) F

    f : Config Op
    f = busy N (q.id ∷ J) (the_tx t p b (log_of t G (K ++ q ∷ []))) (shared_of t G (K ++ q ∷ [])) F

    mine : In q A
    mine = subst (λ (w : List (Item Op)). In q w) (sym e) (in_right q K (q ∷ B) (inl refl))

    new : (a : LocalEntry Op) → In a (log_of t G K) → a.id ≢ q.id
    new = log_ids t q.id G K (λ g i z. m.free q mine (subst (λ (w : ℕ). In w I) z (m.used g i)))
        (λ a i z. m.apart a q (subst (λ (w : List (Item Op)). Before a q w) (sym e) (before_across a q K (q ∷ B) i (inl refl))) z)

    again : (a : Item Op) → In a B → In a.id (q.id ∷ J) → ⊥
    again a i (inl z) = m.apart q a (subst (λ (w : List (Item Op)). Before q a w) (sym e) (before_right q a K (q ∷ B) (inl (refl, i)))) (sym z)
    again a i (inr z) = free a (inr i) z

    earlier : (a : LocalEntry Op) → Before a u (log_of t G K ++ u ∷ []) → In a (log_of t G K)
    earlier a i = elim (before_cases a u (log_of t G K) (u ∷ []) i) [
      | inl j ↦ before_in_first a u (log_of t G K) j
      | inr (inl (inl j)) ↦ absurd j.1
      | inr (inl (inr j)) ↦ absurd j
      | inr (inr j) ↦ j.0
    ]

    test : LocalEntry Op → Bool
    test w = (w.id == q.id) && is_mark w.mark Unpushed

    lookup : at_mark q.id Unpushed (log_of t G K ++ u ∷ []) ≡ Some u
    lookup = find_only test u (log_of t G K ++ u ∷ []) (in_right u (log_of t G K) (u ∷ []) (inl refl)) (ap (λ (z : Bool). z && true) (eq-eqb q.id q.id refl))
        (λ y i k. elim (in_cases y (log_of t G K) (u ∷ []) i) [
          | inl j ↦ absurd (log_marks t G K y j (is_mark-true y.mark Unpushed (and_parts (y.id == q.id) (is_mark y.mark Unpushed) k).1))
          | inr (inl j) ↦ j
          | inr (inr j) ↦ absurd j
        ])

    longer : set_mark q.id Pushed (log_of t G K ++ u ∷ []) ≡ log_of t G (K ++ q ∷ [])
    longer = map-append (mark_at q.id Pushed) (log_of t G K) (u ∷ [])
        ∙ ap (λ (w : List (LocalEntry Op)). w ++ mark_at q.id Pushed u ∷ []) (marked_other q.id Pushed (log_of t G K) new)
        ∙ ap (λ (z : Bool). log_of t G K ++ cond z (remark Pushed u) u ∷ []) (eq-eqb q.id q.id refl)
        ∙ append_assoc (map pull_entry G) (map (push_entry t) K) (push_entry t q ∷ [])
        ∙ ap (λ (w : List (LocalEntry Op)). map pull_entry G ++ w) (sym (map-append (push_entry t) K (q ∷ [])))

    front : Allowed O ((shared_ops G ++ ops K) ++ q.op ∷ [])
    front = allowed_front O O.start ((shared_ops G ++ ops K) ++ q.op ∷ []) (ops B)
        (subst (λ (w : List Op). Allowed O w)
        (ap (λ (w : List (Item Op)). shared_ops G ++ ops w) e ∙ ap (λ (w : List Op). shared_ops G ++ w) (map-append (λ (w : Item Op). w.op) K (q ∷ B))
        ∙ sym (append_assoc (shared_ops G) (ops K) (q.op ∷ ops B)) ∙ sym (append_assoc (shared_ops G ++ ops K) (q.op ∷ []) (ops B)))
        m.allowed)

    begins : Begins b (calls O (own_items (log_of t G K)) ++ O.call q.op ∷ [])
    begins = (
      calls O B,
      subst (λ (w : List Call). IsWord b w)
          (ap (λ (w : List (Item Op)). calls O w) e ∙ map-append (λ (w : Item Op). O.call w.op) K (q ∷ B) ∙ sym (append_assoc (calls O K) (O.call q.op ∷ []) (calls O B))
          ∙ ap (λ (w : List (Item Op)). (calls O w ++ O.call q.op ∷ []) ++ calls O B) (sym (own_log t G K)))
          m.word,
    )

-- no transaction is open
abbrev pub idle : {Op : Type 0} → List Name → List ℕ → List (SharedEntry Op) → List (CommittedTx Op) → Config Op
idle N I G F = record { names = N; ids = I; opened = []; shared = G; done = F }

committed_other : {Op : Type 0} (t : Name) (G : List (SharedEntry Op)) → ((g : SharedEntry Op) → In g G → g.owner ≢ t) → commit_all t G ≡ G
committed_other t [] h = refl
committed_other {Op} t (g ∷ G) h =
    ap (λ (w : SharedEntry Op). w ∷ commit_all t G) (elim (names_tell g.owner t) [
      | inl r ↦ absurd (h g (inl refl) r.1)
      | inr r ↦ ap (λ (z : Bool). cond z (record { id = g.id; owner = g.owner; committed = true; op = g.op }) g) r.0
    ])
    ∙ ap (λ (w : List (SharedEntry Op)). g ∷ w) (committed_other t G (λ a i. h a (inr i)))

committed_own : {Op : Type 0} (t : Name) (A : List (Item Op)) → commit_all t (map (as_shared t false) A) ≡ map (as_shared t true) A
committed_own t [] = refl
committed_own {Op} t (q ∷ A) =
    ap (λ (z : Bool). cond z (as_shared t true q) (as_shared t false q) ∷ commit_all t (map (as_shared t false) A)) (eq-names t t refl) ∙ ap (λ (w : List (SharedEntry Op)). as_shared t true q ∷ w) (committed_own t A)

commits_alone : {Op State : Type 0} (O : Object Op State) (t p : Name) (b : Option Tree) (N : List Name) (I J : List ℕ) (F : List (CommittedTx Op)) (G : List (SharedEntry Op)) (A : List (Item Op)) → MayRunAlone O t b I G A → (rest : List (Step Op)) →
    RunsFrom O (idle N J (G ++ map (as_shared t true) A) (F ++ record { name = t; entries = A } ∷ [])) rest →
    RunsFrom O (busy N J (the_tx t p b (log_of t G A)) (shared_of t G A) F) (Cmt t ∷ rest)
commits_alone {Op} O t p b N I J F G A m rest r =
    step_to O c (idle N J (G ++ map (as_shared t true) A) (F ++ record { name = t; entries = A } ∷ [])) (Cmt t) rest
    (there_is (tx t c.opened) _ x (tx_one t p b (log_of t G A)) (
      subst (λ (w : List (Item Op)). IsWord b (calls O w)) (sym (own_log t G A)) m.word,
      (
        (λ e i o. pushed_own e i o),
        ((λ e i o. pulled_stands e i o), refl),
      ),
    ))
    (ap (λ (w : Option (Tx Op)). commit_effect c t w) (tx_one t p b (log_of t G A))
    ∙ ap (λ (z : Bool). record { names = N; ids = J; opened = cond (not z) (x ∷ []) []; shared = commit_all t (shared_of t G A); done = F ++ record { name = t; entries = own_items (log_of t G A) } ∷ [] }) (eq-names t t refl)
    ∙ ap (λ (w : List (SharedEntry Op)). idle N J w (F ++ record { name = t; entries = own_items (log_of t G A) } ∷ []))
    (map-append (λ (g : SharedEntry Op). cond (g.owner =ⁿ t) (record { id = g.id; owner = g.owner; committed = true; op = g.op }) g) G (map (as_shared t false) A)
    ∙ ap (λ (w : List (SharedEntry Op)). w ++ commit_all t (map (as_shared t false) A)) (committed_other t G m.others)
    ∙ ap (λ (w : List (SharedEntry Op)). G ++ w) (committed_own t A))
    ∙ ap (λ (w : List (Item Op)). idle N J (G ++ map (as_shared t true) A) (F ++ record { name = t; entries = w } ∷ [])) (own_log t G A))
    r
  where
    x : Tx Op
    x = the_tx t p b (log_of t G A)

    c : Config Op
    c = busy N J (the_tx t p b (log_of t G A)) (shared_of t G A) F

    pushed_own : (e : LocalEntry Op) → In e (log_of t G A) → is_own e.mark ≡ true → e.mark ≡ Pushed
    pushed_own e i o = elim (in_cases e (map pull_entry G) (map (push_entry t) A) i) [
      | inl j ↦ let w = from_map pull_entry e G j in absurd (let z : true ≡ false = sym o ∙ ap (λ (z : LocalEntry Op). is_own z.mark) w.2 in cc)
      | inr j ↦ let w = from_map (push_entry t) e A j in ap (λ (z : LocalEntry Op). z.mark) w.2
    ]

    pulled_stands : (e : LocalEntry Op) → In e (log_of t G A) → e.mark ≡ Pulled → (g : SharedEntry Op) × In g (shared_of t G A) × (g.id ≡ e.id) × (g.committed ≡ true)
    pulled_stands e i o = elim (in_cases e (map pull_entry G) (map (push_entry t) A) i) [
      | inl j ↦ let w = from_map pull_entry e G j in (w.0, in_left w.0 G (map (as_shared t false) A) w.1, ap (λ (z : LocalEntry Op). z.id) (sym w.2), m.settled w.0 w.1)
      | inr j ↦ let w = from_map (push_entry t) e A j in absurd (let z : Pushed ≡ Pulled = ap (λ (z : LocalEntry Op). z.mark) (sym w.2) ∙ o in cc)
    ]

-- one transaction alone
one : {Op State : Type 0} (O : Object Op State) (p : Name) (a : Attempt Op) (N : List Name) (I : List ℕ) (F : List (CommittedTx Op)) (G : List (SharedEntry Op)) → MayRunAlone O a.name a.body I G a.items → (In a.name N → ⊥) → (rest : List (Step Op)) →
    RunsFrom O (idle (a.name ∷ N) (ids_after a.items I) (G ++ map (as_shared a.name true) a.items) (F ++ committed_tx a ∷ [])) rest →
    RunsFrom O (idle N I G F) (one_alone p (map shared_item G) a ++ rest)
one {Op} O p a N I F G m n rest r =
    let t = a.name in
    let A = a.items in
    let r1 : RunsFrom O (busy (t ∷ N) (ids_after A I) (the_tx t p a.body (log_of t G A)) (shared_of t G A) F) (Cmt t ∷ rest) = commits_alone O t p a.body (t ∷ N) I (ids_after A I) F G A m rest r in
    let r2 = owns O t p a.body (t ∷ N) I F G A m A [] refl I m.free (Cmt t ∷ rest) r1 in
    let r3 : RunsFrom O (busy (t ∷ N) I (the_tx t p a.body (map pull_entry G)) G F) (own_steps t A ++ Cmt t ∷ rest) =
    subst (λ (w : List (LocalEntry Op)). RunsFrom O (busy (t ∷ N) I (the_tx t p a.body w) G F) (own_steps t A ++ Cmt t ∷ rest)) (append-nil (map pull_entry G))
    (subst (λ (w : List (SharedEntry Op)). RunsFrom O (busy (t ∷ N) I (the_tx t p a.body (log_of t G [])) w F) (own_steps t A ++ Cmt t ∷ rest)) (append-nil G) r2) in
    let r4 = pulls O t p a.body (t ∷ N) I F G A m G [] refl (own_steps t A ++ Cmt t ∷ rest) r3 in
    let e : map (λ (g : SharedEntry Op). Pull t g.id) G ++ (own_steps t A ++ Cmt t ∷ rest) ≡ (map (λ (q : Item Op). Pull t q.id) (map shared_item G) ++ (own_steps t A ++ Cmt t ∷ [])) ++ rest =
    ap (λ (w : List (Step Op)). w ++ (own_steps t A ++ Cmt t ∷ rest)) (sym (map-map (λ (q : Item Op). Pull t q.id) shared_item G))
    ∙ ap (λ (w : List (Step Op)). map (λ (q : Item Op). Pull t q.id) (map shared_item G) ++ w) (sym (append_assoc (own_steps t A) (Cmt t ∷ []) rest))
    ∙ sym (append_assoc (map (λ (q : Item Op). Pull t q.id) (map shared_item G)) (own_steps t A ++ Cmt t ∷ []) rest) in
    ((n, ((λ x i. absurd i), refl)), subst (λ (w : List (Step Op)). RunsFrom O (busy (t ∷ N) I (the_tx t p a.body []) G F) w) e r4)

-- The criteria that all attempts meet, each run alone.
pub record AllMeet {Op State : Type 0} (O : Object Op State) (N : List Name) (I : List ℕ) (G : List (SharedEntry Op)) (l : List (Attempt Op)) : Type 0 where
  pub settled : (g : SharedEntry Op) → In g G → g.committed ≡ true
  pub owners : (g : SharedEntry Op) → In g G → In g.owner N
  pub distinct : (g h : SharedEntry Op) → Before g h G → g.id ≢ h.id
  pub used : (g : SharedEntry Op) → In g G → In g.id I
  pub names : (a : Attempt Op) → In a l → In a.name N → ⊥
  pub unlike : (a b : Attempt Op) → Before a b l → a.name ≢ b.name
  pub free : (a : Attempt Op) → In a l → (q : Item Op) → In q a.items → In q.id I → ⊥
  pub apart : (q r : Item Op) → Before q r (joined (map (λ a. a.items) l)) → q.id ≢ r.id
  pub allowed : Allowed O (shared_ops G ++ serial l)
  pub words : (a : Attempt Op) → In a l → IsWord a.body (calls O a.items)

ids_after_in : {Op : Type 0} (A : List (Item Op)) (I : List ℕ) (i : ℕ) → In i (ids_after A I) → In i I ⊎ ((q : Item Op) × In q A × (q.id ≡ i))
ids_after_in [] I i h = inl h
ids_after_in (q ∷ A) I i h = elim (ids_after_in A (q.id ∷ I) i h) [
  | inl (inl e) ↦ inr (q, inl refl, sym e)
  | inl (inr j) ↦ inl j
  | inr r ↦ inr (r.0, inr r.1, r.2)
]

ids_after_old : {Op : Type 0} (A : List (Item Op)) (I : List ℕ) (i : ℕ) → In i I → In i (ids_after A I)
ids_after_old [] I i h = h
ids_after_old (q ∷ A) I i h = ids_after_old A (q.id ∷ I) i (inr h)

ids_after_new : {Op : Type 0} (A : List (Item Op)) (I : List ℕ) (q : Item Op) → In q A → In q.id (ids_after A I)
ids_after_new {Op} (p ∷ A) I q (inl e) = ids_after_old A (p.id ∷ I) q.id (inl (ap (λ (w : Item Op). w.id) e))
ids_after_new (p ∷ A) I q (inr i) = ids_after_new A (p.id ∷ I) q i
ids_after_new [] I q i = absurd i

all : {Op State : Type 0} (O : Object Op State) (thread : Name → Name) (l : List (Attempt Op)) (N : List Name) (I : List ℕ) (F : List (CommittedTx Op)) (G : List (SharedEntry Op)) → AllMeet O N I G l →
    RunsFrom O (idle N I G F) (all_alone thread (map shared_item G) l)
all O thread [] N I F G m = tt
all {Op} O thread (a ∷ l) N I F G m =
    one O (thread a.name) a N I F G first_meets (m.names a (inl refl)) (all_alone thread (map shared_item G ++ a.items) l)
    (subst (λ (w : List (Item Op)). RunsFrom O (idle (a.name ∷ N) (ids_after a.items I) H (F ++ committed_tx a ∷ [])) (all_alone thread w l)) same
    (all O thread l (a.name ∷ N) (ids_after a.items I) (F ++ committed_tx a ∷ []) H rest_meet))
  where
    H : List (SharedEntry Op)
    H = G ++ map (as_shared a.name true) a.items

    items_posted : (A : List (Item Op)) → map shared_item (map (as_shared a.name true) A) ≡ A
    items_posted [] = refl
    items_posted (q ∷ A) = ap (λ (w : List (Item Op)). q ∷ w) (items_posted A)

    same : map shared_item (G ++ map (as_shared a.name true) a.items) ≡ map shared_item G ++ a.items
    same = map-append shared_item G (map (as_shared a.name true) a.items) ∙ ap (λ (w : List (Item Op)). map shared_item G ++ w) (items_posted a.items)

    serial_cons : serial (a ∷ l) ≡ ops a.items ++ serial l
    serial_cons = map-append (λ (p : Item Op). p.op) a.items (joined (map (λ (b : Attempt Op). b.items) l))

    all_ops : Allowed O ((shared_ops G ++ ops a.items) ++ serial l)
    all_ops = subst (λ (w : List Op). Allowed O w) (ap (λ (w : List Op). shared_ops G ++ w) serial_cons ∙ sym (append_assoc (shared_ops G) (ops a.items) (serial l))) m.allowed

    first_meets : MayRunAlone O a.name a.body I G a.items
    first_meets = record {
      settled = m.settled;
      others = λ g i e. m.names a (inl refl) (subst (λ (w : Name). In w N) e (m.owners g i));
      distinct = m.distinct;
      used = m.used;
      free = m.free a (inl refl);
      apart = λ q r i. m.apart q r (before_left q r a.items (joined (map (λ (b : Attempt Op). b.items) l)) i);
      allowed = allowed_front O O.start (shared_ops G ++ ops a.items) (serial l) all_ops;
      word = m.words a (inl refl);
    }

    cases : (g : SharedEntry Op) → In g (G ++ map (as_shared a.name true) a.items) → In g G ⊎ ((q : Item Op) × In q a.items × (g ≡ as_shared a.name true q))
    cases g i = elim (in_cases g G (map (as_shared a.name true) a.items) i) [ inl j ↦ inl j | inr j ↦ inr (from_map (as_shared a.name true) g a.items j) ]

    later : (b : Attempt Op) → In b l → (q : Item Op) → In q b.items → In q (joined (map (λ (b : Attempt Op). b.items) l))
    later b i q j = in_joined q b.items (map (λ (b : Attempt Op). b.items) l) (in_map (λ (b : Attempt Op). b.items) b l i) j

    rest_meet : AllMeet O (a.name ∷ N) (ids_after a.items I) (G ++ map (as_shared a.name true) a.items) l
    rest_meet = record {
      settled = λ g i. elim (cases g i) [ inl j ↦ m.settled g j | inr j ↦ ap (λ (w : SharedEntry Op). w.committed) j.2 ];
      owners = λ g i. elim (cases g i) [ inl j ↦ inr (m.owners g j) | inr j ↦ inl (ap (λ (w : SharedEntry Op). w.owner) j.2) ];
      distinct = λ g h i e. elim (before_cases g h G (map (as_shared a.name true) a.items) i) [
        | inl j ↦ m.distinct g h j e
        | inr (inl j) ↦ let w = before_from_map (as_shared a.name true) g h a.items j in
            (first_meets).apart w.0 w.1 w.2 (ap (λ (w : SharedEntry Op). w.id) (sym w.3) ∙ e ∙ ap (λ (w : SharedEntry Op). w.id) w.4)
        | inr (inr j) ↦ let w = from_map (as_shared a.name true) h a.items j.1 in
            m.free a (inl refl) w.0 w.1 (subst (λ (z : ℕ). In z I) (e ∙ ap (λ (w : SharedEntry Op). w.id) w.2) (m.used g j.0))
      ];
      used = λ g i. elim (cases g i) [ inl j ↦ ids_after_old a.items I g.id (m.used g j) | inr j ↦ subst (λ (w : SharedEntry Op). In w.id (ids_after a.items I)) (sym j.2) (ids_after_new a.items I j.0 j.1) ];
      names = λ b i j. elim j [ inl e ↦ m.unlike a b (inl (refl, i)) (sym e) | inr k ↦ m.names b (inr i) k ];
      unlike = λ b d i. m.unlike b d (inr i);
      free = λ b i q j k. elim (ids_after_in a.items I q.id k) [
        | inl n ↦ m.free b (inr i) q j n
        | inr n ↦ m.apart n.0 q (before_across n.0 q a.items (joined (map (λ (b : Attempt Op). b.items) l)) n.1 (later b i q j)) n.2
      ];
      apart = λ q r i. m.apart q r (before_right q r a.items (joined (map (λ (b : Attempt Op). b.items) l)) i);
      allowed = subst (λ (w : List Op). Allowed O (w ++ serial l)) (sym (shared_of_ops a.name true G a.items)) all_ops;
      words = λ b i. m.words b (inr i);
    }

-- names and ids of the attempts are distinct
unlike_in : {Op State : Type 0} (O : Object Op State) (c : Config Op) → Sound O c → (l : List (Attempt Op)) → c.done ≡ map committed_tx l → (a b : Attempt Op) → Before a b l → a.name ≢ b.name
unlike_in {Op} O c s l e a b i = s.done_names (committed_tx a) (committed_tx b) (subst (λ (w : List (CommittedTx Op)). Before (committed_tx a) (committed_tx b) w) (sym e) (before_map committed_tx a b l i))

apart_in : {Op State : Type 0} (O : Object Op State) (c : Config Op) → Sound O c → (l : List (Attempt Op)) → c.done ≡ map committed_tx l → (q r : Item Op) → Before q r (joined (map (λ a. a.items) l)) → q.id ≢ r.id
apart_in {Op} O c s l e q r i z =
    elim (before_from_joined q r (map (λ (a : Attempt Op). a.items) l) i) [
      | inl j ↦
          let m = from_map (λ (a : Attempt Op). a.items) j.0 l j.1 in
          s.done_ids (committed_tx m.0) (there m.0 m.1) q r (subst (λ (w : List (Item Op)). Before q r w) m.2 j.2) z
      | inr j ↦
          let m = before_from_map (λ (a : Attempt Op). a.items) j.0 j.1 l j.2 in
          unlike_in O c s l e m.0 m.1 m.2
          (s.one_owner (m.0).name (m.1).name q r
          (inr (committed_tx m.0, there m.0 (before_in_first m.0 m.1 l m.2), refl, subst (λ (w : List (Item Op)). In q w) m.3 j.3))
          (inr (committed_tx m.1, there m.1 (before_in_second m.0 m.1 l m.2), refl, subst (λ (w : List (Item Op)). In r w) m.4 j.4)) z)
    ]
  where
    there : (a : Attempt Op) → In a l → In (committed_tx a) c.done
    there a j = subst (λ (w : List (CommittedTx Op)). In (committed_tx a) w) (sym e) (in_map committed_tx a l j)

items_posted : {Op : Type 0} (t : Name) (A : List (Item Op)) → map shared_item (map (as_shared t true) A) ≡ A
items_posted t [] = refl
items_posted {Op} t (q ∷ A) = ap (λ (w : List (Item Op)). q ∷ w) (items_posted t A)

-- the whole list
alone_from : {Op State : Type 0} (O : Object Op State) (h : Option (Start Op)) (thread : Name → Name) (l : List (Attempt Op)) (c : Config Op) → Sound O c → c.done ≡ map committed_tx (start_attempts h ++ l) →
    Allowed O (serial (start_attempts h ++ l)) → ((a : Attempt Op) → In a (start_attempts h ++ l) → IsWord a.body (calls O a.items)) → StartMeets O h →
    RunsFrom O (first h) (all_alone thread (joined (map (λ a. a.items) (start_attempts h))) l)
alone_from {Op} O None thread l c s e al w f =
    all O thread l [] [] [] [] (record {
      settled = λ g i. absurd i;
      owners = λ g i. absurd i;
      distinct = λ g h i. absurd i;
      used = λ g i. absurd i;
      names = λ a i j. absurd j;
      unlike = unlike_in O c s l e;
      free = λ a i q j k. absurd k;
      apart = apart_in O c s l e;
      allowed = al;
      words = w;
    })
alone_from {Op} O (Some z) thread l c s e al w f =
    let g : List (SharedEntry Op) = map (as_shared z.tx true) z.items in
    let zero : Attempt Op = record { name = z.tx; body = None; items = z.items } in
    let u = unlike_in O c s (zero ∷ l) e in
    let r = apart_in O c s (zero ∷ l) e in
    subst (λ (v : List (Item Op)). RunsFrom O (first (Some z)) (all_alone thread v l)) (items_posted z.tx z.items ∙ sym (append-nil z.items))
    (all O thread l (z.tx ∷ []) (map (λ p. p.id) z.items) (record { name = z.tx; entries = z.items } ∷ []) g (record {
      settled = λ a i. let k = from_map (as_shared z.tx true) a z.items i in ap (λ (v : SharedEntry Op). v.committed) k.2;
      owners = λ a i. let k = from_map (as_shared z.tx true) a z.items i in inl (ap (λ (v : SharedEntry Op). v.owner) k.2);
      distinct = λ a b i n. let k = before_from_map (as_shared z.tx true) a b z.items i in
          r k.0 k.1 (before_left k.0 k.1 z.items (joined (map (λ (b : Attempt Op). b.items) l)) k.2) (ap (λ (v : SharedEntry Op). v.id) (sym k.3) ∙ n ∙ ap (λ (v : SharedEntry Op). v.id) k.4);
      used = λ a i. let k = from_map (as_shared z.tx true) a z.items i in subst (λ (v : SharedEntry Op). In v.id (map (λ (p : Item Op). p.id) z.items)) (sym k.2) (in_map (λ (p : Item Op). p.id) k.0 z.items k.1);
      names = λ a i j. elim j [ inl n ↦ u zero a (inl (refl, i)) (sym n) | inr n ↦ absurd n ];
      unlike = λ a b i. u a b (inr i);
      free = λ a i q j k. let m = from_map (λ (p : Item Op). p.id) q.id z.items k in
          r m.0 q (before_across m.0 q z.items (joined (map (λ (b : Attempt Op). b.items) l)) m.1 (in_joined q a.items (map (λ (b : Attempt Op). b.items) l) (in_map (λ (b : Attempt Op). b.items) a l i) j)) (sym m.2);
      apart = λ q p i. r q p (before_right q p z.items (joined (map (λ (b : Attempt Op). b.items) l)) i);
      allowed = subst (λ (v : List Op). Allowed O v) (map-append (λ (p : Item Op). p.op) z.items (joined (map (λ (b : Attempt Op). b.items) l)) ∙ ap (λ (v : List Op). v ++ serial l) (sym (post_ops z.tx true z.items))) al;
      words = λ a i. w a (inr i);
    }))

-- If a run is accepted, so is the run of its committed transactions alone, in commit order.
pub alone_law : {Op State : Type 0} (O : Object Op State) (h : Option (Start Op)) (ss : List (Step Op)) → StartMeets O h → RunsFrom O (first h) ss → RunsFrom O (first h) (alone h ss)
alone_law {Op} O h ss f r =
    alone_from O h (λ t. first_thread (threads_of t ss)) (map (attempt_of ss) (commits ss)) (after h ss) (run_keeps O ss (first h) (start_sound O h f) r) (finished_are O h ss f r) (serial_allowed O h ss f r) (all_words O h ss f r) f

-- The run of the committed transactions alone has the attempts of the accepted run.
pub alone_attempts : {Op State : Type 0} (O : Object Op State) (h : Option (Start Op)) (ss : List (Step Op)) → StartMeets O h → RunsFrom O (first h) ss → attempts h (alone h ss) ≡ attempts h ss
alone_attempts {Op} O h ss f r =
    let l = map (attempt_of ss) (commits ss) in
    same_attempts h (λ t. first_thread (threads_of t ss)) (joined (map (λ (a : Attempt Op). a.items) (start_attempts h))) l
    (λ a b i. unlike_in O (after h ss) (run_keeps O ss (first h) (start_sound O h f) r) (start_attempts h ++ l) (finished_are O h ss f r) a b (before_right a b (start_attempts h) l i))
