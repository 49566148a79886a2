-- The configuration after some pairs. One more pair leads on from it, and so does a single transaction.
use Rattle.std.proofs.Common.{◌≡◌, ◌≢◌, ℕ, zero, suc, ◌+◌, ◌*◌, ◌<◌, ◌≤◌, eqb, Bool, true, false, not, cond, ◌&&◌, List, [], ◌∷◌, ◌++◌, length, Some, None, refl, sym, ap, subst, ◌∙◌, inl, inr, pos, arith, append_assoc}
use Rattle.std.proofs.lemmas.Bool.{eq-eqb}
use Rattle.std.proofs.lemmas.Fmt.{decimal_injective}
use Rattle.std.proofs.lemmas.List.{map-append, append-nil, length-append}
use Rattle.std.specs.Fmt.{decimal}
use Rattle.std.specs.FinMap.{empty}
use Rattle.pp_model.specs.Lists.{In, Each}
use Rattle.pp_model.specs.Names.{Name, ◌=ⁿ◌}
use Rattle.pp_model.specs.Object.{Item, ops}
use Rattle.pp_model.specs.Config.{Unpushed, LocalEntry, SharedEntry, CommittedTx, Tx, Config, as_pulled, Step, Cmt, first, of_other, shared_ops}
use Rattle.pp_model.specs.Sound.{serial_items, serial_ops}
use Rattle.pp_model.proofs.Lists.{in_right}
use Rattle.pp_model.proofs.Names.{eq-names}
use Rattle.pp_kind_memory.specs.Values.{written}
use Rattle.pp_objects.specs.declared.act.Op.{Op}
use Rattle.pp_cmd_drill.specs.Drill.{name_of, first_thread, second_thread, id_of, read, write, add, ask, app, pulls, first_apps, endings, ending, pair, unpaired, pairs}
use Rattle.pp_cmd_drill.specs.Law.{drill_objects, states_at, sum_to}
use Rattle.pp_cmd_drill.proofs.Moves.{conf, open_tx, own_entry, shared_entry, LeadsTo, Log, Others, each_in, each_as, nothing_more, in_turn, longer, begin_step, app_step, pull_step}
use Rattle.pp_cmd_drill.proofs.Acts.{second_allowed, both_allowed, in_order_allowed, first_allowed, value_is, at_start, after_both, after_order, after_first, of_both, of_first, in_order}
use Rattle.pp_cmd_drill.proofs.Pair.{Under, fresh, under_next, not_eqb, not_name, two_ids, AllCommitted, View, own_first, own_second, done_first, done_second, shared_first, shared_both, ids_first, ids_second, apps_lead, pushes_lead, commits_lead, unpaired_pushes_lead, unpaired_commit_leads}
use Rattle.pp_judge.proofs.Stating.{each_append}

-- The names that p pairs of transactions used.
abbrev pub names_after : ℕ → List Name
names_after zero = []
names_after (suc p) = name_of (2 * p + 2) ∷ name_of (2 * p + 1) ∷ names_after p

-- The ids that p pairs of transactions used.
abbrev pub ids_after : ℕ → List ℕ
ids_after zero = []
ids_after (suc p) = ids_second (2 * p + 2) (ids_first (2 * p + 1) (ids_after p))

-- The shared log after p pairs of transactions.
abbrev pub shared_after : ℕ → List (SharedEntry Op)
shared_after zero = []
shared_after (suc p) = shared_after p ++ shared_both p (2 * p + 1) (2 * p + 2) true true

-- The transactions that p pairs committed, in their order.
abbrev pub done_after : ℕ → List (CommittedTx Op)
done_after zero = []
done_after (suc p) = (done_after p ++ done_second (2 * p + 2) ∷ []) ++ done_first p (2 * p + 1) ∷ []

-- The configuration after p pairs, without an open transaction.
abbrev pub after_pairs : ℕ → Config Op
after_pairs p = conf (names_after p) (ids_after p) [] (shared_after p) (done_after p)

-- The names of different transactions differ.
pub one_name : (i k : ℕ) → i ≤ 20000 → k ≤ 20000 → name_of i ≡ name_of k → i ≡ k
one_name i k h j e = let d : decimal i ≡ decimal k = cc in decimal_injective i k (omega arith) (omega arith) d

-- A name of a transaction before n.
abbrev Known : ℕ → Name → Type 0
Known n t = (k : ℕ) × (k < n) × (t ≡ name_of k)

known : (p : ℕ) → Each (Known (2 * p + 1)) (names_after p)
known zero = tt
known (suc p) = ((2 * p + 2, omega arith, refl), ((2 * p + 1, omega arith, refl), each_as (Known (2 * p + 1)) (Known (2 * suc p + 1)) (names_after p) (λ t h. (h.0, omega arith, h.2)) (known p)))

unknown : (n : ℕ) (ns : List Name) → n ≤ 20000 → Each (Known n) ns → In (name_of n) ns → ⊥
unknown n ns h k j = let r = each_in (Known n) ns (name_of n) k j in let e : n ≡ r.0 = one_name n r.0 h (let l = r.1 in omega arith) r.2 in let l = r.1 in omega arith

-- The ids that were used.
under_first : (a n : ℕ) (is : List ℕ) → Under (id_of a 1) is → id_of a 4 < n → Under n (ids_first a is)
under_first a n is h k = (k, (omega arith, (omega arith, (omega arith, each_as (λ i. i < id_of a 1) (λ i. i < n) is (λ i j. omega arith) h))))

under : (p : ℕ) → Under (id_of (2 * p + 1) 1) (ids_after p)
under zero = tt
under (suc p) = (omega arith, (omega arith, under_first (2 * p + 1) (id_of (2 * suc p + 1) 1) (ids_after p) (under p) (omega arith)))

abbrev SharedUnder : ℕ → List (SharedEntry Op) → Type 0
SharedUnder n G = Each (λ g. g.id < n) G

shared_under : (p : ℕ) → SharedUnder (id_of (2 * p + 1) 1) (shared_after p)
shared_under zero = tt
shared_under (suc p) =
    each_append (λ g. g.id < id_of (2 * suc p + 1) 1) (shared_after p) (shared_both p (2 * p + 1) (2 * p + 2) true true)
    (each_as (λ g. g.id < id_of (2 * p + 1) 1) (λ g. g.id < id_of (2 * suc p + 1) 1) (shared_after p) (λ g j. omega arith) (shared_under p))
    (omega arith, (omega arith, (omega arith, (omega arith, (omega arith, (omega arith, tt))))))

all_after : (p : ℕ) → AllCommitted (shared_after p)
all_after zero = tt
all_after (suc p) = each_append (λ g. g.committed ≡ true) (shared_after p) (shared_both p (2 * p + 1) (2 * p + 2) true true) (all_after p) (refl, (refl, (refl, (refl, (refl, (refl, tt))))))

-- The logs after p pairs.
log_after : (p : ℕ) → Log drill_objects (shared_ops (shared_after p)) (states_at p (sum_to (2 * p)))
log_after zero = record { allowed = tt; is = sym at_start }
log_after (suc p) =
    let a = 2 * p + 1 in
    let b = 2 * p + 2 in
    let a_is : a ≡ suc (2 * p) = omega arith in
    let b_is : b ≡ suc a = omega arith in
    let l = longer drill_objects (shared_ops (shared_after p)) (of_both p a b) (states_at p (sum_to (2 * p))) (log_after p) (both_allowed (written empty (pos 0) (pos p)) (pos (sum_to (2 * p))) p a b (value_is p)) in
    let e : shared_ops (shared_after p) ++ of_both p a b ≡ shared_ops (shared_after p ++ shared_both p a b true true) = sym (map-append (λ (g : SharedEntry Op). g.op) (shared_after p) (shared_both p a b true true)) in
    let s = after_both p (2 * p) a b a_is b_is ∙ ap (λ (n : ℕ). states_at (suc p) (sum_to n)) (let f : b ≡ 2 * suc p = omega arith in f) in
    subst (λ z. Log drill_objects z (states_at (suc p) (sum_to (2 * suc p)))) e (record { allowed = l.allowed; is = l.is ∙ s })

joined-append : (D E : List (CommittedTx Op)) → serial_items (D ++ E) ≡ serial_items D ++ serial_items E
joined-append [] E = refl
joined-append (d ∷ D) E = ap (λ (w : List (Item Op)). d.entries ++ w) (joined-append D E) ∙ sym (append_assoc d.entries (serial_items D) (serial_items E))

serial_more : (D E : List (CommittedTx Op)) → serial_ops D ++ serial_ops E ≡ serial_ops (D ++ E)
serial_more D E = sym (map-append (λ (p : Item Op). p.op) (serial_items D) (serial_items E)) ∙ ap (λ (w : List (Item Op)). ops w) (sym (joined-append D E))

-- The committed transactions of p pairs, one after another, lead to p in m, the sum to 2 p in c, and the empty s.
pub serial_after : (p : ℕ) → Log drill_objects (serial_ops (done_after p)) (states_at p (sum_to (2 * p)))
serial_after zero = record { allowed = tt; is = sym at_start }
serial_after (suc p) =
    let a = 2 * p + 1 in
    let b = 2 * p + 2 in
    let two = done_second b ∷ done_first p a ∷ [] in
    let a_is : a ≡ suc (2 * p) = omega arith in
    let b_is : b ≡ suc a = omega arith in
    let l = longer drill_objects (serial_ops (done_after p)) (in_order p a b) (states_at p (sum_to (2 * p))) (serial_after p) (in_order_allowed (written empty (pos 0) (pos p)) (pos (sum_to (2 * p))) p a b (value_is p)) in
    let e : serial_ops (done_after p) ++ in_order p a b ≡ serial_ops ((done_after p ++ done_second b ∷ []) ++ done_first p a ∷ []) =
    serial_more (done_after p) two ∙ ap (λ (w : List (CommittedTx Op)). serial_ops w) (sym (append_assoc (done_after p) (done_second b ∷ []) (done_first p a ∷ []))) in
    let s = after_order p (2 * p) a b a_is b_is ∙ ap (λ (n : ℕ). states_at (suc p) (sum_to n)) (let f : b ≡ 2 * suc p = omega arith in f) in
    subst (λ z. Log drill_objects z (states_at (suc p) (sum_to (2 * suc p)))) e (record { allowed = l.allowed; is = l.is ∙ s })

-- After p pairs, 2 p transactions are committed.
pub count_after : (p : ℕ) → length (done_after p) ≡ 2 * p
count_after zero = refl
count_after (suc p) =
    let e = length-append (done_after p ++ done_second (2 * p + 2) ∷ []) (done_first p (2 * p + 1) ∷ []) in
    let f = length-append (done_after p) (done_second (2 * p + 2) ∷ []) in
    let g = count_after p in omega arith

-- The write of the pair before is in the shared log.
other_behind : (t : Name) (i : ℕ) (k l : List (SharedEntry Op)) → Each (λ g. eqb g.id i ≡ false) k → of_other t i (k ++ l) ≡ of_other t i l
other_behind t i [] l h = refl
other_behind t i (g ∷ k) l h = ap (λ (b : Bool). cond (b && not (g.owner =ⁿ t)) (Some g) (of_other t i (k ++ l))) h.0 ∙ other_behind t i k l h.1

other_here : (t : Name) (g : SharedEntry Op) (l : List (SharedEntry Op)) → g.owner ≢ t → of_other t g.id (g ∷ l) ≡ Some g
other_here t g l h =
    ap (λ (b : Bool). cond (b && not (g.owner =ⁿ t)) (Some g) (of_other t g.id l)) (eq-eqb g.id g.id refl)
    ∙ ap (λ (b : Bool). cond (not b) (Some g) (of_other t g.id l)) (not_name g.owner t h)

abbrev last_write : ℕ → SharedEntry Op
last_write q = shared_entry (name_of (2 * q + 1)) true (id_of (2 * q + 1) 2) (write (suc q))

last_stands : (q : ℕ) (t : Name) → name_of (2 * q + 1) ≢ t → of_other t (last_write q).id (shared_after (suc q)) ≡ Some (last_write q)
last_stands q t h =
    let a = 2 * q + 1 in
    let b = 2 * q + 2 in
    let k = shared_entry (name_of a) true (id_of a 1) (read q) ∷ shared_entry (name_of b) true (id_of b 1) (add b) ∷ [] in
    let l = shared_entry (name_of b) true (id_of b 2) (ask b) ∷ shared_entry (name_of a) true (id_of a 3) (add a) ∷ shared_entry (name_of a) true (id_of a 4) (ask a) ∷ [] in
    let i = id_of a 2 in
    other_behind t i (shared_after q) (k ++ last_write q ∷ l) (each_as (λ g. g.id < id_of a 1) (λ g. eqb g.id i ≡ false) (shared_after q) (λ g j. not_eqb g.id i (λ e. omega arith)) (shared_under q))
    ∙ other_behind t i k (last_write q ∷ l) (two_ids a 1 2 refl, (not_eqb (id_of b 1) i (λ e. omega arith), tt))
    ∙ other_here t (last_write q) l h

-- What a pulls, and what it sees after that.
pub record Pulls (p a : ℕ) (G : List (SharedEntry Op)) : Type 0 where
  pub seen : List (LocalEntry Op)
  pub view : View a p G seen
  pub leads : (ns : List Name) (is : List ℕ) (r : List (Tx Op)) (D : List (CommittedTx Op)) (ss : List (Step Op)) (e : Config Op) → Others (name_of a) r →
      LeadsTo drill_objects (conf ns is (open_tx (name_of a) first_thread (seen ++ []) ∷ r) G D) ss e → LeadsTo drill_objects (conf ns is (open_tx (name_of a) first_thread [] ∷ r) G D) (pulls p a ++ ss) e

what_pulls : (p a : ℕ) → a ≡ 2 * p + 1 → a ≤ 20000 → Pulls p a (shared_after p)
what_pulls zero a h n =
    record {
      seen = [];
      view = record { log = record { allowed = tt; is = sym at_start }; apart = λ i j. tt; settled = tt; may = tt; none = refl };
      leads = λ ns is r D ss e o l. l;
    }
what_pulls (suc q) a h n =
    let w = last_write q in
    let apart : name_of (2 * q + 1) ≢ name_of a = λ e. let f = one_name (2 * q + 1) a (omega arith) n e in omega arith in
    record {
      seen = as_pulled w ∷ [];
      view = record {
        log = record { allowed = ((refl, refl), tt); is = refl };
        apart = λ i j. (not_eqb w.id (id_of a i) (λ e. omega arith), tt);
        settled = (refl, tt);
        may = (((λ k. absurd (cc)), (λ k. (w, in_right w (shared_after q) (shared_both q (2 * q + 1) (2 * q + 2) true true) (inr (inr (inl refl))), refl, refl))), tt);
        none = refl;
      };
      leads = λ ns is r D ss e o l. pull_step drill_objects ns is (name_of a) first_thread [] r D tt o (shared_after (suc q)) w ss e (last_stands q (name_of a) apart) ((refl, refl), tt) l;
    }

empty_log : Log drill_objects [] drill_objects.start
empty_log = record { allowed = tt; is = refl }

one_thread : first_thread ≢ second_thread
one_thread e = let k : (first_thread =ⁿ second_thread) ≡ true = eq-names first_thread second_thread e in cc

-- One more pair leads from the configuration after p pairs to the one after p + 1.
pair_leads : (p : ℕ) → 2 * p + 2 ≤ 20000 → LeadsTo drill_objects (after_pairs p) (pair p (2 * p + 1) (2 * p + 2)) (after_pairs (suc p))
pair_leads p n =
    let a = 2 * p + 1 in
    let b = 2 * p + 2 in
    let ns = names_after p in
    let is = ids_after p in
    let G = shared_after p in
    let D = done_after p in
    let e = after_pairs (suc p) in
    let apart : name_of a ≢ name_of b = λ e. let f = one_name a b (omega arith) n e in omega arith in
    let s = what_pulls p a (omega arith) (omega arith) in
    let A = own_first p a Unpushed Unpushed Unpushed Unpushed in
    let names : List Name = name_of b ∷ name_of a ∷ ns in
    let ids : List ℕ = ids_second b (ids_first a is) in
    let ended : List (Step Op) = Cmt (name_of b) ∷ Cmt (name_of a) ∷ [] in
    let pushes : List (Step Op) = endings a b in
    let others : Others {Op = Op} (name_of a) (open_tx (name_of b) second_thread [] ∷ []) = (not_name (name_of b) (name_of a) (λ e. apart (sym e)), tt) in
    let there : Others {Op = Op} (name_of b) (open_tx (name_of a) first_thread (s.seen ++ A) ∷ []) = (not_name (name_of a) (name_of b) apart, tt) in
    let new_a : In (name_of a) ns → ⊥ = unknown a ns (omega arith) (known p) in
    let new_b : In (name_of b) (name_of a ∷ ns) → ⊥ = unknown b (name_of a ∷ ns) n ((a, omega arith, refl), each_as (Known a) (Known b) ns (λ t h. (h.0, (let l = h.1 in omega arith), h.2)) (known p)) in
    let k = second_allowed empty (pos 0) b in
    let u1 : Under (id_of b 1) (ids_first a is) = under_first a (id_of b 1) is (under p) (omega arith) in
    let u2 : Under (id_of b 2) (id_of b 1 ∷ ids_first a is) = under_next (id_of b 1) (id_of b 2) (ids_first a is) u1 (omega arith) in
    begin_step drill_objects ns is [] G D (name_of a) first_thread _ e new_a (λ x i. absurd i)
    (begin_step drill_objects (name_of a ∷ ns) is (open_tx (name_of a) first_thread [] ∷ []) G D (name_of b) second_thread _ e new_b
    (λ x i. elim i [ inl q ↦ (λ z. one_thread (ap (λ (y : Tx Op). y.thread) (sym q) ∙ z)) | inr q ↦ absurd q ])
    (s.leads names is (open_tx (name_of b) second_thread [] ∷ []) D (first_apps p a ++ (app b 1 (add b) ∷ app b 2 (ask b) ∷ pushes)) e others
    (apps_lead p a names is (open_tx (name_of b) second_thread [] ∷ []) G D s.seen (app b 1 (add b) ∷ app b 2 (ask b) ∷ pushes) e others (under p) s.view.log
    (app_step drill_objects names (ids_first a is) (name_of b) second_thread (open_tx (name_of a) first_thread (s.seen ++ A) ∷ []) [] D there tt [] [] G (id_of b 1) (add b) drill_objects.start _ e
    (fresh (id_of b 1) (ids_first a is) u1) empty_log (k.0, tt)
    (app_step drill_objects names (id_of b 1 ∷ ids_first a is) (name_of b) second_thread (open_tx (name_of a) first_thread (s.seen ++ A) ∷ []) [] D there tt [] (own_entry (name_of b) Unpushed (id_of b 1) (add b) ∷ []) G (id_of b 2) (ask b) drill_objects.start pushes e
    (fresh (id_of b 2) (id_of b 1 ∷ ids_first a is) u2) empty_log k
    (subst (λ z. LeadsTo drill_objects (conf names ids (open_tx (name_of a) first_thread (s.seen ++ A) ∷ open_tx (name_of b) second_thread (own_second b Unpushed Unpushed) ∷ []) z D) pushes e) (append-nil G)
    (pushes_lead p (sum_to (2 * p)) a b names ids G D s.seen s.view (all_after p) (log_after p) apart ended e
    (commits_lead p (sum_to (2 * p)) a b names ids G D s.seen s.view (all_after p) (log_after p) apart [] e
    (nothing_more drill_objects e)))))))))

-- Up to 20,000 transactions, the steps of p pairs lead from the first configuration to that after p pairs.
pub pairs_lead : (p : ℕ) → 2 * p ≤ 20000 → LeadsTo drill_objects (first None) (pairs p) (after_pairs p)
pairs_lead zero h = nothing_more drill_objects (first None)
pairs_lead (suc p) h = in_turn drill_objects (first None) (after_pairs p) (after_pairs (suc p)) (pairs p) (pair p (2 * p + 1) (2 * p + 2)) (pairs_lead p (omega arith)) (pair_leads p (omega arith))

-- The configuration after p pairs and a single transaction.
abbrev pub after_unpaired : ℕ → Config Op
after_unpaired p =
    conf (name_of (2 * p + 1) ∷ names_after p) (ids_first (2 * p + 1) (ids_after p)) [] (shared_after p ++ shared_first p (2 * p + 1) true) (done_after p ++ done_first p (2 * p + 1) ∷ [])

-- Up to 20,000 transactions, the steps of one alone lead on from the configuration after p pairs.
pub unpaired_leads : (p : ℕ) → 2 * p + 1 ≤ 20000 → LeadsTo drill_objects (after_pairs p) (unpaired p (2 * p + 1)) (after_unpaired p)
unpaired_leads p n =
    let a = 2 * p + 1 in
    let ns = names_after p in
    let is = ids_after p in
    let G = shared_after p in
    let D = done_after p in
    let e = after_unpaired p in
    let s = what_pulls p a refl n in
    let A = own_first p a Unpushed Unpushed Unpushed Unpushed in
    let names : List Name = name_of a ∷ ns in
    let ids : List ℕ = ids_first a is in
    let ended : List (Step Op) = Cmt (name_of a) ∷ [] in
    let pushes : List (Step Op) = ending a in
    begin_step drill_objects ns is [] G D (name_of a) first_thread _ e (unknown a ns n (known p)) (λ x i. absurd i)
    (s.leads names is [] D (first_apps p a ++ pushes) e tt
    (apps_lead p a names is [] G D s.seen pushes e tt (under p) s.view.log
    (subst (λ z. LeadsTo drill_objects (conf names ids (open_tx (name_of a) first_thread (s.seen ++ A) ∷ []) z D) pushes e) (append-nil G)
    (unpaired_pushes_lead p (sum_to (2 * p)) a names ids G D s.seen s.view (all_after p) (log_after p) ended e
    (unpaired_commit_leads p (sum_to (2 * p)) a names ids G D s.seen s.view (all_after p) (log_after p) [] e
    (nothing_more drill_objects e))))))

-- The committed transactions of p pairs and one alone lead to p + 1 in m, the sum to 2 p + 1 in c, and the empty s.
pub serial_unpaired : (p : ℕ) → Log drill_objects (serial_ops (done_after p ++ done_first p (2 * p + 1) ∷ [])) (states_at (suc p) (sum_to (2 * p + 1)))
serial_unpaired p =
    let a = 2 * p + 1 in
    let a_is : a ≡ suc (2 * p) = omega arith in
    let l = longer drill_objects (serial_ops (done_after p)) (of_first p a) (states_at p (sum_to (2 * p))) (serial_after p) (first_allowed (written empty (pos 0) (pos p)) (pos (sum_to (2 * p))) p a (value_is p)) in
    subst (λ z. Log drill_objects z (states_at (suc p) (sum_to a))) (serial_more (done_after p) (done_first p a ∷ [])) (record { allowed = l.allowed; is = l.is ∙ after_first p (2 * p) a a_is })
