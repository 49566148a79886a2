-- The commit order of an accepted run respects real time.
use Rattle.std.specs.Prelude.{◌≡◌, List, [], ◌∷◌, ◌++◌, map, Option}
use Rattle.std.proofs.Common.{refl, sym, ap, subst, ◌∙◌, append_assoc}
use Rattle.std.proofs.lemmas.List.{map-append}
use mathlib.Core.Logic.{inl, inr}
use Rattle.pp_model.specs.Body.{Tree}
use Rattle.pp_model.specs.Config.{Begin, App, Unapp, Push, Unpush, Pull, Unpull, Cmt, Quit, Note}
use Rattle.pp_model.specs.Config.{CommittedTx, Start, Step, after, first, tx}
use Rattle.pp_model.specs.Lists.{Before, In}
use Rattle.pp_model.specs.Names.{Name}
use Rattle.pp_model.specs.Object.{Object}
use Rattle.pp_model.specs.Rules.{RunsFrom, StartMeets}
use Rattle.pp_model.specs.Serial.{Attempt, attempt_of, attempts, commits, committed_tx, start_attempts}
use Rattle.pp_model.proofs.Lists.{before_across, before_from_map, before_map, before_right, in_cases}
use Rattle.pp_model.proofs.Lists.{in_left, in_order, split_at}
use Rattle.pp_model.proofs.Logs.{found_tx}
use Rattle.pp_model.proofs.Simulate.{finished_are}
use Rattle.pp_model.proofs.Steps.{there_holds}
use Rattle.pp_model.proofs.Trace.{commits-append}
use Rattle.pp_laws_runs.specs.RealTime.{RealTimeLaw, RespectsTime, commit_order}
use Rattle.pp_laws_runs.proofs.Runs.{IsClosed, begin_begun, closed_stays, committed_begun, front_runs}
use Rattle.pp_laws_runs.proofs.Runs.{meets_at, open_has_begin, sound_at}

-- a list, split before y, if x comes before y in it
cut_at_second : {A : Type 0} (x y : A) (xs : List A) → Before x y xs → (p r : List A) × (xs ≡ p ++ y ∷ r) × In x p
cut_at_second x y [] h = absurd h
cut_at_second {A} x y (z ∷ xs) (inl h) = let r = split_at y xs h.1 in (z ∷ r.0, r.1, ap (λ (w : List A). z ∷ w) r.2, inl h.0)
cut_at_second {A} x y (z ∷ xs) (inr h) = let r = cut_at_second x y xs h in (z ∷ r.0, r.1, ap (λ (w : List A). z ∷ w) r.2, inr r.3)

-- the name of a CMT step is among the committed names
in_commits : {Op : Type 0} (t : Name) (ss : List (Step Op)) → In (Cmt t) ss → In t (commits ss)
in_commits t [] i = absurd i
in_commits t (Cmt u ∷ ss) (inl e) = inl (let k : t ≡ u = cc in k)
in_commits t (Cmt u ∷ ss) (inr i) = inr (in_commits t ss i)
in_commits t (Begin u p b ∷ ss) (inl e) = absurd (cc)
in_commits t (App u id op ∷ ss) (inl e) = absurd (cc)
in_commits t (Unapp u id ∷ ss) (inl e) = absurd (cc)
in_commits t (Push u id ∷ ss) (inl e) = absurd (cc)
in_commits t (Unpush u id ∷ ss) (inl e) = absurd (cc)
in_commits t (Pull u id ∷ ss) (inl e) = absurd (cc)
in_commits t (Unpull u id ∷ ss) (inl e) = absurd (cc)
in_commits t (Quit u ∷ ss) (inl e) = absurd (cc)
in_commits t (Note u ∷ ss) (inl e) = absurd (cc)
in_commits t (_ ∷ ss) (inr i) = in_commits t ss i

-- a committed transaction has its CMT step
commit_is_step : {Op : Type 0} (t : Name) (ss : List (Step Op)) → In t (commits ss) → In (Cmt t) ss
commit_is_step t [] i = absurd i
commit_is_step t (Cmt u ∷ ss) (inl e) = inl (ap (λ (w : Name). Cmt w) e)
commit_is_step t (Cmt u ∷ ss) (inr i) = inr (commit_is_step t ss i)
commit_is_step t (s ∷ ss) i = inr (commit_is_step t ss i)

-- the names of the attempts are the committed names
same_names : {Op : Type 0} (ss : List (Step Op)) (l : List Name) → map (λ (a : Attempt Op). a.name) (map (attempt_of ss) l) ≡ l
same_names ss [] = refl
same_names {Op} ss (t ∷ l) = ap (λ (w : List Name). t ∷ w) (same_names ss l)

-- the commit order is that of the CMT steps, after the start
order_is : {Op : Type 0} (h : Option (Start Op)) (ss : List (Step Op)) → commit_order h ss ≡ map (λ (a : Attempt Op). a.name) (start_attempts h) ++ commits ss
order_is {Op} h ss =
    let name = λ (a : Attempt Op). a.name in
    map-append name (start_attempts h) (map (attempt_of ss) (commits ss)) ∙ ap (λ (w : List Name). map name (start_attempts h) ++ w) (same_names ss (commits ss))

in_order_of : {Op : Type 0} (h : Option (Start Op)) (ss : List (Step Op)) (t u : Name) → Before t u (commits ss) → Before t u (commit_order h ss)
in_order_of {Op} h ss t u b = subst (λ (w : List Name). Before t u w) (sym (order_is h ss)) (before_right t u (map (λ (a : Attempt Op). a.name) (start_attempts h)) (commits ss) b)

module _ {Op State : Type 0} (O : Object Op State) (h : Option (Start Op)) (met : StartMeets O h) (ss : List (Step Op)) (run : RunsFrom O (first h) ss) where
  at : (past rest : List (Step Op)) → ss ≡ past ++ rest → RunsFrom O (first h) (past ++ rest)
  at past rest e = subst (λ (w : List (Step Op)). RunsFrom O (first h) w) e run

  -- a transaction that begins after the past commits after it
  commits_later : (past rest : List (Step Op)) (u p : Name) (b : Option Tree) → ss ≡ past ++ Begin u p b ∷ rest → In u (commits ss) → In u (commits rest)
  commits_later past rest u p b e i =
      let r = at past (Begin u p b ∷ rest) e in
      let parts : In u (commits past ++ commits rest) = subst (λ (w : List Name). In u w) (ap (λ (w : List (Step Op)). commits w) e ∙ commits-append past (Begin u p b ∷ rest)) i in
      elim (in_cases u (commits past) (commits rest) parts) [
        | inl j ↦ absurd ((meets_at O h met past rest (Begin u p b) r).0 (committed_begun O h met u past (front_runs O h met past (Begin u p b ∷ rest) r) j))
        | inr j ↦ j
      ]

  -- A transaction that committed in the past comes before u in the commit order.
  committed_first : (past rest : List (Step Op)) (t u p : Name) (b : Option Tree) → ss ≡ past ++ Begin u p b ∷ rest → In t (commits past) → In u (commits ss) → Before t u (commit_order h ss)
  committed_first past rest t u p b e i j =
      in_order_of h ss t u (subst (λ (w : List Name). Before t u w) (sym (ap (λ (w : List (Step Op)). commits w) e ∙ commits-append past (Begin u p b ∷ rest)))
      (before_across t u (commits past) (commits rest) i (commits_later past rest u p b e j)))

  -- no transaction begins twice
  begins_once : (t p q : Name) (b c : Option Tree) → Before (Begin t p b) (Begin t q c) ss → ⊥
  begins_once t p q b c i =
      let k = cut_at_second (Begin t p b) (Begin t q c) ss i in
      let r = at k.0 (Begin t q c ∷ k.1) k.2 in
      (meets_at O h met k.0 k.1 (Begin t q c) r).0 (begin_begun O h met t p b k.0 (front_runs O h met k.0 (Begin t q c ∷ k.1) r) k.3)

  -- all BEGIN steps of a transaction are on one thread
  one_thread : (t p q : Name) (b c : Option Tree) → In (Begin t p b) ss → In (Begin t q c) ss → p ≡ q
  one_thread t p q b c i j = elim (in_order (Begin t p b) (Begin t q c) ss i j) [
    | inl e ↦ same p q b c e
    | inr (inl k) ↦ absurd (begins_once t p q b c k)
    | inr (inr k) ↦ absurd (begins_once t q p c b k)
  ]
    where
      same : (p q : Name) (b c : Option Tree) → ◌≡◌ {A = Step Op} (Begin t p b) (Begin t q c) → p ≡ q
      same p q b c e = cc

  -- a transaction that is closed does not commit later
  closed_commits_not : (t : Name) (past rest : List (Step Op)) → ss ≡ past ++ rest → IsClosed O h met t past → In t (commits rest) → ⊥
  closed_commits_not t past rest e closed i =
      let d = split_at (Cmt t) rest (commit_is_step t rest i) in
      let mid : List (Step Op) = past ++ d.0 in
      let there : ss ≡ mid ++ Cmt t ∷ d.1 = e ∙ ap (λ (w : List (Step Op)). past ++ w) d.2 ∙ sym (append_assoc past d.0 (Cmt t ∷ d.1)) in
      let q = at mid (Cmt t ∷ d.1) there in
      let x = there_holds (tx t (after h mid).opened) _ (meets_at O h met mid d.1 (Cmt t) q) in
      let g = found_tx t (after h mid).opened x.0 x.1 in
      (closed_stays O h met t past d.0 closed (front_runs O h met mid (Cmt t ∷ d.1) q)).1 x.0 g.0 g.1

  -- if u begins after the past, each earlier transaction of its thread is closed
  earlier_closed : (past rest : List (Step Op)) (t u p : Name) (b c : Option Tree) → ss ≡ past ++ Begin u p c ∷ rest → In (Begin t p b) past → IsClosed O h met t past
  earlier_closed past rest t u p b c e i =
      let r = at past (Begin u p c ∷ rest) e in
      let past_runs = front_runs O h met past (Begin u p c ∷ rest) r in
      let others = (meets_at O h met past rest (Begin u p c) r).1.0 in
      let in_run : (s : Step Op) → In s past → In s ss = λ s n. subst (λ (w : List (Step Op)). In s w) (sym e) (in_left s past (Begin u p c ∷ rest) n) in (
        begin_begun O h met t p b past past_runs i,
        λ x n is.
            let o = open_has_begin O h met past past_runs x n in
            let mine : In (Begin t x.thread o.0) past = subst (λ (w : Name). In (Begin w x.thread o.0) past) is o.1 in
            others x n (one_thread t x.thread p o.0 b (in_run (Begin t x.thread o.0) mine) (in_run (Begin t p b) i)),
      )

  -- The commit order of an accepted run respects real time.
  pub respects_time : RespectsTime h ss
  respects_time = record {
    once = λ t u i.
        let m = before_from_map (λ (a : Attempt Op). a.name) t u (attempts h ss) i in
        let k = before_map committed_tx m.0 m.1 (attempts h ss) m.2 in
        let d = (sound_at O h met ss run).done_names (committed_tx m.0) (committed_tx m.1) (subst (λ (w : List (CommittedTx Op)). Before (committed_tx m.0) (committed_tx m.1) w) (sym (finished_are O h ss met run)) k) in
        λ e. d (sym m.3 ∙ e ∙ m.4);
    real_time = λ t u p b i j.
        let k = cut_at_second (Cmt t) (Begin u p b) ss i in
        committed_first k.0 k.1 t u p b k.2 (in_commits t k.0 k.3) j;
    start_first = λ z u e i. subst (λ (w : Option (Start Op)). Before z.tx u (commit_order w ss)) (sym e)
        (inl (refl, subst (λ (w : List Name). In u w) (sym (same_names ss (commits ss))) i));
    thread_order = λ t u p b c i j k.
        let m = cut_at_second (Begin t p b) (Begin u p c) ss i in
        let closed = earlier_closed m.0 m.1 t u p b c m.2 m.3 in
        let parts : In t (commits m.0 ++ commits m.1) = subst (λ (w : List Name). In t w) (ap (λ (w : List (Step Op)). commits w) m.2 ∙ commits-append m.0 (Begin u p c ∷ m.1)) j in
        elim (in_cases t (commits m.0) (commits m.1) parts) [
          | inl n ↦ committed_first m.0 m.1 t u p c m.2 n k
          | inr n ↦ absurd (closed_commits_not t m.0 (Begin u p c ∷ m.1) m.2 closed n)
        ];
  }

-- The commit order of each accepted run respects real time.
pub real_time_law : {Op State : Type 0} (O : Object Op State) → RealTimeLaw O
real_time_law O h ss met run = respects_time O h met ss run
