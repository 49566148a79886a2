-- What is true after each first part of an accepted run.
use Rattle.std.specs.Prelude.{◌≡◌, ◌≢◌, List, [], ◌∷◌, ◌++◌, map, Option, None, Some}
use Rattle.std.proofs.Common.{refl, sym, ap, subst, ◌∙◌, append_assoc}
use Rattle.std.proofs.lemmas.List.{append-nil}
use mathlib.Core.Logic.{inl, inr}
use Rattle.pp_model.specs.Body.{Tree}
use Rattle.pp_model.specs.Config.{Begin, CommittedTx, Config, Start, Step, Tx, after, first, then}
use Rattle.pp_model.specs.Lists.{In}
use Rattle.pp_model.specs.Names.{Name}
use Rattle.pp_model.specs.Object.{Object}
use Rattle.pp_model.specs.Rules.{Meets, RunsFrom, StartMeets}
use Rattle.pp_model.specs.Serial.{attempt_of, attempts, commits, committed_tx, start_attempts}
use Rattle.pp_model.specs.Sound.{Sound}
use Rattle.pp_model.proofs.Begin.{start_sound}
use Rattle.pp_model.proofs.Keeps.{run_keeps}
use Rattle.pp_model.proofs.Lists.{in_cases, in_left, in_map, in_right}
use Rattle.pp_model.proofs.Simulate.{finished_are}
use Rattle.pp_records.proofs.Ends.{after_append, runs_back, runs_front}
use Rattle.pp_laws_runs.proofs.Changes.{names_stay, open_before}

module _ {Op State : Type 0} (O : Object Op State) (h : Option (Start Op)) (met : StartMeets O h) where
  -- the configuration after the steps is sound
  pub sound_at : (ss : List (Step Op)) → RunsFrom O (first h) ss → Sound O (after h ss)
  sound_at ss r = run_keeps O ss (first h) (start_sound O h met) r

  -- the steps of the first part meet their criteria
  pub front_runs : (p q : List (Step Op)) → RunsFrom O (first h) (p ++ q) → RunsFrom O (first h) p
  front_runs p q r = runs_front O (first h) p q r

  -- the step after the first part meets its criteria
  pub meets_at : (p q : List (Step Op)) (s : Step Op) → RunsFrom O (first h) (p ++ s ∷ q) → Meets O (after h p) s
  meets_at p q s r = (runs_back O (first h) p (s ∷ q) r).0

  -- a property that is true after the past, and that each step keeps, is true later
  along : (P : List (Step Op) → Type 0)
      → ((past : List (Step Op)) (s : Step Op) → RunsFrom O (first h) (past ++ s ∷ []) → P past → P (past ++ s ∷ []))
      → (past ss : List (Step Op)) → P past → RunsFrom O (first h) (past ++ ss) → P (past ++ ss)
  along P f past [] p r = subst P (sym (append-nil past)) p
  along P f past (s ∷ ss) p r =
      let e : (past ++ s ∷ []) ++ ss ≡ past ++ s ∷ ss = append_assoc past (s ∷ []) ss in
      let q : RunsFrom O (first h) ((past ++ s ∷ []) ++ ss) = subst (λ (w : List (Step Op)). RunsFrom O (first h) w) (sym e) r in
      subst P e (along P f (past ++ s ∷ []) ss (f past s (front_runs (past ++ s ∷ []) ss q) p) q)

  after_step : (past : List (Step Op)) (s : Step Op) → after h (past ++ s ∷ []) ≡ then (after h past) s
  after_step past s = after_append (first h) past (s ∷ [])

  -- a transaction that committed was begun
  pub committed_begun : (t : Name) (past : List (Step Op)) → RunsFrom O (first h) past → In t (commits past) → In t (after h past).names
  committed_begun t past r i =
      let a = attempt_of past t in
      let there = in_right a (start_attempts h) (map (attempt_of past) (commits past)) (in_map (attempt_of past) t (commits past) i) in
      (sound_at past r).done_known (committed_tx a) (subst (λ (w : List (CommittedTx Op)). In (committed_tx a) w) (sym (finished_are O h past met r)) (in_map committed_tx a (attempts h past) there))

  -- a transaction with a BEGIN step was begun
  pub begin_begun : (t p : Name) (b : Option Tree) (past : List (Step Op)) → RunsFrom O (first h) past → In (Begin t p b) past → In t (after h past).names
  begin_begun t p b past run = along (λ w. In (Begin t p b) w → In t (after h w).names) step [] past (λ i. absurd i) run
    where
      step : (past : List (Step Op)) (s : Step Op) → RunsFrom O (first h) (past ++ s ∷ []) → (In (Begin t p b) past → In t (after h past).names) → In (Begin t p b) (past ++ s ∷ []) → In t (after h (past ++ s ∷ [])).names
      step past s r k i = subst (λ (w : Config Op). In t w.names) (sym (after_step past s)) (elim (in_cases (Begin t p b) past (s ∷ []) i) [
        | inl j ↦ names_stay (after h past) s t (k j)
        | inr (inl e) ↦ subst (λ (w : Step Op). In t (then (after h past) w).names) e (inl refl)
        | inr (inr j) ↦ absurd j
      ])

  -- an open transaction has a BEGIN step, on its thread
  pub open_has_begin : (past : List (Step Op)) → RunsFrom O (first h) past → (x : Tx Op) → In x (after h past).opened → (b : Option Tree) × In (Begin x.name x.thread b) past
  open_has_begin past run = along (λ w. (x : Tx Op) → In x (after h w).opened → (b : Option Tree) × In (Begin x.name x.thread b) w) step [] past (λ x i. none h x i) run
    where
      none : (h : Option (Start Op)) (x : Tx Op) → In x (first h).opened → (b : Option Tree) × In {A = Step Op} (Begin x.name x.thread b) []
      none None x i = absurd i
      none (Some z) x i = absurd i

      step : (past : List (Step Op)) (s : Step Op) → RunsFrom O (first h) (past ++ s ∷ [])
          → ((x : Tx Op) → In x (after h past).opened → (b : Option Tree) × In (Begin x.name x.thread b) past)
          → (x : Tx Op) → In x (after h (past ++ s ∷ [])).opened → (b : Option Tree) × In (Begin x.name x.thread b) (past ++ s ∷ [])
      step past s r k x i = elim (open_before (after h past) s x (subst (λ (w : Config Op). In x w.opened) (after_step past s) i)) [
        | inl y ↦
            let q = k y.0 y.1 in
            let is : ◌≡◌ {A = Step Op} (Begin (y.0).name (y.0).thread q.0) (Begin x.name x.thread q.0) = ap (λ (w : Name). Begin w (y.0).thread q.0) (sym y.2) ∙ ap (λ (w : Name). Begin x.name w q.0) (sym y.3) in
            (q.0, in_left (Begin x.name x.thread q.0) past (s ∷ []) (subst (λ (w : Step Op). In w past) is q.1))
        | inr e ↦ (e.0, in_right (Begin x.name x.thread e.0) past (s ∷ []) (inl (sym e.1)))
      ]

  -- the transaction was begun, and is not open
  abbrev pub IsClosed : Name → List (Step Op) → Type 0
  IsClosed t past = In t (after h past).names × ((x : Tx Op) → In x (after h past).opened → x.name ≢ t)

  -- a transaction that is closed stays closed
  pub closed_stays : (t : Name) (past ss : List (Step Op)) → IsClosed t past → RunsFrom O (first h) (past ++ ss) → IsClosed t (past ++ ss)
  closed_stays t past ss k run = along (λ w. IsClosed t w) step past ss k run
    where
      step : (past : List (Step Op)) (s : Step Op) → RunsFrom O (first h) (past ++ s ∷ []) → IsClosed t past → IsClosed t (past ++ s ∷ [])
      step past s r k = subst (λ (w : Config Op). In t w.names × ((x : Tx Op) → In x w.opened → x.name ≢ t)) (sym (after_step past s)) (
        names_stay (after h past) s t k.0,
        λ x i e. elim (open_before (after h past) s x i) [
          | inl y ↦ k.1 y.0 y.1 (sym y.2 ∙ e)
          | inr b ↦ (meets_at past [] (Begin x.name x.thread b.0) (subst (λ (w : Step Op). RunsFrom O (first h) (past ++ w ∷ [])) b.1 r)).0 (subst (λ (w : Name). In w (after h past).names) (sym e) k.0)
        ],
      )
