-- Proof machinery: a step that is taken, in each of its forms.
use Rattle.std.specs.Prelude.{◌≡◌, ◌≢◌, ◌≤◌, ◌+◌, ◌-◌, ◌*◌, ℕ, Bool, false, cond, List, [], ◌∷◌, ◌++◌, length, take, Option, None, Some}
use Rattle.std.proofs.Common.{refl, sym, ap, subst, ◌∙◌, arith}
use Rattle.std.proofs.lemmas.List.{length-append, take-append-le}
use mathlib.Core.Logic.{inl, inr}
use Rattle.pp_model.specs.Config.{Begin, App, Unapp, Push, Unpush, Pull, Unpull, Cmt, Quit, Note, CommittedTx, Start, Step}
use Rattle.pp_model.specs.Body.{Tree}
use Rattle.pp_model.specs.Names.{Name, ◌=ⁿ◌}
use Rattle.pp_model.proofs.Names.{names_tell}
use Rattle.pp_model.specs.Object as model
use Rattle.pp_model.specs.Object.{Item}
use Rattle.pp_model.specs.Serial.{commits}
use Rattle.pp_model.specs.Sound.{serial_ops}
use Rattle.pp_kind.specs.Object.{Object, rules_of}
use Rattle.pp_attempts.specs.Lists.{own_after}
use Rattle.pp_attempts.specs.Views.{MayBeTried}
use Rattle.pp_laws_opacity.specs.Opacity.{MayStart, SeesSome}
use Rattle.pp_opacity.specs.Attempts.{OpenAttempt, excluded_in, excludes_none, least_in, own_in}
use Rattle.pp_opacity.specs.Costs.{operations_of}
use Rattle.pp_opacity.specs.Replays.{Follows, IsReplay, IsSeen, MayAskOf, applied_in, step_costs}
use Rattle.pp_opacity.proofs.Costs.{app_costs, cmt_costs}
use Rattle.pp_opacity.specs.Results.{IsRun}
use Rattle.pp_opacity.specs.Trials.{AreExcluded, IsAt, IsExplained, IsWith, MayTakeBack, Serial}
use Rattle.pp_opacity.proofs.Serials.{with_none}
use Rattle.pp_opacity.proofs.Replays.{applied_tried, count_step, explained_sees, follows_app, follows_asked, follows_begin, follows_quiet, follows_unapp, low_within, may_try, now_fewer, run_serial, sees_explained}

-- the step is an APP
abbrev IsApp : {Op : Type 0} → Step Op → Type 0
IsApp {Op} s = (t : Name) × (id : ℕ) × (op : Op) × (s ≡ App t id op)

-- A step that is no APP shows no zombie.
pub seen_quiet : {Op State : Type 0} (O : model.Object Op State) (h : Option (Start Op)) (past : List (Step Op)) (s : Step Op) → (IsApp s → ⊥) → IsSeen O h past s None
seen_quiet O h past s n t id op e = absurd (n (t, id, op, e))

-- The step neither begins an attempt, nor changes an own list, nor commits, and is no APP.
pub record IsIdle {Op : Type 0} (s : Step Op) : Type 0 where
  pub still : (t : Name) → MayStart t s → ⊥
  pub same : (t : Name) (l : List (Item Op)) → own_after t s l ≡ l
  pub none : commits (s ∷ []) ≡ []
  pub no_app : IsApp s → ⊥

-- A PUSH is idle.
pub idle_push : {Op : Type 0} (u : Name) (id : ℕ) → IsIdle {Op = Op} (Push u id)
idle_push u id = record { still = λ t m. m; same = λ t l. refl; none = refl; no_app = λ a. let e = a.3 in cc }

-- An UNPUSH is idle.
pub idle_unpush : {Op : Type 0} (u : Name) (id : ℕ) → IsIdle {Op = Op} (Unpush u id)
idle_unpush u id = record { still = λ t m. m; same = λ t l. refl; none = refl; no_app = λ a. let e = a.3 in cc }

-- A PULL is idle.
pub idle_pull : {Op : Type 0} (u : Name) (id : ℕ) → IsIdle {Op = Op} (Pull u id)
idle_pull u id = record { still = λ t m. m; same = λ t l. refl; none = refl; no_app = λ a. let e = a.3 in cc }

-- An UNPULL is idle.
pub idle_unpull : {Op : Type 0} (u : Name) (id : ℕ) → IsIdle {Op = Op} (Unpull u id)
idle_unpull u id = record { still = λ t m. m; same = λ t l. refl; none = refl; no_app = λ a. let e = a.3 in cc }

-- A QUIT is idle.
pub idle_quit : {Op : Type 0} (u : Name) → IsIdle {Op = Op} (Quit u)
idle_quit u = record { still = λ t m. m; same = λ t l. refl; none = refl; no_app = λ a. let e = a.3 in cc }

-- A NOTE is idle.
pub idle_note : {Op : Type 0} (u : Name) → IsIdle {Op = Op} (Note u)
idle_note u = record { still = λ t m. m; same = λ t l. refl; none = refl; no_app = λ a. let e = a.3 in cc }

module _ {Shape State Op Undo : Type 0} (o : Object Shape State Op Undo) (shape : Shape) (h : Option (Start Op)) (past rest : List (Step Op)) (s : Step Op)
    (committed : List (CommittedTx Op)) (n : ℕ) (kept : List (Name × OpenAttempt Op)) (r : IsRun o shape h (past ++ s ∷ rest) committed)
    (f : Follows o shape h past committed n kept) where
  -- What is kept follows an idle step.
  pub take_idle : IsIdle s → Follows o shape h (past ++ s ∷ []) committed n kept
  take_idle i = follows_quiet o shape h past rest s committed r n n kept f i.still i.same
      (let none = ap (λ (w : List Name). length w) i.none in omega (arith, none))

  -- What is kept follows a CMT.
  pub take_cmt : (u : Name) → s ≡ Cmt u → (m : ℕ) → m ≡ n + 1 → Follows o shape h (past ++ s ∷ []) committed m kept
  take_cmt u e m count =
      follows_quiet o shape h past rest s committed r n m kept f
      (λ t k. subst (λ (w : Step Op). MayStart t w) e k)
      (λ t l. ap (λ (w : Step Op). own_after t w l) e)
      (let one = ap (λ (w : Step Op). length (commits (w ∷ []))) e in omega (arith, count, one))

  -- Before a CMT one more transaction is left.
  pub cmt_left : (u : Name) → s ≡ Cmt u → n + 1 ≤ length committed
  cmt_left u e =
      let one = ap (λ (w : Step Op). length (commits (w ∷ []))) e in
      let step = count_step o shape h past rest s committed r in
      let fewer = now_fewer o shape h past rest s committed r in
      let count = f.count in
      omega (arith, one, step, fewer, count)

  -- A CMT costs the operations of its transaction.
  pub cmt_spent : (u : Name) → s ≡ Cmt u → (t t2 : ℕ) → t2 + operations_of committed n ≤ t + operations_of committed (n + 1) → t2 ≤ t + step_costs h past s committed
  cmt_spent u e t t2 cost =
      let one = ap (λ (w : Step Op). length (commits (w ∷ []))) e in
      let step = count_step o shape h past rest s committed r in
      cmt_costs o shape h past rest s committed r n kept f (omega (arith, one, step)) t t2 cost

  -- What is kept follows a BEGIN.
  pub take_begin : (u p : Name) (b : Option Tree) → s ≡ Begin u p b → (more : List (Name × OpenAttempt Op))
      → ((t : Name) → own_in t more ≡ cond (u =ⁿ t) [] (own_in t kept)) → ((t : Name) → least_in t more ≡ cond (u =ⁿ t) n (least_in t kept))
      → ((t : Name) → excluded_in t more ≡ cond (u =ⁿ t) excludes_none (excluded_in t kept))
      → Follows o shape h (past ++ s ∷ []) committed n more
  take_begin u p b e more own least excluded =
      subst (λ (w : Step Op). Follows o shape h (past ++ w ∷ []) committed n more) (sym e)
      (follows_begin o shape h past rest committed n kept more f u p b (subst (λ (w : Step Op). IsRun o shape h (past ++ w ∷ rest) committed) e r) own least excluded)

  -- What is kept follows an UNAPP.
  pub take_unapp : (u : Name) (id : ℕ) → s ≡ Unapp u id → (more : List (Name × OpenAttempt Op))
      → ((t : Name) → own_in t more ≡ cond (u =ⁿ t) (take (length (own_in t kept) - 1) (own_in t kept)) (own_in t kept))
      → ((t : Name) → (u =ⁿ t) ≡ false → least_in t more ≡ least_in t kept)
      → (own_in u more ≢ [] → least_in u more ≡ least_in u kept) → (own_in u kept ≢ [] → own_in u more ≡ [] → least_in u more ≡ n)
      → ((t : Name) → excluded_in t more ≡ cond (u =ⁿ t) excludes_none (excluded_in t kept))
      → Follows o shape h (past ++ s ∷ []) committed n more
  take_unapp u id e more own others still begins excluded =
      subst (λ (w : Step Op). Follows o shape h (past ++ w ∷ []) committed n more) (sym e)
      (follows_unapp o shape h past rest committed n kept more f u id (subst (λ (w : Step Op). IsRun o shape h (past ++ w ∷ rest) committed) e r) own others still begins excluded)

  module _ (u : Name) (id : ℕ) (op : Op) (e : s ≡ App u id op) (more : List (Name × OpenAttempt Op))
      (own : (t : Name) → own_in t more ≡ cond (u =ⁿ t) (own_in t kept ++ record { id = id; op = op } ∷ []) (own_in t kept)) (least : (t : Name) → least_in t more ≡ least_in t kept)
      (excluded : (t : Name) → excluded_in t more ≡ excluded_in t kept) where
    run_app : IsRun o shape h (past ++ App u id op ∷ rest) committed
    run_app = subst (λ (w : Step Op). IsRun o shape h (past ++ w ∷ rest) committed) e r

    asking : Follows o shape h (past ++ App u id op ∷ []) committed n more
    asking = follows_app o shape h past rest committed n kept more f u id op run_app own least excluded

    -- After an APP the own list may be tried.
    pub app_try : MayBeTried o shape (length (serial_ops committed)) (own_in u more)
    app_try = may_try o shape h past rest u id op committed n more run_app asking

    -- The numbers that are excluded do not explain it.
    pub app_excluded : AreExcluded (rules_of o shape) committed (own_in u more) (excluded_in u more)
    app_excluded = asking.excluded u

    -- The own list has one operation more.
    app_grown : own_in u more ≡ own_in u kept ++ record { id = id; op = op } ∷ []
    app_grown = elim (names_tell u u) [
      | inl e ↦ own u ∙ ap (λ (z : Bool). cond z (own_in u kept ++ record { id = id; op = op } ∷ []) (own_in u kept)) e.0
      | inr e ↦ absurd (e.1 refl)
    ]

    -- The first of it are no more than all.
    pub app_within : (start : ℕ) → start ≤ length (own_in u kept) → start ≤ length (own_in u more)
    app_within start within =
        let all = ap (λ (w : List (Item Op)). length w) app_grown in
        omega (arith, within, all, length-append (own_in u kept) (record { id = id; op = op } ∷ []))

    -- After an APP the own list may be asked about, if the first of it are applied.
    pub app_ask : (serial : Serial State Undo) (start : ℕ) → start ≤ length (own_in u kept) → IsWith o shape committed (take start (own_in u kept)) serial → MayAskOf o shape committed u more start serial
    app_ask serial start within at = record {
      run = run_serial o shape h (past ++ s ∷ rest) committed r;
      applied = subst (λ (w : List (Item Op)). IsWith o shape committed w serial)
          (sym (ap (λ (w : List (Item Op)). take start w) app_grown ∙ take-append-le start (own_in u kept) (record { id = id; op = op } ∷ []) within)) at;
      may = app_try;
      none = app_excluded;
    }

    -- Its window begins no later than now.
    pub app_low : least_in u more ≤ n
    app_low = low_within o shape h past rest u id op committed n more run_app asking

    -- An APP costs what its question costs.
    pub app_spent : (t t2 : ℕ) → t2 + 2 * operations_of committed (least_in u more) + 2 * (least_in u more * length (own_in u more))
        ≤ t + 2 * operations_of committed n + 2 * ((n + 1) * length (own_in u more)) → t2 ≤ t + step_costs h past s committed
    app_spent t t2 cost = subst (λ (w : Step Op). t2 ≤ t + step_costs h past w committed) (sym e) (app_costs o shape h past rest u id op committed n more run_app asking t t2 cost)

    -- What is kept follows an APP.
    pub take_app : (last : List (Name × OpenAttempt Op)) → ((t : Name) → own_in t last ≡ own_in t more) → ((t : Name) → least_in t last ≡ least_in t more)
        → ((t : Name) → (u =ⁿ t) ≡ false → excluded_in t last ≡ excluded_in t more)
        → AreExcluded (rules_of o shape) committed (own_in u more) (excluded_in u last) → Follows o shape h (past ++ s ∷ []) committed n last
    take_app last own_last least_last others passed =
        subst (λ (w : Step Op). Follows o shape h (past ++ w ∷ []) committed n last) (sym e)
        (follows_asked o shape h (past ++ App u id op ∷ []) rest committed n more last asking u own_last least_last others passed)

    -- What is explained is seen.
    pub app_seen : IsExplained (rules_of o shape) committed (own_in u more) (least_in u more) n → IsSeen (rules_of o shape) h past s None
    app_seen k t i q is =
        let same : App u id op ≡ App t i q = sym e ∙ is in
        let name : u ≡ t = cc in
        subst (λ (w : Step Op). SeesSome (rules_of o shape) h (past ++ w ∷ []) t) (sym e)
        (subst (λ (w : Name). SeesSome (rules_of o shape) h (past ++ App u id op ∷ []) w) name (explained_sees o shape h past rest u id op committed n more run_app asking k))

    -- What is not explained is a zombie.
    pub app_unseen : (IsExplained (rules_of o shape) committed (own_in u more) (least_in u more) n → ⊥) → IsSeen (rules_of o shape) h past s (Some u)
    app_unseen unseen = (
      id,
      op,
      e,
      λ k. unseen (sees_explained o shape h past rest u id op committed n more run_app asking (subst (λ (w : Step Op). SeesSome (rules_of o shape) h (past ++ w ∷ []) u) e k)),
    )

module _ {Shape State Op Undo : Type 0} (o : Object Shape State Op Undo) (shape : Shape) (h : Option (Start Op)) (past rest : List (Step Op)) (s : Step Op)
    (committed : List (CommittedTx Op)) (serial : Serial State Undo) (kept : List (Name × OpenAttempt Op)) (applied : Option Name) (r : IsRun o shape h (past ++ s ∷ rest) committed)
    (f : IsReplay o shape h past committed serial kept applied) where
  -- What is applied may be taken back.
  pub may_settle : MayTakeBack o shape committed (applied_in applied kept) serial
  may_settle = record {
    run = run_serial o shape h (past ++ s ∷ rest) committed r;
    applied = f.at;
    may = applied_tried o shape h past (past ++ s ∷ rest) committed r (s ∷ rest, refl) serial.count kept f.follows applied;
  }

  -- After an idle step the same is applied.
  pub replay_idle : IsIdle s → IsReplay o shape h (past ++ s ∷ []) committed serial kept applied
  replay_idle i = record { follows = take_idle o shape h past rest s committed serial.count kept r f.follows i; at = f.at }

  -- What is kept follows the same steps, if as many transactions are in the serial run.
  pub settled : (m : ℕ) → m ≡ serial.count → Follows o shape h past committed m kept
  settled m same = subst (λ (k : ℕ). Follows o shape h past committed k kept) (sym same) f.follows

-- If nothing is applied, the serial run is there alone.
pub with_settled : {Shape State Op Undo : Type 0} (o : Object Shape State Op Undo) (shape : Shape) (committed : List (CommittedTx Op)) (serial : Serial State Undo) (kept : List (Name × OpenAttempt Op)) (applied : Option Name)
    → applied ≡ None → IsAt o shape committed serial → IsWith o shape committed (applied_in applied kept) serial
with_settled {Shape} {State} {Op} o shape committed serial kept applied none at = subst (λ (a : Option Name). IsWith o shape committed (applied_in a kept) serial) (sym none) (with_none o shape committed serial at)
