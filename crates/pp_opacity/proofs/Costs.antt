-- Proof machinery: what the steps of a run cost.
use Rattle.std.specs.Prelude.{◌≡◌, ◌≤◌, ◌+◌, ◌-◌, ◌*◌, ℕ, suc, zero, List, [], ◌∷◌, ◌++◌, length, sum_by, Option}
use Rattle.std.proofs.Common.{sym, ap, ◌∙◌, arith, append_assoc}
use Rattle.std.proofs.Math.Nat.{suc-mul}
use Rattle.std.proofs.lemmas.List.{append-nil}
use Rattle.std.proofs.lemmas.List.Sums.{sum_by-append}
use Rattle.pp_model.specs.Config.{App, CommittedTx, Start, Step}
use Rattle.pp_model.specs.Names.{Name}
use Rattle.pp_model.specs.Object.{Item}
use Rattle.pp_model.specs.Serial.{attempts, start_attempts}
use Rattle.pp_kind.specs.Object.{Object}
use Rattle.pp_attempts.proofs.Viewing.{serial_within}
use Rattle.pp_laws_opacity.specs.Opacity.{IsPrefix}
use Rattle.pp_laws_opacity.specs.Questions.{Question, question, questions, questions_after}
use Rattle.pp_laws_opacity.proofs.Questions.{least_is}
use Rattle.pp_opacity.specs.Attempts.{OpenAttempt, least_in, own_in}
use Rattle.pp_opacity.specs.Costs.{asking_at_most, operations_of, searching_at_most}
use Rattle.pp_opacity.specs.Replays.{AskingCostsAtMost, Follows, step_costs}
use Rattle.pp_opacity.specs.Results.{IsRun}
use Rattle.pp_opacity.proofs.Replays.{began_after_app, count_step, low_within}
use Rattle.pp_opacity.proofs.Serials.{serial_shorter}
use Rattle.pp_opacity.proofs.Windows.{fewer_products, one_more}

-- a product of a sum
sum_times : (a b w : ℕ) → (a + b) * w ≡ a * w + b * w
sum_times zero b w = omega arith
sum_times (suc a) b w =
    let e : (suc a + b) * w ≡ (a + b) * w + w = ap (λ (k : ℕ). k * w) (let z : suc a + b ≡ suc (a + b) = omega arith in z) ∙ suc-mul (a + b) w in
    let f : suc a * w ≡ a * w + w = suc-mul a w in
    let g = sum_times a b w in
    omega (arith, e, f, g)

-- the numbers of a window, each times the length of the items
window_times : (low high w : ℕ) → low ≤ high → (high + 1) * w ≡ (high + 1 - low) * w + low * w
window_times low high w within = ap (λ (k : ℕ). k * w) (let z : high + 1 ≡ (high + 1 - low) + low = omega (arith, within) in z) ∙ sum_times (high + 1 - low) low w

-- The questions of joined steps are those of the first, and then those of the others.
pub questions-append : {Op : Type 0} (h : Option (Start Op)) (past xs ys : List (Step Op)) → questions_after h past (xs ++ ys) ≡ questions_after h past xs ++ questions_after h (past ++ xs) ys
questions-append {Op} h past [] ys = ap (λ (w : List (Step Op)). questions_after h w ys) (sym (append-nil past))
questions-append {Op} h past (App t id op ∷ xs) ys =
    ap (λ (w : List (Question Op)). question h t (past ++ App t id op ∷ []) ∷ w)
    (questions-append h (past ++ App t id op ∷ []) xs ys
    ∙ ap (λ (w : List (Step Op)). questions_after h (past ++ App t id op ∷ []) xs ++ questions_after h w ys) (append_assoc past (App t id op ∷ []) xs))
questions-append {Op} h past (s ∷ xs) ys =
    questions-append h (past ++ s ∷ []) xs ys
    ∙ ap (λ (w : List (Step Op)). questions_after h (past ++ s ∷ []) xs ++ questions_after h w ys) (append_assoc past (s ∷ []) xs)

module _ {Op : Type 0} (h : Option (Start Op)) (committed : List (CommittedTx Op)) where
  -- what the steps so far have cost at most
  abbrev pub spent : List (Step Op) → ℕ
  spent past = operations_of committed (length (attempts h past)) + sum_by (asking_at_most committed) (questions h past)

  -- One step more costs what the step costs.
  pub spent_step : (past : List (Step Op)) (s : Step Op) → length (attempts h past) ≤ length (attempts h (past ++ s ∷ [])) → spent (past ++ s ∷ []) ≡ spent past + step_costs h past s committed
  spent_step past s more =
      let f = asking_at_most committed in
      let all = ap (λ (w : List (Question Op)). sum_by f w) (questions-append h [] past (s ∷ [])) ∙ sum_by-append f (questions h past) (questions_after h past (s ∷ [])) in
      let longer = serial_shorter committed (length (attempts h past)) (length (attempts h (past ++ s ∷ []))) more in
      omega (arith, all, longer)

  -- The first steps cost no more than the whole run.
  pub spent_within : (past ss : List (Step Op)) → IsPrefix past ss → spent past ≤ searching_at_most h ss committed
  spent_within past ss b =
      let f = asking_at_most committed in
      let all = ap (λ (w : List (Step Op)). sum_by f (questions h w)) b.1 ∙ ap (λ (w : List (Question Op)). sum_by f w) (questions-append h [] past b.0)
      ∙ sum_by-append f (questions h past) (questions_after h past b.0) in
      let within = serial_within committed (length (attempts h past)) in
      omega (arith, all, within)

module _ {Shape State Op Undo : Type 0} (o : Object Shape State Op Undo) (shape : Shape) (h : Option (Start Op)) (past rest : List (Step Op)) (s : Step Op)
    (committed : List (CommittedTx Op)) (r : IsRun o shape h (past ++ s ∷ rest) committed) where
  -- A step takes no attempt back.
  pub attempts_grow : length (attempts h past) ≤ length (attempts h (past ++ s ∷ []))
  attempts_grow = let step = count_step o shape h past rest s committed r in omega (arith, step)

  -- The transaction that a step commits costs its operations.
  pub cmt_costs : (n : ℕ) (kept : List (Name × OpenAttempt Op)) → Follows o shape h past committed n kept
      → length (attempts h past) + 1 ≤ length (attempts h (past ++ s ∷ [])) → (t u : ℕ)
      → u + operations_of committed n ≤ t + operations_of committed (n + 1) → u ≤ t + step_costs h past s committed
  cmt_costs n kept f more t u cost =
      let same = ap (λ (k : ℕ). operations_of committed k) f.count in
      let next = ap (λ (k : ℕ). operations_of committed (k + 1)) f.count in
      let longer = serial_shorter committed (length (attempts h past) + 1) (length (attempts h (past ++ s ∷ []))) more in
      omega (arith, cost, same, next, longer)

-- The question of an APP costs as much as is said of it.
pub app_costs : {Shape State Op Undo : Type 0} (o : Object Shape State Op Undo) (shape : Shape) (h : Option (Start Op)) (past rest : List (Step Op)) (u : Name) (id : ℕ) (op : Op)
    (committed : List (CommittedTx Op)) (n : ℕ) (kept : List (Name × OpenAttempt Op)) (r : IsRun o shape h (past ++ App u id op ∷ rest) committed)
    (f : Follows o shape h (past ++ App u id op ∷ []) committed n kept) (t t2 : ℕ)
    → t2 + 2 * operations_of committed (least_in u kept) + 2 * (least_in u kept * length (own_in u kept))
    ≤ t + 2 * operations_of committed n + 2 * ((n + 1) * length (own_in u kept))
    → t2 ≤ t + step_costs h past (App u id op) committed
app_costs {Shape} {State} {Op} o shape h past rest u id op committed n kept r f t t2 cost =
    let now : List (Step Op) = past ++ App u id op ∷ [] in
    let q : Question Op = question h u now in
    let began = began_after_app o shape h past rest u id op committed n kept r f in
    let low : least_in u kept ≡ q.least = f.least u began.0 began.1 ∙ sym (least_is h u now began.0 began.1) in
    let size : length (own_in u kept) ≡ length q.items = ap (λ (w : List (Item Op)). length w) (f.own u) in
    let high : n ≡ q.most = f.count in
    let within : q.least ≤ q.most = let first = low_within o shape h past rest u id op committed n kept r f in omega (arith, low, high, first) in
    let lows = ap (λ (k : ℕ). operations_of committed k) low in
    let highs = ap (λ (k : ℕ). operations_of committed k) high in
    let first = ap (λ (k : ℕ). k * length (own_in u kept)) low ∙ ap (λ (k : ℕ). q.least * k) size in
    let last = ap (λ (k : ℕ). (k + 1) * length (own_in u kept)) high ∙ ap (λ (k : ℕ). (q.most + 1) * k) size in
    let window = window_times q.least q.most (length q.items) within in
    let longer = serial_shorter committed q.least q.most within in
    omega (arith, cost, lows, highs, first, last, window, longer)

-- Before the first step as much is spent as the start costs.
pub spent_first : {Op : Type 0} (h : Option (Start Op)) (committed : List (CommittedTx Op)) (given : ℕ) → given ≡ length (start_attempts h) → operations_of committed given ≤ spent h committed []
spent_first h committed given e =
    let same : operations_of committed given ≡ operations_of committed (length (attempts h [])) = ap (λ (k : ℕ). operations_of committed k) (e ∙ ap (λ w. length w) (sym (append-nil (start_attempts h)))) in
    omega (arith, same)

-- A step within the bound leaves what is spent within the bound of the run.
pub next_within : {Shape State Op Undo : Type 0} (o : Object Shape State Op Undo) (shape : Shape) (h : Option (Start Op)) (past rest : List (Step Op)) (s : Step Op)
    (committed : List (CommittedTx Op)) (r : IsRun o shape h (past ++ s ∷ rest) committed) (first t u : ℕ) → t ≤ first + spent h committed past → u ≤ t + step_costs h past s committed
    → (u ≤ first + spent h committed (past ++ s ∷ [])) × (u ≤ first + searching_at_most h (past ++ s ∷ rest) committed)
next_within o shape h past rest s committed r first t u so more =
    let step = spent_step h committed past s (attempts_grow o shape h past rest s committed r) in
    let within = spent_within h committed (past ++ s ∷ []) (past ++ s ∷ rest) (rest, sym (append_assoc past (s ∷ []) rest)) in
    (omega (arith, so, more, step), omega (arith, so, more, step, within))

-- A question at one number costs no more than at all in the window.
pub asked_here : {Op : Type 0} (D : List (CommittedTx Op)) (u : Name) (kept : List (Name × OpenAttempt Op)) (n t t2 : ℕ) → least_in u kept ≤ n → t2 ≤ t + 2 * length (own_in u kept) → AskingCostsAtMost D u kept n t t2
asked_here D u kept n t t2 low cost =
    let w = length (own_in u kept) in
    let part = serial_shorter D (least_in u kept) n low in
    let products = fewer_products (least_in u kept) n w low in
    omega (arith, cost, part, products, one_more n w)
