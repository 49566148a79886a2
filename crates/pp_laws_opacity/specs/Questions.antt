-- Meaning: opacity as a list of questions about the committed transactions, one for each APP.
use Rattle.std.specs.Prelude.{◌↔◌, ◌≤◌, ℕ, Bool, true, false, ◌&&◌, cond, List, [], ◌∷◌}
use Rattle.std.specs.Prelude.{◌++◌, length, take, Option}
use Rattle.pp_model.specs.Config.{Start, Step, Begin, App, Unapp, Push, Unpush, Pull, Unpull, Cmt}
use Rattle.pp_model.specs.Config.{Quit, Note, first}
use Rattle.pp_model.specs.Lists.{In}
use Rattle.pp_model.specs.Names.{Name, ◌=ⁿ◌}
use Rattle.pp_model.specs.Object.{Allowed, Item, Object, ops}
use Rattle.pp_model.specs.Rules.{RunsFrom, StartMeets}
use Rattle.pp_model.specs.Serial.{attempts, own_of, serial}
use Rattle.pp_laws_opacity.specs.Opacity.{IsOpaque}

-- the list is empty
abbrev pub is_empty : {A : Type 0} → List A → Bool
is_empty [] = true
is_empty (x ∷ l) = false

-- the step is t's BEGIN, or an UNAPP of t
abbrev pub may_start : {Op : Type 0} → Name → Step Op → Bool
may_start t (Begin u p b) = u =ⁿ t
may_start t (Unapp u id) = u =ⁿ t
may_start t (App u id op) = false
may_start t (Push u id) = false
may_start t (Unpush u id) = false
may_start t (Pull u id) = false
may_start t (Unpull u id) = false
may_start t (Cmt u) = false
may_start t (Quit u) = false
may_start t (Note u) = false

-- with the step s, the last of `past`, t begins an attempt
abbrev pub starts : {Op : Type 0} → Name → List (Step Op) → Step Op → Bool
starts t past s = may_start t s && is_empty (own_of t past)

-- how many transactions had committed when t's attempt began, if that was n after `past` and the
-- steps `ss` come next
abbrev pub least_after : {Op : Type 0} → Option (Start Op) → Name → ℕ → List (Step Op) →
    List (Step Op) → ℕ
least_after h t n past [] = n
least_after h t n past (s ∷ ss) =
    least_after h t
    (cond (starts t (past ++ s ∷ []) s) (length (attempts h (past ++ s ∷ []))) n)
    (past ++ s ∷ []) ss

-- how many transactions had committed when the attempt began that t is in after these steps
abbrev pub least_of : {Op : Type 0} → Option (Start Op) → Name → List (Step Op) → ℕ
least_of h t past = least_after h t 0 [] past

-- Are these items allowed after some number of commits, at least the one and at most the other?
pub record Question (Op : Type 0) : Type 0 where
  pub items : List (Item Op)
  pub least : ℕ
  pub most : ℕ

-- the question about t after these steps
abbrev pub question : {Op : Type 0} → Option (Start Op) → Name → List (Step Op) → Question Op
question h t past =
    record {
      items = own_of t past;
      least = least_of h t past;
      most = length (attempts h past);
    }

-- the questions right after the APP steps of `ss`, which follow `past`
abbrev pub questions_after : {Op : Type 0} → Option (Start Op) → List (Step Op) → List (Step Op) →
    List (Question Op)
questions_after h past [] = []
questions_after h past (App t id op ∷ ss) =
    question h t (past ++ App t id op ∷ []) ∷ questions_after h (past ++ App t id op ∷ []) ss
questions_after h past (Begin t p b ∷ ss) = questions_after h (past ++ Begin t p b ∷ []) ss
questions_after h past (Unapp t id ∷ ss) = questions_after h (past ++ Unapp t id ∷ []) ss
questions_after h past (Push t id ∷ ss) = questions_after h (past ++ Push t id ∷ []) ss
questions_after h past (Unpush t id ∷ ss) = questions_after h (past ++ Unpush t id ∷ []) ss
questions_after h past (Pull t id ∷ ss) = questions_after h (past ++ Pull t id ∷ []) ss
questions_after h past (Unpull t id ∷ ss) = questions_after h (past ++ Unpull t id ∷ []) ss
questions_after h past (Cmt t ∷ ss) = questions_after h (past ++ Cmt t ∷ []) ss
questions_after h past (Quit t ∷ ss) = questions_after h (past ++ Quit t ∷ []) ss
questions_after h past (Note t ∷ ss) = questions_after h (past ++ Note t ∷ []) ss

-- the questions of a run, in the order of its APP steps
abbrev pub questions : {Op : Type 0} → Option (Start Op) → List (Step Op) → List (Question Op)
questions h ss = questions_after h [] ss

module _ {Op State : Type 0} (O : Object Op State) where
  -- Some number of commits of the run is an answer to the question.
  abbrev pub HasAnswer : Option (Start Op) → List (Step Op) → Question Op → Type 0
  HasAnswer h ss q =
      (n : ℕ) × (q.least ≤ n) × (n ≤ q.most)
      × Allowed O (serial (take n (attempts h ss)) ++ ops q.items)

  -- An accepted run is opaque if and only if each of its questions has an answer.
  abbrev pub QuestionLaw : Type 0
  QuestionLaw =
      (h : Option (Start Op)) (ss : List (Step Op)) → StartMeets O h → RunsFrom O (first h) ss →
      IsOpaque O h ss ↔ ((q : Question Op) → In q (questions h ss) → HasAnswer h ss q)
