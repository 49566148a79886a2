-- The line of a step.
use Rattle.std.proofs.Common.{◌≡◌, ◌≤◌, ℕ, false, List, [], codes, length, Some, None, refl, arith}
use Rattle.serde_json.specs.Data.{Num, unsigned, depth}
use Rattle.serde_json.specs.Read.{max_depth}
use Rattle.serde_json.specs.Written.{has_float}
use Rattle.pp_core.specs.Catalogs.{Objects, HasNames}
use Rattle.pp_core.specs.Names.{IsName}
use Rattle.pp_core.specs.Steps.{Step, Begin, App, Unapp, Push, Unpush, Pull, Unpull, Cmt, Quit, Note}
use Rattle.pp_core.specs.declared.answer.Answer.{Answer}
use Rattle.pp_core.specs.declared.answer.Answer.TheVariants as answers
use Rattle.pp_objects.specs.One.{kind_for, call_of, recorded_by}
use Rattle.pp_objects.specs.declared.act.Op.{Op}
use Rattle.pp_format_write.specs.Lines.{IsOneLine, most_bytes}
use Rattle.pp_format_write.specs.Operations.{answer_value, arity_in}
use Rattle.pp_format_write.specs.Statable.{IsCatalog, IsNamed, IsWritable, IsStatable}
use Rattle.pp_format_write.specs.Steps.{tx_members, tx_value, entry_value, begin_members, step_value, step_bytes}
use Rattle.pp_format_write.proofs.Words.{IsWord}
use Rattle.pp_format_write.proofs.Texts.{IsTidy, HasTidy, IsWhole, IsNear, width, short_text, one_line_text}
use Rattle.pp_format_write.proofs.Texts as texts
use Rattle.pp_format_write.proofs.Names.{named_at}
use Rattle.pp_format_write.proofs.Operations.{there, op_tidy, whole_numbers, near_numbers}
use Rattle.pp_format_write.proofs.Bodies.{each_known, whole_body, near_body, body_depth, body_short, arguments_flat, arguments_wide, call_wide}

-- ---- its texts are words, and its numbers have a property
module _ (P : Num → Type 0) (tx : List ℕ) (name : IsName tx) where
  tx_has : (word : List ℕ) → IsWord word → HasTidy P (tx_members word tx)
  tx_has word h = (refl, h, (refl, name.bytes, tt))

  tx_tidy : (word : List ℕ) → IsWord word → IsTidy P (tx_value word tx)
  tx_tidy word h = (refl, tx_has word h)

  entry_tidy : (word : List ℕ) (id : ℕ) → IsWord word → P (unsigned id) → IsTidy P (entry_value word tx id)
  entry_tidy word id h p = (refl, (refl, p, tx_has word h))

  begin_tidy : (thread : List ℕ) → IsName thread → HasTidy P (begin_members [] tx thread None)
  begin_tidy thread h = (refl, refl, (refl, h.bytes, (refl, name.bytes, tt)))

-- The value of a step that has names and can be written is tidy, with whole numbers, if all objects have names.
pub whole_step : (catalog : Objects) (step : Step Op) → HasNames catalog → IsNamed step → IsWritable catalog step → IsTidy IsWhole (step_value catalog step)
whole_step catalog (Begin tx thread None) names n h = (refl, begin_tidy IsWhole tx n.0 thread n.1)
whole_step catalog (Begin tx thread (Some b)) names n h = (refl, (refl, whole_body catalog b names h, begin_tidy IsWhole tx n.0 thread n.1))
whole_step catalog (App tx id op) names n h =
    let name = named_at catalog op.object names (there catalog op h) in
    (refl, op_tidy IsWhole catalog id op (tx_members (codes "app") tx) name (whole_numbers id (call_of op.act) (recorded_by op.act)) (tx_has IsWhole tx n (codes "app") refl))
whole_step catalog (Unapp tx id) names n h = entry_tidy IsWhole tx n (codes "unapp") id refl tt
whole_step catalog (Push tx id) names n h = entry_tidy IsWhole tx n (codes "push") id refl tt
whole_step catalog (Unpush tx id) names n h = entry_tidy IsWhole tx n (codes "unpush") id refl tt
whole_step catalog (Pull tx id) names n h = entry_tidy IsWhole tx n (codes "pull") id refl tt
whole_step catalog (Unpull tx id) names n h = entry_tidy IsWhole tx n (codes "unpull") id refl tt
whole_step catalog (Cmt tx) names n h = tx_tidy IsWhole tx n (codes "cmt") refl
whole_step catalog (Quit tx) names n h = tx_tidy IsWhole tx n (codes "quit") refl
whole_step catalog (Note tx) names n h = tx_tidy IsWhole tx n (codes "note") refl

near_id : (id : ℕ) → id ≤ 999_999_999 → IsNear (unsigned id)
near_id id h = omega arith

-- The value of a step that can be stated is tidy, with numbers within 10^18, if all objects have names.
pub near_step : (catalog : Objects) (step : Step Op) → HasNames catalog → IsStatable catalog step → IsTidy IsNear (step_value catalog step)
near_step catalog (Begin tx thread None) names h = (refl, begin_tidy IsNear tx h.0 thread h.1)
near_step catalog (Begin tx thread (Some b)) names h = (refl, (refl, near_body catalog b names h.2.calls, begin_tidy IsNear tx h.0 thread h.1))
near_step catalog (App tx id op) names h =
    let name = named_at catalog op.object names (there catalog op h.2) in
    (refl, op_tidy IsNear catalog id op (tx_members (codes "app") tx) name (near_numbers id op.act h.1 h.2.1) (tx_has IsNear tx h.0 (codes "app") refl))
near_step catalog (Unapp tx id) names h = entry_tidy IsNear tx h.0 (codes "unapp") id refl (near_id id h.1)
near_step catalog (Push tx id) names h = entry_tidy IsNear tx h.0 (codes "push") id refl (near_id id h.1)
near_step catalog (Unpush tx id) names h = entry_tidy IsNear tx h.0 (codes "unpush") id refl (near_id id h.1)
near_step catalog (Pull tx id) names h = entry_tidy IsNear tx h.0 (codes "pull") id refl (near_id id h.1)
near_step catalog (Unpull tx id) names h = entry_tidy IsNear tx h.0 (codes "unpull") id refl (near_id id h.1)
near_step catalog (Cmt tx) names h = tx_tidy IsNear tx h (codes "cmt") refl
near_step catalog (Quit tx) names h = tx_tidy IsNear tx h (codes "quit") refl
near_step catalog (Note tx) names h = tx_tidy IsNear tx h (codes "note") refl

-- If the objects and the step have names, the value of a step that can be written has no floating-point number.
pub no_float : (catalog : Objects) (step : Step Op) → HasNames catalog → IsNamed step → IsWritable catalog step → has_float (step_value catalog step) ≡ false
no_float catalog step names n h = texts.no_float (step_value catalog step) (whole_step catalog step names n h)

-- If the objects and the step have names, the line of a step that can be written has no byte below 32.
pub one_line : (catalog : Objects) (step : Step Op) → HasNames catalog → IsNamed step → IsWritable catalog step → IsOneLine (step_bytes catalog step)
one_line catalog step names n h = one_line_text (step_value catalog step) (whole_step catalog step names n h)

-- ---- how deep and how long it is
pub answer_flat : (r : Answer) → depth (answer_value r) ≡ 0
answer_flat answers.None = refl
answer_flat (answers.Number n) = refl
answer_flat (answers.Truth t) = refl

-- The value of a step that can be stated is at most as deep as JSON may be.
pub shallow : (catalog : Objects) (step : Step Op) → IsStatable catalog step → depth (step_value catalog step) ≤ max_depth
shallow catalog (Begin tx thread None) h = omega arith
shallow catalog (Begin tx thread (Some b)) h = let small = h.2.small.1 in omega (arith, body_depth catalog b)
shallow catalog (App tx id op) h =
    let c = call_of op.act in
    let one = arguments_flat (arity_in op.act) (Some c.first) (Some c.second) (Some c.third) in
    let none = answer_flat (recorded_by op.act) in
    omega arith
shallow catalog (Unapp tx id) h = omega arith
shallow catalog (Push tx id) h = omega arith
shallow catalog (Unpush tx id) h = omega arith
shallow catalog (Pull tx id) h = omega arith
shallow catalog (Unpull tx id) h = omega arith
shallow catalog (Cmt tx) h = omega arith
shallow catalog (Quit tx) h = omega arith
shallow catalog (Note tx) h = omega arith

-- The value of a result has a width of at most 20.
pub answer_wide : (r : Answer) → width (answer_value r) ≤ 20
answer_wide answers.None = omega arith
answer_wide (answers.Number n) = omega arith
answer_wide (answers.Truth t) = omega arith

wide_step : (catalog : Objects) (step : Step Op) → HasNames catalog → IsStatable catalog step → width (step_value catalog step) ≤ most_bytes step
wide_step catalog (Begin tx thread None) names h = let few = h.0.few in let also = h.1.few in omega arith
wide_step catalog (Begin tx thread (Some b)) names h =
    let few = h.0.few in let also = h.1.few in let small = h.2.small.0 in
    omega (arith, body_short catalog b names (each_known catalog b h.2.calls) small)
wide_step catalog (App tx id op) names h =
    let name = named_at catalog op.object names (there catalog op h.2) in
    let few = h.0.few in let also = name.few in
    let c = call_of op.act in
    omega (arith, arguments_wide (arity_in op.act) (Some c.first) (Some c.second) (Some c.third), call_wide (kind_for op.act) c.method, answer_wide (recorded_by op.act))
wide_step catalog (Unapp tx id) names h = let few = h.0.few in omega arith
wide_step catalog (Push tx id) names h = let few = h.0.few in omega arith
wide_step catalog (Unpush tx id) names h = let few = h.0.few in omega arith
wide_step catalog (Pull tx id) names h = let few = h.0.few in omega arith
wide_step catalog (Unpull tx id) names h = let few = h.0.few in omega arith
wide_step catalog (Cmt tx) names h = let few = h.few in omega arith
wide_step catalog (Quit tx) names h = let few = h.few in omega arith
wide_step catalog (Note tx) names h = let few = h.few in omega arith

short : (catalog : Objects) (step : Step Op) → HasNames catalog → IsStatable catalog step → length (step_bytes catalog step) ≤ most_bytes step
short catalog step names h = omega (arith, short_text (step_value catalog step) (near_step catalog step names h), wide_step catalog step names h)

-- The line of a step that can be stated is at most as long as `most_bytes` says.
pub statable_short : (catalog : Objects) (step : Step Op) → IsCatalog catalog → IsStatable catalog step → length (step_bytes catalog step) ≤ most_bytes step
statable_short catalog step cat h = short catalog step cat.named h
