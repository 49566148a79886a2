-- The committed entries at the front of a log that changes.
use Rattle.std.proofs.Common.{◌≡◌, ℕ, ◌<◌, ◌≤◌, zero, suc, Bool, not, cond, ◌&&◌, List, [], ◌∷◌, ◌++◌}
use Rattle.std.proofs.Common.{length, drop, refl, sym, ◌∙◌, ap, subst, arith}
use Rattle.std.specs.List.{remove}
use Rattle.std.specs.Map.{lookup}
use Rattle.std.proofs.lemmas.List.{length_push}
use Rattle.std.proofs.lemmas.List.Edits.{length-remove}
use Rattle.pp_core.specs.declared.entry.SharedEntry.{SharedEntry}
use Rattle.pp_log.proofs.Lists.{before_stays, front_stays}
use Rattle.pp_log.proofs.Rest.{drop_none}
use Rattle.pp_kind.specs.declared.label.Label.{Label}
use Rattle.pp_kind.specs.declared.part.Part.{Part}
use Rattle.pp_kind.specs.Parts.{SampleList}
use Rattle.pp_kind.specs.Object.{Object}
use Rattle.pp_log_shared.specs.declared.open_parts.OpenPart.{OpenPart}
use Rattle.pp_log_shared.specs.Blocking.{IsSettled}
use Rattle.pp_log_shared.specs.Uncommitted.{KeepsOpen, TellsOf, open_in, same_part}

-- A settled front of a log is settled with one more entry.
pub settled_push : {Op : Type 0} (x : List (SharedEntry Op)) (e : SharedEntry Op) (k : ℕ) → IsSettled x k → IsSettled (x ++ e ∷ []) k
settled_push x e k h =
    let size = length_push x e in
    let within = h.within in
    record {
      within = omega arith;
      committed = λ j d lt at. h.committed j d lt (sym (front_stays x (e ∷ []) j (omega arith)) ∙ at);
    }

-- the front before an entry that is taken out
pub settled_remove : {Op : Type 0} (x : List (SharedEntry Op)) (k m i : ℕ) → m ≤ k → m ≤ i → i < length x → IsSettled x k → IsSettled (remove x i) m
settled_remove x k m i le before inside h =
    let size = length-remove x i inside in
    record { within = omega arith; committed = λ j d lt at. h.committed j d (omega arith) (sym (before_stays x i j (omega arith)) ∙ at) }

-- No uncommitted entry of a part is in the front.
open_behind : {Op : Type 0} (part_of : Op → Part) (p : Part) (x : List (SharedEntry Op)) (k : ℕ) → IsSettled x k → open_in part_of p (drop k x) ≡ open_in part_of p x
open_behind part_of p x zero h = ap (open_in part_of p) (drop_none x)
open_behind part_of p [] (suc k) h = refl
open_behind part_of p (e ∷ x) (suc k) h =
    let within = h.within in
    let rest : IsSettled x k = record { within = omega arith; committed = λ j d lt at. h.committed (suc j) d (omega arith) at } in
    open_behind part_of p x k rest
    ∙ sym (ap (λ (b : Bool). cond (not b && same_part (part_of e.op) p) (e ∷ open_in part_of p x) (open_in part_of p x)) (h.committed 0 e (omega arith) refl))

-- The known facts about the whole log are those about the entries after the front.
module _ {Shape State Op Undo : Type 0} (o : Object Shape State Op Undo) (label_of : Op → Label) (part_of : Op → Part) (slots : List (Part × OpenPart (SampleList Op))) (x : List (SharedEntry Op)) (k : ℕ) (h : IsSettled x k) where
  -- The facts about the uncommitted entries of a log are true of those after its settled front.
  pub known_behind : KeepsOpen o label_of part_of slots x → KeepsOpen o label_of part_of slots (drop k x)
  known_behind kept = record {
    told = λ p. subst (TellsOf o label_of (lookup (same_part p) slots)) (sym (open_behind part_of p x k h)) (kept.told p);
  }

  -- The facts about the uncommitted entries after a settled front are true of those of the log.
  pub known_of_all : KeepsOpen o label_of part_of slots (drop k x) → KeepsOpen o label_of part_of slots x
  known_of_all kept = record {
    told = λ p. subst (TellsOf o label_of (lookup (same_part p) slots)) (open_behind part_of p x k h) (kept.told p);
  }
