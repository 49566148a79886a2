-- Proof machinery: what is known of the uncommitted entries of a log, part by part.
use Rattle.std.specs.Prelude.{◌≡◌, ◌≢◌, ℕ, Bool, true, false, not, nat_eq, ◌&&◌, List, []}
use Rattle.std.specs.Prelude.{◌∷◌, ◌++◌, Option, None, Some, filter, length, map}
use Rattle.std.specs.Ordering.{int_eq}
use Rattle.std.specs.Map.{lookup}
use Rattle.pp_core.specs.declared.entry.SharedEntry.{SharedEntry}
use Rattle.pp_model.specs.Config.{commit_all, shared_item}
use Rattle.pp_model.specs.Lists.{In}
use Rattle.pp_model.specs.Names.{Name}
use Rattle.pp_kind.specs.declared.label.Label.{Label}
use Rattle.pp_kind.specs.declared.part.Part.{Part}
use Rattle.pp_kind.specs.Parts.{Covers, SampleList}
use Rattle.pp_kind.specs.Object.{Object}
use Rattle.pp_log_shared.specs.declared.open_parts.OpenPart.{OpenPart}
use Rattle.pp_log_shared.specs.Blocking.{IsSettled}
use Rattle.pp_log_shared.specs.Numbers.{CountsAllOf}

-- The parts are the same.
abbrev pub same_part : Part → Part → Bool
same_part p q = nat_eq p.object q.object && int_eq p.key q.key

-- The entry is uncommitted and of this part.
abbrev pub is_open_in : {Op : Type 0} → (Op → Part) → Part → SharedEntry Op → Bool
is_open_in part_of p e = not e.committed && same_part (part_of e.op) p

-- The uncommitted entries of a part.
abbrev pub open_in : {Op : Type 0} → (Op → Part) → Part → List (SharedEntry Op) →
    List (SharedEntry Op)
open_in part_of p log = filter (is_open_in part_of p) log

-- The known facts about a part are true for these entries.
pub record Tells {Shape State Op Undo : Type 0} (o : Object Shape State Op Undo)
    (label_of : Op → Label) (slot : OpenPart (SampleList Op)) (x : List (SharedEntry Op)) :
    Type 0 where
  pub count : slot.count ≡ length x
  pub alone : slot.alone ≡ true → (e : SharedEntry Op) → In e x → e.owner ≡ slot.owner
  pub covers : (e : SharedEntry Op) → In e x → Covers o slot.samples e.op
  pub numbers : CountsAllOf label_of slot.numbers x

-- If nothing is known about a part, there are no entries.
abbrev pub TellsOf : {Shape State Op Undo : Type 0} → Object Shape State Op Undo → (Op → Label) →
    Option (OpenPart (SampleList Op)) → List (SharedEntry Op) → Type 0
TellsOf o label_of None x = x ≡ []
TellsOf o label_of (Some slot) x = Tells o label_of slot x

-- The known facts about each part are true for the uncommitted entries of a log.
pub record KeepsOpen {Shape State Op Undo : Type 0} (o : Object Shape State Op Undo)
    (label_of : Op → Label) (part_of : Op → Part)
    (slots : List (Part × OpenPart (SampleList Op))) (log : List (SharedEntry Op)) : Type 0 where
  pub told : (p : Part) → TellsOf o label_of (lookup (same_part p) slots) (open_in part_of p log)

-- The second list is the first without this entry.
abbrev pub LosesOne : {E : Type 0} → E → List E → List E → Type 0
LosesOne {E} e x y = (u : List E) × (v : List E) × (x ≡ u ++ e ∷ v) × (y ≡ u ++ v)

-- The second list is the first one without the entry, if the entry was counted; otherwise the lists
-- are the same.
abbrev pub LosesAt : {E : Type 0} → E → Bool → List E → List E → Type 0
LosesAt e true x y = LosesOne e x y
LosesAt e false x y = y ≡ x

-- At each part the second log has the uncommitted entries of the first without this one.
abbrev pub LeavesOut : {Op : Type 0} → (Op → Part) → SharedEntry Op → List (SharedEntry Op) →
    List (SharedEntry Op) → Type 0
LeavesOut part_of e x y =
    (p : Part) → LosesAt e (is_open_in part_of p e) (open_in part_of p x) (open_in part_of p y)

-- What the shared log keeps in addition to its entries.
pub record KeepsShared {Shape State Op Undo : Type 0} (o : Object Shape State Op Undo)
    (label_of : Op → Label) (part_of : Op → Part) (log : List (SharedEntry Op))
    (slots : List (Part × OpenPart (SampleList Op))) (settled : ℕ) : Type 0 where
  pub settles : IsSettled log settled
  pub opens : KeepsOpen o label_of part_of slots log

-- The entry with this id is committed if it is an uncommitted one of the owner. All others stay as
-- they were.
pub record CommitsOne {Shape Op : Type 0} (owner : Name) (id : ℕ)
    (old new : Shape × List (SharedEntry Op)) : Type 0 where
  pub shape : new.0 ≡ old.0
  pub items : map shared_item new.1 ≡ map shared_item old.1
  pub end : commit_all owner new.1 ≡ commit_all owner old.1
  pub left : (e : SharedEntry Op) → In e new.1 → e.committed ≡ false → e.owner ≡ owner →
      In e old.1 × (id ≢ e.id)
