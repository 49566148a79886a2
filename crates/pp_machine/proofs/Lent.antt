-- The parts of a machine as its box lends them, and what judging by them says of the machine.
use Rattle.std.proofs.Common.{◌≡◌, List, Some, ap, option_map, subst, sym, ◌∙◌}
use Rattle.pp_core.specs.declared.entry.LocalEntry.{LocalEntry}
use Rattle.pp_model.specs.Names.{Name}
use Rattle.pp_kind.specs.Object.{Object}
use Rattle.pp_machine.specs.Courses.{Guided}
use Rattle.pp_machine.specs.Machines.{Holds, Seen, config_of}
use Rattle.pp_machine.specs.Sites.{HoldsLocal, Rest, seen_with}
use Rattle.pp_machine.specs.Transactions.{course_of, open_at}
use Rattle.pp_machine.specs.declared.machine.Parts.{Parts}
use Rattle.pp_machine.proofs.Opened.{holds_local, rest}

module _ {S Shape State Op Undo Gap : Type 0} where
  -- The seen machine with these parts.
  abbrev pub seen_of : Parts S Shape State Op Undo Gap → Seen Shape Op
  seen_of p = record { shape = p.shape; config = config_of p.transactions p.ids p.shared.1 p.committed; count = p.count }

  -- The invariant of the parts in the box is true for the lent parts.
  pub lent_holds : (o : Object Shape State Op Undo) {p q : Parts S Shape State Op Undo Gap} → q ≡ p → Holds o p.shape p.transactions p.ids p.shared p.committed p.count → Holds o q.shape q.transactions q.ids q.shared q.committed q.count
  lent_holds o is h = subst (λ (p : Parts S Shape State Op Undo Gap). Holds o p.shape p.transactions p.ids p.shared p.committed p.count) (sym is) h

  -- so is what is seen of them
  pub lent_view : {p q : Parts S Shape State Op Undo Gap} {v : Seen Shape Op} → q ≡ p → seen_of p ≡ v → seen_of q ≡ v
  lent_view is e = ap seen_of is ∙ e

  module _ (o : Object Shape State Op Undo) (q : Parts S Shape State Op Undo Gap) {w : Seen Shape Op} (same : seen_of q ≡ w)
      (h : Holds o q.shape q.transactions q.ids q.shared q.committed q.count) (t : Name) (k : Guided Shape Op)
      (is_open : Some k ≡ option_map course_of (open_at t q.transactions.opened)) (P : Seen Shape Op → Type 0) where
    -- A fact about each machine with this local log is a fact about this machine.
    pub by_local : (l : Shape × List (LocalEntry Op)) → l ≡ k.local → ((m : Rest Shape Op) → HoldsLocal o m q.shared t l → P (seen_with m q.shared)) → P w
    by_local l is f =
        subst P same
        (f (rest o q.shape q.transactions q.ids q.shared q.committed q.count h)
        (holds_local o q.shape q.transactions q.ids q.shared q.committed q.count h t k is_open l is))
