-- When an abort or a retry is good, and what it costs at most.
use Rattle.std.specs.Prelude.{◌≡◌, ◌+◌, ℕ, List, None, Some}
use Rattle.std.proofs.Common.{refl, subst, sym}
use Rattle.pp_core.specs.declared.entry.Item.{Item}
use Rattle.pp_model.specs.Names.{Name}
use Rattle.pp_kind.specs.Object.{Object, rules_of}
use Rattle.pp_summary.specs.Boosted.{PlacesSwap}
use Rattle.pp_summary.specs.Brief.{Brief}
use Rattle.pp_summary.specs.Held.{own_count, take_most}
use Rattle.pp_summary.specs.Moving.{IsGood, Moves}
use Rattle.pp_summary.specs.Shown.{KeepsQuick, Kept, open_in}
use Rattle.pp_summary.specs.Undoing.{undo_record}
use Rattle.pp_summary.specs.declared.parts.OpenTx.{OpenTx}
use Rattle.pp_summary.specs.declared.undo.Undoing.{Undoing}
use Rattle.pp_summary.specs.declared.undo.Undoing.TheVariants as ways
use Rattle.pp_summary.proofs.Judging.{it_is, not_open}

-- The most ticks of an abort or a retry are as many as the transaction has own operations.
pub undo_most : {Op : Type 0} (B : Brief Op) (how : Undoing) (t : Name) → take_most B (undo_record how t) ≡ own_count t B
undo_most B ways.Abort t = refl
undo_most B ways.Retry t = refl

module _ {Shape State Op Undo : Type 0} (o : Object Shape State Op Undo) (place : Op → ℕ) (apart : (shape : Shape) → PlacesSwap (rules_of o shape) place) (v : Kept Shape Op) (h : KeepsQuick o place v) (t : Name) where
  -- An abort or a retry record of an open transaction is good.
  pub undoes : (how : Undoing) (x : OpenTx (List (Item Op))) → open_in t v.slots.entries ≡ Some x → IsGood o place v (undo_record how t)
  undoes ways.Abort x found = it_is o place apart v h t x found (λ y. Unit {0}) tt
  undoes ways.Retry x found = it_is o place apart v h t x found (λ y. Unit {0}) tt

  -- An abort or a retry record of a transaction that is not open is not good.
  pub not_undone : (how : Undoing) → open_in t v.slots.entries ≡ None → IsGood o place v (undo_record how t) → ⊥
  not_undone ways.Abort none g = not_open o place apart v h t (λ y. Unit {0}) none g
  not_undone ways.Retry none g = not_open o place apart v h t (λ y. Unit {0}) none g

  -- If `how` is `which`, what is proved of the record of `which` is proved of the record of `how`.
  pub moves_from : (how which : Undoing) (p q : Kept Shape Op) → how ≡ which → p ≡ q → Moves o place v (undo_record which t) (record q { count = q.count + 1 }) → Moves o place v (undo_record how t) (record p { count = p.count + 1 })
  moves_from how which p q is same m =
      subst (λ (u : Undoing). Moves o place v (undo_record u t) (record p { count = p.count + 1 })) (sym is)
      (subst (λ (w : Kept Shape Op). Moves o place v (undo_record which t) (record w { count = w.count + 1 })) (sym same) m)
