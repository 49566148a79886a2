-- The entries that commute with an operation, one after another.
use Rattle.std.proofs.Common.{◌≡◌, ℕ, ◌+◌, List, length, sym, ◌∙◌, ap, subst, arith, inl, inr, Some}
use Rattle.std.specs.List.{slice_get}
use Rattle.std.proofs.lemmas.Bool.{cases_lt}
use Rattle.pp_core.specs.declared.entry.SharedEntry.{SharedEntry}
use Rattle.pp_model.specs.Names.{Name}
use Rattle.pp_kind.specs.Object.{Object}
use Rattle.pp_log.proofs.Lists.{in_at}
use Rattle.pp_log_shared.specs.Blocking.{GivesWay, AllGiveWay, AllGiveWayBelow}

-- one more entry
pub one_gives_way : {Shape State Op Undo : Type 0} (o : Object Shape State Op Undo) (owner : Name) (op : Op) (log : List (SharedEntry Op)) (k : ℕ) (e : SharedEntry Op) → AllGiveWayBelow o owner op log k → slice_get log k ≡ Some e → GivesWay o owner op e → AllGiveWayBelow o owner op log (k + 1)
one_gives_way {Shape} {State} {Op} o owner op log k e h at way j f lt is = elim (cases_lt j k) [
  | inl l ↦ h j f l is
  | inr l ↦ let same : k ≡ j = omega arith in
      let both : Some e ≡ Some f = sym at ∙ ap (λ (i : ℕ). slice_get log i) same ∙ is in
      let one : e ≡ f = cc in
      subst (λ (g : SharedEntry Op). GivesWay o owner op g) one way
]

-- all of them
pub all_give_way : {Shape State Op Undo : Type 0} (o : Object Shape State Op Undo) (owner : Name) (op : Op) (log : List (SharedEntry Op)) → AllGiveWayBelow o owner op log (length log) → AllGiveWay o owner op log
all_give_way o owner op log h e inside = let r = in_at log e inside in h r.0 e r.1 r.2
