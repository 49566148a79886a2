-- The first steps of a run commit the first of its committed transactions.
use Rattle.std.specs.Prelude.{◌≡◌, ℕ, List, [], ◌∷◌, ◌++◌, map, Option, None, Some}
use Rattle.std.proofs.Common.{refl, sym, ap, ◌∙◌, append_assoc}
use Rattle.std.proofs.lemmas.List.{append-nil}
use Rattle.pp_model.specs.Config.{App, Begin, Cmt, CommittedTx, Config, LocalEntry, Note, Pull, Push}
use Rattle.pp_model.specs.Config.{Quit, SharedEntry, Start, Step, Tx, Unapp, Unpull, Unpush, Unpushed}
use Rattle.pp_model.specs.Config.{after, after_from, commit_effect, entry_of, first, of_other}
use Rattle.pp_model.specs.Config.{own_items, pull_effect, push_effect, then, tx}
use Rattle.pp_model.specs.Names.{Name}
use Rattle.pp_model.specs.Object.{Object}
use Rattle.pp_model.specs.Rules.{RunsFrom, StartMeets}
use Rattle.pp_model.specs.Serial.{attempts, committed_tx}
use Rattle.pp_model.proofs.Simulate.{finished_are}
use Rattle.pp_records.proofs.Ends.{after_append, runs_front}
use Rattle.pp_laws_runs.specs.Prefixes.{Begins}

same_begins : {A : Type 0} (xs ys : List A) → ys ≡ xs → Begins xs ys
same_begins xs ys same = ([], same ∙ sym (append-nil xs))

module _ {Op : Type 0} (c : Config Op) where
  pushed : (t : Name) (id : ℕ) (o : Option (LocalEntry Op)) → Begins c.done (push_effect c t id o).done
  pushed t id None = same_begins c.done c.done refl
  pushed t id (Some e) = same_begins c.done c.done refl

  pulled : (t : Name) (id : ℕ) (o : Option (SharedEntry Op)) → Begins c.done (pull_effect c t id o).done
  pulled t id None = same_begins c.done c.done refl
  pulled t id (Some g) = same_begins c.done c.done refl

  committed : (t : Name) (o : Option (Tx Op)) → Begins c.done (commit_effect c t o).done
  committed t None = same_begins c.done c.done refl
  committed t (Some x) =
      let one : CommittedTx Op = record { name = t; entries = own_items x.local } in
      (one ∷ [], refl)

  done_then : (s : Step Op) → Begins c.done (then c s).done
  done_then (Begin t p b) = same_begins c.done c.done refl
  done_then (App t id op) = same_begins c.done c.done refl
  done_then (Unapp t id) = same_begins c.done c.done refl
  done_then (Push t id) = pushed t id (entry_of id Unpushed (tx t c.opened))
  done_then (Unpush t id) = same_begins c.done c.done refl
  done_then (Pull t id) = pulled t id (of_other t id c.shared)
  done_then (Unpull t id) = same_begins c.done c.done refl
  done_then (Cmt t) = committed t (tx t c.opened)
  done_then (Quit t) = same_begins c.done c.done refl
  done_then (Note t) = same_begins c.done c.done refl

done_more : {Op : Type 0} (c : Config Op) (ss : List (Step Op)) → Begins c.done (after_from c ss).done
done_more c [] = same_begins c.done c.done refl
done_more {Op} c (s ∷ ss) =
    let one = done_then c s in
    let more = done_more (then c s) ss in
    (one.0 ++ more.0, more.1 ∙ ap (λ (l : List (CommittedTx Op)). l ++ more.0) one.1 ∙ append_assoc c.done one.0 more.0)

-- The transactions that the first steps commit are the first that all steps commit.
pub committed_more : {Op State : Type 0} (O : Object Op State) (h : Option (Start Op)) (xs ys : List (Step Op)) → StartMeets O h → RunsFrom O (first h) (xs ++ ys) →
    Begins (map committed_tx (attempts h xs)) (map committed_tx (attempts h (xs ++ ys)))
committed_more {Op} O h xs ys begun runs =
    let more = done_more (after h xs) ys in (
      more.0,
      sym (finished_are O h (xs ++ ys) begun runs) ∙ ap (λ (c : Config Op). c.done) (after_append (first h) xs ys) ∙ more.1
          ∙ ap (λ (l : List (CommittedTx Op)). l ++ more.0) (finished_are O h xs begun (runs_front O (first h) xs ys runs)),
    )
