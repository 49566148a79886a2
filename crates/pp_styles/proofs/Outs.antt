-- Walks over a local log from its end.
use Rattle.std.proofs.Common.{◌≡◌, ℕ, suc, List, ◌++◌, take, drop, Some, ap, sym, ◌∙◌}
use Rattle.std.specs.List.{slice_get}
use Rattle.pp_core.specs.Steps.{Push, Unpull}
use Rattle.pp_core.specs.declared.entry.LocalEntry.{LocalEntry}
use Rattle.pp_model.specs.Config.{Unpushed, is_mark}
use Rattle.pp_model.specs.Names.{Name}
use Rattle.pp_records.specs.Expansions.{is_pulled_from, pushall, taken_at, taken_out, unpulls}
use Rattle.pp_styles.specs.Walking.{push_of, unpull_of}
use Rattle.pp_styles.proofs.Growing.{chosen-next, drop_there, turned-cons}

module _ {Op : Type 0} (t : Name) (l : List (LocalEntry Op)) (i next : ℕ) (is_next : next ≡ suc i) (e : LocalEntry Op) (here : slice_get l i ≡ Some e) where
  -- one entry more is taken out
  pub taken_more : taken_out t (drop i l) ≡ taken_out t (drop next l) ++ taken_at t e.id e.mark
  taken_more =
      ap (taken_out t) (drop_there l i e here) ∙ ap (λ (n : ℕ). taken_out t (drop n l) ++ taken_at t e.id e.mark) (sym is_next)

  -- one entry more is looked at from the end
  pub unpulled_more : (source : Name) → unpulls t source (drop i l) ≡ unpulls t source (drop next l) ++ unpull_of t source e
  unpulled_more source =
      turned-cons (λ (e : LocalEntry Op). Unpull t e.id) (is_pulled_from source) l i e here
      ∙ ap (λ (n : ℕ). unpulls t source (drop n l) ++ unpull_of t source e) (sym is_next)

  -- one entry more is pushed
  pub pushed_more : pushall t (take next l) ≡ pushall t (take i l) ++ push_of t e
  pushed_more =
      ap (λ (n : ℕ). pushall t (take n l)) is_next
      ∙ chosen-next (λ (e : LocalEntry Op). Push t e.id) (λ (e : LocalEntry Op). is_mark e.mark Unpushed) l i e here
