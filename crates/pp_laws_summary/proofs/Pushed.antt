-- A log of which every own entry is pushed.
use Rattle.std.specs.Prelude.{◌≡◌, true, false, cond, List, [], ◌∷◌, map}
use Rattle.std.proofs.Common.{refl, sym, ap, ◌∙◌}
use Rattle.pp_model.specs.Object.{Item}
use Rattle.pp_model.specs.Config.{Mark, Unpushed, Pushed, Pulled, is_own, is_mark, LocalEntry, item, own_items, own}
use Rattle.pp_model.proofs.Push.{remark}
use Rattle.pp_laws_summary.specs.LocalLogs.{as_pushed}

-- an entry whose mark is m, pushed if it was not
pub as_pushed_at : {Op : Type 0} (e : LocalEntry Op) (m : Mark) → e.mark ≡ m → as_pushed e ≡ cond (is_mark m Unpushed) (remark Pushed e) e
as_pushed_at e m h = ap (λ (w : Mark). cond (is_mark w Unpushed) (remark Pushed e) e) h

-- The items of the own entries stay the same.
pub own_pushed : {Op : Type 0} (l : List (LocalEntry Op)) → own_items (map as_pushed l) ≡ own_items l
own_pushed [] = refl
own_pushed {Op} (e ∷ l) = by e.mark refl (own_pushed l)
  where
    by : (m : Mark) → e.mark ≡ m → own_items (map as_pushed l) ≡ own_items l → own_items (as_pushed e ∷ map as_pushed l) ≡ own_items (e ∷ l)
    by Unpushed h k = ap (λ (w : LocalEntry Op). own_items (w ∷ map as_pushed l)) (as_pushed_at e Unpushed h) ∙ ap (λ (w : List (Item Op)). item e ∷ w) k
        ∙ ap (λ (w : Mark). map item (cond (is_own w) (e ∷ own l) (own l))) (sym h)
    by Pushed h k = ap (λ (w : LocalEntry Op). own_items (w ∷ map as_pushed l)) (as_pushed_at e Pushed h)
        ∙ ap (λ (w : Mark). map item (cond (is_own w) (e ∷ own (map as_pushed l)) (own (map as_pushed l)))) h
        ∙ ap (λ (w : List (Item Op)). item e ∷ w) k
        ∙ ap (λ (w : Mark). map item (cond (is_own w) (e ∷ own l) (own l))) (sym h)
    by Pulled h k = ap (λ (w : LocalEntry Op). own_items (w ∷ map as_pushed l)) (as_pushed_at e Pulled h)
        ∙ ap (λ (w : Mark). map item (cond (is_own w) (e ∷ own (map as_pushed l)) (own (map as_pushed l)))) h
        ∙ k
        ∙ ap (λ (w : Mark). map item (cond (is_own w) (e ∷ own l) (own l))) (sym h)

-- an own entry is pushed then, and a pulled one was there
pub was_own : {Op : Type 0} (e : LocalEntry Op) (m : Mark) → e.mark ≡ m → is_own (as_pushed e).mark ≡ true → (as_pushed e).mark ≡ Pushed
was_own e Unpushed h k = ap (λ (w : LocalEntry _). w.mark) (as_pushed_at e Unpushed h)
was_own e Pushed h k = ap (λ (w : LocalEntry _). w.mark) (as_pushed_at e Pushed h) ∙ h
was_own e Pulled h k = absurd (let z : false ≡ true = sym (ap (λ (w : LocalEntry _). is_own w.mark) (as_pushed_at e Pulled h) ∙ ap is_own h) ∙ k in cc)

-- A pulled entry stays as it was.
pub was_pulled : {Op : Type 0} (e : LocalEntry Op) (m : Mark) → e.mark ≡ m → (as_pushed e).mark ≡ Pulled → (e.mark ≡ Pulled) × (as_pushed e ≡ e)
was_pulled e Unpushed h k = absurd (let z : Pushed ≡ Pulled = sym (ap (λ (w : LocalEntry _). w.mark) (as_pushed_at e Unpushed h)) ∙ k in cc)
was_pulled e Pushed h k = absurd (let z : Pushed ≡ Pulled = sym (ap (λ (w : LocalEntry _). w.mark) (as_pushed_at e Pushed h) ∙ h) ∙ k in cc)
was_pulled e Pulled h k = (h, as_pushed_at e Pulled h)
