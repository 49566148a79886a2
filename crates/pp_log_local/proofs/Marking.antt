-- To set the entry at a position is to mark the one with its id.
use Rattle.std.proofs.Common.{◌≡◌, ◌≢◌, ◌==◌, ℕ, zero, suc, Bool, cond, List, [], ◌∷◌, map, refl}
use Rattle.std.proofs.Common.{sym, ◌∙◌, ap, subst, inl, inr, Some}
use Rattle.std.specs.List.{slice_get, slice_set}
use Rattle.std.proofs.lemmas.Bool.{eq-eqb, ne_eqb}
use Rattle.pp_core.specs.declared.entry.LocalEntry.{LocalEntry}
use Rattle.pp_core.specs.declared.entry.Mark.{Mark}
use Rattle.pp_model.specs.Config.{item, set_mark}
use Rattle.pp_model.specs.Lists.{In}
use Rattle.pp_model.specs.Object.{HasDistinctIds}
use Rattle.pp_log.proofs.Lists.{pair}
use Rattle.pp_model.proofs.Lists.{in_map}
use Rattle.pp_model.proofs.Push.{marked_other, remark}
use Rattle.pp_model.proofs.Finding.{stands_in}

-- to mark the i-th entry is to mark the one with its id
pub set_is_marked : {Op : Type 0} (m : Mark) (x : List (LocalEntry Op)) (i : ℕ) (e : LocalEntry Op) → HasDistinctIds (map item x) → slice_get x i ≡ Some e → slice_set x i (record { id = e.id; owner = e.owner; mark = m; op = e.op }) ≡ set_mark e.id m x
set_is_marked m [] i e h at = cc
set_is_marked {Op} m (a ∷ x) zero e h at =
    let same : a ≡ e = cc in
    let P : LocalEntry Op → Type 0 = λ d. remark m e ∷ x ≡ cond (d.id == e.id) (remark m d) d ∷ set_mark e.id m x in
    let others : (d : LocalEntry Op) → In d x → d.id ≢ e.id = λ d k is. h (item a) (item d) (inl (refl, in_map item d x k)) (ap (λ (b : LocalEntry Op). b.id) same ∙ sym is) in
    subst P (sym same)
    (sym (ap (λ (b : Bool). cond b (remark m e) e ∷ set_mark e.id m x) (eq-eqb e.id e.id refl) ∙ ap (λ (z : List (LocalEntry Op)). remark m e ∷ z) (marked_other e.id m x others)))
set_is_marked {Op} m (a ∷ x) (suc i) e h at =
    let other = ne_eqb a.id e.id (h (item a) (item e) (inl (refl, in_map item e x (stands_in x i e at)))) in
    ap (λ (z : List (LocalEntry Op)). a ∷ z) (set_is_marked m x i e (λ b d k. h b d (inr k)) at)
    ∙ sym (ap (λ (b : Bool). cond b (remark m a) a ∷ set_mark e.id m x) other)

-- so a log in which the i-th entry was set is the marked log
pub seen_marked : {Shape Op : Type 0} (m : Mark) (i : ℕ) (log seen new : Shape × List (LocalEntry Op)) (d e : LocalEntry Op) → log ≡ seen → HasDistinctIds (map item log.1) → Some d ≡ slice_get log.1 i → slice_get seen.1 i ≡ Some e → new ≡ (log.0, slice_set log.1 i (record { id = d.id; owner = d.owner; mark = m; op = d.op })) → new ≡ (seen.0, set_mark e.id m seen.1)
seen_marked {Shape} {Op} m i log seen new d e is distinct at found set =
    let same : Some d ≡ Some e = at ∙ ap (λ (p : Shape × List (LocalEntry Op)). slice_get p.1 i) is ∙ found in
    let one : d ≡ e = cc in
    let P : Shape × List (LocalEntry Op) → Type 0 = λ p. new ≡ (p.0, set_mark e.id m p.1) in
    subst P is
    (set
    ∙ ap (λ (z : List (LocalEntry Op)). pair log.0 z) (set_is_marked m log.1 i d distinct (sym at))
    ∙ ap (λ (b : LocalEntry Op). pair log.0 (set_mark b.id m log.1)) one)

-- The entry at a position of a log is the entry there of an equal log.
pub seen_there : {Shape Op : Type 0} (log seen : Shape × List (LocalEntry Op)) (i : ℕ) (d : LocalEntry Op) → log ≡ seen → Some d ≡ slice_get log.1 i → slice_get seen.1 i ≡ Some d
seen_there {Shape} {Op} log seen i d is at = subst (λ (p : Shape × List (LocalEntry Op)). slice_get p.1 i ≡ Some d) is (sym at)
