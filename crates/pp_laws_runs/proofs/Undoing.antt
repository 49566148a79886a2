-- The steps that take entries out of a local log.
use Rattle.std.specs.Prelude.{◌≡◌, ◌≢◌, ℕ, suc, Bool, true, false, List, [], ◌∷◌, ◌++◌, drop}
use Rattle.std.specs.Prelude.{length, take, Option, Some}
use Rattle.std.proofs.Common.{refl, sym, ap, subst, ◌∙◌, append_assoc}
use Rattle.std.proofs.lemmas.List.{append-nil, map-append, take-append-drop}
use Rattle.std.proofs.Math.Seq.{drop-append_seam, take-append_seam}
use mathlib.Core.Logic.{inl, inr}
use Rattle.pp_core.specs.declared.call.Style.{Style}
use Rattle.pp_model.specs.Config.{Config, LocalEntry, Mark, Pulled, Pushed, SharedEntry, Tx}
use Rattle.pp_model.specs.Config.{Unapp, Unpull, Unpush, Unpushed, after_from, as_shared, at_mark, item}
use Rattle.pp_model.specs.Config.{is_own, last, local_ops, relog, set_mark, shared_ops, then}
use Rattle.pp_model.specs.Config.{tx, without_local, without_shared}
use Rattle.pp_model.specs.Lists.{Before, In}
use Rattle.pp_model.specs.Names.{Name}
use Rattle.pp_model.specs.Object.{Allowed, Object, Swaps}
use Rattle.pp_model.specs.Rules.{Breaks, IsLast}
use Rattle.pp_model.specs.Sound.{Sound, Stands, StandsBefore}
use Rattle.pp_model.proofs.Keeps.{run_keeps, step_keeps}
use Rattle.pp_model.proofs.Lists.{before_across, before_in_second, before_right, by_key, from_map, in_cases}
use Rattle.pp_model.proofs.Lists.{in_right, split_at}
use Rattle.pp_model.proofs.Logs.{before_own, found_tx}
use Rattle.pp_model.proofs.Names.{name_or_not}
use Rattle.pp_model.proofs.Serial.{allowed_front}
use Rattle.pp_records.specs.Expansions.{back, taken_at, taken_out}
use Rattle.pp_records.proofs.Taking.{back_law, tx_on}
use Rattle.pp_laws_runs.proofs.Logs.{LocalIds, SharedIds, after_it, last_end, mark_found}
use Rattle.pp_laws_runs.proofs.Logs.{marked, set_mark_at, without_it, without_shared_at}
use Rattle.pp_laws_runs.proofs.Numbers.{after_there, one_never, two_never}
use Rattle.pp_laws_runs.proofs.Only.{OnlyBreaks, only_append}

module _ {Op State : Type 0} (O : Object Op State) where
  -- an operation may be left out if it swaps with all later ones
  dropped : (X Y : List Op) (a : Op) → ((y : Op) → In y Y → Swaps O a y) → Allowed O (X ++ a ∷ Y) → Allowed O (X ++ Y)
  dropped X [] a swap h = subst (λ (l : List Op). Allowed O l) (sym (append-nil X)) (allowed_front O O.start X (a ∷ []) h)
  dropped X (y ∷ Y) a swap h =
      let turned : Allowed O (X ++ y ∷ a ∷ Y) = (swap y (inl refl)).always X Y h in
      subst (λ (l : List Op). Allowed O l) (append_assoc X (y ∷ []) Y)
      (dropped (X ++ y ∷ []) Y a (λ z i. swap z (inr i)) (subst (λ (l : List Op). Allowed O l) (sym (append_assoc X (y ∷ []) (a ∷ Y))) turned))

  -- ---- the last entry of a log

  module _ (c : Config Op) (t : Name) (x : Tx Op) (p : List (LocalEntry Op)) (e : LocalEntry Op) (s : Sound O c) (h : tx t c.opened ≡ Some x) (w : x.local ≡ p ++ e ∷ []) where
    there : In x c.opened
    there = (found_tx t c.opened x h).0

    ids : LocalIds (p ++ e ∷ [])
    ids = subst (λ (l : List (LocalEntry Op)). LocalIds l) w (s.local_ids x there)

    in_log : In e x.local
    in_log = subst (λ (l : List (LocalEntry Op)). In e l) (sym w) (in_right e p (e ∷ []) (inl refl))

    found_at : (m : Mark) → e.mark ≡ m → at_mark e.id m x.local ≡ Some e
    found_at m k = mark_found x.local e m (s.local_ids x there) in_log k

    -- An UNAPP of an unpushed last entry breaks no criterion.
    pub unapp_never : e.mark ≡ Unpushed → (n : ℕ) → Breaks O c (Unapp t e.id) (suc n) → ⊥
    unapp_never k n b =
        let a = after_there (tx t c.opened) _ x n h b in
        let is : last x.local ≡ Some e = ap (λ (l : List (LocalEntry Op)). last l) w ∙ last_end p e in
        one_never (IsLast e.id (last x.local)) a.0 (subst (λ (o : Option (LocalEntry Op)). IsLast e.id o) (sym is) (refl, k)) a.2

    -- An UNPULL of a pulled last entry breaks no criterion.
    pub unpull_never : e.mark ≡ Pulled → (n : ℕ) → Breaks O c (Unpull t e.id) (suc n) → ⊥
    unpull_never k n b =
        let a = after_there (tx t c.opened) _ x n h b in
        let f = after_there (at_mark e.id Pulled x.local) _ e a.0 (found_at Pulled k) a.2 in
        let left : without_local e.id x.local ≡ p = ap (λ (l : List (LocalEntry Op)). without_local e.id l) w ∙ without_it p [] e ids ∙ append-nil p in
        let whole : Allowed O (local_ops p ++ e.op ∷ []) = subst (λ (l : List Op). Allowed O l) (ap (λ (l : List (LocalEntry Op)). local_ops l) w ∙ map-append (λ (a : LocalEntry Op). a.op) p (e ∷ [])) (s.local_allowed x there) in
        one_never (Allowed O (local_ops (without_local e.id x.local))) f.0
        (subst (λ (l : List (LocalEntry Op)). Allowed O (local_ops l)) (sym left) (allowed_front O O.start (local_ops p) (e.op ∷ []) whole)) f.2

    -- the shared entry of the last entry, which is pushed, and the entries after it
    module _ (k : e.mark ≡ Pushed) where
      shared_one : SharedEntry Op
      shared_one = as_shared x.name false (item e)

      parts : (X Y : List (SharedEntry Op)) × (c.shared ≡ X ++ as_shared x.name false (item e) ∷ Y)
      parts = split_at (as_shared x.name false (item e)) c.shared (s.pushed_stand x there e in_log k)

      behind_in : (y : SharedEntry Op) → In y parts.1 → Before (as_shared x.name false (item e)) y c.shared
      behind_in y i = subst (λ (G : List (SharedEntry Op)). Before (as_shared x.name false (item e)) y G) (sym parts.2)
          (before_right (as_shared x.name false (item e)) y parts.0 (as_shared x.name false (item e) ∷ parts.1) (inl (refl, i)))

      own_swaps : (y : SharedEntry Op) → In y parts.1 → y.owner ≡ x.name → Swaps O e.op y.op
      own_swaps y i own = by y.committed refl
        where
          in_shared : In y c.shared
          in_shared = before_in_second (as_shared x.name false (item e)) y c.shared (behind_in y i)

          by : (b : Bool) → y.committed ≡ b → Swaps O e.op y.op
          by true z =
              let r = s.committed_from y in_shared z in
              absurd (s.apart x r.0 there r.1 (sym own ∙ ap (λ (v : SharedEntry Op). v.owner) r.4))
          by false z =
              let r = s.uncommitted_from y in_shared z in
              let same : r.0 ≡ x = by_key (λ (v : Tx Op). v.name) c.opened s.open_names r.0 x r.1 there (ap (λ (v : SharedEntry Op). v.owner) (sym r.5) ∙ own) in
              let f : LocalEntry Op = r.2 in
              let f_in : In f (p ++ e ∷ []) = subst (λ (l : List (LocalEntry Op)). In f l) w (subst (λ (v : Tx Op). In f v.local) same r.3) in
              let apart : e.id ≢ y.id = s.shared_ids (as_shared x.name false (item e)) y (behind_in y i) in
              let id_is : y.id ≡ f.id = ap (λ (v : SharedEntry Op). v.id) r.5 in
              let op_is : y.op ≡ f.op = ap (λ (v : SharedEntry Op). v.op) r.5 in
              let in_p : In f p = elim (in_cases f p (e ∷ []) f_in) [
                | inl j ↦ j
                | inr (inl j) ↦ absurd (apart (sym (id_is ∙ ap (λ (v : LocalEntry Op). v.id) j)))
                | inr (inr j) ↦ absurd j
              ] in
              let before : Before f e x.local = subst (λ (l : List (LocalEntry Op)). Before f e l) (sym w) (before_across f e p (e ∷ []) in_p (inl refl)) in
              let f_own : is_own f.mark ≡ true = ap is_own r.4 in
              let e_own : is_own e.mark ≡ true = ap is_own k in
              let stands : Stands e.id c.shared = (as_shared x.name false (item e), s.pushed_stand x there e in_log k, refl) in
              let turned : StandsBefore e.id f.id c.shared = (as_shared x.name false (item e), y, behind_in y i, refl, id_is) in
              subst (λ (o : Op). Swaps O e.op o) (sym op_is) (s.open_order x there (item f) (item e) (before_own x.local f e before f_own e_own) stands (inr turned))

      behind_swaps : (y : SharedEntry Op) → In y parts.1 → Swaps O e.op y.op
      behind_swaps y i = elim (name_or_not y.owner x.name) [
        | inl own ↦ own_swaps y i own
        | inr other ↦ s.uncommitted_swap (as_shared x.name false (item e)) y (behind_in y i) (λ z. other (sym z)) refl
      ]

      left_allowed : Allowed O (shared_ops (without_shared e.id c.shared))
      left_allowed =
          let g : SharedEntry Op = as_shared x.name false (item e) in
          let op_of = λ (v : SharedEntry Op). v.op in
          let left : without_shared e.id c.shared ≡ parts.0 ++ parts.1 =
          ap (λ (G : List (SharedEntry Op)). without_shared e.id G) parts.2 ∙ without_shared_at parts.0 parts.1 g (subst (λ (G : List (SharedEntry Op)). SharedIds G) parts.2 s.shared_ids) in
          let whole : Allowed O (shared_ops parts.0 ++ e.op ∷ shared_ops parts.1) =
          subst (λ (l : List Op). Allowed O l) (ap (λ (G : List (SharedEntry Op)). shared_ops G) parts.2 ∙ map-append op_of parts.0 (g ∷ parts.1)) s.shared_allowed in
          subst (λ (G : List (SharedEntry Op)). Allowed O (shared_ops G)) (sym left)
          (subst (λ (l : List Op). Allowed O l) (sym (map-append op_of parts.0 parts.1))
          (dropped (shared_ops parts.0) (shared_ops parts.1) e.op
          (λ o i. let m = from_map op_of o parts.1 i in subst (λ (z : Op). Swaps O e.op z) (sym m.2) (behind_swaps m.0 m.1)) whole))

      -- An UNPUSH of a pushed last entry breaks no criterion.
      pub unpush_never : (n : ℕ) → Breaks O c (Unpush t e.id) (suc n) → ⊥
      unpush_never n b =
          let a = after_there (tx t c.opened) _ x n h b in
          let f = after_there (at_mark e.id Pushed x.local) _ e a.0 (found_at Pushed k) a.2 in
          two_never _ (Allowed O (shared_ops (without_shared e.id c.shared))) f.0
          (λ d i m. absurd (after_it p [] e ids d (subst (λ (l : List (LocalEntry Op)). Before e d l) w i))) left_allowed f.2

  module _ (style : Style) where
    -- the steps that take out the last entry
    last_only : (c : Config Op) (t : Name) (x : Tx Op) (p : List (LocalEntry Op)) (e : LocalEntry Op) → Sound O c → tx t c.opened ≡ Some x → x.local ≡ p ++ e ∷ [] → OnlyBreaks O style c (taken_at t e.id e.mark)
    last_only c t x p e s h w =
        elim (e.mark) as (λ m. e.mark ≡ m → OnlyBreaks O style c (taken_at t e.id m)) [
          | Pulled ↦ λ k. ((λ n b. absurd (unpull_never c t x p e s h w k n b)), λ m. tt)
          | Unpushed ↦ λ k. ((λ n b. absurd (unapp_never c t x p e s h w k n b)), λ m. tt)
          | Pushed ↦ λ k. (
            (λ n b. absurd (unpush_never c t x p e s h w k n b)),
            λ m.
                let c2 : Config Op = then c (Unpush t e.id) in
                let f = set_mark e.id Unpushed in
                let w2 : f x.local ≡ p ++ marked Unpushed e ∷ [] = ap (λ (l : List (LocalEntry Op)). f l) w ∙ set_mark_at p [] e (ids c t x p e s h w) Unpushed in (
                  (λ n b. absurd (unapp_never c2 t (relog f x) p (marked Unpushed e) (step_keeps O c (Unpush t e.id) s m) (tx_on t f c.opened x h) w2 refl n b)),
                  λ m2. tt,
                ),
          )
        ] refl

    -- The steps that take entries from the end of a local log break only breakable criteria.
    pub taken_only : (t : Name) (l p : List (LocalEntry Op)) (c : Config Op) (x : Tx Op) → Sound O c → tx t c.opened ≡ Some x → x.local ≡ p ++ l → OnlyBreaks O style c (taken_out t l)
    taken_only t [] p c x s h w = tt
    taken_only t (e ∷ l) p c x s h w =
        let split : x.local ≡ (p ++ e ∷ []) ++ l = w ∙ sym (append_assoc p (e ∷ []) l) in
        only_append O style c (taken_out t l) (taken_at t e.id e.mark) (taken_only t l (p ++ e ∷ []) c x s h split)
        (λ r.
        let n : ℕ = length (p ++ e ∷ []) in
        let kept : take n x.local ≡ p ++ e ∷ [] = ap (λ (v : List (LocalEntry Op)). take n v) split ∙ take-append_seam (p ++ e ∷ []) l in
        let out : drop n x.local ≡ l = ap (λ (v : List (LocalEntry Op)). drop n v) split ∙ drop-append_seam (p ++ e ∷ []) l in
        let led : tx t (after_from c (taken_out t l)).opened ≡ Some (relog (λ v. take n v) x) =
        subst (λ (v : List (LocalEntry Op)). tx t (after_from c (taken_out t v)).opened ≡ Some (relog (λ v. take n v) x)) out (back_law O c t n x s h) in
        last_only (after_from c (taken_out t l)) t (relog (λ v. take n v) x) p e (run_keeps O (taken_out t l) c s r) led kept)

    -- The steps of `back` break only breakable criteria.
    pub back_only : (c : Config Op) (t : Name) (n : ℕ) (x : Tx Op) → Sound O c → tx t c.opened ≡ Some x → OnlyBreaks O style c (back t n x.local)
    back_only c t n x s h = taken_only t (drop n x.local) (take n x.local) c x s h (sym (take-append-drop n x.local))
