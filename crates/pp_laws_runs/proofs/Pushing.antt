-- The steps that push all unpushed entries.
use Rattle.std.specs.Prelude.{◌≡◌, ◌≢◌, ℕ, suc, false, cond, List, [], ◌∷◌, ◌++◌, filter, map, Option, Some}
use Rattle.std.proofs.Common.{refl, sym, ap, subst, ◌∙◌, append_assoc}
use mathlib.Core.Logic.{inl, inr}
use Rattle.pp_core.specs.declared.call.Style.{Style}
use Rattle.pp_core.specs.declared.call.Style.TheVariants as styles
use Rattle.pp_core.specs.declared.step.Rule.TheVariants as rules
use Rattle.pp_model.specs.Config.{Config, LocalEntry, Pulled, Push, Pushed, SharedEntry, Tx, Unpushed}
use Rattle.pp_model.specs.Config.{as_shared, item}
use Rattle.pp_model.specs.Config.{at_mark, entry_of, is_mark, push_effect, relog, set_mark, then, tx}
use Rattle.pp_model.specs.Lists.{In}
use Rattle.pp_model.specs.Names.{Name}
use Rattle.pp_model.specs.Object.{Object, Swaps}
use Rattle.pp_model.specs.Rules.{Breaks}
use Rattle.pp_model.specs.Sound.{Sound}
use Rattle.pp_model.proofs.Keeps.{step_keeps}
use Rattle.pp_model.proofs.Lists.{in_cases, in_right}
use Rattle.pp_model.proofs.Logs.{found_tx}
use Rattle.pp_records.specs.Expansions.{pushall}
use Rattle.pp_records.proofs.Taking.{tx_on}
use Rattle.pp_laws_runs.proofs.Logs.{LocalIds, mark_found, marked, set_mark_at}
use Rattle.pp_laws_runs.proofs.Only.{OnlyBreaks}
use Rattle.pp_laws_runs.proofs.Pulling.{OnlyOwnOpen, push_breaks, push_breaks_last}
use Rattle.pp_laws_runs.specs.Breakable.{breakable}

-- none of these is unpushed
abbrev pub NoneUnpushed : {Op : Type 0} → List (LocalEntry Op) → Type 0
NoneUnpushed {Op} l = (a : LocalEntry Op) → In a l → a.mark ≢ Unpushed

-- A log with no unpushed entry has none with one more that is not unpushed.
pub one_more_pushed : {Op : Type 0} (l : List (LocalEntry Op)) (e : LocalEntry Op) → NoneUnpushed l → e.mark ≢ Unpushed → NoneUnpushed (l ++ e ∷ [])
one_more_pushed {Op} l e none n a i = elim (in_cases a l (e ∷ []) i) [
  | inl j ↦ none a j
  | inr (inl j) ↦ λ z. n (ap (λ (w : LocalEntry Op). w.mark) (sym j) ∙ z)
  | inr (inr j) ↦ absurd j
]

module _ {Op State : Type 0} (O : Object Op State) (style : Style) where
  -- in style optimistic, each uncommitted entry of the shared log is of this transaction
  abbrev pub OwnIfOptimistic : Name → Config Op → Type 0
  OwnIfOptimistic t c = style ≡ styles.Optimistic → OnlyOwnOpen t c

  push_listed : style ≢ styles.Rules → (c : Config Op) (t : Name) (x : Tx Op) (p q : List (LocalEntry Op)) (e : LocalEntry Op) → Sound O c → tx t c.opened ≡ Some x → x.local ≡ p ++ e ∷ q → e.mark ≡ Unpushed →
      NoneUnpushed p → OwnIfOptimistic t c → (n : ℕ) → Breaks O c (Push t e.id) (suc n) → In (suc n) (breakable rules.Push style)
  push_listed recorded c t x p q e s h w k none own n b = by style recorded own
    where
      swap : (a : LocalEntry Op) → In a p → a.mark ≡ Unpushed → Swaps O e.op a.op
      swap a i m = absurd (none a i m)

      by : (s : Style) → s ≢ styles.Rules → (s ≡ styles.Optimistic → OnlyOwnOpen t c) → In (suc n) (breakable rules.Push s)
      by styles.Rules r o = absurd (r refl)
      by styles.Boosted r o = push_breaks O style recorded c t x p q e s h w k swap n b
      by styles.Optimistic r o = push_breaks_last O style recorded c t x p q e s h w k swap (o refl) n b
      by styles.Hardware r o = push_breaks O style recorded c t x p q e s h w k swap n b
      by styles.Dependent r o = push_breaks O style recorded c t x p q e s h w k swap n b

  own_pushed : (c : Config Op) (t : Name) (e : LocalEntry Op) → OwnIfOptimistic t c → OwnIfOptimistic t (push_effect c t e.id (Some e))
  own_pushed c t e own z u i k = elim (in_cases u c.shared (as_shared t false (item e) ∷ []) i) [
    | inl j ↦ own z u j k
    | inr (inl j) ↦ ap (λ (w : SharedEntry Op). w.owner) j
    | inr (inr j) ↦ absurd j
  ]

  -- the pushes of the second part of a log, if the first part has no unpushed entry
  rest_only : style ≢ styles.Rules → (t : Name) (q p : List (LocalEntry Op)) (c : Config Op) (x : Tx Op) → OwnIfOptimistic t c → Sound O c → tx t c.opened ≡ Some x → x.local ≡ p ++ q → NoneUnpushed p →
      OnlyBreaks O style c (pushall t q)
  rest_only recorded t [] p c x own s h w none = tt
  rest_only recorded t (e ∷ q) p c x own s h w none =
      let more : List (LocalEntry Op) = filter (λ (a : LocalEntry Op). is_mark a.mark Unpushed) q in
      let split : x.local ≡ (p ++ e ∷ []) ++ q = w ∙ sym (append_assoc p (e ∷ []) q) in
      elim (e.mark) as (λ m. e.mark ≡ m → OnlyBreaks O style c (map (λ a. Push t a.id) (cond (is_mark m Unpushed) (e ∷ more) more))) [
        | Pulled ↦ λ k. rest_only recorded t q (p ++ e ∷ []) c x own s h split (one_more_pushed p e none (λ z. let bad : Pulled ≡ Unpushed = sym k ∙ z in cc))
        | Pushed ↦ λ k. rest_only recorded t q (p ++ e ∷ []) c x own s h split (one_more_pushed p e none (λ z. let bad : Pushed ≡ Unpushed = sym k ∙ z in cc))
        | Unpushed ↦ λ k. (
          push_listed recorded c t x p q e s h w k none own,
          λ m.
              let ids : LocalIds (p ++ e ∷ q) = subst (λ (l : List (LocalEntry Op)). LocalIds l) w (s.local_ids x (found_tx t c.opened x h).0) in
              let at : at_mark e.id Unpushed x.local ≡ Some e = ap (λ (l : List (LocalEntry Op)). at_mark e.id Unpushed l) w ∙ mark_found (p ++ e ∷ q) e Unpushed ids (in_right e p (e ∷ q) (inl refl)) k in
              let found : entry_of e.id Unpushed (tx t c.opened) ≡ Some e = ap (λ (o : Option (Tx Op)). entry_of e.id Unpushed o) h ∙ at in
              let c2 : Config Op = push_effect c t e.id (Some e) in
              let to : then c (Push t e.id) ≡ c2 = ap (λ (o : Option (LocalEntry Op)). push_effect c t e.id o) found in
              let s2 : Sound O c2 = subst (λ (d : Config Op). Sound O d) to (step_keeps O c (Push t e.id) s m) in
              let pushed : LocalEntry Op = marked Pushed e in
              let w2 : set_mark e.id Pushed x.local ≡ (p ++ pushed ∷ []) ++ q =
              ap (λ (l : List (LocalEntry Op)). set_mark e.id Pushed l) w ∙ set_mark_at p q e ids Pushed ∙ sym (append_assoc p (pushed ∷ []) q) in
              let next : OnlyBreaks O style c2 (map (λ a. Push t a.id) more) =
              rest_only recorded t q (p ++ pushed ∷ []) c2 (relog (set_mark e.id Pushed) x) (own_pushed c t e own) s2 (tx_on t (set_mark e.id Pushed) c.opened x h) w2 (one_more_pushed p pushed none (λ z. let bad : Pushed ≡ Unpushed = z in cc)) in
              subst (λ (d : Config Op). OnlyBreaks O style d (map (λ a. Push t a.id) more)) (sym to) next,
        )
      ] refl

  -- The steps of a pushall break only breakable criteria.
  pub pushall_only : style ≢ styles.Rules → (c : Config Op) (t : Name) (x : Tx Op) → OwnIfOptimistic t c → Sound O c → tx t c.opened ≡ Some x → OnlyBreaks O style c (pushall t x.local)
  pushall_only recorded c t x own s h = rest_only recorded t x.local [] c x own s h refl (λ a i. absurd i)
