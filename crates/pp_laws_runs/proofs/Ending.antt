-- The steps that end a transaction, and those that give up a source.
use Rattle.std.specs.Prelude.{◌≡◌, ◌≢◌, ◌⊎◌, ◌==◌, ℕ, suc, true, not, List, [], ◌∷◌, ◌++◌, filter}
use Rattle.std.specs.Prelude.{map, reverse, take, Some}
use Rattle.std.proofs.Common.{refl, sym, subst, arith}
use Rattle.std.proofs.lemmas.Bool.{and_parts}
use mathlib.Core.List.{reverse-cons}
use mathlib.Core.Logic.{inl, inr}
use Rattle.pp_core.specs.declared.call.Style.{Style}
use Rattle.pp_core.specs.declared.call.Style.TheVariants as styles
use Rattle.pp_core.specs.declared.step.Rule.TheVariants as rules
use Rattle.pp_model.specs.Config.{Cmt, Config, LocalEntry, Mark, Pulled, Pushed, Quit, SharedEntry}
use Rattle.pp_model.specs.Config.{Step, Tx, Unpull, Unpushed, after_from, at_mark, is_mark, is_own}
use Rattle.pp_model.specs.Config.{relog, tx, without_local}
use Rattle.pp_model.specs.Lists.{Before, In}
use Rattle.pp_model.specs.Names.{Name, ◌=ⁿ◌}
use Rattle.pp_model.specs.Object.{Object}
use Rattle.pp_model.specs.Rules.{Breaks}
use Rattle.pp_model.specs.Sound.{Sound}
use Rattle.pp_model.proofs.Finding.{from_reverse}
use Rattle.pp_model.proofs.Lists.{before_cases, before_from_filter, from_filter, in_filter}
use Rattle.pp_model.proofs.Logs.{eqb_not, found_tx, is_mark-true}
use Rattle.pp_records.specs.Expansions.{back, is_pulled_from, unpulls}
use Rattle.pp_records.proofs.Taking.{back_law, tx_on}
use Rattle.pp_laws_runs.specs.Breakable.{breakable}
use Rattle.pp_laws_runs.proofs.Logs.{LocalIds, mark_found}
use Rattle.pp_laws_runs.proofs.Numbers.{after_there, of_one, one_never, second_holds, two_hold}
use Rattle.pp_laws_runs.proofs.Only.{OnlyBreaks, only_append}
use Rattle.pp_laws_runs.proofs.Pushing.{NoneUnpushed}
use Rattle.pp_laws_runs.proofs.Undoing.{back_only}

-- each pulled entry of the log is committed in the shared log
abbrev pub PulledStand : {Op : Type 0} → Config Op → List (LocalEntry Op) → Type 0
PulledStand {Op} c l = (e : LocalEntry Op) → In e l → e.mark ≡ Pulled → (g : SharedEntry Op) × In g c.shared × (g.id ≡ e.id) × (g.committed ≡ true)

pushed_of : (m : Mark) → is_own m ≡ true → m ≢ Unpushed → m ≡ Pushed
pushed_of Unpushed own n = absurd (n refl)
pushed_of Pushed own n = refl
pushed_of Pulled own n = absurd (cc)

before_from_reverse : {A : Type 0} (a b : A) (l : List A) → Before a b (reverse l) → Before b a l
before_from_reverse a b [] h = absurd h
before_from_reverse {A} a b (y ∷ l) h = elim (before_cases a b (reverse l) (y ∷ []) (subst (λ (w : List A). Before a b w) (reverse-cons y l) h)) [
  | inl k ↦ inr (before_from_reverse a b l k)
  | inr (inl (inl k)) ↦ absurd k.1
  | inr (inl (inr k)) ↦ absurd k
  | inr (inr (i, inl e)) ↦ inl (e, from_reverse a l i)
  | inr (inr (i, inr k)) ↦ absurd k
]

module _ {Op State : Type 0} (O : Object Op State) where
  -- ---- a commit

  module _ (c : Config Op) (t : Name) (x : Tx Op) (h : tx t c.opened ≡ Some x) (none : NoneUnpushed x.local) where
    all_pushed : (e : LocalEntry Op) → In e x.local → is_own e.mark ≡ true → e.mark ≡ Pushed
    all_pushed e i own = pushed_of e.mark own (none e i)

    cmt_settled : PulledStand c x.local → (n : ℕ) → Breaks O c (Cmt t) (suc n) → In (suc n) (1 ∷ 2 ∷ [])
    cmt_settled stand n b =
        let a = after_there (tx t c.opened) _ x n h b in
        let z : a.0 ≡ 0 = two_hold _ _ _ a.0 all_pushed stand a.2 in
        let e : n ≡ suc a.0 = a.1 in
        inr (inl (omega (arith, e, z)))

    cmt_dependent : (n : ℕ) → Breaks O c (Cmt t) (suc n) → In (suc n) (1 ∷ 2 ∷ 4 ∷ [])
    cmt_dependent n b =
        let a = after_there (tx t c.opened) _ x n h b in
        by a.0 a.1 (second_holds _ _ _ a.0 all_pushed a.2)
      where
        by : (k : ℕ) → n ≡ suc k → (k ≡ 0) ⊎ (k ≡ 2) → In (suc n) (1 ∷ 2 ∷ 4 ∷ [])
        by k e (inl z) = inr (inl (omega (arith, e, z)))
        by k e (inr z) = inr (inr (inl (omega (arith, e, z))))

    cmt_listed : (style : Style) → style ≢ styles.Rules → (style ≢ styles.Dependent → PulledStand c x.local) → (n : ℕ) → Breaks O c (Cmt t) (suc n) → In (suc n) (breakable rules.Cmt style)
    cmt_listed styles.Rules recorded stand n b = absurd (recorded refl)
    cmt_listed styles.Boosted recorded stand n b = cmt_settled (stand (λ e. cc)) n b
    cmt_listed styles.Optimistic recorded stand n b = cmt_settled (stand (λ e. cc)) n b
    cmt_listed styles.Hardware recorded stand n b = cmt_settled (stand (λ e. cc)) n b
    cmt_listed styles.Dependent recorded stand n b = cmt_dependent n b

    -- A CMT of a transaction with no unpushed entry breaks only breakable criteria.
    pub cmt_only : (style : Style) → style ≢ styles.Rules → (style ≢ styles.Dependent → PulledStand c x.local) → OnlyBreaks O style c (Cmt t ∷ [])
    cmt_only style recorded stand = (cmt_listed style recorded stand, λ m. tt)

  -- ---- an abort

  -- The steps of an abort break only breakable criteria.
  pub abort_only : (style : Style) (c : Config Op) (t : Name) (x : Tx Op) → Sound O c → tx t c.opened ≡ Some x → OnlyBreaks O style c (back t 0 x.local ++ Quit t ∷ [])
  abort_only style c t x s h =
      let steps : List (Step Op) = back t 0 x.local in
      let left : Tx Op = relog (λ l. take 0 l) x in
      only_append O style c steps (Quit t ∷ []) (back_only O style c t 0 x s h)
      (λ r. (
        (λ n b. absurd (
            let a = after_there (tx t (after_from c steps).opened) _ left n (back_law O c t 0 x s h) b in
            one_never _ a.0 refl a.2)),
        λ m. tt,
      ))

  -- ---- a source given up

  third : (n a k : ℕ) → n ≡ suc a → a ≡ suc k → k ≡ 0 → In (suc n) (3 ∷ [])
  third n a k e f z = inl (omega (arith, e, f, z))

  each_unpull_only : (t : Name) (es : List (LocalEntry Op)) (c : Config Op) (x : Tx Op) → tx t c.opened ≡ Some x → LocalIds x.local → ((e : LocalEntry Op) → In e es → In e x.local × (e.mark ≡ Pulled)) → LocalIds es →
      OnlyBreaks O styles.Dependent c (map (λ e. Unpull t e.id) es)
  each_unpull_only t [] c x h ids among d = tt
  each_unpull_only t (e ∷ es) c x h ids among d =
      let test = λ (w : LocalEntry Op). not (w.id == e.id) in (
        (λ n b.
            let a = after_there (tx t c.opened) _ x n h b in
            let f = after_there (at_mark e.id Pulled x.local) _ e a.0 (mark_found x.local e Pulled ids (among e (inl refl)).0 (among e (inl refl)).1) a.2 in
            third n a.0 f.0 a.1 f.1 (of_one _ f.0 f.2)),
        λ m. each_unpull_only t es _ (relog (without_local e.id) x) (tx_on t (without_local e.id) c.opened x h)
            (λ v w i. ids v w (before_from_filter test v w x.local i))
            (λ v i. (in_filter test v x.local (among v (inr i)).0 (eqb_not v.id e.id (λ z. d e v (inl (refl, i)) (sym z))), (among v (inr i)).1))
            (λ v w i. d v w (inr i)),
      )

  -- The UNPULL steps that give up a source break only breakable criteria.
  pub unpulls_only : (c : Config Op) (t source : Name) (x : Tx Op) → Sound O c → tx t c.opened ≡ Some x → OnlyBreaks O styles.Dependent c (unpulls t source x.local)
  unpulls_only c t source x s h =
      let ids : LocalIds x.local = s.local_ids x (found_tx t c.opened x h).0 in
      let from : List (LocalEntry Op) = filter (is_pulled_from source) x.local in
      each_unpull_only t (reverse from) c x h ids
      (λ e i.
      let f = from_filter (is_pulled_from source) e x.local (from_reverse e from i) in
      (f.0, is_mark-true e.mark Pulled (and_parts (is_mark e.mark Pulled) (e.owner =ⁿ source) f.1).0))
      (λ a b i z. ids b a (before_from_filter (is_pulled_from source) b a x.local (before_from_reverse a b from i)) (sym z))
