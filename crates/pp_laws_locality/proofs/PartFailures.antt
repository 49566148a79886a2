-- A record that fails has bookkeeping that is not right, or its restriction to an object fails alike.
use Rattle.std.specs.Prelude.{◌≡◌, ◌≢◌, ◌==◌, ◌⊎◌, ◌↔◌, Bool, true, false, cond, ℕ, zero, suc, List, [], ◌∷◌, ◌++◌, Option, None, Some}
use Rattle.std.proofs.Common.{refl, sym, ap, subst, ◌∙◌, arith, append_assoc}
use Rattle.std.proofs.lemmas.Bool.{eq-eqb}
use Rattle.std.proofs.lemmas.Bool.Decides.{eqb_tells}
use Rattle.std.proofs.lemmas.List.{append-nil, map-append}
use Rattle.std.proofs.lemmas.List.Elements.{filter-append}
use mathlib.Core.Logic.{inl, inr}
use Rattle.pp_core.specs.declared.call.Style.{Style}
use Rattle.pp_core.specs.declared.call.Style.TheVariants.{Rules, Boosted, Optimistic, Hardware, Dependent}
use Rattle.pp_model.specs.Config.{App, Begin, Cmt, LocalEntry, Mark, Note, Pull, Push, Pushed, Pulled, Quit, SharedEntry, Step, Unapp, Unpull, Unpush, Unpushed, is_own, local_ops, shared_ops}
use Rattle.pp_model.specs.Lists.{In}
use Rattle.pp_model.specs.Names.{Name}
use Rattle.pp_model.specs.Object.{Allowed, Object}
use Rattle.pp_model.specs.Rules.{FirstFalse}
use Rattle.pp_records.specs.Records.{RunRecord}
use Rattle.pp_records.specs.Records as records
use Rattle.pp_laws_summary.specs.Counts.{back_count, section_count}
use Rattle.pp_laws_summary.specs.Failures.{AllPushed, Asked, IsStep, app_facts, asked, at_once_asks, begin_asks, cmt_facts, commit_asks, op_asks, open_asks, publish_asks, publish_facts, pull_asks, pull_facts, push_facts, record_asks, safe}
use Rattle.pp_laws_summary.specs.LocalLogs.{HasSummary, unpushed}
use Rattle.pp_laws_summary.specs.Places.{PlacesPart, ops_at}
use Rattle.pp_laws_summary.specs.Summary.{Held, OpenSummary, Summary, open_named, summary_missing, summary_mode, summary_pulled, summary_view}
use Rattle.pp_laws_summary.proofs.Asks.{Alike, alike}
use Rattle.pp_laws_summary.proofs.Parts.{at-append, part_from_whole, whole_from_part}
use Rattle.pp_laws_locality.specs.Rejected.{IsOfBookkeeping}
use Rattle.pp_laws_locality.specs.Restricted.{restricted}
use Rattle.pp_laws_locality.proofs.Parts.{found_at, held_at, named_at, open_at, ops_own, ops_shared, own_at, summary_at}
use Rattle.pp_laws_locality.proofs.PartLogs.{from_own, from_shared, missing_same, mode_at, pulled_same, to_own, to_shared, unpushed_at, view_same}
use Rattle.pp_laws_locality.proofs.PartSteps.{IsFit}

-- The first condition that is not met is on the step s, and n + 1 is the number of the criterion.
abbrev pub AskedFails : {Op : Type 0} → List (Asked Op) → Step Op → ℕ → Type 0
AskedFails [] s n = ⊥
AskedFails (a ∷ qs) s n = (IsStep a.step s × FirstFalse a.asks (suc n)) ⊎ (FirstFalse a.asks 0 × AskedFails qs s n)

-- The same, of a step that is named.
abbrev pub NamedFails : {Op : Type 0} → List (Asked Op) → Step Op → ℕ → Type 0
NamedFails [] s n = ⊥
NamedFails (a ∷ qs) s n = ((a.step ≡ Some s) × FirstFalse a.asks (suc n)) ⊎ (FirstFalse a.asks 0 × NamedFails qs s n)

-- Two trivial conditions are the same.
free : Unit {0} ↔ Unit {0}
free = ((λ h. h), (λ h. h))

-- A condition that is always met does not fail.
safe_meets : {Op : Type 0} (k : ℕ) (s : Step Op) (n : ℕ) → AskedFails (safe k) s n → ⊥
safe_meets zero s n f = f
safe_meets (suc k) s n (inl f) = let e : suc n ≡ 0 = f.1 in cc
safe_meets (suc k) s n (inr f) = safe_meets k s n f.1

-- The restriction of a record fails.
abbrev pub RestrictedFails : {Op State : Type 0} → Style → Object Op State → (Op → ℕ) → Summary Op → Option (RunRecord Op) → Step Op → ℕ → Type 0
RestrictedFails style O place C None s n = ⊥
RestrictedFails style O place C (Some r) s n = NamedFails (record_asks style O place C r) s n

-- An own entry is not pushed, or all are.
all_pushed : {Op : Type 0} (l : List (LocalEntry Op)) →
    ((e : LocalEntry Op) → In e l → is_own e.mark ≡ true → e.mark ≡ Pushed) ⊎ ((e : LocalEntry Op) × In e l × (is_own e.mark ≡ true) × (e.mark ≢ Pushed))
all_pushed [] = inl (λ e i. absurd i)
all_pushed {Op} (a ∷ l) = by a.mark refl (all_pushed l)
  where
    one : (a.mark ≡ Pushed) ⊎ (is_own a.mark ≡ false) → ((e : LocalEntry Op) → In e l → is_own e.mark ≡ true → e.mark ≡ Pushed) ⊎ ((e : LocalEntry Op) × In e l × (is_own e.mark ≡ true) × (e.mark ≢ Pushed)) →
        ((e : LocalEntry Op) → In e (a ∷ l) → is_own e.mark ≡ true → e.mark ≡ Pushed) ⊎ ((e : LocalEntry Op) × In e (a ∷ l) × (is_own e.mark ≡ true) × (e.mark ≢ Pushed))
    one h (inl k) = inl (λ e i o. elim i [
      | inl j ↦ elim h [
        | inl m ↦ ap (λ (z : LocalEntry Op). z.mark) j ∙ m
        | inr m ↦ absurd (let z : true ≡ false = sym o ∙ ap (λ (w : LocalEntry Op). is_own w.mark) j ∙ m in cc)
      ]
      | inr j ↦ k e j o
    ])
    one h (inr k) = inr (k.0, inr k.1, k.2, k.3)

    by : (m : Mark) → a.mark ≡ m → ((e : LocalEntry Op) → In e l → is_own e.mark ≡ true → e.mark ≡ Pushed) ⊎ ((e : LocalEntry Op) × In e l × (is_own e.mark ≡ true) × (e.mark ≢ Pushed)) →
        ((e : LocalEntry Op) → In e (a ∷ l) → is_own e.mark ≡ true → e.mark ≡ Pushed) ⊎ ((e : LocalEntry Op) × In e (a ∷ l) × (is_own e.mark ≡ true) × (e.mark ≢ Pushed))
    by Unpushed e k = inr (a, inl refl, ap is_own e, (λ z. let w : Unpushed ≡ Pushed = sym e ∙ z in cc))
    by Pushed e k = one (inl e) k
    by Pulled e k = one (inr (ap is_own e)) k

module _ {Op State : Type 0} (O : Object Op State) (place : Op → ℕ) (part : PlacesPart O place) (B : Summary Op) (x : OpenSummary Op) (t : Name) (s : Step Op) (n : ℕ) where
  abbrev X : Type 0
  X = IsOfBookkeeping s (suc n)

  module _ (o : ℕ) (js : List ℕ) where
    abbrev C : Summary Op
    C = summary_at place o js B

    abbrev y : OpenSummary Op
    y = open_at place o x

    pull_same : (P : List (SharedEntry Op)) (g : SharedEntry Op) → Alike (pull_facts O place B x o P g) (pull_facts O place C y o P g)
    pull_same P g = (
      free,
      (
        free,
        (
          free,
          (
            ((λ h. subst (λ (w : List Op). Allowed O (w ++ (shared_ops P ++ g.op ∷ []))) (sym (view_same place o js B x)) h), (λ h. subst (λ (w : List Op). Allowed O (w ++ (shared_ops P ++ g.op ∷ []))) (view_same place o js B x) h)),
            (((λ h a i p. h a (from_own place o a x.own i) p), (λ h a i p. h a (to_own place o a x.own i p) p)), tt),
          ),
        ),
      ),
    )

    -- the pulls of the same entries
    pub pulls_fail : (M P : List (SharedEntry Op)) (rest more : List (Asked Op)) → (AskedFails rest s n → X ⊎ NamedFails more s n) →
        AskedFails (pull_asks O place B t x o P M ++ rest) s n → X ⊎ NamedFails (pull_asks O place C t y o P M ++ more) s n
    pulls_fail [] P rest more k f = k f
    pulls_fail (g ∷ M) P rest more k (inl f) = inr (inl (ap Some f.0, (alike (pull_facts O place B x o P g) (pull_facts O place C y o P g) (pull_same P g) (suc n)).0 f.1))
    pulls_fail (g ∷ M) P rest more k (inr f) = elim (pulls_fail M (P ++ g ∷ []) rest more k f.1) [
      | inl h ↦ inl h
      | inr h ↦ inr (inr ((alike (pull_facts O place B x o P g) (pull_facts O place C y o P g) (pull_same P g) 0).0 f.0, h))
    ]

    publish_same : (P : List (LocalEntry Op)) (e : LocalEntry Op) → place e.op ≡ o → Allowed O (shared_ops B.shared ++ local_ops P) → Alike (publish_facts O place B x P e) (publish_facts O place C y (own_at place o P) e)
    publish_same P e p all =
        let at : ops_at place o (shared_ops B.shared ++ local_ops P) ≡ shared_ops C.shared ++ local_ops (own_at place o P) =
        at-append place o (shared_ops B.shared) (local_ops P) ∙ ap (λ (w : List Op). w ++ ops_at place o (local_ops P)) (ops_shared place o B.shared) ∙ ap (λ (w : List Op). shared_ops C.shared ++ w) (ops_own place o P) in (
          free,
          (
            free,
            (
              free,
              (
                ((λ h u i c m q. h u (from_shared place o u B.shared i) c m q), (λ h u i c m q. h u (to_shared place o u B.shared i (q ∙ p)) c m q)),
                (
                  (
                    (λ h. subst (λ (w : List Op). Allowed O w) (append_assoc (shared_ops C.shared) (local_ops (own_at place o P)) (e.op ∷ []))
                        (subst (λ (w : List Op). Allowed O (w ++ e.op ∷ [])) at (part_from_whole O place part o (shared_ops B.shared ++ local_ops P) (e.op ∷ []) (λ a i. elim i [ inl z ↦ ap place z ∙ p | inr z ↦ absurd z ])
                        (subst (λ (w : List Op). Allowed O w) (sym (append_assoc (shared_ops B.shared) (local_ops P) (e.op ∷ []))) h)))),
                    (λ h. subst (λ (w : List Op). Allowed O w) (append_assoc (shared_ops B.shared) (local_ops P) (e.op ∷ []))
                        (whole_from_part O place part o (shared_ops B.shared ++ local_ops P) (e.op ∷ []) (λ a i. elim i [ inl z ↦ ap place z ∙ p | inr z ↦ absurd z ]) all
                        (subst (λ (w : List Op). Allowed O (w ++ e.op ∷ [])) (sym at) (subst (λ (w : List Op). Allowed O w) (sym (append_assoc (shared_ops C.shared) (local_ops (own_at place o P)) (e.op ∷ []))) h)))),
                  ),
                  tt,
                ),
              ),
            ),
          ),
        )

  -- the pushes of these entries
  module _ (js : ℕ → List ℕ) (more : ℕ → List (Asked Op)) where
    abbrev Parts : ℕ → List (LocalEntry Op) → List (LocalEntry Op) → Type 0
    Parts o P M = NamedFails (publish_asks O place (summary_at place o (js o) B) t (open_at place o x) P M ++ more o) s n

    -- one more entry before them
    one_more : (o : ℕ) (P M : List (LocalEntry Op)) (e : LocalEntry Op) → Allowed O (shared_ops B.shared ++ local_ops P) → FirstFalse (publish_facts O place B x P e) 0 → Parts o (own_at place o (P ++ e ∷ [])) (own_at place o M) →
        Parts o (own_at place o P) (own_at place o (e ∷ M))
    one_more o P M e all met f =
        let at : own_at place o (P ++ e ∷ []) ≡ own_at place o P ++ own_at place o (e ∷ []) = filter-append (λ (w : LocalEntry Op). place w.op == o) P (e ∷ []) in
        let k : Parts o (own_at place o P ++ cond (place e.op == o) (e ∷ []) []) (own_at place o M) = subst (λ (w : List (LocalEntry Op)). Parts o w (own_at place o M)) at f in
        elim (eqb_tells (place e.op) o) [
          | inl r ↦ subst (λ (b : Bool). Parts o (own_at place o P) (cond b (e ∷ own_at place o M) (own_at place o M))) (sym r.0)
              (inr (
                (alike (publish_facts O place B x P e) (publish_facts O place (summary_at place o (js o) B) (open_at place o x) (own_at place o P) e) (publish_same o (js o) P e r.1 all) 0).0 met,
                subst (λ (b : Bool). Parts o (own_at place o P ++ cond b (e ∷ []) []) (own_at place o M)) r.0 k,
              ))
          | inr r ↦ subst (λ (b : Bool). Parts o (own_at place o P) (cond b (e ∷ own_at place o M) (own_at place o M))) (sym r.0)
              (subst (λ (w : List (LocalEntry Op)). Parts o w (own_at place o M)) (append-nil (own_at place o P))
              (subst (λ (b : Bool). Parts o (own_at place o P ++ cond b (e ∷ []) []) (own_at place o M)) r.0 k))
        ]

    -- If a publish fails, its bookkeeping does, or that of one object fails alike.
    pub publish_fail : (M P : List (LocalEntry Op)) (rest : List (Asked Op)) → Allowed O (shared_ops B.shared ++ local_ops P) → (AskedFails rest s n → X) →
        AskedFails (publish_asks O place B t x P M ++ rest) s n → X ⊎ ((o : ℕ) × Parts o (own_at place o P) (own_at place o M))
    publish_fail [] P rest all k f = inl (k f)
    publish_fail (e ∷ M) P rest all k (inl f) =
        let o = place e.op in
        inr (
          o,
          subst (λ (b : Bool). Parts o (own_at place o P) (cond b (e ∷ own_at place o M) (own_at place o M))) (sym (eq-eqb o o refl))
              (inl (ap Some f.0, (alike (publish_facts O place B x P e) (publish_facts O place (summary_at place o (js o) B) (open_at place o x) (own_at place o P) e) (publish_same o (js o) P e refl all) (suc n)).0 f.1)),
        )
    publish_fail (e ∷ M) P rest all k (inr f) =
        let next : Allowed O (shared_ops B.shared ++ local_ops (P ++ e ∷ [])) = subst (λ (w : List Op). Allowed O (shared_ops B.shared ++ w)) (sym (map-append (λ (w : LocalEntry Op). w.op) P (e ∷ []))) f.0.1.1.1.1.0 in
        elim (publish_fail M (P ++ e ∷ []) rest next k f.1) [
          | inl h ↦ inl h
          | inr h ↦ inr (h.0, one_more h.0 P M e all f.0 h.1)
        ]

module _ {Op State : Type 0} (O : Object Op State) (place : Op → ℕ) (part : PlacesPart O place) (style : Style) (has : HasSummary style) (B : Summary Op) (fit : IsFit O place B) (s : Step Op) (n : ℕ) where
  abbrev Y : Type 0
  Y = IsOfBookkeeping s (suc n)

  module _ (t : Name) (op : Op) (id : ℕ) (js : List ℕ) (known : (i : ℕ) → In i js → In i B.ids) (x : OpenSummary Op) where
    abbrev o : ℕ
    o = place op

    abbrev D : Summary Op
    D = summary_at place o js B

    abbrev z : OpenSummary Op
    z = open_at place o x

    push_same : Alike (push_facts O place B op x) (push_facts O place D op z)
    push_same = (
      free,
      (
        free,
        (
          ((λ h a i p m. h a (from_own place o a x.own i) p m), (λ h a i p m. h a (to_own place o a x.own i p) p m)),
          (
            ((λ h u i c m p. h u (from_shared place o u B.shared i) c m p), (λ h u i c m p. h u (to_shared place o u B.shared i p) c m p)),
            (
              (
                (λ h. subst (λ (w : List Op). Allowed O (w ++ op ∷ [])) (ops_shared place o B.shared) (part_from_whole O place part o (shared_ops B.shared) (op ∷ []) (λ a i. elim i [ inl e ↦ ap place e | inr e ↦ absurd e ]) h)),
                (λ h. whole_from_part O place part o (shared_ops B.shared) (op ∷ []) (λ a i. elim i [ inl e ↦ ap place e | inr e ↦ absurd e ]) fit.allowed
                    (subst (λ (w : List Op). Allowed O (w ++ op ∷ [])) (sym (ops_shared place o B.shared)) h)),
              ),
              tt,
            ),
          ),
        ),
      ),
    )

    once_fail : (w : Option Held) → AskedFails (at_once_asks w O place B t id op x) s n → NamedFails (at_once_asks (held_at place o x.own w) O place D t id op z) s n
    once_fail None (inl f) = inl (ap Some f.0, (alike (push_facts O place B op x) (push_facts O place D op z) push_same (suc n)).0 f.1)
    once_fail None (inr f) = absurd f.1
    once_fail (Some h) f = absurd f

    app_allowed : (M : List (SharedEntry Op)) → Allowed O (summary_view place o D.done z ++ (shared_ops M ++ op ∷ [])) ↔ Allowed O (summary_view place o B.done x ++ (shared_ops M ++ op ∷ []))
    app_allowed M = (
      (λ h. subst (λ (w : List Op). Allowed O (w ++ (shared_ops M ++ op ∷ []))) (view_same place o js B x) h),
      (λ h. subst (λ (w : List Op). Allowed O (w ++ (shared_ops M ++ op ∷ []))) (sym (view_same place o js B x)) h),
    )

    app_meets : (M : List (SharedEntry Op)) → FirstFalse (app_facts O place B id op x M) 0 → FirstFalse (app_facts O place D id op z M) 0
    app_meets M m = (tt, ((λ i. m.1.0 (known id i)), (([], tt), ((app_allowed M).1 m.1.1.1.0, refl))))

    app_fail : (k : ℕ) (M : List (SharedEntry Op)) → App t id op ≡ s → FirstFalse (app_facts O place B id op x M) (suc k) → IsOfBookkeeping s (suc k) ⊎ FirstFalse (app_facts O place D id op z M) (suc k)
    app_fail zero M e f = absurd (f tt)
    app_fail (suc zero) M e f = inl (subst (λ (a : Step Op). IsOfBookkeeping a 2) e (omega arith))
    app_fail (suc (suc zero)) M e f = inl (subst (λ (a : Step Op). IsOfBookkeeping a 3) e (omega arith))
    app_fail (suc (suc (suc zero))) M e f = inr (tt, ((λ i. f.1.0 (known id i)), (([], tt), (λ a. f.1.1.1 ((app_allowed M).0 a)))))
    app_fail (suc (suc (suc (suc k)))) M e f = let c : suc k ≡ 0 = f.1.1.1.1 in cc

    after_pulls : (w : Option Held) (M : List (SharedEntry Op)) → AskedFails (asked (App t id op) (app_facts O place B id op x M) ∷ at_once_asks w O place B t id op x) s n →
        Y ⊎ NamedFails (asked (App t id op) (app_facts O place D id op z M) ∷ at_once_asks (held_at place o x.own w) O place D t id op z) s n
    after_pulls w M (inl f) = elim (app_fail n M f.0 f.1) [ inl h ↦ inl h | inr h ↦ inr (inl (ap Some f.0, h)) ]
    after_pulls w M (inr f) = inr (inr (app_meets M f.0, once_fail w f.1))

    -- an operation that fails
    op_fail : AskedFails (op_asks O place (summary_mode style B.kinds x o) B t id op x) s n → Y ⊎ NamedFails (op_asks O place (summary_mode style B.kinds z o) D t id op z) s n
    op_fail f =
        let w = summary_mode style B.kinds x o in
        let M = summary_pulled place w o B x in
        elim (pulls_fail O place part B x t s n o js M [] (asked (App t id op) (app_facts O place B id op x M) ∷ at_once_asks w O place B t id op x)
        (asked (App t id op) (app_facts O place D id op z M) ∷ at_once_asks (held_at place o x.own w) O place D t id op z) (after_pulls w M) f) [
          | inl h ↦ inl h
          | inr h ↦ inr (subst (λ (v : Option Held). NamedFails (op_asks O place v D t id op z) s n) (sym (mode_at place o style B.kinds x o))
              (subst (λ (N : List (SharedEntry Op)). NamedFails (pull_asks O place D t z o [] N ++ (asked (App t id op) (app_facts O place D id op z N) ∷ at_once_asks (held_at place o x.own w) O place D t id op z)) s n)
              (sym (pulled_same place o js B x w)) h))
        ]

  -- a refresh that fails
  refresh_fail : (t : Name) (o : ℕ) (js : List ℕ) (x : OpenSummary Op) → AskedFails (safe 1 ++ pull_asks O place B t x o [] (summary_missing place o B x)) s n →
      Y ⊎ NamedFails (safe 1 ++ pull_asks O place (summary_at place o js B) t (open_at place o x) o [] (summary_missing place o (summary_at place o js B) (open_at place o x))) s n
  refresh_fail t o js x (inl f) = let e : suc n ≡ 0 = f.1 in cc
  refresh_fail t o js x (inr f) =
      let D = summary_at place o js B in
      let M = summary_missing place o B x in
      elim (pulls_fail O place part B x t s n o js M [] [] [] (λ k. absurd k) (subst (λ (qs : List (Asked Op)). AskedFails qs s n) (sym (append-nil (pull_asks O place B t x o [] M))) f.1)) [
        | inl h ↦ inl h
        | inr h ↦ inr (inr (
          refl,
          subst (λ (N : List (SharedEntry Op)). NamedFails (pull_asks O place D t (open_at place o x) o [] N) s n) (sym (missing_same place o js B x))
              (subst (λ (qs : List (Asked Op)). NamedFails qs s n) (append-nil (pull_asks O place D t (open_at place o x) o [] M)) h),
        ))
      ]

  -- pushes that fail
  module _ (t : Name) (js : ℕ → List ℕ) (x : OpenSummary Op) where
    abbrev E : ℕ → Summary Op
    E o = summary_at place o (js o) B

    all_fail : (rest : List (Asked Op)) (more : ℕ → List (Asked Op)) → (AskedFails rest s n → Y) → AskedFails (publish_asks O place B t x [] (unpushed x.own) ++ rest) s n →
        Y ⊎ ((o : ℕ) × NamedFails (publish_asks O place (E o) t (open_at place o x) [] (unpushed (own_at place o x.own)) ++ more o) s n)
    all_fail rest more k f = elim (publish_fail O place part B x t s n js more (unpushed x.own) [] rest (subst (λ (w : List Op). Allowed O w) (sym (append-nil (shared_ops B.shared))) fit.allowed) k f) [
      | inl h ↦ inl h
      | inr h ↦ inr (h.0, subst (λ (w : List (LocalEntry Op)). NamedFails (publish_asks O place (E h.0) t (open_at place h.0 x) [] w ++ more h.0) s n) (sym (unpushed_at place h.0 x.own)) h.1)
    ]

    -- the end of a section
    end_fail : AskedFails (safe 1 ++ publish_asks O place B t x [] (unpushed x.own)) s n → Y ⊎ ((o : ℕ) × NamedFails (safe 1 ++ publish_asks O place (E o) t (open_at place o x) [] (unpushed (own_at place o x.own))) s n)
    end_fail (inl f) = let e : suc n ≡ 0 = f.1 in cc
    end_fail (inr f) = elim (all_fail [] (λ o. []) (λ k. absurd k) (subst (λ (qs : List (Asked Op)). AskedFails qs s n) (sym (append-nil (publish_asks O place B t x [] (unpushed x.own)))) f.1)) [
      | inl h ↦ inl h
      | inr h ↦ inr (h.0, inr (refl, subst (λ (qs : List (Asked Op)). NamedFails qs s n) (append-nil (publish_asks O place (E h.0) t (open_at place h.0 x) [] (unpushed (own_at place h.0 x.own)))) h.1))
    ]

    -- CMT after the pushes
    late_fail : (k : ℕ) (style : Style) → (AllPushed style x) → Cmt t ≡ s → FirstFalse (cmt_facts style O x) (suc k) → IsOfBookkeeping s (suc k)
    late_fail zero style a e f = absurd (f tt)
    late_fail (suc zero) style a e f = subst (λ (w : Step Op). IsOfBookkeeping w 2) e (omega arith)
    late_fail (suc (suc zero)) style a e f = absurd (f.1.1 a)
    late_fail (suc (suc (suc zero))) style a e f = absurd (f.1.1.1 tt)
    late_fail (suc (suc (suc (suc k)))) style a e f = let c : suc k ≡ 0 = f.1.1.1.1 in cc

    last_fail : (style : Style) → AllPushed style x → AskedFails (asked (Cmt t) (cmt_facts style O x) ∷ []) s n → Y
    last_fail style a (inl f) = late_fail n style a f.0 f.1
    last_fail style a (inr f) = absurd f.1

    early_fail : (k : ℕ) → Cmt t ≡ s → FirstFalse (cmt_facts Boosted O x) (suc k) → IsOfBookkeeping s (suc k) ⊎ ((o : ℕ) × FirstFalse (cmt_facts Boosted O (open_at place o x)) (suc k))
    early_fail zero e f = absurd (f tt)
    early_fail (suc zero) e f = inl (subst (λ (w : Step Op). IsOfBookkeeping w 2) e (omega arith))
    early_fail (suc (suc zero)) e f = elim (all_pushed x.own) [
      | inl a ↦ absurd (f.1.1 a)
      | inr a ↦ inr (place a.0.op, (tt, (tt, (λ h. a.3 (h a.0 (to_own place (place a.0.op) a.0 x.own a.1 refl) a.2)))))
    ]
    early_fail (suc (suc (suc zero))) e f = absurd (f.1.1.1 tt)
    early_fail (suc (suc (suc (suc k)))) e f = let c : suc k ≡ 0 = f.1.1.1.1 in cc

    -- a commit that fails
    commit_fail : (style : Style) → HasSummary style → AskedFails (commit_asks style O place B t x) s n → Y ⊎ ((o : ℕ) × NamedFails (commit_asks style O place (E o) t (open_at place o x)) s n)
    commit_fail Rules h f = absurd h
    commit_fail Boosted h (inl f) = elim (early_fail n f.0 f.1) [ inl k ↦ inl k | inr k ↦ inr (k.0, inl (ap Some f.0, k.1)) ]
    commit_fail Boosted h (inr f) = absurd f.1
    commit_fail Optimistic h f = all_fail (asked (Cmt t) (cmt_facts Optimistic O x) ∷ []) (λ o. asked (Cmt t) (cmt_facts Optimistic O (open_at place o x)) ∷ []) (last_fail Optimistic tt) f
    commit_fail Hardware h f = all_fail (asked (Cmt t) (cmt_facts Hardware O x) ∷ []) (λ o. asked (Cmt t) (cmt_facts Hardware O (open_at place o x)) ∷ []) (last_fail Hardware tt) f
    commit_fail Dependent h f = absurd h

  not_open : (alone : Step Op) → IsOfBookkeeping alone 1 → alone ≡ s → n ≡ 0 → Y
  not_open alone one e z = subst (λ (a : Step Op). IsOfBookkeeping a (suc n)) e (subst (λ (k : ℕ). IsOfBookkeeping alone (suc k)) (sym z) one)

  -- a record of a transaction
  open_fail : {Z : Type 0} (t : Name) (alone : Step Op) (F : OpenSummary Op → List (Asked Op)) → (alone ≡ s → n ≡ 0 → Z) → ((x : OpenSummary Op) → open_named t B.opened ≡ Some x → AskedFails (F x) s n → Z) →
      AskedFails (open_asks (open_named t B.opened) alone F) s n → Z
  open_fail {Z} t alone F not_open is_open f = go (open_named t B.opened) refl f
    where
      first : (k : ℕ) → FirstFalse (⊥ ∷ []) (suc k) → k ≡ 0
      first zero g = refl
      first (suc k) g = absurd g.0

      go : (w : Option (OpenSummary Op)) → open_named t B.opened ≡ w → AskedFails (open_asks w alone F) s n → Z
      go None e (inl g) = not_open g.0 (first n g.1)
      go None e (inr g) = absurd g.0.0
      go (Some x) e g = is_open x e g

  -- its restriction
  open_named_fail : (t : Name) (o : ℕ) (js : List ℕ) (alone : Step Op) (F : OpenSummary Op → List (Asked Op)) (x : OpenSummary Op) → open_named t B.opened ≡ Some x → NamedFails (F (open_at place o x)) s n →
      NamedFails (open_asks (open_named t (summary_at place o js B).opened) alone F) s n
  open_named_fail t o js alone F x e f = subst (λ (w : Option (OpenSummary Op)). NamedFails (open_asks w alone F) s n) (sym (named_at place o t B.opened ∙ ap (λ (w : Option (OpenSummary Op)). found_at place o w) e)) f

  plain_fail : (step : Step Op) → AskedFails (begin_asks B step) s n → Y
  plain_fail (Begin t p b) (inl f) = subst (λ (a : Step Op). IsOfBookkeeping a (suc n)) f.0 tt
  plain_fail (Begin t p b) (inr f) = absurd f.1
  plain_fail (App t id op) f = absurd f
  plain_fail (Unapp t id) f = absurd f
  plain_fail (Push t id) f = absurd f
  plain_fail (Unpush t id) f = absurd f
  plain_fail (Pull t id) f = absurd f
  plain_fail (Unpull t id) f = absurd f
  plain_fail (Cmt t) f = absurd f
  plain_fail (Quit t) f = absurd f
  plain_fail (Note t) f = absurd f

  -- a record that fails only if its transaction is not open
  safe_fail : (t : Name) (alone : Step Op) (count : OpenSummary Op → ℕ) → IsOfBookkeeping alone 1 → AskedFails (open_asks (open_named t B.opened) alone (λ x. safe (count x))) s n → Y
  safe_fail t alone count one f = open_fail t alone (λ x. safe (count x)) (λ e z. not_open alone one e z) (λ x e g. absurd (safe_meets (count x) s n g)) f

  module _ (js : ℕ → List ℕ) (known : (o i : ℕ) → In i (js o) → In i B.ids) where
    abbrev Out : RunRecord Op → Type 0
    Out r = Y ⊎ ((o : ℕ) × RestrictedFails style O place (summary_at place o (js o) B) (restricted place o r) s n)

    op_out : (t : Name) (id : ℕ) (op : Op) → AskedFails (record_asks style O place B (records.Op t id op)) s n → Out (records.Op t id op)
    op_out t id op f =
        let o = place op in
        let D = summary_at place o (js o) B in
        open_fail t (App t id op) (λ x. op_asks O place (summary_mode style B.kinds x o) B t id op x) (λ e z. inl (not_open (App t id op) (omega arith) e z))
        (λ x e g. elim (op_fail t op id (js o) (known o) x g) [
          | inl h ↦ inl h
          | inr h ↦ inr (
            o,
            subst (λ (b : Bool). RestrictedFails style O place D (cond b (Some (records.Op t id op)) None) s n) (sym (eq-eqb o o refl))
                (open_named_fail t o (js o) (App t id op) (λ y. op_asks O place (summary_mode style B.kinds y o) D t id op y) x e h),
          )
        ]) f

    refresh_out : (t : Name) (o : ℕ) → AskedFails (record_asks style O place B (records.Refresh t o)) s n → Out (records.Refresh t o)
    refresh_out t o f =
        let D = summary_at place o (js o) B in
        open_fail t (Note t) (λ x. safe 1 ++ pull_asks O place B t x o [] (summary_missing place o B x)) (λ e z. inl (not_open (Note t) (omega arith) e z))
        (λ x e g. elim (refresh_fail t o (js o) x g) [
          | inl h ↦ inl h
          | inr h ↦ inr (
            o,
            subst (λ (b : Bool). RestrictedFails style O place D (cond b (Some (records.Refresh t o)) None) s n) (sym (eq-eqb o o refl))
                (open_named_fail t o (js o) (Note t) (λ y. safe 1 ++ pull_asks O place D t y o [] (summary_missing place o D y)) x e h),
          )
        ]) f

    commit_out : (t : Name) → AskedFails (record_asks style O place B (records.Commit t)) s n → Out (records.Commit t)
    commit_out t f = open_fail t (Cmt t) (commit_asks style O place B t) (λ e z. inl (not_open (Cmt t) (omega arith) e z))
        (λ x e g. elim (commit_fail t js x style has g) [
          | inl h ↦ inl h
          | inr h ↦ inr (h.0, open_named_fail t h.0 (js h.0) (Cmt t) (commit_asks style O place (summary_at place h.0 (js h.0) B) t) x e h.1)
        ]) f

    end_out : (t : Name) → AskedFails (record_asks style O place B (records.XEnd t)) s n → Out (records.XEnd t)
    end_out t f = open_fail t (Note t) (λ x. safe 1 ++ publish_asks O place B t x [] (unpushed x.own)) (λ e z. inl (not_open (Note t) (omega arith) e z))
        (λ x e g. elim (end_fail t js x g) [
          | inl h ↦ inl h
          | inr h ↦ inr (h.0, open_named_fail t h.0 (js h.0) (Note t) (λ y. safe 1 ++ publish_asks O place (summary_at place h.0 (js h.0) B) t y [] (unpushed y.own)) x e h.1)
        ]) f

    -- The bookkeeping of a record that fails is not right, or its restriction to an object fails alike.
    pub record_fails : (r : RunRecord Op) → AskedFails (record_asks style O place B r) s n → Out r
    record_fails (records.Plain step) f = inl (plain_fail step f)
    record_fails (records.Op t id op) f = op_out t id op f
    record_fails (records.Commit t) f = commit_out t f
    record_fails (records.Abort t) f = inl (safe_fail t (Quit t) (λ x. suc (back_count place B x)) (omega arith) f)
    record_fails (records.Retry t) f = inl (safe_fail t (Note t) (λ x. suc (back_count place B x)) (omega arith) f)
    record_fails (records.Refresh t o) f = refresh_out t o f
    record_fails (records.XBegin t) f = inl (safe_fail t (Note t) (λ x. 1) (omega arith) f)
    record_fails (records.XEnd t) f = end_out t f
    record_fails (records.XAbort t) f = inl (safe_fail t (Note t) (λ x. suc (section_count place B x)) (omega arith) f)
    record_fails (records.Depend t source) f = absurd f
    record_fails (records.Publish t) f = absurd f
    record_fails (records.DropSource t source) f = absurd f
