-- The criteria of a step of a mapped configuration are those of the configuration, if no transaction has a body.
use Rattle.std.specs.Prelude.{◌≡◌, ◌≢◌, ◌↔◌, ◌==◌, Bool, true, false, cond, not, ℕ, suc, List, [], ◌∷◌, ◌++◌, map, Option, None, Some, option_map}
use Rattle.std.proofs.Common.{refl, sym, ap, subst, ◌∙◌}
use Rattle.std.proofs.lemmas.List.{map-append}
use mathlib.Core.Logic.{inl, inr}
use Rattle.pp_model.specs.Body.{Begins, Call, IsWord, Tree}
use Rattle.pp_model.specs.Config.{App, Begin, Cmt, Config, LocalEntry, Mark, Note, Pull, Pulled, Push, Pushed, Quit, SharedEntry, Start, Step, Tx, Unapp, Unpull, Unpush, Unpushed}
use Rattle.pp_model.specs.Config.{as_applied, as_pulled, at_mark, but_last, commit_effect, entry_of, first, is_own, last, local_ops, of_other, on_log, pull_effect, push_effect, relog, set_mark, shared_ops, then, tx, without_local, without_shared, without_tx}
use Rattle.pp_model.specs.Lists.{Before, Each, In}
use Rattle.pp_model.specs.Names.{Name, ◌=ⁿ◌}
use Rattle.pp_model.specs.Object.{Allowed, Item, Object, Swaps, ops}
use Rattle.pp_model.specs.Rules.{FirstFalse, IsLast, IsVerdict, IsVerdictFrom, Verdict, criteria, start_criteria, there}
use Rattle.pp_model.proofs.Lists.{before_from_map, before_map, from_map, in_map}
use Rattle.pp_laws_summary.proofs.Asks.{Alike, alike as facts_alike}
use Rattle.pp_laws_summary.proofs.Relog.{filter_map}
use Rattle.pp_laws_mapped.specs.Mapped.{StepHasNoBody, mapped_item, mapped_start, mapped_step}
use Rattle.pp_laws_mapped.specs.Laws.{MapsObjects}
use Rattle.pp_laws_mapped.proofs.MappedLists.{after_mapped, all_mapped, before_mapped, each_append, each_filter, each_found, each_kept, last_mapped}
use Rattle.pp_laws_mapped.proofs.MappedConfigs.{at_mark_mapped, config_by, first_mapped, local_by, of_other_mapped, ops_items, ops_local, ops_shared, shared_by, then_mapped, tx_by, tx_mapped}

-- ---- lists of statements

-- The first false statements of alike lists have one position.
pub first_alike : (ps qs : List (Type 0)) (n : ℕ) → Alike ps qs → FirstFalse ps n ↔ FirstFalse qs n
first_alike ps qs n h = facts_alike ps qs h n

same : {P : Type 0} → P ↔ P
same = ((λ p. p), (λ p. p))

-- Statements on a value that is there.
there_alike : {X Y : Type 0} (g : X → Y) (o : Option X) (F : X → List (Type 0)) (G : Y → List (Type 0)) → ((x : X) → o ≡ Some x → Alike (F x) (G (g x))) → Alike (there o F) (there (option_map g o) G)
there_alike g None F G h = (same, tt)
there_alike g (Some x) F G h = (same, h x refl)

-- Without a body all calls are right.
begins_alike : (b : Option Tree) (w v : List Call) → b ≡ None → Begins b w ↔ Begins b v
begins_alike None w v is = ((λ k. ([], tt)), (λ k. ([], tt)))
begins_alike (Some b) w v is = absurd (let no : Some b ≡ None = is in cc)

word_alike : (b : Option Tree) (w v : List Call) → b ≡ None → IsWord b w ↔ IsWord b v
word_alike None w v is = same
word_alike (Some b) w v is = absurd (let no : Some b ≡ None = is in cc)

-- ---- bodies

-- no open transaction has a body
abbrev pub NoBodies : {Op : Type 0} → Config Op → Type 0
NoBodies c = Each (λ x. x.body ≡ None) c.opened

module _ {Op : Type 0} where
  abbrev Bare : Tx Op → Type 0
  Bare x = x.body ≡ None

  bare_on : (t : Name) (F : List (LocalEntry Op) → List (LocalEntry Op)) (xs : List (Tx Op)) → Each Bare xs → Each Bare (on_log t F xs)
  bare_on t F xs e = each_kept Bare (λ x. cond (x.name =ⁿ t) (relog F x) x) xs (λ x h. by x h (x.name =ⁿ t)) e
    where
      by : (x : Tx Op) → Bare x → (b : Bool) → Bare (cond b (relog F x) x)
      by x h true = h
      by x h false = h

  bare_without : (t : Name) (xs : List (Tx Op)) → Each Bare xs → Each Bare (without_tx t xs)
  bare_without t xs e = each_filter Bare (λ x. not (x.name =ⁿ t)) xs e

  bare_push : (c : Config Op) (t : Name) (id : ℕ) (o : Option (LocalEntry Op)) → NoBodies c → NoBodies (push_effect c t id o)
  bare_push c t id None e = e
  bare_push c t id (Some x) e = bare_on t (set_mark id Pushed) c.opened e

  bare_pull : (c : Config Op) (t : Name) (id : ℕ) (o : Option (SharedEntry Op)) → NoBodies c → NoBodies (pull_effect c t id o)
  bare_pull c t id None e = e
  bare_pull c t id (Some g) e = bare_on t (λ l. l ++ as_pulled g ∷ []) c.opened e

  bare_commit : (c : Config Op) (t : Name) (o : Option (Tx Op)) → NoBodies c → NoBodies (commit_effect c t o)
  bare_commit c t None e = e
  bare_commit c t (Some x) e = bare_without t c.opened e

  -- A step without a body leads to such a configuration.
  pub bare_then : (c : Config Op) (s : Step Op) → NoBodies c → StepHasNoBody s → NoBodies (then c s)
  bare_then c (Begin t p b) e h = each_append Bare c.opened (record { name = t; thread = p; body = b; local = [] } ∷ []) e (h, tt)
  bare_then c (App t id op) e h = bare_on t (λ l. l ++ as_applied t id op ∷ []) c.opened e
  bare_then c (Unapp t id) e h = bare_on t but_last c.opened e
  bare_then c (Push t id) e h = bare_push c t id (entry_of id Unpushed (tx t c.opened)) e
  bare_then c (Unpush t id) e h = bare_on t (set_mark id Unpushed) c.opened e
  bare_then c (Pull t id) e h = bare_pull c t id (of_other t id c.shared) e
  bare_then c (Unpull t id) e h = bare_on t (without_local id) c.opened e
  bare_then c (Cmt t) e h = bare_commit c t (tx t c.opened) e
  bare_then c (Quit t) e h = bare_without t c.opened e
  bare_then c (Note t) e h = e

  pub bare_first : (h : Option (Start Op)) → NoBodies (first h)
  bare_first None = tt
  bare_first (Some z) = tt

module _ {A B S T : Type 0} (O : Object A S) (Q : Object B T) (f : A → B) (maps : MapsObjects O Q f) where
  only_local : (e d : LocalEntry A) → local_by f e ≡ local_by f d → e ≡ d
  only_local e d h =
      let op : e.op ≡ d.op = maps.only e.op d.op (ap (λ (w : LocalEntry B). w.op) h) in
      let id : e.id ≡ d.id = ap (λ (w : LocalEntry B). w.id) h in
      let owner : e.owner ≡ d.owner = ap (λ (w : LocalEntry B). w.owner) h in
      let mark : e.mark ≡ d.mark = ap (λ (w : LocalEntry B). w.mark) h in
      ap (λ (w : A). record { id = e.id; owner = e.owner; mark = e.mark; op = w }) op
      ∙ ap (λ (w : Mark). record { id = e.id; owner = e.owner; mark = w; op = d.op }) mark
      ∙ ap (λ (w : Name). record { id = e.id; owner = w; mark = d.mark; op = d.op }) owner
      ∙ ap (λ (w : ℕ). record { id = w; owner = d.owner; mark = d.mark; op = d.op }) id

  allowed_as : (l : List A) (m : List B) → m ≡ map f l → Allowed O l ↔ Allowed Q m
  allowed_as l m is = subst (λ (w : List B). Allowed O l ↔ Allowed Q w) (sym is) (maps.allowed l)

  local_more : (l : List (LocalEntry A)) (op : A) → Allowed O (local_ops l ++ op ∷ []) ↔ Allowed Q (local_ops (map (local_by f) l) ++ f op ∷ [])
  local_more l op = allowed_as (local_ops l ++ op ∷ []) _ (ap (λ (w : List B). w ++ f op ∷ []) (ops_local f l) ∙ sym (map-append f (local_ops l) (op ∷ [])))

  shared_more : (l : List (SharedEntry A)) (op : A) → Allowed O (shared_ops l ++ op ∷ []) ↔ Allowed Q (shared_ops (map (shared_by f) l) ++ f op ∷ [])
  shared_more l op = allowed_as (shared_ops l ++ op ∷ []) _ (ap (λ (w : List B). w ++ f op ∷ []) (ops_shared f l) ∙ sym (map-append f (shared_ops l) (op ∷ [])))

  under : {M P R : Type 0} → (P ↔ R) → (M → P) ↔ (M → R)
  under h = ((λ k m. h.0 (k m)), (λ k m. h.1 (k m)))

  last_alike : (id : ℕ) (o : Option (LocalEntry A)) → IsLast id o ↔ IsLast id (option_map (local_by f) o)
  last_alike id None = same
  last_alike id (Some e) = same

  none_alike : (l : List (LocalEntry A)) → (l ≡ []) ↔ (map (local_by f) l ≡ [])
  none_alike [] = ((λ h. refl), (λ h. refl))
  none_alike (e ∷ l) = ((λ h. absurd (cc)), (λ h. absurd (cc)))

  push_alike : (c : Config A) (t : Name) (x : Tx A) (e : LocalEntry A) →
      Alike
      (((a : LocalEntry A) → Before a e x.local → a.mark ≡ Unpushed → Swaps O e.op a.op) ∷ ((u : SharedEntry A) → In u c.shared → u.committed ≡ false → u.owner ≢ t → Swaps O u.op e.op) ∷ Allowed O (shared_ops c.shared ++ e.op ∷ []) ∷ [])
      (((a : LocalEntry B) → Before a (local_by f e) (map (local_by f) x.local) → a.mark ≡ Unpushed → Swaps Q (f e.op) a.op) ∷ ((u : SharedEntry B) → In u (map (shared_by f) c.shared) → u.committed ≡ false → u.owner ≢ t → Swaps Q u.op (f e.op))
      ∷ Allowed Q (shared_ops (map (shared_by f) c.shared) ++ f e.op ∷ []) ∷ [])
  push_alike c t x e = (
    before_mapped (local_by f) only_local x.local e _ _ (λ a. under (maps.swaps e.op a.op)),
    (all_mapped (shared_by f) c.shared _ _ (λ u. under (under (maps.swaps u.op e.op))), (shared_more c.shared e.op, tt)),
  )

  unpush_alike : (c : Config A) (id : ℕ) (x : Tx A) (e : LocalEntry A) →
      Alike
      (((b : LocalEntry A) → Before e b x.local → b.mark ≡ Pushed → Swaps O b.op e.op) ∷ Allowed O (shared_ops (without_shared id c.shared)) ∷ [])
      (((b : LocalEntry B) → Before (local_by f e) b (map (local_by f) x.local) → b.mark ≡ Pushed → Swaps Q b.op (f e.op)) ∷ Allowed Q (shared_ops (without_shared id (map (shared_by f) c.shared))) ∷ [])
  unpush_alike c id x e = (
    after_mapped (local_by f) only_local x.local e _ _ (λ b. under (maps.swaps b.op e.op)),
    (allowed_as (shared_ops (without_shared id c.shared)) _ (ap shared_ops (filter_map (λ (g : SharedEntry B). not (g.id == id)) (shared_by f) c.shared) ∙ ops_shared f (without_shared id c.shared)), tt),
  )

  pull_alike : (id : ℕ) (x : Tx A) (g : SharedEntry A) →
      Alike
      (((e : LocalEntry A) → In e x.local → e.id ≢ id) ∷ Allowed O (local_ops x.local ++ g.op ∷ []) ∷ ((a : LocalEntry A) → In a x.local → is_own a.mark ≡ true → Swaps O a.op g.op) ∷ [])
      (((e : LocalEntry B) → In e (map (local_by f) x.local) → e.id ≢ id) ∷ Allowed Q (local_ops (map (local_by f) x.local) ++ f g.op ∷ []) ∷ ((a : LocalEntry B) → In a (map (local_by f) x.local) → is_own a.mark ≡ true → Swaps Q a.op (f g.op)) ∷ [])
  pull_alike id x g = (
    all_mapped (local_by f) x.local _ _ (λ e. same),
    (local_more x.local g.op, (all_mapped (local_by f) x.local _ _ (λ a. under (maps.swaps a.op g.op)), tt)),
  )

  committed_alike : (c : Config A) (e : LocalEntry A) →
      ((g : SharedEntry A) × In g c.shared × (g.id ≡ e.id) × (g.committed ≡ true)) ↔ ((g : SharedEntry B) × In g (map (shared_by f) c.shared) × (g.id ≡ e.id) × (g.committed ≡ true))
  committed_alike c e = (
    (λ k. (shared_by f k.0, in_map (shared_by f) k.0 c.shared k.1, k.2, k.3)),
    (λ k. let m = from_map (shared_by f) k.0 c.shared k.1 in (m.0, m.1, ap (λ (w : SharedEntry B). w.id) (sym m.2) ∙ k.2, ap (λ (w : SharedEntry B). w.committed) (sym m.2) ∙ k.3)),
  )

  module _ (c : Config A) (none : NoBodies c) where
    abbrev d : Config B
    d = config_by f c

    -- what is asked of the open transaction
    of_tx : (t : Name) (F : Tx A → List (Type 0)) (G : Tx B → List (Type 0)) → ((x : Tx A) → x.body ≡ None → Alike (F x) (G (tx_by f x))) → Alike (there (tx t c.opened) F) (there (tx t d.opened) G)
    of_tx t F G h =
        subst (λ (o : Option (Tx B)). Alike (there (tx t c.opened) F) (there o G)) (sym (tx_mapped f t c.opened))
        (there_alike (tx_by f) (tx t c.opened) F G (λ x is. h x (each_found (λ (y : Tx A). y.body ≡ None) (λ y. y.name =ⁿ t) c.opened x none is)))

    of_mark : (id : ℕ) (m : Mark) (x : Tx A) (F : LocalEntry A → List (Type 0)) (G : LocalEntry B → List (Type 0)) → ((e : LocalEntry A) → Alike (F e) (G (local_by f e))) → Alike (there (at_mark id m x.local) F) (there (at_mark id m (map (local_by f) x.local)) G)
    of_mark id m x F G h =
        subst (λ (o : Option (LocalEntry B)). Alike (there (at_mark id m x.local) F) (there o G)) (sym (at_mark_mapped f id m x.local))
        (there_alike (local_by f) (at_mark id m x.local) F G (λ e is. h e))

    of_shared : (t : Name) (id : ℕ) (F : SharedEntry A → List (Type 0)) (G : SharedEntry B → List (Type 0)) → ((g : SharedEntry A) → Alike (F g) (G (shared_by f g))) → Alike (there (of_other t id c.shared) F) (there (of_other t id d.shared) G)
    of_shared t id F G h =
        subst (λ (o : Option (SharedEntry B)). Alike (there (of_other t id c.shared) F) (there o G)) (sym (of_other_mapped f t id c.shared))
        (there_alike (shared_by f) (of_other t id c.shared) F G (λ g is. h g))

    -- The criteria of a step.
    pub criteria_mapped : (s : Step A) → Alike (criteria O c s) (criteria Q d (mapped_step f s))
    criteria_mapped (Begin t p b) = (same, (all_mapped (tx_by f) c.opened _ _ (λ x. same), tt))
    criteria_mapped (App t id op) = of_tx t _ _ (λ x is. (same, (begins_alike x.body _ _ is, (local_more x.local op, tt))))
    criteria_mapped (Unapp t id) = of_tx t _ _ (λ x is. (subst (λ (o : Option (LocalEntry B)). IsLast id (last x.local) ↔ IsLast id o) (sym (last_mapped (local_by f) x.local)) (last_alike id (last x.local)), tt))
    criteria_mapped (Push t id) = of_tx t _ _ (λ x is. of_mark id Unpushed x _ _ (λ e. push_alike c t x e))
    criteria_mapped (Unpush t id) = of_tx t _ _ (λ x is. of_mark id Pushed x _ _ (λ e. unpush_alike c id x e))
    criteria_mapped (Pull t id) = of_tx t _ _ (λ x is. of_shared t id _ _ (λ g. pull_alike id x g))
    criteria_mapped (Unpull t id) =
        of_tx t _ _ (λ x is. of_mark id Pulled x _ _ (λ e. (
          allowed_as (local_ops (without_local id x.local)) _ (ap local_ops (filter_map (λ (w : LocalEntry B). not (w.id == id)) (local_by f) x.local) ∙ ops_local f (without_local id x.local)),
          tt,
        )))
    criteria_mapped (Cmt t) =
        of_tx t _ _ (λ x is. (
          word_alike x.body _ _ is,
          (all_mapped (local_by f) x.local _ _ (λ e. same), (all_mapped (local_by f) x.local _ _ (λ e. under (committed_alike c e)), tt)),
        ))
    criteria_mapped (Quit t) = of_tx t _ _ (λ x is. (none_alike x.local, tt))
    criteria_mapped (Note t) = of_tx t _ _ (λ x is. tt)

  -- The criteria of the start.
  pub start_mapped : (h : Option (Start A)) → Alike (start_criteria O h) (start_criteria Q (mapped_start f h))
  start_mapped None = tt
  start_mapped (Some z) = (
    (
      (λ k p q b is.
          let m = before_from_map (mapped_item f) p q z.items b in
          k m.0 m.1 m.2 (ap (λ (w : Item B). w.id) (sym m.3) ∙ is ∙ ap (λ (w : Item B). w.id) m.4)),
      (λ k p q b is. k (mapped_item f p) (mapped_item f q) (before_map (mapped_item f) p q z.items b) is),
    ),
    (allowed_as (ops z.items) _ (ops_items f z.items), tt),
  )

  -- The verdict on steps.
  pub verdict_from : (i : ℕ) (c : Config A) (ss : List (Step A)) (v : Verdict) → NoBodies c → Each StepHasNoBody ss → IsVerdictFrom O i c ss v ↔ IsVerdictFrom Q i (config_by f c) (map (mapped_step f) ss) v
  verdict_from i c [] v none bare = same
  verdict_from i c (s ∷ ss) v none bare =
      let at = λ (n : ℕ). first_alike (criteria O c s) (criteria Q (config_by f c) (mapped_step f s)) n (criteria_mapped c none s) in
      let more : IsVerdictFrom O (suc i) (then c s) ss v ↔ IsVerdictFrom Q (suc i) (then (config_by f c) (mapped_step f s)) (map (mapped_step f) ss) v =
      subst (λ (d : Config B). IsVerdictFrom O (suc i) (then c s) ss v ↔ IsVerdictFrom Q (suc i) d (map (mapped_step f) ss) v) (sym (then_mapped f c s))
      (verdict_from (suc i) (then c s) ss v (bare_then c s none bare.0) bare.1) in (
        (λ k. elim k [ inl r ↦ inl (r.0, (at (suc r.0)).0 r.1, r.2) | inr r ↦ inr ((at 0).0 r.0, more.0 r.1) ]),
        (λ k. elim k [ inl r ↦ inl (r.0, (at (suc r.0)).1 r.1, r.2) | inr r ↦ inr ((at 0).1 r.0, more.1 r.1) ]),
      )

  -- The verdict of a run.
  pub verdict_mapped : (h : Option (Start A)) (ss : List (Step A)) (v : Verdict) → Each StepHasNoBody ss → IsVerdict O h ss v ↔ IsVerdict Q (mapped_start f h) (map (mapped_step f) ss) v
  verdict_mapped h ss v bare =
      let at = λ (n : ℕ). first_alike (start_criteria O h) (start_criteria Q (mapped_start f h)) n (start_mapped h) in
      let more : IsVerdictFrom O 1 (first h) ss v ↔ IsVerdictFrom Q 1 (first (mapped_start f h)) (map (mapped_step f) ss) v =
      subst (λ (d : Config B). IsVerdictFrom O 1 (first h) ss v ↔ IsVerdictFrom Q 1 d (map (mapped_step f) ss) v) (sym (first_mapped f h)) (verdict_from 1 (first h) ss v (bare_first h) bare) in (
        (λ k. elim k [ inl r ↦ inl (r.0, (at (suc r.0)).0 r.1, r.2) | inr r ↦ inr ((at 0).0 r.0, more.0 r.1) ]),
        (λ k. elim k [ inl r ↦ inl (r.0, (at (suc r.0)).1 r.1, r.2) | inr r ↦ inr ((at 0).1 r.0, more.1 r.1) ]),
      )
