-- The summary finds the first step of a record that violates a criterion, and the criterion.
use Rattle.std.specs.Prelude.{◌≡◌, ◌≢◌, ◌↔◌, ℕ, suc, Bool, true, false, cond, List, [], ◌∷◌, ◌++◌, drop, length, map, Option, None, Some}
use Rattle.std.proofs.Common.{refl, sym, ap, subst, ◌∙◌, append_assoc}
use Rattle.std.proofs.lemmas.List.{append-nil, map-append}
use mathlib.Core.Logic.{inl, inr}
use Rattle.pp_core.specs.declared.call.Style.{Style}
use Rattle.pp_core.specs.declared.call.Style.TheVariants.{Rules, Boosted, Optimistic, Hardware, Dependent}
use Rattle.pp_model.specs.Body.{Begins, IsWord}
use Rattle.pp_model.specs.Lists.{In, Before}
use Rattle.pp_model.specs.Names.{Name}
use Rattle.pp_model.specs.Object.{Object, Allowed, Item, Swaps, TellsStates}
use Rattle.pp_model.specs.Config.{Unpushed, Pushed, Pulled, is_own, is_mark, LocalEntry, SharedEntry, Tx, Config, Step, Begin, App, Push, Cmt, Quit, Note, item, as_applied, as_pulled, as_shared, own, own_items, local_ops, shared_ops, tx, at_mark, of_other}
use Rattle.pp_model.specs.Rules.{FirstFalse, Meets, RunsFrom, calls, criteria}
use Rattle.pp_model.proofs.Begin.{before_added}
use Rattle.pp_model.proofs.Lists.{in_left, in_cases, in_map, from_map, before_across, before_in_first}
use Rattle.pp_model.proofs.Logs.{found_tx, is_mark-true}
use Rattle.pp_records.specs.Expansions.{IsOfStyle, expand, steps_of_open, op_steps, commit_steps, pushall, refresh, back, taken_out}
use Rattle.pp_records.specs.Fronts.{Front, mark_of}
use Rattle.pp_records.specs.Records.{RunRecord}
use Rattle.pp_laws_summary.specs.Counts.{back_count, section_count}
use Rattle.pp_laws_summary.specs.Failures.{Asked, pull_facts, pull_asks, app_facts, push_facts, at_once_asks, op_asks, publish_facts, publish_asks, cmt_facts, commit_asks, open_asks, record_asks, safe}
use Rattle.pp_laws_summary.specs.LocalLogs.{HasSummary, Summable, as_pushed, posted, push_mode, pulled_before, unpushed}
use Rattle.pp_laws_summary.specs.Places.{PlacesPart}
use Rattle.pp_laws_summary.specs.Summary.{Held, OpenSummary, Summary, open_named, open_summary, summary_missing, summary_mode, summary_of, summary_view}
use Rattle.pp_laws_summary.specs.Views.{missing_at}
use Rattle.pp_laws_summary.proofs.Asks.{Alike, Matches, alike, there_one, there_two, there_none, match_safe, match_count, match_append}
use Rattle.pp_laws_summary.proofs.Commit as commits
use Rattle.pp_laws_summary.proofs.Counts as counts
use Rattle.pp_laws_summary.proofs.Entries.{same_or_not}
use Rattle.pp_laws_summary.proofs.Keeps.{abort_runs, back_runs}
use Rattle.pp_laws_summary.proofs.LocalRecords.{by_record}
use Rattle.pp_laws_summary.proofs.Parts.{AllAt, whole_from_part, part_from_whole, swap_apart}
use Rattle.pp_laws_summary.proofs.Pulled.{ops_more, own_more}
use Rattle.pp_laws_summary.proofs.Pulls.{Pulling, pulls}
use Rattle.pp_laws_summary.proofs.Pulls as pulling
use Rattle.pp_laws_summary.proofs.Pushed.{own_pushed}
use Rattle.pp_laws_summary.proofs.Pushes.{Pushing, pushes}
use Rattle.pp_laws_summary.proofs.Pushes as pushing
use Rattle.pp_laws_summary.proofs.Steps as steps
use Rattle.pp_laws_summary.proofs.SummaryRecords.{to_open, open_named_is, own_of_in, in_own_of}
use Rattle.pp_laws_summary.proofs.SummaryViews.{Match, match_of, first_is, missing_is, log_to, log_from, own_unpushed}

same : (P : Type 0) → P ↔ P
same P = ((λ h. h), (λ h. h))

-- pulled entries and an operation, all on one object
pub all_at : {Op : Type 0} (place : Op → ℕ) (o : ℕ) (P : List (SharedEntry Op)) (a : Op) → ((g : SharedEntry Op) → In g P → place g.op ≡ o) → place a ≡ o → AllAt place o (shared_ops P ++ a ∷ [])
all_at place o P a at h b i = elim (in_cases b (shared_ops P) (a ∷ []) i) [
  | inl j ↦ let r = from_map (λ (w : SharedEntry _). w.op) b P j in ap place r.2 ∙ at r.0 r.1
  | inr (inl j) ↦ ap place j ∙ h
  | inr (inr j) ↦ absurd j
]

-- Posted entries have the operations of the log.
pub posted_ops : {Op : Type 0} (t : Name) (l : List (LocalEntry Op)) → shared_ops (posted t l) ≡ local_ops l
posted_ops t [] = refl
posted_ops {Op} t (e ∷ l) = ap (λ (w : List Op). e.op ∷ w) (posted_ops t l)

module _ {Op State : Type 0} (O : Object Op State) (place : Op → ℕ) (part : PlacesPart O place) (tells : TellsStates O) (style : Style) (has : HasSummary style) (f : Front) (c : Config Op) (b : Summable O place f c) where
  abbrev B : Summary Op
  B = summary_of place (record { front = f; config = c })

  module _ (t : Name) (x : Tx Op) (lookup : tx t c.opened ≡ Some x) where
    abbrev y : OpenSummary Op
    y = open_summary place f x

    ix : In x c.opened
    ix = (found_tx t c.opened x lookup).0

    nx : x.name ≡ t
    nx = (found_tx t c.opened x lookup).1

    own_in : (a : LocalEntry Op) → In a x.local → is_own a.mark ≡ true → In a (own x.local)
    own_in a i o = in_own_of O place part tells style has f c b t x lookup a i o

    of_own : (a : LocalEntry Op) → In a (own x.local) → In a x.local × (is_own a.mark ≡ true)
    of_own a i = own_of_in O place part tells style has f c b t x lookup a i

    -- After the whole log, the same operations of the object are allowed as after the view.
    view_whole : (o : ℕ) (k : List Op) → AllAt place o k → Allowed O (summary_view place o c.done y ++ k) ↔ Allowed O (local_ops x.local ++ k)
    view_whole o k at = (
      (λ h. whole_from_part O place part o (local_ops x.local) k at (b.sound.local_allowed x ix) (log_from O place part tells f c b t x lookup o k h)),
      (λ h. log_to O place part tells f c b t x lookup o k (part_from_whole O place part o (local_ops x.local) k at h)),
    )

    -- pulls
    module _ (o : ℕ) where
      pull_match : (M P : List (SharedEntry Op)) (d : Config Op) (z : Tx Op) → Pulling O t d z M → z.local ≡ x.local ++ map as_pulled P →
          ((g : SharedEntry Op) → In g P → place g.op ≡ o) → ((g : SharedEntry Op) → In g M → place g.op ≡ o) → Matches O d (pulls O t M) (pull_asks O place B t y o P M)
      pull_match [] P d z p e at_P at_M = tt
      pull_match (g ∷ M) P d z p e at_P at_M = (
        refl,
        there_two (tx t d.opened) (λ (w : Tx Op). of_other t g.id d.shared)
            (λ (w : Tx Op) (h : SharedEntry Op). ((a : LocalEntry Op) → In a w.local → a.id ≢ g.id) ∷ Allowed O (local_ops w.local ++ h.op ∷ []) ∷ ((a : LocalEntry Op) → In a w.local → is_own a.mark ≡ true → Swaps O a.op h.op) ∷ [])
            z g p.lookup (pulling.found O t d z g M p) (pull_facts O place B y o P g) (
              same (Unit {0}),
              (same (Unit {0}), (((λ h. p.out g (inl refl)), (λ h. tt)), (allowed, (swaps, tt)))),
            ),
        (λ h. subst (λ (w : Config Op). Matches O w (pulls O t M) (pull_asks O place B t y o (P ++ g ∷ []) M)) (sym (pulling.to O t d z g M p))
            (pull_match M (P ++ g ∷ []) (pulling.c2 O t d z g M p) (pulling.x2 O t d z g M p) (pulling.next O t d z g M p h) more at_more (λ k i. at_M k (inr i)))),
      )
        where
          at_g : place g.op ≡ o
          at_g = at_M g (inl refl)

          ops_are : local_ops z.local ++ g.op ∷ [] ≡ local_ops x.local ++ (shared_ops P ++ g.op ∷ [])
          ops_are = ap (λ (w : List (LocalEntry Op)). local_ops w ++ g.op ∷ []) e ∙ ap (λ (w : List Op). w ++ g.op ∷ []) (ops_more x.local P) ∙ append_assoc (local_ops x.local) (shared_ops P) (g.op ∷ [])

          allowed : Allowed O (summary_view place o c.done y ++ (shared_ops P ++ g.op ∷ [])) ↔ Allowed O (local_ops z.local ++ g.op ∷ [])
          allowed = subst (λ (w : List Op). Allowed O (summary_view place o c.done y ++ (shared_ops P ++ g.op ∷ [])) ↔ Allowed O w) (sym ops_are) (view_whole o (shared_ops P ++ g.op ∷ []) (all_at place o P g.op at_P at_g))

          in_z : (a : LocalEntry Op) → In a x.local → In a z.local
          in_z a i = subst (λ (w : List (LocalEntry Op)). In a w) (sym e) (in_left a x.local (map as_pulled P) i)

          own_z : (a : LocalEntry Op) → In a z.local → is_own a.mark ≡ true → In a x.local
          own_z a i h = elim (in_cases a x.local (map as_pulled P) (subst (λ (w : List (LocalEntry Op)). In a w) e i)) [
            | inl j ↦ j
            | inr j ↦ let r = from_map as_pulled a P j in absurd (let q : false ≡ true = ap (λ (w : LocalEntry Op). is_own w.mark) (sym r.2) ∙ h in cc)
          ]

          swaps : ((a : LocalEntry Op) → In a (own x.local) → place a.op ≡ o → Swaps O a.op g.op) ↔ ((a : LocalEntry Op) → In a z.local → is_own a.mark ≡ true → Swaps O a.op g.op)
          swaps = (
            (λ h a i m. elim (same_or_not (place a.op) o) [
              | inl q ↦ h a (own_in a (own_z a i m) m) q
              | inr q ↦ (swap_apart O place part).apart a.op g.op (λ n. q (n ∙ at_g))
            ]),
            (λ h a i q. let k = of_own a i in h a (in_z a k.0) k.1),
          )

          more : z.local ++ as_pulled g ∷ [] ≡ x.local ++ map as_pulled (P ++ g ∷ [])
          more = ap (λ (w : List (LocalEntry Op)). w ++ as_pulled g ∷ []) e ∙ append_assoc x.local (map as_pulled P) (as_pulled g ∷ [])
              ∙ ap (λ (w : List (LocalEntry Op)). x.local ++ w) (sym (map-append as_pulled P (g ∷ [])))

          at_more : (k : SharedEntry Op) → In k (P ++ g ∷ []) → place k.op ≡ o
          at_more k i = elim (in_cases k P (g ∷ []) i) [
            | inl j ↦ at_P k j
            | inr (inl j) ↦ ap (λ (w : SharedEntry Op). place w.op) j ∙ at_g
            | inr (inr j) ↦ absurd j
          ]

      -- the pulls of a log, from its configuration on
      pulls_match : (M : List (SharedEntry Op)) → Pulling O t c x M → ((g : SharedEntry Op) → In g M → place g.op ≡ o) → Matches O c (pulls O t M) (pull_asks O place B t y o [] M)
      pulls_match M p at = pull_match M [] c x p (sym (append-nil x.local)) (λ g i. absurd i) at

    -- an operation that pulls M first
    module _ (m : Option ℕ) (id : ℕ) (op : Op) where
      abbrev M : List (SharedEntry Op)
      M = pulled_before place m (place op) c.shared x.local

      pm : Pulling O t c x (pulled_before place m (place op) c.shared x.local)
      pm = steps.op_pulling O place part t c b.sound x lookup m (place op)

      at_M : (g : SharedEntry Op) → In g (pulled_before place m (place op) c.shared x.local) → place g.op ≡ place op
      at_M = steps.at_before O place part t c b.sound x lookup m (place op)

      abbrev K : List (LocalEntry Op)
      K = x.local ++ map as_pulled M

      abbrev c1 : Config Op
      c1 = steps.c1 O place part t c b.sound x lookup m id op M pm at_M

      abbrev x1 : Tx Op
      x1 = steps.x1 O place part t c b.sound x lookup m id op M pm at_M

      ops_are : local_ops K ++ op ∷ [] ≡ local_ops x.local ++ (shared_ops M ++ op ∷ [])
      ops_are = ap (λ (w : List Op). w ++ op ∷ []) (ops_more x.local M) ∙ append_assoc (local_ops x.local) (shared_ops M) (op ∷ [])

      begins : Begins x.body (calls O (own_items x.local) ++ O.call op ∷ []) ↔ Begins x.body (calls O (own_items K) ++ O.call op ∷ [])
      begins = subst (λ (w : List (Item Op)). Begins x.body (calls O (own_items x.local) ++ O.call op ∷ []) ↔ Begins x.body (calls O w ++ O.call op ∷ [])) (sym (own_more x.local M))
          (same (Begins x.body (calls O (own_items x.local) ++ O.call op ∷ [])))

      allowed : Allowed O (summary_view place (place op) c.done y ++ (shared_ops M ++ op ∷ [])) ↔ Allowed O (local_ops K ++ op ∷ [])
      allowed = subst (λ (w : List Op). Allowed O (summary_view place (place op) c.done y ++ (shared_ops M ++ op ∷ [])) ↔ Allowed O w) (sym ops_are)
          (view_whole (place op) (shared_ops M ++ op ∷ []) (all_at place (place op) M op at_M refl))

      app_first : (r : RunsFrom O c (pulls O t M)) (n : ℕ) → FirstFalse (app_facts O place B id op y M) n ↔ FirstFalse (criteria O c1 (App t id op)) n
      app_first r = there_one (tx t c1.opened) (λ (w : Tx Op). (In id c.ids → ⊥) ∷ Begins w.body (calls O (own_items w.local) ++ O.call op ∷ []) ∷ Allowed O (local_ops w.local ++ op ∷ []) ∷ [])
          x1 (steps.l1 O place part t c b.sound x lookup m id op M pm at_M r) (app_facts O place B id op y M)
          (same (Unit {0}), (same (In id c.ids → ⊥), (begins, (allowed, tt))))

      module _ (r : RunsFrom O c (pulls O t M)) (q : Meets O c1 (App t id op)) where
        abbrev c2 : Config Op
        c2 = steps.c2 O place part t c b.sound x lookup m id op M pm at_M r

        abbrev x2 : Tx Op
        x2 = steps.x2 O place part t c b.sound x lookup m id op M pm at_M r

        abbrev e : LocalEntry Op
        e = as_applied t id op

        own_K : (a : LocalEntry Op) → In a K → a.mark ≡ Unpushed → In a x.local
        own_K = steps.own_of_K O place part t c b.sound x lookup m id op M pm at_M r q

        turns : ((a : LocalEntry Op) → In a (own x.local) → place a.op ≡ place op → a.mark ≡ Unpushed → Swaps O op a.op) ↔ ((a : LocalEntry Op) → Before a e (K ++ e ∷ []) → a.mark ≡ Unpushed → Swaps O op a.op)
        turns = (
          (λ h a i n.
              let j : In a x.local = own_K a (elim (before_added K e a e i) [ inl k ↦ before_in_first a e K k | inr k ↦ k.0 ]) n in
              elim (same_or_not (place a.op) (place op)) [
                | inl p ↦ h a (own_in a j (ap is_own n)) p n
                | inr p ↦ (swap_apart O place part).apart op a.op (λ z. p (sym z))
              ]),
          (λ h a i p n. h a (before_across a e K (e ∷ []) (in_left a x.local (map as_pulled M) (of_own a i).0) (inl refl)) n),
        )

        passes : ((u : SharedEntry Op) → In u c.shared → u.committed ≡ false → u.owner ≢ x.name → place u.op ≡ place op → Swaps O u.op op) ↔ ((u : SharedEntry Op) → In u c.shared → u.committed ≡ false → u.owner ≢ t → Swaps O u.op op)
        passes = (
          (λ h u i n k. elim (same_or_not (place u.op) (place op)) [
            | inl p ↦ h u i n (λ z. k (z ∙ nx)) p
            | inr p ↦ (swap_apart O place part).apart u.op op p
          ]),
          (λ h u i n k p. h u i n (λ z. k (z ∙ sym nx))),
        )

        push_first : (n : ℕ) → FirstFalse (push_facts O place B op y) n ↔ FirstFalse (criteria O c2 (Push t id)) n
        push_first = there_two (tx t c2.opened) (λ (w : Tx Op). at_mark id Unpushed w.local)
            (λ (w : Tx Op) (h : LocalEntry Op). ((a : LocalEntry Op) → Before a h w.local → a.mark ≡ Unpushed → Swaps O h.op a.op) ∷ ((u : SharedEntry Op) → In u c.shared → u.committed ≡ false → u.owner ≢ t → Swaps O u.op h.op) ∷ Allowed O (shared_ops c.shared ++ h.op ∷ []) ∷ [])
            x2 e (steps.l2 O place part t c b.sound x lookup m id op M pm at_M r q) (steps.found O place part t c b.sound x lookup m id op M pm at_M r q) (push_facts O place B op y)
            (same (Unit {0}), (same (Unit {0}), (turns, (passes, (same (Allowed O (shared_ops c.shared ++ op ∷ [])), tt)))))

        tail_match : (k : Option ℕ) (h : Option Held) → Match place (place op) x.local y k h → Matches O c2 (steps.tail k t id) (at_once_asks h O place B t id op y)
        tail_match None None w = (refl, push_first, λ z. tt)
        tail_match None (Some h) w = absurd w
        tail_match (Some k) None w = absurd w
        tail_match (Some k) (Some h) w = tt

      op_match : (h : Option Held) → Match place (place op) x.local y m h → Matches O c (pulls O t M ++ App t id op ∷ steps.tail m t id) (op_asks O place h B t id op y)
      op_match h w =
          let o = place op in
          subst (λ (N : List (SharedEntry Op)). Matches O c (pulls O t M ++ App t id op ∷ steps.tail m t id) (pull_asks O place B t y o [] N ++ (record { step = Some (App t id op); asks = app_facts O place B id op y N } ∷ at_once_asks h O place B t id op y)))
          (first_is O place part tells f c b t x lookup o m h w)
          (match_append O (pulls O t M) (pull_asks O place B t y o [] M) (App t id op ∷ steps.tail m t id) (record { step = Some (App t id op); asks = app_facts O place B id op y M } ∷ at_once_asks h O place B t id op y) c
          (pulls_match o M pm at_M)
          (λ r. subst (λ (d : Config Op). Matches O d (App t id op ∷ steps.tail m t id) (record { step = Some (App t id op); asks = app_facts O place B id op y M } ∷ at_once_asks h O place B t id op y))
          (sym (steps.pull_leads O place part t c b.sound x lookup m id op M pm at_M r))
          (refl, app_first r, λ q. subst (λ (d : Config Op). Matches O d (steps.tail m t id) (at_once_asks h O place B t id op y)) (sym (steps.to2 O place part t c b.sound x lookup m id op M pm at_M r)) (tail_match r q m h w))))

    -- the push of all unpushed entries
    publish_match : (S P Q : List (LocalEntry Op)) (d : Config Op) (z : Tx Op) → Pushing O t d z P S → d.shared ≡ c.shared ++ posted t Q → Matches O d (pushes O t (unpushed S)) (publish_asks O place B t y Q (unpushed S))
    publish_match [] P Q d z p e = tt
    publish_match (a ∷ S) P Q d z p e = by (is_mark a.mark Unpushed) refl (λ P Q d z p e. publish_match S P Q d z p e)
      where
        more : d.shared ++ as_shared t false (item a) ∷ [] ≡ c.shared ++ posted t (Q ++ a ∷ [])
        more = ap (λ (w : List (SharedEntry Op)). w ++ as_shared t false (item a) ∷ []) e ∙ append_assoc c.shared (posted t Q) (as_shared t false (item a) ∷ [])
            ∙ ap (λ (w : List (SharedEntry Op)). c.shared ++ w) (sym (map-append (λ (w : LocalEntry Op). as_shared t false (item w)) Q (a ∷ [])))

        ops_are : shared_ops d.shared ++ a.op ∷ [] ≡ shared_ops c.shared ++ (local_ops Q ++ a.op ∷ [])
        ops_are = ap (λ (w : List (SharedEntry Op)). shared_ops w ++ a.op ∷ []) e ∙ ap (λ (w : List Op). w ++ a.op ∷ []) (map-append (λ (g : SharedEntry Op). g.op) c.shared (posted t Q) ∙ ap (λ (w : List Op). shared_ops c.shared ++ w) (posted_ops t Q))
            ∙ append_assoc (shared_ops c.shared) (local_ops Q) (a.op ∷ [])

        allowed : Allowed O (shared_ops c.shared ++ (local_ops Q ++ a.op ∷ [])) ↔ Allowed O (shared_ops d.shared ++ a.op ∷ [])
        allowed = subst (λ (w : List Op). Allowed O (shared_ops c.shared ++ (local_ops Q ++ a.op ∷ [])) ↔ Allowed O w) (sym ops_are) (same (Allowed O (shared_ops c.shared ++ (local_ops Q ++ a.op ∷ []))))

        passes : ((u : SharedEntry Op) → In u c.shared → u.committed ≡ false → u.owner ≢ x.name → place u.op ≡ place a.op → Swaps O u.op a.op) ↔ ((u : SharedEntry Op) → In u d.shared → u.committed ≡ false → u.owner ≢ t → Swaps O u.op a.op)
        passes = (
          (λ h u i n k. elim (in_cases u c.shared (posted t Q) (subst (λ (w : List (SharedEntry Op)). In u w) e i)) [
            | inl j ↦ elim (same_or_not (place u.op) (place a.op)) [
              | inl q ↦ h u j n (λ w. k (w ∙ nx)) q
              | inr q ↦ (swap_apart O place part).apart u.op a.op q
            ]
            | inr j ↦ let r = from_map (λ (w : LocalEntry Op). as_shared t false (item w)) u Q j in absurd (k (ap (λ (w : SharedEntry Op). w.owner) r.2))
          ]),
          (λ h u i n k q. h u (subst (λ (w : List (SharedEntry Op)). In u w) (sym e) (in_left u c.shared (posted t Q) i)) n (λ w. k (w ∙ sym nx))),
        )

        first : (m : a.mark ≡ Unpushed) (n : ℕ) → FirstFalse (publish_facts O place B y Q a) n ↔ FirstFalse (criteria O d (Push t a.id)) n
        first m = there_two (tx t d.opened) (λ (w : Tx Op). at_mark a.id Unpushed w.local)
            (λ (w : Tx Op) (h : LocalEntry Op). ((k : LocalEntry Op) → Before k h w.local → k.mark ≡ Unpushed → Swaps O h.op k.op) ∷ ((u : SharedEntry Op) → In u d.shared → u.committed ≡ false → u.owner ≢ t → Swaps O u.op h.op) ∷ Allowed O (shared_ops d.shared ++ h.op ∷ []) ∷ [])
            z a p.lookup (pushing.found O t d z P a S p m) (publish_facts O place B y Q a) (
              same (Unit {0}),
              (same (Unit {0}), (((λ h k i n. absurd (pushing.first_unpushed O t d z P a S p m k i n)), (λ h. tt)), (passes, (allowed, tt)))),
            )

        by : (z0 : Bool) → is_mark a.mark Unpushed ≡ z0 →
            ((P Q : List (LocalEntry Op)) (d : Config Op) (z : Tx Op) → Pushing O t d z P S → d.shared ≡ c.shared ++ posted t Q → Matches O d (pushes O t (unpushed S)) (publish_asks O place B t y Q (unpushed S))) →
            Matches O d (pushes O t (cond z0 (a ∷ unpushed S) (unpushed S))) (publish_asks O place B t y Q (cond z0 (a ∷ unpushed S) (unpushed S)))
        by true h rec =
            let m = is_mark-true a.mark Unpushed h in (
              refl,
              first m,
              (λ q. subst (λ (w : Config Op). Matches O w (pushes O t (unpushed S)) (publish_asks O place B t y (Q ++ a ∷ []) (unpushed S))) (sym (pushing.to O t d z P a S p m))
                  (rec _ (Q ++ a ∷ []) (pushing.c2 O t d z P a S p m) (pushing.x2 O t d z P a S p m) (pushing.next O t d z P a S p m q) more)),
            )
        by false h rec = rec _ Q d z (pushing.passed O t d z P a S p h) e

    pushall_match : Matches O c (pushall t x.local) (publish_asks O place B t y [] (unpushed y.own))
    pushall_match = subst (λ (w : List (LocalEntry Op)). Matches O c (pushall t x.local) (publish_asks O place B t y [] w)) (sym (own_unpushed x.local))
        (publish_match x.local [] [] c x (record { sound = b.sound; lookup = lookup; log = refl; pushed = λ a i. absurd i }) (sym (append-nil c.shared)))

    -- a commit
    word_to : IsWord x.body (calls O (map item (own x.local))) ↔ IsWord x.body (calls O (own_items (map as_pushed x.local)))
    word_to = subst (λ (w : List (Item Op)). IsWord x.body (calls O (own_items x.local)) ↔ IsWord x.body (calls O w)) (sym (own_pushed x.local)) (same (IsWord x.body (calls O (own_items x.local))))

    abbrev cmt_asked : Config Op → Tx Op → List (Type 0)
    cmt_asked d w =
        IsWord w.body (calls O (own_items w.local))
        ∷ ((e : LocalEntry Op) → In e w.local → is_own e.mark ≡ true → e.mark ≡ Pushed)
        ∷ ((e : LocalEntry Op) → In e w.local → e.mark ≡ Pulled → (g : SharedEntry Op) × In g d.shared × (g.id ≡ e.id) × (g.committed ≡ true))
        ∷ []

    all_pushed : ((e : LocalEntry Op) → In e (own x.local) → is_own e.mark ≡ true → e.mark ≡ Pushed) ↔ ((e : LocalEntry Op) → In e x.local → is_own e.mark ≡ true → e.mark ≡ Pushed)
    all_pushed = ((λ h e i o. h e (own_in e i o) o), (λ h e i o. h e (of_own e i).0 o))

    alone_match : Matches O c (Cmt t ∷ []) (record { step = Some (Cmt t); asks = cmt_facts Boosted O y } ∷ [])
    alone_match = (
      refl,
      there_one (tx t c.opened) (cmt_asked c) x lookup (cmt_facts Boosted O y)
          (same (Unit {0}), (same (IsWord x.body (calls O (own_items x.local))), (all_pushed, (((λ h. commits.stand_done O place part f c b t x lookup), (λ h. tt)), tt)))),
      (λ q. tt),
    )

    abbrev d1 : Config Op
    d1 = commits.c1 O place part f c b t x lookup

    abbrev z1 : Tx Op
    z1 = commits.x1 O place part f c b t x lookup

    late_match : (qs : List (Type 0)) → Alike qs (Unit {0} ∷ cmt_asked d1 z1) → Matches O c (pushall t x.local ++ Cmt t ∷ []) (publish_asks O place B t y [] (unpushed y.own) ++ record { step = Some (Cmt t); asks = qs } ∷ [])
    late_match qs k = match_append O (pushall t x.local) (publish_asks O place B t y [] (unpushed y.own)) (Cmt t ∷ []) (record { step = Some (Cmt t); asks = qs } ∷ []) c pushall_match
        (λ r. subst (λ (w : Config Op). Matches O w (Cmt t ∷ []) (record { step = Some (Cmt t); asks = qs } ∷ [])) (sym (steps.pushes_lead O place part t c b.sound x lookup r))
        (refl, there_one (tx t d1.opened) (cmt_asked d1) z1 (commits.l1 O place part f c b t x lookup) qs k, (λ q. tt)))

    late_alike : Alike (Unit {0} ∷ IsWord x.body (calls O (map item (own x.local))) ∷ Unit {0} ∷ Unit {0} ∷ []) (Unit {0} ∷ cmt_asked d1 z1)
    late_alike = (
      same (Unit {0}),
      (word_to, (((λ h. commits.late_pushed O place part f c b t x lookup), (λ h. tt)), (((λ h. commits.late_done O place part f c b t x lookup), (λ h. tt)), tt))),
    )

    commit_match : (style : Style) → HasSummary style → Matches O c (commit_steps style x.local t) (commit_asks style O place B t y)
    commit_match Rules h = absurd h
    commit_match Boosted h = alone_match
    commit_match Optimistic h = late_match (cmt_facts Optimistic O y) late_alike
    commit_match Hardware h = late_match (cmt_facts Hardware O y) late_alike
    commit_match Dependent h = absurd h

    -- NOTE, and then steps that match
    note_match : (ss : List (Step Op)) (qs : List (Asked Op)) → Matches O c ss qs → Matches O c (Note t ∷ ss) (safe 1 ++ qs)
    note_match ss qs m = match_append O (Note t ∷ []) (safe 1) ss qs c (match_safe O (Note t ∷ []) c ((back_runs O place part f c b t x lookup 0).0, tt)) (λ r. m)

    ops_match : (id : ℕ) (op : Op) → Matches O c (op_steps place style f c.shared x.local t id op) (op_asks O place (summary_mode style B.kinds y (place op)) B t id op y)
    ops_match id op =
        let o = place op in
        subst (λ (w : List (Step Op)). Matches O c w (op_asks O place (summary_mode style B.kinds y o) B t id op y)) (sym (steps.style_steps O place part t c b.sound x lookup style has f id op))
        (op_match (push_mode style f t o) id op (summary_mode style B.kinds y o) (match_of O place part tells f c b t x lookup style has o))

    refresh_match : (o : ℕ) → Matches O c (Note t ∷ refresh place t o c.shared x.local) (safe 1 ++ pull_asks O place B t y o [] (summary_missing place o B y))
    refresh_match o =
        let N = missing_at place o c.shared x.local in
        note_match (refresh place t o c.shared x.local) (pull_asks O place B t y o [] (summary_missing place o B y))
        (subst (λ (w : List (SharedEntry Op)). Matches O c (pulls O t N) (pull_asks O place B t y o [] w)) (missing_is O place part tells f c b t x lookup o)
        (pulls_match o N (steps.op_pulling O place part t c b.sound x lookup None o) (steps.at_before O place part t c b.sound x lookup None o)))

  -- a record of a transaction that may be open
  open_match : (t : Name) (alone : Step Op) (ss : List (LocalEntry Op) → List (Step Op)) (F : OpenSummary Op → List (Asked Op)) →
      (tx t c.opened ≡ None → (n : ℕ) → FirstFalse (⊥ ∷ []) n ↔ FirstFalse (criteria O c alone) n) →
      ((x : Tx Op) → tx t c.opened ≡ Some x → Matches O c (ss x.local) (F (open_summary place f x))) →
      Matches O c (steps_of_open (tx t c.opened) alone ss) (open_asks (open_named t B.opened) alone F)
  open_match t alone ss F none some =
      subst (λ (w : Option (OpenSummary Op)). Matches O c (steps_of_open (tx t c.opened) alone ss) (open_asks w alone F)) (sym (open_named_is place f t c.opened)) (by (tx t c.opened) refl)
    where
      by : (w : Option (Tx Op)) → tx t c.opened ≡ w → Matches O c (steps_of_open (tx t c.opened) alone ss) (open_asks (to_open place f (tx t c.opened)) alone F)
      by None e = subst (λ (w : Option (Tx Op)). Matches O c (steps_of_open w alone ss) (open_asks (to_open place f w) alone F)) (sym e) (refl, none e, (λ q. tt))
      by (Some x) e = subst (λ (w : Option (Tx Op)). Matches O c (steps_of_open w alone ss) (open_asks (to_open place f w) alone F)) (sym e) (some x e)

  threads : (p : Name) → ((x : OpenSummary Op) → In x B.opened → x.thread ≢ p) ↔ ((x : Tx Op) → In x c.opened → x.thread ≢ p)
  threads p = (
    (λ h x i. h (open_summary place f x) (in_map (open_summary place f) x c.opened i)),
    (λ h x i. let m = from_map (open_summary place f) x c.opened i in λ e. h m.0 m.1 (ap (λ (z : OpenSummary Op). z.thread) (sym m.2) ∙ e)),
  )

  note_none : (t : Name) → tx t c.opened ≡ None → (n : ℕ) → FirstFalse (⊥ ∷ []) n ↔ FirstFalse (criteria O c (Note t)) n
  note_none t e = there_none (tx t c.opened) (λ (w : Tx Op). []) e

  -- The conditions of the summary on a record match its steps.
  pub record_match : (r : RunRecord Op) → IsOfStyle style r → Matches O c (expand place style f c r) (record_asks style O place B r)
  record_match = by_record style has (λ r. Matches O c (expand place style f c r) (record_asks style O place B r))
      (λ t p w. (refl, alike ((In t c.names → ⊥) ∷ ((x : OpenSummary Op) → In x B.opened → x.thread ≢ p) ∷ []) (criteria O c (Begin t p w)) (same (In t c.names → ⊥), (threads p, tt)), (λ q. tt)))
      (λ t id op. open_match t (App t id op) (λ l. op_steps place style f c.shared l t id op) (λ x. op_asks O place (summary_mode style B.kinds x (place op)) B t id op x)
      (λ e. there_none (tx t c.opened) (λ (w : Tx Op). (In id c.ids → ⊥) ∷ Begins w.body (calls O (own_items w.local) ++ O.call op ∷ []) ∷ Allowed O (local_ops w.local ++ op ∷ []) ∷ []) e)
      (λ x e. ops_match t x e id op))
      (λ t. open_match t (Cmt t) (λ l. commit_steps style l t) (commit_asks style O place B t)
      (λ e. there_none (tx t c.opened) (λ (w : Tx Op). IsWord w.body (calls O (own_items w.local)) ∷ ((e : LocalEntry Op) → In e w.local → is_own e.mark ≡ true → e.mark ≡ Pushed)
      ∷ ((e : LocalEntry Op) → In e w.local → e.mark ≡ Pulled → (g : SharedEntry Op) × In g c.shared × (g.id ≡ e.id) × (g.committed ≡ true)) ∷ []) e)
      (λ x e. commit_match t x e style has))
      (λ t. open_match t (Quit t) (λ l. back t 0 l ++ Quit t ∷ []) (λ x. safe (suc (back_count place B x)))
      (λ e. there_none (tx t c.opened) (λ (w : Tx Op). (w.local ≡ []) ∷ []) e)
      (λ x e. match_count O (back t 0 x.local ++ Quit t ∷ []) c (suc (back_count place B (open_summary place f x))) (counts.abort_count O place part tells style has f c b t x e) (abort_runs O place part f c b t x e)))
      (λ t. open_match t (Note t) (λ l. Note t ∷ back t 0 l) (λ x. safe (suc (back_count place B x))) (note_none t)
      (λ x e. match_count O (Note t ∷ back t 0 x.local) c (suc (back_count place B (open_summary place f x))) (ap suc (counts.all_back O place part tells style has f c b t x e)) (back_runs O place part f c b t x e 0)))
      (λ t o. open_match t (Note t) (λ l. Note t ∷ refresh place t o c.shared l) (λ x. safe 1 ++ pull_asks O place B t x o [] (summary_missing place o B x)) (note_none t) (λ x e. refresh_match t x e o))
      (λ t. xbegin t (tx t c.opened) refl)
      (λ t. open_match t (Note t) (λ l. Note t ∷ pushall t l) (λ x. safe 1 ++ publish_asks O place B t x [] (unpushed x.own)) (note_none t)
      (λ x e. note_match t x e (pushall t x.local) (publish_asks O place B t (open_summary place f x) [] (unpushed (own x.local))) (pushall_match t x e)))
      (λ t. open_match t (Note t) (λ l. Note t ∷ back t (mark_of (f.section t)) l) (λ x. safe (suc (section_count place B x))) (note_none t)
      (λ x e. match_count O (Note t ∷ back t (mark_of (f.section t)) x.local) c (suc (section_count place B (open_summary place f x)))
      (ap suc (counts.since O place part tells style has f c b t x e ∙ ap (λ (u : Name). length (taken_out t (drop (mark_of (f.section u)) x.local))) (found_tx t c.opened x e).1)) (back_runs O place part f c b t x e (mark_of (f.section t)))))
    where
      xbegin : (t : Name) (w : Option (Tx Op)) → tx t c.opened ≡ w → Matches O c (Note t ∷ []) (open_asks (open_named t B.opened) (Note t) (λ x. safe 1))
      xbegin t None e = subst (λ (w : Option (OpenSummary Op)). Matches O c (Note t ∷ []) (open_asks w (Note t) (λ x. safe 1))) (sym (open_named_is place f t c.opened ∙ ap (to_open place f) e)) (refl, note_none t e, (λ q. tt))
      xbegin t (Some x) e = subst (λ (w : Option (OpenSummary Op)). Matches O c (Note t ∷ []) (open_asks w (Note t) (λ x. safe 1))) (sym (open_named_is place f t c.opened ∙ ap (to_open place f) e))
          (match_safe O (Note t ∷ []) c ((back_runs O place part f c b t x e 0).0, tt))
