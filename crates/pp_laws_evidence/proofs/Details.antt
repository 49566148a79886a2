-- A summary has the evidence of the first step of a record that violates a criterion.
use Rattle.std.specs.Prelude.{◌≡◌, ◌==◌, ◌&&◌, ◌+◌, ℕ, zero, suc, Bool, true, false, not, cond, List, [], ◌∷◌, ◌++◌, drop, filter, length, map, take, Option, None, Some}
use Rattle.std.specs.List.{position_or_len}
use Rattle.std.proofs.Common.{refl, sym, ap, subst, ◌∙◌, append_assoc, arith}
use Rattle.std.proofs.lemmas.Bool.{eq-eqb}
use Rattle.std.proofs.lemmas.List.{append-nil, map-append}
use Rattle.std.proofs.lemmas.List.Elements.{filter-append}
use mathlib.Core.Logic.{inl, inr}
use Rattle.pp_core.specs.declared.call.Style.{Style}
use Rattle.pp_core.specs.declared.call.Style.TheVariants.{Rules, Boosted, Optimistic, Hardware, Dependent}
use Rattle.pp_kind.specs.Object.{Object, IsLawful, IsPlaced, rules_of}
use Rattle.pp_kind.proofs.Places.{tells_states}
use Rattle.pp_model.specs.Lists.{In}
use Rattle.pp_model.specs.Names.{Name, ◌=ⁿ◌}
use Rattle.pp_model.specs.Object as model
use Rattle.pp_model.specs.Config.{Unpushed, Pulled, is_mark, LocalEntry, SharedEntry, Tx, Config, Step, App, Push, Pull, Cmt, Quit, Note, item, as_applied, as_pulled, as_shared, own, local_ops, shared_ops, tx, at_mark, of_other}
use Rattle.pp_model.specs.Rules.{FirstFalse, Meets, RunsFrom}
use Rattle.pp_model.proofs.Lists.{in_left, in_cases}
use Rattle.pp_model.proofs.Logs.{found_tx, is_mark-true}
use Rattle.pp_model.proofs.Names.{eq-names}
use Rattle.pp_records.specs.Expansions.{IsOfStyle, expand, steps_of_open, op_steps, commit_steps, pushall, refresh, back, taken_out}
use Rattle.pp_records.specs.Fronts.{Front, mark_of}
use Rattle.pp_records.specs.Records.{RunRecord}
use Rattle.pp_machine.specs.declared.detail.Detail.{Detail}
use Rattle.pp_machine.specs.declared.detail.Detail.TheVariants.{Nothing, Gives}
use Rattle.pp_machine.specs.Evidence.{at_number, entries_before, evidence, evidences, first_entry, first_swap, gives_behind, if_there}
use Rattle.pp_machine.specs.Standing.{stands_committed}
use Rattle.pp_laws_evidence.specs.Details.{app_detail, at_once_details, cmt_detail, commit_details, none_of, op_details, open_details, publish_detail, publish_details, pull_detail, pull_details, push_detail, record_details, uncommitted_others}
use Rattle.pp_laws_evidence.proofs.Gives.{gives_view}
use Rattle.pp_laws_evidence.proofs.Shows.{Shows, known, show_append, show_count, show_safe}
use Rattle.pp_laws_summary.specs.Counts.{back_count, section_count}
use Rattle.pp_laws_summary.specs.Failures.{Asked, app_facts, asked, at_once_asks, cmt_facts, commit_asks, op_asks, open_asks, publish_asks, publish_facts, pull_asks, record_asks, safe}
use Rattle.pp_laws_summary.specs.LocalLogs.{HasSummary, Summable, as_pushed, posted, pulled_before, push_mode, unpushed}
use Rattle.pp_laws_summary.specs.Places.{PlacesPart}
use Rattle.pp_laws_summary.specs.Summary.{Held, OpenSummary, Summary, open_named, open_summary, summary_missing, summary_mode, summary_of, summary_view}
use Rattle.pp_laws_summary.specs.Views.{missing_at}
use Rattle.pp_laws_summary.proofs.Commit as commits
use Rattle.pp_laws_summary.proofs.Counts as counts
use Rattle.pp_laws_summary.proofs.Failures.{all_at, posted_ops}
use Rattle.pp_laws_summary.proofs.LocalRecords.{by_record}
use Rattle.pp_laws_summary.proofs.Parts.{not_eq}
use Rattle.pp_laws_summary.proofs.Placed.{parts_of}
use Rattle.pp_laws_summary.proofs.Pulled.{ops_more}
use Rattle.pp_laws_summary.proofs.Pulls.{Pulling, pulls}
use Rattle.pp_laws_summary.proofs.Pulls as pulling
use Rattle.pp_laws_summary.proofs.Pushes.{Pushing, pushes}
use Rattle.pp_laws_summary.proofs.Pushes as pushing
use Rattle.pp_laws_summary.proofs.Steps as steps
use Rattle.pp_laws_summary.proofs.SummaryRecords.{to_open, open_named_is}
use Rattle.pp_laws_summary.proofs.SummaryViews.{Match, first_is, match_of, missing_is, own-append, own_unpushed}

-- pulled entries are not own
none_own : {Op : Type 0} (P : List (SharedEntry Op)) → own (map as_pulled P) ≡ []
none_own [] = refl
none_own (g ∷ P) = none_own P

none_unpushed : {Op : Type 0} (P : List (SharedEntry Op)) → unpushed (map as_pulled P) ≡ []
none_unpushed [] = refl
none_unpushed (g ∷ P) = none_unpushed P

-- posted entries are those of their owner
none_other : {Op : Type 0} (t : Name) (Q : List (LocalEntry Op)) → uncommitted_others t (posted t Q) ≡ []
none_other t [] = refl
none_other {Op} t (e ∷ Q) = ap (λ (b : Bool). cond (true && not b) (as_shared t false (item e) ∷ uncommitted_others t (posted t Q)) (uncommitted_others t (posted t Q))) (eq-names t t refl) ∙ none_other t Q

one_more : (n : ℕ) → 1 + n ≡ suc n
one_more n = omega arith

-- The entries before one at the end with a new id are all others.
before_new : {Op : Type 0} (K : List (LocalEntry Op)) (e : LocalEntry Op) → ((a : LocalEntry Op) → In a K → (a.id == e.id) ≡ false) → entries_before e.id (K ++ e ∷ []) ≡ K
before_new {Op} [] e h = ap (λ (b : Bool). take (cond (not b) (1 + 0) 0) (e ∷ [])) (eq-eqb e.id e.id refl)
before_new {Op} (a ∷ K) e h =
    ap (λ (b : Bool). take (cond (not b) (1 + position_or_len (λ (z : LocalEntry Op). z.id == e.id) (K ++ e ∷ [])) 0) (a ∷ (K ++ e ∷ []))) (h a (inl refl))
    ∙ ap (λ (k : ℕ). take k (a ∷ (K ++ e ∷ []))) (one_more (position_or_len (λ (z : LocalEntry Op). z.id == e.id) (K ++ e ∷ [])))
    ∙ ap (λ (w : List (LocalEntry Op)). a ∷ w) (before_new K e (λ d i. h d (inr i)))

-- The evidence by five criteria, if the third is not the false one.
but_third : {Op : Type 0} (n : ℕ) (p q x y r s : Detail Op) → (n ≡ 2 → ⊥) → at_number (p ∷ q ∷ x ∷ r ∷ s ∷ []) (suc n) ≡ at_number (p ∷ q ∷ y ∷ r ∷ s ∷ []) (suc n)
but_third zero p q x y r s h = refl
but_third (suc zero) p q x y r s h = refl
but_third (suc (suc zero)) p q x y r s h = absurd (h refl)
but_third (suc (suc (suc n))) p q x y r s h = refl

module _ {Shape State Op Undo : Type 0} (o : Object Shape State Op Undo) (place : Op → ℕ) (SameAt : ℕ → State → State → Type 0) (laws : IsLawful o) (places : IsPlaced o place SameAt) (shape : Shape)
    (style : Style) (has : HasSummary style) (f : Front) (c : Config Op) (b : Summable (rules_of o shape) place f c) where
  abbrev O : model.Object Op State
  O = rules_of o shape

  part : PlacesPart O place
  part = parts_of o place SameAt laws places shape

  tells : model.TellsStates O
  tells = tells_states o laws shape

  abbrev B : Summary Op
  B = summary_of place (record { front = f; config = c })

  module _ (t : Name) (x : Tx Op) (lookup : tx t c.opened ≡ Some x) where
    abbrev y : OpenSummary Op
    y = open_summary place f x

    -- the evidence of a PULL, after its first two criteria
    abbrev rest : ℕ → List (LocalEntry Op) → SharedEntry Op → List (Detail Op)
    rest id l k = Nothing ∷ gives_behind o shape id (local_ops l) k.op ∷ first_swap (λ a. a.id) (λ a. o.refuting a.op k.op) (own l) ∷ []

    -- pulls
    module _ (p : ℕ) where
      pull_show : (M P : List (SharedEntry Op)) (d : Config Op) (z : Tx Op) → Pulling O t d z M → z.local ≡ x.local ++ map as_pulled P →
          ((g : SharedEntry Op) → In g P → place g.op ≡ p) → ((g : SharedEntry Op) → In g M → place g.op ≡ p) → Shows o shape d (pulls O t M) (pull_asks O place B t y p P M) (pull_details o shape place B y p P M)
      pull_show [] P d z q e at_P at_M = tt
      pull_show (g ∷ M) P d z q e at_P at_M = (
        (λ n h. known o shape d (Pull t g.id) (pull_detail o shape place B y p P g) are n),
        (λ h. subst (λ (w : Config Op). Shows o shape w (pulls O t M) (pull_asks O place B t y p (P ++ g ∷ []) M) (pull_details o shape place B y p (P ++ g ∷ []) M)) (sym (pulling.to O t d z g M q))
            (pull_show M (P ++ g ∷ []) (pulling.c2 O t d z g M q) (pulling.x2 O t d z g M q) (pulling.next O t d z g M q h) more at_more (λ k i. at_M k (inr i)))),
      )
        where
          at_g : place g.op ≡ p
          at_g = at_M g (inl refl)

          ops_are : local_ops z.local ≡ local_ops x.local ++ shared_ops P
          ops_are = ap (λ (w : List (LocalEntry Op)). local_ops w) e ∙ ops_more x.local P

          own_are : own z.local ≡ own x.local
          own_are = ap (λ (w : List (LocalEntry Op)). own w) e ∙ own-append x.local (map as_pulled P) ∙ ap (λ (w : List (LocalEntry Op)). own x.local ++ w) (none_own P) ∙ append-nil (own x.local)

          P_at : (a : Op) → In a (shared_ops P) → place a ≡ place g.op
          P_at a i = all_at place p P g.op at_P at_g a (in_ops a i) ∙ sym at_g
            where
              in_ops : (a : Op) → In a (shared_ops P) → In a (shared_ops P ++ g.op ∷ [])
              in_ops a i = in_left a (shared_ops P) (g.op ∷ []) i

          gives : gives_behind o shape g.id (local_ops z.local) g.op ≡ gives_behind o shape g.id (summary_view place p c.done y ++ shared_ops P) g.op
          gives = ap (λ (w : List Op). gives_behind o shape g.id w g.op) ops_are
              ∙ ap (λ w. Gives g.id w) (gives_view o place SameAt laws places shape f c b t x lookup (shared_ops P) g.op P_at)
              ∙ ap (λ (k : ℕ). gives_behind o shape g.id (summary_view place k c.done y ++ shared_ops P) g.op) at_g

          are : evidences o shape d (Pull t g.id) ≡ pull_detail o shape place B y p P g
          are =
              ap (λ (w : Option (Tx Op)). if_there w (λ k. if_there (of_other t g.id d.shared) (λ h. rest g.id k.local h))) q.lookup
              ∙ ap (λ (w : Option (SharedEntry Op)). Nothing ∷ if_there w (λ h. rest g.id z.local h)) (pulling.found O t d z g M q)
              ∙ ap (λ (w : Detail Op). Nothing ∷ Nothing ∷ Nothing ∷ w ∷ first_swap (λ (a : LocalEntry Op). a.id) (λ a. o.refuting a.op g.op) (own z.local) ∷ []) gives
              ∙ ap (λ (w : List (LocalEntry Op)). Nothing ∷ Nothing ∷ Nothing ∷ gives_behind o shape g.id (summary_view place p c.done y ++ shared_ops P) g.op ∷ first_swap (λ a. a.id) (λ a. o.refuting a.op g.op) w ∷ []) own_are

          more : z.local ++ as_pulled g ∷ [] ≡ x.local ++ map as_pulled (P ++ g ∷ [])
          more = ap (λ (w : List (LocalEntry Op)). w ++ as_pulled g ∷ []) e ∙ append_assoc x.local (map as_pulled P) (as_pulled g ∷ [])
              ∙ ap (λ (w : List (LocalEntry Op)). x.local ++ w) (sym (map-append as_pulled P (g ∷ [])))

          at_more : (k : SharedEntry Op) → In k (P ++ g ∷ []) → place k.op ≡ p
          at_more k i = elim (in_cases k P (g ∷ []) i) [
            | inl j ↦ at_P k j
            | inr (inl j) ↦ ap (λ (w : SharedEntry Op). place w.op) j ∙ at_g
            | inr (inr j) ↦ absurd j
          ]

      pulls_show : (M : List (SharedEntry Op)) → Pulling O t c x M → ((g : SharedEntry Op) → In g M → place g.op ≡ p) → Shows o shape c (pulls O t M) (pull_asks O place B t y p [] M) (pull_details o shape place B y p [] M)
      pulls_show M q at = pull_show M [] c x q (sym (append-nil x.local)) (λ g i. absurd i) at

    -- an operation that pulls M first
    module _ (m : Option ℕ) (id : ℕ) (op : Op) where
      abbrev M : List (SharedEntry Op)
      M = pulled_before place m (place op) c.shared x.local

      pm : Pulling O t c x (pulled_before place m (place op) c.shared x.local)
      pm = steps.op_pulling O place part t c b.sound x lookup m (place op)

      at_M : (g : SharedEntry Op) → In g (pulled_before place m (place op) c.shared x.local) → place g.op ≡ place op
      at_M = steps.at_before O place part t c b.sound x lookup m (place op)

      abbrev K : List (LocalEntry Op)
      K = x.local ++ map as_pulled M

      abbrev c1 : Config Op
      c1 = steps.c1 O place part t c b.sound x lookup m id op M pm at_M

      abbrev x1 : Tx Op
      x1 = steps.x1 O place part t c b.sound x lookup m id op M pm at_M

      M_at : (a : Op) → In a (shared_ops M) → place a ≡ place op
      M_at a i = all_at place (place op) M op at_M refl a (in_left a (shared_ops M) (op ∷ []) i)

      app_are : RunsFrom O c (pulls O t M) → evidences o shape c1 (App t id op) ≡ app_detail o shape place B id op y M
      app_are r =
          ap (λ (w : Option (Tx Op)). if_there w (λ k. Nothing ∷ Nothing ∷ gives_behind o shape id (local_ops k.local) op ∷ [])) (steps.l1 O place part t c b.sound x lookup m id op M pm at_M r)
          ∙ ap (λ (w : List Op). Nothing ∷ Nothing ∷ Nothing ∷ gives_behind o shape id w op ∷ []) (ops_more x.local M)
          ∙ ap (λ w. Nothing ∷ Nothing ∷ Nothing ∷ Gives id w ∷ []) (gives_view o place SameAt laws places shape f c b t x lookup (shared_ops M) op M_at)

      module _ (r : RunsFrom O c (pulls O t M)) (q : Meets O c1 (App t id op)) where
        abbrev c2 : Config Op
        c2 = steps.c2 O place part t c b.sound x lookup m id op M pm at_M r

        abbrev e : LocalEntry Op
        e = as_applied t id op

        -- The unpushed entries before the operation are the unpushed own entries of the log.
        before_are : filter (λ (a : LocalEntry Op). is_mark a.mark Unpushed) (entries_before id (K ++ e ∷ [])) ≡ unpushed (own x.local)
        before_are =
            ap (λ (w : List (LocalEntry Op)). unpushed w) (before_new K e (λ a i. not_eq a.id id (steps.fresh O place part t c b.sound x lookup m id op M pm at_M r q a i)))
            ∙ filter-append (λ (a : LocalEntry Op). is_mark a.mark Unpushed) x.local (map as_pulled M)
            ∙ ap (λ (w : List (LocalEntry Op)). unpushed x.local ++ w) (none_unpushed M) ∙ append-nil (unpushed x.local) ∙ sym (own_unpushed x.local)

        push_are : evidences o shape c2 (Push t id) ≡ push_detail o shape place B t id op y
        push_are =
            ap (λ (w : Option (Tx Op)). if_there w (λ k. if_there (at_mark id Unpushed k.local) (λ h.
            first_swap (λ a. a.id) (λ a. o.refuting h.op a.op) (filter (λ a. is_mark a.mark Unpushed) (entries_before id k.local))
            ∷ first_swap (λ u. u.id) (λ u. o.refuting u.op h.op) (uncommitted_others t c.shared)
            ∷ gives_behind o shape id (shared_ops c.shared) h.op ∷ []))) (steps.l2 O place part t c b.sound x lookup m id op M pm at_M r q)
            ∙ ap (λ (w : Option (LocalEntry Op)). Nothing ∷ if_there w (λ h.
            first_swap (λ a. a.id) (λ a. o.refuting h.op a.op) (filter (λ a. is_mark a.mark Unpushed) (entries_before id (K ++ e ∷ [])))
            ∷ first_swap (λ u. u.id) (λ u. o.refuting u.op h.op) (uncommitted_others t c.shared)
            ∷ gives_behind o shape id (shared_ops c.shared) h.op ∷ [])) (steps.found O place part t c b.sound x lookup m id op M pm at_M r q)
            ∙ ap (λ (w : List (LocalEntry Op)). Nothing ∷ Nothing ∷ first_swap (λ a. a.id) (λ a. o.refuting op a.op) w
            ∷ first_swap (λ u. u.id) (λ u. o.refuting u.op op) (uncommitted_others t c.shared) ∷ gives_behind o shape id (shared_ops c.shared) op ∷ []) before_are

        tail_show : (k : Option ℕ) (h : Option Held) → Match place (place op) x.local y k h → Shows o shape c2 (steps.tail k t id) (at_once_asks h O place B t id op y) (at_once_details o shape place h B t id op y)
        tail_show None None w = ((λ n z. known o shape c2 (Push t id) (push_detail o shape place B t id op y) push_are n), λ z. tt)
        tail_show None (Some h) w = absurd w
        tail_show (Some k) None w = absurd w
        tail_show (Some k) (Some h) w = tt

      op_show : (h : Option Held) → Match place (place op) x.local y m h → Shows o shape c (pulls O t M ++ App t id op ∷ steps.tail m t id) (op_asks O place h B t id op y) (op_details o shape place h B t id op y)
      op_show h w =
          let p = place op in
          subst (λ (N : List (SharedEntry Op)). Shows o shape c (pulls O t M ++ App t id op ∷ steps.tail m t id) (pull_asks O place B t y p [] N ++ (asked (App t id op) (app_facts O place B id op y N) ∷ at_once_asks h O place B t id op y))
          (pull_details o shape place B y p [] N ++ (app_detail o shape place B id op y N ∷ at_once_details o shape place h B t id op y)))
          (first_is O place part tells f c b t x lookup p m h w)
          (show_append o shape (pulls O t M) (pull_asks O place B t y p [] M) (pull_details o shape place B y p [] M) (App t id op ∷ steps.tail m t id)
          (asked (App t id op) (app_facts O place B id op y M) ∷ at_once_asks h O place B t id op y) (app_detail o shape place B id op y M ∷ at_once_details o shape place h B t id op y) c (pulls_show p M pm at_M)
          (λ r. subst (λ (d : Config Op). Shows o shape d (App t id op ∷ steps.tail m t id) (asked (App t id op) (app_facts O place B id op y M) ∷ at_once_asks h O place B t id op y) (app_detail o shape place B id op y M ∷ at_once_details o shape place h B t id op y))
          (sym (steps.pull_leads O place part t c b.sound x lookup m id op M pm at_M r)) (
            (λ n z. known o shape c1 (App t id op) (app_detail o shape place B id op y M) (app_are r) n),
            (λ q. subst (λ (d : Config Op). Shows o shape d (steps.tail m t id) (at_once_asks h O place B t id op y) (at_once_details o shape place h B t id op y)) (sym (steps.to2 O place part t c b.sound x lookup m id op M pm at_M r)) (tail_show r q m h w)),
          )))

    -- the push of all unpushed entries
    publish_show : (S P Q : List (LocalEntry Op)) (d : Config Op) (z : Tx Op) → Pushing O t d z P S → d.shared ≡ c.shared ++ posted t Q →
        Shows o shape d (pushes O t (unpushed S)) (publish_asks O place B t y Q (unpushed S)) (publish_details o shape place B t Q (unpushed S))
    publish_show [] P Q d z p e = tt
    publish_show (a ∷ S) P Q d z p e = by (is_mark a.mark Unpushed) refl (λ P Q d z p e. publish_show S P Q d z p e)
      where
        more : d.shared ++ as_shared t false (item a) ∷ [] ≡ c.shared ++ posted t (Q ++ a ∷ [])
        more = ap (λ (w : List (SharedEntry Op)). w ++ as_shared t false (item a) ∷ []) e ∙ append_assoc c.shared (posted t Q) (as_shared t false (item a) ∷ [])
            ∙ ap (λ (w : List (SharedEntry Op)). c.shared ++ w) (sym (map-append (λ (w : LocalEntry Op). as_shared t false (item w)) Q (a ∷ [])))

        ops_are : shared_ops d.shared ≡ shared_ops c.shared ++ local_ops Q
        ops_are = ap (λ (w : List (SharedEntry Op)). shared_ops w) e ∙ map-append (λ (g : SharedEntry Op). g.op) c.shared (posted t Q) ∙ ap (λ (w : List Op). shared_ops c.shared ++ w) (posted_ops t Q)

        others_are : uncommitted_others t d.shared ≡ uncommitted_others t c.shared
        others_are = ap (λ (w : List (SharedEntry Op)). uncommitted_others t w) e ∙ filter-append (λ (u : SharedEntry Op). not u.committed && not (u.owner =ⁿ t)) c.shared (posted t Q)
            ∙ ap (λ (w : List (SharedEntry Op)). uncommitted_others t c.shared ++ w) (none_other t Q) ∙ append-nil (uncommitted_others t c.shared)

        third : Detail Op
        third = first_swap (λ k. k.id) (λ k. o.refuting a.op k.op) (filter (λ k. is_mark k.mark Unpushed) (entries_before a.id z.local))

        are : (m : a.mark ≡ Unpushed) → evidences o shape d (Push t a.id) ≡ Nothing ∷ Nothing
            ∷ first_swap (λ (k : LocalEntry Op). k.id) (λ k. o.refuting a.op k.op) (filter (λ k. is_mark k.mark Unpushed) (entries_before a.id z.local))
            ∷ first_swap (λ (u : SharedEntry Op). u.id) (λ u. o.refuting u.op a.op) (uncommitted_others t c.shared) ∷ gives_behind o shape a.id (shared_ops c.shared ++ local_ops Q) a.op ∷ []
        are m =
            ap (λ (w : Option (Tx Op)). if_there w (λ k. if_there (at_mark a.id Unpushed k.local) (λ h.
            first_swap (λ a. a.id) (λ a. o.refuting h.op a.op) (filter (λ a. is_mark a.mark Unpushed) (entries_before a.id k.local))
            ∷ first_swap (λ u. u.id) (λ u. o.refuting u.op h.op) (uncommitted_others t d.shared)
            ∷ gives_behind o shape a.id (shared_ops d.shared) h.op ∷ []))) p.lookup
            ∙ ap (λ (w : Option (LocalEntry Op)). Nothing ∷ if_there w (λ h.
            first_swap (λ a. a.id) (λ a. o.refuting h.op a.op) (filter (λ a. is_mark a.mark Unpushed) (entries_before a.id z.local))
            ∷ first_swap (λ u. u.id) (λ u. o.refuting u.op h.op) (uncommitted_others t d.shared)
            ∷ gives_behind o shape a.id (shared_ops d.shared) h.op ∷ [])) (pushing.found O t d z P a S p m)
            ∙ ap (λ (w : List (SharedEntry Op)). Nothing ∷ Nothing ∷ first_swap (λ (k : LocalEntry Op). k.id) (λ k. o.refuting a.op k.op) (filter (λ k. is_mark k.mark Unpushed) (entries_before a.id z.local))
            ∷ first_swap (λ (u : SharedEntry Op). u.id) (λ u. o.refuting u.op a.op) w ∷ gives_behind o shape a.id (shared_ops d.shared) a.op ∷ []) others_are
            ∙ ap (λ (w : List Op). Nothing ∷ Nothing ∷ first_swap (λ (k : LocalEntry Op). k.id) (λ k. o.refuting a.op k.op) (filter (λ k. is_mark k.mark Unpushed) (entries_before a.id z.local))
            ∷ first_swap (λ (u : SharedEntry Op). u.id) (λ u. o.refuting u.op a.op) (uncommitted_others t c.shared) ∷ gives_behind o shape a.id w a.op ∷ []) ops_are

        not_third : (n : ℕ) → FirstFalse (publish_facts O place B y Q a) (suc n) → n ≡ 2 → ⊥
        not_third n h e = (subst (λ (k : ℕ). FirstFalse (publish_facts O place B y Q a) (suc k)) e h).1.1 tt

        first : (m : a.mark ≡ Unpushed) (n : ℕ) → FirstFalse (publish_facts O place B y Q a) (suc n) → evidence o shape d (Push t a.id) (suc n) ≡ at_number (publish_detail o shape place B t Q a) (suc n)
        first m n h = ap (λ (w : List (Detail Op)). at_number w (suc n)) (are m)
            ∙ but_third n Nothing Nothing (first_swap (λ (k : LocalEntry Op). k.id) (λ k. o.refuting a.op k.op) (filter (λ k. is_mark k.mark Unpushed) (entries_before a.id z.local))) Nothing
            (first_swap (λ (u : SharedEntry Op). u.id) (λ u. o.refuting u.op a.op) (uncommitted_others t c.shared)) (gives_behind o shape a.id (shared_ops c.shared ++ local_ops Q) a.op) (not_third n h)

        by : (z0 : Bool) → is_mark a.mark Unpushed ≡ z0 →
            ((P Q : List (LocalEntry Op)) (d : Config Op) (z : Tx Op) → Pushing O t d z P S → d.shared ≡ c.shared ++ posted t Q →
            Shows o shape d (pushes O t (unpushed S)) (publish_asks O place B t y Q (unpushed S)) (publish_details o shape place B t Q (unpushed S))) →
            Shows o shape d (pushes O t (cond z0 (a ∷ unpushed S) (unpushed S))) (publish_asks O place B t y Q (cond z0 (a ∷ unpushed S) (unpushed S))) (publish_details o shape place B t Q (cond z0 (a ∷ unpushed S) (unpushed S)))
        by true h rec =
            let m = is_mark-true a.mark Unpushed h in (
              first m,
              (λ q. subst (λ (w : Config Op). Shows o shape w (pushes O t (unpushed S)) (publish_asks O place B t y (Q ++ a ∷ []) (unpushed S)) (publish_details o shape place B t (Q ++ a ∷ []) (unpushed S))) (sym (pushing.to O t d z P a S p m))
                  (rec _ (Q ++ a ∷ []) (pushing.c2 O t d z P a S p m) (pushing.x2 O t d z P a S p m) (pushing.next O t d z P a S p m q) more)),
            )
        by false h rec = rec _ Q d z (pushing.passed O t d z P a S p h) e

    pushall_show : Shows o shape c (pushall t x.local) (publish_asks O place B t y [] (unpushed y.own)) (publish_details o shape place B t [] (unpushed y.own))
    pushall_show = subst (λ (w : List (LocalEntry Op)). Shows o shape c (pushall t x.local) (publish_asks O place B t y [] w) (publish_details o shape place B t [] w)) (sym (own_unpushed x.local))
        (publish_show x.local [] [] c x (record { sound = b.sound; lookup = lookup; log = refl; pushed = λ a i. absurd i }) (sym (append-nil c.shared)))

    -- a commit
    abbrev cmt_evidence : Config Op → List (LocalEntry Op) → List (Detail Op)
    cmt_evidence d l =
        Nothing ∷ first_entry (filter (λ e. is_mark e.mark Unpushed) l)
        ∷ first_entry (filter (λ e. is_mark e.mark Pulled && not (stands_committed e.id d.shared)) l)
        ∷ []

    not_fourth : (style : Style) (n : ℕ) → FirstFalse (cmt_facts style O y) (suc n) → n ≡ 3 → ⊥
    not_fourth style n h e = (subst (λ (k : ℕ). FirstFalse (cmt_facts style O y) (suc k)) e h).1.1.1 tt

    but_fourth : (n : ℕ) (p q r u v : Detail Op) → (n ≡ 3 → ⊥) → at_number (p ∷ q ∷ r ∷ u ∷ []) (suc n) ≡ at_number (p ∷ q ∷ r ∷ v ∷ []) (suc n)
    but_fourth zero p q r u v h = refl
    but_fourth (suc zero) p q r u v h = refl
    but_fourth (suc (suc zero)) p q r u v h = refl
    but_fourth (suc (suc (suc zero))) p q r u v h = absurd (h refl)
    but_fourth (suc (suc (suc (suc n)))) p q r u v h = refl

    but_last_two : (n : ℕ) (p q r s u v : Detail Op) → (n ≡ 2 → ⊥) → (n ≡ 3 → ⊥) → at_number (p ∷ q ∷ r ∷ u ∷ []) (suc n) ≡ at_number (p ∷ q ∷ s ∷ v ∷ []) (suc n)
    but_last_two zero p q r s u v h k = refl
    but_last_two (suc zero) p q r s u v h k = refl
    but_last_two (suc (suc zero)) p q r s u v h k = absurd (h refl)
    but_last_two (suc (suc (suc zero))) p q r s u v h k = absurd (k refl)
    but_last_two (suc (suc (suc (suc n)))) p q r s u v h k = refl

    alone_show : Shows o shape c (Cmt t ∷ []) (asked (Cmt t) (cmt_facts Boosted O y) ∷ []) (cmt_detail y ∷ [])
    alone_show = (
      (λ n h. ap (λ (w : List (Detail Op)). at_number w (suc n))
          (ap (λ (w : Option (Tx Op)). if_there w (λ k. cmt_evidence c k.local)) lookup
          ∙ ap (λ (w : List (LocalEntry Op)). Nothing ∷ Nothing ∷ first_entry w ∷ first_entry (filter (λ e. is_mark e.mark Pulled && not (stands_committed e.id c.shared)) x.local) ∷ []) (sym (own_unpushed x.local)))
          ∙ but_fourth n Nothing Nothing (first_entry (unpushed (own x.local))) (first_entry (filter (λ e. is_mark e.mark Pulled && not (stands_committed e.id c.shared)) x.local)) Nothing (not_fourth Boosted n h)),
      (λ m. tt),
    )

    abbrev d1 : Config Op
    d1 = commits.c1 O place part f c b t x lookup

    late_show : (style : Style) → (cmt_facts style O y ≡ cmt_facts Optimistic O y) → Shows o shape c (pushall t x.local ++ Cmt t ∷ []) (publish_asks O place B t y [] (unpushed y.own) ++ asked (Cmt t) (cmt_facts style O y) ∷ [])
        (publish_details o shape place B t [] (unpushed y.own) ++ cmt_detail y ∷ [])
    late_show style same = show_append o shape (pushall t x.local) (publish_asks O place B t y [] (unpushed y.own)) (publish_details o shape place B t [] (unpushed y.own))
        (Cmt t ∷ []) (asked (Cmt t) (cmt_facts style O y) ∷ []) (cmt_detail y ∷ []) c pushall_show
        (λ r. subst (λ (d : Config Op). Shows o shape d (Cmt t ∷ []) (asked (Cmt t) (cmt_facts style O y) ∷ []) (cmt_detail y ∷ [])) (sym (steps.pushes_lead O place part t c b.sound x lookup r)) (
          (λ n h. ap (λ (w : List (Detail Op)). at_number w (suc n)) (ap (λ (w : Option (Tx Op)). if_there w (λ k. cmt_evidence d1 k.local)) (commits.l1 O place part f c b t x lookup))
              ∙ but_last_two n Nothing Nothing (first_entry (filter (λ e. is_mark e.mark Unpushed) (map as_pushed x.local))) (first_entry (unpushed (own x.local)))
              (first_entry (filter (λ e. is_mark e.mark Pulled && not (stands_committed e.id d1.shared)) (map as_pushed x.local))) Nothing
              (λ e. (subst (λ (k : ℕ). FirstFalse (cmt_facts Optimistic O y) (suc k)) e (subst (λ (w : List (Type 0)). FirstFalse w (suc n)) same h)).1.1 tt) (not_fourth style n h)),
          (λ m. tt),
        ))

    commit_show : (style : Style) → HasSummary style → Shows o shape c (commit_steps style x.local t) (commit_asks style O place B t y) (commit_details o shape place style B t y)
    commit_show Rules h = absurd h
    commit_show Boosted h = alone_show
    commit_show Optimistic h = late_show Optimistic refl
    commit_show Hardware h = late_show Hardware refl
    commit_show Dependent h = absurd h

    -- NOTE, and then steps with evidence
    note_show : (ss : List (Step Op)) (qs : List (Asked Op)) (ds : List (List (Detail Op))) → Shows o shape c ss qs ds → Shows o shape c (Note t ∷ ss) (safe 1 ++ qs) (none_of 1 ++ ds)
    note_show ss qs ds w = show_append o shape (Note t ∷ []) (safe 1) (none_of 1) ss qs ds c (show_safe o shape (Note t ∷ []) c) (λ r. w)

    ops_show : (id : ℕ) (op : Op) → Shows o shape c (op_steps place style f c.shared x.local t id op) (op_asks O place (summary_mode style B.kinds y (place op)) B t id op y) (op_details o shape place (summary_mode style B.kinds y (place op)) B t id op y)
    ops_show id op =
        let p = place op in
        subst (λ (w : List (Step Op)). Shows o shape c w (op_asks O place (summary_mode style B.kinds y p) B t id op y) (op_details o shape place (summary_mode style B.kinds y p) B t id op y)) (sym (steps.style_steps O place part t c b.sound x lookup style has f id op))
        (op_show (push_mode style f t p) id op (summary_mode style B.kinds y p) (match_of O place part tells f c b t x lookup style has p))

    refresh_show : (p : ℕ) → Shows o shape c (Note t ∷ refresh place t p c.shared x.local) (safe 1 ++ pull_asks O place B t y p [] (summary_missing place p B y)) (none_of 1 ++ pull_details o shape place B y p [] (summary_missing place p B y))
    refresh_show p =
        let N = missing_at place p c.shared x.local in
        note_show (refresh place t p c.shared x.local) (pull_asks O place B t y p [] (summary_missing place p B y)) (pull_details o shape place B y p [] (summary_missing place p B y))
        (subst (λ (w : List (SharedEntry Op)). Shows o shape c (pulls O t N) (pull_asks O place B t y p [] w) (pull_details o shape place B y p [] w)) (missing_is O place part tells f c b t x lookup p)
        (pulls_show p N (steps.op_pulling O place part t c b.sound x lookup None p) (steps.at_before O place part t c b.sound x lookup None p)))

  -- a record of a transaction that may be open
  open_show : (t : Name) (alone : Step Op) (ss : List (LocalEntry Op) → List (Step Op)) (F : OpenSummary Op → List (Asked Op)) (G : OpenSummary Op → List (List (Detail Op))) →
      (tx t c.opened ≡ None → evidences o shape c alone ≡ Nothing ∷ []) →
      ((x : Tx Op) → tx t c.opened ≡ Some x → Shows o shape c (ss x.local) (F (open_summary place f x)) (G (open_summary place f x))) →
      Shows o shape c (steps_of_open (tx t c.opened) alone ss) (open_asks (open_named t B.opened) alone F) (open_details (open_named t B.opened) G)
  open_show t alone ss F G none some =
      subst (λ (w : Option (OpenSummary Op)). Shows o shape c (steps_of_open (tx t c.opened) alone ss) (open_asks w alone F) (open_details w G)) (sym (open_named_is place f t c.opened)) (by (tx t c.opened) refl)
    where
      by : (w : Option (Tx Op)) → tx t c.opened ≡ w → Shows o shape c (steps_of_open (tx t c.opened) alone ss) (open_asks (to_open place f (tx t c.opened)) alone F) (open_details (to_open place f (tx t c.opened)) G)
      by None e = subst (λ (w : Option (Tx Op)). Shows o shape c (steps_of_open w alone ss) (open_asks (to_open place f w) alone F) (open_details (to_open place f w) G)) (sym e)
          ((λ n h. known o shape c alone (Nothing ∷ []) (none e) n), (λ q. tt))
      by (Some x) e = subst (λ (w : Option (Tx Op)). Shows o shape c (steps_of_open w alone ss) (open_asks (to_open place f w) alone F) (open_details (to_open place f w) G)) (sym e) (some x e)

  absent : {A : Type 0} (w : Option A) (F : A → List (Detail Op)) → w ≡ None → if_there w F ≡ Nothing ∷ []
  absent {A} w F e = ap (λ (z : Option A). if_there z F) e

  note_absent : (t : Name) → tx t c.opened ≡ None → evidences o shape c (Note t) ≡ Nothing ∷ []
  note_absent t e = absent (tx t c.opened) (λ (w : Tx Op). []) e

  -- The summary has the evidence of the steps of a record.
  pub record_show : (r : RunRecord Op) → IsOfStyle style r → Shows o shape c (expand place style f c r) (record_asks style O place B r) (record_details o shape place style B r)
  record_show = by_record style has (λ r. Shows o shape c (expand place style f c r) (record_asks style O place B r) (record_details o shape place style B r))
      (λ t p w. ((λ n h. refl), (λ q. tt)))
      (λ t id op. open_show t (App t id op) (λ l. op_steps place style f c.shared l t id op) (λ x. op_asks O place (summary_mode style B.kinds x (place op)) B t id op x) (λ x. op_details o shape place (summary_mode style B.kinds x (place op)) B t id op x)
      (λ e. absent (tx t c.opened) (λ (w : Tx Op). Nothing ∷ Nothing ∷ gives_behind o shape id (local_ops w.local) op ∷ []) e) (λ x e. ops_show t x e id op))
      (λ t. open_show t (Cmt t) (λ l. commit_steps style l t) (commit_asks style O place B t) (commit_details o shape place style B t)
      (λ e. absent (tx t c.opened) (λ (w : Tx Op). Nothing ∷ first_entry (filter (λ e. is_mark e.mark Unpushed) w.local) ∷ first_entry (filter (λ e. is_mark e.mark Pulled && not (stands_committed e.id c.shared)) w.local) ∷ []) e)
      (λ x e. commit_show t x e style has))
      (λ t. open_show t (Quit t) (λ l. back t 0 l ++ Quit t ∷ []) (λ x. safe (suc (back_count place B x))) (λ x. none_of (suc (back_count place B x)))
      (λ e. absent (tx t c.opened) (λ (w : Tx Op). first_entry w.local ∷ []) e)
      (λ x e. show_count o shape (back t 0 x.local ++ Quit t ∷ []) c (suc (back_count place B (open_summary place f x))) (counts.abort_count O place part tells style has f c b t x e)))
      (λ t. open_show t (Note t) (λ l. Note t ∷ back t 0 l) (λ x. safe (suc (back_count place B x))) (λ x. none_of (suc (back_count place B x))) (note_absent t)
      (λ x e. show_count o shape (Note t ∷ back t 0 x.local) c (suc (back_count place B (open_summary place f x))) (ap suc (counts.all_back O place part tells style has f c b t x e))))
      (λ t p. open_show t (Note t) (λ l. Note t ∷ refresh place t p c.shared l) (λ x. safe 1 ++ pull_asks O place B t x p [] (summary_missing place p B x)) (λ x. none_of 1 ++ pull_details o shape place B x p [] (summary_missing place p B x)) (note_absent t)
      (λ x e. refresh_show t x e p))
      (λ t. xbegin t (tx t c.opened) refl)
      (λ t. open_show t (Note t) (λ l. Note t ∷ pushall t l) (λ x. safe 1 ++ publish_asks O place B t x [] (unpushed x.own)) (λ x. none_of 1 ++ publish_details o shape place B t [] (unpushed x.own)) (note_absent t)
      (λ x e. note_show t x e (pushall t x.local) (publish_asks O place B t (open_summary place f x) [] (unpushed (own x.local))) (publish_details o shape place B t [] (unpushed (own x.local))) (pushall_show t x e)))
      (λ t. open_show t (Note t) (λ l. Note t ∷ back t (mark_of (f.section t)) l) (λ x. safe (suc (section_count place B x))) (λ x. none_of (suc (section_count place B x))) (note_absent t)
      (λ x e. show_count o shape (Note t ∷ back t (mark_of (f.section t)) x.local) c (suc (section_count place B (open_summary place f x)))
      (ap suc (counts.since O place part tells style has f c b t x e ∙ ap (λ (u : Name). length (taken_out t (drop (mark_of (f.section u)) x.local))) (found_tx t c.opened x e).1))))
    where
      xbegin : (t : Name) (w : Option (Tx Op)) → tx t c.opened ≡ w → Shows o shape c (Note t ∷ []) (open_asks (open_named t B.opened) (Note t) (λ x. safe 1)) (open_details (open_named t B.opened) (λ x. none_of 1))
      xbegin t None e = subst (λ (w : Option (OpenSummary Op)). Shows o shape c (Note t ∷ []) (open_asks w (Note t) (λ x. safe 1)) (open_details w (λ x. none_of 1))) (sym (open_named_is place f t c.opened ∙ ap (to_open place f) e))
          ((λ n h. known o shape c (Note t) (Nothing ∷ []) (note_absent t e) n), (λ q. tt))
      xbegin t (Some x) e = subst (λ (w : Option (OpenSummary Op)). Shows o shape c (Note t ∷ []) (open_asks w (Note t) (λ x. safe 1)) (open_details w (λ x. none_of 1))) (sym (open_named_is place f t c.opened ∙ ap (to_open place f) e))
          (show_safe o shape (Note t ∷ []) c)
