-- The tests of APP on a machine whose parts are lent, and on the course of a transaction that these lend.
use Rattle.std.proofs.Common.{◌≡◌, ◌==◌, ◌<◌, ◌+◌, ℕ, IsTrue, false, true, List, [], ◌∷◌, ◌++◌, Option, Some, option_map}
use Rattle.std.proofs.Common.{ap, refl, subst, sym, ◌∙◌}
use Rattle.std.specs.List.{list_any}
use Rattle.pp_core.specs.declared.answer.Answer.{Answer}
use Rattle.pp_core.specs.declared.entry.LocalEntry.{LocalEntry}
use Rattle.pp_model.specs.Body.{Tree}
use Rattle.pp_model.specs.Config.{App, Unpushed, local_ops}
use Rattle.pp_model.specs.Names.{Name}
use Rattle.pp_model.specs.Rules.{Meets}
use Rattle.pp_kind.specs.Object.{Object, IsAllowed, rules_of}
use Rattle.pp_log.specs.Logs.{answer_behind}
use Rattle.pp_machine.specs.Courses.{FollowsIfOwn, Guided, MayFollow}
use Rattle.pp_machine.specs.Judges.{Refuses}
use Rattle.pp_machine.specs.Machines.{Holds, Seen, config_of, stepped}
use Rattle.pp_machine.specs.Transactions.{Takes, course_of, open_at, with_course}
use Rattle.pp_machine.specs.declared.detail.Detail.TheVariants.{Gives, Nothing}
use Rattle.pp_machine.specs.declared.detail.Refusal.{Refusal}
use Rattle.pp_machine.specs.declared.machine.Parts.{Parts}
use Rattle.pp_machine.proofs.Acting.{with_log}
use Rattle.pp_machine.proofs.Judging.{app_0, app_2, app_3, app_4}
use Rattle.pp_machine.proofs.Keeping.{course_same, holds_app, holds_same, id_unused, of_course}
use Rattle.pp_machine.proofs.Keeping.{relogged_is, seen_app, seen_same, takes_app}
use Rattle.pp_machine.proofs.Lent.{seen_of}
use Rattle.pp_machine.proofs.Opened.{HasCourse, allowed_here, allowed_there, coursed, not_used, used_in}

module _ {S Shape State Op Undo Gap : Type 0} (o : Object Shape State Op Undo) (q : Parts S Shape State Op Undo Gap) (w : Seen Shape Op) (same : seen_of q ≡ w)
    (h : Holds o q.shape q.transactions q.ids q.shared q.committed q.count) (t : Name) (k : Guided Shape Op) (is_open : Some k ≡ option_map course_of (open_at t q.transactions.opened)) where
  course : HasCourse o q.shape q.transactions q.ids q.shared q.committed q.count h t k
  course = coursed o q.shape q.transactions q.ids q.shared q.committed q.count h t k is_open

  -- the course goes back as it was lent
  goes_back : with_course t k q.transactions ≡ q.transactions
  goes_back = course_same o q.shape q.transactions q.ids q.shared q.committed q.count w same h t k k course refl

  -- With the course given back as it was lent, the machine holds what it held.
  pub holds_back : Holds o q.shape (with_course t k q.transactions) q.ids q.shared q.committed q.count
  holds_back = holds_same o q.shape q.transactions q.ids q.shared q.committed q.count w same h (with_course t k q.transactions) q.shared goes_back refl

  -- With the course given back as it was lent, what is seen of the machine is the same.
  pub seen_back : ◌≡◌ {A = Seen Shape Op} (record { shape = q.shape; config = config_of (with_course t k q.transactions) q.ids q.shared.1 q.committed; count = q.count }) w
  seen_back = seen_same o q.shape q.transactions q.ids q.shared q.committed q.count w same h (with_course t k q.transactions) q.shared goes_back refl

  module _ (id : ℕ) (op : Op) where
    -- the criteria in their order
    pub used_refused : true ≡ list_any (λ i. id == i) q.ids → (r : Refusal Op) → r ≡ record { criterion = 2; detail = Nothing } → Refuses o w (App t id op) r
    used_refused e r is = app_2 o (seen_of q) w same t id op _ course.log.is (used_in q.ids id e) r is

    module _ (new : false ≡ list_any (λ i. id == i) q.ids) where
      -- An APP whose call may not follow violates criterion 3.
      pub stray_refused : (MayFollow o k.body k.local.1 op → ⊥) → (r : Refusal Op) → r ≡ record { criterion = 3; detail = Nothing } → Refuses o w (App t id op) r
      stray_refused n r is =
          app_3 o (seen_of q) w same t id op _ course.log.is (not_used q.ids id new) (λ m. n (subst (λ (b : Option Tree). MayFollow o b k.local.1 op) course.body_is m)) r is

      module _ (may : MayFollow o k.body k.local.1 op) (l : Shape × List (LocalEntry Op)) (local : l ≡ k.local) where
        -- An APP whose operation is not allowed after the local log violates criterion 4.
        pub illegal_refused : (IsAllowed o l.0 (local_ops l.1 ++ op ∷ []) → ⊥) → (a : Answer) → a ≡ answer_behind o l.0 (local_ops l.1) op → (r : Refusal Op) → r ≡ record { criterion = 4; detail = Gives id a } → Refuses o w (App t id op) r
        illegal_refused n a gives r is =
            app_4 o (seen_of q) w same t id op _ course.log.is (not_used q.ids id new) (subst (λ (b : Option Tree). MayFollow o b k.local.1 op) (sym course.body_is) may)
            (λ m. n (allowed_there o q.shape k.local l op local course.log.fine.same_shape m))
            (Gives id a)
            (ap (Gives id) (gives ∙ ap (λ (z : Shape × List (LocalEntry Op)). answer_behind o z.0 (local_ops z.1) op) local ∙ ap (λ (sh : Shape). answer_behind o sh (local_ops k.local.1) op) course.log.fine.same_shape))
            r is

        -- An APP meets its criteria if its id is new, its call may follow, and it is allowed.
        pub meets_app : IsAllowed o l.0 (local_ops l.1 ++ op ∷ []) → Meets (rules_of o w.shape) w.config (App t id op)
        meets_app m =
            app_0 o (seen_of q) w same t id op _ course.log.is (not_used q.ids id new) (subst (λ (b : Option Tree). MayFollow o b k.local.1 op) (sym course.body_is) may)
            (allowed_here o q.shape k.local l op local course.log.fine.same_shape m)

    -- the operation fits the log that the course lends
    pub fits_course : (l : Shape × List (LocalEntry Op)) → l ≡ k.local → IsTrue (o.fits w.shape op) → IsTrue (o.fits l.0 op)
    fits_course l local f =
        subst (λ (sh : Shape). IsTrue (o.fits sh op)) (sym (ap (λ (z : Shape × List (LocalEntry Op)). z.0) local ∙ course.log.fine.same_shape ∙ ap (λ (v : Seen Shape Op). v.shape) same)) f

    -- the effect
    abbrev pub entry : LocalEntry Op
    entry = record { id = id; owner = t; mark = Unpushed; op = op }

    module _ (m : Meets (rules_of o w.shape) w.config (App t id op)) where
      -- The id of an APP that meets its criteria is not used yet.
      pub new_id : list_any (λ j. id == j) q.ids ≡ false
      new_id = id_unused o q.shape q.transactions q.ids q.shared q.committed q.count w same h t id op m

      -- The local log takes the entry of an APP that meets its criteria, and the body its call.
      pub takes_entry : IsTrue (o.ranged op) → w.count < 4_294_967_295 → Takes o k.local entry × FollowsIfOwn o k.body k.local.1 entry
      takes_entry r few =
          let y = takes_app o q.shape q.transactions q.ids q.shared q.committed q.count w same h t id op m r few in
          let is = of_course o q.shape q.transactions q.ids q.shared q.committed q.count w same h t k course y.0 y.1 in
          (subst (λ (z : Guided Shape Op). Takes o z.local entry) is y.2, subst (λ (z : Guided Shape Op). FollowsIfOwn o z.body z.local.1 entry) is y.3)

      module _ (more : Guided Shape Op) (appended : more ≡ record { body = k.body; local = (k.local.0, k.local.1 ++ entry ∷ []) }) (js : List ℕ) (inserted : js ≡ q.ids ++ id ∷ []) where
        relogged : with_course t more q.transactions ≡ with_log t (λ l. l ++ entry ∷ []) q.transactions
        relogged = relogged_is o q.shape q.transactions q.ids q.shared q.committed q.count w same h t k more course (λ l. l ++ entry ∷ []) appended

        -- With the entry of an APP in its course, the machine holds what each machine keeps.
        pub holds_more : IsTrue (o.ranged op) → Holds o q.shape (with_course t more q.transactions) js q.shared q.committed (q.count + 1)
        holds_more r = holds_app o q.shape q.transactions q.ids q.shared q.committed q.count w same h t id op (with_course t more q.transactions) js m r relogged inserted

        -- With the entry of an APP in its course, the machine is seen as after the step.
        pub seen_more : ◌≡◌ {A = Seen Shape Op} (record { shape = q.shape; config = config_of (with_course t more q.transactions) js q.shared.1 q.committed; count = q.count + 1 }) (stepped w (App t id op))
        seen_more = seen_app o q.shape q.transactions q.ids q.shared q.committed q.count w same h t id op (with_course t more q.transactions) js relogged inserted
