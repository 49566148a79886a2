-- The criteria of the steps of an operation, as the search judges them.
use Rattle.std.specs.Prelude.{◌≡◌, ◌≢◌, ◌==◌, ◌↔◌, ◌<◌, ◌+◌, ℕ, Bool, true, false, List, [], ◌∷◌, ◌++◌, drop, length, reverse, Option, None, Some, Result, Ok, Err, IfOk, IsTrue}
use Rattle.std.specs.List.{list_any}
use Rattle.std.proofs.Common.{refl, sym, ap, subst, ◌∙◌, get_or}
use Rattle.std.proofs.lemmas.List.{at_drop_more}
use mathlib.Core.Logic.{inl, inr}
use Rattle.pp_body.specs.Walks.{HasTaken, TellsBegins, Walked}
use Rattle.pp_core.specs.declared.answer.Answer.{Answer}
use Rattle.pp_core.specs.declared.entry.Item.{Item}
use Rattle.pp_model.specs.Config.{SharedEntry, shared_ops}
use Rattle.pp_model.specs.Lists.{In}
use Rattle.pp_model.specs.Names.{Name}
use Rattle.pp_model.specs.Rules.{FirstFalse}
use Rattle.pp_model.proofs.Finding.{from_reverse, in_reverse, stands_in}
use Rattle.pp_kind.specs.Object.{IsAllowed, IsLawful, IsLegal, IsPlaced, Object, Swaps, SwapsIn, state_after}
use Rattle.pp_kind.proofs.Fitting.{fits_in}
use Rattle.pp_kind.proofs.Lists.{last_is_legal, log_grows, one_more}
use Rattle.pp_machine.specs.declared.detail.Detail.{Detail}
use Rattle.pp_machine.specs.declared.detail.Detail.TheVariants.{Nothing, Gives}
use Rattle.pp_machine.specs.Evidence.{swap_or}
use Rattle.pp_machine.proofs.Swapping.{blocking_shown}
use Rattle.pp_log_shared.specs.Blocking.{AllGiveWay, IsFirstBlocking}
use Rattle.pp_summary.specs.Held.{IsOpAsked}
use Rattle.pp_summary.specs.Passing.{LetPass, Stops}
use Rattle.pp_summary.specs.Shown.{calls_of}
use Rattle.pp_summary.proofs.Judging.{not_used, used_in}
use Rattle.pp_violations.specs.Asks.{Breaks}
use Rattle.pp_violations.specs.Searches.{AreItemsAsked, IsStateOf, JudgesPull, app_evidence, app_facts, own_swap, pull_evidence, pull_facts, push_evidence, push_facts}
use Rattle.pp_violations.specs.declared.violation.Broken.{Broken}

-- If P implies Q, a result that has P if it is Ok has Q if it is Ok.
pub if_ok : {A E : Type 0} (P Q : A → Type 0) (r : Result A E) → ((a : A) → P a → Q a) → IfOk r P → IfOk r Q
if_ok P Q (Ok a) f h = f a h
if_ok P Q (Err e) f h = tt

-- The operation of an entry of the shared log is among its operations.
pub in_ops : {Op : Type 0} (g : SharedEntry Op) (l : List (SharedEntry Op)) → In g l → In g.op (shared_ops l)
in_ops g [] i = absurd i
in_ops {Op} g (z ∷ l) (inl e) = inl (ap (λ (w : SharedEntry Op). w.op) e)
in_ops g (z ∷ l) (inr i) = inr (in_ops g l i)

-- If a pair is refuted, the evidence does not depend on the default.
swap_found : {Op : Type 0} (id : ℕ) (r : Option (List Op × List Op)) (d : Detail Op) → (r ≡ None → ⊥) → swap_or id r Nothing ≡ swap_or id r d
swap_found id None d n = absurd (n refl)
swap_found id (Some lists) d n = refl

module _ {Shape State Op Undo : Type 0} (o : Object Shape State Op Undo) (laws : IsLawful o) where
  -- The evidence of the operations from position i on, by the operation there and the evidence of the rest.
  swap_next : (own : List (Item Op)) (op : Op) (i : ℕ) (p : Item Op) → i < length own → p ≡ get_or own i p → own_swap o (drop i own) op ≡ swap_or p.id (o.refuting p.op op) (own_swap o (drop (i + 1) own) op)
  swap_next own op i p lt is = at_drop_more (λ (w : List (Item Op)). own_swap o w op) own i p lt ∙ ap (λ (q : Item Op). swap_or q.id (o.refuting q.op op) (own_swap o (drop (i + 1) own) op)) (sym is)

  -- If the operation at position i does not swap, it is the evidence.
  pub swap_here : (own : List (Item Op)) (op : Op) (i : ℕ) (p : Item Op) → i < length own → p ≡ get_or own i p → own_swap o own op ≡ own_swap o (drop i own) op → (answer : Bool) → (Swaps o p.op op → IsTrue answer) → answer ≡ false →
      swap_or p.id (o.refuting p.op op) Nothing ≡ own_swap o own op
  swap_here own op i p lt is so answer only e =
      swap_found p.id (o.refuting p.op op) (own_swap o (drop (i + 1) own) op) (λ none. let z : true ≡ false = sym (only ((laws.unrefuted p.op op).0 none)) ∙ e in cc)
      ∙ sym (swap_next own op i p lt is) ∙ sym so

  -- If the operation at position i swaps, the evidence is that of the operations after it.
  pub swap_later : (own : List (Item Op)) (op : Op) (i : ℕ) (p : Item Op) → i < length own → p ≡ get_or own i p → own_swap o own op ≡ own_swap o (drop i own) op → Swaps o p.op op →
      own_swap o own op ≡ own_swap o (drop (i + 1) own) op
  swap_later own op i p lt is so swaps =
      so ∙ swap_next own op i p lt is ∙ ap (λ (r : Option (List Op × List Op)). swap_or p.id r (own_swap o (drop (i + 1) own) op)) ((laws.unrefuted p.op op).1 swaps)

  -- If no operation is left, there is no evidence.
  pub swap_end : (own : List (Item Op)) (op : Op) (n : ℕ) → n ≡ length own → own_swap o (drop n own) op ≡ Nothing
  swap_end own op n e = ap (λ (w : List (Item Op)). own_swap o w op) (ap (λ (k : ℕ). drop k own) e ∙ all_dropped own)
    where
      all_dropped : (l : List (Item Op)) → drop (length l) l ≡ []
      all_dropped [] = refl
      all_dropped (a ∷ l) = all_dropped l

  module _ (place : Op → ℕ) where
    -- The PULL of g, in the state after the operations before it.
    module _ (own : List (Item Op)) (g : SharedEntry Op) (old new : State) (asked : IsOpAsked o (o.shape old) g.op) (before : List Op) (s : IsStateOf o place (o.shape old) old before) where
      abbrev shape : Shape
      shape = o.shape old

      -- If the object returns another result, the PULL violates criterion 4.
      pub pull_differs : o.gives old g.op ≢ o.recorded g.op → new ≡ old → (answer : Answer) → answer ≡ o.gives new g.op →
          Breaks (pull_facts o place (o.shape old) before own g) (pull_evidence o place (o.shape old) before own g) (record { criterion = 4; detail = Gives g.id answer })
      pull_differs n stays answer is =
          record {
            number = 3;
            is_false = (tt, (tt, (tt, λ a. n (last_is_legal o shape old before g.op s.log.is a).1)));
            criterion = refl;
            detail = ap (Gives g.id) (is ∙ ap (λ (z : State). o.gives z g.op) (stays ∙ s.log.is));
          }

      module _ (gives : o.gives old g.op ≡ o.recorded g.op) where
        legal : IsLegal o old g.op
        legal = (asked.0, gives)

        allowed : IsAllowed o (o.shape old) (before ++ g.op ∷ [])
        allowed = one_more o shape old before g.op s.log.is s.log.allowed legal

        -- If each own operation at the place swaps with the entry, the PULL violates no criterion.
        pub pull_passes : new ≡ o.next old g.op → LetPass o place own g.op → JudgesPull o place (o.shape old) before own g new None
        pull_passes is pass = (
          (tt, (tt, (tt, (allowed, ((λ a i e. pass a i e shape), refl))))),
          subst (λ (z : State). IsStateOf o place shape z (before ++ g.op ∷ [])) (sym is)
              (record { log = log_grows o old before g.op s.log legal asked.1 (laws.next_shape old g.op legal); shape_is = laws.next_shape old g.op legal }),
        )

        -- If an own operation at the place does not swap with the entry, the PULL violates criterion 5.
        pub pull_stopped : AreItemsAsked o (o.shape old) own → Stops o place own g.op → (detail : Detail Op) → detail ≡ own_swap o own g.op →
            Breaks (pull_facts o place (o.shape old) before own g) (pull_evidence o place (o.shape old) before own g) (record { criterion = 5; detail = detail })
        pull_stopped fit stop detail is =
            record {
              number = 4;
              is_false = (tt, (tt, (tt, (allowed, λ all. stop.stays shape (fit stop.item stop.is).0 asked.0 (all stop.item stop.is stop.there)))));
              criterion = refl;
              detail = is;
            }

    -- The APP of an operation.
    module _ (ids : List ℕ) (id : ℕ) (op : Op) (walk : Walked) (own : List (Item Op)) (taken : HasTaken walk (calls_of o own)) (s : State) (fits : IsTrue (o.fits (o.shape s) op)) (before : List Op) (is : IsStateOf o place (o.shape s) s before) where
      abbrev Facts : List (Type 0)
      Facts = app_facts o place (o.shape s) (reverse ids) id op walk.body own before

      abbrev Evidence : List (Detail Op)
      Evidence = app_evidence o place (o.shape s) id op before

      -- If the id was used, the APP violates criterion 2.
      pub app_used : list_any (λ i. id == i) ids ≡ true → (b : Broken Op) → b ≡ record { criterion = 2; detail = Nothing } → Breaks (app_facts o place (o.shape s) (reverse ids) id op walk.body own before) (app_evidence o place (o.shape s) id op before) b
      app_used e b bis =
          record {
            number = 1;
            is_false = (tt, λ n. n (in_reverse id ids (used_in ids id e)));
            criterion = ap (λ (z : Broken Op). z.criterion) bis;
            detail = ap (λ (z : Broken Op). z.detail) bis;
          }

      module _ (fresh : list_any (λ i. id == i) ids ≡ false) where
        new : In id (reverse ids) → ⊥
        new i = not_used ids id fresh (from_reverse id ids i)

        -- If the call may not follow in the body, the APP violates criterion 3.
        pub app_unbegun : (answer : Bool) → TellsBegins walk (o.call op) answer → answer ≡ false → (b : Broken Op) → b ≡ record { criterion = 3; detail = Nothing } →
            Breaks (app_facts o place (o.shape s) (reverse ids) id op walk.body own before) (app_evidence o place (o.shape s) id op before) b
        app_unbegun answer tells e b bis =
            record {
              number = 2;
              is_false = (tt, (new, λ k. let z : true ≡ false = sym ((tells (calls_of o own) taken).1 k) ∙ e in cc));
              criterion = ap (λ (z : Broken Op). z.criterion) bis;
              detail = ap (λ (z : Broken Op). z.detail) bis;
            }

        module _ (can : Bool) (tells : TellsBegins walk (o.call op) can) (begins : can ≡ true) where
          -- If the object returns another result, the APP violates criterion 4.
          pub app_illegal : (answer : Bool) → IsTrue answer ↔ (o.gives s op ≡ o.recorded op) → answer ≡ false → (given : Answer) → given ≡ o.gives s op →
              Breaks (app_facts o place (o.shape s) (reverse ids) id op walk.body own before) (app_evidence o place (o.shape s) id op before) (record { criterion = 4; detail = Gives id given })
          app_illegal answer w e given gis =
              record {
                number = 3;
                is_false = (tt, (new, ((tells (calls_of o own) taken).0 begins, λ a. let z : true ≡ false = sym (w.1 (last_is_legal o (o.shape s) s before op is.log.is a).1) ∙ e in cc)));
                criterion = refl;
                detail = ap (Gives id) (gis ∙ ap (λ (z : State). o.gives z op) is.log.is);
              }

          -- If the object returns the recorded result, the APP violates no criterion.
          pub app_fine : (answer : Bool) → IsTrue answer ↔ (o.gives s op ≡ o.recorded op) → answer ≡ true → FirstFalse (app_facts o place (o.shape s) (reverse ids) id op walk.body own before) 0
          app_fine answer w e = (tt, (new, ((tells (calls_of o own) taken).0 begins, (one_more o (o.shape s) s before op is.log.is is.log.allowed (fits, w.0 e), refl))))

    -- The PUSH of an operation.
    module _ (SameAt : ℕ → State → State → Type 0) (places : IsPlaced o place SameAt) (shape : Shape) (t : Name) (id : ℕ) (op : Op) (G : List (SharedEntry Op)) (asked : IsOpAsked o shape op) (allowed : IsAllowed o shape (shared_ops G)) where
      -- If an uncommitted entry of another transaction does not swap with the operation, the PUSH violates criterion 4.
      pub push_blocked : (k : ℕ) (b : IsFirstBlocking o t op G k) (detail : Detail Op) → detail ≡ swap_or (b.entry).id (o.refuting (b.entry).op op) Nothing →
          Breaks (push_facts o place shape t op G) (push_evidence o place shape t id op G) (record { criterion = 4; detail = detail })
      push_blocked k b detail is =
          record {
            number = 3;
            is_false = (tt, (tt, (tt, λ all. by all)));
            criterion = refl;
            detail = is ∙ blocking_shown o laws shape t op G k b;
          }
        where
          inside : In b.entry G
          inside = stands_in G k b.entry b.is

          fit : IsTrue (o.fits shape (b.entry).op)
          fit = fits_in o laws shape (shared_ops G) allowed (b.entry).op (in_ops (b.entry) G inside)

          by : ((u : SharedEntry Op) → In u G → u.committed ≡ false → u.owner ≢ t → place u.op ≡ place op → SwapsIn o shape u.op op) → ⊥
          by all = b.blocks.unswapped (places.apart (b.entry).op op (λ e. b.blocks.stays shape fit asked.0 (all b.entry inside b.blocks.uncommitted b.blocks.other e)))

      module _ (pass : AllGiveWay o t op G) where
        -- If the operation is not allowed after the shared log, the PUSH violates criterion 5.
        pub push_illegal : (answer : Bool) → IsTrue answer ↔ IsAllowed o shape (shared_ops G ++ op ∷ []) → answer ≡ false → (given : Answer) → given ≡ o.gives (state_after o shape (shared_ops G)) op →
            Breaks (push_facts o place shape t op G) (push_evidence o place shape t id op G) (record { criterion = 5; detail = Gives id given })
        push_illegal answer w e given gis =
            record {
              number = 4;
              is_false = (tt, (tt, (tt, ((λ u i n m p. pass u i n m shape), λ a. let z : true ≡ false = sym (w.1 a) ∙ e in cc))));
              criterion = refl;
              detail = ap (Gives id) gis;
            }

        -- If the operation is allowed after the shared log, the PUSH violates no criterion.
        pub push_fine : (answer : Bool) → IsTrue answer ↔ IsAllowed o shape (shared_ops G ++ op ∷ []) → answer ≡ true → FirstFalse (push_facts o place shape t op G) 0
        push_fine answer w e = (tt, (tt, (tt, ((λ u i n m p. pass u i n m shape), (w.0 e, refl)))))
