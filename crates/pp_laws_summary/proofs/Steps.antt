-- The steps of an operation, a refresh and a pushall, in any sound configuration: when they hold, and the configuration after them.
use Rattle.std.specs.Prelude.{◌≡◌, ◌≢◌, ℕ, ◌==◌, Bool, true, false, not, cond, ◌&&◌, List, [], ◌∷◌, ◌++◌, map, drop, Option, Some, None}
use Rattle.std.proofs.Common.{refl, sym, ap, subst, ◌∙◌, append_assoc}
use Rattle.std.proofs.lemmas.List.{append-nil, map-append}
use Rattle.std.proofs.lemmas.Bool.{and_parts, eqb-true, eq-eqb}
use mathlib.Core.Logic.{inl, inr}
use Rattle.pp_core.specs.declared.call.Style.{Style}
use Rattle.pp_core.specs.declared.call.Style.TheVariants.{Rules, Boosted, Optimistic, Hardware, Dependent}
use Rattle.pp_model.specs.Body.{Begins}
use Rattle.pp_model.specs.Lists.{In}
use Rattle.pp_model.specs.Names.{Name}
use Rattle.pp_model.specs.Object.{Object, Allowed, Item}
use Rattle.pp_model.specs.Config.{Unpushed, Pushed, Pulled, is_own, LocalEntry, SharedEntry, Tx, Config, Step, App, Push, Pull, Note, as_applied, as_pulled, own_items, local_ops, shared_ops, tx, at_mark, entry_of, push_effect, set_mark, then, on_log, relog, after_from}
use Rattle.pp_model.specs.Rules.{Meets, RunsFrom, calls}
use Rattle.pp_model.specs.Sound.{Sound}
use Rattle.pp_model.proofs.Lists.{in_left, in_right, in_cases, from_map, from_filter, before_from_filter, before_across, before_in_first}
use Rattle.pp_model.proofs.Logs.{found_tx}
use Rattle.pp_model.proofs.Alone.{there_is}
use Rattle.pp_model.proofs.Begin.{before_added}
use Rattle.pp_model.proofs.Keeps.{step_keeps, run_keeps}
use Rattle.pp_model.proofs.Push.{remark, mark_at, marked_other}
use Rattle.pp_model.proofs.Serial.{allowed_front}
use Rattle.pp_records.specs.Expansions.{stands_in, touches, refresh, hardware_op, op_steps, pushall}
use Rattle.pp_records.specs.Fronts.{Front, is_mem}
use Rattle.pp_records.proofs.Ends.{after_append, runs_append, runs_front, runs_back}
use Rattle.pp_records.proofs.Taking.{tx_on}
use Rattle.pp_laws_summary.specs.Places.{PlacesPart}
use Rattle.pp_laws_summary.specs.Views.{missing_at, log_at}
use Rattle.pp_laws_summary.specs.LocalLogs.{HasSummary, push_mode, pulled_before, as_pushed, posted, new_entry, new_shared, unpushed, LocalPush, AtOnce, LocalOpAfter, LocalOp, LocalRefresh, LocalPushes}
use Rattle.pp_laws_summary.proofs.Entries.{same_or_not, is_there, was_false}
use Rattle.pp_laws_summary.proofs.Lookups.{done_by_other, mark_is, there_of}
use Rattle.pp_laws_summary.proofs.Relog.{relogged, on_log-fuse}
use Rattle.pp_laws_summary.proofs.Parts.{AllAt, whole_from_part, part_from_whole, swap_apart}
use Rattle.pp_laws_summary.proofs.Pulls.{Pulling, Asks, pulls, pulled}
use Rattle.pp_laws_summary.proofs.Pushes.{Pushing, PushAsks, led, pushed_all}
use Rattle.pp_laws_summary.proofs.Pulled.{ops_more, own_more}

-- The steps after the APP.
abbrev pub tail : {Op : Type 0} → Option ℕ → Name → ℕ → List (Step Op)
tail None t id = Push t id ∷ []
tail (Some m) t id = []

-- An entry missed at an object is an entry of the shared log, committed, on the object, and not in the local log.
pub from_missing : {Op : Type 0} (place : Op → ℕ) (o : ℕ) (G : List (SharedEntry Op)) (l : List (LocalEntry Op)) (g : SharedEntry Op) → In g (missing_at place o G l) →
    In g G × (g.committed ≡ true) × (place g.op ≡ o) × (stands_in l g.id ≡ false)
from_missing place o G l g i =
    let f = from_filter (λ (g : SharedEntry _). (g.committed && (place g.op == o)) && not (stands_in l g.id)) g G i in
    let a = and_parts (g.committed && (place g.op == o)) (not (stands_in l g.id)) f.1 in
    let b = and_parts g.committed (place g.op == o) a.0 in
    (f.0, b.0, eqb-true (place g.op) o b.1, was_false (stands_in l g.id) a.1)

map_cond : {A B : Type 0} (f : A → B) (b : Bool) (l : List A) → map f (cond b [] l) ≡ cond b [] (map f l)
map_cond f true l = refl
map_cond f false l = refl

module _ {Op State : Type 0} (O : Object Op State) (place : Op → ℕ) (part : PlacesPart O place) (t : Name) (c : Config Op) (s : Sound O c) (x : Tx Op) (lookup : tx t c.opened ≡ Some x) where
  -- The transaction is open.
  pub ix : In x c.opened
  ix = (found_tx t c.opened x lookup).0

  -- Its name is t.
  pub nx : x.name ≡ t
  nx = (found_tx t c.opened x lookup).1

  pulling : (o : ℕ) → Pulling O t c x (missing_at place o c.shared x.local)
  pulling o =
      record {
        sound = s;
        lookup = lookup;
        stand = λ g i. (from_missing place o c.shared x.local g i).0;
        other = λ g i e. let k = from_missing place o c.shared x.local g i in done_by_other O c s x ix g k.0 k.1 (e ∙ sym nx);
        distinct = λ g k i. s.shared_ids g k (before_from_filter _ g k c.shared i);
        out = λ g i e j n. let z : true ≡ false = sym (is_there g.id x.local e j n) ∙ (from_missing place o c.shared x.local g i).3 in cc;
      }

  missing_op : (o : ℕ) → AllAt place o (shared_ops (missing_at place o c.shared x.local))
  missing_op o a i = let r = from_map (λ (w : SharedEntry Op). w.op) a (missing_at place o c.shared x.local) i in ap place r.2 ∙ (from_missing place o c.shared x.local r.0 r.1).2

  -- refresh
  asks_good : (o : ℕ) → Asks O x (missing_at place o c.shared x.local) → LocalRefresh O place c o x
  asks_good o a =
      record {
        swaps = λ e g i j. a.swaps e g i.0 i.1 j;
        allowed = part_from_whole O place part o (local_ops x.local) (shared_ops (missing_at place o c.shared x.local)) (missing_op o) a.allowed;
      }

  good_asks : (o : ℕ) → LocalRefresh O place c o x → Asks O x (missing_at place o c.shared x.local)
  good_asks o k =
      record {
        allowed = whole_from_part O place part o (local_ops x.local) (shared_ops (missing_at place o c.shared x.local)) (missing_op o) (s.local_allowed x ix) k.allowed;
        swaps = λ e g i w j. elim (same_or_not (place e.op) o) [
          | inl p ↦ k.swaps e g (i, w, p) j
          | inr p ↦ (swap_apart O place part).apart e.op g.op (λ z. p (z ∙ (from_missing place o c.shared x.local g j).2))
        ];
      }

  -- The steps of a good refresh meet their criteria.
  pub note_runs : (o : ℕ) → LocalRefresh O place c o x → RunsFrom O c (Note t ∷ refresh place t o c.shared x.local)
  note_runs o k = (there_is (tx t c.opened) _ x lookup refl, (pulled O t (missing_at place o c.shared x.local) c x (pulling o)).0 (good_asks o k))

  -- If the steps of a refresh meet their criteria, it is good.
  pub note_good : (o : ℕ) → RunsFrom O c (Note t ∷ refresh place t o c.shared x.local) → LocalRefresh O place c o x
  note_good o r = asks_good o ((pulled O t (missing_at place o c.shared x.local) c x (pulling o)).1 r.1).0

  -- The configuration after the steps of a refresh.
  pub note_leads : (o : ℕ) → RunsFrom O c (Note t ∷ refresh place t o c.shared x.local) →
      after_from c (Note t ∷ refresh place t o c.shared x.local) ≡ relogged c t (x.local ++ map as_pulled (missing_at place o c.shared x.local))
  note_leads o r = ((pulled O t (missing_at place o c.shared x.local) c x (pulling o)).1 r.1).1

  -- an operation after the pulls of these entries
  module _ (mode : Option ℕ) (id : ℕ) (op : Op) (M : List (SharedEntry Op)) (op_pulling : Pulling O t c x M) (at_M : (g : SharedEntry Op) → In g M → place g.op ≡ place op) where
    -- the local log after the pulls
    abbrev pub K : List (LocalEntry Op)
    K = x.local ++ map as_pulled M

    -- the configuration after the pulls
    abbrev pub c1 : Config Op
    c1 = relogged c t K

    -- the transaction after them
    abbrev pub x1 : Tx Op
    x1 = relog (λ l. K) x

    at_op : AllAt place (place op) (shared_ops M ++ op ∷ [])
    at_op a i = elim (in_cases a (shared_ops M) (op ∷ []) i) [
      | inl j ↦ let r = from_map (λ (w : SharedEntry Op). w.op) a M j in ap place r.2 ∙ at_M r.0 r.1
      | inr (inl j) ↦ ap place j
      | inr (inr j) ↦ absurd j
    ]

    whole_op : Allowed O (log_at place (place op) x.local ++ (shared_ops M ++ op ∷ [])) → Allowed O (local_ops x.local ++ (shared_ops M ++ op ∷ []))
    whole_op a = whole_from_part O place part (place op) (local_ops x.local) (shared_ops M ++ op ∷ []) at_op (s.local_allowed x ix) a

    op_asks : LocalOpAfter O place mode M c id op x → Asks O x M
    op_asks g =
        record {
          allowed = allowed_front O O.start (local_ops x.local ++ shared_ops M) (op ∷ []) (subst (λ (w : List Op). Allowed O w) (sym (append_assoc (local_ops x.local) (shared_ops M) (op ∷ []))) (whole_op g.allowed));
          swaps = λ e h i w j. elim (same_or_not (place e.op) (place op)) [
            | inl p ↦ g.swaps e h (i, w, p) j
            | inr p ↦ (swap_apart O place part).apart e.op h.op (λ z. p (z ∙ at_M h j))
          ];
        }

    pull_runs : LocalOpAfter O place mode M c id op x → RunsFrom O c (pulls O t M)
    pull_runs g = (pulled O t M c x op_pulling).0 (op_asks g)

    -- The pulls lead there.
    pub pull_leads : RunsFrom O c (pulls O t M) → after_from c (pulls O t M) ≡ c1
    pull_leads r = ((pulled O t M c x op_pulling).1 r).1

    module _ (r : RunsFrom O c (pulls O t M)) where
      s1 : Sound O c1
      s1 = subst (λ (w : Config Op). Sound O w) (pull_leads r) (run_keeps O (pulls O t M) c s r)

      -- The transaction is found then.
      pub l1 : tx t c1.opened ≡ Some x1
      l1 = tx_on t (λ l. K) c.opened x lookup

      ops_all : local_ops K ++ op ∷ [] ≡ local_ops x.local ++ (shared_ops M ++ op ∷ [])
      ops_all = ap (λ (w : List Op). w ++ op ∷ []) (ops_more x.local M) ∙ append_assoc (local_ops x.local) (shared_ops M) (op ∷ [])

      app_holds : LocalOpAfter O place mode M c id op x → Meets O c1 (App t id op)
      app_holds g = there_is (tx t c1.opened) _ x1 l1 (
        g.new,
        (
          subst (λ (w : List (Item Op)). Begins x.body (calls O w ++ O.call op ∷ [])) (sym (own_more x.local M)) g.begins,
          (subst (λ (w : List Op). Allowed O w) (sym ops_all) (whole_op g.allowed), refl),
        ),
      )

      app_asks : Meets O c1 (App t id op) → (In id c.ids → ⊥) × Begins x.body (calls O (own_items x.local) ++ O.call op ∷ []) × Allowed O (log_at place (place op) x.local ++ (shared_ops M ++ op ∷ []))
      app_asks m =
          let k = there_of (tx t c1.opened) _ x1 l1 m in (
            k.0,
            subst (λ (w : List (Item Op)). Begins x.body (calls O w ++ O.call op ∷ [])) (own_more x.local M) k.1.0,
            part_from_whole O place part (place op) (local_ops x.local) (shared_ops M ++ op ∷ []) at_op (subst (λ (w : List Op). Allowed O w) ops_all k.1.1.0),
          )

      -- after the APP
      abbrev pub c2 : Config Op
      c2 = record c { ids = id ∷ c.ids; opened = on_log t (λ l. K ++ as_applied t id op ∷ []) c.opened }

      -- the transaction after it
      abbrev pub x2 : Tx Op
      x2 = relog (λ l. K ++ as_applied t id op ∷ []) x

      -- The APP leads there.
      pub to2 : then c1 (App t id op) ≡ c2
      to2 = ap (λ (w : List (Tx Op)). record c { ids = id ∷ c.ids; opened = w }) (on_log-fuse t (λ l. l ++ as_applied t id op ∷ []) (λ l. K) c.opened)

      module _ (m : Meets O c1 (App t id op)) where
        s2 : Sound O c2
        s2 = subst (λ (w : Config Op). Sound O w) to2 (step_keeps O c1 (App t id op) s1 m)

        -- The transaction is found then.
        pub l2 : tx t c2.opened ≡ Some x2
        l2 = tx_on t (λ l. K ++ as_applied t id op ∷ []) c.opened x lookup

        i2 : In x2 c2.opened
        i2 = (found_tx t c2.opened x2 l2).0

        -- The entry of the operation is found.
        pub found : at_mark id Unpushed (K ++ as_applied t id op ∷ []) ≡ Some (as_applied t id op)
        found = mark_is (K ++ as_applied t id op ∷ []) (s2.local_ids x2 i2) id Unpushed (as_applied t id op) (in_right (as_applied t id op) K (as_applied t id op ∷ []) (inl refl)) refl refl

        -- An unpushed entry was in L before the pulls.
        pub own_of_K : (a : LocalEntry Op) → In a K → a.mark ≡ Unpushed → In a x.local
        own_of_K a i n = elim (in_cases a x.local (map as_pulled M) i) [
          | inl j ↦ j
          | inr j ↦ let k = from_map as_pulled a M j in absurd (let z : Pulled ≡ Unpushed = ap (λ (w : LocalEntry Op). w.mark) (sym k.2) ∙ n in cc)
        ]

        push_holds : LocalPush O place c op x → Meets O c2 (Push t id)
        push_holds g = there_is (tx t c2.opened) _ x2 l2 (there_is (at_mark id Unpushed (K ++ as_applied t id op ∷ [])) _ (as_applied t id op) found (
          (λ a i n.
              let j : In a x.local = own_of_K a (elim (before_added K (as_applied t id op) a (as_applied t id op) i) [ inl k ↦ before_in_first a (as_applied t id op) K k | inr k ↦ k.0 ]) n in
              elim (same_or_not (place a.op) (place op)) [
                | inl p ↦ g.turns a (j, ap is_own n, p) n
                | inr p ↦ (swap_apart O place part).apart op a.op (λ z. p (sym z))
              ]),
          (
            (λ u i n k. elim (same_or_not (place u.op) (place op)) [
              | inl p ↦ g.passes u i n (λ z. k (z ∙ nx)) p
              | inr p ↦ (swap_apart O place part).apart u.op op p
            ]),
            (g.allowed, refl),
          ),
        ))

        push_good : Meets O c2 (Push t id) → LocalPush O place c op x
        push_good h =
            let k = there_of (at_mark id Unpushed (K ++ as_applied t id op ∷ [])) _ (as_applied t id op) found (there_of (tx t c2.opened) _ x2 l2 h) in
            record {
              turns = λ a i n. k.0 a (before_across a (as_applied t id op) K (as_applied t id op ∷ []) (in_left a x.local (map as_pulled M) i.0) (inl refl)) n;
              passes = λ u i n w p. k.1.0 u i n (λ z. w (z ∙ sym nx));
              allowed = k.1.1.0;
            }

        -- The id is new in the log.
        pub fresh : (a : LocalEntry Op) → In a K → a.id ≢ id
        fresh a i = s2.local_ids x2 i2 a (as_applied t id op) (before_across a (as_applied t id op) K (as_applied t id op ∷ []) i (inl refl))

        marked : set_mark id Pushed (K ++ as_applied t id op ∷ []) ≡ K ++ record { id = id; owner = t; mark = Pushed; op = op } ∷ []
        marked = map-append (mark_at id Pushed) K (as_applied t id op ∷ [])
            ∙ ap (λ (w : List (LocalEntry Op)). w ++ mark_at id Pushed (as_applied t id op) ∷ []) (marked_other id Pushed K fresh)
            ∙ ap (λ (z : Bool). K ++ cond z (remark Pushed (as_applied t id op)) (as_applied t id op) ∷ []) (eq-eqb id id refl)

        push_leads : then c2 (Push t id) ≡ record c {
          ids = id ∷ c.ids;
          opened = on_log t (λ l. K ++ record { id = id; owner = t; mark = Pushed; op = op } ∷ []) c.opened;
          shared = c.shared ++ record { id = id; owner = t; committed = false; op = op } ∷ [];
        }
        push_leads =
            ap (λ (w : Option (Tx Op)). push_effect c2 t id (entry_of id Unpushed w)) l2 ∙ ap (λ (w : Option (LocalEntry Op)). push_effect c2 t id w) found
            ∙ ap (λ (w : List (Tx Op)). record c { ids = id ∷ c.ids; opened = w; shared = c.shared ++ record { id = id; owner = t; committed = false; op = op } ∷ [] })
            (on_log-fuse t (set_mark id Pushed) (λ l. K ++ as_applied t id op ∷ []) c.opened ∙ ap (λ (w : List (LocalEntry Op)). on_log t (λ l. w) c.opened) marked)

    -- The configuration after the operation.
    abbrev pub over_operated : Config Op
    over_operated = record c {
      ids = id ∷ c.ids;
      opened = on_log t (λ l. K ++ new_entry mode t id op ∷ []) c.opened;
      shared = c.shared ++ new_shared mode t id op;
    }

    -- the steps of an operation that pulls M first
    abbrev pub over_steps : List (Step Op)
    over_steps = pulls O t M ++ App t id op ∷ tail mode t id

    tail_runs : (r : RunsFrom O c (pulls O t M)) (m : Meets O c1 (App t id op)) (k : Option ℕ) → AtOnce k (LocalPush O place c op x) → RunsFrom O (c2 r) (tail k t id)
    tail_runs r m None g = (push_holds r m g, tt)
    tail_runs r m (Some n) g = tt

    tail_good : (r : RunsFrom O c (pulls O t M)) (m : Meets O c1 (App t id op)) (k : Option ℕ) → RunsFrom O (c2 r) (tail k t id) → AtOnce k (LocalPush O place c op x)
    tail_good r m None h = push_good r m h.0
    tail_good r m (Some n) h = tt

    tail_leads : (r : RunsFrom O c (pulls O t M)) (m : Meets O c1 (App t id op)) (k : Option ℕ) → after_from (c2 r) (tail k t id) ≡ record c {
      ids = id ∷ c.ids;
      opened = on_log t (λ l. K ++ new_entry k t id op ∷ []) c.opened;
      shared = c.shared ++ new_shared k t id op;
    }
    tail_leads r m None = push_leads r m
    tail_leads r m (Some n) = ap (λ (w : List (SharedEntry Op)). record c { ids = id ∷ c.ids; opened = on_log t (λ l. K ++ as_applied t id op ∷ []) c.opened; shared = w }) (sym (append-nil c.shared))

    -- They meet their criteria if the operation is good.
    pub over_runs : LocalOpAfter O place mode M c id op x → RunsFrom O c over_steps
    over_runs g =
        let r = pull_runs g in
        let m = app_holds r g in
        runs_append O c (pulls O t M) (App t id op ∷ tail mode t id) r
        (subst (λ (w : Config Op). RunsFrom O w (App t id op ∷ tail mode t id)) (sym (pull_leads r)) (m, subst (λ (w : Config Op). RunsFrom O w (tail mode t id)) (sym (to2 r)) (tail_runs r m mode g.pushed)))

    module _ (h : RunsFrom O c over_steps) where
      r0 : RunsFrom O c (pulls O t M)
      r0 = runs_front O c (pulls O t M) (App t id op ∷ tail mode t id) h

      rest : RunsFrom O c1 (App t id op ∷ tail mode t id)
      rest = subst (λ (w : Config Op). RunsFrom O w (App t id op ∷ tail mode t id)) (pull_leads r0) (runs_back O c (pulls O t M) (App t id op ∷ tail mode t id) h)

      -- The operation is good if they meet their criteria.
      pub over_good : LocalOpAfter O place mode M c id op x
      over_good =
          let a = app_asks r0 rest.0 in
          let k = ((pulled O t M c x op_pulling).1 r0).0 in
          record {
            new = a.0;
            begins = a.1;
            swaps = λ e g i j. k.swaps e g i.0 i.1 j;
            allowed = a.2;
            pushed = tail_good r0 rest.0 mode (subst (λ (w : Config Op). RunsFrom O w (tail mode t id)) (to2 r0) rest.1);
          }

      -- They lead there.
      pub over_leads : after_from c over_steps ≡ over_operated
      over_leads = after_append c (pulls O t M) (App t id op ∷ tail mode t id)
          ∙ ap (λ (w : Config Op). after_from w (App t id op ∷ tail mode t id)) (pull_leads r0)
          ∙ ap (λ (w : Config Op). after_from w (tail mode t id)) (to2 r0)
          ∙ tail_leads r0 rest.0 mode

  -- the entries that are pulled before an operation
  in_missing : (mode : Option ℕ) (o : ℕ) (g : SharedEntry Op) → In g (pulled_before place mode o c.shared x.local) → In g (missing_at place o c.shared x.local)
  in_missing None o g i = i
  in_missing (Some m) o g i = two (touches place o (drop m x.local)) i
    where
      two : (b : Bool) → In g (cond b [] (missing_at place o c.shared x.local)) → In g (missing_at place o c.shared x.local)
      two true i = absurd i
      two false i = i

  -- The entries that an operation pulls first are on its object.
  pub at_before : (mode : Option ℕ) (o : ℕ) (g : SharedEntry Op) → In g (pulled_before place mode o c.shared x.local) → place g.op ≡ o
  at_before mode o g i = (from_missing place o c.shared x.local g (in_missing mode o g i)).2

  -- The entries that an operation pulls first may be pulled.
  pub op_pulling : (mode : Option ℕ) (o : ℕ) → Pulling O t c x (pulled_before place mode o c.shared x.local)
  op_pulling None o = pulling o
  op_pulling (Some m) o = two (touches place o (drop m x.local))
    where
      two : (b : Bool) → Pulling O t c x (cond b [] (missing_at place o c.shared x.local))
      two true = record { sound = s; lookup = lookup; stand = λ g i. absurd i; other = λ g i. absurd i; distinct = λ g h i. absurd i; out = λ g i. absurd i }
      two false = pulling o

  -- operation
  module _ (mode : Option ℕ) (id : ℕ) (op : Op) where
    -- the entries that the operation pulls first
    abbrev pub M : List (SharedEntry Op)
    M = pulled_before place mode (place op) c.shared x.local

    -- the steps of the operation
    abbrev pub steps : List (Step Op)
    steps = over_steps mode id op M (op_pulling mode (place op)) (at_before mode (place op))

    -- The steps of a good operation meet their criteria.
    pub op_runs : LocalOp O place mode c id op x → RunsFrom O c steps
    op_runs = over_runs mode id op M (op_pulling mode (place op)) (at_before mode (place op))

    -- If the steps of an operation meet their criteria, it is good.
    pub op_good : RunsFrom O c steps → LocalOp O place mode c id op x
    op_good = over_good mode id op M (op_pulling mode (place op)) (at_before mode (place op))

    -- The configuration after the steps of an operation.
    pub op_leads : RunsFrom O c steps → after_from c steps ≡ record c {
      ids = id ∷ c.ids;
      opened = on_log t (λ l. (x.local ++ map as_pulled M) ++ new_entry mode t id op ∷ []) c.opened;
      shared = c.shared ++ new_shared mode t id op;
    }
    op_leads = over_leads mode id op M (op_pulling mode (place op)) (at_before mode (place op))

  -- the steps of a style
  pub style_steps : (style : Style) → HasSummary style → (f : Front) (id : ℕ) (op : Op) → op_steps place style f c.shared x.local t id op ≡ steps (push_mode style f t (place op)) id op
  style_steps Rules h f id op = absurd h
  style_steps Boosted h f id op = refl
  style_steps Optimistic h f id op = ap (λ (w : List (Step Op)). w ++ App t id op ∷ []) (sym (map_cond (λ (g : SharedEntry Op). Pull t g.id) (touches place (place op) x.local) (missing_at place (place op) c.shared x.local)))
  style_steps Hardware h f id op = by (is_mem f (place op)) (f.section t)
    where
      by : (b : Bool) (n : Option ℕ) → hardware_op place b n c.shared x.local t id op ≡ steps (cond b n None) id op
      by true None = refl
      by true (Some m) = ap (λ (w : List (Step Op)). w ++ App t id op ∷ []) (sym (map_cond (λ (g : SharedEntry Op). Pull t g.id) (touches place (place op) (drop m x.local)) (missing_at place (place op) c.shared x.local)))
      by false n = refl
  style_steps Dependent h f id op = absurd h

  -- pushall
  pushing : Pushing O t c x [] x.local
  pushing = record { sound = s; lookup = lookup; log = refl; pushed = λ a i. absurd i }

  pushes_asks : LocalPushes O place c x → PushAsks O t c (unpushed x.local)
  pushes_asks g =
      record {
        passes = λ e u i j n k. elim (same_or_not (place u.op) (place e.op)) [
          | inl p ↦ g.passes e u i j n (λ z. k (z ∙ nx)) p
          | inr p ↦ (swap_apart O place part).apart u.op e.op p
        ];
        allowed = g.allowed;
      }

  -- The pushes meet their criteria if their conditions are true.
  pub pushes_run : LocalPushes O place c x → RunsFrom O c (pushall t x.local)
  pushes_run g = (pushed_all O t x.local [] c x pushing).0 (pushes_asks g)

  -- If the pushes meet their criteria, their conditions are true.
  pub pushes_good : RunsFrom O c (pushall t x.local) → LocalPushes O place c x
  pushes_good r =
      let a = ((pushed_all O t x.local [] c x pushing).1 r).0 in
      record { passes = λ e u i j n k p. a.passes e u i j n (λ z. k (z ∙ sym nx)); allowed = a.allowed }

  -- The configuration after the pushes.
  pub pushes_lead : RunsFrom O c (pushall t x.local) → after_from c (pushall t x.local) ≡ led O t c (map as_pushed x.local) (posted t (unpushed x.local))
  pushes_lead r = ((pushed_all O t x.local [] c x pushing).1 r).1
